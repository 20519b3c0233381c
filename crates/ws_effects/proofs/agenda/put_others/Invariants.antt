use Rattle.std.proofs.Common.{◌≡◌, ◌≤◌, ◌<◌, ◌+◌, ◌++◌, reverse}
use Rattle.std.specs.Prelude.{vec_len, vec_capacity}
use Rattle.ws_effects.proofs.agenda.put_others.Given as goal

abbrev pub invariant-loop-effects : goal.invariant-loop-effects
invariant-loop-effects l = record {
  some : 0 < vec_len l.effects;
  room : vec_len l.others + vec_len l.effects ≤ vec_capacity l.others;
  order : l.effects.items ++ reverse l.others.items ≡ l.fn.effects.items ++ reverse l.fn.others.items;
  places : vec_capacity l.effects ≡ vec_capacity l.fn.effects;
  others : vec_capacity l.others ≡ vec_capacity l.fn.others;
}

abbrev pub decreases-loop-effects : goal.decreases-loop-effects
decreases-loop-effects l = vec_len l.effects
