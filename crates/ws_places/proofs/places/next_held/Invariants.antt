use Rattle.std.proofs.Common.{◌≡◌, ◌<◌, ◌≤◌, ◌-◌, ℕ, Some, None, vec_len}
use Rattle.std.specs.Prelude.{slice_get}
use Rattle.ws_places.specs.declared.places.Pair.{Pair}
use Rattle.ws_places.proofs.places.next_held.Given as goal

-- those looked at have no place
abbrev pub invariant-loop-i : goal.invariant-loop-i
invariant-loop-i l = record {
  from : l.start ≤ l.i;
  looked : (j : ℕ) (q : Pair) → slice_get l.pairs.items j ≡ Some q → l.start ≤ j → j < l.i → q.place ≡ None;
}

abbrev pub decreases-loop-i : goal.decreases-loop-i
decreases-loop-i l = vec_len l.pairs - l.i
