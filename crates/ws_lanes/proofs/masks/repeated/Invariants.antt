use Rattle.std.proofs.Common.{◌≡◌, length}
use Rattle.ws_lanes.proofs.Repeats.{Repeats}
use Rattle.ws_lanes.proofs.masks.repeated.Given as goal

abbrev pub invariant-first : goal.invariant-first
invariant-first l = record {
  repeats : Repeats l.key l.wide l.place;
  long : length l.wide ≡ 96;
}

abbrev pub invariant-again : goal.invariant-again
invariant-again l = record {
  repeats : Repeats l.key l.wide l.place;
  long : length l.wide ≡ 96;
}
