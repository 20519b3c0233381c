use Rattle.std.proofs.Common.{◌≡◌, vec_capacity}
use Rattle.std.proofs.lemmas.List.Filters.{FiltersInPlace}
use Rattle.ws_places.proofs.OrderLemmas.{is_held}
use Rattle.ws_places.proofs.places.drop_dead.Given as goal

-- those that have a place, of the pairs looked at, stand in front
abbrev pub invariant-loop-i : goal.invariant-loop-i
invariant-loop-i l = record {
  front : FiltersInPlace is_held l.initial.pairs.items l.pairs.items l.kept l.i;
  capacity : vec_capacity l.pairs ≡ vec_capacity l.initial.pairs;
}
