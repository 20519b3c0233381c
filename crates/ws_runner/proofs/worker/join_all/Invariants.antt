use Rattle.std.specs.Prelude.{◌≡◌, ◌≤◌, List, ◌++◌, length, vec_items, vec_capacity}
use Rattle.std.specs.Vec.Iter.{into_iter_items}
use Rattle.ws_node.specs.Nodes.{Each}
use Rattle.ws_runner.specs.Place.{Yields}
use Rattle.ws_runner.specs.declared.place.Place.{Place}
use Rattle.ws_runner.proofs.worker.join_all.Given as goal

abbrev pub invariant-loop-place : goal.invariant-loop-place
invariant-loop-place g l =
    let first = into_iter_items l.initial.place-iterator in
    (gone : List Place) × (first ≡ gone ++ into_iter_items l.place-iterator) × Each Yields gone (vec_items l.nodes) × (length first ≤ vec_capacity l.nodes)
