use Rattle.std.specs.Prelude.{◌≡◌, ◌≤◌, List, ◌++◌, length, vec_items, vec_capacity}
use Rattle.std.specs.Vec.Iter.{into_iter_items}
use Rattle.ws_node.specs.declared.node.Node.{Node}
use Rattle.ws_runner.specs.Place.{ArePlacesOf}
use Rattle.ws_runner.proofs.worker.start_all.Given as goal

abbrev pub invariant-loop-node : goal.invariant-loop-node
invariant-loop-node g l =
    let first = into_iter_items l.initial.node-iterator in
    (done : List Node) × (first ≡ done ++ into_iter_items l.node-iterator) × ArePlacesOf done (vec_items l.places) × (length first ≤ vec_capacity l.places)
    × (length (into_iter_items l.workers) ≡ length (into_iter_items l.node-iterator))
