use Rattle.std.specs.Prelude.{◌≡◌, List, [], ◌∷◌, ◌++◌, length}
use Rattle.std.specs.Vec.Iter.{into_iter_items}
use Rattle.std.proofs.Common.{arith, sym, subst, ap, ◌∙◌, append_assoc, length-append}
use Rattle.ws_wake.specs.declared.sleepers.Worker.{Worker}
use Rattle.ws_node.specs.declared.node.Node.{Node}
use Rattle.ws_node.specs.Nodes.{Each}
use Rattle.ws_node.proofs.Joining.{none-left}
use Rattle.ws_runner.specs.Place.{ArePlacesOf, IsPlaceOf}
use Rattle.ws_runner.specs.declared.place.Place.{Place}
use Rattle.ws_runner.proofs.Places.{each-length, each-snoc}
use Rattle.ws_runner.proofs.worker.start_all.Goals as goal

pub loop-node-preserved : goal.loop-node-preserved
loop-node-preserved g c =
    let was = c.loop-node.invariant in
    let step = c.in-Some.ensures.steps.0 in
    let nodes = ap (λ (ns : List Node). length ns) step in
    let workers = ap (λ (ws : List Worker). length ws) c.in-Some-next.ensures.items in
    let many = was.4 in (
      was.0 ++ c.in-Some.node ∷ [],
      was.1 ∙ ap (λ (ns : List Node). was.0 ++ ns) step ∙ sym (append_assoc was.0 (c.in-Some.node ∷ []) _),
      subst (λ (ps : List Place). ArePlacesOf (was.0 ++ c.in-Some.node ∷ []) ps) (sym c.push_reserved.ensures.items) (each-snoc IsPlaceOf was.0 _ _ _ was.2 c.start.ensures),
      rw (c.push_reserved.ensures.capacity) was.3,
      omega (arith, nodes, workers, many),
    )

pub push_reserved-requires : goal.push_reserved-requires
push_reserved-requires g c =
    let was = c.loop-node.invariant in
    let step = c.in-Some.ensures.steps.0 in
    let whole = ap (λ (ns : List Node). length ns) (was.1 ∙ ap (λ (ns : List Node). was.0 ++ ns) step) in
    omega (arith, whole, length-append was.0 (c.in-Some.node ∷ into_iter_items c.next.new.self), each-length IsPlaceOf was.0 _ was.2, was.3)

pub returns : goal.returns
returns g c =
    let was = c.loop-node.invariant in
    let began = c.into_iter-node-iterator.ensures.into_iter_gives in
    let all : c.args.nodes.items ≡ was.0 = sym began.0 ∙ none-left _ was.0 _ was.1 (sym c.loop-node.node-iterator.rest.ok.0 ∙ c.in-None.ensures.steps.0) in
    subst (λ (ns : List Node). Each IsPlaceOf ns c.loop-node.places.items) (sym all) was.2
