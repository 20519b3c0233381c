use Rattle.std.specs.Prelude.{◌≡◌, List, [], ◌∷◌, ◌++◌, length}
use Rattle.std.specs.Vec.Iter.{into_iter_items}
use Rattle.std.proofs.Common.{arith, sym, subst, ap, ◌∙◌, append_assoc, length-append}
use Rattle.ws_node.specs.declared.node.Node.{Node}
use Rattle.ws_node.specs.Nodes.{Each}
use Rattle.ws_node.proofs.Joining.{none-left}
use Rattle.ws_runner.specs.Place.{IsPlaceOf, Yields}
use Rattle.ws_runner.specs.declared.place.Place.{Place}
use Rattle.ws_runner.proofs.Places.{come-back, each-length, each-snoc}
use Rattle.ws_runner.proofs.worker.join_all.Goals as goal

pub loop-place-preserved : goal.loop-place-preserved
loop-place-preserved g c =
    let was = c.loop-place.invariant in
    let step = c.in-Some.ensures.steps.0 in (
      was.0 ++ c.in-Some.place ∷ [],
      was.1 ∙ ap (λ (ps : List Place). was.0 ++ ps) step ∙ sym (append_assoc was.0 (c.in-Some.place ∷ []) _),
      subst (λ (ns : List Node). Each Yields (was.0 ++ c.in-Some.place ∷ []) ns) (sym c.push_reserved.ensures.items) (each-snoc Yields was.0 _ _ _ was.2 c.join.ensures),
      rw (c.push_reserved.ensures.capacity) was.3,
    )

pub push_reserved-requires : goal.push_reserved-requires
push_reserved-requires g c =
    let was = c.loop-place.invariant in
    let step = c.in-Some.ensures.steps.0 in
    let whole = ap (λ (ps : List Place). length ps) (was.1 ∙ ap (λ (ps : List Place). was.0 ++ ps) step) in
    omega (arith, whole, length-append was.0 (c.in-Some.place ∷ into_iter_items c.next.new.self), each-length Yields was.0 _ was.2, was.3)

pub returns : goal.returns
returns g c =
    λ xs h. let was = c.loop-place.invariant in
    let began = c.into_iter-place-iterator.ensures.into_iter_gives in
    let all : c.args.places.items ≡ was.0 = sym began.0 ∙ none-left _ was.0 _ was.1 (sym c.loop-place.place-iterator.rest.ok.0 ∙ c.in-None.ensures.steps.0) in
    come-back xs was.0 _ (subst (λ (ps : List Place). Each IsPlaceOf xs ps) all h) was.2
