use Rattle.std.proofs.Common.{◌≡◌, ◌∙◌, ◌+◌, ◌-◌, [], ◌∷◌, refl, sym, ap, subst, arith}
use Rattle.ws_steps.specs.Begun.{Begun}
use Rattle.ws_steps.specs.Calls.{begin, named}
use Rattle.ws_steps.specs.declared.calls.Reply.{Reply}
use Rattle.ws_steps.specs.Run.{older}
use Rattle.ws_steps.specs.Slots.{Slots}
use Rattle.ws_steps.specs.Turns.{performed}
use Rattle.ws_steps.specs.declared.calls.Call.TheVariants.{Enqueue}
use Rattle.ws_steps.specs.declared.effects.Effect.TheVariants.{Transform}
use Rattle.ws_steps.specs.declared.transform.TransformOperation.TheVariants.{Enqueue as EnqueueHalf}
use Rattle.ws_laws.proofs.Ages.{begin-age, performed-age}
use Rattle.ws_tables.specs.View.{slots_of}
use Rattle.ws_calls.specs.Credit.{HasPlacesFor}
use Rattle.ws_calls.specs.First.{Fits}
use Rattle.ws_calls.proofs.AtOnce.{begun-at, left-at, ready-one}
use Rattle.ws_calls.proofs.Credit.{aged, modest-enqueue}
use Rattle.ws_calls.proofs.Saved.{call-fits-by, call-saved}
use Rattle.ws_calls.proofs.at_hand.enqueue_at_hand.Goals as goal

pub enqueue-requires : goal.enqueue-requires
enqueue-requires c =
    let t = c.args.tables.now in
    let e = Transform c.in-Some.t (EnqueueHalf c.args.chunk) in
    let one : c.args.places ≡ c.args.places - 1 + 1 = omega arith in
    ready-one e t
    (call-fits-by (c.args.places - 1) (Enqueue c.args.i c.args.chunk) e t (modest-enqueue c.in-Some.t c.args.chunk) c.requires.resting (c.in-Some.ensures c.args.chunk)
    (c.is_at_hand.ensures c.if-not-is_at_hand.false) (subst (λ k. HasPlacesFor k t) one (c.requires.found (omega arith))))
    c.requires.resting.caused

pub finish-left-requires : goal.finish-left-requires
finish-left-requires c =
    let t = c.args.tables.now in
    let e = Transform c.in-Some.t (EnqueueHalf c.args.chunk) in
    let one : c.args.places ≡ c.args.places - 1 + 1 = omega arith in
    record {
      begun =
          begun-at e t c.enqueue.new.tables
          (call-fits-by (c.args.places - 1) (Enqueue c.args.i c.args.chunk) e t (modest-enqueue c.in-Some.t c.args.chunk) c.requires.resting (c.in-Some.ensures c.args.chunk)
          (c.is_at_hand.ensures c.if-not-is_at_hand.false) (subst (λ k. HasPlacesFor k t) one (c.requires.found (omega arith))))
          c.requires.resting.others c.enqueue.ensures;
      some = omega arith;
    }

-- what is performed is all that the call does
left : (c : goal.After-finish-left) → slots_of c.finish-left.new.tables ≡ performed (begin (Enqueue c.args.i c.args.chunk) (slots_of c.args.tables.now)).done
left c =
    c.finish-left.ensures.all.slots
    ∙ (left-at (Transform c.in-Some.t (EnqueueHalf c.args.chunk)) c.args.tables.now c.enqueue.new.tables c.enqueue.ensures
    ∙ ap (λ (b : Begun). performed b.done) (sym (c.in-Some.ensures c.args.chunk)))

pub overflow_add-tables : goal.overflow_add-tables
overflow_add-tables c =
    let same = ap (λ (s : Slots). s.age) (left c) ∙ (performed-age (begin (Enqueue c.args.i c.args.chunk) (slots_of c.args.tables.now)).done ∙ begin-age (Enqueue c.args.i c.args.chunk) _) in
    omega (arith, same, c.requires.young)

pub returns-clause-done : goal.returns-clause-done
returns-clause-done c = ap (λ (b : Begun). b.reply) (c.in-Some.ensures c.args.chunk)

pub returns-clause-slots : goal.returns-clause-slots
returns-clause-slots c =
    ap older (left c.before)
    ∙ ap (λ (r : Reply). older (named r (performed (begin (Enqueue c.args.i c.args.chunk) (slots_of c.args.tables.now)).done))) (sym (ap (λ (b : Begun). b.reply) (c.in-Some.ensures c.args.chunk)))

pub returns-clause-age : goal.returns-clause-age
returns-clause-age c =
    let same = ap (λ (s : Slots). s.age) (left c.before) ∙ (performed-age (begin (Enqueue c.args.i c.args.chunk) (slots_of c.args.tables.now)).done ∙ begin-age (Enqueue c.args.i c.args.chunk) _) in
    omega (arith, same)

pub returns-clause-found : goal.returns-clause-found
returns-clause-found c = λ some.
    aged c.finish-left.result (c.finish-left.new.tables.age + 1) c.finish-left.new.tables
    (c.finish-left.ensures.found
    (λ quiet n one.
    call-saved n (Enqueue c.args.i c.args.chunk) (Transform c.in-Some.t (EnqueueHalf c.args.chunk)) c.args.tables.now c.enqueue.new.tables (modest-enqueue c.in-Some.t c.args.chunk) c.requires.resting
    (c.in-Some.ensures c.args.chunk) (c.is_at_hand.ensures c.if-not-is_at_hand.false)
    (subst (λ k. HasPlacesFor k c.args.tables.now) (omega (arith, one)) (c.requires.found (omega arith)))
    c.enqueue.ensures quiet)
    some)
