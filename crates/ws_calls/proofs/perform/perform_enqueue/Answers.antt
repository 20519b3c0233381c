use Rattle.std.proofs.Common.{◌≡◌, ◌∙◌, ◌+◌, refl, sym, ap, arith}
use Rattle.ws_steps.specs.Begun.{Begun}
use Rattle.ws_steps.specs.Calls.{begin, named}
use Rattle.ws_steps.specs.declared.calls.Reply.{Reply}
use Rattle.ws_steps.specs.Run.{older}
use Rattle.ws_steps.specs.Slots.{Slots}
use Rattle.ws_steps.specs.Turns.{performed}
use Rattle.ws_steps.specs.declared.calls.Call.TheVariants.{Enqueue}
use Rattle.ws_steps.specs.declared.effects.Effect.TheVariants.{Transform}
use Rattle.ws_steps.specs.declared.transform.TransformOperation.TheVariants.{Enqueue as EnqueueHalf}
use Rattle.ws_laws.proofs.Ages.{begin-age, performed-age}
use Rattle.ws_tables.specs.View.{slots_of}
use Rattle.ws_calls.proofs.AtOnce.{begun-at, call-fits, call-ready, left-at}
use Rattle.ws_calls.proofs.perform.perform_enqueue.Goals as goal

pub enqueue-requires : goal.enqueue-requires
enqueue-requires c =
    call-ready (Enqueue c.args.i c.args.chunk) (Transform c.in-Some.t (EnqueueHalf c.args.chunk)) c.args.tables.now c.requires.ready c.requires.resting (c.in-Some.ensures c.args.chunk)

pub perform_caused-requires : goal.perform_caused-requires
perform_caused-requires c =
    begun-at (Transform c.in-Some.t (EnqueueHalf c.args.chunk)) c.args.tables.now c.enqueue.new.tables
    (call-fits (Enqueue c.args.i c.args.chunk) (Transform c.in-Some.t (EnqueueHalf c.args.chunk)) c.args.tables.now c.requires.ready c.requires.resting (c.in-Some.ensures c.args.chunk))
    c.requires.resting.others c.enqueue.ensures

-- what is performed is all that the call does
left : (c : goal.After-perform_caused) → slots_of c.perform_caused.new.tables ≡ performed (begin (Enqueue c.args.i c.args.chunk) (slots_of c.args.tables.now)).done
left c =
    c.perform_caused.ensures.slots
    ∙ (left-at (Transform c.in-Some.t (EnqueueHalf c.args.chunk)) c.args.tables.now c.enqueue.new.tables c.enqueue.ensures
    ∙ ap (λ (b : Begun). performed b.done) (sym (c.in-Some.ensures c.args.chunk)))

pub overflow_add-tables : goal.overflow_add-tables
overflow_add-tables c =
    let same = ap (λ (s : Slots). s.age) (left c) ∙ (performed-age (begin (Enqueue c.args.i c.args.chunk) (slots_of c.args.tables.now)).done ∙ begin-age (Enqueue c.args.i c.args.chunk) _) in
    omega (arith, same, c.requires.young)

pub returns-clause-done : goal.returns-clause-done
returns-clause-done c = (λ holds. ap (λ (b : Begun). b.reply) (c.in-Some.ensures c.args.chunk), λ done. refl)

pub returns-clause-slots : goal.returns-clause-slots
returns-clause-slots c =
    ap older (left c.before)
    ∙ ap (λ (r : Reply). older (named r (performed (begin (Enqueue c.args.i c.args.chunk) (slots_of c.args.tables.now)).done))) (sym (ap (λ (b : Begun). b.reply) (c.in-Some.ensures c.args.chunk)))

pub returns-clause-age : goal.returns-clause-age
returns-clause-age c =
    ap (λ n. n + 1)
    (ap (λ (s : Slots). s.age) (left c.before)
    ∙ (performed-age (begin (Enqueue c.args.i c.args.chunk) (slots_of c.args.tables.now)).done ∙ begin-age (Enqueue c.args.i c.args.chunk) _))
