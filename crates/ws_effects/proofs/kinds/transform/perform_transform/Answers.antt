use Rattle.std.proofs.Common.{◌≡◌, ◌∙◌, Some, List, refl, sym, ap, subst, arith}
use Rattle.std.specs.Prelude.{slice_get}
use Rattle.ws_transform.specs.Seen.{acts_of}
use Rattle.ws_steps.specs.declared.effects.Effect.{Effect}
use Rattle.ws_steps.specs.declared.effects.Effect.TheVariants.{Transform}
use Rattle.ws_steps.specs.declared.transform.Halves.{Halves}
use Rattle.ws_steps.specs.Operations.{transform_operation}
use Rattle.ws_steps.specs.Slots.{Slots, Done, halves_at, put_transform}
use Rattle.ws_steps.specs.Transform as transform
use Rattle.ws_steps.specs.Turns.{row}
use Rattle.ws_tables.specs.View.{slots_of}
use Rattle.ws_performing.proofs.Records.{transform-absent, transform-row, TransformTook, transform-took}
use Rattle.ws_tables.proofs.Elements.{stands-at}
use Rattle.ws_effects.proofs.kinds.transform.perform_transform.Goals as goal

pub returns-then-len-t-clause-performs : goal.returns-then-len-t-clause-performs
returns-then-len-t-clause-performs c = transform-absent c.args.t c.args.operation.now c.args.tables.now (omega (arith, c.args.tables.now.transforms.ok.0)) c.requires.quiet

at : (c : goal.After-tables-1) → slice_get c.args.tables.now.transforms.items c.args.t.0 ≡ Some c.index_mut.result.now
at c = stands-at c.args.tables.now.transforms.items c.args.t.0 c.index_mut.result.now c.index_mut.result.now (omega arith) c.index_mut.ensures.value

-- what the operation leaves and causes
left : (c : goal.After-tables-1) → row (Transform c.args.t c.args.operation.now) (slots_of c.args.tables.now) ≡ put_transform c.args.t (slots_of c.args.tables.now) (acts_of c.perform_without_halves.new.self c.perform_without_halves.new.p c.perform_without_halves.new.fx)
left c =
    let s : Slots = slots_of c.args.tables.now in
    let x : transform.Slots = c.index_mut.result.now in
    transform-row c.args.t c.args.operation.now s x (acts_of c.perform_without_halves.new.self c.perform_without_halves.new.p c.perform_without_halves.new.fx) (at c)
    (c.perform_without_halves.ensures.row (halves_at x s)
    ∙ ap (λ (es : List Effect). transform_operation c.args.t (halves_at x s) c.args.operation.now (record { slots = x; out = record { promises = s.promises; effects = es } })) c.requires.quiet)

took : (c : goal.After-tables-1) → TransformTook c.args.operation.now c.perform_without_halves.new.fx.effects
took c =
    let halves : Halves = halves_at c.index_mut.result.now (slots_of c.args.tables.now) in
    subst (λ (a : transform.Acts). TransformTook c.args.operation.now a.out.effects) (sym (c.perform_without_halves.ensures.row halves))
    (transform-took c.args.t halves c.args.operation.now (acts_of c.index_mut.result.now c.args.tables.now.promises c.args.tables.now.caused) c.requires.quiet)

pub returns-clause-performs : goal.returns-clause-performs
returns-clause-performs c =
    let t = took c in
    record {
      slots = ap (λ (d : Done). d.slots) (sym (left c));
      caused = ap (λ (d : Done). d.caused) (sym (left c));
      others = refl;
      places = rw (c.perform_without_halves.ensures.promise_room, c.perform_without_halves.ensures.effect_room) refl;
      lists = refl;
      rooms = λ none n h. h;
      grown = let q = t.queued in let r = t.requested in omega (arith, q, r);
      members = refl;
      full = let m = t.members in omega (arith, m);
    }
