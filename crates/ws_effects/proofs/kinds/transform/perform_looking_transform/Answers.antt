use Rattle.std.proofs.Common.{◌≡◌, ◌∙◌, Some, List, refl, sym, ap, subst, arith}
use Rattle.std.specs.Prelude.{slice_get}
use Rattle.ws_transform.specs.Seen.{acts_of}
use Rattle.ws_steps.specs.declared.effects.Effect.{Effect}
use Rattle.ws_steps.specs.declared.effects.Effect.TheVariants.{Transform}
use Rattle.ws_steps.specs.declared.transform.Halves.{Halves}
use Rattle.ws_steps.specs.Operations.{transform_operation}
use Rattle.ws_steps.specs.Slots.{Slots, Done, found, halves_of, halves_at, readable_at, writable_at, put_transform}
use Rattle.ws_steps.specs.Transform as transform
use Rattle.ws_steps.specs.Turns.{row}
use Rattle.ws_tables.specs.View.{slots_of}
use Rattle.ws_performing.proofs.Records.{transform-row, TransformTook, transform-took}
use Rattle.ws_tables.proofs.Elements.{stands-at}
use Rattle.ws_effects.proofs.kinds.transform.perform_looking_transform.Goals as goal

at : (c : goal.After-tables-1) → slice_get c.args.tables.now.transforms.items c.args.t.0 ≡ Some c.index_mut.result.now
at c = stands-at c.args.tables.now.transforms.items c.args.t.0 c.index_mut.result.now c.index_mut.result.now (omega arith) c.index_mut.ensures.value

halves-are : (c : goal.After-tables-1) → c.transform_halves-halves.result ≡ halves_at c.index_mut.result.now (slots_of c.args.tables.now)
halves-are c =
    let s : Slots = slots_of c.args.tables.now in
    let there = stands-at c.args.tables.now.transforms.items c.args.t.0 c.index-transform.result.now c.index-transform.result.now (omega arith) c.index-transform.ensures in
    let is = at c in
    let same : c.index-transform.result.now ≡ c.index_mut.result.now = cc in
    c.transform_halves-halves.ensures
    ∙ (ap (λ i. halves_of (readable_at i s) (writable_at c.writable.result s)) c.readable.ensures
    ∙ (ap (λ i. halves_of (readable_at c.index-transform.result.now.readable s) (writable_at i s)) c.writable.ensures
    ∙ ap (λ (x : transform.Slots). halves_at x s) same))

-- what the operation leaves and causes
left : (c : goal.After-tables-1) → row (Transform c.args.t c.args.operation.now) (slots_of c.args.tables.now) ≡ put_transform c.args.t (slots_of c.args.tables.now) (acts_of c.perform_with_halves.new.self c.perform_with_halves.new.p c.perform_with_halves.new.fx)
left c =
    let s : Slots = slots_of c.args.tables.now in
    let x : transform.Slots = c.index_mut.result.now in
    transform-row c.args.t c.args.operation.now s x (acts_of c.perform_with_halves.new.self c.perform_with_halves.new.p c.perform_with_halves.new.fx) (at c)
    (c.perform_with_halves.ensures.row
    ∙ (ap (λ (es : List Effect). transform_operation c.args.t c.transform_halves-halves.result c.args.operation.now (record { slots = x; out = record { promises = s.promises; effects = es } })) c.requires.quiet
    ∙ ap (λ (halves : Halves). transform_operation c.args.t halves c.args.operation.now (record { slots = x; out = found s })) (halves-are c)))

took : (c : goal.After-tables-1) → TransformTook c.args.operation.now c.perform_with_halves.new.fx.effects
took c =
    subst (λ (a : transform.Acts). TransformTook c.args.operation.now a.out.effects) (sym c.perform_with_halves.ensures.row)
    (transform-took c.args.t c.transform_halves-halves.result c.args.operation.now (acts_of c.index_mut.result.now c.args.tables.now.promises c.args.tables.now.caused) c.requires.quiet)

pub returns-clause-performs : goal.returns-clause-performs
returns-clause-performs c =
    let t = took c in
    record {
      slots = ap (λ (d : Done). d.slots) (sym (left c));
      caused = ap (λ (d : Done). d.caused) (sym (left c));
      others = refl;
      places = rw (c.perform_with_halves.ensures.promise_room, c.perform_with_halves.ensures.effect_room) refl;
      lists = refl;
      rooms = λ none n h. h;
      grown = let q = t.queued in let r = t.requested in omega (arith, q, r);
      members = refl;
      full = let m = t.members in omega (arith, m);
    }
