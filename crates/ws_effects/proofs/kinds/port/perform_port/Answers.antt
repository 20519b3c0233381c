use Rattle.std.proofs.Common.{◌≡◌, ◌∙◌, Bool, Some, List, refl, sym, ap, subst, arith}
use Rattle.std.specs.Prelude.{slice_get}
use Rattle.ws_cross.specs.Seen.{acts_of}
use Rattle.ws_steps.specs.declared.effects.Effect.{Effect}
use Rattle.ws_steps.specs.declared.effects.Effect.TheVariants.{Port}
use Rattle.ws_steps.specs.Cross as cross
use Rattle.ws_steps.specs.Operations.{port_operation}
use Rattle.ws_steps.specs.Queues.{first_value}
use Rattle.ws_steps.specs.Slots.{Slots, Done, found, clones_at, writable_at, put_port}
use Rattle.ws_steps.specs.Turns.{row}
use Rattle.ws_tables.specs.View.{slots_of}
use Rattle.ws_performing.proofs.Records.{port-absent, port-row, PortTook, port-took}
use Rattle.ws_tables.proofs.Elements.{stands-at}
use Rattle.ws_effects.proofs.kinds.port.perform_port.Goals as goal

pub returns-then-len-c-clause-performs : goal.returns-then-len-c-clause-performs
returns-then-len-c-clause-performs c = port-absent c.args.c c.args.operation c.args.tables.now (omega (arith, c.args.tables.now.ports.ok.0)) c.requires.quiet

at : (c : goal.After-tables-1) → slice_get c.args.tables.now.ports.items c.args.c.0 ≡ Some c.index_mut.result.now
at c = stands-at c.args.tables.now.ports.items c.args.c.0 c.index_mut.result.now c.index_mut.result.now (omega arith) c.index_mut.ensures.value

clones-are : (c : goal.After-tables-1) → c.first_clones-clones.result ≡ clones_at c.index_mut.result.now (slots_of c.args.tables.now)
clones-are c =
    let s : Slots = slots_of c.args.tables.now in
    let there = stands-at c.args.tables.now.ports.items c.args.c.0 c.index.result.now c.index.result.now (omega arith) c.index.ensures in
    let is = at c in
    let same : c.index.result.now ≡ c.index_mut.result.now = cc in
    c.first_clones-clones.ensures
    ∙ (ap (λ i. cross.clones_first (first_value (writable_at i s).queue)) c.stream-stream.ensures
    ∙ ap (λ (x : cross.Slots). clones_at x s) same)

-- what the operation leaves and causes
left : (c : goal.After-tables-1) → row (Port c.args.c c.args.operation) (slots_of c.args.tables.now) ≡ put_port c.args.c (slots_of c.args.tables.now) (acts_of c.perform.new.self c.perform.new.p c.perform.new.fx)
left c =
    let s : Slots = slots_of c.args.tables.now in
    let x : cross.Slots = c.index_mut.result.now in
    port-row c.args.c c.args.operation s x (acts_of c.perform.new.self c.perform.new.p c.perform.new.fx) (at c)
    (c.perform.ensures.row
    ∙ (ap (λ (es : List Effect). port_operation c.args.c c.first_clones-clones.result c.args.operation (record { slots = x; out = record { promises = s.promises; effects = es } })) c.requires.quiet
    ∙ ap (λ (clones : Bool). port_operation c.args.c clones c.args.operation (record { slots = x; out = found s })) (clones-are c)))

took : (c : goal.After-tables-1) → PortTook c.args.operation c.perform.new.fx.effects
took c =
    subst (λ (a : cross.Acts). PortTook c.args.operation a.out.effects) (sym c.perform.ensures.row)
    (port-took c.args.c c.first_clones-clones.result c.args.operation (acts_of c.index_mut.result.now c.args.tables.now.promises c.args.tables.now.caused) c.requires.quiet)

pub returns-clause-performs : goal.returns-clause-performs
returns-clause-performs c =
    let t = took c in
    record {
      slots = ap (λ (d : Done). d.slots) (sym (left c));
      caused = ap (λ (d : Done). d.caused) (sym (left c));
      others = refl;
      places = rw (c.perform.ensures.promise_room, c.perform.ensures.effect_room) refl;
      lists = refl;
      rooms = λ none n h. h;
      grown = let q = t.queued in let r = t.requested in omega (arith, q, r);
      members = refl;
      full = let m = t.members in omega (arith, m);
    }
