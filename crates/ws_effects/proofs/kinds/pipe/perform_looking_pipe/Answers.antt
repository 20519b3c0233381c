use Rattle.std.proofs.Common.{◌≡◌, ◌≤◌, ◌∙◌, Some, List, length, refl, sym, ap, subst, arith}
use Rattle.std.specs.Prelude.{slice_get}
use Rattle.ws_pipe.specs.Seen.{acts_of}
use Rattle.ws_steps.specs.declared.effects.Effect.{Effect}
use Rattle.ws_steps.specs.declared.effects.Effect.TheVariants.{Pipe}
use Rattle.ws_steps.specs.declared.pipes.Ends.{Ends}
use Rattle.ws_steps.specs.Operations.{pipe_operation}
use Rattle.ws_steps.specs.Pipes as pipe
use Rattle.ws_steps.specs.Slots.{Slots, Done, found, ends_of, ends_at, source_at, writable_at, put_pipe}
use Rattle.ws_steps.specs.Turns.{row}
use Rattle.ws_tables.specs.View.{slots_of}
use Rattle.ws_tables.proofs.Counts.{entries-more, counted-put}
use Rattle.ws_performing.proofs.Records.{pipe-row, PipeTook, pipe-took}
use Rattle.ws_tables.proofs.Elements.{stands-at}
use Rattle.ws_effects.proofs.kinds.pipe.perform_looking_pipe.Goals as goal

pub perform_with_ends-requires-clause-counted : goal.perform_with_ends-requires-clause-counted
perform_with_ends-requires-clause-counted c =
    c.requires.kept.counted c.args.p.0 c.index_mut.result.now
    (stands-at c.args.tables.now.pipes.items c.args.p.0 c.index_mut.result.now c.index_mut.result.now (omega arith) c.index_mut.ensures.value)

at : (c : goal.After-tables-1) → slice_get c.args.tables.now.pipes.items c.args.p.0 ≡ Some c.index_mut.result.now
at c = stands-at c.args.tables.now.pipes.items c.args.p.0 c.index_mut.result.now c.index_mut.result.now (omega arith) c.index_mut.ensures.value

ends-are : (c : goal.After-tables-1) → c.pipe_ends-ends.result ≡ ends_at c.index_mut.result.now (slots_of c.args.tables.now)
ends-are c =
    let s : Slots = slots_of c.args.tables.now in
    let there = stands-at c.args.tables.now.pipes.items c.args.p.0 c.index-pipe.result.now c.index-pipe.result.now (omega arith) c.index-pipe.ensures in
    let is = at c in
    let same : c.index-pipe.result.now ≡ c.index_mut.result.now = cc in
    c.pipe_ends-ends.ensures
    ∙ (ap (λ i. ends_of (source_at i s) (writable_at c.dest.result s)) c.source.ensures
    ∙ (ap (λ i. ends_of (source_at c.index-pipe.result.now.source s) (writable_at i s)) c.dest.ensures
    ∙ ap (λ (x : pipe.Slots). ends_at x s) same))

-- what the operation leaves and causes
left : (c : goal.After-tables-1) → row (Pipe c.args.p c.args.operation.now) (slots_of c.args.tables.now) ≡ put_pipe c.args.p (slots_of c.args.tables.now) (acts_of c.perform_with_ends.new.self c.perform_with_ends.new.p c.perform_with_ends.new.fx)
left c =
    let s : Slots = slots_of c.args.tables.now in
    let x : pipe.Slots = c.index_mut.result.now in
    pipe-row c.args.p c.args.operation.now s x (acts_of c.perform_with_ends.new.self c.perform_with_ends.new.p c.perform_with_ends.new.fx) (at c)
    (c.perform_with_ends.ensures.row
    ∙ (ap (λ (es : List Effect). pipe_operation c.args.p c.pipe_ends-ends.result c.args.operation.now (record { slots = x; out = record { promises = s.promises; effects = es } })) c.requires.quiet
    ∙ ap (λ (ends : Ends). pipe_operation c.args.p ends c.args.operation.now (record { slots = x; out = found s })) (ends-are c)))

took : (c : goal.After-tables-1) → PipeTook c.args.operation.now c.perform_with_ends.new.fx.effects
took c =
    subst (λ (a : pipe.Acts). PipeTook c.args.operation.now a.out.effects) (sym c.perform_with_ends.ensures.row)
    (pipe-took c.args.p c.pipe_ends-ends.result c.args.operation.now (acts_of c.index_mut.result.now c.args.tables.now.promises c.args.tables.now.caused) c.requires.quiet)

pub returns-clause-performs : goal.returns-clause-performs
returns-clause-performs c =
    let t = took c in
    record {
      slots = ap (λ (d : Done). d.slots) (sym (left c));
      caused = ap (λ (d : Done). d.caused) (sym (left c));
      others = refl;
      places = rw (c.perform_with_ends.ensures.promise_room, c.perform_with_ends.ensures.effect_room) refl;
      lists = refl;
      rooms = λ none n h. h;
      grown = let q = t.queued in let r = t.requested in omega (arith, q, r);
      members = refl;
      full = let m = t.members in omega (arith, m);
    }

pub returns-clause-kept : goal.returns-clause-kept
returns-clause-kept c =
    let old = c.args.tables.now in
    let was = c.requires.kept in
    let more = subst (λ (d : Done). length old.promises.table.entries ≤ length d.slots.promises.entries) (left c) (entries-more (Pipe c.args.p c.args.operation.now) (slots_of old)) in
    record {
      waiting = was.waiting;
      covered = was.covered;
      aborts = was.aborts;
      members = was.members;
      copied = was.copied;
      sourced = was.sourced;
      counted = counted-put (length old.promises.table.entries) (length c.perform_with_ends.new.p.table.entries) old.pipes.items c.args.p.0 c.perform_with_ends.new.self more was.counted c.perform_with_ends.ensures.counted;
      few = (was.few.0, was.few.1);
    }
