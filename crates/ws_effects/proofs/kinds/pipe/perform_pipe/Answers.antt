use Rattle.std.proofs.Common.{◌≡◌, ◌≤◌, ◌∙◌, Some, List, length, refl, sym, ap, subst, arith}
use Rattle.std.specs.Prelude.{slice_get}
use Rattle.ws_pipe.specs.Seen.{acts_of}
use Rattle.ws_steps.specs.declared.effects.Effect.{Effect}
use Rattle.ws_steps.specs.declared.effects.Effect.TheVariants.{Pipe}
use Rattle.ws_steps.specs.declared.pipes.Ends.{Ends}
use Rattle.ws_steps.specs.Operations.{pipe_operation}
use Rattle.ws_steps.specs.Pipes as pipe
use Rattle.ws_steps.specs.Slots.{Slots, Done, ends_at, put_pipe}
use Rattle.ws_steps.specs.Turns.{row}
use Rattle.ws_tables.specs.View.{slots_of}
use Rattle.ws_tables.proofs.Counts.{entries-more, counted-put}
use Rattle.ws_performing.proofs.Records.{pipe-absent, pipe-row, PipeTook, pipe-took}
use Rattle.ws_tables.proofs.Elements.{stands-at}
use Rattle.ws_effects.proofs.kinds.pipe.perform_pipe.Goals as goal

pub returns-then-len-p-clause-performs : goal.returns-then-len-p-clause-performs
returns-then-len-p-clause-performs c = pipe-absent c.args.p c.args.operation.now c.args.tables.now (omega (arith, c.args.tables.now.pipes.ok.0)) c.requires.quiet

pub perform_without_ends-requires-clause-counted : goal.perform_without_ends-requires-clause-counted
perform_without_ends-requires-clause-counted c =
    c.requires.kept.counted c.args.p.0 c.index_mut.result.now
    (stands-at c.args.tables.now.pipes.items c.args.p.0 c.index_mut.result.now c.index_mut.result.now (omega arith) c.index_mut.ensures.value)

at : (c : goal.After-tables-1) → slice_get c.args.tables.now.pipes.items c.args.p.0 ≡ Some c.index_mut.result.now
at c = stands-at c.args.tables.now.pipes.items c.args.p.0 c.index_mut.result.now c.index_mut.result.now (omega arith) c.index_mut.ensures.value

-- what the operation leaves and causes
left : (c : goal.After-tables-1) → row (Pipe c.args.p c.args.operation.now) (slots_of c.args.tables.now) ≡ put_pipe c.args.p (slots_of c.args.tables.now) (acts_of c.perform_without_ends.new.self c.perform_without_ends.new.p c.perform_without_ends.new.fx)
left c =
    let s : Slots = slots_of c.args.tables.now in
    let x : pipe.Slots = c.index_mut.result.now in
    pipe-row c.args.p c.args.operation.now s x (acts_of c.perform_without_ends.new.self c.perform_without_ends.new.p c.perform_without_ends.new.fx) (at c)
    (c.perform_without_ends.ensures.row (ends_at x s)
    ∙ ap (λ (es : List Effect). pipe_operation c.args.p (ends_at x s) c.args.operation.now (record { slots = x; out = record { promises = s.promises; effects = es } })) c.requires.quiet)

took : (c : goal.After-tables-1) → PipeTook c.args.operation.now c.perform_without_ends.new.fx.effects
took c =
    let ends : Ends = ends_at c.index_mut.result.now (slots_of c.args.tables.now) in
    subst (λ (a : pipe.Acts). PipeTook c.args.operation.now a.out.effects) (sym (c.perform_without_ends.ensures.row ends))
    (pipe-took c.args.p ends c.args.operation.now (acts_of c.index_mut.result.now c.args.tables.now.promises c.args.tables.now.caused) c.requires.quiet)

pub returns-clause-performs : goal.returns-clause-performs
returns-clause-performs c =
    let t = took c in
    record {
      slots = ap (λ (d : Done). d.slots) (sym (left c));
      caused = ap (λ (d : Done). d.caused) (sym (left c));
      others = refl;
      places = rw (c.perform_without_ends.ensures.promise_room, c.perform_without_ends.ensures.effect_room) refl;
      lists = refl;
      rooms = λ none n h. h;
      grown = let q = t.queued in let r = t.requested in omega (arith, q, r);
      members = refl;
      full = let m = t.members in omega (arith, m);
    }

pub returns-clause-kept : goal.returns-clause-kept
returns-clause-kept c =
    let old = c.args.tables.now in
    let was = c.requires.kept in
    let more = subst (λ (d : Done). length old.promises.table.entries ≤ length d.slots.promises.entries) (left c) (entries-more (Pipe c.args.p c.args.operation.now) (slots_of old)) in
    record {
      waiting = was.waiting;
      covered = was.covered;
      aborts = was.aborts;
      members = was.members;
      copied = was.copied;
      sourced = was.sourced;
      counted = counted-put (length old.promises.table.entries) (length c.perform_without_ends.new.p.table.entries) old.pipes.items c.args.p.0 c.perform_without_ends.new.self more was.counted c.perform_without_ends.ensures.counted;
      few = (was.few.0, was.few.1);
    }
