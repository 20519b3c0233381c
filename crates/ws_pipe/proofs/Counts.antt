-- No operation of a pipe leaves more writes unsettled than there are promises.
use Rattle.std.proofs.Common.{◌≡◌, ℕ, suc, zero, ◌+◌, ◌≤◌, Bool, true, false, if◌then◌else◌, List, [], ◌∷◌, length, Option, Some, None, Result, refl, ap, sym, subst, ◌∙◌, arith}
use Rattle.std.specs.Prelude.{slice_set}
use Rattle.ws_value.specs.declared.ids.PipeId.{PipeId}
use Rattle.ws_value.specs.declared.ids.PromiseId.{PromiseId}
use Rattle.ws_value.specs.declared.value.Plain.{Plain}
use Rattle.ws_value.specs.declared.value.Value.{Value}
use Rattle.ws_value.specs.declared.value.Plain.TheVariants.{Undefined}
use Rattle.ws_steps.specs.declared.readable.ReadableState.TheVariants.{Closed as ReadableClosed}
use Rattle.ws_steps.specs.declared.writable.WritableState.TheVariants.{Closed as WritableClosed}
use Rattle.ws_steps.specs.declared.pipes.Action.{Action}
use Rattle.ws_steps.specs.declared.pipes.Ends.{Ends}
use Rattle.ws_steps.specs.declared.pipes.Phase.{Phase}
use Rattle.ws_steps.specs.declared.pipes.PipeOperation.{PipeOperation}
use Rattle.ws_steps.specs.declared.pipes.PipeOperation.TheVariants as names
use Rattle.ws_steps.specs.Operations.{pipe_operation}
use Rattle.ws_steps.specs.Promises.{Entry, Table, entry_at, is_open, noted, settle_entry, settle, fresh, queue_micro}
use Rattle.ws_steps.specs.Pipes.{Acts, finalize, act_by_signal, act_by, act, proceed, shutdown, look, look_ready, go_on_in, go_on, keep_chunk, read_ended, write_held, write_chunk, write_ended, action_settled, part_settled, no_parts, abort}
use Rattle.ws_steps.proofs.PromiseLaws.{length-fresh}

-- settling makes no promise, and lets go of none

set-length : {X : Type 0} (xs : List X) (i : ℕ) (y : X) → length (slice_set xs i y) ≡ length xs
set-length [] i y = refl
set-length (x ∷ xs) zero y = refl
set-length (x ∷ xs) (suc i) y = ap suc (set-length xs i y)

noted-entries : (p : PromiseId) (t : Table) (rank : Option ℕ) → (noted p t rank).entries ≡ t.entries
noted-entries p t None = refl
noted-entries p t (Some rank) = refl

entry-length : (p : PromiseId) (outcome : Result Plain Plain) (t : Table) (e : Option Entry) → length (settle_entry p outcome t e).entries ≡ length t.entries
entry-length p outcome t None = refl
entry-length p outcome t (Some e) = ap length (noted-entries p _ e.rank) ∙ set-length t.entries p.0 _

test-length : (test : Bool) (t u v : Table) → length u.entries ≡ length t.entries → length v.entries ≡ length t.entries → length (if test then u else v).entries ≡ length t.entries
test-length true t u v a b = a
test-length false t u v a b = b

settle-length : (p : PromiseId) (outcome : Result Plain Plain) (t : Table) → length (settle p outcome t).entries ≡ length t.entries
unfolding settle
settle-length p outcome t = test-length (is_open p t) t _ _ (entry-length p outcome t (entry_at t p)) refl

-- a new promise is one more
pub fresh_length : (t : Table) → length (fresh t).entries ≡ length t.entries + 1
fresh_length t = length-fresh t

-- what goes on with the unsettled writes and the promises

-- some ends, for an operation that looks at none
abbrev pub some_ends : Ends
some_ends =
    record {
      source_state = ReadableClosed;
      source_error = Undefined;
      dest_state = WritableClosed;
      dest_error = Undefined;
      dest_closing = false;
      dest_wants = false;
      dest_ready = None;
      dest_abort = None;
    }

abbrev Counted : Acts → Type 0
Counted a = a.slots.unsettled ≤ length a.out.promises.entries

module _ (me : PipeId) where
  signal-counts : (r : Plain) (a : Acts) → Counted a → Counted (act_by_signal me r a)
  unfolding act_by_signal
  signal-counts r a h = grind (arith, length-fresh)

  act_by-counts : (ends : Ends) (a : Acts) (action : Option Action) → Counted a → Counted (act_by me ends a action)
  unfolding finalize
  act_by-counts ends a action h = grind (arith, length-fresh, signal-counts)

  act-counts : (ends : Ends) (a : Acts) → Counted a → Counted (act me ends a)
  unfolding act
  act-counts ends a h = grind (arith, act_by-counts)

  shutdown-counts : (ends : Ends) (action : Option Action) (error : Option Plain) (a : Acts) → Counted a → Counted (shutdown me ends action error a)
  unfolding shutdown proceed
  shutdown-counts ends action error a h = grind (arith, act-counts)

  look-counts : (ends : Ends) (a : Acts) → Counted a → Counted (look me ends a)
  unfolding look
  look-counts ends a h = grind (arith, shutdown-counts)

  go_on-counts : (ends : Ends) (a : Acts) (phase : Phase) → Counted a → Counted (go_on_in me ends a phase)
  unfolding proceed
  go_on-counts ends a phase h = grind (arith, look-counts, act-counts)

  write-counts : (a : Acts) (held : Option Value) → Counted a → Counted (write_held me a held)
  write-counts a held h = grind (arith, length-fresh)

  operation-counts : (ends : Ends) (operation : PipeOperation) (a : Acts) → Counted a → Counted (pipe_operation me ends operation a)
  unfolding look_ready go_on keep_chunk read_ended write_chunk write_ended action_settled part_settled no_parts abort finalize queue_micro
  operation-counts ends names.Look a h = look-counts ends a h
  operation-counts ends names.LookReady a h = grind (arith, look-counts)
  operation-counts ends (names.KeepChunk v) a h = h
  operation-counts ends names.ReadEnded a h = h
  operation-counts ends names.WriteChunk a h = write-counts a a.slots.held h
  operation-counts ends names.GoOn a h = go_on-counts ends a a.slots.phase h
  operation-counts ends names.WriteEnded a h = grind (arith, go_on-counts)
  operation-counts ends (names.Abort r) a h = shutdown-counts ends _ _ a h
  operation-counts ends (names.ActionSettled outcome) a h = grind arith
  operation-counts ends (names.PartSettled outcome) a h = grind (arith, settle-length)
  operation-counts ends names.NoParts a h = grind (arith, settle-length)

  pub counted_by : (ends : Ends) (operation : PipeOperation) (a b : Acts) → b ≡ pipe_operation me ends operation a → Counted a → Counted b
  counted_by ends operation a b e h = subst Counted (sym e) (operation-counts ends operation a h)
