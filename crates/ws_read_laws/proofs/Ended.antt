-- Reads of a stream that has ended, and by a reader that was released (`reads_of_the_ended`).
use Rattle.std.proofs.Common.{◌≡◌, true, false, List, [], ◌∷◌, ◌++◌, Some, None, Result, Err, slice_get, slice_set, Bool, refl, ap, ◌∙◌, arith}
use Rattle.std.specs.Option.{option_map}
use Rattle.ws_value.specs.declared.{ids.LockId.{LockId}, ids.PromiseId.{PromiseId}, ids.StreamId.{StreamId}}
use Rattle.ws_value.specs.declared.value.{Outcome.{Outcome}, Outcome.TheVariants.{Finished, Rejected}, Plain.{Plain}, Plain.TheVariants.{Undefined}, Value.TheVariants.{Plain as PlainValue}}
use Rattle.ws_steps.specs.declared.{calls.Call.TheVariants.{Read}, effects.Effect.{Effect}, effects.Effect.TheVariants.{Readable as OnReadable, CloseSteps, ErrorSteps, Settle}}
use Rattle.ws_steps.specs.declared.{locks.Lock.TheVariants.{Reader}, readable.ReadRequest.TheVariants.{Promise}, readable.ReadableOperation.TheVariants.{Read as ReadChunk}}
use Rattle.ws_steps.specs.declared.readable.ReadableState.TheVariants.{Closed, Errored}
use Rattle.ws_steps.specs.Begun.{Begun, promising}
use Rattle.ws_steps.specs.Calls.{begin, named}
use Rattle.ws_steps.specs.Effects.{type_error}
use Rattle.ws_steps.specs.Laws.{IsAnswered, ReadsOfTheEnded}
use Rattle.ws_steps.specs.Promises.{Entry, Table, next_id, fresh, ended, with_entry, outcome_at, is_pending, settle, answer, watch}
use Rattle.ws_steps.specs.Readable.{default_reader_read, disturb}
use Rattle.ws_steps.specs.Run.{older, run}
use Rattle.ws_steps.specs.Bytes as byte
use Rattle.ws_steps.specs.Slots.{Slots, ReadableStream, ByteStream, Done, causes, empty, has_readable, has_byte, has_source, readable_at, byte_at, source_at, lock_at, with_promises}
use Rattle.ws_steps.specs.Turns.{row, performed}
use Rattle.ws_steps.proofs.PromiseLaws.{settle-open, answer-open, entry_at-fresh_new, entry_at-with_entry_same, length-fresh}
use Rattle.ws_room_laws.proofs.Turns.{performed_next, performed_none}
use Rattle.ws_laws.proofs.Outcomes.{keeps-watch}
use Rattle.ws_read_laws.proofs.SourceLooks.{looks-default, looks-byte, default-there}
use Rattle.ws_read_laws.proofs.Asked.{begins-read}
use Rattle.ws_read_laws.proofs.Runs.{reader-there}

-- an effect that causes nothing
one_turn : (e : Effect) (s y : Slots) → row e s ≡ causes [] y → performed (causes (e ∷ []) s) ≡ y
one_turn e s y a = performed_next s e [] ∙ (ap (λ (d : Done). performed (causes (d.caused ++ []) d.slots)) a ∙ performed_none y)

-- and one that causes such an effect
two_turns : (e f : Effect) (s z y : Slots) → row e s ≡ causes (f ∷ []) z → row f z ≡ causes [] y → performed (causes (e ∷ []) s) ≡ y
two_turns e f s z y a b = performed_next s e [] ∙ (ap (λ (d : Done). performed (causes (d.caused ++ []) d.slots)) a ∙ one_turn f z y b)

-- the new promise is settled

new_outcome : (o : Outcome) (t u : Table) → u ≡ with_entry (next_id t) (Some (ended o)) (fresh t) → outcome_at u (next_id t) ≡ Some o
new_outcome o t u e =
    let n = length-fresh t in
    ap (λ (z : Table). outcome_at z (next_id t)) e
    ∙ ap (λ (x : _). option_map (λ (e : Entry). e.outcome) x) (entry_at-with_entry_same (fresh t) (next_id t) (Some (ended o)) (omega arith))

new_answered : (o : Outcome) (t : Table) → outcome_at (answer (next_id t) o (fresh t)) (next_id t) ≡ Some o
new_answered o t = new_outcome o t (answer (next_id t) o (fresh t)) (answer-open (next_id t) o (fresh t) [] (entry_at-fresh_new t (next_id t) refl))

new_rejected : (e : Plain) (t : Table) → outcome_at (settle (next_id t) (Err e) (fresh t)) (next_id t) ≡ Some (Rejected e)
new_rejected e t =
    ap (λ (z : Table). outcome_at z (next_id t)) (settle-open (next_id t) (Err e) (fresh t) [] (entry_at-fresh_new t (next_id t) refl))
    ∙ new_outcome (Rejected e) t (with_entry (next_id t) (Some (ended (Rejected e))) (fresh t)) refl

abbrev with_new : Slots → Slots
with_new s = with_promises (fresh s.promises) s

-- a call that answers a new promise, which is settled once its effects are performed
is_answered : (s y : Slots) (l : LockId) (effects : PromiseId → List Effect) (o : Outcome) → begin (Read l) s ≡ promising effects s → performed (causes (effects (next_id s.promises)) (with_new s)) ≡ y
    → is_pending o ≡ false → outcome_at y.promises (next_id s.promises) ≡ Some o → IsAnswered (Read l) s o
is_answered s y l effects o e f n h =
    let p : PromiseId = next_id s.promises in (
      ap (λ (b : Begun). b.reply) e,
      ap (λ (b : Begun). outcome_at (older (named b.reply (performed b.done))).promises p) e ∙ (ap (λ (z : Slots). outcome_at (watch p z.promises) p) f ∙ (keeps-watch p y.promises).outcome p o n h),
    )

-- a read is performed: it causes this, and leaves these slots, with the promises as they were
record Asks (i : StreamId) (p : PromiseId) (f : Effect) (s : Slots) : Type 0 where
  left : Slots
  row : row (OnReadable i (ReadChunk (Promise p))) s ≡ causes (f ∷ []) left
  promises : left.promises ≡ s.promises

-- the stream is disturbed
abbrev disturbed : StreamId → Slots → Slots
disturbed i s = record s { streams = slice_set s.streams i.0 (ReadableStream (record (readable_at i s) { disturbed = true })) }

abbrev disturbed_bytes : StreamId → Slots → Slots
disturbed_bytes i s = record s { streams = slice_set s.streams i.0 (ByteStream (record (byte_at i s) { stream = record (byte_at i s).stream { disturbed = true } })) }

closed_row : (i : StreamId) (p : PromiseId) (s : Slots) (kind : Bool) → has_byte i s ≡ kind → has_source i s ≡ true → (source_at i s).state ≡ Closed → Asks i p (CloseSteps i (Promise p)) s
unfolding row default_reader_read disturb byte.read byte.default_reader_read
closed_row i p s true b there e =
    let state : (byte_at i s).stream.state ≡ Closed = rw looks-byte at e in
    record { left = disturbed_bytes i s; row = rw (b, state) refl; promises = refl }
closed_row i p s false b there e =
    let is : has_readable i s ≡ true = default-there (has_readable i s) (has_byte i s) there b in
    let same : source_at i s ≡ readable_at i s = looks-default (slice_get s.streams i.0) b in
    let state : (readable_at i s).state ≡ Closed = rw same at e in
    record { left = disturbed i s; row = rw (b, is, state) refl; promises = refl }

errored_row : (i : StreamId) (p : PromiseId) (s : Slots) (kind : Bool) → has_byte i s ≡ kind → has_source i s ≡ true → (source_at i s).state ≡ Errored → Asks i p (ErrorSteps i (Promise p) (source_at i s).stored_error) s
unfolding row default_reader_read disturb byte.read byte.default_reader_read
errored_row i p s true b there e =
    let same : source_at i s ≡ byte.shown (byte_at i s) = looks-byte (slice_get s.streams i.0) b in
    let state : (byte_at i s).stream.state ≡ Errored = rw same at e in
    record { left = disturbed_bytes i s; row = rw (same, b, state) refl; promises = refl }
errored_row i p s false b there e =
    let is : has_readable i s ≡ true = default-there (has_readable i s) (has_byte i s) there b in
    let same : source_at i s ≡ readable_at i s = looks-default (slice_get s.streams i.0) b in
    let state : (readable_at i s).state ≡ Errored = rw same at e in
    record { left = disturbed i s; row = rw (same, b, is, state) refl; promises = refl }

close_row : (i : StreamId) (p : PromiseId) (s : Slots) → row (CloseSteps i (Promise p)) s ≡ causes [] (with_promises (answer p (Finished (PlainValue Undefined)) s.promises) s)
unfolding row
close_row i p s = refl

error_row : (i : StreamId) (p : PromiseId) (e : Plain) (s : Slots) → row (ErrorSteps i (Promise p) e) s ≡ causes [] (with_promises (settle p (Err e) s.promises) s)
unfolding row
error_row i p e s = refl

settle_row : (p : PromiseId) (o : Result Plain Plain) (s : Slots) → row (Settle p o) s ≡ causes [] (with_promises (settle p o s.promises) s)
unfolding row
settle_row p o s = refl

abbrev asking : StreamId → PromiseId → List Effect
asking i p = OnReadable i (ReadChunk (Promise p)) ∷ []

abbrev refusing : PromiseId → List Effect
refusing p = Settle p (Err type_error) ∷ []

refused : (s : Slots) (l : LockId) (closed : PromiseId) → lock_at l s ≡ Some (Reader None closed) → begin (Read l) s ≡ promising refusing s
unfolding begin
refused s l closed e = rw e refl

pub reads_of_the_ended : ReadsOfTheEnded
reads_of_the_ended = record {
  closed = λ entries l i closed e state.
      let s : Slots = run entries empty in
      let there = reader-there i entries l closed e in
      let p : PromiseId = next_id s.promises in
      let asks = closed_row i p (with_new s) (has_byte i s) refl there state in
      is_answered s _ l (asking i) (Finished (PlainValue Undefined)) (begins-read s l i closed e there)
      (two_turns (OnReadable i (ReadChunk (Promise p))) (CloseSteps i (Promise p)) (with_new s) asks.left _ asks.row (close_row i p asks.left)) refl
      (rw asks.promises (new_answered (Finished (PlainValue Undefined)) s.promises));
  errored = λ entries l i closed e state.
      let s : Slots = run entries empty in
      let there = reader-there i entries l closed e in
      let p : PromiseId = next_id s.promises in
      let r : Plain = (source_at i s).stored_error in
      let asks = errored_row i p (with_new s) (has_byte i s) refl there state in
      is_answered s _ l (asking i) (Rejected r) (begins-read s l i closed e there)
      (two_turns (OnReadable i (ReadChunk (Promise p))) (ErrorSteps i (Promise p) r) (with_new s) asks.left _ asks.row (error_row i p r asks.left)) refl (rw asks.promises (new_rejected r s.promises));
  released = λ entries l closed e.
      let s : Slots = run entries empty in
      let p : PromiseId = next_id s.promises in
      is_answered s _ l refusing (Rejected type_error) (refused s l closed e) (one_turn (Settle p (Err type_error)) (with_new s) _ (settle_row p (Err type_error) (with_new s))) refl (new_rejected type_error s.promises);
}
