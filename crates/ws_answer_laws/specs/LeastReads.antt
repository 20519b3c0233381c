-- What becomes of a read into a room that wants so many elements at least.
use Rattle.std.specs.Prelude.{ℕ, ◌≡◌, ◌⊎◌, true, List, [], ◌∷◌, ◌++◌, length, Some}
use Rattle.ws_value.specs.declared.ids.LockId.{LockId}
use Rattle.ws_value.specs.declared.ids.PromiseId.{PromiseId}
use Rattle.ws_value.specs.declared.ids.StreamId.{StreamId}
use Rattle.ws_value.specs.declared.value.Outcome.{Outcome}
use Rattle.ws_value.specs.declared.value.Outcome.TheVariants.{Pending, Fulfilled, Given, Finished, Rejected}
use Rattle.ws_value.specs.declared.value.Value.TheVariants.{Bytes}
use Rattle.ws_steps.specs.declared.calls.Call.{Call}
use Rattle.ws_steps.specs.declared.calls.Call.TheVariants.{ReadInto}
use Rattle.ws_steps.specs.declared.calls.Reply.TheVariants.{Promise as Named}
use Rattle.ws_steps.specs.declared.locks.Lock.TheVariants.{ByobReader}
use Rattle.ws_steps.specs.declared.readable.ReadRequest.{ReadRequest}
use Rattle.ws_steps.specs.declared.readable.ReadRequest.TheVariants.{Promise}
use Rattle.ws_steps.specs.declared.readable.ReadableState.TheVariants.{Closed, Errored}
use Rattle.ws_steps.specs.Bytes as byte
use Rattle.ws_steps.specs.ByteLaws.{FillRoom}
use Rattle.ws_steps.specs.Effects.{type_error}
use Rattle.ws_steps.specs.LockCalls.{has_least}
use Rattle.ws_steps.specs.Promises.{outcome_at}
use Rattle.ws_steps.specs.Slots.{Slots, empty, has_byte, byte_at, lock_at}
use Rattle.ws_steps.specs.Run.{Entry, Called, run, reply_to}
use Rattle.ws_answer_laws.specs.ByteReads.{ByteReads, run_byte_reads}

abbrev pub IsAmong : ReadRequest → List ReadRequest → Type 0
IsAmong r [] = ⊥
IsAmong r (q ∷ qs) = (q ≡ r) ⊎ IsAmong r qs

-- A read into a room of this length, of elements of this size, of which so many are wanted at least, by its outcome: it
-- waits; it got so many; the stream closed; it errored, with this reason; or the reader was released while the read
-- waited
abbrev pub HasReason : ℕ → ℕ → ℕ → ByteReads → byte.Slots → ReadRequest → Outcome → Type 0
HasReason room element least reads x r Pending = IsAmong r x.stream.requests
HasReason room element least reads x r (Fulfilled v) = ⊥
HasReason room element least reads x r (Given v) = (b : List ℕ) × ((v ≡ Bytes b) × FillRoom room element least b)
HasReason room element least reads x r (Finished v) = x.stream.state ≡ Closed
HasReason room element least reads x r (Rejected e) =
    ((x.stream.state ≡ Errored) × (e ≡ x.stream.stored_error)) ⊎ ((e ≡ type_error) × IsAmong r reads.released)

-- such a read was asked of byte stream i by a call, and this is its outcome at the end of a run
abbrev pub EachReadIntoGetsItsLeast : Type 0
EachReadIntoGetsItsLeast =
    (before after : List Entry) (l : LockId) (i : StreamId) (closed p : PromiseId) (room : List ℕ) (element least : ℕ)
    (o : Outcome)
    → let s : Slots = run before empty in let c : Call = ReadInto l room element least in
    let entries : List Entry = before ++ Called c ∷ after in let z : Slots = run entries empty in
    has_byte i s ≡ true → lock_at l s ≡ Some (ByobReader (Some i) closed) → has_least (length room) element least ≡ true
    → reply_to c s ≡ Named p → outcome_at z.promises p ≡ Some o
    → HasReason (length room) element least (run_byte_reads i entries empty) (byte_at i z) (Promise p) o
