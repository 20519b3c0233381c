-- Laws of byte streams over every run. What they say of a stream they say between steps.
use Rattle.std.specs.Prelude.{ℕ, ◌≡◌, ◌≢◌, ◌*◌, ◌%◌, ◌≤◌, true, false, List, [], ◌∷◌, ◌++◌, length, Some}
use Rattle.ws_value.specs.declared.ids.LockId.{LockId}
use Rattle.ws_value.specs.declared.ids.PromiseId.{PromiseId}
use Rattle.ws_value.specs.declared.ids.StreamId.{StreamId}
use Rattle.ws_value.specs.declared.value.Outcome.TheVariants.{Given, Finished}
use Rattle.ws_value.specs.declared.value.Value.TheVariants.{Bytes}
use Rattle.ws_steps.specs.declared.calls.Call.{Call}
use Rattle.ws_steps.specs.declared.calls.Call.TheVariants.{ReadInto, Finish}
use Rattle.ws_steps.specs.declared.calls.Reply.TheVariants.{Promise as Named, Throws}
use Rattle.ws_steps.specs.declared.calls.Thrown.TheVariants.{TypeError}
use Rattle.ws_steps.specs.declared.readable.ReadableState.TheVariants.{Readable, Closed, Errored}
use Rattle.ws_steps.specs.Bytes as byte
use Rattle.ws_steps.specs.Effects.{type_error}
use Rattle.ws_steps.specs.Laws.{errs}
use Rattle.ws_steps.specs.Promises.{outcome_at}
use Rattle.ws_steps.specs.Slots.{Slots, empty, has_byte, byte_at}
use Rattle.ws_steps.specs.Run.{Entry, Called, step, run, reply_to, after_call}
use Rattle.ws_steps.specs.ByteHistory.{ByteFlow, kept, step_bytes, run_bytes, accepted_bytes}

-- these bytes are the first part of those
abbrev pub AreFirstOf : List ℕ → List ℕ → Type 0
AreFirstOf front whole = (rest : List ℕ) × (front ++ rest ≡ whole)

-- the order of a byte stream
pub record IsLawfulByteStream (h : ByteFlow) (x : byte.Slots) : Type 0 where
  pub front : AreFirstOf h.given h.entered
  pub readable : x.stream.state ≡ Readable → h.entered ≡ h.given ++ kept x
  pub closed : x.stream.state ≡ Closed → AreFirstOf (h.given ++ kept x) h.entered
  pub whole : h.cancelled ≡ false → h.left ≡ false → x.stream.state ≡ Closed → h.given ≡ h.entered

abbrev pub EachByteStreamIsLawful : Type 0
EachByteStreamIsLawful =
    (entries : List Entry) (i : StreamId)
    → has_byte i (run entries empty) ≡ true → IsLawfulByteStream (run_bytes i entries empty) (byte_at i (run entries empty))

-- one step of a byte stream
pub record IsByteStep (h : ByteFlow) (before after : byte.Slots) : Type 0 where
  pub readable : before.stream.state ≡ Readable → after.stream.state ≡ Readable → kept before ++ h.entered ≡ h.given ++ kept after
  pub closes : before.stream.state ≡ Readable → h.cancelled ≡ false → after.stream.state ≡ Closed → kept before ++ h.entered ≡ h.given ++ kept after
  pub closed : before.stream.state ≡ Closed → AreFirstOf (h.given ++ kept after) (kept before)
  pub front : AreFirstOf h.given (kept before ++ h.entered)
  pub entered : before.stream.state ≢ Readable → h.entered ≡ []
  pub errored : before.stream.state ≡ Errored → h.given ≡ []

abbrev pub EachByteStep : Type 0
EachByteStep =
    (entries : List Entry) (x : Entry) (i : StreamId) → let s : Slots = run entries empty in
    has_byte i s ≡ true
    → IsByteStep (step_bytes i s x) (byte_at i s) (byte_at i (step s x))
    × ((run_bytes i entries empty).cancelled ≡ true → (step_bytes i s x).given ≡ [])

abbrev pub EachByteStreamIsMeant : Type 0
EachByteStreamIsMeant = (entries : List Entry) (i : StreamId) → (byte_at i (run entries empty)).astray ≡ false

-- bytes that a read into a room may get: whole elements, no fewer than the least number, as far as the room goes
pub record FillRoom (room element least : ℕ) (b : List ℕ) : Type 0 where
  pub whole : length b % element ≡ 0
  pub enough : least * element ≤ length b
  pub fits : length b ≤ room

pub record EachRoomIsWhole : Type 0 where
  pub given : (before after : List Entry) (l : LockId) (room : List ℕ) (element least : ℕ) (p : PromiseId) (b : List ℕ)
      → let s : Slots = run before empty in let c : Call = ReadInto l room element least in
      reply_to c s ≡ Named p → outcome_at (run (Called c ∷ after) s).promises p ≡ Some (Given (Bytes b)) → FillRoom (length room) element least b
  pub finished : (before after : List Entry) (l : LockId) (room : List ℕ) (element least : ℕ) (p : PromiseId) (b : List ℕ)
      → let s : Slots = run before empty in let c : Call = ReadInto l room element least in
      reply_to c s ≡ Named p → outcome_at (run (Called c ∷ after) s).promises p ≡ Some (Finished (Bytes b)) → length b % element ≡ 0

abbrev pub EnteredBytesWereAccepted : Type 0
EnteredBytesWereAccepted = (entries : List Entry) (i : StreamId) → (run_bytes i entries empty).entered ≡ accepted_bytes i entries empty

-- a byte stream that is errored with a TypeError, with no queue, no descriptor and no read left
pub record IsErroredByClose (x : byte.Slots) : Type 0 where
  pub state : x.stream.state ≡ Errored
  pub error : x.stream.stored_error ≡ type_error
  pub queue : x.queue ≡ []
  pub descriptors : x.descriptors ≡ []
  pub requests : x.stream.requests ≡ []

abbrev pub EachThrowingCloseErrs : Type 0
EachThrowingCloseErrs =
    (entries : List Entry) (i : StreamId) → let s : Slots = run entries empty in errs (Finish i) s ≡ true
    → (reply_to (Finish i) s ≡ Throws TypeError) × IsErroredByClose (byte_at i (after_call (Finish i) s))
