-- Which read of a byte stream gets which bytes.
use Rattle.std.specs.Prelude.{ℕ, ◌≡◌, ◌≢◌, ◌+◌, true, false, List, [], ◌∷◌, ◌++◌, All}
use Rattle.ws_value.specs.declared.ids.StreamId.{StreamId}
use Rattle.ws_value.specs.declared.value.Outcome.TheVariants.{Pending}
use Rattle.ws_steps.specs.declared.readable.ReadRequest.{ReadRequest}
use Rattle.ws_steps.specs.declared.readable.ReadableState.TheVariants.{Readable, Closed, Errored}
use Rattle.ws_steps.specs.Bytes as byte
use Rattle.ws_steps.specs.ByteHistory.{ByteFlow, run_bytes}
use Rattle.ws_steps.specs.ByteLaws.{AreFirstOf}
use Rattle.ws_steps.specs.Laws.{HasOutcome, RiseFrom}
use Rattle.ws_steps.specs.Promises.{Table}
use Rattle.ws_steps.specs.Readable as readable
use Rattle.ws_steps.specs.ReadableHistory.{promises_of}
use Rattle.ws_steps.specs.Slots.{Slots, has_byte, byte_at, empty}
use Rattle.ws_steps.specs.Run.{Entry, run}
use Rattle.ws_answer_laws.specs.ByteReads.{ByteReads, run_byte_reads, byte_asked_by_calls, ByteAnswer, Gets, HandedBack, Ends, Fails, Released, Answered, requests_of, in_line, overtakers, all_bytes, released_of, answer_outcome}

-- how much these requests weigh, of which each weighs so much
abbrev pub weight_of : (ReadRequest → ℕ) → List ReadRequest → ℕ
weight_of w [] = 0
weight_of w (r ∷ rs) = w r + weight_of w rs

-- a read ends so only where the stream closed, and fails so only where it errored with this reason
abbrev pub Allows : byte.Slots → ByteAnswer → Type 0
Allows x (Gets b) = Unit {0}
Allows x (HandedBack b) = x.stream.state ≡ Closed
Allows x Ends = x.stream.state ≡ Closed
Allows x (Fails e) = (x.stream.state ≡ Errored) × (e ≡ x.stream.stored_error)
Allows x Released = Unit {0}

-- The reads of a byte stream: those that were answered, in the order in which they were, and those that wait. Of each
-- request as many were asked as were answered and wait. Those that got in line were asked in this order, and so were
-- all where none overtook another, which none does where no response spilled; then no read of a default reader waits
-- beside bytes that are queued
pub record AreAnswered (h : ByteFlow) (reads : ByteReads) (x : byte.Slots) (t : Table) : Type 0 where
  pub answered : List Answered
  pub given : all_bytes answered ≡ h.given
  pub all : (w : ReadRequest → ℕ)
      → weight_of w (requests_of answered) + weight_of w x.stream.requests ≡ weight_of w reads.asked
  pub order : requests_of (in_line answered) ++ x.stream.requests ≡ reads.lined
  pub overtook : requests_of (overtakers answered) ≡ reads.overtaking
  pub in_turn : reads.overtaking ≡ [] → requests_of answered ++ x.stream.requests ≡ reads.asked
  pub unspilled : reads.spilled ≡ false → reads.overtaking ≡ []
  pub told : All (λ a. HasOutcome t a.request (answer_outcome a.answer)) answered
  pub waiting : All (λ r. HasOutcome t r Pending) x.stream.requests
  pub released : released_of answered ≡ reads.released
  pub allowed : All (λ a. Allows x a.answer) answered
  pub ended : byte.has_default_reader x ≡ true → readable.is_readable x.stream.state ≡ false → x.stream.requests ≡ []
  pub served : reads.spilled ≡ false → byte.has_default_reader x ≡ true → x.stream.state ≡ Readable → x.queue ≢ []
      → x.stream.requests ≡ []
  pub front : AreFirstOf (all_bytes answered) h.entered
  pub own : RiseFrom 0 (promises_of reads.asked)

abbrev pub EachByteReadIsAnswered : Type 0
EachByteReadIsAnswered =
    (entries : List Entry) (i : StreamId) → let s : Slots = run entries empty in has_byte i s ≡ true
    → AreAnswered (run_bytes i entries empty) (run_byte_reads i entries empty) (byte_at i s) s.promises

abbrev pub ByteReadsWereAsked : Type 0
ByteReadsWereAsked =
    (entries : List Entry) (i : StreamId)
    → promises_of (run_byte_reads i entries empty).asked ≡ byte_asked_by_calls i entries empty
