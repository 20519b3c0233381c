-- Where the reason comes from with which a pipe's promise is rejected.
use Rattle.std.specs.Prelude.{ℕ, ◌*◌, ◌≡◌, Bool, true, false, not, ◌&&◌, ◌||◌, if◌then◌else◌, List, [], ◌∷◌, ◌++◌, length, Option, Some, None, Contains}
use Rattle.ws_value.specs.declared.ids.PromiseId.{PromiseId}
use Rattle.ws_value.specs.declared.ids.SignalId.{SignalId}
use Rattle.ws_value.specs.declared.ids.StreamId.{StreamId}
use Rattle.ws_value.specs.declared.ids.TeeId.{TeeId}
use Rattle.ws_value.specs.declared.value.Outcome.TheVariants.{Rejected}
use Rattle.ws_value.specs.declared.value.Message.{Message}
use Rattle.ws_value.specs.declared.value.Message.TheVariants.{Error as ErrorMessage}
use Rattle.ws_value.specs.declared.value.Plain.{Plain}
use Rattle.ws_value.specs.declared.value.Plain.TheVariants.{Pair}
use Rattle.ws_steps.specs.declared.calls.Answer.{Answer}
use Rattle.ws_steps.specs.declared.calls.Answer.TheVariants.{Ok as AnswerOk, Fail as AnswerFail}
use Rattle.ws_steps.specs.declared.calls.Call.{Call}
use Rattle.ws_steps.specs.declared.calls.Call.TheVariants.{Cancel, CancelBy, ReadInto, Abort, AbortBy, Finish, Fail, Pipe, Trigger, Deliver, Settle}
use Rattle.ws_steps.specs.declared.calls.Reply.TheVariants.{Promise}
use Rattle.ws_steps.specs.declared.byte.RoomKind.TheVariants.{ForByob}
use Rattle.ws_steps.specs.declared.locks.Lock.{Lock}
use Rattle.ws_steps.specs.declared.locks.Lock.TheVariants.{ByobReader}
use Rattle.ws_steps.specs.declared.pipes.Prevent.{Prevent}
use Rattle.ws_steps.specs.declared.readable.ReadableState.TheVariants.{Errored}
use Rattle.ws_steps.specs.Bytes as byte
use Rattle.ws_steps.specs.LockCalls.{is_view, has_least}
use Rattle.ws_steps.specs.Cross.{data_clone}
use Rattle.ws_steps.specs.Descriptors.{Descriptor, fill_from_queue}
use Rattle.ws_steps.specs.Effects.{type_error}
use Rattle.ws_steps.specs.Promises.{outcome_at}
use Rattle.ws_steps.specs.Queues.{is_empty}
use Rattle.ws_steps.specs.ReadableLooks as readable_looks
use Rattle.ws_steps.specs.Run.{Entry, Called, Worked, Heard, step, reply_to, run}
use Rattle.ws_steps.specs.Slots.{Slots, empty, has_byte, has_source, has_writable, byte_at, source_at, writable_at, lock_at, pair_at}
use Rattle.ws_steps.specs.Writable.{is_closed, is_closing, is_erroring, is_errored}
use Rattle.ws_steps.specs.WritableLooks as writable_looks
use Rattle.ws_reason_laws.specs.Uncloned.{run_uncloned}

-- the reason of an answer by which a host's algorithm fails
abbrev pub answered_reason : Answer → List Plain
answered_reason AnswerOk = []
answered_reason (AnswerFail reason) = reason ∷ []

-- the reason of an error that comes over a port
abbrev pub delivered_reason : Message → List Plain
delivered_reason (ErrorMessage reason) = reason ∷ []
delivered_reason _ = []

-- the reason that a call gives: of a cancel, an abort, an error of a controller, the trigger of a signal, an error that it delivers over a port, or the
-- failure of a host's algorithm
abbrev pub reason_of : Call → List Plain
reason_of (Cancel i reason) = reason ∷ []
reason_of (CancelBy l reason) = reason ∷ []
reason_of (Abort i reason) = reason ∷ []
reason_of (AbortBy l reason) = reason ∷ []
reason_of (Fail i reason) = reason ∷ []
reason_of (Trigger a reason) = reason ∷ []
reason_of (Deliver c m) = delivered_reason m
reason_of (Settle h answer) = answered_reason answer
reason_of _ = []

-- the reasons that the calls of a run give, in their order
abbrev pub given : List Entry → List Plain
given [] = []
given (Called c ∷ xs) = reason_of c ++ given xs
given (Worked ∷ xs) = given xs
given (Heard ∷ xs) = given xs

-- the reason that a call gives by which something fails: all of these but that of a cancel, by which no more
-- fails than the writable half of a transform stream
abbrev pub failure_of : Call → List Plain
failure_of (Abort i reason) = reason ∷ []
failure_of (AbortBy l reason) = reason ∷ []
failure_of (Fail i reason) = reason ∷ []
failure_of (Trigger a reason) = reason ∷ []
failure_of (Deliver c m) = delivered_reason m
failure_of (Settle h answer) = answered_reason answer
failure_of _ = []

-- the reason that a cancel gives
abbrev pub cancel_of : Call → List Plain
cancel_of (Cancel i reason) = reason ∷ []
cancel_of (CancelBy l reason) = reason ∷ []
cancel_of _ = []

-- those of a run, in their order

abbrev pub failures : List Entry → List Plain
failures [] = []
failures (Called c ∷ xs) = failure_of c ++ failures xs
failures (Worked ∷ xs) = failures xs
failures (Heard ∷ xs) = failures xs

abbrev pub cancels : List Entry → List Plain
cancels [] = []
cancels (Called c ∷ xs) = cancel_of c ++ cancels xs
cancels (Worked ∷ xs) = cancels xs
cancels (Heard ∷ xs) = cancels xs

-- Two calls store a TypeError in a byte stream: a close where bytes of a part of an element were filled, and a read into a room that the bytes
-- which are queued don't fill as far as it wants, once a close was requested

-- whether a read into this room stores one
abbrev pub pull_errs : Descriptor → byte.Slots → Bool
pull_errs d b = is_empty b.descriptors && (not (is_empty b.queue) && (b.stream.close_requested && not (fill_from_queue d b.queue).ready))

abbrev pub erred_with : Bool → List Plain
erred_with errs = if errs then type_error ∷ [] else []

abbrev pub erred_by_read : ℕ → ℕ → ℕ → Slots → Option Lock → List Plain
erred_by_read room element minimum s (Some (ByobReader (Some i) closed)) =
    erred_with (has_byte i s && pull_errs (record { filled = []; room = room; minimum = minimum; element = element; room_kind = ForByob }) (byte_at i s))
erred_by_read room element minimum s _ = []

-- the TypeError that a call stores in a byte stream
abbrev pub erred_by : Call → Slots → List Plain
erred_by (Finish i) s = erred_with (has_byte i s && byte.close_throws (byte_at i s))
erred_by (ReadInto l room element least) s =
    if is_view (length room) element && has_least (length room) element least then erred_by_read (length room) element (least * element) s (lock_at l s) else []
erred_by _ s = []

-- those of a run
abbrev pub erred : List Entry → Slots → List Plain
erred [] s = []
erred (Called c ∷ xs) s = erred_by c s ++ erred xs (step s (Called c))
erred (Worked ∷ xs) s = erred xs (step s Worked)
erred (Heard ∷ xs) s = erred xs (step s Heard)

-- a pipe may be made from stream i to stream j: they are there and unlocked, and the destination is neither closing nor closed
pub record IsFree (i j : StreamId) (s : Slots) : Type 0 where
  pub source : has_source i s ≡ true
  pub dest : has_writable j s ≡ true
  pub source_unlocked : readable_looks.is_locked (source_at i s) ≡ false
  pub dest_unlocked : writable_looks.is_locked (writable_at j s) ≡ false
  pub not_closing : is_closing (writable_at j s) ≡ false
  pub not_closed : is_closed (writable_at j s).state ≡ false

-- in a run no transform stream was made, and no call stored a TypeError in a byte stream
pub record BringsNothing (entries : List Entry) : Type 0 where
  pub transforms : (run entries empty).transforms ≡ []
  pub erred : erred entries empty ≡ []

-- the premise that a reason is no pair, or that the tee of which it is one doesn't keep the reasons of both its branches. With both its source
-- is cancelled with this pair, which no call gave
abbrev pub NeedsTee : Plain → List Entry → Type 0
NeedsTee r entries = (t : TeeId) → r ≡ Pair t → pair_at t (run entries empty) ≡ None

-- the premise that a reason is no DataCloneError, or that nothing which can't be cloned was given to a stream at the end of a port. With a
-- DataCloneError that stream fails what it is asked for: a write of such a chunk, and a cancel or an abort with such a reason
abbrev pub NeedsPort : Plain → List Entry → Type 0
NeedsPort r entries = r ≡ data_clone → run_uncloned entries empty ≡ false

abbrev pub EachReasonWasGiven : Type 0
EachReasonWasGiven =
    (opening xs : List Entry) (i j : StreamId) (prevent : Prevent) (signal : Option SignalId) (q : PromiseId) (r : Plain)
    → let s : Slots = run opening empty in let entries : List Entry = opening ++ Called (Pipe i j prevent signal) ∷ xs in
    IsFree i j s → reply_to (Pipe i j prevent signal) s ≡ Promise q
    → (r ≡ type_error → BringsNothing entries) → NeedsTee r entries → NeedsPort r entries
    → outcome_at (run entries empty).promises q ≡ Some (Rejected r) → Contains (given entries) r

abbrev pub EachReasonWasAFailure : Type 0
EachReasonWasAFailure =
    (opening xs : List Entry) (i j : StreamId) (prevent : Prevent) (signal : Option SignalId) (q : PromiseId) (r : Plain)
    → let s : Slots = run opening empty in let entries : List Entry = opening ++ Called (Pipe i j prevent signal) ∷ xs in
    IsFree i j s → reply_to (Pipe i j prevent signal) s ≡ Promise q
    → (Contains (cancels entries) r → (run entries empty).transforms ≡ []) → (r ≡ type_error → BringsNothing entries) → NeedsTee r entries → NeedsPort r entries
    → outcome_at (run entries empty).promises q ≡ Some (Rejected r) → Contains (failures entries) r

pub record EachStoredErrorWasAFailure : Type 0 where
  pub readable : (entries : List Entry) (i : StreamId) → let s : Slots = run entries empty in
      (Contains (cancels entries) (source_at i s).stored_error → s.transforms ≡ []) → ((source_at i s).stored_error ≡ type_error → BringsNothing entries)
      → NeedsTee (source_at i s).stored_error entries → NeedsPort (source_at i s).stored_error entries
      → (source_at i s).state ≡ Errored → Contains (failures entries) (source_at i s).stored_error
  pub writable : (entries : List Entry) (i : StreamId) → let s : Slots = run entries empty in
      (Contains (cancels entries) (writable_at i s).stored_error → s.transforms ≡ []) → ((writable_at i s).stored_error ≡ type_error → BringsNothing entries)
      → NeedsTee (writable_at i s).stored_error entries → NeedsPort (writable_at i s).stored_error entries
      → (is_erroring (writable_at i s).state || is_errored (writable_at i s).state) ≡ true → Contains (failures entries) (writable_at i s).stored_error
