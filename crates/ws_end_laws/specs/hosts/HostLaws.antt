-- Laws of what the host is called for and settles well.
use Rattle.std.specs.Prelude.{ℕ, ◌≡◌, ◌<◌, false, true, is_some, List, [], ◌∷◌, ◌++◌, length, Option, Some, None, Ok, slice_get}
use Rattle.ws_value.specs.declared.ids.PipeId.{PipeId}
use Rattle.ws_value.specs.declared.ids.PromiseId.{PromiseId}
use Rattle.ws_value.specs.declared.ids.SignalId.{SignalId}
use Rattle.ws_value.specs.declared.ids.StreamId.{StreamId}
use Rattle.ws_value.specs.declared.value.Outcome.TheVariants.{Fulfilled}
use Rattle.ws_value.specs.declared.value.Plain.{Plain}
use Rattle.ws_steps.specs.declared.calls.Call.TheVariants.{Pipe}
use Rattle.ws_steps.specs.declared.calls.HostCall.{HostCall}
use Rattle.ws_steps.specs.declared.calls.HostCall.TheVariants.{Close, Flush}
use Rattle.ws_steps.specs.declared.effects.Owner.TheVariants.{Host}
use Rattle.ws_steps.specs.declared.promises.Job.TheVariants.{Reaction}
use Rattle.ws_steps.specs.declared.promises.Step.TheVariants.{TransformFlushed}
use Rattle.ws_steps.specs.declared.transform.Kind.TheVariants.{Host as HostKind}
use Rattle.ws_steps.specs.declared.transform.TransformId.{TransformId}
use Rattle.ws_steps.specs.declared.writable.WritableState.TheVariants.{Closed}
use Rattle.ws_steps.specs.declared.pipes.Prevent.{Prevent}
use Rattle.ws_steps.specs.Calls.{begin}
use Rattle.ws_steps.specs.Pipes as pipe
use Rattle.ws_steps.specs.Promises.{next_job, outcome_at}
use Rattle.ws_steps.specs.Slots.{Slots, empty, has_writable, owner_at, writable_at, transform_at}
use Rattle.ws_steps.specs.Run.{Entry, Called, run}
use Rattle.ws_steps.specs.Histories.{run_events}
use Rattle.ws_steps.specs.Laws.{AllFulfilled}
use Rattle.ws_steps.specs.WritableHistory.{run_writes}
use Rattle.ws_steps.specs.Writable.{is_closing, is_writable}
use Rattle.ws_pipe_laws.specs.pipes.PipeHistory.{run_course, promises_made, run_moments}
use Rattle.ws_end_laws.specs.hosts.HostCalls.{called, IsItsCall, AllEvents, WasSettledWell, WriteWasSettledWell}

-- The host calls of a run are as many as their promises that the slots keep, so the next gets the number that comes next. Each event that tells of
-- one, whether the host has taken it or not, has the number of this call. A longer run made the same calls first
pub record HasItsCalls (entries : List Entry) : Type 0 where
  pub numbered : length (run entries empty).hosts ≡ length (called entries)
  pub told : AllEvents (IsItsCall (called entries)) (run_events entries empty)
  pub untaken : AllEvents (IsItsCall (called entries)) (run entries empty).promises.events
  pub grows : (more : List Entry) → (rest : List HostCall) × (called (entries ++ more) ≡ called entries ++ rest)

abbrev pub EachEventIsItsCall : Type 0
EachEventIsItsCall = (entries : List Entry) → HasItsCalls entries

abbrev pub EachCloseWasSettled : Type 0
EachCloseWasSettled =
    (entries : List Entry) (j : StreamId) → owner_at j (run entries empty) ≡ Host → has_writable j (run entries empty) ≡ true → (writable_at j (run entries empty)).state ≡ Closed
    → WasSettledWell entries (Close j)

abbrev pub EachFlushWasSettled : Type 0
EachFlushWasSettled =
    (entries : List Entry) (t : TransformId) (p : PromiseId) (v : Plain) (derived : Option PromiseId)
    → let s : Slots = run entries empty in (transform_at t s).kind ≡ HostKind → next_job s.promises ≡ Some (Reaction (TransformFlushed t p) (Ok v) derived)
    → WasSettledWell entries (Flush (transform_at t s).readable)

abbrev pub EachWriteWasSettled : Type 0
EachWriteWasSettled = (entries : List Entry) (j : StreamId) (n : ℕ) → owner_at j (run entries empty) ≡ Host → n < (run_writes j entries empty).fulfilled → WriteWasSettledWell entries j n

-- A pipeTo of these streams after these entries: it makes the pipe of the next number, which closes its destination; and the destination is writable
-- and not closing
pub record MakesAPipe (before : List Entry) (source dest : StreamId) (prevent : Prevent) (signal : Option SignalId) : Type 0 where
  pub made : is_some (slice_get (begin (Pipe source dest prevent signal) (run before empty)).done.slots.pipes (length (run before empty).pipes)) ≡ true
  pub closes : prevent.close ≡ false
  pub writable : is_writable (writable_at dest (run before empty)).state ≡ true
  pub not_closing : is_closing (writable_at dest (run before empty)) ≡ false

-- the number of the next pipe
abbrev pub next_pipe : List Entry → PipeId
next_pipe before = record { 0 = length (run before empty).pipes }

-- a run, and in it a pipeTo
abbrev pub with_pipe : List Entry → StreamId → StreamId → Prevent → Option SignalId → List Entry → List Entry
with_pipe before source dest prevent signal after = before ++ Called (Pipe source dest prevent signal) ∷ after

-- the stream is closed, and the host settled its close algorithm well, where it is the host's
pub record IsClosedWell (entries : List Entry) (j : StreamId) : Type 0 where
  pub closed : (writable_at j (run entries empty)).state ≡ Closed
  pub settled : owner_at j (run entries empty) ≡ Host → WasSettledWell entries (Close j)

abbrev pub EachFulfilledPipeClosedItsDestination : Type 0
EachFulfilledPipeClosedItsDestination =
    (before after : List Entry) (source dest : StreamId) (prevent : Prevent) (signal : Option SignalId)
    → let entries : List Entry = with_pipe before source dest prevent signal after in
    MakesAPipe before source dest prevent signal → (run_course (next_pipe before) entries empty).ended ≡ None ∷ [] → IsClosedWell entries dest

abbrev pub EachWriteOfAFulfilledPipeSucceeded : Type 0
EachWriteOfAFulfilledPipeSucceeded =
    (entries : List Entry) (p : PipeId) (x : pipe.Slots) (v : Plain) → slice_get (run entries empty).pipes p.0 ≡ Some x
    → outcome_at (run entries empty).promises x.promise ≡ Some (Fulfilled v) → x.prevent.close ≡ false
    → AllFulfilled (run entries empty).promises (promises_made p (run_moments entries empty))
