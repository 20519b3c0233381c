-- What a pipeTo makes and answers.
use Rattle.std.specs.Prelude.{◌+◌, ◌≡◌, ◌≤◌, Bool, true, false, ◌||◌, is_some, List, [], ◌∷◌, ◌++◌, length, Option, Some, None, slice_get}
use Rattle.ws_value.specs.declared.ids.PipeId.{PipeId}
use Rattle.ws_value.specs.declared.ids.PromiseId.{PromiseId}
use Rattle.ws_value.specs.declared.ids.SignalId.{SignalId}
use Rattle.ws_value.specs.declared.ids.StreamId.{StreamId}
use Rattle.ws_value.specs.declared.value.Outcome.TheVariants.{Rejected}
use Rattle.ws_value.specs.declared.value.Plain.{Plain}
use Rattle.ws_steps.specs.declared.calls.Call.{Call}
use Rattle.ws_steps.specs.declared.calls.Call.TheVariants.{Pipe as PipeCall}
use Rattle.ws_steps.specs.declared.calls.Reply.TheVariants.{Promise as Named, Throws}
use Rattle.ws_steps.specs.declared.calls.Thrown.TheVariants.{Unsupported}
use Rattle.ws_steps.specs.declared.effects.Effect.{Effect}
use Rattle.ws_steps.specs.declared.effects.Effect.TheVariants.{Readable as OnReadable, Writable as OnWritable, Pipe as OnPipe, Signal as OnSignal, Give, Queue}
use Rattle.ws_steps.specs.declared.effects.Gift.TheVariants.{This}
use Rattle.ws_steps.specs.declared.effects.Use.TheVariants.{React}
use Rattle.ws_steps.specs.declared.pipes.PipeOperation.TheVariants.{Abort}
use Rattle.ws_steps.specs.declared.pipes.Prevent.{Prevent}
use Rattle.ws_steps.specs.declared.pipes.SignalOperation.TheVariants.{Add}
use Rattle.ws_steps.specs.declared.promises.Micro.TheVariants.{PipeLook}
use Rattle.ws_steps.specs.declared.promises.Step.TheVariants.{PipeEnds}
use Rattle.ws_steps.specs.declared.readable.ReadableOperation.TheVariants.{InitializeReader, Disturb}
use Rattle.ws_steps.specs.declared.writable.WritableOperation.TheVariants.{SetUpWriter}
use Rattle.ws_steps.specs.Calls.{begin}
use Rattle.ws_steps.specs.Effects.{type_error}
use Rattle.ws_steps.specs.Pipes as pipe
use Rattle.ws_steps.specs.Promises.{next_id, fresh, outcome_at}
use Rattle.ws_steps.specs.Run.{after_call, reply_to}
use Rattle.ws_steps.specs.Slots.{Slots, has_source, has_writable, has_signal, source_at, writable_at, signal_at}
use Rattle.ws_pipe_laws.specs.pipes.PipeMoves.{IsNewPipe, IsThere}

-- there is the signal, where one is named
abbrev pub has_signal_where : Option SignalId → Slots → Bool
has_signal_where None s = true
has_signal_where (Some a) s = has_signal a s

-- the source has a reader, or the destination a writer
abbrev pub is_either_locked : StreamId → StreamId → Slots → Bool
is_either_locked from to s = is_some (source_at from s).reader || is_some (writable_at to s).writer

-- nothing of a shutdown is known of it yet
pub record IsUntouched (y : pipe.Slots) : Type 0 where
  pub action : y.action ≡ None
  pub error : y.error ≡ None
  pub parts : y.parts ≡ 0
  pub whole : y.whole ≡ None

-- how pipe p goes on once it has its ends: where its signal was triggered, it is aborted with that reason; else its signal has it, it reacts to the
-- closed promises of its reader and of its writer, and a microtask looks

abbrev pub is_added : PipeId → Option SignalId → List Effect
is_added p None = []
is_added p (Some a) = OnSignal a (Add p) ∷ []

abbrev pub hears_end : PipeId → PromiseId → Effect
hears_end p d = Give (This d) (React (PipeEnds p) None)

abbrev pub goes_on_by : PipeId → PromiseId → PromiseId → Option SignalId → Option Plain → List Effect
goes_on_by p reader writer signal (Some r) = OnPipe p (Abort r) ∷ []
goes_on_by p reader writer signal None = is_added p signal ++ (hears_end p reader ∷ hears_end p writer ∷ Queue (PipeLook p) ∷ [])

abbrev pub reason_of : Option SignalId → Slots → Option Plain
reason_of None s = None
reason_of (Some a) s = (signal_at a s).reason

-- its reader takes the source, its writer the destination, and the source is disturbed; and then it goes on
abbrev pub first_effects : StreamId → StreamId → Option SignalId → Slots → List Effect
first_effects from to by s =
    let reader : PromiseId = next_id s.promises in
    let ready : PromiseId = next_id (fresh s.promises) in
    let closed : PromiseId = next_id (fresh (fresh s.promises)) in
    OnReadable from (InitializeReader reader)
    ∷ OnWritable to (SetUpWriter (record { ready = ready; closed = closed }))
    ∷ OnReadable from Disturb
    ∷ goes_on_by (record { 0 = length s.pipes }) reader closed by (reason_of by s)

-- the call makes one pipe, whose number is that of the pipes before, and answers its promise, which is new; and once it has answered, the pipe is
-- there, and it is the only one that was made
pub record MakesItsPipe (from to : StreamId) (not_to : Prevent) (by : Option SignalId) (s : Slots) : Type 0 where
  pub pipe : pipe.Slots
  pub new : IsNewPipe from to not_to by (reply_to (PipeCall from to not_to by) s) pipe
  pub untouched : IsUntouched pipe
  pub fresh : (next_id s.promises).0 ≤ pipe.promise.0
  pub made : (begin (PipeCall from to not_to by) s).done.slots.pipes ≡ s.pipes ++ pipe ∷ []
  pub effects : (begin (PipeCall from to not_to by) s).done.caused ≡ first_effects from to by s
  pub there : IsThere pipe (slice_get (after_call (PipeCall from to not_to by) s).pipes (length s.pipes))
  pub only : length (after_call (PipeCall from to not_to by) s).pipes ≡ length s.pipes + 1

-- the call makes none, and answers a new promise, which is rejected with a TypeError
pub record IsRejected (c : Call) (s : Slots) : Type 0 where
  pub reply : reply_to c s ≡ Named (next_id s.promises)
  pub outcome : outcome_at (after_call c s).promises (next_id s.promises) ≡ Some (Rejected type_error)
  pub none : (after_call c s).pipes ≡ s.pipes

-- what is asked of a pipeTo: where there are its streams and its signal, it makes its pipe where both streams are unlocked, and is rejected where
-- one is locked; and where one isn't there, it throws
pub record IsPipeCall (from to : StreamId) (not_to : Prevent) (by : Option SignalId) (s : Slots) : Type 0 where
  pub makes : has_source from s ≡ true → has_writable to s ≡ true → has_signal_where by s ≡ true → is_either_locked from to s ≡ false
      → MakesItsPipe from to not_to by s
  pub locked : has_source from s ≡ true → has_writable to s ≡ true → has_signal_where by s ≡ true → is_either_locked from to s ≡ true
      → IsRejected (PipeCall from to not_to by) s
  pub no_source : has_source from s ≡ false → reply_to (PipeCall from to not_to by) s ≡ Throws Unsupported
  pub no_dest : has_writable to s ≡ false → reply_to (PipeCall from to not_to by) s ≡ Throws Unsupported
  pub no_signal : has_signal_where by s ≡ false → reply_to (PipeCall from to not_to by) s ≡ Throws Unsupported

abbrev pub EachPipeCallMakesAPipe : Type 0
EachPipeCallMakesAPipe = (from to : StreamId) (not_to : Prevent) (by : Option SignalId) (s : Slots) → IsPipeCall from to not_to by s
