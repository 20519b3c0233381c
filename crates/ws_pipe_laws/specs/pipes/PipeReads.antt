-- What a pipe reads and passes on, and its course.
use Rattle.std.specs.Prelude.{ℕ, ◌+◌, ◌≡◌, ◌≢◌, ◌≤◌, ◌⊎◌, Bool, true, false, ◌&&◌, nat_eq, if◌then◌else◌, List, ◌∷◌, ◌++◌, length, Option, Some, None, slice_get, Result, []}
use Rattle.ws_value.specs.declared.ids.PipeId.{PipeId}
use Rattle.ws_value.specs.declared.ids.PromiseId.{PromiseId}
use Rattle.ws_value.specs.declared.ids.StreamId.{StreamId}
use Rattle.ws_value.specs.declared.value.Plain.{Plain}
use Rattle.ws_value.specs.declared.value.Value.{Value}
use Rattle.ws_steps.specs.declared.calls.Call.{Call}
use Rattle.ws_steps.specs.declared.effects.Effect.{Effect}
use Rattle.ws_steps.specs.declared.effects.Effect.TheVariants.{Readable as OnReadable, Writable as OnWritable, Pipe as OnPipe}
use Rattle.ws_steps.specs.declared.pipes.Ends.{Ends}
use Rattle.ws_steps.specs.declared.pipes.Phase.TheVariants.{Flowing, Waiting, Acting, Over}
use Rattle.ws_steps.specs.declared.pipes.PipeOperation.{PipeOperation}
use Rattle.ws_steps.specs.declared.pipes.PipeOperation.TheVariants.{WriteChunk}
use Rattle.ws_steps.specs.declared.readable.ReadRequest.{ReadRequest}
use Rattle.ws_steps.specs.declared.readable.ReadRequest.TheVariants.{Promise, Pipe as PipeRequest, Tee as TeeRequest}
use Rattle.ws_steps.specs.declared.readable.ReadableOperation.TheVariants.{Read}
use Rattle.ws_steps.specs.declared.writable.WritableOperation.TheVariants.{Write}
use Rattle.ws_steps.specs.Operations.{pipe_operation}
use Rattle.ws_pipe_laws.specs.pipes.PipeHistory.{shutdown, first_condition, is_look, is_live, error_after, Course, no_course, run_course, Through, operation_through, effect_through, step_through, run_through, operation_promises, run_given}
use Rattle.ws_steps.specs.Pipes.{Slots, Acts}
use Rattle.ws_steps.specs.Promises.{Table, next_id}
use Rattle.ws_steps.specs.Calls.{begin}
use Rattle.ws_steps.specs.Histories.{is_same, in_step}
use Rattle.ws_steps.specs.Jobs.{begin_job}
use Rattle.ws_steps.specs.Run.{Entry, run, step}
use Rattle.ws_steps.specs.Slots as realm
use Rattle.ws_steps.specs.Turns.{row}
use Rattle.ws_steps.specs.Writable as writable
use Rattle.ws_steps.specs.WritableHistory.{written_by, effect_piped}
use Rattle.ws_pipe_laws.specs.pipes.PipeMoves.{starting}

-- whether a request is the pipe's
abbrev pub is_of : PipeId → ReadRequest → ℕ
is_of p (Promise q) = 0
is_of p (PipeRequest q) = if nat_eq p.0 q.0 then 1 else 0
is_of p (TeeRequest t) = 0

-- reads of pipe p among effects
abbrev pub reads_started : PipeId → List Effect → ℕ
reads_started p [] = 0
reads_started p (OnReadable i (Read request) ∷ es) = is_of p request + reads_started p es
reads_started p (e ∷ es) = reads_started p es

-- A read may start: a look, in phase flowing, at streams of which no condition holds, while no read is under way and the writer's desired
-- size is above 0. The phase stays
pub record MayStart (ends : Ends) (operation : PipeOperation) (x y : Slots) : Type 0 where
  pub look : is_look operation ≡ true
  pub flowing : x.phase ≡ Flowing
  pub no_condition : first_condition x.prevent ends ≡ None
  pub idle : x.reading ≡ false
  pub wants : ends.dest_wants ≡ true
  pub stays : y.phase ≡ Flowing
  pub reads : y.reading ≡ true

abbrev pub EachReadMayStart : Type 0
EachReadMayStart =
    (p : PipeId) (ends : Ends) (operation : PipeOperation) (x : Slots) (t : Table)
    → let b : Acts = pipe_operation p ends operation (starting x t) in
    (reads_started p b.out.effects ≡ 0) ⊎ ((reads_started p b.out.effects ≡ 1) × MayStart ends operation x b.slots)

abbrev pub NoOtherStartsARead : Type 0
NoOtherStartsARead =
    (p : PipeId) (e : Effect) (s : realm.Slots) → ((operation : PipeOperation) → e ≢ OnPipe p operation) → reads_started p (row e s).caused ≡ 0

-- no call and no job begins with a read of pipe p
pub record BeginsWithoutARead (p : PipeId) (s : realm.Slots) : Type 0 where
  pub call : (c : Call) → reads_started p (begin c s).done.caused ≡ 0
  pub job : reads_started p (begin_job s).caused ≡ 0

abbrev pub NoneBeginsWithARead : Type 0
NoneBeginsWithARead = (p : PipeId) (s : realm.Slots) → BeginsWithoutARead p s

-- an ended pipe: it ended without an action, with the error of its shutdown; or it ended after the action of its shutdown, whose outcome
-- was o
pub data HasEnded (h : Course) (x : Slots) : Type 0 where
  WithoutAction : x.action ≡ None → h ≡ record { shutdowns = shutdown x.action x.error ∷ []; acted = []; ended = x.error ∷ [] } → HasEnded h x
  AfterAction : (o : Result Plain Plain) → x.action ≢ None
      → h ≡ record { shutdowns = shutdown x.action x.error ∷ []; acted = x.action ∷ []; ended = error_after x.error o ∷ [] } → HasEnded h x

-- the course of a pipe by its phase
pub record IsCourse (h : Course) (x : Slots) : Type 0 where
  pub flowing : x.phase ≡ Flowing → h ≡ no_course
  pub waiting : x.phase ≡ Waiting → h ≡ record { shutdowns = shutdown x.action x.error ∷ []; acted = []; ended = [] }
  pub acting : x.phase ≡ Acting → (x.action ≢ None) × (h ≡ record { shutdowns = shutdown x.action x.error ∷ []; acted = x.action ∷ []; ended = [] })
  pub over : x.phase ≡ Over → HasEnded h x

-- where there is no pipe, nothing has happened to it
abbrev pub IsCourseAt : Course → Option Slots → Type 0
IsCourseAt h None = h ≡ no_course
IsCourseAt h (Some x) = IsCourse h x

abbrev pub EachPipeHasACourse : Type 0
EachPipeHasACourse =
    (entries : List Entry) (p : PipeId) → IsCourseAt (run_course p entries realm.empty) (slice_get (run entries realm.empty).pipes p.0)

-- the reads of pipe p that an effect starts
abbrev pub effect_started : PipeId → Effect → realm.Slots → ℕ
effect_started p e s = reads_started p (row e s).caused

-- that start in a step
abbrev pub step_started : PipeId → realm.Slots → Entry → ℕ
step_started p s x = in_step 0 ◌+◌ (effect_started p) s x

abbrev pub NoReadStartsOnceShut : Type 0
NoReadStartsOnceShut =
    (s : realm.Slots) (x : Entry) (p : PipeId) → (realm.pipe_at p (step s x)).phase ≢ Flowing → step_started p s x ≡ 0

abbrev pub held_values : Option Value → List Value
held_values None = []
held_values (Some v) = v ∷ []

-- 1 where it is so
abbrev pub one_if : Bool → ℕ
one_if true = 1
one_if false = 0

-- what was read, and what became of it
pub record IsPassing (h : Through) (x : Slots) : Type 0 where
  pub all : h.read ≡ h.passed ++ (h.dropped ++ held_values x.held)
  pub live : is_live x.phase ≡ true → h.dropped ≡ []
  pub one : length h.dropped + one_if x.reading ≤ 1

abbrev pub EachPipePasses : Type 0
EachPipePasses = (entries : List Entry) (p : PipeId) → IsPassing (run_through p entries realm.empty) (realm.pipe_at p (run entries realm.empty))

-- a first part of these, which is shorter by at most one
pub record IsShorterByOne (passed read : List Value) : Type 0 where
  pub rest : List Value
  pub front : passed ++ rest ≡ read
  pub one : length rest ≤ 1

abbrev pub EachPipePassesAFront : Type 0
EachPipePassesAFront =
    (entries : List Entry) (p : PipeId) → let h : Through = run_through p entries realm.empty in IsShorterByOne h.passed h.read

-- the reads of pipe p that wait: among requests, and in all streams

abbrev pub in_requests : PipeId → List ReadRequest → ℕ
in_requests p [] = 0
in_requests p (q ∷ qs) = is_of p q + in_requests p qs

abbrev pub in_stream : PipeId → realm.Stream → ℕ
in_stream p (realm.ReadableStream r) = in_requests p r.requests
in_stream p (realm.ByteStream b) = in_requests p b.stream.requests
in_stream p (realm.WritableStream w) = 0

abbrev pub in_streams : PipeId → List realm.Stream → ℕ
in_streams p [] = 0
in_streams p (x ∷ xs) = in_stream p x + in_streams p xs

abbrev pub OneReadWaitsAtMost : Type 0
OneReadWaitsAtMost =
    (entries : List Entry) (p : PipeId) → let s : realm.Slots = run entries realm.empty in
    in_streams p s.streams + length (held_values (realm.pipe_at p s).held) ≤ one_if (realm.pipe_at p s).reading

-- the writes among effects: their chunks, their promises, and whether each is of this stream

abbrev pub chunks_written : List Effect → List Value
chunks_written [] = []
chunks_written (OnWritable i (Write v d) ∷ es) = v ∷ chunks_written es
chunks_written (e ∷ es) = chunks_written es

abbrev pub promises_written : List Effect → List PromiseId
promises_written [] = []
promises_written (OnWritable i (Write v d) ∷ es) = d ∷ promises_written es
promises_written (e ∷ es) = promises_written es

abbrev pub are_written_to : StreamId → List Effect → Bool
are_written_to i [] = true
are_written_to i (OnWritable j (Write v d) ∷ es) = is_same i j && are_written_to i es
are_written_to i (e ∷ es) = are_written_to i es

pub record IsWritten (operation : PipeOperation) (x : Slots) (t : Table) (es : List Effect) : Type 0 where
  pub chunks : chunks_written es ≡ (operation_through operation x).passed
  pub promises : promises_written es ≡ operation_promises operation x (next_id t)
  pub dest : are_written_to x.dest es ≡ true

abbrev pub EachPassIsAWrite : Type 0
EachPassIsAWrite =
    (p : PipeId) (ends : Ends) (operation : PipeOperation) (x : Slots) (t : Table)
    → IsWritten operation x t (pipe_operation p ends operation (starting x t)).out.effects

abbrev pub EachStepPasses : Type 0
EachStepPasses =
    (entries : List Entry) (x : Entry) (p : PipeId)
    → let s : realm.Slots = run entries realm.empty in
    let h : Through = step_through p s x in
    is_live (realm.pipe_at p s).phase ≡ true
    → held_values (realm.pipe_at p s).held ++ h.read ≡ h.passed ++ held_values (realm.pipe_at p (step s x)).held

abbrev pub EachPipeReadsItsSource : Type 0
EachPipeReadsItsSource =
    (entries : List Entry) (p : PipeId) (i : StreamId)
    → let source : StreamId = (realm.pipe_at p (run entries realm.empty)).source in
    run_given i p entries realm.empty ≡ (if is_same i source then (run_through p entries realm.empty).read else [])

-- these chunks, where the stream doesn't refuse a write
abbrev pub appended_by : writable.Slots → List Value → List Value
appended_by w [] = []
appended_by w (v ∷ vs) = written_by v w ++ appended_by w vs

-- in this step pipe p passes nothing on and starts no read
pub record IsStill (p : PipeId) (s : realm.Slots) (x : Entry) : Type 0 where
  pub passed : (step_through p s x).passed ≡ []
  pub started : step_started p s x ≡ 0

abbrev pub NonePassesOnceActing : Type 0
NonePassesOnceActing =
    (s : realm.Slots) (x : Entry) (p : PipeId) (y : Slots)
    → slice_get s.pipes p.0 ≡ Some y → is_live y.phase ≡ false → IsStill p s x

abbrev pub EachPassIsAppended : Type 0
EachPassIsAppended =
    (s : realm.Slots) (p : PipeId) (i : StreamId)
    → let x : Slots = realm.pipe_at p s in
    let write : Effect = OnPipe p WriteChunk in
    effect_piped i write s ≡ (if is_same i x.dest then appended_by (realm.writable_at x.dest s) (effect_through p write s).passed else [])
