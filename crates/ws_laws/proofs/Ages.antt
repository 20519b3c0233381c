-- The age of a realm, over every run (`each_age_counts`).
use Rattle.std.proofs.Common.{◌≡◌, ◌+◌, ℕ, [], ◌∷◌, refl, sym, ◌∙◌, add-zero, arith}
use Rattle.ws_steps.specs.declared.{calls.Call.{Call}, calls.StartBy.TheVariants.{Now, Later}, calls.Reply.{Reply}, calls.Reply.TheVariants.{Promise}, effects.Effect.{Effect}}
use Rattle.ws_steps.specs.declared.{effects.Effect.TheVariants.{Readable, Byte, Writable, Pipe, Signal, Transform, Tee, Port, StartAlgorithm, ChunkSteps, CloseSteps, CloseStepsWith, ErrorSteps}, promises.Job.{Job}}
use Rattle.ws_steps.specs.declared.readable.ReadRequest.TheVariants.{Promise as PromiseRequest, Pipe as PipeRequest, Tee as TeeRequest}
use Rattle.std.specs.Prelude.{Option, Some, None, slice_get}
use Rattle.ws_value.specs.declared.ids.PipeId.{PipeId}
use Rattle.ws_value.specs.declared.ids.PortId.{PortId}
use Rattle.ws_value.specs.declared.ids.SignalId.{SignalId}
use Rattle.ws_value.specs.declared.ids.TeeId.{TeeId}
use Rattle.ws_steps.specs.declared.tee.TeeOperation.{TeeOperation}
use Rattle.ws_steps.specs.Tee as tee
use Rattle.ws_steps.specs.Cross as cross
use Rattle.ws_steps.specs.declared.port.PortOperation.{PortOperation}
use Rattle.ws_steps.specs.declared.{pipes.PipeOperation.{PipeOperation}, pipes.SignalOperation.{SignalOperation}, transform.TransformId.{TransformId}, transform.TransformOperation.{TransformOperation}}
use Rattle.ws_steps.specs.Operations.{pipe_operation, signal_operation, transform_operation, tee_operation, port_operation}
use Rattle.ws_steps.specs.Pipes as pipe
use Rattle.ws_steps.specs.Transform as transform
use Rattle.ws_steps.specs.Promises.{next_job}
use Rattle.ws_steps.specs.Slots.{Slots, Done, has_writable, on_pipe_at, on_signal_at, on_transform_at, on_tee_at, on_port_at}
use Rattle.ws_steps.specs.Turns.{row, performed, call_host}
use Rattle.ws_steps.specs.Jobs.{job_begun, begin_job}
use Rattle.ws_steps.specs.Calls.{begin, named}
use Rattle.ws_steps.specs.Run.{Called, Worked, step, run, after_call, after_job, performed_in}
use Rattle.ws_steps.specs.Laws.{EachAgeCounts}
use Rattle.ws_laws.proofs.Tables.{either}
use Rattle.ws_laws.proofs.Apart.{byte-leaves, source-leaves}
use Rattle.ws_laws.proofs.Begin.{begin-makes}
use Rattle.ws_laws.proofs.Walker.{untold, performed-goes}

pipe-age : (p : PipeId) (operation : PipeOperation) (s : Slots) (o : Option pipe.Slots) → (on_pipe_at (λ ends. pipe_operation p ends operation) p s o).slots.age ≡ s.age
pipe-age p operation s None = refl
pipe-age p operation s (Some x) = refl

signal-age : (a : SignalId) (operation : SignalOperation) (s : Slots) (o : Option pipe.Signal) → (on_signal_at (signal_operation operation) a s o).slots.age ≡ s.age
signal-age a operation s None = refl
signal-age a operation s (Some x) = refl

transform-age : (t : TransformId) (operation : TransformOperation) (s : Slots) (o : Option transform.Slots) → (on_transform_at (λ halves. transform_operation t halves operation) t s o).slots.age ≡ s.age
transform-age t operation s None = refl
transform-age t operation s (Some x) = refl

tee-age : (t : TeeId) (operation : TeeOperation) (s : Slots) (o : Option tee.Slots) → (on_tee_at (tee_operation t operation) t s o).slots.age ≡ s.age
tee-age t operation s None = refl
tee-age t operation s (Some x) = refl

port-age : (c : PortId) (operation : PortOperation) (s : Slots) (o : Option cross.Slots) → (on_port_at (λ clones. port_operation c clones operation) c s o).slots.age ≡ s.age
port-age c operation s None = refl
port-age c operation s (Some x) = refl

row-age : (e : Effect) (s : Slots) → (row e s).slots.age ≡ s.age
unfolding row call_host
row-age (Readable i operation) s = source-leaves (λ z. z.age) (λ z x o. refl) i operation s
row-age (Byte i operation) s = byte-leaves (λ z. z.age) (λ z x o. refl) i operation s
row-age (Writable i operation) s = either (λ (d : Done). d.slots.age ≡ s.age) (has_writable i s) _ _ (λ e. refl) (λ e. refl)
row-age (Pipe p operation) s = pipe-age p operation s (slice_get s.pipes p.0)
row-age (Signal a operation) s = signal-age a operation s (slice_get s.signals a.0)
row-age (Transform t operation) s = transform-age t operation s (slice_get s.transforms t.0)
row-age (Tee t operation) s = tee-age t operation s (slice_get s.tees t.0)
row-age (Port c operation) s = port-age c operation s (slice_get s.ports c.0)
row-age (StartAlgorithm i step Now) s = refl
row-age (StartAlgorithm i step Later) s = refl
row-age (ChunkSteps i (PromiseRequest p) v) s = refl
row-age (CloseSteps i (PromiseRequest p)) s = refl
row-age (ErrorSteps i (PromiseRequest p) e) s = refl
row-age (ChunkSteps i (PipeRequest p) v) s = refl
row-age (ChunkSteps i (TeeRequest t) v) s = refl
row-age (CloseSteps i (PipeRequest p)) s = refl
row-age (CloseSteps i (TeeRequest t)) s = refl
row-age (CloseStepsWith i (PromiseRequest p) b) s = refl
row-age (CloseStepsWith i (PipeRequest p) b) s = refl
row-age (CloseStepsWith i (TeeRequest t) b) s = refl
row-age (ErrorSteps i (PipeRequest p) e) s = refl
row-age (ErrorSteps i (TeeRequest t) e) s = refl
row-age _ s = refl

pub performed-age : (d : Done) → (performed d).age ≡ d.slots.age
performed-age d = performed-goes tt (λ f g. tt) untold (λ e s. tt) (λ h s es. s.age ≡ d.slots.age) (λ h s e es k. row-age e s ∙ k) tt d refl

pub begin-age : (c : Call) (s : Slots) → (begin c s).done.slots.age ≡ s.age
begin-age c s =
    begin-makes (λ z. z.age ≡ s.age) (record { promise = λ z h. h; locks = λ z ls h. h; hosts = λ z hs h. h; pipe = λ z i j p a q h. h; signal = λ z h. h; transform = λ z k i j p h. h; tee = λ z k i j p h. h; port = λ z d i p h. h; readable = λ z o m b h. h; bytes = λ z m a h. h; byob_requests = λ z r h. h; writable = λ z o m b h. h }) c s refl

pub named-age : (reply : Reply) (s : Slots) → (named reply s).age ≡ s.age
named-age (Promise p) s = refl
named-age _ s = refl

begun-age : (job : Option Job) (s : Slots) → (job_begun s job).slots.age ≡ s.age
begun-age None s = refl
begun-age (Some job) s = refl

pub begin_job-age : (s : Slots) → (begin_job s).slots.age ≡ s.age
unfolding begin_job
begin_job-age s = begun-age (next_job s.promises) s

one_older : (last end first : ℕ) → end ≡ first → last ≡ end + 1 → last ≡ first + 1
one_older last end first e l = omega arith

pub called-age : (c : Call) (s : Slots) → (after_call c s).age ≡ s.age + 1
called-age c s =
    let d : Done = (begin c s).done in
    one_older (after_call c s).age (named (begin c s).reply (performed d)).age s.age (named-age (begin c s).reply (performed d) ∙ (performed-age d ∙ begin-age c s)) refl

pub worked-age : (s : Slots) → (after_job s).age ≡ s.age + 1
worked-age s = one_older (after_job s).age (performed (begin_job s)).age s.age (performed-age (begin_job s) ∙ begin_job-age s) refl

one_more : (last next first more : ℕ) → last ≡ next + more → next ≡ first + 1 → last ≡ first + (1 + more)
one_more last next first more rest one = omega arith

pub each_age_counts : EachAgeCounts
each_age_counts s [] = sym (add-zero s.age)
each_age_counts s (Called c ∷ entries) =
    one_more (run entries (after_call c s)).age (after_call c s).age s.age (performed_in entries) (each_age_counts (after_call c s) entries) (called-age c s)
each_age_counts s (Worked ∷ entries) =
    one_more (run entries (after_job s)).age (after_job s).age s.age (performed_in entries) (each_age_counts (after_job s) entries) (worked-age s)
each_age_counts s (entry ∷ entries) = each_age_counts (step s entry) entries
