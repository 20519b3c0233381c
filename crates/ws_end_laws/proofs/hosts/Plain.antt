-- What each effect does to promises but for the two that react, and what it does to the calls that the host hasn't settled.
use Rattle.std.proofs.Common.{◌∙◌, ◌≡◌, false, List, [], ◌∷◌, ◌++◌, Option, Some, None, Result, refl, sym, slice_get, append-nil}
use Rattle.ws_steps.specs.declared.effects.Effect.TheVariants.{Port}
use Rattle.ws_laws.proofs.TeeDoes.{tee-does}
use Rattle.ws_steps.specs.Operations.{tee_operation, port_operation}
use Rattle.ws_steps.specs.Slots.{on_tee_at, on_port_at, clones_at}
use Rattle.ws_steps.specs.Tee as tee
use Rattle.ws_steps.specs.declared.tee.TeeOperation.{TeeOperation}
use Rattle.ws_value.specs.declared.ids.TeeId.{TeeId}
use Rattle.std.specs.Prelude.{Err}
use Rattle.ws_value.specs.declared.ids.PipeId.{PipeId}
use Rattle.ws_value.specs.declared.ids.PromiseId.{PromiseId}
use Rattle.ws_value.specs.declared.ids.SignalId.{SignalId}
use Rattle.ws_value.specs.declared.ids.StreamId.{StreamId}
use Rattle.ws_value.specs.declared.value.Outcome.{Outcome}
use Rattle.ws_value.specs.declared.value.Outcome.TheVariants.{Given, Finished}
use Rattle.ws_value.specs.declared.value.Plain.{Plain}
use Rattle.ws_value.specs.declared.value.Plain.TheVariants.{Undefined}
use Rattle.ws_value.specs.declared.value.Value.TheVariants.{Plain as PlainValue}
use Rattle.ws_steps.specs.declared.{calls.Event.TheVariants.{Signal as Signalled}, calls.StartBy.TheVariants.{Now, Later}}
use Rattle.ws_steps.specs.declared.effects.Effect.{Effect}
use Rattle.ws_steps.specs.declared.effects.Effect.TheVariants.{Readable, Writable, Pipe, Signal, Transform, Tee, StartAlgorithm, ChunkSteps, CloseSteps, ErrorSteps, Give, Settle, Queue, CallHost}
use Rattle.ws_steps.specs.declared.{readable.ReadRequest.TheVariants.{Promise, Pipe as PipeRequest, Tee as TeeRequest}, pipes.PipeOperation.{PipeOperation}, pipes.SignalOperation.{SignalOperation}, promises.Micro.{Micro}, transform.TransformId.{TransformId}, transform.TransformOperation.{TransformOperation}}
use Rattle.ws_steps.specs.Effects.{Out}
use Rattle.ws_steps.specs.Promises.{Table, is_pending, fresh, settle, answer, queue_micro, tell, next_id}
use Rattle.ws_steps.specs.Operations.{writable_operation, pipe_operation, signal_operation, transform_operation}
use Rattle.ws_steps.specs.Slots.{Slots, Done, nothing, has_writable, found, ends_at, halves_at, put_writable, on_pipe_at, on_signal_at, on_transform_at}
use Rattle.ws_steps.specs.Turns.{row, call_host}
use Rattle.ws_steps.specs.Pipes as pipe
use Rattle.ws_steps.specs.Transform as transform
use Rattle.ws_laws.proofs.WritableDoes.{writable-does}
use Rattle.ws_laws.proofs.PipeDoes.{pipe-does}
use Rattle.ws_laws.proofs.TransformDoes.{transform-does}
use Rattle.ws_laws.proofs.Tables.{either, writable_acts}
use Rattle.ws_steps.specs.declared.effects.Effect.TheVariants.{Byte, CloseStepsWith}
use Rattle.ws_laws.proofs.Rows.{source-out, byte-out}
use Rattle.ws_laws.proofs.Apart.{source-leaves, byte-leaves}
use Rattle.ws_laws.proofs.ReadableDoes.{OfReadable}
use Rattle.ws_value.specs.declared.value.Value.TheVariants.{Bytes}
use Rattle.ws_value.specs.declared.ids.PortId.{PortId}
use Rattle.ws_value.specs.declared.value.Message.{Message}
use Rattle.ws_steps.specs.declared.calls.Event.TheVariants.{Post}
use Rattle.ws_steps.specs.declared.port.PortOperation.{PortOperation}
use Rattle.ws_steps.specs.Cross as cross
use Rattle.ws_laws.proofs.PortDoes.{port-does}

-- what goes on with each change of promises but for reactions, followings and the telling of a host call
pub record Plainly (T : Table → Type 0) : Type 0 where
  pub fresh : (t : Table) → T t → T (fresh t)
  pub settle : (t : Table) (p : PromiseId) (o : Result Plain Plain) → T t → T (settle p o t)
  pub answer : (t : Table) (p : PromiseId) (o : Outcome) → is_pending o ≡ false → T t → T (answer p o t)
  pub micro : (t : Table) (m : Micro) → T t → T (queue_micro m t)
  pub signal : (t : Table) (i : StreamId) (r : Plain) → T t → T (tell (Signalled i r) t)
  pub post : (t : Table) (c : PortId) (m : Message) → T t → T (tell (Post c m) t)

-- neither a promise is used, nor the host called
abbrev pub IsPlain : Effect → Type 0
IsPlain (Give gift u) = ⊥
IsPlain (CallHost call u) = ⊥
IsPlain _ = Unit {0}

module _ (T : Table → Type 0) (does : Plainly T) where
  pipe-plainly : (p : PipeId) (operation : PipeOperation) (s : Slots) (o : Option pipe.Slots) → T s.promises
      → T (on_pipe_at (λ ends. pipe_operation p ends operation) p s o).slots.promises
  pipe-plainly p operation s None h = h
  pipe-plainly p operation s (Some x) h =
      pipe-does T (record { fresh = does.fresh; settle = does.settle; micro = does.micro }) p (ends_at x s) operation (record { slots = x; out = found s }) h

  signal-plainly : (a : SignalId) (operation : SignalOperation) (s : Slots) (o : Option pipe.Signal) → T s.promises
      → T (on_signal_at (signal_operation operation) a s o).slots.promises
  signal-plainly a operation s None h = h
  signal-plainly a operation s (Some x) h = h

  transform-plainly : (t : TransformId) (operation : TransformOperation) (s : Slots) (o : Option transform.Slots) → T s.promises
      → T (on_transform_at (λ halves. transform_operation t halves operation) t s o).slots.promises
  transform-plainly t operation s None h = h
  transform-plainly t operation s (Some x) h =
      transform-does T (record { fresh = does.fresh; settle = does.settle }) t (halves_at x s) operation (record { slots = x; out = found s }) h

  tee-plainly : (t : TeeId) (operation : TeeOperation) (s : Slots) (o : Option tee.Slots) → T s.promises → T (on_tee_at (tee_operation t operation) t s o).slots.promises
  tee-plainly t operation s None h = h
  tee-plainly t operation s (Some x) h = tee-does T (record { fresh = does.fresh; micro = does.micro }) t operation (record { slots = x; out = found s }) h

  port-plainly : (c : PortId) (operation : PortOperation) (s : Slots) (o : Option cross.Slots) → T s.promises
      → T (on_port_at (λ clones. port_operation c clones operation) c s o).slots.promises
  port-plainly c operation s None h = h
  port-plainly c operation s (Some x) h =
      port-does T (record { fresh = does.fresh; settle = does.settle; post = does.post }) c (clones_at x s) operation (record { slots = x; out = found s }) h

  settles : (i : StreamId) → OfReadable (λ (x : Out). T x.promises) i
  settles i = record {
    settle = λ x p o h. does.settle x.promises p o h;
    pull = λ x h. h;
    cancel = λ x r p h. h;
    chunk = λ x r v h. h;
    close = λ x r h. h;
    error = λ x r e h. h;
  }

  pub row-plainly : (e : Effect) (s : Slots) → IsPlain e → T s.promises → T (row e s).slots.promises
  unfolding row
  row-plainly (Readable i operation) s n h = source-out (λ (x : Out). T x.promises) i (settles i) operation s h
  row-plainly (Byte i operation) s n h = byte-out (λ (x : Out). T x.promises) i (settles i) (λ x q b h. h) operation s h
  row-plainly (Writable i operation) s n h =
      either (λ (d : Done). T d.slots.promises) (has_writable i s) (put_writable i s (writable_operation i operation (writable_acts i s))) (nothing s)
      (λ e. writable-does (λ (x : Out). T x.promises) i (record {
        settle = λ x p o h. does.settle x.promises p o h;
        fresh = λ x h. does.fresh x.promises h;
        tell = λ x r h. does.signal x.promises i r h;
        write = λ x h. h;
        close = λ x h. h;
        abort = λ x r p h. h;
        hand_on = λ x v h. h;
        take = λ x v t d h. h;
        post = λ x v c d h. h;
      }) operation (writable_acts i s) h) (λ e. h)
  row-plainly (Pipe p operation) s n h = pipe-plainly p operation s (slice_get s.pipes p.0) h
  row-plainly (Signal a operation) s n h = signal-plainly a operation s (slice_get s.signals a.0) h
  row-plainly (Transform t operation) s n h = transform-plainly t operation s (slice_get s.transforms t.0) h
  row-plainly (Tee t operation) s n h = tee-plainly t operation s (slice_get s.tees t.0) h
  row-plainly (Port c operation) s n h = port-plainly c operation s (slice_get s.ports c.0) h
  row-plainly (StartAlgorithm i step Now) s n h = h
  row-plainly (StartAlgorithm i step Later) s n h = does.fresh s.promises h
  row-plainly (ChunkSteps i (Promise p) v) s n h = does.answer s.promises p (Given v) refl h
  row-plainly (CloseSteps i (Promise p)) s n h = does.answer s.promises p (Finished (PlainValue Undefined)) refl h
  row-plainly (CloseStepsWith i (Promise p) b) s n h = does.answer s.promises p (Finished (Bytes b)) refl h
  row-plainly (ErrorSteps i (Promise p) e) s n h = does.settle s.promises p (Err e) h
  row-plainly (ChunkSteps i (PipeRequest p) v) s n h = h
  row-plainly (ChunkSteps i (TeeRequest t) v) s n h = h
  row-plainly (CloseSteps i (PipeRequest p)) s n h = h
  row-plainly (CloseSteps i (TeeRequest t)) s n h = h
  row-plainly (CloseStepsWith i (PipeRequest p) b) s n h = h
  row-plainly (CloseStepsWith i (TeeRequest t) b) s n h = h
  row-plainly (ErrorSteps i (PipeRequest p) e) s n h = h
  row-plainly (ErrorSteps i (TeeRequest t) e) s n h = h
  row-plainly (Queue m) s n h = does.micro s.promises m h
  row-plainly (Give gift u) s n h = absurd n
  row-plainly (Settle p o) s n h = does.settle s.promises p o h
  row-plainly (CallHost call u) s n h = absurd n
  row-plainly _ s n h = h

-- the host's calls that it hasn't settled

pipe-hosts : (p : PipeId) (operation : PipeOperation) (s : Slots) (o : Option pipe.Slots)
    → (on_pipe_at (λ ends. pipe_operation p ends operation) p s o).slots.hosts ≡ s.hosts
pipe-hosts p operation s None = refl
pipe-hosts p operation s (Some x) = refl

signal-hosts : (a : SignalId) (operation : SignalOperation) (s : Slots) (o : Option pipe.Signal)
    → (on_signal_at (signal_operation operation) a s o).slots.hosts ≡ s.hosts
signal-hosts a operation s None = refl
signal-hosts a operation s (Some x) = refl

transform-hosts : (t : TransformId) (operation : TransformOperation) (s : Slots) (o : Option transform.Slots)
    → (on_transform_at (λ halves. transform_operation t halves operation) t s o).slots.hosts ≡ s.hosts
transform-hosts t operation s None = refl
transform-hosts t operation s (Some x) = refl

tee-hosts : (t : TeeId) (operation : TeeOperation) (s : Slots) (o : Option tee.Slots) → (on_tee_at (tee_operation t operation) t s o).slots.hosts ≡ s.hosts
tee-hosts t operation s None = refl
tee-hosts t operation s (Some x) = refl

port-hosts : (c : PortId) (operation : PortOperation) (s : Slots) (o : Option cross.Slots)
    → (on_port_at (λ clones. port_operation c clones operation) c s o).slots.hosts ≡ s.hosts
port-hosts c operation s None = refl
port-hosts c operation s (Some x) = refl

-- the promise of a host call, where an effect is one
abbrev pub host_added : Effect → Slots → List (Option PromiseId)
host_added (CallHost call u) s = Some (next_id s.promises) ∷ []
host_added _ s = []

-- an effect adds the promise of its host call, and leaves the others
pub row-hosts : (e : Effect) (s : Slots) → (row e s).slots.hosts ≡ s.hosts ++ host_added e s
unfolding row call_host
row-hosts (Readable i operation) s = source-leaves (λ z. z.hosts) (λ z x o. refl) i operation s ∙ sym (append-nil s.hosts)
row-hosts (Byte i operation) s = byte-leaves (λ z. z.hosts) (λ z x o. refl) i operation s ∙ sym (append-nil s.hosts)
row-hosts (Writable i operation) s =
    either (λ (d : Done). d.slots.hosts ≡ s.hosts ++ []) (has_writable i s) (put_writable i s (writable_operation i operation (writable_acts i s))) (nothing s)
    (λ e. sym (append-nil s.hosts)) (λ e. sym (append-nil s.hosts))
row-hosts (Pipe p operation) s = rw (append-nil s.hosts) (pipe-hosts p operation s (slice_get s.pipes p.0))
row-hosts (Signal a operation) s = rw (append-nil s.hosts) (signal-hosts a operation s (slice_get s.signals a.0))
row-hosts (Transform t operation) s = rw (append-nil s.hosts) (transform-hosts t operation s (slice_get s.transforms t.0))
row-hosts (Tee t operation) s = rw (append-nil s.hosts) (tee-hosts t operation s (slice_get s.tees t.0))
row-hosts (Port c operation) s = rw (append-nil s.hosts) (port-hosts c operation s (slice_get s.ports c.0))
row-hosts (StartAlgorithm i step Now) s = sym (append-nil s.hosts)
row-hosts (StartAlgorithm i step Later) s = sym (append-nil s.hosts)
row-hosts (ChunkSteps i (Promise p) v) s = sym (append-nil s.hosts)
row-hosts (CloseSteps i (Promise p)) s = sym (append-nil s.hosts)
row-hosts (CloseStepsWith i (Promise p) b) s = sym (append-nil s.hosts)
row-hosts (ErrorSteps i (Promise p) e) s = sym (append-nil s.hosts)
row-hosts (ChunkSteps i (PipeRequest p) v) s = sym (append-nil s.hosts)
row-hosts (ChunkSteps i (TeeRequest t) v) s = sym (append-nil s.hosts)
row-hosts (CloseSteps i (PipeRequest p)) s = sym (append-nil s.hosts)
row-hosts (CloseSteps i (TeeRequest t)) s = sym (append-nil s.hosts)
row-hosts (CloseStepsWith i (PipeRequest p) b) s = sym (append-nil s.hosts)
row-hosts (CloseStepsWith i (TeeRequest t) b) s = sym (append-nil s.hosts)
row-hosts (ErrorSteps i (PipeRequest p) e) s = sym (append-nil s.hosts)
row-hosts (ErrorSteps i (TeeRequest t) e) s = sym (append-nil s.hosts)
row-hosts (CallHost call u) s = refl
row-hosts _ s = sym (append-nil s.hosts)
