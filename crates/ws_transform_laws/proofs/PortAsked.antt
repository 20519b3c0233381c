-- No effect asks for a write of a port to go on, but a write of that port, and one that goes on and has to wait once more.
use Rattle.std.proofs.Common.{◌≡◌, ℕ, nat_eq, Bool, false, List, [], ◌∷◌, Option, Some, None, slice_get, refl, arith}
use Rattle.ws_value.specs.declared.ids.{PipeId.{PipeId}, PromiseId.{PromiseId}, StreamId.{StreamId}}
use Rattle.ws_value.specs.declared.value.Plain.{Plain}
use Rattle.ws_steps.specs.declared.effects.{Effect.{Effect}, Owner.{Owner}, Owner.TheVariants.{Host, HalfOf, BranchOf, EndOf}, Use.TheVariants.{React}}
use Rattle.ws_steps.specs.declared.effects.Effect.TheVariants.{Readable as OnReadable, Writable as OnWritable, Pipe as OnPipe, Signal as OnSignal, Transform as OnTransform, Tee as OnTee, Port as OnPort, StartAlgorithm, PullAlgorithm, CancelAlgorithm, WriteAlgorithm, CloseAlgorithm, AbortAlgorithm, ChunkSteps, CloseSteps, ErrorSteps}
use Rattle.ws_steps.specs.declared.promises.Step.{Step}
use Rattle.ws_steps.specs.declared.transform.{TransformId.{TransformId}, TransformOperation.{TransformOperation}}
use Rattle.ws_steps.specs.declared.transform.TransformOperation.TheVariants as names
use Rattle.ws_value.specs.declared.ids.SignalId.{SignalId}
use Rattle.ws_steps.specs.declared.pipes.{PipeOperation.{PipeOperation}, SignalOperation.{SignalOperation}, SignalOperation.TheVariants.{Add, Forget, Trigger}}
use Rattle.ws_steps.specs.declared.readable.ReadableOperation.{ReadableOperation}
use Rattle.ws_steps.specs.declared.writable.WritableOperation.{WritableOperation}
use Rattle.ws_steps.specs.declared.transform.Halves.{Halves}
use Rattle.ws_steps.specs.Effects.{Out, cause}
use Rattle.ws_steps.specs.Operations.{writable_operation, pipe_operation, signal_operation, transform_operation, tee_operation, port_operation}
use Rattle.ws_steps.specs.Pipes as pipe
use Rattle.ws_steps.specs.Pipes.{abort_all}
use Rattle.ws_steps.specs.Transform as transform
use Rattle.ws_steps.specs.Writable.{write_to_host}
use Rattle.ws_steps.specs.declared.calls.{StartBy.{StartBy}, StartBy.TheVariants.{Now, Later}}
use Rattle.ws_steps.specs.declared.promises.Step.TheVariants.{PortUnblocked, ReadablePull, ReturnUndefined, WritableClose, WritableAbort}
use Rattle.ws_steps.specs.declared.readable.ReadRequest.TheVariants.{Promise, Pipe as PipeRequest, Tee as TeeRequest}
use Rattle.ws_steps.specs.Turns.{row, start_algorithm, pull_algorithm, cancel_algorithm, write_algorithm, close_algorithm, abort_algorithm}
use Rattle.ws_laws.proofs.Lists.{Each}
use Rattle.ws_laws.proofs.PipeDoes.{IsStepOf, PipeCauses, pipe-causes}
use Rattle.ws_laws.proofs.Tables.{either, writable_acts}
use Rattle.ws_laws.proofs.WritableDoes.{writable-does}
use Rattle.ws_steps.specs.Slots.{Slots, Done, nothing, found, ends_at, halves_at, owner_at, has_writable, put_writable, on_writable, on_pipe_at, on_signal_at, on_transform_at, on_tee_at, on_port_at, clones_at}
use Rattle.ws_writable_laws.proofs.Shape.{all, all-append, of_tee, of_port}
use Rattle.ws_writable_laws.proofs.Shape.{leads_to, of_transform}
use Rattle.ws_transform_laws.proofs.PortTurns.{post-effects}
use Rattle.ws_steps.specs.declared.port.PortOperation.TheVariants.{Write as WriteByPort, WriteGoesOn}
use Rattle.ws_writable_laws.proofs.Shape.{one_if}
use Rattle.ws_steps.specs.declared.effects.Effect.TheVariants.{Byte, CloseStepsWith}
use Rattle.ws_steps.specs.declared.byte.ByteOperation.{ByteOperation}
use Rattle.ws_steps.specs.Operations.{byte_operation}
use Rattle.ws_steps.specs.Slots.{on_byte}
use Rattle.ws_steps.specs.Turns.{on_source}
use Rattle.ws_laws.proofs.ReadableDoes.{OfReadable}
use Rattle.ws_laws.proofs.Rows.{source-out, byte-out}
use Rattle.ws_value.specs.declared.ids.TeeId.{TeeId}
use Rattle.ws_value.specs.declared.ids.PortId.{PortId}
use Rattle.ws_steps.specs.declared.tee.TeeOperation.{TeeOperation}
use Rattle.ws_steps.specs.declared.port.PortOperation.{PortOperation}
use Rattle.ws_steps.specs.Tee as tee
use Rattle.ws_steps.specs.Cross as cross
use Rattle.ws_steps.specs.declared.port.PortOperation.TheVariants.{PostChunk}

-- the step by which a write of port c goes on
abbrev pub unblocking : PortId → Step → ℕ
unblocking c (PortUnblocked u d) = one_if (nat_eq c.0 u.0)
unblocking c _ = 0

module _ (c : PortId) where
  abbrev pub asks : Effect → Bool
  asks (OnPort u (WriteByPort w)) = nat_eq c.0 u.0
  asks (OnPort u (WriteGoesOn d)) = nat_eq c.0 u.0
  asks _ = false

  -- what an effect causes that leads to none

  abbrev pub none_of : Slots → List Effect → ℕ
  none_of s es = all (leads_to (unblocking c)) es

  transform-none : (s : Slots) (u : TransformId) (halves : Halves) (operation : TransformOperation) (a : transform.Acts) → of_transform (unblocking c) operation ≡ 0 → a.out.effects ≡ [] → none_of s (transform_operation u halves operation a).out.effects ≡ 0
  unfolding transform.unblock transform.transform_error transform.terminate transform.enqueue transform.enqueued transform.transform_chunk transform.sink_write transform.write_goes_on transform.source_pull transform.set_backpressure transform.sink_close transform.sink_abort transform.source_cancel transform.flush_settled transform.abort_settled transform.cancel_settled
  transform-none s u halves operation a n none = grind (arith, n, none)

  pub on_transform-none : (s : Slots) (u : TransformId) (operation : TransformOperation) (o : Option transform.Slots) → of_transform (unblocking c) operation ≡ 0 → none_of s (on_transform_at (λ halves. transform_operation u halves operation) u s o).caused ≡ 0
  on_transform-none s u operation None n = refl
  on_transform-none s u operation (Some x) n = transform-none s u (halves_at x s) operation (record { slots = x; out = found s }) n refl

  tee-none : (s : Slots) (u : TeeId) (operation : TeeOperation) (a : tee.Acts) → of_tee (unblocking c) operation ≡ 0 → a.out.effects ≡ [] → none_of s (tee_operation u operation a).out.effects ≡ 0
  unfolding tee.pull_branch tee.keep_chunk tee.source_closed tee.source_errored tee.hand_chunk tee.handed tee.cancel_branch tee.reader_settled
  tee-none s u operation a n none = grind (arith, n, none)

  port-none : (s : Slots) (u : PortId) (clones : Bool) (operation : PortOperation) (a : cross.Acts) → asks (OnPort u operation) ≡ false → of_port (unblocking c) operation ≡ 0 → a.out.effects ≡ []
      → none_of s (port_operation u clones operation a).out.effects ≡ 0
  unfolding cross.pull cross.leave cross.close cross.write cross.write_goes_on cross.post_chunk cross.unblock cross.deliver
  port-none s u clones operation a other n none = grind (arith, other, n, none, post-effects)

  pub on_tee-none : (s : Slots) (u : TeeId) (operation : TeeOperation) (o : Option tee.Slots) → of_tee (unblocking c) operation ≡ 0 → none_of s (on_tee_at (tee_operation u operation) u s o).caused ≡ 0
  on_tee-none s u operation None n = refl
  on_tee-none s u operation (Some x) n = tee-none s u operation (record { slots = x; out = found s }) n refl

  pub on_port-none : (s : Slots) (u : PortId) (operation : PortOperation) (o : Option cross.Slots) → asks (OnPort u operation) ≡ false → of_port (unblocking c) operation ≡ 0
      → none_of s (on_port_at (λ clones. port_operation u clones operation) u s o).caused ≡ 0
  on_port-none s u operation None other n = refl
  on_port-none s u operation (Some x) other n = port-none s u (clones_at x s) operation (record { slots = x; out = found s }) other n refl

  pipe-step : (p : PipeId) (step : Step) → IsStepOf p step → unblocking c step ≡ 0
  pipe-step p step k = grind arith

  pipe-effect : (s : Slots) (p : PipeId) (source dest : StreamId) (e : Effect) → PipeCauses p source dest e → leads_to (unblocking c) e ≡ 0
  pipe-effect s p source dest e k = grind (arith, pipe-step)

  pipe-each : (s : Slots) (p : PipeId) (source dest : StreamId) (es : List Effect) → Each (PipeCauses p source dest) es → none_of s es ≡ 0
  pipe-each s p source dest [] k = refl
  pipe-each s p source dest (e ∷ es) k = let h = pipe-effect s p source dest e k.0 in let m = pipe-each s p source dest es k.1 in omega (arith, h, m)

  pub pipe-none : (s : Slots) (p : PipeId) (operation : PipeOperation) (o : Option pipe.Slots) → none_of s (on_pipe_at (λ ends. pipe_operation p ends operation) p s o).caused ≡ 0
  pipe-none s p operation None = refl
  pipe-none s p operation (Some x) =
      let a : pipe.Acts = record { slots = x; out = found s } in
      pipe-each s p x.source x.dest (pipe_operation p (ends_at x s) operation a).out.effects (pipe-causes p (ends_at x s) operation a tt).1.1

  abort_all-none : (s : Slots) (r : Plain) (ps : List PipeId) → none_of s (abort_all r ps) ≡ 0
  abort_all-none s r [] = refl
  abort_all-none s r (p ∷ ps) = let h = abort_all-none s r ps in omega (arith, h)

  signal-effects : (s : Slots) (operation : SignalOperation) (x : pipe.Signal) → none_of s (signal_operation operation x).effects ≡ 0
  signal-effects s (Add p) x = refl
  signal-effects s (Forget p) x = refl
  signal-effects s (Trigger r) x = by x.reason
    where
      by : (reason : Option Plain) → none_of s (pipe.trigger_unless r x reason).effects ≡ 0
      by None = abort_all-none s r x.pipes
      by (Some old) = refl

  pub signal-none : (s : Slots) (a : SignalId) (operation : SignalOperation) (o : Option pipe.Signal) → none_of s (on_signal_at (signal_operation operation) a s o).caused ≡ 0
  signal-none s a operation None = refl
  signal-none s a operation (Some x) = signal-effects s operation x

  causing-none : (s : Slots) (x : Out) (e : Effect) → leads_to (unblocking c) e ≡ 0 → none_of s x.effects ≡ 0 → none_of s (cause e x).effects ≡ 0
  causing-none s x e m n = let a = all-append (leads_to (unblocking c)) x.effects (e ∷ []) in omega arith

  pub writable-none : (s : Slots) (j : StreamId) (operation : WritableOperation) → none_of s (on_writable (writable_operation j operation) j s).caused ≡ 0
  writable-none s j operation =
      either (λ (d : Done). none_of s d.caused ≡ 0) (has_writable j s) (put_writable j s (writable_operation j operation (writable_acts j s))) (nothing s)
      (λ there. writable-does (λ (x : Out). none_of s x.effects ≡ 0) j (record {
        settle = λ x p o h. h;
        fresh = λ x h. h;
        tell = λ x r h. h;
        write = λ x h. causing-none s x (WriteAlgorithm j) refl h;
        close = λ x h. causing-none s x (CloseAlgorithm j) refl h;
        abort = λ x r p h. causing-none s x (AbortAlgorithm j r p) refl h;
        hand_on = λ x v h. causing-none s x (write_to_host j v) refl h;
        take = λ x v u d h. causing-none s x (OnTransform u (names.TransformChunk v d)) refl h;
        post = λ x v u d h. causing-none s x (OnPort u (PostChunk v d)) refl h;
      }) operation (writable_acts j s) refl) (λ none. refl)

  others-none : (s : Slots) (j : StreamId) → OfReadable (λ (x : Out). none_of s x.effects ≡ 0) j
  others-none s j = record {
    settle = λ x p o h. h;
    pull = λ x h. causing-none s x (PullAlgorithm j) refl h;
    cancel = λ x r p h. causing-none s x (CancelAlgorithm j r p) refl h;
    chunk = λ x q v h. causing-none s x (ChunkSteps j q v) refl h;
    close = λ x q h. causing-none s x (CloseSteps j q) refl h;
    error = λ x q e h. causing-none s x (ErrorSteps j q e) refl h;
  }

  pub other-readable : (s : Slots) (j : StreamId) (operation : ReadableOperation) → none_of s (on_source operation j s).caused ≡ 0
  other-readable s j operation = source-out (λ (x : Out). none_of s x.effects ≡ 0) j (others-none s j) operation s refl

  pub bytes-none : (s : Slots) (j : StreamId) (operation : ByteOperation) → none_of s (on_byte (byte_operation j operation) j s).caused ≡ 0
  bytes-none s j operation = byte-out (λ (x : Out). none_of s x.effects ≡ 0) j (others-none s j) (λ x q b h. causing-none s x (CloseStepsWith j q b) refl h) operation s refl

  -- algorithms, by whose they are

  pub start-none : (s z : Slots) (j : StreamId) (step : Step) (start : StartBy) → unblocking c step ≡ 0 → none_of s (start_algorithm j step z start).caused ≡ 0
  start-none s z j step Now n = omega arith
  start-none s z j step Later n = omega arith

  pub pull-none : (s : Slots) (j : StreamId) (owner : Owner) → none_of s (pull_algorithm j (React (ReadablePull j) None) owner) ≡ 0
  pull-none s j Host = refl
  pull-none s j (HalfOf u) = refl
  pull-none s j (BranchOf u half) = refl
  pull-none s j (EndOf u) = refl

  pub cancel-none : (s : Slots) (j : StreamId) (r : Plain) (p : PromiseId) (owner : Owner) → none_of s (cancel_algorithm j r (React ReturnUndefined (Some p)) owner) ≡ 0
  cancel-none s j r p Host = refl
  cancel-none s j r p (HalfOf u) = refl
  cancel-none s j r p (BranchOf u half) = refl
  cancel-none s j r p (EndOf u) = refl

  pub write-none : (s : Slots) (j : StreamId) (owner : Owner) → none_of s (write_algorithm j owner) ≡ 0
  write-none s j Host = refl
  write-none s j (HalfOf u) = refl
  write-none s j (BranchOf u half) = refl
  write-none s j (EndOf u) = refl

  pub close-none : (s : Slots) (j : StreamId) (owner : Owner) → none_of s (close_algorithm j (React (WritableClose j) None) owner) ≡ 0
  close-none s j Host = refl
  close-none s j (HalfOf u) = refl
  close-none s j (BranchOf u half) = refl
  close-none s j (EndOf u) = refl

  pub abort-none : (s : Slots) (j : StreamId) (r : Plain) (p : PromiseId) (owner : Owner) → none_of s (abort_algorithm j r (React (WritableAbort j p) None) owner) ≡ 0
  abort-none s j r p Host = refl
  abort-none s j r p (HalfOf u) = refl
  abort-none s j r p (BranchOf u half) = refl
  abort-none s j r p (EndOf u) = refl

  -- each effect
  pub row-none : (e : Effect) (s : Slots) → asks e ≡ false → leads_to (unblocking c) e ≡ 0 → none_of s (row e s).caused ≡ 0
  unfolding row
  row-none (OnReadable j operation) s o n = other-readable s j operation
  row-none (Byte j operation) s o n = bytes-none s j operation
  row-none (OnWritable j operation) s o n = writable-none s j operation
  row-none (OnPipe p operation) s o n = pipe-none s p operation (slice_get s.pipes p.0)
  row-none (OnSignal a operation) s o n = signal-none s a operation (slice_get s.signals a.0)
  row-none (OnTransform u operation) s o n = on_transform-none s u operation (slice_get s.transforms u.0) n
  row-none (OnTee u operation) s o n = on_tee-none s u operation (slice_get s.tees u.0) n
  row-none (OnPort u operation) s o n = on_port-none s u operation (slice_get s.ports u.0) o n
  row-none (StartAlgorithm j step start) s o n = start-none s s j step start n
  row-none (PullAlgorithm j) s o n = pull-none s j (owner_at j s)
  row-none (CancelAlgorithm j r p) s o n = cancel-none s j r p (owner_at j s)
  row-none (WriteAlgorithm j) s o n = write-none s j (owner_at j s)
  row-none (CloseAlgorithm j) s o n = close-none s j (owner_at j s)
  row-none (AbortAlgorithm j r p) s o n = abort-none s j r p (owner_at j s)
  row-none (ChunkSteps j (Promise p) v) s o n = refl
  row-none (CloseSteps j (Promise p)) s o n = refl
  row-none (CloseStepsWith j (Promise p) b) s o n = refl
  row-none (ErrorSteps j (Promise p) e) s o n = refl
  row-none (ChunkSteps j (PipeRequest p) v) s o n = refl
  row-none (ChunkSteps j (TeeRequest k) v) s o n = refl
  row-none (CloseSteps j (PipeRequest p)) s o n = refl
  row-none (CloseSteps j (TeeRequest k)) s o n = refl
  row-none (CloseStepsWith j (PipeRequest p) b) s o n = refl
  row-none (CloseStepsWith j (TeeRequest k) b) s o n = refl
  row-none (ErrorSteps j (PipeRequest p) e) s o n = refl
  row-none (ErrorSteps j (TeeRequest k) e) s o n = refl
  row-none _ s o n = refl
