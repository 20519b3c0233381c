-- What is to be shown of an effect so that it holds of all that it causes.
use Rattle.std.proofs.Common.{ℕ, List, [], ◌∷◌, Option, Some, None, slice_get}
use Rattle.ws_value.specs.declared.ids.PipeId.{PipeId}
use Rattle.ws_value.specs.declared.ids.PortId.{PortId}
use Rattle.ws_value.specs.declared.ids.PromiseId.{PromiseId}
use Rattle.ws_value.specs.declared.ids.SignalId.{SignalId}
use Rattle.ws_value.specs.declared.ids.StreamId.{StreamId}
use Rattle.ws_value.specs.declared.ids.TeeId.{TeeId}
use Rattle.ws_value.specs.declared.value.Plain.{Plain}
use Rattle.ws_value.specs.declared.value.Plain.TheVariants.{Undefined}
use Rattle.ws_value.specs.declared.value.Value.{Value}
use Rattle.std.specs.Prelude.{Ok}
use Rattle.ws_steps.specs.declared.calls.Event.TheVariants.{Signal}
use Rattle.ws_steps.specs.declared.calls.HostCall.{HostCall}
use Rattle.ws_steps.specs.declared.calls.StartBy.{StartBy}
use Rattle.ws_steps.specs.declared.calls.StartBy.TheVariants.{Now, Later}
use Rattle.ws_steps.specs.declared.effects.Effect.{Effect}
use Rattle.ws_steps.specs.declared.effects.Effect.TheVariants.{Readable, Byte, Writable, Pipe, Signal, Transform, Tee, Port, StartAlgorithm, PullAlgorithm, CancelAlgorithm, WriteAlgorithm, CloseAlgorithm, AbortAlgorithm, ChunkSteps, CloseSteps, CloseStepsWith, ErrorSteps, Give, CallHost}
use Rattle.ws_steps.specs.declared.effects.Gift.{Gift}
use Rattle.ws_steps.specs.declared.effects.Gift.TheVariants.{Fresh}
use Rattle.ws_steps.specs.declared.effects.Owner.{Owner}
use Rattle.ws_steps.specs.declared.effects.Owner.TheVariants.{Host, HalfOf, BranchOf, EndOf}
use Rattle.ws_steps.specs.declared.effects.Use.{Use}
use Rattle.ws_steps.specs.declared.promises.Step.{Step}
use Rattle.ws_steps.specs.declared.readable.ReadRequest.{ReadRequest}
use Rattle.ws_steps.specs.declared.readable.ReadRequest.TheVariants.{Promise, Pipe as PipeRequest, Tee as TeeRequest}
use Rattle.ws_steps.specs.declared.pipes.PipeOperation.{PipeOperation}
use Rattle.ws_steps.specs.declared.pipes.PipeOperation.TheVariants.{KeepChunk, ReadEnded, Abort}
use Rattle.ws_steps.specs.declared.pipes.SignalOperation.{SignalOperation}
use Rattle.ws_steps.specs.declared.pipes.SignalOperation.TheVariants.{Add, Forget, Trigger}
use Rattle.ws_steps.specs.declared.transform.Taker.TheVariants.{ToHost}
use Rattle.ws_steps.specs.declared.transform.TransformId.{TransformId}
use Rattle.ws_steps.specs.declared.transform.TransformOperation.{TransformOperation}
use Rattle.ws_steps.specs.declared.writable.WritableOperation.TheVariants.{HandOn}
use Rattle.ws_steps.specs.declared.transform.TransformOperation.TheVariants as transforms
use Rattle.ws_steps.specs.declared.port.PortOperation.{PortOperation}
use Rattle.ws_steps.specs.declared.port.PortOperation.TheVariants as ports
use Rattle.ws_steps.specs.declared.tee.Half.{Half}
use Rattle.ws_steps.specs.declared.tee.TeeOperation.{TeeOperation}
use Rattle.ws_steps.specs.declared.tee.TeeOperation.TheVariants as tees
use Rattle.ws_steps.specs.Effects.{Out, cause}
use Rattle.ws_steps.specs.Operations.{readable_operation, byte_readable_operation, byte_operation, writable_operation, pipe_operation, signal_operation, transform_operation, tee_operation, port_operation}
use Rattle.ws_steps.specs.Slots.{Slots, Done, nothing, has_readable, has_byte, has_writable, owner_at, found, ends_at, halves_at, put_readable, put_byte, put_writable, on_readable, on_byte, on_pipe_at, on_signal_at, on_transform_at, on_tee_at, on_port_at, clones_at}
use Rattle.ws_steps.specs.Turns.{row, start_algorithm, pull_algorithm, cancel_algorithm, write_algorithm, close_algorithm, abort_algorithm}
use Rattle.ws_steps.specs.Writable.{write_to_host}
use Rattle.ws_steps.specs.Pipes as pipe
use Rattle.ws_steps.specs.Transform as transform
use Rattle.ws_steps.specs.Tee as tee
use Rattle.ws_steps.specs.Cross as cross
use Rattle.ws_steps.specs.Pipes.{abort_all, trigger_unless}
use Rattle.ws_laws.proofs.Lists.{Each, each-append, each-map}
use Rattle.ws_laws.proofs.ReadableDoes.{OfReadable, readable-does}
use Rattle.ws_laws.proofs.ByteDoes.{byte_readable-does, byte-does}
use Rattle.ws_laws.proofs.WritableDoes.{writable-does}
use Rattle.ws_laws.proofs.PipeDoes.{PipeCauses, pipe-causes}
use Rattle.ws_laws.proofs.TransformDoes.{TransformCauses, transform-causes}
use Rattle.ws_laws.proofs.TeeDoes.{TeeCauses, tee-causes}
use Rattle.ws_laws.proofs.PortDoes.{PortCauses, port-causes}
use Rattle.ws_laws.proofs.Tables.{either, readable_acts, byte_acts, writable_acts}

-- what is to be shown of the effects that an operation of readable stream i may cause
pub record ReadableCauses (P : Effect → Type 0) (i : StreamId) : Type 0 where
  pub pull : P (PullAlgorithm i)
  pub cancel : (r : Plain) (p : PromiseId) → P (CancelAlgorithm i r p)
  pub chunk : (request : ReadRequest) (v : Value) → P (ChunkSteps i request v)
  pub close : (request : ReadRequest) → P (CloseSteps i request)
  pub error : (request : ReadRequest) (e : Plain) → P (ErrorSteps i request e)

-- and one of the byte controller of stream i
pub record ByteCauses (P : Effect → Type 0) (i : StreamId) : Type 0 where
  pub readable : ReadableCauses P i
  pub close_with : (request : ReadRequest) (b : List ℕ) → P (CloseStepsWith i request b)

-- and one of writable stream i
pub record WritableCauses (P : Effect → Type 0) (i : StreamId) : Type 0 where
  pub write : P (WriteAlgorithm i)
  pub close : P (CloseAlgorithm i)
  pub abort : (r : Plain) (p : PromiseId) → P (AbortAlgorithm i r p)
  pub hand_on : (v : Value) → P (write_to_host i v)
  pub take : (v : Value) (t : TransformId) (d : PromiseId) → P (Transform t (transforms.TransformChunk v d))
  pub post : (v : Value) (c : PortId) (d : PromiseId) → P (Port c (ports.PostChunk v d))

-- the steps of a read request
abbrev pub ChunkCauses : (Effect → Type 0) → Value → ReadRequest → Type 0
ChunkCauses P v (Promise p) = Unit {0}
ChunkCauses P v (PipeRequest p) = P (Pipe p (KeepChunk v))
ChunkCauses P v (TeeRequest t) = P (Tee t (tees.KeepChunk v))

abbrev pub EndCauses : (Effect → Type 0) → ReadRequest → Type 0
EndCauses P (Promise p) = Unit {0}
EndCauses P (PipeRequest p) = P (Pipe p ReadEnded)
EndCauses P (TeeRequest t) = P (Tee t tees.SourceClosed)

abbrev pub ErrorCauses : (Effect → Type 0) → ReadRequest → Type 0
ErrorCauses P (Promise p) = Unit {0}
ErrorCauses P (PipeRequest p) = P (Pipe p ReadEnded)
ErrorCauses P (TeeRequest t) = P (Tee t tees.SourceErrored)

-- an operation of a signal
abbrev pub SignalCauses : (Effect → Type 0) → SignalOperation → Type 0
SignalCauses P (Trigger r) = (p : PipeId) → P (Pipe p (Abort r))
SignalCauses P operation = Unit {0}

-- an algorithm is the host's, or that of a half of a transform stream, or of the end of a port
abbrev pub AlgorithmCauses : (Effect → Type 0) → (Use → TransformOperation) → (Use → PortOperation) → Type 0
AlgorithmCauses P half end =
    ((call : HostCall) (u : Use) → P (CallHost call u))
    × (((t : TransformId) (u : Use) → P (Transform t (half u))) × ((c : PortId) (u : Use) → P (Port c (end u))))

-- or that of a branch of a tee
abbrev pub PullCauses : (Effect → Type 0) → Type 0
PullCauses P =
    ((call : HostCall) (u : Use) → P (CallHost call u))
    × (((t : TransformId) (u : Use) → P (Transform t (transforms.SourcePull u)))
    × (((t : TeeId) → P (Tee t tees.PullBranch)) × (((u : Use) → P (Give (Fresh (Ok Undefined)) u)) × ((c : PortId) → P (Port c ports.Pull)))))

abbrev pub CancelCauses : (Effect → Type 0) → Plain → Type 0
CancelCauses P r =
    ((call : HostCall) (u : Use) → P (CallHost call u))
    × (((t : TransformId) (u : Use) → P (Transform t (transforms.SourceCancel r u)))
    × (((t : TeeId) (half : Half) (u : Use) → P (Tee t (tees.CancelBranch half r u)))
    × ((c : PortId) (u : Use) → P (Port c (ports.Leave r u)))))

-- and any effect
abbrev pub Causes : (Effect → Type 0) → Effect → Type 0
Causes P (Readable i operation) = ReadableCauses P i
Causes P (Byte i operation) = ByteCauses P i
Causes P (Writable i operation) = WritableCauses P i
Causes P (Pipe p operation) = (source dest : StreamId) (e : Effect) → PipeCauses p source dest e → P e
Causes P (Signal a operation) = SignalCauses P operation
Causes P (Transform t operation) = (writable readable : StreamId) (e : Effect) → TransformCauses t writable readable e → P e
Causes P (Tee t operation) = (source first second : StreamId) (e : Effect) → TeeCauses t source first second e → P e
Causes P (Port c operation) = (stream : StreamId) (e : Effect) → PortCauses c stream e → P e
Causes P (StartAlgorithm i step start) = ((gift : Gift) (u : Use) → P (Give gift u)) × ((call : HostCall) (u : Use) → P (CallHost call u))
Causes P (PullAlgorithm i) = PullCauses P
Causes P (CancelAlgorithm i r p) = CancelCauses P r
Causes P (WriteAlgorithm i) =
    P (Writable i (HandOn ToHost))
    × (((t : TransformId) (u : Use) → P (Transform t (transforms.SinkWrite u))) × ((c : PortId) (u : Use) → P (Port c (ports.Write u))))
Causes P (CloseAlgorithm i) = AlgorithmCauses P (λ u. transforms.SinkClose u) (λ u. ports.Close u)
Causes P (AbortAlgorithm i r p) = AlgorithmCauses P (λ u. transforms.SinkAbort r u) (λ u. ports.Leave r u)
Causes P (ChunkSteps i request v) = ChunkCauses P v request
Causes P (CloseSteps i request) = EndCauses P request
Causes P (CloseStepsWith i request b) = EndCauses P request
Causes P (ErrorSteps i request e) = ErrorCauses P request
Causes P _ = Unit {0}

module _ (P : Effect → Type 0) where
  each-cause : (e : Effect) → P e → (x : Out) → Each P x.effects → Each P (cause e x).effects
  each-cause e p x h = each-append P x.effects (e ∷ []) h (p, tt)

  started : (i : StreamId) (step : Step) (s : Slots) (start : StartBy) → Causes P (StartAlgorithm i step start) → Each P (start_algorithm i step s start).caused
  started i step s Now c = (c.0 _ _, tt)
  started i step s Later c = (c.1 _ _, (c.0 _ _, tt))

  pulled : (i : StreamId) (u : Use) (owner : Owner) → Causes P (PullAlgorithm i) → Each P (pull_algorithm i u owner)
  pulled i u Host c = (c.0 _ _, tt)
  pulled i u (HalfOf t) c = (c.1.0 t _, tt)
  pulled i u (BranchOf t half) c = (c.1.1.0 t, (c.1.1.1.0 _, tt))
  pulled i u (EndOf p) c = (c.1.1.1.1 p, (c.1.1.1.0 _, tt))

  cancelled : (i : StreamId) (r : Plain) (p : PromiseId) (u : Use) (owner : Owner) → Causes P (CancelAlgorithm i r p) → Each P (cancel_algorithm i r u owner)
  cancelled i r p u Host c = (c.0 _ _, tt)
  cancelled i r p u (HalfOf t) c = (c.1.0 t _, tt)
  cancelled i r p u (BranchOf t half) c = (c.1.1.0 t half _, tt)
  cancelled i r p u (EndOf q) c = (c.1.1.1 q _, tt)

  written : (i : StreamId) (owner : Owner) → Causes P (WriteAlgorithm i) → Each P (write_algorithm i owner)
  written i Host c = (c.0, tt)
  written i (HalfOf t) c = (c.1.0 t _, tt)
  written i (BranchOf t half) c = (c.0, tt)
  written i (EndOf p) c = (c.1.1 p _, tt)

  closed : (i : StreamId) (u : Use) (owner : Owner) → Causes P (CloseAlgorithm i) → Each P (close_algorithm i u owner)
  closed i u Host c = (c.0 _ _, tt)
  closed i u (HalfOf t) c = (c.1.0 t _, tt)
  closed i u (BranchOf t half) c = (c.0 _ _, tt)
  closed i u (EndOf p) c = (c.1.1 p _, tt)

  aborted : (i : StreamId) (r : Plain) (p : PromiseId) (u : Use) (owner : Owner) → Causes P (AbortAlgorithm i r p) → Each P (abort_algorithm i r u owner)
  aborted i r p u Host c = (c.0 _ _, tt)
  aborted i r p u (HalfOf t) c = (c.1.0 t _, tt)
  aborted i r p u (BranchOf t half) c = (c.0 _ _, tt)
  aborted i r p u (EndOf q) c = (c.1.1 q _, tt)

  piped : (p : PipeId) (operation : PipeOperation) (s : Slots) (o : Option pipe.Slots) → Causes P (Pipe p operation)
      → Each P (on_pipe_at (λ ends. pipe_operation p ends operation) p s o).caused
  piped p operation s None c = tt
  piped p operation s (Some x) c =
      let a : pipe.Acts = record { slots = x; out = found s } in
      each-map (PipeCauses p x.source x.dest) P (c x.source x.dest) _ (pipe-causes p (ends_at x s) operation a tt).1.1

  transformed : (t : TransformId) (operation : TransformOperation) (s : Slots) (o : Option transform.Slots) → Causes P (Transform t operation)
      → Each P (on_transform_at (λ halves. transform_operation t halves operation) t s o).caused
  transformed t operation s None c = tt
  transformed t operation s (Some x) c =
      let a : transform.Acts = record { slots = x; out = found s } in
      each-map (TransformCauses t x.writable x.readable) P (c x.writable x.readable) _ (transform-causes t (halves_at x s) operation a tt).1.1.1

  teed : (t : TeeId) (operation : TeeOperation) (s : Slots) (o : Option tee.Slots) → Causes P (Tee t operation)
      → Each P (on_tee_at (tee_operation t operation) t s o).caused
  teed t operation s None c = tt
  teed t operation s (Some x) c =
      let a : tee.Acts = record { slots = x; out = found s } in
      each-map (TeeCauses t x.source x.branch1 x.branch2) P (c x.source x.branch1 x.branch2) _ ((tee-causes t operation a).effects tt)

  ported : (p : PortId) (operation : PortOperation) (s : Slots) (o : Option cross.Slots) → Causes P (Port p operation)
      → Each P (on_port_at (λ clones. port_operation p clones operation) p s o).caused
  ported p operation s None c = tt
  ported p operation s (Some x) c =
      let a : cross.Acts = record { slots = x; out = found s } in
      each-map (PortCauses p x.stream) P (c x.stream) _ (port-causes p (clones_at x s) operation a tt).1.1

  aborting : (r : Plain) (ps : List PipeId) → Causes P (Signal (record { 0 = 0 }) (Trigger r)) → Each P (abort_all r ps)
  aborting r [] c = tt
  aborting r (p ∷ ps) c = (c p, aborting r ps c)

  triggered : (r : Plain) (x : pipe.Signal) (reason : Option Plain) → SignalCauses P (Trigger r) → Each P (trigger_unless r x reason).effects
  triggered r x (Some old) c = tt
  triggered r x None c = aborting r x.pipes c

  signalled : (a : SignalId) (operation : SignalOperation) (s : Slots) (o : Option pipe.Signal) → Causes P (Signal a operation)
      → Each P (on_signal_at (signal_operation operation) a s o).caused
  signalled a operation s None c = tt
  signalled a (Add p) s (Some x) c = tt
  signalled a (Forget p) s (Some x) c = tt
  signalled a (Trigger r) s (Some x) c = triggered r x x.reason c

  pub of-causes : (i : StreamId) → ReadableCauses P i → OfReadable (λ (x : Out). Each P x.effects) i
  of-causes i c = record {
    settle = λ x p o h. h;
    pull = λ x h. each-cause (PullAlgorithm i) c.pull x h;
    cancel = λ x r p h. each-cause (CancelAlgorithm i r p) (c.cancel r p) x h;
    chunk = λ x r v h. each-cause (ChunkSteps i r v) (c.chunk r v) x h;
    close = λ x r h. each-cause (CloseSteps i r) (c.close r) x h;
    error = λ x r e h. each-cause (ErrorSteps i r e) (c.error r e) x h;
  }

  pub row-causes : (e : Effect) (s : Slots) → Causes P e → Each P (row e s).caused
  unfolding row
  row-causes (Readable i operation) s c =
      either (λ (d : Done). Each P d.caused) (has_byte i s) (on_byte (byte_readable_operation i operation) i s) (on_readable (readable_operation i operation) i s)
      (λ is. either (λ (d : Done). Each P d.caused) (has_byte i s) (put_byte i s (byte_readable_operation i operation (byte_acts i s))) (nothing s)
      (λ there. byte_readable-does (λ (x : Out). Each P x.effects) i (of-causes i c) operation (byte_acts i s) tt) (λ absent. tt))
      (λ isnt. either (λ (d : Done). Each P d.caused) (has_readable i s) (put_readable i s (readable_operation i operation (readable_acts i s))) (nothing s)
      (λ there. readable-does (λ (x : Out). Each P x.effects) i (of-causes i c) operation (readable_acts i s) tt) (λ absent. tt))
  row-causes (Byte i operation) s c =
      either (λ (d : Done). Each P d.caused) (has_byte i s) (put_byte i s (byte_operation i operation (byte_acts i s))) (nothing s)
      (λ there. byte-does (λ (x : Out). Each P x.effects) i (of-causes i c.readable)
      (λ x q b h. each-cause (CloseStepsWith i q b) (c.close_with q b) x h) operation (byte_acts i s) tt) (λ absent. tt)
  row-causes (Writable i operation) s c =
      either (λ (d : Done). Each P d.caused) (has_writable i s) (put_writable i s (writable_operation i operation (writable_acts i s))) (nothing s)
      (λ there. writable-does (λ (x : Out). Each P x.effects) i (record {
        settle = λ x p o h. h;
        fresh = λ x h. h;
        tell = λ x r h. h;
        write = λ x h. each-cause (WriteAlgorithm i) c.write x h;
        close = λ x h. each-cause (CloseAlgorithm i) c.close x h;
        abort = λ x r p h. each-cause (AbortAlgorithm i r p) (c.abort r p) x h;
        hand_on = λ x v h. each-cause (write_to_host i v) (c.hand_on v) x h;
        take = λ x v t d h. each-cause (Transform t (transforms.TransformChunk v d)) (c.take v t d) x h;
        post = λ x v p d h. each-cause (Port p (ports.PostChunk v d)) (c.post v p d) x h;
      }) operation (writable_acts i s) tt) (λ absent. tt)
  row-causes (Pipe p operation) s c = piped p operation s (slice_get s.pipes p.0) c
  row-causes (Signal a operation) s c = signalled a operation s (slice_get s.signals a.0) c
  row-causes (Transform t operation) s c = transformed t operation s (slice_get s.transforms t.0) c
  row-causes (Tee t operation) s c = teed t operation s (slice_get s.tees t.0) c
  row-causes (Port p operation) s c = ported p operation s (slice_get s.ports p.0) c
  row-causes (StartAlgorithm i step start) s c = started i step s start c
  row-causes (PullAlgorithm i) s c = pulled i _ (owner_at i s) c
  row-causes (CancelAlgorithm i r p) s c = cancelled i r p _ (owner_at i s) c
  row-causes (WriteAlgorithm i) s c = written i (owner_at i s) c
  row-causes (CloseAlgorithm i) s c = closed i _ (owner_at i s) c
  row-causes (AbortAlgorithm i r p) s c = aborted i r p _ (owner_at i s) c
  row-causes (ChunkSteps i (Promise p) v) s c = tt
  row-causes (CloseSteps i (Promise p)) s c = tt
  row-causes (ErrorSteps i (Promise p) e) s c = tt
  row-causes (CloseStepsWith i (Promise p) b) s c = tt
  row-causes (CloseStepsWith i (PipeRequest p) b) s c = (c, tt)
  row-causes (ChunkSteps i (PipeRequest p) v) s c = (c, tt)
  row-causes (CloseSteps i (PipeRequest p)) s c = (c, tt)
  row-causes (ErrorSteps i (PipeRequest p) e) s c = (c, tt)
  row-causes (CloseStepsWith i (TeeRequest t) b) s c = (c, tt)
  row-causes (ChunkSteps i (TeeRequest t) v) s c = (c, tt)
  row-causes (CloseSteps i (TeeRequest t)) s c = (c, tt)
  row-causes (ErrorSteps i (TeeRequest t) e) s c = (c, tt)
  row-causes _ s c = tt
