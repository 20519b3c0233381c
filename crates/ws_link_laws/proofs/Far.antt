-- Effects by which nobody takes the source or the destination, reads from the one or writes to the other. They cause only such.
use Rattle.std.proofs.Common.{◌≡◌, true, false, List, ◌∷◌, ◌++◌, Some, slice_get, arith}
use Rattle.ws_value.specs.declared.ids.PipeId.{PipeId}
use Rattle.ws_value.specs.declared.ids.StreamId.{StreamId}
use Rattle.ws_steps.specs.declared.byte.ByteOperation.TheVariants.{InitializeByobReader}
use Rattle.ws_steps.specs.declared.effects.Effect.{Effect}
use Rattle.ws_steps.specs.declared.effects.Effect.TheVariants.{Readable as OnReadable, Writable as OnWritable, Pipe as OnPipe, Signal as OnSignal, Transform as OnTransform, Tee as OnTee, Port as OnPort, StartAlgorithm, PullAlgorithm, CancelAlgorithm, WriteAlgorithm, CloseAlgorithm, AbortAlgorithm, ChunkSteps, CloseSteps, ErrorSteps}
use Rattle.ws_steps.specs.declared.pipes.SignalOperation.{SignalOperation}
use Rattle.ws_steps.specs.declared.pipes.SignalOperation.TheVariants.{Add, Forget, Trigger}
use Rattle.ws_steps.specs.declared.promises.Job.{Job}
use Rattle.ws_steps.specs.declared.readable.ReadRequest.TheVariants.{Promise, Pipe as PipeRequest, Tee as TeeRequest}
use Rattle.ws_steps.specs.declared.readable.ReadableOperation.TheVariants as reads
use Rattle.ws_steps.specs.declared.writable.WritableOperation.TheVariants as writes
use Rattle.ws_transform_laws.proofs.Branches.{port-caused}
use Rattle.ws_steps.specs.declared.transform.TransformId.{TransformId}
use Rattle.ws_steps.specs.Histories.{is_same}
use Rattle.ws_steps.specs.Jobs.{job_effects}
use Rattle.ws_steps.specs.Run.{step}
use Rattle.ws_steps.specs.Slots.{Slots}
use Rattle.ws_steps.specs.Turns.{row}
use Rattle.ws_laws.proofs.Lists.{Each, each-append}
use Rattle.ws_laws.proofs.PipeDoes.{PipeCauses}
use Rattle.ws_laws.proofs.Causes.{Causes, SignalCauses, row-causes}
use Rattle.ws_laws.proofs.TransformDoes.{TransformCauses}
use Rattle.ws_link_laws.specs.Sound.{all_untied}
use Rattle.ws_link_laws.proofs.Outer.{IsOuter}
use Rattle.ws_steps.specs.declared.effects.Effect.TheVariants.{Byte, CloseStepsWith}
use Rattle.ws_value.specs.declared.ids.TeeId.{TeeId}
use Rattle.ws_value.specs.declared.ids.PortId.{PortId}
use Rattle.ws_steps.specs.declared.tee.TeeOperation.{TeeOperation}
use Rattle.ws_steps.specs.declared.port.PortOperation.{PortOperation}
use Rattle.ws_steps.specs.Tee as tee
use Rattle.ws_laws.proofs.TeeDoes.{TeeCauses}
use Rattle.ws_laws.proofs.PortDoes.{PortCauses}
use Rattle.ws_transform_laws.proofs.Branches.{tee-caused}
use Rattle.ws_link_laws.proofs.Tees.{untied-at}

-- effects by which nobody takes the source or the destination, reads from the one or writes to the other
abbrev pub IsFar : StreamId → StreamId → Effect → Type 0
IsFar i j (OnReadable k (reads.InitializeReader closed)) = is_same i k ≡ false
IsFar i j (OnReadable k (reads.Read request)) = is_same i k ≡ false
IsFar i j (Byte k (InitializeByobReader closed)) = is_same i k ≡ false
IsFar i j (OnWritable k (writes.SetUpWriter w)) = is_same j k ≡ false
IsFar i j (OnWritable k (writes.Write v q)) = is_same j k ≡ false
IsFar i j (OnWritable k (writes.Close q)) = is_same j k ≡ false
IsFar i j (OnWritable k (writes.ClosePropagating q)) = is_same j k ≡ false
IsFar i j _ = Unit {0}

pub outer-far : (i j : StreamId) (e : Effect) → IsOuter i j e → IsFar i j e
outer-far i j e o = grind (arith, o)

pub job-far : (i j : StreamId) (job : Job) → Each (IsFar i j) (job_effects job)
job-far i j job = grind arith

signal-far : (i j : StreamId) (operation : SignalOperation) → SignalCauses (IsFar i j) operation
signal-far i j (Trigger r) = λ q. tt
signal-far i j (Add q) = tt
signal-far i j (Forget q) = tt

transform-far : (i j : StreamId) (t : TransformId) (w r : StreamId) (e : Effect) → TransformCauses t w r e → IsFar i j e
transform-far i j t w r e c = grind (arith, c)

-- an operation of a pipe or of a tee may take a stream
abbrev pub IsOther : Effect → Type 0
IsOther (OnPipe q operation) = ⊥
IsOther (OnTee t operation) = ⊥
IsOther (OnPort t operation) = ⊥
IsOther _ = Unit {0}

far-causes : (i j : StreamId) (e : Effect) → IsOther e → Causes (IsFar i j) e
far-causes i j (OnReadable k operation) n = record { pull = tt; cancel = λ r q. tt; chunk = λ request v. tt; close = λ request. tt; error = λ request r. tt }
far-causes i j (Byte k operation) n = record { readable = record { pull = tt; cancel = λ r q. tt; chunk = λ request v. tt; close = λ request. tt; error = λ request r. tt }; close_with = λ r b. tt }
far-causes i j (OnWritable k operation) n = record { write = tt; close = tt; abort = λ r q. tt; hand_on = λ v. tt; take = λ v t d. tt; post = λ v t d. tt }
far-causes i j (OnPipe q operation) n = absurd n
far-causes i j (OnSignal a operation) n = signal-far i j operation
far-causes i j (StartAlgorithm k step start) n = (λ g u. tt, λ c u. tt)
far-causes i j (OnTee t operation) n = absurd n
far-causes i j (OnPort t operation) n = absurd n
far-causes i j (OnTransform t operation) n = λ w r e c. transform-far i j t w r e c
far-causes i j (PullAlgorithm k) n = (λ c u. tt, (λ t u. tt, (λ t. tt, (λ u. tt, λ q. tt))))
far-causes i j (CancelAlgorithm k r q) n = (λ c u. tt, (λ t u. tt, (λ t half u. tt, λ y u. tt)))
far-causes i j (WriteAlgorithm k) n = (tt, (λ t u. tt, λ z u. tt))
far-causes i j (CloseAlgorithm k) n = (λ c u. tt, (λ t u. tt, λ z u. tt))
far-causes i j (AbortAlgorithm k r q) n = (λ c u. tt, (λ t u. tt, λ z u. tt))
far-causes i j (ChunkSteps k (Promise q) v) n = tt
far-causes i j (ChunkSteps k (PipeRequest q) v) n = tt
far-causes i j (ChunkSteps k (TeeRequest b) v) n = tt
far-causes i j (CloseSteps k (Promise q)) n = tt
far-causes i j (CloseStepsWith k (Promise q) b) n = tt
far-causes i j (CloseSteps k (PipeRequest q)) n = tt
far-causes i j (CloseSteps k (TeeRequest b)) n = tt
far-causes i j (CloseStepsWith k (PipeRequest q) b) n = tt
far-causes i j (CloseStepsWith k (TeeRequest tee_id) b) n = tt
far-causes i j (ErrorSteps k (Promise q) r) n = tt
far-causes i j (ErrorSteps k (PipeRequest q) r) n = tt
far-causes i j (ErrorSteps k (TeeRequest b) r) n = tt
far-causes i j _ n = tt

pub pipe-far : (i j : StreamId) (q : PipeId) (source dest : StreamId) (e : Effect) → is_same i source ≡ false → is_same j dest ≡ false → PipeCauses q source dest e → IsFar i j e
pipe-far i j q source dest e a b c = grind (arith, a, b, c)

-- a tee of another source
tee-far : (i j : StreamId) (s : Slots) (t : TeeId) (x : tee.Slots) → all_untied i s.tees ≡ true → slice_get s.tees t.0 ≡ Some x → (e : Effect) → TeeCauses t x.source x.branch1 x.branch2 e → IsFar i j e
tee-far i j s t x u at (OnReadable k (reads.InitializeReader closed)) c = absurd c
tee-far i j s t x u at (OnReadable k (reads.Read request)) c = rw c.0 (untied-at i s.tees t.0 x u at)
tee-far i j s t x u at (Byte k operation) c = absurd c
tee-far i j s t x u at (OnWritable k operation) c = absurd c
tee-far i j s t x u at _ c = tt

port-far : (i j : StreamId) (c : PortId) (stream : StreamId) (e : Effect) → PortCauses c stream e → IsFar i j e
port-far i j c stream e m = grind (arith, m)

pub tees-far : (i j : StreamId) (s : Slots) (t : TeeId) (operation : TeeOperation) → all_untied i s.tees ≡ true → Each (IsFar i j) (row (OnTee t operation) s).caused
tees-far i j s t operation u = tee-caused (IsFar i j) t operation s (λ x at e c. tee-far i j s t x u at e c)

pub ports-far : (i j : StreamId) (s : Slots) (c : PortId) (operation : PortOperation) → Each (IsFar i j) (row (OnPort c operation) s).caused
ports-far i j s c operation = port-caused (IsFar i j) c operation s (λ x at e m. port-far i j c x.stream e m)

pub row-far : (i j : StreamId) (e : Effect) (s : Slots) (es : List Effect) → IsOther e → Each (IsFar i j) (e ∷ es) → Each (IsFar i j) ((row e s).caused ++ es)
row-far i j e s es n f = each-append (IsFar i j) (row e s).caused es (row-causes (IsFar i j) e s (far-causes i j e n)) f.1
