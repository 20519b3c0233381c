-- What is about to enter a source, each in its turn (`each_enqueue_lets_in`, `each_job_lets_in`).
use Rattle.std.proofs.Common.{◌≡◌, ◌≢◌, ◌⊎◌, inl, inr, ℕ, Bool, true, false, nat_eq, List, [], ◌∷◌, ◌++◌, Option, Some, None, Ok, Err, slice_get, refl, sym, ap, subst, ◌∙◌, append-nil, arith}
use Rattle.ws_value.specs.declared.ids.PipeId.{PipeId}
use Rattle.ws_value.specs.declared.ids.PromiseId.{PromiseId}
use Rattle.ws_value.specs.declared.ids.StreamId.{StreamId}
use Rattle.ws_value.specs.declared.value.Plain.{Plain}
use Rattle.ws_value.specs.declared.value.Value.{Value}
use Rattle.ws_value.specs.declared.value.Value.TheVariants.{Plain as PlainValue, Bytes}
use Rattle.ws_steps.specs.declared.byte.ByteOperation.TheVariants.{Enqueue as EnqueueBytes}
use Rattle.ws_steps.specs.declared.calls.Call.{Call}
use Rattle.ws_steps.specs.declared.calls.Call.TheVariants.{Enqueue as EnqueueCall}
use Rattle.ws_steps.specs.declared.calls.Reply.TheVariants.{Done as ReplyDone, Throws}
use Rattle.ws_steps.specs.declared.calls.Thrown.TheVariants.{TypeError, Unsupported}
use Rattle.ws_steps.specs.declared.effects.Effect.{Effect}
use Rattle.ws_steps.specs.declared.effects.Effect.TheVariants.{Readable as OnReadable, Writable as OnWritable, Pipe as OnPipe, Signal as OnSignal, Transform as OnTransform, Tee as OnTee, Port as OnPort, StartAlgorithm, PullAlgorithm, CancelAlgorithm, WriteAlgorithm, CloseAlgorithm, AbortAlgorithm, ChunkSteps, CloseSteps, ErrorSteps}
use Rattle.ws_steps.specs.declared.effects.Owner.{Owner}
use Rattle.ws_steps.specs.declared.effects.Owner.TheVariants.{Host, HalfOf, BranchOf, EndOf}
use Rattle.ws_steps.specs.declared.pipes.PipeOperation.TheVariants as piped
use Rattle.ws_steps.specs.declared.pipes.SignalOperation.{SignalOperation}
use Rattle.ws_steps.specs.declared.pipes.SignalOperation.TheVariants.{Add, Forget, Trigger}
use Rattle.ws_steps.specs.declared.promises.Job.{Job}
use Rattle.ws_steps.specs.declared.readable.ReadRequest.TheVariants.{Promise, Pipe as PipeRequest, Tee as TeeRequest}
use Rattle.ws_steps.specs.declared.readable.ReadableOperation.TheVariants.{Enqueue as EnqueueChunk}
use Rattle.ws_steps.specs.declared.readable.ReadableState.{ReadableState}
use Rattle.ws_steps.specs.declared.transform.Halves.{Halves}
use Rattle.ws_steps.specs.declared.transform.Kind.{Kind}
use Rattle.ws_steps.specs.declared.transform.TransformId.{TransformId}
use Rattle.ws_steps.specs.declared.transform.TransformOperation.{TransformOperation}
use Rattle.ws_steps.specs.declared.transform.TransformOperation.TheVariants as names
use Rattle.ws_steps.specs.declared.writable.WritableState.{WritableState}
use Rattle.ws_steps.specs.Bytes as byte
use Rattle.ws_steps.specs.Begun as replying
use Rattle.ws_steps.specs.ControllerCalls as controller_calls
use Rattle.ws_steps.specs.Begun.{Begun}
use Rattle.ws_steps.specs.Calls.{begin}
use Rattle.ws_steps.specs.Histories.{along}
use Rattle.ws_steps.specs.Jobs.{job_effects, job_begun, begin_job}
use Rattle.ws_steps.specs.Operations.{transform_operation}
use Rattle.ws_steps.specs.Promises.{Table, next_job}
use Rattle.ws_steps.specs.Readable.{can_close_or_enqueue}
use Rattle.ws_steps.specs.Run.{Called, Worked, run, step}
use Rattle.ws_steps.specs.Slots.{Slots, Done, empty, halves_at, has_readable, has_byte, has_source, owner_at, readable_at, byte_at, source_at, as_source, on_transform_at}
use Rattle.ws_steps.specs.Transform as transform
use Rattle.ws_steps.specs.Transform.{Acts, set_backpressure, unblock, transform_error, terminate, enqueue, enqueued, transform_by, transform_chunk, sink_write, write_in, write_goes_on, source_pull, finish_by, sink_close, sink_abort, source_cancel, flushed_in, flush_settled, aborted_in, abort_settled, cancelled_in, cancel_settled}
use Rattle.ws_steps.specs.Turns.{row, moments}
use Rattle.ws_flow.specs.Told.{Open, Closed, Told, told, then_told}
use Rattle.ws_flow.proofs.Told.{then_assoc, then_empty}
use Rattle.ws_laws.proofs.Lists.{Each, each-append}
use Rattle.ws_laws.proofs.PipeDoes.{PipeCauses}
use Rattle.ws_laws.proofs.Causes.{Causes, SignalCauses, row-causes}
use Rattle.ws_laws.proofs.Tables.{is_same-refl, byte_there}
use Rattle.ws_laws.proofs.Walker as walker
use Rattle.ws_laws.proofs.Walker.{IsHistory}
use Rattle.ws_link_laws.specs.Entering.{chunk_in, effect_lets, step_lets, EachJobLetsIn, EnqueueLetsIn, EachEnqueueLetsIn}
use Rattle.ws_link_laws.specs.Link.{in_source, Giver, OfByteSource, silence, giver_by, giver_at, lets_in, next_enters}
use Rattle.ws_link_laws.proofs.CallEnters.{source_shut}
use Rattle.ws_link_laws.proofs.Hosts.{Source, row-giver, reached-source, source-row, source-same, source-owner}
use Rattle.ws_link_laws.proofs.Steps.{job-coming}
use Rattle.ws_link_laws.proofs.Telling.{if_same, tells, tells-append, IsSilent, silent-all, is_of, coming}
use Rattle.ws_link_laws.proofs.TransformTurns.{Lets, AsAsked, IsLost, lets-at, default-source}
use Rattle.ws_link_laws.proofs.SourceTurns.{is_default}
use Rattle.ws_steps.specs.declared.effects.Effect.TheVariants.{Byte, CloseStepsWith}
use Rattle.ws_value.specs.declared.ids.TeeId.{TeeId}
use Rattle.ws_value.specs.declared.ids.PortId.{PortId}
use Rattle.ws_steps.specs.declared.tee.TeeOperation.{TeeOperation}
use Rattle.ws_steps.specs.declared.port.PortOperation.{PortOperation}
use Rattle.ws_transform_laws.proofs.Branches.{tee-caused}
use Rattle.ws_link_laws.proofs.Tees.{tee-coming}
use Rattle.ws_link_laws.specs.Sound.{IsHosts}
use Rattle.ws_steps.specs.Cross as cross
use Rattle.ws_steps.specs.declared.port.PortOperation.TheVariants.{Deliver}
use Rattle.ws_steps.specs.Operations.{port_operation}
use Rattle.ws_steps.specs.Slots.{found, clones_at, on_port_at}
use Rattle.ws_laws.proofs.TeeDoes.{TeeCauses}
use Rattle.ws_laws.proofs.PortDoes.{PortCauses}
use Rattle.ws_laws.proofs.TransformDoes.{TransformCauses}
use Rattle.ws_link_laws.proofs.PortTurns.{IsDelivery, quiet-coming}

-- only the first effect lets something in
abbrev Lone : Giver → StreamId → List Effect → Type 0
Lone o i [] = Unit {0}
Lone o i (e ∷ es) = Each (IsSilent (coming o i)) es

lone-next : (o : Giver) (i : StreamId) (cs es : List Effect) → Lone o i cs → Each (IsSilent (coming o i)) es → Lone o i (cs ++ es)
lone-next o i [] [] f l = tt
lone-next o i [] (e ∷ es) f l = l.1
lone-next o i (c ∷ cs) es f l = each-append (IsSilent (coming o i)) cs es f l

lone-silent : (o : Giver) (i : StreamId) (cs : List Effect) → Each (IsSilent (coming o i)) cs → Lone o i cs
lone-silent o i [] l = tt
lone-silent o i (c ∷ cs) l = l.1

-- an effect that is no operation of a transform stream causes nothing that comes

abbrev IsNoTransform : Effect → Type 0
IsNoTransform (OnTransform t operation) = ⊥
IsNoTransform (OnTee t operation) = ⊥
IsNoTransform (OnPort t operation) = ⊥
IsNoTransform _ = Unit {0}

pipe-coming : (o : Giver) (i : StreamId) (q : PipeId) (source dest : StreamId) (e : Effect) → PipeCauses q source dest e → IsSilent (coming o i) e
pipe-coming o i q source dest e c = grind (arith, c)

signal-each : (P : Effect → Type 0) (operation : SignalOperation) → ((q : PipeId) (r : Plain) → P (OnPipe q (piped.Abort r))) → SignalCauses P operation
signal-each P (Trigger r) f = λ q. f q r
signal-each P (Add q) f = tt
signal-each P (Forget q) f = tt

coming-causes : (o : Giver) (i : StreamId) (e : Effect) → IsNoTransform e → Causes (IsSilent (coming o i)) e
coming-causes o i (OnReadable k operation) n = record { pull = refl; cancel = λ r q. refl; chunk = λ request v. refl; close = λ request. refl; error = λ request r. refl }
coming-causes o i (Byte k operation) n = record { readable = record { pull = refl; cancel = λ r q. refl; chunk = λ request v. refl; close = λ request. refl; error = λ request r. refl }; close_with = λ r b. refl }
coming-causes o i (OnWritable k operation) n = record { write = refl; close = refl; abort = λ r q. refl; hand_on = λ v. refl; take = λ v t d. if_same (is_of o t); post = λ v c d. refl }
coming-causes o i (OnPipe q operation) n = λ source dest e c. pipe-coming o i q source dest e c
coming-causes o i (OnSignal a operation) n = signal-each (IsSilent (coming o i)) operation (λ q r. refl)
coming-causes o i (OnTransform t operation) n = absurd n
coming-causes o i (OnTee t operation) n = absurd n
coming-causes o i (OnPort t operation) n = absurd n
coming-causes o i (StartAlgorithm k step start) n = (λ g u. refl, λ c u. refl)
coming-causes o i (PullAlgorithm k) n = (λ c u. refl, (λ t u. if_same (is_of o t), (λ t. refl, (λ u. refl, λ q. refl))))
coming-causes o i (CancelAlgorithm k r q) n = (λ c u. refl, (λ t u. if_same (is_of o t), (λ t half u. refl, λ q u. refl)))
coming-causes o i (WriteAlgorithm k) n = (refl, (λ t u. if_same (is_of o t), λ q u. refl))
coming-causes o i (CloseAlgorithm k) n = (λ c u. refl, (λ t u. if_same (is_of o t), λ q u. refl))
coming-causes o i (AbortAlgorithm k r q) n = (λ c u. refl, (λ t u. if_same (is_of o t), λ q u. refl))
coming-causes o i (ChunkSteps k (Promise q) v) n = tt
coming-causes o i (ChunkSteps k (PipeRequest q) v) n = refl
coming-causes o i (ChunkSteps k (TeeRequest b) v) n = refl
coming-causes o i (CloseSteps k (Promise q)) n = tt
coming-causes o i (CloseStepsWith k (Promise q) b) n = tt
coming-causes o i (CloseSteps k (PipeRequest q)) n = refl
coming-causes o i (CloseSteps k (TeeRequest b)) n = refl
coming-causes o i (CloseStepsWith k (PipeRequest q) b) n = refl
coming-causes o i (CloseStepsWith k (TeeRequest tee_id) b) n = refl
coming-causes o i (ErrorSteps k (Promise q) r) n = tt
coming-causes o i (ErrorSteps k (PipeRequest q) r) n = refl
coming-causes o i (ErrorSteps k (TeeRequest b) r) n = refl
coming-causes o i _ n = tt

-- and an operation of a transform stream what it brings, or not its end

module _ (o : Giver) (i : StreamId) (me : TransformId) (halves : Halves) (x : transform.Slots) (t : Table) where
  abbrev a : Acts
  a = record { slots = x; out = record { promises = t; effects = [] } }

  chunk-lone : (v : Value) (d : PromiseId) (kind : Kind) → Lone o i (transform_by me halves v d a kind)
  chunk-lone v d kind = grind (arith, if_same)

  goes_on-lone : (d : PromiseId) (w : WritableState) → Lone o i (write_in me halves d a w).out.effects
  goes_on-lone d w = grind (arith, if_same)

  flushed-lone : (p : PromiseId) (w : ReadableState) → Lone o i (flushed_in p halves a w).out.effects
  flushed-lone p w = grind (arith, if_same)

  aborted-lone : (p : PromiseId) (r : Plain) (w : ReadableState) → Lone o i (aborted_in p halves r a w).out.effects
  aborted-lone p r w = grind (arith, if_same)

  cancelled-lone : (p : PromiseId) (r : Plain) (w : WritableState) → Lone o i (cancelled_in me p halves r a w).out.effects
  cancelled-lone p r w = grind (arith, if_same)

  operation-lone : (operation : TransformOperation) → Lone o i (transform_operation me halves operation a).out.effects
  unfolding set_backpressure unblock transform_error terminate enqueue enqueued transform_chunk sink_write write_goes_on source_pull sink_close sink_abort source_cancel flush_settled abort_settled cancel_settled
  operation-lone (names.SinkWrite u) = grind (arith, if_same)
  operation-lone (names.WriteGoesOn d) = goes_on-lone d halves.writable_state
  operation-lone (names.TransformChunk v d) = chunk-lone v d x.kind
  operation-lone (names.Enqueue v) = (if_same (is_of o me), tt)
  operation-lone names.Enqueued = grind (arith, if_same)
  operation-lone (names.Error e) = (refl, (if_same (is_of o me), tt))
  operation-lone names.Unblock = grind (arith, if_same)
  operation-lone names.Terminate = (refl, (if_same (is_of o me), tt))
  operation-lone (names.SourcePull u) = grind (arith, if_same)
  operation-lone (names.SinkClose u) = grind (arith, if_same)
  operation-lone (names.SinkAbort r u) = grind (arith, if_same)
  operation-lone (names.SourceCancel r u) = grind (arith, if_same)
  operation-lone (names.FlushSettled p (Ok v)) = flushed-lone p halves.readable_state
  operation-lone (names.FlushSettled p (Err e)) = (refl, tt)
  operation-lone (names.AbortSettled p r (Ok v)) = aborted-lone p r halves.readable_state
  operation-lone (names.AbortSettled p r (Err e)) = (refl, tt)
  operation-lone (names.CancelSettled p r (Ok v)) = cancelled-lone p r halves.writable_state
  operation-lone (names.CancelSettled p r (Err e)) = (if_same (is_of o me), (refl, tt))

-- an effect lets in what it brings, or leaves it to what it causes; or its end is lost
pub data Brings (i : StreamId) (s : Slots) (e : Effect) : Type 0 where
  Passes : then_told (effect_lets i e s) (tells (coming (giver_at i s) i) (row e s).caused) ≡ coming (giver_at i s) i e → Brings i s e
  Drops : effect_lets i e s ≡ silence → tells (coming (giver_at i s) i) (row e s).caused ≡ silence → coming (giver_at i s) i e ≡ told [] Closed → Brings i s e

other-lets : (i : StreamId) (s : Slots) (e : Effect) → IsNoTransform e → effect_lets i e s ≡ coming (giver_at i s) i e
other-lets i s e n = grind (arith, n)

plain-brings : (i : StreamId) (s : Slots) (e : Effect) → IsNoTransform e → Brings i s e
plain-brings i s e n =
    let cs : List Effect = (row e s).caused in
    let none : tells (coming (giver_at i s) i) cs ≡ silence = silent-all (coming (giver_at i s) i) cs (row-causes (IsSilent (coming (giver_at i s) i)) e s (coming-causes (giver_at i s) i e n)) in
    Passes (rw (none, then_empty (effect_lets i e s)) (other-lets i s e n))

lets-brings : (i : StreamId) (s : Slots) (t : TransformId) (operation : TransformOperation) → Lets (giver_at i s) i (source_at i s) (OnTransform t operation) (row (OnTransform t operation) s).caused → Brings i s (OnTransform t operation)
lets-brings i s t operation (AsAsked same) = Passes same
lets-brings i s t operation (IsLost lost none end) = Drops refl none end

transform-lone : (i : StreamId) (s : Slots) (t : TransformId) (operation : TransformOperation) (o : Option transform.Slots) → Lone (giver_at i s) i (on_transform_at (λ halves. transform_operation t halves operation) t s o).caused
transform-lone i s t operation None = tt
transform-lone i s t operation (Some x) = operation-lone (giver_at i s) i t (halves_at x s) x s.promises operation

record Brought (i : StreamId) (s : Slots) (e : Effect) : Type 0 where
  brings : Brings i s e
  lone : Lone (giver_at i s) i (row e s).caused

plain-brought : (i : StreamId) (s : Slots) (e : Effect) → IsNoTransform e → Brought i s e
plain-brought i s e n = record { brings = plain-brings i s e n; lone = lone-silent (giver_at i s) i (row e s).caused (row-causes (IsSilent (coming (giver_at i s) i)) e s (coming-causes (giver_at i s) i e n)) }

-- an operation of a tee brings nothing
tee-brought : (i : StreamId) (s : Slots) (t : TeeId) (operation : TeeOperation) → Source i s → Brought i s (OnTee t operation)
tee-brought i s t operation h =
    let cs : List Effect = (row (OnTee t operation) s).caused in
    let none : Each (IsSilent (coming (giver_at i s) i)) cs = tee-caused (IsSilent (coming (giver_at i s) i)) t operation s (λ x at e c. tee-coming i s t x h at e c) in
    record { brings = Passes (rw (silent-all (coming (giver_at i s) i) cs none) refl); lone = lone-silent (giver_at i s) i cs none }

-- no message is delivered but by a call

abbrev IsUndelivered : Effect → Type 0
IsUndelivered (OnPort c (Deliver m)) = ⊥
IsUndelivered _ = Unit {0}

tee-undelivered : (t : TeeId) (source b1 b2 : StreamId) (e : Effect) → TeeCauses t source b1 b2 e → IsUndelivered e
tee-undelivered t source b1 b2 e c = grind (arith, c)

port-undelivered : (q : PortId) (stream : StreamId) (e : Effect) → PortCauses q stream e → IsUndelivered e
port-undelivered q stream e c = grind (arith, c)

transform-undelivered : (t : TransformId) (w r : StreamId) (e : Effect) → TransformCauses t w r e → IsUndelivered e
transform-undelivered t w r e c = grind (arith, c)

pipe-undelivered : (q : PipeId) (source dest : StreamId) (e : Effect) → PipeCauses q source dest e → IsUndelivered e
pipe-undelivered q source dest e c = grind (arith, c)

undelivered-causes : (e : Effect) → Causes IsUndelivered e
undelivered-causes (OnReadable k operation) = record { pull = tt; cancel = λ r q. tt; chunk = λ request v. tt; close = λ request. tt; error = λ request r. tt }
undelivered-causes (Byte k operation) = record { readable = record { pull = tt; cancel = λ r q. tt; chunk = λ request v. tt; close = λ request. tt; error = λ request r. tt }; close_with = λ r b. tt }
undelivered-causes (OnWritable k operation) = record { write = tt; close = tt; abort = λ r q. tt; hand_on = λ v. tt; take = λ v t d. tt; post = λ v t d. tt }
undelivered-causes (OnPipe q operation) = λ source dest e c. pipe-undelivered q source dest e c
undelivered-causes (OnSignal a operation) = signal-each IsUndelivered operation (λ q r. tt)
undelivered-causes (StartAlgorithm k step start) = (λ g u. tt, λ c u. tt)
undelivered-causes (OnTee t operation) = λ source b1 b2 e c. tee-undelivered t source b1 b2 e c
undelivered-causes (OnPort t operation) = λ stream e c. port-undelivered t stream e c
undelivered-causes (OnTransform t operation) = λ w r e c. transform-undelivered t w r e c
undelivered-causes (PullAlgorithm k) = (λ c u. tt, (λ t u. tt, (λ t. tt, (λ u. tt, λ q. tt))))
undelivered-causes (CancelAlgorithm k r q) = (λ c u. tt, (λ t u. tt, (λ t half u. tt, λ y u. tt)))
undelivered-causes (WriteAlgorithm k) = (tt, (λ t u. tt, λ z u. tt))
undelivered-causes (CloseAlgorithm k) = (λ c u. tt, (λ t u. tt, λ z u. tt))
undelivered-causes (AbortAlgorithm k r q) = (λ c u. tt, (λ t u. tt, λ z u. tt))
undelivered-causes (ChunkSteps k (Promise q) v) = tt
undelivered-causes (ChunkSteps k (PipeRequest q) v) = tt
undelivered-causes (ChunkSteps k (TeeRequest b) v) = tt
undelivered-causes (CloseSteps k (Promise q)) = tt
undelivered-causes (CloseStepsWith k (Promise q) b) = tt
undelivered-causes (CloseSteps k (PipeRequest q)) = tt
undelivered-causes (CloseSteps k (TeeRequest b)) = tt
undelivered-causes (CloseStepsWith k (PipeRequest q) b) = tt
undelivered-causes (CloseStepsWith k (TeeRequest tee_id) b) = tt
undelivered-causes (ErrorSteps k (Promise q) r) = tt
undelivered-causes (ErrorSteps k (PipeRequest q) r) = tt
undelivered-causes (ErrorSteps k (TeeRequest b) r) = tt
undelivered-causes _ = tt

row-undelivered : (e : Effect) (s : Slots) (es : List Effect) → Each IsUndelivered (e ∷ es) → Each IsUndelivered ((row e s).caused ++ es)
row-undelivered e s es u = each-append IsUndelivered (row e s).caused es (row-causes IsUndelivered e s (undelivered-causes e)) u.1

job-undelivered : (job : Job) → Each IsUndelivered (job_effects job)
job-undelivered job = grind arith

-- another operation of a port than the delivery of a message brings nothing

other-operation : (c : PortId) (operation : PortOperation) → IsUndelivered (OnPort c operation) → IsDelivery operation → ⊥
other-operation c operation u d = grind (arith, u, d)

port-none : (g : Giver) (i : StreamId) (c : PortId) (operation : PortOperation) → (IsDelivery operation → ⊥) → coming g i (OnPort c operation) ≡ silence
port-none g i c operation n = grind (arith, n)

port-quiet : (g : Giver) (i : StreamId) (c : PortId) (operation : PortOperation) (s : Slots) → (IsDelivery operation → ⊥) → (o : Option cross.Slots) → Each (IsSilent (coming g i)) (on_port_at (λ clones. port_operation c clones operation) c s o).caused
port-quiet g i c operation s n None = tt
port-quiet g i c operation s n (Some x) = quiet-coming g i c (clones_at x s) operation (record { slots = x; out = found s }) n refl

port-brought : (i : StreamId) (s : Slots) (t : PortId) (operation : PortOperation) → IsUndelivered (OnPort t operation) → Brought i s (OnPort t operation)
unfolding row
port-brought i s t operation u =
    let g : Giver = giver_at i s in
    let n = other-operation t operation u in
    let cs : List Effect = (row (OnPort t operation) s).caused in
    let none : Each (IsSilent (coming g i)) cs = port-quiet g i t operation s n (slice_get s.ports t.0) in
    record { brings = Passes (silent-all (coming g i) cs none ∙ sym (port-none g i t operation n)); lone = lone-silent g i cs none }

row-brought : (i : StreamId) (s : Slots) (e : Effect) → IsUndelivered e → Source i s → Brought i s e
unfolding row
row-brought i s (OnTransform t operation) u h = record {
  brings = lets-brings i s t operation (lets-at i s t operation h (slice_get s.transforms t.0) refl);
  lone = transform-lone i s t operation (slice_get s.transforms t.0);
}
row-brought i s (OnTee t operation) u h = tee-brought i s t operation h
row-brought i s (OnPort t operation) u h = port-brought i s t operation u
row-brought i s e u h = plain-brought i s e tt

-- all of it, or all but the end

abbrev Sums : Told Value → Told Value → Type 0
Sums t x = (x ≡ t) ⊎ (t ≡ then_told x (told [] Closed))

passed : (h L C c : Told Value) → then_told L c ≡ C → then_told (then_told h L) (then_told c silence) ≡ then_told h (then_told C silence)
passed h L C c e = rw (then_empty c, then_empty C, then_assoc h L c, e) refl

dropped : (t h : Told Value) → Sums t (then_told h (told [] Closed)) → Sums t h
dropped t h (inl e) = inr (sym e)
dropped t h (inr e) = inr (e ∙ then_assoc h (told [] Closed) (told [] Closed))

module _ (i : StreamId) (t : Told Value) where
  record Comes (h : Told Value) (s : Slots) (es : List Effect) : Type 0 where
    source : Source i s
    undelivered : Each IsUndelivered es
    lone : Lone (giver_at i s) i es
    sums : Sums t (then_told h (tells (coming (giver_at i s) i) es))

  summed : (h : Told Value) (s : Slots) (e : Effect) (es : List Effect) → Brings i s e → tells (coming (giver_at i s) i) es ≡ silence → Sums t (then_told h (tells (coming (giver_at i s) i) (e ∷ es)))
      → Sums t (then_told (then_told h (effect_lets i e s)) (tells (coming (giver_at i s) i) ((row e s).caused ++ es)))
  summed h s e es (Passes same) none k =
      let was : Sums t (then_told h (then_told (coming (giver_at i s) i e) silence)) = rw none at k in
      rw (tells-append (coming (giver_at i s) i) (row e s).caused es, none, passed h (effect_lets i e s) (coming (giver_at i s) i e) (tells (coming (giver_at i s) i) (row e s).caused) same) was
  summed h s e es (Drops quiet quietly end) none k =
      let was : Sums t (then_told h (told [] Closed)) = rw end at k in
      rw (tells-append (coming (giver_at i s) i) (row e s).caused es, none, quiet, quietly, then_empty h, then_empty h) (dropped t h was)

  row-comes : (h : Told Value) (s : Slots) (e : Effect) (es : List Effect) → Comes h s (e ∷ es) → Comes (then_told h (effect_lets i e s)) (row e s).slots ((row e s).caused ++ es)
  row-comes h s e es k =
      let b = row-brought i s e k.undelivered.0 k.source in
      record {
        source = source-row i e s k.source;
        undelivered = row-undelivered e s es k.undelivered;
        lone = rw (row-giver i e s) (lone-next (giver_at i s) i (row e s).caused es b.lone k.lone);
        sums = rw (row-giver i e s) (summed h s e es b.brings (silent-all (coming (giver_at i s) i) es k.lone) k.sums);
      }

  told-history : IsHistory silence then_told
  told-history = record { left = λ h. refl; right = λ h. then_empty h; assoc = λ f g h. then_assoc f g h }

  -- over all that is performed
  performed-sums : (d : Done) → Comes silence d.slots d.caused → Sums t (along silence then_told (effect_lets i) (moments d))
  performed-sums d k =
      let z = (walker.performed-goes silence then_told told-history (effect_lets i) Comes row-comes silence d k).sums in
      rw (then_empty (along silence then_told (effect_lets i) (moments d))) at z

-- a job

job-lone : (o : Giver) (i : StreamId) (job : Job) → Lone o i (job_effects job)
job-lone o i job = grind arith

enters-two : (o : Giver) (job : Option Job) → (next_enters o job ≡ silence) ⊎ (next_enters o job ≡ told [] Closed)
enters-two o job = grind arith

none-or : (t x : Told Value) → (t ≡ silence) ⊎ (t ≡ told [] Closed) → Sums t x → (x ≡ silence) ⊎ (x ≡ t)
none-or t x w k = grind (arith, append-nil, w, k)

job-comes : (i : StreamId) (s : Slots) (job : Option Job) → Source i s → Comes i (next_enters (giver_at i s) job) silence (job_begun s job).slots (job_begun s job).caused
job-comes i s None h = record { source = h; undelivered = tt; lone = tt; sums = inl refl }
job-comes i s (Some job) h = record { source = source-same i s _ refl refl refl refl h; undelivered = job-undelivered job; lone = job-lone (giver_at i s) i job; sums = inl (job-coming (giver_at i s) i job) }

pub each_job_lets_in : EachJobLetsIn
unfolding begin_job
each_job_lets_in entries i there hosts =
    let s : Slots = run entries empty in
    let t : Told Value = next_enters (giver_at i s) (next_job s.promises) in
    none-or t (step_lets i s Worked) (enters-two (giver_at i s) (next_job s.promises))
    (performed-sums i t (job_begun s (next_job s.promises)) (job-comes i s (next_job s.promises) (reached-source i s (entries, refl) there hosts)))

-- a call that enqueues

sums-open : (t x : Told Value) → t.mark ≡ Open → Sums t x → x ≡ t
sums-open t x e (inl k) = k
sums-open t x e (inr k) = grind (arith, append-nil, e, k)

-- a stream with a default controller lets in any chunk, and a half too

default-chunk : (o : Owner) (v : Value) → chunk_in (giver_by false o) v ≡ told (v ∷ []) Open
default-chunk Host v = refl
default-chunk (HalfOf t) v = refl
default-chunk (BranchOf t half) v = refl
default-chunk (EndOf c) v = refl

module _ (i : StreamId) (v : Value) (s : Slots) (there : has_source i s ≡ true) (h : Source i s) where
  abbrev c : Call
  c = EnqueueCall i v

  abbrev Stopped : Type 0
  Stopped = (lets_in (giver_at i s) v ≡ silence) ⊎ ((in_source (source_at i s)).mark ≢ Open)

  -- it asks the stream, or its transform stream, or it throws
  pub data Asks : Type 0 where
    Does : (e : Effect) → IsUndelivered e → begin c s ≡ replying.does (e ∷ []) s → coming (giver_at i s) i e ≡ told (v ∷ []) Open → Asks
    Refuses : begin c s ≡ replying.throws_type_error s → Stopped → Asks
    Lacks : begin c s ≡ replying.unsupported s → lets_in (giver_at i s) v ≡ silence → Asks

  module _ (none : has_byte i s ≡ false) where
    default : has_readable i s ≡ true
    default = is_default (slice_get s.streams i.0) there none

    begins-so : begin c s ≡ controller_calls.enqueue_by v i s (readable_at i s).owner
    unfolding begin
    begins-so = rw (none, default) refl

    gives : giver_at i s ≡ giver_by false (owner_at i s)
    gives = rw none refl

    full : can_close_or_enqueue (readable_at i s) ≡ false → Stopped
    full e = let same : source_at i s ≡ readable_at i s = default-source (slice_get s.streams i.0) none in inr (rw same (source_shut (readable_at i s) e))

    asks-host : (can : Bool) → can ≡ can_close_or_enqueue (readable_at i s) → Host ≡ (readable_at i s).owner → Asks
    asks-host true e o = let d = default-chunk (owner_at i s) v in Does (OnReadable i (EnqueueChunk v)) tt (begins-so ∙ rw (← o, ← e) refl) (rw (is_same-refl i, gives) d)
    asks-host false e o = Refuses (begins-so ∙ rw (← o, ← e) refl) (full (sym e))

    asks-half : (t : TransformId) (can : Bool) → can ≡ can_close_or_enqueue (readable_at i s) → HalfOf t ≡ (readable_at i s).owner → Asks
    asks-half t true e o =
        let own : owner_at i s ≡ HalfOf t = source-owner i s default ∙ sym o in
        let self : nat_eq t.0 t.0 ≡ true = grind arith in
        Does (OnTransform t (names.Enqueue v)) tt (begins-so ∙ rw (← o, ← e) refl) (rw (gives, own, self) refl)
    asks-half t false e o = Refuses (begins-so ∙ rw (← o, ← e) refl) (full (sym e))

    asks-default : (o : Owner) → o ≡ (readable_at i s).owner → Asks
    asks-default Host e = asks-host (can_close_or_enqueue (readable_at i s)) refl e
    asks-default (HalfOf t) e = asks-half t (can_close_or_enqueue (readable_at i s)) refl e
    asks-default (BranchOf t half) e = absurd (subst (λ (o : Owner). IsHosts s o) (source-owner i s default ∙ sym e) h.kind)
    asks-default (EndOf d) e =
        let own : owner_at i s ≡ EndOf d = source-owner i s default ∙ sym e in
        Lacks (begins-so ∙ rw (← e) refl) (rw (gives, own) refl)

  module _ (here : has_byte i s ≡ true) where
    begins-bytes : begin c s ≡ controller_calls.enqueue_bytes i s v
    unfolding begin
    begins-bytes = rw here refl

    bytes-give : giver_at i s ≡ OfByteSource
    bytes-give = rw here refl

    bytes-full : byte.can_take (byte_at i s) ≡ false → (in_source (source_at i s)).mark ≢ Open
    bytes-full e = rw (ap as_source (byte_there (slice_get s.streams i.0) here)) (source_shut (byte.shown (byte_at i s)) e)

    asks-some : (n : ℕ) (ns : List ℕ) → Bytes (n ∷ ns) ≡ v → (can : Bool) → can ≡ byte.can_take (byte_at i s) → Asks
    asks-some n ns is true e = Does (Byte i (EnqueueBytes (n ∷ ns))) tt (begins-bytes ∙ rw (← is, ← e) refl) (rw (is_same-refl i, bytes-give, ← is) refl)
    asks-some n ns is false e = Refuses (begins-bytes ∙ rw (← is, ← e) refl) (inr (bytes-full (sym e)))

    asks-bytes : (w : Value) → w ≡ v → Asks
    asks-bytes (PlainValue x) is = Refuses (begins-bytes ∙ rw (← is) refl) (inl (rw (bytes-give, ← is) refl))
    asks-bytes (Bytes []) is = Refuses (begins-bytes ∙ rw (← is) refl) (inl (rw (bytes-give, ← is) refl))
    asks-bytes (Bytes (n ∷ ns)) is = asks-some n ns is (byte.can_take (byte_at i s)) refl

  asks : (b : Bool) → b ≡ has_byte i s → Asks
  asks false e = asks-default (sym e) (readable_at i s).owner refl
  asks true e = asks-bytes (sym e) v refl

  -- what is let in where the call begins so
  lets-so : (b : Begun) (t : Told Value) → begin c s ≡ b → t.mark ≡ Open → Comes i t silence b.done.slots b.done.caused → step_lets i s (Called c) ≡ t
  lets-so b t is e k = subst (λ (x : Begun). along silence then_told (effect_lets i) (moments x.done) ≡ t) (sym is) (sums-open t (along silence then_told (effect_lets i) (moments b.done)) e (performed-sums i t b.done k))

  lets-by : Asks → EnqueueLetsIn i v s
  lets-by (Does e un is brings) = record {
    done = λ r. lets-so (replying.does (e ∷ []) s) (told (v ∷ []) Open) is refl (record { source = h; undelivered = (un, tt); lone = tt; sums = inl (then_empty (coming (giver_at i s) i e) ∙ brings) });
    throws = λ n. absurd (n (ap (λ (b : Begun). b.reply) is));
  }
  lets-by (Lacks is none) = record {
    done = λ r. let no : Throws Unsupported ≡ ReplyDone = sym (ap (λ (b : Begun). b.reply) is) ∙ r in cc;
    throws = λ n. (lets-so (replying.unsupported s) silence is refl (record { source = h; undelivered = tt; lone = tt; sums = inl refl }), inl none);
  }
  lets-by (Refuses is ended) = record {
    done = λ r. let no : Throws TypeError ≡ ReplyDone = sym (ap (λ (b : Begun). b.reply) is) ∙ r in cc;
    throws = λ n. (lets-so (replying.throws_type_error s) silence is refl (record { source = h; undelivered = tt; lone = tt; sums = inl refl }), ended);
  }

pub each_enqueue_lets_in : EachEnqueueLetsIn
each_enqueue_lets_in entries i v there hosts =
    let s : Slots = run entries empty in
    let h = reached-source i s (entries, refl) there hosts in
    lets-by i v s there h (asks i v s there h (has_byte i s) refl)
