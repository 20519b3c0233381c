-- What is told to the host of the destination stands first on the agenda: nothing of it stands behind another effect.
use Rattle.std.proofs.Common.{◌≡◌, Bool, true, false, nat_eq, List, [], ◌∷◌, ◌++◌, Option, Some, None, Ok, Err, slice_get, refl, arith}
use Rattle.ws_value.specs.declared.ids.PipeId.{PipeId}
use Rattle.ws_value.specs.declared.ids.PromiseId.{PromiseId}
use Rattle.ws_value.specs.declared.ids.StreamId.{StreamId}
use Rattle.ws_value.specs.declared.value.Plain.{Plain}
use Rattle.ws_value.specs.declared.value.Value.{Value}
use Rattle.ws_steps.specs.declared.calls.StartBy.TheVariants.{Now, Later}
use Rattle.ws_steps.specs.declared.effects.Effect.{Effect}
use Rattle.ws_steps.specs.declared.effects.Effect.TheVariants.{Readable as OnReadable, Writable as OnWritable, Pipe as OnPipe, Signal as OnSignal, Transform as OnTransform, Tee as OnTee, Port as OnPort, StartAlgorithm, PullAlgorithm, CancelAlgorithm, WriteAlgorithm, CloseAlgorithm, AbortAlgorithm, ChunkSteps, CloseSteps, ErrorSteps, CallHost}
use Rattle.ws_steps.specs.declared.effects.Owner.{Owner}
use Rattle.ws_steps.specs.declared.effects.Owner.TheVariants.{Host, HalfOf, BranchOf, EndOf}
use Rattle.ws_steps.specs.declared.effects.Use.{Use}
use Rattle.ws_steps.specs.declared.pipes.PipeOperation.TheVariants as piped
use Rattle.ws_steps.specs.declared.pipes.SignalOperation.{SignalOperation}
use Rattle.ws_steps.specs.declared.pipes.SignalOperation.TheVariants.{Add, Forget, Trigger}
use Rattle.ws_steps.specs.declared.readable.ReadRequest.TheVariants.{Promise, Pipe as PipeRequest, Tee as TeeRequest}
use Rattle.ws_steps.specs.declared.readable.ReadableState.{ReadableState}
use Rattle.ws_steps.specs.declared.transform.Halves.{Halves}
use Rattle.ws_steps.specs.declared.transform.Kind.{Kind}
use Rattle.ws_steps.specs.declared.transform.Taker.{Taker}
use Rattle.ws_steps.specs.declared.transform.Taker.TheVariants.{ToHost, ToTransform, ToPort}
use Rattle.ws_steps.specs.declared.transform.TransformId.{TransformId}
use Rattle.ws_steps.specs.declared.transform.TransformOperation.{TransformOperation}
use Rattle.ws_steps.specs.declared.transform.TransformOperation.TheVariants as names
use Rattle.ws_steps.specs.declared.writable.WritableOperation.{WritableOperation}
use Rattle.ws_steps.specs.declared.writable.WritableOperation.TheVariants.{HandOn}
use Rattle.ws_steps.specs.declared.writable.WritableState.{WritableState}
use Rattle.ws_steps.specs.declared.writable.WriteRecord.{WriteRecord}
use Rattle.ws_steps.specs.declared.writable.WriteRecord.TheVariants.{Chunk, InFlight, CloseMark}
use Rattle.ws_steps.specs.Effects.{Out}
use Rattle.ws_steps.specs.Histories.{is_same}
use Rattle.ws_steps.specs.Operations.{writable_operation, transform_operation}
use Rattle.ws_steps.specs.Promises.{Table}
use Rattle.ws_steps.specs.Queues.{first_value}
use Rattle.ws_steps.specs.Slots.{Slots, Done, nothing, halves_at, has_writable, owner_at, on_transform_at, put_writable}
use Rattle.ws_steps.specs.Transform as transform
use Rattle.ws_steps.specs.Transform.{Acts, set_backpressure, unblock, transform_error, terminate, enqueue, enqueued, transform_by, transform_chunk, sink_write, write_in, write_goes_on, source_pull, sink_close, sink_abort, source_cancel, flushed_in, flush_settled, aborted_in, abort_settled, cancelled_in, cancel_settled}
use Rattle.ws_steps.specs.Turns.{row, pull_algorithm, cancel_algorithm, write_algorithm, close_algorithm, abort_algorithm}
use Rattle.ws_steps.specs.Writable as writable
use Rattle.ws_steps.specs.Writable.{hand_on_first, hand_on}
use Rattle.ws_laws.proofs.Lists.{Each, each-append}
use Rattle.ws_laws.proofs.PipeDoes.{PipeCauses}
use Rattle.ws_laws.proofs.Causes.{Causes, SignalCauses, row-causes}
use Rattle.ws_laws.proofs.Tables.{either, writable_acts}
use Rattle.ws_laws.proofs.TransformDoes.{TransformCauses}
use Rattle.ws_laws.proofs.WritableDoes.{IsHandOn, others-do}
use Rattle.ws_link_laws.specs.Link.{Ear, OfSink, OfTransform, OfPort, is_port, silence}
use Rattle.ws_link_laws.proofs.Telling.{is_in, tells, hands}
use Rattle.ws_steps.specs.declared.effects.Effect.TheVariants.{Byte, CloseStepsWith}
use Rattle.ws_value.specs.declared.ids.TeeId.{TeeId}
use Rattle.ws_value.specs.declared.ids.PortId.{PortId}
use Rattle.ws_laws.proofs.TeeDoes.{TeeCauses}
use Rattle.ws_laws.proofs.PortDoes.{PortCauses}
use Rattle.ws_steps.specs.declared.port.PortOperation.TheVariants as names_of
use Rattle.ws_steps.specs.declared.port.PortOperation.TheVariants.{Close as CloseByPort}

-- to whom the destination's chunks are handed on
abbrev pub Fits : Ear → StreamId → Taker → Type 0
Fits (OfSink j) k ToHost = is_same j k ≡ true
Fits (OfSink j) k (ToTransform t d) = ⊥
Fits (OfSink j) k (ToPort c d) = ⊥
Fits (OfTransform t r) k ToHost = ⊥
Fits (OfTransform t r) k (ToTransform u d) = nat_eq t.0 u.0 ≡ true
Fits (OfPort c) k ToHost = ⊥
Fits (OfPort c) k (ToTransform u d) = ⊥
Fits (OfPort c) k (ToPort e d) = is_port (OfPort c) e ≡ true
Fits (OfTransform t r) k (ToPort c d) = ⊥

-- and those of another stream
abbrev pub Spares : Ear → Taker → Type 0
Spares w ToHost = Unit {0}
Spares w (ToTransform u d) = is_in w u ≡ false
Spares w (ToPort c d) = is_port w c ≡ false

-- a chunk is handed on to whose its stream is, and a close algorithm is that of a stream that is there
abbrev pub Placed : StreamId → Ear → Slots → Effect → Type 0
Placed j w s (OnWritable k (HandOn taker)) = (is_same j k ≡ true → Fits w k taker) × (is_same j k ≡ false → Spares w taker)
Placed j w s (CloseAlgorithm k) = has_writable k s ≡ true
Placed j w s _ = Unit {0}

-- the close algorithm of the destination's transform stream, or of its port
abbrev pub flushes : Ear → Effect → Bool
flushes w (OnTransform k (names.SinkClose u)) = is_in w k
flushes w (OnPort k (CloseByPort u)) = is_port w k
flushes w _ = false

-- what may stand behind another effect
abbrev pub IsLate : Ear → Effect → Type 0
IsLate w e = (hands w e ≡ silence) × (flushes w e ≡ false)

abbrev pub Front : Ear → List Effect → Type 0
Front w [] = Unit {0}
Front w (e ∷ es) = Each (IsLate w) es

-- where that close algorithm stands first, the destination is closing
abbrev pub First : Ear → Bool → List Effect → Type 0
First w closing [] = Unit {0}
First w closing (e ∷ es) = flushes w e ≡ true → closing ≡ true

pub late-silent : (w : Ear) (es : List Effect) → Each (IsLate w) es → tells (hands w) es ≡ silence
late-silent w [] l = refl
late-silent w (e ∷ es) l = rw (l.0.0, late-silent w es l.1) refl

pub front-next : (w : Ear) (cs es : List Effect) → Front w cs → Each (IsLate w) es → Front w (cs ++ es)
front-next w [] [] f l = tt
front-next w [] (e ∷ es) f l = l.1
front-next w (c ∷ cs) es f l = each-append (IsLate w) cs es f l

pub first-next : (w : Ear) (closing : Bool) (cs es : List Effect) → First w closing cs → Each (IsLate w) es → First w closing (cs ++ es)
first-next w closing [] [] f l = tt
first-next w closing [] (e ∷ es) f l = λ g. let k = l.0.1 in absurd (cc)
first-next w closing (c ∷ cs) es f l = f

pub late-front : (w : Ear) (cs : List Effect) → Each (IsLate w) cs → Front w cs
late-front w [] l = tt
late-front w (c ∷ cs) l = l.1

pub late-first : (w : Ear) (closing : Bool) (cs : List Effect) → Each (λ e. flushes w e ≡ false) cs → First w closing cs
late-first w closing [] l = tt
late-first w closing (c ∷ cs) l = λ g. let k = l.0 in absurd (cc)

-- each row causes no more than one of them, and first

one_first : (w : Ear) (me : StreamId) (taker : Taker) (a : writable.Acts) (first : Option WriteRecord) → a.out.effects ≡ [] → Front w (hand_on_first me taker a first).out.effects
one_first w me taker a None e = rw e tt
one_first w me taker a (Some CloseMark) e = rw e tt
one_first w me taker a (Some InFlight) e = rw e tt
one_first w me taker a (Some (Chunk v)) e = rw e tt

module _ (w : Ear) (k : StreamId) where
  pub others-late : (operation : WritableOperation) (a : writable.Acts) → (IsHandOn operation → ⊥) → Each (IsLate w) a.out.effects → Each (IsLate w) (writable_operation k operation a).out.effects
  others-late operation a u l = others-do (λ (x : Out). Each (IsLate w) x.effects) k (record {
    settle = λ x p o h. h;
    fresh = λ x h. h;
    tell = λ x r h. h;
    write = λ x h. each-append (IsLate w) x.effects _ h ((refl, refl), tt);
    close = λ x h. each-append (IsLate w) x.effects _ h ((refl, refl), tt);
    abort = λ x r p h. each-append (IsLate w) x.effects _ h ((refl, refl), tt);
  }) operation a u l

  operation-front : (operation : WritableOperation) (a : writable.Acts) → a.out.effects ≡ [] → Front w (writable_operation k operation a).out.effects
  unfolding hand_on
  operation-front (HandOn taker) a e = one_first w k taker a (first_value a.slots.queue) e
  operation-front operation a e = late-front w _ (others-late operation a (λ u. u) (rw e tt))

module _ (w : Ear) (me : TransformId) (halves : Halves) (x : transform.Slots) (t : Table) where
  abbrev a : Acts
  a = record { slots = x; out = record { promises = t; effects = [] } }

  chunk-front : (v : Value) (d : PromiseId) (kind : Kind) → Front w (transform_by me halves v d a kind)
  chunk-front v d kind = grind arith

  goes_on-front : (d : PromiseId) (state : WritableState) → Front w (write_in me halves d a state).out.effects
  goes_on-front d state = grind arith

  flushed-front : (p : PromiseId) (state : ReadableState) → Front w (flushed_in p halves a state).out.effects
  flushed-front p state = grind arith

  aborted-front : (p : PromiseId) (r : Plain) (state : ReadableState) → Front w (aborted_in p halves r a state).out.effects
  aborted-front p r state = grind arith

  cancelled-front : (p : PromiseId) (r : Plain) (state : WritableState) → Front w (cancelled_in me p halves r a state).out.effects
  cancelled-front p r state = grind arith

  transform-front : (operation : TransformOperation) → Front w (transform_operation me halves operation a).out.effects
  unfolding set_backpressure unblock transform_error terminate enqueue enqueued transform_chunk sink_write write_goes_on source_pull sink_close sink_abort source_cancel flush_settled abort_settled cancel_settled
  transform-front (names.SinkWrite u) = grind arith
  transform-front (names.WriteGoesOn d) = goes_on-front d halves.writable_state
  transform-front (names.TransformChunk v d) = chunk-front v d x.kind
  transform-front (names.Enqueue v) = ((refl, refl), tt)
  transform-front names.Enqueued = grind arith
  transform-front (names.Error e) = ((refl, refl), ((refl, refl), tt))
  transform-front names.Unblock = grind arith
  transform-front names.Terminate = ((refl, refl), ((refl, refl), tt))
  transform-front (names.SourcePull u) = grind arith
  transform-front (names.SinkClose u) = grind arith
  transform-front (names.SinkAbort r u) = grind arith
  transform-front (names.SourceCancel r u) = grind arith
  transform-front (names.FlushSettled p (Ok v)) = flushed-front p halves.readable_state
  transform-front (names.FlushSettled p (Err e)) = ((refl, refl), tt)
  transform-front (names.AbortSettled p r (Ok v)) = aborted-front p r halves.readable_state
  transform-front (names.AbortSettled p r (Err e)) = ((refl, refl), tt)
  transform-front (names.CancelSettled p r (Ok v)) = cancelled-front p r halves.writable_state
  transform-front (names.CancelSettled p r (Err e)) = ((refl, refl), ((refl, refl), tt))

pipe-late : (w : Ear) (q : PipeId) (source dest : StreamId) (e : Effect) → PipeCauses q source dest e → IsLate w e
pipe-late w q source dest e c = grind (arith, c)

tee-late : (w : Ear) (t : TeeId) (source first second : StreamId) (e : Effect) → TeeCauses t source first second e → IsLate w e
tee-late w t source first second (OnWritable k operation) c = absurd c
tee-late w t source first second (OnTransform u operation) c = absurd c
tee-late w t source first second (CallHost call u) c = absurd c
tee-late w t source first second (OnPort d operation) c = absurd c
tee-late w t source first second _ c = (refl, refl)

port-late : (w : Ear) (c : PortId) (stream : StreamId) (e : Effect) → PortCauses c stream e → IsLate w e
port-late w c stream (OnTransform u operation) k = absurd k
port-late w c stream (OnPort d names_of.Unblock) k = (refl, refl)
port-late w c stream (OnPort d operation) k = absurd k
port-late w c stream (CallHost call u) k = absurd k
port-late w c stream _ k = (refl, refl)

pub signal-each : (P : Effect → Type 0) (operation : SignalOperation) → ((q : PipeId) (r : Plain) → P (OnPipe q (piped.Abort r))) → SignalCauses P operation
signal-each P (Trigger r) f = λ q. f q r
signal-each P (Add q) f = tt
signal-each P (Forget q) f = tt

pull-front : (w : Ear) (k : StreamId) (u : Use) (o : Owner) → Front w (pull_algorithm k u o)
pull-front w k u Host = tt
pull-front w k u (HalfOf t) = tt
pull-front w k u (BranchOf t half) = ((refl, refl), tt)
pull-front w k u (EndOf c) = ((refl, refl), tt)

cancel-front : (w : Ear) (k : StreamId) (r : Plain) (u : Use) (o : Owner) → Front w (cancel_algorithm k r u o)
cancel-front w k r u Host = tt
cancel-front w k r u (HalfOf t) = tt
cancel-front w k r u (BranchOf t half) = tt
cancel-front w k r u (EndOf c) = tt

write-front : (w : Ear) (k : StreamId) (o : Owner) → Front w (write_algorithm k o)
write-front w k Host = tt
write-front w k (HalfOf t) = tt
write-front w k (BranchOf t half) = tt
write-front w k (EndOf c) = tt

close-front : (w : Ear) (k : StreamId) (u : Use) (o : Owner) → Front w (close_algorithm k u o)
close-front w k u Host = tt
close-front w k u (HalfOf t) = tt
close-front w k u (BranchOf t half) = tt
close-front w k u (EndOf c) = tt

abort-front : (w : Ear) (k : StreamId) (r : Plain) (u : Use) (o : Owner) → Front w (abort_algorithm k r u o)
abort-front w k r u Host = tt
abort-front w k r u (HalfOf t) = tt
abort-front w k r u (BranchOf t half) = tt
abort-front w k r u (EndOf c) = tt

on_transform-front : (w : Ear) (t : TransformId) (operation : TransformOperation) (s : Slots) (o : Option transform.Slots) → Front w (on_transform_at (λ halves. transform_operation t halves operation) t s o).caused
on_transform-front w t operation s None = tt
on_transform-front w t operation s (Some x) = transform-front w t (halves_at x s) x s.promises operation

pub row-front : (w : Ear) (e : Effect) (s : Slots) → Front w (row e s).caused
unfolding row
row-front w (OnReadable k operation) s = late-front w _ (row-causes (IsLate w) (OnReadable k operation) s (record { pull = (refl, refl); cancel = λ r q. (refl, refl); chunk = λ request v. (refl, refl); close = λ request. (refl, refl); error = λ request r. (refl, refl) }))
row-front w (Byte k operation) s = late-front w _ (row-causes (IsLate w) (Byte k operation) s (record {
  readable = record { pull = (refl, refl); cancel = λ r q. (refl, refl); chunk = λ request v. (refl, refl); close = λ request. (refl, refl); error = λ request r. (refl, refl) };
  close_with = λ r b. (refl, refl);
}))
row-front w (OnWritable k operation) s =
    either (λ (d : Done). Front w d.caused) (has_writable k s) (put_writable k s (writable_operation k operation (writable_acts k s))) (nothing s)
    (λ there. operation-front w k operation (writable_acts k s) refl) (λ absent. tt)
row-front w (OnPipe q operation) s = late-front w _ (row-causes (IsLate w) (OnPipe q operation) s (λ source dest e c. pipe-late w q source dest e c))
row-front w (OnSignal a operation) s = late-front w _ (row-causes (IsLate w) (OnSignal a operation) s (signal-each (IsLate w) operation (λ q r. (refl, refl))))
row-front w (OnTransform t operation) s = on_transform-front w t operation s (slice_get s.transforms t.0)
row-front w (OnTee t operation) s = late-front w _ (row-causes (IsLate w) (OnTee t operation) s (λ source first second e c. tee-late w t source first second e c))
row-front w (OnPort t operation) s = late-front w _ (row-causes (IsLate w) (OnPort t operation) s (port-late w t))
row-front w (StartAlgorithm k step Now) s = tt
row-front w (StartAlgorithm k step Later) s = ((refl, refl), tt)
row-front w (PullAlgorithm k) s = pull-front w k _ (owner_at k s)
row-front w (CancelAlgorithm k r q) s = cancel-front w k r _ (owner_at k s)
row-front w (WriteAlgorithm k) s = write-front w k (owner_at k s)
row-front w (CloseAlgorithm k) s = close-front w k _ (owner_at k s)
row-front w (AbortAlgorithm k r q) s = abort-front w k r _ (owner_at k s)
row-front w (ChunkSteps k (Promise q) v) s = tt
row-front w (ChunkSteps k (PipeRequest q) v) s = tt
row-front w (ChunkSteps k (TeeRequest b) v) s = tt
row-front w (CloseSteps k (Promise q)) s = tt
row-front w (CloseStepsWith k (Promise q) b) s = tt
row-front w (CloseSteps k (PipeRequest q)) s = tt
row-front w (CloseSteps k (TeeRequest b)) s = tt
row-front w (CloseStepsWith k (PipeRequest q) b) s = tt
row-front w (CloseStepsWith k (TeeRequest tee_id) b) s = tt
row-front w (ErrorSteps k (Promise q) r) s = tt
row-front w (ErrorSteps k (PipeRequest q) r) s = tt
row-front w (ErrorSteps k (TeeRequest b) r) s = tt
row-front w _ s = tt

-- and only the close algorithm of a stream causes that of a transform stream

abbrev IsNoClosing : Effect → Type 0
IsNoClosing (CloseAlgorithm k) = ⊥
IsNoClosing _ = Unit {0}

abbrev pub NoFlush : Ear → Effect → Type 0
NoFlush w e = flushes w e ≡ false

pipe-flush : (w : Ear) (q : PipeId) (source dest : StreamId) (e : Effect) → PipeCauses q source dest e → NoFlush w e
pipe-flush w q source dest e c = grind (arith, c)

transform-flush : (w : Ear) (t : TransformId) (m r : StreamId) (e : Effect) → TransformCauses t m r e → NoFlush w e
transform-flush w t m r e c = grind (arith, c)

pub flush-causes : (w : Ear) (e : Effect) → IsNoClosing e → Causes (NoFlush w) e
flush-causes w (OnReadable k operation) n = record { pull = refl; cancel = λ r q. refl; chunk = λ request v. refl; close = λ request. refl; error = λ request r. refl }
flush-causes w (Byte k operation) n = record { readable = record { pull = refl; cancel = λ r q. refl; chunk = λ request v. refl; close = λ request. refl; error = λ request r. refl }; close_with = λ r b. refl }
flush-causes w (OnWritable k operation) n = record { write = refl; close = refl; abort = λ r q. refl; hand_on = λ v. refl; take = λ v t d. refl; post = λ v t d. refl }
flush-causes w (OnPipe q operation) n = λ source dest e c. pipe-flush w q source dest e c
flush-causes w (OnSignal a operation) n = signal-each (NoFlush w) operation (λ q r. refl)
flush-causes w (OnTransform t operation) n = λ m r e c. transform-flush w t m r e c
flush-causes w (OnTee t operation) n = λ source first second e c. (tee-late w t source first second e c).1
flush-causes w (OnPort t operation) n = λ stream e k. (port-late w t stream e k).1
flush-causes w (StartAlgorithm k step start) n = (λ g u. refl, λ c u. refl)
flush-causes w (PullAlgorithm k) n = (λ c u. refl, (λ t u. refl, (λ t. refl, (λ u. refl, λ q. refl))))
flush-causes w (CancelAlgorithm k r q) n = (λ c u. refl, (λ t u. refl, (λ t half u. refl, λ y u. refl)))
flush-causes w (WriteAlgorithm k) n = (refl, (λ t u. refl, λ z u. refl))
flush-causes w (CloseAlgorithm k) n = absurd n
flush-causes w (AbortAlgorithm k r q) n = (λ c u. refl, (λ t u. refl, λ z u. refl))
flush-causes w (ChunkSteps k (Promise q) v) n = tt
flush-causes w (ChunkSteps k (PipeRequest q) v) n = refl
flush-causes w (ChunkSteps k (TeeRequest b) v) n = refl
flush-causes w (CloseSteps k (Promise q)) n = tt
flush-causes w (CloseStepsWith k (Promise q) b) n = tt
flush-causes w (CloseSteps k (PipeRequest q)) n = refl
flush-causes w (CloseSteps k (TeeRequest b)) n = refl
flush-causes w (CloseStepsWith k (PipeRequest q) b) n = refl
flush-causes w (CloseStepsWith k (TeeRequest tee_id) b) n = refl
flush-causes w (ErrorSteps k (Promise q) r) n = tt
flush-causes w (ErrorSteps k (PipeRequest q) r) n = refl
flush-causes w (ErrorSteps k (TeeRequest b) r) n = refl
flush-causes w _ n = tt
