-- A stream that has ended stays so; and once the cancel algorithm of a transform stream is performed for an abort, its writable half has ended.
use Rattle.std.proofs.Common.{◌≡◌, ◌⊎◌, inl, inr, ⊎_elim, ℕ, ◌≤◌, Bool, true, false, is_some, nat_eq, List, [], ◌∷◌, ◌++◌, Option, Some, None, Ok, Err, slice_get, refl, sym, ap, ◌∙◌, arith}
use Rattle.ws_laws.proofs.PortDoes.{PortCauses}
use Rattle.ws_steps.specs.declared.effects.Owner.TheVariants.{EndOf}
use Rattle.ws_value.specs.declared.ids.PortId.{PortId}
use Rattle.ws_laws.proofs.TeeDoes.{TeeCauses}
use Rattle.ws_value.specs.declared.ids.TeeId.{TeeId}
use Rattle.ws_steps.specs.declared.effects.Effect.TheVariants.{Tee as OnTee}
use Rattle.ws_value.specs.declared.{ids.PipeId.{PipeId}, ids.PromiseId.{PromiseId}, ids.StreamId.{StreamId}, value.Plain.{Plain}, value.Value.{Value}}
use Rattle.ws_steps.specs.declared.calls.{Call.{Call}, StartBy.{StartBy}, StartBy.TheVariants.{Now, Later}}
use Rattle.ws_steps.specs.declared.calls.HostCall.TheVariants.{CancelTransform as HostCancel}
use Rattle.ws_steps.specs.declared.effects.{Effect.{Effect}, Owner.{Owner}, Owner.TheVariants.{Host, HalfOf, BranchOf}, Use.{Use}}
use Rattle.ws_steps.specs.declared.effects.Effect.TheVariants.{Readable as OnReadable, Writable as OnWritable, Pipe as OnPipe, Signal as OnSignal, Transform as OnTransform, Port as OnPort, StartAlgorithm, PullAlgorithm, CancelAlgorithm, WriteAlgorithm, CloseAlgorithm, AbortAlgorithm, ChunkSteps, CloseSteps, ErrorSteps, CallHost}
use Rattle.ws_steps.specs.declared.pipes.{SignalOperation.{SignalOperation}, SignalOperation.TheVariants.{Add, Forget, Trigger}}
use Rattle.ws_steps.specs.declared.promises.{Job.{Job}, Reaction.{Reaction}, Step.{Step}}
use Rattle.ws_steps.specs.declared.readable.{ReadRequest.{ReadRequest}, ReadRequest.TheVariants.{Promise, Pipe as PipeRequest, Tee as TeeRequest}}
use Rattle.ws_steps.specs.declared.transform.{Halves.{Halves}, Kind.{Kind}, Kind.TheVariants.{Identity, Host as HostKind}, TransformId.{TransformId}, TransformOperation.{TransformOperation}}
use Rattle.ws_steps.specs.declared.transform.TransformOperation.TheVariants as names_of
use Rattle.ws_steps.specs.declared.writable.{WritableOperation.{WritableOperation}}
use Rattle.ws_steps.specs.Begun.{Begun}
use Rattle.ws_steps.specs.Calls.{begin}
use Rattle.ws_steps.specs.Jobs.{job_effects}
use Rattle.ws_steps.specs.Promises.{Table, next_id}
use Rattle.ws_steps.specs.Slots.{Slots, found, halves_at, owner_at, has_writable, on_transform_at, Done, nothing, put_writable, writable_at, as_writable, Stream}
use Rattle.ws_steps.specs.Transform as transform
use Rattle.ws_steps.specs.Turns.{row, start_algorithm, pull_algorithm, cancel_algorithm, write_algorithm, close_algorithm, abort_algorithm}
use Rattle.ws_laws.proofs.EachCall.{each_call}
use Rattle.ws_laws.proofs.Halves.{Halved, get-stays}
use Rattle.ws_laws.proofs.Lists.{Each, each-append, each-map}
use Rattle.ws_laws.proofs.PipeDoes.{PipeCauses}
use Rattle.ws_laws.proofs.Causes.{ChunkCauses, EndCauses, ErrorCauses, SignalCauses, row-causes}
use Rattle.ws_laws.proofs.Shapes.{map-there, StreamShape, stream_shape, stream_shapes, row-stream_shapes}
use Rattle.ws_transform_laws.specs.TransformHistory.{is_same_transform}
use Rattle.ws_transform_laws.proofs.Cancelling.{is_half, mine, is_cancelled}
use Rattle.ws_transform_laws.proofs.Telling.{owned-stays}
use Rattle.ws_steps.specs.declared.writable.WritableOperation.TheVariants as writes
use Rattle.ws_steps.specs.Operations.{writable_operation, transform_operation}
use Rattle.ws_steps.specs.Writable as writable
use Rattle.ws_steps.specs.Writable.{has_ended}
use Rattle.ws_steps.specs.WritableHistory.{Writes}
use Rattle.ws_laws.proofs.Tables.{either, writable_acts, on_writable-same}
use Rattle.ws_writable_laws.proofs.Agenda.{Kept, Elsewhere, row-leaves, same_or}
use Rattle.ws_writable_laws.proofs.Operations.{handed}
use Rattle.ws_writable_laws.proofs.Shape.{all, hands, leads_to, is_abort, of_use, of_reaction}
use Rattle.ws_want_laws.proofs.Answering.{IsSole, sole-at}
use Rattle.ws_want_laws.proofs.Holding.{IsHalf, written-half}
use Rattle.ws_steps.specs.Histories.{is_same}
use Rattle.ws_steps.specs.declared.promises.Step.TheVariants.{TransformAborted, TransformCancelled}
use Rattle.ws_laws.proofs.Begin.{begin-makes}
use Rattle.ws_transform_laws.proofs.Halving.{map-from}
use Rattle.ws_steps.specs.declared.effects.Effect.TheVariants.{Byte, CloseStepsWith}

self : (k : ℕ) → nat_eq k k ≡ true
self k = grind arith

module _ (i : StreamId) where
  abbrev pub Stays : writable.Acts → writable.Acts → Type 0
  Stays a b = has_ended a.slots.state ≡ true → has_ended b.slots.state ≡ true

  finish-ended : (a : writable.Acts) → has_ended (writable.finish_erroring i a).slots.state ≡ true
  unfolding writable.finish_erroring writable.reject_close_and_closed
  finish-ended a = grind arith

  rejection-stays : (e : Plain) (a : writable.Acts) → Stays a (writable.deal_with_rejection i e a)
  unfolding writable.deal_with_rejection
  rejection-stays e a k = grind (arith, finish-ended, k)

  needed-stays : (e : Plain) (a : writable.Acts) → Stays a (writable.controller_error_if_needed i e a)
  unfolding writable.controller_error_if_needed
  needed-stays e a k = grind (arith, k)

  advance-stays : (a : writable.Acts) → Stays a (writable.advance_queue i a)
  unfolding writable.advance_queue writable.process_write writable.process_close
  advance-stays a k = grind (arith, finish-ended, k)

  refresh-state : (a : writable.Acts) → (writable.refresh_backpressure a).slots.state ≡ a.slots.state
  unfolding writable.refresh_backpressure writable.update_backpressure
  refresh-state a = grind arith

  written-stays : (v : Value) (p : PromiseId) (a : writable.Acts) (refusal : Option Plain) → Stays a (writable.write_by i v p a refusal)
  unfolding writable.controller_write
  written-stays v p a refusal k = grind (arith, advance-stays, refresh-state, k)

  closing-stays : (p : PromiseId) (a : writable.Acts) → Stays a (writable.stream_close i p a)
  unfolding writable.stream_close writable.controller_close
  closing-stays p a k = grind (arith, advance-stays, k)

  stream_abort-stays : (c : Plain) (p : PromiseId) (a : writable.Acts) → Stays a (writable.stream_abort i c p a)
  unfolding writable.stream_abort
  stream_abort-stays c p a k = grind (arith, k)

  pub operation-stays : (operation : WritableOperation) (a : writable.Acts) → Stays a (writable_operation i operation a)
  unfolding writable.writer_release writable.writer_write writable.close_with_error_propagation writable.abort_if_writable writable.hand_on writable.start_settled writable.write_settled writable.close_settled writable.abort_settled writable.finish_in_flight_close writable.finish_in_flight_close_with_error writable.reject_close_and_closed writable.set_up_writer
  operation-stays (writes.SetUpWriter w) a k = grind (arith, k)
  operation-stays writes.ReleaseWriter a k = grind (arith, k)
  operation-stays (writes.Write v p) a k = written-stays v p a (writable.write_refusal a.slots) k
  operation-stays (writes.Close p) a k = closing-stays p a k
  operation-stays (writes.ClosePropagating p) a k = grind (arith, closing-stays, k)
  operation-stays (writes.Abort c p) a k = stream_abort-stays c p a k
  operation-stays (writes.AbortIfWritable c p) a k = grind (arith, stream_abort-stays, k)
  operation-stays (writes.ErrorIfNeeded e) a k = needed-stays e a k
  operation-stays (writes.HandOn taker) a k = grind (arith, k)
  operation-stays (writes.StartSettled (Ok v)) a k = grind (arith, advance-stays, k)
  operation-stays (writes.StartSettled (Err e)) a k = grind (arith, rejection-stays, k)
  operation-stays (writes.WriteSettled (Ok v)) a k = grind (arith, advance-stays, refresh-state, k)
  operation-stays (writes.WriteSettled (Err e)) a k = grind (arith, rejection-stays, k)
  operation-stays (writes.CloseSettled (Ok v)) a k = grind (arith, k)
  operation-stays (writes.CloseSettled (Err e)) a k = grind (arith, rejection-stays, k)
  operation-stays (writes.AbortSettled p (Ok v)) a k = grind (arith, k)
  operation-stays (writes.AbortSettled p (Err e)) a k = grind (arith, k)

-- over each effect

-- the stream is there, and has ended
abbrev pub HasEnded : StreamId → Slots → Type 0
HasEnded i s = has_ended (writable_at i s).state ≡ true

abbrev pub IsEnded : StreamId → Slots → Type 0
IsEnded i s = HasEnded i s × (is_some (slice_get (stream_shapes s) i.0) ≡ true)

own-ended : (i : StreamId) (operation : WritableOperation) (s : Slots) → HasEnded i s → HasEnded i (row (OnWritable i operation) s).slots
unfolding row
own-ended i operation s k =
    either (λ (d : Done). HasEnded i d.slots) (has_writable i s) (put_writable i s (writable_operation i operation (writable_acts i s))) (nothing s)
    (λ there.
    let at : writable_at i (put_writable i s (writable_operation i operation (writable_acts i s))).slots ≡ (writable_operation i operation (writable_acts i s)).slots =
    ap as_writable (rw there at (on_writable-same (writable_operation i operation) i s there)) in
    rw at (operation-stays i operation (writable_acts i s) k))
    (λ absent. k)

other-ended : (i : StreamId) (e : Effect) (s : Slots) → Elsewhere i e → HasEnded i s → HasEnded i (row e s).slots
other-ended i e s x k = rw ((row-leaves i e s x).place) k

state-ended : (i : StreamId) (e : Effect) (s : Slots) → HasEnded i s → HasEnded i (row e s).slots
state-ended i (OnWritable j operation) s =
    same_or (λ l. HasEnded i s → HasEnded i (row (OnWritable l operation) s).slots) i j (is_same i j) refl (λ n. other-ended i (OnWritable j operation) s n) (own-ended i operation s)
state-ended i e s = other-ended i e s tt

pub row-ended : (i : StreamId) (e : Effect) (s : Slots) → IsEnded i s → IsEnded i (row e s).slots
row-ended i e s k = (state-ended i e s k.0, ap (λ (xs : List StreamShape). is_some (slice_get xs i.0)) (row-stream_shapes e s) ∙ k.1)

-- it stays there

shape-there : (o : Option StreamShape) → is_some o ≡ true → (x : StreamShape) × (o ≡ Some x)
shape-there None e = cc
shape-there (Some x) e = (x, refl)

call-stream : (c : Call) (s : Slots) (k : ℕ) (y : Stream) → slice_get s.streams k ≡ Some y → slice_get (begin c s).done.slots.streams k ≡ Some y
call-stream c s k y at = begin-makes (λ z. slice_get z.streams k ≡ Some y) (record {
  promise = λ z h. h;
  locks = λ z ls h. h;
  hosts = λ z hs h. h;
  pipe = λ z source dest prevent signal promise h. h;
  signal = λ z h. h;
  transform = λ z kind w q change h. h;
  tee = λ z source first second cancel h. h;
  port = λ z side stream backpressure h. h;
  bytes = λ z mark auto h. get-stays z.streams _ k y h;
  byob_requests = λ z hs h. h;
  readable = λ z o mark size h. get-stays z.streams _ k y h;
  writable = λ z o mark size h. get-stays z.streams _ k y h;
}) c s at

pub call-ended : (i : StreamId) (c : Call) (s : Slots) → IsEnded i s → IsEnded i (begin c s).done.slots
call-ended i c s k =
    let x = shape-there (slice_get (stream_shapes s) i.0) k.1 in
    let y = map-from stream_shape s.streams i.0 x.0 x.1 in
    let now = call-stream c s i.0 y.0 y.1.0 in
    (ap (λ (o : Option Stream). has_ended (as_writable o).state) (now ∙ sym y.1.0) ∙ k.0, ap is_some (map-there stream_shape (begin c s).done.slots.streams i.0 y.0 now))

-- a stream whose abort is under way is there, and has ended

handed-state : (n : ℕ) (w : writable.Slots) → (handed n w).state ≡ w.state
handed-state n w = grind arith

pub abort-ended : (i : StreamId) (h : Writes) (s : Slots) (es : List Effect) → Kept i h s es → 1 ≤ all (leads_to (is_abort i)) es → IsEnded i s
abort-ended i h s es k n = (by (has_ended (handed (all (hands i) es) (writable_at i s)).state) refl, there (slice_get s.streams i.0) refl)
  where
    same : (handed (all (hands i) es) (writable_at i s)).state ≡ (writable_at i s).state
    same = handed-state (all (hands i) es) (writable_at i s)

    by : (b : Bool) → b ≡ has_ended (handed (all (hands i) es) (writable_at i s)).state → HasEnded i s
    by true e = ap has_ended (sym same) ∙ sym e
    by false e = let z = k.held.fine.owed.aborts (sym e) in absurd (omega arith)

    there : (o : Option Stream) → o ≡ slice_get s.streams i.0 → is_some (slice_get (stream_shapes s) i.0) ≡ true
    there None e = let z = (k.unmade (sym e)).aborts in absurd (omega arith)
    there (Some y) e = ap is_some (map-there stream_shape s.streams i.0 y (sym e))

module _ (t : TransformId) (i r : StreamId) where
  -- the reaction to the cancel algorithm that a cancel performed
  abbrev pub cancelled : Reaction → ℕ
  cancelled = of_reaction (is_cancelled t)

  -- the cancel algorithm is called for a cancel, or the writable half has ended
  abbrev pub IsEnding : Slots → Type 0 → Effect → Type 0
  IsEnding s V (AbortAlgorithm j c p) = mine t s j ≡ true → j ≡ i
  IsEnding s V (OnTransform u (names_of.SinkAbort c w)) = is_same_transform t u ≡ true → V
  IsEnding s V (CallHost (HostCancel j c) u) = j ≡ r → (1 ≤ of_use (is_cancelled t) u) ⊎ V
  IsEnding s V _ = Unit {0}

  abbrev pub EndingOf : Slots → Type 0 → List Effect → Type 0
  EndingOf s V es = Each (IsEnding s V) es

  ending-on : (s z : Slots) (V U : Type 0) → ((j : StreamId) → mine t z j ≡ mine t s j) → (V → U) → (e : Effect) → IsEnding s V e → IsEnding z U e
  ending-on s z V U same f (AbortAlgorithm j c p) k = λ m. k (sym (same j) ∙ m)
  ending-on s z V U same f (OnTransform u (names_of.SinkAbort c w)) k = λ e. f (k e)
  ending-on s z V U same f (CallHost (HostCancel j c) u) k = λ e. ⊎_elim (λ a. inl a) (λ v. inr (f v)) (k e)
  ending-on s z V U same f _ k = tt

  module _ (s : Slots) (V : Type 0) where
    chunk-ending : (v : Value) (q : ReadRequest) → ChunkCauses (IsEnding s V) v q
    chunk-ending v (Promise p) = tt
    chunk-ending v (PipeRequest p) = tt
    chunk-ending v (TeeRequest t) = tt

    end-ending : (q : ReadRequest) → EndCauses (IsEnding s V) q
    end-ending (Promise p) = tt
    end-ending (PipeRequest p) = tt
    end-ending (TeeRequest t) = tt

    error-ending : (q : ReadRequest) → ErrorCauses (IsEnding s V) q
    error-ending (Promise p) = tt
    error-ending (PipeRequest p) = tt
    error-ending (TeeRequest t) = tt

    signal-ending : (operation : SignalOperation) → SignalCauses (IsEnding s V) operation
    signal-ending (Add p) = tt
    signal-ending (Forget p) = tt
    signal-ending (Trigger c) = λ p. tt

    pipe-ending : (p : PipeId) (source dest : StreamId) (e : Effect) → PipeCauses p source dest e → IsEnding s V e
    pipe-ending p source dest (CallHost call u) c = absurd c
    pipe-ending p source dest (OnTransform u operation) c = absurd c
    pipe-ending p source dest (AbortAlgorithm j x q) c = absurd c
    pipe-ending p source dest _ c = tt

    tee-ending : (u : TeeId) (source first second : StreamId) (e : Effect) → TeeCauses u source first second e → IsEnding s V e
    tee-ending u source first second (CallHost call w) c = absurd c
    tee-ending u source first second (OnTransform y operation) c = absurd c
    tee-ending u source first second (AbortAlgorithm j x q) c = absurd c
    tee-ending u source first second _ c = tt

    port-ending : (c : PortId) (stream : StreamId) (e : Effect) → PortCauses c stream e → IsEnding s V e
    port-ending c stream (CallHost call w) k = absurd k
    port-ending c stream (OnTransform y operation) k = absurd k
    port-ending c stream (AbortAlgorithm j x q) k = absurd k
    port-ending c stream _ k = tt

    absent : (j : StreamId) (operation : WritableOperation) → has_writable j s ≡ false → (row (OnWritable j operation) s).caused ≡ []
    unfolding row
    absent j operation e = rw e refl

    writable-ending : (j : StreamId) (operation : WritableOperation) → Halved s → IsHalf t i s → EndingOf s V (row (OnWritable j operation) s).caused
    writable-ending j operation halved h = by (has_writable j s) refl
      where
        by : (b : Bool) → b ≡ has_writable j s → EndingOf s V (row (OnWritable j operation) s).caused
        by true e = row-causes (IsEnding s V) (OnWritable j operation) s (record { write = tt; close = tt; abort = λ c p. written-half t i s j halved h (sym e); hand_on = λ v. tt; take = λ v u d. tt; post = λ v c d. tt })
        by false e = rw (absent j operation (sym e)) tt

    finish-by : (u : TransformId) (c : Plain) (step : PromiseId → Step) (w : Use) (x : transform.Slots) (z : Table) (kind : Kind) (o : Option PromiseId)
        → ((p : PromiseId) → x.readable ≡ r → (1 ≤ is_cancelled t (step p)) ⊎ V)
        → EndingOf s V (transform.finish_by (HostCancel x.readable c) step w (record { slots = record x { kind = kind }; out = record { promises = z; effects = [] } }) o).out.effects
    finish-by u c step w x z kind (Some p) k = (tt, tt)
    finish-by u c step w x z Identity None k = (tt, (tt, tt))
    finish-by u c step w x z HostKind None k = (k (next_id z), (tt, tt))

    -- an operation that performs the cancel algorithm
    abbrev IsCancelling : TransformOperation → Type 0
    IsCancelling (names_of.SinkAbort c w) = Unit {0}
    IsCancelling (names_of.SourceCancel c w) = Unit {0}
    IsCancelling _ = ⊥

    others-ending : (u : TransformId) (halves : Halves) (operation : TransformOperation) (a : transform.Acts) → (IsCancelling operation → ⊥)
        → a.out.effects ≡ []
        → EndingOf s V (transform_operation u halves operation a).out.effects
    unfolding transform.unblock transform.transform_error transform.terminate transform.enqueue transform.enqueued transform.transform_chunk transform.sink_write transform.write_goes_on transform.source_pull transform.set_backpressure transform.sink_close transform.sink_abort transform.source_cancel transform.flush_settled transform.abort_settled transform.cancel_settled
    others-ending u halves (names_of.SinkAbort c w) a n none = absurd (n tt)
    others-ending u halves (names_of.SourceCancel c w) a n none = absurd (n tt)
    others-ending u halves operation a n none = grind (arith, none)

    transform-ending : (u : TransformId) (operation : TransformOperation) (o : Option transform.Slots) → slice_get s.transforms u.0 ≡ o
        → IsSole t i r s → IsEnding s V (OnTransform u operation)
        → EndingOf s V (on_transform_at (λ halves. transform_operation u halves operation) u s o).caused
    unfolding transform.sink_abort transform.source_cancel
    transform-ending u operation None at h k = tt
    transform-ending u (names_of.SinkAbort c w) (Some x) at h k =
        finish-by u c (λ p. TransformAborted u p c) w x s.promises x.kind x.finish (λ p e. inr (k (let is = sole-at t i r s u x h at e in rw is (self t.0))))
    transform-ending u (names_of.SourceCancel c w) (Some x) at h k =
        finish-by u c (λ p. TransformCancelled u p c) w x s.promises x.kind x.finish (λ p e. inl (let is = sole-at t i r s u x h at e in let a = self t.0 in rw is (rw a (omega arith))))
    transform-ending u operation (Some x) at h k = others-ending u (halves_at x s) operation (record { slots = x; out = found s }) (λ c. c) refl

    start-ending : (j : StreamId) (step : Step) (start : StartBy) → EndingOf s V (start_algorithm j step s start).caused
    start-ending j step Now = (tt, tt)
    start-ending j step Later = (tt, (tt, tt))

    pull-ending : (j : StreamId) (u : Use) (owner : Owner) → EndingOf s V (pull_algorithm j u owner)
    pull-ending j u Host = (tt, tt)
    pull-ending j u (HalfOf k) = (tt, tt)
    pull-ending j u (BranchOf k half) = (tt, (tt, tt))
    pull-ending j u (EndOf c) = (tt, (tt, tt))

    cancel-ending : (j : StreamId) (c : Plain) (u : Use) (owner : Owner) → EndingOf s V (cancel_algorithm j c u owner)
    cancel-ending j c u Host = (tt, tt)
    cancel-ending j c u (HalfOf k) = (tt, tt)
    cancel-ending j c u (BranchOf k half) = (tt, tt)
    cancel-ending j c u (EndOf q) = (tt, tt)

    write-ending : (j : StreamId) (owner : Owner) → EndingOf s V (write_algorithm j owner)
    write-ending j Host = (tt, tt)
    write-ending j (HalfOf k) = (tt, tt)
    write-ending j (BranchOf k half) = (tt, tt)
    write-ending j (EndOf c) = (tt, tt)

    close-ending : (j : StreamId) (u : Use) (owner : Owner) → EndingOf s V (close_algorithm j u owner)
    close-ending j u Host = (tt, tt)
    close-ending j u (HalfOf k) = (tt, tt)
    close-ending j u (BranchOf k half) = (tt, tt)
    close-ending j u (EndOf c) = (tt, tt)

    algorithm-ending : (j : StreamId) (c : Plain) (u : Use) (owner : Owner) → (is_half t owner ≡ true → V) → EndingOf s V (abort_algorithm j c u owner)
    algorithm-ending j c u Host k = (tt, tt)
    algorithm-ending j c u (HalfOf y) k = (k, tt)
    algorithm-ending j c u (BranchOf y half) k = (tt, tt)
    algorithm-ending j c u (EndOf q) k = (tt, tt)

    pub caused-ending : (e : Effect) → Halved s → IsHalf t i s → IsSole t i r s → IsEnding s V e
        → ((c : Plain) (p : PromiseId) → e ≡ AbortAlgorithm i c p → V) → EndingOf s V (row e s).caused
    unfolding row
    caused-ending (OnReadable j operation) halved h g k v = row-causes (IsEnding s V) (OnReadable j operation) s (record { pull = tt; cancel = λ c p. tt; chunk = λ q v. tt; close = λ q. tt; error = λ q e. tt })
    caused-ending (Byte j operation) halved h g k v =
        row-causes (IsEnding s V) (Byte j operation) s (record { readable = record { pull = tt; cancel = λ c p. tt; chunk = λ q v. tt; close = λ q. tt; error = λ q e. tt }; close_with = λ q b. tt })
    caused-ending (OnWritable j operation) halved h g k v = writable-ending j operation halved h
    caused-ending (OnPipe p operation) halved h g k v = row-causes (IsEnding s V) (OnPipe p operation) s (pipe-ending p)
    caused-ending (OnSignal a operation) halved h g k v = row-causes (IsEnding s V) (OnSignal a operation) s (signal-ending operation)
    caused-ending (OnTransform u operation) halved h g k v = transform-ending u operation (slice_get s.transforms u.0) refl g k
    caused-ending (OnTee u operation) halved h g k v = row-causes (IsEnding s V) (OnTee u operation) s (tee-ending u)
    caused-ending (OnPort c operation) halved h g k v = row-causes (IsEnding s V) (OnPort c operation) s (port-ending c)
    caused-ending (StartAlgorithm j step start) halved h g k v = start-ending j step start
    caused-ending (PullAlgorithm j) halved h g k v = pull-ending j _ (owner_at j s)
    caused-ending (CancelAlgorithm j c p) halved h g k v = cancel-ending j c _ (owner_at j s)
    caused-ending (WriteAlgorithm j) halved h g k v = write-ending j (owner_at j s)
    caused-ending (CloseAlgorithm j) halved h g k v = close-ending j _ (owner_at j s)
    caused-ending (AbortAlgorithm j c p) halved h g k v = algorithm-ending j c _ (owner_at j s) (λ m. v c p (ap (λ (n : StreamId). AbortAlgorithm n c p) (k m)))
    caused-ending (ChunkSteps j q x) halved h g k v = row-causes (IsEnding s V) (ChunkSteps j q x) s (chunk-ending x q)
    caused-ending (CloseSteps j q) halved h g k v = row-causes (IsEnding s V) (CloseSteps j q) s (end-ending q)
    caused-ending (CloseStepsWith j q b) halved h g k v = row-causes (IsEnding s V) (CloseStepsWith j q b) s (end-ending q)
    caused-ending (ErrorSteps j q e) halved h g k v = row-causes (IsEnding s V) (ErrorSteps j q e) s (error-ending q)
    caused-ending _ halved h g k v = tt

  pub row-ending : (s : Slots) (V U : Type 0) (e : Effect) (es : List Effect) → Halved s → IsHalf t i s → IsSole t i r s → (V → U)
      → ((c : Plain) (p : PromiseId) → e ≡ AbortAlgorithm i c p → V) → EndingOf s V (e ∷ es)
      → EndingOf (row e s).slots U ((row e s).caused ++ es)
  row-ending s V U e es halved h g f v k =
      each-map (IsEnding s V) (IsEnding (row e s).slots U) (ending-on s (row e s).slots V U (owned-stays t i s e) f) ((row e s).caused ++ es)
      (each-append (IsEnding s V) (row e s).caused es (caused-ending s V e halved h g k.0 v) k.1)

  pub call-ending : (c : Call) (s z : Slots) (V : Type 0) → EndingOf z V (begin c s).done.caused
  call-ending c s z V = each_call (λ (b : Begun). EndingOf z V b.done.caused) c s (grind arith)

  pub job-ending : (job : Job) (s : Slots) (V : Type 0) → EndingOf s V (job_effects job)
  job-ending job s V = grind arith
