-- Where nothing that can't be cloned was given to a stream at the end of a port, none lies in such a stream, which cancels and aborts with none; so a port
-- is given none to send.
use Rattle.std.proofs.Common.{◌≡◌, ℕ, zero, suc, Bool, true, false, ◌&&◌, ◌||◌, List, [], ◌∷◌, ◌++◌, map, Option, Some, None, Result, Ok, Err, slice_get, refl, sym, ap, subst, ◌∙◌, arith}
use Rattle.ws_value.specs.declared.ids.PromiseId.{PromiseId}
use Rattle.ws_value.specs.declared.ids.{PipeId.{PipeId}, PortId.{PortId}, StreamId.{StreamId}, TeeId.{TeeId}}
use Rattle.ws_value.specs.declared.value.Plain.{Plain}
use Rattle.ws_value.specs.Values.{is_cloneable, is_value_cloneable}
use Rattle.ws_steps.specs.declared.byte.ByteOperation.{ByteOperation}
use Rattle.ws_steps.specs.declared.calls.Call.{Call}
use Rattle.ws_steps.specs.declared.effects.Effect.{Effect}
use Rattle.ws_steps.specs.declared.effects.Effect.TheVariants.{Readable as OnReadable, Byte as OnByte, Writable as OnWritable, Pipe as OnPipe, Signal as OnSignal, Transform as OnTransform, Tee as OnTee, Port as OnPort, StartAlgorithm, PullAlgorithm, CancelAlgorithm, WriteAlgorithm, CloseAlgorithm, AbortAlgorithm, ChunkSteps, CloseSteps, CloseStepsWith, ErrorSteps}
use Rattle.ws_steps.specs.declared.effects.Owner.{Owner}
use Rattle.ws_steps.specs.declared.effects.Owner.TheVariants.{Host, HalfOf, BranchOf, EndOf}
use Rattle.ws_steps.specs.declared.effects.Use.{Use}
use Rattle.ws_steps.specs.declared.pipes.SignalOperation.TheVariants as signals
use Rattle.ws_steps.specs.declared.port.PortOperation.{PortOperation}
use Rattle.ws_steps.specs.declared.port.PortOperation.TheVariants as ports
use Rattle.ws_steps.specs.declared.port.Side.{Side}
use Rattle.ws_steps.specs.declared.port.Side.TheVariants.{Readable as ReadableSide, Writable as WritableSide}
use Rattle.ws_steps.specs.declared.promises.Job.{Job}
use Rattle.ws_steps.specs.declared.promises.Job.TheVariants.{Reaction as ReactionJob}
use Rattle.ws_steps.specs.declared.promises.Step.{Step}
use Rattle.ws_steps.specs.declared.queue.Queued.{Queued}
use Rattle.ws_steps.specs.declared.readable.ReadRequest.TheVariants.{Promise, Pipe as PipeRequest, Tee as TeeRequest}
use Rattle.ws_steps.specs.declared.readable.ReadableOperation.{ReadableOperation}
use Rattle.ws_steps.specs.declared.transform.TransformId.{TransformId}
use Rattle.ws_steps.specs.declared.writable.WritableOperation.{WritableOperation}
use Rattle.ws_steps.specs.declared.writable.WriteRecord.{WriteRecord}
use Rattle.ws_steps.specs.declared.writable.WriteRecord.TheVariants.{Chunk, InFlight, CloseMark}
use Rattle.ws_steps.specs.Begun.{Begun}
use Rattle.ws_steps.specs.Bytes as byte
use Rattle.ws_steps.specs.Calls.{begin}
use Rattle.ws_steps.specs.Cross as cross
use Rattle.ws_steps.specs.Cross.{clones_first, data_clone}
use Rattle.ws_steps.specs.Histories.{is_same, in_step}
use Rattle.ws_steps.specs.Jobs.{steps, resolved, returned, job_effects, job_begun, begin_job}
use Rattle.ws_steps.specs.MakingCalls.{add_stream}
use Rattle.ws_steps.specs.Operations.{readable_operation, byte_operation, writable_operation}
use Rattle.ws_steps.specs.Promises.{next_job, after_next_job}
use Rattle.ws_steps.specs.Queues.{first_value}
use Rattle.ws_steps.specs.Readable as readable
use Rattle.ws_steps.specs.Run.{Entry, Called, step, run}
use Rattle.ws_steps.specs.Slots.{Slots, Done, Stream, ReadableStream, ByteStream, WritableStream, empty, has_byte, has_readable, has_writable, is_byte_stream, as_writable, writable_at, owner_at, owner_of, with_promises, on_readable, on_byte, on_writable, clones_at}
use Rattle.ws_steps.specs.Turns.{row, on_source, cancel_algorithm, abort_algorithm}
use Rattle.ws_steps.specs.Writable as writable
use Rattle.ws_laws.proofs.Apart.{IsApart, row-streams}
use Rattle.ws_laws.proofs.Begin.{Makes, begin-makes}
use Rattle.ws_laws.proofs.Causes.{row-causes}
use Rattle.ws_laws.proofs.EachCall.{each_call}
use Rattle.ws_laws.proofs.Ended.{Ended, PortShape, port_shape, end_shape}
use Rattle.ws_laws.proofs.Lists.{Each, each-append, each-map}
use Rattle.ws_laws.proofs.PipeDoes.{PipeCauses}
use Rattle.ws_laws.proofs.PortDoes.{PortCauses}
use Rattle.ws_laws.proofs.Shapes.{StreamShape, ReadableOf, BytesOf, WritableOf, stream_shape, row-owner, map-there}
use Rattle.ws_laws.proofs.Tables.{either, same_id, readable_acts, writable_acts, on_writable-same, on_writable-other, on_source-readable, on_source-writable, on_byte-writable}
use Rattle.ws_laws.proofs.TeeDoes.{TeeCauses}
use Rattle.ws_laws.proofs.TransformDoes.{TransformCauses}
use Rattle.ws_laws.proofs.Truth.{and_left, nor_left, nor_right}
use Rattle.ws_laws.proofs.Walker.{IsHistory, GoesUntold, RestsUntold, run-holds}
use Rattle.ws_reason_laws.specs.Uncloned.{is_end, cancels_uncloned, writes_uncloned, effect_uncloned, run_uncloned}
use Rattle.ws_reason_laws.proofs.Cancels.{operation-calm}
use Rattle.ws_reason_laws.proofs.Ports.{Clones}
use Rattle.ws_reason_laws.proofs.Sends.{Calm, record_cloned, all_cloned, abort_cloned, operation-sends}

-- what a stream keeps that can be cloned
abbrev pub Kept : writable.Slots → Type 0
Kept w = (all_cloned w.queue ≡ true) × (abort_cloned w.pending_abort ≡ true)

abbrev Streams : Slots → Type 0
Streams s = (i : StreamId) → is_end (owner_at i s) ≡ true → Kept (writable_at i s)

-- what a stream at the end of a port cancels or aborts with, and what leaves by a port
abbrev CalmAt : Slots → Effect → Type 0
CalmAt s (CancelAlgorithm i r p) = is_end (owner_at i s) ≡ true → is_cloneable r ≡ true
CalmAt s (AbortAlgorithm i r p) = is_end (owner_at i s) ≡ true → is_cloneable r ≡ true
CalmAt s (OnPort c (ports.Leave r u)) = is_cloneable r ≡ true
CalmAt s _ = Unit {0}

pub record Cloned (s : Slots) (es : List Effect) : Type 0 where
  pub streams : Streams s
  pub agenda : Each (CalmAt s) es

calm-at : (s : Slots) (x : Effect) → Calm x → CalmAt s x
calm-at s (CancelAlgorithm i r p) c = λ e. c
calm-at s (AbortAlgorithm i r p) c = λ e. c
calm-at s (OnPort c (ports.Leave r u)) h = h
calm-at s _ c = tt

calm-stays : (x : Effect) (s : Slots) (e : Effect) → CalmAt s e → CalmAt (row x s).slots e
calm-stays x s (CancelAlgorithm i r p) h = λ w. h (sym (ap is_end (row-owner i x s)) ∙ w)
calm-stays x s (AbortAlgorithm i r p) h = λ w. h (sym (ap is_end (row-owner i x s)) ∙ w)
calm-stays x s (OnPort c (ports.Leave r u)) h = h
calm-stays x s _ h = tt

-- a stream at the end of a port has no byte controller
no-bytes : (o : Option Stream) → is_end (owner_of o) ≡ true → is_byte_stream o ≡ false
no-bytes o e = grind (arith, e)

given : (end uncloned : Bool) → end && uncloned ≡ false → end ≡ true → uncloned ≡ false
given end uncloned g e = grind (arith, g, e)

neither : {A : Type 0} (b : Bool) → b ≡ false → b ≡ true → A
neither b e f = cc

-- what an effect causes
module _ (s : Slots) where
  cancel-calm : (k : StreamId) (r : Plain) (u : Use) (o : Owner) → (is_end o ≡ true → is_cloneable r ≡ true) → Each (CalmAt s) (cancel_algorithm k r u o)
  cancel-calm k r u Host h = (tt, tt)
  cancel-calm k r u (HalfOf t) h = (tt, tt)
  cancel-calm k r u (BranchOf t half) h = (tt, tt)
  cancel-calm k r u (EndOf d) h = (h refl, tt)

  abort-calm : (k : StreamId) (r : Plain) (u : Use) (o : Owner) → (is_end o ≡ true → is_cloneable r ≡ true) → Each (CalmAt s) (abort_algorithm k r u o)
  abort-calm k r u Host h = (tt, tt)
  abort-calm k r u (HalfOf t) h = (tt, tt)
  abort-calm k r u (BranchOf t half) h = (tt, tt)
  abort-calm k r u (EndOf d) h = (h refl, tt)

  pipe-calm : (p : PipeId) (source dest : StreamId) (e : Effect) → PipeCauses p source dest e → CalmAt s e
  pipe-calm p source dest e m = grind (arith, m)

  tee-calm : (u : TeeId) (source first second : StreamId) (e : Effect) → TeeCauses u source first second e → CalmAt s e
  tee-calm u source first second e m = grind (arith, m)

  transform-calm : (t : TransformId) (w r : StreamId) (e : Effect) → TransformCauses t w r e → CalmAt s e
  transform-calm t w r e m = grind (arith, m)

  port-calm : (d : PortId) (stream : StreamId) (e : Effect) → PortCauses d stream e → CalmAt s e
  port-calm d stream e m = grind (arith, m)

  -- an operation of a stream that isn't at the end of a port

  other-readable : (k : StreamId) (operation : ReadableOperation) → is_end (owner_at k s) ≡ false → Each (CalmAt s) (row (OnReadable k operation) s).caused
  other-readable k operation n =
      row-causes (CalmAt s) (OnReadable k operation) s (record { pull = tt; cancel = λ r q. λ e. neither (is_end (owner_at k s)) n e; chunk = λ q v. tt; close = λ q. tt; error = λ q e. tt })

  other-byte : (k : StreamId) (operation : ByteOperation) → is_end (owner_at k s) ≡ false → Each (CalmAt s) (row (OnByte k operation) s).caused
  other-byte k operation n =
      row-causes (CalmAt s) (OnByte k operation) s
      (record { readable = record { pull = tt; cancel = λ r q. λ e. neither (is_end (owner_at k s)) n e; chunk = λ q v. tt; close = λ q. tt; error = λ q e. tt }; close_with = λ q b. tt })

  other-writable : (k : StreamId) (operation : WritableOperation) → is_end (owner_at k s) ≡ false → Each (CalmAt s) (row (OnWritable k operation) s).caused
  other-writable k operation n =
      row-causes (CalmAt s) (OnWritable k operation) s (record { write = tt; close = tt; abort = λ r q. λ e. neither (is_end (owner_at k s)) n e; hand_on = λ v. tt; take = λ v t d. tt; post = λ v d p. tt })

  -- and of one that is

  end-readable : (k : StreamId) (operation : ReadableOperation) → cancels_uncloned operation ≡ false → is_end (owner_at k s) ≡ true → Each (CalmAt s) (row (OnReadable k operation) s).caused
  unfolding row
  end-readable k operation g e =
      let none = no-bytes (slice_get s.streams k.0) e in
      rw (on_source-readable operation k s none)
      (either (λ (d : Done). Each (CalmAt s) d.caused) (has_readable k s) _ _
      (λ f. each-map Calm (CalmAt s) (calm-at s) _ (operation-calm k operation (readable_acts k s) g tt)) (λ f. tt))

  end-byte : (k : StreamId) (operation : ByteOperation) → is_end (owner_at k s) ≡ true → Each (CalmAt s) (row (OnByte k operation) s).caused
  unfolding row
  end-byte k operation e = let none = no-bytes (slice_get s.streams k.0) e in rw none tt

  end-writable : (k : StreamId) (operation : WritableOperation) → Streams s → writes_uncloned operation ≡ false → is_end (owner_at k s) ≡ true → Each (CalmAt s) (row (OnWritable k operation) s).caused
  unfolding row
  end-writable k operation h g e =
      either (λ (d : Done). Each (CalmAt s) d.caused) (has_writable k s) _ _
      (λ f.
      let kept = h k e in
      each-map Calm (CalmAt s) (calm-at s) _ (operation-sends k operation (writable_acts k s) g (record { queue = kept.0; abort = kept.1; effects = tt })).effects)
      (λ f. tt)

  by-end : (P : Type 0) (k : StreamId) → (is_end (owner_at k s) ≡ false → P) → (is_end (owner_at k s) ≡ true → P) → P
  by-end P k f g = by (is_end (owner_at k s)) refl
    where
      by : (b : Bool) → is_end (owner_at k s) ≡ b → P
      by false e = f e
      by true e = g e

  row-caused : (e : Effect) → Streams s → effect_uncloned e s ≡ false → CalmAt s e → Each (CalmAt s) (row e s).caused
  unfolding row
  row-caused (OnReadable k operation) h g c = by-end _ k (other-readable k operation) (λ e. end-readable k operation (given (is_end (owner_at k s)) (cancels_uncloned operation) g e) e)
  row-caused (OnByte k operation) h g c = by-end _ k (other-byte k operation) (end-byte k operation)
  row-caused (OnWritable k operation) h g c = by-end _ k (other-writable k operation) (λ e. end-writable k operation h (given (is_end (owner_at k s)) (writes_uncloned operation) g e) e)
  row-caused (OnPipe q operation) h g c = row-causes (CalmAt s) (OnPipe q operation) s (λ source dest e n. pipe-calm q source dest e n)
  row-caused (OnSignal a (signals.Trigger r)) h g c = row-causes (CalmAt s) (OnSignal a (signals.Trigger r)) s (λ q. tt)
  row-caused (OnSignal a (signals.Add q)) h g c = row-causes (CalmAt s) (OnSignal a (signals.Add q)) s tt
  row-caused (OnSignal a (signals.Forget q)) h g c = row-causes (CalmAt s) (OnSignal a (signals.Forget q)) s tt
  row-caused (OnTransform t operation) h g c = row-causes (CalmAt s) (OnTransform t operation) s (λ w r e n. transform-calm t w r e n)
  row-caused (OnTee t operation) h g c = row-causes (CalmAt s) (OnTee t operation) s (λ source first second e n. tee-calm t source first second e n)
  row-caused (OnPort d operation) h g c = row-causes (CalmAt s) (OnPort d operation) s (λ stream e n. port-calm d stream e n)
  row-caused (StartAlgorithm k step start) h g c = row-causes (CalmAt s) (StartAlgorithm k step start) s (λ g u. tt, λ d u. tt)
  row-caused (PullAlgorithm k) h g c = row-causes (CalmAt s) (PullAlgorithm k) s (λ d u. tt, (λ t u. tt, (λ t. tt, (λ u. tt, λ q. tt))))
  row-caused (CancelAlgorithm k r q) h g c = cancel-calm k r _ (owner_at k s) c
  row-caused (WriteAlgorithm k) h g c = row-causes (CalmAt s) (WriteAlgorithm k) s (tt, (λ t u. tt, λ z u. tt))
  row-caused (CloseAlgorithm k) h g c = row-causes (CalmAt s) (CloseAlgorithm k) s (λ d u. tt, (λ t u. tt, λ z u. tt))
  row-caused (AbortAlgorithm k r q) h g c = abort-calm k r _ (owner_at k s) c
  row-caused (ChunkSteps k (Promise q) v) h g c = tt
  row-caused (ChunkSteps k (PipeRequest q) v) h g c = (tt, tt)
  row-caused (ChunkSteps k (TeeRequest b) v) h g c = (tt, tt)
  row-caused (CloseSteps k (Promise q)) h g c = tt
  row-caused (CloseSteps k (PipeRequest q)) h g c = (tt, tt)
  row-caused (CloseSteps k (TeeRequest b)) h g c = (tt, tt)
  row-caused (CloseStepsWith k (Promise q) b) h g c = tt
  row-caused (CloseStepsWith k (PipeRequest q) b) h g c = (tt, tt)
  row-caused (CloseStepsWith k (TeeRequest t) b) h g c = (tt, tt)
  row-caused (ErrorSteps k (Promise q) r) h g c = tt
  row-caused (ErrorSteps k (PipeRequest q) r) h g c = (tt, tt)
  row-caused (ErrorSteps k (TeeRequest b) r) h g c = (tt, tt)
  row-caused _ h g c = tt

  -- the streams

  same-streams : (z : Slots) → z.streams ≡ s.streams → Streams s → Streams z
  same-streams z e h = subst (λ (ys : List Stream). (i : StreamId) → is_end (owner_of (slice_get ys i.0)) ≡ true → Kept (as_writable (slice_get ys i.0))) (sym e) h

  writable-kept : (k i : StreamId) (operation : WritableOperation) → writes_uncloned operation ≡ false → is_end (owner_at k s) ≡ true → Streams s → (same : Bool) → is_same i k ≡ same → Kept (writable_at i s)
      → Kept (writable_at i (on_writable (writable_operation k operation) k s).slots)
  writable-kept k i operation g e h false n old = subst Kept (sym (ap as_writable (on_writable-other (writable_operation k operation) k s i n))) old
  writable-kept k i operation g e h true n old =
      subst (λ (j : StreamId). Kept (writable_at j (on_writable (writable_operation k operation) k s).slots)) (sym (same_id i k n)) (by (has_writable k s) refl)
    where
      by : (b : Bool) → has_writable k s ≡ b → Kept (writable_at k (on_writable (writable_operation k operation) k s).slots)
      by true there =
          let kept = h k e in
          let sent = operation-sends k operation (writable_acts k s) g (record { queue = kept.0; abort = kept.1; effects = tt }) in
          subst (λ (o : Option Stream). Kept (as_writable o)) (sym (on_writable-same (writable_operation k operation) k s there)) (sent.queue, sent.abort)
      by false there = rw there (h k e)

  -- the owner of the stream that an operation is of
  there-end : (k i : StreamId) → is_same i k ≡ true → is_end (owner_at i s) ≡ true → is_end (owner_at k s) ≡ true
  there-end k i n e = subst (λ (j : StreamId). is_end (owner_at j s) ≡ true) (same_id i k n) e

  apart-streams : (e : Effect) → IsApart e → Streams s → Streams (row e s).slots
  apart-streams e apart h = same-streams (row e s).slots (row-streams e s apart) h

  row-kept : (e : Effect) → Streams s → effect_uncloned e s ≡ false → (i : StreamId) → is_end (owner_at i s) ≡ true → Kept (writable_at i (row e s).slots)
  unfolding row
  row-kept (OnReadable k operation) h g i e = subst Kept (sym (on_source-writable operation k s i)) (h i e)
  row-kept (OnByte k operation) h g i e = subst Kept (sym (on_byte-writable (byte_operation k operation) k s i)) (h i e)
  row-kept (OnWritable k operation) h g i e = by (is_same i k) refl
    where
      by : (same : Bool) → is_same i k ≡ same → Kept (writable_at i (on_writable (writable_operation k operation) k s).slots)
      by false n = subst Kept (sym (ap as_writable (on_writable-other (writable_operation k operation) k s i n))) (h i e)
      by true n = let f = there-end k i n e in writable-kept k i operation (given (is_end (owner_at k s)) (writes_uncloned operation) g f) f h true n (h i e)
  row-kept x h g i e = apart-streams x tt h i (ap is_end (row-owner i x s) ∙ e)

pub row-cloned : (s : Slots) (e : Effect) (es : List Effect) → Cloned s (e ∷ es) → effect_uncloned e s ≡ false → Cloned (row e s).slots ((row e s).caused ++ es)
row-cloned s e es k g = record {
  streams = λ i w. row-kept s e k.streams g i (sym (ap is_end (row-owner i e s)) ∙ w);
  agenda = each-map (CalmAt s) (CalmAt (row e s).slots) (calm-stays e s) ((row e s).caused ++ es) (each-append (CalmAt s) (row e s).caused es (row-caused s e k.streams g k.agenda.0) k.agenda.1);
}

-- calls and jobs begin with none of these

abbrev Plainly : Effect → Type 0
Plainly (CancelAlgorithm i r p) = ⊥
Plainly (AbortAlgorithm i r p) = ⊥
Plainly (OnPort c (ports.Leave r u)) = ⊥
Plainly _ = Unit {0}

plainly-calm : (s : Slots) (e : Effect) → Plainly e → CalmAt s e
plainly-calm s e p = grind (arith, p)

call-plainly : (c : Call) (s : Slots) → Each Plainly (begin c s).done.caused
call-plainly c s = each_call (λ (b : Begun). Each Plainly b.done.caused) c s (grind arith)

resolved-plainly : (o : Option PromiseId) (r : Result Plain Plain) → Each Plainly (resolved o r)
resolved-plainly None r = tt
resolved-plainly (Some p) r = (tt, tt)

steps-plainly : (t : Step) (o : Result Plain Plain) → Each Plainly (steps t o)
steps-plainly t o = grind arith

job-plainly : (job : Job) → Each Plainly (job_effects job)
job-plainly (ReactionJob t o derived) = each-append Plainly (steps t o) (resolved derived (returned t o)) (steps-plainly t o) (resolved-plainly derived (returned t o))
job-plainly job = grind arith

-- another stream is made, in which nothing lies

added : (y : Stream) → Kept (as_writable (Some y)) → (xs : List Stream) (n : ℕ) → (is_end (owner_of (slice_get xs n)) ≡ true → Kept (as_writable (slice_get xs n)))
    → is_end (owner_of (slice_get (xs ++ y ∷ []) n)) ≡ true → Kept (as_writable (slice_get (xs ++ y ∷ []) n))
added y k [] zero h e = k
added y k [] (suc n) h e = (refl, refl)
added y k (x ∷ xs) zero h e = h e
added y k (x ∷ xs) (suc n) h e = added y k xs n h e

makes : Makes Streams
makes = record {
  promise = λ s h. h;
  locks = λ s locks h. h;
  hosts = λ s hosts h. h;
  pipe = λ s source dest prevent signal promise h. h;
  signal = λ s h. h;
  transform = λ s kind writable readable change h. h;
  tee = λ s source first second cancel h. h;
  port = λ s side stream backpressure h. h;
  readable = λ s owner mark size h i e. added (ReadableStream (readable.set_up owner mark size)) (refl, refl) s.streams i.0 (h i) e;
  bytes = λ s mark auto h i e. added (ByteStream (byte.set_up mark auto)) (refl, refl) s.streams i.0 (h i) e;
  byob_requests = λ s requests h. h;
  writable = λ s owner mark size h i e. added (WritableStream (writable.set_up owner mark size)) (refl, refl) s.streams i.0 (h i) e;
}

pub call-cloned : (s : Slots) (c : Call) → Cloned s [] → Cloned (begin c s).done.slots (begin c s).done.caused
call-cloned s c k = record {
  streams = begin-makes Streams makes c s k.streams;
  agenda = each-map Plainly (CalmAt (begin c s).done.slots) (plainly-calm (begin c s).done.slots) (begin c s).done.caused (call-plainly c s);
}

pub job-cloned : (s : Slots) (job : Job) → Cloned s [] → Cloned (with_promises (after_next_job s.promises) s) (job_effects job)
job-cloned s job k = record {
  streams = k.streams;
  agenda = each-map Plainly (CalmAt (with_promises (after_next_job s.promises) s)) (plainly-calm (with_promises (after_next_job s.promises) s)) (job_effects job) (job-plainly job);
}

-- over runs

abbrev pub or : Bool → Bool → Bool
or a b = a || b

or-none : (b : Bool) → (b || false) ≡ b
or-none b = grind arith

pub or-assoc : (a b c : Bool) → ((a || b) || c) ≡ (a || (b || c))
or-assoc a b c = grind arith

pub or-history : IsHistory false or
or-history = record { left = λ h. refl; right = or-none; assoc = or-assoc }

abbrev pub Fine : Bool → Slots → List Effect → Type 0
Fine h s es = h ≡ false → Cloned s es

pub goes : GoesUntold or effect_uncloned Fine
goes = record {
  row = λ h s e es k n. row-cloned s e es (k (nor_left h (effect_uncloned e s) n)) (nor_right h (effect_uncloned e s) n);
  call = λ h s c k n. call-cloned s c (k n);
  job = λ h s job is k n. job-cloned s job (k n);
  answered = λ h s p k n. record { streams = (k n).streams; agenda = tt };
  older = λ h s k n. record { streams = (k n).streams; agenda = tt };
}

rests : RestsUntold Fine
rests = record { heard = λ h s k n. record { streams = (k n).streams; agenda = tt } }

pub begun-fine : (given : Bool) (s : Slots) → Fine given s [] → Fine given (begin_job s).slots (begin_job s).caused
unfolding begin_job
begun-fine given s k n = by (next_job s.promises)
  where
    by : (job : Option Job) → Cloned (job_begun s job).slots (job_begun s job).caused
    by None = k n
    by (Some job) = job-cloned s job (k n)

cloned-empty : Cloned empty []
cloned-empty = record { streams = λ i e. cc; agenda = tt }

pub run-cloned : (xs : List Entry) → run_uncloned xs empty ≡ false → Cloned (run xs empty) []
run-cloned xs n = run-holds false or or-history effect_uncloned Fine goes rests xs empty (λ e. cloned-empty) n

-- so what a port is given to send can be cloned

pub first-clones : (queue : List (Queued WriteRecord)) → all_cloned queue ≡ true → clones_first (first_value queue) ≡ true
first-clones [] h = refl
first-clones (q ∷ qs) h = by q.value h
  where
    by : (w : WriteRecord) → record_cloned w && all_cloned qs ≡ true → clones_first (Some w) ≡ true
    by (Chunk v) h = and_left (is_value_cloneable v) (all_cloned qs) h
    by InFlight h = refl
    by CloseMark h = refl

end-owner : (y : Stream) (c : PortId) (side : Side) → ◌≡◌ {A = Option StreamShape} (Some (stream_shape y)) (Some (end_shape c side)) → is_end (owner_of (Some y)) ≡ true
end-owner (ReadableStream r) c ReadableSide e = let o : r.owner ≡ EndOf c = cc in ap is_end o
end-owner (ReadableStream r) c WritableSide e = cc
end-owner (ByteStream b) c ReadableSide e = cc
end-owner (ByteStream b) c WritableSide e = cc
end-owner (WritableStream w) c ReadableSide e = cc
end-owner (WritableStream w) c WritableSide e = let o : w.owner ≡ EndOf c = cc in ap is_end o

end-there : (xs : List Stream) (n : ℕ) (c : PortId) (side : Side) → slice_get (map stream_shape xs) n ≡ Some (end_shape c side) → is_end (owner_of (slice_get xs n)) ≡ true
end-there [] n c side e = cc
end-there (x ∷ xs) zero c side e = end-owner x c side e
end-there (x ∷ xs) (suc n) c side e = end-there xs n c side e

pub port-end : (s : Slots) (c : PortId) (x : cross.Slots) → Ended s → slice_get s.ports c.0 ≡ Some x → is_end (owner_at x.stream s) ≡ true
port-end s c x ended there = end-there s.streams x.stream.0 c x.side (ended.ends c (port_shape x) (map-there port_shape s.ports c.0 x there))

pub cloned-fits : (bad : Plain → ℕ) (s : Slots) (c : PortId) (operation : PortOperation) (es : List Effect) → Ended s → Cloned s (OnPort c operation ∷ es) → (x : cross.Slots) → slice_get s.ports c.0 ≡ Some x → Clones bad (clones_at x s) operation
cloned-fits bad s c (ports.Leave r u) es ended k x there = λ n. neither (is_cloneable r) n k.agenda.0
cloned-fits bad s c (ports.WriteGoesOn d) es ended k x there = λ n. neither (clones_at x s) n (first-clones (writable_at x.stream s).queue (k.streams x.stream (port-end s c x ended there)).0)
cloned-fits bad s c _ es ended k x there = tt
