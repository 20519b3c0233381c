-- A job closes the readable half of a transform stream only where its flush algorithm's promise was fulfilled.
use Rattle.std.proofs.Common.{◌≡◌, ℕ, ◌+◌, ◌<◌, Bool, true, false, List, [], Option, Some, None, Result, Ok, Err, slice_get, refl, sym, ap, ◌∙◌, arith}
use Rattle.ws_value.specs.declared.ids.{PipeId.{PipeId}, PromiseId.{PromiseId}, StreamId.{StreamId}}
use Rattle.ws_value.specs.declared.value.Plain.{Plain}
use Rattle.ws_steps.specs.declared.effects.{Effect.{Effect}}
use Rattle.ws_steps.specs.declared.effects.Effect.TheVariants.{Readable as OnReadable, Writable as OnWritable, Pipe as OnPipe, Signal as OnSignal, Transform as OnTransform, Tee as OnTee, Port as OnPort, StartAlgorithm, PullAlgorithm, CancelAlgorithm, WriteAlgorithm, CloseAlgorithm, AbortAlgorithm, ChunkSteps, CloseSteps, ErrorSteps}
use Rattle.ws_steps.specs.declared.pipes.SignalOperation.TheVariants.{Add, Forget, Trigger}
use Rattle.ws_steps.specs.declared.promises.{Job.{Job}, Micro.TheVariants.{PipeLook, PipeWrite, PipeNoParts, TeeHand}}
use Rattle.ws_steps.specs.declared.promises.Job.TheVariants.{Reaction as ReactionJob, Follow, Settle, Micro as MicroJob}
use Rattle.ws_steps.specs.declared.promises.Step.TheVariants.{ReadableStart, ReadablePull, ReturnUndefined, WritableStart, WritableWrite, WritableClose, WritableAbort, PipeEnds, PipeReady, PipeWrote, PipeActed, PipePart, TransformChanged, Transformed, TransformFlushed, TransformAborted, TransformCancelled, TeeEnds, PortUnblocked}
use Rattle.ws_steps.specs.declared.readable.{ReadRequest.TheVariants.{Promise, Pipe as PipeRequest, Tee as TeeRequest}, ReadableOperation.TheVariants.{Close}, ReadableState.{ReadableState}, ReadableState.TheVariants.{Readable, Closed, Errored}}
use Rattle.ws_steps.specs.declared.transform.{Halves.{Halves}, TransformId.{TransformId}, TransformOperation.{TransformOperation}}
use Rattle.ws_steps.specs.declared.transform.TransformOperation.TheVariants as names
use Rattle.ws_steps.specs.Histories.{is_same, along}
use Rattle.ws_steps.specs.Jobs.{job_effects, job_begun, begin_job, resolved}
use Rattle.ws_steps.specs.Operations.{transform_operation}
use Rattle.ws_steps.specs.Promises.{next_job}
use Rattle.ws_steps.specs.Run.{Worked, run, step}
use Rattle.ws_steps.specs.Slots.{Slots, Done, empty, found, halves_at, on_transform_at}
use Rattle.ws_steps.specs.Transform as transform
use Rattle.ws_steps.specs.Turns.{moments, row}
use Rattle.ws_laws.proofs.Ended.{Ended, ended-stays, run-ended}
use Rattle.ws_laws.proofs.Halves.{Halved, halved-stays, halved-empty, run-halved, step-shapes, step-among}
use Rattle.ws_laws.proofs.Lists.{Each, each-append}
use Rattle.ws_laws.proofs.PipeDoes.{PipeCauses}
use Rattle.ws_laws.proofs.Causes.{Causes, row-causes}
use Rattle.ws_laws.proofs.Shapes.{TransformShape, transform_shapes, transform_shape, map-there, row-transform_shapes}
use Rattle.ws_laws.proofs.Walker.{IsHistory, performed-goes}
use Rattle.ws_transform_laws.specs.TransformHistory.{is_same_transform, effect_closings, step_closings, is_flushed}
use Rattle.ws_transform_laws.specs.TransformLaws.{FlushesClose}
use Rattle.ws_transform_laws.proofs.Entering.{Reads, apart, half-shape}
use Rattle.ws_steps.specs.declared.effects.Effect.TheVariants.{Byte, CloseStepsWith}
use Rattle.ws_value.specs.declared.ids.TeeId.{TeeId}
use Rattle.ws_value.specs.declared.ids.PortId.{PortId}
use Rattle.ws_steps.specs.Tee as tee
use Rattle.ws_steps.specs.Cross as cross
use Rattle.ws_laws.proofs.TeeDoes.{TeeCauses}
use Rattle.ws_laws.proofs.PortDoes.{PortCauses}
use Rattle.ws_transform_laws.proofs.Branches.{tee-caused, port-caused, not-branch, not-end}

module _ (t : TransformId) (r : StreamId) where
  -- an effect that closes the stream neither now nor by what it causes
  abbrev pub Calm : Effect → Type 0
  Calm (OnReadable j Close) = is_same r j ≡ false
  Calm (OnTransform u names.Terminate) = is_same_transform t u ≡ false
  Calm (OnTransform u (names.FlushSettled p (Ok v))) = is_same_transform t u ≡ false
  Calm _ = Unit {0}

  abbrev IsOther : Effect → Type 0
  IsOther (OnTransform u operation) = ⊥
  IsOther (OnTee u operation) = ⊥
  IsOther (OnPort u operation) = ⊥
  IsOther _ = Unit {0}

  pipe-calm : (p : PipeId) (source dest : StreamId) (e : Effect) → PipeCauses p source dest e → Calm e
  pipe-calm p source dest (OnReadable j Close) c = absurd c
  pipe-calm p source dest (OnTransform u operation) c = absurd c
  pipe-calm p source dest _ c = tt

  calm-causes : (e : Effect) → IsOther e → Causes Calm e
  calm-causes (OnReadable j operation) n = record { pull = tt; cancel = λ c p. tt; chunk = λ c v. tt; close = λ c. tt; error = λ c e. tt }
  calm-causes (Byte j operation) n = record { readable = record { pull = tt; cancel = λ c p. tt; chunk = λ c v. tt; close = λ c. tt; error = λ c e. tt }; close_with = λ r b. tt }
  calm-causes (OnWritable j operation) n = record { write = tt; close = tt; abort = λ c p. tt; hand_on = λ v. tt; take = λ v u d. tt; post = λ v u d. tt }
  calm-causes (StartAlgorithm j step start) n = (λ g u. tt, λ c u. tt)
  calm-causes (PullAlgorithm j) n = (λ c u. tt, (λ y u. tt, (λ k. tt, (λ u. tt, λ q. tt))))
  calm-causes (CancelAlgorithm j c p) n = (λ c u. tt, (λ y u. tt, (λ k half u. tt, λ y u. tt)))
  calm-causes (WriteAlgorithm j) n = (tt, (λ y u. tt, λ z u. tt))
  calm-causes (CloseAlgorithm j) n = (λ c u. tt, (λ y u. tt, λ z u. tt))
  calm-causes (AbortAlgorithm j c p) n = (λ c u. tt, (λ y u. tt, λ z u. tt))
  calm-causes (OnPipe p operation) n = pipe-calm p
  calm-causes (OnSignal a (Trigger c)) n = λ p. tt
  calm-causes (OnSignal a (Add p)) n = tt
  calm-causes (OnSignal a (Forget p)) n = tt
  calm-causes (OnTransform u operation) n = absurd n
  calm-causes (OnTee u operation) n = absurd n
  calm-causes (OnPort u operation) n = absurd n
  calm-causes (ChunkSteps j (Promise p) v) n = tt
  calm-causes (ChunkSteps j (PipeRequest p) v) n = tt
  calm-causes (ChunkSteps j (TeeRequest k) v) n = tt
  calm-causes (CloseSteps j (Promise p)) n = tt
  calm-causes (CloseStepsWith j (Promise p) b) n = tt
  calm-causes (CloseSteps j (PipeRequest p)) n = tt
  calm-causes (CloseSteps j (TeeRequest k)) n = tt
  calm-causes (CloseStepsWith j (PipeRequest p) b) n = tt
  calm-causes (CloseStepsWith j (TeeRequest k) b) n = tt
  calm-causes (ErrorSteps j (Promise p) e) n = tt
  calm-causes (ErrorSteps j (PipeRequest p) e) n = tt
  calm-causes (ErrorSteps j (TeeRequest k) e) n = tt
  calm-causes _ n = tt

  -- an operation of a transform stream

  abbrev IsClosing : TransformOperation → Type 0
  IsClosing names.Terminate = Unit {0}
  IsClosing (names.FlushSettled p (Ok v)) = Unit {0}
  IsClosing _ = ⊥

  abbrev pub All : List Effect → Type 0
  All es = Each Calm es

  resting-calm : (u : TransformId) (halves : Halves) (operation : TransformOperation) (a : transform.Acts) → (IsClosing operation → ⊥) → a.out.effects ≡ [] → All (transform_operation u halves operation a).out.effects
  unfolding transform.unblock transform.transform_error transform.enqueue transform.enqueued transform.transform_chunk transform.sink_write transform.write_goes_on transform.source_pull transform.set_backpressure transform.sink_close transform.sink_abort transform.source_cancel transform.flush_settled transform.abort_settled transform.cancel_settled
  resting-calm u halves (names.TransformChunk v d) a n none = grind (arith, none)
  resting-calm u halves (names.Enqueue v) a n none = grind (arith, none)
  resting-calm u halves (names.SinkWrite w) a n none = grind (arith, none)
  resting-calm u halves (names.WriteGoesOn d) a n none = grind (arith, none)
  resting-calm u halves names.Enqueued a n none = grind (arith, none)
  resting-calm u halves (names.Error e) a n none = grind (arith, none)
  resting-calm u halves names.Unblock a n none = grind (arith, none)
  resting-calm u halves names.Terminate a n none = absurd (n tt)
  resting-calm u halves (names.SourcePull w) a n none = grind (arith, none)
  resting-calm u halves (names.SinkClose w) a n none = grind (arith, none)
  resting-calm u halves (names.SinkAbort c w) a n none = grind (arith, none)
  resting-calm u halves (names.SourceCancel c w) a n none = grind (arith, none)
  resting-calm u halves (names.FlushSettled p (Ok v)) a n none = absurd (n tt)
  resting-calm u halves (names.FlushSettled p (Err e)) a n none = grind (arith, none)
  resting-calm u halves (names.AbortSettled p c o) a n none = grind (arith, none)
  resting-calm u halves (names.CancelSettled p c o) a n none = grind (arith, none)

  terminate-calm : (u : TransformId) (a : transform.Acts) → is_same r a.slots.readable ≡ false → a.out.effects ≡ [] → All (transform.terminate u a).out.effects
  unfolding transform.terminate
  terminate-calm u a n none = rw none (n, (tt, (tt, tt)))

  flushed-calm : (p : PromiseId) (halves : Halves) (a : transform.Acts) (state : ReadableState) → is_same r a.slots.readable ≡ false → a.out.effects ≡ [] → All (transform.flushed_in p halves a state).out.effects
  flushed-calm p halves a Readable n none = rw none (n, (tt, tt))
  flushed-calm p halves a Closed n none = rw none (n, (tt, tt))
  flushed-calm p halves a Errored n none = rw none (tt, tt)

  transform-calm : (u : TransformId) (operation : TransformOperation) (s : Slots) (o : Option transform.Slots) → slice_get s.transforms u.0 ≡ o → Halved s → Reads t r s → Calm (OnTransform u operation)
      → All (on_transform_at (λ halves. transform_operation u halves operation) u s o).caused
  unfolding transform.flush_settled
  transform-calm u operation s None is halved h c = tt
  transform-calm u names.Terminate s (Some y) is halved h c = terminate-calm u (record { slots = y; out = found s }) (apart t r s u y halved h is c) refl
  transform-calm u (names.FlushSettled p (Ok v)) s (Some y) is halved h c = flushed-calm p (halves_at y s) (record { slots = y; out = found s }) (halves_at y s).readable_state (apart t r s u y halved h is c) refl
  transform-calm u operation s (Some y) is halved h c = resting-calm u (halves_at y s) operation (record { slots = y; out = found s }) (λ k. k) refl

  tee-calm : (s : Slots) (u : TeeId) (x : tee.Slots) → Halved s → Reads t r s → slice_get s.tees u.0 ≡ Some x → (e : Effect) → TeeCauses u x.source x.branch1 x.branch2 e → Calm e
  tee-calm s u x halved h at (OnReadable j Close) c = not-branch s r t u x j halved (half-shape t r s halved h) at c
  tee-calm s u x halved h at (OnTransform y operation) c = absurd c
  tee-calm s u x halved h at _ c = tt

  port-calm : (s : Slots) (u : PortId) (x : cross.Slots) → Halved s → Ended s → Reads t r s → slice_get s.ports u.0 ≡ Some x → (e : Effect) → PortCauses u x.stream e → Calm e
  port-calm s u x halved ended h at (OnReadable j Close) c = not-end s r t u x j ended (half-shape t r s halved h) at c
  port-calm s u x halved ended h at (OnTransform y operation) c = absurd c
  port-calm s u x halved ended h at _ c = tt

  row-calm : (e : Effect) (s : Slots) → Halved s → Ended s → Reads t r s → Calm e → All (row e s).caused
  unfolding row
  row-calm (OnTransform u operation) s halved ended h c = transform-calm u operation s (slice_get s.transforms u.0) refl halved h c
  row-calm (OnTee u operation) s halved ended h c = tee-caused Calm u operation s (λ x at e k. tee-calm s u x halved h at e k)
  row-calm (OnPort u operation) s halved ended h c = port-caused Calm u operation s (λ x at e k. port-calm s u x halved ended h at e k)
  row-calm e s halved ended h c = row-causes Calm e s (calm-causes e tt)

  calm-closes : (e : Effect) (s : Slots) → Calm e → effect_closings r e s ≡ 0
  calm-closes (OnReadable j Close) s c = rw c refl
  calm-closes _ s c = refl

  -- a job

  resolved-calm : (derived : Option PromiseId) (o : Result Plain Plain) → All (resolved derived o)
  resolved-calm None o = tt
  resolved-calm (Some p) o = (tt, tt)

  no_flush : (u : TransformId) (o : Result Plain Plain) (p : PromiseId) (derived : Option PromiseId) → is_flushed t (Some (ReactionJob (TransformFlushed u p) o derived)) ≡ false → Calm (OnTransform u (names.FlushSettled p o))
  no_flush u (Ok v) p derived n = n
  no_flush u (Err e) p derived n = tt

  job-calm : (job : Job) → is_flushed t (Some job) ≡ false → All (job_effects job)
  job-calm (ReactionJob (ReadableStart j) o derived) n = (tt, resolved-calm derived _)
  job-calm (ReactionJob (ReadablePull j) o derived) n = (tt, resolved-calm derived _)
  job-calm (ReactionJob ReturnUndefined o derived) n = resolved-calm derived _
  job-calm (ReactionJob (WritableStart j) o derived) n = (tt, resolved-calm derived _)
  job-calm (ReactionJob (WritableWrite j) o derived) n = (tt, resolved-calm derived _)
  job-calm (ReactionJob (WritableClose j) o derived) n = (tt, resolved-calm derived _)
  job-calm (ReactionJob (WritableAbort j p) o derived) n = (tt, resolved-calm derived _)
  job-calm (ReactionJob (PipeEnds p) o derived) n = (tt, resolved-calm derived _)
  job-calm (ReactionJob (TeeEnds t) o derived) n = (tt, resolved-calm derived _)
  job-calm (ReactionJob (PortUnblocked q d) (Ok v) derived) n = (tt, resolved-calm derived _)
  job-calm (ReactionJob (PortUnblocked q d) (Err e) derived) n = (tt, resolved-calm derived _)
  job-calm (ReactionJob (PipeReady p) o derived) n = (tt, resolved-calm derived _)
  job-calm (ReactionJob (PipeWrote p) o derived) n = (tt, resolved-calm derived _)
  job-calm (ReactionJob (PipeActed p) o derived) n = (tt, resolved-calm derived _)
  job-calm (ReactionJob (PipePart p) o derived) n = (tt, resolved-calm derived _)
  job-calm (ReactionJob (TransformChanged u d) (Ok v) derived) n = (tt, resolved-calm derived _)
  job-calm (ReactionJob (TransformChanged u d) (Err e) derived) n = (tt, resolved-calm derived _)
  job-calm (ReactionJob (Transformed u) (Ok v) derived) n = resolved-calm derived _
  job-calm (ReactionJob (Transformed u) (Err e) derived) n = (tt, resolved-calm derived _)
  job-calm (ReactionJob (TransformFlushed u p) o derived) n = (no_flush u o p derived n, resolved-calm derived _)
  job-calm (ReactionJob (TransformAborted u p c) o derived) n = (tt, resolved-calm derived _)
  job-calm (ReactionJob (TransformCancelled u p c) o derived) n = (tt, resolved-calm derived _)
  job-calm (Follow p q) n = tt
  job-calm (Settle p o) n = (tt, tt)
  job-calm (MicroJob (PipeLook p)) n = (tt, tt)
  job-calm (MicroJob (PipeWrite p)) n = (tt, tt)
  job-calm (MicroJob (PipeNoParts p)) n = (tt, tt)
  job-calm (MicroJob (TeeHand t)) n = (tt, tt)

  begun-calm : (s : Slots) (job : Option Job) → is_flushed t job ≡ false → All (job_begun s job).caused
  begun-calm s None n = tt
  begun-calm s (Some job) n = job-calm job n

  are_numbers : IsHistory {H = ℕ} 0 ◌+◌
  are_numbers = record { left = λ n. omega arith; right = λ n. omega arith; assoc = λ f g h. omega arith }

  record Closes (n : ℕ) (s : Slots) (es : List Effect) : Type 0 where
    none : n ≡ 0
    calm : All es
    halved : Halved s
    ended : Ended s
    reads : Reads t r s

  pub none-closes : (d : Done) → All d.caused → Halved d.slots → Ended d.slots → Reads t r d.slots → along 0 ◌+◌ (effect_closings r) (moments d) ≡ 0
  none-closes d calm halved ended reads =
      let k = performed-goes 0 ◌+◌ are_numbers (effect_closings r) Closes
      (λ n s e es k. record {
        none = rw (k.none, calm-closes e s k.calm.0) refl;
        calm = each-append Calm (row e s).caused es (row-calm e s k.halved k.ended k.reads k.calm.0) k.calm.1;
        halved = halved-stays.row s e es k.halved;
        ended = ended-stays.row s e es k.ended;
        reads = (k.reads.0, (ap (λ (vs : List TransformShape). slice_get vs t.0) (row-transform_shapes e s) ∙ k.reads.1.0, k.reads.1.1));
      }) 0 d (record { none = refl; calm = calm; halved = halved; ended = ended; reads = reads }) in
      let n = k.none in omega arith

  job-halved : (s : Slots) (job : Option Job) → Halved s → Halved (job_begun s job).slots
  job-halved s None h = h
  job-halved s (Some job) h = h

  job-ended : (s : Slots) (job : Option Job) → Ended s → Ended (job_begun s job).slots
  job-ended s None h = h
  job-ended s (Some job) h = h

  unflushed : (s : Slots) (x : TransformShape) → Halved s → Ended s → slice_get (transform_shapes s) t.0 ≡ Some x → x.readable ≡ r → is_flushed t (next_job s.promises) ≡ false → step_closings r s Worked ≡ 0
  unfolding begin_job
  unflushed s x halved ended is half n =
      let after : slice_get (transform_shapes (step s Worked)) t.0 ≡ Some x = step-among Worked s t x is in
      let begun : slice_get (transform_shapes (begin_job s).slots) t.0 ≡ Some x = ap (λ (vs : List TransformShape). slice_get vs t.0) (sym (step-shapes Worked s)) ∙ after in
      none-closes (begin_job s) (begun-calm s (next_job s.promises) n) (job-halved s (next_job s.promises) halved) (job-ended s (next_job s.promises) ended) (x, (begun, half))

  flush-closes : (s : Slots) (x : TransformShape) → Halved s → Ended s → slice_get (transform_shapes s) t.0 ≡ Some x → x.readable ≡ r → 0 < step_closings r s Worked → is_flushed t (next_job s.promises) ≡ true
  flush-closes s x halved ended is half some = by (is_flushed t (next_job s.promises)) refl
    where
      by : (b : Bool) → b ≡ is_flushed t (next_job s.promises) → is_flushed t (next_job s.promises) ≡ true
      by true e = sym e
      by false e = let none = unflushed s x halved ended is half (sym e) in absurd (omega arith)

pub flushes_close : FlushesClose
flushes_close entries t y is some =
    let s : Slots = run entries empty in
    flush-closes t y.readable s (transform_shape y) (run-halved entries empty halved-empty) (run-ended entries) (map-there transform_shape s.transforms t.0 y is) refl some
