-- The change promise of a transform stream stays the same but where an effect may change its backpressure.
use Rattle.std.proofs.Common.{◌≡◌, Bool, true, false, ℕ, List, Option, Some, None, Ok, Err, slice_get, slice_set, refl, sym, ap, ◌∙◌, arith}
use Rattle.ws_steps.specs.declared.calls.StartBy.TheVariants.{Now, Later}
use Rattle.ws_steps.specs.declared.effects.{Effect.{Effect}}
use Rattle.ws_steps.specs.declared.effects.Effect.TheVariants.{Readable as OnReadable, Writable as OnWritable, Pipe as OnPipe, Signal as OnSignal, Transform as OnTransform, Tee as OnTee, Port as OnPort, StartAlgorithm, ChunkSteps, CloseSteps, ErrorSteps}
use Rattle.ws_steps.specs.declared.readable.ReadRequest.TheVariants.{Promise, Pipe as PipeRequest, Tee as TeeRequest}
use Rattle.ws_steps.specs.declared.transform.{Halves.{Halves}, TransformId.{TransformId}, TransformOperation.{TransformOperation}}
use Rattle.ws_steps.specs.declared.transform.TransformOperation.TheVariants as names
use Rattle.ws_steps.specs.Operations.{writable_operation, transform_operation}
use Rattle.ws_steps.specs.Slots as realm
use Rattle.ws_steps.specs.Slots.{Done, nothing, found, halves_at, has_readable, has_writable, put_readable, put_writable, on_transform_at, transform_at, as_transform}
use Rattle.ws_steps.specs.Transform.{Slots, Acts, enqueue, transform_error, terminate, transform_chunk, sink_write, write_goes_on, sink_close, sink_abort, source_cancel, flush_settled, abort_settled, cancel_settled}
use Rattle.ws_steps.specs.Turns.{row, call_host}
use Rattle.ws_steps.proofs.PromiseLaws.{slice_get-set_other}
use Rattle.ws_laws.proofs.Tables.{either, writable_acts, eq_numbers, unequal_numbers}
use Rattle.ws_transform_laws.specs.TransformHistory.{is_same_transform}
use Rattle.ws_transform_laws.proofs.Changing.{place-same, pipe-transforms, signal-transforms, tee-transforms}
use Rattle.ws_value.specs.declared.ids.PromiseId.{PromiseId}
use Rattle.ws_transform_laws.proofs.Backpressure.{IsTurning, IsTurned}
use Rattle.ws_steps.specs.declared.effects.Effect.TheVariants.{Byte, CloseStepsWith}
use Rattle.ws_laws.proofs.Apart.{source-leaves, byte-leaves}
use Rattle.ws_transform_laws.proofs.Changing.{port-transforms}

operation-keeps : (me : TransformId) (halves : Halves) (operation : TransformOperation) (a : Acts) → (IsTurning operation → ⊥) → (transform_operation me halves operation a).slots.change ≡ a.slots.change
unfolding transform_error terminate enqueue transform_chunk sink_write write_goes_on sink_close sink_abort source_cancel flush_settled abort_settled cancel_settled
operation-keeps me halves (names.SinkWrite u) a n = grind arith
operation-keeps me halves (names.WriteGoesOn d) a n = grind arith
operation-keeps me halves (names.TransformChunk v d) a n = refl
operation-keeps me halves (names.Enqueue v) a n = refl
operation-keeps me halves names.Enqueued a n = absurd (n tt)
operation-keeps me halves (names.Error e) a n = refl
operation-keeps me halves names.Unblock a n = absurd (n tt)
operation-keeps me halves names.Terminate a n = refl
operation-keeps me halves (names.SourcePull u) a n = absurd (n tt)
operation-keeps me halves (names.SinkClose u) a n = grind arith
operation-keeps me halves (names.SinkAbort r u) a n = grind arith
operation-keeps me halves (names.SourceCancel r u) a n = grind arith
operation-keeps me halves (names.FlushSettled p (Ok v)) a n = grind arith
operation-keeps me halves (names.FlushSettled p (Err e)) a n = refl
operation-keeps me halves (names.AbortSettled p r (Ok v)) a n = grind arith
operation-keeps me halves (names.AbortSettled p r (Err e)) a n = refl
operation-keeps me halves (names.CancelSettled p r (Ok v)) a n = grind arith
operation-keeps me halves (names.CancelSettled p r (Err e)) a n = refl

abbrev pub change_at : TransformId → realm.Slots → PromiseId
change_at t s = (transform_at t s).change

-- the place of the transform stream after an operation of it, or of another

place-there : (t : TransformId) (ts : List Slots) (x y : Slots) → slice_get ts t.0 ≡ Some x → as_transform (slice_get (slice_set ts t.0 y) t.0) ≡ y
place-there t ts x y e = ap as_transform (place-same ts t.0 x y e)

place-other : (t u : TransformId) (ts : List Slots) (y : Slots) → is_same_transform t u ≡ false → as_transform (slice_get (slice_set ts u.0 y) t.0) ≡ as_transform (slice_get ts t.0)
place-other t u ts y n = ap as_transform (slice_get-set_other ts u.0 t.0 y (λ i. unequal_numbers t.0 u.0 n (sym i)))

abbrev on : TransformId → TransformOperation → realm.Slots → Option Slots → Done
on u operation s o = on_transform_at (λ halves. transform_operation u halves operation) u s o

other-keeps : (t u : TransformId) (operation : TransformOperation) (s : realm.Slots) (o : Option Slots) → is_same_transform t u ≡ false → change_at t (on u operation s o).slots ≡ change_at t s
other-keeps t u operation s None n = refl
other-keeps t u operation s (Some x) n = ap (λ (y : Slots). y.change) (place-other t u s.transforms _ n)

own-keeps : (t : TransformId) (operation : TransformOperation) (s : realm.Slots) (o : Option Slots) → slice_get s.transforms t.0 ≡ o → (IsTurning operation → ⊥) → change_at t (on t operation s o).slots ≡ change_at t s
own-keeps t operation s None is n = refl
own-keeps t operation s (Some x) is n =
    let a : Acts = record { slots = x; out = found s } in
    ap (λ (y : Slots). y.change) (place-there t s.transforms x (transform_operation t (halves_at x s) operation a).slots is)
    ∙ (operation-keeps t (halves_at x s) operation a n ∙ sym (ap (λ (y : Slots). y.change) (ap as_transform is)))

transform-keeps : (t u : TransformId) (operation : TransformOperation) (s : realm.Slots) → (IsTurned t (OnTransform u operation) → ⊥) → change_at t (on u operation s (slice_get s.transforms u.0)).slots ≡ change_at t s
transform-keeps t u operation s n = by (is_same_transform t u) refl
  where
    by : (same : Bool) → same ≡ is_same_transform t u → change_at t (on u operation s (slice_get s.transforms u.0)).slots ≡ change_at t s
    by false e = other-keeps t u operation s (slice_get s.transforms u.0) (sym e)
    by true e =
        let is : t ≡ u = ap (λ (k : ℕ). record { 0 = k }) (eq_numbers t.0 u.0 (sym e)) in
        rw (← is) (own-keeps t operation s (slice_get s.transforms t.0) refl (λ k. n (sym e, k)))

pub row-change : (t : TransformId) (e : Effect) (s : realm.Slots) → (IsTurned t e → ⊥) → change_at t (row e s).slots ≡ change_at t s
unfolding row call_host
row-change t (OnReadable i operation) s n = source-leaves (λ z. change_at t z) (λ z x o. refl) i operation s
row-change t (Byte i operation) s n = byte-leaves (λ z. change_at t z) (λ z x o. refl) i operation s
row-change t (OnWritable i operation) s n = either (λ (d : Done). change_at t d.slots ≡ change_at t s) (has_writable i s) (put_writable i s (writable_operation i operation (writable_acts i s))) (nothing s) (λ e. refl) (λ e. refl)
row-change t (OnPipe p operation) s n = ap (λ (ts : List Slots). (as_transform (slice_get ts t.0)).change) (pipe-transforms p operation s (slice_get s.pipes p.0))
row-change t (OnSignal a operation) s n = ap (λ (ts : List Slots). (as_transform (slice_get ts t.0)).change) (signal-transforms a operation s (slice_get s.signals a.0))
row-change t (OnTransform u operation) s n = transform-keeps t u operation s n
row-change t (OnTee u operation) s n = ap (λ (ts : List Slots). (as_transform (slice_get ts t.0)).change) (tee-transforms u operation s (slice_get s.tees u.0))
row-change t (OnPort u operation) s n = ap (λ (ts : List Slots). (as_transform (slice_get ts t.0)).change) (port-transforms u operation s (slice_get s.ports u.0))
row-change t (StartAlgorithm i step Now) s n = refl
row-change t (StartAlgorithm i step Later) s n = refl
row-change t (ChunkSteps i (Promise p) v) s n = refl
row-change t (CloseSteps i (Promise p)) s n = refl
row-change t (CloseStepsWith i (Promise p) b) s n = refl
row-change t (ErrorSteps i (Promise p) e) s n = refl
row-change t (ChunkSteps i (PipeRequest p) v) s n = refl
row-change t (ChunkSteps i (TeeRequest k) v) s n = refl
row-change t (CloseSteps i (PipeRequest p)) s n = refl
row-change t (CloseSteps i (TeeRequest k)) s n = refl
row-change t (CloseStepsWith i (PipeRequest p) b) s n = refl
row-change t (CloseStepsWith i (TeeRequest k) b) s n = refl
row-change t (ErrorSteps i (PipeRequest p) e) s n = refl
row-change t (ErrorSteps i (TeeRequest k) e) s n = refl
row-change t _ s n = refl
