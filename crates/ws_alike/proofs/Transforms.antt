-- An operation of a transform stream doesn't look at a promise that isn't named, and names it nowhere.
use Rattle.std.proofs.Common.{◌≡◌, Bool, true, false, not, List, [], ◌∷◌, Option, Some, None, Result, Ok, Err, refl, sym, ap, arith}
use Rattle.ws_value.specs.declared.ids.PromiseId.{PromiseId}
use Rattle.ws_value.specs.declared.value.Plain.{Plain}
use Rattle.ws_value.specs.declared.value.Value.{Value}
use Rattle.ws_steps.specs.declared.effects.Effect.{Effect}
use Rattle.ws_steps.specs.declared.effects.Use.{Use}
use Rattle.ws_steps.specs.declared.promises.Step.{Step}
use Rattle.ws_steps.specs.declared.readable.ReadableState.{ReadableState}
use Rattle.ws_steps.specs.declared.writable.WritableState.{WritableState}
use Rattle.ws_steps.specs.Effects.{settling, type_error}
use Rattle.ws_steps.specs.Promises.{Entry}
use Rattle.ws_alike.proofs.Records.{Lawful, made, quiet, after-quiet, causes, freshly, settles}
use Rattle.ws_alike.proofs.Steps.{Fits, then-blind, stays, by-test, named-none}
use Rattle.ws_steps.specs.declared.calls.HostCall.{HostCall}
use Rattle.ws_steps.specs.declared.calls.HostCall.TheVariants.{Flush as HostFlush, CancelTransform as HostCancelTransform}
use Rattle.ws_steps.specs.declared.effects.Effect.TheVariants.{Readable as OnReadable, Writable as OnWritable, Transform as OnTransform, Give, Settle}
use Rattle.ws_steps.specs.declared.effects.Gift.TheVariants.{This}
use Rattle.ws_steps.specs.declared.effects.Use.TheVariants.{React, Resolve}
use Rattle.ws_steps.specs.declared.promises.Step.TheVariants.{TransformChanged, TransformFlushed, TransformAborted, TransformCancelled}
use Rattle.ws_steps.specs.declared.readable.ReadableOperation.TheVariants.{Close as CloseReadable, Error as ErrorReadable}
use Rattle.ws_steps.specs.declared.readable.ReadableState.TheVariants.{Readable, Closed, Errored}
use Rattle.ws_steps.specs.declared.transform.Halves.{Halves}
use Rattle.ws_steps.specs.declared.transform.Kind.{Kind}
use Rattle.ws_steps.specs.declared.transform.Kind.TheVariants.{Identity, Host}
use Rattle.ws_steps.specs.declared.transform.Taker.TheVariants.{ToTransform}
use Rattle.ws_steps.specs.declared.transform.TransformId.{TransformId}
use Rattle.ws_steps.specs.declared.transform.TransformOperation.{TransformOperation}
use Rattle.ws_steps.specs.declared.transform.TransformOperation.TheVariants.{SinkWrite, WriteGoesOn, TransformChunk, Enqueue, Enqueued, Error as ErrorTransform, Unblock, Terminate, SourcePull, SinkClose, SinkAbort, SourceCancel, FlushSettled, AbortSettled, CancelSettled}
use Rattle.ws_steps.specs.declared.writable.WritableOperation.TheVariants.{ErrorIfNeeded, HandOn}
use Rattle.ws_steps.specs.declared.writable.WritableState.TheVariants.{Writable, Erroring, Errored as WritableErrored, Closed as WritableClosed}
use Rattle.ws_steps.specs.Operations.{transform_operation}
use Rattle.ws_steps.specs.Transform.{Acts, Slots, causing, with_slots, with_fresh, done, set_backpressure, unblock, error_writable_and_unblock, transform_error, terminate, enqueuing, enqueue, differs, enqueued, transform_identity, transform_by, transform_chunk, perform_transform, wait_for_change, sink_write, write_in, write_goes_on, source_pull, algorithm, finish_by, sink_close, sink_abort, source_cancel, flushed_in, flush_settled, aborted_in, abort_settled, error_writable_and_settle, cancelled_in, cancel_settled}
use Rattle.ws_alike.specs.Named.{one, in_use, in_step, in_transform_operation, in_effects}
use Rattle.ws_alike.specs.Blind.{LeavesAlone, EachTransformOperationIsBlind, transforms, view_of}

law : Lawful Acts Slots transforms
law = record { put_slots = λ s out. refl; put_out = λ s out. refl }

-- what of one operation is to be shown
abbrev Blind : PromiseId → (Acts → Acts) → Acts → Type 0
Blind p f a = LeavesAlone Acts (view_of transforms) p f a

abbrev Fit : PromiseId → Acts → Type 0
Fit p a = Fits Acts (view_of transforms) p a

-- backpressure

set_backpressure-blind : (p : PromiseId) (b : Bool) (a : Acts) → Fit p a → Blind p (set_backpressure b) a
unfolding set_backpressure
set_backpressure-blind p b a fits =
    let c : Acts = record a { out = settling a.slots.change done a.out } in
    let k = then-blind p (λ z. record z { out = settling a.slots.change done z.out }) (with_fresh (λ change now. with_slots (record now.slots { change = change; backpressure = b }) now)) a (settles law p a.slots.change done a (omega (arith, fits.none)) fits)
    (λ f. freshly law p (λ change now. with_slots (record now.slots { change = change; backpressure = b }) now) c f (λ q n g. quiet law p (λ s. record s { change = q; backpressure = b }) (made transforms c) g (omega (arith, n)))) fits in
    record { blind = k.blind; unnamed = k.unnamed; more = k.more }

unblock-blind : (p : PromiseId) (a : Acts) → Fit p a → Blind p unblock a
unfolding unblock
unblock-blind p a fits = let k = by-test p (set_backpressure false) (λ b. b) a.slots.backpressure a (set_backpressure-blind p false a fits) (stays p a fits) in record { blind = k.blind; unnamed = k.unnamed; more = k.more }

transform_error-blind : (p : PromiseId) (me : TransformId) (e : Plain) (a : Acts) → Fit p a → Blind p (transform_error me e) a
unfolding transform_error
transform_error-blind p me e a fits = let k = causes law p (OnReadable a.slots.readable (ErrorReadable e) ∷ error_writable_and_unblock me e a) a fits refl in record { blind = k.blind; unnamed = k.unnamed; more = k.more }

terminate-blind : (p : PromiseId) (me : TransformId) (a : Acts) → Fit p a → Blind p (terminate me) a
unfolding terminate
terminate-blind p me a fits = let k = causes law p (OnReadable a.slots.readable CloseReadable ∷ error_writable_and_unblock me type_error a) a fits refl in record { blind = k.blind; unnamed = k.unnamed; more = k.more }

enqueue-blind : (p : PromiseId) (me : TransformId) (v : Value) (a : Acts) → Fit p a → Blind p (enqueue me v) a
unfolding enqueue
enqueue-blind p me v a fits = let k = causes law p (enqueuing me v a) a fits refl in record { blind = k.blind; unnamed = k.unnamed; more = k.more }

enqueued-blind : (p : PromiseId) (halves : Halves) (a : Acts) → Fit p a → Blind p (enqueued halves) a
unfolding enqueued
enqueued-blind p halves a fits = let k = by-test p (set_backpressure true) (λ b. b) (differs (not halves.should_pull) a.slots.backpressure) a (set_backpressure-blind p true a fits) (stays p a fits) in record { blind = k.blind; unnamed = k.unnamed; more = k.more }

-- the transform algorithm

identity-none : (p : PromiseId) (me : TransformId) (v : Value) (d : PromiseId) (a : Acts) (b : Bool) → one p d ≡ 0 → in_effects p (transform_identity me v d a b) ≡ 0
identity-none p me v d a true n = omega (arith, n)
identity-none p me v d a false n = omega (arith, n)

transform_by-none : (p : PromiseId) (me : TransformId) (halves : Halves) (v : Value) (d : PromiseId) (a : Acts) (kind : Kind) → one p d ≡ 0 → in_effects p (transform_by me halves v d a kind) ≡ 0
transform_by-none p me halves v d a Identity n = identity-none p me v d a halves.can_enqueue n
transform_by-none p me halves v d a Host n = omega (arith, n)

chunk-blind : (p : PromiseId) (me : TransformId) (halves : Halves) (v : Value) (d : PromiseId) (a : Acts) → one p d ≡ 0 → Fit p a → Blind p (transform_chunk me halves v d) a
unfolding transform_chunk
chunk-blind p me halves v d a n fits =
    let k = causes law p (transform_by me halves v d a a.slots.kind) a fits (transform_by-none p me halves v d a a.slots.kind n) in
    record { blind = λ x. same x a.slots.kind; unnamed = k.unnamed; more = k.more }
  where
    identity-same : (x : Option Entry) (b : Bool) → transform_identity me v d ((view_of transforms).change p x a) b ≡ transform_identity me v d a b
    identity-same x true = refl
    identity-same x false = refl

    same : (x : Option Entry) (kind : Kind) → causing (transform_by me halves v d ((view_of transforms).change p x a) kind) ((view_of transforms).change p x a) ≡ (view_of transforms).change p x (causing (transform_by me halves v d a kind) a)
    same x Identity = ap (λ es. causing es ((view_of transforms).change p x a)) (identity-same x halves.can_enqueue)
    same x Host = refl

perform-blind : (p : PromiseId) (me : TransformId) (u : Use) (a : Acts) → in_use p u ≡ 0 → Fit p a → Blind p (perform_transform me u) a
perform-blind p me u a n fits =
    let k = freshly law p (λ d. causing (OnWritable a.slots.writable (HandOn (ToTransform me d)) ∷ Give (This d) u ∷ [])) a fits (λ d m f. causes law p _ (made transforms a) f (omega (arith, m, n))) in
    record { blind = k.blind; unnamed = k.unnamed; more = k.more }

wait-blind : (p : PromiseId) (me : TransformId) (u : Use) (a : Acts) → in_use p u ≡ 0 → Fit p a → Blind p (wait_for_change me u) a
wait-blind p me u a n fits =
    let k = freshly law p (λ d. causing (Give (This a.slots.change) (React (TransformChanged me d) None) ∷ Give (This d) u ∷ [])) a fits (λ d m f. causes law p _ (made transforms a) f (omega (arith, m, n, fits.none))) in
    record { blind = k.blind; unnamed = k.unnamed; more = k.more }

sink_write-blind : (p : PromiseId) (me : TransformId) (u : Use) (a : Acts) → in_use p u ≡ 0 → Fit p a → Blind p (sink_write me u) a
unfolding sink_write
sink_write-blind p me u a n fits = let k = by-test p (wait_for_change me u) (perform_transform me u) a.slots.backpressure a (wait-blind p me u a n fits) (perform-blind p me u a n fits) in record { blind = k.blind; unnamed = k.unnamed; more = k.more }

write_in-blind : (p : PromiseId) (me : TransformId) (halves : Halves) (d : PromiseId) (a : Acts) (s : WritableState) → one p d ≡ 0 → Fit p a → Blind p (λ b. write_in me halves d b s) a
write_in-blind p me halves d a Writable n fits = perform-blind p me (Resolve d) a n fits
write_in-blind p me halves d a Erroring n fits = causes law p (Settle d (Err halves.writable_error) ∷ []) a fits (omega (arith, n))
write_in-blind p me halves d a WritableErrored n fits = perform-blind p me (Resolve d) a n fits
write_in-blind p me halves d a WritableClosed n fits = perform-blind p me (Resolve d) a n fits

goes_on-blind : (p : PromiseId) (me : TransformId) (halves : Halves) (d : PromiseId) (a : Acts) → one p d ≡ 0 → Fit p a → Blind p (write_goes_on me halves d) a
unfolding write_goes_on
goes_on-blind p me halves d a n fits = write_in-blind p me halves d a halves.writable_state n fits

-- the algorithms of the two halves

source_pull-blind : (p : PromiseId) (u : Use) (a : Acts) → in_use p u ≡ 0 → Fit p a → Blind p (source_pull u) a
unfolding source_pull
source_pull-blind p u a n fits =
    let k = then-blind p (set_backpressure false) (λ b. causing (Give (This b.slots.change) u ∷ []) b) a (set_backpressure-blind p false a fits) (giving _) fits in
    record { blind = k.blind; unnamed = k.unnamed; more = k.more }
  where
    giving : (b : Acts) → Fit p b → Blind p (λ c. causing (Give (This c.slots.change) u ∷ []) c) b
    giving b f = let k = causes law p (Give (This b.slots.change) u ∷ []) b f (omega (arith, n, f.none)) in record { blind = k.blind; unnamed = k.unnamed; more = k.more }

algorithm-none : (p : PromiseId) (kind : Kind) (call : HostCall) (step : Step) → in_step p step ≡ 0 → in_effects p (algorithm kind call step ∷ []) ≡ 0
algorithm-none p Identity call step n = omega (arith, n)
algorithm-none p Host call step n = omega (arith, n)

finish_by-blind : (p : PromiseId) (call : HostCall) (step : PromiseId → Step) (u : Use) (a : Acts) (o : Option PromiseId) → ((q : PromiseId) → one p q ≡ 0 → in_step p (step q) ≡ 0) → o ≡ a.slots.finish → in_use p u ≡ 0 → Fit p a → Blind p (λ b. finish_by call step u b o) a
finish_by-blind p call step u a (Some q) named r n fits =
    let m = named-none p q a.slots.finish (sym r) in
    causes law p (Give (This q) u ∷ []) a fits (omega (arith, n, m, fits.none))
finish_by-blind p call step u a None named r n fits =
    freshly law p (λ q now. causing (algorithm now.slots.kind call (step q) ∷ Give (This q) u ∷ []) (with_slots (record now.slots { finish = Some q }) now)) a fits
    (λ q m f.
    let h : Slots → Slots = λ s. record s { finish = Some q } in
    let es : List Effect = algorithm a.slots.kind call (step q) ∷ Give (This q) u ∷ [] in
    let begins = algorithm-none p a.slots.kind call (step q) (named q m) in
    let j = after-quiet law p h (causing es) (made transforms a) f (omega (arith, m)) (λ f. causes law p es _ f (omega (arith, begins, m, n))) in
    record { blind = j.blind; unnamed = j.unnamed; more = j.more })

sink_close-blind : (p : PromiseId) (me : TransformId) (u : Use) (a : Acts) → in_use p u ≡ 0 → Fit p a → Blind p (sink_close me u) a
unfolding sink_close
sink_close-blind p me u a n fits = let k = finish_by-blind p (HostFlush a.slots.readable) (TransformFlushed me) u a a.slots.finish (λ q m. m) refl n fits in record { blind = k.blind; unnamed = k.unnamed; more = k.more }

sink_abort-blind : (p : PromiseId) (me : TransformId) (r : Plain) (u : Use) (a : Acts) → in_use p u ≡ 0 → Fit p a → Blind p (sink_abort me r u) a
unfolding sink_abort
sink_abort-blind p me r u a n fits = let k = finish_by-blind p (HostCancelTransform a.slots.readable r) (λ q. TransformAborted me q r) u a a.slots.finish (λ q m. m) refl n fits in record { blind = k.blind; unnamed = k.unnamed; more = k.more }

source_cancel-blind : (p : PromiseId) (me : TransformId) (r : Plain) (u : Use) (a : Acts) → in_use p u ≡ 0 → Fit p a → Blind p (source_cancel me r u) a
unfolding source_cancel
source_cancel-blind p me r u a n fits = let k = finish_by-blind p (HostCancelTransform a.slots.readable r) (λ q. TransformCancelled me q r) u a a.slots.finish (λ q m. m) refl n fits in record { blind = k.blind; unnamed = k.unnamed; more = k.more }

-- the ends of these

flushed_in-blind : (p q : PromiseId) (halves : Halves) (a : Acts) (s : ReadableState) → one p q ≡ 0 → Fit p a → Blind p (λ b. flushed_in q halves b s) a
flushed_in-blind p q halves a Errored n fits = causes law p (Settle q (Err halves.readable_error) ∷ []) a fits (omega (arith, n))
flushed_in-blind p q halves a Readable n fits = let k = causes law p (OnReadable a.slots.readable CloseReadable ∷ Settle q done ∷ []) a fits (omega (arith, n)) in record { blind = k.blind; unnamed = k.unnamed; more = k.more }
flushed_in-blind p q halves a Closed n fits = let k = causes law p (OnReadable a.slots.readable CloseReadable ∷ Settle q done ∷ []) a fits (omega (arith, n)) in record { blind = k.blind; unnamed = k.unnamed; more = k.more }

flush_settled-blind : (p q : PromiseId) (halves : Halves) (o : Result Plain Plain) (a : Acts) → one p q ≡ 0 → Fit p a → Blind p (flush_settled q halves o) a
unfolding flush_settled
flush_settled-blind p q halves (Ok v) a n fits = flushed_in-blind p q halves a halves.readable_state n fits
flush_settled-blind p q halves (Err e) a n fits = let k = causes law p (OnReadable a.slots.readable (ErrorReadable e) ∷ Settle q (Err e) ∷ []) a fits (omega (arith, n)) in record { blind = k.blind; unnamed = k.unnamed; more = k.more }

aborted_in-blind : (p q : PromiseId) (halves : Halves) (r : Plain) (a : Acts) (s : ReadableState) → one p q ≡ 0 → Fit p a → Blind p (λ b. aborted_in q halves r b s) a
aborted_in-blind p q halves r a Errored n fits = causes law p (Settle q (Err halves.readable_error) ∷ []) a fits (omega (arith, n))
aborted_in-blind p q halves r a Readable n fits = let k = causes law p (OnReadable a.slots.readable (ErrorReadable r) ∷ Settle q done ∷ []) a fits (omega (arith, n)) in record { blind = k.blind; unnamed = k.unnamed; more = k.more }
aborted_in-blind p q halves r a Closed n fits = let k = causes law p (OnReadable a.slots.readable (ErrorReadable r) ∷ Settle q done ∷ []) a fits (omega (arith, n)) in record { blind = k.blind; unnamed = k.unnamed; more = k.more }

abort_settled-blind : (p q : PromiseId) (halves : Halves) (r : Plain) (o : Result Plain Plain) (a : Acts) → one p q ≡ 0 → Fit p a → Blind p (abort_settled q halves r o) a
unfolding abort_settled
abort_settled-blind p q halves r (Ok v) a n fits = aborted_in-blind p q halves r a halves.readable_state n fits
abort_settled-blind p q halves r (Err e) a n fits = let k = causes law p (OnReadable a.slots.readable (ErrorReadable e) ∷ Settle q (Err e) ∷ []) a fits (omega (arith, n)) in record { blind = k.blind; unnamed = k.unnamed; more = k.more }

errors-blind : (p : PromiseId) (me : TransformId) (q : PromiseId) (e : Plain) (o : Result Plain Plain) (a : Acts) → one p q ≡ 0 → Fit p a → Blind p (error_writable_and_settle me q e o) a
errors-blind p me q e o a n fits = let k = causes law p (OnWritable a.slots.writable (ErrorIfNeeded e) ∷ OnTransform me Unblock ∷ Settle q o ∷ []) a fits (omega (arith, n)) in record { blind = k.blind; unnamed = k.unnamed; more = k.more }

cancelled_in-blind : (p : PromiseId) (me : TransformId) (q : PromiseId) (halves : Halves) (r : Plain) (a : Acts) (s : WritableState) → one p q ≡ 0 → Fit p a → Blind p (λ b. cancelled_in me q halves r b s) a
cancelled_in-blind p me q halves r a WritableErrored n fits = causes law p (Settle q (Err halves.writable_error) ∷ []) a fits (omega (arith, n))
cancelled_in-blind p me q halves r a Writable n fits = errors-blind p me q r done a n fits
cancelled_in-blind p me q halves r a Erroring n fits = errors-blind p me q r done a n fits
cancelled_in-blind p me q halves r a WritableClosed n fits = errors-blind p me q r done a n fits

cancel_settled-blind : (p : PromiseId) (me : TransformId) (q : PromiseId) (halves : Halves) (r : Plain) (o : Result Plain Plain) (a : Acts) → one p q ≡ 0 → Fit p a → Blind p (cancel_settled me q halves r o) a
unfolding cancel_settled
cancel_settled-blind p me q halves r (Ok v) a n fits = cancelled_in-blind p me q halves r a halves.writable_state n fits
cancel_settled-blind p me q halves r (Err e) a n fits = errors-blind p me q e (Err e) a n fits

-- each operation

operation-blind : (p : PromiseId) (i : TransformId) (halves : Halves) (operation : TransformOperation) (a : Acts) → in_transform_operation p operation ≡ 0 → Fit p a → Blind p (transform_operation i halves operation) a
operation-blind p i halves (SinkWrite u) a n fits = sink_write-blind p i u a n fits
operation-blind p i halves (WriteGoesOn d) a n fits = goes_on-blind p i halves d a n fits
operation-blind p i halves (TransformChunk v d) a n fits = chunk-blind p i halves v d a n fits
operation-blind p i halves (Enqueue v) a n fits = enqueue-blind p i v a fits
operation-blind p i halves Enqueued a n fits = enqueued-blind p halves a fits
operation-blind p i halves (ErrorTransform e) a n fits = transform_error-blind p i e a fits
operation-blind p i halves Unblock a n fits = unblock-blind p a fits
operation-blind p i halves Terminate a n fits = terminate-blind p i a fits
operation-blind p i halves (SourcePull u) a n fits = source_pull-blind p u a n fits
operation-blind p i halves (SinkClose u) a n fits = sink_close-blind p i u a n fits
operation-blind p i halves (SinkAbort r u) a n fits = sink_abort-blind p i r u a n fits
operation-blind p i halves (SourceCancel r u) a n fits = source_cancel-blind p i r u a n fits
operation-blind p i halves (FlushSettled q o) a n fits = flush_settled-blind p q halves o a n fits
operation-blind p i halves (AbortSettled q r o) a n fits = abort_settled-blind p q halves r o a n fits
operation-blind p i halves (CancelSettled q r o) a n fits = cancel_settled-blind p i q halves r o a n fits

pub transforms-blind : EachTransformOperationIsBlind
transforms-blind i halves operation p a made none = operation-blind p i halves operation a (omega (arith, none)) (record { made = made; none = omega (arith, none) })
