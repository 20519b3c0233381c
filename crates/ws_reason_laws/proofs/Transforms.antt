-- Operations of a transform stream keep that nothing bad stands in it, in the promises and in what they cause, where its new promises hand on.
-- A stream that is terminated, and an identity that can't enqueue, fail with a TypeError.
use Rattle.std.proofs.Common.{◌≡◌, ℕ, ◌+◌, ◌≤◌, ◌<◌, Bool, true, false, not, List, ◌++◌, Option, Some, None, Result, Ok, Err, refl, subst, arith}
use Rattle.ws_value.specs.declared.ids.PromiseId.{PromiseId}
use Rattle.ws_value.specs.declared.value.Plain.{Plain}
use Rattle.ws_value.specs.declared.value.Value.{Value}
use Rattle.ws_steps.specs.declared.calls.HostCall.{HostCall}
use Rattle.ws_steps.specs.declared.calls.HostCall.TheVariants.{Flush as HostFlush, CancelTransform as HostCancelTransform}
use Rattle.ws_steps.specs.declared.effects.Effect.{Effect}
use Rattle.ws_steps.specs.declared.effects.Use.{Use}
use Rattle.ws_steps.specs.declared.effects.Use.TheVariants.{Resolve}
use Rattle.ws_steps.specs.declared.promises.Step.{Step}
use Rattle.ws_steps.specs.declared.promises.Step.TheVariants.{TransformFlushed, TransformAborted, TransformCancelled}
use Rattle.ws_steps.specs.declared.readable.ReadableState.{ReadableState}
use Rattle.ws_steps.specs.declared.readable.ReadableState.TheVariants as source
use Rattle.ws_steps.specs.declared.transform.Halves.{Halves}
use Rattle.ws_steps.specs.declared.transform.Kind.{Kind}
use Rattle.ws_steps.specs.declared.transform.TransformId.{TransformId}
use Rattle.ws_steps.specs.declared.transform.TransformOperation.{TransformOperation}
use Rattle.ws_steps.specs.declared.transform.TransformOperation.TheVariants as names
use Rattle.ws_steps.specs.declared.writable.WritableState.{WritableState}
use Rattle.ws_steps.specs.declared.writable.WritableState.TheVariants as dest
use Rattle.ws_steps.specs.Operations.{transform_operation}
use Rattle.ws_steps.specs.Promises.{next_id, settle}
use Rattle.ws_steps.specs.Transform.{Acts, done, set_backpressure, unblock, differs, transform_error, terminate, enqueue, enqueued, transform_by, transform_chunk, perform_transform, wait_for_change, sink_write, write_in, write_goes_on, source_pull, finish_by, sink_close, sink_abort, source_cancel, flushed_in, flush_settled, aborted_in, abort_settled, cancelled_in, cancel_settled}
use Rattle.ws_laws.proofs.Tables.{either}
use Rattle.ws_reason_laws.proofs.InTable.{settle-good, fresh-keeps, settle-count, fresh-count}
use Rattle.ws_reason_laws.proofs.Readables.{effects-append}
use Rattle.ws_reason_laws.proofs.Weights.{Class, of_result, of_step, loud, loud_one, settles, of_use, uses, of_transform, in_table, in_effects, is_errored, has_error, of_kind, in_transform, in_halves, count}

abbrev pub size : Acts → ℕ
size a = count a.out.promises

module _ (k : Class) (me : TransformId) (halves : Halves) (found : in_halves k halves ≡ 0) (m : ℕ) where
  -- nothing bad stands in it
  abbrev Good : Acts → Type 0
  Good a = in_transform k a.slots + (in_table k a.out.promises + in_effects k a.out.effects) ≡ 0

  -- with `m` promises after it
  abbrev Ending : Acts → Type 0
  Ending z = size z ≤ m → Good z

  -- the promises from this number on hand on
  abbrev Louds : ℕ → Type 0
  Louds n = (i : ℕ) → n ≤ i → i < m → loud k i ≡ 0

  used : (n : ℕ) (u : Use) → loud k n ≡ 0 → of_use k u ≡ 0 → uses k n u ≡ 0
  used n u h g = grind (arith, h, g)

  good_settles : (n : ℕ) (o : Result Plain Plain) → of_result k o ≡ 0 → settles k n o ≡ 0
  good_settles n o h = grind (arith, h)

  backpressure-size : (b : Bool) (a : Acts) → size (set_backpressure b a) ≡ size a + 1
  unfolding set_backpressure
  backpressure-size b a =
      let c = settle-count a.slots.change done a.out.promises in
      let d = fresh-count (settle a.slots.change done a.out.promises) in omega (arith, c, d)

  backpressure-good : (b : Bool) (a : Acts) → Louds (size a) → Good a → Ending (set_backpressure b a)
  unfolding set_backpressure
  backpressure-good b a l h q =
      let s = settle-good k a.slots.change done a.out.promises (omega (arith, h)) refl in
      let c = settle-count a.slots.change done a.out.promises in
      let d = fresh-count (settle a.slots.change done a.out.promises) in
      let f = fresh-keeps k (settle a.slots.change done a.out.promises) s in
      let one : loud k (count (settle a.slots.change done a.out.promises)) ≡ 0 = l (count (settle a.slots.change done a.out.promises)) (omega (arith, c)) (omega (arith, d, q)) in
      omega (arith, h, f, one)

  unblock-good : (a : Acts) → Louds (size a) → Good a → Ending (unblock a)
  unfolding unblock
  unblock-good a l h = either Ending a.slots.backpressure (set_backpressure false a) a (λ e. backpressure-good false a l h) (λ e q. h)

  enqueued-good : (a : Acts) → Louds (size a) → Good a → Ending (enqueued halves a)
  unfolding enqueued
  enqueued-good a l h =
      either Ending (differs (not halves.should_pull) a.slots.backpressure) (set_backpressure true a) a (λ e. backpressure-good true a l h) (λ e q. h)

  -- effects after the others
  causing-good : (a : Acts) (es : List Effect) → in_effects k es ≡ 0 → Good a → Good (record a { out = record a.out { effects = a.out.effects ++ es } })
  causing-good a es z h = let c = effects-append k a.out.effects es in omega (arith, z, h, c)

  chunk-good : (v : Value) (d : PromiseId) (a : Acts) (kind : Kind) → of_kind k.bad kind ≡ 0 → in_effects k (transform_by me halves v d a kind) ≡ 0
  chunk-good v d a kind h = grind (arith, h)

  perform-good : (u : Use) (a : Acts) → of_use k u ≡ 0 → Louds (size a) → Good a → Ending (perform_transform me u a)
  perform-good u a z l h q =
      let c = fresh-count a.out.promises in
      let one : loud k (size a) ≡ 0 = l (size a) (omega arith) (omega (arith, c, q)) in
      let f = fresh-keeps k a.out.promises (omega (arith, h)) in
      let w = used (size a) u one z in
      grind (arith, h, f, w, effects-append)

  wait-good : (u : Use) (a : Acts) → of_use k u ≡ 0 → Louds (size a) → Good a → Ending (wait_for_change me u a)
  wait-good u a z l h q =
      let c = fresh-count a.out.promises in
      let one : loud k (size a) ≡ 0 = l (size a) (omega arith) (omega (arith, c, q)) in
      let f = fresh-keeps k a.out.promises (omega (arith, h)) in
      let w = used (size a) u one z in
      grind (arith, h, f, w, effects-append)

  write-good : (u : Use) (a : Acts) → of_use k u ≡ 0 → Louds (size a) → Good a → Ending (sink_write me u a)
  unfolding sink_write
  write-good u a z l h = either Ending a.slots.backpressure (wait_for_change me u a) (perform_transform me u a) (λ e. wait-good u a z l h) (λ e. perform-good u a z l h)

  source-error : (state : ReadableState) → halves.readable_state ≡ state → is_errored state ≡ true → k.bad halves.readable_error ≡ 0
  source-error state e z = grind (arith, found, e, z)

  dest-error : (state : WritableState) → halves.writable_state ≡ state → has_error state ≡ true → k.bad halves.writable_error ≡ 0
  dest-error state e z = grind (arith, found, e, z)

  goes_on-good : (d : PromiseId) (a : Acts) (state : WritableState) → halves.writable_state ≡ state → Louds (size a) → Good a → Ending (write_in me halves d a state)
  goes_on-good d a dest.Writable e l h = perform-good (Resolve d) a refl l h
  goes_on-good d a dest.Errored e l h = perform-good (Resolve d) a refl l h
  goes_on-good d a dest.Closed e l h = perform-good (Resolve d) a refl l h
  goes_on-good d a dest.Erroring e l h = λ q.
      let s = good_settles d.0 (Err halves.writable_error) (dest-error dest.Erroring e refl) in grind (arith, h, s, effects-append)

  pull-good : (u : Use) (a : Acts) → of_use k u ≡ 0 → Louds (size a) → Good a → Ending (source_pull u a)
  unfolding source_pull
  pull-good u a z l h q =
      let b : Acts = set_backpressure false a in
      let g : Good b = backpressure-good false a l h q in
      let w = used b.slots.change.0 u (omega (arith, g)) z in
      grind (arith, g, w, effects-append)

  finish-good : (call : HostCall) (step : PromiseId → Step) (u : Use) (a : Acts) (finish : Option PromiseId) → a.slots.finish ≡ finish → ((p : PromiseId) → of_step k (step p) ≡ 0) → of_use k u ≡ 0
      → Louds (size a) → Good a → Ending (finish_by call step u a finish)
  finish-good call step u a (Some p) e f z l h = λ q.
      let y : loud_one k (Some p) ≡ 0 = subst (λ (x : Option PromiseId). loud_one k x ≡ 0) e (omega (arith, h)) in
      let w = used p.0 u y z in
      grind (arith, h, w, effects-append)
  finish-good call step u a None e f z l h = λ q.
      let c = fresh-count a.out.promises in
      let one : loud k (size a) ≡ 0 = l (size a) (omega arith) (omega (arith, c, q)) in
      let g = fresh-keeps k a.out.promises (omega (arith, h)) in
      let w = used (size a) u one z in
      let y = f (next_id a.out.promises) in
      grind (arith, h, g, w, y, one, effects-append)

  flushed-good : (p : PromiseId) (a : Acts) (state : ReadableState) → halves.readable_state ≡ state → Good a → Good (flushed_in p halves a state)
  flushed-good p a source.Errored e h =
      let s = good_settles p.0 (Err halves.readable_error) (source-error source.Errored e refl) in grind (arith, h, s, effects-append)
  flushed-good p a source.Readable e h = grind (arith, h, effects-append)
  flushed-good p a source.Closed e h = grind (arith, h, effects-append)

  aborted-good : (p : PromiseId) (r : Plain) (a : Acts) (state : ReadableState) → halves.readable_state ≡ state → k.bad r ≡ 0 → Good a → Good (aborted_in p halves r a state)
  aborted-good p r a source.Errored e b h =
      let s = good_settles p.0 (Err halves.readable_error) (source-error source.Errored e refl) in grind (arith, h, s, effects-append)
  aborted-good p r a source.Readable e b h = grind (arith, h, b, effects-append)
  aborted-good p r a source.Closed e b h = grind (arith, h, b, effects-append)

  cancelled-good : (p : PromiseId) (r : Plain) (a : Acts) (state : WritableState) → halves.writable_state ≡ state → k.bad r ≡ 0 → Good a → Good (cancelled_in me p halves r a state)
  cancelled-good p r a dest.Errored e b h =
      let s = good_settles p.0 (Err halves.writable_error) (dest-error dest.Errored e refl) in grind (arith, h, s, effects-append)
  cancelled-good p r a dest.Writable e b h = grind (arith, h, b, effects-append)
  cancelled-good p r a dest.Erroring e b h = grind (arith, h, b, effects-append)
  cancelled-good p r a dest.Closed e b h = grind (arith, h, b, effects-append)

  pub transform-good : (operation : TransformOperation) (a : Acts) → of_transform k operation ≡ 0 → Louds (size a) → Good a → Ending (transform_operation me halves operation a)
  unfolding transform_error terminate enqueue transform_chunk write_goes_on sink_close sink_abort source_cancel flush_settled abort_settled cancel_settled
  transform-good (names.SinkWrite u) a f l h = write-good u a f l h
  transform-good (names.WriteGoesOn d) a f l h = goes_on-good d a halves.writable_state refl l h
  transform-good (names.TransformChunk v d) a f l h = λ q. causing-good a _ (chunk-good v d a a.slots.kind (omega (arith, h))) h
  transform-good (names.Enqueue v) a f l h = λ q. causing-good a _ refl h
  transform-good names.Enqueued a f l h = enqueued-good a l h
  transform-good (names.Error e) a f l h = λ q. causing-good a _ (omega (arith, f)) h
  transform-good names.Unblock a f l h = unblock-good a l h
  transform-good names.Terminate a f l h = λ q. causing-good a _ (omega (arith, f)) h
  transform-good (names.SourcePull u) a f l h = pull-good u a f l h
  transform-good (names.SinkClose u) a f l h = finish-good (HostFlush a.slots.readable) (TransformFlushed me) u a a.slots.finish refl (λ p. refl) f l h
  transform-good (names.SinkAbort r u) a f l h =
      finish-good (HostCancelTransform a.slots.readable r) (λ p. TransformAborted me p r) u a a.slots.finish refl (λ p. omega (arith, f)) (omega (arith, f)) l h
  transform-good (names.SourceCancel r u) a f l h =
      finish-good (HostCancelTransform a.slots.readable r) (λ p. TransformCancelled me p r) u a a.slots.finish refl (λ p. omega (arith, f)) (omega (arith, f)) l h
  transform-good (names.FlushSettled p (Ok v)) a f l h = λ q. flushed-good p a halves.readable_state refl h
  transform-good (names.FlushSettled p (Err e)) a f l h = λ q. let s = good_settles p.0 (Err e) f in causing-good a _ (omega (arith, f, s)) h
  transform-good (names.AbortSettled p r (Ok v)) a f l h = λ q. aborted-good p r a halves.readable_state refl (omega (arith, f)) h
  transform-good (names.AbortSettled p r (Err e)) a f l h = λ q. let s = good_settles p.0 (Err e) (omega (arith, f)) in causing-good a _ (omega (arith, f, s)) h
  transform-good (names.CancelSettled p r (Ok v)) a f l h = λ q. cancelled-good p r a halves.writable_state refl (omega (arith, f)) h
  transform-good (names.CancelSettled p r (Err e)) a f l h = λ q. let s = good_settles p.0 (Err e) (omega (arith, f)) in causing-good a _ (omega (arith, f, s)) h
