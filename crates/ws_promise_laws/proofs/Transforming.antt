-- Operations on a transform stream settle and resolve open promises alone.
use Rattle.std.proofs.Common.{◌≡◌, ◌≤◌, ℕ, ◌+◌, Bool, true, false, not, Option, Some, None, Ok, Err, refl, arith}
use Rattle.ws_value.specs.declared.ids.PromiseId.{PromiseId}
use Rattle.ws_value.specs.declared.value.Plain.{Plain}
use Rattle.ws_value.specs.declared.value.Value.{Value}
use Rattle.ws_steps.specs.declared.{calls.HostCall.{HostCall}, effects.Use.{Use}, promises.Step.{Step}, promises.Step.TheVariants.{TransformFlushed, TransformAborted, TransformCancelled}}
use Rattle.ws_steps.specs.declared.{effects.Use.TheVariants.{Resolve}, readable.ReadableState.{ReadableState}, writable.WritableState.{WritableState}}
use Rattle.ws_steps.specs.declared.readable.ReadableState.TheVariants.{Readable, Closed as ReadableClosed, Errored as ReadableErrored}
use Rattle.ws_steps.specs.declared.writable.WritableState.TheVariants.{Writable, Erroring, Errored, Closed}
use Rattle.ws_steps.specs.declared.transform.Halves.{Halves}
use Rattle.ws_steps.specs.declared.transform.Kind.{Kind}
use Rattle.ws_steps.specs.declared.transform.TransformId.{TransformId}
use Rattle.ws_steps.specs.declared.transform.TransformOperation.{TransformOperation}
use Rattle.ws_steps.specs.declared.transform.TransformOperation.TheVariants as names_of
use Rattle.ws_steps.specs.Operations.{transform_operation}
use Rattle.ws_steps.specs.Promises.{Table, next_id, fresh, settle}
use Rattle.ws_steps.specs.Transform.{Acts, causing, done, differs, set_backpressure, unblock, transform_error, terminate, enqueue, enqueued, transform_by, transform_chunk, perform_transform, wait_for_change, sink_write, write_in, write_goes_on, source_pull, finish_by, sink_close, sink_abort, source_cancel, flushed_in, flush_settled, aborted_in, abort_settled, cancelled_in, cancel_settled}
use Rattle.ws_laws.proofs.Tables.{either}
use Rattle.ws_promise_laws.proofs.Holds.{Holds, holds-less}
use Rattle.ws_promise_laws.proofs.Settling.{holds-settle, holds-fresh}
use Rattle.ws_promise_laws.proofs.Streams.{in_transform, Transforms}
use Rattle.ws_promise_laws.proofs.Tokens.{names, of_use, in_step, of_transform, in_effects, in_effects-append}

abbrev here : PromiseId → Acts → ℕ
here x a = in_transform x a.slots + in_effects x a.out.effects

module _ (f l : PromiseId → ℕ) where
  -- what was told stands in what is caused, and the promises are the same
  quiet : (n : PromiseId → ℕ) (a b : Acts) → b.out.promises ≡ a.out.promises → ((x : PromiseId) → here x b ≤ n x + here x a) → Transforms (λ x. f x + n x) l a → Transforms f l b
  quiet n a b e m k =
      rw e (holds-less (λ x. (f x + n x) + here x a) l (λ x. f x + here x b) l a.out.promises k (λ x. let h = m x in omega (arith, h)) (λ x. let h = m x in omega (arith, h)))

  -- and one is new
  making : (n : PromiseId → ℕ) (a b : Acts) → b.out.promises ≡ fresh a.out.promises → ((x : PromiseId) → here x b ≤ (n x + here x a) + names x (next_id a.out.promises)) → Transforms (λ x. f x + n x) l a → Transforms f l b
  making n a b e m k =
      rw e (holds-fresh (λ x. (f x + n x) + here x a) l (λ x. f x + here x b) l a.out.promises k (λ x. let h = m x in omega (arith, h)) (λ x. let h = m x in omega (arith, h)))

  -- the change promise is settled, and becomes a new one
  changes : (n : PromiseId → ℕ) (b : Bool) (a : Acts) → Transforms (λ x. f x + n x) l a → Transforms (λ x. f x + n x) l (set_backpressure b a)
  unfolding set_backpressure
  changes n b a k =
      let z : Table = settle a.slots.change done a.out.promises in
      let settled : Holds (λ x. (f x + n x) + in_effects x a.out.effects) l z =
      holds-settle (λ x. (f x + n x) + here x a) l (λ x. (f x + n x) + in_effects x a.out.effects) l a.slots.change done a.out.promises k (λ x. omega arith) (λ x. omega arith) in
      holds-fresh (λ x. (f x + n x) + in_effects x a.out.effects) l (λ x. (f x + n x) + (names x (next_id z) + in_effects x a.out.effects)) l z settled (λ x. omega arith) (λ x. omega arith)

  unblocks : (a : Acts) → Transforms (λ x. f x + 0) l a → Transforms f l (unblock a)
  unfolding unblock
  unblocks a k =
      either (Transforms f l) a.slots.backpressure (set_backpressure false a) a
      (λ e. quiet (λ x. 0) (set_backpressure false a) (set_backpressure false a) refl (λ x. omega arith) (changes (λ x. 0) false a k))
      (λ e. quiet (λ x. 0) a a refl (λ x. omega arith) k)

  enqueues : (halves : Halves) (a : Acts) → Transforms (λ x. f x + 0) l a → Transforms f l (enqueued halves a)
  unfolding enqueued
  enqueues halves a k =
      either (Transforms f l) (differs (not halves.should_pull) a.slots.backpressure) (set_backpressure true a) a
      (λ e. quiet (λ x. 0) (set_backpressure true a) (set_backpressure true a) refl (λ x. omega arith) (changes (λ x. 0) true a k))
      (λ e. quiet (λ x. 0) a a refl (λ x. omega arith) k)

  performs : (me : TransformId) (u : Use) (a : Acts) → Transforms (λ x. f x + of_use x u) l a → Transforms f l (perform_transform me u a)
  performs me u a k = making (λ x. of_use x u) a (perform_transform me u a) refl (λ x. grind (arith, in_effects-append)) k

  waits : (me : TransformId) (u : Use) (a : Acts) → Transforms (λ x. f x + of_use x u) l a → Transforms f l (wait_for_change me u a)
  waits me u a k = making (λ x. of_use x u) a (wait_for_change me u a) refl (λ x. grind (arith, in_effects-append)) k

  writes : (me : TransformId) (u : Use) (a : Acts) → Transforms (λ x. f x + of_use x u) l a → Transforms f l (sink_write me u a)
  unfolding sink_write
  writes me u a k = either (Transforms f l) a.slots.backpressure (wait_for_change me u a) (perform_transform me u a) (λ e. waits me u a k) (λ e. performs me u a k)

  goes_on : (me : TransformId) (halves : Halves) (d : PromiseId) (a : Acts) (state : WritableState) → Transforms (λ x. f x + names x d) l a → Transforms f l (write_in me halves d a state)
  goes_on me halves d a Writable k = performs me (Resolve d) a k
  goes_on me halves d a Erroring k = quiet (λ x. names x d) a (write_in me halves d a Erroring) refl (λ x. grind (arith, in_effects-append)) k
  goes_on me halves d a Errored k = performs me (Resolve d) a k
  goes_on me halves d a Closed k = performs me (Resolve d) a k

  pulls : (u : Use) (a : Acts) → Transforms (λ x. f x + of_use x u) l a → Transforms f l (source_pull u a)
  unfolding source_pull
  pulls u a k =
      let b : Acts = set_backpressure false a in
      quiet (λ x. of_use x u) b (source_pull u a) refl (λ x. grind (arith, in_effects-append)) (changes (λ x. of_use x u) false a k)

  finishes : (call : HostCall) (step : PromiseId → Step) (u : Use) (a : Acts) (finish : Option PromiseId) → ((x p : PromiseId) → in_step x (step p) ≡ names x p)
      → Transforms (λ x. f x + of_use x u) l a → Transforms f l (finish_by call step u a finish)
  finishes call step u a (Some p) n k = quiet (λ x. of_use x u) a (finish_by call step u a (Some p)) refl (λ x. grind (arith, in_effects-append)) k
  finishes call step u a None n k =
      making (λ x. of_use x u) a (finish_by call step u a None) refl (λ x. let m = n x (next_id a.out.promises) in grind (arith, in_effects-append, m)) k

  flushes : (p : PromiseId) (halves : Halves) (a : Acts) (state : ReadableState) → Transforms (λ x. f x + names x p) l a → Transforms f l (flushed_in p halves a state)
  flushes p halves a Readable k = quiet (λ x. names x p) a (flushed_in p halves a Readable) refl (λ x. grind (arith, in_effects-append)) k
  flushes p halves a ReadableClosed k = quiet (λ x. names x p) a (flushed_in p halves a ReadableClosed) refl (λ x. grind (arith, in_effects-append)) k
  flushes p halves a ReadableErrored k = quiet (λ x. names x p) a (flushed_in p halves a ReadableErrored) refl (λ x. grind (arith, in_effects-append)) k

  aborts : (p : PromiseId) (halves : Halves) (r : Plain) (a : Acts) (state : ReadableState) → Transforms (λ x. f x + names x p) l a → Transforms f l (aborted_in p halves r a state)
  aborts p halves r a Readable k = quiet (λ x. names x p) a (aborted_in p halves r a Readable) refl (λ x. grind (arith, in_effects-append)) k
  aborts p halves r a ReadableClosed k = quiet (λ x. names x p) a (aborted_in p halves r a ReadableClosed) refl (λ x. grind (arith, in_effects-append)) k
  aborts p halves r a ReadableErrored k = quiet (λ x. names x p) a (aborted_in p halves r a ReadableErrored) refl (λ x. grind (arith, in_effects-append)) k

  cancels : (me : TransformId) (p : PromiseId) (halves : Halves) (r : Plain) (a : Acts) (state : WritableState) → Transforms (λ x. f x + names x p) l a → Transforms f l (cancelled_in me p halves r a state)
  cancels me p halves r a Writable k = quiet (λ x. names x p) a (cancelled_in me p halves r a Writable) refl (λ x. grind (arith, in_effects-append)) k
  cancels me p halves r a Erroring k = quiet (λ x. names x p) a (cancelled_in me p halves r a Erroring) refl (λ x. grind (arith, in_effects-append)) k
  cancels me p halves r a Errored k = quiet (λ x. names x p) a (cancelled_in me p halves r a Errored) refl (λ x. grind (arith, in_effects-append)) k
  cancels me p halves r a Closed k = quiet (λ x. names x p) a (cancelled_in me p halves r a Closed) refl (λ x. grind (arith, in_effects-append)) k

  transforming : (me : TransformId) (halves : Halves) (v : Value) (d : PromiseId) (a : Acts) (kind : Kind) → Transforms (λ x. f x + names x d) l a → Transforms f l (causing (transform_by me halves v d a kind) a)
  transforming me halves v d a kind k = quiet (λ x. names x d) a (causing (transform_by me halves v d a kind) a) refl (λ x. grind (arith, in_effects-append)) k

-- an operation takes the promises that it was told of
pub transforms : (f l : PromiseId → ℕ) (me : TransformId) (halves : Halves) (operation : TransformOperation) (a : Acts) → Transforms (λ x. f x + of_transform x operation) l a
    → Transforms f l (transform_operation me halves operation a)
unfolding transform_error terminate enqueue transform_chunk write_goes_on sink_close sink_abort source_cancel flush_settled abort_settled cancel_settled
transforms f l me halves (names_of.SinkWrite u) a k = writes f l me u a k
transforms f l me halves (names_of.WriteGoesOn d) a k = goes_on f l me halves d a halves.writable_state k
transforms f l me halves (names_of.TransformChunk v d) a k = transforming f l me halves v d a a.slots.kind k
transforms f l me halves (names_of.Enqueue v) a k = quiet f l (λ x. 0) a (enqueue me v a) refl (λ x. grind (arith, in_effects-append)) k
transforms f l me halves names_of.Enqueued a k = enqueues f l halves a k
transforms f l me halves (names_of.Error e) a k = quiet f l (λ x. 0) a (transform_error me e a) refl (λ x. grind (arith, in_effects-append)) k
transforms f l me halves names_of.Unblock a k = unblocks f l a k
transforms f l me halves names_of.Terminate a k = quiet f l (λ x. 0) a (terminate me a) refl (λ x. grind (arith, in_effects-append)) k
transforms f l me halves (names_of.SourcePull u) a k = pulls f l u a k
transforms f l me halves (names_of.SinkClose u) a k = finishes f l _ (TransformFlushed me) u a a.slots.finish (λ x p. refl) k
transforms f l me halves (names_of.SinkAbort r u) a k = finishes f l _ (λ p. TransformAborted me p r) u a a.slots.finish (λ x p. refl) k
transforms f l me halves (names_of.SourceCancel r u) a k = finishes f l _ (λ p. TransformCancelled me p r) u a a.slots.finish (λ x p. refl) k
transforms f l me halves (names_of.FlushSettled p (Ok v)) a k = flushes f l p halves a halves.readable_state k
transforms f l me halves (names_of.FlushSettled p (Err e)) a k = quiet f l (λ x. names x p) a (flush_settled p halves (Err e) a) refl (λ x. grind (arith, in_effects-append)) k
transforms f l me halves (names_of.AbortSettled p r (Ok v)) a k = aborts f l p halves r a halves.readable_state k
transforms f l me halves (names_of.AbortSettled p r (Err e)) a k = quiet f l (λ x. names x p) a (abort_settled p halves r (Err e) a) refl (λ x. grind (arith, in_effects-append)) k
transforms f l me halves (names_of.CancelSettled p r (Ok v)) a k = cancels f l me p halves r a halves.writable_state k
transforms f l me halves (names_of.CancelSettled p r (Err e)) a k = quiet f l (λ x. names x p) a (cancel_settled me p halves r (Err e) a) refl (λ x. grind (arith, in_effects-append)) k
