-- What an operation of a transform stream leads to, of a writable stream: only what is done with the promise that it was told of. It closes
-- none, and hands on a chunk of its writable half at most.
use Rattle.std.proofs.Common.{◌≡◌, ◌≤◌, ℕ, false, [], refl, arith}
use Rattle.ws_value.specs.declared.ids.PromiseId.{PromiseId}
use Rattle.ws_value.specs.declared.ids.StreamId.{StreamId}
use Rattle.ws_value.specs.declared.value.Plain.{Plain}
use Rattle.ws_steps.specs.declared.promises.Step.{Step}
use Rattle.ws_steps.specs.declared.promises.Step.TheVariants.{TransformChanged, Transformed, TransformFlushed, TransformAborted, TransformCancelled}
use Rattle.ws_steps.specs.declared.transform.Halves.{Halves}
use Rattle.ws_steps.specs.declared.transform.TransformId.{TransformId}
use Rattle.ws_steps.specs.declared.transform.TransformOperation.{TransformOperation}
use Rattle.ws_steps.specs.Operations.{transform_operation}
use Rattle.ws_steps.specs.Transform as transform
use Rattle.ws_steps.specs.Histories.{is_same}
use Rattle.ws_steps.specs.Promises.{Table}
use Rattle.ws_laws.proofs.TransformDoes.{OfTransform}
use Rattle.ws_laws.proofs.Weights.{weigh-fresh, weigh-settle}
use Rattle.ws_writable_laws.proofs.Operations.{later_effects}
use Rattle.ws_writable_laws.proofs.Shape.{is_start, is_write, is_close, is_abort, of_transform, leads_to, hands, closes, all, weight, of_reaction}

-- steps that weigh nothing for a transform stream's own reactions
pub record IsPlain (f : Step → ℕ) : Type 0 where
  pub changed : (t : TransformId) (d : PromiseId) → f (TransformChanged t d) ≡ 0
  pub done : (t : TransformId) → f (Transformed t) ≡ 0
  pub flushed : (t : TransformId) (p : PromiseId) → f (TransformFlushed t p) ≡ 0
  pub aborted : (t : TransformId) (p : PromiseId) (r : Plain) → f (TransformAborted t p r) ≡ 0
  pub cancelled : (t : TransformId) (p : PromiseId) (r : Plain) → f (TransformCancelled t p r) ≡ 0

pub transform-leads : (f : Step → ℕ) (t : TransformId) (halves : Halves) (operation : TransformOperation) (a : transform.Acts) → IsPlain f → a.out.effects ≡ []
    → all (leads_to f) (transform_operation t halves operation a).out.effects ≤ of_transform f operation
unfolding transform.unblock transform.transform_error transform.terminate transform.enqueue transform.enqueued transform.transform_chunk transform.sink_write transform.write_goes_on transform.source_pull transform.set_backpressure transform.sink_close transform.sink_abort transform.source_cancel transform.flush_settled transform.abort_settled transform.cancel_settled
transform-leads f t halves operation a p none =
    let c = p.changed in let d = p.done in let e = p.flushed in let g = p.aborted in let h = p.cancelled in grind (arith, none, c, d, e, g, h)

pub transform-hands : (i : StreamId) (t : TransformId) (halves : Halves) (operation : TransformOperation) (a : transform.Acts) → is_same i a.slots.writable ≡ false → a.out.effects ≡ []
    → all (hands i) (transform_operation t halves operation a).out.effects ≡ 0
unfolding transform.unblock transform.transform_error transform.terminate transform.enqueue transform.enqueued transform.transform_chunk transform.sink_write transform.write_goes_on transform.source_pull transform.set_backpressure transform.sink_close transform.sink_abort transform.source_cancel transform.flush_settled transform.abort_settled transform.cancel_settled
transform-hands i t halves operation a n none = grind (arith, n, none)

-- it hands a chunk of its writable half on by what it does first
pub transform-alone : (i : StreamId) (t : TransformId) (halves : Halves) (operation : TransformOperation) (a : transform.Acts) → a.out.effects ≡ []
    → (all (hands i) (later_effects (transform_operation t halves operation a).out.effects) ≡ 0) × (all (closes i) (transform_operation t halves operation a).out.effects ≡ 0)
unfolding transform.unblock transform.transform_error transform.terminate transform.enqueue transform.enqueued transform.transform_chunk transform.sink_write transform.write_goes_on transform.source_pull transform.set_backpressure transform.sink_close transform.sink_abort transform.source_cancel transform.flush_settled transform.abort_settled transform.cancel_settled
transform-alone i t halves operation a none = grind (arith, none)

pub start-plain : (i : StreamId) → IsPlain (is_start i)
start-plain i = record { changed = λ t d. refl; done = λ t. refl; flushed = λ t p. refl; aborted = λ t p r. refl; cancelled = λ t p r. refl }

pub write-plain : (i : StreamId) → IsPlain (is_write i)
write-plain i = record { changed = λ t d. refl; done = λ t. refl; flushed = λ t p. refl; aborted = λ t p r. refl; cancelled = λ t p r. refl }

pub close-plain : (i : StreamId) → IsPlain (is_close i)
close-plain i = record { changed = λ t d. refl; done = λ t. refl; flushed = λ t p. refl; aborted = λ t p r. refl; cancelled = λ t p r. refl }

pub abort-plain : (i : StreamId) → IsPlain (is_abort i)
abort-plain i = record { changed = λ t d. refl; done = λ t. refl; flushed = λ t p. refl; aborted = λ t p r. refl; cancelled = λ t p r. refl }

pub weight-transform : (f : Step → ℕ) (t : Table) → OfTransform (λ z. weight f z ≤ weight f t)
weight-transform f t = record {
  fresh = λ z h. let k = weigh-fresh (of_reaction f) z in omega (arith, h, k);
  settle = λ z p o h. let k = weigh-settle (of_reaction f) p o z in omega (arith, h, k);
}
