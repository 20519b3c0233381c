-- What is seen of the record of a transform stream.
use Rattle.std.specs.Prelude.{Bool, true, false, List, [], ◌∷◌, ◌++◌, Result}
use Rattle.ws_value.specs.declared.ids.PromiseId.{PromiseId}
use Rattle.ws_value.specs.declared.ids.StreamId.{StreamId}
use Rattle.ws_value.specs.declared.value.Plain.{Plain}
use Rattle.ws_promise.specs.Seen.{Seen, SeenAgenda, out_of, HasPromiseRoom}
use Rattle.ws_steps.specs.declared.effects.Effect.{Effect}
use Rattle.ws_steps.specs.declared.effects.Effect.TheVariants.{Readable as OnReadable, Writable as OnWritable, Transform as OnTransform, Settle}
use Rattle.ws_steps.specs.declared.readable.ReadableOperation.TheVariants.{Error as ErrorReadable}
use Rattle.ws_steps.specs.declared.transform.TransformId.{TransformId}
use Rattle.ws_steps.specs.declared.transform.TransformOperation.{TransformOperation}
use Rattle.ws_steps.specs.declared.transform.TransformOperation.TheVariants.{SinkWrite, WriteGoesOn, TransformChunk, Enqueue, Enqueued, Unblock, SourcePull, FlushSettled, AbortSettled, CancelSettled}
use Rattle.ws_steps.specs.declared.writable.WritableOperation.TheVariants.{ErrorIfNeeded}
use Rattle.ws_steps.specs.Transform.{Slots, Acts}
use Rattle.ws_steps.specs.Places.{own_transform, promises_alone}

-- a transform stream, the promises and the agenda, as an operation of the transform stream finds and leaves them
abbrev pub acts_of : Slots → Seen → SeenAgenda → Acts
acts_of s p fx = record { slots = s; out = out_of p fx }

-- there are places for what an operation of a transform stream takes by itself
pub record HasRoomFor (operation : TransformOperation) (p : Seen) : Type 0 where
  pub promises : HasPromiseRoom (own_transform promises_alone operation) p

-- whether the way of a chunk through a transform stream meets the operation
abbrev pub is_common : TransformOperation → Bool
is_common (SinkWrite u) = true
is_common (WriteGoesOn d) = true
is_common (TransformChunk v d) = true
is_common (Enqueue v) = true
is_common Enqueued = true
is_common Unblock = true
is_common (SourcePull u) = true
is_common _ = false

-- whether the transform stream looks at its two halves in the operation
abbrev pub looks : TransformOperation → Bool
looks (WriteGoesOn d) = true
looks (TransformChunk v d) = true
looks Enqueued = true
looks (FlushSettled p outcome) = true
looks (AbortSettled p r outcome) = true
looks (CancelSettled p r outcome) = true
looks _ = false

-- the readable half errs, and then the finish promise is settled
abbrev pub error_readable_and_settle : StreamId → PromiseId → Plain → Result Plain Plain → List Effect
error_readable_and_settle i p e outcome = OnReadable i (ErrorReadable e) ∷ Settle p outcome ∷ []

-- the writable half errs where it needs to, and then a write is unblocked
abbrev pub error_writable_and_unblock : TransformId → StreamId → Plain → List Effect
error_writable_and_unblock me i e = OnWritable i (ErrorIfNeeded e) ∷ OnTransform me Unblock ∷ []

abbrev pub error_writable_and_settle : TransformId → StreamId → PromiseId → Plain → Result Plain Plain → List Effect
error_writable_and_settle me i p e outcome = OnWritable i (ErrorIfNeeded e) ∷ OnTransform me Unblock ∷ Settle p outcome ∷ []

-- effects after the others
abbrev pub followed_by : SeenAgenda → List Effect → SeenAgenda
followed_by fx effects = record fx { effects = fx.effects ++ effects }
