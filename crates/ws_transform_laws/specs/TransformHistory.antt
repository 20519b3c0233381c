-- What goes through a transform stream.
use Rattle.std.specs.Prelude.{not, ◌||◌, nat_lt, ℕ, ◌+◌, Option, Some, Ok, Bool, true, false, ◌&&◌, if◌then◌else◌, nat_eq, List, [], ◌∷◌, ◌++◌}
use Rattle.ws_value.specs.declared.ids.StreamId.{StreamId}
use Rattle.ws_value.specs.declared.value.Value.{Value}
use Rattle.ws_steps.specs.declared.calls.Event.{Event}
use Rattle.ws_steps.specs.declared.calls.Event.TheVariants.{Host}
use Rattle.ws_steps.specs.declared.calls.HostCall.TheVariants.{Transform as HostTransform}
use Rattle.ws_steps.specs.declared.effects.Effect.{Effect}
use Rattle.ws_steps.specs.declared.effects.Effect.TheVariants.{Readable, Transform}
use Rattle.ws_steps.specs.declared.promises.Job.{Job}
use Rattle.ws_steps.specs.declared.promises.Job.TheVariants.{Reaction as ReactionJob}
use Rattle.ws_steps.specs.declared.promises.Step.TheVariants.{TransformFlushed, TransformChanged}
use Rattle.ws_steps.specs.declared.readable.ReadableOperation.TheVariants.{Close}
use Rattle.ws_steps.specs.declared.transform.Kind.{Kind}
use Rattle.ws_steps.specs.declared.transform.Kind.TheVariants.{Identity, Host as HostKind}
use Rattle.ws_steps.specs.declared.transform.TransformId.{TransformId}
use Rattle.ws_steps.specs.declared.transform.TransformOperation.TheVariants.{TransformChunk}
use Rattle.ws_steps.specs.Histories.{is_same, in_step, over}
use Rattle.ws_steps.specs.Promises.{next_job}
use Rattle.ws_steps.specs.Run.{Entry, Worked}
use Rattle.ws_steps.specs.Queues.{is_empty, total_of}
use Rattle.ws_steps.specs.Readable as readable
use Rattle.ws_steps.specs.Readable.{can_close_or_enqueue, waiting}
use Rattle.ws_steps.specs.Slots.{Slots, readable_at, transform_at}
use Rattle.ws_steps.specs.Transform as transform

-- whether it is the same transform stream
abbrev pub is_same_transform : TransformId → TransformId → Bool
is_same_transform t u = nat_eq t.0 u.0

-- the chunk with which an effect performs the transform algorithm of transform stream t
abbrev pub effect_transformed : TransformId → Effect → Slots → List Value
effect_transformed t (Transform u (TransformChunk v d)) s = if is_same_transform t u then v ∷ [] else []
effect_transformed t _ s = []

-- in a step
abbrev pub step_transformed : TransformId → Slots → Entry → List Value
step_transformed t s x = in_step [] ◌++◌ (effect_transformed t) s x

-- in a run
abbrev pub run_transformed : TransformId → List Entry → Slots → List Value
run_transformed t xs s = over [] ◌++◌ (step_transformed t) xs s

-- what it enqueues by itself: an identity transform's chunk, where its readable half can take it

abbrev pub is_identity : Kind → Bool
is_identity Identity = true
is_identity HostKind = false

abbrev pub enqueues : TransformId → Slots → Bool
enqueues t s = let x : transform.Slots = transform_at t s in is_identity x.kind && can_close_or_enqueue (readable_at x.readable s)

abbrev pub effect_enqueued : TransformId → Effect → Slots → List Value
effect_enqueued t (Transform u (TransformChunk v d)) s = if is_same_transform t u && enqueues t s then v ∷ [] else []
effect_enqueued t _ s = []

-- in a step
abbrev pub step_enqueued : TransformId → Slots → Entry → List Value
step_enqueued t s x = in_step [] ◌++◌ (effect_enqueued t) s x

-- whether its readable half wants a chunk

-- a read waits, or the desired size is more than 0: ReadableStreamDefaultControllerHasBackpressure is false
abbrev pub wants : readable.Slots → Bool
wants r = not (is_empty (waiting r)) || nat_lt (total_of r.queue) r.hwm

-- it could take a chunk, and wants none
abbrev pub wants_none : readable.Slots → Bool
wants_none r = can_close_or_enqueue r && not (wants r)

-- the chunk with which an effect performs the transform algorithm of transform stream t, where its readable half wants none
abbrev pub effect_unwanted : TransformId → Effect → Slots → List Value
effect_unwanted t (Transform u (TransformChunk v d)) s =
    if is_same_transform t u && wants_none (readable_at (transform_at t s).readable s) then v ∷ [] else []
effect_unwanted t _ s = []

-- in a run
abbrev pub run_unwanted : TransformId → List Entry → Slots → List Value
run_unwanted t xs s = over [] ◌++◌ (in_step [] ◌++◌ (effect_unwanted t)) xs s

-- in a step
abbrev pub step_unwanted : TransformId → Slots → Entry → List Value
step_unwanted t s x = in_step [] ◌++◌ (effect_unwanted t) s x

-- whether a job is that of the reaction by which a write of its writable half goes on that waited for the backpressure to change
abbrev pub is_changed : TransformId → Option Job → Bool
is_changed t (Some (ReactionJob (TransformChanged u d) o derived)) = is_same_transform t u
is_changed t _ = false

-- whether in a step such a write goes on though there is backpressure
abbrev pub goes_on_pressed : TransformId → Slots → Entry → Bool
goes_on_pressed t s Worked = is_changed t (next_job s.promises) && (transform_at t s).backpressure
goes_on_pressed t s _ = false

-- the chunk with which an effect performs the transform algorithm of transform stream t, where its readable half could take one and has mark 0, and
-- no read of that waits
abbrev pub effect_unread : TransformId → Effect → Slots → List Value
effect_unread t (Transform u (TransformChunk v d)) s =
    let r : readable.Slots = readable_at (transform_at t s).readable s in
    if is_same_transform t u && (can_close_or_enqueue r && (nat_eq r.hwm 0 && is_empty (waiting r))) then v ∷ [] else []
effect_unread t _ s = []

-- in a step
abbrev pub step_unread : TransformId → Slots → Entry → List Value
step_unread t s x = in_step [] ◌++◌ (effect_unread t) s x

-- how its readable half is closed

-- whether an effect performs ReadableStreamDefaultControllerClose on stream i
abbrev pub effect_closings : StreamId → Effect → Slots → ℕ
effect_closings i (Readable j Close) s = if is_same i j then 1 else 0
effect_closings i _ s = 0

-- how often, in a step
abbrev pub step_closings : StreamId → Slots → Entry → ℕ
step_closings i s x = in_step 0 ◌+◌ (effect_closings i) s x

-- whether a job is that of the reaction to the promise of the flush algorithm of transform stream t, which was fulfilled
abbrev pub is_flushed : TransformId → Option Job → Bool
is_flushed t (Some (ReactionJob (TransformFlushed u p) (Ok v) derived)) = is_same_transform t u
is_flushed t _ = false

-- what a host hears of it

-- the value of an event that calls the transform algorithm of the transform stream whose readable half is stream i
abbrev pub heard_transform : StreamId → Event → List Value
heard_transform i (Host id (HostTransform j v)) = if is_same i j then v ∷ [] else []
heard_transform i _ = []

-- the values of such events, in their order
abbrev pub heard_transforms : StreamId → List Event → List Value
heard_transforms i [] = []
heard_transforms i (e ∷ es) = heard_transform i e ++ heard_transforms i es
