-- What enters a source in a step, of which the algorithms are the host's: no pipe is asked for.
use Rattle.std.specs.Prelude.{ℕ, ◌≡◌, ◌≢◌, ◌⊎◌, true, if◌then◌else◌, List, [], ◌∷◌}
use Rattle.ws_value.specs.declared.ids.StreamId.{StreamId}
use Rattle.ws_value.specs.declared.value.Value.{Value}
use Rattle.ws_value.specs.declared.value.Value.TheVariants.{Bytes}
use Rattle.ws_steps.specs.declared.byte.ByteOperation.{ByteOperation}
use Rattle.ws_steps.specs.declared.byte.ByteOperation.TheVariants.{Enqueue as EnqueueBytes}
use Rattle.ws_steps.specs.declared.calls.Call.TheVariants.{Enqueue as EnqueueCall}
use Rattle.ws_steps.specs.declared.calls.Reply.TheVariants.{Done}
use Rattle.ws_steps.specs.declared.effects.Effect.{Effect}
use Rattle.ws_steps.specs.declared.effects.Effect.TheVariants.{Readable, Byte}
use Rattle.ws_steps.specs.declared.readable.ReadableOperation.{ReadableOperation}
use Rattle.ws_steps.specs.declared.readable.ReadableOperation.TheVariants.{Enqueue, Close}
use Rattle.ws_steps.specs.Histories.{is_same, in_step}
use Rattle.ws_steps.specs.Promises.{next_job}
use Rattle.ws_steps.specs.Run.{Entry, Called, Worked, reply_to, run}
use Rattle.ws_steps.specs.Slots.{Slots, empty, owner_at, has_source, source_at}
use Rattle.ws_flow.specs.Told.{Open, Closed, Told, told, then_told}
use Rattle.ws_link_laws.specs.Link.{Giver, OfSource, OfByteSource, OfHalf, OfEnd, silence, in_source, giver_at, lets_in, next_enters}
use Rattle.ws_link_laws.specs.Sound.{IsHosts}

-- what an operation lets into its stream; a byte controller has an operation of its own by which it enqueues

abbrev pub chunk_in : Giver → Value → Told Value
chunk_in OfSource v = told (v ∷ []) Open
chunk_in OfByteSource v = silence
chunk_in (OfHalf t) v = told (v ∷ []) Open
chunk_in (OfEnd c) v = told (v ∷ []) Open

abbrev pub entered : Giver → ReadableOperation → Told Value
entered g (Enqueue v) = chunk_in g v
entered g Close = told [] Closed
entered g _ = silence

abbrev pub bytes_in : Giver → List ℕ → Told Value
bytes_in OfSource b = silence
bytes_in OfByteSource b = lets_in OfByteSource (Bytes b)
bytes_in (OfHalf t) b = silence
bytes_in (OfEnd c) b = silence

abbrev pub bytes_entered : Giver → ByteOperation → Told Value
bytes_entered g (EnqueueBytes b) = bytes_in g b
bytes_entered g _ = silence

-- what an effect lets into stream i. What a response fills into a descriptor isn't told: a bare byte stream has none
abbrev pub effect_lets : StreamId → Effect → Slots → Told Value
effect_lets i (Readable k operation) s = if is_same i k then entered (giver_at i s) operation else silence
effect_lets i (Byte k operation) s = if is_same i k then bytes_entered (giver_at i s) operation else silence
effect_lets i _ s = silence

-- and a step
abbrev pub step_lets : StreamId → Slots → Entry → Told Value
step_lets i s x = in_step silence then_told (effect_lets i) s x

abbrev pub EachJobLetsIn : Type 0
EachJobLetsIn =
    (entries : List Entry) (i : StreamId) → let s : Slots = run entries empty in has_source i s ≡ true → IsHosts s (owner_at i s)
    → (step_lets i s Worked ≡ silence) ⊎ (step_lets i s Worked ≡ next_enters (giver_at i s) (next_job s.promises))

-- a call that enqueues lets its chunk in where it is answered Done; else it lets in nothing, and what lies in the source has come to an end, or
-- the source lets in no such chunk
pub record EnqueueLetsIn (i : StreamId) (v : Value) (s : Slots) : Type 0 where
  pub done : reply_to (EnqueueCall i v) s ≡ Done → step_lets i s (Called (EnqueueCall i v)) ≡ told (v ∷ []) Open
  pub throws : reply_to (EnqueueCall i v) s ≢ Done
      → (step_lets i s (Called (EnqueueCall i v)) ≡ silence) × ((lets_in (giver_at i s) v ≡ silence) ⊎ ((in_source (source_at i s)).mark ≢ Open))

abbrev pub EachEnqueueLetsIn : Type 0
EachEnqueueLetsIn =
    (entries : List Entry) (i : StreamId) (v : Value) → let s : Slots = run entries empty in has_source i s ≡ true → IsHosts s (owner_at i s)
    → EnqueueLetsIn i v s
