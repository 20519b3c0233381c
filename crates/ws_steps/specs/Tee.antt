-- A tee of a readable stream with a default controller (ReadableStreamDefaultTee). It has a reader of the stream, its source, and two
-- branches, which are streams of their own, and whose pull and cancel algorithms are its operations. Each operation is a function of the
-- tee's slots and of what it leaves outside them: the promises, and the effects that it causes, in order. `me` is the tee's own number, by
-- which an effect names it.
use Rattle.std.specs.Prelude.{Bool, true, false, not, ◌&&◌, ◌||◌, is_none, if◌then◌else◌, List, [], ◌∷◌, ◌++◌, Option, Some, None, Result, Ok, Err}
use Rattle.ws_value.specs.declared.ids.PromiseId.{PromiseId}
use Rattle.ws_value.specs.declared.ids.StreamId.{StreamId}
use Rattle.ws_value.specs.declared.ids.TeeId.{TeeId}
use Rattle.ws_value.specs.declared.value.Plain.{Plain}
use Rattle.ws_value.specs.declared.value.Plain.TheVariants.{Undefined, Pair}
use Rattle.ws_value.specs.declared.value.Value.{Value}
use Rattle.ws_steps.specs.declared.effects.Effect.{Effect}
use Rattle.ws_steps.specs.declared.effects.Effect.TheVariants.{Readable as OnReadable, Tee as OnTee, Give, Settle}
use Rattle.ws_steps.specs.declared.effects.Gift.TheVariants.{This}
use Rattle.ws_steps.specs.declared.effects.Use.{Use}
use Rattle.ws_steps.specs.declared.effects.Use.TheVariants.{Resolve}
use Rattle.ws_steps.specs.declared.promises.Micro.{Micro}
use Rattle.ws_steps.specs.declared.promises.Micro.TheVariants.{TeeHand}
use Rattle.ws_steps.specs.declared.readable.ReadRequest.TheVariants.{Tee as TeeRequest}
use Rattle.ws_steps.specs.declared.readable.ReadableOperation.{ReadableOperation}
use Rattle.ws_steps.specs.declared.readable.ReadableOperation.TheVariants.{Read, Cancel, Enqueue as EnqueueChunk, Close as CloseReadable, Error as ErrorReadable}
use Rattle.ws_steps.specs.declared.tee.Half.{Half}
use Rattle.ws_steps.specs.declared.tee.Half.TheVariants.{First, Second}
use Rattle.ws_steps.specs.declared.tee.TeeOperation.TheVariants.{Handed}
use Rattle.ws_steps.specs.declared.tee.TeePhase.{TeePhase}
use Rattle.ws_steps.specs.declared.tee.TeePhase.TheVariants.{Resting, Reading, Over}
use Rattle.ws_steps.specs.Promises.{next_id, fresh, queue_micro}
use Rattle.ws_steps.specs.Effects.{Out, cause_all}

-- the slots of a tee
pub record Slots : Type 0 where
  pub source : StreamId
  pub branch1 : StreamId
  pub branch2 : StreamId
  -- how it stands to its source: no read is under way, one is or its chunk is still to be handed on, or none follows
  pub phase : TeePhase
  -- whether a branch asked for a chunk while a read was under way
  pub read_again : Bool
  -- the chunk that was read and isn't handed to the branches yet
  pub held : Option Value
  -- the reason of each branch that was cancelled
  pub reason1 : Option Plain
  pub reason2 : Option Plain
  -- the cancel promise, and whether it was settled or resolved
  pub cancel : PromiseId
  pub answered : Bool

-- what an operation changes
pub record Acts : Type 0 where
  pub slots : Slots
  pub out : Out

-- a new tee
abbrev pub set_up : StreamId → StreamId → StreamId → PromiseId → Slots
set_up source branch1 branch2 cancel =
    record {
      source = source;
      branch1 = branch1;
      branch2 = branch2;
      phase = Resting;
      read_again = false;
      held = None;
      reason1 = None;
      reason2 = None;
      cancel = cancel;
      answered = false;
    }

-- effects after the others
abbrev pub causing : List Effect → Acts → Acts
causing effects a = record a { out = cause_all effects a.out }

abbrev pub with_slots : Slots → Acts → Acts
with_slots s a = record a { slots = s }

abbrev pub queueing : Micro → Acts → Acts
queueing m a = record a { out = record a.out { promises = queue_micro m a.out.promises } }

-- something is done with a new promise
abbrev pub with_fresh : (PromiseId → Acts → Acts) → Acts → Acts
with_fresh operation a = operation (next_id a.out.promises) (record a { out = record a.out { promises = fresh a.out.promises } })

-- a result that is undefined
abbrev pub done : Result Plain Plain
done = Ok Undefined

-- the branches

-- the reason with which this branch was cancelled, where it was
abbrev pub reason_of : Half → Slots → Option Plain
reason_of First s = s.reason1
reason_of Second s = s.reason2

abbrev pub with_reason : Half → Plain → Slots → Slots
with_reason First r s = record s { reason1 = Some r }
with_reason Second r s = record s { reason2 = Some r }

-- whether a branch isn't cancelled
abbrev pub is_wanted : Slots → Bool
is_wanted s = is_none s.reason1 || is_none s.reason2

abbrev pub unless_cancelled : Option Plain → StreamId → ReadableOperation → List Effect
unless_cancelled None i operation = OnReadable i operation ∷ []
unless_cancelled (Some r) i operation = []

-- an operation of each branch that isn't cancelled, the first branch first
abbrev pub on_branches : ReadableOperation → Slots → List Effect
on_branches operation s =
    unless_cancelled s.reason1 s.branch1 operation ++ unless_cancelled s.reason2 s.branch2 operation

-- the reasons of both branches, where both were cancelled
abbrev pub pair_of : Option Plain → Option Plain → Option (Plain × Plain)
pair_of None second = None
pair_of (Some r) None = None
pair_of (Some r) (Some q) = Some (r, q)

abbrev pub pair : Slots → Option (Plain × Plain)
pair s = pair_of s.reason1 s.reason2

-- where a branch isn't cancelled, the cancel promise is fulfilled, unless it was settled or resolved
abbrev pub fulfil_cancel : Acts → Acts
fulfil_cancel a =
    if is_wanted a.slots && not a.slots.answered
    then causing (Settle a.slots.cancel done ∷ []) (with_slots (record a.slots { answered = true }) a)
    else a

-- reading

abbrev pub pull_in : TeeId → Acts → TeePhase → Acts
pull_in me a Resting =
    causing (OnReadable a.slots.source (Read (TeeRequest me)) ∷ []) (with_slots (record a.slots { phase = Reading }) a)
pull_in me a Reading = with_slots (record a.slots { read_again = true }) a
pull_in me a Over = a

-- the pull algorithm of a branch: where a read is under way, read again after it; else read. Its promise is resolved with undefined. Once a
-- read found that the source has ended, a further one would find the same
unfoldable pub pull_branch : TeeId → Acts → Acts
pull_branch me a = pull_in me a a.slots.phase

-- the chunk steps of its read request: keep the chunk, and queue a microtask that hands it to the branches
unfoldable pub keep_chunk : TeeId → Value → Acts → Acts
keep_chunk me v a = queueing (TeeHand me) (with_slots (record a.slots { held = Some v }) a)

abbrev pub close_branches : Acts → Acts
close_branches a =
    fulfil_cancel (causing (on_branches CloseReadable a.slots) (with_slots (record a.slots { phase = Over }) a))

abbrev pub close_in : Acts → TeePhase → Acts
close_in a Resting = close_branches a
close_in a Reading = close_branches a
close_in a Over = a

-- the close steps of its read request: no read is under way. ReadableStreamDefaultControllerClose on each branch that isn't cancelled;
-- where one isn't, fulfil the cancel promise
unfoldable pub source_closed : Acts → Acts
source_closed a = close_in a a.slots.phase

-- the error steps of its read request: no read is under way
unfoldable pub source_errored : Acts → Acts
source_errored a = with_slots (record a.slots { phase = Over }) a

abbrev pub hand_held : TeeId → Acts → Option Value → Acts
hand_held me a None = a
hand_held me a (Some v) =
    causing (on_branches (EnqueueChunk v) a.slots ++ OnTee me Handed ∷ [])
    (with_slots (record a.slots { held = None; read_again = false }) a)

-- the microtask of a chunk: none asked for another yet. ReadableStreamDefaultControllerEnqueue of the chunk on branch 1, where it isn't
-- cancelled, and then on branch 2. And then `handed`
unfoldable pub hand_chunk : TeeId → Acts → Acts
hand_chunk me a = hand_held me a a.slots.held

abbrev pub rested : TeePhase → TeePhase
rested Resting = Resting
rested Reading = Resting
rested Over = Over

abbrev pub again : TeeId → Acts → Bool → Acts
again me a true = pull_branch me a
again me a false = a

-- the rest of it: no read is under way; where a branch asked for a chunk meanwhile, the pull algorithm
unfoldable pub handed : TeeId → Acts → Acts
handed me a = again me (with_slots (record a.slots { phase = rested a.slots.phase }) a) a.slots.read_again

-- cancelling

-- the cancel promise is resolved with this one, unless it was settled or resolved
abbrev pub resolve_cancel : PromiseId → Acts → Acts
resolve_cancel p a =
    if a.slots.answered
    then a
    else causing (Give (This p) (Resolve a.slots.cancel) ∷ []) (with_slots (record a.slots { answered = true }) a)

-- ReadableStreamCancel of the source with the pair of the reasons, and the cancel promise is resolved with its promise, which is new
abbrev pub cancel_source : TeeId → Acts → Acts
cancel_source me a = with_fresh (λ p b. resolve_cancel p (causing (OnReadable b.slots.source (Cancel (Pair me) p) ∷ []) b)) a

abbrev pub if_both : TeeId → Acts → Acts
if_both me a = if is_wanted a.slots then a else cancel_source me a

abbrev pub cancel_by : TeeId → Half → Plain → Acts → Option Plain → Acts
cancel_by me half r a (Some old) = a
cancel_by me half r a None = if_both me (with_slots (with_reason half r a.slots) a)

-- the cancel algorithm of a branch, which isn't performed twice: its reason is kept. Where the other branch was cancelled too, the source is.
-- The result is the cancel promise
unfoldable pub cancel_branch : TeeId → Half → Plain → Use → Acts → Acts
cancel_branch me half r u a =
    causing (Give (This a.slots.cancel) u ∷ []) (cancel_by me half r a (reason_of half a.slots))

-- the closed promise of its reader

-- on rejection: ReadableStreamDefaultControllerError on branch 1, and then on branch 2; where one isn't cancelled, fulfil the cancel promise
unfoldable pub reader_settled : Result Plain Plain → Acts → Acts
reader_settled (Ok v) a = a
reader_settled (Err r) a =
    fulfil_cancel (causing (OnReadable a.slots.branch1 (ErrorReadable r) ∷ OnReadable a.slots.branch2 (ErrorReadable r) ∷ []) a)
