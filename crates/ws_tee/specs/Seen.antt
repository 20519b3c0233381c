-- What is seen of the record of a tee.
use Rattle.std.specs.Prelude.{◌≡◌, Bool, true, ◌&&◌, is_none, is_some, Option, Some, None, ⊤}
use Rattle.ws_value.specs.declared.value.Value.{Value}
use Rattle.ws_promise.specs.Seen.{Seen, SeenAgenda, out_of, HasPromiseRoom, HasJobRoom}
use Rattle.ws_steps.specs.declared.tee.TeeOperation.{TeeOperation}
use Rattle.ws_steps.specs.declared.tee.TeeOperation.TheVariants.{HandChunk}
use Rattle.ws_steps.specs.Places.{own_tee, promises_alone, jobs_alone}
use Rattle.ws_steps.specs.Tee.{Slots, Acts}

-- a tee, and whether it has the second copy of the chunk that it holds
pub record SeenTee : Type 0 where
  pub slots : Slots
  pub copied : Bool

-- a second copy is of the chunk that is held
abbrev pub IsCopy : Option Value → Option Value → Type 0
IsCopy None held = ⊤
IsCopy (Some v) held = held ≡ Some v

-- whether the chunk that it holds goes to both branches
abbrev pub goes_to_both : Slots → Bool
goes_to_both s = is_some s.held && (is_none s.reason1 && is_none s.reason2)

-- what it holds can be handed on: there is a copy for each branch
abbrev pub CanHand : SeenTee → Type 0
CanHand t = goes_to_both t.slots ≡ true → t.copied ≡ true

-- a tee, the promises and the agenda, as an operation of the tee finds and leaves them
abbrev pub acts_of : Slots → Seen → SeenAgenda → Acts
acts_of s p fx = record { slots = s; out = out_of p fx }

-- what an operation needs of the copy
abbrev pub CanPerform : TeeOperation → SeenTee → Type 0
CanPerform HandChunk t = CanHand t
CanPerform _ t = ⊤

-- there are places for what an operation of a tee takes by itself
pub record HasRoomFor (operation : TeeOperation) (p : Seen) : Type 0 where
  pub promises : HasPromiseRoom (own_tee promises_alone operation) p
  pub jobs : HasJobRoom (own_tee jobs_alone operation) p
