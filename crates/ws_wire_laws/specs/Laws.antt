-- The laws of any links of one realm, for all of them at once; and that what moves one of them leaves the others alone.
use Rattle.std.specs.Prelude.{◌≡◌, true, List, [], ◌∷◌, ◌++◌, Option, Some, None, ◌≤◌, ◌⊎◌}
use Rattle.ws_value.specs.declared.value.Value.{Value}
use Rattle.ws_steps.specs.declared.calls.Call.{Call}
use Rattle.ws_steps.specs.declared.calls.Event.{Event}
use Rattle.ws_steps.specs.Promises.{next_job}
use Rattle.ws_steps.specs.Run.{Entry, run, after_call, after_job, after_event, first_event}
use Rattle.ws_steps.specs.Slots.{Slots}
use Rattle.ws_flow.specs.Told.{Told, then_told, IsShortOf}
use Rattle.ws_link_laws.specs.Link.{silence, leaves, next_enters}
use Rattle.ws_link_laws.specs.Laws.{all_leave, run_heard, run_enters}
use Rattle.ws_link_laws.specs.Room.{taken_places}
use Rattle.ws_wire_laws.specs.Wire.{Joint, IsJoint, Each, IsWired, behind_on, call_on, heard_on, AreTwo}

pub record KeepsJoint (s : Slots) (entries : List Entry) (x : Joint) : Type 0 where
  pub joint : IsJoint x (run entries s)
  pub short : IsShortOf (then_told (run_heard x.into entries s) (behind_on x (run entries s))) (then_told (behind_on x s) (run_enters x.from entries s))

abbrev pub EachWiringKeeps : Type 0
EachWiringKeeps =
    (xs : List Joint) (s : Slots) (entries : List Entry) → IsWired xs s → Each (λ x. all_leave x.from x.into entries ≡ true) xs → Each (KeepsJoint s entries) xs

-- by a call the host hears of nothing
pub record KeepsBehind (s z : Slots) (entered : Joint → Told Value) (x : Joint) : Type 0 where
  pub joint : IsJoint x z
  pub short : IsShortOf (behind_on x z) (then_told (behind_on x s) (entered x))

abbrev pub EachCallKeepsWiring : Type 0
EachCallKeepsWiring = (xs : List Joint) (s : Slots) (c : Call) → IsWired xs s → Each (λ x. leaves x.from x.into c ≡ true) xs → Each (KeepsBehind s (after_call c s) (λ x. call_on x c)) xs

abbrev pub EachJobKeepsWiring : Type 0
EachJobKeepsWiring = (xs : List Joint) (s : Slots) → IsWired xs s → Each (KeepsBehind s (after_job s) (λ x. next_enters x.gives (next_job s.promises))) xs

-- what the next event tells of it
abbrev pub next_on : Joint → Option Event → Told Value
next_on x None = silence
next_on x (Some e) = heard_on x e

-- the taking of an event brings nothing
pub record KeepsHeard (s : Slots) (x : Joint) : Type 0 where
  pub joint : IsJoint x (after_event s)
  pub short : IsShortOf (then_told (next_on x (first_event s.promises.events)) (behind_on x (after_event s))) (behind_on x s)

abbrev pub EachEventKeepsWiring : Type 0
EachEventKeepsWiring = (xs : List Joint) (s : Slots) → IsWired xs s → Each (KeepsHeard s) xs

abbrev pub EachWiringHasRoom : Type 0
EachWiringHasRoom = (xs : List Joint) (s : Slots) → IsWired xs s → Each (λ x. taken_places x.from x.into x.pipe s ≤ 1) xs

-- several chains in one realm: what is wired is wired in parts
pub record AreWiredApart (xs ys : List Joint) (s : Slots) : Type 0 where
  pub both : IsWired (xs ++ ys) s → IsWired xs s × IsWired ys s
  pub whole : IsWired xs s → IsWired ys s → IsWired (xs ++ ys) s

abbrev pub EachPartIsWired : Type 0
EachPartIsWired = (xs ys : List Joint) (s : Slots) → AreWiredApart xs ys s

pub record MovesOne (x y : Joint) : Type 0 where
  pub call : (c : Call) → (call_on x c ≡ silence) ⊎ (call_on y c ≡ silence)
  pub event : (e : Event) → (heard_on x e ≡ silence) ⊎ (heard_on y e ≡ silence)

abbrev pub EachStepMovesOneLink : Type 0
EachStepMovesOneLink = (x y : Joint) → AreTwo x y → MovesOne x y

-- any two of these
abbrev pub AreAllTwo : List Joint → Type 0
AreAllTwo [] = Unit {0}
AreAllTwo (x ∷ xs) = Each (AreTwo x) xs × AreAllTwo xs
