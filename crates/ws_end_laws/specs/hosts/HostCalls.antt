-- The calls of host algorithms that a run made, and which of them the host settled well.
use Rattle.std.specs.Prelude.{ℕ, ◌≡◌, if◌then◌else◌, List, [], ◌∷◌, ◌++◌, length, Some, slice_get}
use Rattle.ws_value.specs.declared.ids.HostId.{HostId}
use Rattle.ws_value.specs.declared.ids.StreamId.{StreamId}
use Rattle.ws_value.specs.declared.value.Value.{Value}
use Rattle.ws_steps.specs.declared.calls.Answer.TheVariants.{Ok as AnswerOk}
use Rattle.ws_steps.specs.declared.calls.Call.{Call}
use Rattle.ws_steps.specs.declared.calls.Call.TheVariants.{Settle}
use Rattle.ws_steps.specs.declared.calls.Event.{Event}
use Rattle.ws_steps.specs.declared.calls.Event.TheVariants.{Host}
use Rattle.ws_steps.specs.declared.calls.HostCall.{HostCall}
use Rattle.ws_steps.specs.declared.calls.HostCall.TheVariants.{Write}
use Rattle.ws_steps.specs.declared.calls.Reply.TheVariants.{Done}
use Rattle.ws_steps.specs.declared.effects.Effect.{Effect}
use Rattle.ws_steps.specs.declared.effects.Effect.TheVariants.{CallHost}
use Rattle.ws_steps.specs.Slots.{Slots, empty}
use Rattle.ws_steps.specs.Run.{Entry, Called, run, reply_to}
use Rattle.ws_steps.specs.Histories.{is_same, in_step, over}

-- the calls of host algorithms, in order: by an effect, in a step, and in a run

abbrev pub effect_called : Effect → Slots → List HostCall
effect_called (CallHost call u) s = call ∷ []
effect_called _ s = []

abbrev pub step_called : Slots → Entry → List HostCall
step_called s x = in_step [] ◌++◌ effect_called s x

abbrev pub run_called : List Entry → Slots → List HostCall
run_called xs s = over [] ◌++◌ step_called xs s

-- in a run from the empty realm; the number of a call is its place here
abbrev pub called : List Entry → List HostCall
called entries = run_called entries empty

-- an event that tells of a call of a host algorithm has the number of this call
abbrev pub IsItsCall : List HostCall → Event → Type 0
IsItsCall calls (Host id call) = slice_get calls id.0 ≡ Some call
IsItsCall calls _ = Unit {0}

-- what holds of each event
abbrev pub AllEvents : (Event → Type 0) → List Event → Type 0
AllEvents P [] = Unit {0}
AllEvents P (e ∷ es) = P e × AllEvents P es

-- the call by which the host settles the promise of a host call well
abbrev pub settles_well : HostId → Call
settles_well id = Settle id AnswerOk

-- In a run the host settled this host call well: by a call that was answered, of the number of a host call which was this one
pub record WasSettledWell (entries : List Entry) (call : HostCall) : Type 0 where
  pub before : List Entry
  pub after : List Entry
  pub id : HostId
  pub settles : entries ≡ before ++ Called (settles_well id) ∷ after
  pub answered : reply_to (settles_well id) (run before empty) ≡ Done
  pub called : slice_get (called before) id.0 ≡ Some call

-- the values of the calls of the write algorithm of stream j, in their order

abbrev pub write_of : StreamId → HostCall → List Value
write_of j (Write i v) = if is_same j i then v ∷ [] else []
write_of j _ = []

abbrev pub writes_of : StreamId → List HostCall → List Value
writes_of j [] = []
writes_of j (c ∷ cs) = write_of j c ++ writes_of j cs

-- In a run the host settled the call of the write algorithm of stream j well that is the one of number n, from 0 on: by a call that was answered, of
-- the number of this host call
pub record WriteWasSettledWell (entries : List Entry) (j : StreamId) (n : ℕ) : Type 0 where
  pub before : List Entry
  pub after : List Entry
  pub id : HostId
  pub settles : entries ≡ before ++ Called (settles_well id) ∷ after
  pub answered : reply_to (settles_well id) (run before empty) ≡ Done
  pub first : List HostCall
  pub value : Value
  pub rest : List HostCall
  pub calls : called before ≡ first ++ Write j value ∷ rest
  pub number : id.0 ≡ length first
  pub rank : length (writes_of j first) ≡ n
