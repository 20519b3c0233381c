-- How the realm of a node is made: the source, a transform stream for each stage, and the sink; a signal where the run is aborted after some bytes;
-- and then the pipes, in order, of which the last one has the signal. The calls are those that open a chain.
use Rattle.std.specs.Prelude.{◌≡◌, ℕ, zero, suc, ℤ, List, [], ◌∷◌, Option, Some, None, nat_abs}
use Rattle.ws_value.specs.declared.ids.PromiseId.{PromiseId}
use Rattle.ws_flow.specs.declared.plan.Plan.{Plan}
use Rattle.ws_flow.specs.declared.plan.Stage.{Stage}
use Rattle.ws_flow.specs.Plans.{refusal}
use Rattle.ws_stages.specs.State.{State, begun}
use Rattle.ws_steps.specs.declared.calls.Call.{Call}
use Rattle.ws_steps.specs.declared.calls.Reply.{Reply}
use Rattle.ws_steps.specs.declared.calls.Reply.TheVariants.{Promise}
use Rattle.ws_steps.specs.Run.{Entry, reply_to, after_call}
use Rattle.ws_steps.specs.Slots.{Slots}
use Rattle.ws_chain_laws.specs.Opening.{piping, made}
use Rattle.ws_chain_laws.specs.Chain.{dest_of}
use Rattle.ws_chain_laws.specs.Outcomes.{past_of, last_promise}
use Rattle.ws_realm.specs.Seen.{SeenRealm}
use Rattle.ws_node.specs.declared.making.Opened.{Opened}
use Rattle.ws_node.specs.declared.node.Abort.{Abort}
use Rattle.ws_node.specs.Shape.{Shape, count_in}

-- a plan that isn't refused
abbrev pub IsAccepted : Plan → Type 0
IsAccepted plan = refusal plan ≡ None

-- a call was performed
pub record Begins (c : Call) (old new : SeenRealm) (reply : Reply) : Type 0 where
  pub reply_is : reply ≡ reply_to c old.slots
  pub slots : new.slots ≡ after_call c old.slots

-- a call answers a promise
abbrev pub IsPromise : Reply → Type 0
IsPromise (Promise p) = Unit {0}
IsPromise _ = ⊥

-- the calls that open the realm
abbrev pub opening_by : Shape → List Entry
opening_by shape = past_of shape.origin shape.target (count_in shape) shape.aborted []

-- the promises of the pipes before the last, each by the reply that named it

abbrev pub AreAnswered : ℕ → ℕ → Slots → List PromiseId → Type 0
AreAnswered k zero s ps = ps ≡ []
AreAnswered k (suc n) s [] = ⊥
AreAnswered k (suc n) s (p ∷ ps) =
    (reply_to (piping None k) s ≡ Promise p) × AreAnswered (suc k) n (after_call (piping None k) s) ps

abbrev pub AreAnsweredOf : Shape → List PromiseId → Type 0
AreAnsweredOf shape ps = AreAnswered 0 (count_in shape) (made shape.origin shape.target (count_in shape) shape.aborted) ps

-- so many pipes from this number on can be made
abbrev pub CanPipe : ℕ → ℕ → Slots → Type 0
CanPipe k zero s = Unit {0}
CanPipe k (suc n) s = IsPromise (reply_to (piping None k) s) × CanPipe (suc k) n (after_call (piping None k) s)

-- the stages at their beginning
abbrev pub all_begun : List Stage → List State
all_begun [] = []
all_begun (s ∷ ss) = begun s ∷ all_begun ss

-- what the abort of a run is at first
abbrev pub abort_of : Option ℤ → Option Abort
abort_of None = None
abort_of (Some after) = Some (record { signal = record { 0 = 0 }; left = nat_abs after })

-- what a node of this shape has of its realm once that is opened
pub record IsOpened (shape : Shape) (after : Option ℤ) (x : Opened) : Type 0 where
  pub stages : x.stages.items ≡ all_begun shape.stages
  pub abort : x.abort ≡ abort_of after
  pub pipes : AreAnsweredOf shape x.pipes_before.items
  pub pipe : x.pipe ≡ last_promise shape.origin shape.target (count_in shape) shape.aborted
  pub sink : x.sink ≡ dest_of (count_in shape)
