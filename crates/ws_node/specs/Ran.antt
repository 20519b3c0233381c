-- A realm to which calls of a node led, but for promises that nobody needs, and how the pipe of its last link ends.
use Rattle.std.specs.Prelude.{◌≡◌, ◌≤◌, ℕ, true, is_some, List, [], Some, All, Contains}
use Rattle.ws_value.specs.declared.ids.PromiseId.{PromiseId}
use Rattle.ws_value.specs.declared.value.Outcome.TheVariants.{Fulfilled, Rejected}
use Rattle.ws_value.specs.declared.value.Plain.{Plain}
use Rattle.ws_steps.specs.declared.calls.Call.{Call}
use Rattle.ws_steps.specs.declared.calls.Call.TheVariants.{Enqueue, Finish, Fail, Trigger, Deliver, Settle}
use Rattle.ws_steps.specs.Promises.{outcome_at, rank_at}
use Rattle.ws_steps.specs.Run.{Entry, Called, Worked, Heard, run}
use Rattle.ws_steps.specs.Slots.{Slots, empty}
use Rattle.ws_alike.specs.Alike.{Alike}
use Rattle.ws_reason_laws.specs.Origins.{through}
use Rattle.ws_reason_laws.specs.Reasons.{failures}
use Rattle.ws_wire_laws.specs.Wire.{IsWired}
use Rattle.ws_chain_laws.specs.Chain.{ToSink, source_of}
use Rattle.ws_chain_laws.specs.Opening.{promise_of}
use Rattle.ws_chain_laws.specs.Outcomes.{past_of, IsClosedWell}
use Rattle.ws_clone_laws.specs.Cloning.{AllBringClones}
use Rattle.ws_node.specs.Shape.{Shape, count_in, links_in}

-- a call of a node with so many transform streams: it settles a call of its algorithms, enqueues, finishes or fails the source of one of its links,
-- triggers a signal, or delivers a message to a port
abbrev pub IsOwn : ℕ → Call → Type 0
IsOwn n (Settle h answer) = Unit {0}
IsOwn n (Enqueue i v) = Unit {0}
IsOwn n (Finish i) = (k : ℕ) × (k ≤ n) × (i ≡ source_of k)
IsOwn n (Fail i reason) = (k : ℕ) × (k ≤ n) × (i ≡ source_of k)
IsOwn n (Trigger a reason) = Unit {0}
IsOwn n (Deliver c m) = Unit {0}
IsOwn n _ = ⊥

-- with jobs, and events that it hears of
abbrev pub IsOwnEntry : ℕ → Entry → Type 0
IsOwnEntry n (Called c) = IsOwn n c
IsOwnEntry n Worked = Unit {0}
IsOwnEntry n Heard = Unit {0}

-- it began with the calls that open the shape, and since then had calls of its own, jobs and events
pub record IsOpenedBy (shape : Shape) (past : List Entry) : Type 0 where
  pub since : List Entry
  pub is : past ≡ past_of shape.origin shape.target (count_in shape) shape.aborted since
  pub own : All (IsOwnEntry (count_in shape)) since

-- all this led to slots to which those of the realm are alike: the links are those of the shape, nothing came through a transform stream, and there is
-- no tee
pub record HasRun (shape : Shape) (past : List Entry) (s : Slots) : Type 0 where
  pub opened : IsOpenedBy shape past
  pub slots : Alike s (run past empty)
  pub wired : IsWired (links_in shape) (run past empty)
  pub quiet : through past empty ≡ []
  pub teeless : s.tees ≡ []

-- after these entries the pipe of the last link has this promise, which is watched, and how that settled (as `each_chain_ends` and, of the reasons,
-- `each_node_clones` have it)
pub record PipeEnds (shape : Shape) (past : List Entry) (q : PromiseId) : Type 0 where
  pub its : promise_of (count_in shape) (run past empty) ≡ q
  pub watched : is_some (rank_at (run past empty).promises q) ≡ true
  pub rejected : (r : Plain) → AllBringClones past → outcome_at (run past empty).promises q ≡ Some (Rejected r) → Contains (failures past) r
  pub fulfilled : (v : Plain) → shape.target ≡ ToSink → outcome_at (run past empty).promises q ≡ Some (Fulfilled v) → IsClosedWell (count_in shape) past
