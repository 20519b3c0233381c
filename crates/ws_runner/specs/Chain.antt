-- How a run with workers ends, by how its nodes went, what they sent each other, and the status of the last one.
use Rattle.std.specs.Prelude.{◌≡◌, ◌⊎◌, ◌+◌, ◌≤◌, pos, int_le, false, length, Some}
use Rattle.std.specs.List.{concat}
use Rattle.ws_value.specs.declared.fault.Fault.TheVariants.{NoMemory}
use Rattle.ws_value.specs.declared.value.Outcome.TheVariants.{Rejected}
use Rattle.ws_value.specs.declared.value.Plain.{Plain}
use Rattle.ws_value.specs.declared.value.Plain.TheVariants.{Fault as FaultReason}
use Rattle.ws_flow.specs.declared.plan.Plan.{Plan}
use Rattle.ws_io.specs.Gain.{Got}
use Rattle.ws_io.specs.Moment.{Moment}
use Rattle.ws_io.specs.declared.status.Status.{Status}
use Rattle.ws_node.specs.Ends.{Ends, EndsAs, IsNamed}
use Rattle.ws_node.specs.Node.{outcome_of_pipe, sent_at}
use Rattle.ws_node.specs.Nodes.{AllGo, AllHaveMet, AreNew, Nodes}
use Rattle.ws_node.specs.Opening.{IsAccepted}
use Rattle.ws_node.specs.Past.{Driven}
use Rattle.ws_node.specs.Rules.{pieces_in}

-- the nodes of a run, from their making to its end, and its status
pub record HasEnded (plan : Plan) (status : Status) (a b : Nodes) (old new : Moment) (got got' : Got) : Type 0 where
  pub begun : AreNew plan a
  pub went : AllGo a b old new got got'
  pub met : AllHaveMet b.head.exit.below b.middles b.tail.entrance.above
  pub head : Driven b.head
  pub tail : Driven b.tail
  pub status_is : EndsAs (Some status) b.tail

-- `got` tells for what lists each output stands
abbrev pub EachChainEnds : {K : Type 0} → (K → Got) → Type 0
EachChainEnds {K} got =
    (plan : Plan) (status : Status) (a b : Nodes) (old new : Moment) (k₀ k₁ : K) → IsAccepted plan → int_le plan.workers (pos 0) ≡ false
    → HasEnded plan status a b old new (got k₀) (got k₁) → Ends status plan old new (got k₀) (got k₁)

-- the pipe of its last node may be rejected with a named reason, or since no memory was to be had
abbrev pub EachChainNamesItsReason : {K : Type 0} → (K → Got) → Type 0
EachChainNamesItsReason {K} got =
    (plan : Plan) (status : Status) (a b : Nodes) (old new : Moment) (k₀ k₁ : K) (r : Plain) → IsAccepted plan → int_le plan.workers (pos 0) ≡ false
    → HasEnded plan status a b old new (got k₀) (got k₁) → outcome_of_pipe b.tail.core ≡ Some (Rejected r) → IsNamed r ⊎ (r ≡ FaultReason NoMemory)

-- what its first node took is at most 8,192 bytes longer than what it sent down the first edge, which is part of it
pub record ReadsLittleAhead (ns : Nodes) : Type 0 where
  pub part : length (concat (pieces_in (sent_at ns.head.exit.below))) ≤ ns.head.entrance.taken
  pub near : ns.head.entrance.taken ≤ length (concat (pieces_in (sent_at ns.head.exit.below))) + 8192

abbrev pub EachChainReadsLittleAhead : {K : Type 0} → (K → Got) → Type 0
EachChainReadsLittleAhead {K} got =
    (plan : Plan) (status : Status) (a b : Nodes) (old new : Moment) (k₀ k₁ : K) → HasEnded plan status a b old new (got k₀) (got k₁) → ReadsLittleAhead b
