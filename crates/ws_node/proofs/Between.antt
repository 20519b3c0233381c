-- The edge between two nodes is legal and keeps its credit, by what each of them gave its end.
use Rattle.std.proofs.Common.{◌≡◌, ◌≤◌, Bool, true, false, if◌then◌else◌, List, [], ◌∷◌, length, All, refl, subst, length-append, arith}
use Rattle.std.proofs.lemmas.List.Elements.{All-head, All-tail}
use Rattle.ws_value.specs.declared.fault.Fault.TheVariants.{TypeError}
use Rattle.ws_value.specs.declared.value.Message.{Message}
use Rattle.ws_value.specs.declared.value.Message.TheVariants.{Pull, Chunk, Close, Error}
use Rattle.ws_value.specs.declared.value.Plain.{Plain}
use Rattle.ws_value.specs.declared.value.Plain.TheVariants.{Fault as FaultReason}
use Rattle.ws_steps.specs.PortHistory.{asks_in, chunk_in, chunks_in, goes_up, is_asking}
use Rattle.ws_node_laws.specs.Edges.{Edge, IsLegal as IsLegalEdge, IsCredited}
use Rattle.ws_node_laws.proofs.Edges.{each_edge_has_few}
use Rattle.ws_node.specs.declared.node.Node.{Node}
use Rattle.ws_node.specs.Messages.{as_fair, fairly, is_fair, is_fair_reason}
use Rattle.ws_node.specs.Node.{received_at, sent_at, waiting_at}
use Rattle.ws_node.specs.Past.{Driven}
use Rattle.ws_node.specs.Rules.{edge_between, HasMet, EachEdgeKeepsRules}
use Rattle.ws_node.proofs.Credit.{each_node_keeps_credit}
use Rattle.ws_node.proofs.Firsts.{all-left, chunks-left, pulls-left}
use Rattle.ws_node.proofs.Legal.{each_node_is_legal}

-- of what goes up each message asks as much however it is taken

abbrev ups : Message → Type 0
ups m = goes_up m ≡ true

error-by : (b : Bool) (r s : Plain) → is_asking (if b then Error r else Error s) ≡ 1
error-by true r s = refl
error-by false r s = refl

asks-as : (m : Message) → goes_up m ≡ true → is_asking (as_fair m) ≡ is_asking m
asks-as Pull h = refl
asks-as (Chunk v) h = cc
asks-as Close h = cc
asks-as (Error r) h = error-by (is_fair_reason r) r (FaultReason TypeError)

pub asks-fairly : (ms : List Message) → All ups ms → asks_in (fairly ms) ≡ asks_in ms
asks-fairly [] a = refl
asks-fairly (m ∷ ms) a =
    let h = asks-as m (All-head ups m ms a) in
    let k = asks-fairly ms (All-tail ups m ms a) in
    omega (arith, h, k)

-- and no more chunks come than were sent

chunk-by : (b : Bool) (m : Message) (r : Plain) → length (chunk_in (if b then m else Error r)) ≤ length (chunk_in m)
chunk-by true m r = omega arith
chunk-by false m r = omega arith

pub chunks-fairly : (ms : List Message) → length (chunks_in (fairly ms)) ≤ length (chunks_in ms)
chunks-fairly [] = omega arith
chunks-fairly (m ∷ ms) =
    let h = chunk-by (is_fair m) m (FaultReason TypeError) in
    let k = chunks-fairly ms in
    simp length-append (omega (arith, h, k))

module _ (upper lower : Node) (above : Driven upper) (below : Driven lower) (met : HasMet (edge_between upper lower)) where
  abbrev edge : Edge
  edge = edge_between upper lower

  legal : IsLegalEdge edge
  legal =
      let down = (each_node_is_legal upper above).posted_down in
      let up = (each_node_is_legal lower below).posted_up in
      let m = met in
      record {
        down = record { rest = m.down.0; front = m.down.1; last = down.last; kinds = down.kinds };
        up = record { rest = m.up.0; front = m.up.1; last = up.last; kinds = up.kinds };
      }

  credit : IsCredited edge
  credit =
      let chunks = (each_node_keeps_credit upper above).chunks in
      let pulls = (each_node_keeps_credit lower below).pulls in
      let m = met in
      let kinds = (each_node_is_legal lower below).posted_up.kinds in
      let taken : All ups (received_at upper.exit.below) = all-left ups (received_at upper.exit.below) m.up.0 (subst (All ups) m.up.1 kinds) in
      let a = asks-fairly (received_at upper.exit.below) taken in
      let b = chunks-fairly (received_at lower.entrance.above) in
      let c = chunks-left (sent_at upper.exit.below) (waiting_at upper.exit.below) in
      let d = pulls-left (sent_at lower.entrance.above) (waiting_at lower.entrance.above) in
      record { chunks = omega (arith, chunks, a, c); pulls = omega (arith, pulls, b, d) }

pub each_edge_keeps_rules : EachEdgeKeepsRules
each_edge_keeps_rules upper lower above below met =
    let l = legal upper lower above below met in
    let c = credit upper lower above below met in
    record { legal = l; credit = c; few = each_edge_has_few (edge_between upper lower) l c }
