-- How far the first node of a run is ahead of the first edge.
use Rattle.std.proofs.Common.{◌≡◌, List, [], ◌∷◌, map, refl, ap, ◌∙◌}
use Rattle.ws_flow.specs.declared.plan.Plan.{Plan}
use Rattle.ws_io.specs.Gain.{Got}
use Rattle.ws_io.specs.Moment.{Moment}
use Rattle.ws_io.specs.declared.status.Status.{Status}
use Rattle.ws_stages.specs.State.{State}
use Rattle.ws_node.specs.declared.node.Node.{Node}
use Rattle.ws_node.specs.Near.{IsHead}
use Rattle.ws_node.specs.Node.{feeds_edge, is_edge}
use Rattle.ws_node.specs.Nodes.{AllHaveMet, HaveMet, Nodes, any_bytes, of_input}
use Rattle.ws_node.specs.Past.{Driven}
use Rattle.ws_node.specs.Rules.{HasMet, edge_between}
use Rattle.ws_node.proofs.Ahead.{each_head_reads_little_ahead, each_joined_head_reads_little_ahead}
use Rattle.ws_node.proofs.Joining.{head-goes}
use Rattle.ws_node.proofs.Sharing.{none-shared}
use Rattle.ws_runner.specs.Chain.{EachChainReadsLittleAhead, HasEnded, ReadsLittleAhead}

none-left : (ws : List State) → map (λ (w : State). w.stage) ws ≡ [] → ws ≡ []
none-left [] e = refl
none-left (w ∷ ws) e = absurd (cc)

-- the node below the first edge
record Below (upper : Node) : Type 0 where
  lower : Node
  driven : Driven lower
  met : HasMet (edge_between upper lower)

has-met : (upper lower : Node) → HaveMet upper.exit.below lower.entrance.above → HasMet (edge_between upper lower)
has-met upper lower h = record { down = (h.left_below, h.down); up = (h.left_above, h.up) }

next : (upper last : Node) (ns : List Node) → Driven last → AllHaveMet upper.exit.below ns last.entrance.above → Below upper
next upper last [] d h = record { lower = last; driven = d; met = has-met upper last h }
next upper last (n ∷ ns) d h = record { lower = n; driven = h.1; met = has-met upper n h.0 }

module _ (plan : Plan) (s : Status) (a b : Nodes) (old new : Moment) (got got' : Got) (h : HasEnded plan s a b old new got got') where
  begun : IsHead a.head
  begun = record {
    from = ap is_edge h.begun.head.input;
    into = ap feeds_edge h.begun.head.output;
    bare = none-left a.head.core.stages.items (h.begun.head.is_of.stages ∙ none-shared plan.stages.items);
  }

  head : IsHead b.head
  head = head-goes a.head b.head (of_input old) (of_input new) any_bytes any_bytes h.went.head begun

  pub reads : ReadsLittleAhead b
  reads =
      let below = next b.head b.tail b.middles h.tail h.met in
      record {
        part = (each_head_reads_little_ahead b.head h.head head).part;
        near = each_joined_head_reads_little_ahead b.head below.lower h.head below.driven head below.met;
      }

pub chain-reads : {K : Type 0} (got : K → Got) → EachChainReadsLittleAhead got
chain-reads got plan s a b old new k₀ k₁ h = reads plan s a b old new (got k₀) (got k₁) h
