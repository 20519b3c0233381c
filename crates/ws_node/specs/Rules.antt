-- What a node owes its edges, by the lists of its ends: what it gives them to post is legal, keeps their credit, and has no error without a cause.
use Rattle.std.specs.List.{concat}
use Rattle.std.specs.Prelude.{◌≡◌, ◌+◌, ◌<◌, ◌≤◌, ℕ, true, List, All, length, Some, ◌*◌}
use Rattle.ws_value.specs.declared.fault.Fault.TheVariants.{NoMemory}
use Rattle.ws_value.specs.declared.value.Message.{Message}
use Rattle.ws_value.specs.declared.value.Plain.{Plain}
use Rattle.ws_value.specs.declared.value.Plain.TheVariants.{Fault as FaultReason}
use Rattle.ws_steps.specs.PortHistory.{asks_in, chunks_in, ends_last, goes_up}
use Rattle.ws_node_laws.specs.Asks.{pulls_in}
use Rattle.ws_flow.specs.Told.{IsFront}
use Rattle.ws_node_laws.specs.Edges.{Edge, goes_down_edge, IsLegal as IsLegalEdge, IsCredited, HasFew}
use Rattle.ws_node_laws.specs.Messages.{chunks_of}
use Rattle.ws_joined_laws.specs.Reasons.{reasons_in}
use Rattle.ws_realm.specs.declared.realm.Why.TheVariants as why
use Rattle.ws_node.specs.declared.node.Node.{Node}
use Rattle.ws_node.specs.Messages.{fairly, is_fair_reason}
use Rattle.ws_node.specs.Node.{feeds_edge, given_at, received_at, sent_at}
use Rattle.ws_node.specs.Near.{IsHead}
use Rattle.ws_node.specs.Past.{Driven, IsCause}

-- Nothing stands behind a close or an error, and each message is of its kind: down go chunks of bytes, a close and errors, up go pulls and errors

pub record GoesDown (ms : List Message) : Type 0 where
  pub kinds : All (λ m. goes_down_edge m ≡ true) ms
  pub last : ends_last ms ≡ true

pub record GoesUp (ms : List Message) : Type 0 where
  pub kinds : All (λ m. goes_up m ≡ true) ms
  pub last : ends_last ms ≡ true

-- so is all that the ends of a node were given to post: what they posted, and what waits there
pub record IsLegal (n : Node) : Type 0 where
  pub down : GoesDown (given_at n.exit.below)
  pub up : GoesUp (given_at n.entrance.above)
  pub posted_down : GoesDown (sent_at n.exit.below)
  pub posted_up : GoesUp (sent_at n.entrance.above)

abbrev pub EachNodeIsLegal : Type 0
EachNodeIsLegal = (n : Node) → Driven n → IsLegal n

-- the chunks of messages, as bytes
abbrev pub pieces_in : List Message → List (List ℕ)
pieces_in ms = chunks_of (chunks_in ms)

-- none of them has 2^32 bytes
abbrev pub EachGivenChunkIsShort : Type 0
EachGivenChunkIsShort = (n : Node) → Driven n → All (λ c. length c < 4294967296) (pieces_in (given_at n.exit.below))

-- A node gives a chunk for each pull and error that came up, and a pull for each chunk that came down and one more. A message that no node sends is
-- taken for an error
pub record KeepsCredit (n : Node) : Type 0 where
  pub chunks : length (chunks_in (given_at n.exit.below)) ≤ asks_in (fairly (received_at n.exit.below))
  pub pulls : pulls_in (given_at n.entrance.above) ≤ length (chunks_in (fairly (received_at n.entrance.above))) + 1

abbrev pub EachNodeKeepsCredit : Type 0
EachNodeKeepsCredit = (n : Node) → Driven n → KeepsCredit n

-- why a node sends an error down: for a reason that came to it or has its cause in it, or since no memory was to be had
pub data IsSentFor (n : Node) (r : Plain) : Type 0 where
  Caused : IsCause n r → IsSentFor n r
  Wanting : r ≡ FaultReason NoMemory → n.core.stopped ≡ Some why.NoMemory → IsSentFor n r

-- the errors that it gave down have such reasons, and each may be sent on
pub record HasCauses (n : Node) : Type 0 where
  pub causes : All (IsSentFor n) (reasons_in (given_at n.exit.below))
  pub fair : All (λ r. is_fair_reason r ≡ true) (reasons_in (given_at n.exit.below))

abbrev pub EachErrorHasItsCause : Type 0
EachErrorHasItsCause = (n : Node) → Driven n → HasCauses n

-- so of what a node that feeds an edge posted

pub record SendsDown (n : Node) : Type 0 where
  pub kinds : All (λ m. goes_down_edge m ≡ true) (sent_at n.exit.below)
  pub last : ends_last (sent_at n.exit.below) ≡ true
  pub causes : All (IsSentFor n) (reasons_in (sent_at n.exit.below))

abbrev pub EachNodeSendsDown : Type 0
EachNodeSendsDown = (n : Node) → Driven n → feeds_edge n.exit.output ≡ true → SendsDown n

-- How far a node reads ahead that reads the input and sends it on, without stages: what it posted is part of what it read, which is longer by at most 4,096
-- bytes for each pull that came up, and one more, less the chunks that it posted

pub record ReadsNear (n : Node) : Type 0 where
  pub part : length (concat (pieces_in (sent_at n.exit.below))) ≤ n.entrance.taken
  pub near : n.entrance.taken + 4096 * length (pieces_in (sent_at n.exit.below))
      ≤ length (concat (pieces_in (sent_at n.exit.below))) + 4096 * (pulls_in (received_at n.exit.below) + 1)

abbrev pub EachHeadReadsLittleAhead : Type 0
EachHeadReadsLittleAhead = (n : Node) → Driven n → IsHead n → ReadsNear n

-- The edge between two nodes: what each received is a first part of what the other sent
abbrev pub edge_between : Node → Node → Edge
edge_between upper lower = record {
  down = record { sent = sent_at upper.exit.below; received = received_at lower.entrance.above };
  up = record { sent = sent_at lower.entrance.above; received = received_at upper.exit.below };
}

pub record HasMet (e : Edge) : Type 0 where
  pub down : IsFront e.down.received e.down.sent
  pub up : IsFront e.up.received e.up.sent

-- it is legal, each end keeps its credit, and so few messages are under way
pub record KeepsRules (e : Edge) : Type 0 where
  pub legal : IsLegalEdge e
  pub credit : IsCredited e
  pub few : HasFew e

abbrev pub EachEdgeKeepsRules : Type 0
EachEdgeKeepsRules = (upper lower : Node) → Driven upper → Driven lower → HasMet (edge_between upper lower) → KeepsRules (edge_between upper lower)

-- so the upper one, where it reads the input, is at most two pieces ahead of what it posted
abbrev pub EachJoinedHeadReadsLittleAhead : Type 0
EachJoinedHeadReadsLittleAhead =
    (upper lower : Node) → Driven upper → Driven lower → IsHead upper → HasMet (edge_between upper lower)
    → upper.entrance.taken ≤ length (concat (pieces_in (sent_at upper.exit.below))) + 8192
