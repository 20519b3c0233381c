-- The nodes of a run with workers: as they are made, how they go on, and how their edges meet at the end.
use Rattle.std.specs.Prelude.{◌≡◌, ℕ, suc, pos, nat_abs, List, [], ◌∷◌, ◌++◌, length, Option, Some, None}
use Rattle.ws_value.specs.declared.value.Message.{Message}
use Rattle.ws_edge.specs.Edge.{AtEdge}
use Rattle.ws_flow.specs.declared.plan.Plan.{Plan}
use Rattle.ws_io.specs.Gain.{Got, straight}
use Rattle.ws_io.specs.Moment.{Moment, moment}
use Rattle.ws_node.specs.declared.node.Node.{Node}
use Rattle.ws_node.specs.Node.{received_at, sent_at}
use Rattle.ws_node.specs.Past.{Driven, IsNew}
use Rattle.ws_node.specs.Shares.{head_of, middle_of, stages_ahead_of, tail_of}
use Rattle.ws_node.specs.Went.{Went}

-- the lists are as long, and R holds of the two elements at each place
abbrev pub Each : {A B : Type 0} → (A → B → Type 0) → List A → List B → Type 0
Each R [] [] = Unit {0}
Each R [] (y ∷ ys) = ⊥
Each R (x ∷ xs) [] = ⊥
Each R (x ∷ xs) (y ∷ ys) = R x y × Each R xs ys

-- Edges

-- the two ends of an edge: each posts to the row that the other takes from
pub record AreEnds (upper lower : AtEdge) : Type 0 where
  pub down : lower.from.row ≡ upper.to.row
  pub up : upper.from.row ≡ lower.to.row

abbrev pub JoinedAt : Option AtEdge → Option AtEdge → Type 0
JoinedAt (Some upper) (Some lower) = AreEnds upper lower
JoinedAt _ _ = ⊥

-- from an end on, by each node, to the other end: each edge has the two
abbrev pub AreJoined : Option AtEdge → List Node → Option AtEdge → Type 0
AreJoined upper [] lower = JoinedAt upper lower
AreJoined upper (n ∷ ns) lower = JoinedAt upper n.entrance.above × AreJoined n.exit.below ns lower

-- once they meet: what was posted is what was taken and what was left in the row
pub record HaveMet (upper lower : Option AtEdge) : Type 0 where
  pub left_below : List Message
  pub down : sent_at upper ≡ received_at lower ++ left_below
  pub left_above : List Message
  pub up : sent_at lower ≡ received_at upper ++ left_above

-- the same of all edges, between nodes as they are between turns
abbrev pub AllHaveMet : Option AtEdge → List Node → Option AtEdge → Type 0
AllHaveMet upper [] lower = HaveMet upper lower
AllHaveMet upper (n ∷ ns) lower = HaveMet upper n.entrance.above × Driven n × AllHaveMet n.exit.below ns lower

-- of the edges before this end
abbrev pub HaveMetUpTo : Option AtEdge → List Node → Option AtEdge → Type 0
HaveMetUpTo upper [] end = end ≡ upper
HaveMetUpTo upper (n ∷ ns) end = HaveMet upper n.entrance.above × Driven n × HaveMetUpTo n.exit.below ns end

-- Nodes

-- one for each worker, from this one on
abbrev pub AreNewFrom : ℕ → Plan → List Node → Type 0
AreNewFrom worker plan [] = Unit {0}
AreNewFrom worker plan (n ∷ ns) = IsNew (middle_of (pos worker) plan) (stages_ahead_of (pos worker) plan) None n × AreNewFrom (suc worker) plan ns

-- the node that is fed by the input, one for each worker, and the node that feeds the output
pub record Nodes : Type 0 where
  pub head : Node
  pub middles : List Node
  pub tail : Node

abbrev pub nodes : Node → List Node → Node → Nodes
nodes head middles tail = record { head = head; middles = middles; tail = tail }

-- the nodes of a plan's run, as they are made
pub record AreNew (plan : Plan) (ns : Nodes) : Type 0 where
  pub head : IsNew (head_of plan) 0 None ns.head
  pub middles : AreNewFrom 1 plan ns.middles
  pub many : length ns.middles ≡ nat_abs plan.workers
  pub tail : IsNew (tail_of plan) (length plan.stages.items) plan.abort_after ns.tail
  pub joined : AreJoined ns.head.exit.below ns.middles ns.tail.entrance.above

-- what a node without an output sees of a moment, one without an input, and one with neither

abbrev pub of_input : Moment → Moment
of_input m = moment m.read_faults m.feed 0 None

abbrev pub of_output : Moment → Moment
of_output m = moment 0 None m.write_faults m.finished

abbrev pub of_neither : Moment
of_neither = moment 0 None 0 None

-- what an output got that isn't there: it holds nothing back, and stands for any bytes
abbrev pub any_bytes : Got
any_bytes = straight (λ xs. Unit {0})

abbrev pub HeadGoes : Moment → Moment → Node → Node → Type 0
HeadGoes old new a b = Went a b (of_input old) (of_input new) any_bytes any_bytes

abbrev pub MiddleGoes : Node → Node → Type 0
MiddleGoes a b = Went a b of_neither of_neither any_bytes any_bytes

abbrev pub TailGoes : Moment → Moment → Got → Got → Node → Node → Type 0
TailGoes old new got got' a b = Went a b (of_output old) (of_output new) got got'

-- how they go on, in any order of their turns
pub record AllGo (a b : Nodes) (old new : Moment) (got got' : Got) : Type 0 where
  pub head : HeadGoes old new a.head b.head
  pub middles : Each MiddleGoes a.middles b.middles
  pub tail : TailGoes old new got got' a.tail b.tail
