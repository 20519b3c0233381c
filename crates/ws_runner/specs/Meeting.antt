-- What is told of edges once their ends meet, where both keep the marks of what they posted.
use Rattle.std.specs.Prelude.{◌≡◌, Bool, true, false, List, [], ◌∷◌, All, length, Option, Some, None}
use Rattle.ws_edge.specs.Edge.{AtEdge}
use Rattle.ws_edge.specs.Marks.{marks_of}
use Rattle.ws_node.specs.declared.node.Node.{Node}
use Rattle.ws_node.specs.Node.{received_at, sent_at}
use Rattle.ws_node.specs.Nodes.{Nodes}
use Rattle.ws_runner.specs.declared.trace.EdgeTrace.{EdgeTrace}

-- the trace tells of these two ends
pub record IsTrace (upper lower : Option AtEdge) (e : EdgeTrace) : Type 0 where
  pub down : e.down.items ≡ marks_of (sent_at upper)
  pub down_taken : e.down_taken ≡ length (received_at lower)
  pub up : e.up.items ≡ marks_of (sent_at lower)
  pub up_taken : e.up_taken ≡ length (received_at upper)

-- the traces tell of all edges from an end on, by each node, to the other end
abbrev pub AreTraces : Option AtEdge → List Node → Option AtEdge → List EdgeTrace → Type 0
AreTraces upper [] lower [] = ⊥
AreTraces upper [] lower (e ∷ []) = IsTrace upper lower e
AreTraces upper [] lower (e ∷ f ∷ es) = ⊥
AreTraces upper (n ∷ ns) lower [] = ⊥
AreTraces upper (n ∷ ns) lower (e ∷ es) = IsTrace upper n.entrance.above e × AreTraces n.exit.below ns lower es

-- or of those before this end
abbrev pub AreTracesUpTo : Option AtEdge → List Node → Option AtEdge → List EdgeTrace → Type 0
AreTracesUpTo upper [] end [] = end ≡ upper
AreTracesUpTo upper [] end (e ∷ es) = ⊥
AreTracesUpTo upper (n ∷ ns) end [] = ⊥
AreTracesUpTo upper (n ∷ ns) end (e ∷ es) = IsTrace upper n.entrance.above e × AreTracesUpTo n.exit.below ns end es

-- of a run that is traced; of another one there are none
abbrev pub TracesAre : Bool → Option AtEdge → List Node → Option AtEdge → List EdgeTrace → Type 0
TracesAre true upper ns lower es = AreTraces upper ns lower es
TracesAre false upper ns lower es = es ≡ []

abbrev pub TracesUpTo : Bool → Option AtEdge → List Node → Option AtEdge → List EdgeTrace → Type 0
TracesUpTo true upper ns end es = AreTracesUpTo upper ns end es
TracesUpTo false upper ns end es = es ≡ []

-- whether an end keeps the marks of what it posted
abbrev pub is_traced : Option AtEdge → Bool
is_traced None = false
is_traced (Some e) = e.traced

-- all ends of a run do, or none
pub record AreTraced (trace : Bool) (n : Node) : Type 0 where
  pub above : is_traced n.entrance.above ≡ trace
  pub below : is_traced n.exit.below ≡ trace

pub record AllTraced (trace : Bool) (ns : Nodes) : Type 0 where
  pub head : is_traced ns.head.exit.below ≡ trace
  pub middles : All (AreTraced trace) ns.middles
  pub tail : is_traced ns.tail.entrance.above ≡ trace

abbrev pub listed : {A : Type 0} → Option A → List A
listed None = []
listed (Some x) = x ∷ []
