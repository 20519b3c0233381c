-- A node keeps the credit of its edges: a chunk for each pull and error that came up, and a pull for each chunk that came down and one more.
use Rattle.std.proofs.Common.{◌≡◌, ℕ, ◌+◌, ◌≤◌, Bool, List, ◌++◌, length, Option, Some, None, refl, sym, ap, subst, ◌∙◌, arith}
use Rattle.ws_value.specs.declared.ids.PortId.{PortId}
use Rattle.ws_value.specs.declared.value.Message.{Message}
use Rattle.ws_edge.specs.Edge.{AtEdge, given}
use Rattle.ws_steps.specs.Histories.{run_events}
use Rattle.ws_steps.specs.PortHistory.{asks_in, chunks_in, posted_in}
use Rattle.ws_steps.specs.Run.{Entry}
use Rattle.ws_steps.specs.Slots.{empty}
use Rattle.ws_chain_laws.specs.Chain.{Origin, FromChunks, FromBytes, FromPort, Target, ToSink, ToPort, source_port, sink_port}
use Rattle.ws_chain_laws.specs.Opening.{chained}
use Rattle.ws_chain_laws.specs.Outcomes.{past_of}
use Rattle.ws_chain_laws.specs.Runs.{AreNodes}
use Rattle.ws_node_laws.specs.Asks.{pulls_in}
use Rattle.ws_node_laws.specs.Messages.{delivered_to, taken_events}
use Rattle.ws_node_laws.proofs.Asking.{each_node_asks_in_turn}
use Rattle.ws_node_laws.proofs.Sends as sends
use Rattle.ws_realm.specs.declared.realm.Why.{Why}
use Rattle.ws_node.specs.declared.node.Node.{Node}
use Rattle.ws_node.specs.Messages.{fairly}
use Rattle.ws_node.specs.Node.{given_at, received_at}
use Rattle.ws_node.specs.Past.{IsFedAs, FeedsAs, IsGiven, Whole, FirstPart, WithLast, IsDelivered, EndHas}
use Rattle.ws_node.specs.Rules.{KeepsCredit, EachNodeKeepsCredit}
use Rattle.ws_node.specs.Shape.{Shape, count_in}
use Rattle.ws_node.proofs.Firsts.{chunks-left, asks-left, pulls-left, chunks-error, pulls-error}
use Rattle.ws_node.proofs.Legal.{Rests, driven-rests, few-streams}
use Rattle.ws_node.proofs.Posted.{own-nodes, past-delivered, past-heard, brought-is}

-- of what was posted no more was given

chunks-less : (posted ms rest : List Message) → posted ≡ ms ++ rest → length (chunks_in ms) ≤ length (chunks_in posted)
chunks-less posted ms rest e = subst (λ ys. length (chunks_in ms) ≤ length (chunks_in ys)) (sym e) (chunks-left ms rest)

pulls-less : (posted ms rest : List Message) → posted ≡ ms ++ rest → pulls_in ms ≤ pulls_in posted
pulls-less posted ms rest e = subst (λ ys. pulls_in ms ≤ pulls_in ys) (sym e) (pulls-left ms rest)

chunks-given : (posted ms : List Message) (stopped : Option Why) → IsGiven posted ms stopped → length (chunks_in ms) ≤ length (chunks_in posted)
chunks-given posted ms stopped (Whole e) = subst (λ ys. length (chunks_in ys) ≤ length (chunks_in posted)) (sym e) (omega arith)
chunks-given posted ms stopped (FirstPart s rest e) = chunks-less posted ms rest e
chunks-given posted ms stopped (WithLast s first rest e none is) =
    let h = chunks-less posted first rest e in
    let k = ap (λ ys. length (chunks_in ys)) is ∙ chunks-error first _ in
    omega (arith, h, k)

pulls-given : (posted ms : List Message) (stopped : Option Why) → IsGiven posted ms stopped → pulls_in ms ≤ pulls_in posted
pulls-given posted ms stopped (Whole e) = subst (λ ys. pulls_in ys ≤ pulls_in posted) (sym e) (omega arith)
pulls-given posted ms stopped (FirstPart s rest e) = pulls-less posted ms rest e
pulls-given posted ms stopped (WithLast s first rest e none is) =
    let h = pulls-less posted first rest e in
    let k = ap pulls_in is ∙ pulls-error first _ in
    omega (arith, h, k)

-- and no more was delivered than was received

asks-delivered : (delivered received : List Message) (stopped : Option Why) → IsDelivered delivered received stopped → asks_in delivered ≤ asks_in (fairly received)
asks-delivered delivered received stopped d = subst (λ ys. asks_in delivered ≤ asks_in ys) (sym d.first) (asks-left delivered d.rest)

chunks-delivered : (delivered received : List Message) (stopped : Option Why) → IsDelivered delivered received stopped → length (chunks_in delivered) ≤ length (chunks_in (fairly received))
chunks-delivered delivered received stopped d = subst (λ ys. length (chunks_in delivered) ≤ length (chunks_in ys)) (sym d.first) (chunks-left delivered d.rest)

-- what its ports posted

posted-chunks : (o : Origin) (n : ℕ) (b : Bool) (xs : List Entry) → n ≤ 16 → AreNodes xs → let past : List Entry = past_of o ToPort n b xs in
    length (chunks_in (posted_in (sink_port o) (taken_events past empty))) ≤ asks_in (delivered_to (sink_port o) past)
posted-chunks o n b xs few nodes =
    let c = sink_port o in
    let s = (sends.each_node_sends_down o n b xs (few-streams n few) nodes).credit in
    let h = past-heard c o ToPort n b xs in
    let k = chunks-less (posted_in c (run_events xs (chained o ToPort n b))) (posted_in c (taken_events (past_of o ToPort n b xs) empty)) h.rest h.is in
    let d = ap asks_in (past-delivered c o ToPort n b xs) in
    omega (arith, s, k, d)

posted-pulls : (t : Target) (n : ℕ) (b : Bool) (xs : List Entry) → n ≤ 16 → AreNodes xs → let past : List Entry = past_of FromPort t n b xs in
    pulls_in (posted_in source_port (taken_events past empty)) ≤ length (chunks_in (delivered_to source_port past)) + 1
posted-pulls t n b xs few nodes =
    let s = each_node_asks_in_turn t n b xs (few-streams n few) nodes in
    let h = past-heard source_port FromPort t n b xs in
    let k = pulls-less (posted_in source_port (run_events xs (chained FromPort t n b))) (posted_in source_port (taken_events (past_of FromPort t n b xs) empty)) h.rest h.is in
    let d = ap (λ ms. length (chunks_in ms)) (past-delivered source_port FromPort t n b xs) in
    let e = brought-is source_port xs in
    omega (arith, s, k, d, e)

-- at an end

chunks-at : (port : PortId) (past : List Entry) (stopped : Option Why) (o : Option AtEdge) → EndHas port past stopped o
    → length (chunks_in (posted_in port (taken_events past empty))) ≤ asks_in (delivered_to port past) → length (chunks_in (given_at o)) ≤ asks_in (fairly (received_at o))
chunks-at port past stopped None h l = omega arith
chunks-at port past stopped (Some e) h l =
    let g = chunks-given (posted_in port (taken_events past empty)) (given e) stopped h.given in
    let d = asks-delivered (delivered_to port past) e.from.received stopped h.taken in
    omega (arith, l, g, d)

pulls-at : (port : PortId) (past : List Entry) (stopped : Option Why) (o : Option AtEdge) → EndHas port past stopped o
    → pulls_in (posted_in port (taken_events past empty)) ≤ length (chunks_in (delivered_to port past)) + 1 → pulls_in (given_at o) ≤ length (chunks_in (fairly (received_at o))) + 1
pulls-at port past stopped None h l = omega arith
pulls-at port past stopped (Some e) h l =
    let g = pulls-given (posted_in port (taken_events past empty)) (given e) stopped h.given in
    let d = chunks-delivered (delivered_to port past) e.from.received stopped h.taken in
    omega (arith, l, g, d)

abbrev ChunksAt : Option AtEdge → Type 0
ChunksAt o = length (chunks_in (given_at o)) ≤ asks_in (fairly (received_at o))

abbrev PullsAt : Option AtEdge → Type 0
PullsAt o = pulls_in (given_at o) ≤ length (chunks_in (fairly (received_at o))) + 1

given-chunks : (shape : Shape) (past : List Entry) (n : Node) → Rests shape past n → ChunksAt n.exit.below
given-chunks shape past n r = by shape.target refl r.into
  where
    by : (t : Target) → shape.target ≡ t → FeedsAs t n.exit → ChunksAt n.exit.below
    by ToSink e f = subst ChunksAt (sym f.1) (omega arith)
    by ToPort e f =
        let c = sink_port shape.origin in
        let k = r.opened in
        let is : past ≡ past_of shape.origin ToPort (count_in shape) shape.aborted k.since = k.is ∙ ap (λ t. past_of shape.origin t (count_in shape) shape.aborted k.since) e in
        let posted = posted-chunks shape.origin (count_in shape) shape.aborted k.since r.few (own-nodes (count_in shape) k.since k.own) in
        let ends = r.ends in
        chunks-at c past n.core.stopped n.exit.below ends.below (subst (λ xs. length (chunks_in (posted_in c (taken_events xs empty))) ≤ asks_in (delivered_to c xs)) (sym is) posted)

given-pulls : (shape : Shape) (past : List Entry) (n : Node) → Rests shape past n → PullsAt n.entrance.above
given-pulls shape past n r = by shape.origin refl r.from
  where
    by : (o : Origin) → shape.origin ≡ o → IsFedAs o n.entrance → PullsAt n.entrance.above
    by FromChunks e f = absurd f
    by FromBytes e f = subst PullsAt (sym f.1) (omega arith)
    by FromPort e f =
        let k = r.opened in
        let is : past ≡ past_of FromPort shape.target (count_in shape) shape.aborted k.since = k.is ∙ ap (λ o. past_of o shape.target (count_in shape) shape.aborted k.since) e in
        let posted = posted-pulls shape.target (count_in shape) shape.aborted k.since r.few (own-nodes (count_in shape) k.since k.own) in
        let ends = r.ends in
        pulls-at source_port past n.core.stopped n.entrance.above ends.above (subst (λ xs. pulls_in (posted_in source_port (taken_events xs empty)) ≤ length (chunks_in (delivered_to source_port xs)) + 1) (sym is) posted)

pub rests-credit : (shape : Shape) (past : List Entry) (n : Node) → Rests shape past n → KeepsCredit n
rests-credit shape past n r = record { chunks = given-chunks shape past n r; pulls = given-pulls shape past n r }

pub each_node_keeps_credit : EachNodeKeepsCredit
each_node_keeps_credit n d = rests-credit d.shape d.past n (driven-rests n d)
