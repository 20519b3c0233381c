-- What the ends of a node were given to post is legal, also where no memory was to be had: it is a first part of what its ports posted, and perhaps an
-- error behind what has no end.
use Rattle.std.proofs.Common.{◌≡◌, ℕ, ◌+◌, ◌*◌, ◌≤◌, Bool, true, false, List, [], ◌∷◌, ◌++◌, length, All, Option, Some, None, refl, sym, ap, subst, ◌∙◌, arith}
use Rattle.std.proofs.lemmas.List.Elements.{All-nil, All-cons, All-append}
use Rattle.ws_value.specs.declared.fault.Fault.TheVariants.{NoMemory}
use Rattle.ws_value.specs.declared.ids.PortId.{PortId}
use Rattle.ws_value.specs.declared.value.Message.{Message}
use Rattle.ws_value.specs.declared.value.Message.TheVariants.{Error}
use Rattle.ws_value.specs.declared.value.Plain.TheVariants.{Fault as FaultReason}
use Rattle.ws_edge.specs.Edge.{AtEdge, given}
use Rattle.ws_steps.specs.PortHistory.{posted_in, ends_last, has_end, goes_up, goes_down}
use Rattle.ws_steps.specs.Run.{Entry}
use Rattle.ws_steps.specs.Slots.{empty, most_streams}
use Rattle.ws_chain_laws.specs.Chain.{Origin, FromChunks, FromBytes, FromPort, Target, ToSink, ToPort, source_port, sink_port}
use Rattle.ws_chain_laws.specs.Opening.{chained}
use Rattle.ws_chain_laws.specs.Outcomes.{past_of}
use Rattle.ws_chain_laws.specs.Runs.{AreNodes}
use Rattle.ws_node_laws.specs.Edges.{goes_down_edge}
use Rattle.ws_node_laws.specs.Messages.{taken_events}
use Rattle.ws_node_laws.proofs.Sends as sends
use Rattle.ws_realm.specs.declared.realm.Why.{Why}
use Rattle.ws_node.specs.declared.node.Node.{Node}
use Rattle.ws_node.specs.Fair.{AllBringFair}
use Rattle.ws_node.specs.Node.{given_at, sent_at, waiting_at}
use Rattle.ws_node.specs.Past.{IsFedAs, FeedsAs, IsGiven, Whole, FirstPart, WithLast, EndHas, EndsHave, Driven, Since}
use Rattle.ws_node.specs.Ran.{IsOpenedBy}
use Rattle.ws_node.specs.Rules.{GoesDown, GoesUp, IsLegal, EachNodeIsLegal}
use Rattle.ws_node.specs.Shape.{Shape, count_in}
use Rattle.ws_node.proofs.Firsts.{all-left, last-left, last-added}
use Rattle.ws_node.proofs.Posted.{own-nodes, past-taken, past-fair, past-heard, heard-bytes}

-- what is shown of the ends of a node rests on its opening and its calls, and on what its ends have of that
pub record Rests (shape : Shape) (past : List Entry) (n : Node) : Type 0 where
  pub few : length shape.stages ≤ 16
  pub opened : IsOpenedBy shape past
  pub fair : AllBringFair past
  pub from : IsFedAs shape.origin n.entrance
  pub into : FeedsAs shape.target n.exit
  pub ends : EndsHave shape past n

pub since-rests : (shape : Shape) (past : List Entry) (n : Node) → Since shape past n → Rests shape past n
since-rests shape past n s =
    let led = s.led in
    let fit = led.is_of.fit in
    record { few = fit.few; opened = led.ran.opened; fair = led.clones; from = led.is_of.from; into = led.is_of.into; ends = s.ends }

pub driven-rests : (n : Node) → (d : Driven n) → Rests d.shape d.past n
driven-rests n d = since-rests d.shape d.past n d.since

-- first parts of legal rows

abbrev edge_downs : Message → Type 0
edge_downs m = goes_down_edge m ≡ true

abbrev downs : Message → Type 0
downs m = goes_down m ≡ true

abbrev ups : Message → Type 0
ups m = goes_up m ≡ true

pub down-left : (xs ys : List Message) → GoesDown (xs ++ ys) → GoesDown xs
down-left xs ys g = record { kinds = all-left edge_downs xs ys g.kinds; last = last-left xs ys g.last }

pub up-left : (xs ys : List Message) → GoesUp (xs ++ ys) → GoesUp xs
up-left xs ys g = record { kinds = all-left ups xs ys g.kinds; last = last-left xs ys g.last }

down-none : GoesDown []
down-none = record { kinds = All-nil edge_downs; last = refl }

up-none : GoesUp []
up-none = record { kinds = All-nil ups; last = refl }

abbrev last_error : Message
last_error = Error (FaultReason NoMemory)

down-last : (xs : List Message) → GoesDown xs → has_end xs ≡ false → GoesDown (xs ++ last_error ∷ [])
down-last xs g h = record {
  kinds = All-append edge_downs xs (last_error ∷ []) g.kinds (All-cons edge_downs last_error [] refl (All-nil edge_downs));
  last = last-added xs last_error h;
}

up-last : (xs : List Message) → GoesUp xs → has_end xs ≡ false → GoesUp (xs ++ last_error ∷ [])
up-last xs g h = record {
  kinds = All-append ups xs (last_error ∷ []) g.kinds (All-cons ups last_error [] refl (All-nil ups));
  last = last-added xs last_error h;
}

down-given : (posted ms : List Message) (stopped : Option Why) → GoesDown posted → IsGiven posted ms stopped → GoesDown ms
down-given posted ms stopped g (Whole e) = subst GoesDown (sym e) g
down-given posted ms stopped g (FirstPart s rest e) = down-left ms rest (subst GoesDown e g)
down-given posted ms stopped g (WithLast s first rest e none is) = subst GoesDown (sym is) (down-last first (down-left first rest (subst GoesDown e g)) none)

up-given : (posted ms : List Message) (stopped : Option Why) → GoesUp posted → IsGiven posted ms stopped → GoesUp ms
up-given posted ms stopped g (Whole e) = subst GoesUp (sym e) g
up-given posted ms stopped g (FirstPart s rest e) = up-left ms rest (subst GoesUp e g)
up-given posted ms stopped g (WithLast s first rest e none is) = subst GoesUp (sym is) (up-last first (up-left first rest (subst GoesUp e g)) none)

down-at : (port : PortId) (past : List Entry) (stopped : Option Why) (o : Option AtEdge) → EndHas port past stopped o → GoesDown (posted_in port (taken_events past empty)) → GoesDown (given_at o)
down-at port past stopped None h g = down-none
down-at port past stopped (Some e) h g = down-given (posted_in port (taken_events past empty)) (given e) stopped g h.given

up-at : (port : PortId) (past : List Entry) (stopped : Option Why) (o : Option AtEdge) → EndHas port past stopped o → GoesUp (posted_in port (taken_events past empty)) → GoesUp (given_at o)
up-at port past stopped None h g = up-none
up-at port past stopped (Some e) h g = up-given (posted_in port (taken_events past empty)) (given e) stopped g h.given

-- what the ports posted

pub few-streams : (n : ℕ) → n ≤ 16 → 2 * n + 2 ≤ most_streams
few-streams n h = omega (arith, h)

posted-down : (o : Origin) (n : ℕ) (b : Bool) (xs : List Entry) → n ≤ 16 → AreNodes xs → AllBringFair xs → GoesDown (posted_in (sink_port o) (taken_events (past_of o ToPort n b xs) empty))
posted-down o n b xs few nodes fair =
    let c = sink_port o in
    let heard : List Message = posted_in c (taken_events (past_of o ToPort n b xs) empty) in
    let s = sends.each_node_sends_down o n b xs (few-streams n few) nodes in
    let h = past-heard c o ToPort n b xs in
    let same : posted_in c (taken_events xs (chained o ToPort n b)) ≡ heard = ap (posted_in c) (sym (past-taken o ToPort n b xs)) in
    let kinds : All downs heard = all-left downs heard h.rest (subst (All downs) h.is s.kinds) in
    let last : ends_last heard ≡ true = last-left heard h.rest (subst (λ ms. ends_last ms ≡ true) h.is s.last) in
    record {
      kinds = subst (All edge_downs) same (heard-bytes o n b xs (few-streams n few) nodes fair (subst (λ ms. ends_last ms ≡ true) (sym same) last) (subst (All downs) (sym same) kinds));
      last = last;
    }

posted-up : (t : Target) (n : ℕ) (b : Bool) (xs : List Entry) → n ≤ 16 → AreNodes xs → GoesUp (posted_in source_port (taken_events (past_of FromPort t n b xs) empty))
posted-up t n b xs few nodes =
    let heard : List Message = posted_in source_port (taken_events (past_of FromPort t n b xs) empty) in
    let s = sends.each_node_sends_up t n b xs (few-streams n few) nodes in
    let h = past-heard source_port FromPort t n b xs in
    record {
      kinds = all-left ups heard h.rest (subst (All ups) h.is s.kinds);
      last = last-left heard h.rest (subst (λ ms. ends_last ms ≡ true) h.is s.last);
    }

-- at both ends

given-down : (shape : Shape) (past : List Entry) (n : Node) → Rests shape past n → GoesDown (given_at n.exit.below)
given-down shape past n r = by shape.target refl r.into
  where
    by : (t : Target) → shape.target ≡ t → FeedsAs t n.exit → GoesDown (given_at n.exit.below)
    by ToSink e f = subst (λ (o : Option AtEdge). GoesDown (given_at o)) (sym f.1) down-none
    by ToPort e f =
        let k = r.opened in
        let is : past ≡ past_of shape.origin ToPort (count_in shape) shape.aborted k.since = k.is ∙ ap (λ t. past_of shape.origin t (count_in shape) shape.aborted k.since) e in
        let nodes = own-nodes (count_in shape) k.since k.own in
        let fair = past-fair shape.origin ToPort (count_in shape) shape.aborted k.since (subst AllBringFair is r.fair) in
        let posted = posted-down shape.origin (count_in shape) shape.aborted k.since r.few nodes fair in
        let ends = r.ends in
        down-at (sink_port shape.origin) past n.core.stopped n.exit.below ends.below (subst (λ xs. GoesDown (posted_in (sink_port shape.origin) (taken_events xs empty))) (sym is) posted)

given-up : (shape : Shape) (past : List Entry) (n : Node) → Rests shape past n → GoesUp (given_at n.entrance.above)
given-up shape past n r = by shape.origin refl r.from
  where
    by : (o : Origin) → shape.origin ≡ o → IsFedAs o n.entrance → GoesUp (given_at n.entrance.above)
    by FromChunks e f = absurd f
    by FromBytes e f = subst (λ (o : Option AtEdge). GoesUp (given_at o)) (sym f.1) up-none
    by FromPort e f =
        let k = r.opened in
        let is : past ≡ past_of FromPort shape.target (count_in shape) shape.aborted k.since = k.is ∙ ap (λ o. past_of o shape.target (count_in shape) shape.aborted k.since) e in
        let nodes = own-nodes (count_in shape) k.since k.own in
        let posted = posted-up shape.target (count_in shape) shape.aborted k.since r.few nodes in
        let ends = r.ends in
        up-at source_port past n.core.stopped n.entrance.above ends.above (subst (λ xs. GoesUp (posted_in source_port (taken_events xs empty))) (sym is) posted)

down-sent : (o : Option AtEdge) → GoesDown (given_at o) → GoesDown (sent_at o)
down-sent o g = down-left (sent_at o) (waiting_at o) g

up-sent : (o : Option AtEdge) → GoesUp (given_at o) → GoesUp (sent_at o)
up-sent o g = up-left (sent_at o) (waiting_at o) g

pub rests-legal : (shape : Shape) (past : List Entry) (n : Node) → Rests shape past n → IsLegal n
rests-legal shape past n r =
    let down = given-down shape past n r in
    let up = given-up shape past n r in
    record { down = down; up = up; posted_down = down-sent n.exit.below down; posted_up = up-sent n.entrance.above up }

pub each_node_is_legal : EachNodeIsLegal
each_node_is_legal n d = rests-legal d.shape d.past n (driven-rests n d)
