-- What a message that is delivered is to a node, and to the ends of its edges.
use Rattle.std.proofs.Common.{◌≡◌, ◌≢◌, ◌⊎◌, inl, inr, ℕ, suc, nat_eq, true, false, List, [], ◌∷◌, ◌++◌, Option, Some, None, refl, sym, ap, ◌∙◌, subst, append-nil, arith}
use Rattle.std.specs.Prelude.{All, Contains}
use Rattle.std.proofs.lemmas.Bool.Decides.{nat_tests}
use Rattle.std.proofs.lemmas.List.Elements.{All-nil, All-cons, Contains-push}
use Rattle.ws_value.specs.declared.ids.PortId.{PortId}
use Rattle.ws_value.specs.declared.value.Message.{Message}
use Rattle.ws_value.specs.declared.value.Message.TheVariants.{Pull, Chunk, Close, Error}
use Rattle.ws_value.specs.declared.value.Plain.{Plain}
use Rattle.ws_value.specs.declared.value.Value.{Value}
use Rattle.ws_value.specs.declared.value.Value.TheVariants.{Plain as PlainValue, Bytes}
use Rattle.ws_edge.specs.Edge.{AtEdge, given}
use Rattle.ws_flow.proofs.Ends.{goes_behind}
use Rattle.ws_flow.specs.Parts.{Goes}
use Rattle.ws_flow.specs.Rows.{told_by}
use Rattle.ws_flow.specs.Stages.{machines}
use Rattle.ws_flow.specs.Told.{Told, told, then_told, IsShortOf}
use Rattle.ws_link_laws.specs.Link.{silence, delivered, is_end}
use Rattle.ws_port.specs.Ends.{Posted}
use Rattle.ws_steps.specs.declared.calls.Call.TheVariants.{Deliver}
use Rattle.ws_steps.specs.PortHistory.{posted_in, is_same_port}
use Rattle.ws_steps.specs.Run.{Entry}
use Rattle.ws_steps.specs.Slots.{empty}
use Rattle.ws_chain_laws.specs.Chain.{Origin, FromChunks, FromBytes, FromPort, Target, ToSink, ToPort, first_giver, source_port, sink_port}
use Rattle.ws_chain_laws.specs.Nodes.{only_at}
use Rattle.ws_joined_laws.specs.Reasons.{reasons_in}
use Rattle.ws_node_laws.specs.Messages.{delivered_to, message_by, taken_events}
use Rattle.ws_realm.specs.declared.realm.Why.{Why}
use Rattle.ws_reason_laws.specs.Reasons.{delivered_reason}
use Rattle.ws_node.specs.declared.node.Entrance.{Entrance}
use Rattle.ws_node.specs.declared.node.Exit.{Exit}
use Rattle.ws_node.specs.declared.node.Input.{Input}
use Rattle.ws_node.specs.declared.node.Input.TheVariants as input
use Rattle.ws_node.specs.declared.node.Node.{Node}
use Rattle.ws_node.specs.Edges.{TakesEnd, broken_by, takes_more}
use Rattle.ws_node.specs.Messages.{as_fair, fairly, is_fair}
use Rattle.ws_node.specs.Node.{is_edge, feeds_edge, in_bytes, lost_by, lying, held, parts, stages_in, port_below, rows_at, waiting_at}
use Rattle.ws_node.specs.Past.{IsCause, IsFedAs, FeedsAs, IsGiven, Whole, FirstPart, WithLast, IsDelivered, HasMessages, EndHas, ArePushed}
use Rattle.ws_node.specs.Shape.{Shape}
use Rattle.ws_node.specs.Went.{EdgeGoes, EndGrows}
use Rattle.ws_node.proofs.Fair.{fairly-append}
use Rattle.ws_node.proofs.Firsts.{reasons-append}
use Rattle.ws_node.proofs.Ones.{all-more}
use Rattle.ws_node.proofs.Since.{Delivers, Delivered, Undelivered, MayFail, AllHaveCauses, FromBelow}

-- The ports of a node

pub port-is : (o : Origin) (e : Entrance) → IsFedAs o e → port_below e ≡ sink_port o
port-is FromBytes e (off, none) = rw none refl
port-is FromPort e (on, some) = rw some refl
port-is FromChunks e f = absurd f

pub sink-apart : (o : Origin) → is_end (first_giver o) (sink_port o) ≡ false
sink-apart FromChunks = refl
sink-apart FromBytes = refl
sink-apart FromPort = refl

pub more-edge : (i : Input) → takes_more i ≡ true → i ≡ input.Edge
more-edge input.Edge e = refl
more-edge input.Open e = absurd (cc)
more-edge input.Ended e = absurd (cc)
more-edge input.Failed e = absurd (cc)
more-edge input.TooLong e = absurd (cc)
more-edge (input.Broken r) e = absurd (cc)

pub from-edge : (o : Origin) (e : Entrance) → IsFedAs o e → is_edge e.input ≡ true → o ≡ FromPort
from-edge FromBytes e (off, none) on = absurd (let f : false ≡ true = sym off ∙ on in cc)
from-edge FromPort e f on = refl
from-edge FromChunks e f on = absurd f

-- What a message is to a node

pub comes : (m : Message) → is_fair m ≡ true → IsShortOf (then_told (in_bytes (delivered m)) (lost_by (broken_by m input.Edge))) (told_by (m ∷ []))
comes Pull e = (refl, refl)
comes (Chunk (Bytes b)) e = (refl, refl)
comes (Chunk (PlainValue v)) e = absurd (cc)
comes Close e = (refl, refl)
comes (Error r) e = ([], refl)

pub breaks : (m : Message) → EdgeGoes input.Edge (broken_by m input.Edge) (m ∷ [])
breaks Pull = refl
breaks (Chunk v) = refl
breaks Close = refl
breaks (Error r) = refl

pub still-edge : (m : Message) → is_edge (broken_by m input.Edge) ≡ true
still-edge Pull = refl
still-edge (Chunk v) = refl
still-edge Close = refl
still-edge (Error r) = refl

pub reason-caused : (n : Node) (m : Message) → ((r : Plain) → m ≡ Error r → IsCause n r) → All (IsCause n) (delivered_reason m)
reason-caused n Pull h = All-nil (IsCause n)
reason-caused n (Chunk v) h = All-nil (IsCause n)
reason-caused n Close h = All-nil (IsCause n)
reason-caused n (Error r) h = All-cons (IsCause n) r [] (h r refl) (All-nil (IsCause n))

-- a reason that was received last is among those received
pub last-reason : (ms : List Message) (m : Message) (r : Plain) → as_fair m ≡ Error r → Contains (reasons_in (fairly (ms ++ m ∷ []))) r
last-reason ms m r e =
    subst (λ (xs : List Message). Contains (reasons_in xs) r) (sym (fairly-append ms (m ∷ [])))
    (subst (λ (xs : List Plain). Contains xs r) (sym (reasons-append (fairly ms) (as_fair m ∷ [])))
    (subst (λ (x : Message). Contains (reasons_in (fairly ms) ++ reasons_in (x ∷ [])) r) (sym e) (Contains-push (reasons_in (fairly ms)) r)))

-- What the ends of a node have once a message was delivered

pub given-on : (posted ms : List Message) (now : Option Why) → IsGiven posted ms None → IsGiven posted ms now
given-on posted ms now (Whole e) = Whole e
given-on posted ms now (FirstPart s rest e) = absurd (cc)
given-on posted ms now (WithLast s first rest e none is) = absurd (cc)

pub delivered-on : (d d' ms : List Message) (now : Option Why) → d' ≡ d → IsDelivered d ms None → IsDelivered d' ms now
delivered-on d d' ms now e h = record { rest = h.rest; first = h.first ∙ ap (λ x. x ++ h.rest) (sym e); all = λ f. h.all refl }

-- the other end
pub end-on : (port : PortId) (past ys : List Entry) (now : Option Why) (o : Option AtEdge) → taken_events ys empty ≡ taken_events past empty → delivered_to port ys ≡ delivered_to port past
    → EndHas port past None o → EndHas port ys now o
end-on port past ys now None t d h = tt
end-on port past ys now (Some e) t d h = record {
  given = given-on (posted_in port (taken_events ys empty)) (given e) now (subst (λ es. IsGiven (posted_in port es) (given e) None) (sym t) h.given);
  taken = delivered-on (delivered_to port past) (delivered_to port ys) e.from.received now d h.taken;
}

pub received-more : (d d' ms ms' : List Message) (m : Message) (now : Option Why) → ms' ≡ ms ++ m ∷ [] → IsDelivered d ms None → d' ≡ d ++ as_fair m ∷ [] → IsDelivered d' ms' now
received-more d d' ms ms' m now e h f =
    record {
      rest = [];
      first = ap fairly e ∙ (fairly-append ms (m ∷ []) ∙ (ap (λ x. x ++ as_fair m ∷ []) (h.first ∙ (ap (λ x. d ++ x) (h.all refl) ∙ append-nil d)) ∙ (sym f ∙ sym (append-nil d'))));
      all = λ g. refl;
    }

pub received-only : (d d' ms ms' : List Message) (m : Message) (now : Option Why) → now ≢ None → ms' ≡ ms ++ m ∷ [] → IsDelivered d ms None → d' ≡ d → IsDelivered d' ms' now
received-only d d' ms ms' m now stopped e h f =
    record {
      rest = as_fair m ∷ [];
      first = ap fairly e ∙ (fairly-append ms (m ∷ []) ∙ (ap (λ x. x ++ as_fair m ∷ []) (h.first ∙ (ap (λ x. d ++ x) (h.all refl) ∙ append-nil d)) ∙ ap (λ x. x ++ as_fair m ∷ []) (sym f)));
      all = λ g. absurd (stopped g);
    }

pub same-port : (port : PortId) (m : Message) → is_same_port port port ≡ true → message_by port (Deliver port m) ≡ m ∷ []
same-port port m e = rw e refl

pub other-port : (port other : PortId) (m : Message) → is_same_port port other ≡ false → message_by port (Deliver other m) ≡ []
other-port port other m e = rw e refl

-- the end of which it was taken
pub taken-by : (port : PortId) (past more : List Entry) (now : Option Why) (m : Message) (e f : AtEdge) → is_same_port port port ≡ true → TakesEnd m e f
    → taken_events (past ++ more) empty ≡ taken_events past empty → Delivers (Deliver port (as_fair m)) past more now → HasMessages port past None e → HasMessages port (past ++ more) now f
taken-by port past more now m e f same t told by h =
    record {
      given = subst (λ ms. IsGiven (posted_in port (taken_events (past ++ more) empty)) ms now) (sym given_is)
          (given-on (posted_in port (taken_events (past ++ more) empty)) (given e) now (subst (λ es. IsGiven (posted_in port es) (given e) None) (sym told) h.given));
      taken = delivers by;
    } where
      given_is : given f ≡ given e
      given_is = ap (λ (x : Posted). x.sent ++ f.waiting) t.to ∙ ap (λ ms. e.to.sent ++ ms) t.waiting

      delivers : Delivers (Deliver port (as_fair m)) past more now → IsDelivered (delivered_to port (past ++ more)) f.from.received now
      delivers (Delivered d) =
          received-more (delivered_to port past) (delivered_to port (past ++ more)) e.from.received f.from.received m now t.received h.taken
          (d port ∙ ap (λ ms. delivered_to port past ++ ms) (same-port port (as_fair m) same))
      delivers (Undelivered stopped d) = received-only (delivered_to port past) (delivered_to port (past ++ more)) e.from.received f.from.received m now stopped t.received h.taken (d port)

-- and to the other port nothing was delivered
pub other-delivered : (port other : PortId) (past more : List Entry) (now : Option Why) (m : Message) → is_same_port port other ≡ false → Delivers (Deliver other m) past more now
    → delivered_to port (past ++ more) ≡ delivered_to port past
other-delivered port other past more now m apart (Delivered d) = d port ∙ (ap (λ ms. delivered_to port past ++ ms) (other-port port other m apart) ∙ append-nil (delivered_to port past))
other-delivered port other past more now m apart (Undelivered stopped d) = d port

pub ports-differ : (o : Origin) → o ≡ FromPort → is_same_port (sink_port o) source_port ≡ false
ports-differ o e = rw e refl

pub other-above : (o : Origin) (e : Entrance) → IsFedAs o e → (e.above ≡ None) ⊎ (is_same_port source_port (sink_port o) ≡ false)
other-above FromBytes e (off, none) = inl none
other-above FromPort e f = inr refl
other-above FromChunks e f = absurd f

pub not-first : (t : Told Value) (j : ℕ) → only_at 0 t (suc j) ≡ silence
not-first t j = let other : nat_eq (suc j) 0 ≡ false = grind (arith, nat_tests) in rw other refl

pub stopped-none : (o now : Option Why) (port : PortId) (past : List Entry) (x : Option AtEdge) → o ≡ None → EndHas port past o x → EndHas port past None x
stopped-none o now port past x e h = subst (λ q. EndHas port past q x) e h

pub may-fail : (shape : Shape) (n : Node) (m : Message) → shape.target ≡ ToPort → MayFail shape n (Deliver (sink_port shape.origin) m)
may-fail shape n Pull port = AllHaveCauses (All-nil (IsCause n))
may-fail shape n (Chunk v) port = AllHaveCauses (All-nil (IsCause n))
may-fail shape n Close port = AllHaveCauses (All-nil (IsCause n))
may-fail shape n (Error r) port = FromBelow port r refl

pub feeds-edge : (z : Target) (x : Exit) → z ≡ ToPort → FeedsAs z x → feeds_edge x.output ≡ true
feeds-edge ToPort x e f = f.0
feeds-edge ToSink x e f = absurd (cc)

pub same-sink : (o : Origin) → is_same_port (sink_port o) (sink_port o) ≡ true
same-sink FromChunks = refl
same-sink FromBytes = refl
same-sink FromPort = refl

-- what goes on in the realm goes on behind what waits
pub held-waits : (a b : Node) (y : Told (List ℕ)) → waiting_at b.exit.below ≡ waiting_at a.exit.below → Goes (machines (stages_in a.core)) y (parts a) (lying a) (parts b) (lying b)
    → Goes (machines (stages_in a.core)) y (parts a) (held a) (parts b) (held b)
held-waits a b y e g =
    subst (λ (ms : List Message). Goes (machines (stages_in a.core)) y (parts a) (held a) (parts b) (then_told (told_by ms) (lying b))) (sym e)
    (goes_behind (machines (stages_in a.core)) y (parts a) (lying a) (parts b) (lying b) (told_by (waiting_at a.exit.below)) g)

-- it is the same end
pub grown : (m : Message) (e f : AtEdge) (o q : Option AtEdge) → TakesEnd m e f → o ≡ Some e → q ≡ Some f → EndGrows o q (m ∷ []) []
grown m e f o q took is now =
    subst (λ z. EndGrows z q (m ∷ []) []) (sym is)
    (subst (λ z. EndGrows (Some e) z (m ∷ []) []) (sym now)
    (record {
      rows = rows_are;
      received = took.received;
      sent = ap (λ (z : Posted). z.sent) took.to ∙ sym (append-nil e.to.sent);
    })) where
      to_row : f.to.row ≡ e.to.row
      to_row = ap (λ (z : Posted). z.row) took.to

      rows_are : rows_at (Some f) ≡ rows_at (Some e)
      rows_are = rw (took.row, to_row, took.traced) refl

pub older-pushes : (a b : Node) → b.core.stages.items ≡ a.core.stages.items → (b.core.stopped ≡ None → b.core.realm.slots.age ≡ suc a.core.realm.slots.age)
    → ArePushed a.core.realm.slots.age a.core.stages.items → b.core.stopped ≡ None → ArePushed b.core.realm.slots.age b.core.stages.items
older-pushes a b items older pushes going =
    subst (λ ws. ArePushed b.core.realm.slots.age ws) (sym items) (all-more a.core.realm.slots.age b.core.realm.slots.age a.core.stages.items (let h = older going in omega arith) pushes)
