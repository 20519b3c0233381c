-- What the ends of a node's edges have is kept by entries that neither tell of a message nor bring one, and by a realm that stops.
use Rattle.std.proofs.Common.{◌≡◌, List, [], ◌∷◌, ◌++◌, Option, Some, None, refl, sym, ap, ◌∙◌, subst, append-nil, append_assoc}
use Rattle.ws_value.specs.declared.ids.PortId.{PortId}
use Rattle.ws_value.specs.declared.value.Message.{Message}
use Rattle.ws_edge.specs.Edge.{AtEdge}
use Rattle.ws_steps.specs.declared.calls.Call.{Call}
use Rattle.ws_steps.specs.declared.calls.Call.TheVariants.{Deliver}
use Rattle.ws_steps.specs.declared.calls.Event.{Event}
use Rattle.ws_steps.specs.declared.calls.Event.TheVariants.{Post}
use Rattle.ws_steps.specs.Histories.{taken_in_step}
use Rattle.ws_steps.specs.PortHistory.{posted_by, posted_in}
use Rattle.ws_steps.specs.Run.{Entry, Called, Worked, Heard, run, step}
use Rattle.ws_steps.specs.Slots.{Slots, empty}
use Rattle.ws_chain_laws.specs.Chain.{source_port, sink_port}
use Rattle.ws_node_laws.specs.Messages.{taken_events, message_by, delivered_to}
use Rattle.ws_realm.specs.declared.realm.Why.{Why}
use Rattle.ws_realm.specs.declared.realm.Why.TheVariants.{NoMemory}
use Rattle.ws_node.specs.declared.node.Node.{Node}
use Rattle.ws_node.specs.Past.{IsGiven, Whole, FirstPart, WithLast, IsDelivered, EndHas, EndsHave}
use Rattle.ws_node.specs.Shape.{Shape}

-- what a run that is longer by one entry tells of

pub taken-snoc : (xs : List Entry) (x : Entry) (s : Slots) → taken_events (xs ++ x ∷ []) s ≡ taken_events xs s ++ taken_in_step (run xs s) x
taken-snoc [] x s = append-nil (taken_in_step s x)
taken-snoc (y ∷ ys) x s =
    ap (λ (es : List Event). taken_in_step s y ++ es) (taken-snoc ys x (step s y))
    ∙ sym (append_assoc (taken_in_step s y) (taken_events ys (step s y)) (taken_in_step (run ys (step s y)) x))

pub delivered-snoc : (port : PortId) (xs : List Entry) (x : Entry) → delivered_to port (xs ++ x ∷ []) ≡ delivered_to port xs ++ delivered_to port (x ∷ [])
delivered-snoc port [] x = refl
delivered-snoc port (Called c ∷ ys) x =
    ap (λ (ms : List Message). message_by port c ++ ms) (delivered-snoc port ys x) ∙ sym (append_assoc (message_by port c) (delivered_to port ys) (delivered_to port (x ∷ [])))
delivered-snoc port (Worked ∷ ys) x = delivered-snoc port ys x
delivered-snoc port (Heard ∷ ys) x = delivered-snoc port ys x

pub posted-append : (port : PortId) (es fs : List Event) → posted_in port (es ++ fs) ≡ posted_in port es ++ posted_in port fs
posted-append port [] fs = refl
posted-append port (e ∷ es) fs =
    ap (λ (ms : List Message). posted_by port e ++ ms) (posted-append port es fs) ∙ sym (append_assoc (posted_by port e) (posted_in port es) (posted_in port fs))

-- an entry by which the host hears of nothing
pub taken-none : (xs : List Entry) (x : Entry) (s : Slots) → taken_in_step (run xs s) x ≡ [] → taken_events (xs ++ x ∷ []) s ≡ taken_events xs s
taken-none xs x s e = taken-snoc xs x s ∙ (ap (λ (es : List Event). taken_events xs s ++ es) e ∙ append-nil (taken_events xs s))

-- one by which nothing is delivered
pub delivered-none : (port : PortId) (xs : List Entry) (x : Entry) → delivered_to port (x ∷ []) ≡ [] → delivered_to port (xs ++ x ∷ []) ≡ delivered_to port xs
delivered-none port xs x e = delivered-snoc port xs x ∙ (ap (λ (ms : List Message). delivered_to port xs ++ ms) e ∙ append-nil (delivered_to port xs))

-- a call that delivers no message
abbrev pub IsNoMessage : Call → Type 0
IsNoMessage (Deliver c m) = ⊥
IsNoMessage _ = Unit {0}

pub no-message : (port : PortId) (c : Call) → IsNoMessage c → message_by port c ≡ []
no-message port (Deliver d m) h = absurd h
no-message port _ h = refl

-- an event that tells of no message
abbrev pub IsNoPost : Event → Type 0
IsNoPost (Post c m) = ⊥
IsNoPost _ = Unit {0}

pub no-post : (port : PortId) (e : Event) → IsNoPost e → posted_by port e ≡ []
no-post port (Post c m) h = absurd h
no-post port _ h = refl

-- a realm that may have stopped meanwhile: one that goes on went on before, and one to which memory was wanting wants it still

abbrev pub StaysSo : Option Why → Option Why → Type 0
StaysSo old new = (new ≡ None → old ≡ None) × (old ≡ Some NoMemory → new ≡ Some NoMemory)

pub stays-as : (o : Option Why) → StaysSo o o
stays-as o = (λ e. e, λ e. e)

pub stays-going : (old new : Option Why) → old ≡ None → StaysSo old new
stays-going old new goes = (λ e. goes, λ e. absurd (let f : None ≡ Some NoMemory = sym goes ∙ e in cc))

-- the same ends, of which the same was told and to which the same was delivered

given-since : (posted other given : List Message) (old new : Option Why) → other ≡ posted → StaysSo old new → IsGiven posted given old → IsGiven other given new
given-since posted other given old new e stays (Whole f) = Whole (f ∙ sym e)
given-since posted other given old new e stays (FirstPart stopped rest f) = FirstPart (stays.1 stopped) rest (e ∙ f)
given-since posted other given old new e stays (WithLast stopped first rest f none g) = WithLast (stays.1 stopped) first rest (e ∙ f) none g

delivered-since : (delivered other received : List Message) (old new : Option Why) → other ≡ delivered → (new ≡ None → old ≡ None) → IsDelivered delivered received old
    → IsDelivered other received new
delivered-since delivered other received old new e stays h =
    record { rest = h.rest; first = h.first ∙ ap (λ (ms : List Message). ms ++ h.rest) (sym e); all = λ f. h.all (stays f) }

pub end-since : (port : PortId) (past ys : List Entry) (old new : Option Why) (o : Option AtEdge) → posted_in port (taken_events ys empty) ≡ posted_in port (taken_events past empty)
    → delivered_to port ys ≡ delivered_to port past → StaysSo old new → EndHas port past old o → EndHas port ys new o
end-since port past ys old new None p d stays h = tt
end-since port past ys old new (Some e) p d stays h = record {
  given = given-since _ _ _ old new p stays h.given;
  taken = delivered-since _ _ _ old new d stays.0 h.taken;
}

pub ends-same : (shape : Shape) (past ys : List Entry) (a b : Node) → ((port : PortId) → posted_in port (taken_events ys empty) ≡ posted_in port (taken_events past empty))
    → ((port : PortId) → delivered_to port ys ≡ delivered_to port past) → b.entrance.above ≡ a.entrance.above → b.exit.below ≡ a.exit.below
    → StaysSo a.core.stopped b.core.stopped → EndsHave shape past a → EndsHave shape ys b
ends-same shape past ys a b posted delivered above below stays h = record {
  above = subst (EndHas source_port ys b.core.stopped) (sym above)
      (end-since source_port past ys a.core.stopped b.core.stopped a.entrance.above (posted source_port) (delivered source_port) stays h.above);
  below = subst (EndHas (sink_port shape.origin) ys b.core.stopped) (sym below)
      (end-since (sink_port shape.origin) past ys a.core.stopped b.core.stopped a.exit.below (posted (sink_port shape.origin)) (delivered (sink_port shape.origin)) stays h.below);
}

-- with the same past, as when only what the host knows of other things changes
pub ends-as : (shape : Shape) (past : List Entry) (a b : Node) → b.entrance.above ≡ a.entrance.above → b.exit.below ≡ a.exit.below → StaysSo a.core.stopped b.core.stopped
    → EndsHave shape past a → EndsHave shape past b
ends-as shape past a b above below stays h = ends-same shape past past a b (λ port. refl) (λ port. refl) above below stays h
