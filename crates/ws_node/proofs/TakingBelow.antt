-- A node takes a message of the edge below and delivers it to its realm.
use Rattle.std.proofs.Common.{◌≡◌, ◌⊎◌, inl, inr, ◌+◌, ◌≤◌, ℕ, false, List, [], ◌∷◌, ◌++◌, Option, Some, None, refl, sym, ap, ◌∙◌, subst, arith}
use Rattle.ws_value.specs.declared.ids.PortId.{PortId}
use Rattle.ws_value.specs.declared.value.Message.{Message}
use Rattle.ws_value.specs.declared.value.Value.{Value}
use Rattle.ws_port.specs.Ends.{Posted}
use Rattle.ws_edge.specs.Edge.{AtEdge}
use Rattle.ws_flow.proofs.Steps.{goes_rests}
use Rattle.ws_flow.proofs.Told.{then_empty}
use Rattle.ws_flow.specs.Parts.{AtWork, Goes}
use Rattle.ws_flow.specs.Stages.{machines}
use Rattle.ws_flow.specs.Steps.{parts_at, behind_of}
use Rattle.ws_flow.specs.Told.{Open as MayCome, Told, then_told, IsShortOf}
use Rattle.ws_io.specs.Gain.{Got}
use Rattle.ws_io.proofs.Flow.{Gains-nothing}
use Rattle.ws_io.specs.Moment.{Moment}
use Rattle.ws_link_laws.specs.Link.{silence, delivered}
use Rattle.ws_steps.specs.declared.calls.Call.TheVariants.{Deliver}
use Rattle.ws_steps.specs.PortHistory.{is_same_port}
use Rattle.ws_steps.specs.Run.{Entry}
use Rattle.ws_chain_laws.proofs.Nodes.{each_nodes_call_brings}
use Rattle.ws_chain_laws.specs.Chain.{Target, ToSink, ToPort, behind_at, source_port, sink_port}
use Rattle.ws_node.specs.declared.node.Entrance.{Entrance}
use Rattle.ws_node.specs.declared.node.Input.TheVariants as input
use Rattle.ws_node.specs.declared.node.Node.{Node}
use Rattle.ws_node.proofs.Changes.{led-below, led-broken}
use Rattle.ws_node.specs.Edges.{TakesEnd, with_below, BringsUp, breaks_by, broken_after}
use Rattle.ws_node.specs.Messages.{as_fair}
use Rattle.ws_node.specs.Moves.{Asks}
use Rattle.ws_node.specs.Node.{is_edge, in_bytes, coming, coming_by, lying_by, lies_in, lying, nothing_yet, parts, stages_in, works_in, port_below, waiting_at, received_at, given_at}
use Rattle.ws_node.specs.Past.{FeedsAs, EndHas, EndsHave, OneAtMost, HasOne, may_have, Since}
use Rattle.ws_node.specs.Shape.{Shape, count_in, enters_in}
use Rattle.ws_node.specs.Went.{ToEdge}
use Rattle.ws_node.proofs.Fairly.{as-fair-is}
use Rattle.ws_node.proofs.Going.{as-many, works-count, comes-quietly, only-same}
use Rattle.ws_node.proofs.Handled.{Handled}
use Rattle.ws_node.proofs.Delivering.{port-is, sink-apart, end-on, taken-by, other-delivered, other-above, stopped-none, may-fail, feeds-edge, same-sink, held-waits, grown, older-pushes}
use Rattle.ws_node.proofs.Nearing.{near-taken}
use Rattle.ws_node.proofs.Posting.{GoesBy, went-of}
use Rattle.ws_node.proofs.Since.{AfterCall, since-asks}

module _ (shape : Shape) (past : List Entry) (a b : Node) (t : Moment) (p : Got) (s : Since shape past a) (goes : a.core.stopped ≡ None) (m : Message) (e f : AtEdge)
    (took : TakesEnd m e f) (is : a.exit.below ≡ Some e) (asks : BringsUp (port_below a.entrance) (as_fair m) (with_below f a) b) where
  abbrev x : Message
  x = as_fair m

  abbrev n : Node
  n = breaks_by x (with_below f a)

  abbrev port : PortId
  port = sink_port shape.origin

  asked : Asks (Deliver port x) n b
  asked = subst (λ (c : PortId). Asks (Deliver c x) n b) (port-is shape.origin a.entrance s.led.is_of.from) asks

  feeds : shape.target ≡ ToPort
  feeds = by shape.target s.led.is_of.into where
    by : (z : Target) → FeedsAs z a.exit → z ≡ ToPort
    by ToSink g = absurd (let h : None ≡ Some e = sym g.1 ∙ is in cc)
    by ToPort g = refl

  after : AfterCall shape past (Deliver port x) n b
  after = since-asks shape past n b (Deliver port x) (led-broken shape past (with_below f a) (broken_after x a.exit.broken) (led-below shape past a e f is s.led))
      (record { is_own = tt; clones = as-fair-is m; failed = may-fail shape n x feeds; closes = λ id g. absurd (cc); flushes = λ id i g. absurd (cc) }) asked

  items : b.core.stages.items ≡ a.core.stages.items
  items = ap (λ (q : Node). q.core.stages.items) after.only.is

  entrance_is : b.entrance ≡ a.entrance
  entrance_is = ap (λ (q : Node). q.entrance) after.only.is

  below_is : b.exit.below ≡ Some f
  below_is = ap (λ (q : Node). q.exit.below) after.only.is

  enters : (k : ℕ) → enters_in shape k (Deliver port x) ≡ silence
  enters k = (each_nodes_call_brings shape.origin k).elsewhere port x (sink-apart shape.origin)

  coming_is : (k : ℕ) → coming b k ≡ coming a k
  coming_is k = ap (λ (q : Node). coming_by q.entrance.input q.core.stages.items k) after.only.is

  rests : (k : ℕ) → k ≤ count_in shape → IsShortOf (lies_in b k) (lies_in a k)
  rests k less =
      subst (λ (q : Told (List ℕ)). IsShortOf (lies_in b k) (lying_by a.core.stopped (then_told (in_bytes (behind_at k a.core.realm.slots)) q)))
      (ap (λ (q : Told Value). then_told (in_bytes q) (coming b k)) (enters k) ∙ coming_is k) (after.short (coming b) k less)

  goes_on : Goes (machines (stages_in a.core)) nothing_yet (parts a) (lying a) (parts b) (lying b)
  goes_on =
      subst (λ (ws : List AtWork). Goes (machines (stages_in a.core)) nothing_yet (parts a) (lying a) (parts_at 0 ws (lies_in b)) (behind_of 0 ws (lies_in b)))
      (sym (ap (λ (q : Node). works_in q.core) after.only.is))
      (goes_rests (machines (stages_in a.core)) 0 (works_in a.core) (lies_in a) (lies_in b) (as-many a) (λ j some less. rests j (let l = works-count shape a s.led.is_of.stages in omega arith)))

  waits-same : waiting_at b.exit.below ≡ waiting_at a.exit.below
  waits-same = ap waiting_at below_is ∙ (took.waiting ∙ ap waiting_at (sym is))

  given-same : given_at b.exit.below ≡ given_at a.exit.below
  given-same = ap given_at below_is ∙ (ap (λ (q : Posted). q.sent ++ f.waiting) took.to ∙ (ap (λ ms. e.to.sent ++ ms) took.waiting ∙ ap given_at (sym is)))

  took_on : GoesBy a b t t p p
  took_on =
      let same = only-same n b after.only in
      record {
        read = nothing_yet;
        went = nothing_yet;
        gain = [];
        out = MayCome;
        core = record {
          moves = (record { stages = same.stages; goes = held-waits a b nothing_yet waits-same goes_on }, tt);
          pipe = same.pipe;
          pipes = same.pipes;
          first = same.first;
        };
        from = comes-quietly a.entrance b.entrance t same.taken same.input same.source same.most (ap (λ (q : Entrance). q.above) entrance_is);
        into = ToEdge (feeds-edge shape.target a.exit feeds s.led.is_of.into) (record {
          taken = m ∷ [];
          posted = [];
          end = grown m e f a.exit.below b.exit.below took is below_is;
          went_is = refl;
          gained = Gains-nothing p;
          output = same.output;
          may_come = refl;
          alone = record { none = refl; calm = refl; finished = refl };
          abort = same.abort;
          sink = same.sink;
        });
        ahead = λ none by to. let ahead = ap (λ (q : Entrance). q.ahead) entrance_is in omega arith;
        near = λ head pieces is_near.
            near-taken a b m pieces goes given-same (ap received_at below_is ∙ (took.received ∙ ap (λ (o : Option AtEdge). received_at o ++ m ∷ []) (sym is)))
            (ap (λ (q : Node). q.exit.broken) after.only.is) (ap (λ (q : Entrance). q.ahead) entrance_is) is_near;
        short = λ fed some. absurd (omega arith);
      }

  one-rests : HasOne b
  one-rests by may =
      subst (λ q. OneAtMost q (behind_at 0 b.core.realm.slots).items) (sym (ap (λ (q : Entrance). q.ahead) entrance_is))
      (after.one a.entrance.ahead
      (subst (λ (q : Told Value). OneAtMost a.entrance.ahead q.items) (sym (ap (then_told (behind_at 0 a.core.realm.slots)) (enters 0) ∙ then_empty (behind_at 0 a.core.realm.slots)))
      (s.one (sym (ap (λ (q : Entrance). is_edge q.input) entrance_is) ∙ by)
      (sym (ap (λ (q : Node). may_have q.core.stages.items q.exit.output q.exit.abort) after.only.is) ∙ may))))

  ends : EndsHave shape (past ++ after.more) b
  ends =
      record {
        above = subst (λ (q : Entrance). EndHas source_port (past ++ after.more) b.core.stopped q.above) (sym entrance_is)
            (up-on (other-above shape.origin a.entrance s.led.is_of.from));
        below = subst (EndHas port (past ++ after.more) b.core.stopped) (sym below_is)
            (taken-by port past after.more b.core.stopped m e f (same-sink shape.origin) took after.taken after.delivered
            (subst (EndHas port past None) is (stopped-none a.core.stopped None port past a.exit.below goes s.ends.below)));
      } where
        up-on : (a.entrance.above ≡ None) ⊎ (is_same_port source_port port ≡ false) → EndHas source_port (past ++ after.more) b.core.stopped a.entrance.above
        up-on (inl none) = subst (EndHas source_port (past ++ after.more) b.core.stopped) (sym none) tt
        up-on (inr apart) =
            end-on source_port past (past ++ after.more) b.core.stopped a.entrance.above after.taken (other-delivered source_port port past after.more b.core.stopped x apart after.delivered)
            (stopped-none a.core.stopped None source_port past a.entrance.above goes s.ends.above)

  pub took-below : Handled shape a b t t p p
  took-below =
      record {
        past = past ++ after.more;
        led = after.led;
        pushes = older-pushes a b items after.older (s.pushes goes);
        one = one-rests;
        ends = ends;
        went = went-of a b t t p p goes took_on;
      }
