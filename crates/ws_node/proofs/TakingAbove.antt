-- A node takes a message of the edge above and delivers it to its realm.
use Rattle.std.proofs.Common.{◌≡◌, ◌+◌, ◌≤◌, ◌<◌, ℕ, zero, suc, true, false, List, [], ◌∷◌, ◌++◌, length, Option, Some, None, refl, sym, ap, ◌∙◌, subst, arith}
use Rattle.std.specs.Prelude.{Contains}
use Rattle.ws_value.specs.declared.value.Message.{Message}
use Rattle.ws_value.specs.declared.value.Message.TheVariants.{Error}
use Rattle.ws_value.specs.declared.value.Plain.{Plain}
use Rattle.ws_value.specs.declared.value.Value.{Value}
use Rattle.ws_edge.specs.Edge.{AtEdge}
use Rattle.ws_flow.proofs.Steps.{goes_enters}
use Rattle.ws_flow.proofs.Told.{short_trans, short_as, short_left, then_empty}
use Rattle.ws_flow.specs.Parts.{AtWork, Goes}
use Rattle.ws_flow.specs.Rows.{told_by}
use Rattle.ws_flow.specs.Stages.{machines}
use Rattle.ws_flow.specs.Steps.{parts_at, behind_of}
use Rattle.ws_flow.specs.Told.{Open as MayCome, Told, then_told, IsShortOf}
use Rattle.ws_io.specs.Gain.{Got}
use Rattle.ws_io.proofs.Flow.{Gains-nothing}
use Rattle.ws_io.specs.Moment.{Moment}
use Rattle.ws_link_laws.specs.Link.{delivered, is_end}
use Rattle.ws_steps.specs.declared.calls.Call.TheVariants.{Deliver}
use Rattle.ws_steps.specs.Run.{Entry}
use Rattle.ws_chain_laws.proofs.Nodes.{each_nodes_call_brings}
use Rattle.ws_chain_laws.specs.Chain.{Origin, FromPort, behind_at, first_giver, source_port, sink_port}
use Rattle.ws_chain_laws.specs.Nodes.{only_at}
use Rattle.ws_joined_laws.specs.Reasons.{reasons_in}
use Rattle.ws_realm.specs.declared.realm.Why.{Why}
use Rattle.ws_node.specs.declared.node.Exit.{Exit}
use Rattle.ws_node.specs.declared.node.Input.{Input}
use Rattle.ws_node.specs.declared.node.Input.TheVariants as input
use Rattle.ws_node.specs.declared.node.Node.{Node}
use Rattle.ws_node.specs.Edges.{TakesEnd, Brings, broken_by, takes_more, with_above}
use Rattle.ws_node.specs.Messages.{as_fair, fairly}
use Rattle.ws_node.specs.Node.{is_edge, in_bytes, coming, coming_behind, lost_by, lying_by, lies_in, lying, nothing_yet, parts, stages_in, works_in}
use Rattle.ws_node.specs.Past.{IsCause, Passed, EndHas, EndsHave, HasOne, Led, Since}
use Rattle.ws_node.specs.Shape.{Shape, count_in, enters_in}
use Rattle.ws_node.specs.Went.{EdgeGoes, ByEdge}
use Rattle.ws_node.proofs.Changes.{led-above}
use Rattle.ws_node.proofs.Fair.{told-short}
use Rattle.ws_node.proofs.Fairly.{as-fair-is}
use Rattle.ws_node.proofs.Going.{as-many, works-count, goes-quietly, held-goes, only-same}
use Rattle.ws_node.proofs.Handled.{Handled}
use Rattle.ws_node.proofs.Posting.{GoesBy, went-of}
use Rattle.ws_node.proofs.Since.{AfterCall, AllHaveCauses, since-asks}
use Rattle.ws_node.proofs.Delivering.{more-edge, from-edge, comes, breaks, still-edge, reason-caused, last-reason, end-on, taken-by, other-delivered, ports-differ, not-first, stopped-none, grown, older-pushes}

module _ (shape : Shape) (past : List Entry) (a b : Node) (t : Moment) (p : Got) (s : Since shape past a) (goes : a.core.stopped ≡ None) (m : Message) (e f : AtEdge)
    (took : TakesEnd m e f) (more : takes_more a.entrance.input ≡ true) (is : a.entrance.above ≡ Some e) (brings : Brings (as_fair m) (with_above f a) b) where
  abbrev x : Message
  x = as_fair m

  abbrev n : Node
  n = record a { entrance = record a.entrance { above = Some f; input = broken_by x a.entrance.input } }

  was_edge : a.entrance.input ≡ input.Edge
  was_edge = more-edge a.entrance.input more

  fed_by : shape.origin ≡ FromPort
  fed_by = from-edge shape.origin a.entrance s.led.is_of.from (ap is_edge was_edge)

  led : Led shape past n
  led = led-above shape past a e f x (m ∷ []) is took.received s.led

  caused : (r : Plain) → x ≡ Error r → IsCause n r
  caused r g = Passed (subst (λ ms. Contains (reasons_in (fairly ms)) r) (sym took.received) (last-reason e.from.received m r g))

  after : AfterCall shape past (Deliver source_port x) n b
  after = since-asks shape past n b (Deliver source_port x) led
      (record { is_own = tt; clones = as-fair-is m; failed = AllHaveCauses (reason-caused n x caused); closes = λ id g. absurd (cc); flushes = λ id i g. absurd (cc) }) brings

  items : b.core.stages.items ≡ a.core.stages.items
  items = ap (λ (q : Node). q.core.stages.items) after.only.is

  input_is : b.entrance.input ≡ broken_by x input.Edge
  input_is = ap (λ (q : Node). q.entrance.input) after.only.is ∙ ap (broken_by x) was_edge

  above_is : b.entrance.above ≡ Some f
  above_is = ap (λ (q : Node). q.entrance.above) after.only.is

  exit_is : b.exit ≡ a.exit
  exit_is = ap (λ (q : Node). q.exit) after.only.is

  enters : (k : ℕ) → enters_in shape k (Deliver source_port x) ≡ only_at 0 (delivered x) k
  enters k = (each_nodes_call_brings shape.origin k).deliver source_port x (ap (λ (o : Origin). is_end (first_giver o) source_port) fed_by)

  -- what lies before the first stage, and what came
  first : IsShortOf (lies_in b 0) (then_told (lies_in a 0) (told_by (x ∷ [])))
  first =
      let y : Told (List ℕ) = in_bytes (behind_at 0 a.core.realm.slots) in
      let z : Told (List ℕ) = then_told (in_bytes (enters_in shape 0 (Deliver source_port x))) (coming b 0) in
      let lay : lies_in a 0 ≡ y =
      ap (λ (w : Option Why). lying_by w (then_told y (lost_by a.entrance.input))) goes ∙ (ap (λ (i : Input). then_told y (lost_by i)) was_edge ∙ then_empty y) in
      let came : IsShortOf z (told_by (x ∷ [])) =
      subst (λ (u : Told Value). IsShortOf (then_told (in_bytes u) (coming b 0)) (told_by (x ∷ []))) (sym (enters 0))
      (subst (λ (i : Input). IsShortOf (then_told (in_bytes (delivered x)) (lost_by i)) (told_by (x ∷ []))) (sym input_is) (comes x (as-fair-is m))) in
      short_trans (lies_in b 0) (then_told y z) (then_told (lies_in a 0) (told_by (x ∷ [])))
      (subst (λ (w : Option Why). IsShortOf (lies_in b 0) (lying_by w (then_told y z))) goes (after.short (coming b) 0 (omega arith)))
      (short_as _ _ _ (ap (λ q. then_told q (told_by (x ∷ []))) (sym lay)) (short_left y z (told_by (x ∷ [])) came))

  others : (j : ℕ) → suc j ≤ count_in shape → IsShortOf (lies_in b (suc j)) (lies_in a (suc j))
  others j less =
      subst (λ (q : Told (List ℕ)). IsShortOf (lies_in b (suc j)) (lying_by a.core.stopped (then_told (in_bytes (behind_at (suc j) a.core.realm.slots)) q)))
      (ap (λ (q : Told Value). then_told (in_bytes q) (coming b (suc j))) (enters (suc j) ∙ not-first (delivered x) j) ∙ ap (λ ws. coming_behind j ws) items)
      (after.short (coming b) (suc j) less)

  goes_on : Goes (machines (stages_in a.core)) (told_by (x ∷ [])) (parts a) (lying a) (parts b) (lying b)
  goes_on =
      subst (λ (ws : List AtWork). Goes (machines (stages_in a.core)) (told_by (x ∷ [])) (parts a) (lying a) (parts_at 0 ws (lies_in b)) (behind_of 0 ws (lies_in b)))
      (sym (ap (λ (q : Node). works_in q.core) after.only.is))
      (goes_enters (machines (stages_in a.core)) 0 (works_in a.core) (lies_in a) (lies_in b) (told_by (x ∷ [])) (as-many a) first other) where
        other : (j : ℕ) → 0 < j → j ≤ 0 + length (works_in a.core) → IsShortOf (lies_in b j) (lies_in a j)
        other zero some less = absurd (omega arith)
        other (suc j) some less = others j (let l = works-count shape a s.led.is_of.stages in omega arith)

  took_on : GoesBy a b t t p p
  took_on =
      let same = only-same n b after.only in
      record {
        read = told_by (x ∷ []);
        went = nothing_yet;
        gain = [];
        out = MayCome;
        core = record {
          moves = (record { stages = same.stages; goes = held-goes a b (told_by (x ∷ [])) (ap (λ (q : Exit). q.below) exit_is) goes_on }, tt);
          pipe = same.pipe;
          pipes = same.pipes;
          first = same.first;
        };
        from = ByEdge (ap is_edge was_edge) (record {
          taken = m ∷ [];
          posted = [];
          end = grown m e f a.entrance.above b.entrance.above took is above_is;
          came_is = refl;
          short = told-short (m ∷ []);
          goes = subst (λ (i : Input). EdgeGoes i b.entrance.input (x ∷ [])) (sym was_edge) (subst (λ (i : Input). EdgeGoes input.Edge i (x ∷ [])) (sym input_is) (breaks x));
          unread = (refl, refl);
          counted = same.taken;
          source = same.source;
          most = same.most;
        });
        into = goes-quietly a.exit b.exit t p p (Gains-nothing p) same.output same.abort same.sink (ap (λ (q : Exit). q.below) exit_is);
        ahead = λ none by to. absurd (let g : false ≡ true = sym by ∙ ap is_edge was_edge in cc);
        near = λ head pieces is_near. absurd (let g : false ≡ true = sym head.from ∙ ap is_edge was_edge in cc);
        short = λ fed some. absurd (omega arith);
      }

  one-none : HasOne b
  one-none by may = absurd (let g : false ≡ true = sym by ∙ (ap is_edge input_is ∙ still-edge x) in cc)

  ends : EndsHave shape (past ++ after.more) b
  ends =
      record {
        above = subst (EndHas source_port (past ++ after.more) b.core.stopped) (sym above_is)
            (taken-by source_port past after.more b.core.stopped m e f refl took after.taken after.delivered
            (subst (EndHas source_port past None) is (stopped-none a.core.stopped None source_port past a.entrance.above goes s.ends.above)));
        below = subst (λ (q : Exit). EndHas (sink_port shape.origin) (past ++ after.more) b.core.stopped q.below) (sym exit_is)
            (end-on (sink_port shape.origin) past (past ++ after.more) b.core.stopped a.exit.below after.taken
            (other-delivered (sink_port shape.origin) source_port past after.more b.core.stopped x (ports-differ shape.origin fed_by) after.delivered)
            (stopped-none a.core.stopped None (sink_port shape.origin) past a.exit.below goes s.ends.below));
      }

  pub took-above : Handled shape a b t t p p
  took-above =
      record {
        past = past ++ after.more;
        led = after.led;
        pushes = older-pushes a b items after.older (s.pushes goes);
        one = one-none;
        ends = ends;
        went = went-of a b t t p p goes took_on;
      }
