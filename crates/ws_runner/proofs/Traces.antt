-- What the traces of a run's edges tell: each edge is legal and keeps its credit, and the chunks add up.
use Rattle.std.proofs.Common.{◌≡◌, ◌≢◌, ◌+◌, ◌≤◌, ℕ, suc, pos, Bool, true, false, List, [], ◌∷◌, ◌++◌, length, take, nat_abs, Option, refl, sym, ap, ◌∙◌, subst, arith}
use Rattle.std.specs.Prelude.{All, int_le}
use Rattle.std.specs.List.{concat}
use Rattle.std.proofs.lemmas.List.Elements.{All-nil, All-cons}
use Rattle.ws_value.specs.declared.value.Message.{Message}
use Rattle.ws_value.specs.declared.value.Plain.{Plain}
use Rattle.ws_edge.specs.declared.mark.Mark.{Mark}
use Rattle.ws_edge.specs.Edge.{AtEdge}
use Rattle.ws_edge.specs.Marks.{marks_of}
use Rattle.ws_flow.specs.declared.plan.Plan.{Plan}
use Rattle.ws_flow.specs.Laws as flow
use Rattle.ws_flow.specs.Machines.{all_through}
use Rattle.ws_flow.specs.Plans.{as_one, sees_known_chunks, stages_of}
use Rattle.ws_flow.specs.Stages.{machines}
use Rattle.ws_flow.specs.Told.{bytes_of, Mark as Ending, Closed, Told, told}
use Rattle.ws_flow.proofs.Cutting.{same_cut, some_joined}
use Rattle.ws_flow.proofs.Lengths.{accepted}
use Rattle.ws_io.specs.Gain.{Got}
use Rattle.ws_io.specs.Moment.{Moment}
use Rattle.ws_io.specs.declared.status.Status.{Status}
use Rattle.ws_io.specs.declared.status.Status.TheVariants as status
use Rattle.ws_joined_laws.specs.RunEnds.{IsStatus, Complete, Rejected, Wanting}
use Rattle.ws_node_laws.specs.Edges as edges
use Rattle.ws_node.specs.declared.node.Node.{Node}
use Rattle.ws_node.specs.Node.{is_edge, received_at, sent_at}
use Rattle.ws_node.specs.Nodes.{AllHaveMet, HaveMet, Nodes, of_input}
use Rattle.ws_node.specs.Ends.{Ends}
use Rattle.ws_node.specs.Opening.{IsAccepted}
use Rattle.ws_node.specs.Past.{Driven}
use Rattle.ws_node.specs.Rules.{EachNodeSendsDown}
use Rattle.ws_node.specs.Shares.{head_of, tail_of}
use Rattle.ws_node_rules.proofs.AtOnce.{ends-at_once}
use Rattle.ws_node.proofs.Between.{each_edge_keeps_rules}
use Rattle.ws_node.proofs.Passing.{Starts, PassOn, Stops}
use Rattle.ws_node.proofs.Pieces.{told-pieces}
use Rattle.ws_node.proofs.Sharing.{none-shared}
use Rattle.ws_node.proofs.SinceNew.{by-input, inside_of}
use Rattle.ws_runner.specs.declared.trace.EdgeTrace.{EdgeTrace}
use Rattle.ws_runner.specs.Chain.{HasEnded}
use Rattle.ws_runner.specs.Meeting.{AreTraces, IsTrace, TracesAre}
use Rattle.ws_runner.specs.declared.trace.Finished.{Finished}
use Rattle.ws_runner.specs.Trace as trace
use Rattle.ws_runner.specs.Trace.{AreWhole, Finishes, HasEdges, IsLegal, IsWhole, KeepsCredit, OfFirst, OfLast, bytes_in, bytes_made, received_above, received_below, stages_up_to}
use Rattle.ws_runner.proofs.ChainAhead.{reads}
use Rattle.ws_runner.proofs.ChainEnds as chain
use Rattle.ws_runner.proofs.ChainEnds.{betweens, not-done}
use Rattle.ws_runner.proofs.Marks.{asks-marks, bytes-fair, bytes-marks, chunks-marks, close-marks, down-marks, marks-front, marks-length, pulls-marks, up-marks}
use Rattle.ws_runner.proofs.Traced.{traces-many}
use Rattle.ws_runner.proofs.UpTo.{known-up-to, next-stages, no-stages}
use Rattle.ws_runner.proofs.Whole.{AllAt, IsAt, all-at, at-least, at-most, read-closed}
use Rattle.ws_runner.proofs.Workers.{ArePlaced}

-- One edge

first-marks : (sent received rest : List Message) (marks : List Mark) (n : ℕ) → marks ≡ marks_of sent → n ≡ length received → sent ≡ received ++ rest → take n marks ≡ marks_of received
first-marks sent received rest marks n m l e =
    ap (λ q. take q marks) l ∙ ap (λ q. take (length received) q) (m ∙ ap marks_of e) ∙ marks-front received rest

no-more : (sent received rest : List Message) (marks : List Mark) (n : ℕ) → marks ≡ marks_of sent → n ≡ length received → sent ≡ received ++ rest → n ≤ length marks
no-more sent received rest marks n m l e =
    let a = ap length m ∙ marks-length sent in let b = ap length e in let c = front received rest in omega (arith, a, b, c, l)
  where
    front : (xs ys : List Message) → length xs ≤ length (xs ++ ys)
    front [] ys = omega arith
    front (x ∷ xs) ys = let h = front xs ys in omega (arith, h)

module _ (upper lower : Option AtEdge) (e : EdgeTrace) (t : IsTrace upper lower e) where
  abbrev pub edge : edges.Edge
  edge = record {
    down = record { sent = sent_at upper; received = received_at lower };
    up = record { sent = sent_at lower; received = received_at upper };
  }

  pub taken-below : (rest : List Message) → sent_at upper ≡ received_at lower ++ rest → received_below e ≡ marks_of (received_at lower)
  taken-below rest f = first-marks (sent_at upper) (received_at lower) rest e.down.items e.down_taken t.down t.down_taken f

  taken-above : (rest : List Message) → sent_at lower ≡ received_at upper ++ rest → received_above e ≡ marks_of (received_at upper)
  taken-above rest f = first-marks (sent_at lower) (received_at upper) rest e.up.items e.up_taken t.up t.up_taken f

  pub legal-edge : edges.IsLegal edge → IsLegal e
  legal-edge h = record {
    down = ap trace.goes_down t.down ∙ down-marks (sent_at upper) h.down.kinds h.down.last;
    up = ap trace.goes_up t.up ∙ up-marks (sent_at lower) h.up.kinds h.up.last;
    down_taken = no-more (sent_at upper) (received_at lower) h.down.rest e.down.items e.down_taken t.down t.down_taken h.down.front;
    up_taken = no-more (sent_at lower) (received_at upper) h.up.rest e.up.items e.up_taken t.up t.up_taken h.up.front;
  }

  pub credited-edge : edges.IsLegal edge → edges.IsCredited edge → KeepsCredit e
  credited-edge h k =
      let below = taken-below h.down.rest h.down.front in
      let above = taken-above h.up.rest h.up.front in
      let sent = ap trace.chunks_in t.down ∙ chunks-marks (sent_at upper) in
      let pulls = ap trace.pulls_in t.up ∙ pulls-marks (sent_at lower) in
      let asks = asks-marks (received_at upper) in
      let came = ap trace.chunks_in below ∙ chunks-marks (received_at lower) in
      let p = ap trace.pulls_in above in
      let r = ap trace.errors_in above in
      let c = k.chunks in
      let d = k.pulls in
      record { chunks = omega (arith, sent, asks, p, r, c); pulls = omega (arith, pulls, came, d) }

-- All edges of a run

each-rule : (upper : Node) (ns : List Node) (lower : Node) (es : List EdgeTrace) → Driven upper → Driven lower → AllHaveMet upper.exit.below ns lower.entrance.above
    → AreTraces upper.exit.below ns lower.entrance.above es → All IsLegal es × All KeepsCredit es
each-rule upper [] lower [] d f m t = absurd t
each-rule upper [] lower (e ∷ []) d f m t =
    let r = each_edge_keeps_rules upper lower d f (record { down = (m.left_below, m.down); up = (m.left_above, m.up) }) in (
      All-cons IsLegal e [] (legal-edge upper.exit.below lower.entrance.above e t r.legal) (All-nil IsLegal),
      All-cons KeepsCredit e [] (credited-edge upper.exit.below lower.entrance.above e t r.legal r.credit) (All-nil KeepsCredit),
    )
each-rule upper [] lower (e ∷ g ∷ es) d f m t = absurd t
each-rule upper (n ∷ ns) lower [] d f m t = absurd t
each-rule upper (n ∷ ns) lower (e ∷ es) d f (m, dn, ms) (t, ts) =
    let r = each_edge_keeps_rules upper n d dn (record { down = (m.left_below, m.down); up = (m.left_above, m.up) }) in
    let rest = each-rule n ns lower es dn f ms ts in (
      All-cons IsLegal e es (legal-edge upper.exit.below n.entrance.above e t r.legal) rest.0,
      All-cons KeepsCredit e es (credited-edge upper.exit.below n.entrance.above e t r.legal r.credit) rest.1,
    )

-- of the first and the last of them

first-one : (P : EdgeTrace → Type 0) (upper lower : Option AtEdge) (ns : List Node) (es : List EdgeTrace) → AreTraces upper ns lower es
    → ((o : Option AtEdge) (e : EdgeTrace) → IsTrace upper o e → P e) → OfFirst P es
first-one P upper lower [] [] t h = absurd t
first-one P upper lower [] (e ∷ []) t h = h lower e t
first-one P upper lower [] (e ∷ f ∷ es) t h = absurd t
first-one P upper lower (n ∷ ns) [] t h = absurd t
first-one P upper lower (n ∷ ns) (e ∷ es) (t, ts) h = h n.entrance.above e t

last-one : (P : EdgeTrace → Type 0) (upper lower : Option AtEdge) (ns : List Node) (es : List EdgeTrace) → AllHaveMet upper ns lower → AreTraces upper ns lower es
    → ((o : Option AtEdge) (e : EdgeTrace) → HaveMet o lower → IsTrace o lower e → P e) → OfLast P es
last-one P upper lower [] [] m t h = absurd t
last-one P upper lower [] (e ∷ []) m t h = h upper e m t
last-one P upper lower [] (e ∷ f ∷ es) m t h = absurd t
last-one P upper lower (n ∷ ns) [] m t h = absurd t
last-one P upper lower (n ∷ ns) (e ∷ []) (m, d, ms) (t, ts) h = absurd (none n.exit.below ns ts)
  where
    none : (o : Option AtEdge) (ns : List Node) → AreTraces o ns lower [] → ⊥
    none o [] t = t
    none o (n ∷ ns) t = t
last-one P upper lower (n ∷ ns) (e ∷ f ∷ es) (m, d, ms) (t, ts) h = last-one P n.exit.below lower ns (f ∷ es) ms ts h

-- where the run is done

module _ (plan : Plan) (high : ℕ) (placed : ArePlaced 0 high plan.stages.items) (known : sees_known_chunks false (stages_of plan) ≡ true) (read : Told (List ℕ)) (closed : read.mark ≡ Closed) where
  taken-as : bytes_of read ≡ bytes_of (as_one (concat read.items) Closed)
  taken-as = ap (λ m. told (concat read.items) m) closed ∙ ap (λ q. told q Closed) (sym (some_joined (concat read.items)))

  whole-edge : (w : ℕ) (upper lower : Option AtEdge) (e : EdgeTrace) → IsAt (stages_up_to w plan) read (sent_at upper) (received_at lower) → IsTrace upper lower e
      → IsWhole (bytes_made w plan (concat read.items)) e
  whole-edge w upper lower e a t = record {
    closed = ap trace.ends_with_close t.down ∙ close-marks (sent_at upper) a.last a.closed;
    taken = t.down_taken ∙ ap length a.all ∙ sym (marks-length (sent_at upper)) ∙ sym (ap length t.down);
    bytes_are =
        ap bytes_in t.down ∙ bytes-marks (sent_at upper) a.last ∙ ap (λ (x : Told (List ℕ)). length (concat x.items)) a.told
        ∙ ap (λ (x : Told ℕ). length x.items) (same_cut (stages_up_to w plan) read (as_one (concat read.items) Closed) (known-up-to w high plan placed known) taken-as).bytes;
  }

  pub all-whole : (w : ℕ) (upper lower : Option AtEdge) (ns : List Node) (es : List EdgeTrace) → AllAt (stages_up_to w plan) read (sent_at upper) (betweens (suc w) plan ns) (received_at lower)
      → AreTraces upper ns lower es → AreWhole w plan (concat read.items) es
  all-whole w upper lower [] [] a t = absurd t
  all-whole w upper lower [] (e ∷ []) a t = (whole-edge w upper lower e a t, tt)
  all-whole w upper lower [] (e ∷ f ∷ es) a t = absurd t
  all-whole w upper lower (n ∷ ns) [] a t = absurd t
  all-whole w upper lower (n ∷ ns) (e ∷ es) (a, rest) (t, ts) = (
    whole-edge w upper n.entrance.above e a t,
    all-whole (suc w) n.exit.below lower ns es
        (subst (λ ss. AllAt ss read (sent_at n.exit.below) (betweens (suc (suc w)) plan ns) (received_at lower)) (sym (next-stages w high plan placed)) rest) ts,
  )

done-closed : (m : Ending) (last : List Plain) (s : Status) → IsStatus m last s → s ≡ status.Done → m ≡ Closed
done-closed m last s (Complete c e) d = c
done-closed m last s (Rejected r c h e) d = absurd (not-done r (sym e ∙ d))
done-closed m last s (Wanting c e) d = absurd (cc)

module _ (rules : EachNodeSendsDown) (plan : Plan) (s : Status) (a b : Nodes) (old new : Moment) (got got' : Got) (acc : flow.IsAccepted plan)
    (some : int_le plan.workers (pos 0) ≡ false) (h : HasEnded plan s a b old new got got') where
  abbrev high : ℕ
  high = nat_abs plan.workers

  abbrev sent : List Message
  sent = sent_at b.head.exit.below

  abbrev received : List Message
  received = received_at b.tail.entrance.above

  abbrev read : Told (List ℕ)
  read = h.went.head.read

  placed : ArePlaced 0 high plan.stages.items
  placed = chain.placed rules plan s a b old new got got' acc some h

  ending : chain.TailEnds b.tail h.went.tail.out s
  ending = chain.ending rules plan s a b old new got got' acc some h

  starts : Starts read (inside_of (head_of plan).stages b.head) sent
  starts = chain.starts rules plan old new a.head b.head h.begun.head h.went.head h.head

  on : PassOn sent (betweens 1 plan b.middles) received
  on = chain.pass-on rules 1 plan b.head.exit.below b.tail.entrance.above a.middles b.middles h.begun.middles h.went.middles h.met

  stops : Stops plan.abort_after (inside_of (tail_of plan).stages b.tail) received (told h.went.tail.gain h.went.tail.out) ending.last
  stops = chain.stops plan (length plan.stages.items) old new got got' a.tail b.tail h.begun.tail h.went.tail ending.last ending.causes

  module _ (done : s ≡ status.Done) where
    closed : h.went.tail.out ≡ Closed
    closed = done-closed h.went.tail.out ending.last s ending.status_is done

    all-read : read.mark ≡ Closed
    all-read = read-closed plan.abort_after (inside_of (tail_of plan).stages b.tail) received (told h.went.tail.gain h.went.tail.out) ending.last stops closed read
        (inside_of (head_of plan).stages b.head) sent (betweens 1 plan b.middles) starts on

    at-edges : AllAt (stages_up_to 0 plan) read sent (betweens 1 plan b.middles) received
    at-edges =
        subst (λ ss. AllAt ss read sent (betweens 1 plan b.middles) received) (none-shared plan.stages.items ∙ sym (no-stages high plan placed))
        (all-at plan.abort_after (inside_of (tail_of plan).stages b.tail) received (told h.went.tail.gain h.went.tail.out) ending.last stops closed read
        (inside_of (head_of plan).stages b.head) sent (betweens 1 plan b.middles) starts on)

  none-head : (head_of plan).stages ≡ []
  none-head = none-shared plan.stages.items

  none-tail : (tail_of plan).stages ≡ []
  none-tail = none-shared plan.stages.items

  all-bytes : s ≡ status.Done → bytes_made 0 plan (concat read.items) ≡ length (concat read.items)
  all-bytes done =
      ap (λ ss. length (bytes_of (all_through (machines ss) (as_one (concat read.items) Closed))).items) (no-stages high plan placed)
      ∙ ap length (some_joined (concat read.items))

  first-most : (o : Option AtEdge) (e : EdgeTrace) → IsTrace b.head.exit.below o e → bytes_in e.down.items ≤ length (concat read.items)
  first-most o e t =
      let is = ap bytes_in t.down ∙ bytes-marks sent starts.sends.last in
      let most = at-most read (inside_of (head_of plan).stages b.head) sent none-head starts in
      omega (arith, is, most)

  head-taken : b.head.entrance.taken ≡ length (concat read.items)
  head-taken =
      let fed = by-input a.head.entrance b.head.entrance (of_input old) (of_input new) read (ap is_edge h.begun.head.input) h.went.head.from in
      let counted = fed.counted in
      let none = h.begun.head.taken in
      omega (arith, counted, none)

  first-near : (o : Option AtEdge) (e : EdgeTrace) → IsTrace b.head.exit.below o e → length (concat read.items) ≤ bytes_in e.down.items + 8192
  first-near o e t =
      let is = ap bytes_in t.down ∙ bytes-marks sent starts.sends.last in
      let pieces = ap (λ cs. length (concat cs)) (told-pieces sent starts.sends.kinds starts.sends.last) in
      let near = (reads plan s a b old new got got' h).near in
      let taken = head-taken in
      omega (arith, is, pieces, near, taken)

  last-least : (o : Option AtEdge) (e : EdgeTrace) → HaveMet o b.tail.entrance.above → IsTrace o b.tail.entrance.above e → length h.went.tail.gain ≤ bytes_in (received_below e)
  last-least o e m t =
      let is = ap bytes_in (taken-below o b.tail.entrance.above e t m.left_below m.down) in
      let fair = bytes-fair received in
      let least = at-least plan.abort_after (inside_of (tail_of plan).stages b.tail) received (told h.went.tail.gain h.went.tail.out) ending.last none-tail stops in
      omega (arith, is, fair, least)

  many-on : length b.middles ≡ high
  many-on = chain.many rules plan s a b old new got got' acc some h

  whole-first : (n : ℕ) (es : List EdgeTrace) → bytes_made 0 plan (concat read.items) ≡ n → AreWhole 0 plan (concat read.items) es → OfFirst (λ e. bytes_in e.down.items ≡ n) es
  whole-first n [] e w = tt
  whole-first n (x ∷ es) e (w, ws) = w.bytes_are ∙ e

  -- with a trace
  traced-edges : (es : List EdgeTrace) → AreTraces b.head.exit.below b.middles b.tail.entrance.above es → HasEdges es plan true s (concat read.items) h.went.tail.gain
  traced-edges es t =
      let rule = each-rule b.head b.middles b.tail es h.head h.tail h.met t in
      let long = traces-many b.head.exit.below b.tail.entrance.above b.middles es t in
      let whole : s ≡ status.Done → AreWhole 0 plan (concat read.items) es =
      λ d. all-whole plan high placed acc.known read (all-read d) 0 b.head.exit.below b.tail.entrance.above b.middles es (at-edges d) t in
      record {
        untraced = λ f. absurd (cc);
        alone = λ f. absurd (cc);
        many = λ f. let m = many-on in omega (arith, m, long);
        some = λ f g k e. let z = ap length e in omega (arith, z, long);
        legal = rule.0;
        credit = rule.1;
        whole = whole;
        all = λ d. whole-first (length (concat read.items)) es (all-bytes d) (whole d);
        most = first-one (λ e. bytes_in e.down.items ≤ length (concat read.items)) b.head.exit.below b.tail.entrance.above b.middles es t first-most;
        near = first-one (λ e. length (concat read.items) ≤ bytes_in e.down.items + 8192) b.head.exit.below b.tail.entrance.above b.middles es t first-near;
        written = last-one (λ e. length h.went.tail.gain ≤ bytes_in (received_below e)) b.head.exit.below b.tail.entrance.above b.middles es h.met t last-least;
      }

-- no edges at all
pub no-edges : (es : List EdgeTrace) (plan : Plan) (traced : Bool) (s : Status) (taken gain : List ℕ) → es ≡ [] → (traced ≡ true → int_le plan.workers (pos 0) ≡ false → s ≢ status.NoMemory → ⊥)
    → HasEdges es plan traced s taken gain
no-edges es plan traced s taken gain e some = subst (λ q. HasEdges q plan traced s taken gain) (sym e) (record {
  untraced = λ f. refl;
  alone = λ f. refl;
  many = λ f. absurd (f refl);
  some = λ f g k e. some f g k;
  legal = All-nil IsLegal;
  credit = All-nil KeepsCredit;
  whole = λ d. tt;
  all = λ d. tt;
  most = tt;
  near = tt;
  written = tt;
})

has-edges : (rules : EachNodeSendsDown) (plan : Plan) (s : Status) (a b : Nodes) (old new : Moment) (got got' : Got) (acc : IsAccepted plan) (some : int_le plan.workers (pos 0) ≡ false)
    (h : HasEnded plan s a b old new got got') (traced : Bool) (es : List EdgeTrace) → TracesAre traced b.head.exit.below b.middles b.tail.entrance.above es
    → HasEdges es plan traced s (concat h.went.head.read.items) h.went.tail.gain
has-edges rules plan s a b old new got got' acc some h true es t = traced-edges rules plan s a b old new got got' (accepted plan acc) some h es t
has-edges rules plan s a b old new got got' acc some h false es t = no-edges es plan false s (concat h.went.head.read.items) h.went.tail.gain t (λ f. absurd (cc))

-- How runs finish

-- one with workers
pub chain-finishes : (rules : EachNodeSendsDown) (plan : Plan) (f : Finished) (a b : Nodes) (old new : Moment) (got got' : Got) → IsAccepted plan → int_le plan.workers (pos 0) ≡ false
    → HasEnded plan f.status a b old new got got' → (traced : Bool) → TracesAre traced b.head.exit.below b.middles b.tail.entrance.above f.edges.items → Finishes f plan traced old new got got'
chain-finishes rules plan f a b old new got got' acc some h traced t =
    let e = chain.ends-of rules plan f.status a b old new got got' (accepted plan acc) some h in
    let has = has-edges rules plan f.status a b old new got got' acc some h traced f.edges.items t in
    record {
      ends = e.0;
      edges =
          subst (λ taken. HasEdges f.edges.items plan traced f.status taken e.0.gain) (sym e.1)
          (subst (λ gain. HasEdges f.edges.items plan traced f.status (concat h.went.head.read.items) gain) (sym e.2) has);
    }

-- one that found no memory before its first turn
pub none-finishes : (plan : Plan) (f : Finished) (traced : Bool) (m : Moment) (p : Got) → f.status ≡ status.NoMemory → f.edges.items ≡ [] → Finishes f plan traced m m p p
none-finishes plan f traced m p e none =
    let ends : Ends f.status plan m m p p = subst (λ s. Ends s plan m m p p) (sym e) (ends-at_once plan m p) in
    record { ends = ends; edges = no-edges f.edges.items plan traced f.status ends.taken ends.gain none (λ t w k. k e) }

-- one without workers
pub whole-finishes : (plan : Plan) (f : Finished) (traced : Bool) (old new : Moment) (got got' : Got) → Ends f.status plan old new got got' → f.edges.items ≡ []
    → int_le plan.workers (pos 0) ≡ true → Finishes f plan traced old new got got'
whole-finishes plan f traced old new got got' ends none alone =
    record { ends = ends; edges = no-edges f.edges.items plan traced f.status ends.taken ends.gain none (λ t w k. absurd (cc)) }
