-- The nodes of a run with workers over any number of turns: their edges stay theirs, and meet at the end.
use Rattle.std.proofs.Common.{◌≡◌, ◌+◌, ◌≤◌, ℕ, zero, suc, ℤ, pos, negsuc, Bool, true, List, [], ◌∷◌, ◌++◌, length, map, get_or, set, nat_abs, Option, Some, None, refl, sym, ap, ◌∙◌, subst, append-nil, length-append, arith}
use Rattle.std.specs.Prelude.{int_le, is_some}
use Rattle.std.proofs.lemmas.Bool.{and_parts}
use Rattle.atomic_table.specs.Seated.{TableId}
use Rattle.ws_edge.specs.Edge.{AtEdge}
use Rattle.ws_flow.specs.declared.plan.Placed.{Placed}
use Rattle.ws_flow.specs.declared.plan.Plan.{Plan}
use Rattle.ws_flow.proofs.Lengths.{accepted}
use Rattle.ws_flow.specs.Told.{Mark, Told}
use Rattle.ws_io.specs.Gain.{Gains, Got}
use Rattle.ws_io.specs.Moment.{Moment}
use Rattle.ws_chain_laws.specs.Chain.{Origin, FromChunks, FromBytes, FromPort, Target, ToSink, ToPort}
use Rattle.ws_node.specs.declared.node.Entrance.{Entrance}
use Rattle.ws_node.specs.declared.node.Exit.{Exit}
use Rattle.ws_node.specs.declared.node.Node.{Node}
use Rattle.ws_node.specs.Near.{IsHead}
use Rattle.ws_node.specs.Node.{feeds_edge, is_edge, rows_at}
use Rattle.ws_node.specs.Nodes.{Each, AreEnds, JoinedAt, AreJoined, HaveMet, AllHaveMet, HaveMetUpTo, AreNewFrom, AreNew, AllGo, MiddleGoes, Nodes, any_bytes, of_input, of_neither, of_output}
use Rattle.ws_node.specs.Opening.{IsAccepted}
use Rattle.ws_node.specs.Past.{Driven, FeedsAs, IsFedAs, IsNew, IsUnused}
use Rattle.ws_node.specs.Shares.{middle_of, stages_ahead_of}
use Rattle.ws_node.proofs.Going.{came-kind, went-kind, went-same, went-then, head-stays}
use Rattle.ws_node.specs.Turns.{IsAlone}
use Rattle.ws_node.specs.Went.{ComesIn, ByInput, ByEdge, GoesOut, ToOutput, ToEdge, Went}
use Rattle.ws_node.proofs.SinceNew.{by-edge, to-edge}

-- a node that is fed by an edge, or feeds one, has the end of it

feeding : (t : Target) (x : Exit) → FeedsAs t x → feeds_edge x.output ≡ true → is_some x.below ≡ true
feeding ToSink x h e = absurd (let f = h.0 in cc)
feeding ToPort x h e = h.1

pub below-some : (n : Node) → Driven n → feeds_edge n.exit.output ≡ true → is_some n.exit.below ≡ true
below-some n d e = feeding d.shape.target n.exit d.since.led.is_of.into e

fed : (o : Origin) (x : Entrance) → IsFedAs o x → is_edge x.input ≡ true → is_some x.above ≡ true
fed FromBytes x h e = absurd (let f = h.0 in cc)
fed FromPort x h e = h.1
fed FromChunks x h e = absurd h

pub above-some : (n : Node) → Driven n → is_edge n.entrance.input ≡ true → is_some n.entrance.above ≡ true
above-some n d e = fed d.shape.origin n.entrance d.since.led.is_of.from e

-- and stays so

pub kinds-stay : (a b : Node) (m₀ m₁ : Moment) (p q : Got) → Went a b m₀ m₁ p q
    → (is_edge b.entrance.input ≡ is_edge a.entrance.input) × (feeds_edge b.exit.output ≡ feeds_edge a.exit.output)
kinds-stay a b m₀ m₁ p q w = (came-kind a.entrance b.entrance w.read m₀ m₁ w.from, went-kind a.exit b.exit w.went w.gain w.out m₀ m₁ p q w.into)

-- so one without edges has none
pub alone-stays : (a b : Node) (m₀ m₁ : Moment) (p q : Got) → Went a b m₀ m₁ p q → IsAlone a → IsAlone b
alone-stays a b m₀ m₁ p q w alone = record {
  input = (kinds-stay a b m₀ m₁ p q w).0 ∙ alone.input;
  output = (kinds-stay a b m₀ m₁ p q w).1 ∙ alone.output;
  above = no-end w.from;
  below = no-other w.into;
} where
  no-end : ComesIn a.entrance b.entrance m₀ m₁ w.read → b.entrance.above ≡ None
  no-end (ByInput e on) = on.above ∙ alone.above
  no-end (ByEdge e on) = absurd (let f = alone.input in cc)

  no-other : GoesOut a.exit b.exit m₀ m₁ p q w.went w.gain w.out → b.exit.below ≡ None
  no-other (ToOutput e on) = on.below ∙ alone.below
  no-other (ToEdge e on) = absurd (let f = alone.output in cc)

pub head-goes : (a b : Node) (m₀ m₁ : Moment) (p q : Got) → Went a b m₀ m₁ p q → IsHead a → IsHead b
head-goes a b m₀ m₁ p q w head = head-stays a b m₀ m₁ p q w.read w.went w.gain w.out w.core.moves.0.stages w.from w.into head

-- where no output is there, any will do

any-gains : (gain : List ℕ) → Gains any_bytes any_bytes gain
any-gains gain = record { went = gain; grows = λ xs h. tt; behind = sym (append-nil gain) }

goes-any : (a b : Exit) (m₀ m₁ : Moment) (p q : Got) (went : Told (List ℕ)) (gain : List ℕ) (out : Mark) → GoesOut a b m₀ m₁ p q went gain out
    → GoesOut a b m₀ m₁ any_bytes any_bytes went gain out
goes-any a b m₀ m₁ p q went gain out (ToOutput e g) =
    ToOutput e (record { gained = any-gains gain; written = g.written; output = g.output; abort = g.abort; emptied = λ e f. refl; sink = g.sink; below = g.below })
goes-any a b m₀ m₁ p q went gain out (ToEdge e g) =
    ToEdge e (record {
      taken = g.taken;
      posted = g.posted;
      end = g.end;
      went_is = g.went_is;
      gained = any-gains gain;
      output = g.output;
      may_come = g.may_come;
      alone = g.alone;
      abort = g.abort;
      sink = g.sink;
    })

pub went-any : (a b : Node) (m₀ m₁ : Moment) (p q : Got) → Went a b m₀ m₁ p q → Went a b m₀ m₁ any_bytes any_bytes
went-any a b m₀ m₁ p q w = record {
  read = w.read;
  went = w.went;
  gain = w.gain;
  out = w.out;
  core = w.core;
  from = w.from;
  into = goes-any a.exit b.exit m₀ m₁ p q w.went w.gain w.out w.into;
  ahead = w.ahead;
  near = w.near;
  short = w.short;
  stays = w.stays;
}

-- an accepted plan

pub few-workers : (plan : Plan) → IsAccepted plan → nat_abs plan.workers ≤ 8
few-workers plan h = by plan.workers (and_parts (int_le (pos 0) plan.workers) _ (accepted plan h).numbers).0 (accepted plan h).workers
  where
    by : (w : ℤ) → int_le (pos 0) w ≡ true → int_le w (pos 8) ≡ true → nat_abs w ≤ 8
    by (pos n) e f = few n f
      where
        few : (n : ℕ) → int_le (pos n) (pos 8) ≡ true → n ≤ 8
        few n f = grind arith
    by (negsuc n) e f = absurd (cc)

as-many : (ps : List Placed) → length (map (λ (p : Placed). p.stage) ps) ≡ length ps
as-many [] = refl
as-many (p ∷ ps) = ap suc (as-many ps)

pub few-stages : (plan : Plan) → IsAccepted plan → length plan.stages.items ≤ 16
few-stages plan h = subst (λ k. k ≤ 16) (as-many plan.stages.items) (accepted plan h).stages

-- lists of nodes

pub each-same : (xs : List Node) → Each MiddleGoes xs xs
each-same [] = tt
each-same (x ∷ xs) = (went-same x of_neither any_bytes, each-same xs)

pub each-then : (xs ys zs : List Node) → Each MiddleGoes xs ys → Each MiddleGoes ys zs → Each MiddleGoes xs zs
each-then [] [] [] e f = tt
each-then [] [] (z ∷ zs) e f = absurd f
each-then [] (y ∷ ys) zs e f = absurd e
each-then (x ∷ xs) [] zs e f = absurd e
each-then (x ∷ xs) (y ∷ ys) [] e f = absurd f
each-then (x ∷ xs) (y ∷ ys) (z ∷ zs) (e, es) (f, fs) =
    (went-then x y z of_neither of_neither of_neither any_bytes any_bytes any_bytes e f, each-then xs ys zs es fs)

-- one of them goes on
pub each-set : (xs ys : List Node) (i : ℕ) (d y : Node) → Each MiddleGoes xs ys → MiddleGoes (get_or ys i d) y → Each MiddleGoes xs (set ys i y)
each-set [] [] i d y e g = tt
each-set [] (z ∷ ys) i d y e g = absurd e
each-set (x ∷ xs) [] i d y e g = absurd e
each-set (x ∷ xs) (z ∷ ys) zero d y (e, es) g = (went-then x z y of_neither of_neither of_neither any_bytes any_bytes any_bytes e g, es)
each-set (x ∷ xs) (z ∷ ys) (suc i) d y (e, es) g = (e, each-set xs ys i d y es g)

pub all-same : (ns : Nodes) (m : Moment) (p : Got) → AllGo ns ns m m p p
all-same ns m p = record { head = went-same ns.head (of_input m) any_bytes; middles = each-same ns.middles; tail = went-same ns.tail (of_output m) p }

pub all-then : (a b c : Nodes) (m₀ m₁ m₂ : Moment) (p q r : Got) → AllGo a b m₀ m₁ p q → AllGo b c m₁ m₂ q r → AllGo a c m₀ m₂ p r
all-then a b c m₀ m₁ m₂ p q r g h = record {
  head = went-then a.head b.head c.head (of_input m₀) (of_input m₁) (of_input m₂) any_bytes any_bytes any_bytes g.head h.head;
  middles = each-then a.middles b.middles c.middles g.middles h.middles;
  tail = went-then a.tail b.tail c.tail (of_output m₀) (of_output m₁) (of_output m₂) p q r g.tail h.tail;
}

pub new-snoc : (w : ℕ) (plan : Plan) (ns : List Node) (n : Node) (v : ℕ) → v ≡ w + length ns → AreNewFrom w plan ns
    → IsNew (middle_of (pos v) plan) (stages_ahead_of (pos v) plan) None n → AreNewFrom w plan (ns ++ n ∷ [])
new-snoc w plan [] n v e h new =
    let same : v ≡ w = omega arith in
    (subst (λ k. IsNew (middle_of (pos k) plan) (stages_ahead_of (pos k) plan) None n) same new, tt)
new-snoc w plan (x ∷ ns) n v e (h, hs) new = (h, new-snoc (suc w) plan ns n v (omega arith) hs new)

-- edges

pub joined-snoc : (upper last lower : Option AtEdge) (ns : List Node) (n : Node) → AreJoined upper ns last → n.entrance.above ≡ last → JoinedAt n.exit.below lower
    → AreJoined upper (ns ++ n ∷ []) lower
joined-snoc upper last lower [] n j e k = (subst (λ q. JoinedAt upper q) (sym e) j, k)
joined-snoc upper last lower (x ∷ ns) n (j, js) e k = (j, joined-snoc x.exit.below last lower ns n js e k)

abbrev rows_or : TableId × TableId × Bool → Option (TableId × TableId × Bool) → TableId × TableId × Bool
rows_or d None = d
rows_or d (Some rows) = rows

ends-later : (e e' f f' : AtEdge) → rows_at (Some e') ≡ rows_at (Some e) → rows_at (Some f') ≡ rows_at (Some f) → AreEnds e f → AreEnds e' f'
ends-later e e' f f' r s j =
    let upper = ap (λ o. rows_or (e.from.row, e.to.row, e.traced) o) r in
    let lower = ap (λ o. rows_or (f.from.row, f.to.row, f.traced) o) s in
    record { down = ap (λ p. p.0) lower ∙ j.down ∙ sym (ap (λ p. p.1) upper); up = ap (λ p. p.0) upper ∙ j.up ∙ sym (ap (λ p. p.1) lower) }

joined-at-later : (a b c d : Option AtEdge) → rows_at b ≡ rows_at a → rows_at d ≡ rows_at c → JoinedAt a c → JoinedAt b d
joined-at-later (Some e) (Some e') (Some f) (Some f') r s j = ends-later e e' f f' r s j
joined-at-later (Some e) None c d r s j = absurd (cc)
joined-at-later (Some e) (Some e') (Some f) None r s j = absurd (cc)
joined-at-later (Some e) b None d r s j = absurd j
joined-at-later None b c d r s j = absurd j

pub below-rows : (a b : Node) (m₀ m₁ : Moment) (p q : Got) → feeds_edge a.exit.output ≡ true → Went a b m₀ m₁ p q → rows_at b.exit.below ≡ rows_at a.exit.below
below-rows a b m₀ m₁ p q e w = (to-edge a.exit b.exit m₀ m₁ p q w.went w.gain w.out e w.into).end.rows

pub above-rows : (a b : Node) (m₀ m₁ : Moment) (p q : Got) → is_edge a.entrance.input ≡ true → Went a b m₀ m₁ p q
    → rows_at b.entrance.above ≡ rows_at a.entrance.above
above-rows a b m₀ m₁ p q e w = (by-edge a.entrance b.entrance m₀ m₁ w.read e w.from).end.rows

joined-later : (w : ℕ) (plan : Plan) (upper upper' lower lower' : Option AtEdge) (xs ys : List Node) → rows_at upper' ≡ rows_at upper → rows_at lower' ≡ rows_at lower
    → AreNewFrom w plan xs → Each MiddleGoes xs ys → AreJoined upper xs lower → AreJoined upper' ys lower'
joined-later w plan upper upper' lower lower' [] [] r s n e j = joined-at-later upper upper' lower lower' r s j
joined-later w plan upper upper' lower lower' [] (y ∷ ys) r s n e j = absurd e
joined-later w plan upper upper' lower lower' (x ∷ xs) [] r s n e j = absurd e
joined-later w plan upper upper' lower lower' (x ∷ xs) (y ∷ ys) r s (n, ns) (e, es) (j, js) = (
  joined-at-later upper upper' x.entrance.above y.entrance.above r (above-rows x y of_neither of_neither any_bytes any_bytes (ap is_edge n.input) e) j,
  joined-later (suc w) plan x.exit.below y.exit.below lower lower' xs ys (below-rows x y of_neither of_neither any_bytes any_bytes (ap feeds_edge n.output) e) s ns es js,
)

-- the edges of a run are joined at its end as they were at its beginning
pub joined-at-end : (plan : Plan) (a b : Nodes) (m₀ m₁ : Moment) (p q : Got) → AreNew plan a → AllGo a b m₀ m₁ p q
    → AreJoined b.head.exit.below b.middles b.tail.entrance.above
joined-at-end plan a b m₀ m₁ p q n g =
    joined-later 1 plan a.head.exit.below b.head.exit.below a.tail.entrance.above b.tail.entrance.above a.middles b.middles
    (below-rows a.head b.head (of_input m₀) (of_input m₁) any_bytes any_bytes (ap feeds_edge n.head.output) g.head)
    (above-rows a.tail b.tail (of_output m₀) (of_output m₁) p q (ap is_edge n.tail.input) g.tail)
    n.middles g.middles n.joined

pub met-snoc : (upper end : Option AtEdge) (ns : List Node) (n : Node) → HaveMetUpTo upper ns end → HaveMet end n.entrance.above → Driven n
    → HaveMetUpTo upper (ns ++ n ∷ []) n.exit.below
met-snoc upper end [] n e m d = (subst (λ q. HaveMet q n.entrance.above) e m, d, refl)
met-snoc upper end (x ∷ ns) n (k, dx, ks) m d = (k, dx, met-snoc x.exit.below end ns n ks m d)

pub met-all : (upper end lower : Option AtEdge) (ns : List Node) → HaveMetUpTo upper ns end → HaveMet end lower → AllHaveMet upper ns lower
met-all upper end lower [] e m = subst (λ q. HaveMet q lower) e m
met-all upper end lower (x ∷ ns) (k, d, ks) m = (k, d, met-all x.exit.below end lower ns ks m)

pub none-left : {A : Type 0} (all gone rest : List A) → all ≡ gone ++ rest → length rest ≡ 0 → all ≡ gone
none-left all gone [] e z = e ∙ append-nil gone
none-left all gone (x ∷ rest) e z = absurd (omega arith)

-- the loop that makes a node for each worker: so many are made, from the lower end of one edge to that of another
pub record HasMade (plan : Plan) (first : AtEdge) (ns : List Node) (last : AtEdge) (number : ℕ) : Type 0 where
  pub fresh : AreNewFrom 1 plan ns
  pub many : length ns ≡ number
  pub unused : IsUnused (Some last)
  pub joined : (upper : Option AtEdge) → JoinedAt upper (Some first) → AreJoined upper ns (Some last)

pub made-none : (plan : Plan) (first : AtEdge) → IsUnused (Some first) → HasMade plan first [] first 0
made-none plan first u = record { fresh = tt; many = refl; unused = u; joined = λ upper j. j }

pub made-more : (plan : Plan) (first last : AtEdge) (upper lower : AtEdge) (ns : List Node) (n : Node) (number : ℕ) → HasMade plan first ns last number
    → IsNew (middle_of (pos (number + 1)) plan) (stages_ahead_of (pos (number + 1)) plan) None n → n.entrance.above ≡ Some last → n.exit.below ≡ Some upper
    → AreEnds upper lower → IsUnused (Some lower) → HasMade plan first (ns ++ n ∷ []) lower (number + 1)
made-more plan first last upper lower ns n number h new above below ends unused = record {
  fresh = new-snoc 1 plan ns n (number + 1) (let m = h.many in omega (arith, m)) h.fresh new;
  many = let m = h.many in let l = length-append ns (n ∷ []) in omega (arith, m, l);
  unused = unused;
  joined = λ up j. joined-snoc up (Some last) (Some lower) ns n (h.joined up j) above (subst (λ q. JoinedAt q (Some lower)) (sym below) ends);
}

-- none are left
pub joined-none : (upper lower : Option AtEdge) (ns : List Node) → length ns ≡ 0 → AreJoined upper ns lower → JoinedAt upper lower
joined-none upper lower [] e j = j
joined-none upper lower (n ∷ ns) e j = absurd (omega arith)
