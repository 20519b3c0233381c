-- Which ends of a run keep marks, and the traces of its edges, one after the other.
use Rattle.std.proofs.Common.{◌≡◌, ◌+◌, ℕ, suc, Bool, true, false, ◌&&◌, List, [], ◌∷◌, ◌++◌, length, nat_abs, Option, Some, None, refl, sym, ap, ◌∙◌, subst, append-nil, arith}
use Rattle.std.specs.Prelude.{All, IfSome, is_some}
use Rattle.std.proofs.lemmas.List.Elements.{All-nil, All-cons, All-head, All-tail, All-append}
use Rattle.ws_edge.specs.Edge.{AtEdge}
use Rattle.ws_flow.specs.declared.plan.Plan.{Plan}
use Rattle.ws_io.specs.Gain.{Got}
use Rattle.ws_io.specs.Moment.{Moment}
use Rattle.ws_node.specs.declared.node.Node.{Node}
use Rattle.ws_node.specs.Node.{feeds_edge, is_edge, rows_at}
use Rattle.ws_node.specs.Nodes.{AllGo, AreNew, AreNewFrom, Each, MiddleGoes, Nodes, any_bytes, of_input, of_neither, of_output}
use Rattle.ws_node.proofs.Joining.{above-rows, below-rows}
use Rattle.ws_runner.specs.declared.trace.EdgeTrace.{EdgeTrace}
use Rattle.ws_runner.specs.Meeting.{AllTraced, AreTraced, AreTraces, AreTracesUpTo, IsTrace, TracesAre, TracesUpTo, is_traced, listed}

-- an end keeps marks as before

abbrev traced_in : {A : Type 0} → Option (A × A × Bool) → Bool
traced_in None = false
traced_in (Some rows) = rows.2

traced-rows : (o : Option AtEdge) → traced_in (rows_at o) ≡ is_traced o
traced-rows None = refl
traced-rows (Some e) = refl

same-traced : (o q : Option AtEdge) (trace : Bool) → rows_at q ≡ rows_at o → is_traced o ≡ trace → is_traced q ≡ trace
same-traced o q trace rows t = sym (traced-rows q) ∙ ap traced_in rows ∙ traced-rows o ∙ t

each-traced : (trace : Bool) (w : ℕ) (plan : Plan) (xs ys : List Node) → AreNewFrom w plan xs → Each MiddleGoes xs ys → All (AreTraced trace) xs → All (AreTraced trace) ys
each-traced trace w plan [] [] n e t = All-nil (AreTraced trace)
each-traced trace w plan [] (y ∷ ys) n e t = absurd e
each-traced trace w plan (x ∷ xs) [] n e t = absurd e
each-traced trace w plan (x ∷ xs) (y ∷ ys) (n, ns) (e, es) t =
    let here = All-head (AreTraced trace) x xs t in
    All-cons (AreTraced trace) y ys
    (record {
      above = same-traced x.entrance.above y.entrance.above trace (above-rows x y of_neither of_neither any_bytes any_bytes (ap is_edge n.input) e) here.above;
      below = same-traced x.exit.below y.exit.below trace (below-rows x y of_neither of_neither any_bytes any_bytes (ap feeds_edge n.output) e) here.below;
    })
    (each-traced trace (suc w) plan xs ys ns es (All-tail (AreTraced trace) x xs t))

-- over any turns of the nodes
pub traced-later : (trace : Bool) (plan : Plan) (a b : Nodes) (m₀ m₁ : Moment) (p q : Got) → AreNew plan a → AllGo a b m₀ m₁ p q → AllTraced trace a → AllTraced trace b
traced-later trace plan a b m₀ m₁ p q n g t = record {
  head = same-traced a.head.exit.below b.head.exit.below trace (below-rows a.head b.head (of_input m₀) (of_input m₁) any_bytes any_bytes (ap feeds_edge n.head.output) g.head) t.head;
  middles = each-traced trace 1 plan a.middles b.middles n.middles g.middles t.middles;
  tail = same-traced a.tail.entrance.above b.tail.entrance.above trace (above-rows a.tail b.tail (of_output m₀) (of_output m₁) p q (ap is_edge n.tail.input) g.tail) t.tail;
}

each-length : (xs ys : List Node) → Each MiddleGoes xs ys → length ys ≡ length xs
each-length [] [] e = refl
each-length [] (y ∷ ys) e = absurd e
each-length (x ∷ xs) [] e = absurd e
each-length (x ∷ xs) (y ∷ ys) e = ap suc (each-length xs ys e.1)

-- and there are as many
pub many-later : (plan : Plan) (a b : Nodes) (m₀ m₁ : Moment) (p q : Got) → AreNew plan a → AllGo a b m₀ m₁ p q → length b.middles ≡ nat_abs plan.workers
many-later plan a b m₀ m₁ p q n g = each-length a.middles b.middles g.middles ∙ n.many

-- the loop that makes a node for each worker

pub traced-snoc : (trace : Bool) (ns : List Node) (n : Node) (above below : AtEdge) → All (AreTraced trace) ns → n.entrance.above ≡ Some above → n.exit.below ≡ Some below → above.traced ≡ trace
    → below.traced ≡ trace → All (AreTraced trace) (ns ++ n ∷ [])
traced-snoc trace ns n above below a e f t u =
    All-append (AreTraced trace) ns (n ∷ []) a (All-cons (AreTraced trace) n [] (record { above = ap is_traced e ∙ t; below = ap is_traced f ∙ u }) (All-nil (AreTraced trace)))

-- the loop in which the edges meet

traces-snoc : (upper end : Option AtEdge) (ns : List Node) (n : Node) (es : List EdgeTrace) (e : EdgeTrace) → AreTracesUpTo upper ns end es → IsTrace end n.entrance.above e
    → AreTracesUpTo upper (ns ++ n ∷ []) n.exit.below (es ++ e ∷ [])
traces-snoc upper end [] n [] e t i = (subst (λ o. IsTrace o n.entrance.above e) t i, refl)
traces-snoc upper end [] n (f ∷ es) e t i = absurd t
traces-snoc upper end (x ∷ ns) n [] e t i = absurd t
traces-snoc upper end (x ∷ ns) n (f ∷ es) e (t, ts) i = (t, traces-snoc x.exit.below end ns n es e ts i)

traces-all : (upper end lower : Option AtEdge) (ns : List Node) (es : List EdgeTrace) (e : EdgeTrace) → AreTracesUpTo upper ns end es → IsTrace end lower e → AreTraces upper ns lower (es ++ e ∷ [])
traces-all upper end lower [] [] e t i = subst (λ o. IsTrace o lower e) t i
traces-all upper end lower [] (f ∷ es) e t i = absurd t
traces-all upper end lower (x ∷ ns) [] e t i = absurd t
traces-all upper end lower (x ∷ ns) (f ∷ es) e (t, ts) i = (t, traces-all x.exit.below end lower ns es e ts i)

pub none-yet : (trace : Bool) (upper : Option AtEdge) (es : List EdgeTrace) → es ≡ [] → TracesUpTo trace upper [] upper es
none-yet true upper es e = subst (λ q. AreTracesUpTo upper [] upper q) (sym e) refl
none-yet false upper es e = e

pub one-more : (trace : Bool) (upper end : Option AtEdge) (ns : List Node) (n : Node) (es : List EdgeTrace) (edge : Option EdgeTrace) → TracesUpTo trace upper ns end es
    → IfSome edge (IsTrace end n.entrance.above) → is_some edge ≡ trace → TracesUpTo trace upper (ns ++ n ∷ []) n.exit.below (es ++ listed edge)
one-more true upper end ns n es (Some e) t i s = traces-snoc upper end ns n es e t i
one-more true upper end ns n es None t i s = absurd (cc)
one-more false upper end ns n es (Some e) t i s = absurd (cc)
one-more false upper end ns n es None t i s = append-nil es ∙ t

pub the-last : (trace : Bool) (upper end lower : Option AtEdge) (ns : List Node) (es : List EdgeTrace) (edge : Option EdgeTrace) → TracesUpTo trace upper ns end es
    → IfSome edge (IsTrace end lower) → is_some edge ≡ trace → TracesAre trace upper ns lower (es ++ listed edge)
the-last true upper end lower ns es (Some e) t i s = traces-all upper end lower ns es e t i
the-last true upper end lower ns es None t i s = absurd (cc)
the-last false upper end lower ns es (Some e) t i s = absurd (cc)
the-last false upper end lower ns es None t i s = append-nil es ∙ t

pub both : (trace x y : Bool) → x ≡ trace → y ≡ trace → (x && y) ≡ trace
both true x y e f = cc
both false x y e f = cc

pub listed-length : (edge : Option EdgeTrace) (trace : Bool) → is_some edge ≡ trace → trace ≡ true → length (listed edge) ≡ 1
listed-length (Some e) trace s t = refl
listed-length None trace s t = absurd (cc)

-- the traces of a run with workers are one more than these
pub traces-many : (upper lower : Option AtEdge) (ns : List Node) (es : List EdgeTrace) → AreTraces upper ns lower es → length es ≡ length ns + 1
traces-many upper lower [] [] t = absurd t
traces-many upper lower [] (e ∷ []) t = omega arith
traces-many upper lower [] (e ∷ f ∷ es) t = absurd t
traces-many upper lower (n ∷ ns) [] t = absurd t
traces-many upper lower (n ∷ ns) (e ∷ es) (t, ts) = let h = traces-many n.exit.below lower ns es ts in omega (arith, h)

-- the end that a node has
pub traced-end : (o : Option AtEdge) (e : AtEdge) (trace : Bool) → o ≡ Some e → e.traced ≡ trace → is_traced o ≡ trace
traced-end o e trace is t = ap is_traced is ∙ t
