-- The stages on the workers up to one of them: those of the plan come one worker after the other.
use Rattle.std.proofs.Common.{◌≡◌, ℕ, suc, ◌<◌, ◌≤◌, pos, Bool, true, false, ◌&&◌, List, [], ◌∷◌, ◌++◌, map, refl, sym, ap, ◌∙◌, subst, arith}
use Rattle.std.specs.Prelude.{int_le}
use Rattle.std.specs.List.{filter}
use Rattle.std.proofs.lemmas.Bool.{and_parts}
use Rattle.ws_flow.specs.declared.plan.Placed.{Placed}
use Rattle.ws_flow.specs.declared.plan.Plan.{Plan}
use Rattle.ws_flow.specs.declared.plan.Stage.{Stage}
use Rattle.ws_flow.specs.Plans.{is_known, may_see, sees_known_chunks, stages_of}
use Rattle.ws_flow.specs.Stages.{form}
use Rattle.ws_runner.specs.Trace.{stages_up_to}
use Rattle.ws_runner.proofs.Workers.{ArePlaced, Compared, Less, Same, More, compared, is_on, le-false, le-true, leaves, on-less, on-more, on-same, stages_on, takes}

abbrev up_to : ℕ → Placed → Bool
up_to w p = int_le p.worker (pos w)

up-on : (w k : ℕ) (p : Placed) → p.worker ≡ pos k → k ≤ w → up_to w p ≡ true
up-on w k p e h = ap (λ z. int_le z (pos w)) e ∙ le-true k w h

up-over : (w k : ℕ) (p : Placed) → p.worker ≡ pos k → w < k → up_to w p ≡ false
up-over w k p e h = ap (λ z. int_le z (pos w)) e ∙ le-false k w h

-- all are on later workers
none-up : (w low high : ℕ) (ps : List Placed) → w < low → ArePlaced low high ps → filter (up_to w) ps ≡ []
none-up w low high [] h a = refl
none-up w low high (p ∷ ps) h (i, a) =
    let above = i.above in
    leaves (up_to w) p ps (up-over w i.number p i.is (omega arith)) ∙ none-up w i.number high ps (omega arith) a

none-on : (w low high : ℕ) (ps : List Placed) → w < low → ArePlaced low high ps → filter (is_on (pos w)) ps ≡ []
none-on w low high [] h a = refl
none-on w low high (p ∷ ps) h (i, a) =
    let above = i.above in
    leaves (is_on (pos w)) p ps (on-more w i.number p i.is (omega arith)) ∙ none-on w i.number high ps (omega arith) a

-- those up to the next worker are those up to this one and those on the next
up-next : (w low high : ℕ) (ps : List Placed) → ArePlaced low high ps → filter (up_to (suc w)) ps ≡ filter (up_to w) ps ++ filter (is_on (pos (suc w))) ps
up-next w low high [] a = refl
up-next w low high (p ∷ ps) (i, a) = by (up-next w i.number high ps a) (compared i.number (suc w))
  where
    by : filter (up_to (suc w)) ps ≡ filter (up_to w) ps ++ filter (is_on (pos (suc w))) ps → Compared i.number (suc w)
        → filter (up_to (suc w)) (p ∷ ps) ≡ filter (up_to w) (p ∷ ps) ++ filter (is_on (pos (suc w))) (p ∷ ps)
    by rest (Less h) =
        takes (up_to (suc w)) p ps (up-on (suc w) i.number p i.is (omega arith)) ∙ ap (λ q. p ∷ q) rest
        ∙ sym (ap (λ q. q ++ filter (is_on (pos (suc w))) (p ∷ ps)) (takes (up_to w) p ps (up-on w i.number p i.is (omega arith)))
        ∙ ap (λ q. p ∷ (filter (up_to w) ps ++ q)) (leaves (is_on (pos (suc w))) p ps (on-less (suc w) i.number p i.is h)))
    by rest (Same h) =
        let none = none-up w i.number high ps (omega arith) a in
        takes (up_to (suc w)) p ps (up-on (suc w) i.number p i.is (omega arith)) ∙ ap (λ q. p ∷ q) (rest ∙ ap (λ q. q ++ filter (is_on (pos (suc w))) ps) none)
        ∙ sym (ap (λ q. q ++ filter (is_on (pos (suc w))) (p ∷ ps)) (leaves (up_to w) p ps (up-over w i.number p i.is (omega arith)) ∙ none)
        ∙ takes (is_on (pos (suc w))) p ps (on-same (suc w) i.number p i.is h))
    by rest (More h) =
        leaves (up_to (suc w)) p ps (up-over (suc w) i.number p i.is h) ∙ none-up (suc w) i.number high ps h a
        ∙ sym (ap (λ q. q ++ filter (is_on (pos (suc w))) (p ∷ ps)) (leaves (up_to w) p ps (up-over w i.number p i.is (omega arith)) ∙ none-up w i.number high ps (omega arith) a)
        ∙ leaves (is_on (pos (suc w))) p ps (on-more (suc w) i.number p i.is h) ∙ none-on (suc w) i.number high ps h a)

abbrev stages_in : List Placed → List Stage
stages_in ps = map (λ (p : Placed). p.stage) ps

stages-append : (xs ys : List Placed) → stages_in (xs ++ ys) ≡ stages_in xs ++ stages_in ys
stages-append [] ys = refl
stages-append (x ∷ xs) ys = ap (λ q. x.stage ∷ q) (stages-append xs ys)

pub next-stages : (w high : ℕ) (plan : Plan) → ArePlaced 0 high plan.stages.items → stages_up_to (suc w) plan ≡ stages_up_to w plan ++ stages_on (pos (suc w)) plan.stages.items
next-stages w high plan a =
    ap stages_in (up-next w 0 high plan.stages.items a) ∙ stages-append (filter (up_to w) plan.stages.items) (filter (is_on (pos (suc w))) plan.stages.items)

-- none is on worker 0
none-first : (low high : ℕ) (ps : List Placed) → ArePlaced low high ps → filter (up_to 0) ps ≡ []
none-first low high [] a = refl
none-first low high (p ∷ ps) (i, a) = leaves (up_to 0) p ps (up-over 0 i.number p i.is i.some) ∙ none-first i.number high ps a

pub no-stages : (high : ℕ) (plan : Plan) → ArePlaced 0 high plan.stages.items → stages_up_to 0 plan ≡ []
no-stages high plan a = ap stages_in (none-first 0 high plan.stages.items a)

-- they are a first part of the plan's
front-stages : (w low high : ℕ) (ps : List Placed) → ArePlaced low high ps → (rest : List Stage) × (stages_in ps ≡ stages_in (filter (up_to w) ps) ++ rest)
front-stages w low high [] a = ([], refl)
front-stages w low high (p ∷ ps) (i, a) = by (front-stages w i.number high ps a) (compared i.number (suc w))
  where
    on : i.number ≤ w → (rest : List Stage) × (stages_in ps ≡ stages_in (filter (up_to w) ps) ++ rest) → (rest : List Stage) × (stages_in (p ∷ ps) ≡ stages_in (filter (up_to w) (p ∷ ps)) ++ rest)
    on h (rest, e) = (rest, ap (λ q. p.stage ∷ q) e ∙ sym (ap (λ q. stages_in q ++ rest) (takes (up_to w) p ps (up-on w i.number p i.is h))))

    over : w < i.number → (rest : List Stage) × (stages_in (p ∷ ps) ≡ stages_in (filter (up_to w) (p ∷ ps)) ++ rest)
    over h = (stages_in (p ∷ ps), sym (ap (λ q. stages_in q ++ stages_in (p ∷ ps)) (leaves (up_to w) p ps (up-over w i.number p i.is h) ∙ none-up w i.number high ps h a)))

    by : (rest : List Stage) × (stages_in ps ≡ stages_in (filter (up_to w) ps) ++ rest) → Compared i.number (suc w) → (rest : List Stage) × (stages_in (p ∷ ps) ≡ stages_in (filter (up_to w) (p ∷ ps)) ++ rest)
    by r (Less h) = on (omega arith) r
    by r (Same h) = over (omega arith)
    by r (More h) = over (omega arith)

known-front : (known : Bool) (xs ys : List Stage) → sees_known_chunks known (xs ++ ys) ≡ true → sees_known_chunks known xs ≡ true
known-front known [] ys h = refl
known-front known (x ∷ xs) ys h =
    let parts = and_parts (may_see known (form x)) (sees_known_chunks (is_known known (form x)) (xs ++ ys)) h in
    ap (λ b. b && sees_known_chunks (is_known known (form x)) xs) parts.0 ∙ known-front (is_known known (form x)) xs ys parts.1

-- and none of them sees how the input was cut
pub known-up-to : (w high : ℕ) (plan : Plan) → ArePlaced 0 high plan.stages.items → sees_known_chunks false (stages_of plan) ≡ true → sees_known_chunks false (stages_up_to w plan) ≡ true
known-up-to w high plan a known =
    let f = front-stages w 0 high plan.stages.items a in
    known-front false (stages_up_to w plan) f.0 (subst (λ ss. sees_known_chunks false ss ≡ true) f.1 known)
