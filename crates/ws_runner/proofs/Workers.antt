-- The stages of an accepted plan, worker by worker.
use Rattle.std.proofs.Common.{◌≡◌, ℕ, zero, suc, ◌+◌, ◌<◌, ◌≤◌, ℤ, pos, negsuc, Bool, true, false, not, ◌&&◌, cond, List, [], ◌∷◌, ◌++◌, length, map, nat_abs, refl, sym, ap, ◌∙◌, subst, append-nil, append_assoc, arith}
use Rattle.std.specs.Prelude.{if◌then◌else◌, int_le}
use Rattle.std.specs.List.{count_by, filter, list_all}
use Rattle.std.proofs.lemmas.Bool.{and_parts}
use Rattle.std.proofs.lemmas.List.Sums.{length-filter}
use Rattle.ws_flow.specs.declared.plan.Placed.{Placed}
use Rattle.ws_flow.specs.declared.plan.Plan.{Plan}
use Rattle.ws_flow.specs.declared.plan.Stage.{Stage}
use Rattle.ws_flow.specs.Laws.{IsAccepted}
use Rattle.ws_flow.specs.Plans.{stages_of, is_placed_within, are_in_order, each_has_stage, is_abort_within}
use Rattle.ws_flow.specs.Stages.{is_in_range, is_within}
use Rattle.ws_node.specs.declared.making.Share.TheVariants.{Of}
use Rattle.ws_node.specs.Shares.{is_ahead_of, is_in, shared}

abbrev pub is_on : ℤ → Placed → Bool
is_on worker p = is_in (Of worker) p

abbrev pub stages_on : ℤ → List Placed → List Stage
stages_on worker ps = shared (Of worker) ps

abbrev pub ahead_in : ℤ → List Placed → ℕ
ahead_in worker ps = count_by (is_ahead_of worker) ps

-- the stages of n workers, from this one on
abbrev pub stages_from : ℕ → ℕ → List Placed → List Stage
stages_from w zero ps = []
stages_from w (suc n) ps = stages_on (pos w) ps ++ stages_from (suc w) n ps

-- in order, each on a worker from `low` and from 1 to `high`
pub record IsPlaced (low high : ℕ) (p : Placed) : Type 0 where
  pub number : ℕ
  pub is : p.worker ≡ pos number
  pub above : low ≤ number
  pub some : 1 ≤ number
  pub below : number ≤ high

abbrev pub ArePlaced : ℕ → ℕ → List Placed → Type 0
ArePlaced low high [] = Unit {0}
ArePlaced low high (p ∷ ps) = (h : IsPlaced low high p) × ArePlaced h.number high ps

pub le-true : (a b : ℕ) → a ≤ b → int_le (pos a) (pos b) ≡ true
le-true a b h = grind arith

pub le-false : (a b : ℕ) → b < a → int_le (pos a) (pos b) ≡ false
le-false a b h = grind arith

le-is : (a b : ℕ) → int_le (pos a) (pos b) ≡ true → a ≤ b
le-is a b h = grind arith

pub data Compared (a b : ℕ) : Type 0 where
  Less : a < b → Compared a b
  Same : a ≡ b → Compared a b
  More : b < a → Compared a b

pub compared : (a b : ℕ) → Compared a b
compared zero zero = Same refl
compared zero (suc b) = Less (omega arith)
compared (suc a) zero = More (omega arith)
compared (suc a) (suc b) = one (compared a b)
  where
    one : Compared a b → Compared (suc a) (suc b)
    one (Less h) = Less (omega arith)
    one (Same h) = Same (ap suc h)
    one (More h) = More (omega arith)

abbrev at_least : ℤ → Placed → Bool
at_least w p = int_le w p.worker

-- what a test says of a stage on this worker

pub on-less : (w k : ℕ) (p : Placed) → p.worker ≡ pos k → k < w → is_on (pos w) p ≡ false
on-less w k p e h = ap (λ z. int_le (pos w) z && int_le z (pos w)) e ∙ ap (λ b. b && int_le (pos k) (pos w)) (le-false w k h)

pub on-same : (w k : ℕ) (p : Placed) → p.worker ≡ pos k → k ≡ w → is_on (pos w) p ≡ true
on-same w k p e h =
    ap (λ z. int_le (pos w) z && int_le z (pos w)) e ∙ ap (λ b. b && int_le (pos k) (pos w)) (le-true w k (omega arith)) ∙ le-true k w (omega arith)

pub on-more : (w k : ℕ) (p : Placed) → p.worker ≡ pos k → w < k → is_on (pos w) p ≡ false
on-more w k p e h =
    ap (λ z. int_le (pos w) z && int_le z (pos w)) e ∙ ap (λ b. b && int_le (pos k) (pos w)) (le-true w k (omega arith)) ∙ le-false k w h

least-less : (w k : ℕ) (p : Placed) → p.worker ≡ pos k → k < w → at_least (pos w) p ≡ false
least-less w k p e h = ap (λ z. int_le (pos w) z) e ∙ le-false w k h

least-more : (w k : ℕ) (p : Placed) → p.worker ≡ pos k → w ≤ k → at_least (pos w) p ≡ true
least-more w k p e h = ap (λ z. int_le (pos w) z) e ∙ le-true w k h

module _ {A : Type 0} (t : A → Bool) (x : A) (xs : List A) where
  pub takes : t x ≡ true → filter t (x ∷ xs) ≡ x ∷ filter t xs
  takes e = ap (λ b. cond b (x ∷ filter t xs) (filter t xs)) e

  pub leaves : t x ≡ false → filter t (x ∷ xs) ≡ filter t xs
  leaves e = ap (λ b. cond b (x ∷ filter t xs) (filter t xs)) e

  counts : t x ≡ true → count_by t (x ∷ xs) ≡ suc (count_by t xs)
  counts e = sym (length-filter t (x ∷ xs)) ∙ ap length (takes e) ∙ ap suc (length-filter t xs)

  passes_over : t x ≡ false → count_by t (x ∷ xs) ≡ count_by t xs
  passes_over e = sym (length-filter t (x ∷ xs)) ∙ ap length (leaves e) ∙ length-filter t xs

-- all are on later workers
all-later : (w low high : ℕ) (ps : List Placed) → w < low → ArePlaced low high ps
    → (filter (is_on (pos w)) ps ≡ []) × (filter (at_least (pos w)) ps ≡ filter (at_least (pos (suc w))) ps)
all-later w low high [] h a = (refl, refl)
all-later w low high (p ∷ ps) h (i, a) =
    let above = i.above in
    let r = all-later w i.number high ps (omega arith) a in (
      leaves (is_on (pos w)) p ps (on-more w i.number p i.is (omega arith)) ∙ r.0,
      takes (at_least (pos w)) p ps (least-more w i.number p i.is (omega arith)) ∙ ap (λ q. p ∷ q) r.1
          ∙ sym (takes (at_least (pos (suc w))) p ps (least-more (suc w) i.number p i.is (omega arith))),
    )

splits : (w low high : ℕ) (ps : List Placed) → ArePlaced low high ps
    → filter (at_least (pos w)) ps ≡ filter (is_on (pos w)) ps ++ filter (at_least (pos (suc w))) ps
splits w low high [] a = refl
splits w low high (p ∷ ps) (i, a) = by (splits w i.number high ps a) (compared i.number w)
  where
    by : filter (at_least (pos w)) ps ≡ filter (is_on (pos w)) ps ++ filter (at_least (pos (suc w))) ps → Compared i.number w → filter (at_least (pos w)) (p ∷ ps) ≡ filter (is_on (pos w)) (p ∷ ps) ++ filter (at_least (pos (suc w))) (p ∷ ps)
    by rest (Less h) =
        leaves (at_least (pos w)) p ps (least-less w i.number p i.is h) ∙ rest
        ∙ sym (ap (λ q. q ++ filter (at_least (pos (suc w))) (p ∷ ps)) (leaves (is_on (pos w)) p ps (on-less w i.number p i.is h))
        ∙ ap (λ q. filter (is_on (pos w)) ps ++ q) (leaves (at_least (pos (suc w))) p ps (least-less (suc w) i.number p i.is (omega arith))))
    by rest (Same h) =
        takes (at_least (pos w)) p ps (least-more w i.number p i.is (omega arith)) ∙ ap (λ q. p ∷ q) rest
        ∙ sym (ap (λ q. q ++ filter (at_least (pos (suc w))) (p ∷ ps)) (takes (is_on (pos w)) p ps (on-same w i.number p i.is h))
        ∙ ap (λ q. p ∷ (filter (is_on (pos w)) ps ++ q)) (leaves (at_least (pos (suc w))) p ps (least-less (suc w) i.number p i.is (omega arith))))
    by rest (More h) =
        let r = all-later w i.number high ps h a in
        takes (at_least (pos w)) p ps (least-more w i.number p i.is (omega arith)) ∙ ap (λ q. p ∷ q) r.1
        ∙ sym (takes (at_least (pos (suc w))) p ps (least-more (suc w) i.number p i.is (omega arith)))
        ∙ ap (λ q. q ++ filter (at_least (pos (suc w))) (p ∷ ps)) (sym (leaves (is_on (pos w)) p ps (on-more w i.number p i.is h) ∙ r.0))

map-append : {A B : Type 0} (f : A → B) (xs ys : List A) → map f (xs ++ ys) ≡ map f xs ++ map f ys
map-append f [] ys = refl
map-append f (x ∷ xs) ys = ap (λ q. f x ∷ q) (map-append f xs ys)

from-on : (n w low high : ℕ) (ps : List Placed) → ArePlaced low high ps
    → stages_from w n ps ++ map (λ (p : Placed). p.stage) (filter (at_least (pos (w + n))) ps) ≡ map (λ (p : Placed). p.stage) (filter (at_least (pos w)) ps)
from-on zero w low high ps a = let e : w + 0 ≡ w = omega arith in ap (λ k. map (λ (p : Placed). p.stage) (filter (at_least (pos k)) ps)) e
from-on (suc n) w low high ps a =
    let e : w + suc n ≡ suc w + n = omega arith in
    ap (λ k. (stages_on (pos w) ps ++ stages_from (suc w) n ps) ++ map (λ (p : Placed). p.stage) (filter (at_least (pos k)) ps)) e
    ∙ append_assoc (stages_on (pos w) ps) (stages_from (suc w) n ps) (map (λ (p : Placed). p.stage) (filter (at_least (pos (suc w + n))) ps))
    ∙ ap (λ q. stages_on (pos w) ps ++ q) (from-on n (suc w) low high ps a)
    ∙ sym (map-append (λ (p : Placed). p.stage) (filter (is_on (pos w)) ps) (filter (at_least (pos (suc w))) ps))
    ∙ ap (λ q. map (λ (p : Placed). p.stage) q) (sym (splits w low high ps a))

none-above : (w low high : ℕ) (ps : List Placed) → high < w → ArePlaced low high ps → filter (at_least (pos w)) ps ≡ []
none-above w low high [] h a = refl
none-above w low high (p ∷ ps) h (i, a) =
    let below = i.below in
    leaves (at_least (pos w)) p ps (least-less w i.number p i.is (omega arith)) ∙ none-above w i.number high ps h a

all-above : (low high : ℕ) (ps : List Placed) → ArePlaced low high ps → filter (at_least (pos 1)) ps ≡ ps
all-above low high [] a = refl
all-above low high (p ∷ ps) (i, a) =
    takes (at_least (pos 1)) p ps (least-more 1 i.number p i.is i.some) ∙ ap (λ q. p ∷ q) (all-above i.number high ps a)

-- all workers have all stages, in order
pub all-stages : (high low : ℕ) (ps : List Placed) → ArePlaced low high ps → stages_from 1 high ps ≡ map (λ (p : Placed). p.stage) ps
all-stages high low ps a =
    let first = stages_from 1 high ps in
    sym (append-nil first)
    ∙ ap (λ q. first ++ map (λ (p : Placed). p.stage) q) (sym (none-above (1 + high) low high ps (omega arith) a))
    ∙ from-on high 1 low high ps a
    ∙ ap (λ q. map (λ (p : Placed). p.stage) q) (all-above low high ps a)

-- how many are ahead

pub none-ahead : (low high : ℕ) (ps : List Placed) → ArePlaced low high ps → ahead_in (pos 1) ps ≡ 0
none-ahead low high [] a = refl
none-ahead low high (p ∷ ps) (i, a) =
    passes_over (is_ahead_of (pos 1)) p ps (ap not (least-more 1 i.number p i.is i.some)) ∙ none-ahead i.number high ps a

pub all-ahead : (w low high : ℕ) (ps : List Placed) → high < w → ArePlaced low high ps → ahead_in (pos w) ps ≡ length ps
all-ahead w low high [] h a = refl
all-ahead w low high (p ∷ ps) h (i, a) =
    let below = i.below in
    let r = all-ahead w i.number high ps h a in
    let e = counts (is_ahead_of (pos w)) p ps (ap not (least-less w i.number p i.is (omega arith))) in
    omega (arith, r, e)

pub ahead-next : (w low high : ℕ) (ps : List Placed) → ArePlaced low high ps → ahead_in (pos (suc w)) ps ≡ ahead_in (pos w) ps + length (stages_on (pos w) ps)
ahead-next w low high [] a = refl
ahead-next w low high (p ∷ ps) (i, a) = by (ahead-next w i.number high ps a) (compared i.number w)
  where
    on : (qs : List Placed) → filter (is_on (pos w)) (p ∷ ps) ≡ qs → length (stages_on (pos w) (p ∷ ps)) ≡ length (map (λ (q : Placed). q.stage) qs)
    on qs e = ap (λ q. length (map (λ (r : Placed). r.stage) q)) e

    by : ahead_in (pos (suc w)) ps ≡ ahead_in (pos w) ps + length (stages_on (pos w) ps) → Compared i.number w → ahead_in (pos (suc w)) (p ∷ ps) ≡ ahead_in (pos w) (p ∷ ps) + length (stages_on (pos w) (p ∷ ps))
    by rest (Less h) =
        let b = counts (is_ahead_of (pos (suc w))) p ps (ap not (least-less (suc w) i.number p i.is (omega arith))) in
        let c = counts (is_ahead_of (pos w)) p ps (ap not (least-less w i.number p i.is h)) in
        let d = on (filter (is_on (pos w)) ps) (leaves (is_on (pos w)) p ps (on-less w i.number p i.is h)) in
        omega (arith, b, c, d, rest)
    by rest (Same h) =
        let b = counts (is_ahead_of (pos (suc w))) p ps (ap not (least-less (suc w) i.number p i.is (omega arith))) in
        let c = passes_over (is_ahead_of (pos w)) p ps (ap not (least-more w i.number p i.is (omega arith))) in
        let d = on (p ∷ filter (is_on (pos w)) ps) (takes (is_on (pos w)) p ps (on-same w i.number p i.is h)) in
        omega (arith, b, c, d, rest)
    by rest (More h) =
        let b = passes_over (is_ahead_of (pos (suc w))) p ps (ap not (least-more (suc w) i.number p i.is (omega arith))) in
        let c = passes_over (is_ahead_of (pos w)) p ps (ap not (least-more w i.number p i.is (omega arith))) in
        let d = on (filter (is_on (pos w)) ps) (leaves (is_on (pos w)) p ps (on-more w i.number p i.is h)) in
        omega (arith, b, c, d, rest)

-- of an accepted plan with workers

unless : (b : Bool) (x y : Bool) → b ≡ false → (if b then x else y) ≡ true → y ≡ true
unless false x y e h = h
unless true x y e h = absurd (cc)

placed-from : (before : ℕ) (workers z : ℤ) (p : Placed) → p.worker ≡ z → int_le (pos before) z ≡ true → int_le (pos 1) z ≡ true → int_le z workers ≡ true → IsPlaced before (nat_abs workers) p
placed-from before (pos high) (pos k) p e f g h = record { number = k; is = e; above = le-is before k f; some = le-is 1 k g; below = le-is k high h }
placed-from before (negsuc high) (pos k) p e f g h = absurd (cc)
placed-from before workers (negsuc k) p e f g h = absurd (cc)

pub are-placed : (before : ℕ) (workers : ℤ) (ps : List Placed) → int_le workers (pos 0) ≡ false → are_in_order (pos before) ps ≡ true → list_all (is_placed_within workers) ps ≡ true
    → ArePlaced before (nat_abs workers) ps
are-placed before workers [] w o a = tt
are-placed before workers (p ∷ ps) w o a =
    let ordered = and_parts (int_le (pos before) p.worker) (are_in_order p.worker ps) o in
    let placed = and_parts (is_placed_within workers p) (list_all (is_placed_within workers) ps) a in
    let one = and_parts (is_in_range p.stage) _ placed.0 in
    let within = and_parts (int_le (pos 1) p.worker) (int_le p.worker workers)
    (unless (int_le workers (pos 0)) (is_within 0 0 p.worker) (int_le (pos 1) p.worker && int_le p.worker workers) w one.1) in
    let i = placed-from before workers p.worker p refl ordered.0 within.0 within.1 in
    (i, are-placed i.number workers ps w (subst (λ z. are_in_order z ps ≡ true) i.is ordered.1) placed.1)

pub accepted-placed : (plan : Plan) → IsAccepted plan → int_le plan.workers (pos 0) ≡ false → ArePlaced 0 (nat_abs plan.workers) plan.stages.items
accepted-placed plan h w =
    let numbers = and_parts (int_le (pos 0) plan.workers) _ h.numbers in
    let abort = and_parts (is_abort_within plan.abort_after) _ numbers.1 in
    let most = and_parts (is_within 0 1099511627776 plan.max_input) (list_all (is_placed_within plan.workers) plan.stages.items) abort.1 in
    are-placed 0 plan.workers plan.stages.items w h.order most.1

pub workers-stages : (plan : Plan) → IsAccepted plan → int_le plan.workers (pos 0) ≡ false → stages_from 1 (nat_abs plan.workers) plan.stages.items ≡ stages_of plan
workers-stages plan h w = all-stages (nat_abs plan.workers) 0 plan.stages.items (accepted-placed plan h w)

-- a plan with workers has stages
pub some-stages : (plan : Plan) → IsAccepted plan → int_le plan.workers (pos 0) ≡ false → stages_of plan ≡ [] → ⊥
some-stages plan h w e = by plan.workers plan.stages.items w h.each e
  where
    by : (workers : ℤ) (ps : List Placed) → int_le workers (pos 0) ≡ false → each_has_stage (nat_abs workers) ps ≡ true → map (λ (p : Placed). p.stage) ps ≡ [] → ⊥
    by (pos zero) ps w g e = absurd (cc)
    by (negsuc n) ps w g e = absurd (cc)
    by (pos (suc n)) [] w g e = let f = (and_parts (each_has_stage n []) false g).1 in cc
    by (pos (suc n)) (p ∷ ps) w g e = cc
