-- The stages of a share of a plan that isn't refused are fit.
use Rattle.std.proofs.Common.{◌≡◌, ◌+◌, ◌≤◌, ◌<◌, ℕ, zero, suc, Bool, true, false, cond, List, [], ◌∷◌, ◌++◌, length, drop, take, ℤ, map, refl, sym, ap, ◌∙◌, subst, append-nil, append_assoc, arith}
use Rattle.std.specs.Prelude.{get_or}
use Rattle.std.specs.List.{count_by, filter, list_all}
use Rattle.std.proofs.lemmas.Bool.{and_parts}
use Rattle.std.proofs.lemmas.List.{length-map}
use Rattle.std.proofs.lemmas.List.Sums.{length-filter, count_by-le-length, count_by_more_yes, sum_by-cons}
use Rattle.ws_flow.specs.declared.plan.Placed.{Placed}
use Rattle.ws_flow.specs.declared.plan.Plan.{Plan}
use Rattle.ws_flow.specs.declared.plan.Stage.{Stage}
use Rattle.ws_flow.specs.Plans.{is_hex}
use Rattle.ws_flow.specs.Stages.{is_in_range}
use Rattle.ws_flow.proofs.Lengths.{accepted}
use Rattle.ws_stages.specs.State.{State, begun}
use Rattle.ws_steps.specs.declared.calls.Call.TheVariants.{MakeTransform}
use Rattle.ws_steps.specs.declared.calls.StartBy.TheVariants.{Now}
use Rattle.ws_steps.specs.declared.transform.Kind.TheVariants.{Host as HostKind}
use Rattle.ws_steps.specs.Run.{run, after_call}
use Rattle.ws_steps.specs.Slots.{Slots}
use Rattle.ws_chain_laws.specs.Opening.{transforms}
use Rattle.ws_node.specs.declared.making.Share.{Share}
use Rattle.ws_node.specs.declared.making.Share.TheVariants.{All, None as NoneOfThem}
use Rattle.ws_node.specs.Opening.{IsAccepted, all_begun}
use Rattle.ws_node.specs.Shape.{AreFit}
use Rattle.ws_node.specs.Shares.{is_ahead_of, is_in, shared}

abbrev kinds : List Placed → List Stage
kinds ps = map (λ (p : Placed). p.stage) ps

range-by : (share : Share) (p : Placed) (ps : List Placed) (b : Bool) → is_in_range p.stage ≡ true → list_all is_in_range (shared share ps) ≡ true
    → list_all is_in_range (kinds (cond b (p ∷ filter (is_in share) ps) (filter (is_in share) ps))) ≡ true
range-by share p ps true one rest = rw one rest
range-by share p ps false one rest = rest

range-shared : (share : Share) (ps : List Placed) → list_all is_in_range (kinds ps) ≡ true → list_all is_in_range (shared share ps) ≡ true
range-shared share [] h = refl
range-shared share (p ∷ ps) h =
    let both = and_parts (is_in_range p.stage) (list_all is_in_range (kinds ps)) h in
    range-by share p ps (is_in share p) both.0 (range-shared share ps both.1)

count-both : (q : Stage → Bool) (x : Stage) (xs ys : List Stage) → count_by q xs ≤ count_by q ys → count_by q (x ∷ xs) ≤ count_by q (x ∷ ys)
count-both q x xs ys h =
    let a = sum_by-cons (λ (y : Stage). cond (q y) 1 0) x xs in
    let b = sum_by-cons (λ (y : Stage). cond (q y) 1 0) x ys in
    omega (arith, h, a, b)

count-more : (q : Stage → Bool) (x : Stage) (xs ys : List Stage) → count_by q xs ≤ count_by q ys → count_by q xs ≤ count_by q (x ∷ ys)
count-more q x xs ys h = let b = sum_by-cons (λ (y : Stage). cond (q y) 1 0) x ys in omega (arith, h, b)

hex-by : (share : Share) (p : Placed) (ps : List Placed) (b : Bool) → count_by is_hex (shared share ps) ≤ count_by is_hex (kinds ps)
    → count_by is_hex (kinds (cond b (p ∷ filter (is_in share) ps) (filter (is_in share) ps))) ≤ count_by is_hex (kinds (p ∷ ps))
hex-by share p ps true rest = count-both is_hex p.stage (shared share ps) (kinds ps) rest
hex-by share p ps false rest = count-more is_hex p.stage (shared share ps) (kinds ps) rest

hex-shared : (share : Share) (ps : List Placed) → count_by is_hex (shared share ps) ≤ count_by is_hex (kinds ps)
hex-shared share [] = omega arith
hex-shared share (p ∷ ps) = hex-by share p ps (is_in share p) (hex-shared share ps)

-- the nodes at the ends of a run with workers have none

pub none-shared : (ps : List Placed) → shared NoneOfThem ps ≡ []
none-shared [] = refl
none-shared (p ∷ ps) = none-shared ps

pub none-begun : (ps : List Placed) → all_begun (shared NoneOfThem ps) ≡ []
none-begun ps = ap all_begun (none-shared ps)

pub shared-length : (share : Share) (ps : List Placed) → length (shared share ps) ≤ length ps
shared-length share ps =
    let a = length-map (filter (is_in share) ps) (λ (p : Placed). p.stage) in
    let b = length-filter (is_in share) ps in
    let c = count_by-le-length (is_in share) ps in
    omega arith

pub shared-fit : (plan : Plan) (share : Share) → IsAccepted plan → AreFit (shared share plan.stages.items)
shared-fit plan share h =
    let a = accepted plan h in
    let few = a.stages in
    let hex = a.hex in
    let long = shared-length share plan.stages.items in
    let all = length-map plan.stages.items (λ (p : Placed). p.stage) in
    let fewer = hex-shared share plan.stages.items in
    record { few = omega arith; range = range-shared share plan.stages.items a.range; hex = omega arith }

-- all of them are those of the plan
pub shared-all : (ps : List Placed) → shared All ps ≡ kinds ps
shared-all [] = refl
shared-all (p ∷ ps) = ap (λ (ss : List Stage). p.stage ∷ ss) (shared-all ps)

-- and none are none
pub shared-none : (ps : List Placed) → shared NoneOfThem ps ≡ []
shared-none [] = refl
shared-none (p ∷ ps) = shared-none ps

-- one after another

shared-cons : (share : Share) (ps : List Placed) (i : ℕ) (d : Placed) → i < length ps
    → shared share (drop i ps) ≡ kinds (cond (is_in share (get_or ps i d)) (get_or ps i d ∷ filter (is_in share) (drop (suc i) ps)) (filter (is_in share) (drop (suc i) ps)))
shared-cons share [] i d within = absurd (omega arith)
shared-cons share (p ∷ ps) zero d within = refl
shared-cons share (p ∷ ps) (suc i) d within = shared-cons share ps i d (omega arith)

drop-here : (ps : List Placed) (i : ℕ) (one d : Placed) → one ≡ get_or ps i d → i < length ps → drop i ps ≡ one ∷ drop (suc i) ps
drop-here [] i one d is within = absurd (omega arith)
drop-here (p ∷ ps) zero one d is within = ap (λ (q : Placed). q ∷ ps) (sym is)
drop-here (p ∷ ps) (suc i) one d is within = drop-here ps i one d is (omega arith)

module _ (share : Share) (ps : List Placed) (i : ℕ) (one d : Placed) (is : one ≡ get_or ps i d) (within : i < length ps) where
  next : (b : Bool) → is_in share one ≡ b → shared share (drop i ps) ≡ kinds (cond b (one ∷ filter (is_in share) (drop (suc i) ps)) (filter (is_in share) (drop (suc i) ps)))
  next b e =
      shared-cons share ps i d within
      ∙ subst (λ (q : Placed). kinds (cond (is_in share q) (q ∷ filter (is_in share) (drop (suc i) ps)) (filter (is_in share) (drop (suc i) ps)))
      ≡ kinds (cond b (one ∷ filter (is_in share) (drop (suc i) ps)) (filter (is_in share) (drop (suc i) ps)))) is
      (ap (λ (c : Bool). kinds (cond c (one ∷ filter (is_in share) (drop (suc i) ps)) (filter (is_in share) (drop (suc i) ps)))) e)

  pub shared-next : is_in share one ≡ true → shared share (drop i ps) ≡ one.stage ∷ shared share (drop (i + 1) ps)
  shared-next e = let f : suc i ≡ i + 1 = omega arith in next true e ∙ ap (λ (k : ℕ). one.stage ∷ shared share (drop k ps)) f

  pub shared-skip : is_in share one ≡ false → shared share (drop i ps) ≡ shared share (drop (i + 1) ps)
  shared-skip e = let f : suc i ≡ i + 1 = omega arith in next false e ∙ ap (λ (k : ℕ). shared share (drop k ps)) f

  -- with what was made of those before

  pub stages-next : is_in share one ≡ true → (items all : List State) (v : State) → v ≡ begun one.stage → items ++ all_begun (shared share (drop i ps)) ≡ all
      → (items ++ v ∷ []) ++ all_begun (shared share (drop (i + 1) ps)) ≡ all
  stages-next e items all v made h =
      append_assoc items (v ∷ []) (all_begun (shared share (drop (i + 1) ps)))
      ∙ (ap (λ (w : State). items ++ w ∷ all_begun (shared share (drop (i + 1) ps))) made ∙ (ap (λ (ss : List Stage). items ++ all_begun ss) (sym (shared-next e)) ∙ h))

  pub slots-next : is_in share one ≡ true → (s z last : Slots) → z ≡ after_call (MakeTransform HostKind 1 0 Now) s → run (transforms (length (shared share (drop i ps)))) s ≡ last
      → run (transforms (length (shared share (drop (i + 1) ps)))) z ≡ last
  slots-next e s z last made h =
      ap (run (transforms (length (shared share (drop (i + 1) ps))))) made ∙ (ap (λ (ss : List Stage). run (transforms (length ss)) s) (sym (shared-next e)) ∙ h)

  pub stages-skip : is_in share one ≡ false → (items all : List State) → items ++ all_begun (shared share (drop i ps)) ≡ all → items ++ all_begun (shared share (drop (i + 1) ps)) ≡ all
  stages-skip e items all h = ap (λ (ss : List Stage). items ++ all_begun ss) (sym (shared-skip e)) ∙ h

  pub slots-skip : is_in share one ≡ false → (s last : Slots) → run (transforms (length (shared share (drop i ps)))) s ≡ last → run (transforms (length (shared share (drop (i + 1) ps)))) s ≡ last
  slots-skip e s last h = ap (λ (ss : List Stage). run (transforms (length ss)) s) (sym (shared-skip e)) ∙ h

  both : list_all is_in_range (kinds (drop i ps)) ≡ true → (is_in_range one.stage ≡ true) × (list_all is_in_range (kinds (drop (i + 1) ps)) ≡ true)
  both h =
      let f : suc i ≡ i + 1 = omega arith in
      let g : drop i ps ≡ one ∷ drop (i + 1) ps = drop-here ps i one d is within ∙ ap (λ (k : ℕ). one ∷ drop k ps) f in
      and_parts (is_in_range one.stage) (list_all is_in_range (kinds (drop (i + 1) ps))) (subst (λ (qs : List Placed). list_all is_in_range (kinds qs) ≡ true) g h)

  pub range-here : list_all is_in_range (kinds (drop i ps)) ≡ true → is_in_range one.stage ≡ true
  range-here h = (both h).0

  pub range-next : list_all is_in_range (kinds (drop i ps)) ≡ true → list_all is_in_range (kinds (drop (i + 1) ps)) ≡ true
  range-next h = (both h).1

-- all were seen
past-all : (ps : List Placed) (i : ℕ) → length ps ≤ i → drop i ps ≡ []
past-all [] zero h = refl
past-all [] (suc i) h = refl
past-all (p ∷ ps) zero h = absurd (omega arith)
past-all (p ∷ ps) (suc i) h = past-all ps i (omega arith)

pub stages-done : (share : Share) (ps : List Placed) (i : ℕ) (items all : List State) → length ps ≤ i → items ++ all_begun (shared share (drop i ps)) ≡ all → items ≡ all
stages-done share ps i items all past h = sym (append-nil items) ∙ (ap (λ (qs : List Placed). items ++ all_begun (shared share qs)) (sym (past-all ps i past)) ∙ h)

pub slots-done : (share : Share) (ps : List Placed) (i : ℕ) (s last : Slots) → length ps ≤ i → run (transforms (length (shared share (drop i ps)))) s ≡ last → s ≡ last
slots-done share ps i s last past h = ap (λ (qs : List Placed). run (transforms (length (shared share qs))) s) (sym (past-all ps i past)) ∙ h

-- one more stage that is ahead of a worker
pub ahead-more : (worker : ℤ) (ps : List Placed) (i count : ℕ) (one : Placed) → one ≡ get_or ps i one → i < length ps → is_ahead_of worker one ≡ true
    → count ≡ count_by (is_ahead_of worker) (take i ps) → count + 1 ≡ count_by (is_ahead_of worker) (take (i + 1) ps)
ahead-more worker ps i count one is within ahead h =
    ap (λ (n : ℕ). n + 1) h ∙ sym (count_by_more_yes (is_ahead_of worker) ps i one within (ap (is_ahead_of worker) (sym is) ∙ ahead))
