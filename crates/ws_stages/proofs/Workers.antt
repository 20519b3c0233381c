-- Each worker has a stage.
use Rattle.std.proofs.Common.{◌≡◌, ◌⊎◌, inl, inr, ℕ, zero, suc, ◌+◌, ◌<◌, ◌&&◌, Bool, true, false, List, refl, sym, ap, ◌∙◌, arith}
use Rattle.std.proofs.lemmas.Bool.{cases_lt}
use Rattle.ws_flow.specs.declared.plan.Placed.{Placed}
use Rattle.ws_flow.specs.Plans.{each_has_stage, has_stage}

both : (a b : Bool) → a ≡ true → b ≡ true → (a && b) ≡ true
both true b h g = g
both false b h g = h

none_right : (a b : Bool) → b ≡ false → (a && b) ≡ false
none_right true b h = h
none_right false b h = refl

none_left : (a b : Bool) → a ≡ false → (a && b) ≡ false
none_left true b h = elim (no h) [ ] where
  no : true ≡ false → ⊥
  no h = cc
none_left false b h = refl

one_on : (w : ℕ) → suc w ≡ w + 1
one_on w = omega arith

pub each_more : (w : ℕ) (ps : List Placed) → each_has_stage w ps ≡ true → has_stage (w + 1) ps ≡ true → each_has_stage (w + 1) ps ≡ true
each_more w ps h g = ap (λ q. each_has_stage q ps) (sym (one_on w)) ∙ both (each_has_stage w ps) (has_stage (suc w) ps) h (ap (λ q. has_stage q ps) (one_on w) ∙ g)

pub each_less : (n w : ℕ) (ps : List Placed) → w < n → has_stage (w + 1) ps ≡ false → each_has_stage n ps ≡ false
each_less zero w ps h g = absurd (omega arith)
each_less (suc n) w ps h g = by (at_end w n h) (λ l. each_less n w ps l g) where
  at_end : (w n : ℕ) → w < suc n → (w ≡ n) ⊎ (w < n)
  at_end w n h = elim (cases_lt w n) [ inl l ↦ inr l | inr m ↦ inl (omega arith) ]

  by : (w ≡ n) ⊎ (w < n) → (w < n → each_has_stage n ps ≡ false) → (each_has_stage n ps && has_stage (suc n) ps) ≡ false
  by (inl e) k = none_right (each_has_stage n ps) (has_stage (suc n) ps) (ap (λ q. has_stage q ps) (one_on n ∙ ap (λ q. q + 1) (sym e)) ∙ g)
  by (inr l) k = none_left (each_has_stage n ps) (has_stage (suc n) ps) (k l)
