-- Effects end: what may still be taken falls with each turn. So they are performed one at a time, to their one end.
use Rattle.std.proofs.Common.{◌≡◌, ◌≤◌, ℕ, zero, suc, List, [], ◌∷◌, ◌++◌, refl, sym, subst, ap, ◌∙◌, append_assoc, append-nil, arith}
use Rattle.ws_steps.specs.declared.effects.Effect.{Effect}
use Rattle.ws_steps.specs.Slots.{Slots, Done, causes}
use Rattle.ws_steps.specs.Places.{measure}
use Rattle.ws_steps.specs.Turns.{row, Agenda, turns, performed, Moment, moments_of, moments, LeadsTo}
use Rattle.ws_room_laws.proofs.Rows.{measure-fall}

abbrev agenda : Slots → List Effect → Agenda
agenda s es = record { slots = s; effects = es }

-- where nothing is left, nothing more happens
turns-idle : (n : ℕ) (s : Slots) → turns n (agenda s []) ≡ agenda s []
unfolding turns
turns-idle zero s = refl
turns-idle (suc n) s = turns-idle n s

moments-idle : (n : ℕ) (s : Slots) → moments_of n s [] ≡ []
unfolding moments_of
moments-idle zero s = refl
moments-idle (suc n) s = refl

-- as many turns as the measure are enough
turns-end : (n : ℕ) (s : Slots) (es : List Effect) → measure s es ≤ n → (turns n (agenda s es)).effects ≡ []
unfolding turns
turns-end zero s [] less = refl
turns-end zero s (e ∷ es) less = let h = measure-fall e es s in absurd (omega (arith, h, less))
turns-end (suc n) s [] less = ap (λ (a : Agenda). a.effects) (turns-idle n s)
turns-end (suc n) s (e ∷ es) less = let h = measure-fall e es s in turns-end n (row e s).slots ((row e s).caused ++ es) (omega (arith, h, less))

-- the effects that are left after so many turns
abbrev left : ℕ → Slots → List Effect → List Effect
left n s es = (turns n (agenda s es)).effects

left-zero : (s : Slots) (e : Effect) (es : List Effect) → left zero s (e ∷ es) ≡ e ∷ es
unfolding turns
left-zero s e es = refl

-- any numbers of turns that leave nothing lead to the same
turns-same : (m n : ℕ) (s : Slots) (es : List Effect) → left m s es ≡ [] → left n s es ≡ [] → turns m (agenda s es) ≡ turns n (agenda s es)
unfolding turns
turns-same m n s [] a b = turns-idle m s ∙ sym (turns-idle n s)
turns-same zero n s (e ∷ es) a b = cc
turns-same (suc m) zero s (e ∷ es) a b = cc
turns-same (suc m) (suc n) s (e ∷ es) a b = turns-same m n (row e s).slots ((row e s).caused ++ es) a b

moments-same : (m n : ℕ) (s : Slots) (es : List Effect) → left m s es ≡ [] → left n s es ≡ [] → moments_of m s es ≡ moments_of n s es
unfolding moments_of turns
moments-same m n s [] a b = moments-idle m s ∙ sym (moments-idle n s)
moments-same zero n s (e ∷ es) a b = cc
moments-same (suc m) zero s (e ∷ es) a b = cc
moments-same (suc m) (suc n) s (e ∷ es) a b =
    ap (λ ms. record { effect = e; found = s } ∷ ms) (moments-same m n (row e s).slots ((row e s).caused ++ es) a b)

le-same : (n : ℕ) → n ≤ n
le-same n = omega arith

measure-end : (s : Slots) (es : List Effect) → left (measure s es) s es ≡ []
measure-end s es = turns-end (measure s es) s es (le-same (measure s es))

next-end : (s : Slots) (e : Effect) (es : List Effect) → left (suc (measure (row e s).slots ((row e s).caused ++ es))) s (e ∷ es) ≡ []
unfolding turns
next-end s e es = measure-end (row e s).slots ((row e s).caused ++ es)

pub performed_none : (s : Slots) → performed (causes [] s) ≡ s
unfolding performed
performed_none s = ap (λ (a : Agenda). a.slots) (turns-idle (measure s []) s)

pub moments_none : (s : Slots) → moments (causes [] s) ≡ []
unfolding moments
moments_none s = moments-idle (measure s []) s

-- the first effect is performed, and what it caused goes before the others
pub performed_next : (s : Slots) (e : Effect) (es : List Effect) → performed (causes (e ∷ es) s) ≡ performed (causes ((row e s).caused ++ es) (row e s).slots)
unfolding performed turns
performed_next s e es =
    ap (λ (a : Agenda). a.slots)
    (turns-same (measure s (e ∷ es)) (suc (measure (row e s).slots ((row e s).caused ++ es))) s (e ∷ es) (measure-end s (e ∷ es)) (next-end s e es))

pub moments_next : (s : Slots) (e : Effect) (es : List Effect)
    → moments (causes (e ∷ es) s) ≡ record { effect = e; found = s } ∷ moments (causes ((row e s).caused ++ es) (row e s).slots)
unfolding moments moments_of
moments_next s e es =
    moments-same (measure s (e ∷ es)) (suc (measure (row e s).slots ((row e s).caused ++ es))) s (e ∷ es) (measure-end s (e ∷ es)) (next-end s e es)

-- what holds of the moments, the slots and the effects that are left, and goes on with each effect, holds at the end

module _ (I : List Moment → Slots → List Effect → Type 0)
    (kept : (ms : List Moment) (s : Slots) (e : Effect) (es : List Effect) → I ms s (e ∷ es) → I (ms ++ record { effect = e; found = s } ∷ []) (row e s).slots ((row e s).caused ++ es)) where
  turns-kept : (n : ℕ) (ms : List Moment) (s : Slots) (es : List Effect) → I ms s es → I (ms ++ moments_of n s es) (turns n (agenda s es)).slots (turns n (agenda s es)).effects
  unfolding turns moments_of
  turns-kept zero ms s es i = rw (append-nil ms) i
  turns-kept (suc n) ms s [] i = rw (turns-idle n s, append-nil ms) i
  turns-kept (suc n) ms s (e ∷ es) i =
      rw (← append_assoc ms (record { effect = e; found = s } ∷ []) (moments_of n (row e s).slots ((row e s).caused ++ es)))
      (turns-kept n (ms ++ record { effect = e; found = s } ∷ []) (row e s).slots ((row e s).caused ++ es) (kept ms s e es i))

  pub performed-kept : (d : Done) → I [] d.slots d.caused → I (moments d) (performed d) []
  unfolding performed moments
  performed-kept d i = subst (λ es. I (moments_of (measure d.slots d.caused) d.slots d.caused) (turns (measure d.slots d.caused) (agenda d.slots d.caused)).slots es) (measure-end d.slots d.caused) (turns-kept (measure d.slots d.caused) [] d.slots d.caused i)

-- effects lead to their one end

pub performed-leads : (d : Done) → LeadsTo d (performed d)
unfolding performed
performed-leads d = record {
  count = measure d.slots d.caused;
  ends = ap (λ es. agenda (turns (measure d.slots d.caused) (agenda d.slots d.caused)).slots es) (measure-end d.slots d.caused);
}

pub one_end : (d : Done) (z : Slots) → LeadsTo d z → z ≡ performed d
unfolding performed
one_end d z l =
    ap (λ (a : Agenda). a.slots)
    (sym l.ends ∙ turns-same l.count (measure d.slots d.caused) d.slots d.caused (ap (λ (a : Agenda). a.effects) l.ends) (measure-end d.slots d.caused))
