-- What a run's end tells of what came before: which tees kept the reasons of both branches, and whether what can't be cloned was given to a stream at the
-- end of a port.
use Rattle.std.proofs.Common.{◌≡◌, ℕ, Bool, true, false, ◌||◌, List, [], ◌∷◌, ◌++◌, refl, sym, ap, subst, ◌∙◌, arith}
use Rattle.ws_value.specs.declared.value.Plain.{Plain}
use Rattle.ws_steps.specs.Cross.{data_clone}
use Rattle.ws_steps.specs.Run.{Entry, step, run}
use Rattle.ws_steps.specs.Slots.{Slots, empty}
use Rattle.ws_laws.proofs.Truth.{or_left}
use Rattle.ws_reason_laws.specs.Uncloned.{step_uncloned, run_uncloned}
use Rattle.ws_reason_laws.proofs.Cloned.{or-assoc}
use Rattle.ws_reason_laws.proofs.Teed.{Paired, paired-before}

pub run_then : (pre xs : List Entry) (s : Slots) → run (pre ++ xs) s ≡ run xs (run pre s)
run_then [] xs s = refl
run_then (x ∷ pre) xs s = run_then pre xs (step s x)

uncloned-append : (xs ys : List Entry) (s : Slots) → run_uncloned (xs ++ ys) s ≡ (run_uncloned xs s || run_uncloned ys (run xs s))
uncloned-append [] ys s = refl
uncloned-append (x ∷ xs) ys s =
    ap (λ (b : Bool). step_uncloned s x || b) (uncloned-append xs ys (step s x))
    ∙ sym (or-assoc (step_uncloned s x) (run_uncloned xs (step s x)) (run_uncloned ys (run xs (step s x))))

-- a DataCloneError isn't bad where such was given
abbrev pub Free : (Plain → ℕ) → Bool → Type 0
Free bad given = given ≡ true → bad data_clone ≡ 0

-- of a run, and what goes on behind it
abbrev pub Fair : (Plain → ℕ) → List Entry → List Entry → Type 0
Fair bad pre xs = Paired bad (run xs (run pre empty)) × Free bad (run_uncloned pre empty || run_uncloned xs (run pre empty))

joined : (a b c d e : Bool) → a ≡ (b || (c || false)) → d ≡ e → (a || d) ≡ (b || (c || e))
joined a b c d e f g = grind (arith, f, g)

among : (a b c : Bool) → (a || b) ≡ true → (a || (b || c)) ≡ true
among a b c e = grind (arith, e)

-- in the first step, and behind it

pub fair-paired : (bad : Plain → ℕ) (pre : List Entry) (x : Entry) (xs : List Entry) → Fair bad pre (x ∷ xs) → Paired bad (step (run pre empty) x)
fair-paired bad pre x xs h = paired-before bad xs (step (run pre empty) x) h.0

pub fair-free : (bad : Plain → ℕ) (pre : List Entry) (x : Entry) (xs : List Entry) → Fair bad pre (x ∷ xs) → Free bad (run_uncloned pre empty || step_uncloned (run pre empty) x)
fair-free bad pre x xs h t = h.1 (among (run_uncloned pre empty) (step_uncloned (run pre empty) x) (run_uncloned xs (step (run pre empty) x)) t)

pub fair-next : (bad : Plain → ℕ) (pre : List Entry) (x : Entry) (xs : List Entry) → Fair bad pre (x ∷ xs) → Fair bad (pre ++ x ∷ []) xs
fair-next bad pre x xs h =
    let s : Slots = run pre empty in
    let same : run (pre ++ x ∷ []) empty ≡ step s x = run_then pre (x ∷ []) empty in
    let given = joined (run_uncloned (pre ++ x ∷ []) empty) (run_uncloned pre empty) (step_uncloned s x) (run_uncloned xs (run (pre ++ x ∷ []) empty)) (run_uncloned xs (step s x))
    (uncloned-append pre (x ∷ []) empty) (ap (λ (z : Slots). run_uncloned xs z) same) in
    (subst (λ (z : Slots). Paired bad (run xs z)) (sym same) h.0, λ t. h.1 (sym given ∙ t))

-- of a run in two parts: of the first, and of the second behind it

pub fair-first : (bad : Plain → ℕ) (xs ys : List Entry) → Fair bad [] (xs ++ ys) → Fair bad [] xs
fair-first bad xs ys h = (
  paired-before bad ys (run xs empty) (subst (Paired bad) (run_then xs ys empty) h.0),
  λ t. h.1 (uncloned-append xs ys empty ∙ or_left (run_uncloned xs empty) (run_uncloned ys (run xs empty)) t),
)

pub fair-second : (bad : Plain → ℕ) (xs ys : List Entry) → Fair bad [] (xs ++ ys) → Fair bad xs ys
fair-second bad xs ys h = (subst (Paired bad) (run_then xs ys empty) h.0, λ t. h.1 (uncloned-append xs ys empty ∙ t))
