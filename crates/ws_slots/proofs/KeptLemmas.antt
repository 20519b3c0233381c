-- How many promises are kept.
use Rattle.std.proofs.Common.{◌≡◌, ◌∙◌, ℕ, ◌+◌, ◌-◌, ◌≤◌, suc, zero, Bool, if◌then◌else◌, List, [], ◌∷◌, length, Option, Some, None, refl, sym, ap, arith}
use Rattle.std.specs.Prelude.{slice_get}
use Rattle.ws_steps.specs.declared.promises.Reaction.{Reaction}
use Rattle.ws_alike.specs.Alike.{is_kept, kept_in}
use Rattle.ws_slots.specs.Counts.{is_kept_slot, kept_to, one_where_kept}
use Rattle.ws_slots.specs.View.{entries_from, entry_for, waiting_on}
use Rattle.ws_slots.specs.Words.{NonePlaced, ended_slot}
use Rattle.ws_slots.specs.Slot.{Slot}
use Rattle.ws_slots.specs.declared.waiting.Waiting.{Waiting}

-- one more
pub kept-next : (n : ℕ) (ss : List (Option Slot)) (s : Option Slot) → slice_get ss n ≡ Some s → kept_to (suc n) ss ≡ kept_to n ss + one_where_kept s
kept-next n [] s g = cc
kept-next zero (x ∷ ss) s g = let is : x ≡ s = cc in rw is (omega arith)
kept-next (suc n) (x ∷ ss) s g = let rest = kept-next n ss s g in omega (arith, rest)

past : (n : ℕ) (ss : List (Option Slot)) → slice_get ss n ≡ None → kept_to (suc n) ss ≡ kept_to n ss
past zero [] g = refl
past (suc n) [] g = refl
past zero (x ∷ ss) g = cc
past (suc n) (x ∷ ss) g = ap (λ m. one_where_kept x + m) (past n ss g)

none-here : (n : ℕ) (ss : List (Option Slot)) (o : Option (Option Slot)) → slice_get ss n ≡ o → ((s : Slot) → slice_get ss n ≡ Some (Some s) → s ≡ ended_slot None) → kept_to (suc n) ss ≡ kept_to n ss
none-here n ss None g h = past n ss g
none-here n ss (Some None) g h = let k = kept-next n ss None g in omega (arith, k)
none-here n ss (Some (Some s)) g h =
    let k = kept-next n ss (Some s) g in
    let none : one_where_kept (Some s) ≡ 0 = ap (λ (t : Slot). one_where_kept (Some t)) (h s g) in
    omega (arith, k, none)

-- those that take no place aren't kept
pub kept-skip : (lo n : ℕ) (ss : List (Option Slot)) → NonePlaced lo (lo + n) ss → kept_to (lo + n) ss ≡ kept_to lo ss
kept-skip lo zero ss h = ap (λ m. kept_to m ss) (plus-zero lo)
  where
    plus-zero : (m : ℕ) → m + 0 ≡ m
    plus-zero m = omega arith
kept-skip lo (suc n) ss h =
    let rest = kept-skip lo n ss (λ i s l g. h i s l (omega (arith, g))) in
    let here = none-here (lo + n) ss (slice_get ss (lo + n)) refl (λ s g. h (lo + n) s (omega arith) (omega arith) g) in
    ap (λ m. kept_to m ss) (plus-suc lo n) ∙ (here ∙ rest)
  where
    plus-suc : (a b : ℕ) → a + suc b ≡ suc (a + b)
    plus-suc a b = omega arith

pub kept-jump : (lo hi : ℕ) (ss : List (Option Slot)) → lo ≤ hi → NonePlaced lo hi ss → kept_to hi ss ≡ kept_to lo ss
kept-jump lo hi ss l h =
    let e : lo + (hi - lo) ≡ hi = omega arith in
    sym (ap (λ m. kept_to m ss) e) ∙ kept-skip lo (hi - lo) ss (λ i s a b g. h i s a (omega (arith, b, e)) g)

pub kept-step : (lo hi n : ℕ) (ss : List (Option Slot)) (s : Slot) → lo ≤ hi → NonePlaced lo hi ss → slice_get ss hi ≡ Some (Some s) → n ≡ one_where_kept (Some s)
    → kept_to lo ss + n ≡ kept_to (hi + 1) ss
kept-step lo hi n ss s l h g e =
    let jump = kept-jump lo hi ss l h in
    let next = kept-next hi ss (Some s) g in
    let one : suc hi ≡ hi + 1 = omega arith in
    let up = ap (λ m. kept_to m ss) one in
    omega (arith, jump, next, e, up)

entry-kept : (rs : List Reaction) (s : Option Slot) → is_kept (entry_for rs s) ≡ is_kept_slot s
entry-kept rs None = refl
entry-kept rs (Some s) = refl

pub kept-shown : (k : ℕ) (ss : List (Option Slot)) (ws : List Waiting) → kept_to (length ss) ss ≡ kept_in (entries_from k ss ws)
kept-shown k [] ws = refl
kept-shown k (s ∷ ss) ws =
    let rest = kept-shown (suc k) ss ws in
    let here = ap {B = ℕ} (λ (c : Bool). if c then 1 else 0) (entry-kept (waiting_on k ws) s) in
    omega (arith, rest, here)
