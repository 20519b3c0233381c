-- The views of a row's seats, where one of them changes.
use Rattle.std.proofs.Common.{◌≡◌, ◌≢◌, ℕ, zero, suc, Bool, true, List, [], ◌∷◌, ◌++◌, length, set, sym, refl, ap, ◌∙◌, subst, ⊎_elim}
use mathlib.Core.Option.{some, some-ne-none, some-injective}
use mathlib.Core.Logic.{dite}
use native.Mathlib.Decide.{ℕ_discrete}
use lib.ListN.{get_elem?}
use Rattle.atomic_table.proofs.Lists.{at_set, set_here, set_else}
use Rattle.ws_port.specs.declared.rule.Outgoing.{Outgoing}
use Rattle.ws_port.specs.declared.rule.Incoming.{Incoming}
use Rattle.ws_port.specs.declared.rule.View.{View}
use Rattle.ws_port.specs.Rule.{Fits, HasPart}
use Rattle.ws_port.proofs.Ring.{at_below}

abbrev pub Each : (ℕ → View → Type 0) → List View → Type 0
Each F views = (seat : ℕ) (v : View) → get_elem? views seat ≡ some v → F seat v

pub each_set : (F : ℕ → View → Type 0) (views : List View) (seat : ℕ) (w : View) → F seat w → ((j : ℕ) (u : View) → j ≢ seat → get_elem? views j ≡ some u → F j u) → Each F (set views seat w)
each_set F views seat w mine others j u e = ⊎_elim (λ (x : (j ≡ seat) × (w ≡ u)). subst (λ (y : ℕ × View). F y.0 y.1) (λ i. (sym x.0 i, x.1 i)) mine)
    (λ (x : (j ≢ seat) × (get_elem? views j ≡ some u)). others j u x.0 x.1) (at_set views seat j w u e)

pub at_end : (l : List View) (a b : View) (j : ℕ) → get_elem? l j ≢ some b → get_elem? (l ++ a ∷ []) j ≡ some b → j ≡ length l
at_end [] a b zero n e = refl
at_end [] a b (suc j) n e = absurd (some-ne-none b (sym e))
at_end (x ∷ xs) a b zero n e = absurd (n e)
at_end (x ∷ xs) a b (suc j) n e = ap suc (at_end xs a b j n e)

-- the sender knows more: the other views stay
pub fits_sender : (sender receiver : ℕ) (o o' : Outgoing) (i : Incoming) (views : List View) (seat : ℕ) (v w : View) → Each (Fits sender receiver o i) views → get_elem? views seat ≡ some v → v.sends ≡ true
    → w.sends ≡ v.sends → w.takes ≡ v.takes → w.outgoing ≡ o' → w.incoming ≡ v.incoming → Each (Fits sender receiver o' i) (set views seat w)
fits_sender sender receiver o o' i views seat v w h at may s t new old = let mine = h seat v at in
    each_set (Fits sender receiver o' i) views seat w ((λ _. ((mine.0 may).0, new)), λ p. ((mine.1 (sym t ∙ p)).0, old ∙ (mine.1 (sym t ∙ p)).1))
    (λ j u other e. ((λ p. absurd (other (((h j u e).0 p).0 ∙ sym (mine.0 may).0))), (h j u e).1))

-- the receiver knows more
pub fits_receiver : (sender receiver : ℕ) (o : Outgoing) (i i' : Incoming) (views : List View) (seat : ℕ) (v w : View) → Each (Fits sender receiver o i) views → get_elem? views seat ≡ some v → v.takes ≡ true
    → w.sends ≡ v.sends → w.takes ≡ v.takes → w.outgoing ≡ v.outgoing → w.incoming ≡ i' → Each (Fits sender receiver o i') (set views seat w)
fits_receiver sender receiver o i i' views seat v w h at may s t old new = let mine = h seat v at in
    each_set (Fits sender receiver o i') views seat w ((λ p. ((mine.0 (sym s ∙ p)).0, old ∙ (mine.0 (sym s ∙ p)).1)), λ _. ((mine.1 may).0, new))
    (λ j u other e. ((h j u e).0, λ p. absurd (other (((h j u e).1 p).0 ∙ sym (mine.1 may).0))))

-- who has a part still has it
pub part_stays : (part : View → Bool) (views : List View) (seat at : ℕ) (v w : View) → get_elem? views seat ≡ some v → part w ≡ part v → HasPart part views at → HasPart part (set views seat w) at
part_stays part views seat at v w e same h = dite (ℕ_discrete at seat)
    (λ here. (
      w,
      ap (λ (j : ℕ). get_elem? (set views seat w) j) here ∙ set_here views seat w (at_below views seat v e),
      same ∙ ap part (some-injective v h.0 (sym e ∙ ap (λ (j : ℕ). get_elem? views j) (sym here) ∙ h.1)) ∙ h.2,
    ))
    (λ else. (h.0, set_else views seat at w else ∙ h.1, h.2))
