-- A new row is in order, and stays so as its seat is split and as its seats are joined.
use Rattle.std.proofs.Common.{◌≡◌, ◌≢◌, ℕ, zero, suc, ◌<◌, true, true≢false, List, [], ◌∷◌, ◌++◌, length, set, sym, refl, ap, ◌∙◌, ⊎_elim, arith, lit≤}
use mathlib.Core.Option.{Option as Slot, some, some-ne-none}
use lib.ListN.{get_elem?}
use Rattle.std.specs.Prelude.{None}
use Rattle.atomic_table.specs.Table.{opening, Splits, Joins}
use Rattle.atomic_table.proofs.Lists.{at_set, at_snoc, at_last, at_longer, set_here, set_else}
use Rattle.ws_port.specs.declared.rule.View.{View}
use Rattle.ws_port.specs.Rule.{Place, IsHeld, ReceiverHolds, Fits, Kept}
use Rattle.ws_port.specs.Steps.{none_out, none_in, opened, sender_part, receiver_part, both_parts, no_part}
use Rattle.ws_port.proofs.Views.{Each, each_set, at_end}
use Rattle.ws_port.proofs.Ring.{none_held, idle_held, at_below}

nothing_at : {A : Type 0} (k : ℕ) (m : A) → get_elem? [] k ≢ some m
nothing_at k m e = absurd (some-ne-none m (sym e))

abbrev eight_homes : List (Slot Place)
eight_homes = some None ∷ some None ∷ some None ∷ some None ∷ some None ∷ some None ∷ some None ∷ some None ∷ []

at_home : (k : ℕ) → k < 8 → (y : Place) × (get_elem? eight_homes k ≡ some (some y))
at_home zero h = (None, refl)
at_home (suc zero) h = (None, refl)
at_home (suc (suc zero)) h = (None, refl)
at_home (suc (suc (suc zero))) h = (None, refl)
at_home (suc (suc (suc (suc zero)))) h = (None, refl)
at_home (suc (suc (suc (suc (suc zero))))) h = (None, refl)
at_home (suc (suc (suc (suc (suc (suc zero)))))) h = (None, refl)
at_home (suc (suc (suc (suc (suc (suc (suc zero))))))) h = (None, refl)
at_home (suc (suc (suc (suc (suc (suc (suc (suc k)))))))) h = absurd (omega arith)

none_is_held : (k : ℕ) → ¬ IsHeld none_out none_in k
none_is_held k h = let x : ReceiverHolds none_in k = idle_held none_out none_in k refl h in none_held None refl x.0

pub begins : Kept (opening (0 ∷ 0 ∷ []) (None ∷ None ∷ None ∷ None ∷ None ∷ None ∷ None ∷ None ∷ []) opened)
begins = record {
  sender = 0;
  receiver = 0;
  out_known = none_out;
  in_known = none_in;
  in_order = record {
    words_are = refl;
    sender_found = lit≤ tt;
    receiver_has = lit≤ tt;
    receiver_found = lit≤ tt;
    sender_has = lit≤ tt;
    room = λ p. absurd (true≢false (sym p));
    message = λ p. absurd (true≢false (sym p));
    few = lit≤ tt;
    rest = [];
    prefix = refl;
    next = tt;
    stands = λ k m _ e _. absurd (nothing_at k m e);
    away = λ k h. absurd (none_is_held k h);
    at_home = λ k low _. at_home k low;
  };
  has_sender = (opened, refl, refl);
  has_receiver = (opened, refl, refl);
  fits = each_set (Fits 0 0 none_out none_in) (opened ∷ []) 0 opened ((λ _. (refl, refl)), λ _. (refl, refl)) (λ j u other e. absurd (other (at_end [] opened u j (λ x. some-ne-none u (sym x)) e)));
}

pub splits : (id : ℕ) (v : View) → v.sends ≡ true → v.takes ≡ true → Splits Kept id v (sender_part v) (receiver_part v)
splits id v a b s h at =
    let mine = h.fits id v at in let vs : List View = set s.views id (sender_part v) in
    let Old : ℕ → View → Type 0 = λ j u. (u.sends ≡ true → (j ≡ h.sender) × (u.outgoing ≡ h.out_known)) × (u.takes ≢ true) in
    let old : Each Old vs = each_set Old s.views id (sender_part v) ((λ _. mine.0 a), λ p. true≢false (sym p)) (λ j u other e. ((h.fits j u e).0, λ p. other (((h.fits j u e).1 p).0 ∙ sym (mine.1 b).0))) in record {
      sender = h.sender;
      receiver = length vs;
      out_known = h.out_known;
      in_known = h.in_known;
      in_order = h.in_order;
      has_sender = (sender_part v, ap (λ (j : ℕ). get_elem? (vs ++ receiver_part v ∷ []) j) (sym (mine.0 a).0) ∙ at_longer vs (receiver_part v ∷ []) id (sender_part v) (set_here s.views id (sender_part v) (at_below s.views id v at)), refl);
      has_receiver = (receiver_part v, at_last vs (receiver_part v) (length vs) refl, refl);
      fits = λ j u e. ⊎_elim (λ x. ((old j u x).0, λ p. absurd ((old j u x).1 p)))
          (λ (is : receiver_part v ≡ u). ((λ p. absurd (true≢false (sym (ap (λ (y : View). y.sends) is ∙ p)))), λ p. (at_end vs (receiver_part v) u j (λ x. (old j u x).1 p) e, ap (λ (y : View). y.incoming) (sym is) ∙ (mine.1 b).1))) (at_snoc vs (receiver_part v) u j e);
    }

pub joins : (id : ℕ) (v : View) (other : ℕ) (u : View) → v.sends ≡ true → u.takes ≡ true → Joins Kept id v other u (both_parts v u) no_part
joins id v other u a b s h at two at' =
    let both : View = both_parts v u in let mine = h.fits id v at in let vs : List View = set s.views id both in
    let was : get_elem? s.views other ≡ some u = ⊎_elim (λ x. absurd (two x.0)) (λ x. x.1) (at_set s.views id other both u at') in let theirs = (h.fits other u was).1 b in
    let here : get_elem? (set vs other no_part) id ≡ some both = set_else vs other id no_part (λ e. two (sym e)) ∙ set_here s.views id both (at_below s.views id v at) in
    let Now : ℕ → View → Type 0 = λ j y. j ≢ other → Fits h.sender id h.out_known h.in_known j y in
    let now : Each Now vs = each_set Now s.views id both (λ _. ((λ _. mine.0 a), λ _. (refl, theirs.1))) (λ j y _ e away. ((h.fits j y e).0, λ p. absurd (away (((h.fits j y e).1 p).0 ∙ sym theirs.0)))) in record {
      sender = h.sender;
      receiver = id;
      out_known = h.out_known;
      in_known = h.in_known;
      in_order = h.in_order;
      has_sender = (both, ap (λ (j : ℕ). get_elem? (set vs other no_part) j) (sym (mine.0 a).0) ∙ here, refl);
      has_receiver = (both, here, refl);
      fits = each_set (Fits h.sender id h.out_known h.in_known) vs other no_part ((λ p. absurd (true≢false (sym p))), λ p. absurd (true≢false (sym p))) (λ j y away e. now j y e away);
    }
