-- The steps of the ends keep the rule of a row.
use Rattle.std.proofs.Common.{◌≡◌, ◌≢◌, ℕ, zero, suc, true, true≢false, List, [], ◌∷◌, ◌++◌, length, set, sym, refl, ap, ◌∙◌, subst, ⊎_elim, append_assoc, ◌≤◌, arith, length-append, lit≤}
use mathlib.Core.Option.{some, some-ne-none}
use lib.ListN.{get_elem?}
use Rattle.crossbeam_queue.specs.Fifo.{Pushes, Pops, Forks, Merges, Learns}
use Rattle.crossbeam_queue.proofs.Lists.{at_set, at_snoc}
use Rattle.ws_value.specs.declared.value.Message.{Message}
use Rattle.ws_first_port.specs.declared.rule.Log.{Log}
use Rattle.ws_first_port.specs.Rule.{log, sender_part, receiver_part, both_parts, no_part, Fits, Relayed}

at_end : (l : List Log) (a b : Log) (j : ℕ) → get_elem? l j ≢ some b → get_elem? (l ++ a ∷ []) j ≡ some b → j ≡ length l
at_end [] a b zero n e = refl
at_end [] a b (suc j) n e = absurd (some-ne-none b (sym e))
at_end (x ∷ xs) a b zero n e = absurd (n e)
at_end (x ∷ xs) a b (suc j) n e = ap suc (at_end xs a b j n e)

abbrev Each : (ℕ → Log → Type 0) → List Log → Type 0
Each F views = (pass : ℕ) (v : Log) → get_elem? views pass ≡ some v → F pass v

each_set : (F : ℕ → Log → Type 0) (views : List Log) (pass : ℕ) (w : Log) → F pass w → ((j : ℕ) (u : Log) → j ≢ pass → get_elem? views j ≡ some u → F j u) → Each F (set views pass w)
each_set F views pass w mine others j u e = ⊎_elim (λ (x : (j ≡ pass) × (w ≡ u)). subst (λ (y : ℕ × Log). F y.0 y.1) (λ i. (sym x.0 i, x.1 i)) mine)
    (λ (x : (j ≢ pass) × (get_elem? views j ≡ some u)). others j u x.0 x.1) (at_set views pass j w u e)

pub begins : Relayed [] (log true true [] [] ∷ [])
begins = record {
  sender = 0;
  receiver = 0;
  sent = [];
  received = [];
  in_order = refl;
  few = lit≤ tt;
  fits = each_set (Fits 0 0 [] []) (log true true [] [] ∷ []) 0 (log true true [] []) ((λ _. (refl, refl)), λ _. (refl, refl)) (λ j u other e. absurd (other (at_end [] _ u j (λ x. some-ne-none u (sym x)) e)));
}

pub posts : (n pass : ℕ) → n ≡ 8 → (v : Log) (m : Message) → v.sends ≡ true → Pushes Relayed n pass v m (λ w. w ≡ log v.sends v.takes (v.sent ++ m ∷ []) v.received)
posts n pass eight v m may items views room h at = let w : Log = log v.sends v.takes (v.sent ++ m ∷ []) v.received in let mine = h.fits pass v at in let sent : List Message = h.sent ++ m ∷ [] in (
  w,
  record {
    sender = h.sender;
    receiver = h.receiver;
    sent = sent;
    received = h.received;
    in_order = ap (λ (l : List Message). l ++ m ∷ []) h.in_order ∙ append_assoc h.received items (m ∷ []);
    few = omega (arith, length-append items (m ∷ []));
    fits = each_set (Fits h.sender h.receiver sent h.received) views pass w ((λ _. ((mine.0 may).0, ap (λ (l : List Message). l ++ m ∷ []) (mine.0 may).1)), mine.1)
        (λ j u other e. ((λ p. absurd (other (((h.fits j u e).0 p).0 ∙ sym (mine.0 may).0))), (h.fits j u e).1));
  },
  refl,
)

pub takes : (pass : ℕ) (v : Log) → v.takes ≡ true → Pops Relayed pass v (λ m w. w ≡ log v.sends v.takes v.sent (v.received ++ m ∷ []))
takes pass v may m items views h at = let w : Log = log v.sends v.takes v.sent (v.received ++ m ∷ []) in let mine = h.fits pass v at in let received : List Message = h.received ++ m ∷ [] in (
  w,
  record {
    sender = h.sender;
    receiver = h.receiver;
    sent = h.sent;
    received = received;
    in_order = h.in_order ∙ sym (append_assoc h.received (m ∷ []) items);
    few = (let l : length (m ∷ items) ≤ 8 = h.few in omega arith);
    fits = each_set (Fits h.sender h.receiver h.sent received) views pass w (mine.0, λ _. ((mine.1 may).0, ap (λ (l : List Message). l ++ m ∷ []) (mine.1 may).1))
        (λ j u other e. ((h.fits j u e).0, λ p. absurd (other (((h.fits j u e).1 p).0 ∙ sym (mine.1 may).0))));
  },
  refl,
)

pub splits : (pass : ℕ) (v : Log) → v.sends ≡ true → v.takes ≡ true → Forks Relayed pass v (sender_part v) (receiver_part v)
splits pass v a b items views h at = let l : Log = sender_part v in let r : Log = receiver_part v in let mine = h.fits pass v at in let vs : List Log = set views pass l in
    let Old : ℕ → Log → Type 0 = λ j u. (u.sends ≡ true → (j ≡ h.sender) × (u.sent ≡ h.sent)) × (u.takes ≢ true) in
    let old : Each Old vs = each_set Old views pass l ((λ _. mine.0 a), λ p. true≢false (sym p)) (λ j u other e. ((h.fits j u e).0, λ p. other (((h.fits j u e).1 p).0 ∙ sym (mine.1 b).0))) in record {
      sender = h.sender;
      receiver = length vs;
      sent = h.sent;
      received = h.received;
      in_order = h.in_order;
      few = h.few;
      fits = λ j u e. ⊎_elim (λ x. ((old j u x).0, λ p. absurd ((old j u x).1 p)))
          (λ (is : r ≡ u). ((λ p. absurd (true≢false (sym (ap (λ (y : Log). y.sends) is ∙ p)))), λ p. (at_end vs r u j (λ x. (old j u x).1 p) e, ap (λ (y : Log). y.received) (sym is) ∙ (mine.1 b).1))) (at_snoc vs r u j e);
    }

pub joins : (pass : ℕ) (v : Log) (other : ℕ) (u : Log) → v.sends ≡ true → u.takes ≡ true → Merges Relayed pass v other u (both_parts v u) no_part
joins pass v other u a b items views h at two at' = let both : Log = both_parts v u in let mine = h.fits pass v at in let vs : List Log = set views pass both in
    let was : get_elem? views other ≡ some u = ⊎_elim (λ x. absurd (two x.0)) (λ x. x.1) (at_set views pass other both u at') in let theirs = (h.fits other u was).1 b in
    let Now : ℕ → Log → Type 0 = λ j y. j ≢ other → Fits h.sender pass h.sent h.received j y in
    let now : Each Now vs = each_set Now views pass both (λ _. ((λ _. mine.0 a), λ _. (refl, theirs.1))) (λ j y _ e away. ((h.fits j y e).0, λ p. absurd (away (((h.fits j y e).1 p).0 ∙ sym theirs.0)))) in record {
      sender = h.sender;
      receiver = pass;
      sent = h.sent;
      received = h.received;
      in_order = h.in_order;
      few = h.few;
      fits = each_set (Fits h.sender pass h.sent h.received) vs other no_part ((λ p. absurd (true≢false (sym p))), λ p. absurd (true≢false (sym p))) (λ j y away e. now j y e away);
    }

pub learns_whole : (pass : ℕ) (v : Log) → v.sends ≡ true → v.takes ≡ true → Learns Relayed pass v (λ items. (v.sent ≡ v.received ++ items) × (length items ≤ 8))
learns_whole pass v a b items views h at = let mine = h.fits pass v at in ((mine.0 a).1 ∙ h.in_order ∙ ap (λ (l : List Message). l ++ items) (sym (mine.1 b).1), h.few)

pub learns_few : (pass : ℕ) (v : Log) → Learns Relayed pass v (λ items. length items ≤ 8)
learns_few pass v items views h at = h.few
