-- The steps of the receiver keep the rule of a row.
use Rattle.std.proofs.Common.{◌≡◌, ◌≢◌, ℕ, ◌+◌, ◌%◌, ◌^◌, ◌<◌, ◌≤◌, Bool, true, true≢false, eqb, eq-eqb, ne_eqb, List, [], ◌∷◌, ◌++◌, length, get_or, set, sym, refl, ap, ◌∙◌, subst, inl, inr, ⊎_elim, append_assoc, append-nil, length-append, arith}
use native.Mathlib.Decide.{ℕ_discrete}
use mathlib.Core.Logic.{dite}
use mathlib.Core.Option.{Option as Slot, none, some, some-injective}
use lib.ListN.{get_elem?}
use Rattle.std.specs.Prelude.{Option, Some, None, is_some, IsSome, IfSome}
use Rattle.atomic_table.specs.Table.{Me, keeps, takes, gives, rest, Allows}
use Rattle.atomic_table.proofs.Lists.{set_here, set_else}
use Rattle.ws_value.specs.declared.value.Message.{Message}
use Rattle.ws_port.specs.declared.rule.Outgoing.{Outgoing}
use Rattle.ws_port.specs.declared.rule.Incoming.{Incoming}
use Rattle.ws_port.specs.declared.rule.View.{View}
use Rattle.ws_port.specs.Rule.{Place, SenderHolds, ReceiverHolds, IsInOrder, Fits, Kept}
use Rattle.ws_port.specs.Steps.{incoming, looked_in, MessageIs, WholeIs, FindsPosted, taken_from, Takes}
use Rattle.ws_port.specs.Ends.{CanTake}
use Rattle.ws_port.proofs.Views.{Each, part_stays, fits_receiver}
use Rattle.ws_port.proofs.Ring.{apart, in_ring, at_below, at_middle, none_held, empty_held, sender_apart}

-- what comes next, where something does
next_sent : (sent got rest : List Message) → sent ≡ got ++ rest → length sent ≢ length got → (m : Message) × (get_elem? sent (length got) ≡ some m)
next_sent sent got [] e more = absurd (more (ap (λ (l : List Message). length l) (e ∙ append-nil got)))
next_sent sent got (m ∷ rest) e more = (m, ap (λ (l : List Message). get_elem? l (length got)) e ∙ at_middle got m rest)

rest_after : (sent got rest : List Message) (m : Message) → sent ≡ got ++ rest → get_elem? sent (length got) ≡ some m → (rest' : List Message) × (sent ≡ (got ++ m ∷ []) ++ rest')
rest_after sent got [] m e here = let below = at_below sent (length got) m here in absurd (omega (arith, below, ap (λ (l : List Message). length l) (e ∙ append-nil got)))
rest_after sent got (x ∷ rest) m e here =
    let is : x ≡ m = some-injective x m (sym (at_middle got x rest) ∙ ap (λ (l : List Message). get_elem? l (length got)) (sym e) ∙ here) in
    (rest, e ∙ sym (append_assoc got (x ∷ []) rest) ∙ ap (λ (z : Message). (got ++ z ∷ []) ++ rest) is)

-- The look, where the row is empty

empty_in_order : (words : List ℕ) (homes : List (Slot Place)) (o : Outgoing) (i : Incoming) (words' : List ℕ) (n : ℕ) → IsInOrder words homes o i → i.held ≡ None → n ≡ length o.sent → words' ≡ length o.sent ∷ length i.received ∷ []
    → IsInOrder words' homes o (incoming i.received n (i.looks + 1) None)
empty_in_order words homes o i words' n l idle is are = let i' : Incoming = incoming i.received n (i.looks + 1) None in record {
  words_are = are;
  sender_found = l.sender_found;
  receiver_has = omega (arith, l.receiver_has, l.receiver_found, is);
  receiver_found = omega (arith, is);
  sender_has = l.sender_has;
  room = l.room;
  message = λ p. absurd (true≢false (sym p));
  few = l.few;
  rest = l.rest;
  prefix = l.prefix;
  next = tt;
  stands = λ k m from e _. l.stands k m from e (λ (x : ReceiverHolds i (k % 8)). none_held i.held idle x.0);
  away = λ k h. l.away k (inl (empty_held o i' k refl h));
  at_home = λ k low free. l.at_home k low (λ h. free (inl (empty_held o i k idle h)));
}

-- The look, where there is a message: the seat has its place

found_in_order : (words : List ℕ) (homes : List (Slot Place)) (o : Outgoing) (i : Incoming) (words' : List ℕ) (n : ℕ) (m : Message) → length homes ≡ 8 → IsInOrder words homes o i → i.held ≡ None → n ≡ length o.sent
    → words' ≡ length o.sent ∷ length i.received ∷ [] → length i.received < n → get_elem? o.sent (length i.received) ≡ some m → IsInOrder words' (set homes (length i.received % 8) none) o (incoming i.received n (i.looks + 1) (Some m))
found_in_order words homes o i words' n m wide l idle is are more next =
    let i' : Incoming = incoming i.received n (i.looks + 1) (Some m) in
    let here : ℕ = length i.received % 8 in
    let sent : length i.received < length o.sent = omega (arith, more, is) in record {
      words_are = are;
      sender_found = l.sender_found;
      receiver_has = omega (arith, more);
      receiver_found = omega (arith, is);
      sender_has = l.sender_has;
      room = l.room;
      message = λ _. more;
      few = l.few;
      rest = l.rest;
      prefix = l.prefix;
      next = next;
      stands = λ k x from e out. set_else homes here (k % 8) none (λ h. out (refl, h)) ∙ l.stands k x from e (λ (y : ReceiverHolds i (k % 8)). none_held i.held idle y.0);
      away = λ k h. ⊎_elim (λ (x : SenderHolds o k). set_else homes here k none (sender_apart words homes o i k l sent x) ∙ l.away k (inl x))
          (λ (x : ReceiverHolds i' k). ap (λ (j : ℕ). get_elem? (set homes here none) j) x.1 ∙ set_here homes here none (in_ring (length i.received) (length homes) wide)) h;
      at_home = λ k low free. let r = l.at_home k low (λ h. free (inl (empty_held o i k idle h))) in (r.0, set_else homes here k none (λ e. free (inr (refl, e))) ∙ r.1);
    }

pub looks_in : (slots id : ℕ) (me : Me Place View) (taken : ℕ) → slots ≡ 8 → CanTake me taken → Allows Kept slots id me 0 (λ n. n) (FindsPosted me)
looks_in slots id me taken eight can s h wide at fits =
    let may : me.0.takes ≡ true = can.1 in let idle : me.0.incoming.held ≡ None = can.2 in
    let i : Incoming = me.0.incoming in let o : Outgoing = h.out_known in
    let same : i ≡ h.in_known = ((h.fits id me.0 at).1 may).1 in
    let l : IsInOrder s.words s.homes o i = subst (λ (x : Incoming). IsInOrder s.words s.homes o x) (sym same) h.in_order in
    let each : Each (Fits h.sender h.receiver o i) s.views = subst (λ (x : Incoming). Each (Fits h.sender h.receiver o x) s.views) (sym same) h.fits in
    let n : ℕ = get_or s.words 0 0 in
    let is : n ≡ length o.sent = ap (λ (ws : List ℕ). get_or ws 0 0) l.words_are in
    let are : set s.words 0 n ≡ length o.sent ∷ length i.received ∷ [] = ap (λ (ws : List ℕ). set ws 0 (get_or ws 0 0)) l.words_are in
    let low : length i.received ≤ n = omega (arith, l.receiver_has, l.receiver_found, is) in
    let few : n ≤ 2 ^ 62 = omega (arith, l.few, is) in
    let whole : WholeIs me.0 n = λ both. let mine : me.0.outgoing ≡ o = ((h.fits id me.0 at).0 both).1 in
    (is ∙ ap (λ (x : Outgoing). length x.sent) (sym mine), omega (arith, is, l.sender_has, l.sender_found), (l.rest, ap (λ (x : Outgoing). x.sent) mine ∙ l.prefix)) in
    dite (ℕ_discrete n (length i.received))
    (λ nothing. (
      looked_in me.0 n None,
      keeps,
      tt,
      record {
        sender = h.sender;
        receiver = h.receiver;
        out_known = o;
        in_known = incoming i.received n (i.looks + 1) None;
        in_order = empty_in_order s.words s.homes o i (set s.words 0 n) n l idle is are;
        has_sender = part_stays (λ (x : View). x.sends) s.views id h.sender me.0 (looked_in me.0 n None) at refl h.has_sender;
        has_receiver = part_stays (λ (x : View). x.takes) s.views id h.receiver me.0 (looked_in me.0 n None) at refl h.has_receiver;
        fits = fits_receiver h.sender h.receiver o i (incoming i.received n (i.looks + 1) None) s.views id me.0 (looked_in me.0 n None) each at may refl refl refl refl;
      },
      (low, few, whole, subst (λ (b : Bool). MessageIs b me n (looked_in me.0 n None, me.1)) (sym (eq-eqb n (length i.received) nothing)) refl),
    ))
    (λ something. let more : length i.received < n = omega (arith, something, low) in
    let next = next_sent o.sent i.received l.rest l.prefix (λ e. something (is ∙ e)) in
    let there : get_elem? s.homes (length i.received % 8) ≡ some (some (Some next.0)) = l.stands (length i.received) next.0 (omega arith) next.1 (λ (x : ReceiverHolds i (length i.received % 8)). none_held i.held idle x.0) in (
      looked_in me.0 n (Some next.0),
      takes (length i.received % 8) (Some next.0),
      there,
      record {
        sender = h.sender;
        receiver = h.receiver;
        out_known = o;
        in_known = incoming i.received n (i.looks + 1) (Some next.0);
        in_order = found_in_order s.words s.homes o i (set s.words 0 n) n next.0 (wide ∙ eight) l idle is are more next.1;
        has_sender = part_stays (λ (x : View). x.sends) s.views id h.sender me.0 (looked_in me.0 n (Some next.0)) at refl h.has_sender;
        has_receiver = part_stays (λ (x : View). x.takes) s.views id h.receiver me.0 (looked_in me.0 n (Some next.0)) at refl h.has_receiver;
        fits = fits_receiver h.sender h.receiver o i (incoming i.received n (i.looks + 1) (Some next.0)) s.views id me.0 (looked_in me.0 n (Some next.0)) each at may refl refl refl refl;
      },
      (low, few, whole, subst (λ (b : Bool). MessageIs b me n (looked_in me.0 n (Some next.0), (length i.received % 8, Some next.0) ∷ me.1)) (sym (ne_eqb n (length i.received) something)) (next.0, refl)),
    ))

-- The taking

taken_in_order : (words : List ℕ) (homes : List (Slot Place)) (o : Outgoing) (i : Incoming) (words' : List ℕ) (m : Message) (y : Place) → length homes ≡ 8 → IsInOrder words homes o i → i.held ≡ Some m
    → words' ≡ length o.sent ∷ (length i.received + 1) ∷ [] → IsInOrder words' (set homes (length i.received % 8) (some y)) o (incoming (i.received ++ m ∷ []) i.seen i.looks None)
taken_in_order words homes o i words' m y wide l held are =
    let i' : Incoming = incoming (i.received ++ m ∷ []) i.seen i.looks None in
    let here : ℕ = length i.received % 8 in
    let holds : IsSome i.held = ap (λ (x : Option Message). is_some x) held in
    let found : length i.received < i.seen = l.message holds in
    let sent : length i.received < length o.sent = omega (arith, found, l.receiver_found) in
    let next : get_elem? o.sent (length i.received) ≡ some m = subst (λ (x : Option Message). IfSome x (λ (z : Message). get_elem? o.sent (length i.received) ≡ some z)) held l.next in
    let after = rest_after o.sent i.received l.rest m l.prefix next in
    let long : length (i.received ++ m ∷ []) ≡ length i.received + 1 = length-append i.received (m ∷ []) in record {
      words_are = are ∙ (λ k. length o.sent ∷ sym long k ∷ []);
      sender_found = omega (arith, l.sender_found, long);
      receiver_has = omega (arith, found, long);
      receiver_found = l.receiver_found;
      sender_has = l.sender_has;
      room = l.room;
      message = λ p. absurd (true≢false (sym p));
      few = l.few;
      rest = after.0;
      prefix = after.1;
      next = tt;
      stands = λ k x from e _. let lt = at_below o.sent k x e in
          let other : length i.received % 8 ≢ k % 8 = apart (length i.received) k (omega (arith, from, long)) (omega (arith, lt, l.sender_has, l.sender_found)) in
          set_else homes here (k % 8) (some y) (λ h. other (sym h)) ∙ l.stands k x (omega (arith, from, long)) e (λ (z : ReceiverHolds i (k % 8)). other (sym z.1));
      away = λ k h. let x = empty_held o i' k refl h in set_else homes here k (some y) (sender_apart words homes o i k l sent x) ∙ l.away k (inl x);
      at_home = λ k low free. dite (ℕ_discrete k here)
          (λ there. (y, ap (λ (j : ℕ). get_elem? (set homes here (some y)) j) there ∙ set_here homes here (some y) (in_ring (length i.received) (length homes) wide)))
          (λ else. let r = l.at_home k low (λ h. ⊎_elim (λ (x : SenderHolds o k). free (inl x)) (λ (x : ReceiverHolds i k). else x.1) h) in (r.0, set_else homes here k (some y) else ∙ r.1));
    }

takes_one : (slots id new k n : ℕ) (u : View) (m : Message) (y : Place) → slots ≡ 8 → u.takes ≡ true → new ≡ length u.incoming.received + 1 → k ≡ length u.incoming.received % 8
    → Allows Kept slots id (looked_in u n (Some m), (k, y) ∷ []) 1 (λ _. new) (λ _. Takes (looked_in u n (Some m), (k, y) ∷ []))
takes_one slots id new k n u m y eight may is place s h wide at fits =
    let v : View = looked_in u n (Some m) in
    let i : Incoming = v.incoming in let o : Outgoing = h.out_known in
    let same : i ≡ h.in_known = ((h.fits id v at).1 may).1 in
    let l : IsInOrder s.words s.homes o i = subst (λ (x : Incoming). IsInOrder s.words s.homes o x) (sym same) h.in_order in
    let each : Each (Fits h.sender h.receiver o i) s.views = subst (λ (x : Incoming). Each (Fits h.sender h.receiver o x) s.views) (sym same) h.fits in
    let i' : Incoming = incoming (i.received ++ m ∷ []) i.seen i.looks None in
    let are : set s.words 1 new ≡ length o.sent ∷ (length i.received + 1) ∷ [] = ap (λ (ws : List ℕ). set ws 1 new) l.words_are ∙ (λ j. length o.sent ∷ (is j) ∷ []) in (
      taken_from v,
      gives,
      tt,
      record {
        sender = h.sender;
        receiver = h.receiver;
        out_known = o;
        in_known = i';
        in_order = subst (λ (j : ℕ). IsInOrder (set s.words 1 new) (set s.homes j (some y)) o i') (sym place) (taken_in_order s.words s.homes o i (set s.words 1 new) m y (wide ∙ eight) l refl are);
        has_sender = part_stays (λ (x : View). x.sends) s.views id h.sender v (taken_from v) at refl h.has_sender;
        has_receiver = part_stays (λ (x : View). x.takes) s.views id h.receiver v (taken_from v) at refl h.has_receiver;
        fits = fits_receiver h.sender h.receiver o i i' s.views id v (taken_from v) each at may refl refl refl refl;
      },
      (refl, refl),
    )

abbrev seated : View → List (ℕ × Place) → Me Place View
seated v c = (v, c)

-- after a look that found a message
pub message_told : (me me1 : Me Place View) (taken n : ℕ) → CanTake me taken → MessageIs (eqb n (length me.0.incoming.received)) me n me1 → n ≢ taken
    → (m : Message) × (me1 ≡ (looked_in me.0 n (Some m), (length me.0.incoming.received % 8, Some m) ∷ []))
message_told me me1 taken n can told something =
    let count : taken ≡ length me.0.incoming.received = can.3 in
    let r : (m : Message) × (me1 ≡ (looked_in me.0 n (Some m), (length me.0.incoming.received % 8, Some m) ∷ me.1)) = subst (λ (b : Bool). MessageIs b me n me1) (ne_eqb n (length me.0.incoming.received) (λ e. something (e ∙ sym count))) told in
    (r.0, r.1 ∙ (λ i. seated (looked_in me.0 n (Some r.0)) ((length me.0.incoming.received % 8, Some r.0) ∷ can.0 i)))

pub holds_first : (me me1 : Me Place View) (taken n : ℕ) → CanTake me taken → MessageIs (eqb n (length me.0.incoming.received)) me n me1 → n ≢ taken → (x : Place) × (me1.1 ≡ (taken % 8, x) ∷ rest me1.1)
holds_first me me1 taken n can told something = let r = message_told me me1 taken n can told something in
    (Some r.0, (λ i. (r.1 i).1) ∙ (λ i. (sym can.3 i % 8, Some r.0) ∷ rest ((sym r.1 i).1)))

-- and after the taking of the message out of the place
pub takes_here : (slots id new place n : ℕ) (me me1 me2 : Me Place View) (taken : ℕ) (y : Place) → slots ≡ 8 → CanTake me taken → MessageIs (eqb n (length me.0.incoming.received)) me n me1 → n ≢ taken
    → me2 ≡ (me1.0, (place, y) ∷ rest me1.1) → new ≡ taken + 1 → place ≡ taken % 8 → Allows Kept slots id me2 1 (λ _. new) (λ _. Takes me2)
takes_here slots id new place n me me1 me2 taken y eight can told something wrote is at =
    let r = message_told me me1 taken n can told something in
    let v : View = looked_in me.0 n (Some r.0) in
    let now : me2 ≡ seated v ((place, y) ∷ []) = wrote ∙ (λ i. seated ((r.1 i).0) ((place, y) ∷ rest ((r.1 i).1))) in
    subst (λ (x : Me Place View). Allows Kept slots id x 1 (λ _. new) (λ _. Takes x)) (sym now)
    (takes_one slots id new place n me.0 r.0 y eight can.1 (is ∙ ap (λ (k : ℕ). k + 1) can.3) (at ∙ ap (λ (k : ℕ). k % 8) can.3))
