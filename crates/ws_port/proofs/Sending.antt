-- The steps of the sender keep the rule of a row.
use Rattle.std.proofs.Common.{◌≡◌, ◌≢◌, ℕ, ◌+◌, ◌%◌, ◌^◌, ◌<◌, ◌≤◌, Bool, true, false, true≢false, eqb, eq-eqb, ne_eqb, List, [], ◌∷◌, ◌++◌, length, get_or, set, sym, refl, ap, ◌∙◌, subst, inl, inr, ⊎_elim, append_assoc, length-append, arith, lit<, mod-lt}
use native.Mathlib.Decide.{ℕ_discrete}
use mathlib.Core.Logic.{dite}
use mathlib.Core.Option.{Option as Slot, none, some, some-injective}
use lib.ListN.{get_elem?}
use Rattle.std.specs.Prelude.{Option, Some, None, IfSome}
use Rattle.atomic_table.specs.Table.{Me, keeps, takes, gives, rest, Allows}
use Rattle.atomic_table.proofs.Lists.{set_here, set_else, at_longer, at_last}
use Rattle.ws_value.specs.declared.value.Message.{Message}
use Rattle.ws_port.specs.declared.rule.Outgoing.{Outgoing}
use Rattle.ws_port.specs.declared.rule.Incoming.{Incoming}
use Rattle.ws_port.specs.declared.rule.View.{View}
use Rattle.ws_port.specs.Rule.{Place, SenderHolds, ReceiverHolds, IsInOrder, Fits, Kept}
use Rattle.ws_port.specs.Steps.{outgoing, looked_out, RoomIs, FindsTaken, posted_from, Posts}
use Rattle.ws_port.specs.Ends.{CanPost}
use Rattle.ws_port.proofs.Views.{Each, part_stays, fits_sender}
use Rattle.ws_port.proofs.Ring.{apart, in_ring, at_below, at_before, idle_held, receiver_apart}

-- The look, where the row is full

full_in_order : (words : List ℕ) (homes : List (Slot Place)) (o : Outgoing) (i : Incoming) (words' : List ℕ) (n : ℕ) → IsInOrder words homes o i → o.holds ≡ false → n ≡ length i.received → words' ≡ length o.sent ∷ length i.received ∷ []
    → IsInOrder words' homes (outgoing o.sent n (o.looks + 1) false) i
full_in_order words homes o i words' n l idle is are = let o' : Outgoing = outgoing o.sent n (o.looks + 1) false in record {
  words_are = are;
  sender_found = omega arith;
  receiver_has = l.receiver_has;
  receiver_found = l.receiver_found;
  sender_has = omega (arith, l.sender_has, l.sender_found);
  room = λ p. absurd (true≢false (sym p));
  message = l.message;
  few = l.few;
  rest = l.rest;
  prefix = l.prefix;
  next = l.next;
  stands = l.stands;
  away = λ k h. l.away k (inr (idle_held o' i k refl h));
  at_home = λ k low free. l.at_home k low (λ h. free (inr (idle_held o i k idle h)));
}

-- The look, where there is room: the seat has the next place

room_in_order : (words : List ℕ) (homes : List (Slot Place)) (o : Outgoing) (i : Incoming) (words' : List ℕ) (n : ℕ) → length homes ≡ 8 → IsInOrder words homes o i → o.holds ≡ false → n ≡ length i.received
    → words' ≡ length o.sent ∷ length i.received ∷ [] → length o.sent < n + 8 → IsInOrder words' (set homes (length o.sent % 8) none) (outgoing o.sent n (o.looks + 1) true) i
room_in_order words homes o i words' n wide l idle is are room =
    let o' : Outgoing = outgoing o.sent n (o.looks + 1) true in
    let here : ℕ = length o.sent % 8 in
    let near : length o.sent < length i.received + 8 = omega (arith, room, is) in record {
      words_are = are;
      sender_found = omega arith;
      receiver_has = l.receiver_has;
      receiver_found = l.receiver_found;
      sender_has = omega arith;
      room = λ _. room;
      message = l.message;
      few = l.few;
      rest = l.rest;
      prefix = l.prefix;
      next = l.next;
      stands = λ k m from e out. let lt = at_below o.sent k m e in set_else homes here (k % 8) none (apart k (length o.sent) lt (omega (arith, near, from))) ∙ l.stands k m from e out;
      away = λ k h. ⊎_elim (λ (x : SenderHolds o' k). ap (λ (j : ℕ). get_elem? (set homes here none) j) x.1 ∙ set_here homes here none (in_ring (length o.sent) (length homes) wide))
          (λ (x : ReceiverHolds i k). set_else homes here k none (receiver_apart words homes o i k l near x) ∙ l.away k (inr x)) h;
      at_home = λ k low free. let r = l.at_home k low (λ h. free (inr (idle_held o i k idle h))) in (r.0, set_else homes here k none (λ e. free (inl (refl, e))) ∙ r.1);
    }

pub looks_out : (slots id : ℕ) (me : Me Place View) (posted : ℕ) → slots ≡ 8 → CanPost me posted → Allows Kept slots id me 1 (λ n. n) (FindsTaken me)
looks_out slots id me posted eight can s h wide at fits =
    let may : me.0.sends ≡ true = can.1 in let idle : me.0.outgoing.holds ≡ false = can.2 in
    let o : Outgoing = me.0.outgoing in let i : Incoming = h.in_known in
    let same : o ≡ h.out_known = ((h.fits id me.0 at).0 may).1 in
    let l : IsInOrder s.words s.homes o i = subst (λ (x : Outgoing). IsInOrder s.words s.homes x i) (sym same) h.in_order in
    let each : Each (Fits h.sender h.receiver o i) s.views = subst (λ (x : Outgoing). Each (Fits h.sender h.receiver x i) s.views) (sym same) h.fits in
    let n : ℕ = get_or s.words 1 0 in
    let is : n ≡ length i.received = ap (λ (ws : List ℕ). get_or ws 1 0) l.words_are in
    let are : set s.words 1 n ≡ length o.sent ∷ length i.received ∷ [] = ap (λ (ws : List ℕ). set ws 1 (get_or ws 1 0)) l.words_are in
    let below : n ≤ length o.sent = omega (arith, is, l.receiver_has, l.receiver_found) in
    let above : length o.sent ≤ n + 8 = omega (arith, is, l.sender_has, l.sender_found) in
    dite (ℕ_discrete (length o.sent) (n + 8))
    (λ full. (
      looked_out me.0 n false,
      keeps,
      tt,
      record {
        sender = h.sender;
        receiver = h.receiver;
        out_known = outgoing o.sent n (o.looks + 1) false;
        in_known = i;
        in_order = full_in_order s.words s.homes o i (set s.words 1 n) n l idle is are;
        has_sender = part_stays (λ (x : View). x.sends) s.views id h.sender me.0 (looked_out me.0 n false) at refl h.has_sender;
        has_receiver = part_stays (λ (x : View). x.takes) s.views id h.receiver me.0 (looked_out me.0 n false) at refl h.has_receiver;
        fits = fits_sender h.sender h.receiver o (outgoing o.sent n (o.looks + 1) false) i s.views id me.0 (looked_out me.0 n false) each at may refl refl refl refl;
      },
      (below, above, subst (λ (b : Bool). RoomIs b me n (looked_out me.0 n false, me.1)) (sym (eq-eqb (length o.sent) (n + 8) full)) refl),
    ))
    (λ not_full. let room : length o.sent < n + 8 = omega (arith, not_full, above) in
    let near : length o.sent < length i.received + 8 = omega (arith, room, is) in
    let there = l.at_home (length o.sent % 8) (mod-lt (length o.sent) (lit< tt)) (λ e. receiver_apart s.words s.homes o i (length o.sent % 8) l near (idle_held o i (length o.sent % 8) idle e) refl) in (
      looked_out me.0 n true,
      takes (length o.sent % 8) there.0,
      there.1,
      record {
        sender = h.sender;
        receiver = h.receiver;
        out_known = outgoing o.sent n (o.looks + 1) true;
        in_known = i;
        in_order = room_in_order s.words s.homes o i (set s.words 1 n) n (wide ∙ eight) l idle is are room;
        has_sender = part_stays (λ (x : View). x.sends) s.views id h.sender me.0 (looked_out me.0 n true) at refl h.has_sender;
        has_receiver = part_stays (λ (x : View). x.takes) s.views id h.receiver me.0 (looked_out me.0 n true) at refl h.has_receiver;
        fits = fits_sender h.sender h.receiver o (outgoing o.sent n (o.looks + 1) true) i s.views id me.0 (looked_out me.0 n true) each at may refl refl refl refl;
      },
      (below, above, subst (λ (b : Bool). RoomIs b me n (looked_out me.0 n true, (length o.sent % 8, there.0) ∷ me.1)) (sym (ne_eqb (length o.sent) (n + 8) not_full)) (there.0, refl)),
    ))

-- The post

next_longer : (held : Option Message) (sent : List Message) (m : Message) (k : ℕ) → IfSome held (λ x. get_elem? sent k ≡ some x) → IfSome held (λ x. get_elem? (sent ++ m ∷ []) k ≡ some x)
next_longer None sent m k h = tt
next_longer (Some x) sent m k h = at_longer sent (m ∷ []) k x h

posted_in_order : (words : List ℕ) (homes : List (Slot Place)) (o : Outgoing) (i : Incoming) (words' : List ℕ) (m : Message) → length homes ≡ 8 → IsInOrder words homes o i → o.holds ≡ true → length o.sent < 2 ^ 62
    → words' ≡ (length o.sent + 1) ∷ length i.received ∷ [] → IsInOrder words' (set homes (length o.sent % 8) (some (Some m))) (outgoing (o.sent ++ m ∷ []) o.seen o.looks false) i
posted_in_order words homes o i words' m wide l holds few are =
    let o' : Outgoing = outgoing (o.sent ++ m ∷ []) o.seen o.looks false in
    let here : ℕ = length o.sent % 8 in
    let found : length o.sent < o.seen + 8 = l.room holds in
    let near : length o.sent < length i.received + 8 = omega (arith, found, l.sender_found) in
    let long : length (o.sent ++ m ∷ []) ≡ length o.sent + 1 = length-append o.sent (m ∷ []) in record {
      words_are = are ∙ (λ k. sym long k ∷ length i.received ∷ []);
      sender_found = l.sender_found;
      receiver_has = l.receiver_has;
      receiver_found = omega (arith, l.receiver_found, long);
      sender_has = omega (arith, found, long);
      room = λ p. absurd (true≢false (sym p));
      message = l.message;
      few = omega (arith, long, few);
      rest = l.rest ++ m ∷ [];
      prefix = ap (λ (x : List Message). x ++ m ∷ []) l.prefix ∙ append_assoc i.received l.rest (m ∷ []);
      next = next_longer i.held o.sent m (length i.received) l.next;
      stands = λ k x from e out. dite (ℕ_discrete k (length o.sent))
          (λ last. let is : m ≡ x = some-injective m x (sym (at_last o.sent m k (sym last)) ∙ e) in
          ap (λ (j : ℕ). get_elem? (set homes here (some (Some m))) (j % 8)) last
          ∙ set_here homes here (some (Some m)) (in_ring (length o.sent) (length homes) wide)
          ∙ ap (λ (z : Message). some (some (Some z))) is)
          (λ else. let e' : get_elem? o.sent k ≡ some x = at_before o.sent m k x else e in let lt = at_below o.sent k x e' in
          set_else homes here (k % 8) (some (Some m)) (apart k (length o.sent) lt (omega (arith, near, from))) ∙ l.stands k x from e' out);
      away = λ k h. let x = idle_held o' i k refl h in set_else homes here k (some (Some m)) (receiver_apart words homes o i k l near x) ∙ l.away k (inr x);
      at_home = λ k low free. dite (ℕ_discrete k here)
          (λ there. (Some m, ap (λ (j : ℕ). get_elem? (set homes here (some (Some m))) j) there ∙ set_here homes here (some (Some m)) (in_ring (length o.sent) (length homes) wide)))
          (λ else. let r = l.at_home k low (λ h. ⊎_elim (λ (x : SenderHolds o k). else x.1) (λ (x : ReceiverHolds i k). free (inr x)) h) in (r.0, set_else homes here k (some (Some m)) else ∙ r.1));
    }

posts_one : (slots id new k n : ℕ) (u : View) (m : Message) → slots ≡ 8 → u.sends ≡ true → length u.outgoing.sent < 2 ^ 62 → new ≡ length u.outgoing.sent + 1 → k ≡ length u.outgoing.sent % 8
    → Allows Kept slots id (looked_out u n true, (k, Some m) ∷ []) 0 (λ _. new) (λ _. Posts (looked_out u n true, (k, Some m) ∷ []))
posts_one slots id new k n u m eight may few is place s h wide at fits =
    let v : View = looked_out u n true in
    let o : Outgoing = v.outgoing in let i : Incoming = h.in_known in
    let same : o ≡ h.out_known = ((h.fits id v at).0 may).1 in
    let l : IsInOrder s.words s.homes o i = subst (λ (x : Outgoing). IsInOrder s.words s.homes x i) (sym same) h.in_order in
    let each : Each (Fits h.sender h.receiver o i) s.views = subst (λ (x : Outgoing). Each (Fits h.sender h.receiver x i) s.views) (sym same) h.fits in
    let o' : Outgoing = outgoing (o.sent ++ m ∷ []) o.seen o.looks false in
    let w : View = posted_from v ((k, Some m) ∷ []) in
    let are : set s.words 0 new ≡ (length o.sent + 1) ∷ length i.received ∷ [] = ap (λ (ws : List ℕ). set ws 0 new) l.words_are ∙ (λ j. (is j) ∷ length i.received ∷ []) in (
      w,
      gives,
      tt,
      record {
        sender = h.sender;
        receiver = h.receiver;
        out_known = o';
        in_known = i;
        in_order = subst (λ (j : ℕ). IsInOrder (set s.words 0 new) (set s.homes j (some (Some m))) o' i) (sym place) (posted_in_order s.words s.homes o i (set s.words 0 new) m (wide ∙ eight) l refl few are);
        has_sender = part_stays (λ (x : View). x.sends) s.views id h.sender v w at refl h.has_sender;
        has_receiver = part_stays (λ (x : View). x.takes) s.views id h.receiver v w at refl h.has_receiver;
        fits = fits_sender h.sender h.receiver o o' i s.views id v w each at may refl refl refl refl;
      },
      (refl, refl),
    )

abbrev seated : View → List (ℕ × Place) → Me Place View
seated v c = (v, c)

room_told : (v : Me Place View) (n : ℕ) (w : Me Place View) → RoomIs (eqb (length v.0.outgoing.sent) (n + 8)) v n w → length v.0.outgoing.sent ≢ n + 8 → (y : Place) × (w ≡ (looked_out v.0 n true, (length v.0.outgoing.sent % 8, y) ∷ v.1))
room_told v n w told not_full = subst (λ (b : Bool). RoomIs b v n w) (ne_eqb (length v.0.outgoing.sent) (n + 8) not_full) told

-- after a look that found room, and the putting of the message into the place
pub posts_here : (slots id new place n : ℕ) (me me1 me2 : Me Place View) (posted : ℕ) (m : Message) → slots ≡ 8 → CanPost me posted → length me.0.outgoing.sent < 2 ^ 62 → new ≡ posted + 1
    → place ≡ posted % 8 → RoomIs (eqb (length me.0.outgoing.sent) (n + 8)) me n me1 → posted ≢ n + 8 → me2 ≡ (me1.0, (place, Some m) ∷ rest me1.1)
    → Allows Kept slots id me2 0 (λ _. new) (λ _. Posts me2)
posts_here slots id new place n me me1 me2 posted m eight can few is at told not_full wrote =
    let count : posted ≡ length me.0.outgoing.sent = can.3 in
    let r = room_told me n me1 told (λ e. not_full (count ∙ e)) in
    let v : View = looked_out me.0 n true in
    let now : me2 ≡ seated v ((place, Some m) ∷ []) = wrote ∙ (λ i. seated ((r.1 i).0) ((place, Some m) ∷ rest ((r.1 i).1))) ∙ (λ i. seated v ((place, Some m) ∷ can.0 i)) in
    subst (λ (x : Me Place View). Allows Kept slots id x 0 (λ _. new) (λ _. Posts x)) (sym now)
    (posts_one slots id new place n me.0 m eight can.1 few (is ∙ ap (λ (k : ℕ). k + 1) count) (at ∙ ap (λ (k : ℕ). k % 8) count))
