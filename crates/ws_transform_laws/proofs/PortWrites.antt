-- Each operation of a writable stream at the end of a port keeps what holds of it while a write waits.
use Rattle.std.proofs.Common.{◌≡◌, ℕ, ◌+◌, ◌≤◌, Bool, true, false, ◌&&◌, nat_eq, List, [], ◌∷◌, ◌++◌, Option, Some, None, Ok, Err, ◌⊎◌, inl, inr, ⊎_elim, refl, sym, ap, ◌∙◌, subst, arith}
use Rattle.ws_laws.proofs.Lists.{Each, each-append, each-map}
use Rattle.ws_laws.proofs.Tables.{eq_numbers, is_same-refl, writable_acts}
use Rattle.ws_steps.specs.Cross as cross
use Rattle.ws_steps.specs.Cross.{post, data_clone}
use Rattle.ws_steps.specs.Operations.{writable_operation}
use Rattle.ws_steps.specs.Queues.{first_value}
use Rattle.ws_steps.specs.Slots.{Slots, has_writable}
use Rattle.ws_steps.specs.Turns.{row}
use Rattle.ws_steps.specs.Writable as writable
use Rattle.ws_steps.specs.declared.effects.Effect.TheVariants.{Writable as OnWritable}
use Rattle.ws_steps.specs.declared.effects.Effect.{Effect}
use Rattle.ws_steps.specs.declared.transform.{Taker.{Taker}, Taker.TheVariants.{ToHost, ToTransform, ToPort}}
use Rattle.ws_steps.specs.declared.writable.WritableOperation.TheVariants as writes
use Rattle.ws_steps.specs.declared.writable.{WritableOperation.{WritableOperation}, WriteRecord.{WriteRecord}, WriteRecord.TheVariants.{Chunk, InFlight, CloseMark}}
use Rattle.ws_transform_laws.proofs.PortAsked.{unblocking}
use Rattle.ws_value.specs.declared.ids.{PortId.{PortId}, PromiseId.{PromiseId}, StreamId.{StreamId}}
use Rattle.ws_value.specs.declared.value.{Plain.{Plain}, Value.{Value}}
use Rattle.ws_writable_laws.proofs.Shape.{one_if, all, all-append, leads_to}
use Rattle.std.proofs.Common.{is_some, length}
use Rattle.ws_steps.specs.declared.queue.Queued.{Queued}
use Rattle.ws_steps.specs.Queues.{rest_of}
use Rattle.ws_steps.specs.Slots.{as_writable}
use Rattle.ws_steps.specs.Writable.{has_ended}
use Rattle.ws_steps.specs.WritableHistory.{Writes, writes_then, effect_writes}
use Rattle.ws_laws.proofs.Tables.{on_writable-same}
use Rattle.ws_laws.proofs.Truth.{and_right}
use Rattle.ws_laws.proofs.WritableDoes.{IsHandOn}
use Rattle.ws_writable_laws.proofs.Shape.{weight, writes_in}
use Rattle.ws_transform_laws.proofs.Lawful.{Known, settled-flies}
use Rattle.ws_transform_laws.proofs.Need.{needs}
use Rattle.ws_transform_laws.proofs.PortCounts.{extra, NotLate, Suits, writable-caused}
use Rattle.ws_transform_laws.proofs.PortLawful.{none-settles}
use Rattle.ws_transform_laws.proofs.PortMoves.{Lined, starts_write, Moves, Ends, Keeps, Begins, operation-moves, failed-ends, fulfilled-moves, ended-stays}
use Rattle.ws_transform_laws.proofs.PortFacts.{After, Done_so, Facts, Heads, Here, calm-facts, calm-none, count, known-of, late-heads, w, weight-row}
use Rattle.ws_transform_laws.proofs.PortActs.{self}

module _ (i : StreamId) (c : PortId) where
  -- an operation of the stream

  pub record Kind (e : Effect) : Type 0 where
    pub extra : extra i c e ≡ starts_write e
    pub late : NotLate i c e
    pub suits : Suits i c e

  kinds-extra : (es : List Effect) → Each Kind es → all (extra i c) es ≡ all starts_write es
  kinds-extra [] k = refl
  kinds-extra (e ∷ es) k = let a = k.0.extra in let n = kinds-extra es k.1 in omega (arith, a, n)

  abbrev pub Own : Slots → WritableOperation → writable.Acts
  Own s operation = writable_operation i operation (writable_acts i s)

  own-kinds : (s : Slots) (operation : WritableOperation) → (IsHandOn operation → ⊥) → Each Kind (row (OnWritable i operation) s).caused
  own-kinds s operation u =
      writable-caused Kind i s operation (record {
        write = record { extra = rw (is_same-refl i) refl; late = tt; suits = tt };
        close = record { extra = refl; late = tt; suits = tt };
        abort = λ r p. record { extra = refl; late = tt; suits = tt };
        take = λ taker v e. absurd (u (subst IsHandOn (sym e) tt));
      })

  own-place : (s : Slots) (operation : WritableOperation) → has_writable i s ≡ true → w i c (row (OnWritable i operation) s).slots ≡ (Own s operation).slots
  unfolding row
  own-place s operation there = ap as_writable (on_writable-same (writable_operation i operation) i s there)

  own-caused : (s : Slots) (operation : WritableOperation) → has_writable i s ≡ true → (row (OnWritable i operation) s).caused ≡ (Own s operation).out.effects
  unfolding row
  own-caused s operation there = rw there refl

  module _ (h : Writes) (s : Slots) (operation : WritableOperation) (es : List Effect) (x : cross.Slots) (k : Here i c h s (OnWritable i operation) es x) where
    abbrev e : Effect
    e = OnWritable i operation

    abbrev z : Slots
    z = (row e s).slots

    abbrev told : Writes
    told = effect_writes i e s

    place : w i c z ≡ (Own s operation).slots
    place = own-place s operation k.there

    -- what is done stays so
    done-on : Done_so i c h s → Done_so i c (writes_then h told) z
    done-on (inl d) = inl (ap (λ (v : writable.Slots). has_ended v.state) place ∙ ended-stays i operation (writable_acts i s) d)
    done-on (inr d) = inr (omega (arith, d))

    ended-on : has_ended (Own s operation).slots.state ≡ true → Done_so i c (writes_then h told) z
    ended-on d = inl (ap (λ (v : writable.Slots). has_ended v.state) place ∙ d)

    known : Known i h s (e ∷ es)
    known = known-of i c h s e es x k

    module _ (u : IsHandOn operation → ⊥) where
      kinds : Each Kind (row e s).caused
      kinds = own-kinds s operation u

      heads-on : Heads i c (writes_then h told) z x ((row e s).caused ++ es)
      heads-on =
          late-heads i c (writes_then h told) z x ((row e s).caused ++ es)
          (each-append (NotLate i c) (row e s).caused es (each-map Kind (NotLate i c) (λ f m. m.late) (row e s).caused kinds) k.facts.heads.1)

      suits-on : Each (Suits i c) ((row e s).caused ++ es)
      suits-on = each-append (Suits i c) (row e s).caused es (each-map Kind (Suits i c) (λ f m. m.suits) (row e s).caused kinds) k.facts.suits.1

      -- so many more stand as write algorithms are to be performed
      count-on : count i c z ((row e s).caused ++ es) ≤ count i c s es + all starts_write (Own s operation).out.effects
      count-on =
          let p = weight-row i c e s in
          let none = k.only.0 in
          let v = calm-none i c e s refl k.only.0 in
          let extras = kinds-extra (row e s).caused kinds in
          let same = ap (all starts_write) (own-caused s operation k.there) in
          let au = all-append (leads_to (unblocking c)) (row e s).caused es in
          let ax = all-append (extra i c) (row e s).caused es in
          omega (arith, p, none, v, extras, same, au, ax)

      count-before : count i c s es ≤ count i c s (e ∷ es)
      count-before = omega arith

      needs-on : needs (w i c z) ≡ needs (Own s operation).slots
      needs-on = ap needs place

      facts-by : (Done_so i c (writes_then h told) z ⊎ (count i c z ((row e s).caused ++ es) ≤ one_if (needs (w i c z) && x.live))) → (x.live ≡ false → Done_so i c (writes_then h told) z ⊎ (needs (w i c z) ≡ true)) → After i c h s e es x
      facts-by a b = record { few = a; dead = b; heads = heads-on; suits = suits-on }

      moves-facts : Moves i (needs (w i c s)) (Own s operation) → After i c h s e es x
      moves-facts (Ends d) = facts-by (inl (ended-on d)) (λ n. inl (ended-on d))
      moves-facts (Keeps t same) =
          let same_so : needs (w i c z) ≡ needs (w i c s) = needs-on ∙ same in
          let a = count-on in
          let b = count-before in
          facts-by (⊎_elim (λ d. inl (done-on d)) (λ f. inr (rw same_so (omega (arith, a, b, t, f)))) k.facts.few) (λ n. ⊎_elim (λ d. inl (done-on d)) (λ f. inr (same_so ∙ f)) (k.facts.dead n))
      moves-facts (Begins t was now) = by x.live refl
        where
          now_so : needs (w i c z) ≡ true
          now_so = needs-on ∙ now

          by : (l : Bool) → l ≡ x.live → After i c h s e es x
          by true l =
              let a = count-on in
              let b = count-before in
              facts-by (⊎_elim (λ d. inl (done-on d))
              (λ (f : count i c s (e ∷ es) ≤ one_if (needs (w i c s) && x.live)). let g : count i c s (e ∷ es) ≤ one_if (false && x.live) = rw was at f in inr (rw (now_so, ← l) (omega (arith, a, b, t, g)))) k.facts.few)
              (λ n. inr now_so)
          by false l =
              ⊎_elim (λ d. facts-by (inl (done-on d)) (λ n. inl (done-on d))) (λ f. let no : true ≡ false = sym f ∙ was in cc) (k.facts.dead (sym l))

  lined : (h : Writes) (s : Slots) (es : List Effect) → Known i h s es → Lined i (needs (w i c s)) (writable_acts i s)
  lined h s es k = (k.shape.ended, λ e. let r = k.shape.requests in rw e at r)

  -- a chunk is handed on
  module _ (h : Writes) (s : Slots) (p : PromiseId) (es : List Effect) (x : cross.Slots) (k : Here i c h s (OnWritable i (writes.HandOn (ToPort c p))) es x) where
    abbrev hand : Effect
    hand = OnWritable i (writes.HandOn (ToPort c p))

    abbrev hz : Slots
    hz = (row hand s).slots

    abbrev htold : Writes
    htold = effect_writes i hand s

    abbrev Hand : Option WriteRecord → writable.Acts
    Hand first = writable.hand_on_first i (ToPort c p) (writable_acts i s) first

    hand-done : Done_so i c h s → Done_so i c (writes_then h htold) hz
    hand-done d = done-on h s (writes.HandOn (ToPort c p)) es x k d

    hand-known : Known i h s (hand ∷ es)
    hand-known = known-of i c h s hand es x k

    hand-weighs : weight (unblocking c) hz.promises ≤ weight (unblocking c) s.promises + leads_to (unblocking c) hand
    hand-weighs = weight-row i c hand s

    hand-one : one_if (nat_eq c.0 c.0) ≡ 1
    hand-one = rw (self i c) refl

    queued : (queue : List (Queued WriteRecord)) (v : Value) → first_value queue ≡ Some (Chunk v) → queue ≡ [] → {A : Type 0} → A
    queued [] v e n = cc
    queued (q ∷ qs) v e n = cc

    full : (v : Value) → first_value (w i c s).queue ≡ Some (Chunk v) → Done_so i c h s → {A : Type 0} → A
    full v e (inl d) = queued (w i c s).queue v e (hand-known.shape.ended d)
    full v e (inr d) = queued (w i c s).queue v e (hand-known.shape.spent (omega (arith, d)))

    both : (b : Bool) → count i c s (hand ∷ es) ≤ one_if b → b ≡ true
    both true f = refl
    both false f = let one = hand-one in absurd (omega (arith, f, one))

    stands-live : (v : Value) → first_value (w i c s).queue ≡ Some (Chunk v) → needs (w i c s) && x.live ≡ true
    stands-live v e = ⊎_elim (λ d. full v e d) (λ f. both (needs (w i c s) && x.live) f) k.facts.few

    hand-quiet : w i c hz ≡ w i c s → Facts i c (writes_then h htold) hz ([] ++ es) x
    hand-quiet same =
        calm-facts i c h htold s hz hand [] es x x same refl (let p = hand-weighs in omega (arith, p)) tt tt k.facts

    hand-by : (first : Option WriteRecord) → first_value (w i c s).queue ≡ first → w i c hz ≡ (Hand first).slots → Facts i c (writes_then h htold) hz ((Hand first).out.effects ++ es) x
    hand-by None e same = hand-quiet same
    hand-by (Some InFlight) e same = hand-quiet same
    hand-by (Some CloseMark) e same = hand-quiet same
    hand-by (Some (Chunk v)) e same =
        let on = stands-live v e in
        let q = hand-weighs in
        let one = hand-one in
        let before : count i c s (hand ∷ es) ≤ one_if (needs (w i c s) && x.live) = ⊎_elim (λ d. full v e d) (λ f. f) k.facts.few in
        let few_so : count i c s (hand ∷ es) ≤ 1 = rw on at before in
        let alive : x.live ≡ true = and_right (needs (w i c s)) x.live on in
        record {
          few = inr (omega (arith, q, one, few_so));
          dead = λ n. let no : true ≡ false = sym alive ∙ n in cc;
          heads = ((λ q. alive), k.facts.heads.1);
          suits = (tt, k.facts.suits.1);
        }

  hand-facts : (h : Writes) (s : Slots) (p : PromiseId) (es : List Effect) (x : cross.Slots) → Here i c h s (OnWritable i (writes.HandOn (ToPort c p))) es x → After i c h s (OnWritable i (writes.HandOn (ToPort c p))) es x
  unfolding writable.hand_on
  hand-facts h s p es x k =
      let place : w i c (row (OnWritable i (writes.HandOn (ToPort c p))) s).slots ≡ (Own s (writes.HandOn (ToPort c p))).slots = own-place s (writes.HandOn (ToPort c p)) k.there in
      rw (own-caused s (writes.HandOn (ToPort c p)) k.there) (hand-by h s p es x k (first_value (w i c s).queue) refl place)

  handed-facts : (h : Writes) (s : Slots) (taker : Taker) (es : List Effect) (x : cross.Slots) → Here i c h s (OnWritable i (writes.HandOn taker)) es x → After i c h s (OnWritable i (writes.HandOn taker)) es x
  handed-facts h s ToHost es x k = let wrong : true ≡ false = sym (is_same-refl i) ∙ k.facts.suits.0 in cc
  handed-facts h s (ToTransform t p) es x k = let wrong : true ≡ false = sym (is_same-refl i) ∙ k.facts.suits.0 in cc
  handed-facts h s (ToPort d p) es x k =
      let same : nat_eq c.0 d.0 ≡ true = k.facts.suits.0.1 (is_same-refl i) in
      let is : c ≡ d = ap (λ (n : ℕ). record { 0 = n }) (eq_numbers c.0 d.0 same) in
      subst (λ (u : PortId). Here i c h s (OnWritable i (writes.HandOn (ToPort u p))) es x → After i c h s (OnWritable i (writes.HandOn (ToPort u p))) es x) is (hand-facts h s p es x) k

  -- a write is settled

  fulfilled-facts : (h : Writes) (s : Slots) (v : Plain) (es : List Effect) (x : cross.Slots) → Here i c h s (OnWritable i (writes.WriteSettled (Ok v))) es x → After i c h s (OnWritable i (writes.WriteSettled (Ok v))) es x
  fulfilled-facts h s v es x k =
      moves-facts h s (writes.WriteSettled (Ok v)) es x k (λ u. u)
      (subst (λ (b : Bool). Moves i b (Own s (writes.WriteSettled (Ok v)))) (sym unneeded)
      (fulfilled-moves i v (writable_acts i s) refl (λ e. rw (known.shape.ended e) refl) requested))
    where
      known : Known i h s (OnWritable i (writes.WriteSettled (Ok v)) ∷ es)
      known = known-of i c h s (OnWritable i (writes.WriteSettled (Ok v))) es x k

      unneeded : needs (w i c s) ≡ false
      unneeded = by (needs (w i c s)) refl
        where
          by : (b : Bool) → b ≡ needs (w i c s) → needs (w i c s) ≡ false
          by false e = sym e
          by true e = none-settles i c h s es v k.going known (k.going.staged k.owner (sym e)).1

      requested : writes_in (rest_of (w i c s).queue) ≡ length (w i c s).write_requests
      requested = let r = known.shape.requests in rw (settled-flies i h s es (Ok v) known) at r

  failed-facts : (h : Writes) (s : Slots) (r : Plain) (es : List Effect) (x : cross.Slots) → Here i c h s (OnWritable i (writes.WriteSettled (Err r))) es x → After i c h s (OnWritable i (writes.WriteSettled (Err r))) es x
  failed-facts h s r es x k =
      moves-facts h s (writes.WriteSettled (Err r)) es x k (λ u. u)
      (Ends (failed-ends i r (writable_acts i s) (known.shape.started (rw flies refl)) (unclosed (is_some (w i c s).close_in_flight) refl)))
    where
      known : Known i h s (OnWritable i (writes.WriteSettled (Err r)) ∷ es)
      known = known-of i c h s (OnWritable i (writes.WriteSettled (Err r))) es x k

      flies : is_some (w i c s).write_in_flight ≡ true
      flies = settled-flies i h s es (Err r) known

      unclosed : (b : Bool) → b ≡ is_some (w i c s).close_in_flight → is_some (w i c s).close_in_flight ≡ false
      unclosed false e = sym e
      unclosed true e = let still = known.shape.still (known.shape.flight (sym e)) in let no : true ≡ false = sym flies ∙ still in cc

  pub own-facts : (h : Writes) (s : Slots) (operation : WritableOperation) (es : List Effect) (x : cross.Slots) → Here i c h s (OnWritable i operation) es x → After i c h s (OnWritable i operation) es x
  own-facts h s (writes.HandOn taker) es x k = handed-facts h s taker es x k
  own-facts h s (writes.WriteSettled (Ok v)) es x k = fulfilled-facts h s v es x k
  own-facts h s (writes.WriteSettled (Err r)) es x k = failed-facts h s r es x k
  own-facts h s operation es x k =
      moves-facts h s operation es x k (λ u. u) (operation-moves i (needs (w i c s)) operation (writable_acts i s) (λ u. u) (λ u. u) (lined h s (OnWritable i operation ∷ es) (known-of i c h s (OnWritable i operation) es x k)) (refl, refl))
