-- What each effect does to a writable stream and to the promise of a close of it: a stream that is closed stays so, one that is open stays so but
-- for a close, and the promise is that of the close until it is rejected, or the stream closed.
use Rattle.std.proofs.Common.{◌≡◌, ℕ, zero, suc, ◌+◌, ◌≤◌, Bool, true, false, ◌||◌, is_some, ◌⊎◌, inl, inr, ⊎_elim, List, [], ◌∷◌, Option, Some, None, Ok, Err, slice_get, refl, sym, ap, subst, ◌∙◌, arith}
use Rattle.ws_value.specs.declared.ids.PromiseId.{PromiseId}
use Rattle.ws_value.specs.declared.ids.StreamId.{StreamId}
use Rattle.ws_value.specs.declared.value.Plain.{Plain}
use Rattle.ws_steps.specs.declared.effects.Effect.{Effect}
use Rattle.ws_steps.specs.declared.effects.Effect.TheVariants.{Readable, Byte, Writable}
use Rattle.ws_steps.specs.declared.writable.WritableOperation.{WritableOperation}
use Rattle.ws_steps.specs.declared.writable.WritableOperation.TheVariants as names
use Rattle.ws_steps.specs.declared.writable.WritableState.{WritableState}
use Rattle.ws_steps.specs.Operations.{byte_operation, writable_operation}
use Rattle.ws_steps.specs.Promises.{outcome_at, entry_at, is_open_entry}
use Rattle.ws_steps.specs.Slots.{Slots, Stream, ReadableStream, ByteStream, WritableStream, has_writable, writable_at, is_writable_stream, as_writable, no_writable, on_byte, on_writable}
use Rattle.ws_steps.specs.Turns.{row, on_source}
use Rattle.ws_steps.specs.Writable as writable
use Rattle.ws_steps.specs.Writable.{Acts, is_closed, is_closing, has_ended}
use Rattle.ws_steps.specs.Histories.{is_same}
use Rattle.ws_steps.specs.Laws.{is_rejected}
use Rattle.ws_steps.specs.WritableHistory.{Writes}
use Rattle.ws_laws.proofs.Apart.{row-streams}
use Rattle.ws_laws.proofs.Tables.{is_same-refl, same_id, writable_acts, writable_there, no_writable_there, on_writable-same, on_writable-other}
use Rattle.ws_laws.proofs.WritableDoes.{IsHandOn}
use Rattle.ws_writable_laws.proofs.Agenda.{Kept, found, Elsewhere, row-leaves, same_or}
use Rattle.ws_writable_laws.proofs.Expects.{close_settled-expects}
use Rattle.ws_writable_laws.proofs.Operations.{same_once}
use Rattle.ws_promise_laws.proofs.Realm.{in_all, in_stream}
use Rattle.ws_promise_laws.proofs.Runs.{Straight}
use Rattle.ws_promise_laws.proofs.Tokens.{names_any}
use Rattle.ws_end_laws.proofs.hosts.Closing.{is_closed_in, closed_in, MayClose, row-before}
use Rattle.ws_end_laws.proofs.hosts.Fates.{is_promise, asks, Neat, Fated, operation-fated, asked-fated}
use Rattle.ws_end_laws.proofs.hosts.Staying.{IsReaction, closed-operation, IsClose, Open, open-operation, started-operation}
use Rattle.ws_end_laws.proofs.hosts.Sources.{byte-spares, source-spares}

module _ (i : StreamId) where
  abbrev w : Slots → writable.Slots
  w s = writable_at i s

  closed_slots : (o : Option Stream) → is_closed_in o ≡ true → (o ≡ Some (WritableStream (as_writable o))) × (is_closed (as_writable o).state ≡ true)
  closed_slots None e = absurd (cc)
  closed_slots (Some (ReadableStream r)) e = absurd (cc)
  closed_slots (Some (ByteStream b)) e = absurd (cc)
  closed_slots (Some (WritableStream x)) e = (refl, e)

  there_writable : (s : Slots) → slice_get s.streams i.0 ≡ Some (WritableStream (w s)) → has_writable i s ≡ true
  there_writable s e = rw e refl

  -- what an operation of the stream leaves, where it is there
  pub own_after : (operation : WritableOperation) (s : Slots) → has_writable i s ≡ true → let b : Acts = writable_operation i operation (writable_acts i s) in
      (writable_at i (on_writable (writable_operation i operation) i s).slots ≡ b.slots) × ((closed_in i (on_writable (writable_operation i operation) i s).slots ≡ is_closed b.slots.state) × ((on_writable (writable_operation i operation) i s).slots.promises ≡ b.out.promises))
  own_after operation s h =
      let op : Acts → Acts = writable_operation i operation in
      let at = on_writable-same op i s h in
      (ap as_writable at, (ap is_closed_in at, rw h refl))

  -- a stream that is closed, whose controller has started, stays so

  closed_ended : (state : WritableState) → is_closed state ≡ true → has_ended state ≡ true
  closed_ended state e = grind arith

  no_reaction : (operation : WritableOperation) (h : Writes) (es : List Effect) (s : Slots) → (has_ended (w s).state ≡ true → is_some (w s).close_in_flight ≡ false) → is_closed (w s).state ≡ true → (w s).started ≡ true → Kept i h s (Writable i operation ∷ es)
      → IsReaction operation → ⊥
  no_reaction (names.CloseSettled o) h es s calm c t k r =
      let n = close_settled-expects i h es s o k in
      let ended : has_ended (w s).state ≡ true = closed_ended (w s).state c in
      let m = calm ended in absurd (cc)
  no_reaction (names.StartSettled o) h es s calm c t k r = let f = found i (names.StartSettled o) h es s (λ u. u) k in let one = same_once i in grind arith
  no_reaction (names.WriteSettled o) h es s calm c t k r = let f = found i (names.WriteSettled o) h es s (λ u. u) k in let one = same_once i in grind arith
  no_reaction _ h es s calm c t k r = r

  pub record Shut (s : Slots) : Type 0 where
    pub closed : closed_in i s ≡ true
    pub started : (w s).started ≡ true

  abbrev Stays : Slots → Effect → Type 0
  Stays s e = (es : List Effect) → Straight s (e ∷ es) → Shut s → Shut (row e s).slots

  own-stays : (operation : WritableOperation) (s : Slots) → Stays s (Writable i operation)
  unfolding row
  own-stays operation s es k c =
      let at = closed_slots (slice_get s.streams i.0) c.closed in
      let b = own_after operation s (there_writable s at.0) in
      let known = k.known i in
      record {
        closed = b.1.0 ∙ closed-operation i operation (writable_acts i s) (no_reaction operation known.0 es s (k.sound.calm i) at.1 c.started known.1) at.1;
        started = ap (λ (x : writable.Slots). x.started) b.0 ∙ started-operation i operation (writable_acts i s) c.started;
      }

  same-stays : (s z : Slots) → slice_get z.streams i.0 ≡ slice_get s.streams i.0 → Shut s → Shut z
  same-stays s z e c = record { closed = ap is_closed_in e ∙ c.closed; started = ap (λ (o : Option Stream). (as_writable o).started) e ∙ c.started }

  shut_there : (s : Slots) → Shut s → has_writable i s ≡ true
  shut_there s c = there_writable s (closed_slots (slice_get s.streams i.0) c.closed).0

  other-stays : (j : StreamId) (operation : WritableOperation) (s : Slots) → is_same i j ≡ false → Stays s (Writable j operation)
  unfolding row
  other-stays j operation s n es k c = same-stays s (on_writable (writable_operation j operation) j s).slots (on_writable-other (writable_operation j operation) j s i n) c

  pub row-shut : (s : Slots) (e : Effect) → Stays s e
  unfolding row
  row-shut s (Readable j operation) es k c = same-stays s (on_source operation j s).slots (source-spares i j s (shut_there s c) operation) c
  row-shut s (Byte j operation) es k c = same-stays s (on_byte (byte_operation j operation) j s).slots (byte-spares i j s (shut_there s c) (byte_operation j operation)) c
  row-shut s (Writable j operation) es k c = same_or (λ l. Stays s (Writable l operation)) i j (is_same i j) refl (λ n. other-stays j operation s n) (own-stays operation s) es k c
  row-shut s e es k c = same-stays s (row e s).slots (ap (λ (xs : List Stream). slice_get xs i.0) (row-streams e s tt)) c

  -- where a stream becomes closed, its controller has started

  closing-started : (v : Plain) (s : Slots) (es : List Effect) → Straight s (Writable i (names.CloseSettled (Ok v)) ∷ es) → (w s).started ≡ true
  closing-started v s es k =
      let known = k.known i in
      let f = found i (names.CloseSettled (Ok v)) known.0 es s (λ u. u) known.1 in
      let n = close_settled-expects i known.0 es s (Ok v) known.1 in grind arith

  abbrev Starting : Slots → Effect → Type 0
  Starting s e = (es : List Effect) → Straight s (e ∷ es) → (closed_in i s ≡ true → (w s).started ≡ true) → closed_in i (row e s).slots ≡ true → (w (row e s).slots).started ≡ true

  kept-started : (s : Slots) (e : Effect) → (MayClose i e → ⊥) → Starting s e
  kept-started s e n es k was c =
      let before = row-before i e s n c in
      (row-shut s e es k (record { closed = before; started = was before })).started

  close-started : (v : Plain) (s : Slots) → Starting s (Writable i (names.CloseSettled (Ok v)))
  unfolding row
  close-started v s es k was c =
      by (has_writable i s) refl
    where
      by : (b : Bool) → has_writable i s ≡ b → (w (on_writable (writable_operation i (names.CloseSettled (Ok v))) i s).slots).started ≡ true
      by true h =
          ap (λ (x : writable.Slots). x.started) (own_after (names.CloseSettled (Ok v)) s h).0
          ∙ started-operation i (names.CloseSettled (Ok v)) (writable_acts i s) (closing-started v s es k)
      by false h = rw h (closing-started v s es k)

  pub row-started : (s : Slots) (e : Effect) → Starting s e
  row-started s (Writable j (names.CloseSettled (Ok v))) es k was c =
      same_or (λ l. Starting s (Writable l (names.CloseSettled (Ok v)))) i j (is_same i j) refl (λ n. kept-started s (Writable j (names.CloseSettled (Ok v))) (λ m. other_way j n m.0)) (close-started v s) es k was c
    where
      other_way : (j : StreamId) → is_same i j ≡ false → is_same j i ≡ true → ⊥
      other_way j n m = let e : i ≡ j = sym (same_id j i m) in let f : is_same i j ≡ true = subst (λ (l : StreamId). is_same i l ≡ true) e (is_same-refl i) in absurd (cc)
  row-started s (Writable j (names.CloseSettled (Err r))) es k was c = kept-started s (Writable j (names.CloseSettled (Err r))) (λ m. m.1) es k was c
  row-started s (Writable j operation) es k was c = kept-started s (Writable j operation) (λ m. m.1) es k was c
  row-started s e es k was c = kept-started s e (λ m. m) es k was c

  -- a stream that is open stays so but for a close

  -- an effect that doesn't close it
  abbrev pub NoClose : Effect → Type 0
  NoClose (Writable j (names.Close p)) = is_same i j ≡ false
  NoClose (Writable j (names.ClosePropagating p)) = is_same i j ≡ false
  NoClose _ = Unit {0}

  abbrev StaysOpen : Slots → Effect → Type 0
  StaysOpen s e = (es : List Effect) → Straight s (e ∷ es) → NoClose e → Open (w s) → Open (w (row e s).slots)

  open_there : (s : Slots) → Open (w s) → has_writable i s ≡ true
  open_there s o = by (has_writable i s) refl
    where
      by : (b : Bool) → has_writable i s ≡ b → b ≡ true
      by true e = refl
      by false e =
          let none : w s ≡ no_writable = no_writable_there (slice_get s.streams i.0) e in
          let c : true ≡ false = subst (λ (x : writable.Slots). is_closed x.state ≡ false) none o.closed in absurd (cc)

  no_close : (operation : WritableOperation) (s : Slots) (h : Writes) (es : List Effect) → Kept i h s (Writable i operation ∷ es) → NoClose (Writable i operation) → Open (w s) → IsClose operation → ⊥
  no_close (names.Close p) s h es k n o c = let self = is_same-refl i in absurd (cc)
  no_close (names.ClosePropagating p) s h es k n o c = let self = is_same-refl i in absurd (cc)
  no_close (names.CloseSettled r) s h es k n o c = flight (w s).close_request (w s).close_in_flight o.closing (close_settled-expects i h es s r k)
    where
      flight : (a b : Option PromiseId) → is_some a || is_some b ≡ false → is_some b ≡ true → ⊥
      flight a b e f = grind arith
  no_close _ s h es k n o c = c

  own-open : (operation : WritableOperation) (s : Slots) → StaysOpen s (Writable i operation)
  unfolding row
  own-open operation s es k n o =
      let b = own_after operation s (open_there s o) in
      let known = k.known i in
      subst Open (sym b.0) (open-operation i operation (writable_acts i s) (no_close operation s known.0 es known.1 n o) o)

  elsewhere-open : (s : Slots) (e : Effect) → Elsewhere i e → StaysOpen s e
  elsewhere-open s e x es k n o = subst Open (sym (row-leaves i e s x).place) o

  pub row-open : (s : Slots) (e : Effect) → StaysOpen s e
  row-open s (Writable j operation) es k n o = same_or (λ l. StaysOpen s (Writable l operation)) i j (is_same i j) refl (λ d. elsewhere-open s (Writable j operation) d) (own-open operation s) es k n o
  row-open s e es k n o = elsewhere-open s e tt es k n o

  -- the promise of a close

  -- it is that of the close, or the stream is closed
  abbrev pub Fate : PromiseId → Slots → Type 0
  Fate q s = (asks q (w s) ≡ true) ⊎ (closed_in i s ≡ true)

  -- or it is rejected
  abbrev pub FateOr : PromiseId → Slots → Type 0
  FateOr q s = Fate q s ⊎ (is_rejected (outcome_at s.promises q) ≡ true)

  abbrev Goes : PromiseId → Slots → Effect → Type 0
  Goes q s e = (es : List Effect) → Straight s (e ∷ es) → (row e s).slots.promises.astray ≡ false → asks q (w s) ≡ true → FateOr q (row e s).slots

  neat : (operation : WritableOperation) (s : Slots) (h : Writes) (es : List Effect) → Kept i h s (Writable i operation ∷ es) → (IsHandOn operation → ⊥) → Neat (w s)
  neat operation s h es k u m = let f = found i operation h es s u k in grind arith

  asks_there : (q : PromiseId) (s : Slots) → asks q (w s) ≡ true → has_writable i s ≡ true
  asks_there q s a = by (has_writable i s) refl
    where
      by : (b : Bool) → has_writable i s ≡ b → b ≡ true
      by true e = refl
      by false e =
          let none : w s ≡ no_writable = no_writable_there (slice_get s.streams i.0) e in
          let c : false ≡ true = subst (λ (x : writable.Slots). asks q x ≡ true) none a in absurd (cc)

  true_or : (b : Bool) → (b ≡ true) ⊎ (b ≡ false)
  true_or true = inl refl
  true_or false = inr refl

  -- what an operation leaves of it
  told-fate : (q : PromiseId) (operation : WritableOperation) (s : Slots) → has_writable i s ≡ true → let b : Acts = writable_operation i operation (writable_acts i s) in let z : Slots = (on_writable (writable_operation i operation) i s).slots in
      z.promises.astray ≡ false → Fated q b ⊎ (is_closed b.slots.state ≡ true) → FateOr q z
  told-fate q operation s h straight (inr c) = let b = own_after operation s h in inl (inr (b.1.0 ∙ c))
  told-fate q operation s h straight (inl f) =
      let b = own_after operation s h in
      let y : Acts = writable_operation i operation (writable_acts i s) in
      ⊎_elim (λ (a : asks q y.slots ≡ true). inl (inl (ap (asks q) b.0 ∙ a)))
      (λ (a : asks q y.slots ≡ false). inr (ap (λ t. is_rejected (outcome_at t q)) b.1.1 ∙ f a (sym (ap (λ t. t.astray) b.1.1) ∙ straight))) (true_or (asks q y.slots))

  never : (b : Bool) {A : Type 0} → b ≡ true → b ≡ false → A
  never b e f = absurd (cc)

  own-fate : (q : PromiseId) (operation : WritableOperation) (s : Slots) → Goes q s (Writable i operation)
  unfolding row
  own-fate q operation s es k straight a =
      let known = k.known i in
      told-fate q operation s (asks_there q s a) straight (operation-fated q i operation (writable_acts i s) (λ u. neat operation s known.0 es known.1 u) (λ n t. never (asks q (w s)) a n))

  elsewhere-fate : (q : PromiseId) (s : Slots) (e : Effect) → Elsewhere i e → Goes q s e
  elsewhere-fate q s e x es k straight a = inl (inl (ap (asks q) (row-leaves i e s x).place ∙ a))

  pub row-fate : (q : PromiseId) (s : Slots) (e : Effect) → Goes q s e
  row-fate q s (Writable j operation) es k straight a = same_or (λ l. Goes q s (Writable l operation)) i j (is_same i j) refl (λ d. elsewhere-fate q s (Writable j operation) d) (own-fate q operation s) es k straight a
  row-fate q s e es k straight a = elsewhere-fate q s e tt es k straight a

  -- a close that a pipe asks of a stream that is open
  pub row-asked : (q : PromiseId) (s : Slots) → Open (w s) → (row (Writable i (names.ClosePropagating q)) s).slots.promises.astray ≡ false → FateOr q (row (Writable i (names.ClosePropagating q)) s).slots
  unfolding row
  row-asked q s o straight = told-fate q (names.ClosePropagating q) s (open_there s o) straight (inl (asked-fated q i (writable_acts i s) o.closing o.closed))

  -- the stream is there

  abbrev There : Slots → Effect → Type 0
  There s e = has_writable i s ≡ true → has_writable i (row e s).slots ≡ true

  same-there : (s z : Slots) → slice_get z.streams i.0 ≡ slice_get s.streams i.0 → has_writable i s ≡ true → has_writable i z ≡ true
  same-there s z e h = ap is_writable_stream e ∙ h

  own-there : (operation : WritableOperation) (s : Slots) → There s (Writable i operation)
  unfolding row
  own-there operation s h = ap is_writable_stream (on_writable-same (writable_operation i operation) i s h)

  other-there : (j : StreamId) (operation : WritableOperation) (s : Slots) → is_same i j ≡ false → There s (Writable j operation)
  unfolding row
  other-there j operation s n h = same-there s (on_writable (writable_operation j operation) j s).slots (on_writable-other (writable_operation j operation) j s i n) h

  pub row-there : (s : Slots) (e : Effect) → There s e
  unfolding row
  row-there s (Readable j operation) h = same-there s (on_source operation j s).slots (source-spares i j s h operation) h
  row-there s (Byte j operation) h = same-there s (on_byte (byte_operation j operation) j s).slots (byte-spares i j s h (byte_operation j operation)) h
  row-there s (Writable j operation) h = same_or (λ l. There s (Writable l operation)) i j (is_same i j) refl (λ n. other-there j operation s n) (own-there operation s) h
  row-there s e h = same-there s (row e s).slots (ap (λ (xs : List Stream). slice_get xs i.0) (row-streams e s tt)) h

-- the promise of a close stands in the stream, so it is open

in_all-at : (f : Stream → ℕ) (xs : List Stream) (n : ℕ) (x : Stream) → slice_get xs n ≡ Some x → f x ≤ in_all f xs
in_all-at f [] n x e = cc
in_all-at f (y ∷ xs) zero x e = let is : y ≡ x = cc in rw is (omega arith)
in_all-at f (y ∷ xs) (suc n) x e = let k = in_all-at f xs n x e in omega arith

asked_names : (q : PromiseId) (a b : Option PromiseId) → is_promise q a || is_promise q b ≡ true → 1 ≤ names_any q a + names_any q b
asked_names q a b e = grind arith

pub asks-open : (i : StreamId) (q : PromiseId) (s : Slots) (es : List Effect) → Straight s es → asks q (writable_at i s) ≡ true → is_open_entry (entry_at s.promises q) ≡ true
asks-open i q s es k a =
    let x : writable.Slots = writable_at i s in
    let there = writable_there (slice_get s.streams i.0) (asks_there i q s a) in
    let few = in_all-at (in_stream q) s.streams i.0 (WritableStream x) there in
    let one = asked_names q x.close_request x.close_in_flight a in
    let o = k.sound.holds.once q in grind arith
