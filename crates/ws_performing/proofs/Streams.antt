-- What an operation of a stream takes of the places of a realm.
use Rattle.std.proofs.Common.{◌≡◌, ◌≤◌, ◌<◌, ℕ, zero, suc, ◌+◌, ◌-◌, ◌*◌, ◌⊎◌, inl, inr, ⊎_elim, Bool, true, false, not, ◌&&◌, if◌then◌else◌, List, [], ◌∷◌, ◌++◌, length, length-append, map, Option, Some, refl, sym, ap, ◌∙◌, subst, Contains, arith}
use Rattle.std.specs.Prelude.{slice_get, slice_set, nat_le}
use Rattle.std.proofs.lemmas.Bool.{false≢true}
use Rattle.std.proofs.lemmas.List.Elements.{Contains-append_left, Contains-append_right}
use Rattle.ws_value.specs.declared.ids.StreamId.{StreamId}
use Rattle.ws_steps.specs.declared.readable.ReadableOperation.{ReadableOperation}
use Rattle.ws_steps.specs.declared.writable.WritableOperation.{WritableOperation}
use Rattle.ws_steps.specs.declared.byte.ByteOperation.{ByteOperation}
use Rattle.ws_steps.specs.Operations.{readable_operation, byte_readable_operation, byte_operation, writable_operation}
use Rattle.ws_steps.specs.Places.{each, prices_of, table_size, turns_alone, queued_alone, requests_alone, members_alone, readable_price, writable_price}
use Rattle.ws_steps.specs.Readable as readable
use Rattle.ws_steps.specs.Writable as writable
use Rattle.ws_steps.specs.declared.effects.Effect.{Effect}
use Rattle.ws_steps.specs.declared.effects.Effect.TheVariants.{Readable, Byte, Writable}
use Rattle.ws_steps.specs.Slots.{Slots, Stream, Done, nothing, is_readable_stream, is_byte_stream, is_writable_stream, has_readable, has_byte, has_writable, on_readable, on_byte}
use Rattle.ws_steps.specs.Turns.{row}
use Rattle.ws_steps.proofs.StreamLaws.{map-set}
use Rattle.ws_room_laws.proofs.Rows.{each-none, get-other, same-or}
use Rattle.ws_room_laws.proofs.Readables.{readable-takes}
use Rattle.ws_room_laws.proofs.Writables.{writable-takes}
use Rattle.ws_tables.specs.View.{slots_of, stream_of}
use Rattle.ws_tables.specs.Room.{HasPlaces, HasRooms, RoomsStay, AllCovered, waits_of, waiting_in}
use Rattle.ws_performing.specs.Performing.{Performs}
use Rattle.ws_tables.specs.declared.tables.Tables.{Tables}
use Rattle.ws_tables.specs.declared.tables.Stream.{Stream as StreamRecord}
use Rattle.ws_performing.proofs.Keeps.{each-times, waits-one, waits-put}
use Rattle.ws_tables.proofs.Elements.{get-map, put-is}

-- a stream's number is below the count of streams

pub readable-within : {X : Type 0} (f : X → Stream) (items : List X) (i : ℕ) → is_readable_stream (slice_get (map f items) i) ≡ true → i < length items
readable-within f [] i there = cc
readable-within f (x ∷ xs) zero there = omega arith
readable-within f (x ∷ xs) (suc i) there = let rest = readable-within f xs i there in omega arith

pub byte-within : {X : Type 0} (f : X → Stream) (items : List X) (i : ℕ) → is_byte_stream (slice_get (map f items) i) ≡ true → i < length items
byte-within f [] i there = cc
byte-within f (x ∷ xs) zero there = omega arith
byte-within f (x ∷ xs) (suc i) there = let rest = byte-within f xs i there in omega arith

pub writable-within : {X : Type 0} (f : X → Stream) (items : List X) (i : ℕ) → is_writable_stream (slice_get (map f items) i) ≡ true → i < length items
writable-within f [] i there = cc
writable-within f (x ∷ xs) zero there = omega arith
writable-within f (x ∷ xs) (suc i) there = let rest = writable-within f xs i there in omega arith

-- one stream is put in the place of another

pub waits-among : (xs : List StreamRecord) (i : ℕ) (x : StreamRecord) → slice_get xs i ≡ Some x → waits_of (stream_of x) ≤ waiting_in (map stream_of xs)
waits-among xs i x is = waits-one (map stream_of xs) i (stream_of x) (get-map stream_of xs i x is)

pub waits-after : (xs : List StreamRecord) (i : ℕ) (x y : StreamRecord) → slice_get xs i ≡ Some x
    → waiting_in (map stream_of (slice_set xs i y)) + waits_of (stream_of x) ≡ waiting_in (map stream_of xs) + waits_of (stream_of y)
waits-after xs i x y is =
    ap (λ ys. waiting_in ys + waits_of (stream_of x)) (map-set stream_of xs i y)
    ∙ waits-put (map stream_of xs) i (stream_of x) (stream_of y) (get-map stream_of xs i x is)

-- of a list of so many entries so many are left, and this is caused to be added, at a price
pub record Took (n before after more : ℕ) : Type 0 where
  pub list : after + more ≤ before + n
  pub caused : more ≤ n

pub each-one : {A : Type 0} (xs : List A) → each 1 xs ≡ length xs
each-one [] = refl
each-one (x ∷ xs) = let h = each-one xs in omega (arith, h)

readable-none : (i : StreamId) (operation : ReadableOperation) → readable_price members_alone i operation ≡ 0
readable-none i operation = grind arith

writable-none : (operation : WritableOperation) → writable_price members_alone operation ≡ 0
writable-none operation = grind arith

-- what an operation takes of the lists of its stream

pub record ReadableTook (me : StreamId) (operation : ReadableOperation) (a b : readable.Acts) : Type 0 where
  pub queued : Took (readable_price queued_alone me operation) (length a.slots.queue) (length b.slots.queue) (prices_of queued_alone b.out.effects)
  pub requested : Took (readable_price requests_alone me operation) (length a.slots.requests) (length b.slots.requests) (prices_of requests_alone b.out.effects)
  pub turns : prices_of turns_alone b.out.effects + 2 * length b.slots.requests + 1 ≤ 2 * length a.slots.requests + readable_price turns_alone me operation
  pub members : prices_of members_alone b.out.effects ≤ 0

pub readable-took : (me : StreamId) (operation : ReadableOperation) (a : readable.Acts) → a.out.effects ≡ [] → ReadableTook me operation a (readable_operation me operation a)
unfolding table_size
readable-took me operation a quiet =
    let b : readable.Acts = readable_operation me operation a in
    let none : (prices_of queued_alone a.out.effects ≡ 0) × (prices_of requests_alone a.out.effects ≡ 0) × (prices_of turns_alone a.out.effects ≡ 0) × (prices_of members_alone a.out.effects ≡ 0) = rw quiet (refl, refl, refl, refl) in
    let q = readable-takes queued_alone 1 0 me operation a (omega arith) (omega arith) (omega arith) in
    let r = readable-takes requests_alone 0 1 me operation a (omega arith) (omega arith) (omega arith) in
    let c = readable-takes queued_alone 0 0 me operation a (omega arith) (omega arith) (omega arith) in
    let d = readable-takes requests_alone 0 0 me operation a (omega arith) (omega arith) (omega arith) in
    let t = readable-takes turns_alone 0 0 me operation a (omega arith) (omega arith) (omega arith) in
    let m = readable-takes members_alone 0 0 me operation a (omega arith) (omega arith) (omega arith) in
    let price = readable-none me operation in
    let at = each-times 2 a.slots.requests in
    let bt = each-times 2 b.slots.requests in
    let aq = each-one a.slots.queue in
    let bq = each-one b.slots.queue in
    let ar = each-one a.slots.requests in
    let br = each-one b.slots.requests in
    let zaq = each-none a.slots.queue in
    let zbq = each-none b.slots.queue in
    let zar = each-none a.slots.requests in
    let zbr = each-none b.slots.requests in
    record {
      queued = record {
        list = omega (arith, none.0, q, aq, bq, zar, zbr);
        caused = omega (arith, none.0, c, zaq, zbq, zar, zbr);
      };
      requested = record {
        list = omega (arith, none.1, r, ar, br, zaq, zbq);
        caused = omega (arith, none.1, d, zaq, zbq, zar, zbr);
      };
      turns = omega (arith, none.2, t, at, bt, zaq, zbq, zar, zbr);
      members = omega (arith, none.3, m, price, zaq, zbq, zar, zbr);
    }

pub record WritableTook (operation : WritableOperation) (a b : writable.Acts) : Type 0 where
  pub queued : Took (writable_price queued_alone operation) (length a.slots.queue) (length b.slots.queue) (prices_of queued_alone b.out.effects)
  pub requested : Took (writable_price requests_alone operation) (length a.slots.write_requests) (length b.slots.write_requests) (prices_of requests_alone b.out.effects)
  pub members : prices_of members_alone b.out.effects ≤ 0

pub writable-took : (me : StreamId) (operation : WritableOperation) (a : writable.Acts) → a.out.effects ≡ [] → WritableTook operation a (writable_operation me operation a)
unfolding table_size
writable-took me operation a quiet =
    let b : writable.Acts = writable_operation me operation a in
    let none : (prices_of queued_alone a.out.effects ≡ 0) × (prices_of requests_alone a.out.effects ≡ 0) × (prices_of members_alone a.out.effects ≡ 0) = rw quiet (refl, refl, refl) in
    let q = writable-takes queued_alone 1 0 me operation a (omega arith) (omega arith) in
    let r = writable-takes requests_alone 0 1 me operation a (omega arith) (omega arith) in
    let c = writable-takes queued_alone 0 0 me operation a (omega arith) (omega arith) in
    let d = writable-takes requests_alone 0 0 me operation a (omega arith) (omega arith) in
    let m = writable-takes members_alone 0 0 me operation a (omega arith) (omega arith) in
    let price = writable-none operation in
    let aq = each-one a.slots.queue in
    let bq = each-one b.slots.queue in
    let ar = each-one a.slots.write_requests in
    let br = each-one b.slots.write_requests in
    let zaq = each-none a.slots.queue in
    let zbq = each-none b.slots.queue in
    let zar = each-none a.slots.write_requests in
    let zbr = each-none b.slots.write_requests in
    record {
      queued = record {
        list = omega (arith, none.0, q, aq, bq, zar, zbr);
        caused = omega (arith, none.0, c, zaq, zbq, zar, zbr);
      };
      requested = record {
        list = omega (arith, none.1, r, ar, br, zaq, zbq);
        caused = omega (arith, none.1, d, zaq, zbq, zar, zbr);
      };
      members = omega (arith, none.2, m, price, zaq, zbq, zar, zbr);
    }

-- whether there are four places in both lists

pub has-both : (a b c d : ℕ) → (nat_le 4 (b - a) && nat_le 4 (d - c)) ≡ true → (4 + a ≤ b) × (4 + c ≤ d)
has-both a b c d is = grind arith

pub both-have : (a b c d : ℕ) → 4 + a ≤ b → 4 + c ≤ d → (nat_le 4 (b - a) && nat_le 4 (d - c)) ≡ true
both-have a b c d x y = grind arith

pub has-not : (a b c d : ℕ) → (nat_le 4 (b - a) && nat_le 4 (d - c)) ≡ false → 4 + a ≤ b → 4 + c ≤ d → ⊥
has-not a b c d is = grind arith

-- an entry more than before was paid for
pub paid : (q q' r r' n m c d Q R : ℕ) → Took n q q' c → Took m r r' d → (nat_le 4 (Q - q) && nat_le 4 (R - r)) ≡ true → (nat_le 4 (Q - q') && nat_le 4 (R - r')) ≡ false → c + d < n + m
paid q q' r r' n m c d Q R tq tr had has =
    let h = has-both q Q r R had in
    let a = tq.list in let b = tr.list in let e = tq.caused in let f = tr.caused in
    let out : (n + m ≤ c + d) → ⊥ = λ less. has-not q' Q r' R has (omega (arith, h.0, a, e, f, less)) (omega (arith, h.1, b, e, f, less)) in
    grind (arith, out)

-- places are to be made in each stream that has fewer, after one was put in the place of another

module _ (grown : List StreamId) (i : StreamId) (y : StreamRecord) where
  -- the streams in which places are to be made, of which this may be one more
  abbrev noted : Bool → List StreamId
  noted b = if b then grown ++ i ∷ [] else grown

  still : (b : Bool) (j : StreamId) → Contains grown j → Contains (noted b) j
  still true j h = Contains-append_left grown (i ∷ []) j h
  still false j h = h

  covers : (b : Bool) (xs : List StreamRecord) → AllCovered grown xs → HasPlaces y ⊎ Contains (noted b) i → AllCovered (noted b) (slice_set xs i.0 y)
  covers b xs covered this j x is =
      ⊎_elim
      (λ (same : j.0 ≡ i.0).
      let number : j ≡ i = ap (λ n. record { 0 = n }) same in
      rw number (subst (λ z. HasPlaces z ⊎ Contains (noted b) i) (put-is xs i.0 y x (ap (slice_get (slice_set xs i.0 y)) (sym same) ∙ is)) this))
      (λ other. ⊎_elim (λ h. inl h) (λ h. inr (still b j h)) (covered j x (sym (get-other xs i.0 j.0 y other) ∙ is)))
      (same-or j.0 i.0)

  pub cover : (had has : Bool) (x : StreamRecord) (xs : List StreamRecord) → AllCovered grown xs → slice_get xs i.0 ≡ Some x → (HasPlaces x → had ≡ true) → (has ≡ true → HasPlaces y)
      → AllCovered (noted (had && not has)) (slice_set xs i.0 y)
  cover true true x xs covered is before after = covers false xs covered (inl (after refl))
  cover true false x xs covered is before after = covers true xs covered (inr (Contains-append_right grown (i ∷ []) i (0, omega arith, refl)))
  cover false true x xs covered is before after = covers false xs covered (inl (after refl))
  cover false false x xs covered is before after = covers false xs covered (⊎_elim (λ h. absurd (false≢true (before h))) (λ h. inr h) (covered i x is))

-- the row of an operation that either kind of controller has

is-no-byte : (o : Option Stream) → is_readable_stream o ≡ true → is_byte_stream o ≡ false
is-no-byte o is = grind arith

pub readable-row : (i : StreamId) (operation : ReadableOperation) (s : Slots) → has_readable i s ≡ true → row (Readable i operation) s ≡ on_readable (readable_operation i operation) i s
unfolding row
readable-row i operation s there = rw (is-no-byte (slice_get s.streams i.0) there) refl

pub byte_readable-row : (i : StreamId) (operation : ReadableOperation) (s : Slots) → has_byte i s ≡ true → row (Readable i operation) s ≡ on_byte (byte_readable_operation i operation) i s
unfolding row
byte_readable-row i operation s there = rw there refl

pub byte-row : (i : StreamId) (operation : ByteOperation) (s : Slots) → row (Byte i operation) s ≡ on_byte (byte_operation i operation) i s
unfolding row
byte-row i operation s = refl

-- the rooms of byte streams stay where one stream is put in the place of another that has no more of them
pub rooms-put : (xs : List StreamRecord) (i : ℕ) (x y : StreamRecord) → slice_get xs i ≡ Some x → ((n : ℕ) → HasRooms n x → HasRooms n y) → RoomsStay xs (slice_set xs i y)
rooms-put xs i x y is stay n h j z there =
    ⊎_elim
    (λ (same : j ≡ i).
    subst (HasRooms n) (put-is xs i y z (ap (slice_get (slice_set xs i y)) (sym same) ∙ there)) (stay n (h i x is)))
    (λ other. h j z (sym (get-other xs i j y other) ∙ there))
    (same-or j i)

-- there is no such record of this number: nothing happens

pub absent : (e : Effect) (t : Tables) → row e (slots_of t) ≡ nothing (slots_of t) → t.caused.effects ≡ [] → Performs e t t
absent e t row_is quiet = record {
  slots = ap (λ (d : Done). d.slots) (sym row_is);
  caused = quiet ∙ ap (λ (d : Done). d.caused) (sym row_is);
  others = refl;
  places = refl;
  lists = refl;
  rooms = λ none n h. h;
  grown = rw quiet (omega arith);
  members = refl;
  full = rw quiet (omega arith);
}

pub byte_readable-absent : (i : StreamId) (operation : ReadableOperation) (t : Tables) → has_readable i (slots_of t) ≡ false → has_byte i (slots_of t) ≡ false → t.caused.effects ≡ [] → Performs (Readable i operation) t t
unfolding row
byte_readable-absent i operation t none neither quiet = absent (Readable i operation) t (rw (neither, none) refl) quiet

pub byte-absent : (i : StreamId) (operation : ByteOperation) (t : Tables) → has_byte i (slots_of t) ≡ false → t.caused.effects ≡ [] → Performs (Byte i operation) t t
unfolding row
byte-absent i operation t none quiet = absent (Byte i operation) t (rw none refl) quiet

pub writable-absent : (i : StreamId) (operation : WritableOperation) (t : Tables) → has_writable i (slots_of t) ≡ false → t.caused.effects ≡ [] → Performs (Writable i operation) t t
unfolding row
writable-absent i operation t none quiet = absent (Writable i operation) t (rw none refl) quiet

-- an effect is noted at a price
pub noted-grown : (g g' n m c d : ℕ) (had has : Bool) → c ≤ n → d ≤ m → (had ≡ true → has ≡ false → c + d < n + m) → g' ≡ (if had && not has then g + 1 else g) → g' + c + d ≤ g + n + m
noted-grown g g' n m c d true true a b h is = omega (arith, a, b, is)
noted-grown g g' n m c d true false a b h is = let less = h refl refl in omega (arith, less, is)
noted-grown g g' n m c d false true a b h is = omega (arith, a, b, is)
noted-grown g g' n m c d false false a b h is = omega (arith, a, b, is)

pub noted-length : {X : Type 0} (xs : List X) (x : X) (b : Bool) → length (if b then xs ++ x ∷ [] else xs) ≡ (if b then length xs + 1 else length xs)
noted-length xs x true = length-append xs (x ∷ [])
noted-length xs x false = refl
