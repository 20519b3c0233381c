-- A readable stream that loses the last place by which there were still as many as it is to have, and one that loses none.
use Rattle.std.proofs.Common.{◌≡◌, ◌≤◌, ◌<◌, ◌∙◌, ◌+◌, ◌-◌, ◌==◌, ℕ, Bool, true, false, not, ◌&&◌, List, [], ◌∷◌, length, Some, refl, sym, ap, subst, arith}
use Rattle.std.specs.Prelude.{slice_get, nat_le, vec_len, vec_capacity}
use Rattle.std.specs.Vec.{with_item}
use Rattle.ws_value.specs.declared.ids.StreamId.{StreamId}
use Rattle.ws_steps.specs.declared.effects.Effect.{Effect}
use Rattle.ws_steps.specs.declared.effects.Effect.TheVariants.{Readable as ReadableEffect}
use Rattle.ws_steps.specs.declared.readable.ReadableOperation.{ReadableOperation}
use Rattle.ws_steps.specs.Operations.{readable_operation}
use Rattle.ws_steps.specs.Slots.{found}
use Rattle.ws_readable.specs.Seen.{SeenReadable, has_room}
use Rattle.ws_tables.specs.View.{slots_of}
use Rattle.ws_tables.specs.Room.{HasRoomForAll, IsKept}
use Rattle.ws_tables.specs.declared.tables.Stream.TheVariants.{Readable}
use Rattle.ws_tables.specs.declared.tables.Tables.{Tables}
use Rattle.ws_performing.proofs.Turns.{room-for}
use Rattle.ws_performing.specs.Performing.{NotesGrowth}
use Rattle.ws_direct.specs.Directly.{Reaches}
use Rattle.ws_direct.proofs.Told.{and-first, and-second}
use Rattle.ws_direct.proofs.Streams.{PutStream, may-note, noted-put, readable-on}

-- of two lists, one has so many places left and one less afterwards
second-loses : (le : Bool) (b b' : ℕ) → b ≡ 1 + b' → ((b == 4) && le) ≡ ((le && nat_le 4 b) && not (le && nat_le 4 b'))
second-loses true b b' is = grind arith
second-loses false b b' is = grind arith

first-loses : (le : Bool) (a a' : ℕ) → a ≡ 1 + a' → ((a == 4) && le) ≡ ((nat_le 4 a && le) && not (nat_le 4 a' && le))
first-loses true a a' is = grind arith
first-loses false a a' is = grind arith

-- or more
second-stays : (le : Bool) (b b' : ℕ) → b ≤ b' → ((le && nat_le 4 b) && not (le && nat_le 4 b')) ≡ false
second-stays true b b' is = grind arith
second-stays false b b' is = refl

first-stays : (le : Bool) (a a' : ℕ) → a ≤ a' → ((nat_le 4 a && le) && not (nat_le 4 a' && le)) ≡ false
first-stays true a a' is = grind arith
first-stays false a a' is = grind arith

abbrev left_in_queue : SeenReadable → ℕ
left_in_queue x = x.room.queue - length x.slots.queue

abbrev left_for_requests : SeenReadable → ℕ
left_for_requests x = x.room.requests - length x.slots.requests

module _ (x y : SeenReadable) (room : y.room ≡ x.room) where
  pub lost-by-request : 1 + length x.slots.requests ≤ x.room.requests → length y.slots.requests ≡ 1 + length x.slots.requests → y.slots.queue ≡ x.slots.queue
      → ((left_for_requests x == 4) && nat_le 4 (left_in_queue x)) ≡ (has_room 4 x && not (has_room 4 y))
  lost-by-request fits more queue =
      rw (room, queue, more) (second-loses (nat_le 4 (left_in_queue x)) (left_for_requests x) (x.room.requests - (1 + length x.slots.requests)) (omega (arith, fits)))

  pub lost-by-chunk : 1 + length x.slots.queue ≤ x.room.queue → length y.slots.queue ≡ 1 + length x.slots.queue → y.slots.requests ≡ x.slots.requests
      → ((left_in_queue x == 4) && nat_le 4 (left_for_requests x)) ≡ (has_room 4 x && not (has_room 4 y))
  lost-by-chunk fits more requests =
      rw (room, requests, more) (first-loses (nat_le 4 (left_for_requests x)) (left_in_queue x) (x.room.queue - (1 + length x.slots.queue)) (omega (arith, fits)))

  pub stays-by-request : 1 + length y.slots.requests ≡ length x.slots.requests → y.slots.queue ≡ x.slots.queue → (has_room 4 x && not (has_room 4 y)) ≡ false
  stays-by-request less queue =
      rw (room, queue) (second-stays (nat_le 4 (left_in_queue x)) (left_for_requests x) (x.room.requests - length y.slots.requests) (omega (arith, less)))

  pub stays-by-chunk : 1 + length y.slots.queue ≡ length x.slots.queue → y.slots.requests ≡ x.slots.requests → (has_room 4 x && not (has_room 4 y)) ≡ false
  stays-by-chunk less requests =
      rw (room, requests) (first-stays (nat_le 4 (left_for_requests x)) (left_in_queue x) (x.room.queue - length y.slots.queue) (omega (arith, less)))

-- the tables with this stream in its place, where so many requests wait
abbrev pub standing : StreamId → SeenReadable → ℕ → Tables → Tables
standing i x waiting t = record t { streams = with_item t.streams i.0 (Readable x); waiting = waiting }

put : (i : StreamId) (x : SeenReadable) (waiting : ℕ) (t : Tables) → PutStream i t (standing i x waiting t) (Readable x) t.promises false
put i x waiting t =
    record {
      slots = refl;
      streams = refl;
      others = refl;
      places = refl;
      grown = refl;
      signals = refl;
      full = refl;
      aborts = refl;
      pipes = refl;
      tees = refl;
      uncopied = refl;
    }

and-true : (b : Bool) → (b && true) ≡ b
and-true true = refl
and-true false = refl

pub not-true : (b : Bool) → not b ≡ true → b ≡ false
not-true true is = cc
not-true false is = refl

module _ (i : StreamId) (operation : ReadableOperation) (old : Tables) (x y : SeenReadable) (es : List Effect)
    (at : slice_get old.streams.items i.0 ≡ Some (Readable x))
    (did : record { slots = y.slots; out = record { promises = old.promises.table; effects = es } }
    ≡ readable_operation i operation (record { slots = x.slots; out = found (slots_of old) }))
    (room : y.room ≡ x.room) where
  -- the place was paid for
  pub place-lost : (loses : Bool) → loses ≡ (has_room 4 x && not (has_room 4 y)) → HasRoomForAll (ReadableEffect i operation ∷ []) old → loses ≡ true → vec_len old.grown < vec_capacity old.grown
  place-lost loses is all holds =
      let both = sym is ∙ holds in
      let less = may-note i operation old x y old.promises.table es at did room (has_room 4 x) (has_room 4 y) refl refl (and-first (has_room 4 x) _ both) (not-true (has_room 4 y) (and-second (has_room 4 x) _ both)) in
      let places = (room-for (ReadableEffect i operation) [] old all).grown in
      omega (arith, less, places)

  pub readable-loses : (loses : Bool) → loses ≡ (has_room 4 x && not (has_room 4 y)) → (waiting : ℕ) (z : Tables) → NotesGrowth i loses false (standing i y waiting old) z
      → waiting + length x.slots.requests ≡ old.waiting + length y.slots.requests → IsKept old → Reaches (ReadableEffect i operation ∷ []) old es z
  readable-loses loses is waiting z notes waits kept =
      readable-on i operation old z x y old.promises es at did room refl (ap (λ (t : Tables). t.waiting + length x.slots.requests) notes.tables ∙ waits) (has_room 4 x) (has_room 4 y) refl refl
      (subst (PutStream i old z (Readable y) old.promises) (and-true loses ∙ is)
      (noted-put i old (standing i y waiting old) z (Readable y) old.promises loses false notes (put i y waiting old))) kept

  pub readable-stays : (has_room 4 x && not (has_room 4 y)) ≡ false → (waiting : ℕ) → waiting + length x.slots.requests ≡ old.waiting + length y.slots.requests → IsKept old
      → Reaches (ReadableEffect i operation ∷ []) old es (standing i y waiting old)
  readable-stays is waiting waits kept =
      readable-on i operation old (standing i y waiting old) x y old.promises es at did room refl waits (has_room 4 x) (has_room 4 y) refl refl
      (subst (PutStream i old (standing i y waiting old) (Readable y) old.promises) (sym is) (put i y waiting old)) kept
