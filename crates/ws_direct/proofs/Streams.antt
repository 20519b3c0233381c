-- An operation of a stream is performed, and what it causes is told.
use Rattle.std.proofs.Common.{◌≡◌, ◌≤◌, ◌<◌, ◌∙◌, ◌+◌, ◌-◌, ℕ, zero, suc, Bool, true, false, not, ◌&&◌, if◌then◌else◌, List, [], ◌∷◌, ◌++◌, length, map, Some, Ok, refl, sym, ap, subst, arith}
use Rattle.std.specs.Prelude.{slice_get, slice_set, slice_index_or, nat_le, vec_len}
use Rattle.ws_value.specs.declared.ids.StreamId.{StreamId}
use Rattle.ws_value.specs.declared.value.Plain.TheVariants.{Undefined}
use Rattle.ws_steps.specs.declared.effects.Effect.{Effect}
use Rattle.ws_steps.specs.declared.effects.Effect.TheVariants.{Readable as ReadableEffect}
use Rattle.ws_steps.specs.declared.readable.ReadableOperation.{ReadableOperation}
use Rattle.ws_steps.specs.declared.readable.ReadableOperation.TheVariants.{PullSettled}
use Rattle.ws_steps.specs.Operations.{readable_operation}
use Rattle.ws_steps.specs.Places.{effect_price, prices_of, tees_keep, readable_price, queued_alone, requests_alone, members_alone}
use Rattle.ws_steps.specs.Promises.{Table}
use Rattle.ws_steps.specs.Readable as readable
use Rattle.ws_steps.specs.Readable.{pull_settled, call_pull_if_needed}
use Rattle.ws_steps.specs.Slots.{Slots, Done, found, is_readable_stream}
use Rattle.ws_steps.specs.Turns.{row}
use Rattle.ws_steps.proofs.StreamLaws.{on_readable-at}
use Rattle.ws_promise.specs.Seen.{Seen}
use Rattle.ws_queue.specs.Seen.{Lists}
use Rattle.ws_readable.specs.Seen.{SeenReadable, has_room, pulling_where}
use Rattle.ws_tables.specs.View.{slots_of, stream_of, tee_of}
use Rattle.ws_tables.specs.Room.{places_of, two_lists, room_of, HasRooms, AllCovered, waits_of, waiting_in, HasFew, AreSourced, IsKept}
use Rattle.ws_tables.specs.declared.tables.Stream.{Stream as StreamRecord}
use Rattle.ws_tables.specs.declared.tables.Stream.TheVariants.{Readable}
use Rattle.ws_tables.specs.declared.tables.Tables.{Tables}
use Rattle.ws_tables.proofs.Counts.{counted-on, row-more, row-few, row-sourced}
use Rattle.ws_tables.proofs.Elements.{get-map, map-put}
use Rattle.ws_performing.specs.Performing.{NotesGrowth, Performs}
use Rattle.ws_performing.proofs.Streams.{waits-after, rooms-put, ReadableTook, readable-took, readable-row, has-both, both-have, paid, cover, noted-length}
use Rattle.ws_direct.specs.Directly.{Reaches, pulls_told}
use Rattle.ws_direct.proofs.Reaching.{causing, by}

-- the streams in which places are to be made, of which this may be one more
abbrev pub noted : List StreamId → StreamId → Bool → List StreamId
noted grown i b = if b then grown ++ i ∷ [] else grown

abbrev pub one_if : Bool → ℕ
one_if b = if b then 1 else 0

-- a stream was put in its place: y is the record afterwards, and p are the promises
pub record PutStream (i : StreamId) (old z : Tables) (y : StreamRecord) (p : Seen) (more : Bool) : Type 0 where
  pub slots : slots_of z ≡ record (slots_of old) { streams = map stream_of (slice_set old.streams.items i.0 y); promises = p.table }
  pub streams : z.streams.items ≡ slice_set old.streams.items i.0 y
  pub others : z.others ≡ old.others
  pub places : places_of z ≡ record (places_of old) { promises = p.room }
  pub grown : z.grown.items ≡ noted old.grown.items i more
  pub signals : z.signals ≡ old.signals
  pub full : z.full ≡ old.full
  pub aborts : z.aborts ≡ old.aborts
  pub pipes : z.pipes ≡ old.pipes
  pub tees : z.tees ≡ old.tees
  pub uncopied : z.uncopied ≡ old.uncopied

length-noted : (grown : List StreamId) (i : StreamId) (b : Bool) → length (noted grown i b) ≡ length grown + one_if b
length-noted grown i true = noted-length grown i true
length-noted grown i false = omega arith

-- and then noted, where places are to be made in it
pub noted-put : (i : StreamId) (old t z : Tables) (y : StreamRecord) (p : Seen) (had has : Bool) → NotesGrowth i had has t z → PutStream i old t y p false → PutStream i old z y p (had && not has)
noted-put i old t z y p had has notes put =
    let same = notes.tables in
    record {
      slots = ap slots_of same ∙ put.slots;
      streams = ap (λ (a : Tables). a.streams.items) same ∙ put.streams;
      others = ap (λ (a : Tables). a.others) same ∙ put.others;
      places = ap places_of same ∙ (ap (λ n. record (places_of t) { grown = n }) notes.capacity ∙ put.places);
      grown = notes.grown ∙ ap (λ xs. noted xs i (had && not has)) put.grown;
      signals = ap (λ (a : Tables). a.signals) same ∙ put.signals;
      full = ap (λ (a : Tables). a.full) same ∙ put.full;
      aborts = ap (λ (a : Tables). a.aborts) same ∙ put.aborts;
      pipes = ap (λ (a : Tables). a.pipes) same ∙ put.pipes;
      tees = ap (λ (a : Tables). a.tees) same ∙ put.tees;
      uncopied = ap (λ (a : Tables). a.uncopied) same ∙ put.uncopied;
    }

module _ (e : Effect) (i : StreamId) (old z : Tables) (x y : StreamRecord) (p : Seen) (es : List Effect) (more : Bool)
    (at : slice_get old.streams.items i.0 ≡ Some x)
    (left : row e (slots_of old)
    ≡ record { slots = record (slots_of old) { streams = map stream_of (slice_set old.streams.items i.0 y); promises = p.table }; caused = es })
    (lists : room_of y ≡ room_of x) (rooms : (n : ℕ) → HasRooms n x → HasRooms n y) (places : p.room ≡ old.promises.room)
    (grows : one_if more + prices_of queued_alone es + prices_of requests_alone es ≤ effect_price queued_alone e + effect_price requests_alone e)
    (members : prices_of members_alone es ≡ 0)
    (covers : AllCovered old.grown.items old.streams.items → AllCovered (noted old.grown.items i more) (slice_set old.streams.items i.0 y))
    (waits : z.waiting + waits_of (stream_of x) ≡ old.waiting + waits_of (stream_of y))
    (put : PutStream i old z y p more) where
  performs : Performs e old (causing es z)
  performs = record {
    slots = put.slots ∙ ap (λ (d : Done). d.slots) (sym left);
    caused = ap (λ (d : Done). d.caused) (sym left);
    others = put.others;
    places = put.places ∙ rw places refl;
    lists = ap (map room_of) put.streams ∙ map-put room_of old.streams.items i.0 x y at lists;
    rooms = λ none. rw put.streams (rooms-put old.streams.items i.0 x y at rooms);
    grown =
        let g : vec_len z.grown ≡ vec_len old.grown + one_if more = z.grown.ok.0 ∙ (ap length put.grown ∙ (length-noted old.grown.items i more ∙ ap (λ n. n + one_if more) (sym old.grown.ok.0))) in
        let o = ap (λ v. tees_keep requests_alone (map tee_of v.items)) put.tees in
        omega (arith, grows, g, o);
    members = rw put.signals refl;
    full = let l = ap vec_len put.full in omega (arith, members, l);
  }

  kept : IsKept old → IsKept z
  kept was = record {
    waiting =
        let put' = waits-after old.streams.items i.0 x y at in
        let streams = ap (λ xs. waiting_in (map stream_of xs)) put.streams in
        omega (arith, put', streams, waits, was.waiting);
    covered = rw (put.grown, put.streams) (covers was.covered);
    aborts = rw (put.aborts, put.signals) was.aborts;
    members = rw (put.full, put.signals) was.members;
    copied = rw (put.uncopied, put.tees) was.copied;
    sourced = subst AreSourced (sym performs.slots) (row-sourced e (slots_of old) was.sourced);
    counted =
        rw (put.pipes, ap (λ (s : Slots). s.promises) put.slots)
        (counted-on (length old.promises.table.entries) (length p.table.entries) old.pipes.items (row-more e (slots_of old) _ left) was.counted);
    few = subst HasFew (sym performs.slots) (row-few e (slots_of old) was.few);
  }

  pub stream-on : IsKept old → Reaches (e ∷ []) old es z
  stream-on was = by e es old z was performs (kept was)

-- readable streams

pub unnoted : (had has : Bool) → (had ≡ true → has ≡ false → ⊥) → (had && not has) ≡ false
unnoted true true h = refl
unnoted true false h = absurd (h refl refl)
unnoted false has h = refl

pub within-some : {X : Type 0} (xs : List X) (i : ℕ) (x : X) → slice_get xs i ≡ Some x → i < length xs
within-some [] i x is = cc
within-some (y ∷ ys) zero x is = omega arith
within-some (y ∷ ys) (suc i) x is = let h = within-some ys i x is in omega (arith, h)

pub index-some : {X : Type 0} (xs : List X) (i : ℕ) (x : X) → slice_get xs i ≡ Some x → x ≡ slice_index_or xs i x
index-some [] i x is = refl
index-some (y ∷ ys) zero x is = let same : y ≡ x = cc in sym same
index-some (y ∷ ys) (suc i) x is = index-some ys i x is

-- a place that is noted was paid for
pub grows-by : (c d n m : ℕ) (had has : Bool) → c ≤ n → d ≤ m → (had ≡ true → has ≡ false → c + d < n + m) → one_if (had && not has) + c + d ≤ n + m
grows-by c d n m true true a b h = omega (arith, a, b)
grows-by c d n m true false a b h = let less = h refl refl in omega (arith, less)
grows-by c d n m false true a b h = omega (arith, a, b)
grows-by c d n m false false a b h = omega (arith, a, b)

module _ (i : StreamId) (operation : ReadableOperation) (old : Tables) (x y : SeenReadable) (t : Table) (es : List Effect)
    (at : slice_get old.streams.items i.0 ≡ Some (Readable x))
    (did : record { slots = y.slots; out = record { promises = t; effects = es } }
    ≡ readable_operation i operation (record { slots = x.slots; out = found (slots_of old) })) where
  pub read-took : ReadableTook i operation (record { slots = x.slots; out = found (slots_of old) }) (record { slots = y.slots; out = record { promises = t; effects = es } })
  read-took =
      subst (ReadableTook i operation (record { slots = x.slots; out = found (slots_of old) })) (sym did)
      (readable-took i operation (record { slots = x.slots; out = found (slots_of old) }) refl)

  read-row : row (ReadableEffect i operation) (slots_of old)
      ≡ record { slots = record (slots_of old) { streams = map stream_of (slice_set old.streams.items i.0 (Readable y)); promises = t }; caused = es }
  read-row =
      readable-row i operation (slots_of old) (ap is_readable_stream (get-map stream_of old.streams.items i.0 (Readable x) at))
      ∙ on_readable-at stream_of (readable_operation i operation) i (slots_of old) old.streams.items (Readable x) (Readable y) x.slots
      (record { slots = y.slots; out = record { promises = t; effects = es } }) refl (within-some old.streams.items i.0 (Readable x) at)
      (index-some old.streams.items i.0 (Readable x) at) refl did refl

  -- a place that is to be noted was paid for
  pub may-note : y.room ≡ x.room → (had has : Bool) → had ≡ has_room 4 x → has ≡ has_room 4 y → had ≡ true → has ≡ false
      → prices_of queued_alone es + prices_of requests_alone es < readable_price queued_alone i operation + readable_price requests_alone i operation
  may-note room had has had-is has-is a b =
      paid (length x.slots.queue) (length y.slots.queue) (length x.slots.requests) (length y.slots.requests) (readable_price queued_alone i operation) (readable_price requests_alone i operation)
      (prices_of queued_alone es) (prices_of requests_alone es) x.room.queue x.room.requests read-took.queued read-took.requested (sym had-is ∙ a)
      (ap (λ (l : Lists). nat_le 4 (l.queue - length y.slots.queue) && nat_le 4 (l.requests - length y.slots.requests)) (sym room) ∙ (sym has-is ∙ b))

module _ (i : StreamId) (operation : ReadableOperation) (old z : Tables) (x y : SeenReadable) (p : Seen) (es : List Effect)
    (at : slice_get old.streams.items i.0 ≡ Some (Readable x))
    (did : record { slots = y.slots; out = record { promises = p.table; effects = es } }
    ≡ readable_operation i operation (record { slots = x.slots; out = found (slots_of old) }))
    (room : y.room ≡ x.room) (places : p.room ≡ old.promises.room)
    (waits : z.waiting + length x.slots.requests ≡ old.waiting + length y.slots.requests) where
  pub readable-on : (had has : Bool) → had ≡ has_room 4 x → has ≡ has_room 4 y → PutStream i old z (Readable y) p (had && not has) → IsKept old
      → Reaches (ReadableEffect i operation ∷ []) old es z
  readable-on had has had-is has-is put was =
      let t = read-took i operation old x y p.table es at did in
      stream-on (ReadableEffect i operation) i old z (Readable x) (Readable y) p es (had && not has) at (read-row i operation old x y p.table es at did) (ap two_lists room) (λ n h. tt) places
      (grows-by (prices_of queued_alone es) (prices_of requests_alone es) (readable_price queued_alone i operation) (readable_price requests_alone i operation) had has t.queued.caused t.requested.caused
      (may-note i operation old x y p.table es at did room had has had-is has-is))
      (let m = t.members in omega (arith, m))
      (λ covered.
      cover old.grown.items i (Readable y) had has (Readable x) old.streams.items covered at
      (λ h. had-is ∙ both-have (length x.slots.queue) x.room.queue (length x.slots.requests) x.room.requests h.0.queue h.0.requests)
      (λ h.
      let both = has-both (length y.slots.queue) y.room.queue (length y.slots.requests) y.room.requests (sym has-is ∙ h) in
      (record { queue = both.0; requests = both.1; descriptors = tt }, tt)))
      waits put was

  -- where it takes no places in the lists of the stream, none is noted
  pub readable-quiet : readable_price queued_alone i operation ≡ 0 → readable_price requests_alone i operation ≡ 0 → PutStream i old z (Readable y) p false → IsKept old
      → Reaches (ReadableEffect i operation ∷ []) old es z
  readable-quiet queued requested put was =
      let same = unnoted (has_room 4 x) (has_room 4 y) (λ a b. let less = may-note i operation old x y p.table es at did room (has_room 4 x) (has_room 4 y) refl refl a b in omega (arith, less, queued, requested)) in
      readable-on (has_room 4 x) (has_room 4 y) refl refl (subst (PutStream i old z (Readable y) p) (sym same) put) was

-- the pull algorithm of a readable stream has ended

pulling-slots : (goes : Bool) (me : StreamId) (a : readable.Acts) → (pulling_where goes me a).slots ≡ a.slots
pulling-slots true me a = refl
pulling-slots false me a = refl

settled-requests : (me : StreamId) (a : readable.Acts) → (readable.pull_settled me (Ok Undefined) a).slots.requests ≡ a.slots.requests
unfolding pull_settled call_pull_if_needed
settled-requests me a = grind arith

pull-told : (i : StreamId) (goes : Bool) (s : readable.Slots) (t : Table)
    → record { slots = s; out = record { promises = t; effects = pulls_told goes i } } ≡ pulling_where goes i (record { slots = s; out = record { promises = t; effects = [] } })
pull-told i true s t = refl
pull-told i false s t = refl

pub pulled-on : (i : StreamId) (old z : Tables) (x y : SeenReadable) (goes : Bool) → slice_get old.streams.items i.0 ≡ Some (Readable x)
    → readable.pull_settled i (Ok Undefined) (record { slots = x.slots; out = record { promises = old.promises.table; effects = [] } })
    ≡ pulling_where goes i (record { slots = y.slots; out = record { promises = old.promises.table; effects = [] } })
    → y.room ≡ x.room → z.waiting ≡ old.waiting → PutStream i old z (Readable y) old.promises false → IsKept old
    → Reaches (ReadableEffect i (PullSettled (Ok Undefined)) ∷ []) old (pulls_told goes i) z
pulled-on i old z x y goes at acted room waits put kept =
    let a : readable.Acts = record { slots = x.slots; out = record { promises = old.promises.table; effects = [] } } in
    let b : readable.Acts = record { slots = y.slots; out = record { promises = old.promises.table; effects = [] } } in
    let same : y.slots.requests ≡ x.slots.requests = ap (λ (s : readable.Slots). s.requests) (sym (pulling-slots goes i b)) ∙ (ap (λ (c : readable.Acts). c.slots.requests) (sym acted) ∙ settled-requests i a) in
    readable-quiet i (PullSettled (Ok Undefined)) old z x y old.promises (pulls_told goes i) at (pull-told i goes y.slots old.promises.table ∙ sym acted) room refl
    (ap (λ (n : ℕ). n + length x.slots.requests) waits ∙ ap (λ xs. old.waiting + length xs) (sym same)) refl refl put kept
