-- What a row takes of the queue of each stream, where each descriptor has a place in it, and of the descriptors that are to come.
use Rattle.std.proofs.Common.{◌≡◌, ◌≤◌, ℕ, ◌+◌, ⊎_elim, List, length, map, Option, Some, None, refl, ap, ◌∙◌, arith}
use Rattle.std.specs.Prelude.{slice_get, slice_set}
use Rattle.ws_value.specs.declared.ids.StreamId.{StreamId}
use Rattle.ws_steps.specs.declared.byte.ByteOperation.{ByteOperation}
use Rattle.ws_steps.specs.declared.effects.Effect.{Effect}
use Rattle.ws_steps.specs.declared.effects.Effect.TheVariants.{Readable, Byte, Writable}
use Rattle.ws_steps.specs.declared.readable.ReadableOperation.{ReadableOperation}
use Rattle.ws_steps.specs.declared.writable.WritableOperation.{WritableOperation}
use Rattle.ws_steps.specs.Bytes as byte
use Rattle.ws_steps.specs.Operations.{readable_operation, byte_readable_operation, byte_operation, writable_operation}
use Rattle.ws_steps.specs.Places.{own, effect_price, prices_of, table_size, all_keep, entries_of, queued_alone, descriptors_alone, readable_price, byte_price, writable_price}
use Rattle.ws_steps.specs.Readable as readable
use Rattle.ws_steps.specs.Writable as writable
use Rattle.ws_steps.specs.Slots.{Slots, Stream, ReadableStream, ByteStream, WritableStream, Done, nothing, found, on_byte, on_writable}
use Rattle.ws_steps.specs.Turns.{row, on_source}
use Rattle.ws_room_laws.proofs.Rows.{row-takes, get-other, get-same, same-or, each-none}
use Rattle.ws_room_laws.proofs.Writables.{writable-takes}
use Rattle.ws_laws.proofs.Apart.{row-streams}
use Rattle.ws_tables.specs.View.{stream_of}
use Rattle.ws_tables.specs.Room.{queued_in}
use Rattle.ws_tables.specs.declared.tables.Stream.{Stream as StreamRecord}
use Rattle.ws_tables.specs.declared.tables.Stream.TheVariants as records
use Rattle.ws_performing.proofs.Bytes.{byte_readable-took, byte-took, readable-free, byte_readable-free, byte-free, descriptors-free}
use Rattle.ws_performing.proofs.Fits.{members-free}
use Rattle.ws_performing.proofs.Keeps.{signals-keep-is, tees-queued, tees-descriptors}
use Rattle.ws_performing.proofs.Streams.{Took, readable-took, writable-took}
use Rattle.ws_tables.proofs.Elements.{get-map}

-- the entries of a queue, with the places of descriptors

abbrev held_in : Stream → ℕ
held_in (ReadableStream r) = length r.queue
held_in (ByteStream b) = length b.queue + length b.descriptors
held_in (WritableStream w) = length w.queue

abbrev pub held_at : Option Stream → ℕ
held_at None = 0
held_at (Some x) = held_in x

held-is : (x : StreamRecord) → held_in (stream_of x) ≡ queued_in x
held-is (records.Readable r) = refl
held-is (records.Bytes b) = refl
held-is (records.Writable w) = refl

pub queued-at : (xs : List StreamRecord) (i : ℕ) (x : StreamRecord) → slice_get xs i ≡ Some x → held_at (slice_get (map stream_of xs) i) ≡ queued_in x
queued-at xs i x is = ap held_at (get-map stream_of xs i x is) ∙ held-is x

-- what is caused takes no more of the queue of any stream than this
abbrev Queues : ℕ → Slots → Done → Type 0
Queues n s d = (i : StreamId) → prices_of queued_alone d.caused + held_at (slice_get d.slots.streams i.0) ≤ held_at (slice_get s.streams i.0) + n

queues-nothing : (n : ℕ) (s : Slots) → Queues n s (nothing s)
queues-nothing n s i = omega arith

-- one stream is put in the place of another
queues-put : (n c : ℕ) (s : Slots) (j : StreamId) (x y : Stream) (d : Done) → slice_get s.streams j.0 ≡ Some x → d.slots.streams ≡ slice_set s.streams j.0 y → prices_of queued_alone d.caused ≡ c
    → Took n (held_in x) (held_in y) c → Queues n s d
queues-put n c s j x y d is put price took i =
    let l = took.list in let m = took.caused in
    let now = ap (λ (xs : List Stream). held_at (slice_get xs i.0)) put in
    ⊎_elim
    (λ (same : i.0 ≡ j.0).
    let before = ap held_at (ap (slice_get s.streams) same ∙ is) in
    let after = ap held_at (ap (slice_get (slice_set s.streams j.0 y)) same ∙ get-same s.streams j.0 x y is) in
    omega (arith, l, now, before, after, price))
    (λ other. let stays = ap held_at (get-other s.streams j.0 i.0 y other) in omega (arith, m, now, stays, price))
    (same-or i.0 j.0)

readable-queues : (j : StreamId) (operation : ReadableOperation) (s : Slots) (o : Option Stream) → slice_get s.streams j.0 ≡ o → Queues (readable_price queued_alone j operation) s (on_source operation j s)
readable-queues j operation s None is = rw is (queues-nothing (readable_price queued_alone j operation) s)
readable-queues j operation s (Some (WritableStream x)) is = rw is (queues-nothing (readable_price queued_alone j operation) s)
readable-queues j operation s (Some (ReadableStream x)) is =
    let a : readable.Acts = record { slots = x; out = found s } in
    let b : readable.Acts = readable_operation j operation a in
    rw is
    (queues-put (readable_price queued_alone j operation) (prices_of queued_alone b.out.effects) s j (ReadableStream x) (ReadableStream b.slots)
    (record { slots = record s { streams = slice_set s.streams j.0 (ReadableStream b.slots); promises = b.out.promises }; caused = b.out.effects }) is refl refl (readable-took j operation a refl).queued)
readable-queues j operation s (Some (ByteStream x)) is =
    let a : byte.Acts = record { slots = x; out = found s } in
    let b : byte.Acts = byte_readable_operation j operation a in
    rw is
    (queues-put (readable_price queued_alone j operation) (prices_of queued_alone b.out.effects) s j (ByteStream x) (ByteStream b.slots)
    (record { slots = record s { streams = slice_set s.streams j.0 (ByteStream b.slots); promises = b.out.promises }; caused = b.out.effects }) is refl refl (byte_readable-took j operation a refl).queued)

byte-queues : (j : StreamId) (operation : ByteOperation) (s : Slots) (o : Option Stream) → slice_get s.streams j.0 ≡ o → Queues (byte_price queued_alone operation) s (on_byte (byte_operation j operation) j s)
byte-queues j operation s None is = rw is (queues-nothing (byte_price queued_alone operation) s)
byte-queues j operation s (Some (WritableStream x)) is = rw is (queues-nothing (byte_price queued_alone operation) s)
byte-queues j operation s (Some (ReadableStream x)) is = rw is (queues-nothing (byte_price queued_alone operation) s)
byte-queues j operation s (Some (ByteStream x)) is =
    let a : byte.Acts = record { slots = x; out = found s } in
    let b : byte.Acts = byte_operation j operation a in
    rw is
    (queues-put (byte_price queued_alone operation) (prices_of queued_alone b.out.effects) s j (ByteStream x) (ByteStream b.slots)
    (record { slots = record s { streams = slice_set s.streams j.0 (ByteStream b.slots); promises = b.out.promises }; caused = b.out.effects }) is refl refl (byte-took j operation a refl).queued)

writable-queues : (j : StreamId) (operation : WritableOperation) (s : Slots) (o : Option Stream) → slice_get s.streams j.0 ≡ o → Queues (writable_price queued_alone operation) s (on_writable (writable_operation j operation) j s)
writable-queues j operation s None is = rw is (queues-nothing (writable_price queued_alone operation) s)
writable-queues j operation s (Some (ReadableStream x)) is = rw is (queues-nothing (writable_price queued_alone operation) s)
writable-queues j operation s (Some (ByteStream x)) is = rw is (queues-nothing (writable_price queued_alone operation) s)
writable-queues j operation s (Some (WritableStream x)) is =
    let a : writable.Acts = record { slots = x; out = found s } in
    let b : writable.Acts = writable_operation j operation a in
    rw is
    (queues-put (writable_price queued_alone operation) (prices_of queued_alone b.out.effects) s j (WritableStream x) (WritableStream b.slots)
    (record { slots = record s { streams = slice_set s.streams j.0 (WritableStream b.slots); promises = b.out.promises }; caused = b.out.effects }) is refl refl (writable-took j operation a refl).queued)

-- where the streams are the same
same-queues : (e : Effect) (s : Slots) → (row e s).slots.streams ≡ s.streams → Queues (effect_price queued_alone e) s (row e s)
unfolding table_size
same-queues e s same i =
    let z : Slots = (row e s).slots in
    let h = row-takes queued_alone (record { 0 = 0 }) (record { 0 = 0 }) (record { here = refl; others = λ j. omega arith }) e s in
    let a = ap (λ (xs : List Stream). entries_of queued_alone (slice_get xs 0)) same in
    let b = ap (all_keep queued_alone) same in
    let c = ap (λ (xs : List Stream). held_at (slice_get xs i.0)) same in
    let f = members-free queued_alone refl (slice_get s.signals 0) in let g = members-free queued_alone refl (slice_get z.signals 0) in
    let k = signals-keep-is queued_alone s.signals in let l = signals-keep-is queued_alone z.signals in
    let m = tees-queued s.tees in let n = tees-queued z.tees in
    omega (arith, h, a, b, c, f, g, k, l, m, n)

pub row-queues : (e : Effect) (s : Slots) → Queues (effect_price queued_alone e) s (row e s)
unfolding row
row-queues (Readable j operation) s = readable-queues j operation s (slice_get s.streams j.0) refl
row-queues (Byte j operation) s = byte-queues j operation s (slice_get s.streams j.0) refl
row-queues (Writable j operation) s = writable-queues j operation s (slice_get s.streams j.0) refl
row-queues e s = same-queues e s (row-streams e s tt)

-- a row takes its own descriptor, and what it causes takes others

abbrev Describes : ℕ → ℕ → Done → Type 0
Describes own_price n d = own_price + prices_of descriptors_alone d.caused ≤ n

own-readable : (i : StreamId) (operation : ReadableOperation) → own descriptors_alone (Readable i operation) ≤ readable_price descriptors_alone i operation
own-readable i operation = grind arith

own-byte : (i : StreamId) (operation : ByteOperation) → own descriptors_alone (Byte i operation) ≤ byte_price descriptors_alone operation
own-byte i operation = grind arith

own-writable : (i : StreamId) (operation : WritableOperation) → own descriptors_alone (Writable i operation) ≡ 0
own-writable i operation = grind arith

readable-describes : (j : StreamId) (operation : ReadableOperation) (s : Slots) (o : Option Stream) → slice_get s.streams j.0 ≡ o
    → Describes (own descriptors_alone (Readable j operation)) (readable_price descriptors_alone j operation) (on_source operation j s)
readable-describes j operation s None is = rw is (let h = own-readable j operation in omega (arith, h))
readable-describes j operation s (Some (WritableStream x)) is = rw is (let h = own-readable j operation in omega (arith, h))
readable-describes j operation s (Some (ReadableStream x)) is =
    rw is (let h = own-readable j operation in let f = readable-free descriptors_alone descriptors-free j operation (record { slots = x; out = found s }) refl in omega (arith, h, f))
readable-describes j operation s (Some (ByteStream x)) is =
    rw is (let h = own-readable j operation in let f = byte_readable-free descriptors_alone descriptors-free j operation (record { slots = x; out = found s }) refl in omega (arith, h, f))

byte-describes : (j : StreamId) (operation : ByteOperation) (s : Slots) (o : Option Stream) → slice_get s.streams j.0 ≡ o
    → Describes (own descriptors_alone (Byte j operation)) (byte_price descriptors_alone operation) (on_byte (byte_operation j operation) j s)
byte-describes j operation s None is = rw is (let h = own-byte j operation in omega (arith, h))
byte-describes j operation s (Some (WritableStream x)) is = rw is (let h = own-byte j operation in omega (arith, h))
byte-describes j operation s (Some (ReadableStream x)) is = rw is (let h = own-byte j operation in omega (arith, h))
byte-describes j operation s (Some (ByteStream x)) is =
    rw is (let h = own-byte j operation in let f = byte-free descriptors_alone descriptors-free j operation (record { slots = x; out = found s }) refl in omega (arith, h, f))

writable-describes : (j : StreamId) (operation : WritableOperation) (s : Slots) (o : Option Stream) → slice_get s.streams j.0 ≡ o
    → Describes (own descriptors_alone (Writable j operation)) (writable_price descriptors_alone operation) (on_writable (writable_operation j operation) j s)
unfolding table_size
writable-describes j operation s None is = rw is (let h = own-writable j operation in omega (arith, h))
writable-describes j operation s (Some (ReadableStream x)) is = rw is (let h = own-writable j operation in omega (arith, h))
writable-describes j operation s (Some (ByteStream x)) is = rw is (let h = own-writable j operation in omega (arith, h))
writable-describes j operation s (Some (WritableStream x)) is =
    rw is
    (let h = own-writable j operation in
    let a : writable.Acts = record { slots = x; out = found s } in
    let t = writable-takes descriptors_alone 0 0 j operation a (omega arith) (omega arith) in
    let b : writable.Acts = writable_operation j operation a in
    let q = each-none a.slots.queue in let r = each-none a.slots.write_requests in
    let q' = each-none b.slots.queue in let r' = each-none b.slots.write_requests in
    omega (arith, h, t, q, r, q', r'))

same-describes : (e : Effect) (s : Slots) → (row e s).slots.streams ≡ s.streams → own descriptors_alone e ≡ 0 → Describes (own descriptors_alone e) (effect_price descriptors_alone e) (row e s)
unfolding table_size
same-describes e s same none =
    let z : Slots = (row e s).slots in
    let h = row-takes descriptors_alone (record { 0 = 0 }) (record { 0 = 0 }) (record { here = refl; others = λ j. omega arith }) e s in
    let a = ap (λ (xs : List Stream). entries_of descriptors_alone (slice_get xs 0)) same in
    let b = ap (all_keep descriptors_alone) same in
    let f = members-free descriptors_alone refl (slice_get s.signals 0) in let g = members-free descriptors_alone refl (slice_get z.signals 0) in
    let k = signals-keep-is descriptors_alone s.signals in let l = signals-keep-is descriptors_alone z.signals in
    let m = tees-descriptors s.tees in let n = tees-descriptors z.tees in
    omega (arith, h, a, b, f, g, k, l, none, m, n)

-- only an operation of a readable stream has a descriptor of its own
abbrev IsNoOther : Effect → Type 0
IsNoOther (Readable j operation) = Unit {0}
IsNoOther (Byte j operation) = Unit {0}
IsNoOther (Writable j operation) = Unit {0}
IsNoOther e = own descriptors_alone e ≡ 0

own-none : (e : Effect) → IsNoOther e
own-none e = grind arith

pub row-describes : (e : Effect) (s : Slots) → Describes (own descriptors_alone e) (effect_price descriptors_alone e) (row e s)
unfolding row
row-describes (Readable j operation) s = readable-describes j operation s (slice_get s.streams j.0) refl
row-describes (Byte j operation) s = byte-describes j operation s (slice_get s.streams j.0) refl
row-describes (Writable j operation) s = writable-describes j operation s (slice_get s.streams j.0) refl
row-describes e s = same-describes e s (row-streams e s tt) (own-none e)
