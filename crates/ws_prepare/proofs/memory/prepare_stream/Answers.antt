use Rattle.std.proofs.Common.{◌≡◌, ◌∙◌, List, length, Some, ap, arith}
use Rattle.std.specs.Prelude.{slice_get}
use Rattle.ws_steps.specs.Slots.{Stream as SeenStream, ReadableStream, ByteStream, WritableStream}
use Rattle.ws_tables.specs.declared.tables.Stream.TheVariants.{Readable, Bytes, Writable}
use Rattle.ws_tables.specs.View.{slots_of, stream_of}
use Rattle.ws_tables.proofs.BytePlaces.{bytes-ready, bytes-stay}
use Rattle.ws_prepare.proofs.Preparing.{places-put, made-at, on_ok, on_both}
use Rattle.ws_tables.proofs.Elements.{stands-at, map-put}
use Rattle.ws_prepare.proofs.memory.prepare_stream.Goals as goal

readable-at : (c : goal.After-tables-1) → slice_get c.args.tables.now.streams.items c.args.i.0 ≡ Some (Readable c.in-Readable.stream)
readable-at c =
    stands-at c.args.tables.now.streams.items c.args.i.0 c.index_mut.result.now c.index_mut.result.now (omega arith) c.index_mut.ensures.value
    ∙ ap (λ x. Some x) c.in-Readable.is

writable-at : (c : goal.After-tables-in-Writable-1) → slice_get c.args.tables.now.streams.items c.args.i.0 ≡ Some (Writable c.in-Writable.stream)
writable-at c =
    stands-at c.args.tables.now.streams.items c.args.i.0 c.index_mut.result.now c.index_mut.result.now (omega arith) c.index_mut.ensures.value
    ∙ ap (λ x. Some x) c.in-Writable.is

pub returns-in-Readable-clause-ok : goal.returns-in-Readable-clause-ok
returns-in-Readable-clause-ok c =
    made-at c.reserve.result c.args.tables.now.streams.items c.args.i (Readable c.reserve.new.self) (on_ok c.reserve.result _ _ (λ h. (record { queue = h.queue; requests = h.requests; descriptors = tt }, tt)) c.reserve.ensures.ok)

pub returns-in-Readable-clause-places : goal.returns-in-Readable-clause-places
returns-in-Readable-clause-places c =
    let e = c.reserve.ensures in
    let q = ap (λ s. length s.queue) e.slots in let r = ap (λ s. length s.requests) e.slots in
    let more-q = e.queue_grows in let more-r = e.requests_grow in
    places-put c.args.tables.now.streams.items c.args.i.0 (Readable c.in-Readable.stream) (Readable c.reserve.new.self) (readable-at c)
    (λ h. let hq = h.0.queue in let hr = h.0.requests in (record { queue = omega (arith, hq, q, more-q); requests = omega (arith, hr, r, more-r); descriptors = tt }, tt))

pub returns-in-Readable-clause-slots : goal.returns-in-Readable-clause-slots
returns-in-Readable-clause-slots c =
    ap (λ (xs : List SeenStream). record (slots_of c.args.tables.now) { streams = xs })
    (map-put stream_of c.args.tables.now.streams.items c.args.i.0 (Readable c.in-Readable.stream) (Readable c.reserve.new.self) (readable-at c) (ap (λ s. ReadableStream s) c.reserve.ensures.slots))

bytes-at : (c : goal.After-tables-in-Bytes-1) → slice_get c.args.tables.now.streams.items c.args.i.0 ≡ Some (Bytes c.in-Bytes.stream)
bytes-at c =
    stands-at c.args.tables.now.streams.items c.args.i.0 c.index_mut.result.now c.index_mut.result.now (omega arith) c.index_mut.ensures.value
    ∙ ap (λ x. Some x) c.in-Bytes.is

pub returns-in-Bytes-clause-ok : goal.returns-in-Bytes-clause-ok
returns-in-Bytes-clause-ok c =
    made-at c.reserve-in-Bytes.result c.args.tables.now.streams.items c.args.i (Bytes c.reserve-in-Bytes.new.self)
    (on_ok c.reserve-in-Bytes.result _ _ (λ h. bytes-ready c.reserve-in-Bytes.new.self h) c.reserve-in-Bytes.ensures.ok)

pub returns-in-Bytes-clause-places : goal.returns-in-Bytes-clause-places
returns-in-Bytes-clause-places c =
    let e = c.reserve-in-Bytes.ensures in
    places-put c.args.tables.now.streams.items c.args.i.0 (Bytes c.in-Bytes.stream) (Bytes c.reserve-in-Bytes.new.self) (bytes-at c)
    (bytes-stay c.in-Bytes.stream c.reserve-in-Bytes.new.self e.slots e.queue_grows e.requests_grow e.descriptors_grow e.spares_grow)

pub returns-in-Bytes-clause-slots : goal.returns-in-Bytes-clause-slots
returns-in-Bytes-clause-slots c =
    ap (λ (xs : List SeenStream). record (slots_of c.args.tables.now) { streams = xs })
    (map-put stream_of c.args.tables.now.streams.items c.args.i.0 (Bytes c.in-Bytes.stream) (Bytes c.reserve-in-Bytes.new.self) (bytes-at c) (ap (λ s. ByteStream s) c.reserve-in-Bytes.ensures.slots))

pub returns-in-Writable-clause-ok : goal.returns-in-Writable-clause-ok
returns-in-Writable-clause-ok c =
    made-at c.reserve-in-Writable.result c.args.tables.now.streams.items c.args.i (Writable c.reserve-in-Writable.new.self)
    (on_ok c.reserve-in-Writable.result _ _ (λ h. (record { queue = h.0; requests = h.1; descriptors = tt }, tt))
    (on_both c.reserve-in-Writable.result _ _ c.reserve-in-Writable.ensures.queue c.reserve-in-Writable.ensures.requests))

pub returns-in-Writable-clause-places : goal.returns-in-Writable-clause-places
returns-in-Writable-clause-places c =
    let e = c.reserve-in-Writable.ensures in
    let q = ap (λ s. length s.queue) e.slots in let r = ap (λ s. length s.write_requests) e.slots in
    let more-q = e.queue_grows in let more-r = e.requests_grow in
    places-put c.args.tables.now.streams.items c.args.i.0 (Writable c.in-Writable.stream) (Writable c.reserve-in-Writable.new.self) (writable-at c)
    (λ h. let hq = h.0.queue in let hr = h.0.requests in (record { queue = omega (arith, hq, q, more-q); requests = omega (arith, hr, r, more-r); descriptors = tt }, tt))

pub returns-in-Writable-clause-slots : goal.returns-in-Writable-clause-slots
returns-in-Writable-clause-slots c =
    ap (λ (xs : List SeenStream). record (slots_of c.args.tables.now) { streams = xs })
    (map-put stream_of c.args.tables.now.streams.items c.args.i.0 (Writable c.in-Writable.stream) (Writable c.reserve-in-Writable.new.self) (writable-at c) (ap (λ s. WritableStream s) c.reserve-in-Writable.ensures.slots))
