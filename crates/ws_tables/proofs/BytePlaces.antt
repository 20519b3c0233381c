-- The places of a byte stream.
use Rattle.std.proofs.Common.{◌≡◌, ◌≤◌, ◌<◌, ◌+◌, length, ap, subst, arith}
use Rattle.ws_byte.specs.Seen.{SeenByteStream, HasRoom}
use Rattle.ws_steps.specs.Bytes as byte
use Rattle.ws_tables.specs.Room.{HasPlaces}
use Rattle.ws_tables.specs.declared.tables.Stream.TheVariants.{Bytes}

pub bytes-ready : (x : SeenByteStream) → HasRoom 4 x → HasPlaces (Bytes x)
bytes-ready x h =
    let q = h.queue in let d = h.descriptors in
    (record { queue = omega (arith, q); requests = h.requests; descriptors = omega (arith, d) }, h.spare)

pub ready-bytes : (x : SeenByteStream) → HasPlaces (Bytes x) → HasRoom 4 x
ready-bytes x h =
    let q = h.0.queue in let d = h.0.descriptors in
    record { queue = omega (arith, q); requests = h.0.requests; descriptors = omega (arith, d); spare = h.1 }

pub bytes-stay : (x y : SeenByteStream) → y.slots ≡ x.slots → x.room.queue ≤ y.room.queue → x.room.requests ≤ y.room.requests → x.room.descriptors ≤ y.room.descriptors → x.spares ≤ y.spares
    → HasPlaces (Bytes x) → HasPlaces (Bytes y)
bytes-stay x y same q r d s h =
    let hq = h.0.queue in let hr = h.0.requests in let hd = h.0.descriptors in
    let a = ap (λ (z : byte.Slots). length z.queue + length z.descriptors) same in
    let b = ap (λ (z : byte.Slots). length z.stream.requests) same in
    let c = ap (λ (z : byte.Slots). length z.descriptors) same in (
      record { queue = omega (arith, hq, a, q); requests = omega (arith, hr, b, r); descriptors = omega (arith, hd, c, d) },
      λ some. let g = h.1 (subst (λ (z : byte.Slots). 0 < z.auto) same some) in omega (arith, g, s),
    )
