-- Over every run a stream that is there stays whose it is, and the host hears of it in the same way.
use Rattle.std.proofs.Common.{◌≡◌, ℕ, zero, suc, true, List, [], ◌∷◌, ◌++◌, map, Some, slice_get, refl}
use Rattle.ws_value.specs.declared.ids.StreamId.{StreamId}
use Rattle.ws_steps.specs.declared.effects.Effect.{Effect}
use Rattle.ws_steps.specs.Run.{Entry, run}
use Rattle.ws_steps.specs.Slots.{Slots, Stream, owner_at, has_writable}
use Rattle.ws_laws.proofs.Begin.{begin-makes}
use Rattle.ws_laws.proofs.Halves.{run-among}
use Rattle.ws_laws.proofs.Shapes.{StreamShape, stream_shape, stream_shapes, owner-told, row-stream_shapes}
use Rattle.ws_laws.proofs.Tables.{writable_there}
use Rattle.ws_laws.proofs.Walker as walker
use Rattle.ws_laws.proofs.Walker.{Stays}
use Rattle.ws_link_laws.specs.Link.{ear_at, giver_at}
use Rattle.ws_link_laws.specs.Sound.{IsHosts}
use Rattle.ws_link_laws.proofs.Hosts.{giver-told, shape-here, sink-shape, ear-same, grown-shape}
use Rattle.ws_steps.specs.Slots.{has_source}

abbrev Stands : StreamId → StreamShape → Slots → List Effect → Type 0
Stands k y s es = slice_get (stream_shapes s) k.0 ≡ Some y

more : (xs : List Stream) (n : ℕ) (x : Stream) (y : StreamShape) → slice_get (map stream_shape xs) n ≡ Some y → slice_get (map stream_shape (xs ++ x ∷ [])) n ≡ Some y
more [] n x y e = cc
more (z ∷ zs) zero x y e = e
more (z ∷ zs) (suc n) x y e = more zs n x y e

stands-stays : (k : StreamId) (y : StreamShape) → Stays (Stands k y)
stands-stays k y = record {
  row = λ s e es h. rw (row-stream_shapes e s) h;
  call = λ s c h. begin-makes (λ z. Stands k y z []) (record {
    promise = λ z h. h;
    locks = λ z ls h. h;
    hosts = λ z hs h. h;
    pipe = λ z source dest prevent signal promise h. h;
    signal = λ z h. h;
    transform = λ z kind w r change h. h;
    tee = λ z source first second cancel h. h;
    port = λ z side stream backpressure h. h;
    bytes = λ z mark auto h. more z.streams k.0 _ y h;
    byob_requests = λ z hs h. h;
    readable = λ z o mark size h. more z.streams k.0 _ y h;
    writable = λ z o mark size h. more z.streams k.0 _ y h;
  }) c s h;
  job = λ s job e h. h;
  answered = λ s p h. h;
  older = λ s h. h;
}

stands-run : (k : StreamId) (y : StreamShape) (xs : List Entry) (s : Slots) → Stands k y s [] → owner_at k (run xs s) ≡ owner_at k s
stands-run k y xs s h =
    let after = walker.run-stays (Stands k y) (stands-stays k y) (λ z g. g) xs s h in
    let a = owner-told (run xs s).streams k.0 in
    let b = owner-told s.streams k.0 in
    rw (a, b, after, h) refl

pub source-stays : (i : StreamId) (xs : List Entry) (s : Slots) → has_source i s ≡ true → owner_at i (run xs s) ≡ owner_at i s
source-stays i xs s there = let h = shape-here i s there in stands-run i h.0 xs s h.1

pub giver-stays : (i : StreamId) (xs : List Entry) (s : Slots) → has_source i s ≡ true → giver_at i (run xs s) ≡ giver_at i s
giver-stays i xs s there =
    let h = shape-here i s there in
    let y : StreamShape = h.0 in
    let now = h.1 in
    let after = walker.run-stays (Stands i y) (stands-stays i y) (λ z g. g) xs s now in
    let a = giver-told (run xs s).streams i.0 in
    let b = giver-told s.streams i.0 in
    rw (a, b, after, now) refl

pub sink-stays : (j : StreamId) (xs : List Entry) (s : Slots) → has_writable j s ≡ true → owner_at j (run xs s) ≡ owner_at j s
sink-stays j xs s there = stands-run j _ xs s (sink-shape j s s (writable_there (slice_get s.streams j.0) there))

pub ear-stays : (j : StreamId) (xs : List Entry) (s : Slots) → has_writable j s ≡ true → IsHosts s (owner_at j s) → ear_at j (run xs s) ≡ ear_at j s
ear-stays j xs s there h = ear-same j s (run xs s) (grown-shape s (run xs s) (owner_at j s) (run-among xs s) h) (sink-stays j xs s there)
