-- Whose the ends of a link are: the host's own, or halves of transform streams of the host's kind. No effect changes it.
use Rattle.std.proofs.Common.{◌≡◌, ℕ, zero, suc, Bool, true, false, not, ◌&&◌, ◌||◌, List, [], ◌∷◌, map, Option, Some, None, slice_get, refl, sym, ap, subst, ◌∙◌}
use Rattle.ws_value.specs.declared.ids.StreamId.{StreamId}
use Rattle.ws_steps.specs.declared.effects.Effect.{Effect}
use Rattle.ws_steps.specs.declared.effects.Owner.{Owner}
use Rattle.ws_steps.specs.declared.effects.Owner.TheVariants.{Host, HalfOf, BranchOf, EndOf}
use Rattle.ws_steps.specs.declared.transform.Kind.TheVariants.{Host as HostKind}
use Rattle.ws_steps.specs.declared.transform.TransformId.{TransformId}
use Rattle.ws_steps.specs.Histories.{is_same}
use Rattle.ws_steps.specs.Slots.{Slots, Stream, ReadableStream, ByteStream, WritableStream, empty, is_readable_stream, is_byte_stream, is_writable_stream, no_transform, as_transform, has_readable, has_source, has_writable, owner_of, owner_at, readable_at, writable_at, transform_at}
use Rattle.ws_steps.specs.Transform as transform
use Rattle.ws_steps.specs.Turns.{row}
use Rattle.ws_laws.proofs.Ended.{Ended, port_shapes, row-port_shapes, run-ended}
use Rattle.ws_laws.proofs.Halves.{Among, Halved, halved-empty, run-halved}
use Rattle.ws_laws.proofs.Shapes.{StreamShape, ReadableOf, BytesOf, WritableOf, TransformShape, stream_shape, transform_shape, stream_shapes, transform_shapes, map-there, owner-told, row-owner, row-stream_shapes, row-transform_shapes, TeeShape, tee_shape, tee_shapes, row-tee_shapes}
use Rattle.ws_laws.proofs.Tables.{same_id, readable_there, writable_there}
use Rattle.ws_link_laws.specs.Link.{OfTransform, Giver, OfSource, OfByteSource, OfHalf, OfEnd, ear_by, ear_at, giver_by, giver_at}
use Rattle.ws_link_laws.specs.Sound.{IsReached, IsHosts, all_untied}
use Rattle.ws_steps.specs.Tee as tee

-- by their shapes

abbrev shape_of : Option TransformShape → TransformShape
shape_of None = transform_shape no_transform
shape_of (Some x) = x

pub transform-told : (xs : List transform.Slots) (n : ℕ) → transform_shape (as_transform (slice_get xs n)) ≡ shape_of (slice_get (map transform_shape xs) n)
transform-told [] n = refl
transform-told (x ∷ xs) zero = refl
transform-told (x ∷ xs) (suc n) = transform-told xs n

-- the same shapes at all, or the same shape of a transform stream

shape-same : (t : TransformId) (s z : Slots) → transform_shapes z ≡ transform_shapes s → transform_shape (transform_at t z) ≡ transform_shape (transform_at t s)
shape-same t s z e = transform-told z.transforms t.0 ∙ (ap (λ (ts : List TransformShape). shape_of (slice_get ts t.0)) e ∙ sym (transform-told s.transforms t.0))

pub owner-same : (i : StreamId) (s z : Slots) → stream_shapes z ≡ stream_shapes s → owner_at i z ≡ owner_at i s
owner-same i s z e = let a = owner-told z.streams i.0 in let b = owner-told s.streams i.0 in rw (a, b, e) refl

-- by what chunks come to a source is told by its shape

abbrev pub shape_giver : Option StreamShape → Giver
shape_giver None = OfSource
shape_giver (Some (ReadableOf o)) = giver_by false o
shape_giver (Some BytesOf) = OfByteSource
shape_giver (Some (WritableOf o)) = giver_by false o

pub giver-told : (xs : List Stream) (n : ℕ) → giver_by (is_byte_stream (slice_get xs n)) (owner_of (slice_get xs n)) ≡ shape_giver (slice_get (map stream_shape xs) n)
giver-told [] n = refl
giver-told (ReadableStream r ∷ xs) zero = refl
giver-told (ByteStream b ∷ xs) zero = refl
giver-told (WritableStream w ∷ xs) zero = refl
giver-told (x ∷ xs) (suc n) = giver-told xs n

pub giver-same : (i : StreamId) (s z : Slots) → stream_shapes z ≡ stream_shapes s → giver_at i z ≡ giver_at i s
giver-same i s z e = giver-told z.streams i.0 ∙ (ap (λ (ys : List StreamShape). shape_giver (slice_get ys i.0)) e ∙ sym (giver-told s.streams i.0))

pub row-giver : (i : StreamId) (e : Effect) (s : Slots) → giver_at i (row e s).slots ≡ giver_at i s
row-giver i e s = giver-same i s (row e s).slots (row-stream_shapes e s)

-- of which kind a stream is, too

abbrev is_writable_shape : Option StreamShape → Bool
is_writable_shape None = false
is_writable_shape (Some (ReadableOf o)) = false
is_writable_shape (Some BytesOf) = false
is_writable_shape (Some (WritableOf o)) = true

abbrev is_source_shape : Option StreamShape → Bool
is_source_shape None = false
is_source_shape (Some (ReadableOf o)) = true
is_source_shape (Some BytesOf) = true
is_source_shape (Some (WritableOf o)) = false

sink-told : (xs : List Stream) (n : ℕ) → is_writable_stream (slice_get xs n) ≡ is_writable_shape (slice_get (map stream_shape xs) n)
sink-told [] n = refl
sink-told (ReadableStream r ∷ xs) zero = refl
sink-told (ByteStream b ∷ xs) zero = refl
sink-told (WritableStream w ∷ xs) zero = refl
sink-told (x ∷ xs) (suc n) = sink-told xs n

source-told : (xs : List Stream) (n : ℕ) → is_readable_stream (slice_get xs n) || is_byte_stream (slice_get xs n) ≡ is_source_shape (slice_get (map stream_shape xs) n)
source-told [] n = refl
source-told (ReadableStream r ∷ xs) zero = refl
source-told (ByteStream b ∷ xs) zero = refl
source-told (WritableStream w ∷ xs) zero = refl
source-told (x ∷ xs) (suc n) = source-told xs n

pub row-sinks : (j : StreamId) (e : Effect) (s : Slots) → has_writable j (row e s).slots ≡ has_writable j s
row-sinks j e s = sink-told (row e s).slots.streams j.0 ∙ (ap (λ (ys : List StreamShape). is_writable_shape (slice_get ys j.0)) (row-stream_shapes e s) ∙ sym (sink-told s.streams j.0))

pub row-sources : (i : StreamId) (e : Effect) (s : Slots) → has_source i (row e s).slots ≡ has_source i s
row-sources i e s = source-told (row e s).slots.streams i.0 ∙ (ap (λ (ys : List StreamShape). is_source_shape (slice_get ys i.0)) (row-stream_shapes e s) ∙ sym (source-told s.streams i.0))

-- a half is no byte stream, and its own transform stream's
pub half-giver : (b : Bool) (o : Owner) (t : TransformId) → giver_by b o ≡ OfHalf t → (b ≡ false) × (o ≡ HalfOf t)
half-giver true o t e = cc
half-giver false Host t e = cc
half-giver false (HalfOf u) t e = (refl, cc)
half-giver false (BranchOf u half) t e = cc
half-giver false (EndOf c) t e = cc

abbrev SameShape : Slots → Slots → Owner → Type 0
SameShape s z Host = Unit {0}
SameShape s z (HalfOf t) = transform_shape (transform_at t z) ≡ transform_shape (transform_at t s)
SameShape s z (BranchOf t half) = Unit {0}
SameShape s z (EndOf c) = Unit {0}

same-shapes : (s z : Slots) (o : Owner) → transform_shapes z ≡ transform_shapes s → SameShape s z o
same-shapes s z Host e = tt
same-shapes s z (HalfOf t) e = shape-same t s z e
same-shapes s z (BranchOf t half) e = tt
same-shapes s z (EndOf c) e = tt

ear-shaped : (j : StreamId) (s z : Slots) (o : Owner) → SameShape s z o → ear_by j z o ≡ ear_by j s o
ear-shaped j s z Host e = refl
ear-shaped j s z (HalfOf t) e = ap (λ (x : TransformShape). OfTransform t x.readable) e
ear-shaped j s z (BranchOf t half) e = refl
ear-shaped j s z (EndOf c) e = refl

pub hosts-shaped : (s z : Slots) (o : Owner) → SameShape s z o → IsHosts s o → IsHosts z o
hosts-shaped s z Host e h = tt
hosts-shaped s z (HalfOf t) e h = ap (λ (x : TransformShape). x.kind) e ∙ h
hosts-shaped s z (BranchOf t half) e h = absurd h
hosts-shaped s z (EndOf c) e h = h

pub ear-same : (j : StreamId) (s z : Slots) → SameShape s z (owner_at j s) → owner_at j z ≡ owner_at j s → ear_at j z ≡ ear_at j s
ear-same j s z e f = ap (λ (o : Owner). ear_by j z o) f ∙ ear-shaped j s z (owner_at j s) e

pub row-ear : (j : StreamId) (e : Effect) (s : Slots) → ear_at j (row e s).slots ≡ ear_at j s
row-ear j e s = ear-same j s (row e s).slots (same-shapes s (row e s).slots (owner_at j s) (row-transform_shapes e s)) (row-owner j e s)

-- a transform stream of the host's kind stays, whatever is made beside it

there-still : (t : TransformId) (s z : Slots) (o : Option transform.Slots) → slice_get s.transforms t.0 ≡ o → Among (transform_shapes s) (transform_shapes z) → (as_transform o).kind ≡ HostKind
    → transform_shape (transform_at t z) ≡ transform_shape (as_transform o)
there-still t s z None e a h = cc
there-still t s z (Some x) e a h =
    let there : slice_get (transform_shapes z) t.0 ≡ Some (transform_shape x) = a t (transform_shape x) (map-there transform_shape s.transforms t.0 x e) in
    transform-told z.transforms t.0 ∙ rw there refl

pub grown-shape : (s z : Slots) (o : Owner) → Among (transform_shapes s) (transform_shapes z) → IsHosts s o → SameShape s z o
grown-shape s z Host a h = tt
grown-shape s z (HalfOf t) a h = there-still t s z (slice_get s.transforms t.0) refl a h
grown-shape s z (BranchOf t half) a h = tt
grown-shape s z (EndOf c) a h = tt

abbrev map_shape : Option Stream → Option StreamShape
map_shape None = None
map_shape (Some x) = Some (stream_shape x)

abbrev pub giver_shape : Giver → StreamShape
giver_shape OfSource = ReadableOf Host
giver_shape OfByteSource = BytesOf
giver_shape (OfHalf t) = ReadableOf (HalfOf t)
giver_shape (OfEnd c) = ReadableOf (EndOf c)

-- no tee has the source, which is told by the shapes of the tees

abbrev untied_shapes : StreamId → List TeeShape → Bool
untied_shapes i [] = true
untied_shapes i (x ∷ xs) = not (is_same i x.source) && untied_shapes i xs

untied-told : (i : StreamId) (xs : List tee.Slots) → all_untied i xs ≡ untied_shapes i (map tee_shape xs)
untied-told i [] = refl
untied-told i (x ∷ xs) = ap (λ (b : Bool). not (is_same i x.source) && b) (untied-told i xs)

pub untied-same : (i : StreamId) (s z : Slots) → tee_shapes z ≡ tee_shapes s → all_untied i z.tees ≡ all_untied i s.tees
untied-same i s z e = untied-told i z.tees ∙ (ap (untied_shapes i) e ∙ sym (untied-told i s.tees))

-- the two ends, and each transform stream has halves of its own
pub record Hosts (i j : StreamId) (s : Slots) : Type 0 where
  pub source : slice_get (stream_shapes s) i.0 ≡ Some (giver_shape (giver_at i s))
  pub sink : slice_get (stream_shapes s) j.0 ≡ Some (WritableOf (owner_at j s))
  pub source_kind : IsHosts s (owner_at i s)
  pub sink_kind : IsHosts s (owner_at j s)
  pub halved : Halved s
  pub ended : Ended s
  pub untied : all_untied i s.tees ≡ true

-- the one of them from which chunks come
pub record Source (i : StreamId) (s : Slots) : Type 0 where
  pub shape : slice_get (stream_shapes s) i.0 ≡ Some (giver_shape (giver_at i s))
  pub kind : IsHosts s (owner_at i s)
  pub halved : Halved s
  pub ended : Ended s

pub hosts-source : (i j : StreamId) (s : Slots) → Hosts i j s → Source i s
hosts-source i j s h = record { shape = h.source; kind = h.source_kind; halved = h.halved; ended = h.ended }

-- from their records, and back

shape-there : (xs : List Stream) (n : ℕ) → slice_get (map stream_shape xs) n ≡ map_shape (slice_get xs n)
shape-there [] n = refl
shape-there (x ∷ xs) zero = refl
shape-there (x ∷ xs) (suc n) = shape-there xs n

shape-owned : (s : Slots) (o : Owner) → IsHosts s o → ReadableOf o ≡ giver_shape (giver_by false o)
shape-owned s Host h = refl
shape-owned s (HalfOf t) h = refl
shape-owned s (BranchOf t half) h = absurd h
shape-owned s (EndOf c) h = refl

source_shape : (s : Slots) (o : Option Stream) → is_readable_stream o || is_byte_stream o ≡ true → IsHosts s (owner_of o) → map_shape o ≡ Some (giver_shape (giver_by (is_byte_stream o) (owner_of o)))
source_shape s None e h = cc
source_shape s (Some (ReadableStream r)) e h = ap (λ (x : StreamShape). Some x) (shape-owned s r.owner h)
source_shape s (Some (ByteStream b)) e h = refl
source_shape s (Some (WritableStream w)) e h = cc

pub source-shape : (i : StreamId) (s : Slots) → has_source i s ≡ true → IsHosts s (owner_at i s) → slice_get (stream_shapes s) i.0 ≡ Some (giver_shape (giver_at i s))
source-shape i s e h = shape-there s.streams i.0 ∙ source_shape s (slice_get s.streams i.0) e h

-- one that is there has a shape
shape_here : (o : Option Stream) → is_readable_stream o || is_byte_stream o ≡ true → (y : StreamShape) × (map_shape o ≡ Some y)
shape_here None e = cc
shape_here (Some x) e = (stream_shape x, refl)

pub shape-here : (i : StreamId) (s : Slots) → has_source i s ≡ true → (y : StreamShape) × (slice_get (stream_shapes s) i.0 ≡ Some y)
shape-here i s e = let h = shape_here (slice_get s.streams i.0) e in (h.0, shape-there s.streams i.0 ∙ h.1)

pub readable-shape : (i : StreamId) (s : Slots) → has_readable i s ≡ true → slice_get (stream_shapes s) i.0 ≡ Some (ReadableOf (owner_at i s))
readable-shape i s e =
    let there = readable_there (slice_get s.streams i.0) e in
    map-there stream_shape s.streams i.0 (ReadableStream (readable_at i s)) there ∙ ap (λ (w : Owner). Some (ReadableOf w)) (sym (ap owner_of there))

pub sink-shape : (j : StreamId) (s z : Slots) → slice_get z.streams j.0 ≡ Some (WritableStream (writable_at j s)) → slice_get (stream_shapes z) j.0 ≡ Some (WritableOf (owner_at j z))
sink-shape j s z e = map-there stream_shape z.streams j.0 (WritableStream (writable_at j s)) e ∙ ap (λ (w : Owner). Some (WritableOf w)) (sym (ap owner_of e))

pub source-owner : (i : StreamId) (s : Slots) → has_readable i s ≡ true → owner_at i s ≡ (readable_at i s).owner
source-owner i s there = ap owner_of (readable_there (slice_get s.streams i.0) there)

pub sink-owner : (j : StreamId) (s : Slots) → has_writable j s ≡ true → owner_at j s ≡ (writable_at j s).owner
sink-owner j s there = ap owner_of (writable_there (slice_get s.streams j.0) there)

pub reached-halved : (s : Slots) → IsReached s → Halved s
reached-halved s (xs, e) = rw e (run-halved xs empty halved-empty)

pub reached-ended : (s : Slots) → IsReached s → Ended s
reached-ended s (xs, e) = rw e (run-ended xs)

pub reached-hosts : (i j : StreamId) (s : Slots) → IsReached s → has_source i s ≡ true → has_writable j s ≡ true → IsHosts s (owner_at i s) → IsHosts s (owner_at j s) → all_untied i s.tees ≡ true → Hosts i j s
reached-hosts i j s r a b o p u = record {
  source = source-shape i s a o;
  sink = sink-shape j s s (writable_there (slice_get s.streams j.0) b);
  source_kind = o;
  sink_kind = p;
  halved = reached-halved s r;
  ended = reached-ended s r;
  untied = u;
}

-- a stream is of the kind that its shape says

write_by : (o : Option Stream) (w : Owner) → map_shape o ≡ Some (WritableOf w) → is_writable_stream o ≡ true
write_by None w e = cc
write_by (Some (ReadableStream r)) w e = cc
write_by (Some (ByteStream b)) w e = cc
write_by (Some (WritableStream r)) w e = refl

pub sink-there : (i j : StreamId) (s : Slots) → Hosts i j s → has_writable j s ≡ true
sink-there i j s h = write_by (slice_get s.streams j.0) (owner_at j s) (sym (shape-there s.streams j.0) ∙ h.sink)

pub reached-source : (i : StreamId) (s : Slots) → IsReached s → has_source i s ≡ true → IsHosts s (owner_at i s) → Source i s
reached-source i s r a o = record { shape = source-shape i s a o; kind = o; halved = reached-halved s r; ended = reached-ended s r }

-- each effect leaves them so

pub source-same : (i : StreamId) (s z : Slots) → stream_shapes z ≡ stream_shapes s → transform_shapes z ≡ transform_shapes s → tee_shapes z ≡ tee_shapes s → port_shapes z ≡ port_shapes s → Source i s → Source i z
source-same i s z e f t p h =
    let a = owner-same i s z e in
    let g = giver-same i s z e in
    record { shape = rw (e, g) h.shape; kind = rw a (hosts-shaped s z (owner_at i s) (same-shapes s z (owner_at i s) f) h.kind); halved = rw (e, f, t) h.halved; ended = rw (e, p) h.ended }

pub source-row : (i : StreamId) (e : Effect) (s : Slots) → Source i s → Source i (row e s).slots
source-row i e s h = source-same i s (row e s).slots (row-stream_shapes e s) (row-transform_shapes e s) (row-tee_shapes e s) (row-port_shapes e s) h

pub hosts-same : (i j : StreamId) (s z : Slots) → stream_shapes z ≡ stream_shapes s → transform_shapes z ≡ transform_shapes s → tee_shapes z ≡ tee_shapes s → port_shapes z ≡ port_shapes s → Hosts i j s → Hosts i j z
hosts-same i j s z e f t p h =
    let a = owner-same i s z e in
    let b = owner-same j s z e in
    let g = giver-same i s z e in
    record {
      source = rw (e, g) h.source;
      sink = rw (e, b) h.sink;
      source_kind = rw a (hosts-shaped s z (owner_at i s) (same-shapes s z (owner_at i s) f) h.source_kind);
      sink_kind = rw b (hosts-shaped s z (owner_at j s) (same-shapes s z (owner_at j s) f) h.sink_kind);
      halved = rw (e, f, t) h.halved;
      ended = rw (e, p) h.ended;
      untied = untied-same i s z t ∙ h.untied;
    }

pub hosts-row : (i j : StreamId) (e : Effect) (s : Slots) → Hosts i j s → Hosts i j (row e s).slots
hosts-row i j e s h = hosts-same i j s (row e s).slots (row-stream_shapes e s) (row-transform_shapes e s) (row-tee_shapes e s) (row-port_shapes e s) h

-- and what is made beside them

pub hosts-grown : (i j : StreamId) (s z : Slots) → has_source i z ≡ true → slice_get z.streams j.0 ≡ Some (WritableStream (writable_at j s)) → owner_at i z ≡ owner_at i s → owner_at j z ≡ owner_at j s
    → Among (transform_shapes s) (transform_shapes z) → all_untied i z.tees ≡ true → Halved z → Ended z → Hosts i j s → Hosts i j z
hosts-grown i j s z e f a b m u halved ended h = record {
  source = source-shape i z e (rw a (hosts-shaped s z (owner_at i s) (grown-shape s z (owner_at i s) m h.source_kind) h.source_kind));
  sink = sink-shape j s z f;
  source_kind = rw a (hosts-shaped s z (owner_at i s) (grown-shape s z (owner_at i s) m h.source_kind) h.source_kind);
  sink_kind = rw b (hosts-shaped s z (owner_at j s) (grown-shape s z (owner_at j s) m h.sink_kind) h.sink_kind);
  halved = halved;
  ended = ended;
  untied = u;
}

-- streams of other shapes aren't the same

pub unlike : (i k : StreamId) (a b : StreamShape) (xs : List StreamShape) → slice_get xs i.0 ≡ Some a → slice_get xs k.0 ≡ Some b → (a ≡ b → ⊥) → is_same i k ≡ false
unlike i k a b xs e f n = by (is_same i k) refl
  where
    by : (same : Bool) → same ≡ is_same i k → is_same i k ≡ false
    by false g = sym g
    by true g =
        let is : i ≡ k = same_id i k (sym g) in
        let at : slice_get xs k.0 ≡ Some a = subst (λ (x : StreamId). slice_get xs x.0 ≡ Some a) is e in
        let same : a ≡ b = cc in
        absurd (n same)

-- a transform stream has one readable half
pub one-readable : (i k : StreamId) (t : TransformId) (s : Slots) → Halved s → has_readable i s ≡ true → has_readable k s ≡ true → owner_at i s ≡ HalfOf t → owner_at k s ≡ HalfOf t → i ≡ k
one-readable i k t s halved a b o p =
    let x = halved.readable i t (readable-shape i s a ∙ ap (λ (w : Owner). Some (ReadableOf w)) o) in
    let y = halved.readable k t (readable-shape k s b ∙ ap (λ (w : Owner). Some (ReadableOf w)) p) in
    let e = x.1.0 in
    let f = y.1.0 in
    let same : x.0 ≡ y.0 = cc in
    sym x.1.1 ∙ (ap (λ (z : TransformShape). z.readable) same ∙ y.1.1)
