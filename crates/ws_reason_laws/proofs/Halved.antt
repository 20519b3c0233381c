-- Which streams are halves of transform streams: a stream stays what it is, so that a run's end tells it of each moment before.
use Rattle.std.proofs.Common.{◌≡◌, ℕ, zero, suc, Bool, true, false, List, [], ◌∷◌, ◌++◌, map, Option, Some, None, slice_get, refl, sym, ap, ◌∙◌}
use Rattle.ws_value.specs.declared.ids.StreamId.{StreamId}
use Rattle.ws_steps.specs.declared.calls.Call.{Call}
use Rattle.ws_steps.specs.declared.effects.Effect.{Effect}
use Rattle.ws_steps.specs.declared.calls.Reply.{Reply}
use Rattle.ws_steps.specs.declared.calls.Reply.TheVariants.{Promise}
use Rattle.ws_steps.specs.Calls.{begin, named}
use Rattle.ws_steps.specs.Run.{Entry, Called, step, run}
use Rattle.ws_steps.specs.Slots.{Slots, Stream, Done, owner_at, has_readable, readable_at, has_source, ReadableStream, ByteStream, WritableStream}
use Rattle.ws_steps.specs.Turns.{row, performed}
use Rattle.ws_laws.proofs.Begin.{begin-makes}
use Rattle.ws_laws.proofs.Shapes.{StreamShape, ReadableOf, BytesOf, WritableOf, stream_shape, stream_shapes, owner-told, row-stream_shapes, map-there}
use Rattle.ws_laws.proofs.Tables.{readable_there}
use Rattle.ws_laws.proofs.Walker as walker
use Rattle.ws_laws.proofs.Walker.{Stays, performed-goes, untold}
use Rattle.ws_reason_laws.specs.Origins.{is_half}

abbrev half_shape : StreamShape → Bool
half_shape (ReadableOf o) = is_half o
half_shape BytesOf = false
half_shape (WritableOf o) = is_half o

abbrev half_there : Option StreamShape → Bool
half_there None = false
half_there (Some y) = half_shape y

-- of the streams that are there it tells which are halves
abbrev pub Halved : (ℕ → Bool) → Slots → Type 0
Halved half s = (i : StreamId) (y : StreamShape) → slice_get (stream_shapes s) i.0 ≡ Some y → half i.0 ≡ half_shape y

-- at the end of a run
abbrev pub half_at : Slots → ℕ → Bool
half_at s n = half_there (slice_get (stream_shapes s) n)

pub halved-end : (s : Slots) → Halved (half_at s) s
halved-end s i y e = ap half_there e

module _ (half : ℕ → Bool) (s : Slots) (h : Halved half s) (i : StreamId) where
  pub halved-owner : is_half (owner_at i s) ≡ true → half i.0 ≡ true
  halved-owner e = by (slice_get (stream_shapes s) i.0) refl
    where
      by : (o : Option StreamShape) → slice_get (stream_shapes s) i.0 ≡ o → half i.0 ≡ true
      by None f = let a = owner-told s.streams i.0 in let b : is_half (owner_at i s) ≡ false = rw (a, f) refl in cc
      by (Some (ReadableOf o)) f = let a = owner-told s.streams i.0 in let b : is_half (owner_at i s) ≡ is_half o = rw (a, f) refl in h i (ReadableOf o) f ∙ (sym b ∙ e)
      by (Some BytesOf) f = let a = owner-told s.streams i.0 in let b : is_half (owner_at i s) ≡ false = rw (a, f) refl in cc
      by (Some (WritableOf o)) f = let a = owner-told s.streams i.0 in let b : is_half (owner_at i s) ≡ is_half o = rw (a, f) refl in h i (WritableOf o) f ∙ (sym b ∙ e)

  pub halved-readable : has_readable i s ≡ true → half i.0 ≡ is_half (readable_at i s).owner
  halved-readable there = h i (ReadableOf (readable_at i s).owner) (map-there stream_shape s.streams i.0 _ (readable_there (slice_get s.streams i.0) there))

  pub halved-source : has_source i s ≡ true → half i.0 ≡ is_half (readable_at i s).owner
  halved-source there = by (slice_get s.streams i.0) refl
    where
      by : (o : Option Stream) → slice_get s.streams i.0 ≡ o → half i.0 ≡ is_half (readable_at i s).owner
      by None e = let n : false ≡ true = rw e at there in cc
      by (Some (ReadableStream r)) e = halved-readable (rw e refl)
      by (Some (ByteStream b)) e = h i BytesOf (map-there stream_shape s.streams i.0 (ByteStream b) e) ∙ (rw e refl)
      by (Some (WritableStream w)) e = let n : false ≡ true = rw e at there in cc

pub halved-row : (half : ℕ → Bool) (e : Effect) (s : Slots) → Halved half s → Halved half (row e s).slots
halved-row half e s h i y f = h i y (ap (λ (ys : List StreamShape). slice_get ys i.0) (sym (row-stream_shapes e s)) ∙ f)

-- each stream stays, and stays what it is

abbrev Stands : StreamId → StreamShape → Slots → List Effect → Type 0
Stands i y s es = slice_get (stream_shapes s) i.0 ≡ Some y

more : (xs : List Stream) (n : ℕ) (x : Stream) (y : StreamShape) → slice_get (map stream_shape xs) n ≡ Some y → slice_get (map stream_shape (xs ++ x ∷ [])) n ≡ Some y
more [] n x y e = cc
more (z ∷ zs) zero x y e = e
more (z ∷ zs) (suc n) x y e = more zs n x y e

stands-call : (i : StreamId) (y : StreamShape) (c : Call) (s : Slots) → Stands i y s [] → Stands i y (begin c s).done.slots []
stands-call i y c s h =
    begin-makes (λ z. Stands i y z []) (record {
      promise = λ z h. h;
      locks = λ z ls h. h;
      hosts = λ z hs h. h;
      pipe = λ z source dest prevent signal promise h. h;
      signal = λ z h. h;
      transform = λ z kind w r change h. h;
      tee = λ z source first second cancel h. h;
      port = λ z side stream backpressure h. h;
      bytes = λ z mark auto h. more z.streams i.0 _ y h;
      byob_requests = λ z hs h. h;
      readable = λ z o mark size h. more z.streams i.0 _ y h;
      writable = λ z o mark size h. more z.streams i.0 _ y h;
    }) c s h

stands-stays : (i : StreamId) (y : StreamShape) → Stays (Stands i y)
stands-stays i y = record {
  row = λ s e es h. rw (row-stream_shapes e s) h;
  call = λ s c h. stands-call i y c s h;
  job = λ s job e h. h;
  answered = λ s p h. h;
  older = λ s h. h;
}

pub halved-before : (half : ℕ → Bool) (xs : List Entry) (s : Slots) → Halved half (run xs s) → Halved half s
halved-before half xs s h i y e = h i y (walker.run-stays (Stands i y) (stands-stays i y) (λ z g. g) xs s e)

performed-stands : (i : StreamId) (y : StreamShape) (d : Done) → Stands i y d.slots [] → Stands i y (performed d) []
performed-stands i y d e =
    performed-goes tt (λ f g. tt) untold (λ e s. tt) (λ h s es. Stands i y s []) (λ h s e es k. rw (row-stream_shapes e s) k) tt d e

named-stands : (i : StreamId) (y : StreamShape) (reply : Reply) (s : Slots) → Stands i y s [] → Stands i y (named reply s) []
named-stands i y (Promise p) s e = e
named-stands i y _ s e = e

-- before a step, and as it begins
pub halved-begun : (half : ℕ → Bool) (c : Call) (xs : List Entry) (s : Slots) → Halved half (run (Called c ∷ xs) s) → Halved half (begin c s).done.slots
halved-begun half c xs s h i y e =
    halved-before half xs (step s (Called c)) h i y (named-stands i y (begin c s).reply (performed (begin c s).done) (performed-stands i y (begin c s).done e))
