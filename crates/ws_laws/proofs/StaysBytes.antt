-- A stream with a byte controller stays one, over every run.
use Rattle.std.proofs.Common.{◌≡◌, ℕ, zero, suc, Bool, true, false, List, [], ◌∷◌, ◌++◌, map, Option, Some, None, slice_get, refl, sym, ap, ◌∙◌}
use Rattle.ws_value.specs.declared.ids.StreamId.{StreamId}
use Rattle.ws_steps.specs.declared.calls.Call.{Call}
use Rattle.ws_steps.specs.declared.effects.Effect.{Effect}
use Rattle.ws_steps.specs.Slots.{Slots, Stream, ReadableStream, ByteStream, WritableStream, is_byte_stream, has_byte}
use Rattle.ws_steps.specs.Turns.{row}
use Rattle.ws_steps.specs.Calls.{begin}
use Rattle.ws_steps.specs.Run.{Entry, run}
use Rattle.ws_laws.proofs.Begin.{begin-makes}
use Rattle.ws_laws.proofs.Shapes.{StreamShape, ReadableOf, BytesOf, WritableOf, stream_shape, row-stream_shapes}
use Rattle.ws_laws.proofs.Walker.{Stays, run-stays}

abbrev shape_bytes : Option StreamShape → Bool
shape_bytes None = false
shape_bytes (Some (ReadableOf o)) = false
shape_bytes (Some BytesOf) = true
shape_bytes (Some (WritableOf o)) = false

pub bytes-told : (xs : List Stream) (n : ℕ) → is_byte_stream (slice_get xs n) ≡ shape_bytes (slice_get (map stream_shape xs) n)
bytes-told [] n = refl
bytes-told (ReadableStream r ∷ xs) zero = refl
bytes-told (ByteStream b ∷ xs) zero = refl
bytes-told (WritableStream w ∷ xs) zero = refl
bytes-told (x ∷ xs) (suc n) = bytes-told xs n

-- an effect leaves the kind of each stream
pub row-byte : (i : StreamId) (e : Effect) (s : Slots) → has_byte i (row e s).slots ≡ has_byte i s
row-byte i e s =
    bytes-told (row e s).slots.streams i.0 ∙ (ap (λ (ys : List StreamShape). shape_bytes (slice_get ys i.0)) (row-stream_shapes e s) ∙ sym (bytes-told s.streams i.0))

there-stays : (xs : List Stream) (y : Stream) (n : ℕ) → is_byte_stream (slice_get xs n) ≡ true → is_byte_stream (slice_get (xs ++ y ∷ []) n) ≡ true
there-stays [] y n is = cc
there-stays (x ∷ xs) y zero is = is
there-stays (x ∷ xs) y (suc n) is = there-stays xs y n is

module _ (i : StreamId) where
  abbrev pub IsByte : Slots → List Effect → Type 0
  IsByte s es = has_byte i s ≡ true

  pub begin-byte : (c : Call) (s : Slots) → has_byte i s ≡ true → has_byte i (begin c s).done.slots ≡ true
  begin-byte c s is = begin-makes (λ z. has_byte i z ≡ true) (record {
    promise = λ z k. k;
    locks = λ z ls k. k;
    hosts = λ z hs k. k;
    pipe = λ z source dest prevent signal p k. k;
    signal = λ z k. k;
    transform = λ z kind w r p k. k;
    tee = λ z source first second p k. k;
    port = λ z side stream p k. k;
    readable = λ z owner mark size k. there-stays z.streams _ i.0 k;
    bytes = λ z mark auto k. there-stays z.streams _ i.0 k;
    byob_requests = λ z r k. k;
    writable = λ z owner mark size k. there-stays z.streams _ i.0 k;
  }) c s is

  pub byte-stays : Stays IsByte
  byte-stays = record {
    row = λ s e es k. row-byte i e s ∙ k;
    call = λ s c k. begin-byte c s k;
    job = λ s job e k. k;
    answered = λ s p k. k;
    older = λ s k. k;
  }

  pub run-byte : (xs : List Entry) (s : Slots) → has_byte i s ≡ true → has_byte i (run xs s) ≡ true
  run-byte xs s is = run-stays IsByte byte-stays (λ z k. k) xs s is

  before : (b : Bool) (xs : List Entry) (s : Slots) → b ≡ has_byte i s → has_byte i (run xs s) ≡ false → has_byte i s ≡ false
  before true xs s e n = let later = run-byte xs s (sym e) in cc
  before false xs s e n = sym e

  -- one that has none never had one
  pub no-byte-before : (xs : List Entry) (s : Slots) → has_byte i (run xs s) ≡ false → has_byte i s ≡ false
  no-byte-before xs s n = before (has_byte i s) xs s refl n
