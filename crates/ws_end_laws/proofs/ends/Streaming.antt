-- What each operation of a writable stream keeps, each effect does, and each call.
use Rattle.std.proofs.Common.{◌≡◌, ◌⊎◌, inl, inr, ⊎_elim, ℕ, zero, suc, Bool, true, false, List, [], ◌∷◌, ◌++◌, Option, None, slice_get, refl, sym, subst}
use Rattle.ws_value.specs.declared.ids.StreamId.{StreamId}
use Rattle.ws_steps.specs.declared.calls.Call.{Call}
use Rattle.ws_steps.specs.declared.effects.{Effect.{Effect}, Effect.TheVariants.{Readable as OnReadable, Writable as OnWritable}}
use Rattle.ws_steps.specs.declared.writable.{WritableOperation.{WritableOperation}, WritableOperation.TheVariants.{Write, StartSettled, WriteSettled, CloseSettled, AbortSettled}}
use Rattle.ws_steps.specs.declared.readable.ReadableOperation.{ReadableOperation}
use Rattle.ws_steps.specs.Calls.{begin}
use Rattle.ws_steps.specs.Histories.{is_same}
use Rattle.ws_steps.specs.Operations.{writable_operation}
use Rattle.ws_steps.specs.Slots.{Slots, Stream, nothing, no_writable, as_writable, writable_at, has_writable, on_writable}
use Rattle.ws_steps.specs.Turns.{row}
use Rattle.ws_steps.specs.Writable as writable
use Rattle.ws_steps.specs.WritableHistory.{Writes}
use Rattle.ws_laws.proofs.Begin.{begin-makes}
use Rattle.ws_laws.proofs.Apart.{row-streams}
use Rattle.ws_laws.proofs.Tables.{same_id, writable_acts, on_writable-same, on_writable-other}
use Rattle.ws_writable_laws.proofs.Agenda.{Kept}
use Rattle.ws_writable_laws.proofs.Expects.{write-expects, start-expects, write_settled-expects, close_settled-expects, abort_settled-expects}
use Rattle.ws_end_laws.proofs.wrote.Keeping.{Expected}
use Rattle.ws_steps.specs.declared.effects.Effect.TheVariants.{Byte}
use Rattle.ws_steps.specs.declared.byte.ByteOperation.{ByteOperation}
use Rattle.ws_steps.specs.Operations.{byte_operation}
use Rattle.ws_laws.proofs.Tables.{on_source-writable, on_byte-writable}

-- what is known tells what an operation may expect of its stream
pub expected : (i : StreamId) (h : Writes) (es : List Effect) (s : Slots) (operation : WritableOperation) → Kept i h s (OnWritable i operation ∷ es) → Expected operation (writable_at i s)
expected i h es s (Write v p) k = write-expects i h es s v p k
expected i h es s (StartSettled o) k = start-expects i h es s o k
expected i h es s (WriteSettled o) k = write_settled-expects i h es s o k
expected i h es s (CloseSettled o) k = close_settled-expects i h es s o k
expected i h es s (AbortSettled p o) k = abort_settled-expects i h es s p o k
expected i h es s _ k = tt

module _ (i : StreamId) (W : writable.Slots → Type 0) (C : WritableOperation → Type 0)
    (keeps : (operation : WritableOperation) (a : writable.Acts) → C operation → Expected operation a.slots → W a.slots → W (writable_operation i operation a).slots) where
  abbrev Row : Slots → Effect → Type 0
  Row s e = (h : Writes) (es : List Effect) → Kept i h s (e ∷ es) → ((operation : WritableOperation) → e ≡ OnWritable i operation → C operation) → W (writable_at i s) → W (writable_at i (row e s).slots)

  readable_row : (j : StreamId) (operation : ReadableOperation) (s : Slots) → Row s (OnReadable j operation)
  unfolding row
  readable_row j operation s h es k c w = subst W (sym (on_source-writable operation j s i)) w

  byte_row : (j : StreamId) (operation : ByteOperation) (s : Slots) → Row s (Byte j operation)
  unfolding row
  byte_row j operation s h es k c w = subst W (sym (on_byte-writable (byte_operation j operation) j s i)) w

  there_row : (operation : WritableOperation) (s : Slots) (there : Bool) → has_writable i s ≡ there → Expected operation (writable_at i s) → C operation → W (writable_at i s) → W (writable_at i (on_writable (writable_operation i operation) i s).slots)
  there_row operation s true e x c w = subst (λ (o : Option Stream). W (as_writable o)) (sym (on_writable-same (writable_operation i operation) i s e)) (keeps operation (writable_acts i s) c x w)
  there_row operation s false e x c w =
      let same : on_writable (writable_operation i operation) i s ≡ nothing s = rw e refl in subst (λ (d : _). W (writable_at i d.slots)) (sym same) w

  own_row : (operation : WritableOperation) (s : Slots) → Row s (OnWritable i operation)
  unfolding row
  own_row operation s h es k c w = there_row operation s (has_writable i s) refl (expected i h es s operation k) (c operation refl) w

  other_row : (j : StreamId) (operation : WritableOperation) (s : Slots) → is_same i j ≡ false → Row s (OnWritable j operation)
  unfolding row
  other_row j operation s n h es k c w = subst (λ (o : Option Stream). W (as_writable o)) (sym (on_writable-other (writable_operation j operation) j s i n)) w

  writable_row : (j : StreamId) (operation : WritableOperation) (s : Slots) (same : Bool) → is_same i j ≡ same → Row s (OnWritable j operation)
  writable_row j operation s false n = other_row j operation s n
  writable_row j operation s true n = subst (λ (l : StreamId). Row s (OnWritable l operation)) (same_id i j n) (own_row operation s)

  -- each effect keeps it
  pub row-keeps : (s : Slots) (e : Effect) → Row s e
  row-keeps s (OnReadable j operation) h es k c w = readable_row j operation s h es k c w
  row-keeps s (Byte j operation) h es k c w = byte_row j operation s h es k c w
  row-keeps s (OnWritable j operation) h es k c w = writable_row j operation s (is_same i j) refl h es k c w
  row-keeps s e h es k c w = subst (λ (xs : List Stream). W (as_writable (slice_get xs i.0))) (sym (row-streams e s tt)) w

-- a place in the table of streams, where one is added

added_place : (xs : List Stream) (y : Stream) (n : ℕ) → (slice_get (xs ++ y ∷ []) n ≡ slice_get xs n) ⊎ (slice_get xs n ≡ None)
added_place [] y n = inr refl
added_place (x ∷ xs) y zero = inl refl
added_place (x ∷ xs) y (suc n) = added_place xs y n

-- each call keeps what isn't so of a stream that isn't there
module _ (i : StreamId) (W : writable.Slots → Type 0) (none : W no_writable → ⊥) where
  added : (xs : List Stream) (y : Stream) → W (as_writable (slice_get xs i.0)) → W (as_writable (slice_get (xs ++ y ∷ []) i.0))
  added xs y w =
      ⊎_elim (λ (e : slice_get (xs ++ y ∷ []) i.0 ≡ slice_get xs i.0). subst (λ (o : Option Stream). W (as_writable o)) (sym e) w)
      (λ (e : slice_get xs i.0 ≡ None). absurd (none (subst (λ (o : Option Stream). W (as_writable o)) e w))) (added_place xs y i.0)

  pub call-keeps : (s : Slots) (c : Call) → W (writable_at i s) → W (writable_at i (begin c s).done.slots)
  call-keeps s c w = begin-makes (λ z. W (writable_at i z)) (record {
    promise = λ z k. k;
    locks = λ z ls k. k;
    hosts = λ z hs k. k;
    pipe = λ z source dest prevent signal promise k. k;
    signal = λ z k. k;
    transform = λ z kind i j change k. k;
    tee = λ z source first second cancel k. k;
    port = λ z side stream backpressure k. k;
    bytes = λ z mark auto k. added z.streams _ k;
    byob_requests = λ z hs k. k;
    readable = λ z owner mark size k. added z.streams _ k;
    writable = λ z owner mark size k. added z.streams _ k;
  }) c s w
