-- The streams of a realm, by number, after an operation on one of them.
use Rattle.std.proofs.Common.{◌≡◌, ◌≢◌, ℕ, zero, suc, Bool, true, false, List, [], ◌∷◌, ◌++◌, length, Option, Some, None, if◌then◌else◌, nat_eq, refl, sym, ap, ◌∙◌, arith, slice_get, slice_set}
use Rattle.ws_value.specs.declared.ids.StreamId.{StreamId}
use Rattle.ws_steps.specs.declared.readable.ReadableOperation.{ReadableOperation}
use Rattle.ws_steps.specs.Bytes as byte
use Rattle.ws_steps.specs.Readable as readable
use Rattle.ws_steps.specs.Writable as writable
use Rattle.ws_steps.specs.Slots.{Slots, Stream, ReadableStream, ByteStream, WritableStream, Done, found, on_readable, on_byte, on_writable, has_readable, has_byte, has_writable, readable_at, byte_at, writable_at, is_readable_stream, is_byte_stream, is_writable_stream, as_readable, as_byte, as_source, as_writable, no_readable, no_byte, no_writable, source_at}
use Rattle.ws_steps.specs.Operations.{readable_operation, byte_readable_operation}
use Rattle.ws_steps.specs.Turns.{on_source}
use Rattle.ws_steps.specs.Histories.{is_same}

-- whichever branch is taken
pub either : {A : Type 0} (P : A → Type 0) (c : Bool) (x y : A) → (c ≡ true → P x) → (c ≡ false → P y) → P (if c then x else y)
either P true x y f g = f refl
either P false x y f g = g refl

-- numbers of streams

pub eq_numbers : (m n : ℕ) → nat_eq m n ≡ true → m ≡ n
eq_numbers m n e = grind arith

pub unequal_numbers : (m n : ℕ) → nat_eq m n ≡ false → m ≢ n
unequal_numbers m n e = grind arith

pub is_same-refl : (i : StreamId) → is_same i i ≡ true
is_same-refl i = grind arith

pub same_id : (i j : StreamId) → is_same i j ≡ true → i ≡ j
same_id i j e = ap (λ (n : ℕ). record { 0 = n }) (eq_numbers i.0 j.0 e)

-- places of a table

place_same : (xs : List Stream) (i : ℕ) (x y : Stream) → slice_get xs i ≡ Some x → slice_get (slice_set xs i y) i ≡ Some y
place_same [] i x y e = cc
place_same (z ∷ xs) zero x y e = refl
place_same (z ∷ xs) (suc i) x y e = place_same xs i x y e

place_other : (xs : List Stream) (i j : ℕ) (y : Stream) → i ≢ j → slice_get (slice_set xs j y) i ≡ slice_get xs i
place_other [] i j y n = refl
place_other (z ∷ xs) zero zero y n = absurd (n refl)
place_other (z ∷ xs) zero (suc j) y n = refl
place_other (z ∷ xs) (suc i) zero y n = refl
place_other (z ∷ xs) (suc i) (suc j) y n = place_other xs i j y (λ e. n (ap suc e))

place_none : (xs : List Stream) (i j : ℕ) (y : Stream) → slice_get (slice_set xs j y) i ≡ None → slice_get xs i ≡ None
place_none [] i j y e = refl
place_none (z ∷ xs) zero zero y e = cc
place_none (z ∷ xs) zero (suc j) y e = e
place_none (z ∷ xs) (suc i) zero y e = e
place_none (z ∷ xs) (suc i) (suc j) y e = place_none xs i j y e

pub place_last : (xs : List Stream) (y : Stream) → slice_get (xs ++ y ∷ []) (length xs) ≡ Some y
place_last [] y = refl
place_last (x ∷ xs) y = place_last xs y

pub place_before : (xs : List Stream) (y : Stream) (i : ℕ) → i ≢ length xs → slice_get (xs ++ y ∷ []) i ≡ slice_get xs i
place_before [] y zero n = absurd (n refl)
place_before [] y (suc i) n = refl
place_before (x ∷ xs) y zero n = refl
place_before (x ∷ xs) y (suc i) n = place_before xs y i (λ e. n (ap suc e))

pub place_past : (xs : List Stream) → slice_get xs (length xs) ≡ None
place_past [] = refl
place_past (x ∷ xs) = place_past xs

-- nothing is there yet
pub no_stream : (i : StreamId) (streams : List Stream) → i.0 ≡ length streams → slice_get streams i.0 ≡ None
no_stream i streams e = rw e (place_past streams)

-- what is there

pub readable_there : (o : Option Stream) → is_readable_stream o ≡ true → o ≡ Some (ReadableStream (as_readable o))
readable_there o e = grind arith

pub no_readable_there : (o : Option Stream) → is_readable_stream o ≡ false → as_readable o ≡ no_readable
no_readable_there o e = grind arith

pub byte_there : (o : Option Stream) → is_byte_stream o ≡ true → o ≡ Some (ByteStream (as_byte o))
byte_there o e = grind arith

pub no_byte_there : (o : Option Stream) → is_byte_stream o ≡ false → as_byte o ≡ no_byte
no_byte_there o e = grind arith

pub writable_there : (o : Option Stream) → is_writable_stream o ≡ true → o ≡ Some (WritableStream (as_writable o))
writable_there o e = grind arith

pub no_writable_there : (o : Option Stream) → is_writable_stream o ≡ false → as_writable o ≡ no_writable
no_writable_there o e = grind arith

-- an operation on stream j

-- what an operation of a readable stream finds
abbrev pub readable_acts : StreamId → Slots → readable.Acts
readable_acts j s = record { slots = readable_at j s; out = found s }

-- and one of a byte stream
abbrev pub byte_acts : StreamId → Slots → byte.Acts
byte_acts j s = record { slots = byte_at j s; out = found s }

abbrev pub writable_acts : StreamId → Slots → writable.Acts
writable_acts j s = record { slots = writable_at j s; out = found s }

pub on_readable-same : (operation : readable.Acts → readable.Acts) (j : StreamId) (s : Slots) → has_readable j s ≡ true
    → slice_get (on_readable operation j s).slots.streams j.0 ≡ Some (ReadableStream (operation (readable_acts j s)).slots)
on_readable-same operation j s h =
    rw h (place_same s.streams j.0 (ReadableStream (readable_at j s)) (ReadableStream (operation (readable_acts j s)).slots) (readable_there (slice_get s.streams j.0) h))

pub on_byte-same : (operation : byte.Acts → byte.Acts) (j : StreamId) (s : Slots) → has_byte j s ≡ true
    → slice_get (on_byte operation j s).slots.streams j.0 ≡ Some (ByteStream (operation (byte_acts j s)).slots)
on_byte-same operation j s h =
    rw h (place_same s.streams j.0 (ByteStream (byte_at j s)) (ByteStream (operation (byte_acts j s)).slots) (byte_there (slice_get s.streams j.0) h))

pub on_writable-same : (operation : writable.Acts → writable.Acts) (j : StreamId) (s : Slots) → has_writable j s ≡ true
    → slice_get (on_writable operation j s).slots.streams j.0 ≡ Some (WritableStream (operation (writable_acts j s)).slots)
on_writable-same operation j s h =
    rw h (place_same s.streams j.0 (WritableStream (writable_at j s)) (WritableStream (operation (writable_acts j s)).slots) (writable_there (slice_get s.streams j.0) h))

pub on_readable-other : (operation : readable.Acts → readable.Acts) (j : StreamId) (s : Slots) (i : StreamId) → is_same i j ≡ false
    → slice_get (on_readable operation j s).slots.streams i.0 ≡ slice_get s.streams i.0
on_readable-other operation j s i n =
    either (λ (d : Done). slice_get d.slots.streams i.0 ≡ slice_get s.streams i.0) (has_readable j s) _ _
    (λ h. place_other s.streams i.0 j.0 _ (unequal_numbers i.0 j.0 n)) (λ h. refl)

pub on_byte-other : (operation : byte.Acts → byte.Acts) (j : StreamId) (s : Slots) (i : StreamId) → is_same i j ≡ false
    → slice_get (on_byte operation j s).slots.streams i.0 ≡ slice_get s.streams i.0
on_byte-other operation j s i n =
    either (λ (d : Done). slice_get d.slots.streams i.0 ≡ slice_get s.streams i.0) (has_byte j s) _ _
    (λ h. place_other s.streams i.0 j.0 _ (unequal_numbers i.0 j.0 n)) (λ h. refl)

pub on_writable-other : (operation : writable.Acts → writable.Acts) (j : StreamId) (s : Slots) (i : StreamId) → is_same i j ≡ false
    → slice_get (on_writable operation j s).slots.streams i.0 ≡ slice_get s.streams i.0
on_writable-other operation j s i n =
    either (λ (d : Done). slice_get d.slots.streams i.0 ≡ slice_get s.streams i.0) (has_writable j s) _ _
    (λ h. place_other s.streams i.0 j.0 _ (unequal_numbers i.0 j.0 n)) (λ h. refl)

pub on_readable-none : (operation : readable.Acts → readable.Acts) (j : StreamId) (s : Slots) (i : StreamId)
    → slice_get (on_readable operation j s).slots.streams i.0 ≡ None → slice_get s.streams i.0 ≡ None
on_readable-none operation j s i =
    either (λ (d : Done). slice_get d.slots.streams i.0 ≡ None → slice_get s.streams i.0 ≡ None) (has_readable j s) _ _
    (λ h. place_none s.streams i.0 j.0 _) (λ h e. e)

pub on_byte-none : (operation : byte.Acts → byte.Acts) (j : StreamId) (s : Slots) (i : StreamId)
    → slice_get (on_byte operation j s).slots.streams i.0 ≡ None → slice_get s.streams i.0 ≡ None
on_byte-none operation j s i =
    either (λ (d : Done). slice_get d.slots.streams i.0 ≡ None → slice_get s.streams i.0 ≡ None) (has_byte j s) _ _
    (λ h. place_none s.streams i.0 j.0 _) (λ h e. e)

pub on_writable-none : (operation : writable.Acts → writable.Acts) (j : StreamId) (s : Slots) (i : StreamId)
    → slice_get (on_writable operation j s).slots.streams i.0 ≡ None → slice_get s.streams i.0 ≡ None
on_writable-none operation j s i =
    either (λ (d : Done). slice_get d.slots.streams i.0 ≡ None → slice_get s.streams i.0 ≡ None) (has_writable j s) _ _
    (λ h. place_none s.streams i.0 j.0 _) (λ h e. e)

-- an operation on a writable stream leaves each readable stream, and the other way round

pub on_writable-readable : (operation : writable.Acts → writable.Acts) (j : StreamId) (s : Slots) (i : StreamId) (same : Bool) → same ≡ is_same i j
    → readable_at i (on_writable operation j s).slots ≡ readable_at i s
on_writable-readable operation j s i false n = ap as_readable (on_writable-other operation j s i (sym n))
on_writable-readable operation j s i true e =
    let is : i ≡ j = same_id i j (sym e) in
    rw is (either (λ (d : Done). readable_at j d.slots ≡ readable_at j s) (has_writable j s) _ _
    (λ h. ap as_readable (place_same s.streams j.0 (WritableStream (writable_at j s)) _ (writable_there (slice_get s.streams j.0) h)) ∙ sym (ap as_readable (writable_there (slice_get s.streams j.0) h)))
    (λ h. refl))

pub on_writable-there : (operation : writable.Acts → writable.Acts) (j : StreamId) (s : Slots) (i : StreamId) (same : Bool) → same ≡ is_same i j
    → has_readable i (on_writable operation j s).slots ≡ has_readable i s
on_writable-there operation j s i false n = ap is_readable_stream (on_writable-other operation j s i (sym n))
on_writable-there operation j s i true e =
    let is : i ≡ j = same_id i j (sym e) in
    rw is (either (λ (d : Done). has_readable j d.slots ≡ has_readable j s) (has_writable j s) _ _
    (λ h. ap is_readable_stream (place_same s.streams j.0 (WritableStream (writable_at j s)) _ (writable_there (slice_get s.streams j.0) h)) ∙ sym (ap is_readable_stream (writable_there (slice_get s.streams j.0) h)))
    (λ h. refl))

pub on_readable-writable : (operation : readable.Acts → readable.Acts) (j : StreamId) (s : Slots) (i : StreamId) (same : Bool) → same ≡ is_same i j
    → writable_at i (on_readable operation j s).slots ≡ writable_at i s
on_readable-writable operation j s i false n = ap as_writable (on_readable-other operation j s i (sym n))
on_readable-writable operation j s i true e =
    let is : i ≡ j = same_id i j (sym e) in
    rw is (either (λ (d : Done). writable_at j d.slots ≡ writable_at j s) (has_readable j s) _ _
    (λ h. ap as_writable (place_same s.streams j.0 (ReadableStream (readable_at j s)) _ (readable_there (slice_get s.streams j.0) h)) ∙ sym (ap as_writable (readable_there (slice_get s.streams j.0) h)))
    (λ h. refl))

-- an operation on a byte stream leaves each other stream

module _ {X : Type 0} (look : Option Stream → X) (blind : (b c : byte.Slots) → look (Some (ByteStream b)) ≡ look (Some (ByteStream c))) where
  pub on_byte-look : (operation : byte.Acts → byte.Acts) (j : StreamId) (s : Slots) (i : StreamId) (same : Bool) → same ≡ is_same i j
      → look (slice_get (on_byte operation j s).slots.streams i.0) ≡ look (slice_get s.streams i.0)
  on_byte-look operation j s i false n = ap look (on_byte-other operation j s i (sym n))
  on_byte-look operation j s i true e =
      let is : i ≡ j = same_id i j (sym e) in
      rw is (either (λ (d : Done). look (slice_get d.slots.streams j.0) ≡ look (slice_get s.streams j.0)) (has_byte j s) _ _
      (λ h. ap look (place_same s.streams j.0 (ByteStream (byte_at j s)) _ (byte_there (slice_get s.streams j.0) h)) ∙ (blind _ _ ∙ sym (ap look (byte_there (slice_get s.streams j.0) h))))
      (λ h. refl))

module _ {X : Type 0} (look : Option Stream → X) (blind : (b c : writable.Slots) → look (Some (WritableStream b)) ≡ look (Some (WritableStream c))) where
  pub on_writable-look : (operation : writable.Acts → writable.Acts) (j : StreamId) (s : Slots) (i : StreamId) (same : Bool) → same ≡ is_same i j
      → look (slice_get (on_writable operation j s).slots.streams i.0) ≡ look (slice_get s.streams i.0)
  on_writable-look operation j s i false n = ap look (on_writable-other operation j s i (sym n))
  on_writable-look operation j s i true e =
      let is : i ≡ j = same_id i j (sym e) in
      rw is (either (λ (d : Done). look (slice_get d.slots.streams j.0) ≡ look (slice_get s.streams j.0)) (has_writable j s) _ _
      (λ h. ap look (place_same s.streams j.0 (WritableStream (writable_at j s)) _ (writable_there (slice_get s.streams j.0) h)) ∙ (blind _ _ ∙ sym (ap look (writable_there (slice_get s.streams j.0) h))))
      (λ h. refl))

pub on_writable-byte : (operation : writable.Acts → writable.Acts) (j : StreamId) (s : Slots) (i : StreamId) → has_byte i (on_writable operation j s).slots ≡ has_byte i s
on_writable-byte operation j s i = on_writable-look is_byte_stream (λ b c. refl) operation j s i (is_same i j) refl

pub on_writable-source : (operation : writable.Acts → writable.Acts) (j : StreamId) (s : Slots) (i : StreamId) → source_at i (on_writable operation j s).slots ≡ source_at i s
on_writable-source operation j s i = on_writable-look as_source (λ b c. refl) operation j s i (is_same i j) refl

-- an operation that either kind of controller has

pub on_source-byte : (operation : ReadableOperation) (j : StreamId) (s : Slots) → has_byte j s ≡ true → on_source operation j s ≡ on_byte (byte_readable_operation j operation) j s
on_source-byte operation j s h = rw h refl

pub on_source-readable : (operation : ReadableOperation) (j : StreamId) (s : Slots) → has_byte j s ≡ false → on_source operation j s ≡ on_readable (readable_operation j operation) j s
on_source-readable operation j s h = rw h refl

pub on_source-other : (operation : ReadableOperation) (j : StreamId) (s : Slots) (i : StreamId) → is_same i j ≡ false
    → slice_get (on_source operation j s).slots.streams i.0 ≡ slice_get s.streams i.0
on_source-other operation j s i n =
    either (λ (d : Done). slice_get d.slots.streams i.0 ≡ slice_get s.streams i.0) (has_byte j s) _ _
    (λ h. on_byte-other (byte_readable_operation j operation) j s i n) (λ h. on_readable-other (readable_operation j operation) j s i n)

pub on_source-none : (operation : ReadableOperation) (j : StreamId) (s : Slots) (i : StreamId)
    → slice_get (on_source operation j s).slots.streams i.0 ≡ None → slice_get s.streams i.0 ≡ None
on_source-none operation j s i =
    either (λ (d : Done). slice_get d.slots.streams i.0 ≡ None → slice_get s.streams i.0 ≡ None) (has_byte j s) _ _
    (λ h. on_byte-none (byte_readable_operation j operation) j s i) (λ h. on_readable-none (readable_operation j operation) j s i)

pub on_source-writable : (operation : ReadableOperation) (j : StreamId) (s : Slots) (i : StreamId) → writable_at i (on_source operation j s).slots ≡ writable_at i s
on_source-writable operation j s i =
    either (λ (d : Done). writable_at i d.slots ≡ writable_at i s) (has_byte j s) _ _
    (λ h. on_byte-look as_writable (λ b c. refl) (byte_readable_operation j operation) j s i (is_same i j) refl)
    (λ h. on_readable-writable (readable_operation j operation) j s i (is_same i j) refl)

pub on_byte-readable : (operation : byte.Acts → byte.Acts) (j : StreamId) (s : Slots) (i : StreamId) → readable_at i (on_byte operation j s).slots ≡ readable_at i s
on_byte-readable operation j s i = on_byte-look as_readable (λ b c. refl) operation j s i (is_same i j) refl

pub on_byte-there : (operation : byte.Acts → byte.Acts) (j : StreamId) (s : Slots) (i : StreamId) → has_readable i (on_byte operation j s).slots ≡ has_readable i s
on_byte-there operation j s i = on_byte-look is_readable_stream (λ b c. refl) operation j s i (is_same i j) refl

pub on_byte-writable : (operation : byte.Acts → byte.Acts) (j : StreamId) (s : Slots) (i : StreamId) → writable_at i (on_byte operation j s).slots ≡ writable_at i s
on_byte-writable operation j s i = on_byte-look as_writable (λ b c. refl) operation j s i (is_same i j) refl
