-- What any source takes in by an effect, whichever its controller is: its end only where it can take nothing afterwards, and nothing where it can take
-- nothing before.
use Rattle.std.proofs.Common.{◌≡◌, ◌⊎◌, inl, inr, Bool, true, false, ◌||◌, if◌then◌else◌, List, [], ◌∷◌, Option, Some, None, slice_get, refl, sym, ap, subst, ◌∙◌, arith}
use Rattle.ws_value.specs.declared.{ids.StreamId.{StreamId}, value.Value.{Value}}
use Rattle.ws_steps.specs.declared.byte.{ByteOperation.{ByteOperation}, ByteOperation.TheVariants.{Enqueue as EnqueueBytes}}
use Rattle.ws_steps.specs.declared.effects.{Effect.{Effect}, Owner.{Owner}, Owner.TheVariants.{Host, HalfOf, BranchOf, EndOf}}
use Rattle.ws_steps.specs.declared.effects.Effect.TheVariants.{Readable as OnReadable, Byte as OnByte, Writable as OnWritable}
use Rattle.ws_steps.specs.declared.readable.{ReadableOperation.{ReadableOperation}, ReadableOperation.TheVariants.{Enqueue, Close}}
use Rattle.ws_steps.specs.Bytes as byte
use Rattle.ws_steps.specs.Bytes.{shown}
use Rattle.ws_steps.specs.Histories.{is_same}
use Rattle.ws_steps.specs.Operations.{readable_operation, byte_readable_operation, byte_operation, writable_operation}
use Rattle.ws_steps.specs.Readable as readable
use Rattle.ws_steps.specs.Readable.{can_close_or_enqueue}
use Rattle.ws_steps.specs.Slots.{Slots, Stream, ReadableStream, ByteStream, WritableStream, Done, has_readable, has_byte, owner_at, readable_at, byte_at, source_at, as_source, is_readable_stream, is_byte_stream, on_readable, on_byte}
use Rattle.ws_steps.specs.Turns.{row, on_source}
use Rattle.ws_flow.specs.Told.{Open, Closed, Told}
use Rattle.ws_laws.proofs.Apart.{row-streams}
use Rattle.ws_laws.proofs.Tables.{either, same_id, is_same-refl, readable_acts, byte_acts, readable_there, byte_there, on_readable-same, on_byte-same, on_byte-other, on_source-other, on_source-byte, on_source-readable, on_writable-source}
use Rattle.ws_transform_laws.proofs.Sources.{source-default}
use Rattle.ws_transform_laws.proofs.Wanting.{operation-shut}
use Rattle.ws_link_laws.specs.Entering.{entered, bytes_entered}
use Rattle.ws_link_laws.specs.Link.{Giver, OfSource, OfByteSource, OfHalf, OfEnd, silence, giver_by, giver_at}
use Rattle.ws_identity_laws.specs.Passing.{taken, effect_takes}
use Rattle.ws_identity_laws.proofs.ByteShut.{controller_close-shuts, shared-shuts, own-shuts}

-- a stream with a default controller lets chunks in
pub default-entered : (o : Owner) (operation : ReadableOperation) → entered (giver_by false o) operation ≡ entered OfSource operation
default-entered Host operation = refl
default-entered (HalfOf t) (Enqueue v) = refl
default-entered (HalfOf t) operation = grind arith
default-entered (BranchOf t half) operation = refl
default-entered (EndOf c) operation = refl

-- and no bytes
pub none-entered : (o : Owner) (operation : ByteOperation) → bytes_entered (giver_by false o) operation ≡ silence
none-entered Host operation = grind arith
none-entered (HalfOf t) operation = grind arith
none-entered (BranchOf t half) operation = grind arith
none-entered (EndOf c) operation = grind arith

-- whether a source can take something
abbrev pub open_at : StreamId → Slots → Bool
open_at i s = can_close_or_enqueue (source_at i s)

-- a source that can is there
pub open-there : (o : Option Stream) → can_close_or_enqueue (as_source o) ≡ true → is_readable_stream o || is_byte_stream o ≡ true
open-there None e = cc
open-there (Some (ReadableStream r)) e = refl
open-there (Some (ByteStream b)) e = refl
open-there (Some (WritableStream w)) e = cc

-- an operation of a stream that stands there

module _ (P : readable.Slots → Type 0) (i : StreamId) (operation : ReadableOperation) (s : Slots) where
  -- what holds of the source afterwards
  pub source-after : ((a : readable.Acts) → a.slots ≡ source_at i s → P (readable_operation i operation a).slots) → ((a : byte.Acts) → shown a.slots ≡ source_at i s → P (shown (byte_readable_operation i operation a).slots)) → P (source_at i s)
      → P (source_at i (on_source operation i s).slots)
  source-after default bare none =
      either (λ (d : Done). P (source_at i d.slots)) (has_byte i s) (on_byte (byte_readable_operation i operation) i s) (on_readable (readable_operation i operation) i s)
      (λ is.
      let at = on_byte-same (byte_readable_operation i operation) i s is in
      let was : source_at i s ≡ shown (byte_at i s) = ap as_source (byte_there (slice_get s.streams i.0) is) in
      subst P (sym (ap as_source at)) (bare (byte_acts i s) (sym was)))
      (λ isnt. by (has_readable i s) refl)
    where
      by : (b : Bool) → b ≡ has_readable i s → P (source_at i (on_readable (readable_operation i operation) i s).slots)
      by true there =
          let at = on_readable-same (readable_operation i operation) i s (sym there) in
          let was : source_at i s ≡ readable_at i s = ap as_source (readable_there (slice_get s.streams i.0) (sym there)) in
          subst P (sym (ap as_source at)) (default (readable_acts i s) (sym was))
      by false absent = rw (← absent) none

-- once it can take nothing, it never can again

own-shut : (i : StreamId) (operation : ReadableOperation) (s : Slots) → open_at i s ≡ false → open_at i (row (OnReadable i operation) s).slots ≡ false
unfolding row
own-shut i operation s e =
    source-after (λ r. can_close_or_enqueue r ≡ false) i operation s
    (λ a was. operation-shut i operation a (ap (λ (r : readable.Slots). can_close_or_enqueue r) was ∙ e))
    (λ a was. shared-shuts i operation a (ap (λ (r : readable.Slots). can_close_or_enqueue r) was ∙ e)) e

byte-shut : (i : StreamId) (operation : ByteOperation) (s : Slots) → open_at i s ≡ false → open_at i (row (OnByte i operation) s).slots ≡ false
unfolding row
byte-shut i operation s e = by (has_byte i s) refl
  where
    by : (b : Bool) → b ≡ has_byte i s → open_at i (on_byte (byte_operation i operation) i s).slots ≡ false
    by true is =
        let at = on_byte-same (byte_operation i operation) i s (sym is) in
        let was : source_at i s ≡ shown (byte_at i s) = ap as_source (byte_there (slice_get s.streams i.0) (sym is)) in
        ap (λ (o : Option Stream). can_close_or_enqueue (as_source o)) at ∙ own-shuts i operation (byte_acts i s) (ap (λ (r : readable.Slots). can_close_or_enqueue r) (sym was) ∙ e)
    by false isnt = rw (← isnt) e

pub row-closed : (i : StreamId) (e : Effect) (s : Slots) → open_at i s ≡ false → open_at i (row e s).slots ≡ false
unfolding row
row-closed i (OnReadable j operation) s f = by (is_same i j) refl
  where
    by : (same : Bool) → same ≡ is_same i j → open_at i (row (OnReadable j operation) s).slots ≡ false
    by true e = subst (λ (k : StreamId). open_at i (row (OnReadable k operation) s).slots ≡ false) (same_id i j (sym e)) (own-shut i operation s f)
    by false e = ap (λ (o : Option Stream). can_close_or_enqueue (as_source o)) (on_source-other operation j s i (sym e)) ∙ f
row-closed i (OnByte j operation) s f = by (is_same i j) refl
  where
    by : (same : Bool) → same ≡ is_same i j → open_at i (row (OnByte j operation) s).slots ≡ false
    by true e = subst (λ (k : StreamId). open_at i (row (OnByte k operation) s).slots ≡ false) (same_id i j (sym e)) (byte-shut i operation s f)
    by false e = ap (λ (o : Option Stream). can_close_or_enqueue (as_source o)) (on_byte-other (byte_operation j operation) j s i (sym e)) ∙ f
row-closed i (OnWritable j operation) s f = ap (λ (r : readable.Slots). can_close_or_enqueue r) (on_writable-source (writable_operation j operation) j s i) ∙ f
row-closed i e s f = ap (λ (xs : List Stream). can_close_or_enqueue (as_source (slice_get xs i.0))) (row-streams e s tt) ∙ f

-- what an effect brings

close-shuts : (i : StreamId) (a : readable.Acts) → can_close_or_enqueue (readable_operation i Close a).slots ≡ false
unfolding readable.controller_close readable.close_if_empty readable.stream_close
close-shuts i a = grind arith

close-closed : (i : StreamId) (s : Slots) → open_at i s ≡ true → open_at i (row (OnReadable i Close) s).slots ≡ false
unfolding row
close-closed i s c = by (has_byte i s) (has_readable i s) refl refl
  where
    by : (b r : Bool) → b ≡ has_byte i s → r ≡ has_readable i s → open_at i (on_source Close i s).slots ≡ false
    by true r is f =
        let at = on_byte-same (byte_readable_operation i Close) i s (sym is) in
        ap (λ (d : Done). open_at i d.slots) (on_source-byte Close i s (sym is)) ∙ (ap (λ (o : Option Stream). can_close_or_enqueue (as_source o)) at ∙ controller_close-shuts i (byte_acts i s))
    by false true isnt f =
        let at = on_readable-same (readable_operation i Close) i s (sym f) in
        ap (λ (d : Done). open_at i d.slots) (on_source-readable Close i s (sym isnt)) ∙ (ap (λ (o : Option Stream). can_close_or_enqueue (as_source o)) at ∙ close-shuts i (readable_acts i s))
    by false false isnt f = let k = open-there (slice_get s.streams i.0) c in absurd (let no : false || false ≡ true = rw (← isnt, ← f) at k in cc)

pub record Brings (i : StreamId) (e : Effect) (s : Slots) : Type 0 where
  pub fine : ((effect_takes i e s).mark ≡ Open) ⊎ (((effect_takes i e s).mark ≡ Closed) × (open_at i (row e s).slots ≡ false))
  pub shut : open_at i s ≡ false → effect_takes i e s ≡ silence

taken-shut : (r : readable.Slots) (t : Told Value) → can_close_or_enqueue r ≡ false → taken r t ≡ silence
taken-shut r t e = rw e refl

quiet : (i : StreamId) (e : Effect) (s : Slots) → effect_takes i e s ≡ silence → Brings i e s
quiet i e s n = record { fine = inl (ap (λ (x : Told Value). x.mark) n); shut = λ c. n }

taken-open : (r : readable.Slots) (t : Told Value) → t.mark ≡ Open → (taken r t).mark ≡ Open
taken-open r t e = grind (arith, e)

chunk-open : (g : Giver) (operation : ReadableOperation) → ((entered g operation).mark ≡ Open) ⊎ (operation ≡ Close)
chunk-open g (Enqueue v) = by g
  where
    by : (g : Giver) → ((entered g (Enqueue v)).mark ≡ Open) ⊎ (Enqueue v ≡ Close)
    by OfSource = inl refl
    by OfByteSource = inl refl
    by (OfHalf t) = inl refl
    by (OfEnd c) = inl refl
chunk-open g Close = inr refl
chunk-open g operation = inl (grind arith)

bytes-open : (g : Giver) (operation : ByteOperation) → (bytes_entered g operation).mark ≡ Open
bytes-open OfSource operation = grind arith
bytes-open OfByteSource (EnqueueBytes []) = refl
bytes-open OfByteSource (EnqueueBytes (n ∷ ns)) = refl
bytes-open OfByteSource operation = grind arith
bytes-open (OfHalf t) operation = grind arith
bytes-open (OfEnd c) operation = grind arith

own-brings : (i : StreamId) (operation : ReadableOperation) (s : Slots) → Brings i (OnReadable i operation) s
own-brings i operation s = record { fine = by (chunk-open (giver_at i s) operation); shut = λ c. let self = is_same-refl i in rw self (taken-shut (source_at i s) _ c) }
  where
    closing : (b : Bool) → b ≡ open_at i s → ((effect_takes i (OnReadable i Close) s).mark ≡ Open) ⊎ (((effect_takes i (OnReadable i Close) s).mark ≡ Closed) × (open_at i (row (OnReadable i Close) s).slots ≡ false))
    closing true c = let self = is_same-refl i in inr (rw (self, ← c) refl, close-closed i s (sym c))
    closing false c = let self = is_same-refl i in inl (rw (self, ← c) refl)

    by : ((entered (giver_at i s) operation).mark ≡ Open) ⊎ (operation ≡ Close) → ((effect_takes i (OnReadable i operation) s).mark ≡ Open) ⊎ (((effect_takes i (OnReadable i operation) s).mark ≡ Closed) × (open_at i (row (OnReadable i operation) s).slots ≡ false))
    by (inl o) = let self = is_same-refl i in inl (rw self (taken-open (source_at i s) _ o))
    by (inr is) =
        subst (λ (op : ReadableOperation). ((effect_takes i (OnReadable i op) s).mark ≡ Open) ⊎ (((effect_takes i (OnReadable i op) s).mark ≡ Closed) × (open_at i (row (OnReadable i op) s).slots ≡ false))) (sym is) (closing (open_at i s) refl)

own-bytes : (i : StreamId) (operation : ByteOperation) (s : Slots) → Brings i (OnByte i operation) s
own-bytes i operation s =
    let self = is_same-refl i in
    record { fine = inl (rw self (taken-open (source_at i s) _ (bytes-open (giver_at i s) operation))); shut = λ c. rw self (taken-shut (source_at i s) _ c) }

pub each-brings : (i : StreamId) (e : Effect) (s : Slots) → Brings i e s
each-brings i (OnReadable j operation) s = by (is_same i j) refl
  where
    by : (same : Bool) → same ≡ is_same i j → Brings i (OnReadable j operation) s
    by false n = quiet i (OnReadable j operation) s (rw (← n) refl)
    by true n = subst (λ (k : StreamId). Brings i (OnReadable k operation) s) (same_id i j (sym n)) (own-brings i operation s)
each-brings i (OnByte j operation) s = by (is_same i j) refl
  where
    by : (same : Bool) → same ≡ is_same i j → Brings i (OnByte j operation) s
    by false n = quiet i (OnByte j operation) s (rw (← n) refl)
    by true n = subst (λ (k : StreamId). Brings i (OnByte k operation) s) (same_id i j (sym n)) (own-bytes i operation s)
each-brings i e s = quiet i e s refl

-- a stream with a default controller

pub none-taken : (r : readable.Slots) (t : Told Value) → t ≡ silence → taken r t ≡ silence
none-taken r t e = grind (arith, e)

pub default-takes : (i : StreamId) (operation : ReadableOperation) (s : Slots) → has_byte i s ≡ false → effect_takes i (OnReadable i operation) s ≡ (if can_close_or_enqueue (readable_at i s) then entered OfSource operation else silence)
default-takes i operation s none =
    let self = is_same-refl i in
    let gives : giver_at i s ≡ giver_by false (owner_at i s) = rw none refl in
    rw (self, gives, source-default i s none) (ap (λ t. taken (readable_at i s) t) (default-entered (owner_at i s) operation))

pub default-none : (i : StreamId) (operation : ByteOperation) (j : StreamId) (s : Slots) → has_byte i s ≡ false → effect_takes i (OnByte j operation) s ≡ silence
default-none i operation j s none = by (is_same i j) refl
  where
    by : (same : Bool) → same ≡ is_same i j → effect_takes i (OnByte j operation) s ≡ silence
    by false n = rw (← n) refl
    by true n =
        let gives : giver_at i s ≡ giver_by false (owner_at i s) = rw none refl in
        subst (λ (k : StreamId). effect_takes i (OnByte k operation) s ≡ silence) (same_id i j (sym n)) (
        let self = is_same-refl i in
        rw (self, gives) (none-taken (source_at i s) _ (none-entered (owner_at i s) operation)))
