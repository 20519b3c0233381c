-- What a descriptor that is ready has: whole elements, no fewer than the minimum, as far as the room goes.
use Rattle.std.proofs.Common.{◌≡◌, ◌≤◌, ℕ, ◌+◌, ◌-◌, ◌*◌, ◌%◌, Bool, true, false, List, [], ◌∷◌, ◌++◌, length, take, refl, arith, length-append, if◌then◌else◌, nat_le, min}
use Rattle.std.proofs.lemmas.List.{length-take}
use Rattle.ws_steps.specs.Descriptors.{Descriptor, Filling, fill_with, fill_from_queue}
use Rattle.ws_steps.specs.Queues.{total_bytes, front_bytes}
use Rattle.ws_byte_laws.proofs.Cutting.{aligned}
use Rattle.ws_byte_laws.specs.Descriptors.{Fit}

-- these bytes fill a room
pub record Fills (room element minimum : ℕ) (b : List ℕ) : Type 0 where
  pub whole : length b % element ≡ 0
  pub enough : minimum ≤ length b
  pub fits : length b ≤ room

abbrev pub IsFull : Descriptor → Type 0
IsFull d = Fills d.room d.element d.minimum d.filled

-- the same but for what is filled
pub record Alike (d f : Descriptor) : Type 0 where
  pub room : f.room ≡ d.room
  pub element : f.element ≡ d.element
  pub minimum : f.minimum ≡ d.minimum
  pub room_kind : f.room_kind ≡ d.room_kind

pub alike : (d : Descriptor) (b : List ℕ) → Alike d (record d { filled = b })
alike d b = record { room = refl; element = refl; minimum = refl; room_kind = refl }

-- whole elements are whole
pub whole-part : (n e : ℕ) → 1 ≤ e → (n - n % e) % e ≡ 0
whole-part n e h = grind arith

some-element : (e units m : ℕ) → m ≡ e * units → 1 ≤ m → 1 ≤ e
some-element e units m w h = grind arith

length-front_is : (n : ℕ) (q : List (List ℕ)) → n ≤ total_bytes q → length (front_bytes n q) ≡ n
length-front_is n [] h = omega (arith, h)
length-front_is n (b ∷ bs) h = let k = length-front_is (n - length b) bs (omega (arith, h)) in omega (arith, k, length-append (take n b) (front_bytes (n - length b) bs), length-take n b)

fills_by : (d : Descriptor) (q : List (List ℕ)) (m a : ℕ) → m ≡ min (total_bytes q) (d.room - length d.filled) → a ≡ (length d.filled + m) - ((length d.filled + m) % d.element) → d.minimum ≤ a → Fit d
    → Fills d.room d.element d.minimum (d.filled ++ front_bytes (a - length d.filled) q)
fills_by d q m a em ea e f =
    let short = f.short in
    let room = f.room in
    let some = some-element d.element f.units d.minimum f.whole (omega (arith, short)) in
    let front = length-front_is (a - length d.filled) q (omega (arith, em, ea)) in
    let all : length (d.filled ++ front_bytes (a - length d.filled) q) ≡ a = omega (arith, length-append d.filled (front_bytes (a - length d.filled) q), front, short, e) in
    record {
      whole = rw (all, ea) (whole-part (length d.filled + m) d.element some);
      enough = rw all e;
      fits = omega (arith, all, em, ea, short, room);
    }

-- how a descriptor is filled
pub record Fuller (d : Descriptor) (f : Filling) : Type 0 where
  pub alike : Alike d f.descriptor
  pub full : Fit d → f.ready ≡ true → IsFull f.descriptor

filling_by : (d : Descriptor) (q : List (List ℕ)) (m a : ℕ) (c : Bool) → c ≡ nat_le d.minimum a → m ≡ min (total_bytes q) (d.room - length d.filled) → a ≡ (length d.filled + m) - ((length d.filled + m) % d.element)
    → Fuller d (if c then fill_with (a - length d.filled) true d q else fill_with m false d q)
filling_by d q m a true e em ea = record { alike = alike d (d.filled ++ front_bytes (a - length d.filled) q); full = λ f r. fills_by d q m a em ea (grind (arith, e)) f }
filling_by d q m a false e em ea = record { alike = alike d (d.filled ++ front_bytes m q); full = λ f. λ r. cc }

pub filling : (d : Descriptor) (q : List (List ℕ)) → Fuller d (fill_from_queue d q)
filling d q = filling_by d q _ _ _ refl refl refl

-- the whole elements of a descriptor with as many bytes as the minimum are enough
pub full-part : (d : Descriptor) (b : List ℕ) → d.minimum ≤ length b → length b ≤ d.room → Fit d → IsFull (record d { filled = take (length b - (length b % d.element)) b })
full-part d b e r f =
    let short = f.short in
    let some = some-element d.element f.units d.minimum f.whole (omega (arith, short)) in
    let all = length-take (length b - (length b % d.element)) b in
    let n : length (take (length b - (length b % d.element)) b) ≡ length b - (length b % d.element) = omega (arith, all) in
    record {
      whole = rw n (whole-part (length b) d.element some);
      enough = rw n (aligned (length b) d.element f.units d.minimum f.whole e);
      fits = omega (arith, n, r);
    }
