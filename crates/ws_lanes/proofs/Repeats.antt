-- A block that is masked as far as the loop has come.
use Rattle.std.proofs.Common.{◌≡◌, inl, inr, ℕ, zero, suc, ◌+◌, ◌-◌, ◌%◌, ◌<◌, ◌≤◌, List, [], ◌∷◌, length, get_or, set, bit_xor, refl, sym, ap, ◌∙◌, add_assoc, arith}
use Rattle.std.proofs.Math.Nat.{mod-add-mod, add-mod-mod, mod-lt}
use Rattle.std.proofs.lemmas.Bool.{cases_lt}
use Rattle.std.proofs.lemmas.List.{length-set, get_or-set_same, get_or-set_other}
use Rattle.std.proofs.lemmas.Simd.{length-chunk, length-zip2, length-put_chunk, get_or-chunk, get_or-zip2, get_or-put_chunk_below, get_or-put_chunk_at, get_or-put_chunk_above}
use Rattle.std.specs.Simd.Lanes.{chunk, put_chunk, zip2}
use Rattle.ws_lanes.specs.Kernels.{masked}

-- the bytes before i are masked, and the others are as they were
pub record Until (key : List ℕ) (p i : ℕ) (old block : List ℕ) : Type 0 where
  pub long : length block ≡ length old
  pub front : (k : ℕ) → k < i → get_or block k 0 ≡ bit_xor (get_or old k 0) (get_or key ((p + k) % length key) 0)
  pub back : (k : ℕ) → i ≤ k → get_or block k 0 ≡ get_or old k 0

-- the key is repeated along so many bytes
pub record Repeats (key wide : List ℕ) (n : ℕ) : Type 0 where
  pub each : (k : ℕ) → k < n → get_or wide k 0 ≡ get_or key (k % length key) 0

pub repeat_more : (key wide : List ℕ) (i v : ℕ) → Repeats key wide i → i < length wide → v ≡ get_or key (i % length key) 0 → Repeats key (set wide i v) (i + 1)
repeat_more key wide i v r room e = record {
  each = λ k h. elim (cases_lt k i) [
    | inl l ↦ get_or-set_other wide i k v 0 (λ q. absurd (omega arith)) ∙ r.each k l
    | inr m ↦
        let s : k ≡ i = omega arith in
        ap (λ q. get_or (set wide i v) q 0) s ∙ get_or-set_same wide i v 0 room ∙ e ∙ ap (λ q. get_or key (q % length key) 0) (sym s)
  ];
}

pub begun : (key : List ℕ) (p : ℕ) (old : List ℕ) → Until key p 0 old old
begun key p old = record { long = refl; front = λ k h. absurd (omega arith); back = λ k h. refl }

-- a place that is so far behind another
place_behind : (x at j n : ℕ) → at ≡ x % n → (at + j) % n ≡ (x + j) % n
place_behind x at j n e = ap (λ q. (q + j) % n) e ∙ mod-add-mod x n j

pub next_place : (p i s n at step : ℕ) → at ≡ (p + i) % n → step ≡ s % n → (at + step) % n ≡ (p + (i + s)) % n
next_place p i s n at step e f =
    ap (λ q. (at + q) % n) f ∙ add-mod-mod at s n ∙ place_behind (p + i) at s n e ∙ ap (λ q. q % n) (add_assoc p i s)

pub one_place : (p i n at : ℕ) → at ≡ (p + i) % n → (at + 1) % n ≡ (p + (i + 1)) % n
one_place p i n at e = place_behind (p + i) at 1 n e ∙ ap (λ q. q % n) (add_assoc p i 1)

-- a byte of a whole step
lane_is : (key wide block : List ℕ) (p i at j : ℕ) → 0 < length key → at ≡ (p + i) % length key → i + 32 ≤ length block → at + 32 ≤ length wide → Repeats key wide (length key + 32) → j < 32 →
    get_or (put_chunk i block (zip2 bit_xor (chunk i 32 block) (chunk at 32 wide))) (i + j) 0 ≡ bit_xor (get_or block (i + j) 0) (get_or key ((p + (i + j)) % length key) 0)
lane_is key wide block p i at j some place room wide_room repeats h =
    let n = length key in
    let xs = chunk i 32 block in
    let ys = chunk at 32 wide in
    let lx : length xs ≡ 32 = length-chunk i 32 block room in
    let ly : length ys ≡ 32 = length-chunk at 32 wide wide_room in
    let lz : length (zip2 bit_xor xs ys) ≡ 32 = length-zip2 bit_xor xs ys (lx ∙ sym ly) ∙ lx in
    let below : (p + i) % n < n = mod-lt (p + i) some in
    let key_byte = get_or-chunk at 32 wide j 0 h ∙ repeats.each (at + j) (omega arith) ∙ ap (λ q. get_or key q 0) (place_behind (p + i) at j n place ∙ ap (λ q. q % n) (add_assoc p i j)) in
    get_or-put_chunk_at i block (zip2 bit_xor xs ys) j 0 (omega arith) (omega arith)
    ∙ get_or-zip2 bit_xor xs ys j 0 0 0 (omega arith) (omega arith)
    ∙ ap (λ q. bit_xor q (get_or ys j 0)) (get_or-chunk i 32 block j 0 h)
    ∙ ap (λ q. bit_xor (get_or block (i + j) 0) q) key_byte

pub lanes_on : (key wide old block : List ℕ) (p i at : ℕ) → Until key p i old block → 0 < length key → at ≡ (p + i) % length key → i + 32 ≤ length block → at + 32 ≤ length wide → Repeats key wide (length key + 32) →
    Until key p (i + 32) old (put_chunk i block (zip2 bit_xor (chunk i 32 block) (chunk at 32 wide)))
lanes_on key wide old block p i at u some place room wide_room repeats =
    let xs = chunk i 32 block in
    let ys = chunk at 32 wide in
    let lx : length xs ≡ 32 = length-chunk i 32 block room in
    let ly : length ys ≡ 32 = length-chunk at 32 wide wide_room in
    let lz : length (zip2 bit_xor xs ys) ≡ 32 = length-zip2 bit_xor xs ys (lx ∙ sym ly) ∙ lx in
    let masks = λ (k : ℕ). bit_xor (get_or old k 0) (get_or key ((p + k) % length key) 0) in
    record {
      long = length-put_chunk i block (zip2 bit_xor xs ys) ∙ u.long;
      front = λ k h. elim (cases_lt k i) [
        | inl l ↦ get_or-put_chunk_below i block (zip2 bit_xor xs ys) k 0 l ∙ u.front k l
        | inr m ↦
            let e : k ≡ i + (k - i) = omega arith in
            ap (λ q. get_or (put_chunk i block (zip2 bit_xor xs ys)) q 0) e
            ∙ lane_is key wide block p i at (k - i) some place room wide_room repeats (omega arith)
            ∙ ap (λ q. bit_xor (get_or block q 0) (get_or key ((p + q) % length key) 0)) (sym e)
            ∙ ap (λ q. bit_xor q (get_or key ((p + k) % length key) 0)) (u.back k m)
      ];
      back = λ k h. get_or-put_chunk_above i block (zip2 bit_xor xs ys) k 0 (omega arith) ∙ u.back k (omega arith);
    }

pub one_on : (key old block : List ℕ) (p i at : ℕ) → Until key p i old block → at ≡ (p + i) % length key → i < length block →
    Until key p (i + 1) old (set block i (bit_xor (get_or block i 0) (get_or key at 0)))
one_on key old block p i at u place room =
    let v = bit_xor (get_or block i 0) (get_or key at 0) in
    record {
      long = length-set block i v ∙ u.long;
      front = λ k h. elim (cases_lt k i) [
        | inl l ↦ get_or-set_other block i k v 0 (λ e. absurd (omega arith)) ∙ u.front k l
        | inr m ↦
            let e : k ≡ i = omega arith in
            ap (λ q. get_or (set block i v) q 0) e
            ∙ get_or-set_same block i v 0 room
            ∙ ap (λ q. bit_xor q (get_or key at 0)) (u.back i (omega arith))
            ∙ ap (λ q. bit_xor (get_or old i 0) (get_or key q 0)) place
            ∙ ap (λ q. bit_xor (get_or old q 0) (get_or key ((p + q) % length key) 0)) (sym e)
      ];
      back = λ k h. get_or-set_other block i k v 0 (λ e. absurd (omega arith)) ∙ u.back k (omega arith);
    }

is_masked : (key : List ℕ) (p : ℕ) (old new : List ℕ) → length new ≡ length old →
    ((k : ℕ) → k < length old → get_or new k 0 ≡ bit_xor (get_or old k 0) (get_or key ((p + k) % length key) 0)) → new ≡ masked key p old
is_masked key p [] [] long each = refl
is_masked key p [] (y ∷ ys) long each = absurd (omega arith)
is_masked key p (x ∷ xs) [] long each = absurd (omega arith)
is_masked key p (x ∷ xs) (y ∷ ys) long each =
    let first : y ≡ bit_xor x (get_or key (p % length key) 0) = each zero (omega arith) ∙ ap (λ q. bit_xor x (get_or key (q % length key) 0)) (none_on p) in
    ap (λ q. q ∷ ys) first
    ∙ ap (λ q. bit_xor x (get_or key (p % length key) 0) ∷ q) (is_masked key (p + 1) xs ys (omega arith) (λ k h. each (suc k) (omega arith) ∙ ap (λ q. bit_xor (get_or xs k 0) (get_or key (q % length key) 0)) (one_on_place p k))) where
      none_on : (p : ℕ) → p + zero ≡ p
      none_on p = omega arith

      one_on_place : (p k : ℕ) → p + suc k ≡ p + 1 + k
      one_on_place p k = omega arith

pub whole : (key : List ℕ) (p i : ℕ) (old block : List ℕ) → Until key p i old block → length block ≤ i → block ≡ masked key p old
whole key p i old block u all = let long = u.long in is_masked key p old block u.long (λ k h. u.front k (omega arith))
