-- The digits of bytes, and a text that is written as far as the loop has come.
use Rattle.std.proofs.Common.{◌≡◌, ℕ, zero, suc, ◌+◌, ◌*◌, ◌/◌, ◌%◌, ◌<◌, ◌≤◌, ◌^◌, List, [], ◌∷◌, ◌++◌, length, map, take, drop, get_or, replicate, w8, Fits, bit_and, refl, sym, ap, subst, ◌∙◌, arith}
use Rattle.std.proofs.lemmas.List.{append_assoc}
use Rattle.std.proofs.lemmas.Nat.{and_mask}
use Rattle.std.proofs.lemmas.Simd.{swz_l, get_or-swz_l_below, length-put_chunk, chunk-drop, take_more_put_chunk, zip2_splat, below_from_Fits}
use Rattle.std.specs.Simd.Lanes.{Each1, chunk, pick_l, put_chunk, zip2}
use Rattle.hex.specs.Hex.{encode_with}

pub digits_looked_up : (t : List ℕ) (i : ℕ) (vs : List ℕ) → i + length vs ≤ 16 → Each1 (λ v. v < 16) vs → swz_l w8 16 t i vs ≡ map (λ v. get_or t v 0) vs
digits_looked_up t i [] room below = refl
digits_looked_up t i (v ∷ vs) room below =
    ap (λ q. q ∷ swz_l w8 16 t (suc i) vs) (get_or-swz_l_below w8 16 t i (v ∷ vs) 0 (omega arith) below.0 ∙ ap (λ q. get_or t q 0) (in_first_block i v (omega arith)))
    ∙ ap (λ q. get_or t v 0 ∷ q) (digits_looked_up t (suc i) vs (omega arith) below.1) where
      in_first_block : (i v : ℕ) → i < 16 → 16 * ((i + 0) / 16) + v ≡ v
      in_first_block i v first = omega arith

-- a list of sixteen is written out
written_out : (P : List ℕ → Type 0) → ((a b c d e f g h i j k l m n o p : ℕ) → P (a ∷ b ∷ c ∷ d ∷ e ∷ f ∷ g ∷ h ∷ i ∷ j ∷ k ∷ l ∷ m ∷ n ∷ o ∷ p ∷ [])) → (vs : List ℕ) → length vs ≡ 16 → P vs
written_out P all [] long = absurd (omega arith)
written_out P all (a ∷ []) long = absurd (omega arith)
written_out P all (a ∷ b ∷ []) long = absurd (omega arith)
written_out P all (a ∷ b ∷ c ∷ []) long = absurd (omega arith)
written_out P all (a ∷ b ∷ c ∷ d ∷ []) long = absurd (omega arith)
written_out P all (a ∷ b ∷ c ∷ d ∷ e ∷ []) long = absurd (omega arith)
written_out P all (a ∷ b ∷ c ∷ d ∷ e ∷ f ∷ []) long = absurd (omega arith)
written_out P all (a ∷ b ∷ c ∷ d ∷ e ∷ f ∷ g ∷ []) long = absurd (omega arith)
written_out P all (a ∷ b ∷ c ∷ d ∷ e ∷ f ∷ g ∷ h ∷ []) long = absurd (omega arith)
written_out P all (a ∷ b ∷ c ∷ d ∷ e ∷ f ∷ g ∷ h ∷ i ∷ []) long = absurd (omega arith)
written_out P all (a ∷ b ∷ c ∷ d ∷ e ∷ f ∷ g ∷ h ∷ i ∷ j ∷ []) long = absurd (omega arith)
written_out P all (a ∷ b ∷ c ∷ d ∷ e ∷ f ∷ g ∷ h ∷ i ∷ j ∷ k ∷ []) long = absurd (omega arith)
written_out P all (a ∷ b ∷ c ∷ d ∷ e ∷ f ∷ g ∷ h ∷ i ∷ j ∷ k ∷ l ∷ []) long = absurd (omega arith)
written_out P all (a ∷ b ∷ c ∷ d ∷ e ∷ f ∷ g ∷ h ∷ i ∷ j ∷ k ∷ l ∷ m ∷ []) long = absurd (omega arith)
written_out P all (a ∷ b ∷ c ∷ d ∷ e ∷ f ∷ g ∷ h ∷ i ∷ j ∷ k ∷ l ∷ m ∷ n ∷ []) long = absurd (omega arith)
written_out P all (a ∷ b ∷ c ∷ d ∷ e ∷ f ∷ g ∷ h ∷ i ∷ j ∷ k ∷ l ∷ m ∷ n ∷ o ∷ []) long = absurd (omega arith)
written_out P all (a ∷ b ∷ c ∷ d ∷ e ∷ f ∷ g ∷ h ∷ i ∷ j ∷ k ∷ l ∷ m ∷ n ∷ o ∷ p ∷ []) long = all a b c d e f g h i j k l m n o p
written_out P all (a ∷ b ∷ c ∷ d ∷ e ∷ f ∷ g ∷ h ∷ i ∷ j ∷ k ∷ l ∷ m ∷ n ∷ o ∷ p ∷ q ∷ rest) long = absurd (omega arith)

-- where the lanes of two vectors stand once they are interleaved
abbrev pub first_half : List ℕ
first_half = 0 ∷ 16 ∷ 1 ∷ 17 ∷ 2 ∷ 18 ∷ 3 ∷ 19 ∷ 4 ∷ 20 ∷ 5 ∷ 21 ∷ 6 ∷ 22 ∷ 7 ∷ 23 ∷ []

abbrev pub second_half : List ℕ
second_half = 8 ∷ 24 ∷ 9 ∷ 25 ∷ 10 ∷ 26 ∷ 11 ∷ 27 ∷ 12 ∷ 28 ∷ 13 ∷ 29 ∷ 14 ∷ 30 ∷ 15 ∷ 31 ∷ []

-- the high halves of sixteen bytes, and behind them the low ones
abbrev pub halves : List ℕ → List ℕ
halves vs = zip2 (λ x y. x / 2 ^ y) vs (replicate 16 4) ++ zip2 bit_and vs (replicate 16 15)

halves_are : (vs : List ℕ) → length vs ≡ 16 → halves vs ≡ map (λ b. b / 16) vs ++ map (λ b. b % 16) vs
halves_are vs long =
    ap (λ q. q ++ zip2 bit_and vs (replicate 16 15)) (zip2_splat (λ x y. x / 2 ^ y) vs 16 4 long)
    ∙ ap (λ q. map (λ b. b / 16) vs ++ q) (zip2_splat bit_and vs 16 15 long ∙ remainders vs) where
      remainders : (xs : List ℕ) → map (λ x. bit_and x 15) xs ≡ map (λ b. b % 16) xs
      remainders [] = refl
      remainders (x ∷ xs) = ap (λ q. q ∷ map (λ x. bit_and x 15) xs) (and_mask x 4) ∙ ap (λ q. (x % 16) ∷ q) (remainders xs)

each_joined : (xs ys : List ℕ) → Each1 (λ v. v < 16) xs → Each1 (λ v. v < 16) ys → Each1 (λ v. v < 16) (xs ++ ys)
each_joined [] ys f g = g
each_joined (x ∷ xs) ys f g = (f.0, each_joined xs ys f.1 g)

each_high : (vs : List ℕ) → Each1 (λ v. v < 2 ^ 8) vs → Each1 (λ v. v < 16) (map (λ b. b / 16) vs)
each_high [] f = tt
each_high (v ∷ vs) f = let byte = f.0 in (omega arith, each_high vs f.1)

each_low : (vs : List ℕ) → Each1 (λ v. v < 16) (map (λ b. b % 16) vs)
each_low [] = tt
each_low (v ∷ vs) = (omega arith, each_low vs)

one_of_each : (xs : List ℕ) (k : ℕ) → Each1 (λ v. v < 16) xs → get_or xs k 0 < 16
one_of_each [] k f = omega arith
one_of_each (x ∷ xs) zero f = f.0
one_of_each (x ∷ xs) (suc k) f = one_of_each xs k f.1

each_picked : (xs ks : List ℕ) → Each1 (λ v. v < 16) xs → Each1 (λ v. v < 16) (pick_l 0 xs ks)
each_picked xs [] f = tt
each_picked xs (k ∷ ks) f = (one_of_each xs k f, each_picked xs ks f)

pub halves_below : (vs ks : List ℕ) → length vs ≡ 16 → Each1 (Fits w8) vs → Each1 (λ v. v < 16) (pick_l 0 (halves vs) ks)
halves_below vs ks long fits =
    each_picked (halves vs) ks (subst (λ (q : List ℕ). Each1 (λ v. v < 16) q) (sym (halves_are vs long)) (each_joined (map (λ b. b / 16) vs) (map (λ b. b % 16) vs) (each_high vs (below_from_Fits w8 vs fits)) (each_low vs)))

pub woven : (t vs : List ℕ) → length vs ≡ 16 → map (λ v. get_or t v 0) (pick_l 0 (halves vs) first_half) ++ map (λ v. get_or t v 0) (pick_l 0 (halves vs) second_half) ≡ encode_with t vs
unfolding encode_with
woven t vs long =
    ap (λ q. map (λ v. get_or t v 0) (pick_l 0 q first_half) ++ map (λ v. get_or t v 0) (pick_l 0 q second_half)) (halves_are vs long)
    ∙ written_out (λ q. map (λ v. get_or t v 0) (pick_l 0 (map (λ b. b / 16) q ++ map (λ b. b % 16) q) first_half) ++ map (λ v. get_or t v 0) (pick_l 0 (map (λ b. b / 16) q ++ map (λ b. b % 16) q) second_half) ≡ encode_with t q) (λ a b c d e f g h i j k l m n o p. refl) vs long

pub two_stores : (text xs ys : List ℕ) (i : ℕ) → length xs ≡ 16 → length ys ≡ 16 → i + 32 ≤ length text → take (i + 32) (put_chunk (i + 16) (put_chunk i text xs) ys) ≡ take i text ++ (xs ++ ys)
two_stores text xs ys i lx ly room =
    let long = length-put_chunk i text xs in
    take_more_put_chunk (i + 16) (put_chunk i text xs) ys (i + 32) (omega arith) (omega arith)
    ∙ ap (λ q. q ++ ys) (take_more_put_chunk i text xs (i + 16) (omega arith) (omega arith))
    ∙ append_assoc (take i text) xs ys

encoded_append : (t xs ys : List ℕ) → encode_with t (xs ++ ys) ≡ encode_with t xs ++ encode_with t ys
unfolding encode_with
encoded_append t [] ys = refl
encoded_append t (x ∷ xs) ys = ap (λ q. get_or t (x / 16) 0 ∷ get_or t (x % 16) 0 ∷ q) (encoded_append t xs ys)

pub lanes_on : (t bytes old new : List ℕ) (i next : ℕ) → next ≡ i + 16 → take (2 * i + 32) new ≡ take (2 * i) old ++ encode_with t (chunk i 16 bytes) → take (2 * i) old ++ encode_with t (drop i bytes) ≡ encode_with t bytes →
    take (2 * next) new ++ encode_with t (drop next bytes) ≡ encode_with t bytes
lanes_on t bytes old new i next e written so_far =
    let twice : 2 * next ≡ 2 * i + 32 = omega arith in
    ap (λ q. take q new ++ encode_with t (drop next bytes)) twice
    ∙ ap (λ q. q ++ encode_with t (drop next bytes)) written
    ∙ ap (λ q. (take (2 * i) old ++ encode_with t (chunk i 16 bytes)) ++ encode_with t (drop q bytes)) e
    ∙ append_assoc (take (2 * i) old) (encode_with t (chunk i 16 bytes)) (encode_with t (drop (i + 16) bytes))
    ∙ ap (λ q. take (2 * i) old ++ q) (sym (encoded_append t (chunk i 16 bytes) (drop (i + 16) bytes)))
    ∙ ap (λ q. take (2 * i) old ++ encode_with t q) (sym (chunk-drop i 16 bytes))
    ∙ so_far
