-- `unhex`: each digit is read.
use Rattle.std.proofs.Common.{◌≡◌, ◌≢◌, ◌⊎◌, inl, inr, ℕ, suc, ◌+◌, ◌*◌, ◌/◌, ◌%◌, ◌<◌, ◌≤◌, Bool, true, false, ◌||◌, nat_eq, Option, Some, None, List, [], ◌∷◌, ◌++◌, length, append_assoc, append-nil, length-append, refl, sym, ap, ◌∙◌, arith, ◌-◌, map, get_or}
use Rattle.std.specs.Prelude.{if◌then◌else◌, codes}
use Rattle.std.specs.List.{concat}
use Rattle.std.proofs.lemmas.List.Elements.{All-nil, All-push}
use Rattle.hex.specs.Hex.{hex_digit_value, encode_lower, encode_with, lower_digits}
use Rattle.ws_flow.specs.declared.plan.Ending.{Ending}
use Rattle.ws_flow.specs.declared.plan.Ending.TheVariants.{Fine, Bad}
use Rattle.ws_flow.specs.declared.plan.Stage.TheVariants.{Unhex}
use Rattle.ws_flow.specs.Told.{Mark, Open, Closed, Broken, Lost, told, then_told, bytes_of}
use Rattle.ws_flow.specs.Machines.{Kept, Pushed, ending, pushed, nothing_kept, with_rest, added, each_byte, mark_of, end_mark, at_end, more, or_else, end_verdict, verdict, SomeBytes, byte_machine}
use Rattle.ws_flow.specs.Stages.{digit_met, unhex_byte, odd_end, digit_or_none, digits_in, digits_of, IsPassedOver, DigitsDone, DigitWrong, machine, machines, is_of_end}
use Rattle.ws_flow.specs.Plans.{as_one, reach}
use Rattle.ws_flow.proofs.Cutting.{joined_append, more_bytes, verdict_bytes}
use Rattle.ws_flow.proofs.Whole.{EachIs, StepSays, Stepwise, all_units, says_all, each_cons, kept_of}
use Rattle.ws_flow.proofs.Short.{EachShort, more_short, rest_short}
use Rattle.ws_flow.proofs.Kind.{NeverLate, each_never_late, IsKind}
use Rattle.hex.proofs.HexLemmas.{IsDigits-lower_digits}

pub digits_in-append : (a b : List ℕ) → digits_in (a ++ b) ≡ digits_in a ++ digits_in b
digits_in-append [] b = refl
digits_in-append (x ∷ a) b = ap (λ q. digit_or_none (hex_digit_value x) ++ q) (digits_in-append a b) ∙ sym (append_assoc (digit_or_none (hex_digit_value x)) (digits_in a) (digits_in b))

pub digits_of-append : (a b : List ℕ) → digits_of (a ++ b) ≡ digits_of a ++ digits_of b
digits_of-append [] b = refl
digits_of-append (x ∷ a) b = ap (λ q. (x / 16) ∷ (x % 16) ∷ q) (digits_of-append a b)

-- what was said, and that what is left over is a digit's value
pub record DigitsHeld (input : List ℕ) (cs : List (List ℕ)) (rest : List ℕ) : Type 0 where
  pub done : DigitsDone input cs rest
  pub small : EachIs (λ d. d < 16) rest

value_small : (b d : ℕ) → hex_digit_value b ≡ Some d → d < 16
value_small b d h = grind arith

passed : (b : ℕ) → (nat_eq b 10 || nat_eq b 13) ≡ true → IsPassedOver b
passed b h = grind arith

passed_none : (b : ℕ) → IsPassedOver b → digits_in (b ∷ []) ≡ []
passed_none b (inl e) = ap (λ q. digits_in (q ∷ [])) e
passed_none b (inr e) = ap (λ q. digits_in (q ∷ [])) e

some_not_none : (o : Option ℕ) (d : ℕ) → o ≡ Some d → o ≢ None
some_not_none o d h n = grind arith

-- the digits of what came, with those of a byte more
more_digits : (cs : List (List ℕ)) (rest before add : List ℕ) (b : ℕ) → digits_of (concat cs) ++ rest ≡ digits_in before → digits_in (b ∷ []) ≡ add → digits_of (concat (cs ++ [])) ++ (rest ++ add) ≡ digits_in (before ++ b ∷ [])
more_digits cs rest before add b h e =
    ap (λ q. digits_of (concat q) ++ (rest ++ add)) (append-nil cs) ∙ sym (append_assoc (digits_of (concat cs)) rest add) ∙ ap (λ q. q ++ add) h
    ∙ ap (λ q. digits_in before ++ q) (sym e) ∙ sym (digits_in-append before (b ∷ []))

two_digits : (h d v : ℕ) → h < 16 → d < 16 → v ≡ 16 * h + d → (v / 16 ≡ h) × (v % 16 ≡ d)
two_digits h d v i j e = (omega arith, omega arith)

byte_digits : (cs : List (List ℕ)) (before : List ℕ) (h d b : ℕ) → h < 16 → d < 16 → digits_of (concat cs) ++ h ∷ [] ≡ digits_in before → digits_in (b ∷ []) ≡ d ∷ [] →
    digits_of (concat (cs ++ ((16 * h + d) ∷ []) ∷ [])) ++ [] ≡ digits_in (before ++ b ∷ [])
byte_digits cs before h d b i j e f =
    let two = two_digits h d (16 * h + d) i j refl in
    append-nil (digits_of (concat (cs ++ ((16 * h + d) ∷ []) ∷ []))) ∙ ap digits_of (joined_append cs (((16 * h + d) ∷ []) ∷ [])) ∙ digits_of-append (concat cs) ((16 * h + d) ∷ [])
    ∙ ap (λ q. digits_of (concat cs) ++ q ∷ ((16 * h + d) % 16) ∷ []) two.0 ∙ ap (λ q. digits_of (concat cs) ++ h ∷ q ∷ []) two.1
    ∙ sym (append_assoc (digits_of (concat cs)) (h ∷ []) (d ∷ [])) ∙ ap (λ q. q ++ d ∷ []) e ∙ ap (λ q. digits_in before ++ q) (sym f) ∙ sym (digits_in-append before (b ∷ []))

digit_in : (b d : ℕ) → hex_digit_value b ≡ Some d → digits_in (b ∷ []) ≡ d ∷ []
digit_in b d h = ap (λ q. digit_or_none q ++ []) h

digit_step : (before : List ℕ) (cs : List (List ℕ)) (rest : List ℕ) (y n b : ℕ) (o : Option ℕ) → hex_digit_value b ≡ o → (nat_eq b 10 || nat_eq b 13) ≡ false → DigitsHeld before cs rest →
    let k : Kept = record { rest = rest; bytes = y; chunks = n } in let p = digit_met k rest o in
    StepSays DigitsHeld DigitWrong before cs k b p.kept p.chunks p.ending
digit_step before cs [] y n b (Some d) e z h = (
  record {
    done = record {
      whole = more_digits cs [] before (d ∷ []) b h.done.whole (digit_in b d e);
      digits = All-push (λ q. IsPassedOver q ⊎ (hex_digit_value q ≢ None)) before b h.done.digits (inr (some_not_none (hex_digit_value b) d e));
      one = omega arith;
    };
    small = (value_small b d e, tt);
  },
  refl,
)
digit_step before cs (x ∷ []) y n b (Some d) e z h = (
  record {
    done = record {
      whole = byte_digits cs before x d b h.small.0 (value_small b d e) h.done.whole (digit_in b d e);
      digits = All-push (λ q. IsPassedOver q ⊎ (hex_digit_value q ≢ None)) before b h.done.digits (inr (some_not_none (hex_digit_value b) d e));
      one = omega arith;
    };
    small = tt;
  },
  refl,
)
digit_step before cs (x ∷ w ∷ rest) y n b (Some d) e z h = absurd (too_long (length rest) h.done.one) where
  too_long : (m : ℕ) → suc (suc m) ≤ 1 → ⊥
  too_long m i = omega arith
digit_step before cs rest y n b None e z h =
    (refl, record { no_feed = not_feed b z; no_return = not_return b z; no_digit = e; code = refl; at = refl }) where
      not_feed : (b : ℕ) → (nat_eq b 10 || nat_eq b 13) ≡ false → b ≢ 10
      not_feed b z = grind arith

      not_return : (b : ℕ) → (nat_eq b 10 || nat_eq b 13) ≡ false → b ≢ 13
      not_return b z = grind arith

unhex_step : (before : List ℕ) (cs : List (List ℕ)) (rest : List ℕ) (y n b : ℕ) (z : Bool) → (nat_eq b 10 || nat_eq b 13) ≡ z → DigitsHeld before cs rest →
    let k : Kept = record { rest = rest; bytes = y; chunks = n } in let p = (if z then pushed (with_rest k rest) [] Fine else digit_met k rest (hex_digit_value b)) in
    StepSays DigitsHeld DigitWrong before cs k b p.kept p.chunks p.ending
unhex_step before cs rest y n b true z h = (
  record {
    done = record {
      whole = ap (λ q. digits_of (concat (cs ++ [])) ++ q) (sym (append-nil rest)) ∙ more_digits cs rest before [] b h.done.whole (passed_none b (passed b z));
      digits = All-push (λ q. IsPassedOver q ⊎ (hex_digit_value q ≢ None)) before b h.done.digits (inl (passed b z));
      one = h.done.one;
    };
    small = h.small;
  },
  refl,
)
unhex_step before cs rest y n b false z h = digit_step before cs rest y n b (hex_digit_value b) refl z h

pub digits_stepwise : Stepwise (λ b. Unit {0}) DigitsHeld DigitWrong unhex_byte
digits_stepwise = record { step = λ before cs k b x d n. unhex_step before cs k.rest k.bytes k.chunks b (nat_eq b 10 || nat_eq b 13) refl d }

pub digits_begin : DigitsHeld [] [] []
digits_begin = record { done = record { whole = refl; digits = All-nil (λ q. IsPassedOver q ⊎ (hex_digit_value q ≢ None)); one = omega arith }; small = tt }

digit_late : (k : Kept) (r : List ℕ) (d : Option ℕ) (code place : ℕ) → (digit_met k r d).ending ≡ Bad code place → is_of_end code ≡ false
digit_late k [] (Some d) code place e = grind arith
digit_late k (h ∷ r) (Some d) code place e = grind arith
digit_late k [] None code place e = grind arith
digit_late k (h ∷ r) None code place e = grind arith

unhex_late : NeverLate unhex_byte
unhex_late k b code place e = by (nat_eq b 10 || nat_eq b 13) e where
  by : (c : Bool) → (if c then pushed (with_rest k k.rest) [] Fine else digit_met k k.rest (hex_digit_value b)).ending ≡ Bad code place → is_of_end code ≡ false
  by true e = grind arith
  by false e = digit_late k k.rest (hex_digit_value b) code place e

-- no more bytes come out than come
digit_few : (k : Kept) (r : List ℕ) (o : Option ℕ) → length (concat (digit_met k r o).chunks) ≤ 1
digit_few k [] (Some d) = omega arith
digit_few k (x ∷ r) (Some d) = omega arith
digit_few k [] None = omega arith
digit_few k (x ∷ r) None = omega arith

unhex_few : (k : Kept) (x : ℕ) → length (concat (unhex_byte k x).chunks) ≤ 1
unhex_few k x = by (nat_eq x 10 || nat_eq x 13) where
  by : (u : Bool) → length (concat (if u then pushed (with_rest k k.rest) [] Fine else digit_met k k.rest (hex_digit_value x)).chunks) ≤ 1
  by true = omega arith
  by false = digit_few k k.rest (hex_digit_value x)

added_few : (n : ℕ) (cs : List (List ℕ)) (e : Ending) (k : Kept) (r : Pushed) → length (concat cs) ≤ 1 → length (concat r.chunks) ≤ n → length (concat (added cs e k r).chunks) ≤ suc n
added_few n cs Fine k r h g =
    let e = ap length (joined_append cs r.chunks) ∙ length-append (concat cs) (concat r.chunks) in omega arith
added_few n cs (Bad c p) k r h g = omega arith

bytes_few : (k : Kept) (c : List ℕ) → length (concat (each_byte unhex_byte k c).chunks) ≤ length c
bytes_few k [] = omega arith
bytes_few k (x ∷ c) = let p = unhex_byte k x in added_few (length c) p.chunks p.ending p.kept (each_byte unhex_byte p.kept c) (unhex_few k x) (bytes_few p.kept c)

odd_short : (b : ℕ) (k : Kept) (r : List ℕ) → EachShort b (odd_end k r).chunks
odd_short b k [] = tt
odd_short b k (x ∷ r) = tt

pub unhex : IsKind Unhex
unhex = record {
  told = λ input. says_all DigitsDone DigitsHeld DigitWrong (λ b. Unit {0}) unhex_byte digits_stepwise (λ b cs r h. h.done) digits_begin input (all_units input);
  late = each_never_late unhex_byte unhex_late;
  fits = λ n l. tt;
  longest = λ n. n;
  short = λ n x r h. more_short (machine Unhex) n n (λ k. Unit {0}) (λ k c i l. (rest_short n (concat (each_byte unhex_byte k c).chunks) (let g = bytes_few k c in omega arith), tt))
      (λ k i. odd_short n k k.rest) nothing_kept x.items x.mark tt h;
  grows = λ n r. inl (omega arith);
}

-- a byte that is no digit, and an odd number of digits
bad_digit : ending (machines (Unhex ∷ [])) 0 (as_one (codes "0g") Closed) ≡ Bad 2 1
bad_digit = refl

bad_digit_writes : bytes_of (reach (Unhex ∷ []) (codes "0g") Closed) ≡ told [] Broken
bad_digit_writes = refl

odd_digits : ending (machines (Unhex ∷ [])) 0 (told ((97 ∷ []) ∷ (98 ∷ []) ∷ (99 ∷ []) ∷ []) Closed) ≡ Bad 3 3
odd_digits = refl

odd_digits_write : bytes_of (reach (Unhex ∷ []) (codes "aBc") Closed) ≡ told (171 ∷ []) Broken
odd_digits_write = refl

feeds_are_passed_over : bytes_of (reach (Unhex ∷ []) (codes "0\r\n1\n2f") Closed) ≡ told (1 ∷ 47 ∷ []) Closed
feeds_are_passed_over = refl

-- of `hex` it is the input

not_passed : (b d : ℕ) → hex_digit_value b ≡ Some d → (nat_eq b 10 || nat_eq b 13) ≡ false
not_passed b d h = by (nat_eq b 10) (nat_eq b 13) refl refl where
  by : (x y : Bool) → nat_eq b 10 ≡ x → nat_eq b 13 ≡ y → (x || y) ≡ false
  by true y e f = absurd (no_value b d (is 10 e) h) where
    is : (n : ℕ) → nat_eq b n ≡ true → b ≡ n
    is n e = grind arith

    no_value : (b d : ℕ) → b ≡ 10 → hex_digit_value b ≡ Some d → ⊥
    no_value b d e h = let g = ap hex_digit_value (sym e) ∙ h in cc
  by false true e f = absurd (no_value b d (is 13 f) h) where
    is : (n : ℕ) → nat_eq b n ≡ true → b ≡ n
    is n e = grind arith

    no_value : (b d : ℕ) → b ≡ 13 → hex_digit_value b ≡ Some d → ⊥
    no_value b d e h = let g = ap hex_digit_value (sym e) ∙ h in cc
  by false false e f = refl

unhex_first : (y n b d : ℕ) → hex_digit_value b ≡ Some d → unhex_byte (kept_of [] y n) b ≡ pushed (kept_of (d ∷ []) (y + 1) n) [] Fine
unhex_first y n b d h =
    ap (λ z. if z then pushed (with_rest (kept_of [] y n) []) [] Fine else digit_met (kept_of [] y n) [] (hex_digit_value b)) (not_passed b d h)
    ∙ ap (λ o. digit_met (kept_of [] y n) [] o) h

unhex_second : (x y n b d : ℕ) → hex_digit_value b ≡ Some d → unhex_byte (kept_of (x ∷ []) y n) b ≡ pushed (kept_of [] (y + 1) n) (((16 * x + d) ∷ []) ∷ []) Fine
unhex_second x y n b d h =
    ap (λ z. if z then pushed (with_rest (kept_of (x ∷ []) y n) (x ∷ [])) [] Fine else digit_met (kept_of (x ∷ []) y n) (x ∷ []) (hex_digit_value b)) (not_passed b d h)
    ∙ ap (λ o. digit_met (kept_of (x ∷ []) y n) (x ∷ []) o) h

unhex_pair : (y n b c x d : ℕ) (bs : List ℕ) → hex_digit_value b ≡ Some x → hex_digit_value c ≡ Some d →
    each_byte unhex_byte (kept_of [] y n) (b ∷ c ∷ bs) ≡ added (((16 * x + d) ∷ []) ∷ []) Fine (kept_of [] 0 0) (each_byte unhex_byte (kept_of [] (y + 1 + 1) n) bs)
unhex_pair y n b c x d bs h g =
    each_cons unhex_byte (kept_of [] y n) b (c ∷ bs) (pushed (kept_of (x ∷ []) (y + 1) n) [] Fine) (unhex_first y n b x h)
    ∙ ap (λ q. added [] Fine (kept_of (x ∷ []) (y + 1) n) q) (each_cons unhex_byte (kept_of (x ∷ []) (y + 1) n) c bs (pushed (kept_of [] (y + 1 + 1) n) (((16 * x + d) ∷ []) ∷ []) Fine) (unhex_second x (y + 1) n c d g))

whole_byte : (b : ℕ) → 16 * (b / 16) + b % 16 ≡ b
whole_byte b = omega arith

-- the text of some bytes reads back
pub unhex_text : (y n : ℕ) (bs : List ℕ) → EachIs (λ b. b < 256) bs →
    (concat (each_byte unhex_byte (kept_of [] y n) (encode_lower bs)).chunks ≡ bs) × ((each_byte unhex_byte (kept_of [] y n) (encode_lower bs)).ending ≡ Fine) × ((each_byte unhex_byte (kept_of [] y n) (encode_lower bs)).kept.rest ≡ [])
unfolding encode_with
unhex_text y n [] h = (refl, refl, refl)
unhex_text y n (b ∷ bs) (w, h) =
    let r = unhex_text (y + 1 + 1) n bs h in
    let high : b / 16 < 16 = omega arith in
    let low : b % 16 < 16 = omega arith in
    let e = unhex_pair y n (get_or lower_digits (b / 16) 0) (get_or lower_digits (b % 16) 0) (b / 16) (b % 16) (encode_lower bs) (IsDigits-lower_digits (b / 16) high) (IsDigits-lower_digits (b % 16) low) in (
      ap (λ q. concat q.chunks) e ∙ ap (λ q. (16 * (b / 16) + b % 16) ∷ q) r.0 ∙ ap (λ q. q ∷ bs) (whole_byte b),
      ap (λ q. q.ending) e ∙ r.1,
      ap (λ q. q.kept.rest) e ∙ r.2,
    )

pub encoded-append : (a b : List ℕ) → encode_lower (a ++ b) ≡ encode_lower a ++ encode_lower b
unfolding encode_with
encoded-append [] b = refl
encoded-append (x ∷ a) b = ap (λ q. get_or lower_digits (x / 16) 0 ∷ get_or lower_digits (x % 16) 0 ∷ q) (encoded-append a b)

pub concat_encoded : (cs : List (List ℕ)) → concat (map encode_lower cs) ≡ encode_lower (concat cs)
unfolding encode_with
concat_encoded [] = refl
concat_encoded (c ∷ cs) = ap (λ q. encode_lower c ++ q) (concat_encoded cs) ∙ sym (encoded-append c (concat cs))

ended_fine : (e : Mark) (k : Kept) → k.rest ≡ [] → (bytes_of (at_end (byte_machine SomeBytes unhex_byte (λ k. odd_end k k.rest)) k e) ≡ told [] e) × (end_verdict (byte_machine SomeBytes unhex_byte (λ k. odd_end k k.rest)) k e ≡ Fine)
ended_fine Open k h = (refl, refl)
ended_fine Broken k h = (refl, refl)
ended_fine Lost k h = (refl, refl)
ended_fine Closed k h = (ap (λ q. bytes_of (told (odd_end k q).chunks (end_mark (odd_end k q).ending))) h, ap (λ q. (odd_end k q).ending) h)

pub unhex_of_hex : (xs : List (List ℕ)) (e : Mark) → EachIs (λ b. b < 256) (concat xs) →
    let m = byte_machine SomeBytes unhex_byte (λ k. odd_end k k.rest) in
    (bytes_of (more m nothing_kept (map encode_lower xs) e) ≡ told (concat xs) e) × (verdict m nothing_kept (map encode_lower xs) e ≡ Fine)
unhex_of_hex xs e h =
    let m = byte_machine SomeBytes unhex_byte (λ k. odd_end k k.rest) in
    let t = encode_lower (concat xs) in
    let p = each_byte unhex_byte nothing_kept t in
    let r = unhex_text 0 0 (concat xs) h in
    let f = ended_fine e p.kept r.2 in (
      more_bytes SomeBytes unhex_byte (λ k. odd_end k k.rest) nothing_kept (map encode_lower xs) e
          ∙ ap (λ q. then_told (told (concat (each_byte unhex_byte nothing_kept q).chunks) (mark_of (each_byte unhex_byte nothing_kept q).ending)) (bytes_of (at_end m (each_byte unhex_byte nothing_kept q).kept e))) (concat_encoded xs)
          ∙ ap (λ q. then_told (told (concat p.chunks) (mark_of q)) (bytes_of (at_end m p.kept e))) r.1
          ∙ ap (λ q. then_told (told q Open) (bytes_of (at_end m p.kept e))) r.0
          ∙ ap (λ q. then_told (told (concat xs) Open) q) f.0
          ∙ ap (λ q. told q e) (append-nil (concat xs)),
      verdict_bytes SomeBytes unhex_byte (λ k. odd_end k k.rest) nothing_kept (map encode_lower xs) e
          ∙ ap (λ q. or_else (each_byte unhex_byte nothing_kept q).ending (end_verdict m (each_byte unhex_byte nothing_kept q).kept e)) (concat_encoded xs)
          ∙ ap (λ q. or_else q (end_verdict m p.kept e)) r.1
          ∙ f.1,
    )
