-- Decimal numbers as std's `parse` reads them.
use Rattle.std.proofs.Common.{◌≡◌, ℕ, ◌^◌, ◌<◌, ◌≤◌, Bool, true, eqb, ltb, cond, ◌&&◌, not, List, [], ◌∷◌, length, get_or, Result, Ok, Err, Some, None, rules, arith, refl, ap, sym, ◌∙◌}
use Rattle.std.specs.Char.{is_ascii_digit}
use Rattle.std.specs.List.{list_all}
use Rattle.std.specs.Str.{IsUtf8}
use Rattle.std.specs.Str.Parse.{digits_value, ParsesUnsigned}
use Rattle.std.specs.Result.{OkIff, result_ok}
use Rattle.std.proofs.lemmas.Grind.{common_steps}
use Rattle.std.proofs.lemmas.Bool.Decides.{nat_tests}
use Rattle.std.proofs.lemmas.Fmt.{IsAscii-from_digits}
use Rattle.std.proofs.lemmas.Str.{IsUtf8-from_ascii}
use Rattle.std.proofs.lemmas.Str.Parse.{IsNumeralModel, numerals_by_value, parse_digits}
use Rattle.ws_grammar.specs.Numbers.{is_decimal, number_below}

-- std's value of a text of digits
pub digits : IsNumeralModel (λ ds. list_all is_ascii_digit ds ≡ true) (digits_value 10)
digits = numerals_by_value _ (search rules)

-- a word of two bytes or more
pub is_decimal_long : (word : List ℕ) → 2 ≤ length word → is_decimal word ≡ (not (eqb (get_or word 0 0) 48) && list_all is_ascii_digit word)
is_decimal_long [] h = absurd (omega arith)
is_decimal_long (a ∷ []) h = absurd (omega arith)
is_decimal_long (a ∷ b ∷ rest) h = refl

-- a decimal number is made of digits, and of at least one
pub digits_from_decimal : (word : List ℕ) → is_decimal word ≡ true → (list_all is_ascii_digit word ≡ true) × (0 < length word)
digits_from_decimal [] h = absurd (cc)
digits_from_decimal (a ∷ []) h = (grind (arith, common_steps), omega arith)
digits_from_decimal (a ∷ b ∷ rest) h = (grind (arith, common_steps), omega arith)

-- so it is a text
pub text_from_decimal : (word : List ℕ) → is_decimal word ≡ true → IsUtf8 word
text_from_decimal word h =
    IsUtf8-from_ascii word (IsAscii-from_digits word (digits.to word (digits_from_decimal word h).0))

at_value : (value limit : ℕ) (b : Bool) → b ≡ true → value < limit → cond (b && ltb value limit) (Some value) None ≡ Some value
at_value value limit b h k = grind (arith, nat_tests, common_steps)

above : (value limit : ℕ) (b : Bool) → (value < limit → ⊥) → cond (b && ltb value limit) (Some value) None ≡ None
above value limit b k = grind (arith, nat_tests, common_steps)

ok_is : {E : Type 0} (word : List ℕ) (limit : ℕ) (r : Result ℕ E) → is_decimal word ≡ true → 0 < length word → OkIff r ((0 < length word) × (digits_value 10 word < limit)) (digits_value 10 word) → result_ok r ≡ number_below limit word
ok_is word limit (Ok x) h k p = ap Some p.1 ∙ sym (at_value (digits_value 10 word) limit (is_decimal word) h p.0.1)
ok_is word limit (Err e) h k p = sym (above (digits_value 10 word) limit (is_decimal word) (λ below. p (k, below)))

-- what `parse` reads of it is its number
pub parse_is : {E : Type 0} (word : List ℕ) (r : Result ℕ E) → is_decimal word ≡ true → ParsesUnsigned 128 10 word r → result_ok r ≡ number_below (2 ^ 128) word
parse_is word r h p = ok_is word (2 ^ 128) r h (digits_from_decimal word h).1 (parse_digits digits 128 word r p (digits_from_decimal word h).0)
