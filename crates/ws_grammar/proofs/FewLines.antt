-- A script has no more lines than bytes and one.
use Rattle.std.proofs.Common.{◌≡◌, ◌≤◌, ◌+◌, ◌==◌, ℕ, suc, Bool, true, false, List, [], ◌∷◌, ◌++◌, length, Option, Some, None, Result, Ok, Err, refl, ap, length-append, arith}
use Rattle.std.specs.Prelude.{option_map, if◌then◌else◌}
use Rattle.std.proofs.lemmas.List.Splits.{length-slice_split}
use Rattle.std.proofs.lemmas.List.Sums.{count_by-le-length}
use Rattle.ws_grammar.specs.declared.line.Line.{Line}
use Rattle.ws_grammar.specs.Lines.{lines, lines_from, before, added_by, is_passed_over, line_of_words}
use Rattle.ws_grammar.specs.Words.{lines_of, words_of}

one_line : (passed_over : Bool) (line : Option Line) (found : List Line) → (if passed_over then Some [] else option_map (λ l. l ∷ []) line) ≡ Some found → length found ≤ 1
one_line true line found e = let same : [] ≡ found = cc in omega (arith, ap length same)
one_line false None found e = cc
one_line false (Some line) found e = let same : line ∷ [] ≡ found = cc in omega (arith, ap length same)

one_more : (number n : ℕ) (added : Option (List Line)) (others : Result (List Line) ℕ) (found : List Line)
    → ((more : List Line) → added ≡ Some more → length more ≤ 1) → ((rest : List Line) → others ≡ Ok rest → length rest ≤ n)
    → before number added others ≡ Ok found → length found ≤ suc n
one_more number n None others found one few e = cc
one_more number n (Some more) (Err bad) found one few e = cc
one_more number n (Some more) (Ok rest) found one few e =
    let same : more ++ rest ≡ found = cc in
    let first = one more refl in
    let others = few rest refl in
    omega (arith, ap length same, length-append more rest)

lines_from-few : (texts : List (List ℕ)) (number : ℕ) (found : List Line) → lines_from number texts ≡ Ok found → length found ≤ length texts
lines_from-few [] number found e = let same : [] ≡ found = cc in omega (arith, ap length same)
lines_from-few (line ∷ texts) number found e =
    one_more number (length texts) (added_by number line) (lines_from (number + 1) texts) found
    (one_line (is_passed_over line) (line_of_words number (words_of line))) (lines_from-few texts (number + 1)) e

pub lines-few : (text : List ℕ) (found : List Line) → lines text ≡ Ok found → length found ≤ length text + 1
lines-few text found e =
    let few = lines_from-few (lines_of text) 1 found e in
    omega (arith, length-slice_split (λ byte. byte == 10) text, count_by-le-length (λ byte. byte == 10) text)
