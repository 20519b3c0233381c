-- The lines that are read so far, before those that are left.
use Rattle.std.proofs.Common.{◌≡◌, ℕ, ◌+◌, ◌≤◌, ◌<◌, List, [], ◌++◌, length, get_or, drop, Option, Some, None, Result, Ok, Err, refl, ap, sym, ◌∙◌, append_assoc, append-nil}
use Rattle.std.specs.Prelude.{option_map}
use Rattle.std.proofs.lemmas.List.{at_drop_more, at_drop_all}
use Rattle.ws_grammar.specs.declared.line.Line.{Line}
use Rattle.ws_grammar.specs.declared.refused.ScriptRefused.{ScriptRefused}
use Rattle.ws_grammar.specs.declared.refused.ScriptRefused.TheVariants.{BadLine, TooLong, NoMemory}
use Rattle.ws_grammar.specs.Lines.{lines_from, before, added_by}
use Rattle.ws_grammar.specs.Refusals.{IsRefusalOf, IsRefusal}

-- lines in front of others
abbrev pub with_front : List Line → Result (List Line) ℕ → Result (List Line) ℕ
with_front front (Ok others) = Ok (front ++ others)
with_front front (Err number) = Err number

-- a line that adds to the script
pub front_before : (front new : List Line) (number : ℕ) (added : Option (List Line)) (others : Result (List Line) ℕ) → option_map (λ more. front ++ more) added ≡ Some new → with_front front (before number added others) ≡ with_front new others
front_before front new number (Some more) (Ok others) h = let same : front ++ more ≡ new = cc in ap Ok (sym (append_assoc front more others) ∙ ap (λ xs. xs ++ others) same)
front_before front new number (Some more) (Err n) h = refl
front_before front new number None others h = absurd (cc)

-- a line outside the grammar
pub front_none : (front : List Line) (number : ℕ) (added : Option (List Line)) (others : Result (List Line) ℕ) → added ≡ None → with_front front (before number added others) ≡ Err number
front_none front number None others h = refl
front_none front number (Some more) others h = absurd (cc)

-- the lines that are left, at one of them
pub left_at : (texts : List (List ℕ)) (k : ℕ) (line : List ℕ) → k < length texts → line ≡ get_or texts k line → lines_from (k + 1) (drop k texts) ≡ before (k + 1) (added_by (k + 1) line) (lines_from (k + 1 + 1) (drop (k + 1) texts))
left_at texts k line h e = at_drop_more (lines_from (k + 1)) texts k line h ∙ ap (λ x. before (k + 1) (added_by (k + 1) x) (lines_from (k + 1 + 1) (drop (k + 1) texts))) (sym e)

-- nothing is left
pub none_left : (texts : List (List ℕ)) (k : ℕ) → length texts ≤ k → lines_from (k + 1) (drop k texts) ≡ Ok []
none_left texts k h = at_drop_all (lines_from (k + 1)) texts k h

-- why a line isn't added is why the lines aren't read
pub refusal_at : (refused : ScriptRefused) (front : List Line) (number : ℕ) (added : Option (List Line)) (others all : Result (List Line) ℕ) → IsRefusalOf refused added number → with_front front (before number added others) ≡ all → IsRefusal refused all
refusal_at (BadLine n) front number added others all h e = sym e ∙ front_none front number added others h.1 ∙ ap Err (sym h.0)
refusal_at TooLong front number added others all h e = absurd h
refusal_at NoMemory front number added others all h e = tt

-- all lines are read
pub all_read : (front : List Line) (texts : List (List ℕ)) (k : ℕ) (all : Result (List Line) ℕ) → length texts ≤ k → with_front front (lines_from (k + 1) (drop k texts)) ≡ all → all ≡ Ok front
all_read front texts k all h e = sym e ∙ ap (with_front front) (none_left texts k h) ∙ ap Ok (append-nil front)
