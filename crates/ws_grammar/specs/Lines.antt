-- The lines of a script.
use Rattle.std.specs.Prelude.{ℕ, ◌+◌, Bool, ◌==◌, ◌||◌, length, slice_index, drop, if◌then◌else◌, List, [], ◌∷◌, ◌++◌, Option, Some, None, option_map, Result, Ok, Err}
use Rattle.ws_steps.specs.declared.calls.Call.{Call}
use Rattle.ws_grammar.specs.declared.line.Line.{Line}
use Rattle.ws_grammar.specs.Numbers.{number_below}
use Rattle.ws_grammar.specs.Words.{lines_of, words_of}
use Rattle.ws_grammar.specs.Calls.{call_of, both}

-- a line of this number that performs a call and then at most so many jobs
abbrev pub line_with : ℕ → ℕ → Call → Line
line_with number jobs call = record { number = number; jobs = jobs; call = call }

-- the most jobs after a call
abbrev pub most_jobs : ℕ
most_jobs = 100000

-- the most bytes of a script
abbrev pub most_bytes : ℕ
most_bytes = 1048576

-- the number of jobs in a prefix
abbrev pub jobs_of : List ℕ → Option ℕ
jobs_of digits = number_below (most_jobs + 1) digits

-- a line with a call, from its words: an optional `@N`, with N up to 100,000, and the call; `@` is the byte 64
abbrev pub line_of_words : ℕ → List (List ℕ) → Option Line
line_of_words number [] = None
line_of_words number (word ∷ others) =
    if slice_index word 0 == 64 then both (line_with number) (jobs_of (drop 1 word)) (call_of others)
    else option_map (line_with number most_jobs) (call_of (word ∷ others))

-- whether a line begins with `#`, the byte 35
abbrev pub is_comment : List ℕ → Bool
is_comment line = slice_index line 0 == 35

-- whether a line is passed over: it is a comment, or has no word
abbrev pub is_passed_over : List ℕ → Bool
is_passed_over line = is_comment line || length (words_of line) == 0

-- what a line adds to the script: nothing where it is passed over, and else its call, where it is in the grammar
abbrev pub added_by : ℕ → List ℕ → Option (List Line)
added_by number line =
    if is_passed_over line then Some []
    else option_map (λ found. found ∷ []) (line_of_words number (words_of line))

-- a line before the others: outside the grammar it refuses the script by its number
abbrev pub before : ℕ → Option (List Line) → Result (List Line) ℕ → Result (List Line) ℕ
before number None others = Err number
before number (Some found) (Ok others) = Ok (found ++ others)
before number (Some found) (Err bad) = Err bad

-- these lines, the first of which has this number
abbrev pub lines_from : ℕ → List (List ℕ) → Result (List Line) ℕ
lines_from number [] = Ok []
lines_from number (line ∷ others) = before number (added_by number line) (lines_from (number + 1) others)

-- the lines of a script's text, counted from 1, or the number of the first one outside the grammar
abbrev pub lines : List ℕ → Result (List Line) ℕ
lines text = lines_from 1 (lines_of text)
