-- What a load of a named text answers.
use Rattle.std.specs.Prelude.{◌≡◌, ◌<◌, ◌≤◌, ℕ, Bool, List, [], ◌∷◌, length, Result, Ok, Err, Option, Some, None, ◌||◌, is_none, if◌then◌else◌}
use Rattle.std.specs.Str.{bytes_eq}
use Rattle.ws_io.specs.Faults.{Rose}
use Rattle.ws_io.specs.Memory.{has_number, one_more}
use Rattle.ws_io.specs.declared.files.LoadRefused.{LoadRefused}
use Rattle.ws_io.specs.declared.files.LoadRefused.TheVariants.{Failed, TooLong, NoMemory}

-- the most bytes of a text that is loaded
abbrev pub load_limit : ℕ
load_limit = 1048576

-- a load of a name that has this text, or no text
abbrev pub Loads : Option (List ℕ) → Result (List ℕ) LoadRefused → Type 0
Loads (Some text) (Ok blob) = (blob ≡ text) × (length text ≤ load_limit)
Loads None (Ok blob) = ⊥
Loads (Some text) (Err TooLong) = load_limit < length text
Loads None (Err TooLong) = ⊥
Loads text (Err Failed) = Unit {0}
Loads text (Err NoMemory) = Unit {0}

-- the same, where the files tell their texts
abbrev pub LoadsTold : Option (List ℕ → Option (List ℕ)) → List ℕ → Result (List ℕ) LoadRefused → Type 0
LoadsTold None name result = Unit {0}
LoadsTold (Some texts) name result = Loads (texts name) result

-- `Failed` comes only where the count rose, and each other answer leaves it
abbrev pub LoadCause : ℕ → ℕ → Result (List ℕ) LoadRefused → Type 0
LoadCause before now (Err Failed) = (before ≤ now) × Rose before now
LoadCause before now (Err TooLong) = now ≡ before
LoadCause before now (Err NoMemory) = now ≡ before
LoadCause before now (Ok blob) = now ≡ before

-- files in memory: names and texts, the loads that fail, the loads made, and the faults
pub record MemTexts : Type 0 where
  pub entries : List (List ℕ × List ℕ)
  pub fails : List ℕ
  pub calls : ℕ
  pub count : ℕ

-- the text of the first entry of this name
abbrev pub text_at : List (List ℕ × List ℕ) → List ℕ → Option (List ℕ)
text_at [] name = None
text_at (entry ∷ entries) name = if bytes_eq entry.0 name then Some entry.1 else text_at entries name

-- whether the next load of the name fails: by the list, or since there's no such name
abbrev pub load_fails : MemTexts → List ℕ → Bool
load_fails s name = has_number s.fails (one_more s.calls) || is_none (text_at s.entries name)

abbrev pub after_load : MemTexts → List ℕ → MemTexts
after_load s name =
    if load_fails s name
    then record s { calls = one_more s.calls; count = one_more s.count }
    else record s { calls = one_more s.calls }
