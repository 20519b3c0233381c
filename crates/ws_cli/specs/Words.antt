-- The forms of the words of the command line.
use Rattle.std.specs.Prelude.{◌≡◌, ◌≢◌, ℕ, List, [], ◌∷◌, Some, codes}
use Rattle.ws_grammar.specs.Numbers.{number_below}

-- `run`, without a pipeline file
abbrev pub IsRun : List (List ℕ) → Type 0
IsRun words = words ≡ codes "run" ∷ []

-- `run`, and the name of a pipeline file, which isn't the word that asks for a trace
pub record IsRunOf (words : List (List ℕ)) (name : List ℕ) : Type 0 where
  pub are : words ≡ codes "run" ∷ name ∷ []
  pub named : name ≢ codes "--trace"

-- `run`, the word that asks for a trace, and the name of a pipeline file
abbrev pub IsTraceOf : List (List ℕ) → List ℕ → Type 0
IsTraceOf words name = words ≡ codes "run" ∷ codes "--trace" ∷ name ∷ []

-- `script`
abbrev pub IsScript : List (List ℕ) → Type 0
IsScript words = words ≡ codes "script" ∷ []

-- `check`, and the name of a pipeline file
abbrev pub IsCheck : List (List ℕ) → List ℕ → Type 0
IsCheck words name = words ≡ codes "check" ∷ name ∷ []

-- `gen`, how many bytes are generated, of which number, and the name of a pipeline file. Both numbers are in decimal, without sign or leading zeros
pub record IsGenOf (words : List (List ℕ)) (count seed : ℕ) (name : List ℕ) : Type 0 where
  pub many : List ℕ
  pub first : List ℕ
  pub are : words ≡ codes "gen" ∷ many ∷ first ∷ name ∷ []
  pub count_is : number_below 4000000001 many ≡ Some count
  pub seed_is : number_below 65536 first ≡ Some seed

-- no name stands behind `check`
abbrev pub IsNoCheck : List (List ℕ) → Type 0
IsNoCheck words = (name : List ℕ) → IsCheck words name → ⊥

-- and none behind `run`, nor behind the word that asks for a trace
abbrev pub IsNoRunOf : List (List ℕ) → Type 0
IsNoRunOf words = (name : List ℕ) → IsRunOf words name → ⊥

abbrev pub IsNoTraceOf : List (List ℕ) → Type 0
IsNoTraceOf words = (name : List ℕ) → IsTraceOf words name → ⊥

-- and no generation is asked for
abbrev pub IsNoGen : List (List ℕ) → Type 0
IsNoGen words = (count seed : ℕ) (name : List ℕ) → IsGenOf words count seed name → ⊥

abbrev pub NamesNoFile : List (List ℕ) → Type 0
NamesNoFile words = IsNoCheck words × IsNoRunOf words × IsNoTraceOf words × IsNoGen words
