-- Why lines aren't read.
use Rattle.std.specs.Prelude.{◌≡◌, ℕ, List, Option, None, Result, Err}
use Rattle.ws_grammar.specs.declared.line.Line.{Line}
use Rattle.ws_grammar.specs.declared.refused.ScriptRefused.{ScriptRefused}
use Rattle.ws_grammar.specs.declared.refused.ScriptRefused.TheVariants.{BadLine, TooLong, NoMemory}

-- why a line isn't added: it is outside the grammar, or there is no memory
abbrev pub IsRefusalOf : ScriptRefused → Option (List Line) → ℕ → Type 0
IsRefusalOf (BadLine n) added number = (n ≡ number) × (added ≡ None)
IsRefusalOf TooLong added number = ⊥
IsRefusalOf NoMemory added number = Unit {0}

-- why lines aren't read: the first that is outside the grammar, or there is no memory
abbrev pub IsRefusal : ScriptRefused → Result (List Line) ℕ → Type 0
IsRefusal (BadLine n) read = read ≡ Err n
IsRefusal TooLong read = ⊥
IsRefusal NoMemory read = Unit {0}
