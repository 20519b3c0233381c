-- What is answered of the arguments of a program.
use Rattle.std.specs.Prelude.{◌≡◌, ℕ, List, Bool, IsTrue, Option, Some, None, All, IsUtf8}
use Rattle.ws_io.specs.declared.arguments.ArgumentsRefused.{ArgumentsRefused}
use Rattle.ws_io.specs.declared.arguments.ArgumentsRefused.TheVariants.{NotText, NoMemory}

-- where they are told, these are the arguments, and each is UTF-8
abbrev pub IsTold : Option (List (List ℕ)) → List (List ℕ) → Type 0
IsTold None all = Unit {0}
IsTold (Some arguments) all = (all ≡ arguments) × All IsUtf8 arguments

-- where they are told, they are refused as no text only if one of them isn't UTF-8; and for memory only where that can be wanting
abbrev pub IsRefused : Option (List (List ℕ)) → Bool → ArgumentsRefused → Type 0
IsRefused (Some arguments) lacking NotText = All IsUtf8 arguments → ⊥
IsRefused None lacking NotText = Unit {0}
IsRefused told lacking NoMemory = IsTrue lacking
