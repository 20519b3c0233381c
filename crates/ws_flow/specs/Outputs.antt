-- What comes of all the bytes of a stage's input, told of whole lists.
use Rattle.std.specs.Prelude.{◌≡◌, ℕ, List, ◌∷◌, ◌++◌, length}
use Rattle.ws_flow.specs.declared.plan.Ending.{Ending}
use Rattle.ws_flow.specs.declared.plan.Ending.TheVariants.{Fine, Bad}
use Rattle.ws_flow.specs.Machines.{Kept, Pushed, nothing_kept, each_byte}

-- The bytes of an input, of which these chunks came and this rest is left: all of them where that ended fine. Where it is bad, those
-- before the first byte that is wrong; `Wrong` says of the chunks, the rest, that byte and the number of bytes before it why, with the
-- code and the place
abbrev pub SaysBy : (List ℕ → List (List ℕ) → List ℕ → Type 0) → (List (List ℕ) → List ℕ → ℕ → ℕ → ℕ → ℕ → Type 0) → List ℕ → List (List ℕ) → List ℕ → Ending → Type 0
SaysBy Done Wrong input cs rest Fine = Done input cs rest
SaysBy Done Wrong input cs rest (Bad c p) =
    (before : List ℕ) × (byte : ℕ) × (after : List ℕ) × (left : List ℕ) ×
    (input ≡ before ++ byte ∷ after) × (Done before cs left) × (Wrong cs left byte (length before) c p)

abbrev pub Says : (List ℕ → List (List ℕ) → List ℕ → Type 0) → (List (List ℕ) → List ℕ → ℕ → ℕ → ℕ → ℕ → Type 0) → List ℕ → Pushed → Type 0
Says Done Wrong input p = SaysBy Done Wrong input p.chunks p.kept.rest p.ending

-- of what is never wrong
abbrev pub NeverWrong : List (List ℕ) → List ℕ → ℕ → ℕ → ℕ → ℕ → Type 0
NeverWrong cs rest byte place c p = ⊥

-- what comes of all the bytes of an input, and that they are counted where that is fine
abbrev pub SaysAll : (List ℕ → List (List ℕ) → List ℕ → Type 0) → (List (List ℕ) → List ℕ → ℕ → ℕ → ℕ → ℕ → Type 0) → (Kept → ℕ → Pushed) → List ℕ → Type 0
SaysAll Done Wrong f input =
    let p = each_byte f nothing_kept input in
    (Says Done Wrong input p) × (p.ending ≡ Fine → p.kept.bytes ≡ length input)
