-- What a sink gained. What went out of it stands for lists of bytes: of one that keeps its bytes for these alone, of one that
-- counts them for each list with these counts, of one that tells nothing for none.
use Rattle.std.specs.Prelude.{◌≡◌, ◌<◌, ◌≤◌, ℕ, Bool, List, [], ◌++◌, length, take, Result, Option, Some, None, MatchResult, IsTrue}

-- what a sink got: the lists for which stands what went out, and the bytes that it holds back behind these
pub record Got : Type 1 where
  pub out : List ℕ → Type 0
  pub held : List ℕ

-- a sink that holds nothing back
abbrev pub straight : (List ℕ → Type 0) → Got
straight out = record { out = out; held = [] }

-- These bytes were taken behind those that were held: a first part of all of them went out, and the others are held. Each list for which
-- stood what had gone out, followed by what went out, is one for which the new state stands
pub record Gains (old new : Got) (gain : List ℕ) : Type 0 where
  pub went : List ℕ
  pub grows : (xs : List ℕ) → old.out xs → new.out (xs ++ went)
  pub behind : old.held ++ gain ≡ went ++ new.held

-- nothing is held back any more
abbrev pub IsEmptied : Got → Type 0
IsEmptied got = got.held ≡ []

-- what is told stays as it was
abbrev pub KeepsTold : Option Bool → Option Bool → Type 0
KeepsTold None None = Unit {0}
KeepsTold None (Some new) = ⊥
KeepsTold (Some old) None = ⊥
KeepsTold (Some old) (Some new) = new ≡ old

-- what is told is true now
abbrev pub Becomes : Option Bool → Option Bool → Type 0
Becomes None None = Unit {0}
Becomes None (Some new) = ⊥
Becomes (Some old) None = ⊥
Becomes (Some old) (Some new) = IsTrue new

-- what a write of `piece` did, at `Ok count`
pub record WroteSome (old new : Got) (count : ℕ) (piece : List ℕ) : Type 0 where
  pub within : count ≤ length piece
  pub some : 0 < length piece → 0 < count
  pub gained : Gains old new (take count piece)

abbrev pub Writes : {E : Type 0} → Got → Got → Result ℕ E → List ℕ → Type 0
Writes old new result piece = MatchResult result (λ count. WroteSome old new count piece) (λ _. Gains old new [])

-- `finish` marks the end at `Ok`, and changes nothing at `Err`
abbrev pub Finishes : {T E : Type 0} → Option Bool → Option Bool → Result T E → Type 0
Finishes old new result = MatchResult result (λ _. Becomes old new) (λ _. KeepsTold old new)
