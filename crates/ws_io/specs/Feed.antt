-- What a source tells of its bytes, and what a call took of them.
use Rattle.std.specs.Prelude.{◌≡◌, ◌<◌, ◌≤◌, ℕ, Bool, List, [], ◌++◌, length, take, Result, Option, Some, None, MatchResult, IsTrue}

-- what a source that tells its bytes tells: those that it gave, those that it has, and whether it has said that there are no more
pub record Feed : Type 0 where
  pub taken : List ℕ
  pub left : List ℕ
  pub ended : Bool

-- between two moments of a source these bytes went from the front of what it has to the end of what it gave
pub record Moves (old new : Feed) (bytes : List ℕ) : Type 0 where
  pub taken : new.taken ≡ old.taken ++ bytes
  pub left : old.left ≡ bytes ++ new.left

-- the same, where the source tells them; it tells always or never
abbrev pub Fed : Option Feed → Option Feed → List ℕ → Type 0
Fed None None bytes = Unit {0}
Fed None (Some new) bytes = ⊥
Fed (Some old) None bytes = ⊥
Fed (Some old) (Some new) bytes = Moves old new bytes

-- where the source tells it, `ended` is as it was
abbrev pub KeepsEnd : Option Feed → Option Feed → Type 0
KeepsEnd None None = Unit {0}
KeepsEnd None (Some new) = ⊥
KeepsEnd (Some old) None = ⊥
KeepsEnd (Some old) (Some new) = new.ended ≡ old.ended

-- where the source tells it, a read has answered 0
abbrev pub IsEnded : Option Feed → Type 0
IsEnded None = Unit {0}
IsEnded (Some feed) = IsTrue feed.ended

-- where the source tells them, no bytes are left
abbrev pub IsEmpty : Option Feed → Type 0
IsEmpty None = Unit {0}
IsEmpty (Some feed) = feed.left ≡ []

-- the source tells its bytes, and at most this many are left
abbrev pub HasAtMost : Option Feed → ℕ → Type 0
HasAtMost None most = ⊥
HasAtMost (Some feed) most = length feed.left ≤ most

-- the source tells its bytes, and these are left
abbrev pub HasLeft : Option Feed → List ℕ → Type 0
HasLeft None bytes = ⊥
HasLeft (Some feed) bytes = feed.left ≡ bytes

-- where the source tells them, at least this many bytes are left
abbrev pub HasAtLeast : Option Feed → ℕ → Type 0
HasAtLeast None count = Unit {0}
HasAtLeast (Some feed) count = count ≤ length feed.left

-- what a read into `room` of this length did, at `Ok count`
pub record ReadSome (old new : Option Feed) (count : ℕ) (room : List ℕ) : Type 0 where
  pub within : count ≤ length room
  pub moved : Fed old new (take count room)
  -- a read with room answers 0 where nothing is left, and is then the end
  pub end : count ≡ 0 → 0 < length room → IsEmpty old × IsEnded new
  pub before_end : 0 < count → KeepsEnd old new
  pub no_room : length room ≡ 0 → KeepsEnd old new

abbrev pub Reads : {E : Type 0} → Option Feed → Option Feed → Result ℕ E → List ℕ → Type 0
Reads old new result room = MatchResult result (λ count. ReadSome old new count room) (λ _. Fed old new [] × KeepsEnd old new)
