-- What is shown of each kind of stage.
use Rattle.std.proofs.Common.{◌≡◌, ◌⊎◌, ℕ, ◌+◌, ◌*◌, ◌<◌, ◌≤◌, Bool, true, false, List, [], ◌∷◌, arith}
use Rattle.ws_flow.specs.declared.plan.Ending.{Ending}
use Rattle.ws_flow.specs.declared.plan.Ending.TheVariants.{Fine, Bad}
use Rattle.ws_flow.specs.declared.plan.Stage.{Stage}
use Rattle.ws_flow.specs.Told.{Told}
use Rattle.ws_flow.specs.Machines.{Kept, Pushed, through, added, each_byte}
use Rattle.ws_flow.specs.Stages.{machine, is_in_range, HasLength, is_of_end, IsTold}
use Rattle.ws_flow.specs.Plans.{is_hex}
use Rattle.ws_flow.proofs.Short.{EachShort}

-- no step of a byte finds what is found at the end only
abbrev pub NeverLate : (Kept → ℕ → Pushed) → Type 0
NeverLate f = (k : Kept) (b code place : ℕ) → (f k b).ending ≡ Bad code place → is_of_end code ≡ false

pub each_never_late : (f : Kept → ℕ → Pushed) → NeverLate f → (k : Kept) (bs : List ℕ) (code place : ℕ) → (each_byte f k bs).ending ≡ Bad code place → is_of_end code ≡ false
each_never_late f h k [] code place e = grind arith
each_never_late f h k (b ∷ bs) code place e = by (f k b).chunks (f k b).ending (f k b).kept (each_byte f (f k b).kept bs) (λ p. h k b code p) (λ p. each_never_late f h (f k b).kept bs code p) e where
  by : (cs : List (List ℕ)) (a : Ending) (k : Kept) (r : Pushed) → ((p : ℕ) → a ≡ Bad code p → is_of_end code ≡ false) → ((p : ℕ) → r.ending ≡ Bad code p → is_of_end code ≡ false) →
      (added cs a k r).ending ≡ Bad code place → is_of_end code ≡ false
  by cs Fine k r first rest e = rest place e
  by cs (Bad c p) k r first rest e = first place e

-- how much longer chunks get, where those that come have at most n bytes and those that go out m: of `hex` at most twice as long
abbrev pub Grows : Bool → ℕ → ℕ → Type 0
Grows true n m = m ≤ 2 * n
Grows false n m = (m ≤ n + 65) ⊎ (m ≤ 1048577)

-- What each kind of stage is shown to be; the laws over all stages follow from it
pub record IsKind (s : Stage) : Type 0 where
  -- it puts out what is told of it
  pub told : IsTold s
  -- no push finds what is found at the end only
  pub late : (k : Kept) (c : List ℕ) (code place : ℕ) → ((machine s).push k c).ending ≡ Bad code place → is_of_end code ≡ false
  -- no chunk below 2^25 bytes is too long for it
  pub fits : (n : ℕ) → n < 33554432 → HasLength s n
  -- the most bytes of a chunk that comes out, where those that come have at most so many
  pub longest : ℕ → ℕ
  pub short : (n : ℕ) (x : Told (List ℕ)) → is_in_range s ≡ true → EachShort n x.items → EachShort (longest n) (through (machine s) (machine s).start x).items
  pub grows : (n : ℕ) → is_in_range s ≡ true → Grows (is_hex s) n (longest n)
