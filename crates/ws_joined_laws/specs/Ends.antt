-- What a run of some stages may end with, by the bytes that it took, of which a mark tells whether they are all, and those that its output gained.
use Rattle.std.specs.Prelude.{◌≡◌, ◌≢◌, ◌+◌, ◌-◌, ◌<◌, ◌≤◌, ◌^◌, ℕ, ℤ, nat_abs, true, List, ◌∷◌, ◌++◌, length, Option, Some, None}
use Rattle.std.specs.List.{concat}
use Rattle.ws_flow.specs.declared.plan.Ending.{Ending}
use Rattle.ws_flow.specs.declared.plan.Ending.TheVariants.{Fine, Bad}
use Rattle.ws_flow.specs.declared.plan.Stage.{Stage}
use Rattle.ws_flow.specs.Machines.{ending}
use Rattle.ws_flow.specs.Plans.{as_one, reach}
use Rattle.ws_flow.specs.Stages.{is_of_end, machines}
use Rattle.ws_flow.specs.Told.{bytes_of, Mark, Open, Closed, Told, told}

-- what comes out of stages for these bytes
abbrev pub out_of : List Stage → List ℕ → Mark → Told ℕ
out_of ss taken m = bytes_of (reach ss taken m)

-- how the stage of this number, from 0, ends over them
abbrev pub ending_of : List Stage → ℕ → List ℕ → Mark → Ending
ending_of ss j taken m = ending (machines ss) j (as_one taken m)

-- the input was read to its end, each stage ended fine, and the output gained exactly what comes out of them
pub record HasAll (ss : List Stage) (m : Mark) (taken gain : List ℕ) : Type 0 where
  pub closed : m ≡ Closed
  pub fine : (j : ℕ) → ending_of ss j taken Closed ≡ Fine
  pub whole : out_of ss taken Closed ≡ told gain Closed

-- the stage of this number, from 1, ended badly over what was read: in its bytes as they come, or behind its end, and then the input was read to its end.
-- Where the stage found it at the end of its own input, each stage before it ended fine
pub record IsBad (ss : List Stage) (index code place : ℕ) (m : Mark) (taken : List ℕ) : Type 0 where
  pub numbered : 1 ≤ index
  pub bad : ending_of ss (index - 1) taken m ≡ Bad code place
  pub early : ending_of ss (index - 1) taken Open ≢ Bad code place → m ≡ Closed
  pub at_end : is_of_end code ≡ true → (m ≡ Closed) × ((j : ℕ) → j + 1 < index → ending_of ss j taken Closed ≡ Fine)

-- the output has at least as many bytes as the run's abort names
abbrev pub IsAborted : Option ℤ → List ℕ → Type 0
IsAborted None gain = ⊥
IsAborted (Some after) gain = nat_abs after ≤ length gain

-- and always fewer than 2^25 more
abbrev pub IsWithinAbort : Option ℤ → List ℕ → Type 0
IsWithinAbort None gain = Unit {0}
IsWithinAbort (Some after) gain = length gain < nat_abs after + 2 ^ 25

-- of the chunks that went out, one holds the last byte that the output got, and those before it have fewer bytes than are left to the abort
pub record StopsIn (left : ℕ) (chunks : List (List ℕ)) (gain : List ℕ) : Type 0 where
  pub before : List (List ℕ)
  pub chunk : List ℕ
  pub after : List (List ℕ)
  pub split : chunks ≡ before ++ (chunk ∷ after)
  pub from : length (concat before) < length gain
  pub to : length gain ≤ length (concat before) + length chunk
  pub fewer : length (concat before) < left

-- where a run has an abort, and its output has got something
abbrev pub StopsNear : Option ℤ → List (List ℕ) → List ℕ → Type 0
StopsNear None chunks gain = Unit {0}
StopsNear (Some after) chunks gain = 0 < length gain → StopsIn (nat_abs after) chunks gain
