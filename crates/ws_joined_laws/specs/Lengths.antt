-- How long a chunk can be in a node, where those that came in are no longer than some bound. A stage makes a chunk at most twice as long, which
-- only `hex` does, or at most 65 bytes longer, or it cuts chunks of its own, of at most 1,048,577 bytes.
use Rattle.std.specs.Prelude.{◌≡◌, ℕ, ◌+◌, ◌*◌, ◌<◌, ◌≤◌, List, [], ◌∷◌, length}
use Rattle.std.specs.List.{All}
use Rattle.ws_flow.specs.declared.plan.Stage.{Stage}
use Rattle.ws_flow.specs.Machines.{all_through}
use Rattle.ws_flow.specs.Parts.{AtWork, Live, Over, Part, Flows}
use Rattle.ws_flow.specs.Stages.{machines, HasLength}
use Rattle.ws_flow.specs.Told.{Open, Told, then_told}
use Rattle.ws_joined_laws.specs.Condition.{AreInRange}

-- Where no chunk that came in is longer than `most`, none in the node reaches `bound`: it is at least sixteen times as long as the longest that came
-- in or was cut, since there are at most four `hex`, with 65 bytes more for each of 16 stages
pub record AreBounds (most bound : ℕ) : Type 0 where
  pub came : 16 * (most + 1040) < bound
  pub cut : 16 * (1048577 + 1040) < bound

-- each chunk that lies before a stage which may be asked is shorter than this
abbrev pub LiesBelow : ℕ → AtWork → List (List ℕ) → Type 0
LiesBelow bound (Live k) cs = All (λ c. length c < bound) cs
LiesBelow bound (Over e) cs = Unit {0}

abbrev pub AreBelow : ℕ → List Part → Type 0
AreBelow bound [] = Unit {0}
AreBelow bound (p ∷ ps) = LiesBelow bound p.work p.before.items × AreBelow bound ps

-- each chunk that a node holds or has sent is shorter than this
pub record HoldsBelow (bound : ℕ) (parts : List Part) (went behind : Told (List ℕ)) : Type 0 where
  pub before_stages : AreBelow bound parts
  pub sent : All (λ c. length c < bound) went.items
  -- behind the last stage, where what went out may still go on
  pub left : went.mark ≡ Open → All (λ c. length c < bound) behind.items

abbrev pub EachChunkIsBelow : Type 0
EachChunkIsBelow =
    (most bound : ℕ) (ss : List Stage) (x : Told (List ℕ)) → AreBounds most bound → AreInRange ss → All (λ c. length c ≤ most) x.items
    → All (λ c. length c < bound) (all_through (machines ss) x).items

abbrev pub EachHeldChunkIsBelow : Type 0
EachHeldChunkIsBelow =
    (most bound : ℕ) (ss : List Stage) (came : Told (List ℕ)) (parts : List Part) (went behind : Told (List ℕ)) → AreBounds most bound → AreInRange ss
    → All (λ c. length c ≤ most) came.items → Flows (machines ss) came parts (then_told went behind) → HoldsBelow bound parts went behind

-- in a node that is fed by messages, each of whose chunks has fewer than 2^25 bytes, none reaches 2^32
abbrev pub EachFedChunkIsBelow : Type 0
EachFedChunkIsBelow =
    (ss : List Stage) (came : Told (List ℕ)) (parts : List Part) (went behind : Told (List ℕ)) → AreInRange ss
    → All (λ c. length c < 33554432) came.items → Flows (machines ss) came parts (then_told went behind) → HoldsBelow 4294967296 parts went behind

-- and a stage may be asked for a chunk below 2^32 bytes
abbrev pub EachMayBePushed : Type 0
EachMayBePushed = (s : Stage) (n : ℕ) → n < 4294967296 → HasLength s n
