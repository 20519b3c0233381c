-- In a chain of nodes the condition under which a node keeps its flow is met of each, and what goes out of each comes in chunks below 2^25 bytes.
use Rattle.std.specs.Prelude.{ℕ, ◌<◌, ◌≤◌, List, All, length}
use Rattle.ws_flow.specs.Chains.{Way, Host, Row, Member, Keeps, all_stages}
use Rattle.ws_flow.specs.Told.{Told}
use Rattle.ws_joined_laws.specs.Condition.{AreBytes, AreShort, AreInRange, ChainedIf}

-- how what came in was cut, which at the input only its reader tells: in short pieces there
abbrev pub ArePieces : Way → List (List ℕ) → Type 0
ArePieces (Host b) cs = All (λ c. length c ≤ 4096) cs
ArePieces (Row r) cs = Unit {0}

-- A node of which the condition is met. However it keeps its flow, each chunk that went out of it is below 2^25 bytes
pub record MeetsIt (m : Member) : Type 0 where
  pub bytes : AreBytes m.from
  pub short : AreShort m.from
  pub sends : (k : Keeps m) → ArePieces m.from k.came.items → All (λ c. length c < 33554432) k.went.items

abbrev pub EachNodeMeetsIt : Type 0
EachNodeMeetsIt = (taken : Told ℕ) (ms : List Member) (got : Told ℕ) → AreInRange (all_stages ms) → ChainedIf taken ms got → All MeetsIt ms
