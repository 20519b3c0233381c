-- A node keeps its flow under one condition: each chunk that it received is bytes, fewer than 2^25 of them. `KeepsIf` says so of a node, and
-- `ChainedIf` of a chain whose first node reads the input, in pieces of at most 4,096 bytes, and so needs no condition.
use Rattle.std.specs.Prelude.{◌≡◌, ℕ, ◌<◌, ◌≤◌, Bool, true, false, List, [], ◌∷◌, ◌++◌, length}
use Rattle.std.specs.List.{All, count_by, list_all}
use Rattle.ws_value.specs.declared.value.Message.{Message}
use Rattle.ws_value.specs.declared.value.Message.TheVariants.{Pull, Chunk, Close, Error}
use Rattle.ws_value.specs.declared.value.Value.{Value}
use Rattle.ws_value.specs.declared.value.Value.TheVariants.{Plain, Bytes}
use Rattle.ws_flow.specs.declared.plan.Stage.{Stage}
use Rattle.ws_flow.specs.Chains.{Way, Host, Row, Member, Keeps, Chained, all_stages}
use Rattle.ws_flow.specs.Plans.{is_hex}
use Rattle.ws_flow.specs.Stages.{is_in_range}
use Rattle.ws_flow.specs.Rows.{told_by}
use Rattle.ws_flow.specs.Told.{Told}

abbrev pub is_bytes : Value → Bool
is_bytes (Plain v) = false
is_bytes (Bytes b) = true

-- whether a message is no chunk, or one whose value is bytes
abbrev pub has_only_bytes : Message → Bool
has_only_bytes Pull = true
has_only_bytes (Chunk v) = is_bytes v
has_only_bytes Close = true
has_only_bytes (Error r) = true

-- each chunk that goes by a way is bytes
abbrev pub AreBytes : Way → Type 0
AreBytes (Host b) = Unit {0}
AreBytes (Row r) = All (λ m. has_only_bytes m ≡ true) r

-- each chunk that a row tells, which is none behind its end, has fewer than 2^25 of them
abbrev pub AreShort : Way → Type 0
AreShort (Host b) = Unit {0}
AreShort (Row r) = All (λ c. length c < 33554432) (told_by r).items

-- what a node owes: where what it received meets the condition, it keeps its flow, and what it sent is bytes
abbrev pub KeepsIf : Member → Type 0
KeepsIf m = AreBytes m.from → AreShort m.from → Keeps m × AreBytes m.to

-- from this way on, by each node, to the output: what is sent on an edge is what is received and what is left there
abbrev pub OnwardIf : Way → List Member → Told ℕ → Type 0
OnwardIf (Host b) [] got = b ≡ got
OnwardIf (Row s) (m ∷ ms) got =
    (received : List Message) × (rest : List Message) × (s ≡ received ++ rest) × (m.from ≡ Row received) × (KeepsIf m) × (OnwardIf m.to ms got)
OnwardIf (Host b) (m ∷ ms) got = ⊥
OnwardIf (Row s) [] got = ⊥

-- what the first node owes: it reads the input in short pieces and keeps its flow, and what it sent is bytes
pub record KeepsFirst (taken : Told ℕ) (m : Member) : Type 0 where
  pub from : m.from ≡ Host taken
  pub keeps : Keeps m
  pub pieces : All (λ c. length c ≤ 4096) keeps.came.items
  pub bytes : AreBytes m.to

-- a run, as `Chained`, of nodes that owe no more than this
abbrev pub ChainedIf : Told ℕ → List Member → Told ℕ → Type 0
ChainedIf taken [] got = ⊥
ChainedIf taken (m ∷ ms) got = KeepsFirst taken m × OnwardIf m.to ms got

-- the stages of a plan that isn't refused
pub record AreInRange (ss : List Stage) : Type 0 where
  pub range : list_all is_in_range ss ≡ true
  pub hex : count_by is_hex ss ≤ 4
  pub few : length ss ≤ 16

abbrev pub EachConditionIsMet : Type 0
EachConditionIsMet = (taken : Told ℕ) (ms : List Member) (got : Told ℕ) → AreInRange (all_stages ms) → ChainedIf taken ms got → Chained taken ms got
