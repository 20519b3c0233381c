-- A chain of nodes with the lists of their ends. One form serves the node of a run without workers, the head, the middles and the tail.
use Rattle.std.specs.Prelude.{◌≡◌, ℕ, List, [], ◌∷◌, ◌++◌}
use Rattle.ws_value.specs.declared.value.Message.{Message}
use Rattle.ws_flow.specs.declared.plan.Stage.{Stage}
use Rattle.ws_flow.specs.Told.{Told, then_told, IsBefore, bytes_of}
use Rattle.ws_flow.specs.Stages.{machines}
use Rattle.ws_flow.specs.Parts.{Part, Flows}
use Rattle.ws_flow.specs.Rows.{told_by}

-- where a node is fed or feeds: the input or the output of the run, told in bytes, or a row
pub data Way : Type 0 where
  Host : Told ℕ → Way
  Row : List Message → Way

-- what came in by a way: at the input its bytes, cut in any way
abbrev pub Came : Way → Told (List ℕ) → Type 0
Came (Host b) x = bytes_of x ≡ b
Came (Row r) x = x ≡ told_by r

-- what went out: at the output a first part of the bytes, which may end inside a chunk
abbrev pub Went : Way → Told (List ℕ) → Type 0
Went (Host b) x = IsBefore b (bytes_of x)
Went (Row s) x = x ≡ told_by s

pub record Member : Type 0 where
  pub stages : List Stage
  pub from : Way
  pub parts : List Part
  -- what came out of the last stage and didn't go out
  pub behind : Told (List ℕ)
  pub to : Way

-- The relation of a node: what came in flows through its stages to what went out and what lies behind them
pub record Keeps (m : Member) : Type 0 where
  pub came : Told (List ℕ)
  pub went : Told (List ℕ)
  pub is_came : Came m.from came
  pub is_went : Went m.to went
  pub flows : Flows (machines m.stages) came m.parts (then_told went m.behind)

abbrev pub all_stages : List Member → List Stage
all_stages [] = []
all_stages (m ∷ ms) = m.stages ++ all_stages ms

abbrev pub all_parts : List Member → List Part
all_parts [] = []
all_parts (m ∷ ms) = m.parts ++ all_parts ms

-- from this way on, by each node, to the output: what is sent on an edge is what is received and what is left there
abbrev pub Onward : Way → List Member → Told ℕ → Type 0
Onward (Host b) [] got = b ≡ got
Onward (Row s) (m ∷ ms) got =
    (received : List Message) × (rest : List Message) × (s ≡ received ++ rest) × (m.from ≡ Row received) × (Keeps m) × (Onward m.to ms got)
Onward (Host b) (m ∷ ms) got = ⊥
Onward (Row s) [] got = ⊥

-- A run: the first node reads the input, the last one feeds the output
abbrev pub Chained : Told ℕ → List Member → Told ℕ → Type 0
Chained taken [] got = ⊥
Chained taken (m ∷ ms) got = (m.from ≡ Host taken) × (Keeps m) × (Onward m.to ms got)
