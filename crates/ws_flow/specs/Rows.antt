-- The messages between nodes, and a place before one of a node's stages.
use Rattle.std.specs.Prelude.{◌≡◌, ℕ, List, [], ◌∷◌, ◌++◌}
use Rattle.ws_value.specs.declared.value.Message.{Message}
use Rattle.ws_value.specs.declared.value.Message.TheVariants.{Pull, Chunk, Close, Error}
use Rattle.ws_value.specs.declared.value.Value.{Value}
use Rattle.ws_value.specs.declared.value.Value.TheVariants.{Plain, Bytes}
use Rattle.ws_flow.specs.Told.{Open, Closed, Lost, Told, told, then_told, IsShortOf}
use Rattle.ws_flow.specs.Machines.{Machine}
use Rattle.ws_flow.specs.Parts.{Part, Goes, Flows}

-- the bytes of a value, which are none where it isn't bytes
abbrev pub value_bytes : Value → List ℕ
value_bytes (Plain p) = []
value_bytes (Bytes c) = c

-- what a row told: its chunks, closed where it ended with a Close
abbrev pub told_by : List Message → Told (List ℕ)
told_by [] = told [] Open
told_by (Pull ∷ ms) = told_by ms
told_by (Chunk v ∷ ms) = then_told (told (value_bytes v ∷ []) Open) (told_by ms)
told_by (Close ∷ ms) = told [] Closed
told_by (Error r ∷ ms) = told [] Lost

-- what is between two stages: what the realm handed to the next and wasn't pushed, what lies on the link between them, and what came
-- out of the one before and isn't enqueued
pub record Place : Type 0 where
  pub waiting : Told (List ℕ)
  pub link : Told (List ℕ)
  pub coming : Told (List ℕ)

abbrev pub in_place : Place → Told (List ℕ)
in_place p = then_told p.waiting (then_told p.link p.coming)

-- what a realm owes for a link in a step: what it hands on, with what lies there then, is what lay there with what entered, or was cut
-- short of it
abbrev pub LinkKeeps : Told (List ℕ) → Told (List ℕ) → Told (List ℕ) → Told (List ℕ) → Type 0
LinkKeeps handed new old entered = IsShortOf (then_told handed new) (then_told old entered)

-- a turn of a node with two rows: what it took, what it posted, and how its parts went on
pub record Turned (ms : List Machine) (received0 received1 sent0 sent1 : List Message) (ps : List Part) (behind0 : Told (List ℕ)) (qs : List Part) (behind1 : Told (List ℕ)) : Type 0 where
  pub taken : List Message
  pub posted : List Message
  pub received : received1 ≡ received0 ++ taken
  pub sent : sent1 ≡ sent0 ++ posted
  pub goes : Goes ms (told_by taken) ps behind0 qs (then_told (told_by posted) behind1)

-- the relation between a node's state and the lists of its rows
abbrev pub Relates : List Machine → List Message → List Message → List Part → Told (List ℕ) → Type 0
Relates ms received sent ps behind = Flows ms (told_by received) ps (then_told (told_by sent) behind)
