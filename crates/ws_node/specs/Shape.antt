-- The shape of a node: what stays of it from its making on. What is shown of a node between turns is said of its shape and of all that led to it; only its
-- making knows of a plan.
use Rattle.std.specs.Prelude.{◌≡◌, ◌≤◌, ℕ, Bool, true, false, List, length}
use Rattle.std.specs.List.{count_by, list_all}
use Rattle.ws_flow.specs.declared.plan.Stage.{Stage}
use Rattle.ws_flow.specs.Plans.{is_hex}
use Rattle.ws_flow.specs.Stages.{is_in_range}
use Rattle.ws_wire_laws.specs.Wire.{Joint}
use Rattle.ws_value.specs.declared.value.Value.{Value}
use Rattle.ws_steps.specs.declared.calls.Call.{Call}
use Rattle.ws_steps.specs.declared.calls.Event.{Event}
use Rattle.ws_flow.specs.Told.{Told}
use Rattle.ws_chain_laws.specs.Chain.{Origin, FromChunks, FromBytes, FromPort, Target, ToSink, ToPort, links_of, call_enters, heard_at}

pub record Shape : Type 0 where
  -- the kinds of its first source and of its last destination
  pub origin : Origin
  pub target : Target
  pub stages : List Stage
  -- whether the last pipe has a signal
  pub aborted : Bool
  -- the most bytes that the run may take
  pub most : ℕ

-- how many transform streams it has, and the links of its realm in order
abbrev pub count_in : Shape → ℕ
count_in shape = length shape.stages

abbrev pub links_in : Shape → List Joint
links_in shape = links_of shape.origin shape.target (count_in shape)

-- what a call brings to its link k, and what an event tells of it

abbrev pub enters_in : Shape → ℕ → Call → Told Value
enters_in shape k c = call_enters shape.origin k c

abbrev pub hears_in : Shape → ℕ → Event → Told Value
hears_in shape k e = heard_at shape.origin shape.target (count_in shape) k e

-- whether it is fed by an edge, and whether it feeds one

abbrev pub is_from_edge : Origin → Bool
is_from_edge FromChunks = false
is_from_edge FromBytes = false
is_from_edge FromPort = true

abbrev pub is_to_edge : Target → Bool
is_to_edge ToSink = false
is_to_edge ToPort = true

-- stages as a plan may have them that isn't refused: so what lies between them stays short
pub record AreFit (stages : List Stage) : Type 0 where
  pub few : length stages ≤ 16
  pub range : list_all is_in_range stages ≡ true
  pub hex : count_by is_hex stages ≤ 4
