-- A node that was led on, and how it went there.
use Rattle.std.proofs.Common.{◌≡◌, ℕ, List, None}
use Rattle.ws_node.specs.Shape.{Shape}
use Rattle.ws_io.specs.Gain.{Got}
use Rattle.ws_io.specs.Feed.{Feed}
use Rattle.ws_io.specs.Moment.{Moment, moment}
use Rattle.std.specs.Prelude.{Option}
use Rattle.ws_steps.specs.Run.{Entry}
use Rattle.ws_node.specs.declared.node.Node.{Node}
use Rattle.ws_node.specs.Moves.{Shown}
use Rattle.ws_node.specs.Past.{Led, ArePushed, EndsHave, HasOne, Since, Driven}
use Rattle.ws_node.specs.Went.{Went}
use Rattle.ws_node.proofs.Going.{fed-went}

pub record Handled (shape : Shape) (a b : Node) (old new : Moment) (p q : Got) : Type 0 where
  pub past : List Entry
  pub led : Led shape past b
  pub pushes : b.core.stopped ≡ None → ArePushed b.core.realm.slots.age b.core.stages.items
  pub one : HasOne b
  pub ends : EndsHave shape past b
  pub went : Went a b old new p q

-- the moment between two looks at the output
abbrev pub shows : ℕ → Option Feed → Shown → Moment
shows faults feed shown = moment faults feed shown.faults shown.finished

pub since-handled : (shape : Shape) (past : List Entry) (a b : Node) (old new : Moment) (p q : Got) → Since shape past a → (h : Handled shape a b old new p q) → Since shape h.past b
since-handled shape past a b old new p q s h =
    record { led = h.led; pushes = h.pushes; one = h.one; fed = fed-went shape.stages a b old new p q s.fed s.led.is_of.stages h.went; ends = h.ends }

pub driven-handled : (shape : Shape) (past : List Entry) (a b : Node) (old new : Moment) (p q : Got) → Since shape past a → Handled shape a b old new p q → Driven b
driven-handled shape past a b old new p q s h = record { shape = shape; past = h.past; since = since-handled shape past a b old new p q s h }
