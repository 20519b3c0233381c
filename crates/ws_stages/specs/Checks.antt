-- The answer of a check.
use Rattle.std.specs.Prelude.{List, map, Option, Some, None, Result, Ok, Err}
use Rattle.ws_flow.specs.declared.plan.Placed.{Placed}
use Rattle.ws_flow.specs.declared.plan.Stage.{Stage}
use Rattle.ws_flow.specs.declared.refusal.Refusal.{Refusal}

abbrev pub stages_in : List Placed → List Stage
stages_in ps = map (λ p. p.stage) ps

abbrev pub answer_of : Option Refusal → Result (Unit {0}) Refusal
answer_of None = Ok tt
answer_of (Some cause) = Err cause
