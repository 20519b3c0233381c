-- What is answered where something is read from a pipeline file.
use Rattle.std.specs.Prelude.{◌≡◌, Result, Ok, Err}
use Rattle.ws_flow.specs.declared.plan.Plan.{Plan}
use Rattle.ws_flow.specs.declared.refusal.Refusal.{Refusal}
use Rattle.ws_plan.specs.declared.refused.PlanRefused.{PlanRefused}
use Rattle.ws_plan.specs.declared.refused.PlanRefused.TheVariants.{Cause, NoMemory}
use Rattle.ws_plan.specs.Reading.{Planned}

-- `Ok` and `Cause` exactly as read; memory may be wanting
abbrev pub Reads : {A B : Type 0} → (A → B) → Result A PlanRefused → Result B Refusal → Type 0
Reads shows (Ok x) read = read ≡ Ok (shows x)
Reads shows (Err (Cause cause)) read = read ≡ Err cause
Reads shows (Err NoMemory) read = Unit {0}

-- a plan with its stages as a list
abbrev pub planned_as : Plan → Planned
planned_as plan =
    record { workers = plan.workers; abort_after = plan.abort_after; max_input = plan.max_input; stages = plan.stages.items }
