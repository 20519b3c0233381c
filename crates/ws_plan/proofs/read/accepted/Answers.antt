use Rattle.ws_flow.specs.Plans.{refusal}
use Rattle.ws_plan.specs.Answers.{planned_as}
use Rattle.ws_plan.proofs.Found.{refused_for}
use Rattle.ws_plan.proofs.read.accepted.Goals as goal

pub returns-in-Err : goal.returns-in-Err
returns-in-Err c = refused_for (planned_as c.args.plan) (refusal c.args.plan) c.in-Err.cause c.in-Err.ensures
