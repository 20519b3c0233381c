use Rattle.std.proofs.Common.{ap, ◌∙◌}
use Rattle.std.specs.Prelude.{◌==◌}
use Rattle.ws_node.proofs.EndSteps.{waits-down, no-room-down}
use Rattle.ws_node.proofs.node.Node.wait_below.Goals as goal

pub returns-in-Err : goal.returns-in-Err
returns-in-Err c =
    no-room-down c.args.message c.args.self.now c.in-Some.end c.push.new.self c.is_empty.result c.had_of.new.self (c.is_empty.ensures ∙ ap (λ k. k == 0) c.args.self.now.core.stages.ok.0) c.had_of.ensures c.in-Some.is c.in-Err.ensures.refused

pub returns-in_default-push : goal.returns-in_default-push
returns-in_default-push c =
    waits-down c.args.message c.args.self.now c.in-Some.end c.push.new.self c.is_empty.result c.had_of.new.self (c.is_empty.ensures ∙ ap (λ k. k == 0) c.args.self.now.core.stages.ok.0) c.had_of.ensures c.in-Some.is c.in_default-push.ensures.waits
