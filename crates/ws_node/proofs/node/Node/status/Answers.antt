use Rattle.std.proofs.Common.{Some, sym, subst}
use Rattle.ws_io.specs.declared.status.Status.{Status}
use Rattle.ws_node.specs.Ends.{EndsAs}
use Rattle.ws_node.proofs.Ending.{outcome-not_given, outcome-not_finished, ends-well, ends-badly}
use Rattle.ws_node.proofs.node.Node.status.Goals as goal

pub unreachable-requires : goal.unreachable-requires
unreachable-requires c = outcome-not_given c.args.self.now c.outcome.result.now c.in-Given.field-0 c.requires.driven c.outcome.ensures c.in-Given.is

pub unreachable-requires-in-Finished : goal.unreachable-requires-in-Finished
unreachable-requires-in-Finished c = outcome-not_finished c.args.self.now c.outcome.result.now c.in-Finished.field-0 c.requires.driven c.outcome.ensures c.in-Finished.is

pub returns-in-Fulfilled : goal.returns-in-Fulfilled
returns-in-Fulfilled c = ends-well c.args.self.now c.outcome.result.now c.in-Fulfilled.field-0 c.requires.driven c.requires.sunk c.outcome.ensures c.in-Fulfilled.is

pub returns-in-Rejected : goal.returns-in-Rejected
returns-in-Rejected c =
    subst (λ (s : Status). EndsAs (Some s) c.args.self.now) (sym c.unless_finished-in-Rejected.ensures)
    (ends-badly c.args.self.now c.outcome.result.now c.in-Rejected.reason c.status_of.result c.requires.driven c.requires.sunk c.outcome.ensures c.in-Rejected.is c.status_of.ensures)
