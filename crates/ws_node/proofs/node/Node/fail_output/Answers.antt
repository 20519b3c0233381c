use Rattle.std.proofs.Common.{subst}
use Rattle.ws_value.specs.declared.fault.Fault.{Fault}
use Rattle.ws_node.specs.declared.node.Output.{Output}
use Rattle.ws_node.specs.Moves.{Asks, fails, fault_of}
use Rattle.ws_node.proofs.node.Node.fail_output.Goals as goal

pub returns : goal.returns
returns c =
    subst (λ (o : Output). Asks (fails c.args.id (fault_of o)) (record c.args.self.now { exit = record c.args.self.now.exit { output = o } }) c.fail.new.self) c.shut-self.ensures
    (subst (λ (fault : Fault). Asks (fails c.args.id fault) (record c.args.self.now { exit = record c.args.self.now.exit { output = c.shut-self.result } }) c.fail.new.self) c.fault.ensures c.fail.ensures)
