use Rattle.std.proofs.Common.{sym, subst, List, ℕ, Result}
use Rattle.ws_io.specs.declared.outside.Failed.{Failed}
use Rattle.ws_node.specs.Moves.{Takes}
use Rattle.ws_node.proofs.node.Node.take.Goals as goal

pub returns-in-Err : goal.returns-in-Err
returns-in-Err c = subst (λ (piece : Result (List ℕ) Failed). Takes piece c.args.self.now c.ask.new.self) (sym c.in-Err.is) c.ask.ensures
