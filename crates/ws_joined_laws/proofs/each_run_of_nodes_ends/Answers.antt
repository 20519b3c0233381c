use Rattle.ws_joined_laws.proofs.Finished.{each-run-of-nodes-ends}
use Rattle.ws_joined_laws.proofs.RunEnds.{each-run-tells-its-end}
use Rattle.ws_joined_laws.proofs.each_run_of_nodes_ends.Goals as goal

pub returns : goal.returns
returns c = record { ends = each-run-of-nodes-ends; status = each-run-tells-its-end }
