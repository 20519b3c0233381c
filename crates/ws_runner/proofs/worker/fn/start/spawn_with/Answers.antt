use Rattle.ws_node.specs.Nodes.{any_bytes, of_neither}
use Rattle.ws_node.proofs.Going.{went-same}
use Rattle.ws_runner.proofs.worker.fn.start.spawn_with.Goals as goal

pub returns-then-is_refused : goal.returns-then-is_refused
returns-then-is_refused g c = went-same c.captures.node of_neither any_bytes
