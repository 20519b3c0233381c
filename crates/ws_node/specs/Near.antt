-- How far a node reads ahead that is fed by the input and feeds an edge, without stages between them: by the pieces that it read.
use Rattle.std.specs.Prelude.{◌≡◌, ◌+◌, ◌≤◌, ℕ, min, true, false, [], length, None}
use Rattle.ws_steps.specs.PortHistory.{asks_in, chunks_in}
use Rattle.ws_node_laws.specs.Asks.{pulls_in}
use Rattle.ws_node.specs.declared.node.Node.{Node}
use Rattle.ws_node.specs.Messages.{fairly}
use Rattle.ws_node.specs.Node.{feeds_edge, given_at, is_edge, received_at}

pub record IsHead (n : Node) : Type 0 where
  pub from : is_edge n.entrance.input ≡ false
  pub into : feeds_edge n.exit.output ≡ true
  pub bare : n.core.stages.items ≡ []

-- It read so many pieces. While it goes on it gave the edge as many chunks, or one fewer where some of what it read isn't had. They are one more at most
-- than the pulls that came up; and where no error came up, nothing but pulls asked for a chunk
pub record IsNear (pieces : ℕ) (n : Node) : Type 0 where
  pub given : n.core.stopped ≡ None → pieces ≤ length (chunks_in (given_at n.exit.below)) + min n.entrance.ahead 1
  pub pulled : pieces ≤ pulls_in (received_at n.exit.below) + 1
  pub unbroken : n.exit.broken ≡ false → asks_in (fairly (received_at n.exit.below)) ≡ pulls_in (received_at n.exit.below)
