-- A node between turns, as its realm performs jobs.
use Rattle.ws_io.specs.Gain.{Got, straight}
use Rattle.ws_io.specs.Moment.{Moment, moment}
use Rattle.ws_node.specs.declared.node.Node.{Node}
use Rattle.ws_node.specs.Moves.{Works}
use Rattle.ws_node.specs.Past.{Driven}
use Rattle.ws_node.specs.Went.{Went}
use Rattle.ws_node.proofs.Handled.{driven-handled}
use Rattle.ws_node.proofs.Working.{works}
use Rattle.std.specs.Prelude.{None}

pub works-driven : (a b : Node) → Driven a → Works a b → Driven b
works-driven a b d w =
    let p : Got = straight (λ xs. Unit {0}) in
    driven-handled d.shape d.past a b (moment 0 None 0 None) (moment 0 None 0 None) p p d.since (works d.shape d.past a b (moment 0 None 0 None) p d.since w)

pub works-went : (a b : Node) (m : Moment) (p : Got) → Driven a → Works a b → Went a b m m p p
works-went a b m p d w = (works d.shape d.past a b m p d.since w).went
