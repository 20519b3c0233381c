use Rattle.std.proofs.Common.{◌-◌}
use Rattle.crossbeam_queue.specs.Passes.{view, IsPassOf}
use Rattle.ws_first_port.proofs.Rests.{Emptying}
use Rattle.ws_first_port.proofs.meeting.emptied.Given as goal

abbrev pub invariant-loop-count : goal.invariant-loop-count
invariant-loop-count g l = IsPassOf l.line l.pass × Emptying (view l.fn.pass).sent (view l.fn.pass).received (view l.pass) l.places l.count

abbrev pub decreases-loop-count : goal.decreases-loop-count
decreases-loop-count g l = 8 - l.count
