use Rattle.std.proofs.Common.{◌≡◌, ◌≤◌, ◌+◌, ◌++◌, drop, length}
use Rattle.ws_steps.specs.Pipes.{abort_all}
use Rattle.ws_pipe.proofs.signal.abort_all.Given as goal

-- the effects so far and those of the pipes that are left are the effects of all
abbrev pub invariant-loop-pipe : goal.invariant-loop-pipe
invariant-loop-pipe l = record {
  effects : l.fx.effects ++ abort_all l.reason (drop l.pipe-index l.pipes) ≡ l.initial.fx.effects ++ abort_all l.reason l.pipes;
  room : length l.pipes + length l.fx.effects ≤ l.fx.capacity + l.pipe-index;
  places : l.fx.capacity ≡ l.initial.fx.capacity;
}
