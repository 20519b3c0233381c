use Rattle.std.proofs.Common.{◌≡◌, ◌+◌, ◌≤◌, length}
use Rattle.ws_flow.specs.declared.plan.Ending.TheVariants.{Fine}
use Rattle.ws_flow.specs.Machines.{each_byte}
use Rattle.ws_flow.specs.Stages.{line_byte}
use Rattle.ws_stages.specs.Cuts.{kept_of, with_chunks}
use Rattle.ws_stages.proofs.cut.cut_lines.Given as goal

-- what is left makes of the cut what all bytes make of the first
abbrev pub invariant-loop-left : goal.invariant-loop-left
invariant-loop-left l = record {
  fine : l.cut.ending ≡ Fine;
  seen : with_chunks l.cut.chunks.items (each_byte (line_byte l.stage.0) (kept_of l.cut) l.left) ≡ with_chunks l.fn.cut.chunks.items (each_byte (line_byte l.fn.stage.0) (kept_of l.fn.cut) l.fn.bytes);
  stage : l.stage ≡ l.fn.stage;
  count : l.cut.count ≡ l.fn.cut.count;
  short : length l.left ≤ length l.fn.bytes;
  bytes : l.cut.bytes + length l.left ≤ l.fn.cut.bytes + length l.fn.bytes;
}

abbrev pub decreases-loop-left : goal.decreases-loop-left
decreases-loop-left l = length l.left
