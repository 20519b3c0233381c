use Rattle.std.proofs.Common.{◌≡◌, ◌+◌, ◌≤◌, take}
use Rattle.ws_flow.specs.declared.plan.Ending.TheVariants.{Fine}
use Rattle.ws_flow.specs.Machines.{each_byte}
use Rattle.ws_stages.specs.Cuts.{kept_of, seen, with_chunks}
use Rattle.ws_stages.proofs.cut.cut_bytes.Given as goal

abbrev pub invariant-loop-byte : goal.invariant-loop-byte
invariant-loop-byte g l = record {
  fine : l.cut.ending ≡ Fine;
  seen : seen l.cut ≡ with_chunks l.initial.cut.chunks.items (each_byte (g.S.ByteStep.step l.stage) (kept_of l.initial.cut) (take l.byte-index l.bytes));
  count : l.cut.count ≡ l.initial.cut.count;
  bytes : l.cut.bytes ≤ l.initial.cut.bytes + l.byte-index;
}
