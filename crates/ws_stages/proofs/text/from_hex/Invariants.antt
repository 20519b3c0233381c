use Rattle.std.proofs.Common.{◌≡◌, ◌+◌, ◌≤◌, [], take}
use Rattle.ws_flow.specs.declared.plan.Ending.TheVariants.{Fine}
use Rattle.ws_flow.specs.Machines.{each_byte}
use Rattle.ws_flow.specs.Stages.{IsHalf, unhex_byte}
use Rattle.ws_stages.specs.Cuts.{kept_of, seen_text, with_text}
use Rattle.ws_stages.proofs.text.from_hex.Given as goal

abbrev pub invariant-loop-byte : goal.invariant-loop-byte
invariant-loop-byte l = record {
  fine : l.cut.ending ≡ Fine;
  seen : seen_text l.cut l.text.items ≡ with_text [] (each_byte unhex_byte (kept_of l.initial.cut) (take l.byte-index l.bytes));
  half : IsHalf l.cut.rest.items;
  count : l.cut.count ≡ l.initial.cut.count;
  chunks : l.cut.chunks.items ≡ l.initial.cut.chunks.items;
  bytes : l.cut.bytes ≤ l.initial.cut.bytes + l.byte-index;
}
