use Rattle.std.proofs.Common.{◌+◌, ◌*◌, ◌≤◌, ◌^◌, length}
use Rattle.ws_realm.specs.Seen.{oldest}
use Rattle.ws_script.specs.Printed.{lines_text, script_text}
use Rattle.ws_script.specs.Printing.{PrintsSoFar}
use Rattle.ws_script.proofs.perform.print_lines.Given as goal

-- the lines that wait print what is left of the script's text, and the realm has room for their calls and jobs
abbrev pub invariant-loop-line : goal.invariant-loop-line
invariant-loop-line g l = record {
  printed :
      PrintsSoFar
      (record { faults = g.K.Sink.faults l.fn.output; finished = g.K.Sink.finished l.fn.output })
      (record { faults = g.K.Sink.faults l.output; finished = g.K.Sink.finished l.output })
      (g.K.Sink.got l.fn.output) (g.K.Sink.got l.output) (script_text l.fn.lines.items) l.text.items (lines_text l.waiting.items l.realm.slots);
  room : l.realm.slots.age + length l.waiting.items * 2 ^ 32 ≤ oldest;
}

abbrev pub decreases-loop-line : goal.decreases-loop-line
decreases-loop-line g l = length l.waiting.items
