use Rattle.std.proofs.Common.{◌≡◌, length}
use Rattle.ws_tables.specs.View.{slots_of}
use Rattle.ws_tables.specs.Room.{HaveMembers}
use Rattle.ws_prepare.specs.Preparing.{StaysBesideSignals}
use Rattle.ws_prepare.proofs.memory.prepare_signals.Given as goal

abbrev pub invariant-loop-a : goal.invariant-loop-a
invariant-loop-a l = record {
  members : HaveMembers l.tables;
  slots : slots_of l.tables ≡ slots_of l.fn.tables;
  rest : StaysBesideSignals l.fn.tables l.tables;
}

abbrev pub decreases-loop-a : goal.decreases-loop-a
decreases-loop-a l = length l.tables.full.items
