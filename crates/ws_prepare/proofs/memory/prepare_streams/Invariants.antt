use Rattle.std.proofs.Common.{◌≡◌, length}
use Rattle.ws_tables.specs.View.{slots_of}
use Rattle.ws_tables.specs.Room.{IsCovered}
use Rattle.ws_prepare.specs.Preparing.{StaysBesideStreams}
use Rattle.ws_prepare.proofs.memory.prepare_streams.Given as goal

abbrev pub invariant-loop-i : goal.invariant-loop-i
invariant-loop-i l = record {
  covered : IsCovered l.tables;
  slots : slots_of l.tables ≡ slots_of l.fn.tables;
  rest : StaysBesideStreams l.fn.tables l.tables;
}

abbrev pub decreases-loop-i : goal.decreases-loop-i
decreases-loop-i l = length l.tables.grown.items
