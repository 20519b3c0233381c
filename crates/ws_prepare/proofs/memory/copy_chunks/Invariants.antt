use Rattle.std.proofs.Common.{◌≡◌, ◌-◌, true, length}
use Rattle.ws_tables.specs.View.{slots_of}
use Rattle.ws_prepare.specs.Preparing.{StaysBesideTees}
use Rattle.ws_prepare.proofs.Copies.{AreReady}
use Rattle.ws_prepare.proofs.memory.copy_chunks.Given as goal

-- the tees so far can hand on what they hold
abbrev pub invariant-loop-at : goal.invariant-loop-at
invariant-loop-at l = record {
  ready : AreReady l.at l.tables.tees.items;
  slots : slots_of l.tables ≡ slots_of l.fn.tables;
  rest : StaysBesideTees l.fn.tables l.tables;
  uncopied : l.tables.uncopied ≡ true;
}

abbrev pub decreases-loop-at : goal.decreases-loop-at
decreases-loop-at l = length l.tables.tees.items - l.at
