use Rattle.std.proofs.Common.{◌≡◌, drop, map}
use Rattle.ws_steps.specs.Slots.{reads_any}
use Rattle.ws_tables.specs.View.{tee_of}
use Rattle.ws_tables.proofs.tables.Tables.is_teed.Given as goal

-- none of the tees so far reads it
abbrev pub invariant-loop-tee : goal.invariant-loop-tee
invariant-loop-tee l = reads_any l.i (map tee_of (drop l.tee-index l.self.tees.items)) ≡ reads_any l.i (map tee_of l.self.tees.items)
