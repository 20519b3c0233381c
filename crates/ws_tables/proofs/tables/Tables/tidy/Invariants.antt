use Rattle.std.proofs.Common.{◌-◌, length}
use Rattle.ws_tables.proofs.Tidying.{Goes}
use Rattle.ws_tables.proofs.tables.Tables.tidy.Given as goal

abbrev pub invariant-loop-p : goal.invariant-loop-p
invariant-loop-p l = record {
  goes : Goes l.from.0 l.initial.self l.self;
}

abbrev pub decreases-loop-p : goal.decreases-loop-p
decreases-loop-p l = length l.self.promises.table.entries - l.from.0
