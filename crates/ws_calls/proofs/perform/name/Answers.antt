use Rattle.std.proofs.Common.{refl}
use Rattle.ws_tables.proofs.Counts.{watch-more}
use Rattle.ws_calls.proofs.perform.name.Goals as goal

pub returns-in-Promise-clause-rest : goal.returns-in-Promise-clause-rest
returns-in-Promise-clause-rest c = record {
  caused = refl;
  others = refl;
  under_way = refl;
  records = record { streams = refl; grown = refl; waiting = refl; pipes = refl; signals = refl; full = refl; aborts = refl; tees = refl; uncopied = refl };
  age = refl;
  promises = rw c.watch.ensures.table (watch-more c.in-Promise.promise c.args.tables.now.promises.table);
}
