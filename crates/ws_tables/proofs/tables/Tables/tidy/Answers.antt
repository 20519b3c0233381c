use Rattle.std.proofs.Common.{◌+◌, refl}
use Rattle.ws_tables.specs.View.{slots_of}
use Rattle.ws_alike.proofs.Tidying.{tidied-begins}
use Rattle.ws_tables.proofs.Tidying.{goes-on, goes-to-end}
use Rattle.ws_tables.proofs.tables.Tables.tidy.Goals as goal

pub loop-p-init : goal.loop-p-init
loop-p-init c = record { goes = record { tidied = tidied-begins (slots_of c.args.self.now); rest = refl } }

pub loop-p-preserved : goal.loop-p-preserved
loop-p-preserved c = record {
  goes = goes-on c.loop-p.from.0 (c.in-Some.p.0 + 1) c.in-Some.p c.args.self.now c.loop-p.self c.release_unnamed.new.self refl c.loop-p.invariant.goes c.in-Some.ensures.some.2 c.release_unnamed.ensures.named c.release_unnamed.ensures.unnamed;
}

pub returns : goal.returns
returns c = goes-to-end c.loop-p.from.0 c.args.self.now c.loop-p.self c.loop-p.invariant.goes c.in_default.ensures.none
