use Rattle.std.proofs.Common.{◌∙◌, ap, sym, subst, arith}
use Rattle.ws_tables.proofs.Loops.{empty}
use Rattle.ws_tables.specs.Room.{AllCovered}
use Rattle.ws_tables.specs.declared.tables.Tables.{Tables}
use Rattle.ws_prepare.proofs.Preparing.{all-covered, covered-next}
use Rattle.ws_prepare.proofs.memory.prepare_streams.Goals as goal

pub returns-clause-ok : goal.returns-clause-ok
returns-clause-ok c =
    let now = c.loop-i.tables in
    all-covered now.grown.items now.streams.items (empty now.grown.items (omega (arith, now.grown.ok.0, c.in_default.ensures.cases.0))) c.loop-i.invariant.covered

pub loop-i-preserved : goal.loop-i-preserved
loop-i-preserved c =
    let e = c.in_default-prepare_stream.ensures in
    let was = c.loop-i.invariant in
    let new = c.prepare_stream.new.tables in
    record {
      covered =
          subst (λ g. AllCovered g new.streams.items) (ap (λ v. v.items) (sym e.grown))
          (covered-next c.loop-i.tables.grown.items c.pop.new.self.items c.in-Some.i c.loop-i.tables.streams.items new.streams.items c.in-Some.ensures.items was.covered e.places e.ok);
      slots = e.slots ∙ was.slots;
      rest = record { tables = e.rest.tables ∙ ap (λ (t : Tables). record t { streams = new.streams; grown = new.grown }) was.rest.tables };
    }
