use Rattle.std.proofs.Common.{◌∙◌, List, ap, arith}
use Rattle.std.specs.Vec.{with_item}
use Rattle.ws_steps.specs.Tee as tee
use Rattle.ws_tables.specs.View.{slots_of, tee_of}
use Rattle.ws_tables.specs.declared.tables.Tables.{Tables}
use Rattle.ws_tables.proofs.Elements.{stands-at, map-put}
use Rattle.ws_prepare.proofs.Copies.{ready-next, all-ready}
use Rattle.ws_prepare.proofs.memory.copy_chunks.Goals as goal

pub returns-in_err-prepare-clause-slots : goal.returns-in_err-prepare-clause-slots
returns-in_err-prepare-clause-slots c =
    let xs = c.loop-at.tables.tees.items in
    let is = stands-at xs c.loop-at.at c.index_mut.result.now c.index_mut.result.now (omega arith) c.index_mut.ensures.value in
    ap (λ (ts : List tee.Slots). record (slots_of c.loop-at.tables) { tees = ts })
    (map-put tee_of xs c.loop-at.at c.index_mut.result.now c.prepare.new.self is c.prepare.ensures.slots)
    ∙ c.loop-at.invariant.slots

pub loop-at-preserved : goal.loop-at-preserved
loop-at-preserved c =
    let xs = c.loop-at.tables.tees.items in
    let was = c.loop-at.invariant in
    let is = stands-at xs c.loop-at.at c.index_mut.result.now c.index_mut.result.now (omega arith) c.index_mut.ensures.value in
    record {
      ready = ready-next xs c.loop-at.at c.prepare.new.self was.ready c.in_ok-prepare.ensures.ok;
      slots =
          ap (λ (ts : List tee.Slots). record (slots_of c.loop-at.tables) { tees = ts })
          (map-put tee_of xs c.loop-at.at c.index_mut.result.now c.prepare.new.self is c.prepare.ensures.slots)
          ∙ was.slots;
      rest = record {
        tables = ap (λ (t : Tables). record t { tees = with_item c.loop-at.tables.tees c.loop-at.at c.prepare.new.self }) was.rest.tables;
        length = was.rest.length;
        capacity = was.rest.capacity;
      };
      uncopied = was.uncopied;
    }

pub returns-clause-ok : goal.returns-clause-ok
returns-clause-ok c =
    let xs = c.loop-at.tables.tees.items in
    all-ready xs c.loop-at.at (omega (arith, c.loop-at-test.false, c.loop-at.tables.tees.ok.0)) c.loop-at.invariant.ready

pub returns-clause-ready : goal.returns-clause-ready
returns-clause-ready c is =
    let xs = c.loop-at.tables.tees.items in
    all-ready xs c.loop-at.at (omega (arith, c.loop-at-test.false, c.loop-at.tables.tees.ok.0)) c.loop-at.invariant.ready
