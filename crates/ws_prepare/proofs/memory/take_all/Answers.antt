use Rattle.std.proofs.Common.{◌≡◌, ◌∙◌, length, ap, arith}
use Rattle.std.specs.Prelude.{vec_len}
use Rattle.ws_tables.specs.declared.tables.Tables.{Tables}
use Rattle.ws_prepare.proofs.Preparing.{grown-room, made-prepared}
use Rattle.ws_prepare.proofs.memory.take_all.Goals as goal

pub returns-clause-ok : goal.returns-clause-ok
returns-clause-ok c =
    let agenda = c.prepare_agenda.ensures.rest.tables in
    let signals = c.prepare_signals.ensures.rest.tables in
    let copies = c.copy_chunks.ensures.rest in
    let tees = ap (λ (t : Tables). vec_len t.tees) agenda in
    let items = ap length c.in_ok-reserve-7.ensures.items in
    let many : vec_len c.reserve-7.new.self ≡ vec_len c.prepare_agenda.new.tables.tees = omega (arith, items, c.reserve-7.new.self.ok.0, c.prepare_agenda.new.tables.tees.ok.0) in
    let waits = ap (λ (t : Tables). t.waiting) agenda in
    let aborts = ap (λ (t : Tables). t.aborts) agenda in
    let base = c.in-Some.ensures in
    let most = c.max-base.ensures in
    let jobs = c.in-Some-checked_add.ensures in
    let turns = c.in-Some-checked_add-2.ensures in
    let queue = c.in_ok-reserve_jobs.ensures in
    made-prepared _ c.max-base.result c.in-Some-checked_add.jobs c.in-Some-checked_add-2.turns (omega (arith, base, most, aborts, tees, many)) (omega (arith, jobs, waits)) (omega (arith, turns, waits))
    (record {
      places =
          rw (c.in_ok-reserve-5.ensures.items ∙ (ap (λ (t : Tables). t.streams.items) agenda ∙ (ap (λ (t : Tables). t.streams.items) copies.tables ∙ ap (λ (t : Tables). t.streams.items) signals)))
          c.in_ok-prepare_streams.ensures.ok;
      members = rw (c.in_ok-reserve-10.ensures.items ∙ (ap (λ (t : Tables). t.signals.items) agenda ∙ ap (λ (t : Tables). t.signals.items) copies.tables)) c.in_ok-prepare_signals.ensures.ok;
      copies = rw (c.in_ok-reserve-7.ensures.items ∙ ap (λ (t : Tables). t.tees.items) agenda) c.in_ok-copy_chunks.ensures.ok;
    })
    (record { caused = c.in_ok-prepare_agenda.ensures.ok.caused; others = c.in_ok-prepare_agenda.ensures.ok.others; under_way = c.in_ok-prepare_agenda.ensures.ok.under_way })
    (grown-room _ c.reserve.new.self c.reserve_jobs.new.self queue.table queue.grows c.in_ok-reserve.ensures.ok)
    queue.ok
    (record {
      hosts = let h = c.in_ok-reserve-2.ensures.ok in omega (arith, h);
      grown = let h = c.in_ok-reserve-11.ensures.ok in omega (arith, h);
      full = let h = c.in_ok-reserve-12.ensures.ok in omega (arith, h);
    })
    (record {
      locks = let h = c.in_ok-reserve-4.ensures.ok in omega (arith, h);
      byob_requests = let h = c.in_ok-reserve-3.ensures.ok in omega (arith, h);
      streams = let h = c.in_ok-reserve-5.ensures.ok in omega (arith, h);
      transforms = let h = c.in_ok-reserve-6.ensures.ok in omega (arith, h);
      tees = let h = c.in_ok-reserve-7.ensures.ok in omega (arith, h);
      ports = let h = c.in_ok-reserve-8.ensures.ok in omega (arith, h);
      pipes = let h = c.in_ok-reserve-9.ensures.ok in omega (arith, h);
      signals = let h = c.in_ok-reserve-10.ensures.ok in omega (arith, h);
    })
