use Rattle.std.proofs.Common.{List, ap, arith}
use Rattle.ws_steps.specs.Pipes as pipe
use Rattle.ws_tables.specs.View.{slots_of, signal_of}
use Rattle.ws_tables.proofs.Elements.{stands-at, map-put}
use Rattle.ws_prepare.proofs.memory.prepare_signal.Goals as goal

pub returns-clause-slots : goal.returns-clause-slots
returns-clause-slots c =
    let old = c.args.tables.now in
    let is = stands-at old.signals.items c.args.a.0 c.index_mut.result.now c.index_mut.result.now (omega arith) c.index_mut.ensures.value in
    ap (λ (xs : List pipe.Signal). record (slots_of old) { signals = xs })
    (map-put signal_of old.signals.items c.args.a.0 c.index_mut.result.now c.reserve.new.self is c.reserve.ensures.signal)
