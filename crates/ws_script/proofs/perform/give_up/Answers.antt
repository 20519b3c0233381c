use Rattle.ws_script.proofs.Flushing.{Stops-later}
use Rattle.ws_script.proofs.perform.give_up.Goals as goal

pub returns-in-Ok : goal.returns-in-Ok
returns-in-Ok g c =
    Stops-later c.stop.result
    (record { faults = g.K.Sink.faults c.args.output.now; finished = g.K.Sink.finished c.args.output.now })
    (record { faults = g.K.Sink.faults c.flush.new.output; finished = g.K.Sink.finished c.flush.new.output })
    (record { faults = g.K.Sink.faults c.stop.new.output; finished = g.K.Sink.finished c.stop.new.output })
    (g.K.Sink.got c.args.output.now) (g.K.Sink.got c.flush.new.output) (g.K.Sink.got c.stop.new.output) c.args.text.now.items c.flush.new.text.items
    c.in-Ok.ensures.ok c.stop.ensures
