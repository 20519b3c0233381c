use Rattle.ws_io.proofs.Emptied.{emptied-leaves}
use Rattle.ws_cli.specs.Check.{shelf}
use Rattle.ws_cli.proofs.Summing.{Performs-generated, Performs-ungenerated}
use Rattle.ws_cli.proofs.generation.run_generation.Goals as goal

pub returns-in-Ok-clause-does : goal.returns-in-Ok-clause-does
returns-in-Ok-clause-does g c =
    let was = c.args.output.now in
    let is = c.generate.new.output in
    let asked = c.args.asked.now in
    Performs-generated c.generate.result asked.count asked.seed asked.file.now was is
    (shelf (g.F.Files.texts c.args.files.now) (g.F.Files.faults c.args.files.now) (g.F.Files.loads c.args.files.now))
    (shelf (g.F.Files.texts c.load_plan.new.files) (g.F.Files.faults c.load_plan.new.files) (g.F.Files.loads c.load_plan.new.files))
    (record { faults = g.K.Sink.faults was; finished = g.K.Sink.finished was })
    (record { faults = g.K.Sink.faults is; finished = g.K.Sink.finished is })
    (g.K.Sink.got was) (g.K.Sink.got is) c.in-Ok.plan c.load_plan.ensures.once c.in-Ok.ensures.loads
    c.generate.ensures.allowed c.generate.ensures.unwritten

pub returns-in-Err-clause-does : goal.returns-in-Err-clause-does
returns-in-Err-clause-does g c =
    let was = c.args.output.now in
    let asked = c.args.asked.now in
    Performs-ungenerated c.in-Err.status asked.count asked.seed asked.file.now was
    (shelf (g.F.Files.texts c.args.files.now) (g.F.Files.faults c.args.files.now) (g.F.Files.loads c.args.files.now))
    (shelf (g.F.Files.texts c.load_plan.new.files) (g.F.Files.faults c.load_plan.new.files) (g.F.Files.loads c.load_plan.new.files))
    (record { faults = g.K.Sink.faults was; finished = g.K.Sink.finished was }) (g.K.Sink.got was)
    c.load_plan.ensures.once c.in-Err.ensures.loads

pub returns-in-Err-clause-emptied : goal.returns-in-Err-clause-emptied
returns-in-Err-clause-emptied g c = emptied-leaves c.in-Err.status (g.K.Sink.got c.args.output.now)
