use Rattle.std.proofs.Common.{refl}
use Rattle.ws_io.proofs.Emptied.{emptied-leaves}
use Rattle.ws_plan.specs.PlanText.{check_text}
use Rattle.ws_cli.specs.Check.{shelf}
use Rattle.ws_cli.proofs.Checking.{Checks-printed, Ends-checked, Ends-unread, Performs-check, Unwritten}
use Rattle.ws_cli.proofs.check.run_check.Goals as goal

pub returns-in-Ok-clause-does : goal.returns-in-Ok-clause-does
returns-in-Ok-clause-does g c =
    let files = shelf (g.F.Files.texts c.args.files.now) (g.F.Files.faults c.args.files.now) (g.F.Files.loads c.args.files.now) in
    let files' = shelf (g.F.Files.texts c.load_plan.new.files) (g.F.Files.faults c.load_plan.new.files) (g.F.Files.loads c.load_plan.new.files) in
    let was = c.args.output.now in
    let is = c.print_plan.new.output in
    let loads = c.in-Ok.ensures.loads in
    Performs-check c.print_plan.result c.args.name.now was is files files'
    (record { faults = g.K.Sink.faults was; finished = g.K.Sink.finished was })
    (record { faults = g.K.Sink.faults is; finished = g.K.Sink.finished is })
    (g.K.Sink.got was) (g.K.Sink.got is) c.load_plan.ensures.once
    (Ends-checked c.print_plan.result c.args.name.now loads.text files files'
    (record { faults = g.K.Sink.faults was; finished = g.K.Sink.finished was })
    (record { faults = g.K.Sink.faults is; finished = g.K.Sink.finished is })
    (g.K.Sink.got was) (g.K.Sink.got is) loads.loaded loads.calm
    (Checks-printed c.print_plan.result loads.text c.in-Ok.plan
    (record { faults = g.K.Sink.faults was; finished = g.K.Sink.finished was })
    (record { faults = g.K.Sink.faults is; finished = g.K.Sink.finished is })
    (g.K.Sink.got was) (g.K.Sink.got is) loads.read c.print_plan.ensures.ends))
    (Unwritten c.print_plan.result (check_text c.in-Ok.plan) was is
    (record { faults = g.K.Sink.faults was; finished = g.K.Sink.finished was })
    (record { faults = g.K.Sink.faults is; finished = g.K.Sink.finished is })
    (g.K.Sink.got was) (g.K.Sink.got is) c.print_plan.ensures.ends c.print_plan.ensures.unwritten)

pub returns-in-Err-clause-does : goal.returns-in-Err-clause-does
returns-in-Err-clause-does g c =
    let files = shelf (g.F.Files.texts c.args.files.now) (g.F.Files.faults c.args.files.now) (g.F.Files.loads c.args.files.now) in
    let files' = shelf (g.F.Files.texts c.load_plan.new.files) (g.F.Files.faults c.load_plan.new.files) (g.F.Files.loads c.load_plan.new.files) in
    let was = c.args.output.now in
    Performs-check c.in-Err.status c.args.name.now was was files files'
    (record { faults = g.K.Sink.faults was; finished = g.K.Sink.finished was })
    (record { faults = g.K.Sink.faults was; finished = g.K.Sink.finished was })
    (g.K.Sink.got was) (g.K.Sink.got was) c.load_plan.ensures.once
    (Ends-unread c.in-Err.status c.args.name.now files files'
    (record { faults = g.K.Sink.faults was; finished = g.K.Sink.finished was }) (g.K.Sink.got was) c.in-Err.ensures.loads)
    (λ not_done not_failed. refl)

pub returns-in-Err-clause-emptied : goal.returns-in-Err-clause-emptied
returns-in-Err-clause-emptied g c = emptied-leaves c.in-Err.status (g.K.Sink.got c.args.output.now)
