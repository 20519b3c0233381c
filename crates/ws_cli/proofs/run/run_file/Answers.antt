use Rattle.std.proofs.Common.{sym, subst}
use Rattle.std.specs.Prelude.{Err}
use Rattle.ws_io.specs.Moment.{moment}
use Rattle.ws_io.specs.declared.status.Status.{Status}
use Rattle.ws_io.proofs.Emptied.{emptied-leaves}
use Rattle.ws_cli.specs.Check.{shelf}
use Rattle.ws_cli.specs.Planned.{Loads}
use Rattle.ws_cli.proofs.Running.{Performs-ran, Performs-unread}
use Rattle.ws_cli.proofs.run.run_file.Goals as goal

pub returns-in-Ok-clause-performs : goal.returns-in-Ok-clause-performs
returns-in-Ok-clause-performs g c =
    Performs-ran c.run_nodes.result.status c.run_nodes.result.edges.items c.args.trace c.args.name.now c.args.input.now c.run_nodes.new.input c.args.output.now c.run_nodes.new.output
    (shelf (g.F.Files.texts c.args.files.now) (g.F.Files.faults c.args.files.now) (g.F.Files.loads c.args.files.now))
    (shelf (g.F.Files.texts c.load_plan.new.files) (g.F.Files.faults c.load_plan.new.files) (g.F.Files.loads c.load_plan.new.files))
    (moment (g.S.Source.faults c.args.input.now) (g.S.Source.feed c.args.input.now) (g.K.Sink.faults c.args.output.now) (g.K.Sink.finished c.args.output.now))
    (moment (g.S.Source.faults c.run_nodes.new.input) (g.S.Source.feed c.run_nodes.new.input) (g.K.Sink.faults c.run_nodes.new.output) (g.K.Sink.finished c.run_nodes.new.output))
    (g.K.Sink.got c.args.output.now) (g.K.Sink.got c.run_nodes.new.output)
    c.in-Ok.plan c.load_plan.ensures.once c.in-Ok.ensures.loads c.run_nodes.ensures.finishes.ends c.run_nodes.ensures.finishes.edges

pub returns-in-Err-clause-performs : goal.returns-in-Err-clause-performs
returns-in-Err-clause-performs g c =
    let now = moment (g.S.Source.faults c.args.input.now) (g.S.Source.feed c.args.input.now) (g.K.Sink.faults c.args.output.now) (g.K.Sink.finished c.args.output.now) in
    let files = shelf (g.F.Files.texts c.args.files.now) (g.F.Files.faults c.args.files.now) (g.F.Files.loads c.args.files.now) in
    let files' = shelf (g.F.Files.texts c.load_plan.new.files) (g.F.Files.faults c.load_plan.new.files) (g.F.Files.loads c.load_plan.new.files) in
    let ended = c.without_edges.result in
    Performs-unread ended.status ended.edges.items c.args.trace c.args.name.now c.args.input.now c.args.output.now files files' now
    (g.K.Sink.got c.args.output.now) c.load_plan.ensures.once
    (subst (λ (s : Status). Loads (Err s) c.args.name.now files files') (sym c.without_edges.ensures.status) c.in-Err.ensures.loads)
    c.without_edges.ensures.edges

pub returns-in-Err-clause-emptied : goal.returns-in-Err-clause-emptied
returns-in-Err-clause-emptied g c = emptied-leaves c.without_edges.result.status (g.K.Sink.got c.args.output.now)
