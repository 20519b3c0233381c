use Rattle.std.proofs.lemmas.Bool.{false≢true}
use Rattle.ws_io.specs.Moment.{moment}
use Rattle.ws_cli.specs.Check.{shelf}
use Rattle.ws_cli.proofs.Performing.{Performs-nothing}
use Rattle.ws_cli.proofs.command.perform.Goals as goal

pub returns-in-None-clause-performs : goal.returns-in-None-clause-performs
returns-in-None-clause-performs g c =
    let now = moment (g.S.Source.faults c.args.input.now) (g.S.Source.feed c.args.input.now) (g.K.Sink.faults c.args.output.now) (g.K.Sink.finished c.args.output.now) in
    let ended = c.without_edges-in-None.result in
    Performs-nothing c.args.words.now ended.status ended.edges.items c.args.files.now c.args.input.now c.args.output.now
    (shelf (g.F.Files.texts c.args.files.now) (g.F.Files.faults c.args.files.now) (g.F.Files.loads c.args.files.now)) now now (g.K.Sink.got c.args.output.now) (g.K.Sink.got c.args.output.now)
    c.without_edges-in-None.ensures.status c.without_edges-in-None.ensures.edges
    (λ r. false≢true (c.if-is_alone.ensures.1 r)) (λ s. false≢true (c.if-is_alone-2.ensures.1 s))
    ((λ name. c.in-None.ensures name), (λ name. c.in_default.ensures name), (λ name. c.in_default-file_to_trace.ensures name), c.in_default-generation.ensures)
