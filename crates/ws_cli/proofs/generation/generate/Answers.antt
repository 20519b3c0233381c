use Rattle.std.proofs.Common.{◌≡◌, ℕ, refl, ap, ◌∙◌, arith}
use Rattle.std.specs.Prelude.{Some}
use Rattle.ws_gen.specs.Bytes.{generated}
use Rattle.ws_gen.specs.declared.counts.Counts.{Counts}
use Rattle.ws_io.proofs.Emptied.{emptied-leaves}
use Rattle.ws_io.specs.Feed.{Feed}
use Rattle.ws_io.specs.Moment.{moment}
use Rattle.ws_cli.proofs.Summing.{Allows-ended, Allows-printed}
use Rattle.ws_cli.proofs.generation.generate.Goals as goal

pub returns-in-Done-clause-allowed : goal.returns-in-Done-clause-allowed
returns-in-Done-clause-allowed g c =
    let was = c.args.output.now in
    let is = c.print_summary.new.output in
    let run = c.run_nodes-finished in
    let none = c.none-counts in
    let n = run.new.output in
    let has : c.make-bytes.result.left ≡ generated c.args.count c.args.seed =
    ap (λ (f : Feed). f.left) c.make-bytes.ensures ∙ ap (λ (k : ℕ). generated k c.args.seed) c.from.ensures in
    Allows-printed c.print_summary.result run.result.status c.args.plan.now c.args.count (generated c.args.count c.args.seed)
    none.result.bytes none.result.newlines none.result.sum n.bytes n.newlines n.sum
    (moment 0 (Some c.make-bytes.result) 0 (Some none.result.finished)) (moment 0 (Some run.new.input) 0 (Some n.finished))
    (record { faults = g.K.Sink.faults was; finished = g.K.Sink.finished was })
    (record { faults = g.K.Sink.faults is; finished = g.K.Sink.finished is })
    (g.K.Sink.got was) (g.K.Sink.got is)
    (ap (λ (k : Counts). k.bytes) none.ensures) (ap (λ (k : Counts). k.newlines) none.ensures) (ap (λ (k : Counts). k.sum) none.ensures)
    c.in-Done.is run.ensures.finishes.ends has c.print_summary.ensures.ends

pub returns : goal.returns
returns g c =
    let was = c.args.output.now in
    let run = c.run_nodes-finished in
    let none = c.none-counts in
    let n = run.new.output in
    let has : c.make-bytes.result.left ≡ generated c.args.count c.args.seed =
    ap (λ (f : Feed). f.left) c.make-bytes.ensures ∙ ap (λ (k : ℕ). generated k c.args.seed) c.from.ensures in
    record {
      allowed =
          Allows-ended run.result.status c.args.plan.now c.args.count (generated c.args.count c.args.seed)
          (moment 0 (Some c.make-bytes.result) 0 (Some none.result.finished)) (moment 0 (Some run.new.input) 0 (Some n.finished))
          _ _ (record { faults = g.K.Sink.faults was; finished = g.K.Sink.finished was }) (g.K.Sink.got was)
          run.ensures.finishes.ends c.requires has (omega arith) (omega arith) c.in_default.not-Done;
      unwritten = λ not_done not_failed. refl;
      emptied = emptied-leaves run.result.status (g.K.Sink.got was);
    }
