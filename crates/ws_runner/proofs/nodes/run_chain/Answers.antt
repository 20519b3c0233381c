use Rattle.std.proofs.Common.{sym, ◌∙◌, subst, arith}
use Rattle.ws_io.specs.Moment.{moment}
use Rattle.ws_node.specs.Nodes.{nodes}
use Rattle.ws_node_rules.proofs.Causes.{each_node_sends_down}
use Rattle.ws_node.proofs.Joining.{joined-at-end}
use Rattle.ws_runner.specs.Meeting.{AllTraced, TracesAre}
use Rattle.ws_runner.proofs.Traced.{many-later, traced-later}
use Rattle.ws_runner.proofs.Traces.{chain-finishes, none-finishes}
use Rattle.ws_runner.proofs.nodes.run_chain.Goals as goal

pub returns-in_default : goal.returns-in_default
returns-in_default g c =
    none-finishes c.args.plan.now c.begun_without_memory.result c.args.trace
    (moment (g.S.Source.faults c.args.input.now) (g.S.Source.feed c.args.input.now) (g.K.Sink.faults c.args.output.now) (g.K.Sink.finished c.args.output.now))
    (g.K.Sink.got c.args.output.now) c.begun_without_memory.ensures.status c.begun_without_memory.ensures.edges

pub returns-in_default-make : goal.returns-in_default-make
returns-in_default-make g c =
    none-finishes c.args.plan.now c.begun_without_memory-in_default-make.result c.args.trace
    (moment (g.S.Source.faults c.args.input.now) (g.S.Source.feed c.args.input.now) (g.K.Sink.faults c.args.output.now) (g.K.Sink.finished c.args.output.now))
    (g.K.Sink.got c.args.output.now) c.begun_without_memory-in_default-make.ensures.status c.begun_without_memory-in_default-make.ensures.edges

pub returns-in_default-make-2 : goal.returns-in_default-make-2
returns-in_default-make-2 g c =
    none-finishes c.args.plan.now c.begun_without_memory-in_default-make-2.result c.args.trace
    (moment (g.S.Source.faults c.args.input.now) (g.S.Source.feed c.args.input.now) (g.K.Sink.faults c.args.output.now) (g.K.Sink.finished c.args.output.now))
    (g.K.Sink.got c.args.output.now) c.begun_without_memory-in_default-make-2.ensures.status c.begun_without_memory-in_default-make-2.ensures.edges

pub meet-requires : goal.meet-requires
meet-requires g c =
    let now = c.drive_chain-status.new.chain in
    let later = traced-later c.args.trace c.args.plan.now _ (nodes now.head now.middles.items now.tail) _ _ _ _ c.in-Ok-make.ensures.fresh c.drive_chain-status.ensures.went c.in-Ok-make.ensures.traced in
    let many = many-later c.args.plan.now _ (nodes now.head now.middles.items now.tail) _ _ _ _ c.in-Ok-make.ensures.fresh c.drive_chain-status.ensures.went in
    record {
      joined = joined-at-end c.args.plan.now _ _ _ _ _ _ c.in-Ok-make.ensures.fresh c.drive_chain-status.ensures.went;
      traced = subst (λ t. AllTraced t (nodes now.head now.middles.items now.tail)) (sym later.head) later;
      none = c.in-Ok.ensures.none;
      room = λ t. let room = c.in-Ok.ensures.room (sym later.head ∙ t) in omega (arith, many, room);
    }

pub returns : goal.returns
returns g c =
    let now = c.drive_chain-status.new.chain in
    let later = traced-later c.args.trace c.args.plan.now _ (nodes now.head now.middles.items now.tail) _ _ _ _ c.in-Ok-make.ensures.fresh c.drive_chain-status.ensures.went c.in-Ok-make.ensures.traced in
    chain-finishes each_node_sends_down c.args.plan.now (record { status = c.drive_chain-status.result; edges = c.meet.result })
    (nodes c.in-Ok-make.chain.head c.in-Ok-make.chain.middles.items c.in-Ok-make.chain.tail)
    (nodes now.head now.middles.items now.tail)
    (moment (g.S.Source.faults c.args.input.now) (g.S.Source.feed c.args.input.now) (g.K.Sink.faults c.args.output.now) (g.K.Sink.finished c.args.output.now))
    (moment (g.S.Source.faults c.drive_chain-status.new.input) (g.S.Source.feed c.drive_chain-status.new.input) (g.K.Sink.faults c.drive_chain-status.new.output) (g.K.Sink.finished c.drive_chain-status.new.output))
    (g.K.Sink.got c.args.output.now) (g.K.Sink.got c.drive_chain-status.new.output) c.requires.accepted c.requires.workers
    (record {
      begun = c.in-Ok-make.ensures.fresh;
      went = c.drive_chain-status.ensures.went;
      met = c.meet.ensures.met;
      head = c.meet.ensures.head;
      tail = c.meet.ensures.tail;
      status_is = c.drive_chain-status.ensures.status_is;
    })
    c.args.trace
    (subst (λ t. TracesAre t now.head.exit.below now.middles.items now.tail.entrance.above c.meet.result.items) later.head c.meet.ensures.traces)
