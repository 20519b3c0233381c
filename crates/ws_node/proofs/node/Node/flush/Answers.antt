use Rattle.std.proofs.Common.{refl}
use Rattle.ws_node.specs.Moves.{NothingToFlush, NotFlushed}
use Rattle.ws_node.proofs.Placing.{none-numbered, at-item, live-so, live-not, has-flushed, unasked, flushed-by}
use Rattle.ws_node.proofs.node.Node.flush.Goals as goal

pub returns-in_default : goal.returns-in_default
returns-in_default c = NothingToFlush (none-numbered c.args.stream c.args.self.now.core.stages.items c.in_default.ensures) refl

pub returns-then-not-is_live : goal.returns-then-not-is_live
returns-then-not-is_live c =
    let s = c.in-Some-get_mut in
    NotFlushed _ _ s.work.now (at-item c.args.stream c.args.self.now.core.stages.items c.in-Some.place s.work.now c.in-Some.ensures s.ensures.item.3.0 s.ensures.value)
    (live-not s.work.now.work c.is_live.result c.is_live.ensures c.if-not-is_live.true) (unasked c.args.self.now c.in-Some.place s.work.now s.ensures.value)

pub returns : goal.returns
returns c =
    let s = c.in-Some-get_mut in
    flushed-by c.args.id c.args.stream c.args.self.now c.put_out.new.self _ _ _ s.work.now c.flush-pushed.new.self c.flush-pushed.result
    (at-item c.args.stream c.args.self.now.core.stages.items c.in-Some.place s.work.now c.in-Some.ensures s.ensures.item.3.0 s.ensures.value)
    (live-so s.work.now.work c.is_live.result c.is_live.ensures c.if-not-is_live.false) c.flush-pushed.ensures.flushed c.flush-pushed.ensures.wanting c.flush-pushed.ensures.stage
    c.flush-pushed.ensures.count (has-flushed c.args.self.now c.in-Some.place s.work.now c.flush-pushed.new.self s.ensures.item.3.0 s.ensures.value) c.put_out.ensures
