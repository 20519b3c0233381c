use Rattle.std.proofs.Common.{◌∙◌}
use Rattle.ws_node.proofs.Asking.{answers-so, untouched}
use Rattle.ws_node.proofs.node.Node.answer.Goals as goal

pub returns-in-Start : goal.returns-in-Start
returns-in-Start g c =
    answers-so c.args.id c.args.call _ c.args.self.now c.settle_rarely.new.self _ _ _ _ c.in-Start.is (c.settle_rarely.ensures, untouched _ (g.K.Sink.got c.args.output.now))

pub returns-in-Cancel : goal.returns-in-Cancel
returns-in-Cancel g c =
    answers-so c.args.id c.args.call _ c.args.self.now c.settle_rarely-in-Cancel.new.self _ _ _ _ c.in-Cancel.is (c.settle_rarely-in-Cancel.ensures, untouched _ (g.K.Sink.got c.args.output.now))

pub returns-in-Abort : goal.returns-in-Abort
returns-in-Abort g c =
    answers-so c.args.id c.args.call _ c.args.self.now c.settle_rarely-in-Abort.new.self _ _ _ _ c.in-Abort.is (c.settle_rarely-in-Abort.ensures, untouched _ (g.K.Sink.got c.args.output.now))

pub returns-in-Transform : goal.returns-in-Transform
returns-in-Transform g c =
    answers-so c.args.id c.args.call _ c.args.self.now c.transform.new.self _ _ _ _ c.in-Transform.is (c.transform.ensures, untouched _ (g.K.Sink.got c.args.output.now))

pub returns-in-Flush : goal.returns-in-Flush
returns-in-Flush g c =
    answers-so c.args.id c.args.call _ c.args.self.now c.flush.new.self _ _ _ _ c.in-Flush.is (c.flush.ensures, untouched _ (g.K.Sink.got c.args.output.now))

pub returns-in-CancelTransform : goal.returns-in-CancelTransform
returns-in-CancelTransform g c =
    answers-so c.args.id c.args.call _ c.args.self.now c.settle_rarely-in-CancelTransform.new.self _ _ _ _ c.in-CancelTransform.is (c.settle_rarely-in-CancelTransform.ensures, untouched _ (g.K.Sink.got c.args.output.now))

pub transform-requires : goal.transform-requires
transform-requires g c i piece is = c.requires i piece (c.in-Transform.is ∙ is)
