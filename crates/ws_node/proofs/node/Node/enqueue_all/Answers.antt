use Rattle.std.proofs.Common.{reverse, sym, ap, ◌∙◌}
use Rattle.std.proofs.lemmas.List.{reverse-reverse, length-reverse}
use Rattle.ws_node.proofs.InOrder.{from-first, from-next, to-dropped, to-last, popped}
use Rattle.ws_node.proofs.node.Node.enqueue_all.Goals as goal

pub loop-chunk-init : goal.loop-chunk-init
loop-chunk-init c = from-first c.args.stream _ _ c.args.self.now (ap reverse c.turn_round.ensures ∙ reverse-reverse c.args.chunks.now.items)

pub loop-chunk-preserved : goal.loop-chunk-preserved
loop-chunk-preserved c =
    from-next c.args.stream _ _ _ c.in-Some.chunk c.args.self.now c.loop-chunk.self c.enqueue.new.self c.enqueue.result c.loop-chunk.invariant
    (popped c.loop-chunk.chunks.items c.pop.new.self.items c.pop.result c.in-Some.chunk c.pop.ensures.items c.in-Some.is) c.enqueue.ensures.asks c.enqueue.ensures.done c.if-not-enqueue.false

pub returns-then-not-enqueue-clause-enqueued : goal.returns-then-not-enqueue-clause-enqueued
returns-then-not-enqueue-clause-enqueued c =
    to-dropped c.args.stream _ _ _ c.in-Some.chunk c.args.self.now c.loop-chunk.self c.enqueue.new.self c.enqueue.result c.loop-chunk.invariant
    (popped c.loop-chunk.chunks.items c.pop.new.self.items c.pop.result c.in-Some.chunk c.pop.ensures.items c.in-Some.is) c.enqueue.ensures.asks c.enqueue.ensures.done c.if-not-enqueue.true

pub returns-clause-enqueued : goal.returns-clause-enqueued
returns-clause-enqueued c =
    let items = c.loop-chunk.chunks.items in
    to-last c.args.stream _ (reverse items) c.args.self.now c.loop-chunk.self c.loop-chunk.chunks.len c.loop-chunk.invariant (c.loop-chunk.chunks.ok.0 ∙ sym (length-reverse items)) c.in_default.ensures.cases.0
