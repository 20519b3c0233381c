use Rattle.std.proofs.Common.{reverse, vec_len}
use Rattle.ws_node.proofs.InOrder.{EnqueuesFrom}
use Rattle.ws_node.proofs.node.Node.enqueue_all.Given as goal

abbrev pub invariant-loop-chunk : goal.invariant-loop-chunk
invariant-loop-chunk l = EnqueuesFrom l.fn.stream l.fn.chunks.items l.fn.self (reverse l.chunks.items) l.self

abbrev pub decreases-loop-chunk : goal.decreases-loop-chunk
decreases-loop-chunk l = vec_len l.chunks
