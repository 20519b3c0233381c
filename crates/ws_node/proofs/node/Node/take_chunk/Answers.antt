use Rattle.ws_node.proofs.Asking.{takes-empty, takes-long, takes-some}
use Rattle.ws_node.proofs.node.Node.take_chunk.Goals as goal

pub returns-then-is_empty : goal.returns-then-is_empty
returns-then-is_empty c = takes-empty c.args.chunk c.args.self.now c.ask.new.self c.is_empty.result c.is_empty.ensures c.if-is_empty.true c.ask.ensures

pub returns-then-self : goal.returns-then-self
returns-then-self c =
    takes-long c.args.chunk c.len-count.result c.args.self.now c.ask-then-self.new.self c.is_empty.result c.is_empty.ensures c.if-is_empty.false c.len-count.ensures c.if-self.true
    c.ask-then-self.ensures

pub returns : goal.returns
returns c =
    takes-some c.args.chunk c.len-count.result c.args.self.now c.enqueue-taken.new.self c.is_empty.result c.is_empty.ensures c.if-is_empty.false c.len-count.ensures c.if-self.false c.enqueue-taken.ensures.asks
