use Rattle.std.proofs.Common.{ℕ, sym, subst, Result}
use Rattle.ws_value.specs.declared.memory.NoMemory.{NoMemory}
use Rattle.ws_stages.specs.declared.work.Pushed.{Pushed}
use Rattle.ws_node.specs.declared.node.Node.{Node}
use Rattle.ws_node.specs.Moves.{Asks, PutsOut, settles_by}
use Rattle.ws_node.proofs.InOrder.{enqueues-first}
use Rattle.ws_node.proofs.node.Node.put_out.Goals as goal

pub returns-in-Ok : goal.returns-in-Ok
returns-in-Ok c =
    let asked =
    subst (λ (n : Node). Asks (settles_by n.core.first c.args.id c.args.stream c.in-Ok.pushed.ending) n c.settle_by.new.self) c.hand_back.ensures c.settle_by.ensures in
    subst (λ (pushed : Result Pushed NoMemory). PutsOut c.args.id c.args.stream pushed c.args.self.now c.settle_by.new.self) (sym c.in-Ok.is)
    (record {
      between = c.enqueue_all.new.self;
      enqueued = c.enqueue_all.ensures.enqueued;
      ended =
          subst (λ (k : ℕ). Asks (settles_by k c.args.id c.args.stream c.in-Ok.pushed.ending) c.enqueue_all.new.self c.settle_by.new.self)
          (enqueues-first c.args.stream c.in-Ok.pushed.chunks.items c.args.self.now c.enqueue_all.new.self c.enqueue_all.ensures.enqueued) asked;
    })
