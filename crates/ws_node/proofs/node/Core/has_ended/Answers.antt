use Rattle.std.proofs.Common.{refl, sym, ◌∙◌}
use Rattle.std.specs.List.{list_all}
use Rattle.ws_steps.specs.Queues.{is_empty}
use Rattle.ws_node.specs.Node.{has_settled, has_settled_in, outcome_of_pipe}
use Rattle.ws_node.proofs.Settled.{one-not, one-more, all-so, ended-so, ended-not}
use Rattle.ws_node.proofs.node.Core.has_ended.Goals as goal

pub returns-then-not-has_settled-2 : goal.returns-then-not-has_settled-2
returns-then-not-has_settled-2 c =
    let n = c.args.self.now in
    ended-not (is_empty n.realm.slots.promises.events) (has_settled (outcome_of_pipe n)) (list_all (has_settled_in n.realm.slots) n.pipes_before.items)
    (one-not (has_settled_in n.realm.slots) n.pipes_before.items c.deref-pipe-items.result.now c.loop-pipe.pipe-index _ _ c.has_settled-in-loop-pipe.result c.deref-pipe-items.ensures.value c.loop-pipe-test.true
    c.loop-pipe.invariant refl c.has_settled-in-loop-pipe.ensures c.if-not-has_settled-2.true)

pub loop-pipe-preserved : goal.loop-pipe-preserved
loop-pipe-preserved c =
    let n = c.args.self.now in
    one-more (has_settled_in n.realm.slots) n.pipes_before.items c.deref-pipe-items.result.now c.loop-pipe.pipe-index _ _ c.has_settled-in-loop-pipe.result c.deref-pipe-items.ensures.value c.loop-pipe-test.true
    c.loop-pipe.invariant refl c.has_settled-in-loop-pipe.ensures c.if-not-has_settled-2.false

pub returns : goal.returns
returns c =
    let n = c.args.self.now in
    ended-so (is_empty n.realm.slots.promises.events) (has_settled (outcome_of_pipe n)) (list_all (has_settled_in n.realm.slots) n.pipes_before.items) (sym c.if-has_event.false ∙ c.has_event.ensures)
    (sym c.if-not-has_settled.false ∙ c.has_settled.ensures)
    (all-so (has_settled_in n.realm.slots) n.pipes_before.items c.deref-pipe-items.result.now c.loop-pipe.pipe-index c.deref-pipe-items.ensures.value c.loop-pipe-test.false c.loop-pipe.invariant)
