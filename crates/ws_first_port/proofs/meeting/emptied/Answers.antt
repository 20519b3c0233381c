use Rattle.std.proofs.Common.{ap, ◌∙◌}
use Rattle.ws_first_port.proofs.Steps.{takes, learns_whole}
use Rattle.ws_first_port.proofs.Rests.{emptying_first, emptying_next, emptying_last, emptying_all}
use Rattle.ws_first_port.proofs.meeting.emptied.Goals as goal

pub learn_as-requires-clause-rule : goal.learn_as-requires-clause-rule
learn_as-requires-clause-rule g c = learns_whole _ _ c.requires.1 c.requires.2

pub loop-count-init : goal.loop-count-init
loop-count-init g c = let same = c.learn_as.ensures.queue.1 in let fact = c.learn_as.ensures.rule in (
  (c.learn_as.ensures.queue.0.0 ∙ c.requires.0.0, c.learn_as.ensures.queue.0.2 ∙ c.requires.0.1),
  emptying_first _ _ fact.0 _ (ap (λ v. v.sends) same ∙ c.requires.1) (ap (λ v. v.takes) same ∙ c.requires.2) (ap (λ v. v.sent) same) (ap (λ v. v.received) same) fact.1.0 fact.1.1,
)

pub pop_as-requires-clause-rule : goal.pop_as-requires-clause-rule
pop_as-requires-clause-rule g c = let now = c.loop-count.invariant.1 in (takes _ _ now.takes, learns_whole _ _ now.sends now.takes)

pub learn_as-requires-2-clause-rule : goal.learn_as-requires-2-clause-rule
learn_as-requires-2-clause-rule g c = let now = c.loop-count.invariant.1 in learns_whole _ _ now.sends now.takes

pub loop-count-preserved : goal.loop-count-preserved
loop-count-preserved g c = (
  (c.in-Some.ensures.queue.0 ∙ c.loop-count.invariant.0.0, c.in-Some.ensures.queue.2 ∙ c.loop-count.invariant.0.1),
  emptying_next _ _ _ _ _ _ c.in-Some.m c.loop-count.invariant.1 c.loop-count-test.true c.in-Some.ensures.rule,
)

pub returns-in-None : goal.returns-in-None
returns-in-None g c = let end = c.in-None.ensures.rule.1 in let r = emptying_last _ _ end.0 _ _ _ c.loop-count.invariant.1 end.2.0 end.1 in record { rest = r.0; count = r.1; places = r.2 }

pub returns : goal.returns
returns g c = let fact = c.learn_as-2.ensures.rule in let nothing = emptying_all _ _ fact.0 _ _ _ c.loop-count.invariant.1 c.loop-count-test.false fact.1.0 in
    let r = emptying_last _ _ fact.0 _ _ _ c.loop-count.invariant.1 fact.1.0 nothing in record { rest = r.0; count = r.1; places = r.2 }
