use Rattle.std.proofs.Common.{arith}
use Rattle.ws_node.proofs.Begun.{begun, begun-then, first, gives-follow}
use Rattle.ws_node.proofs.Giving.{gives-then, works-give}
use Rattle.ws_node.proofs.Going.{went-then}
use Rattle.ws_node.proofs.Worked.{works-driven, works-went}
use Rattle.ws_node.proofs.node.Node.go_on.Goals as goal

pub hear-requires : goal.hear-requires
hear-requires g c = works-driven c.args.self.now c.work-jobs.new.self c.requires c.work-jobs.ensures.works

pub returns-then-not-hear-clause-went : goal.returns-then-not-hear-clause-went
returns-then-not-hear-clause-went g c =
    went-then c.args.self.now c.work-jobs.new.self c.hear.new.self _ _ _ _ _ _ (works-went c.args.self.now c.work-jobs.new.self _ _ c.requires c.work-jobs.ensures.works) c.hear.ensures.went

pub returns-then-not-hear-clause-begun : goal.returns-then-not-hear-clause-begun
returns-then-not-hear-clause-begun g c =
    λ busy goes. first c.args.self.now c.work-jobs.new.self c.hear.new.self (c.work-jobs.ensures.worked (omega arith)) (gives-follow c.work-jobs.new.self c.hear.new.self c.hear.ensures.gives) (c.hear.ensures.none c.if-not-hear.true goes) busy

pub returns-then-not-hear-clause-gives : goal.returns-then-not-hear-clause-gives
returns-then-not-hear-clause-gives g c =
    gives-then c.args.self.now c.work-jobs.new.self c.hear.new.self (λ why e. (c.hear.ensures.went.stays why e).same)
    (works-give c.args.self.now c.work-jobs.new.self c.work-jobs.ensures.works) c.hear.ensures.gives

pub loop-init : goal.loop-init
loop-init g c = (
  c.hear.ensures.driven,
  went-then c.args.self.now c.work-jobs.new.self c.hear.new.self _ _ _ _ _ _ (works-went c.args.self.now c.work-jobs.new.self _ _ c.requires c.work-jobs.ensures.works) c.hear.ensures.went,
  begun c.args.self.now c.work-jobs.new.self c.hear.new.self (c.work-jobs.ensures.worked (omega arith)) (c.hear.ensures.heard c.if-not-hear.false),
  gives-then c.args.self.now c.work-jobs.new.self c.hear.new.self (λ why e. (c.hear.ensures.went.stays why e).same)
      (works-give c.args.self.now c.work-jobs.new.self c.work-jobs.ensures.works) c.hear.ensures.gives,
)

pub returns-then-waits-clause-went : goal.returns-then-waits-clause-went
returns-then-waits-clause-went g c = c.loop.invariant.1

pub returns-then-waits-clause-begun : goal.returns-then-waits-clause-begun
returns-then-waits-clause-begun g c = λ busy goes. c.loop.invariant.2

pub returns-then-waits-clause-gives : goal.returns-then-waits-clause-gives
returns-then-waits-clause-gives g c = c.loop.invariant.3

pub hear-requires-in-loop : goal.hear-requires-in-loop
hear-requires-in-loop g c = works-driven c.loop.self c.work-jobs-in-loop.new.self c.loop.invariant.0 c.work-jobs-in-loop.ensures.works

pub returns-then-not-hear-2-clause-went : goal.returns-then-not-hear-2-clause-went
returns-then-not-hear-2-clause-went g c =
    went-then c.args.self.now c.work-jobs-in-loop.new.self c.hear-in-loop.new.self _ _ _ _ _ _
    (went-then c.args.self.now c.loop.self c.work-jobs-in-loop.new.self _ _ _ _ _ _ c.loop.invariant.1 (works-went c.loop.self c.work-jobs-in-loop.new.self _ _ c.loop.invariant.0 c.work-jobs-in-loop.ensures.works))
    c.hear-in-loop.ensures.went

pub returns-then-not-hear-2-clause-begun : goal.returns-then-not-hear-2-clause-begun
returns-then-not-hear-2-clause-begun g c busy goes =
    begun-then c.args.self.now c.loop.self c.hear-in-loop.new.self c.loop.invariant.2
    (gives-follow c.loop.self c.hear-in-loop.new.self (gives-then c.loop.self c.work-jobs-in-loop.new.self c.hear-in-loop.new.self (λ why e. (c.hear-in-loop.ensures.went.stays why e).same)
    (works-give c.loop.self c.work-jobs-in-loop.new.self c.work-jobs-in-loop.ensures.works) c.hear-in-loop.ensures.gives))

pub returns-then-not-hear-2-clause-gives : goal.returns-then-not-hear-2-clause-gives
returns-then-not-hear-2-clause-gives g c =
    gives-then c.args.self.now c.work-jobs-in-loop.new.self c.hear-in-loop.new.self (λ why e. (c.hear-in-loop.ensures.went.stays why e).same)
    (gives-then c.args.self.now c.loop.self c.work-jobs-in-loop.new.self c.work-jobs-in-loop.ensures.works.stays c.loop.invariant.3
    (works-give c.loop.self c.work-jobs-in-loop.new.self c.work-jobs-in-loop.ensures.works)) c.hear-in-loop.ensures.gives

pub loop-preserved : goal.loop-preserved
loop-preserved g c = (
  c.hear-in-loop.ensures.driven,
  went-then c.args.self.now c.work-jobs-in-loop.new.self c.hear-in-loop.new.self _ _ _ _ _ _
      (went-then c.args.self.now c.loop.self c.work-jobs-in-loop.new.self _ _ _ _ _ _ c.loop.invariant.1 (works-went c.loop.self c.work-jobs-in-loop.new.self _ _ c.loop.invariant.0 c.work-jobs-in-loop.ensures.works))
      c.hear-in-loop.ensures.went,
  begun-then c.args.self.now c.loop.self c.hear-in-loop.new.self c.loop.invariant.2
      (gives-follow c.loop.self c.hear-in-loop.new.self (gives-then c.loop.self c.work-jobs-in-loop.new.self c.hear-in-loop.new.self (λ why e. (c.hear-in-loop.ensures.went.stays why e).same)
      (works-give c.loop.self c.work-jobs-in-loop.new.self c.work-jobs-in-loop.ensures.works) c.hear-in-loop.ensures.gives)),
  gives-then c.args.self.now c.work-jobs-in-loop.new.self c.hear-in-loop.new.self (λ why e. (c.hear-in-loop.ensures.went.stays why e).same)
      (gives-then c.args.self.now c.loop.self c.work-jobs-in-loop.new.self c.work-jobs-in-loop.ensures.works.stays c.loop.invariant.3
      (works-give c.loop.self c.work-jobs-in-loop.new.self c.work-jobs-in-loop.ensures.works)) c.hear-in-loop.ensures.gives,
)
