use Rattle.std.proofs.Common.{◌≡◌, w64, to_z, of_z, nat_abs, ◌+◌, List, None, sym, ap, subst, arith, rules}
use Rattle.std.proofs.lemmas.Int.{to_z_pos}
use Rattle.ws_node.specs.declared.node.Node.{Node}
use Rattle.ws_node.specs.Past.{IsNew}
use Rattle.ws_node.specs.Shares.{middle_of, stages_ahead_of}
use Rattle.ws_node.proofs.Joining.{HasMade, few-workers, made-more}
use Rattle.std.specs.Prelude.{All}
use Rattle.ws_runner.specs.Meeting.{AreTraced}
use Rattle.ws_runner.proofs.Traced.{traced-snoc}
use Rattle.ws_runner.proofs.chain.make_middles.Goals as goal

pub loop-number-preserved : goal.loop-number-preserved
loop-number-preserved c =
    let was = c.loop-number.invariant in
    let made = subst (λ (ns : List Node). HasMade c.args.plan.now c.args.first ns c.in_ok-upper.lower (c.loop-number.number + 1)) (sym c.in_ok-push.ensures.items)
    (made-more c.args.plan.now c.args.first c.loop-number.last c.in_ok-upper.upper c.in_ok-upper.lower c.loop-number.middles.items c.in_ok-make.field-0 c.loop-number.number
    was.made
    (subst (λ z. IsNew (middle_of z c.args.plan.now) (stages_ahead_of z c.args.plan.now) None c.in_ok-make.field-0)
    (to_z_pos w64 (c.loop-number.number + 1)
    (let few = few-workers c.args.plan.now c.requires.accepted in
    let most = c.unsigned_abs-number-end.ensures.value in
    let below = c.loop-number-test.true in
    let same : to_z w64 (of_z w64 c.args.plan.now.workers) ≡ c.args.plan.now.workers = search rules in
    let abs = ap nat_abs same in
    omega (arith, few, most, below, abs)))
    c.in_ok-make.ensures.fresh)
    c.in_ok-make.ensures.ends.0 c.in_ok-make.ensures.ends.1 c.in_ok-upper.ensures.joined c.in_ok-upper.ensures.unused.1) in
    record {
      made = made;
      traced =
          subst (All (AreTraced c.args.trace)) (sym c.in_ok-push.ensures.items)
          (traced-snoc c.args.trace c.loop-number.middles.items c.in_ok-make.field-0 c.loop-number.last c.in_ok-upper.upper was.traced c.in_ok-make.ensures.ends.0 c.in_ok-make.ensures.ends.1
          was.last c.in_ok-upper.ensures.traced.0);
      last = c.in_ok-upper.ensures.traced.1;
    }
