use Rattle.std.proofs.Common.{◌≡◌, ◌+◌, ◌++◌, true, List, drop, refl, sym, ap, ◌∙◌}
use Rattle.ws_stages.specs.State.{State}
use Rattle.ws_node.specs.Opening.{all_begun}
use Rattle.ws_node.specs.Shares.{is_in, shared}
use Rattle.ws_node.proofs.Sharing.{range-here, range-next, slots-done, slots-next, stages-done, stages-next}
use Rattle.ws_node.proofs.making.make_stages.Goals as goal

pub loop-one-init : goal.loop-one-init
loop-one-init c = record { stages = rw c.new-stages.ensures.items refl; slots = refl; range = c.requires }

pub make-requires : goal.make-requires
make-requires c =
    range-here c.args.share c.args.placed.now c.loop-one.one-index c.one-item.result c.one-item.result c.one-item.is c.loop-one-test.true c.loop-one.invariant.range

pub loop-one-preserved : goal.loop-one-preserved
loop-one-preserved c =
    let l = c.loop-one in
    let here : is_in c.args.share c.one-item.result ≡ true = sym c.has.ensures ∙ c.if-not-has.false in
    record {
      stages =
          ap (λ (ws : List State). ws ++ all_begun (shared c.args.share (drop (l.one-index + 1) c.args.placed.now))) c.in_ok-push.ensures.items
          ∙ stages-next c.args.share c.args.placed.now l.one-index c.one-item.result c.one-item.result c.one-item.is c.loop-one-test.true here l.stages.items
          (all_begun (shared c.args.share c.args.placed.now)) c.in_ok-make.field-0 c.in_ok-make.ensures l.invariant.stages;
      slots =
          slots-next c.args.share c.args.placed.now l.one-index c.one-item.result c.one-item.result c.one-item.is c.loop-one-test.true here l.realm.slots c.begin.new.realm.slots _
          c.in_ok-begin.ensures.slots l.invariant.slots;
      range = range-next c.args.share c.args.placed.now l.one-index c.one-item.result c.one-item.result c.one-item.is c.loop-one-test.true l.invariant.range;
    }

pub returns-clause-stages : goal.returns-clause-stages
returns-clause-stages c = stages-done c.args.share c.args.placed.now c.loop-one.one-index c.loop-one.stages.items _ c.loop-one-test.false c.loop-one.invariant.stages

pub returns-clause-slots : goal.returns-clause-slots
returns-clause-slots c = slots-done c.args.share c.args.placed.now c.loop-one.one-index c.loop-one.realm.slots _ c.loop-one-test.false c.loop-one.invariant.slots
