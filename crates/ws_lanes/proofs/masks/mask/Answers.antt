use Rattle.std.proofs.Common.{List, ℕ, ◌+◌, ◌%◌, length, refl, sym, subst, ◌∙◌, arith}
use Rattle.ws_lanes.proofs.Repeats.{Until, lanes_on, one_on, next_place, one_place, whole}
use Rattle.ws_lanes.proofs.masks.mask.Goals as goal

pub lanes-preserved : goal.lanes-preserved
lanes-preserved c =
    let key = c.args.key.now in
    let p = c.args.place in
    let i = c.lanes.done in
    record {
      done = omega arith;
      until =
          subst (λ (block : List ℕ). Until key p (i + 32) c.args.block.now block) (sym c.mask_lanes.ensures)
          (lanes_on key c.repeated-wide.result c.args.block.now c.lanes.block p i c.lanes.at c.lanes.invariant.until c.requires.some c.lanes.invariant.at (omega arith) (omega arith)
          (record { each = c.repeated-wide.ensures }));
      at = c.behind-at.ensures ∙ next_place p i 32 (length key) c.lanes.at (32 % length key) c.lanes.invariant.at refl;
    }

pub rest-preserved : goal.rest-preserved
rest-preserved c =
    let key = c.args.key.now in
    let p = c.args.place in
    record {
      until = one_on key c.args.block.now c.rest.block p c.rest.i c.rest.at c.rest.invariant.until c.rest.invariant.at (omega arith);
      at = c.behind-at-in-rest.ensures ∙ one_place p c.rest.i (length key) c.rest.at c.rest.invariant.at;
    }

pub returns : goal.returns
returns c = whole c.args.key.now c.args.place c.rest.i c.args.block.now c.rest.block c.rest.invariant.until (omega arith)
