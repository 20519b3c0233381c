use Rattle.std.proofs.Common.{◌≡◌, ℤ, true, sym, ap, ◌∙◌, arith, rules, to_z, of_z, w64}
use Rattle.std.specs.Prelude.{int_le, not}
use Rattle.ws_node.specs.Shares.{is_ahead_of}
use Rattle.ws_node.proofs.Sharing.{ahead-more}
use Rattle.ws_node.proofs.making.stages_ahead_of.Goals as goal

pub loop-one-preserved : goal.loop-one-preserved
loop-one-preserved c =
    let worker : ℤ = to_z w64 (of_z w64 c.args.worker) in
    let same : to_z w64 (of_z w64 c.one-item.result.worker) ≡ c.one-item.result.worker = search rules in
    let ahead : is_ahead_of worker c.one-item.result ≡ true = ap (λ (z : ℤ). not (int_le worker z)) (sym same) ∙ ap not c.if-worker-one.false in
    record {
      count = ahead-more worker c.args.placed.now c.loop-one.one-index c.loop-one.count c.one-item.result c.one-item.is c.loop-one-test.true ahead c.loop-one.invariant.count;
      few = omega arith;
    }

pub overflow_add-count : goal.overflow_add-count
overflow_add-count c = omega arith
