use Rattle.std.proofs.Common.{arith}
use Rattle.std.proofs.lemmas.List.Sums.{sum_by_more}
use Rattle.ws_gen.proofs.counts.sum_of.Goals as goal

pub overflow_add-sum : goal.overflow_add-sum
overflow_add-sum c = let b = c.type_inv.piece c.loop-byte.byte-index in omega (arith, b)

pub loop-byte-preserved : goal.loop-byte-preserved
loop-byte-preserved c =
    let b = c.type_inv.piece c.loop-byte.byte-index in
    let more = sum_by_more (λ x. x) c.args.piece.now c.loop-byte.byte-index 0 (omega arith) in
    record { sum = omega (arith, more, c.loop-byte.invariant.sum); few = omega (arith, b) }
