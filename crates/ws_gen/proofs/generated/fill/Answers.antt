use Rattle.std.proofs.Common.{arith}
use Rattle.ws_gen.proofs.Making.{filled_more, number_more}
use Rattle.ws_gen.proofs.generated.fill.Goals as goal

pub bytes-preserved : goal.bytes-preserved
bytes-preserved c =
    let x = c.args.number in
    let i = c.bytes.i in
    record {
      done = filled_more c.bytes.room i x c.bytes.number c.next_number-number.result c.byte_of.result (omega arith) c.bytes.invariant.done c.bytes.invariant.at c.next_number-number.ensures.next c.byte_of.ensures;
      at = number_more i x c.bytes.number c.next_number-number.result c.bytes.invariant.at c.next_number-number.ensures.next;
      below = c.next_number-number.ensures.below;
    }
