use Rattle.std.proofs.Common.{length, rules, arith, ◌≡◌, ◌+◌, ◌-◌, ◌^◌, ◌==◌, min, sum, count_by}
use Rattle.std.proofs.Math.Seq.{take-length}
use Rattle.ws_gen.proofs.Counting.{counted_more}
use Rattle.ws_gen.proofs.counts.CountsSink.write.Goals as goal

pub returns-clause-bytes : goal.returns-clause-bytes
returns-clause-bytes c =
    let s = c.args.self.now in
    let piece = c.args.piece.now in
    let bytes = c.saturating_add-self.result in
    let newlines = c.saturating_add-self-2.result in
    let total = c.saturating_add-self-3.result in
    let b : bytes ≡ min (s.bytes + length piece) (2 ^ 128 - 1) = search rules in
    let n : newlines ≡ min (s.newlines + count_by (λ x. x == 10) piece) (2 ^ 128 - 1) = search rules in
    let t : total ≡ min (s.sum + sum piece) (2 ^ 128 - 1) = search rules in
    record {
      within = omega arith;
      some = λ some. some;
      gained = rw (take-length piece) (counted_more s.bytes s.newlines s.sum bytes newlines total piece b n t);
    }
