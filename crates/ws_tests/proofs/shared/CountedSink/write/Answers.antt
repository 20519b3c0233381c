use Rattle.std.proofs.Common.{List, ℕ, length, take, arith}
use Rattle.ws_io.proofs.Flow.{Gains-straight}
use Rattle.ws_tests.proofs.shared.CountedSink.write.Goals as goal

pub returns-clause-bytes : goal.returns-clause-bytes
returns-clause-bytes c =
    record {
      within = omega arith;
      some = λ some. some;
      gained = Gains-straight (λ (xs : List ℕ). ⊥) (λ (xs : List ℕ). ⊥) (take (length c.args.piece.now) c.args.piece.now) (λ xs h. h);
    }
