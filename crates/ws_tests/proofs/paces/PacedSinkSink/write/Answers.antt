use Rattle.std.proofs.Common.{List, ℕ, take, rules, arith}
use Rattle.ws_io.proofs.Flow.{Gains-straight}
use Rattle.ws_tests.proofs.paces.PacedSinkSink.write.Goals as goal

pub returns-clause-bytes : goal.returns-clause-bytes
returns-clause-bytes c =
    record {
      within = search (rules, arith);
      some = search (rules, arith);
      gained = Gains-straight (λ (xs : List ℕ). ⊥) (λ (xs : List ℕ). ⊥) (take c.min-count.result c.args.piece.now) (λ xs h. h);
    }
