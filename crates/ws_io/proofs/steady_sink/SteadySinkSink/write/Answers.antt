use Rattle.std.proofs.Common.{List, ℕ, take, rules, arith}
use Rattle.ws_io.proofs.Flow.{Gains-straight}
use Rattle.ws_io.proofs.steady_sink.SteadySinkSink.write.Goals as goal

pub returns-clause-bytes : goal.returns-clause-bytes
returns-clause-bytes c =
    record {
      within = search (rules, arith);
      some = search (rules, arith);
      gained = Gains-straight (λ (xs : List ℕ). Unit {0}) (λ (xs : List ℕ). Unit {0}) (take c.min.result c.args.piece.now) (λ xs h. tt);
    }
