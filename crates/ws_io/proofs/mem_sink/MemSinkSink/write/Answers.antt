use Rattle.std.proofs.Common.{◌≡◌, List, ℕ, take, rules, arith}
use Rattle.ws_io.proofs.Flow.{Gains-straight}
use Rattle.ws_io.proofs.mem_sink.MemSinkSink.write.Goals as goal

pub returns-clause-bytes : goal.returns-clause-bytes
returns-clause-bytes c =
    record {
      within = omega (arith, c.min-count.ensures, c.min-most.ensures);
      some = search (rules, arith);
      gained = Gains-straight (λ (xs : List ℕ). xs ≡ c.args.self.now.got) (λ (xs : List ℕ). xs ≡ c.extend_from_slice.new.self.items) (take c.min-count.result c.args.piece.now)
          (λ xs e. search rules);
    }
