use Rattle.std.proofs.Common.{◌≡◌, vec_len}
use Rattle.ws_wake.proofs.sleepers.make_workers.Given as goal

abbrev pub invariant-loop : goal.invariant-loop
invariant-loop l = vec_len l.workers ≡ l.counter
