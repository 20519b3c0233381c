use Rattle.std.proofs.Common.{◌≡◌, ◌<◌, take}
use Rattle.ws_gen.specs.Bytes.{generated, number_after}
use Rattle.ws_gen.proofs.generated.fill.Given as goal

abbrev pub invariant-bytes : goal.invariant-bytes
invariant-bytes l = record {
  done : take l.i l.room ≡ generated l.i l.fn.number;
  at : l.number ≡ number_after l.i l.fn.number;
  below : l.number < 65537;
}
