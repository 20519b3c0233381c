use Rattle.ws_io.specs.Gain.{straight}
use Rattle.ws_io.proofs.Flow.{Gains-nothing}
use Rattle.ws_io.proofs.steady_sink.SteadySinkSink.flush.Goals as goal

pub returns-clause-bytes : goal.returns-clause-bytes
returns-clause-bytes c = Gains-nothing (straight (λ xs. Unit {0}))
