-- What a stage at work answers.
use Rattle.std.specs.Prelude.{◌≡◌}
use Rattle.ws_flow.specs.Machines.{Pushed as Definition}
use Rattle.ws_flow.specs.Parts.{AtWork, Over}
use Rattle.ws_stages.specs.declared.work.Pushed.{Pushed}
use Rattle.ws_stages.specs.State.{after_push}

-- a push answers what the definition says, and the stage goes on or ends by it
pub record Answers (pushed : Pushed) (work : AtWork) (by : Definition) : Type 0 where
  pub chunks : pushed.chunks.items ≡ by.chunks
  pub ending : pushed.ending ≡ by.ending
  pub goes_on : work ≡ after_push by.ending by.kept

-- and so does a flush, after which the stage has ended
pub record Flushed (pushed : Pushed) (work : AtWork) (by : Definition) : Type 0 where
  pub chunks : pushed.chunks.items ≡ by.chunks
  pub ending : pushed.ending ≡ by.ending
  pub over : work ≡ Over by.ending
