-- What the two ports of a node post.
use Rattle.std.specs.Prelude.{◌≡◌, ℕ, ◌+◌, ◌*◌, ◌≤◌, Bool, true, List, length, All}
use Rattle.ws_value.specs.declared.value.Message.{Message}
use Rattle.ws_steps.specs.Histories.{run_events}
use Rattle.ws_steps.specs.PortHistory.{posted_in, chunks_in, asks_in, ends_last, goes_up, goes_down}
use Rattle.ws_steps.specs.Run.{Entry}
use Rattle.ws_steps.specs.Slots.{most_streams}
use Rattle.ws_chain_laws.specs.Chain.{Origin, FromPort, Target, ToPort, source_port, sink_port}
use Rattle.ws_chain_laws.specs.Opening.{chained}
use Rattle.ws_chain_laws.specs.Runs.{AreNodes}
use Rattle.ws_node_laws.specs.Messages.{delivered_to}

-- by what it posted, and what was delivered to it
pub record SendsDown (posted came : List Message) : Type 0 where
  pub credit : length (chunks_in posted) ≤ asks_in came
  pub kinds : All (λ m. goes_down m ≡ true) posted
  pub last : ends_last posted ≡ true

-- up: pulls and errors, and nothing behind an error
pub record SendsUp (posted : List Message) : Type 0 where
  pub kinds : All (λ m. goes_up m ≡ true) posted
  pub last : ends_last posted ≡ true

abbrev pub EachNodeSendsDown : Type 0
EachNodeSendsDown =
    (origin : Origin) (n : ℕ) (signalled : Bool) (xs : List Entry) → 2 * n + 2 ≤ most_streams → AreNodes xs
    → SendsDown (posted_in (sink_port origin) (run_events xs (chained origin ToPort n signalled))) (delivered_to (sink_port origin) xs)

abbrev pub EachNodeSendsUp : Type 0
EachNodeSendsUp =
    (target : Target) (n : ℕ) (signalled : Bool) (xs : List Entry) → 2 * n + 2 ≤ most_streams → AreNodes xs
    → SendsUp (posted_in source_port (run_events xs (chained FromPort target n signalled)))
