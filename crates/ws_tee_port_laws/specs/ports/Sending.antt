-- Which messages can be sent.
use Rattle.std.specs.Prelude.{◌≡◌, Bool, true, List, All}
use Rattle.ws_value.specs.declared.ids.PortId.{PortId}
use Rattle.ws_value.specs.declared.value.Message.{Message}
use Rattle.ws_value.specs.declared.value.Message.TheVariants.{Pull, Chunk, Close, Error}
use Rattle.ws_value.specs.Values.{is_cloneable, is_value_cloneable}
use Rattle.ws_steps.specs.Histories.{run_events}
use Rattle.ws_steps.specs.PortHistory.{posted_in}
use Rattle.ws_steps.specs.Run.{Entry}
use Rattle.ws_steps.specs.Slots.{empty}

-- what it carries can be cloned
abbrev pub can_be_sent : Message → Bool
can_be_sent Pull = true
can_be_sent (Chunk v) = is_value_cloneable v
can_be_sent Close = true
can_be_sent (Error r) = is_cloneable r

abbrev pub EachPostCanBeSent : Type 0
EachPostCanBeSent = (entries : List Entry) (c : PortId) → All (λ m. can_be_sent m ≡ true) (posted_in c (run_events entries empty))
