-- What is seen of the record of a port.
use Rattle.ws_promise.specs.Seen.{Seen, SeenAgenda, out_of, HasPromiseRoom, HasEventRoom}
use Rattle.ws_steps.specs.declared.port.PortOperation.{PortOperation}
use Rattle.ws_steps.specs.Cross.{Slots, Acts}
use Rattle.ws_steps.specs.Places.{own_port, promises_alone, events_alone}

-- a port, the promises and the agenda, as an operation of the port finds and leaves them
abbrev pub acts_of : Slots → Seen → SeenAgenda → Acts
acts_of s p fx = record { slots = s; out = out_of p fx }

-- there are places for what an operation of a port takes by itself
pub record HasRoomFor (operation : PortOperation) (p : Seen) : Type 0 where
  pub promises : HasPromiseRoom (own_port promises_alone operation) p
  pub events : HasEventRoom (own_port events_alone operation) p
