-- Links whose ends are the host's own, and what is told of these.
use Rattle.std.specs.Prelude.{◌≡◌}
use Rattle.ws_value.specs.declared.ids.PipeId.{PipeId}
use Rattle.ws_value.specs.declared.ids.StreamId.{StreamId}
use Rattle.ws_value.specs.declared.value.Value.{Value}
use Rattle.ws_steps.specs.declared.calls.Call.{Call}
use Rattle.ws_steps.specs.declared.calls.Event.{Event}
use Rattle.ws_steps.specs.declared.calls.HostCall.{HostCall}
use Rattle.ws_steps.specs.declared.effects.Owner.TheVariants.{Host}
use Rattle.ws_steps.specs.Slots.{Slots, has_byte, owner_at}
use Rattle.ws_flow.specs.Told.{Told}
use Rattle.ws_link_laws.specs.Link as link
use Rattle.ws_link_laws.specs.Link.{OfSink, giver_by}
use Rattle.ws_link_laws.specs.Sound.{IsLink, IsFree}

-- both are the host's own
pub record AreOwn (i j : StreamId) (s : Slots) : Type 0 where
  pub source : owner_at i s ≡ Host
  pub sink : owner_at j s ≡ Host

pub record IsOwnLink (i j : StreamId) (p : PipeId) (s : Slots) : Type 0 where
  pub link : IsLink i j p s
  pub own : AreOwn i j s

pub record AreFree (i j : StreamId) (s : Slots) : Type 0 where
  pub free : IsFree i j s
  pub own : AreOwn i j s

-- the host hears of the destination by its writes and its close
abbrev pub heard_call : StreamId → HostCall → Told Value
heard_call j call = link.heard_call (OfSink j) call

abbrev pub heard_of : StreamId → Event → Told Value
heard_of j e = link.heard_of (OfSink j) e

-- and enqueues and finishes at the source
abbrev pub enters : StreamId → Slots → Call → Told Value
enters i s c = link.enters (giver_by (has_byte i s) Host) i c
