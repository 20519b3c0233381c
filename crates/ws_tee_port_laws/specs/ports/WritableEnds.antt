-- Each step of the stream at a writable end of a port.
use Rattle.std.specs.Prelude.{◌≡◌, List}
use Rattle.ws_value.specs.declared.ids.PortId.{PortId}
use Rattle.ws_value.specs.declared.ids.StreamId.{StreamId}
use Rattle.ws_steps.specs.declared.effects.Owner.TheVariants.{EndOf}
use Rattle.ws_steps.specs.Slots.{Slots, empty, owner_at, writable_at}
use Rattle.ws_steps.specs.Run.{Entry, run, step}
use Rattle.ws_steps.specs.WritableHistory.{step_writes}
use Rattle.ws_steps.specs.Laws.{IsWritableStep}

abbrev pub EachWritableEndStep : Type 0
EachWritableEndStep =
    (entries : List Entry) (x : Entry) (i : StreamId) (c : PortId) → let s : Slots = run entries empty in
    owner_at i (step s x) ≡ EndOf c → IsWritableStep (step_writes i s x) (writable_at i s) (writable_at i (step s x))
