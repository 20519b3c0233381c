-- When a port with a readable end posts an error.
use Rattle.std.specs.Prelude.{◌≡◌, true, false, List}
use Rattle.ws_value.specs.declared.ids.PortId.{PortId}
use Rattle.ws_steps.specs.declared.port.Side.TheVariants.{Readable as ReadableSide}
use Rattle.ws_steps.specs.declared.readable.ReadableState.TheVariants.{Readable}
use Rattle.ws_steps.specs.Cross as cross
use Rattle.ws_steps.specs.Histories.{run_events}
use Rattle.ws_steps.specs.PortHistory.{posted_in, has_end}
use Rattle.ws_steps.specs.Run.{Entry, run}
use Rattle.ws_steps.specs.Slots.{Slots, empty, has_port, port_at, readable_at}

abbrev pub NonePostsAnErrorWhileReadable : Type 0
NonePostsAnErrorWhileReadable =
    (entries : List Entry) (c : PortId) → let s : Slots = run entries empty in let x : cross.Slots = port_at c s in
    has_port c s ≡ true → x.side ≡ ReadableSide → (readable_at x.stream s).state ≡ Readable → has_end (posted_in c (run_events entries empty)) ≡ false
