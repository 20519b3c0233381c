-- What a byte stream keeps once it has closed.
use Rattle.std.specs.Prelude.{◌≡◌, true, false, List, ◌++◌}
use Rattle.ws_value.specs.declared.ids.StreamId.{StreamId}
use Rattle.ws_steps.specs.declared.readable.ReadableState.TheVariants.{Closed}
use Rattle.ws_steps.specs.ByteHistory.{ByteFlow, kept, run_bytes}
use Rattle.ws_steps.specs.Slots.{Slots, has_byte, byte_at, empty}
use Rattle.ws_steps.specs.Run.{Entry, run}

abbrev pub EachClosedByteStreamKeeps : Type 0
EachClosedByteStreamKeeps =
    (entries : List Entry) (i : StreamId) → let s : Slots = run entries empty in let h : ByteFlow = run_bytes i entries empty in
    has_byte i s ≡ true → (byte_at i s).stream.state ≡ Closed → h.cancelled ≡ false → h.answered ≡ false
    → h.entered ≡ h.given ++ kept (byte_at i s)
