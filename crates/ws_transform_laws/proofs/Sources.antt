-- A stream with a byte controller is the host's; to the laws of default streams it is no stream.
use Rattle.std.proofs.Common.{◌≡◌, true, false, Option, slice_get, ap, arith}
use Rattle.ws_value.specs.declared.ids.StreamId.{StreamId}
use Rattle.ws_steps.specs.declared.effects.Owner.TheVariants.{Host}
use Rattle.ws_steps.specs.declared.readable.ReadableOperation.{ReadableOperation}
use Rattle.ws_steps.specs.Histories.{is_same}
use Rattle.ws_steps.specs.Slots.{Slots, Stream, as_readable, as_source, is_byte_stream, no_readable, owner_of, owner_at, has_byte, readable_at, source_at}
use Rattle.ws_steps.specs.Turns.{on_source}
use Rattle.ws_laws.proofs.Tables.{byte_there, on_source-other}

pub byte-host : (j : StreamId) (s : Slots) → has_byte j s ≡ true → owner_at j s ≡ Host
byte-host j s is = ap owner_of (byte_there (slice_get s.streams j.0) is)

pub byte-unread : (j : StreamId) (s : Slots) → has_byte j s ≡ true → readable_at j s ≡ no_readable
byte-unread j s is = ap as_readable (byte_there (slice_get s.streams j.0) is)

default-source : (o : Option Stream) → is_byte_stream o ≡ false → as_source o ≡ as_readable o
default-source o e = grind arith

pub source-default : (j : StreamId) (s : Slots) → has_byte j s ≡ false → source_at j s ≡ readable_at j s
source-default j s isnt = default-source (slice_get s.streams j.0) isnt

-- an operation on another stream
pub source-apart : (operation : ReadableOperation) (j : StreamId) (s : Slots) (i : StreamId) → is_same i j ≡ false → readable_at i (on_source operation j s).slots ≡ readable_at i s
source-apart operation j s i n = ap as_readable (on_source-other operation j s i n)
