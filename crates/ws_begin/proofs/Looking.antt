-- Which kind a stream is of, and whether bytes are none.
use Rattle.std.proofs.Common.{◌≡◌, ℕ, true, false, List, [], ◌∷◌, length, Option, refl, arith}
use Rattle.std.specs.Prelude.{◌==◌, slice_get}
use Rattle.ws_value.specs.declared.ids.StreamId.{StreamId}
use Rattle.ws_steps.specs.Queues.{is_empty}
use Rattle.ws_steps.specs.Slots.{Slots, Stream, is_readable_stream, is_byte_stream, has_readable, has_byte}

is-no-byte : (o : Option Stream) → is_readable_stream o ≡ true → is_byte_stream o ≡ false
is-no-byte o is = grind arith

pub default_no_byte : (i : StreamId) (s : Slots) → has_readable i s ≡ true → has_byte i s ≡ false
default_no_byte i s is = is-no-byte (slice_get s.streams i.0) is

pub empty_length : (b : List ℕ) → (length b == 0) ≡ is_empty b
empty_length [] = refl
empty_length (x ∷ b) = grind arith
