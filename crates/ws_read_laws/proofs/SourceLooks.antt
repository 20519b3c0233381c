-- How a readable stream looks, by the kind of its controller.
use Rattle.std.proofs.Common.{◌≡◌, Bool, true, false, ◌||◌, Option, Some, None, refl}
use Rattle.ws_steps.specs.Bytes as byte
use Rattle.ws_steps.specs.Slots.{Stream, ReadableStream, ByteStream, WritableStream, is_readable_stream, is_byte_stream, as_readable, as_byte, as_source}

-- one without a byte controller looks as it is
pub looks-default : (o : Option Stream) → is_byte_stream o ≡ false → as_source o ≡ as_readable o
looks-default None b = refl
looks-default (Some (ReadableStream r)) b = refl
looks-default (Some (ByteStream c)) b = cc
looks-default (Some (WritableStream w)) b = refl

pub default-no_byte : (o : Option Stream) → is_readable_stream o ≡ true → is_byte_stream o ≡ false
default-no_byte None e = refl
default-no_byte (Some (ReadableStream r)) e = refl
default-no_byte (Some (ByteStream c)) e = cc
default-no_byte (Some (WritableStream w)) e = refl

-- where one has a controller of either kind and no byte controller, it has a default controller
pub default-there : (a b : Bool) → (a || b) ≡ true → b ≡ false → a ≡ true
default-there true b e f = refl
default-there false true e f = cc
default-there false false e f = cc

pub looks-byte : (o : Option Stream) → is_byte_stream o ≡ true → as_source o ≡ byte.shown (as_byte o)
looks-byte None b = cc
looks-byte (Some (ReadableStream r)) b = cc
looks-byte (Some (ByteStream c)) b = refl
looks-byte (Some (WritableStream w)) b = cc
