-- What a chunk's two representations stand for.
use Rattle.std.specs.Prelude.{ℕ, List}
use Rattle.ws_value.specs.declared.chunk.Held.{Held}
use Rattle.ws_value.specs.declared.chunk.Held.TheVariants.{Shared, Owned}

abbrev pub bytes_of : Held → List ℕ
bytes_of (Shared bytes) = bytes
bytes_of (Owned bytes) = bytes
