-- What a sink with a buffer in front of it got.
use Rattle.std.specs.Prelude.{ℕ, List, ◌++◌}
use Rattle.ws_io.specs.Gain.{Got}

-- behind what the sink itself holds back, what the buffer does
abbrev pub held_behind : Got → List ℕ → Got
held_behind got held = record { out = got.out; held = got.held ++ held }
