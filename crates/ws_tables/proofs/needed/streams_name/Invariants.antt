use Rattle.std.proofs.Common.{◌≡◌, drop, map, nat_lt}
use Rattle.ws_alike.specs.Named.{in_all, in_stream}
use Rattle.ws_tables.specs.View.{stream_of}
use Rattle.ws_tables.proofs.needed.streams_name.Given as goal

-- those looked at name others
abbrev pub invariant-loop-stream : goal.invariant-loop-stream
invariant-loop-stream l = record {
  looked : nat_lt 0 (in_all (in_stream l.p) (map stream_of l.streams.items)) ≡ nat_lt 0 (in_all (in_stream l.p) (map stream_of (drop l.stream-index l.streams.items)));
}
