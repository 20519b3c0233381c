use Rattle.std.proofs.Common.{◌≡◌, ◌*◌, ◌-◌, ◌≤◌, ◌++◌, length, take, drop}
use Rattle.hex.specs.Hex.{encode_lower}
use Rattle.ws_lanes.proofs.digits.put_hex.Given as goal

abbrev pub invariant-lanes : goal.invariant-lanes
invariant-lanes l = record {
  done : l.done ≤ length l.bytes;
  text : take (2 * l.done) l.text ++ encode_lower (drop l.done l.bytes) ≡ encode_lower l.bytes;
}

abbrev pub decreases-lanes : goal.decreases-lanes
decreases-lanes l = length l.bytes - l.done

abbrev pub invariant-more : goal.invariant-more
invariant-more l = record {
  done : l.done ≤ length l.bytes;
  text : take (2 * l.done) l.text ++ encode_lower (drop l.done l.bytes) ≡ encode_lower l.bytes;
}

abbrev pub decreases-more : goal.decreases-more
decreases-more l = length l.bytes - l.done

abbrev pub invariant-rest : goal.invariant-rest
invariant-rest l = take (2 * l.i) l.text ++ encode_lower (drop l.i l.bytes) ≡ encode_lower l.bytes
