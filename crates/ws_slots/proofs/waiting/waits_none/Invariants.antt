use Rattle.std.proofs.Common.{◌≡◌, drop}
use Rattle.ws_slots.specs.View.{waiting_on}
use Rattle.ws_slots.proofs.waiting.waits_none.Given as goal

-- those looked at wait for others
abbrev pub invariant-loop-w : goal.invariant-loop-w
invariant-loop-w l = record {
  looked : waiting_on l.p.0 l.waiting ≡ waiting_on l.p.0 (drop l.w-index l.waiting);
}
