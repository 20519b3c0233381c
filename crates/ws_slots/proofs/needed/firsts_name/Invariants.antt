use Rattle.std.proofs.Common.{◌≡◌, ◌<◌, ◌-◌, ℕ, length, Some}
use Rattle.std.specs.Prelude.{slice_get}
use Rattle.ws_alike.specs.Named.{in_reactions}
use Rattle.ws_slots.specs.View.{first_reactions}
use Rattle.ws_slots.specs.Slot.{Slot}
use Rattle.ws_slots.proofs.needed.firsts_name.Given as goal

-- those looked at name others
abbrev pub invariant-loop-q : goal.invariant-loop-q
invariant-loop-q l = record {
  looked : (i : ℕ) (s : Slot) → i < l.at.0 → slice_get l.slots.items i ≡ Some (Some s) → in_reactions l.p (first_reactions s.first) ≡ 0;
}

abbrev pub decreases-loop-q : goal.decreases-loop-q
decreases-loop-q l = length l.slots.items - l.at.0
