use Rattle.std.proofs.Common.{◌≡◌, ◌<◌, ◌-◌, ℕ, length, Option, Some}
use Rattle.std.specs.Prelude.{slice_get}
use Rattle.ws_value.specs.declared.ids.PromiseId.{PromiseId}
use Rattle.ws_alike.specs.Named.{in_option}
use Rattle.ws_hosts.proofs.hosts.Hosts.names.Given as goal

-- those looked at are others
abbrev pub invariant-loop-h : goal.invariant-loop-h
invariant-loop-h l = record {
  looked : (i : ℕ) (o : Option PromiseId) → i < l.at → slice_get l.self.items i ≡ Some o → in_option l.p o ≡ 0;
}

abbrev pub decreases-loop-h : goal.decreases-loop-h
decreases-loop-h l = length l.self.items - l.at
