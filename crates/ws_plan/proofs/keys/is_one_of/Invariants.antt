use Rattle.std.proofs.Common.{◌≡◌, List, ℕ, Bor, drop, map}
use Rattle.std.specs.List.{list_any}
use Rattle.std.specs.Str.{bytes_eq}
use Rattle.ws_plan.proofs.keys.is_one_of.Given as goal

abbrev pub invariant-loop-known : goal.invariant-loop-known
invariant-loop-known l = list_any (bytes_eq l.key) (map (λ (k : Bor (List ℕ)). k.now) l.keys) ≡ list_any (bytes_eq l.key) (map (λ (k : Bor (List ℕ)). k.now) (drop l.known-index l.keys))
