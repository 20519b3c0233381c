use Rattle.std.proofs.Common.{◌≡◌, List, ℕ, Bor, map}
use Rattle.toml.specs.View.{members_view, table_view}
use Rattle.ws_plan.specs.Keys.{has_only}
use Rattle.ws_plan.proofs.keys.has_only.Given as goal

abbrev pub invariant-loop-key : goal.invariant-loop-key
invariant-loop-key l =
    (goal.iterator-loop-key).can_next l.key-iterator ×
    (goal.iterator-loop-key).is_finite l.key-iterator ×
    (has_only (map (λ (k : Bor (List ℕ)). k.now) l.keys) (table_view l.table) ≡ has_only (map (λ (k : Bor (List ℕ)). k.now) l.keys) (members_view l.key-iterator))
