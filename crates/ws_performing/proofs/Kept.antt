-- What a realm keeps stays where an effect is performed that concerns no record.
use Rattle.std.proofs.Common.{◌≤◌, length, sym, subst}
use Rattle.ws_steps.specs.declared.effects.Effect.{Effect}
use Rattle.ws_steps.specs.Slots.{Slots}
use Rattle.ws_tables.specs.View.{slots_of}
use Rattle.ws_tables.specs.Room.{HasFew, IsKept, KeepsRecords}
use Rattle.ws_performing.specs.Performing.{Performs}
use Rattle.ws_tables.specs.declared.tables.Tables.{Tables}
use Rattle.ws_tables.proofs.Counts.{entries-more, row-few}
use Rattle.ws_tables.proofs.Places.{kept_beside}

pub kept_by : (e : Effect) (t t' : Tables) → Performs e t t' → KeepsRecords t t' → IsKept t → IsKept t'
kept_by e t t' did same kept =
    kept_beside t t' same (subst (λ (s : Slots). length t.promises.table.entries ≤ length s.promises.entries) (sym did.slots) (entries-more e (slots_of t)))
    (subst HasFew (sym did.slots) (row-few e (slots_of t) kept.few)) kept
