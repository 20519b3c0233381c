-- What a job begins with, in the places that there are.
use Rattle.std.specs.Prelude.{◌≡◌}
use Rattle.ws_steps.specs.Slots.{Done}
use Rattle.ws_tables.specs.View.{slots_of}
use Rattle.ws_tables.specs.Room.{places_of, KeepsRecords}
use Rattle.ws_tables.specs.declared.tables.Tables.{Tables}

-- a job begins, in the places that there are. Its effects are caused
pub record Begins (d : Done) (t t' : Tables) : Type 0 where
  pub slots : slots_of t' ≡ d.slots
  pub caused : t'.caused.effects ≡ d.caused
  pub others : t'.others ≡ t.others
  pub places : places_of t' ≡ places_of t
  pub records : KeepsRecords t t'
