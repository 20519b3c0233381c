use Rattle.ws_steps.specs.Places.{measure}
use Rattle.ws_performing.specs.Performing.{effects_of}
use Rattle.ws_tables.specs.View.{slots_of}
use Rattle.ws_performing.proofs.Turns.{Turning}
use Rattle.ws_effects.proofs.agenda.perform_effects.Given as goal

-- what is left to perform makes of the slots what all makes of the first
abbrev pub invariant-loop-tables : goal.invariant-loop-tables
invariant-loop-tables l = Turning l.fn.tables l.tables l.under_way

-- how many turns there may be
abbrev pub decreases-loop-tables : goal.decreases-loop-tables
decreases-loop-tables l = measure (slots_of l.tables) (effects_of l.tables)
