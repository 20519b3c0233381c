-- What is left to do once a promise was settled, by what became of it.
use Rattle.std.specs.Prelude.{ℕ}
use Rattle.ws_value.specs.declared.ids.PromiseId.{PromiseId}
use Rattle.ws_steps.specs.Promises.{Table, tell, went_astray}
use Rattle.ws_steps.specs.declared.calls.Event.TheVariants.{Settled}
use Rattle.ws_slots.specs.declared.watched.Settling.{Settling}
use Rattle.ws_slots.specs.declared.watched.Settling.TheVariants.{Astray, Unwatched, Watched}

-- the table with the mark, or with the event
abbrev pub marked : PromiseId → Table → Settling → Table
marked p t Astray = went_astray t
marked p t Unwatched = t
marked p t Watched = tell (Settled p) t

abbrev pub one_where_watched : Settling → ℕ
one_where_watched Astray = 0
one_where_watched Unwatched = 0
one_where_watched Watched = 1
