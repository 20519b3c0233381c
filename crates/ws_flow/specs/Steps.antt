-- Stages at work, and what lies at each place between them, by the number of the place.
use Rattle.std.specs.Prelude.{ℕ, suc, List, [], ◌∷◌}
use Rattle.ws_flow.specs.declared.plan.Ending.{Ending}
use Rattle.ws_flow.specs.declared.plan.Ending.TheVariants.{Fine, Bad}
use Rattle.ws_flow.specs.Told.{Open, Closed, Broken, Lost, Told, told}
use Rattle.ws_flow.specs.Machines.{Kept}
use Rattle.ws_flow.specs.Parts.{AtWork, Live, Over, Part}

-- what may still be taken: nothing by a work that ended
abbrev pub before_work : AtWork → Told (List ℕ) → Told (List ℕ)
before_work (Live k) t = t
before_work (Over e) t = told [] Lost

-- the first work stands at place k, the others follow
abbrev pub parts_at : ℕ → List AtWork → (ℕ → Told (List ℕ)) → List Part
parts_at k [] x = []
parts_at k (w ∷ ws) x = record { work = w; before = before_work w (x k) } ∷ parts_at (suc k) ws x

-- what lies behind the last
abbrev pub behind_of : ℕ → List AtWork → (ℕ → Told (List ℕ)) → Told (List ℕ)
behind_of k [] x = x k
behind_of k (w ∷ ws) x = behind_of (suc k) ws x

-- after a push: it goes on where that was fine
abbrev pub work_after : Ending → Kept → AtWork
work_after Fine k = Live k
work_after (Bad c p) k = Over (Bad c p)

-- how what comes out of a work goes on after what it made
abbrev pub coming_end : Ending → Told (List ℕ)
coming_end Fine = told [] Closed
coming_end (Bad c p) = told [] Broken

abbrev pub coming_from : AtWork → Told (List ℕ)
coming_from (Live k) = told [] Open
coming_from (Over e) = coming_end e
