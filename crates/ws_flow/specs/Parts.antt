-- The stages of a node, and what lies between them.
use Rattle.std.specs.Prelude.{◌≡◌, ℕ, zero, suc, List, [], ◌∷◌}
use Rattle.ws_flow.specs.declared.plan.Ending.{Ending}
use Rattle.ws_flow.specs.declared.plan.Ending.TheVariants.{Fine}
use Rattle.ws_flow.specs.Told.{Mark, Open, Closed, Broken, Lost, Told, told, then_told, IsShortOf}
use Rattle.ws_flow.specs.Machines.{Machine, Kept, through, keeps, verdict}

-- a stage at work: it may be asked, or it ended and isn't asked again
pub data AtWork : Type 0 where
  Live : Kept → AtWork
  Over : Ending → AtWork

-- of a stage: its work, and what lies before it, oldest first
pub record Part : Type 0 where
  pub work : AtWork
  pub before : Told (List ℕ)

abbrev pub nothing_told : Told (List ℕ)
nothing_told = told [] Open

abbrev pub fresh : List Machine → List Part
fresh [] = []
fresh (m ∷ ms) = record { work = Live m.start; before = nothing_told } ∷ fresh ms

-- a work that was asked for these: it goes on only where each push ended fine, and not after the flush. Of an input that broke off it is told nothing
abbrev pub LiveAsked : Machine → Kept → List (List ℕ) → Mark → AtWork → Type 0
LiveAsked m k xs Open w = (w ≡ Live (keeps m k xs)) × (verdict m k xs Open ≡ Fine)
LiveAsked m k xs Closed w = w ≡ Over (verdict m k xs Closed)
LiveAsked m k xs Broken w = ⊥
LiveAsked m k xs Lost w = w ≡ Over (verdict m k xs Lost)

-- an ended one isn't asked
abbrev pub Asked : Machine → AtWork → Told (List ℕ) → AtWork → Type 0
Asked m (Live k) t w = LiveAsked m k t.items t.mark w
Asked m (Over e) t w = (t ≡ nothing_told) × (w ≡ Over e)

abbrev pub made : Machine → AtWork → Told (List ℕ) → Told (List ℕ)
made m (Live k) t = through m k t
made m (Over e) t = nothing_told

-- The parts go on, and what comes out behind them does: y came in. Each work was asked for a first part of what lay before it and of
-- what came, the rest lies there now, and what it made came to the next part. Of each rest something may be lost, with all that comes
-- later
abbrev pub Goes : List Machine → Told (List ℕ) → List Part → Told (List ℕ) → List Part → Told (List ℕ) → Type 0
Goes [] y [] out [] new = IsShortOf new (then_told out y)
Goes (m ∷ ms) y (p ∷ ps) out (q ∷ qs) new =
    (taken : Told (List ℕ)) ×
    (Asked m p.work taken q.work) ×
    (IsShortOf (then_told taken q.before) (then_told p.before y)) ×
    (Goes ms (made m p.work taken) ps out qs new)
Goes _ y _ out _ new = ⊥

-- The flow of a node: since it was made x came in, and this came out
abbrev pub Flows : List Machine → Told (List ℕ) → List Part → Told (List ℕ) → Type 0
Flows ms x ps out = Goes ms x (fresh ms) nothing_told ps out

-- what is still to come out of the parts where y comes in
abbrev pub still : List Machine → List Part → Told (List ℕ) → Told (List ℕ)
still (m ∷ ms) (p ∷ ps) y = still ms ps (made m p.work (then_told p.before y))
still _ _ y = y

-- what lies in the node, through the stages that it hasn't passed
abbrev pub residual : List Machine → List Part → Told (List ℕ)
residual ms ps = still ms ps nothing_told

abbrev pub said : AtWork → Ending
said (Live k) = Fine
said (Over e) = e

-- how the work of this number, from 0, ended so far
abbrev pub found : List Part → ℕ → Ending
found [] j = Fine
found (p ∷ ps) zero = said p.work
found (p ∷ ps) (suc j) = found ps j
