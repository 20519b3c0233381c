-- A stage at work, as its caller sees it, and what it answers.
use Rattle.std.specs.Prelude.{ℕ, Bool, true, false}
use Rattle.ws_flow.specs.declared.plan.Ending.{Ending}
use Rattle.ws_flow.specs.declared.plan.Ending.TheVariants.{Fine, Bad}
use Rattle.ws_flow.specs.declared.plan.Stage.{Stage}
use Rattle.ws_flow.specs.Machines.{Kept, nothing_kept}
use Rattle.ws_flow.specs.Parts.{AtWork, Live, Over}

pub record State : Type 0 where
  pub stage : Stage
  pub work : AtWork
  -- the chunks that were pushed
  pub pushes : ℕ

-- it may be asked: neither an ending nor a flush nor want of memory came before
abbrev pub IsLive : AtWork → Type 0
IsLive (Live k) = Unit {0}
IsLive (Over e) = ⊥

abbrev pub is_live : AtWork → Bool
is_live (Live k) = true
is_live (Over e) = false

abbrev pub kept_in : AtWork → Kept
kept_in (Live k) = k
kept_in (Over e) = nothing_kept

abbrev pub begun : Stage → State
begun stage = record { stage = stage; work = Live nothing_kept; pushes = 0 }

-- after a push it may be asked again where that was fine
abbrev pub after_push : Ending → Kept → AtWork
after_push Fine k = Live k
after_push (Bad c p) k = Over (Bad c p)
