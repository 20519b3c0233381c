-- What the fields of a stage at work show.
use Rattle.std.specs.Prelude.{◌≡◌, ◌*◌, ◌^◌, ◌≤◌, Bool, true, false, []}
use Rattle.ws_flow.specs.declared.plan.Ending.{Ending}
use Rattle.ws_flow.specs.declared.plan.Ending.TheVariants.{Fine}
use Rattle.ws_flow.specs.Machines.{Kept}
use Rattle.ws_flow.specs.Stages.{is_in_range, RestFits}
use Rattle.ws_flow.specs.Parts.{AtWork, Live, Over}
use Rattle.ws_stages.specs.declared.work.Work.TheInside.{Inside}
use Rattle.ws_stages.specs.Cuts.{kept_of}
use Rattle.ws_stages.specs.State.{State}

abbrev pub at_work : Bool → Ending → Kept → AtWork
at_work true e k = Over e
at_work false e k = Live k

abbrev pub shown : Inside → State
shown w = record { stage = w.stage; work = at_work w.stopped w.cut.ending (kept_of w.cut); pushes = w.pushes }

-- of a stage that may be asked
pub record IsReady (w : Inside) : Type 0 where
  pub chunks : w.cut.chunks.items ≡ []
  pub fine : w.cut.ending ≡ Fine
  pub rest : RestFits w.stage w.cut.rest.items
  pub bytes : w.cut.bytes ≤ w.pushes * 2 ^ 64
  pub count : w.cut.count ≤ w.pushes

pub record IsSound (w : Inside) : Type 0 where
  pub range : is_in_range w.stage ≡ true
  pub ready : w.stopped ≡ false → IsReady w
