-- What each branch of a tee gets, cancelled or not.
use Rattle.std.specs.Prelude.{◌≡◌, true, List, ◌++◌}
use Rattle.ws_value.specs.declared.ids.TeeId.{TeeId}
use Rattle.ws_value.specs.declared.value.Value.{Value}
use Rattle.ws_steps.specs.Laws.{IsPrefixOf}
use Rattle.ws_steps.specs.ReadableHistory.{Flow, run_flow}
use Rattle.ws_steps.specs.Run.{Entry, run}
use Rattle.ws_steps.specs.Slots.{Slots, empty, tee_at}
use Rattle.ws_steps.specs.Tee as tee
use Rattle.ws_steps.specs.TeeHistory.{Teed, has_tee, run_teed}
use Rattle.ws_steps.specs.TeeLaws.{held_values}

pub record GetsParts (h : Teed) (f g : Flow) (x : tee.Slots) : Type 0 where
  pub handed : List Value
  pub given : handed ++ held_values x.held ≡ h.given
  pub first : IsPrefixOf f.entered handed
  pub second : IsPrefixOf g.entered handed

abbrev pub EachBranchGetsAFirstPart : Type 0
EachBranchGetsAFirstPart =
    (entries : List Entry) (t : TeeId) → let s : Slots = run entries empty in let x : tee.Slots = tee_at t s in has_tee t s ≡ true
    → GetsParts (run_teed t entries empty) (run_flow x.branch1 entries empty) (run_flow x.branch2 entries empty) x
