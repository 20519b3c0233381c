-- What is done with promises by short forms.
use Rattle.std.specs.Prelude.{Bool, true, false, List, [], ◌∷◌, Option, Some, None}
use Rattle.ws_value.specs.declared.ids.PromiseId.{PromiseId}
use Rattle.ws_jobs.specs.declared.short.Short.{Short}
use Rattle.ws_jobs.specs.Shorts.{reaction_in}
use Rattle.ws_steps.specs.declared.calls.HostCall.{HostCall}
use Rattle.ws_steps.specs.declared.effects.Effect.{Effect}
use Rattle.ws_steps.specs.declared.effects.Effect.TheVariants.{CallHost, Give}
use Rattle.ws_steps.specs.declared.effects.Gift.TheVariants.{This}
use Rattle.ws_steps.specs.declared.effects.Use.TheVariants.{React}
use Rattle.ws_steps.specs.declared.promises.Reaction.{Reaction}
use Rattle.ws_steps.specs.declared.promises.Reaction.TheVariants.{Adopt, Perform}

-- whether a reaction is that of a step
abbrev pub is_step : Option Reaction → Bool
is_step None = false
is_step (Some (Perform step derived)) = true
is_step (Some (Adopt p)) = false

-- a step is to be performed once a promise settles
abbrev pub reacting_by : PromiseId → Option Reaction → List Effect
reacting_by promise None = []
reacting_by promise (Some (Perform step derived)) = Give (This promise) (React step derived) ∷ []
reacting_by promise (Some (Adopt p)) = []

abbrev pub reacting : PromiseId → Short → List Effect
reacting promise short = reacting_by promise (reaction_in short)

-- the host is called, and a step is to be performed once the promise that stands for the call settles
abbrev pub calling_by : HostCall → Option Reaction → List Effect
calling_by call None = []
calling_by call (Some (Perform step derived)) = CallHost call (React step derived) ∷ []
calling_by call (Some (Adopt p)) = []

abbrev pub calling : HostCall → Short → List Effect
calling call short = calling_by call (reaction_in short)
