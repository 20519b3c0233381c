-- A pipe's promise and its end.
use Rattle.std.specs.Prelude.{◌≡◌, true, false, List, [], ◌∷◌, Option, Some, None, slice_get}
use Rattle.ws_value.specs.declared.ids.PipeId.{PipeId}
use Rattle.ws_value.specs.declared.value.Outcome.{Outcome}
use Rattle.ws_value.specs.declared.value.Outcome.TheVariants.{Pending, Fulfilled, Rejected}
use Rattle.ws_value.specs.declared.value.Plain.{Plain}
use Rattle.ws_value.specs.declared.value.Plain.TheVariants.{Undefined}
use Rattle.ws_steps.specs.Pipes as pipe
use Rattle.ws_steps.specs.Promises.{outcome_at}
use Rattle.ws_steps.specs.Run.{Entry, run}
use Rattle.ws_steps.specs.Slots.{empty}
use Rattle.ws_pipe_laws.specs.pipes.PipeHistory.{is_over, run_course}

-- the outcome of the promise of a pipe that ended with this error, or without one
abbrev pub outcome_of_end : Option Plain → Outcome
outcome_of_end None = Fulfilled Undefined
outcome_of_end (Some e) = Rejected e

-- Of a pipe that is so, which came to these ends, and whose promise has this outcome. While it isn't over, it has no end, and its promise is
-- pending. Once it is over, it has one end, and its promise the outcome of that
pub record IsOpenUntilTheEnd (x : pipe.Slots) (ended : List (Option Plain)) (outcome : Option Outcome) : Type 0 where
  pub before : is_over x.phase ≡ false → (ended ≡ []) × (outcome ≡ Some Pending)
  pub after : is_over x.phase ≡ true → (e : Option Plain) × ((ended ≡ e ∷ []) × (outcome ≡ Some (outcome_of_end e)))

abbrev pub EachPromiseIsOpenUntilTheEnd : Type 0
EachPromiseIsOpenUntilTheEnd =
    (entries : List Entry) (p : PipeId) (x : pipe.Slots) → slice_get (run entries empty).pipes p.0 ≡ Some x
    → IsOpenUntilTheEnd x (run_course p entries empty).ended (outcome_at (run entries empty).promises x.promise)

-- what the outcome of a pipe's promise tells of the ends to which the pipe came
pub record TellsTheEnd (ended : List (Option Plain)) (outcome : Option Outcome) : Type 0 where
  pub pending : outcome ≡ Some Pending → ended ≡ []
  pub fulfilled : (v : Plain) → outcome ≡ Some (Fulfilled v) → (v ≡ Undefined) × (ended ≡ None ∷ [])
  pub rejected : (e : Plain) → outcome ≡ Some (Rejected e) → ended ≡ Some e ∷ []

abbrev pub EachOutcomeTellsTheEnd : Type 0
EachOutcomeTellsTheEnd =
    (entries : List Entry) (p : PipeId) (x : pipe.Slots) → slice_get (run entries empty).pipes p.0 ≡ Some x → TellsTheEnd (run_course p entries empty).ended (outcome_at (run entries empty).promises x.promise)
