-- Which pipes that ended without an error have passed on all that they read.
use Rattle.std.specs.Prelude.{◌≡◌, ◌⊎◌, Bool, true, false, List, [], ◌∷◌, Some, None, slice_get}
use Rattle.ws_value.specs.declared.ids.PipeId.{PipeId}
use Rattle.ws_value.specs.declared.value.Outcome.TheVariants.{Fulfilled}
use Rattle.ws_value.specs.declared.value.Plain.{Plain}
use Rattle.ws_steps.specs.declared.pipes.Phase.TheVariants.{Waiting}
use Rattle.ws_steps.specs.declared.writable.WritableState.{WritableState}
use Rattle.ws_steps.specs.declared.writable.WritableState.TheVariants.{Writable, Erroring, Errored, Closed}
use Rattle.ws_steps.specs.Pipes as pipe
use Rattle.ws_steps.specs.Promises.{outcome_at}
use Rattle.ws_steps.specs.Run.{Entry, run}
use Rattle.ws_steps.specs.Slots.{Slots, empty, pipe_at, writable_at}
use Rattle.ws_steps.specs.Turns.{Moment}
use Rattle.ws_pipe_laws.specs.pipes.PipeHistory.{is_live, run_course, run_through, run_moments}
use Rattle.ws_pipe_laws.specs.pipes.PipeWrites.{AllMoments, leaves}
use Rattle.ws_end_laws.specs.wrote.WroteLaws.{IsPassedOn}

-- erroring or errored
abbrev pub is_failing : WritableState → Bool
is_failing Writable = false
is_failing Erroring = true
is_failing Errored = true
is_failing Closed = false

-- where pipe p begins its action at this moment, or ends without one, it waited, or its destination is neither erroring nor errored
abbrev pub FindsNoFailure : PipeId → Moment → Type 0
FindsNoFailure p m =
    is_live (pipe_at p m.found).phase ≡ true → is_live (pipe_at p (leaves m)).phase ≡ false
    → ((pipe_at p m.found).phase ≡ Waiting) ⊎ (is_failing (writable_at (pipe_at p m.found).dest m.found).state ≡ false)

abbrev pub EachUnfailingPipePassedAll : Type 0
EachUnfailingPipePassedAll =
    (entries : List Entry) (p : PipeId)
    → AllMoments (FindsNoFailure p) (run_moments entries empty) → (run_course p entries empty).ended ≡ None ∷ [] → IsPassedOn (run_through p entries empty)

abbrev pub EachPipeThatClosedPassedAll : Type 0
EachPipeThatClosedPassedAll =
    (entries : List Entry) (p : PipeId) → let s : Slots = run entries empty in
    (run_course p entries empty).ended ≡ None ∷ [] → (writable_at (pipe_at p s).dest s).state ≡ Closed → IsPassedOn (run_through p entries empty)

abbrev pub EachPipeThatMayClosePassedAll : Type 0
EachPipeThatMayClosePassedAll =
    (entries : List Entry) (p : PipeId)
    → (run_course p entries empty).ended ≡ None ∷ [] → (pipe_at p (run entries empty)).prevent.close ≡ false → IsPassedOn (run_through p entries empty)

abbrev pub EachFulfilledPipePassedAllItRead : Type 0
EachFulfilledPipePassedAllItRead =
    (entries : List Entry) (p : PipeId) (x : pipe.Slots) (v : Plain) → slice_get (run entries empty).pipes p.0 ≡ Some x
    → outcome_at (run entries empty).promises x.promise ≡ Some (Fulfilled v) → x.prevent.close ≡ false
    → IsPassedOn (run_through p entries empty)
