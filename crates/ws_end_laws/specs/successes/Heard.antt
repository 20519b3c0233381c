-- What a pipe hears of its action, and how it ends.
use Rattle.std.specs.Prelude.{◌≡◌, ◌⊎◌, ◌&&◌, Bool, true, false, nat_eq, if◌then◌else◌, List, [], ◌∷◌, ◌++◌, Some, None, Result, slice_get}
use Rattle.ws_value.specs.declared.ids.PipeId.{PipeId}
use Rattle.ws_value.specs.declared.ids.PromiseId.{PromiseId}
use Rattle.ws_value.specs.declared.value.Outcome.TheVariants.{Fulfilled}
use Rattle.ws_value.specs.declared.value.Plain.{Plain}
use Rattle.ws_steps.specs.declared.effects.Effect.{Effect}
use Rattle.ws_steps.specs.declared.effects.Effect.TheVariants.{Pipe as OnPipe, Give}
use Rattle.ws_steps.specs.declared.effects.Gift.TheVariants.{This}
use Rattle.ws_steps.specs.declared.effects.Use.TheVariants.{React}
use Rattle.ws_steps.specs.declared.pipes.Action.{Action}
use Rattle.ws_steps.specs.declared.pipes.Phase.TheVariants.{Flowing}
use Rattle.ws_steps.specs.declared.pipes.PipeOperation.{PipeOperation}
use Rattle.ws_steps.specs.declared.pipes.PipeOperation.TheVariants.{ActionSettled, PartSettled}
use Rattle.ws_steps.specs.declared.promises.Step.{Step}
use Rattle.ws_steps.specs.declared.promises.Step.TheVariants.{PipeActed, PipePart}
use Rattle.ws_steps.specs.Pipes as pipe
use Rattle.ws_steps.specs.Promises.{Table, settled, outcome_at}
use Rattle.ws_steps.specs.Run.{Entry, run}
use Rattle.ws_steps.specs.Slots.{Slots, empty, ends_at, pipe_at}
use Rattle.ws_steps.specs.Turns.{Moment, row}
use Rattle.ws_pipe_laws.specs.pipes.PipeHistory.{error_after, has_closed, is_live, is_over, shutdown, shutdown_by, run_course, run_moments}
use Rattle.ws_pipe_laws.specs.pipes.PipeMoves.{acted}
use Rattle.ws_pipe_laws.specs.pipes.PipeWrites.{AllSince}
use Rattle.ws_end_laws.specs.ends.PromiseEnds.{outcome_of_end}

-- what a pipe reacts to: the promise of its action, or that of a part of what its signal does
pub data Awaited : Type 0 where
  ItsAction : Awaited
  APart : Awaited

abbrev pub is_action : Awaited → Bool
is_action ItsAction = true
is_action APart = false

abbrev pub is_part : Awaited → Bool
is_part ItsAction = false
is_part APart = true

-- whether this is that reaction of pipe p
abbrev pub is_reaction : Awaited → PipeId → Step → Bool
is_reaction what p (PipeActed q) = is_action what && nat_eq p.0 q.0
is_reaction what p (PipePart q) = is_part what && nat_eq p.0 q.0
is_reaction what p _ = false

-- the promises to which pipe p is to react so, by these effects
abbrev pub heard_in : Awaited → PipeId → List Effect → List PromiseId
heard_in what p [] = []
heard_in what p (Give (This d) (React step derived) ∷ es) = (if is_reaction what p step then d ∷ [] else []) ++ heard_in what p es
heard_in what p (e ∷ es) = heard_in what p es

-- those by what an effect causes, and by what is caused in these moments
abbrev pub effect_heard : Awaited → PipeId → Effect → Slots → List PromiseId
effect_heard what p e s = heard_in what p (row e s).caused

abbrev pub promises_heard : Awaited → PipeId → List Moment → List PromiseId
promises_heard what p [] = []
promises_heard what p (m ∷ ms) = effect_heard what p m.effect m.found ++ promises_heard what p ms

abbrev pub Among : PromiseId → List PromiseId → Type 0
Among q [] = ⊥
Among q (d ∷ ds) = (q ≡ d) ⊎ Among q ds

-- one of these promises has this outcome
pub record IsOutcome (t : Table) (ds : List PromiseId) (o : Result Plain Plain) : Type 0 where
  pub promise : PromiseId
  pub among : Among promise ds
  pub outcome : outcome_at t promise ≡ Some (settled o)

abbrev pub EachOutcomeHeardIsThePromises : Type 0
EachOutcomeHeardIsThePromises =
    (entries : List Entry) (p : PipeId)
    → AllSince (λ past m. (o : Result Plain Plain) → m.effect ≡ OnPipe p (ActionSettled o) → IsOutcome m.found.promises (promises_heard ItsAction p past) o) [] (run_moments entries empty)

abbrev pub EachOutcomeOfAPartIsItsPromises : Type 0
EachOutcomeOfAPartIsItsPromises =
    (entries : List Entry) (p : PipeId)
    → AllSince (λ past m. (o : Result Plain Plain) → m.effect ≡ OnPipe p (PartSettled o) → IsOutcome m.found.promises (promises_heard APart p past) o) [] (run_moments entries empty)

-- how a pipe ended that performed an action
pub record EndsAsItsAction (p : PipeId) (x : pipe.Slots) (entries : List Entry) : Type 0 where
  pub promise : PromiseId
  pub outcome : Result Plain Plain
  pub one : promises_heard ItsAction p (run_moments entries empty) ≡ promise ∷ []
  pub settled : outcome_at (run entries empty).promises promise ≡ Some (settled outcome)
  pub shutdown : (run_course p entries empty).shutdowns ≡ shutdown x.action x.error ∷ []
  pub acted : (run_course p entries empty).acted ≡ x.action ∷ []
  pub ended : (run_course p entries empty).ended ≡ error_after x.error outcome ∷ []
  pub told : outcome_at (run entries empty).promises x.promise ≡ Some (outcome_of_end (error_after x.error outcome))

abbrev pub EachPipeEndsAsItsAction : Type 0
EachPipeEndsAsItsAction =
    (entries : List Entry) (p : PipeId) (x : pipe.Slots) (action : Action)
    → slice_get (run entries empty).pipes p.0 ≡ Some x → is_over x.phase ≡ true → x.action ≡ Some action → EndsAsItsAction p x entries

-- The moment of these at which pipe p shut down, from flowing: by the first of the four conditions that held, or by its signal. The shutdown is that
-- which x has
pub record ShutDown (p : PipeId) (x : pipe.Slots) (ms : List Moment) : Type 0 where
  pub past : List Moment
  pub moment : Moment
  pub rest : List Moment
  pub operation : PipeOperation
  pub split : ms ≡ past ++ moment ∷ rest
  pub effect : moment.effect ≡ OnPipe p operation
  pub flowing : (pipe_at p moment.found).phase ≡ Flowing
  pub named : shutdown_by (pipe_at p moment.found).prevent (ends_at (pipe_at p moment.found) moment.found) operation ≡ Some (shutdown x.action x.error)

-- The moment of these at which pipe p, which was live, began this action: what it caused then is what the action causes, and among that the reaction to
-- one promise as to that of its action, the only one in these moments
pub record ActedFor (p : PipeId) (action : Action) (ms : List Moment) : Type 0 where
  pub past : List Moment
  pub moment : Moment
  pub rest : List Moment
  pub operation : PipeOperation
  pub promise : PromiseId
  pub split : ms ≡ past ++ moment ∷ rest
  pub effect : moment.effect ≡ OnPipe p operation
  pub live : is_live (pipe_at p moment.found).phase ≡ true
  pub caused : (row moment.effect moment.found).caused ≡ (acted p (ends_at (pipe_at p moment.found) moment.found) (pipe_at p moment.found) moment.found.promises action).out.effects
  pub heard : effect_heard ItsAction p moment.effect moment.found ≡ promise ∷ []
  pub only : promises_heard ItsAction p ms ≡ promise ∷ []

-- its promise has the outcome of its shutdown: without an action that of its error, and with one as its action tells
pub data IsAnswered (p : PipeId) (x : pipe.Slots) (entries : List Entry) : Type 0 where
  WithNoAction : x.action ≡ None → outcome_at (run entries empty).promises x.promise ≡ Some (outcome_of_end x.error) → IsAnswered p x entries
  ByItsAction : (action : Action) → x.action ≡ Some action → ActedFor p action (run_moments entries empty) → EndsAsItsAction p x entries → IsAnswered p x entries

-- from the first condition to the outcome of the promise, of a pipe that is over
pub record EndsAsItShutDown (p : PipeId) (x : pipe.Slots) (entries : List Entry) : Type 0 where
  pub shut : ShutDown p x (run_moments entries empty)
  pub answered : IsAnswered p x entries
  pub closed : (v : Plain) → outcome_at (run entries empty).promises x.promise ≡ Some (Fulfilled v)
      → (x.error ≡ None) × (has_closed (ends_at (pipe_at p shut.moment.found) shut.moment.found).source_state ≡ true)

abbrev pub EachPipeEndsAsItShutDown : Type 0
EachPipeEndsAsItShutDown =
    (entries : List Entry) (p : PipeId) (x : pipe.Slots) → slice_get (run entries empty).pipes p.0 ≡ Some x → is_over x.phase ≡ true → EndsAsItShutDown p x entries
