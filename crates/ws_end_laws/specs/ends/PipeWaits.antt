-- What a pipe waits for: that its writer is ready, and that the parts of what its signal does have settled.
use Rattle.std.specs.Prelude.{◌-◌, ◌≡◌, ◌≢◌, ◌≤◌, ◌<◌, ◌⊎◌, Bool, true, false, not, ◌&&◌, ◌||◌, List, [], ◌∷◌, length, Option, Some, None, Result, Ok, Err}
use Rattle.ws_value.specs.declared.ids.PipeId.{PipeId}
use Rattle.ws_value.specs.declared.ids.PromiseId.{PromiseId}
use Rattle.ws_value.specs.declared.value.Outcome.TheVariants.{Pending}
use Rattle.ws_value.specs.declared.value.Plain.{Plain}
use Rattle.ws_value.specs.declared.value.Plain.TheVariants.{Undefined}
use Rattle.ws_steps.specs.declared.effects.Effect.{Effect}
use Rattle.ws_steps.specs.declared.effects.Effect.TheVariants.{Readable as OnReadable, Give}
use Rattle.ws_steps.specs.declared.effects.Gift.TheVariants.{This}
use Rattle.ws_steps.specs.declared.effects.Use.TheVariants.{React}
use Rattle.ws_steps.specs.declared.pipes.Action.TheVariants.{BySignal}
use Rattle.ws_steps.specs.declared.pipes.Ends.{Ends}
use Rattle.ws_steps.specs.declared.pipes.Phase.TheVariants.{Flowing, Acting}
use Rattle.ws_steps.specs.declared.pipes.PipeOperation.{PipeOperation}
use Rattle.ws_steps.specs.declared.pipes.PipeOperation.TheVariants.{PartSettled, NoParts}
use Rattle.ws_steps.specs.declared.promises.Step.TheVariants.{PipeReady}
use Rattle.ws_steps.specs.declared.readable.ReadRequest.TheVariants.{Pipe as PipeRequest}
use Rattle.ws_steps.specs.declared.readable.ReadableOperation.TheVariants.{Read}
use Rattle.ws_steps.specs.Operations.{pipe_operation}
use Rattle.ws_steps.specs.Pipes.{Slots, Acts}
use Rattle.ws_steps.specs.Promises.{Table, entry_at, outcome_at, settle}
use Rattle.ws_steps.specs.Run.{Entry, run}
use Rattle.ws_steps.specs.Slots as realm
use Rattle.ws_steps.specs.Writable.{is_writable}
use Rattle.ws_pipe_laws.specs.pipes.PipeHistory.{first_condition, is_look, is_live}
use Rattle.ws_pipe_laws.specs.pipes.PipeMoves.{starting, leaving, looked}

-- its writer

-- the pipe reacts to this promise as to that its writer is ready
abbrev pub hears_ready : PipeId → PromiseId → Effect
hears_ready me d = Give (This d) (React (PipeReady me) None)

-- whether a pipe that is so only rests: a read is under way; or the destination wants no chunk, and the pipe waits for it already, or it isn't
-- writable
abbrev pub rests_at : Ends → Slots → Bool
rests_at ends y = y.reading || (not ends.dest_wants && (y.waits || not (is_writable ends.dest_state)))

-- What a look leaves of a pipe that flows, where none of the four conditions holds. Where the destination wants a chunk, it reads; else it waits
-- for its writer to be ready, by a reaction to the writer's promise, unless it waits already, and where the destination is writable
pub record LooksOn (me : PipeId) (ends : Ends) (y : Slots) (t : Table) (b : Acts) : Type 0 where
  pub reads : y.reading ≡ false → ends.dest_wants ≡ true
      → b ≡ leaving (record y { reading = true }) t (OnReadable y.source (Read (PipeRequest me)) ∷ [])
  pub waits : (d : PromiseId) → y.reading ≡ false → ends.dest_wants ≡ false → y.waits ≡ false → is_writable ends.dest_state ≡ true → ends.dest_ready ≡ Some d
      → b ≡ leaving (record y { waits = true }) t (hears_ready me d ∷ [])
  pub no_writer : y.reading ≡ false → ends.dest_wants ≡ false → ends.dest_ready ≡ None → b ≡ leaving y t []
  pub rests : rests_at ends y ≡ true → b ≡ leaving y t []

-- what an operation of a pipe does to what it waits for; and a look by the reaction to its writer's promise waits no longer
pub record WaitsForReady (me : PipeId) (ends : Ends) (operation : PipeOperation) (x : Slots) (t : Table) (b : Acts) : Type 0 where
  pub looks : is_look operation ≡ true → x.phase ≡ Flowing → first_condition x.prevent ends ≡ None → LooksOn me ends (looked operation x) t b
  pub others : (is_look operation ≡ false) ⊎ ((x.phase ≢ Flowing) ⊎ (first_condition x.prevent ends ≢ None)) → b.slots.waits ≡ (looked operation x).waits

abbrev pub EachPipeWaitsForReady : Type 0
EachPipeWaitsForReady =
    (p : PipeId) (ends : Ends) (operation : PipeOperation) (x : Slots) (t : Table) → WaitsForReady p ends operation x t (pipe_operation p ends operation (starting x t))

-- the parts of what its signal does

-- a promise is settled, where there is one
abbrev pub settled_where : Option PromiseId → Result Plain Plain → Table → Table
settled_where None o t = t
settled_where (Some w) o t = settle w o t

-- the promise of all is settled so, where it hasn't been: the pipe has it no longer
abbrev pub all_settled : Result Plain Plain → Slots → Table → Acts
all_settled o y t = leaving (record y { whole = None }) (settled_where y.whole o t) []

abbrev pub is_of_parts : PipeOperation → Bool
is_of_parts (PartSettled o) = true
is_of_parts NoParts = true
is_of_parts _ = false

-- each promise that there was is as it was
pub record NoneIsSettled (t z : Table) : Type 0 where
  pub there : length t.entries ≤ length z.entries
  pub same : (d : PromiseId) → d.0 < length t.entries → entry_at z d ≡ entry_at t d

-- the pipe begins the action of its signal
pub record BeginsBySignal (x y : Slots) : Type 0 where
  pub live : is_live x.phase ≡ true
  pub acts : y.phase ≡ Acting
  pub reason : Plain
  pub action : y.action ≡ Some (BySignal reason)

-- no promise is settled; and the parts and their promise stay, unless the action of the signal begins
pub record KeepsItsParts (x : Slots) (t : Table) (b : Acts) : Type 0 where
  pub promises : NoneIsSettled t b.out.promises
  pub parts : ((b.slots.parts ≡ x.parts) × (b.slots.whole ≡ x.whole)) ⊎ BeginsBySignal x b.slots

-- what an operation does to the parts that a pipe waits for, and to the promise of them all
pub record CountsItsParts (me : PipeId) (ends : Ends) (x : Slots) (t : Table) : Type 0 where
  pub fulfilled : (v : Plain) → (x.parts ≤ 1 → ⊥) → pipe_operation me ends (PartSettled (Ok v)) (starting x t) ≡ leaving (record x { parts = x.parts - 1 }) t []
  pub last : (v : Plain) → x.parts ≤ 1 → pipe_operation me ends (PartSettled (Ok v)) (starting x t) ≡ all_settled (Ok Undefined) (record x { parts = 0 }) t
  pub rejected : (e : Plain) → pipe_operation me ends (PartSettled (Err e)) (starting x t) ≡ all_settled (Err e) x t
  pub none : pipe_operation me ends NoParts (starting x t) ≡ all_settled (Ok Undefined) x t
  pub others : (operation : PipeOperation) → is_of_parts operation ≡ false → KeepsItsParts x t (pipe_operation me ends operation (starting x t))

abbrev pub EachPipeCountsItsParts : Type 0
EachPipeCountsItsParts = (p : PipeId) (ends : Ends) (x : Slots) (t : Table) → CountsItsParts p ends x t

abbrev pub EachWholeIsOpen : Type 0
EachWholeIsOpen =
    (entries : List Entry) (p : PipeId) (w : PromiseId) → let s : realm.Slots = run entries realm.empty in
    (realm.pipe_at p s).whole ≡ Some w → outcome_at s.promises w ≡ Some Pending
