-- An effect is performed at once, with what comes of it, and what doesn't go its usual way is caused.
use Rattle.std.specs.Prelude.{ℕ, ◌≡◌, Bool, true, false, List, [], ◌∷◌, ◌++◌, Option, Some, None}
use Rattle.ws_pipe.specs.declared.direct.PipeNext.{PipeNext}
use Rattle.ws_pipe.specs.declared.direct.PipeNext.TheVariants.{Nothing, Read as ReadNext, Wait as WaitNext}
use Rattle.ws_value.specs.declared.ids.PipeId.{PipeId}
use Rattle.ws_value.specs.declared.ids.PromiseId.{PromiseId}
use Rattle.ws_value.specs.declared.ids.StreamId.{StreamId}
use Rattle.ws_value.specs.declared.value.Value.{Value}
use Rattle.ws_steps.specs.declared.effects.Effect.{Effect}
use Rattle.ws_steps.specs.declared.effects.Effect.TheVariants.{PullAlgorithm, Readable, Writable}
use Rattle.ws_steps.specs.declared.pipes.Ends.{Ends}
use Rattle.ws_steps.specs.declared.promises.Step.TheVariants.{PipeReady}
use Rattle.ws_steps.specs.declared.readable.ReadRequest.TheVariants.{Pipe as PipeRequest}
use Rattle.ws_steps.specs.declared.readable.ReadableOperation.TheVariants.{Read}
use Rattle.ws_steps.specs.declared.readable.ReadableState.TheVariants.{Readable as IsReadable}
use Rattle.ws_steps.specs.declared.transform.Taker.{Taker}
use Rattle.ws_steps.specs.declared.transform.Taker.TheVariants.{ToTransform}
use Rattle.ws_steps.specs.declared.transform.TransformId.{TransformId}
use Rattle.ws_steps.specs.declared.writable.WritableOperation.TheVariants.{HandOn}
use Rattle.ws_steps.specs.declared.writable.WritableState.TheVariants.{Writable as IsWritable}
use Rattle.ws_steps.specs.Pipes.{reacts}
use Rattle.ws_steps.specs.Slots.{causes}
use Rattle.ws_steps.specs.Turns.{performed}
use Rattle.ws_steps.specs.Writable.{taken_by}
use Rattle.ws_tables.specs.View.{slots_of}
use Rattle.ws_tables.specs.Room.{AreEnough, HasRoomForAll, IsKept}
use Rattle.ws_tables.specs.declared.tables.Tables.{Tables}

-- The tables t, with the effects es to be performed, become the tables t' with es' to be performed: whatever waits behind them, all of it makes
-- the same of the slots. Where there are places for the first, there are for the second
pub record Reaches (es : List Effect) (t : Tables) (es' : List Effect) (t' : Tables) : Type 0 where
  pub slots : (rest : List Effect) → performed (causes (es' ++ rest) (slots_of t')) ≡ performed (causes (es ++ rest) (slots_of t))
  pub room : (rest : List Effect) → HasRoomForAll (es ++ rest) t → HasRoomForAll (es' ++ rest) t'
  pub turns : (n : ℕ) (rest : List Effect) → AreEnough n (es ++ rest) t → AreEnough n (es' ++ rest) t'
  pub others : t'.others ≡ t.others
  pub under_way : t'.under_way ≡ t.under_way
  pub kept : IsKept t'

-- nothing is caused yet, and there are places for these effects and all that comes of them
pub record IsReadyFor (es : List Effect) (t : Tables) : Type 0 where
  pub quiet : t.caused.effects ≡ []
  pub room : HasRoomForAll es t
  pub kept : IsKept t

-- these effects are performed, with all that comes of them, but for what is caused
abbrev pub PerformsDirectly : List Effect → Tables → Tables → Type 0
PerformsDirectly es t t' = Reaches es t t'.caused.effects t'

-- the same of effects that come behind those that are caused
pub record IsReadyAfter (es : List Effect) (t : Tables) : Type 0 where
  pub room : HasRoomForAll (t.caused.effects ++ es) t
  pub kept : IsKept t

abbrev pub PerformsAfter : List Effect → Tables → Tables → Type 0
PerformsAfter es t t' = Reaches (t.caused.effects ++ es) t t'.caused.effects t'

-- an effect is caused
abbrev pub leaving : Effect → Tables → Tables
leaving e t = record t { caused = record t.caused { effects = t.caused.effects ++ e ∷ [] } }

-- a chunk is handed on to a transform stream
abbrev pub hands_on : StreamId → TransformId → PromiseId → Effect
hands_on i t promise = Writable i (HandOn (ToTransform t promise))

-- what a chunk that is handed on causes, where there is one
abbrev pub handed : StreamId → Taker → Option Value → List Effect
handed i taker None = []
handed i taker (Some v) = taken_by i v taker ∷ []

-- the pull algorithm, where it is to be performed
abbrev pub pulls_told : Bool → StreamId → List Effect
pulls_told true i = PullAlgorithm i ∷ []
pulls_told false i = []

-- what a pipe does next, which comes alone, and else what it caused
abbrev pub looks_told : PipeId → List Effect → PipeNext → List Effect
looks_told p es Nothing = es
looks_told p es (ReadNext source) = Readable source (Read (PipeRequest p)) ∷ []
looks_told p es (WaitNext ready) = reacts ready (PipeReady p) ∷ []

-- the ends of a pipe are such that it goes on
pub record AreOpen (wants : Bool) (ready : Option PromiseId) (ends : Ends) : Type 0 where
  pub source : ends.source_state ≡ IsReadable
  pub dest : ends.dest_state ≡ IsWritable
  pub closing : ends.dest_closing ≡ false
  pub wanting : ends.dest_wants ≡ wants
  pub readied : ends.dest_ready ≡ ready
