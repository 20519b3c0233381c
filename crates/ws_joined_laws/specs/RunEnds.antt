-- What a run of nodes may end with: what its input and its output tell at two moments, before it and behind it, and its status.
use Rattle.std.specs.Prelude.{◌≡◌, ◌≢◌, ◌+◌, ◌<◌, ◌≤◌, ℕ, ℤ, true, List, [], All, Contains, length, Option}
use Rattle.ws_value.specs.declared.fault.Fault.TheVariants.{Read, Write, TooMuch as TooMuchFault, Stage as StageFault, Abort as AbortFault}
use Rattle.ws_value.specs.declared.value.Plain.{Plain}
use Rattle.ws_value.specs.declared.value.Plain.TheVariants.{Fault as FaultReason}
use Rattle.ws_flow.specs.declared.plan.Ending.TheVariants.{Fine}
use Rattle.ws_flow.specs.declared.plan.Stage.{Stage as PlanStage}
use Rattle.ws_flow.specs.Chains.{all_stages}
use Rattle.ws_flow.specs.Told.{Mark, Open, Closed, Broken, Told, told, IsBefore}
use Rattle.ws_io.specs.Faults.{Rose}
use Rattle.ws_io.specs.Feed.{Fed, IsEnded, IsEmpty}
use Rattle.ws_io.specs.Gain.{Becomes, KeepsTold}
use Rattle.ws_io.specs.Moment.{Moment, NoFault}
use Rattle.ws_io.specs.declared.status.Status.{Status}
use Rattle.ws_io.specs.declared.status.Status.TheVariants.{Done, Stage, Usage, Plan as PlanIs, ReadFault, WriteFault, Aborted, NoMemory, Script, LoadFault, TooMuch}
use Rattle.ws_joined_laws.specs.Ends.{out_of, ending_of, IsBad, IsAborted, IsWithinAbort}
use Rattle.ws_joined_laws.specs.Finished.{NodesTell}
use Rattle.ws_joined_laws.specs.Joined.{Node, members}

-- What a run ends with

-- how much of the input was read: all, to its end and without a fault; or some of it. An input is lost where it fails, and never breaks off
pub record IsReadToEnd (old new : Moment) : Type 0 where
  pub ended : IsEnded new.feed
  pub emptied : IsEmpty new.feed
  pub calm : new.read_faults ≡ old.read_faults

abbrev pub ReadAs : Mark → Moment → Moment → Type 0
ReadAs Closed old new = IsReadToEnd old new
ReadAs Broken old new = ⊥
ReadAs m old new = Unit {0}

-- a pipeline, wherever its stages are performed: these, the most bytes of input that it takes, and after how many bytes of output it is aborted
pub record Pipeline : Type 0 where
  pub stages : List PlanStage
  pub most : ℕ
  pub abort_after : Option ℤ

-- the run is complete: a read answered 0, nothing is left, neither count rose, no more was taken than the run may take, each stage ended fine, the
-- output gained exactly what comes out of them, and it is finished
pub record IsDone (pipeline : Pipeline) (old new : Moment) (taken gain : List ℕ) : Type 0 where
  pub ended : IsEnded new.feed
  pub emptied : IsEmpty new.feed
  pub no_fault : NoFault old new
  pub within : length taken ≤ pipeline.most
  pub fine : (j : ℕ) → ending_of pipeline.stages j taken Closed ≡ Fine
  pub whole : out_of pipeline.stages taken Closed ≡ told gain Closed
  pub finished : Becomes old.finished new.finished

-- where a run may end with a status; after a failed read all that was taken was written, where there are no stages
abbrev pub Allows : Status → Pipeline → Mark → Moment → Moment → List ℕ → List ℕ → Type 0
Allows Done pipeline m old new taken gain = IsDone pipeline old new taken gain
Allows (Stage index code place) pipeline m old new taken gain = IsBad pipeline.stages index code place m taken
Allows Usage pipeline m old new taken gain = ⊥
Allows (PlanIs n) pipeline m old new taken gain = ⊥
Allows ReadFault pipeline m old new taken gain = (pipeline.stages ≡ [] → gain ≡ taken) × Rose old.read_faults new.read_faults
Allows WriteFault pipeline m old new taken gain = Rose old.write_faults new.write_faults
Allows Aborted pipeline m old new taken gain = IsAborted pipeline.abort_after gain
Allows NoMemory pipeline m old new taken gain = Unit {0}
Allows (Script n) pipeline m old new taken gain = ⊥
Allows LoadFault pipeline m old new taken gain = ⊥
Allows TooMuch pipeline m old new taken gain = pipeline.most < length taken

-- with any other status than that of a complete run, the output's end is as before
abbrev pub Leaves : Status → Moment → Moment → Type 0
Leaves Done old new = Unit {0}
Leaves _ old new = KeepsTold old.finished new.finished

-- How a run that took `taken` ends: what the output gained is a first part of what comes out of the stages for it, at most one byte more than the run may
-- take was taken, and without stages at most 4,096 bytes of it weren't written
pub record EndsSo (status : Status) (pipeline : Pipeline) (old new : Moment) (taken gain : List ℕ) (mark : Mark) : Type 0 where
  pub fed : Fed old.feed new.feed taken
  pub read : ReadAs mark old new
  pub first : IsBefore (told gain Open) (out_of pipeline.stages taken mark)
  pub bound : length taken ≤ pipeline.most + 1
  pub ahead_by : pipeline.stages ≡ [] → length taken ≤ length gain + 4096
  pub abort : IsWithinAbort pipeline.abort_after gain
  pub allowed : Allows status pipeline mark old new taken gain
  pub finish_kept : Leaves status old new

-- What its nodes tell of it

-- the node with the input, of the bytes that were taken and how they end
pub record HeadTells (most : ℕ) (old new : Moment) (taken : Told ℕ) : Type 0 where
  pub fed : Fed old.feed new.feed taken.items
  pub read : ReadAs taken.mark old new
  pub bound : length taken.items ≤ most + 1
  pub within : taken.mark ≡ Closed → length taken.items ≤ most

-- the node with the output, of the bytes that this got: they are closed where it was finished
pub record TailTells (old new : Moment) (gain : Told ℕ) : Type 0 where
  pub finished : gain.mark ≡ Closed → (new.write_faults ≡ old.write_faults) × Becomes old.finished new.finished
  pub unfinished : gain.mark ≢ Closed → KeepsTold old.finished new.finished

-- what a node finds is so; without stages all that was taken before a failed read was written
pub record FindsSo (pipeline : Pipeline) (old new : Moment) (taken gain : List ℕ) (n : Node) : Type 0 where
  pub read : n.finds.read_failed ≡ true → (pipeline.stages ≡ [] → gain ≡ taken) × Rose old.read_faults new.read_faults
  pub many : n.finds.too_much ≡ true → pipeline.most < length taken
  pub write : n.finds.write_failed ≡ true → Rose old.write_faults new.write_faults
  pub abort : n.finds.abort_reached ≡ true → IsAborted pipeline.abort_after gain

-- the nodes of a run, with what they tell of the input and the output. Of a run with workers `ahead_by` asks nothing, since each worker has a stage
pub record RunTells (pipeline : Pipeline) (old new : Moment) (taken : Told ℕ) (ns : List Node) (gain : Told ℕ) (last : List Plain) : Type 0 where
  pub stages : all_stages (members ns) ≡ pipeline.stages
  pub nodes : NodesTell pipeline.abort_after taken ns gain last
  pub head : HeadTells pipeline.most old new taken
  pub tail : TailTells old new gain
  pub ahead_by : pipeline.stages ≡ [] → length taken.items ≤ length gain.items + 4096
  pub found : All (FindsSo pipeline old new taken.items gain.items) ns

-- the status of a run for a reason with which the pipe into its sink was rejected
abbrev pub status_of : Plain → Status
status_of (FaultReason Read) = ReadFault
status_of (FaultReason Write) = WriteFault
status_of (FaultReason TooMuchFault) = TooMuch
status_of (FaultReason (StageFault index code place)) = Stage index code place
status_of (FaultReason AbortFault) = Aborted
status_of _ = NoMemory

-- with which status such a run ends: as complete where its output was finished, whatever came then; else for one of those reasons, or for want of memory
pub data IsStatus (finish : Mark) (last : List Plain) (status : Status) : Type 0 where
  Complete : finish ≡ Closed → status ≡ Done → IsStatus finish last status
  Rejected : (r : Plain) → finish ≢ Closed → Contains last r → status ≡ status_of r → IsStatus finish last status
  Wanting : finish ≢ Closed → status ≡ NoMemory → IsStatus finish last status

abbrev pub EachRunTellsItsEnd : Type 0
EachRunTellsItsEnd =
    (status : Status) (pipeline : Pipeline) (old new : Moment) (taken : Told ℕ) (ns : List Node) (gain : Told ℕ) (last : List Plain)
    → RunTells pipeline old new taken ns gain last → IsStatus gain.mark last status → EndsSo status pipeline old new taken.items gain.items taken.mark
