-- What a run from an input to an output may end with.
use Rattle.std.specs.Prelude.{◌≡◌, ◌≢◌, ◌+◌, ◌-◌, ◌<◌, ◌≤◌, ◌^◌, ℕ, ℤ, nat_abs, List, [], length, Option, Some, None, MatchOption, ◌↔◌, true, false, Contains}
use Rattle.ws_value.specs.declared.fault.Fault.TheVariants.{Read, Write, TooMuch as TooMuchFault, Stage as StageFault, Abort as AbortFault}
use Rattle.ws_value.specs.declared.value.Outcome.TheVariants.{Pending, Fulfilled, Rejected}
use Rattle.ws_value.specs.declared.value.Plain.{Plain}
use Rattle.ws_value.specs.declared.value.Plain.TheVariants.{Fault as FaultReason}
use Rattle.ws_flow.specs.declared.plan.Ending.{Ending}
use Rattle.ws_flow.specs.declared.plan.Ending.TheVariants.{Fine, Bad}
use Rattle.ws_flow.specs.declared.plan.Plan.{Plan}
use Rattle.ws_flow.specs.Machines.{ending}
use Rattle.ws_flow.specs.Plans.{as_one, reach, stages_of}
use Rattle.ws_flow.specs.Stages.{is_of_end, machines}
use Rattle.ws_flow.specs.Told.{bytes_of, Mark, Open, Closed, Broken, Told, told, IsBefore}
use Rattle.ws_io.specs.Faults.{IsLater, Rose}
use Rattle.ws_io.specs.Feed.{Fed, IsEnded, IsEmpty}
use Rattle.ws_io.specs.Gain.{Gains, Becomes, KeepsTold, Got, IsEmptied}
use Rattle.ws_io.specs.Moment.{Moment, NoFault}
use Rattle.ws_io.specs.declared.status.Status.{Status}
use Rattle.ws_io.specs.declared.status.Status.TheVariants.{Done, Stage, Usage, Plan as PlanIs, ReadFault, WriteFault, Aborted, NoMemory, Script, LoadFault, TooMuch}
use Rattle.ws_realm.specs.declared.realm.Why.TheVariants as why
use Rattle.ws_node.specs.declared.node.Input.TheVariants as input
use Rattle.ws_node.specs.declared.node.Node.{Node}
use Rattle.ws_node.specs.declared.node.Output.{Output}
use Rattle.ws_node.specs.declared.node.Output.TheVariants as output
use Rattle.ws_joined_laws.specs.Reasons.{reasons_in}
use Rattle.ws_node.specs.Messages.{fairly}
use Rattle.ws_node.specs.Node.{feeds_edge, is_edge, outcome_of_pipe, has_settled, is_reached, received_at}
use Rattle.ws_node.specs.Past.{Driven, HasCounts, IsCause, IsOwnStage}

-- how much of the input was read: all, to its end and without a fault; or some of it. An input is lost where it fails, and never breaks off
pub record IsReadToEnd (old new : Moment) : Type 0 where
  pub ended : IsEnded new.feed
  pub emptied : IsEmpty new.feed
  pub calm : new.read_faults ≡ old.read_faults

abbrev pub ReadAs : Mark → Moment → Moment → Type 0
ReadAs Closed old new = IsReadToEnd old new
ReadAs Broken old new = ⊥
ReadAs m old new = Unit {0}

-- what comes out of a plan's stages for these bytes, of which the mark tells whether they are all
abbrev pub out_of : Plan → List ℕ → Mark → Told ℕ
out_of plan taken m = bytes_of (reach (stages_of plan) taken m)

-- how the stage of this number, from 0, ends over them
abbrev pub ending_of : Plan → ℕ → List ℕ → Mark → Ending
ending_of plan j taken m = ending (machines (stages_of plan)) j (as_one taken m)

-- the run is complete: a read answered 0, nothing is left, neither count rose, no more was taken than the run may take, each stage ended fine, the
-- output gained exactly what comes out of them, and it is finished
pub record IsDone (plan : Plan) (old new : Moment) (taken gain : List ℕ) : Type 0 where
  pub ended : IsEnded new.feed
  pub emptied : IsEmpty new.feed
  pub no_fault : NoFault old new
  pub within : length taken ≤ nat_abs plan.max_input
  pub fine : (j : ℕ) → ending_of plan j taken Closed ≡ Fine
  pub whole : out_of plan taken Closed ≡ told gain Closed
  pub finished : Becomes old.finished new.finished

-- the stage of this number, from 1, ended badly over what was read: in its bytes as they come, or behind its end, and then the input was read to its end.
-- Where the stage found it at the end of its own input, each stage before it ended fine
pub record IsBad (plan : Plan) (index code place : ℕ) (m : Mark) (taken : List ℕ) : Type 0 where
  pub numbered : 1 ≤ index
  pub bad : ending_of plan (index - 1) taken m ≡ Bad code place
  pub early : ending_of plan (index - 1) taken Open ≢ Bad code place → m ≡ Closed
  pub at_end : is_of_end code ≡ true → (m ≡ Closed) × ((j : ℕ) → j + 1 < index → ending_of plan j taken Closed ≡ Fine)

-- the output has at least as many bytes as the plan's abort names
abbrev pub IsAborted : Option ℤ → List ℕ → Type 0
IsAborted None gain = ⊥
IsAborted (Some after) gain = nat_abs after ≤ length gain

-- and always fewer than 2^25 more
abbrev pub IsWithinAbort : Option ℤ → List ℕ → Type 0
IsWithinAbort None gain = Unit {0}
IsWithinAbort (Some after) gain = length gain < nat_abs after + 2 ^ 25

-- where a run may end with a status; after a failed read all that was taken was written, where there are no stages
abbrev pub Allows : Status → Plan → Mark → Moment → Moment → List ℕ → List ℕ → Type 0
Allows Done plan m old new taken gain = IsDone plan old new taken gain
Allows (Stage index code place) plan m old new taken gain = IsBad plan index code place m taken
Allows Usage plan m old new taken gain = ⊥
Allows (PlanIs n) plan m old new taken gain = ⊥
Allows ReadFault plan m old new taken gain = (stages_of plan ≡ [] → gain ≡ taken) × Rose old.read_faults new.read_faults
Allows WriteFault plan m old new taken gain = Rose old.write_faults new.write_faults
Allows Aborted plan m old new taken gain = IsAborted plan.abort_after gain
Allows NoMemory plan m old new taken gain = Unit {0}
Allows (Script n) plan m old new taken gain = ⊥
Allows LoadFault plan m old new taken gain = ⊥
Allows TooMuch plan m old new taken gain = nat_abs plan.max_input < length taken

-- with any other status than that of a complete run, the output's end is as before
abbrev pub Leaves : Status → Moment → Moment → Type 0
Leaves Done old new = Unit {0}
Leaves (Stage index code place) old new = KeepsTold old.finished new.finished
Leaves Usage old new = KeepsTold old.finished new.finished
Leaves (PlanIs n) old new = KeepsTold old.finished new.finished
Leaves ReadFault old new = KeepsTold old.finished new.finished
Leaves WriteFault old new = KeepsTold old.finished new.finished
Leaves Aborted old new = KeepsTold old.finished new.finished
Leaves NoMemory old new = KeepsTold old.finished new.finished
Leaves (Script n) old new = KeepsTold old.finished new.finished
Leaves LoadFault old new = KeepsTold old.finished new.finished
Leaves TooMuch old new = KeepsTold old.finished new.finished

-- How a run of a plan that took `taken` ends: what the output gained is a first part of what comes out of the stages for it, at most one byte more than
-- the plan's most was taken, and without stages at most 4,096 bytes of it weren't written.
pub record Ends (status : Status) (plan : Plan) (old new : Moment) (got got' : Got) : Type 0 where
  pub taken : List ℕ
  pub gain : List ℕ
  pub mark : Mark
  pub fed : Fed old.feed new.feed taken
  pub read : ReadAs mark old new
  pub gained : Gains got got' gain
  pub first : IsBefore (told gain Open) (out_of plan taken mark)
  pub bound : length taken ≤ nat_abs plan.max_input + 1
  pub ahead_by : stages_of plan ≡ [] → length taken ≤ length gain + 4096
  pub abort : IsWithinAbort plan.abort_after gain
  pub allowed : Allows status plan mark old new taken gain
  pub finish_kept : Leaves status old new
  pub later : IsLater old.write_faults new.write_faults
  -- a complete run leaves nothing held back
  pub emptied : status ≡ Done → IsEmptied got'

-- the reasons with which the pipe of a node may be rejected, but for want of memory, and the status of each

abbrev pub IsNamed : Plain → Type 0
IsNamed (FaultReason Read) = Unit {0}
IsNamed (FaultReason Write) = Unit {0}
IsNamed (FaultReason TooMuchFault) = Unit {0}
IsNamed (FaultReason (StageFault index code place)) = Unit {0}
IsNamed (FaultReason AbortFault) = Unit {0}
IsNamed _ = ⊥

abbrev pub status_of : Plain → Status
status_of (FaultReason Read) = ReadFault
status_of (FaultReason Write) = WriteFault
status_of (FaultReason TooMuchFault) = TooMuch
status_of (FaultReason (StageFault index code place)) = Stage index code place
status_of (FaultReason AbortFault) = Aborted
status_of _ = NoMemory

-- a node that reads the input and writes the output has no other
abbrev pub EachWholeNamesItsReason : Type 0
EachWholeNamesItsReason =
    (n : Node) (r : Plain) → Driven n → is_edge n.entrance.input ≡ false → feeds_edge n.exit.output ≡ false → outcome_of_pipe n.core ≡ Some (Rejected r) → IsNamed r

abbrev pub unless_finished : Output → Status → Status
unless_finished output.Open status = status
unless_finished output.Finished status = Done
unless_finished output.Failed status = status
unless_finished output.Aborted status = status
unless_finished output.Edge status = status

-- where a node ends with a status by a cause of its own
abbrev pub EndsBy : Status → Node → Type 0
EndsBy Done n = n.exit.output ≡ output.Finished
EndsBy ReadFault n = (n.exit.output ≢ output.Finished) × (n.entrance.input ≡ input.Failed)
EndsBy WriteFault n = n.exit.output ≡ output.Failed
EndsBy NoMemory n = n.exit.output ≢ output.Finished
EndsBy TooMuch n = (n.exit.output ≢ output.Finished) × (n.entrance.input ≡ input.TooLong)
EndsBy (Stage index code place) n = (n.exit.output ≢ output.Finished) × IsOwnStage n index code place
EndsBy Aborted n = (n.exit.output ≢ output.Finished) × (is_reached n.exit.abort ≡ true)
EndsBy _ n = ⊥

-- or by the reason of an error that came over the edge above
pub data EndedBy (status : Status) (n : Node) : Type 0 where
  Own : EndsBy status n → EndedBy status n
  Passed : (r : Plain) → Contains (reasons_in (fairly (received_at n.entrance.above))) r → n.exit.output ≢ output.Finished → status ≡ status_of r → EndedBy status n

-- The end of a node: none while its pipe is pending and memory wasn't wanting; else by how the pipe settled, and 0 wherever the output
-- was finished. Each status has its cause
pub record EndsAs (status : Option Status) (n : Node) : Type 0 where
  pub none : status ≡ None ↔ (has_settled (outcome_of_pipe n.core) ≡ false) × (n.core.stopped ≢ Some why.NoMemory)
  pub fulfilled : (v : Plain) → outcome_of_pipe n.core ≡ Some (Fulfilled v) → status ≡ Some Done
  pub rejected : (r : Plain) → outcome_of_pipe n.core ≡ Some (Rejected r) → IsCause n r × (status ≡ Some (unless_finished n.exit.output (status_of r)))
  pub wanting : outcome_of_pipe n.core ≡ Some Pending → n.core.stopped ≡ Some why.NoMemory → status ≡ Some (unless_finished n.exit.output NoMemory)
  pub by : MatchOption status (Unit {0}) (λ s. EndedBy s n)
  pub counts : HasCounts n.entrance
