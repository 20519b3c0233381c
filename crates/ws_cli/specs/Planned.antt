-- What is done with the plan of a pipeline file, and how its run may end.
use Rattle.std.specs.Prelude.{◌≡◌, ◌⊎◌, ◌<◌, ◌≤◌, ℕ, ℤ, nat_abs, Bool, List, [], length, Option, Some, None, Result, Ok, Err}
use Rattle.ws_io.specs.Gain.{Got}
use Rattle.ws_io.specs.Faults.{Calm, Rose}
use Rattle.ws_io.specs.Feed.{HasLeft}
use Rattle.ws_io.specs.Files.{LoadsTold}
use Rattle.ws_io.specs.Memory.{one_more}
use Rattle.ws_io.specs.Moment.{Moment}
use Rattle.ws_io.specs.declared.status.Status.{Status}
use Rattle.ws_io.specs.declared.status.Status.TheVariants.{Done, Plan as PlanIs, Aborted, NoMemory, LoadFault}
use Rattle.ws_flow.specs.declared.plan.Ending.TheVariants.{Fine}
use Rattle.ws_flow.specs.declared.plan.Plan.{Plan}
use Rattle.ws_flow.specs.declared.refusal.Refusal.{Refusal}
use Rattle.ws_flow.specs.Refusals.{refusal_number}
use Rattle.ws_flow.specs.Told.{Closed}
use Rattle.ws_plan.specs.Answers.{planned_as}
use Rattle.ws_plan.specs.Reading.{reading}
use Rattle.ws_node.specs.Ends.{Ends, ending_of, out_of}
use Rattle.ws_runner.specs.declared.trace.EdgeTrace.{EdgeTrace}
use Rattle.ws_runner.specs.Trace.{HasEdges}
use Rattle.ws_cli.specs.Check.{Shelf, HasText, LacksText, IsFirstRefusal, IsTooLong}

-- a text is that of a plan, or refused by the number of its first refusal; memory may be wanting
abbrev pub ReadsText : Result Plan Status → List ℕ → Type 0
ReadsText (Ok plan) text = reading text ≡ Ok (planned_as plan)
ReadsText (Err (PlanIs n)) text = IsFirstRefusal n text
ReadsText (Err NoMemory) text = Unit {0}
ReadsText (Err status) text = ⊥

-- the file was loaded without a fault, and its text was read so
pub record ReadsFile (result : Result Plan Status) (name : List ℕ) (files files' : Shelf) : Type 0 where
  pub text : List ℕ
  pub loaded : LoadsTold files.texts name (Ok text)
  pub calm : files'.faults ≡ files.faults
  pub read : ReadsText result text

-- what a load of a plan answers: the plan of the file's text, or the status with which a command ends that has none
abbrev pub Loads : Result Plan Status → List ℕ → Shelf → Shelf → Type 0
Loads (Err LoadFault) name files files' = Rose files.faults files'.faults
Loads (Err (PlanIs n)) name files files' = IsTooLong n name files files' ⊎ ReadsFile (Err (PlanIs n)) name files files'
Loads (Err NoMemory) name files files' = files'.faults ≡ files.faults
Loads result name files files' = ReadsFile result name files files'

-- a run of the plan of a file, with the edges that it tells where it is traced; or none, and no edges
pub data RunEnds {S K : Type 0} (status : Status) (edges : List EdgeTrace) (trace : Bool) (name : List ℕ) (input input' : S) (output output' : K)
    (files files' : Shelf) (old new : Moment) (got got' : Got) : Type 0 where
  Ran : (plan : Plan) → Loads (Ok plan) name files files' → (ends : Ends status plan old new got got')
      → HasEdges edges plan trace status ends.taken ends.gain
      → RunEnds status edges trace name input input' output output' files files' old new got got'
  HadNone : Loads (Err status) name files files' → edges ≡ [] → input' ≡ input → output' ≡ output
      → RunEnds status edges trace name input input' output output' files files' old new got got'

-- an input that a plan takes whole: it isn't too long, and each stage ends fine over it
pub record IsFineFor (plan : Plan) (input : List ℕ) : Type 0 where
  pub within : length input ≤ nat_abs plan.max_input
  pub fine : (j : ℕ) → ending_of plan j input Closed ≡ Fine

-- what comes out of it has fewer bytes than the plan's abort names
abbrev pub IsUnaborted : Option ℤ → ℕ → Type 0
IsUnaborted None n = Unit {0}
IsUnaborted (Some after) n = n < nat_abs after

-- what a run of the file of this name does, with the status that it ended with and the edges that it tells
pub record PerformsRun {S K : Type 0} (status : Status) (edges : List EdgeTrace) (trace : Bool) (name : List ℕ) (input input' : S) (output output' : K)
    (files files' : Shelf) (old new : Moment) (got got' : Got) : Type 0 where
  -- the file is loaded once
  pub once : files'.loads ≡ one_more files.loads
  -- what it may end with
  pub ends : RunEnds status edges trace name input input' output output' files files' old new got got'
  -- where nothing fails, a plan runs to the end of an input that it takes whole, or is aborted where it says so, or memory can't be had
  pub complete : (text : List ℕ) (plan : Plan) (bytes : List ℕ) → HasText files name text → reading text ≡ Ok (planned_as plan)
      → HasLeft old.feed bytes → IsFineFor plan bytes
      → Calm files.faults files'.faults → Calm old.read_faults new.read_faults → Calm old.write_faults new.write_faults
      → (status ≡ Done) ⊎ (status ≡ Aborted) ⊎ (status ≡ NoMemory)
  pub unaborted : (text : List ℕ) (plan : Plan) (bytes : List ℕ) → HasText files name text → reading text ≡ Ok (planned_as plan)
      → HasLeft old.feed bytes → IsFineFor plan bytes → IsUnaborted plan.abort_after (length (out_of plan bytes Closed).items)
      → Calm files.faults files'.faults → Calm old.read_faults new.read_faults → Calm old.write_faults new.write_faults
      → (status ≡ Done) ⊎ (status ≡ NoMemory)
  -- where no load fails, a refused file ends with the number of its first refusal, or memory can't be had
  pub refused : (text : List ℕ) (cause : Refusal) → HasText files name text → reading text ≡ Err cause
      → Calm files.faults files'.faults → (status ≡ PlanIs (refusal_number cause)) ⊎ (status ≡ NoMemory)
  -- a name without a text is a failed load
  pub missing : LacksText files name → (status ≡ LoadFault) ⊎ (status ≡ NoMemory)
