-- How the check of a pipeline file may end.
use Rattle.std.specs.Prelude.{◌≡◌, ◌⊎◌, ℕ, List, Option, Some, None, Ok, Err}
use Rattle.ws_io.specs.Gain.{Got}
use Rattle.ws_io.specs.Faults.{Calm, Rose}
use Rattle.ws_io.specs.Files.{LoadsTold}
use Rattle.ws_io.specs.Memory.{one_more}
use Rattle.ws_io.specs.Moment.{Moment}
use Rattle.ws_io.specs.declared.files.LoadRefused.TheVariants.{TooLong}
use Rattle.ws_io.specs.declared.status.Status.{Status}
use Rattle.ws_io.specs.declared.status.Status.TheVariants.{Done, Stage, Usage, Plan, ReadFault, WriteFault, Aborted, NoMemory, Script, LoadFault, TooMuch}
use Rattle.ws_flow.specs.declared.plan.Plan.{Plan as PlanOf}
use Rattle.ws_flow.specs.declared.refusal.Refusal.{Refusal}
use Rattle.ws_flow.specs.declared.refusal.Refusal.TheVariants.{FileTooLong}
use Rattle.ws_flow.specs.Refusals.{refusal_number}
use Rattle.ws_plan.specs.Answers.{planned_as}
use Rattle.ws_plan.specs.PlanText.{check_text}
use Rattle.ws_plan.specs.Reading.{Planned, reading}
use Rattle.ws_script.specs.Printing.{Told, Performs}

-- what files tell at one moment: their texts, how often a load has failed, and how many loads were asked for
pub record Shelf : Type 0 where
  pub texts : Option (List ℕ → Option (List ℕ))
  pub faults : ℕ
  pub loads : ℕ

abbrev pub shelf : Option (List ℕ → Option (List ℕ)) → ℕ → ℕ → Shelf
shelf texts faults loads = record { texts = texts; faults = faults; loads = loads }

-- the files tell that this is the text of the name, or that it has none
abbrev pub OfName : Option (List ℕ → Option (List ℕ)) → List ℕ → Option (List ℕ) → Type 0
OfName None name text = ⊥
OfName (Some texts) name text = texts name ≡ text

-- the files tell this text of the name
abbrev pub HasText : Shelf → List ℕ → List ℕ → Type 0
HasText files name text = OfName files.texts name (Some text)

-- the files tell that the name has no text
abbrev pub LacksText : Shelf → List ℕ → Type 0
LacksText files name = OfName files.texts name None

-- what an output tells at a moment
abbrev pub heard_by : Moment → Told
heard_by m = record { faults = m.write_faults; finished = m.finished }

-- the text is that of an accepted plan, whose own text is printed
pub record PrintsPlan (status : Status) (text : List ℕ) (old new : Told) (got got' : Got) : Type 0 where
  pub plan : PlanOf
  pub accepted : reading text ≡ Ok (planned_as plan)
  pub prints : Performs status (check_text plan) old new got got'

-- the number is that of the first refusal of the text
pub record IsFirstRefusal (n : ℕ) (text : List ℕ) : Type 0 where
  pub cause : Refusal
  pub refused : reading text ≡ Err cause
  pub number : n ≡ refusal_number cause

-- how the check of a text may end
abbrev pub ChecksText : Status → List ℕ → Told → Told → Got → Got → Type 0
ChecksText Done text old new got got' = PrintsPlan Done text old new got got'
ChecksText WriteFault text old new got got' = PrintsPlan WriteFault text old new got got'
ChecksText (Plan n) text old new got got' = IsFirstRefusal n text
ChecksText NoMemory text old new got got' = Unit {0}
ChecksText (Stage index code place) text old new got got' = ⊥
ChecksText Usage text old new got got' = ⊥
ChecksText ReadFault text old new got got' = ⊥
ChecksText Aborted text old new got got' = ⊥
ChecksText (Script n) text old new got got' = ⊥
ChecksText LoadFault text old new got got' = ⊥
ChecksText TooMuch text old new got got' = ⊥

-- the file was loaded without a fault, and its text was checked
pub record ChecksFile (status : Status) (name : List ℕ) (files files' : Shelf) (old new : Told) (got got' : Got) : Type 0 where
  pub text : List ℕ
  pub loaded : LoadsTold files.texts name (Ok text)
  pub calm : files'.faults ≡ files.faults
  pub checks : ChecksText status text old new got got'

-- the file is too long, and refused for that
pub record IsTooLong (n : ℕ) (name : List ℕ) (files files' : Shelf) : Type 0 where
  pub number : n ≡ refusal_number FileTooLong
  pub long : LoadsTold files.texts name (Err TooLong)
  pub calm : files'.faults ≡ files.faults

-- how the check of the file of this name may end
abbrev pub CheckEnds : Status → List ℕ → Shelf → Shelf → Told → Told → Got → Got → Type 0
CheckEnds LoadFault name files files' old new got got' = Rose files.faults files'.faults
CheckEnds (Plan n) name files files' old new got got' =
    IsTooLong n name files files' ⊎ ChecksFile (Plan n) name files files' old new got got'
CheckEnds NoMemory name files files' old new got got' = files'.faults ≡ files.faults
CheckEnds status name files files' old new got got' = ChecksFile status name files files' old new got got'

-- what a check of the file of this name does, with the status that it ended with
pub record PerformsCheck {K : Type 0} (status : Status) (name : List ℕ) (output output' : K) (files files' : Shelf) (old new : Told)
    (got got' : Got) : Type 0 where
  -- the file is loaded once
  pub once : files'.loads ≡ one_more files.loads
  -- what it may end with
  pub ends : CheckEnds status name files files' old new got got'
  -- nothing is written but the text of an accepted plan
  pub unwritten : (status ≡ Done → ⊥) → (status ≡ WriteFault → ⊥) → output' ≡ output
  -- where nothing fails, the text of an accepted plan is printed whole, or memory can't be had
  pub complete : (text : List ℕ) (plan : Planned) → HasText files name text → reading text ≡ Ok plan
      → Calm files.faults files'.faults → Calm old.faults new.faults
      → (status ≡ Done) ⊎ (status ≡ NoMemory)
  -- where no load fails, a refused file ends with the number of its first refusal, or memory can't be had
  pub refused : (text : List ℕ) (cause : Refusal) → HasText files name text → reading text ≡ Err cause
      → Calm files.faults files'.faults → (status ≡ Plan (refusal_number cause)) ⊎ (status ≡ NoMemory)
  -- a name without a text is a failed load
  pub missing : LacksText files name → (status ≡ LoadFault) ⊎ (status ≡ NoMemory)
