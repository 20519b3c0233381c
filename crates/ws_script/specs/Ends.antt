-- How a script may end.
use Rattle.std.specs.Prelude.{◌≡◌, ◌<◌, ◌≤◌, ◌⊎◌, ℕ, List, [], ◌++◌, length, Ok, Err}
use Rattle.ws_io.specs.Faults.{Rose}
use Rattle.ws_io.specs.Feed.{Fed, IsEnded, IsEmpty}
use Rattle.ws_io.specs.Gain.{Gains, Becomes, KeepsTold, Got}
use Rattle.ws_io.specs.Moment.{Moment, NoFault}
use Rattle.ws_io.specs.declared.status.Status.{Status}
use Rattle.ws_io.specs.declared.status.Status.TheVariants.{Done, Stage, Usage, Plan, ReadFault, WriteFault, Aborted, NoMemory, Script, LoadFault, TooMuch}
use Rattle.ws_grammar.specs.declared.line.Line.{Line}
use Rattle.ws_grammar.specs.Lines.{lines, most_bytes}
use Rattle.ws_script.specs.Printed.{script_text}
use Rattle.ws_script.specs.Reading.{most_of_a_text}

-- the input was read to its end without a fault, and isn't too long
pub record ReadWhole (old new : Moment) (taken : List ℕ) : Type 0 where
  pub ended : IsEnded new.feed
  pub emptied : IsEmpty new.feed
  pub calm : new.read_faults ≡ old.read_faults
  pub short : length taken ≤ most_bytes

-- the input is in the grammar, exactly the text of its tasks was written, no count rose, and the output is finished
pub record WritesAll (old new : Moment) (taken gain : List ℕ) : Type 0 where
  pub read : ReadWhole old new taken
  pub found : List Line
  pub accepted : lines taken ≡ Ok found
  pub whole : script_text found ≡ gain
  pub no_fault : NoFault old new
  pub finished : Becomes old.finished new.finished

-- the input is in the grammar, and a first part of the text of its tasks was written
pub record WritesFirst (old new : Moment) (taken gain : List ℕ) : Type 0 where
  pub read : ReadWhole old new taken
  pub found : List Line
  pub accepted : lines taken ≡ Ok found
  pub rest : List ℕ
  pub first : script_text found ≡ gain ++ rest

-- nothing was written
pub record WritesNothing (old new : Moment) (gain : List ℕ) : Type 0 where
  pub nothing : gain ≡ []
  pub calm : new.write_faults ≡ old.write_faults

-- the script was refused at line n: the first outside the grammar
pub record IsBadLine (n : ℕ) (old new : Moment) (taken : List ℕ) : Type 0 where
  pub read : ReadWhole old new taken
  pub refused : lines taken ≡ Err n

-- the script was refused as too long, at line 0: more bytes than a script may have were read, without a fault
pub record IsTooLong (n : ℕ) (old new : Moment) (taken : List ℕ) : Type 0 where
  pub at_none : n ≡ 0
  pub long : most_bytes < length taken
  pub calm : new.read_faults ≡ old.read_faults

-- where a script may end with a status
abbrev pub AllowsScript : Status → Moment → Moment → List ℕ → List ℕ → Type 0
AllowsScript Done old new taken gain = WritesAll old new taken gain
AllowsScript (Stage index code place) old new taken gain = ⊥
AllowsScript Usage old new taken gain = ⊥
AllowsScript (Plan n) old new taken gain = ⊥
AllowsScript ReadFault old new taken gain = Rose old.read_faults new.read_faults × WritesNothing old new gain
AllowsScript WriteFault old new taken gain = Rose old.write_faults new.write_faults × WritesFirst old new taken gain
AllowsScript Aborted old new taken gain = ⊥
AllowsScript NoMemory old new taken gain = WritesNothing old new gain ⊎ WritesFirst old new taken gain
AllowsScript (Script n) old new taken gain = (IsBadLine n old new taken ⊎ IsTooLong n old new taken) × WritesNothing old new gain
AllowsScript LoadFault old new taken gain = ⊥
AllowsScript TooMuch old new taken gain = ⊥

-- with any other status than that of a complete script the output's end is as before
abbrev pub LeavesEnd : Status → Moment → Moment → Type 0
LeavesEnd Done old new = Unit {0}
LeavesEnd (Stage index code place) old new = KeepsTold old.finished new.finished
LeavesEnd Usage old new = KeepsTold old.finished new.finished
LeavesEnd (Plan n) old new = KeepsTold old.finished new.finished
LeavesEnd ReadFault old new = KeepsTold old.finished new.finished
LeavesEnd WriteFault old new = KeepsTold old.finished new.finished
LeavesEnd Aborted old new = KeepsTold old.finished new.finished
LeavesEnd NoMemory old new = KeepsTold old.finished new.finished
LeavesEnd (Script n) old new = KeepsTold old.finished new.finished
LeavesEnd LoadFault old new = KeepsTold old.finished new.finished
LeavesEnd TooMuch old new = KeepsTold old.finished new.finished

-- How a script that took `taken` of its input ends: what the output gained, of which the status says what it is, and at most
-- one byte more than a script may have was taken.
pub record ScriptEnds (status : Status) (old new : Moment) (got got' : Got) : Type 0 where
  pub taken : List ℕ
  pub gain : List ℕ
  pub fed : Fed old.feed new.feed taken
  pub gained : Gains got got' gain
  pub bound : length taken ≤ most_of_a_text
  pub allowed : AllowsScript status old new taken gain
  pub finish_kept : LeavesEnd status old new
