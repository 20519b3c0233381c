-- What a run without stages may end with: it copies its input.
use Rattle.std.specs.Prelude.{◌≡◌, ◌+◌, ◌<◌, ◌≤◌, ℕ, List, ◌++◌, length}
use Rattle.ws_io.specs.Faults.{Rose}
use Rattle.ws_io.specs.Feed.{Fed, IsEnded, IsEmpty}
use Rattle.ws_io.specs.Gain.{Gains, Becomes, Got}
use Rattle.ws_io.specs.Moment.{Moment, NoFault}
use Rattle.ws_io.specs.declared.status.Status.{Status}
use Rattle.ws_io.specs.declared.status.Status.TheVariants.{Done, Stage, Usage, Plan, ReadFault, WriteFault, Aborted, NoMemory, Script, LoadFault, TooMuch}
use Rattle.ws_node.specs.Ends.{Leaves}

-- the run is complete: a read answered 0, nothing is left, neither count rose, at most `most` bytes were taken, the output
-- gained exactly these, and it is finished
pub record IsCopied (most : ℕ) (old new : Moment) (taken gain : List ℕ) : Type 0 where
  pub ended : IsEnded new.feed
  pub emptied : IsEmpty new.feed
  pub no_fault : NoFault old new
  pub within : length taken ≤ most
  pub whole : gain ≡ taken
  pub finished : Becomes old.finished new.finished

-- where a run may end with a status; after a failed read all that was taken was written
abbrev pub AllowsCopy : Status → ℕ → Moment → Moment → List ℕ → List ℕ → Type 0
AllowsCopy Done most old new taken gain = IsCopied most old new taken gain
AllowsCopy (Stage index code place) most old new taken gain = ⊥
AllowsCopy Usage most old new taken gain = ⊥
AllowsCopy (Plan n) most old new taken gain = ⊥
AllowsCopy ReadFault most old new taken gain = (gain ≡ taken) × Rose old.read_faults new.read_faults
AllowsCopy WriteFault most old new taken gain = Rose old.write_faults new.write_faults
AllowsCopy Aborted most old new taken gain = ⊥
AllowsCopy NoMemory most old new taken gain = Unit {0}
AllowsCopy (Script n) most old new taken gain = ⊥
AllowsCopy LoadFault most old new taken gain = ⊥
AllowsCopy TooMuch most old new taken gain = most < length taken

-- How a run without stages that took `taken` ends: what the output gained is a first part of it, at most `ahead` bytes of it weren't
-- written, and at most one byte more than `most` was taken.
pub record Copies (status : Status) (most ahead : ℕ) (old new : Moment) (got got' : Got) : Type 0 where
  pub taken : List ℕ
  pub gain : List ℕ
  pub rest : List ℕ
  pub fed : Fed old.feed new.feed taken
  pub gained : Gains got got' gain
  pub first : taken ≡ gain ++ rest
  pub bound : length taken ≤ most + 1
  pub ahead_by : length rest ≤ ahead
  pub allowed : AllowsCopy status most old new taken gain
  pub finish_kept : Leaves status old new
