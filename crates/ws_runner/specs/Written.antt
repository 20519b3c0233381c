-- How a run ends once what its output holds back was to be written.
use Rattle.std.specs.Prelude.{◌≡◌, ◌≢◌, []}
use Rattle.ws_io.specs.Faults.{Rose}
use Rattle.ws_io.specs.Gain.{Gains, Got, IsEmptied, KeepsTold}
use Rattle.ws_io.specs.declared.status.Status.{Status}
use Rattle.ws_io.specs.declared.status.Status.TheVariants.{Done, WriteFault, NoMemory}
use Rattle.ws_node.specs.Moves.{Shown}
use Rattle.ws_runner.specs.declared.trace.Finished.{Finished}

-- its status where that failed: a write fault, but for want of memory
abbrev pub unwritten : Status → Status
unwritten NoMemory = NoMemory
unwritten _ = WriteFault

-- the output was finished, and is left alone; or all of it was written; or less, and then the run ends with another status
pub data IsWritten (f g : Finished) (old new : Shown) (got got' : Got) : Type 0 where
  WasFinished : f.status ≡ Done → g ≡ f → new ≡ old → Gains got got' [] → IsWritten f g old new got got'
  WroteAll : f.status ≢ Done → g ≡ f → Gains got got' [] → IsEmptied got' → new.faults ≡ old.faults → KeepsTold old.finished new.finished → IsWritten f g old new got got'
  WroteLess : f.status ≢ Done → g ≡ record f { status = unwritten f.status } → Gains got got' [] → Rose old.faults new.faults → KeepsTold old.finished new.finished
      → IsWritten f g old new got got'
