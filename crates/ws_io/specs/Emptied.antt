-- What a command leaves of its output.
use Rattle.ws_io.specs.Gain.{Got, IsEmptied}
use Rattle.ws_io.specs.declared.status.Status.{Status}
use Rattle.ws_io.specs.declared.status.Status.TheVariants.{WriteFault, NoMemory}

-- all that was written went out, unless that failed or memory was wanting
abbrev pub LeavesNothing : Status → Got → Type 0
LeavesNothing WriteFault got = Unit {0}
LeavesNothing NoMemory got = Unit {0}
LeavesNothing _ got = IsEmptied got
