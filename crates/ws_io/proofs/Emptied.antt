-- What a command leaves of an output that holds nothing back.
use Rattle.ws_io.specs.Emptied.{LeavesNothing}
use Rattle.ws_io.specs.Gain.{Got, IsEmptied}
use Rattle.ws_io.specs.declared.status.Status.{Status}
use Rattle.ws_io.specs.declared.status.Status.TheVariants.{WriteFault, NoMemory}

pub emptied-leaves : (s : Status) (got : Got) → IsEmptied got → LeavesNothing s got
emptied-leaves WriteFault got e = tt
emptied-leaves NoMemory got e = tt
emptied-leaves _ got e = e
