-- Reads after each other.
use Rattle.std.proofs.Common.{◌≡◌, ◌+◌, ◌≤◌, ℕ, List, ◌++◌, length, length-append, arith}
use Rattle.std.specs.Prelude.{Option}
use Rattle.ws_io.specs.Feed.{Feed, Fed}
use Rattle.ws_io.proofs.Flow.{Fed-then}
use Rattle.ws_io.specs.declared.status.Status.{Status}
use Rattle.ws_io.specs.declared.status.Status.TheVariants.{ReadFault, NoMemory}
use Rattle.ws_script.specs.Reading.{IsReadStop, StopsReading}

cause_since : (status : Status) (a b c : ℕ) → b ≡ a → IsReadStop status b c → IsReadStop status a c
cause_since ReadFault a b c calm cause = omega arith
cause_since NoMemory a b c calm cause = tt
cause_since _ a b c calm cause = absurd cause

-- reading stops after some bytes were read
pub Stops-reading : (status : Status) (most room : ℕ) (f g h : Option Feed) (a b c : ℕ) (text : List ℕ)
    → Fed f g text → length text + room ≤ most → b ≡ a → StopsReading status room g h b c → StopsReading status most f h a c
Stops-reading status most room f g h a b c text before within calm stop =
    let bound = stop.bound in
    record {
      taken = text ++ stop.taken;
      moved = Fed-then f g h text stop.taken before stop.moved;
      bound = omega (arith, length-append text stop.taken);
      cause = cause_since status a b c calm stop.cause;
    }
