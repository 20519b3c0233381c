-- How text goes to an output: what is printed waits with what was printed before, until it is written.
use Rattle.std.specs.Prelude.{◌≡◌, ℕ, Bool, List, ◌++◌, Option}
use Rattle.ws_io.specs.Faults.{Rose}
use Rattle.ws_io.specs.Gain.{Gains, KeepsTold, Becomes, Got}
use Rattle.ws_io.specs.declared.status.Status.{Status}
use Rattle.ws_io.specs.declared.status.Status.TheVariants.{Done, WriteFault, NoMemory}

-- what an output tells at one moment, beside its bytes
pub record Told : Type 0 where
  pub faults : ℕ
  pub finished : Option Bool

-- a first part of the text was written, and this rest wasn't
pub record Prints (old new : Told) (got got' : Got) (text rest : List ℕ) : Type 0 where
  pub gain : List ℕ
  pub gained : Gains got got' gain
  pub first : text ≡ gain ++ rest
  pub finish_kept : KeepsTold old.finished new.finished

-- why printing stops: a write failed, or memory can't be had
abbrev pub IsStop : Status → Told → Told → Type 0
IsStop WriteFault old new = Rose old.faults new.faults
IsStop NoMemory old new = Unit {0}
IsStop _ old new = ⊥

-- printing went on without a fault
pub record PrintsOn (old new : Told) (got got' : Got) (text rest : List ℕ) : Type 0 where
  pub printed : Prints old new got got' text rest
  pub calm : new.faults ≡ old.faults

-- printing stopped for such a cause, with some rest
pub record StopsPrinting (status : Status) (old new : Told) (got got' : Got) (text : List ℕ) : Type 0 where
  pub rest : List ℕ
  pub printed : Prints old new got got' text rest
  pub cause : IsStop status old new

-- all of the text was written, no count rose, and the output is finished
pub record PrintsAll (old new : Told) (got got' : Got) (text : List ℕ) : Type 0 where
  pub gained : Gains got got' text
  pub calm : new.faults ≡ old.faults
  pub finished : Becomes old.finished new.finished

-- how the performing of lines that print a text may end
abbrev pub Performs : Status → List ℕ → Told → Told → Got → Got → Type 0
Performs Done text old new got got' = PrintsAll old new got got' text
Performs status text old new got got' = StopsPrinting status old new got got' text

-- of a script's text, what was printed so far is written or waits, and the rest is still to be printed
pub record PrintsSoFar (old new : Told) (got got' : Got) (script waiting rest : List ℕ) : Type 0 where
  pub printed : List ℕ
  pub split : script ≡ printed ++ rest
  pub on : PrintsOn old new got got' printed waiting
