-- A node ends what comes behind it with a reason: that of an error which it sends to the next node, or, where it feeds the output, that with
-- which the pipe into its sink is rejected. Such a reason came to it with an error from the node before it, or it has its cause in this node: one
-- of its stages is bad, or the node found one of the things that `Finds` has. No other reason has its cause in a node.
use Rattle.std.specs.Prelude.{◌≡◌, ℕ, ◌+◌, ◌-◌, ◌≤◌, Bool, true, List, [], ◌∷◌, ◌++◌, All}
use Rattle.ws_value.specs.declared.fault.Fault.{Fault}
use Rattle.ws_value.specs.declared.fault.Fault.TheVariants.{TypeError, RangeError, DataClone, User, Read, Write, Stage, TooMuch, Abort, NoMemory}
use Rattle.ws_value.specs.declared.value.Message.{Message}
use Rattle.ws_value.specs.declared.value.Message.TheVariants.{Pull, Chunk, Close, Error}
use Rattle.ws_value.specs.declared.value.Plain.{Plain}
use Rattle.ws_value.specs.declared.value.Plain.TheVariants.{Undefined, Number, Fault as FaultReason, Pair, Local}
use Rattle.ws_flow.specs.declared.plan.Ending.TheVariants.{Bad}
use Rattle.ws_flow.specs.Chains.{Way, Host, Row, Member}
use Rattle.ws_flow.specs.Parts.{Part, found}

-- the reasons of the errors among messages
abbrev pub reasons_in : List Message → List Plain
reasons_in [] = []
reasons_in (Pull ∷ ms) = reasons_in ms
reasons_in (Chunk v ∷ ms) = reasons_in ms
reasons_in (Close ∷ ms) = reasons_in ms
reasons_in (Error r ∷ ms) = r ∷ reasons_in ms

-- What a node finds besides how its stages end
pub record Finds : Type 0 where
  -- how many stages are on the nodes before it
  pub before : ℕ
  -- a read of the input failed
  pub read_failed : Bool
  -- more was taken than the run may take
  pub too_much : Bool
  -- a write to the output failed, or its finishing did
  pub write_failed : Bool
  -- the output has the bytes after which the run is aborted
  pub abort_reached : Bool
  pub memory_wanting : Bool

-- the stage of this number in the plan, from 1, is one of the node's, and was found bad so
pub record IsOwnStage (before : ℕ) (parts : List Part) (index code place : ℕ) : Type 0 where
  pub from : before + 1 ≤ index
  pub bad : found parts (index - (before + 1)) ≡ Bad code place

abbrev pub IsOwnFault : Finds → List Part → Fault → Type 0
IsOwnFault f ps Read = f.read_failed ≡ true
IsOwnFault f ps TooMuch = f.too_much ≡ true
IsOwnFault f ps Write = f.write_failed ≡ true
IsOwnFault f ps (Stage index code place) = IsOwnStage f.before ps index code place
IsOwnFault f ps Abort = f.abort_reached ≡ true
IsOwnFault f ps NoMemory = f.memory_wanting ≡ true
IsOwnFault f ps TypeError = ⊥
IsOwnFault f ps RangeError = ⊥
IsOwnFault f ps DataClone = ⊥
IsOwnFault f ps (User k) = ⊥

-- a reason has its cause in a node that finds this and whose stages are at work so
abbrev pub IsOwn : Finds → List Part → Plain → Type 0
IsOwn f ps (FaultReason fault) = IsOwnFault f ps fault
IsOwn f ps Undefined = ⊥
IsOwn f ps (Number k) = ⊥
IsOwn f ps (Pair t) = ⊥
IsOwn f ps (Local k) = ⊥

-- it came to the node with an error, or has its cause in it
pub data HasCause (f : Finds) (ps : List Part) (came : List Plain) (r : Plain) : Type 0 where
  Passed : (before after : List Plain) → came ≡ before ++ r ∷ after → HasCause f ps came r
  Own : IsOwn f ps r → HasCause f ps came r

-- the reasons that came by a way: none by the input
abbrev pub came_by : Way → List Plain
came_by (Host b) = []
came_by (Row r) = reasons_in r

-- those that went by one: at the output, those with which the pipe into the sink was rejected
abbrev pub went_by : List Plain → Way → List Plain
went_by last (Host b) = last
went_by last (Row s) = reasons_in s

-- each reason with which a node ends what comes behind it has its cause
abbrev pub HaveCauses : List Plain → Finds → Member → Type 0
HaveCauses last f m = All (HasCause f m.parts (came_by m.from)) (went_by last m.to)
