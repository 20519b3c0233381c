-- A run over any number of nodes that are joined in a chain, whatever the order of their turns: it speaks only of what they took, sent and
-- received (`IsJoined`), how it ends (`JoinedEnds`), and what one node has told (`TellsAll`).
use Rattle.std.specs.Prelude.{◌≡◌, ℕ, ◌+◌, ◌-◌, ◌≤◌, Bool, true, false, List, [], ◌∷◌, ◌++◌, All, length, map}
use Rattle.ws_value.specs.declared.fault.Fault.{Fault}
use Rattle.ws_value.specs.declared.fault.Fault.TheVariants.{TypeError, RangeError, DataClone, User, Read, Write, Stage, TooMuch, Abort, NoMemory}
use Rattle.ws_value.specs.declared.value.Plain.{Plain}
use Rattle.ws_value.specs.declared.value.Plain.TheVariants.{Undefined, Number, Fault as FaultReason, Pair, Local}
use Rattle.ws_flow.specs.declared.plan.Ending.TheVariants.{Bad}
use Rattle.ws_flow.specs.Chains.{Member, Chained, all_stages}
use Rattle.ws_flow.specs.Machines.{ending, all_through, EndsWell}
use Rattle.ws_flow.specs.Parts.{Flows}
use Rattle.ws_flow.specs.Plans.{as_one, reach, sees_known_chunks}
use Rattle.ws_flow.specs.Stages.{machines}
use Rattle.ws_flow.specs.Told.{bytes_of, Closed, Told, then_told, IsBefore}
use Rattle.ws_joined_laws.specs.Reasons.{Finds, HaveCauses}

-- a node of a run, with the lists of its ends, and what it finds
pub record Node : Type 0 where
  pub member : Member
  pub finds : Finds

abbrev pub members : List Node → List Member
members ns = map (λ n. n.member) ns

-- each counts the stages on the nodes before it, of which there are so many before the first
abbrev pub AreCounted : ℕ → List Node → Type 0
AreCounted k [] = Unit {0}
AreCounted k (n ∷ ns) = (n.finds.before ≡ k) × AreCounted (k + length n.member.stages) ns

-- the reasons of each node have their causes, where the pipe into the sink was rejected with the last ones
abbrev pub EachHasCauses : List Plain → List Node → Type 0
EachHasCauses last [] = Unit {0}
EachHasCauses last (n ∷ ns) = HaveCauses last n.finds n.member × EachHasCauses last ns

-- the nodes of a run, from what was taken to what the output got
pub record IsJoined (taken : Told ℕ) (ns : List Node) (got : Told ℕ) (last : List Plain) : Type 0 where
  pub chained : Chained taken (members ns) got
  pub known : sees_known_chunks false (all_stages (members ns)) ≡ true
  pub counted : AreCounted 0 ns
  pub caused : EachHasCauses last ns

-- one of them found it
pub record SomeFinds (finds : Finds → Bool) (ns : List Node) : Type 0 where
  pub before : List Node
  pub node : Node
  pub after : List Node
  pub whole : ns ≡ before ++ node ∷ after
  pub found : finds node.finds ≡ true

-- the stage of this number, from 1, ends so over the bytes that were taken
pub record EndsBadly (taken : Told ℕ) (ns : List Node) (index code place : ℕ) : Type 0 where
  pub numbered : 1 ≤ index
  pub bad : ending (machines (all_stages (members ns))) (index - 1) (as_one taken.items taken.mark) ≡ Bad code place

abbrev pub FaultEnds : Told ℕ → List Node → Fault → Type 0
FaultEnds taken ns Read = SomeFinds (λ f. f.read_failed) ns
FaultEnds taken ns TooMuch = SomeFinds (λ f. f.too_much) ns
FaultEnds taken ns Write = SomeFinds (λ f. f.write_failed) ns
FaultEnds taken ns (Stage index code place) = EndsBadly taken ns index code place
FaultEnds taken ns Abort = SomeFinds (λ f. f.abort_reached) ns
FaultEnds taken ns NoMemory = SomeFinds (λ f. f.memory_wanting) ns
FaultEnds taken ns TypeError = ⊥
FaultEnds taken ns RangeError = ⊥
FaultEnds taken ns DataClone = ⊥
FaultEnds taken ns (User k) = ⊥

-- a reason with which the pipe into the sink may be rejected, and what is then so of the whole run
abbrev pub RejectsFor : Told ℕ → List Node → Plain → Type 0
RejectsFor taken ns (FaultReason fault) = FaultEnds taken ns fault
RejectsFor taken ns Undefined = ⊥
RejectsFor taken ns (Number k) = ⊥
RejectsFor taken ns (Pair t) = ⊥
RejectsFor taken ns (Local k) = ⊥

-- the output has all, the input was read to its end, and each stage ended fine
pub record IsWhole (taken : Told ℕ) (ns : List Node) (got : Told ℕ) : Type 0 where
  pub all : bytes_of (reach (all_stages (members ns)) taken.items taken.mark) ≡ got
  pub ends_well : EndsWell (machines (all_stages (members ns))) (as_one taken.items taken.mark)

-- how a run ends: `got` is closed where the output was finished
pub record JoinedEnds (taken : Told ℕ) (ns : List Node) (got : Told ℕ) (last : List Plain) : Type 0 where
  pub first : IsBefore got (bytes_of (reach (all_stages (members ns)) taken.items taken.mark))
  pub finished : got.mark ≡ Closed → IsWhole taken ns got
  pub causes : All (RejectsFor taken ns) last

abbrev pub EachJoinedRunEnds : Type 0
EachJoinedRunEnds = (taken : Told ℕ) (ns : List Node) (got : Told ℕ) (last : List Plain) → IsJoined taken ns got last → JoinedEnds taken ns got last

pub record TellsAll (m : Member) (came went : Told (List ℕ)) : Type 0 where
  pub ends_well : EndsWell (machines m.stages) came
  pub all : went ≡ all_through (machines m.stages) came

abbrev pub EachNodeTells : Type 0
EachNodeTells =
    (m : Member) (came went : Told (List ℕ)) → Flows (machines m.stages) came m.parts (then_told went m.behind)
    → ((went.mark ≡ Closed → TellsAll m came went) × ((then_told went m.behind).mark ≡ Closed → TellsAll m came (then_told went m.behind)))
