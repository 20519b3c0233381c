-- What the nodes of a run tell once it has ended, and what follows for its end. A node with a row tells it under the condition of `KeepsIf`.
use Rattle.std.specs.Prelude.{◌≡◌, ℕ, ℤ, true, false, List, [], ◌∷◌, ◌++◌, All, Option}
use Rattle.ws_value.specs.declared.fault.Fault.{Fault}
use Rattle.ws_value.specs.declared.fault.Fault.TheVariants.{TypeError, RangeError, DataClone, User, Read, Write, Stage, TooMuch, Abort, NoMemory}
use Rattle.ws_value.specs.declared.value.Plain.{Plain}
use Rattle.ws_value.specs.declared.value.Plain.TheVariants.{Undefined, Number, Fault as FaultReason, Pair, Local}
use Rattle.ws_flow.specs.Chains.{Member, Keeps, all_stages}
use Rattle.ws_flow.specs.Plans.{sees_known_chunks}
use Rattle.ws_flow.specs.Told.{Open, Closed, Told, told, IsBefore}
use Rattle.ws_joined_laws.specs.Condition.{AreBytes, AreShort, AreInRange, ChainedIf}
use Rattle.ws_joined_laws.specs.Ends.{out_of, HasAll, IsBad, IsWithinAbort, StopsNear}
use Rattle.ws_joined_laws.specs.Joined.{Node, members, AreCounted, IsJoined, SomeFinds}
use Rattle.ws_joined_laws.specs.Reasons.{HaveCauses}
use Rattle.ws_joined_laws.specs.Sends.{ArePieces}

-- the reasons with which a node ends what comes behind it have their causes, under the condition
abbrev pub CausesIf : List Plain → Node → Type 0
CausesIf last n = AreBytes n.member.from → AreShort n.member.from → HaveCauses last n.finds n.member

-- a node keeps its flow, and the output that it feeds stops near the abort
pub record KeepsNear (after : Option ℤ) (gain : List ℕ) (m : Member) : Type 0 where
  pub keeps : Keeps m
  pub pieces : ArePieces m.from keeps.came.items
  pub stops : StopsNear after keeps.went.items gain

-- what the last node tells besides, under the condition
pub record LastStops (after : Option ℤ) (gain : List ℕ) (ns : List Node) : Type 0 where
  pub before : List Node
  pub tail : Node
  pub whole : ns ≡ before ++ tail ∷ []
  pub near : AreBytes tail.member.from → AreShort tail.member.from → KeepsNear after gain tail.member

-- The nodes of a run, from what was taken to what the output got, whose stages are those of a plan that isn't refused; `after` tells of its abort,
-- and with the reasons `last` the pipe into the sink was rejected
pub record NodesTell (after : Option ℤ) (taken : Told ℕ) (ns : List Node) (got : Told ℕ) (last : List Plain) : Type 0 where
  pub range : AreInRange (all_stages (members ns))
  pub known : sees_known_chunks false (all_stages (members ns)) ≡ true
  pub chained : ChainedIf taken (members ns) got
  pub counted : AreCounted 0 ns
  pub caused : All (CausesIf last) ns
  pub ends : LastStops after got.items ns

-- a reason with which the pipe into the sink may be rejected, and what is then so: some node found it, or a stage is bad
abbrev pub FaultIsFound : Told ℕ → List Node → Fault → Type 0
FaultIsFound taken ns Read = SomeFinds (λ f. f.read_failed) ns
FaultIsFound taken ns TooMuch = SomeFinds (λ f. f.too_much) ns
FaultIsFound taken ns Write = SomeFinds (λ f. f.write_failed) ns
FaultIsFound taken ns (Stage index code place) = IsBad (all_stages (members ns)) index code place taken.mark taken.items
FaultIsFound taken ns Abort = SomeFinds (λ f. f.abort_reached) ns
FaultIsFound taken ns NoMemory = SomeFinds (λ f. f.memory_wanting) ns
FaultIsFound taken ns TypeError = ⊥
FaultIsFound taken ns RangeError = ⊥
FaultIsFound taken ns DataClone = ⊥
FaultIsFound taken ns (User k) = ⊥

abbrev pub IsFoundFor : Told ℕ → List Node → Plain → Type 0
IsFoundFor taken ns (FaultReason fault) = FaultIsFound taken ns fault
IsFoundFor taken ns Undefined = ⊥
IsFoundFor taken ns (Number k) = ⊥
IsFoundFor taken ns (Pair t) = ⊥
IsFoundFor taken ns (Local k) = ⊥

-- how such a run ends: `got` is closed where the output was finished
pub record NodesEnd (after : Option ℤ) (taken : Told ℕ) (ns : List Node) (got : Told ℕ) (last : List Plain) : Type 0 where
  pub joined : IsJoined taken ns got last
  pub first : IsBefore (told got.items Open) (out_of (all_stages (members ns)) taken.items taken.mark)
  pub finished : got.mark ≡ Closed → HasAll (all_stages (members ns)) taken.mark taken.items got.items
  pub reasons : All (IsFoundFor taken ns) last
  pub abort : IsWithinAbort after got.items

abbrev pub EachRunOfNodesEnds : Type 0
EachRunOfNodesEnds = (after : Option ℤ) (taken : Told ℕ) (ns : List Node) (got : Told ℕ) (last : List Plain) → NodesTell after taken ns got last → NodesEnd after taken ns got last
