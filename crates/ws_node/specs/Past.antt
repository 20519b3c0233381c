-- What holds of a node between turns, by its shape and all that led to it: its links are wired, and its host knows what became of what they brought.
use Rattle.std.specs.Prelude.{◌≡◌, ◌≢◌, ◌+◌, ◌<◌, ◌≤◌, ◌^◌, ℕ, ℤ, Bool, true, false, not, ◌&&◌, is_some, if◌then◌else◌, List, [], ◌∷◌, ◌++◌, length, All, Contains, Option, Some, None, slice_get, option_map}
use Rattle.std.specs.List.{concat}
use Rattle.ws_value.specs.declared.fault.Fault.{Fault}
use Rattle.ws_value.specs.declared.fault.Fault.TheVariants.{TypeError, RangeError, DataClone, User, Read, Write, Stage, TooMuch, Abort, NoMemory}
use Rattle.ws_value.specs.declared.ids.HostId.{HostId}
use Rattle.ws_value.specs.declared.ids.PortId.{PortId}
use Rattle.ws_value.specs.declared.ids.StreamId.{StreamId}
use Rattle.ws_value.specs.declared.value.Message.{Message}
use Rattle.ws_value.specs.declared.value.Message.TheVariants.{Error}
use Rattle.ws_value.specs.declared.value.Plain.{Plain}
use Rattle.ws_value.specs.declared.value.Plain.TheVariants.{Undefined, Number, Fault as FaultReason, Pair, Local}
use Rattle.ws_value.specs.declared.value.Value.{Value}
use Rattle.ws_value.specs.declared.value.Value.TheVariants.{Plain as PlainValue, Bytes}
use Rattle.ws_flow.specs.declared.plan.Ending.TheVariants.{Fine, Bad}
use Rattle.ws_edge.specs.Edge.{AtEdge, given}
use Rattle.ws_flow.specs.declared.plan.Stage.{Stage as PlanStage}
use Rattle.ws_flow.specs.Parts.{Over, Flows, fresh}
use Rattle.ws_flow.specs.Rows.{told_by}
use Rattle.ws_flow.specs.Stages.{machines}
use Rattle.ws_flow.specs.Told.{Open as MayCome, Told, then_told}
use Rattle.ws_stages.specs.State.{State, is_live}
use Rattle.ws_steps.specs.declared.calls.HostCall.TheVariants.{Pull, Close, Flush}
use Rattle.ws_steps.specs.declared.calls.Call.TheVariants.{Deliver}
use Rattle.ws_steps.specs.PortHistory.{has_end, posted_in}
use Rattle.ws_steps.specs.Run.{Entry, Called, run}
use Rattle.ws_steps.specs.Slots.{empty}
use Rattle.ws_end_laws.specs.hosts.HostCalls.{called, settles_well}
use Rattle.ws_chain_laws.specs.Chain.{Origin, FromChunks, FromBytes, FromPort, Target, ToSink, ToPort, source_of, dest_of, behind_at, source_port, sink_port}
use Rattle.ws_chain_laws.specs.Opening.{signal_of}
use Rattle.ws_chain_laws.specs.Outcomes.{last_promise}
use Rattle.ws_joined_laws.specs.Reasons.{reasons_in}
use Rattle.ws_node_laws.specs.Messages.{delivered_to, taken_events}
use Rattle.ws_realm.specs.Seen.{oldest}
use Rattle.ws_realm.specs.declared.realm.Why.{Why}
use Rattle.ws_realm.specs.declared.realm.Why.TheVariants as why
use Rattle.ws_reason_laws.specs.Reasons.{failures}
use Rattle.ws_node.specs.declared.node.Abort.{Abort as AbortOf}
use Rattle.ws_node.specs.declared.node.Entrance.{Entrance}
use Rattle.ws_node.specs.declared.node.Exit.{Exit}
use Rattle.ws_node.specs.declared.node.Input.{Input}
use Rattle.ws_node.specs.declared.node.Input.TheVariants as input
use Rattle.ws_node.specs.declared.node.Node.{Node}
use Rattle.ws_node.specs.declared.node.Output.{Output}
use Rattle.ws_node.specs.declared.node.Output.TheVariants as output
use Rattle.ws_node.specs.Fair.{AllBringFair}
use Rattle.ws_node.specs.Moves.{IsAt, is_writable}
use Rattle.ws_node.specs.Messages.{fairly}
use Rattle.ws_node.specs.Near.{IsHead, IsNear}
use Rattle.ws_node.specs.Node.{stages_in, nothing_yet, parts, held, is_reached, is_edge, feeds_edge, received_at, sent_at}
use Rattle.ws_node.specs.Opening.{AreAnsweredOf, opening_by, all_begun, abort_of}
use Rattle.ws_node.specs.Ran.{HasRun}
use Rattle.ws_node.specs.Shape.{AreFit, Shape, count_in, is_from_edge, is_to_edge}

-- The reasons with which a node fails something: each came with an error over the edge above, as the node takes it, or has its cause in what became of the input, of the
-- output or of a stage, or in an abort that was reached

-- the stage of this number, from 1, ended so
pub record EndedAs (number code place : ℕ) (stages : List State) : Type 0 where
  pub before : List State
  pub after : List State
  pub state : State
  pub numbered : length before + 1 ≡ number
  pub whole : stages ≡ before ++ state ∷ after
  pub over : state.work ≡ Over (Bad code place)

-- an output that was open once and takes no more, but not for the abort
abbrev pub is_shut : Output → Bool
is_shut output.Open = false
is_shut output.Finished = true
is_shut output.Failed = true
is_shut output.Aborted = false
is_shut output.Edge = false

-- the stage of this number in the plan ended so: the node counts the stages on the nodes before it
pub record IsOwnStage (n : Node) (index code place : ℕ) : Type 0 where
  pub number : ℕ
  pub counted : index ≡ n.core.first + number
  pub ended : EndedAs number code place n.core.stages.items

abbrev pub IsOwnFault : Node → Fault → Type 0
IsOwnFault n Read = n.entrance.input ≡ input.Failed
IsOwnFault n TooMuch = n.entrance.input ≡ input.TooLong
IsOwnFault n Write = is_shut n.exit.output ≡ true
IsOwnFault n (Stage index code place) = IsOwnStage n index code place
IsOwnFault n Abort = is_reached n.exit.abort ≡ true
IsOwnFault n TypeError = ⊥
IsOwnFault n RangeError = ⊥
IsOwnFault n DataClone = ⊥
IsOwnFault n (User k) = ⊥
IsOwnFault n NoMemory = ⊥

abbrev pub IsOwnCause : Node → Plain → Type 0
IsOwnCause n (FaultReason fault) = IsOwnFault n fault
IsOwnCause n Undefined = ⊥
IsOwnCause n (Number k) = ⊥
IsOwnCause n (Pair t) = ⊥
IsOwnCause n (Local k) = ⊥

pub data IsCause (n : Node) (r : Plain) : Type 0 where
  Passed : Contains (reasons_in (fairly (received_at n.entrance.above))) r → IsCause n r
  Own : IsOwnCause n r → IsCause n r

-- So is each reason by which something failed; where the node feeds an edge, until an error came up from there, which justifies nothing
pub data AreCaused (shape : Shape) (past : List Entry) (n : Node) : Type 0 where
  AllCaused : All (IsCause n) (failures past) → AreCaused shape past n
  UntilError : shape.target ≡ ToPort → (before after : List Entry) (up : Plain) → past ≡ before ++ Called (Deliver (sink_port shape.origin) (Error up)) ∷ after
      → All (IsCause n) (failures before) → AreCaused shape past n

-- where the output isn't an edge, the host settled the close of the sink well only where it has finished the output
abbrev pub ClosesFinished : StreamId → List Entry → Output → Type 0
ClosesFinished sink entries o =
    (before after : List Entry) (id : HostId) → entries ≡ before ++ Called (settles_well id) ∷ after
    → slice_get (called before) id.0 ≡ Some (Close sink) → feeds_edge o ≡ false → o ≡ output.Finished

-- the host settled the flush of a stage well only where that ended fine
abbrev pub FlushesFine : List Entry → List State → Type 0
FlushesFine entries stages =
    (before after : List Entry) (id : HostId) (i : StreamId) → entries ≡ before ++ Called (settles_well id) ∷ after
    → slice_get (called before) id.0 ≡ Some (Flush i)
    → (first last : List State) (w : State) → IsAt i stages first w last → w.work ≡ Over Fine

-- the pull that waits is one
abbrev pub IsPull : List Entry → Option HostId → Type 0
IsPull entries None = Unit {0}
IsPull entries (Some id) = (i : StreamId) × (slice_get (called entries) id.0 ≡ Some (Pull i))

-- what is behind the host is one chunk at most, of so many bytes
abbrev pub IsOne : ℕ → Value → List Value → Type 0
IsOne n (Bytes piece) vs = (vs ≡ []) × (length piece ≡ n) × (0 < n)
IsOne n (PlainValue v) vs = ⊥

abbrev pub OneAtMost : ℕ → List Value → Type 0
OneAtMost n [] = Unit {0}
OneAtMost n (v ∷ vs) = IsOne n v vs

-- the counts of a node, by the end of its input
pub record Counts (limit taken ahead : ℕ) (i : Input) : Type 0 where
  pub limited : limit < 2 ^ 63
  pub bound : taken ≤ limit + 1
  pub within : i ≢ input.TooLong → taken ≤ limit
  pub beyond : i ≡ input.TooLong → limit < taken
  pub piece : ahead ≤ 4096
  pub failed : i ≡ input.Failed → ahead ≡ 0

-- those of the entrance of a node
abbrev pub HasCounts : Entrance → Type 0
HasCounts entrance = Counts entrance.most entrance.taken entrance.ahead entrance.input

-- each stage was asked for fewer chunks than the realm performed calls
abbrev pub ArePushed : ℕ → List State → Type 0
ArePushed age stages = All (λ w. w.pushes < age) stages

-- the output refused what came behind the abort only where that was reached
abbrev pub AbortsReached : Exit → Type 0
AbortsReached exit = exit.output ≡ output.Aborted → is_reached exit.abort ≡ true

-- by what a node is fed and what it feeds: the input and the output, or an edge, of which it has the end then

abbrev pub IsFedAs : Origin → Entrance → Type 0
IsFedAs FromBytes e = (is_edge e.input ≡ false) × (e.above ≡ None)
IsFedAs FromPort e = (is_edge e.input ≡ true) × (is_some e.above ≡ true)
IsFedAs FromChunks e = ⊥

abbrev pub FeedsAs : Target → Exit → Type 0
FeedsAs ToSink x = (feeds_edge x.output ≡ false) × (x.below ≡ None)
FeedsAs ToPort x = (feeds_edge x.output ≡ true) × (is_some x.below ≡ true)

-- the stages, the ends, the limit and the signal of a node are those of its shape
pub record IsShaped (shape : Shape) (n : Node) : Type 0 where
  pub fit : AreFit shape.stages
  pub from : IsFedAs shape.origin n.entrance
  pub into : FeedsAs shape.target n.exit
  pub stages : stages_in n.core ≡ shape.stages
  pub source : n.entrance.source ≡ source_of 0
  pub sink : n.exit.sink ≡ dest_of (count_in shape)
  pub most : n.entrance.most ≡ shape.most
  pub signal : option_map (λ a. a.signal) n.exit.abort ≡ signal_of shape.aborted

-- a node of this shape to which this led
pub record Led (shape : Shape) (past : List Entry) (n : Node) : Type 0 where
  pub is_of : IsShaped shape n
  pub ran : HasRun shape past n.core.realm.slots
  pub piped : n.core.pipe ≡ last_promise shape.origin shape.target (count_in shape) shape.aborted
  pub clones : AllBringFair past
  pub failed : AreCaused shape past n
  pub closes : ClosesFinished n.exit.sink past n.exit.output
  pub flushes : FlushesFine past n.core.stages.items
  pub asked : IsPull past n.entrance.asked
  pub aborts : AbortsReached n.exit
  pub age : n.core.realm.slots.age ≤ oldest
  pub counts : HasCounts n.entrance
  -- the realm has stopped as one that is spent only where it is
  pub spent : n.core.stopped ≡ Some why.Spent → n.core.realm.slots.age ≡ oldest

-- whether what is read may still come to be had: while the first stage may be asked, or without stages the output may be written or there is an edge
abbrev pub may_have : List State → Output → Option AbortOf → Bool
may_have (w ∷ ws) o abort = is_live w.work
may_have [] o abort = is_writable o && not (is_reached abort)

-- of what the input gave, what is behind the host on the first link is then one chunk at most, of the bytes that weren't had
abbrev pub HasOne : Node → Type 0
HasOne n =
    is_edge n.entrance.input ≡ false → may_have n.core.stages.items n.exit.output n.exit.abort ≡ true
    → OneAtMost n.entrance.ahead (behind_at 0 n.core.realm.slots).items

-- how many bytes a piece may have that comes in: as many as a read takes, or fewer than 2^25 over an edge
abbrev pub most_of_piece : Input → ℕ
most_of_piece i = if is_edge i then 33554431 else 4096

-- what came in over an edge is what was taken of it, and what went out over one is what was posted

abbrev pub CameBy : Entrance → Told (List ℕ) → Type 0
CameBy e came = is_edge e.input ≡ true → came ≡ told_by (fairly (received_at e.above))

abbrev pub WentBy : Exit → Told (List ℕ) → Type 0
WentBy x went = feeds_edge x.output ≡ true → went ≡ told_by (sent_at x.below)

-- Since the node was made these pieces came in, none longer than may be, and went through the stages to what went out and what lies in it. So no
-- chunk that lies in it is too long for a stage
pub record IsFed (stages : List PlanStage) (n : Node) : Type 0 where
  pub came : Told (List ℕ)
  pub went : Told (List ℕ)
  pub came_by : CameBy n.entrance came
  pub went_by : WentBy n.exit went
  pub short : All (λ c. length c ≤ most_of_piece n.entrance.input) came.items
  -- while the output may be written, more may go out
  pub goes_on : n.exit.output ≡ output.Open → went.mark ≡ MayCome
  -- while the input may be read, more may come in, and what was read is counted
  pub reads_on : n.entrance.input ≡ input.Open → came.mark ≡ MayCome
  pub counted : is_edge n.entrance.input ≡ false → n.entrance.taken ≡ length (concat came.items)
  pub near : IsHead n → IsNear (length came.items) n
  pub flows : Flows (machines stages) came (parts n) (then_told went (held n))

-- what an end was given to post is what its port posted, of which the node has heard; where no memory was to be had, a first part of that, and at
-- most one error behind it
pub data IsGiven (posted given : List Message) (stopped : Option Why) : Type 0 where
  Whole : given ≡ posted → IsGiven posted given stopped
  FirstPart : stopped ≡ Some why.NoMemory → (rest : List Message) → posted ≡ given ++ rest → IsGiven posted given stopped
  WithLast : stopped ≡ Some why.NoMemory → (first rest : List Message) → posted ≡ first ++ rest → has_end first ≡ false → given ≡ first ++ Error (FaultReason NoMemory) ∷ []
      → IsGiven posted given stopped

-- what was taken of an end was delivered to its port, but for the last message where the realm has stopped
pub record IsDelivered (delivered received : List Message) (stopped : Option Why) : Type 0 where
  pub rest : List Message
  pub first : fairly received ≡ delivered ++ rest
  pub all : stopped ≡ None → rest ≡ []

pub record HasMessages (port : PortId) (past : List Entry) (stopped : Option Why) (e : AtEdge) : Type 0 where
  pub given : IsGiven (posted_in port (taken_events past empty)) (given e) stopped
  pub taken : IsDelivered (delivered_to port past) e.from.received stopped

abbrev pub EndHas : PortId → List Entry → Option Why → Option AtEdge → Type 0
EndHas port past stopped None = Unit {0}
EndHas port past stopped (Some e) = HasMessages port past stopped e

-- of both ends
pub record EndsHave (shape : Shape) (past : List Entry) (n : Node) : Type 0 where
  pub above : EndHas source_port past n.core.stopped n.entrance.above
  pub below : EndHas (sink_port shape.origin) past n.core.stopped n.exit.below

pub record Since (shape : Shape) (past : List Entry) (n : Node) : Type 0 where
  pub led : Led shape past n
  pub pushes : n.core.stopped ≡ None → ArePushed n.core.realm.slots.age n.core.stages.items
  pub one : HasOne n
  pub fed : IsFed shape.stages n
  pub ends : EndsHave shape past n

-- a node between turns
pub record Driven (n : Node) : Type 0 where
  pub shape : Shape
  pub past : List Entry
  pub since : Since shape past n

-- an end of an edge on which nothing was taken or posted, and where nothing waits
abbrev pub IsUnused : Option AtEdge → Type 0
IsUnused None = Unit {0}
IsUnused (Some e) = (e.from.received ≡ []) × (e.to.sent ≡ []) × (e.waiting ≡ [])

-- a new node of this shape, behind so many stages: nothing was read or written, taken or posted, and nothing lies in it
pub record IsNew (shape : Shape) (first : ℕ) (after : Option ℤ) (n : Node) : Type 0 where
  pub is_of : IsShaped shape n
  pub first_is : n.core.first ≡ first
  pub pipes : AreAnsweredOf shape n.core.pipes_before.items
  pub parts : parts n ≡ fresh (machines shape.stages)
  pub held : held n ≡ nothing_yet
  pub abort : n.exit.abort ≡ abort_of after
  pub taken : n.entrance.taken ≡ 0
  pub ahead : n.entrance.ahead ≡ 0
  pub input : n.entrance.input ≡ (if is_from_edge shape.origin then input.Edge else input.Open)
  pub output : n.exit.output ≡ (if is_to_edge shape.target then output.Edge else output.Open)
  pub above : IsUnused n.entrance.above
  pub below : IsUnused n.exit.below

-- as it is made: the calls that open its realm were performed
pub record IsFresh (shape : Shape) (first : ℕ) (after : Option ℤ) (n : Node) : Type 0 where
  pub slots : n.core.realm.slots ≡ run (opening_by shape) empty
  pub stages : n.core.stages.items ≡ all_begun shape.stages
  pub first_is : n.core.first ≡ first
  pub source : n.entrance.source ≡ source_of 0
  pub sink : n.exit.sink ≡ dest_of (count_in shape)
  pub answered : n.core.pipe ≡ last_promise shape.origin shape.target (count_in shape) shape.aborted
  pub before_answered : AreAnsweredOf shape n.core.pipes_before.items
  pub abort : n.exit.abort ≡ abort_of after
  pub most : n.entrance.most ≡ shape.most
  pub taken : n.entrance.taken ≡ 0
  pub ahead : n.entrance.ahead ≡ 0
  pub asked : n.entrance.asked ≡ None
  pub from : IsFedAs shape.origin n.entrance
  pub into : FeedsAs shape.target n.exit
  pub input : n.entrance.input ≡ (if is_from_edge shape.origin then input.Edge else input.Open)
  pub output : n.exit.output ≡ (if is_to_edge shape.target then output.Edge else output.Open)
  pub above : IsUnused n.entrance.above
  pub below : IsUnused n.exit.below
  pub stopped : n.core.stopped ≡ None
