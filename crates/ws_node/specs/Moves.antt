-- What the methods of a node do to it, each told as it is.
use Rattle.std.specs.Prelude.{◌≡◌, ◌≤◌, ◌<◌, ◌+◌, ◌-◌, ◌^◌, ◌≢◌, ◌++◌, ℕ, zero, suc, nat_lt, Bool, true, false, List, [], ◌∷◌, length, Option, Some, None, Result, Ok, Err}
use Rattle.ws_value.specs.declared.fault.Fault.{Fault}
use Rattle.ws_value.specs.declared.fault.Fault.TheVariants.{Read, Write as WriteFault, TooMuch, Stage as StageFault, Abort as AbortFault}
use Rattle.ws_value.specs.declared.ids.HostId.{HostId}
use Rattle.ws_value.specs.declared.value.Plain.TheVariants.{Fault as FaultReason}
use Rattle.ws_value.specs.declared.value.Value.{Value}
use Rattle.ws_value.specs.declared.ids.StreamId.{StreamId}
use Rattle.ws_value.specs.declared.value.Value.TheVariants.{Plain as PlainValue, Bytes}
use Rattle.ws_flow.specs.declared.plan.Ending.{Ending}
use Rattle.ws_flow.specs.declared.plan.Ending.TheVariants.{Fine, Bad}
use Rattle.ws_flow.specs.Stages.{machine, HasLength}
use Rattle.ws_io.specs.Faults.{Rose}
use Rattle.ws_io.specs.Feed.{Feed}
use Rattle.ws_io.specs.Gain.{Gains, Becomes, KeepsTold, Got, IsEmptied}
use Rattle.ws_io.specs.declared.outside.Failed.{Failed}
use Rattle.ws_steps.specs.declared.calls.Answer.TheVariants.{Ok as AnswerOk, Fail as AnswerFail}
use Rattle.ws_steps.specs.declared.calls.Call.{Call}
use Rattle.ws_steps.specs.declared.calls.Call.TheVariants.{Enqueue, Finish, Fail, Settle, Trigger}
use Rattle.ws_steps.specs.declared.calls.HostCall.{HostCall}
use Rattle.ws_steps.specs.declared.calls.HostCall.TheVariants.{Pull as HostPull, Write as HostWrite, Close as HostClose, Transform as HostTransform, Flush as HostFlush}
use Rattle.ws_steps.specs.declared.calls.Reply.TheVariants.{Done}
use Rattle.ws_steps.specs.Histories.{is_same}
use Rattle.ws_steps.specs.Run.{after_call, reply_to, run, jobs_in_a_row}
use Rattle.ws_stages.specs.declared.work.Pushed.{Pushed}
use Rattle.ws_stages.specs.Answers.{Answers as StageAnswers, Flushed}
use Rattle.ws_stages.specs.State.{State, IsLive, kept_in}
use Rattle.ws_realm.specs.Seen.{SeenRealm, oldest}
use Rattle.ws_value.specs.declared.memory.NoMemory.{NoMemory as NoMemoryError}
use Rattle.ws_realm.specs.declared.realm.Why.{Why}
use Rattle.ws_realm.specs.declared.realm.Why.TheVariants.{NoMemory, Spent}
use Rattle.ws_node.specs.declared.node.Input.{Input}
use Rattle.ws_node.specs.declared.node.Input.TheVariants.{Open as InputOpen, Ended, Failed as InputFailed, TooLong, Edge as InputEdge, Broken}
use Rattle.ws_flow.specs.Parts.{Over}
use Rattle.ws_node.specs.declared.node.Abort.{Abort}
use Rattle.ws_node.specs.declared.node.Exit.{Exit}
use Rattle.ws_node.specs.declared.node.Node.{Node}
use Rattle.ws_node.specs.declared.node.Output.{Output}
use Rattle.ws_node.specs.declared.node.Output.TheVariants.{Open, Finished, Failed as OutputFailed, Aborted, Edge}
use Rattle.ws_node.specs.Host.{GivesPiece}
use Rattle.ws_chain_laws.specs.Chain.{source_of}
use Rattle.ws_node.specs.Node.{stage_of, is_reached}

-- a node whose realm is so
abbrev pub with_realm : SeenRealm → Node → Node
with_realm realm n = record n { core = record n.core { realm = realm } }

abbrev pub stopped_by : Why → Node → Node
stopped_by why n = record n { core = record n.core { stopped = Some why } }

-- why a realm stops: it had stopped for that before; or now memory was wanting, or it is spent
pub data Stops (why : Why) (a : Node) : Type 0 where
  Before : a.core.stopped ≡ Some why → Stops why a
  Wanting : a.core.stopped ≡ None → why ≡ NoMemory → Stops why a
  IsSpent : a.core.stopped ≡ None → why ≡ Spent → a.core.realm.slots.age ≡ oldest → Stops why a

-- a realm that could still grow older isn't older than any may be
abbrev pub IsYoung : ℕ → ℕ → Type 0
IsYoung before now = before ≤ oldest → now ≤ oldest

-- a call was performed; or it wasn't, since the realm has stopped
pub data Asks (c : Call) (a b : Node) : Type 0 where
  Performed : (realm : SeenRealm) → realm.slots ≡ after_call c a.core.realm.slots → IsYoung a.core.realm.slots.age realm.slots.age → a.core.stopped ≡ None
      → b ≡ with_realm realm a → Asks c a b
  Refused : (why : Why) → Stops why a → b ≡ stopped_by why a → Asks c a b

-- it was performed, and answered Done
pub record IsDoneBy (c : Call) (a b : Node) : Type 0 where
  pub going : a.core.stopped ≡ None
  pub done : reply_to c a.core.realm.slots ≡ Done
  pub goes_on : b.core.stopped ≡ None

-- some jobs were performed, one after another, and then the realm may have stopped
pub record Works (a b : Node) : Type 0 where
  pub jobs : ℕ
  pub realm : SeenRealm
  pub stopped : Option Why
  pub slots : realm.slots ≡ run (jobs_in_a_row jobs) a.core.realm.slots
  pub young : IsYoung a.core.realm.slots.age realm.slots.age
  pub is : b ≡ record a { core = record a.core { realm = realm; stopped = stopped } }
  -- a realm that has stopped doesn't go on
  pub stays : (why : Why) → a.core.stopped ≡ Some why → b ≡ a
  pub spent : a.core.stopped ≡ None → stopped ≡ Some Spent → realm.slots.age ≡ oldest

-- a piece that was read is counted, and waits to be written
abbrev pub with_piece : List ℕ → Input → Node → Node
with_piece piece input n = record n { entrance = record n.entrance { taken = n.entrance.taken + length piece; ahead = length piece; input = input } }

abbrev pub takes_bytes : List ℕ → Node → Node → Bool → Type 0
takes_bytes piece a b true = Asks (Fail a.entrance.source (FaultReason TooMuch)) (with_piece piece TooLong a) b
takes_bytes piece a b false = Asks (Enqueue a.entrance.source (Bytes piece)) (with_piece piece a.entrance.input a) b

abbrev pub takes_chunk : List ℕ → Node → Node → Type 0
takes_chunk [] a b = Asks (Finish a.entrance.source) (record a { entrance = record a.entrance { input = Ended } }) b
takes_chunk (x ∷ xs) a b = takes_bytes (x ∷ xs) a b (nat_lt a.entrance.most (a.entrance.taken + length (x ∷ xs)))

-- what a read gave is handed to the source: an end, bytes, or a failure
abbrev pub Takes : Result (List ℕ) Failed → Node → Node → Type 0
Takes (Ok piece) a b = takes_chunk piece a b
Takes (Err failed) a b = Asks (Fail a.entrance.source (FaultReason Read)) (record a { entrance = record a.entrance { input = InputFailed } }) b

-- what the output shows at one moment
pub record Shown : Type 0 where
  pub faults : ℕ
  pub finished : Option Bool

abbrev pub is_readable : Input → Bool
is_readable InputOpen = true
is_readable Ended = false
is_readable InputFailed = false
is_readable TooLong = false
is_readable InputEdge = false
is_readable (Broken reason) = false

abbrev pub is_writable : Output → Bool
is_writable Open = true
is_writable Finished = false
is_writable OutputFailed = false
is_writable Aborted = false
is_writable Edge = false

-- an output that failed; one that wasn't open stays as it is
abbrev pub shut : Output → Output
shut Open = OutputFailed
shut Finished = Finished
shut OutputFailed = OutputFailed
shut Aborted = Aborted
shut Edge = Edge

-- how what is asked of an output fails, once it isn't open
abbrev pub fault_of : Output → Fault
fault_of Open = WriteFault
fault_of Finished = WriteFault
fault_of OutputFailed = WriteFault
fault_of Aborted = AbortFault
fault_of Edge = WriteFault

-- whether a stream is the one that feeds the output. A node that feeds an edge has none
abbrev pub sink_by : Output → Bool → Bool
sink_by Edge same = false
sink_by o same = same

abbrev pub is_sink : Exit → StreamId → Bool
is_sink exit stream = sink_by exit.output (is_same exit.sink stream)

abbrev pub settles : HostId → Call
settles id = Settle id AnswerOk

abbrev pub fails : HostId → Fault → Call
fails id fault = Settle id (AnswerFail (FaultReason fault))

-- what was asked of the output has failed, and the host says so
abbrev pub Fails : HostId → Node → Node → Type 0
Fails id a b = Asks (fails id (fault_of (shut a.exit.output))) (record a { exit = record a.exit { output = shut a.exit.output } }) b

-- So many bytes were written, and of those before the abort as many fewer are left. Where none is, its signal is triggered

abbrev pub nearer : ℕ → Abort → Abort
nearer count abort = record abort { left = abort.left - count }

abbrev pub triggers : Abort → Call
triggers abort = Trigger abort.signal (FaultReason AbortFault)

abbrev pub draws_near : Abort → ℕ → Node → Node → Type 0
draws_near abort zero a b = Asks (triggers abort) (record a { exit = record a.exit { abort = Some abort } }) b
draws_near abort (suc left) a b = b ≡ record a { exit = record a.exit { abort = Some abort } }

abbrev pub draws_by : ℕ → Option Abort → Node → Node → Type 0
draws_by count None a b = b ≡ a
draws_by count (Some abort) a b = draws_near (nearer count abort) (abort.left - count) a b

abbrev pub DrawsNear : ℕ → Node → Node → Type 0
DrawsNear count a b = draws_by count a.exit.abort a b

-- without stages, bytes that are written were had by the output
abbrev pub had_by : List State → ℕ → ℕ → ℕ
had_by [] count ahead = ahead - count
had_by (w ∷ ws) count ahead = ahead

abbrev pub written : ℕ → Node → Node
written count n = record n { entrance = record n.entrance { ahead = had_by n.core.stages.items count n.entrance.ahead } }

-- nothing was written, since the output takes no more
pub record Untouched (old new : Shown) (got got' : Got) : Type 0 where
  pub shown : new ≡ old
  pub gained : Gains got got' []

-- A chunk was asked to be written: all of it was; or a first part, and then a write failed; or the output takes no more, since it was finished or
-- has failed, or has all bytes before the abort
pub data Writes (id : HostId) (piece : List ℕ) (a b : Node) (old new : Shown) (got got' : Got) : Type 0 where
  WroteAll : a.exit.output ≡ Open → is_reached a.exit.abort ≡ false → Gains got got' piece → new.faults ≡ old.faults → KeepsTold old.finished new.finished
      → (c : Node) → DrawsNear (length piece) (written (length piece) a) c → Asks (settles id) c b → Writes id piece a b old new got got'
  WroteLess : a.exit.output ≡ Open → is_reached a.exit.abort ≡ false → (gain rest : List ℕ) → piece ≡ gain ++ rest → Gains got got' gain → Rose old.faults new.faults
      → KeepsTold old.finished new.finished → Fails id a b → Writes id piece a b old new got got'
  WroteNone : a.exit.output ≢ Open → Untouched old new got got' → Fails id a b → Writes id piece a b old new got got'
  Reached : a.exit.output ≡ Open → is_reached a.exit.abort ≡ true → Untouched old new got got' → Fails id (record a { exit = record a.exit { output = Aborted } }) b
      → Writes id piece a b old new got got'

-- the output was asked to be finished: it was; or that failed; or it takes no more
pub data Finishes (id : HostId) (a b : Node) (old new : Shown) (got got' : Got) : Type 0 where
  FinishedWell : a.exit.output ≡ Open → Gains got got' [] → IsEmptied got' → new.faults ≡ old.faults → Becomes old.finished new.finished
      → Asks (settles id) (record a { exit = record a.exit { output = Finished } }) b → Finishes id a b old new got got'
  FinishedBadly : a.exit.output ≡ Open → Gains got got' [] → Rose old.faults new.faults → KeepsTold old.finished new.finished
      → Fails id a b → Finishes id a b old new got got'
  FinishedNot : a.exit.output ≢ Open → Untouched old new got got' → Fails id a b → Finishes id a b old new got got'

-- What an output holds back is to be written: nothing is done, since the realm has stopped, the output takes no more, or no read of the input
-- would wait with it; or all of it was written; or that failed, and then the output takes no more
pub data Empties (a b : Node) (old new : Shown) (got got' : Got) : Type 0 where
  LeftHeld : b ≡ a → Untouched old new got got' → Empties a b old new got got'
  WroteHeld : a.core.stopped ≡ None → a.exit.output ≡ Open → b ≡ a → Gains got got' [] → IsEmptied got' → new.faults ≡ old.faults → KeepsTold old.finished new.finished
      → Empties a b old new got got'
  NotWritten : a.core.stopped ≡ None → a.exit.output ≡ Open → b ≡ record a { exit = record a.exit { output = OutputFailed } } → Gains got got' [] → Rose old.faults new.faults
      → KeepsTold old.finished new.finished → Empties a b old new got got'

-- What is asked of the host and how it is answered

-- the stage in a list whose transform stream has this readable half, with those before it and behind it
pub record IsAt (i : StreamId) (stages before : List State) (w : State) (after : List State) : Type 0 where
  pub whole : stages ≡ before ++ w ∷ after
  pub place : i ≡ source_of (suc (length before))

-- a chunk may be pushed: fewer than 2^62 were, and it isn't too long for `frame`
pub record CanPush (piece : List ℕ) (w : State) : Type 0 where
  pub count : w.pushes < 2 ^ 62
  pub length_fits : HasLength w.stage (length piece)

-- a chunk that a stage takes can be pushed
abbrev pub MayAnswer : Node → HostCall → Type 0
MayAnswer n call =
    (i : StreamId) (piece : List ℕ) → call ≡ HostTransform i (Bytes piece) → (before after : List State) (w : State)
    → IsAt i n.core.stages.items before w after → IsLive w.work → CanPush piece w

-- a pull waits until it may be answered; the sink's chunks are written, and its close finishes the output; all else is settled at once
abbrev pub Settles : HostId → Node → Node → Shown → Shown → Got → Got → Type 0
Settles id a b old new got got' = Asks (settles id) a b × Untouched old new got got'

abbrev pub writes_by : HostId → Value → Node → Node → Shown → Shown → Got → Got → Bool → Type 0
writes_by id (Bytes piece) a b old new got got' true = Writes id piece a b old new got got'
writes_by id v a b old new got got' _ = Settles id a b old new got got'

abbrev pub finishes_by : HostId → Node → Node → Shown → Shown → Got → Got → Bool → Type 0
finishes_by id a b old new got got' true = Finishes id a b old new got got'
finishes_by id a b old new got got' false = Settles id a b old new got got'

-- What comes out of a stage is enqueued behind it, chunk by chunk, until one isn't taken

abbrev pub enqueues : StreamId → List ℕ → Call
enqueues i piece = Enqueue i (Bytes piece)

pub data Enqueues (i : StreamId) : List (List ℕ) → Node → Node → Type 0 where
  NoPiece : (a : Node) → Enqueues i [] a a
  -- the rest is dropped
  NotTaken : (piece : List ℕ) (rest : List (List ℕ)) (a b : Node) → Asks (enqueues i piece) a b → (IsDoneBy (enqueues i piece) a b → ⊥)
      → Enqueues i (piece ∷ rest) a b
  OneTaken : (piece : List ℕ) (rest : List (List ℕ)) (a b c : Node) → Asks (enqueues i piece) a c → IsDoneBy (enqueues i piece) a c → Enqueues i rest c b
      → Enqueues i (piece ∷ rest) a b

-- and what was asked of it ends as it did
abbrev pub settles_by : ℕ → HostId → StreamId → Ending → Call
settles_by first id i Fine = settles id
settles_by first id i (Bad code place) = fails id (StageFault (first + stage_of i) code place)

pub record PutsAll (id : HostId) (i : StreamId) (p : Pushed) (a b : Node) : Type 0 where
  pub between : Node
  pub enqueued : Enqueues i p.chunks.items a between
  pub ended : Asks (settles_by a.core.first id i p.ending) between b

abbrev pub PutsOut : HostId → StreamId → Result Pushed NoMemoryError → Node → Node → Type 0
PutsOut id i (Ok p) a b = PutsAll id i p a b
PutsOut id i (Err e) a b = b ≡ stopped_by NoMemory a

-- only the states of its stages changed
pub record HasStages (stages : List State) (a b : Node) : Type 0 where
  pub is : b ≡ record a { core = record a.core { stages = b.core.stages } }
  pub items : b.core.stages.items ≡ stages

-- where none stands before it, a stage has had a chunk of so many bytes
abbrev pub had_behind : List State → ℕ → Node → Node
had_behind [] count n = record n { entrance = record n.entrance { ahead = n.entrance.ahead - count } }
had_behind (w ∷ ws) count n = n

-- no stage has this readable half
abbrev pub NoneThere : StreamId → List State → Type 0
NoneThere i ws = (before after : List State) (w : State) → IsAt i ws before w after → ⊥

-- A chunk came to a stage: it is pushed, and what comes out is put out; or memory was wanting; or the stage is over,
-- or no stage is there, and then nothing is answered
pub data Transforms (id : HostId) (i : StreamId) (piece : List ℕ) (a b : Node) : Type 0 where
  PushedOne : (before after : List State) (w v : State) (p : Pushed) → IsAt i a.core.stages.items before w after → IsLive w.work
      → StageAnswers p v.work ((machine w.stage).push (kept_in w.work) piece) → v.stage ≡ w.stage → v.pushes ≡ w.pushes + 1
      → (c : Node) → HasStages (before ++ v ∷ after) (had_behind before (length piece) a) c → PutsAll id i p c b → Transforms id i piece a b
  NoRoomToPush : (before after : List State) (w v : State) → IsAt i a.core.stages.items before w after → IsLive w.work → v.stage ≡ w.stage → v.work ≡ Over Fine
      → (c : Node) → HasStages (before ++ v ∷ after) (had_behind before (length piece) a) c → b ≡ stopped_by NoMemory c → Transforms id i piece a b
  NotPushed : (before after : List State) (w : State) → IsAt i a.core.stages.items before w after → (IsLive w.work → ⊥) → b ≡ a → Transforms id i piece a b
  NothingToPush : NoneThere i a.core.stages.items → b ≡ a → Transforms id i piece a b

abbrev pub transforms_by : HostId → StreamId → Value → Node → Node → Type 0
transforms_by id i (Bytes piece) a b = Transforms id i piece a b
transforms_by id i (PlainValue v) a b = Asks (settles id) a b

-- the input of a stage has ended: so with what the end adds; and where the stage is over, or no stage is there, nothing is answered
pub data Flushes (id : HostId) (i : StreamId) (a b : Node) : Type 0 where
  FlushedOne : (before after : List State) (w v : State) (p : Pushed) → IsAt i a.core.stages.items before w after → IsLive w.work
      → Flushed p v.work ((machine w.stage).flush (kept_in w.work)) → v.stage ≡ w.stage → v.pushes ≡ w.pushes
      → (c : Node) → HasStages (before ++ v ∷ after) a c → PutsAll id i p c b → Flushes id i a b
  NoRoomToFlush : (before after : List State) (w v : State) → IsAt i a.core.stages.items before w after → IsLive w.work → v.stage ≡ w.stage → v.work ≡ Over Fine
      → (c : Node) → HasStages (before ++ v ∷ after) a c → b ≡ stopped_by NoMemory c → Flushes id i a b
  NotFlushed : (before after : List State) (w : State) → IsAt i a.core.stages.items before w after → (IsLive w.work → ⊥) → b ≡ a → Flushes id i a b
  NothingToFlush : NoneThere i a.core.stages.items → b ≡ a → Flushes id i a b

abbrev pub Answers : HostId → HostCall → Node → Node → Shown → Shown → Got → Got → Type 0
Answers id (HostPull i) a b old new got got' = (b ≡ record a { entrance = record a.entrance { asked = Some id } }) × Untouched old new got got'
Answers id (HostWrite i v) a b old new got got' = writes_by id v a b old new got got' (is_sink a.exit i)
Answers id (HostClose i) a b old new got got' = finishes_by id a b old new got got' (is_sink a.exit i)
Answers id (HostTransform i v) a b old new got got' = transforms_by id i v a b × Untouched old new got got'
Answers id (HostFlush i) a b old new got got' = Flushes id i a b × Untouched old new got got'
Answers id _ a b old new got got' = Settles id a b old new got got'

-- why the input isn't read: the realm has stopped, or what was read before wasn't had, or an error came up, or the input isn't open, or no pull waits
pub data NeedsNoRead (a : Node) : Type 0 where
  IsStopped : (why : Why) → a.core.stopped ≡ Some why → NeedsNoRead a
  IsAhead : 0 < a.entrance.ahead → NeedsNoRead a
  IsBroken : a.exit.broken ≡ true → NeedsNoRead a
  IsShut : a.entrance.input ≢ InputOpen → NeedsNoRead a
  IsUnasked : a.entrance.asked ≡ None → NeedsNoRead a

-- the input wasn't read
pub record Unread (old new : Option Feed) (before now : ℕ) : Type 0 where
  pub feed : new ≡ old
  pub calm : now ≡ before

-- it isn't read; or there was no memory for a read; or it is read once, and what it gave is handed to the source
pub data Reads (a b : Node) (old new : Option Feed) (before now : ℕ) : Type 0 where
  ReadNot : NeedsNoRead a → b ≡ a → Unread old new before now → Reads a b old new before now
  Wanted : a.core.stopped ≡ None → Unread old new before now → (id : HostId) → a.entrance.asked ≡ Some id
      → b ≡ record a { core = record a.core { stopped = Some NoMemory }; entrance = record a.entrance { asked = None } } → Reads a b old new before now
  ReadOnce : a.core.stopped ≡ None → a.entrance.ahead ≡ 0 → a.exit.broken ≡ false → a.entrance.input ≡ InputOpen → (id : HostId) → a.entrance.asked ≡ Some id
      → (want : ℕ) → want ≤ 4096 → want ≤ (a.entrance.most - a.entrance.taken) + 1 → (piece : Result (List ℕ) Failed) → GivesPiece old new before now want piece
      → (c : Node) → Takes piece (record a { entrance = record a.entrance { asked = None } }) c → Asks (settles id) c b → Reads a b old new before now

-- a piece that may be taken is counted in a number of 64 bits
abbrev pub MayTake : Node → Result (List ℕ) Failed → Type 0
MayTake n (Ok piece) = n.entrance.taken + length piece < 2 ^ 64
MayTake n (Err failed) = Unit {0}
