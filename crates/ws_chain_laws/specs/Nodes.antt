-- What a node of a pipeline does as the host of a chain: it settles the calls of its algorithms, enqueues into the streams that give chunks,
-- finishes or fails the source, terminates or fails transform streams, triggers signals, and delivers messages to ports. And what it hears of the
-- chain.
use Rattle.std.specs.Prelude.{ℕ, suc, ◌≤◌, ◌≡◌, nat_eq, true, false, if◌then◌else◌, [], ◌∷◌}
use Rattle.ws_value.specs.declared.ids.HostId.{HostId}
use Rattle.ws_value.specs.declared.ids.PortId.{PortId}
use Rattle.ws_value.specs.declared.ids.PromiseId.{PromiseId}
use Rattle.ws_value.specs.declared.ids.SignalId.{SignalId}
use Rattle.ws_value.specs.declared.ids.StreamId.{StreamId}
use Rattle.ws_value.specs.declared.value.Message.{Message}
use Rattle.ws_value.specs.declared.value.Plain.{Plain}
use Rattle.ws_value.specs.declared.value.Value.{Value}
use Rattle.ws_steps.specs.declared.calls.Answer.{Answer}
use Rattle.ws_steps.specs.declared.calls.Call.TheVariants.{Enqueue, Finish, Fail, Terminate, Trigger, Deliver, Settle}
use Rattle.ws_steps.specs.declared.calls.Event.TheVariants.{Host as HostCalled, Settled, Signal as Signalled, Post}
use Rattle.ws_steps.specs.declared.calls.HostCall.TheVariants.{Start, Pull, Cancel, Write, Close, Abort, Transform, Flush, CancelTransform}
use Rattle.ws_flow.specs.Told.{Open, Closed, Told, told}
use Rattle.ws_link_laws.specs.Link.{silence, lets_in, is_end, delivered, is_port, heard_post}
use Rattle.ws_chain_laws.specs.Chain.{Origin, FromChunks, FromBytes, FromPort, Target, ToSink, ToPort, first_giver, last_ear, giver, source_of, dest_of, call_enters, heard_at, LeavesChain}

-- all of these leave each link alone
pub record LeaveChain (n : ℕ) : Type 0 where
  pub settle : (h : HostId) (answer : Answer) → LeavesChain n (Settle h answer)
  pub enqueue : (i : StreamId) (v : Value) → LeavesChain n (Enqueue i v)
  pub finish : (i : StreamId) → LeavesChain n (Finish i)
  pub terminate : (i : StreamId) → LeavesChain n (Terminate i)
  pub fail : (m : ℕ) (reason : Plain) → LeavesChain n (Fail (source_of m) reason)
  pub trigger : (a : SignalId) (reason : Plain) → LeavesChain n (Trigger a reason)
  pub deliver : (c : PortId) (m : Message) → LeavesChain n (Deliver c m)

abbrev pub EachNodesCallLeaves : Type 0
EachNodesCallLeaves = (n : ℕ) → LeaveChain n

-- what one link is told, of all of them
abbrev pub only_at : ℕ → Told Value → ℕ → Told Value
only_at m t k = if nat_eq k m then t else silence

-- the end of a source of the host's own
abbrev pub finishes : Origin → Told Value
finishes FromChunks = told [] Closed
finishes FromBytes = told [] Closed
finishes FromPort = silence

-- what they bring: the chunk that is enqueued, where the stream lets it in, the end of the source that is finished, and that of a transform
-- stream that is terminated; and what is delivered to the port of the source
pub record Bring (origin : Origin) (k : ℕ) : Type 0 where
  pub settle : (h : HostId) (answer : Answer) → call_enters origin k (Settle h answer) ≡ silence
  pub enqueue : (m : ℕ) (v : Value) → call_enters origin k (Enqueue (source_of m) v) ≡ only_at m (lets_in (giver origin m) v) k
  pub finish : call_enters origin k (Finish (source_of 0)) ≡ only_at 0 (finishes origin) k
  pub terminate : (m : ℕ) → call_enters origin k (Terminate (source_of (suc m))) ≡ only_at (suc m) (told [] Closed) k
  pub fail : (i : StreamId) (reason : Plain) → call_enters origin k (Fail i reason) ≡ silence
  pub trigger : (a : SignalId) (reason : Plain) → call_enters origin k (Trigger a reason) ≡ silence
  pub deliver : (c : PortId) (m : Message) → is_end (first_giver origin) c ≡ true → call_enters origin k (Deliver c m) ≡ only_at 0 (delivered m) k
  pub elsewhere : (c : PortId) (m : Message) → is_end (first_giver origin) c ≡ false → call_enters origin k (Deliver c m) ≡ silence

abbrev pub EachNodesCallBrings : Type 0
EachNodesCallBrings = (origin : Origin) (k : ℕ) → Bring origin k

-- what a sink of the host's own is told
abbrev pub by_sink : Target → Told Value → Told Value
by_sink ToSink t = t
by_sink ToPort t = silence

-- what the host hears: a write, or the close, of the sink, or what the port of the sink posts, and a chunk, or the flush, of one transform stream;
-- and nothing of other events
pub record Hears (origin : Origin) (target : Target) (n k : ℕ) : Type 0 where
  pub write : (id : HostId) (v : Value) → heard_at origin target n k (HostCalled id (Write (dest_of n) v)) ≡ only_at n (by_sink target (told (v ∷ []) Open)) k
  pub close : (id : HostId) → heard_at origin target n k (HostCalled id (Close (dest_of n))) ≡ only_at n (by_sink target (told [] Closed)) k
  pub transform : (id : HostId) (m : ℕ) (v : Value) → suc m ≤ n
      → heard_at origin target n k (HostCalled id (Transform (source_of (suc m)) v)) ≡ only_at m (told (v ∷ []) Open) k
  pub flush : (id : HostId) (m : ℕ) → suc m ≤ n → heard_at origin target n k (HostCalled id (Flush (source_of (suc m)))) ≡ only_at m (told [] Closed) k
  pub start : (id : HostId) (i : StreamId) → heard_at origin target n k (HostCalled id (Start i)) ≡ silence
  pub pull : (id : HostId) (i : StreamId) → heard_at origin target n k (HostCalled id (Pull i)) ≡ silence
  pub cancel : (id : HostId) (i : StreamId) (reason : Plain) → heard_at origin target n k (HostCalled id (Cancel i reason)) ≡ silence
  pub abort : (id : HostId) (i : StreamId) (reason : Plain) → heard_at origin target n k (HostCalled id (Abort i reason)) ≡ silence
  pub cancel_transform : (id : HostId) (i : StreamId) (reason : Plain) → heard_at origin target n k (HostCalled id (CancelTransform i reason)) ≡ silence
  pub settled : (p : PromiseId) → heard_at origin target n k (Settled p) ≡ silence
  pub signal : (i : StreamId) (reason : Plain) → heard_at origin target n k (Signalled i reason) ≡ silence
  pub post : (c : PortId) (m : Message) → is_port (last_ear origin target (dest_of n)) c ≡ true → heard_at origin target n k (Post c m) ≡ only_at n (heard_post m) k
  pub post_elsewhere : (c : PortId) (m : Message) → is_port (last_ear origin target (dest_of n)) c ≡ false → heard_at origin target n k (Post c m) ≡ silence

abbrev pub EachEventIsHeardAtOneLink : Type 0
EachEventIsHeardAtOneLink = (origin : Origin) (target : Target) (n k : ℕ) → k ≤ n → Hears origin target n k
