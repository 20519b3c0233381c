-- What an operation of a port tells of are posts of its own.
use Rattle.std.proofs.Common.{Bool, true, false, Option, Some, None, Result}
use Rattle.ws_value.specs.declared.ids.PortId.{PortId}
use Rattle.ws_value.specs.declared.ids.PromiseId.{PromiseId}
use Rattle.ws_value.specs.declared.value.Message.{Message}
use Rattle.ws_value.specs.declared.value.Message.TheVariants.{Pull as PullMessage, Chunk as ChunkMessage, Close as CloseMessage, Error as ErrorMessage}
use Rattle.ws_value.specs.declared.value.Plain.{Plain}
use Rattle.ws_value.specs.Values.{is_cloneable}
use Rattle.ws_steps.specs.declared.calls.Event.TheVariants.{Post}
use Rattle.ws_steps.specs.declared.port.PortOperation.{PortOperation}
use Rattle.ws_steps.specs.declared.port.PortOperation.TheVariants as names
use Rattle.ws_steps.specs.declared.port.Side.{Side}
use Rattle.ws_steps.specs.declared.port.Side.TheVariants.{Readable as ReadableSide, Writable as WritableSide}
use Rattle.ws_steps.specs.Operations.{port_operation}
use Rattle.ws_steps.specs.Promises.{Table, fresh, settle, tell}
use Rattle.ws_steps.specs.Cross.{Acts, done, data_clone, posting, post, post_or_fail, pull, leave, close, write, hold_back, hand_on, go_on, write_goes_on, post_chunk, unblock_by, unblock, deliver_to, deliver}
use Rattle.ws_laws.proofs.Tables.{either}

-- this of each message that an operation may post
abbrev pub Allowed : (Message → Type 0) → PortOperation → Type 0
Allowed M names.Pull = M PullMessage
Allowed M (names.Leave r u) = (e : Plain) → M (ErrorMessage e)
Allowed M (names.Write u) = Unit {0}
Allowed M (names.WriteGoesOn d) = (e : Plain) → M (ErrorMessage e)
Allowed M (names.PostChunk v d) = M (ChunkMessage v)
Allowed M (names.Close u) = M CloseMessage
Allowed M (names.Deliver m) = Unit {0}
Allowed M names.Unblock = Unit {0}

-- what goes on with each new promise, with each settling and with each such post goes on with each operation of a port
pub record OfThis (T : Table → Type 0) (M : Message → Type 0) (me : PortId) : Type 0 where
  pub fresh : (t : Table) → T t → T (fresh t)
  pub settle : (t : Table) (p : PromiseId) (o : Result Plain Plain) → T t → T (settle p o t)
  pub post : (t : Table) (m : Message) → M m → T t → T (tell (Post me m) t)

module _ (T : Table → Type 0) (M : Message → Type 0) (me : PortId) (of : OfThis T M me) where
  abbrev Does : Acts → Acts → Type 0
  Does a b = T a.out.promises → T b.out.promises

  post-does : (m : Message) (a : Acts) → M m → Does a (post me m a)
  post-does m a k h = either (λ (z : Acts). T z.out.promises) a.slots.live (posting me m a) a (λ e. of.post a.out.promises m k h) (λ e. h)

  fail-does : (r : Plain) (a : Acts) (clones : Bool) → ((e : Plain) → M (ErrorMessage e)) → Does a (post_or_fail me (ErrorMessage r) a clones)
  fail-does r a true k h = post-does (ErrorMessage r) a (k r) h
  fail-does r a false k h = post-does (ErrorMessage data_clone) a (k data_clone) h

  hand-does : (d : PromiseId) (a : Acts) (clones : Bool) → ((e : Plain) → M (ErrorMessage e)) → Does a (hand_on me d a clones)
  hand-does d a true k h = h
  hand-does d a false k h = post-does (ErrorMessage data_clone) a (k data_clone) h

  go-does : (clones : Bool) (d : PromiseId) (a : Acts) (p : Option PromiseId) → ((e : Plain) → M (ErrorMessage e)) → Does a (go_on me clones d a p)
  go-does clones d a None k h = hand-does d (hold_back a) clones k (of.fresh a.out.promises h)
  go-does clones d a (Some p) k h = h

  unblock-does : (a : Acts) (p : Option PromiseId) → Does a (unblock_by a p)
  unblock-does a None h = h
  unblock-does a (Some p) h = of.settle a.out.promises p done h

  deliver-does : (m : Message) (a : Acts) (side : Side) → Does a (deliver_to me m a side)
  unfolding unblock
  deliver-does PullMessage a ReadableSide h = h
  deliver-does (ChunkMessage v) a ReadableSide h = h
  deliver-does CloseMessage a ReadableSide h = h
  deliver-does (ErrorMessage r) a ReadableSide h = h
  deliver-does PullMessage a WritableSide h = unblock-does a a.slots.backpressure h
  deliver-does (ChunkMessage v) a WritableSide h = h
  deliver-does CloseMessage a WritableSide h = h
  deliver-does (ErrorMessage r) a WritableSide h = h

  pub this-does : (clones : Bool) (operation : PortOperation) (a : Acts) → Allowed M operation → Does a (port_operation me clones operation a)
  unfolding pull leave close write write_goes_on post_chunk unblock deliver
  this-does clones names.Pull a k h = post-does PullMessage a k h
  this-does clones (names.Leave r u) a k h = fail-does r a (is_cloneable r) k h
  this-does clones (names.Write u) a k h = of.fresh a.out.promises h
  this-does clones (names.WriteGoesOn d) a k h = go-does clones d a a.slots.backpressure k h
  this-does clones (names.PostChunk v d) a k h = post-does (ChunkMessage v) a k h
  this-does clones (names.Close u) a k h = post-does CloseMessage a k h
  this-does clones (names.Deliver m) a k h =
      either (λ (z : Acts). T z.out.promises) a.slots.live (deliver_to me m a a.slots.side) a (λ e. deliver-does m a a.slots.side h) (λ e. h)
  this-does clones names.Unblock a k h = unblock-does a a.slots.backpressure h
