-- What an operation of a port does outside its record: it makes promises, settles the backpressure promise, tells of a post, and causes
-- operations of its stream and one of its own, and what is done with promises.
use Rattle.std.proofs.Common.{◌≡◌, Bool, true, false, [], ◌∷◌, Option, Some, None, Result, refl, arith}
use Rattle.ws_value.specs.declared.ids.PortId.{PortId}
use Rattle.ws_value.specs.declared.ids.PromiseId.{PromiseId}
use Rattle.ws_value.specs.declared.ids.StreamId.{StreamId}
use Rattle.ws_value.specs.declared.value.Message.{Message}
use Rattle.ws_value.specs.declared.value.Message.TheVariants.{Pull as PullMessage, Chunk as ChunkMessage, Close as CloseMessage, Error as ErrorMessage}
use Rattle.ws_value.specs.declared.value.Plain.{Plain}
use Rattle.ws_value.specs.Values.{is_cloneable}
use Rattle.ws_steps.specs.declared.calls.Event.TheVariants.{Post}
use Rattle.ws_steps.specs.declared.effects.Effect.{Effect}
use Rattle.ws_steps.specs.declared.effects.Effect.TheVariants.{Readable, Writable, Port, Give}
use Rattle.ws_steps.specs.declared.effects.Gift.TheVariants.{Fresh}
use Rattle.ws_steps.specs.declared.effects.Use.{Use}
use Rattle.ws_steps.specs.declared.effects.Use.TheVariants.{Resolve}
use Rattle.ws_steps.specs.declared.port.PortOperation.{PortOperation}
use Rattle.ws_steps.specs.declared.port.PortOperation.TheVariants as names
use Rattle.ws_steps.specs.declared.port.Side.{Side}
use Rattle.ws_steps.specs.declared.port.Side.TheVariants.{Readable as ReadableSide, Writable as WritableSide}
use Rattle.ws_steps.specs.declared.readable.ReadableOperation.TheVariants.{Enqueue, Close, Error}
use Rattle.ws_steps.specs.declared.transform.Taker.TheVariants.{ToPort}
use Rattle.ws_steps.specs.declared.writable.WritableOperation.TheVariants.{ErrorIfNeeded, HandOn}
use Rattle.ws_steps.specs.Operations.{port_operation}
use Rattle.ws_steps.specs.Promises.{Table, fresh, settle, tell}
use Rattle.ws_steps.specs.Cross.{Acts, causing, done, data_clone, posting, post, post_or_fail, pull, leave, close, wait_for, write, hold_back, hand_on, go_on, write_goes_on, post_chunk, unblock_by, unblock, deliver_to, deliver}
use Rattle.ws_laws.proofs.Lists.{Each, each-append}
use Rattle.ws_laws.proofs.Tables.{either}

-- what a port with this stream may cause
abbrev pub PortCauses : PortId → StreamId → Effect → Type 0
PortCauses me stream (Readable i (Enqueue v)) = i ≡ stream
PortCauses me stream (Readable i Close) = i ≡ stream
PortCauses me stream (Readable i (Error e)) = i ≡ stream
PortCauses me stream (Readable i operation) = ⊥
PortCauses me stream (Writable i (ErrorIfNeeded e)) = i ≡ stream
PortCauses me stream (Writable i (HandOn (ToPort c d))) = (i ≡ stream) × (c ≡ me)
PortCauses me stream (Writable i operation) = ⊥
PortCauses me stream (Port c names.Unblock) = c ≡ me
PortCauses me stream (Port c operation) = ⊥
PortCauses me stream (Give gift u) = Unit {0}
PortCauses me stream _ = ⊥

module _ (me : PortId) where
  -- the effects after an operation are such, and the side and the stream are the same
  abbrev pub Causes : Acts → Acts → Type 0
  Causes a b =
      Each (PortCauses me a.slots.stream) a.out.effects
      → (b.slots.side ≡ a.slots.side) × ((b.slots.stream ≡ a.slots.stream) × Each (PortCauses me a.slots.stream) b.out.effects)

  post-causes : (m : Message) (a : Acts) → Causes a (post me m a)
  post-causes m a = either (Causes a) a.slots.live (posting me m a) a (λ e h. (refl, (refl, h))) (λ e h. (refl, (refl, h)))

  fail-causes : (m : Message) (a : Acts) (clones : Bool) → Causes a (post_or_fail me m a clones)
  fail-causes m a true = post-causes m a
  fail-causes m a false = post-causes (ErrorMessage data_clone) a

  leave-causes : (r : Plain) (u : Use) (a : Acts) → Causes a (leave me r u a)
  unfolding leave
  leave-causes r u a = let h = fail-causes (ErrorMessage r) a (is_cloneable r) in grind (arith, each-append, h)

  close-causes : (u : Use) (a : Acts) → Causes a (close me u a)
  unfolding close
  close-causes u a = let h = post-causes CloseMessage a in grind (arith, each-append, h)

  wait-causes : (p : Option PromiseId) (d : PromiseId) (stream : StreamId) → PortCauses me stream (wait_for p me d)
  wait-causes None d stream = tt
  wait-causes (Some p) d stream = tt

  write-causes : (u : Use) (a : Acts) → Causes a (write me u a)
  unfolding write
  write-causes u a = grind (arith, each-append, wait-causes)

  hand-causes : (d : PromiseId) (a : Acts) (clones : Bool) → Causes a (hand_on me d a clones)
  hand-causes d a true = grind (arith, each-append)
  hand-causes d a false = let h = post-causes (ErrorMessage data_clone) a in grind (arith, each-append, h)

  go-causes : (clones : Bool) (d : PromiseId) (a : Acts) (p : Option PromiseId) → Causes a (go_on me clones d a p)
  go-causes clones d a None = let h = hand-causes d (hold_back a) clones in grind (arith, h)
  go-causes clones d a (Some p) = grind (arith, each-append)

  chunk-causes : (m : Message) (d : PromiseId) (a : Acts) → Causes a (causing (Give (Fresh done) (Resolve d) ∷ []) (post me m a))
  chunk-causes m d a = let h = post-causes m a in grind (arith, each-append, h)

  unblock-causes : (a : Acts) (p : Option PromiseId) → Causes a (unblock_by a p)
  unblock-causes a None = λ h. (refl, (refl, h))
  unblock-causes a (Some p) = λ h. (refl, (refl, h))

  deliver_to-causes : (m : Message) (a : Acts) (side : Side) → Causes a (deliver_to me m a side)
  unfolding unblock
  deliver_to-causes PullMessage a ReadableSide = λ h. (refl, (refl, h))
  deliver_to-causes (ChunkMessage v) a ReadableSide = grind (arith, each-append)
  deliver_to-causes CloseMessage a ReadableSide = grind (arith, each-append)
  deliver_to-causes (ErrorMessage r) a ReadableSide = grind (arith, each-append)
  deliver_to-causes PullMessage a WritableSide = unblock-causes a a.slots.backpressure
  deliver_to-causes (ChunkMessage v) a WritableSide = λ h. (refl, (refl, h))
  deliver_to-causes CloseMessage a WritableSide = λ h. (refl, (refl, h))
  deliver_to-causes (ErrorMessage r) a WritableSide = grind (arith, each-append)

  pub port-causes : (clones : Bool) (operation : PortOperation) (a : Acts) → Causes a (port_operation me clones operation a)
  unfolding pull write_goes_on post_chunk unblock deliver
  port-causes clones names.Pull a = post-causes PullMessage a
  port-causes clones (names.Leave r u) a = leave-causes r u a
  port-causes clones (names.Write u) a = write-causes u a
  port-causes clones (names.WriteGoesOn d) a = go-causes clones d a a.slots.backpressure
  port-causes clones (names.PostChunk v d) a = chunk-causes (ChunkMessage v) d a
  port-causes clones (names.Close u) a = close-causes u a
  port-causes clones (names.Deliver m) a =
      either (Causes a) a.slots.live (deliver_to me m a a.slots.side) a (λ e. deliver_to-causes m a a.slots.side) (λ e h. (refl, (refl, h)))
  port-causes clones names.Unblock a = unblock-causes a a.slots.backpressure

-- what goes on with each new promise, with each settling and with each post goes on with each operation
pub record OfPort (T : Table → Type 0) : Type 0 where
  pub fresh : (t : Table) → T t → T (fresh t)
  pub settle : (t : Table) (p : PromiseId) (o : Result Plain Plain) → T t → T (settle p o t)
  pub post : (t : Table) (c : PortId) (m : Message) → T t → T (tell (Post c m) t)

module _ (T : Table → Type 0) (of : OfPort T) where
  abbrev Does : Acts → Acts → Type 0
  Does a b = T a.out.promises → T b.out.promises

  post-does : (me : PortId) (m : Message) (a : Acts) → Does a (post me m a)
  post-does me m a h = either (λ (z : Acts). T z.out.promises) a.slots.live (posting me m a) a (λ e. of.post a.out.promises me m h) (λ e. h)

  fail-does : (me : PortId) (m : Message) (a : Acts) (clones : Bool) → Does a (post_or_fail me m a clones)
  fail-does me m a true h = post-does me m a h
  fail-does me m a false h = post-does me (ErrorMessage data_clone) a h

  hand-does : (me : PortId) (d : PromiseId) (a : Acts) (clones : Bool) → Does a (hand_on me d a clones)
  hand-does me d a true h = h
  hand-does me d a false h = post-does me (ErrorMessage data_clone) a h

  go-does : (me : PortId) (clones : Bool) (d : PromiseId) (a : Acts) (p : Option PromiseId) → Does a (go_on me clones d a p)
  go-does me clones d a None h = hand-does me d (hold_back a) clones (of.fresh a.out.promises h)
  go-does me clones d a (Some p) h = h

  unblock-does : (a : Acts) (p : Option PromiseId) → Does a (unblock_by a p)
  unblock-does a None h = h
  unblock-does a (Some p) h = of.settle a.out.promises p done h

  deliver-does : (me : PortId) (m : Message) (a : Acts) (side : Side) → Does a (deliver_to me m a side)
  unfolding unblock
  deliver-does me PullMessage a ReadableSide h = h
  deliver-does me (ChunkMessage v) a ReadableSide h = h
  deliver-does me CloseMessage a ReadableSide h = h
  deliver-does me (ErrorMessage r) a ReadableSide h = h
  deliver-does me PullMessage a WritableSide h = unblock-does a a.slots.backpressure h
  deliver-does me (ChunkMessage v) a WritableSide h = h
  deliver-does me CloseMessage a WritableSide h = h
  deliver-does me (ErrorMessage r) a WritableSide h = h

  pub port-does : (me : PortId) (clones : Bool) (operation : PortOperation) (a : Acts) → Does a (port_operation me clones operation a)
  unfolding pull leave close write write_goes_on post_chunk unblock deliver
  port-does me clones names.Pull a h = post-does me PullMessage a h
  port-does me clones (names.Leave r u) a h = fail-does me (ErrorMessage r) a (is_cloneable r) h
  port-does me clones (names.Write u) a h = of.fresh a.out.promises h
  port-does me clones (names.WriteGoesOn d) a h = go-does me clones d a a.slots.backpressure h
  port-does me clones (names.PostChunk v d) a h = post-does me (ChunkMessage v) a h
  port-does me clones (names.Close u) a h = post-does me CloseMessage a h
  port-does me clones (names.Deliver m) a h =
      either (λ (z : Acts). T z.out.promises) a.slots.live (deliver_to me m a a.slots.side) a (λ e. deliver-does me m a a.slots.side h) (λ e. h)
  port-does me clones names.Unblock a h = unblock-does a a.slots.backpressure h
