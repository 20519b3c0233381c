-- What holds of each beginning of a call holds of each call.
use Rattle.std.proofs.Common.{◌≡◌, ℕ, ◌+◌, List, [], ◌∷◌, ◌++◌, length, Bool, not, ◌&&◌, Option, Some, None, ◌||◌, if◌then◌else◌, nat_lt, true, false, refl, sym, ap}
use Rattle.ws_value.specs.declared.fault.Fault.{Fault}
use Rattle.ws_value.specs.declared.fault.Fault.TheVariants.{TypeError as TypeErrorFault}
use Rattle.ws_value.specs.declared.ids.HostId.{HostId}
use Rattle.ws_value.specs.declared.ids.LockId.{LockId}
use Rattle.ws_value.specs.declared.ids.PortId.{PortId}
use Rattle.ws_value.specs.declared.value.Message.{Message}
use Rattle.ws_value.specs.declared.ids.PromiseId.{PromiseId}
use Rattle.ws_value.specs.declared.ids.RequestId.{RequestId}
use Rattle.ws_value.specs.declared.ids.SignalId.{SignalId}
use Rattle.ws_value.specs.declared.ids.StreamId.{StreamId}
use Rattle.ws_value.specs.declared.value.Plain.{Plain}
use Rattle.ws_value.specs.declared.value.Value.{Value}
use Rattle.ws_value.specs.declared.value.Value.TheVariants.{Plain as PlainValue, Bytes}
use Rattle.ws_steps.specs.declared.byte.ByteOperation.TheVariants.{Enqueue as EnqueueBytes, MakeRequest, Respond as RespondBytes}
use Rattle.ws_steps.specs.declared.{calls.Answer.{Answer}, calls.Call.{Call}}
use Rattle.ws_steps.specs.declared.calls.Call.TheVariants.{MakeReadable, MakeBytes, MakeWritable, MakeTransform, GetReader, GetByob, GetWriter, Tee, Cancel, CancelBy, Read, ReadInto, Write, Close, CloseBy, Abort, AbortBy, Closed, Ready, Release, Enqueue, Finish, Fail, Terminate, Request, Respond, Desired, DesiredBy, Pipe, MakeSignal, Trigger, Send, Open, Deliver, Settle, State, Step}
use Rattle.ws_steps.specs.declared.{locks.Lock.{Lock}, locks.Lock.TheVariants.{Reader as ReaderLock, ByobReader, Writer as WriterLock, ReleasedWriter, Inner}, calls.Reply.{Reply}}
use Rattle.ws_steps.specs.declared.{calls.Reply.TheVariants.{Done as ReplyDone, Promise, Request as ReplyRequest, State as ReplyState, Throws, TooMany}, calls.StartBy.{StartBy}}
use Rattle.ws_steps.specs.declared.{calls.Thrown.TheVariants.{TypeError, DataClone, Unsupported}, effects.Effect.TheVariants.{Readable as OnReadable, Byte, Writable as OnWritable, Signal as OnSignal, Transform as OnTransform, Port as OnPort}, effects.Owner.{Owner}, effects.Owner.TheVariants.{Host, HalfOf, BranchOf, EndOf}, pipes.Prevent.{Prevent}, pipes.SignalOperation.TheVariants.{Trigger as TriggerSignal}}
use Rattle.ws_steps.specs.declared.port.PortOperation.TheVariants.{Deliver as DeliverMessage}
use Rattle.ws_steps.specs.declared.port.Side.{Side}
use Rattle.ws_steps.specs.declared.readable.ReadableOperation.{ReadableOperation}
use Rattle.ws_steps.specs.declared.{readable.ReadableOperation.TheVariants.{Enqueue as EnqueueChunk, Close as CloseReadable, Error as ErrorReadable}, readable.SizeBy.{SizeBy}}
use Rattle.ws_steps.specs.declared.{transform.Kind.{Kind}, transform.TransformId.{TransformId}, transform.TransformOperation.TheVariants.{Enqueue as EnqueueByTransform, Error as ErrorTransform, Terminate as TerminateTransform}}
use Rattle.ws_steps.specs.declared.{writable.WritableOperation.TheVariants.{Abort as AbortStream, ErrorIfNeeded}, writable.Writer.{Writer}}
use Rattle.ws_steps.specs.Bytes as byte
use Rattle.ws_steps.specs.Descriptors.{Descriptor, room_left, respond_throws}
use Rattle.ws_steps.specs.Queues.{is_empty}
use Rattle.ws_steps.specs.Readable as readable
use Rattle.ws_steps.specs.ReadableLooks as readable_looks
use Rattle.ws_steps.specs.Writable as writable
use Rattle.ws_steps.specs.WritableLooks as writable_looks
use Rattle.ws_steps.specs.Slots.{Slots, most_streams, causes, has_readable, has_byte, has_source, has_writable, has_signal, has_port, readable_at, byte_at, source_at, stream_of_request, writable_at, lock_at, host_at, is_teed, owner_at}
use Rattle.ws_steps.specs.Begun.{Begun, replies, unsupported}
use Rattle.ws_steps.specs.LockCalls.{by_reader, by_writer, of_writer}
use Rattle.ws_steps.specs.Calls.{begin}
use Rattle.ws_steps.specs.Begun as replying
use Rattle.ws_steps.specs.MakingCalls as making_calls
use Rattle.ws_steps.specs.LockCalls as lock_calls
use Rattle.ws_steps.specs.ControllerCalls as controller_calls
use Rattle.ws_steps.specs.PipeCalls as pipe_calls
use Rattle.ws_laws.proofs.Tables.{either, eq_numbers}

-- what is to be shown of the beginnings of call c
pub record Beginnings (P : Begun → Type 0) (c : Call) (s : Slots) : Type 0 where
  pub unchanged : (reply : Reply) → P (replies reply s)
  pub rejected : (fault : Fault) → P (replying.rejected_with fault s)
  pub make_readable : (mark : ℕ) (size : SizeBy) (start : StartBy) → P (making_calls.make_readable mark size start (record { 0 = length s.streams }) s)
  pub make_bytes : (mark auto : ℕ) (start : StartBy) → P (making_calls.make_bytes mark auto start (record { 0 = length s.streams }) s)
  pub make_writable : (mark : ℕ) (size : SizeBy) (start : StartBy) → P (making_calls.make_writable mark size start (record { 0 = length s.streams }) s)
  pub make_transform : (kind : Kind) (m n : ℕ) (start : StartBy) → P (making_calls.make_transform kind m n start (record { 0 = length s.streams }) (record { 0 = length s.streams + 1 }) s)
  pub get_reader : (i : StreamId) → readable_looks.is_locked (source_at i s) ≡ false → P (making_calls.get_reader i s)
  pub get_byob : (i : StreamId) → has_byte i s ≡ true → readable_looks.is_locked (source_at i s) ≡ false → P (making_calls.get_byob i s)
  pub make_tee : (i : StreamId) → c ≡ Tee i → has_readable i s ≡ true → readable_looks.is_locked (source_at i s) ≡ false → is_teed i s ≡ false
      → P (making_calls.make_tee i (record { 0 = length s.streams }) (record { 0 = length s.streams + 1 }) s)
  pub get_writer : (i : StreamId) → writable_looks.is_locked (writable_at i s) ≡ false → P (making_calls.get_writer i s)
  pub release_reader : (l : LockId) (closed : PromiseId) (i : StreamId) → lock_at l s ≡ Some (ReaderLock (Some i) closed) → P (lock_calls.release_reader (ReaderLock None) l closed i s)
  pub release_byob : (l : LockId) (closed : PromiseId) (i : StreamId) → lock_at l s ≡ Some (ByobReader (Some i) closed) → P (lock_calls.release_reader (ByobReader None) l closed i s)
  pub release_writer : (l : LockId) (i : StreamId) (w : Writer) → lock_at l s ≡ Some (WriterLock i) → (writable_at i s).writer ≡ Some w → P (lock_calls.release_writer l i w s)
  pub cancel : (reason : Plain) (i : StreamId) → P (lock_calls.cancel reason i s)
  pub read : (l : LockId) (i : StreamId) (closed : PromiseId) → c ≡ Read l → lock_at l s ≡ Some (ReaderLock (Some i) closed) → P (lock_calls.read i s)
  pub read_into : (l : LockId) (i : StreamId) (closed : PromiseId) (room : List ℕ) (element least : ℕ) → c ≡ ReadInto l room element least → lock_at l s ≡ Some (ByobReader (Some i) closed)
      → P (lock_calls.read_into room element least i s)
  pub write : (l : LockId) (v : Value) (i : StreamId) → c ≡ Write l v → P (lock_calls.write v i s)
  pub close : (i : StreamId) → P (lock_calls.close i s)
  pub abort : (reason : Plain) (i : StreamId) → writable.answered_abort (writable_at i s) ≡ None → P (replying.promising (λ p. OnWritable i (AbortStream reason p) ∷ []) s)
  pub enqueue : (i : StreamId) (v : Value) → c ≡ Enqueue i v → (readable_at i s).owner ≡ Host → readable.can_close_or_enqueue (readable_at i s) ≡ true → P (replying.does (OnReadable i (EnqueueChunk v) ∷ []) s)
  pub enqueue_half : (i : StreamId) (t : TransformId) (v : Value) → c ≡ Enqueue i v → (readable_at i s).owner ≡ HalfOf t → readable.can_close_or_enqueue (readable_at i s) ≡ true → P (replying.does (OnTransform t (EnqueueByTransform v) ∷ []) s)
  pub enqueue_bytes : (i : StreamId) (b : List ℕ) → c ≡ Enqueue i (Bytes b) → has_byte i s ≡ true → is_empty b ≡ false → byte.can_take (byte_at i s) ≡ true → P (replying.does (Byte i (EnqueueBytes b) ∷ []) s)
  pub finish : (i : StreamId) → P (replying.does (OnReadable i CloseReadable ∷ []) s)
  pub finish_bytes : (i : StreamId) → c ≡ Finish i → has_byte i s ≡ true → byte.can_take (byte_at i s) ≡ true
      → P (replying.begun (controller_calls.close_reply (byte_at i s)) (causes (OnReadable i CloseReadable ∷ []) s))
  pub make_request : (i : StreamId) (reply : Option (RequestId × ℕ)) → has_byte i s ≡ true
      → P (replying.begun (ReplyRequest reply) (causes (Byte i (MakeRequest (record { 0 = length s.byob_requests })) ∷ []) (record s { byob_requests = s.byob_requests ++ i ∷ [] })))
  pub respond : (q : RequestId) (i : StreamId) (b : List ℕ) → c ≡ Respond q b → (byte_at i s).request ≡ Some q
      → respond_throws (length b) (byte_at i s).stream.state (byte_at i s).descriptors ≡ None → P (replying.does (Byte i (RespondBytes b) ∷ []) s)
  pub fail_readable : (i : StreamId) (reason : Plain) → P (replying.does (OnReadable i (ErrorReadable reason) ∷ []) s)
  pub fail_writable : (i : StreamId) (reason : Plain) → P (replying.does (OnWritable i (ErrorIfNeeded reason) ∷ []) s)
  pub fail_half : (t : TransformId) (reason : Plain) → P (replying.does (OnTransform t (ErrorTransform reason) ∷ []) s)
  pub terminate : (t : TransformId) → P (replying.does (OnTransform t TerminateTransform ∷ []) s)
  pub pipe : (source dest : StreamId) (prevent : Prevent) (signal : Option SignalId) → has_source source s ≡ true → has_writable dest s ≡ true
      → readable_looks.is_locked (source_at source s) ≡ false → writable_looks.is_locked (writable_at dest s) ≡ false → P (pipe_calls.pipe_to source dest prevent signal s)
  pub make_signal : P (pipe_calls.make_signal s)
  pub open_end : (side : Side) → P (pipe_calls.open_end side (record { 0 = length s.streams }) s)
  pub send_readable : (i : StreamId) → has_source i s ≡ true → readable_looks.is_locked (source_at i s) ≡ false → P (pipe_calls.send_readable i (record { 0 = length s.streams }) s)
  pub send_writable : (i : StreamId) → has_writable i s ≡ true → writable_looks.is_locked (writable_at i s) ≡ false → P (pipe_calls.send_writable i (record { 0 = length s.streams }) s)
  pub deliver : (p : PortId) (m : Message) → c ≡ Deliver p m → has_port p s ≡ true → P (replying.does (OnPort p (DeliverMessage m) ∷ []) s)
  pub trigger : (a : SignalId) (reason : Plain) → P (replying.does (OnSignal a (TriggerSignal reason) ∷ []) s)
  pub settle : (h : HostId) (answer : Answer) (p : PromiseId) → host_at h s ≡ Some p → P (controller_calls.settle_host h answer s (Some p))

and-right : (a b : Bool) → (a && b) ≡ true → b ≡ true
and-right true b e = e
and-right false b e = cc

or-left : (a b : Bool) → (a || b) ≡ true → b ≡ false → a ≡ true
or-left true b e f = refl
or-left false b e f = cc

not-left : (a b : Bool) → (not a && b) ≡ true → a ≡ false
not-left true b e = cc
not-left false b e = refl

module _ (P : Begun → Type 0) (c : Call) (s : Slots) (o : Beginnings P c s) where
  unsupported_each : P (unsupported s)
  unsupported_each = o.unchanged (Throws Unsupported)

  made_by : (make : StreamId → Slots → Begun) → P (make (record { 0 = length s.streams }) s) → P (making_calls.make_stream make s)
  made_by make m = either P (nat_lt (length s.streams) most_streams) _ _ (λ e. m) (λ e. o.unchanged TooMany)

  two_by : (make : StreamId → StreamId → Slots → Begun) → P (make (record { 0 = length s.streams }) (record { 0 = length s.streams + 1 }) s) → P (making_calls.make_two make s)
  two_by make m = either P (nat_lt (length s.streams + 1) most_streams) _ _ (λ e. m) (λ e. o.unchanged TooMany)

  for_readable-each : (operation : Slots → Begun) (i : StreamId) → P (operation s) → P (replying.for_readable i operation s)
  for_readable-each operation i done = either P (has_readable i s) (operation s) (unsupported s) (λ e. done) (λ e. unsupported_each)

  for_byte-each : (operation : Slots → Begun) (i : StreamId) → (has_byte i s ≡ true → P (operation s)) → P (replying.for_byte i operation s)
  for_byte-each operation i done = either P (has_byte i s) (operation s) (unsupported s) done (λ e. unsupported_each)

  for_source-each : (operation : Slots → Begun) (i : StreamId) → P (operation s) → P (replying.for_source i operation s)
  for_source-each operation i done = either P (has_source i s) (operation s) (unsupported s) (λ e. done) (λ e. unsupported_each)

  for_writable-each : (operation : Slots → Begun) (i : StreamId) → P (operation s) → P (replying.for_writable i operation s)
  for_writable-each operation i done = either P (has_writable i s) (operation s) (unsupported s) (λ e. done) (λ e. unsupported_each)

  unlocked_readable-each : (locked : Slots → Begun) (free : StreamId → Slots → Begun) (i : StreamId) → P (locked s)
      → (readable_looks.is_locked (source_at i s) ≡ false → P (free i s)) → P (replying.unlocked_readable i locked free s)
  unlocked_readable-each locked free i l f =
      for_source-each (λ s. if readable_looks.is_locked (source_at i s) then locked s else free i s) i
      (either P (readable_looks.is_locked (source_at i s)) (locked s) (free i s) (λ e. l) f)

  unlocked_writable-each : (locked : Slots → Begun) (free : StreamId → Slots → Begun) (i : StreamId) → P (locked s)
      → (writable_looks.is_locked (writable_at i s) ≡ false → P (free i s)) → P (replying.unlocked_writable i locked free s)
  unlocked_writable-each locked free i l f =
      for_writable-each (λ s. if writable_looks.is_locked (writable_at i s) then locked s else free i s) i
      (either P (writable_looks.is_locked (writable_at i s)) (locked s) (free i s) (λ e. l) f)

  by_reader-each : (holding : StreamId → Slots → Begun) (free : Slots → Begun) (lock : Option Lock) → ((i : StreamId) → P (holding i s)) → P (free s) → P (by_reader holding free s lock)
  by_reader-each holding free None h f = unsupported_each
  by_reader-each holding free (Some (ReaderLock (Some i) closed)) h f = for_source-each (holding i) i (h i)
  by_reader-each holding free (Some (ReaderLock None closed)) h f = f
  by_reader-each holding free (Some (ByobReader (Some i) closed)) h f = for_source-each (holding i) i (h i)
  by_reader-each holding free (Some (ByobReader None closed)) h f = f
  by_reader-each holding free (Some (WriterLock i)) h f = unsupported_each
  by_reader-each holding free (Some (ReleasedWriter w)) h f = unsupported_each
  by_reader-each holding free (Some Inner) h f = unsupported_each

  by_default-each : (holding : StreamId → Slots → Begun) (free : Slots → Begun) (lock : Option Lock) → ((i : StreamId) (closed : PromiseId) → lock ≡ Some (ReaderLock (Some i) closed) → P (holding i s)) → P (free s)
      → P (lock_calls.by_default_reader holding free s lock)
  by_default-each holding free None h f = unsupported_each
  by_default-each holding free (Some (ReaderLock (Some i) closed)) h f = for_source-each (holding i) i (h i closed refl)
  by_default-each holding free (Some (ReaderLock None closed)) h f = f
  by_default-each holding free (Some (ByobReader stream closed)) h f = unsupported_each
  by_default-each holding free (Some (WriterLock i)) h f = unsupported_each
  by_default-each holding free (Some (ReleasedWriter w)) h f = unsupported_each
  by_default-each holding free (Some Inner) h f = unsupported_each

  by_byob-each : (holding : StreamId → Slots → Begun) (free : Slots → Begun) (lock : Option Lock) → ((i : StreamId) (closed : PromiseId) → lock ≡ Some (ByobReader (Some i) closed) → P (holding i s)) → P (free s)
      → P (lock_calls.by_byob_reader holding free s lock)
  by_byob-each holding free None h f = unsupported_each
  by_byob-each holding free (Some (ReaderLock stream closed)) h f = unsupported_each
  by_byob-each holding free (Some (ByobReader (Some i) closed)) h f = for_source-each (holding i) i (h i closed refl)
  by_byob-each holding free (Some (ByobReader None closed)) h f = f
  by_byob-each holding free (Some (WriterLock i)) h f = unsupported_each
  by_byob-each holding free (Some (ReleasedWriter w)) h f = unsupported_each
  by_byob-each holding free (Some Inner) h f = unsupported_each

  read_into-each : (l : LockId) (room : List ℕ) (element least : ℕ) → c ≡ ReadInto l room element least → P (lock_calls.read_into_by room element least s (lock_at l s))
  read_into-each l room element least e =
      let f : Fault = lock_calls.least_fault (length room) least in
      either P (not (lock_calls.is_view (length room) element)) _ _ (λ n. unsupported_each)
      (λ y. either P (not (lock_calls.has_least (length room) element least)) _ _ (λ n. by_byob-each (λ i. replying.rejected_with f) (replying.rejected_with f) (lock_at l s) (λ i closed at. o.rejected f) (o.rejected f))
      (λ n. by_byob-each (lock_calls.read_into room element least) replying.rejected (lock_at l s) (λ i closed at. o.read_into l i closed room element least e at) (o.rejected TypeErrorFault)))

  by_writer-each : (holding : StreamId → Slots → Begun) (free : Slots → Begun) → ((i : StreamId) → P (holding i s)) → P (free s) → (lock : Option Lock) → P (by_writer holding free s lock)
  by_writer-each holding free h f None = unsupported_each
  by_writer-each holding free h f (Some (ReaderLock stream closed)) = unsupported_each
  by_writer-each holding free h f (Some (ByobReader stream closed)) = unsupported_each
  by_writer-each holding free h f (Some (WriterLock i)) = for_writable-each (holding i) i (h i)
  by_writer-each holding free h f (Some (ReleasedWriter w)) = f
  by_writer-each holding free h f (Some Inner) = unsupported_each

  of_writer-each : (operation : Writer → Slots → Begun) (w : Option Writer) → ((v : Writer) → w ≡ Some v → P (operation v s)) → P (of_writer operation s w)
  of_writer-each operation None done = unsupported_each
  of_writer-each operation (Some w) done = done w refl

  abort-each : (reason : Plain) (i : StreamId) (p : Option PromiseId) → writable.answered_abort (writable_at i s) ≡ p → P (lock_calls.abort_unless reason i s p)
  abort-each reason i None e = o.abort reason i e
  abort-each reason i (Some p) e = o.unchanged (Promise p)

  closed-each : (lock : Option Lock) → P (lock_calls.closed_by s lock)
  closed-each None = unsupported_each
  closed-each (Some (ReaderLock stream closed)) = o.unchanged (Promise closed)
  closed-each (Some (ByobReader stream closed)) = o.unchanged (Promise closed)
  closed-each (Some (WriterLock i)) = of_writer-each (λ w. replies (Promise w.closed)) (writable_at i s).writer (λ w e. o.unchanged (Promise w.closed))
  closed-each (Some (ReleasedWriter w)) = o.unchanged (Promise w.closed)
  closed-each (Some Inner) = unsupported_each

  ready-each : (lock : Option Lock) → P (lock_calls.ready_by s lock)
  ready-each None = unsupported_each
  ready-each (Some (ReaderLock stream closed)) = unsupported_each
  ready-each (Some (ByobReader stream closed)) = unsupported_each
  ready-each (Some (WriterLock i)) = of_writer-each (λ w. replies (Promise w.ready)) (writable_at i s).writer (λ w e. o.unchanged (Promise w.ready))
  ready-each (Some (ReleasedWriter w)) = o.unchanged (Promise w.ready)
  ready-each (Some Inner) = unsupported_each

  release-each : (l : LockId) (lock : Option Lock) → lock_at l s ≡ lock → P (lock_calls.release l s lock)
  release-each l None e = unsupported_each
  release-each l (Some (ReaderLock (Some i) closed)) e = for_source-each (lock_calls.release_reader (ReaderLock None) l closed i) i (o.release_reader l closed i e)
  release-each l (Some (ReaderLock None closed)) e = o.unchanged ReplyDone
  release-each l (Some (ByobReader (Some i) closed)) e = for_source-each (lock_calls.release_reader (ByobReader None) l closed i) i (o.release_byob l closed i e)
  release-each l (Some (ByobReader None closed)) e = o.unchanged ReplyDone
  release-each l (Some (WriterLock i)) e = of_writer-each (lock_calls.release_writer l i) (writable_at i s).writer (λ w f. o.release_writer l i w e f)
  release-each l (Some (ReleasedWriter w)) e = o.unchanged ReplyDone
  release-each l (Some Inner) e = unsupported_each

  settle-each : (h : HostId) (answer : Answer) (p : Option PromiseId) → host_at h s ≡ p → P (controller_calls.settle_host h answer s p)
  settle-each h answer None e = unsupported_each
  settle-each h answer (Some p) e = o.settle h answer p e

  if_it_can-each : (i : StreamId) (operation : ReadableOperation)
      → (readable.can_close_or_enqueue (readable_at i s) ≡ true → P (replying.does (OnReadable i operation ∷ []) s)) → P (controller_calls.if_it_can i operation s)
  if_it_can-each i operation done =
      either P (readable.can_close_or_enqueue (readable_at i s)) (replying.does (OnReadable i operation ∷ []) s) (replying.throws_type_error s) done (λ e. o.unchanged (Throws TypeError))

  enqueue-each : (i : StreamId) (v : Value) (owner : Owner) → c ≡ Enqueue i v → (readable_at i s).owner ≡ owner → P (controller_calls.enqueue_by v i s owner)
  enqueue-each i v Host e is = if_it_can-each i (EnqueueChunk v) (λ can. o.enqueue i v e is can)
  enqueue-each i v (HalfOf t) e is =
      either P (readable.can_close_or_enqueue (readable_at i s)) (replying.does (OnTransform t (EnqueueByTransform v) ∷ []) s) (replying.throws_type_error s)
      (λ can. o.enqueue_half i t v e is can) (λ e. o.unchanged (Throws TypeError))
  enqueue-each i v (BranchOf t half) e is = unsupported_each
  enqueue-each i v (EndOf p) e is = unsupported_each

  finish-each : (i : StreamId) (owner : Owner) → P (controller_calls.finish_by i s owner)
  finish-each i Host = if_it_can-each i CloseReadable (λ e. o.finish i)
  finish-each i (HalfOf t) = unsupported_each
  finish-each i (BranchOf t half) = unsupported_each
  finish-each i (EndOf p) = unsupported_each

  enqueue_bytes-each : (i : StreamId) (v : Value) → c ≡ Enqueue i v → has_byte i s ≡ true → P (controller_calls.enqueue_bytes i s v)
  enqueue_bytes-each i (PlainValue v) e is = o.unchanged (Throws TypeError)
  enqueue_bytes-each i (Bytes b) e is =
      either P (not (is_empty b) && byte.can_take (byte_at i s)) _ _ (λ can. o.enqueue_bytes i b e is (not-left (is_empty b) (byte.can_take (byte_at i s)) can) (and-right (not (is_empty b)) (byte.can_take (byte_at i s)) can)) (λ n. o.unchanged (Throws TypeError))

  finish_bytes-each : (i : StreamId) → c ≡ Finish i → has_byte i s ≡ true → P (controller_calls.finish_bytes i s)
  finish_bytes-each i e is = either P (byte.can_take (byte_at i s)) _ _ (λ can. o.finish_bytes i e is can) (λ n. o.unchanged (Throws TypeError))

  request-each : (i : StreamId) (request : Option RequestId) (ds : List Descriptor) → has_byte i s ≡ true → P (controller_calls.request_by i s request ds)
  request-each i request [] is = o.unchanged (ReplyRequest None)
  request-each i (Some q) (d ∷ ds) is = o.unchanged (ReplyRequest (Some (q, room_left d)))
  request-each i None (d ∷ ds) is = o.make_request i (Some (record { 0 = length s.byob_requests }, room_left d)) is

  respond_unless-each : (q : RequestId) (i : StreamId) (b : List ℕ) (fault : Option Fault) → c ≡ Respond q b → (byte_at i s).request ≡ Some q
      → respond_throws (length b) (byte_at i s).stream.state (byte_at i s).descriptors ≡ fault → P (controller_calls.respond_unless i b s fault)
  respond_unless-each q i b None e is f = o.respond q i b e is f
  respond_unless-each q i b (Some fault) e is f = o.unchanged (controller_calls.thrown_by fault)

  live-request : (q : RequestId) (r : Option RequestId) → controller_calls.is_request q r ≡ true → r ≡ Some q
  live-request q None e = cc
  live-request q (Some r) e = ap (λ (n : ℕ). Some (record { 0 = n })) (sym (eq_numbers q.0 r.0 e))

  respond-each : (q : RequestId) (b : List ℕ) (i : Option StreamId) → c ≡ Respond q b → P (controller_calls.respond q b s i)
  respond-each q b None e = unsupported_each
  respond-each q b (Some i) e =
      either P (controller_calls.is_request q (byte_at i s).request) _ _
      (λ is. respond_unless-each q i b (respond_throws (length b) (byte_at i s).stream.state (byte_at i s).descriptors) e (live-request q (byte_at i s).request is) refl)
      (λ n. o.unchanged (Throws TypeError))

  fail_readable-each : (i : StreamId) (reason : Plain) (owner : Owner) → P (controller_calls.fail_readable_by reason i s owner)
  fail_readable-each i reason Host = o.fail_readable i reason
  fail_readable-each i reason (HalfOf t) = o.fail_half t reason
  fail_readable-each i reason (BranchOf t half) = unsupported_each
  fail_readable-each i reason (EndOf p) = unsupported_each

  fail_writable-each : (i : StreamId) (reason : Plain) (owner : Owner) → P (controller_calls.fail_writable_by reason i s owner)
  fail_writable-each i reason Host = o.fail_writable i reason
  fail_writable-each i reason (HalfOf t) = unsupported_each
  fail_writable-each i reason (BranchOf t half) = unsupported_each
  fail_writable-each i reason (EndOf p) = unsupported_each

  terminate-each : (owner : Owner) → P (controller_calls.terminate_by s owner)
  terminate-each Host = unsupported_each
  terminate-each (HalfOf t) = o.terminate t
  terminate-each (BranchOf t half) = unsupported_each
  terminate-each (EndOf p) = unsupported_each

  desired-each : (i : StreamId) (owner : Owner) → P (controller_calls.desired_by i s owner)
  desired-each i Host = o.unchanged (controller_calls.desired_by i s Host).reply
  desired-each i (HalfOf t) = o.unchanged (controller_calls.desired_by i s (HalfOf t)).reply
  desired-each i (BranchOf t half) = unsupported_each
  desired-each i (EndOf p) = unsupported_each

  tee-each : (i : StreamId) → c ≡ Tee i → P (replying.unlocked_readable i replying.throws_type_error making_calls.tee_of s)
  tee-each i e =
      either P (has_source i s) _ _
      (λ there. either P (readable_looks.is_locked (source_at i s)) _ _ (λ l. o.unchanged (Throws TypeError))
      (λ free. either P (has_byte i s) _ _ (λ is. unsupported_each)
      (λ isnt. either P (is_teed i s) _ _ (λ teed. o.unchanged (Throws TypeError))
      (λ untied. two_by (making_calls.make_tee i) (o.make_tee i e (or-left (has_readable i s) (has_byte i s) there isnt) free untied)))))
      (λ n. unsupported_each)

  for_signal-each : (operation : Slots → Begun) (a : SignalId) → P (operation s) → P (pipe_calls.for_signal a operation s)
  for_signal-each operation a done = either P (has_signal a s) (operation s) (unsupported s) (λ e. done) (λ e. unsupported_each)

  for_signal_where-each : (operation : Slots → Begun) (signal : Option SignalId) → P (operation s) → P (pipe_calls.for_signal_where signal operation s)
  for_signal_where-each operation None done = done
  for_signal_where-each operation (Some a) done = for_signal-each operation a done

  pipe-each : (source dest : StreamId) (prevent : Prevent) (signal : Option SignalId) → P (pipe_calls.pipe_call source dest prevent signal s)
  pipe-each source dest prevent signal =
      either P (has_source source s) _ _
      (λ e. either P (has_writable dest s) _ _
      (λ f. for_signal_where-each (pipe_calls.pipe_unlocked source dest prevent signal) signal
      (either P (readable_looks.is_locked (source_at source s)) _ _ (λ l. o.rejected TypeErrorFault)
      (λ l. either P (writable_looks.is_locked (writable_at dest s)) _ _ (λ m. o.rejected TypeErrorFault) (λ m. o.pipe source dest prevent signal e f l m))))
      (λ f. unsupported_each))
      (λ e. unsupported_each)

  send-each : (i : StreamId) → P (pipe_calls.send i s)
  send-each i =
      either P (has_source i s) _ _
      (λ there. either P (has_source i s) _ _
      (λ same. either P (readable_looks.is_locked (source_at i s)) _ _ (λ l. o.unchanged (Throws DataClone)) (λ free. made_by (pipe_calls.send_readable i) (o.send_readable i there free)))
      (λ n. unsupported_each))
      (λ isnt. either P (has_writable i s) _ _
      (λ there. either P (writable_looks.is_locked (writable_at i s)) _ _ (λ l. o.unchanged (Throws DataClone)) (λ free. made_by (pipe_calls.send_writable i) (o.send_writable i there free)))
      (λ n. unsupported_each))

pub each_call : (P : Begun → Type 0) (c : Call) (s : Slots) → Beginnings P c s → P (begin c s)
unfolding begin
each_call P (MakeReadable mark size start) s o = made_by P _ s o (making_calls.make_readable mark size start) (o.make_readable mark size start)
each_call P (MakeBytes mark auto start) s o = made_by P _ s o (making_calls.make_bytes mark auto start) (o.make_bytes mark auto start)
each_call P (MakeWritable mark size start) s o = made_by P _ s o (making_calls.make_writable mark size start) (o.make_writable mark size start)
each_call P (MakeTransform kind m n start) s o = two_by P _ s o (making_calls.make_transform kind m n start) (o.make_transform kind m n start)
each_call P (GetReader i) s o = unlocked_readable-each P _ s o replying.throws_type_error making_calls.get_reader i (o.unchanged (Throws TypeError)) (λ e. o.get_reader i e)
each_call P (Tee i) s o = tee-each P _ s o i refl
each_call P (GetByob i) s o =
    unlocked_readable-each P _ s o replying.throws_type_error making_calls.get_byob_of i (o.unchanged (Throws TypeError))
    (λ e. either P (has_byte i s) (making_calls.get_byob i s) (replying.throws_type_error s) (λ is. o.get_byob i is e) (λ n. o.unchanged (Throws TypeError)))
each_call P (GetWriter i) s o = unlocked_writable-each P _ s o replying.throws_type_error making_calls.get_writer i (o.unchanged (Throws TypeError)) (λ e. o.get_writer i e)
each_call P (Cancel i reason) s o = unlocked_readable-each P _ s o replying.rejected (lock_calls.cancel reason) i (o.rejected TypeErrorFault) (λ e. o.cancel reason i)
each_call P (CancelBy l reason) s o = by_reader-each P _ s o (lock_calls.cancel reason) replying.rejected (lock_at l s) (λ i. o.cancel reason i) (o.rejected TypeErrorFault)
each_call P (ReadInto l room element least) s o = read_into-each P _ s o l room element least refl
each_call P (Read l) s o = by_default-each P _ s o lock_calls.read replying.rejected (lock_at l s) (λ i closed e. o.read l i closed refl e) (o.rejected TypeErrorFault)
each_call P (Write l v) s o = by_writer-each P _ s o (lock_calls.write v) replying.rejected (λ i. o.write l v i refl) (o.rejected TypeErrorFault) (lock_at l s)
each_call P (Close i) s o = unlocked_writable-each P _ s o replying.rejected lock_calls.close i (o.rejected TypeErrorFault) (λ e. o.close i)
each_call P (CloseBy l) s o = by_writer-each P _ s o lock_calls.close replying.rejected o.close (o.rejected TypeErrorFault) (lock_at l s)
each_call P (Abort i reason) s o =
    unlocked_writable-each P _ s o replying.rejected (lock_calls.abort reason) i (o.rejected TypeErrorFault) (λ e. abort-each P _ s o reason i (writable.answered_abort (writable_at i s)) refl)
each_call P (AbortBy l reason) s o =
    by_writer-each P _ s o (lock_calls.abort reason) replying.rejected (λ i. abort-each P _ s o reason i (writable.answered_abort (writable_at i s)) refl) (o.rejected TypeErrorFault) (lock_at l s)
each_call P (Closed l) s o = closed-each P _ s o (lock_at l s)
each_call P (Ready l) s o = ready-each P _ s o (lock_at l s)
each_call P (Release l) s o = release-each P _ s o l (lock_at l s) refl
each_call P (Enqueue i v) s o =
    either P (has_byte i s) _ _ (λ is. enqueue_bytes-each P _ s o i v refl is)
    (λ n. for_readable-each P _ s o (controller_calls.enqueue v i) i (enqueue-each P _ s o i v (readable_at i s).owner refl refl))
each_call P (Finish i) s o =
    either P (has_byte i s) _ _ (λ is. finish_bytes-each P _ s o i refl is)
    (λ n. for_readable-each P _ s o (controller_calls.finish i) i (finish-each P _ s o i (readable_at i s).owner))
each_call P (Fail i reason) s o =
    either P (has_readable i s) _ _ (λ e. fail_readable-each P _ s o i reason (readable_at i s).owner)
    (λ e. either P (has_byte i s) _ _ (λ is. o.fail_readable i reason)
    (λ n. for_writable-each P _ s o (λ s. controller_calls.fail_writable_by reason i s (writable_at i s).owner) i (fail_writable-each P _ s o i reason (writable_at i s).owner)))
each_call P (Terminate i) s o = for_readable-each P _ s o (controller_calls.terminate i) i (terminate-each P _ s o (readable_at i s).owner)
each_call P (Request i) s o = for_byte-each P _ s o (controller_calls.request i) i (λ is. request-each P _ s o i (byte_at i s).request (byte_at i s).descriptors is)
each_call P (Respond q b) s o = respond-each P _ s o q b (stream_of_request q s) refl
each_call P (Desired i) s o = for_source-each P _ s o (controller_calls.desired i) i (desired-each P _ s o i (owner_at i s))
each_call P (DesiredBy l) s o =
    by_writer-each P _ s o controller_calls.desired_of_writer replying.throws_type_error (λ i. o.unchanged (controller_calls.desired_of_writer i s).reply) (o.unchanged (Throws TypeError)) (lock_at l s)
each_call P (Pipe source dest prevent signal) s o = pipe-each P _ s o source dest prevent signal
each_call P MakeSignal s o = o.make_signal
each_call P (Trigger a reason) s o = for_signal-each P _ s o (replying.does (OnSignal a (TriggerSignal reason) ∷ [])) a (o.trigger a reason)
each_call P (Send i) s o = send-each P _ s o i
each_call P (Open side) s o = made_by P _ s o (pipe_calls.open_end side) (o.open_end side)
each_call P (Deliver p m) s o =
    either P (has_port p s) (replying.does (OnPort p (DeliverMessage m) ∷ []) s) (unsupported s) (λ e. o.deliver p m refl e) (λ e. o.unchanged (Throws Unsupported))
each_call P (Settle h answer) s o = settle-each P _ s o h answer (host_at h s) refl
each_call P (State i) s o =
    either P (has_source i s) _ _ (λ e. o.unchanged (ReplyState (readable_looks.state_of (source_at i s))))
    (λ e. for_writable-each P _ s o (λ s. replies (ReplyState (writable_looks.state_of (writable_at i s))) s) i (o.unchanged (ReplyState (writable_looks.state_of (writable_at i s)))))
each_call P Step s o = o.unchanged ReplyDone
