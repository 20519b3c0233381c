-- No call closes the readable half of a transform stream but one that terminates it.
use Rattle.std.proofs.Common.{◌≡◌, ℕ, ◌+◌, Bool, true, false, not, ◌&&◌, nat_lt, if◌then◌else◌, List, [], ◌∷◌, length, Option, Some, None, slice_get, refl, sym, ap, ◌∙◌}
use Rattle.ws_value.specs.declared.ids.{HostId.{HostId}, LockId.{LockId}, PipeId.{PipeId}, PromiseId.{PromiseId}, SignalId.{SignalId}, StreamId.{StreamId}}
use Rattle.ws_value.specs.declared.value.{Plain.{Plain}, Value.{Value}}
use Rattle.ws_steps.specs.declared.calls.{Answer.{Answer}, Call.{Call}, Reply.{Reply}, StartBy.{StartBy}, StartBy.TheVariants.{Now, Later}}
use Rattle.ws_steps.specs.declared.calls.Call.TheVariants.{Tee as TeeCall, MakeReadable, MakeBytes, MakeWritable, MakeTransform, GetReader, GetByob, ReadInto, Request, Respond, GetWriter, Cancel, CancelBy, Read, Write, Close, CloseBy, Abort, AbortBy, Closed, Ready, Release, Enqueue, Finish, Fail, Terminate, Desired, DesiredBy, Pipe, MakeSignal, Trigger, Send, Open, Deliver, Settle, State, Step}
use Rattle.ws_steps.specs.declared.calls.Reply.TheVariants.{Promise, State as ReplyState}
use Rattle.ws_steps.specs.declared.effects.{Owner.{Owner}, Owner.TheVariants.{Host, HalfOf, BranchOf, EndOf}}
use Rattle.ws_steps.specs.declared.locks.{Lock.{Lock}, Lock.TheVariants.{Reader as ReaderLock, ByobReader, Writer as WriterLock, ReleasedWriter, Inner}}
use Rattle.ws_steps.specs.declared.pipes.Prevent.{Prevent}
use Rattle.ws_steps.specs.declared.transform.{TransformId.{TransformId}}
use Rattle.ws_steps.specs.declared.writable.Writer.{Writer}
use Rattle.ws_steps.specs.Begun as replying
use Rattle.ws_steps.specs.MakingCalls as making_calls
use Rattle.ws_steps.specs.LockCalls as lock_calls
use Rattle.ws_steps.specs.ControllerCalls as controller_calls
use Rattle.ws_steps.specs.PipeCalls as pipe_calls
use Rattle.ws_steps.specs.Begun.{Begun}
use Rattle.ws_steps.specs.Calls.{begin}
use Rattle.ws_steps.specs.Histories.{is_same}
use Rattle.ws_steps.specs.Promises.{Table, next_id, fresh, is_pending_at}
use Rattle.ws_steps.specs.Readable as readable
use Rattle.ws_steps.specs.Readable.{can_close_or_enqueue}
use Rattle.ws_steps.specs.ReadableLooks as readable_looks
use Rattle.ws_steps.specs.Run.{Called}
use Rattle.ws_steps.specs.Slots.{Slots, ReadableStream, most_streams, has_readable, has_byte, has_source, has_writable, has_signal, readable_at, byte_at, source_at, writable_at, lock_at, host_at, stream_of_request, is_teed, owner_at}
use Rattle.ws_steps.specs.Writable as writable
use Rattle.ws_steps.specs.WritableLooks as writable_looks
use Rattle.ws_laws.proofs.Halves.{Halved, halved-stays}
use Rattle.ws_laws.proofs.Lists.{each-append}
use Rattle.ws_laws.proofs.Ended.{Ended, ended-stays}
use Rattle.ws_steps.specs.declared.port.{Side.{Side}, Side.TheVariants.{Readable as ReadableSide, Writable as WritableSide}}
use Rattle.ws_steps.specs.Slots.{has_port}
use Rattle.ws_laws.proofs.Shapes.{StreamShape, ReadableOf, TransformShape, stream_shape, stream_shapes, transform_shapes, map-there}
use Rattle.ws_laws.proofs.Tables.{either, same_id, is_same-refl, eq_numbers, readable_there}
use Rattle.ws_laws.proofs.Truth.{not_false}
use Rattle.ws_transform_laws.specs.TransformHistory.{is_same_transform, step_closings}
use Rattle.ws_transform_laws.proofs.Entering.{Reads, not-bytes}
use Rattle.ws_transform_laws.proofs.Flushed.{Calm, All, none-closes}
use Rattle.ws_identity_laws.specs.Through.{spares}
use Rattle.ws_steps.specs.Bytes as byte
use Rattle.ws_value.specs.declared.fault.Fault.{Fault}
use Rattle.ws_steps.specs.Queues.{is_empty}
use Rattle.ws_steps.specs.Descriptors.{Descriptor, respond_throws}
use Rattle.ws_value.specs.declared.ids.RequestId.{RequestId}
use Rattle.ws_value.specs.declared.value.Value.TheVariants.{Plain as PlainValue, Bytes}

-- stream r is the readable half of transform stream t
module _ (t : TransformId) (r : StreamId) (s : Slots) (halved : Halved s) (reads : Reads t r s) where
  abbrev P : Begun → Type 0
  P b = All t r b.done.caused

  mine : slice_get (stream_shapes s) r.0 ≡ Some (ReadableOf (HalfOf t))
  mine = rw (← reads.1.1) (halved.halves t reads.0 reads.1.0).0

  shape : (k : StreamId) → has_readable k s ≡ true → slice_get (stream_shapes s) k.0 ≡ Some (ReadableOf (readable_at k s).owner)
  shape k there = map-there stream_shape s.streams k.0 (ReadableStream (readable_at k s)) (readable_there (slice_get s.streams k.0) there)

  -- a stream of the host's own is another
  own-apart : (k : StreamId) → has_readable k s ≡ true → (readable_at k s).owner ≡ Host → is_same r k ≡ false
  own-apart k there own = by (is_same r k) refl
    where
      by : (b : Bool) → b ≡ is_same r k → is_same r k ≡ false
      by false e = sym e
      by true e =
          let at : slice_get (stream_shapes s) r.0 ≡ Some (ReadableOf Host) = rw (same_id r k (sym e)) (shape k there ∙ ap (λ (o : Owner). Some (ReadableOf o)) own) in
          let both : ◌≡◌ {A = Option StreamShape} (Some (ReadableOf (HalfOf t))) (Some (ReadableOf Host)) = sym mine ∙ at in cc

  -- the half of another transform stream is another
  half-apart : (k : StreamId) (u : TransformId) → has_readable k s ≡ true → (readable_at k s).owner ≡ HalfOf u → is_same r k ≡ false → is_same_transform t u ≡ false
  half-apart k u there own n = by (is_same_transform t u) refl
    where
      by : (b : Bool) → b ≡ is_same_transform t u → is_same_transform t u ≡ false
      by false e = sym e
      by true e =
          let one : t ≡ u = ap (λ (m : ℕ). record { 0 = m }) (eq_numbers t.0 u.0 (sym e)) in
          let h = halved.readable k u (shape k there ∙ ap (λ (o : Owner). Some (ReadableOf o)) own) in
          let both : ◌≡◌ {A = Option TransformShape} (Some reads.0) (Some h.0) = sym reads.1.0 ∙ (ap (λ (v : TransformId). slice_get (transform_shapes s) v.0) one ∙ h.1.0) in
          let same : reads.0 ≡ h.0 = cc in
          let is : r ≡ k = sym reads.1.1 ∙ (ap (λ (x : TransformShape). x.readable) same ∙ h.1.1) in
          let yes : is_same r k ≡ true = rw (← is) (is_same-refl r) in absurd (cc)

  unchanged : (reply : Reply) → P (replying.replies reply s)
  unchanged reply = tt

  rejected_with : (fault : Fault) → P (replying.rejected_with fault s)
  rejected_with fault = (tt, tt)

  rejected : P (replying.rejected s)
  rejected = (tt, tt)

  for_readable : (k : StreamId) (operation : Slots → Begun) → (has_readable k s ≡ true → P (operation s)) → P (replying.for_readable k operation s)
  for_readable k operation h = either P (has_readable k s) (operation s) (replying.unsupported s) h (λ e. tt)

  for_source : (k : StreamId) (operation : Slots → Begun) → P (operation s) → P (replying.for_source k operation s)
  for_source k operation h = either P (has_source k s) (operation s) (replying.unsupported s) (λ e. h) (λ e. tt)

  for_byte : (k : StreamId) (operation : Slots → Begun) → P (operation s) → P (replying.for_byte k operation s)
  for_byte k operation h = either P (has_byte k s) (operation s) (replying.unsupported s) (λ e. h) (λ e. tt)

  for_writable : (k : StreamId) (operation : Slots → Begun) → P (operation s) → P (replying.for_writable k operation s)
  for_writable k operation h = either P (has_writable k s) (operation s) (replying.unsupported s) (λ e. h) (λ e. tt)

  by_reader : (holding : StreamId → Slots → Begun) (free : Slots → Begun) → ((k : StreamId) → P (holding k s)) → P (free s) → (o : Option Lock) → P (lock_calls.by_reader holding free s o)
  by_reader holding free h f None = tt
  by_reader holding free h f (Some (ReaderLock (Some k) closed)) = for_source k (holding k) (h k)
  by_reader holding free h f (Some (ReaderLock None closed)) = f
  by_reader holding free h f (Some (ByobReader (Some k) closed)) = for_source k (holding k) (h k)
  by_reader holding free h f (Some (ByobReader None closed)) = f
  by_reader holding free h f (Some (WriterLock k)) = tt
  by_reader holding free h f (Some (ReleasedWriter w)) = tt
  by_reader holding free h f (Some Inner) = tt

  by_default_reader : (holding : StreamId → Slots → Begun) (free : Slots → Begun) → ((k : StreamId) → P (holding k s)) → P (free s) → (o : Option Lock) → P (lock_calls.by_default_reader holding free s o)
  by_default_reader holding free h f o = either P (lock_calls.is_byob_reader o) (replying.unsupported s) (lock_calls.by_reader holding free s o) (λ e. tt) (λ e. by_reader holding free h f o)

  by_byob_reader : (holding : StreamId → Slots → Begun) (free : Slots → Begun) → ((k : StreamId) → P (holding k s)) → P (free s) → (o : Option Lock) → P (lock_calls.by_byob_reader holding free s o)
  by_byob_reader holding free h f o = either P (lock_calls.is_byob_reader o) (lock_calls.by_reader holding free s o) (replying.unsupported s) (λ e. by_reader holding free h f o) (λ e. tt)

  reads_into : (room : List ℕ) (element least : ℕ) (o : Option Lock) → P (lock_calls.read_into_by room element least s o)
  reads_into room element least o =
      let fault : Fault = lock_calls.least_fault (length room) least in
      either P (not (lock_calls.is_view (length room) element)) (replying.unsupported s) _ (λ e. tt)
      (λ e. either P (not (lock_calls.has_least (length room) element least)) (lock_calls.refuse_least fault s o) (lock_calls.by_byob_reader (lock_calls.read_into room element least) replying.rejected s o)
      (λ f. by_byob_reader (λ k. replying.rejected_with fault) (replying.rejected_with fault) (λ k. rejected_with fault) (rejected_with fault) o) (λ f. by_byob_reader (lock_calls.read_into room element least) replying.rejected (λ k. (tt, tt)) rejected o))

  by_writer : (holding : StreamId → Slots → Begun) (free : Slots → Begun) → ((k : StreamId) → P (holding k s)) → P (free s) → (o : Option Lock) → P (lock_calls.by_writer holding free s o)
  by_writer holding free h f None = tt
  by_writer holding free h f (Some (ReaderLock stream closed)) = tt
  by_writer holding free h f (Some (ByobReader stream closed)) = tt
  by_writer holding free h f (Some (WriterLock k)) = for_writable k (holding k) (h k)
  by_writer holding free h f (Some (ReleasedWriter w)) = f
  by_writer holding free h f (Some Inner) = tt

  of_writer : (operation : Writer → Slots → Begun) (w : Option Writer) → ((v : Writer) → P (operation v s)) → P (lock_calls.of_writer operation s w)
  of_writer operation None h = tt
  of_writer operation (Some w) h = h w

  closed_by : (o : Option Lock) → P (lock_calls.closed_by s o)
  closed_by None = tt
  closed_by (Some (ReaderLock stream closed)) = tt
  closed_by (Some (ByobReader stream closed)) = tt
  closed_by (Some (WriterLock k)) = of_writer (λ w. replying.replies (Promise w.closed)) (writable_at k s).writer (λ w. tt)
  closed_by (Some (ReleasedWriter w)) = tt
  closed_by (Some Inner) = tt

  ready_by : (o : Option Lock) → P (lock_calls.ready_by s o)
  ready_by None = tt
  ready_by (Some (ReaderLock stream closed)) = tt
  ready_by (Some (ByobReader stream closed)) = tt
  ready_by (Some (WriterLock k)) = of_writer (λ w. replying.replies (Promise w.ready)) (writable_at k s).writer (λ w. tt)
  ready_by (Some (ReleasedWriter w)) = tt
  ready_by (Some Inner) = tt

  renewed : (u : Table) (kept : Bool) → All t r (lock_calls.reject_renewed u kept)
  renewed u true = tt
  renewed u false = (tt, tt)

  releases_reader : (released : PromiseId → Lock) (l : LockId) (closed : PromiseId) (k : StreamId) → P (lock_calls.release_reader released l closed k s)
  releases_reader released l closed k = let kept : Bool = readable.is_readable (source_at k s).state in each-append (Calm t r) (lock_calls.reject_renewed s.promises kept) _ (renewed s.promises kept) (tt, tt)

  releases_writer : (l : LockId) (k : StreamId) (w : Writer) → P (lock_calls.release_writer l k w s)
  releases_writer l k w =
      let ready : Bool = is_pending_at w.ready s.promises in
      let u : Table = lock_calls.with_renewed s.promises ready in
      let closed : Bool = is_pending_at w.closed u in
      each-append (Calm t r) (lock_calls.reject_renewed s.promises ready) _ (renewed s.promises ready) (each-append (Calm t r) (lock_calls.reject_renewed u closed) _ (renewed u closed) (tt, tt))

  release : (l : LockId) (o : Option Lock) → P (lock_calls.release l s o)
  release l None = tt
  release l (Some (ReaderLock (Some k) closed)) = for_source k (lock_calls.release_reader (ReaderLock None) l closed k) (releases_reader (ReaderLock None) l closed k)
  release l (Some (ReaderLock None closed)) = tt
  release l (Some (ByobReader (Some k) closed)) = for_source k (lock_calls.release_reader (ByobReader None) l closed k) (releases_reader (ByobReader None) l closed k)
  release l (Some (ByobReader None closed)) = tt
  release l (Some (WriterLock k)) = of_writer (lock_calls.release_writer l k) (writable_at k s).writer (λ w. releases_writer l k w)
  release l (Some (ReleasedWriter w)) = tt
  release l (Some Inner) = tt

  abort_unless : (reason : Plain) (k : StreamId) (o : Option PromiseId) → P (lock_calls.abort_unless reason k s o)
  abort_unless reason k None = (tt, tt)
  abort_unless reason k (Some q) = tt

  settle_host : (h : HostId) (answer : Answer) (o : Option PromiseId) → P (controller_calls.settle_host h answer s o)
  settle_host h answer None = tt
  settle_host h answer (Some q) = (tt, tt)

  unlocked_readable : (k : StreamId) (locked : Slots → Begun) (free : StreamId → Slots → Begun) → P (locked s) → P (free k s) → P (replying.unlocked_readable k locked free s)
  unlocked_readable k locked free l f =
      for_source k (λ s. if readable_looks.is_locked (source_at k s) then locked s else free k s) (either P (readable_looks.is_locked (source_at k s)) (locked s) (free k s) (λ e. l) (λ e. f))

  unlocked_writable : (k : StreamId) (locked : Slots → Begun) (free : StreamId → Slots → Begun) → P (locked s) → P (free k s) → P (replying.unlocked_writable k locked free s)
  unlocked_writable k locked free l f =
      for_writable k (λ s. if writable_looks.is_locked (writable_at k s) then locked s else free k s) (either P (writable_looks.is_locked (writable_at k s)) (locked s) (free k s) (λ e. l) (λ e. f))

  pipe-begins : (me : PipeId) (a b : PromiseId) (signal : Option SignalId) (reason : Option Plain) → All t r (pipe_calls.pipe_begins me a b signal reason)
  pipe-begins me a b signal (Some c) = (tt, tt)
  pipe-begins me a b None None = (tt, (tt, (tt, tt)))
  pipe-begins me a b (Some g) None = (tt, (tt, (tt, (tt, tt))))

  pipe_to : (source dest : StreamId) (prevent : Prevent) (signal : Option SignalId) → P (pipe_calls.pipe_to source dest prevent signal s)
  pipe_to source dest prevent signal = (tt, (tt, (tt, pipe-begins (record { 0 = length s.pipes }) (next_id s.promises) (next_id (fresh (fresh s.promises))) signal (pipe_calls.reason_of signal s))))

  pipe_where : (source dest : StreamId) (prevent : Prevent) (signal : Option SignalId) → P (pipe_calls.for_signal_where signal (pipe_calls.pipe_unlocked source dest prevent signal) s)
  pipe_where source dest prevent signal = by signal
    where
      free : P (pipe_calls.pipe_unlocked source dest prevent signal s)
      free =
          either P (readable_looks.is_locked (source_at source s)) (replying.rejected s) (if writable_looks.is_locked (writable_at dest s) then replying.rejected s else pipe_calls.pipe_to source dest prevent signal s) (λ e. rejected)
          (λ e. either P (writable_looks.is_locked (writable_at dest s)) (replying.rejected s) (pipe_calls.pipe_to source dest prevent signal s) (λ f. rejected) (λ f. pipe_to source dest prevent signal))

      by : (o : Option SignalId) → P (pipe_calls.for_signal_where o (pipe_calls.pipe_unlocked source dest prevent signal) s)
      by None = free
      by (Some g) = either P (has_signal g s) (pipe_calls.pipe_unlocked source dest prevent signal s) (replying.unsupported s) (λ e. free) (λ e. tt)

  starts : (q : PromiseId) (k : StreamId) (start : StartBy) → Calm t r (making_calls.start_transform q k start)
  starts q k Now = tt
  starts q k Later = tt

  enqueues : (k : StreamId) (v : Value) (o : Owner) → P (controller_calls.enqueue_by v k s o)
  enqueues k v Host = either P (can_close_or_enqueue (readable_at k s)) _ _ (λ e. (tt, tt)) (λ e. tt)
  enqueues k v (HalfOf a) = either P (can_close_or_enqueue (readable_at k s)) _ _ (λ e. (tt, tt)) (λ e. tt)
  enqueues k v (BranchOf a half) = tt
  enqueues k v (EndOf c) = tt

  -- a byte controller

  enqueues_bytes : (k : StreamId) (v : Value) → P (controller_calls.enqueue_bytes k s v)
  enqueues_bytes k (PlainValue v) = tt
  enqueues_bytes k (Bytes b) = either P (not (is_empty b) && byte.can_take (byte_at k s)) _ _ (λ e. (tt, tt)) (λ e. tt)

  finishes_bytes : (k : StreamId) → has_byte k s ≡ true → P (controller_calls.finish_bytes k s)
  finishes_bytes k is = either P (byte.can_take (byte_at k s)) _ _ (λ e. (not-bytes t r s k halved reads is, tt)) (λ e. tt)

  requests : (k : StreamId) (q : Option RequestId) (ds : List Descriptor) → P (controller_calls.request_by k s q ds)
  requests k q [] = tt
  requests k (Some q) (d ∷ ds) = tt
  requests k None (d ∷ ds) = (tt, tt)

  responds : (q : RequestId) (b : List ℕ) (o : Option StreamId) → P (controller_calls.respond q b s o)
  responds q b None = tt
  responds q b (Some k) = either P (controller_calls.is_request q (byte_at k s).request) _ _ (λ e. by (respond_throws (length b) (byte_at k s).stream.state (byte_at k s).descriptors)) (λ e. tt)
    where
      by : (o : Option Fault) → P (controller_calls.respond_unless k b s o)
      by None = (tt, tt)
      by (Some f) = tt

  finishes : (k : StreamId) (o : Owner) → has_readable k s ≡ true → (readable_at k s).owner ≡ o → P (controller_calls.finish_by k s o)
  finishes k Host there own = either P (can_close_or_enqueue (readable_at k s)) _ _ (λ e. (own-apart k there own, tt)) (λ e. tt)
  finishes k (HalfOf a) there own = tt
  finishes k (BranchOf a half) there own = tt
  finishes k (EndOf c) there own = tt

  terminates : (k : StreamId) (o : Owner) → has_readable k s ≡ true → (readable_at k s).owner ≡ o → is_same r k ≡ false → P (controller_calls.terminate_by s o)
  terminates k Host there own n = tt
  terminates k (HalfOf a) there own n = (half-apart k a there own n, tt)
  terminates k (BranchOf a half) there own n = tt
  terminates k (EndOf c) there own n = tt

  fails_readable : (reason : Plain) (k : StreamId) (o : Owner) → P (controller_calls.fail_readable_by reason k s o)
  fails_readable reason k Host = (tt, tt)
  fails_readable reason k (HalfOf a) = (tt, tt)
  fails_readable reason k (BranchOf a half) = tt
  fails_readable reason k (EndOf c) = tt

  fails_writable : (reason : Plain) (k : StreamId) (o : Owner) → P (controller_calls.fail_writable_by reason k s o)
  fails_writable reason k Host = (tt, tt)
  fails_writable reason k (HalfOf a) = tt
  fails_writable reason k (BranchOf a half) = tt
  fails_writable reason k (EndOf c) = tt

  desires : (k : StreamId) (o : Owner) → P (controller_calls.desired_by k s o)
  desires k Host = tt
  desires k (HalfOf a) = tt
  desires k (BranchOf a half) = tt
  desires k (EndOf c) = tt

  tee_of : (k : StreamId) → P (making_calls.tee_of k s)
  tee_of k =
      either P (has_byte k s) (replying.unsupported s) _ (λ e. tt)
      (λ e. either P (is_teed k s) (replying.throws_type_error s) _ (λ f. tt)
      (λ f. either P (nat_lt (length s.streams + 1) most_streams) _ _ (λ g. (tt, (tt, (tt, (tt, tt))))) (λ g. tt)))

  opens : (side : Side) → P (pipe_calls.open_end side (record { 0 = length s.streams }) s)
  opens ReadableSide = (tt, tt)
  opens WritableSide = (tt, tt)

  abbrev new : StreamId
  new = record { 0 = length s.streams }

  sends_readable : (k : StreamId) → P (pipe_calls.send_readable k new s)
  sends_readable k = let t : Table = fresh s.promises in (tt, (tt, (tt, (tt, pipe-begins (record { 0 = length s.pipes }) (next_id t) (next_id (fresh (fresh t))) None None))))

  sends_writable : (k : StreamId) → P (pipe_calls.send_writable k new s)
  sends_writable k = let t : Table = s.promises in (tt, (tt, (tt, (tt, pipe-begins (record { 0 = length s.pipes }) (next_id t) (next_id (fresh (fresh t))) None None))))

  sends : (k : StreamId) → P (pipe_calls.send k s)
  sends k =
      either P (has_source k s) _ _
      (λ e. unlocked_readable k replying.throws_data_clone (λ source. making_calls.make_stream (pipe_calls.send_readable source)) tt (either P (nat_lt (length s.streams) most_streams) _ _ (λ f. sends_readable k) (λ f. tt)))
      (λ e. unlocked_writable k replying.throws_data_clone (λ dest. making_calls.make_stream (pipe_calls.send_writable dest)) tt (either P (nat_lt (length s.streams) most_streams) _ _ (λ f. sends_writable k) (λ f. tt)))

  pub call-calm : (c : Call) → spares r c ≡ true → P (begin c s)
  unfolding begin
  call-calm (MakeReadable mark size start) l = either P (nat_lt (length s.streams) most_streams) _ _ (λ e. (tt, tt)) (λ e. tt)
  call-calm (MakeBytes mark auto start) l = either P (nat_lt (length s.streams) most_streams) _ _ (λ e. (tt, tt)) (λ e. tt)
  call-calm (MakeWritable mark size start) l = either P (nat_lt (length s.streams) most_streams) _ _ (λ e. (tt, tt)) (λ e. tt)
  call-calm (MakeTransform kind m n start) l = either P (nat_lt (length s.streams + 1) most_streams) _ _ (λ e. (tt, (tt, (tt, (tt, (starts (next_id (fresh s.promises)) (record { 0 = length s.streams + 1 }) start, tt)))))) (λ e. tt)
  call-calm (GetReader k) l = unlocked_readable k replying.throws_type_error making_calls.get_reader tt (tt, tt)
  call-calm (TeeCall k) l = unlocked_readable k replying.throws_type_error making_calls.tee_of tt (tee_of k)
  call-calm (GetByob k) l =
      unlocked_readable k replying.throws_type_error making_calls.get_byob_of tt (either P (has_byte k s) (making_calls.get_byob k s) (replying.throws_type_error s) (λ e. (tt, tt)) (λ e. tt))
  call-calm (GetWriter k) l = unlocked_writable k replying.throws_type_error making_calls.get_writer tt (tt, tt)
  call-calm (Cancel k reason) l = unlocked_readable k replying.rejected (lock_calls.cancel reason) rejected (tt, tt)
  call-calm (CancelBy n reason) l = by_reader (lock_calls.cancel reason) replying.rejected (λ k. (tt, tt)) rejected (lock_at n s)
  call-calm (ReadInto n room element least) l = reads_into room element least (lock_at n s)
  call-calm (Read n) l = by_default_reader lock_calls.read replying.rejected (λ k. (tt, tt)) rejected (lock_at n s)
  call-calm (Write n v) l = by_writer (lock_calls.write v) replying.rejected (λ k. (tt, tt)) rejected (lock_at n s)
  call-calm (Close k) l = unlocked_writable k replying.rejected lock_calls.close rejected (tt, tt)
  call-calm (CloseBy n) l = by_writer lock_calls.close replying.rejected (λ k. (tt, tt)) rejected (lock_at n s)
  call-calm (Abort k reason) l = unlocked_writable k replying.rejected (lock_calls.abort reason) rejected (abort_unless reason k (writable.answered_abort (writable_at k s)))
  call-calm (AbortBy n reason) l = by_writer (lock_calls.abort reason) replying.rejected (λ k. abort_unless reason k (writable.answered_abort (writable_at k s))) rejected (lock_at n s)
  call-calm (Closed n) l = closed_by (lock_at n s)
  call-calm (Ready n) l = ready_by (lock_at n s)
  call-calm (Release n) l = release n (lock_at n s)
  call-calm (Enqueue k v) l =
      either P (has_byte k s) (controller_calls.enqueue_bytes k s v) _ (λ e. enqueues_bytes k v) (λ e. for_readable k (λ z. controller_calls.enqueue_by v k z (readable_at k z).owner) (λ e. enqueues k v (readable_at k s).owner))
  call-calm (Finish k) l =
      either P (has_byte k s) (controller_calls.finish_bytes k s) _ (λ e. finishes_bytes k e) (λ e. for_readable k (λ z. controller_calls.finish_by k z (readable_at k z).owner) (λ e. finishes k (readable_at k s).owner e refl))
  call-calm (Fail k reason) l =
      either P (has_readable k s) _ _ (λ e. fails_readable reason k (readable_at k s).owner)
      (λ e. either P (has_byte k s) _ _ (λ f. (tt, tt)) (λ f. for_writable k (λ s. controller_calls.fail_writable_by reason k s (writable_at k s).owner) (fails_writable reason k (writable_at k s).owner)))
  call-calm (Terminate k) l = for_readable k (λ z. controller_calls.terminate_by z (readable_at k z).owner) (λ e. terminates k (readable_at k s).owner e refl (not_false (is_same r k) l))
  call-calm (Request k) l = for_byte k (controller_calls.request k) (requests k (byte_at k s).request (byte_at k s).descriptors)
  call-calm (Respond q b) l = responds q b (stream_of_request q s)
  call-calm (Desired k) l = for_source k (controller_calls.desired k) (desires k (owner_at k s))
  call-calm (DesiredBy n) l = by_writer controller_calls.desired_of_writer replying.throws_type_error (λ k. tt) tt (lock_at n s)
  call-calm (Pipe source dest prevent signal) l =
      for_source source (replying.for_writable dest (pipe_calls.for_signal_where signal (pipe_calls.pipe_unlocked source dest prevent signal)))
      (for_writable dest (pipe_calls.for_signal_where signal (pipe_calls.pipe_unlocked source dest prevent signal)) (pipe_where source dest prevent signal))
  call-calm MakeSignal l = tt
  call-calm (Trigger a reason) l = either P (has_signal a s) _ _ (λ e. (tt, tt)) (λ e. tt)
  call-calm (Send k) l = sends k
  call-calm (Open side) l = either P (nat_lt (length s.streams) most_streams) _ _ (λ e. opens side) (λ e. tt)
  call-calm (Deliver q m) l = either P (has_port q s) _ _ (λ e. (tt, tt)) (λ e. tt)
  call-calm (Settle h answer) l = settle_host h answer (host_at h s)
  call-calm (State k) l = either P (has_source k s) _ _ (λ e. tt) (λ e. for_writable k (λ s. replying.replies (ReplyState (writable_looks.state_of (writable_at k s))) s) tt)
  call-calm Step l = tt

-- so a call that spares it closes it in no step
pub call-closes : (t : TransformId) (r : StreamId) (s : Slots) (c : Call) → Halved s → Ended s → Reads t r s → Reads t r (begin c s).done.slots → spares r c ≡ true → step_closings r s (Called c) ≡ 0
call-closes t r s c halved ended reads after l = none-closes t r (begin c s).done (call-calm t r s halved reads c l) (halved-stays.call s c halved) (ended-stays.call s c ended) after
