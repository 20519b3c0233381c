-- What calls begin with that leave a link alone.
use Rattle.std.proofs.Common.{◌≡◌, ◌⊎◌, inl, inr, ℕ, ◌+◌, Bool, true, false, not, ◌*◌, nat_lt, if◌then◌else◌, List, [], ◌∷◌, ◌++◌, length, Option, Some, None, Err, slice_get, refl, sym, ◌∙◌, subst}
use Rattle.ws_value.specs.declared.ids.HostId.{HostId}
use Rattle.ws_value.specs.declared.ids.LockId.{LockId}
use Rattle.ws_value.specs.declared.ids.PipeId.{PipeId}
use Rattle.ws_value.specs.declared.ids.PromiseId.{PromiseId}
use Rattle.ws_value.specs.declared.ids.RequestId.{RequestId}
use Rattle.ws_value.specs.declared.ids.SignalId.{SignalId}
use Rattle.ws_value.specs.declared.ids.StreamId.{StreamId}
use Rattle.ws_value.specs.declared.value.Plain.{Plain}
use Rattle.ws_value.specs.declared.value.Value.{Value}
use Rattle.ws_value.specs.declared.fault.Fault.{Fault}
use Rattle.ws_value.specs.declared.value.Plain.TheVariants.{Fault as FaultReason}
use Rattle.ws_value.specs.declared.fault.Fault.TheVariants.{TypeError as TypeErrorFault}
use Rattle.ws_steps.specs.declared.byte.ByteOperation.TheVariants.{PullInto, Respond as RespondBytes}
use Rattle.ws_steps.specs.declared.calls.Answer.{Answer}
use Rattle.ws_steps.specs.declared.calls.Call.{Call}
use Rattle.ws_steps.specs.declared.calls.Call.TheVariants.{Tee as TeeCall, MakeReadable, MakeBytes, GetByob, ReadInto, Request, Respond, MakeWritable, MakeTransform, GetReader, GetWriter, Cancel, CancelBy, Read, Write, Close, CloseBy, Abort, AbortBy, Closed, Ready, Release, Enqueue, Finish, Fail, Terminate, Desired, DesiredBy, Pipe, MakeSignal, Trigger, Send, Open, Deliver, Settle, State, Step}
use Rattle.ws_steps.specs.declared.calls.Reply.{Reply}
use Rattle.ws_steps.specs.declared.calls.Reply.TheVariants.{Done as ReplyDone, Promise, Request as ReplyRequest, State as ReplyState, Throws, TooMany}
use Rattle.ws_steps.specs.declared.calls.Thrown.TheVariants.{TypeError, Unsupported}
use Rattle.ws_steps.specs.declared.calls.StartBy.{StartBy}
use Rattle.ws_steps.specs.declared.calls.StartBy.TheVariants.{Now, Later}
use Rattle.ws_steps.specs.declared.effects.Effect.{Effect}
use Rattle.ws_steps.specs.declared.effects.Effect.TheVariants.{Readable as OnReadable, Byte as OnByte, Writable as OnWritable, Signal as OnSignal, Transform as OnTransform, Settle as SettlePromise}
use Rattle.ws_steps.specs.declared.effects.Owner.{Owner}
use Rattle.ws_steps.specs.declared.effects.Owner.TheVariants.{Host, HalfOf, BranchOf, EndOf}
use Rattle.ws_steps.specs.declared.locks.Lock.{Lock}
use Rattle.ws_steps.specs.declared.locks.Lock.TheVariants.{Reader as ReaderLock, ByobReader, Writer as WriterLock, ReleasedWriter, Inner}
use Rattle.ws_steps.specs.declared.pipes.Prevent.{Prevent}
use Rattle.ws_steps.specs.declared.pipes.SignalOperation.TheVariants.{Trigger as TriggerSignal}
use Rattle.ws_steps.specs.declared.readable.ReadRequest.TheVariants.{Promise as PromiseRequest}
use Rattle.ws_steps.specs.declared.readable.ReadableOperation.TheVariants.{Read as ReadChunk, Cancel as CancelStream, Error as ErrorReadable}
use Rattle.ws_steps.specs.declared.transform.Kind.{Kind}
use Rattle.ws_steps.specs.declared.transform.TransformOperation.TheVariants.{Error as ErrorTransform}
use Rattle.ws_steps.specs.declared.writable.WritableOperation.TheVariants.{Write as WriteChunk, Close as CloseStream, Abort as AbortStream, ErrorIfNeeded}
use Rattle.ws_steps.specs.declared.writable.Writer.{Writer}
use Rattle.ws_steps.specs.Begun as replying
use Rattle.ws_steps.specs.MakingCalls as making_calls
use Rattle.ws_steps.specs.LockCalls as lock_calls
use Rattle.ws_steps.specs.ControllerCalls as controller_calls
use Rattle.ws_steps.specs.PipeCalls as pipe_calls
use Rattle.ws_steps.specs.Begun.{Begun}
use Rattle.ws_steps.specs.Calls.{begin}
use Rattle.ws_steps.specs.Descriptors.{Descriptor, respond_throws}
use Rattle.ws_steps.specs.Histories.{is_same}
use Rattle.ws_steps.specs.Pipes as pipe
use Rattle.ws_steps.specs.Promises.{Table, next_id, fresh, is_pending_at}
use Rattle.ws_steps.specs.Readable as readable
use Rattle.ws_steps.specs.ReadableLooks as readable_looks
use Rattle.ws_steps.specs.WritableLooks as writable_looks
use Rattle.ws_steps.specs.Slots.{Slots, most_streams, has_readable, has_byte, has_source, has_writable, has_signal, owner_at, readable_at, byte_at, source_at, stream_of_request, writable_at, lock_at, host_at, is_teed}
use Rattle.ws_steps.specs.Writable as writable
use Rattle.ws_flow.specs.Told.{Open, Told}
use Rattle.ws_flow.proofs.Told.{short_refl}
use Rattle.ws_laws.proofs.Halves.{Halved}
use Rattle.ws_laws.proofs.Lists.{Each, each-append}
use Rattle.ws_laws.proofs.Tables.{either}
use Rattle.ws_laws.proofs.Truth.{not_false, and_left, and_right}
use Rattle.ws_link_laws.specs.Link.{Ear, silence, unheard, giver_at, enters, leaves}
use Rattle.ws_link_laws.specs.Sound.{spares, all_spare, AreApart, IsApart, all_untied}
use Rattle.ws_link_laws.proofs.Telling.{is_of, if_same, IsSilent, silent-all, coming}
use Rattle.ws_link_laws.proofs.Unheard.{fresh-unheard}
use Rattle.ws_pipe_laws.proofs.pipes.PassingRuns.{appended}
use Rattle.ws_steps.specs.Tee as tee
use Rattle.ws_laws.proofs.EachCall.{each_call}
use Rattle.ws_laws.proofs.Ended.{Ended as AreEnds}
use Rattle.ws_steps.specs.declared.calls.Call.TheVariants.{Send, Open, Deliver}
use Rattle.ws_steps.specs.declared.calls.Thrown.TheVariants.{DataClone}
use Rattle.ws_steps.specs.declared.port.PortOperation.TheVariants.{Deliver as DeliverMessage}
use Rattle.ws_steps.specs.declared.effects.Effect.TheVariants.{Port as OnPort}
use Rattle.ws_steps.specs.declared.port.Side.{Side}
use Rattle.ws_steps.specs.Slots.{has_port}
use Rattle.ws_steps.specs.declared.port.Side.TheVariants.{Readable as ReadableSide}
use Rattle.ws_link_laws.proofs.Outer.{IsOuter, spare-at, spare-set, spare-append, not-new, source-here, sink-here, Begins}
use Rattle.ws_link_laws.proofs.CallEnters.{refused, brings, terminate_call, enqueue_call, finish_call, deliver-comes, deliver-nowhere}

module _ (i j : StreamId) (p : PipeId) (s : Slots) (here : has_source i s ≡ true) (sink : has_writable j s ≡ true) (halved : Halved s) (ended : AreEnds s) (locks : all_spare i j s.locks ≡ true) (apart : AreApart i j p s.pipes) where
  abbrev P : Begun → Type 0
  P b = Begins i j p s silence b

  unchanged : (reply : Reply) → P (replying.replies reply s)
  unchanged reply = record { locks = locks; apart = apart; heard = λ w. refl; outer = tt; comes = λ own. short_refl _ }

  -- a call that causes effects of others, and changes no more than these
  quietly : (b : Begun) → all_spare i j b.done.slots.locks ≡ true → AreApart i j p b.done.slots.pipes → ((w : Ear) → unheard w b.done.slots.promises.events ≡ unheard w s.promises.events) → Each (IsOuter i j) b.done.caused → Each (IsSilent (coming (giver_at i s) i)) b.done.caused → P b
  quietly b l a h o c = record { locks = l; apart = a; heard = h; outer = o; comes = λ own. rw (silent-all (coming (giver_at i s) i) b.done.caused c) (short_refl _) }

  promising : (f : PromiseId → List Effect) → Each (IsOuter i j) (f (next_id s.promises)) → Each (IsSilent (coming (giver_at i s) i)) (f (next_id s.promises)) → P (replying.promising f s)
  promising f o c = quietly (replying.promising f s) locks apart (λ w. fresh-unheard w s.promises) o c

  does : (es : List Effect) → Each (IsOuter i j) es → Each (IsSilent (coming (giver_at i s) i)) es → P (replying.does es s)
  does es o c = quietly (replying.does es s) locks apart (λ w. refl) o c

  rejected_with : (fault : Fault) → P (replying.rejected_with fault s)
  rejected_with fault = promising (λ q. SettlePromise q (Err (FaultReason fault)) ∷ []) (tt, tt) (refl, tt)

  rejected : P (replying.rejected s)
  rejected = rejected_with TypeErrorFault

  for_source : (k : StreamId) (operation : Slots → Begun) → P (operation s) → P (replying.for_source k operation s)
  for_source k operation h = either P (has_source k s) (operation s) (replying.unsupported s) (λ e. h) (λ e. unchanged (Throws Unsupported))

  for_writable : (k : StreamId) (operation : Slots → Begun) → P (operation s) → P (replying.for_writable k operation s)
  for_writable k operation h = either P (has_writable k s) (operation s) (replying.unsupported s) (λ e. h) (λ e. unchanged (Throws Unsupported))

  by_reader : (holding : StreamId → Slots → Begun) (free : Slots → Begun) → ((k : StreamId) → is_same i k ≡ false → P (holding k s)) → P (free s) → (n : ℕ) (o : Option Lock) → slice_get s.locks n ≡ o → P (lock_calls.by_reader holding free s o)
  by_reader holding free h f n None e = unchanged (Throws Unsupported)
  by_reader holding free h f n (Some (ReaderLock (Some k) closed)) e = for_source k (holding k) (h k (not_false (is_same i k) (spare-at i j n s.locks (ReaderLock (Some k) closed) locks e)))
  by_reader holding free h f n (Some (ReaderLock None closed)) e = f
  by_reader holding free h f n (Some (ByobReader (Some k) closed)) e = for_source k (holding k) (h k (not_false (is_same i k) (spare-at i j n s.locks (ByobReader (Some k) closed) locks e)))
  by_reader holding free h f n (Some (ByobReader None closed)) e = f
  by_reader holding free h f n (Some (WriterLock k)) e = unchanged (Throws Unsupported)
  by_reader holding free h f n (Some (ReleasedWriter w)) e = unchanged (Throws Unsupported)
  by_reader holding free h f n (Some Inner) e = unchanged (Throws Unsupported)

  by_default : (holding : StreamId → Slots → Begun) (free : Slots → Begun) → ((k : StreamId) → is_same i k ≡ false → P (holding k s)) → P (free s) → (n : ℕ) (o : Option Lock) → slice_get s.locks n ≡ o → P (lock_calls.by_default_reader holding free s o)
  by_default holding free h f n o e = either P (lock_calls.is_byob_reader o) (replying.unsupported s) (lock_calls.by_reader holding free s o) (λ b. unchanged (Throws Unsupported)) (λ b. by_reader holding free h f n o e)

  by_byob : (holding : StreamId → Slots → Begun) (free : Slots → Begun) → ((k : StreamId) → is_same i k ≡ false → P (holding k s)) → P (free s) → (n : ℕ) (o : Option Lock) → slice_get s.locks n ≡ o → P (lock_calls.by_byob_reader holding free s o)
  by_byob holding free h f n o e = either P (lock_calls.is_byob_reader o) (lock_calls.by_reader holding free s o) (replying.unsupported s) (λ b. by_reader holding free h f n o e) (λ b. unchanged (Throws Unsupported))

  by_writer : (holding : StreamId → Slots → Begun) (free : Slots → Begun) → ((k : StreamId) → is_same j k ≡ false → P (holding k s)) → P (free s) → (n : ℕ) (o : Option Lock) → slice_get s.locks n ≡ o → P (lock_calls.by_writer holding free s o)
  by_writer holding free h f n None e = unchanged (Throws Unsupported)
  by_writer holding free h f n (Some (ReaderLock stream closed)) e = unchanged (Throws Unsupported)
  by_writer holding free h f n (Some (ByobReader stream closed)) e = unchanged (Throws Unsupported)
  by_writer holding free h f n (Some (WriterLock k)) e = for_writable k (holding k) (h k (not_false (is_same j k) (spare-at i j n s.locks (WriterLock k) locks e)))
  by_writer holding free h f n (Some (ReleasedWriter w)) e = f
  by_writer holding free h f n (Some Inner) e = unchanged (Throws Unsupported)

  of_writer : (operation : Writer → Slots → Begun) (w : Option Writer) → ((v : Writer) → P (operation v s)) → P (lock_calls.of_writer operation s w)
  of_writer operation None h = unchanged (Throws Unsupported)
  of_writer operation (Some w) h = h w

  closed_by : (o : Option Lock) → P (lock_calls.closed_by s o)
  closed_by None = unchanged (Throws Unsupported)
  closed_by (Some (ReaderLock stream closed)) = unchanged (Promise closed)
  closed_by (Some (ByobReader stream closed)) = unchanged (Promise closed)
  closed_by (Some (WriterLock k)) = of_writer (λ w. replying.replies (Promise w.closed)) (writable_at k s).writer (λ w. unchanged (Promise w.closed))
  closed_by (Some (ReleasedWriter w)) = unchanged (Promise w.closed)
  closed_by (Some Inner) = unchanged (Throws Unsupported)

  ready_by : (o : Option Lock) → P (lock_calls.ready_by s o)
  ready_by None = unchanged (Throws Unsupported)
  ready_by (Some (ReaderLock stream closed)) = unchanged (Throws Unsupported)
  ready_by (Some (ByobReader stream closed)) = unchanged (Throws Unsupported)
  ready_by (Some (WriterLock k)) = of_writer (λ w. replying.replies (Promise w.ready)) (writable_at k s).writer (λ w. unchanged (Promise w.ready))
  ready_by (Some (ReleasedWriter w)) = unchanged (Promise w.ready)
  ready_by (Some Inner) = unchanged (Throws Unsupported)

  -- a release

  renewed-outer : (t : Table) (kept : Bool) → Each (IsOuter i j) (lock_calls.reject_renewed t kept)
  renewed-outer t true = tt
  renewed-outer t false = (tt, tt)

  renewed-coming : (t : Table) (kept : Bool) → Each (IsSilent (coming (giver_at i s) i)) (lock_calls.reject_renewed t kept)
  renewed-coming t true = tt
  renewed-coming t false = (refl, tt)

  renewed-heard : (w : Ear) (t : Table) (kept : Bool) → unheard w (lock_calls.with_renewed t kept).events ≡ unheard w t.events
  renewed-heard w t true = refl
  renewed-heard w t false = fresh-unheard w t

  releases_reader : (released : PromiseId → Lock) → ((q : PromiseId) → spares i j (released q) ≡ true) → (l : LockId) (closed : PromiseId) (k : StreamId) → P (lock_calls.release_reader released l closed k s)
  releases_reader released spared l closed k =
      let kept : Bool = readable.is_readable (source_at k s).state in
      quietly (lock_calls.release_reader released l closed k s) (spare-set i j l.0 s.locks _ locks (spared (lock_calls.renewed closed s.promises kept))) apart (λ w. renewed-heard w s.promises kept)
      (each-append (IsOuter i j) (lock_calls.reject_renewed s.promises kept) _ (renewed-outer s.promises kept) (tt, tt))
      (each-append (IsSilent (coming (giver_at i s) i)) (lock_calls.reject_renewed s.promises kept) _ (renewed-coming s.promises kept) (if_same (is_same i k), tt))

  releases_writer : (l : LockId) (k : StreamId) (w : Writer) → P (lock_calls.release_writer l k w s)
  releases_writer l k w =
      let ready : Bool = is_pending_at w.ready s.promises in
      let t : Table = lock_calls.with_renewed s.promises ready in
      let closed : Bool = is_pending_at w.closed t in
      quietly (lock_calls.release_writer l k w s) (spare-set i j l.0 s.locks _ locks refl) apart (λ w. renewed-heard w t closed ∙ renewed-heard w s.promises ready)
      (each-append (IsOuter i j) (lock_calls.reject_renewed s.promises ready) _ (renewed-outer s.promises ready) (each-append (IsOuter i j) (lock_calls.reject_renewed t closed) _ (renewed-outer t closed) (tt, tt)))
      (each-append (IsSilent (coming (giver_at i s) i)) (lock_calls.reject_renewed s.promises ready) _ (renewed-coming s.promises ready) (each-append (IsSilent (coming (giver_at i s) i)) (lock_calls.reject_renewed t closed) _ (renewed-coming t closed) (refl, tt)))

  release : (l : LockId) (o : Option Lock) → P (lock_calls.release l s o)
  release l None = unchanged (Throws Unsupported)
  release l (Some (ReaderLock (Some k) closed)) = for_source k (lock_calls.release_reader (ReaderLock None) l closed k) (releases_reader (ReaderLock None) (λ q. refl) l closed k)
  release l (Some (ReaderLock None closed)) = unchanged ReplyDone
  release l (Some (ByobReader (Some k) closed)) = for_source k (lock_calls.release_reader (ByobReader None) l closed k) (releases_reader (ByobReader None) (λ q. refl) l closed k)
  release l (Some (ByobReader None closed)) = unchanged ReplyDone
  release l (Some (WriterLock k)) = of_writer (lock_calls.release_writer l k) (writable_at k s).writer (λ w. releases_writer l k w)
  release l (Some (ReleasedWriter w)) = unchanged ReplyDone
  release l (Some Inner) = unchanged (Throws Unsupported)

  -- calls on streams

  abort_unless : (reason : Plain) (k : StreamId) (o : Option PromiseId) → P (lock_calls.abort_unless reason k s o)
  abort_unless reason k None = promising (λ q. OnWritable k (AbortStream reason q) ∷ []) (tt, tt) (refl, tt)
  abort_unless reason k (Some q) = unchanged (Promise q)

  settle_host : (h : HostId) (answer : Answer) (o : Option PromiseId) → P (controller_calls.settle_host h answer s o)
  settle_host h answer None = unchanged (Throws Unsupported)
  settle_host h answer (Some q) = quietly (controller_calls.settle_host h answer s (Some q)) locks apart (λ w. refl) (tt, tt) (refl, tt)

  unlocked_readable : (k : StreamId) (locked : Slots → Begun) (free : StreamId → Slots → Begun) → P (locked s) → P (free k s) → P (replying.unlocked_readable k locked free s)
  unlocked_readable k locked free l f =
      for_source k (λ s. if readable_looks.is_locked (source_at k s) then locked s else free k s) (either P (readable_looks.is_locked (source_at k s)) (locked s) (free k s) (λ e. l) (λ e. f))

  unlocked_writable : (k : StreamId) (locked : Slots → Begun) (free : StreamId → Slots → Begun) → P (locked s) → P (free k s) → P (replying.unlocked_writable k locked free s)
  unlocked_writable k locked free l f =
      for_writable k (λ s. if writable_looks.is_locked (writable_at k s) then locked s else free k s) (either P (writable_looks.is_locked (writable_at k s)) (locked s) (free k s) (λ e. l) (λ e. f))

  -- a pipe of other streams

  begins-outer : (me : PipeId) (a b : PromiseId) (signal : Option SignalId) (reason : Option Plain) → Each (IsOuter i j) (pipe_calls.pipe_begins me a b signal reason)
  begins-outer me a b signal (Some r) = (tt, tt)
  begins-outer me a b None None = (tt, (tt, (tt, tt)))
  begins-outer me a b (Some g) None = (tt, (tt, (tt, (tt, tt))))

  begins-coming : (me : PipeId) (a b : PromiseId) (signal : Option SignalId) (reason : Option Plain) → Each (IsSilent (coming (giver_at i s) i)) (pipe_calls.pipe_begins me a b signal reason)
  begins-coming me a b signal (Some r) = (refl, tt)
  begins-coming me a b None None = (refl, (refl, (refl, tt)))
  begins-coming me a b (Some g) None = (refl, (refl, (refl, (refl, tt))))

  apart-append : (y : pipe.Slots) → IsApart i j y → AreApart i j p (s.pipes ++ y ∷ [])
  apart-append y a n x e m = by (appended s.pipes y n)
    where
      by : (slice_get (s.pipes ++ y ∷ []) n ≡ slice_get s.pipes n) ⊎ ((slice_get s.pipes n ≡ None) × (slice_get (s.pipes ++ y ∷ []) n ≡ Some y)) → IsApart i j x
      by (inl same) = apart n x (sym same ∙ e) m
      by (inr last) = let is : x ≡ y = cc in rw is a

  pipe_to : (source dest : StreamId) (prevent : Prevent) (signal : Option SignalId) → is_same i source ≡ false → is_same j dest ≡ false → P (pipe_calls.pipe_to source dest prevent signal s)
  pipe_to source dest prevent signal a b =
      let me : PipeId = record { 0 = length s.pipes } in
      let t : Table = s.promises in
      let closed : PromiseId = next_id t in
      let w : PromiseId = next_id (fresh (fresh t)) in
      quietly (pipe_calls.pipe_to source dest prevent signal s) (spare-append i j s.locks (Inner ∷ Inner ∷ []) locks refl) (apart-append _ (a, b))
      (λ w. fresh-unheard w (fresh (fresh (fresh t))) ∙ (fresh-unheard w (fresh (fresh t)) ∙ (fresh-unheard w (fresh t) ∙ fresh-unheard w t)))
      (a, (b, (tt, begins-outer me closed w signal (pipe_calls.reason_of signal s))))
      (if_same (is_same i source), (refl, (if_same (is_same i source), begins-coming me closed w signal (pipe_calls.reason_of signal s))))

  pipe_where : (source dest : StreamId) (prevent : Prevent) (signal : Option SignalId) → is_same i source ≡ false → is_same j dest ≡ false → P (pipe_calls.for_signal_where signal (pipe_calls.pipe_unlocked source dest prevent signal) s)
  pipe_where source dest prevent signal a b = by signal
    where
      free : P (pipe_calls.pipe_unlocked source dest prevent signal s)
      free =
          either P (readable_looks.is_locked (source_at source s)) (replying.rejected s) (if writable_looks.is_locked (writable_at dest s) then replying.rejected s else pipe_calls.pipe_to source dest prevent signal s) (λ e. rejected)
          (λ e. either P (writable_looks.is_locked (writable_at dest s)) (replying.rejected s) (pipe_calls.pipe_to source dest prevent signal s) (λ f. rejected) (λ f. pipe_to source dest prevent signal a b))

      by : (o : Option SignalId) → P (pipe_calls.for_signal_where o (pipe_calls.pipe_unlocked source dest prevent signal) s)
      by None = free
      by (Some g) = either P (has_signal g s) (pipe_calls.pipe_unlocked source dest prevent signal s) (replying.unsupported s) (λ e. free) (λ e. unchanged (Throws Unsupported))

  -- BYOB requests

  request_by : (k : StreamId) (request : Option RequestId) (ds : List Descriptor) → P (controller_calls.request_by k s request ds)
  request_by k request [] = unchanged (ReplyRequest None)
  request_by k (Some q) (d ∷ ds) = unchanged (controller_calls.request_by k s (Some q) (d ∷ ds)).reply
  request_by k None (d ∷ ds) = quietly (controller_calls.request_by k s None (d ∷ ds)) locks apart (λ w. refl) (tt, tt) (if_same (is_same i k), tt)

  respond_unless : (k : StreamId) (b : List ℕ) (o : Option Fault) → P (controller_calls.respond_unless k b s o)
  respond_unless k b None = does (OnByte k (RespondBytes b) ∷ []) (tt, tt) (if_same (is_same i k), tt)
  respond_unless k b (Some fault) = unchanged (controller_calls.thrown_by fault)

  respond_to : (q : RequestId) (b : List ℕ) (o : Option StreamId) → P (controller_calls.respond q b s o)
  respond_to q b None = unchanged (Throws Unsupported)
  respond_to q b (Some k) =
      either P (controller_calls.is_request q (byte_at k s).request) (controller_calls.respond_unless k b s (respond_throws (length b) (byte_at k s).stream.state (byte_at k s).descriptors)) (replying.throws_type_error s)
      (λ e. respond_unless k b (respond_throws (length b) (byte_at k s).stream.state (byte_at k s).descriptors)) (λ e. unchanged (Throws TypeError))

  get_byob_of : (k : StreamId) → not (is_same i k) ≡ true → P (making_calls.get_byob_of k s)
  get_byob_of k l =
      either P (has_byte k s) (making_calls.get_byob k s) (replying.throws_type_error s)
      (λ e. quietly (making_calls.get_byob k s) (spare-append i j s.locks _ locks (rw l refl)) apart (λ w. fresh-unheard w s.promises) (not_false (is_same i k) l, tt) (if_same (is_same i k), tt))
      (λ e. unchanged (Throws TypeError))

  read_into_by : (room : List ℕ) (element least : ℕ) (n : ℕ) (o : Option Lock) → slice_get s.locks n ≡ o → P (lock_calls.read_into_by room element least s o)
  read_into_by room element least n o e =
      let fault : Fault = lock_calls.least_fault (length room) least in
      either P (not (lock_calls.is_view (length room) element)) (replying.unsupported s) _ (λ c. unchanged (Throws Unsupported))
      (λ c. either P (not (lock_calls.has_least (length room) element least)) (lock_calls.refuse_least fault s o) (lock_calls.by_byob_reader (lock_calls.read_into room element least) replying.rejected s o)
      (λ d. by_byob (λ k. replying.rejected_with fault) (replying.rejected_with fault) (λ k n. rejected_with fault) (rejected_with fault) n o e)
      (λ d. by_byob (lock_calls.read_into room element least) replying.rejected (λ k n. promising (λ q. OnByte k (PullInto room element (least * element) (PromiseRequest q)) ∷ []) (tt, tt) (if_same (is_same i k), tt)) rejected n o e))

  -- the desired size of a branch of a tee isn't told

  desired_by : (k : StreamId) (o : Owner) → P (controller_calls.desired_by k s o)
  desired_by k Host = unchanged (controller_calls.desired_by k s Host).reply
  desired_by k (HalfOf a) = unchanged (controller_calls.desired_by k s (HalfOf a)).reply
  desired_by k (BranchOf a half) = unchanged (Throws Unsupported)
  desired_by k (EndOf c) = unchanged (Throws Unsupported)

  -- a tee of another stream
  tee_of : (k : StreamId) → not (is_same i k) ≡ true → P (making_calls.tee_of k s)
  tee_of k l =
      either P (has_byte k s) (replying.unsupported s) _ (λ e. unchanged (Throws Unsupported))
      (λ e. either P (is_teed k s) (replying.throws_type_error s) _ (λ t. unchanged (Throws TypeError))
      (λ t. either P (nat_lt (length s.streams + 1) most_streams) _ _
      (λ m. quietly (making_calls.make_tee k (record { 0 = length s.streams }) (record { 0 = length s.streams + 1 }) s) (spare-append i j s.locks (Inner ∷ []) locks refl) apart
      (λ w. fresh-unheard w (fresh s.promises) ∙ fresh-unheard w s.promises) (not_false (is_same i k) l, (tt, (tt, (tt, tt)))) (if_same (is_same i k), (refl, (refl, (refl, tt)))))
      (λ m. unchanged TooMany)))

  -- calls on transform streams

  starts-outer : (q : PromiseId) (k : StreamId) (start : StartBy) → IsOuter i j (making_calls.start_transform q k start)
  starts-outer q k Now = tt
  starts-outer q k Later = tt

  starts-coming : (q : PromiseId) (k : StreamId) (start : StartBy) → IsSilent (coming (giver_at i s) i) (making_calls.start_transform q k start)
  starts-coming q k Now = refl
  starts-coming q k Later = refl

  make_transform : (kind : Kind) (m n : ℕ) (start : StartBy) → P (making_calls.make_transform kind m n start (record { 0 = length s.streams }) (record { 0 = length s.streams + 1 }) s)
  make_transform kind m n start =
      let t : Table = s.promises in
      let k : StreamId = record { 0 = length s.streams + 1 } in
      quietly (making_calls.make_transform kind m n start (record { 0 = length s.streams }) k s) locks apart
      (λ w. fresh-unheard w (fresh (fresh (fresh t))) ∙ (fresh-unheard w (fresh (fresh t)) ∙ (fresh-unheard w (fresh t) ∙ fresh-unheard w t)))
      (tt, (tt, (tt, (tt, (starts-outer (next_id (fresh t)) k start, tt))))) (refl, (refl, (refl, (refl, (starts-coming (next_id (fresh t)) k start, tt)))))

  fails_readable : (reason : Plain) (k : StreamId) (o : Owner) → P (controller_calls.fail_readable_by reason k s o)
  fails_readable reason k Host = does (OnReadable k (ErrorReadable reason) ∷ []) (tt, tt) (if_same (is_same i k), tt)
  fails_readable reason k (HalfOf a) = does (OnTransform a (ErrorTransform reason) ∷ []) (tt, tt) (if_same (is_of (giver_at i s) a), tt)
  fails_readable reason k (BranchOf a half) = unchanged (Throws Unsupported)
  fails_readable reason k (EndOf c) = unchanged (Throws Unsupported)

  fails_writable : (reason : Plain) (k : StreamId) (o : Owner) → P (controller_calls.fail_writable_by reason k s o)
  fails_writable reason k Host = does (OnWritable k (ErrorIfNeeded reason) ∷ []) (tt, tt) (refl, tt)
  fails_writable reason k (HalfOf a) = unchanged (Throws Unsupported)
  fails_writable reason k (BranchOf a half) = unchanged (Throws Unsupported)
  fails_writable reason k (EndOf c) = unchanged (Throws Unsupported)

  -- calls on ports

  opens : (side : Side) → P (pipe_calls.open_end side (record { 0 = length s.streams }) s)
  opens ReadableSide = quietly (pipe_calls.open_end ReadableSide (record { 0 = length s.streams }) s) locks apart (λ w. refl) (tt, tt) (refl, tt)
  opens WritableSide = quietly (pipe_calls.open_end WritableSide (record { 0 = length s.streams }) s) locks apart (λ w. fresh-unheard w s.promises) (tt, tt) (refl, tt)

  abbrev new : StreamId
  new = record { 0 = length s.streams }

  sends_readable : (k : StreamId) → is_same i k ≡ false → P (pipe_calls.send_readable k new s)
  sends_readable k a =
      let b : is_same j new ≡ false = not-new j s.streams (sink-here j s sink) in
      let t : Table = fresh s.promises in
      let me : PipeId = record { 0 = length s.pipes } in
      quietly (pipe_calls.send_readable k new s) (spare-append i j s.locks (Inner ∷ Inner ∷ []) locks refl) (apart-append _ (a, b))
      (λ w. fresh-unheard w (fresh (fresh (fresh t))) ∙ (fresh-unheard w (fresh (fresh t)) ∙ (fresh-unheard w (fresh t) ∙ (fresh-unheard w t ∙ fresh-unheard w s.promises))))
      (tt, (a, (b, (tt, begins-outer me (next_id t) (next_id (fresh (fresh t))) None None))))
      (refl, (if_same (is_same i k), (refl, (if_same (is_same i k), begins-coming me (next_id t) (next_id (fresh (fresh t))) None None))))

  sends_writable : (k : StreamId) → is_same j k ≡ false → P (pipe_calls.send_writable k new s)
  sends_writable k b =
      let a : is_same i new ≡ false = not-new i s.streams (source-here i s here) in
      let t : Table = s.promises in
      let me : PipeId = record { 0 = length s.pipes } in
      quietly (pipe_calls.send_writable k new s) (spare-append i j s.locks (Inner ∷ Inner ∷ []) locks refl) (apart-append _ (a, b))
      (λ w. fresh-unheard w (fresh (fresh (fresh t))) ∙ (fresh-unheard w (fresh (fresh t)) ∙ (fresh-unheard w (fresh t) ∙ fresh-unheard w t)))
      (tt, (a, (b, (tt, begins-outer me (next_id t) (next_id (fresh (fresh t))) None None))))
      (refl, (if_same (is_same i new), (refl, (if_same (is_same i new), begins-coming me (next_id t) (next_id (fresh (fresh t))) None None))))

  sends : (k : StreamId) → is_same i k ≡ false → is_same j k ≡ false → P (pipe_calls.send k s)
  sends k a b =
      either P (has_source k s) _ _
      (λ e. unlocked_readable k replying.throws_data_clone (λ source. making_calls.make_stream (pipe_calls.send_readable source)) (unchanged (Throws DataClone)) (either P (nat_lt (length s.streams) most_streams) _ _ (λ f. sends_readable k a) (λ f. unchanged TooMany)))
      (λ e. unlocked_writable k replying.throws_data_clone (λ dest. making_calls.make_stream (pipe_calls.send_writable dest)) (unchanged (Throws DataClone)) (either P (nat_lt (length s.streams) most_streams) _ _ (λ f. sends_writable k b) (λ f. unchanged TooMany)))

  -- each call
  pub call-begins : (c : Call) → leaves i j c ≡ true → Begins i j p s (enters (giver_at i s) i c) (begin c s)
  unfolding begin
  call-begins (MakeReadable mark size start) l = either P (nat_lt (length s.streams) most_streams) _ _ (λ e. quietly (making_calls.make_readable mark size start (record { 0 = length s.streams }) s) locks apart (λ w. refl) (tt, tt) (refl, tt)) (λ e. unchanged TooMany)
  call-begins (MakeBytes mark auto start) l =
      either P (nat_lt (length s.streams) most_streams) _ _ (λ e. quietly (making_calls.make_bytes mark auto start (record { 0 = length s.streams }) s) locks apart (λ w. refl) (tt, tt) (refl, tt)) (λ e. unchanged TooMany)
  call-begins (MakeWritable mark size start) l = either P (nat_lt (length s.streams) most_streams) _ _ (λ e. quietly (making_calls.make_writable mark size start (record { 0 = length s.streams }) s) locks apart (λ w. refl) (tt, tt) (refl, tt)) (λ e. unchanged TooMany)
  call-begins (MakeTransform kind m n start) l = either P (nat_lt (length s.streams + 1) most_streams) _ _ (λ e. make_transform kind m n start) (λ e. unchanged TooMany)
  call-begins (GetReader k) l =
      unlocked_readable k replying.throws_type_error making_calls.get_reader (unchanged (Throws TypeError))
      (quietly (making_calls.get_reader k s) (spare-append i j s.locks _ locks (rw l refl)) apart (λ w. fresh-unheard w s.promises) (not_false (is_same i k) l, tt) (if_same (is_same i k), tt))
  call-begins (TeeCall k) l = unlocked_readable k replying.throws_type_error making_calls.tee_of (unchanged (Throws TypeError)) (tee_of k l)
  call-begins (GetByob k) l = unlocked_readable k replying.throws_type_error making_calls.get_byob_of (unchanged (Throws TypeError)) (get_byob_of k l)
  call-begins (GetWriter k) l =
      unlocked_writable k replying.throws_type_error making_calls.get_writer (unchanged (Throws TypeError))
      (quietly (making_calls.get_writer k s) (spare-append i j s.locks _ locks (rw l refl)) apart (λ w. fresh-unheard w (fresh s.promises) ∙ fresh-unheard w s.promises) (not_false (is_same j k) l, tt) (refl, tt))
  call-begins (Cancel k reason) l = unlocked_readable k replying.rejected (lock_calls.cancel reason) rejected (promising (λ q. OnReadable k (CancelStream reason q) ∷ []) (not_false (is_same i k) l, tt) (if_same (is_same i k), tt))
  call-begins (CancelBy n reason) l = by_reader (lock_calls.cancel reason) replying.rejected (λ k d. promising (λ q. OnReadable k (CancelStream reason q) ∷ []) (d, tt) (if_same (is_same i k), tt)) rejected n.0 (lock_at n s) refl
  call-begins (Read n) l = by_default lock_calls.read replying.rejected (λ k d. promising (λ q. OnReadable k (ReadChunk (PromiseRequest q)) ∷ []) (d, tt) (if_same (is_same i k), tt)) rejected n.0 (lock_at n s) refl
  call-begins (ReadInto n room element least) l = read_into_by room element least n.0 (lock_at n s) refl
  call-begins (Write n v) l = by_writer (lock_calls.write v) replying.rejected (λ k d. promising (λ q. OnWritable k (WriteChunk v q) ∷ []) (d, tt) (refl, tt)) rejected n.0 (lock_at n s) refl
  call-begins (Close k) l = unlocked_writable k replying.rejected lock_calls.close rejected (promising (λ q. OnWritable k (CloseStream q) ∷ []) (not_false (is_same j k) l, tt) (refl, tt))
  call-begins (CloseBy n) l = by_writer lock_calls.close replying.rejected (λ k d. promising (λ q. OnWritable k (CloseStream q) ∷ []) (d, tt) (refl, tt)) rejected n.0 (lock_at n s) refl
  call-begins (Abort k reason) l = unlocked_writable k replying.rejected (lock_calls.abort reason) rejected (abort_unless reason k (writable.answered_abort (writable_at k s)))
  call-begins (AbortBy n reason) l = by_writer (lock_calls.abort reason) replying.rejected (λ k d. abort_unless reason k (writable.answered_abort (writable_at k s))) rejected n.0 (lock_at n s) refl
  call-begins (Closed n) l = closed_by (lock_at n s)
  call-begins (Ready n) l = ready_by (lock_at n s)
  call-begins (Release n) l = release n (lock_at n s)
  call-begins (Enqueue k v) l = enqueue_call i j p s here sink halved ended locks apart k v
  call-begins (Finish k) l = finish_call i j p s here sink halved ended locks apart k
  call-begins (Fail k reason) l =
      either P (has_readable k s) _ _ (λ e. fails_readable reason k (readable_at k s).owner)
      (λ e. either P (has_byte k s) _ _ (λ f. does (OnReadable k (ErrorReadable reason) ∷ []) (tt, tt) (if_same (is_same i k), tt))
      (λ f. for_writable k (λ s. controller_calls.fail_writable_by reason k s (writable_at k s).owner) (fails_writable reason k (writable_at k s).owner)))
  call-begins (Terminate k) l = terminate_call i j p s here sink halved ended locks apart k
  call-begins (Request k) l = either P (has_byte k s) _ _ (λ e. request_by k (byte_at k s).request (byte_at k s).descriptors) (λ e. unchanged (Throws Unsupported))
  call-begins (Respond q b) l = respond_to q b (stream_of_request q s)
  call-begins (Desired k) l = for_source k (controller_calls.desired k) (desired_by k (owner_at k s))
  call-begins (DesiredBy n) l = by_writer controller_calls.desired_of_writer replying.throws_type_error (λ k d. unchanged (controller_calls.desired_of_writer k s).reply) (unchanged (Throws TypeError)) n.0 (lock_at n s) refl
  call-begins (Pipe source dest prevent signal) l =
      let a = not_false (is_same i source) (and_left (not (is_same i source)) (not (is_same j dest)) l) in
      let b = not_false (is_same j dest) (and_right (not (is_same i source)) (not (is_same j dest)) l) in
      for_source source (replying.for_writable dest (pipe_calls.for_signal_where signal (pipe_calls.pipe_unlocked source dest prevent signal)))
      (for_writable dest (pipe_calls.for_signal_where signal (pipe_calls.pipe_unlocked source dest prevent signal)) (pipe_where source dest prevent signal a b))
  call-begins MakeSignal l = quietly (pipe_calls.make_signal s) locks apart (λ w. refl) tt tt
  call-begins (Trigger a reason) l = either P (has_signal a s) _ _ (λ e. does (OnSignal a (TriggerSignal reason) ∷ []) (tt, tt) (refl, tt)) (λ e. unchanged (Throws Unsupported))
  call-begins (Send k) l =
      let a = not_false (is_same i k) (and_left (not (is_same i k)) (not (is_same j k)) l) in
      let b = not_false (is_same j k) (and_right (not (is_same i k)) (not (is_same j k)) l) in
      sends k a b
  call-begins (Open side) l = either P (nat_lt (length s.streams) most_streams) _ _ (λ e. opens side) (λ e. unchanged TooMany)
  call-begins (Deliver c m) l =
      let t : Told Value = enters (giver_at i s) i (Deliver c m) in
      either (Begins i j p s t) (has_port c s) _ _
      (λ e. brings i j p s here sink halved ended locks apart t ReplyDone (OnPort c (DeliverMessage m)) tt (deliver-comes i j p s here sink halved ended locks apart c m (giver_at i s)))
      (λ e. refused i j p s here sink halved ended locks apart t (Throws Unsupported) (inl (deliver-nowhere i j p s here sink halved ended locks apart c m e)))
  call-begins (Settle h answer) l = settle_host h answer (host_at h s)
  call-begins (State k) l =
      either P (has_source k s) _ _ (λ e. unchanged (ReplyState (readable_looks.state_of (source_at k s))))
      (λ e. for_writable k (λ s. replying.replies (ReplyState (writable_looks.state_of (writable_at k s))) s) (unchanged (ReplyState (writable_looks.state_of (writable_at k s)))))
  call-begins Step l = unchanged ReplyDone

-- no call but a tee of the source makes one that has it

untied-append : (i : StreamId) (xs : List tee.Slots) (y : tee.Slots) → all_untied i xs ≡ true → not (is_same i y.source) ≡ true → all_untied i (xs ++ y ∷ []) ≡ true
untied-append i [] y u n = rw n refl
untied-append i (x ∷ xs) y u n =
    let a = and_left (not (is_same i x.source)) (all_untied i xs) u in
    let b = untied-append i xs y (and_right (not (is_same i x.source)) (all_untied i xs) u) n in
    rw (a, b) refl

port-tees : (s : Slots) (side : Side) → (pipe_calls.open_end side (record { 0 = length s.streams }) s).done.slots.tees ≡ s.tees
port-tees s ReadableSide = refl
port-tees s WritableSide = refl

pub call-untied : (i j : StreamId) (c : Call) (s : Slots) → leaves i j c ≡ true → all_untied i s.tees ≡ true → all_untied i (begin c s).done.slots.tees ≡ true
call-untied i j c s l u = each_call (λ (b : Begun). all_untied i b.done.slots.tees ≡ true) c s (record {
  unchanged = λ reply. u;
  rejected = λ fault. u;
  make_readable = λ mark size start. u;
  make_bytes = λ mark auto start. u;
  make_writable = λ mark size start. u;
  make_transform = λ kind m n start. u;
  make_tee = λ k e there free untied. untied-append i s.tees _ u (subst (λ (x : Call). leaves i j x ≡ true) e l);
  get_reader = λ k e. u;
  get_byob = λ k is e. u;
  get_writer = λ k e. u;
  release_reader = λ n closed k e. u;
  release_byob = λ n closed k e. u;
  release_writer = λ n k w e f. u;
  cancel = λ reason k. u;
  read = λ n k closed e f. u;
  read_into = λ n k closed room element least e f. u;
  write = λ n v k e. u;
  close = λ k. u;
  abort = λ reason k e. u;
  enqueue = λ k v e o can. u;
  enqueue_half = λ k t v e o can. u;
  enqueue_bytes = λ k b e is some can. u;
  finish = λ k. u;
  finish_bytes = λ k e is can. u;
  make_request = λ k reply is. u;
  respond = λ r k b e is can. u;
  fail_readable = λ k reason. u;
  fail_writable = λ k reason. u;
  fail_half = λ t reason. u;
  terminate = λ t. u;
  pipe = λ source dest prevent signal e f m n. u;
  make_signal = u;
  open_end = λ side. rw (port-tees s side) u;
  send_readable = λ k there free. u;
  send_writable = λ k there free. u;
  deliver = λ p m e is. u;
  trigger = λ a reason. u;
  settle = λ h answer q e. u;
})
