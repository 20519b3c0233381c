-- What an operation of a writable stream does outside its record: it makes and settles promises, tells of a signal, and causes
-- algorithms of this stream and the call of the host's write algorithm.
use Rattle.std.proofs.Common.{Bool, true, false, not, ◌&&◌, ◌||◌, is_none, List, [], ◌∷◌, Option, Some, None, Result, Ok, Err, if◌then◌else◌}
use Rattle.ws_value.specs.declared.ids.PromiseId.{PromiseId}
use Rattle.ws_value.specs.declared.ids.PortId.{PortId}
use Rattle.ws_value.specs.declared.ids.StreamId.{StreamId}
use Rattle.ws_value.specs.declared.value.Plain.{Plain}
use Rattle.ws_value.specs.declared.value.Plain.TheVariants.{Undefined}
use Rattle.ws_value.specs.declared.value.Value.{Value}
use Rattle.ws_steps.specs.declared.{calls.Event.TheVariants.{Signal}, effects.Effect.TheVariants.{Transform as OnTransform, Port as OnPort, WriteAlgorithm, CloseAlgorithm, AbortAlgorithm}, effects.Owner.{Owner}}
use Rattle.ws_steps.specs.declared.{effects.Owner.TheVariants.{Host, HalfOf, BranchOf, EndOf}, writable.PendingAbort.{PendingAbort}, writable.WritableOperation.{WritableOperation}}
use Rattle.ws_steps.specs.declared.{transform.Taker.{Taker}, transform.Taker.TheVariants.{ToHost, ToTransform, ToPort}, transform.TransformId.{TransformId}, transform.TransformOperation.TheVariants.{TransformChunk}}
use Rattle.ws_steps.specs.declared.port.PortOperation.TheVariants.{PostChunk}
use Rattle.ws_steps.specs.declared.writable.WritableOperation.TheVariants as names
use Rattle.ws_steps.specs.declared.{writable.WritableState.{WritableState}, writable.WritableState.TheVariants.{Writable, Erroring, Errored, Closed}, writable.WriteRecord.{WriteRecord}}
use Rattle.ws_steps.specs.declared.{writable.WriteRecord.TheVariants.{Chunk, InFlight, CloseMark}, writable.Writer.{Writer}}
use Rattle.ws_steps.specs.Effects.{Out, cause, settling, type_error}
use Rattle.ws_steps.specs.Promises.{Table, next_id, is_pending_at, fresh, fresh_settled, tell, settle as settle_promise}
use Rattle.ws_steps.specs.Queues.{first_value, enqueued}
use Rattle.ws_steps.specs.Operations.{writable_operation}
use Rattle.ws_steps.specs.Writable.{Slots, Acts, with_promises, settle_request, settle_pending, reject_all, ensure_rejected, settle_abort, ready_promise, closed_promise, add_write_request, is_writable, is_erroring, is_errored, is_closed, is_closing, is_in_flight, has_ended, differs, change_ready, ready_for, has_backpressure, update_backpressure, refresh_backpressure, reject_close, reject_closed, reject_close_and_closed, abort_by, finish_abort, fail_writes, finish_erroring, reject_ready, start_erroring, deal_with_rejection, controller_error_if_needed, process_write, process_close, process_first, advance_queue, write_to_host, hand_on_first, hand_on, write_ended, without_first, write_settled, close_ended, abort_ended, clear_error, fulfil_closed, finish_in_flight_close, finish_in_flight_close_with_error, close_settled, start_settled, abort_settled, enqueue_chunk, controller_write, write_refusal, write_by, writer_write, controller_close, add_close_request, fulfil_ready, stream_close, close_with_error_propagation, add_pending_abort, begin_abort, signalled, stream_abort, abort_if_writable, set_up_writer, release_by, writer_release}
use Rattle.ws_laws.proofs.Tables.{either}

-- what goes on with each settling and each new promise, with the telling of a signal, and with the algorithms of writable stream i
pub record OfAlgorithms (Q : Out → Type 0) (i : StreamId) : Type 0 where
  pub settle : (x : Out) (p : PromiseId) (o : Result Plain Plain) → Q x → Q (settling p o x)
  pub fresh : (x : Out) → Q x → Q (record x { promises = fresh x.promises })
  pub tell : (x : Out) (r : Plain) → Q x → Q (record x { promises = tell (Signal i r) x.promises })
  pub write : (x : Out) → Q x → Q (cause (WriteAlgorithm i) x)
  pub close : (x : Out) → Q x → Q (cause (CloseAlgorithm i) x)
  pub abort : (x : Out) (r : Plain) (p : PromiseId) → Q x → Q (cause (AbortAlgorithm i r p) x)

-- and with the handing on of a chunk, to the host, to a transform stream or to a port
pub record OfWritable (Q : Out → Type 0) (i : StreamId) : Type 0 where
  pub settle : (x : Out) (p : PromiseId) (o : Result Plain Plain) → Q x → Q (settling p o x)
  pub fresh : (x : Out) → Q x → Q (record x { promises = fresh x.promises })
  pub tell : (x : Out) (r : Plain) → Q x → Q (record x { promises = tell (Signal i r) x.promises })
  pub write : (x : Out) → Q x → Q (cause (WriteAlgorithm i) x)
  pub close : (x : Out) → Q x → Q (cause (CloseAlgorithm i) x)
  pub abort : (x : Out) (r : Plain) (p : PromiseId) → Q x → Q (cause (AbortAlgorithm i r p) x)
  pub hand_on : (x : Out) (v : Value) → Q x → Q (cause (write_to_host i v) x)
  pub take : (x : Out) (v : Value) (t : TransformId) (d : PromiseId) → Q x → Q (cause (OnTransform t (TransformChunk v d)) x)
  pub post : (x : Out) (v : Value) (c : PortId) (d : PromiseId) → Q x → Q (cause (OnPort c (PostChunk v d)) x)

abbrev pub IsHandOn : WritableOperation → Type 0
IsHandOn (names.HandOn taker) = Unit {0}
IsHandOn _ = ⊥

module _ (Q : Out → Type 0) (i : StreamId) (of : OfAlgorithms Q i) where
  abbrev Does : Acts → Acts → Type 0
  Does a b = Q a.out → Q b.out

  fresh_settled-does : (x : Out) (o : Result Plain Plain) → Q x → Q (record x { promises = fresh_settled o x.promises })
  fresh_settled-does x o h = of.settle (record x { promises = fresh x.promises }) (next_id x.promises) o (of.fresh x h)

  request-does : (x : Out) (o : Result Plain Plain) (p : Option PromiseId) → Q x → Q (record x { promises = settle_request o x.promises p })
  request-does x o None h = h
  request-does x o (Some p) h = of.settle x p o h

  pending-does : (x : Out) (p : PromiseId) (o : Result Plain Plain) → Q x → Q (record x { promises = settle_pending p o x.promises })
  unfolding settle_pending
  pending-does x p o h = either (λ (t : Table). Q (record x { promises = t })) (is_pending_at p x.promises) _ _ (λ e. of.settle x p o h) (λ e. h)

  reject_all-does : (x : Out) (e : Plain) (ps : List PromiseId) → Q x → Q (record x { promises = reject_all e ps x.promises })
  reject_all-does x e [] h = h
  reject_all-does x e (p ∷ ps) h = reject_all-does (settling p (Err e) x) e ps (of.settle x p (Err e) h)

  ensure-does : (x : Out) (p : PromiseId) (r : Plain) → Q x → Q (record x { promises = ensure_rejected p r x.promises })
  unfolding ensure_rejected
  ensure-does x p r h =
      either (λ (t : Table). Q (record x { promises = t })) (is_pending_at p x.promises) _ _ (λ e. of.settle x p (Err r) h) (λ e. fresh_settled-does x (Err r) h)

  settle_abort-does : (x : Out) (o : Result Plain Plain) (abort : Option PendingAbort) → Q x → Q (record x { promises = settle_abort o x.promises abort })
  settle_abort-does x o None h = h
  settle_abort-does x o (Some abort) h = of.settle x abort.promise o h

  ready_for-does : (b : Bool) (a : Acts) (w : Option Writer) → Does a (ready_for b a w)
  ready_for-does b a None h = h
  ready_for-does true a (Some w) h = either (λ (z : Acts). Q z.out) (differs true a.slots.backpressure) (change_ready w a true) a (λ e. of.fresh a.out h) (λ e. h)
  ready_for-does false a (Some w) h =
      either (λ (z : Acts). Q z.out) (differs false a.slots.backpressure) (change_ready w a false) a (λ e. of.settle a.out w.ready (Ok Undefined) h) (λ e. h)

  pub refresh-does : (a : Acts) → Does a (refresh_backpressure a)
  unfolding refresh_backpressure update_backpressure
  refresh-does a h =
      either (λ (z : Acts). Q z.out) (not (is_closing a.slots) && is_writable a.slots.state) (update_backpressure (has_backpressure a.slots) a) a
      (λ e. ready_for-does (has_backpressure a.slots) a a.slots.writer h) (λ e. h)

  reject_close-does : (a : Acts) (p : Option PromiseId) → Does a (reject_close a p)
  reject_close-does a None h = h
  reject_close-does a (Some p) h = of.settle a.out p (Err a.slots.stored_error) h

  reject_closed-does : (a : Acts) (w : Option Writer) → Does a (reject_closed a w)
  reject_closed-does a None h = h
  reject_closed-does a (Some w) h = pending-does a.out w.closed (Err a.slots.stored_error) h

  reject_both-does : (a : Acts) → Does a (reject_close_and_closed a)
  unfolding reject_close_and_closed
  reject_both-does a h = let b : Acts = reject_close a a.slots.close_request in reject_closed-does b b.slots.writer (reject_close-does a a.slots.close_request h)

  abort_by-does : (abort : PendingAbort) (a : Acts) (was : Bool) → Does a (abort_by i abort a was)
  abort_by-does abort a true h =
      let t : Table = settle_promise abort.promise (Err a.slots.stored_error) a.out.promises in
      reject_both-does (with_promises t a) (of.settle a.out abort.promise (Err a.slots.stored_error) h)
  abort_by-does abort a false h = of.abort a.out abort.reason abort.promise h

  pub finish_abort-does : (a : Acts) (abort : Option PendingAbort) → Does a (finish_abort i a abort)
  finish_abort-does a None h = reject_both-does a h
  finish_abort-does a (Some abort) h = abort_by-does abort (record a { slots = record a.slots { pending_abort = None } }) abort.was_already_erroring h

  finish-does : (a : Acts) → Does a (finish_erroring i a)
  unfolding finish_erroring
  finish-does a h =
      let b : Acts = fail_writes a in
      finish_abort-does b b.slots.pending_abort (reject_all-does a.out a.slots.stored_error a.slots.write_requests h)

  reject_ready-does : (r : Plain) (a : Acts) (w : Option Writer) → Does a (reject_ready r a w)
  reject_ready-does r a None h = h
  reject_ready-does r a (Some w) h = ensure-does a.out w.ready r h

  erring-does : (r : Plain) (a : Acts) → Does a (start_erroring i r a)
  unfolding start_erroring
  erring-does r a h =
      let z : Acts = record a { slots = record a.slots { state = Erroring; stored_error = r } } in
      let b : Acts = reject_ready r z a.slots.writer in
      let k : Q b.out = reject_ready-does r z a.slots.writer h in
      either (λ (z : Acts). Q z.out) (not (is_in_flight b.slots) && b.slots.started) (finish_erroring i b) b (λ e. finish-does b k) (λ e. k)

  pub rejection-does : (e : Plain) (a : Acts) → Does a (deal_with_rejection i e a)
  unfolding deal_with_rejection
  rejection-does e a h =
      either (λ (z : Acts). Q z.out) (is_writable a.slots.state) (start_erroring i e a) (finish_erroring i a) (λ w. erring-does e a h) (λ w. finish-does a h)

  if_needed-does : (e : Plain) (a : Acts) → Does a (controller_error_if_needed i e a)
  unfolding controller_error_if_needed
  if_needed-does e a h = either (λ (z : Acts). Q z.out) (is_writable a.slots.state) (start_erroring i e a) a (λ w. erring-does e a h) (λ w. h)

  first-does : (a : Acts) (first : Option WriteRecord) → Does a (process_first i a first)
  unfolding process_write process_close
  first-does a None h = h
  first-does a (Some (Chunk v)) h = of.write a.out h
  first-does a (Some InFlight) h = h
  first-does a (Some CloseMark) h = of.close a.out h

  pub advance-does : (a : Acts) → Does a (advance_queue i a)
  unfolding advance_queue
  advance-does a h =
      either (λ (z : Acts). Q z.out) (a.slots.started && is_none a.slots.write_in_flight)
      (if is_erroring a.slots.state then finish_erroring i a else process_first i a (first_value a.slots.queue)) a
      (λ e. either (λ (z : Acts). Q z.out) (is_erroring a.slots.state) (finish_erroring i a) (process_first i a (first_value a.slots.queue))
      (λ e. finish-does a h) (λ e. first-does a (first_value a.slots.queue) h)) (λ e. h)

  clear-does : (a : Acts) → Does a (clear_error a)
  clear-does a h =
      either (λ (z : Acts). Q z.out) (is_erroring a.slots.state) (abort_ended (Ok Undefined) (record a { slots = record a.slots { stored_error = Undefined } })) a
      (λ e. settle_abort-does a.out (Ok Undefined) a.slots.pending_abort h) (λ e. h)

  fulfil_closed-does : (a : Acts) (w : Option Writer) → Does a (fulfil_closed a w)
  fulfil_closed-does a None h = h
  fulfil_closed-does a (Some w) h = of.settle a.out w.closed (Ok Undefined) h

  fulfil_ready-does : (a : Acts) (w : Option Writer) → Does a (fulfil_ready a w)
  fulfil_ready-does a None h = h
  fulfil_ready-does a (Some w) h =
      either (λ (z : Acts). Q z.out) (a.slots.backpressure && is_writable a.slots.state) _ a (λ e. of.settle a.out w.ready (Ok Undefined) h) (λ e. h)

  write_by-does : (v : Value) (p : PromiseId) (a : Acts) (refusal : Option Plain) → Does a (write_by i v p a refusal)
  unfolding controller_write
  write_by-does v p a (Some e) h = of.settle a.out p (Err e) h
  write_by-does v p a None h =
      let b : Acts = enqueue_chunk v (add_write_request p a) in
      advance-does (refresh_backpressure b) (refresh-does b h)

  close-does : (p : PromiseId) (a : Acts) → Does a (stream_close i p a)
  unfolding stream_close controller_close
  close-does p a h =
      let b : Acts = add_close_request p a in
      let c : Acts = fulfil_ready b b.slots.writer in
      either (λ (z : Acts). Q z.out) (has_ended a.slots.state || is_closing a.slots) _ (controller_close i c) (λ e. of.settle a.out p (Err type_error) h)
      (λ e. advance-does (record c { slots = record c.slots { queue = enqueued CloseMark 0 c.slots.queue } }) (fulfil_ready-does b b.slots.writer h))

  signalled-does : (r : Plain) (a : Acts) (owner : Owner) → Does a (signalled i r a owner)
  signalled-does r a Host h = of.tell a.out r h
  signalled-does r a (HalfOf t) h = h
  signalled-does r a (BranchOf t half) h = h
  signalled-does r a (EndOf c) h = h

  abort-does : (r : Plain) (p : PromiseId) (a : Acts) → Does a (begin_abort i r p a)
  abort-does r p a h =
      either (λ (z : Acts). Q z.out) (is_erroring a.slots.state) (add_pending_abort r p a) (start_erroring i r (add_pending_abort r p a))
      (λ e. h) (λ e. erring-does r (add_pending_abort r p a) h)

  stream_abort-does : (r : Plain) (p : PromiseId) (a : Acts) → Does a (stream_abort i r p a)
  unfolding stream_abort
  stream_abort-does r p a h =
      let b : Acts = signalled i r a a.slots.owner in
      either (λ (z : Acts). Q z.out) (has_ended a.slots.state) _ (begin_abort i r p b) (λ e. of.settle a.out p (Ok Undefined) h)
      (λ e. abort-does r p b (signalled-does r a a.slots.owner h))

  release-does : (a : Acts) (w : Option Writer) → Does a (release_by a w)
  release-does a None h = h
  release-does a (Some w) h =
      pending-does (record a.out { promises = settle_pending w.ready (Err type_error) a.out.promises }) w.closed (Err type_error) (pending-does a.out w.ready (Err type_error) h)

  ready_promise-does : (p : PromiseId) (s : Slots) (x : Out) (state : WritableState) → Q x → Q (record x { promises = ready_promise p s x.promises state })
  ready_promise-does p s x Writable h =
      either (λ (t : Table). Q (record x { promises = t })) (not (is_closing s) && s.backpressure) x.promises _ (λ e. h) (λ e. of.settle x p (Ok Undefined) h)
  ready_promise-does p s x Erroring h = of.settle x p (Err s.stored_error) h
  ready_promise-does p s x Errored h = of.settle x p (Err s.stored_error) h
  ready_promise-does p s x Closed h = of.settle x p (Ok Undefined) h

  closed_promise-does : (p : PromiseId) (s : Slots) (x : Out) (state : WritableState) → Q x → Q (record x { promises = closed_promise p s x.promises state })
  closed_promise-does p s x Writable h = h
  closed_promise-does p s x Erroring h = h
  closed_promise-does p s x Errored h = of.settle x p (Err s.stored_error) h
  closed_promise-does p s x Closed h = of.settle x p (Ok Undefined) h

  close_settled-does : (o : Result Plain Plain) (a : Acts) → Does a (close_settled i o a)
  unfolding close_settled finish_in_flight_close finish_in_flight_close_with_error
  close_settled-does (Ok v) a h =
      let b : Acts = close_ended (Ok Undefined) a in
      let c : Acts = clear_error b in
      fulfil_closed-does (record c { slots = record c.slots { state = Closed } }) c.slots.writer (clear-does b (request-does a.out (Ok Undefined) a.slots.close_in_flight h))
  close_settled-does (Err e) a h =
      let b : Acts = close_ended (Err e) a in
      rejection-does e (abort_ended (Err e) b) (settle_abort-does b.out (Err e) a.slots.pending_abort (request-does a.out (Err e) a.slots.close_in_flight h))

  propagating-does : (p : PromiseId) (a : Acts) → Does a (close_with_error_propagation i p a)
  unfolding close_with_error_propagation
  propagating-does p a h =
      either (λ (z : Acts). Q z.out) (is_closing a.slots || is_closed a.slots.state) _ _ (λ e. of.settle a.out p (Ok Undefined) h)
      (λ e. either (λ (z : Acts). Q z.out) (is_errored a.slots.state) _ _ (λ f. of.settle a.out p (Err a.slots.stored_error) h) (λ f. close-does p a h))

  abort_writable-does : (r : Plain) (p : PromiseId) (a : Acts) → Does a (abort_if_writable i r p a)
  unfolding abort_if_writable
  abort_writable-does r p a h = either (λ (z : Acts). Q z.out) (is_writable a.slots.state) _ _ (λ e. stream_abort-does r p a h) (λ e. of.settle a.out p (Ok Undefined) h)

  -- all but the handing on of a chunk
  pub others-do : (operation : WritableOperation) (a : Acts) → (IsHandOn operation → ⊥) → Does a (writable_operation i operation a)
  unfolding set_up_writer writer_release writer_write start_settled write_settled abort_settled
  others-do (names.SetUpWriter w) a u h =
      closed_promise-does w.closed a.slots (record a.out { promises = ready_promise w.ready a.slots a.out.promises a.slots.state }) a.slots.state
      (ready_promise-does w.ready a.slots a.out a.slots.state h)
  others-do names.ReleaseWriter a u h = release-does a a.slots.writer h
  others-do (names.Write v p) a u h = write_by-does v p a (write_refusal a.slots) h
  others-do (names.Close p) a u h = close-does p a h
  others-do (names.ClosePropagating p) a u h = propagating-does p a h
  others-do (names.Abort r p) a u h = stream_abort-does r p a h
  others-do (names.AbortIfWritable r p) a u h = abort_writable-does r p a h
  others-do (names.ErrorIfNeeded e) a u h = if_needed-does e a h
  others-do (names.HandOn taker) a u h = absurd (u tt)
  others-do (names.StartSettled (Ok v)) a u h = advance-does (record a { slots = record a.slots { started = true } }) h
  others-do (names.StartSettled (Err e)) a u h = rejection-does e (record a { slots = record a.slots { started = true } }) h
  others-do (names.WriteSettled (Ok v)) a u h =
      let b : Acts = without_first (write_ended (Ok Undefined) a) in
      advance-does (refresh_backpressure b) (refresh-does b (request-does a.out (Ok Undefined) a.slots.write_in_flight h))
  others-do (names.WriteSettled (Err e)) a u h = rejection-does e (write_ended (Err e) a) (request-does a.out (Err e) a.slots.write_in_flight h)
  others-do (names.CloseSettled o) a u h = close_settled-does o a h
  others-do (names.AbortSettled p (Ok v)) a u h =
      let t : Table = settle_promise p (Ok Undefined) a.out.promises in reject_both-does (with_promises t a) (of.settle a.out p (Ok Undefined) h)
  others-do (names.AbortSettled p (Err e)) a u h =
      let t : Table = settle_promise p (Err e) a.out.promises in reject_both-does (with_promises t a) (of.settle a.out p (Err e) h)

module _ (Q : Out → Type 0) (i : StreamId) (of : OfWritable Q i) where
  hand_on-does : (taker : Taker) (a : Acts) (first : Option WriteRecord) → Q a.out → Q (hand_on_first i taker a first).out
  hand_on-does taker a None h = h
  hand_on-does ToHost a (Some (Chunk v)) h = of.hand_on a.out v h
  hand_on-does (ToTransform t d) a (Some (Chunk v)) h = of.take a.out v t d h
  hand_on-does (ToPort c d) a (Some (Chunk v)) h = of.post a.out v c d h
  hand_on-does taker a (Some InFlight) h = h
  hand_on-does taker a (Some CloseMark) h = h

  pub writable-does : (operation : WritableOperation) (a : Acts) → Q a.out → Q (writable_operation i operation a).out
  unfolding hand_on
  writable-does (names.HandOn taker) a h = hand_on-does taker a (first_value a.slots.queue) h
  writable-does operation a h =
      others-do Q i (record { settle = of.settle; fresh = of.fresh; tell = of.tell; write = of.write; close = of.close; abort = of.abort }) operation a (λ u. u) h
