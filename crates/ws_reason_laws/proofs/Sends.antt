-- A writable stream keeps no chunk and no reason of an abort that can't be cloned, and performs its abort algorithm with none, where none is given to it.
use Rattle.std.proofs.Common.{◌≡◌, ℕ, Bool, true, false, not, ◌&&◌, ◌||◌, is_none, List, [], ◌∷◌, ◌++◌, Option, Some, None, Result, Ok, Err, refl, ◌∙◌, arith}
use Rattle.ws_value.specs.declared.ids.PromiseId.{PromiseId}
use Rattle.ws_value.specs.declared.ids.StreamId.{StreamId}
use Rattle.ws_value.specs.declared.value.Plain.{Plain}
use Rattle.ws_value.specs.declared.value.Plain.TheVariants.{Undefined}
use Rattle.ws_value.specs.declared.value.Value.{Value}
use Rattle.ws_value.specs.Values.{is_cloneable, is_value_cloneable}
use Rattle.ws_steps.specs.declared.effects.Effect.{Effect}
use Rattle.ws_steps.specs.declared.effects.Effect.TheVariants.{Port as OnPort, CancelAlgorithm, WriteAlgorithm, CloseAlgorithm, AbortAlgorithm}
use Rattle.ws_steps.specs.declared.effects.Owner.{Owner}
use Rattle.ws_steps.specs.declared.effects.Owner.TheVariants.{Host, HalfOf, BranchOf, EndOf}
use Rattle.ws_steps.specs.declared.port.PortOperation.TheVariants.{Leave}
use Rattle.ws_steps.specs.declared.queue.Queued.{Queued}
use Rattle.ws_steps.specs.declared.transform.Taker.{Taker}
use Rattle.ws_steps.specs.declared.transform.Taker.TheVariants.{ToHost, ToTransform, ToPort}
use Rattle.ws_steps.specs.declared.writable.PendingAbort.{PendingAbort}
use Rattle.ws_steps.specs.declared.writable.WritableOperation.{WritableOperation}
use Rattle.ws_steps.specs.declared.writable.WritableOperation.TheVariants as names
use Rattle.ws_steps.specs.declared.writable.WritableState.{WritableState}
use Rattle.ws_steps.specs.declared.writable.WritableState.TheVariants.{Writable, Erroring, Errored, Closed}
use Rattle.ws_steps.specs.declared.writable.WriteRecord.{WriteRecord}
use Rattle.ws_steps.specs.declared.writable.WriteRecord.TheVariants.{Chunk, InFlight, CloseMark}
use Rattle.ws_steps.specs.declared.writable.Writer.{Writer}
use Rattle.ws_steps.specs.Effects.{type_error}
use Rattle.ws_steps.specs.Operations.{writable_operation}
use Rattle.ws_steps.specs.Promises.{settle}
use Rattle.ws_steps.specs.Queues.{first_value, with_first_value, rest_of, enqueued, size_of}
use Rattle.ws_steps.specs.Writable.{Slots, Acts, with_promises, is_writable, is_erroring, is_errored, is_closed, is_closing, is_in_flight, has_backpressure, has_ended, differs, change_ready, ready_for, update_backpressure, refresh_backpressure, reject_close, reject_closed, reject_close_and_closed, abort_by, finish_abort, fail_writes, finish_erroring, reject_ready, start_erroring, deal_with_rejection, controller_error_if_needed, process_write, process_close, process_first, advance_queue, taken_by, hand_on_first, hand_on, write_ended, without_first, write_settled, close_ended, abort_ended, clear_error, fulfil_closed, finish_in_flight_close, finish_in_flight_close_with_error, close_settled, start_settled, abort_settled, enqueue_chunk, controller_write, add_write_request, write_refusal, write_by, writer_write, controller_close, add_close_request, fulfil_ready, stream_close, close_with_error_propagation, abort_of, add_pending_abort, begin_abort, signalled, stream_abort, abort_if_writable, set_up_writer, release_by, writer_release}
use Rattle.ws_laws.proofs.Lists.{Each, each-append}
use Rattle.ws_laws.proofs.Tables.{either}
use Rattle.ws_laws.proofs.Truth.{and_right}
use Rattle.ws_reason_laws.specs.Uncloned.{writes_uncloned}

-- what can be cloned

abbrev pub record_cloned : WriteRecord → Bool
record_cloned (Chunk v) = is_value_cloneable v
record_cloned InFlight = true
record_cloned CloseMark = true

abbrev pub all_cloned : List (Queued WriteRecord) → Bool
all_cloned [] = true
all_cloned (q ∷ qs) = record_cloned q.value && all_cloned qs

abbrev pub abort_cloned : Option PendingAbort → Bool
abort_cloned None = true
abort_cloned (Some abort) = is_cloneable abort.reason

-- what cancels and aborts, and leaves by a port
abbrev pub Calm : Effect → Type 0
Calm (CancelAlgorithm i r p) = is_cloneable r ≡ true
Calm (AbortAlgorithm i r p) = is_cloneable r ≡ true
Calm (OnPort c (Leave r u)) = is_cloneable r ≡ true
Calm _ = Unit {0}

rest-cloned : (queue : List (Queued WriteRecord)) → all_cloned queue ≡ true → all_cloned (rest_of queue) ≡ true
rest-cloned [] h = refl
rest-cloned (q ∷ qs) h = and_right (record_cloned q.value) (all_cloned qs) h

handed-cloned : (queue : List (Queued WriteRecord)) → all_cloned queue ≡ true → all_cloned (with_first_value InFlight queue) ≡ true
handed-cloned [] h = refl
handed-cloned (q ∷ qs) h = and_right (record_cloned q.value) (all_cloned qs) h

more-cloned : (w : WriteRecord) (size : ℕ) (queue : List (Queued WriteRecord)) → record_cloned w ≡ true → all_cloned queue ≡ true → all_cloned (enqueued w size queue) ≡ true
more-cloned w size [] c h = grind (arith, c)
more-cloned w size (q ∷ qs) c h =
    let rest = more-cloned w size qs c (and_right (record_cloned q.value) (all_cloned qs) h) in grind (arith, rest, h)

more : (x : Effect) (es : List Effect) → Calm x → Each Calm es → Each Calm (es ++ x ∷ [])
more x es c h = each-append Calm es (x ∷ []) h (c, tt)

-- of a stream, and of what it causes
pub record Sends (a : Acts) : Type 0 where
  pub queue : all_cloned a.slots.queue ≡ true
  pub abort : abort_cloned a.slots.pending_abort ≡ true
  pub effects : Each Calm a.out.effects

module _ (me : StreamId) where
  close-sends : (a : Acts) (p : Option PromiseId) → Sends a → Sends (reject_close a p)
  close-sends a None h = h
  close-sends a (Some p) h = record { queue = h.queue; abort = h.abort; effects = h.effects }

  closed-sends : (a : Acts) (w : Option Writer) → Sends a → Sends (reject_closed a w)
  closed-sends a None h = h
  closed-sends a (Some w) h = record { queue = h.queue; abort = h.abort; effects = h.effects }

  both-sends : (a : Acts) → Sends a → Sends (reject_close_and_closed a)
  unfolding reject_close_and_closed
  both-sends a h = let b : Acts = reject_close a a.slots.close_request in closed-sends b b.slots.writer (close-sends a a.slots.close_request h)

  -- erroring

  abort_by-sends : (abort : PendingAbort) (a : Acts) (was : Bool) → is_cloneable abort.reason ≡ true → Sends a → Sends (abort_by me abort a was)
  abort_by-sends abort a true c h =
      both-sends (with_promises (settle abort.promise (Err a.slots.stored_error) a.out.promises) a) (record { queue = h.queue; abort = h.abort; effects = h.effects })
  abort_by-sends abort a false c h =
      record { queue = h.queue; abort = h.abort; effects = more (AbortAlgorithm me abort.reason abort.promise) a.out.effects c h.effects }

  finish_abort-sends : (a : Acts) (abort : Option PendingAbort) → abort_cloned abort ≡ true → Sends a → Sends (finish_abort me a abort)
  finish_abort-sends a None c h = both-sends a h
  finish_abort-sends a (Some abort) c h =
      abort_by-sends abort (record a { slots = record a.slots { pending_abort = None } }) abort.was_already_erroring c (record { queue = h.queue; abort = refl; effects = h.effects })

  finish-sends : (a : Acts) → Sends a → Sends (finish_erroring me a)
  unfolding finish_erroring
  finish-sends a h =
      let b : Acts = fail_writes a in finish_abort-sends b b.slots.pending_abort h.abort (record { queue = refl; abort = h.abort; effects = h.effects })

  ready-sends : (r : Plain) (a : Acts) (w : Option Writer) → Sends a → Sends (reject_ready r a w)
  ready-sends r a None h = h
  ready-sends r a (Some w) h = record { queue = h.queue; abort = h.abort; effects = h.effects }

  start-sends : (r : Plain) (a : Acts) → Sends a → Sends (start_erroring me r a)
  unfolding start_erroring
  start-sends r a h =
      let c : Acts = record a { slots = record a.slots { state = Erroring; stored_error = r } } in
      let b : Acts = reject_ready r c a.slots.writer in
      let k : Sends b = ready-sends r c a.slots.writer (record { queue = h.queue; abort = h.abort; effects = h.effects }) in
      either Sends (not (is_in_flight b.slots) && b.slots.started) (finish_erroring me b) b (λ e. finish-sends b k) (λ e. k)

  deal-sends : (e : Plain) (a : Acts) → Sends a → Sends (deal_with_rejection me e a)
  unfolding deal_with_rejection
  deal-sends e a h = either Sends (is_writable a.slots.state) (start_erroring me e a) (finish_erroring me a) (λ w. start-sends e a h) (λ w. finish-sends a h)

  needed-sends : (e : Plain) (a : Acts) → Sends a → Sends (controller_error_if_needed me e a)
  unfolding controller_error_if_needed
  needed-sends e a h = either Sends (is_writable a.slots.state) (start_erroring me e a) a (λ w. start-sends e a h) (λ w. h)

  -- the queue

  first-sends : (a : Acts) (o : Option WriteRecord) → Sends a → Sends (process_first me a o)
  unfolding process_write process_close
  first-sends a None h = h
  first-sends a (Some CloseMark) h =
      record { queue = rest-cloned a.slots.queue h.queue; abort = h.abort; effects = more (CloseAlgorithm me) a.out.effects tt h.effects }
  first-sends a (Some (Chunk v)) h = record { queue = h.queue; abort = h.abort; effects = more (WriteAlgorithm me) a.out.effects tt h.effects }
  first-sends a (Some InFlight) h = h

  advance-sends : (a : Acts) → Sends a → Sends (advance_queue me a)
  unfolding advance_queue
  advance-sends a h =
      either Sends (a.slots.started && is_none a.slots.write_in_flight) _ a
      (λ e. either Sends (is_erroring a.slots.state) (finish_erroring me a) (process_first me a (first_value a.slots.queue)) (λ f. finish-sends a h) (λ f. first-sends a (first_value a.slots.queue) h))
      (λ e. h)

  taken-calm : (v : Value) (taker : Taker) → Calm (taken_by me v taker)
  taken-calm v ToHost = tt
  taken-calm v (ToTransform t d) = tt
  taken-calm v (ToPort c d) = tt

  handed-sends : (taker : Taker) (a : Acts) (o : Option WriteRecord) → Sends a → Sends (hand_on_first me taker a o)
  handed-sends taker a None h = h
  handed-sends taker a (Some CloseMark) h = h
  handed-sends taker a (Some InFlight) h = h
  handed-sends taker a (Some (Chunk v)) h =
      record { queue = handed-cloned a.slots.queue h.queue; abort = h.abort; effects = more (taken_by me v taker) a.out.effects (taken-calm v taker) h.effects }

  changes-sends : (w : Writer) (a : Acts) (b : Bool) → Sends a → Sends (change_ready w a b)
  changes-sends w a true h = record { queue = h.queue; abort = h.abort; effects = h.effects }
  changes-sends w a false h = record { queue = h.queue; abort = h.abort; effects = h.effects }

  ready_for-sends : (b : Bool) (a : Acts) (w : Option Writer) → Sends a → Sends (ready_for b a w)
  ready_for-sends b a None h = h
  ready_for-sends b a (Some w) h = either Sends (differs b a.slots.backpressure) (change_ready w a b) a (λ e. changes-sends w a b h) (λ e. h)

  update-sends : (b : Bool) (a : Acts) → Sends a → Sends (update_backpressure b a)
  unfolding update_backpressure
  update-sends b a h = let k = ready_for-sends b a a.slots.writer h in record { queue = k.queue; abort = k.abort; effects = k.effects }

  refresh-sends : (a : Acts) → Sends a → Sends (refresh_backpressure a)
  unfolding refresh_backpressure
  refresh-sends a h =
      either Sends (not (is_closing a.slots) && is_writable a.slots.state) (update_backpressure (has_backpressure a.slots) a) a (λ e. update-sends (has_backpressure a.slots) a h) (λ e. h)

  -- reactions

  clear-sends : (a : Acts) → Sends a → Sends (clear_error a)
  clear-sends a h =
      either Sends (is_erroring a.slots.state) (abort_ended (Ok Undefined) (record a { slots = record a.slots { stored_error = Undefined } })) a
      (λ e. record { queue = h.queue; abort = refl; effects = h.effects }) (λ e. h)

  fulfil-sends : (a : Acts) (w : Option Writer) → Sends a → Sends (fulfil_closed a w)
  fulfil-sends a None h = h
  fulfil-sends a (Some w) h = record { queue = h.queue; abort = h.abort; effects = h.effects }

  finished-sends : (a : Acts) → Sends a → Sends (finish_in_flight_close a)
  unfolding finish_in_flight_close
  finished-sends a h =
      let b : Acts = clear_error (close_ended (Ok Undefined) a) in
      let k : Sends b = clear-sends (close_ended (Ok Undefined) a) (record { queue = h.queue; abort = h.abort; effects = h.effects }) in
      fulfil-sends (record b { slots = record b.slots { state = Closed } }) b.slots.writer (record { queue = k.queue; abort = k.abort; effects = k.effects })

  -- writes, closes and aborts

  write-sends : (v : Value) (a : Acts) → is_value_cloneable v ≡ true → Sends a → Sends (controller_write me v a)
  unfolding controller_write
  write-sends v a c h =
      let b : Acts = enqueue_chunk v a in
      let k : Sends b = record { queue = more-cloned (Chunk v) (size_of a.slots.size_by v) a.slots.queue c h.queue; abort = h.abort; effects = h.effects } in
      advance-sends (refresh_backpressure b) (refresh-sends b k)

  write_by-sends : (v : Value) (p : PromiseId) (a : Acts) (o : Option Plain) → is_value_cloneable v ≡ true → Sends a → Sends (write_by me v p a o)
  write_by-sends v p a (Some e) c h = record { queue = h.queue; abort = h.abort; effects = h.effects }
  write_by-sends v p a None c h = write-sends v (add_write_request p a) c (record { queue = h.queue; abort = h.abort; effects = h.effects })

  fulfil_ready-sends : (a : Acts) (w : Option Writer) → Sends a → Sends (fulfil_ready a w)
  fulfil_ready-sends a None h = h
  fulfil_ready-sends a (Some w) h =
      either Sends (a.slots.backpressure && is_writable a.slots.state) (with_promises (settle w.ready (Ok Undefined) a.out.promises) a) a
      (λ e. record { queue = h.queue; abort = h.abort; effects = h.effects }) (λ e. h)

  controller_close-sends : (a : Acts) → Sends a → Sends (controller_close me a)
  unfolding controller_close
  controller_close-sends a h =
      advance-sends (record a { slots = record a.slots { queue = enqueued CloseMark 0 a.slots.queue } }) (record { queue = more-cloned CloseMark 0 a.slots.queue refl h.queue; abort = h.abort; effects = h.effects })

  stream_close-sends : (p : PromiseId) (a : Acts) → Sends a → Sends (stream_close me p a)
  unfolding stream_close
  stream_close-sends p a h =
      let b : Acts = add_close_request p a in
      either Sends (has_ended a.slots.state || is_closing a.slots) _ (controller_close me (fulfil_ready b b.slots.writer))
      (λ e. record { queue = h.queue; abort = h.abort; effects = h.effects })
      (λ e. controller_close-sends (fulfil_ready b b.slots.writer) (fulfil_ready-sends b b.slots.writer (record { queue = h.queue; abort = h.abort; effects = h.effects })))

  propagating-sends : (p : PromiseId) (a : Acts) → Sends a → Sends (close_with_error_propagation me p a)
  unfolding close_with_error_propagation
  propagating-sends p a h =
      either Sends (is_closing a.slots || is_closed a.slots.state) _ _ (λ e. record { queue = h.queue; abort = h.abort; effects = h.effects })
      (λ e. either Sends (is_errored a.slots.state) _ (stream_close me p a) (λ f. record { queue = h.queue; abort = h.abort; effects = h.effects }) (λ f. stream_close-sends p a h))

  abort-of : (p : PromiseId) (r : Plain) (was : Bool) → is_cloneable r ≡ true → abort_cloned (Some (abort_of p r was)) ≡ true
  abort-of p r true c = refl
  abort-of p r false c = c

  pending-sends : (r : Plain) (p : PromiseId) (a : Acts) → is_cloneable r ≡ true → Sends a → Sends (add_pending_abort r p a)
  pending-sends r p a c h = record { queue = h.queue; abort = abort-of p r (is_erroring a.slots.state) c; effects = h.effects }

  begin-sends : (r : Plain) (p : PromiseId) (a : Acts) → is_cloneable r ≡ true → Sends a → Sends (begin_abort me r p a)
  begin-sends r p a c h =
      either Sends (is_erroring a.slots.state) (add_pending_abort r p a) (start_erroring me r (add_pending_abort r p a)) (λ e. pending-sends r p a c h)
      (λ e. start-sends r (add_pending_abort r p a) (pending-sends r p a c h))

  signalled-sends : (r : Plain) (a : Acts) (owner : Owner) → Sends a → Sends (signalled me r a owner)
  signalled-sends r a Host h = record { queue = h.queue; abort = h.abort; effects = h.effects }
  signalled-sends r a (HalfOf t) h = h
  signalled-sends r a (BranchOf t half) h = h
  signalled-sends r a (EndOf c) h = h

  abort-sends : (r : Plain) (p : PromiseId) (a : Acts) → is_cloneable r ≡ true → Sends a → Sends (stream_abort me r p a)
  unfolding stream_abort
  abort-sends r p a c h =
      either Sends (has_ended a.slots.state) _ (begin_abort me r p (signalled me r a a.slots.owner)) (λ e. record { queue = h.queue; abort = h.abort; effects = h.effects })
      (λ e. begin-sends r p (signalled me r a a.slots.owner) c (signalled-sends r a a.slots.owner h))

  if_writable-sends : (r : Plain) (p : PromiseId) (a : Acts) → is_cloneable r ≡ true → Sends a → Sends (abort_if_writable me r p a)
  unfolding abort_if_writable
  if_writable-sends r p a c h =
      either Sends (is_writable a.slots.state) (stream_abort me r p a) _ (λ e. abort-sends r p a c h) (λ e. record { queue = h.queue; abort = h.abort; effects = h.effects })

  release-sends : (a : Acts) (w : Option Writer) → Sends a → Sends (release_by a w)
  release-sends a None h = h
  release-sends a (Some w) h = record { queue = h.queue; abort = h.abort; effects = h.effects }

  given : (b : Bool) → not b ≡ false → b ≡ true
  given b e = grind (arith, e)

  -- a stream that isn't writable takes no chunk, and no reason of an abort

  refused : (s : Slots) (state : WritableState) → s.state ≡ state → is_writable state ≡ false → (e : Plain) × (write_refusal s ≡ Some e)
  refused s Writable is n = cc
  refused s Erroring is n =
      by (is_closing s) refl
    where
      by : (b : Bool) → is_closing s ≡ b → (e : Plain) × (write_refusal s ≡ Some e)
      by true e = (type_error, rw (is, e) refl)
      by false e = (s.stored_error, rw (is, e) refl)
  refused s Errored is n = (s.stored_error, rw is refl)
  refused s Closed is n =
      by (is_closing s) refl
    where
      by : (b : Bool) → is_closing s ≡ b → (e : Plain) × (write_refusal s ≡ Some e)
      by true e = (type_error, rw (is, e) refl)
      by false e = (type_error, rw (is, e) refl)

  erroring : (state : WritableState) → is_writable state ≡ false → has_ended state ≡ false → state ≡ Erroring
  erroring Writable w e = cc
  erroring Erroring w e = refl
  erroring Errored w e = cc
  erroring Closed w e = cc

  state-of : (r : Plain) (a : Acts) (o : Owner) → (signalled me r a o).slots.state ≡ a.slots.state
  state-of r a Host = refl
  state-of r a (HalfOf t) = refl
  state-of r a (BranchOf t half) = refl
  state-of r a (EndOf c) = refl

  late-begin : (r : Plain) (p : PromiseId) (a : Acts) → a.slots.state ≡ Erroring → Sends a → Sends (begin_abort me r p a)
  late-begin r p a is h = rw is (record { queue = h.queue; abort = refl; effects = h.effects })

  late-abort : (r : Plain) (p : PromiseId) (a : Acts) → is_writable a.slots.state ≡ false → Sends a → Sends (stream_abort me r p a)
  unfolding stream_abort
  late-abort r p a s h =
      let b : Acts = signalled me r a a.slots.owner in
      either Sends (has_ended a.slots.state) _ (begin_abort me r p b) (λ e. record { queue = h.queue; abort = h.abort; effects = h.effects })
      (λ e. late-begin r p b (state-of r a a.slots.owner ∙ erroring a.slots.state s e) (signalled-sends r a a.slots.owner h))

  pub operation-sends : (operation : WritableOperation) (a : Acts) → writes_uncloned operation ≡ false → Sends a → Sends (writable_operation me operation a)
  unfolding set_up_writer writer_release writer_write hand_on start_settled write_settled close_settled finish_in_flight_close_with_error abort_settled
  operation-sends (names.SetUpWriter w) a n h = record { queue = h.queue; abort = h.abort; effects = h.effects }
  operation-sends names.ReleaseWriter a n h = release-sends a a.slots.writer h
  operation-sends (names.Write v p) a n h = write_by-sends v p a (write_refusal a.slots) (given (is_value_cloneable v) n) h
  operation-sends (names.Close p) a n h = stream_close-sends p a h
  operation-sends (names.ClosePropagating p) a n h = propagating-sends p a h
  operation-sends (names.Abort r p) a n h = abort-sends r p a (given (is_cloneable r) n) h
  operation-sends (names.AbortIfWritable r p) a n h = if_writable-sends r p a (given (is_cloneable r) n) h
  operation-sends (names.ErrorIfNeeded e) a n h = needed-sends e a h
  operation-sends (names.HandOn taker) a n h = handed-sends taker a (first_value a.slots.queue) h
  operation-sends (names.StartSettled (Ok v)) a n h = advance-sends (record a { slots = record a.slots { started = true } }) (record { queue = h.queue; abort = h.abort; effects = h.effects })
  operation-sends (names.StartSettled (Err r)) a n h = deal-sends r (record a { slots = record a.slots { started = true } }) (record { queue = h.queue; abort = h.abort; effects = h.effects })
  operation-sends (names.WriteSettled (Ok v)) a n h =
      let b : Acts = without_first (write_ended (Ok Undefined) a) in
      advance-sends (refresh_backpressure b) (refresh-sends b (record { queue = rest-cloned a.slots.queue h.queue; abort = h.abort; effects = h.effects }))
  operation-sends (names.WriteSettled (Err e)) a n h = deal-sends e (write_ended (Err e) a) (record { queue = h.queue; abort = h.abort; effects = h.effects })
  operation-sends (names.CloseSettled (Ok v)) a n h = finished-sends a h
  operation-sends (names.CloseSettled (Err e)) a n h = deal-sends e (abort_ended (Err e) (close_ended (Err e) a)) (record { queue = h.queue; abort = refl; effects = h.effects })
  operation-sends (names.AbortSettled p (Ok v)) a n h = both-sends (with_promises (settle p (Ok Undefined) a.out.promises) a) (record { queue = h.queue; abort = h.abort; effects = h.effects })
  operation-sends (names.AbortSettled p (Err e)) a n h = both-sends (with_promises (settle p (Err e) a.out.promises) a) (record { queue = h.queue; abort = h.abort; effects = h.effects })

  -- so whatever is asked of such a stream
  pub stopped-sends : (operation : WritableOperation) (a : Acts) → is_writable a.slots.state ≡ false → Sends a → Sends (writable_operation me operation a)
  unfolding writer_write abort_if_writable
  stopped-sends (names.Write v p) a s h =
      let r = refused a.slots a.slots.state refl s in rw r.1 (record { queue = h.queue; abort = h.abort; effects = h.effects })
  stopped-sends (names.Abort r p) a s h = late-abort r p a s h
  stopped-sends (names.AbortIfWritable r p) a s h = rw s (record { queue = h.queue; abort = h.abort; effects = h.effects })
  stopped-sends operation a s h = operation-sends operation a refl h
