-- What an operation of a writable stream takes.
use Rattle.std.proofs.Common.{◌≡◌, ◌≤◌, ℕ, ◌+◌, true, List, [], ◌∷◌, Option, Some, None, Result, Ok, Err, refl, arith}
use Rattle.ws_value.specs.declared.ids.PromiseId.{PromiseId}
use Rattle.ws_value.specs.declared.ids.StreamId.{StreamId}
use Rattle.ws_value.specs.declared.value.Plain.{Plain}
use Rattle.ws_value.specs.declared.value.Plain.TheVariants.{Undefined}
use Rattle.ws_value.specs.declared.value.Value.{Value}
use Rattle.ws_steps.specs.declared.{calls.Event.TheVariants.{Signal}, effects.Owner.{Owner}, effects.Owner.TheVariants.{Host, HalfOf, BranchOf, EndOf}, queue.Queued.{Queued}, writable.PendingAbort.{PendingAbort}}
use Rattle.ws_steps.specs.declared.writable.WritableOperation.{WritableOperation}
use Rattle.ws_steps.specs.declared.writable.WritableOperation.TheVariants as names
use Rattle.ws_steps.specs.declared.{writable.WritableState.TheVariants.{Erroring, Closed}, writable.WriteRecord.{WriteRecord}, writable.WriteRecord.TheVariants.{Chunk, CloseMark}}
use Rattle.ws_steps.specs.declared.transform.Taker.{Taker}
use Rattle.ws_steps.specs.declared.writable.Writer.{Writer}
use Rattle.ws_steps.specs.Effects.{type_error}
use Rattle.ws_steps.specs.Operations.{writable_operation}
use Rattle.ws_steps.specs.Promises.{Table, settle}
use Rattle.ws_steps.specs.Queues.{rest_of, first_value, with_first_value, enqueued, size_of}
use Rattle.ws_steps.specs.Writable.{Acts, with_promises, settle_request, reject_all, ensure_rejected, settle_pending, update_backpressure, refresh_backpressure, reject_close_and_closed, finish_abort, fail_writes, finish_erroring, reject_ready, start_erroring, deal_with_rejection, controller_error_if_needed, later_requests, process_write, process_close, process_first, advance_queue, hand_on_first, hand_on, write_ended, without_first, write_settled, close_ended, settle_abort, abort_ended, clear_error, fulfil_closed, finish_in_flight_close, finish_in_flight_close_with_error, close_settled, start_settled, abort_settled, enqueue_chunk, controller_write, add_write_request, write_refusal, write_by, writer_write, controller_close, add_close_request, fulfil_ready, stream_close, close_with_error_propagation, add_pending_abort, begin_abort, signalled, stream_abort, abort_if_writable, set_up_writer, release_by, writer_release}
use Rattle.ws_steps.specs.Places.{Prices, price, each, prices_of, taker_price, writable_price, table_size}
use Rattle.ws_room_laws.proofs.Tables.{settle-size, fresh-size, fresh_settled-size, tell-size}
use Rattle.ws_room_laws.proofs.Readables.{prices-append, each-append}

-- what is held, where an entry of the queue counts q and one of the write requests r
abbrev pub writable_holds : Prices → ℕ → ℕ → Acts → ℕ
writable_holds π q r a = prices_of π a.out.effects + each q a.slots.queue + each r a.slots.write_requests + table_size π a.out.promises

reject_all-size : (π : Prices) (e : Plain) (ps : List PromiseId) (t : Table) → table_size π (reject_all e ps t) ≤ table_size π t
reject_all-size π e [] t = omega arith
reject_all-size π e (p ∷ ps) t =
    let f = settle-size π p (Err e) t in let h = reject_all-size π e ps (settle p (Err e) t) in omega (arith, f, h)

-- lists without their first
rest-each : {A : Type 0} (c : ℕ) (xs : List (Queued A)) → each c (rest_of xs) ≤ each c xs
rest-each c [] = omega arith
rest-each c (x ∷ xs) = omega arith

later-each : (c : ℕ) (ps : List PromiseId) → each c (later_requests ps) ≤ each c ps
later-each c [] = omega arith
later-each c (p ∷ ps) = omega arith

put-each : (c : ℕ) (x : WriteRecord) (xs : List (Queued WriteRecord)) → each c (with_first_value x xs) ≡ each c xs
put-each c x [] = refl
put-each c x (q ∷ qs) = refl

settle_pending-size : (π : Prices) (p : PromiseId) (outcome : Result Plain Plain) (t : Table) → table_size π (settle_pending p outcome t) ≤ table_size π t
unfolding settle_pending
settle_pending-size π p outcome t = grind (arith, settle-size)

ensure-size : (π : Prices) (p : PromiseId) (e : Plain) (t : Table) → table_size π (ensure_rejected p e t) ≤ table_size π t + π.promise
unfolding ensure_rejected
ensure-size π p e t = grind (arith, settle-size, fresh_settled-size)

request-size : (π : Prices) (outcome : Result Plain Plain) (t : Table) (p : Option PromiseId) → table_size π (settle_request outcome t p) ≤ table_size π t
request-size π outcome t None = omega arith
request-size π outcome t (Some p) = settle-size π p outcome t

abort-size : (π : Prices) (outcome : Result Plain Plain) (t : Table) (x : Option PendingAbort) → table_size π (settle_abort outcome t x) ≤ table_size π t
abort-size π outcome t None = omega arith
abort-size π outcome t (Some x) = settle-size π x.promise outcome t

module _ (π : Prices) (q r : ℕ) (me : StreamId) where
  -- b holds at most n more than a
  abbrev Takes : ℕ → Acts → Acts → Type 0
  Takes n a b = writable_holds π q r b ≤ writable_holds π q r a + n

  fail-takes : (a : Acts) → Takes 0 a (fail_writes a)
  fail-takes a = let h = reject_all-size π a.slots.stored_error a.slots.write_requests a.out.promises in omega (arith, h)

  reject_close-takes : (a : Acts) → Takes 0 a (reject_close_and_closed a)
  unfolding reject_close_and_closed
  reject_close-takes a = grind (arith, settle-size, settle_pending-size)

  finish_abort-takes : (a : Acts) (x : Option PendingAbort) → Takes (price π 4 2 2 1 1 0 0) a (finish_abort me a x)
  finish_abort-takes a x = grind (arith, prices-append, settle-size, reject_close-takes)

  finish-takes : (a : Acts) → Takes (price π 4 2 2 1 1 0 0) a (finish_erroring me a)
  unfolding finish_erroring
  finish-takes a =
      let b : Acts = fail_writes a in
      let f = fail-takes a in let g = finish_abort-takes b b.slots.pending_abort in omega (arith, f, g)

  reject_ready-takes : (e : Plain) (a : Acts) (w : Option Writer) → Takes (price π 0 1 0 0 0 0 0) a (reject_ready e a w)
  reject_ready-takes e a None = omega arith
  reject_ready-takes e a (Some w) = let h = ensure-size π w.ready e a.out.promises in omega (arith, h)

  erring-takes : (e : Plain) (a : Acts) → Takes (price π 4 3 2 1 1 0 0) a (start_erroring me e a)
  unfolding start_erroring
  erring-takes e a =
      let z : Acts = record a { slots = record a.slots { state = Erroring; stored_error = e } } in
      let b : Acts = reject_ready e z a.slots.writer in
      let f = reject_ready-takes e z a.slots.writer in
      let h = finish-takes b in grind (arith, f, h)

  rejection-takes : (e : Plain) (a : Acts) → Takes (price π 4 3 2 1 1 0 0) a (deal_with_rejection me e a)
  unfolding deal_with_rejection
  rejection-takes e a = let h = finish-takes a in let g = erring-takes e a in grind (arith, h, g)

  first-takes : (a : Acts) (first : Option WriteRecord) → Takes (price π 11 4 3 1 1 1 0) a (process_first me a first)
  unfolding process_write process_close
  first-takes a first =
      let g = later-each r a.slots.write_requests in
      let h = rest-each q a.slots.queue in grind (arith, prices-append, g, h)

  advance-takes : (a : Acts) → Takes (price π 11 4 3 1 1 1 0) a (advance_queue me a)
  unfolding advance_queue
  advance-takes a = let f = finish-takes a in let h = first-takes a (first_value a.slots.queue) in grind (arith, f, h)

  refresh-takes : (a : Acts) → Takes (price π 0 1 0 0 0 0 0) a (refresh_backpressure a)
  unfolding refresh_backpressure update_backpressure
  refresh-takes a = grind (arith, settle-size, fresh-size)

  write_settled-takes : (a : Acts) (outcome : Result Plain Plain) → Takes (price π 11 5 3 1 1 1 0) a (write_settled me outcome a)
  unfolding write_settled
  write_settled-takes a (Ok v) =
      let e = request-size π (Ok Undefined) a.out.promises a.slots.write_in_flight in
      let b : Acts = without_first (write_ended (Ok Undefined) a) in
      let k = rest-each q a.slots.queue in
      let h = refresh-takes b in
      let g = advance-takes (refresh_backpressure b) in omega (arith, e, k, h, g)
  write_settled-takes a (Err e) =
      let f = request-size π (Err e) a.out.promises a.slots.write_in_flight in
      let h = rejection-takes e (write_ended (Err e) a) in omega (arith, f, h)

  clear-takes : (a : Acts) → Takes 0 a (clear_error a)
  clear-takes a = let h = abort-size π (Ok Undefined) a.out.promises a.slots.pending_abort in grind (arith, h)

  fulfil_closed-takes : (a : Acts) (w : Option Writer) → Takes 0 a (fulfil_closed a w)
  fulfil_closed-takes a None = omega arith
  fulfil_closed-takes a (Some w) = let h = settle-size π w.closed (Ok Undefined) a.out.promises in omega (arith, h)

  close_settled-takes : (a : Acts) (outcome : Result Plain Plain) → Takes (price π 4 3 2 1 1 0 0) a (close_settled me outcome a)
  unfolding close_settled finish_in_flight_close finish_in_flight_close_with_error
  close_settled-takes a (Ok v) =
      let e = request-size π (Ok Undefined) a.out.promises a.slots.close_in_flight in
      let z : Acts = close_ended (Ok Undefined) a in
      let f = clear-takes z in
      let b : Acts = clear_error z in
      let h = fulfil_closed-takes (record b { slots = record b.slots { state = Closed } }) b.slots.writer in omega (arith, e, f, h)
  close_settled-takes a (Err e) =
      let f = request-size π (Err e) a.out.promises a.slots.close_in_flight in
      let z : Acts = close_ended (Err e) a in
      let g = abort-size π (Err e) z.out.promises z.slots.pending_abort in
      let h = rejection-takes e (abort_ended (Err e) z) in omega (arith, f, g, h)

  start_settled-takes : (a : Acts) (outcome : Result Plain Plain) → Takes (price π 11 5 3 1 1 1 0) a (start_settled me outcome a)
  unfolding start_settled
  start_settled-takes a (Ok v) = let h = advance-takes (record a { slots = record a.slots { started = true } }) in omega (arith, h)
  start_settled-takes a (Err e) = let h = rejection-takes e (record a { slots = record a.slots { started = true } }) in omega (arith, h)

  write-takes : (v : Value) (p : PromiseId) (a : Acts) (refusal : Option Plain) → q ≤ π.queued → r ≤ π.request → Takes (price π 11 5 3 1 1 2 1) a (write_by me v p a refusal)
  unfolding controller_write
  write-takes v p a (Some e) l m = let h = settle-size π p (Err e) a.out.promises in omega (arith, h)
  write-takes v p a None l m =
      let z : Acts = enqueue_chunk v (add_write_request p a) in
      let e = each-append r a.slots.write_requests (p ∷ []) in
      let f = each-append q a.slots.queue (record { value = Chunk v; size = size_of a.slots.size_by v } ∷ []) in
      let h = refresh-takes z in
      let g = advance-takes (refresh_backpressure z) in omega (arith, l, m, e, f, h, g)

  fulfil_ready-takes : (a : Acts) (w : Option Writer) → Takes 0 a (fulfil_ready a w)
  fulfil_ready-takes a w = grind (arith, settle-size)

  close-takes : (p : PromiseId) (a : Acts) → q ≤ π.queued → Takes (price π 11 4 3 1 1 2 0) a (stream_close me p a)
  unfolding stream_close controller_close
  close-takes p a l =
      let b : Acts = add_close_request p a in
      let h = fulfil_ready-takes b b.slots.writer in
      let z : Acts = fulfil_ready b b.slots.writer in
      let f = each-append q z.slots.queue (record { value = CloseMark; size = 0 } ∷ []) in
      let g = advance-takes (record z { slots = record z.slots { queue = enqueued CloseMark 0 z.slots.queue } }) in
      let s = settle-size π p (Err type_error) a.out.promises in grind (arith, s, h, f, g, l)

  propagating-takes : (p : PromiseId) (a : Acts) → q ≤ π.queued → Takes (price π 11 4 3 1 1 2 0) a (close_with_error_propagation me p a)
  unfolding close_with_error_propagation
  propagating-takes p a l =
      let h = close-takes p a l in
      let f = settle-size π p (Ok Undefined) a.out.promises in
      let g = settle-size π p (Err a.slots.stored_error) a.out.promises in grind (arith, h, f, g)

  signal-takes : (e : Plain) (a : Acts) (o : Owner) → Takes π.event a (signalled me e a o)
  signal-takes e a Host = let h = tell-size π (Signal me e) a.out.promises in omega (arith, h)
  signal-takes e a (HalfOf t) = omega arith
  signal-takes e a (BranchOf t half) = omega arith
  signal-takes e a (EndOf c) = omega arith

  begin-takes : (e : Plain) (p : PromiseId) (a : Acts) → Takes (price π 4 3 2 1 1 0 0) a (begin_abort me e p a)
  begin-takes e p a = let h = erring-takes e (add_pending_abort e p a) in grind (arith, h)

  abort-takes : (e : Plain) (p : PromiseId) (a : Acts) → Takes (price π 4 3 2 2 1 0 0) a (stream_abort me e p a)
  unfolding stream_abort
  abort-takes e p a =
      let f = signal-takes e a a.slots.owner in
      let h = begin-takes e p (signalled me e a a.slots.owner) in
      let g = settle-size π p (Ok Undefined) a.out.promises in grind (arith, f, g, h)

  abort_writable-takes : (e : Plain) (p : PromiseId) (a : Acts) → Takes (price π 4 3 2 2 1 0 0) a (abort_if_writable me e p a)
  unfolding abort_if_writable
  abort_writable-takes e p a =
      let h = abort-takes e p a in
      let f = settle-size π p (Ok Undefined) a.out.promises in grind (arith, h, f)

  if_needed-takes : (e : Plain) (a : Acts) → Takes (price π 4 3 2 1 1 0 0) a (controller_error_if_needed me e a)
  unfolding controller_error_if_needed
  if_needed-takes e a = let h = erring-takes e a in grind (arith, h)

  abort_settled-takes : (p : PromiseId) (outcome : Result Plain Plain) (a : Acts) → Takes 0 a (abort_settled p outcome a)
  unfolding abort_settled
  abort_settled-takes p (Ok v) a =
      let f = settle-size π p (Ok Undefined) a.out.promises in
      let h = reject_close-takes (with_promises (settle p (Ok Undefined) a.out.promises) a) in omega (arith, f, h)
  abort_settled-takes p (Err e) a =
      let f = settle-size π p (Err e) a.out.promises in
      let h = reject_close-takes (with_promises (settle p (Err e) a.out.promises) a) in omega (arith, f, h)

  set_up-takes : (w : Writer) (a : Acts) → Takes 0 a (set_up_writer w a)
  unfolding set_up_writer
  set_up-takes w a = grind (arith, settle-size)

  release-takes : (a : Acts) (w : Option Writer) → Takes 0 a (release_by a w)
  release-takes a None = omega arith
  release-takes a (Some w) =
      let f = settle_pending-size π w.ready (Err type_error) a.out.promises in
      let g = settle_pending-size π w.closed (Err type_error) (settle_pending w.ready (Err type_error) a.out.promises) in omega (arith, f, g)

  hand_on-takes : (taker : Taker) (a : Acts) (first : Option WriteRecord) → Takes (taker_price π taker) a (hand_on_first me taker a first)
  hand_on-takes taker a first = grind (arith, prices-append, put-each)

pub writable-takes : (π : Prices) (q r : ℕ) (me : StreamId) (operation : WritableOperation) (a : Acts) → q ≤ π.queued → r ≤ π.request →
    writable_holds π q r (writable_operation me operation a) + π.turn ≤ writable_holds π q r a + writable_price π operation
unfolding writer_release writer_write hand_on
writable-takes π q r me (names.SetUpWriter w) a l m = let h = set_up-takes π q r me w a in omega (arith, h)
writable-takes π q r me names.ReleaseWriter a l m = let h = release-takes π q r me a a.slots.writer in omega (arith, h)
writable-takes π q r me (names.Write v p) a l m = let h = write-takes π q r me v p a (write_refusal a.slots) l m in omega (arith, h)
writable-takes π q r me (names.Close p) a l m = let h = close-takes π q r me p a l in omega (arith, h)
writable-takes π q r me (names.ClosePropagating p) a l m = let h = propagating-takes π q r me p a l in omega (arith, h)
writable-takes π q r me (names.Abort e p) a l m = let h = abort-takes π q r me e p a in omega (arith, h)
writable-takes π q r me (names.AbortIfWritable e p) a l m = let h = abort_writable-takes π q r me e p a in omega (arith, h)
writable-takes π q r me (names.ErrorIfNeeded e) a l m = let h = if_needed-takes π q r me e a in omega (arith, h)
writable-takes π q r me (names.HandOn taker) a l m = let h = hand_on-takes π q r me taker a (first_value a.slots.queue) in omega (arith, h)
writable-takes π q r me (names.StartSettled outcome) a l m = let h = start_settled-takes π q r me a outcome in omega (arith, h)
writable-takes π q r me (names.WriteSettled outcome) a l m = let h = write_settled-takes π q r me a outcome in omega (arith, h)
writable-takes π q r me (names.CloseSettled outcome) a l m = let h = close_settled-takes π q r me a outcome in omega (arith, h)
writable-takes π q r me (names.AbortSettled p outcome) a l m = let h = abort_settled-takes π q r me p outcome a in omega (arith, h)
