-- A writable stream that isn't writable, or is closing, is so from then on.
use Rattle.std.proofs.Common.{◌≡◌, Bool, true, false, not, ◌&&◌, is_some, is_none, List, [], ◌∷◌, Option, Some, None, Result, Ok, Err, refl, ap, ◌∙◌, arith}
use Rattle.ws_value.specs.declared.{ids.PromiseId.{PromiseId}, ids.StreamId.{StreamId}, value.Plain.{Plain}, value.Plain.TheVariants.{Undefined}, value.Value.{Value}}
use Rattle.ws_steps.specs.declared.queue.Queued.{Queued}
use Rattle.ws_steps.specs.declared.writable.{WriteRecord.{WriteRecord}, WriteRecord.TheVariants.{Chunk, InFlight, CloseMark}}
use Rattle.ws_steps.specs.declared.writable.WritableOperation.{WritableOperation}
use Rattle.ws_steps.specs.declared.writable.WritableOperation.TheVariants as names
use Rattle.ws_steps.specs.Operations.{writable_operation}
use Rattle.ws_steps.specs.Queues.{first_value, rest_of, enqueued, size_of}
use Rattle.ws_steps.specs.Writable as writable
use Rattle.ws_steps.specs.Writable.{Acts, is_closed, is_closing, is_erroring, is_writable, has_ended, process_first, set_up_writer, writer_release, writer_write, write_by, write_refusal, enqueue_chunk, add_write_request, stream_close, close_with_error_propagation, stream_abort, abort_if_writable, controller_error_if_needed, hand_on, start_settled, write_settled, close_settled, abort_settled, finish_in_flight_close, finish_in_flight_close_with_error, deal_with_rejection, finish_erroring, advance_queue, refresh_backpressure, update_backpressure, reject_close_and_closed, process_write, process_close, start_erroring, controller_write, controller_close, without_first, write_ended}
use Rattle.ws_laws.proofs.Tables.{either}
use Rattle.ws_writable_laws.proofs.Shape.{has_mark}
use Rattle.ws_end_laws.proofs.wrote.Keeping.{Expected}

-- it isn't writable, or it is closing
abbrev pub Spent : writable.Slots → Type 0
Spent w = is_writable w.state && not (is_closing w) ≡ false

unwritable : (w : writable.Slots) → is_writable w.state ≡ false → Spent w
unwritable w e = grind (arith, e)

-- where a stream errs

finish-state : (i : StreamId) (a : Acts) → is_writable (finish_erroring i a).slots.state ≡ false
unfolding finish_erroring reject_close_and_closed
finish-state i a = grind arith

start-state : (i : StreamId) (r : Plain) (a : Acts) → is_writable (start_erroring i r a).slots.state ≡ false
unfolding start_erroring
start-state i r a = grind (arith, finish-state)

deal-state : (i : StreamId) (r : Plain) (a : Acts) → is_writable (deal_with_rejection i r a).slots.state ≡ false
unfolding deal_with_rejection
deal-state i r a = grind (arith, finish-state, start-state)

-- its queue

refresh-same : (a : Acts) → Spent a.slots → refresh_backpressure a ≡ a
unfolding refresh_backpressure
refresh-same a k = by (is_writable a.slots.state) (is_closing a.slots) refl refl k
  where
    by : (b c : Bool) → b ≡ is_writable a.slots.state → c ≡ is_closing a.slots → b && not c ≡ false → refresh_backpressure a ≡ a
    by true true e f k = rw (← e, ← f) refl
    by true false e f k = cc
    by false true e f k = rw (← e, ← f) refl
    by false false e f k = rw (← e, ← f) refl

first_mark : (queue : List (Queued WriteRecord)) → first_value queue ≡ Some CloseMark → has_mark queue ≡ true
first_mark [] e = cc
first_mark (x ∷ xs) e = let is : x.value ≡ CloseMark = cc in rw is refl

rest_mark : (queue : List (Queued WriteRecord)) → has_mark (rest_of queue) ≡ true → has_mark queue ≡ true
rest_mark [] e = e
rest_mark (x ∷ xs) e = grind arith

chunk_mark : (queue : List (Queued WriteRecord)) (v : Value) (n : _) → has_mark (enqueued (Chunk v) n queue) ≡ true → has_mark queue ≡ true
chunk_mark [] v n e = e
chunk_mark (x ∷ xs) v n e = let k = chunk_mark xs v n in grind arith

-- a close mark stands in its queue only where a close is asked of it
abbrev Asked : writable.Slots → Type 0
Asked w = has_mark w.queue ≡ true → is_some w.close_request ≡ true

close-spent : (i : StreamId) (a : Acts) → is_some a.slots.close_request ≡ true → Spent (process_close i a).slots
unfolding process_close
close-spent i a e = grind (arith, e)

first-spent : (i : StreamId) (a : Acts) (o : Option WriteRecord) → first_value a.slots.queue ≡ o → Asked a.slots → Spent a.slots → Spent (process_first i a o).slots
unfolding process_write
first-spent i a None e m k = k
first-spent i a (Some CloseMark) e m k = close-spent i a (m (first_mark a.slots.queue e))
first-spent i a (Some (Chunk v)) e m k = k
first-spent i a (Some InFlight) e m k = k

advance-spent : (i : StreamId) (a : Acts) → Asked a.slots → Spent a.slots → Spent (advance_queue i a).slots
unfolding advance_queue
advance-spent i a m k =
    either (λ (b : Acts). Spent b.slots) (a.slots.started && is_none a.slots.write_in_flight) _ a
    (λ e. either (λ (b : Acts). Spent b.slots) (is_erroring a.slots.state) (finish_erroring i a) (process_first i a (first_value a.slots.queue))
    (λ f. unwritable (finish_erroring i a).slots (finish-state i a)) (λ f. first-spent i a (first_value a.slots.queue) refl m k))
    (λ e. k)

-- the reactions to the sink's algorithms

write_settled-spent : (i : StreamId) (o : Result Plain Plain) (a : Acts) → Asked a.slots → Spent a.slots → Spent (write_settled i o a).slots
unfolding write_settled
write_settled-spent i (Ok v) a m k =
    let b : Acts = without_first (write_ended (Ok Undefined) a) in
    rw (refresh-same b k) (advance-spent i b (λ e. m (rest_mark a.slots.queue e)) k)
write_settled-spent i (Err r) a m k = let b : Acts = write_ended (Err r) a in unwritable (deal_with_rejection i r b).slots (deal-state i r b)

start_settled-spent : (i : StreamId) (o : Result Plain Plain) (a : Acts) → Asked a.slots → Spent a.slots → Spent (start_settled i o a).slots
unfolding start_settled
start_settled-spent i (Ok v) a m k = advance-spent i (record a { slots = record a.slots { started = true } }) m k
start_settled-spent i (Err r) a m k = let b : Acts = record a { slots = record a.slots { started = true } } in unwritable (deal_with_rejection i r b).slots (deal-state i r b)

close_settled-state : (i : StreamId) (o : Result Plain Plain) (a : Acts) → is_writable (close_settled i o a).slots.state ≡ false
unfolding close_settled finish_in_flight_close finish_in_flight_close_with_error
close_settled-state i o a = grind (arith, deal-state)

reject-state : (a : Acts) → (reject_close_and_closed a).slots.state ≡ a.slots.state
unfolding reject_close_and_closed
reject-state a = grind arith

abort_settled-state : (p : PromiseId) (o : Result Plain Plain) (a : Acts) → (abort_settled p o a).slots.state ≡ a.slots.state
unfolding abort_settled
abort_settled-state p o a = grind (arith, reject-state)

ended_unwritable : (w : writable.Slots) → has_ended w.state ≡ true → is_writable w.state ≡ false
ended_unwritable w e = grind (arith, e)

-- writes, closes and aborts

write-spent : (i : StreamId) (v : Value) (p : PromiseId) (a : Acts) → Asked a.slots → Spent a.slots → Spent (writer_write i v p a).slots
unfolding writer_write controller_write
write-spent i v p a m k = by (write_refusal a.slots)
  where
    by : (o : Option Plain) → Spent (write_by i v p a o).slots
    by (Some e) = k
    by None =
        let b : Acts = enqueue_chunk v (add_write_request p a) in
        rw (refresh-same b k) (advance-spent i b (λ e. m (chunk_mark a.slots.queue v (size_of a.slots.size_by v) e)) k)

stream_close-spent : (i : StreamId) (p : PromiseId) (a : Acts) → Spent a.slots → Spent (stream_close i p a).slots
unfolding stream_close controller_close advance_queue finish_erroring process_write process_close reject_close_and_closed
stream_close-spent i p a k = grind (arith, k)

abort-spent : (i : StreamId) (r : Plain) (p : PromiseId) (a : Acts) → Spent a.slots → Spent (stream_abort i r p a).slots
unfolding stream_abort
abort-spent i r p a k = grind (arith, k, start-state)

pub spent-operation : (i : StreamId) (operation : WritableOperation) (a : Acts) → Expected operation a.slots → Spent a.slots → Spent (writable_operation i operation a).slots
unfolding set_up_writer writer_release close_with_error_propagation abort_if_writable controller_error_if_needed hand_on
spent-operation i (names.SetUpWriter w) a x k = k
spent-operation i names.ReleaseWriter a x k = grind (arith, k)
spent-operation i (names.Write v p) a x k = write-spent i v p a x.requested k
spent-operation i (names.Close p) a x k = stream_close-spent i p a k
spent-operation i (names.ClosePropagating p) a x k = grind (arith, k, stream_close-spent)
spent-operation i (names.Abort r p) a x k = abort-spent i r p a k
spent-operation i (names.AbortIfWritable r p) a x k = grind (arith, k, abort-spent)
spent-operation i (names.ErrorIfNeeded r) a x k = grind (arith, k, start-state)
spent-operation i (names.HandOn taker) a x k = grind (arith, k)
spent-operation i (names.StartSettled o) a x k = start_settled-spent i o a x.0.requested k
spent-operation i (names.WriteSettled o) a x k = write_settled-spent i o a x.0.requested k
spent-operation i (names.CloseSettled o) a x k = unwritable (close_settled i o a).slots (close_settled-state i o a)
spent-operation i (names.AbortSettled p o) a x k = unwritable (abort_settled p o a).slots (ap is_writable (abort_settled-state p o a) ∙ ended_unwritable a.slots x)
