-- A writable stream that isn't closing begins to close only by a close, and one that errs while nothing of its close is in flight doesn't close
-- any more.
use Rattle.std.proofs.Common.{◌≡◌, Bool, true, false, ◌&&◌, ◌||◌, is_some, is_none, List, [], ◌∷◌, Option, Some, None, Result, Ok, Err, refl, arith}
use Rattle.ws_value.specs.declared.{ids.PromiseId.{PromiseId}, ids.StreamId.{StreamId}, value.Plain.{Plain}, value.Plain.TheVariants.{Undefined}, value.Value.{Value}}
use Rattle.ws_steps.specs.declared.queue.Queued.{Queued}
use Rattle.ws_steps.specs.declared.writable.{WriteRecord.{WriteRecord}, WriteRecord.TheVariants.{Chunk, InFlight, CloseMark}}
use Rattle.ws_steps.specs.declared.writable.{WritableOperation.{WritableOperation}, WritableState.{WritableState}, WritableState.TheVariants.{Writable, Erroring, Errored, Closed}}
use Rattle.ws_steps.specs.declared.writable.WritableOperation.TheVariants as names
use Rattle.ws_steps.specs.Operations.{writable_operation}
use Rattle.ws_steps.specs.Queues.{first_value, rest_of}
use Rattle.ws_steps.specs.Writable as writable
use Rattle.ws_steps.specs.Writable.{is_closed, is_erroring, has_ended, process_first, set_up_writer, writer_release, writer_write, stream_close, close_with_error_propagation, stream_abort, abort_if_writable, controller_error_if_needed, hand_on, start_settled, write_settled, close_settled, abort_settled, finish_in_flight_close, finish_in_flight_close_with_error, deal_with_rejection, finish_erroring, advance_queue, refresh_backpressure, update_backpressure, reject_close_and_closed, process_write, process_close, start_erroring, controller_write, controller_close}
use Rattle.ws_end_laws.specs.ends.PassedAll.{is_failing}
use Rattle.ws_laws.proofs.Tables.{either}
use Rattle.ws_laws.proofs.Truth.{false_true, nor_right}
use Rattle.ws_writable_laws.proofs.Expects.{Marked}
use Rattle.ws_writable_laws.proofs.Shape.{is_mark, has_mark}
use Rattle.ws_end_laws.proofs.wrote.Keeping.{Expected}

-- no close was asked of it, and it isn't closed
pub record Unclosed (w : writable.Slots) : Type 0 where
  pub request : is_some w.close_request ≡ false
  pub flight : is_some w.close_in_flight ≡ false
  pub state : is_closed w.state ≡ false

-- it is erroring or errored, and no close is in flight
pub record Failing (w : writable.Slots) : Type 0 where
  pub state : is_failing w.state ≡ true
  pub flight : is_some w.close_in_flight ≡ false

abbrev pub is_closer : WritableOperation → Bool
is_closer (names.Close p) = true
is_closer (names.ClosePropagating p) = true
is_closer _ = false

-- operations by which nothing closes

refresh-unclosed : (a : writable.Acts) → Unclosed a.slots → Unclosed (refresh_backpressure a).slots
unfolding refresh_backpressure update_backpressure
refresh-unclosed a k = grind (arith, k)

finish-unclosed : (i : StreamId) (a : writable.Acts) → Unclosed a.slots → Unclosed (finish_erroring i a).slots
unfolding finish_erroring reject_close_and_closed
finish-unclosed i a k = grind (arith, k)

finish-failing : (i : StreamId) (a : writable.Acts) → is_some a.slots.close_in_flight ≡ false → Failing (finish_erroring i a).slots
unfolding finish_erroring reject_close_and_closed
finish-failing i a k = grind (arith, k)

start-unclosed : (i : StreamId) (r : Plain) (a : writable.Acts) → Unclosed a.slots → Unclosed (start_erroring i r a).slots
unfolding start_erroring finish_erroring reject_close_and_closed
start-unclosed i r a k = grind (arith, k)

start-failing : (i : StreamId) (r : Plain) (a : writable.Acts) → is_some a.slots.close_in_flight ≡ false → Failing (start_erroring i r a).slots
unfolding start_erroring finish_erroring reject_close_and_closed
start-failing i r a k = grind (arith, k)

advance-unclosed : (i : StreamId) (a : writable.Acts) → Unclosed a.slots → Unclosed (advance_queue i a).slots
unfolding advance_queue process_write process_close finish_erroring reject_close_and_closed
advance-unclosed i a k = grind (arith, k)

deal-unclosed : (i : StreamId) (r : Plain) (a : writable.Acts) → Unclosed a.slots → Unclosed (deal_with_rejection i r a).slots
unfolding deal_with_rejection
deal-unclosed i r a k =
    either (λ (b : writable.Acts). Unclosed b.slots) (writable.is_writable a.slots.state) (start_erroring i r a) (finish_erroring i a) (λ e. start-unclosed i r a k) (λ e. finish-unclosed i a k)

deal-failing : (i : StreamId) (r : Plain) (a : writable.Acts) → is_some a.slots.close_in_flight ≡ false → Failing (deal_with_rejection i r a).slots
unfolding deal_with_rejection
deal-failing i r a k =
    either (λ (b : writable.Acts). Failing b.slots) (writable.is_writable a.slots.state) (start_erroring i r a) (finish_erroring i a) (λ e. start-failing i r a k) (λ e. finish-failing i a k)

-- no close mark stands at the front of a queue that has none
pub first-other : (q : List (Queued WriteRecord)) → has_mark q ≡ false → first_value q ≡ Some CloseMark → ⊥
first-other [] n e = cc
first-other (q ∷ qs) n e = by q.value (some_record q.value CloseMark e) n
  where
    some_record : (x y : WriteRecord) → ◌≡◌ {A = Option WriteRecord} (Some x) (Some y) → x ≡ y
    some_record x y e = cc

    by : (x : WriteRecord) → x ≡ CloseMark → is_mark x || has_mark qs ≡ false → ⊥
    by CloseMark e n = cc
    by (Chunk v) e n = cc
    by InFlight e n = cc

first-failing : (i : StreamId) (a : writable.Acts) (o : Option WriteRecord) → (o ≡ Some CloseMark → ⊥) → Failing a.slots → Failing (process_first i a o).slots
unfolding process_write
first-failing i a None n k = k
first-failing i a (Some CloseMark) n k = absurd (n refl)
first-failing i a (Some (Chunk v)) n k = record { state = k.state; flight = k.flight }
first-failing i a (Some InFlight) n k = k

-- an advance of a stream that errs, and of one that has errored, in whose queue there is no close mark
advance-failing : (i : StreamId) (a : writable.Acts) → (is_erroring a.slots.state ≡ false → has_mark a.slots.queue ≡ false) → Failing a.slots → Failing (advance_queue i a).slots
unfolding advance_queue
advance-failing i a m k =
    either (λ (b : writable.Acts). Failing b.slots) (a.slots.started && is_none a.slots.write_in_flight) _ a
    (λ e. either (λ (b : writable.Acts). Failing b.slots) (is_erroring a.slots.state) (finish_erroring i a) (process_first i a (first_value a.slots.queue))
    (λ f. finish-failing i a k.flight) (λ f. first-failing i a (first_value a.slots.queue) (first-other a.slots.queue (m f)) k))
    (λ e. k)

-- of a stream that fails, what isn't erroring has ended
errored-ended : (s : WritableState) → is_failing s ≡ true → is_erroring s ≡ false → has_ended s ≡ true
errored-ended Writable f e = cc
errored-ended Erroring f e = cc
errored-ended Errored f e = refl
errored-ended Closed f e = cc

-- in the queue of one that has ended there is no close mark
pub ended-unmarked : (w : writable.Slots) → Marked w → is_failing w.state ≡ true → is_erroring w.state ≡ false → has_mark w.queue ≡ false
ended-unmarked w m f e = by (has_mark w.queue) refl
  where
    by : (b : Bool) → has_mark w.queue ≡ b → b ≡ false
    by false h = refl
    by true h = false_true (has_ended w.state) (errored-ended w.state f e) (m.alive h)

pub rest-unmarked : (q : List (Queued WriteRecord)) → has_mark q ≡ false → has_mark (rest_of q) ≡ false
rest-unmarked [] n = n
rest-unmarked (q ∷ qs) n = nor_right (is_mark q.value) (has_mark qs) n

pub refresh-same : (a : writable.Acts) → is_failing a.slots.state ≡ true → refresh_backpressure a ≡ a
unfolding refresh_backpressure
refresh-same a f = grind (arith, f)

write-failing : (i : StreamId) (o : Result Plain Plain) (a : writable.Acts) → Marked a.slots → Failing a.slots → Failing (write_settled i o a).slots
unfolding write_settled
write-failing i (Ok v) a m k =
    let b : writable.Acts = writable.without_first (writable.write_ended (Ok Undefined) a) in
    rw (refresh-same b k.state) (advance-failing i b (λ e. rest-unmarked a.slots.queue (ended-unmarked a.slots m k.state e)) (record { state = k.state; flight = k.flight }))
write-failing i (Err r) a m k = deal-failing i r (writable.write_ended (Err r) a) k.flight

write-unclosed : (i : StreamId) (o : Result Plain Plain) (a : writable.Acts) → Unclosed a.slots → Unclosed (write_settled i o a).slots
unfolding write_settled
write-unclosed i (Ok v) a k =
    let b : writable.Acts = writable.without_first (writable.write_ended (Ok Undefined) a) in
    advance-unclosed i (refresh_backpressure b) (refresh-unclosed b (record { request = k.request; flight = k.flight; state = k.state }))
write-unclosed i (Err r) a k = deal-unclosed i r (writable.write_ended (Err r) a) (record { request = k.request; flight = k.flight; state = k.state })

start_settled-failing : (i : StreamId) (o : Result Plain Plain) (a : writable.Acts) → Marked a.slots → Failing a.slots → Failing (start_settled i o a).slots
unfolding start_settled
start_settled-failing i (Ok v) a m k =
    advance-failing i (record a { slots = record a.slots { started = true } }) (λ e. ended-unmarked a.slots m k.state e) (record { state = k.state; flight = k.flight })
start_settled-failing i (Err r) a m k = deal-failing i r (record a { slots = record a.slots { started = true } }) k.flight

start_settled-unclosed : (i : StreamId) (o : Result Plain Plain) (a : writable.Acts) → Unclosed a.slots → Unclosed (start_settled i o a).slots
unfolding start_settled
start_settled-unclosed i (Ok v) a k = advance-unclosed i (record a { slots = record a.slots { started = true } }) (record { request = k.request; flight = k.flight; state = k.state })
start_settled-unclosed i (Err r) a k = deal-unclosed i r (record a { slots = record a.slots { started = true } }) (record { request = k.request; flight = k.flight; state = k.state })

-- each operation

-- a close of a stream that fails
close-failing : (i : StreamId) (p : PromiseId) (a : writable.Acts) → Failing a.slots → Failing (stream_close i p a).slots
unfolding stream_close controller_close advance_queue finish_erroring process_write process_close reject_close_and_closed
close-failing i p a k = grind (arith, k)

-- and an abort
abort-failing : (i : StreamId) (r : Plain) (p : PromiseId) (a : writable.Acts) → Failing a.slots → Failing (stream_abort i r p a).slots
unfolding stream_abort start_erroring finish_erroring reject_close_and_closed
abort-failing i r p a k = grind (arith, k)

abort-unclosed : (i : StreamId) (r : Plain) (p : PromiseId) (a : writable.Acts) → Unclosed a.slots → Unclosed (stream_abort i r p a).slots
unfolding stream_abort start_erroring finish_erroring reject_close_and_closed
abort-unclosed i r p a k = grind (arith, k)

write-more-unclosed : (i : StreamId) (v : Value) (p : PromiseId) (a : writable.Acts) → Unclosed a.slots → Unclosed (writer_write i v p a).slots
unfolding writer_write controller_write advance_queue refresh_backpressure update_backpressure process_write process_close finish_erroring reject_close_and_closed
write-more-unclosed i v p a k = grind (arith, k)

pub failing-operation : (i : StreamId) (operation : WritableOperation) (a : writable.Acts) → Expected operation a.slots → Failing a.slots → Failing (writable_operation i operation a).slots
unfolding set_up_writer writer_release writer_write close_with_error_propagation abort_if_writable controller_error_if_needed hand_on abort_settled reject_close_and_closed
failing-operation i (names.SetUpWriter w) a x k = grind (arith, k)
failing-operation i names.ReleaseWriter a x k = grind (arith, k)
failing-operation i (names.Write v p) a x k = grind (arith, k)
failing-operation i (names.Close p) a x k = close-failing i p a k
failing-operation i (names.ClosePropagating p) a x k =
    either (λ (b : writable.Acts). Failing b.slots) (writable.is_closing a.slots || is_closed a.slots.state) _ _ (λ e. k)
    (λ e. either (λ (b : writable.Acts). Failing b.slots) (writable.is_errored a.slots.state) _ _ (λ f. k) (λ f. close-failing i p a k))
failing-operation i (names.Abort r p) a x k = abort-failing i r p a k
failing-operation i (names.AbortIfWritable r p) a x k = grind (arith, k)
failing-operation i (names.ErrorIfNeeded r) a x k = grind (arith, k)
failing-operation i (names.HandOn taker) a x k = grind (arith, k)
failing-operation i (names.StartSettled o) a x k = start_settled-failing i o a x.0 k
failing-operation i (names.WriteSettled o) a x k = write-failing i o a x.0 k
failing-operation i (names.CloseSettled o) a x k = false_true (is_some a.slots.close_in_flight) x k.flight
failing-operation i (names.AbortSettled p o) a x k = grind (arith, k)

pub unclosed-operation : (i : StreamId) (operation : WritableOperation) (a : writable.Acts) → is_closer operation ≡ false → Expected operation a.slots → Unclosed a.slots → Unclosed (writable_operation i operation a).slots
unfolding set_up_writer writer_release abort_if_writable controller_error_if_needed hand_on abort_settled reject_close_and_closed
unclosed-operation i (names.SetUpWriter w) a n x k = grind (arith, k)
unclosed-operation i names.ReleaseWriter a n x k = grind (arith, k)
unclosed-operation i (names.Write v p) a n x k = write-more-unclosed i v p a k
unclosed-operation i (names.Close p) a n x k = cc
unclosed-operation i (names.ClosePropagating p) a n x k = cc
unclosed-operation i (names.Abort r p) a n x k = abort-unclosed i r p a k
unclosed-operation i (names.AbortIfWritable r p) a n x k =
    either (λ (b : writable.Acts). Unclosed b.slots) (writable.is_writable a.slots.state) (stream_abort i r p a) _ (λ e. abort-unclosed i r p a k) (λ e. k)
unclosed-operation i (names.ErrorIfNeeded r) a n x k =
    either (λ (b : writable.Acts). Unclosed b.slots) (writable.is_writable a.slots.state) (start_erroring i r a) a (λ e. start-unclosed i r a k) (λ e. k)
unclosed-operation i (names.HandOn taker) a n x k = grind (arith, k)
unclosed-operation i (names.StartSettled o) a n x k = start_settled-unclosed i o a k
unclosed-operation i (names.WriteSettled o) a n x k = write-unclosed i o a k
unclosed-operation i (names.CloseSettled o) a n x k = false_true (is_some a.slots.close_in_flight) x k.flight
unclosed-operation i (names.AbortSettled p o) a n x k = grind (arith, k)
