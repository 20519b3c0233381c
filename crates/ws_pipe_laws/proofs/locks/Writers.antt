-- A writable stream has a writer after an operation where it had one, but for the two that set it up and release it.
use Rattle.std.proofs.Common.{◌≡◌, Bool, true, false, is_some, Result, refl, arith}
use Rattle.ws_value.specs.declared.ids.StreamId.{StreamId}
use Rattle.ws_value.specs.declared.ids.PromiseId.{PromiseId}
use Rattle.ws_value.specs.declared.value.Plain.{Plain}
use Rattle.ws_value.specs.declared.value.Value.{Value}
use Rattle.ws_steps.specs.declared.writable.WritableOperation.{WritableOperation}
use Rattle.ws_steps.specs.declared.writable.WritableOperation.TheVariants as names
use Rattle.ws_steps.specs.Operations.{writable_operation}
use Rattle.ws_steps.specs.Writable.{Acts, update_backpressure, refresh_backpressure, reject_close_and_closed, finish_erroring, start_erroring, deal_with_rejection, controller_error_if_needed, process_write, process_close, advance_queue, hand_on, write_settled, finish_in_flight_close, finish_in_flight_close_with_error, close_settled, start_settled, abort_settled, controller_write, writer_write, controller_close, stream_close, close_with_error_propagation, stream_abort, abort_if_writable, set_up_writer, writer_release}

-- whether there is a writer after an operation, where there was one or wasn't
abbrev pub has_writer : WritableOperation → Bool → Bool
has_writer (names.SetUpWriter w) locked = true
has_writer names.ReleaseWriter locked = false
has_writer _ locked = locked

abbrev pub Same : Acts → Acts → Type 0
Same a b = is_some b.slots.writer ≡ is_some a.slots.writer

refresh-same : (a : Acts) → Same a (refresh_backpressure a)
unfolding refresh_backpressure update_backpressure
refresh-same a = grind arith

rejects-same : (a : Acts) → Same a (reject_close_and_closed a)
unfolding reject_close_and_closed
rejects-same a = grind arith

finish-same : (me : StreamId) (a : Acts) → Same a (finish_erroring me a)
unfolding finish_erroring
finish-same me a = grind (arith, rejects-same)

start-same : (me : StreamId) (r : Plain) (a : Acts) → Same a (start_erroring me r a)
unfolding start_erroring
start-same me r a = grind (arith, finish-same)

deal-same : (me : StreamId) (r : Plain) (a : Acts) → Same a (deal_with_rejection me r a)
unfolding deal_with_rejection
deal-same me r a = grind (arith, start-same, finish-same)

advance-same : (me : StreamId) (a : Acts) → Same a (advance_queue me a)
unfolding advance_queue process_write process_close
advance-same me a = grind (arith, finish-same)

close-same : (me : StreamId) (p : PromiseId) (a : Acts) → Same a (stream_close me p a)
unfolding stream_close controller_close
close-same me p a = grind (arith, advance-same)

abort-same : (me : StreamId) (r : Plain) (p : PromiseId) (a : Acts) → Same a (stream_abort me r p a)
unfolding stream_abort
abort-same me r p a = grind (arith, start-same)

write-same : (me : StreamId) (v : Value) (p : PromiseId) (a : Acts) → Same a (writer_write me v p a)
unfolding writer_write controller_write
write-same me v p a = grind (arith, advance-same, refresh-same)

written-same : (me : StreamId) (o : Result Plain Plain) (a : Acts) → Same a (write_settled me o a)
unfolding write_settled
written-same me o a = grind (arith, advance-same, refresh-same, deal-same)

closed-same : (me : StreamId) (o : Result Plain Plain) (a : Acts) → Same a (close_settled me o a)
unfolding close_settled finish_in_flight_close finish_in_flight_close_with_error
closed-same me o a = grind (arith, deal-same)

pub operation-writer : (me : StreamId) (operation : WritableOperation) (a : Acts) → is_some (writable_operation me operation a).slots.writer ≡ has_writer operation (is_some a.slots.writer)
unfolding set_up_writer writer_release close_with_error_propagation abort_if_writable controller_error_if_needed hand_on start_settled abort_settled
operation-writer me (names.SetUpWriter w) a = refl
operation-writer me names.ReleaseWriter a = grind arith
operation-writer me (names.Write v p) a = write-same me v p a
operation-writer me (names.Close p) a = close-same me p a
operation-writer me (names.ClosePropagating p) a = grind (arith, close-same)
operation-writer me (names.Abort r p) a = abort-same me r p a
operation-writer me (names.AbortIfWritable r p) a = grind (arith, abort-same)
operation-writer me (names.ErrorIfNeeded r) a = grind (arith, start-same)
operation-writer me (names.HandOn taker) a = grind arith
operation-writer me (names.StartSettled o) a = grind (arith, advance-same, deal-same)
operation-writer me (names.WriteSettled o) a = written-same me o a
operation-writer me (names.CloseSettled o) a = closed-same me o a
operation-writer me (names.AbortSettled p o) a = grind (arith, rejects-same)
