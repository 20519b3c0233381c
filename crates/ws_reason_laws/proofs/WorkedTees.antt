-- Tees at work: why the laws ask of a pair whether its tee keeps both reasons. The readable half of a transform stream is teed, and a pipe goes
-- into the writable half.
use Rattle.std.proofs.Common.{◌≡◌, List, [], ◌∷◌, ◌++◌, refl, None, Some}
use Rattle.ws_value.specs.declared.ids.{HostId.{HostId}, StreamId.{StreamId}, TeeId.{TeeId}}
use Rattle.ws_value.specs.declared.value.{Outcome.TheVariants.{Pending, Rejected}, Plain.TheVariants.{Number, Pair}}
use Rattle.ws_steps.specs.declared.calls.Call.TheVariants.{Cancel, Tee}
use Rattle.ws_steps.specs.Promises.{outcome_at, fresh, settle, answer, react, follow, unfollow, use_gift, queue_micro, after_next_job, watch}
use Rattle.ws_steps.specs.Readable as readable
use Rattle.ws_steps.specs.Writable as writable
use Rattle.ws_steps.specs.Pipes as pipe
use Rattle.ws_steps.specs.Transform as transform
use Rattle.ws_steps.specs.Tee as tee
use Rattle.ws_steps.specs.Turns.{call_host, row, turns, performed, moments_of, moments}
use Rattle.ws_steps.specs.Jobs.{begin_job}
use Rattle.ws_steps.specs.Calls.{begin}
use Rattle.ws_steps.specs.Run.{Entry, Called, run}
use Rattle.ws_steps.specs.Slots.{empty, pair_at}
use Rattle.ws_reason_laws.specs.Origins.{origins}
use Rattle.ws_reason_laws.proofs.WorkedThrough.{s2, s3, into, settles}

abbrev s4 : StreamId
s4 = record { 0 = 4 }

abbrev t0 : TeeId
t0 = record { 0 = 0 }

abbrev h0 : HostId
h0 = record { 0 = 0 }

-- one branch is cancelled with 5: nothing comes to the pipe, and the tee keeps no pair
abbrev one : List Entry
one = into ++ Called (Tee s2) ∷ (Called (Cancel s3 (Number 5)) ∷ settles h0)

one_cancelled : (outcome_at (run one empty).promises (record { 0 = 8 }) ≡ Some Pending) × (pair_at t0 (run one empty) ≡ None)
unfolding fresh settle answer react follow unfollow use_gift queue_micro after_next_job watch readable.call_pull_if_needed readable.accept readable.controller_enqueue readable.controller_error readable.stream_error readable.controller_close readable.close_if_empty readable.stream_close readable.after_take readable.pull_steps readable.default_reader_read readable.reader_generic_initialize readable.disturb readable.start_settled readable.pull_settled readable.stream_cancel readable.cancel_steps readable.cancel_if_readable readable.reader_release writable.ensure_rejected writable.settle_pending writable.update_backpressure writable.refresh_backpressure writable.reject_close_and_closed writable.finish_erroring writable.start_erroring writable.deal_with_rejection writable.controller_error_if_needed writable.process_write writable.process_close writable.advance_queue writable.hand_on writable.write_settled writable.finish_in_flight_close writable.finish_in_flight_close_with_error writable.close_settled writable.start_settled writable.abort_settled writable.controller_write writable.writer_write writable.controller_close writable.stream_close writable.close_with_error_propagation writable.stream_abort writable.abort_if_writable writable.set_up_writer writable.writer_release pipe.finalize pipe.act_by_signal pipe.act pipe.proceed pipe.shutdown pipe.look pipe.look_ready pipe.go_on pipe.keep_chunk pipe.read_ended pipe.write_chunk pipe.write_ended pipe.action_settled pipe.part_settled pipe.no_parts pipe.abort call_host row turns performed moments_of moments begin_job begin transform.set_backpressure transform.unblock transform.transform_error transform.terminate transform.enqueue transform.enqueued transform.transform_chunk transform.sink_write transform.write_goes_on transform.source_pull transform.sink_close transform.sink_abort transform.source_cancel transform.flush_settled transform.abort_settled transform.cancel_settled tee.pull_branch tee.keep_chunk tee.source_closed tee.source_errored tee.hand_chunk tee.handed tee.cancel_branch tee.reader_settled
one_cancelled = (refl, refl)

-- then the other with 7: the pipe rejects with the pair, which no call gave, and the tee keeps both reasons
abbrev both : List Entry
both = into ++ Called (Tee s2) ∷ (Called (Cancel s3 (Number 5)) ∷ (Called (Cancel s4 (Number 7)) ∷ settles h0))

both_cancelled : (outcome_at (run both empty).promises (record { 0 = 8 }) ≡ Some (Rejected (Pair t0))) × ((origins both ≡ []) × (pair_at t0 (run both empty) ≡ Some (Number 5, Number 7)))
unfolding fresh settle answer react follow unfollow use_gift queue_micro after_next_job watch readable.call_pull_if_needed readable.accept readable.controller_enqueue readable.controller_error readable.stream_error readable.controller_close readable.close_if_empty readable.stream_close readable.after_take readable.pull_steps readable.default_reader_read readable.reader_generic_initialize readable.disturb readable.start_settled readable.pull_settled readable.stream_cancel readable.cancel_steps readable.cancel_if_readable readable.reader_release writable.ensure_rejected writable.settle_pending writable.update_backpressure writable.refresh_backpressure writable.reject_close_and_closed writable.finish_erroring writable.start_erroring writable.deal_with_rejection writable.controller_error_if_needed writable.process_write writable.process_close writable.advance_queue writable.hand_on writable.write_settled writable.finish_in_flight_close writable.finish_in_flight_close_with_error writable.close_settled writable.start_settled writable.abort_settled writable.controller_write writable.writer_write writable.controller_close writable.stream_close writable.close_with_error_propagation writable.stream_abort writable.abort_if_writable writable.set_up_writer writable.writer_release pipe.finalize pipe.act_by_signal pipe.act pipe.proceed pipe.shutdown pipe.look pipe.look_ready pipe.go_on pipe.keep_chunk pipe.read_ended pipe.write_chunk pipe.write_ended pipe.action_settled pipe.part_settled pipe.no_parts pipe.abort call_host row turns performed moments_of moments begin_job begin transform.set_backpressure transform.unblock transform.transform_error transform.terminate transform.enqueue transform.enqueued transform.transform_chunk transform.sink_write transform.write_goes_on transform.source_pull transform.sink_close transform.sink_abort transform.source_cancel transform.flush_settled transform.abort_settled transform.cancel_settled tee.pull_branch tee.keep_chunk tee.source_closed tee.source_errored tee.hand_chunk tee.handed tee.cancel_branch tee.reader_settled
both_cancelled = (refl, (refl, refl))
