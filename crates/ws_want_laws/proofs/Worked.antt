-- A host that enqueues as it answers, and one that enqueues before the write that waited for it goes on.
use Rattle.std.proofs.Common.{◌≡◌, true, List, [], ◌∷◌, ◌++◌, refl}
use Rattle.ws_value.specs.declared.{ids.HostId.{HostId}, ids.StreamId.{StreamId}}
use Rattle.ws_steps.specs.declared.calls.{Answer.TheVariants.{Ok as AnswerOk}, Call.TheVariants.{MakeTransform, GetReader, GetWriter, Read, Write as WriteBy, Enqueue, Settle}}
use Rattle.ws_steps.specs.declared.calls.StartBy.TheVariants.{Now, Later}
use Rattle.ws_steps.specs.declared.transform.{Kind.TheVariants.{Host}, TransformId.{TransformId}}
use Rattle.ws_steps.specs.Promises.{fresh, settle, answer, react, follow, queue_micro, unfollow, use_gift, after_next_job, watch}
use Rattle.ws_steps.specs.Turns.{call_host, row, turns, performed, moments, moments_of}
use Rattle.ws_steps.specs.Jobs.{begin_job}
use Rattle.ws_steps.specs.Calls.{begin}
use Rattle.ws_steps.specs.Readable as readable
use Rattle.ws_steps.specs.Writable as writable
use Rattle.ws_steps.specs.Pipes as pipe
use Rattle.ws_steps.specs.Transform as transform
use Rattle.ws_steps.specs.Run.{Entry, Called, run, jobs_in_a_row}
use Rattle.ws_steps.specs.Slots.{empty}
use Rattle.ws_steps.specs.ReadableHistory.{accepted}
use Rattle.ws_steps.proofs.WorkedWords.{s0, l0, l1, v}
use Rattle.ws_transform_laws.specs.TransformHistory.{run_transformed}
use Rattle.ws_want_laws.specs.Answers.{unasked}
use Rattle.ws_want_laws.specs.Waits.{run_meanwhile, write_waits}

abbrev s1 : StreamId
s1 = record { 0 = 1 }

abbrev t0 : TransformId
t0 = record { 0 = 0 }

abbrev h0 : HostId
h0 = record { 0 = 0 }

-- a transform stream has started, and a write waits
abbrev waits : List Entry
waits = Called (MakeTransform Host 1 0 Now) ∷ jobs_in_a_row 8 ++ (Called (GetWriter s0) ∷ Called (WriteBy l0 (v 1)) ∷ jobs_in_a_row 8)

-- it does
waiting : write_waits t0 (run waits empty) ≡ true
unfolding fresh settle answer react follow queue_micro unfollow use_gift after_next_job watch readable.call_pull_if_needed readable.accept readable.controller_enqueue readable.stream_close readable.stream_error readable.close_if_empty readable.controller_close readable.controller_error readable.after_take readable.pull_steps readable.default_reader_read readable.disturb readable.reader_generic_initialize readable.start_settled readable.pull_settled readable.cancel_steps readable.stream_cancel readable.cancel_if_readable readable.reader_release writable.ensure_rejected writable.settle_pending writable.update_backpressure writable.refresh_backpressure writable.reject_close_and_closed writable.finish_erroring writable.start_erroring writable.deal_with_rejection writable.controller_error_if_needed writable.process_write writable.process_close writable.advance_queue writable.hand_on writable.write_settled writable.finish_in_flight_close writable.finish_in_flight_close_with_error writable.close_settled writable.start_settled writable.abort_settled writable.controller_write writable.writer_write writable.controller_close writable.stream_close writable.close_with_error_propagation writable.stream_abort writable.abort_if_writable writable.set_up_writer writable.writer_release pipe.finalize pipe.act_by_signal pipe.act pipe.proceed pipe.shutdown pipe.look pipe.look_ready pipe.go_on pipe.keep_chunk pipe.read_ended pipe.write_chunk pipe.write_ended pipe.action_settled pipe.part_settled pipe.no_parts pipe.abort transform.set_backpressure transform.unblock transform.transform_error transform.terminate transform.enqueue transform.enqueued transform.transform_chunk transform.sink_write transform.write_goes_on transform.source_pull transform.sink_close transform.sink_abort transform.source_cancel transform.flush_settled transform.abort_settled transform.cancel_settled call_host row turns performed begin_job begin moments moments_of
waiting = refl

-- there is a read, the write goes on, and the host enqueues as it is called to transform the chunk
abbrev answering : List Entry
answering = waits ++ (Called (GetReader s1) ∷ Called (Read l1) ∷ jobs_in_a_row 8 ++ (Called (Enqueue s1 (v 2)) ∷ Called (Settle h0 AnswerOk) ∷ jobs_in_a_row 8))

asked : (run_transformed t0 answering empty ≡ v 1 ∷ []) × ((accepted s1 answering empty ≡ v 2 ∷ []) × (unasked s1 answering ≡ []))
unfolding fresh settle answer react follow queue_micro unfollow use_gift after_next_job watch readable.call_pull_if_needed readable.accept readable.controller_enqueue readable.stream_close readable.stream_error readable.close_if_empty readable.controller_close readable.controller_error readable.after_take readable.pull_steps readable.default_reader_read readable.disturb readable.reader_generic_initialize readable.start_settled readable.pull_settled readable.cancel_steps readable.stream_cancel readable.cancel_if_readable readable.reader_release writable.ensure_rejected writable.settle_pending writable.update_backpressure writable.refresh_backpressure writable.reject_close_and_closed writable.finish_erroring writable.start_erroring writable.deal_with_rejection writable.controller_error_if_needed writable.process_write writable.process_close writable.advance_queue writable.hand_on writable.write_settled writable.finish_in_flight_close writable.finish_in_flight_close_with_error writable.close_settled writable.start_settled writable.abort_settled writable.controller_write writable.writer_write writable.controller_close writable.stream_close writable.close_with_error_propagation writable.stream_abort writable.abort_if_writable writable.set_up_writer writable.writer_release pipe.finalize pipe.act_by_signal pipe.act pipe.proceed pipe.shutdown pipe.look pipe.look_ready pipe.go_on pipe.keep_chunk pipe.read_ended pipe.write_chunk pipe.write_ended pipe.action_settled pipe.part_settled pipe.no_parts pipe.abort transform.set_backpressure transform.unblock transform.transform_error transform.terminate transform.enqueue transform.enqueued transform.transform_chunk transform.sink_write transform.write_goes_on transform.source_pull transform.sink_close transform.sink_abort transform.source_cancel transform.flush_settled transform.abort_settled transform.cancel_settled call_host row turns performed begin_job begin moments moments_of
asked = (refl, (refl, refl))

-- there is a read, and the host enqueues at once
abbrev meanwhile : List Entry
meanwhile = waits ++ (Called (GetReader s1) ∷ Called (Read l1) ∷ Called (Enqueue s1 (v 2)) ∷ jobs_in_a_row 8)

enqueued : (run_meanwhile t0 s1 meanwhile empty ≡ v 2 ∷ []) × (unasked s1 meanwhile ≡ v 2 ∷ [])
unfolding fresh settle answer react follow queue_micro unfollow use_gift after_next_job watch readable.call_pull_if_needed readable.accept readable.controller_enqueue readable.stream_close readable.stream_error readable.close_if_empty readable.controller_close readable.controller_error readable.after_take readable.pull_steps readable.default_reader_read readable.disturb readable.reader_generic_initialize readable.start_settled readable.pull_settled readable.cancel_steps readable.stream_cancel readable.cancel_if_readable readable.reader_release writable.ensure_rejected writable.settle_pending writable.update_backpressure writable.refresh_backpressure writable.reject_close_and_closed writable.finish_erroring writable.start_erroring writable.deal_with_rejection writable.controller_error_if_needed writable.process_write writable.process_close writable.advance_queue writable.hand_on writable.write_settled writable.finish_in_flight_close writable.finish_in_flight_close_with_error writable.close_settled writable.start_settled writable.abort_settled writable.controller_write writable.writer_write writable.controller_close writable.stream_close writable.close_with_error_propagation writable.stream_abort writable.abort_if_writable writable.set_up_writer writable.writer_release pipe.finalize pipe.act_by_signal pipe.act pipe.proceed pipe.shutdown pipe.look pipe.look_ready pipe.go_on pipe.keep_chunk pipe.read_ended pipe.write_chunk pipe.write_ended pipe.action_settled pipe.part_settled pipe.no_parts pipe.abort transform.set_backpressure transform.unblock transform.transform_error transform.terminate transform.enqueue transform.enqueued transform.transform_chunk transform.sink_write transform.write_goes_on transform.source_pull transform.sink_close transform.sink_abort transform.source_cancel transform.flush_settled transform.abort_settled transform.cancel_settled call_host row turns performed begin_job begin moments moments_of
enqueued = (refl, refl)

-- the host enqueues as it is called to start
abbrev starting : List Entry
starting = Called (MakeTransform Host 1 0 Later) ∷ Called (Enqueue s1 (v 2)) ∷ Called (Settle h0 AnswerOk) ∷ jobs_in_a_row 8

begun : (accepted s1 starting empty ≡ v 2 ∷ []) × (unasked s1 starting ≡ [])
unfolding fresh settle answer react follow queue_micro unfollow use_gift after_next_job watch readable.call_pull_if_needed readable.accept readable.controller_enqueue readable.stream_close readable.stream_error readable.close_if_empty readable.controller_close readable.controller_error readable.after_take readable.pull_steps readable.default_reader_read readable.disturb readable.reader_generic_initialize readable.start_settled readable.pull_settled readable.cancel_steps readable.stream_cancel readable.cancel_if_readable readable.reader_release writable.ensure_rejected writable.settle_pending writable.update_backpressure writable.refresh_backpressure writable.reject_close_and_closed writable.finish_erroring writable.start_erroring writable.deal_with_rejection writable.controller_error_if_needed writable.process_write writable.process_close writable.advance_queue writable.hand_on writable.write_settled writable.finish_in_flight_close writable.finish_in_flight_close_with_error writable.close_settled writable.start_settled writable.abort_settled writable.controller_write writable.writer_write writable.controller_close writable.stream_close writable.close_with_error_propagation writable.stream_abort writable.abort_if_writable writable.set_up_writer writable.writer_release pipe.finalize pipe.act_by_signal pipe.act pipe.proceed pipe.shutdown pipe.look pipe.look_ready pipe.go_on pipe.keep_chunk pipe.read_ended pipe.write_chunk pipe.write_ended pipe.action_settled pipe.part_settled pipe.no_parts pipe.abort transform.set_backpressure transform.unblock transform.transform_error transform.terminate transform.enqueue transform.enqueued transform.transform_chunk transform.sink_write transform.write_goes_on transform.source_pull transform.sink_close transform.sink_abort transform.source_cancel transform.flush_settled transform.abort_settled transform.cancel_settled call_host row turns performed begin_job begin moments moments_of
begun = (refl, refl)
