-- A chain of one transform stream at work: a chunk is brought to its first link, the host hears of it there and brings two to the next, of which it
-- hears of the first at the sink.
use Rattle.std.proofs.Common.{◌≡◌, ℕ, zero, suc, true, false, [], ◌∷◌, ◌++◌, List, refl, arith}
use Rattle.ws_value.specs.declared.value.Message.TheVariants.{Chunk, Pull}
use Rattle.ws_value.specs.declared.value.{Plain.TheVariants.{Undefined}, Value.{Value}, Value.TheVariants.{Plain, Bytes}}
use Rattle.ws_steps.specs.declared.calls.Call.TheVariants.{Enqueue, Deliver}
use Rattle.ws_steps.specs.Promises.{fresh, settle, answer, react, follow, queue_micro, unfollow, use_gift, after_next_job, watch}
use Rattle.ws_steps.specs.Turns.{call_host, row, turns, performed}
use Rattle.ws_steps.specs.Jobs.{begin_job}
use Rattle.ws_steps.specs.Calls.{begin}
use Rattle.ws_steps.specs.Bytes as byte
use Rattle.ws_steps.specs.Cross as cross
use Rattle.ws_steps.specs.Readable as readable
use Rattle.ws_steps.specs.Writable as writable
use Rattle.ws_steps.specs.Pipes as pipe
use Rattle.ws_steps.specs.Transform as transform
use Rattle.ws_steps.specs.Run.{Entry, Called, Worked, Heard, run}
use Rattle.ws_flow.specs.Told.{Open, told}
use Rattle.ws_link_laws.specs.Link.{silence}
use Rattle.ws_chain_laws.specs.Chain.{FromChunks, FromBytes, FromPort, ToSink, ToPort, source_port, sink_port, source_of, behind_at}
use Rattle.ws_wire_laws.specs.Segments.{Segment, hub}
use Rattle.ws_chain_laws.specs.Opening.{BeginsWiring, chained}
use Rattle.ws_chain_laws.specs.Runs.{brought_to, heard_from}
use Rattle.ws_chain_laws.proofs.Begins.{each_wiring_begins}

abbrev v : Value
v = Plain Undefined

-- so many jobs
abbrev jobs : ℕ → List Entry
jobs zero = []
jobs (suc n) = Worked ∷ jobs n

-- so many events that the host takes
abbrev heard : ℕ → List Entry
heard zero = []
heard (suc n) = Heard ∷ heard n

abbrev first : List Entry
first = Called (Enqueue (source_of 0) v) ∷ (jobs 24 ++ heard 4)

abbrev both : List Entry
both = first ++ Called (Enqueue (source_of 1) v) ∷ Called (Enqueue (source_of 1) v) ∷ (jobs 24 ++ heard 4)

worked : (brought_to FromChunks 0 both (chained FromChunks ToSink 1 false) ≡ told (v ∷ []) Open)
    × ((heard_from FromChunks ToSink 1 0 both (chained FromChunks ToSink 1 false) ≡ told (v ∷ []) Open)
    × ((brought_to FromChunks 1 both (chained FromChunks ToSink 1 false) ≡ told (v ∷ v ∷ []) Open)
    × ((heard_from FromChunks ToSink 1 1 both (chained FromChunks ToSink 1 false) ≡ told (v ∷ []) Open)
    × ((behind_at 0 (run both (chained FromChunks ToSink 1 false)) ≡ silence)
    × (behind_at 1 (run both (chained FromChunks ToSink 1 false)) ≡ told (v ∷ []) Open)))))
unfolding fresh settle answer react follow queue_micro unfollow use_gift after_next_job watch readable.call_pull_if_needed readable.accept readable.controller_enqueue readable.stream_close readable.stream_error readable.close_if_empty readable.controller_close readable.controller_error readable.after_take readable.pull_steps readable.default_reader_read readable.disturb readable.reader_generic_initialize readable.start_settled readable.pull_settled readable.cancel_steps readable.stream_cancel readable.cancel_if_readable readable.reader_release writable.ensure_rejected writable.settle_pending writable.update_backpressure writable.refresh_backpressure writable.reject_close_and_closed writable.finish_erroring writable.start_erroring writable.deal_with_rejection writable.controller_error_if_needed writable.process_write writable.process_close writable.advance_queue writable.hand_on writable.write_settled writable.finish_in_flight_close writable.finish_in_flight_close_with_error writable.close_settled writable.start_settled writable.abort_settled writable.controller_write writable.writer_write writable.controller_close writable.stream_close writable.close_with_error_propagation writable.stream_abort writable.abort_if_writable writable.set_up_writer writable.writer_release pipe.finalize pipe.act_by_signal pipe.act pipe.proceed pipe.shutdown pipe.look pipe.look_ready pipe.go_on pipe.keep_chunk pipe.read_ended pipe.write_chunk pipe.write_ended pipe.action_settled pipe.part_settled pipe.no_parts pipe.abort transform.set_backpressure transform.unblock transform.transform_error transform.terminate transform.enqueue transform.enqueued transform.transform_chunk transform.sink_write transform.write_goes_on transform.source_pull transform.sink_close transform.sink_abort transform.source_cancel transform.flush_settled transform.abort_settled transform.cancel_settled call_host row turns performed begin_job begin
worked = (refl, (refl, (refl, (refl, (refl, refl)))))

-- from a byte source: what isn't bytes, and no bytes, aren't brought, and bytes are

abbrev b : Value
b = Bytes (7 ∷ [])

abbrev bytes : List Entry
bytes = Called (Enqueue (source_of 0) v) ∷ Called (Enqueue (source_of 0) (Bytes [])) ∷ Called (Enqueue (source_of 0) b) ∷ (jobs 24 ++ heard 4)

bytes_worked : (brought_to FromBytes 0 bytes (chained FromBytes ToSink 1 false) ≡ told (b ∷ []) Open)
    × ((heard_from FromBytes ToSink 1 0 bytes (chained FromBytes ToSink 1 false) ≡ told (b ∷ []) Open)
    × (behind_at 0 (run bytes (chained FromBytes ToSink 1 false)) ≡ silence))
unfolding byte.call_pull_if_needed byte.stream_close byte.controller_error byte.handle_queue_drain byte.pull_steps byte.default_reader_read byte.controller_close byte.controller_enqueue byte.start_settled byte.pull_settled byte.stream_cancel byte.cancel_if_readable byte.reader_release byte.reader_initialize byte.read fresh settle answer react follow queue_micro unfollow use_gift after_next_job watch readable.call_pull_if_needed readable.accept readable.controller_enqueue readable.stream_close readable.stream_error readable.close_if_empty readable.controller_close readable.controller_error readable.after_take readable.pull_steps readable.default_reader_read readable.disturb readable.reader_generic_initialize readable.start_settled readable.pull_settled readable.cancel_steps readable.stream_cancel readable.cancel_if_readable readable.reader_release writable.ensure_rejected writable.settle_pending writable.update_backpressure writable.refresh_backpressure writable.reject_close_and_closed writable.finish_erroring writable.start_erroring writable.deal_with_rejection writable.controller_error_if_needed writable.process_write writable.process_close writable.advance_queue writable.hand_on writable.write_settled writable.finish_in_flight_close writable.finish_in_flight_close_with_error writable.close_settled writable.start_settled writable.abort_settled writable.controller_write writable.writer_write writable.controller_close writable.stream_close writable.close_with_error_propagation writable.stream_abort writable.abort_if_writable writable.set_up_writer writable.writer_release pipe.finalize pipe.act_by_signal pipe.act pipe.proceed pipe.shutdown pipe.look pipe.look_ready pipe.go_on pipe.keep_chunk pipe.read_ended pipe.write_chunk pipe.write_ended pipe.action_settled pipe.part_settled pipe.no_parts pipe.abort transform.set_backpressure transform.unblock transform.transform_error transform.terminate transform.enqueue transform.enqueued transform.transform_chunk transform.sink_write transform.write_goes_on transform.source_pull transform.sink_close transform.sink_abort transform.source_cancel transform.flush_settled transform.abort_settled transform.cancel_settled call_host row turns performed begin_job begin
bytes_worked = (refl, (refl, refl))

-- from a port to a port: a chunk that is delivered is brought to the first link, the host hears of it there, and brings another to the last, where
-- it is heard as the port of the sink posts it; what comes for another port isn't brought

abbrev delivered : List Entry
delivered = Called (Deliver source_port (Chunk b)) ∷ Called (Deliver (sink_port FromPort) Pull) ∷ (jobs 24 ++ heard 6)

abbrev ported : List Entry
ported = delivered ++ Called (Enqueue (source_of 1) b) ∷ Called (Deliver (sink_port FromPort) Pull) ∷ (jobs 24 ++ heard 6)

ports_worked : (brought_to FromPort 0 ported (chained FromPort ToPort 1 false) ≡ told (b ∷ []) Open)
    × ((heard_from FromPort ToPort 1 0 ported (chained FromPort ToPort 1 false) ≡ told (b ∷ []) Open)
    × ((heard_from FromPort ToPort 1 1 ported (chained FromPort ToPort 1 false) ≡ told (b ∷ []) Open)
    × (behind_at 1 (run ported (chained FromPort ToPort 1 false)) ≡ silence)))
unfolding fresh settle answer react follow queue_micro unfollow use_gift after_next_job watch readable.call_pull_if_needed readable.accept readable.controller_enqueue readable.stream_close readable.stream_error readable.close_if_empty readable.controller_close readable.controller_error readable.after_take readable.pull_steps readable.default_reader_read readable.disturb readable.reader_generic_initialize readable.start_settled readable.pull_settled readable.cancel_steps readable.stream_cancel readable.cancel_if_readable readable.reader_release writable.ensure_rejected writable.settle_pending writable.update_backpressure writable.refresh_backpressure writable.reject_close_and_closed writable.finish_erroring writable.start_erroring writable.deal_with_rejection writable.controller_error_if_needed writable.process_write writable.process_close writable.advance_queue writable.hand_on writable.write_settled writable.finish_in_flight_close writable.finish_in_flight_close_with_error writable.close_settled writable.start_settled writable.abort_settled writable.controller_write writable.writer_write writable.controller_close writable.stream_close writable.close_with_error_propagation writable.stream_abort writable.abort_if_writable writable.set_up_writer writable.writer_release pipe.finalize pipe.act_by_signal pipe.act pipe.proceed pipe.shutdown pipe.look pipe.look_ready pipe.go_on pipe.keep_chunk pipe.read_ended pipe.write_chunk pipe.write_ended pipe.action_settled pipe.part_settled pipe.no_parts pipe.abort transform.set_backpressure transform.unblock transform.transform_error transform.terminate transform.enqueue transform.enqueued transform.transform_chunk transform.sink_write transform.write_goes_on transform.source_pull transform.sink_close transform.sink_abort transform.source_cancel transform.flush_settled transform.abort_settled transform.cancel_settled cross.pull cross.leave cross.close cross.write cross.write_goes_on cross.post_chunk cross.unblock cross.deliver call_host row turns performed begin_job begin
ports_worked = (refl, (refl, (refl, refl)))

-- a hub of two workers: from a byte source to the first port, from that to the next, and from the last to the sink
hub-begins : BeginsWiring (hub 2) 2 false
hub-begins = each_wiring_begins (hub 2) 2 false refl (omega arith)

-- two chains with transform streams in one realm, and a signal
abbrev two : List Segment
two = record { origin = FromPort; count = 2; target = ToPort } ∷ record { origin = FromBytes; count = 1; target = ToSink } ∷ []

two-begin : BeginsWiring two 4 true
two-begin = each_wiring_begins two 4 true refl (omega arith)
