-- The definitions computed on worked examples: ports.
use Rattle.std.proofs.Common.{ℕ, ◌≡◌, List, [], ◌∷◌, map, refl, true}
use Rattle.ws_value.specs.declared.fault.Fault.TheVariants.{DataClone as DataCloneFault}
use Rattle.ws_value.specs.declared.ids.PortId.{PortId}
use Rattle.ws_value.specs.declared.ids.StreamId.{StreamId}
use Rattle.ws_value.specs.declared.value.Message.{Message}
use Rattle.ws_value.specs.declared.value.Message.TheVariants.{Pull as PullMessage, Chunk as ChunkMessage, Close as CloseMessage, Error as ErrorMessage}
use Rattle.ws_value.specs.declared.value.Plain.{Plain}
use Rattle.ws_value.specs.declared.value.Plain.TheVariants.{Fault as FaultReason, Local}
use Rattle.ws_value.specs.declared.value.Value.{Value}
use Rattle.ws_value.specs.declared.value.Value.TheVariants.{Plain as PlainValue}
use Rattle.ws_steps.specs.declared.calls.Answer.TheVariants.{Ok}
use Rattle.ws_steps.specs.declared.calls.Call.{Call}
use Rattle.ws_steps.specs.declared.calls.Call.TheVariants.{MakeReadable, MakeWritable, Settle, GetReader, GetWriter, Read, Write, CloseBy, Cancel, Enqueue, Finish, Fail, Desired, Send, Open, Deliver}
use Rattle.ws_steps.specs.declared.calls.Event.TheVariants.{Post}
use Rattle.ws_steps.specs.declared.calls.HostCall.TheVariants.{Pull, Write as HostWrite, Close as HostClose}
use Rattle.ws_steps.specs.declared.calls.Reply.TheVariants.{Done, Made, Lock, Port, MadePort, Throws}
use Rattle.ws_steps.specs.declared.calls.StartBy.TheVariants.{Now}
use Rattle.ws_steps.specs.declared.calls.Thrown.TheVariants.{DataClone, Unsupported}
use Rattle.ws_steps.specs.declared.port.Side.TheVariants.{Readable as ReadableSide, Writable as WritableSide}
use Rattle.ws_steps.specs.declared.readable.SizeBy.TheVariants.{Count}
use Rattle.ws_steps.specs.Promises.{fresh, settle, answer, react, follow, queue_micro, unfollow, use_gift, after_next_job, watch}
use Rattle.ws_steps.specs.Turns.{call_host, row, turns, performed}
use Rattle.ws_steps.specs.Jobs.{begin_job}
use Rattle.ws_steps.specs.Calls.{begin}
use Rattle.ws_steps.specs.Cross as cross
use Rattle.ws_steps.specs.Pipes as pipe
use Rattle.ws_steps.specs.Readable as readable
use Rattle.ws_steps.specs.Writable as writable
use Rattle.ws_steps.specs.Slots.{empty, is_live}
use Rattle.ws_steps.specs.Run.{Entry, Called, Worked, run}
use Rattle.ws_steps.specs.Histories.{run_events}
use Rattle.ws_steps.specs.PortHistory.{posted_in, run_taken}
use Rattle.ws_steps.proofs.WorkedWords.{Printed, Line, hears, printed_tasks, s0, l0, h, e, v, says, promise, host, given, finished, fulfilled, rejected}

abbrev ported : List Call → List Printed
ported cs = printed_tasks (map (λ c. (20, c)) cs)

abbrev c0 : PortId
c0 = record { 0 = 0 }

abbrev s1 : StreamId
s1 = record { 0 = 1 }

abbrev k : ℕ → Value
k n = PlainValue (Local n)

abbrev data_clone : Plain
data_clone = FaultReason DataCloneFault

abbrev post : Message → Line
post m = hears (Post c0 m)

-- a readable end: a read asks for a chunk, and takes the one that comes; once it closed, nothing comes any more
cross_realm_readable : ported (Open ReadableSide ∷ GetReader s0 ∷ Read l0 ∷ Deliver c0 (ChunkMessage (v 5)) ∷ Deliver c0 CloseMessage ∷ Deliver c0 (ChunkMessage (v 6)) ∷ Read l0 ∷ [])
    ≡ says (MadePort s0 c0) []
    ∷ says (Lock l0) []
    ∷ promise 0 (post PullMessage ∷ [])
    ∷ says Done (given 0 (v 5) ∷ [])
    ∷ says Done []
    ∷ says Done []
    ∷ promise 1 (finished 1 ∷ [])
    ∷ []
unfolding fresh settle answer react follow queue_micro unfollow use_gift after_next_job watch readable.call_pull_if_needed readable.accept readable.controller_enqueue readable.stream_close readable.stream_error readable.close_if_empty readable.controller_close readable.controller_error readable.after_take readable.pull_steps readable.default_reader_read readable.disturb readable.reader_generic_initialize readable.start_settled readable.pull_settled readable.stream_cancel readable.cancel_steps cross.pull cross.leave cross.deliver call_host row turns performed begin_job begin
cross_realm_readable = refl

-- a writable end: each write waits until a chunk is asked for; what can't be cloned is told by an error, and the write fails
cross_realm_writable_uncloneable : ported (Open WritableSide ∷ GetWriter s0 ∷ Write l0 (v 1) ∷ Deliver c0 PullMessage ∷ Write l0 (k 3) ∷ Deliver c0 PullMessage ∷ [])
    ≡ says (MadePort s0 c0) []
    ∷ says (Lock l0) []
    ∷ promise 0 []
    ∷ says Done (post (ChunkMessage (v 1)) ∷ fulfilled 0 ∷ [])
    ∷ promise 1 []
    ∷ says Done (post (ErrorMessage data_clone) ∷ rejected 1 data_clone ∷ [])
    ∷ []
unfolding fresh settle answer react follow unfollow use_gift after_next_job watch writable.ensure_rejected writable.settle_pending writable.update_backpressure writable.refresh_backpressure writable.reject_close_and_closed writable.finish_erroring writable.start_erroring writable.deal_with_rejection writable.controller_error_if_needed writable.process_write writable.process_close writable.advance_queue writable.hand_on writable.write_settled writable.finish_in_flight_close writable.finish_in_flight_close_with_error writable.close_settled writable.start_settled writable.abort_settled writable.controller_write writable.writer_write writable.controller_close writable.stream_close writable.stream_abort writable.set_up_writer writable.writer_release cross.leave cross.close cross.write cross.write_goes_on cross.post_chunk cross.unblock cross.deliver call_host row turns performed begin_job begin
cross_realm_writable_uncloneable = refl

-- a readable stream is sent: it is piped into the end of a port, and no other call may send it
transferred_readable : ported (MakeReadable 1 Count Now ∷ Send s0 ∷ Send s0 ∷ Enqueue s0 (v 5) ∷ Deliver c0 PullMessage ∷ Finish s0 ∷ [])
    ≡ says (Made s0) (host 0 (Pull s0) ∷ [])
    ∷ says (Port c0) []
    ∷ says (Throws DataClone) []
    ∷ says Done []
    ∷ says Done (post (ChunkMessage (v 5)) ∷ [])
    ∷ says Done (post CloseMessage ∷ [])
    ∷ []
unfolding fresh settle answer react follow queue_micro unfollow use_gift after_next_job watch readable.call_pull_if_needed readable.accept readable.controller_enqueue readable.stream_close readable.stream_error readable.close_if_empty readable.controller_close readable.controller_error readable.after_take readable.pull_steps readable.default_reader_read readable.disturb readable.reader_generic_initialize readable.start_settled readable.pull_settled readable.cancel_steps readable.stream_cancel readable.cancel_if_readable readable.reader_release writable.ensure_rejected writable.settle_pending writable.update_backpressure writable.refresh_backpressure writable.reject_close_and_closed writable.finish_erroring writable.start_erroring writable.deal_with_rejection writable.controller_error_if_needed writable.process_write writable.process_close writable.advance_queue writable.hand_on writable.write_settled writable.finish_in_flight_close writable.finish_in_flight_close_with_error writable.close_settled writable.start_settled writable.abort_settled writable.controller_write writable.writer_write writable.controller_close writable.stream_close writable.close_with_error_propagation writable.stream_abort writable.abort_if_writable writable.set_up_writer writable.writer_release pipe.finalize pipe.act_by_signal pipe.act pipe.proceed pipe.shutdown pipe.look pipe.look_ready pipe.go_on pipe.keep_chunk pipe.read_ended pipe.write_chunk pipe.write_ended pipe.action_settled pipe.part_settled pipe.no_parts pipe.abort cross.pull cross.leave cross.close cross.write cross.write_goes_on cross.post_chunk cross.unblock cross.deliver call_host row turns performed begin_job begin
transferred_readable = refl

-- a cancel with a reason that can't be cloned is told by another, fails, and is the last that is posted
cancel_with_a_local_reason : ported (Open ReadableSide ∷ Cancel s0 (Local 1) ∷ Deliver c0 (ChunkMessage (v 1)) ∷ Cancel s0 (e 1) ∷ [])
    ≡ says (MadePort s0 c0) []
    ∷ promise 0 (post (ErrorMessage data_clone) ∷ rejected 0 data_clone ∷ [])
    ∷ says Done []
    ∷ promise 1 (fulfilled 1 ∷ [])
    ∷ []
unfolding fresh settle answer react follow queue_micro unfollow use_gift after_next_job watch readable.call_pull_if_needed readable.accept readable.controller_enqueue readable.stream_close readable.stream_error readable.close_if_empty readable.controller_close readable.controller_error readable.after_take readable.pull_steps readable.default_reader_read readable.disturb readable.reader_generic_initialize readable.start_settled readable.pull_settled readable.stream_cancel readable.cancel_steps cross.pull cross.leave cross.deliver call_host row turns performed begin_job begin
cancel_with_a_local_reason = refl

-- an error that comes lets the write that waits go on, which posts its chunk; then the stream errors, and the port is still entangled
waiting_write_posts_after_an_error : ported (Open WritableSide ∷ GetWriter s0 ∷ Write l0 (v 1) ∷ Write l0 (v 2) ∷ Deliver c0 (ErrorMessage (e 1)) ∷ Deliver c0 PullMessage ∷ [])
    ≡ says (MadePort s0 c0) []
    ∷ says (Lock l0) []
    ∷ promise 0 []
    ∷ promise 1 []
    ∷ says Done (post (ChunkMessage (v 1)) ∷ fulfilled 0 ∷ rejected 1 (e 1) ∷ [])
    ∷ says Done []
    ∷ []
unfolding fresh settle answer react follow unfollow use_gift after_next_job watch writable.ensure_rejected writable.settle_pending writable.update_backpressure writable.refresh_backpressure writable.reject_close_and_closed writable.finish_erroring writable.start_erroring writable.deal_with_rejection writable.controller_error_if_needed writable.process_write writable.process_close writable.advance_queue writable.hand_on writable.write_settled writable.finish_in_flight_close writable.finish_in_flight_close_with_error writable.close_settled writable.start_settled writable.abort_settled writable.controller_write writable.writer_write writable.controller_close writable.stream_close writable.stream_abort writable.set_up_writer writable.writer_release cross.leave cross.close cross.write cross.write_goes_on cross.post_chunk cross.unblock cross.deliver call_host row turns performed begin_job begin
waiting_write_posts_after_an_error = refl

-- what has no such end, and what an end hasn't
refused_calls : ported (Open ReadableSide ∷ Enqueue s0 (v 1) ∷ Finish s0 ∷ Fail s0 (e 1) ∷ Desired s0 ∷ Send s1 ∷ Open WritableSide ∷ Fail s1 (e 1) ∷ Deliver (record { 0 = 2 }) PullMessage ∷ [])
    ≡ says (MadePort s0 c0) []
    ∷ says (Throws Unsupported) []
    ∷ says (Throws Unsupported) []
    ∷ says (Throws Unsupported) []
    ∷ says (Throws Unsupported) []
    ∷ says (Throws Unsupported) []
    ∷ says (MadePort s1 (record { 0 = 1 })) []
    ∷ says (Throws Unsupported) []
    ∷ says (Throws Unsupported) []
    ∷ []
unfolding fresh settle answer react follow queue_micro unfollow use_gift after_next_job watch readable.call_pull_if_needed readable.accept readable.controller_enqueue readable.stream_close readable.stream_error readable.close_if_empty readable.controller_close readable.controller_error readable.after_take readable.pull_steps readable.default_reader_read readable.disturb readable.reader_generic_initialize readable.start_settled readable.pull_settled readable.cancel_steps readable.stream_cancel readable.cancel_if_readable readable.reader_release writable.ensure_rejected writable.settle_pending writable.update_backpressure writable.refresh_backpressure writable.reject_close_and_closed writable.finish_erroring writable.start_erroring writable.deal_with_rejection writable.controller_error_if_needed writable.process_write writable.process_close writable.advance_queue writable.hand_on writable.write_settled writable.finish_in_flight_close writable.finish_in_flight_close_with_error writable.close_settled writable.start_settled writable.abort_settled writable.controller_write writable.writer_write writable.controller_close writable.stream_close writable.close_with_error_propagation writable.stream_abort writable.abort_if_writable writable.set_up_writer writable.writer_release pipe.finalize pipe.act_by_signal pipe.act pipe.proceed pipe.shutdown pipe.look pipe.look_ready pipe.go_on pipe.keep_chunk pipe.read_ended pipe.write_chunk pipe.write_ended pipe.action_settled pipe.part_settled pipe.no_parts pipe.abort cross.pull cross.leave cross.close cross.write cross.write_goes_on cross.post_chunk cross.unblock cross.deliver call_host row turns performed begin_job begin
refused_calls = refl

-- a writable stream is sent: what comes by the port is piped into it, and each chunk is asked for
transferred_writable : ported (MakeWritable 1 Count Now ∷ Send s0 ∷ Deliver c0 (ChunkMessage (v 1)) ∷ Settle (h 0) Ok ∷ Deliver c0 CloseMessage ∷ [])
    ≡ says (Made s0) []
    ∷ says (Port c0) (post PullMessage ∷ [])
    ∷ says Done (host 0 (HostWrite s0 (v 1)) ∷ [])
    ∷ says Done (post PullMessage ∷ [])
    ∷ says Done (host 1 (HostClose s0) ∷ [])
    ∷ []
unfolding fresh settle answer react follow queue_micro unfollow use_gift after_next_job watch readable.call_pull_if_needed readable.accept readable.controller_enqueue readable.stream_close readable.stream_error readable.close_if_empty readable.controller_close readable.controller_error readable.after_take readable.pull_steps readable.default_reader_read readable.disturb readable.reader_generic_initialize readable.start_settled readable.pull_settled readable.cancel_steps readable.stream_cancel readable.cancel_if_readable readable.reader_release writable.ensure_rejected writable.settle_pending writable.update_backpressure writable.refresh_backpressure writable.reject_close_and_closed writable.finish_erroring writable.start_erroring writable.deal_with_rejection writable.controller_error_if_needed writable.process_write writable.process_close writable.advance_queue writable.hand_on writable.write_settled writable.finish_in_flight_close writable.finish_in_flight_close_with_error writable.close_settled writable.start_settled writable.abort_settled writable.controller_write writable.writer_write writable.controller_close writable.stream_close writable.close_with_error_propagation writable.stream_abort writable.abort_if_writable writable.set_up_writer writable.writer_release pipe.finalize pipe.act_by_signal pipe.act pipe.proceed pipe.shutdown pipe.look pipe.look_ready pipe.go_on pipe.keep_chunk pipe.read_ended pipe.write_chunk pipe.write_ended pipe.action_settled pipe.part_settled pipe.no_parts pipe.abort cross.pull cross.leave cross.close cross.write cross.write_goes_on cross.post_chunk cross.unblock cross.deliver call_host row turns performed begin_job begin
transferred_writable = refl

-- the histories: a write waits and is posted, an error comes, and a close is refused, so that nothing follows
abbrev written_and_errored : List Entry
written_and_errored =
    Called (Open WritableSide) ∷ Worked ∷ Called (GetWriter s0) ∷ Called (Write l0 (v 1)) ∷ Called (Deliver c0 PullMessage) ∷ Worked ∷ Worked ∷ Worked ∷ Worked
    ∷ Called (Deliver c0 (ErrorMessage (e 1))) ∷ Called (CloseBy l0) ∷ Worked ∷ []

posted_once : (posted_in c0 (run_events written_and_errored empty) ≡ ChunkMessage (v 1) ∷ [])
    × ((run_taken c0 written_and_errored empty ≡ PullMessage ∷ ErrorMessage (e 1) ∷ []) × (is_live c0 (run written_and_errored empty) ≡ true))
unfolding fresh settle answer react follow unfollow use_gift after_next_job watch writable.ensure_rejected writable.settle_pending writable.update_backpressure writable.refresh_backpressure writable.reject_close_and_closed writable.finish_erroring writable.start_erroring writable.deal_with_rejection writable.controller_error_if_needed writable.process_write writable.process_close writable.advance_queue writable.hand_on writable.write_settled writable.finish_in_flight_close writable.finish_in_flight_close_with_error writable.close_settled writable.start_settled writable.abort_settled writable.controller_write writable.writer_write writable.controller_close writable.stream_close writable.stream_abort writable.set_up_writer writable.writer_release cross.leave cross.close cross.write cross.write_goes_on cross.post_chunk cross.unblock cross.deliver call_host row turns performed begin_job begin
posted_once = (refl, (refl, refl))
