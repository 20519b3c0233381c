-- The definitions computed on worked examples: writes, closes and the promises of writers.
use Rattle.std.proofs.Common.{◌≡◌, [], ◌∷◌, refl, true, Some, pos, negsuc}
use Rattle.ws_value.specs.declared.value.Value.TheVariants.{Bytes}
use Rattle.ws_steps.specs.declared.calls.Answer.TheVariants.{Ok, Fail as FailWith}
use Rattle.ws_steps.specs.declared.calls.Call.TheVariants.{MakeWritable, GetWriter, Write as WriteBy, Close as CloseStream, CloseBy, AbortBy, Closed as ClosedOf, Ready as ReadyOf, Release, Fail, DesiredBy, Settle, State}
use Rattle.ws_steps.specs.declared.calls.HostCall.TheVariants.{Write, Close}
use Rattle.ws_steps.specs.declared.calls.Reply.TheVariants.{Done, Made, Lock, Size, Throws, State as StateReply}
use Rattle.ws_steps.specs.declared.calls.StartBy.TheVariants.{Now}
use Rattle.ws_steps.specs.declared.calls.Thrown.TheVariants.{TypeError}
use Rattle.ws_steps.specs.declared.calls.Word.TheVariants.{Writable as WordWritable, Erroring as WordErroring}
use Rattle.ws_steps.specs.declared.readable.SizeBy.TheVariants.{Count, ByteLength}
use Rattle.ws_steps.specs.Effects.{type_error}
use Rattle.ws_steps.specs.Promises.{fresh, settle, answer, react, follow, unfollow, use_gift, after_next_job, watch}
use Rattle.ws_steps.specs.Writable.{ensure_rejected, settle_pending, update_backpressure, refresh_backpressure, reject_close_and_closed, finish_erroring, start_erroring, deal_with_rejection, controller_error_if_needed, process_write, process_close, advance_queue, hand_on, write_settled, finish_in_flight_close, finish_in_flight_close_with_error, close_settled, start_settled, abort_settled, controller_write, writer_write, controller_close, stream_close, stream_abort, set_up_writer, writer_release}
use Rattle.ws_steps.specs.Turns.{call_host, row, turns, performed}
use Rattle.ws_steps.specs.Jobs.{begin_job}
use Rattle.ws_steps.specs.Calls.{begin}
use Rattle.ws_steps.proofs.WorkedWords.{printed, s0, l0, l1, h, e, v, says, promise, host, signal, fulfilled, rejected, no_flags}

-- the second write waits for the first, and the close for both
two_writes_and_a_close : printed (MakeWritable 1 Count Now ∷ GetWriter s0 ∷ ClosedOf l0 ∷ WriteBy l0 (v 1) ∷ WriteBy l0 (v 2) ∷ CloseBy l0 ∷ Settle (h 0) Ok ∷ Settle (h 1) Ok ∷ Settle (h 2) Ok ∷ CloseBy l0 ∷ WriteBy l0 (v 3) ∷ [])
    ≡ says (Made s0) []
    ∷ says (Lock l0) []
    ∷ promise 0 []
    ∷ promise 1 (host 0 (Write s0 (v 1)) ∷ [])
    ∷ promise 2 []
    ∷ promise 3 []
    ∷ says Done (fulfilled 1 ∷ host 1 (Write s0 (v 2)) ∷ [])
    ∷ says Done (fulfilled 2 ∷ host 2 (Close s0) ∷ [])
    ∷ says Done (fulfilled 3 ∷ fulfilled 0 ∷ [])
    ∷ promise 4 (rejected 4 type_error ∷ [])
    ∷ promise 5 (rejected 5 type_error ∷ [])
    ∷ []
unfolding fresh settle answer react follow unfollow use_gift after_next_job watch ensure_rejected settle_pending update_backpressure refresh_backpressure reject_close_and_closed finish_erroring start_erroring deal_with_rejection controller_error_if_needed process_write process_close advance_queue hand_on write_settled finish_in_flight_close finish_in_flight_close_with_error close_settled start_settled abort_settled controller_write writer_write controller_close stream_close stream_abort set_up_writer writer_release call_host row turns performed begin_job begin
two_writes_and_a_close = refl

-- the close fails, and a second close meanwhile is refused
failing_close : printed (MakeWritable 1 Count Now ∷ GetWriter s0 ∷ ClosedOf l0 ∷ CloseBy l0 ∷ CloseBy l0 ∷ Settle (h 0) (FailWith (e 9)) ∷ [])
    ≡ says (Made s0) []
    ∷ says (Lock l0) []
    ∷ promise 0 []
    ∷ promise 1 (host 0 (Close s0) ∷ [])
    ∷ promise 2 (rejected 2 type_error ∷ [])
    ∷ says Done (rejected 1 (e 9) ∷ rejected 0 (e 9) ∷ [])
    ∷ []
unfolding fresh settle answer react follow unfollow use_gift after_next_job watch ensure_rejected settle_pending update_backpressure refresh_backpressure reject_close_and_closed finish_erroring start_erroring deal_with_rejection controller_error_if_needed process_write process_close advance_queue hand_on write_settled finish_in_flight_close finish_in_flight_close_with_error close_settled start_settled abort_settled controller_write writer_write controller_close stream_close stream_abort set_up_writer writer_release call_host row turns performed begin_job begin
failing_close = refl

-- ready is a new promise once there is backpressure, and is fulfilled once there is none
ready_follows_the_backpressure : printed (MakeWritable 1 Count Now ∷ GetWriter s0 ∷ ReadyOf l0 ∷ WriteBy l0 (v 1) ∷ ReadyOf l0 ∷ DesiredBy l0 ∷ WriteBy l0 (v 2) ∷ DesiredBy l0 ∷ Settle (h 0) Ok ∷ ReadyOf l0 ∷ Settle (h 1) Ok ∷ DesiredBy l0 ∷ [])
    ≡ says (Made s0) []
    ∷ says (Lock l0) []
    ∷ promise 0 (fulfilled 0 ∷ [])
    ∷ promise 1 (host 0 (Write s0 (v 1)) ∷ [])
    ∷ promise 2 []
    ∷ says (Size (Some (pos 0))) []
    ∷ promise 3 []
    ∷ says (Size (Some (negsuc 0))) []
    ∷ says Done (fulfilled 1 ∷ host 1 (Write s0 (v 2)) ∷ [])
    ∷ promise 2 []
    ∷ says Done (fulfilled 3 ∷ fulfilled 2 ∷ [])
    ∷ says (Size (Some (pos 1))) []
    ∷ []
unfolding fresh settle answer react follow unfollow use_gift after_next_job watch ensure_rejected settle_pending update_backpressure refresh_backpressure reject_close_and_closed finish_erroring start_erroring deal_with_rejection controller_error_if_needed process_write process_close advance_queue hand_on write_settled finish_in_flight_close finish_in_flight_close_with_error close_settled start_settled abort_settled controller_write writer_write controller_close stream_close stream_abort set_up_writer writer_release call_host row turns performed begin_job begin
ready_follows_the_backpressure = refl

-- an abort rejects the pending ready promise
ready_on_abort : printed (MakeWritable 1 Count Now ∷ GetWriter s0 ∷ WriteBy l0 (v 1) ∷ ReadyOf l0 ∷ AbortBy l0 (e 7) ∷ ReadyOf l0 ∷ [])
    ≡ says (Made s0) []
    ∷ says (Lock l0) []
    ∷ promise 0 (host 0 (Write s0 (v 1)) ∷ [])
    ∷ promise 1 []
    ∷ promise 2 (signal (e 7) ∷ rejected 1 (e 7) ∷ [])
    ∷ promise 1 []
    ∷ []
unfolding fresh settle answer react follow unfollow use_gift after_next_job watch ensure_rejected settle_pending update_backpressure refresh_backpressure reject_close_and_closed finish_erroring start_erroring deal_with_rejection controller_error_if_needed process_write process_close advance_queue hand_on write_settled finish_in_flight_close finish_in_flight_close_with_error close_settled start_settled abort_settled controller_write writer_write controller_close stream_close stream_abort set_up_writer writer_release call_host row turns performed begin_job begin
ready_on_abort = refl

-- a released writer: its promises are rejected, ready first; a write in flight goes on, and another writer sees it end
released_writer : printed (MakeWritable 1 Count Now ∷ GetWriter s0 ∷ ClosedOf l0 ∷ WriteBy l0 (v 1) ∷ ReadyOf l0 ∷ Release l0 ∷ ClosedOf l0 ∷ ReadyOf l0 ∷ WriteBy l0 (v 2) ∷ CloseBy l0 ∷ AbortBy l0 (e 1) ∷ DesiredBy l0 ∷ GetWriter s0 ∷ Settle (h 0) Ok ∷ DesiredBy l1 ∷ Release l0 ∷ [])
    ≡ says (Made s0) []
    ∷ says (Lock l0) []
    ∷ promise 0 []
    ∷ promise 1 (host 0 (Write s0 (v 1)) ∷ [])
    ∷ promise 2 []
    ∷ says Done (rejected 2 type_error ∷ rejected 0 type_error ∷ [])
    ∷ promise 0 []
    ∷ promise 2 []
    ∷ promise 3 (rejected 3 type_error ∷ [])
    ∷ promise 4 (rejected 4 type_error ∷ [])
    ∷ promise 5 (rejected 5 type_error ∷ [])
    ∷ says (Throws TypeError) []
    ∷ says (Lock l1) []
    ∷ says Done (fulfilled 1 ∷ [])
    ∷ says (Size (Some (pos 1))) []
    ∷ says Done []
    ∷ []
unfolding fresh settle answer react follow unfollow use_gift after_next_job watch ensure_rejected settle_pending update_backpressure refresh_backpressure reject_close_and_closed finish_erroring start_erroring deal_with_rejection controller_error_if_needed process_write process_close advance_queue hand_on write_settled finish_in_flight_close finish_in_flight_close_with_error close_settled start_settled abort_settled controller_write writer_write controller_close stream_close stream_abort set_up_writer writer_release call_host row turns performed begin_job begin
released_writer = refl

-- a close of a stream that nothing locks; a writer of a closing stream is ready
close_without_a_writer : printed (MakeWritable 0 Count Now ∷ CloseStream s0 ∷ GetWriter s0 ∷ ReadyOf l0 ∷ Settle (h 0) Ok ∷ DesiredBy l0 ∷ CloseBy l0 ∷ AbortBy l0 (e 3) ∷ [])
    ≡ says (Made s0) []
    ∷ promise 0 (host 0 (Close s0) ∷ [])
    ∷ says (Lock l0) []
    ∷ promise 1 (fulfilled 1 ∷ [])
    ∷ says Done (fulfilled 0 ∷ [])
    ∷ says (Size (Some (pos 0))) []
    ∷ promise 2 (rejected 2 type_error ∷ [])
    ∷ promise 3 (fulfilled 3 ∷ [])
    ∷ []
unfolding fresh settle answer react follow unfollow use_gift after_next_job watch ensure_rejected settle_pending update_backpressure refresh_backpressure reject_close_and_closed finish_erroring start_erroring deal_with_rejection controller_error_if_needed process_write process_close advance_queue hand_on write_settled finish_in_flight_close finish_in_flight_close_with_error close_settled start_settled abort_settled controller_write writer_write controller_close stream_close stream_abort set_up_writer writer_release call_host row turns performed begin_job begin
close_without_a_writer = refl

-- a write in flight keeps its size in the queue, and its request is no longer one that waits
sizes_of_writes : printed (MakeWritable 5 ByteLength Now ∷ GetWriter s0 ∷ WriteBy l0 (Bytes (97 ∷ 98 ∷ 99 ∷ [])) ∷ DesiredBy l0 ∷ WriteBy l0 (Bytes (97 ∷ 98 ∷ [])) ∷ State s0 ∷ Fail s0 (e 5) ∷ State s0 ∷ [])
    ≡ says (Made s0) []
    ∷ says (Lock l0) []
    ∷ promise 0 (host 0 (Write s0 (Bytes (97 ∷ 98 ∷ 99 ∷ []))) ∷ [])
    ∷ says (Size (Some (pos 2))) []
    ∷ promise 1 []
    ∷ says (StateReply (record { state = WordWritable; flags = record no_flags { s = true; b = true; w = true; l = true }; total = 5; queue = 2; requests = 1 })) []
    ∷ says Done []
    ∷ says (StateReply (record { state = WordErroring; flags = record no_flags { s = true; b = true; w = true; l = true }; total = 5; queue = 2; requests = 1 })) []
    ∷ []
unfolding fresh settle answer react follow unfollow use_gift after_next_job watch ensure_rejected settle_pending update_backpressure refresh_backpressure reject_close_and_closed finish_erroring start_erroring deal_with_rejection controller_error_if_needed process_write process_close advance_queue hand_on write_settled finish_in_flight_close finish_in_flight_close_with_error close_settled start_settled abort_settled controller_write writer_write controller_close stream_close stream_abort set_up_writer writer_release call_host row turns performed begin_job begin
sizes_of_writes = refl
