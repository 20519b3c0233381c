-- The definitions computed on worked examples: how writable streams are aborted and errored.
use Rattle.std.proofs.Common.{◌≡◌, [], ◌∷◌, refl, true, false, None}
use Rattle.ws_steps.specs.declared.calls.Answer.TheVariants.{Ok, Fail as FailWith}
use Rattle.ws_steps.specs.declared.calls.Call.TheVariants.{MakeWritable, GetWriter, Write as WriteBy, CloseBy, Abort as AbortStream, AbortBy, Closed as ClosedOf, Ready as ReadyOf, Release, Fail, DesiredBy, Settle, State}
use Rattle.ws_steps.specs.declared.calls.HostCall.TheVariants.{Start, Write, Close, Abort}
use Rattle.ws_steps.specs.declared.calls.Reply.TheVariants.{Done, Made, Lock, Size, State as StateReply}
use Rattle.ws_steps.specs.declared.calls.StartBy.TheVariants.{Now, Later}
use Rattle.ws_steps.specs.declared.calls.Word.TheVariants.{Closed as WordClosed}
use Rattle.ws_steps.specs.declared.readable.SizeBy.TheVariants.{Count}
use Rattle.ws_steps.specs.Effects.{type_error}
use Rattle.ws_steps.specs.Promises.{fresh, settle, answer, react, follow, unfollow, use_gift, after_next_job, watch}
use Rattle.ws_steps.specs.Writable.{ensure_rejected, settle_pending, update_backpressure, refresh_backpressure, reject_close_and_closed, finish_erroring, start_erroring, deal_with_rejection, controller_error_if_needed, process_write, process_close, advance_queue, hand_on, write_settled, finish_in_flight_close, finish_in_flight_close_with_error, close_settled, start_settled, abort_settled, controller_write, writer_write, controller_close, stream_close, stream_abort, set_up_writer, writer_release}
use Rattle.ws_steps.specs.Slots.{empty}
use Rattle.ws_steps.specs.Turns.{call_host, row, turns, performed}
use Rattle.ws_steps.specs.Jobs.{begin_job}
use Rattle.ws_steps.specs.Calls.{begin}
use Rattle.ws_steps.specs.Run.{Called, Worked, run}
use Rattle.ws_steps.proofs.WorkedWords.{printed, s0, l0, l1, h, e, v, says, promise, host, signal, fulfilled, rejected, no_flags}

-- an abort while a write is in flight, and then that write fails
abort_during_a_failing_write : printed (MakeWritable 1 Count Now ∷ GetWriter s0 ∷ ClosedOf l0 ∷ WriteBy l0 (v 1) ∷ AbortBy l0 (e 7) ∷ Settle (h 0) (FailWith (e 9)) ∷ Settle (h 1) Ok ∷ [])
    ≡ says (Made s0) []
    ∷ says (Lock l0) []
    ∷ promise 0 []
    ∷ promise 1 (host 0 (Write s0 (v 1)) ∷ [])
    ∷ promise 2 (signal (e 7) ∷ [])
    ∷ says Done (rejected 1 (e 9) ∷ host 1 (Abort s0 (e 7)) ∷ [])
    ∷ says Done (fulfilled 2 ∷ rejected 0 (e 7) ∷ [])
    ∷ []
unfolding fresh settle answer react follow unfollow use_gift after_next_job watch ensure_rejected settle_pending update_backpressure refresh_backpressure reject_close_and_closed finish_erroring start_erroring deal_with_rejection controller_error_if_needed process_write process_close advance_queue hand_on write_settled finish_in_flight_close finish_in_flight_close_with_error close_settled start_settled abort_settled controller_write writer_write controller_close stream_close stream_abort set_up_writer writer_release call_host row turns performed begin_job begin
abort_during_a_failing_write = refl

-- an abort during a close in flight that succeeds: the stream is closed
abort_during_a_close : printed (MakeWritable 1 Count Now ∷ GetWriter s0 ∷ CloseBy l0 ∷ AbortBy l0 (e 7) ∷ Settle (h 0) Ok ∷ State s0 ∷ [])
    ≡ says (Made s0) []
    ∷ says (Lock l0) []
    ∷ promise 0 (host 0 (Close s0) ∷ [])
    ∷ promise 1 (signal (e 7) ∷ [])
    ∷ says Done (fulfilled 0 ∷ fulfilled 1 ∷ [])
    ∷ says (StateReply (record { state = WordClosed; flags = record no_flags { s = true; l = true }; total = 0; queue = 0; requests = 0 })) []
    ∷ []
unfolding fresh settle answer react follow unfollow use_gift after_next_job watch ensure_rejected settle_pending update_backpressure refresh_backpressure reject_close_and_closed finish_erroring start_erroring deal_with_rejection controller_error_if_needed process_write process_close advance_queue hand_on write_settled finish_in_flight_close finish_in_flight_close_with_error close_settled start_settled abort_settled controller_write writer_write controller_close stream_close stream_abort set_up_writer writer_release call_host row turns performed begin_job begin
abort_during_a_close = refl

-- an abort during a close in flight that fails
abort_during_a_failing_close : printed (MakeWritable 1 Count Now ∷ GetWriter s0 ∷ ClosedOf l0 ∷ CloseBy l0 ∷ AbortBy l0 (e 7) ∷ Settle (h 0) (FailWith (e 9)) ∷ [])
    ≡ says (Made s0) []
    ∷ says (Lock l0) []
    ∷ promise 0 []
    ∷ promise 1 (host 0 (Close s0) ∷ [])
    ∷ promise 2 (signal (e 7) ∷ [])
    ∷ says Done (rejected 1 (e 9) ∷ rejected 2 (e 9) ∷ rejected 0 (e 7) ∷ [])
    ∷ []
unfolding fresh settle answer react follow unfollow use_gift after_next_job watch ensure_rejected settle_pending update_backpressure refresh_backpressure reject_close_and_closed finish_erroring start_erroring deal_with_rejection controller_error_if_needed process_write process_close advance_queue hand_on write_settled finish_in_flight_close finish_in_flight_close_with_error close_settled start_settled abort_settled controller_write writer_write controller_close stream_close stream_abort set_up_writer writer_release call_host row turns performed begin_job begin
abort_during_a_failing_close = refl

-- a close request waits for the abort
close_waits_for_the_abort : printed (MakeWritable 1 Count Now ∷ GetWriter s0 ∷ WriteBy l0 (v 1) ∷ CloseBy l0 ∷ AbortBy l0 (e 7) ∷ Settle (h 0) Ok ∷ Settle (h 1) Ok ∷ [])
    ≡ says (Made s0) []
    ∷ says (Lock l0) []
    ∷ promise 0 (host 0 (Write s0 (v 1)) ∷ [])
    ∷ promise 1 []
    ∷ promise 2 (signal (e 7) ∷ [])
    ∷ says Done (fulfilled 0 ∷ host 1 (Abort s0 (e 7)) ∷ [])
    ∷ says Done (fulfilled 2 ∷ rejected 1 (e 7) ∷ [])
    ∷ []
unfolding fresh settle answer react follow unfollow use_gift after_next_job watch ensure_rejected settle_pending update_backpressure refresh_backpressure reject_close_and_closed finish_erroring start_erroring deal_with_rejection controller_error_if_needed process_write process_close advance_queue hand_on write_settled finish_in_flight_close finish_in_flight_close_with_error close_settled start_settled abort_settled controller_write writer_write controller_close stream_close stream_abort set_up_writer writer_release call_host row turns performed begin_job begin
close_waits_for_the_abort = refl

-- a second abort gives the same promise, and signals nothing; once the stream is errored, an abort is fulfilled
second_abort : printed (MakeWritable 1 Count Now ∷ GetWriter s0 ∷ ClosedOf l0 ∷ WriteBy l0 (v 1) ∷ AbortBy l0 (e 7) ∷ AbortBy l0 (e 8) ∷ Settle (h 0) Ok ∷ Settle (h 1) Ok ∷ AbortBy l0 (e 6) ∷ [])
    ≡ says (Made s0) []
    ∷ says (Lock l0) []
    ∷ promise 0 []
    ∷ promise 1 (host 0 (Write s0 (v 1)) ∷ [])
    ∷ promise 2 (signal (e 7) ∷ [])
    ∷ promise 2 []
    ∷ says Done (fulfilled 1 ∷ host 1 (Abort s0 (e 7)) ∷ [])
    ∷ says Done (fulfilled 2 ∷ rejected 0 (e 7) ∷ [])
    ∷ promise 3 (fulfilled 3 ∷ [])
    ∷ []
unfolding fresh settle answer react follow unfollow use_gift after_next_job watch ensure_rejected settle_pending update_backpressure refresh_backpressure reject_close_and_closed finish_erroring start_erroring deal_with_rejection controller_error_if_needed process_write process_close advance_queue hand_on write_settled finish_in_flight_close finish_in_flight_close_with_error close_settled start_settled abort_settled controller_write writer_write controller_close stream_close stream_abort set_up_writer writer_release call_host row turns performed begin_job begin
second_abort = refl

-- an abort while the stream is erroring signals, and performs no abort algorithm
abort_while_erroring : printed (MakeWritable 1 Count Now ∷ GetWriter s0 ∷ ClosedOf l0 ∷ WriteBy l0 (v 1) ∷ Fail s0 (e 5) ∷ AbortBy l0 (e 7) ∷ Settle (h 0) Ok ∷ [])
    ≡ says (Made s0) []
    ∷ says (Lock l0) []
    ∷ promise 0 []
    ∷ promise 1 (host 0 (Write s0 (v 1)) ∷ [])
    ∷ says Done []
    ∷ promise 2 (signal (e 7) ∷ [])
    ∷ says Done (fulfilled 1 ∷ rejected 2 (e 5) ∷ rejected 0 (e 5) ∷ [])
    ∷ []
unfolding fresh settle answer react follow unfollow use_gift after_next_job watch ensure_rejected settle_pending update_backpressure refresh_backpressure reject_close_and_closed finish_erroring start_erroring deal_with_rejection controller_error_if_needed process_write process_close advance_queue hand_on write_settled finish_in_flight_close finish_in_flight_close_with_error close_settled start_settled abort_settled controller_write writer_write controller_close stream_close stream_abort set_up_writer writer_release call_host row turns performed begin_job begin
abort_while_erroring = refl

-- a close while the stream is erroring is accepted; a write then finds it closing
close_while_erroring : printed (MakeWritable 1 Count Now ∷ GetWriter s0 ∷ ClosedOf l0 ∷ WriteBy l0 (v 1) ∷ Fail s0 (e 5) ∷ CloseBy l0 ∷ WriteBy l0 (v 2) ∷ Settle (h 0) (FailWith (e 9)) ∷ [])
    ≡ says (Made s0) []
    ∷ says (Lock l0) []
    ∷ promise 0 []
    ∷ promise 1 (host 0 (Write s0 (v 1)) ∷ [])
    ∷ says Done []
    ∷ promise 2 []
    ∷ promise 3 (rejected 3 type_error ∷ [])
    ∷ says Done (rejected 1 (e 9) ∷ rejected 2 (e 5) ∷ rejected 0 (e 5) ∷ [])
    ∷ []
unfolding fresh settle answer react follow unfollow use_gift after_next_job watch ensure_rejected settle_pending update_backpressure refresh_backpressure reject_close_and_closed finish_erroring start_erroring deal_with_rejection controller_error_if_needed process_write process_close advance_queue hand_on write_settled finish_in_flight_close finish_in_flight_close_with_error close_settled start_settled abort_settled controller_write writer_write controller_close stream_close stream_abort set_up_writer writer_release call_host row turns performed begin_job begin
close_while_erroring = refl

-- writes to an erroring stream and to an errored one are rejected with its error, and a close with a TypeError
write_while_erroring : printed (MakeWritable 1 Count Now ∷ GetWriter s0 ∷ WriteBy l0 (v 1) ∷ Fail s0 (e 5) ∷ WriteBy l0 (v 2) ∷ Settle (h 0) Ok ∷ WriteBy l0 (v 3) ∷ CloseBy l0 ∷ [])
    ≡ says (Made s0) []
    ∷ says (Lock l0) []
    ∷ promise 0 (host 0 (Write s0 (v 1)) ∷ [])
    ∷ says Done []
    ∷ promise 1 (rejected 1 (e 5) ∷ [])
    ∷ says Done (fulfilled 0 ∷ [])
    ∷ promise 2 (rejected 2 (e 5) ∷ [])
    ∷ promise 3 (rejected 3 type_error ∷ [])
    ∷ []
unfolding fresh settle answer react follow unfollow use_gift after_next_job watch ensure_rejected settle_pending update_backpressure refresh_backpressure reject_close_and_closed finish_erroring start_erroring deal_with_rejection controller_error_if_needed process_write process_close advance_queue hand_on write_settled finish_in_flight_close finish_in_flight_close_with_error close_settled start_settled abort_settled controller_write writer_write controller_close stream_close stream_abort set_up_writer writer_release call_host row turns performed begin_job begin
write_while_erroring = refl

-- an abort waits for the start; the abort algorithm fails
abort_before_the_start : printed (MakeWritable 1 Count Later ∷ GetWriter s0 ∷ WriteBy l0 (v 1) ∷ AbortBy l0 (e 7) ∷ Settle (h 0) Ok ∷ Settle (h 1) (FailWith (e 9)) ∷ [])
    ≡ says (Made s0) (host 0 (Start s0) ∷ [])
    ∷ says (Lock l0) []
    ∷ promise 0 []
    ∷ promise 1 (signal (e 7) ∷ [])
    ∷ says Done (rejected 0 (e 7) ∷ host 1 (Abort s0 (e 7)) ∷ [])
    ∷ says Done (rejected 1 (e 9) ∷ [])
    ∷ []
unfolding fresh settle answer react follow unfollow use_gift after_next_job watch ensure_rejected settle_pending update_backpressure refresh_backpressure reject_close_and_closed finish_erroring start_erroring deal_with_rejection controller_error_if_needed process_write process_close advance_queue hand_on write_settled finish_in_flight_close finish_in_flight_close_with_error close_settled start_settled abort_settled controller_write writer_write controller_close stream_close stream_abort set_up_writer writer_release call_host row turns performed begin_job begin
abort_before_the_start = refl

-- the start fails
failing_start : printed (MakeWritable 1 Count Later ∷ GetWriter s0 ∷ ClosedOf l0 ∷ WriteBy l0 (v 1) ∷ Settle (h 0) (FailWith (e 9)) ∷ [])
    ≡ says (Made s0) (host 0 (Start s0) ∷ [])
    ∷ says (Lock l0) []
    ∷ promise 0 []
    ∷ promise 1 []
    ∷ says Done (rejected 1 (e 9) ∷ rejected 0 (e 9) ∷ [])
    ∷ []
unfolding fresh settle answer react follow unfollow use_gift after_next_job watch ensure_rejected settle_pending update_backpressure refresh_backpressure reject_close_and_closed finish_erroring start_erroring deal_with_rejection controller_error_if_needed process_write process_close advance_queue hand_on write_settled finish_in_flight_close finish_in_flight_close_with_error close_settled start_settled abort_settled controller_write writer_write controller_close stream_close stream_abort set_up_writer writer_release call_host row turns performed begin_job begin
failing_start = refl

-- an abort of a stream that nothing locks; its writer finds it errored
abort_without_a_writer : printed (MakeWritable 1 Count Now ∷ AbortStream s0 (e 7) ∷ Settle (h 0) (FailWith (e 9)) ∷ GetWriter s0 ∷ ReadyOf l0 ∷ ClosedOf l0 ∷ DesiredBy l0 ∷ [])
    ≡ says (Made s0) []
    ∷ promise 0 (signal (e 7) ∷ host 0 (Abort s0 (e 7)) ∷ [])
    ∷ says Done (rejected 0 (e 9) ∷ [])
    ∷ says (Lock l0) []
    ∷ promise 1 (rejected 1 (e 7) ∷ [])
    ∷ promise 2 (rejected 2 (e 7) ∷ [])
    ∷ says (Size None) []
    ∷ []
unfolding fresh settle answer react follow unfollow use_gift after_next_job watch ensure_rejected settle_pending update_backpressure refresh_backpressure reject_close_and_closed finish_erroring start_erroring deal_with_rejection controller_error_if_needed process_write process_close advance_queue hand_on write_settled finish_in_flight_close finish_in_flight_close_with_error close_settled start_settled abort_settled controller_write writer_write controller_close stream_close stream_abort set_up_writer writer_release call_host row turns performed begin_job begin
abort_without_a_writer = refl

-- a writer that is made while the abort algorithm is performed finds the stream errored: its closed promise isn't rejected again
writer_made_during_an_abort : printed (MakeWritable 1 Count Now ∷ GetWriter s0 ∷ AbortBy l0 (e 7) ∷ Release l0 ∷ GetWriter s0 ∷ ClosedOf l1 ∷ Settle (h 0) Ok ∷ [])
    ≡ says (Made s0) []
    ∷ says (Lock l0) []
    ∷ promise 0 (signal (e 7) ∷ host 0 (Abort s0 (e 7)) ∷ [])
    ∷ says Done []
    ∷ says (Lock l1) []
    ∷ promise 1 (rejected 1 (e 7) ∷ [])
    ∷ says Done (fulfilled 0 ∷ [])
    ∷ []
unfolding fresh settle answer react follow unfollow use_gift after_next_job watch ensure_rejected settle_pending update_backpressure refresh_backpressure reject_close_and_closed finish_erroring start_erroring deal_with_rejection controller_error_if_needed process_write process_close advance_queue hand_on write_settled finish_in_flight_close finish_in_flight_close_with_error close_settled start_settled abort_settled controller_write writer_write controller_close stream_close stream_abort set_up_writer writer_release call_host row turns performed begin_job begin
writer_made_during_an_abort = refl

-- and no settling goes astray
aborted_straight : (run (Called (MakeWritable 1 Count Now) ∷ Worked ∷ Called (GetWriter s0) ∷ Called (AbortBy l0 (e 7)) ∷ Called (Release l0) ∷ Called (GetWriter s0) ∷ Called (Settle (h 0) Ok) ∷ Worked ∷ []) empty).promises.astray ≡ false
unfolding fresh settle answer react follow unfollow use_gift after_next_job watch ensure_rejected settle_pending update_backpressure refresh_backpressure reject_close_and_closed finish_erroring start_erroring deal_with_rejection controller_error_if_needed process_write process_close advance_queue hand_on write_settled finish_in_flight_close finish_in_flight_close_with_error close_settled start_settled abort_settled controller_write writer_write controller_close stream_close stream_abort set_up_writer writer_release call_host row turns performed begin_job begin
aborted_straight = refl
