-- The definitions computed on worked examples with readable streams.
use Rattle.std.proofs.Common.{◌≡◌, [], ◌∷◌, refl, true}
use Rattle.ws_value.specs.declared.value.Value.TheVariants.{Bytes}
use Rattle.ws_steps.specs.declared.calls.Answer.TheVariants.{Ok}
use Rattle.ws_steps.specs.declared.calls.Call.TheVariants.{MakeReadable, GetReader, Read, Closed, Enqueue, Finish, Settle, State, Step}
use Rattle.ws_steps.specs.declared.calls.HostCall.TheVariants.{Start, Pull}
use Rattle.ws_steps.specs.declared.calls.Reply.TheVariants.{Done, Made, Lock, State as StateReply}
use Rattle.ws_steps.specs.declared.calls.StartBy.TheVariants.{Now, Later}
use Rattle.ws_steps.specs.declared.calls.Word.TheVariants.{Readable}
use Rattle.ws_steps.specs.declared.readable.SizeBy.TheVariants.{Count}
use Rattle.ws_steps.specs.Promises.{fresh, settle, answer, react, follow, unfollow, use_gift, after_next_job, watch}
use Rattle.ws_steps.specs.Readable.{call_pull_if_needed, accept, controller_enqueue, stream_close, stream_error, close_if_empty, controller_close, controller_error, after_take, pull_steps, default_reader_read, reader_generic_initialize, start_settled, pull_settled, cancel_steps, stream_cancel, reader_release}
use Rattle.ws_steps.specs.Turns.{call_host, row, turns, performed}
use Rattle.ws_steps.specs.Jobs.{begin_job}
use Rattle.ws_steps.specs.Calls.{begin}
use Rattle.ws_steps.proofs.WorkedWords.{printed, printed_tasks, s0, l0, h, v, leaves, says, promise, host, given, finished, fulfilled, no_flags}

-- a read before the enqueue: the chunk goes to the request
read_before_enqueue : printed (MakeReadable 0 Count Now ∷ GetReader s0 ∷ Read l0 ∷ Enqueue s0 (v 1) ∷ State s0 ∷ [])
    ≡ says (Made s0) []
    ∷ says (Lock l0) []
    ∷ promise 0 (host 0 (Pull s0) ∷ [])
    ∷ says Done (given 0 (v 1) ∷ [])
    ∷ says (StateReply (record { state = Readable; flags = record no_flags { s = true; p = true; d = true; l = true }; total = 0; queue = 0; requests = 0 })) []
    ∷ []
unfolding fresh settle answer react follow unfollow use_gift after_next_job watch call_pull_if_needed accept controller_enqueue stream_close stream_error close_if_empty controller_close controller_error after_take pull_steps default_reader_read reader_generic_initialize start_settled pull_settled cancel_steps stream_cancel reader_release call_host row turns performed begin_job begin
read_before_enqueue = refl

-- two reads while pulling give one further pull
two_reads_one_further_pull : printed (MakeReadable 0 Count Now ∷ GetReader s0 ∷ Read l0 ∷ Read l0 ∷ Enqueue s0 (v 1) ∷ Settle (h 0) Ok ∷ State s0 ∷ [])
    ≡ says (Made s0) []
    ∷ says (Lock l0) []
    ∷ promise 0 (host 0 (Pull s0) ∷ [])
    ∷ promise 1 []
    ∷ says Done (given 0 (v 1) ∷ [])
    ∷ says Done (host 1 (Pull s0) ∷ [])
    ∷ says (StateReply (record { state = Readable; flags = record no_flags { s = true; p = true; d = true; l = true }; total = 0; queue = 0; requests = 1 })) []
    ∷ []
unfolding fresh settle answer react follow unfollow use_gift after_next_job watch call_pull_if_needed accept controller_enqueue stream_close stream_error close_if_empty controller_close controller_error after_take pull_steps default_reader_read reader_generic_initialize start_settled pull_settled cancel_steps stream_cancel reader_release call_host row turns performed begin_job begin
two_reads_one_further_pull = refl

-- a start that gives a promise: the stream starts in the third job after it is settled
start_that_waits : printed_tasks ((9, MakeReadable 1 Count Later) ∷ (0, Settle (h 0) Ok) ∷ (1, Step) ∷ (0, State s0) ∷ (1, Step) ∷ [])
    ≡ says (Made s0) (host 0 (Start s0) ∷ [])
    ∷ leaves Done []
    ∷ leaves Done []
    ∷ leaves (StateReply (record { state = Readable; flags = no_flags; total = 0; queue = 0; requests = 0 })) []
    ∷ says Done (host 1 (Pull s0) ∷ [])
    ∷ []
unfolding fresh settle answer react follow unfollow use_gift after_next_job watch call_pull_if_needed accept controller_enqueue stream_close stream_error close_if_empty controller_close controller_error after_take pull_steps default_reader_read reader_generic_initialize start_settled pull_settled cancel_steps stream_cancel reader_release call_host row turns performed begin_job begin
start_that_waits = refl

-- the last chunk and the close come together; the closed promise settles first
last_chunk_and_close : printed (MakeReadable 2 Count Now ∷ Enqueue s0 (Bytes (97 ∷ 98 ∷ [])) ∷ Finish s0 ∷ GetReader s0 ∷ Closed l0 ∷ Read l0 ∷ Read l0 ∷ [])
    ≡ says (Made s0) (host 0 (Pull s0) ∷ [])
    ∷ says Done []
    ∷ says Done []
    ∷ says (Lock l0) []
    ∷ promise 0 []
    ∷ promise 1 (fulfilled 0 ∷ given 1 (Bytes (97 ∷ 98 ∷ [])) ∷ [])
    ∷ promise 2 (finished 2 ∷ [])
    ∷ []
unfolding fresh settle answer react follow unfollow use_gift after_next_job watch call_pull_if_needed accept controller_enqueue stream_close stream_error close_if_empty controller_close controller_error after_take pull_steps default_reader_read reader_generic_initialize start_settled pull_settled cancel_steps stream_cancel reader_release call_host row turns performed begin_job begin
last_chunk_and_close = refl
