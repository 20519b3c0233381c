-- The definitions computed on worked examples: tees.
use Rattle.std.proofs.Common.{◌≡◌, List, [], ◌∷◌, ◌++◌, map, refl, true, Some}
use Rattle.ws_value.specs.declared.ids.LockId.{LockId}
use Rattle.ws_value.specs.declared.ids.StreamId.{StreamId}
use Rattle.ws_value.specs.declared.ids.TeeId.{TeeId}
use Rattle.ws_value.specs.declared.value.Plain.TheVariants.{Pair}
use Rattle.ws_steps.specs.declared.calls.Answer.TheVariants.{Ok}
use Rattle.ws_steps.specs.declared.calls.Call.{Call}
use Rattle.ws_steps.specs.declared.calls.Call.TheVariants.{MakeReadable, GetReader, Tee, Cancel as CancelStream, CancelBy, Read, Enqueue, Finish, Fail, Terminate, Desired, Settle, State, Step}
use Rattle.ws_steps.specs.declared.calls.HostCall.TheVariants.{Pull, Cancel}
use Rattle.ws_steps.specs.declared.calls.Reply.TheVariants.{Done, Made, MadeTwo, Lock, State as StateReply, Throws}
use Rattle.ws_steps.specs.declared.calls.StartBy.TheVariants.{Now}
use Rattle.ws_steps.specs.declared.calls.Thrown.TheVariants.{TypeError, Unsupported}
use Rattle.ws_steps.specs.declared.calls.Word.TheVariants.{Readable as WordReadable, Errored as WordErrored}
use Rattle.ws_steps.specs.declared.readable.SizeBy.TheVariants.{Count}
use Rattle.ws_steps.specs.Promises.{fresh, settle, answer, react, follow, queue_micro, unfollow, use_gift, after_next_job, watch}
use Rattle.ws_steps.specs.Turns.{call_host, row, turns, performed, moments_of, moments}
use Rattle.ws_steps.specs.Jobs.{begin_job}
use Rattle.ws_steps.specs.Calls.{begin}
use Rattle.ws_steps.specs.Readable as readable
use Rattle.ws_steps.specs.Tee as tee
use Rattle.ws_steps.specs.Slots.{empty, pair_at}
use Rattle.ws_steps.specs.Run.{Entry, Called, Worked, run}
use Rattle.ws_steps.specs.ReadableHistory.{run_flow}
use Rattle.ws_steps.specs.TeeHistory.{run_teed}
use Rattle.ws_steps.proofs.WorkedWords.{Printed, printed_tasks, s0, l1, h, e, v, leaves, says, promise, host, given, finished, fulfilled, no_flags}

abbrev teed : List Call → List Printed
teed cs = printed_tasks (map (λ c. (20, c)) cs)

abbrev s1 : StreamId
s1 = record { 0 = 1 }

abbrev s2 : StreamId
s2 = record { 0 = 2 }

abbrev s3 : StreamId
s3 = record { 0 = 3 }

abbrev s4 : StreamId
s4 = record { 0 = 4 }

abbrev l2 : LockId
l2 = record { 0 = 2 }

abbrev t0 : TeeId
t0 = record { 0 = 0 }

-- both branches are cancelled: the source is, with both reasons, and both promises settle like its own
tee_both_branches_cancelled : teed (MakeReadable 0 Count Now ∷ Tee s0 ∷ CancelStream s1 (e 1) ∷ CancelStream s2 (e 2) ∷ Settle (h 1) Ok ∷ [])
    ≡ says (Made s0) []
    ∷ says (MadeTwo s1 s2) (host 0 (Pull s0) ∷ [])
    ∷ promise 0 []
    ∷ promise 1 (host 1 (Cancel s0 (Pair t0)) ∷ [])
    ∷ says Done (fulfilled 0 ∷ fulfilled 1 ∷ [])
    ∷ []
unfolding fresh settle answer react follow queue_micro unfollow use_gift after_next_job watch readable.call_pull_if_needed readable.accept readable.controller_enqueue readable.stream_close readable.stream_error readable.close_if_empty readable.controller_close readable.controller_error readable.after_take readable.pull_steps readable.default_reader_read readable.disturb readable.reader_generic_initialize readable.start_settled readable.pull_settled readable.stream_cancel readable.cancel_steps tee.pull_branch tee.keep_chunk tee.source_closed tee.source_errored tee.hand_chunk tee.handed tee.cancel_branch tee.reader_settled call_host row turns performed begin_job begin
tee_both_branches_cancelled = refl

-- a chunk is handed to both branches; the tee's own reader is the first lock
tee_hands_to_both : teed (MakeReadable 0 Count Now ∷ Tee s0 ∷ Enqueue s0 (v 1) ∷ GetReader s1 ∷ Read l1 ∷ GetReader s2 ∷ Read l2 ∷ [])
    ≡ says (Made s0) []
    ∷ says (MadeTwo s1 s2) (host 0 (Pull s0) ∷ [])
    ∷ says Done []
    ∷ says (Lock l1) []
    ∷ promise 0 (given 0 (v 1) ∷ [])
    ∷ says (Lock l2) []
    ∷ promise 1 (given 1 (v 1) ∷ [])
    ∷ []
unfolding fresh settle answer react follow queue_micro unfollow use_gift after_next_job watch readable.call_pull_if_needed readable.accept readable.controller_enqueue readable.stream_close readable.stream_error readable.close_if_empty readable.controller_close readable.controller_error readable.after_take readable.pull_steps readable.default_reader_read readable.disturb readable.reader_generic_initialize readable.start_settled readable.pull_settled readable.stream_cancel readable.cancel_steps tee.pull_branch tee.keep_chunk tee.source_closed tee.source_errored tee.hand_chunk tee.handed tee.cancel_branch tee.reader_settled call_host row turns performed begin_job begin
tee_hands_to_both = refl

-- a pair of reasons inside a pair
pair_inside_a_pair : teed (MakeReadable 0 Count Now ∷ Tee s0 ∷ Tee s1 ∷ CancelStream s3 (e 1) ∷ CancelStream s4 (e 2) ∷ CancelStream s2 (e 3) ∷ Settle (h 1) Ok ∷ [])
    ≡ says (Made s0) []
    ∷ says (MadeTwo s1 s2) (host 0 (Pull s0) ∷ [])
    ∷ says (MadeTwo s3 s4) []
    ∷ promise 0 []
    ∷ promise 1 []
    ∷ promise 2 (host 1 (Cancel s0 (Pair t0)) ∷ [])
    ∷ says Done (fulfilled 2 ∷ fulfilled 0 ∷ fulfilled 1 ∷ [])
    ∷ []
unfolding fresh settle answer react follow queue_micro unfollow use_gift after_next_job watch readable.call_pull_if_needed readable.accept readable.controller_enqueue readable.stream_close readable.stream_error readable.close_if_empty readable.controller_close readable.controller_error readable.after_take readable.pull_steps readable.default_reader_read readable.disturb readable.reader_generic_initialize readable.start_settled readable.pull_settled readable.stream_cancel readable.cancel_steps tee.pull_branch tee.keep_chunk tee.source_closed tee.source_errored tee.hand_chunk tee.handed tee.cancel_branch tee.reader_settled call_host row turns performed begin_job begin
pair_inside_a_pair = refl

-- the source closes where one branch was cancelled: its promise is fulfilled, and the other branch is closed
source_closes_under_one_branch : teed (MakeReadable 0 Count Now ∷ Tee s0 ∷ CancelStream s1 (e 1) ∷ Finish s0 ∷ GetReader s2 ∷ Read l1 ∷ [])
    ≡ says (Made s0) []
    ∷ says (MadeTwo s1 s2) (host 0 (Pull s0) ∷ [])
    ∷ promise 0 []
    ∷ says Done (fulfilled 0 ∷ [])
    ∷ says (Lock l1) []
    ∷ promise 1 (finished 1 ∷ [])
    ∷ []
unfolding fresh settle answer react follow queue_micro unfollow use_gift after_next_job watch readable.call_pull_if_needed readable.accept readable.controller_enqueue readable.stream_close readable.stream_error readable.close_if_empty readable.controller_close readable.controller_error readable.after_take readable.pull_steps readable.default_reader_read readable.disturb readable.reader_generic_initialize readable.start_settled readable.pull_settled readable.stream_cancel readable.cancel_steps tee.pull_branch tee.keep_chunk tee.source_closed tee.source_errored tee.hand_chunk tee.handed tee.cancel_branch tee.reader_settled call_host row turns performed begin_job begin
source_closes_under_one_branch = refl

-- an error of the source reaches the branches in a job of its own
error_reaches_the_branches_later : printed_tasks ((20, MakeReadable 0 Count Now) ∷ (20, Tee s0) ∷ (0, Fail s0 (e 5)) ∷ (0, State s1) ∷ (20, Step) ∷ (20, State s1) ∷ (20, State s2) ∷ [])
    ≡ says (Made s0) []
    ∷ says (MadeTwo s1 s2) (host 0 (Pull s0) ∷ [])
    ∷ leaves Done []
    ∷ leaves (StateReply (record { state = WordReadable; flags = record no_flags { s = true }; total = 0; queue = 0; requests = 0 })) []
    ∷ says Done []
    ∷ says (StateReply (record { state = WordErrored; flags = record no_flags { s = true }; total = 0; queue = 0; requests = 0 })) []
    ∷ says (StateReply (record { state = WordErrored; flags = record no_flags { s = true }; total = 0; queue = 0; requests = 0 })) []
    ∷ []
unfolding fresh settle answer react follow queue_micro unfollow use_gift after_next_job watch readable.call_pull_if_needed readable.accept readable.controller_enqueue readable.stream_close readable.stream_error readable.close_if_empty readable.controller_close readable.controller_error readable.after_take readable.pull_steps readable.default_reader_read readable.disturb readable.reader_generic_initialize readable.start_settled readable.pull_settled readable.stream_cancel readable.cancel_steps tee.pull_branch tee.keep_chunk tee.source_closed tee.source_errored tee.hand_chunk tee.handed tee.cancel_branch tee.reader_settled call_host row turns performed begin_job begin
error_reaches_the_branches_later = refl

-- a branch that asks while the tee reads gets the next chunk after both have this one, and none is lost
read_again_after_both : printed_tasks ((20, MakeReadable 0 Count Now) ∷ (20, Tee s0) ∷ (20, GetReader s1) ∷ (20, Read l1) ∷ (20, Read l1) ∷ (20, GetReader s2) ∷ (20, Read l2) ∷ (20, Read l2) ∷ (0, Enqueue s0 (v 1)) ∷ (0, Enqueue s0 (v 2)) ∷ (20, Enqueue s0 (v 3)) ∷ [])
    ≡ says (Made s0) []
    ∷ says (MadeTwo s1 s2) (host 0 (Pull s0) ∷ [])
    ∷ says (Lock l1) []
    ∷ promise 0 []
    ∷ promise 1 []
    ∷ says (Lock l2) []
    ∷ promise 2 []
    ∷ promise 3 []
    ∷ leaves Done []
    ∷ leaves Done []
    ∷ says Done (given 0 (v 1) ∷ given 2 (v 1) ∷ given 1 (v 2) ∷ given 3 (v 2) ∷ [])
    ∷ []
unfolding fresh settle answer react follow queue_micro unfollow use_gift after_next_job watch readable.call_pull_if_needed readable.accept readable.controller_enqueue readable.stream_close readable.stream_error readable.close_if_empty readable.controller_close readable.controller_error readable.after_take readable.pull_steps readable.default_reader_read readable.disturb readable.reader_generic_initialize readable.start_settled readable.pull_settled readable.stream_cancel readable.cancel_steps tee.pull_branch tee.keep_chunk tee.source_closed tee.source_errored tee.hand_chunk tee.handed tee.cancel_branch tee.reader_settled call_host row turns performed begin_job begin
read_again_after_both = refl

-- what isn't there to be teed, and what a branch hasn't
refused_calls : teed (MakeReadable 0 Count Now ∷ Tee s0 ∷ Tee s0 ∷ Enqueue s1 (v 1) ∷ Finish s1 ∷ Fail s1 (e 1) ∷ Terminate s1 ∷ Desired s1 ∷ Tee s4 ∷ [])
    ≡ says (Made s0) []
    ∷ says (MadeTwo s1 s2) (host 0 (Pull s0) ∷ [])
    ∷ says (Throws TypeError) []
    ∷ says (Throws Unsupported) []
    ∷ says (Throws Unsupported) []
    ∷ says (Throws Unsupported) []
    ∷ says (Throws Unsupported) []
    ∷ says (Throws Unsupported) []
    ∷ says (Throws Unsupported) []
    ∷ []
unfolding fresh settle answer react follow queue_micro unfollow use_gift after_next_job watch readable.call_pull_if_needed readable.accept readable.controller_enqueue readable.stream_close readable.stream_error readable.close_if_empty readable.controller_close readable.controller_error readable.after_take readable.pull_steps readable.default_reader_read readable.disturb readable.reader_generic_initialize readable.start_settled readable.pull_settled readable.stream_cancel readable.cancel_steps tee.pull_branch tee.keep_chunk tee.source_closed tee.source_errored tee.hand_chunk tee.handed tee.cancel_branch tee.reader_settled call_host row turns performed begin_job begin
refused_calls = refl

-- the histories: a chunk goes to both, then the first branch is cancelled, and a chunk goes to the second alone
abbrev one_cancelled : List Entry
one_cancelled =
    Called (MakeReadable 0 Count Now) ∷ Worked ∷ Called (Tee s0) ∷ Worked ∷ Worked ∷ Worked ∷ Worked ∷ Called (Enqueue s0 (v 1)) ∷ Worked
    ∷ Called (CancelStream s1 (e 1)) ∷ Called (GetReader s2) ∷ Called (Read l1) ∷ Called (Enqueue s0 (v 2)) ∷ Worked ∷ Worked ∷ []

handed_to_one : (run_teed t0 one_cancelled empty ≡ record { given = v 1 ∷ v 2 ∷ []; cancels = [] })
    × (((run_flow s1 one_cancelled empty).entered ≡ v 1 ∷ []) × ((run_flow s2 one_cancelled empty).entered ≡ v 1 ∷ v 2 ∷ []))
unfolding fresh settle answer react follow queue_micro unfollow use_gift after_next_job watch readable.call_pull_if_needed readable.accept readable.controller_enqueue readable.stream_close readable.stream_error readable.close_if_empty readable.controller_close readable.controller_error readable.after_take readable.pull_steps readable.default_reader_read readable.disturb readable.reader_generic_initialize readable.start_settled readable.pull_settled readable.stream_cancel readable.cancel_steps tee.pull_branch tee.keep_chunk tee.source_closed tee.source_errored tee.hand_chunk tee.handed tee.cancel_branch tee.reader_settled call_host row turns performed moments_of moments begin_job begin
handed_to_one = (refl, (refl, refl))

-- and then the second: the source is cancelled with both reasons
cancelled_by_both : ((run_teed t0 (one_cancelled ++ Called (CancelBy l1 (e 2)) ∷ []) empty).cancels ≡ Pair t0 ∷ [])
    × (pair_at t0 (run (one_cancelled ++ Called (CancelBy l1 (e 2)) ∷ []) empty) ≡ Some (e 1, e 2))
unfolding fresh settle answer react follow queue_micro unfollow use_gift after_next_job watch readable.call_pull_if_needed readable.accept readable.controller_enqueue readable.stream_close readable.stream_error readable.close_if_empty readable.controller_close readable.controller_error readable.after_take readable.pull_steps readable.default_reader_read readable.disturb readable.reader_generic_initialize readable.start_settled readable.pull_settled readable.stream_cancel readable.cancel_steps tee.pull_branch tee.keep_chunk tee.source_closed tee.source_errored tee.hand_chunk tee.handed tee.cancel_branch tee.reader_settled call_host row turns performed moments_of moments begin_job begin
cancelled_by_both = (refl, refl)
