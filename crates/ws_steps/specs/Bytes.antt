-- The abstract operations of a readable stream with a byte controller, and those of its readers that go another way than by a default
-- controller. Each is a function of the stream's slots and of what it leaves outside them. `me` is the stream's own number.
use Rattle.std.specs.Prelude.{ℕ, ◌-◌, ◌%◌, Bool, true, false, not, ◌&&◌, ◌||◌, nat_eq, nat_le, nat_lt, is_some, is_none, if◌then◌else◌, zero, suc, List, [], ◌∷◌, ◌++◌, length, take, drop, Option, Some, None, Result, Ok, Err}
use Rattle.ws_value.specs.declared.ids.PromiseId.{PromiseId}
use Rattle.ws_value.specs.declared.ids.RequestId.{RequestId}
use Rattle.ws_value.specs.declared.ids.StreamId.{StreamId}
use Rattle.ws_value.specs.declared.value.Plain.{Plain}
use Rattle.ws_value.specs.declared.value.Plain.TheVariants.{Undefined}
use Rattle.ws_value.specs.declared.value.Value.{Value}
use Rattle.ws_value.specs.declared.value.Value.TheVariants.{Bytes}
use Rattle.ws_steps.specs.declared.byte.ReaderKind.{ReaderKind}
use Rattle.ws_steps.specs.declared.byte.ReaderKind.TheVariants.{Default, Byob}
use Rattle.ws_steps.specs.declared.byte.RoomKind.TheVariants.{ForDefault, ForByob}
use Rattle.ws_steps.specs.declared.effects.Effect.{Effect}
use Rattle.ws_steps.specs.declared.effects.Effect.TheVariants.{CancelAlgorithm, ChunkSteps, CloseSteps, CloseStepsWith, ErrorSteps}
use Rattle.ws_steps.specs.declared.effects.Owner.TheVariants.{Host}
use Rattle.ws_steps.specs.declared.queue.Queued.{Queued}
use Rattle.ws_steps.specs.declared.readable.ReadRequest.{ReadRequest}
use Rattle.ws_steps.specs.declared.readable.ReadRequest.TheVariants.{Promise, Pipe, Tee}
use Rattle.ws_steps.specs.declared.readable.ReadableState.{ReadableState}
use Rattle.ws_steps.specs.declared.readable.ReadableState.TheVariants.{Readable, Closed, Errored}
use Rattle.ws_steps.specs.declared.readable.SizeBy.TheVariants.{ByteLength}
use Rattle.ws_steps.specs.Descriptors.{Descriptor, is_for_nobody, without_reader, rest_of, has_part, respond_throws, Filling, fill_from_queue, Processed, process_descriptors}
use Rattle.ws_steps.specs.Queues.{is_empty, total_bytes, append_bytes}
use Rattle.ws_steps.specs.Effects.{Out, cause, cause_all, settling, type_error}
use Rattle.ws_steps.specs.Readable as readable

-- the slots of the stream, of its reader, and those that either kind of controller has, in `stream`; the kind of the reader, where there is
-- one; and the slots that a byte controller has of its own. The queue in `stream` is that of a default controller, and stays empty
pub record Slots : Type 0 where
  pub stream : readable.Slots
  pub reader_kind : ReaderKind
  pub queue : List (List ℕ)
  -- [[autoAllocateChunkSize]], or 0 for none
  pub auto : ℕ
  -- [[pendingPullIntos]]
  pub descriptors : List Descriptor
  -- [[byobRequest]]
  pub request : Option RequestId
  -- whether an operation was asked of it that isn't meant for it, which no run does
  pub astray : Bool

-- what an operation changes
pub record Acts : Type 0 where
  pub slots : Slots
  pub out : Out

-- InitializeReadableStream, and SetUpReadableByteStreamController: the controller's slots as given, the queue empty, the flags false
abbrev pub set_up : ℕ → ℕ → Slots
set_up mark auto =
    record {
      stream = readable.set_up Host mark ByteLength;
      reader_kind = Default;
      queue = [];
      auto = auto;
      descriptors = [];
      request = None;
      astray = false;
    }

-- the entries of a queue of bytes, as those of a queue with sizes
abbrev pub entries : List (List ℕ) → List (Queued Value)
entries [] = []
entries (b ∷ bs) = record { value = Bytes b; size = length b } ∷ entries bs

-- how the stream looks from outside: as one with a default controller
abbrev pub shown : Slots → readable.Slots
shown s = record s.stream { queue = entries s.queue }

abbrev pub with_slots : Slots → Acts → Acts
with_slots s a = record a { slots = s }

-- an effect after the others
abbrev pub causing : Effect → Acts → Acts
causing effect a = record a { out = cause effect a.out }

-- what is done to the stream, its reader, and what either kind of controller has
abbrev pub in_stream : (readable.Acts → readable.Acts) → Acts → Acts
in_stream operation a =
    let b : readable.Acts = operation (record { slots = a.slots.stream; out = a.out }) in
    record { slots = record a.slots { stream = b.slots }; out = b.out }

-- the readers

abbrev pub is_byob : ReaderKind → Bool
is_byob Default = false
is_byob Byob = true

-- ReadableStreamHasDefaultReader
abbrev pub has_default_reader : Slots → Bool
has_default_reader s = is_some s.stream.reader && not (is_byob s.reader_kind)

-- ReadableStreamHasBYOBReader
abbrev pub has_byob_reader : Slots → Bool
has_byob_reader s = is_some s.stream.reader && is_byob s.reader_kind

abbrev pub with_requests : List ReadRequest → Acts → Acts
with_requests requests a = with_slots (record a.slots { stream = record a.slots.stream { requests = requests } }) a

-- pulling

-- a close wasn't requested and the state is readable
abbrev pub can_take : Slots → Bool
can_take s = readable.can_close_or_enqueue s.stream

-- ReadableByteStreamControllerShouldCallPull: false unless it is readable, no close was requested, and it started. True where a reader has a
-- request that waits. Else whether the desired size is more than 0
abbrev pub should_call_pull : Slots → Bool
should_call_pull s =
    can_take s && s.stream.started && (not (is_empty (readable.waiting s.stream)) || nat_lt (total_bytes s.queue) s.stream.hwm)

-- ReadableByteStreamControllerCallPullIfNeeded
unfoldable pub call_pull_if_needed : StreamId → Acts → Acts
call_pull_if_needed me a = if should_call_pull a.slots then in_stream (readable.call_pull me) a else a

-- the ends of the stream

abbrev pub close_keeping : readable.Acts → Option PromiseId → readable.Acts
close_keeping a None = a
close_keeping a (Some closed) = record a { out = settling closed (Ok Undefined) a.out }

-- the state is closed, and the closed promise of the reader is fulfilled; its requests wait on
abbrev pub close_stream_keeping : readable.Acts → readable.Acts
close_stream_keeping a = close_keeping (record a { slots = record a.slots { state = Closed } }) a.slots.reader

-- ReadableStreamClose: of the requests of a BYOB reader none is answered
unfoldable pub stream_close : StreamId → Acts → Acts
stream_close me a =
    if has_byob_reader a.slots then in_stream close_stream_keeping a else in_stream (readable.stream_close me) a

-- ReadableByteStreamControllerInvalidateBYOBRequest
abbrev pub invalidate_request : Acts → Acts
invalidate_request a = with_slots (record a.slots { request = None }) a

-- ReadableByteStreamControllerClearPendingPullIntos, which invalidates the BYOB request, and ResetQueue
abbrev pub clear_all : Acts → Acts
clear_all a = with_slots (record a.slots { request = None; descriptors = []; queue = [] }) a

-- ReadableByteStreamControllerError: where the stream is readable, clear all and error the stream
unfoldable pub controller_error : StreamId → Plain → Acts → Acts
controller_error me e a =
    if readable.is_readable a.slots.stream.state then in_stream (readable.stream_error me e) (clear_all a) else a

-- the queue

-- ReadableByteStreamControllerHandleQueueDrain: where the queue is empty and a close was requested, close the stream; else pull if needed
unfoldable pub handle_queue_drain : StreamId → Acts → Acts
handle_queue_drain me a =
    if is_empty a.slots.queue && a.slots.stream.close_requested then stream_close me a else call_pull_if_needed me a

-- ReadableByteStreamControllerFillReadRequestFromQueue, with the queue: the first entry is taken, and after the queue's drain was handled
-- the chunk steps of the request are performed with it
abbrev pub fill_read_request : StreamId → ReadRequest → Acts → List (List ℕ) → Acts
fill_read_request me q a [] = a
fill_read_request me q a (b ∷ bs) =
    causing (ChunkSteps me q (Bytes b)) (handle_queue_drain me (with_slots (record a.slots { queue = bs }) a))

-- ReadableByteStreamControllerEnqueueChunkToQueue: bytes go to the end of the queue, where there are any
abbrev pub append : List ℕ → Acts → Acts
append b a = with_slots (record a.slots { queue = append_bytes b a.slots.queue }) a

-- reads of a default reader

-- a request that waits
abbrev pub wait : ReadRequest → Acts → Acts
wait q a = with_requests (a.slots.stream.requests ++ q ∷ []) a

abbrev pub add_descriptor : Descriptor → Acts → Acts
add_descriptor d a = with_slots (record a.slots { descriptors = a.slots.descriptors ++ d ∷ [] }) a

-- where the controller allocates rooms, a descriptor with one of that length
abbrev pub auto_allocate : Acts → ℕ → Acts
auto_allocate a zero = a
auto_allocate a (suc n) =
    add_descriptor (record { filled = []; room = suc n; minimum = 1; element = 1; room_kind = ForDefault }) a

abbrev pub pull_from : StreamId → ReadRequest → Acts → List (List ℕ) → Acts
pull_from me q a [] = call_pull_if_needed me (wait q (auto_allocate a a.slots.auto))
pull_from me q a (b ∷ bs) = fill_read_request me q a (b ∷ bs)

-- the byte controller's [[PullSteps]]: the request gets the first entry of the queue; where the queue is empty it waits, with a descriptor
-- where the controller allocates rooms
unfoldable pub pull_steps : StreamId → ReadRequest → Acts → Acts
pull_steps me q a = pull_from me q a a.slots.queue

abbrev pub read_by : StreamId → ReadRequest → Acts → ReadableState → Acts
read_by me q a Readable = pull_steps me q a
read_by me q a Closed = causing (CloseSteps me q) a
read_by me q a Errored = causing (ErrorSteps me q a.slots.stream.stored_error) a

-- ReadableStreamDefaultReaderRead
unfoldable pub default_reader_read : StreamId → ReadRequest → Acts → Acts
default_reader_read me q a = read_by me q (in_stream readable.disturb a) a.slots.stream.state

-- closing

-- ReadableByteStreamControllerClose throws a TypeError
abbrev pub close_throws : Slots → Bool
close_throws s = can_take s && is_empty s.queue && has_part s.descriptors

abbrev pub close_by : StreamId → Acts → List (List ℕ) → Acts
close_by me a (b ∷ bs) = with_slots (record a.slots { stream = record a.slots.stream { close_requested = true } }) a
close_by me a [] = if has_part a.slots.descriptors then controller_error me type_error a else stream_close me a

-- ReadableByteStreamControllerClose: where bytes are queued, the close is requested; where the first descriptor has a part of an element,
-- the stream is errored; else it is closed
unfoldable pub controller_close : StreamId → Acts → Acts
controller_close me a = if can_take a.slots then close_by me a a.slots.queue else a

abbrev pub commit_steps : StreamId → List ℕ → ReadRequest → ReadableState → Effect
commit_steps me b q Readable = ChunkSteps me q (Bytes b)
commit_steps me b q Closed = CloseStepsWith me q b
commit_steps me b q Errored = ChunkSteps me q (Bytes b)

abbrev pub commit_to : StreamId → List ℕ → Acts → List ReadRequest → Acts
commit_to me b a [] = append b a
commit_to me b a (q ∷ qs) = causing (commit_steps me b q a.slots.stream.state) (with_requests qs a)

-- ReadableByteStreamControllerCommitPullIntoDescriptor: the first request gets the filled bytes, with its close steps where the stream is
-- closed. Where none waits, they go to the queue
abbrev pub commit : StreamId → Descriptor → Acts → Acts
commit me d a = commit_to me d.filled a a.slots.stream.requests

abbrev pub commit_all : StreamId → List Descriptor → Acts → Acts
commit_all me [] a = a
commit_all me (d ∷ ds) a = commit_all me ds (commit me d a)

abbrev pub put_processed : Processed → Acts → Acts
put_processed x a = with_slots (record a.slots { descriptors = x.waiting; queue = x.queue }) a

abbrev pub processed_of : Acts → Processed
processed_of a = process_descriptors a.slots.descriptors a.slots.queue

-- process the descriptors using the queue, and commit those that are ready, in order
abbrev pub process_and_commit : StreamId → Acts → Acts
process_and_commit me a = let x : Processed = processed_of a in commit_all me x.ready (put_processed x a)

-- enqueuing

abbrev pub detach_first : Acts → List Descriptor → Acts
detach_first a [] = a
detach_first a (d ∷ ds) = append d.filled (with_slots (record a.slots { descriptors = ds }) a)

-- ReadableByteStreamControllerEnqueueDetachedPullIntoToQueue: the first descriptor is removed, and its filled bytes go to the queue
abbrev pub detached_to_queue : Acts → Acts
detached_to_queue a = detach_first a a.slots.descriptors

-- where there are descriptors, the BYOB request is invalidated, and the first one goes to the queue where its reader was released
abbrev pub renounce : Acts → List Descriptor → Acts
renounce a [] = a
renounce a (d ∷ ds) = if is_for_nobody d.room_kind then detached_to_queue (invalidate_request a) else invalidate_request a

-- ReadableByteStreamControllerProcessReadRequestsUsingQueue, of these requests, which are all that wait: while bytes are queued the first
-- request is filled from the queue
abbrev pub process_requests : StreamId → List ReadRequest → Acts → Acts
process_requests me [] a = a
process_requests me (q ∷ qs) a =
    elim a.slots.queue [
      | [] ↦ a
      | b ∷ bs ↦ process_requests me qs (fill_read_request me q (with_requests qs a) (b ∷ bs))
    ]

abbrev pub drop_first : Acts → Acts
drop_first a = with_slots (record a.slots { descriptors = rest_of a.slots.descriptors }) a

abbrev pub accept_for : StreamId → List ℕ → Acts → List ReadRequest → Acts
accept_for me b a [] = append b a
accept_for me b a (q ∷ qs) = causing (ChunkSteps me q (Bytes b)) (drop_first (with_requests qs a))

-- with a default reader: the requests are served from the queue. Where one waits still, it gets the bytes, and the first descriptor is dropped
abbrev pub accept_default : StreamId → List ℕ → Acts → Acts
accept_default me b a = let c : Acts = process_requests me a.slots.stream.requests a in accept_for me b c c.slots.stream.requests

abbrev pub accept : StreamId → List ℕ → Acts → Acts
accept me b a =
    if has_default_reader a.slots then accept_default me b a
    else if has_byob_reader a.slots then process_and_commit me (append b a)
    else append b a

-- ReadableByteStreamControllerEnqueue
unfoldable pub controller_enqueue : StreamId → List ℕ → Acts → Acts
controller_enqueue me b a =
    if can_take a.slots then call_pull_if_needed me (accept me b (renounce a a.slots.descriptors)) else a

-- reads of a BYOB reader

abbrev pub pull_waits : Descriptor → ReadRequest → Acts → Acts
pull_waits d q a = wait q (add_descriptor d a)

abbrev pub put_queue : List (List ℕ) → Acts → Acts
put_queue queue a = with_slots (record a.slots { queue = queue }) a

abbrev pub pull_filled : StreamId → ReadRequest → Acts → Filling → Acts
pull_filled me q a f =
    elim f.ready [
      | true ↦ causing (ChunkSteps me q (Bytes f.descriptor.filled)) (handle_queue_drain me (put_queue f.queue a))
      | false ↦
          if a.slots.stream.close_requested
          then causing (ErrorSteps me q type_error) (controller_error me type_error (put_queue f.queue a))
          else call_pull_if_needed me (pull_waits f.descriptor q (put_queue f.queue a))
    ]

abbrev pub pull_from_queue : StreamId → Descriptor → ReadRequest → Acts → List (List ℕ) → Acts
pull_from_queue me d q a [] = call_pull_if_needed me (pull_waits d q a)
pull_from_queue me d q a (b ∷ bs) = pull_filled me q a (fill_from_queue d (b ∷ bs))

abbrev pub is_closed : ReadableState → Bool
is_closed Readable = false
is_closed Closed = true
is_closed Errored = false

abbrev pub is_errored : ReadableState → Bool
is_errored Readable = false
is_errored Closed = false
is_errored Errored = true

abbrev pub pull_first : StreamId → Descriptor → ReadRequest → Acts → List Descriptor → Acts
pull_first me d q a (x ∷ xs) = pull_waits d q a
pull_first me d q a [] =
    if is_closed a.slots.stream.state then causing (CloseStepsWith me q []) a else pull_from_queue me d q a a.slots.queue

-- ReadableByteStreamControllerPullInto: behind other descriptors the request waits; a closed stream performs its close steps with no bytes;
-- where bytes are queued they fill the room. What isn't filled so far waits, unless a close was requested: that is an error
unfoldable pub pull_into : StreamId → Descriptor → ReadRequest → Acts → Acts
pull_into me d q a = pull_first me d q a a.slots.descriptors

-- ReadableStreamBYOBReaderRead
unfoldable pub byob_reader_read : StreamId → Descriptor → ReadRequest → Acts → Acts
byob_reader_read me d q a =
    let b : Acts = in_stream readable.disturb a in
    if is_errored b.slots.stream.state
    then causing (ErrorSteps me q b.slots.stream.stored_error) b
    else pull_into me d q b

-- responses

-- n descriptors are removed, as far as there are so many, and committed in order
abbrev pub commit_first : StreamId → ℕ → Acts → Acts
commit_first me n a =
    commit_all me (take n a.slots.descriptors) (with_slots (record a.slots { descriptors = drop n a.slots.descriptors }) a)

-- ReadableByteStreamControllerRespondInClosedState: a first descriptor whose reader was released is removed. With a BYOB reader, for each
-- request that waits one descriptor is removed, and then these are committed
abbrev pub respond_closed : StreamId → Descriptor → Acts → Acts
respond_closed me d a =
    let b : Acts = if is_for_nobody d.room_kind then drop_first a else a in
    if has_byob_reader b.slots then commit_first me (length b.slots.stream.requests) b else b

abbrev pub put_first : Descriptor → Acts → Acts
put_first d a = with_slots (record a.slots { descriptors = d ∷ rest_of a.slots.descriptors }) a

-- the first descriptor is removed; the last bytes, which are a part of an element, go to the queue, from which the others are filled; and it
-- is committed before those that are ready then
abbrev pub respond_full : StreamId → Descriptor → Acts → Acts
respond_full me d a =
    let kept : ℕ = length d.filled - (length d.filled % d.element) in
    let b : Acts = append (drop kept d.filled) (drop_first a) in
    let x : Processed = processed_of b in
    commit_all me x.ready (commit me (record d { filled = take kept d.filled }) (put_processed x b))

-- ReadableByteStreamControllerRespondInReadableState, where the first descriptor is this from now on
abbrev pub respond_readable : StreamId → Descriptor → Acts → Acts
respond_readable me d a =
    if is_for_nobody d.room_kind then process_and_commit me (detached_to_queue (put_first d a))
    else if nat_lt (length d.filled) d.minimum then put_first d a
    else respond_full me d a

abbrev pub respond_first : StreamId → List ℕ → Acts → List Descriptor → Acts
respond_first me b a [] = a
respond_first me b a (d ∷ ds) =
    if is_closed a.slots.stream.state
    then respond_closed me d a
    else call_pull_if_needed me (respond_readable me (record d { filled = d.filled ++ b }) a)

-- ReadableByteStreamControllerRespondInternal
abbrev pub respond_internal : StreamId → List ℕ → Acts → Acts
respond_internal me b a = respond_first me b (invalidate_request a) a.slots.descriptors

-- ReadableByteStreamControllerGetBYOBRequest: a request of this number
abbrev pub make_request : RequestId → Acts → Acts
make_request q a = with_slots (record a.slots { request = Some q }) a

-- the start, the pull, the cancel and the release

-- the controller's reaction to its start algorithm
unfoldable pub start_settled : StreamId → Result Plain Plain → Acts → Acts
start_settled me (Ok v) a =
    call_pull_if_needed me (with_slots (record a.slots { stream = record a.slots.stream { started = true } }) a)
start_settled me (Err r) a = controller_error me r a

abbrev pub pull_ended : StreamId → Acts → Bool → Acts
pull_ended me a false = a
pull_ended me a true =
    call_pull_if_needed me (with_slots (record a.slots { stream = record a.slots.stream { pull_again = false } }) a)

-- the controller's reaction to its pull algorithm
unfoldable pub pull_settled : StreamId → Result Plain Plain → Acts → Acts
pull_settled me (Ok v) a =
    pull_ended me (with_slots (record a.slots { stream = record a.slots.stream { pulling = false } }) a) a.slots.stream.pull_again
pull_settled me (Err e) a = controller_error me e a

-- the byte controller's [[CancelSteps]]
abbrev pub cancel_steps : StreamId → Plain → PromiseId → Acts → Acts
cancel_steps me r p a = causing (CancelAlgorithm me r p) (clear_all a)

-- the requests of a BYOB reader: their close steps are performed with undefined
abbrev pub close_into : StreamId → Acts → Acts
close_into me a =
    if has_byob_reader a.slots
    then record (with_requests [] a) { out = cause_all (readable.close_all me a.slots.stream.requests) a.out }
    else a

abbrev pub cancel_by : StreamId → Plain → PromiseId → Acts → ReadableState → Acts
cancel_by me r p a Readable = cancel_steps me r p (close_into me (stream_close me a))
cancel_by me r p a Closed = record a { out = settling p (Ok Undefined) a.out }
cancel_by me r p a Errored = record a { out = settling p (Err a.slots.stream.stored_error) a.out }

-- ReadableStreamCancel
unfoldable pub stream_cancel : StreamId → Plain → PromiseId → Acts → Acts
stream_cancel me r p a = cancel_by me r p (in_stream readable.disturb a) a.slots.stream.state

-- ReadableStreamCancel where the stream is readable, and else a promise resolved with undefined
unfoldable pub cancel_if_readable : StreamId → Plain → PromiseId → Acts → Acts
cancel_if_readable me r p a =
    if readable.is_readable a.slots.stream.state then stream_cancel me r p a else record a { out = settling p (Ok Undefined) a.out }

-- the byte controller's [[ReleaseSteps]]: of the descriptors only the first is kept, for nobody
abbrev pub release_steps : Acts → Acts
release_steps a = with_slots (record a.slots { descriptors = without_reader a.slots.descriptors }) a

-- ReadableStreamReaderGenericRelease, with the error steps of the reader's requests
unfoldable pub reader_release : StreamId → Acts → Acts
reader_release me a = in_stream (readable.reader_release me) (release_steps a)

-- what an operation relies on, which holds wherever a call or an effect asks for it. Where it didn't, nothing would be done but leave a mark

abbrev pub if_meant : Bool → Acts → Acts → Acts
if_meant true b a = b
if_meant false b a = with_slots (record a.slots { astray = true }) a

-- ReadableStreamReaderGenericInitialize, by a reader of this kind, where the stream has none
unfoldable pub reader_initialize : ReaderKind → PromiseId → Acts → Acts
reader_initialize kind closed a =
    if_meant (is_none a.slots.stream.reader)
    (in_stream (readable.reader_generic_initialize closed) (with_slots (record a.slots { reader_kind = kind }) a))
    a

-- a read of a readable stream comes from a reader of its kind
abbrev pub may_read : Slots → Bool
may_read s = not (readable.is_readable s.stream.state) || has_default_reader s

abbrev pub may_pull_into : Slots → Bool
may_pull_into s = not (readable.is_readable s.stream.state) || has_byob_reader s

-- the least that is to be filled is whole elements, and has room
abbrev pub is_least : ℕ → ℕ → ℕ → Bool
is_least room element minimum = nat_eq (minimum % element) 0 && nat_lt 0 minimum && nat_le minimum room

-- a response may come with as many bytes
abbrev pub may_respond : ℕ → Slots → Bool
may_respond n s = is_none (respond_throws n s.stream.state s.descriptors)

-- whether a request is a tee's, which has a stream with a default controller for its source
abbrev pub is_of_tee : ReadRequest → Bool
is_of_tee (Promise p) = false
is_of_tee (Pipe p) = false
is_of_tee (Tee t) = true

unfoldable pub read : StreamId → ReadRequest → Acts → Acts
read me q a = if is_of_tee q then a else if_meant (may_read a.slots) (default_reader_read me q a) a

unfoldable pub read_into : StreamId → ℕ → ℕ → ℕ → ReadRequest → Acts → Acts
read_into me room element minimum q a =
    if_meant (may_pull_into a.slots && is_least room element minimum)
    (byob_reader_read me (record { filled = []; room = room; minimum = minimum; element = element; room_kind = ForByob }) q a)
    a

-- ReadableByteStreamControllerRespond, where it doesn't throw
unfoldable pub respond : StreamId → List ℕ → Acts → Acts
respond me b a = if_meant (may_respond (length b) a.slots) (respond_internal me b a) a
