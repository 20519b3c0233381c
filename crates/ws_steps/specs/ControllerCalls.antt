-- The calls on controllers and on BYOB requests, and the answers of the host.
use Rattle.std.specs.Prelude.{ℕ, Bool, false, not, ◌&&◌, nat_eq, if◌then◌else◌, List, [], ◌∷◌, ◌++◌, length, Option, Some, None, Result, Ok, Err, slice_set}
use Rattle.ws_value.specs.declared.ids.PromiseId.{PromiseId}
use Rattle.ws_value.specs.declared.fault.Fault.{Fault}
use Rattle.ws_value.specs.declared.fault.Fault.TheVariants.{RangeError as RangeFault}
use Rattle.ws_value.specs.declared.ids.RequestId.{RequestId}
use Rattle.ws_value.specs.declared.ids.StreamId.{StreamId}
use Rattle.ws_value.specs.declared.ids.HostId.{HostId}
use Rattle.ws_value.specs.declared.value.Plain.{Plain}
use Rattle.ws_value.specs.declared.value.Plain.TheVariants.{Undefined}
use Rattle.ws_value.specs.declared.value.Value.{Value}
use Rattle.ws_value.specs.declared.value.Value.TheVariants.{Plain as PlainValue, Bytes}
use Rattle.ws_steps.specs.declared.byte.ByteOperation.TheVariants.{Enqueue as EnqueueBytes, MakeRequest, Respond as RespondBytes}
use Rattle.ws_steps.specs.declared.calls.Answer.{Answer}
use Rattle.ws_steps.specs.declared.calls.Answer.TheVariants.{Ok as AnswerOk, Fail as AnswerFail}
use Rattle.ws_steps.specs.declared.calls.Reply.{Reply}
use Rattle.ws_steps.specs.declared.calls.Reply.TheVariants.{Done as ReplyDone, Request as ReplyRequest, Size, State as ReplyState, Throws}
use Rattle.ws_steps.specs.declared.calls.Thrown.TheVariants.{TypeError, RangeError}
use Rattle.ws_steps.specs.declared.effects.Effect.TheVariants.{Readable, Byte, Writable, Transform as OnTransform, Settle as SettlePromise}
use Rattle.ws_steps.specs.declared.effects.Owner.{Owner}
use Rattle.ws_steps.specs.declared.effects.Owner.TheVariants.{Host, HalfOf, BranchOf, EndOf}
use Rattle.ws_steps.specs.declared.readable.ReadableOperation.{ReadableOperation}
use Rattle.ws_steps.specs.declared.readable.ReadableOperation.TheVariants.{Enqueue as EnqueueChunk, Close as CloseReadable, Error as ErrorReadable}
use Rattle.ws_steps.specs.declared.transform.TransformOperation.TheVariants.{Enqueue as EnqueueByTransform, Error as ErrorTransform, Terminate as TerminateTransform}
use Rattle.ws_steps.specs.declared.writable.WritableOperation.TheVariants.{ErrorIfNeeded}
use Rattle.ws_steps.specs.Bytes as byte
use Rattle.ws_steps.specs.Descriptors.{Descriptor, room_left, respond_throws}
use Rattle.ws_steps.specs.Queues.{is_empty}
use Rattle.ws_steps.specs.Readable as readable
use Rattle.ws_steps.specs.ReadableLooks as readable_looks
use Rattle.ws_steps.specs.WritableLooks as writable_looks
use Rattle.ws_steps.specs.Slots.{Slots, causes, has_readable, has_byte, has_source, readable_at, byte_at, source_at, writable_at, owner_at}
use Rattle.ws_steps.specs.Begun.{Begun, replies, unsupported, throws_type_error, begun, for_readable, for_writable, does}

-- calls on controllers

abbrev pub if_it_can : StreamId → ReadableOperation → Slots → Begun
if_it_can i operation s =
    if readable.can_close_or_enqueue (readable_at i s) then does (Readable i operation ∷ []) s else throws_type_error s

-- enqueue() of the controller of a readable stream, by whose it is: that of the host's source, or that of a transform stream; the host has
-- no controller of a branch of a tee, nor of the end of a port
abbrev pub enqueue_by : Value → StreamId → Slots → Owner → Begun
enqueue_by v i s Host = if_it_can i (EnqueueChunk v) s
enqueue_by v i s (HalfOf t) =
    if readable.can_close_or_enqueue (readable_at i s) then does (OnTransform t (EnqueueByTransform v) ∷ []) s else throws_type_error s
enqueue_by v i s (BranchOf t half) = unsupported s
enqueue_by v i s (EndOf c) = unsupported s

abbrev pub enqueue : Value → StreamId → Slots → Begun
enqueue v i s = enqueue_by v i s (readable_at i s).owner

-- enqueue() of a byte controller: it takes bytes alone, and some
abbrev pub enqueue_bytes : StreamId → Slots → Value → Begun
enqueue_bytes i s (PlainValue v) = throws_type_error s
enqueue_bytes i s (Bytes b) =
    if not (is_empty b) && byte.can_take (byte_at i s) then does (Byte i (EnqueueBytes b) ∷ []) s else throws_type_error s

-- of a stream with a controller of either kind
abbrev pub enqueue_call : StreamId → Value → Slots → Begun
enqueue_call i v s = if has_byte i s then enqueue_bytes i s v else for_readable i (enqueue v i) s

-- close() of the controller of a host's source; that of a transform stream has none
abbrev pub finish_by : StreamId → Slots → Owner → Begun
finish_by i s Host = if_it_can i CloseReadable s
finish_by i s (HalfOf t) = unsupported s
finish_by i s (BranchOf t half) = unsupported s
finish_by i s (EndOf c) = unsupported s

abbrev pub finish : StreamId → Slots → Begun
finish i s = finish_by i s (readable_at i s).owner

-- close() of a byte controller throws what ReadableByteStreamControllerClose throws, which has errored the stream
abbrev pub close_reply : byte.Slots → Reply
close_reply b = if byte.close_throws b then Throws TypeError else ReplyDone

abbrev pub finish_bytes : StreamId → Slots → Begun
finish_bytes i s =
    if byte.can_take (byte_at i s) then begun (close_reply (byte_at i s)) (causes (Readable i CloseReadable ∷ []) s) else throws_type_error s

-- of a stream with a controller of either kind
abbrev pub finish_call : StreamId → Slots → Begun
finish_call i s = if has_byte i s then finish_bytes i s else for_readable i (finish i) s

-- error() of the controller of a readable stream, by whose it is
abbrev pub fail_readable_by : Plain → StreamId → Slots → Owner → Begun
fail_readable_by reason i s Host = does (Readable i (ErrorReadable reason) ∷ []) s
fail_readable_by reason i s (HalfOf t) = does (OnTransform t (ErrorTransform reason) ∷ []) s
fail_readable_by reason i s (BranchOf t half) = unsupported s
fail_readable_by reason i s (EndOf c) = unsupported s

-- error() of the controller of a host's sink; the host has no controller of the writable half of a transform stream, nor of the end of a port
abbrev pub fail_writable_by : Plain → StreamId → Slots → Owner → Begun
fail_writable_by reason i s Host = does (Writable i (ErrorIfNeeded reason) ∷ []) s
fail_writable_by reason i s (HalfOf t) = unsupported s
fail_writable_by reason i s (BranchOf t half) = unsupported s
fail_writable_by reason i s (EndOf c) = unsupported s

-- the controller of a stream of any kind
abbrev pub fail : Plain → StreamId → Slots → Begun
fail reason i s =
    if has_readable i s then fail_readable_by reason i s (readable_at i s).owner
    else if has_byte i s then does (Readable i (ErrorReadable reason) ∷ []) s
    else for_writable i (λ s. fail_writable_by reason i s (writable_at i s).owner) s

-- terminate() of the controller of a transform stream, by its readable half
abbrev pub terminate_by : Slots → Owner → Begun
terminate_by s Host = unsupported s
terminate_by s (HalfOf t) = does (OnTransform t TerminateTransform ∷ []) s
terminate_by s (BranchOf t half) = unsupported s
terminate_by s (EndOf c) = unsupported s

abbrev pub terminate : StreamId → Slots → Begun
terminate i s = terminate_by s (readable_at i s).owner

-- desiredSize of the controller of a readable stream, by whose it is
abbrev pub desired_by : StreamId → Slots → Owner → Begun
desired_by i s Host = replies (Size (readable_looks.desired_by (source_at i s) (source_at i s).state)) s
desired_by i s (HalfOf t) = replies (Size (readable_looks.desired_by (source_at i s) (source_at i s).state)) s
desired_by i s (BranchOf t half) = unsupported s
desired_by i s (EndOf c) = unsupported s

abbrev pub desired : StreamId → Slots → Begun
desired i s = desired_by i s (owner_at i s)

abbrev pub desired_of_writer : StreamId → Slots → Begun
desired_of_writer i s = replies (Size (writable_looks.desired_by (writable_at i s) (writable_at i s).state)) s

abbrev pub look : StreamId → Slots → Begun
look i s =
    if has_source i s then replies (ReplyState (readable_looks.state_of (source_at i s))) s
    else for_writable i (λ s. replies (ReplyState (writable_looks.state_of (writable_at i s))) s) s

abbrev pub outcome_of : Answer → Result Plain Plain
outcome_of AnswerOk = Ok Undefined
outcome_of (AnswerFail reason) = Err reason

-- the host settles the promise of an algorithm, once
abbrev pub settle_host : HostId → Answer → Slots → Option PromiseId → Begun
settle_host h answer s None = unsupported s
settle_host h answer s (Some p) =
    begun ReplyDone (causes (SettlePromise p (outcome_of answer) ∷ []) (record s { hosts = slice_set s.hosts h.0 None }))

-- BYOB requests

abbrev pub is_request : RequestId → Option RequestId → Bool
is_request q None = false
is_request q (Some r) = nat_eq q.0 r.0

-- byobRequest of a byte controller: the request, with how many bytes have room in the view of the first descriptor. Where there is none, but
-- a descriptor, it is a new one
abbrev pub request_by : StreamId → Slots → Option RequestId → List Descriptor → Begun
request_by i s request [] = replies (ReplyRequest None) s
request_by i s (Some q) (d ∷ ds) = replies (ReplyRequest (Some (q, room_left d))) s
request_by i s None (d ∷ ds) =
    let q : RequestId = record { 0 = length s.byob_requests } in
    begun (ReplyRequest (Some (q, room_left d)))
    (causes (Byte i (MakeRequest q) ∷ []) (record s { byob_requests = s.byob_requests ++ i ∷ [] }))

abbrev pub request : StreamId → Slots → Begun
request i s = request_by i s (byte_at i s).request (byte_at i s).descriptors

abbrev pub thrown_by : Fault → Reply
thrown_by RangeFault = Throws RangeError
thrown_by _ = Throws TypeError

-- respond() of the request, of the byte stream i, which may throw what ReadableByteStreamControllerRespond throws
abbrev pub respond_unless : StreamId → List ℕ → Slots → Option Fault → Begun
respond_unless i b s None = does (Byte i (RespondBytes b) ∷ []) s
respond_unless i b s (Some fault) = replies (thrown_by fault) s

abbrev pub respond_to : RequestId → List ℕ → StreamId → Slots → Begun
respond_to q b i s =
    if is_request q (byte_at i s).request
    then respond_unless i b s (respond_throws (length b) (byte_at i s).stream.state (byte_at i s).descriptors)
    else throws_type_error s

-- of a request that was made; one that was invalidated has no view any more
abbrev pub respond : RequestId → List ℕ → Slots → Option StreamId → Begun
respond q b s None = unsupported s
respond q b s (Some i) = respond_to q b i s
