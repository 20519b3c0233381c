-- The calls on a realm, each with its checks in their order.
use Rattle.std.specs.Prelude.{if◌then◌else◌, [], ◌∷◌}
use Rattle.ws_value.specs.declared.ids.PortId.{PortId}
use Rattle.ws_steps.specs.declared.calls.Call.{Call}
use Rattle.ws_steps.specs.declared.calls.Call.TheVariants.{MakeReadable, MakeBytes, MakeWritable, MakeTransform, GetReader, GetByob, GetWriter, Tee, Cancel, CancelBy, Read, ReadInto, Write, Close, CloseBy, Abort, AbortBy, Closed, Ready, Release, Enqueue, Finish, Fail, Terminate, Request, Respond, Desired, DesiredBy, Pipe, MakeSignal, Trigger, Send, Open, Deliver, Settle, State, Step}
use Rattle.ws_steps.specs.declared.calls.Reply.{Reply}
use Rattle.ws_steps.specs.declared.calls.Reply.TheVariants.{Done as ReplyDone, Promise}
use Rattle.ws_steps.specs.declared.effects.Effect.TheVariants.{Signal as OnSignal, Port as OnPort}
use Rattle.ws_steps.specs.declared.pipes.SignalOperation.TheVariants.{Trigger as TriggerSignal}
use Rattle.ws_steps.specs.declared.port.PortOperation.TheVariants.{Deliver as DeliverMessage}
use Rattle.ws_steps.specs.Promises.{watch}
use Rattle.ws_steps.specs.Slots.{Slots, with_promises, stream_of_request, lock_at, host_at, has_port}
use Rattle.ws_steps.specs.Begun.{Begun, replies, unsupported, throws_type_error, rejected, for_readable, for_byte, for_source, does, unlocked_readable, unlocked_writable}
use Rattle.ws_steps.specs.MakingCalls.{make_readable, make_bytes, make_writable, make_stream, make_two, make_transform, tee_of, get_reader, get_byob_of, get_writer}
use Rattle.ws_steps.specs.LockCalls.{cancel, read, write, close, abort, by_reader, by_default_reader, read_into_by, by_writer, closed_by, ready_by, release}
use Rattle.ws_steps.specs.ControllerCalls.{enqueue_call, finish_call, fail, terminate, desired, desired_of_writer, look, settle_host, request, respond}
use Rattle.ws_steps.specs.PipeCalls.{for_signal, pipe_call, make_signal, open_end, send}

abbrev pub for_port : PortId → (Slots → Begun) → Slots → Begun
for_port c operation s = if has_port c s then operation s else unsupported s

-- the checks of a call in their order; what it answers and makes, and its effects
unfoldable pub begin : Call → Slots → Begun
begin (MakeReadable mark size start) s = make_stream (make_readable mark size start) s
begin (MakeBytes mark auto start) s = make_stream (make_bytes mark auto start) s
begin (MakeWritable mark size start) s = make_stream (make_writable mark size start) s
begin (MakeTransform kind writable_mark readable_mark start) s = make_two (make_transform kind writable_mark readable_mark start) s
begin (GetReader i) s = unlocked_readable i throws_type_error get_reader s
begin (GetByob i) s = unlocked_readable i throws_type_error get_byob_of s
begin (GetWriter i) s = unlocked_writable i throws_type_error get_writer s
begin (Tee i) s = unlocked_readable i throws_type_error tee_of s
begin (Cancel i reason) s = unlocked_readable i rejected (cancel reason) s
begin (CancelBy l reason) s = by_reader (cancel reason) rejected s (lock_at l s)
begin (Read l) s = by_default_reader read rejected s (lock_at l s)
begin (ReadInto l room element least) s = read_into_by room element least s (lock_at l s)
begin (Write l v) s = by_writer (write v) rejected s (lock_at l s)
begin (Close i) s = unlocked_writable i rejected close s
begin (CloseBy l) s = by_writer close rejected s (lock_at l s)
begin (Abort i reason) s = unlocked_writable i rejected (abort reason) s
begin (AbortBy l reason) s = by_writer (abort reason) rejected s (lock_at l s)
begin (Closed l) s = closed_by s (lock_at l s)
begin (Ready l) s = ready_by s (lock_at l s)
begin (Release l) s = release l s (lock_at l s)
begin (Enqueue i v) s = enqueue_call i v s
begin (Finish i) s = finish_call i s
begin (Fail i reason) s = fail reason i s
begin (Terminate i) s = for_readable i (terminate i) s
begin (Request i) s = for_byte i (request i) s
begin (Respond q b) s = respond q b s (stream_of_request q s)
begin (Desired i) s = for_source i (desired i) s
begin (DesiredBy l) s = by_writer desired_of_writer throws_type_error s (lock_at l s)
begin (Pipe source dest prevent signal) s = pipe_call source dest prevent signal s
begin MakeSignal s = make_signal s
begin (Trigger a reason) s = for_signal a (does (OnSignal a (TriggerSignal reason) ∷ [])) s
begin (Send i) s = send i s
begin (Open side) s = make_stream (open_end side) s
begin (Deliver c m) s = for_port c (does (OnPort c (DeliverMessage m) ∷ [])) s
begin (Settle h answer) s = settle_host h answer s (host_at h s)
begin (State i) s = look i s
begin Step s = replies ReplyDone s

-- a promise that a reply names is watched from now on
abbrev pub named : Reply → Slots → Slots
named (Promise p) s = with_promises (watch p s.promises) s
named _ s = s
