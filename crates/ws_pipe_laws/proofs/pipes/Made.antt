-- Who makes a pipe, and how it begins (`each_pipe_begins_flowing`).
use Rattle.ws_value.specs.declared.ids.RequestId.{RequestId}
use Rattle.ws_steps.specs.Descriptors.{Descriptor}
use Rattle.std.proofs.Common.{◌≡◌, List, [], ◌∷◌, Option, Some, None, refl, arith}
use Rattle.ws_value.specs.declared.{ids.SignalId.{SignalId}, ids.StreamId.{StreamId}}
use Rattle.ws_steps.specs.declared.calls.Call.TheVariants.{MakeReadable, MakeBytes, GetByob, ReadInto, Request, Respond, MakeWritable, MakeTransform, GetReader, GetWriter, Tee, Cancel, CancelBy, Read, Write, Close, CloseBy, Abort, AbortBy, Closed, Ready, Release, Enqueue, Finish, Fail, Terminate, Desired, DesiredBy, Pipe, MakeSignal, Trigger, Send, Open, Deliver, Settle, State, Step}
use Rattle.ws_steps.specs.declared.pipes.Prevent.{Prevent}
use Rattle.ws_steps.specs.Begun as replying
use Rattle.ws_steps.specs.MakingCalls as making_calls
use Rattle.ws_steps.specs.ControllerCalls as controller_calls
use Rattle.ws_steps.specs.PipeCalls as pipe_calls
use Rattle.ws_steps.specs.Begun.{Begun}
use Rattle.ws_steps.specs.Calls.{begin}
use Rattle.ws_pipe_laws.specs.pipes.PipeMoves.{MakesPipes, MakesNone, MakesOne, SendsReadable, SendsWritable, EachPipeBeginsFlowing}
use Rattle.ws_steps.specs.Pipes as pipe
use Rattle.ws_steps.specs.Promises.{next_id, fresh}
use Rattle.ws_steps.specs.ReadableLooks as readable_looks
use Rattle.ws_steps.specs.Slots.{Slots, has_writable, has_signal, writable_at, byte_at, has_source, source_at, has_byte, most_streams, lock_at}
use Rattle.ws_steps.specs.WritableLooks as writable_looks
use Rattle.ws_laws.proofs.Into.{into-either}
use Rattle.ws_laws.proofs.Tables.{either}
use Rattle.std.proofs.Common.{length, true, false, nat_lt}
use Rattle.ws_steps.specs.Promises.{Table}
use Rattle.ws_steps.specs.declared.port.Side.{Side}
use Rattle.ws_steps.specs.declared.port.Side.TheVariants.{Readable as ReadableSide, Writable as WritableSide}

request-makes : (i : StreamId) (s : Slots) (request : Option RequestId) (ds : List Descriptor) → (controller_calls.request_by i s request ds).done.slots.pipes ≡ s.pipes
request-makes i s request [] = refl
request-makes i s (Some q) (d ∷ ds) = refl
request-makes i s None (d ∷ ds) = refl

asked-makes : (i : StreamId) (s : Slots) → (replying.for_byte i (controller_calls.request i) s).done.slots.pipes ≡ s.pipes
asked-makes i s = either (λ (b : Begun). b.done.slots.pipes ≡ s.pipes) (has_byte i s) _ _ (λ e. request-makes i s (byte_at i s).request (byte_at i s).descriptors) (λ e. refl)

module _ (source dest : StreamId) (prevent : Prevent) (signal : Option SignalId) (s : Slots) where
  abbrev Makes : Begun → Type 0
  Makes b = MakesPipes (Pipe source dest prevent signal) s b

  begins-one : Makes (pipe_calls.pipe_to source dest prevent signal s)
  begins-one = MakesOne source dest prevent signal (pipe.set_up source dest prevent signal (next_id (fresh (fresh (fresh s.promises))))) refl refl (record {
    source = refl;
    dest = refl;
    prevent = refl;
    signal = refl;
    promise = refl;
    phase = refl;
    reading = refl;
    held = refl;
    unsettled = refl;
    waits = refl;
  })

  unlocked-makes : Makes (pipe_calls.pipe_unlocked source dest prevent signal s)
  unlocked-makes =
      either Makes (readable_looks.is_locked (source_at source s)) _ _ (λ l. MakesNone refl)
      (λ l. either Makes (writable_looks.is_locked (writable_at dest s)) _ _ (λ m. MakesNone refl) (λ m. begins-one))

  signal-makes : (by : Option SignalId) → Makes (pipe_calls.for_signal_where by (pipe_calls.pipe_unlocked source dest prevent signal) s)
  signal-makes None = unlocked-makes
  signal-makes (Some a) = either Makes (has_signal a s) _ _ (λ e. unlocked-makes) (λ e. MakesNone refl)

  pipe-makes : Makes (pipe_calls.pipe_call source dest prevent signal s)
  pipe-makes =
      either Makes (has_source source s) _ _
      (λ e. either Makes (has_writable dest s) _ _ (λ f. signal-makes signal) (λ f. MakesNone refl))
      (λ e. MakesNone refl)

module _ (i : StreamId) (s : Slots) where
  abbrev Sends : Begun → Type 0
  Sends b = MakesPipes (Send i) s b

  readable-sends : has_source i s ≡ true → Sends (pipe_calls.send_readable i (record { 0 = length s.streams }) s)
  readable-sends is =
      let t : Table = fresh s.promises in
      SendsReadable i (pipe.set_up i (record { 0 = length s.streams }) pipe_calls.no_prevent None (next_id (fresh (fresh (fresh t))))) refl is refl (record {
        source = refl;
        dest = refl;
        prevent = refl;
        signal = refl;
        port = refl;
        phase = refl;
        reading = refl;
        held = refl;
        unsettled = refl;
        waits = refl;
      })

  writable-sends : has_source i s ≡ false → has_writable i s ≡ true → Sends (pipe_calls.send_writable i (record { 0 = length s.streams }) s)
  writable-sends isnt is =
      SendsWritable i (pipe.set_up (record { 0 = length s.streams }) i pipe_calls.no_prevent None (next_id (fresh (fresh (fresh s.promises))))) refl isnt is refl (record {
        source = refl;
        dest = refl;
        prevent = refl;
        signal = refl;
        port = refl;
        phase = refl;
        reading = refl;
        held = refl;
        unsettled = refl;
        waits = refl;
      })

  roomy : (operation : StreamId → Slots → Begun) → Sends (operation (record { 0 = length s.streams }) s) → Sends (making_calls.make_stream operation s)
  roomy operation h = either Sends (nat_lt (length s.streams) most_streams) _ _ (λ e. h) (λ e. MakesNone refl)

  send-makes : Sends (pipe_calls.send i s)
  send-makes =
      either Sends (has_source i s) _ _
      (λ there. either Sends (has_source i s) _ _
      (λ e. either Sends (readable_looks.is_locked (source_at i s)) _ _ (λ l. MakesNone refl) (λ l. roomy (pipe_calls.send_readable i) (readable-sends e)))
      (λ e. MakesNone refl))
      (λ isnt. either Sends (has_writable i s) _ _
      (λ e. either Sends (writable_looks.is_locked (writable_at i s)) _ _ (λ l. MakesNone refl) (λ l. roomy (pipe_calls.send_writable i) (writable-sends isnt e)))
      (λ e. MakesNone refl))

open-makes : (side : Side) (s : Slots) → (pipe_calls.open_end side (record { 0 = length s.streams }) s).done.slots.pipes ≡ s.pipes
open-makes ReadableSide s = refl
open-makes WritableSide s = refl

opens-makes : (side : Side) (s : Slots) → (making_calls.make_stream (pipe_calls.open_end side) s).done.slots.pipes ≡ s.pipes
opens-makes side s = either (λ (b : Begun). b.done.slots.pipes ≡ s.pipes) (nat_lt (length s.streams) most_streams) _ _ (λ e. open-makes side s) (λ e. refl)

pub each_pipe_begins_flowing : EachPipeBeginsFlowing
unfolding begin
each_pipe_begins_flowing (Pipe source dest prevent signal) s = pipe-makes source dest prevent signal s
each_pipe_begins_flowing (MakeReadable mark size start) s = MakesNone (grind arith)
each_pipe_begins_flowing (MakeBytes mark auto start) s = MakesNone (grind arith)
each_pipe_begins_flowing (GetByob i) s = MakesNone (grind arith)
each_pipe_begins_flowing (ReadInto l room element least) s = MakesNone (into-either (λ b. b.done.slots.pipes ≡ s.pipes) room element least s refl (λ f. refl) (λ i. refl) (lock_at l s))
each_pipe_begins_flowing (Request i) s = MakesNone (asked-makes i s)
each_pipe_begins_flowing (Respond q b) s = MakesNone (grind arith)
each_pipe_begins_flowing (MakeWritable mark size start) s = MakesNone (grind arith)
each_pipe_begins_flowing (MakeTransform kind writable_mark readable_mark start) s = MakesNone (grind arith)
each_pipe_begins_flowing (GetReader i) s = MakesNone (grind arith)
each_pipe_begins_flowing (Tee i) s = MakesNone (grind arith)
each_pipe_begins_flowing (GetWriter i) s = MakesNone (grind arith)
each_pipe_begins_flowing (Cancel i reason) s = MakesNone (grind arith)
each_pipe_begins_flowing (CancelBy l reason) s = MakesNone (grind arith)
each_pipe_begins_flowing (Read l) s = MakesNone (grind arith)
each_pipe_begins_flowing (Write l v) s = MakesNone (grind arith)
each_pipe_begins_flowing (Close i) s = MakesNone (grind arith)
each_pipe_begins_flowing (CloseBy l) s = MakesNone (grind arith)
each_pipe_begins_flowing (Abort i reason) s = MakesNone (grind arith)
each_pipe_begins_flowing (AbortBy l reason) s = MakesNone (grind arith)
each_pipe_begins_flowing (Closed l) s = MakesNone (grind arith)
each_pipe_begins_flowing (Ready l) s = MakesNone (grind arith)
each_pipe_begins_flowing (Release l) s = MakesNone (grind arith)
each_pipe_begins_flowing (Enqueue i v) s = MakesNone (grind arith)
each_pipe_begins_flowing (Finish i) s = MakesNone (grind arith)
each_pipe_begins_flowing (Fail i reason) s = MakesNone (grind arith)
each_pipe_begins_flowing (Terminate i) s = MakesNone (grind arith)
each_pipe_begins_flowing (Desired i) s = MakesNone (grind arith)
each_pipe_begins_flowing (DesiredBy l) s = MakesNone (grind arith)
each_pipe_begins_flowing MakeSignal s = MakesNone refl
each_pipe_begins_flowing (Trigger a reason) s = MakesNone (grind arith)
each_pipe_begins_flowing (Send i) s = send-makes i s
each_pipe_begins_flowing (Open side) s = MakesNone (opens-makes side s)
each_pipe_begins_flowing (Deliver c m) s = MakesNone (grind arith)
each_pipe_begins_flowing (Settle h answer) s = MakesNone (grind arith)
each_pipe_begins_flowing (State i) s = MakesNone (grind arith)
each_pipe_begins_flowing Step s = MakesNone refl
