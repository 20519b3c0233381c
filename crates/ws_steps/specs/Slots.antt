-- The slots of a realm: its records in tables by number, and its promises with their jobs and what the host hears of.
use Rattle.std.specs.Prelude.{ℕ, nat_eq, nat_lt, Bool, true, false, ◌&&◌, ◌||◌, is_some, if◌then◌else◌, List, [], ◌∷◌, Option, Some, None, slice_get, slice_set}
use Rattle.ws_value.specs.declared.ids.HostId.{HostId}
use Rattle.ws_value.specs.declared.ids.LockId.{LockId}
use Rattle.ws_value.specs.declared.ids.PipeId.{PipeId}
use Rattle.ws_value.specs.declared.ids.PortId.{PortId}
use Rattle.ws_value.specs.declared.ids.PromiseId.{PromiseId}
use Rattle.ws_value.specs.declared.ids.RequestId.{RequestId}
use Rattle.ws_value.specs.declared.ids.SignalId.{SignalId}
use Rattle.ws_value.specs.declared.ids.StreamId.{StreamId}
use Rattle.ws_value.specs.declared.ids.TeeId.{TeeId}
use Rattle.ws_value.specs.declared.value.Plain.{Plain}
use Rattle.ws_steps.specs.declared.effects.Effect.{Effect}
use Rattle.ws_steps.specs.declared.effects.Owner.{Owner}
use Rattle.ws_steps.specs.declared.effects.Owner.TheVariants.{Host}
use Rattle.ws_steps.specs.declared.locks.Lock.{Lock}
use Rattle.ws_steps.specs.declared.pipes.Ends.{Ends}
use Rattle.ws_steps.specs.declared.pipes.Phase.TheVariants.{Over}
use Rattle.ws_steps.specs.declared.port.Side.TheVariants.{Readable as ReadableSide}
use Rattle.ws_steps.specs.declared.readable.ReadableState.TheVariants.{Closed as ReadableClosed}
use Rattle.ws_steps.specs.declared.readable.SizeBy.TheVariants.{Count}
use Rattle.ws_steps.specs.declared.tee.TeePhase.TheVariants.{Over as TeeOver}
use Rattle.ws_steps.specs.declared.transform.Halves.{Halves}
use Rattle.ws_steps.specs.declared.transform.Kind.TheVariants.{Identity}
use Rattle.ws_steps.specs.declared.transform.TransformId.{TransformId}
use Rattle.ws_steps.specs.declared.writable.WritableState.TheVariants.{Closed as WritableClosed}
use Rattle.ws_steps.specs.declared.writable.Writer.{Writer}
use Rattle.ws_steps.specs.Promises.{Table, no_promises}
use Rattle.ws_steps.specs.Effects.{Out}
use Rattle.ws_steps.specs.Bytes as byte
use Rattle.ws_steps.specs.Cross as cross
use Rattle.ws_steps.specs.Pipes as pipe
use Rattle.ws_steps.specs.Queues.{total_of, first_value}
use Rattle.ws_steps.specs.Readable as readable
use Rattle.ws_steps.specs.Tee as tee
use Rattle.ws_steps.specs.Transform as transform
use Rattle.ws_steps.specs.Writable as writable

-- a stream of any kind: a readable stream with a default controller, one with a byte controller, or a writable stream
pub data Stream : Type 0 where
  ReadableStream : readable.Slots → Stream
  ByteStream : byte.Slots → Stream
  WritableStream : writable.Slots → Stream

pub record Slots : Type 0 where
  pub streams : List Stream
  pub transforms : List transform.Slots
  pub tees : List tee.Slots
  pub ports : List cross.Slots
  pub pipes : List pipe.Slots
  pub signals : List pipe.Signal
  pub locks : List Lock
  pub promises : Table
  -- the promise of each call of a host's algorithm, until the host settles it
  pub hosts : List (Option PromiseId)
  -- the stream of each BYOB request
  pub byob_requests : List StreamId
  -- the calls and jobs that were performed
  pub age : ℕ

-- a new realm
abbrev pub empty : Slots
empty = record { streams = []; transforms = []; tees = []; ports = []; pipes = []; signals = []; locks = []; promises = no_promises; hosts = []; byob_requests = []; age = 0 }

-- what stands where there is no such stream: one that takes nothing, gives nothing, and has no writer
abbrev pub no_readable : readable.Slots
no_readable = record (readable.set_up Host 0 Count) { state = ReadableClosed; reader = Some (record { 0 = 0 }); close_requested = true }

abbrev pub no_byte : byte.Slots
no_byte = record (byte.set_up 0 0) { stream = no_readable }

abbrev pub no_writable : writable.Slots
no_writable = record (writable.set_up Host 0 Count) { state = WritableClosed }

-- the most streams of a realm
abbrev pub most_streams : ℕ
most_streams = 1024

-- what stands where there is no such transform stream: one between streams that no realm has
abbrev pub no_transform : transform.Slots
no_transform = transform.set_up Identity (record { 0 = most_streams }) (record { 0 = most_streams }) (record { 0 = 0 })

-- what stands where there is no such tee: one that is over, between streams that no realm has
abbrev pub no_tee : tee.Slots
no_tee =
    record
    (tee.set_up (record { 0 = most_streams }) (record { 0 = most_streams }) (record { 0 = most_streams }) (record { 0 = 0 }))
    { phase = TeeOver; answered = true }

-- what stands where there is no such port: one that isn't entangled, at a stream that no realm has
abbrev pub no_port : cross.Slots
no_port = record (cross.set_up ReadableSide (record { 0 = most_streams }) None) { live = false }

-- what stands where there is no such pipe: one that is over, between streams that no realm has
abbrev pub no_pipe : pipe.Slots
no_pipe =
    record
    (pipe.set_up
    (record { 0 = most_streams })
    (record { 0 = most_streams })
    (record { close = false; abort = false; cancel = false })
    None
    (record { 0 = 0 }))
    { phase = Over }

-- whether this is a readable stream with a default controller
abbrev pub is_readable_stream : Option Stream → Bool
is_readable_stream None = false
is_readable_stream (Some (ReadableStream r)) = true
is_readable_stream (Some (ByteStream b)) = false
is_readable_stream (Some (WritableStream w)) = false

-- whether this is a readable stream with a byte controller
abbrev pub is_byte_stream : Option Stream → Bool
is_byte_stream None = false
is_byte_stream (Some (ReadableStream r)) = false
is_byte_stream (Some (ByteStream b)) = true
is_byte_stream (Some (WritableStream w)) = false

abbrev pub is_writable_stream : Option Stream → Bool
is_writable_stream None = false
is_writable_stream (Some (ReadableStream r)) = false
is_writable_stream (Some (ByteStream b)) = false
is_writable_stream (Some (WritableStream w)) = true

abbrev pub as_readable : Option Stream → readable.Slots
as_readable None = no_readable
as_readable (Some (ReadableStream r)) = r
as_readable (Some (ByteStream b)) = no_readable
as_readable (Some (WritableStream w)) = no_readable

abbrev pub as_byte : Option Stream → byte.Slots
as_byte None = no_byte
as_byte (Some (ReadableStream r)) = no_byte
as_byte (Some (ByteStream b)) = b
as_byte (Some (WritableStream w)) = no_byte

-- how a readable stream looks, whichever its controller is
abbrev pub as_source : Option Stream → readable.Slots
as_source None = no_readable
as_source (Some (ReadableStream r)) = r
as_source (Some (ByteStream b)) = byte.shown b
as_source (Some (WritableStream w)) = no_readable

abbrev pub as_writable : Option Stream → writable.Slots
as_writable None = no_writable
as_writable (Some (ReadableStream r)) = no_writable
as_writable (Some (ByteStream b)) = no_writable
as_writable (Some (WritableStream w)) = w

-- whether there is a readable stream with a default controller, one with a byte controller, one with any controller, or a writable stream,
-- of this number
abbrev pub has_readable : StreamId → Slots → Bool
has_readable i s = is_readable_stream (slice_get s.streams i.0)

abbrev pub has_byte : StreamId → Slots → Bool
has_byte i s = is_byte_stream (slice_get s.streams i.0)

abbrev pub has_source : StreamId → Slots → Bool
has_source i s = has_readable i s || has_byte i s

abbrev pub has_writable : StreamId → Slots → Bool
has_writable i s = is_writable_stream (slice_get s.streams i.0)

abbrev pub readable_at : StreamId → Slots → readable.Slots
readable_at i s = as_readable (slice_get s.streams i.0)

abbrev pub byte_at : StreamId → Slots → byte.Slots
byte_at i s = as_byte (slice_get s.streams i.0)

abbrev pub source_at : StreamId → Slots → readable.Slots
source_at i s = as_source (slice_get s.streams i.0)

abbrev pub writable_at : StreamId → Slots → writable.Slots
writable_at i s = as_writable (slice_get s.streams i.0)

abbrev pub lock_at : LockId → Slots → Option Lock
lock_at l s = slice_get s.locks l.0

abbrev pub pending_host : Option (Option PromiseId) → Option PromiseId
pending_host None = None
pending_host (Some waiting) = waiting

-- the promise of a call of a host's algorithm, where there was one that isn't settled
abbrev pub host_at : HostId → Slots → Option PromiseId
host_at h s = pending_host (slice_get s.hosts h.0)

-- the stream of a BYOB request
abbrev pub stream_of_request : RequestId → Slots → Option StreamId
stream_of_request q s = slice_get s.byob_requests q.0

-- whose algorithms the stream of this number performs; those of a byte controller are the host's
abbrev pub owner_of : Option Stream → Owner
owner_of None = Host
owner_of (Some (ReadableStream r)) = r.owner
owner_of (Some (ByteStream b)) = Host
owner_of (Some (WritableStream w)) = w.owner

abbrev pub owner_at : StreamId → Slots → Owner
owner_at i s = owner_of (slice_get s.streams i.0)

abbrev pub as_pipe : Option pipe.Slots → pipe.Slots
as_pipe None = no_pipe
as_pipe (Some x) = x

abbrev pub pipe_at : PipeId → Slots → pipe.Slots
pipe_at p s = as_pipe (slice_get s.pipes p.0)

abbrev pub as_transform : Option transform.Slots → transform.Slots
as_transform None = no_transform
as_transform (Some x) = x

abbrev pub transform_at : TransformId → Slots → transform.Slots
transform_at t s = as_transform (slice_get s.transforms t.0)

abbrev pub as_tee : Option tee.Slots → tee.Slots
as_tee None = no_tee
as_tee (Some x) = x

abbrev pub tee_at : TeeId → Slots → tee.Slots
tee_at t s = as_tee (slice_get s.tees t.0)

-- whether one of these tees reads stream i
abbrev pub reads_any : StreamId → List tee.Slots → Bool
reads_any i [] = false
reads_any i (x ∷ xs) = nat_eq x.source.0 i.0 || reads_any i xs

-- whether a tee reads stream i
abbrev pub is_teed : StreamId → Slots → Bool
is_teed i s = reads_any i s.tees

-- the two reasons that a tee keeps, where there is one of this number and both its branches were cancelled
abbrev pub pair_at : TeeId → Slots → Option (Plain × Plain)
pair_at t s = tee.pair (tee_at t s)

abbrev pub as_port : Option cross.Slots → cross.Slots
as_port None = no_port
as_port (Some x) = x

abbrev pub port_at : PortId → Slots → cross.Slots
port_at c s = as_port (slice_get s.ports c.0)

abbrev pub has_port : PortId → Slots → Bool
has_port c s = is_some (slice_get s.ports c.0)

-- whether there is a port of this number that is entangled
abbrev pub is_live : PortId → Slots → Bool
is_live c s = (port_at c s).live

-- whether the chunk that is first in the queue of the stream at this port, where that is writable, can be cloned
abbrev pub clones_at : cross.Slots → Slots → Bool
clones_at x s = cross.clones_first (first_value (writable_at x.stream s).queue)

abbrev pub as_signal : Option pipe.Signal → pipe.Signal
as_signal None = pipe.new_signal
as_signal (Some x) = x

abbrev pub signal_at : SignalId → Slots → pipe.Signal
signal_at a s = as_signal (slice_get s.signals a.0)

abbrev pub has_signal : SignalId → Slots → Bool
has_signal a s = is_some (slice_get s.signals a.0)

abbrev pub ready_of : Option Writer → Option PromiseId
ready_of None = None
ready_of (Some w) = Some w.ready

-- whether the desired size of a writer of the stream is more than 0
abbrev pub wants_chunk : writable.Slots → Bool
wants_chunk w = writable.is_writable w.state && nat_lt (total_of w.queue) w.hwm

-- what a pipe between these streams looks at
abbrev pub ends_of : readable.Slots → writable.Slots → Ends
ends_of r w =
    record {
      source_state = r.state;
      source_error = r.stored_error;
      dest_state = w.state;
      dest_error = w.stored_error;
      dest_closing = writable.is_closing w;
      dest_wants = wants_chunk w;
      dest_ready = ready_of w.writer;
      dest_abort = writable.answered_abort w;
    }

-- what a pipe looks at
abbrev pub ends_at : pipe.Slots → Slots → Ends
ends_at x s = ends_of (source_at x.source s) (writable_at x.dest s)

-- what a transform stream with these halves looks at
abbrev pub halves_of : readable.Slots → writable.Slots → Halves
halves_of r w =
    record {
      can_enqueue = readable.can_close_or_enqueue r;
      should_pull = readable.should_call_pull r;
      readable_state = r.state;
      readable_error = r.stored_error;
      writable_state = w.state;
      writable_error = w.stored_error;
    }

-- what a transform stream looks at
abbrev pub halves_at : transform.Slots → Slots → Halves
halves_at x s = halves_of (readable_at x.readable s) (writable_at x.writable s)

-- what an operation leaves, and the effects that it caused
pub record Done : Type 0 where
  pub slots : Slots
  pub caused : List Effect

abbrev pub nothing : Slots → Done
nothing s = record { slots = s; caused = [] }

-- these effects are caused, and nothing is changed
abbrev pub causes : List Effect → Slots → Done
causes effects s = record { slots = s; caused = effects }

-- only the promises are changed
abbrev pub with_promises : Table → Slots → Slots
with_promises t s = record s { promises = t }

-- an operation leaves a stream so, and this outside it
abbrev pub put_stream : StreamId → Slots → Stream → Out → Done
put_stream i s stream out =
    record { slots = record s { streams = slice_set s.streams i.0 stream; promises = out.promises }; caused = out.effects }

-- what an operation finds outside its stream
abbrev pub found : Slots → Out
found s = record { promises = s.promises; effects = [] }

abbrev pub put_readable : StreamId → Slots → readable.Acts → Done
put_readable i s a = put_stream i s (ReadableStream a.slots) a.out

-- an operation of a readable stream with a default controller, where there is one of this number
abbrev pub on_readable : (readable.Acts → readable.Acts) → StreamId → Slots → Done
on_readable operation i s =
    if has_readable i s then put_readable i s (operation (record { slots = readable_at i s; out = found s })) else nothing s

abbrev pub put_byte : StreamId → Slots → byte.Acts → Done
put_byte i s a = put_stream i s (ByteStream a.slots) a.out

-- an operation of a readable stream with a byte controller, where there is one of this number
abbrev pub on_byte : (byte.Acts → byte.Acts) → StreamId → Slots → Done
on_byte operation i s =
    if has_byte i s then put_byte i s (operation (record { slots = byte_at i s; out = found s })) else nothing s

abbrev pub put_writable : StreamId → Slots → writable.Acts → Done
put_writable i s a = put_stream i s (WritableStream a.slots) a.out

-- an operation of a writable stream, where there is one of this number
abbrev pub on_writable : (writable.Acts → writable.Acts) → StreamId → Slots → Done
on_writable operation i s =
    if has_writable i s then put_writable i s (operation (record { slots = writable_at i s; out = found s })) else nothing s

abbrev pub put_pipe : PipeId → Slots → pipe.Acts → Done
put_pipe p s a = record { slots = record s { pipes = slice_set s.pipes p.0 a.slots; promises = a.out.promises }; caused = a.out.effects }

abbrev pub on_pipe_at : (Ends → pipe.Acts → pipe.Acts) → PipeId → Slots → Option pipe.Slots → Done
on_pipe_at operation p s None = nothing s
on_pipe_at operation p s (Some x) = put_pipe p s (operation (ends_at x s) (record { slots = x; out = found s }))

-- an operation of a pipe, where there is one of this number
abbrev pub on_pipe : (Ends → pipe.Acts → pipe.Acts) → PipeId → Slots → Done
on_pipe operation p s = on_pipe_at operation p s (slice_get s.pipes p.0)

abbrev pub put_signal : SignalId → Slots → pipe.Signalled → Done
put_signal a s x = record { slots = record s { signals = slice_set s.signals a.0 x.signal }; caused = x.effects }

abbrev pub on_signal_at : (pipe.Signal → pipe.Signalled) → SignalId → Slots → Option pipe.Signal → Done
on_signal_at operation a s None = nothing s
on_signal_at operation a s (Some x) = put_signal a s (operation x)

-- an operation of a signal, where there is one of this number
abbrev pub on_signal : (pipe.Signal → pipe.Signalled) → SignalId → Slots → Done
on_signal operation a s = on_signal_at operation a s (slice_get s.signals a.0)

abbrev pub put_transform : TransformId → Slots → transform.Acts → Done
put_transform t s a =
    record { slots = record s { transforms = slice_set s.transforms t.0 a.slots; promises = a.out.promises }; caused = a.out.effects }

abbrev pub on_transform_at : (Halves → transform.Acts → transform.Acts) → TransformId → Slots → Option transform.Slots → Done
on_transform_at operation t s None = nothing s
on_transform_at operation t s (Some x) = put_transform t s (operation (halves_at x s) (record { slots = x; out = found s }))

-- an operation of a transform stream, where there is one of this number
abbrev pub on_transform : (Halves → transform.Acts → transform.Acts) → TransformId → Slots → Done
on_transform operation t s = on_transform_at operation t s (slice_get s.transforms t.0)

abbrev pub put_tee : TeeId → Slots → tee.Acts → Done
put_tee t s a = record { slots = record s { tees = slice_set s.tees t.0 a.slots; promises = a.out.promises }; caused = a.out.effects }

abbrev pub on_tee_at : (tee.Acts → tee.Acts) → TeeId → Slots → Option tee.Slots → Done
on_tee_at operation t s None = nothing s
on_tee_at operation t s (Some x) = put_tee t s (operation (record { slots = x; out = found s }))

-- an operation of a tee, where there is one of this number
abbrev pub on_tee : (tee.Acts → tee.Acts) → TeeId → Slots → Done
on_tee operation t s = on_tee_at operation t s (slice_get s.tees t.0)

abbrev pub put_port : PortId → Slots → cross.Acts → Done
put_port c s a = record { slots = record s { ports = slice_set s.ports c.0 a.slots; promises = a.out.promises }; caused = a.out.effects }

abbrev pub on_port_at : (Bool → cross.Acts → cross.Acts) → PortId → Slots → Option cross.Slots → Done
on_port_at operation c s None = nothing s
on_port_at operation c s (Some x) = put_port c s (operation (clones_at x s) (record { slots = x; out = found s }))

-- an operation of a port, where there is one of this number
abbrev pub on_port : (Bool → cross.Acts → cross.Acts) → PortId → Slots → Done
on_port operation c s = on_port_at operation c s (slice_get s.ports c.0)
