-- What holds of a link between steps, and of two streams that may be linked.
use Rattle.std.specs.Prelude.{ℕ, zero, suc, ◌≡◌, ◌≢◌, ◌+◌, Bool, true, false, not, ◌&&◌, is_some, List, [], ◌∷◌, Option, Some, None, slice_get}
use Rattle.ws_value.specs.declared.ids.PipeId.{PipeId}
use Rattle.ws_value.specs.declared.ids.PromiseId.{PromiseId}
use Rattle.ws_value.specs.declared.ids.SignalId.{SignalId}
use Rattle.ws_value.specs.declared.ids.StreamId.{StreamId}
use Rattle.ws_value.specs.declared.value.Value.{Value}
use Rattle.ws_steps.specs.declared.effects.Owner.{Owner}
use Rattle.ws_steps.specs.declared.effects.Owner.TheVariants.{Host, HalfOf, BranchOf, EndOf}
use Rattle.ws_steps.specs.declared.locks.Lock.{Lock}
use Rattle.ws_steps.specs.declared.locks.Lock.TheVariants.{Reader, ByobReader, Writer, ReleasedWriter, Inner}
use Rattle.ws_steps.specs.declared.pipes.Action.{Action}
use Rattle.ws_steps.specs.declared.pipes.Action.TheVariants.{CloseDest}
use Rattle.ws_steps.specs.declared.pipes.Phase.{Phase}
use Rattle.ws_steps.specs.declared.pipes.Phase.TheVariants.{Waiting}
use Rattle.ws_steps.specs.declared.queue.Queued.{Queued}
use Rattle.ws_steps.specs.declared.readable.ReadRequest.{ReadRequest}
use Rattle.ws_steps.specs.declared.readable.ReadableState.TheVariants.{Closed as ReadableClosed}
use Rattle.ws_steps.specs.declared.transform.Kind.TheVariants.{Host as HostKind}
use Rattle.ws_steps.specs.declared.writable.WritableState.{WritableState}
use Rattle.ws_steps.specs.declared.writable.WritableState.TheVariants.{Writable, Erroring, Errored, Closed}
use Rattle.ws_steps.specs.declared.writable.WriteRecord.{WriteRecord}
use Rattle.ws_steps.specs.declared.writable.WriteRecord.TheVariants.{Chunk, InFlight, CloseMark}
use Rattle.ws_steps.specs.Bytes as byte
use Rattle.ws_steps.specs.Histories.{is_same}
use Rattle.ws_steps.specs.Pipes as pipe
use Rattle.ws_steps.specs.Tee as tee
use Rattle.ws_steps.specs.Readable as readable
use Rattle.ws_steps.specs.Run.{Entry, run}
use Rattle.ws_steps.specs.Slots.{Slots, Stream, empty, has_source, has_writable, has_signal, owner_at, byte_at, source_at, writable_at, transform_at, pipe_at}
use Rattle.ws_steps.specs.Writable as writable
use Rattle.ws_flow.specs.Told.{Mark, Open, Closed as ToldClosed, Broken, Lost}
use Rattle.ws_pipe_laws.specs.pipes.PipeReads.{is_of, in_stream, in_streams}
use Rattle.ws_link_laws.specs.Link.{todo_of}

-- the realm is one to which calls, jobs and its host led
abbrev pub IsReached : Slots → Type 0
IsReached s = (entries : List Entry) × (s ≡ run entries empty)

-- it performs algorithms of the host, its own or those of a transform stream, or those of a port. A branch of a tee doesn't
abbrev pub IsHosts : Slots → Owner → Type 0
IsHosts s Host = Unit {0}
IsHosts s (HalfOf t) = (transform_at t s).kind ≡ HostKind
IsHosts s (BranchOf t half) = ⊥
IsHosts s (EndOf c) = Unit {0}

-- no reader of the host has stream i, and no writer of the host stream j

abbrev pub spares : StreamId → StreamId → Lock → Bool
spares i j (Reader (Some k) closed) = not (is_same i k)
spares i j (Reader None closed) = true
spares i j (ByobReader (Some k) closed) = not (is_same i k)
spares i j (ByobReader None closed) = true
spares i j (Writer k) = not (is_same j k)
spares i j (ReleasedWriter w) = true
spares i j Inner = true

abbrev pub all_spare : StreamId → StreamId → List Lock → Bool
all_spare i j [] = true
all_spare i j (l ∷ ls) = spares i j l && all_spare i j ls

-- the requests of a pipe that wait at other streams than the one of number n
abbrev pub elsewhere : PipeId → ℕ → List Stream → ℕ
elsewhere p n [] = 0
elsewhere p zero (x ∷ xs) = in_streams p xs
elsewhere p (suc n) (x ∷ xs) = in_stream p x + elsewhere p n xs

-- the destination

abbrev pub is_closed : Mark → Bool
is_closed Open = false
is_closed ToldClosed = true
is_closed Broken = false
is_closed Lost = false

-- behind a record that wasn't handed on: nothing behind a close mark, and none that was handed on
abbrev pub Behind : WriteRecord → List (Queued WriteRecord) → Type 0
Behind CloseMark qs = qs ≡ []
Behind (Chunk v) qs = Unit {0}
Behind InFlight qs = ⊥

abbrev pub Plainly : List (Queued WriteRecord) → Type 0
Plainly [] = Unit {0}
Plainly (q ∷ qs) = Behind q.value qs × Plainly qs

abbrev pub Follows : WriteRecord → List (Queued WriteRecord) → Type 0
Follows CloseMark qs = qs ≡ []
Follows (Chunk v) qs = Plainly qs
Follows InFlight qs = Plainly qs

-- only the first record was handed on, and a close mark is the last
abbrev pub Shaped : List (Queued WriteRecord) → Type 0
Shaped [] = Unit {0}
Shaped (q ∷ qs) = Follows q.value qs

-- a close request has its mark in the queue; and where a close is in flight, the queue is empty and none is requested
abbrev pub Closing : Option PromiseId → List (Queued WriteRecord) → Option PromiseId → Type 0
Closing None qs request = is_some request ≡ is_closed (todo_of qs).mark
Closing (Some p) qs request = (qs ≡ []) × (request ≡ None)

pub record SinkAlive (w : writable.Slots) : Type 0 where
  pub shaped : Shaped w.queue
  pub closing : Closing w.close_in_flight w.queue w.close_request
  pub started : w.started ≡ false → w.close_in_flight ≡ None

abbrev pub FitsIn : WritableState → writable.Slots → Type 0
FitsIn Writable w = SinkAlive w
FitsIn Erroring w = SinkAlive w
FitsIn Closed w = (w.close_in_flight ≡ None) × (w.queue ≡ [])
FitsIn Errored w = (w.close_in_flight ≡ None) × (w.queue ≡ [])

-- the queue and the close of a destination go together
abbrev pub SinkFits : writable.Slots → Type 0
SinkFits w = FitsIn w.state w

-- the source

-- each request is this pipe's
abbrev pub Owned : PipeId → List ReadRequest → Type 0
Owned p [] = Unit {0}
Owned p (q ∷ qs) = (is_of p q ≡ 1) × Owned p qs

abbrev pub NoneWaits : List ReadRequest → List (Queued Value) → Type 0
NoneWaits [] queue = Unit {0}
NoneWaits (q ∷ qs) queue = queue ≡ []

-- only the pipe reads from its source, and no read waits beside a queued chunk
pub record SourceFits (p : PipeId) (r : readable.Slots) : Type 0 where
  pub owned : Owned p r.requests
  pub fit : NoneWaits (readable.waiting r) r.queue

-- A byte stream that is read by chunks alone: its controller allocates no rooms, no descriptors wait, and no BYOB reader has it. So is what
-- stands where there is no byte stream
pub record IsBare (b : byte.Slots) : Type 0 where
  pub auto : b.auto ≡ 0
  pub descriptors : b.descriptors ≡ []
  pub reader : byte.has_byob_reader b ≡ false

-- a pipe that waits to close its destination
abbrev pub Closes : Phase → Option Action → Type 0 → Type 0
Closes Waiting (Some CloseDest) P = P
Closes phase action P = Unit {0}

-- no other pipe has stream i for its source, and none stream j for its destination
abbrev pub IsApart : StreamId → StreamId → pipe.Slots → Type 0
IsApart i j x = (is_same i x.source ≡ false) × (is_same j x.dest ≡ false)

abbrev pub AreApart : StreamId → StreamId → PipeId → List pipe.Slots → Type 0
AreApart i j p pipes = (n : ℕ) (x : pipe.Slots) → slice_get pipes n ≡ Some x → n ≢ p.0 → IsApart i j x

-- no tee has stream i for its source
abbrev pub all_untied : StreamId → List tee.Slots → Bool
all_untied i [] = true
all_untied i (x ∷ xs) = not (is_same i x.source) && all_untied i xs

-- The link of pipe p from stream i to stream j, between steps: each is the host's own, a half of a transform stream of the host's kind, or the end
-- of a port, the source is bare where it is a byte stream, the pipe goes from the one to the other, nobody else has them, and what is in them is as a pipe, its
-- source and its destination keep it
pub record IsLink (i j : StreamId) (p : PipeId) (s : Slots) : Type 0 where
  pub reached : IsReached s
  pub source : has_source i s ≡ true
  pub bare : IsBare (byte_at i s)
  pub sink : has_writable j s ≡ true
  pub source_owner : IsHosts s (owner_at i s)
  pub sink_owner : IsHosts s (owner_at j s)
  pub there : slice_get s.pipes p.0 ≡ Some (pipe_at p s)
  pub from : (pipe_at p s).source ≡ i
  pub into : (pipe_at p s).dest ≡ j
  pub apart : AreApart i j p s.pipes
  pub untied : all_untied i s.tees ≡ true
  pub locks : all_spare i j s.locks ≡ true
  pub elsewhere : elsewhere p i.0 s.streams ≡ 0
  pub source_fits : SourceFits p (source_at i s)
  pub sink_fits : SinkFits (writable_at j s)
  -- a pipe that waits to close its destination has a source that closed
  pub closes : Closes (pipe_at p s).phase (pipe_at p s).action ((source_at i s).state ≡ ReadableClosed)

abbrev pub all_apart : StreamId → StreamId → List pipe.Slots → Bool
all_apart i j [] = true
all_apart i j (x ∷ xs) = (not (is_same i x.source) && not (is_same j x.dest)) && all_apart i j xs

-- Streams i and j may be linked: each is the host's own, a half of a transform stream of the host's kind, or the end of a port, i is bare where it is a byte stream,
-- nobody has them, no pipe ever had, and nothing was written to j. What was enqueued at i stays
pub record IsFree (i j : StreamId) (s : Slots) : Type 0 where
  pub reached : IsReached s
  pub source : has_source i s ≡ true
  pub bare : IsBare (byte_at i s)
  pub sink : has_writable j s ≡ true
  pub source_owner : IsHosts s (owner_at i s)
  pub sink_owner : IsHosts s (owner_at j s)
  pub unread : (source_at i s).reader ≡ None
  pub unwritten : (writable_at j s).writer ≡ None
  pub locks : all_spare i j s.locks ≡ true
  pub apart : all_apart i j s.pipes ≡ true
  pub untied : all_untied i s.tees ≡ true
  pub requests : (source_at i s).requests ≡ []
  pub queue : (writable_at j s).queue ≡ []
  pub close_request : (writable_at j s).close_request ≡ None
  pub close_in_flight : (writable_at j s).close_in_flight ≡ None

-- a signal that is there, or none
abbrev pub IsThere : Option SignalId → Slots → Type 0
IsThere None s = Unit {0}
IsThere (Some a) s = has_signal a s ≡ true
