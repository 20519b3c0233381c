-- What calls begin with, in the places that there are, and what holds once a call or a job has begun.
use Rattle.std.specs.Prelude.{◌≡◌, ◌+◌, ◌≤◌, ◌<◌, [], ◌∷◌, ◌++◌, length, Bool, false, None, vec_len, vec_capacity}
use Rattle.ws_value.specs.declared.ids.PromiseId.{PromiseId}
use Rattle.ws_pipe.specs.Seen.{SeenSignal}
use Rattle.ws_promise.specs.Seen.{HasPromiseRoom}
use Rattle.ws_steps.specs.declared.calls.Reply.{Reply}
use Rattle.ws_steps.specs.declared.calls.Reply.TheVariants.{Done as ReplyDone, Made, MadeTwo, Lock as ReplyLock, Promise, Signal as ReplySignal, Port as ReplyPort, MadePort, Request as ReplyRequest, Size, State as ReplyState, Throws, TooMany}
use Rattle.ws_steps.specs.declared.byte.ReaderKind.{ReaderKind}
use Rattle.ws_steps.specs.declared.byte.ReaderKind.TheVariants.{Default, Byob}
use Rattle.ws_steps.specs.declared.locks.Lock.{Lock}
use Rattle.ws_steps.specs.declared.locks.Lock.TheVariants.{Reader, ByobReader}
use Rattle.ws_steps.specs.declared.port.Side.{Side}
use Rattle.ws_steps.specs.Pipes.{new_signal}
use Rattle.ws_steps.specs.Places.{prices_of, queued_alone, requests_alone, members_alone, descriptors_alone, copies_alone}
use Rattle.ws_steps.specs.Begun.{Begun}
use Rattle.ws_steps.specs.LockCalls.{with_renewed, reject_renewed}
use Rattle.ws_steps.specs.PipeCalls.{add_port, start_end}
use Rattle.ws_tables.specs.View.{slots_of}
use Rattle.ws_tables.specs.Room.{places_of, queued_in, requested_in, described_in, CanTurn, HasRoomForAll, IsKept, KeepsRecords}
use Rattle.ws_tables.specs.declared.tables.Stream.{Stream}
use Rattle.ws_tables.specs.declared.tables.Tables.{Tables}

-- a call can begin: nothing is caused yet, and there are places for the promises, the locks and the effects that it makes
pub record CanBegin (t : Tables) : Type 0 where
  pub quiet : t.caused.effects ≡ []
  pub promises : HasPromiseRoom 5 t.promises
  pub effects : 8 ≤ t.caused.capacity
  pub locks : vec_len t.locks + 2 ≤ vec_capacity t.locks

-- there are places for two streams, one transform stream, one tee, one port, one pipe, one signal and one BYOB request more; of transform streams and tees
-- there are no more than of streams, so there are numbers for them
pub record CanMake (t : Tables) : Type 0 where
  pub streams : vec_len t.streams + 2 ≤ vec_capacity t.streams
  pub grown : vec_len t.grown + 2 ≤ vec_capacity t.grown
  pub transforms : vec_len t.transforms < vec_capacity t.transforms
  pub few : vec_len t.transforms ≤ vec_len t.streams
  pub tees : vec_len t.tees < vec_capacity t.tees
  pub few_tees : vec_len t.tees ≤ vec_len t.streams
  pub ports : vec_len t.ports < vec_capacity t.ports
  pub pipes : vec_len t.pipes < vec_capacity t.pipes
  pub signals : vec_len t.signals < vec_capacity t.signals
  pub byob_requests : vec_len t.byob_requests < vec_capacity t.byob_requests
  pub full : vec_len t.full < vec_capacity t.full

-- the lists of a stream are empty
pub record IsEmpty (x : Stream) : Type 0 where
  pub queued : queued_in x ≡ 0
  pub requested : requested_in x ≡ 0
  pub described : described_in x ≡ 0

-- one stream is made, which has no entries, and what is caused makes none; places are to be made there
pub record MakesOne (t t' : Tables) : Type 0 where
  pub stream : Stream
  pub empty : IsEmpty stream
  pub streams : t'.streams.items ≡ t.streams.items ++ stream ∷ []
  pub grown : t'.grown.items ≡ t.grown.items ++ record { 0 = length t.streams.items } ∷ []
  pub counted : vec_len t'.grown ≡ vec_len t.grown + 1
  pub queued : prices_of queued_alone t'.caused.effects ≡ 0
  pub requested : prices_of requests_alone t'.caused.effects ≡ 0
  pub described : prices_of descriptors_alone t'.caused.effects ≡ 0
  pub signals : t'.signals ≡ t.signals
  pub full : t'.full ≡ t.full
  pub tees : t'.tees ≡ t.tees
  pub uncopied : t'.uncopied ≡ t.uncopied

-- two streams are made, which have no entries, and what is caused makes none; places are to be made there. They may be the branches
-- of a new tee, which is then looked at for a copy
pub record MakesTwo (t t' : Tables) : Type 0 where
  pub first : Stream
  pub second : Stream
  pub first_empty : IsEmpty first
  pub second_empty : IsEmpty second
  pub streams : t'.streams.items ≡ (t.streams.items ++ first ∷ []) ++ second ∷ []
  pub grown : t'.grown.items ≡ (t.grown.items ++ record { 0 = length t.streams.items } ∷ []) ++ record { 0 = length t.streams.items + 1 } ∷ []
  pub counted : vec_len t'.grown ≡ vec_len t.grown + 2
  pub queued : prices_of queued_alone t'.caused.effects ≡ 0
  pub requested : prices_of requests_alone t'.caused.effects ≡ 0
  pub described : prices_of descriptors_alone t'.caused.effects ≡ 0
  pub copies : prices_of copies_alone t'.caused.effects ≡ 0
  pub signals : t'.signals ≡ t.signals
  pub full : t'.full ≡ t.full
  pub tees : t'.uncopied ≡ false → t'.tees ≡ t.tees
  pub uncopied : t'.uncopied ≡ false → t.uncopied ≡ false

-- one signal is made, which has no pipes, and nothing is caused; places are to be made there
pub record MakesSignal (t t' : Tables) : Type 0 where
  pub signal : SeenSignal
  pub empty : signal.signal ≡ new_signal
  pub signals : t'.signals.items ≡ t.signals.items ++ signal ∷ []
  pub full : t'.full.items ≡ t.full.items ++ record { 0 = length t.signals.items } ∷ []
  pub counted : vec_len t'.full ≡ vec_len t.full + 1
  pub members : prices_of members_alone t'.caused.effects ≡ 0
  pub streams : t'.streams ≡ t.streams
  pub grown : t'.grown ≡ t.grown
  pub tees : t'.tees ≡ t.tees
  pub uncopied : t'.uncopied ≡ t.uncopied

pub record MakesNone (t t' : Tables) : Type 0 where
  pub streams : t'.streams ≡ t.streams
  pub grown : t'.grown ≡ t.grown
  pub signals : t'.signals ≡ t.signals
  pub full : t'.full ≡ t.full
  pub tees : t'.tees ≡ t.tees
  pub uncopied : t'.uncopied ≡ t.uncopied

-- a call that answers so makes a stream, or two, or a signal, or none of these
abbrev pub RecordsAfter : Reply → Tables → Tables → Type 0
RecordsAfter (Made i) t t' = MakesOne t t'
RecordsAfter (MadeTwo i j) t t' = MakesTwo t t'
RecordsAfter (ReplySignal a) t t' = MakesSignal t t'
RecordsAfter (ReplyPort c) t t' = MakesOne t t'
RecordsAfter (MadePort i c) t t' = MakesOne t t'
RecordsAfter ReplyDone t t' = MakesNone t t'
RecordsAfter (ReplyLock l) t t' = MakesNone t t'
RecordsAfter (Promise p) t t' = MakesNone t t'
RecordsAfter (ReplyRequest request) t t' = MakesNone t t'
RecordsAfter (Size n) t t' = MakesNone t t'
RecordsAfter (ReplyState looks) t t' = MakesNone t t'
RecordsAfter (Throws reason) t t' = MakesNone t t'
RecordsAfter TooMany t t' = MakesNone t t'

-- a call begins so, and answers this, in the places that there are
pub record Answers (b : Begun) (answered : Reply) (t t' : Tables) : Type 0 where
  pub reply : answered ≡ b.reply
  pub slots : slots_of t' ≡ b.done.slots
  pub caused : t'.caused.effects ≡ b.done.caused
  pub others : t'.others ≡ t.others
  pub places : places_of t' ≡ places_of t
  pub waiting : t'.waiting ≡ t.waiting
  pub aborts : t'.aborts ≡ t.aborts
  pub records : RecordsAfter answered t t'

-- a pipe can begin behind what is caused: there are places for what it makes
pub record CanPipe (t : Tables) : Type 0 where
  pub promises : HasPromiseRoom 4 t.promises
  pub effects : 7 + length t.caused.effects ≤ t.caused.capacity
  pub locks : vec_len t.locks + 2 ≤ vec_capacity t.locks
  pub pipes : vec_len t.pipes < vec_capacity t.pipes

-- a pipe begins so, behind what is caused
pub record Pipes (b : Begun) (answered : Reply) (t t' : Tables) : Type 0 where
  pub reply : answered ≡ b.reply
  pub slots : slots_of t' ≡ b.done.slots
  pub caused : t'.caused.effects ≡ t.caused.effects ++ b.done.caused
  pub others : t'.others ≡ t.others
  pub places : places_of t' ≡ places_of t
  pub waiting : t'.waiting ≡ t.waiting
  pub aborts : t'.aborts ≡ t.aborts
  pub records : MakesNone t t'

-- a port is added, with a stream at its end which starts, and no pipe
pub record AddsEnd (side : Side) (t t' : Tables) : Type 0 where
  pub slots : slots_of t' ≡ add_port (record { 0 = length t.streams.items }) (slots_of t) side
  pub caused : t'.caused.effects ≡ start_end (record { 0 = length t.streams.items }) side ∷ []
  pub others : t'.others ≡ t.others
  pub places : places_of t' ≡ places_of t
  pub waiting : t'.waiting ≡ t.waiting
  pub aborts : t'.aborts ≡ t.aborts
  pub promises : length t'.promises.table.entries ≤ length t.promises.table.entries + 1
  pub locks : t'.locks ≡ t.locks
  pub pipes : t'.pipes ≡ t.pipes
  pub records : MakesOne t t'

-- a call or a job has begun, and there are places for its effects and all that comes of them
pub record IsBegun (t : Tables) : Type 0 where
  pub others : t.others.items ≡ []
  pub turns : CanTurn t.caused.effects t.under_way t
  pub room : HasRoomForAll t.caused.effects t
  pub kept : IsKept t

-- a reader of this kind that was released
abbrev pub released_by : ReaderKind → PromiseId → Lock
released_by Default closed = Reader None closed
released_by Byob closed = ByobReader None closed

-- a promise is renewed unless it is kept: a new one is rejected
pub record Renews (kept : Bool) (t t' : Tables) : Type 0 where
  pub slots : slots_of t' ≡ record (slots_of t) { promises = with_renewed t.promises.table kept }
  pub caused : t'.caused.effects ≡ t.caused.effects ++ reject_renewed t.promises.table kept
  pub others : t'.others ≡ t.others
  pub places : places_of t' ≡ places_of t
  pub locks : t'.locks ≡ t.locks
  pub records : KeepsRecords t t'

-- only the promises changed, and they got no fewer
pub record IsSameBeside (t t' : Tables) : Type 0 where
  pub caused : t'.caused ≡ t.caused
  pub others : t'.others ≡ t.others
  pub under_way : t'.under_way ≡ t.under_way
  pub records : KeepsRecords t t'
  pub age : t'.age ≡ t.age
  pub promises : length t.promises.table.entries ≤ length t'.promises.table.entries
