-- Who has the lock of a stream.
use Rattle.std.specs.Prelude.{ℕ, ◌+◌, Bool, false, not, ◌&&◌, is_some, List, [], ◌∷◌, Option, Some, None, slice_get}
use Rattle.ws_value.specs.declared.ids.StreamId.{StreamId}
use Rattle.ws_steps.specs.declared.locks.Lock.{Lock}
use Rattle.ws_steps.specs.declared.locks.Lock.TheVariants.{Reader, ByobReader, Writer, ReleasedWriter, Inner}
use Rattle.ws_steps.specs.Histories.{is_same}
use Rattle.ws_steps.specs.Pipes as pipe
use Rattle.ws_steps.specs.Slots.{Slots, Stream, ReadableStream, ByteStream, WritableStream}
use Rattle.ws_steps.specs.Tee as tee
use Rattle.ws_pipe_laws.specs.pipes.PipeHistory.{is_over}
use Rattle.ws_pipe_laws.specs.pipes.PipeReads.{one_if}

-- a readable stream is locked by a reader, and a writable stream by a writer
pub data Side : Type 0 where
  Reading : Side
  Writing : Side

-- whether this is a reader, or a writer, that has stream i
abbrev pub has : Side → StreamId → Lock → Bool
has Reading i (Reader (Some j) closed) = is_same i j
has Reading i (Reader None closed) = false
has Reading i (ByobReader (Some j) closed) = is_same i j
has Reading i (ByobReader None closed) = false
has Reading i (Writer j) = false
has Reading i (ReleasedWriter w) = false
has Reading i Inner = false
has Writing i (Reader stream closed) = false
has Writing i (ByobReader stream closed) = false
has Writing i (Writer j) = is_same i j
has Writing i (ReleasedWriter w) = false
has Writing i Inner = false

-- the stream of a pipe's own reader, or of its writer
abbrev pub end_of : Side → pipe.Slots → StreamId
end_of Reading x = x.source
end_of Writing x = x.dest

-- whether the pipe isn't over, and its source, or its destination, is stream i
abbrev pub holds : Side → StreamId → pipe.Slots → Bool
holds d i x = not (is_over x.phase) && is_same i (end_of d x)

abbrev pub in_locks : Side → StreamId → List Lock → ℕ
in_locks d i [] = 0
in_locks d i (l ∷ ls) = one_if (has d i l) + in_locks d i ls

abbrev pub in_pipes : Side → StreamId → List pipe.Slots → ℕ
in_pipes d i [] = 0
in_pipes d i (x ∷ xs) = one_if (holds d i x) + in_pipes d i xs

-- whether stream i is the source of the tee, which has it for good
abbrev pub tees_off : Side → StreamId → tee.Slots → Bool
tees_off Reading i x = is_same i x.source
tees_off Writing i x = false

abbrev pub in_tees : Side → StreamId → List tee.Slots → ℕ
in_tees d i [] = 0
in_tees d i (x ∷ xs) = one_if (tees_off d i x) + in_tees d i xs

-- how many have the stream: readers, or writers, and pipes and tees
abbrev pub holders : Side → StreamId → Slots → ℕ
holders d i s = in_locks d i s.locks + (in_pipes d i s.pipes + in_tees d i s.tees)

-- whether there is a readable stream that has a reader, or a writable stream that has a writer
abbrev pub has_lock : Side → Option Stream → Bool
has_lock d None = false
has_lock Reading (Some (ReadableStream r)) = is_some r.reader
has_lock Reading (Some (ByteStream b)) = is_some b.stream.reader
has_lock Reading (Some (WritableStream w)) = false
has_lock Writing (Some (ReadableStream r)) = false
has_lock Writing (Some (ByteStream b)) = false
has_lock Writing (Some (WritableStream w)) = is_some w.writer

abbrev pub is_locked : Side → StreamId → Slots → Bool
is_locked d i s = has_lock d (slice_get s.streams i.0)
