-- Laws of the locks of streams.
use Rattle.std.specs.Prelude.{◌≡◌, ◌≢◌, ◌+◌, Bool, true, false, not, ◌&&◌, List, [], ◌∷◌, length, All, Some}
use Rattle.ws_value.specs.declared.ids.LockId.{LockId}
use Rattle.ws_value.specs.declared.ids.PipeId.{PipeId}
use Rattle.ws_value.specs.declared.ids.PromiseId.{PromiseId}
use Rattle.ws_value.specs.declared.ids.StreamId.{StreamId}
use Rattle.ws_value.specs.declared.ids.TeeId.{TeeId}
use Rattle.ws_steps.specs.declared.byte.ByteOperation.{ByteOperation}
use Rattle.ws_steps.specs.declared.byte.ByteOperation.TheVariants.{InitializeByobReader, PullInto}
use Rattle.ws_steps.specs.declared.calls.Call.{Call}
use Rattle.ws_steps.specs.declared.effects.Effect.{Effect}
use Rattle.ws_steps.specs.declared.effects.Effect.TheVariants.{Readable as OnReadable, Byte, Writable as OnWritable}
use Rattle.ws_steps.specs.declared.locks.Lock.TheVariants.{Reader, ByobReader, Writer}
use Rattle.ws_steps.specs.declared.readable.ReadRequest.TheVariants.{Pipe as PipeRequest, Tee as TeeRequest}
use Rattle.ws_steps.specs.declared.readable.ReadableOperation.{ReadableOperation}
use Rattle.ws_steps.specs.declared.readable.ReadableOperation.TheVariants.{InitializeReader, ReleaseReader, Disturb, Read, Cancel, CancelIfReadable}
use Rattle.ws_steps.specs.declared.writable.WritableOperation.{WritableOperation}
use Rattle.ws_steps.specs.declared.writable.WritableOperation.TheVariants.{SetUpWriter, ReleaseWriter, Write, Close, ClosePropagating, Abort, AbortIfWritable}
use Rattle.ws_steps.specs.Calls.{begin}
use Rattle.ws_steps.specs.Histories.{is_same}
use Rattle.ws_steps.specs.Pipes as pipe
use Rattle.ws_steps.specs.Run.{Entry, run}
use Rattle.ws_steps.specs.Slots.{Slots, most_streams, empty, lock_at, pipe_at, source_at, tee_at, has_readable}
use Rattle.ws_steps.specs.Tee as tee
use Rattle.ws_steps.specs.TeeHistory.{has_tee}
use Rattle.ws_pipe_laws.specs.pipes.PipeHistory.{is_over}
use Rattle.ws_pipe_laws.specs.pipes.PipeReads.{one_if, held_values, in_streams}
use Rattle.ws_pipe_laws.specs.locks.Locks.{Side, Reading, end_of, holders, is_locked}

abbrev pub EachLockHasOneHolder : Type 0
EachLockHasOneHolder =
    (entries : List Entry) (d : Side) (i : StreamId) → let s : Slots = run entries empty in holders d i s ≡ one_if (is_locked d i s)

-- operations of a readable stream that its reader has done, or by which a reader comes or goes; the others are its controller's
abbrev pub is_of_reader : ReadableOperation → Bool
is_of_reader (InitializeReader closed) = true
is_of_reader ReleaseReader = true
is_of_reader Disturb = true
is_of_reader (Read request) = true
is_of_reader (Cancel r p) = true
is_of_reader (CancelIfReadable r p) = true
is_of_reader _ = false

-- and of a byte stream and its BYOB reader
abbrev pub is_of_byob_reader : ByteOperation → Bool
is_of_byob_reader (InitializeByobReader closed) = true
is_of_byob_reader (PullInto room element minimum request) = true
is_of_byob_reader _ = false

-- and of a writable stream and its writer
abbrev pub is_of_writer : WritableOperation → Bool
is_of_writer (SetUpWriter w) = true
is_of_writer ReleaseWriter = true
is_of_writer (Write v p) = true
is_of_writer (Close p) = true
is_of_writer (ClosePropagating p) = true
is_of_writer (Abort r p) = true
is_of_writer (AbortIfWritable r p) = true
is_of_writer _ = false

-- effects that aren't an operation of this source's reader, nor one of this destination's writer
abbrev pub spares : StreamId → StreamId → Effect → Bool
spares source dest (OnReadable i operation) = not (is_of_reader operation && is_same i source)
spares source dest (Byte i operation) = not (is_of_byob_reader operation && is_same i source)
spares source dest (OnWritable i operation) = not (is_of_writer operation && is_same i dest)
spares source dest _ = true

abbrev pub all_spare : StreamId → StreamId → List Effect → Bool
all_spare source dest [] = true
all_spare source dest (e ∷ es) = spares source dest e && all_spare source dest es

-- a pipe has its two ends
pub record Owns (s : Slots) (x : pipe.Slots) : Type 0 where
  pub locked : (d : Side) → is_locked d (end_of d x) s ≡ true
  pub no_reader : (l : LockId) (closed : PromiseId) → lock_at l s ≢ Some (Reader (Some x.source) closed)
  pub no_byob_reader : (l : LockId) (closed : PromiseId) → lock_at l s ≢ Some (ByobReader (Some x.source) closed)
  pub no_writer : (l : LockId) → lock_at l s ≢ Some (Writer x.dest)
  pub calls : (c : Call) → all_spare x.source x.dest (begin c s).done.caused ≡ true

abbrev pub EachPipeOwnsItsEnds : Type 0
EachPipeOwnsItsEnds =
    (entries : List Entry) (p : PipeId) → let s : Slots = run entries empty in is_over (pipe_at p s).phase ≡ false → Owns s (pipe_at p s)

abbrev pub NoTwoPipesShareAnEnd : Type 0
NoTwoPipesShareAnEnd =
    (entries : List Entry) (p q : PipeId) → let s : Slots = run entries empty in p ≢ q → is_over (pipe_at p s).phase ≡ false → is_over (pipe_at q s).phase ≡ false
    → (d : Side) → end_of d (pipe_at p s) ≢ end_of d (pipe_at q s)

abbrev pub EachSourceIsReadByItsPipe : Type 0
EachSourceIsReadByItsPipe =
    (entries : List Entry) (p : PipeId) → let s : Slots = run entries empty in let x : pipe.Slots = pipe_at p s in
    is_over x.phase ≡ false → All (λ r. r ≡ PipeRequest p) (source_at x.source s).requests

abbrev pub EachReadingHasOneRead : Type 0
EachReadingHasOneRead =
    (entries : List Entry) (p : PipeId) → let s : Slots = run entries empty in
    in_streams p s.streams + length (held_values (pipe_at p s).held) ≡ one_if (pipe_at p s).reading

-- a tee has its source
pub record OwnsSource (s : Slots) (t : TeeId) (x : tee.Slots) : Type 0 where
  pub default : has_readable x.source s ≡ true
  pub locked : is_locked Reading x.source s ≡ true
  pub no_reader : (l : LockId) (closed : PromiseId) → lock_at l s ≢ Some (Reader (Some x.source) closed)
  pub no_byob_reader : (l : LockId) (closed : PromiseId) → lock_at l s ≢ Some (ByobReader (Some x.source) closed)
  pub calls : (c : Call) → all_spare x.source (record { 0 = most_streams }) (begin c s).done.caused ≡ true
  pub requests : All (λ r. r ≡ TeeRequest t) (source_at x.source s).requests

abbrev pub EachTeeOwnsItsSource : Type 0
EachTeeOwnsItsSource =
    (entries : List Entry) (t : TeeId) → let s : Slots = run entries empty in has_tee t s ≡ true → OwnsSource s t (tee_at t s)
