-- Room for one chunk, where the destination's mark is 1 and it counts chunks.
use Rattle.std.specs.Prelude.{ℕ, ◌+◌, ◌≤◌, ◌≡◌, true, List, [], ◌∷◌, length, Option}
use Rattle.ws_value.specs.declared.ids.PipeId.{PipeId}
use Rattle.ws_value.specs.declared.ids.SignalId.{SignalId}
use Rattle.ws_value.specs.declared.ids.StreamId.{StreamId}
use Rattle.ws_steps.specs.declared.calls.Call.TheVariants.{Pipe}
use Rattle.ws_steps.specs.declared.pipes.Prevent.{Prevent}
use Rattle.ws_steps.specs.declared.queue.Queued.{Queued}
use Rattle.ws_steps.specs.declared.readable.SizeBy.TheVariants.{Count}
use Rattle.ws_steps.specs.declared.writable.WriteRecord.{WriteRecord}
use Rattle.ws_steps.specs.declared.writable.WriteRecord.TheVariants.{Chunk, InFlight, CloseMark}
use Rattle.ws_steps.specs.Queues.{total_of}
use Rattle.ws_steps.specs.Run.{Entry, run, after_call}
use Rattle.ws_steps.specs.Slots.{Slots, source_at, writable_at, pipe_at}
use Rattle.ws_pipe_laws.specs.pipes.PipeReads.{held_values, in_requests, one_if}
use Rattle.ws_link_laws.specs.Laws.{all_leave}
use Rattle.ws_link_laws.specs.Sound.{IsLink, IsFree, IsThere}

-- each chunk in a queue has a size of 1 at least, also one in flight
abbrev pub Full : WriteRecord → ℕ → Type 0
Full (Chunk v) n = 1 ≤ n
Full InFlight n = 1 ≤ n
Full CloseMark n = Unit {0}

abbrev pub Sized : List (Queued WriteRecord) → Type 0
Sized [] = Unit {0}
Sized (q ∷ qs) = Full q.value q.size × Sized qs

-- the destination's mark is 1, it counts chunks, and the chunks in its queue and the read of the pipe, where there is one, are at most one
pub record HasRoom (j : StreamId) (p : PipeId) (s : Slots) : Type 0 where
  pub mark : (writable_at j s).hwm ≡ 1
  pub size : (writable_at j s).size_by ≡ Count
  pub sized : Sized (writable_at j s).queue
  pub room : total_of (writable_at j s).queue + one_if (pipe_at p s).reading ≤ 1

-- how many chunks stand in a queue, with one in flight
abbrev pub place_of : WriteRecord → ℕ
place_of (Chunk v) = 1
place_of InFlight = 1
place_of CloseMark = 0

abbrev pub places_of : List (Queued WriteRecord) → ℕ
places_of [] = 0
places_of (q ∷ qs) = place_of q.value + places_of qs

-- the chunks in the destination's queue, with one in flight, the chunk that the pipe holds and its read that waits at the source
abbrev pub taken_places : StreamId → StreamId → PipeId → Slots → ℕ
taken_places i j p s = places_of (writable_at j s).queue + length (held_values (pipe_at p s).held) + in_requests p (source_at i s).requests

pub record KeepsRoom (i j : StreamId) (p : PipeId) (s : Slots) : Type 0 where
  pub room : HasRoom j p s
  pub one : taken_places i j p s ≤ 1

abbrev pub EachLinkHasRoom : Type 0
EachLinkHasRoom =
    (i j : StreamId) (p : PipeId) (s : Slots) (entries : List Entry) → IsLink i j p s → HasRoom j p s → all_leave i j entries ≡ true → KeepsRoom i j p (run entries s)

abbrev pub EachLinkBeginsWithRoom : Type 0
EachLinkBeginsWithRoom =
    (i j : StreamId) (prevent : Prevent) (signal : Option SignalId) (s : Slots) → IsFree i j s → IsThere signal s → (writable_at j s).hwm ≡ 1 → (writable_at j s).size_by ≡ Count
    → KeepsRoom i j (record { 0 = length s.pipes }) (after_call (Pipe i j prevent signal) s)
