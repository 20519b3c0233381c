-- Sources and sinks in memory: what each call moves, and which calls fail.
use Rattle.std.specs.Prelude.{◌+◌, ◌-◌, ◌^◌, ◌==◌, ◌&&◌, ◌||◌, ℕ, min, Bool, true, List, ◌++◌, length, take, drop, slice_index, Result, Ok, Err, if◌then◌else◌, nat_lt}
use Rattle.std.specs.List.{list_any}
use Rattle.ws_io.specs.Feed.{Feed}
use Rattle.ws_io.specs.declared.outside.Failed.{Failed}

-- one more, up to the end of a `u64`
abbrev pub one_more : ℕ → ℕ
one_more count = min (count + 1) (2 ^ 64 - 1)

-- the number at an index; the last one holds on
abbrev pub held_at : List ℕ → ℕ → ℕ
held_at numbers index = slice_index numbers (min index (length numbers - 1))

-- whether the list has the number
abbrev pub has_number : List ℕ → ℕ → Bool
has_number numbers number = list_any (λ x. x == number) numbers

abbrev pub failed : Failed
failed = record {}

-- a source in memory: its bytes, the most that each call moves, the calls that fail, the calls made, and the faults
pub record MemFeed : Type 0 where
  pub feed : Feed
  pub most : List ℕ
  pub fails : List ℕ
  pub calls : ℕ
  pub count : ℕ

-- whether the next call fails
abbrev pub fails_next : MemFeed → Bool
fails_next s = has_number s.fails (one_more s.calls)

-- how many bytes the next call moves into so much room, where it doesn't fail
abbrev pub moves_next : MemFeed → ℕ → ℕ
moves_next s room = min (min (held_at s.most s.calls) room) (length s.feed.left)

-- the source after `n` bytes went into so much room
abbrev pub fed : Feed → ℕ → ℕ → Feed
fed f room n = record { taken = f.taken ++ take n f.left; left = drop n f.left; ended = if (n == 0) && nat_lt 0 room then true else f.ended }

abbrev pub answer_of : MemFeed → ℕ → Result ℕ Failed
answer_of s room = if fails_next s then Err failed else Ok (moves_next s room)

abbrev pub after_read : MemFeed → ℕ → MemFeed
after_read s room =
    if fails_next s
    then record s { calls = one_more s.calls; count = one_more s.count }
    else record s { feed = fed s.feed room (moves_next s room); calls = one_more s.calls }

-- what stands in the room then
abbrev pub room_after : MemFeed → List ℕ → List ℕ
room_after s room =
    if fails_next s then room else take (moves_next s (length room)) s.feed.left ++ drop (moves_next s (length room)) room

-- a sink in memory: what it got, the room left, whether it was finished, the most that each write moves, the writes and finishes that fail, the calls made, and the faults
pub record MemGain : Type 0 where
  pub got : List ℕ
  pub room : ℕ
  pub finished : Bool
  pub most : List ℕ
  pub fails : List ℕ
  pub finish_fails : List ℕ
  pub writes : ℕ
  pub finishes : ℕ
  pub count : ℕ

-- whether the next write fails: by the list, or since there's no room for a byte
abbrev pub write_fails : MemGain → ℕ → Bool
write_fails s len = has_number s.fails (one_more s.writes) || (nat_lt 0 len && (s.room == 0))

abbrev pub write_moves : MemGain → ℕ → ℕ
write_moves s len = min (min (held_at s.most s.writes) len) s.room

abbrev pub write_answer : MemGain → ℕ → Result ℕ Failed
write_answer s len = if write_fails s len then Err failed else Ok (write_moves s len)

abbrev pub after_write : MemGain → List ℕ → MemGain
after_write s piece =
    if write_fails s (length piece)
    then record s { writes = one_more s.writes; count = one_more s.count }
    else record s { got = s.got ++ take (write_moves s (length piece)) piece; room = s.room - write_moves s (length piece); writes = one_more s.writes }

abbrev pub finish_fails_next : MemGain → Bool
finish_fails_next s = has_number s.finish_fails (one_more s.finishes)

abbrev pub finish_answer : MemGain → Result (Unit {0}) Failed
finish_answer s = if finish_fails_next s then Err failed else Ok tt

abbrev pub after_finish : MemGain → MemGain
after_finish s =
    if finish_fails_next s
    then record s { finishes = one_more s.finishes; count = one_more s.count }
    else record s { finished = true; finishes = one_more s.finishes }

-- a sink that keeps no bytes and takes them as a list says
pub record SteadyGain : Type 0 where
  pub finished : Bool
  pub most : List ℕ
  pub writes : ℕ

-- a source in memory whose calls don't fail
pub record SteadyFeed : Type 0 where
  pub feed : Feed
  pub most : List ℕ
  pub calls : ℕ

abbrev pub steady_moves : SteadyFeed → ℕ → ℕ
steady_moves s room = min (min (held_at s.most s.calls) room) (length s.feed.left)

abbrev pub after_steady_read : SteadyFeed → ℕ → SteadyFeed
after_steady_read s room = record { feed = fed s.feed room (steady_moves s room); most = s.most; calls = one_more s.calls }
