-- An edge between two nodes: a row down, of chunks, and a row up, of pulls. What may go by it, how much is under way, and how far the first node of a
-- pipeline reads ahead.
use Rattle.std.specs.Prelude.{◌≡◌, ℕ, ◌+◌, ◌*◌, ◌≤◌, Bool, true, false, List, ◌++◌, length, All}
use Rattle.std.specs.List.{concat}
use Rattle.ws_value.specs.declared.value.Message.{Message}
use Rattle.ws_value.specs.declared.value.Message.TheVariants.{Pull, Chunk, Close, Error}
use Rattle.ws_value.specs.declared.value.Value.{Value}
use Rattle.ws_value.specs.declared.value.Value.TheVariants.{Plain, Bytes}
use Rattle.ws_steps.specs.PortHistory.{chunks_in, asks_in, has_end, ends_last, goes_up}
use Rattle.ws_node_laws.specs.Asks.{pulls_in}

-- what was sent by a row, and what was received of it
pub record Row : Type 0 where
  pub sent : List Message
  pub received : List Message

pub record Edge : Type 0 where
  pub down : Row
  pub up : Row

abbrev pub is_bytes : Value → Bool
is_bytes (Plain v) = false
is_bytes (Bytes b) = true

-- down go chunks of bytes, a close and errors; up go pulls and errors
abbrev pub goes_down_edge : Message → Bool
goes_down_edge Pull = false
goes_down_edge (Chunk v) = is_bytes v
goes_down_edge Close = true
goes_down_edge (Error r) = true

-- what was received is a first part of what was sent, nothing follows a close or an error, and each message is of its kind
pub record IsRow (kind : Message → Bool) (r : Row) : Type 0 where
  pub rest : List Message
  pub front : r.sent ≡ r.received ++ rest
  pub last : ends_last r.sent ≡ true
  pub kinds : All (λ m. kind m ≡ true) r.sent

pub record IsLegal (e : Edge) : Type 0 where
  pub down : IsRow goes_down_edge e.down
  pub up : IsRow goes_up e.up

-- a chunk is sent for each pull and error that was received, and a pull for each chunk that was received and one more
pub record IsCredited (e : Edge) : Type 0 where
  pub chunks : length (chunks_in e.down.sent) ≤ asks_in e.up.received
  pub pulls : pulls_in e.up.sent ≤ length (chunks_in e.down.received) + 1

pub record HasFew (e : Edge) : Type 0 where
  pub one : has_end e.up.received ≡ false → length (chunks_in e.down.sent) ≤ length (chunks_in e.down.received) + 1
  pub two : length (chunks_in e.down.sent) ≤ length (chunks_in e.down.received) + 2
  pub pulled : pulls_in e.up.received ≤ length (chunks_in e.down.sent) + 1

abbrev pub EachEdgeHasFew : Type 0
EachEdgeHasFew = (e : Edge) → IsLegal e → IsCredited e → HasFew e

-- The first node of a pipeline: of the bytes that it read these were posted and these wait to be, and the others are ahead, which are those of one piece
-- at most. It received so many pulls and errors. It reads nothing more once an error came; so what was let through by that was the last
pub record IsAhead (read : ℕ) (posted waiting : List (List ℕ)) (ahead pulls errors : ℕ) : Type 0 where
  pub all : read ≡ length (concat posted) + (length (concat waiting) + ahead)
  pub short : All (λ chunk. length chunk ≤ 4096) waiting
  pub piece : ahead ≤ 4096
  pub credit : length posted + length waiting ≤ pulls + errors
  pub once : errors ≤ 1
  pub last : length posted + length waiting ≡ pulls + 1 → ahead ≡ 0

abbrev pub EachHeadReadsNear : Type 0
EachHeadReadsNear =
    (read : ℕ) (posted waiting : List (List ℕ)) (ahead pulls errors : ℕ) → IsAhead read posted waiting ahead pulls errors
    → read + 4096 * length posted ≤ length (concat posted) + 4096 * (pulls + 1)
