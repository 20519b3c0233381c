-- What went by a port.
use Rattle.std.specs.Prelude.{ℕ, ◌+◌, Bool, true, false, ◌&&◌, ◌||◌, nat_eq, if◌then◌else◌, List, [], ◌∷◌, ◌++◌}
use Rattle.ws_value.specs.declared.ids.PortId.{PortId}
use Rattle.ws_value.specs.declared.value.Message.{Message}
use Rattle.ws_value.specs.declared.value.Message.TheVariants.{Pull, Chunk, Close, Error}
use Rattle.ws_value.specs.declared.value.Value.{Value}
use Rattle.ws_steps.specs.declared.calls.Call.{Call}
use Rattle.ws_steps.specs.declared.calls.Call.TheVariants.{Deliver}
use Rattle.ws_steps.specs.declared.calls.Event.{Event}
use Rattle.ws_steps.specs.declared.calls.Event.TheVariants.{Post}
use Rattle.ws_steps.specs.Queues.{is_empty}
use Rattle.ws_steps.specs.Slots.{Slots, is_live}
use Rattle.ws_steps.specs.Run.{Entry, Called, Worked, Heard, step}

abbrev pub is_same_port : PortId → PortId → Bool
is_same_port c d = nat_eq c.0 d.0

-- the message that an event tells of, where port c posted it
abbrev pub posted_by : PortId → Event → List Message
posted_by c (Post d m) = if is_same_port c d then m ∷ [] else []
posted_by c _ = []

-- the messages of such events, in their order
abbrev pub posted_in : PortId → List Event → List Message
posted_in c [] = []
posted_in c (e ∷ es) = posted_by c e ++ posted_in c es

-- the message of a call that delivers it to port c, where that is entangled then
abbrev pub taken_by : PortId → Call → Slots → List Message
taken_by c (Deliver d m) s = if is_same_port c d && is_live c s then m ∷ [] else []
taken_by c _ s = []

abbrev pub taken_in_step : PortId → Slots → Entry → List Message
taken_in_step c s (Called call) = taken_by c call s
taken_in_step c s Worked = []
taken_in_step c s Heard = []

-- the messages that were delivered to port c in a run while it was entangled, in their order
abbrev pub run_taken : PortId → List Entry → Slots → List Message
run_taken c [] s = []
run_taken c (x ∷ xs) s = taken_in_step c s x ++ run_taken c xs (step s x)

-- of messages: the values of the chunks, how many pulls and how many errors there are, and whether one is the last by its kind

abbrev pub chunk_in : Message → List Value
chunk_in Pull = []
chunk_in (Chunk v) = v ∷ []
chunk_in Close = []
chunk_in (Error r) = []

abbrev pub chunks_in : List Message → List Value
chunks_in [] = []
chunks_in (m ∷ ms) = chunk_in m ++ chunks_in ms

-- what lets a writable end post a chunk: a pull, or an error, after which nobody takes it
abbrev pub is_asking : Message → ℕ
is_asking Pull = 1
is_asking (Chunk v) = 0
is_asking Close = 0
is_asking (Error r) = 1

abbrev pub asks_in : List Message → ℕ
asks_in [] = 0
asks_in (m ∷ ms) = is_asking m + asks_in ms

abbrev pub is_end : Message → Bool
is_end Pull = false
is_end (Chunk v) = false
is_end Close = true
is_end (Error r) = true

abbrev pub has_end : List Message → Bool
has_end [] = false
has_end (m ∷ ms) = is_end m || has_end ms

-- whether nothing follows a close or an error
abbrev pub ends_last : List Message → Bool
ends_last [] = true
ends_last (m ∷ ms) = if is_end m then is_empty ms else ends_last ms

-- what a readable end posts, and what a writable one does

abbrev pub goes_up : Message → Bool
goes_up Pull = true
goes_up (Chunk v) = false
goes_up Close = false
goes_up (Error r) = true

abbrev pub goes_down : Message → Bool
goes_down Pull = false
goes_down (Chunk v) = true
goes_down Close = true
goes_down (Error r) = true
