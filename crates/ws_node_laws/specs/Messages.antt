-- What a row tells, by its messages, and what a link whose end is that of a port hears and is brought.
use Rattle.std.specs.Prelude.{◌≡◌, ℕ, Bool, true, false, ◌&&◌, if◌then◌else◌, List, [], ◌∷◌, ◌++◌}
use Rattle.ws_value.specs.declared.ids.PortId.{PortId}
use Rattle.ws_value.specs.declared.value.Message.{Message}
use Rattle.ws_value.specs.declared.value.Message.TheVariants.{Pull, Chunk, Close, Error}
use Rattle.ws_value.specs.declared.value.Value.{Value}
use Rattle.ws_value.specs.declared.value.Value.TheVariants.{Plain, Bytes}
use Rattle.ws_steps.specs.declared.calls.Call.{Call}
use Rattle.ws_steps.specs.declared.calls.Call.TheVariants.{Deliver, Enqueue}
use Rattle.ws_steps.specs.declared.calls.Event.{Event}
use Rattle.ws_steps.specs.Histories.{is_same, taken_in_step}
use Rattle.ws_steps.specs.PortHistory.{is_same_port, posted_in, ends_last}
use Rattle.ws_steps.specs.Run.{Entry, Called, Worked, Heard, step}
use Rattle.ws_steps.specs.Slots.{Slots}
use Rattle.ws_flow.specs.Told.{Told, Open, Lost, told, then_told}
use Rattle.ws_flow.specs.Rows.{told_by}
use Rattle.ws_link_laws.specs.Link.{silence, heard_post}
use Rattle.ws_chain_laws.specs.Chain.{Origin, FromPort, ToPort, source_of, source_port, sink_port}
use Rattle.ws_chain_laws.specs.Runs.{brought_to, heard_from}
use Rattle.ws_node_laws.specs.Edges.{is_bytes}

-- what messages tell, as values
abbrev pub row_told : List Message → Told Value
row_told [] = silence
row_told (m ∷ ms) = then_told (heard_post m) (row_told ms)

-- the events that a host takes in a run
abbrev pub taken_events : List Entry → Slots → List Event
taken_events [] s = []
taken_events (x ∷ xs) s = taken_in_step s x ++ taken_events xs (step s x)

-- the messages that the calls of a run deliver to a port
abbrev pub message_by : PortId → Call → List Message
message_by c (Deliver d m) = if is_same_port c d then m ∷ [] else []
message_by c _ = []

abbrev pub delivered_to : PortId → List Entry → List Message
delivered_to c [] = []
delivered_to c (Called call ∷ xs) = message_by c call ++ delivered_to c xs
delivered_to c (Worked ∷ xs) = delivered_to c xs
delivered_to c (Heard ∷ xs) = delivered_to c xs

-- a node whose source is the end of a port enqueues nothing to that
abbrev pub IsFedByPort : Call → Type 0
IsFedByPort (Enqueue k v) = is_same (source_of 0) k ≡ false
IsFedByPort _ = Unit {0}

abbrev pub AreFedByPort : List Entry → Type 0
AreFedByPort [] = Unit {0}
AreFedByPort (Called c ∷ xs) = IsFedByPort c × AreFedByPort xs
AreFedByPort (Worked ∷ xs) = AreFedByPort xs
AreFedByPort (Heard ∷ xs) = AreFedByPort xs

abbrev pub EachChainTellsByPosts : Type 0
EachChainTellsByPosts =
    (origin : Origin) (n : ℕ) (xs : List Entry) (s : Slots) → heard_from origin ToPort n n xs s ≡ row_told (posted_in (sink_port origin) (taken_events xs s))

abbrev pub EachChainIsBroughtByMessages : Type 0
EachChainIsBroughtByMessages = (xs : List Entry) (s : Slots) → AreFedByPort xs → brought_to FromPort 0 xs s ≡ row_told (delivered_to source_port xs)

-- in bytes

abbrev pub chunks_of : List Value → List (List ℕ)
chunks_of [] = []
chunks_of (Bytes bytes ∷ vs) = bytes ∷ chunks_of vs
chunks_of (Plain v ∷ vs) = chunks_of vs

abbrev pub in_bytes : Told Value → Told (List ℕ)
in_bytes x = told (chunks_of x.items) x.mark

abbrev pub holds_bytes : Message → Bool
holds_bytes Pull = true
holds_bytes (Chunk v) = is_bytes v
holds_bytes Close = true
holds_bytes (Error r) = true

abbrev pub all_bytes : List Message → Bool
all_bytes [] = true
all_bytes (m ∷ ms) = holds_bytes m && all_bytes ms

-- behind an error all is lost
abbrev pub lost_behind : List Message → Told (List ℕ)
lost_behind [] = told [] Open
lost_behind (Pull ∷ ms) = lost_behind ms
lost_behind (Chunk v ∷ ms) = lost_behind ms
lost_behind (Close ∷ ms) = lost_behind ms
lost_behind (Error r ∷ ms) = told [] Lost

abbrev pub EachRowIsTold : Type 0
EachRowIsTold = (ms : List Message) → all_bytes ms ≡ true → ends_last ms ≡ true → told_by ms ≡ then_told (in_bytes (row_told ms)) (lost_behind ms)
