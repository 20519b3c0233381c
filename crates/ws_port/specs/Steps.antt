-- The steps of a row, and what each tells the seat that makes it. A view changes at a step on a word alone: the putting of a
-- message into a place that a seat holds, and the taking of one out of it, change only what the seat has.
--     the sender loads `taken`       FindsTaken: here it is decided whether the row is full
--     the sender stores `posted`     Posts: the post
--     the receiver loads `posted`    FindsPosted: here it is decided whether the row is empty
--     the receiver stores `taken`    Takes: the taking
--     a seat is split in two         sender_part, receiver_part
--     two seats are joined           both_parts, no_part
use Rattle.std.specs.Prelude.{◌≡◌, ℕ, Bool, true, false, List, [], ◌∷◌, ◌++◌, ◌+◌, ◌%◌, ◌^◌, ◌≤◌, ◌==◌, length, Option, Some, None, MatchBool}
use Rattle.atomic_table.specs.Table.{Me}
use Rattle.ws_value.specs.declared.value.Message.{Message}
use Rattle.ws_port.specs.declared.rule.Outgoing.{Outgoing}
use Rattle.ws_port.specs.declared.rule.Incoming.{Incoming}
use Rattle.ws_port.specs.declared.rule.View.{View}
use Rattle.ws_port.specs.Rule.{Place}

abbrev pub outgoing : List Message → ℕ → ℕ → Bool → Outgoing
outgoing sent seen looks holds = record { sent = sent; seen = seen; looks = looks; holds = holds }

abbrev pub incoming : List Message → ℕ → ℕ → Option Message → Incoming
incoming received seen looks held = record { received = received; seen = seen; looks = looks; held = held }

abbrev pub view : Bool → Bool → Outgoing → Incoming → View
view sends takes o i = record { sends = sends; takes = takes; outgoing = o; incoming = i }

-- nothing was sent
abbrev pub none_out : Outgoing
none_out = outgoing [] 0 0 false

-- nothing was received
abbrev pub none_in : Incoming
none_in = incoming [] 0 0 None

-- the one seat of a new row, which has both parts
abbrev pub opened : View
opened = view true true none_out none_in

abbrev pub sender_part : View → View
sender_part v = view true false v.outgoing none_in

abbrev pub receiver_part : View → View
receiver_part v = view false true none_out v.incoming

abbrev pub both_parts : View → View → View
both_parts v w = view true true v.outgoing w.incoming

-- a view that was spent
abbrev pub no_part : View
no_part = view false false none_out none_in

-- the sender looked, and found n taken
abbrev pub looked_out : View → ℕ → Bool → View
looked_out v n holds = view v.sends v.takes (outgoing v.outgoing.sent n (v.outgoing.looks + 1) holds) v.incoming

-- where the row is full nothing more happens; else the seat has the place of the next message, with what lies there
abbrev pub RoomIs : Bool → Me Place View → ℕ → Me Place View → Type 0
RoomIs full v n w = MatchBool full (w ≡ (looked_out v.0 n false, v.1)) ((y : Place) × (w ≡ (looked_out v.0 n true, (length v.0.outgoing.sent % 8, y) ∷ v.1)))

-- the row is full exactly where eight more were posted than the n that are taken
abbrev pub FindsTaken : Me Place View → ℕ → Me Place View → Type 0
FindsTaken v n w = (n ≤ length v.0.outgoing.sent) × (length v.0.outgoing.sent ≤ n + 8) × RoomIs (length v.0.outgoing.sent == n + 8) v n w

-- what lies in the place that the sender holds is posted
abbrev pub posted_from : View → List (ℕ × Place) → View
posted_from v ((_, Some m) ∷ _) = view v.sends v.takes (outgoing (v.outgoing.sent ++ m ∷ []) v.outgoing.seen v.outgoing.looks false) v.incoming
posted_from v _ = v

abbrev pub Posts : Me Place View → Me Place View → Type 0
Posts v w = (w.0 ≡ posted_from v.0 v.1) × (w.1 ≡ [])

-- the receiver looked, and found n posted
abbrev pub looked_in : View → ℕ → Option Message → View
looked_in v n held = view v.sends v.takes v.outgoing (incoming v.incoming.received n (v.incoming.looks + 1) held)

-- where the row is empty nothing more happens; else the seat has the place of the next message, with that message
abbrev pub MessageIs : Bool → Me Place View → ℕ → Me Place View → Type 0
MessageIs nothing v n w = MatchBool nothing (w ≡ (looked_in v.0 n None, v.1)) ((m : Message) × (w ≡ (looked_in v.0 n (Some m), (length v.0.incoming.received % 8, Some m) ∷ v.1)))

-- a seat with both parts learns of the whole row: n is how many were sent, at most eight more than were received, and what was
-- received is a first part of it
abbrev pub WholeIs : View → ℕ → Type 0
WholeIs v n = v.sends ≡ true → (n ≡ length v.outgoing.sent) × (n ≤ length v.incoming.received + 8) × ((rest : List Message) × (v.outgoing.sent ≡ v.incoming.received ++ rest))

-- the row is empty exactly where all the n that are posted were taken
abbrev pub FindsPosted : Me Place View → ℕ → Me Place View → Type 0
FindsPosted v n w = (length v.0.incoming.received ≤ n) × (n ≤ 2 ^ 62) × WholeIs v.0 n × MessageIs (n == length v.0.incoming.received) v n w

abbrev pub received_with : List Message → Option Message → List Message
received_with received None = received
received_with received (Some m) = received ++ m ∷ []

-- the message of the place that the receiver holds is received
abbrev pub taken_from : View → View
taken_from v = view v.sends v.takes v.outgoing (incoming (received_with v.incoming.received v.incoming.held) v.incoming.seen v.incoming.looks None)

abbrev pub Takes : Me Place View → Me Place View → Type 0
Takes v w = (w.0 ≡ taken_from v.0) × (w.1 ≡ [])
