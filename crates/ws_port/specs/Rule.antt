-- The rule of a row: what holds of its words and places beside what its two ends know, at every moment, whatever they do.
use Rattle.std.specs.Prelude.{◌≡◌, ℕ, Bool, true, List, [], ◌∷◌, ◌++◌, ◌+◌, ◌%◌, ◌^◌, ◌<◌, ◌≤◌, ◌⊎◌, length, Option, Some, IsSome, IfSome}
use mathlib.Core.Option.{Option as Slot, some, none}
use lib.ListN.{get_elem?}
use Rattle.atomic_table.specs.Table.{State}
use Rattle.ws_value.specs.declared.value.Message.{Message}
use Rattle.ws_port.specs.declared.rule.Outgoing.{Outgoing}
use Rattle.ws_port.specs.declared.rule.Incoming.{Incoming}
use Rattle.ws_port.specs.declared.rule.View.{View}

-- what lies in a place: a message, or none
abbrev pub Place : Type 0
Place = Option Message

-- the sender holds the place of the message that comes next, whose number is how many it sent
abbrev pub SenderHolds : Outgoing → ℕ → Type 0
SenderHolds o place = (o.holds ≡ true) × (place ≡ length o.sent % 8)

-- the receiver holds the place of the message that it takes next, whose number is how many it received
abbrev pub ReceiverHolds : Incoming → ℕ → Type 0
ReceiverHolds i place = IsSome i.held × (place ≡ length i.received % 8)

abbrev pub IsHeld : Outgoing → Incoming → ℕ → Type 0
IsHeld o i place = SenderHolds o place ⊎ ReceiverHolds i place

-- The words and the places, beside what the sender and the receiver know. A place is at home, with what lies in it, or away
pub record IsInOrder (words : List ℕ) (homes : List (Slot Place)) (o : Outgoing) (i : Incoming) : Type 0 where
  -- the word `posted` is how many were sent, and the word `taken` how many were received
  pub words_are : words ≡ length o.sent ∷ length i.received ∷ []
  -- what the sender last found taken ≤ taken ≤ what the receiver last found posted ≤ posted
  -- ≤ what the sender last found taken + 8
  pub sender_found : o.seen ≤ length i.received
  pub receiver_has : length i.received ≤ i.seen
  pub receiver_found : i.seen ≤ length o.sent
  pub sender_has : length o.sent ≤ o.seen + 8
  -- the sender holds a place only where it found room for a message, the receiver only where it found a message
  pub room : o.holds ≡ true → length o.sent < o.seen + 8
  pub message : IsSome i.held → length i.received < i.seen
  -- the words don't overflow
  pub few : length o.sent ≤ 2 ^ 62
  -- what was received is a first part of what was sent, and what the receiver holds is the next of it
  pub rest : List Message
  pub prefix : o.sent ≡ i.received ++ rest
  pub next : IfSome i.held (λ m. get_elem? o.sent (length i.received) ≡ some m)
  -- each message that was sent and not received stands in its place, unless the receiver holds that
  pub stands : (k : ℕ) (m : Message) → length i.received ≤ k → get_elem? o.sent k ≡ some m → ¬ ReceiverHolds i (k % 8) → get_elem? homes (k % 8) ≡ some (some (Some m))
  -- a place is away from home exactly where an end holds it
  pub away : (place : ℕ) → IsHeld o i place → get_elem? homes place ≡ some none
  pub at_home : (place : ℕ) → place < 8 → ¬ IsHeld o i place → (y : Place) × (get_elem? homes place ≡ some (some y))

-- A seat with the sender's part is the sender's, and its view is what the sender knows; the same for the receiver. A view that was
-- spent has neither part
abbrev pub Fits : ℕ → ℕ → Outgoing → Incoming → ℕ → View → Type 0
Fits sender receiver o i seat v = (v.sends ≡ true → (seat ≡ sender) × (v.outgoing ≡ o)) × (v.takes ≡ true → (seat ≡ receiver) × (v.incoming ≡ i))

abbrev pub HasPart : (View → Bool) → List View → ℕ → Type 0
HasPart part views seat = (v : View) × (get_elem? views seat ≡ some v) × (part v ≡ true)

-- The rule. Each part has one seat: the same one before a new row's seat is split, when nothing was received, and after the two
-- are joined
pub record Kept (s : State Place View) : Type 0 where
  pub sender : ℕ
  pub receiver : ℕ
  pub out_known : Outgoing
  pub in_known : Incoming
  pub in_order : IsInOrder s.words s.homes out_known in_known
  pub has_sender : HasPart (λ v. v.sends) s.views sender
  pub has_receiver : HasPart (λ v. v.takes) s.views receiver
  pub fits : (seat : ℕ) (v : View) → get_elem? s.views seat ≡ some v → Fits sender receiver out_known in_known seat v
