-- The places of a row, as numbers go round them, and which of them an end holds.
use Rattle.std.proofs.Common.{◌≡◌, ◌≢◌, ℕ, zero, suc, ◌+◌, ◌%◌, ◌<◌, false, true≢false, List, [], ◌∷◌, ◌++◌, length, sym, refl, ap, ◌∙◌, ⊎_elim, arith, lit<, mod-lt}
use mathlib.Core.Option.{Option as Slot, some, some-ne-none}
use lib.ListN.{get_elem?}
use Rattle.std.specs.Prelude.{Option, None, is_some, IsSome}
use Rattle.atomic_table.proofs.Lists.{one_turn}
use Rattle.ws_value.specs.declared.value.Message.{Message}
use Rattle.ws_port.specs.declared.rule.Outgoing.{Outgoing}
use Rattle.ws_port.specs.declared.rule.Incoming.{Incoming}
use Rattle.ws_port.specs.Rule.{Place, SenderHolds, ReceiverHolds, IsHeld, IsInOrder}

-- two numbers of one turn have places of their own
pub apart : (a b : ℕ) → a < b → b < a + 8 → a % 8 ≢ b % 8
apart a b lt near e = let x : a ≡ b = one_turn a b 8 (omega arith) near e in absurd (omega arith)

pub in_ring : (k n : ℕ) → n ≡ 8 → k % 8 < n
in_ring k n e = let h : k % 8 < 8 = mod-lt k (lit< tt) in omega (arith, h, e)

pub at_below : {A : Type 0} (l : List A) (k : ℕ) (a : A) → get_elem? l k ≡ some a → k < length l
at_below [] k a e = absurd (some-ne-none a (sym e))
at_below (x ∷ xs) zero a e = omega arith
at_below (x ∷ xs) (suc k) a e = let h = at_below xs k a e in omega (arith, h)

pub at_before : {A : Type 0} (l : List A) (a : A) (k : ℕ) (b : A) → k ≢ length l → get_elem? (l ++ a ∷ []) k ≡ some b → get_elem? l k ≡ some b
at_before [] a zero b n e = absurd (n refl)
at_before [] a (suc k) b n e = e
at_before (x ∷ xs) a zero b n e = e
at_before (x ∷ xs) a (suc k) b n e = at_before xs a k b (λ h. n (ap suc h)) e

pub at_middle : {A : Type 0} (l : List A) (a : A) (r : List A) → get_elem? (l ++ a ∷ r) (length l) ≡ some a
at_middle [] a r = refl
at_middle (x ∷ xs) a r = at_middle xs a r

pub none_held : (held : Option Message) → held ≡ None → ¬ (IsSome held)
none_held held e p = true≢false (sym p ∙ ap (λ (x : Option Message). is_some x) e)

-- where the sender holds no place, each that is held is the receiver's
pub idle_held : (o : Outgoing) (i : Incoming) (k : ℕ) → o.holds ≡ false → IsHeld o i k → ReceiverHolds i k
idle_held o i k idle h = ⊎_elim (λ (x : SenderHolds o k). absurd (true≢false (sym x.0 ∙ idle))) (λ (x : ReceiverHolds i k). x) h

-- where the receiver holds none, it is the sender's
pub empty_held : (o : Outgoing) (i : Incoming) (k : ℕ) → i.held ≡ None → IsHeld o i k → SenderHolds o k
empty_held o i k empty h = ⊎_elim (λ (x : SenderHolds o k). x) (λ (x : ReceiverHolds i k). absurd (none_held i.held empty x.0)) h

-- the places that the two ends come to are different, where there is a message and room
pub ends_apart : (sent received : List Message) (k : ℕ) → length received < length sent → length sent < length received + 8 → k ≡ length received % 8 → k ≢ length sent % 8
ends_apart sent received k more near here e = apart (length received) (length sent) more near (sym here ∙ e)

-- what the receiver holds isn't where the sender comes to
pub receiver_apart : (words : List ℕ) (homes : List (Slot Place)) (o : Outgoing) (i : Incoming) (k : ℕ) → IsInOrder words homes o i → length o.sent < length i.received + 8 → ReceiverHolds i k → k ≢ length o.sent % 8
receiver_apart words homes o i k l near h = let found = l.message h.0 in ends_apart o.sent i.received k (omega (arith, found, l.receiver_found)) near h.1

-- what the sender holds isn't where the receiver comes to
pub sender_apart : (words : List ℕ) (homes : List (Slot Place)) (o : Outgoing) (i : Incoming) (k : ℕ) → IsInOrder words homes o i → length i.received < length o.sent → SenderHolds o k → k ≢ length i.received % 8
sender_apart words homes o i k l more h e = let found = l.room h.0 in ends_apart o.sent i.received k more (omega (arith, found, l.sender_found)) e h.1
