-- The places that are filled one after another as a row is emptied.
use Rattle.std.proofs.Common.{◌≡◌, ℕ, zero, suc, ◌+◌, ◌-◌, ◌<◌, ◌≤◌, List, [], ◌∷◌, ◌++◌, length, set, sym, refl, ap, ◌∙◌, arith, append_assoc, append-nil, length-append}
use Rattle.std.specs.Prelude.{Option, Some}
use Rattle.ws_value.specs.declared.value.Message.{Message}
use Rattle.ws_port.specs.Rest.{messages_in, empty, filled_from}

filled_set : (xs : List Message) (n : ℕ) (m : Message) → set (filled_from xs (suc n)) (length xs) (Some m) ≡ filled_from (xs ++ m ∷ []) n
filled_set [] n m = refl
filled_set (x ∷ xs) n m = ap (λ l. Some x ∷ l) (filled_set xs n m)

messages_empty : (n : ℕ) → messages_in (empty n) ≡ []
messages_empty zero = refl
messages_empty (suc n) = messages_empty n

messages_filled : (xs : List Message) (n : ℕ) → messages_in (filled_from xs n) ≡ xs
messages_filled [] n = messages_empty n
messages_filled (x ∷ xs) n = ap (λ l. x ∷ l) (messages_filled xs n)

-- so far xs was taken out, and lies in the first places
pub record Emptied (sent got received : List Message) (places : List (Option Message)) (count : ℕ) : Type 0 where
  pub xs : List Message
  pub now : received ≡ got ++ xs
  pub are : places ≡ filled_from xs (8 - count)
  pub long : length xs ≡ count
  pub within : count ≤ 8
  pub few : 0 < count → length sent ≤ length got + 8

pub emptied_first : (sent got : List Message) → Emptied sent got got (empty 8) 0
emptied_first sent got = record { xs = []; now = sym (append-nil got); are = refl; long = refl; within = omega arith; few = λ h. absurd (omega (arith, h)) }

-- one message more
pub emptied_more : (sent got received received' : List Message) (places : List (Option Message)) (count : ℕ) (m : Message) → Emptied sent got received places count → received' ≡ received ++ m ∷ []
    → count < 8 → length sent ≤ length got + 8 → Emptied sent got received' (set places count (Some m)) (count + 1)
emptied_more sent got received received' places count m h next lt few =
    let left : 8 - count ≡ suc (8 - (count + 1)) = omega (arith, lt) in record {
      xs = h.xs ++ m ∷ [];
      now = next ∙ ap (λ (l : List Message). l ++ m ∷ []) h.now ∙ append_assoc got h.xs (m ∷ []);
      are = (λ i. set (h.are i) (sym h.long i) (Some m)) ∙ ap (λ (n : ℕ). set (filled_from h.xs n) (length h.xs) (Some m)) left ∙ filled_set h.xs (8 - (count + 1)) m;
      long = omega (arith, length-append h.xs (m ∷ []), h.long);
      within = omega (arith, lt);
      few = λ _. few;
    }

-- the bound, once a look was made
few_now : (sent got received : List Message) (places : List (Option Message)) (count : ℕ) → Emptied sent got received places count → length sent ≤ length received + 8 → length sent ≤ length got + 8
few_now sent got received places zero h bound = omega (arith, bound, h.long, ap (λ (l : List Message). length l) h.now, length-append got h.xs)
few_now sent got received places (suc n) h bound = h.few (omega arith)

-- there is a place for one more, by what a look told
pub place_left : (sent got received received' : List Message) (places : List (Option Message)) (count : ℕ) (m : Message) → Emptied sent got received places count → received' ≡ received ++ m ∷ []
    → length sent ≤ length received + 8 → length received' ≤ length sent → count < 8
place_left sent got received received' places count m h next bound within =
    let few = few_now sent got received places count h bound in
    omega (arith, within, few, ap (λ (l : List Message). length l) next, length-append received (m ∷ []), ap (λ (l : List Message). length l) h.now, length-append got h.xs, h.long)

pub emptied_next : (sent got received received' : List Message) (places : List (Option Message)) (count : ℕ) (m : Message) → Emptied sent got received places count → received' ≡ received ++ m ∷ []
    → length sent ≤ length received + 8 → length received' ≤ length sent → Emptied sent got received' (set places count (Some m)) (count + 1)
emptied_next sent got received received' places count m h next bound within =
    emptied_more sent got received received' places count m h next (place_left sent got received received' places count m h next bound within) (few_now sent got received places count h bound)

-- nothing more lies in the row
pub emptied_last : (sent got received : List Message) (places : List (Option Message)) (count : ℕ) → Emptied sent got received places count → sent ≡ received
    → (sent ≡ got ++ messages_in places) × (count ≡ length (messages_in places)) × (places ≡ filled_from (messages_in places) (8 - count))
emptied_last sent got received places count h all =
    let same : messages_in places ≡ h.xs = ap messages_in h.are ∙ messages_filled h.xs (8 - count) in
    (all ∙ h.now ∙ ap (λ (l : List Message). got ++ l) (sym same), sym (ap (λ (l : List Message). length l) same ∙ h.long), h.are ∙ ap (λ (l : List Message). filled_from l (8 - count)) (sym same))
