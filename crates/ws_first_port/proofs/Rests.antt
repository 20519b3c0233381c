-- The places that are filled one after another as the queue is emptied, by the lemmas of rows over a table.
use Rattle.std.proofs.Common.{◌≡◌, ℕ, ◌+◌, ◌-◌, ◌<◌, ◌≤◌, true, List, [], ◌∷◌, ◌++◌, length, set, sym, refl, ap, ◌∙◌, subst, arith, append-nil, length-append}
use Rattle.std.specs.Prelude.{Option, Some}
use Rattle.ws_value.specs.declared.value.Message.{Message}
use Rattle.ws_port.specs.Rest.{messages_in, empty, filled_from}
use Rattle.ws_port.proofs.Rests.{Emptied, emptied_first, emptied_more, emptied_last}
use Rattle.ws_first_port.specs.declared.rule.Log.{Log}
use Rattle.ws_first_port.specs.Rule.{log}

pub record Emptying (sent got : List Message) (v : Log) (places : List (Option Message)) (count : ℕ) : Type 0 where
  pub sends : v.sends ≡ true
  pub takes : v.takes ≡ true
  pub same : v.sent ≡ sent
  pub few : length sent ≤ length got + 8
  pub so_far : Emptied sent got v.received places count

pub emptying_first : (sent got items : List Message) (v : Log) → v.sends ≡ true → v.takes ≡ true → v.sent ≡ sent → v.received ≡ got → sent ≡ got ++ items → length items ≤ 8
    → Emptying sent got v (empty 8) 0
emptying_first sent got items v a b s g e few = record {
  sends = a;
  takes = b;
  same = s;
  few = omega (arith, few, ap (λ (l : List Message). length l) e, length-append got items);
  so_far = subst (λ (r : List Message). Emptied sent got r (empty 8) 0) (sym g) (emptied_first sent got);
}

pub emptying_next : (sent got : List Message) (v w : Log) (places : List (Option Message)) (count : ℕ) (m : Message) → Emptying sent got v places count → count < 8
    → w ≡ log v.sends v.takes v.sent (v.received ++ m ∷ []) → Emptying sent got w (set places count (Some m)) (count + 1)
emptying_next sent got v w places count m h lt e = record {
  sends = ap (λ (u : Log). u.sends) e ∙ h.sends;
  takes = ap (λ (u : Log). u.takes) e ∙ h.takes;
  same = ap (λ (u : Log). u.sent) e ∙ h.same;
  few = h.few;
  so_far = emptied_more sent got v.received w.received places count m h.so_far (ap (λ (u : Log). u.received) e) lt h.few;
}

none_left : (items : List Message) → length items ≡ 0 → items ≡ []
none_left [] e = refl
none_left (x ∷ xs) e = absurd (omega arith)

-- nothing more lies in the queue
pub emptying_last : (sent got items : List Message) (v : Log) (places : List (Option Message)) (count : ℕ) → Emptying sent got v places count → v.sent ≡ v.received ++ items → length items ≡ 0
    → (sent ≡ got ++ messages_in places) × (count ≡ length (messages_in places)) × (places ≡ filled_from (messages_in places) (8 - count))
emptying_last sent got items v places count h e nothing =
    emptied_last sent got v.received places count h.so_far (sym h.same ∙ e ∙ ap (λ (l : List Message). v.received ++ l) (none_left items nothing) ∙ append-nil v.received)

-- all eight places are filled, so nothing more lies in the queue
pub emptying_all : (sent got items : List Message) (v : Log) (places : List (Option Message)) (count : ℕ) → Emptying sent got v places count → 8 ≤ count → v.sent ≡ v.received ++ items → length items ≡ 0
emptying_all sent got items v places count h all e =
    omega (arith, all, ap (λ (l : List Message). length l) (sym h.same ∙ e), length-append v.received items, ap (λ (l : List Message). length l) h.so_far.now, length-append got h.so_far.xs, h.so_far.long, h.few)
