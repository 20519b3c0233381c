-- Chunks are enqueued in order.
use Rattle.std.proofs.Common.{◌≡◌, ◌↔◌, ℕ, List, [], ◌∷◌, ◌++◌, Option, Some, Bool, true, false, refl, sym, ap, ◌∙◌, subst, length, reverse, arith}
use Rattle.std.specs.Option.{option_to_list}
use Rattle.std.proofs.lemmas.List.{reverse-append}
use Rattle.ws_steps.specs.declared.calls.Call.{Call}
use Rattle.ws_value.specs.declared.ids.StreamId.{StreamId}
use Rattle.ws_node.specs.declared.node.Node.{Node}
use Rattle.ws_node.specs.Moves.{Asks, Performed, Refused, IsDoneBy, Enqueues, enqueues, NoPiece, NotTaken, OneTaken}

-- what is enqueued changes nothing of how many stages stand before

asks-first : (c : Call) (a b : Node) → Asks c a b → b.core.first ≡ a.core.first
asks-first c a b (Performed realm slots young goes is) = ap (λ (n : Node). n.core.first) is
asks-first c a b (Refused why stops is) = ap (λ (n : Node). n.core.first) is

pub enqueues-first : (i : StreamId) (chunks : List (List ℕ)) (a b : Node) → Enqueues i chunks a b → b.core.first ≡ a.core.first
enqueues-first i chunks a b (NoPiece n) = refl
enqueues-first i chunks a b (NotTaken piece rest x y asks not_done) = asks-first (enqueues i piece) x y asks
enqueues-first i chunks a b (OneTaken piece rest x y z asks done more) = enqueues-first i rest z y more ∙ asks-first (enqueues i piece) x z asks

-- what is enqueued from a node on, and then from another on
abbrev pub EnqueuesFrom : StreamId → List (List ℕ) → Node → List (List ℕ) → Node → Type 0
EnqueuesFrom i all a rest x = (b : Node) → Enqueues i rest x b → Enqueues i all a b

pub from-first : (i : StreamId) (all rest : List (List ℕ)) (a : Node) → rest ≡ all → EnqueuesFrom i all a rest a
from-first i all rest a e = λ b h. subst (λ (q : List (List ℕ)). Enqueues i q a b) e h

pub from-next : (i : StreamId) (all left rest : List (List ℕ)) (piece : List ℕ) (a x y : Node) (t : Bool) → EnqueuesFrom i all a left x → left ≡ piece ∷ rest → Asks (enqueues i piece) x y
    → (t ≡ true ↔ IsDoneBy (enqueues i piece) x y) → t ≡ true → EnqueuesFrom i all a rest y
from-next i all left rest piece a x y t from e asks done so =
    λ b h. from b (subst (λ (q : List (List ℕ)). Enqueues i q x b) (sym e) (OneTaken piece rest x b y asks (done.0 so) h))

pub to-dropped : (i : StreamId) (all left rest : List (List ℕ)) (piece : List ℕ) (a x y : Node) (t : Bool) → EnqueuesFrom i all a left x → left ≡ piece ∷ rest → Asks (enqueues i piece) x y
    → (t ≡ true ↔ IsDoneBy (enqueues i piece) x y) → t ≡ false → Enqueues i all a y
to-dropped i all left rest piece a x y t from e asks done not_so =
    from y (subst (λ (q : List (List ℕ)). Enqueues i q x y) (sym e) (NotTaken piece rest x y asks (λ d. let so : t ≡ true = done.1 d in cc)))

none-left : (n : ℕ) (left : List (List ℕ)) → n ≡ length left → n ≡ 0 → left ≡ []
none-left n [] e f = refl
none-left n (x ∷ xs) e f = absurd (omega arith)

pub to-last : (i : StreamId) (all left : List (List ℕ)) (a x : Node) (n : ℕ) → EnqueuesFrom i all a left x → n ≡ length left → n ≡ 0 → Enqueues i all a x
to-last i all left a x n from e f = from x (subst (λ (q : List (List ℕ)). Enqueues i q x x) (sym (none-left n left e f)) (NoPiece x))

-- the last of a list is the first of the list in reverse
pub popped : (old new : List (List ℕ)) (r : Option (List ℕ)) (x : List ℕ) → old ≡ new ++ option_to_list r → r ≡ Some x → reverse old ≡ x ∷ reverse new
popped old new r x e is = ap reverse (e ∙ ap (λ q. new ++ option_to_list q) is) ∙ reverse-append new (x ∷ [])
