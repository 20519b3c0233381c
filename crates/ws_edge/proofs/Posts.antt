-- The loop that posts what waits: how far it came.
use Rattle.std.proofs.Common.{◌≡◌, ◌+◌, ◌≤◌, Bool, true, false, nat_lt, List, [], ◌∷◌, ◌++◌, length, refl, sym, ap, ◌∙◌, append-nil, append_assoc, length-append, arith}
use Rattle.ws_value.specs.declared.value.Message.{Message}
use Rattle.ws_port.specs.Ends.{Posted}
use Rattle.ws_edge.specs.Edge.{AtEdge}

-- so far these were posted, and the rest waits
pub record HasPosted (old : AtEdge) (to : Posted) (waiting : List Message) (some : Bool) : Type 0 where
  pub posted : List Message
  pub sent : to.sent ≡ old.to.sent ++ posted
  pub rest : old.waiting ≡ posted ++ waiting
  pub row : to.row ≡ old.to.row
  pub looked : old.to.looks ≤ to.looks
  pub some_is : some ≡ nat_lt 0 (length posted)

pub posted_none : (old : AtEdge) → HasPosted old old.to old.waiting false
posted_none old = record { posted = []; sent = sym (append-nil old.to.sent); rest = refl; row = refl; looked = omega arith; some_is = refl }

pub posted_more : (old : AtEdge) (to next : Posted) (waiting rest : List Message) (m : Message) (some : Bool) → HasPosted old to waiting some
    → waiting ≡ m ∷ rest → next.sent ≡ to.sent ++ m ∷ [] → next.row ≡ to.row → next.looks ≡ to.looks + 1 → HasPosted old next rest true
posted_more old to next waiting rest m some h w s r l = record {
  posted = h.posted ++ m ∷ [];
  sent = s ∙ ap (λ ms. ms ++ m ∷ []) h.sent ∙ append_assoc old.to.sent h.posted (m ∷ []);
  rest = h.rest ∙ ap (λ ms. h.posted ++ ms) w ∙ sym (append_assoc h.posted (m ∷ []) rest);
  row = r ∙ h.row;
  looked = let f = h.looked in omega (arith, f, l);
  some_is = let n : length (h.posted ++ m ∷ []) ≡ length h.posted + 1 = length-append h.posted (m ∷ []) in grind (arith, n);
}
