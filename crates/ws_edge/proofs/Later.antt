-- From one moment of an end to a later one: by each of its calls, and by one after the other.
use Rattle.std.proofs.Common.{◌≡◌, ◌+◌, ◌≤◌, List, [], ◌++◌, refl, sym, ap, ◌∙◌, subst, append-nil, append_assoc, arith}
use Rattle.ws_value.specs.declared.value.Message.{Message}
use Rattle.ws_port.specs.Ends.{Posted, Taken}
use Rattle.ws_edge.specs.Edge.{AtEdge, given, PostsFirst, IsLater}

pub later-same : (e : AtEdge) → IsLater e e [] []
later-same e = record {
  from_row = refl;
  to_row = refl;
  traced = refl;
  received = sym (append-nil e.from.received);
  gives = sym (append-nil (given e));
  posted = [];
  sent = sym (append-nil e.to.sent);
  from_looks = omega arith;
  to_looks = omega arith;
}

pub later-then : (a b c : AtEdge) (taken more taken2 more2 : List Message) → IsLater a b taken more → IsLater b c taken2 more2 → IsLater a c (taken ++ taken2) (more ++ more2)
later-then a b c taken more taken2 more2 h k = record {
  from_row = k.from_row ∙ h.from_row;
  to_row = k.to_row ∙ h.to_row;
  traced = k.traced ∙ h.traced;
  received = k.received ∙ ap (λ ms. ms ++ taken2) h.received ∙ append_assoc a.from.received taken taken2;
  gives = k.gives ∙ ap (λ ms. ms ++ more2) h.gives ∙ append_assoc (given a) more more2;
  posted = h.posted ++ k.posted;
  sent = k.sent ∙ ap (λ ms. ms ++ k.posted) h.sent ∙ append_assoc a.to.sent h.posted k.posted;
  from_looks = let f = h.from_looks in let g = k.from_looks in omega (arith, f, g);
  to_looks = let f = h.to_looks in let g = k.to_looks in omega (arith, f, g);
}

-- by `post`
pub later-posted : (a b : AtEdge) → PostsFirst a b → given b ≡ given a → b.to.row ≡ a.to.row → b.from ≡ a.from → b.traced ≡ a.traced → a.to.looks ≤ b.to.looks → IsLater a b [] []
later-posted a b p g r f t l = record {
  from_row = ap (λ (t : Taken). t.row) f;
  to_row = r;
  traced = t;
  received = ap (λ (t : Taken). t.received) f ∙ sym (append-nil a.from.received);
  gives = g ∙ sym (append-nil (given a));
  posted = p.posted;
  sent = p.sent;
  from_looks = let e : b.from.looks ≡ a.from.looks = ap (λ (t : Taken). t.looks) f in omega (arith, e);
  to_looks = l;
}

-- by what waits besides: a message of `push`, or the last error
pub later-given : (a b : AtEdge) (more : List Message) → b ≡ record a { waiting = a.waiting ++ more } → IsLater a b [] more
later-given a b more e = let P : AtEdge → Type 0 = λ b. IsLater a b [] more in subst P (sym e) (record {
  from_row = refl;
  to_row = refl;
  traced = refl;
  received = sym (append-nil a.from.received);
  gives = sym (append_assoc a.to.sent a.waiting more);
  posted = [];
  sent = sym (append-nil a.to.sent);
  from_looks = omega arith;
  to_looks = omega arith;
})

-- by `take`: what it answered was received, or nothing
pub later-taken : (a b : AtEdge) (taken : List Message) → b.to ≡ a.to → b.waiting ≡ a.waiting → b.traced ≡ a.traced → b.from.row ≡ a.from.row → b.from.looks ≡ a.from.looks + 1
    → b.from.received ≡ a.from.received ++ taken → IsLater a b taken []
later-taken a b taken t w k r l h = record {
  from_row = r;
  traced = k;
  to_row = ap (λ (p : Posted). p.row) t;
  received = h;
  gives = ap (λ (p : Posted). p.sent ++ b.waiting) t ∙ ap (λ ms. a.to.sent ++ ms) w ∙ sym (append-nil (given a));
  posted = [];
  sent = ap (λ (p : Posted). p.sent) t ∙ sym (append-nil a.to.sent);
  from_looks = omega (arith, l);
  to_looks = let e : b.to.looks ≡ a.to.looks = ap (λ (p : Posted). p.looks) t in omega (arith, e);
}
