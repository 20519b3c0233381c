-- How often stages were asked, and what is behind the host on the first link.
use Rattle.std.proofs.Common.{◌≡◌, ◌+◌, ◌≤◌, ◌<◌, ℕ, true, List, [], ◌∷◌, ◌++◌, refl, sym, ap, ◌∙◌, subst, arith}
use Rattle.std.specs.Prelude.{All}
use Rattle.std.proofs.lemmas.List.Elements.{All-nil, All-cons, All-head, All-tail}
use Rattle.ws_flow.specs.Parts.{Live, Over}
use Rattle.ws_stages.specs.State.{State, IsLive, is_live}
use Rattle.ws_chain_laws.specs.Chain.{behind_at}
use Rattle.ws_node.specs.declared.node.Node.{Node}
use Rattle.ws_node.specs.Node.{is_edge}
use Rattle.ws_node.specs.Past.{OneAtMost, HasOne, may_have}

-- states of which one was asked once more

pub all-more : (x y : ℕ) (ws : List State) → x ≤ y → All (λ w. w.pushes < x) ws → All (λ w. w.pushes < y) ws
all-more x y [] l a = All-nil (λ w. w.pushes < y)
all-more x y (w ∷ ws) l a =
    let h = All-head (λ w. w.pushes < x) w ws a in
    All-cons (λ w. w.pushes < y) w ws (omega arith) (all-more x y ws l (All-tail (λ w. w.pushes < x) w ws a))

pub one-more : (x y : ℕ) (before after : List State) (w v : State) → x < y → v.pushes ≤ w.pushes + 1 → All (λ w. w.pushes < x) (before ++ w ∷ after) → All (λ w. w.pushes < y) (before ++ v ∷ after)
one-more x y [] after w v l p a =
    let h = All-head (λ w. w.pushes < x) w after a in
    All-cons (λ w. w.pushes < y) v after (omega arith) (all-more x y after (omega arith) (All-tail (λ w. w.pushes < x) w after a))
one-more x y (u ∷ before) after w v l p a =
    let h = All-head (λ w. w.pushes < x) u (before ++ w ∷ after) a in
    All-cons (λ w. w.pushes < y) u (before ++ v ∷ after) (omega arith) (one-more x y before after w v l p (All-tail (λ w. w.pushes < x) u (before ++ w ∷ after) a))

pub live-true : (w : State) → IsLive w.work → is_live w.work ≡ true
live-true w live = by w.work live where
  by : (x : _) → IsLive x → is_live x ≡ true
  by (Live k) l = refl
  by (Over e) l = absurd l

-- what is behind the host on the first link while a stage that isn't the first is asked

pub one-behind : (u : State) (us vs : List State) (a b : Node) → HasOne a → a.core.stages.items ≡ u ∷ us → b.core.stages.items ≡ u ∷ vs → b.entrance.ahead ≡ a.entrance.ahead
    → b.entrance.input ≡ a.entrance.input → ((q : ℕ) → OneAtMost q (behind_at 0 a.core.realm.slots).items → OneAtMost q (behind_at 0 b.core.realm.slots).items) → HasOne b
one-behind u us vs a b one was is ahead input less fed h =
    let live : is_live u.work ≡ true = subst (λ (s : List State). may_have s b.exit.output b.exit.abort ≡ true) is h in
    subst (λ (q : ℕ). OneAtMost q (behind_at 0 b.core.realm.slots).items) (sym ahead)
    (less a.entrance.ahead (one (ap is_edge (sym input) ∙ fed) (subst (λ (s : List State). may_have s a.exit.output a.exit.abort ≡ true) (sym was) live)))

-- where the first stage is over, nothing is said of it
pub one-over : (v : State) (vs : List State) (b : Node) → b.core.stages.items ≡ v ∷ vs → (IsLive v.work → ⊥) → HasOne b
one-over v vs b is over fed h = absurd (over (by v.work (subst (λ (s : List State). may_have s b.exit.output b.exit.abort ≡ true) is h))) where
  by : (x : _) → is_live x ≡ true → IsLive x
  by (Live k) l = tt
  by (Over e) l = absurd (cc)
