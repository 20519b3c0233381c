-- What the host hears was behind it, and what lies on a link then.
use Rattle.std.proofs.Common.{◌≡◌, ◌≤◌, ℕ, List, [], ◌∷◌, Option, None, refl, sym, subst}
use Rattle.ws_value.specs.declared.value.Value.{Value}
use Rattle.ws_value.specs.declared.value.Value.TheVariants.{Plain as PlainValue, Bytes}
use Rattle.ws_node.specs.Shape.{Shape, count_in, hears_in}
use Rattle.ws_flow.specs.Told.{Open, Told, told, then_told, IsShortOf}
use Rattle.ws_flow.proofs.Told.{then_assoc, short_same, short_right}
use Rattle.ws_steps.specs.declared.calls.Event.{Event}
use Rattle.ws_steps.specs.Run.{Entry}
use Rattle.ws_chain_laws.specs.Chain.{behind_at}
use Rattle.ws_link_laws.specs.Link.{silence}
use Rattle.ws_realm.specs.Seen.{SeenRealm}
use Rattle.ws_realm.specs.declared.realm.Why.{Why}
use Rattle.ws_node.specs.declared.node.Node.{Node}
use Rattle.ws_node.specs.Moves.{with_realm}
use Rattle.ws_node.specs.Node.{in_bytes, lying_by, nothing_yet}
use Rattle.ws_node.specs.Past.{IsOne, OneAtMost}
use Rattle.ws_node.proofs.Bytes.{in_bytes-then, in_bytes-short, one-short}
use Rattle.ws_node.proofs.Since.{AfterEvent}

-- what lies before the place that link k leads to, where this comes behind what lies on it
abbrev pub lies_to : Told (List ℕ) → Node → ℕ → Told (List ℕ)
lies_to t n k = lying_by n.core.stopped (then_told (in_bytes (behind_at k n.core.realm.slots)) t)

heard_short : (h x y : Told Value) (t : Told (List ℕ)) → IsShortOf (then_told h x) y → IsShortOf (then_told (in_bytes h) (then_told (in_bytes x) t)) (then_told (in_bytes y) t)
heard_short h x y t s =
    let both : IsShortOf (then_told (in_bytes h) (in_bytes x)) (in_bytes y) = short_same _ _ _ (sym (in_bytes-then h x)) (in_bytes-short _ _ s) in
    short_same _ _ _ (sym (then_assoc (in_bytes h) (in_bytes x) t)) (short_right (then_told (in_bytes h) (in_bytes x)) (in_bytes y) t both)

-- where nothing came, one chunk at most is one chunk at most
pub one-quiet : (n : ℕ) (t x y : Told Value) → t ≡ silence → IsShortOf (then_told t x) y → OneAtMost n y.items → OneAtMost n x.items
one-quiet n t x y e h o = one-short n x y (subst (λ q. IsShortOf (then_told q x) y) e h) o

-- where one is heard, nothing is left, and it is that one
pub one-heard : (n : ℕ) (v : Value) (x y : Told Value) → IsShortOf (then_told (told (v ∷ []) Open) x) y → OneAtMost n y.items → (x.items ≡ []) × (IsOne n v [])
one-heard n v x y h o = by v (one-short n (then_told (told (v ∷ []) Open) x) y h o) where
  by : (v : Value) → IsOne n v x.items → (x.items ≡ []) × (IsOne n v [])
  by (Bytes piece) (e, h, k) = (e, (refl, h, k))
  by (PlainValue w) o = absurd o

module _ (shape : Shape) (past : List Entry) (a : Node) (realm : SeenRealm) (e : Event) (after : AfterEvent shape past a realm e) (goes : a.core.stopped ≡ None) where
  -- what is heard lay first
  pub heard-lies : (t : Told (List ℕ)) (k : ℕ) → k ≤ count_in shape
      → IsShortOf (then_told (in_bytes (hears_in shape k e)) (lies_to t (with_realm realm a) k)) (lies_to t a k)
  heard-lies t k less =
      subst (λ (why : Option Why). IsShortOf (then_told (in_bytes (hears_in shape k e)) (lying_by why (then_told (in_bytes (behind_at k realm.slots)) t)))
      (lying_by why (then_told (in_bytes (behind_at k a.core.realm.slots)) t))) (sym goes)
      (heard_short (hears_in shape k e) (behind_at k realm.slots) (behind_at k a.core.realm.slots) t (after.short k less))

  -- so what lies there is short of that where nothing of bytes is heard
  pub unheard-lies : (t : Told (List ℕ)) (k : ℕ) → k ≤ count_in shape → in_bytes (hears_in shape k e) ≡ nothing_yet
      → IsShortOf (lies_to t (with_realm realm a) k) (lies_to t a k)
  unheard-lies t k less quiet =
      subst (λ q. IsShortOf (then_told q (lies_to t (with_realm realm a) k)) (lies_to t a k)) quiet (heard-lies t k less)
