-- What each step of a node leaves of how far it reads ahead.
use Rattle.std.proofs.Common.{◌≡◌, ℕ, ◌+◌, ◌≤◌, Bool, true, false, if◌then◌else◌, List, [], ◌∷◌, ◌++◌, length, Option, Some, None, refl, sym, ap, ◌∙◌, length-append, arith}
use Rattle.std.specs.Prelude.{min}
use Rattle.std.proofs.lemmas.List.{map-append}
use Rattle.ws_value.specs.declared.fault.Fault.TheVariants.{TypeError}
use Rattle.ws_value.specs.declared.value.Message.{Message}
use Rattle.ws_value.specs.declared.value.Message.TheVariants.{Pull, Chunk, Close, Error}
use Rattle.ws_value.specs.declared.value.Plain.TheVariants.{Fault as FaultReason}
use Rattle.ws_edge.specs.Edge.{AtEdge}
use Rattle.ws_flow.specs.Told.{Mark, Open, Closed, Broken, Lost, Told, goes_on, then_told}
use Rattle.ws_steps.specs.PortHistory.{asks_in, chunk_in, chunks_in, is_asking}
use Rattle.ws_node_laws.specs.Asks.{is_pull, pulls_in}
use Rattle.ws_realm.specs.declared.realm.Why.{Why}
use Rattle.ws_node.specs.declared.node.Node.{Node}
use Rattle.ws_node.specs.Edges.{broken_after}
use Rattle.ws_node.specs.Messages.{as_fair, fairly, is_fair}
use Rattle.ws_node.specs.Near.{IsNear}
use Rattle.ws_node.specs.Node.{given_at, received_at}
use Rattle.ws_node.specs.Past.{IsUnused}
use Rattle.ws_node.proofs.Firsts.{chunks-append, pulls-append}

pub near-fewer : (p q : ℕ) (n : Node) → p ≤ q → IsNear q n → IsNear p n
near-fewer p q n less h =
    record {
      given = λ e. let k = h.given e in omega (arith, less, k);
      pulled = let k = h.pulled in omega (arith, less, k);
      unbroken = h.unbroken;
    }

then-count : (xs : List (List ℕ)) (m : Mark) (y : Told (List ℕ)) → length (goes_on xs m y).items ≤ length xs + length y.items
then-count xs Open y = let h = length-append xs y.items in omega (arith, h)
then-count xs Closed y = omega arith
then-count xs Broken y = omega arith
then-count xs Lost y = omega arith

-- nothing was read, and nothing posted or taken
pub near-unused : (n : Node) → IsUnused n.exit.below → IsNear 0 n
near-unused n u = by n.exit.below refl u
  where
    by : (o : Option AtEdge) → n.exit.below ≡ o → IsUnused o → IsNear 0 n
    by None e u = record { given = λ g. omega arith; pulled = omega arith; unbroken = λ g. rw e refl }
    by (Some x) e u = record { given = λ g. omega arith; pulled = omega arith; unbroken = λ g. rw (e, u.0) refl }

-- one step after another
pub near-then : (pieces : ℕ) (x y : Told (List ℕ)) (n : Node) → IsNear ((pieces + length x.items) + length y.items) n → IsNear (pieces + length (then_told x y).items) n
near-then pieces x y n h =
    let k = then-count x.items x.mark y in
    near-fewer (pieces + length (then_told x y).items) ((pieces + length x.items) + length y.items) n (omega (arith, k)) h

pub near-joined : (x y : Told (List ℕ)) (n : Node) → IsNear (length x.items + length y.items) n → IsNear (length (then_told x y).items) n
near-joined x y n h =
    let k = then-count x.items x.mark y in
    near-fewer (length (then_told x y).items) (length x.items + length y.items) n k h

-- nothing was read, given or taken
pub near-same : (a b : Node) (pieces : ℕ) → (b.core.stopped ≡ None → a.core.stopped ≡ None) → given_at b.exit.below ≡ given_at a.exit.below → received_at b.exit.below ≡ received_at a.exit.below
    → b.exit.broken ≡ a.exit.broken → b.entrance.ahead ≡ a.entrance.ahead → IsNear pieces a → IsNear (pieces + 0) b
near-same a b pieces going given received broken ahead h =
    record {
      given = λ e.
          let k = h.given (going e) in
          let g = ap (λ ms. length (chunks_in ms)) given in
          omega (arith, k, g, ahead);
      pulled = let k = h.pulled in let r = ap pulls_in received in omega (arith, k, r);
      unbroken = λ e. ap (λ ms. asks_in (fairly ms)) received ∙ (h.unbroken (sym broken ∙ e) ∙ sym (ap pulls_in received));
    }

-- where the realm has stopped, the edge may have got less
pub near-stopped : (a b : Node) (w : Why) (pieces : ℕ) → b.core.stopped ≡ Some w → received_at b.exit.below ≡ received_at a.exit.below → b.exit.broken ≡ a.exit.broken
    → IsNear pieces a → IsNear (pieces + 0) b
near-stopped a b w pieces stopped received broken h =
    record {
      given = λ e. absurd (let f : Some w ≡ None = sym stopped ∙ e in cc);
      pulled = let k = h.pulled in let r = ap pulls_in received in omega (arith, k, r);
      unbroken = λ e. ap (λ ms. asks_in (fairly ms)) received ∙ (h.unbroken (sym broken ∙ e) ∙ sym (ap pulls_in received));
    }

-- one more message was given
pub near-given : (a b : Node) (m : Message) (pieces : ℕ) → a.core.stopped ≡ None → given_at b.exit.below ≡ given_at a.exit.below ++ m ∷ [] → received_at b.exit.below ≡ received_at a.exit.below
    → b.exit.broken ≡ a.exit.broken → min a.entrance.ahead 1 ≤ length (chunk_in m) + min b.entrance.ahead 1 → IsNear pieces a → IsNear (pieces + 0) b
near-given a b m pieces going given received broken had h =
    record {
      given = λ e.
          let k = h.given going in
          let g = ap (λ ms. length (chunks_in ms)) given ∙ ap length (chunks-append (given_at a.exit.below) (m ∷ [])) in
          let l = length-append (chunks_in (given_at a.exit.below)) (chunks_in (m ∷ [])) in
          let o = length-append (chunk_in m) [] in
          omega (arith, k, g, l, o, had);
      pulled = let k = h.pulled in let r = ap pulls_in received in omega (arith, k, r);
      unbroken = λ e. ap (λ ms. asks_in (fairly ms)) received ∙ (h.unbroken (sym broken ∙ e) ∙ sym (ap pulls_in received));
    }

-- one more was taken

asks-append : (xs ys : List Message) → asks_in (xs ++ ys) ≡ asks_in xs + asks_in ys
asks-append [] ys = omega arith
asks-append (x ∷ xs) ys = let h = asks-append xs ys in omega (arith, h)

-- an error that came up is remembered, and no other message but a pull asks
record AsksOnce (m : Message) (broken : Bool) : Type 0 where
  before : broken ≡ false
  once : is_asking (as_fair m) ≡ is_pull m

asks-by : (t : Bool) (m : Message) (broken : Bool) → broken_after (if t then m else Error (FaultReason TypeError)) broken ≡ false
    → (broken ≡ false) × (is_asking (if t then m else Error (FaultReason TypeError)) ≡ is_pull m)
asks-by true Pull broken e = (e, refl)
asks-by true (Chunk v) broken e = (e, refl)
asks-by true Close broken e = (e, refl)
asks-by true (Error r) broken e = absurd (cc)
asks-by false m broken e = absurd (let f : true ≡ false = e in cc)

asks-once : (m : Message) (broken : Bool) → broken_after (as_fair m) broken ≡ false → AsksOnce m broken
asks-once m broken e = let h = asks-by (is_fair m) m broken e in record { before = h.0; once = h.1 }

pub near-taken : (a b : Node) (m : Message) (pieces : ℕ) → a.core.stopped ≡ None → given_at b.exit.below ≡ given_at a.exit.below → received_at b.exit.below ≡ received_at a.exit.below ++ m ∷ []
    → b.exit.broken ≡ broken_after (as_fair m) a.exit.broken → b.entrance.ahead ≡ a.entrance.ahead → IsNear pieces a → IsNear (pieces + 0) b
near-taken a b m pieces going given received broken ahead h =
    record {
      given = λ e.
          let k = h.given going in
          let g = ap (λ ms. length (chunks_in ms)) given in
          omega (arith, k, g, ahead);
      pulled = let k = h.pulled in let r = pulled in omega (arith, k, r);
      unbroken = λ e.
          let o = asks-once m a.exit.broken (sym broken ∙ e) in
          let was = h.unbroken o.before in
          let once = o.once in
          let x = ap asks_in (ap fairly received ∙ map-append as_fair (received_at a.exit.below) (m ∷ [])) in
          let y = asks-append (fairly (received_at a.exit.below)) (as_fair m ∷ []) in
          let r = pulled in
          omega (arith, was, once, x, y, r);
    }
  where
    pulled : pulls_in (received_at b.exit.below) ≡ pulls_in (received_at a.exit.below) + is_pull m
    pulled =
        let r = ap pulls_in received in
        let s = pulls-append (received_at a.exit.below) (m ∷ []) in
        omega (arith, r, s)

-- a piece was read, or none: all that was read before was given, for no more was asked than pulls came up
pub near-read : (a b : Node) (pieces more : ℕ) → a.core.stopped ≡ None → a.entrance.ahead ≡ 0 → a.exit.broken ≡ false → b.exit.below ≡ a.exit.below → b.exit.broken ≡ a.exit.broken
    → more ≤ min b.entrance.ahead 1 → length (chunks_in (given_at a.exit.below)) ≤ asks_in (fairly (received_at a.exit.below)) → IsNear pieces a → IsNear (pieces + more) b
near-read a b pieces more going had whole below broken few credit h =
    let given = h.given going in
    let asks = h.unbroken whole in
    let g = ap (λ (o : Option AtEdge). length (chunks_in (given_at o))) below in
    let r = ap (λ (o : Option AtEdge). pulls_in (received_at o)) below in
    record {
      given = λ e. omega (arith, given, had, g, few);
      pulled = omega (arith, given, had, asks, credit, few, r);
      unbroken = λ e. ap (λ (o : Option AtEdge). asks_in (fairly (received_at o))) below ∙ (asks ∙ sym r);
    }
