-- What a stage is asked is heard at its link; and nowhere where there is no such stage.
use Rattle.std.proofs.Common.{◌≡◌, ◌≢◌, ◌≤◌, ◌<◌, ◌*◌, ℕ, zero, suc, nat_eq, Bool, true, false, if◌then◌else◌, List, [], ◌∷◌, ◌++◌, length, refl, sym, ap, ◌∙◌, arith}
use Rattle.ws_value.specs.declared.ids.HostId.{HostId}
use Rattle.ws_value.specs.declared.ids.StreamId.{StreamId}
use Rattle.ws_value.specs.declared.value.Value.{Value}
use Rattle.ws_flow.specs.Told.{Told}
use Rattle.ws_laws.proofs.Tables.{eq_numbers, unequal_numbers, is_same-refl}
use Rattle.ws_stages.specs.State.{State}
use Rattle.ws_steps.specs.declared.calls.Event.TheVariants.{Host}
use Rattle.ws_steps.specs.declared.calls.HostCall.TheVariants.{Transform, Flush}
use Rattle.ws_chain_laws.specs.Chain.{Target, ToSink, ToPort, source_of, dest_of, transform_of, last_ear}
use Rattle.ws_chain_laws.specs.Nodes.{only_at}
use Rattle.ws_link_laws.specs.Link.{Ear, OfTransform, heard_of, silence}
use Rattle.ws_node.specs.Moves.{NoneThere}
use Rattle.ws_node.specs.Shape.{Shape, count_in, hears_in}

pub unlike : (a b : ℕ) → (a ≡ b → ⊥) → nat_eq a b ≡ false
unlike a b n = by (nat_eq a b) refl where
  by : (x : Bool) → nat_eq a b ≡ x → nat_eq a b ≡ false
  by true e = absurd (n (eq_numbers a b e))
  by false e = e

pub alike : (n : ℕ) → nat_eq n n ≡ true
alike n = is_same-refl (record { 0 = n })

pub at-there : (m : ℕ) (t : Told Value) → only_at m t m ≡ t
at-there m t = let e : nat_eq m m ≡ true = alike m in rw e refl

pub at-elsewhere : (m k : ℕ) (t : Told Value) → k ≢ m → only_at m t k ≡ silence
at-elsewhere m k t other = let e : nat_eq k m ≡ false = unlike k m other in rw e refl

-- no transform stream of the chain has this readable half

abbrev pub IsNoHalf : ℕ → StreamId → Type 0
IsNoHalf n i = (k : ℕ) → suc k ≤ n → i ≡ source_of (suc k) → ⊥

the_half : (k : ℕ) (i : StreamId) → nat_eq (2 * suc k) i.0 ≡ true → i ≡ source_of (suc k)
the_half k i e = ap (λ (x : ℕ). let s : StreamId = record { 0 = x } in s) (sym (eq_numbers (2 * suc k) i.0 e))

module _ (shape : Shape) (k : ℕ) (id : HostId) (i : StreamId) (less : k ≤ count_in shape) (none : IsNoHalf (count_in shape) i) where
  abbrev n : ℕ
  n = count_in shape

  not_half : nat_eq k n ≡ false → nat_eq (2 * suc k) i.0 ≡ false
  not_half e = by (nat_eq (2 * suc k) i.0) refl where
    by : (b : Bool) → nat_eq (2 * suc k) i.0 ≡ b → nat_eq (2 * suc k) i.0 ≡ false
    by true f = absurd (none k (let g = unequal_numbers k n e in let h : k ≢ n = g in omega arith) (the_half k i f))
    by false f = f

  abbrev ear : Target → Bool → Ear
  ear t b = if b then last_ear shape.origin t (dest_of k) else OfTransform (transform_of k) (source_of (suc k))

  pub no-transform : (v : Value) → hears_in shape k (Host id (Transform i v)) ≡ silence
  no-transform v = by shape.target (nat_eq k n) refl where
    by : (t : Target) (b : Bool) → nat_eq k n ≡ b → heard_of (ear t b) (Host id (Transform i v)) ≡ silence
    by ToSink true e = refl
    by ToPort true e = refl
    by t false e = let f = not_half e in rw f refl

  pub no-flush : hears_in shape k (Host id (Flush i)) ≡ silence
  no-flush = by shape.target (nat_eq k n) refl where
    by : (t : Target) (b : Bool) → nat_eq k n ≡ b → heard_of (ear t b) (Host id (Flush i)) ≡ silence
    by ToSink true e = refl
    by ToPort true e = refl
    by t false e = let f = not_half e in rw f refl

-- the stage of this place

record Split (ws : List State) (k : ℕ) : Type 0 where
  before : List State
  after : List State
  w : State
  whole : ws ≡ before ++ w ∷ after
  place : length before ≡ k

split : (ws : List State) (k : ℕ) → k < length ws → Split ws k
split [] k l = absurd (omega arith)
split (w ∷ ws) zero l = record { before = []; after = ws; w = w; whole = refl; place = refl }
split (w ∷ ws) (suc k) l =
    let s = split ws k (omega arith) in
    record { before = w ∷ s.before; after = s.after; w = s.w; whole = ap (λ q. w ∷ q) s.whole; place = ap suc s.place }

pub none-half : (i : StreamId) (ws : List State) → NoneThere i ws → IsNoHalf (length ws) i
none-half i ws none k less e =
    let s = split ws k less in
    none s.before s.after s.w (record { whole = s.whole; place = e ∙ ap (λ (j : ℕ). source_of (suc j)) (sym s.place) })
