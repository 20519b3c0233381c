-- The links of a chain, by their numbers.
use Rattle.std.proofs.Common.{◌≡◌, ℕ, zero, suc, ◌+◌, ◌≤◌, nat_eq, Bool, true, false, if◌then◌else◌, refl, sym, ap, subst, ◌∙◌, arith}
use Rattle.ws_value.specs.declared.ids.StreamId.{StreamId}
use Rattle.ws_steps.specs.declared.effects.Owner.{Owner}
use Rattle.ws_steps.specs.declared.effects.Owner.TheVariants.{Host, HalfOf, BranchOf, EndOf}
use Rattle.ws_steps.specs.Slots.{Slots, owner_at}
use Rattle.ws_link_laws.specs.Link.{Ear, OfSink, OfTransform, OfPort, ear_by}
use Rattle.ws_link_laws.specs.Sound.{IsHosts}
use Rattle.ws_wire_laws.specs.Wire.{Joint, IsJoint, Each}
use Rattle.ws_wire_laws.specs.Segments.{Next, after_origin, heard_by, joint, along, nothing_made}
use Rattle.ws_chain_laws.specs.Chain.{Origin, FromChunks, FromBytes, FromPort, Target, ToSink, ToPort, source_of, dest_of, transform_of, ports_before, sink_port, giver, last_ear, ear_of, joint_of, links_of, IsChain}
use Rattle.ws_chain_laws.specs.Laws.{EachChainIsByNumber}
use Rattle.ws_chain_laws.proofs.Lists.{rise}
use Rattle.ws_chain_laws.proofs.Numbers.{unlike, alike}

-- the numbers with which link k begins

abbrev at : Origin → ℕ → Next
at origin k = record { link = k; transform = k; port = ports_before origin }

first-at : (origin : Origin) → at origin 0 ≡ after_origin origin nothing_made
first-at FromChunks = refl
first-at FromBytes = refl
first-at FromPort = refl

-- the last link, and another

last-joint : (origin : Origin) (target : Target) (n : ℕ) → joint (at origin n) (giver origin n) (heard_by target (at origin n)) ≡ joint_of origin target n n
last-joint origin ToSink n = rw (alike n) refl
last-joint origin ToPort n = rw (alike n) refl

stage-joint : (origin : Origin) (target : Target) (n k : ℕ) → suc k ≤ n → joint (at origin k) (giver origin k) (OfTransform (transform_of k) (source_of (suc k))) ≡ joint_of origin target n k
stage-joint origin target n k l = let u : nat_eq k n ≡ false = unlike k n (λ e. omega (arith, e, l)) in rw u refl

module _ (origin : Origin) (target : Target) (P : Joint → Type 0) where
  -- those from link i on, of which there are m behind it
  from-list : (n i m : ℕ) → i + m ≡ n → Each P (along (giver origin i) m target (at origin i)) → (k : ℕ) → i ≤ k → k ≤ n → P (joint_of origin target n k)
  from-list n i zero e w k a b =
      let is : k ≡ n = omega (arith, e, a, b) in
      let from : i ≡ n = omega (arith, e) in
      subst (λ (q : ℕ). P (joint_of origin target n q)) (sym is)
      (subst P (last-joint origin target n) (subst (λ (q : ℕ). P (joint (at origin q) (giver origin q) (heard_by target (at origin q)))) from w.0))
  from-list n i (suc m) e w k a b =
      rise (λ (q : ℕ). P (joint_of origin target n q)) i k a (subst P (stage-joint origin target n i (omega (arith, e))) w.0)
      (λ above. from-list n (suc i) m (omega (arith, e)) w.1 k above b)

  to-list : (n i m : ℕ) → i + m ≡ n → ((k : ℕ) → i ≤ k → k ≤ n → P (joint_of origin target n k)) → Each P (along (giver origin i) m target (at origin i))
  to-list n i zero e w =
      let from : i ≡ n = omega (arith, e) in
      (subst (λ (q : ℕ). P (joint (at origin q) (giver origin q) (heard_by target (at origin q)))) (sym from) (subst P (sym (last-joint origin target n)) (w n (omega (arith, e)) (omega arith))), tt)
  to-list n i (suc m) e w =
      (subst P (sym (stage-joint origin target n i (omega (arith, e)))) (w i (omega arith) (omega (arith, e))), to-list n (suc i) m (omega (arith, e)) (λ k a b. w k (omega (arith, a)) b))

  -- all of them
  pub each-at : (n : ℕ) → Each P (links_of origin target n) → (k : ℕ) → k ≤ n → P (joint_of origin target n k)
  each-at n w k l = from-list n 0 n (omega arith) (subst (λ (q : Next). Each P (along (giver origin 0) n target q)) (sym (first-at origin)) w) k (omega arith) l

  pub each-of : (n : ℕ) → ((k : ℕ) → k ≤ n → P (joint_of origin target n k)) → Each P (links_of origin target n)
  each-of n w = subst (λ (q : Next). Each P (along (giver origin 0) n target q)) (first-at origin) (to-list n 0 n (omega arith) (λ k a b. w k b))

-- link k of a chain is one
pub link-at : (origin : Origin) (target : Target) (n : ℕ) (s : Slots) → IsChain origin target n s → (k : ℕ) → k ≤ n → IsJoint (joint_of origin target n k) s
link-at origin target n s c k l = each-at origin target (λ x. IsJoint x s) n c k l

-- and where each is one, it is a chain
pub chain-of : (origin : Origin) (target : Target) (n : ℕ) (s : Slots) → ((k : ℕ) → k ≤ n → IsJoint (joint_of origin target n k) s) → IsChain origin target n s
chain-of origin target n s w = each-of origin target (λ x. IsJoint x s) n w

pub each_chain_is_by_number : EachChainIsByNumber
each_chain_is_by_number origin target n s = record { each = link-at origin target n s; all = chain-of origin target n s }

-- by whose algorithms the stream performs into which link k goes

abbrev pub last_owner : Origin → Target → Owner
last_owner origin ToSink = Host
last_owner origin ToPort = EndOf (sink_port origin)

abbrev pub taker : Origin → Target → ℕ → ℕ → Owner
taker origin target n k = if nat_eq k n then last_owner origin target else HalfOf (transform_of k)

abbrev owner_by : Ear → Owner
owner_by (OfSink j) = Host
owner_by (OfTransform t r) = HalfOf t
owner_by (OfPort c) = EndOf c

heard-owner : (j : StreamId) (s : Slots) (o : Owner) → IsHosts s o → o ≡ owner_by (ear_by j s o)
heard-owner j s Host h = refl
heard-owner j s (HalfOf t) h = refl
heard-owner j s (BranchOf t half) h = absurd h
heard-owner j s (EndOf c) h = refl

ear-owner : (origin : Origin) (target : Target) (n k : ℕ) → owner_by (ear_of origin target n k) ≡ taker origin target n k
ear-owner origin target n k = by target (nat_eq k n)
  where
    by : (target : Target) (b : Bool) → owner_by (if b then last_ear origin target (dest_of k) else OfTransform (transform_of k) (source_of (suc k))) ≡ (if b then last_owner origin target else HalfOf (transform_of k))
    by ToSink true = refl
    by ToPort true = refl
    by target false = refl

pub takes-at : (origin : Origin) (target : Target) (n : ℕ) (s : Slots) → IsChain origin target n s → (k : ℕ) → k ≤ n → owner_at (dest_of k) s ≡ taker origin target n k
takes-at origin target n s c k l =
    let x = link-at origin target n s c k l in
    heard-owner (dest_of k) s (owner_at (dest_of k) s) x.link.sink_owner ∙ (ap owner_by x.hears ∙ ear-owner origin target n k)
