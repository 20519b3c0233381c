-- The links of segments, by their numbers.
use Rattle.std.proofs.Common.{◌≡◌, ◌≤◌, ◌<◌, ◌+◌, ◌*◌, ℕ, zero, suc, nat_eq, Bool, true, false, List, [], ◌∷◌, ◌++◌, refl, subst, arith}
use Rattle.ws_laws.proofs.Tables.{eq_numbers}
use Rattle.ws_link_laws.specs.Link.{Giver, OfSource, OfByteSource, OfHalf, OfEnd, Ear, OfSink, OfTransform, OfPort}
use Rattle.ws_wire_laws.specs.Wire.{Each, Joint, AreTwo, same_end, same_ear}
use Rattle.ws_wire_laws.specs.Laws.{AreAllTwo}
use Rattle.ws_wire_laws.specs.Segments.{Segment, Origin, FromChunks, FromBytes, FromPort, Target, ToSink, ToPort, Next, given_by, after_origin, heard_by, after_target, joint, along, after_stage, behind_stages, wiring, EachLinkIsItsOwn}

less : (a b : ℕ) → a < b → nat_eq a b ≡ false
less a b l = by (nat_eq a b) refl
  where
    by : (x : Bool) → nat_eq a b ≡ x → nat_eq a b ≡ false
    by false e = e
    by true e = let f = eq_numbers a b e in absurd (omega (arith, f, l))

-- below these numbers of links and ports, and from them on

abbrev GivesBelow : ℕ → Giver → Type 0
GivesBelow p OfSource = Unit {0}
GivesBelow p OfByteSource = Unit {0}
GivesBelow p (OfHalf t) = Unit {0}
GivesBelow p (OfEnd c) = c.0 < p

abbrev GivesAbove : ℕ → Giver → Type 0
GivesAbove p OfSource = Unit {0}
GivesAbove p OfByteSource = Unit {0}
GivesAbove p (OfHalf t) = Unit {0}
GivesAbove p (OfEnd c) = p ≤ c.0

abbrev HearsBelow : ℕ → ℕ → Ear → Type 0
HearsBelow k p (OfSink j) = j.0 < 2 * k + 1
HearsBelow k p (OfTransform t r) = r.0 < 2 * suc k
HearsBelow k p (OfPort c) = c.0 < p

abbrev HearsAbove : ℕ → ℕ → Ear → Type 0
HearsAbove k p (OfSink j) = 2 * k + 1 ≤ j.0
HearsAbove k p (OfTransform t r) = 2 * suc k ≤ r.0
HearsAbove k p (OfPort c) = p ≤ c.0

record Below (k p : ℕ) (x : Joint) : Type 0 where
  from : x.from.0 < 2 * k
  gives : GivesBelow p x.gives
  hears : HearsBelow k p x.hears

record Above (k p : ℕ) (x : Joint) : Type 0 where
  from : 2 * k ≤ x.from.0
  gives : GivesAbove p x.gives
  hears : HearsAbove k p x.hears

ends-two : (p : ℕ) (g h : Giver) → GivesBelow p g → GivesAbove p h → same_end g h ≡ false
ends-two p g OfSource a b = refl
ends-two p g OfByteSource a b = refl
ends-two p g (OfHalf t) a b = refl
ends-two p OfSource (OfEnd d) a b = refl
ends-two p OfByteSource (OfEnd d) a b = refl
ends-two p (OfHalf t) (OfEnd d) a b = refl
ends-two p (OfEnd c) (OfEnd d) a b = less c.0 d.0 (omega (arith, a, b))

ears-two : (k p : ℕ) (w v : Ear) → HearsBelow k p w → HearsAbove k p v → same_ear w v ≡ false
ears-two k p (OfSink i) (OfSink j) a b = less i.0 j.0 (omega (arith, a, b))
ears-two k p (OfTransform t i) (OfTransform u j) a b = less i.0 j.0 (omega (arith, a, b))
ears-two k p (OfPort c) (OfPort d) a b = less c.0 d.0 (omega (arith, a, b))
ears-two k p (OfSink i) (OfTransform u j) a b = refl
ears-two k p (OfSink i) (OfPort d) a b = refl
ears-two k p (OfTransform t i) (OfSink j) a b = refl
ears-two k p (OfTransform t i) (OfPort d) a b = refl
ears-two k p (OfPort c) (OfSink j) a b = refl
ears-two k p (OfPort c) (OfTransform u j) a b = refl

two : (k p : ℕ) (x y : Joint) → Below k p x → Above k p y → AreTwo x y
two k p x y a b = record {
  from = less x.from.0 y.from.0 (let f = a.from in let g = b.from in omega (arith, f, g));
  ends = ends-two p x.gives y.gives a.gives b.gives;
  hears = ears-two k p x.hears y.hears a.hears b.hears;
}

all-two : (k p : ℕ) (x : Joint) (ys : List Joint) → Below k p x → Each (Above k p) ys → Each (AreTwo x) ys
all-two k p x [] a b = tt
all-two k p x (y ∷ ys) a b = (two k p x y a b.0, all-two k p x ys a b.1)

gives-weaker : (p q : ℕ) (g : Giver) → p ≤ q → GivesAbove q g → GivesAbove p g
gives-weaker p q OfSource l a = tt
gives-weaker p q OfByteSource l a = tt
gives-weaker p q (OfHalf t) l a = tt
gives-weaker p q (OfEnd c) l a = omega (arith, l, a)

hears-weaker : (j k p q : ℕ) (w : Ear) → j ≤ k → p ≤ q → HearsAbove k q w → HearsAbove j p w
hears-weaker j k p q (OfSink i) l m a = omega (arith, l, a)
hears-weaker j k p q (OfTransform t i) l m a = omega (arith, l, a)
hears-weaker j k p q (OfPort c) l m a = omega (arith, m, a)

weaker : (j k p q : ℕ) (ys : List Joint) → j ≤ k → p ≤ q → Each (Above k q) ys → Each (Above j p) ys
weaker j k p q [] l m a = tt
weaker j k p q (y ∷ ys) l m a =
    let f = a.0.from in
    (record { from = omega (arith, l, f); gives = gives-weaker p q y.gives m a.0.gives; hears = hears-weaker j k p q y.hears l m a.0.hears }, weaker j k p q ys l m a.1)

-- one segment, before others

record Apart (k p : ℕ) (ys : List Joint) : Type 0 where
  two : AreAllTwo ys
  above : Each (Above k p) ys

hears-sink : (target : Target) (n : Next) → HearsBelow (after_target target n).link (after_target target n).port (heard_by target n) × HearsAbove n.link n.port (heard_by target n)
hears-sink ToSink n = (omega arith, omega arith)
hears-sink ToPort n = (omega arith, omega arith)

next-link : (target : Target) (n : Next) → (n.link < (after_target target n).link) × (n.port ≤ (after_target target n).port)
next-link ToSink n = (omega arith, omega arith)
next-link ToPort n = (omega arith, omega arith)

gives-later : (p q : ℕ) (g : Giver) → p ≤ q → GivesBelow p g → GivesBelow q g
gives-later p q OfSource l a = tt
gives-later p q OfByteSource l a = tt
gives-later p q (OfHalf t) l a = tt
gives-later p q (OfEnd c) l a = omega (arith, l, a)

along-apart : (g : Giver) (m : ℕ) (target : Target) (n : Next) (p : ℕ) (rest : List Joint) → p ≤ n.port → GivesBelow n.port g → GivesAbove p g
    → Apart (behind_stages m target n).link (behind_stages m target n).port rest → Apart n.link p (along g m target n ++ rest)
along-apart g zero target n p rest l b a r =
    let z : Next = after_target target n in
    let h = hears-sink target n in
    let e = next-link target n in
    let e0 = e.0 in
    let e1 = e.1 in
    record {
      two = (all-two z.link z.port (joint n g (heard_by target n)) rest (record { from = omega (arith, e0); gives = gives-later n.port z.port g e.1 b; hears = h.0 }) r.above, r.two);
      above = (record { from = omega arith; gives = a; hears = hears-weaker n.link n.link p n.port (heard_by target n) (omega arith) l h.1 }, weaker n.link z.link p z.port rest (omega (arith, e0)) (omega (arith, e1, l)) r.above);
    }
along-apart g (suc m) target n p rest l b a r =
    let z : Next = after_stage n in
    let more = along-apart (OfHalf (record { 0 = n.transform })) m target z n.port rest (omega arith) tt tt r in
    let x : Joint = joint n g (OfTransform (record { 0 = n.transform }) (record { 0 = 2 * suc n.link })) in
    let ys : List Joint = along (OfHalf (record { 0 = n.transform })) m target z ++ rest in
    record {
      two = (all-two z.link n.port x ys (record { from = omega arith; gives = b; hears = omega arith }) more.above, more.two);
      above = (record { from = omega arith; gives = a; hears = omega arith }, weaker n.link z.link p n.port ys (omega arith) l more.above);
    }

starts : (origin : Origin) (n : Next) → (GivesBelow (after_origin origin n).port (given_by origin n.port)) × (GivesAbove n.port (given_by origin n.port)) × (n.port ≤ (after_origin origin n).port)
starts FromChunks n = (tt, tt, omega arith)
starts FromBytes n = (tt, tt, omega arith)
starts FromPort n = (omega arith, omega arith, omega arith)

same-link : (origin : Origin) (n : Next) → (after_origin origin n).link ≡ n.link
same-link FromChunks n = refl
same-link FromBytes n = refl
same-link FromPort n = refl

wiring-apart : (xs : List Segment) (n : Next) → Apart n.link n.port (wiring xs n)
wiring-apart [] n = record { two = tt; above = tt }
wiring-apart (x ∷ xs) n =
    let z : Next = after_origin x.origin n in
    let s = starts x.origin n in
    let a = along-apart (given_by x.origin n.port) x.count x.target z n.port (wiring xs (behind_stages x.count x.target z)) s.2 s.0 s.1 (wiring-apart xs (behind_stages x.count x.target z)) in
    subst (λ (k : ℕ). Apart k n.port (wiring (x ∷ xs) n)) (same-link x.origin n) a

pub each_link_is_its_own : EachLinkIsItsOwn
each_link_is_its_own xs = (wiring-apart xs (record { link = 0; transform = 0; port = 0 })).two
