-- How long a chunk can be in a node: by what each kind of stage is shown to be.
use Rattle.std.proofs.Common.{◌≡◌, ◌⊎◌, inl, inr, ℕ, zero, suc, ◌+◌, ◌*◌, ◌<◌, ◌≤◌, Bool, true, false, cond, List, [], ◌∷◌, ◌++◌, length, refl, sym, ap, subst, arith}
use Rattle.std.specs.List.{All, list_all, filter}
use Rattle.std.proofs.lemmas.Bool.{and_parts, cases_lt}
use Rattle.std.proofs.lemmas.Nat.{mul-le}
use Rattle.std.proofs.Math.Nat.{le_refl}
use Rattle.std.proofs.lemmas.List.Elements.{All-nil, All-cons, All-head, All-tail}
use Rattle.std.proofs.lemmas.List.Sums.{length-filter}
use Rattle.ws_flow.specs.declared.plan.Stage.{Stage}
use Rattle.ws_flow.specs.declared.plan.Stage.TheVariants.{Lines, Fixed, Hex, Unhex, Mask, Number, Frame, Unframe}
use Rattle.ws_flow.specs.Machines.{Kept, Machine, through, all_through}
use Rattle.ws_flow.specs.Parts.{AtWork, Live, Over, Part, nothing_told, fresh, LiveAsked, Goes}
use Rattle.ws_flow.specs.Plans.{is_hex}
use Rattle.ws_flow.specs.Stages.{is_in_range, machine, machines}
use Rattle.ws_flow.specs.Steps.{parts_at}
use Rattle.ws_flow.specs.Told.{Mark, Open, Closed, Broken, Lost, Told, goes_on, then_told, IsBefore}
use Rattle.ws_flow.proofs.Chain.{flows_before}
use Rattle.ws_flow.proofs.EachKind.{kind}
use Rattle.ws_flow.proofs.Kind.{Grows}
use Rattle.ws_flow.proofs.Short.{EachShort}
use Rattle.ws_flow.proofs.Through.{through_before}
use Rattle.ws_flow.proofs.Told.{before_of_short, before_refl, before_trans, before_front, before_then}
use Rattle.ws_joined_laws.specs.Condition.{AreInRange}
use Rattle.ws_joined_laws.specs.Lengths.{AreBounds, LiesBelow, AreBelow, EachChunkIsBelow, EachHeldChunkIsBelow, EachFedChunkIsBelow, EachMayBePushed}
use Rattle.ws_joined_laws.proofs.Condition.{front-all, front-range}

-- The first half says of any bounds what `ws_flow` has of 4,096 and 2^25, where its lemmas are private

-- the most bytes of a chunk behind these stages, where those before them have at most n
longest : ℕ → List Stage → ℕ
longest n [] = n
longest n (s ∷ ss) = longest ((kind s).longest n) ss

all_short_by : (n : ℕ) (ss : List Stage) (x : Told (List ℕ)) → list_all is_in_range ss ≡ true → EachShort n x.items → EachShort (longest n ss) (all_through (machines ss) x).items
unfolding longest
all_short_by n [] x r h = h
all_short_by n (s ∷ ss) x r h =
    let w = and_parts (is_in_range s) (list_all is_in_range ss) r in
    all_short_by ((kind s).longest n) ss (through (machine s) (machine s).start x) w.1 ((kind s).short n x w.0 h)

-- `hex` doubles, at most four times
twice_if : Bool → ℕ → ℕ
twice_if true n = 2 * n
twice_if false n = n

doubled : List Stage → ℕ
doubled [] = 1
doubled (s ∷ ss) = twice_if (is_hex s) (doubled ss)

two : ℕ → ℕ
two zero = 1
two (suc k) = 2 * two k

two_some : (k : ℕ) → 1 ≤ two k
unfolding two
two_some zero = omega arith
two_some (suc k) = let h = two_some k in omega arith

doubled_by : (k : ℕ) (ss : List Stage) → length (filter is_hex ss) ≤ k → doubled ss ≤ two k
unfolding doubled two twice_if
doubled_by k [] h = two_some k
doubled_by k (s ∷ ss) h = by (is_hex s) k h (λ j. doubled_by j ss) where
  by : (b : Bool) (k : ℕ) → length (cond b (s ∷ filter is_hex ss) (filter is_hex ss)) ≤ k → ((j : ℕ) → length (filter is_hex ss) ≤ j → doubled ss ≤ two j) → twice_if b (doubled ss) ≤ two k
  by true zero h f = absurd (omega arith)
  by true (suc j) h f = let g = f j (omega arith) in omega arith
  by false k h f = f k h

longest_by : (n q : ℕ) (ss : List Stage) → list_all is_in_range ss ≡ true → n + 65 * length ss ≤ q → 1048577 + 65 * length ss ≤ q → longest n ss ≤ doubled ss * q
unfolding longest doubled twice_if
longest_by n q [] r h g = omega arith
longest_by n q (s ∷ ss) r h g =
    let w = and_parts (is_in_range s) (list_all is_in_range ss) r in
    by (is_hex s) ((kind s).longest n) ((kind s).grows n w.0) (λ m p. longest_by m p ss w.1) where
      twice : (l w q : ℕ) → l ≤ w * (2 * q) → l ≤ 2 * w * q
      twice l w q h = omega arith

      by : (b : Bool) (m : ℕ) → Grows b n m → ((m p : ℕ) → m + 65 * length ss ≤ p → 1048577 + 65 * length ss ≤ p → longest m ss ≤ doubled ss * p) → longest m ss ≤ twice_if b (doubled ss) * q
      by true m l f = twice (longest m ss) (doubled ss) q (f m (2 * q) (omega arith) (omega arith))
      by false m (inl l) f = f m q (omega arith) (omega arith)
      by false m (inr l) f = f m q (omega arith) (omega arith)

short_all : (b m : ℕ) (cs : List (List ℕ)) → b < m → EachShort b cs → All (λ c. length c < m) cs
short_all b m [] h g = All-nil (λ c. length c < m)
short_all b m (c ∷ cs) h (l, g) = All-cons (λ c. length c < m) c cs (omega arith) (short_all b m cs h g)

short_of : (b : ℕ) (cs : List (List ℕ)) → All (λ c. length c ≤ b) cs → EachShort b cs
short_of b [] h = tt
short_of b (c ∷ cs) h = (All-head (λ c. length c ≤ b) c cs h, short_of b cs (All-tail (λ c. length c ≤ b) c cs h))

times : (l d q bound : ℕ) → l ≤ d * q → d ≤ 16 → 16 * q < bound → l < bound
times l d q bound h g f = let p = mul-le d q 16 q g (le_refl q) in omega arith

longest-below : (most bound : ℕ) (ss : List Stage) → AreBounds most bound → AreInRange ss → longest most ss < bound
unfolding two
longest-below most bound ss b r = by (cases_lt most 1048577) where
  few : length ss ≤ 16
  few = r.few

  twice : doubled ss ≤ 16
  twice = doubled_by 4 ss (subst (λ q. q ≤ 4) (sym (length-filter is_hex ss)) r.hex)

  by : (most < 1048577) ⊎ (1048577 ≤ most) → longest most ss < bound
  by (inl h) = times (longest most ss) (doubled ss) (1048577 + 1040) bound (longest_by most (1048577 + 1040) ss r.range (omega arith) (omega arith)) twice b.cut
  by (inr h) = times (longest most ss) (doubled ss) (most + 1040) bound (longest_by most (most + 1040) ss r.range (omega arith) (omega arith)) twice b.came

pub chunks-below : EachChunkIsBelow
chunks-below most bound ss x b r h =
    short_all (longest most ss) bound (all_through (machines ss) x).items (longest-below most bound ss b r) (all_short_by most ss x r.range (short_of most x.items h))

-- what lies before a stage that may be asked came to it

last-all : {A : Type 0} (P : A → Type 0) (xs ys : List A) → All P (xs ++ ys) → All P ys
last-all P [] ys h = h
last-all P (x ∷ xs) ys h = last-all P xs ys (All-tail P x (xs ++ ys) h)

module _ (bound : ℕ) where
  abbrev IsBelow : List ℕ → Type 0
  IsBelow c = length c < bound

  lies-below : (m : Machine) (k : Kept) (xs : List (List ℕ)) (n : Mark) (w : AtWork) (before : Told (List ℕ)) → LiveAsked m k xs n w → All IsBelow (goes_on xs n before).items
      → LiesBelow bound w before.items
  lies-below m k xs n (Over e) before a h = tt
  lies-below m k xs Open (Live j) before a h = last-all IsBelow xs before.items h
  lies-below m k xs Closed (Live j) before a h = grind arith
  lies-below m k xs Broken (Live j) before a h = absurd a
  lies-below m k xs Lost (Live j) before a h = grind arith

  -- from stage to stage: what comes to one is a first part of what the stages before it make of all
  below-by : (ss : List Stage) (y z : Told (List ℕ)) (ps : List Part) (o out : Told (List ℕ)) → IsBefore y z
      → ((a b : List Stage) → ss ≡ a ++ b → All IsBelow (all_through (machines a) z).items) → Goes (machines ss) y (fresh (machines ss)) o ps out → AreBelow bound ps
  below-by [] y z [] o out b h g = tt
  below-by (s ∷ ss) y z (p ∷ ps) o out b h (taken, a, l, g) =
      let m = machine s in
      let here : Told (List ℕ) = then_told taken p.before in
      let reached : IsBefore here z = before_trans here y z (before_of_short here y l) b in
      let all : All IsBelow here.items = front-all IsBelow here.items z.items (before_front here z reached) (h [] (s ∷ ss) refl) in (
        lies-below m m.start taken.items taken.mark p.work p.before a all,
        below-by ss (through m m.start taken) (through m m.start z) ps o out
            (through_before m m.start taken z (before_trans taken here z (before_then taken p.before) reached))
            (λ a b e. h (s ∷ a) b (ap (λ q. s ∷ q) e)) g,
      )
  below-by [] y z (p ∷ ps) o out b h g = absurd g
  below-by (s ∷ ss) y z [] o out b h g = absurd g

  -- what went out, and what lies behind it
  went-below : (xs : List (List ℕ)) (m : Mark) (y : Told (List ℕ)) → All IsBelow (goes_on xs m y).items → All IsBelow xs
  went-below xs Open y h = front-all IsBelow xs (xs ++ y.items) (y.items, refl) h
  went-below xs Closed y h = h
  went-below xs Broken y h = h
  went-below xs Lost y h = h

  behind-below : (xs : List (List ℕ)) (m : Mark) (y : Told (List ℕ)) → m ≡ Open → All IsBelow (goes_on xs m y).items → All IsBelow y.items
  behind-below xs Open y e h = last-all IsBelow xs y.items h
  behind-below xs Closed y e h = absurd (cc)
  behind-below xs Broken y e h = absurd (cc)
  behind-below xs Lost y e h = absurd (cc)

  -- of a work by the number of its place, from k on
  pub below-at : (k : ℕ) (before : List AtWork) (kept : Kept) (after : List AtWork) (x : ℕ → Told (List ℕ)) (j : ℕ)
      → AreBelow bound (parts_at k (before ++ Live kept ∷ after) x) → j ≡ k + length before → All IsBelow (x j).items
  below-at k [] kept after x j (l, h) e = subst (λ q. All IsBelow (x q).items) (let f : k ≡ j = omega arith in f) l
  below-at k (w ∷ before) kept after x j (l, h) e = below-at (suc k) before kept after x j h (omega arith)

pub held-below : EachHeldChunkIsBelow
held-below most bound ss came parts went behind b r h f =
    let out = then_told went behind in
    let P : List ℕ → Type 0 = IsBelow bound in
    let all : All P out.items =
    front-all P out.items (all_through (machines ss) came).items (before_front out (all_through (machines ss) came) (flows_before (machines ss) came parts out f)) (chunks-below most bound ss came b r h) in
    record {
      before_stages = below-by bound ss came came parts nothing_told out (before_refl came) (λ a c e. chunks-below most bound a came b (front-range a c (subst AreInRange e r)) h) f;
      sent = went-below bound went.items went.mark behind all;
      left = λ e. behind-below bound went.items went.mark behind e all;
    }

-- the bounds of a node that is fed by messages
at-most : (cs : List (List ℕ)) → All (λ c. length c < 33554432) cs → All (λ c. length c ≤ 33554431) cs
at-most [] h = All-nil (λ c. length c ≤ 33554431)
at-most (c ∷ cs) h =
    let l = All-head (λ c. length c < 33554432) c cs h in
    All-cons (λ c. length c ≤ 33554431) c cs (omega arith) (at-most cs (All-tail (λ c. length c < 33554432) c cs h))

pub fed-bounds : AreBounds 33554431 4294967296
fed-bounds = record { came = omega arith; cut = omega arith }

pub fed-below : EachFedChunkIsBelow
fed-below ss came parts went behind r h f = held-below 33554431 4294967296 ss came parts went behind fed-bounds r (at-most came.items h) f

-- those of a node that reads the input in pieces
pub read-bounds : AreBounds 4096 33554432
read-bounds = record { came = omega arith; cut = omega arith }

pub may-be-pushed : EachMayBePushed
may-be-pushed (Lines most) n h = tt
may-be-pushed (Fixed k) n h = tt
may-be-pushed Hex n h = tt
may-be-pushed Unhex n h = tt
may-be-pushed (Mask key) n h = tt
may-be-pushed Number n h = tt
may-be-pushed Frame n h = h
may-be-pushed (Unframe most) n h = tt
