-- How long a chunk can be that lies in a node.
use Rattle.std.proofs.Common.{◌≡◌, ℕ, suc, ◌+◌, ◌<◌, ◌≤◌, true, List, [], ◌∷◌, ◌++◌, length, refl, sym, ap, ◌∙◌, subst, length-append, arith}
use Rattle.ws_flow.specs.Laws.{LiesShort, AreShort, EachLyingChunkIsShort}
use Rattle.ws_flow.specs.Machines.{Kept, Machine, through, all_through}
use Rattle.ws_flow.specs.Parts.{AtWork, Live, Over, Part, nothing_told, fresh, LiveAsked, Goes}
use Rattle.ws_flow.specs.Plans.{is_hex}
use Rattle.ws_flow.specs.Stages.{is_in_range, machine, machines}
use Rattle.ws_flow.specs.Steps.{parts_at}
use Rattle.ws_flow.specs.Told.{Mark, Open, Closed, Broken, Lost, Told, goes_on, then_told, IsFront, IsBefore}
use Rattle.ws_flow.proofs.Chain.{flows_before}
use Rattle.ws_flow.proofs.Lengths.{chunks_short}
use Rattle.ws_flow.proofs.Through.{through_before}
use Rattle.ws_flow.proofs.Told.{before_of_short, before_refl, before_trans, before_front, before_then}
use Rattle.ws_flow.specs.declared.plan.Stage.{Stage}
use Rattle.std.specs.List.{All, count_by, list_all, filter}
use Rattle.std.proofs.lemmas.Bool.{and_parts}
use Rattle.std.proofs.lemmas.List.Elements.{All-cons, All-nil, All-head, All-tail, filter-append}
use Rattle.std.proofs.lemmas.List.Folds.{list_all-append}
use Rattle.std.proofs.lemmas.List.Sums.{length-filter}

all_first : {A : Type 0} (P : A → Type 0) (xs ys : List A) → All P (xs ++ ys) → All P xs
all_first P [] ys h = All-nil P
all_first P (x ∷ xs) ys h = All-cons P x xs (All-head P x (xs ++ ys) h) (all_first P xs ys (All-tail P x (xs ++ ys) h))

all_last : {A : Type 0} (P : A → Type 0) (xs ys : List A) → All P (xs ++ ys) → All P ys
all_last P [] ys h = h
all_last P (x ∷ xs) ys h = all_last P xs ys (All-tail P x (xs ++ ys) h)

all_front : {A : Type 0} (P : A → Type 0) (xs ys : List A) → IsFront xs ys → All P ys → All P xs
all_front P xs ys (r, e) h = all_first P xs r (subst (λ q. All P q) e h)

-- the first of some stages are in their range, and no more of them are `hex`
range_front : (a b : List Stage) → list_all is_in_range (a ++ b) ≡ true → list_all is_in_range a ≡ true
range_front a b h = (and_parts (list_all is_in_range a) (list_all is_in_range b) (sym (list_all-append is_in_range a b) ∙ h)).0

hex_front : (a b : List Stage) → count_by is_hex (a ++ b) ≤ 4 → count_by is_hex a ≤ 4
hex_front a b h =
    let e = length-filter is_hex a in
    let f = length-filter is_hex (a ++ b) in
    let g = ap length (filter-append is_hex a b) ∙ length-append (filter is_hex a) (filter is_hex b) in
    omega arith

few_front : (a b : List Stage) → length (a ++ b) ≤ 16 → length a ≤ 16
few_front a b h = let e = length-append a b in omega arith

-- what lies before a stage that may be asked came to it
lies_short : (m : Machine) (k : Kept) (xs : List (List ℕ)) (n : Mark) (w : AtWork) (before : Told (List ℕ)) →
    LiveAsked m k xs n w → All (λ c. length c < 33554432) (goes_on xs n before).items → LiesShort w before.items
lies_short m k xs n (Over e) before a h = tt
lies_short m k xs Open (Live j) before a h = all_last (λ c. length c < 33554432) xs before.items h
lies_short m k xs Closed (Live j) before a h = grind arith
lies_short m k xs Broken (Live j) before a h = elim a [ ]
lies_short m k xs Lost (Live j) before a h = grind arith

-- from stage to stage: what comes to one is a first part of what the stages before it make of all
lying_by : (ss : List Stage) (y z : Told (List ℕ)) (ps : List Part) (o out : Told (List ℕ)) → IsBefore y z →
    ((a b : List Stage) → ss ≡ a ++ b → All (λ c. length c < 33554432) (all_through (machines a) z).items) →
    Goes (machines ss) y (fresh (machines ss)) o ps out → AreShort ps
lying_by [] y z [] o out b h g = tt
lying_by (s ∷ ss) y z (p ∷ ps) o out b h (taken, a, l, g) =
    let m = machine s in
    let here : Told (List ℕ) = then_told taken p.before in
    let came : IsBefore here y = before_of_short here y l in
    let all : All (λ c. length c < 33554432) here.items = all_front (λ c. length c < 33554432) here.items z.items (before_front here z (before_trans here y z came b)) (h [] (s ∷ ss) refl) in (
      lies_short m m.start taken.items taken.mark p.work p.before a all,
      lying_by ss (through m m.start taken) (through m m.start z) ps o out
          (through_before m m.start taken z (before_trans taken here z (before_then taken p.before) (before_trans here y z came b)))
          (λ a b e. h (s ∷ a) b (ap (λ q. s ∷ q) e)) g,
    )
lying_by [] y z (p ∷ ps) o out b h g = elim g [ ]
lying_by (s ∷ ss) y z [] o out b h g = elim g [ ]

pub lying_short : EachLyingChunkIsShort
lying_short ss x ps out r hexes many h f = (
  lying_by ss x x ps nothing_told out (before_refl x)
      (λ a b e. chunks_short a x (range_front a b (subst (λ q. list_all is_in_range q ≡ true) e r)) (hex_front a b (subst (λ q. count_by is_hex q ≤ 4) e hexes))
      (few_front a b (subst (λ q. length q ≤ 16) e many)) h) f,
  all_front (λ c. length c < 33554432) out.items (all_through (machines ss) x).items (before_front out (all_through (machines ss) x) (flows_before (machines ss) x ps out f))
      (chunks_short ss x r hexes many h),
)

-- of one part
pub short_before : (ps qs : List Part) (p : Part) (rs : List Part) (k : Kept) → AreShort ps → ps ≡ qs ++ p ∷ rs → p.work ≡ Live k → All (λ c. length c < 33554432) p.before.items
short_before ps qs p rs k h e w = among qs (subst AreShort e h) where
  among : (qs : List Part) → AreShort (qs ++ p ∷ rs) → All (λ c. length c < 33554432) p.before.items
  among [] (l, h) = subst (λ q. LiesShort q p.before.items) w l
  among (q ∷ qs) (l, h) = among qs h

-- of a work by the number of its place
pub short_at : (k : ℕ) (before : List AtWork) (kept : Kept) (after : List AtWork) (x : ℕ → Told (List ℕ)) (j : ℕ) →
    AreShort (parts_at k (before ++ Live kept ∷ after) x) → j ≡ k + length before → All (λ c. length c < 33554432) (x j).items
short_at k [] kept after x j (l, h) e = subst (λ q. All (λ c. length c < 33554432) (x q).items) (let f : k ≡ j = omega arith in f) l
short_at k (w ∷ before) kept after x j (l, h) e = short_at (suc k) before kept after x j h (omega arith)
