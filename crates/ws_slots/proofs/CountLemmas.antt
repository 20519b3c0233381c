-- What a change of a place does to the two counts.
use Rattle.std.proofs.Common.{◌≡◌, ℕ, ◌+◌, suc, zero, true, false, List, [], ◌∷◌, ◌++◌, Bool, Option, Some, None, Result, Ok, Err, refl, ap, arith}
use Rattle.std.specs.Prelude.{slice_get, slice_set}
use Rattle.std.specs.List.{sum_by}
use Rattle.std.proofs.lemmas.List.Sums.{sum_by-append, sum_by-cons}
use Rattle.ws_value.specs.declared.value.Plain.{Plain}
use Rattle.ws_value.specs.declared.value.Outcome.{Outcome}
use Rattle.ws_value.specs.declared.value.Outcome.TheVariants.{Pending, Fulfilled, Given, Finished, Rejected}
use Rattle.ws_steps.specs.Places.{unnoted_by}
use Rattle.ws_steps.specs.Promises.{is_pending, settled}
use Rattle.ws_slots.specs.Counts.{one_where_some, one_where_none, unnoted, unwatched, unnoted_in, unwatched_in}
use Rattle.ws_slots.specs.Slot.{Slot}

-- a sum loses what the old element gave and gains what the new one gives
pub sum_by-slice_set : {A : Type 0} (f : A → ℕ) (xs : List A) (i : ℕ) (x y : A) → slice_get xs i ≡ Some x → sum_by f (slice_set xs i y) + f x ≡ sum_by f xs + f y
sum_by-slice_set {A} f [] i x y g = cc
sum_by-slice_set {A} f (z ∷ xs) zero x y g =
    let is : z ≡ x = cc in
    rw (is, sum_by-cons f y xs, sum_by-cons f x xs) (omega arith)
sum_by-slice_set {A} f (z ∷ xs) (suc i) x y g =
    let rest = sum_by-slice_set f xs i x y g in
    rw (sum_by-cons f z (slice_set xs i y), sum_by-cons f z xs) (omega arith)

sum_by-slice_set_same : {A : Type 0} (f : A → ℕ) (xs : List A) (i : ℕ) (x y : A) → slice_get xs i ≡ Some x → f y ≡ f x → sum_by f (slice_set xs i y) ≡ sum_by f xs
sum_by-slice_set_same {A} f xs i x y g h = omega (arith, sum_by-slice_set f xs i x y g)

-- the weights of a place
pub unnoted_by-pending : (o : Outcome) (rank : Option ℕ) → is_pending o ≡ true → unnoted_by o rank ≡ one_where_some rank
unnoted_by-pending Pending None h = refl
unnoted_by-pending Pending (Some rank) h = refl
unnoted_by-pending (Fulfilled v) rank h = cc
unnoted_by-pending (Given v) rank h = cc
unnoted_by-pending (Finished v) rank h = cc
unnoted_by-pending (Rejected v) rank h = cc

pub unnoted_by-settled : (o : Outcome) (rank : Option ℕ) → is_pending o ≡ false → unnoted_by o rank ≡ 0
unnoted_by-settled o None h = refl
unnoted_by-settled Pending (Some rank) h = cc
unnoted_by-settled (Fulfilled v) (Some rank) h = refl
unnoted_by-settled (Given v) (Some rank) h = refl
unnoted_by-settled (Finished v) (Some rank) h = refl
unnoted_by-settled (Rejected v) (Some rank) h = refl

pub unnoted-pending : (s : Slot) → is_pending s.outcome ≡ true → unnoted (Some s) ≡ one_where_some s.rank
unnoted-pending s h = unnoted_by-pending s.outcome s.rank h

pub unnoted-settled : (s : Slot) → is_pending s.outcome ≡ false → unnoted (Some s) ≡ 0
unnoted-settled s h = unnoted_by-settled s.outcome s.rank h

unnoted-unwatched : (s : Slot) → s.rank ≡ None → unnoted (Some s) ≡ 0
unnoted-unwatched s h = rw h refl

pub settled_so : (o : Result Plain Plain) → is_pending (settled o) ≡ false
settled_so (Ok v) = refl
settled_so (Err r) = refl

-- a pending promise settles
pub unnoted_in-settle : (ss : List (Option Slot)) (i : ℕ) (s t : Slot) → slice_get ss i ≡ Some (Some s) → is_pending s.outcome ≡ true → is_pending t.outcome ≡ false → unnoted_in (slice_set ss i (Some t)) + one_where_some s.rank ≡ unnoted_in ss
unnoted_in-settle ss i s t g p n =
    omega (arith, sum_by-slice_set unnoted ss i (Some s) (Some t) g, unnoted-pending s p, unnoted-settled t n)

pub unwatched_in-same : (ss : List (Option Slot)) (i : ℕ) (s t : Slot) → slice_get ss i ≡ Some (Some s) → t.rank ≡ s.rank → unwatched_in (slice_set ss i (Some t)) ≡ unwatched_in ss
unwatched_in-same ss i s t g h = sum_by-slice_set_same unwatched ss i (Some s) (Some t) g (ap one_where_none h)

-- whether a promise follows another doesn't count
pub unnoted_in-follows : (ss : List (Option Slot)) (i : ℕ) (s : Slot) (b : Bool) → slice_get ss i ≡ Some (Some s) → unnoted_in (slice_set ss i (Some (record s { follows = b }))) ≡ unnoted_in ss
unnoted_in-follows ss i s b g = sum_by-slice_set_same unnoted ss i (Some s) (Some (record s { follows = b })) g refl

pub unwatched_in-follows : (ss : List (Option Slot)) (i : ℕ) (s : Slot) (b : Bool) → slice_get ss i ≡ Some (Some s) → unwatched_in (slice_set ss i (Some (record s { follows = b }))) ≡ unwatched_in ss
unwatched_in-follows ss i s b g = sum_by-slice_set_same unwatched ss i (Some s) (Some (record s { follows = b })) g refl

-- a promise is watched from now on
pub unnoted_in-watch_pending : (ss : List (Option Slot)) (i : ℕ) (s : Slot) (rank : ℕ) → slice_get ss i ≡ Some (Some s) → s.rank ≡ None → is_pending s.outcome ≡ true → unnoted_in (slice_set ss i (Some (record s { rank = Some rank }))) ≡ unnoted_in ss + 1
unnoted_in-watch_pending ss i s rank g h p =
    omega (arith, sum_by-slice_set unnoted ss i (Some s) (Some (record s { rank = Some rank })) g, unnoted-unwatched s h, unnoted-pending (record s { rank = Some rank }) p)

pub unnoted_in-watch_settled : (ss : List (Option Slot)) (i : ℕ) (s : Slot) (rank : ℕ) → slice_get ss i ≡ Some (Some s) → is_pending s.outcome ≡ false → unnoted_in (slice_set ss i (Some (record s { rank = Some rank }))) ≡ unnoted_in ss
unnoted_in-watch_settled ss i s rank g p =
    omega (arith, sum_by-slice_set unnoted ss i (Some s) (Some (record s { rank = Some rank })) g, unnoted-settled s p, unnoted-settled (record s { rank = Some rank }) p)

pub unwatched_in-watch : (ss : List (Option Slot)) (i : ℕ) (s : Slot) (rank : ℕ) → slice_get ss i ≡ Some (Some s) → s.rank ≡ None → unwatched_in (slice_set ss i (Some (record s { rank = Some rank }))) + 1 ≡ unwatched_in ss
unwatched_in-watch ss i s rank g h =
    let one = sum_by-slice_set unwatched ss i (Some s) (Some (record s { rank = Some rank })) g in
    let was = ap one_where_none h in
    omega arith

pub unnoted_in-cons : (s : Option Slot) (ss : List (Option Slot)) → unnoted_in (s ∷ ss) ≡ unnoted s + unnoted_in ss
unnoted_in-cons s ss = sum_by-cons unnoted s ss

-- a new promise, which is pending and isn't watched
pub unnoted_in-fresh : (ss : List (Option Slot)) → unnoted_in (ss ++ Some (record { outcome = Pending; follows = false; waits = 0; rank = None; first = None }) ∷ []) ≡ unnoted_in ss
unnoted_in-fresh ss = rw (sum_by-append unnoted ss (Some (record { outcome = Pending; follows = false; waits = 0; rank = None; first = None }) ∷ [])) (omega arith)

pub unwatched_in-fresh : (ss : List (Option Slot)) → unwatched_in (ss ++ Some (record { outcome = Pending; follows = false; waits = 0; rank = None; first = None }) ∷ []) ≡ unwatched_in ss + 1
unwatched_in-fresh ss = rw (sum_by-append unwatched ss (Some (record { outcome = Pending; follows = false; waits = 0; rank = None; first = None }) ∷ [])) (omega arith)

-- which reactions wait doesn't count
pub unnoted_in-waits : (ss : List (Option Slot)) (i : ℕ) (s t : Slot) → slice_get ss i ≡ Some (Some s) → unnoted (Some t) ≡ unnoted (Some s) → unnoted_in (slice_set ss i (Some t)) ≡ unnoted_in ss
unnoted_in-waits ss i s t g e = sum_by-slice_set_same unnoted ss i (Some s) (Some t) g e

pub unwatched_in-waits : (ss : List (Option Slot)) (i : ℕ) (s t : Slot) → slice_get ss i ≡ Some (Some s) → t.rank ≡ s.rank → unwatched_in (slice_set ss i (Some t)) ≡ unwatched_in ss
unwatched_in-waits ss i s t g e = sum_by-slice_set_same unwatched ss i (Some s) (Some t) g (ap one_where_none e)
