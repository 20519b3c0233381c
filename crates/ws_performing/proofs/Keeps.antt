-- What is kept for later, by how many read requests wait and how many pipes signals would abort, and what tees keep.
use Rattle.std.proofs.Common.{◌≡◌, ◌≤◌, ◌<◌, ℕ, zero, suc, ◌+◌, ◌*◌, Bool, true, false, List, [], ◌∷◌, ◌++◌, length, Option, Some, None, refl, sym, ap, subst, if◌then◌else◌, arith}
use Rattle.std.specs.Prelude.{slice_get, slice_set, nat_eq, ◌||◌}
use Rattle.ws_value.specs.declared.ids.StreamId.{StreamId}
use Rattle.ws_value.specs.declared.ids.PipeId.{PipeId}
use Rattle.ws_value.specs.declared.value.Plain.{Plain}
use Rattle.ws_pipe.specs.Seen.{aborts_by, aborts_of}
use Rattle.ws_steps.specs.declared.tee.TeePhase.{TeePhase}
use Rattle.ws_steps.specs.declared.tee.TeePhase.TheVariants.{Resting, Reading, Over}
use Rattle.ws_steps.specs.Pipes as pipe
use Rattle.ws_steps.specs.Places.{Prices, Counts, price, each, steps_price, abort_price, all_keep, signal_keeps_by, signal_keeps, signals_keep, phase_keeps, cancel_keeps, tee_keeps, tees_keep, all_kept, turns_alone, promises_alone, jobs_alone, events_alone, hosts_alone, queued_alone, requests_alone, requests_at, members_alone, descriptors_alone, copies_alone}
use Rattle.ws_steps.specs.Slots.{Stream, ReadableStream, ByteStream, WritableStream, reads_any}
use Rattle.ws_steps.specs.Tee as tee
use Rattle.ws_room_laws.proofs.Rows.{each-none}
use Rattle.ws_laws.proofs.Tables.{eq_numbers, unequal_numbers}
use Rattle.std.proofs.lemmas.Bool.{eq-eqb}
use Rattle.ws_tables.specs.View.{slots_of}
use Rattle.ws_tables.specs.Room.{HaveOwnSources, waits_of, waiting_in, aborts_in, later, IsKept}
use Rattle.ws_tables.specs.declared.tables.Tables.{Tables}

pub each-times : {A : Type 0} (c : ℕ) (xs : List A) → each c xs ≡ length xs * c
each-times c [] = omega arith
each-times c (x ∷ xs) = let h = each-times c xs in omega (arith, h)

sum-times : (a b c x y : ℕ) → x ≡ a * c → y ≡ b * c → x + y ≡ (a + b) * c
sum-times a b c x y h g = omega (arith, h, g)

-- where an entry of a queue is for nothing, so are descriptors
free-each : {A : Type 0} (c : ℕ) (xs : List A) → c ≡ 0 → each c xs ≡ 0
free-each c xs free = rw free (each-none xs)

pub streams-keep-is : (π : Prices) (xs : List Stream) → π.queued ≡ 0 → all_keep π xs ≡ waiting_in xs * steps_price π
streams-keep-is π [] free = omega arith
streams-keep-is π (ReadableStream r ∷ xs) free =
    sum-times (length r.requests) (waiting_in xs) (steps_price π) (each (steps_price π) r.requests) (all_keep π xs) (each-times (steps_price π) r.requests) (streams-keep-is π xs free)
streams-keep-is π (ByteStream b ∷ xs) free =
    let none = free-each π.queued b.descriptors free in
    let h = sum-times (length b.stream.requests) (waiting_in xs) (steps_price π) (each (steps_price π) b.stream.requests) (all_keep π xs) (each-times (steps_price π) b.stream.requests) (streams-keep-is π xs free) in
    omega (arith, none, h)
streams-keep-is π (WritableStream w ∷ xs) free = let h = streams-keep-is π xs free in omega (arith, h)

keeps_by-is : (π : Prices) (ps : List PipeId) (reason : Option Plain) → signal_keeps_by π ps reason ≡ aborts_by ps reason * abort_price π
keeps_by-is π ps None = each-times (abort_price π) ps
keeps_by-is π ps (Some r) = omega arith

pub signal-keeps-is : (π : Prices) (x : pipe.Signal) → signal_keeps π x ≡ aborts_of x * abort_price π
signal-keeps-is π x = keeps_by-is π x.pipes x.reason

pub signals-keep-is : (π : Prices) (xs : List pipe.Signal) → signals_keep π xs ≡ aborts_in xs * abort_price π
signals-keep-is π [] = omega arith
signals-keep-is π (x ∷ xs) =
    sum-times (aborts_of x) (aborts_in xs) (abort_price π) (signal_keeps π x) (signals_keep π xs) (signal-keeps-is π x) (signals-keep-is π xs)

pub later-is : (π : Prices) (t : Tables) → π.queued ≡ 0 → IsKept t → all_kept π (slots_of t) ≡ later π t
later-is π t free kept =
    let a = streams-keep-is π (slots_of t).streams free in
    let b = signals-keep-is π (slots_of t).signals in
    let c = ap (λ n. n * steps_price π) kept.waiting in
    let d = ap (λ n. n * abort_price π) kept.aborts in
    omega (arith, a, b, c, d)

-- what tees keep

phase-most : (π : Prices) (i : StreamId) (phase : TeePhase) → phase_keeps π i phase ≤ price π 9 1 2 1 1 0 0 + π.reads i
phase-most π i Resting = omega arith
phase-most π i Reading = omega arith
phase-most π i Over = omega arith

cancel-most : (π : Prices) (wanted : Bool) → cancel_keeps π wanted ≤ price π 6 2 3 1 1 0 0
cancel-most π true = omega arith
cancel-most π false = omega arith

-- what any tee keeps at most
abbrev pub tee_most : Prices → ℕ
tee_most π = price π 15 3 5 2 2 0 1

pub tees-most : (π : Prices) → ((j : StreamId) → π.reads j ≤ π.request) → (xs : List tee.Slots) → tees_keep π xs ≤ each (tee_most π) xs
tees-most π others [] = omega arith
tees-most π others (x ∷ xs) =
    let p = phase-most π x.source x.phase in
    let c = cancel-most π (tee.is_wanted x) in
    let o = others x.source in
    let h = tees-most π others xs in omega (arith, p, c, o, h)

-- of one kind of place
tees-within : (π : Prices) (n : ℕ) → tee_most π ≡ n → ((j : StreamId) → π.reads j ≤ π.request) → (xs : List tee.Slots) → tees_keep π xs ≤ length xs * n
tees-within π n is others xs = let h = tees-most π others xs in let e = each-times n xs in let k = ap (λ m. each m xs) is in omega (arith, h, e, k)

pub tees-turns : (xs : List tee.Slots) → tees_keep turns_alone xs ≤ length xs * 15
tees-turns xs = tees-within turns_alone 15 refl (λ j. omega arith) xs

pub tees-promises : (xs : List tee.Slots) → tees_keep promises_alone xs ≤ length xs * 3
tees-promises xs = tees-within promises_alone 3 refl (λ j. omega arith) xs

pub tees-jobs : (xs : List tee.Slots) → tees_keep jobs_alone xs ≤ length xs * 5
tees-jobs xs = tees-within jobs_alone 5 refl (λ j. omega arith) xs

pub tees-events : (xs : List tee.Slots) → tees_keep events_alone xs ≤ length xs * 2
tees-events xs = tees-within events_alone 2 refl (λ j. omega arith) xs

pub tees-hosts : (xs : List tee.Slots) → tees_keep hosts_alone xs ≤ length xs * 2
tees-hosts xs = tees-within hosts_alone 2 refl (λ j. omega arith) xs

pub tees-requests : (xs : List tee.Slots) → tees_keep requests_alone xs ≤ length xs
tees-requests xs = let h = tees-within requests_alone 1 refl (λ j. omega arith) xs in omega (arith, h)

pub tees-queued : (xs : List tee.Slots) → tees_keep queued_alone xs ≡ 0
tees-queued xs = let h = tees-within queued_alone 0 refl (λ j. omega arith) xs in omega (arith, h)

pub tees-members : (xs : List tee.Slots) → tees_keep members_alone xs ≡ 0
tees-members xs = let h = tees-within members_alone 0 refl (λ j. omega arith) xs in omega (arith, h)

pub tees-descriptors : (xs : List tee.Slots) → tees_keep descriptors_alone xs ≡ 0
tees-descriptors xs = let h = tees-within descriptors_alone 0 refl (λ j. omega arith) xs in omega (arith, h)

pub tees-copies : (xs : List tee.Slots) → tees_keep copies_alone xs ≡ 0
tees-copies xs = let h = tees-within copies_alone 0 refl (λ j. omega arith) xs in omega (arith, h)

-- in the list of one stream its tee keeps one place

pub same-number : (n : ℕ) → nat_eq n n ≡ true
same-number n = eq-eqb n n refl

pub equal-numbers : (n m : ℕ) → nat_eq n m ≡ true → n ≡ m
equal-numbers n m is = eq_numbers n m is

other-case : (n m : ℕ) (b : Bool) → b ≡ nat_eq m n → nat_eq n m ≡ false → b ≡ false
other-case n m true is other = absurd (unequal_numbers n m other (sym (eq_numbers m n (sym is))))
other-case n m false is other = refl

pub other-number : (n m : ℕ) → nat_eq n m ≡ false → nat_eq m n ≡ false
other-number n m other = other-case n m (nat_eq m n) refl other

pub one-most : (b : Bool) → (if b then 1 else 0) ≤ 1
one-most true = omega arith
one-most false = omega arith

pub counts-at : (i : StreamId) → Counts (requests_at i) i
counts-at i = record { here = rw (same-number i.0) refl; others = λ j. one-most (nat_eq i.0 j.0) }

reads-at : (i j : StreamId) → nat_eq j.0 i.0 ≡ false → (requests_at i).reads j ≡ 0
reads-at i j other = rw (other-number j.0 i.0 other) refl

other-keeps : (i : StreamId) (x : tee.Slots) → nat_eq x.source.0 i.0 ≡ false → tee_keeps (requests_at i) x ≡ 0
other-keeps i x other =
    let p = phase-most (requests_at i) x.source x.phase in
    let c = cancel-most (requests_at i) (tee.is_wanted x) in
    let r = reads-at i x.source other in omega (arith, p, c, r)

one-keeps : (i : StreamId) (x : tee.Slots) → tee_keeps (requests_at i) x ≤ 1
one-keeps i x =
    let p = phase-most (requests_at i) x.source x.phase in
    let c = cancel-most (requests_at i) (tee.is_wanted x) in
    let r = one-most (nat_eq i.0 x.source.0) in omega (arith, p, c, r)

or-false : (a b : Bool) → (a || b) ≡ false → (a ≡ false) × (b ≡ false)
or-false true b is = cc
or-false false b is = (refl, is)

none-keeps : (i : StreamId) (xs : List tee.Slots) → reads_any i xs ≡ false → tees_keep (requests_at i) xs ≡ 0
none-keeps i [] none = refl
none-keeps i (x ∷ xs) none =
    let both = or-false (nat_eq x.source.0 i.0) (reads_any i xs) none in
    let a = other-keeps i x both.0 in let b = none-keeps i xs both.1 in omega (arith, a, b)

own-keeps : (i : StreamId) (x : tee.Slots) (xs : List tee.Slots) (same : Bool) → same ≡ nat_eq x.source.0 i.0 → reads_any x.source xs ≡ false → tees_keep (requests_at i) xs ≤ 1
    → tee_keeps (requests_at i) x + tees_keep (requests_at i) xs ≤ 1
own-keeps i x xs true is none less =
    let number : x.source.0 ≡ i.0 = equal-numbers x.source.0 i.0 (sym is) in
    let a = one-keeps i x in
    let b = none-keeps i xs (subst (λ n. reads_any (record { 0 = n }) xs ≡ false) number none) in omega (arith, a, b)
own-keeps i x xs false is none less = let a = other-keeps i x (sym is) in omega (arith, a, less)

pub one-tee : (n : ℕ) (i : StreamId) (xs : List tee.Slots) → HaveOwnSources n xs → tees_keep (requests_at i) xs ≤ 1
one-tee n i [] own = omega arith
one-tee n i (x ∷ xs) own = own-keeps i x xs (nat_eq x.source.0 i.0) refl own.1.0 (one-tee n i xs own.1.1)

-- and at a stream that isn't there, none
less-number : (n m : ℕ) (b : Bool) → b ≡ nat_eq n m → n < m → b ≡ false
less-number n m true is less = let same = eq_numbers n m (sym is) in absurd (omega (arith, less, same))
less-number n m false is less = refl

pub no-tee : (n : ℕ) (i : StreamId) (xs : List tee.Slots) → n ≤ i.0 → HaveOwnSources n xs → tees_keep (requests_at i) xs ≡ 0
no-tee n i [] past own = refl
no-tee n i (x ∷ xs) past own =
    let below = own.0 in
    let a = other-keeps i x (less-number x.source.0 i.0 (nat_eq x.source.0 i.0) refl (omega (arith, below, past))) in
    let b = no-tee n i xs past own.1.1 in omega (arith, a, b)

pub more-sources : (n m : ℕ) (xs : List tee.Slots) → n ≤ m → HaveOwnSources n xs → HaveOwnSources m xs
more-sources n m [] more own = tt
more-sources n m (x ∷ xs) more own = let below = own.0 in (omega (arith, below, more), (own.1.0, more-sources n m xs more own.1.1))

-- a tee of a stream that none reads
last-read : (i : StreamId) (xs : List tee.Slots) (x : tee.Slots) → nat_eq x.source.0 i.0 ≡ false → reads_any i xs ≡ false → reads_any i (xs ++ x ∷ []) ≡ false
last-read i [] x other none = rw other refl
last-read i (y ∷ ys) x other none =
    let both = or-false (nat_eq y.source.0 i.0) (reads_any i ys) none in rw both.0 (last-read i ys x other both.1)

pub own-new : (n : ℕ) (xs : List tee.Slots) (x : tee.Slots) → x.source.0 < n → reads_any x.source xs ≡ false → HaveOwnSources n xs → HaveOwnSources n (xs ++ x ∷ [])
own-new n [] x below none own = (below, (refl, tt))
own-new n (y ∷ ys) x below none own =
    let both = or-false (nat_eq y.source.0 x.source.0) (reads_any x.source ys) none in
    (own.0, (last-read y.source ys x (other-number y.source.0 x.source.0 both.0) own.1.0, own-new n ys x below both.1 own.1.1))

-- one record among the others

pub waits-one : (xs : List Stream) (i : ℕ) (x : Stream) → slice_get xs i ≡ Some x → waits_of x ≤ waiting_in xs
waits-one [] i x is = cc
waits-one (y ∷ ys) zero x is = let same : y ≡ x = cc in let k = ap waits_of same in omega (arith, k)
waits-one (y ∷ ys) (suc i) x is = let h = waits-one ys i x is in omega (arith, h)

pub waits-put : (xs : List Stream) (i : ℕ) (x y : Stream) → slice_get xs i ≡ Some x → waiting_in (slice_set xs i y) + waits_of x ≡ waiting_in xs + waits_of y
waits-put [] i x y is = cc
waits-put (z ∷ zs) zero x y is = let same : z ≡ x = cc in let k = ap waits_of same in omega (arith, k)
waits-put (z ∷ zs) (suc i) x y is = let h = waits-put zs i x y is in omega (arith, h)

pub aborts-one : (xs : List pipe.Signal) (i : ℕ) (x : pipe.Signal) → slice_get xs i ≡ Some x → aborts_of x ≤ aborts_in xs
aborts-one [] i x is = cc
aborts-one (y ∷ ys) zero x is = let same : y ≡ x = cc in let k = ap aborts_of same in omega (arith, k)
aborts-one (y ∷ ys) (suc i) x is = let h = aborts-one ys i x is in omega (arith, h)

pub aborts-put : (xs : List pipe.Signal) (i : ℕ) (x y : pipe.Signal) → slice_get xs i ≡ Some x → aborts_in (slice_set xs i y) + aborts_of x ≡ aborts_in xs + aborts_of y
aborts-put [] i x y is = cc
aborts-put (z ∷ zs) zero x y is = let same : z ≡ x = cc in let k = ap aborts_of same in omega (arith, k)
aborts-put (z ∷ zs) (suc i) x y is = let h = aborts-put zs i x y is in omega (arith, h)
