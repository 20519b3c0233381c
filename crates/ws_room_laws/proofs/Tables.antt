-- What an operation on promises takes.
use Rattle.std.proofs.Common.{◌≡◌, ◌≤◌, ℕ, zero, suc, ◌+◌, ◌*◌, Bool, true, false, not, if◌then◌else◌, List, [], ◌∷◌, ◌++◌, length, map, Option, Some, None, Result, Ok, Err, refl, ap, arith, length-append}
use Rattle.std.proofs.Math.Nat.{mul-le-mul_left}
use Rattle.std.proofs.lemmas.List.{length-map}
use Rattle.std.specs.Prelude.{slice_get, slice_set}
use Rattle.ws_value.specs.declared.ids.PromiseId.{PromiseId}
use Rattle.ws_value.specs.declared.value.Outcome.{Outcome}
use Rattle.ws_value.specs.declared.value.Outcome.TheVariants.{Pending, Fulfilled, Given, Finished, Rejected}
use Rattle.ws_value.specs.declared.value.Plain.{Plain}
use Rattle.ws_value.specs.declared.value.Value.{Value}
use Rattle.ws_steps.specs.declared.{calls.Event.{Event}, calls.Event.TheVariants.{Settled}, effects.Gift.{Gift}, effects.Gift.TheVariants.{This, Fresh}, effects.Use.{Use}}
use Rattle.ws_steps.specs.declared.{effects.Use.TheVariants.{React, Resolve}, promises.Job.{Job}, promises.Job.TheVariants.{Reaction as ReactionJob, Follow, Settle, Micro as MicroJob}, promises.Micro.{Micro}}
use Rattle.ws_steps.specs.declared.{promises.Reaction.{Reaction}, promises.Reaction.TheVariants.{Perform, Adopt}}
use Rattle.ws_steps.specs.Promises.{Entry, Table, pending, live, entry_at, with_entry, next_id, fresh, is_pending, is_open_entry, is_open, is_following, settled, job_of, enqueue_job, ended_as, tell, noted, settle_entry, went_astray, settle, fresh_settled, answer_entry, answer, react_by, react_entry, react, follow_entry, follow, unfollow_entry, unfollow, queue_micro, use_this, use_gift, taken, after_first, after_next_job, watch_entry, watch_at, watch}
use Rattle.ws_steps.specs.Places.{Prices, price, gift_price, reactions_of, reactions_in, unnoted_by, unnoted_of, unnoted_in, table_size}

-- it takes so many promises, jobs or reactions, and events
record Grows (p j e : ℕ) (t u : Table) : Type 0 where
  pub promises : length u.entries ≤ length t.entries + p
  pub jobs : length u.jobs + reactions_in u.entries ≤ length t.jobs + reactions_in t.entries + j
  pub events : length u.events + unnoted_in u.entries ≤ length t.events + unnoted_in t.entries + e

times-grow : (a m n c : ℕ) → m ≤ n + c → a * m ≤ a * n + c * a
times-grow a m n c h = let g = mul-le-mul_left a h in omega (arith, g)

size-grow : (π : Prices) (p j e : ℕ) (t u : Table) → Grows p j e t u → table_size π u ≤ table_size π t + price π 0 p j e 0 0 0
unfolding table_size
size-grow π p j e t u h =
    let f = times-grow π.promise (length u.entries) (length t.entries) p h.promises in
    let g = times-grow π.job (length u.jobs + reactions_in u.entries) (length t.jobs + reactions_in t.entries) j h.jobs in
    let i = times-grow π.event (length u.events + unnoted_in u.entries) (length t.events + unnoted_in t.entries) e h.events in
    omega (arith, f, g, i)

-- lists of entries

pub length-set : {A : Type 0} (xs : List A) (i : ℕ) (y : A) → length (slice_set xs i y) ≡ length xs
length-set [] i y = refl
length-set (x ∷ xs) zero y = refl
length-set (x ∷ xs) (suc i) y = ap suc (length-set xs i y)

pub reactions-set : (xs : List (Option Entry)) (i : ℕ) (y : Option Entry) → reactions_in (slice_set xs i y) + reactions_of (live (slice_get xs i)) ≤ reactions_in xs + reactions_of y
reactions-set [] i y = omega arith
reactions-set (None ∷ xs) zero y = omega arith
reactions-set (Some x ∷ xs) zero y = omega arith
reactions-set (x ∷ xs) (suc i) y = let h = reactions-set xs i y in omega (arith, h)

pub reactions-append : (xs ys : List (Option Entry)) → reactions_in (xs ++ ys) ≡ reactions_in xs + reactions_in ys
reactions-append [] ys = omega arith
reactions-append (x ∷ xs) ys = let h = reactions-append xs ys in omega (arith, h)

pub unnoted-set : (xs : List (Option Entry)) (i : ℕ) (y : Option Entry) → unnoted_in (slice_set xs i y) + unnoted_of (live (slice_get xs i)) ≤ unnoted_in xs + unnoted_of y
unnoted-set [] i y = omega arith
unnoted-set (None ∷ xs) zero y = omega arith
unnoted-set (Some x ∷ xs) zero y = omega arith
unnoted-set (x ∷ xs) (suc i) y = let h = unnoted-set xs i y in omega (arith, h)

pub unnoted-append : (xs ys : List (Option Entry)) → unnoted_in (xs ++ ys) ≡ unnoted_in xs + unnoted_in ys
unnoted-append [] ys = omega arith
unnoted-append (x ∷ xs) ys = let h = unnoted-append xs ys in omega (arith, h)

-- an entry is put in the place of one
put-grow : (p : PromiseId) (t : Table) (e y : Entry) (j n : ℕ) → Some e ≡ entry_at t p → length y.reactions ≤ length e.reactions + j → unnoted_of (Some y) ≤ unnoted_of (Some e) + n
    → Grows 0 j n t (with_entry p (Some y) t)
put-grow p t e y j n is reactions noted =
    let a = length-set t.entries p.0 (Some y) in
    let b = reactions-set t.entries p.0 (Some y) in
    let c = unnoted-set t.entries p.0 (Some y) in
    let d = ap reactions_of is in
    let f = ap unnoted_of is in
    record { promises = omega (arith, a); jobs = omega (arith, b, d, reactions); events = omega (arith, c, f, noted) }

same-grow : (p j e : ℕ) (t : Table) → Grows p j e t t
same-grow p j e t = record { promises = omega arith; jobs = omega arith; events = omega arith }

astray-grow : (p j e : ℕ) (t : Table) → Grows p j e t (went_astray t)
astray-grow p j e t = record { promises = omega arith; jobs = omega arith; events = omega arith }

-- whichever branch is taken, with its test
either-grow : (p j e : ℕ) (c : Bool) (t u v : Table) → (c ≡ true → Grows p j e t u) → Grows p j e t v → Grows p j e t (if c then u else v)
either-grow p j e true t u v g h = g refl
either-grow p j e false t u v g h = h

-- what is told of a promise that was pending was to come
told-came : (p : PromiseId) (t : Table) (o : Outcome) (rank : Option ℕ) → is_pending o ≡ true → length (noted p t rank).events ≤ length t.events + unnoted_by o rank
told-came p t o None e = omega arith
told-came p t Pending (Some rank) e = omega (arith, length-append t.events (Settled p ∷ []))
told-came p t (Fulfilled v) (Some rank) e = cc
told-came p t (Given v) (Some rank) e = cc
told-came p t (Finished v) (Some rank) e = cc
told-came p t (Rejected v) (Some rank) e = cc

noted-same : (p : PromiseId) (t : Table) (rank : Option ℕ) → ((noted p t rank).entries ≡ t.entries) × ((noted p t rank).jobs ≡ t.jobs)
noted-same p t None = (refl, refl)
noted-same p t (Some rank) = (refl, refl)

-- a promise that has settled has no event to come
settled-noted : (o : Outcome) (rank : Option ℕ) → is_pending o ≡ false → unnoted_by o rank ≡ 0
settled-noted o None e = refl
settled-noted Pending (Some rank) e = cc
settled-noted (Fulfilled v) (Some rank) e = refl
settled-noted (Given v) (Some rank) e = refl
settled-noted (Finished v) (Some rank) e = refl
settled-noted (Rejected v) (Some rank) e = refl

settled-over : (outcome : Result Plain Plain) → is_pending (settled outcome) ≡ false
settled-over (Ok v) = refl
settled-over (Err r) = refl

test-true : (b c : Bool) → (if b then c else false) ≡ true → b ≡ true
test-true true c h = refl
test-true false c h = cc

settle_entry-grow : (p : PromiseId) (outcome : Result Plain Plain) (t : Table) (e : Option Entry) → e ≡ entry_at t p → is_open_entry e ≡ true → Grows 0 0 0 t (settle_entry p outcome t e)
settle_entry-grow p outcome t None is unsettled = same-grow 0 0 0 t
settle_entry-grow p outcome t (Some e) is unsettled =
    let y : Entry = ended_as (settled outcome) e in
    let z : Table = record t { entries = slice_set t.entries p.0 (Some y); jobs = t.jobs ++ map (job_of outcome) e.reactions } in
    let a = length-set t.entries p.0 (Some y) in
    let b = reactions-set t.entries p.0 (Some y) in
    let c = unnoted-set t.entries p.0 (Some y) in
    let d = ap reactions_of is in
    let f = ap unnoted_of is in
    let g = length-append t.jobs (map (job_of outcome) e.reactions) in
    let h = length-map e.reactions (job_of outcome) in
    let k = settled-noted (settled outcome) e.rank (settled-over outcome) in
    let l = told-came p z e.outcome e.rank (test-true (is_pending e.outcome) (not e.follows) unsettled) in
    let m = noted-same p z e.rank in
    let n = ap length m.0 in
    let o = ap reactions_in m.0 in
    let q = ap unnoted_in m.0 in
    let r = ap length m.1 in
    record { promises = omega (arith, a, n); jobs = omega (arith, b, d, g, h, o, r); events = omega (arith, c, f, k, l, q) }

settle-grow : (p : PromiseId) (outcome : Result Plain Plain) (t : Table) → Grows 0 0 0 t (settle p outcome t)
unfolding settle
settle-grow p outcome t =
    either-grow 0 0 0 (is_open p t) t (settle_entry p outcome t (entry_at t p)) (went_astray t) (λ unsettled. settle_entry-grow p outcome t (entry_at t p) refl unsettled) (astray-grow 0 0 0 t)

answer_entry-grow : (p : PromiseId) (outcome : Outcome) (t : Table) (e : Option Entry) → is_pending outcome ≡ false → e ≡ entry_at t p → is_open_entry e ≡ true → Grows 0 0 0 t (answer_entry p outcome t e)
answer_entry-grow p outcome t None over is unsettled = same-grow 0 0 0 t
answer_entry-grow p outcome t (Some e) over is unsettled =
    let y : Entry = ended_as outcome e in
    let z : Table = with_entry p (Some y) t in
    let a = length-set t.entries p.0 (Some y) in
    let b = reactions-set t.entries p.0 (Some y) in
    let c = unnoted-set t.entries p.0 (Some y) in
    let d = ap reactions_of is in
    let f = ap unnoted_of is in
    let k = settled-noted outcome e.rank over in
    let l = told-came p z e.outcome e.rank (test-true (is_pending e.outcome) (not e.follows) unsettled) in
    let m = noted-same p z e.rank in
    let n = ap length m.0 in
    let o = ap reactions_in m.0 in
    let q = ap unnoted_in m.0 in
    let r = ap length m.1 in
    record { promises = omega (arith, a, n); jobs = omega (arith, b, d, o, r); events = omega (arith, c, f, k, l, q) }

answer-grow : (p : PromiseId) (outcome : Outcome) (t : Table) → is_pending outcome ≡ false → Grows 0 0 0 t (answer p outcome t)
unfolding answer
answer-grow p outcome t over =
    either-grow 0 0 0 (is_open p t) t (answer_entry p outcome t (entry_at t p)) (went_astray t) (λ unsettled. answer_entry-grow p outcome t (entry_at t p) over refl unsettled) (astray-grow 0 0 0 t)

fresh-grow : (t : Table) → Grows 1 0 0 t (fresh t)
unfolding fresh
fresh-grow t =
    let a = length-append t.entries (Some pending ∷ []) in
    let b = reactions-append t.entries (Some pending ∷ []) in
    let c = unnoted-append t.entries (Some pending ∷ []) in
    record { promises = omega (arith, a); jobs = omega (arith, b); events = omega (arith, c) }

job-grow : (job : Job) (t : Table) → Grows 0 1 0 t (enqueue_job job t)
job-grow job t = let a = length-append t.jobs (job ∷ []) in record { promises = omega arith; jobs = omega (arith, a); events = omega arith }

tell-grow : (event : Event) (t : Table) → Grows 0 0 1 t (tell event t)
tell-grow event t = let a = length-append t.events (event ∷ []) in record { promises = omega arith; jobs = omega arith; events = omega (arith, a) }

react_by-grow : (p : PromiseId) (r : Reaction) (t : Table) (e : Entry) (o : Outcome) → Some e ≡ entry_at t p → Grows 0 1 0 t (react_by p r t e o)
react_by-grow p r t e Pending is =
    let c = length-append e.reactions (r ∷ []) in
    put-grow p t e (record e { reactions = e.reactions ++ r ∷ [] }) 1 0 is (omega (arith, c)) (omega arith)
react_by-grow p r t e (Fulfilled v) is = job-grow (job_of (Ok v) r) t
react_by-grow p r t e (Rejected v) is = job-grow (job_of (Err v) r) t
react_by-grow p r t e (Given v) is = same-grow 0 1 0 t
react_by-grow p r t e (Finished v) is = same-grow 0 1 0 t

react_entry-grow : (p : PromiseId) (r : Reaction) (t : Table) (e : Option Entry) → e ≡ entry_at t p → Grows 0 1 0 t (react_entry p r t e)
react_entry-grow p r t None is = same-grow 0 1 0 t
react_entry-grow p r t (Some e) is = react_by-grow p r t e e.outcome is

react-grow : (p : PromiseId) (r : Reaction) (t : Table) → Grows 0 1 0 t (react p r t)
unfolding react
react-grow p r t = react_entry-grow p r t (entry_at t p) refl

follow_entry-grow : (p q : PromiseId) (t : Table) (e : Option Entry) → e ≡ entry_at t p → Grows 0 1 0 t (follow_entry p q t e)
follow_entry-grow p q t None is = same-grow 0 1 0 t
follow_entry-grow p q t (Some e) is =
    let y : Entry = record e { follows = true } in
    let h = put-grow p t e y 0 0 is (omega arith) (omega arith) in
    let c = length-append t.jobs (Follow p q ∷ []) in
    record { promises = h.promises; jobs = omega (arith, h.jobs, c); events = h.events }

follow-grow : (p q : PromiseId) (t : Table) → Grows 0 1 0 t (follow p q t)
unfolding follow
follow-grow p q t =
    either-grow 0 1 0 (is_open p t) t (follow_entry p q t (entry_at t p)) (went_astray t) (λ unsettled. follow_entry-grow p q t (entry_at t p) refl) (astray-grow 0 1 0 t)

unfollow_entry-grow : (p : PromiseId) (t : Table) (e : Option Entry) → e ≡ entry_at t p → Grows 0 0 0 t (unfollow_entry p t e)
unfollow_entry-grow p t None is = same-grow 0 0 0 t
unfollow_entry-grow p t (Some e) is = put-grow p t e (record e { follows = false }) 0 0 is (omega arith) (omega arith)

unfollow-grow : (p : PromiseId) (t : Table) → Grows 0 0 0 t (unfollow p t)
unfolding unfollow
unfollow-grow p t =
    either-grow 0 0 0 (is_following p t) t (unfollow_entry p t (entry_at t p)) (went_astray t) (λ follows. unfollow_entry-grow p t (entry_at t p) refl) (astray-grow 0 0 0 t)

micro-grow : (m : Micro) (t : Table) → Grows 0 1 0 t (queue_micro m t)
unfolding queue_micro
micro-grow m t = let c = length-append t.jobs (MicroJob m ∷ []) in record { promises = omega arith; jobs = omega (arith, c); events = omega arith }

-- a promise that is watched from now on

told-if : (p : PromiseId) (o : Outcome) (events : List Event) (n : ℕ) → length (if is_pending o then events else events ++ Settled p ∷ []) + unnoted_by o (Some n) ≤ length events + 1
told-if p Pending events n = omega arith
told-if p (Fulfilled v) events n = let h = length-append events (Settled p ∷ []) in omega (arith, h)
told-if p (Given v) events n = let h = length-append events (Settled p ∷ []) in omega (arith, h)
told-if p (Finished v) events n = let h = length-append events (Settled p ∷ []) in omega (arith, h)
told-if p (Rejected v) events n = let h = length-append events (Settled p ∷ []) in omega (arith, h)

watch_entry-grow : (p : PromiseId) (t : Table) (e : Entry) (rank : Option ℕ) → Some e ≡ entry_at t p → Grows 0 0 1 t (watch_entry p t e rank)
watch_entry-grow p t e (Some rank) is = same-grow 0 0 1 t
watch_entry-grow p t e None is =
    let y : Entry = record e { rank = Some t.watched } in
    let a = length-set t.entries p.0 (Some y) in
    let b = reactions-set t.entries p.0 (Some y) in
    let c = unnoted-set t.entries p.0 (Some y) in
    let d = ap reactions_of is in
    let f = told-if p e.outcome t.events t.watched in
    record { promises = omega (arith, a); jobs = omega (arith, b, d); events = omega (arith, c, f) }

watch_at-grow : (p : PromiseId) (t : Table) (e : Option Entry) → e ≡ entry_at t p → Grows 0 0 1 t (watch_at p t e)
watch_at-grow p t None is = same-grow 0 0 1 t
watch_at-grow p t (Some e) is = watch_entry-grow p t e e.rank is

watch-grow : (p : PromiseId) (t : Table) → Grows 0 0 1 t (watch p t)
unfolding watch
watch-grow p t = watch_at-grow p t (entry_at t p) refl

-- the same by prices

pub settle-size : (π : Prices) (p : PromiseId) (outcome : Result Plain Plain) (t : Table) → table_size π (settle p outcome t) ≤ table_size π t
settle-size π p outcome t = let h = size-grow π 0 0 0 t (settle p outcome t) (settle-grow p outcome t) in omega (arith, h)

pub given-size : (π : Prices) (p : PromiseId) (v : Value) (t : Table) → table_size π (answer p (Given v) t) ≤ table_size π t
given-size π p v t = let h = size-grow π 0 0 0 t (answer p (Given v) t) (answer-grow p (Given v) t refl) in omega (arith, h)

pub finished-size : (π : Prices) (p : PromiseId) (v : Value) (t : Table) → table_size π (answer p (Finished v) t) ≤ table_size π t
finished-size π p v t = let h = size-grow π 0 0 0 t (answer p (Finished v) t) (answer-grow p (Finished v) t refl) in omega (arith, h)

pub fresh-size : (π : Prices) (t : Table) → table_size π (fresh t) ≤ table_size π t + π.promise
fresh-size π t = let h = size-grow π 1 0 0 t (fresh t) (fresh-grow t) in omega (arith, h)

pub fresh_settled-size : (π : Prices) (outcome : Result Plain Plain) (t : Table) → table_size π (fresh_settled outcome t) ≤ table_size π t + π.promise
fresh_settled-size π outcome t = let f = fresh-size π t in let g = settle-size π (next_id t) outcome (fresh t) in omega (arith, f, g)

pub tell-size : (π : Prices) (event : Event) (t : Table) → table_size π (tell event t) ≤ table_size π t + π.event
tell-size π event t = let h = size-grow π 0 0 1 t (tell event t) (tell-grow event t) in omega (arith, h)

pub use-size : (π : Prices) (p : PromiseId) (t : Table) (u : Use) → table_size π (use_this p t u) ≤ table_size π t + π.job
use-size π p t (React step derived) = let h = size-grow π 0 1 0 t (react p (Perform step derived) t) (react-grow p (Perform step derived) t) in omega (arith, h)
use-size π p t (Resolve q) = let h = size-grow π 0 1 0 t (follow q p t) (follow-grow q p t) in omega (arith, h)

pub gift-size : (π : Prices) (t : Table) (u : Use) (g : Gift) → table_size π (use_gift g u t) + π.turn ≤ table_size π t + gift_price π g
unfolding use_gift
gift-size π t u (This p) = let h = use-size π p t u in omega (arith, h)
gift-size π t u (Fresh outcome) =
    let f = fresh_settled-size π outcome t in let h = use-size π (next_id t) (fresh_settled outcome t) u in omega (arith, f, h)

pub micro-size : (π : Prices) (m : Micro) (t : Table) → table_size π (queue_micro m t) ≤ table_size π t + π.job
micro-size π m t = let h = size-grow π 0 1 0 t (queue_micro m t) (micro-grow m t) in omega (arith, h)

pub watch-size : (π : Prices) (p : PromiseId) (t : Table) → table_size π (watch p t) ≤ table_size π t + π.event
watch-size π p t = let h = size-grow π 0 0 1 t (watch p t) (watch-grow p t) in omega (arith, h)

-- a job leaves the queue, and may leave a reaction

taken-grow : (job : Job) (t : Table) → Grows 0 1 0 t (taken job t)
taken-grow (ReactionJob step outcome derived) t = same-grow 0 1 0 t
taken-grow (Follow p q) t = react-grow q (Adopt p) t
taken-grow (Settle p outcome) t = let h = unfollow-grow p t in record { promises = h.promises; jobs = omega (arith, h.jobs); events = h.events }
taken-grow (MicroJob m) t = same-grow 0 1 0 t

after_first-grow : (t : Table) (jobs : List Job) → jobs ≡ t.jobs → Grows 0 0 0 t (after_first t jobs)
after_first-grow t [] is = same-grow 0 0 0 t
after_first-grow t (job ∷ jobs) is =
    let h = taken-grow job (record t { jobs = jobs }) in
    let e = ap length is in
    record { promises = h.promises; jobs = omega (arith, h.jobs, e); events = h.events }

pub after_job-size : (π : Prices) (t : Table) → table_size π (after_next_job t) ≤ table_size π t
unfolding after_next_job
after_job-size π t = let h = size-grow π 0 0 0 t (after_first t t.jobs) (after_first-grow t t.jobs refl) in omega (arith, h)
