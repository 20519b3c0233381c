-- A promise that stands where it is to be settled is settled, and stands there no more; and a promise is made.
use Rattle.std.proofs.Common.{◌≡◌, ◌≢◌, ℕ, zero, suc, ◌+◌, ◌≤◌, Bool, true, false, not, nat_eq, if◌then◌else◌, List, [], ◌∷◌, ◌++◌, length, map, Option, Some, None, Result, Ok, Err, slice_get, slice_set, refl, sym, ap, ◌∙◌, arith}
use Rattle.std.specs.Option.{option_map}
use Rattle.ws_value.specs.declared.ids.PromiseId.{PromiseId}
use Rattle.ws_value.specs.declared.value.Outcome.{Outcome}
use Rattle.ws_value.specs.declared.value.Plain.{Plain}
use Rattle.ws_steps.specs.declared.promises.Reaction.{Reaction}
use Rattle.ws_steps.specs.Promises.{is_following_entry, Entry, Table, pending, live, entry_at, next_id, fresh, fresh_settled, is_pending, is_pending_at, is_pending_outcome, is_open, is_open_entry, settled, settle, settle_entry, job_of, ended_as, with_entry, answer, answer_entry}
use Rattle.ws_steps.specs.Writable.{settle_pending}
use Rattle.ws_laws.proofs.Outcomes.{entries_noted, astray_noted}
use Rattle.ws_laws.proofs.Tables.{either, eq_numbers, unequal_numbers}
use Rattle.ws_laws.proofs.Weights.{weigh, weigh-fresh, weigh-settle, weigh-answer}
use Rattle.ws_promise_laws.proofs.Holds.{Holds, place_at, is_over, is_unsettled, when, named, puts-holds, put-placed}
use Rattle.ws_promise_laws.proofs.Tokens.{one_if, names, in_reaction, adopts}

-- promise q ends
pub record Ends (q : PromiseId) (t z : Table) : Type 0 where
  pub before : Entry
  pub after : Entry
  pub there : entry_at t q ≡ Some before
  pub over : is_pending after.outcome ≡ false
  pub entries : z.entries ≡ slice_set t.entries q.0 (Some after)
  pub straight : z.astray ≡ t.astray

settled_pending : (o : Result Plain Plain) → is_pending (settled o) ≡ false
settled_pending (Ok v) = refl
settled_pending (Err v) = refl

settle_ends : (q : PromiseId) (o : Result Plain Plain) (t : Table) (x : Option Entry) → x ≡ entry_at t q → is_open_entry x ≡ true → Ends q t (settle_entry q o t x)
settle_ends q o t None e h = cc
settle_ends q o t (Some e) h k =
    let d : Entry = ended_as (settled o) e in
    let z : Table = record t { entries = slice_set t.entries q.0 (Some d); jobs = t.jobs ++ map (job_of o) e.reactions } in
    record { before = e; after = d; there = sym h; over = settled_pending o; entries = entries_noted q z e.rank; straight = astray_noted q z e.rank }

pub settle-ends : (q : PromiseId) (o : Result Plain Plain) (t : Table) → is_open q t ≡ true → Ends q t (settle q o t)
unfolding settle
settle-ends q o t e = rw e (settle_ends q o t (entry_at t q) refl e)

answer_ends : (q : PromiseId) (o : Outcome) (t : Table) (x : Option Entry) → is_pending o ≡ false → x ≡ entry_at t q → is_open_entry x ≡ true → Ends q t (answer_entry q o t x)
answer_ends q o t None n e h = cc
answer_ends q o t (Some e) n h k =
    let d : Entry = ended_as o e in
    let z : Table = with_entry q (Some d) t in
    record { before = e; after = d; there = sym h; over = n; entries = entries_noted q z e.rank; straight = astray_noted q z e.rank }

answer-ends : (q : PromiseId) (o : Outcome) (t : Table) → is_pending o ≡ false → is_open q t ≡ true → Ends q t (answer q o t)
unfolding answer
answer-ends q o t n e = rw e (answer_ends q o t (entry_at t q) n refl e)

pub open_when : (b : Bool) → one_if (not b) ≤ 0 → b ≡ true
open_when b h = grind arith

-- an open promise follows no other
pub open_follows : (x : Option Entry) → is_open_entry x ≡ true → one_if (is_following_entry x) ≡ 0
open_follows x e = grind arith

ends-holds : (f l g m : PromiseId → ℕ) (q : PromiseId) (t z : Table) → Holds f l t → (is_open q t ≡ true → Ends q t z) → ((h : Reaction → ℕ) → weigh h z ≤ weigh h t)
    → ((x : PromiseId) → g x ≤ f x) → ((x : PromiseId) → g x + m x ≤ f x + l x) → g q + 1 ≤ f q + when (is_unsettled q t) (l q) → Holds g m z
ends-holds f l g m q t z k ends w a b c =
    let h = k.once q in
    let there : is_open q t ≡ true = open_when (is_open q t) (omega arith) in
    let d : Ends q t z = ends there in
    let v = w (in_reaction q) in
    let i = k.led q in let j = open_follows (entry_at t q) there in let n = w (adopts q) in
    puts-holds f l g m q (Some (Some d.after)) t z k (record {
      placed = put-placed q d.before (Some d.after) t z d.there d.entries;
      straight = d.straight ∙ k.straight;
      firm = λ x n. let i = a x in let j = w (in_reaction x) in omega arith;
      all = λ x n. let i = b x in let j = w (in_reaction x) in omega arith;
      here = rw d.over (omega arith);
      others = λ p n. w (adopts p);
      led = rw d.over (omega arith);
    })

-- the promise that stands where it is to be settled is settled, and stands there no more
pub holds-settle : (f l g m : PromiseId → ℕ) (q : PromiseId) (o : Result Plain Plain) (t : Table) → Holds f l t
    → ((x : PromiseId) → g x + names x q ≤ f x) → ((x : PromiseId) → g x + m x ≤ f x + l x) → Holds g m (settle q o t)
holds-settle f l g m q o t k a b =
    ends-holds f l g m q t (settle q o t) k (settle-ends q o t) (λ h. weigh-settle h q o t) (λ x. let n = a x in omega arith) b
    (let n = a q in let one = named q in omega arith)

pub holds-answer : (f l g m : PromiseId → ℕ) (q : PromiseId) (o : Outcome) (t : Table) → is_pending o ≡ false → Holds f l t
    → ((x : PromiseId) → g x + names x q ≤ f x) → ((x : PromiseId) → g x + m x ≤ f x + l x) → Holds g m (answer q o t)
holds-answer f l g m q o t n k a b =
    ends-holds f l g m q t (answer q o t) k (answer-ends q o t n) (λ h. weigh-answer h q o t) (λ x. let n = a x in omega arith) b
    (let n = a q in let one = named q in omega arith)

pending_unsettled : (x : Option (Option Entry)) → is_pending_outcome (option_map (λ (e : Entry). e.outcome) (live x)) ≡ true → not (is_over x) ≡ true
pending_unsettled None e = cc
pending_unsettled (Some None) e = cc
pending_unsettled (Some (Some e)) h = rw h refl

-- a promise that is settled if it hasn't been, and hasn't
pub holds-pending : (f l g m : PromiseId → ℕ) (q : PromiseId) (o : Result Plain Plain) (t : Table) → is_pending_at q t ≡ true → Holds f l t
    → ((x : PromiseId) → g x ≤ f x) → ((x : PromiseId) → g x + m x ≤ f x + l x) → ((x : PromiseId) → g x + names x q ≤ f x + l x) → Holds g m (settle q o t)
holds-pending f l g m q o t e k a b c =
    let u : is_unsettled q t ≡ true = pending_unsettled (place_at t q) e in
    let n = c q in
    let one = named q in
    ends-holds f l g m q t (settle q o t) k (settle-ends q o t) (λ h. weigh-settle h q o t) a b (rw u (omega arith))

-- a promise that is settled if it hasn't been
pub holds-settle_pending : (f l : PromiseId → ℕ) (q : PromiseId) (o : Result Plain Plain) (t : Table) → ((x : PromiseId) → names x q ≤ l x) → Holds f l t → Holds f l (settle_pending q o t)
unfolding settle_pending
holds-settle_pending f l q o t n k =
    either (Holds f l) (is_pending_at q t) (settle q o t) t
    (λ e. holds-pending f l f l q o t e k (λ x. omega arith) (λ x. omega arith) (λ x. let m = n x in omega arith)) (λ e. k)

-- a new promise

past : (es : List (Option Entry)) → slice_get es (length es) ≡ None
past [] = refl
past (x ∷ xs) = past xs

last : (es : List (Option Entry)) (x : Option Entry) → slice_get (es ++ x ∷ []) (length es) ≡ Some x
last [] x = refl
last (e ∷ es) x = last es x

before : (es : List (Option Entry)) (x : Option Entry) (i : ℕ) → i ≢ length es → slice_get (es ++ x ∷ []) i ≡ slice_get es i
before [] x zero n = absurd (n refl)
before [] x (suc i) n = refl
before (e ∷ es) x zero n = refl
before (e ∷ es) x (suc i) n = before es x i (λ h. n (ap suc h))

fresh_placed : (t : Table) (p : PromiseId) (same : Bool) → same ≡ nat_eq p.0 (length t.entries) → place_at (fresh t) p ≡ (if same then Some (Some pending) else place_at t p)
unfolding fresh
fresh_placed t p true e = rw (eq_numbers p.0 (length t.entries) (sym e)) (last t.entries (Some pending))
fresh_placed t p false e = before t.entries (Some pending) p.0 (unequal_numbers p.0 (length t.entries) (sym e))

astray_fresh : (t : Table) → (fresh t).astray ≡ t.astray
unfolding fresh
astray_fresh t = refl

pub holds-fresh : (f l g m : PromiseId → ℕ) (t : Table) → Holds f l t
    → ((x : PromiseId) → g x ≤ f x + names x (next_id t)) → ((x : PromiseId) → g x + m x ≤ f x + (l x + names x (next_id t))) → Holds g m (fresh t)
holds-fresh f l g m t k a b =
    let q : PromiseId = next_id t in
    let h : f q + (l q + (weigh (in_reaction q) t + 1)) ≤ 1 = rw (past t.entries) at (k.once q) in
    let i : weigh (adopts q) t ≤ 0 = rw (past t.entries) at (k.led q) in
    let w = weigh-fresh (in_reaction q) t in let v = weigh-fresh (adopts q) t in
    let n = b q in let one = named q in
    puts-holds f l g m q (Some (Some pending)) t (fresh t) k (record {
      placed = λ p. fresh_placed t p (nat_eq p.0 q.0) refl;
      straight = astray_fresh t ∙ k.straight;
      firm = λ x n. let i = a x in let w = weigh-fresh (in_reaction x) t in let none : names x q ≡ 0 = rw n refl in omega arith;
      all = λ x n. let i = b x in let w = weigh-fresh (in_reaction x) t in let none : names x q ≡ 0 = rw n refl in omega arith;
      here = omega arith;
      others = λ p n. weigh-fresh (adopts p) t;
      led = omega arith;
    })

-- that is settled at once
pub holds-fresh_settled : (f l g m : PromiseId → ℕ) (o : Result Plain Plain) (t : Table) → Holds f l t
    → ((x : PromiseId) → g x ≤ f x) → ((x : PromiseId) → g x + m x ≤ f x + (l x + names x (next_id t))) → Holds g m (fresh_settled o t)
holds-fresh_settled f l g m o t k a b =
    let made : Holds (λ x. f x + names x (next_id t)) l (fresh t) = holds-fresh f l (λ x. f x + names x (next_id t)) l t k (λ x. omega arith) (λ x. omega arith) in
    holds-settle (λ x. f x + names x (next_id t)) l g m (next_id t) o (fresh t) made (λ x. let n = a x in omega arith) (λ x. let n = b x in omega arith)
