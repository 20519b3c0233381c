-- A promise that stands where it is to be settled follows another, and stands there no more; and the first job is taken.
use Rattle.std.proofs.Common.{◌≡◌, ℕ, ◌+◌, ◌≤◌, Bool, true, false, not, nat_eq, List, [], ◌∷◌, Option, Some, None, Result, slice_set, refl, sym, ap, ◌∙◌, arith}
use Rattle.ws_value.specs.declared.ids.PromiseId.{PromiseId}
use Rattle.ws_value.specs.declared.value.Plain.{Plain}
use Rattle.ws_steps.specs.declared.{promises.Job.{Job}, promises.Job.TheVariants.{Reaction as ReactionJob, Follow, Settle, Micro as MicroJob}, promises.Reaction.{Reaction}}
use Rattle.ws_steps.specs.declared.promises.Reaction.TheVariants.{Adopt}
use Rattle.ws_steps.specs.Promises.{Entry, Table, entry_at, is_pending, is_open, is_open_entry, is_following, is_following_entry, follow, follow_entry, unfollow, unfollow_entry, react, first_job, after_first, next_job, after_next_job}
use Rattle.ws_laws.proofs.Weights.{weigh, weigh-follow, of_next, weigh-next}
use Rattle.ws_promise_laws.proofs.Holds.{Holds, Alike, alike-same, holds-alike, place-there, puts-holds, put-placed, named, when, is_unsettled}
use Rattle.ws_promise_laws.proofs.Reacting.{react-alike}
use Rattle.ws_promise_laws.proofs.Settling.{open_when, open_follows}
use Rattle.ws_promise_laws.proofs.Tokens.{one_if, names, in_reaction, adopts, in_hand}

-- promise p, which is pending, follows from now on, or no more
pub record Leads (follows : Bool) (p : PromiseId) (t z : Table) : Type 0 where
  pub before : Entry
  pub there : entry_at t p ≡ Some before
  pub pending : is_pending before.outcome ≡ true
  pub entries : z.entries ≡ slice_set t.entries p.0 (Some (record before { follows = follows }))
  pub straight : z.astray ≡ t.astray

follow_leads : (p q : PromiseId) (t : Table) (x : Option Entry) → x ≡ entry_at t p → is_open_entry x ≡ true → Leads true p t (follow_entry p q t x)
follow_leads p q t None h o = cc
follow_leads p q t (Some e) h o = record { before = e; there = sym h; pending = grind arith; entries = refl; straight = refl }

follow-leads : (p q : PromiseId) (t : Table) → is_open p t ≡ true → Leads true p t (follow p q t)
unfolding follow
follow-leads p q t o = rw o (follow_leads p q t (entry_at t p) refl o)

pub holds-follow : (f l g : PromiseId → ℕ) (p q : PromiseId) (t : Table) → Holds f l t → ((x : PromiseId) → g x + names x p ≤ f x) → Holds g l (follow p q t)
holds-follow f l g p q t k a =
    let z : Table = follow p q t in
    let h = k.once p in let n = a p in let one = named p in
    let there : is_open p t ≡ true = open_when (is_open p t) (omega arith) in
    let d : Leads true p t z = follow-leads p q t there in
    let is = place-there t p d.before d.there in
    let once : f p + (when (not (not (is_pending d.before.outcome))) (l p) + (weigh (in_reaction p) t + one_if (not (is_open_entry (Some d.before))))) ≤ 1 = rw is at (k.once p) in
    let w = weigh-follow (in_reaction p) p q t in
    let i = k.led p in let j = open_follows (entry_at t p) there in let v = weigh-follow (adopts p) p q t in
    puts-holds f l g l p (Some (Some (record d.before { follows = true }))) t z k (record {
      placed = put-placed p d.before _ t z d.there d.entries;
      straight = d.straight ∙ k.straight;
      firm = λ x n. let i = a x in let w = weigh-follow (in_reaction x) p q t in omega arith;
      all = λ x n. let i = a x in let w = weigh-follow (in_reaction x) p q t in omega arith;
      here = rw d.pending (let o = rw d.pending at once in omega arith);
      others = λ r n. let w = weigh-follow (adopts r) p q t in let none : one_if (nat_eq r.0 p.0) ≡ 0 = rw n refl in omega arith;
      led = rw d.pending (omega arith);
    })

-- the first job hands over what it is to settle

next_is : (t : Table) (js : List Job) → js ≡ t.jobs → after_next_job t ≡ after_first t js
unfolding after_next_job
next_is t js e = ap (after_first t) (sym e)

next_weighs : (h : Reaction → ℕ) (t : Table) (js : List Job) → js ≡ t.jobs → weigh h (after_next_job t) + of_next h (first_job js) ≤ weigh h t
next_weighs h t js e = rw e (weigh-next h t)

-- a job is taken out that leaves the places of promises alike
next_alike : (f l : PromiseId → ℕ) (t : Table) (js : List Job) → js ≡ t.jobs → Alike t (after_first t js) → ((x : PromiseId) → in_hand x (first_job js) ≤ of_next (in_reaction x) (first_job js)) → Holds f l t
    → Holds (λ x. f x + in_hand x (first_job js)) l (after_next_job t)
next_alike f l t js e a n k =
    holds-alike f l (λ x. f x + in_hand x (first_job js)) t (after_next_job t) k (rw (next_is t js e) a)
    (λ x. let w = next_weighs (in_reaction x) t js e in let m = n x in omega arith)
    (λ p. let w = next_weighs (adopts p) t js e in omega arith)

alike_queue : (t z : Table) (js : List Job) → Alike (record t { jobs = js }) z → Alike t z
alike_queue t z js a = record { over = a.over; open_ = a.open_; following = a.following; straight = a.straight }

unfollow_leads : (p : PromiseId) (t : Table) (x : Option Entry) → x ≡ entry_at t p → is_following_entry x ≡ true → Leads false p t (unfollow_entry p t x)
unfollow_leads p t None h o = cc
unfollow_leads p t (Some e) h o = record { before = e; there = sym h; pending = grind arith; entries = refl; straight = refl }

unfollow-leads : (p : PromiseId) (t : Table) → is_following p t ≡ true → Leads false p t (unfollow p t)
unfolding unfollow
unfollow-leads p t o = rw o (unfollow_leads p t (entry_at t p) refl o)

following_when : (b : Bool) → 1 ≤ one_if b → b ≡ true
following_when b h = grind arith

one_most : (b : Bool) → one_if b ≤ 1
one_most true = omega arith
one_most false = omega arith

-- a promise that follows isn't open
following_shut : (x : Option Entry) → is_following_entry x ≡ true → is_open_entry x ≡ false
following_shut x e = grind arith

settle_holds : (f l : PromiseId → ℕ) (t : Table) (p : PromiseId) (o : Result Plain Plain) (js : List Job) → Settle p o ∷ js ≡ t.jobs → Holds f l t → Holds (λ x. f x + names x p) l (after_next_job t)
settle_holds f l t p o js e k =
    let z : Table = after_next_job t in
    let w = λ (h : Reaction → ℕ). next_weighs h t (Settle p o ∷ js) e in
    let v = w (adopts p) in let u = w (in_reaction p) in
    let one = named p in let h = k.once p in let i = k.led p in
    let led : is_following_entry (entry_at t p) ≡ true = following_when (is_following_entry (entry_at t p)) (omega arith) in
    let d : Leads false p (record t { jobs = js }) z = rw (next_is t (Settle p o ∷ js) e) (unfollow-leads p (record t { jobs = js }) led) in
    let is = place-there t p d.before d.there in
    let shut_ : is_open_entry (entry_at t p) ≡ false = following_shut (entry_at t p) led in
    let once : f p + (when (is_unsettled p t) (l p) + (weigh (in_reaction p) t + 1)) ≤ 1 = rw shut_ at h in
    let loose : f p + (when (not (not (is_pending d.before.outcome))) (l p) + (weigh (in_reaction p) t + 1)) ≤ 1 = rw is at once in
    let most = one_most (is_following_entry (entry_at t p)) in
    puts-holds f l (λ x. f x + names x p) l p (Some (Some (record d.before { follows = false }))) t z k (record {
      placed = put-placed p d.before _ t z d.there d.entries;
      straight = d.straight ∙ k.straight;
      firm = λ x n. let v = w (in_reaction x) in let none : names x p ≡ 0 = rw n refl in omega arith;
      all = λ x n. let v = w (in_reaction x) in let none : names x p ≡ 0 = rw n refl in omega arith;
      here = rw d.pending (let o = rw d.pending at loose in omega arith);
      others = λ r n. let v = w (adopts r) in omega arith;
      led = rw d.pending (omega arith);
    })

next_holds : (f l : PromiseId → ℕ) (t : Table) (js : List Job) → js ≡ t.jobs → Holds f l t → Holds (λ x. f x + in_hand x (first_job js)) l (after_next_job t)
next_holds f l t [] e k = next_alike f l t [] e (alike-same t t refl refl) (λ x. omega arith) k
next_holds f l t (ReactionJob step o derived ∷ js) e k = next_alike f l t (ReactionJob step o derived ∷ js) e (alike-same t (record t { jobs = js }) refl refl) (λ x. omega arith) k
next_holds f l t (Follow p q ∷ js) e k =
    next_alike f l t (Follow p q ∷ js) e (alike_queue t (react q (Adopt p) (record t { jobs = js })) js (react-alike q (Adopt p) (record t { jobs = js }))) (λ x. omega arith) k
next_holds f l t (Settle p o ∷ js) e k = settle_holds f l t p o js e k
next_holds f l t (MicroJob m ∷ js) e k = next_alike f l t (MicroJob m ∷ js) e (alike-same t (record t { jobs = js }) refl refl) (λ x. omega arith) k

pub holds-next : (f l : PromiseId → ℕ) (t : Table) → Holds f l t → Holds (λ x. f x + in_hand x (next_job t)) l (after_next_job t)
holds-next f l t k = next_holds f l t t.jobs refl k
