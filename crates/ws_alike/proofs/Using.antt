-- What is done with a promise that an algorithm gave, with the next job, and with a promise that a reply names.
use Rattle.std.proofs.Common.{◌≡◌, ◌∙◌, ℕ, ◌+◌, ◌≤◌, Bool, true, false, if◌then◌else◌, List, [], ◌∷◌, ◌++◌, length, Option, Some, None, Result, Ok, Err, refl, sym, ap, arith}
use Rattle.ws_value.specs.declared.ids.PromiseId.{PromiseId}
use Rattle.ws_value.specs.declared.value.Outcome.{Outcome}
use Rattle.ws_value.specs.declared.value.Outcome.TheVariants.{Pending, Fulfilled, Given, Finished, Rejected}
use Rattle.ws_value.specs.declared.value.Plain.{Plain}
use Rattle.ws_steps.specs.declared.effects.Gift.{Gift}
use Rattle.ws_steps.specs.declared.effects.Gift.TheVariants.{This, Fresh}
use Rattle.ws_steps.specs.declared.effects.Use.{Use}
use Rattle.ws_steps.specs.declared.effects.Use.TheVariants.{React, Resolve}
use Rattle.ws_steps.specs.declared.promises.Job.{Job}
use Rattle.ws_steps.specs.declared.promises.Job.TheVariants.{Reaction as ReactionJob, Follow, Settle, Micro as MicroJob}
use Rattle.ws_steps.specs.declared.promises.Micro.{Micro}
use Rattle.ws_steps.specs.declared.promises.Reaction.{Reaction}
use Rattle.ws_steps.specs.declared.promises.Reaction.TheVariants.{Perform, Adopt}
use Rattle.ws_steps.specs.Promises.{Entry, Table, with_entry, entry_at, next_id, fresh_settled, is_open, is_following, is_pending, ended_as, noted, went_astray, job_of, answer, answer_entry, react, react_by, react_entry, enqueue_job, follow, follow_entry, unfollow, unfollow_entry, queue_micro, watch, watch_at, watch_entry, use_this, use_gift, taken, after_first, after_next_job}
use Rattle.ws_alike.specs.Named.{one, in_use, in_gift, in_job, in_jobs, in_reaction, in_entry, in_entries, in_table}
use Rattle.ws_alike.proofs.Tables.{apart, length-set, answer-blind, react-blind, follow-blind, unfollow-blind, micro-blind, watch-blind, use_gift-blind, job-blind, first-zero, later-zero}
use Rattle.ws_alike.proofs.Names.{in_job-reaction, pending-entry, in_entries-get, in_entries-set, in_table-micro}
use Rattle.ws_alike.proofs.Promising.{Alone, Fit, fresh-settles}
use Rattle.ws_alike.proofs.Steps.{next-apart}
use Rattle.ws_alike.proofs.Lists.{all-append}

-- what of a table is counted: names, and promises
record Fine (p : PromiseId) (t u : Table) : Type 0 where
  pub unnamed : in_table p u ≡ 0
  pub more : length t.entries ≤ length u.entries

same : (p : PromiseId) (t : Table) → in_table p t ≡ 0 → Fine p t t
same p t h = record { unnamed = h; more = omega arith }

either-way : (c : Bool) (n : ℕ) → n ≡ 0 → (if c then n else 0) ≡ 0
either-way true n h = h
either-way false n h = refl

-- an entry is written that names p no more often
wrote : (p q : PromiseId) (t : Table) (e f : Entry) → Some e ≡ entry_at t q → in_table p t ≡ 0 → (in_entry p (Some e) ≡ 0 → in_entry p (Some f) ≡ 0) → Fine p t (with_entry q (Some f) t)
wrote p q t e f is n k =
    let set = in_entries-set p t.entries q.0 (Some f) e (sym is) in
    let get = in_entries-get p t.entries q.0 e (sym is) in
    let before : in_entry p (Some e) ≡ 0 = omega (arith, get, n) in
    record { unnamed = omega (arith, set, before, k before, n); more = rw (length-set t.entries q.0 (Some f)) (omega arith) }

noted-fine : (p q : PromiseId) (t u : Table) (rank : Option ℕ) → Fine p t u → Fine p t (noted q u rank)
noted-fine p q t u None k = k
noted-fine p q t u (Some rank) k = record { unnamed = k.unnamed; more = k.more }

-- answering

answer_entry-fine : (p q : PromiseId) (o : Outcome) (t : Table) (e : Option Entry) → e ≡ entry_at t q → in_table p t ≡ 0 → Fine p t (answer_entry q o t e)
answer_entry-fine p q o t None is n = same p t n
answer_entry-fine p q o t (Some e) is n = noted-fine p q t (with_entry q (Some (ended_as o e)) t) e.rank (wrote p q t e (ended_as o e) is n (λ h. either-way (is_pending o) 0 refl))

answer_by-fine : (p q : PromiseId) (o : Outcome) (t : Table) (e : Option Entry) (b : Bool) → e ≡ entry_at t q → in_table p t ≡ 0 → Fine p t (if b then answer_entry q o t e else went_astray t)
answer_by-fine p q o t e true is n = answer_entry-fine p q o t e is n
answer_by-fine p q o t e false is n = record { unnamed = n; more = omega arith }

pub answers : (p q : PromiseId) (o : Outcome) (t : Table) → one p q ≡ 0 → Fit p t → Alone p (answer q o) t
unfolding answer
answers p q o t n fits =
    let k = answer_by-fine p q o t (entry_at t q) (is_open q t) refl fits.none in
    record { blind = λ x. answer-blind p q o (apart p q n) x t fits.made; unnamed = k.unnamed; more = k.more }

-- reacting

queued-fine : (p : PromiseId) (t : Table) (o : Result Plain Plain) (r : Reaction) → in_reaction p r ≡ 0 → in_table p t ≡ 0 → Fine p t (enqueue_job (job_of o r) t)
queued-fine p t o r m n =
    let last = all-append (in_job p) t.jobs (job_of o r ∷ []) in
    let is = in_job-reaction p o r in
    record { unnamed = omega (arith, last, is, m, n); more = omega arith }

react_by-fine : (p q : PromiseId) (r : Reaction) (t : Table) (e : Entry) (o : Outcome) → o ≡ e.outcome → Some e ≡ entry_at t q → in_reaction p r ≡ 0 → in_table p t ≡ 0 → Fine p t (react_by q r t e o)
react_by-fine p q r t e Pending at is m n =
    let f : Entry = record e { reactions = e.reactions ++ r ∷ [] } in
    let pends : is_pending e.outcome ≡ true = sym (ap is_pending at) in
    wrote p q t e f is n (λ h.
    let a = pending-entry p e pends in
    let b = all-append (in_reaction p) e.reactions (r ∷ []) in
    let c = pending-entry p f pends in omega (arith, a, b, c, h, m))
react_by-fine p q r t e (Fulfilled v) at is m n = queued-fine p t (Ok v) r m n
react_by-fine p q r t e (Rejected v) at is m n = queued-fine p t (Err v) r m n
react_by-fine p q r t e (Given v) at is m n = same p t n
react_by-fine p q r t e (Finished v) at is m n = same p t n

react_entry-fine : (p q : PromiseId) (r : Reaction) (t : Table) (e : Option Entry) → e ≡ entry_at t q → in_reaction p r ≡ 0 → in_table p t ≡ 0 → Fine p t (react_entry q r t e)
react_entry-fine p q r t None is m n = same p t n
react_entry-fine p q r t (Some e) is m n = react_by-fine p q r t e e.outcome refl is m n

pub reacts : (p q : PromiseId) (r : Reaction) (t : Table) → one p q ≡ 0 → in_reaction p r ≡ 0 → Fit p t → Alone p (react q r) t
unfolding react
reacts p q r t n m fits =
    let k = react_entry-fine p q r t (entry_at t q) refl m fits.none in
    record { blind = λ x. react-blind p q r (apart p q n) x t fits.made; unnamed = k.unnamed; more = k.more }

-- following

follow_entry-fine : (p q r : PromiseId) (t : Table) (e : Option Entry) → e ≡ entry_at t q → one p q + one p r ≡ 0 → in_table p t ≡ 0 → Fine p t (follow_entry q r t e)
follow_entry-fine p q r t None is m n = same p t n
follow_entry-fine p q r t (Some e) is m n =
    let k = wrote p q t e (record e { follows = true }) is n (λ h. h) in
    let last = all-append (in_job p) t.jobs (Follow q r ∷ []) in
    record { unnamed = omega (arith, k.unnamed, last, m); more = k.more }

follow_by-fine : (p q r : PromiseId) (t : Table) (e : Option Entry) (b : Bool) → e ≡ entry_at t q → one p q + one p r ≡ 0 → in_table p t ≡ 0 → Fine p t (if b then follow_entry q r t e else went_astray t)
follow_by-fine p q r t e true is m n = follow_entry-fine p q r t e is m n
follow_by-fine p q r t e false is m n = record { unnamed = n; more = omega arith }

pub follows : (p q r : PromiseId) (t : Table) → one p q ≡ 0 → one p r ≡ 0 → Fit p t → Alone p (follow q r) t
unfolding follow
follows p q r t n m fits =
    let k = follow_by-fine p q r t (entry_at t q) (is_open q t) refl (omega (arith, n, m)) fits.none in
    record { blind = λ x. follow-blind p q r (apart p q n) x t fits.made; unnamed = k.unnamed; more = k.more }

unfollow_entry-fine : (p q : PromiseId) (t : Table) (e : Option Entry) → e ≡ entry_at t q → in_table p t ≡ 0 → Fine p t (unfollow_entry q t e)
unfollow_entry-fine p q t None is n = same p t n
unfollow_entry-fine p q t (Some e) is n = wrote p q t e (record e { follows = false }) is n (λ h. h)

unfollow_by-fine : (p q : PromiseId) (t : Table) (e : Option Entry) (b : Bool) → e ≡ entry_at t q → in_table p t ≡ 0 → Fine p t (if b then unfollow_entry q t e else went_astray t)
unfollow_by-fine p q t e true is n = unfollow_entry-fine p q t e is n
unfollow_by-fine p q t e false is n = record { unnamed = n; more = omega arith }

pub unfollows : (p q : PromiseId) (t : Table) → one p q ≡ 0 → Fit p t → Alone p (unfollow q) t
unfolding unfollow
unfollows p q t n fits =
    let k = unfollow_by-fine p q t (entry_at t q) (is_following q t) refl fits.none in
    record { blind = λ x. unfollow-blind p q (apart p q n) x t fits.made; unnamed = k.unnamed; more = k.more }

-- microtasks, and watching

pub queues : (p : PromiseId) (m : Micro) (t : Table) → Fit p t → Alone p (queue_micro m) t
unfolding queue_micro
queues p m t fits = record { blind = λ x. micro-blind p m x t fits.made; unnamed = in_table-micro p m t ∙ fits.none; more = omega arith }

watch_entry-fine : (p q : PromiseId) (t : Table) (e : Entry) (rank : Option ℕ) → Some e ≡ entry_at t q → in_table p t ≡ 0 → Fine p t (watch_entry q t e rank)
watch_entry-fine p q t e (Some rank) is n = same p t n
watch_entry-fine p q t e None is n =
    let k = wrote p q t e (record e { rank = Some t.watched }) is n (λ h. h) in
    record { unnamed = k.unnamed; more = k.more }

watch_at-fine : (p q : PromiseId) (t : Table) (e : Option Entry) → e ≡ entry_at t q → in_table p t ≡ 0 → Fine p t (watch_at q t e)
watch_at-fine p q t None is n = same p t n
watch_at-fine p q t (Some e) is n = watch_entry-fine p q t e e.rank is n

pub watches : (p q : PromiseId) (t : Table) → one p q ≡ 0 → Fit p t → Alone p (watch q) t
unfolding watch
watches p q t n fits =
    let k = watch_at-fine p q t (entry_at t q) refl fits.none in
    record { blind = λ x. watch-blind p q (apart p q n) x t fits.made; unnamed = k.unnamed; more = k.more }

-- what is done with a promise that an algorithm gave

pub uses : (p q : PromiseId) (u : Use) (t : Table) → one p q ≡ 0 → in_use p u ≡ 0 → Fit p t → Alone p (λ z. use_this q z u) t
uses p q (React step derived) t n m fits = reacts p q (Perform step derived) t n m fits
uses p q (Resolve r) t n m fits = follows p r q t m n fits

pub gives : (p : PromiseId) (g : Gift) (u : Use) (t : Table) → in_gift p g ≡ 0 → in_use p u ≡ 0 → Fit p t → Alone p (use_gift g u) t
unfolding use_gift
gives p (This q) u t n m fits = uses p q u t n m fits
gives p (Fresh o) u t n m fits =
    let a = fresh-settles p o t fits in
    let k = uses p (next_id t) u (fresh_settled o t) (next-apart p t fits.made) m (record { made = omega (arith, fits.made, a.more); none = a.unnamed }) in
    record { blind = λ x. use_gift-blind p (Fresh o) u refl m x t fits.made; unnamed = k.unnamed; more = omega (arith, a.more, k.more) }

-- jobs

taken-fine : (p : PromiseId) (job : Job) (t : Table) → in_job p job ≡ 0 → Fit p t → Fine p t (taken job t)
taken-fine p (ReactionJob step outcome derived) t n fits = same p t fits.none
taken-fine p (Follow q r) t n fits =
    let k = reacts p r (Adopt q) t (later-zero (one p q) (one p r) n) (first-zero (one p q) (one p r) n) fits in record { unnamed = k.unnamed; more = k.more }
taken-fine p (Settle q outcome) t n fits = let k = unfollows p q t n fits in record { unnamed = k.unnamed; more = k.more }
taken-fine p (MicroJob m) t n fits = same p t fits.none

after_first-fine : (p : PromiseId) (t : Table) (js : List Job) → js ≡ t.jobs → Fit p t → Fine p t (after_first t js)
after_first-fine p t [] is fits = same p t fits.none
after_first-fine p t (job ∷ jobs) is fits =
    let named : in_job p job + in_jobs p jobs ≡ in_jobs p t.jobs = ap (in_jobs p) is in
    let k = taken-fine p job (record t { jobs = jobs }) (omega (arith, named, fits.none)) (record { made = fits.made; none = omega (arith, named, fits.none) }) in
    record { unnamed = k.unnamed; more = k.more }

pub takes : (p : PromiseId) (t : Table) → Fit p t → Alone p after_next_job t
unfolding after_next_job
takes p t fits =
    let k = after_first-fine p t t.jobs refl fits in
    record { blind = λ x. (job-blind p x t fits.made (first-zero (in_jobs p t.jobs) (in_entries p t.entries) fits.none)).1; unnamed = k.unnamed; more = k.more }
