-- What is watched: a promise that is there stays, and one that a reply named stays watched. Only the naming of a promise has one watched.
use Rattle.std.proofs.Common.{◌≡◌, ℕ, ◌+◌, ◌<◌, zero, suc, Bool, true, false, ◌||◌, nat_eq, is_some, List, [], ◌∷◌, ◌++◌, length, Option, Some, None, Result, slice_get, refl, sym, ap, ◌∙◌, arith}
use Rattle.std.specs.Prelude.{option_and_then}
use Rattle.ws_value.specs.declared.ids.PromiseId.{PromiseId}
use Rattle.ws_value.specs.declared.value.Outcome.{Outcome}
use Rattle.ws_value.specs.declared.value.Plain.{Plain}
use Rattle.ws_steps.specs.declared.{calls.Call.{Call}, calls.Event.{Event}, calls.Reply.{Reply}, calls.Reply.TheVariants.{Promise as Named}, effects.Effect.{Effect}}
use Rattle.ws_steps.specs.declared.{promises.Job.{Job}, promises.Job.TheVariants.{Reaction as ReactionJob, Follow, Settle, Micro as MicroJob}, promises.Micro.{Micro}, promises.Reaction.{Reaction}, promises.Reaction.TheVariants.{Adopt}}
use Rattle.ws_steps.specs.Begun.{Begun, promising}
use Rattle.ws_steps.specs.Calls.{begin, named}
use Rattle.ws_steps.specs.Jobs.{begin_job, job_begun}
use Rattle.ws_steps.specs.Promises.{Entry, Table, pending, live, entry_at, rank_at, next_id, fresh, settle, answer, react, enqueue_job, job_of, follow, queue_micro, tell, went_astray, next_job, after_first, after_next_job, taken, watch, watch_at, watch_entry}
use Rattle.ws_steps.specs.Run.{Called, Worked, Heard, Entry as Step, step, reply_to, after_call, is_named_by, names_in_step}
use Rattle.ws_steps.specs.Slots.{Slots, Done}
use Rattle.ws_steps.specs.Turns.{row, performed}
use Rattle.ws_steps.proofs.PromiseLaws.{entry_within, entry_at-with_entry_same, entry_at-with_entry_other, entry_at-fresh_new, length-with_entry, length-fresh}
use Rattle.ws_laws.proofs.Begin.{begin-makes}
use Rattle.ws_laws.proofs.Cases.{Puts, settle-cases, answer-cases, react-cases, follow-cases, unfollow-cases, watch-cases}
use Rattle.ws_laws.proofs.Rows.{Changes, row-changes}
use Rattle.ws_laws.proofs.Tables.{eq_numbers, unequal_numbers}
use Rattle.ws_laws.proofs.Walker.{untold, performed-goes}

-- whether there is such a promise
abbrev pub is_there : PromiseId → Table → Bool
is_there p t = is_some (entry_at t p)

-- each promise that was made is there
abbrev pub Whole : Table → Type 0
Whole t = (p : PromiseId) → p.0 < length t.entries → is_there p t ≡ true

-- from the table t to the table z no promise goes
pub record Stands (t z : Table) : Type 0 where
  pub there : (p : PromiseId) → is_there p t ≡ true → is_there p z ≡ true
  pub whole : Whole t → Whole z

-- and none is watched that wasn't
pub record Grows (t z : Table) : Type 0 where
  pub stands : Stands t z
  pub rank : (p : PromiseId) → rank_at z p ≡ rank_at t p

pub stands-same : (t : Table) → Stands t t
stands-same t = record { there = λ p h. h; whole = λ w. w }

pub stands-then : (t u z : Table) → Stands t u → Stands u z → Stands t z
stands-then t u z a b = record { there = λ p h. b.there p (a.there p h); whole = λ w. b.whole (a.whole w) }

pub grows-same : (t : Table) → Grows t t
grows-same t = record { stands = stands-same t; rank = λ p. refl }

pub grows-then : (t u z : Table) → Grows t u → Grows u z → Grows t z
grows-then t u z a b = record { stands = stands-then t u z a.stands b.stands; rank = λ p. b.rank p ∙ a.rank p }

-- no place changes
pub grows-entries : (t z : Table) → z.entries ≡ t.entries → Grows t z
grows-entries t z e =
    let same : (p : PromiseId) → entry_at z p ≡ entry_at t p = λ p. ap (λ (es : List (Option Entry)). live (slice_get es p.0)) e in
    record {
      stands = record { there = λ p h. rw (same p) h; whole = λ w p n. rw (same p) (w p (rw e at n)) };
      rank = λ p. ap (λ (x : Option Entry). option_and_then (λ (e : Entry). e.rank) x) (same p);
    }

-- the place of promise q is written: what holds of its entries, and of one that stays, holds of each promise
put-either : (P : Option Entry → Option Entry → Type 0) (p q : PromiseId) (t z : Table) (e d : Entry) (more : List Job) (same : Bool) → same ≡ nat_eq p.0 q.0 → Puts q t z e d more
    → P (Some e) (Some d) → ((x : Option Entry) → P x x) → P (entry_at t p) (entry_at z p)
put-either P p q t z e d more true s w put stay =
    let is : p ≡ q = ap (λ (n : ℕ). record { 0 = n }) (eq_numbers p.0 q.0 (sym s)) in
    let now : entry_at z q ≡ Some d = ap (λ (es : List (Option Entry)). live (slice_get es q.0)) w.entries ∙ entry_at-with_entry_same t q (Some d) (entry_within t q e w.there) in
    rw (is, w.there, now) put
put-either P p q t z e d more false s w put stay =
    let other : entry_at z p ≡ entry_at t p = ap (λ (es : List (Option Entry)). live (slice_get es p.0)) w.entries ∙ entry_at-with_entry_other t q p (Some d) (λ g. unequal_numbers p.0 q.0 (sym s) (sym g)) in
    rw other (stay (entry_at t p))

put-stands : (q : PromiseId) (t z : Table) (e d : Entry) (more : List Job) → Puts q t z e d more → Stands t z
put-stands q t z e d more w =
    let there : (p : PromiseId) → is_there p t ≡ true → is_there p z ≡ true =
    λ p. put-either (λ x y. is_some x ≡ true → is_some y ≡ true) p q t z e d more (nat_eq p.0 q.0) refl w (λ h. refl) (λ x h. h) in
    let long : length z.entries ≡ length t.entries = ap length w.entries ∙ length-with_entry t q (Some d) in
    record { there = there; whole = λ full p n. there p (full p (rw long at n)) }

put-grows : (q : PromiseId) (t z : Table) (e d : Entry) (more : List Job) → d.rank ≡ e.rank → Puts q t z e d more → Grows t z
put-grows q t z e d more same w = record {
  stands = put-stands q t z e d more w;
  rank = λ p. put-either (λ x y. option_and_then (λ (e : Entry). e.rank) y ≡ option_and_then (λ (e : Entry). e.rank) x) p q t z e d more (nat_eq p.0 q.0) refl w same (λ x. refl);
}

-- a promise is made

appended-either : (P : Option Entry → Option Entry → Type 0) → P None (Some pending) → ((x : Option Entry) → P x x) → (xs : List (Option Entry)) (i : ℕ)
    → P (live (slice_get xs i)) (live (slice_get (xs ++ Some pending ∷ []) i))
appended-either P new stay [] zero = new
appended-either P new stay [] (suc i) = stay None
appended-either P new stay (x ∷ xs) zero = stay x
appended-either P new stay (x ∷ xs) (suc i) = appended-either P new stay xs i

appended-whole : (xs : List (Option Entry)) → ((i : ℕ) → i < length xs → is_some (live (slice_get xs i)) ≡ true) → (i : ℕ) → i < length xs + 1
    → is_some (live (slice_get (xs ++ Some pending ∷ []) i)) ≡ true
appended-whole [] w zero n = refl
appended-whole [] w (suc i) n = absurd (omega arith)
appended-whole (x ∷ xs) w zero n = w zero (omega arith)
appended-whole (x ∷ xs) w (suc i) n = appended-whole xs (λ j m. w (suc j) (omega arith)) i (omega arith)

pub grows-fresh : (t : Table) → Grows t (fresh t)
unfolding fresh
grows-fresh t =
    record {
      stands = record {
        there = λ p. appended-either (λ x y. is_some x ≡ true → is_some y ≡ true) (λ h. refl) (λ x h. h) t.entries p.0;
        whole = λ w p n. appended-whole t.entries (λ i m. w (record { 0 = i }) m) p.0 (let long = length-fresh t in omega arith);
      };
      rank = λ p. appended-either (λ x y. option_and_then (λ (e : Entry). e.rank) y ≡ option_and_then (λ (e : Entry). e.rank) x) refl (λ x. refl) t.entries p.0;
    }

pub next-there : (t : Table) → is_there (next_id t) (fresh t) ≡ true
next-there t = ap (λ (x : Option Entry). is_some x) (entry_at-fresh_new t (next_id t) refl)

-- each operation

astray-grows : (t : Table) → Grows t (went_astray t)
astray-grows t = grows-entries t (went_astray t) refl

settle-grows : (q : PromiseId) (r : Result Plain Plain) (t : Table) → Grows t (settle q r t)
settle-grows q r t = settle-cases (Grows t) q t r (astray-grows t) (λ e z o w. put-grows q t z e _ _ refl w)

answer-grows : (q : PromiseId) (r : Outcome) (t : Table) → Grows t (answer q r t)
answer-grows q r t = answer-cases (Grows t) q t r (astray-grows t) (λ e z o w. put-grows q t z e _ _ refl w)

react-grows : (q : PromiseId) (r : Reaction) (t : Table) → Grows t (react q r t)
react-grows q r t = react-cases (Grows t) q t r (grows-same t) (λ o. grows-entries t (enqueue_job (job_of o r) t) refl) (λ e z o w. put-grows q t z e _ _ refl w)

follow-grows : (p q : PromiseId) (t : Table) → Grows t (follow p q t)
follow-grows p q t = follow-cases (Grows t) p t q (astray-grows t) (λ e z o w. put-grows p t z e _ _ refl w)

micro-grows : (m : Micro) (t : Table) → Grows t (queue_micro m t)
unfolding queue_micro
micro-grows m t = grows-entries t (queue_micro m t) refl

tell-grows : (e : Event) (t : Table) → Grows t (tell e t)
tell-grows e t = grows-entries t (tell e t) refl

taken-grows : (job : Job) (t : Table) → Grows t (taken job t)
taken-grows (ReactionJob step r derived) t = grows-same t
taken-grows (Follow p q) t = react-grows q (Adopt p) t
taken-grows (Settle p r) t = unfollow-cases (Grows t) p t (astray-grows t) (λ e z o w. put-grows p t z e _ _ refl w)
taken-grows (MicroJob m) t = grows-same t

first-grows : (t : Table) (jobs : List Job) → Grows t (after_first t jobs)
first-grows t [] = grows-same t
first-grows t (job ∷ jobs) = grows-then t (record t { jobs = jobs }) (taken job (record t { jobs = jobs })) (grows-entries t _ refl) (taken-grows job (record t { jobs = jobs }))

pub next-grows : (t : Table) → Grows t (after_next_job t)
unfolding after_next_job
next-grows t = first-grows t t.jobs

pub grows-changes : (before : Table) → Changes (Grows before)
grows-changes before = record {
  fresh = λ t k. grows-then before t (fresh t) k (grows-fresh t);
  settle = λ t p o k. grows-then before t (settle p o t) k (settle-grows p o t);
  answer = λ t p o n k. grows-then before t (answer p o t) k (answer-grows p o t);
  react = λ t p r k. grows-then before t (react p r t) k (react-grows p r t);
  follow = λ t p q k. grows-then before t (follow p q t) k (follow-grows p q t);
  micro = λ t m k. grows-then before t (queue_micro m t) k (micro-grows m t);
  tell = λ t e k. grows-then before t (tell e t) k (tell-grows e t);
}

-- what is performed

pub row-grows : (e : Effect) (s : Slots) → Grows s.promises (row e s).slots.promises
row-grows e s = row-changes (Grows s.promises) (grows-changes s.promises) e s (grows-same s.promises)

pub begin-grows : (c : Call) (s : Slots) → Grows s.promises (begin c s).done.slots.promises
begin-grows c s = begin-makes (λ z. Grows s.promises z.promises) (record {
  promise = λ z k. (grows-changes s.promises).fresh z.promises k;
  locks = λ z ls k. k;
  hosts = λ z hs k. k;
  pipe = λ z source dest prevent signal promise k. k;
  signal = λ z k. k;
  transform = λ z kind i j p k. k;
  tee = λ z i j l p k. k;
  port = λ z side i p k. k;
  readable = λ z owner mark size k. k;
  bytes = λ z mark auto k. k;
  byob_requests = λ z r k. k;
  writable = λ z owner mark size k. k;
}) c s (grows-same s.promises)

pub performed-grows : (d : Done) → Grows d.slots.promises (performed d).promises
performed-grows d =
    performed-goes tt (λ f g. tt) untold (λ e s. tt) (λ h s es. Grows d.slots.promises s.promises)
    (λ h s e es k. grows-then d.slots.promises s.promises (row e s).slots.promises k (row-grows e s)) tt d (grows-same d.slots.promises)

begun-grows : (s : Slots) (job : Option Job) → Grows s.promises (job_begun s job).slots.promises
begun-grows s None = grows-same s.promises
begun-grows s (Some job) = next-grows s.promises

-- a promise is watched

pub watch-stands : (q : PromiseId) (t : Table) → Stands t (watch q t)
watch-stands q t = watch-cases (Stands t) q t (stands-same t) (λ e z o w. put-stands q t z e _ _ w)

-- one that was watched stays so
watched-stays : (p q : PromiseId) (t : Table) → is_some (rank_at t p) ≡ true → is_some (rank_at (watch q t) p) ≡ true
watched-stays p q t h =
    watch-cases (λ z. is_some (rank_at z p) ≡ true) q t h
    (λ e z o w. put-either (λ x y. is_some (option_and_then (λ (e : Entry). e.rank) x) ≡ true → is_some (option_and_then (λ (e : Entry). e.rank) y) ≡ true) p q t z e _ _ (nat_eq p.0 q.0) refl w (λ k. refl) (λ x k. k) h)

-- no other is
other-watched : (p q : PromiseId) (t : Table) → nat_eq p.0 q.0 ≡ false → rank_at (watch q t) p ≡ rank_at t p
other-watched p q t n =
    watch-cases (λ z. rank_at z p ≡ rank_at t p) q t refl
    (λ e z o w. ap (λ (x : Option Entry). option_and_then (λ (e : Entry). e.rank) x)
    (ap (λ (es : List (Option Entry)). live (slice_get es p.0)) w.entries ∙ entry_at-with_entry_other t q p _ (λ g. unequal_numbers p.0 q.0 n (sym g))))

-- and this one is, where it is there
entry-watched : (q : PromiseId) (t : Table) (e : Entry) (rank : Option ℕ) → entry_at t q ≡ Some e → e.rank ≡ rank → is_some (rank_at (watch_entry q t e rank) q) ≡ true
entry-watched q t e (Some n) h is = rw (h, is) refl
entry-watched q t e None h is =
    ap (λ (x : Option Entry). is_some (option_and_then (λ (e : Entry). e.rank) x)) (entry_at-with_entry_same t q (Some (record e { rank = Some t.watched })) (entry_within t q e h))

place-watched : (q : PromiseId) (t : Table) (x : Option Entry) → entry_at t q ≡ x → is_some x ≡ true → is_some (rank_at (watch_at q t x) q) ≡ true
place-watched q t None h there = cc
place-watched q t (Some e) h there = entry-watched q t e e.rank h refl

pub there-watched : (q : PromiseId) (t : Table) → is_there q t ≡ true → is_some (rank_at (watch q t) q) ≡ true
unfolding watch
there-watched q t there = place-watched q t (entry_at t q) refl there

-- a reply

pub named-stands : (reply : Reply) (s : Slots) → Stands s.promises (named reply s).promises
named-stands (Named q) s = watch-stands q s.promises
named-stands _ s = stands-same s.promises

reply-stays : (reply : Reply) (s : Slots) (p : PromiseId) → is_some (rank_at s.promises p) ≡ true → is_some (rank_at (named reply s).promises p) ≡ true
reply-stays (Named q) s p h = watched-stays p q s.promises h
reply-stays _ s p h = h

-- the promise that a reply names is there
abbrev pub Answers : Reply → Table → Type 0
Answers (Named q) t = is_there q t ≡ true
Answers _ t = Unit {0}

pub answers-later : (reply : Reply) (t z : Table) → Stands t z → Answers reply t → Answers reply z
answers-later (Named q) t z k a = k.there q a
answers-later _ t z k a = tt

pub or_false : (b : Bool) → b ≡ b || false
or_false b = grind arith

or_true : (b c : Bool) → b ≡ true → b ≡ c || true
or_true b c e = grind arith

watched_by : (p q : PromiseId) (t : Table) (same : Bool) → same ≡ nat_eq p.0 q.0 → is_there q t ≡ true → is_some (rank_at (watch q t) p) ≡ is_some (rank_at t p) || same
watched_by p q t true e there =
    let is : p ≡ q = ap (λ (n : ℕ). record { 0 = n }) (eq_numbers p.0 q.0 (sym e)) in
    or_true (is_some (rank_at (watch q t) p)) (is_some (rank_at t p)) (rw is (there-watched q t there))
watched_by p q t false e there = ap (λ (x : Option ℕ). is_some x) (other-watched p q t (sym e)) ∙ or_false (is_some (rank_at t p))

reply-watches : (reply : Reply) (s : Slots) (p : PromiseId) → Answers reply s.promises → is_some (rank_at (named reply s).promises p) ≡ is_some (rank_at s.promises p) || is_named_by p reply
reply-watches (Named q) s p a = watched_by p q s.promises (nat_eq p.0 q.0) refl a
reply-watches _ s p a = or_false (is_some (rank_at s.promises p))

-- steps

called-grows : (c : Call) (s : Slots) → Grows s.promises (performed (begin c s).done).promises
called-grows c s = grows-then s.promises (begin c s).done.slots.promises (performed (begin c s).done).promises (begin-grows c s) (performed-grows (begin c s).done)

pub worked-grows : (s : Slots) → Grows s.promises (step s Worked).promises
unfolding begin_job
worked-grows s =
    grows-then s.promises (job_begun s (next_job s.promises)).slots.promises (performed (job_begun s (next_job s.promises))).promises
    (begun-grows s (next_job s.promises)) (performed-grows (job_begun s (next_job s.promises)))

-- a promise that is watched stays watched
pub named-stays : (s : Slots) (x : Step) (p : PromiseId) → is_some (rank_at s.promises p) ≡ true → is_some (rank_at (step s x).promises p) ≡ true
named-stays s (Called c) p h =
    let z : Slots = performed (begin c s).done in
    reply-stays (begin c s).reply z p (ap (λ (x : Option ℕ). is_some x) ((called-grows c s).rank p) ∙ h)
named-stays s Worked p h = ap (λ (x : Option ℕ). is_some x) ((worked-grows s).rank p) ∙ h
named-stays s Heard p h = h

-- a promise that is there as the call begins, and that its reply names, is watched
pub named-by : (c : Call) (s : Slots) (p : PromiseId) → is_there p (begin c s).done.slots.promises ≡ true → reply_to c s ≡ Named p → is_some (rank_at (after_call c s).promises p) ≡ true
named-by c s p there is =
    let z : Slots = performed (begin c s).done in
    let now : is_there p z.promises ≡ true = (performed-grows (begin c s).done).stands.there p there in
    rw is (there-watched p z.promises now)

-- so is a new promise that a call is answered
pub named-new : (effects : PromiseId → List Effect) (c : Call) (s : Slots) → begin c s ≡ promising effects s → is_some (rank_at (after_call c s).promises (next_id s.promises)) ≡ true
named-new effects c s is =
    let there : is_there (next_id s.promises) (begin c s).done.slots.promises ≡ true = rw is (next-there s.promises) in
    named-by c s (next_id s.promises) there (ap (λ (b : Begun). b.reply) is)

-- what a step has watched is what it names
pub step-watches : (s : Slots) (x : Step) (p : PromiseId) → ((c : Call) → Answers (begin c s).reply (begin c s).done.slots.promises)
    → is_some (rank_at (step s x).promises p) ≡ is_some (rank_at s.promises p) || names_in_step p s x
step-watches s (Called c) p a =
    let z : Slots = performed (begin c s).done in
    let there = answers-later (begin c s).reply (begin c s).done.slots.promises z.promises (performed-grows (begin c s).done).stands (a c) in
    reply-watches (begin c s).reply z p there ∙ ap (λ (x : Option ℕ). is_some x || is_named_by p (begin c s).reply) ((called-grows c s).rank p)
step-watches s Worked p a = ap (λ (x : Option ℕ). is_some x) ((worked-grows s).rank p) ∙ or_false (is_some (rank_at s.promises p))
step-watches s Heard p a = or_false (is_some (rank_at s.promises p))
