-- A promise that is answered only with what fills a room, or finished only with whole elements, has such an outcome.
use Rattle.std.proofs.Common.{◌≡◌, ◌≤◌, ℕ, zero, suc, ◌%◌, Bool, true, false, nat_eq, List, [], ◌∷◌, ◌++◌, length, Option, Some, Result, Ok, Err, is_some, slice_get, refl, sym, ap, ◌∙◌, subst, arith}
use Rattle.std.specs.Option.{option_map}
use Rattle.ws_value.specs.declared.ids.PromiseId.{PromiseId}
use Rattle.ws_value.specs.declared.value.{Outcome.{Outcome}, Outcome.TheVariants.{Pending, Fulfilled, Given, Finished, Rejected}, Plain.{Plain}, Plain.TheVariants.{Undefined}, Value.TheVariants.{Plain as PlainValue, Bytes}}
use Rattle.ws_steps.specs.declared.{calls.Call.{Call}, effects.Effect.{Effect}, effects.Effect.TheVariants.{ChunkSteps, CloseSteps, CloseStepsWith}, promises.Job.{Job}, promises.Job.TheVariants.{Reaction as ReactionJob, Follow, Settle, Micro as MicroJob}, promises.Reaction.{Reaction}, promises.Reaction.TheVariants.{Adopt}, promises.Micro.{Micro}}
use Rattle.ws_steps.specs.declared.readable.{ReadRequest.TheVariants.{Promise}}
use Rattle.ws_steps.specs.Calls.{begin}
use Rattle.ws_steps.specs.Promises.{Entry, Table, live, pending, entry_at, outcome_at, next_id, fresh, settled, job_of, enqueue_job, went_astray, settle, answer, react, follow, queue_micro, tell, taken, after_first, after_next_job, watch}
use Rattle.ws_steps.specs.Slots.{Slots}
use Rattle.ws_steps.specs.Turns.{row}
use Rattle.ws_steps.proofs.PromiseLaws.{entry_within, entry_at-with_entry_same, entry_at-with_entry_other}
use Rattle.ws_laws.proofs.Begin.{begin-makes}
use Rattle.ws_laws.proofs.Cases.{Puts, settle-cases, answer-cases, react-cases, follow-cases, unfollow-cases, watch-cases}
use Rattle.ws_laws.proofs.Rows.{Settlings, row-settled}
use Rattle.ws_laws.proofs.Tables.{eq_numbers, unequal_numbers}
use Rattle.ws_laws.proofs.Watched.{is_there, row-grows, begin-grows, next-grows, watch-stands}
use Rattle.ws_promise_laws.proofs.Tokens.{one_if, of_request}
use Rattle.ws_room_read_laws.proofs.Filled.{Fills}
use Rattle.ws_room_read_laws.proofs.Pairs.{IsFair}

module _ (q : PromiseId) (space unit least : ℕ) where
  abbrev pub IsFairOutcome : Outcome → Type 0
  IsFairOutcome Pending = Unit {0}
  IsFairOutcome (Fulfilled v) = Unit {0}
  IsFairOutcome (Rejected r) = Unit {0}
  IsFairOutcome (Given (Bytes b)) = Fills space unit least b
  IsFairOutcome (Given (PlainValue p)) = Unit {0}
  IsFairOutcome (Finished (Bytes b)) = length b % unit ≡ 0
  IsFairOutcome (Finished (PlainValue p)) = Unit {0}

  -- where the promise is there, it has a fair outcome
  abbrev pub FairAt : Table → Type 0
  FairAt t = (o : Outcome) → outcome_at t q ≡ Some o → IsFairOutcome o

  outcome_of : Option Entry → Option Outcome
  outcome_of x = option_map (λ (e : Entry). e.outcome) x

  some_outcome : (x y : Outcome) → ◌≡◌ {A = Option Outcome} (Some x) (Some y) → x ≡ y
  some_outcome x y e = cc

  put-fair : (p : PromiseId) (t z : Table) (e d : Entry) (more : List Job) (same : Bool) → same ≡ nat_eq q.0 p.0 → Puts p t z e d more → (q ≡ p → IsFairOutcome e.outcome → IsFairOutcome d.outcome) → FairAt t → FairAt z
  unfolding outcome_of
  put-fair p t z e d more true s w put f o h =
      let is : q ≡ p = ap (λ (n : ℕ). record { 0 = n }) (eq_numbers q.0 p.0 (sym s)) in
      let now : entry_at z p ≡ Some d = ap (λ (es : List (Option Entry)). live (slice_get es p.0)) w.entries ∙ entry_at-with_entry_same t p (Some d) (entry_within t p e w.there) in
      let at : outcome_at z p ≡ Some o = rw is at h in
      let new : d.outcome ≡ o = some_outcome d.outcome o (sym (ap outcome_of now) ∙ at) in
      let was : outcome_at t q ≡ Some e.outcome = rw is (ap outcome_of w.there) in
      subst IsFairOutcome new (put is (f e.outcome was))
  put-fair p t z e d more false s w put f o h =
      let other : entry_at z q ≡ entry_at t q = ap (λ (es : List (Option Entry)). live (slice_get es q.0)) w.entries ∙ entry_at-with_entry_other t p q (Some d) (λ g. unequal_numbers q.0 p.0 (sym s) (sym g)) in
      f o (ap outcome_of (sym other) ∙ h)

  entries-fair : (t z : Table) → z.entries ≡ t.entries → FairAt t → FairAt z
  entries-fair t z e f o h = f o (ap (λ (es : List (Option Entry)). option_map (λ (e : Entry). e.outcome) (live (slice_get es q.0))) (sym e) ∙ h)

  fresh-outcome : (xs : List (Option Entry)) (n : ℕ) (o : Outcome) → option_map (λ (e : Entry). e.outcome) (live (slice_get (xs ++ Some pending ∷ []) n)) ≡ Some o
      → ((p : Outcome) → option_map (λ (e : Entry). e.outcome) (live (slice_get xs n)) ≡ Some p → IsFairOutcome p) → IsFairOutcome o
  fresh-outcome [] zero o h f = subst IsFairOutcome (some_outcome Pending o h) tt
  fresh-outcome [] (suc n) o h f = absurd (cc)
  fresh-outcome (x ∷ xs) zero o h f = f o h
  fresh-outcome (x ∷ xs) (suc n) o h f = fresh-outcome xs n o h f

  fresh-fair : (t : Table) → FairAt t → FairAt (fresh t)
  unfolding fresh
  fresh-fair t f o h = fresh-outcome t.entries q.0 o h f

  settled-fair : (r : Result Plain Plain) → IsFairOutcome (settled r)
  settled-fair (Ok v) = tt
  settled-fair (Err e) = tt

  settle-fair : (t : Table) (p : PromiseId) (r : Result Plain Plain) → FairAt t → FairAt (settle p r t)
  settle-fair t p r f =
      settle-cases FairAt p t r (entries-fair t (went_astray t) refl f) (λ e z o w. put-fair p t z e _ _ (nat_eq q.0 p.0) refl w (λ is k. settled-fair r) f)

  answer-fair : (t : Table) (p : PromiseId) (r : Outcome) → (q ≡ p → IsFairOutcome r) → FairAt t → FairAt (answer p r t)
  answer-fair t p r g f = answer-cases FairAt p t r (entries-fair t (went_astray t) refl f) (λ e z o w. put-fair p t z e _ _ (nat_eq q.0 p.0) refl w (λ is k. g is) f)

  react-fair : (t : Table) (p : PromiseId) (r : Reaction) → FairAt t → FairAt (react p r t)
  react-fair t p r f =
      react-cases FairAt p t r f (λ o. entries-fair t (enqueue_job (job_of o r) t) refl f) (λ e z o w. put-fair p t z e _ _ (nat_eq q.0 p.0) refl w (λ is k. k) f)

  follow-fair : (t : Table) (p x : PromiseId) → FairAt t → FairAt (follow p x t)
  follow-fair t p x f = follow-cases FairAt p t x (entries-fair t (went_astray t) refl f) (λ e z o w. put-fair p t z e _ _ (nat_eq q.0 p.0) refl w (λ is k. k) f)

  micro-fair : (t : Table) (m : Micro) → FairAt t → FairAt (queue_micro m t)
  unfolding queue_micro
  micro-fair t m f = entries-fair t (queue_micro m t) refl f

  settlings : Settlings FairAt
  settlings = record { fresh = fresh-fair; settle = settle-fair; react = react-fair; follow = follow-fair; micro = micro-fair; tell = λ t e f. entries-fair t (tell e t) refl f }

  -- it stands in this request
  self : (p : PromiseId) → q ≡ p → 1 ≤ of_request q (Promise p)
  self p is = rw (← is) (grind arith)

  row-fair : (e : Effect) (s : Slots) → IsFair (of_request q) space unit least e → FairAt s.promises → FairAt (row e s).slots.promises
  unfolding row
  row-fair (ChunkSteps i (Promise p) (Bytes b)) s n f = answer-fair s.promises p (Given (Bytes b)) (λ is. n (self p is)) f
  row-fair (ChunkSteps i (Promise p) (PlainValue v)) s n f = answer-fair s.promises p (Given (PlainValue v)) (λ is. tt) f
  row-fair (CloseSteps i (Promise p)) s n f = answer-fair s.promises p (Finished (PlainValue Undefined)) (λ is. tt) f
  row-fair (CloseStepsWith i (Promise p) b) s n f = answer-fair s.promises p (Finished (Bytes b)) (λ is. n (self p is)) f
  row-fair e s n f = row-settled FairAt settlings e s tt f

  taken-fair : (job : Job) (t : Table) → FairAt t → FairAt (taken job t)
  taken-fair (ReactionJob step r derived) t f = f
  taken-fair (Follow p x) t f = react-fair t x (Adopt p) f
  taken-fair (Settle p r) t f = unfollow-cases FairAt p t (entries-fair t (went_astray t) refl f) (λ e z o w. put-fair p t z e _ _ (nat_eq q.0 p.0) refl w (λ is k. k) f)
  taken-fair (MicroJob m) t f = f

  first-fair : (t : Table) (jobs : List Job) → FairAt t → FairAt (after_first t jobs)
  first-fair t [] f = f
  first-fair t (job ∷ jobs) f = taken-fair job (record t { jobs = jobs }) (entries-fair t (record t { jobs = jobs }) refl f)

  next-fair : (t : Table) → FairAt t → FairAt (after_next_job t)
  unfolding after_next_job
  next-fair t f = first-fair t t.jobs f

  watch-fair : (p : PromiseId) (t : Table) → FairAt t → FairAt (watch p t)
  watch-fair p t f = watch-cases FairAt p t f (λ e z o w. put-fair p t z e _ _ (nat_eq q.0 p.0) refl w (λ is k. k) f)

  begins-fair : (c : Call) (s : Slots) → FairAt s.promises → FairAt (begin c s).done.slots.promises
  begins-fair c s f = begin-makes (λ z. FairAt z.promises) (record {
    promise = λ z k. fresh-fair z.promises k;
    locks = λ z ls k. k;
    hosts = λ z hs k. k;
    pipe = λ z source dest prevent signal promise k. k;
    signal = λ z k. k;
    transform = λ z kind i j p k. k;
    tee = λ z source first second cancel k. k;
    port = λ z side stream backpressure k. k;
    readable = λ z owner mark size k. k;
    bytes = λ z mark auto k. k;
    byob_requests = λ z r k. k;
    writable = λ z owner mark size k. k;
  }) c s f

  -- it is there, and fair
  abbrev pub Answered : Table → Type 0
  Answered t = FairAt t × (is_there q t ≡ true)

  no-place : (xs : List (Option Entry)) (n : ℕ) → n ≡ length xs → is_some (live (slice_get xs n)) ≡ false
  no-place [] n e = refl
  no-place (x ∷ xs) zero e = absurd (omega (arith, e))
  no-place (x ∷ xs) (suc n) e = no-place xs n (omega (arith, e))

  other-name : (t : Table) (same : Bool) → same ≡ nat_eq q.0 (next_id t).0 → is_there q t ≡ true → one_if same ≡ 0
  other-name t false e there = refl
  other-name t true e there = let none = no-place t.entries q.0 (eq_numbers q.0 (next_id t).0 (sym e)) in absurd (cc)

  pub answered-fresh : (t : Table) → Answered t → of_request q (Promise (next_id t)) ≡ 0
  answered-fresh t a = other-name t (nat_eq q.0 (next_id t).0) refl a.1

  pub answered-row : (e : Effect) (s : Slots) → IsFair (of_request q) space unit least e → Answered s.promises → Answered (row e s).slots.promises
  answered-row e s n a = (row-fair e s n a.0, (row-grows e s).stands.there q a.1)

  pub answered-begin : (c : Call) (s : Slots) → Answered s.promises → Answered (begin c s).done.slots.promises
  answered-begin c s a = (begins-fair c s a.0, (begin-grows c s).stands.there q a.1)

  pub answered-next : (t : Table) → Answered t → Answered (after_next_job t)
  answered-next t a = (next-fair t a.0, (next-grows t).stands.there q a.1)

  pub answered-watch : (p : PromiseId) (t : Table) → Answered t → Answered (watch p t)
  answered-watch p t a = (watch-fair p t a.0, (watch-stands p t).there q a.1)

  pub answered-heard : (t z : Table) → z.entries ≡ t.entries → Answered t → Answered z
  answered-heard t z e a = (entries-fair t z e a.0, ap (λ (es : List (Option Entry)). is_some (live (slice_get es q.0))) e ∙ a.1)

  -- a promise that is new
  pub answered-new : (t : Table) (o : Outcome) → outcome_at t q ≡ Some o → IsFairOutcome o → is_there q t ≡ true → Answered t
  answered-new t o is f there = (λ p h. subst IsFairOutcome (some_outcome o p (sym is ∙ h)) f, there)
