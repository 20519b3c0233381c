-- The result of a write is heard by its stream: the reaction is registered with it, or is about to be, or with a promise that follows it.
use Rattle.std.proofs.Common.{◌≡◌, ◌⊎◌, inl, inr, ⊎_elim, ℕ, zero, suc, ◌+◌, ◌≤◌, ◌<◌, Bool, true, false, if◌then◌else◌, nat_eq, List, [], ◌∷◌, ◌++◌, Option, Some, None, refl, sym, subst, ap, ◌∙◌, arith}
use Rattle.ws_value.specs.declared.{ids.PromiseId.{PromiseId}, value.Outcome.{Outcome}, value.Outcome.TheVariants.{Pending, Fulfilled, Given, Finished, Rejected}}
use Rattle.ws_steps.specs.declared.effects.{Effect.{Effect}, Gift.TheVariants.{This}, Use.TheVariants.{React, Resolve}}
use Rattle.ws_steps.specs.declared.effects.Effect.TheVariants.{Give}
use Rattle.ws_steps.specs.declared.promises.{Job.{Job}, Reaction.{Reaction}, Reaction.TheVariants.{Perform, Adopt}, Step.{Step}}
use Rattle.ws_steps.specs.declared.promises.Job.TheVariants.{Follow}
use Rattle.ws_steps.specs.Promises.{Entry, Table, entry_at, is_pending, is_open, is_open_entry, is_following_entry, react, react_by, follow, follow_entry, use_gift, next_job, first_job, after_first, after_next_job}
use Rattle.ws_steps.specs.Slots.{Slots, with_promises}
use Rattle.ws_steps.specs.Turns.{row}
use Rattle.ws_steps.proofs.PromiseLaws.{entry_within, entry_at-with_entry_same}
use Rattle.ws_laws.proofs.Outcomes.{open_pending}
use Rattle.ws_laws.proofs.Rows.{row-changes}
use Rattle.ws_laws.proofs.Tables.{eq_numbers}
use Rattle.ws_laws.proofs.Weights.{of_job, weigh}
use Rattle.ws_writable_laws.proofs.Shape.{all, all-append, of_reaction}
use Rattle.ws_promise_laws.proofs.Realm.{Sound}
use Rattle.ws_promise_laws.proofs.Tokens.{names, adopts, in_effects, one_if as promises_one_if}
use Rattle.ws_transform_laws.proofs.Stages.{open-at}
use Rattle.ws_transform_laws.proofs.Waiting.{Waits, Queued, waits-changes, queued-changes, waits-next, queued-next, of_reactions-append, in_jobs-append, entry_weighs, jobs_within}

-- promises that haven't settled

pub record IsPending (p : PromiseId) (t : Table) : Type 0 where
  pub entry : Entry
  pub there : entry_at t p ≡ Some entry
  pub pends : is_pending entry.outcome ≡ true

pub open-pending : (p : PromiseId) (t : Table) → is_open p t ≡ true → IsPending p t
open-pending p t o = by (entry_at t p) refl o
  where
    by : (x : Option Entry) → x ≡ entry_at t p → is_open_entry x ≡ true → IsPending p t
    by None e o = cc
    by (Some d) e o = record { entry = d; there = sym e; pends = open_pending (is_pending d.outcome) d.follows o }

following-pending : (p : PromiseId) (t : Table) → is_following_entry (entry_at t p) ≡ true → IsPending p t
following-pending p t o = by (entry_at t p) refl o
  where
    pends : (a b : Bool) → (if a then b else false) ≡ true → a ≡ true
    pends true b e = refl
    pends false b e = cc

    by : (x : Option Entry) → x ≡ entry_at t p → is_following_entry x ≡ true → IsPending p t
    by None e o = cc
    by (Some d) e o = record { entry = d; there = sym e; pends = pends (is_pending d.outcome) d.follows o }

-- what waits at one weighs as much in all
pub pending-weighs : (f : Reaction → ℕ) (n : ℕ) (p : PromiseId) (t : Table) → IsPending p t → Waits f n p t → n ≤ weigh f t
unfolding weigh
pending-weighs f n p t k w =
    let both : ◌≡◌ {A = Option Entry} (Some k.entry) (Some w.entry) = sym k.there ∙ w.there in
    let same : k.entry ≡ w.entry = cc in
    let a = w.waits (ap (λ (x : Entry). is_pending x.outcome) (sym same) ∙ k.pends) in
    let b = entry_weighs f t.entries p.0 w.entry w.there in omega arith

queued-weighs : (g : Job → ℕ) (f : Reaction → ℕ) (n : ℕ) (t : Table) → ((j : Job) → g j ≤ of_job f j) → Queued g n t → n ≤ weigh f t
unfolding weigh
queued-weighs g f n t l k = let a = jobs_within g f l t.jobs in omega arith

-- a reaction to one is registered with it

pending-by : (f : Reaction → ℕ) (p : PromiseId) (r : Reaction) (t : Table) (e : Entry) (o : Outcome) → entry_at t p ≡ Some e → e.outcome ≡ o
    → is_pending o ≡ true → Waits f (f r) p (react_by p r t e o)
pending-by f p r t e Pending there is pends =
    let d : Entry = record e { reactions = e.reactions ++ r ∷ [] } in
    record { entry = d; there = entry_at-with_entry_same t p (Some d) (entry_within t p e there); waits = λ h. let m = of_reactions-append f e.reactions (r ∷ []) in omega arith }
pending-by f p r t e (Fulfilled v) there is pends = cc
pending-by f p r t e (Rejected v) there is pends = cc
pending-by f p r t e (Given v) there is pends = cc
pending-by f p r t e (Finished v) there is pends = cc

pub pending-react : (f : Reaction → ℕ) (p : PromiseId) (r : Reaction) (t : Table) → IsPending p t → Waits f (f r) p (react p r t)
unfolding react
pending-react f p r t k = rw k.there (pending-by f p r t k.entry k.entry.outcome k.there refl k.pends)

-- a promise that comes to follow another

pub follow-queues : (f : Job → ℕ) (p q : PromiseId) (t : Table) → is_open p t ≡ true → Queued f (f (Follow p q)) (follow p q t)
unfolding follow
follow-queues f p q t o = rw o (by (entry_at t p) refl o)
  where
    by : (x : Option Entry) → x ≡ entry_at t p → is_open_entry x ≡ true → Queued f (f (Follow p q)) (follow_entry p q t x)
    by None e o = cc
    by (Some d) e o = let a = in_jobs-append f t.jobs (Follow p q ∷ []) in omega arith

next-adopts : (f : Reaction → ℕ) (p q : PromiseId) (t : Table) → next_job t ≡ Some (Follow p q) → IsPending q t → Waits f (f (Adopt p)) q (after_next_job t)
unfolding after_next_job
next-adopts f p q t e k = by t.jobs e
  where
    by : (js : List Job) → first_job js ≡ Some (Follow p q) → Waits f (f (Adopt p)) q (after_first t js)
    by [] e = cc
    by (j ∷ js) e =
        let is : j ≡ Follow p q = cc in
        rw is (pending-react f q (Adopt p) (record t { jobs = js }) (record { entry = k.entry; there = k.there; pends = k.pends }))

-- promise q is to follow d, or follows it

abbrev pub gives : PromiseId → PromiseId → Effect → ℕ
gives q d (Give (This c) (Resolve x)) = if nat_eq d.0 c.0 then names q x else 0
gives q d _ = 0

abbrev pub follows : PromiseId → PromiseId → Job → ℕ
follows q d (Follow x y) = if nat_eq d.0 y.0 then names q x else 0
follows q d _ = 0

pub data Leads (q d : PromiseId) (s : Slots) (es : List Effect) : Type 0 where
  Resolves : 0 < all (gives q d) es → Leads q d s es
  Follows : Queued (follows q d) 1 s.promises → Leads q d s es
  Adopts : Waits (adopts q) 1 d s.promises → Leads q d s es

gives-names : (q d : PromiseId) (es : List Effect) → all (gives q d) es ≤ in_effects q es
gives-names q d [] = omega arith
gives-names q d (e ∷ es) = let a = one e in let b = gives-names q d es in omega arith
  where
    one : (e : Effect) → gives q d e ≤ in_effects q (e ∷ [])
    one e = grind arith

follows-adopts : (q d : PromiseId) (j : Job) → follows q d j ≤ of_job (adopts q) j
follows-adopts q d j = grind arith

led-pending : (f : PromiseId → ℕ) (q : PromiseId) (s : Slots) → Sound f s → 1 ≤ weigh (adopts q) s.promises → IsPending q s.promises
led-pending f q s k n = let l = k.holds.led q in following-pending q s.promises (by (is_following_entry (entry_at s.promises q)) (within l n))
  where
    within : {m k : ℕ} → m ≤ k → 1 ≤ m → 1 ≤ k
    within a b = omega (arith, a, b)

    by : (b : Bool) → 1 ≤ promises_one_if b → b ≡ true
    by true l = refl
    by false l = absurd (omega arith)

pub leads-pending : (q d : PromiseId) (s : Slots) (es : List Effect) → Sound (λ p. in_effects p es) s → IsPending d s.promises → Leads q d s es
    → IsPending q s.promises
leads-pending q d s es k pd (Resolves n) =
    let a = gives-names q d es in open-pending q s.promises (open-at (λ p. in_effects p es) q s k (omega arith))
leads-pending q d s es k pd (Follows n) = led-pending (λ p. in_effects p es) q s k (queued-weighs (follows q d) (adopts q) 1 s.promises (follows-adopts q d) n)
leads-pending q d s es k pd (Adopts w) = led-pending (λ p. in_effects p es) q s k (pending-weighs (adopts q) 1 d s.promises pd w)

gives-only : (q d : PromiseId) (e : Effect) → 0 < gives q d e → e ≡ Give (This d) (Resolve q)
gives-only q d (Give (This c) (Resolve x)) n = by (nat_eq d.0 c.0) (nat_eq q.0 x.0) refl refl n
  where
    by : (a b : Bool) → a ≡ nat_eq d.0 c.0 → b ≡ nat_eq q.0 x.0 → 0 < (if a then promises_one_if b else 0)
        → Give (This c) (Resolve x) ≡ Give (This d) (Resolve q)
    by true true e f n =
        let one : d ≡ c = ap (λ (k : ℕ). record { 0 = k }) (eq_numbers d.0 c.0 (sym e)) in
        let two : q ≡ x = ap (λ (k : ℕ). record { 0 = k }) (eq_numbers q.0 x.0 (sym f)) in rw (one, two) refl
    by true false e f n = absurd (omega arith)
    by false b e f n = absurd (omega arith)
gives-only q d _ n = absurd (omega arith)

names-self : (q : PromiseId) → names q q ≡ 1
names-self q = grind arith

follows-self : (q d : PromiseId) → follows q d (Follow q d) ≡ 1
follows-self q d = grind arith

given-row : (q d : PromiseId) (s : Slots) → is_open q s.promises ≡ true → Queued (follows q d) 1 (row (Give (This d) (Resolve q)) s).slots.promises
unfolding row use_gift
given-row q d s o = let one = follows-self q d in rw one at (follow-queues (follows q d) q d s.promises o)

pub leads-row : (q d : PromiseId) (s : Slots) (e : Effect) (es : List Effect) → Sound (λ p. in_effects p (e ∷ es)) s → Leads q d s (e ∷ es)
    → Leads q d (row e s).slots ((row e s).caused ++ es)
leads-row q d s e es k (Resolves n) = by (gives q d e) refl
  where
    by : (m : ℕ) → m ≡ gives q d e → Leads q d (row e s).slots ((row e s).caused ++ es)
    by zero f = let a = all-append (gives q d) (row e s).caused es in Resolves (omega arith)
    by (suc m) f =
        let is = gives-only q d e (omega arith) in
        let a = gives-names q d (e ∷ es) in
        let o = open-at (λ p. in_effects p (e ∷ es)) q s k (omega arith) in
        Follows (subst (λ (g : Effect). Queued (follows q d) 1 (row g s).slots.promises) (sym is) (given-row q d s o))
leads-row q d s e es k (Follows n) = Follows (row-changes (Queued (follows q d) 1) (queued-changes (follows q d) 1) e s n)
leads-row q d s e es k (Adopts w) = Adopts (row-changes (Waits (adopts q) 1 d) (waits-changes (adopts q) 1 d) e s w)

follows-only : (q d : PromiseId) (j : Job) → (follows q d j ≡ 0) ⊎ (j ≡ Follow q d)
follows-only q d (Follow x y) = by (nat_eq d.0 y.0) (nat_eq q.0 x.0) refl refl
  where
    by : (a b : Bool) → a ≡ nat_eq d.0 y.0 → b ≡ nat_eq q.0 x.0 → ((if a then promises_one_if b else 0) ≡ 0) ⊎ (Follow x y ≡ Follow q d)
    by true true e f =
        let one : d ≡ y = ap (λ (k : ℕ). record { 0 = k }) (eq_numbers d.0 y.0 (sym e)) in
        let two : q ≡ x = ap (λ (k : ℕ). record { 0 = k }) (eq_numbers q.0 x.0 (sym f)) in inr (rw (one, two) refl)
    by true false e f = inl refl
    by false b e f = inl refl
follows-only q d _ = inl refl

adopts-self : (q : PromiseId) → adopts q (Adopt q) ≡ 1
adopts-self q = grind arith

pub leads-next : (q d : PromiseId) (s : Slots) (job : Job) (es : List Effect) → next_job s.promises ≡ Some job → IsPending d s.promises
    → Leads q d s [] → Leads q d (with_promises (after_next_job s.promises) s) es
leads-next q d s job es e k (Resolves n) = absurd (omega arith)
leads-next q d s job es e k (Follows n) =
    ⊎_elim (λ none. Follows (queued-next (follows q d) 1 s.promises job e (omega arith)))
    (λ is. let one = adopts-self q in Adopts (rw one at (next-adopts (adopts q) q d s.promises (e ∙ ap (λ (j : Job). Some j) is) k)))
    (follows-only q d job)
leads-next q d s job es e k (Adopts w) = Adopts (waits-next (adopts q) 1 d s.promises w)

-- what goes on with the promises
pub record Carries (s z : Slots) : Type 0 where
  pub waits : (f : Reaction → ℕ) (p : PromiseId) → Waits f 1 p s.promises → Waits f 1 p z.promises
  pub queued : (f : Job → ℕ) → Queued f 1 s.promises → Queued f 1 z.promises

leads-on : (q d : PromiseId) (s z : Slots) (es : List Effect) → Carries s z → Leads q d s [] → Leads q d z es
leads-on q d s z es c (Resolves n) = absurd (omega arith)
leads-on q d s z es c (Follows n) = Follows (c.queued (follows q d) n)
leads-on q d s z es c (Adopts w) = Adopts (c.waits (adopts q) d w)

-- by a step that weighs so
module _ (heard : Step → ℕ) where
  abbrev pub hears : Reaction → ℕ
  hears = of_reaction heard

  -- it is to be heard of
  abbrev pub tells : PromiseId → Effect → ℕ
  tells d (Give (This c) (React step derived)) = if nat_eq d.0 c.0 then heard step else 0
  tells d _ = 0

  abbrev pub tells_any : Effect → ℕ
  tells_any (Give (This c) (React step derived)) = heard step
  tells_any _ = 0

  pub data Ear (s : Slots) (es : List Effect) : PromiseId → Type 0 where
    Hears : {d : PromiseId} → Waits hears 1 d s.promises → Ear s es d
    Told : {d : PromiseId} → 0 < all (tells d) es → Ear s es d
    Led : {d : PromiseId} → (q : PromiseId) → Leads q d s es → Ear s es q → Ear s es d

  tells-any : (d : PromiseId) (es : List Effect) → all (tells d) es ≤ all tells_any es
  tells-any d [] = omega arith
  tells-any d (e ∷ es) = let a = one e in let b = tells-any d es in omega arith
    where
      one : (e : Effect) → tells d e ≤ tells_any e
      one e = grind arith

  -- so something weighs
  pub ear-weighs : (s : Slots) (es : List Effect) (d : PromiseId) → Sound (λ p. in_effects p es) s → IsPending d s.promises → Ear s es d
      → 1 ≤ weigh hears s.promises + all tells_any es
  ear-weighs s es d k pd (Hears w) = let a = pending-weighs hears 1 d s.promises pd w in omega arith
  ear-weighs s es d k pd (Told n) = let a = tells-any d es in omega arith
  ear-weighs s es d k pd (Led q l e) = ear-weighs s es q k (leads-pending q d s es k pd l) e

  weaker : (n : ℕ) (p : PromiseId) (z : Table) → 0 < n → Waits hears n p z → Waits hears 1 p z
  weaker n p z l w = record { entry = w.entry; there = w.there; waits = λ h. let a = w.waits h in omega arith }

  told-row : (d : PromiseId) (s : Slots) (e : Effect) → 0 < tells d e → IsPending d s.promises → Waits hears 1 d (row e s).slots.promises
  unfolding row use_gift
  told-row d s (Give (This c) (React step derived)) n k = by (nat_eq d.0 c.0) refl n
    where
      by : (a : Bool) → a ≡ nat_eq d.0 c.0 → 0 < (if a then heard step else 0) → Waits hears 1 d (react c (Perform step derived) s.promises)
      by true e n =
          let one : d ≡ c = ap (λ (k : ℕ). record { 0 = k }) (eq_numbers d.0 c.0 (sym e)) in
          let w : Waits hears 1 d (react d (Perform step derived) s.promises) = weaker (heard step) d (react d (Perform step derived) s.promises) n (pending-react hears d (Perform step derived) s.promises k) in
          subst (λ (x : PromiseId). Waits hears 1 d (react x (Perform step derived) s.promises)) one w
      by false e n = absurd (omega arith)
  told-row d s _ n k = absurd (omega arith)

  pub ear-row : (s : Slots) (e : Effect) (es : List Effect) (d : PromiseId) → Sound (λ p. in_effects p (e ∷ es)) s → IsPending d s.promises
      → Ear s (e ∷ es) d → Ear (row e s).slots ((row e s).caused ++ es) d
  ear-row s e es d k pd (Hears w) = Hears (row-changes (Waits hears 1 d) (waits-changes hears 1 d) e s w)
  ear-row s e es d k pd (Told n) = by (tells d e) refl
    where
      by : (m : ℕ) → m ≡ tells d e → Ear (row e s).slots ((row e s).caused ++ es) d
      by zero f = let a = all-append (tells d) (row e s).caused es in Told (omega arith)
      by (suc m) f = Hears (told-row d s e (omega arith) pd)
  ear-row s e es d k pd (Led q l r) = Led q (leads-row q d s e es k l) (ear-row s e es q k (leads-pending q d s (e ∷ es) k pd l) r)

  pub ear-next : (s : Slots) (job : Job) (es : List Effect) (d : PromiseId) → Sound (λ p. in_effects p []) s → next_job s.promises ≡ Some job
      → IsPending d s.promises → Ear s [] d → Ear (with_promises (after_next_job s.promises) s) es d
  ear-next s job es d k e pd (Hears w) = Hears (waits-next hears 1 d s.promises w)
  ear-next s job es d k e pd (Told n) = absurd (omega arith)
  ear-next s job es d k e pd (Led q l r) = Led q (leads-next q d s job es e pd l) (ear-next s job es q k e (leads-pending q d s [] k pd l) r)

  pub ear-on : (s z : Slots) (es : List Effect) (d : PromiseId) → Carries s z → Ear s [] d → Ear z es d
  ear-on s z es d c (Hears w) = Hears (c.waits hears d w)
  ear-on s z es d c (Told n) = absurd (omega arith)
  ear-on s z es d c (Led q l r) = Led q (leads-on q d s z es c l) (ear-on s z es q c r)
