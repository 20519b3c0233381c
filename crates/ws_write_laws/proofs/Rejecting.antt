-- A promise that is rejected where nothing goes astray stays rejected.
use Rattle.std.proofs.Common.{◌≡◌, true, false, List, [], ◌∷◌, get_or, All, Option, Some, None, Err, refl, ap}
use Rattle.std.proofs.lemmas.List.Elements.{All-nil, All-cons}
use Rattle.ws_value.specs.declared.ids.PromiseId.{PromiseId}
use Rattle.ws_value.specs.declared.value.Outcome.{Outcome}
use Rattle.ws_value.specs.declared.value.Outcome.TheVariants.{Pending, Fulfilled, Given, Finished, Rejected}
use Rattle.ws_value.specs.declared.value.Plain.{Plain}
use Rattle.ws_steps.specs.Promises.{Table, outcome_at, is_pending, settle}
use Rattle.ws_steps.specs.Laws.{is_rejected}
use Rattle.ws_steps.specs.Writable.{reject_all}
use Rattle.ws_laws.proofs.Outcomes.{Keeps, keeps-same, keeps-then, keeps-settle}
use Rattle.ws_laws.proofs.Straight.{straight_before, settled_straight}

-- each of these promises is rejected
abbrev pub EachRejected : Table → List PromiseId → Type 0
EachRejected t ps = All (λ p. is_rejected (outcome_at t p) ≡ true) ps

pub none_rejected : (t : Table) → EachRejected t []
none_rejected t = All-nil (λ p. is_rejected (outcome_at t p) ≡ true)

pub one_more : (t : Table) (p : PromiseId) (ps : List PromiseId) → is_rejected (outcome_at t p) ≡ true → EachRejected t ps → EachRejected t (p ∷ ps)
one_more t p ps e a = All-cons (λ p. is_rejected (outcome_at t p) ≡ true) p ps e a

-- a rejected promise stays rejected

outcome_kept : (x y : Option Outcome) → ((o : Outcome) → is_pending o ≡ false → x ≡ Some o → y ≡ Some o) → is_rejected x ≡ true → is_rejected y ≡ true
outcome_kept None y k e = cc
outcome_kept (Some Pending) y k e = cc
outcome_kept (Some (Fulfilled v)) y k e = cc
outcome_kept (Some (Given v)) y k e = cc
outcome_kept (Some (Finished v)) y k e = cc
outcome_kept (Some (Rejected r)) y k e = ap is_rejected (k (Rejected r) refl refl)

pub rejected-keeps : (t z : Table) (p : PromiseId) → Keeps t z → is_rejected (outcome_at t p) ≡ true → is_rejected (outcome_at z p) ≡ true
rejected-keeps t z p k e = outcome_kept (outcome_at t p) (outcome_at z p) (λ o n h. k.outcome p o n h) e

pub each-keeps : (t z : Table) (ps : List PromiseId) → Keeps t z → EachRejected t ps → EachRejected z ps
each-keeps t z ps k a n d h = rejected-keeps t z (get_or ps n d) k (a n d h)

-- promises that are rejected in order

keeps-reject_all : (e : Plain) (ps : List PromiseId) (t : Table) → Keeps t (reject_all e ps t)
keeps-reject_all e [] t = keeps-same t
keeps-reject_all e (p ∷ ps) t = keeps-then t (settle p (Err e) t) (reject_all e ps (settle p (Err e) t)) (keeps-settle p (Err e) t) (keeps-reject_all e ps (settle p (Err e) t))

pub rejected_straight : (p : PromiseId) (e : Plain) (t z : Table) → Keeps (settle p (Err e) t) z → z.astray ≡ false → is_rejected (outcome_at z p) ≡ true
rejected_straight p e t z k a = rejected-keeps (settle p (Err e) t) z p k (ap is_rejected (settled_straight p (Err e) t (straight_before (settle p (Err e) t) z k a)))

pub all_rejected : (e : Plain) (ps : List PromiseId) (t : Table) → (reject_all e ps t).astray ≡ false → EachRejected (reject_all e ps t) ps
all_rejected e [] t a = none_rejected t
all_rejected e (p ∷ ps) t a =
    let u : Table = settle p (Err e) t in
    one_more (reject_all e ps u) p ps (rejected_straight p e t (reject_all e ps u) (keeps-reject_all e ps u) a) (all_rejected e ps u a)
