-- The outcomes of promises, and the mark of what went astray, over every run (`each_outcome_stays`, `each_mark_stays`).
use Rattle.std.proofs.Common.{◌≡◌, true, false, List, [], ◌∷◌, Some}
use Rattle.ws_value.specs.declared.ids.PromiseId.{PromiseId}
use Rattle.ws_value.specs.declared.value.Outcome.{Outcome}
use Rattle.ws_steps.specs.declared.{calls.Call.{Call}, effects.Effect.{Effect}}
use Rattle.ws_steps.specs.Promises.{Table, outcome_at, is_pending, fresh, settle, answer, react, follow, queue_micro, tell, watch, after_next_job}
use Rattle.ws_steps.specs.Slots.{Slots}
use Rattle.ws_steps.specs.Run.{Entry, Called, Worked, Heard, step}
use Rattle.ws_steps.specs.Laws.{EachOutcomeStays, EachMarkStays}
use Rattle.ws_laws.proofs.Outcomes.{Keeps, keeps-same, keeps-then, keeps-fresh, keeps-settle, keeps-answer, keeps-react, keeps-follow, keeps-next, keeps-watch, keeps-micro, keeps-tell}
use Rattle.ws_laws.proofs.Rows.{Changes, row-changes}
use Rattle.ws_laws.proofs.Begin.{Makes, begin-makes}
use Rattle.ws_laws.proofs.Walker.{Stays, called-stays, worked-stays}

module _ (before : Table) where
  pub keeps-changes : Changes (Keeps before)
  keeps-changes = record {
    fresh = λ t k. keeps-then before t (fresh t) k (keeps-fresh t);
    settle = λ t p o k. keeps-then before t (settle p o t) k (keeps-settle p o t);
    answer = λ t p o n k. keeps-then before t (answer p o t) k (keeps-answer p o t);
    react = λ t p r k. keeps-then before t (react p r t) k (keeps-react p r t);
    follow = λ t p q k. keeps-then before t (follow p q t) k (keeps-follow p q t);
    micro = λ t m k. keeps-then before t (queue_micro m t) k (keeps-micro m t);
    tell = λ t e k. keeps-then before t (tell e t) k (keeps-tell e t);
  }

  abbrev Kept : Slots → List Effect → Type 0
  Kept s es = Keeps before s.promises

  makes : Makes (λ s. Keeps before s.promises)
  makes = record {
    promise = λ s k. keeps-changes.fresh s.promises k;
    locks = λ s ls k. k;
    hosts = λ s hs k. k;
    pipe = λ s i j p a q k. k;
    signal = λ s k. k;
    transform = λ s x i j p k. k;
    tee = λ s x i j p k. k;
    port = λ s side i p k. k;
    readable = λ s o m b k. k;
    bytes = λ s m a k. k;
    byob_requests = λ s r k. k;
    writable = λ s o m b k. k;
  }

  pub keeps-stays : Stays Kept
  keeps-stays = record {
    row = λ s e es k. row-changes (Keeps before) keeps-changes e s k;
    call = λ s c k. begin-makes (λ s. Keeps before s.promises) makes c s k;
    job = λ s job e k. keeps-then before s.promises (after_next_job s.promises) k (keeps-next s.promises);
    answered = λ s p k. keeps-then before s.promises (watch p s.promises) k (keeps-watch p s.promises);
    older = λ s k. k;
  }

pub called-keeps : (c : Call) (s : Slots) → Keeps s.promises (step s (Called c)).promises
called-keeps c s = called-stays (Kept s.promises) (keeps-stays s.promises) s c (keeps-same s.promises)

pub worked-keeps : (s : Slots) → Keeps s.promises (step s Worked).promises
worked-keeps s = worked-stays (Kept s.promises) (keeps-stays s.promises) s (keeps-same s.promises)

pub entry_keeps : (x : Entry) (s : Slots) (p : PromiseId) (o : Outcome) → is_pending o ≡ false → outcome_at s.promises p ≡ Some o → outcome_at (step s x).promises p ≡ Some o
entry_keeps (Called c) s p o n h = (called-keeps c s).outcome p o n h
entry_keeps Worked s p o n h = (worked-keeps s).outcome p o n h
entry_keeps Heard s p o n h = h

pub each_outcome_stays : EachOutcomeStays
each_outcome_stays s [] p o n h = h
each_outcome_stays s (x ∷ xs) p o n h = each_outcome_stays (step s x) xs p o n (entry_keeps x s p o n h)

mark_stays : (x : Entry) (s : Slots) → s.promises.astray ≡ true → (step s x).promises.astray ≡ true
mark_stays (Called c) s m = (called-keeps c s).mark m
mark_stays Worked s m = (worked-keeps s).mark m
mark_stays Heard s m = m

pub each_mark_stays : EachMarkStays
each_mark_stays s [] m = m
each_mark_stays s (x ∷ xs) m = each_mark_stays (step s x) xs (mark_stays x s m)
