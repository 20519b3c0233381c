-- Reactions are registered, promises are watched, and the host is told and hears: no place changes that matters here.
use Rattle.std.proofs.Common.{◌≡◌, ℕ, ◌+◌, ◌≤◌, List, [], ◌∷◌, ◌++◌, Option, Some, None, refl, sym, arith}
use Rattle.ws_value.specs.declared.ids.PromiseId.{PromiseId}
use Rattle.ws_value.specs.declared.value.Outcome.{Outcome}
use Rattle.ws_value.specs.declared.value.Outcome.TheVariants.{Pending, Fulfilled, Given, Finished, Rejected}
use Rattle.ws_steps.specs.declared.{calls.Event.{Event}, promises.Micro.{Micro}, promises.Reaction.{Reaction}, promises.Reaction.TheVariants.{Perform}, promises.Step.{Step}}
use Rattle.ws_steps.specs.Promises.{Entry, Table, entry_at, react, react_entry, react_by, watch, watch_at, watch_entry, queue_micro}
use Rattle.ws_laws.proofs.Weights.{weigh, weigh-react, weigh-micro, weigh-watch}
use Rattle.ws_promise_laws.proofs.Holds.{Holds, Alike, alike-same, alike-put, holds-alike}
use Rattle.ws_promise_laws.proofs.Tokens.{names_any, in_step, in_reaction, adopts}

react_alike : (q : PromiseId) (r : Reaction) (t : Table) (e : Entry) (o : Outcome) → entry_at t q ≡ Some e → Alike t (react_by q r t e o)
react_alike q r t e Pending h = alike-put q e (Some (record e { reactions = e.reactions ++ r ∷ [] })) t _ h refl refl refl refl refl
react_alike q r t e (Fulfilled v) h = alike-same t _ refl refl
react_alike q r t e (Rejected v) h = alike-same t _ refl refl
react_alike q r t e (Given v) h = alike-same t t refl refl
react_alike q r t e (Finished v) h = alike-same t t refl refl

entry_alike : (q : PromiseId) (r : Reaction) (t : Table) (x : Option Entry) → x ≡ entry_at t q → Alike t (react_entry q r t x)
entry_alike q r t None h = alike-same t t refl refl
entry_alike q r t (Some e) h = react_alike q r t e e.outcome (sym h)

pub react-alike : (q : PromiseId) (r : Reaction) (t : Table) → Alike t (react q r t)
unfolding react
react-alike q r t = entry_alike q r t (entry_at t q) refl

-- a reaction takes over what it is to settle
pub holds-react : (f l g : PromiseId → ℕ) (q : PromiseId) (step : Step) (derived : Option PromiseId) (t : Table) → Holds f l t
    → ((x : PromiseId) → g x + (in_step x step + names_any x derived) ≤ f x) → Holds g l (react q (Perform step derived) t)
holds-react f l g q step derived t k a =
    holds-alike f l g t (react q (Perform step derived) t) k (react-alike q (Perform step derived) t)
    (λ x. let n = a x in let w = weigh-react (in_reaction x) q (Perform step derived) t in omega arith)
    (λ p. let w = weigh-react (adopts p) q (Perform step derived) t in omega arith)

watched_alike : (p : PromiseId) (t : Table) (e : Entry) (r : Option ℕ) → entry_at t p ≡ Some e → Alike t (watch_entry p t e r)
watched_alike p t e (Some n) h = alike-same t t refl refl
watched_alike p t e None h = alike-put p e (Some (record e { rank = Some t.watched })) t _ h refl refl refl refl refl

watch_at_alike : (p : PromiseId) (t : Table) (x : Option Entry) → x ≡ entry_at t p → Alike t (watch_at p t x)
watch_at_alike p t None h = alike-same t t refl refl
watch_at_alike p t (Some e) h = watched_alike p t e e.rank (sym h)

watch_alike : (p : PromiseId) (t : Table) → Alike t (watch p t)
unfolding watch
watch_alike p t = watch_at_alike p t (entry_at t p) refl

pub holds-watch : (f l : PromiseId → ℕ) (p : PromiseId) (t : Table) → Holds f l t → Holds f l (watch p t)
holds-watch f l p t k = holds-alike f l f t (watch p t) k (watch_alike p t) (λ x. let w = weigh-watch (in_reaction x) p t in omega arith) (λ q. weigh-watch (adopts q) p t)

-- a microtask is queued
pub holds-micro : (f l : PromiseId → ℕ) (m : Micro) (t : Table) → Holds f l t → Holds f l (queue_micro m t)
unfolding queue_micro
holds-micro f l m t k =
    holds-alike f l f t (queue_micro m t) k (alike-same t (queue_micro m t) refl refl) (λ x. let w = weigh-micro (in_reaction x) m t in omega (arith, w)) (λ p. weigh-micro (adopts p) m t)

-- the host is to hear of something, or hears of it
pub holds-told : (f l : PromiseId → ℕ) (events : List Event) (t : Table) → Holds f l t → Holds f l (record t { events = events })
unfolding weigh
holds-told f l events t k = holds-alike f l f t (record t { events = events }) k (alike-same t _ refl refl) (λ x. omega arith) (λ p. omega arith)
