-- The numbers of host calls, and of the events that tell of them (`each_event_is_its_call`).
use Rattle.std.proofs.Common.{◌≡◌, ℕ, zero, suc, List, [], ◌∷◌, ◌++◌, length, length-append, Option, Some, None, Result, slice_get, slice_set, refl, sym, ap, subst, ◌∙◌, arith, append_assoc, append-nil}
use Rattle.ws_value.specs.declared.ids.HostId.{HostId}
use Rattle.ws_value.specs.declared.ids.PromiseId.{PromiseId}
use Rattle.ws_value.specs.declared.value.Outcome.{Outcome}
use Rattle.ws_value.specs.declared.value.Plain.{Plain}
use Rattle.ws_steps.specs.declared.{calls.Call.{Call}, calls.Event.{Event}, calls.Event.TheVariants.{Host, Settled, Signal}, calls.HostCall.{HostCall}}
use Rattle.ws_steps.specs.declared.{effects.Effect.{Effect}, effects.Effect.TheVariants.{Give, CallHost}, effects.Gift.{Gift}, effects.Gift.TheVariants.{This, Fresh}, effects.Use.{Use}}
use Rattle.ws_steps.specs.declared.{promises.Job.{Job}, promises.Micro.{Micro}, promises.Reaction.{Reaction}}
use Rattle.ws_steps.specs.Promises.{Entry as PromiseEntry, Table, next_id, entry_at, is_open, fresh, settle, settle_entry, answer, answer_entry, went_astray, noted, react, follow, unfollow, use_this, use_gift, queue_micro, tell, taken, after_next_job, watch}
use Rattle.ws_steps.specs.Slots.{Slots, empty, with_promises}
use Rattle.ws_steps.specs.Turns.{row, call_host}
use Rattle.ws_steps.specs.Jobs.{job_effects}
use Rattle.ws_steps.specs.Begun.{Begun}
use Rattle.ws_steps.specs.Calls.{begin}
use Rattle.ws_steps.specs.Run.{Entry, Called, Worked, Heard, run, step, after_event, later_events}
use Rattle.ws_steps.specs.Histories.{taken_event, taken_in_step, run_events}
use Rattle.ws_laws.proofs.EachCall.{each_call}
use Rattle.ws_laws.proofs.Tables.{either}
use Rattle.ws_laws.proofs.Walker as walker
use Rattle.ws_laws.proofs.Walker.{IsHistory, GoesUntold, RestsUntold}
use Rattle.ws_end_laws.specs.hosts.HostCalls.{effect_called, step_called, run_called, called, IsItsCall, AllEvents}
use Rattle.ws_end_laws.specs.hosts.HostLaws.{EachEventIsItsCall}
use Rattle.ws_end_laws.proofs.hosts.Plain.{IsPlain, row-plainly, host_added, row-hosts}
use Rattle.ws_steps.specs.declared.calls.Event.TheVariants.{Post}

-- lists

pub place-grows : {A : Type 0} (xs ys : List A) (n : ℕ) (x : A) → slice_get xs n ≡ Some x → slice_get (xs ++ ys) n ≡ Some x
place-grows [] ys n x e = cc
place-grows (z ∷ xs) ys zero x e = e
place-grows (z ∷ xs) ys (suc n) x e = place-grows xs ys n x e

pub place-last : {A : Type 0} (xs : List A) (x : A) → slice_get (xs ++ x ∷ []) (length xs) ≡ Some x
place-last [] x = refl
place-last (z ∷ xs) x = place-last xs x

pub length-set : {A : Type 0} (xs : List A) (n : ℕ) (x : A) → length (slice_set xs n x) ≡ length xs
length-set [] n x = refl
length-set (z ∷ xs) zero x = refl
length-set (z ∷ xs) (suc n) x = ap suc (length-set xs n x)

pub lists-history : {A : Type 0} → IsHistory {H = List A} [] ◌++◌
lists-history = record { left = λ f. refl; right = λ f. append-nil f; assoc = λ f g h. append_assoc f g h }

-- events

events-append : (P : Event → Type 0) (xs ys : List Event) → AllEvents P xs → AllEvents P ys → AllEvents P (xs ++ ys)
events-append P [] ys a b = b
events-append P (x ∷ xs) ys a b = (a.0, events-append P xs ys a.1 b)

-- more calls are made
its_call-grows : (h g : List HostCall) (e : Event) → IsItsCall h e → IsItsCall (h ++ g) e
its_call-grows h g (Host id call) k = place-grows h g id.0 call k
its_call-grows h g (Settled p) k = tt
its_call-grows h g (Signal i r) k = tt
its_call-grows h g (Post c m) k = tt

events-grow : (h g : List HostCall) (es : List Event) → AllEvents (IsItsCall h) es → AllEvents (IsItsCall (h ++ g)) es
events-grow h g [] k = tt
events-grow h g (e ∷ es) k = (its_call-grows h g e k.0, events-grow h g es k.1)

module _ (h : List HostCall) where
  abbrev Told : Table → Type 0
  Told t = AllEvents (IsItsCall h) t.events

  noted-told : (p : PromiseId) (t : Table) (rank : Option ℕ) → Told t → Told (noted p t rank)
  noted-told p t None k = k
  noted-told p t (Some n) k = events-append (IsItsCall h) t.events (Settled p ∷ []) k (tt, tt)

  settle_entry-told : (p : PromiseId) (o : Result Plain Plain) (t : Table) (x : Option PromiseEntry) → Told t → Told (settle_entry p o t x)
  settle_entry-told p o t None k = k
  settle_entry-told p o t (Some e) k = noted-told p _ e.rank k

  settle-told : (t : Table) (p : PromiseId) (o : Result Plain Plain) → Told t → Told (settle p o t)
  unfolding settle
  settle-told t p o k = either Told (is_open p t) (settle_entry p o t (entry_at t p)) (went_astray t) (λ e. settle_entry-told p o t (entry_at t p) k) (λ e. k)

  answer_entry-told : (p : PromiseId) (o : Outcome) (t : Table) (x : Option PromiseEntry) → Told t → Told (answer_entry p o t x)
  answer_entry-told p o t None k = k
  answer_entry-told p o t (Some e) k = noted-told p _ e.rank k

  answer-told : (t : Table) (p : PromiseId) (o : Outcome) → Told t → Told (answer p o t)
  unfolding answer
  answer-told t p o k = either Told (is_open p t) (answer_entry p o t (entry_at t p)) (went_astray t) (λ e. answer_entry-told p o t (entry_at t p) k) (λ e. k)

-- other operations tell nothing

pub fresh-events : (t : Table) → (fresh t).events ≡ t.events
unfolding fresh
fresh-events t = refl

micro-events : (t : Table) (m : Micro) → (queue_micro m t).events ≡ t.events
unfolding queue_micro
micro-events t m = refl

react-events : (p : PromiseId) (r : Reaction) (t : Table) → (react p r t).events ≡ t.events
unfolding react
react-events p r t = grind arith

follow-events : (p q : PromiseId) (t : Table) → (follow p q t).events ≡ t.events
unfolding follow
follow-events p q t = grind arith

unfollow-events : (p : PromiseId) (t : Table) → (unfollow p t).events ≡ t.events
unfolding unfollow
unfollow-events p t = grind arith

taken-events : (job : Job) (t : Table) → (taken job t).events ≡ t.events
taken-events job t = grind (arith, react-events, unfollow-events)

next-events : (t : Table) → (after_next_job t).events ≡ t.events
unfolding after_next_job
next-events t = grind (arith, taken-events)

use-events : (p : PromiseId) (t : Table) (u : Use) → (use_this p t u).events ≡ t.events
use-events p t u = grind (arith, react-events, follow-events)

same-told : (h : List HostCall) (t z : Table) → z.events ≡ t.events → Told h t → Told h z
same-told h t z e k = subst (AllEvents (IsItsCall h)) (sym e) k

gift-told : (h : List HostCall) (gift : Gift) (u : Use) (t : Table) → Told h t → Told h (use_gift gift u t)
unfolding use_gift
gift-told h (This p) u t k = same-told h t (use_this p t u) (use-events p t u) k
gift-told h (Fresh o) u t k =
    let z : Table = settle (next_id t) o (fresh t) in
    same-told h z (use_this (next_id t) z u) (use-events (next_id t) z u) (settle-told h (fresh t) (next_id t) o (same-told h t (fresh t) (fresh-events t) k))

watch-told : (h : List HostCall) (p : PromiseId) (t : Table) → Told h t → Told h (watch p t)
unfolding watch
watch-told h p t k = grind (arith, events-append)

-- The host calls are numbered in order, and the events have their numbers
pub record Numbered (h : List HostCall) (s : Slots) (es : List Effect) : Type 0 where
  pub count : length s.hosts ≡ length h
  pub told : AllEvents (IsItsCall h) s.promises.events

-- as many numbers as calls
as_many : (e : Effect) (s : Slots) → length (host_added e s) ≡ length (effect_called e s)
as_many (CallHost call u) s = refl
as_many _ s = refl

row-count : (h : List HostCall) (e : Effect) (s : Slots) → length s.hosts ≡ length h → length (row e s).slots.hosts ≡ length (h ++ effect_called e s)
row-count h e s n =
    ap length (row-hosts e s) ∙ (let a = length-append s.hosts (host_added e s) in let b = length-append h (effect_called e s) in let c = as_many e s in omega arith)

host-told : (h : List HostCall) (call : HostCall) (u : Use) (s : Slots) → length s.hosts ≡ length h → Told h s.promises → Told (h ++ call ∷ []) (call_host call u s).promises
unfolding call_host
host-told h call u s n k =
    let t : Table = fresh s.promises in
    let id : HostId = record { 0 = length s.hosts } in
    let new : slice_get (h ++ call ∷ []) id.0 ≡ Some call = rw n (place-last h call) in
    let old : Told (h ++ call ∷ []) t = same-told (h ++ call ∷ []) s.promises t (fresh-events s.promises) (events-grow h (call ∷ []) s.promises.events k) in
    same-told (h ++ call ∷ []) (tell (Host id call) t) (use_this (next_id s.promises) (tell (Host id call) t) u) (use-events (next_id s.promises) (tell (Host id call) t) u)
    (events-append (IsItsCall (h ++ call ∷ [])) t.events (Host id call ∷ []) old (new, tt))

plain-told : (h : List HostCall) (e : Effect) (s : Slots) → IsPlain e → Told h s.promises → Told h (row e s).slots.promises
plain-told h e s n k =
    row-plainly (Told h) (record {
      fresh = λ t k. same-told h t (fresh t) (fresh-events t) k;
      settle = settle-told h;
      answer = λ t p o m k. answer-told h t p o k;
      micro = λ t m k. same-told h t (queue_micro m t) (micro-events t m) k;
      signal = λ t i r k. events-append (IsItsCall h) t.events (Signal i r ∷ []) k (tt, tt);
      post = λ t c m k. events-append (IsItsCall h) t.events (Post c m ∷ []) k (tt, tt);
    }) e s n k

row-told : (h : List HostCall) (s : Slots) (e : Effect) → length s.hosts ≡ length h → Told h s.promises → Told (h ++ effect_called e s) (row e s).slots.promises
unfolding row
row-told h s (CallHost call u) n k = host-told h call u s n k
row-told h s (Give gift u) n k = rw (append-nil h) (gift-told h gift u s.promises k)
row-told h s e n k = rw (append-nil h) (plain-told h e s tt k)

same-numbered : (h : List HostCall) (s z : Slots) (es fs : List Effect) → length z.hosts ≡ length s.hosts → Told h z.promises → Numbered h s es → Numbered h z fs
same-numbered h s z es fs e t k = record { count = e ∙ k.count; told = t }

call-same : (c : Call) (s : Slots) → (length (begin c s).done.slots.hosts ≡ length s.hosts) × ((begin c s).done.slots.promises.events ≡ s.promises.events)
call-same c s = each_call (λ (b : Begun). (length b.done.slots.hosts ≡ length s.hosts) × (b.done.slots.promises.events ≡ s.promises.events)) c s (grind (arith, fresh-events, length-set))

pub numbered-goes : GoesUntold ◌++◌ effect_called Numbered
numbered-goes = record {
  row = λ h s e es k. record { count = row-count h e s k.count; told = row-told h s e k.count k.told };
  call = λ h s c k. let b = call-same c s in same-numbered h s (begin c s).done.slots [] (begin c s).done.caused b.0 (same-told h s.promises (begin c s).done.slots.promises b.1 k.told) k;
  job = λ h s job e k. same-numbered h s (with_promises (after_next_job s.promises) s) [] (job_effects job) refl (same-told h s.promises (after_next_job s.promises) (next-events s.promises) k.told) k;
  answered = λ h s p k. same-numbered h s (with_promises (watch p s.promises) s) [] [] refl (watch-told h p s.promises k.told) k;
  older = λ h s k. record { count = k.count; told = k.told };
}

later-told : (h : List HostCall) (es : List Event) → AllEvents (IsItsCall h) es → AllEvents (IsItsCall h) (later_events es)
later-told h [] k = tt
later-told h (e ∷ es) k = k.1

pub numbered-rests : RestsUntold Numbered
numbered-rests = record {
  heard = λ h s k. same-numbered h s (after_event s) [] [] refl (later-told h s.promises.events k.told) k;
}

pub step-numbered : (h : List HostCall) (s : Slots) (x : Entry) → Numbered h s [] → Numbered (h ++ step_called s x) (step s x) []
step-numbered h s x k = walker.step-goes_untold [] ◌++◌ lists-history effect_called Numbered numbered-goes numbered-rests h s x k

pub run-numbered : (entries : List Entry) → Numbered (called entries) (run entries empty) []
run-numbered entries = walker.run-holds [] ◌++◌ lists-history effect_called Numbered numbered-goes numbered-rests entries empty (record { count = refl; told = tt })

-- all events of a run

taken-told : (h : List HostCall) (s : Slots) (x : Entry) → AllEvents (IsItsCall h) s.promises.events → AllEvents (IsItsCall h) (taken_in_step s x)
taken-told h s (Called c) k = tt
taken-told h s Worked k = tt
taken-told h s Heard k = first s.promises.events k
  where
    first : (es : List Event) → AllEvents (IsItsCall h) es → AllEvents (IsItsCall h) (taken_event es)
    first [] k = tt
    first (e ∷ es) k = (k.0, tt)

run-told : (xs : List Entry) (h : List HostCall) (s : Slots) → Numbered h s [] → AllEvents (IsItsCall (h ++ run_called xs s)) (run_events xs s)
run-told [] h s k = rw (append-nil h) k.told
run-told (x ∷ xs) h s k =
    let more : List HostCall = step_called s x ++ run_called xs (step s x) in
    events-append (IsItsCall (h ++ more)) (taken_in_step s x) (run_events xs (step s x)) (events-grow h more (taken_in_step s x) (taken-told h s x k.told))
    (rw (append_assoc h (step_called s x) (run_called xs (step s x))) at (run-told xs (h ++ step_called s x) (step s x) (step-numbered h s x k)))

pub called-append : (xs ys : List Entry) (s : Slots) → run_called (xs ++ ys) s ≡ run_called xs s ++ run_called ys (run xs s)
called-append [] ys s = refl
called-append (x ∷ xs) ys s =
    ap (λ (h : List HostCall). step_called s x ++ h) (called-append xs ys (step s x)) ∙ sym (append_assoc (step_called s x) (run_called xs (step s x)) (run_called ys (run xs (step s x))))

-- a longer run made the same calls first
pub called-grows : (entries more : List Entry) → called (entries ++ more) ≡ called entries ++ run_called more (run entries empty)
called-grows entries more = called-append entries more empty

-- an event that the host hasn't taken tells of the call of its number
pub event-is-its-call : (entries : List Entry) (n : ℕ) (id : HostId) (call : HostCall)
    → slice_get (run entries empty).promises.events n ≡ Some (Host id call) → slice_get (called entries) id.0 ≡ Some call
event-is-its-call entries n id call e = at (run entries empty).promises.events n e (run-numbered entries).told
  where
    at : (es : List Event) (n : ℕ) → slice_get es n ≡ Some (Host id call) → AllEvents (IsItsCall (called entries)) es → slice_get (called entries) id.0 ≡ Some call
    at [] n e k = cc
    at (x ∷ es) zero e k = let is : x ≡ Host id call = cc in rw is at k.0
    at (x ∷ es) (suc n) e k = at es n e k.1

pub each_event_is_its_call : EachEventIsItsCall
each_event_is_its_call entries =
    let k = run-numbered entries in
    record {
      numbered = k.count;
      told = run-told entries [] empty (record { count = refl; told = tt });
      untaken = k.told;
      grows = λ more. (run_called more (run entries empty), called-grows entries more);
    }
