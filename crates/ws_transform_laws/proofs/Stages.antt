-- Where a write of a half of a transform stream is that needs its chunk handed on: its effects stand at the front of the agenda, one after
-- another, but where it waits for the backpressure to change.
use Rattle.std.proofs.Common.{◌≡◌, ◌≤◌, ⊎_elim, ℕ, zero, suc, ◌+◌, true, false, ◌&&◌, nat_eq, List, [], ◌∷◌, ◌++◌, Option, Some, None, Result, Err, slice_get, refl, sym, subst, arith}
use Rattle.ws_value.specs.declared.ids.{PromiseId.{PromiseId}, StreamId.{StreamId}}
use Rattle.ws_value.specs.declared.value.Plain.{Plain}
use Rattle.ws_steps.specs.declared.effects.{Effect.{Effect}, Gift.TheVariants.{This}, Owner.TheVariants.{HalfOf}, Use.{Use}, Use.TheVariants.{React, Resolve}}
use Rattle.ws_steps.specs.declared.effects.Effect.TheVariants.{Writable as OnWritable, Transform as OnTransform, WriteAlgorithm, Give, Settle as SettlePromise}
use Rattle.ws_steps.specs.declared.promises.{Job.{Job}, Reaction.{Reaction}, Step.{Step}}
use Rattle.ws_steps.specs.declared.promises.Job.TheVariants.{Reaction as ReactionJob, Follow, Settle, Micro as MicroJob}
use Rattle.ws_steps.specs.declared.promises.Reaction.TheVariants.{Perform, Adopt}
use Rattle.ws_steps.specs.declared.promises.Step.TheVariants.{WritableWrite, TransformChanged}
use Rattle.ws_steps.specs.declared.transform.{Taker.TheVariants.{ToTransform}, TransformId.{TransformId}, TransformOperation.TheVariants.{SinkWrite, WriteGoesOn}}
use Rattle.ws_steps.specs.declared.writable.{WritableOperation.TheVariants.{HandOn, WriteSettled}, WritableState.{WritableState}, WritableState.TheVariants.{Writable, Erroring, Errored, Closed}}
use Rattle.ws_steps.specs.Histories.{is_same}
use Rattle.ws_steps.specs.Promises.{Entry, Table, use_gift, next_id, settle, job_of, is_open, react}
use Rattle.ws_steps.specs.Slots.{Slots, owner_at, found, halves_at, put_transform}
use Rattle.ws_steps.specs.Transform as transform
use Rattle.ws_steps.specs.Turns.{row}
use Rattle.ws_laws.proofs.Rows.{row-changes}
use Rattle.ws_laws.proofs.Tables.{either, is_same-refl}
use Rattle.ws_laws.proofs.WritableDoes.{IsHandOn}
use Rattle.ws_steps.specs.declared.writable.WritableOperation.{WritableOperation}
use Rattle.ws_laws.proofs.Weights.{weigh, of_job, of_jobs, of_reactions, of_entries}
use Rattle.ws_writable_laws.proofs.Agenda.{Elsewhere}
use Rattle.ws_writable_laws.proofs.Shape.{one_if, is_write, of_reaction}
use Rattle.ws_promise_laws.proofs.Realm.{Sound, firm_in, in_transforms}
use Rattle.ws_promise_laws.proofs.Settling.{open_when}
use Rattle.ws_promise_laws.proofs.Tokens.{names, in_reaction, in_effects}
use Rattle.ws_transform_laws.proofs.Changing.{row-turns, place-same}
use Rattle.ws_transform_laws.proofs.Waiting.{Waits, Queued, waits-changes, queued-changes, queued-settle, waits-react, waits-weigh, queued-weigh}

-- promises that stand somewhere are open

pub open-at : (f : PromiseId → ℕ) (p : PromiseId) (s : Slots) → Sound f s → 1 ≤ f p + (firm_in p s + weigh (in_reaction p) s.promises) → is_open p s.promises ≡ true
open-at f p s k few = let h = k.holds.once p in open_when (is_open p s.promises) (omega arith)

pub names-self : (p : PromiseId) → names p p ≡ 1
names-self p = grind arith

change-stands : (p : PromiseId) (ts : List transform.Slots) (k : ℕ) (x : transform.Slots) → slice_get ts k ≡ Some x → names p x.change ≤ in_transforms p ts
change-stands p [] k x e = cc
change-stands p (y ∷ ys) zero x e = let is : y ≡ x = cc in rw is (omega arith)
change-stands p (y ∷ ys) (suc k) x e = let n = change-stands p ys k x e in omega arith

pub change-open : (f : PromiseId → ℕ) (t : TransformId) (x : transform.Slots) (s : Slots) → Sound f s → slice_get s.transforms t.0 ≡ Some x → is_open x.change s.promises ≡ true
change-open f t x s k there =
    let n = change-stands x.change s.transforms t.0 x there in let o = names-self x.change in open-at f x.change s k (omega arith)

-- the step by which the write that has promise d goes on, once the backpressure of transform stream t changes
abbrev pub goes_on : TransformId → PromiseId → Step → ℕ
goes_on t d (TransformChanged u c) = one_if (nat_eq t.0 u.0 && nat_eq d.0 c.0)
goes_on t d _ = 0

-- a job that tells stream i of a failed write
abbrev pub fails : StreamId → Job → ℕ
fails i (ReactionJob step (Err e) derived) = is_write i step
fails i _ = 0

pub weigh-more : (f g : Reaction → ℕ) → ((r : Reaction) → f r ≤ g r) → (t : Table) → weigh f t ≤ weigh g t
unfolding weigh
weigh-more f g l t = let a = entries t.entries in let b = jobs t.jobs in omega arith
  where
    reactions : (rs : List Reaction) → of_reactions f rs ≤ of_reactions g rs
    reactions [] = omega arith
    reactions (r ∷ rs) = let a = l r in let b = reactions rs in omega arith

    entries : (es : List (Option Entry)) → of_entries f es ≤ of_entries g es
    entries [] = omega arith
    entries (None ∷ es) = let b = entries es in omega arith
    entries (Some e ∷ es) = let a = reactions e.reactions in let b = entries es in omega arith

    job : (j : Job) → of_job f j ≤ of_job g j
    job (ReactionJob step o derived) = l (Perform step derived)
    job (Follow p q) = l (Adopt p)
    job (Settle p o) = l (Adopt p)
    job (MicroJob m) = omega arith

    jobs : (js : List Job) → of_jobs f js ≤ of_jobs g js
    jobs [] = omega arith
    jobs (j ∷ js) = let a = job j in let b = jobs js in omega arith

goes-names : (t : TransformId) (d : PromiseId) (r : Reaction) → of_reaction (goes_on t d) r ≤ in_reaction d r
goes-names t d r = grind arith

goes-job : (t : TransformId) (d : PromiseId) (o : Result Plain Plain) (r : Reaction) → of_reaction (goes_on t d) r ≤ of_job (of_reaction (goes_on t d)) (job_of o r)
goes-job t d o r = grind arith

pub write-fails : (i : StreamId) (e : Plain) (r : Reaction) → of_reaction (is_write i) r ≤ fails i (job_of (Err e) r)
write-fails i e r = grind arith

goes-self : (t : TransformId) (d : PromiseId) → goes_on t d (TransformChanged t d) ≡ 1
goes-self t d = grind arith

pub write-self : (i : StreamId) → is_write i (WritableWrite i) ≡ 1
write-self i = rw (is_same-refl i) refl

abbrev pub IsWriteSettled : WritableOperation → Type 0
IsWriteSettled (WriteSettled o) = Unit {0}
IsWriteSettled _ = ⊥

module _ (i : StreamId) (t : TransformId) where
  -- the write with promise d waits for the backpressure to change, or it has
  pub data Token (d : PromiseId) (s : Slots) : Type 0 where
    AtChange : (x : transform.Slots) → slice_get s.transforms t.0 ≡ Some x → Waits (of_reaction (goes_on t d)) 1 x.change s.promises → Token d s
    InJobs : Queued (of_job (of_reaction (goes_on t d))) 1 s.promises → Token d s

  -- its promise is open
  pub token-open : (f : PromiseId → ℕ) (d : PromiseId) (s : Slots) → Sound f s → Token d s → is_open d s.promises ≡ true
  token-open f d s k (AtChange x there w) =
      let a = waits-weigh (of_reaction (goes_on t d)) 1 x.change s.promises (change-open f t x s k there) w in
      let b = weigh-more (of_reaction (goes_on t d)) (in_reaction d) (goes-names t d) s.promises in open-at f d s k (omega arith)
  token-open f d s k (InJobs q) =
      let a = queued-weigh (of_job (of_reaction (goes_on t d))) (of_reaction (goes_on t d)) 1 s.promises (λ j. omega arith) q in
      let b = weigh-more (of_reaction (goes_on t d)) (in_reaction d) (goes-names t d) s.promises in open-at f d s k (omega arith)

  pub row-token : (f : PromiseId → ℕ) (d : PromiseId) (e : Effect) (s : Slots) → Sound f s → Token d s → Token d (row e s).slots
  row-token f d e s k (AtChange x there w) =
      let r = row-turns t e x s there in
      ⊎_elim
      (λ same. AtChange r.after r.there (rw same.0 (row-changes (Waits (of_reaction (goes_on t d)) 1 x.change) (waits-changes (of_reaction (goes_on t d)) 1 x.change) e s w)))
      (λ turned.
      let z : Table = settle x.change transform.done s.promises in
      let q : Queued (of_job (of_reaction (goes_on t d))) 1 z = queued-settle (of_reaction (goes_on t d)) (of_job (of_reaction (goes_on t d))) 1 x.change transform.done s.promises (goes-job t d transform.done) (change-open f t x s k there) w in
      InJobs (rw turned ((queued-changes (of_job (of_reaction (goes_on t d))) 1).fresh z q)))
      r.turned
  row-token f d e s k (InJobs q) = InJobs (row-changes (Queued (of_job (of_reaction (goes_on t d))) 1) (queued-changes (of_job (of_reaction (goes_on t d))) 1) e s q)

  -- the write algorithm is to be performed; the sink is to write; the write is to wait for the change promise, and to hear of its own; to hear of
  -- its own; it waits; it goes on; it is thrown; its chunk is to be handed on; and the stream is to hear that it failed
  pub data Stage (s : Slots) (es : List Effect) : Type 0 where
    Begins : (rest : List Effect) → es ≡ WriteAlgorithm i ∷ rest → Stage s es
    Sinks : (rest : List Effect) → es ≡ OnTransform t (SinkWrite (React (WritableWrite i) None)) ∷ rest → Stage s es
    Asks : (x : transform.Slots) (d : PromiseId) (rest : List Effect) → slice_get s.transforms t.0 ≡ Some x
        → es ≡ Give (This x.change) (React (TransformChanged t d) None) ∷ Give (This d) (React (WritableWrite i) None) ∷ rest → Stage s es
    Hears : (d : PromiseId) (rest : List Effect) → Token d s → es ≡ Give (This d) (React (WritableWrite i) None) ∷ rest → Stage s es
    Rests : (d : PromiseId) → Token d s → Waits (of_reaction (is_write i)) 1 d s.promises → Stage s es
    GoesOn : (d : PromiseId) (rest : List Effect) → Waits (of_reaction (is_write i)) 1 d s.promises → es ≡ OnTransform t (WriteGoesOn d) ∷ rest → Stage s es
    Throws : (d : PromiseId) (e : Plain) (rest : List Effect) → Waits (of_reaction (is_write i)) 1 d s.promises → es ≡ SettlePromise d (Err e) ∷ rest → Stage s es
    Hands : (d : PromiseId) (rest : List Effect) → es ≡ OnWritable i (HandOn (ToTransform t d)) ∷ rest → Stage s es
    Failing : Queued (fails i) 1 s.promises → Stage s es
    Fails : (e : Plain) (rest : List Effect) → es ≡ OnWritable i (WriteSettled (Err e)) ∷ rest → Stage s es

  -- after the first effect
  abbrev pub After : Slots → List Effect → Type 0
  After s [] = Unit {0}
  After s (e ∷ es) = Stage (row e s).slots ((row e s).caused ++ es)

  module _ (s : Slots) where
    pub rests-on : (f : PromiseId → ℕ) (e : Effect) (es : List Effect) (d : PromiseId) → Sound f s → Token d s → Waits (of_reaction (is_write i)) 1 d s.promises → After s (e ∷ es)
    rests-on f e es d k tok w = Rests d (row-token f d e s k tok) (row-changes (Waits (of_reaction (is_write i)) 1 d) (waits-changes (of_reaction (is_write i)) 1 d) e s w)

    pub failing-on : (e : Effect) (es : List Effect) → Queued (fails i) 1 s.promises → After s (e ∷ es)
    failing-on e es q = Failing (row-changes (Queued (fails i) 1) (queued-changes (fails i) 1) e s q)

    begins-on : (rest : List Effect) → owner_at i s ≡ HalfOf t → After s (WriteAlgorithm i ∷ rest)
    unfolding row
    begins-on rest owner = Sinks rest (rw owner refl)

    sinks-on : (x : transform.Slots) (rest : List Effect) → slice_get s.transforms t.0 ≡ Some x → x.writable ≡ i → After s (OnTransform t (SinkWrite (React (WritableWrite i) None)) ∷ rest)
    unfolding row transform.sink_write
    sinks-on x rest there half =
        let a : transform.Acts = record { slots = x; out = found s } in
        let u : Use = React (WritableWrite i) None in
        rw there (either (λ (b : transform.Acts). Stage (put_transform t s b).slots ((put_transform t s b).caused ++ rest)) x.backpressure (transform.wait_for_change t u a) (transform.perform_transform t u a)
        (λ e. Asks x (next_id s.promises) rest (place-same s.transforms t.0 x x there) refl)
        (λ e. Hands (next_id s.promises) (Give (This (next_id s.promises)) u ∷ rest) (rw half refl)))

    asks-on : (f : PromiseId → ℕ) (x : transform.Slots) (d : PromiseId) (rest : List Effect) → Sound f s → slice_get s.transforms t.0 ≡ Some x
        → After s (Give (This x.change) (React (TransformChanged t d) None) ∷ Give (This d) (React (WritableWrite i) None) ∷ rest)
    unfolding row use_gift
    asks-on f x d rest k there =
        let w : Waits (of_reaction (goes_on t d)) 1 x.change (react x.change (Perform (TransformChanged t d) None) s.promises) =
        rw (goes-self t d) at (waits-react (of_reaction (goes_on t d)) x.change (Perform (TransformChanged t d) None) s.promises (change-open f t x s k there)) in
        Hears d rest (AtChange x there w) refl

    hears-on : (f : PromiseId → ℕ) (d : PromiseId) (rest : List Effect) → Sound f s → Token d s → After s (Give (This d) (React (WritableWrite i) None) ∷ rest)
    unfolding row use_gift
    hears-on f d rest k tok =
        let w : Waits (of_reaction (is_write i)) 1 d (react d (Perform (WritableWrite i) None) s.promises) =
        rw (write-self i) at (waits-react (of_reaction (is_write i)) d (Perform (WritableWrite i) None) s.promises (token-open f d s k tok)) in
        Rests d (row-token f d (Give (This d) (React (WritableWrite i) None)) s k tok) w

    goes_in : (x : transform.Slots) (d : PromiseId) (rest : List Effect) (state : WritableState) → x.writable ≡ i → Waits (of_reaction (is_write i)) 1 d s.promises
        → let b = transform.write_in t (halves_at x s) d (record { slots = x; out = found s }) state in Stage (put_transform t s b).slots ((put_transform t s b).caused ++ rest)
    goes_in x d rest Writable half w = Hands (next_id s.promises) (Give (This (next_id s.promises)) (Resolve d) ∷ rest) (rw half refl)
    goes_in x d rest Erroring half w = Throws d (halves_at x s).writable_error rest w refl
    goes_in x d rest Errored half w = Hands (next_id s.promises) (Give (This (next_id s.promises)) (Resolve d) ∷ rest) (rw half refl)
    goes_in x d rest Closed half w = Hands (next_id s.promises) (Give (This (next_id s.promises)) (Resolve d) ∷ rest) (rw half refl)

    goes-on : (x : transform.Slots) (d : PromiseId) (rest : List Effect) → slice_get s.transforms t.0 ≡ Some x → x.writable ≡ i → Waits (of_reaction (is_write i)) 1 d s.promises → After s (OnTransform t (WriteGoesOn d) ∷ rest)
    unfolding row transform.write_goes_on
    goes-on x d rest there half w = rw there (goes_in x d rest (halves_at x s).writable_state half w)

    throws-on : (d : PromiseId) (e : Plain) (rest : List Effect) → is_open d s.promises ≡ true → Waits (of_reaction (is_write i)) 1 d s.promises → After s (SettlePromise d (Err e) ∷ rest)
    unfolding row
    throws-on d e rest open_ w = Failing (queued-settle (of_reaction (is_write i)) (fails i) 1 d (Err e) s.promises (write-fails i e) open_ w)

    -- an effect that is no operation of the stream
    absurd_own : {A : Type 0} (e : Effect) (es : List Effect) (operation : WritableOperation) (rest : List Effect) → Elsewhere i e → e ∷ es ≡ OnWritable i operation ∷ rest → A
    absurd_own e es operation rest x eq =
        let is : e ≡ OnWritable i operation = cc in
        let no : is_same i i ≡ false = subst (Elsewhere i) is x in
        let yes = is_same-refl i in absurd (cc)

    pub other-on : (x : transform.Slots) (e : Effect) (es : List Effect) → Elsewhere i e → slice_get s.transforms t.0 ≡ Some x → x.writable ≡ i → owner_at i s ≡ HalfOf t → Sound (λ p. in_effects p (e ∷ es)) s
        → Stage s (e ∷ es) → After s (e ∷ es)
    other-on x e es else_ there half owner k (Begins rest eq) = subst (After s) (sym eq) (begins-on rest owner)
    other-on x e es else_ there half owner k (Sinks rest eq) = subst (After s) (sym eq) (sinks-on x rest there half)
    other-on x e es else_ there half owner k (Asks y d rest at eq) = subst (After s) (sym eq) (asks-on (λ p. in_effects p (e ∷ es)) y d rest k at)
    other-on x e es else_ there half owner k (Hears d rest tok eq) = subst (After s) (sym eq) (hears-on (λ p. in_effects p (e ∷ es)) d rest k tok)
    other-on x e es else_ there half owner k (Rests d tok w) = rests-on (λ p. in_effects p (e ∷ es)) e es d k tok w
    other-on x e es else_ there half owner k (GoesOn d rest w eq) = subst (After s) (sym eq) (goes-on x d rest there half w)
    other-on x e es else_ there half owner k (Throws d r rest w eq) =
        let stands : 1 ≤ in_effects d (e ∷ es) = subst (λ (fs : List Effect). 1 ≤ in_effects d fs) (sym eq) (let n = names-self d in omega arith) in
        subst (After s) (sym eq) (throws-on d r rest (open-at (λ p. in_effects p (e ∷ es)) d s k (omega arith)) w)
    other-on x e es else_ there half owner k (Hands d rest eq) = absurd_own e es _ rest else_ eq
    other-on x e es else_ there half owner k (Failing q) = failing-on e es q
    other-on x e es else_ there half owner k (Fails r rest eq) = absurd_own e es _ rest else_ eq

    -- the stages in which another operation of the stream may be performed
    pub own-on : (f : PromiseId → ℕ) (operation : WritableOperation) (es : List Effect) → (IsHandOn operation → ⊥) → (IsWriteSettled operation → ⊥) → Sound f s → Stage s (OnWritable i operation ∷ es) → After s (OnWritable i operation ∷ es)
    own-on f operation es u v k (Begins rest eq) = cc
    own-on f operation es u v k (Sinks rest eq) = cc
    own-on f operation es u v k (Asks y d rest at eq) = cc
    own-on f operation es u v k (Hears d rest tok eq) = cc
    own-on f operation es u v k (Rests d tok w) = rests-on f (OnWritable i operation) es d k tok w
    own-on f operation es u v k (GoesOn d rest w eq) = cc
    own-on f operation es u v k (Throws d r rest w eq) = cc
    own-on f operation es u v k (Hands d rest eq) = let is : operation ≡ HandOn (ToTransform t d) = cc in absurd (u (subst IsHandOn (sym is) tt))
    own-on f operation es u v k (Failing q) = failing-on (OnWritable i operation) es q
    own-on f operation es u v k (Fails r rest eq) = let is : operation ≡ WriteSettled (Err r) = cc in absurd (v (subst IsWriteSettled (sym is) tt))
