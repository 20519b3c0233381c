-- Where the job is queued by which a write goes on that waited, there is no backpressure, where no enqueue is told while one waits.
use Rattle.std.proofs.Common.{◌≡◌, ℕ, zero, suc, ◌≤◌, ◌<◌, Bool, true, false, map, List, [], ◌∷◌, ◌++◌, Option, Some, None, slice_get, refl, sym, subst, ap, ◌∙◌, arith}
use Rattle.ws_laws.proofs.Halves.{Halved}
use Rattle.ws_value.specs.declared.{ids.PromiseId.{PromiseId}}
use Rattle.ws_steps.specs.declared.calls.{Call.{Call}}
use Rattle.ws_steps.specs.declared.effects.{Effect.{Effect}}
use Rattle.ws_steps.specs.declared.effects.Effect.TheVariants.{Transform as OnTransform}
use Rattle.ws_steps.specs.declared.promises.{Job.{Job}}
use Rattle.ws_steps.specs.declared.transform.{TransformId.{TransformId}, TransformOperation.{TransformOperation}}
use Rattle.ws_steps.specs.declared.transform.TransformOperation.TheVariants as names
use Rattle.ws_steps.specs.Calls.{begin}
use Rattle.ws_steps.specs.Jobs.{job_effects}
use Rattle.ws_steps.specs.Promises.{next_job, after_next_job, watch, fresh}
use Rattle.ws_steps.specs.Run.{older, after_event}
use Rattle.ws_steps.specs.Slots.{Slots, empty, found, halves_at, as_transform, with_promises}
use Rattle.ws_steps.specs.Transform as transform
use Rattle.ws_steps.specs.Turns.{row}
use Rattle.ws_laws.proofs.Begin.{begin-makes}
use Rattle.ws_laws.proofs.Halves.{get-stays}
use Rattle.ws_laws.proofs.Shapes.{transform_shape, map-there, row-transform_shapes}
use Rattle.ws_laws.proofs.Tables.{eq_numbers}
use Rattle.ws_laws.proofs.Weights.{of_job, weigh, weigh-fresh, weigh-next, weigh-watch}
use Rattle.ws_writable_laws.proofs.Shape.{leads_to, of_reaction}
use Rattle.ws_promise_laws.proofs.Realm.{Sound}
use Rattle.ws_promise_laws.proofs.Runs.{Straight, straight-stays, straight-heard, straight-empty}
use Rattle.ws_promise_laws.proofs.Tokens.{in_effects}
use Rattle.ws_transform_laws.specs.TransformHistory.{is_same_transform}
use Rattle.ws_transform_laws.proofs.Asking.{Asking, Quiet, Asks, Waiting, row-waits, waiting-stays}
use Rattle.ws_transform_laws.proofs.Backpressure.{pressed, pulled-none, own-turns, row-keeps, IsTurned}
use Rattle.ws_transform_laws.proofs.Stages.{change-open}
use Rattle.ws_transform_laws.proofs.Waited.{changing, asks, all_waiting, queued, Where, InJobs, AtChange, row-waiting, row-asks, row-no-more, waits-total}
use Rattle.ws_transform_laws.proofs.Waiting.{Waits, jobs_within, waits_from, waits-next, waits-watch}
use Rattle.ws_steps.specs.Operations.{transform_operation}
use Rattle.ws_want_laws.proofs.Zone.{Zone, Outside, IsChunk, told-none, row-zone, job-unmarked}

unblock-none : (a : transform.Acts) → (transform.unblock a).slots.backpressure ≡ false
unfolding transform.unblock transform.set_backpressure
unblock-none a = grind arith

module _ (t : TransformId) where
  -- none waits of a transform stream that isn't made yet
  abbrev pub Unmade : Slots → Type 0
  Unmade s = slice_get s.transforms t.0 ≡ None → all_waiting t s ≡ 0

  abbrev pub Free : Slots → Type 0
  Free s = 0 < queued t s → pressed t s ≡ false

  -- what is queued waits
  few : (s : Slots) → queued t s ≤ all_waiting t s
  unfolding weigh
  few s = let c = jobs_within (of_job (of_reaction (changing t))) (of_reaction (changing t)) (λ j. omega arith) s.promises.jobs in omega arith

  pub none-free : (s : Slots) → all_waiting t s ≡ 0 → Free s
  none-free s n q = let a = few s in absurd (omega arith)

  -- what an effect leaves

  unmade-before : (e : Effect) (s : Slots) → slice_get (row e s).slots.transforms t.0 ≡ None → slice_get s.transforms t.0 ≡ None
  unmade-before e s none = by (slice_get s.transforms t.0) refl
    where
      gone : (ts : List transform.Slots) (k : ℕ) → slice_get ts k ≡ None → slice_get (map transform_shape ts) k ≡ None
      gone [] k n = refl
      gone (x ∷ xs) zero n = cc
      gone (x ∷ xs) (suc k) n = gone xs k n

      by : (o : Option transform.Slots) → o ≡ slice_get s.transforms t.0 → slice_get s.transforms t.0 ≡ None
      by None e = sym e
      by (Some x) f =
          let there = map-there transform_shape s.transforms t.0 x (sym f) in
          let same = ap (λ (ts : List _). slice_get ts t.0) (row-transform_shapes e s) in
          let no = gone (row e s).slots.transforms t.0 none in cc

  leads-none : (s : Slots) (e : Effect) (es : List Effect) → Asking t s (e ∷ es) → slice_get s.transforms t.0 ≡ None → leads_to (changing t) e ≡ 0
  leads-none s e es (Quiet n) none = omega arith
  leads-none s e es (Asks x d rest at press eq n) none = cc

  pub row-unmade : (s : Slots) (e : Effect) (es : List Effect) → Asking t s (e ∷ es) → Unmade s → Unmade (row e s).slots
  row-unmade s e es a k none =
      let before = unmade-before e s none in
      let l = leads-none s e es a before in
      let n = k before in let w = row-waiting t e s in omega arith

  less-free : (s z : Slots) → queued t z ≤ queued t s → pressed t z ≡ pressed t s → Free s → Free z
  less-free s z l same k q = same ∙ k (omega arith)

  -- one that may change the backpressure

  turned-free : (s : Slots) (operation : TransformOperation) (x : transform.Slots) → slice_get s.transforms t.0 ≡ Some x
      → (transform_operation t (halves_at x s) operation (record { slots = x; out = found s })).slots.backpressure ≡ false
      → Free (row (OnTransform t operation) s).slots
  turned-free s operation x is e = λ q. own-turns t operation s x is ∙ e

  spent-free : (s : Slots) (e : Effect) → leads_to (changing t) e ≡ 0 → all_waiting t s ≡ 0 → Free (row e s).slots
  spent-free s e l n = none-free (row e s).slots (let a = row-waiting t e s in omega arith)

  own-free : (s : Slots) (operation : TransformOperation) → leads_to (changing t) (OnTransform t operation) ≡ 0 → Unmade s
      → ((x : transform.Slots) → (transform_operation t (halves_at x s) operation (record { slots = x; out = found s })).slots.backpressure ≡ false)
      → Free (row (OnTransform t operation) s).slots
  own-free s operation l u k = by (slice_get s.transforms t.0) refl
    where
      by : (o : Option transform.Slots) → o ≡ slice_get s.transforms t.0 → Free (row (OnTransform t operation) s).slots
      by None e = spent-free s (OnTransform t operation) l (u (sym e))
      by (Some x) e = turned-free s operation x (sym e) (k x)

  -- one that doesn't

  unturned-free : (s : Slots) (e : Effect) (es : List Effect) → (IsTurned t e → ⊥) → leads_to (changing t) e ≡ 0 → Straight s (e ∷ es)
      → Straight (row e s).slots ((row e s).caused ++ es) → Where t s → Free s → Free (row e s).slots
  unturned-free s e es n l k next w f =
      less-free s (row e s).slots (row-no-more t (λ p. in_effects p (e ∷ es)) (λ p. in_effects p ((row e s).caused ++ es)) e s next.sound l n w) (row-keeps t e s n) f

  transform-free : (s : Slots) (u : TransformId) (operation : TransformOperation) (es : List Effect) → (same : Bool) → same ≡ is_same_transform t u
      → leads_to (changing t) (OnTransform u operation) ≡ 0
      → Straight s (OnTransform u operation ∷ es) → Straight (row (OnTransform u operation) s).slots ((row (OnTransform u operation) s).caused ++ es)
      → Where t s → Unmade s → Free s → (is_same_transform t u ≡ true → operation ≡ names.Enqueued → all_waiting t s ≡ 0)
      → Free (row (OnTransform u operation) s).slots
  transform-free s u operation es false e l k next w m f told = unturned-free s (OnTransform u operation) es (λ c. let yes = c.0 in absurd (cc)) l k next w f
  transform-free s u (names.SourcePull x) es true e l k next w m f told =
      let is : t ≡ u = ap (λ (n : ℕ). record { 0 = n }) (eq_numbers t.0 u.0 (sym e)) in
      subst (λ (y : TransformId). Free (row (OnTransform y (names.SourcePull x)) s).slots) is (own-free s (names.SourcePull x) l m (λ z. pulled-none x (record { slots = z; out = found s })))
  transform-free s u names.Unblock es true e l k next w m f told =
      let is : t ≡ u = ap (λ (n : ℕ). record { 0 = n }) (eq_numbers t.0 u.0 (sym e)) in
      subst (λ (y : TransformId). Free (row (OnTransform y names.Unblock) s).slots) is (own-free s names.Unblock l m (λ z. unblock-none (record { slots = z; out = found s })))
  transform-free s u names.Enqueued es true e l k next w m f told = spent-free s (OnTransform u names.Enqueued) l (told (sym e) refl)
  transform-free s u operation es true e l k next w m f told = unturned-free s (OnTransform u operation) es (λ c. c.1) l k next w f

  quiet-free : (s : Slots) (e : Effect) (es : List Effect) → leads_to (changing t) e ≡ 0 → Straight s (e ∷ es)
      → Straight (row e s).slots ((row e s).caused ++ es) → Where t s → Unmade s → Free s → Zone t s (e ∷ es) → Free (row e s).slots
  quiet-free s (OnTransform u operation) es l k next w m f z = transform-free s u operation es (is_same_transform t u) refl l k next w m f told
    where
      told : is_same_transform t u ≡ true → operation ≡ names.Enqueued → all_waiting t s ≡ 0
      told same is = told-none t s u es same (subst (λ (o : TransformOperation). Zone t s (OnTransform u o ∷ es)) is z)
  quiet-free s e es l k next w m f z = unturned-free s e es (λ c. c) l k next w f

  -- what holds at each moment
  pub record Freed (s : Slots) (es : List Effect) : Type 0 where
    pub waiting : Waiting t s es
    pub unmade : Unmade s
    pub free : Free s
    pub zone : Zone t s es

  row-free : (s : Slots) (e : Effect) (es : List Effect) → Freed s (e ∷ es) → Free (row e s).slots
  row-free s e es k = by k.waiting.asking
    where
      next : Straight (row e s).slots ((row e s).caused ++ es)
      next = straight-stays.row s e es k.waiting.straight

      by : Asking t s (e ∷ es) → Free (row e s).slots
      by (Quiet n) = quiet-free s e es (omega arith) k.waiting.straight next k.waiting.place k.unmade k.free k.zone
      by (Asks x d rest at press eq none) =
          let is : e ≡ asks t x d = cc in
          let after = subst (λ (f : Effect). Straight (row f s).slots ((row f s).caused ++ es)) is next in
          let l = (row-asks t (λ p. in_effects p (e ∷ es)) (λ p. in_effects p ((row (asks t x d) s).caused ++ es)) x d s k.waiting.straight.sound after.sound at press k.waiting.place).1 in
          subst (λ (f : Effect). Free (row f s).slots) (sym is) (less-free s (row (asks t x d) s).slots l (row-keeps t (asks t x d) s (λ c. c)) k.free)

  -- what goes on where the transform streams stay

  no-more : (g : PromiseId → ℕ) (s z : Slots) → Sound g z → ((x : transform.Slots) → slice_get s.transforms t.0 ≡ Some x → slice_get z.transforms t.0 ≡ Some x)
      → ((n : ℕ) (p : PromiseId) → Waits (of_reaction (changing t)) n p s.promises → Waits (of_reaction (changing t)) n p z.promises)
      → all_waiting t z ≤ all_waiting t s → Where t s → queued t z ≤ queued t s
  no-more g s z sound keeps waits l (InJobs k) = let a = few z in omega arith
  no-more g s z sound keeps waits l (AtChange n x at press w k) =
      let a = waits-total (of_reaction (changing t)) n x.change z.promises (change-open g t x z sound (keeps x at)) (waits n x.change w) in omega arith

  -- with the effects of a call or a job

  rests : (g : PromiseId → ℕ) (s z : Slots) → Sound g z → z.transforms ≡ s.transforms
      → ((n : ℕ) (p : PromiseId) → Waits (of_reaction (changing t)) n p s.promises → Waits (of_reaction (changing t)) n p z.promises)
      → all_waiting t z ≤ all_waiting t s → Where t s → Unmade s → Free s → Unmade z × Free z
  rests g s z sound same waits l w m f = (
    λ none. let n = m (rw same at none) in omega arith,
    less-free s z (no-more g s z sound (λ x at. rw same at) waits l w) (ap (λ (ts : List transform.Slots). (as_transform (slice_get ts t.0)).backpressure) same) f,
  )

  -- the beginning of a call

  abbrev Begins : Slots → Type 0
  Begins z = Unmade z × Free z

  fresh-begins : (z : Slots) → Begins z → Begins (with_promises (fresh z.promises) z)
  unfolding fresh
  fresh-begins z k = (λ none. let n = k.0 none in let a = fresh-all z in omega arith, λ q. k.1 q)
    where
      fresh-all : (z : Slots) → all_waiting t (with_promises (fresh z.promises) z) ≤ all_waiting t z
      fresh-all z = weigh-fresh (of_reaction (changing t)) z.promises

  made-begins : (z : Slots) (x : transform.Slots) → Begins z → Begins (record z { transforms = z.transforms ++ x ∷ [] })
  made-begins z x k = by (slice_get z.transforms t.0) refl
    where
      by : (o : Option transform.Slots) → o ≡ slice_get z.transforms t.0 → Begins (record z { transforms = z.transforms ++ x ∷ [] })
      by None e = let n = k.0 (sym e) in (λ none. n, none-free (record z { transforms = z.transforms ++ x ∷ [] }) n)
      by (Some y) e =
          let stays = get-stays z.transforms (x ∷ []) t.0 y (sym e) in
          (λ none. absurd (cc), λ q. ap (λ (o : Option transform.Slots). (as_transform o).backpressure) (stays ∙ e) ∙ k.1 q)

  call-begins : (c : Call) (s : Slots) → Begins s → Begins (begin c s).done.slots
  call-begins c s k = begin-makes Begins (record {
    promise = λ z k. fresh-begins z k;
    locks = λ z ls k. k;
    hosts = λ z hs k. k;
    pipe = λ z source dest prevent signal promise k. k;
    signal = λ z k. k;
    transform = λ z kind w r change k. made-begins z _ k;
    tee = λ z source first second cancel k. k;
    port = λ z side stream backpressure k. k;
    bytes = λ z mark auto k. k;
    byob_requests = λ z hs k. k;
    readable = λ z o mark size k. k;
    writable = λ z o mark size k. k;
  }) c s k

  -- over what each effect leaves; where a chunk is transformed none waits
  pub row-freed : (s : Slots) (e : Effect) (es : List Effect) → Halved s → (IsChunk t e ≡ true → all_waiting t s ≡ 0) → Freed s (e ∷ es)
      → Freed (row e s).slots ((row e s).caused ++ es)
  row-freed s e es halved c k = record {
    waiting = row-waits t s e es k.waiting;
    unmade = row-unmade s e es k.waiting.asking k.unmade;
    free = row-free s e es k;
    zone = row-zone t s e es halved c k.zone;
  }

  pub call-freed : (s : Slots) (c : Call) → Zone t (begin c s).done.slots (begin c s).done.caused → Freed s []
      → Freed (begin c s).done.slots (begin c s).done.caused
  call-freed s c z k = let b = call-begins c s (k.unmade, k.free) in record { waiting = (waiting-stays t).call s c k.waiting; unmade = b.0; free = b.1; zone = z }

  pub job-freed : (s : Slots) (job : Job) → next_job s.promises ≡ Some job → Freed s [] → Freed (with_promises (after_next_job s.promises) s) (job_effects job)
  job-freed s job e k =
      let w = (waiting-stays t).job s job e k.waiting in
      let z : Slots = with_promises (after_next_job s.promises) s in
      let b = rests (λ p. in_effects p (job_effects job)) s z w.straight.sound refl (λ n p w. waits-next (of_reaction (changing t)) n p s.promises w) (let a = weigh-next (of_reaction (changing t)) s.promises in omega arith) k.waiting.place k.unmade k.free in
      record { waiting = w; unmade = b.0; free = b.1; zone = Outside (job-unmarked t job) }

  pub answered-freed : (s : Slots) (p : PromiseId) → Freed s [] → Freed (with_promises (watch p s.promises) s) []
  answered-freed s p k =
      let w = (waiting-stays t).answered s p k.waiting in
      let z : Slots = with_promises (watch p s.promises) s in
      let b = rests (λ p. in_effects p []) s z w.straight.sound refl (λ n q v. waits-watch (of_reaction (changing t)) n q s.promises p v) (weigh-watch (of_reaction (changing t)) p s.promises) k.waiting.place k.unmade k.free in
      record { waiting = w; unmade = b.0; free = b.1; zone = Outside refl }

  pub older-freed : (s : Slots) → Freed s [] → Freed (older s) []
  older-freed s k = record { waiting = (waiting-stays t).older s k.waiting; unmade = k.unmade; free = k.free; zone = Outside refl }

  heard-all : (s : Slots) → (all_waiting t (after_event s) ≤ all_waiting t s) × (queued t (after_event s) ≤ queued t s)
  unfolding weigh
  heard-all s = (omega arith, omega arith)

  -- the host takes an event

  heard-where : (s : Slots) → Where t s → Where t (after_event s)
  heard-where s (InJobs l) = let a = heard-all s in let b = a.0 in InJobs (omega arith)
  heard-where s (AtChange n x at press w l) = let a = heard-all s in let b = a.0 in AtChange n x at press (waits_from (of_reaction (changing t)) n x.change s.promises (after_event s).promises refl w) (omega arith)

  pub heard-freed : (s : Slots) → Freed s [] → Freed (after_event s) []
  heard-freed s k = record {
    waiting = record { straight = straight-heard s k.waiting.straight; place = heard-where s k.waiting.place; asking = Quiet refl };
    unmade = λ none. let a = heard-all s in let b = a.0 in let n = k.unmade none in omega arith;
    free = λ q. k.free (let a = heard-all s in let b = a.1 in omega arith);
    zone = Outside refl;
  }

  none-all : all_waiting t empty ≡ 0
  unfolding weigh
  none-all = refl

  pub none-freed : Freed empty []
  none-freed = record {
    waiting = record { straight = straight-empty; place = InJobs (let a = none-all in omega arith); asking = Quiet refl };
    unmade = λ none. none-all;
    free = none-free empty none-all;
    zone = Outside refl;
  }
