-- Over every run a write of a half of a transform stream that needs its chunk handed on is somewhere: so none is fulfilled before its chunk is
-- handed on.
use Rattle.std.proofs.Common.{◌≡◌, ◌⊎◌, inl, inr, ⊎_elim, ℕ, zero, suc, Bool, true, false, ◌&&◌, nat_eq, List, [], ◌∷◌, ◌++◌, length, map, Option, Some, None, Result, Ok, Err, slice_get, refl, sym, ap, subst, ◌∙◌, arith}
use Rattle.ws_value.specs.declared.ids.{PromiseId.{PromiseId}, StreamId.{StreamId}}
use Rattle.ws_value.specs.declared.value.Plain.{Plain}
use Rattle.ws_steps.specs.declared.calls.Call.{Call}
use Rattle.ws_steps.specs.declared.effects.{Effect.{Effect}, Effect.TheVariants.{Writable as OnWritable, WriteAlgorithm}, Owner.{Owner}, Owner.TheVariants.{HalfOf}}
use Rattle.ws_steps.specs.declared.promises.{Job.{Job}, Reaction.{Reaction}, Step.{Step}}
use Rattle.ws_steps.specs.declared.promises.Job.TheVariants.{Reaction as ReactionJob, Follow, Settle, Micro as MicroJob}
use Rattle.ws_steps.specs.declared.promises.Step.TheVariants.{WritableWrite, TransformChanged}
use Rattle.ws_steps.specs.declared.transform.{Taker.{Taker}, TransformId.{TransformId}}
use Rattle.ws_steps.specs.declared.writable.{WritableOperation.{WritableOperation}, WritableOperation.TheVariants.{HandOn, WriteSettled}}
use Rattle.ws_steps.specs.MakingCalls.{add_stream}
use Rattle.ws_steps.specs.Calls.{begin}
use Rattle.ws_steps.specs.Histories.{is_same}
use Rattle.ws_steps.specs.Jobs.{job_effects}
use Rattle.ws_steps.specs.Operations.{writable_operation}
use Rattle.ws_steps.specs.Promises.{next_job, after_next_job, watch}
use Rattle.ws_steps.specs.Run.{older, after_event}
use Rattle.ws_steps.specs.Slots.{Slots, Stream, ReadableStream, ByteStream, WritableStream, Done, empty, nothing, owner_at, has_writable, writable_at, as_writable, is_writable_stream, with_promises, put_writable}
use Rattle.ws_steps.specs.Transform as transform
use Rattle.ws_steps.specs.Turns.{row}
use Rattle.ws_steps.specs.Writable as writable
use Rattle.ws_steps.specs.WritableHistory.{Writes, no_writes, writes_then, effect_writes}
use Rattle.ws_laws.proofs.Begin.{begin-makes}
use Rattle.ws_laws.proofs.Halves.{Halved, get-stays}
use Rattle.ws_laws.proofs.Shapes.{WritableOf, TransformShape, stream_shape, transform_shape, stream_shapes, map-there, row-owner}
use Rattle.ws_laws.proofs.Tables.{either, same_id, eq_numbers, unequal_numbers, place_last, place_before, writable_acts, on_writable-same, writable_there}
use Rattle.ws_laws.proofs.Walker.{GoesUntold, RestsUntold}
use Rattle.ws_laws.proofs.Weights.{of_job}
use Rattle.ws_writable_laws.proofs.Agenda.{Kept, Elsewhere, row-leaves, same_or}
use Rattle.ws_writable_laws.proofs.Runs as runs
use Rattle.ws_writable_laws.proofs.Shape.{one_if, is_write, of_reaction}
use Rattle.ws_promise_laws.proofs.Runs.{Straight, straight-stays, straight-heard, straight-empty}
use Rattle.ws_promise_laws.proofs.Tokens.{in_effects}
use Rattle.ws_transform_laws.proofs.Need.{needs, has_chunk, operation-next, settled-next, handed-none}
use Rattle.ws_transform_laws.proofs.Stages.{goes_on, fails, Token, AtChange, InJobs, Stage, Begins, Sinks, Asks, Hears, Rests, GoesOn, Throws, Hands, Failing, Fails, other-on, own-on}
use Rattle.ws_transform_laws.proofs.Waiting.{Waits, Queued, waits-changes, queued-changes, waits-watch, queued-watch, waits-next, queued-next, waits_from}

-- the transform stream of a half

pub none_needs : (o : Option Stream) → is_writable_stream o ≡ false → needs (as_writable o) ≡ true → {A : Type 0} → A
none_needs None e n = cc
none_needs (Some (ReadableStream r)) e n = cc
none_needs (Some (ByteStream b)) e n = cc
none_needs (Some (WritableStream w)) e n = cc

pub map-from : {X Y : Type 0} (f : X → Y) (xs : List X) (k : ℕ) (y : Y) → slice_get (map f xs) k ≡ Some y → (x : X) × ((slice_get xs k ≡ Some x) × (f x ≡ y))
map-from f [] k y e = cc
map-from f (x ∷ xs) zero y e = (x, (refl, cc))
map-from f (x ∷ xs) (suc k) y e = map-from f xs k y e

pub writable-shape : (i : StreamId) (s : Slots) (owner : Owner) → has_writable i s ≡ true → owner_at i s ≡ owner → slice_get (stream_shapes s) i.0 ≡ Some (WritableOf owner)
writable-shape i s owner there is =
    let at = writable_there (slice_get s.streams i.0) there in
    let o : (writable_at i s).owner ≡ owner = rw at at is in
    map-there stream_shape s.streams i.0 (WritableStream (writable_at i s)) at ∙ ap (λ (o : Owner). Some (WritableOf o)) o

pub half-there : (i : StreamId) (t : TransformId) (s : Slots) → Halved s → has_writable i s ≡ true → owner_at i s ≡ HalfOf t → (x : transform.Slots) × ((slice_get s.transforms t.0 ≡ Some x) × (x.writable ≡ i))
half-there i t s halved there owner =
    let h = halved.writable i t (writable-shape i s (HalfOf t) there owner) in
    let x = map-from transform_shape s.transforms t.0 h.0 h.1.0 in
    (x.0, (x.1.0, ap (λ (y : TransformShape). y.writable) x.1.1 ∙ h.1.1))

pub needs-there : (i : StreamId) (s : Slots) → needs (writable_at i s) ≡ true → has_writable i s ≡ true
needs-there i s n = by (has_writable i s) refl
  where
    by : (b : Bool) → b ≡ has_writable i s → has_writable i s ≡ true
    by true e = sym e
    by false e = none_needs (slice_get s.streams i.0) (sym e) n

module _ (i : StreamId) (t : TransformId) where
  -- a write of the half that needs its chunk handed on is somewhere, and its chunk stands first
  abbrev pub Staged : Slots → List Effect → Type 0
  Staged s es = owner_at i s ≡ HalfOf t → needs (writable_at i s) ≡ true → (has_chunk (writable_at i s).queue ≡ true) × Stage i t s es

  pub record Going (h : Writes) (s : Slots) (es : List Effect) : Type 0 where
    pub straight : Straight s es
    pub kept : Kept i h s es
    pub staged : Staged s es

  -- each effect

  other-staged : (h : Writes) (s : Slots) (e : Effect) (es : List Effect) → Elsewhere i e → Going h s (e ∷ es) → Staged (row e s).slots ((row e s).caused ++ es)
  other-staged h s e es x g owner n =
      let same : writable_at i (row e s).slots ≡ writable_at i s = (row-leaves i e s x).place in
      let o : owner_at i s ≡ HalfOf t = sym (row-owner i e s) ∙ owner in
      let m : needs (writable_at i s) ≡ true = rw same at n in
      let k = g.staged o m in
      let y = half-there i t s g.kept.halved (needs-there i s m) o in
      (rw same k.0, other-on i t s y.0 e es x y.1.0 y.1.1 o g.straight.sound k.1)

  own_by : (s : Slots) (operation : WritableOperation) (es : List Effect) (b : writable.Acts) → (has_chunk b.slots.queue ≡ true) × ((b.out.effects ≡ WriteAlgorithm i ∷ []) ⊎ (needs (writable_at i s) ≡ true))
      → (needs (writable_at i s) ≡ true → Stage i t (put_writable i s b).slots (b.out.effects ++ es)) → (has_chunk b.slots.queue ≡ true) × Stage i t (put_writable i s b).slots (b.out.effects ++ es)
  own_by s operation es b k was = (k.0, ⊎_elim (λ e. Begins es (rw e refl)) was k.1)

  abbrev own : Slots → WritableOperation → writable.Acts
  own s operation = writable_operation i operation (writable_acts i s)

  handing : (s : Slots) (taker : Taker) (es : List Effect) → (needs (writable_at i s) ≡ true → has_chunk (writable_at i s).queue ≡ true) → needs (own s (HandOn taker)).slots ≡ true → {A : Type 0} → A
  handing s taker es k n = let none = handed-none i taker (writable_acts i s) k in absurd (cc)

  own-there : (h : Writes) (s : Slots) (operation : WritableOperation) (es : List Effect) → has_writable i s ≡ true → Going h s (OnWritable i operation ∷ es) → owner_at i s ≡ HalfOf t → needs (own s operation).slots ≡ true
      → (has_chunk (own s operation).slots.queue ≡ true) × Stage i t (put_writable i s (own s operation)).slots ((own s operation).out.effects ++ es)
  unfolding row
  own-there h s (HandOn taker) es there g o n = handing s taker es (λ m. (g.staged o m).0) n
  own-there h s (WriteSettled outcome) es there g o n =
      let k = settled-next i outcome (writable_acts i s) refl n in
      (k.0, ⊎_elim (λ e. Begins es (rw e refl)) (λ no. cc) k.1)
  own-there h s operation es there g o n =
      let k = operation-next i operation (needs (writable_at i s)) (writable_acts i s) (λ u. u) (refl, λ m. ((g.staged o m).0, m)) n in
      own_by s operation es (own s operation) k (λ m. rw there at (own-on i t s (λ p. in_effects p (OnWritable i operation ∷ es)) operation es (λ u. u) (λ u. u) g.straight.sound (g.staged o m).1))

  own-staged : (h : Writes) (s : Slots) (operation : WritableOperation) (es : List Effect) → Going h s (OnWritable i operation ∷ es) → Staged (row (OnWritable i operation) s).slots ((row (OnWritable i operation) s).caused ++ es)
  unfolding row
  own-staged h s operation es g owner n =
      let o : owner_at i s ≡ HalfOf t = sym (row-owner i (OnWritable i operation) s) ∙ owner in
      either (λ (d : Done). needs (writable_at i d.slots) ≡ true → (has_chunk (writable_at i d.slots).queue ≡ true) × Stage i t d.slots (d.caused ++ es)) (has_writable i s) (put_writable i s (own s operation)) (nothing s)
      (λ there m.
      let at : writable_at i (put_writable i s (own s operation)).slots ≡ (own s operation).slots = ap as_writable (rw there at (on_writable-same (writable_operation i operation) i s there)) in
      let k = own-there h s operation es there g o (rw at at m) in (rw at k.0, k.1))
      (λ absent m. none_needs (slice_get s.streams i.0) absent m)
      n

  row-staged : (h : Writes) (s : Slots) (e : Effect) (es : List Effect) → Going h s (e ∷ es) → Staged (row e s).slots ((row e s).caused ++ es)
  row-staged h s (OnWritable j operation) es g =
      same_or (λ l. Going h s (OnWritable l operation ∷ es) → Staged (row (OnWritable l operation) s).slots ((row (OnWritable l operation) s).caused ++ es))
      i j (is_same i j) refl (λ n k. other-staged h s (OnWritable j operation) es n k) (λ k. own-staged h s operation es k) g
  row-staged h s e es g = other-staged h s e es tt g

  row-going : (h : Writes) (s : Slots) (e : Effect) (es : List Effect) → Going h s (e ∷ es) → Going (writes_then h (effect_writes i e s)) (row e s).slots ((row e s).caused ++ es)
  row-going h s e es g = record { straight = straight-stays.row s e es g.straight; kept = (runs.goes i).row h s e es g.kept; staged = row-staged h s e es g }

  -- between steps

  at-rest : {A : Type 0} (s : Slots) → Stage i t s [] → ((d : PromiseId) → Token i t d s → Waits (of_reaction (is_write i)) 1 d s.promises → A) → (Queued (fails i) 1 s.promises → A) → A
  at-rest s (Begins rest eq) f g = cc
  at-rest s (Sinks rest eq) f g = cc
  at-rest s (Asks y d rest at eq) f g = cc
  at-rest s (Hears d rest tok eq) f g = cc
  at-rest s (Rests d tok w) f g = f d tok w
  at-rest s (GoesOn d rest w eq) f g = cc
  at-rest s (Throws d r rest w eq) f g = cc
  at-rest s (Hands d rest eq) f g = cc
  at-rest s (Failing q) f g = g q
  at-rest s (Fails r rest eq) f g = cc

  -- what goes on with the promises, where the transform streams stay
  record Carries (s z : Slots) : Type 0 where
    transforms : (x : transform.Slots) → slice_get s.transforms t.0 ≡ Some x → slice_get z.transforms t.0 ≡ Some x
    waits : (f : Reaction → ℕ) (p : PromiseId) → Waits f 1 p s.promises → Waits f 1 p z.promises
    queued : (f : Job → ℕ) → Queued f 1 s.promises → Queued f 1 z.promises

  carried-token : (d : PromiseId) (s z : Slots) → Carries s z → Token i t d s → Token i t d z
  carried-token d s z c (AtChange x there w) = AtChange x (c.transforms x there) (c.waits _ x.change w)
  carried-token d s z c (InJobs q) = InJobs (c.queued _ q)

  carried : (s z : Slots) (es : List Effect) → Carries s z → Stage i t s [] → Stage i t z es
  carried s z es c k = at-rest s k (λ d tok w. Rests d (carried-token d s z c tok) (c.waits _ d w)) (λ q. Failing (c.queued _ q))

  staged-on : (s z : Slots) (es : List Effect) → slice_get z.streams i.0 ≡ slice_get s.streams i.0 → Carries s z → Staged s [] → Staged z es
  staged-on s z es same c k = λ owner n.
      let m = k (rw same at owner) (rw same at n) in (rw same m.0, carried s z es c m.1)

  -- jobs

  goes-only : (d : PromiseId) (step : Step) → (goes_on t d step ≡ 0) ⊎ (step ≡ TransformChanged t d)
  goes-only d (TransformChanged u c) = by (nat_eq t.0 u.0) (nat_eq d.0 c.0) refl refl
    where
      by : (a b : Bool) → a ≡ nat_eq t.0 u.0 → b ≡ nat_eq d.0 c.0 → (one_if (a && b) ≡ 0) ⊎ (TransformChanged u c ≡ TransformChanged t d)
      by true true e f =
          let one : t ≡ u = ap (λ (n : ℕ). record { 0 = n }) (eq_numbers t.0 u.0 (sym e)) in
          let two : d ≡ c = ap (λ (n : ℕ). record { 0 = n }) (eq_numbers d.0 c.0 (sym f)) in inr (rw (one, two) refl)
      by true false e f = inl refl
      by false b e f = inl refl
  goes-only d _ = inl refl

  write-only : (step : Step) → (is_write i step ≡ 0) ⊎ (step ≡ WritableWrite i)
  write-only (WritableWrite j) = by (is_same i j) refl
    where
      by : (b : Bool) → b ≡ is_same i j → (one_if b ≡ 0) ⊎ (WritableWrite j ≡ WritableWrite i)
      by true e = inr (ap WritableWrite (sym (same_id i j (sym e))))
      by false e = inl refl
  write-only _ = inl refl

  module _ (s : Slots) where
    abbrev next : Slots
    next = with_promises (after_next_job s.promises) s

    waits-on : (f : Reaction → ℕ) (p : PromiseId) → Waits f 1 p s.promises → Waits f 1 p next.promises
    waits-on f p w = waits-next f 1 p s.promises w

    left : (f : Job → ℕ) (job : Job) → next_job s.promises ≡ Some job → f job ≡ 0 → Queued f 1 s.promises → Queued f 1 next.promises
    left f job e none q = queued-next f 1 s.promises job e (omega arith)

    goes-staged : (d : PromiseId) (job : Job) → next_job s.promises ≡ Some job → Queued (of_job (of_reaction (goes_on t d))) 1 s.promises → Waits (of_reaction (is_write i)) 1 d s.promises → Stage i t next (job_effects job)
    goes-staged d (ReactionJob step o derived) e q w =
        ⊎_elim (λ none. Rests d (InJobs (left _ (ReactionJob step o derived) e none q)) (waits-on _ d w))
        (λ is. subst (λ (x : Step). Stage i t next (job_effects (ReactionJob x o derived))) (sym is) (by o)) (goes-only d step)
      where
        by : (o : Result Plain Plain) → Stage i t next (job_effects (ReactionJob (TransformChanged t d) o derived))
        by (Ok v) = GoesOn d _ (waits-on _ d w) refl
        by (Err r) = Throws d r _ (waits-on _ d w) refl
    goes-staged d (Follow p r) e q w = Rests d (InJobs (left _ (Follow p r) e refl q)) (waits-on _ d w)
    goes-staged d (Settle p o) e q w = Rests d (InJobs (left _ (Settle p o) e refl q)) (waits-on _ d w)
    goes-staged d (MicroJob m) e q w = Rests d (InJobs (left _ (MicroJob m) e refl q)) (waits-on _ d w)

    token-staged : (d : PromiseId) (job : Job) → next_job s.promises ≡ Some job → Token i t d s → Waits (of_reaction (is_write i)) 1 d s.promises → Stage i t next (job_effects job)
    token-staged d job e (AtChange x there v) w = Rests d (AtChange x there (waits-on _ x.change v)) (waits-on _ d w)
    token-staged d job e (InJobs q) w = goes-staged d job e q w

    fails-staged : (job : Job) → next_job s.promises ≡ Some job → Queued (fails i) 1 s.promises → Stage i t next (job_effects job)
    fails-staged (ReactionJob step (Ok v) derived) e q = Failing (left (fails i) (ReactionJob step (Ok v) derived) e refl q)
    fails-staged (ReactionJob step (Err r) derived) e q =
        ⊎_elim (λ none. Failing (left (fails i) (ReactionJob step (Err r) derived) e none q))
        (λ is. subst (λ (x : Step). Stage i t next (job_effects (ReactionJob x (Err r) derived))) (sym is) (Fails r _ refl)) (write-only step)
    fails-staged (Follow p r) e q = Failing (left (fails i) (Follow p r) e refl q)
    fails-staged (Settle p o) e q = Failing (left (fails i) (Settle p o) e refl q)
    fails-staged (MicroJob m) e q = Failing (left (fails i) (MicroJob m) e refl q)

    job-staged : (job : Job) → next_job s.promises ≡ Some job → Staged s [] → Staged next (job_effects job)
    job-staged job e k = λ owner n.
        let m = k owner n in (m.0, at-rest s m.1 (λ d tok w. token-staged d job e tok w) (λ q. fails-staged job e q))

  -- calls

  same-carries : (s : Slots) → Carries s s
  same-carries s = record { transforms = λ x e. e; waits = λ f p w. w; queued = λ f q. q }

  -- a stream that is new needs nothing
  added : (s : Slots) (y : Stream) (here : Bool) → here ≡ nat_eq i.0 (length s.streams) → needs (as_writable (Some y)) ≡ false → Staged s [] → Staged (add_stream y s) []
  added s y true e none k = λ owner n.
      let at : i.0 ≡ length s.streams = eq_numbers i.0 (length s.streams) (sym e) in
      let is : slice_get (s.streams ++ y ∷ []) i.0 ≡ Some y = rw at (place_last s.streams y) in
      let m : needs (as_writable (Some y)) ≡ true = rw is at n in absurd (cc)
  added s y false e none k =
      staged-on s (add_stream y s) [] (place_before s.streams y i.0 (unequal_numbers i.0 (length s.streams) (sym e))) (record { transforms = λ x e. e; waits = λ f p w. w; queued = λ f q. q }) k

  call-staged : (s : Slots) (c : Call) → Staged s [] → Staged (begin c s).done.slots (begin c s).done.caused
  call-staged s c k = λ owner n.
      let m = begin-makes (λ z. Staged z []) (record {
        promise = λ z k. staged-on z _ [] refl (record { transforms = λ x e. e; waits = λ f p w. (waits-changes f 1 p).fresh z.promises w; queued = λ f q. (queued-changes f 1).fresh z.promises q }) k;
        locks = λ z ls k. staged-on z _ [] refl (record { transforms = λ x e. e; waits = λ f p w. w; queued = λ f q. q }) k;
        hosts = λ z hs k. staged-on z _ [] refl (record { transforms = λ x e. e; waits = λ f p w. w; queued = λ f q. q }) k;
        pipe = λ z source dest prevent signal promise k. staged-on z _ [] refl (record { transforms = λ x e. e; waits = λ f p w. w; queued = λ f q. q }) k;
        signal = λ z k. staged-on z _ [] refl (record { transforms = λ x e. e; waits = λ f p w. w; queued = λ f q. q }) k;
        transform = λ z kind w r change k. staged-on z _ [] refl (record { transforms = λ x e. get-stays z.transforms _ t.0 x e; waits = λ f p w. w; queued = λ f q. q }) k;
        tee = λ z source first second cancel k. staged-on z _ [] refl (record { transforms = λ x e. e; waits = λ f p w. w; queued = λ f q. q }) k;
        port = λ z side stream backpressure k. staged-on z _ [] refl (record { transforms = λ x e. e; waits = λ f p w. w; queued = λ f q. q }) k;
        bytes = λ z mark auto k. added z _ (nat_eq i.0 (length z.streams)) refl refl k;
        byob_requests = λ z hs k. staged-on z _ [] refl (record { transforms = λ x e. e; waits = λ f p w. w; queued = λ f q. q }) k;
        readable = λ z o mark size k. added z _ (nat_eq i.0 (length z.streams)) refl refl k;
        writable = λ z o mark size k. added z _ (nat_eq i.0 (length z.streams)) refl refl k;
      }) c s k owner n in
      (m.0, carried _ _ _ (same-carries (begin c s).done.slots) m.1)

  pub going : GoesUntold writes_then (effect_writes i) Going
  going = record {
    row = row-going;
    call = λ h s c g. record { straight = straight-stays.call s c g.straight; kept = (runs.goes i).call h s c g.kept; staged = call-staged s c g.staged };
    job = λ h s job e g. record { straight = straight-stays.job s job e g.straight; kept = (runs.goes i).job h s job e g.kept; staged = job-staged s job e g.staged };
    answered = λ h s p g. record {
      straight = straight-stays.answered s p g.straight;
      kept = (runs.goes i).answered h s p g.kept;
      staged = staged-on s (with_promises (watch p s.promises) s) [] refl (record { transforms = λ x e. e; waits = λ f q w. waits-watch f 1 q s.promises p w; queued = λ f q. queued-watch f 1 s.promises p q }) g.staged;
    };
    older = λ h s g. record { straight = straight-stays.older s g.straight; kept = (runs.goes i).older h s g.kept; staged = staged-on s (older s) [] refl (record { transforms = λ x e. e; waits = λ f p w. w; queued = λ f q. q }) g.staged };
  }

  pub going-rests : RestsUntold Going
  going-rests = record {
    heard = λ h s g. record {
      straight = straight-heard s g.straight;
      kept = (runs.rests i).heard h s g.kept;
      staged = staged-on s (after_event s) [] refl (record { transforms = λ x e. e; waits = λ f p w. waits_from f 1 p s.promises (after_event s).promises refl w; queued = λ f q. q }) g.staged;
    };
  }

  pub none-going : Going no_writes empty []
  none-going = record { straight = straight-empty; kept = runs.none_made i; staged = λ owner n. cc }
