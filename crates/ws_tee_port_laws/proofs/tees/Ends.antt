-- A tee hears of a rejection of its reader's closed promise only where its source has errored.
use Rattle.std.proofs.Common.{◌≡◌, ℕ, zero, suc, ◌+◌, Bool, true, false, not, ◌&&◌, inl, inr, nat_eq, if◌then◌else◌, List, [], ◌∷◌, ◌++◌, length, map, Option, Some, None, Err, slice_get, refl, sym, ap, subst, ◌∙◌, arith}
use Rattle.ws_value.specs.declared.ids.{PromiseId.{PromiseId}, StreamId.{StreamId}, TeeId.{TeeId}}
use Rattle.ws_value.specs.declared.value.{Outcome.{Outcome}, Outcome.TheVariants.{Pending, Fulfilled, Rejected, Given, Finished}, Plain.{Plain}}
use Rattle.ws_steps.specs.declared.calls.Call.{Call}
use Rattle.ws_steps.specs.declared.effects.{Effect.{Effect}}
use Rattle.ws_steps.specs.declared.promises.{Job.{Job}, Job.TheVariants.{Reaction as ReactionJob}, Step.TheVariants.{TeeEnds}}
use Rattle.ws_steps.specs.declared.readable.{ReadableState.{ReadableState}, ReadableState.TheVariants.{Readable, Closed, Errored}}
use Rattle.ws_steps.specs.Begun.{Begun}
use Rattle.ws_steps.specs.MakingCalls.{make_tee}
use Rattle.ws_steps.specs.PipeCalls.{add_port}
use Rattle.ws_steps.specs.Calls.{begin}
use Rattle.ws_steps.specs.Jobs.{job_effects}
use Rattle.ws_steps.specs.Promises.{Entry, outcome_at, entry_at, is_open_entry, is_pending, next_id, next_job, first_job, after_next_job, watch}
use Rattle.std.specs.Option.{option_map}
use Rattle.ws_steps.specs.Run.{after_event}
use Rattle.ws_steps.specs.Slots.{Slots, Stream, empty, has_readable, readable_at, is_readable_stream, with_promises}
use Rattle.ws_steps.specs.Tee as tee
use Rattle.ws_steps.specs.Turns.{row}
use Rattle.ws_laws.proofs.Begin.{begin-makes}
use Rattle.ws_laws.proofs.EachCall.{each_call}
use Rattle.ws_laws.proofs.Lists.{Each, each-append}
use Rattle.ws_laws.proofs.Outcomes.{Keeps, keeps-same, keeps-next, keeps-watch, keeps-entries}
use Rattle.ws_laws.proofs.Shapes.{TeeShape, tee_shape, tee_shapes, row-tee_shapes, map-there}
use Rattle.ws_laws.proofs.Stays.{keeps-stays}
use Rattle.ws_laws.proofs.Tables.{eq_numbers}
use Rattle.ws_laws.proofs.Walker.{Stays}
use Rattle.ws_promise_laws.proofs.Runs.{Straight, straight-stays, straight-heard, straight-empty}
use Rattle.ws_pipe_laws.specs.locks.LockLaws.{spares, all_spare}
use Rattle.ws_pipe_laws.proofs.locks.Few.{no_stream}
use Rattle.ws_pipe_laws.proofs.locks.TeeOwning.{calls-spare}
use Rattle.ws_tee_port_laws.proofs.tees.Closes.{FateAt, NoReader, Comes, Stage, same-at, open-now, row-stage}
use Rattle.ws_tee_port_laws.proofs.tees.Ears.{ends, Tells, some_none, row-tells, call-tells, job-tells, watch-tells}
use Rattle.ws_tee_port_laws.proofs.tees.Gifts.{Gifts, gifts-stays, gifts-heard, gifts-empty}
use Rattle.ws_tee_port_laws.proofs.tees.Rejections.{JobFits, JobsFit, IsRejected, Told, jobs-weaker, moves}
use Rattle.ws_steps.specs.declared.port.Side.{Side}
use Rattle.ws_steps.specs.declared.port.Side.TheVariants.{Readable as ReadableSide, Writable as WritableSide}

shape-stays : (xs ys : List tee.Slots) (n : ℕ) (x : TeeShape) → slice_get (map tee_shape xs) n ≡ Some x → slice_get (map tee_shape (xs ++ ys)) n ≡ Some x
shape-stays [] ys n x e = cc
shape-stays (y ∷ xs) ys zero x e = e
shape-stays (y ∷ xs) ys (suc n) x e = shape-stays xs ys n x e

-- there is none where the next comes
shape-end : (xs : List tee.Slots) (n : ℕ) (x : TeeShape) {A : Type 0} → slice_get (map tee_shape xs) n ≡ Some x → n ≡ length xs → A
shape-end [] n x e f = cc
shape-end (y ∷ xs) zero x e f = cc
shape-end (y ∷ xs) (suc n) x e f = shape-end xs n x e (cc)

new-last : (xs : List tee.Slots) (y : tee.Slots) (n : ℕ) (x : TeeShape) → slice_get (map tee_shape xs) n ≡ None → slice_get (map tee_shape (xs ++ y ∷ [])) n ≡ Some x → (tee_shape y ≡ x) × (n ≡ length xs)
new-last [] y zero x none e = (cc, refl)
new-last [] y (suc n) x none e = cc
new-last (z ∷ xs) y zero x none e = cc
new-last (z ∷ xs) y (suc n) x none e = let k = new-last xs y n x none e in (k.0, ap suc k.1)

-- a stream that is there stays where it is
there-stays : (xs ys : List Stream) (n : ℕ) → is_readable_stream (slice_get xs n) ≡ true → slice_get (xs ++ ys) n ≡ slice_get xs n
there-stays [] ys n e = cc
there-stays (x ∷ xs) ys zero e = refl
there-stays (x ∷ xs) ys (suc n) e = there-stays xs ys n e

module _ (t : TeeId) where
  pub record Ended (s : Slots) (es : List Effect) (x : TeeShape) : Type 0 where
    pub promise : PromiseId
    pub tells : Tells t promise s es
    pub stage : Stage t x.source promise s es

  -- at each moment of a run
  pub record Ends (s : Slots) (es : List Effect) : Type 0 where
    pub gifts : Gifts t s es
    pub straight : Straight s es
    pub early : slice_get (tee_shapes s) t.0 ≡ None → (p : PromiseId) → Tells t p s es
    pub ended : (x : TeeShape) → slice_get (tee_shapes s) t.0 ≡ Some x → Ended s es x

  row-ends : (s : Slots) (e : Effect) (es : List Effect) → Ends s (e ∷ es) → Ends (row e s).slots ((row e s).caused ++ es)
  row-ends s e es k = record {
    gifts = (gifts-stays t).row s e es k.gifts;
    straight = straight-stays.row s e es k.straight;
    early = λ none p. row-tells t p s e es (k.early (sym (same) ∙ none) p);
    ended = λ x now.
        let before : slice_get (tee_shapes s) t.0 ≡ Some x = sym same ∙ now in
        let h = k.ended x before in
        record {
          promise = h.promise;
          tells = row-tells t h.promise s e es h.tells;
          stage = row-stage t x.source h.promise s e es (k.gifts.gifted x before).kind k.straight (k.gifts.reads.owned.fair x before).0 h.stage;
        };
  }
    where
      same : slice_get (tee_shapes (row e s).slots) t.0 ≡ slice_get (tee_shapes s) t.0
      same = ap (λ (xs : List TeeShape). slice_get xs t.0) (row-tee_shapes e s)

  -- calls

  spare-none : (i : StreamId) (p : PromiseId) (e : Effect) → spares i no_stream e ≡ true → NoReader t i p e
  spare-none i p e spare = grind (arith, spare)

  spares-none : (i : StreamId) (p : PromiseId) (es : List Effect) → all_spare i no_stream es ≡ true → Each (NoReader t i p) es
  spares-none i p [] spare = tt
  spares-none i p (e ∷ es) spare = (spare-none i p e (first (spares i no_stream e) (all_spare i no_stream es) spare), spares-none i p es (second (spares i no_stream e) (all_spare i no_stream es) spare))
    where
      first : (a b : Bool) → a && b ≡ true → a ≡ true
      first true b h = refl
      first false b h = cc

      second : (a b : Bool) → a && b ≡ true → b ≡ true
      second true b h = h
      second false b h = cc

  shapes-stay : (c : Call) (s : Slots) (x : TeeShape) → slice_get (tee_shapes s) t.0 ≡ Some x → slice_get (tee_shapes (begin c s).done.slots) t.0 ≡ Some x
  shapes-stay c s x at = begin-makes (λ z. slice_get (tee_shapes z) t.0 ≡ Some x) (record {
    promise = λ z k. k;
    locks = λ z ls k. k;
    hosts = λ z hs k. k;
    pipe = λ z source dest prevent signal promise k. k;
    signal = λ z k. k;
    transform = λ z kind i j change k. k;
    tee = λ z source first second cancel k. shape-stays z.tees _ t.0 x k;
    port = λ z side stream backpressure k. k;
    readable = λ z owner mark size k. k;
    bytes = λ z mark auto k. k;
    byob_requests = λ z requests k. k;
    writable = λ z owner mark size k. k;
  }) c s at

  abbrev SamePlace : StreamId → Slots → Slots → Type 0
  SamePlace i s z = (is_readable_stream (slice_get z.streams i.0) ≡ true) × (slice_get z.streams i.0 ≡ slice_get s.streams i.0)

  grown : (i : StreamId) (s z : Slots) (ys : List Stream) → SamePlace i s z → (is_readable_stream (slice_get (z.streams ++ ys) i.0) ≡ true) × (slice_get (z.streams ++ ys) i.0 ≡ slice_get s.streams i.0)
  grown i s z ys k = let same = there-stays z.streams ys i.0 k.0 in (ap is_readable_stream same ∙ k.0, same ∙ k.1)

  place-stays : (i : StreamId) (c : Call) (s : Slots) → has_readable i s ≡ true → SamePlace i s (begin c s).done.slots
  place-stays i c s kind = begin-makes (SamePlace i s) (record {
    promise = λ z k. k;
    locks = λ z ls k. k;
    hosts = λ z hs k. k;
    pipe = λ z source dest prevent signal promise k. k;
    signal = λ z k. k;
    transform = λ z kind i j change k. k;
    tee = λ z source first second cancel k. k;
    port = λ z side stream backpressure k. k;
    readable = λ z owner mark size k. grown i s z _ k;
    bytes = λ z mark auto k. grown i s z _ k;
    byob_requests = λ z requests k. k;
    writable = λ z owner mark size k. grown i s z _ k;
  }) c s (kind, refl)

  call-keep : (s : Slots) (c : Call) → Keeps s.promises (begin c s).done.slots.promises
  call-keep s c = (keeps-stays s.promises).call s c (keeps-same s.promises)

  old-ended : (s : Slots) (c : Call) → Ends s [] → (x : TeeShape) → slice_get (tee_shapes s) t.0 ≡ Some x → Ended (begin c s).done.slots (begin c s).done.caused x
  old-ended s c k x before =
      let h = k.ended x before in
      record {
        promise = h.promise;
        tells = call-tells t h.promise s c (λ e. shape-end s.tees t.0 x before (eq_numbers t.0 (length s.tees) e)) h.tells;
        stage = by h.promise h.stage;
      }
    where
      by : (p : PromiseId) → Stage t x.source p s [] → Stage t x.source p (begin c s).done.slots (begin c s).done.caused
      by p (inl comes) = absurd comes
      by p (inr h) = inr (record {
        fate = same-at t x.source p s (begin c s).done.slots (place-stays x.source c s (k.gifts.gifted x before).kind).1 (call-keep s c) h.fate;
        quiet = spares-none x.source p (begin c s).done.caused (calls-spare t s k.gifts.reads.owned x before c);
      })

  -- the tee is made by this call
  abbrev MadeNow : Slots → Begun → Type 0
  MadeNow s b = (x : TeeShape) → slice_get (tee_shapes b.done.slots) t.0 ≡ Some x → Comes t x.source (next_id s.promises) b.done.caused

  port-tees : (s : Slots) (side : Side) → (add_port (record { 0 = length s.streams }) s side).tees ≡ s.tees
  port-tees s ReadableSide = refl
  port-tees s WritableSide = refl

  call-comes : (c : Call) (s : Slots) → slice_get (tee_shapes s) t.0 ≡ None → MadeNow s (begin c s)
  call-comes c s none = each_call (MadeNow s) c s (record {
    unchanged = λ reply x e. no x e;
    rejected = λ fault x e. no x e;
    make_readable = λ mark size start x e. no x e;
    make_bytes = λ mark auto start x e. no x e;
    make_writable = λ mark size start x e. no x e;
    make_transform = λ kind m n start x e. no x e;
    make_tee = λ i is there free untied x e.
        let k = new-last s.tees _ t.0 x none e in
        subst (λ (z : TeeShape). Comes t z.source (next_id s.promises) (make_tee i (record { 0 = length s.streams }) (record { 0 = length s.streams + 1 }) s).done.caused) k.0 (refl, (tt, (tt, (tt, tt))));
    get_reader = λ i f x e. no x e;
    get_byob = λ i is f x e. no x e;
    get_writer = λ i f x e. no x e;
    release_reader = λ l closed i f x e. no x e;
    release_byob = λ l closed i f x e. no x e;
    release_writer = λ l i w f g x e. no x e;
    cancel = λ reason i x e. no x e;
    read = λ l i closed f g x e. no x e;
    read_into = λ l i closed room element least f g x e. no x e;
    write = λ l v i f x e. no x e;
    close = λ i x e. no x e;
    abort = λ reason i f x e. no x e;
    enqueue = λ i v f o can x e. no x e;
    enqueue_half = λ i u v f o can x e. no x e;
    enqueue_bytes = λ i b f is some can x e. no x e;
    finish = λ i x e. no x e;
    finish_bytes = λ i f is can x e. no x e;
    make_request = λ i reply is x e. no x e;
    respond = λ q i b f is can x e. no x e;
    fail_readable = λ i reason x e. no x e;
    fail_writable = λ i reason x e. no x e;
    fail_half = λ u reason x e. no x e;
    terminate = λ u x e. no x e;
    pipe = λ source dest prevent signal f g l m x e. no x e;
    make_signal = λ x e. no x e;
    open_end = λ side x e. no x (subst (λ (xs : List tee.Slots). slice_get (map tee_shape xs) t.0 ≡ Some x) (port-tees s side) e);
    send_readable = λ i there free x e. no x e;
    send_writable = λ i there free x e. no x e;
    deliver = λ p m f is x e. no x e;
    trigger = λ a reason x e. no x e;
    settle = λ h answer p f x e. no x e;
  })
    where
      no : {A : Type 0} (x : TeeShape) → slice_get (tee_shapes s) t.0 ≡ Some x → A
      no x e = some_none (slice_get (tee_shapes s) t.0) x e none

  call-ends : (s : Slots) (c : Call) → Ends s [] → Ends (begin c s).done.slots (begin c s).done.caused
  call-ends s c k = record {
    gifts = (gifts-stays t).call s c k.gifts;
    straight = straight-stays.call s c k.straight;
    early = λ none p. call-tells t p s c (λ e. inr none) (k.early (was-none none (slice_get (tee_shapes s) t.0) refl) p);
    ended = λ x now. by x now (slice_get (tee_shapes s) t.0) refl;
  }
    where
      was-none : slice_get (tee_shapes (begin c s).done.slots) t.0 ≡ None → (o : Option TeeShape) → slice_get (tee_shapes s) t.0 ≡ o → slice_get (tee_shapes s) t.0 ≡ None
      was-none none None e = e
      was-none none (Some y) e = some_none (slice_get (tee_shapes (begin c s).done.slots) t.0) y (shapes-stay c s y e) none

      by : (x : TeeShape) → slice_get (tee_shapes (begin c s).done.slots) t.0 ≡ Some x → (o : Option TeeShape) → slice_get (tee_shapes s) t.0 ≡ o → Ended (begin c s).done.slots (begin c s).done.caused x
      by x now (Some y) e =
          let same : x ≡ y = some_same x y (sym now ∙ shapes-stay c s y e) in
          subst (λ (z : TeeShape). Ended (begin c s).done.slots (begin c s).done.caused z) (sym same) (old-ended s c k y e)
        where
          some_same : (x y : TeeShape) → ◌≡◌ {A = Option TeeShape} (Some x) (Some y) → x ≡ y
          some_same x y e = cc
      by x now None e = record {
        promise = next_id s.promises;
        tells = call-tells t (next_id s.promises) s c (λ m. inl refl) (k.early e (next_id s.promises));
        stage = inl (call-comes c s e x now);
      }

  -- jobs, and what else is between steps

  job-none : (i : StreamId) (p : PromiseId) (job : Job) → Each (NoReader t i p) (job_effects job)
  job-none i p job = grind (arith, each-append)

  rest-stage : (i : StreamId) (p : PromiseId) (s z : Slots) (es : List Effect) → z.streams ≡ s.streams → Keeps s.promises z.promises → Each (NoReader t i p) es → Stage t i p s [] → Stage t i p z es
  rest-stage i p s z es same keeps quiet (inl comes) = absurd comes
  rest-stage i p s z es same keeps quiet (inr h) = inr (record { fate = same-at t i p s z (ap (λ (xs : List Stream). slice_get xs i.0) same) keeps h.fate; quiet = quiet })

  heard-tells : (s : Slots) (p : PromiseId) → Tells t p s [] → Tells t p (after_event s) []
  heard-tells s p k = record {
    told = record {
      registered = k.told.registered;
      queued = jobs-weaker (ends t) (IsRejected (ends t) p s.promises) (IsRejected (ends t) p (after_event s).promises)
          (moves (ends t) p s.promises (after_event s).promises (keeps-entries s.promises (after_event s).promises refl (λ m. m))) s.promises.jobs k.told.queued;
    };
    fits = tt;
  }

  older-tells : (s z : Slots) (p : PromiseId) → z.promises ≡ s.promises → Tells t p s [] → Tells t p z []
  older-tells s z p e k = record { told = subst (Told (ends t) p) (sym e) k.told; fits = tt }

  pub ends-stays : Stays Ends
  ends-stays = record {
    row = row-ends;
    call = call-ends;
    job = λ s job e k.
        let z : Slots = with_promises (after_next_job s.promises) s in
        record {
          gifts = (gifts-stays t).job s job e k.gifts;
          straight = straight-stays.job s job e k.straight;
          early = λ none p. job-tells t p s z job refl (k.early none p);
          ended = λ x now.
              let h = k.ended x now in
              record { promise = h.promise; tells = job-tells t h.promise s z job refl h.tells; stage = rest-stage x.source h.promise s z (job_effects job) refl (keeps-next s.promises) (job-none x.source h.promise job) h.stage };
        };
    answered = λ s p k.
        let z : Slots = with_promises (watch p s.promises) s in
        record {
          gifts = (gifts-stays t).answered s p k.gifts;
          straight = straight-stays.answered s p k.straight;
          early = λ none q. watch-tells t q s z p refl (k.early none q);
          ended = λ x now.
              let h = k.ended x now in
              record { promise = h.promise; tells = watch-tells t h.promise s z p refl h.tells; stage = rest-stage x.source h.promise s z [] refl (keeps-watch p s.promises) tt h.stage };
        };
    older = λ s k. record {
      gifts = (gifts-stays t).older s k.gifts;
      straight = straight-stays.older s k.straight;
      early = λ none q. older-tells s _ q refl (k.early none q);
      ended = λ x now.
          let h = k.ended x now in
          record { promise = h.promise; tells = older-tells s _ h.promise refl h.tells; stage = rest-stage x.source h.promise s _ [] refl (keeps-same s.promises) tt h.stage };
    };
  }

  pub ends-heard : (s : Slots) → Ends s [] → Ends (after_event s) []
  ends-heard s k = record {
    gifts = gifts-heard t s k.gifts;
    straight = straight-heard s k.straight;
    early = λ none q. heard-tells s q (k.early none q);
    ended = λ x now.
        let h = k.ended x now in
        record {
          promise = h.promise;
          tells = heard-tells s h.promise h.tells;
          stage = rest-stage x.source h.promise s (after_event s) [] refl (keeps-entries s.promises (after_event s).promises refl (λ m. m)) tt h.stage;
        };
  }

  pub ends-empty : Ends empty []
  ends-empty = record {
    gifts = gifts-empty t;
    straight = straight-empty;
    early = λ none p. record { told = record { registered = λ q m. cc; queued = tt }; fits = tt };
    ended = λ x e. cc;
  }

  -- where the promise is rejected, the source has errored

  open-no : (o : Option Entry) (r : Plain) {A : Type 0} → is_open_entry o ≡ true → option_map (λ (e : Entry). e.outcome) o ≡ Some (Rejected r) → A
  open-no None r n e = cc
  open-no (Some d) r n e = by d.outcome d.follows n (some_same d.outcome (Rejected r) e)
    where
      some_same : (x y : Outcome) → ◌≡◌ {A = Option Outcome} (Some x) (Some y) → x ≡ y
      some_same x y e = cc

      by : (o : Outcome) (f : Bool) {A : Type 0} → (if is_pending o then not f else false) ≡ true → o ≡ Rejected r → A
      by Pending f n e = cc
      by (Fulfilled v) f n e = cc
      by (Rejected v) f n e = cc
      by (Given v) f n e = cc
      by (Finished v) f n e = cc

  pub errored-at : (s : Slots) (es : List Effect) (x : TeeShape) (p : PromiseId) → Straight s es → has_readable x.source s ≡ true → FateAt t x.source p s → IsRejected (ends t) p s.promises → (readable_at x.source s).state ≡ Errored
  errored-at s es x p k kind f r = by (readable_at x.source s).state refl
    where
      fulfilled-no : (o : Option Outcome) (v w : Plain) {A : Type 0} → o ≡ Some (Fulfilled v) → o ≡ Some (Rejected w) → A
      fulfilled-no None v w e g = cc
      fulfilled-no (Some o) v w e g = cc

      by : (state : ReadableState) → (readable_at x.source s).state ≡ state → state ≡ Errored
      by Errored e = refl
      by Closed e = let was = f.closed e in fulfilled-no (outcome_at s.promises p) was.value r.reason was.at r.at
      by Readable e = open-no (entry_at s.promises p) r.reason (open-now t x.source p s es k kind f.reader e) r.at

  first-fits : (W : Type 0) (js : List Job) (job : Job) → first_job js ≡ Some job → JobsFit (ends t) W js → JobFits (ends t) W job
  first-fits W [] job e f = cc
  first-fits W (j ∷ js) job e f = let same : j ≡ job = cc in subst (JobFits (ends t) W) same f.0

  pub rejected : (s : Slots) (r : Plain) (d : Option PromiseId) (x : tee.Slots) → Ends s [] → next_job s.promises ≡ Some (ReactionJob (TeeEnds t) (Err r) d) → slice_get s.tees t.0 ≡ Some x → (readable_at x.source s).state ≡ Errored
  rejected s r d x k e now =
      let at : slice_get (tee_shapes s) t.0 ≡ Some (tee_shape x) = map-there tee_shape s.tees t.0 x now in
      let h = k.ended (tee_shape x) at in
      let self : nat_eq t.0 t.0 ≡ true = grind arith in
      let told = first-fits (IsRejected (ends t) h.promise s.promises) s.promises.jobs (ReactionJob (TeeEnds t) (Err r) d) e h.tells.told.queued self in
      by h.promise told h.stage
    where
      by : (p : PromiseId) → IsRejected (ends t) p s.promises → Stage t x.source p s [] → (readable_at x.source s).state ≡ Errored
      by p told (inl comes) = absurd comes
      by p told (inr h) = errored-at s [] (tee_shape x) p k.straight (k.gifts.gifted (tee_shape x) (map-there tee_shape s.tees t.0 x now)).kind h.fate told
