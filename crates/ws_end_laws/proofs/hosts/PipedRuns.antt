-- A pipe that closes its destination and ended without an error has a destination that is closed.
use Rattle.std.proofs.Common.{◌≡◌, ℕ, Bool, true, false, not, ◌&&◌, inl, inr, nat_eq, List, [], ◌∷◌, ◌++◌, Option, Some, None, slice_get, refl, sym, ap, subst, ◌∙◌, arith, append_assoc, append-nil}
use Rattle.ws_value.specs.declared.{ids.PipeId.{PipeId}, ids.PromiseId.{PromiseId}, ids.StreamId.{StreamId}}
use Rattle.ws_value.specs.declared.value.Plain.{Plain}
use Rattle.ws_steps.specs.declared.calls.{Call.{Call}, Reply.{Reply}, Reply.TheVariants.{Promise}}
use Rattle.ws_steps.specs.declared.effects.Effect.{Effect}
use Rattle.ws_steps.specs.declared.effects.Effect.TheVariants.{Writable, Pipe}
use Rattle.ws_steps.specs.declared.pipes.{Phase.{Phase}, Phase.TheVariants.{Flowing, Waiting, Acting, Over}, PipeOperation.{PipeOperation}}
use Rattle.ws_steps.specs.declared.promises.{Job.{Job}}
use Rattle.ws_steps.specs.declared.writable.{WritableOperation.TheVariants.{Close, ClosePropagating}}
use Rattle.ws_steps.specs.Pipes as pipe
use Rattle.ws_steps.specs.Promises.{Table, fresh, next_job, first_job, after_next_job, watch}
use Rattle.ws_steps.specs.Readable as readable
use Rattle.ws_steps.specs.Writable as writable
use Rattle.ws_steps.specs.Slots.{Slots, Stream, ReadableStream, WritableStream, Done, nothing, empty, with_promises, pipe_at, as_pipe, as_writable, is_writable_stream, writable_at, has_writable}
use Rattle.ws_steps.specs.Turns.{row, moments, performed}
use Rattle.ws_steps.specs.Jobs.{job_effects, job_begun, begin_job}
use Rattle.ws_steps.specs.Calls.{begin, named}
use Rattle.ws_steps.specs.Run.{Entry, Called, Worked, Heard, run, step, older, after_event}
use Rattle.ws_steps.specs.Histories.{is_same, along, in_step, over}
use Rattle.ws_laws.proofs.Begin.{begin-makes}
use Rattle.ws_laws.proofs.Lists.{Each}
use Rattle.ws_laws.proofs.Outcomes.{Keeps, keeps-same, keeps-then, keeps-fresh, keeps-next, keeps-watch}
use Rattle.ws_laws.proofs.Tables.{eq_numbers, writable_there}
use Rattle.ws_laws.proofs.Truth.{and_left, and_right}
use Rattle.ws_laws.proofs.Walker.{performed-goes, nothing-told}
use Rattle.ws_promise_laws.proofs.Runs.{Straight, straight-stays, straight-heard}
use Rattle.ws_write_laws.proofs.Rejecting.{rejected-keeps}
use Rattle.ws_pipe_laws.specs.pipes.PipeHistory.{is_live, is_over}
use Rattle.ws_pipe_laws.specs.locks.LockLaws.{spares, all_spare}
use Rattle.ws_pipe_laws.proofs.locks.Owning.{each_pipe_owns_its_ends}
use Rattle.ws_pipe_laws.proofs.locks.Runs.{Locked, locked-stays, run-locked}
use Rattle.ws_end_laws.proofs.hosts.Called.{place-grows, lists-history}
use Rattle.ws_end_laws.proofs.hosts.Reactions.{JobFits, JobsFit, Good, good-weaker, fresh-good, next-good, watch-good}
use Rattle.ws_end_laws.proofs.hosts.Closing.{is_closed_in, closed_in}
use Rattle.ws_end_laws.proofs.hosts.Fates.{asks}
use Rattle.ws_end_laws.proofs.hosts.Staying.{Open}
use Rattle.ws_end_laws.proofs.hosts.Dests.{NoClose, FateOr}
use Rattle.ws_end_laws.proofs.hosts.Acts.{acts_on, Fits, call-fits, job-effects-fit, job-closes}
use Rattle.ws_end_laws.proofs.hosts.Piped.{Source, Told, Calm, Sources}
use Rattle.ws_end_laws.proofs.hosts.PipedRows.{EndWell, effect_ends, Piped, other-row}
use Rattle.ws_end_laws.proofs.hosts.PipedMoves.{own-row}
use Rattle.ws_steps.specs.Slots.{ByteStream}
use Rattle.ws_steps.specs.Bytes as byte

-- what stands in a stream's place is the same

abbrev pub SamePlace : StreamId → Slots → Slots → Type 0
SamePlace i s z = slice_get z.streams i.0 ≡ slice_get s.streams i.0

module _ (p : PipeId) (i : StreamId) where
  -- effects

  pipe-row : (h : List (Option Plain)) (s : Slots) (q : PipeId) (operation : PipeOperation) (es : List Effect) (same : Bool) → nat_eq p.0 q.0 ≡ same → Piped p i h s (Pipe q operation ∷ es)
      → Piped p i (h ++ effect_ends p (Pipe q operation) s) (row (Pipe q operation) s).slots ((row (Pipe q operation) s).caused ++ es)
  pipe-row h s q operation es false n k = other-row p i h s (Pipe q operation) es n k
  pipe-row h s q operation es true n k =
      subst (λ (r : PipeId). Piped p i h s (Pipe r operation ∷ es) → Piped p i (h ++ effect_ends p (Pipe r operation) s) (row (Pipe r operation) s).slots ((row (Pipe r operation) s).caused ++ es))
      (ap (λ (n : ℕ). record { 0 = n }) (eq_numbers p.0 q.0 n)) (own-row p i h s operation es) k

  pub row-piped : (h : List (Option Plain)) (s : Slots) (e : Effect) (es : List Effect) → Piped p i h s (e ∷ es) → Piped p i (h ++ effect_ends p e s) (row e s).slots ((row e s).caused ++ es)
  row-piped h s (Pipe q operation) es k = pipe-row h s q operation es (nat_eq p.0 q.0) refl k
  row-piped h s e es k = other-row p i h s e es tt k

  pub done-piped : (h : List (Option Plain)) (d : Done) → Piped p i h d.slots d.caused → Piped p i (h ++ along [] ◌++◌ (effect_ends p) (moments d)) (performed d) []
  done-piped h d k = performed-goes [] ◌++◌ lists-history (effect_ends p) (Piped p i) row-piped h d k

  -- the stream stays, and promises keep their outcomes

  fate-kept : (s z : Slots) → SamePlace i s z → Keeps s.promises z.promises → (q : PromiseId) → FateOr i q s → FateOr i q z
  fate-kept s z e k q (inl (inl a)) = inl (inl (ap (λ (o : Option Stream). asks q (as_writable o)) e ∙ a))
  fate-kept s z e k q (inl (inr c)) = inl (inr (ap is_closed_in e ∙ c))
  fate-kept s z e k q (inr r) = inr (rejected-keeps s.promises z.promises q k r)

  source-kept : (x : pipe.Slots) (s z : Slots) → SamePlace i s z → Keeps s.promises z.promises → (q : PromiseId) → Source p i x s q → Source p i x z q
  source-kept x s z e k q a = (a.0, λ n. fate-kept s z e k q (a.1 n))

  told-kept : (x : pipe.Slots) (s z : Slots) → SamePlace i s z → Told p i x s → Told p i x z
  told-kept x s z e a = (a.0, λ n. ap is_closed_in e ∙ a.1 n)

  -- what is to be shown where no effect was performed
  record Begins (x : pipe.Slots) (s z : Slots) (cs : List Effect) : Type 0 where
    there : slice_get z.pipes p.0 ≡ Some x
    place : SamePlace i s z
    straight : Straight z cs
    locked : Locked z cs
    closes : is_live x.phase ≡ true → Each (NoClose i) cs
    table : Sources p i x z z.promises
    fits : Each (Fits p (Told p i x z)) cs

  begins-piped : (h : List (Option Plain)) (s z : Slots) (cs : List Effect) (k : Piped p i h s []) → Begins k.x s z cs → Piped p i h z cs
  begins-piped h s z cs k b =
      let same : writable_at i z ≡ writable_at i s = ap as_writable b.place in
      let closed : closed_in i z ≡ closed_in i s = ap is_closed_in b.place in
      record {
        x = k.x;
        there = b.there;
        dest = k.dest;
        closes = k.closes;
        straight = b.straight;
        locked = b.locked;
        stands = ap is_writable_stream b.place ∙ k.stands;
        started = λ c. ap (λ (w : writable.Slots). w.started) same ∙ k.started (sym closed ∙ c);
        live = λ f. (subst Open (sym same) (k.live f).0, b.closes f);
        plain = k.plain;
        table = b.table;
        shape = Calm b.fits;
        ended = subst (λ (c : Bool). EndWell (c ≡ true) h) (sym closed) k.ended;
      }

  -- only promises change
  promises-piped : (h : List (Option Plain)) (s : Slots) (t : Table) (cs : List Effect) (k : Piped p i h s []) → let z : Slots = with_promises t s in Straight z cs → Locked z cs → Each (NoClose i) cs → Keeps s.promises t
      → (Sources p i k.x s s.promises → Good (acts_on p) (Source p i k.x s) (Told p i k.x s) t) → Each (Fits p (Told p i k.x z)) cs → Piped p i h z cs
  promises-piped h s t cs k straight locked closes keeps good fits =
      let z : Slots = with_promises t s in
      begins-piped h s z cs k (record {
        there = k.there;
        place = refl;
        straight = straight;
        locked = locked;
        closes = λ f. closes;
        table = good-weaker (acts_on p) (Source p i k.x s) (Source p i k.x z) (Told p i k.x s) (Told p i k.x z) t (source-kept k.x s z refl keeps) (λ a. a) (good k.table);
        fits = fits;
      })

  first_fits : (V : Type 0) (js : List Job) (job : Job) → first_job js ≡ Some job → JobsFit (acts_on p) V js → JobFits (acts_on p) V job
  first_fits V [] job e f = cc
  first_fits V (j ∷ js) job e f = let is : j ≡ job = cc in subst (JobFits (acts_on p) V) is f.0

  job-piped : (h : List (Option Plain)) (s : Slots) (job : Job) → next_job s.promises ≡ Some job → Piped p i h s [] → Piped p i h (with_promises (after_next_job s.promises) s) (job_effects job)
  job-piped h s job e k =
      promises-piped h s (after_next_job s.promises) (job_effects job) k (straight-stays.job s job e k.straight) (locked-stays.job s job e k.locked) (job-closes i job) (keeps-next s.promises)
      (λ g. next-good (acts_on p) (Source p i k.x s) (Told p i k.x s) s.promises g) (job-effects-fit p (Told p i k.x s) job (first_fits (Told p i k.x s) s.promises.jobs job e k.table.queued))

  named-piped : (h : List (Option Plain)) (reply : Reply) (s : Slots) → Piped p i h s [] → Piped p i h (named reply s) []
  named-piped h (Promise q) s k =
      promises-piped h s (watch q s.promises) [] k (straight-stays.answered s q k.straight) (locked-stays.answered s q k.locked) tt (keeps-watch q s.promises)
      (λ g. watch-good (acts_on p) (Source p i k.x s) (Told p i k.x s) q s.promises g) tt
  named-piped h _ s k = k

  older-piped : (h : List (Option Plain)) (s : Slots) → Piped p i h s [] → Piped p i h (older s) []
  older-piped h s k = begins-piped h s (older s) [] k (record {
    there = k.there;
    place = refl;
    straight = straight-stays.older s k.straight;
    locked = locked-stays.older s k.locked;
    closes = λ f. tt;
    table = record { registered = k.table.registered; queued = k.table.queued };
    fits = tt;
  })

  heard-piped : (h : List (Option Plain)) (s : Slots) → Locked (after_event s) [] → Piped p i h s [] → Piped p i h (after_event s) []
  heard-piped h s locked k = begins-piped h s (after_event s) [] k (record {
    there = k.there;
    place = refl;
    straight = straight-heard s k.straight;
    locked = locked;
    closes = λ f. tt;
    table = record { registered = k.table.registered; queued = k.table.queued };
    fits = tt;
  })

  -- calls

  pub call-there : (x : pipe.Slots) (c : Call) (s : Slots) → slice_get s.pipes p.0 ≡ Some x → slice_get (begin c s).done.slots.pipes p.0 ≡ Some x
  call-there x c s k = begin-makes (λ z. slice_get z.pipes p.0 ≡ Some x) (record {
    promise = λ z m. m;
    locks = λ z ls m. m;
    hosts = λ z hs m. m;
    pipe = λ z source dest prevent signal promise m. place-grows z.pipes (pipe.set_up source dest prevent signal promise ∷ []) p.0 x m;
    signal = λ z m. m;
    transform = λ z kind half other change m. m;
    tee = λ z source first second cancel m. m;
    port = λ z side stream backpressure m. m;
    bytes = λ z mark auto m. m;
    byob_requests = λ z hs m. m;
    readable = λ z owner mark size m. m;
    writable = λ z owner mark size m. m;
  }) c s k

  call-place : (y : Stream) (c : Call) (s : Slots) → slice_get s.streams i.0 ≡ Some y → slice_get (begin c s).done.slots.streams i.0 ≡ Some y
  call-place y c s k = begin-makes (λ z. slice_get z.streams i.0 ≡ Some y) (record {
    promise = λ z m. m;
    locks = λ z ls m. m;
    hosts = λ z hs m. m;
    pipe = λ z source dest prevent signal promise m. m;
    signal = λ z m. m;
    transform = λ z kind half other change m. m;
    tee = λ z source first second cancel m. m;
    port = λ z side stream backpressure m. m;
    bytes = λ z mark auto m. place-grows z.streams (ByteStream (byte.set_up mark auto) ∷ []) i.0 y m;
    byob_requests = λ z hs m. m;
    readable = λ z owner mark size m. place-grows z.streams (ReadableStream (readable.set_up owner mark size) ∷ []) i.0 y m;
    writable = λ z owner mark size m. place-grows z.streams (WritableStream (writable.set_up owner mark size) ∷ []) i.0 y m;
  }) c s k

  call-keeps : (c : Call) (s : Slots) → Keeps s.promises (begin c s).done.slots.promises
  call-keeps c s = begin-makes (λ z. Keeps s.promises z.promises) (record {
    promise = λ z m. keeps-then s.promises z.promises (fresh z.promises) m (keeps-fresh z.promises);
    locks = λ z ls m. m;
    hosts = λ z hs m. m;
    pipe = λ z source dest prevent signal promise m. m;
    signal = λ z m. m;
    transform = λ z kind half other change m. m;
    tee = λ z source first second cancel m. m;
    port = λ z side stream backpressure m. m;
    bytes = λ z mark auto m. m;
    byob_requests = λ z hs m. m;
    readable = λ z owner mark size m. m;
    writable = λ z owner mark size m. m;
  }) c s (keeps-same s.promises)

  pub call-good : (P : PromiseId → Type 0) (V : Type 0) (c : Call) (s : Slots) → Good (acts_on p) P V s.promises → Good (acts_on p) P V (begin c s).done.slots.promises
  call-good P V c s k = begin-makes (λ z. Good (acts_on p) P V z.promises) (record {
    promise = λ z m. fresh-good (acts_on p) P V z.promises m;
    locks = λ z ls m. m;
    hosts = λ z hs m. m;
    pipe = λ z source dest prevent signal promise m. m;
    signal = λ z m. m;
    transform = λ z kind half other change m. m;
    tee = λ z source first second cancel m. m;
    port = λ z side stream backpressure m. m;
    bytes = λ z mark auto m. m;
    byob_requests = λ z hs m. m;
    readable = λ z owner mark size m. m;
    writable = λ z owner mark size m. m;
  }) c s k

  pub call-same : (c : Call) (s : Slots) → has_writable i s ≡ true → SamePlace i s (begin c s).done.slots
  call-same c s h = let at = writable_there (slice_get s.streams i.0) h in call-place (WritableStream (writable_at i s)) c s at ∙ sym at

  -- no call closes the destination of a pipe that isn't over

  spared : (source : StreamId) (e : Effect) → spares source i e ≡ true → NoClose i e
  spared source (Writable j (Close q)) e = apart j e
    where
      apart : (j : StreamId) → not (true && is_same j i) ≡ true → is_same i j ≡ false
      apart j e = grind arith
  spared source (Writable j (ClosePropagating q)) e = apart j e
    where
      apart : (j : StreamId) → not (true && is_same j i) ≡ true → is_same i j ≡ false
      apart j e = grind arith
  spared source (Writable j operation) e = tt
  spared source _ e = tt

  all_spared : (source : StreamId) (es : List Effect) → all_spare source i es ≡ true → Each (NoClose i) es
  all_spared source [] e = tt
  all_spared source (d ∷ es) e = (spared source d (and_left (spares source i d) (all_spare source i es) e), all_spared source es (and_right (spares source i d) (all_spare source i es) e))

  live_over : (phase : Phase) → is_live phase ≡ true → is_over phase ≡ false
  live_over Flowing e = refl
  live_over Waiting e = refl
  live_over Acting e = cc
  live_over Over e = cc

  pub calls-close : (entries : List Entry) (c : Call) (x : pipe.Slots) → let s : Slots = run entries empty in slice_get s.pipes p.0 ≡ Some x → x.dest ≡ i → is_live x.phase ≡ true → Each (NoClose i) (begin c s).done.caused
  calls-close entries c x e dest live =
      let s : Slots = run entries empty in
      let at : pipe_at p s ≡ x = ap as_pipe e in
      let owns = each_pipe_owns_its_ends entries p (ap (λ (y : pipe.Slots). is_over y.phase) at ∙ live_over x.phase live) in
      all_spared (pipe_at p s).source (begin c s).done.caused (subst (λ (j : StreamId). all_spare (pipe_at p s).source j (begin c s).done.caused ≡ true) (ap (λ (y : pipe.Slots). y.dest) at ∙ dest) (owns.calls c))

  pub call-piped : (h : List (Option Plain)) (entries : List Entry) (c : Call) → let s : Slots = run entries empty in Piped p i h s [] → Piped p i h (begin c s).done.slots (begin c s).done.caused
  call-piped h entries c k =
      let s : Slots = run entries empty in
      let z : Slots = (begin c s).done.slots in
      let place : SamePlace i s z = call-same c s k.stands in
      begins-piped h s z (begin c s).done.caused k (record {
        there = call-there k.x c s k.there;
        place = place;
        straight = straight-stays.call s c k.straight;
        locked = locked-stays.call s c k.locked;
        closes = λ f. calls-close entries c k.x k.there k.dest f;
        table =
            good-weaker (acts_on p) (Source p i k.x s) (Source p i k.x z) (Told p i k.x s) (Told p i k.x z) z.promises (source-kept k.x s z place (call-keeps c s)) (told-kept k.x s z place)
            (call-good (Source p i k.x s) (Told p i k.x s) c s k.table);
        fits = call-fits p (Told p i k.x z) c s;
      })

  -- steps

  abbrev pub step_ends : Slots → Entry → List (Option Plain)
  step_ends s x = in_step [] ◌++◌ (effect_ends p) s x

  abbrev pub ends : List Entry → List (Option Plain)
  ends entries = over [] ◌++◌ step_ends entries empty

  pub called-piped : (h : List (Option Plain)) (c : Call) (s : Slots) → Piped p i h (begin c s).done.slots (begin c s).done.caused → Piped p i (h ++ step_ends s (Called c)) (step s (Called c)) []
  called-piped h c s k = older-piped _ _ (named-piped _ (begin c s).reply (performed (begin c s).done) (done-piped h (begin c s).done k))

  pub begun-piped : (job : Option Job) (h : List (Option Plain)) (s : Slots) → job ≡ next_job s.promises → Piped p i h s [] → Piped p i h (job_begun s job).slots (job_begun s job).caused
  begun-piped None h s e k = k
  begun-piped (Some job) h s e k = job-piped h s job (sym e) k

  worked-piped : (h : List (Option Plain)) (s : Slots) → Piped p i h s [] → Piped p i (h ++ step_ends s Worked) (step s Worked) []
  unfolding begin_job
  worked-piped h s k = older-piped _ _ (done-piped h (begin_job s) (begun-piped (next_job s.promises) h s refl k))

  resting : (h : List (Option Plain)) (s z : Slots) → Piped p i h z [] → Piped p i (h ++ along [] ◌++◌ (effect_ends p) (moments (nothing s))) z []
  resting h s z k = rw (nothing-told [] ◌++◌ lists-history (effect_ends p) s, append-nil h) k

  step-piped : (h : List (Option Plain)) (entries : List Entry) (x : Entry) → let s : Slots = run entries empty in Locked (step s x) [] → Piped p i h s [] → Piped p i (h ++ step_ends s x) (step s x) []
  step-piped h entries (Called c) l k = called-piped h c (run entries empty) (call-piped h entries c k)
  step-piped h entries Worked l k = worked-piped h (run entries empty) k
  step-piped h entries Heard l k = let s : Slots = run entries empty in resting h s (after_event s) (heard-piped h s l k)

pub run-last : (xs : List Entry) (x : Entry) (s : Slots) → run (xs ++ x ∷ []) s ≡ step (run xs s) x
run-last [] x s = refl
run-last (y ∷ xs) x s = run-last xs x (step s y)

over-last : {A : Type 0} (told : Slots → Entry → List A) (xs : List Entry) (x : Entry) (s : Slots) → over [] ◌++◌ told (xs ++ x ∷ []) s ≡ over [] ◌++◌ told xs s ++ told (run xs s) x
over-last told [] x s = append-nil (told s x)
over-last told (y ∷ xs) x s = ap (λ ts. told s y ++ ts) (over-last told xs x (step s y)) ∙ sym (append_assoc (told s y) (over [] ◌++◌ told xs (step s y)) (told (run xs (step s y)) x))

module _ (p : PipeId) (i : StreamId) where
  abbrev pub PipedAfter : List Entry → Type 0
  PipedAfter xs = Piped p i (ends p i xs) (run xs empty) []

  pub next-piped : (xs : List Entry) (x : Entry) → Piped p i (ends p i xs ++ step_ends p i (run xs empty) x) (step (run xs empty) x) [] → PipedAfter (xs ++ x ∷ [])
  next-piped xs x k =
      subst (λ (h : List (Option Plain)). Piped p i h (run (xs ++ x ∷ []) empty) []) (sym (over-last (step_ends p i) xs x empty))
      (subst (λ (s : Slots). Piped p i (ends p i xs ++ step_ends p i (run xs empty) x) s []) (sym (run-last xs x empty)) k)

  last-locked : (xs : List Entry) (x : Entry) → Locked (step (run xs empty) x) []
  last-locked xs x = subst (λ (s : Slots). Locked s []) (run-last xs x empty) (run-locked (xs ++ x ∷ []))

  -- it goes on over the rest of a run
  pub rest-piped : (ys xs : List Entry) → PipedAfter xs → PipedAfter (xs ++ ys)
  rest-piped [] xs k = subst PipedAfter (sym (append-nil xs)) k
  rest-piped (y ∷ ys) xs k = subst PipedAfter (append_assoc xs (y ∷ []) ys) (rest-piped ys (xs ++ y ∷ []) (next-piped xs y (step-piped p i (ends p i xs) xs y (last-locked xs y) k)))
