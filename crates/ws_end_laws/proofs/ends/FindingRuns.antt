-- How a pipe finds its destination as it begins its action, over every run.
use Rattle.std.proofs.Common.{◌≡◌, ◌⊎◌, inl, inr, ⊎_elim, ℕ, ◌+◌, ◌≤◌, Bool, true, false, nat_eq, List, [], ◌∷◌, ◌++◌, Option, Some, None, slice_get, refl, sym, ap, subst, ◌∙◌, append_assoc, append-nil, arith}
use Rattle.ws_value.specs.declared.{ids.PipeId.{PipeId}, ids.StreamId.{StreamId}, value.Value.{Value}}
use Rattle.ws_steps.specs.declared.calls.{Call.{Call}, Reply.{Reply}, Reply.TheVariants.{Promise as Named}}
use Rattle.ws_steps.specs.declared.effects.{Effect.{Effect}, Effect.TheVariants.{Writable as OnWritable, Pipe as OnPipe}}
use Rattle.ws_steps.specs.declared.pipes.{Phase.{Phase}, Phase.TheVariants.{Flowing}, PipeOperation.{PipeOperation}, PipeOperation.TheVariants.{KeepChunk}}
use Rattle.ws_steps.specs.declared.promises.Job.{Job}
use Rattle.ws_steps.specs.declared.writable.WritableOperation.{WritableOperation}
use Rattle.ws_steps.specs.Calls.{begin, named}
use Rattle.ws_steps.specs.Histories.{along}
use Rattle.ws_steps.specs.Jobs.{job_effects, job_begun, begin_job}
use Rattle.ws_steps.specs.Operations.{pipe_operation}
use Rattle.ws_steps.specs.Pipes as pipe
use Rattle.ws_steps.specs.Promises.{after_next_job, next_job}
use Rattle.ws_steps.specs.Run.{Entry, Called, Worked, Heard, run, step, older, after_event}
use Rattle.ws_steps.specs.Slots.{Slots, Stream, Done, nothing, empty, no_writable, as_writable, ends_at, as_pipe, pipe_at, writable_at, with_promises, on_pipe_at}
use Rattle.ws_steps.specs.Turns.{Moment, row, moments, performed}
use Rattle.ws_steps.specs.Writable as writable
use Rattle.ws_steps.specs.WritableHistory.{Writes as WritesHistory, no_writes, writes_then, effect_writes}
use Rattle.ws_steps.proofs.PromiseLaws.{slice_get-set_other}
use Rattle.ws_laws.proofs.Begin.{begin-makes}
use Rattle.ws_laws.proofs.Lists.{Each, each-append}
use Rattle.ws_laws.proofs.Apart.{IsNoPipe, row-pipes}
use Rattle.ws_laws.proofs.Tables.{eq_numbers, unequal_numbers, is_same-refl}
use Rattle.ws_laws.proofs.Truth.{false_true}
use Rattle.ws_laws.proofs.Walker.{performed-goes, nothing-told}
use Rattle.ws_writable_laws.proofs.Agenda.{Kept}
use Rattle.ws_writable_laws.proofs.Runs as writes
use Rattle.ws_promise_laws.proofs.Acting.{waits-heard}
use Rattle.ws_pipe_laws.specs.pipes.PipeHistory.{is_live, is_over, Through, nothing_through, through_then, operation_through, effect_through, effect_moment, step_moments, run_moments}
use Rattle.ws_pipe_laws.specs.pipes.PipeMoves.{starting}
use Rattle.ws_pipe_laws.specs.pipes.PipeReads.{one_if}
use Rattle.ws_pipe_laws.specs.pipes.PipeWrites.{AllMoments, leaves}
use Rattle.ws_pipe_laws.proofs.pipes.PassingRuns as passing
use Rattle.ws_pipe_laws.proofs.pipes.PassingRuns.{through_history, place_same, appended}
use Rattle.ws_pipe_laws.proofs.writes.Orderly.{moment, moments_history}
use Rattle.ws_pipe_laws.specs.locks.Locks.{Writing}
use Rattle.ws_pipe_laws.specs.locks.LockLaws.{all_spare}
use Rattle.ws_pipe_laws.proofs.locks.Owning.{each_pipe_owns_its_ends}
use Rattle.ws_pipe_laws.proofs.locks.Runs.{Locked, locked-stays, run-locked}
use Rattle.ws_end_laws.specs.wrote.WroteLaws.{through_in}
use Rattle.ws_end_laws.proofs.wrote.Fronts.{run-append, over-append}
use Rattle.ws_end_laws.proofs.ends.Closers.{NoClose, closes, row-quiet, place-quiet, spares-quiet, job-quiet, made-quiet}
use Rattle.ws_end_laws.proofs.ends.Failing.{Unclosed, Failing, is_closer, failing-operation, unclosed-operation}
use Rattle.ws_end_laws.proofs.ends.Finding.{Never, Why, Idle, Judged, State, all_map, all_append, same-dest, own-state}
use Rattle.ws_end_laws.proofs.ends.Streaming.{row-keeps, call-keeps}

-- a stream that isn't there is closed

none-unclosed : Unclosed no_writable → ⊥
none-unclosed k = false_true (writable.is_closed no_writable.state) refl k.state

none-failing : Failing no_writable → ⊥
none-failing k = let e = k.state in cc

-- each effect

unclosed-row : (i : StreamId) (s : Slots) (e : Effect) (h : WritesHistory) (es : List Effect) → Kept i h s (e ∷ es) → closes i e ≡ false → Unclosed (writable_at i s) → Unclosed (writable_at i (row e s).slots)
unclosed-row i s e h es k n w =
    row-keeps i Unclosed (λ operation. is_closer operation ≡ false) (unclosed-operation i) s e h es k
    (λ operation is. own i operation (subst (λ (f : Effect). closes i f ≡ false) is n)) w
  where
    own : (i : StreamId) (operation : WritableOperation) → closes i (OnWritable i operation) ≡ false → is_closer operation ≡ false
    own i operation n = let c : is_closer operation ≡ false = rw (is_same-refl i) at n in c

failing-row : (i : StreamId) (s : Slots) (e : Effect) (h : WritesHistory) (es : List Effect) → Kept i h s (e ∷ es) → Failing (writable_at i s) → Failing (writable_at i (row e s).slots)
failing-row i s e h es k w = row-keeps i Failing (λ operation. Unit {0}) (λ operation a c x f. failing-operation i operation a x f) s e h es k (λ operation is. tt) w

-- a read that is under way
few-reading : (a b c : ℕ) (reading : Bool) → a + (1 + b) + c ≤ one_if reading → reading ≡ true
few-reading a b c true n = refl
few-reading a b c false n = absurd (omega (arith, n))

module _ (p : PipeId) where
  -- what the pipe read in these moments
  abbrev pub read : List Moment → List Value
  read h = (through_in p h).read

  -- what is known of the pipe in its place, by these streams
  abbrev pub AtIn : List Moment → Option pipe.Slots → List Stream → List Effect → Type 0
  AtIn h None xs es = AllMoments (Idle p) h
  AtIn h (Some x) xs es = State p h (read h) x (as_writable (slice_get xs x.dest.0)) es

  abbrev pub At : List Moment → Option pipe.Slots → Slots → List Effect → Type 0
  At h o s es = AtIn h o s.streams es

  -- at each moment of a run: what the pipe reads, who has the locks, what is known of each writable stream, and of the pipe
  pub record Is (h : List Moment) (s : Slots) (es : List Effect) : Type 0 where
    pub passing : passing.Is p (through_in p h) s es
    pub locked : Locked s es
    pub known : (i : StreamId) → (g : WritesHistory) × Kept i g s es
    pub at : At h (slice_get s.pipes p.0) s es

  -- what was read with one more moment

  through_last : (ms : List Moment) (e : Effect) (s : Slots) → through_in p (ms ++ moment e s ∷ []) ≡ through_then (through_in p ms) (effect_through p e s)
  through_last [] e s = through_history.right (effect_through p e s) ∙ sym (through_history.left (effect_through p e s))
  through_last (m ∷ ms) e s =
      ap (through_then (effect_through p m.effect m.found)) (through_last ms e s) ∙ sym (through_history.assoc (effect_through p m.effect m.found) (through_in p ms) (effect_through p e s))

  read_last : (h : List Moment) (e : Effect) (s : Slots) → read (h ++ moment e s ∷ []) ≡ read h ++ (effect_through p e s).read
  read_last h e s = ap (λ (f : Through). f.read) (through_last h e s)

  read_same : (h : List Moment) (e : Effect) (s : Slots) → (effect_through p e s).read ≡ [] → read (h ++ moment e s ∷ []) ≡ read h
  read_same h e s n = read_last h e s ∙ (ap (λ (vs : List Value). read h ++ vs) n ∙ append-nil (read h))

  -- an effect that leaves the pipe in its place

  still : (s : Slots) (e : Effect) → slice_get (row e s).slots.pipes p.0 ≡ slice_get s.pipes p.0 → Idle p (moment e s)
  still s e same a = false_true (is_live (pipe_at p (row e s).slots).phase) (ap (λ (o : Option pipe.Slots). is_live (as_pipe o).phase) same ∙ a.live) a.acts

  why-same : (m : Moment) (vs : List Value) (x : pipe.Slots) (w z : writable.Slots) → (Failing w → Failing z) → Why p m vs x w → Why p m vs x z
  why-same m vs x w z f (inl n) = inl n
  why-same m vs x w z f (inr (inl k)) = inr (inl k)
  why-same m vs x w z f (inr (inr k)) = inr (inr (record { then_ = k.then_; unclosed = k.unclosed; now = f k.now }))

  other-state : (h : List Moment) (s : Slots) (e : Effect) (es : List Effect) (x : pipe.Slots) (w z : writable.Slots) (caused : List Effect) → Idle p (moment e s) → (is_live x.phase ≡ true → Each (NoClose x.dest) caused) → (closes x.dest e ≡ false → Unclosed w → Unclosed z)
      → (Failing w → Failing z) → State p h (read h) x w (e ∷ es) → State p (h ++ moment e s ∷ []) (read h) x z (caused ++ es)
  other-state h s e es x w z caused idle quiet unclosed failing (inl k) =
      inl (record {
        live = k.live;
        idle = all_append (Idle p) h (moment e s) k.idle idle;
        quiet = each-append (NoClose x.dest) caused es (quiet k.live) k.quiet.1;
        alike = ⊎_elim (λ (n : Never (read h) x). inl n) (λ (u : Unclosed w). inr (unclosed k.quiet.0 u)) k.alike;
      })
  other-state h s e es x w z caused idle quiet unclosed failing (inr k) =
      inr (record {
        shut = k.shut;
        why =
            all_append (Judged p (read h) x z) h (moment e s) (all_map (Judged p (read h) x w) (Judged p (read h) x z) (λ m j a. why-same m (read h) x w z failing (j a)) h k.why) (λ a. absurd (idle a));
      })

  other-at : (h : List Moment) (s : Slots) (e : Effect) (es : List Effect) (o : Option pipe.Slots) → Is h s (e ∷ es) → slice_get s.pipes p.0 ≡ o → slice_get (row e s).slots.pipes p.0 ≡ slice_get s.pipes p.0 → (effect_through p e s).read ≡ []
      → ((x : pipe.Slots) → o ≡ Some x → is_live x.phase ≡ true → Each (NoClose x.dest) (row e s).caused) → At h o s (e ∷ es) → At (h ++ moment e s ∷ []) o (row e s).slots ((row e s).caused ++ es)
  other-at h s e es None k f same none quiet a = all_append (Idle p) h (moment e s) a (still s e same)
  other-at h s e es (Some x) k f same none quiet a =
      let g = k.known x.dest in
      subst (λ (vs : List Value). State p (h ++ moment e s ∷ []) vs x (writable_at x.dest (row e s).slots) ((row e s).caused ++ es)) (sym (read_same h e s none))
      (other-state h s e es x (writable_at x.dest s) (writable_at x.dest (row e s).slots) (row e s).caused (still s e same) (quiet x refl) (unclosed-row x.dest s e g.0 es g.1) (failing-row x.dest s e g.0 es g.1) a)

  -- an operation of another pipe

  other_place : (q : PipeId) (operation : PipeOperation) (s : Slots) (o : Option pipe.Slots) → nat_eq p.0 q.0 ≡ false → slice_get (on_pipe_at (λ ends. pipe_operation q ends operation) q s o).slots.pipes p.0 ≡ slice_get s.pipes p.0
  other_place q operation s None n = refl
  other_place q operation s (Some x) n = slice_get-set_other s.pipes q.0 p.0 _ (λ i. unequal_numbers p.0 q.0 n (sym i))

  beside : (q : PipeId) (operation : PipeOperation) (s : Slots) → nat_eq p.0 q.0 ≡ false → slice_get (row (OnPipe q operation) s).slots.pipes p.0 ≡ slice_get s.pipes p.0
  unfolding row
  beside q operation s n = other_place q operation s (slice_get s.pipes q.0) n

  live_over : (phase : Phase) → is_live phase ≡ true → is_over phase ≡ false
  live_over phase l = grind (arith, l)

  beside-quiet : (q : PipeId) (operation : PipeOperation) (s : Slots) (es : List Effect) → nat_eq p.0 q.0 ≡ false → Locked s (OnPipe q operation ∷ es) → (x : pipe.Slots) → slice_get s.pipes p.0 ≡ Some x → is_live x.phase ≡ true
      → Each (NoClose x.dest) (row (OnPipe q operation) s).caused
  unfolding row
  beside-quiet q operation s es n k x e l = place-quiet x.dest p q operation s (OnPipe q operation ∷ es) x (slice_get s.pipes q.0) n (k.each Writing x.dest) e (live_over x.phase l) (is_same-refl x.dest) refl

  beside-at : (h : List Moment) (s : Slots) (q : PipeId) (operation : PipeOperation) (es : List Effect) → nat_eq p.0 q.0 ≡ false → Is h s (OnPipe q operation ∷ es)
      → At (h ++ moment (OnPipe q operation) s ∷ []) (slice_get s.pipes p.0) (row (OnPipe q operation) s).slots ((row (OnPipe q operation) s).caused ++ es)
  beside-at h s q operation es n k =
      other-at h s (OnPipe q operation) es (slice_get s.pipes p.0) k refl (beside q operation s n) (rw n refl) (λ x e l. beside-quiet q operation s es n k.locked x e l) k.at

  -- and one of its own

  self : nat_eq p.0 p.0 ≡ true
  self = grind arith

  keep-reading : (operation : PipeOperation) (s : Slots) (es : List Effect) (x : pipe.Slots) → slice_get s.pipes p.0 ≡ Some x → passing.Few p s (OnPipe p operation ∷ es) → (v : Value) → operation ≡ KeepChunk v → x.reading ≡ true
  keep-reading operation s es x e w v is =
      let k : passing.Few p s (OnPipe p (KeepChunk v) ∷ es) = subst (λ (f : PipeOperation). passing.Few p s (OnPipe p f ∷ es)) is w in
      few-reading _ _ _ x.reading (rw (e, self) at k)

  own-at : (h : List Moment) (s : Slots) (operation : PipeOperation) (es : List Effect) (o : Option pipe.Slots) → slice_get s.pipes p.0 ≡ o → passing.Few p s (OnPipe p operation ∷ es) → At h o s (OnPipe p operation ∷ es)
      → let d : Done = on_pipe_at (λ ends. pipe_operation p ends operation) p s o in row (OnPipe p operation) s ≡ d
      → At (h ++ moment (OnPipe p operation) s ∷ []) (slice_get d.slots.pipes p.0) d.slots (d.caused ++ es)
  own-at h s operation es None e w a is =
      subst (λ (o : Option pipe.Slots). At (h ++ moment (OnPipe p operation) s ∷ []) o s es) (sym e)
      (all_append (Idle p) h (moment (OnPipe p operation) s) a (λ k. false_true (is_live (as_pipe None).phase) (ap (λ (o : Option pipe.Slots). is_live (as_pipe o).phase) (sym e) ∙ k.live) refl))
  own-at h s operation es (Some x) e w a is =
      let b : pipe.Acts = pipe_operation p (ends_at x s) operation (starting x s.promises) in
      let d : Done = on_pipe_at (λ ends. pipe_operation p ends operation) p s (Some x) in
      let m : Moment = moment (OnPipe p operation) s in
      let place : slice_get d.slots.pipes p.0 ≡ Some b.slots = place_same s.pipes p.0 x b.slots e in
      let left : pipe_at p (leaves m) ≡ b.slots = ap (λ (f : Done). pipe_at p f.slots) is ∙ ap as_pipe place in
      let told : read (h ++ m ∷ []) ≡ read h ++ (operation_through operation x).read = read_last h (OnPipe p operation) s ∙ ap (λ (vs : List Value). read h ++ vs) (own-read operation s x e) in
      let same : b.slots.dest ≡ x.dest = same-dest p operation s x (keep-reading operation s es x e w) in
      let k = own-state p operation s x (keep-reading operation s es x e w) h (read h) es m (ap as_pipe e) refl left (is_live b.slots.phase) refl a in
      subst (λ (o : Option pipe.Slots). At (h ++ m ∷ []) o d.slots (b.out.effects ++ es)) (sym place)
      (subst (λ (vs : List Value). State p (h ++ m ∷ []) vs b.slots (writable_at b.slots.dest s) (b.out.effects ++ es)) (sym told)
      (subst (λ (j : StreamId). State p (h ++ m ∷ []) (read h ++ (operation_through operation x).read) b.slots (writable_at j s) (b.out.effects ++ es)) (sym same) k))
    where
      own-read : (operation : PipeOperation) (s : Slots) (x : pipe.Slots) → slice_get s.pipes p.0 ≡ Some x → (effect_through p (OnPipe p operation) s).read ≡ (operation_through operation x).read
      own-read operation s x e = rw (self, e) refl

  own_row : (h : List Moment) (s : Slots) (operation : PipeOperation) (es : List Effect) → Is h s (OnPipe p operation ∷ es)
      → At (h ++ moment (OnPipe p operation) s ∷ []) (slice_get (row (OnPipe p operation) s).slots.pipes p.0) (row (OnPipe p operation) s).slots ((row (OnPipe p operation) s).caused ++ es)
  unfolding row
  own_row h s operation es k = own-at h s operation es (slice_get s.pipes p.0) refl k.passing.0 k.at refl

  pipe_row : (h : List Moment) (s : Slots) (q : PipeId) (operation : PipeOperation) (es : List Effect) (same : Bool) → nat_eq p.0 q.0 ≡ same → Is h s (OnPipe q operation ∷ es)
      → At (h ++ moment (OnPipe q operation) s ∷ []) (slice_get (row (OnPipe q operation) s).slots.pipes p.0) (row (OnPipe q operation) s).slots ((row (OnPipe q operation) s).caused ++ es)
  pipe_row h s q operation es false n k =
      subst (λ (o : Option pipe.Slots). At (h ++ moment (OnPipe q operation) s ∷ []) o (row (OnPipe q operation) s).slots ((row (OnPipe q operation) s).caused ++ es)) (sym (beside q operation s n)) (beside-at h s q operation es n k)
  pipe_row h s q operation es true n k =
      let is : p ≡ q = ap (λ (n : ℕ). record { 0 = n }) (eq_numbers p.0 q.0 n) in
      subst (λ (z : PipeId). Is h s (OnPipe z operation ∷ es) → At (h ++ moment (OnPipe z operation) s ∷ []) (slice_get (row (OnPipe z operation) s).slots.pipes p.0) (row (OnPipe z operation) s).slots ((row (OnPipe z operation) s).caused ++ es)) is
      (own_row h s operation es) k

  plain_row : (h : List Moment) (s : Slots) (e : Effect) (es : List Effect) → IsNoPipe e → (effect_through p e s).read ≡ [] → Is h s (e ∷ es) → At (h ++ moment e s ∷ []) (slice_get (row e s).slots.pipes p.0) (row e s).slots ((row e s).caused ++ es)
  plain_row h s e es n none k =
      let same : slice_get (row e s).slots.pipes p.0 ≡ slice_get s.pipes p.0 = ap (λ (ps : List pipe.Slots). slice_get ps p.0) (row-pipes e s n) in
      subst (λ (o : Option pipe.Slots). At (h ++ moment e s ∷ []) o (row e s).slots ((row e s).caused ++ es)) (sym same)
      (other-at h s e es (slice_get s.pipes p.0) k refl same none (λ x f l. row-quiet x.dest e s n) k.at)

  row-at : (h : List Moment) (s : Slots) (e : Effect) (es : List Effect) → Is h s (e ∷ es) → At (h ++ moment e s ∷ []) (slice_get (row e s).slots.pipes p.0) (row e s).slots ((row e s).caused ++ es)
  row-at h s (OnPipe q operation) es k = pipe_row h s q operation es (nat_eq p.0 q.0) refl k
  row-at h s e es k = plain_row h s e es tt refl k

  row-is : (h : List Moment) (s : Slots) (e : Effect) (es : List Effect) → Is h s (e ∷ es) → Is (h ++ effect_moment e s) (row e s).slots ((row e s).caused ++ es)
  row-is h s e es k = record {
    passing = subst (λ (t : Through). passing.Is p t (row e s).slots ((row e s).caused ++ es)) (sym (through_last h e s)) ((passing.goes p).row (through_in p h) s e es k.passing);
    locked = locked-stays.row s e es k.locked;
    known = λ i. let g = k.known i in (writes_then g.0 (effect_writes i e s), (writes.goes i).row g.0 s e es g.1);
    at = row-at h s e es k;
  }

  -- calls

  -- the pipe is in its place, or it is new
  pub record IsNew (s : Slots) (o : Option pipe.Slots) : Type 0 where
    pub before : slice_get s.pipes p.0 ≡ None
    pub slots : pipe.Slots
    pub there : o ≡ Some slots
    pub flowing : slots.phase ≡ Flowing
    pub idle : slots.reading ≡ false

  abbrev pub Placed : Slots → Option pipe.Slots → Type 0
  Placed s o = (o ≡ slice_get s.pipes p.0) ⊎ IsNew s o

  pub call-placed : (c : Call) (s : Slots) → Placed s (slice_get (begin c s).done.slots.pipes p.0)
  call-placed c s = begin-makes (λ z. Placed s (slice_get z.pipes p.0)) (record {
    promise = λ z k. k;
    locks = λ z ls k. k;
    hosts = λ z hs k. k;
    pipe = λ z source dest prevent signal promise k.
        let y : pipe.Slots = pipe.set_up source dest prevent signal promise in
        ⊎_elim (λ (f : slice_get (z.pipes ++ y ∷ []) p.0 ≡ slice_get z.pipes p.0). subst (Placed s) (sym f) k)
        (λ (f : (slice_get z.pipes p.0 ≡ None) × (slice_get (z.pipes ++ y ∷ []) p.0 ≡ Some y)).
        ⊎_elim (λ (same : slice_get z.pipes p.0 ≡ slice_get s.pipes p.0). inr (record { before = sym same ∙ f.0; slots = y; there = f.1; flowing = refl; idle = refl }))
        (λ (new : IsNew s (slice_get z.pipes p.0)). let n : None ≡ Some new.slots = sym f.0 ∙ new.there in absurd (cc)) k)
        (appended z.pipes y p.0);
    signal = λ z k. k;
    transform = λ z kind i j change k. k;
    tee = λ z source first second cancel k. k;
    port = λ z side stream backpressure k. k;
    bytes = λ z mark auto k. k;
    byob_requests = λ z hs k. k;
    readable = λ z owner mark size k. k;
    writable = λ z owner mark size k. k;
  }) c s (inl refl)

  call-state : (h : List Moment) (before : List Entry) (c : Call) (o : Option pipe.Slots) → let s : Slots = run before empty in slice_get s.pipes p.0 ≡ o → At h o s [] → At h o (begin c s).done.slots (begin c s).done.caused
  call-state h before c None e a = a
  call-state h before c (Some x) e (inl k) =
      let s : Slots = run before empty in
      let is : pipe_at p s ≡ x = ap as_pipe e in
      let spared = subst (λ (y : pipe.Slots). is_over y.phase ≡ false → all_spare y.source y.dest (begin c s).done.caused ≡ true) is (λ o. (each_pipe_owns_its_ends before p o).calls c) (live_over x.phase k.live) in
      inl (record {
        live = k.live;
        idle = k.idle;
        quiet = spares-quiet x.dest x.source (begin c s).done.caused spared;
        alike = ⊎_elim (λ (n : Never (read h) x). inl n) (λ (u : Unclosed (writable_at x.dest s)). inr (call-keeps x.dest Unclosed none-unclosed s c u)) k.alike;
      })
  call-state h before c (Some x) e (inr k) =
      let s : Slots = run before empty in
      inr (record {
        shut = k.shut;
        why =
            all_map (Judged p (read h) x (writable_at x.dest s)) (Judged p (read h) x (writable_at x.dest (begin c s).done.slots))
            (λ m j a. why-same m (read h) x (writable_at x.dest s) (writable_at x.dest (begin c s).done.slots) (call-keeps x.dest Failing none-failing s c) (j a)) h k.why;
      })

  new-state : (h : List Moment) (s : Slots) (c : Call) (y : pipe.Slots) → Is h s [] → slice_get s.pipes p.0 ≡ None → slice_get (begin c s).done.slots.pipes p.0 ≡ Some y → y.phase ≡ Flowing → y.reading ≡ false → At h (Some y) (begin c s).done.slots (begin c s).done.caused
  new-state h s c y k none there flowing idle =
      let nothing_read : through_in p h ≡ nothing_through = subst (passing.Place (through_in p h)) none k.passing.1 in
      let a : At h None s [] = subst (λ (o : Option pipe.Slots). At h o s []) none k.at in
      inl (record {
        live = ap is_live flowing;
        idle = a;
        quiet = ⊎_elim (λ (same : (begin c s).done.slots.pipes ≡ s.pipes). let n : None ≡ Some y = sym none ∙ (ap (λ (ps : List pipe.Slots). slice_get ps p.0) (sym same) ∙ there) in absurd (cc)) (λ (q : Each (NoClose y.dest) (begin c s).done.caused). q) (made-quiet y.dest c s);
        alike = inl (record { none = ap (λ (f : Through). f.read) nothing_read; idle = idle });
      })

  call-at : (h : List Moment) (before : List Entry) (c : Call) → let s : Slots = run before empty in Is h s [] → At h (slice_get (begin c s).done.slots.pipes p.0) (begin c s).done.slots (begin c s).done.caused
  call-at h before c k =
      let s : Slots = run before empty in
      ⊎_elim
      (λ (same : slice_get (begin c s).done.slots.pipes p.0 ≡ slice_get s.pipes p.0).
      subst (λ (o : Option pipe.Slots). At h o (begin c s).done.slots (begin c s).done.caused) (sym same) (call-state h before c (slice_get s.pipes p.0) refl k.at))
      (λ (new : IsNew s (slice_get (begin c s).done.slots.pipes p.0)).
      subst (λ (o : Option pipe.Slots). At h o (begin c s).done.slots (begin c s).done.caused) (sym new.there) (new-state h s c new.slots k new.before new.there new.flowing new.idle))
      (call-placed c s)

  call-is : (h : List Moment) (before : List Entry) (c : Call) → let s : Slots = run before empty in Is h s [] → Is h (begin c s).done.slots (begin c s).done.caused
  call-is h before c k =
      let s : Slots = run before empty in
      record {
        passing = (passing.goes p).call (through_in p h) s c k.passing;
        locked = locked-stays.call s c k.locked;
        known = λ i. let g = k.known i in (g.0, (writes.goes i).call g.0 s c g.1);
        at = call-at h before c k;
      }

  -- jobs

  quiet-state : (h : List Moment) (s : Slots) (es : List Effect) (o : Option pipe.Slots) → ((j : StreamId) → Each (NoClose j) es) → At h o s [] → At h o s es
  quiet-state h s es None q a = a
  quiet-state h s es (Some x) q (inl k) = inl (record { live = k.live; idle = k.idle; quiet = q x.dest; alike = k.alike })
  quiet-state h s es (Some x) q (inr k) = inr k

  job-is : (h : List Moment) (s : Slots) (job : Job) → next_job s.promises ≡ Some job → Is h s [] → Is h (with_promises (after_next_job s.promises) s) (job_effects job)
  job-is h s job e k = record {
    passing = (passing.goes p).job (through_in p h) s job e k.passing;
    locked = locked-stays.job s job e k.locked;
    known = λ i. let g = k.known i in (g.0, (writes.goes i).job g.0 s job e g.1);
    at = quiet-state h (with_promises (after_next_job s.promises) s) (job_effects job) (slice_get s.pipes p.0) (λ j. job-quiet j job) k.at;
  }

  -- steps

  done-is : (h : List Moment) (d : Done) → Is h d.slots d.caused → Is (h ++ along [] ◌++◌ effect_moment (moments d)) (performed d) []
  done-is h d k = performed-goes [] ◌++◌ moments_history effect_moment Is row-is h d k

  older-is : (h : List Moment) (s : Slots) → Is h s [] → Is h (older s) []
  older-is h s k = record {
    passing = (passing.goes p).older (through_in p h) s k.passing;
    locked = locked-stays.older s k.locked;
    known = λ i. let g = k.known i in (g.0, (writes.goes i).older g.0 s g.1);
    at = k.at;
  }

  named-is : (h : List Moment) (reply : Reply) (s : Slots) → Is h s [] → Is h (named reply s) []
  named-is h (Named q) s k = record {
    passing = (passing.goes p).answered (through_in p h) s q k.passing;
    locked = locked-stays.answered s q k.locked;
    known = λ i. let g = k.known i in (g.0, (writes.goes i).answered g.0 s q g.1);
    at = k.at;
  }
  named-is h _ s k = k

  worked-is : (h : List Moment) (s : Slots) (job : Option Job) → job ≡ next_job s.promises → Is h s [] → Is h (job_begun s job).slots (job_begun s job).caused
  worked-is h s None e k = k
  worked-is h s (Some job) e k = job-is h s job (sym e) k

  rested : (h : List Moment) (s z : Slots) → Is h z [] → Is (h ++ along [] ◌++◌ effect_moment (moments (nothing s))) z []
  rested h s z k =
      subst (λ (ms : List Moment). Is (h ++ ms) z []) (sym (nothing-told [] ◌++◌ moments_history effect_moment s)) (subst (λ (ms : List Moment). Is ms z []) (sym (append-nil h)) k)

  step-is : (h : List Moment) (before : List Entry) (x : Entry) → let s : Slots = run before empty in Is h s [] → Is (h ++ step_moments s x) (step s x) []
  unfolding begin_job
  step-is h before (Called c) k =
      let s : Slots = run before empty in
      let d : Done = (begin c s).done in
      let ms : List Moment = h ++ along [] ◌++◌ effect_moment (moments d) in
      older-is ms (named (begin c s).reply (performed d)) (named-is ms (begin c s).reply (performed d) (done-is h d (call-is h before c k)))
  step-is h before Worked k =
      let s : Slots = run before empty in
      let d : Done = begin_job s in
      older-is (h ++ along [] ◌++◌ effect_moment (moments d)) (performed d) (done-is h d (worked-is h s (next_job s.promises) refl k))
  step-is h before Heard k =
      let s : Slots = run before empty in
      rested h s (after_event s) (record {
        passing = (passing.rests p).heard (through_in p h) s k.passing;
        locked = record { first = tt; each = λ d i. let b = k.locked.each d i in record { even = b.even; few = b.few }; waits = waits-heard s k.locked.waits; told = tt };
        known = λ i. let g = k.known i in (g.0, (writes.rests i).heard g.0 s g.1);
        at = k.at;
      })

  -- runs

  -- between steps
  abbrev pub Rest : List Entry → Type 0
  Rest before = Is (run_moments before empty) (run before empty) []

  next-rest : (before : List Entry) (x : Entry) → Rest before → Rest (before ++ x ∷ [])
  next-rest before x k =
      let told : run_moments (before ++ x ∷ []) empty ≡ run_moments before empty ++ step_moments (run before empty) x =
      over-append [] ◌++◌ moments_history step_moments before (x ∷ []) empty ∙ ap (λ (ms : List Moment). run_moments before empty ++ ms) (append-nil (step_moments (run before empty) x)) in
      subst (λ (s : Slots). Is (run_moments (before ++ x ∷ []) empty) s []) (sym (run-append before (x ∷ []) empty))
      (subst (λ (ms : List Moment). Is ms (step (run before empty) x) []) (sym told) (step-is (run_moments before empty) before x k))

  runs-rest : (xs before : List Entry) → Rest before → Rest (before ++ xs)
  runs-rest [] before k = subst Rest (sym (append-nil before)) k
  runs-rest (x ∷ xs) before k = subst Rest (append_assoc before (x ∷ []) xs) (runs-rest xs (before ++ x ∷ []) (next-rest before x k))

  begun : Rest []
  begun = record { passing = passing.each_is [] p; locked = run-locked []; known = λ i. (no_writes, writes.none_made i); at = tt }

  pub run-is : (entries : List Entry) → Rest entries
  run-is entries = runs-rest entries [] begun
