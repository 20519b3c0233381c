-- A pipe and its destination, whatever it isn't to do: while the pipe is live, the destination is open and nothing closes it; and from the step on in
-- which it isn't live any more, each of its writes has settled, or the destination has failed.
use Rattle.std.proofs.Common.{◌≡◌, ℕ, ◌-◌, Bool, true, false, not, ◌&&◌, ◌||◌, is_some, inl, inr, ◌⊎◌, nat_eq, List, [], ◌∷◌, ◌++◌, Option, Some, None, Result, Ok, Err, slice_get, refl, sym, ap, subst, ◌∙◌, arith, append_assoc, append-nil}
use Rattle.ws_value.specs.declared.{ids.PipeId.{PipeId}, ids.PromiseId.{PromiseId}, ids.StreamId.{StreamId}}
use Rattle.ws_value.specs.declared.value.{Plain.{Plain}, Plain.TheVariants.{Undefined}, Value.{Value}}
use Rattle.ws_steps.specs.declared.calls.{Call.{Call}, Reply.{Reply}, Reply.TheVariants.{Promise}}
use Rattle.ws_steps.specs.declared.effects.Effect.{Effect}
use Rattle.ws_steps.specs.declared.effects.Effect.TheVariants.{Writable, Pipe}
use Rattle.ws_steps.specs.declared.pipes.{Action.TheVariants.{BySignal}, Ends.{Ends}, Phase.{Phase}, Phase.TheVariants.{Flowing, Waiting, Acting, Over}, PipeOperation.{PipeOperation}}
use Rattle.ws_steps.specs.declared.pipes.PipeOperation.TheVariants.{Look, LookReady, KeepChunk, ReadEnded, WriteChunk, GoOn, WriteEnded, Abort as AbortPipe, ActionSettled, PartSettled, NoParts}
use Rattle.ws_steps.specs.declared.promises.Job.{Job}
use Rattle.ws_steps.specs.declared.writable.WritableState.{WritableState}
use Rattle.ws_steps.specs.declared.writable.WritableState.TheVariants as states
use Rattle.ws_steps.specs.Calls.{begin, named}
use Rattle.ws_steps.specs.Effects.{Out}
use Rattle.ws_steps.specs.Jobs.{job_effects, job_begun, begin_job}
use Rattle.ws_steps.specs.Operations.{pipe_operation}
use Rattle.ws_steps.specs.Pipes as pipe
use Rattle.ws_steps.specs.Pipes.{Acts, look, look_ready, go_on_in, go_on, keep_chunk, read_ended, write_in, write_held, write_chunk, write_ended, action_settled, settle_whole, part_settled, no_parts, abort}
use Rattle.ws_steps.specs.Promises.{Table, next_job, after_next_job, watch}
use Rattle.ws_steps.specs.Run.{Entry, Called, Worked, Heard, run, step, older, after_event}
use Rattle.ws_steps.specs.Slots.{Slots, Done, empty, with_promises, as_writable, is_writable_stream, ends_at, on_pipe_at, put_pipe, writable_at, has_writable}
use Rattle.ws_steps.specs.Turns.{row, performed}
use Rattle.ws_steps.specs.Writable as writable
use Rattle.ws_steps.specs.Writable.{is_closing, is_closed, is_writable}
use Rattle.ws_laws.proofs.Lists.{Each, each-append}
use Rattle.ws_laws.proofs.Tables.{eq_numbers}
use Rattle.ws_laws.proofs.Truth.{false_true}
use Rattle.ws_laws.proofs.Walker.{performed-goes, untold}
use Rattle.ws_promise_laws.proofs.Runs.{Straight, straight-stays, straight-heard}
use Rattle.ws_pipe_laws.specs.pipes.PipeHistory.{is_live}
use Rattle.ws_pipe_laws.specs.pipes.PipeMoves.{starting, writes_first, HasWritten, Move, MoveRests, MoveWaits, MoveActs, MoveEnds, MoveFinishes}
use Rattle.ws_pipe_laws.proofs.pipes.Courses.{place_same}
use Rattle.ws_pipe_laws.proofs.pipes.Kept.{each_pipe_keeps_its_ends}
use Rattle.ws_pipe_laws.proofs.pipes.Moves.{each_pipe_moves}
use Rattle.ws_pipe_laws.proofs.writes.Paying.{finalize-even, shutdown-even}
use Rattle.ws_pipe_laws.proofs.locks.Runs.{Locked, locked-stays, run-locked}
use Rattle.ws_end_laws.proofs.hosts.Acts.{NotOf, are_idle-close, job-closes}
use Rattle.ws_end_laws.proofs.hosts.Dests.{NoClose, row-open, row-there}
use Rattle.ws_end_laws.proofs.hosts.Doomed.{Doomed, row-doomed}
use Rattle.ws_end_laws.proofs.hosts.PipedRuns.{SamePlace, call-there, call-same, calls-close, run-last}
use Rattle.ws_end_laws.proofs.hosts.Staying.{Open}
use Rattle.ws_end_laws.proofs.hosts.Places.{other_there, told_acting}
use Rattle.ws_end_laws.proofs.hosts.PipedRows.{other-close}

-- a pipe that isn't live makes no write any more

module _ (me : PipeId) (ends : Ends) where
  abbrev None_left : Acts → Type 0
  None_left a = a.slots.unsettled ≡ 0

  look-none : (a : Acts) → None_left a → is_live a.slots.phase ≡ false → None_left (look me ends a)
  unfolding look
  look-none a u l = by a.slots.phase refl
    where
      by : (phase : Phase) → a.slots.phase ≡ phase → None_left (look me ends a)
      by Acting e = rw e u
      by Over e = rw e u
      by Flowing e = false_true (is_live a.slots.phase) (ap is_live e) l
      by Waiting e = false_true (is_live a.slots.phase) (ap is_live e) l

  go_on-none : (a : Acts) (phase : Phase) → None_left a → is_live phase ≡ false → None_left (go_on_in me ends a phase)
  go_on-none a Acting u l = u
  go_on-none a Over u l = u
  go_on-none a Flowing u l = absurd (cc)
  go_on-none a Waiting u l = absurd (cc)

  write-none : (v : Value) (a : Acts) (phase : Phase) → None_left a → is_live phase ≡ false → None_left (write_in me v a phase)
  write-none v a Acting u l = u
  write-none v a Over u l = u
  write-none v a Flowing u l = absurd (cc)
  write-none v a Waiting u l = absurd (cc)

  held-none : (a : Acts) (o : Option Value) → None_left a → is_live a.slots.phase ≡ false → None_left (write_held me a o)
  held-none a None u l = u
  held-none a (Some v) u l = write-none v _ a.slots.phase u l

  whole-none : (o : Result Plain Plain) (a : Acts) (w : Option PromiseId) → None_left a → None_left (settle_whole o a w)
  whole-none o a None u = u
  whole-none o a (Some w) u = u

  pub late-operation : (operation : PipeOperation) (x : pipe.Slots) (t : Table) → x.unsettled ≡ 0 → is_live x.phase ≡ false → None_left (pipe_operation me ends operation (starting x t))
  unfolding look_ready go_on keep_chunk read_ended write_chunk write_ended action_settled part_settled no_parts abort
  late-operation Look x t u l = look-none (starting x t) u l
  late-operation LookReady x t u l = look-none (starting (record x { waits = false }) t) u l
  late-operation (KeepChunk v) x t u l = u
  late-operation ReadEnded x t u l = u
  late-operation WriteChunk x t u l = held-none (starting x t) x.held u l
  late-operation GoOn x t u l = go_on-none (starting x t) x.phase u l
  late-operation WriteEnded x t u l = go_on-none (starting (record x { unsettled = x.unsettled - 1 }) t) x.phase (omega (arith, u)) l
  late-operation (AbortPipe r) x t u l = (shutdown-even me me ends (Some (BySignal r)) (Some r) (starting x t)).unsettled ∙ u
  late-operation (ActionSettled (Ok v)) x t u l = (finalize-even me me x.error (starting x t)).unsettled ∙ u
  late-operation (ActionSettled (Err e)) x t u l = (finalize-even me me (Some e) (starting x t)).unsettled ∙ u
  late-operation (PartSettled (Ok v)) x t u l = grind (arith, u, whole-none)
  late-operation (PartSettled (Err e)) x t u l = whole-none (Err e) (starting x t) x.whole u
  late-operation NoParts x t u l = whole-none (Ok Undefined) (starting x t) x.whole u

-- the writes come first where the destination is open and hasn't failed
writes-or : (w : writable.Slots) → Open w → (is_writable w.state && not (is_closing w) ≡ true) ⊎ Doomed w
writes-or w o = by w.state refl
  where
    idle : (a b : Option PromiseId) → is_some a || is_some b ≡ false → is_some b ≡ false
    idle a b e = grind arith

    by : (state : WritableState) → w.state ≡ state → (is_writable w.state && not (is_closing w) ≡ true) ⊎ Doomed w
    by states.Writable e = inl (rw (e, o.closing) refl)
    by states.Erroring e = inr (record { failed = rw e refl; flight = idle w.close_request w.close_in_flight o.closing })
    by states.Errored e = inr (record { failed = rw e refl; flight = idle w.close_request w.close_in_flight o.closing })
    by states.Closed e = false_true (is_closed w.state) (ap is_closed e) o.closed

module _ (p : PipeId) (i : StreamId) where
  pub record Steady (s : Slots) (es : List Effect) : Type 0 where
    pub x : pipe.Slots
    pub there : slice_get s.pipes p.0 ≡ Some x
    pub dest : x.dest ≡ i
    pub straight : Straight s es
    pub locked : Locked s es
    pub stands : has_writable i s ≡ true
    pub live : is_live x.phase ≡ true → Open (writable_at i s) × Each (NoClose i) es
    pub late : is_live x.phase ≡ false → (x.unsettled ≡ 0) ⊎ Doomed (writable_at i s)

  -- effects that aren't operations of the pipe

  doomed-next : (x : pipe.Slots) (s : Slots) (e : Effect) (es : List Effect) → Straight s (e ∷ es) → (x.unsettled ≡ 0) ⊎ Doomed (writable_at i s) → (x.unsettled ≡ 0) ⊎ Doomed (writable_at i (row e s).slots)
  doomed-next x s e es k (inl u) = inl u
  doomed-next x s e es k (inr d) = inr (row-doomed i s e es k d)

  other-row : (s : Slots) (e : Effect) (es : List Effect) → NotOf p e → Steady s (e ∷ es) → Steady (row e s).slots ((row e s).caused ++ es)
  other-row s e es n k = record {
    x = k.x;
    there = other_there p e s n ∙ k.there;
    dest = k.dest;
    straight = straight-stays.row s e es k.straight;
    locked = locked-stays.row s e es k.locked;
    stands = row-there i s e k.stands;
    live = λ f. let o = k.live f in (row-open i s e es k.straight o.1.0 o.0, each-append (NoClose i) (row e s).caused es (other-close p i k.x s e es n k.locked k.there f k.dest) o.1.1);
    late = λ f. doomed-next k.x s e es k.straight (k.late f);
  }

  -- operations of the pipe

  -- what it leaves of the pipe
  record Moved (x : pipe.Slots) (s : Slots) (b : pipe.Acts) : Type 0 where
    live : is_live b.slots.phase ≡ true → (is_live x.phase ≡ true) × Each (NoClose i) b.out.effects
    late : is_live b.slots.phase ≡ false → (b.slots.unsettled ≡ 0) ⊎ Doomed (writable_at i s)

  module _ (operation : PipeOperation) (x : pipe.Slots) (s : Slots) (dest : x.dest ≡ i) (is_open : is_live x.phase ≡ true → Open (writable_at i s)) (was : is_live x.phase ≡ false → (x.unsettled ≡ 0) ⊎ Doomed (writable_at i s))
      (acting : (o : Result Plain Plain) → operation ≡ ActionSettled o → x.phase ≡ Acting) where
    abbrev ends : Ends
    ends = ends_at x s

    first : Open (writable_at i s) → (writes_first ends ≡ true) ⊎ Doomed (writable_at i s)
    first o = subst (λ (j : StreamId). (is_writable (writable_at j s).state && not (is_closing (writable_at j s)) ≡ true) ⊎ Doomed (writable_at i s)) (sym dest) (writes-or (writable_at i s) o)

    written : (y : pipe.Slots) → HasWritten ends x y → (writes_first ends ≡ true) ⊎ Doomed (writable_at i s) → (y.unsettled ≡ 0) ⊎ Doomed (writable_at i s)
    written y h (inl f) = inl (h (inr f)).1
    written y h (inr d) = inr d

    settled : (b : pipe.Acts) → b ≡ pipe_operation p ends operation (starting x s.promises) → is_live x.phase ≡ false → (x.unsettled ≡ 0) ⊎ Doomed (writable_at i s) → (b.slots.unsettled ≡ 0) ⊎ Doomed (writable_at i s)
    settled b e l (inl u) = inl (ap (λ (c : pipe.Acts). c.slots.unsettled) e ∙ late-operation p ends operation x s.promises u l)
    settled b e l (inr d) = inr d

    moved : (b : pipe.Acts) → b ≡ pipe_operation p ends operation (starting x s.promises) → Move p ends operation x s.promises b → Moved x s b
    moved b same (MoveRests f a e idle) = record { live = λ l. (sym (ap is_live f) ∙ l, are_idle-close i b.out.effects idle); late = λ l. let n = sym (ap is_live f) ∙ l in settled b same n (was n) }
    moved b same (MoveWaits f e m w o) =
        let phase : b.slots.phase ≡ Waiting = ap (λ (y : pipe.Slots). y.phase) e in
        record { live = λ l. (ap is_live f, subst (λ (z : Out). Each (NoClose i) z.effects) (sym o) tt); late = λ l. false_true (is_live b.slots.phase) (ap is_live phase) l }
    moved b same (MoveActs action y e m h o alike) =
        let phase : b.slots.phase ≡ Acting = alike.phase ∙ ap (λ (y : pipe.Slots). y.phase) e in
        record { live = λ l. false_true (is_live b.slots.phase) l (ap is_live phase); late = λ l. unsettled_as (written y h (first (is_open m.live))) }
      where
        unsettled_as : (y.unsettled ≡ 0) ⊎ Doomed (writable_at i s) → (b.slots.unsettled ≡ 0) ⊎ Doomed (writable_at i s)
        unsettled_as (inl u) = inl (alike.unsettled ∙ u)
        unsettled_as (inr d) = inr d
    moved b same (MoveEnds e m h o) =
        let phase : b.slots.phase ≡ Over = ap (λ (y : pipe.Slots). y.phase) e in
        record { live = λ l. false_true (is_live b.slots.phase) l (ap is_live phase); late = λ l. written b.slots h (first (is_open m.live)) }
    moved b same (MoveFinishes r f e o) =
        let phase : b.slots.phase ≡ Over = ap (λ (y : pipe.Slots). y.phase) e in
        let n : is_live x.phase ≡ false = ap is_live (acting r f) in
        record { live = λ l. false_true (is_live b.slots.phase) l (ap is_live phase); late = λ l. settled b same n (was n) }

  own-row : (s : Slots) (operation : PipeOperation) (es : List Effect) → let e : Effect = Pipe p operation in Steady s (e ∷ es) → Steady (row e s).slots ((row e s).caused ++ es)
  unfolding row
  own-row s operation es k =
      let e : Effect = Pipe p operation in
      let x : pipe.Slots = k.x in
      let ends : Ends = ends_at x s in
      let b : pipe.Acts = pipe_operation p ends operation (starting x s.promises) in
      let d : Done = put_pipe p s b in
      let same : row e s ≡ d = ap (on_pipe_at (λ ends. pipe_operation p ends operation) p s) k.there in
      let kept = each_pipe_keeps_its_ends p ends operation x s.promises in
      let m : Moved x s b = moved operation x s k.dest (λ l. (k.live l).0) k.late (told_acting p s operation es x k.there (k.straight.waits p)) b refl (each_pipe_moves p ends operation x s.promises) in
      subst (λ (c : Done). Steady c.slots (c.caused ++ es)) (sym same) (record {
        x = b.slots;
        there = place_same s.pipes p.0 x b.slots k.there;
        dest = kept.dest ∙ k.dest;
        straight = subst (λ (c : Done). Straight c.slots (c.caused ++ es)) same (straight-stays.row s e es k.straight);
        locked = subst (λ (c : Done). Locked c.slots (c.caused ++ es)) same (locked-stays.row s e es k.locked);
        stands = k.stands;
        live = λ f. let n = m.live f in let o = k.live n.0 in (o.0, each-append (NoClose i) d.caused es n.1 o.1.1);
        late = m.late;
      })

  pipe-row : (s : Slots) (q : PipeId) (operation : PipeOperation) (es : List Effect) (same : Bool) → nat_eq p.0 q.0 ≡ same → Steady s (Pipe q operation ∷ es) → Steady (row (Pipe q operation) s).slots ((row (Pipe q operation) s).caused ++ es)
  pipe-row s q operation es false n k = other-row s (Pipe q operation) es n k
  pipe-row s q operation es true n k =
      subst (λ (r : PipeId). Steady s (Pipe r operation ∷ es) → Steady (row (Pipe r operation) s).slots ((row (Pipe r operation) s).caused ++ es)) (ap (λ (n : ℕ). record { 0 = n }) (eq_numbers p.0 q.0 n)) (own-row s operation es) k

  pub row-steady : (s : Slots) (e : Effect) (es : List Effect) → Steady s (e ∷ es) → Steady (row e s).slots ((row e s).caused ++ es)
  row-steady s (Pipe q operation) es k = pipe-row s q operation es (nat_eq p.0 q.0) refl k
  row-steady s e es k = other-row s e es tt k

  -- steps

  done-steady : (d : Done) → Steady d.slots d.caused → Steady (performed d) []
  done-steady d k = performed-goes {H = Unit {0}} tt (λ f g. tt) untold (λ e s. tt) (λ h s es. Steady s es) (λ h s e es k. row-steady s e es k) tt d k

  -- where no effect was performed
  begins-steady : (s z : Slots) (cs : List Effect) (k : Steady s []) → slice_get z.pipes p.0 ≡ Some k.x → SamePlace i s z → Straight z cs → Locked z cs → (is_live k.x.phase ≡ true → Each (NoClose i) cs) → Steady z cs
  begins-steady s z cs k there place straight locked closes =
      let same : writable_at i z ≡ writable_at i s = ap as_writable place in
      record {
        x = k.x;
        there = there;
        dest = k.dest;
        straight = straight;
        locked = locked;
        stands = ap is_writable_stream place ∙ k.stands;
        live = λ f. (subst Open (sym same) (k.live f).0, closes f);
        late = λ f. subst (λ (w : writable.Slots). (k.x.unsettled ≡ 0) ⊎ Doomed w) (sym same) (k.late f);
      }

  pub job-steady : (s : Slots) (job : Job) → next_job s.promises ≡ Some job → Steady s [] → Steady (with_promises (after_next_job s.promises) s) (job_effects job)
  job-steady s job e k =
      begins-steady s (with_promises (after_next_job s.promises) s) (job_effects job) k k.there refl (straight-stays.job s job e k.straight) (locked-stays.job s job e k.locked) (λ f. job-closes i job)

  pub named-steady : (reply : Reply) (s : Slots) → Steady s [] → Steady (named reply s) []
  named-steady (Promise q) s k = begins-steady s (with_promises (watch q s.promises) s) [] k k.there refl (straight-stays.answered s q k.straight) (locked-stays.answered s q k.locked) (λ f. tt)
  named-steady _ s k = k

  pub older-steady : (s : Slots) → Steady s [] → Steady (older s) []
  older-steady s k = begins-steady s (older s) [] k k.there refl (straight-stays.older s k.straight) (locked-stays.older s k.locked) (λ f. tt)

  pub heard-steady : (s : Slots) → Locked (after_event s) [] → Steady s [] → Steady (after_event s) []
  heard-steady s locked k = begins-steady s (after_event s) [] k k.there refl (straight-heard s k.straight) locked (λ f. tt)

  pub call-steady : (entries : List Entry) (c : Call) → let s : Slots = run entries empty in Steady s [] → Steady (begin c s).done.slots (begin c s).done.caused
  call-steady entries c k =
      let s : Slots = run entries empty in
      begins-steady s (begin c s).done.slots (begin c s).done.caused k (call-there p i k.x c s k.there) (call-same p i c s k.stands) (straight-stays.call s c k.straight) (locked-stays.call s c k.locked) (λ f. calls-close p i entries c k.x k.there k.dest f)

  pub called-steady : (c : Call) (s : Slots) → Steady (begin c s).done.slots (begin c s).done.caused → Steady (step s (Called c)) []
  called-steady c s k = older-steady _ (named-steady (begin c s).reply (performed (begin c s).done) (done-steady (begin c s).done k))

  pub begun-steady : (job : Option Job) (s : Slots) → job ≡ next_job s.promises → Steady s [] → Steady (job_begun s job).slots (job_begun s job).caused
  begun-steady None s e k = k
  begun-steady (Some job) s e k = job-steady s job (sym e) k

  worked-steady : (s : Slots) → Steady s [] → Steady (step s Worked) []
  unfolding begin_job
  worked-steady s k = older-steady _ (done-steady (begin_job s) (begun-steady (next_job s.promises) s refl k))

  step-steady : (entries : List Entry) (x : Entry) → let s : Slots = run entries empty in Locked (step s x) [] → Steady s [] → Steady (step s x) []
  step-steady entries (Called c) l k = called-steady c (run entries empty) (call-steady entries c k)
  step-steady entries Worked l k = worked-steady (run entries empty) k
  step-steady entries Heard l k = heard-steady (run entries empty) l k

  abbrev pub SteadyAfter : List Entry → Type 0
  SteadyAfter xs = Steady (run xs empty) []

  pub next-steady : (xs : List Entry) (x : Entry) → Steady (step (run xs empty) x) [] → SteadyAfter (xs ++ x ∷ [])
  next-steady xs x k = subst (λ (s : Slots). Steady s []) (sym (run-last xs x empty)) k

  pub last-locked : (xs : List Entry) (x : Entry) → Locked (step (run xs empty) x) []
  last-locked xs x = subst (λ (s : Slots). Locked s []) (run-last xs x empty) (run-locked (xs ++ x ∷ []))

  pub rest-steady : (ys xs : List Entry) → SteadyAfter xs → SteadyAfter (xs ++ ys)
  rest-steady [] xs k = subst SteadyAfter (sym (append-nil xs)) k
  rest-steady (y ∷ ys) xs k = subst SteadyAfter (append_assoc xs (y ∷ []) ys) (rest-steady ys (xs ++ y ∷ []) (next-steady xs y (step-steady xs y (last-locked xs y) k)))
