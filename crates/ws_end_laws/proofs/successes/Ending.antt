-- How a pipe ends by the promise of its action (`each_pipe_ends_as_its_action`).
use Rattle.std.proofs.Common.{◌≡◌, ◌≢◌, ◌⊎◌, inl, inr, ℕ, Bool, true, false, not, ◌&&◌, nat_eq, if◌then◌else◌, List, [], ◌∷◌, ◌++◌, Option, Some, None, Result, slice_get, refl, sym, ap, subst, ◌∙◌, arith, append_assoc, append-nil}
use Rattle.ws_value.specs.declared.{ids.PipeId.{PipeId}, ids.PromiseId.{PromiseId}, ids.SignalId.{SignalId}}
use Rattle.ws_value.specs.declared.value.{Plain.{Plain}}
use Rattle.ws_steps.specs.declared.calls.{Call.{Call}}
use Rattle.ws_steps.specs.declared.effects.Effect.{Effect}
use Rattle.ws_steps.specs.declared.effects.Effect.TheVariants.{Pipe, Settle}
use Rattle.ws_steps.specs.declared.pipes.{Action.{Action}, Action.TheVariants.{AbortDest, CancelSource, CloseDest, BySignal}, Ends.{Ends}, Phase.{Phase}, Phase.TheVariants.{Flowing, Waiting, Acting, Over}, PipeOperation.{PipeOperation}, PipeOperation.TheVariants.{ActionSettled}}
use Rattle.ws_steps.specs.Calls.{begin}
use Rattle.ws_steps.specs.Effects.{Out}
use Rattle.ws_steps.specs.Histories.{along, over}
use Rattle.ws_steps.specs.Operations.{pipe_operation}
use Rattle.ws_steps.specs.Pipes as pipe
use Rattle.ws_steps.specs.Promises.{Table, settled, outcome_at, fresh, next_id, after_next_job, watch}
use Rattle.ws_steps.specs.Run.{Entry, run, step, after_event, moments_in}
use Rattle.ws_steps.specs.Slots.{Slots, Done, empty, as_pipe, pipe_at, ends_at, put_pipe, on_pipe_at}
use Rattle.ws_steps.specs.Turns.{Moment, row}
use Rattle.ws_laws.proofs.Outcomes.{Keeps, keeps-next, keeps-watch, keeps-entries}
use Rattle.ws_laws.proofs.Tables.{eq_numbers}
use Rattle.ws_laws.proofs.Walker.{GoesUntold, run-holds}
use Rattle.ws_promise_laws.proofs.Acting.{EachWaits, Waits, waits-stays, waits-heard, none-waits}
use Rattle.ws_pipe_laws.specs.pipes.PipeHistory.{shutdown, is_live, is_over, error_after, ended_by, came_to_end, operation_course, no_course, course_then, effect_course, run_course, effect_moment, step_moments, run_moments, Course}
use Rattle.ws_pipe_laws.specs.pipes.PipeMoves.{starting, Move, MoveRests, MoveWaits, MoveActs, MoveEnds, MoveFinishes, is_idle, are_idle, acted, dest_aborted, signalled, end_effects, signal_forgets, result_by}
use Rattle.ws_pipe_laws.specs.pipes.PipeReads.{HasEnded, WithoutAction, AfterAction, IsCourseAt}
use Rattle.ws_pipe_laws.proofs.pipes.Courses.{place_same, each_pipe_has_a_course}
use Rattle.ws_pipe_laws.proofs.pipes.Moves.{each_pipe_moves}
use Rattle.ws_pipe_laws.proofs.writes.Orderly.{moment, moments_history}
use Rattle.ws_end_laws.specs.ends.PromiseEnds.{outcome_of_end}
use Rattle.ws_end_laws.proofs.ends.PromiseEnds.{each_promise_is_open_until_the_end}
use Rattle.ws_end_laws.proofs.hosts.Acts.{NotOf}
use Rattle.ws_end_laws.proofs.hosts.Called.{place-grows}
use Rattle.ws_end_laws.proofs.hosts.Making.{Adds, call-adds}
use Rattle.ws_end_laws.proofs.hosts.PipedRows.{effect_ends}
use Rattle.ws_end_laws.specs.successes.Heard.{ItsAction, heard_in, effect_heard, promises_heard, Among, IsOutcome, EachPipeEndsAsItsAction}
use Rattle.ws_end_laws.proofs.successes.Reacts.{outcome-keeps}
use Rattle.ws_end_laws.proofs.successes.Hears.{Fits, caused-fit, none-heard}
use Rattle.ws_laws.proofs.Truth.{false_true}
use Rattle.ws_end_laws.proofs.hosts.Places.{other_there, place-new, self, told_acting}
use Rattle.ws_end_laws.proofs.successes.Hearing.{Hearing, call-keeps, empty-hearing, heard-hearing, hearing-goes, keeps-row, one_heard, told_so}

module _ (p : PipeId) where
  -- the ends in these moments
  abbrev pub ends_in : List Moment → List (Option Plain)
  ends_in ms = along [] ◌++◌ (effect_ends p) ms

  ends-append : (ms ns : List Moment) → ends_in (ms ++ ns) ≡ ends_in ms ++ ends_in ns
  ends-append [] ns = refl
  ends-append (m ∷ ms) ns = ap (λ (es : List (Option Plain)). effect_ends p m.effect m.found ++ es) (ends-append ms ns) ∙ sym (append_assoc (effect_ends p m.effect m.found) (ends_in ms) (ends_in ns))

  one_end : (ms : List Moment) (e : Effect) (s : Slots) → ends_in (ms ++ moment e s ∷ []) ≡ ends_in ms ++ effect_ends p e s
  one_end ms e s = ends-append ms (moment e s ∷ []) ∙ ap (λ (es : List (Option Plain)). ends_in ms ++ es) (append-nil (effect_ends p e s))

  along_moments : (ms : List Moment) → along [] ◌++◌ effect_moment ms ≡ ms
  along_moments [] = refl
  along_moments (m ∷ ms) = ap (λ (ns : List Moment). m ∷ ns) (along_moments ms)

  along_ends : (ms : List Moment) → (along no_course course_then (effect_course p) ms).ended ≡ ends_in ms
  along_ends [] = refl
  along_ends (m ∷ ms) = ap (λ (es : List (Option Plain)). effect_ends p m.effect m.found ++ es) (along_ends ms)

  pub over_ends : (xs : List Entry) (s : Slots) → (run_course p xs s).ended ≡ ends_in (run_moments xs s)
  over_ends [] s = refl
  over_ends (x ∷ xs) s =
      ap (λ (es : List (Option Plain)). es ++ (run_course p xs (step s x)).ended) (along_ends (moments_in s x) ∙ ap ends_in (sym (along_moments (moments_in s x))))
      ∙ (ap (λ (es : List (Option Plain)). ends_in (step_moments s x) ++ es) (over_ends xs (step s x)) ∙ sym (ends-append (step_moments s x) (run_moments xs (step s x))))

  -- what effects of a pipe give

  idle_none : (es : List Effect) → are_idle es ≡ true → heard_in ItsAction p es ≡ []
  idle_none [] n = refl
  idle_none (e ∷ es) n = first e (grind (arith, n)) ∙ idle_none es (grind (arith, n))
    where
      first : (e : Effect) → is_idle e ≡ true → heard_in ItsAction p (e ∷ es) ≡ heard_in ItsAction p es
      first e n = grind (arith, n)

  end_none : (x : pipe.Slots) (e : Option Plain) → heard_in ItsAction p (end_effects p x e) ≡ []
  end_none x e = by x.signal
    where
      by : (a : Option SignalId) → heard_in ItsAction p (signal_forgets p a ++ Settle x.promise (result_by e) ∷ []) ≡ []
      by None = refl
      by (Some a) = refl

  -- an action gives one
  pub acted_one : (ends : Ends) (y : pipe.Slots) (t : Table) (action : Action) → (d : PromiseId) × (heard_in ItsAction p (acted p ends y t action).out.effects ≡ d ∷ [])
  acted_one ends y t (AbortDest r) = by ends.dest_abort
    where
      by : (a : Option PromiseId) → (d : PromiseId) × (heard_in ItsAction p (dest_aborted p r y t a).out.effects ≡ d ∷ [])
      by (Some d) = (d, rw (self p) refl)
      by None = (next_id t, rw (self p) refl)
  acted_one ends y t (CancelSource r) = (next_id t, rw (self p) refl)
  acted_one ends y t CloseDest = (next_id t, rw (self p) refl)
  acted_one ends y t (BySignal r) = by y.prevent.abort y.prevent.cancel
    where
      by : (a c : Bool) → (d : PromiseId) × (heard_in ItsAction p (signalled p r y t a c).out.effects ≡ d ∷ [])
      by false false = (next_id (fresh (fresh t)), rw (self p) refl)
      by false true = (next_id (fresh t), rw (self p) refl)
      by true false = (next_id (fresh t), rw (self p) refl)
      by true true = (next_id t, rw (self p) refl)

  -- the story of the pipe in a place: the promises to which it is to react so, and its ends
  pub record Told (ds : List PromiseId) (ended : List (Option Plain)) (t : Table) (x : pipe.Slots) : Type 0 where
    pub live : is_live x.phase ≡ true → ds ≡ []
    pub late : is_live x.phase ≡ false → x.action ≢ None → (d : PromiseId) × (ds ≡ d ∷ [])
    pub before : is_over x.phase ≡ false → ended ≡ []
    pub over : is_over x.phase ≡ true → x.action ≢ None → (o : Result Plain Plain) × (IsOutcome t ds o × (ended ≡ error_after x.error o ∷ []))

  abbrev pub Story : List PromiseId → List (Option Plain) → Table → Option pipe.Slots → Type 0
  Story ds ended t None = (ds ≡ []) × (ended ≡ [])
  Story ds ended t (Some x) = Told ds ended t x

  story-keeps : (ds : List PromiseId) (ended : List (Option Plain)) (t z : Table) (o : Option pipe.Slots) → Keeps t z → Story ds ended t o → Story ds ended z o
  story-keeps ds ended t z None k w = w
  story-keeps ds ended t z (Some x) k w = record {
    live = w.live;
    late = w.late;
    before = w.before;
    over = λ e n. let a = w.over e n in (a.0, (outcome-keeps t z ds a.0 k a.1.0, a.1.1));
  }

  pub record Telling (h : List Moment) (s : Slots) (es : List Effect) : Type 0 where
    pub hearing : Hearing ItsAction p h s es
    pub waits : EachWaits s es
    pub story : Story (promises_heard ItsAction p h) (ends_in h) s.promises (slice_get s.pipes p.0)

  -- the pipe, by an effect

  some_action : (a b : Option Action) → a ≡ b → b ≢ None → a ≢ None
  some_action a b e n f = n (sym e ∙ f)

  came_none : (operation : PipeOperation) (x y : pipe.Slots) → y.phase ≡ x.phase → came_to_end operation x y ≡ []
  came_none operation x y e = by (is_over x.phase) (is_over y.phase) (ap is_over e)
    where
      by : (b c : Bool) → c ≡ b → (if not b && c then ended_by operation y ∷ [] else []) ≡ []
      by true c e = refl
      by false true e = absurd (cc)
      by false false e = refl

  came_open : (operation : PipeOperation) (x y : pipe.Slots) → is_over y.phase ≡ false → came_to_end operation x y ≡ []
  came_open operation x y e = by (is_over x.phase) (is_over y.phase) e
    where
      by : (b c : Bool) → c ≡ false → (if not b && c then ended_by operation y ∷ [] else []) ≡ []
      by true c e = refl
      by false true e = absurd (cc)
      by false false e = refl

  live_open : (phase : Phase) → is_live phase ≡ true → is_over phase ≡ false
  live_open phase e = grind (arith, e)

  module _ (ds : List PromiseId) (ended : List (Option Plain)) (operation : PipeOperation) (ends : Ends) (x : pipe.Slots) (t : Table) (w : Told ds ended t x)
      (acting : (o : Result Plain Plain) → operation ≡ ActionSettled o → x.phase ≡ Acting) (hears : (o : Result Plain Plain) → operation ≡ ActionSettled o → IsOutcome t ds o) where
    abbrev After : pipe.Acts → Type 0
    After b = Told (ds ++ heard_in ItsAction p b.out.effects) (ended ++ came_to_end operation x b.slots) t b.slots

    -- nothing is given
    with_none : (b : pipe.Acts) → heard_in ItsAction p b.out.effects ≡ [] → Told ds (ended ++ came_to_end operation x b.slots) t b.slots → After b
    with_none b e k = subst (λ (cs : List PromiseId). Told cs (ended ++ came_to_end operation x b.slots) t b.slots) (sym (ap (λ (cs : List PromiseId). ds ++ cs) e ∙ append-nil ds)) k

    unended : (b : pipe.Acts) (cs : List PromiseId) → came_to_end operation x b.slots ≡ [] → Told cs ended t b.slots → Told cs (ended ++ came_to_end operation x b.slots) t b.slots
    unended b cs e k = subst (λ (es : List (Option Plain)). Told cs es t b.slots) (sym (ap (λ (es : List (Option Plain)). ended ++ es) e ∙ append-nil ended)) k

    move-told : (b : pipe.Acts) → Move p ends operation x t b → After b
    move-told b (MoveRests f a e idle) =
        with_none b (idle_none b.out.effects idle) (unended b ds (came_none operation x b.slots f) (record {
          live = λ l. w.live (sym (ap is_live f) ∙ l);
          late = λ l n. w.late (sym (ap is_live f) ∙ l) (some_action x.action b.slots.action (sym a) n);
          before = λ l. w.before (sym (ap is_over f) ∙ l);
          over = λ l n. let k = w.over (sym (ap is_over f) ∙ l) (some_action x.action b.slots.action (sym a) n) in (k.0, (k.1.0, k.1.1 ∙ ap (λ (c : Option Plain). error_after c k.0 ∷ []) (sym e)));
        }))
    move-told b (MoveWaits f e m wf o) =
        let phase : b.slots.phase ≡ Waiting = ap (λ (y : pipe.Slots). y.phase) e in
        with_none b (ap (λ (z : Out). heard_in ItsAction p z.effects) o) (unended b ds (came_open operation x b.slots (ap is_over phase)) (record {
          live = λ l. w.live (ap is_live f);
          late = λ l n. false_true (is_live b.slots.phase) (ap is_live phase) l;
          before = λ l. w.before (ap is_over f);
          over = λ l n. false_true (is_over b.slots.phase) l (ap is_over phase);
        }))
    move-told b (MoveActs action y e m h o alike) =
        let phase : b.slots.phase ≡ Acting = alike.phase ∙ ap (λ (y : pipe.Slots). y.phase) e in
        let one = acted_one ends y t action in
        let heard : ds ++ heard_in ItsAction p b.out.effects ≡ one.0 ∷ [] =
        ap (λ (cs : List PromiseId). cs ++ heard_in ItsAction p b.out.effects) (w.live m.live) ∙ (ap (λ (z : pipe.Acts). heard_in ItsAction p z.out.effects) o ∙ one.1) in
        unended b (ds ++ heard_in ItsAction p b.out.effects) (came_open operation x b.slots (ap is_over phase)) (record {
          live = λ l. false_true (is_live b.slots.phase) l (ap is_live phase);
          late = λ l n. (one.0, heard);
          before = λ l. w.before (live_open x.phase m.live);
          over = λ l n. false_true (is_over b.slots.phase) l (ap is_over phase);
        })
    move-told b (MoveEnds e m h o) =
        let phase : b.slots.phase ≡ Over = ap (λ (y : pipe.Slots). y.phase) e in
        let action : b.slots.action ≡ None = ap (λ (y : pipe.Slots). y.action) e in
        with_none b (ap (λ (z : Out). heard_in ItsAction p z.effects) o ∙ end_none x b.slots.error) (record {
          live = λ l. false_true (is_live b.slots.phase) l (ap is_live phase);
          late = λ l n. absurd (n action);
          before = λ l. false_true (is_over b.slots.phase) (ap is_over phase) l;
          over = λ l n. absurd (n action);
        })
    move-told b (MoveFinishes r f e o) =
        let was : x.phase ≡ Acting = acting r f in
        let phase : b.slots.phase ≡ Over = ap (λ (y : pipe.Slots). y.phase) e in
        let action : b.slots.action ≡ x.action = ap (λ (y : pipe.Slots). y.action) e in
        let error : b.slots.error ≡ x.error = ap (λ (y : pipe.Slots). y.error) e in
        let came : came_to_end operation x b.slots ≡ error_after b.slots.error r ∷ [] = now b r was phase f in
        with_none b (ap (λ (z : Out). heard_in ItsAction p z.effects) o ∙ end_none x (error_after x.error r)) (record {
          live = λ l. false_true (is_live b.slots.phase) l (ap is_live phase);
          late = λ l n. w.late (ap is_live was) (some_action x.action b.slots.action (sym action) n);
          before = λ l. false_true (is_over b.slots.phase) (ap is_over phase) l;
          over = λ l n. (r, (hears r f, ap (λ (es : List (Option Plain)). es ++ came_to_end operation x b.slots) (w.before (ap is_over was)) ∙ came));
        })
      where
        now : (b : pipe.Acts) (r : Result Plain Plain) → x.phase ≡ Acting → b.slots.phase ≡ Over → operation ≡ ActionSettled r → came_to_end operation x b.slots ≡ error_after b.slots.error r ∷ []
        now b r was phase f = rw (was, phase, f) refl

  -- the story goes on by an effect

  abbrev Goes : List PromiseId → List (Option Plain) → Slots → Effect → Type 0
  Goes ds ended s e = Story (ds ++ effect_heard ItsAction p e s) (ended ++ effect_ends p e s) (row e s).slots.promises (slice_get (row e s).slots.pipes p.0)

  own_ends : (operation : PipeOperation) (s : Slots) → effect_ends p (Pipe p operation) s ≡ came_to_end operation (pipe_at p s) (pipe_at p (row (Pipe p operation) s).slots)
  own_ends operation s = ap (λ (c : Bool). (if c then operation_course operation (pipe_at p s) (pipe_at p (row (Pipe p operation) s).slots) else no_course).ended) (self p)

  own-story : (ds : List PromiseId) (ended : List (Option Plain)) (operation : PipeOperation) (s : Slots) (es : List Effect) (o : Option pipe.Slots) → slice_get s.pipes p.0 ≡ o → Waits p s (Pipe p operation ∷ es)
      → ((r : Result Plain Plain) → operation ≡ ActionSettled r → IsOutcome s.promises ds r) → Story ds ended s.promises o → Goes ds ended s (Pipe p operation)
  unfolding row
  own-story ds ended operation s es None e wt hears w =
      let d : Done = row (Pipe p operation) s in
      let same : d ≡ on_pipe_at (λ ends. pipe_operation p ends operation) p s None = ap (on_pipe_at (λ ends. pipe_operation p ends operation) p s) e in
      let place : slice_get d.slots.pipes p.0 ≡ None = ap (λ (c : Done). slice_get c.slots.pipes p.0) same ∙ e in
      let heard : effect_heard ItsAction p (Pipe p operation) s ≡ [] = ap (λ (c : Done). heard_in ItsAction p c.caused) same in
      let ends : effect_ends p (Pipe p operation) s ≡ [] = own_ends operation s ∙ came_none operation (pipe_at p s) (pipe_at p d.slots) (ap (λ (c : Option pipe.Slots). (as_pipe c).phase) (place ∙ sym e)) in
      subst (Story (ds ++ effect_heard ItsAction p (Pipe p operation) s) (ended ++ effect_ends p (Pipe p operation) s) d.slots.promises) (sym place)
      (ap (λ (cs : List PromiseId). ds ++ cs) heard ∙ (append-nil ds ∙ w.0), ap (λ (cs : List (Option Plain)). ended ++ cs) ends ∙ (append-nil ended ∙ w.1))
  own-story ds ended operation s es (Some x) e wt hears w =
      let ends : Ends = ends_at x s in
      let b : pipe.Acts = pipe_operation p ends operation (starting x s.promises) in
      let d : Done = put_pipe p s b in
      let same : row (Pipe p operation) s ≡ d = ap (on_pipe_at (λ ends. pipe_operation p ends operation) p s) e in
      let there : slice_get d.slots.pipes p.0 ≡ Some b.slots = place_same s.pipes p.0 x b.slots e in
      let after = move-told ds ended operation ends x s.promises w (told_acting p s operation es x e wt) hears b (each_pipe_moves p ends operation x s.promises) in
      let told : effect_ends p (Pipe p operation) s ≡ came_to_end operation x b.slots =
      own_ends operation s
      ∙ (ap (λ (y : pipe.Slots). came_to_end operation y (pipe_at p (row (Pipe p operation) s).slots)) (ap as_pipe e)
      ∙ ap (λ (y : pipe.Slots). came_to_end operation x y) (ap (λ (c : Done). pipe_at p c.slots) same ∙ ap as_pipe there)) in
      let keeps : Keeps s.promises d.slots.promises = subst (λ (c : Done). Keeps s.promises c.slots.promises) same (keeps-row (Pipe p operation) s) in
      let k : Story (ds ++ heard_in ItsAction p d.caused) (ended ++ came_to_end operation x b.slots) d.slots.promises (slice_get d.slots.pipes p.0) =
      subst (Story (ds ++ heard_in ItsAction p d.caused) (ended ++ came_to_end operation x b.slots) d.slots.promises) (sym there) (story-keeps (ds ++ heard_in ItsAction p d.caused) (ended ++ came_to_end operation x b.slots) s.promises d.slots.promises (Some b.slots) keeps after) in
      subst (λ (c : Done). Story (ds ++ heard_in ItsAction p c.caused) (ended ++ effect_ends p (Pipe p operation) s) c.slots.promises (slice_get c.slots.pipes p.0)) (sym same)
      (subst (λ (cs : List (Option Plain)). Story (ds ++ heard_in ItsAction p d.caused) (ended ++ cs) d.slots.promises (slice_get d.slots.pipes p.0)) (sym told) k)

  other_ends : (e : Effect) (s : Slots) → NotOf p e → effect_ends p e s ≡ []
  other_ends (Pipe q operation) s n = ap (λ (b : Bool). (if b then operation_course operation (pipe_at q s) (pipe_at q (row (Pipe q operation) s).slots) else no_course).ended) n
  other_ends _ s n = refl

  -- an effect that isn't an operation of the pipe
  none_heard : (e : Effect) (s : Slots) (Q : PromiseId → Type 0) (U : Result Plain Plain → Type 0) → NotOf p e → Fits ItsAction p Q U e → effect_heard ItsAction p e s ≡ []
  none_heard (Pipe q operation) s Q U n f = none-heard ItsAction p U (row (Pipe q operation) s).caused (caused-fit ItsAction p (λ q. ⊥) U Q U (Pipe q operation) s (λ m d. false_true (nat_eq p.0 q.0) m n) f)
  none_heard e s Q U n f = none-heard ItsAction p U (row e s).caused (caused-fit ItsAction p (λ q. ⊥) U Q U e s tt f)

  other-story : (ds : List PromiseId) (ended : List (Option Plain)) (s : Slots) (e : Effect) (Q : PromiseId → Type 0) (U : Result Plain Plain → Type 0) → NotOf p e → Fits ItsAction p Q U e → Story ds ended s.promises (slice_get s.pipes p.0) → Goes ds ended s e
  other-story ds ended s e Q U n f w =
      let z : Slots = (row e s).slots in
      let heard = none_heard e s Q U n f in
      let ends = other_ends e s n in
      subst (λ (cs : List PromiseId). Story cs (ended ++ effect_ends p e s) z.promises (slice_get z.pipes p.0)) (sym (ap (λ (cs : List PromiseId). ds ++ cs) heard ∙ append-nil ds))
      (subst (λ (cs : List (Option Plain)). Story ds cs z.promises (slice_get z.pipes p.0)) (sym (ap (λ (cs : List (Option Plain)). ended ++ cs) ends ∙ append-nil ended))
      (subst (Story ds ended z.promises) (sym (other_there p e s n)) (story-keeps ds ended s.promises z.promises (slice_get s.pipes p.0) (keeps-row e s) w)))

  pipe-story : (ds : List PromiseId) (ended : List (Option Plain)) (s : Slots) (q : PipeId) (operation : PipeOperation) (es : List Effect) (same : Bool) → nat_eq p.0 q.0 ≡ same → EachWaits s (Pipe q operation ∷ es) → Fits ItsAction p (λ q. Among q ds) (λ o. IsOutcome s.promises ds o) (Pipe q operation)
      → Story ds ended s.promises (slice_get s.pipes p.0) → Goes ds ended s (Pipe q operation)
  pipe-story ds ended s q operation es false n wt f w = other-story ds ended s (Pipe q operation) (λ q. Among q ds) (λ o. IsOutcome s.promises ds o) n f w
  pipe-story ds ended s q operation es true n wt f w =
      subst (λ (r : PipeId). EachWaits s (Pipe r operation ∷ es) → Fits ItsAction p (λ q. Among q ds) (λ o. IsOutcome s.promises ds o) (Pipe r operation) → Goes ds ended s (Pipe r operation)) (ap (λ (n : ℕ). record { 0 = n }) (eq_numbers p.0 q.0 n))
      (λ wt f. own-story ds ended operation s es (slice_get s.pipes p.0) refl (wt p) (λ r e. told_so ItsAction p ds s (Pipe p operation) f r (ap (λ (c : PipeOperation). Pipe p c) e)) w) wt f

  row-story : (ds : List PromiseId) (ended : List (Option Plain)) (s : Slots) (e : Effect) (es : List Effect) → EachWaits s (e ∷ es) → Fits ItsAction p (λ q. Among q ds) (λ o. IsOutcome s.promises ds o) e → Story ds ended s.promises (slice_get s.pipes p.0) → Goes ds ended s e
  row-story ds ended s (Pipe q operation) es wt f w = pipe-story ds ended s q operation es (nat_eq p.0 q.0) refl wt f w
  row-story ds ended s e es wt f w = other-story ds ended s e (λ q. Among q ds) (λ o. IsOutcome s.promises ds o) tt f w

  row-telling : (h : List Moment) (s : Slots) (e : Effect) (es : List Effect) → Telling h s (e ∷ es) → Telling (h ++ moment e s ∷ []) (row e s).slots ((row e s).caused ++ es)
  row-telling h s e es k =
      let z : Slots = (row e s).slots in
      let ds : List PromiseId = promises_heard ItsAction p h in
      let ended : List (Option Plain) = ends_in h in
      let story = row-story ds ended s e es k.waits k.hearing.fits.0 k.story in
      let names : promises_heard ItsAction p (h ++ moment e s ∷ []) ≡ ds ++ effect_heard ItsAction p e s = one_heard ItsAction p h e s in
      let last : ends_in (h ++ moment e s ∷ []) ≡ ended ++ effect_ends p e s = one_end h e s in
      record {
        hearing = (hearing-goes ItsAction p).row h s e es k.hearing;
        waits = waits-stays.row s e es k.waits;
        story = subst (λ (cs : List PromiseId). Story cs (ends_in (h ++ moment e s ∷ [])) z.promises (slice_get z.pipes p.0)) (sym names)
            (subst (λ (cs : List (Option Plain)). Story (ds ++ effect_heard ItsAction p e s) cs z.promises (slice_get z.pipes p.0)) (sym last) story);
      }

  -- where no effect was performed

  new-told : (ds : List PromiseId) (ended : List (Option Plain)) (t : Table) (y : pipe.Slots) → y.phase ≡ Flowing → (ds ≡ []) × (ended ≡ []) → Told ds ended t y
  new-told ds ended t y e w = record {
    live = λ l. w.0;
    late = λ l n. false_true (is_live y.phase) (ap is_live e) l;
    before = λ l. w.1;
    over = λ l n. false_true (is_over y.phase) l (ap is_over e);
  }

  grown-story : (ds : List PromiseId) (ended : List (Option Plain)) (t : Table) (ps : List pipe.Slots) (y : pipe.Slots) (o : Option pipe.Slots) → slice_get ps p.0 ≡ o → y.phase ≡ Flowing → Story ds ended t o → Story ds ended t (slice_get (ps ++ y ∷ []) p.0)
  grown-story ds ended t ps y (Some x) e flows w = subst (Story ds ended t) (sym (place-grows ps (y ∷ []) p.0 x e)) w
  grown-story ds ended t ps y None e flows w = by (place-new ps y p.0 e)
    where
      by : (slice_get (ps ++ y ∷ []) p.0 ≡ None) ⊎ (slice_get (ps ++ y ∷ []) p.0 ≡ Some y) → Story ds ended t (slice_get (ps ++ y ∷ []) p.0)
      by (inl f) = subst (Story ds ended t) (sym f) w
      by (inr f) = subst (Story ds ended t) (sym f) (new-told ds ended t y flows w)

  call-story : (ds : List PromiseId) (ended : List (Option Plain)) (c : Call) (s : Slots) → Story ds ended s.promises (slice_get s.pipes p.0) → Story ds ended (begin c s).done.slots.promises (slice_get (begin c s).done.slots.pipes p.0)
  call-story ds ended c s w = by (call-adds c s)
    where
      t : Table
      t = (begin c s).done.slots.promises

      k : Story ds ended t (slice_get s.pipes p.0)
      k = story-keeps ds ended s.promises t (slice_get s.pipes p.0) (call-keeps c s) w

      by : Adds s (begin c s) → Story ds ended t (slice_get (begin c s).done.slots.pipes p.0)
      by (inl e) = subst (λ (ps : List pipe.Slots). Story ds ended t (slice_get ps p.0)) (sym e) k
      by (inr new) = subst (λ (ps : List pipe.Slots). Story ds ended t (slice_get ps p.0)) (sym new.made) (grown-story ds ended t s.pipes new.slots (slice_get s.pipes p.0) refl new.flows k)

  keeps-story : (h : List Moment) (s : Slots) (t : Table) → Keeps s.promises t → Telling h s [] → Story (promises_heard ItsAction p h) (ends_in h) t (slice_get s.pipes p.0)
  keeps-story h s t keeps k = story-keeps (promises_heard ItsAction p h) (ends_in h) s.promises t (slice_get s.pipes p.0) keeps k.story

  telling-goes : GoesUntold ◌++◌ effect_moment Telling
  telling-goes = record {
    row = row-telling;
    call = λ h s c k. record {
      hearing = (hearing-goes ItsAction p).call h s c k.hearing;
      waits = waits-stays.call s c k.waits;
      story = call-story (promises_heard ItsAction p h) (ends_in h) c s k.story;
    };
    job = λ h s job e k. record {
      hearing = (hearing-goes ItsAction p).job h s job e k.hearing;
      waits = waits-stays.job s job e k.waits;
      story = keeps-story h s (after_next_job s.promises) (keeps-next s.promises) k;
    };
    answered = λ h s q k. record {
      hearing = (hearing-goes ItsAction p).answered h s q k.hearing;
      waits = waits-stays.answered s q k.waits;
      story = keeps-story h s (watch q s.promises) (keeps-watch q s.promises) k;
    };
    older = λ h s k. record { hearing = (hearing-goes ItsAction p).older h s k.hearing; waits = waits-stays.older s k.waits; story = k.story };
  }

  heard-telling : (h : List Moment) (s : Slots) → Telling h s [] → Telling h (after_event s) []
  heard-telling h s k = record {
    hearing = heard-hearing ItsAction p h s k.hearing;
    waits = waits-heard s k.waits;
    story = keeps-story h s (after_event s).promises (keeps-entries s.promises (after_event s).promises refl (λ m. m)) k;
  }

  empty-telling : Telling [] empty []
  empty-telling = record { hearing = empty-hearing ItsAction p; waits = λ q. none-waits q; story = (refl, refl) }

  run-telling : (entries : List Entry) → Telling (run_moments entries empty) (run entries empty) []
  run-telling entries = run-holds [] ◌++◌ moments_history effect_moment Telling telling-goes (record { heard = heard-telling }) entries empty empty-telling

-- how it ends

some_none : (action : Action) → ◌≡◌ {A = Option Action} (Some action) None → ⊥
some_none action e = absurd (cc)

among_one : (q d : PromiseId) → Among q (d ∷ []) → q ≡ d
among_one q d (inl e) = e
among_one q d (inr k) = absurd k

pub each_pipe_ends_as_its_action : EachPipeEndsAsItsAction
each_pipe_ends_as_its_action entries p x action there over is =
    let s : Slots = run entries empty in
    let k = run-telling p entries in
    let ds : List PromiseId = promises_heard ItsAction p (run_moments entries empty) in
    let w : Told p ds (ends_in p (run_moments entries empty)) s.promises x = subst (Story p ds (ends_in p (run_moments entries empty)) s.promises) there k.story in
    let acts : x.action ≢ None = λ n. some_none action (sym is ∙ n) in
    let one = w.late (over_late x.phase over) acts in
    let end = w.over over acts in
    let ended : (run_course p entries empty).ended ≡ error_after x.error end.0 ∷ [] = over_ends p entries empty ∙ end.1.1 in
    let same : end.1.0.promise ≡ one.0 = among_one end.1.0.promise one.0 (subst (Among end.1.0.promise) one.1 end.1.0.among) in
    let course = has_course (subst (IsCourseAt (run_course p entries empty)) there (each_pipe_has_a_course entries p)).over in
    let told = (each_promise_is_open_until_the_end entries p x there).after over in
    record {
      promise = one.0;
      outcome = end.0;
      one = one.1;
      settled = subst (λ (d : PromiseId). outcome_at s.promises d ≡ Some (settled end.0)) same end.1.0.outcome;
      shutdown = (course acts).0;
      acted = (course acts).1;
      ended = ended;
      told = told.1.1 ∙ ap (λ (e : Option Plain). Some (outcome_of_end e)) (one_end_of told.0 (error_after x.error end.0) (sym told.1.0 ∙ ended));
    }
  where
    over_late : (phase : Phase) → is_over phase ≡ true → is_live phase ≡ false
    over_late phase e = grind (arith, e)

    one_end_of : (a b : Option Plain) → ◌≡◌ {A = List (Option Plain)} (a ∷ []) (b ∷ []) → a ≡ b
    one_end_of a b e = cc

    is_over_phase : (phase : Phase) → is_over phase ≡ true → phase ≡ Over
    is_over_phase phase e = grind (arith, e)

    has_course : (x.phase ≡ Over → HasEnded (run_course p entries empty) x) → x.action ≢ None → ((run_course p entries empty).shutdowns ≡ shutdown x.action x.error ∷ []) × ((run_course p entries empty).acted ≡ x.action ∷ [])
    has_course f n = by (f (is_over_phase x.phase over))
      where
        by : HasEnded (run_course p entries empty) x → ((run_course p entries empty).shutdowns ≡ shutdown x.action x.error ∷ []) × ((run_course p entries empty).acted ≡ x.action ∷ [])
        by (WithoutAction e h) = absurd (n e)
        by (AfterAction o e h) = (ap (λ (c : Course). c.shutdowns) h, ap (λ (c : Course). c.acted) h)
