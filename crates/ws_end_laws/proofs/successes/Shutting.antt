-- Where a pipe shut down, and how its promise is answered, over every run (`each_pipe_ends_as_it_shut_down`).
use Rattle.std.proofs.Common.{◌≡◌, ◌⊎◌, inl, inr, ℕ, Bool, true, false, nat_eq, List, [], ◌∷◌, ◌++◌, Option, Some, None, Result, Ok, Err, slice_get, refl, sym, ap, subst, ◌∙◌, arith, append_assoc}
use Rattle.ws_value.specs.declared.{ids.PipeId.{PipeId}}
use Rattle.ws_value.specs.declared.value.{Plain.{Plain}}
use Rattle.ws_steps.specs.declared.calls.{Call.{Call}}
use Rattle.ws_steps.specs.declared.effects.Effect.{Effect}
use Rattle.ws_steps.specs.declared.effects.Effect.TheVariants.{Pipe}
use Rattle.ws_steps.specs.declared.pipes.{Action.{Action}, Ends.{Ends}, Phase.{Phase}, Phase.TheVariants.{Flowing, Waiting, Acting, Over}, PipeOperation.{PipeOperation}, PipeOperation.TheVariants.{ActionSettled}}
use Rattle.ws_steps.specs.Calls.{begin}
use Rattle.ws_steps.specs.Operations.{pipe_operation}
use Rattle.ws_steps.specs.Pipes as pipe
use Rattle.ws_steps.specs.Run.{Entry, run}
use Rattle.ws_steps.specs.Slots.{Slots, Done, empty, as_pipe, pipe_at, ends_at, put_pipe, on_pipe_at}
use Rattle.ws_steps.specs.Turns.{Moment, row}
use Rattle.ws_laws.proofs.Tables.{eq_numbers}
use Rattle.ws_laws.proofs.Walker.{GoesUntold, run-holds}
use Rattle.ws_promise_laws.proofs.Acting.{EachWaits, Waits, waits-stays, waits-heard, none-waits}
use Rattle.ws_pipe_laws.specs.pipes.PipeHistory.{shutdown, shutdown_by, has_closed, is_live, is_over, error_after, run_course, effect_moment, run_moments, Course}
use Rattle.ws_pipe_laws.specs.pipes.PipeMoves.{starting, Move, MoveRests, MoveWaits, MoveActs, MoveEnds, MoveFinishes, IsNamed}
use Rattle.ws_pipe_laws.specs.pipes.PipeReads.{HasEnded, WithoutAction, AfterAction, IsCourseAt}
use Rattle.ws_pipe_laws.proofs.pipes.Courses.{place_same, each_pipe_has_a_course}
use Rattle.ws_pipe_laws.proofs.pipes.Moves.{each_pipe_moves}
use Rattle.ws_pipe_laws.proofs.writes.Orderly.{moment, moments_history}
use Rattle.ws_end_laws.specs.ends.PromiseEnds.{outcome_of_end}
use Rattle.ws_end_laws.proofs.ends.PromiseEnds.{each_promise_is_open_until_the_end}
use Rattle.ws_end_laws.proofs.hosts.Acts.{NotOf}
use Rattle.ws_end_laws.proofs.hosts.Called.{place-grows}
use Rattle.ws_end_laws.proofs.hosts.Making.{Adds, call-adds}
use Rattle.ws_end_laws.specs.successes.Heard.{ShutDown, IsAnswered, WithNoAction, ByItsAction, EndsAsItShutDown, EachPipeEndsAsItShutDown}
use Rattle.ws_steps.specs.Pipes.{is_flowing}
use Rattle.ws_steps.specs.declared.pipes.Prevent.{Prevent}
use Rattle.ws_end_laws.proofs.ends.PromiseEnds.{ended-fulfilled}
use Rattle.ws_end_laws.proofs.successes.Acting.{acted-for}
use Rattle.ws_end_laws.proofs.successes.Ending.{each_pipe_ends_as_its_action}
use Rattle.ws_laws.proofs.Truth.{false_true}
use Rattle.ws_end_laws.proofs.hosts.Places.{other_there, place-new, told_acting}

-- a shutdown without an error comes of a source that has closed
closed_named : (prevent : Prevent) (ends : Ends) (operation : PipeOperation) (a : Option Action) (e : Option Plain) → shutdown_by prevent ends operation ≡ Some (shutdown a e) → e ≡ None → has_closed ends.source_state ≡ true
closed_named prevent ends operation a e f n = grind arith

module _ (p : PipeId) where
  abbrev Story : List Moment → Option pipe.Slots → Type 0
  Story h None = Unit {0}
  Story h (Some x) = is_flowing x.phase ≡ false → ShutDown p x h

  -- it stays
  later : (h : List Moment) (m : Moment) (x y : pipe.Slots) → y.action ≡ x.action → y.error ≡ x.error → ShutDown p x h → ShutDown p y (h ++ m ∷ [])
  later h m x y a e k = record {
    past = k.past;
    moment = k.moment;
    rest = k.rest ++ m ∷ [];
    operation = k.operation;
    split = ap (λ (ms : List Moment). ms ++ m ∷ []) k.split ∙ append_assoc k.past (k.moment ∷ k.rest) (m ∷ []);
    effect = k.effect;
    flowing = k.flowing;
    named = k.named ∙ (ap (λ (c : Option Action). Some (shutdown c x.error)) (sym a) ∙ ap (λ (c : Option Plain). Some (shutdown y.action c)) (sym e));
  }

  later-story : (h : List Moment) (m : Moment) (o : Option pipe.Slots) → Story h o → Story (h ++ m ∷ []) o
  later-story h m None k = tt
  later-story h m (Some x) k = λ f. later h m x x refl refl (k f)

  module _ (h : List Moment) (operation : PipeOperation) (s : Slots) (x : pipe.Slots) (there : slice_get s.pipes p.0 ≡ Some x) (was : Story h (Some x)) where
    abbrev ends : Ends
    ends = ends_at x s

    abbrev m : Moment
    m = moment (Pipe p operation) s

    now : (y : pipe.Slots) → x.phase ≡ Flowing → shutdown_by x.prevent ends operation ≡ Some (shutdown y.action y.error) → ShutDown p y (h ++ m ∷ [])
    now y f n =
        let at : pipe_at p s ≡ x = ap as_pipe there in
        record {
          past = h;
          moment = m;
          rest = [];
          operation = operation;
          split = refl;
          effect = refl;
          flowing = ap (λ (z : pipe.Slots). z.phase) at ∙ f;
          named = subst (λ (z : pipe.Slots). shutdown_by z.prevent (ends_at z s) operation ≡ Some (shutdown y.action y.error)) (sym at) n;
        }

    named_now : (y : pipe.Slots) (phase : Phase) → x.phase ≡ phase → IsNamed ends operation x y → ShutDown p y (h ++ m ∷ [])
    named_now y Flowing f n = now y f (n.starts f)
    named_now y Waiting f n = let same = n.keeps f in later h m x y same.0 same.1 (was (ap is_flowing f))
    named_now y Acting f n = false_true (is_live x.phase) n.live (ap is_live f)
    named_now y Over f n = false_true (is_live x.phase) n.live (ap is_live f)

    as_alike : (y z : pipe.Slots) → z.action ≡ y.action → z.error ≡ y.error → ShutDown p y (h ++ m ∷ []) → ShutDown p z (h ++ m ∷ [])
    as_alike y z a e k = record {
      past = k.past;
      moment = k.moment;
      rest = k.rest;
      operation = k.operation;
      split = k.split;
      effect = k.effect;
      flowing = k.flowing;
      named = k.named ∙ (ap (λ (c : Option Action). Some (shutdown c y.error)) (sym a) ∙ ap (λ (c : Option Plain). Some (shutdown z.action c)) (sym e));
    }

    move-shut : (b : pipe.Acts) → ((r : Result Plain Plain) → operation ≡ ActionSettled r → x.phase ≡ Acting) → Move p ends operation x s.promises b → Story (h ++ m ∷ []) (Some b.slots)
    move-shut b acting (MoveRests f a e idle) = λ l. later h m x b.slots a e (was (sym (ap is_flowing f) ∙ l))
    move-shut b acting (MoveWaits f e n w o) = λ l. named_now b.slots x.phase refl n
    move-shut b acting (MoveActs action y e n hw o alike) = λ l. as_alike y b.slots alike.action alike.error (named_now y x.phase refl n)
    move-shut b acting (MoveEnds e n hw o) = λ l. named_now b.slots x.phase refl n
    move-shut b acting (MoveFinishes r f e o) =
        λ l. later h m x b.slots (ap (λ (y : pipe.Slots). y.action) e) (ap (λ (y : pipe.Slots). y.error) e) (was (ap is_flowing (acting r f)))

  abbrev Goes : List Moment → Slots → Effect → Type 0
  Goes h s e = Story (h ++ moment e s ∷ []) (slice_get (row e s).slots.pipes p.0)

  own-story : (h : List Moment) (operation : PipeOperation) (s : Slots) (es : List Effect) (o : Option pipe.Slots) → slice_get s.pipes p.0 ≡ o → Waits p s (Pipe p operation ∷ es) → Story h o → Goes h s (Pipe p operation)
  unfolding row
  own-story h operation s es None e wt w =
      let same : row (Pipe p operation) s ≡ on_pipe_at (λ ends. pipe_operation p ends operation) p s None = ap (on_pipe_at (λ ends. pipe_operation p ends operation) p s) e in
      let place : slice_get (row (Pipe p operation) s).slots.pipes p.0 ≡ None = ap (λ (c : Done). slice_get c.slots.pipes p.0) same ∙ e in
      subst (Story (h ++ moment (Pipe p operation) s ∷ [])) (sym place) tt
  own-story h operation s es (Some x) e wt w =
      let b : pipe.Acts = pipe_operation p (ends_at x s) operation (starting x s.promises) in
      let d : Done = put_pipe p s b in
      let same : row (Pipe p operation) s ≡ d = ap (on_pipe_at (λ ends. pipe_operation p ends operation) p s) e in
      let there : slice_get d.slots.pipes p.0 ≡ Some b.slots = place_same s.pipes p.0 x b.slots e in
      let place : slice_get (row (Pipe p operation) s).slots.pipes p.0 ≡ Some b.slots = ap (λ (c : Done). slice_get c.slots.pipes p.0) same ∙ there in
      subst (Story (h ++ moment (Pipe p operation) s ∷ [])) (sym place) (move-shut h operation s x e w b (told_acting p s operation es x e wt) (each_pipe_moves p (ends_at x s) operation x s.promises))

  other-story : (h : List Moment) (s : Slots) (e : Effect) → NotOf p e → Story h (slice_get s.pipes p.0) → Goes h s e
  other-story h s e n w = subst (Story (h ++ moment e s ∷ [])) (sym (other_there p e s n)) (later-story h (moment e s) (slice_get s.pipes p.0) w)

  pipe-story : (h : List Moment) (s : Slots) (q : PipeId) (operation : PipeOperation) (es : List Effect) (same : Bool) → nat_eq p.0 q.0 ≡ same → EachWaits s (Pipe q operation ∷ es) → Story h (slice_get s.pipes p.0) → Goes h s (Pipe q operation)
  pipe-story h s q operation es false n wt w = other-story h s (Pipe q operation) n w
  pipe-story h s q operation es true n wt w =
      subst (λ (r : PipeId). EachWaits s (Pipe r operation ∷ es) → Goes h s (Pipe r operation)) (ap (λ (n : ℕ). record { 0 = n }) (eq_numbers p.0 q.0 n)) (λ wt. own-story h operation s es (slice_get s.pipes p.0) refl (wt p) w) wt

  row-story : (h : List Moment) (s : Slots) (e : Effect) (es : List Effect) → EachWaits s (e ∷ es) → Story h (slice_get s.pipes p.0) → Goes h s e
  row-story h s (Pipe q operation) es wt w = pipe-story h s q operation es (nat_eq p.0 q.0) refl wt w
  row-story h s e es wt w = other-story h s e tt w

  abbrev Is : List Moment → Slots → List Effect → Type 0
  Is h s es = EachWaits s es × Story h (slice_get s.pipes p.0)

  new-shut : (h : List Moment) (y : pipe.Slots) → y.phase ≡ Flowing → Story h (Some y)
  new-shut h y e = λ f. false_true (is_flowing y.phase) (ap is_flowing e) f

  grown-story : (h : List Moment) (ps : List pipe.Slots) (y : pipe.Slots) (o : Option pipe.Slots) → slice_get ps p.0 ≡ o → y.phase ≡ Flowing → Story h o → Story h (slice_get (ps ++ y ∷ []) p.0)
  grown-story h ps y (Some x) e flows w = subst (Story h) (sym (place-grows ps (y ∷ []) p.0 x e)) w
  grown-story h ps y None e flows w = by (place-new ps y p.0 e)
    where
      by : (slice_get (ps ++ y ∷ []) p.0 ≡ None) ⊎ (slice_get (ps ++ y ∷ []) p.0 ≡ Some y) → Story h (slice_get (ps ++ y ∷ []) p.0)
      by (inl f) = subst (Story h) (sym f) tt
      by (inr f) = subst (Story h) (sym f) (new-shut h y flows)

  call-story : (h : List Moment) (c : Call) (s : Slots) → Story h (slice_get s.pipes p.0) → Story h (slice_get (begin c s).done.slots.pipes p.0)
  call-story h c s w = by (call-adds c s)
    where
      by : Adds s (begin c s) → Story h (slice_get (begin c s).done.slots.pipes p.0)
      by (inl e) = subst (λ (ps : List pipe.Slots). Story h (slice_get ps p.0)) (sym e) w
      by (inr new) = subst (λ (ps : List pipe.Slots). Story h (slice_get ps p.0)) (sym new.made) (grown-story h s.pipes new.slots (slice_get s.pipes p.0) refl new.flows w)

  goes : GoesUntold ◌++◌ effect_moment Is
  goes = record {
    row = λ h s e es k. (waits-stays.row s e es k.0, row-story h s e es k.0 k.1);
    call = λ h s c k. (waits-stays.call s c k.0, call-story h c s k.1);
    job = λ h s job e k. (waits-stays.job s job e k.0, k.1);
    answered = λ h s q k. (waits-stays.answered s q k.0, k.1);
    older = λ h s k. (waits-stays.older s k.0, k.1);
  }

  pub run-shut : (entries : List Entry) → Story (run_moments entries empty) (slice_get (run entries empty).pipes p.0)
  run-shut entries = (run-holds [] ◌++◌ moments_history effect_moment Is goes (record { heard = λ h s k. (waits-heard s k.0, k.1) }) entries empty ((λ q. none-waits q), tt)).1

-- how it is answered

over_still : (phase : Phase) → is_over phase ≡ true → is_flowing phase ≡ false
over_still phase e = grind (arith, e)

over_late : (phase : Phase) → is_over phase ≡ true → is_live phase ≡ false
over_late phase e = grind (arith, e)

one_of : (a b : Option Plain) → ◌≡◌ {A = List (Option Plain)} (a ∷ []) (b ∷ []) → a ≡ b
one_of a b e = cc

no_error : (e : Option Plain) (o : Result Plain Plain) → error_after e o ≡ None → e ≡ None
no_error e (Ok v) n = n
no_error e (Err r) n = absurd (cc)

module _ (entries : List Entry) (p : PipeId) (x : pipe.Slots) (there : slice_get (run entries empty).pipes p.0 ≡ Some x) (over_now : is_over x.phase ≡ true) where
  is_over_phase : (phase : Phase) → is_over phase ≡ true → phase ≡ Over
  is_over_phase phase e = grind (arith, e)

  shut-down : ShutDown p x (run_moments entries empty)
  shut-down = subst (Story p (run_moments entries empty)) there (run-shut p entries) (over_still x.phase over_now)

  course : HasEnded (run_course p entries empty) x
  course = (subst (IsCourseAt (run_course p entries empty)) there (each_pipe_has_a_course entries p)).over (is_over_phase x.phase over_now)

  -- it ended once, with this error where its shutdown has one
  unended : (e : Option Plain) → (run_course p entries empty).ended ≡ e ∷ [] → e ≡ None → x.error ≡ None
  unended e f n = by course
    where
      by : HasEnded (run_course p entries empty) x → x.error ≡ None
      by (WithoutAction a h) = one_of x.error e (sym (ap (λ (c : Course). c.ended) h) ∙ f) ∙ n
      by (AfterAction o a h) = no_error x.error o (one_of (error_after x.error o) e (sym (ap (λ (c : Course). c.ended) h) ∙ f) ∙ n)

  by_action : (o : Option Action) → x.action ≡ o → IsAnswered p x entries
  by_action (Some action) e =
      let k = each_pipe_ends_as_its_action entries p x action there over_now e in
      ByItsAction action e (acted-for entries p x action there (over_late x.phase over_now) e k.promise k.one) k
  by_action None e =
      let told = (each_promise_is_open_until_the_end entries p x there).after over_now in
      WithNoAction e (told.1.1 ∙ ap (λ (c : Option Plain). Some (outcome_of_end c)) (by course told.0 told.1.0))
    where
      by : HasEnded (run_course p entries empty) x → (c : Option Plain) → (run_course p entries empty).ended ≡ c ∷ [] → c ≡ x.error
      by (WithoutAction a h) c f = one_of c x.error (sym f ∙ ap (λ (k : Course). k.ended) h)
      by (AfterAction o a h) c f = absurd (a e)

  ends-as-shut : EndsAsItShutDown p x entries
  ends-as-shut = record {
    shut = shut-down;
    answered = by_action x.action refl;
    closed = λ v e.
        let n : x.error ≡ None = unended None (ended-fulfilled entries p x v there e) refl in
        (n, closed_named (pipe_at p shut-down.moment.found).prevent (ends_at (pipe_at p shut-down.moment.found) shut-down.moment.found) shut-down.operation x.action x.error shut-down.named n);
  }

pub each_pipe_ends_as_it_shut_down : EachPipeEndsAsItShutDown
each_pipe_ends_as_it_shut_down entries p x there over_now = ends-as-shut entries p x there over_now
