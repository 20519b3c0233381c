-- Where a pipe began its action, and for which promise, over every run.
use Rattle.std.proofs.Common.{◌≡◌, ◌⊎◌, inl, inr, ℕ, Bool, true, false, nat_eq, List, [], ◌∷◌, ◌++◌, Option, Some, None, Result, slice_get, refl, sym, ap, subst, ◌∙◌, arith, append_assoc}
use Rattle.ws_value.specs.declared.{ids.PipeId.{PipeId}, ids.PromiseId.{PromiseId}}
use Rattle.ws_value.specs.declared.value.{Plain.{Plain}}
use Rattle.ws_steps.specs.declared.calls.{Call.{Call}}
use Rattle.ws_steps.specs.declared.effects.Effect.{Effect}
use Rattle.ws_steps.specs.declared.effects.Effect.TheVariants.{Pipe}
use Rattle.ws_steps.specs.declared.pipes.{Action.{Action}, Action.TheVariants.{AbortDest, CancelSource, CloseDest, BySignal}, Ends.{Ends}, Phase.{Phase}, Phase.TheVariants.{Flowing, Acting}, PipeOperation.{PipeOperation}, PipeOperation.TheVariants.{ActionSettled}}
use Rattle.ws_steps.specs.Calls.{begin}
use Rattle.ws_steps.specs.Operations.{pipe_operation}
use Rattle.ws_steps.specs.Pipes as pipe
use Rattle.ws_steps.specs.Run.{Entry, run}
use Rattle.ws_steps.specs.Slots.{Slots, Done, empty, as_pipe, pipe_at, ends_at, put_pipe, on_pipe_at}
use Rattle.ws_steps.specs.Turns.{Moment, row}
use Rattle.ws_laws.proofs.Tables.{eq_numbers}
use Rattle.ws_laws.proofs.Walker.{GoesUntold, run-holds}
use Rattle.ws_promise_laws.proofs.Acting.{EachWaits, Waits, waits-stays, waits-heard, none-waits}
use Rattle.ws_pipe_laws.specs.pipes.PipeHistory.{is_live, effect_moment, run_moments}
use Rattle.ws_pipe_laws.specs.pipes.PipeMoves.{starting, Move, MoveRests, MoveWaits, MoveActs, MoveEnds, MoveFinishes, acted, dest_aborted, signalled, shut_in}
use Rattle.ws_pipe_laws.proofs.pipes.Courses.{place_same}
use Rattle.ws_pipe_laws.proofs.pipes.Moves.{each_pipe_moves}
use Rattle.ws_pipe_laws.proofs.writes.Orderly.{moment, moments_history}
use Rattle.ws_end_laws.proofs.hosts.Acts.{NotOf}
use Rattle.ws_end_laws.proofs.hosts.Called.{place-grows}
use Rattle.ws_end_laws.proofs.hosts.Making.{Adds, call-adds}
use Rattle.ws_end_laws.specs.successes.Heard.{ItsAction, ActedFor, heard_in, effect_heard, promises_heard}
use Rattle.ws_steps.specs.declared.pipes.Prevent.{Prevent}
use Rattle.ws_end_laws.proofs.successes.Ending.{acted_one}
use Rattle.ws_end_laws.proofs.successes.Hearing.{heard-append}
use Rattle.ws_laws.proofs.Truth.{false_true}
use Rattle.ws_end_laws.proofs.hosts.Places.{other_there, place-new, told_acting}

module _ (p : PipeId) where
  -- as of its action, but for that no other promise is
  record Begun (action : Action) (ms : List Moment) : Type 0 where
    past : List Moment
    at : Moment
    rest : List Moment
    operation : PipeOperation
    promise : PromiseId
    split : ms ≡ past ++ at ∷ rest
    effect : at.effect ≡ Pipe p operation
    live : is_live (pipe_at p at.found).phase ≡ true
    caused : (row at.effect at.found).caused ≡ (acted p (ends_at (pipe_at p at.found) at.found) (pipe_at p at.found) at.found.promises action).out.effects
    heard : effect_heard ItsAction p at.effect at.found ≡ promise ∷ []

  abbrev Story : List Moment → Option pipe.Slots → Type 0
  Story h None = Unit {0}
  Story h (Some x) = is_live x.phase ≡ false → (action : Action) → x.action ≡ Some action → Begun action h

  -- it stays
  later : (h : List Moment) (m : Moment) (action : Action) → Begun action h → Begun action (h ++ m ∷ [])
  later h m action k = record {
    past = k.past;
    at = k.at;
    rest = k.rest ++ m ∷ [];
    operation = k.operation;
    promise = k.promise;
    split = ap (λ (ms : List Moment). ms ++ m ∷ []) k.split ∙ append_assoc k.past (k.at ∷ k.rest) (m ∷ []);
    effect = k.effect;
    live = k.live;
    caused = k.caused;
    heard = k.heard;
  }

  later-story : (h : List Moment) (m : Moment) (o : Option pipe.Slots) → Story h o → Story (h ++ m ∷ []) o
  later-story h m None k = tt
  later-story h m (Some x) k = λ f action e. later h m action (k f action e)

  module _ (h : List Moment) (operation : PipeOperation) (s : Slots) (x : pipe.Slots) (there : slice_get s.pipes p.0 ≡ Some x) (was : Story h (Some x)) where
    abbrev ends : Ends
    ends = ends_at x s

    abbrev m : Moment
    m = moment (Pipe p operation) s

    looked_ends : (phase : Phase) (a : Option Action) (e : Option Plain) → let y : pipe.Slots = shut_in operation phase a e x in (y.source ≡ x.source) × ((y.dest ≡ x.dest) × (y.prevent ≡ x.prevent))
    looked_ends phase a e = (grind arith, (grind arith, grind arith))

    -- what an action causes is told by the ends of the pipe and what it isn't to do
    same_acted : (y : pipe.Slots) (action : Action) → y.source ≡ x.source → y.dest ≡ x.dest → y.prevent ≡ x.prevent → (acted p ends y s.promises action).out.effects ≡ (acted p ends x s.promises action).out.effects
    same_acted y (AbortDest r) e f g = by ends.dest_abort
      where
        by : (o : Option PromiseId) → (dest_aborted p r y s.promises o).out.effects ≡ (dest_aborted p r x s.promises o).out.effects
        by (Some d) = refl
        by None = rw f refl
    same_acted y (CancelSource r) e f g = rw e refl
    same_acted y CloseDest e f g = rw f refl
    same_acted y (BySignal r) e f g = by y.prevent.abort y.prevent.cancel ∙ ap (λ (c : Prevent). (signalled p r x s.promises c.abort c.cancel).out.effects) g
      where
        by : (a c : Bool) → (signalled p r y s.promises a c).out.effects ≡ (signalled p r x s.promises a c).out.effects
        by false false = rw (e, f) refl
        by false true = rw f refl
        by true false = rw e refl
        by true true = refl

    now : (b : pipe.Acts) (y : pipe.Slots) (action : Action) → (row m.effect m.found).caused ≡ b.out.effects → y ≡ shut_in operation Acting (Some action) y.error x → is_live x.phase ≡ true → b ≡ acted p ends y s.promises action → Begun action (h ++ m ∷ [])
    now b y action same e l o =
        let at : pipe_at p s ≡ x = ap as_pipe there in
        let k = looked_ends Acting (Some action) y.error in
        let caused : (row m.effect m.found).caused ≡ (acted p ends x s.promises action).out.effects =
        same ∙ (ap (λ (z : pipe.Acts). z.out.effects) o
        ∙ same_acted y action (ap (λ (z : pipe.Slots). z.source) e ∙ k.0) (ap (λ (z : pipe.Slots). z.dest) e ∙ k.1.0) (ap (λ (z : pipe.Slots). z.prevent) e ∙ k.1.1)) in
        let one = acted_one p ends x s.promises action in
        record {
          past = h;
          at = m;
          rest = [];
          operation = operation;
          promise = one.0;
          split = refl;
          effect = refl;
          live = ap (λ (z : pipe.Slots). is_live z.phase) at ∙ l;
          caused = subst (λ (z : pipe.Slots). (row m.effect m.found).caused ≡ (acted p (ends_at z s) z s.promises action).out.effects) (sym at) caused;
          heard = ap (heard_in ItsAction p) caused ∙ one.1;
        }

    some_same : (a b : Action) → ◌≡◌ {A = Option Action} (Some a) (Some b) → a ≡ b
    some_same a b e = cc

    none_some : (a : Action) {A : Type 0} → ◌≡◌ {A = Option Action} None (Some a) → A
    none_some a e = absurd (cc)

    move-begun : (b : pipe.Acts) → (row m.effect m.found).caused ≡ b.out.effects → ((r : Result Plain Plain) → operation ≡ ActionSettled r → x.phase ≡ Acting) → Move p ends operation x s.promises b → Story (h ++ m ∷ []) (Some b.slots)
    move-begun b same acting (MoveRests f a e idle) = λ l action is. later h m action (was (sym (ap is_live f) ∙ l) action (sym a ∙ is))
    move-begun b same acting (MoveWaits f e n w o) = λ l action is. false_true (is_live b.slots.phase) (ap (λ (y : pipe.Slots). is_live y.phase) e) l
    move-begun b same acting (MoveActs action y e n hw o alike) =
        λ l other is.
        subst (λ (c : Action). Begun c (h ++ m ∷ [])) (some_same action other (sym (ap (λ (z : pipe.Slots). z.action) e) ∙ (sym alike.action ∙ is))) (now b y action same e n.live o)
    move-begun b same acting (MoveEnds e n hw o) = λ l action is. none_some action (sym (ap (λ (y : pipe.Slots). y.action) e) ∙ is)
    move-begun b same acting (MoveFinishes r f e o) = λ l action is. later h m action (was (ap is_live (acting r f)) action (sym (ap (λ (y : pipe.Slots). y.action) e) ∙ is))

  abbrev Goes : List Moment → Slots → Effect → Type 0
  Goes h s e = Story (h ++ moment e s ∷ []) (slice_get (row e s).slots.pipes p.0)

  own-story : (h : List Moment) (operation : PipeOperation) (s : Slots) (es : List Effect) (o : Option pipe.Slots) → slice_get s.pipes p.0 ≡ o → Waits p s (Pipe p operation ∷ es) → Story h o → Goes h s (Pipe p operation)
  unfolding row
  own-story h operation s es None e wt w =
      let same : row (Pipe p operation) s ≡ on_pipe_at (λ ends. pipe_operation p ends operation) p s None = ap (on_pipe_at (λ ends. pipe_operation p ends operation) p s) e in
      let place : slice_get (row (Pipe p operation) s).slots.pipes p.0 ≡ None = ap (λ (c : Done). slice_get c.slots.pipes p.0) same ∙ e in
      subst (Story (h ++ moment (Pipe p operation) s ∷ [])) (sym place) tt
  own-story h operation s es (Some x) e wt w =
      let b : pipe.Acts = pipe_operation p (ends_at x s) operation (starting x s.promises) in
      let d : Done = put_pipe p s b in
      let same : row (Pipe p operation) s ≡ d = ap (on_pipe_at (λ ends. pipe_operation p ends operation) p s) e in
      let there : slice_get d.slots.pipes p.0 ≡ Some b.slots = place_same s.pipes p.0 x b.slots e in
      let place : slice_get (row (Pipe p operation) s).slots.pipes p.0 ≡ Some b.slots = ap (λ (c : Done). slice_get c.slots.pipes p.0) same ∙ there in
      subst (Story (h ++ moment (Pipe p operation) s ∷ [])) (sym place) (move-begun h operation s x e w b (ap (λ (c : Done). c.caused) same) (told_acting p s operation es x e wt) (each_pipe_moves p (ends_at x s) operation x s.promises))

  other-story : (h : List Moment) (s : Slots) (e : Effect) → NotOf p e → Story h (slice_get s.pipes p.0) → Goes h s e
  other-story h s e n w = subst (Story (h ++ moment e s ∷ [])) (sym (other_there p e s n)) (later-story h (moment e s) (slice_get s.pipes p.0) w)

  pipe-story : (h : List Moment) (s : Slots) (q : PipeId) (operation : PipeOperation) (es : List Effect) (same : Bool) → nat_eq p.0 q.0 ≡ same → EachWaits s (Pipe q operation ∷ es) → Story h (slice_get s.pipes p.0) → Goes h s (Pipe q operation)
  pipe-story h s q operation es false n wt w = other-story h s (Pipe q operation) n w
  pipe-story h s q operation es true n wt w =
      subst (λ (r : PipeId). EachWaits s (Pipe r operation ∷ es) → Goes h s (Pipe r operation)) (ap (λ (n : ℕ). record { 0 = n }) (eq_numbers p.0 q.0 n)) (λ wt. own-story h operation s es (slice_get s.pipes p.0) refl (wt p) w) wt

  row-story : (h : List Moment) (s : Slots) (e : Effect) (es : List Effect) → EachWaits s (e ∷ es) → Story h (slice_get s.pipes p.0) → Goes h s e
  row-story h s (Pipe q operation) es wt w = pipe-story h s q operation es (nat_eq p.0 q.0) refl wt w
  row-story h s e es wt w = other-story h s e tt w

  abbrev Is : List Moment → Slots → List Effect → Type 0
  Is h s es = EachWaits s es × Story h (slice_get s.pipes p.0)

  new-begun : (h : List Moment) (y : pipe.Slots) → y.phase ≡ Flowing → Story h (Some y)
  new-begun h y e = λ f. false_true (is_live y.phase) (ap is_live e) f

  grown-story : (h : List Moment) (ps : List pipe.Slots) (y : pipe.Slots) (o : Option pipe.Slots) → slice_get ps p.0 ≡ o → y.phase ≡ Flowing → Story h o → Story h (slice_get (ps ++ y ∷ []) p.0)
  grown-story h ps y (Some x) e flows w = subst (Story h) (sym (place-grows ps (y ∷ []) p.0 x e)) w
  grown-story h ps y None e flows w = by (place-new ps y p.0 e)
    where
      by : (slice_get (ps ++ y ∷ []) p.0 ≡ None) ⊎ (slice_get (ps ++ y ∷ []) p.0 ≡ Some y) → Story h (slice_get (ps ++ y ∷ []) p.0)
      by (inl f) = subst (Story h) (sym f) tt
      by (inr f) = subst (Story h) (sym f) (new-begun h y flows)

  call-story : (h : List Moment) (c : Call) (s : Slots) → Story h (slice_get s.pipes p.0) → Story h (slice_get (begin c s).done.slots.pipes p.0)
  call-story h c s w = by (call-adds c s)
    where
      by : Adds s (begin c s) → Story h (slice_get (begin c s).done.slots.pipes p.0)
      by (inl e) = subst (λ (ps : List pipe.Slots). Story h (slice_get ps p.0)) (sym e) w
      by (inr new) = subst (λ (ps : List pipe.Slots). Story h (slice_get ps p.0)) (sym new.made) (grown-story h s.pipes new.slots (slice_get s.pipes p.0) refl new.flows w)

  goes : GoesUntold ◌++◌ effect_moment Is
  goes = record {
    row = λ h s e es k. (waits-stays.row s e es k.0, row-story h s e es k.0 k.1);
    call = λ h s c k. (waits-stays.call s c k.0, call-story h c s k.1);
    job = λ h s job e k. (waits-stays.job s job e k.0, k.1);
    answered = λ h s q k. (waits-stays.answered s q k.0, k.1);
    older = λ h s k. (waits-stays.older s k.0, k.1);
  }

  run-begun : (entries : List Entry) → Story (run_moments entries empty) (slice_get (run entries empty).pipes p.0)
  run-begun entries = (run-holds [] ◌++◌ moments_history effect_moment Is goes (record { heard = λ h s k. (waits-heard s k.0, k.1) }) entries empty ((λ q. none-waits q), tt)).1

one_there : (ys zs : List PromiseId) (q d : PromiseId) → ys ++ q ∷ zs ≡ d ∷ [] → q ≡ d
one_there [] zs q d e = cc
one_there (y ∷ ys) zs q d e = absurd (none_there ys zs q (tails y (ys ++ q ∷ zs) d e))
  where
    tails : (y : PromiseId) (cs : List PromiseId) (d : PromiseId) → y ∷ cs ≡ d ∷ [] → cs ≡ []
    tails y cs d e = cc

    none_there : (ys zs : List PromiseId) (q : PromiseId) → ys ++ q ∷ zs ≡ [] → ⊥
    none_there [] zs q e = absurd (cc)
    none_there (y ∷ ys) zs q e = absurd (cc)

pub acted-for : (entries : List Entry) (p : PipeId) (x : pipe.Slots) (action : Action) → slice_get (run entries empty).pipes p.0 ≡ Some x → is_live x.phase ≡ false → x.action ≡ Some action
    → (d : PromiseId) → promises_heard ItsAction p (run_moments entries empty) ≡ d ∷ [] → ActedFor p action (run_moments entries empty)
acted-for entries p x action there late is d one =
    let ms : List Moment = run_moments entries empty in
    let k : Begun p action ms = subst (Story p ms) there (run-begun p entries) late action is in
    let all : promises_heard ItsAction p k.past ++ k.promise ∷ promises_heard ItsAction p k.rest ≡ d ∷ [] =
    ap (λ (ds : List PromiseId). promises_heard ItsAction p k.past ++ (ds ++ promises_heard ItsAction p k.rest)) (sym k.heard) ∙ (sym (heard-append ItsAction p k.past (k.at ∷ k.rest)) ∙ (ap (promises_heard ItsAction p) (sym k.split) ∙ one)) in
    let same : k.promise ≡ d = one_there (promises_heard ItsAction p k.past) (promises_heard ItsAction p k.rest) k.promise d all in
    record {
      past = k.past;
      moment = k.at;
      rest = k.rest;
      operation = k.operation;
      promise = d;
      split = k.split;
      effect = k.effect;
      live = k.live;
      caused = k.caused;
      heard = k.heard ∙ ap (λ (q : PromiseId). q ∷ []) same;
      only = one;
    }
