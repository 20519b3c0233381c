-- The moment at which a pipe that ended without an error began its action, or ended (`each_fulfilled_pipe_passed_all`).
use Rattle.std.proofs.Common.{◌≡◌, ◌⊎◌, inl, inr, ⊎_elim, ℕ, Bool, true, false, nat_eq, List, [], ◌∷◌, ◌++◌, Option, Some, None, Result, Ok, Err, slice_get, refl, sym, ap, subst, ◌∙◌, append_assoc, arith}
use Rattle.ws_laws.proofs.Halves.{halved-empty}
use Rattle.ws_laws.proofs.Halves.{run-halved}
use Rattle.ws_value.specs.declared.{ids.PipeId.{PipeId}, ids.StreamId.{StreamId}, value.Plain.{Plain}}
use Rattle.ws_steps.specs.declared.calls.Call.{Call}
use Rattle.ws_steps.specs.declared.effects.{Effect.{Effect}, Effect.TheVariants.{Pipe as OnPipe}}
use Rattle.ws_steps.specs.declared.pipes.{Ends.{Ends}, Phase.{Phase}, Phase.TheVariants.{Flowing, Waiting, Acting, Over}, PipeOperation.{PipeOperation}}
use Rattle.ws_steps.specs.declared.promises.Job.{Job}
use Rattle.ws_steps.specs.Calls.{begin}
use Rattle.ws_steps.specs.Histories.{along}
use Rattle.ws_steps.specs.Jobs.{job_begun, begin_job}
use Rattle.ws_steps.specs.Operations.{pipe_operation}
use Rattle.ws_steps.specs.Pipes as pipe
use Rattle.ws_steps.specs.Promises.{Table, next_job}
use Rattle.ws_steps.specs.Run.{Entry, Called, Worked, Heard, run, step}
use Rattle.ws_steps.specs.Slots.{Slots, Done, nothing, empty, ends_at, as_pipe, pipe_at, source_at, on_pipe_at}
use Rattle.ws_steps.specs.Turns.{Moment, row, moments}
use Rattle.ws_steps.proofs.PromiseLaws.{slice_get-set_other}
use Rattle.ws_laws.proofs.Begin.{begin-makes}
use Rattle.ws_laws.proofs.Apart.{row-pipes}
use Rattle.ws_laws.proofs.Tables.{eq_numbers, unequal_numbers}
use Rattle.ws_laws.proofs.Truth.{false_true}
use Rattle.ws_laws.proofs.Walker.{GoesUntold, RestsUntold, performed-goes, run-holds}
use Rattle.ws_pipe_laws.specs.pipes.PipeHistory.{is_live, is_over, Course, run_course, run_through, effect_moment, step_moments, run_moments, error_after}
use Rattle.ws_pipe_laws.specs.pipes.PipeMoves.{starting, Move, MoveRests, MoveWaits, MoveActs, MoveEnds, MoveFinishes}
use Rattle.ws_pipe_laws.specs.pipes.PipeReads.{HasEnded, WithoutAction, AfterAction, IsCourse, IsCourseAt}
use Rattle.ws_pipe_laws.specs.pipes.PipeWrites.{AllMoments, leaves}
use Rattle.ws_pipe_laws.proofs.pipes.Courses.{each_pipe_has_a_course}
use Rattle.ws_pipe_laws.proofs.pipes.Moves.{each_pipe_moves}
use Rattle.ws_pipe_laws.proofs.pipes.PassingRuns.{Place, each_is, place_same, appended}
use Rattle.ws_pipe_laws.proofs.writes.Orderly.{moment, moments_history}
use Rattle.ws_pipe_laws.proofs.writes.Owed.{waits-run}
use Rattle.ws_end_laws.specs.wrote.WroteLaws.{IsPassedOn, WritesFirst, EachFulfilledPipePassedAll}
use Rattle.ws_end_laws.proofs.wrote.Closing.{all_moments-append, all_moments-at, SureAfter, call-sure, other-sure, unclosed, never, fresh-begins, fresh_sure, live_there, each_pipe_without_an_error_passed_all}
use Rattle.ws_end_laws.proofs.wrote.Fronts.{over-operation}
use Rattle.ws_end_laws.proofs.wrote.Keeping.{In, row-in, call-in, row-stands}
use Rattle.ws_end_laws.proofs.wrote.Looking.{Sure}

-- a moment at which the pipe acts without an error
record Acts (p : PipeId) (m : Moment) : Type 0 where
  live : is_live (pipe_at p m.found).phase ≡ true
  acts : is_live (pipe_at p (leaves m)).phase ≡ false
  plain : (pipe_at p (leaves m)).error ≡ None

record Found (p : PipeId) (h : List Moment) : Type 0 where
  first : List Moment
  rest : List Moment
  at : Moment
  split : h ≡ first ++ at ∷ rest
  is : Acts p at

module _ (p : PipeId) where
  -- it is live, or it isn't there, or it acted
  abbrev Known : List Moment → Option pipe.Slots → Type 0
  Known h None = Unit {0}
  Known h (Some x) = (is_live x.phase ≡ true) ⊎ (x.error ≡ None → Found p h)

  longer : (h : List Moment) (m : Moment) → Found p h → Found p (h ++ m ∷ [])
  longer h m f = record { first = f.first; rest = f.rest ++ m ∷ []; at = f.at; split = ap (λ (ms : List Moment). ms ++ m ∷ []) f.split ∙ append_assoc f.first (f.at ∷ f.rest) (m ∷ []); is = f.is }

  -- an operation of a pipe that isn't live keeps that, and its error
  ended-move : (ends : Ends) (operation : PipeOperation) (x : pipe.Slots) (t : Table) (b : pipe.Acts) → is_live x.phase ≡ false → Move p ends operation x t b → b.slots.error ≡ x.error
  ended-move ends operation x t b l (MoveRests q a e i) = e
  ended-move ends operation x t b l (MoveWaits f q named v e) = false_true (is_live x.phase) named.live l
  ended-move ends operation x t b l (MoveActs action y q named w is alike) = false_true (is_live x.phase) named.live l
  ended-move ends operation x t b l (MoveEnds q named w e) = false_true (is_live x.phase) named.live l
  ended-move ends operation x t b l (MoveFinishes o is q e) = ap (λ (z : pipe.Slots). z.error) q

  other_known : (h : List Moment) (m : Moment) (o r : Option pipe.Slots) → r ≡ o → Known h o → Known (h ++ m ∷ []) r
  other_known h m None r e k = subst (Known (h ++ m ∷ [])) (sym e) tt
  other_known h m (Some x) r e (inl l) = subst (Known (h ++ m ∷ [])) (sym e) (inl l)
  other_known h m (Some x) r e (inr f) = subst (Known (h ++ m ∷ [])) (sym e) (inr (λ n. longer h m (f n)))

  -- where it goes on so
  goes-known : (h : List Moment) (s : Slots) (operation : PipeOperation) (x : pipe.Slots) (b : pipe.Acts) (was now : Bool) → let m : Moment = moment (OnPipe p operation) s in
      is_live x.phase ≡ was → is_live b.slots.phase ≡ now → pipe_at p s ≡ x → pipe_at p (leaves m) ≡ b.slots → Move p (ends_at x s) operation x s.promises b
      → (is_live x.phase ≡ true) ⊎ (x.error ≡ None → Found p h) → Known (h ++ m ∷ []) (Some b.slots)
  goes-known h s operation x b was true e f i j move k = inl f
  goes-known h s operation x b true false e f i j move k =
      inr (λ n. record {
        first = h;
        rest = [];
        at = moment (OnPipe p operation) s;
        split = refl;
        is = record {
          live = subst (λ (y : pipe.Slots). is_live y.phase ≡ true) (sym i) e;
          acts = subst (λ (y : pipe.Slots). is_live y.phase ≡ false) (sym j) f;
          plain = subst (λ (y : pipe.Slots). y.error ≡ None) (sym j) n;
        };
      })
  goes-known h s operation x b false false e f i j move (inl l) = false_true (is_live x.phase) l e
  goes-known h s operation x b false false e f i j move (inr g) = inr (λ n. longer h (moment (OnPipe p operation) s) (g (sym (ended-move (ends_at x s) operation x s.promises b e move) ∙ n)))

  own-known : (h : List Moment) (s : Slots) (operation : PipeOperation) (o : Option pipe.Slots) → slice_get s.pipes p.0 ≡ o → slice_get (row (OnPipe p operation) s).slots.pipes p.0 ≡ slice_get (on_pipe_at (λ ends. pipe_operation p ends operation) p s o).slots.pipes p.0
      → Known h o → Known (h ++ moment (OnPipe p operation) s ∷ []) (slice_get (row (OnPipe p operation) s).slots.pipes p.0)
  own-known h s operation None e r k = other_known h (moment (OnPipe p operation) s) None _ (r ∙ e) tt
  own-known h s operation (Some x) e r k =
      let b : pipe.Acts = pipe_operation p (ends_at x s) operation (starting x s.promises) in
      let now : slice_get (row (OnPipe p operation) s).slots.pipes p.0 ≡ Some b.slots = r ∙ place_same s.pipes p.0 x b.slots e in
      subst (Known (h ++ moment (OnPipe p operation) s ∷ [])) (sym now)
      (goes-known h s operation x b (is_live x.phase) (is_live b.slots.phase) refl refl (ap as_pipe e) (ap as_pipe now) (each_pipe_moves p (ends_at x s) operation x s.promises) k)

  other_place : (q : PipeId) (operation : PipeOperation) (s : Slots) (o : Option pipe.Slots) → nat_eq p.0 q.0 ≡ false → slice_get (on_pipe_at (λ ends. pipe_operation q ends operation) q s o).slots.pipes p.0 ≡ slice_get s.pipes p.0
  other_place q operation s None n = refl
  other_place q operation s (Some x) n = slice_get-set_other s.pipes q.0 p.0 _ (λ i. unequal_numbers p.0 q.0 n (sym i))

  abbrev Is : List Moment → Slots → List Effect → Type 0
  Is h s es = Known h (slice_get s.pipes p.0)

  own_row : (h : List Moment) (operation : PipeOperation) (s : Slots) → Known h (slice_get s.pipes p.0) → Known (h ++ moment (OnPipe p operation) s ∷ []) (slice_get (row (OnPipe p operation) s).slots.pipes p.0)
  unfolding row
  own_row h operation s k = own-known h s operation (slice_get s.pipes p.0) refl refl k

  pipe_row : (h : List Moment) (q : PipeId) (operation : PipeOperation) (s : Slots) (same : Bool) → nat_eq p.0 q.0 ≡ same → Known h (slice_get s.pipes p.0)
      → Known (h ++ moment (OnPipe q operation) s ∷ []) (slice_get (row (OnPipe q operation) s).slots.pipes p.0)
  unfolding row
  pipe_row h q operation s false n k = other_known h (moment (OnPipe q operation) s) (slice_get s.pipes p.0) _ (other_place q operation s (slice_get s.pipes q.0) n) k
  pipe_row h q operation s true n k =
      let is : p ≡ q = ap (λ (n : ℕ). record { 0 = n }) (eq_numbers p.0 q.0 n) in
      subst (λ (z : PipeId). Known h (slice_get s.pipes p.0) → Known (h ++ moment (OnPipe z operation) s ∷ []) (slice_get (row (OnPipe z operation) s).slots.pipes p.0)) is (own_row h operation s) k

  row-known : (h : List Moment) (s : Slots) (e : Effect) → Known h (slice_get s.pipes p.0) → Known (h ++ moment e s ∷ []) (slice_get (row e s).slots.pipes p.0)
  row-known h s (OnPipe q operation) k = pipe_row h q operation s (nat_eq p.0 q.0) refl k
  row-known h s e k = other_known h (moment e s) (slice_get s.pipes p.0) _ (ap (λ (ps : List pipe.Slots). slice_get ps p.0) (row-pipes e s tt)) k

  call-known : (h : List Moment) (s : Slots) (c : Call) → Known h (slice_get s.pipes p.0) → Known h (slice_get (begin c s).done.slots.pipes p.0)
  call-known h s c k = begin-makes (λ z. Known h (slice_get z.pipes p.0)) (record {
    promise = λ z k. k;
    locks = λ z ls k. k;
    hosts = λ z hs k. k;
    pipe = λ z source dest prevent signal promise k.
        let y : pipe.Slots = pipe.set_up source dest prevent signal promise in
        ⊎_elim (λ (f : slice_get (z.pipes ++ y ∷ []) p.0 ≡ slice_get z.pipes p.0). subst (Known h) (sym f) k)
        (λ (f : (slice_get z.pipes p.0 ≡ None) × (slice_get (z.pipes ++ y ∷ []) p.0 ≡ Some y)). subst (Known h) (sym f.1) (inl refl)) (appended z.pipes y p.0);
    signal = λ z k. k;
    transform = λ z kind i j change k. k;
    tee = λ z source first second cancel k. k;
    port = λ z side stream backpressure k. k;
    bytes = λ z mark auto k. k;
    byob_requests = λ z hs k. k;
    readable = λ z owner mark size k. k;
    writable = λ z owner mark size k. k;
  }) c s k

  goes : GoesUntold ◌++◌ effect_moment Is
  goes = record { row = λ h s e es k. row-known h s e k; call = λ h s c k. call-known h s c k; job = λ h s job e k. k; answered = λ h s q k. k; older = λ h s k. k }

  rests : RestsUntold Is
  rests = record { heard = λ h s k. k }

  run-known : (entries : List Entry) → Known (run_moments entries empty) (slice_get (run entries empty).pipes p.0)
  run-known entries = run-holds [] ◌++◌ moments_history effect_moment Is goes rests entries empty tt

-- a moment of a run is one of a step

record Within (h : List Moment) (first : List Moment) (m : Moment) : Type 0 where
  rest : List Moment
  split : h ≡ first ++ m ∷ rest

same_head : (m n : Moment) (ms ns : List Moment) → m ∷ ms ≡ n ∷ ns → (m ≡ n) × (ms ≡ ns)
same_head m n ms ns e = (cc, cc)

append-split : (us vs first rest : List Moment) (m : Moment) → us ++ vs ≡ first ++ m ∷ rest → Within us first m ⊎ ((ms : List Moment) × (vs ≡ ms ++ m ∷ rest))
append-split [] vs first rest m e = inr (first, e)
append-split (u ∷ us) vs [] rest m e = let k = same_head u m (us ++ vs) rest e in inl (record { rest = us; split = ap (λ (n : Moment). n ∷ us) k.0 })
append-split (u ∷ us) vs (f ∷ first) rest m e =
    let k = same_head u f (us ++ vs) (first ++ m ∷ rest) e in
    ⊎_elim
    (λ (w : Within us first m). inl (record { rest = w.rest; split = ap (λ (n : Moment). n ∷ us) k.0 ∙ ap (λ (ns : List Moment). f ∷ ns) w.split }))
    (λ (w : (ms : List Moment) × (vs ≡ ms ++ m ∷ rest)). inr w) (append-split us vs first rest m k.1)

record InStep (xs : List Entry) (s : Slots) (m : Moment) : Type 0 where
  before : List Entry
  after : List Entry
  entry : Entry
  whole : xs ≡ before ++ entry ∷ after
  first : List Moment
  rest : List Moment
  split : step_moments (run before s) entry ≡ first ++ m ∷ rest

in_step-of : (xs : List Entry) (s : Slots) (first rest : List Moment) (m : Moment) → run_moments xs s ≡ first ++ m ∷ rest → InStep xs s m
in_step-of [] s [] rest m e = cc
in_step-of [] s (f ∷ first) rest m e = cc
in_step-of (x ∷ xs) s first rest m e =
    ⊎_elim
    (λ (w : Within (step_moments s x) first m). record { before = []; after = xs; entry = x; whole = refl; first = first; rest = w.rest; split = w.split })
    (λ (w : (ms : List Moment) × (run_moments xs (step s x) ≡ ms ++ m ∷ rest)).
    let k = in_step-of xs (step s x) w.0 rest m w.1 in
    record { before = x ∷ k.before; after = k.after; entry = k.entry; whole = ap (λ (ys : List Entry). x ∷ ys) k.whole; first = k.first; rest = k.rest; split = k.split })
    (append-split (step_moments s x) (run_moments xs (step s x)) first rest m e)

-- the pipe was there before that step, and not over

module _ (p : PipeId) where
  abbrev Gone : pipe.Slots → Type 0
  Gone x = is_over x.phase ≡ true

  abbrev Overs : List pipe.Slots → Type 0
  Overs ps = In p Gone (over-operation p) ps

  abbrev FoundOver : Moment → Type 0
  FoundOver m = Overs m.found.pipes

  abbrev Stays : List Moment → Slots → List Effect → Type 0
  Stays h s es = AllMoments FoundOver h × Overs s.pipes

  done-over : (d : Done) → Overs d.slots.pipes → AllMoments FoundOver (along [] ◌++◌ effect_moment (moments d))
  done-over d k =
      (performed-goes [] ◌++◌ moments_history effect_moment Stays
      (λ h s e es j. (all_moments-append FoundOver h (moment e s) j.0 j.1, row-in p Gone (over-operation p) s e j.1)) [] d (tt, k)).0

  job-over : (s : Slots) (job : Option Job) → Overs s.pipes → Overs (job_begun s job).slots.pipes
  job-over s None k = k
  job-over s (Some job) k = k

  step-over : (s : Slots) (x : Entry) → Overs s.pipes → AllMoments FoundOver (step_moments s x)
  unfolding begin_job
  step-over s (Called c) k = done-over (begin c s).done (call-in p Gone (over-operation p) s c k)
  step-over s Worked k = done-over (begin_job s) (job-over s (next_job s.promises) k)
  step-over s Heard k = done-over (nothing s) k

  over_live : (x : pipe.Slots) → is_over x.phase ≡ true → is_live x.phase ≡ false
  over_live x o = by x.phase o
    where
      by : (phase : Phase) → is_over phase ≡ true → is_live phase ≡ false
      by Flowing o = cc
      by Waiting o = cc
      by Acting o = cc
      by Over o = refl

  -- what is left at that moment
  left : (m : Moment) → Acts p m → (z : pipe.Slots) × ((slice_get (leaves m).pipes p.0 ≡ Some z) × ((is_live z.phase ≡ false) × (z.error ≡ None)))
  left m a =
      let r = row-stands p m.effect m.found (pipe_at p m.found) (live_there p (slice_get m.found.pipes p.0) a.live) in
      let is : pipe_at p (leaves m) ≡ r.0 = ap as_pipe r.1 in
      (r.0, (r.1, (subst (λ (w : pipe.Slots). is_live w.phase ≡ false) is a.acts, subst (λ (w : pipe.Slots). w.error ≡ None) is a.plain)))

  module _ (before : List Entry) (x : Entry) (first rest : List Moment) (m : Moment) (a : Acts p m) where
    abbrev s : Slots
    s = run before empty

    made_by : (c : Call) → slice_get s.pipes p.0 ≡ None → step_moments s (Called c) ≡ first ++ m ∷ rest → ⊥
    made_by c e split =
        let o : Option pipe.Slots = slice_get (begin c s).done.slots.pipes p.0 in
        let i : StreamId = (as_pipe o).source in
        let k = call-sure p i unclosed ⊥ never s c (waits-run before) (fresh_sure p o (fresh-begins p c s e)) in
        let at = all_moments-at (SureAfter p i unclosed ⊥ never) first rest m (subst (AllMoments (SureAfter p i unclosed ⊥ never)) split k.0) in
        let l = left m a in
        let z : pipe.Slots = l.0 in
        let sure : (z.source ≡ i) × ((z.phase ≡ Flowing) ⊎ (z.error ≡ None → ⊥)) = subst (Sure p i ⊥) l.1.0 at in
        ⊎_elim (λ (g : z.phase ≡ Flowing). false_true (is_live z.phase) (ap is_live g) l.1.1.0) (λ (g : z.error ≡ None → ⊥). g l.1.1.1) sure.1

    source_is : (i : StreamId) → slice_get s.pipes p.0 ≡ None → ((c : Call) → x ≡ Called c → ⊥) → step_moments s x ≡ first ++ m ∷ rest → (left m a).0.source ≡ i
    source_is i e n split =
        let r = source_at i s in
        let k = other-sure p i r (Unit {0}) (λ c. tt) s x n (waits-run before) (run-halved before empty halved-empty) refl (subst (Sure p i (Unit {0})) (sym e) tt) in
        let at = all_moments-at (SureAfter p i r (Unit {0}) (λ c. tt)) first rest m (subst (AllMoments (SureAfter p i r (Unit {0}) (λ c. tt))) split k.0) in
        let l = left m a in
        let z : pipe.Slots = l.0 in
        let sure : (z.source ≡ i) × ((z.phase ≡ Flowing) ⊎ (z.error ≡ None → Unit {0})) = subst (Sure p i (Unit {0})) l.1.0 at in
        sure.0

    not_made : slice_get s.pipes p.0 ≡ None → ((c : Call) → x ≡ Called c → ⊥) → step_moments s x ≡ first ++ m ∷ rest → ⊥
    not_made e n split =
        let f = ap (λ (j : StreamId). j.0) (source_is (record { 0 = 0 }) e n split) in
        let g = ap (λ (j : StreamId). j.0) (source_is (record { 0 = 1 }) e n split) in
        absurd (omega (arith, f, g))

    over_none : (y : pipe.Slots) → slice_get s.pipes p.0 ≡ Some y → is_over y.phase ≡ true → step_moments s x ≡ first ++ m ∷ rest → ⊥
    over_none y e o split =
        let k = step-over s x (record { slots = y; there = e; is = o }) in
        let at = all_moments-at FoundOver first rest m (subst (AllMoments FoundOver) split k) in
        let is : pipe_at p m.found ≡ at.slots = ap as_pipe at.there in
        false_true (is_live at.slots.phase) (subst (λ (w : pipe.Slots). is_live w.phase ≡ true) is a.live) (over_live at.slots at.is)

  not_called : (x : Entry) → ((c : Call) × (x ≡ Called c)) ⊎ ((c : Call) → x ≡ Called c → ⊥)
  not_called (Called c) = inl (c, refl)
  not_called Worked = inr (λ c e. cc)
  not_called Heard = inr (λ c e. cc)

  was_there : (before : List Entry) (x : Entry) (first rest : List Moment) (m : Moment) → Acts p m → step_moments (run before empty) x ≡ first ++ m ∷ rest → is_over (pipe_at p (run before empty)).phase ≡ false
  was_there before x first rest m a split = by (slice_get (run before empty).pipes p.0) refl
    where
      some : (y : pipe.Slots) (b : Bool) → slice_get (run before empty).pipes p.0 ≡ Some y → is_over y.phase ≡ b → b ≡ false
      some y false e o = refl
      some y true e o = absurd (over_none before x first rest m a y e o split)

      by : (o : Option pipe.Slots) → slice_get (run before empty).pipes p.0 ≡ o → is_over (as_pipe o).phase ≡ false
      by (Some y) e = some y (is_over y.phase) e refl
      by None e =
          absurd (⊎_elim
          (λ (w : (c : Call) × (x ≡ Called c)). made_by before x first rest m a w.0 e (subst (λ (z : Entry). step_moments (run before empty) z ≡ first ++ m ∷ rest) w.1 split))
          (λ (n : (c : Call) → x ≡ Called c → ⊥). not_made before x first rest m a e n split) (not_called x))

-- a pipe that ended without an error

first_is : (a b : Option Plain) → ◌≡◌ {A = List (Option Plain)} (a ∷ []) (b ∷ []) → a ≡ b
first_is a b e = cc

after_none : (e : Option Plain) (o : Result Plain Plain) → error_after e o ≡ None → e ≡ None
after_none e (Ok v) n = n
after_none e (Err r) n = cc

none_ended : {A : Type 0} (h : Course) → h.ended ≡ [] → h.ended ≡ None ∷ [] → A
none_ended h e f = let n : ◌≡◌ {A = List (Option Plain)} [] (None ∷ []) = sym e ∙ f in absurd (cc)

has_none : (h : Course) (x : pipe.Slots) → HasEnded h x → h.ended ≡ None ∷ [] → x.error ≡ None
has_none h x (WithoutAction a e) f = first_is x.error None (sym (ap (λ (c : Course). c.ended) e) ∙ f)
has_none h x (AfterAction o a e) f = after_none x.error o (first_is (error_after x.error o) None (sym (ap (λ (c : Course). c.ended) e) ∙ f))

phase_none : (h : Course) (x : pipe.Slots) (phase : Phase) → x.phase ≡ phase → IsCourse h x → h.ended ≡ None ∷ [] → (is_live x.phase ≡ false) × (x.error ≡ None)
phase_none h x Flowing e c f = none_ended h (ap (λ (k : Course). k.ended) (c.flowing e)) f
phase_none h x Waiting e c f = none_ended h (ap (λ (k : Course). k.ended) (c.waiting e)) f
phase_none h x Acting e c f = none_ended h (ap (λ (k : Course). k.ended) (c.acting e).1) f
phase_none h x Over e c f = (ap is_live e, has_none h x (c.over e) f)

found_passed : (entries : List Entry) (p : PipeId) → AllMoments (WritesFirst p) (run_moments entries empty) → Found p (run_moments entries empty) → IsPassedOn (run_through p entries empty)
found_passed entries p orderly f =
    let m : Moment = f.at in
    let a : Acts p m = f.is in
    let k = in_step-of entries empty f.first f.rest m f.split in
    let over = was_there p k.before k.entry k.first k.rest m a k.split in
    let first = all_moments-at (WritesFirst p) f.first f.rest m (subst (AllMoments (WritesFirst p)) f.split orderly) a.live a.acts in
    let passed = (each_pipe_without_an_error_passed_all k.before k.after k.entry p k.first k.rest m over k.split (record { live = a.live; acts = a.acts; first = first }) a.plain).1 in
    subst (λ (xs : List Entry). IsPassedOn (run_through p xs empty)) (sym k.whole) passed

pub each_fulfilled_pipe_passed_all : EachFulfilledPipePassedAll
each_fulfilled_pipe_passed_all entries p orderly ended =
    by (slice_get (run entries empty).pipes p.0) (each_is entries p).1 (run-known p entries) (each_pipe_has_a_course entries p)
  where
    there : (y : pipe.Slots) → Known p (run_moments entries empty) (Some y) → (is_live y.phase ≡ false) × (y.error ≡ None) → IsPassedOn (run_through p entries empty)
    there y (inl live) e = false_true (is_live y.phase) live e.0
    there y (inr f) e = found_passed entries p orderly (f e.1)

    by : (o : Option pipe.Slots) → Place (run_through p entries empty) o → Known p (run_moments entries empty) o → IsCourseAt (run_course p entries empty) o → IsPassedOn (run_through p entries empty)
    by None n k c = subst IsPassedOn (sym n) (record { passed = refl; dropped = refl })
    by (Some y) n k c = there y k (phase_none (run_course p entries empty) y y.phase refl c ended)
