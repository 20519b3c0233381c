-- A pipe that closed a destination that fails is doomed, over every run.
use Rattle.std.proofs.Common.{◌≡◌, ◌⊎◌, inl, inr, ℕ, zero, suc, ◌≤◌, Bool, true, false, nat_eq, List, [], ◌∷◌, ◌++◌, Option, Some, None, Result, Err, slice_get, refl, sym, ap, subst, ◌∙◌, arith}
use Rattle.ws_value.specs.declared.{ids.PipeId.{PipeId}, ids.PromiseId.{PromiseId}, ids.StreamId.{StreamId}, value.Plain.{Plain}}
use Rattle.ws_value.specs.declared.value.{Outcome.{Outcome}, Outcome.TheVariants.{Pending, Rejected}}
use Rattle.ws_steps.specs.declared.calls.{Call.{Call}}
use Rattle.ws_steps.specs.declared.effects.{Effect.{Effect}, Effect.TheVariants.{Pipe as OnPipe}}
use Rattle.ws_steps.specs.declared.pipes.{Phase.{Phase}, Phase.TheVariants.{Flowing, Waiting, Acting, Over}, PipeOperation.{PipeOperation}, PipeOperation.TheVariants.{ActionSettled}}
use Rattle.ws_steps.specs.Calls.{begin, named}
use Rattle.ws_steps.specs.Operations.{pipe_operation}
use Rattle.ws_steps.specs.Pipes as pipe
use Rattle.ws_steps.specs.Promises.{Table, fresh, outcome_at}
use Rattle.ws_steps.specs.Run.{Entry, run}
use Rattle.ws_steps.specs.Slots.{Slots, Stream, ReadableStream, WritableStream, Done, empty, no_writable, as_writable, ends_at, as_pipe, pipe_at, writable_at, on_pipe_at}
use Rattle.ws_steps.specs.Turns.{Moment, row}
use Rattle.ws_steps.specs.Writable as writable
use Rattle.ws_steps.specs.WritableHistory.{Writes as WritesHistory, writes_then, effect_writes}
use Rattle.ws_steps.proofs.PromiseLaws.{slice_get-set_other}
use Rattle.ws_laws.proofs.Begin.{begin-makes}
use Rattle.ws_laws.proofs.Lists.{Each}
use Rattle.ws_laws.proofs.Outcomes.{Keeps, keeps-same, keeps-then, keeps-fresh}
use Rattle.ws_laws.proofs.Apart.{IsNoPipe, row-pipes}
use Rattle.ws_laws.proofs.Straight.{straight_before}
use Rattle.ws_laws.proofs.Tables.{eq_numbers, unequal_numbers}
use Rattle.ws_laws.proofs.Truth.{false_true}
use Rattle.ws_writable_laws.proofs.Agenda.{Kept}
use Rattle.ws_writable_laws.proofs.Runs as writes
use Rattle.ws_writable_laws.proofs.Shape.{all}
use Rattle.ws_promise_laws.proofs.Acting.{EachWaits, Waits, waits-stays}
use Rattle.ws_promise_laws.proofs.Holds.{named as one_name}
use Rattle.ws_promise_laws.proofs.PipeActs.{acts_now, is_acting, ends_by}
use Rattle.ws_promise_laws.proofs.Realm.{in_all, in_stream}
use Rattle.ws_promise_laws.proofs.Runs.{run-sound}
use Rattle.ws_promise_laws.proofs.Tokens.{one_if, names_any}
use Rattle.ws_pipe_laws.specs.pipes.PipeHistory.{is_live, no_course, course_then, operation_course, effect_course, effect_moment}
use Rattle.ws_pipe_laws.specs.pipes.PipeMoves.{starting, Move, MoveRests, MoveWaits, MoveActs, MoveEnds, MoveFinishes}
use Rattle.ws_pipe_laws.specs.pipes.PipeWrites.{AllMoments, leaves}
use Rattle.ws_pipe_laws.proofs.pipes.Courses.{is_history}
use Rattle.ws_pipe_laws.proofs.pipes.Kept.{each_pipe_keeps_its_ends}
use Rattle.ws_pipe_laws.proofs.pipes.Moves.{each_pipe_moves}
use Rattle.ws_pipe_laws.proofs.pipes.PassingRuns.{place_same}
use Rattle.ws_pipe_laws.proofs.writes.Orderly.{moment}
use Rattle.ws_end_laws.proofs.ends.Doomed.{FailsAt, NotTold, course_in, Doomed, own-doomed, begins-doomed}
use Rattle.ws_end_laws.proofs.ends.DoomedRows.{other-doomed}
use Rattle.ws_end_laws.proofs.ends.EndedPromises.{operation-keeps, row-keeps}
use Rattle.ws_end_laws.proofs.ends.Failing.{Unclosed, Failing}
use Rattle.ws_end_laws.proofs.ends.Finding.{ActsAt, Idle, all_map, all_append}
use Rattle.ws_end_laws.proofs.ends.Hearing as hearing
use Rattle.ws_end_laws.proofs.ends.Hearing.{Registered, Queued, Well}
use Rattle.ws_end_laws.proofs.ends.OpenPromises.{open-of}
use Rattle.ws_steps.specs.Slots.{ByteStream}

-- while a close is asked of a stream, its promise is pending, between steps

streams-few : (d : PromiseId) (xs : List Stream) (n : ℕ) (x : Stream) → slice_get xs n ≡ Some x → in_stream d x ≤ in_all (in_stream d) xs
streams-few d [] n x e = cc
streams-few d (y ∷ xs) zero x e = rw (some y x e) (omega arith)
  where
    some : (y x : Stream) → ◌≡◌ {A = Option Stream} (Some y) (Some x) → y ≡ x
    some y x e = cc
streams-few d (y ∷ xs) (suc n) x e = let k = streams-few d xs n x e in omega (arith, k)

failing-place : (o : Option Stream) → Failing (as_writable o) → o ≡ Some (WritableStream (as_writable o))
failing-place o k = by o k
  where
    by : (o : Option Stream) → Failing (as_writable o) → o ≡ Some (WritableStream (as_writable o))
    by None k = let e = k.state in cc
    by (Some (ReadableStream r)) k = let e = k.state in cc
    by (Some (ByteStream b)) k = let e = k.state in cc
    by (Some (WritableStream w)) k = refl

pub asked-pending : (entries : List Entry) (j : StreamId) (d : PromiseId) → let s : Slots = run entries empty in (writable_at j s).close_request ≡ Some d → Failing (writable_at j s) → outcome_at s.promises d ≡ Some Pending
asked-pending entries j d c f =
    let s : Slots = run entries empty in
    let w : writable.Slots = writable_at j s in
    let few = streams-few d s.streams j.0 (WritableStream w) (failing-place (slice_get s.streams j.0) f) in
    let one : names_any d w.close_request ≡ 1 = ap (names_any d) c ∙ one_name d in
    open-of d s (run-sound entries) (omega (arith, few, one))

-- the promises of a call
pub call-table : (T : Table → Type 0) → ((t : Table) → T t → T (fresh t)) → (c : Call) (s : Slots) → T s.promises → T (begin c s).done.slots.promises
call-table T f c s k = begin-makes (λ z. T z.promises) (record {
  promise = λ z k. f z.promises k;
  locks = λ z ls k. k;
  hosts = λ z hs k. k;
  pipe = λ z source dest prevent signal promise k. k;
  signal = λ z k. k;
  transform = λ z kind i j change k. k;
  tee = λ z source first second cancel k. k;
  port = λ z side stream backpressure k. k;
  bytes = λ z mark auto k. k;
  byob_requests = λ z hs k. k;
  readable = λ z owner mark size k. k;
  writable = λ z owner mark size k. k;
}) c s k

pub call-straight : (c : Call) (s : Slots) → Keeps s.promises (begin c s).done.slots.promises
call-straight c s = call-table (Keeps s.promises) (λ t k. keeps-then s.promises t (fresh t) k (keeps-fresh t)) c s (keeps-same s.promises)

-- a destination that fails, of which a close is asked
pub record Closing (d : PromiseId) (w : writable.Slots) : Type 0 where
  pub asked : w.close_request ≡ Some d
  pub failing : Failing w

pub none-closing : (d : PromiseId) → Closing d no_writable → ⊥
none-closing d k = let e = k.failing.state in cc

pub not_both : {A : Type 0} (d : PromiseId) (t : Table) (r : Plain) → outcome_at t d ≡ Some Pending → outcome_at t d ≡ Some (Rejected r) → A
not_both d t r a b = let n : ◌≡◌ {A = Option Outcome} (Some Pending) (Some (Rejected r)) = sym a ∙ b in absurd (cc)

pub not_well : {A : Type 0} (p : PipeId) (d : PromiseId) (t : Table) (o : Outcome) → hearing.is_well o ≡ false → outcome_at t d ≡ Some o → Well p d t → A
not_well p d t o n a w = by o w.outcome n w.well (some o w.outcome (sym a ∙ w.is))
  where
    some : (x y : Outcome) → ◌≡◌ {A = Option Outcome} (Some x) (Some y) → x ≡ y
    some x y e = cc

    by : {A : Type 0} (x y : Outcome) → hearing.is_well x ≡ false → hearing.is_well y ≡ true → x ≡ y → A
    by x y n v e = false_true (hearing.is_well x) (ap hearing.is_well e ∙ v) n

module _ (p : PipeId) where
  -- what is known of the pipe where such a moment was
  abbrev pub Judges : List Moment → pipe.Slots → writable.Slots → Table → List Effect → Moment → Type 0
  Judges h x w t es m = ActsAt p m → FailsAt p m → x.error ≡ None → x.prevent.close ≡ false → Doomed p h x w t es

  -- it flows or waits, and began no action
  pub record Living (h : List Moment) (x : pipe.Slots) : Type 0 where
    pub live : is_live x.phase ≡ true
    pub idle : AllMoments (Idle p) h

  -- it doesn't, and where it acted at such a moment it is doomed
  pub record Dead (h : List Moment) (x : pipe.Slots) (w : writable.Slots) (t : Table) (es : List Effect) : Type 0 where
    pub shut : is_live x.phase ≡ false
    pub why : AllMoments (Judges h x w t es) h

  -- what is known of the pipe in its place, by these streams and promises, where nothing went astray
  abbrev pub DoomIn : List Moment → Option pipe.Slots → List Stream → Table → List Effect → Type 0
  DoomIn h None xs t es = AllMoments (Idle p) h
  DoomIn h (Some x) xs t es = t.astray ≡ false → Living h x ⊎ Dead h x (as_writable (slice_get xs x.dest.0)) t es

  abbrev pub Doom : List Moment → Option pipe.Slots → Slots → List Effect → Type 0
  Doom h o s es = DoomIn h o s.streams s.promises es

  -- at each moment of a run
  pub record Is (h : List Moment) (s : Slots) (es : List Effect) : Type 0 where
    pub waits : EachWaits s es
    pub known : (i : StreamId) → (g : WritesHistory) × Kept i g s es
    pub doom : Doom h (slice_get s.pipes p.0) s es

  course-last : (ms : List Moment) (e : Effect) (s : Slots) → course_in p (ms ++ moment e s ∷ []) ≡ course_then (course_in p ms) (effect_course p e s)
  course-last [] e s = is_history.right (effect_course p e s) ∙ sym (is_history.left (effect_course p e s))
  course-last (m ∷ ms) e s =
      ap (course_then (effect_course p m.effect m.found)) (course-last ms e s) ∙ sym (is_history.assoc (effect_course p m.effect m.found) (course_in p ms) (effect_course p e s))

  -- effects that are no operation of the pipe

  still : (s : Slots) (e : Effect) → slice_get (row e s).slots.pipes p.0 ≡ slice_get s.pipes p.0 → Idle p (moment e s)
  still s e same a = false_true (is_live (pipe_at p (row e s).slots).phase) (ap (λ (o : Option pipe.Slots). is_live (as_pipe o).phase) same ∙ a.live) a.acts

  other-doom : (h : List Moment) (s : Slots) (e : Effect) (es : List Effect) (o : Option pipe.Slots) → Is h s (e ∷ es) → slice_get (row e s).slots.pipes p.0 ≡ slice_get s.pipes p.0 → effect_course p e s ≡ no_course
      → ((r : Plain) → e ≡ OnPipe p (ActionSettled (Err r)) → ⊥) → Doom h o s (e ∷ es) → Doom (h ++ moment e s ∷ []) o (row e s).slots ((row e s).caused ++ es)
  other-doom h s e es None k same none other a = all_append (Idle p) h (moment e s) a (still s e same)
  other-doom h s e es (Some x) k same none other a =
      λ straight.
      let m : Moment = moment e s in
      let z : Slots = (row e s).slots in
      let course : course_in p (h ++ m ∷ []) ≡ course_in p h = course-last h e s ∙ (ap (course_then (course_in p h)) none ∙ is_history.right (course_in p h)) in
      by straight (a (straight_before s.promises z.promises (row-keeps e s) straight)) course
    where
      by : (row e s).slots.promises.astray ≡ false → Living h x ⊎ Dead h x (writable_at x.dest s) s.promises (e ∷ es) → course_in p (h ++ moment e s ∷ []) ≡ course_in p h
          → Living (h ++ moment e s ∷ []) x ⊎ Dead (h ++ moment e s ∷ []) x (writable_at x.dest (row e s).slots) (row e s).slots.promises ((row e s).caused ++ es)
      by straight (inl l) course = inl (record { live = l.live; idle = all_append (Idle p) h (moment e s) l.idle (still s e same) })
      by straight (inr d) course =
          inr (record {
            shut = d.shut;
            why =
                all_append (Judges (h ++ moment e s ∷ []) x (writable_at x.dest (row e s).slots) (row e s).slots.promises ((row e s).caused ++ es)) h (moment e s)
                (all_map (Judges h x (writable_at x.dest s) s.promises (e ∷ es)) (Judges (h ++ moment e s ∷ []) x (writable_at x.dest (row e s).slots) (row e s).slots.promises ((row e s).caused ++ es))
                (λ n j b f r c. other-doomed p h s e es x straight k.known course other (j b f r c)) h d.why)
                (λ b. absurd (still s e same b));
          })

  -- an operation of the pipe

  self : nat_eq p.0 p.0 ≡ true
  self = grind arith

  not_acting : (phase : Phase) → is_live phase ≡ true → one_if (is_acting phase) ≡ 0
  not_acting Flowing l = refl
  not_acting Waiting l = refl
  not_acting Acting l = cc
  not_acting Over l = cc

  -- a pipe that flows or waits isn't told that its action settled
  untold : (s : Slots) (operation : PipeOperation) (es : List Effect) (x : pipe.Slots) → slice_get s.pipes p.0 ≡ Some x → is_live x.phase ≡ true → Waits p s (OnPipe p operation ∷ es) → (o : Result Plain Plain) → operation ≡ ActionSettled o → ⊥
  untold s operation es x e l w o is =
      let v : Waits p s (OnPipe p (ActionSettled o) ∷ es) = subst (λ (f : PipeOperation). Waits p s (OnPipe p f ∷ es)) is w in
      let one : one_if (nat_eq p.0 p.0) ≡ 1 = ap one_if self in
      let none = not_acting x.phase l in
      let here : one_if (acts_now (slice_get s.pipes p.0)) ≡ one_if (acts_now (Some x)) = ap (λ (o : Option pipe.Slots). one_if (acts_now o)) e in
      absurd (omega (arith, v, one, none, here))

  not_it : (b : Bool) → one_if b ≤ 0 → b ≡ false
  not_it false n = refl
  not_it true n = let m : 1 ≤ 0 = n in absurd (omega arith)

  one-told : (e : Effect) → ends_by p e ≤ 0 → NotTold p e
  one-told (OnPipe q (ActionSettled o)) n = not_it (nat_eq p.0 q.0) n
  one-told (OnPipe q _) n = tt
  one-told _ n = tt

  all-told : (es : List Effect) → all (ends_by p) es ≤ 0 → Each (NotTold p) es
  all-told [] n = tt
  all-told (e ∷ es) n = (one-told e (omega (arith, n)), all-told es (omega (arith, n)))

  behind-told : (s : Slots) (e : Effect) (es : List Effect) (x : pipe.Slots) → slice_get s.pipes p.0 ≡ Some x → is_live x.phase ≡ true → Waits p s (e ∷ es) → Each (NotTold p) es
  behind-told s e es x at l w =
      let none = not_acting x.phase l in
      let here : one_if (acts_now (slice_get s.pipes p.0)) ≡ one_if (acts_now (Some x)) = ap (λ (o : Option pipe.Slots). one_if (acts_now o)) at in
      all-told es (omega (arith, w, none, here))

  shut-same : (s : Slots) (operation : PipeOperation) (x : pipe.Slots) (b : pipe.Acts) → is_live x.phase ≡ false → Move p (ends_at x s) operation x s.promises b → (b.slots.error ≡ x.error) × (is_live b.slots.phase ≡ false)
  shut-same s operation x b l (MoveRests q a e i) = (e, ap is_live q ∙ l)
  shut-same s operation x b l (MoveWaits f q named v e) = false_true (is_live x.phase) named.live l
  shut-same s operation x b l (MoveActs action y q named w is alike) = false_true (is_live x.phase) named.live l
  shut-same s operation x b l (MoveEnds q named w e) = false_true (is_live x.phase) named.live l
  shut-same s operation x b l (MoveFinishes o is q e) = (ap (λ (z : pipe.Slots). z.error) q, ap (λ (z : pipe.Slots). is_live z.phase) q)

  own-state : (h : List Moment) (s : Slots) (operation : PipeOperation) (es : List Effect) (x : pipe.Slots) → slice_get s.pipes p.0 ≡ Some x → Waits p s (OnPipe p operation ∷ es)
      → let b : pipe.Acts = pipe_operation p (ends_at x s) operation (starting x s.promises) in let m : Moment = moment (OnPipe p operation) s in
      pipe_at p (leaves m) ≡ b.slots → course_in p (h ++ m ∷ []) ≡ course_then (course_in p h) (operation_course operation x b.slots) → (now : Bool) → is_live b.slots.phase ≡ now
      → Living h x ⊎ Dead h x (writable_at x.dest s) s.promises (OnPipe p operation ∷ es) → Living (h ++ m ∷ []) b.slots ⊎ Dead (h ++ m ∷ []) b.slots (writable_at x.dest s) b.out.promises (b.out.effects ++ es)
  own-state h s operation es x e w left course true l (inl k) =
      let m : Moment = moment (OnPipe p operation) s in
      inl (record { live = l; idle = all_append (Idle p) h m k.idle (λ a. false_true (is_live (pipe_at p (leaves m)).phase) (ap (λ (y : pipe.Slots). is_live y.phase) left ∙ l) a.acts) })
  own-state h s operation es x e w left course false l (inl k) =
      let m : Moment = moment (OnPipe p operation) s in
      let b : pipe.Acts = pipe_operation p (ends_at x s) operation (starting x s.promises) in
      let v : writable.Slots = writable_at x.dest s in
      let is : pipe_at p s ≡ x = ap as_pipe e in
      let prevent : b.slots.prevent ≡ x.prevent = (each_pipe_keeps_its_ends p (ends_at x s) operation x s.promises).prevent in
      inr (record {
        shut = l;
        why =
            all_append (Judges (h ++ m ∷ []) b.slots v b.out.promises (b.out.effects ++ es)) h m
            (all_map (Idle p) (Judges (h ++ m ∷ []) b.slots v b.out.promises (b.out.effects ++ es)) (λ n i a. absurd (i a)) h k.idle)
            (λ a f r c.
            begins-doomed p operation s x h es v (untold s operation es x e k.live w) k.live l (subst (λ (y : pipe.Slots). y.phase ≡ Flowing) is f.flowing) (subst (λ (q : _). q.close ≡ false) prevent c) r
            (subst (λ (y : pipe.Slots). Unclosed (writable_at y.dest s)) is f.unclosed) (subst (λ (y : pipe.Slots). Failing (writable_at y.dest s)) is f.failing) (behind-told s (OnPipe p operation) es x e k.live w));
      })
  own-state h s operation es x e w left course now l (inr k) =
      let m : Moment = moment (OnPipe p operation) s in
      let b : pipe.Acts = pipe_operation p (ends_at x s) operation (starting x s.promises) in
      let v : writable.Slots = writable_at x.dest s in
      let is : pipe_at p s ≡ x = ap as_pipe e in
      let same = shut-same s operation x b k.shut (each_pipe_moves p (ends_at x s) operation x s.promises) in
      let prevent : b.slots.prevent ≡ x.prevent = (each_pipe_keeps_its_ends p (ends_at x s) operation x s.promises).prevent in
      inr (record {
        shut = same.1;
        why =
            all_append (Judges (h ++ m ∷ []) b.slots v b.out.promises (b.out.effects ++ es)) h m
            (all_map (Judges h x v s.promises (OnPipe p operation ∷ es)) (Judges (h ++ m ∷ []) b.slots v b.out.promises (b.out.effects ++ es))
            (λ n j a f r c. own-doomed p operation s x h es v course (j a f (sym same.0 ∙ r) (subst (λ (q : _). q.close ≡ false) prevent c))) h k.why)
            (λ a. false_true (is_live (pipe_at p s).phase) a.live (ap (λ (y : pipe.Slots). is_live y.phase) is ∙ k.shut));
      })

  own-doom : (h : List Moment) (s : Slots) (operation : PipeOperation) (es : List Effect) (o : Option pipe.Slots) → slice_get s.pipes p.0 ≡ o → Waits p s (OnPipe p operation ∷ es) → Doom h o s (OnPipe p operation ∷ es)
      → let d : Done = on_pipe_at (λ ends. pipe_operation p ends operation) p s o in row (OnPipe p operation) s ≡ d
      → Doom (h ++ moment (OnPipe p operation) s ∷ []) (slice_get d.slots.pipes p.0) d.slots (d.caused ++ es)
  own-doom h s operation es None e w a is =
      subst (λ (o : Option pipe.Slots). Doom (h ++ moment (OnPipe p operation) s ∷ []) o s es) (sym e)
      (all_append (Idle p) h (moment (OnPipe p operation) s) a (λ k. false_true (is_live (as_pipe None).phase) (ap (λ (o : Option pipe.Slots). is_live (as_pipe o).phase) (sym e) ∙ k.live) refl))
  own-doom h s operation es (Some x) e w a is =
      let b : pipe.Acts = pipe_operation p (ends_at x s) operation (starting x s.promises) in
      let d : Done = on_pipe_at (λ ends. pipe_operation p ends operation) p s (Some x) in
      let m : Moment = moment (OnPipe p operation) s in
      let place : slice_get d.slots.pipes p.0 ≡ Some b.slots = place_same s.pipes p.0 x b.slots e in
      let left : pipe_at p (leaves m) ≡ b.slots = ap (λ (f : Done). pipe_at p f.slots) is ∙ ap as_pipe place in
      let told : course_in p (h ++ m ∷ []) ≡ course_then (course_in p h) (operation_course operation x b.slots) =
      course-last h (OnPipe p operation) s ∙ ap (course_then (course_in p h)) (own-course operation s x b e left) in
      let same : b.slots.dest ≡ x.dest = (each_pipe_keeps_its_ends p (ends_at x s) operation x s.promises).dest in
      subst (λ (o : Option pipe.Slots). Doom (h ++ m ∷ []) o d.slots (b.out.effects ++ es)) (sym place)
      (λ straight.
      subst (λ (j : StreamId). Living (h ++ m ∷ []) b.slots ⊎ Dead (h ++ m ∷ []) b.slots (writable_at j s) b.out.promises (b.out.effects ++ es)) (sym same)
      (own-state h s operation es x e w left told (is_live b.slots.phase) refl (a (straight_before s.promises b.out.promises (operation-keeps p (ends_at x s) operation x s.promises) straight))))
    where
      own-course : (operation : PipeOperation) (s : Slots) (x : pipe.Slots) (b : pipe.Acts) → slice_get s.pipes p.0 ≡ Some x → pipe_at p (row (OnPipe p operation) s).slots ≡ b.slots → effect_course p (OnPipe p operation) s ≡ operation_course operation x b.slots
      own-course operation s x b e left = rw (self, e, left) refl

  own_row : (h : List Moment) (s : Slots) (operation : PipeOperation) (es : List Effect) → Is h s (OnPipe p operation ∷ es)
      → Doom (h ++ moment (OnPipe p operation) s ∷ []) (slice_get (row (OnPipe p operation) s).slots.pipes p.0) (row (OnPipe p operation) s).slots ((row (OnPipe p operation) s).caused ++ es)
  unfolding row
  own_row h s operation es k = own-doom h s operation es (slice_get s.pipes p.0) refl (k.waits p) k.doom refl

  other_place : (q : PipeId) (operation : PipeOperation) (s : Slots) (o : Option pipe.Slots) → nat_eq p.0 q.0 ≡ false → slice_get (on_pipe_at (λ ends. pipe_operation q ends operation) q s o).slots.pipes p.0 ≡ slice_get s.pipes p.0
  other_place q operation s None n = refl
  other_place q operation s (Some x) n = slice_get-set_other s.pipes q.0 p.0 _ (λ i. unequal_numbers p.0 q.0 n (sym i))

  beside : (q : PipeId) (operation : PipeOperation) (s : Slots) → nat_eq p.0 q.0 ≡ false → slice_get (row (OnPipe q operation) s).slots.pipes p.0 ≡ slice_get s.pipes p.0
  unfolding row
  beside q operation s n = other_place q operation s (slice_get s.pipes q.0) n

  not_own : (q : PipeId) (operation operation₂ : PipeOperation) → nat_eq p.0 q.0 ≡ false → OnPipe q operation ≡ OnPipe p operation₂ → ⊥
  not_own q operation operation₂ n e =
      let is : q ≡ p = cc in
      let same : nat_eq p.0 p.0 ≡ false = subst (λ (r : PipeId). nat_eq p.0 r.0 ≡ false) is n in
      false_true (nat_eq p.0 p.0) self same

  place_row : (h : List Moment) (s : Slots) (e : Effect) (es : List Effect) → slice_get (row e s).slots.pipes p.0 ≡ slice_get s.pipes p.0 → effect_course p e s ≡ no_course → ((r : Plain) → e ≡ OnPipe p (ActionSettled (Err r)) → ⊥) → Is h s (e ∷ es)
      → Doom (h ++ moment e s ∷ []) (slice_get (row e s).slots.pipes p.0) (row e s).slots ((row e s).caused ++ es)
  place_row h s e es same none other k =
      subst (λ (o : Option pipe.Slots). Doom (h ++ moment e s ∷ []) o (row e s).slots ((row e s).caused ++ es)) (sym same) (other-doom h s e es (slice_get s.pipes p.0) k same none other k.doom)

  pipe_row : (h : List Moment) (s : Slots) (q : PipeId) (operation : PipeOperation) (es : List Effect) (same : Bool) → nat_eq p.0 q.0 ≡ same → Is h s (OnPipe q operation ∷ es)
      → Doom (h ++ moment (OnPipe q operation) s ∷ []) (slice_get (row (OnPipe q operation) s).slots.pipes p.0) (row (OnPipe q operation) s).slots ((row (OnPipe q operation) s).caused ++ es)
  pipe_row h s q operation es false n k = place_row h s (OnPipe q operation) es (beside q operation s n) (rw n refl) (λ r e. not_own q operation (ActionSettled (Err r)) n e) k
  pipe_row h s q operation es true n k =
      let is : p ≡ q = ap (λ (n : ℕ). record { 0 = n }) (eq_numbers p.0 q.0 n) in
      subst (λ (z : PipeId). Is h s (OnPipe z operation ∷ es) → Doom (h ++ moment (OnPipe z operation) s ∷ []) (slice_get (row (OnPipe z operation) s).slots.pipes p.0) (row (OnPipe z operation) s).slots ((row (OnPipe z operation) s).caused ++ es)) is
      (own_row h s operation es) k

  plain_row : (h : List Moment) (s : Slots) (e : Effect) (es : List Effect) → IsNoPipe e → effect_course p e s ≡ no_course → ((r : Plain) → e ≡ OnPipe p (ActionSettled (Err r)) → ⊥) → Is h s (e ∷ es)
      → Doom (h ++ moment e s ∷ []) (slice_get (row e s).slots.pipes p.0) (row e s).slots ((row e s).caused ++ es)
  plain_row h s e es n none other k = place_row h s e es (ap (λ (ps : List pipe.Slots). slice_get ps p.0) (row-pipes e s n)) none other k

  row-doom : (h : List Moment) (s : Slots) (e : Effect) (es : List Effect) → Is h s (e ∷ es) → Doom (h ++ moment e s ∷ []) (slice_get (row e s).slots.pipes p.0) (row e s).slots ((row e s).caused ++ es)
  row-doom h s (OnPipe q operation) es k = pipe_row h s q operation es (nat_eq p.0 q.0) refl k
  row-doom h s e es k = plain_row h s e es tt refl (λ r f. cc) k

  pub row-is : (h : List Moment) (s : Slots) (e : Effect) (es : List Effect) → Is h s (e ∷ es) → Is (h ++ effect_moment e s) (row e s).slots ((row e s).caused ++ es)
  row-is h s e es k = record {
    waits = waits-stays.row s e es k.waits;
    known = λ i. let g = k.known i in (writes_then g.0 (effect_writes i e s), (writes.goes i).row g.0 s e es g.1);
    doom = row-doom h s e es k;
  }
