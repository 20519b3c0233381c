-- How a pipe without an error leaves a destination that it was to close (`each_unfailing_pipe_closes`).
use Rattle.std.proofs.Common.{◌≡◌, Bool, true, false, ◌⊎◌, inl, inr, nat_eq, ℕ, zero, suc, List, [], ◌∷◌, ◌++◌, Option, Some, None, Result, slice_get, refl, sym, ap, subst, ◌∙◌, arith}
use Rattle.ws_value.specs.declared.ids.PipeId.{PipeId}
use Rattle.ws_value.specs.declared.ids.PromiseId.{PromiseId}
use Rattle.ws_value.specs.declared.ids.StreamId.{StreamId}
use Rattle.ws_value.specs.declared.value.Plain.{Plain}
use Rattle.ws_steps.specs.declared.calls.Call.{Call}
use Rattle.ws_steps.specs.declared.effects.Effect.{Effect}
use Rattle.ws_steps.specs.declared.effects.Effect.TheVariants.{Writable, Pipe}
use Rattle.ws_steps.specs.declared.pipes.{Action.{Action}, Action.TheVariants.{AbortDest, CancelSource, CloseDest, BySignal}, Ends.{Ends}, Phase.{Phase}, Phase.TheVariants.{Flowing, Waiting, Acting, Over}, PipeOperation.{PipeOperation}, PipeOperation.TheVariants.{ActionSettled}, Prevent.{Prevent}}
use Rattle.ws_steps.specs.declared.writable.WritableOperation.{WritableOperation}
use Rattle.ws_steps.specs.declared.writable.WritableOperation.TheVariants as names
use Rattle.ws_steps.specs.Calls.{begin}
use Rattle.ws_steps.specs.Histories.{is_same}
use Rattle.ws_steps.specs.Jobs.{job_effects}
use Rattle.ws_steps.specs.Operations.{pipe_operation, writable_operation}
use Rattle.ws_steps.specs.Pipes as pipe
use Rattle.ws_steps.specs.Pipes.{is_flowing}
use Rattle.ws_steps.specs.Promises.{Table, next_id, after_next_job, watch}
use Rattle.ws_steps.specs.Run.{Entry, run, older, after_event}
use Rattle.ws_steps.specs.Slots.{Slots, Stream, empty, with_promises, as_writable, is_writable_stream, ends_at, put_pipe, on_pipe_at, on_writable, writable_at, has_writable}
use Rattle.ws_steps.specs.Turns.{row}
use Rattle.ws_steps.specs.WritableHistory.{Writes}
use Rattle.ws_laws.proofs.Tables.{eq_numbers, no_writable_there, writable_acts}
use Rattle.ws_laws.proofs.Walker.{Stays, run-stays}
use Rattle.ws_laws.proofs.WritableDoes.{IsHandOn}
use Rattle.ws_writable_laws.proofs.Agenda.{Kept, found, Elsewhere, row-leaves, same_or}
use Rattle.ws_writable_laws.proofs.Expects.{abort_settled-expects}
use Rattle.ws_promise_laws.proofs.Runs.{Straight, straight-stays, straight-heard, straight-empty}
use Rattle.ws_pipe_laws.specs.pipes.PipeHistory.{is_live}
use Rattle.ws_pipe_laws.specs.pipes.PipeMoves.{starting, Move, MoveRests, MoveWaits, MoveActs, MoveEnds, MoveFinishes, IsNamed, acted, hears_action, shut_in}
use Rattle.ws_pipe_laws.proofs.pipes.Courses.{place_same}
use Rattle.ws_pipe_laws.proofs.pipes.Kept.{each_pipe_keeps_its_ends}
use Rattle.ws_pipe_laws.proofs.pipes.Moves.{each_pipe_moves}
use Rattle.ws_end_laws.proofs.hosts.Acts.{NotOf}
use Rattle.ws_end_laws.proofs.hosts.Dests.{own_after, row-there}
use Rattle.ws_end_laws.proofs.hosts.Fates.{Neat}
use Rattle.ws_end_laws.proofs.hosts.Making.{Adds, call-adds}
use Rattle.ws_end_laws.proofs.hosts.PipedMoves.{close_named}
use Rattle.ws_end_laws.proofs.hosts.PipedRuns.{SamePlace, call-same}
use Rattle.ws_end_laws.specs.successes.Successes.{EachUnfailingPipeCloses}
use Rattle.ws_end_laws.proofs.successes.Sated.{wants, AbortEnds, operation-sated, propagating-sated}
use Rattle.ws_end_laws.proofs.hosts.Places.{told_acting, other_there}
use Rattle.ws_laws.proofs.Truth.{false_true}

-- the destination takes no more, by each effect

module _ (i : StreamId) where
  abbrev Past : Slots → Type 0
  Past s = wants (writable_at i s) ≡ false

  neat : (operation : WritableOperation) (s : Slots) (h : Writes) (es : List Effect) → Kept i h s (Writable i operation ∷ es) → (IsHandOn operation → ⊥) → Neat (writable_at i s)
  neat operation s h es k u m = let f = found i operation h es s u k in grind arith

  abort_ends : (operation : WritableOperation) (s : Slots) (h : Writes) (es : List Effect) → Kept i h s (Writable i operation ∷ es) → AbortEnds i operation (writable_acts i s)
  abort_ends (names.AbortSettled p o) s h es k = abort_settled-expects i h es s p o k
  abort_ends _ s h es k = tt

  -- where there is no such stream, nothing is done
  absent : (s : Slots) → has_writable i s ≡ false → Past s
  absent s e = ap wants (no_writable_there (slice_get s.streams i.0) e)

  own-past : (operation : WritableOperation) (s : Slots) (es : List Effect) → Straight s (Writable i operation ∷ es) → Past s → Past (row (Writable i operation) s).slots
  unfolding row
  own-past operation s es k q = by (has_writable i s) refl
    where
      by : (b : Bool) → has_writable i s ≡ b → Past (on_writable (writable_operation i operation) i s).slots
      by true h =
          let known = k.known i in
          ap wants (own_after i operation s h).0 ∙ operation-sated i operation (writable_acts i s) (λ u. neat operation s known.0 es known.1 u) (abort_ends operation s known.0 es known.1) q
      by false h = rw h q

  elsewhere-past : (s : Slots) (e : Effect) → Elsewhere i e → Past s → Past (row e s).slots
  elsewhere-past s e x q = ap wants (row-leaves i e s x).place ∙ q

  pub row-past : (s : Slots) (e : Effect) (es : List Effect) → Straight s (e ∷ es) → Past s → Past (row e s).slots
  row-past s (Writable j operation) es k q =
      same_or (λ l. Straight s (Writable l operation ∷ es) → Past (row (Writable l operation) s).slots) i j (is_same i j) refl (λ n k. elsewhere-past s (Writable j operation) n q) (λ k. own-past operation s es k q) k
  row-past s e es k q = elsewhere-past s e tt q

  pub row-closes : (s : Slots) (d : PromiseId) → Past (row (Writable i (names.ClosePropagating d)) s).slots
  unfolding row
  row-closes s d = by (has_writable i s) refl
    where
      by : (b : Bool) → has_writable i s ≡ b → Past (on_writable (writable_operation i (names.ClosePropagating d)) i s).slots
      by true h = ap wants (own_after i (names.ClosePropagating d) s h).0 ∙ propagating-sated i d (writable_acts i s)
      by false h = rw h (absent s h)

  -- it takes no more, or the next effect closes it
  pub data Closing (s : Slots) (es : List Effect) : Type 0 where
    Closed : Past s → Closing s es
    Next : (d : PromiseId) (rest : List Effect) → es ≡ Writable i (names.ClosePropagating d) ∷ rest → Closing s es

  first-same : (e c : Effect) (es cs : List Effect) → e ∷ es ≡ c ∷ cs → e ≡ c
  first-same e c es cs f = cc

  pub row-closing : (s : Slots) (e : Effect) (es : List Effect) → Straight s (e ∷ es) → Closing s (e ∷ es) → Past (row e s).slots
  row-closing s e es k (Closed q) = row-past s e es k q
  row-closing s e es k (Next d rest f) = subst (λ (c : Effect). Past (row c s).slots) (sym (first-same e (Writable i (names.ClosePropagating d)) es rest f)) (row-closes s d)

  pub rests-past : (s : Slots) → Closing s [] → Past s
  rests-past s (Closed q) = q
  rests-past s (Next d rest f) = absurd (cc)

some_same : (x y : pipe.Slots) → ◌≡◌ {A = Option pipe.Slots} (Some x) (Some y) → x ≡ y
some_same x y e = cc

some_action : (a b : Action) → ◌≡◌ {A = Option Action} (Some a) (Some b) → a ≡ b
some_action a b e = cc

last_or : (ps : List pipe.Slots) (y x : pipe.Slots) (n : ℕ) → slice_get (ps ++ y ∷ []) n ≡ Some x → (slice_get ps n ≡ Some x) ⊎ (x ≡ y)
last_or [] y x zero e = inr (sym (some_same y x e))
last_or [] y x (suc n) e = absurd (cc)
last_or (z ∷ ps) y x zero e = inl e
last_or (z ∷ ps) y x (suc n) e = last_or ps y x n e

module _ (p : PipeId) where
  -- of a pipe that isn't to leave its destination open: a shutdown without an error is a close; and once that is the action, the destination takes no more
  record Holds (x : pipe.Slots) (s : Slots) (es : List Effect) : Type 0 where
    stands : has_writable x.dest s ≡ true
    plain : is_flowing x.phase ≡ false → x.error ≡ None → x.action ≡ Some CloseDest
    late : is_live x.phase ≡ false → x.error ≡ None → Closing x.dest s es

  record Is (s : Slots) (es : List Effect) : Type 0 where
    straight : Straight s es
    each : (x : pipe.Slots) → slice_get s.pipes p.0 ≡ Some x → x.prevent.close ≡ false → Holds x s es

  -- an effect that is no operation of the pipe

  other-row : (s : Slots) (e : Effect) (es : List Effect) → NotOf p e → Is s (e ∷ es) → Is (row e s).slots ((row e s).caused ++ es)
  other-row s e es n k = record {
    straight = straight-stays.row s e es k.straight;
    each = λ x f c.
        let h : Holds x s (e ∷ es) = k.each x (sym (other_there p e s n) ∙ f) c in
        record { stands = row-there x.dest s e h.stands; plain = h.plain; late = λ l m. Closed (row-closing x.dest s e es k.straight (h.late l m)) };
  }

  -- one that is

  module _ (s : Slots) (operation : PipeOperation) (es : List Effect) (x : pipe.Slots) (h : Holds x s (Pipe p operation ∷ es)) (closes : x.prevent.close ≡ false)
      (acting : (o : Result Plain Plain) → operation ≡ ActionSettled o → x.phase ≡ Acting) where
    abbrev ends : Ends
    ends = ends_at x s

    record Moved (b : pipe.Acts) : Type 0 where
      plain : is_flowing b.slots.phase ≡ false → b.slots.error ≡ None → b.slots.action ≡ Some CloseDest
      late : is_live b.slots.phase ≡ false → b.slots.error ≡ None → (wants (writable_at x.dest s) ≡ false) ⊎ ((d : PromiseId) × (rest : List Effect) × (b.out.effects ≡ Writable x.dest (names.ClosePropagating d) ∷ rest))

    was : is_live x.phase ≡ false → x.error ≡ None → wants (writable_at x.dest s) ≡ false
    was l m = by (h.late l m)
      where
        by : Closing x.dest s (Pipe p operation ∷ es) → wants (writable_at x.dest s) ≡ false
        by (Closed q) = q
        by (Next d rest f) = let n : Pipe p operation ≡ Writable x.dest (names.ClosePropagating d) = first-same x.dest (Pipe p operation) (Writable x.dest (names.ClosePropagating d)) es rest f in absurd (cc)

    named_plain : (y : pipe.Slots) (phase : Phase) → x.phase ≡ phase → IsNamed ends operation x y → y.error ≡ None → y.action ≡ Some CloseDest
    named_plain y Flowing f m e = close_named x.prevent ends operation y.action y.error (m.starts f) e closes
    named_plain y Waiting f m e = let same = m.keeps f in same.0 ∙ h.plain (ap is_flowing f) (sym same.1 ∙ e)
    named_plain y Acting f m e = false_true (is_live x.phase) m.live (ap is_live f)
    named_plain y Over f m e = false_true (is_live x.phase) m.live (ap is_live f)

    shut_dest : (c : PipeOperation) (phase : Phase) (a : Option Action) (e : Option Plain) → (shut_in c phase a e x).dest ≡ x.dest
    shut_dest c phase a e = grind arith

    acts-first : (y : pipe.Slots) (t : Table) (action : Action) → action ≡ CloseDest → y.dest ≡ x.dest
        → (d : PromiseId) × (rest : List Effect) × ((acted p ends y t action).out.effects ≡ Writable x.dest (names.ClosePropagating d) ∷ rest)
    acts-first y t CloseDest e dest = (next_id t, hears_action p (next_id t) ∷ [], ap (λ (j : StreamId). Writable j (names.ClosePropagating (next_id t)) ∷ hears_action p (next_id t) ∷ []) dest)
    acts-first y t (CancelSource r) e dest = absurd (cc)
    acts-first y t (AbortDest r) e dest = absurd (cc)
    acts-first y t (BySignal r) e dest = absurd (cc)

    moved : (b : pipe.Acts) → Move p ends operation x s.promises b → Moved b
    moved b (MoveRests f a e idle) = record {
      plain = λ l n. a ∙ h.plain (sym (ap is_flowing f) ∙ l) (sym e ∙ n);
      late = λ l n. inl (was (sym (ap is_live f) ∙ l) (sym e ∙ n));
    }
    moved b (MoveWaits f e m w o) =
        let phase : b.slots.phase ≡ Waiting = ap (λ (y : pipe.Slots). y.phase) e in
        record { plain = λ l n. named_plain b.slots x.phase refl m n; late = λ l n. false_true (is_live b.slots.phase) (ap is_live phase) l }
    moved b (MoveActs action w e m hw o same) =
        let is_action : w.action ≡ Some action = ap (λ (y : pipe.Slots). y.action) e in
        let plain : b.slots.error ≡ None → w.action ≡ Some CloseDest = λ n. named_plain w x.phase refl m (sym same.error ∙ n) in
        let dest : w.dest ≡ x.dest = ap (λ (y : pipe.Slots). y.dest) e ∙ shut_dest operation Acting (Some action) w.error in
        record {
          plain = λ l n. same.action ∙ plain n;
          late = λ l n.
              let k = acts-first w s.promises action (some_action action CloseDest (sym is_action ∙ plain n)) dest in
              inr (k.0, k.1, ap (λ (y : pipe.Acts). y.out.effects) o ∙ k.2);
        }
    moved b (MoveEnds e m hw o) =
        let action : b.slots.action ≡ None = ap (λ (y : pipe.Slots). y.action) e in
        record { plain = λ l n. named_plain b.slots x.phase refl m n; late = λ l n. let f : None ≡ Some CloseDest = sym action ∙ named_plain b.slots x.phase refl m n in absurd (cc) }
    moved b (MoveFinishes r f e o) =
        let is_acting : x.phase ≡ Acting = acting r f in
        let error : b.slots.error ≡ x.error = ap (λ (y : pipe.Slots). y.error) e in
        record {
          plain = λ l n. ap (λ (y : pipe.Slots). y.action) e ∙ h.plain (ap is_flowing is_acting) (sym error ∙ n);
          late = λ l n. inl (was (ap is_live is_acting) (sym error ∙ n));
        }

  own-at : (s : Slots) (operation : PipeOperation) (es : List Effect) (o : Option pipe.Slots) → slice_get s.pipes p.0 ≡ o → Is s (Pipe p operation ∷ es)
      → (x : pipe.Slots) → slice_get (on_pipe_at (λ ends. pipe_operation p ends operation) p s o).slots.pipes p.0 ≡ Some x → x.prevent.close ≡ false
      → Holds x (on_pipe_at (λ ends. pipe_operation p ends operation) p s o).slots ((on_pipe_at (λ ends. pipe_operation p ends operation) p s o).caused ++ es)
  own-at s operation es None e k x f c = let n : None ≡ Some x = sym e ∙ f in absurd (cc)
  own-at s operation es (Some y) e k x f c =
      let b : pipe.Acts = pipe_operation p (ends_at y s) operation (starting y s.promises) in
      let kept = each_pipe_keeps_its_ends p (ends_at y s) operation y s.promises in
      let is : b.slots ≡ x = some_same b.slots x (sym (place_same s.pipes p.0 y b.slots e) ∙ f) in
      let closes : y.prevent.close ≡ false = sym (ap (λ (z : Prevent). z.close) kept.prevent) ∙ (ap (λ (z : pipe.Slots). z.prevent.close) is ∙ c) in
      let h : Holds y s (Pipe p operation ∷ es) = k.each y e closes in
      let m : Moved s operation es y h closes (told_acting p s operation es y e (k.straight.waits p)) b = moved s operation es y h closes (told_acting p s operation es y e (k.straight.waits p)) b (each_pipe_moves p (ends_at y s) operation y s.promises) in
      subst (λ (z : pipe.Slots). Holds z (put_pipe p s b).slots ((put_pipe p s b).caused ++ es)) is (record {
        stands = subst (λ (j : StreamId). has_writable j s ≡ true) (sym kept.dest) h.stands;
        plain = m.plain;
        late = λ l n. subst (λ (j : StreamId). Closing j (put_pipe p s b).slots ((put_pipe p s b).caused ++ es)) (sym kept.dest) (by y b (m.late l n));
      })
    where
      by : (y : pipe.Slots) (b : pipe.Acts) → (wants (writable_at y.dest s) ≡ false) ⊎ ((d : PromiseId) × (rest : List Effect) × (b.out.effects ≡ Writable y.dest (names.ClosePropagating d) ∷ rest))
          → Closing y.dest (put_pipe p s b).slots ((put_pipe p s b).caused ++ es)
      by y b (inl q) = Closed q
      by y b (inr (d, rest, e)) = Next d (rest ++ es) (ap (λ (cs : List Effect). cs ++ es) e)

  own-row : (s : Slots) (operation : PipeOperation) (es : List Effect) → let e : Effect = Pipe p operation in Is s (e ∷ es) → Is (row e s).slots ((row e s).caused ++ es)
  unfolding row
  own-row s operation es k = record { straight = straight-stays.row s (Pipe p operation) es k.straight; each = own-at s operation es (slice_get s.pipes p.0) refl k }

  pipe-row : (s : Slots) (q : PipeId) (operation : PipeOperation) (es : List Effect) (same : Bool) → nat_eq p.0 q.0 ≡ same → Is s (Pipe q operation ∷ es) → Is (row (Pipe q operation) s).slots ((row (Pipe q operation) s).caused ++ es)
  pipe-row s q operation es false n k = other-row s (Pipe q operation) es n k
  pipe-row s q operation es true n k =
      subst (λ (r : PipeId). Is s (Pipe r operation ∷ es) → Is (row (Pipe r operation) s).slots ((row (Pipe r operation) s).caused ++ es)) (ap (λ (n : ℕ). record { 0 = n }) (eq_numbers p.0 q.0 n)) (own-row s operation es) k

  row-is : (s : Slots) (e : Effect) (es : List Effect) → Is s (e ∷ es) → Is (row e s).slots ((row e s).caused ++ es)
  row-is s (Pipe q operation) es k = pipe-row s q operation es (nat_eq p.0 q.0) refl k
  row-is s e es k = other-row s e es tt k

  -- calls, jobs and events

  -- where the streams are the same
  same-holds : (x : pipe.Slots) (s z : Slots) (cs : List Effect) → SamePlace x.dest s z → Holds x s [] → Holds x z cs
  same-holds x s z cs place h = record {
    stands = ap is_writable_stream place ∙ h.stands;
    plain = h.plain;
    late = λ l n. Closed (ap (λ (o : Option Stream). wants (as_writable o)) place ∙ rests-past x.dest s (h.late l n));
  }

  call-each : (c : Call) (s : Slots) → Is s [] → Adds s (begin c s) → (x : pipe.Slots) → slice_get (begin c s).done.slots.pipes p.0 ≡ Some x → x.prevent.close ≡ false → Holds x (begin c s).done.slots (begin c s).done.caused
  call-each c s k (inl e) x f o = let h = k.each x (sym (ap (λ (ps : List pipe.Slots). slice_get ps p.0) e) ∙ f) o in same-holds x s (begin c s).done.slots (begin c s).done.caused (call-same p x.dest c s h.stands) h
  call-each c s k (inr new) x f o = by (last_or s.pipes new.slots x p.0 (sym (ap (λ (ps : List pipe.Slots). slice_get ps p.0) new.made) ∙ f))
    where
      by : (slice_get s.pipes p.0 ≡ Some x) ⊎ (x ≡ new.slots) → Holds x (begin c s).done.slots (begin c s).done.caused
      by (inl e) = let h = k.each x e o in same-holds x s (begin c s).done.slots (begin c s).done.caused (call-same p x.dest c s h.stands) h
      by (inr e) = rw e (record {
        stands = new.stands;
        plain = λ l n. false_true (is_flowing new.slots.phase) (ap is_flowing new.flows) l;
        late = λ l n. false_true (is_live new.slots.phase) (ap is_live new.flows) l;
      })

  is-stays : Stays Is
  is-stays = record {
    row = row-is;
    call = λ s c k. record { straight = straight-stays.call s c k.straight; each = call-each c s k (call-adds c s) };
    job = λ s job e k. record { straight = straight-stays.job s job e k.straight; each = λ x f o. same-holds x s (with_promises (after_next_job s.promises) s) (job_effects job) refl (k.each x f o) };
    answered = λ s q k. record { straight = straight-stays.answered s q k.straight; each = λ x f o. same-holds x s (with_promises (watch q s.promises) s) [] refl (k.each x f o) };
    older = λ s k. record { straight = straight-stays.older s k.straight; each = λ x f o. same-holds x s (older s) [] refl (k.each x f o) };
  }

  is-heard : (s : Slots) → Is s [] → Is (after_event s) []
  is-heard s k = record { straight = straight-heard s k.straight; each = λ x f o. same-holds x s (after_event s) [] refl (k.each x f o) }

  is-empty : Is empty []
  is-empty = record { straight = straight-empty; each = λ x f o. absurd (cc) }

  run-is : (entries : List Entry) → Is (run entries empty) []
  run-is entries = run-stays Is is-stays is-heard entries empty is-empty

pub each_unfailing_pipe_closes : EachUnfailingPipeCloses
each_unfailing_pipe_closes entries p x e l c n = rests-past x.dest (run entries empty) (((run-is p entries).each x e c).late l n)
