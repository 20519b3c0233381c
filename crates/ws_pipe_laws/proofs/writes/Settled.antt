-- Each write that a pipe made has settled, or its reaction is registered or stands on the agenda; `none_acts_while_a_write_is_open` follows.
use Rattle.std.proofs.Common.{◌≡◌, ◌⊎◌, inl, inr, ⊎_elim, ℕ, zero, suc, ◌+◌, ◌≤◌, ◌<◌, Bool, true, false, nat_eq, if◌then◌else◌, List, [], ◌∷◌, ◌++◌, length, Option, Some, None, Result, slice_get, refl, sym, ap, subst, ◌∙◌, append_assoc, append-nil, arith}
use Rattle.std.specs.Option.{option_map}
use Rattle.ws_value.specs.declared.{ids.PipeId.{PipeId}, ids.PromiseId.{PromiseId}}
use Rattle.ws_value.specs.declared.value.{Outcome.{Outcome}, Outcome.TheVariants.{Pending, Fulfilled, Given, Finished, Rejected}, Plain.{Plain}, Value.{Value}}
use Rattle.ws_steps.specs.declared.calls.{Call.{Call}}
use Rattle.ws_steps.specs.declared.effects.Effect.{Effect}
use Rattle.ws_steps.specs.declared.effects.Effect.TheVariants.{Pipe as OnPipe, Give}
use Rattle.ws_steps.specs.declared.effects.{Gift.TheVariants.{This}, Use.TheVariants.{React}}
use Rattle.ws_steps.specs.declared.pipes.{Phase.{Phase}, Phase.TheVariants.{Flowing, Waiting, Acting, Over}, PipeOperation.{PipeOperation}, PipeOperation.TheVariants.{WriteChunk}}
use Rattle.ws_steps.specs.declared.promises.{Job.{Job}, Job.TheVariants.{Reaction as ReactionJob, Follow, Settle as SettleJob, Micro as MicroJob}, Reaction.{Reaction}, Reaction.TheVariants.{Perform, Adopt}, Step.TheVariants.{PipeWrote}}
use Rattle.ws_steps.specs.Calls.{begin}
use Rattle.ws_steps.specs.Jobs.{job_effects}
use Rattle.ws_steps.specs.Operations.{pipe_operation}
use Rattle.ws_pipe_laws.specs.pipes.PipeMoves.{starting}
use Rattle.ws_pipe_laws.specs.pipes.PipeReads.{one_if}
use Rattle.ws_pipe_laws.specs.pipes.PipeWrites.{of_write, AllSettled, AllSince, leaves, BeginsToAct, HasNothingLeft, NoneActsWhileAWriteIsOpen}
use Rattle.ws_steps.specs.Pipes as pipe
use Rattle.ws_steps.specs.Pipes.{Acts, write_in, write_held, write_chunk}
use Rattle.ws_steps.specs.Promises as promises
use Rattle.ws_steps.specs.Promises.{Table, live, entry_at, with_entry, next_id, fresh, is_pending, is_pending_outcome, is_pending_at, is_open_entry, settled, settle, answer, react, react_entry, react_by, enqueue_job, job_of, follow, unfollow, queue_micro, tell, use_gift, watch, next_job, first_job, after_first, after_next_job, taken, went_astray}
use Rattle.ws_steps.specs.Run.{Entry, run, after_event}
use Rattle.ws_steps.specs.Slots.{Slots, Done, empty, ends_at, as_pipe, on_pipe_at}
use Rattle.ws_steps.specs.Turns.{Moment, row}
use Rattle.ws_steps.proofs.PromiseLaws.{entry_within, entry_at-with_entry_same, entry_at-with_entry_other, length-with_entry, entry_at-fresh, length-fresh}
use Rattle.ws_laws.proofs.Begin.{begin-makes}
use Rattle.ws_laws.proofs.Cases.{Puts, settle-cases, answer-cases, react-cases, follow-cases, unfollow-cases, watch-cases}
use Rattle.ws_laws.proofs.Rows.{Changes, row-changes}
use Rattle.ws_laws.proofs.Tables.{eq_numbers, unequal_numbers}
use Rattle.ws_laws.proofs.Walker.{GoesUntold, RestsUntold, run-holds}
use Rattle.ws_laws.proofs.Weights.{of_reactions, of_entry, of_entries, weigh}
use Rattle.ws_promise_laws.proofs.Acting.{EachWaits, waits-stays, waits-heard, none-waits}
use Rattle.ws_writable_laws.proofs.Shape.{of_reaction, weight, all, all-append}
use Rattle.ws_pipe_laws.specs.pipes.PipeHistory.{run_moments, held_promise, operation_promises, effect_moment, effect_promises, promises_made}
use Rattle.ws_pipe_laws.proofs.writes.Orderly.{moment, moments_history, row-orderly, unsettled_at}
use Rattle.ws_pipe_laws.proofs.writes.Owed.{EachOwes, Owes, owes-stays, owes-heard, none-owes}
use Rattle.ws_pipe_laws.proofs.writes.Paying.{pays}

settled-over : (o : Result Plain Plain) → is_pending (settled o) ≡ false
settled-over o = grind arith

reactions-append : (f : Reaction → ℕ) (xs ys : List Reaction) → of_reactions f (xs ++ ys) ≡ of_reactions f xs + of_reactions f ys
reactions-append f [] ys = omega arith
reactions-append f (x ∷ xs) ys = let n = reactions-append f xs ys in omega (arith, n)

-- whether a promise in this place is pending
abbrev waits : Option promises.Entry → Bool
waits x = is_pending_outcome (option_map (λ (e : promises.Entry). e.outcome) x)

same_number : (n : ℕ) → nat_eq n n ≡ true
same_number n = grind arith

-- one of these is there
one_of : (a b c : ℕ) → 1 ≤ a + (b + c) → (1 ≤ a) ⊎ ((1 ≤ b) ⊎ (1 ≤ c))
one_of zero zero c n = inr (inr (omega (arith, n)))
one_of zero (suc b) c n = inr (inl (omega arith))
one_of (suc a) b c n = inl (omega arith)

entry_few : (f : Reaction → ℕ) (es : List (Option promises.Entry)) (n : ℕ) → of_entry f (live (slice_get es n)) ≤ of_entries f es
entry_few f [] n = omega arith
entry_few f (x ∷ xs) zero = few x
  where
    few : (x : Option promises.Entry) → of_entry f (live (Some x)) ≤ of_entry f x + of_entries f xs
    few None = omega arith
    few (Some e) = omega arith
entry_few f (x ∷ xs) (suc n) = let h = entry_few f xs n in omega (arith, h)

module _ (p : PipeId) (d : PromiseId) where
  -- the weight of the reactions to a write of the pipe in this place
  abbrev reacts_in : Option promises.Entry → ℕ
  reacts_in x = of_entry (of_reaction (of_write p)) x

  abbrev Fine : ℕ → Option promises.Entry → Type 0
  Fine n x = (waits x ≡ false) ⊎ (n ≤ reacts_in x)

  -- the promise was made, and it has settled, or has n such reactions
  pub record Has (n : ℕ) (t : Table) : Type 0 where
    pub made : d.0 < length t.entries
    pub good : Fine n (entry_at t d)

  same_place : (n : ℕ) (t z : Table) → length t.entries ≤ length z.entries → entry_at z d ≡ entry_at t d → Has n t → Has n z
  same_place n t z l e h = record { made = let m = h.made in omega (arith, m, l); good = rw e h.good }

  kept_by : (n : ℕ) (e f : promises.Entry) → (is_pending f.outcome ≡ false) ⊎ ((f.outcome ≡ e.outcome) × (of_reactions (of_reaction (of_write p)) e.reactions ≤ of_reactions (of_reaction (of_write p)) f.reactions))
      → Fine n (Some e) → Fine n (Some f)
  kept_by n e f (inl over) h = inl over
  kept_by n e f (inr k) (inl over) = inl (ap is_pending k.0 ∙ over)
  kept_by n e f (inr k) (inr r) = let m = k.1 in inr (omega (arith, m, r))

  -- the place of promise q is written: it has settled, or keeps what it had
  put-has : (n : ℕ) (q : PromiseId) (t z : Table) (e f : promises.Entry) (more : List Job) (same : Bool) → same ≡ nat_eq q.0 d.0 → Puts q t z e f more
      → (is_pending f.outcome ≡ false) ⊎ ((f.outcome ≡ e.outcome) × (of_reactions (of_reaction (of_write p)) e.reactions ≤ of_reactions (of_reaction (of_write p)) f.reactions))
      → Has n t → Has n z
  put-has n q t z e f more true s w k h =
      let is : q ≡ d = ap (λ (n : ℕ). record { 0 = n }) (eq_numbers q.0 d.0 (sym s)) in
      let long : length z.entries ≡ length t.entries = ap (λ (es : List (Option promises.Entry)). length es) w.entries ∙ length-with_entry t q (Some f) in
      let was : entry_at t d ≡ Some e = rw (← is) w.there in
      let now : entry_at z q ≡ Some f = ap (λ (es : List (Option promises.Entry)). live (slice_get es q.0)) w.entries ∙ entry_at-with_entry_same t q (Some f) (entry_within t q e w.there) in
      let here : entry_at z d ≡ Some f = rw (← is) now in
      let before : Fine n (Some e) = rw was at h.good in
      record { made = let m = h.made in omega (arith, m, long); good = rw here (kept_by n e f k before) }
  put-has n q t z e f more false s w k h =
      let long : length z.entries ≡ length t.entries = ap (λ (es : List (Option promises.Entry)). length es) w.entries ∙ length-with_entry t q (Some f) in
      let other : entry_at z d ≡ entry_at t d = ap (λ (es : List (Option promises.Entry)). live (slice_get es d.0)) w.entries ∙ entry_at-with_entry_other t q d (Some f) (unequal_numbers q.0 d.0 (sym s)) in
      same_place n t z (omega (arith, long)) other h

  react-has : (n : ℕ) (t : Table) (q : PromiseId) (r : Reaction) → Has n t → Has n (react q r t)
  react-has n t q r h =
      react-cases (Has n) q t r h (λ o. same_place n t _ (omega arith) refl h)
      (λ e z is w. put-has n q t z e _ _ (nat_eq q.0 d.0) refl w (inr (refl, let a = reactions-append (of_reaction (of_write p)) e.reactions (r ∷ []) in omega (arith, a))) h)

  unfollow-has : (n : ℕ) (t : Table) (q : PromiseId) → Has n t → Has n (unfollow q t)
  unfollow-has n t q h =
      unfollow-cases (Has n) q t (same_place n t _ (omega arith) refl h) (λ e z is w. put-has n q t z e _ _ (nat_eq q.0 d.0) refl w (inr (refl, omega arith)) h)

  watch-has : (n : ℕ) (t : Table) (q : PromiseId) → Has n t → Has n (watch q t)
  watch-has n t q h = watch-cases (Has n) q t h (λ e z is w. put-has n q t z e _ _ (nat_eq q.0 d.0) refl w (inr (refl, omega arith)) h)

  has-changes : (n : ℕ) → Changes (Has n)
  unfolding queue_micro
  has-changes n = record {
    fresh = λ t h. let l = length-fresh t in same_place n t (fresh t) (omega (arith, l)) (entry_at-fresh t d h.made) h;
    settle = λ t q o h. settle-cases (Has n) q t o (same_place n t _ (omega arith) refl h) (λ e z is w. put-has n q t z e _ _ (nat_eq q.0 d.0) refl w (inl (settled-over o)) h);
    answer = λ t q o over h. answer-cases (Has n) q t o (same_place n t _ (omega arith) refl h) (λ e z is w. put-has n q t z e _ _ (nat_eq q.0 d.0) refl w (inl over) h);
    react = λ t q r h. react-has n t q r h;
    follow = λ t q r h. follow-cases (Has n) q t r (same_place n t _ (omega arith) refl h) (λ e z is w. put-has n q t z e _ _ (nat_eq q.0 d.0) refl w (inr (refl, omega arith)) h);
    micro = λ t m h. same_place n t _ (omega arith) refl h;
    tell = λ t e h. same_place n t _ (omega arith) refl h;
  }

  taken-has : (n : ℕ) (job : Job) (t : Table) → Has n t → Has n (taken job t)
  taken-has n (ReactionJob step o derived) t h = h
  taken-has n (Follow q r) t h = react-has n t r (Adopt q) h
  taken-has n (SettleJob q o) t h = unfollow-has n t q h
  taken-has n (MicroJob m) t h = h

  first-has : (n : ℕ) (t : Table) (js : List Job) → Has n t → Has n (after_first t js)
  first-has n t [] h = h
  first-has n t (j ∷ js) h = taken-has n j (record t { jobs = js }) (same_place n t _ (omega arith) refl h)

  next-has : (n : ℕ) (t : Table) → Has n t → Has n (after_next_job t)
  unfolding after_next_job
  next-has n t h = first-has n t t.jobs h

  -- the reaction is registered

  registers_by : (q : PipeId) (derived : Option PromiseId) (t : Table) (e : promises.Entry) (o : Outcome) → nat_eq p.0 q.0 ≡ true → d.0 < length t.entries → entry_at t d ≡ Some e → e.outcome ≡ o
      → Has 1 (react_by d (Perform (PipeWrote q) derived) t e o)
  registers_by q derived t e Pending n l h f =
      let r : Reaction = Perform (PipeWrote q) derived in
      let x : promises.Entry = record e { reactions = e.reactions ++ r ∷ [] } in
      let long = length-with_entry t d (Some x) in
      let a = reactions-append (of_reaction (of_write p)) e.reactions (r ∷ []) in
      let one : of_write p (PipeWrote q) ≡ 1 = ap one_if n in
      let now : entry_at (with_entry d (Some x) t) d ≡ Some x = entry_at-with_entry_same t d (Some x) l in
      record { made = omega (arith, l, long); good = rw now (inr (omega (arith, a, one))) }
  registers_by q derived t e (Fulfilled v) n l h f = record { made = l; good = rw h (inl (ap is_pending f)) }
  registers_by q derived t e (Rejected v) n l h f = record { made = l; good = rw h (inl (ap is_pending f)) }
  registers_by q derived t e (Given v) n l h f = record { made = l; good = rw h (inl (ap is_pending f)) }
  registers_by q derived t e (Finished v) n l h f = record { made = l; good = rw h (inl (ap is_pending f)) }

  registers_entry : (q : PipeId) (derived : Option PromiseId) (t : Table) (x : Option promises.Entry) → nat_eq p.0 q.0 ≡ true → d.0 < length t.entries → entry_at t d ≡ x
      → Has 1 (react_entry d (Perform (PipeWrote q) derived) t x)
  registers_entry q derived t None n l h = record { made = l; good = rw h (inl refl) }
  registers_entry q derived t (Some e) n l h = registers_by q derived t e e.outcome n l h refl

  registers : (q : PipeId) (derived : Option PromiseId) (t : Table) → nat_eq p.0 q.0 ≡ true → d.0 < length t.entries → Has 1 (react d (Perform (PipeWrote q) derived) t)
  unfolding react
  registers q derived t n l = registers_entry q derived t (entry_at t d) n l refl

  -- 1 for an effect that registers such a reaction to the promise
  abbrev gives : Effect → ℕ
  gives (Give (This c) (React (PipeWrote q) derived)) = if nat_eq d.0 c.0 then one_if (nat_eq p.0 q.0) else 0
  gives _ = 0

  gives_few : (e : Effect) → gives e ≤ pays p e
  gives_few (Give (This c) (React (PipeWrote q) derived)) = by (nat_eq d.0 c.0) (one_if (nat_eq p.0 q.0))
    where
      by : (b : Bool) (n : ℕ) → (if b then n else 0) ≤ n
      by true n = omega arith
      by false n = omega arith
  gives_few e = omega arith

  all_few : (es : List Effect) → all gives es ≤ all (pays p) es
  all_few [] = omega arith
  all_few (e ∷ es) = let n = gives_few e in let m = all_few es in omega (arith, n, m)

  given : (c : PromiseId) (q : PipeId) (derived : Option PromiseId) (s : Slots) (same own : Bool) → same ≡ nat_eq d.0 c.0 → own ≡ nat_eq p.0 q.0 → 1 ≤ (if same then one_if own else 0) → d.0 < length s.promises.entries
      → Has 1 (react c (Perform (PipeWrote q) derived) s.promises)
  given c q derived s true true e f n l =
      let is : d ≡ c = ap (λ (n : ℕ). record { 0 = n }) (eq_numbers d.0 c.0 (sym e)) in
      subst (λ (x : PromiseId). Has 1 (react x (Perform (PipeWrote q) derived) s.promises)) is (registers q derived s.promises (sym f) l)
  given c q derived s true false e f n l = absurd (omega (arith, n))
  given c q derived s false own e f n l = absurd (omega (arith, n))

  row-gives : (e : Effect) (s : Slots) → 1 ≤ gives e → d.0 < length s.promises.entries → Has 1 (row e s).slots.promises
  unfolding row use_gift
  row-gives (Give (This c) (React (PipeWrote q) derived)) s n l = given c q derived s (nat_eq d.0 c.0) (nat_eq p.0 q.0) refl refl n l
  row-gives e s n l = absurd (omega (arith, n))

  -- the promise of a write that the pipe made
  pub record Good (t : Table) (es : List Effect) : Type 0 where
    pub made : d.0 < length t.entries
    pub good : (waits (entry_at t d) ≡ false) ⊎ (1 ≤ reacts_in (entry_at t d) + all gives es)

  has_good : (t : Table) (es : List Effect) → Has 1 t → Good t es
  has_good t es h = record {
    made = h.made;
    good = ⊎_elim (λ (k : waits (entry_at t d) ≡ false). inl k) (λ (k : 1 ≤ reacts_in (entry_at t d)). inr (omega (arith, k))) h.good;
  }

  still_given : (t : Table) (es : List Effect) → 1 ≤ all gives es → Has 0 t → Good t es
  still_given t es n h = record { made = h.made; good = inr (omega (arith, n)) }

  pub row-good : (e : Effect) (s : Slots) (es : List Effect) → Good s.promises (e ∷ es) → Good (row e s).slots.promises ((row e s).caused ++ es)
  row-good e s es g =
      let t : Table = s.promises in
      let cs : List Effect = (row e s).caused in
      ⊎_elim (λ (k : waits (entry_at t d) ≡ false). has_good _ (cs ++ es) (row-changes (Has 1) (has-changes 1) e s (record { made = g.made; good = inl k })))
      (λ (k : 1 ≤ reacts_in (entry_at t d) + (gives e + all gives es)).
      ⊎_elim (λ (r : 1 ≤ reacts_in (entry_at t d)). has_good _ (cs ++ es) (row-changes (Has 1) (has-changes 1) e s (record { made = g.made; good = inr r })))
      (λ (r : (1 ≤ gives e) ⊎ (1 ≤ all gives es)).
      ⊎_elim (λ (f : 1 ≤ gives e). has_good _ (cs ++ es) (row-gives e s f g.made))
      (λ (f : 1 ≤ all gives es).
      let a = all-append gives cs es in
      still_given _ (cs ++ es) (omega (arith, a, f)) (row-changes (Has 0) (has-changes 0) e s (record { made = g.made; good = inr (omega arith) }))) r)
      (one_of (reacts_in (entry_at t d)) (gives e) (all gives es) k)) g.good

  -- where no effect is left
  at_rest : (t z : Table) (es : List Effect) → (Has 1 t → Has 1 z) → Good t [] → Good z es
  at_rest t z es f g =
      has_good z es (f (record {
        made = g.made;
        good = ⊎_elim (λ (k : waits (entry_at t d) ≡ false). inl k) (λ (k : 1 ≤ reacts_in (entry_at t d) + 0). inr (omega (arith, k))) g.good;
      }))

  -- a promise to which no such reaction is registered, or about to be, has settled
  has_settled : (t : Table) (es : List Effect) → weight (of_write p) t + all (pays p) es ≤ 0 → Good t es → is_pending_at d t ≡ false
  unfolding weigh
  has_settled t es n g =
      let a = entry_few (of_reaction (of_write p)) t.entries d.0 in
      let b = all_few es in
      ⊎_elim (λ (k : waits (entry_at t d) ≡ false). k) (λ (k : 1 ≤ reacts_in (entry_at t d) + all gives es). absurd (omega (arith, n, a, b, k))) g.good

-- of every write that it made

module _ (p : PipeId) where
  abbrev pub AllGood : List PromiseId → Table → List Effect → Type 0
  AllGood [] t es = Unit {0}
  AllGood (d ∷ ds) t es = Good p d t es × AllGood ds t es

  good-map : (ds : List PromiseId) (t z : Table) (es fs : List Effect) → ((d : PromiseId) → Good p d t es → Good p d z fs) → AllGood ds t es → AllGood ds z fs
  good-map [] t z es fs f g = tt
  good-map (d ∷ ds) t z es fs f g = (f d g.0, good-map ds t z es fs f g.1)

  good-append : (ds cs : List PromiseId) (t : Table) (es : List Effect) → AllGood ds t es → AllGood cs t es → AllGood (ds ++ cs) t es
  good-append [] cs t es g h = h
  good-append (d ∷ ds) cs t es g h = (g.0, good-append ds cs t es g.1 h)

  pub all_settled : (ds : List PromiseId) (t : Table) (es : List Effect) → weight (of_write p) t + all (pays p) es ≤ 0 → AllGood ds t es → AllSettled t ds
  all_settled [] t es n g = tt
  all_settled (d ∷ ds) t es n g = (has_settled p d t es n g.0, all_settled ds t es n g.1)

  -- a new write

  first : (q : PipeId) (v : Value) (t : Table) (y : pipe.Slots) (es : List Effect) → nat_eq p.0 q.0 ≡ true
      → let b : Acts = write_in q v (starting y t) Flowing in Good p (next_id t) b.out.promises (b.out.effects ++ es)
  first q v t y es n =
      let l = length-fresh t in
      let one : one_if (nat_eq p.0 q.0) ≡ 1 = ap one_if n in
      let here : (if nat_eq (length t.entries) (length t.entries) then one_if (nat_eq p.0 q.0) else 0) ≡ 1 = rw (same_number (length t.entries)) one in
      record { made = omega (arith, l); good = inr (omega (arith, here)) }

  new_good : (q : PipeId) (v : Value) (t : Table) (y : pipe.Slots) (phase : Phase) (es : List Effect) → nat_eq p.0 q.0 ≡ true
      → let b : Acts = write_in q v (starting y t) phase in AllGood (held_promise phase (Some v) (next_id t)) b.out.promises (b.out.effects ++ es)
  new_good q v t y Flowing es n = (first q v t y es n, tt)
  new_good q v t y Waiting es n = (first q v t y es n, tt)
  new_good q v t y Acting es n = tt
  new_good q v t y Over es n = tt

  held_good : (q : PipeId) (x : pipe.Slots) (t : Table) (held : Option Value) (es : List Effect) → nat_eq p.0 q.0 ≡ true
      → let b : Acts = write_held q (starting x t) held in AllGood (held_promise x.phase held (next_id t)) b.out.promises (b.out.effects ++ es)
  held_good q x t None es n = none x.phase
    where
      none : (phase : Phase) → AllGood (held_promise phase None (next_id t)) t es
      none Flowing = tt
      none Waiting = tt
      none Acting = tt
      none Over = tt
  held_good q x t (Some v) es n = new_good q v t (record x { held = None; reading = false }) x.phase es n

  operation-good : (q : PipeId) (operation : PipeOperation) (x : pipe.Slots) (s : Slots) (es : List Effect) → nat_eq p.0 q.0 ≡ true
      → let b : Acts = pipe_operation q (ends_at x s) operation (starting x s.promises) in AllGood (operation_promises operation x (next_id s.promises)) b.out.promises (b.out.effects ++ es)
  unfolding write_chunk
  operation-good q WriteChunk x s es n = held_good q x s.promises x.held es n
  operation-good q operation x s es n = tt

  place-good : (q : PipeId) (operation : PipeOperation) (s : Slots) (o : Option pipe.Slots) (es : List Effect) → nat_eq p.0 q.0 ≡ true
      → let d : Done = on_pipe_at (λ ends. pipe_operation q ends operation) q s o in AllGood (operation_promises operation (as_pipe o) (next_id s.promises)) d.slots.promises (d.caused ++ es)
  place-good q WriteChunk s None es n = tt
  place-good q operation s None es n = tt
  place-good q operation s (Some x) es n = operation-good q operation x s es n

  by_place : (q : PipeId) (operation : PipeOperation) (s : Slots) (es : List Effect) (same : Bool) → same ≡ nat_eq p.0 q.0
      → AllGood (effect_promises p (OnPipe q operation) s) (row (OnPipe q operation) s).slots.promises ((row (OnPipe q operation) s).caused ++ es)
  unfolding row
  by_place q operation s es true n = rw (← n) (place-good q operation s (slice_get s.pipes q.0) es (sym n))
  by_place q operation s es false n = rw (← n) tt

  row-new : (e : Effect) (s : Slots) (es : List Effect) → AllGood (effect_promises p e s) (row e s).slots.promises ((row e s).caused ++ es)
  row-new (OnPipe q operation) s es = by_place q operation s es (nat_eq p.0 q.0) refl
  row-new e s es = tt

  -- over every run

  promises-append : (ms ns : List Moment) → promises_made p (ms ++ ns) ≡ promises_made p ms ++ promises_made p ns
  promises-append [] ns = refl
  promises-append (m ∷ ms) ns = ap (λ (ds : List PromiseId). effect_promises p m.effect m.found ++ ds) (promises-append ms ns) ∙ sym (append_assoc (effect_promises p m.effect m.found) (promises_made p ms) (promises_made p ns))

  pub one_more : (ms : List Moment) (e : Effect) (s : Slots) → promises_made p (ms ++ moment e s ∷ []) ≡ promises_made p ms ++ effect_promises p e s
  one_more ms e s = promises-append ms (moment e s ∷ []) ∙ ap (λ (ds : List PromiseId). promises_made p ms ++ ds) (append-nil (effect_promises p e s))

  since-append : (P : List Moment → Moment → Type 0) (past ms : List Moment) (m : Moment) → AllSince P past ms → P (past ++ ms) m → AllSince P past (ms ++ m ∷ [])
  since-append P past [] m a q = (subst (λ (h : List Moment). P h m) (append-nil past) q, tt)
  since-append P past (x ∷ ms) m a q =
      (a.0, since-append P (past ++ x ∷ []) ms m a.1 (subst (λ (h : List Moment). P h m) (sym (append_assoc past (x ∷ []) ms)) q))

  abbrev pub HasSettled : List Moment → Moment → Type 0
  HasSettled past m = BeginsToAct p m → AllSettled (leaves m).promises (promises_made p past)

  abbrev pub Is : List Moment → Slots → List Effect → Type 0
  Is h s es = AllSince HasSettled [] h × (AllGood (promises_made p h) s.promises es × (EachWaits s es × EachOwes s es))

  row-settled : (h : List Moment) (s : Slots) (e : Effect) (es : List Effect) → Is h s (e ∷ es) → HasSettled h (moment e s)
  row-settled h s e es k b =
      let z : Slots = (row e s).slots in
      let fs : List Effect = (row e s).caused ++ es in
      let none : HasNothingLeft p z = row-orderly p e s es (k.1.1.0 p) (k.1.1.1 p) b in
      let o : Owes p z fs = owes-stays.row s e es k.1.1.1 p in
      let n = unsettled_at p z in
      let u = none.unsettled in
      all_settled (promises_made p h) z.promises fs (omega (arith, o, n, u)) (good-map (promises_made p h) s.promises z.promises (e ∷ es) fs (λ d g. row-good p d e s es g) k.1.0)

  row-is : (h : List Moment) (s : Slots) (e : Effect) (es : List Effect) → Is h s (e ∷ es) → Is (h ++ moment e s ∷ []) (row e s).slots ((row e s).caused ++ es)
  row-is h s e es k =
      let z : Slots = (row e s).slots in
      let fs : List Effect = (row e s).caused ++ es in
      let goods : AllGood (promises_made p h ++ effect_promises p e s) z.promises fs =
      good-append (promises_made p h) (effect_promises p e s) z.promises fs (good-map (promises_made p h) s.promises z.promises (e ∷ es) fs (λ d g. row-good p d e s es g) k.1.0) (row-new e s es) in (
        since-append HasSettled [] h (moment e s) k.0 (row-settled h s e es k),
        (subst (λ (ds : List PromiseId). AllGood ds z.promises fs) (sym (one_more h e s)) goods, (waits-stays.row s e es k.1.1.0, owes-stays.row s e es k.1.1.1)),
      )

  rested : (h : List Moment) (t z : Table) (es : List Effect) → ((d : PromiseId) → Has p d 1 t → Has p d 1 z) → AllGood (promises_made p h) t [] → AllGood (promises_made p h) z es
  rested h t z es f g = good-map (promises_made p h) t z [] es (λ d k. at_rest p d t z es (f d) k) g

  call-has : (d : PromiseId) (c : Call) (s : Slots) → Has p d 1 s.promises → Has p d 1 (begin c s).done.slots.promises
  call-has d c s k = begin-makes (λ z. Has p d 1 z.promises) (record {
    promise = λ z k. (has-changes p d 1).fresh z.promises k;
    locks = λ z ls k. k;
    hosts = λ z hs k. k;
    pipe = λ z source dest prevent signal promise k. k;
    signal = λ z k. k;
    transform = λ z kind i j change k. k;
    tee = λ z source first second cancel k. k;
    port = λ z side stream backpressure k. k;
    bytes = λ z mark auto k. k;
    byob_requests = λ z hs k. k;
    readable = λ z owner mark size k. k;
    writable = λ z owner mark size k. k;
  }) c s k

  pub goes : GoesUntold ◌++◌ effect_moment Is
  goes = record {
    row = λ h s e es k. row-is h s e es k;
    call = λ h s c k. (k.0, (rested h s.promises (begin c s).done.slots.promises (begin c s).done.caused (λ d g. call-has d c s g) k.1.0, (waits-stays.call s c k.1.1.0, owes-stays.call s c k.1.1.1)));
    job = λ h s job e k.
        (k.0, (rested h s.promises (after_next_job s.promises) (job_effects job) (λ d g. next-has p d 1 s.promises g) k.1.0, (waits-stays.job s job e k.1.1.0, owes-stays.job s job e k.1.1.1)));
    answered = λ h s q k.
        (k.0, (rested h s.promises (watch q s.promises) [] (λ d g. watch-has p d 1 s.promises q g) k.1.0, (waits-stays.answered s q k.1.1.0, owes-stays.answered s q k.1.1.1)));
    older = λ h s k. (k.0, (k.1.0, (waits-stays.older s k.1.1.0, owes-stays.older s k.1.1.1)));
  }

  heard : (h : List Moment) (s : Slots) → Is h s [] → Is h (after_event s) []
  heard h s k =
      (k.0, (rested h s.promises (after_event s).promises [] (λ d g. record { made = g.made; good = g.good }) k.1.0, (waits-heard s k.1.1.0, owes-heard s k.1.1.1)))

  pub rests : RestsUntold Is
  rests = record { heard = heard }

pub run-settled : (entries : List Entry) (p : PipeId) → Is p (run_moments entries empty) (run entries empty) []
run-settled entries p = run-holds [] ◌++◌ moments_history effect_moment (Is p) (goes p) (rests p) entries empty (tt, (tt, ((λ q. none-waits q), (λ q. none-owes q))))

pub none_acts_while_a_write_is_open : NoneActsWhileAWriteIsOpen
none_acts_while_a_write_is_open entries p = (run-settled entries p).0
