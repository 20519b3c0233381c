-- The microtask for the chunk that a pipe holds (`each_held_chunk_is_queued`).
use Rattle.std.proofs.Common.{◌≡◌, ◌⊎◌, inl, inr, ⊎_elim, ℕ, zero, suc, ◌+◌, ◌≤◌, Bool, true, false, ◌||◌, nat_eq, is_some, List, [], ◌∷◌, ◌++◌, Option, Some, None, slice_get, slice_set, refl, sym, ap, subst, ◌∙◌, arith}
use Rattle.ws_value.specs.declared.{ids.PipeId.{PipeId}, ids.PromiseId.{PromiseId}}
use Rattle.ws_value.specs.declared.value.{Value.{Value}}
use Rattle.ws_steps.specs.declared.calls.Call.{Call}
use Rattle.ws_steps.specs.declared.effects.Effect.{Effect}
use Rattle.ws_steps.specs.declared.effects.Effect.TheVariants.{Pipe as OnPipe}
use Rattle.ws_steps.specs.declared.pipes.{PipeOperation.{PipeOperation}, PipeOperation.TheVariants.{Look, LookReady, KeepChunk, ReadEnded, WriteChunk, GoOn, WriteEnded, Abort as AbortPipe, ActionSettled, PartSettled, NoParts}}
use Rattle.ws_steps.specs.declared.promises.{Job.{Job}, Job.TheVariants.{Reaction as ReactionJob, Follow, Settle as SettleJob, Micro as MicroJob}, Micro.TheVariants.{PipeLook, PipeWrite, PipeNoParts, TeeHand}, Reaction.{Reaction}, Reaction.TheVariants.{Adopt}}
use Rattle.ws_steps.specs.Calls.{begin}
use Rattle.ws_steps.specs.Jobs.{job_effects}
use Rattle.ws_steps.specs.Operations.{pipe_operation}
use Rattle.ws_pipe_laws.specs.pipes.PipeMoves.{starting}
use Rattle.ws_pipe_laws.specs.pipes.PipeReads.{one_if}
use Rattle.ws_pipe_laws.specs.pipes.PipeWrites.{has_write, EachHeldChunkIsQueued}
use Rattle.ws_steps.specs.Pipes as pipe
use Rattle.ws_steps.specs.Pipes.{Acts, keep_chunk, write_held, write_chunk}
use Rattle.ws_steps.specs.Promises.{Table, react, unfollow, queue_micro, watch, next_job, first_job, after_first, after_next_job, taken}
use Rattle.ws_steps.specs.Run.{run}
use Rattle.ws_steps.specs.Slots.{Slots, Done, empty, ends_at, as_pipe, on_pipe_at, with_promises}
use Rattle.ws_steps.specs.Turns.{row}
use Rattle.ws_steps.proofs.PromiseLaws.{jobs-fresh, slice_get-set_other}
use Rattle.ws_laws.proofs.Begin.{begin-makes}
use Rattle.ws_laws.proofs.Cases.{settle-cases, answer-cases, react-cases, follow-cases, unfollow-cases, watch-cases}
use Rattle.ws_laws.proofs.PipeDoes.{pipe-does}
use Rattle.ws_laws.proofs.Rows.{Changes, row-changes}
use Rattle.ws_laws.proofs.Apart.{IsNoPipe, row-pipes}
use Rattle.ws_laws.proofs.Tables.{eq_numbers, unequal_numbers}
use Rattle.ws_laws.proofs.Truth.{or_right}
use Rattle.ws_laws.proofs.Walker.{Stays, run-stays}
use Rattle.ws_writable_laws.proofs.Shape.{all, all-append}
use Rattle.ws_pipe_laws.proofs.pipes.Passing.{moves_chunk, operation-held}

or_kept : (b c d : Bool) → (c ≡ true → d ≡ true) → b || c ≡ true → b || d ≡ true
or_kept true c d f h = refl
or_kept false c d f h = f h

write-append : (p : PipeId) (js ks : List Job) → has_write p js ≡ true → has_write p (js ++ ks) ≡ true
write-append p [] ks h = cc
write-append p (MicroJob (PipeWrite q) ∷ js) ks h = or_kept (nat_eq p.0 q.0) (has_write p js) (has_write p (js ++ ks)) (write-append p js ks) h
write-append p (MicroJob (PipeLook q) ∷ js) ks h = write-append p js ks h
write-append p (MicroJob (PipeNoParts q) ∷ js) ks h = write-append p js ks h
write-append p (MicroJob (TeeHand t) ∷ js) ks h = write-append p js ks h
write-append p (ReactionJob step o derived ∷ js) ks h = write-append p js ks h
write-append p (Follow q r ∷ js) ks h = write-append p js ks h
write-append p (SettleJob q o ∷ js) ks h = write-append p js ks h

write-last : (p : PipeId) (js : List Job) → has_write p (js ++ MicroJob (PipeWrite p) ∷ []) ≡ true
write-last p [] = let self : nat_eq p.0 p.0 ≡ true = grind arith in rw self refl
write-last p (MicroJob (PipeWrite q) ∷ js) = or_right (nat_eq p.0 q.0) (has_write p (js ++ MicroJob (PipeWrite p) ∷ [])) (write-last p js)
write-last p (MicroJob (PipeLook q) ∷ js) = write-last p js
write-last p (MicroJob (PipeNoParts q) ∷ js) = write-last p js
write-last p (MicroJob (TeeHand t) ∷ js) = write-last p js
write-last p (ReactionJob step o derived ∷ js) = write-last p js
write-last p (Follow q r ∷ js) = write-last p js
write-last p (SettleJob q o ∷ js) = write-last p js

module _ (p : PipeId) where
  abbrev Queues : Table → Type 0
  Queues t = has_write p t.jobs ≡ true

  more : (t z : Table) (js : List Job) → z.jobs ≡ t.jobs ++ js → Queues t → Queues z
  more t z js e h = rw e (write-append p t.jobs js h)

  unfollow-queues : (t : Table) (q : PromiseId) → Queues t → Queues (unfollow q t)
  unfollow-queues t q h = unfollow-cases Queues q t h (λ e z is w. more t z [] w.jobs h)

  react-queues : (t : Table) (q : PromiseId) (r : Reaction) → Queues t → Queues (react q r t)
  react-queues t q r h = react-cases Queues q t r h (λ o. write-append p t.jobs _ h) (λ e z is w. more t z _ w.jobs h)

  queue-changes : Changes Queues
  unfolding queue_micro
  queue-changes = record {
    fresh = λ t h. rw jobs-fresh h;
    settle = λ t q o h. settle-cases Queues q t o h (λ e z is w. more t z _ w.jobs h);
    answer = λ t q o n h. answer-cases Queues q t o h (λ e z is w. more t z _ w.jobs h);
    react = λ t q r h. react-queues t q r h;
    follow = λ t q r h. follow-cases Queues q t r h (λ e z is w. more t z _ w.jobs h);
    micro = λ t m h. write-append p t.jobs (MicroJob m ∷ []) h;
    tell = λ t e h. h;
  }

  -- 1 for the operation of such a microtask
  abbrev steps_of : Effect → ℕ
  steps_of (OnPipe q WriteChunk) = one_if (nat_eq p.0 q.0)
  steps_of _ = 0

  abbrev holds : Option pipe.Slots → Bool
  holds None = false
  holds (Some x) = is_some x.held

  -- the microtask of a held chunk is queued, or its operation stands
  abbrev IsQueued : Slots → List Effect → Type 0
  IsQueued s es = holds (slice_get s.pipes p.0) ≡ true → Queues s.promises ⊎ (1 ≤ all steps_of es)

  -- effects that leave the place of the pipe
  elsewhere : (s : Slots) (e : Effect) (es : List Effect) → steps_of e ≡ 0 → slice_get (row e s).slots.pipes p.0 ≡ slice_get s.pipes p.0 → IsQueued s (e ∷ es) → IsQueued (row e s).slots ((row e s).caused ++ es)
  elsewhere s e es n same k h =
      ⊎_elim (λ (q : Queues s.promises). inl (row-changes Queues queue-changes e s q))
      (λ (w : 1 ≤ steps_of e + all steps_of es). let a = all-append steps_of (row e s).caused es in inr (omega (arith, a, n, w))) (k (ap holds (sym same) ∙ h))

  place_same : (ps : List pipe.Slots) (n : ℕ) (x y : pipe.Slots) → slice_get ps n ≡ Some x → slice_get (slice_set ps n y) n ≡ Some y
  place_same [] n x y e = cc
  place_same (z ∷ ps) zero x y e = refl
  place_same (z ∷ ps) (suc n) x y e = place_same ps n x y e

  none-held : (me : PipeId) (x : pipe.Slots) (t : Table) (held : Option Value) → held ≡ x.held → is_some (write_held me (starting x t) held).slots.held ≡ false
  none-held me x t held e = grind (arith, e)

  -- an operation of the pipe

  abbrev Left : PipeOperation → Slots → List Effect → pipe.Slots → Type 0
  Left operation s es x =
      let b : Acts = pipe_operation p (ends_at x s) operation (starting x s.promises) in
      is_some b.slots.held ≡ true → Queues b.out.promises ⊎ (1 ≤ all steps_of (b.out.effects ++ es))

  ordinary : (operation : PipeOperation) (s : Slots) (es : List Effect) (x : pipe.Slots) → moves_chunk operation ≡ false → steps_of (OnPipe p operation) ≡ 0 → slice_get s.pipes p.0 ≡ Some x
      → IsQueued s (OnPipe p operation ∷ es) → Left operation s es x
  ordinary operation s es x m n e k h =
      let b : Acts = pipe_operation p (ends_at x s) operation (starting x s.promises) in
      let same : b.slots.held ≡ x.held = operation-held p (ends_at x s) operation x s.promises m in
      let held : holds (slice_get s.pipes p.0) ≡ true = ap holds e ∙ (ap (λ (v : Option Value). is_some v) (sym same) ∙ h) in
      ⊎_elim
      (λ (q : Queues s.promises).
      inl (pipe-does Queues (record { fresh = queue-changes.fresh; settle = queue-changes.settle; micro = queue-changes.micro }) p (ends_at x s) operation (starting x s.promises) q))
      (λ (w : 1 ≤ steps_of (OnPipe p operation) + all steps_of es). let a = all-append steps_of b.out.effects es in inr (omega (arith, a, n, w))) (k held)

  own : (operation : PipeOperation) (s : Slots) (es : List Effect) (x : pipe.Slots) → slice_get s.pipes p.0 ≡ Some x → IsQueued s (OnPipe p operation ∷ es) → Left operation s es x
  unfolding keep_chunk write_chunk queue_micro
  own (KeepChunk v) s es x e k h = inl (write-last p s.promises.jobs)
  own WriteChunk s es x e k h = let n = none-held p x s.promises x.held refl in absurd (cc)
  own Look s es x e k h = ordinary Look s es x refl refl e k h
  own LookReady s es x e k h = ordinary LookReady s es x refl refl e k h
  own ReadEnded s es x e k h = ordinary ReadEnded s es x refl refl e k h
  own GoOn s es x e k h = ordinary GoOn s es x refl refl e k h
  own WriteEnded s es x e k h = ordinary WriteEnded s es x refl refl e k h
  own (AbortPipe r) s es x e k h = ordinary (AbortPipe r) s es x refl refl e k h
  own (ActionSettled o) s es x e k h = ordinary (ActionSettled o) s es x refl refl e k h
  own (PartSettled o) s es x e k h = ordinary (PartSettled o) s es x refl refl e k h
  own NoParts s es x e k h = ordinary NoParts s es x refl refl e k h

  own_place : (operation : PipeOperation) (s : Slots) (es : List Effect) (o : Option pipe.Slots) → slice_get s.pipes p.0 ≡ o → IsQueued s (OnPipe p operation ∷ es)
      → let d : Done = on_pipe_at (λ ends. pipe_operation p ends operation) p s o in IsQueued d.slots (d.caused ++ es)
  own_place operation s es None e k = λ h. let n : holds (slice_get s.pipes p.0) ≡ false = ap holds e in absurd (cc)
  own_place operation s es (Some x) e k =
      let b : Acts = pipe_operation p (ends_at x s) operation (starting x s.promises) in
      rw (place_same s.pipes p.0 x b.slots e) (own operation s es x e k)

  own_row : (s : Slots) (operation : PipeOperation) (es : List Effect) → IsQueued s (OnPipe p operation ∷ es) → IsQueued (row (OnPipe p operation) s).slots ((row (OnPipe p operation) s).caused ++ es)
  unfolding row
  own_row s operation es k = own_place operation s es (slice_get s.pipes p.0) refl k

  other_place : (q : PipeId) (operation : PipeOperation) (s : Slots) (o : Option pipe.Slots) → nat_eq p.0 q.0 ≡ false → slice_get (on_pipe_at (λ ends. pipe_operation q ends operation) q s o).slots.pipes p.0 ≡ slice_get s.pipes p.0
  other_place q operation s None n = refl
  other_place q operation s (Some x) n = slice_get-set_other s.pipes q.0 p.0 _ (λ i. unequal_numbers p.0 q.0 n (sym i))

  other_steps : (q : PipeId) (operation : PipeOperation) → nat_eq p.0 q.0 ≡ false → steps_of (OnPipe q operation) ≡ 0
  other_steps q operation n = grind (arith, n)

  pipe_row : (s : Slots) (q : PipeId) (operation : PipeOperation) (es : List Effect) (same : Bool) → same ≡ nat_eq p.0 q.0 → IsQueued s (OnPipe q operation ∷ es)
      → IsQueued (row (OnPipe q operation) s).slots ((row (OnPipe q operation) s).caused ++ es)
  unfolding row
  pipe_row s q operation es false n k = elsewhere s (OnPipe q operation) es (other_steps q operation (sym n)) (other_place q operation s (slice_get s.pipes q.0) (sym n)) k
  pipe_row s q operation es true n k =
      let is : p ≡ q = ap (λ (n : ℕ). record { 0 = n }) (eq_numbers p.0 q.0 (sym n)) in
      subst (λ (z : PipeId). IsQueued s (OnPipe z operation ∷ es) → IsQueued (row (OnPipe z operation) s).slots ((row (OnPipe z operation) s).caused ++ es)) is (own_row s operation es) k

  apart : (s : Slots) (e : Effect) (es : List Effect) → IsNoPipe e → steps_of e ≡ 0 → IsQueued s (e ∷ es) → IsQueued (row e s).slots ((row e s).caused ++ es)
  apart s e es n m k = elsewhere s e es m (ap (λ (ps : List pipe.Slots). slice_get ps p.0) (row-pipes e s n)) k

  row-queued : (s : Slots) (e : Effect) (es : List Effect) → IsQueued s (e ∷ es) → IsQueued (row e s).slots ((row e s).caused ++ es)
  row-queued s (OnPipe q operation) es k = pipe_row s q operation es (nat_eq p.0 q.0) refl k
  row-queued s e es k = apart s e es tt refl k

  -- jobs

  at_rest : (s : Slots) → IsQueued s [] → holds (slice_get s.pipes p.0) ≡ true → Queues s.promises
  at_rest s k h = ⊎_elim (λ (q : Queues s.promises). q) (λ (w : 1 ≤ 0). absurd (omega (arith, w))) (k h)

  taken-queues : (job : Job) (t : Table) → Queues t → Queues (taken job t)
  taken-queues (ReactionJob step o derived) t h = h
  taken-queues (Follow q r) t h = react-queues t r (Adopt q) h
  taken-queues (SettleJob q o) t h = unfollow-queues t q h
  taken-queues (MicroJob m) t h = h

  -- the microtask that is taken out
  micro_taken : (q : PipeId) (t : Table) (js : List Job) (same : Bool) → same ≡ nat_eq p.0 q.0 → same || has_write p js ≡ true
      → Queues (record t { jobs = js }) ⊎ (1 ≤ all steps_of (job_effects (MicroJob (PipeWrite q))))
  micro_taken q t js true n h = let e = ap one_if n in inr (omega (arith, e))
  micro_taken q t js false n h = inl h

  first-queued : (job : Job) (t : Table) (js : List Job) → has_write p (job ∷ js) ≡ true → Queues (taken job (record t { jobs = js })) ⊎ (1 ≤ all steps_of (job_effects job))
  first-queued (MicroJob (PipeWrite q)) t js h = micro_taken q t js (nat_eq p.0 q.0) refl h
  first-queued (MicroJob (PipeLook q)) t js h = inl h
  first-queued (MicroJob (PipeNoParts q)) t js h = inl h
  first-queued (MicroJob (TeeHand a)) t js h = inl h
  first-queued (ReactionJob step o derived) t js h = inl h
  first-queued (Follow q r) t js h = inl (taken-queues (Follow q r) (record t { jobs = js }) h)
  first-queued (SettleJob q o) t js h = inl (taken-queues (SettleJob q o) (record t { jobs = js }) h)

  some_job : (a b : Job) → ◌≡◌ {A = Option Job} (Some a) (Some b) → a ≡ b
  some_job a b e = cc

  next-queued : (t : Table) (js : List Job) (job : Job) → first_job js ≡ Some job → has_write p js ≡ true → Queues (after_first t js) ⊎ (1 ≤ all steps_of (job_effects job))
  next-queued t [] job e h = cc
  next-queued t (j ∷ js) job e h = rw (← some_job j job e) (first-queued j t js h)

  job-queued : (s : Slots) (job : Job) → next_job s.promises ≡ Some job → IsQueued s [] → IsQueued (with_promises (after_next_job s.promises) s) (job_effects job)
  unfolding after_next_job
  job-queued s job e k h = next-queued s.promises s.promises.jobs job e (at_rest s k h)

  -- calls

  new_place : (ps : List pipe.Slots) (y : pipe.Slots) (n : ℕ) → y.held ≡ None → holds (slice_get (ps ++ y ∷ []) n) ≡ holds (slice_get ps n)
  new_place [] y zero e = ap (λ (v : Option Value). is_some v) e
  new_place [] y (suc n) e = refl
  new_place (x ∷ ps) y zero e = refl
  new_place (x ∷ ps) y (suc n) e = new_place ps y n e

  -- between steps it is queued
  abbrev Rests : Slots → Type 0
  Rests s = holds (slice_get s.pipes p.0) ≡ true → Queues s.promises

  call-queued : (s : Slots) (c : Call) → IsQueued s [] → IsQueued (begin c s).done.slots (begin c s).done.caused
  call-queued s c k h = inl (begin-makes Rests (record {
    promise = λ z k h. queue-changes.fresh z.promises (k h);
    locks = λ z ls k. k;
    hosts = λ z hs k. k;
    pipe = λ z source dest prevent signal promise k h. k (sym (new_place z.pipes (pipe.set_up source dest prevent signal promise) p.0 refl) ∙ h);
    signal = λ z k. k;
    transform = λ z kind i j change k. k;
    tee = λ z source first second cancel k. k;
    port = λ z side stream backpressure k. k;
    bytes = λ z mark auto k. k;
    byob_requests = λ z hs k. k;
    readable = λ z owner mark size k. k;
    writable = λ z owner mark size k. k;
  }) c s (at_rest s k) h)

  watch-queues : (q : PromiseId) (t : Table) → Queues t → Queues (watch q t)
  watch-queues q t h = watch-cases Queues q t h (λ e z is w. more t z [] w.jobs h)

  rests-on : (s : Slots) (t : Table) → (Queues s.promises → Queues t) → IsQueued s [] → IsQueued (with_promises t s) []
  rests-on s t f k h = inl (f (at_rest s k h))

  queued-stays : Stays IsQueued
  queued-stays = record {
    row = λ s e es k. row-queued s e es k;
    call = λ s c k. call-queued s c k;
    job = λ s job e k. job-queued s job e k;
    answered = λ s q k. rests-on s (watch q s.promises) (watch-queues q s.promises) k;
    older = λ s k. k;
  }

  none-held_first : IsQueued empty []
  none-held_first h = absurd (cc)

  is_there : (o : Option pipe.Slots) (v : Value) → (as_pipe o).held ≡ Some v → holds o ≡ true
  is_there None v e = cc
  is_there (Some x) v e = ap (λ (v : Option Value). is_some v) e

pub each_held_chunk_is_queued : EachHeldChunkIsQueued
each_held_chunk_is_queued entries p v e =
    let s : Slots = run entries empty in
    at_rest p s (run-stays (IsQueued p) (queued-stays p) (λ s k. k) entries empty (none-held_first p)) (is_there p (slice_get s.pipes p.0) v e)
