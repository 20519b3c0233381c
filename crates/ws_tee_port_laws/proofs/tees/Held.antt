-- A tee that hears of a rejection of its reader's closed promise holds no chunk: the microtask that hands it was queued before.
use Rattle.std.proofs.Common.{◌≡◌, ℕ, zero, suc, Bool, true, false, ◌||◌, ◌⊎◌, inl, inr, nat_eq, List, [], ◌∷◌, ◌++◌, map, Option, Some, None, Result, Ok, Err, slice_get, refl, sym, ap, subst, ◌∙◌, arith}
use Rattle.ws_laws.proofs.PortDoes.{PortCauses}
use Rattle.ws_value.specs.declared.ids.PortId.{PortId}
use Rattle.ws_value.specs.declared.ids.{PipeId.{PipeId}, PromiseId.{PromiseId}, StreamId.{StreamId}, TeeId.{TeeId}}
use Rattle.ws_value.specs.declared.value.{Plain.{Plain}, Value.{Value}}
use Rattle.ws_steps.specs.declared.calls.{Call.{Call}}
use Rattle.ws_steps.specs.declared.effects.{Effect.{Effect}, Effect.TheVariants.{Tee as OnTee, Queue}}
use Rattle.ws_steps.specs.declared.promises.{Job.{Job}, Job.TheVariants.{Reaction as ReactionJob, Follow, Settle, Micro as MicroJob}, Micro.TheVariants.{PipeLook, PipeWrite, PipeNoParts, TeeHand}, Reaction.{Reaction}, Reaction.TheVariants.{Perform, Adopt}, Step.TheVariants.{TeeEnds}}
use Rattle.ws_steps.specs.declared.readable.ReadableState.TheVariants.{Errored}
use Rattle.ws_steps.specs.declared.tee.{TeeOperation.{TeeOperation}}
use Rattle.ws_steps.specs.declared.tee.TeeOperation.TheVariants as tees
use Rattle.ws_steps.specs.declared.transform.TransformId.{TransformId}
use Rattle.ws_steps.specs.Begun.{Begun}
use Rattle.ws_steps.specs.Calls.{begin}
use Rattle.ws_steps.specs.Jobs.{job_effects}
use Rattle.ws_steps.specs.Operations.{tee_operation}
use Rattle.ws_steps.specs.Promises.{Table, job_of, enqueue_job, fresh, react, queue_micro, taken, first_job, next_job, after_first, after_next_job, watch}
use Rattle.ws_steps.specs.Run.{after_event}
use Rattle.ws_steps.specs.Slots.{Slots, empty, found, readable_at, on_tee_at}
use Rattle.ws_steps.specs.Tee as tee
use Rattle.ws_steps.specs.Turns.{row}
use Rattle.ws_laws.proofs.Begin.{begin-makes}
use Rattle.ws_laws.proofs.Cases.{settle-cases, answer-cases, react-cases, follow-cases, unfollow-cases, watch-cases}
use Rattle.ws_laws.proofs.EachCall.{each_call}
use Rattle.ws_laws.proofs.Lists.{Each, each-append}
use Rattle.ws_laws.proofs.PipeDoes.{PipeCauses}
use Rattle.ws_laws.proofs.Rows.{Changes, row-changes}
use Rattle.ws_laws.proofs.Apart.{row-tees}
use Rattle.ws_laws.proofs.Causes.{Causes, row-causes}
use Rattle.ws_laws.proofs.Shapes.{tee_shape, tee_shapes, map-there}
use Rattle.ws_laws.proofs.Tables.{eq_numbers, unequal_numbers}
use Rattle.ws_laws.proofs.TeeDoes.{TeeCauses}
use Rattle.ws_laws.proofs.TransformDoes.{TransformCauses}
use Rattle.ws_laws.proofs.Walker.{Stays}
use Rattle.ws_tee_port_laws.proofs.tees.Closes.{Stage}
use Rattle.ws_tee_port_laws.proofs.tees.Ears.{ends}
use Rattle.ws_tee_port_laws.proofs.tees.Ends.{Ends, ends-stays, ends-heard, ends-empty, errored-at}
use Rattle.ws_tee_port_laws.proofs.tees.OneRead.{one_of, tees_other, tees_same}
use Rattle.ws_tee_port_laws.proofs.tees.Queued.{is_hand, Quietly, IsQuiet, tee-does, row-quietly}
use Rattle.ws_tee_port_laws.proofs.tees.Rejections.{JobFits, JobsFit, IsRejected, jobs-weaker}

module _ (t : TeeId) where
  abbrev pub hands : Job → Bool
  hands (MicroJob m) = is_hand t m
  hands _ = false

  abbrev any_hands : List Job → Bool
  any_hands [] = false
  any_hands (j ∷ js) = hands j || any_hands js

  abbrev hears_error : Job → Bool
  hears_error (ReactionJob step (Err r) derived) = ends t step
  hears_error _ = false

  -- behind the job of a rejection no chunk is handed
  abbrev pub Ordered : List Job → Type 0
  Ordered [] = Unit {0}
  Ordered (j ∷ js) = (hears_error j ≡ true → any_hands js ≡ false) × Ordered js

  or-false : (a b : Bool) → a ≡ false → b ≡ false → (a || b) ≡ false
  or-false false b e f = f
  or-false true b e f = cc

  or-left : (a b : Bool) → (a || b) ≡ false → a ≡ false
  or-left false b e = refl
  or-left true b e = cc

  or-right : (a b : Bool) → (a || b) ≡ false → b ≡ false
  or-right false b e = e
  or-right true b e = cc

  hands-append : (xs ys : List Job) → any_hands xs ≡ false → any_hands ys ≡ false → any_hands (xs ++ ys) ≡ false
  hands-append [] ys a b = b
  hands-append (x ∷ xs) ys a b = or-false (hands x) (any_hands (xs ++ ys)) (or-left (hands x) (any_hands xs) a) (hands-append xs ys (or-right (hands x) (any_hands xs) a) b)

  none-ordered : (js : List Job) → any_hands js ≡ false → Ordered js
  none-ordered [] n = tt
  none-ordered (j ∷ js) n = let k = or-right (hands j) (any_hands js) n in (λ e. k, none-ordered js k)

  append-ordered : (xs ys : List Job) → Ordered xs → any_hands ys ≡ false → Ordered (xs ++ ys)
  append-ordered [] ys o n = none-ordered ys n
  append-ordered (x ∷ xs) ys o n = (λ e. hands-append xs ys (o.0 e) n, append-ordered xs ys o.1 n)

  -- where no rejection is to be heard of, anything may come
  free-ordered : (xs : List Job) (j : Job) → JobsFit (ends t) ⊥ xs → Ordered (xs ++ j ∷ [])
  free-ordered [] j f = (λ e. refl, tt)
  free-ordered (x ∷ xs) j f = (λ e. absurd (none x f.0 e), free-ordered xs j f.1)
    where
      none : (x : Job) → JobFits (ends t) ⊥ x → hears_error x ≡ true → ⊥
      none (ReactionJob step (Err r) derived) g e = g e
      none (ReactionJob step (Ok v) derived) g e = cc
      none (Follow p q) g e = cc
      none (Settle p o) g e = cc
      none (MicroJob m) g e = cc

  -- jobs that changes of promises queue

  job-hands : (o : Result Plain Plain) (r : Reaction) → hands (job_of o r) ≡ false
  job-hands o (Perform step derived) = refl
  job-hands o (Adopt p) = refl

  jobs-hands : (o : Result Plain Plain) (rs : List Reaction) → any_hands (map (job_of o) rs) ≡ false
  jobs-hands o [] = refl
  jobs-hands o (r ∷ rs) = or-false (hands (job_of o r)) (any_hands (map (job_of o) rs)) (job-hands o r) (jobs-hands o rs)

  abbrev InOrder : Table → Type 0
  InOrder x = Ordered x.jobs

  more-ordered : (x z : Table) (more : List Job) → z.jobs ≡ x.jobs ++ more → any_hands more ≡ false → InOrder x → InOrder z
  more-ordered x z more e n o = subst Ordered (sym e) (append-ordered x.jobs more o n)

  one-hands : (o : Result Plain Plain) (r : Reaction) → any_hands (job_of o r ∷ []) ≡ false
  one-hands o r = or-false (hands (job_of o r)) false (job-hands o r) refl

  react-ordered : (x : Table) (p : PromiseId) (r : Reaction) → InOrder x → InOrder (react p r x)
  react-ordered x p r o =
      react-cases InOrder p x r o (λ q. more-ordered x (enqueue_job (job_of q r) x) (job_of q r ∷ []) refl (one-hands q r) o) (λ e z u w. more-ordered x z [] w.jobs refl o)

  quietly-ordered : Quietly t InOrder
  unfolding fresh queue_micro
  quietly-ordered = record {
    fresh = λ x o. o;
    settle = λ x p q o. settle-cases InOrder p x q o (λ e z n w. more-ordered x z (map (job_of q) e.reactions) w.jobs (jobs-hands q e.reactions) o);
    answer = λ x p q o. answer-cases InOrder p x q o (λ e z n w. more-ordered x z [] w.jobs refl o);
    react = λ x p r o. react-ordered x p r o;
    follow = λ x p q o. follow-cases InOrder p x q o (λ e z n w. more-ordered x z (Follow p q ∷ []) w.jobs refl o);
    micro = λ x m n o. more-ordered x (enqueue_job (MicroJob m) x) (MicroJob m ∷ []) refl (or-false (is_hand t m) false n refl) o;
    tell = λ x e o. o;
  }

  -- a microtask that is queued stays

  or-more : (a b c : Bool) → (b ≡ true → c ≡ true) → (a || b) ≡ true → (a || c) ≡ true
  or-more true b c f e = refl
  or-more false b c f e = f e

  hands-more : (xs ys : List Job) → any_hands xs ≡ true → any_hands (xs ++ ys) ≡ true
  hands-more [] ys e = cc
  hands-more (x ∷ xs) ys e = or-more (hands x) (any_hands xs) (any_hands (xs ++ ys)) (λ h. hands-more xs ys h) e

  abbrev Waits : Table → Type 0
  Waits x = any_hands x.jobs ≡ true

  more-waits : (x z : Table) (more : List Job) → z.jobs ≡ x.jobs ++ more → Waits x → Waits z
  more-waits x z more e w = ap any_hands e ∙ hands-more x.jobs more w

  react-waits : (x : Table) (p : PromiseId) (r : Reaction) → Waits x → Waits (react p r x)
  react-waits x p r o = react-cases Waits p x r o (λ q. more-waits x (enqueue_job (job_of q r) x) (job_of q r ∷ []) refl o) (λ e z u w. more-waits x z [] w.jobs o)

  waits-change : Changes Waits
  unfolding fresh queue_micro
  waits-change = record {
    fresh = λ x o. o;
    settle = λ x p q o. settle-cases Waits p x q o (λ e z n w. more-waits x z (map (job_of q) e.reactions) w.jobs o);
    answer = λ x p q n o. answer-cases Waits p x q o (λ e z n w. more-waits x z [] w.jobs o);
    react = λ x p r o. react-waits x p r o;
    follow = λ x p q o. follow-cases Waits p x q o (λ e z n w. more-waits x z (Follow p q ∷ []) w.jobs o);
    micro = λ x m o. more-waits x (enqueue_job (MicroJob m) x) (MicroJob m ∷ []) refl o;
    tell = λ x e o. o;
  }

  -- what a tee holds

  abbrev pub Holds : Slots → List Effect → Type 0
  Holds s es = (x : tee.Slots) (v : Value) → slice_get s.tees t.0 ≡ Some x → x.held ≡ Some v → Waits s.promises ⊎ (es ≡ OnTee t tees.HandChunk ∷ [])

  abbrev NoQueue : Effect → Type 0
  NoQueue (Queue m) = is_hand t m ≡ false
  NoQueue _ = Unit {0}

  -- at each moment of a run
  pub record Hears (s : Slots) (es : List Effect) : Type 0 where
    pub ends : Ends t s es
    pub ordered : Ordered s.promises.jobs
    pub queues : Each NoQueue es
    pub holds : Holds s es

  no-queue : (e : Effect) → Causes NoQueue e
  no-queue e = grind (arith, transform-none, pipe-none, tee-none, port-none)
    where
      transform-none : (u : TransformId) (writable readable : StreamId) (e : Effect) → TransformCauses u writable readable e → NoQueue e
      transform-none u writable readable e c = grind (arith, c)

      pipe-none : (q : PipeId) (source dest : StreamId) (e : Effect) → PipeCauses q source dest e → NoQueue e
      pipe-none q source dest e c = grind (arith, c)

      tee-none : (u : TeeId) (source first second : StreamId) (e : Effect) → TeeCauses u source first second e → NoQueue e
      tee-none u source first second e c = grind (arith, c)

      port-none : (c : PortId) (stream : StreamId) (e : Effect) → PortCauses c stream e → NoQueue e
      port-none c stream e k = grind (arith, k)

  -- an operation of the tee

  abbrev KeepsHeld : tee.Acts → tee.Acts → Type 0
  KeepsHeld a b = b.slots.held ≡ a.slots.held

  abbrev IsApart : TeeOperation → Type 0
  IsApart (tees.KeepChunk v) = ⊥
  IsApart tees.HandChunk = ⊥
  IsApart _ = Unit {0}

  apart-held : (operation : TeeOperation) (a : tee.Acts) → IsApart operation → KeepsHeld a (tee_operation t operation a)
  unfolding tee.pull_branch tee.source_closed tee.source_errored tee.handed tee.cancel_branch tee.reader_settled
  apart-held (tees.KeepChunk v) a n = absurd n
  apart-held tees.HandChunk a n = absurd n
  apart-held operation a n = grind arith

  handed-none : (a : tee.Acts) (held : Option Value) → a.slots.held ≡ held → (tee.hand_held t a held).slots.held ≡ None
  handed-none a None e = e
  handed-none a (Some v) e = refl

  or-true : (a : Bool) → (a || true) ≡ true
  or-true true = refl
  or-true false = refl

  last-hands : (xs : List Job) (j : Job) → hands j ≡ true → any_hands (xs ++ j ∷ []) ≡ true
  last-hands [] j e = rw e refl
  last-hands (x ∷ xs) j e = or-more (hands x) true (any_hands (xs ++ j ∷ [])) (λ h. last-hands xs j e) (or-true (hands x))

  self : nat_eq t.0 t.0 ≡ true
  self = grind arith

  -- a chunk is kept: no rejection is to be heard of, as the source hasn't errored
  no-error : (s : Slots) (v : Value) (es : List Effect) (x : tee.Slots) → Ends t s (OnTee t (tees.KeepChunk v) ∷ es) → slice_get s.tees t.0 ≡ Some x → JobsFit (ends t) ⊥ s.promises.jobs
  no-error s v es x k now =
      let at : slice_get (tee_shapes s) t.0 ≡ Some (tee_shape x) = map-there tee_shape s.tees t.0 x now in
      let h = k.ended (tee_shape x) at in
      let g = k.gifts.gifted (tee_shape x) at in
      jobs-weaker (ends t) (IsRejected (ends t) h.promise s.promises) ⊥ (λ r. by h.promise (g.errored (error h.promise r h.stage)).0) s.promises.jobs h.tells.told.queued
    where
      error : (p : PromiseId) → IsRejected (ends t) p s.promises → Stage t x.source p s (OnTee t (tees.KeepChunk v) ∷ es) → (readable_at x.source s).state ≡ Errored
      error p r (inl comes) = let wrong = comes.0 in cc
      error p r (inr h) = errored-at t s (OnTee t (tees.KeepChunk v) ∷ es) (tee_shape x) p k.straight (k.gifts.gifted (tee_shape x) (map-there tee_shape s.tees t.0 x now)).kind h.fate r

      by : (p : PromiseId) → one_of t t ≡ 0 → ⊥
      by p e = let one : one_of t t ≡ 1 = rw self refl in let wrong : ◌≡◌ {A = ℕ} 1 0 = sym one ∙ e in cc

  -- an operation of the tee, by what it does to the chunk
  own-ordered : (s : Slots) (operation : TeeOperation) (es : List Effect) (o : Option tee.Slots) → slice_get s.tees t.0 ≡ o → Ends t s (OnTee t operation ∷ es) → InOrder s.promises → InOrder (on_tee_at (tee_operation t operation) t s o).slots.promises
  unfolding tee.keep_chunk queue_micro
  own-ordered s operation es None e k h = h
  own-ordered s operation es (Some x) e k h = by operation k
    where
      by : (operation : TeeOperation) → Ends t s (OnTee t operation ∷ es) → InOrder (tee_operation t operation (record { slots = x; out = found s })).out.promises
      by (tees.KeepChunk v) k = free-ordered s.promises.jobs (MicroJob (TeeHand t)) (no-error s v es x k e)
      by tees.PullBranch k = tee-does t InOrder quietly-ordered t tees.PullBranch (record { slots = x; out = found s }) tt h
      by tees.SourceClosed k = tee-does t InOrder quietly-ordered t tees.SourceClosed (record { slots = x; out = found s }) tt h
      by tees.SourceErrored k = tee-does t InOrder quietly-ordered t tees.SourceErrored (record { slots = x; out = found s }) tt h
      by tees.HandChunk k = tee-does t InOrder quietly-ordered t tees.HandChunk (record { slots = x; out = found s }) tt h
      by tees.Handed k = tee-does t InOrder quietly-ordered t tees.Handed (record { slots = x; out = found s }) tt h
      by (tees.CancelBranch half r u) k = tee-does t InOrder quietly-ordered t (tees.CancelBranch half r u) (record { slots = x; out = found s }) tt h
      by (tees.ReaderSettled o) k = tee-does t InOrder quietly-ordered t (tees.ReaderSettled o) (record { slots = x; out = found s }) tt h

  tee-ordered : (s : Slots) (u : TeeId) (operation : TeeOperation) (es : List Effect) (same : Bool) → nat_eq t.0 u.0 ≡ same → Ends t s (OnTee u operation ∷ es) → InOrder s.promises → InOrder (row (OnTee u operation) s).slots.promises
  unfolding row
  tee-ordered s u operation es false n k h = row-quietly t InOrder quietly-ordered (OnTee u operation) s (quiet operation) h
    where
      quiet : (operation : TeeOperation) → IsQuiet t (OnTee u operation)
      quiet (tees.KeepChunk v) = n
      quiet tees.PullBranch = tt
      quiet tees.SourceClosed = tt
      quiet tees.SourceErrored = tt
      quiet tees.HandChunk = tt
      quiet tees.Handed = tt
      quiet (tees.CancelBranch half r u) = tt
      quiet (tees.ReaderSettled o) = tt
  tee-ordered s u operation es true n k h =
      let is : t ≡ u = ap (λ (n : ℕ). record { 0 = n }) (eq_numbers t.0 u.0 n) in
      subst (λ (z : TeeId). Ends t s (OnTee z operation ∷ es) → InOrder (on_tee_at (tee_operation z operation) z s (slice_get s.tees z.0)).slots.promises) is
      (λ k. own-ordered s operation es (slice_get s.tees t.0) refl k h) k

  row-ordered : (s : Slots) (e : Effect) (es : List Effect) → Ends t s (e ∷ es) → NoQueue e → InOrder s.promises → InOrder (row e s).slots.promises
  row-ordered s (OnTee u operation) es k n h = tee-ordered s u operation es (nat_eq t.0 u.0) refl k h
  row-ordered s (Queue m) es k n h = row-quietly t InOrder quietly-ordered (Queue m) s n h
  row-ordered s e es k n h = row-quietly t InOrder quietly-ordered e s tt h

  -- what it holds

  row-waits : (e : Effect) (s : Slots) → Waits s.promises → Waits (row e s).slots.promises
  row-waits e s w = row-changes Waits waits-change e s w

  -- a step that isn't the handing of the chunk
  goes-on : (s : Slots) (e : Effect) (es fs : List Effect) (x y : tee.Slots) (v : Value) → Holds s (e ∷ es) → slice_get s.tees t.0 ≡ Some x → y.held ≡ x.held → y.held ≡ Some v → (e ≡ OnTee t tees.HandChunk → ⊥)
      → Waits (row e s).slots.promises ⊎ (fs ≡ OnTee t tees.HandChunk ∷ [])
  goes-on s e es fs x y v k now same held n = by (k x v now (sym same ∙ held))
    where
      first : (e f : Effect) (es fs : List Effect) → ◌≡◌ {A = List Effect} (e ∷ es) (f ∷ fs) → e ≡ f
      first e f es fs h = cc

      by : Waits s.promises ⊎ ((e ∷ es) ≡ OnTee t tees.HandChunk ∷ []) → Waits (row e s).slots.promises ⊎ (fs ≡ OnTee t tees.HandChunk ∷ [])
      by (inl w) = inl (row-waits e s w)
      by (inr h) = absurd (n (first e (OnTee t tees.HandChunk) es [] h))

  some_same : (x y : tee.Slots) → ◌≡◌ {A = Option tee.Slots} (Some x) (Some y) → x ≡ y
  some_same x y e = cc

  some_none : (v : Value) {A : Type 0} → ◌≡◌ {A = Option Value} (Some v) None → A
  some_none v e = cc

  own-held : (s : Slots) (operation : TeeOperation) (es fs : List Effect) (o : Option tee.Slots) → slice_get s.tees t.0 ≡ o → Holds s (OnTee t operation ∷ es)
      → (y : tee.Slots) (v : Value) → slice_get (on_tee_at (tee_operation t operation) t s o).slots.tees t.0 ≡ Some y → y.held ≡ Some v
      → Waits (row (OnTee t operation) s).slots.promises ⊎ (fs ≡ OnTee t tees.HandChunk ∷ [])
  unfolding row tee.keep_chunk tee.hand_chunk queue_micro
  own-held s operation es fs None e k y v now held = let wrong : None ≡ Some y = sym e ∙ now in cc
  own-held s operation es fs (Some x) e k y v now held = by operation k (sym (tees_same t s.tees t.0 x _ e) ∙ now)
    where
      still : (operation : TeeOperation) → Holds s (OnTee t operation ∷ es) → IsApart operation → ◌≡◌ {A = Option tee.Slots} (Some (tee_operation t operation (record { slots = x; out = found s })).slots) (Some y)
          → (OnTee t operation ≡ OnTee t tees.HandChunk → ⊥) → Waits (row (OnTee t operation) s).slots.promises ⊎ (fs ≡ OnTee t tees.HandChunk ∷ [])
      still operation k apart h n =
          let same = ap (λ (z : tee.Slots). z.held) (some_same _ y h) in
          goes-on s (OnTee t operation) es fs x y v k e (sym same ∙ apart-held operation (record { slots = x; out = found s }) apart) held n

      by : (operation : TeeOperation) → Holds s (OnTee t operation ∷ es) → ◌≡◌ {A = Option tee.Slots} (Some (tee_operation t operation (record { slots = x; out = found s })).slots) (Some y)
          → Waits (row (OnTee t operation) s).slots.promises ⊎ (fs ≡ OnTee t tees.HandChunk ∷ [])
      by (tees.KeepChunk w) k h = inl (rw e (last-hands s.promises.jobs (MicroJob (TeeHand t)) self))
      by tees.HandChunk k h =
          let none : (tee.hand_held t (record { slots = x; out = found s }) x.held).slots.held ≡ None = handed-none (record { slots = x; out = found s }) x.held refl in
          let same = ap (λ (z : tee.Slots). z.held) (some_same _ y h) in
          some_none v (sym held ∙ (sym same ∙ none))
      by tees.PullBranch k h = still tees.PullBranch k tt h (λ e. cc)
      by tees.SourceClosed k h = still tees.SourceClosed k tt h (λ e. cc)
      by tees.SourceErrored k h = still tees.SourceErrored k tt h (λ e. cc)
      by tees.Handed k h = still tees.Handed k tt h (λ e. cc)
      by (tees.CancelBranch half r u) k h = still (tees.CancelBranch half r u) k tt h (λ e. cc)
      by (tees.ReaderSettled o) k h = still (tees.ReaderSettled o) k tt h (λ e. cc)

  other-tees : (s : Slots) (u : TeeId) (operation : TeeOperation) (o : Option tee.Slots) → nat_eq t.0 u.0 ≡ false → slice_get (on_tee_at (tee_operation u operation) u s o).slots.tees t.0 ≡ slice_get s.tees t.0
  other-tees s u operation None n = refl
  other-tees s u operation (Some x) n = tees_other t s.tees t.0 u.0 _ (unequal_numbers t.0 u.0 n)

  tee-held : (s : Slots) (u : TeeId) (operation : TeeOperation) (es fs : List Effect) (same : Bool) → nat_eq t.0 u.0 ≡ same → Holds s (OnTee u operation ∷ es) → Holds (row (OnTee u operation) s).slots fs
  unfolding row
  tee-held s u operation es fs false n k = λ y v now held.
      goes-on s (OnTee u operation) es fs y y v k (sym (other-tees s u operation (slice_get s.tees u.0) n) ∙ now) refl held
      (λ e. let is : nat_eq t.0 u.0 ≡ true = ap (λ (f : Effect). number f) e ∙ self in let wrong : false ≡ true = sym n ∙ is in absurd (cc))
    where
      number : Effect → Bool
      number (OnTee u operation) = nat_eq t.0 u.0
      number _ = false
  tee-held s u operation es fs true n k =
      let is : t ≡ u = ap (λ (n : ℕ). record { 0 = n }) (eq_numbers t.0 u.0 n) in
      subst (λ (z : TeeId). Holds s (OnTee z operation ∷ es) → Holds (row (OnTee z operation) s).slots fs) is
      (λ k y v now held. own-held s operation es fs (slice_get s.tees t.0) refl k y v now held) k

  apart-held-row : (s : Slots) (e : Effect) (es fs : List Effect) → (row e s).slots.tees ≡ s.tees → (e ≡ OnTee t tees.HandChunk → ⊥) → Holds s (e ∷ es) → Holds (row e s).slots fs
  apart-held-row s e es fs same n k y v now held = goes-on s e es fs y y v k (sym (ap (λ (xs : List tee.Slots). slice_get xs t.0) same) ∙ now) refl held n

  row-held : (s : Slots) (e : Effect) (es fs : List Effect) → Holds s (e ∷ es) → Holds (row e s).slots fs
  row-held s (OnTee u operation) es fs k = tee-held s u operation es fs (nat_eq t.0 u.0) refl k
  row-held s e es fs k = apart-held-row s e es fs (row-tees e s tt) (λ h. cc) k

  -- calls

  new-held : (xs : List tee.Slots) (y : tee.Slots) (n : ℕ) (x : tee.Slots) (v : Value) → y.held ≡ None → slice_get (xs ++ y ∷ []) n ≡ Some x → x.held ≡ Some v → slice_get xs n ≡ Some x
  new-held [] y zero x v none e held = let same = ap (λ (z : tee.Slots). z.held) (some_same y x e) in some_none v (sym held ∙ (sym same ∙ none))
  new-held [] y (suc n) x v none e held = cc
  new-held (z ∷ xs) y zero x v none e held = e
  new-held (z ∷ xs) y (suc n) x v none e held = new-held xs y n x v none e held

  abbrev Kept : Slots → Slots → Type 0
  Kept s z = (x : tee.Slots) (v : Value) → slice_get z.tees t.0 ≡ Some x → x.held ≡ Some v → slice_get s.tees t.0 ≡ Some x

  call-kept : (c : Call) (s : Slots) → Kept s (begin c s).done.slots
  call-kept c s = begin-makes (Kept s) (record {
    promise = λ z k. k;
    locks = λ z ls k. k;
    hosts = λ z hs k. k;
    pipe = λ z source dest prevent signal promise k. k;
    signal = λ z k. k;
    transform = λ z kind i j change k. k;
    tee = λ z source first second cancel k x v e held. k x v (new-held z.tees (tee.set_up source first second cancel) t.0 x v refl e held) held;
    port = λ z side stream backpressure k. k;
    readable = λ z owner mark size k. k;
    bytes = λ z mark auto k. k;
    byob_requests = λ z requests k. k;
    writable = λ z owner mark size k. k;
  }) c s (λ x v e held. e)

  call-jobs : (c : Call) (s : Slots) → (begin c s).done.slots.promises.jobs ≡ s.promises.jobs
  unfolding fresh
  call-jobs c s = begin-makes (λ z. z.promises.jobs ≡ s.promises.jobs) (record {
    promise = λ z k. k;
    locks = λ z ls k. k;
    hosts = λ z hs k. k;
    pipe = λ z source dest prevent signal promise k. k;
    signal = λ z k. k;
    transform = λ z kind i j change k. k;
    tee = λ z source first second cancel k. k;
    port = λ z side stream backpressure k. k;
    readable = λ z owner mark size k. k;
    bytes = λ z mark auto k. k;
    byob_requests = λ z requests k. k;
    writable = λ z owner mark size k. k;
  }) c s refl

  call-queues : (c : Call) (s : Slots) → Each NoQueue (begin c s).done.caused
  call-queues c s = each_call (λ (z : Begun). Each NoQueue z.done.caused) c s (grind (arith, each-append))

  -- between steps, a chunk that is held has its microtask
  waits-now : (s : Slots) → Holds s [] → (x : tee.Slots) (v : Value) → slice_get s.tees t.0 ≡ Some x → x.held ≡ Some v → Waits s.promises
  waits-now s k x v now held = by (k x v now held)
    where
      by : Waits s.promises ⊎ ([] ≡ OnTee t tees.HandChunk ∷ []) → Waits s.promises
      by (inl w) = w
      by (inr e) = absurd (cc)

  -- jobs

  taken-ordered : (job : Job) (x : Table) → InOrder x → InOrder (taken job x)
  taken-ordered (ReactionJob step o derived) x h = h
  taken-ordered (Follow p q) x h = react-ordered x q (Adopt p) h
  taken-ordered (Settle p o) x h = unfollow-cases InOrder p x h (λ e z u w. more-ordered x z [] w.jobs refl h)
  taken-ordered (MicroJob m) x h = h

  taken-waits : (job : Job) (x : Table) → Waits x → Waits (taken job x)
  taken-waits (ReactionJob step o derived) x h = h
  taken-waits (Follow p q) x h = react-waits x q (Adopt p) h
  taken-waits (Settle p o) x h = unfollow-cases Waits p x h (λ e z u w. more-waits x z [] w.jobs h)
  taken-waits (MicroJob m) x h = h

  first-ordered : (js : List Job) (x : Table) → js ≡ x.jobs → InOrder x → InOrder (after_first x js)
  first-ordered [] x e h = h
  first-ordered (j ∷ js) x e h = let k : Ordered (j ∷ js) = subst Ordered (sym e) h in taken-ordered j (record x { jobs = js }) k.1

  next-ordered : (x : Table) → InOrder x → InOrder (after_next_job x)
  unfolding after_next_job
  next-ordered x h = first-ordered x.jobs x refl h

  hand-now : (j : Job) → hands j ≡ true → job_effects j ≡ OnTee t tees.HandChunk ∷ []
  hand-now (MicroJob (TeeHand u)) e = let is : t ≡ u = ap (λ (n : ℕ). record { 0 = n }) (eq_numbers t.0 u.0 e) in ap (λ (z : TeeId). OnTee z tees.HandChunk ∷ []) (sym is)
  hand-now (MicroJob (PipeLook p)) e = cc
  hand-now (MicroJob (PipeWrite p)) e = cc
  hand-now (MicroJob (PipeNoParts p)) e = cc
  hand-now (ReactionJob step o derived) e = cc
  hand-now (Follow p q) e = cc
  hand-now (Settle p o) e = cc

  first-waits : (js : List Job) (x : Table) (job : Job) → first_job js ≡ Some job → any_hands js ≡ true → Waits (after_first x js) ⊎ (job_effects job ≡ OnTee t tees.HandChunk ∷ [])
  first-waits [] x job e w = cc
  first-waits (j ∷ js) x job e w =
      let same : j ≡ job = cc in
      subst (λ (z : Job). Waits (taken j (record x { jobs = js })) ⊎ (job_effects z ≡ OnTee t tees.HandChunk ∷ [])) same (by (hands j) refl w)
    where
      by : (b : Bool) → hands j ≡ b → (b || any_hands js) ≡ true → Waits (taken j (record x { jobs = js })) ⊎ (job_effects j ≡ OnTee t tees.HandChunk ∷ [])
      by true e w = inr (hand-now j e)
      by false e w = inl (taken-waits j (record x { jobs = js }) w)

  next-waits : (x : Table) (job : Job) → next_job x ≡ Some job → Waits x → Waits (after_next_job x) ⊎ (job_effects job ≡ OnTee t tees.HandChunk ∷ [])
  unfolding after_next_job
  next-waits x job e w = first-waits x.jobs x job e w

  job-queues : (job : Job) → Each NoQueue (job_effects job)
  job-queues job = grind (arith, each-append)

  watch-ordered : (p : PromiseId) (x : Table) → InOrder x → InOrder (watch p x)
  watch-ordered p x h = watch-cases InOrder p x h (λ e z u w. more-ordered x z [] w.jobs refl h)

  watch-waits : (p : PromiseId) (x : Table) → Waits x → Waits (watch p x)
  watch-waits p x h = watch-cases Waits p x h (λ e z u w. more-waits x z [] w.jobs h)

  pub hears-stays : Stays Hears
  hears-stays = record {
    row = λ s e es k. record {
      ends = (ends-stays t).row s e es k.ends;
      ordered = row-ordered s e es k.ends k.queues.0 k.ordered;
      queues = each-append NoQueue (row e s).caused es (row-causes NoQueue e s (no-queue e)) k.queues.1;
      holds = row-held s e es ((row e s).caused ++ es) k.holds;
    };
    call = λ s c k. record {
      ends = (ends-stays t).call s c k.ends;
      ordered = subst Ordered (sym (call-jobs c s)) k.ordered;
      queues = call-queues c s;
      holds = λ x v now held. inl (ap any_hands (call-jobs c s) ∙ waits-now s k.holds x v (call-kept c s x v now held) held);
    };
    job = λ s job e k. record {
      ends = (ends-stays t).job s job e k.ends;
      ordered = next-ordered s.promises k.ordered;
      queues = job-queues job;
      holds = λ x v now held. next-waits s.promises job e (waits-now s k.holds x v now held);
    };
    answered = λ s p k. record {
      ends = (ends-stays t).answered s p k.ends;
      ordered = watch-ordered p s.promises k.ordered;
      queues = tt;
      holds = λ x v now held. inl (watch-waits p s.promises (waits-now s k.holds x v now held));
    };
    older = λ s k. record { ends = (ends-stays t).older s k.ends; ordered = k.ordered; queues = tt; holds = λ x v now held. inl (waits-now s k.holds x v now held) };
  }

  pub hears-heard : (s : Slots) → Hears s [] → Hears (after_event s) []
  hears-heard s k = record { ends = ends-heard t s k.ends; ordered = k.ordered; queues = tt; holds = λ x v now held. inl (waits-now s k.holds x v now held) }

  pub hears-empty : Hears empty []
  hears-empty = record { ends = ends-empty t; ordered = tt; queues = tt; holds = λ x v now held. cc }

  -- the tee holds nothing where it hears of a rejection

  behind-none : (js : List Job) (r : Plain) (d : Option PromiseId) → first_job js ≡ Some (ReactionJob (TeeEnds t) (Err r) d) → Ordered js → any_hands js ≡ false
  behind-none [] r d e o = cc
  behind-none (j ∷ js) r d e o =
      let same : j ≡ ReactionJob (TeeEnds t) (Err r) d = cc in
      let error : hears_error j ≡ true = ap hears_error same ∙ self in
      or-false (hands j) (any_hands js) (ap hands same) (o.0 error)

  pub nothing-held : (s : Slots) (r : Plain) (d : Option PromiseId) (x : tee.Slots) → Hears s [] → next_job s.promises ≡ Some (ReactionJob (TeeEnds t) (Err r) d) → slice_get s.tees t.0 ≡ Some x → x.held ≡ None
  nothing-held s r d x k e now = by x.held refl
    where
      by : (held : Option Value) → x.held ≡ held → held ≡ None
      by None h = refl
      by (Some v) h = let w = waits-now s k.holds x v now h in let wrong : false ≡ true = sym (behind-none s.promises.jobs r d e k.ordered) ∙ w in cc
