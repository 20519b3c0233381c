-- Whether a readable stream wants a chunk, and what each operation of it does to that: it wants none any more only where it gives one, or where a
-- read that waits is released; and it pulls only where it wants one.
use Rattle.std.proofs.Common.{◌≡◌, ◌⊎◌, inl, inr, ⊎_elim, ℕ, ◌+◌, Bool, true, false, not, ◌&&◌, ◌||◌, nat_lt, is_some, if◌then◌else◌, List, [], ◌∷◌, ◌++◌, Option, Some, None, Ok, Err, refl, sym, ap, ◌∙◌, arith}
use Rattle.ws_value.specs.declared.ids.{PromiseId.{PromiseId}, StreamId.{StreamId}}
use Rattle.ws_value.specs.declared.value.{Plain.{Plain}, Value.{Value}}
use Rattle.ws_steps.specs.declared.effects.{Effect.{Effect}, Effect.TheVariants.{PullAlgorithm, CancelAlgorithm, ChunkSteps, CloseSteps, ErrorSteps}}
use Rattle.ws_steps.specs.declared.queue.Queued.{Queued}
use Rattle.ws_steps.specs.declared.readable.{ReadRequest.{ReadRequest}, ReadableOperation.{ReadableOperation}, ReadableState.{ReadableState}, ReadableState.TheVariants.{Readable, Closed, Errored}}
use Rattle.ws_steps.specs.declared.readable.ReadableOperation.TheVariants.{InitializeReader, ReleaseReader, Disturb, Read, Cancel, CancelIfReadable, Enqueue, Close, Error, StartSettled, PullSettled}
use Rattle.ws_steps.specs.Effects.{type_error}
use Rattle.ws_steps.specs.Operations.{readable_operation}
use Rattle.ws_steps.specs.Queues.{is_empty, total_of}
use Rattle.ws_steps.specs.Readable.{Slots, Acts, causing, close_all, error_all, is_readable, waiting, can_close_or_enqueue, should_call_pull, call_pull, call_pull_if_needed, accept_for, accept, controller_enqueue, close_reader, stream_close, error_reader, stream_error, close_if_empty, controller_close, controller_error, after_take, pull_from, pull_steps, read_by, default_reader_read, disturb, reader_generic_initialize, start_settled, pull_ended, pull_settled, cancel_steps, cancel_by, stream_cancel, cancel_readable_by, cancel_if_readable, release_by, reader_release}
use Rattle.std.proofs.lemmas.List.Sums.{sum_by-cons}
use Rattle.ws_steps.specs.Readable as readable
use Rattle.ws_laws.proofs.Lists.{Each, each-append}
use Rattle.ws_laws.proofs.Tables.{either}
use Rattle.ws_transform_laws.specs.TransformHistory.{wants_none}
use Rattle.ws_steps.specs.declared.effects.Effect.TheVariants.{CloseStepsWith}

abbrev pub IsNoPull : Effect → Type 0
IsNoPull (PullAlgorithm j) = ⊥
IsNoPull (ChunkSteps j q v) = Unit {0}
IsNoPull (CloseSteps j q) = Unit {0}
IsNoPull (CloseStepsWith j q b) = Unit {0}
IsNoPull (ErrorSteps j q e) = Unit {0}
IsNoPull _ = ⊥

abbrev pub IsEnding : Effect → Type 0
IsEnding (CancelAlgorithm j c p) = Unit {0}
IsEnding (CloseSteps j q) = Unit {0}
IsEnding (CloseStepsWith j q b) = Unit {0}
IsEnding _ = ⊥

-- what an operation of stream i causes: it pulls at most once, with no more beside than the steps of one request that gets its chunk
pub data Causes (i : StreamId) (x : Slots) (cs : List Effect) : Type 0 where
  Rests : Each IsNoPull cs → Causes i x cs
  Cancels : can_close_or_enqueue x ≡ false → Each IsEnding cs → Causes i x cs
  Pulls : wants_none x ≡ false → cs ≡ PullAlgorithm i ∷ [] → Causes i x cs
  PullsFirst : (q : ReadRequest) (v : Value) → wants_none x ≡ false → cs ≡ PullAlgorithm i ∷ ChunkSteps i q v ∷ [] → Causes i x cs
  PullsLast : (q : ReadRequest) (v : Value) → wants_none x ≡ false → cs ≡ ChunkSteps i q v ∷ PullAlgorithm i ∷ [] → Causes i x cs

-- after an operation
pub record Moved (i : StreamId) (was : Bool) (b : Acts) : Type 0 where
  pub unwanted : wants_none b.slots ≡ true → was ≡ true
  pub causes : Causes i b.slots b.out.effects

-- nothing is caused yet
pub record Still (was : Bool) (a : Acts) : Type 0 where
  pub unwanted : wants_none a.slots ≡ true → was ≡ true
  pub quiet : a.out.effects ≡ []

module _ (i : StreamId) where
  still-moved : (was : Bool) (a : Acts) → Still was a → Moved i was a
  still-moved was a s = record { unwanted = s.unwanted; causes = Rests (rw s.quiet tt) }

  shut-none : (x : Slots) → can_close_or_enqueue x ≡ false → wants_none x ≡ false
  shut-none x e = rw e refl

  shut-moved : (was : Bool) (b : Acts) → can_close_or_enqueue b.slots ≡ false → Each IsNoPull b.out.effects → Moved i was b
  shut-moved was b e n = record { unwanted = λ k. let no = shut-none b.slots e in absurd (cc); causes = Rests n }

  unreadable : (x : Slots) → is_readable x.state ≡ false → can_close_or_enqueue x ≡ false
  unreadable x e = grind (arith, e)

  pulls-wants : (x : Slots) → should_call_pull x ≡ true → wants_none x ≡ false
  pulls-wants x e = grind (arith, e)

  pull-moved : (was : Bool) (a : Acts) → Still was a → Moved i was (call_pull_if_needed i a)
  unfolding call_pull_if_needed
  pull-moved was a s =
      either (Moved i was) (should_call_pull a.slots) (call_pull i a) a
      (λ e. either (Moved i was) a.slots.pulling _ _ (λ p. record { unwanted = s.unwanted; causes = Rests (rw s.quiet tt) }) (λ p. record { unwanted = s.unwanted; causes = Pulls (pulls-wants a.slots e) (rw s.quiet refl) }))
      (λ e. still-moved was a s)

  close_all-rests : (rs : List ReadRequest) → Each IsNoPull (close_all i rs)
  close_all-rests [] = tt
  close_all-rests (q ∷ rs) = (tt, close_all-rests rs)

  error_all-rests : (e : Plain) (rs : List ReadRequest) → Each IsNoPull (error_all i e rs)
  error_all-rests e [] = tt
  error_all-rests e (q ∷ rs) = (tt, error_all-rests e rs)

  -- the stream ends

  close_reader-shut : (a : Acts) (o : Option PromiseId) → is_readable a.slots.state ≡ false → Each IsNoPull a.out.effects → (is_readable (close_reader i a o).slots.state ≡ false) × Each IsNoPull (close_reader i a o).out.effects
  close_reader-shut a None e n = (e, n)
  close_reader-shut a (Some p) e n = (e, each-append IsNoPull a.out.effects (close_all i a.slots.requests) n (close_all-rests a.slots.requests))

  close-shut : (a : Acts) → Each IsNoPull a.out.effects → (is_readable (stream_close i a).slots.state ≡ false) × Each IsNoPull (stream_close i a).out.effects
  unfolding stream_close
  close-shut a n = close_reader-shut (record a { slots = record a.slots { state = Closed } }) a.slots.reader refl n

  error_reader-shut : (c : Plain) (a : Acts) (o : Option PromiseId) → is_readable a.slots.state ≡ false → Each IsNoPull a.out.effects → (is_readable (error_reader i c a o).slots.state ≡ false) × Each IsNoPull (error_reader i c a o).out.effects
  error_reader-shut c a None e n = (e, n)
  error_reader-shut c a (Some p) e n = (e, each-append IsNoPull a.out.effects (error_all i c a.slots.requests) n (error_all-rests c a.slots.requests))

  error-shut : (c : Plain) (a : Acts) → Each IsNoPull a.out.effects → (is_readable (stream_error i c a).slots.state ≡ false) × Each IsNoPull (stream_error i c a).out.effects
  unfolding stream_error
  error-shut c a n = error_reader-shut c (record a { slots = record a.slots { state = Errored; stored_error = c } }) a.slots.reader refl n

  shut : (was : Bool) (b : Acts) → (is_readable b.slots.state ≡ false) × Each IsNoPull b.out.effects → Moved i was b
  shut was b k = shut-moved was b (unreadable b.slots k.0) k.1

  controller_error-moved : (was : Bool) (c : Plain) (a : Acts) → Still was a → Moved i was (controller_error i c a)
  unfolding controller_error
  controller_error-moved was c a s =
      either (Moved i was) (is_readable a.slots.state) (stream_error i c (record a { slots = record a.slots { queue = [] } })) a
      (λ e. shut was _ (error-shut c (record a { slots = record a.slots { queue = [] } }) (rw s.quiet tt))) (λ e. still-moved was a s)

  requested-shut : (x : Slots) → x.close_requested ≡ true → can_close_or_enqueue x ≡ false
  requested-shut x e = rw e refl

  controller_close-moved : (was : Bool) (a : Acts) → Still was a → Moved i was (controller_close i a)
  unfolding controller_close close_if_empty
  controller_close-moved was a s =
      let b : Acts = record a { slots = record a.slots { close_requested = true } } in
      either (Moved i was) (can_close_or_enqueue a.slots) (if is_empty b.slots.queue then stream_close i b else b) a
      (λ can. either (Moved i was) (is_empty b.slots.queue) (stream_close i b) b (λ e. shut was (stream_close i b) (close-shut b (rw s.quiet tt))) (λ e. shut-moved was b refl (rw s.quiet tt)))
      (λ cannot. still-moved was a s)

  close_all-ends : (rs : List ReadRequest) → Each IsEnding (close_all i rs)
  close_all-ends [] = tt
  close_all-ends (q ∷ rs) = (tt, close_all-ends rs)

  close_reader-ends : (a : Acts) (o : Option PromiseId) → a.out.effects ≡ [] → Each IsEnding (close_reader i a o).out.effects
  close_reader-ends a None e = rw e tt
  close_reader-ends a (Some p) e = rw e (close_all-ends a.slots.requests)

  close-ends : (a : Acts) → a.out.effects ≡ [] → Each IsEnding (stream_close i a).out.effects
  unfolding stream_close
  close-ends a e = close_reader-ends (record a { slots = record a.slots { state = Closed } }) a.slots.reader e

  cancel-by : (was : Bool) (c : Plain) (p : PromiseId) (a : Acts) (state : ReadableState) → Still was a → Moved i was (cancel_by i c p a state)
  unfolding cancel_steps
  cancel-by was c p a Readable s =
      let k = close-shut a (rw s.quiet tt) in
      let shut_now : can_close_or_enqueue (stream_close i a).slots ≡ false = unreadable (stream_close i a).slots k.0 in
      record {
        unwanted = λ n. let no = shut-none (cancel_steps i c p (stream_close i a)).slots shut_now in absurd (cc);
        causes = Cancels shut_now (each-append IsEnding (stream_close i a).out.effects (CancelAlgorithm i c p ∷ []) (close-ends a s.quiet) (tt, tt));
      }
  cancel-by was c p a Closed s = still-moved was _ (record { unwanted = s.unwanted; quiet = s.quiet })
  cancel-by was c p a Errored s = still-moved was _ (record { unwanted = s.unwanted; quiet = s.quiet })

  cancel-moved : (was : Bool) (c : Plain) (p : PromiseId) (a : Acts) → Still was a → Moved i was (stream_cancel i c p a)
  unfolding stream_cancel
  cancel-moved was c p a s = cancel-by was c p (record a { slots = record a.slots { disturbed = true } }) a.slots.state (record { unwanted = s.unwanted; quiet = s.quiet })

  cancel-readable-by : (was : Bool) (c : Plain) (p : PromiseId) (a : Acts) (state : ReadableState) → Still was a → Moved i was (cancel_readable_by i c p a state)
  cancel-readable-by was c p a Readable s = cancel-moved was c p a s
  cancel-readable-by was c p a Closed s = still-moved was _ (record { unwanted = s.unwanted; quiet = s.quiet })
  cancel-readable-by was c p a Errored s = still-moved was _ (record { unwanted = s.unwanted; quiet = s.quiet })

  -- a read

  -- a stream that has less queued wants as much
  longer : (a n m : ℕ) → nat_lt n m ≡ false → nat_lt (a + n) m ≡ false
  longer a n m e = grind arith

  less-wanted : (can w l m : Bool) → (m ≡ false → l ≡ false) → can && not (w || m) ≡ true → can && not (w || l) ≡ true
  less-wanted true false l false k e = rw (k refl) refl
  less-wanted true false l true k e = cc
  less-wanted true true l m k e = cc
  less-wanted false w l m k e = cc

  shorter-none : (x : Slots) (q : Queued Value) (qs : List (Queued Value)) → x.queue ≡ q ∷ qs → wants_none (record x { queue = qs }) ≡ true → wants_none x ≡ true
  shorter-none x q qs e n =
      let total : total_of x.queue ≡ q.size + total_of qs = ap (λ (zs : List (Queued Value)). total_of zs) e ∙ sum_by-cons (λ (z : Queued Value). z.size) q qs in
      less-wanted (can_close_or_enqueue x) (not (is_empty (waiting x))) (nat_lt (total_of x.queue) x.hwm) (nat_lt (total_of qs) x.hwm) (λ l. rw total (longer q.size (total_of qs) x.hwm l)) n

  -- what a pull causes
  pull-one : (a : Acts) → a.out.effects ≡ [] → ((call_pull_if_needed i a).out.effects ≡ []) ⊎ ((call_pull_if_needed i a).out.effects ≡ PullAlgorithm i ∷ [])
  unfolding call_pull_if_needed
  pull-one a q =
      either (λ (b : Acts). (b.out.effects ≡ []) ⊎ (b.out.effects ≡ PullAlgorithm i ∷ [])) (should_call_pull a.slots) (call_pull i a) a
      (λ e. either (λ (b : Acts). (b.out.effects ≡ []) ⊎ (b.out.effects ≡ PullAlgorithm i ∷ [])) a.slots.pulling _ _ (λ p. inl q) (λ p. inr (rw q refl))) (λ e. inl q)

  one-pull : {A : Type 0} (cs : List Effect) → cs ≡ PullAlgorithm i ∷ [] → Each IsNoPull cs → A
  one-pull cs e n = let k : Each IsNoPull (PullAlgorithm i ∷ []) = rw e at n in absurd k.0

  pulled : (x : Slots) (cs : List Effect) → cs ≡ PullAlgorithm i ∷ [] → Causes i x cs → wants_none x ≡ false
  pulled x cs e (Rests n) = one-pull cs e n
  pulled x cs e (Cancels c n) = let k : Each IsEnding (PullAlgorithm i ∷ []) = rw e at n in absurd k.0
  pulled x cs e (Pulls w f) = w
  pulled x cs e (PullsFirst q v w f) = w
  pulled x cs e (PullsLast q v w f) = w

  behind : (was : Bool) (b : Acts) (q : ReadRequest) (v : Value) → Moved i was b → Each IsNoPull b.out.effects ⊎ (b.out.effects ≡ PullAlgorithm i ∷ []) → Moved i was (causing (ChunkSteps i q v) b)
  behind was b q v m (inl n) = record { unwanted = m.unwanted; causes = Rests (each-append IsNoPull b.out.effects (ChunkSteps i q v ∷ []) n (tt, tt)) }
  behind was b q v m (inr e) = record { unwanted = m.unwanted; causes = PullsFirst q v (pulled b.slots b.out.effects e m.causes) (rw e refl) }

  taken-moved : (was : Bool) (a : Acts) (q : ReadRequest) (v : Value) → Still was a → Moved i was (causing (ChunkSteps i q v) (after_take i a))
  unfolding after_take
  taken-moved was a q v s =
      either (λ (b : Acts). Moved i was (causing (ChunkSteps i q v) b)) (a.slots.close_requested && is_empty a.slots.queue) (stream_close i a) (call_pull_if_needed i a)
      (λ e. let k = close-shut a (rw s.quiet tt) in behind was (stream_close i a) q v (shut was (stream_close i a) k) (inl k.1))
      (λ e. behind was (call_pull_if_needed i a) q v (pull-moved was a s) (⊎_elim (λ none. inl (rw none tt)) (λ one. inr one) (pull-one a s.quiet)))

  -- one more read waits, where there is a reader
  asked-none : (x : Slots) (q : ReadRequest) → wants_none (record x { requests = x.requests ++ q ∷ [] }) ≡ true → wants_none x ≡ true
  asked-none x q n = by (is_some x.reader) refl x.requests refl n
    where
      never : {A : Type 0} (b : Bool) → b && false ≡ true → A
      never true e = cc
      never false e = cc

      by : (b : Bool) → b ≡ is_some x.reader → (rs : List ReadRequest) → rs ≡ x.requests → can_close_or_enqueue x && not (not (is_empty (if is_some x.reader then rs ++ q ∷ [] else [])) || nat_lt (total_of x.queue) x.hwm) ≡ true → wants_none x ≡ true
      by false e rs f m = let k : can_close_or_enqueue x && not (not (is_empty (if false then rs ++ q ∷ [] else [])) || nat_lt (total_of x.queue) x.hwm) ≡ true = rw (← e) at m in rw (← e) k
      by true e [] f m = let k : can_close_or_enqueue x && false ≡ true = rw (← e) at m in never (can_close_or_enqueue x) k
      by true e (y ∷ ys) f m = let k : can_close_or_enqueue x && false ≡ true = rw (← e) at m in never (can_close_or_enqueue x) k

  pull_from-moved : (was : Bool) (q : ReadRequest) (a : Acts) (queue : List (Queued Value)) → queue ≡ a.slots.queue → Still was a → Moved i was (pull_from i q a queue)
  pull_from-moved was q a [] e s = pull-moved was (record a { slots = record a.slots { requests = a.slots.requests ++ q ∷ [] } }) (record { unwanted = λ n. s.unwanted (asked-none a.slots q n); quiet = s.quiet })
  pull_from-moved was q a (z ∷ zs) e s = taken-moved was (record a { slots = record a.slots { queue = zs } }) q z.value (record { unwanted = λ n. s.unwanted (shorter-none a.slots z zs (sym e) n); quiet = s.quiet })

  read-by : (was : Bool) (q : ReadRequest) (a : Acts) (state : ReadableState) → Still was a → Moved i was (read_by i q a state)
  unfolding pull_steps
  read-by was q a Readable s = pull_from-moved was q a a.slots.queue refl s
  read-by was q a Closed s = record { unwanted = s.unwanted; causes = Rests (rw s.quiet (tt, tt)) }
  read-by was q a Errored s = record { unwanted = s.unwanted; causes = Rests (rw s.quiet (tt, tt)) }

  -- a reader comes and goes

  fresh-none : (x : Slots) (p : PromiseId) → is_some x.reader ≡ false → wants_none (record x { reader = Some p; requests = [] }) ≡ true → wants_none x ≡ true
  fresh-none x p e n = rw e n

  gone-none : (x : Slots) → waiting x ≡ [] → wants_none (record x { reader = None; requests = [] }) ≡ true → wants_none x ≡ true
  gone-none x e n = rw e n

  release-moved : (was : Bool) (a : Acts) (o : Option PromiseId) → waiting a.slots ≡ [] → Still was a → Moved i was (release_by i a o)
  release-moved was a None w s = still-moved was a s
  release-moved was a (Some p) w s =
      record { unwanted = λ n. s.unwanted (gone-none a.slots w n); causes = Rests (each-append IsNoPull _ (error_all i type_error a.slots.requests) (settles a.slots.state) (error_all-rests type_error a.slots.requests)) }
    where
      settles : (state : ReadableState) → Each IsNoPull (readable.release_closed p a.out state).effects
      settles Readable = rw s.quiet tt
      settles Closed = rw s.quiet tt
      settles Errored = rw s.quiet tt

  -- each operation, but for an enqueue

  abbrev pub Finds : ReadableOperation → Slots → Type 0
  Finds (InitializeReader p) x = is_some x.reader ≡ false
  Finds ReleaseReader x = waiting x ≡ []
  Finds (Enqueue v) x = ⊥
  Finds _ x = Unit {0}

  pub operation-moved : (operation : ReadableOperation) (was : Bool) (a : Acts) → Finds operation a.slots → Still was a → Moved i was (readable_operation i operation a)
  unfolding reader_generic_initialize reader_release disturb default_reader_read cancel_if_readable start_settled pull_settled
  operation-moved (InitializeReader p) was a f s = record { unwanted = λ n. s.unwanted (fresh-none a.slots p f n); causes = Rests (settles a.slots.state) }
    where
      settles : (state : ReadableState) → Each IsNoPull (readable.settle_closed p a.slots.stored_error a.out state).effects
      settles Readable = rw s.quiet tt
      settles Closed = rw s.quiet tt
      settles Errored = rw s.quiet tt
  operation-moved ReleaseReader was a f s = release-moved was a a.slots.reader f s
  operation-moved Disturb was a f s = still-moved was _ (record { unwanted = s.unwanted; quiet = s.quiet })
  operation-moved (Read q) was a f s = read-by was q (record a { slots = record a.slots { disturbed = true } }) a.slots.state (record { unwanted = s.unwanted; quiet = s.quiet })
  operation-moved (Cancel c p) was a f s = cancel-moved was c p a s
  operation-moved (CancelIfReadable c p) was a f s = cancel-readable-by was c p a a.slots.state s
  operation-moved (Enqueue v) was a f s = absurd f
  operation-moved Close was a f s = controller_close-moved was a s
  operation-moved (Error c) was a f s = controller_error-moved was c a s
  operation-moved (StartSettled (Ok v)) was a f s = pull-moved was (record a { slots = record a.slots { started = true } }) (record { unwanted = s.unwanted; quiet = s.quiet })
  operation-moved (StartSettled (Err c)) was a f s = controller_error-moved was c a s
  operation-moved (PullSettled (Ok v)) was a f s =
      let b : Acts = record a { slots = record a.slots { pulling = false } } in
      by a.slots.pull_again b (record { unwanted = s.unwanted; quiet = s.quiet })
    where
      by : (again : Bool) (b : Acts) → Still was b → Moved i was (pull_ended i b again)
      by false b k = still-moved was b k
      by true b k = pull-moved was (record b { slots = record b.slots { pull_again = false } }) (record { unwanted = k.unwanted; quiet = k.quiet })
  operation-moved (PullSettled (Err c)) was a f s = controller_error-moved was c a s

  -- an enqueue causes no more

  accepted-causes : (v : Value) (a : Acts) (rs : List ReadRequest) → a.out.effects ≡ [] → let b = accept_for i v a rs in (b.out.effects ≡ []) ⊎ ((q : ReadRequest) × (b.out.effects ≡ ChunkSteps i q v ∷ []))
  accepted-causes v a [] e = inl e
  accepted-causes v a (q ∷ rs) e = inr (q, rw e refl)

  enqueued-causes : (v : Value) (b : Acts) → (b.out.effects ≡ []) ⊎ ((q : ReadRequest) × (b.out.effects ≡ ChunkSteps i q v ∷ [])) → let c = call_pull_if_needed i b in Causes i c.slots c.out.effects
  unfolding call_pull_if_needed
  enqueued-causes v b (inl e) = (pull-moved true b (record { unwanted = λ n. refl; quiet = e })).causes
  enqueued-causes v b (inr k) =
      either (λ (c : Acts). Causes i c.slots c.out.effects) (should_call_pull b.slots) (call_pull i b) b
      (λ e. either (λ (c : Acts). Causes i c.slots c.out.effects) b.slots.pulling _ _ (λ p. Rests (rw k.1 (tt, tt))) (λ p. PullsLast k.0 v (pulls-wants b.slots e) (rw k.1 refl)))
      (λ e. Rests (rw k.1 (tt, tt)))

  pub enqueue-causes : (v : Value) (a : Acts) → a.out.effects ≡ [] → let b = readable_operation i (Enqueue v) a in Causes i b.slots b.out.effects
  unfolding controller_enqueue accept
  enqueue-causes v a e =
      either (λ (c : Acts). Causes i c.slots c.out.effects) (can_close_or_enqueue a.slots) (call_pull_if_needed i (accept i v a)) a
      (λ can. enqueued-causes v (accept_for i v a (waiting a.slots)) (accepted-causes v a (waiting a.slots) e)) (λ cannot. Rests (rw e tt))

  -- a stream that can take no chunk any more never can again
  pub operation-shut : (operation : ReadableOperation) (a : Acts) → can_close_or_enqueue a.slots ≡ false → can_close_or_enqueue (readable_operation i operation a).slots ≡ false
  unfolding reader_generic_initialize reader_release disturb default_reader_read pull_steps after_take stream_cancel cancel_if_readable cancel_steps start_settled pull_settled controller_enqueue accept controller_close close_if_empty controller_error stream_close stream_error call_pull_if_needed
  operation-shut operation a e = grind (arith, e)

  -- whatever it finds

  release-causes : (a : Acts) (o : Option PromiseId) → a.out.effects ≡ [] → Causes i (release_by i a o).slots (release_by i a o).out.effects
  release-causes a None e = Rests (rw e tt)
  release-causes a (Some p) e = Rests (each-append IsNoPull _ (error_all i type_error a.slots.requests) (settles a.slots.state) (error_all-rests type_error a.slots.requests))
    where
      settles : (state : ReadableState) → Each IsNoPull (readable.release_closed p a.out state).effects
      settles Readable = rw e tt
      settles Closed = rw e tt
      settles Errored = rw e tt

  pub operation-causes : (operation : ReadableOperation) (a : Acts) → a.out.effects ≡ [] → let b = readable_operation i operation a in Causes i b.slots b.out.effects
  unfolding reader_generic_initialize reader_release
  operation-causes (InitializeReader p) a e = Rests (settles a.slots.state)
    where
      settles : (state : ReadableState) → Each IsNoPull (readable.settle_closed p a.slots.stored_error a.out state).effects
      settles Readable = rw e tt
      settles Closed = rw e tt
      settles Errored = rw e tt
  operation-causes ReleaseReader a e = release-causes a a.slots.reader e
  operation-causes (Enqueue v) a e = enqueue-causes v a e
  operation-causes operation a e = (operation-moved operation true a tt (record { unwanted = λ n. refl; quiet = e })).causes

  -- an enqueue causes nothing but the steps of a request that gets the chunk, and a pull

  abbrev pub IsFew : Effect → Type 0
  IsFew (ChunkSteps j q v) = Unit {0}
  IsFew (PullAlgorithm j) = j ≡ i
  IsFew _ = ⊥

  accepted-few : (v : Value) (a : Acts) (rs : List ReadRequest) → a.out.effects ≡ [] → Each IsFew (accept_for i v a rs).out.effects
  accepted-few v a [] e = rw e tt
  accepted-few v a (q ∷ rs) e = rw e (tt, tt)

  pulls-few : (a : Acts) → Each IsFew a.out.effects → Each IsFew (call_pull_if_needed i a).out.effects
  unfolding call_pull_if_needed
  pulls-few a n =
      either (λ (b : Acts). Each IsFew b.out.effects) (should_call_pull a.slots) (call_pull i a) a
      (λ e. either (λ (b : Acts). Each IsFew b.out.effects) a.slots.pulling _ _ (λ p. n) (λ p. each-append IsFew a.out.effects (PullAlgorithm i ∷ []) n (refl, tt))) (λ e. n)

  pub enqueue-few : (v : Value) (a : Acts) → a.out.effects ≡ [] → Each IsFew (readable_operation i (Enqueue v) a).out.effects
  unfolding controller_enqueue accept
  enqueue-few v a e =
      either (λ (c : Acts). Each IsFew c.out.effects) (can_close_or_enqueue a.slots) (call_pull_if_needed i (accept i v a)) a
      (λ open_. pulls-few (accept_for i v a (waiting a.slots)) (accepted-few v a (waiting a.slots) e)) (λ shut_. rw e tt)
