-- How a writable stream comes to need its first chunk handed on: an operation performs the write algorithm only where it didn't need that, and
-- what has ended stays so.
use Rattle.std.proofs.Common.{◌≡◌, Bool, true, false, not, ◌&&◌, ◌||◌, is_some, is_none, if◌then◌else◌, List, [], ◌∷◌, ◌++◌, Option, Some, None, Ok, Err, refl, sym, ap, ◌∙◌, arith}
use Rattle.ws_steps.specs.Writable.{first_request}
use Rattle.ws_value.specs.declared.ids.{PromiseId.{PromiseId}, StreamId.{StreamId}}
use Rattle.ws_value.specs.declared.value.{Plain.{Plain}, Plain.TheVariants.{Undefined}, Value.{Value}}
use Rattle.ws_steps.specs.declared.{effects.Effect.{Effect}, effects.Effect.TheVariants.{WriteAlgorithm}, queue.Queued.{Queued}, transform.Taker.{Taker}}
use Rattle.ws_steps.specs.declared.writable.{PendingAbort.{PendingAbort}, WritableState.{WritableState}, WritableState.TheVariants.{Writable, Erroring}, WriteRecord.{WriteRecord}, WriteRecord.TheVariants.{Chunk, InFlight, CloseMark}, Writer.{Writer}}
use Rattle.ws_steps.specs.declared.writable.WritableOperation.{WritableOperation}
use Rattle.ws_steps.specs.declared.writable.WritableOperation.TheVariants.{SetUpWriter, ReleaseWriter, Write, Close, ClosePropagating, Abort, AbortIfWritable, ErrorIfNeeded, HandOn, StartSettled, WriteSettled, CloseSettled, AbortSettled}
use Rattle.ws_steps.specs.Effects.{type_error}
use Rattle.ws_steps.specs.Operations.{writable_operation}
use Rattle.ws_steps.specs.Promises.{settle}
use Rattle.ws_steps.specs.Queues.{first_value, enqueued, size_of}
use Rattle.ws_steps.specs.Writable.{Slots, Acts, with_promises, is_writable, is_erroring, is_errored, is_closed, is_in_flight, reject_close_and_closed, finish_abort, fail_writes, finish_erroring, reject_ready, start_erroring, deal_with_rejection, controller_error_if_needed, process_write, process_close, process_first, advance_queue, hand_on_first, hand_on, has_ended, update_backpressure, refresh_backpressure, write_ended, without_first, write_settled, close_ended, abort_ended, finish_in_flight_close_with_error, close_settled, start_settled, abort_settled, is_closing, enqueue_chunk, controller_write, add_write_request, write_refusal, write_by, writer_write, controller_close, add_close_request, fulfil_ready, stream_close, close_with_error_propagation, add_pending_abort, begin_abort, signalled, stream_abort, abort_if_writable, set_up_writer, writer_release}
use Rattle.ws_laws.proofs.Tables.{either}
use Rattle.ws_laws.proofs.Truth.{and_right}
use Rattle.ws_laws.proofs.WritableDoes.{IsHandOn}
use Rattle.ws_writable_laws.proofs.Shape.{leads}
use Rattle.std.proofs.Common.{ℕ, ◌+◌, length, if◌then◌else◌}
use Rattle.ws_steps.specs.Queues.{rest_of}
use Rattle.ws_transform_laws.proofs.Stages.{IsWriteSettled}
use Rattle.ws_writable_laws.proofs.Shape.{all, writes_in, is_mark}
use Rattle.ws_transform_laws.proofs.Need.{needs, Core, Same, reject_ready-same, writable_is, no_flight, refresh-same, fulfil_ready-same, not_ended_writable, signalled-same, release-same, close_ended-same, abort_ended-same, unrequested-same, closed_now}

-- the write algorithm
abbrev pub starts_write : Effect → ℕ
starts_write (WriteAlgorithm j) = 1
starts_write _ = 0

needs-same : (a b : Acts) → Same a b → needs b.slots ≡ needs a.slots
needs-same a b s = ap (λ (c : Core). (not (has_ended c.state) && is_some c.flying) && not (leads c.queue)) s.core

module _ (i : StreamId) (was : Bool) where
  -- after an operation, where it needed one before, or didn't
  pub data Moves (b : Acts) : Type 0 where
    Ends : has_ended b.slots.state ≡ true → Moves b
    Keeps : all starts_write b.out.effects ≡ 0 → needs b.slots ≡ was → Moves b
    Begins : all starts_write b.out.effects ≡ 1 → was ≡ false → needs b.slots ≡ true → Moves b

  abbrev pub Quiet : Acts → Type 0
  Quiet a = (a.out.effects ≡ []) × (needs a.slots ≡ was)

  quiet-moves : (a : Acts) → Quiet a → Moves a
  quiet-moves a q = Keeps (rw (q.0) refl) q.1

  quiet-same : (a b : Acts) → Same a b → Quiet a → Quiet b
  quiet-same a b s q = (s.effects ∙ q.0, needs-same a b s ∙ q.1)

  -- as many requests as writes stand in the queue, and none in that of a stream that has ended
  abbrev pub Lined : Acts → Type 0
  Lined a = (has_ended a.slots.state ≡ true → a.slots.queue ≡ []) × (is_some a.slots.write_in_flight ≡ false → writes_in a.slots.queue ≡ length a.slots.write_requests)

  unrequested-state : (a : Acts) → (reject_close_and_closed a).slots.state ≡ a.slots.state
  unfolding reject_close_and_closed
  unrequested-state a = grind arith

  finish_abort-state : (a : Acts) (abort : Option PendingAbort) → (finish_abort i a abort).slots.state ≡ a.slots.state
  finish_abort-state a abort = grind (arith, unrequested-state)

  finish-ends : (a : Acts) → has_ended (finish_erroring i a).slots.state ≡ true
  unfolding finish_erroring
  finish-ends a = let b : Acts = fail_writes a in ap has_ended (finish_abort-state b b.slots.pending_abort)

  erroring-needs : (r : Plain) (a : Acts) → a.slots.state ≡ Writable → needs (record a.slots { state = Erroring; stored_error = r }) ≡ needs a.slots
  erroring-needs r a e = rw e refl

  start-moves : (r : Plain) (a : Acts) → a.slots.state ≡ Writable → Quiet a → Moves (start_erroring i r a)
  unfolding start_erroring
  start-moves r a e q =
      let c : Acts = record a { slots = record a.slots { state = Erroring; stored_error = r } } in
      let b : Acts = reject_ready r c a.slots.writer in
      either Moves (not (is_in_flight b.slots) && b.slots.started) (finish_erroring i b) b
      (λ f. Ends (finish-ends b)) (λ f. quiet-moves b (quiet-same c b (reject_ready-same r c a.slots.writer) (q.0, erroring-needs r a e ∙ q.1)))

  deal-moves : (r : Plain) (a : Acts) → Quiet a → Moves (deal_with_rejection i r a)
  unfolding deal_with_rejection
  deal-moves r a q =
      either Moves (is_writable a.slots.state) (start_erroring i r a) (finish_erroring i a)
      (λ e. start-moves r a (writable_is a.slots.state e) q) (λ e. Ends (finish-ends a))

  error_if_needed-moves : (r : Plain) (a : Acts) → Quiet a → Moves (controller_error_if_needed i r a)
  unfolding controller_error_if_needed
  error_if_needed-moves r a q = either Moves (is_writable a.slots.state) (start_erroring i r a) a (λ e. start-moves r a (writable_is a.slots.state e) q) (λ e. quiet-moves a q)

  alone : (w : Slots) → is_some w.write_in_flight ≡ false → needs w ≡ false
  alone w e = rw e (none (has_ended w.state))
    where
      none : (b : Bool) → (not b && false) && not (leads w.queue) ≡ false
      none b = grind arith

  -- a chunk that is first has a request
  first-request : (queue : List (Queued WriteRecord)) (requests : List PromiseId) (v : Value) → first_value queue ≡ Some (Chunk v) → writes_in queue ≡ length requests → is_some (first_request requests) ≡ true
  first-request [] requests v e n = cc
  first-request (q ∷ qs) [] v e n = let k : q.value ≡ Chunk v = cc in let m : is_mark q.value ≡ false = rw k refl in absurd (more (rw m at n))
    where
      more : {A : Type 0} → 1 + writes_in qs ≡ 0 → A
      more e = absurd (omega arith)
  first-request (q ∷ qs) (p ∷ ps) v e n = refl

  first-leads : (queue : List (Queued WriteRecord)) (v : Value) → first_value queue ≡ Some (Chunk v) → leads queue ≡ false
  first-leads queue v e = grind (arith, e)

  first-there : (queue : List (Queued WriteRecord)) (v : Value) → first_value queue ≡ Some (Chunk v) → queue ≡ [] → {A : Type 0} → A
  first-there [] v e n = cc
  first-there (q ∷ qs) v e n = cc

  running : (a : Acts) (v : Value) → Lined a → first_value a.slots.queue ≡ Some (Chunk v) → has_ended a.slots.state ≡ false
  running a v l e = by (has_ended a.slots.state) refl
    where
      by : (b : Bool) → b ≡ has_ended a.slots.state → has_ended a.slots.state ≡ false
      by false f = sym f
      by true f = first-there a.slots.queue v e (l.0 (sym f))

  process-moves : (a : Acts) (first : Option WriteRecord) → first_value a.slots.queue ≡ first → is_some a.slots.write_in_flight ≡ false → Lined a → Quiet a → Moves (process_first i a first)
  unfolding process_write process_close
  process-moves a (Some (Chunk v)) e w l q =
      Begins (rw (q.0) refl) (sym q.1 ∙ alone a.slots w)
      (rw (running a v l e, first-request a.slots.queue a.slots.write_requests v e (l.1 w), first-leads a.slots.queue v e) refl)
  process-moves a (Some CloseMark) e w l q = Keeps (rw (q.0) refl) (alone (process_first i a (Some CloseMark)).slots w ∙ (sym (alone a.slots w) ∙ q.1))
  process-moves a (Some InFlight) e w l q = quiet-moves a q
  process-moves a None e w l q = quiet-moves a q

  advance-moves : (a : Acts) → Lined a → Quiet a → Moves (advance_queue i a)
  unfolding advance_queue
  advance-moves a l q =
      let processed : Acts = process_first i a (first_value a.slots.queue) in
      either Moves (a.slots.started && is_none a.slots.write_in_flight) (if is_erroring a.slots.state then finish_erroring i a else processed) a
      (λ ready. either Moves (is_erroring a.slots.state) (finish_erroring i a) processed
      (λ e. Ends (finish-ends a))
      (λ e. process-moves a (first_value a.slots.queue) refl (no_flight a.slots.write_in_flight (and_right a.slots.started (is_none a.slots.write_in_flight) ready)) l q))
      (λ e. quiet-moves a q)

  -- lines

  lined-same : (a b : Acts) → Same a b → b.slots.write_requests ≡ a.slots.write_requests → Lined a → Lined b
  lined-same a b s r l = (
    λ e. ap (λ (c : Core). c.queue) s.core ∙ l.0 (ap (λ (c : Core). has_ended c.state) (sym s.core) ∙ e),
    λ e. ap (λ (c : Core). writes_in c.queue) s.core ∙ (l.1 (ap (λ (c : Core). is_some c.flying) (sym s.core) ∙ e) ∙ ap length (sym r)),
  )

  refresh-requests : (a : Acts) → (refresh_backpressure a).slots.write_requests ≡ a.slots.write_requests
  unfolding refresh_backpressure update_backpressure
  refresh-requests a = grind arith

  leads-more : (xs : List (Queued WriteRecord)) (q : Queued WriteRecord) → leads (q ∷ []) ≡ false → leads (xs ++ q ∷ []) ≡ leads xs
  leads-more [] q e = e
  leads-more (x ∷ xs) q e = refl

  writes-more : (xs : List (Queued WriteRecord)) (q : Queued WriteRecord) → writes_in (xs ++ q ∷ []) ≡ writes_in xs + writes_in (q ∷ [])
  writes-more [] q = omega arith
  writes-more (x ∷ xs) q = let h = writes-more xs q in omega (arith, h)

  length-more : (ps : List PromiseId) (p : PromiseId) → length (ps ++ p ∷ []) ≡ length ps + 1
  length-more [] p = refl
  length-more (q ∷ ps) p = let h = length-more ps p in omega (arith, h)

  -- a write

  not-refused : (w : Slots) → write_refusal w ≡ None → has_ended w.state ≡ false
  not-refused w e = grind (arith, e)

  write-moves : (v : Value) (p : PromiseId) (a : Acts) (refusal : Option Plain) → write_refusal a.slots ≡ refusal → Lined a → Quiet a → Moves (write_by i v p a refusal)
  unfolding controller_write
  write-moves v p a (Some e) f l q = quiet-moves (with_promises (settle p (Err e) a.out.promises) a) q
  write-moves v p a None f l q =
      let b : Acts = enqueue_chunk v (add_write_request p a) in
      let new : Queued WriteRecord = record { value = Chunk v; size = size_of a.slots.size_by v } in
      let alive = not-refused a.slots f in
      let lined : Lined b = (
        λ e. let wrong : false ≡ true = sym alive ∙ e in cc,
        λ e. let n = writes-more a.slots.queue new in let m = l.1 e in let k = length-more a.slots.write_requests p in omega (arith, n, m, k),
      ) in
      let needed : needs b.slots ≡ needs a.slots = rw (leads-more a.slots.queue new refl) refl in
      advance-moves (refresh_backpressure b) (lined-same b (refresh_backpressure b) (refresh-same b) (refresh-requests b) lined) (quiet-same b (refresh_backpressure b) (refresh-same b) (q.0, needed ∙ q.1))

  -- a close

  fulfil-requests : (a : Acts) (w : Option Writer) → (fulfil_ready a w).slots.write_requests ≡ a.slots.write_requests
  fulfil-requests a w = grind arith

  or-false : (x y : Bool) → x || y ≡ false → x ≡ false
  or-false x y e = grind (arith, e)

  close-moves : (p : PromiseId) (a : Acts) → Lined a → Quiet a → Moves (stream_close i p a)
  unfolding stream_close controller_close
  close-moves p a l q =
      let b : Acts = add_close_request p a in
      let c : Acts = fulfil_ready b b.slots.writer in
      let mark : Queued WriteRecord = record { value = CloseMark; size = 0 } in
      let d : Acts = record c { slots = record c.slots { queue = enqueued CloseMark 0 c.slots.queue } } in
      let same = fulfil_ready-same b b.slots.writer in
      let lined : Lined c = lined-same b c same (fulfil-requests b b.slots.writer) l in
      let quiet : Quiet c = quiet-same b c same q in
      either Moves (has_ended a.slots.state || is_closing a.slots) (with_promises (settle p (Err type_error) a.out.promises) a) (advance_queue i d)
      (λ e. quiet-moves (with_promises (settle p (Err type_error) a.out.promises) a) q)
      (λ e.
      let alive : has_ended c.slots.state ≡ false = ap (λ (k : Core). has_ended k.state) same.core ∙ or-false (has_ended a.slots.state) (is_closing a.slots) e in
      advance-moves d
      ((λ f. let wrong : false ≡ true = sym alive ∙ f in cc), (λ f. let n = writes-more c.slots.queue mark in let m = lined.1 f in omega (arith, n, m)))
      (quiet.0, rw (leads-more c.slots.queue mark refl) quiet.1))

  propagating-moves : (p : PromiseId) (a : Acts) → Lined a → Quiet a → Moves (close_with_error_propagation i p a)
  unfolding close_with_error_propagation
  propagating-moves p a l q =
      either Moves (is_closing a.slots || is_closed a.slots.state) _ _ (λ e. quiet-moves (with_promises (settle p (Ok Undefined) a.out.promises) a) q)
      (λ e. either Moves (is_errored a.slots.state) _ _ (λ f. quiet-moves (with_promises (settle p (Err a.slots.stored_error) a.out.promises) a) q) (λ f. close-moves p a l q))

  -- an abort

  begin_abort-moves : (r : Plain) (p : PromiseId) (a : Acts) → has_ended a.slots.state ≡ false → Quiet a → Moves (begin_abort i r p a)
  begin_abort-moves r p a alive q =
      let b : Acts = add_pending_abort r p a in
      either Moves (is_erroring a.slots.state) b (start_erroring i r b) (λ e. quiet-moves b q) (λ e. start-moves r b (not_ended_writable a.slots.state alive e) q)

  abort-moves : (r : Plain) (p : PromiseId) (a : Acts) → Quiet a → Moves (stream_abort i r p a)
  unfolding stream_abort
  abort-moves r p a q =
      let b : Acts = signalled i r a a.slots.owner in
      let same = signalled-same i r a a.slots.owner in
      either Moves (has_ended a.slots.state) (with_promises (settle p (Ok Undefined) a.out.promises) a) (begin_abort i r p b)
      (λ e. quiet-moves (with_promises (settle p (Ok Undefined) a.out.promises) a) q)
      (λ e. begin_abort-moves r p b (ap (λ (c : Core). has_ended c.state) same.core ∙ e) (quiet-same a b same q))

  abort_writable-moves : (r : Plain) (p : PromiseId) (a : Acts) → Quiet a → Moves (abort_if_writable i r p a)
  unfolding abort_if_writable
  abort_writable-moves r p a q =
      either Moves (is_writable a.slots.state) _ _ (λ e. abort-moves r p a q) (λ e. quiet-moves (with_promises (settle p (Ok Undefined) a.out.promises) a) q)

  -- each operation but the handing on, and the end of a write
  pub operation-moves : (operation : WritableOperation) (a : Acts) → (IsHandOn operation → ⊥) → (IsWriteSettled operation → ⊥) → Lined a → Quiet a → Moves (writable_operation i operation a)
  unfolding set_up_writer writer_release writer_write start_settled write_settled close_settled finish_in_flight_close_with_error abort_settled
  operation-moves (SetUpWriter w) a u n l q = quiet-moves (set_up_writer w a) q
  operation-moves ReleaseWriter a u n l q = quiet-moves (writer_release a) (quiet-same a (writer_release a) (release-same a a.slots.writer) q)
  operation-moves (Write v p) a u n l q = write-moves v p a (write_refusal a.slots) refl l q
  operation-moves (Close p) a u n l q = close-moves p a l q
  operation-moves (ClosePropagating p) a u n l q = propagating-moves p a l q
  operation-moves (Abort r p) a u n l q = abort-moves r p a q
  operation-moves (AbortIfWritable r p) a u n l q = abort_writable-moves r p a q
  operation-moves (ErrorIfNeeded e) a u n l q = error_if_needed-moves e a q
  operation-moves (HandOn taker) a u n l q = absurd (u tt)
  operation-moves (StartSettled (Ok v)) a u n l q = advance-moves (record a { slots = record a.slots { started = true } }) l q
  operation-moves (StartSettled (Err e)) a u n l q = deal-moves e (record a { slots = record a.slots { started = true } }) q
  operation-moves (WriteSettled o) a u n l q = absurd (n tt)
  operation-moves (CloseSettled (Ok v)) a u n l q = Ends (ap has_ended (closed_now a))
  operation-moves (CloseSettled (Err e)) a u n l q =
      let b : Acts = close_ended (Err e) a in
      deal-moves e (abort_ended (Err e) b) (quiet-same b (abort_ended (Err e) b) (abort_ended-same (Err e) b) (quiet-same a b (close_ended-same (Err e) a) q))
  operation-moves (AbortSettled p (Ok v)) a u n l q =
      let b : Acts = with_promises (settle p (Ok Undefined) a.out.promises) a in quiet-moves (reject_close_and_closed b) (quiet-same b (reject_close_and_closed b) (unrequested-same b) q)
  operation-moves (AbortSettled p (Err e)) a u n l q =
      let b : Acts = with_promises (settle p (Err e) a.out.promises) a in quiet-moves (reject_close_and_closed b) (quiet-same b (reject_close_and_closed b) (unrequested-same b) q)

-- a write has ended

-- it failed, where the controller has started and no close is in flight: the stream has errored
err-ends : (i : StreamId) (e : Plain) (a : Acts) → a.slots.started ≡ true → is_some a.slots.close_in_flight ≡ false → has_ended (deal_with_rejection i e (write_ended (Err e) a)).slots.state ≡ true
unfolding deal_with_rejection start_erroring
err-ends i e a s n =
    let w : Acts = write_ended (Err e) a in
    let c : Acts = record w { slots = record w.slots { state = Erroring; stored_error = e } } in
    let b : Acts = reject_ready e c w.slots.writer in
    let ready : not (is_in_flight b.slots) && b.slots.started ≡ true = free e c w.slots.writer refl n s in
    either (λ (z : Acts). has_ended z.slots.state ≡ true) (is_writable w.slots.state) _ (finish_erroring i w)
    (λ f. either (λ (z : Acts). has_ended z.slots.state ≡ true) (not (is_in_flight b.slots) && b.slots.started) (finish_erroring i b) b (λ g. finish-ends i true b)
    (λ g. let wrong : true ≡ false = sym ready ∙ g in cc))
    (λ f. finish-ends i true w)
  where
    free : (r : Plain) (c : Acts) (w : Option Writer) → c.slots.write_in_flight ≡ None → is_some c.slots.close_in_flight ≡ false → c.slots.started ≡ true
        → not (is_in_flight (reject_ready r c w).slots) && (reject_ready r c w).slots.started ≡ true
    free r c None f g h = rw (f, g, h) refl
    free r c (Some w) f g h = rw (f, g, h) refl

pub failed-ends : (i : StreamId) (e : Plain) (a : Acts) → a.slots.started ≡ true → is_some a.slots.close_in_flight ≡ false → has_ended (writable_operation i (WriteSettled (Err e)) a).slots.state ≡ true
unfolding write_settled
failed-ends i e a s n = err-ends i e a s n

-- and it succeeded
pub fulfilled-moves : (i : StreamId) (v : Plain) (a : Acts) → a.out.effects ≡ [] → (has_ended a.slots.state ≡ true → rest_of a.slots.queue ≡ []) → writes_in (rest_of a.slots.queue) ≡ length a.slots.write_requests
    → Moves i false (writable_operation i (WriteSettled (Ok v)) a)
unfolding write_settled
fulfilled-moves i v a q e n =
    let b : Acts = without_first (write_ended (Ok Undefined) a) in
    let lined : Lined i false b = (e, λ f. n) in
    let quiet : Quiet i false b = (q, alone i false b.slots refl) in
    advance-moves i false (refresh_backpressure b) (lined-same i false b (refresh_backpressure b) (refresh-same b) (refresh-requests i false b) lined) (quiet-same i false b (refresh_backpressure b) (refresh-same b) quiet)

-- what has ended stays so

module _ (i : StreamId) where
  abbrev Stays : Acts → Acts → Type 0
  Stays a b = has_ended a.slots.state ≡ true → has_ended b.slots.state ≡ true

  stays-same : (a b : Acts) → Same a b → Stays a b
  stays-same a b s e = ap (λ (c : Core). has_ended c.state) s.core ∙ e

  unwritable : (s : WritableState) → has_ended s ≡ true → is_writable s ≡ false
  unwritable s e = grind (arith, e)

  deal-stays : (r : Plain) (a : Acts) → Stays a (deal_with_rejection i r a)
  unfolding deal_with_rejection
  deal-stays r a e = rw (unwritable a.slots.state e) (finish-ends i true a)

  error_if_needed-stays : (r : Plain) (a : Acts) → Stays a (controller_error_if_needed i r a)
  unfolding controller_error_if_needed
  error_if_needed-stays r a e = rw (unwritable a.slots.state e) e

  process-stays : (a : Acts) (first : Option WriteRecord) → Stays a (process_first i a first)
  unfolding process_write process_close
  process-stays a (Some (Chunk v)) e = e
  process-stays a (Some CloseMark) e = e
  process-stays a (Some InFlight) e = e
  process-stays a None e = e

  advance-stays : (a : Acts) → Stays a (advance_queue i a)
  unfolding advance_queue
  advance-stays a e =
      either (λ (z : Acts). has_ended z.slots.state ≡ true) (a.slots.started && is_none a.slots.write_in_flight) (if is_erroring a.slots.state then finish_erroring i a else process_first i a (first_value a.slots.queue)) a
      (λ r. either (λ (z : Acts). has_ended z.slots.state ≡ true) (is_erroring a.slots.state) (finish_erroring i a) (process_first i a (first_value a.slots.queue)) (λ f. finish-ends i true a) (λ f. process-stays a (first_value a.slots.queue) e))
      (λ r. e)

  write-stays : (v : Value) (p : PromiseId) (a : Acts) (refusal : Option Plain) → Stays a (write_by i v p a refusal)
  unfolding controller_write
  write-stays v p a (Some r) e = e
  write-stays v p a None e =
      let b : Acts = enqueue_chunk v (add_write_request p a) in advance-stays (refresh_backpressure b) (stays-same b (refresh_backpressure b) (refresh-same b) e)

  or-true : (x y : Bool) → x ≡ true → x || y ≡ true
  or-true x y e = grind (arith, e)

  close-stays : (p : PromiseId) (a : Acts) → Stays a (stream_close i p a)
  unfolding stream_close
  close-stays p a e = rw (or-true (has_ended a.slots.state) (is_closing a.slots) e) e

  propagating-stays : (p : PromiseId) (a : Acts) → Stays a (close_with_error_propagation i p a)
  unfolding close_with_error_propagation
  propagating-stays p a e =
      either (λ (z : Acts). has_ended z.slots.state ≡ true) (is_closing a.slots || is_closed a.slots.state) _ _ (λ f. e)
      (λ f. either (λ (z : Acts). has_ended z.slots.state ≡ true) (is_errored a.slots.state) _ _ (λ g. e) (λ g. close-stays p a e))

  abort-stays : (r : Plain) (p : PromiseId) (a : Acts) → Stays a (stream_abort i r p a)
  unfolding stream_abort
  abort-stays r p a e = rw e e

  abort_writable-stays : (r : Plain) (p : PromiseId) (a : Acts) → Stays a (abort_if_writable i r p a)
  unfolding abort_if_writable
  abort_writable-stays r p a e = rw (unwritable a.slots.state e) e

  hand-stays : (taker : Taker) (a : Acts) (first : Option WriteRecord) → Stays a (hand_on_first i taker a first)
  hand-stays taker a None e = e
  hand-stays taker a (Some (Chunk v)) e = e
  hand-stays taker a (Some InFlight) e = e
  hand-stays taker a (Some CloseMark) e = e

  pub ended-stays : (operation : WritableOperation) (a : Acts) → Stays a (writable_operation i operation a)
  unfolding set_up_writer writer_release writer_write start_settled write_settled close_settled finish_in_flight_close_with_error abort_settled hand_on
  ended-stays (SetUpWriter w) a e = e
  ended-stays ReleaseWriter a e = stays-same a (writer_release a) (release-same a a.slots.writer) e
  ended-stays (Write v p) a e = write-stays v p a (write_refusal a.slots) e
  ended-stays (Close p) a e = close-stays p a e
  ended-stays (ClosePropagating p) a e = propagating-stays p a e
  ended-stays (Abort r p) a e = abort-stays r p a e
  ended-stays (AbortIfWritable r p) a e = abort_writable-stays r p a e
  ended-stays (ErrorIfNeeded r) a e = error_if_needed-stays r a e
  ended-stays (HandOn taker) a e = hand-stays taker a (first_value a.slots.queue) e
  ended-stays (StartSettled (Ok v)) a e = advance-stays (record a { slots = record a.slots { started = true } }) e
  ended-stays (StartSettled (Err r)) a e = deal-stays r (record a { slots = record a.slots { started = true } }) e
  ended-stays (WriteSettled (Ok v)) a e =
      let b : Acts = without_first (write_ended (Ok Undefined) a) in advance-stays (refresh_backpressure b) (stays-same b (refresh_backpressure b) (refresh-same b) e)
  ended-stays (WriteSettled (Err r)) a e = deal-stays r (write_ended (Err r) a) e
  ended-stays (CloseSettled (Ok v)) a e = ap has_ended (closed_now a)
  ended-stays (CloseSettled (Err r)) a e =
      let b : Acts = close_ended (Err r) a in deal-stays r (abort_ended (Err r) b) (stays-same b (abort_ended (Err r) b) (abort_ended-same (Err r) b) (stays-same a b (close_ended-same (Err r) a) e))
  ended-stays (AbortSettled p (Ok v)) a e =
      let b : Acts = with_promises (settle p (Ok Undefined) a.out.promises) a in stays-same b (reject_close_and_closed b) (unrequested-same b) e
  ended-stays (AbortSettled p (Err r)) a e =
      let b : Acts = with_promises (settle p (Err r) a.out.promises) a in stays-same b (reject_close_and_closed b) (unrequested-same b) e
