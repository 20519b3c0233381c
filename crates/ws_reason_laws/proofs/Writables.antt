-- Operations of a writable stream keep that nothing bad stands in it, in the promises and in what they cause, where a new promise, which is
-- a writer's ready promise, may be rejected with anything.
use Rattle.std.proofs.Common.{◌≡◌, ℕ, ◌+◌, ◌≤◌, ◌<◌, Bool, true, false, not, ◌&&◌, ◌||◌, is_some, is_none, if◌then◌else◌, List, [], ◌∷◌, Option, Some, None, Result, Ok, Err, refl, sym, subst, arith}
use Rattle.ws_value.specs.declared.ids.PromiseId.{PromiseId}
use Rattle.ws_value.specs.declared.ids.StreamId.{StreamId}
use Rattle.ws_value.specs.declared.value.Plain.{Plain}
use Rattle.ws_value.specs.declared.value.Plain.TheVariants.{Undefined}
use Rattle.ws_value.specs.declared.value.Value.{Value}
use Rattle.ws_steps.specs.declared.calls.Event.TheVariants.{Signal}
use Rattle.ws_steps.specs.declared.effects.Effect.TheVariants as effect
use Rattle.ws_steps.specs.declared.effects.Owner.{Owner}
use Rattle.ws_steps.specs.declared.effects.Owner.TheVariants.{Host, HalfOf, BranchOf, EndOf}
use Rattle.ws_steps.specs.declared.transform.Taker.{Taker}
use Rattle.ws_steps.specs.declared.writable.PendingAbort.{PendingAbort}
use Rattle.ws_steps.specs.declared.writable.WritableOperation.{WritableOperation}
use Rattle.ws_steps.specs.declared.writable.WritableOperation.TheVariants as names
use Rattle.ws_steps.specs.declared.writable.WritableState.{WritableState}
use Rattle.ws_steps.specs.declared.writable.WritableState.TheVariants.{Erroring, Closed}
use Rattle.ws_steps.specs.declared.writable.WriteRecord.{WriteRecord}
use Rattle.ws_steps.specs.declared.writable.WriteRecord.TheVariants.{Chunk, InFlight, CloseMark}
use Rattle.ws_steps.specs.declared.writable.Writer.{Writer}
use Rattle.ws_steps.specs.Effects.{Out, type_error}
use Rattle.ws_steps.specs.Operations.{writable_operation}
use Rattle.ws_steps.specs.Promises.{Table, next_id, fresh, fresh_settled, is_pending_at, settle}
use Rattle.ws_steps.specs.Queues.{enqueued, first_value}
use Rattle.ws_steps.specs.Writable.{Slots, Acts, with_promises, is_writable, is_erroring, is_errored, is_closed, is_closing, is_in_flight, has_ended, has_backpressure, settle_request, reject_all, ensure_rejected, settle_pending, differs, change_ready, ready_for, update_backpressure, refresh_backpressure, reject_close, reject_closed, reject_close_and_closed, abort_by, finish_abort, fail_writes, finish_erroring, reject_ready, start_erroring, deal_with_rejection, controller_error_if_needed, process_write, process_close, process_first, advance_queue, hand_on_first, hand_on, write_ended, without_first, write_settled, close_ended, settle_abort, abort_ended, clear_error, fulfil_closed, finish_in_flight_close, finish_in_flight_close_with_error, close_settled, start_settled, abort_settled, enqueue_chunk, controller_write, add_write_request, write_refusal, write_by, writer_write, controller_close, add_close_request, fulfil_ready, stream_close, close_with_error_propagation, abort_of, add_pending_abort, signalled, stream_abort, abort_if_writable, ready_promise, closed_promise, set_up_writer, release_by, writer_release}
use Rattle.ws_laws.proofs.Tables.{either}
use Rattle.ws_laws.proofs.Truth.{false_true}
use Rattle.ws_laws.proofs.WritableDoes.{OfAlgorithms, finish_abort-does, advance-does}
use Rattle.ws_reason_laws.proofs.InTable.{settle_soft, settle-good, fresh-keeps, tell-keeps, settle-count, fresh-count}
use Rattle.ws_reason_laws.proofs.Readables.{effects-append}
use Rattle.ws_reason_laws.proofs.Weights.{Class, of_result, soft, loud, of_writable, in_table, in_effects, has_error, in_writer, in_abort, in_writable, count}

-- what an operation may expect, so that no rejection comes to a stream that is closed
abbrev pub Expects : WritableOperation → Slots → Type 0
Expects (names.StartSettled o) x = is_closed x.state ≡ false
Expects (names.WriteSettled o) x = is_closed x.state ≡ false
Expects (names.CloseSettled o) x = is_closed x.state ≡ false
Expects (names.AbortSettled p o) x = is_some x.close_request ≡ true → has_error x.state ≡ true
Expects _ x = Unit {0}

-- how many promises there are

abbrev pub size : Acts → ℕ
size a = count a.out.promises

grows : (n : ℕ) (me : StreamId) → OfAlgorithms (λ (x : Out). n ≤ count x.promises) me
grows n me = record {
  settle = λ x p o h. let c = settle-count p o x.promises in omega (arith, h, c);
  fresh = λ x h. let c = fresh-count x.promises in omega (arith, h, c);
  tell = λ x r h. h;
  write = λ x h. h;
  close = λ x h. h;
  abort = λ x r p h. h;
}

reject_all-count : (e : Plain) (ps : List PromiseId) (t : Table) → count (reject_all e ps t) ≡ count t
reject_all-count e [] t = refl
reject_all-count e (p ∷ ps) t = let h = reject_all-count e ps (settle p (Err e) t) in let c = settle-count p (Err e) t in omega (arith, h, c)

finish-grows : (me : StreamId) (a : Acts) → size a ≤ size (finish_erroring me a)
unfolding finish_erroring
finish-grows me a =
    let b : Acts = fail_writes a in
    let c = reject_all-count a.slots.stored_error a.slots.write_requests a.out.promises in
    finish_abort-does (λ (x : Out). size a ≤ count x.promises) me (grows (size a) me) b b.slots.pending_abort (omega (arith, c))

advance-grows : (me : StreamId) (a : Acts) → size a ≤ size (advance_queue me a)
advance-grows me a = advance-does (λ (x : Out). size a ≤ count x.promises) me (grows (size a) me) a (omega arith)

request-count : (o : Result Plain Plain) (t : Table) (p : Option PromiseId) → count (settle_request o t p) ≡ count t
request-count o t None = refl
request-count o t (Some p) = settle-count p o t

abort-count : (o : Result Plain Plain) (t : Table) (abort : Option PendingAbort) → count (settle_abort o t abort) ≡ count t
abort-count o t None = refl
abort-count o t (Some abort) = settle-count abort.promise o t

signalled-count : (me : StreamId) (r : Plain) (a : Acts) (owner : Owner) → size (signalled me r a owner) ≡ size a
signalled-count me r a Host = refl
signalled-count me r a (HalfOf t) = refl
signalled-count me r a (BranchOf t half) = refl
signalled-count me r a (EndOf c) = refl

-- `n` promises are there before the operation and `m` after it, and where there is one more it may be rejected with anything
module _ (k : Class) (me : StreamId) (n m : ℕ) (new : n < m → soft k n ≡ 0) where
  -- nothing bad stands in it
  abbrev Good : Acts → Type 0
  Good a = in_writable k a.slots + (in_table k a.out.promises + in_effects k a.out.effects) ≡ 0

  -- as far as it goes
  abbrev Ends : Acts → Type 0
  Ends z = size z ≤ m → Good z

  writer_soft : (a : Acts) (w : Writer) → a.slots.writer ≡ Some w → Good a → in_writer k (Some w) ≡ 0
  writer_soft a w e h = subst (λ (x : Option Writer). in_writer k x ≡ 0) e (omega (arith, h))

  reject_all-good : (e : Plain) (ps : List PromiseId) (t : Table) → k.bad e ≡ 0 → in_table k t ≡ 0 → in_table k (reject_all e ps t) ≡ 0
  reject_all-good e [] t b h = h
  reject_all-good e (p ∷ ps) t b h = reject_all-good e ps (settle p (Err e) t) b (settle-good k p (Err e) t h b)

  -- the close request and the writer's closed promise

  reject_close-good : (a : Acts) (p : Option PromiseId) → (is_some p ≡ true → k.bad a.slots.stored_error ≡ 0) → Good a → Good (reject_close a p)
  reject_close-good a None b h = h
  reject_close-good a (Some p) b h = let s = settle-good k p (Err a.slots.stored_error) a.out.promises (omega (arith, h)) (b refl) in omega (arith, h, s)

  reject_closed-good : (a : Acts) (w : Option Writer) → a.slots.writer ≡ w → Good a → Good (reject_closed a w)
  unfolding settle_pending
  reject_closed-good a None e h = h
  reject_closed-good a (Some w) e h =
      either (λ (t : Table). Good (with_promises t a)) (is_pending_at w.closed a.out.promises) _ _
      (λ c. let q = writer_soft a w e h in let s = settle_soft k w.closed (Err a.slots.stored_error) a.out.promises (omega (arith, h)) (omega (arith, q)) in omega (arith, h, s))
      (λ c. h)

  reject_both-good : (a : Acts) → (is_some a.slots.close_request ≡ true → k.bad a.slots.stored_error ≡ 0) → Good a → Good (reject_close_and_closed a)
  unfolding reject_close_and_closed
  reject_both-good a b h =
      let c : Acts = reject_close a a.slots.close_request in reject_closed-good c c.slots.writer refl (reject_close-good a a.slots.close_request b h)

  -- erroring

  abort_by-good : (abort : PendingAbort) (a : Acts) (was : Bool) → loud k abort.promise.0 + (if was then 0 else k.bad abort.reason) ≡ 0 → k.bad a.slots.stored_error ≡ 0 → Good a → Good (abort_by me abort a was)
  abort_by-good abort a true l b h =
      let s = settle-good k abort.promise (Err a.slots.stored_error) a.out.promises (omega (arith, h)) b in
      reject_both-good (with_promises (settle abort.promise (Err a.slots.stored_error) a.out.promises) a) (λ e. b) (omega (arith, h, s))
  abort_by-good abort a false l b h = let d = effects-append k a.out.effects (effect.AbortAlgorithm me abort.reason abort.promise ∷ []) in omega (arith, h, l, d)

  finish_abort-good : (a : Acts) (abort : Option PendingAbort) → a.slots.pending_abort ≡ abort → k.bad a.slots.stored_error ≡ 0 → Good a → Good (finish_abort me a abort)
  finish_abort-good a None e b h = reject_both-good a (λ e. b) h
  finish_abort-good a (Some abort) e b h =
      let l : in_abort k (Some abort) ≡ 0 = subst (λ (x : Option PendingAbort). in_abort k x ≡ 0) e (omega (arith, h)) in
      abort_by-good abort (record a { slots = record a.slots { pending_abort = None } }) abort.was_already_erroring l b (omega (arith, h))

  finish-good : (a : Acts) → k.bad a.slots.stored_error ≡ 0 → Good a → Good (finish_erroring me a)
  unfolding finish_erroring
  finish-good a b h =
      let c : Acts = fail_writes a in
      let s = reject_all-good a.slots.stored_error a.slots.write_requests a.out.promises b (omega (arith, h)) in
      finish_abort-good c c.slots.pending_abort refl b (omega (arith, h, s, b))

  abbrev Readied : Plain → Acts → Writer → Bool → Acts
  Readied r a w pending =
      with_promises (if pending then settle w.ready (Err r) a.out.promises else fresh_settled (Err r) a.out.promises)
      (record a { slots = record a.slots { writer = Some (record w { ready = if pending then w.ready else next_id a.out.promises }) } })

  ready-good : (r : Plain) (a : Acts) (w : Option Writer) → a.slots.writer ≡ w → k.bad r ≡ 0 → size a ≡ n → Good a → Ends (reject_ready r a w)
  unfolding ensure_rejected
  ready-good r a None e b c h = λ q. h
  ready-good r a (Some w) e b c h = by (is_pending_at w.ready a.out.promises) refl
    where
      soft_writer : in_writer k (Some w) ≡ 0
      soft_writer = writer_soft a w e h

      by : (pending : Bool) → pending ≡ is_pending_at w.ready a.out.promises → Ends (Readied r a w pending)
      by true z = λ q. let s = settle-good k w.ready (Err r) a.out.promises (omega (arith, h)) b in let v = soft_writer in omega (arith, h, s, v)
      by false z = λ q.
          let x = settle-count (next_id a.out.promises) (Err r) (fresh a.out.promises) in
          let y = fresh-count a.out.promises in
          let one : soft k n ≡ 0 = new (omega (arith, q, x, y, c)) in
          let same : soft k (count a.out.promises) ≡ 0 = subst (λ (i : ℕ). soft k i ≡ 0) (sym c) one in
          let s = settle-good k (next_id a.out.promises) (Err r) (fresh a.out.promises) (fresh-keeps k a.out.promises (omega (arith, h))) b in
          let v = soft_writer in
          omega (arith, h, s, v, same)

  ready-stored : (r : Plain) (a : Acts) (w : Option Writer) → (reject_ready r a w).slots.stored_error ≡ a.slots.stored_error
  ready-stored r a None = refl
  ready-stored r a (Some w) = refl

  start-good : (r : Plain) (a : Acts) → k.bad r ≡ 0 → size a ≡ n → Good a → Ends (start_erroring me r a)
  unfolding start_erroring
  start-good r a b c h =
      let z : Acts = record a { slots = record a.slots { state = Erroring; stored_error = r } } in
      let y : Acts = reject_ready r z a.slots.writer in
      let g : Ends y = ready-good r z a.slots.writer refl b c (omega (arith, h, b)) in
      let stored : k.bad y.slots.stored_error ≡ 0 = rw (ready-stored r z a.slots.writer) b in
      either Ends (not (is_in_flight y.slots) && y.slots.started) (finish_erroring me y) y
      (λ e q. let f = finish-grows me y in finish-good y stored (g (omega (arith, f, q)))) (λ e q. g q)

  deal-good : (e : Plain) (a : Acts) → k.bad e ≡ 0 → is_closed a.slots.state ≡ false → size a ≡ n → Good a → Ends (deal_with_rejection me e a)
  unfolding deal_with_rejection
  deal-good e a b live c h =
      either Ends (is_writable a.slots.state) (start_erroring me e a) (finish_erroring me a) (λ w. start-good e a b c h)
      (λ w q. finish-good a (grind (arith, h, live, w)) h)

  if_needed-good : (e : Plain) (a : Acts) → k.bad e ≡ 0 → size a ≡ n → Good a → Ends (controller_error_if_needed me e a)
  unfolding controller_error_if_needed
  if_needed-good e a b c h = either Ends (is_writable a.slots.state) (start_erroring me e a) a (λ w. start-good e a b c h) (λ w q. h)

  -- the queue

  first-good : (a : Acts) (first : Option WriteRecord) → Good a → Good (process_first me a first)
  unfolding process_write process_close
  first-good a None h = h
  first-good a (Some CloseMark) h = let d = effects-append k a.out.effects (effect.CloseAlgorithm me ∷ []) in omega (arith, h, d)
  first-good a (Some (Chunk v)) h = let d = effects-append k a.out.effects (effect.WriteAlgorithm me ∷ []) in omega (arith, h, d)
  first-good a (Some InFlight) h = h

  advance-good : (a : Acts) → Good a → Good (advance_queue me a)
  unfolding advance_queue
  advance-good a h =
      either Good (a.slots.started && is_none a.slots.write_in_flight) _ _
      (λ e. either Good (is_erroring a.slots.state) _ _ (λ z. finish-good a (grind (arith, h, z)) h) (λ z. first-good a (first_value a.slots.queue) h)) (λ e. h)

  -- backpressure

  ready_for-good : (b : Bool) (a : Acts) (w : Option Writer) → a.slots.writer ≡ w → size a ≡ n → Good a → Ends (ready_for b a w)
  ready_for-good b a None e c h = λ q. h
  ready_for-good true a (Some w) e c h =
      either Ends (differs true a.slots.backpressure) (change_ready w a true) a
      (λ d q.
      let y = fresh-count a.out.promises in
      let one : soft k n ≡ 0 = new (omega (arith, q, y, c)) in
      let same : soft k (count a.out.promises) ≡ 0 = subst (λ (i : ℕ). soft k i ≡ 0) (sym c) one in
      let s = fresh-keeps k a.out.promises (omega (arith, h)) in
      let v = writer_soft a w e h in
      omega (arith, h, s, v, same)) (λ d q. h)
  ready_for-good false a (Some w) e c h =
      either Ends (differs false a.slots.backpressure) (change_ready w a false) a
      (λ d q. let s = settle-good k w.ready (Ok Undefined) a.out.promises (omega (arith, h)) refl in omega (arith, h, s)) (λ d q. h)

  refresh-good : (a : Acts) → size a ≡ n → Good a → Ends (refresh_backpressure a)
  unfolding refresh_backpressure update_backpressure
  refresh-good a c h =
      either Ends (not (is_closing a.slots) && is_writable a.slots.state) _ _ (λ e. ready_for-good (has_backpressure a.slots) a a.slots.writer refl c h) (λ e q. h)

  then-good : (a : Acts) → size a ≡ n → Good a → Ends (advance_queue me (refresh_backpressure a))
  then-good a c h = λ q.
      let b : Acts = refresh_backpressure a in let f = advance-grows me b in advance-good b (refresh-good a c h (omega (arith, f, q)))

  -- the ends of writes, closes and aborts

  request-good : (o : Result Plain Plain) (t : Table) (p : Option PromiseId) → of_result k o ≡ 0 → in_table k t ≡ 0 → in_table k (settle_request o t p) ≡ 0
  request-good o t None b h = h
  request-good o t (Some p) b h = settle-good k p o t h b

  abort_ended-table : (o : Result Plain Plain) (t : Table) (abort : Option PendingAbort) → of_result k o ≡ 0 → in_table k t ≡ 0 → in_table k (settle_abort o t abort) ≡ 0
  abort_ended-table o t None b h = h
  abort_ended-table o t (Some abort) b h = settle-good k abort.promise o t h b

  write_ended-good : (o : Result Plain Plain) (a : Acts) → of_result k o ≡ 0 → Good a → Good (write_ended o a)
  write_ended-good o a b h = let s = request-good o a.out.promises a.slots.write_in_flight b (omega (arith, h)) in omega (arith, h, s)

  close_ended-good : (o : Result Plain Plain) (a : Acts) → of_result k o ≡ 0 → Good a → Good (close_ended o a)
  close_ended-good o a b h = let s = request-good o a.out.promises a.slots.close_in_flight b (omega (arith, h)) in omega (arith, h, s)

  abort_ended-good : (o : Result Plain Plain) (a : Acts) → of_result k o ≡ 0 → Good a → Good (abort_ended o a)
  abort_ended-good o a b h = let s = abort_ended-table o a.out.promises a.slots.pending_abort b (omega (arith, h)) in omega (arith, h, s)

  fulfil_closed-good : (a : Acts) (w : Option Writer) → Good a → Good (fulfil_closed a w)
  fulfil_closed-good a None h = h
  fulfil_closed-good a (Some w) h = let s = settle-good k w.closed (Ok Undefined) a.out.promises (omega (arith, h)) refl in omega (arith, h, s)

  fulfil_ready-good : (a : Acts) (w : Option Writer) → Good a → Good (fulfil_ready a w)
  fulfil_ready-good a None h = h
  fulfil_ready-good a (Some w) h =
      either Good (a.slots.backpressure && is_writable a.slots.state) _ _ (λ e. let s = settle-good k w.ready (Ok Undefined) a.out.promises (omega (arith, h)) refl in omega (arith, h, s)) (λ e. h)

  -- once it is closed there is no error
  closing-good : (a : Acts) → Good a → Good (record (clear_error a) { slots = record (clear_error a).slots { state = Closed } })
  closing-good a h =
      either (λ (z : Acts). Good (record z { slots = record z.slots { state = Closed } })) (is_erroring a.slots.state) _ a
      (λ e. let s = abort_ended-table (Ok Undefined) a.out.promises a.slots.pending_abort refl (omega (arith, h)) in omega (arith, h, s)) (λ e. omega (arith, h))

  close_settled-good : (o : Result Plain Plain) (a : Acts) → of_result k o ≡ 0 → is_closed a.slots.state ≡ false → size a ≡ n → Good a → Ends (close_settled me o a)
  unfolding close_settled finish_in_flight_close finish_in_flight_close_with_error
  close_settled-good (Ok v) a b live c h = λ q.
      let y : Acts = clear_error (close_ended (Ok Undefined) a) in
      fulfil_closed-good (record y { slots = record y.slots { state = Closed } }) y.slots.writer (closing-good (close_ended (Ok Undefined) a) (close_ended-good (Ok Undefined) a refl h))
  close_settled-good (Err e) a b live c h =
      let y : Acts = close_ended (Err e) a in
      let z : Acts = abort_ended (Err e) y in
      let i = request-count (Err e) a.out.promises a.slots.close_in_flight in
      let j = abort-count (Err e) y.out.promises a.slots.pending_abort in
      deal-good e z b live (omega (arith, i, j, c)) (abort_ended-good (Err e) y b (close_ended-good (Err e) a b h))

  -- closes

  close-good : (p : PromiseId) (a : Acts) → (k.hands p.0 ≡ true → (has_ended a.slots.state || is_closing a.slots) ≡ false) → Good a → Good (stream_close me p a)
  unfolding stream_close controller_close
  close-good p a z h =
      let b : Acts = add_close_request p a in
      let c : Acts = fulfil_ready b b.slots.writer in
      either Good (has_ended a.slots.state || is_closing a.slots) _ _
      (λ e. let s = settle_soft k p (Err type_error) a.out.promises (omega (arith, h)) (either_soft e) in omega (arith, h, s))
      (λ e. advance-good (record c { slots = record c.slots { queue = enqueued CloseMark 0 c.slots.queue } }) (fulfil_ready-good b b.slots.writer h))
    where
      by : (has_ended a.slots.state || is_closing a.slots) ≡ true → (b : Bool) → k.hands p.0 ≡ b → soft k p.0 ≡ 0
      by e true y = false_true (has_ended a.slots.state || is_closing a.slots) e (z y)
      by e false y = grind (arith, y)

      either_soft : (has_ended a.slots.state || is_closing a.slots) ≡ true → soft k p.0 ≡ 0
      either_soft e = by e (k.hands p.0) refl

  not_refused : (x : Slots) → (is_closing x || is_closed x.state) ≡ false → is_errored x.state ≡ false → (has_ended x.state || is_closing x) ≡ false
  not_refused x e z = grind arith

  propagating-good : (p : PromiseId) (a : Acts) → Good a → Good (close_with_error_propagation me p a)
  unfolding close_with_error_propagation
  propagating-good p a h =
      either Good (is_closing a.slots || is_closed a.slots.state) _ _ (λ e. let s = settle-good k p (Ok Undefined) a.out.promises (omega (arith, h)) refl in omega (arith, h, s))
      (λ e. either Good (is_errored a.slots.state) _ _
      (λ z. let b : k.bad a.slots.stored_error ≡ 0 = grind (arith, h, z) in let s = settle-good k p (Err a.slots.stored_error) a.out.promises (omega (arith, h)) b in omega (arith, h, s))
      (λ z. close-good p a (λ y. not_refused a.slots e z) h))

  -- aborts

  signalled-good : (r : Plain) (a : Acts) (owner : Owner) → Good a → Good (signalled me r a owner)
  signalled-good r a Host h = let s = tell-keeps k (Signal me r) a.out.promises (omega (arith, h)) in omega (arith, h, s)
  signalled-good r a (HalfOf t) h = h
  signalled-good r a (BranchOf t half) h = let s = tell-keeps k (Signal me r) a.out.promises (omega (arith, h)) in omega (arith, h, s)
  signalled-good r a (EndOf c) h = h

  pending-good : (r : Plain) (p : PromiseId) (a : Acts) → k.bad r ≡ 0 → loud k p.0 ≡ 0 → Good a → Good (add_pending_abort r p a)
  pending-good r p a b l h = by (is_erroring a.slots.state)
    where
      by : (was : Bool) → Good (record a { slots = record a.slots { pending_abort = Some (abort_of p r was) } })
      by true = omega (arith, h, l)
      by false = omega (arith, h, b, l)

  abort-good : (r : Plain) (p : PromiseId) (a : Acts) → k.bad r ≡ 0 → loud k p.0 ≡ 0 → size a ≡ n → Good a → Ends (stream_abort me r p a)
  unfolding stream_abort
  abort-good r p a b l c h =
      let y : Acts = signalled me r a a.slots.owner in
      let g : Good y = signalled-good r a a.slots.owner h in
      let i = signalled-count me r a a.slots.owner in
      let z : Acts = add_pending_abort r p y in
      let w : Good z = pending-good r p y b l g in
      either Ends (has_ended a.slots.state) _ _ (λ e q. let s = settle-good k p (Ok Undefined) a.out.promises (omega (arith, h)) refl in omega (arith, h, s))
      (λ e. either Ends (is_erroring y.slots.state) z (start_erroring me r z) (λ d q. w) (λ d. start-good r z b (omega (arith, i, c)) w))

  -- writers

  ready_promise-good : (p : PromiseId) (x : Slots) (t : Table) (state : WritableState) → soft k p.0 ≡ 0 → in_table k t ≡ 0 → in_table k (ready_promise p x t state) ≡ 0
  ready_promise-good p x t state z h = grind (arith, h, z, settle_soft)

  closed_promise-good : (p : PromiseId) (x : Slots) (t : Table) (state : WritableState) → soft k p.0 ≡ 0 → in_table k t ≡ 0 → in_table k (closed_promise p x t state) ≡ 0
  closed_promise-good p x t state z h = grind (arith, h, z, settle_soft)

  pending_soft : (p : PromiseId) (o : Result Plain Plain) (t : Table) → soft k p.0 ≡ 0 → in_table k t ≡ 0 → in_table k (settle_pending p o t) ≡ 0
  unfolding settle_pending
  pending_soft p o t z h = either (λ (y : Table). in_table k y ≡ 0) (is_pending_at p t) _ _ (λ e. settle_soft k p o t h z) (λ e. h)

  release-good : (a : Acts) (w : Option Writer) → a.slots.writer ≡ w → Good a → Good (release_by a w)
  release-good a None e h = h
  release-good a (Some w) e h =
      let v = writer_soft a w e h in
      let s = pending_soft w.ready (Err type_error) a.out.promises (omega (arith, v)) (omega (arith, h)) in
      let y = pending_soft w.closed (Err type_error) (settle_pending w.ready (Err type_error) a.out.promises) (omega (arith, v)) s in
      omega (arith, h, y)

  write_by-good : (v : Value) (p : PromiseId) (a : Acts) (refusal : Option Plain) → soft k p.0 ≡ 0 → size a ≡ n → Good a → Ends (write_by me v p a refusal)
  unfolding controller_write
  write_by-good v p a (Some e) z c h = λ q. let s = settle_soft k p (Err e) a.out.promises (omega (arith, h)) z in omega (arith, h, s)
  write_by-good v p a None z c h = then-good (enqueue_chunk v (add_write_request p a)) c h

  hand_on-good : (taker : Taker) (a : Acts) (first : Option WriteRecord) → Good a → Good (hand_on_first me taker a first)
  hand_on-good taker a first h = grind (arith, h, effects-append)

  pub writable-good : (operation : WritableOperation) (a : Acts) → of_writable k operation ≡ 0 → Expects operation a.slots → size a ≡ n → Good a → Ends (writable_operation me operation a)
  unfolding set_up_writer writer_release writer_write start_settled write_settled abort_settled hand_on abort_if_writable
  writable-good (names.SetUpWriter w) a f x c h = λ q.
      let s = ready_promise-good w.ready a.slots a.out.promises a.slots.state (omega (arith, f)) (omega (arith, h)) in
      let y = closed_promise-good w.closed a.slots (ready_promise w.ready a.slots a.out.promises a.slots.state) a.slots.state (omega (arith, f)) s in
      omega (arith, h, y, f)
  writable-good names.ReleaseWriter a f x c h = λ q. release-good a a.slots.writer refl h
  writable-good (names.Write v p) a f x c h = write_by-good v p a (write_refusal a.slots) f c h
  writable-good (names.Close p) a f x c h = λ q. close-good p a (λ y. grind (arith, f, y)) h
  writable-good (names.ClosePropagating p) a f x c h = λ q. propagating-good p a h
  writable-good (names.Abort r p) a f x c h = abort-good r p a (omega (arith, f)) (omega (arith, f)) c h
  writable-good (names.AbortIfWritable r p) a f x c h =
      either Ends (is_writable a.slots.state) _ _ (λ e. abort-good r p a (omega (arith, f)) (omega (arith, f)) c h)
      (λ e q. let s = settle-good k p (Ok Undefined) a.out.promises (omega (arith, h)) refl in omega (arith, h, s))
  writable-good (names.ErrorIfNeeded e) a f x c h = if_needed-good e a f c h
  writable-good (names.HandOn taker) a f x c h = λ q. hand_on-good taker a (first_value a.slots.queue) h
  writable-good (names.StartSettled (Ok v)) a f x c h = λ q. advance-good (record a { slots = record a.slots { started = true } }) h
  writable-good (names.StartSettled (Err e)) a f x c h = deal-good e (record a { slots = record a.slots { started = true } }) f x c h
  writable-good (names.WriteSettled (Ok v)) a f x c h =
      let i = request-count (Ok Undefined) a.out.promises a.slots.write_in_flight in
      then-good (without_first (write_ended (Ok Undefined) a)) (omega (arith, i, c)) (write_ended-good (Ok Undefined) a refl h)
  writable-good (names.WriteSettled (Err e)) a f x c h =
      let i = request-count (Err e) a.out.promises a.slots.write_in_flight in
      deal-good e (write_ended (Err e) a) f x (omega (arith, i, c)) (write_ended-good (Err e) a f h)
  writable-good (names.CloseSettled o) a f x c h = close_settled-good o a f x c h
  writable-good (names.AbortSettled p (Ok v)) a f x c h = λ q.
      let s = settle-good k p (Ok Undefined) a.out.promises (omega (arith, h)) refl in
      reject_both-good (with_promises (settle p (Ok Undefined) a.out.promises) a) (λ e. let y = x e in grind (arith, h, y)) (omega (arith, h, s))
  writable-good (names.AbortSettled p (Err e)) a f x c h = λ q.
      let s = settle-good k p (Err e) a.out.promises (omega (arith, h)) f in
      reject_both-good (with_promises (settle p (Err e) a.out.promises) a) (λ e. let y = x e in grind (arith, h, y)) (omega (arith, h, s))
