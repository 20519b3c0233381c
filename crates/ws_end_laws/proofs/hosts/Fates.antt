-- What becomes of the promise of a close, in an operation of the stream: it is still that of the close request or of the close in flight, or it
-- is rejected, or the stream is closed.
use Rattle.std.proofs.Common.{◌≡◌, ℕ, Bool, true, false, not, ◌&&◌, ◌||◌, is_some, is_none, ◌⊎◌, inl, inr, nat_eq, List, [], ◌∷◌, Option, Some, None, Result, Ok, Err, refl, sym, ap, ◌∙◌, arith, if◌then◌else◌}
use Rattle.ws_steps.specs.declared.effects.Owner.TheVariants.{EndOf}
use Rattle.ws_value.specs.declared.ids.PromiseId.{PromiseId}
use Rattle.ws_value.specs.declared.ids.StreamId.{StreamId}
use Rattle.ws_value.specs.declared.value.Plain.{Plain}
use Rattle.ws_value.specs.declared.value.Plain.TheVariants.{Undefined}
use Rattle.ws_value.specs.declared.value.Value.{Value}
use Rattle.ws_steps.specs.declared.effects.Owner.{Owner}
use Rattle.ws_steps.specs.declared.effects.Owner.TheVariants.{Host, HalfOf, BranchOf}
use Rattle.ws_steps.specs.declared.queue.Queued.{Queued}
use Rattle.ws_steps.specs.declared.transform.Taker.{Taker}
use Rattle.ws_steps.specs.declared.writable.{PendingAbort.{PendingAbort}, WritableOperation.{WritableOperation}, WritableState.{WritableState}, WriteRecord.{WriteRecord}, Writer.{Writer}}
use Rattle.ws_steps.specs.declared.writable.WritableOperation.TheVariants as names
use Rattle.ws_steps.specs.declared.writable.WritableState.TheVariants.{Writable, Erroring, Errored, Closed}
use Rattle.ws_steps.specs.declared.writable.WriteRecord.TheVariants.{Chunk, InFlight, CloseMark}
use Rattle.ws_steps.specs.Effects.{type_error}
use Rattle.ws_steps.specs.Operations.{writable_operation}
use Rattle.ws_steps.specs.Promises.{Table, outcome_at, is_pending_at, settle, fresh, fresh_settled, next_id}
use Rattle.ws_steps.specs.Queues.{first_value, rest_of, enqueued, size_of}
use Rattle.ws_steps.specs.Writable as writable
use Rattle.ws_steps.specs.Writable.{Acts, with_promises, is_closed, is_closing, is_errored, is_erroring, is_writable, is_in_flight, has_ended, settle_request, settle_pending, reject_all, ensure_rejected, settle_abort, ready_promise, closed_promise, write_refusal, differs, change_ready, ready_for, has_backpressure, reject_close, reject_closed, reject_close_and_closed, abort_by, finish_abort, fail_writes, finish_erroring, reject_ready, start_erroring, deal_with_rejection, controller_error_if_needed, update_backpressure, refresh_backpressure, process_write, process_close, process_first, advance_queue, hand_on, hand_on_first, write_settled, write_ended, without_first, close_settled, finish_in_flight_close, finish_in_flight_close_with_error, close_ended, abort_ended, clear_error, fulfil_closed, start_settled, abort_settled, enqueue_chunk, add_write_request, controller_write, writer_write, write_by, controller_close, add_close_request, fulfil_ready, stream_close, close_with_error_propagation, add_pending_abort, begin_abort, signalled, stream_abort, abort_if_writable, set_up_writer, release_by, writer_release}
use Rattle.ws_steps.specs.Laws.{is_rejected}
use Rattle.ws_laws.proofs.Outcomes.{Keeps, keeps-same, keeps-then, keeps-fresh, keeps-settle, keeps-tell}
use Rattle.ws_laws.proofs.Straight.{straight_before}
use Rattle.ws_laws.proofs.Tables.{either}
use Rattle.ws_laws.proofs.WritableDoes.{IsHandOn}
use Rattle.ws_promise_laws.proofs.Holds.{eq_promises}
use Rattle.ws_writable_laws.proofs.Shape.{has_mark}
use Rattle.ws_write_laws.proofs.Rejecting.{rejected-keeps, rejected_straight}

-- whether this is the promise
abbrev pub is_promise : PromiseId → Option PromiseId → Bool
is_promise q None = false
is_promise q (Some p) = nat_eq q.0 p.0

-- whether it is that of the close request, or of the close in flight
abbrev pub asks : PromiseId → writable.Slots → Bool
asks q w = is_promise q w.close_request || is_promise q w.close_in_flight

-- a close mark is queued only where no close is in flight
abbrev pub Neat : writable.Slots → Type 0
Neat w = has_mark w.queue ≡ true → is_some w.close_in_flight ≡ false

-- promises keep their outcomes

keeps-pending : (p : PromiseId) (o : Result Plain Plain) (t : Table) → Keeps t (settle_pending p o t)
unfolding settle_pending
keeps-pending p o t = either (Keeps t) (is_pending_at p t) (settle p o t) t (λ e. keeps-settle p o t) (λ e. keeps-same t)

keeps-settled : (o : Result Plain Plain) (t : Table) → Keeps t (fresh_settled o t)
keeps-settled o t = keeps-then t (fresh t) (fresh_settled o t) (keeps-fresh t) (keeps-settle (next_id t) o (fresh t))

keeps-ensure : (p : PromiseId) (r : Plain) (t : Table) → Keeps t (ensure_rejected p r t)
unfolding ensure_rejected
keeps-ensure p r t = either (Keeps t) (is_pending_at p t) (settle p (Err r) t) (fresh_settled (Err r) t) (λ e. keeps-settle p (Err r) t) (λ e. keeps-settled (Err r) t)

keeps-all : (e : Plain) (ps : List PromiseId) (t : Table) → Keeps t (reject_all e ps t)
keeps-all e [] t = keeps-same t
keeps-all e (p ∷ ps) t = keeps-then t (settle p (Err e) t) (reject_all e ps (settle p (Err e) t)) (keeps-settle p (Err e) t) (keeps-all e ps (settle p (Err e) t))

keeps-request : (o : Result Plain Plain) (t : Table) (p : Option PromiseId) → Keeps t (settle_request o t p)
keeps-request o t None = keeps-same t
keeps-request o t (Some p) = keeps-settle p o t

keeps-abort : (o : Result Plain Plain) (t : Table) (a : Option PendingAbort) → Keeps t (settle_abort o t a)
keeps-abort o t None = keeps-same t
keeps-abort o t (Some a) = keeps-settle a.promise o t

-- a close mark in a queue
pub first_mark : (queue : List (Queued WriteRecord)) → first_value queue ≡ Some CloseMark → has_mark queue ≡ true
first_mark [] e = cc
first_mark (x ∷ xs) e = let is : x.value ≡ CloseMark = cc in rw is refl

pub rest_mark : (queue : List (Queued WriteRecord)) → has_mark (rest_of queue) ≡ true → has_mark queue ≡ true
rest_mark [] e = e
rest_mark (x ∷ xs) e = grind arith

pub chunk_mark : (queue : List (Queued WriteRecord)) (v : Value) (n : ℕ) → has_mark (enqueued (Chunk v) n queue) ≡ true → has_mark queue ≡ true
chunk_mark [] v n e = e
chunk_mark (x ∷ xs) v n e = let k = chunk_mark xs v n in grind arith

-- the reaction to a close that was fulfilled closes the stream
now_closed : (me : StreamId) (v : Plain) (a : Acts) → is_closed (close_settled me (Ok v) a).slots.state ≡ true
unfolding close_settled finish_in_flight_close
now_closed me v a = grind arith

module _ (q : PromiseId) where
  -- it is that of the close, or it is rejected where nothing went astray
  abbrev pub Fated : Acts → Type 0
  Fated a = asks q a.slots ≡ false → a.out.promises.astray ≡ false → is_rejected (outcome_at a.out.promises q) ≡ true

  -- the promises of the close stay
  record Alike (a b : Acts) : Type 0 where
    request : b.slots.close_request ≡ a.slots.close_request
    flight : b.slots.close_in_flight ≡ a.slots.close_in_flight
    keeps : Keeps a.out.promises b.out.promises

  alike-fated : (a b : Acts) → Alike a b → Fated a → Fated b
  alike-fated a b k f n straight =
      let same : asks q a.slots ≡ false = (rw (k.request, k.flight) at n) in
      rejected-keeps a.out.promises b.out.promises q k.keeps (f same (straight_before a.out.promises b.out.promises k.keeps straight))

  settled : (a : Acts) (t : Table) → Keeps a.out.promises t → Fated a → Fated (with_promises t a)
  settled a t k f = alike-fated a (with_promises t a) (record { request = refl; flight = refl; keeps = k }) f

  module _ (me : StreamId) where
    rejects_one : (a : Acts) (r : PromiseId) (same : Bool) → same ≡ nat_eq q.0 r.0 → a.slots.close_request ≡ Some r → Fated a → Fated (reject_close a (Some r))
    rejects_one a r true e w f n straight =
        let is : q ≡ r = eq_promises q r (sym e) in
        let t : Table = settle r (Err a.slots.stored_error) a.out.promises in
        rw is (rejected_straight r a.slots.stored_error a.out.promises t (keeps-same t) straight)
    rejects_one a r false e w f n straight =
        let t : Table = settle r (Err a.slots.stored_error) a.out.promises in
        let k = keeps-settle r (Err a.slots.stored_error) a.out.promises in
        let same : asks q a.slots ≡ false = rw w (rw (← e) n) in
        rejected-keeps a.out.promises t q k (f same (straight_before a.out.promises t k straight))

    reject_close-fated : (a : Acts) (p : Option PromiseId) → a.slots.close_request ≡ p → Fated a → Fated (reject_close a p)
    reject_close-fated a None e f = f
    reject_close-fated a (Some r) e f = rejects_one a r (nat_eq q.0 r.0) refl e f

    reject_closed-fated : (a : Acts) (w : Option Writer) → Fated a → Fated (reject_closed a w)
    reject_closed-fated a None f = f
    reject_closed-fated a (Some w) f = settled a (settle_pending w.closed (Err a.slots.stored_error) a.out.promises) (keeps-pending w.closed (Err a.slots.stored_error) a.out.promises) f

    both-fated : (a : Acts) → Fated a → Fated (reject_close_and_closed a)
    unfolding reject_close_and_closed
    both-fated a f =
        let b : Acts = reject_close a a.slots.close_request in
        reject_closed-fated b b.slots.writer (reject_close-fated a a.slots.close_request refl f)

    abort_by-fated : (abort : PendingAbort) (a : Acts) (b : Bool) → Fated a → Fated (abort_by me abort a b)
    abort_by-fated abort a true f =
        let t : Table = settle abort.promise (Err a.slots.stored_error) a.out.promises in
        both-fated (with_promises t a) (settled a t (keeps-settle abort.promise (Err a.slots.stored_error) a.out.promises) f)
    abort_by-fated abort a false f = f

    finish_abort-fated : (a : Acts) (abort : Option PendingAbort) → Fated a → Fated (finish_abort me a abort)
    finish_abort-fated a None f = both-fated a f
    finish_abort-fated a (Some abort) f = abort_by-fated abort (record a { slots = record a.slots { pending_abort = None } }) abort.was_already_erroring f

    finish-fated : (a : Acts) → Fated a → Fated (finish_erroring me a)
    unfolding finish_erroring
    finish-fated a f =
        let b : Acts = fail_writes a in
        finish_abort-fated b b.slots.pending_abort (alike-fated a b (record { request = refl; flight = refl; keeps = keeps-all a.slots.stored_error a.slots.write_requests a.out.promises }) f)

    ready-fated : (r : Plain) (a : Acts) (w : Option Writer) → Fated a → Fated (reject_ready r a w)
    ready-fated r a None f = f
    ready-fated r a (Some w) f = alike-fated a (reject_ready r a (Some w)) (record { request = refl; flight = refl; keeps = keeps-ensure w.ready r a.out.promises }) f

    start-fated : (r : Plain) (a : Acts) → Fated a → Fated (start_erroring me r a)
    unfolding start_erroring
    start-fated r a f =
        let c : Acts = record a { slots = record a.slots { state = Erroring; stored_error = r } } in
        let b : Acts = reject_ready r c a.slots.writer in
        let k : Fated b = ready-fated r c a.slots.writer f in
        either Fated (not (is_in_flight b.slots) && b.slots.started) (finish_erroring me b) b (λ e. finish-fated b k) (λ e. k)

    deal-fated : (e : Plain) (a : Acts) → Fated a → Fated (deal_with_rejection me e a)
    unfolding deal_with_rejection
    deal-fated e a f = either Fated (is_writable a.slots.state) (start_erroring me e a) (finish_erroring me a) (λ h. start-fated e a f) (λ h. finish-fated a f)

    needed-fated : (e : Plain) (a : Acts) → Fated a → Fated (controller_error_if_needed me e a)
    unfolding controller_error_if_needed
    needed-fated e a f = either Fated (is_writable a.slots.state) (start_erroring me e a) a (λ h. start-fated e a f) (λ h. f)

    -- the queue

    ready_for-fated : (b : Bool) (a : Acts) (w : Option Writer) → Fated a → Fated (ready_for b a w)
    ready_for-fated b a None f = f
    ready_for-fated true a (Some w) f =
        either Fated (differs true a.slots.backpressure) (change_ready w a true) a (λ e. alike-fated a (change_ready w a true) (record { request = refl; flight = refl; keeps = keeps-fresh a.out.promises }) f) (λ e. f)
    ready_for-fated false a (Some w) f =
        either Fated (differs false a.slots.backpressure) (change_ready w a false) a (λ e. settled a (settle w.ready (Ok Undefined) a.out.promises) (keeps-settle w.ready (Ok Undefined) a.out.promises) f) (λ e. f)

    refresh-fated : (a : Acts) → Fated a → Fated (refresh_backpressure a)
    unfolding refresh_backpressure update_backpressure
    refresh-fated a f =
        either Fated (not (is_closing a.slots) && is_writable a.slots.state) (update_backpressure (has_backpressure a.slots) a) a
        (λ e. ready_for-fated (has_backpressure a.slots) a a.slots.writer f) (λ e. f)

    refresh-neat : (a : Acts) → Neat a.slots → Neat (refresh_backpressure a).slots
    unfolding refresh_backpressure update_backpressure
    refresh-neat a n = grind arith

    closes-fated : (a : Acts) → is_some a.slots.close_in_flight ≡ false → Fated a → Fated (process_close me a)
    unfolding process_close
    closes-fated a none f = λ n straight. f (moved a.slots.close_request a.slots.close_in_flight none n) straight
      where
        moved : (r c : Option PromiseId) → is_some c ≡ false → is_promise q None || is_promise q r ≡ false → is_promise q r || is_promise q c ≡ false
        moved r None e n = grind arith
        moved r (Some p) e n = absurd (cc)

    first-fated : (a : Acts) (x : Option WriteRecord) → first_value a.slots.queue ≡ x → Neat a.slots → Fated a → Fated (process_first me a x)
    unfolding process_write
    first-fated a None e n f = f
    first-fated a (Some CloseMark) e n f = closes-fated a (n (first_mark a.slots.queue e)) f
    first-fated a (Some (Chunk v)) e n f = f
    first-fated a (Some InFlight) e n f = f

    advance-fated : (a : Acts) → Neat a.slots → Fated a → Fated (advance_queue me a)
    unfolding advance_queue
    advance-fated a n f =
        either Fated (a.slots.started && is_none a.slots.write_in_flight) (if is_erroring a.slots.state then finish_erroring me a else process_first me a (first_value a.slots.queue)) a
        (λ e. either Fated (is_erroring a.slots.state) (finish_erroring me a) (process_first me a (first_value a.slots.queue)) (λ h. finish-fated a f) (λ h. first-fated a (first_value a.slots.queue) refl n f))
        (λ e. f)

    -- the reactions to the sink's algorithms

    write_settled-fated : (o : Result Plain Plain) (a : Acts) → Neat a.slots → Fated a → Fated (write_settled me o a)
    unfolding write_settled
    write_settled-fated (Ok v) a n f =
        let b : Acts = without_first (write_ended (Ok Undefined) a) in
        let k : Fated b = alike-fated a b (record { request = refl; flight = refl; keeps = keeps-request (Ok Undefined) a.out.promises a.slots.write_in_flight }) f in
        advance-fated (refresh_backpressure b) (refresh-neat b (λ m. n (rest_mark a.slots.queue m))) (refresh-fated b k)
    write_settled-fated (Err e) a n f =
        deal-fated e (write_ended (Err e) a) (alike-fated a (write_ended (Err e) a) (record { request = refl; flight = refl; keeps = keeps-request (Err e) a.out.promises a.slots.write_in_flight }) f)

    start_settled-fated : (o : Result Plain Plain) (a : Acts) → Neat a.slots → Fated a → Fated (start_settled me o a)
    unfolding start_settled
    start_settled-fated (Ok v) a n f = advance-fated (record a { slots = record a.slots { started = true } }) n f
    start_settled-fated (Err e) a n f = deal-fated e (record a { slots = record a.slots { started = true } }) f

    failed_one : (e : Plain) (a : Acts) (r : PromiseId) (same : Bool) → same ≡ nat_eq q.0 r.0 → a.slots.close_in_flight ≡ Some r → Fated a → Fated (with_promises (settle r (Err e) a.out.promises) (record a { slots = record a.slots { close_in_flight = None } }))
    failed_one e a r true s w f n straight =
        let is : q ≡ r = eq_promises q r (sym s) in
        let t : Table = settle r (Err e) a.out.promises in
        rw is (rejected_straight r e a.out.promises t (keeps-same t) straight)
    failed_one e a r false s w f n straight =
        let t : Table = settle r (Err e) a.out.promises in
        let k = keeps-settle r (Err e) a.out.promises in
        let same : asks q a.slots ≡ false = rw w (rw (← s) n) in
        rejected-keeps a.out.promises t q k (f same (straight_before a.out.promises t k straight))

    close_failed-fated : (e : Plain) (a : Acts) (c : Option PromiseId) → a.slots.close_in_flight ≡ c → Fated a → Fated (with_promises (settle_request (Err e) a.out.promises c) (record a { slots = record a.slots { close_in_flight = None } }))
    close_failed-fated e a None w f = λ n straight. f (rw w n) straight
    close_failed-fated e a (Some r) w f = failed_one e a r (nat_eq q.0 r.0) refl w f

    close_error-fated : (e : Plain) (a : Acts) → Fated a → Fated (close_settled me (Err e) a)
    unfolding close_settled finish_in_flight_close_with_error
    close_error-fated e a f =
        let b : Acts = close_ended (Err e) a in
        let k : Fated b = close_failed-fated e a a.slots.close_in_flight refl f in
        deal-fated e (abort_ended (Err e) b) (alike-fated b (abort_ended (Err e) b) (record { request = refl; flight = refl; keeps = keeps-abort (Err e) b.out.promises b.slots.pending_abort }) k)

    abort_settled-fated : (p : PromiseId) (o : Result Plain Plain) (a : Acts) → Fated a → Fated (abort_settled p o a)
    unfolding abort_settled
    abort_settled-fated p (Ok v) a f = let t : Table = settle p (Ok Undefined) a.out.promises in both-fated (with_promises t a) (settled a t (keeps-settle p (Ok Undefined) a.out.promises) f)
    abort_settled-fated p (Err e) a f = let t : Table = settle p (Err e) a.out.promises in both-fated (with_promises t a) (settled a t (keeps-settle p (Err e) a.out.promises) f)

    -- writes, closes and aborts

    write_by-fated : (v : Value) (p : PromiseId) (a : Acts) (refusal : Option Plain) → Neat a.slots → Fated a → Fated (write_by me v p a refusal)
    unfolding controller_write
    write_by-fated v p a (Some e) n f = settled a (settle p (Err e) a.out.promises) (keeps-settle p (Err e) a.out.promises) f
    write_by-fated v p a None n f =
        let b : Acts = enqueue_chunk v (add_write_request p a) in
        advance-fated (refresh_backpressure b) (refresh-neat b (λ m. n (chunk_mark a.slots.queue v (size_of a.slots.size_by v) m))) (refresh-fated b f)

    fulfil_ready-alike : (a : Acts) (w : Option Writer) → (fulfil_ready a w).slots ≡ a.slots
    fulfil_ready-alike a w = grind arith

    fulfil_ready-keeps : (a : Acts) (w : Option Writer) → Keeps a.out.promises (fulfil_ready a w).out.promises
    fulfil_ready-keeps a None = keeps-same a.out.promises
    fulfil_ready-keeps a (Some w) =
        either (λ (z : Acts). Keeps a.out.promises z.out.promises) (a.slots.backpressure && is_writable a.slots.state) _ a (λ e. keeps-settle w.ready (Ok Undefined) a.out.promises) (λ e. keeps-same a.out.promises)

    not_closing : (w : writable.Slots) → is_closing w ≡ false → (asks q w ≡ false) × (is_some w.close_in_flight ≡ false)
    not_closing w e = by w.close_request w.close_in_flight e
      where
        by : (r c : Option PromiseId) → is_some r || is_some c ≡ false → (is_promise q r || is_promise q c ≡ false) × (is_some c ≡ false)
        by None None e = (refl, refl)
        by None (Some p) e = absurd (cc)
        by (Some r) c e = absurd (cc)

    -- a close that is accepted: its promise is that of the close, or is rejected
    accepted-fated : (p : PromiseId) (a : Acts) → is_closing a.slots ≡ false → Fated (add_close_request p a) → let b : Acts = add_close_request p a in Fated (controller_close me (fulfil_ready b b.slots.writer))
    unfolding controller_close
    accepted-fated p a e f =
        let b : Acts = add_close_request p a in
        let c : Acts = fulfil_ready b b.slots.writer in
        let same = fulfil_ready-alike b b.slots.writer in
        let d : Acts = record c { slots = record c.slots { queue = enqueued CloseMark 0 c.slots.queue } } in
        let k : Fated d = alike-fated b d (record {
          request = ap (λ (w : writable.Slots). w.close_request) same;
          flight = ap (λ (w : writable.Slots). w.close_in_flight) same;
          keeps = fulfil_ready-keeps b b.slots.writer;
        }) f in
        advance-fated d (λ m. ap (λ (w : writable.Slots). is_some w.close_in_flight) same ∙ (not_closing a.slots e).1) k

    closing_left : (w : writable.Slots) → has_ended w.state || is_closing w ≡ false → is_closing w ≡ false
    closing_left w e = grind arith

    stream_close-fated : (p : PromiseId) (a : Acts) → Fated a → Fated (stream_close me p a)
    unfolding stream_close
    stream_close-fated p a f =
        let b : Acts = add_close_request p a in
        either Fated (has_ended a.slots.state || is_closing a.slots) (with_promises (settle p (Err type_error) a.out.promises) a) (controller_close me (fulfil_ready b b.slots.writer))
        (λ e. settled a (settle p (Err type_error) a.out.promises) (keeps-settle p (Err type_error) a.out.promises) f)
        (λ e. let n = closing_left a.slots e in accepted-fated p a n (λ m straight. f (not_closing a.slots n).0 straight))

    propagating-fated : (p : PromiseId) (a : Acts) → Fated a → Fated (close_with_error_propagation me p a)
    unfolding close_with_error_propagation
    propagating-fated p a f =
        either Fated (is_closing a.slots || is_closed a.slots.state) _ _ (λ e. settled a (settle p (Ok Undefined) a.out.promises) (keeps-settle p (Ok Undefined) a.out.promises) f)
        (λ e. either Fated (is_errored a.slots.state) _ _ (λ h. settled a (settle p (Err a.slots.stored_error) a.out.promises) (keeps-settle p (Err a.slots.stored_error) a.out.promises) f) (λ h. stream_close-fated p a f))

    signalled-fated : (r : Plain) (a : Acts) (owner : Owner) → Fated a → Fated (signalled me r a owner)
    signalled-fated r a Host f = alike-fated a (signalled me r a Host) (record { request = refl; flight = refl; keeps = keeps-tell _ a.out.promises }) f
    signalled-fated r a (HalfOf t) f = f
    signalled-fated r a (BranchOf t half) f = f
    signalled-fated r a (EndOf c) f = f

    begin_abort-fated : (r : Plain) (p : PromiseId) (a : Acts) → Fated a → Fated (begin_abort me r p a)
    begin_abort-fated r p a f =
        either Fated (is_erroring a.slots.state) (add_pending_abort r p a) (start_erroring me r (add_pending_abort r p a)) (λ e. f) (λ e. start-fated r (add_pending_abort r p a) f)

    abort-fated : (r : Plain) (p : PromiseId) (a : Acts) → Fated a → Fated (stream_abort me r p a)
    unfolding stream_abort
    abort-fated r p a f =
        let b : Acts = signalled me r a a.slots.owner in
        either Fated (has_ended a.slots.state) _ (begin_abort me r p b) (λ e. settled a (settle p (Ok Undefined) a.out.promises) (keeps-settle p (Ok Undefined) a.out.promises) f)
        (λ e. begin_abort-fated r p b (signalled-fated r a a.slots.owner f))

    abort_if-fated : (r : Plain) (p : PromiseId) (a : Acts) → Fated a → Fated (abort_if_writable me r p a)
    unfolding abort_if_writable
    abort_if-fated r p a f = either Fated (is_writable a.slots.state) _ _ (λ e. abort-fated r p a f) (λ e. settled a (settle p (Ok Undefined) a.out.promises) (keeps-settle p (Ok Undefined) a.out.promises) f)

    -- writers

    keeps-ready : (p : PromiseId) (w : writable.Slots) (t : Table) (state : WritableState) → Keeps t (ready_promise p w t state)
    keeps-ready p w t Writable = either (Keeps t) (not (is_closing w) && w.backpressure) t _ (λ e. keeps-same t) (λ e. keeps-settle p (Ok Undefined) t)
    keeps-ready p w t Erroring = keeps-settle p (Err w.stored_error) t
    keeps-ready p w t Closed = keeps-settle p (Ok Undefined) t
    keeps-ready p w t Errored = keeps-settle p (Err w.stored_error) t

    keeps-closed : (p : PromiseId) (w : writable.Slots) (t : Table) (state : WritableState) → Keeps t (closed_promise p w t state)
    keeps-closed p w t Writable = keeps-same t
    keeps-closed p w t Erroring = keeps-same t
    keeps-closed p w t Closed = keeps-settle p (Ok Undefined) t
    keeps-closed p w t Errored = keeps-settle p (Err w.stored_error) t

    set_up-fated : (w : Writer) (a : Acts) → Fated a → Fated (set_up_writer w a)
    unfolding set_up_writer
    set_up-fated w a f =
        let t : Table = ready_promise w.ready a.slots a.out.promises a.slots.state in
        let z : Table = closed_promise w.closed a.slots t a.slots.state in
        alike-fated a (with_promises z (record a { slots = record a.slots { writer = Some w } })) (record {
          request = refl;
          flight = refl;
          keeps = keeps-then a.out.promises t z (keeps-ready w.ready a.slots a.out.promises a.slots.state) (keeps-closed w.closed a.slots t a.slots.state);
        }) f

    release_by-fated : (a : Acts) (w : Option Writer) → Fated a → Fated (release_by a w)
    release_by-fated a None f = f
    release_by-fated a (Some w) f =
        let t : Table = settle_pending w.ready (Err type_error) a.out.promises in
        let z : Table = settle_pending w.closed (Err type_error) t in
        alike-fated a (release_by a (Some w)) (record { request = refl; flight = refl; keeps = keeps-then a.out.promises t z (keeps-pending w.ready (Err type_error) a.out.promises) (keeps-pending w.closed (Err type_error) t) }) f

    release-fated : (a : Acts) → Fated a → Fated (writer_release a)
    unfolding writer_release
    release-fated a f = release_by-fated a a.slots.writer f

    hand_on-fated : (taker : Taker) (a : Acts) (x : Option WriteRecord) → Fated a → Fated (hand_on_first me taker a x)
    hand_on-fated taker a None f = f
    hand_on-fated taker a (Some CloseMark) f = f
    hand_on-fated taker a (Some InFlight) f = f
    hand_on-fated taker a (Some (Chunk v)) f = f

    -- each operation
    pub operation-fated : (operation : WritableOperation) (a : Acts) → ((IsHandOn operation → ⊥) → Neat a.slots) → Fated a → Fated (writable_operation me operation a) ⊎ (is_closed (writable_operation me operation a).slots.state ≡ true)
    unfolding writer_write hand_on
    operation-fated (names.SetUpWriter w) a n f = inl (set_up-fated w a f)
    operation-fated names.ReleaseWriter a n f = inl (release-fated a f)
    operation-fated (names.Write v p) a n f = inl (write_by-fated v p a (write_refusal a.slots) (n (λ u. u)) f)
    operation-fated (names.Close p) a n f = inl (stream_close-fated p a f)
    operation-fated (names.ClosePropagating p) a n f = inl (propagating-fated p a f)
    operation-fated (names.Abort r p) a n f = inl (abort-fated r p a f)
    operation-fated (names.AbortIfWritable r p) a n f = inl (abort_if-fated r p a f)
    operation-fated (names.ErrorIfNeeded e) a n f = inl (needed-fated e a f)
    operation-fated (names.HandOn taker) a n f = inl (hand_on-fated taker a (first_value a.slots.queue) f)
    operation-fated (names.StartSettled o) a n f = inl (start_settled-fated o a (n (λ u. u)) f)
    operation-fated (names.WriteSettled o) a n f = inl (write_settled-fated o a (n (λ u. u)) f)
    operation-fated (names.CloseSettled (Ok v)) a n f = inr (now_closed me v a)
    operation-fated (names.CloseSettled (Err e)) a n f = inl (close_error-fated e a f)
    operation-fated (names.AbortSettled p o) a n f = inl (abort_settled-fated p o a f)

    -- the promise of a close of a stream that isn't closing or closed
    pub asked-fated : (a : Acts) → is_closing a.slots ≡ false → is_closed a.slots.state ≡ false → Fated (close_with_error_propagation me q a)
    unfolding close_with_error_propagation stream_close
    asked-fated a e c =
        let b : Acts = add_close_request q a in
        let fresh_one : Fated b = λ n straight. absurd (asked_now n) in
        let rejects : (r : Plain) → Fated (with_promises (settle q (Err r) a.out.promises) a) =
        λ r n straight. rejected_straight q r a.out.promises (settle q (Err r) a.out.promises) (keeps-same (settle q (Err r) a.out.promises)) straight in
        either Fated (is_closing a.slots || is_closed a.slots.state) _ _ (λ h. absurd (neither h))
        (λ h. either Fated (is_errored a.slots.state) _ _ (λ g. rejects a.slots.stored_error)
        (λ g. either Fated (has_ended a.slots.state || is_closing a.slots) _ (controller_close me (fulfil_ready b b.slots.writer)) (λ k. rejects type_error) (λ k. accepted-fated q a e fresh_one)))
      where
        same_number : nat_eq q.0 q.0 ≡ true
        same_number = grind arith

        asked_now : is_promise q (Some q) || is_promise q a.slots.close_in_flight ≡ false → ⊥
        asked_now n = let m : true ≡ false = rw same_number at n in cc

        neither : is_closing a.slots || is_closed a.slots.state ≡ true → ⊥
        neither h = let m : false ≡ true = rw (e, c) at h in cc
