-- What the queue of a writable stream and its reactions to the sink keep: no promise that isn't open is settled.
use Rattle.ws_writable_laws.proofs.Shape.{is_mark, has_mark}
use Rattle.ws_writable_laws.proofs.Expects.{Marked}
use Rattle.std.proofs.Common.{◌≡◌, ℕ, ◌+◌, ◌≤◌, true, false, ◌&&◌, is_some, is_none, if◌then◌else◌, List, [], ◌∷◌, Option, Some, None, Result, Ok, Err, refl, arith}
use Rattle.ws_value.specs.declared.ids.PromiseId.{PromiseId}
use Rattle.ws_value.specs.declared.ids.StreamId.{StreamId}
use Rattle.ws_value.specs.declared.value.Plain.{Plain}
use Rattle.ws_value.specs.declared.value.Plain.TheVariants.{Undefined}
use Rattle.ws_steps.specs.declared.{queue.Queued.{Queued}, writable.PendingAbort.{PendingAbort}, writable.WritableState.TheVariants.{Closed}, writable.WriteRecord.{WriteRecord}}
use Rattle.ws_steps.specs.declared.{writable.WriteRecord.TheVariants.{Chunk, InFlight, CloseMark}, writable.Writer.{Writer}}
use Rattle.ws_steps.specs.Promises.{Table, settle}
use Rattle.ws_steps.specs.Queues.{first_value, rest_of}
use Rattle.ws_steps.specs.Writable.{Acts, with_promises, is_erroring, has_ended, settle_request, refresh_backpressure, finish_erroring, first_request, later_requests, process_write, process_close, process_first, advance_queue, write_ended, without_first, write_settled, close_ended, settle_abort, abort_ended, clear_error, fulfil_closed, finish_in_flight_close, finish_in_flight_close_with_error, close_settled, start_settled, abort_settled, Slots, update_backpressure}
use Rattle.ws_laws.proofs.Tables.{either}
use Rattle.ws_promise_laws.proofs.Tokens.{in_effects-append, names, names_any}
use Rattle.ws_promise_laws.proofs.Holds.{Holds, holds-less}
use Rattle.ws_promise_laws.proofs.Settling.{holds-settle}
use Rattle.ws_promise_laws.proofs.Streams.{of_abort, in_list, Writes}
use Rattle.ws_promise_laws.proofs.WritableErroring.{Unready, unready, settle-keeps, refresh_backpressure-keeps, reject_close_and_closed-keeps, finish_erroring-keeps, deal_with_rejection-keeps, writes-quiet}
use Rattle.ws_laws.proofs.Truth.{excluded, false_true, or_right}

-- where the stream is erroring, no close is in flight
abbrev pub Grounded : Slots → Type 0
Grounded s = is_erroring s.state ≡ true → is_some s.close_in_flight ≡ false

-- bringing the backpressure up to date leaves both

refresh-queue : (a : Acts) → (refresh_backpressure a).slots.queue ≡ a.slots.queue
unfolding refresh_backpressure update_backpressure
refresh-queue a = grind arith

refresh-state : (a : Acts) → (refresh_backpressure a).slots.state ≡ a.slots.state
unfolding refresh_backpressure update_backpressure
refresh-state a = grind arith

refresh-request : (a : Acts) → (refresh_backpressure a).slots.close_request ≡ a.slots.close_request
unfolding refresh_backpressure update_backpressure
refresh-request a = grind arith

refresh-flight : (a : Acts) → (refresh_backpressure a).slots.close_in_flight ≡ a.slots.close_in_flight
unfolding refresh_backpressure update_backpressure
refresh-flight a = grind arith

pub refresh-marked : (a : Acts) → Marked a.slots → Marked (refresh_backpressure a).slots
refresh-marked a m = record { alive = rw (refresh-queue a, refresh-state a) m.alive; requested = rw (refresh-queue a, refresh-request a) m.requested }

pub refresh-grounded : (a : Acts) → Grounded a.slots → Grounded (refresh_backpressure a).slots
refresh-grounded a g = rw (refresh-state a, refresh-flight a) g

-- the queue advances

first_and_later : (x : PromiseId) (ps : List PromiseId) → in_list x ps ≡ names_any x (first_request ps) + in_list x (later_requests ps)
first_and_later x [] = omega arith
first_and_later x (p ∷ ps) = omega arith

-- the first write request goes in flight
process_write-keeps : (me : StreamId) (f l : PromiseId → ℕ) (a : Acts) → Writes f l a → Writes f l (process_write me a)
unfolding process_write
process_write-keeps me f l a k = writes-quiet f l a _ refl (λ x. grind (arith, in_effects-append, first_and_later)) (λ x. grind (arith, in_effects-append, first_and_later)) k.calm k

process_close-keeps : (me : StreamId) (f l : PromiseId → ℕ) (a : Acts) → is_some a.slots.close_request ≡ true → has_ended a.slots.state ≡ false → Writes f l a → Writes f l (process_close me a)
unfolding process_close
process_close-keeps me f l a e alive k =
    writes-quiet f l a _ refl (λ x. grind (arith, in_effects-append)) (λ x. grind (arith, in_effects-append)) (λ h. false_true (has_ended a.slots.state) h alive) k

process_first-keeps : (me : StreamId) (f l : PromiseId → ℕ) (a : Acts) (first : Option WriteRecord) → (first ≡ Some CloseMark → is_some a.slots.close_request ≡ true) → (first ≡ Some CloseMark → has_ended a.slots.state ≡ false)
    → Writes f l a → Writes f l (process_first me a first)
process_first-keeps me f l a None m n k = k
process_first-keeps me f l a (Some (Chunk v)) m n k = process_write-keeps me f l a k
process_first-keeps me f l a (Some InFlight) m n k = k
process_first-keeps me f l a (Some CloseMark) m n k = process_close-keeps me f l a (m refl) (n refl) k

first_marked : (queue : List (Queued WriteRecord)) → first_value queue ≡ Some CloseMark → has_mark queue ≡ true
first_marked [] e = cc
first_marked (q ∷ qs) e = grind arith

pub advance_queue-keeps : (me : StreamId) (f l : PromiseId → ℕ) (a : Acts) → Grounded a.slots → Marked a.slots → Writes f l a → Writes f l (advance_queue me a)
unfolding advance_queue
advance_queue-keeps me f l a g m k =
    let processed : Acts = process_first me a (first_value a.slots.queue) in
    either (Writes f l) (a.slots.started && is_none a.slots.write_in_flight) (if is_erroring a.slots.state then finish_erroring me a else processed) a
    (λ ready. either (Writes f l) (is_erroring a.slots.state) (finish_erroring me a) processed
    (λ e. finish_erroring-keeps me f l a (g e) (unready f l a k))
    (λ e. process_first-keeps me f l a (first_value a.slots.queue) (λ e. m.requested (first_marked a.slots.queue e)) (λ e. m.alive (first_marked a.slots.queue e)) k))
    (λ ready. k)

-- the reactions to the sink

settle_request-holds : (f l g m : PromiseId → ℕ) (o : Result Plain Plain) (t : Table) (p : Option PromiseId) → Holds f l t
    → ((x : PromiseId) → g x + names_any x p ≤ f x) → ((x : PromiseId) → g x + m x ≤ f x + l x) → Holds g m (settle_request o t p)
settle_request-holds f l g m o t None k a b = holds-less f l g m t k (λ x. let n = a x in omega arith) b
settle_request-holds f l g m o t (Some p) k a b = holds-settle f l g m p o t k a b

pub write_ended-keeps : (f l : PromiseId → ℕ) (o : Result Plain Plain) (a : Acts) → Writes f l a → Writes f l (write_ended o a)
write_ended-keeps f l o a k = record { holds = settle_request-holds _ _ _ _ o a.out.promises a.slots.write_in_flight k.holds (λ x. omega arith) (λ x. omega arith); calm = k.calm }

-- no mark comes to a queue that is shortened
rest_marked : (queue : List (Queued WriteRecord)) → has_mark (rest_of queue) ≡ true → has_mark queue ≡ true
rest_marked [] e = e
rest_marked (q ∷ qs) e = or_right (is_mark q.value) (has_mark qs) e

pub write_settled-keeps : (me : StreamId) (f l : PromiseId → ℕ) (o : Result Plain Plain) (a : Acts) → is_some a.slots.close_in_flight ≡ false → Marked a.slots → Writes f l a → Writes f l (write_settled me o a)
unfolding write_settled
write_settled-keeps me f l (Ok v) a c m k =
    let b : Acts = without_first (write_ended (Ok Undefined) a) in
    let ended : Writes f l (write_ended (Ok Undefined) a) = write_ended-keeps f l (Ok Undefined) a k in
    advance_queue-keeps me f l (refresh_backpressure b) (refresh-grounded b (λ e. c)) (refresh-marked b (record { alive = λ e. m.alive (rest_marked a.slots.queue e); requested = λ e. m.requested (rest_marked a.slots.queue e) }))
    (refresh_backpressure-keeps f l b (record { holds = ended.holds; calm = ended.calm }))
write_settled-keeps me f l (Err e) a c m k =
    let b : Acts = write_ended (Err e) a in
    deal_with_rejection-keeps me f l e b c (unready f l b (write_ended-keeps f l (Err e) a k))

pub start_settled-keeps : (me : StreamId) (f l : PromiseId → ℕ) (o : Result Plain Plain) (a : Acts) → is_some a.slots.close_in_flight ≡ false → Marked a.slots → Writes f l a
    → Writes f l (start_settled me o a)
unfolding start_settled
start_settled-keeps me f l (Ok v) a c m k = advance_queue-keeps me f l (record a { slots = record a.slots { started = true } }) (λ e. c) (record { alive = m.alive; requested = m.requested }) (record { holds = k.holds; calm = k.calm })
start_settled-keeps me f l (Err r) a c m k = deal_with_rejection-keeps me f l r (record a { slots = record a.slots { started = true } }) c (unready f l a k)

pub abort_settled-keeps : (f l : PromiseId → ℕ) (p : PromiseId) (o : Result Plain Plain) (a : Acts) → has_ended a.slots.state ≡ true → Writes (λ x. f x + names x p) l a → Writes f l (abort_settled p o a)
unfolding abort_settled
abort_settled-keeps f l p (Ok v) a d k = reject_close_and_closed-keeps f l (with_promises (settle p (Ok Undefined) a.out.promises) a) d (settle-keeps f l p (Ok Undefined) a k)
abort_settled-keeps f l p (Err e) a d k = reject_close_and_closed-keeps f l (with_promises (settle p (Err e) a.out.promises) a) d (settle-keeps f l p (Err e) a k)

-- the close in flight ends

-- the stream's ready promise stands aside, and no close is in flight of a stream that hasn't ended
pub record Landed (f l : PromiseId → ℕ) (a : Acts) : Type 0 where
  pub holds : Unready f l a
  pub alive : has_ended a.slots.state ≡ false
  pub ended : is_some a.slots.close_in_flight ≡ false

-- a stream of which a close is in flight hasn't ended
close_ended-keeps : (f l : PromiseId → ℕ) (o : Result Plain Plain) (a : Acts) → is_some a.slots.close_in_flight ≡ true → Writes f l a → Landed f l (close_ended o a)
close_ended-keeps f l o a c k = record {
  holds = settle_request-holds _ _ _ _ o a.out.promises a.slots.close_in_flight (unready f l a k) (λ x. omega arith) (λ x. omega arith);
  alive = excluded (has_ended a.slots.state) (is_some a.slots.close_in_flight) k.calm c;
  ended = refl;
}

settle_abort-holds : (f l g m : PromiseId → ℕ) (o : Result Plain Plain) (t : Table) (p : Option PendingAbort) → Holds f l t
    → ((x : PromiseId) → g x + of_abort x p ≤ f x) → ((x : PromiseId) → g x + m x ≤ f x + l x) → Holds g m (settle_abort o t p)
settle_abort-holds f l g m o t None k a b = holds-less f l g m t k (λ x. let n = a x in omega arith) b
settle_abort-holds f l g m o t (Some p) k a b = holds-settle f l g m p.promise o t k a b

abort_ended-keeps : (f l : PromiseId → ℕ) (o : Result Plain Plain) (a : Acts) → Landed f l a → Landed f l (abort_ended o a)
abort_ended-keeps f l o a k = record {
  holds = settle_abort-holds _ _ _ _ o a.out.promises a.slots.pending_abort k.holds (λ x. omega arith) (λ x. omega arith);
  alive = k.alive;
  ended = k.ended;
}

clear_error-keeps : (f l : PromiseId → ℕ) (a : Acts) → Landed f l a → Landed f l (clear_error a)
clear_error-keeps f l a k =
    let b : Acts = record a { slots = record a.slots { stored_error = Undefined } } in
    either (Landed f l) (is_erroring a.slots.state) (abort_ended (Ok Undefined) b) a
    (λ e. abort_ended-keeps f l (Ok Undefined) b (record { holds = k.holds; alive = k.alive; ended = k.ended })) (λ e. k)

fulfil_closed-keeps : (f l : PromiseId → ℕ) (a : Acts) (w : Option Writer) → a.slots.writer ≡ w → Landed f l a → Writes f l (fulfil_closed (record a { slots = record a.slots { state = Closed } }) w)
fulfil_closed-keeps f l a None e k = let alive = k.alive in record { holds = holds-less _ _ _ _ a.out.promises k.holds (λ x. grind arith) (λ x. grind arith); calm = λ h. k.ended }
fulfil_closed-keeps f l a (Some w) e k =
    let alive = k.alive in record { holds = holds-settle _ _ _ _ w.closed (Ok Undefined) a.out.promises k.holds (λ x. grind arith) (λ x. grind arith); calm = λ h. k.ended }

pub close_settled-keeps : (me : StreamId) (f l : PromiseId → ℕ) (o : Result Plain Plain) (a : Acts) → is_some a.slots.close_in_flight ≡ true → Writes f l a → Writes f l (close_settled me o a)
unfolding close_settled finish_in_flight_close finish_in_flight_close_with_error
close_settled-keeps me f l (Ok v) a e k =
    let b : Acts = clear_error (close_ended (Ok Undefined) a) in
    fulfil_closed-keeps f l b b.slots.writer refl (clear_error-keeps f l (close_ended (Ok Undefined) a) (close_ended-keeps f l (Ok Undefined) a e k))
close_settled-keeps me f l (Err r) a e k =
    let b : Acts = abort_ended (Err r) (close_ended (Err r) a) in
    let landed : Landed f l b = abort_ended-keeps f l (Err r) (close_ended (Err r) a) (close_ended-keeps f l (Err r) a e k) in
    deal_with_rejection-keeps me f l r b landed.ended landed.holds
