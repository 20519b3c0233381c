-- Each operation of a half of a transform stream keeps its order.
use Rattle.std.proofs.Common.{◌≡◌, ℕ, zero, suc, ◌+◌, ◌<◌, true, is_some, List, [], ◌++◌, Option, None, Ok, Err, refl, sym, subst, ◌∙◌, arith, append-nil}
use Rattle.ws_value.specs.declared.ids.{PromiseId.{PromiseId}, StreamId.{StreamId}}
use Rattle.ws_value.specs.declared.value.{Plain.TheVariants.{Undefined}, Value.{Value}}
use Rattle.ws_steps.specs.declared.writable.{WritableState.TheVariants.{Closed}, WritableOperation.{WritableOperation}}
use Rattle.ws_steps.specs.declared.writable.WritableOperation.TheVariants.{SetUpWriter, ReleaseWriter, Write, Close, ClosePropagating, Abort, AbortIfWritable, ErrorIfNeeded, HandOn, StartSettled, WriteSettled, CloseSettled, AbortSettled}
use Rattle.ws_steps.specs.Operations.{writable_operation}
use Rattle.ws_steps.specs.Promises.{settle}
use Rattle.ws_steps.specs.Queues.{first_value}
use Rattle.ws_steps.specs.Writable.{Slots, Acts, with_promises, reject_close_and_closed, refresh_backpressure, write_ended, without_first, write_settled, write_refusal, close_ended, abort_ended, finish_in_flight_close, finish_in_flight_close_with_error, close_settled, start_settled, abort_settled, writer_write, set_up_writer, writer_release, hand_on}
use Rattle.ws_steps.specs.WritableHistory.{Writes, no_writes, writes_then, first_chunk, fulfilled_by, written_by, operation_writes}
use Rattle.ws_writable_laws.proofs.Operations.{writes-nothing}
use Rattle.ws_writable_laws.proofs.Shape.{core_of, Shape}
use Rattle.ws_transform_laws.proofs.Need.{Core, core, refresh-same, release-same, close_ended-same, abort_ended-same, unrequested-same}
use Rattle.ws_transform_laws.proofs.Ordering.{Ordered, Orders, Calm, Knows, calm_orders, same_calm, deal-orders, error_if_needed-orders, advance-orders, write_by-orders, close-orders, propagating-orders, abort-orders, abort_writable-orders, taken-ordered, hand_on-by, acted-told}

written-told : (h : Writes) (vs : List Value) → writes_then h (record no_writes { written = vs }) ≡ record h { written = h.written ++ vs }
written-told h vs = grind (arith, append-nil)

fulfilled-told : (h : Writes) (m : ℕ) → writes_then h (record no_writes { fulfilled = m }) ≡ record h { fulfilled = h.fulfilled + m }
fulfilled-told h m = grind (arith, append-nil)

-- nothing else than the queue and the state matters
unflown : (h : Writes) (d : List Value) (c : Core) (p : Option PromiseId) → Ordered h d c → Ordered h d (record c { flying = p })
unflown h d c p o = record { all = o.all; live = o.live; counted = o.counted; first = o.first; last = o.last; ended = o.ended; whole = o.whole; closed = o.closed }

-- a write in flight ends where no close algorithm was performed
unfinished : (h : Writes) (w : Slots) → Shape h.closes (core_of w) → is_some w.write_in_flight ≡ true → h.closes ≡ 0
unfinished h w s e = by h.closes refl
  where
    by : (k : ℕ) → k ≡ h.closes → h.closes ≡ 0
    by zero f = sym f
    by (suc k) f = let no = s.still (omega arith) in absurd (cc)

closed-core : (a : Acts) → (core (finish_in_flight_close a).slots ≡ record (core a.slots) { state = Closed }) × ((finish_in_flight_close a).out.effects ≡ a.out.effects)
unfolding finish_in_flight_close
closed-core a = grind arith

closed-ordered : (h : Writes) (d : List Value) (c : Core) → 0 < h.closes → c.queue ≡ [] → Ordered h d c → Ordered h d (record c { state = Closed })
closed-ordered h d c k q o = record { all = o.all; live = λ e. cc; counted = λ e. cc; first = o.first; last = o.last; ended = λ e. q; whole = o.whole; closed = λ e. k }

pub operation-orders : (i : StreamId) (operation : WritableOperation) (h : Writes) (d : List Value) (a : Acts) → Knows operation h a.slots → Calm h d a → Orders i (writes_then h (operation_writes operation a.slots)) (writable_operation i operation a)
unfolding set_up_writer writer_release writer_write hand_on start_settled write_settled close_settled finish_in_flight_close_with_error abort_settled
operation-orders i (SetUpWriter w) h d a n k = rw (writes-nothing h) (calm_orders i h d (set_up_writer w a) (record { quiet = k.quiet; ordered = k.ordered }))
operation-orders i ReleaseWriter h d a n k = rw (writes-nothing h) (calm_orders i h d (writer_release a) (same_calm h d a (writer_release a) (release-same a a.slots.writer) k))
operation-orders i (Write v p) h d a n k = rw (written-told h (written_by v a.slots)) (write_by-orders i v p h d a (write_refusal a.slots) refl n.shape n.closing k)
operation-orders i (Close p) h d a n k = rw (writes-nothing h) (close-orders i p h d a n.shape k)
operation-orders i (ClosePropagating p) h d a n k = rw (writes-nothing h) (propagating-orders i p h d a n.shape k)
operation-orders i (Abort r p) h d a n k = rw (writes-nothing h) (abort-orders i r p h d a k)
operation-orders i (AbortIfWritable r p) h d a n k = rw (writes-nothing h) (abort_writable-orders i r p h d a k)
operation-orders i (ErrorIfNeeded e) h d a n k = rw (writes-nothing h) (error_if_needed-orders i h d e a k)
operation-orders i (HandOn taker) h d a n k = rw (acted-told h (first_chunk a.slots.queue)) (hand_on-by i taker h d a (first_value a.slots.queue) refl n.shape k)
operation-orders i (StartSettled (Ok v)) h d a n k = rw (writes-nothing h) (advance-orders i h d (record a { slots = record a.slots { started = true } }) (record { quiet = k.quiet; ordered = k.ordered }))
operation-orders i (StartSettled (Err e)) h d a n k = rw (writes-nothing h) (deal-orders i h d e (record a { slots = record a.slots { started = true } }) (record { quiet = k.quiet; ordered = k.ordered }))
operation-orders i (WriteSettled (Ok v)) h d a n k =
    let b : Acts = without_first (write_ended (Ok Undefined) a) in
    let flies = n.flying (Ok v) refl in
    let z : Writes = record h { fulfilled = h.fulfilled + 1 } in
    let o = taken-ordered h d (record (core a.slots) { flying = None }) a.slots.queue refl (n.led v refl) (unfinished h a.slots n.shape flies) (unflown h d (core a.slots) None k.ordered) in
    rw (fulfilled-told h (fulfilled_by (Ok v) a.slots), flies) (advance-orders i z d (refresh_backpressure b) (same_calm z d b (refresh_backpressure b) (refresh-same b) (record { quiet = k.quiet; ordered = o })))
operation-orders i (WriteSettled (Err e)) h d a n k = rw (writes-nothing h) (deal-orders i h d e (write_ended (Err e) a) (record { quiet = k.quiet; ordered = unflown h d (core a.slots) None k.ordered }))
operation-orders i (CloseSettled (Ok v)) h d a n k =
    let c = closed-core a in
    let performed = n.shape.flight (n.ending (Ok v) refl) in
    rw (writes-nothing h) (calm_orders i h d (finish_in_flight_close a) (record { quiet = c.1 ∙ k.quiet; ordered = subst (Ordered h d) (sym c.0) (closed-ordered h d (core a.slots) performed (n.shape.spent performed) k.ordered) }))
operation-orders i (CloseSettled (Err e)) h d a n k =
    let b : Acts = close_ended (Err e) a in
    rw (writes-nothing h) (deal-orders i h d e (abort_ended (Err e) b) (same_calm h d b (abort_ended (Err e) b) (abort_ended-same (Err e) b) (same_calm h d a b (close_ended-same (Err e) a) k)))
operation-orders i (AbortSettled p (Ok v)) h d a n k =
    let b : Acts = with_promises (settle p (Ok Undefined) a.out.promises) a in
    rw (writes-nothing h) (calm_orders i h d (reject_close_and_closed b) (same_calm h d b (reject_close_and_closed b) (unrequested-same b) (record { quiet = k.quiet; ordered = k.ordered })))
operation-orders i (AbortSettled p (Err e)) h d a n k =
    let b : Acts = with_promises (settle p (Err e) a.out.promises) a in
    rw (writes-nothing h) (calm_orders i h d (reject_close_and_closed b) (same_calm h d b (reject_close_and_closed b) (unrequested-same b) (record { quiet = k.quiet; ordered = k.ordered })))
