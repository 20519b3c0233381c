-- The close of a stream that fails: its request stays, or its promise is rejected.
use Rattle.std.proofs.Common.{◌≡◌, ◌⊎◌, inl, inr, Bool, true, false, ◌&&◌, ◌||◌, is_some, is_none, Option, Some, None, Result, Ok, Err, refl, subst, arith}
use Rattle.ws_value.specs.declared.{ids.PromiseId.{PromiseId}, ids.StreamId.{StreamId}, value.Outcome.TheVariants.{Rejected}, value.Plain.{Plain}, value.Plain.TheVariants.{Undefined}}
use Rattle.ws_steps.specs.declared.writable.{PendingAbort.{PendingAbort}, Writer.{Writer}, WriteRecord.{WriteRecord}, WriteRecord.TheVariants.{Chunk, InFlight, CloseMark}}
use Rattle.ws_steps.specs.declared.writable.{WritableOperation.{WritableOperation}, WritableState.{WritableState}}
use Rattle.ws_steps.specs.declared.writable.WritableOperation.TheVariants as names
use Rattle.ws_steps.specs.Operations.{writable_operation}
use Rattle.ws_steps.specs.Promises.{Table, outcome_at, settle, is_pending_at}
use Rattle.ws_steps.specs.Queues.{enqueued, first_value}
use Rattle.ws_steps.specs.Writable as writable
use Rattle.ws_steps.specs.Writable.{Acts, is_closed, is_errored, is_erroring, process_first, set_up_writer, writer_release, writer_write, stream_close, close_with_error_propagation, stream_abort, abort_if_writable, controller_error_if_needed, hand_on, start_settled, write_settled, close_settled, abort_settled, deal_with_rejection, finish_erroring, finish_abort, fail_writes, advance_queue, refresh_backpressure, update_backpressure, reject_close, reject_closed, reject_close_and_closed, process_write, process_close, start_erroring, controller_write, controller_close, settle_pending}
use Rattle.ws_laws.proofs.Outcomes.{Keeps, keeps-same, keeps-then, keeps-fresh, keeps-settle, keeps-tell}
use Rattle.ws_laws.proofs.Straight.{straight_before, settled_straight}
use Rattle.ws_laws.proofs.Tables.{either}
use Rattle.ws_laws.proofs.Truth.{false_true}
use Rattle.ws_laws.proofs.WritableDoes.{writable-does}
use Rattle.ws_writable_laws.proofs.Expects.{Marked}
use Rattle.ws_writable_laws.proofs.Shape.{has_mark}
use Rattle.ws_end_laws.proofs.wrote.Keeping.{Expected}
use Rattle.ws_end_laws.specs.ends.PassedAll.{is_failing}
use Rattle.ws_end_laws.proofs.ends.Failing.{Unclosed, Failing, first-other, ended-unmarked, rest-unmarked, refresh-same}

-- the promise is rejected
pub record IsRejected (d : PromiseId) (t : Table) : Type 0 where
  pub reason : Plain
  pub is : outcome_at t d ≡ Some (Rejected reason)

pub rejected-keeps : (d : PromiseId) (t z : Table) → Keeps t z → IsRejected d t → IsRejected d z
rejected-keeps d t z k r = record { reason = r.reason; is = k.outcome d (Rejected r.reason) refl r.is }

-- the request is there still, or the promise is rejected, where nothing went astray
abbrev pub Asked : PromiseId → Acts → Type 0
Asked d a = (a.slots.close_request ≡ Some d) ⊎ (a.out.promises.astray ≡ false → IsRejected d a.out.promises)

-- the request is rejected

keeps-settle_pending : (p : PromiseId) (o : Result Plain Plain) (t : Table) → Keeps t (settle_pending p o t)
unfolding settle_pending
keeps-settle_pending p o t = either (Keeps t) (is_pending_at p t) (settle p o t) t (λ e. keeps-settle p o t) (λ e. keeps-same t)

closed-keeps : (a : Acts) (o : Option Writer) → Keeps a.out.promises (reject_closed a o).out.promises
closed-keeps a None = keeps-same a.out.promises
closed-keeps a (Some w) = keeps-settle_pending w.closed (Err a.slots.stored_error) a.out.promises

settled-rejected : (d : PromiseId) (e : Plain) (t z : Table) → Keeps (settle d (Err e) t) z → z.astray ≡ false → IsRejected d z
settled-rejected d e t z k a =
    rejected-keeps d (settle d (Err e) t) z k (record { reason = e; is = settled_straight d (Err e) t (straight_before (settle d (Err e) t) z k a) })

rejects : (d : PromiseId) (a : Acts) (o : Option PromiseId) → o ≡ Some d → let b : Acts = reject_close a o in (w : Option Writer) → (reject_closed b w).out.promises.astray ≡ false → IsRejected d (reject_closed b w).out.promises
rejects d a None e w s = cc
rejects d a (Some c) e w s =
    let is : c ≡ d = some c d e in
    let b : Acts = reject_close a (Some c) in
    subst (λ (x : PromiseId). IsRejected x (reject_closed b w).out.promises) is (settled-rejected c a.slots.stored_error a.out.promises (reject_closed b w).out.promises (closed-keeps b w) s)
  where
    some : (x y : PromiseId) → ◌≡◌ {A = Option PromiseId} (Some x) (Some y) → x ≡ y
    some x y e = cc

close-rejected : (d : PromiseId) (a : Acts) → a.slots.close_request ≡ Some d → Asked d (reject_close_and_closed a)
unfolding reject_close_and_closed
close-rejected d a e = inr (λ s. rejects d a a.slots.close_request e (reject_close a a.slots.close_request).slots.writer s)

-- steps of operations

abort-asked : (d : PromiseId) (i : StreamId) (a : Acts) (o : Option PendingAbort) → a.slots.close_request ≡ Some d → Asked d (finish_abort i a o)
abort-asked d i a None e = close-rejected d a e
abort-asked d i a (Some abort) e = by abort.was_already_erroring
  where
    c : Acts
    c = record a { slots = record a.slots { pending_abort = None } }

    by : (b : Bool) → Asked d (writable.abort_by i abort c b)
    by true = close-rejected d (writable.with_promises (settle abort.promise (Err c.slots.stored_error) c.out.promises) c) e
    by false = inl e

finish-asked : (d : PromiseId) (i : StreamId) (a : Acts) → a.slots.close_request ≡ Some d → Asked d (finish_erroring i a)
unfolding finish_erroring
finish-asked d i a e = abort-asked d i (fail_writes a) (fail_writes a).slots.pending_abort e

first-asked : (d : PromiseId) (i : StreamId) (a : Acts) (o : Option WriteRecord) → (o ≡ Some CloseMark → ⊥) → a.slots.close_request ≡ Some d → Asked d (process_first i a o)
unfolding process_write
first-asked d i a None n e = inl e
first-asked d i a (Some CloseMark) n e = absurd (n refl)
first-asked d i a (Some (Chunk v)) n e = inl e
first-asked d i a (Some InFlight) n e = inl e

advance-asked : (d : PromiseId) (i : StreamId) (a : Acts) → (is_erroring a.slots.state ≡ false → has_mark a.slots.queue ≡ false) → a.slots.close_request ≡ Some d → Asked d (advance_queue i a)
unfolding advance_queue
advance-asked d i a m e =
    either (Asked d) (a.slots.started && is_none a.slots.write_in_flight) _ a
    (λ s. either (Asked d) (is_erroring a.slots.state) (finish_erroring i a) (process_first i a (first_value a.slots.queue))
    (λ f. finish-asked d i a e) (λ f. first-asked d i a (first_value a.slots.queue) (first-other a.slots.queue (m f)) e))
    (λ s. inl e)

not_writable : (s : WritableState) → is_failing s ≡ true → writable.is_writable s ≡ false
not_writable s f = grind (arith, f)

deal-asked : (d : PromiseId) (i : StreamId) (r : Plain) (a : Acts) → is_failing a.slots.state ≡ true → a.slots.close_request ≡ Some d → Asked d (deal_with_rejection i r a)
unfolding deal_with_rejection
deal-asked d i r a f e =
    either (Asked d) (writable.is_writable a.slots.state) (start_erroring i r a) (finish_erroring i a)
    (λ w. false_true (writable.is_writable a.slots.state) w (not_writable a.slots.state f)) (λ w. finish-asked d i a e)

write-asked : (d : PromiseId) (i : StreamId) (o : Result Plain Plain) (a : Acts) → Marked a.slots → Failing a.slots → a.slots.close_request ≡ Some d → Asked d (write_settled i o a)
unfolding write_settled
write-asked d i (Ok v) a m k e =
    let b : Acts = writable.without_first (writable.write_ended (Ok Undefined) a) in
    rw (refresh-same b k.state) (advance-asked d i b (λ f. rest-unmarked a.slots.queue (ended-unmarked a.slots m k.state f)) e)
write-asked d i (Err r) a m k e = deal-asked d i r (writable.write_ended (Err r) a) k.state e

start-asked : (d : PromiseId) (i : StreamId) (o : Result Plain Plain) (a : Acts) → Marked a.slots → Failing a.slots → a.slots.close_request ≡ Some d → Asked d (start_settled i o a)
unfolding start_settled
start-asked d i (Ok v) a m k e = advance-asked d i (record a { slots = record a.slots { started = true } }) (λ f. ended-unmarked a.slots m k.state f) e
start-asked d i (Err r) a m k e = deal-asked d i r (record a { slots = record a.slots { started = true } }) k.state e

aborted-asked : (d c : PromiseId) (o : Result Plain Plain) (a : Acts) → a.slots.close_request ≡ Some d → Asked d (abort_settled c o a)
unfolding abort_settled
aborted-asked d c (Ok v) a e = close-rejected d (writable.with_promises (settle c (Ok Undefined) a.out.promises) a) e
aborted-asked d c (Err r) a e = close-rejected d (writable.with_promises (settle c (Err r) a.out.promises) a) e

-- each operation of a stream that fails
pub asked-operation : (d : PromiseId) (i : StreamId) (operation : WritableOperation) (a : Acts) → Expected operation a.slots → Failing a.slots → a.slots.close_request ≡ Some d → Asked d (writable_operation i operation a)
unfolding set_up_writer writer_release writer_write stream_close close_with_error_propagation stream_abort abort_if_writable controller_error_if_needed hand_on
asked-operation d i (names.SetUpWriter w) a x k e = inl e
asked-operation d i names.ReleaseWriter a x k e = inl (grind (arith, e))
asked-operation d i (names.Write v p) a x k e = inl (grind (arith, k, e))
asked-operation d i (names.Close p) a x k e = inl (grind (arith, k, e))
asked-operation d i (names.ClosePropagating p) a x k e = inl (grind (arith, k, e))
asked-operation d i (names.Abort r p) a x k e = inl (grind (arith, k, e))
asked-operation d i (names.AbortIfWritable r p) a x k e = inl (grind (arith, k, e))
asked-operation d i (names.ErrorIfNeeded r) a x k e = inl (grind (arith, k, e))
asked-operation d i (names.HandOn taker) a x k e = inl (grind (arith, e))
asked-operation d i (names.StartSettled o) a x k e = start-asked d i o a x.0 k e
asked-operation d i (names.WriteSettled o) a x k e = write-asked d i o a x.0 k e
asked-operation d i (names.CloseSettled o) a x k e = false_true (is_some a.slots.close_in_flight) x k.flight
asked-operation d i (names.AbortSettled p o) a x k e = aborted-asked d p o a e

-- and the close itself, of a stream that fails and isn't closing

queued-asked : (d : PromiseId) (i : StreamId) (a : Acts) → is_erroring a.slots.state ≡ true → a.slots.close_request ≡ Some d → Asked d (controller_close i a)
unfolding controller_close
queued-asked d i a s e =
    let b : Acts = record a { slots = record a.slots { queue = enqueued CloseMark 0 a.slots.queue } } in
    advance-asked d i b (λ f. false_true (is_erroring a.slots.state) s f) e

erroring-or : (s : WritableState) → is_failing s ≡ true → is_errored s ≡ false → is_erroring s ≡ true
erroring-or s f e = grind (arith, f, e)

pub close-asked : (d : PromiseId) (i : StreamId) (a : Acts) → Unclosed a.slots → Failing a.slots → Asked d (writable_operation i (names.ClosePropagating d) a)
unfolding close_with_error_propagation stream_close
close-asked d i a u k =
    either (Asked d) (writable.is_closing a.slots || is_closed a.slots.state) _ _ (λ c. false_true (writable.is_closing a.slots || is_closed a.slots.state) c (none a.slots.close_request a.slots.close_in_flight a.slots.state u.request u.flight u.state))
    (λ c. either (Asked d) (is_errored a.slots.state) (writable.with_promises (settle d (Err a.slots.stored_error) a.out.promises) a) _
    (λ f. inr (λ s. settled-rejected d a.slots.stored_error a.out.promises (settle d (Err a.slots.stored_error) a.out.promises) (keeps-same _) s))
    (λ f. either (Asked d) (writable.has_ended a.slots.state || writable.is_closing a.slots) _ _
    (λ g. false_true (writable.has_ended a.slots.state || writable.is_closing a.slots) g (open_ a.slots.state (erroring-or a.slots.state k.state f) u.request u.flight))
    (λ g. asked (writable.add_close_request d a).slots.writer (erroring-or a.slots.state k.state f))))
  where
    none : (r c : Option PromiseId) (s : WritableState) → is_some r ≡ false → is_some c ≡ false → is_closed s ≡ false → (is_some r || is_some c) || is_closed s ≡ false
    none r c s x y z = rw (x, y, z) refl

    open_ : (s : WritableState) → is_erroring s ≡ true → is_some a.slots.close_request ≡ false → is_some a.slots.close_in_flight ≡ false → writable.has_ended s || writable.is_closing a.slots ≡ false
    open_ s e x y = grind (arith, e, x, y)

    asked : (o : Option Writer) → is_erroring a.slots.state ≡ true → Asked d (controller_close i (writable.fulfil_ready (writable.add_close_request d a) o))
    asked None e = queued-asked d i (writable.add_close_request d a) e refl
    asked (Some w) e =
        let c : Acts = writable.add_close_request d a in
        either (λ (b : Acts). Asked d (controller_close i b)) (c.slots.backpressure && writable.is_writable c.slots.state) (writable.with_promises (settle w.ready (Ok Undefined) c.out.promises) c) c
        (λ g. queued-asked d i (writable.with_promises (settle w.ready (Ok Undefined) c.out.promises) c) e refl) (λ g. queued-asked d i c e refl)

-- what an operation does to promises keeps their outcomes
pub operation-keeps : (i : StreamId) (operation : WritableOperation) (a : Acts) → Keeps a.out.promises (writable_operation i operation a).out.promises
operation-keeps i operation a =
    writable-does (λ x. Keeps a.out.promises x.promises) i
    (record {
      settle = λ x p o k. keeps-then a.out.promises x.promises _ k (keeps-settle p o x.promises);
      fresh = λ x k. keeps-then a.out.promises x.promises _ k (keeps-fresh x.promises);
      tell = λ x r k. keeps-then a.out.promises x.promises _ k (keeps-tell _ x.promises);
      write = λ x k. k;
      close = λ x k. k;
      abort = λ x r p k. k;
      hand_on = λ x v k. k;
      take = λ x v t d k. k;
      post = λ x v c d k. k;
    }) operation a (keeps-same a.out.promises)
