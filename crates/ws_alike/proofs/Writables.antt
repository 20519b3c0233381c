-- An operation of a writable stream doesn't look at a promise that isn't named, and names it nowhere.
use Rattle.std.proofs.Common.{◌≡◌, ◌∙◌, ◌+◌, ◌≤◌, Bool, true, false, not, ◌&&◌, ◌||◌, if◌then◌else◌, List, [], ◌∷◌, ◌++◌, Option, Some, None, Result, Ok, Err, refl, sym, ap, arith}
use Rattle.std.specs.Prelude.{is_none}
use Rattle.ws_value.specs.declared.ids.PromiseId.{PromiseId}
use Rattle.ws_value.specs.declared.ids.StreamId.{StreamId}
use Rattle.ws_value.specs.declared.value.Plain.{Plain}
use Rattle.ws_value.specs.declared.value.Plain.TheVariants.{Undefined}
use Rattle.ws_value.specs.declared.value.Value.{Value}
use Rattle.ws_steps.specs.declared.writable.WritableState.{WritableState}
use Rattle.ws_steps.specs.Effects.{type_error}
use Rattle.ws_steps.specs.Promises.{Entry, Table, with_entry, settle, fresh, next_id}
use Rattle.ws_alike.proofs.Tables.{next-blind}
use Rattle.ws_alike.proofs.Records.{Lawful, made, quiet, after-quiet, causes, settles}
use Rattle.ws_alike.proofs.Steps.{Fits, then-blind, stays, by-test, next-apart, named-none}
use Rattle.ws_steps.specs.declared.calls.Event.TheVariants.{Signal as SignalEvent}
use Rattle.ws_steps.specs.declared.effects.Effect.TheVariants.{WriteAlgorithm, CloseAlgorithm, AbortAlgorithm}
use Rattle.ws_steps.specs.declared.effects.Owner.{Owner}
use Rattle.ws_steps.specs.declared.effects.Owner.TheVariants.{Host, HalfOf, BranchOf, EndOf}
use Rattle.ws_steps.specs.declared.transform.Taker.{Taker}
use Rattle.ws_steps.specs.declared.transform.Taker.TheVariants.{ToHost, ToTransform, ToPort}
use Rattle.ws_steps.specs.declared.writable.PendingAbort.{PendingAbort}
use Rattle.ws_steps.specs.declared.writable.WritableOperation.{WritableOperation}
use Rattle.ws_steps.specs.declared.writable.WritableOperation.TheVariants.{SetUpWriter, ReleaseWriter, Write, Close as CloseWritable, ClosePropagating, Abort, AbortIfWritable, ErrorIfNeeded, HandOn, StartSettled, WriteSettled, CloseSettled, AbortSettled}
use Rattle.ws_steps.specs.declared.writable.WritableState.TheVariants.{Writable, Erroring, Errored, Closed}
use Rattle.ws_steps.specs.declared.writable.WriteRecord.{WriteRecord}
use Rattle.ws_steps.specs.declared.writable.WriteRecord.TheVariants.{Chunk, InFlight, CloseMark}
use Rattle.ws_steps.specs.declared.writable.Writer.{Writer}
use Rattle.ws_steps.specs.Operations.{writable_operation}
use Rattle.ws_steps.specs.Promises.{tell}
use Rattle.ws_steps.specs.Queues.{rest_of, first_value, with_first_value, enqueued, size_of}
use Rattle.ws_steps.specs.Writable.{Acts, Slots, with_promises, causing, is_writable, is_erroring, is_errored, is_closed, is_closing, is_in_flight, has_backpressure, settle_request, reject_all, ensure_rejected, rejected_promise, settle_pending, differs, change_ready, ready_for, with_backpressure, update_backpressure, refresh_backpressure, reject_close, reject_closed, reject_close_and_closed, abort_by, finish_abort, fail_writes, finish_erroring, reject_ready, start_erroring, deal_with_rejection, controller_error_if_needed, first_request, later_requests, process_write, process_close, process_first, advance_queue, taken_by, hand_on_first, hand_on, write_ended, without_first, write_settled, close_ended, settle_abort, abort_ended, clear_error, fulfil_closed, finish_in_flight_close, finish_in_flight_close_with_error, close_settled, start_settled, abort_settled, enqueue_chunk, controller_write, write_refusal, write_by, writer_write, controller_close, fulfil_ready, has_ended, stream_close, close_with_error_propagation, abort_of, begin_abort, signalled, stream_abort, abort_if_writable, ready_promise, closed_promise, set_up_writer, release_by, writer_release}
use Rattle.ws_alike.specs.Named.{one, in_option, in_list, in_writer, in_pending_abort, in_writable, in_writable_operation, in_effects, in_taker}
use Rattle.ws_alike.specs.Blind.{LeavesAlone, EachWritableOperationIsBlind, writables, view_of}
use Rattle.ws_alike.proofs.Promising.{Alone, ensures, rejected-apart, rejected-same, rejects-all, settles-pending, settles-request}
use Rattle.ws_alike.proofs.Promising as table
use Rattle.ws_alike.proofs.Lists.{all-append}

law : Lawful Acts Slots writables
law = record { put_slots = λ s out. refl; put_out = λ s out. refl }

-- what of one operation is to be shown
abbrev Blind : PromiseId → (Acts → Acts) → Acts → Type 0
Blind p f a = LeavesAlone Acts (view_of writables) p f a

abbrev Fit : PromiseId → Acts → Type 0
Fit p a = Fits Acts (view_of writables) p a

-- the slots are written by what the promises tell, and the promises change
renewing : (p : PromiseId) (f : Table → Table) (h : PromiseId → Slots → Slots) (q : Table → PromiseId) (a : Acts) → Fit p a → (table.Fit p a.out.promises → Alone p f a.out.promises)
    → ((x : Option Entry) → q (with_entry p x a.out.promises) ≡ q a.out.promises) → in_writable p (h (q a.out.promises) a.slots) ≤ in_writable p a.slots
    → Blind p (λ b. with_promises (f b.out.promises) (record b { slots = h (q b.out.promises) b.slots })) a
renewing p f h q a fits k same less =
    let m = k (record { made = fits.made; none = omega (arith, fits.none) }) in
    record {
      blind = λ x. ap (λ n. record { slots = h n a.slots; out = record a.out { promises = f (with_entry p x a.out.promises) } }) (same x)
          ∙ ap (λ (t : Table). record { slots = h (q a.out.promises) a.slots; out = record a.out { promises = t } }) (m.blind x);
      unnamed = omega (arith, m.unnamed, fits.none, less);
      more = m.more;
    }

both : (p : PromiseId) (f : Table → Table) (h : Slots → Slots) (a : Acts) → Fit p a → (table.Fit p a.out.promises → Alone p f a.out.promises)
    → in_writable p (h a.slots) ≤ in_writable p a.slots → Blind p (λ b. with_promises (f b.out.promises) (record b { slots = h b.slots })) a
both p f h a fits k less = renewing p f (λ q. h) (λ t. record { 0 = 0 }) a fits k (λ x. refl) less

promises-only : (p : PromiseId) (f : Table → Table) (a : Acts) → Fit p a → (table.Fit p a.out.promises → Alone p f a.out.promises) → Blind p (λ b. with_promises (f b.out.promises) b) a
promises-only p f a fits k = both p f (λ s. s) a fits k (omega arith)

writer-names : (p : PromiseId) (w : Writer) (o : Option Writer) → Some w ≡ o → in_writer p o ≡ one p w.ready + one p w.closed
writer-names p w o h = ap (in_writer p) (sym h)

-- backpressure

change_ready-blind : (p : PromiseId) (w : Writer) (a : Acts) (b : Bool) → Some w ≡ a.slots.writer → Fit p a → Blind p (λ c. change_ready w c b) a
change_ready-blind p w a true r fits =
    let named = writer-names p w a.slots.writer r in
    let next = next-apart p a.out.promises fits.made in
    renewing p fresh (λ q s. record s { writer = Some (record w { ready = q }) }) next_id a fits (table.freshes p a.out.promises) (λ x. next-blind p x a.out.promises) (omega (arith, named, next))
change_ready-blind p w a false r fits =
    let named = writer-names p w a.slots.writer r in
    settles law p w.ready (Ok Undefined) a (omega (arith, named, fits.none)) fits

ready_for-blind : (p : PromiseId) (b : Bool) (a : Acts) (o : Option Writer) → o ≡ a.slots.writer → Fit p a → Blind p (λ c. ready_for b c o) a
ready_for-blind p b a None r fits = stays p a fits
ready_for-blind p b a (Some w) r fits =
    let k = by-test p (λ c. change_ready w c b) (λ c. c) (differs b a.slots.backpressure) a (change_ready-blind p w a b r fits) (stays p a fits) in
    record { blind = k.blind; unnamed = k.unnamed; more = k.more }

update-blind : (p : PromiseId) (b : Bool) (a : Acts) → Fit p a → Blind p (update_backpressure b) a
unfolding update_backpressure
update-blind p b a fits =
    let k = then-blind p (λ c. ready_for b c a.slots.writer) (with_backpressure b) a (ready_for-blind p b a a.slots.writer refl fits)
    (λ f. quiet law p (λ s. record s { backpressure = b }) _ f (omega arith)) fits in
    record { blind = k.blind; unnamed = k.unnamed; more = k.more }

refresh-blind : (p : PromiseId) (a : Acts) → Fit p a → Blind p refresh_backpressure a
unfolding refresh_backpressure
refresh-blind p a fits =
    let k = by-test p (update_backpressure (has_backpressure a.slots)) (λ b. b) (not (is_closing a.slots) && is_writable a.slots.state) a (update-blind p (has_backpressure a.slots) a fits) (stays p a fits) in
    record { blind = k.blind; unnamed = k.unnamed; more = k.more }

-- erroring

reject_close-blind : (p : PromiseId) (a : Acts) (o : Option PromiseId) → o ≡ a.slots.close_request → Fit p a → Blind p (λ b. reject_close b o) a
reject_close-blind p a None r fits = stays p a fits
reject_close-blind p a (Some q) r fits =
    let named = named-none p q a.slots.close_request (sym r) in
    let k = both p (settle q (Err a.slots.stored_error)) (λ s. record s { close_request = None }) a fits (table.settles p q (Err a.slots.stored_error) a.out.promises (omega (arith, named, fits.none))) (omega arith) in
    record { blind = k.blind; unnamed = k.unnamed; more = k.more }

reject_closed-blind : (p : PromiseId) (a : Acts) (o : Option Writer) → o ≡ a.slots.writer → Fit p a → Blind p (λ b. reject_closed b o) a
reject_closed-blind p a None r fits = stays p a fits
reject_closed-blind p a (Some w) r fits =
    let named = writer-names p w a.slots.writer r in
    let k = promises-only p (settle_pending w.closed (Err a.slots.stored_error)) a fits (settles-pending p w.closed (Err a.slots.stored_error) a.out.promises (omega (arith, named, fits.none))) in
    record { blind = k.blind; unnamed = k.unnamed; more = k.more }

reject_both-blind : (p : PromiseId) (a : Acts) → Fit p a → Blind p reject_close_and_closed a
unfolding reject_close_and_closed
reject_both-blind p a fits =
    let k = then-blind p (λ b. reject_close b a.slots.close_request) (λ b. reject_closed b b.slots.writer) a (reject_close-blind p a a.slots.close_request refl fits)
    (λ f. let m = reject_closed-blind p _ (reject_close a a.slots.close_request).slots.writer refl f in record { blind = m.blind; unnamed = m.unnamed; more = m.more }) fits in
    record { blind = k.blind; unnamed = k.unnamed; more = k.more }

abort_by-blind : (p : PromiseId) (me : StreamId) (abort : PendingAbort) (a : Acts) (b : Bool) → one p abort.promise ≡ 0 → Fit p a → Blind p (λ c. abort_by me abort c b) a
abort_by-blind p me abort a true n fits =
    let k = then-blind p (λ b. with_promises (settle abort.promise (Err a.slots.stored_error) b.out.promises) b) reject_close_and_closed a (settles law p abort.promise (Err a.slots.stored_error) a n fits) (reject_both-blind p _) fits in
    record { blind = k.blind; unnamed = k.unnamed; more = k.more }
abort_by-blind p me abort a false n fits = causes law p (AbortAlgorithm me abort.reason abort.promise ∷ []) a fits (omega (arith, n))

finish_abort-blind : (p : PromiseId) (me : StreamId) (a : Acts) (o : Option PendingAbort) → o ≡ a.slots.pending_abort → Fit p a → Blind p (λ b. finish_abort me b o) a
finish_abort-blind p me a None r fits = reject_both-blind p a fits
finish_abort-blind p me a (Some abort) r fits =
    let named : in_pending_abort p a.slots.pending_abort ≡ one p abort.promise = ap (in_pending_abort p) (sym r) in
    after-quiet law p (λ s. record s { pending_abort = None }) (λ b. abort_by me abort b abort.was_already_erroring) a fits (omega arith) (abort_by-blind p me abort _ abort.was_already_erroring (omega (arith, named, fits.none)))

fail_writes-blind : (p : PromiseId) (a : Acts) → Fit p a → Blind p fail_writes a
fail_writes-blind p a fits =
    let k = both p (reject_all a.slots.stored_error a.slots.write_requests) (λ s. record s { state = Errored; queue = []; write_requests = [] }) a fits
    (rejects-all p a.slots.stored_error a.slots.write_requests a.out.promises (omega (arith, fits.none))) (omega arith) in
    record { blind = k.blind; unnamed = k.unnamed; more = k.more }

finish_erroring-blind : (p : PromiseId) (me : StreamId) (a : Acts) → Fit p a → Blind p (finish_erroring me) a
unfolding finish_erroring
finish_erroring-blind p me a fits =
    then-blind p fail_writes (λ b. finish_abort me b b.slots.pending_abort) a (fail_writes-blind p a fits)
    (λ f. let m = finish_abort-blind p me (fail_writes a) (fail_writes a).slots.pending_abort refl f in record { blind = m.blind; unnamed = m.unnamed; more = m.more }) fits

reject_ready-blind : (p : PromiseId) (r : Plain) (a : Acts) (o : Option Writer) → o ≡ a.slots.writer → Fit p a → Blind p (λ b. reject_ready r b o) a
reject_ready-blind p r a None e fits = stays p a fits
reject_ready-blind p r a (Some w) e fits =
    let named = writer-names p w a.slots.writer e in
    let n : one p w.ready ≡ 0 = omega (arith, named, fits.none) in
    let next = rejected-apart p w.ready a.out.promises n fits.made in
    renewing p (ensure_rejected w.ready r) (λ q s. record s { writer = Some (record w { ready = q }) }) (rejected_promise w.ready) a fits (ensures p w.ready r a.out.promises n)
    (λ x. rejected-same p w.ready x a.out.promises n) (omega (arith, named, next))

start_erroring-blind : (p : PromiseId) (me : StreamId) (r : Plain) (a : Acts) → Fit p a → Blind p (start_erroring me r) a
unfolding start_erroring
start_erroring-blind p me r a fits =
    let h : Slots → Slots = λ s. record s { state = Erroring; stored_error = r } in
    let first = after-quiet law p h (λ b. reject_ready r b a.slots.writer) a fits (omega arith) (reject_ready-blind p r (record a { slots = h a.slots }) a.slots.writer refl) in
    let k = then-blind p (λ b. reject_ready r (record b { slots = h b.slots }) a.slots.writer) (λ b. if not (is_in_flight b.slots) && b.slots.started then finish_erroring me b else b) a first (ended _) fits in
    record { blind = k.blind; unnamed = k.unnamed; more = k.more }
  where
    ended : (b : Acts) → Fit p b → Blind p (λ b. if not (is_in_flight b.slots) && b.slots.started then finish_erroring me b else b) b
    ended b f =
        let k = by-test p (finish_erroring me) (λ c. c) (not (is_in_flight b.slots) && b.slots.started) b (finish_erroring-blind p me b f) (stays p b f) in
        record { blind = k.blind; unnamed = k.unnamed; more = k.more }

deal-blind : (p : PromiseId) (me : StreamId) (e : Plain) (a : Acts) → Fit p a → Blind p (deal_with_rejection me e) a
unfolding deal_with_rejection
deal-blind p me e a fits =
    let k = by-test p (start_erroring me e) (finish_erroring me) (is_writable a.slots.state) a (start_erroring-blind p me e a fits) (finish_erroring-blind p me a fits) in
    record { blind = k.blind; unnamed = k.unnamed; more = k.more }

error_if_needed-blind : (p : PromiseId) (me : StreamId) (e : Plain) (a : Acts) → Fit p a → Blind p (controller_error_if_needed me e) a
unfolding controller_error_if_needed
error_if_needed-blind p me e a fits =
    let k = by-test p (start_erroring me e) (λ b. b) (is_writable a.slots.state) a (start_erroring-blind p me e a fits) (stays p a fits) in
    record { blind = k.blind; unnamed = k.unnamed; more = k.more }

-- the queue

first-later : (p : PromiseId) (qs : List PromiseId) → in_option p (first_request qs) + in_list p (later_requests qs) ≡ in_list p qs
first-later p [] = refl
first-later p (q ∷ qs) = refl

process_write-blind : (p : PromiseId) (me : StreamId) (a : Acts) → Fit p a → Blind p (process_write me) a
unfolding process_write
process_write-blind p me a fits =
    let split = first-later p a.slots.write_requests in
    after-quiet law p (λ s. record s { write_in_flight = first_request s.write_requests; write_requests = later_requests s.write_requests }) (causing (WriteAlgorithm me)) a fits (omega (arith, split)) (λ f. causes law p (WriteAlgorithm me ∷ []) _ f refl)

process_close-blind : (p : PromiseId) (me : StreamId) (a : Acts) → Fit p a → Blind p (process_close me) a
unfolding process_close
process_close-blind p me a fits =
    after-quiet law p (λ s. record s { close_in_flight = s.close_request; close_request = None; queue = rest_of s.queue }) (causing (CloseAlgorithm me)) a fits (omega arith) (λ f. causes law p (CloseAlgorithm me ∷ []) _ f refl)

process_first-blind : (p : PromiseId) (me : StreamId) (a : Acts) (o : Option WriteRecord) → Fit p a → Blind p (λ b. process_first me b o) a
process_first-blind p me a None fits = stays p a fits
process_first-blind p me a (Some CloseMark) fits = process_close-blind p me a fits
process_first-blind p me a (Some (Chunk v)) fits = process_write-blind p me a fits
process_first-blind p me a (Some InFlight) fits = stays p a fits

advance-blind : (p : PromiseId) (me : StreamId) (a : Acts) → Fit p a → Blind p (advance_queue me) a
unfolding advance_queue
advance-blind p me a fits =
    let m = by-test p (finish_erroring me) (λ b. process_first me b (first_value a.slots.queue)) (is_erroring a.slots.state) a (finish_erroring-blind p me a fits) (process_first-blind p me a (first_value a.slots.queue) fits) in
    let k = by-test p (λ b. if is_erroring a.slots.state then finish_erroring me b else process_first me b (first_value a.slots.queue)) (λ b. b) (a.slots.started && is_none a.slots.write_in_flight) a m (stays p a fits) in
    record { blind = k.blind; unnamed = k.unnamed; more = k.more }

taken_by-none : (p : PromiseId) (me : StreamId) (v : Value) (taker : Taker) → in_taker p taker ≡ 0 → in_effects p (taken_by me v taker ∷ []) ≡ 0
taken_by-none p me v ToHost n = refl
taken_by-none p me v (ToTransform t d) n = omega (arith, n)
taken_by-none p me v (ToPort c d) n = omega (arith, n)

hand_on_first-blind : (p : PromiseId) (me : StreamId) (taker : Taker) (a : Acts) (o : Option WriteRecord) → in_taker p taker ≡ 0 → Fit p a → Blind p (λ b. hand_on_first me taker b o) a
hand_on_first-blind p me taker a None n fits = stays p a fits
hand_on_first-blind p me taker a (Some CloseMark) n fits = stays p a fits
hand_on_first-blind p me taker a (Some InFlight) n fits = stays p a fits
hand_on_first-blind p me taker a (Some (Chunk v)) n fits =
    after-quiet law p (λ s. record s { queue = with_first_value InFlight s.queue }) (causing (taken_by me v taker)) a fits (omega arith) (λ f. causes law p (taken_by me v taker ∷ []) _ f (taken_by-none p me v taker n))

hand_on-blind : (p : PromiseId) (me : StreamId) (taker : Taker) (a : Acts) → in_taker p taker ≡ 0 → Fit p a → Blind p (hand_on me taker) a
unfolding hand_on
hand_on-blind p me taker a n fits = let k = hand_on_first-blind p me taker a (first_value a.slots.queue) n fits in record { blind = k.blind; unnamed = k.unnamed; more = k.more }

-- the reactions to the sink's algorithms

write_ended-blind : (p : PromiseId) (o : Result Plain Plain) (a : Acts) → Fit p a → Blind p (write_ended o) a
write_ended-blind p o a fits =
    let k = both p (λ t. settle_request o t a.slots.write_in_flight) (λ s. record s { write_in_flight = None }) a fits (settles-request p o a.out.promises a.slots.write_in_flight (omega (arith, fits.none))) (omega arith) in
    record { blind = k.blind; unnamed = k.unnamed; more = k.more }

write_settled-blind : (p : PromiseId) (me : StreamId) (o : Result Plain Plain) (a : Acts) → Fit p a → Blind p (write_settled me o) a
unfolding write_settled
write_settled-blind p me (Ok v) a fits =
    then-blind p (write_ended (Ok Undefined)) (λ b. advance_queue me (refresh_backpressure (without_first b))) a (write_ended-blind p (Ok Undefined) a fits)
    (λ f. then-blind p without_first (λ b. advance_queue me (refresh_backpressure b)) (write_ended (Ok Undefined) a) (quiet law p (λ s. record s { queue = rest_of s.queue }) (write_ended (Ok Undefined) a) f (omega arith))
    (λ f. then-blind p refresh_backpressure (advance_queue me) (without_first (write_ended (Ok Undefined) a)) (refresh-blind p (without_first (write_ended (Ok Undefined) a)) f) (advance-blind p me _) f) f) fits
write_settled-blind p me (Err e) a fits =
    then-blind p (write_ended (Err e)) (deal_with_rejection me e) a (write_ended-blind p (Err e) a fits) (deal-blind p me e _) fits

close_ended-blind : (p : PromiseId) (o : Result Plain Plain) (a : Acts) → Fit p a → Blind p (close_ended o) a
close_ended-blind p o a fits =
    let k = both p (λ t. settle_request o t a.slots.close_in_flight) (λ s. record s { close_in_flight = None }) a fits (settles-request p o a.out.promises a.slots.close_in_flight (omega (arith, fits.none))) (omega arith) in
    record { blind = k.blind; unnamed = k.unnamed; more = k.more }

settle_abort-alone : (p : PromiseId) (o : Result Plain Plain) (t : Table) (x : Option PendingAbort) → in_pending_abort p x ≡ 0 → table.Fit p t → Alone p (λ u. settle_abort o u x) t
settle_abort-alone p o t None n fits = stays p t fits
settle_abort-alone p o t (Some abort) n fits = table.settles p abort.promise o t n fits

abort_ended-blind : (p : PromiseId) (o : Result Plain Plain) (a : Acts) → Fit p a → Blind p (abort_ended o) a
abort_ended-blind p o a fits =
    let k = both p (λ t. settle_abort o t a.slots.pending_abort) (λ s. record s { pending_abort = None }) a fits (settle_abort-alone p o a.out.promises a.slots.pending_abort (omega (arith, fits.none))) (omega arith) in
    record { blind = k.blind; unnamed = k.unnamed; more = k.more }

clear_error-blind : (p : PromiseId) (a : Acts) → Fit p a → Blind p clear_error a
clear_error-blind p a fits =
    let h : Slots → Slots = λ s. record s { stored_error = Undefined } in
    let m = after-quiet law p h (abort_ended (Ok Undefined)) a fits (omega arith) (abort_ended-blind p (Ok Undefined) _) in
    let k = by-test p (λ b. abort_ended (Ok Undefined) (record b { slots = h b.slots })) (λ b. b) (is_erroring a.slots.state) a m (stays p a fits) in
    record { blind = k.blind; unnamed = k.unnamed; more = k.more }

fulfil_closed-blind : (p : PromiseId) (a : Acts) (o : Option Writer) → o ≡ a.slots.writer → Fit p a → Blind p (λ b. fulfil_closed b o) a
fulfil_closed-blind p a None r fits = stays p a fits
fulfil_closed-blind p a (Some w) r fits =
    let named = writer-names p w a.slots.writer r in
    settles law p w.closed (Ok Undefined) a (omega (arith, named, fits.none)) fits

finish_close-blind : (p : PromiseId) (a : Acts) → Fit p a → Blind p finish_in_flight_close a
unfolding finish_in_flight_close
finish_close-blind p a fits =
    then-blind p (close_ended (Ok Undefined)) (λ b. closes (clear_error b)) a (close_ended-blind p (Ok Undefined) a fits)
    (λ f. then-blind p clear_error closes (close_ended (Ok Undefined) a) (clear_error-blind p _ f) (closing _) f) fits
  where
    closes : Acts → Acts
    closes b = fulfil_closed (record b { slots = record b.slots { state = Closed } }) b.slots.writer

    closing : (b : Acts) → Fit p b → Blind p closes b
    closing b f =
        let h : Slots → Slots = λ s. record s { state = Closed } in
        let k = after-quiet law p h (λ c. fulfil_closed c b.slots.writer) b f (omega arith) (fulfil_closed-blind p (record b { slots = h b.slots }) b.slots.writer refl) in
        record { blind = k.blind; unnamed = k.unnamed; more = k.more }

finish_close_error-blind : (p : PromiseId) (me : StreamId) (e : Plain) (a : Acts) → Fit p a → Blind p (finish_in_flight_close_with_error me e) a
unfolding finish_in_flight_close_with_error
finish_close_error-blind p me e a fits =
    then-blind p (close_ended (Err e)) (λ b. deal_with_rejection me e (abort_ended (Err e) b)) a (close_ended-blind p (Err e) a fits)
    (λ f. then-blind p (abort_ended (Err e)) (deal_with_rejection me e) (close_ended (Err e) a) (abort_ended-blind p (Err e) _ f) (deal-blind p me e _) f) fits

close_settled-blind : (p : PromiseId) (me : StreamId) (o : Result Plain Plain) (a : Acts) → Fit p a → Blind p (close_settled me o) a
unfolding close_settled
close_settled-blind p me (Ok v) a fits = finish_close-blind p a fits
close_settled-blind p me (Err e) a fits = finish_close_error-blind p me e a fits

start_settled-blind : (p : PromiseId) (me : StreamId) (o : Result Plain Plain) (a : Acts) → Fit p a → Blind p (start_settled me o) a
unfolding start_settled
start_settled-blind p me (Ok v) a fits =
    after-quiet law p (λ s. record s { started = true }) (advance_queue me) a fits (omega arith) (advance-blind p me _)
start_settled-blind p me (Err r) a fits =
    after-quiet law p (λ s. record s { started = true }) (deal_with_rejection me r) a fits (omega arith) (deal-blind p me r _)

abort_settled-blind : (p q : PromiseId) (o : Result Plain Plain) (a : Acts) → one p q ≡ 0 → Fit p a → Blind p (abort_settled q o) a
unfolding abort_settled
abort_settled-blind p q (Ok v) a n fits =
    then-blind p (λ b. with_promises (settle q (Ok Undefined) b.out.promises) b) reject_close_and_closed a (settles law p q (Ok Undefined) a n fits) (reject_both-blind p _) fits
abort_settled-blind p q (Err e) a n fits =
    then-blind p (λ b. with_promises (settle q (Err e) b.out.promises) b) reject_close_and_closed a (settles law p q (Err e) a n fits) (reject_both-blind p _) fits

-- writes, closes and aborts

controller_write-blind : (p : PromiseId) (me : StreamId) (v : Value) (a : Acts) → Fit p a → Blind p (controller_write me v) a
unfolding controller_write
controller_write-blind p me v a fits =
    after-quiet law p (λ s. record s { queue = enqueued (Chunk v) (size_of s.size_by v) s.queue }) (λ b. advance_queue me (refresh_backpressure b)) a fits (omega arith)
    (λ f. then-blind p refresh_backpressure (advance_queue me) (enqueue_chunk v a) (refresh-blind p (enqueue_chunk v a) f) (advance-blind p me _) f)

write_by-blind : (p : PromiseId) (me : StreamId) (v : Value) (q : PromiseId) (a : Acts) (o : Option Plain) → one p q ≡ 0 → Fit p a → Blind p (λ b. write_by me v q b o) a
write_by-blind p me v q a (Some e) n fits = settles law p q (Err e) a n fits
write_by-blind p me v q a None n fits =
    let last = all-append (one p) a.slots.write_requests (q ∷ []) in
    after-quiet law p (λ s. record s { write_requests = s.write_requests ++ q ∷ [] }) (controller_write me v) a fits (omega (arith, last, n)) (controller_write-blind p me v _)

writer_write-blind : (p : PromiseId) (me : StreamId) (v : Value) (q : PromiseId) (a : Acts) → one p q ≡ 0 → Fit p a → Blind p (writer_write me v q) a
unfolding writer_write
writer_write-blind p me v q a n fits = let k = write_by-blind p me v q a (write_refusal a.slots) n fits in record { blind = k.blind; unnamed = k.unnamed; more = k.more }

controller_close-blind : (p : PromiseId) (me : StreamId) (a : Acts) → Fit p a → Blind p (controller_close me) a
unfolding controller_close
controller_close-blind p me a fits =
    after-quiet law p (λ s. record s { queue = enqueued CloseMark 0 s.queue }) (advance_queue me) a fits (omega arith) (advance-blind p me _)

fulfil_ready-blind : (p : PromiseId) (a : Acts) (o : Option Writer) → o ≡ a.slots.writer → Fit p a → Blind p (λ b. fulfil_ready b o) a
fulfil_ready-blind p a None r fits = stays p a fits
fulfil_ready-blind p a (Some w) r fits =
    let named = writer-names p w a.slots.writer r in
    let k = by-test p (λ b. with_promises (settle w.ready (Ok Undefined) b.out.promises) b) (λ b. b) (a.slots.backpressure && is_writable a.slots.state) a (settles law p w.ready (Ok Undefined) a (omega (arith, named, fits.none)) fits) (stays p a fits) in
    record { blind = k.blind; unnamed = k.unnamed; more = k.more }

stream_close-blind : (p : PromiseId) (me : StreamId) (q : PromiseId) (a : Acts) → one p q ≡ 0 → Fit p a → Blind p (stream_close me q) a
unfolding stream_close
stream_close-blind p me q a n fits =
    let h : Slots → Slots = λ s. record s { close_request = Some q } in
    let m = after-quiet law p h (λ b. controller_close me (fulfil_ready b a.slots.writer)) a fits (omega (arith, n))
    (λ f. then-blind p (λ b. fulfil_ready b a.slots.writer) (controller_close me) (record a { slots = h a.slots }) (fulfil_ready-blind p (record a { slots = h a.slots }) a.slots.writer refl f) (controller_close-blind p me _) f) in
    let k = by-test p (λ b. with_promises (settle q (Err type_error) b.out.promises) b) (λ b. controller_close me (fulfil_ready (record b { slots = h b.slots }) a.slots.writer)) (has_ended a.slots.state || is_closing a.slots) a (settles law p q (Err type_error) a n fits) m in
    record { blind = k.blind; unnamed = k.unnamed; more = k.more }

propagating-blind : (p : PromiseId) (me : StreamId) (q : PromiseId) (a : Acts) → one p q ≡ 0 → Fit p a → Blind p (close_with_error_propagation me q) a
unfolding close_with_error_propagation
propagating-blind p me q a n fits =
    let m = by-test p (λ b. with_promises (settle q (Err a.slots.stored_error) b.out.promises) b) (stream_close me q) (is_errored a.slots.state) a (settles law p q (Err a.slots.stored_error) a n fits) (stream_close-blind p me q a n fits) in
    let k = by-test p (λ b. with_promises (settle q (Ok Undefined) b.out.promises) b) (λ b. if is_errored a.slots.state then with_promises (settle q (Err a.slots.stored_error) b.out.promises) b else stream_close me q b) (is_closing a.slots || is_closed a.slots.state) a (settles law p q (Ok Undefined) a n fits) m in
    record { blind = k.blind; unnamed = k.unnamed; more = k.more }

abort_of-names : (p q : PromiseId) (r : Plain) (b : Bool) → one p (abort_of q r b).promise ≡ one p q
abort_of-names p q r true = refl
abort_of-names p q r false = refl

begin_abort-blind : (p : PromiseId) (me : StreamId) (r : Plain) (q : PromiseId) (a : Acts) → one p q ≡ 0 → Fit p a → Blind p (begin_abort me r q) a
begin_abort-blind p me r q a n fits =
    let h : Slots → Slots = λ s. record s { pending_abort = Some (abort_of q r (is_erroring s.state)) } in
    let same = abort_of-names p q r (is_erroring a.slots.state) in
    let add : in_writable p (h a.slots) ≤ in_writable p a.slots = omega (arith, same, n) in
    let k = by-test p (λ b. record b { slots = h b.slots }) (λ b. start_erroring me r (record b { slots = h b.slots })) (is_erroring a.slots.state) a (quiet law p h a fits add) (after-quiet law p h (start_erroring me r) a fits add (start_erroring-blind p me r _)) in
    record { blind = k.blind; unnamed = k.unnamed; more = k.more }

signalled-blind : (p : PromiseId) (me : StreamId) (r : Plain) (a : Acts) (o : Owner) → Fit p a → Blind p (λ b. signalled me r b o) a
signalled-blind p me r a Host fits = promises-only p (tell (SignalEvent me r)) a fits (table.tells p (SignalEvent me r) a.out.promises)
signalled-blind p me r a (HalfOf t) fits = stays p a fits
signalled-blind p me r a (BranchOf t half) fits = stays p a fits
signalled-blind p me r a (EndOf c) fits = stays p a fits

stream_abort-blind : (p : PromiseId) (me : StreamId) (r : Plain) (q : PromiseId) (a : Acts) → one p q ≡ 0 → Fit p a → Blind p (stream_abort me r q) a
unfolding stream_abort
stream_abort-blind p me r q a n fits =
    let m = then-blind p (λ b. signalled me r b a.slots.owner) (begin_abort me r q) a (signalled-blind p me r a a.slots.owner fits) (begin_abort-blind p me r q _ n) fits in
    let k = by-test p (λ b. with_promises (settle q (Ok Undefined) b.out.promises) b) (λ b. begin_abort me r q (signalled me r b a.slots.owner)) (has_ended a.slots.state) a (settles law p q (Ok Undefined) a n fits) m in
    record { blind = k.blind; unnamed = k.unnamed; more = k.more }

abort_if_writable-blind : (p : PromiseId) (me : StreamId) (r : Plain) (q : PromiseId) (a : Acts) → one p q ≡ 0 → Fit p a → Blind p (abort_if_writable me r q) a
unfolding abort_if_writable
abort_if_writable-blind p me r q a n fits =
    let k = by-test p (stream_abort me r q) (λ b. with_promises (settle q (Ok Undefined) b.out.promises) b) (is_writable a.slots.state) a (stream_abort-blind p me r q a n fits) (settles law p q (Ok Undefined) a n fits) in
    record { blind = k.blind; unnamed = k.unnamed; more = k.more }

-- writers

ready-alone : (p q : PromiseId) (s : Slots) (t : Table) (state : WritableState) → one p q ≡ 0 → table.Fit p t → Alone p (λ u. ready_promise q s u state) t
ready-alone p q s t Writable n fits =
    by-test p (λ u. u) (settle q (Ok Undefined)) (not (is_closing s) && s.backpressure) t (stays p t fits) (table.settles p q (Ok Undefined) t n fits)
ready-alone p q s t Erroring n fits = table.settles p q (Err s.stored_error) t n fits
ready-alone p q s t Closed n fits = table.settles p q (Ok Undefined) t n fits
ready-alone p q s t Errored n fits = table.settles p q (Err s.stored_error) t n fits

closed-alone : (p q : PromiseId) (s : Slots) (t : Table) (state : WritableState) → one p q ≡ 0 → table.Fit p t → Alone p (λ u. closed_promise q s u state) t
closed-alone p q s t Writable n fits = stays p t fits
closed-alone p q s t Erroring n fits = stays p t fits
closed-alone p q s t Closed n fits = table.settles p q (Ok Undefined) t n fits
closed-alone p q s t Errored n fits = table.settles p q (Err s.stored_error) t n fits

set_up_writer-blind : (p : PromiseId) (w : Writer) (a : Acts) → one p w.ready + one p w.closed ≡ 0 → Fit p a → Blind p (set_up_writer w) a
unfolding set_up_writer
set_up_writer-blind p w a n fits =
    let first : one p w.ready ≡ 0 = omega (arith, n) in
    let second : one p w.closed ≡ 0 = omega (arith, n) in
    let f : Table → Table = λ t. ready_promise w.ready a.slots t a.slots.state in
    let g : Table → Table = λ t. closed_promise w.closed a.slots t a.slots.state in
    let k = both p (λ t. g (f t)) (λ s. record s { writer = Some w }) a fits
    (λ m. then-blind p f g a.out.promises (ready-alone p w.ready a.slots a.out.promises a.slots.state first m) (closed-alone p w.closed a.slots (f a.out.promises) a.slots.state second) m) (omega (arith, n)) in
    record { blind = k.blind; unnamed = k.unnamed; more = k.more }

release_by-blind : (p : PromiseId) (a : Acts) (o : Option Writer) → o ≡ a.slots.writer → Fit p a → Blind p (λ b. release_by b o) a
release_by-blind p a None r fits = stays p a fits
release_by-blind p a (Some w) r fits =
    let named = writer-names p w a.slots.writer r in
    let first : one p w.ready ≡ 0 = omega (arith, named, fits.none) in
    let second : one p w.closed ≡ 0 = omega (arith, named, fits.none) in
    let f : Table → Table = settle_pending w.ready (Err type_error) in
    let g : Table → Table = settle_pending w.closed (Err type_error) in
    let k = both p (λ t. g (f t)) (λ s. record s { writer = None }) a fits
    (λ m. then-blind p f g a.out.promises (settles-pending p w.ready (Err type_error) a.out.promises first m) (settles-pending p w.closed (Err type_error) (f a.out.promises) second) m) (omega arith) in
    record { blind = k.blind; unnamed = k.unnamed; more = k.more }

release-blind : (p : PromiseId) (a : Acts) → Fit p a → Blind p writer_release a
unfolding writer_release
release-blind p a fits = let k = release_by-blind p a a.slots.writer refl fits in record { blind = k.blind; unnamed = k.unnamed; more = k.more }

-- each operation

operation-blind : (p : PromiseId) (i : StreamId) (operation : WritableOperation) (a : Acts) → in_writable_operation p operation ≡ 0 → Fit p a → Blind p (writable_operation i operation) a
operation-blind p i (SetUpWriter w) a n fits = set_up_writer-blind p w a n fits
operation-blind p i ReleaseWriter a n fits = release-blind p a fits
operation-blind p i (Write v q) a n fits = writer_write-blind p i v q a n fits
operation-blind p i (CloseWritable q) a n fits = stream_close-blind p i q a n fits
operation-blind p i (ClosePropagating q) a n fits = propagating-blind p i q a n fits
operation-blind p i (Abort r q) a n fits = stream_abort-blind p i r q a n fits
operation-blind p i (AbortIfWritable r q) a n fits = abort_if_writable-blind p i r q a n fits
operation-blind p i (ErrorIfNeeded e) a n fits = error_if_needed-blind p i e a fits
operation-blind p i (HandOn taker) a n fits = hand_on-blind p i taker a n fits
operation-blind p i (StartSettled o) a n fits = start_settled-blind p i o a fits
operation-blind p i (WriteSettled o) a n fits = write_settled-blind p i o a fits
operation-blind p i (CloseSettled o) a n fits = close_settled-blind p i o a fits
operation-blind p i (AbortSettled q o) a n fits = abort_settled-blind p q o a n fits

pub writables-blind : EachWritableOperationIsBlind
writables-blind i operation p a made none = operation-blind p i operation a (omega (arith, none)) (record { made = made; none = omega (arith, none) })
