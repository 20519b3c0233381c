-- The promises of the writes of a stream that haven't ended, in line: what each operation does to them.
use Rattle.std.proofs.Common.{◌≡◌, Bool, true, false, not, ◌&&◌, ◌||◌, is_some, is_none, if◌then◌else◌, List, [], ◌∷◌, ◌++◌, Option, Some, None, Result, Ok, Err, refl, sym, ap, subst, ◌∙◌, append_assoc, arith}
use Rattle.ws_value.specs.declared.ids.PromiseId.{PromiseId}
use Rattle.ws_value.specs.declared.ids.StreamId.{StreamId}
use Rattle.ws_value.specs.declared.value.Outcome.TheVariants.{Fulfilled}
use Rattle.ws_value.specs.declared.value.Plain.{Plain}
use Rattle.ws_value.specs.declared.value.Plain.TheVariants.{Undefined}
use Rattle.ws_value.specs.declared.value.Value.{Value}
use Rattle.ws_steps.specs.declared.{queue.Queued.{Queued}, writable.PendingAbort.{PendingAbort}, writable.WritableOperation.{WritableOperation}}
use Rattle.ws_steps.specs.declared.writable.WritableOperation.TheVariants as names
use Rattle.ws_steps.specs.declared.{writable.WritableState.{WritableState}, writable.WritableState.TheVariants.{Writable, Erroring, Errored, Closed}, writable.WriteRecord.{WriteRecord}, writable.WriteRecord.TheVariants.{CloseMark}}
use Rattle.ws_steps.specs.declared.transform.Taker.{Taker}
use Rattle.ws_steps.specs.Effects.{Out, type_error}
use Rattle.ws_steps.specs.Promises.{Table, outcome_at, settle}
use Rattle.ws_steps.specs.Operations.{writable_operation}
use Rattle.ws_steps.specs.Queues.{first_value, enqueued}
use Rattle.ws_steps.specs.Writable.{Acts, with_promises, is_writable, is_erroring, is_in_flight, has_ended, reject_close_and_closed, finish_abort, fail_writes, finish_erroring, reject_ready, start_erroring, deal_with_rejection, controller_error_if_needed, first_request, later_requests, process_write, process_close, process_first, advance_queue, hand_on_first, hand_on, settle_request, write_ended, without_first, refresh_backpressure, write_settled, close_ended, abort_ended, clear_error, finish_in_flight_close, finish_in_flight_close_with_error, close_settled, start_settled, abort_settled, enqueue_chunk, controller_write, add_write_request, write_refusal, write_by, writer_write, controller_close, add_close_request, fulfil_ready, stream_close, close_with_error_propagation, add_pending_abort, begin_abort, signalled, stream_abort, abort_if_writable, is_closing, is_closed, is_errored, set_up_writer, writer_release}
use Rattle.ws_laws.proofs.Outcomes.{Keeps, keeps-same, keeps-then, keeps-fresh, keeps-settle, keeps-tell}
use Rattle.ws_laws.proofs.Tables.{either}
use Rattle.ws_laws.proofs.Truth.{false_true, and_right, nor_left}
use Rattle.ws_laws.proofs.WritableDoes.{OfAlgorithms, finish_abort-does, refresh-does, advance-does, rejection-does}
use Rattle.ws_writable_laws.proofs.Shape.{Core, core_of}
use Rattle.ws_writable_laws.proofs.Operations.{Same, Alone, reject_ready-same, is_writable-true, none_some, refresh-same, clear_error-same, fulfil_closed-same, not_refused, fulfil_ready-same, signalled-same, release-same}
use Rattle.ws_laws.proofs.Straight.{straight_before, settled_straight}
use Rattle.ws_write_laws.proofs.Rejecting.{EachRejected, none_rejected, one_more, each-keeps, all_rejected, rejected_straight}

abbrev pub flight : Option PromiseId → List PromiseId
flight None = []
flight (Some p) = p ∷ []

-- the promises of the writes of a stream that haven't ended, in the order of the writes
abbrev pub line : Core → List PromiseId
line c = flight c.flying ++ c.requests

-- before an operation goes on: the stream had ended or not, and these promises stand in line
pub record Ready (had : Bool) (ps : List PromiseId) (c : Core) : Type 0 where
  pub same : has_ended c.state ≡ had
  pub line : had ≡ false → line c ≡ ps
  pub spent : had ≡ true → is_some c.flying ≡ false

-- after it: while the stream lives these promises stand in line, and where it ends now, and nothing went astray, they are rejected
pub record Lines (had : Bool) (ps : List PromiseId) (b : Acts) : Type 0 where
  pub alive : has_ended b.slots.state ≡ false → line (core_of b.slots) ≡ ps
  pub spent : has_ended b.slots.state ≡ true → is_some b.slots.write_in_flight ≡ false
  pub failed : had ≡ false → has_ended b.slots.state ≡ true → b.out.promises.astray ≡ false → EachRejected b.out.promises ps

rests : (had : Bool) (ps : List PromiseId) (b : Acts) → Ready had ps (core_of b.slots) → Lines had ps b
rests had ps b r = grind arith

ready-same : (had : Bool) (ps : List PromiseId) (a b : Acts) → Same a b → Ready had ps (core_of a.slots) → Ready had ps (core_of b.slots)
ready-same had ps a b s r = rw s.core r

-- promises keep their outcomes in what an operation does last
of_keeps : (i : StreamId) (t : Table) → OfAlgorithms (λ (x : Out). Keeps t x.promises) i
of_keeps i t = record {
  settle = λ x p o k. keeps-then t x.promises _ k (keeps-settle p o x.promises);
  fresh = λ x k. keeps-then t x.promises _ k (keeps-fresh x.promises);
  tell = λ x r k. keeps-then t x.promises _ k (keeps-tell _ x.promises);
  write = λ x k. k;
  close = λ x k. k;
  abort = λ x r p k. k;
}

-- rejections after the end

finish_abort-ready : (i : StreamId) (had : Bool) (ps : List PromiseId) (a : Acts) (abort : Option PendingAbort) → Ready had ps (core_of a.slots) → Ready had ps (core_of (finish_abort i a abort).slots)
unfolding reject_close_and_closed
finish_abort-ready i had ps a abort r = grind arith

reject_both-ready : (had : Bool) (ps : List PromiseId) (a : Acts) → Ready had ps (core_of a.slots) → Ready had ps (core_of (reject_close_and_closed a).slots)
unfolding reject_close_and_closed
reject_both-ready had ps a r = grind arith

-- the stream is errored, and nothing is in flight

idle_line : (o : Option PromiseId) (rs : List PromiseId) → is_some o ≡ false → flight o ++ rs ≡ rs
idle_line None rs e = refl
idle_line (Some p) rs e = cc

finish_erroring-lines : (i : StreamId) (had : Bool) (ps : List PromiseId) (a : Acts) → is_some a.slots.write_in_flight ≡ false → Ready had ps (core_of a.slots) → Lines had ps (finish_erroring i a)
unfolding finish_erroring
finish_erroring-lines i had ps a idle r =
    let b : Acts = fail_writes a in
    let z : Acts = finish_abort i b b.slots.pending_abort in
    let over = finish_abort-ready i true [] b b.slots.pending_abort (record { same = refl; line = λ e. cc; spent = λ e. idle }) in
    let keeps : Keeps b.out.promises z.out.promises = finish_abort-does (λ (x : Out). Keeps b.out.promises x.promises) i (of_keeps i b.out.promises) b b.slots.pending_abort (keeps-same b.out.promises) in
    record {
      alive = λ e. false_true (has_ended z.slots.state) over.same e;
      spent = λ e. over.spent refl;
      failed = λ e f g.
          subst (λ (qs : List PromiseId). EachRejected z.out.promises qs) (sym (idle_line a.slots.write_in_flight a.slots.write_requests idle) ∙ r.line e)
          (each-keeps b.out.promises z.out.promises a.slots.write_requests keeps (all_rejected a.slots.stored_error a.slots.write_requests a.out.promises (straight_before b.out.promises z.out.promises keeps g)));
    }

finish-ends : (i : StreamId) (a : Acts) → is_some a.slots.write_in_flight ≡ false → has_ended (finish_erroring i a).slots.state ≡ true
unfolding finish_erroring
finish-ends i a idle = (finish_abort-ready i true [] (fail_writes a) a.slots.pending_abort (record { same = refl; line = λ e. cc; spent = λ e. idle })).same

-- the stream starts to be erroring

none_written : (w c s : Bool) → not (w || c) && s ≡ true → w ≡ false
none_written true c s e = cc
none_written false c s e = refl

start_erroring-lines : (i : StreamId) (ps : List PromiseId) (r : Plain) (a : Acts) → Ready false ps (core_of a.slots) → Lines false ps (start_erroring i r a)
unfolding start_erroring
start_erroring-lines i ps r a f =
    let c : Acts = record a { slots = record a.slots { state = Erroring; stored_error = r } } in
    let b : Acts = reject_ready r c a.slots.writer in
    let ready : Ready false ps (core_of b.slots) = ready-same false ps c b (reject_ready-same r c a.slots.writer) (record { same = refl; line = f.line; spent = λ e. cc }) in
    either (Lines false ps) (not (is_in_flight b.slots) && b.slots.started) (finish_erroring i b) b
    (λ e. finish_erroring-lines i false ps b (none_written (is_some b.slots.write_in_flight) (is_some b.slots.close_in_flight) b.slots.started e) ready)
    (λ e. rests false ps b ready)

-- a stream that is writable hasn't ended
writable_ready : (had : Bool) (ps : List PromiseId) (c : Core) → c.state ≡ Writable → Ready had ps c → Ready false ps c
writable_ready had ps c w r =
    let alive : had ≡ false = sym r.same ∙ ap has_ended w in
    record { same = ap has_ended w; line = λ e. r.line alive; spent = λ e. cc }

from_alive : (had : Bool) (ps : List PromiseId) (b : Acts) → had ≡ false → Lines false ps b → Lines had ps b
from_alive had ps b e l = rw e l

deal-lines : (i : StreamId) (had : Bool) (ps : List PromiseId) (e : Plain) (a : Acts) → is_some a.slots.write_in_flight ≡ false → Ready had ps (core_of a.slots) → Lines had ps (deal_with_rejection i e a)
unfolding deal_with_rejection
deal-lines i had ps e a idle r = grind (arith, start_erroring-lines, finish_erroring-lines)

if_needed-lines : (i : StreamId) (had : Bool) (ps : List PromiseId) (e : Plain) (a : Acts) → Ready had ps (core_of a.slots) → Lines had ps (controller_error_if_needed i e a)
unfolding controller_error_if_needed
if_needed-lines i had ps e a r =
    either (Lines had ps) (is_writable a.slots.state) (start_erroring i e a) a
    (λ w. let s = is_writable-true a.slots.state w in from_alive had ps (start_erroring i e a) (sym r.same ∙ ap has_ended s) (start_erroring-lines i ps e a (writable_ready had ps (core_of a.slots) s r)))
    (λ w. rests had ps a r)

-- one that fails with nothing in flight ends at once
alone-ends : (i : StreamId) (e : Plain) (a : Acts) → Alone (core_of a.slots) → has_ended (deal_with_rejection i e a).slots.state ≡ true
unfolding deal_with_rejection start_erroring
alone-ends i e a l =
    let core = (reject_ready-same e (record a { slots = record a.slots { state = Erroring; stored_error = e } }) a.slots.writer).core in
    grind (arith, finish-ends)

-- the queue advances

first_flies : (o : Option PromiseId) (rs : List PromiseId) → is_some o ≡ false → flight (first_request rs) ++ later_requests rs ≡ flight o ++ rs
first_flies None [] e = refl
first_flies None (p ∷ ps) e = refl
first_flies (Some o) ps e = cc

process_entry-lines : (i : StreamId) (had : Bool) (ps : List PromiseId) (a : Acts) (x : WriteRecord) → is_some a.slots.write_in_flight ≡ false → had ≡ false → Ready had ps (core_of a.slots) → Lines had ps (process_first i a (Some x))
unfolding process_write process_close
process_entry-lines i had ps a x idle alive r = grind (arith, rests, first_flies)

queued_alive : (had : Bool) (q : Queued WriteRecord) (qs : List (Queued WriteRecord)) → (had ≡ true → q ∷ qs ≡ []) → had ≡ false
queued_alive true q qs f = let n = f refl in cc
queued_alive false q qs f = refl

process_first-lines : (i : StreamId) (had : Bool) (ps : List PromiseId) (a : Acts) (queue : List (Queued WriteRecord)) → is_some a.slots.write_in_flight ≡ false → (had ≡ true → queue ≡ []) → Ready had ps (core_of a.slots)
    → Lines had ps (process_first i a (first_value queue))
process_first-lines i had ps a [] idle done r = rests had ps a r
process_first-lines i had ps a (q ∷ qs) idle done r = process_entry-lines i had ps a q.value idle (queued_alive had q qs done) r

advance-lines : (i : StreamId) (had : Bool) (ps : List PromiseId) (a : Acts) → (had ≡ true → a.slots.queue ≡ []) → Ready had ps (core_of a.slots) → Lines had ps (advance_queue i a)
unfolding advance_queue
advance-lines i had ps a done r =
    let processed : Acts = process_first i a (first_value a.slots.queue) in
    either (Lines had ps) (a.slots.started && is_none a.slots.write_in_flight) (if is_erroring a.slots.state then finish_erroring i a else processed) a
    (λ ready.
    let idle : is_some a.slots.write_in_flight ≡ false = none_some a.slots.write_in_flight (and_right a.slots.started (is_none a.slots.write_in_flight) ready) in
    either (Lines had ps) (is_erroring a.slots.state) (finish_erroring i a) processed
    (λ e. finish_erroring-lines i had ps a idle r) (λ e. process_first-lines i had ps a a.slots.queue idle done r))
    (λ ready. rests had ps a r)

-- the write in flight ends

ended_line : (i : StreamId) (p : PromiseId) (o : Result Plain Plain) (a : Acts) → a.slots.write_in_flight ≡ Some p → (write_ended o a).out.promises ≡ settle p o a.out.promises
ended_line i p o a e = ap (settle_request o a.out.promises) e

-- what is left in line
after_flight : (ps : List PromiseId) (p : PromiseId) (o : Option PromiseId) (rs : List PromiseId) → o ≡ Some p → flight o ++ rs ≡ p ∷ ps → rs ≡ ps
after_flight ps p o rs e f = let n : p ∷ rs ≡ p ∷ ps = ap (λ (x : Option PromiseId). flight x ++ rs) (sym e) ∙ f in cc

without_flight : (ps : List PromiseId) (p : PromiseId) (a : Acts) → a.slots.write_in_flight ≡ Some p → Ready false (p ∷ ps) (core_of a.slots) → (queue : List (Queued WriteRecord)) → Ready false ps (record (core_of a.slots) { flying = None; writing = false; queue = queue })
without_flight ps p a e r queue = record { same = r.same; line = λ f. after_flight ps p a.slots.write_in_flight a.slots.write_requests e (r.line f); spent = λ f. refl }

pub write_fulfilled-lines : (i : StreamId) (ps : List PromiseId) (p : PromiseId) (v : Plain) (a : Acts) → a.slots.write_in_flight ≡ Some p → Ready false (p ∷ ps) (core_of a.slots) → Lines false ps (write_settled i (Ok v) a)
unfolding write_settled
write_fulfilled-lines i ps p v a e r =
    let b : Acts = without_first (write_ended (Ok Undefined) a) in
    advance-lines i false ps (refresh_backpressure b) (λ f. cc) (ready-same false ps b (refresh_backpressure b) (refresh-same b) (without_flight ps p a e r b.slots.queue))

pub write_fulfils : (i : StreamId) (p : PromiseId) (v : Plain) (a : Acts) → a.slots.write_in_flight ≡ Some p → (write_settled i (Ok v) a).out.promises.astray ≡ false → outcome_at (write_settled i (Ok v) a).out.promises p ≡ Some (Fulfilled Undefined)
unfolding write_settled
write_fulfils i p v a e straight =
    let b : Acts = without_first (write_ended (Ok Undefined) a) in
    let t : Table = settle p (Ok Undefined) a.out.promises in
    let z : Table = (advance_queue i (refresh_backpressure b)).out.promises in
    let c : Acts = refresh_backpressure b in
    let first : Keeps t b.out.promises = subst (λ (u : Table). Keeps t u) (sym (ended_line i p (Ok Undefined) a e)) (keeps-same t) in
    let k : Keeps t z = advance-does (λ (x : Out). Keeps t x.promises) i (of_keeps i t) c (refresh-does (λ (x : Out). Keeps t x.promises) i (of_keeps i t) b first) in
    k.outcome p (Fulfilled Undefined) refl (settled_straight p (Ok Undefined) a.out.promises (straight_before t z k straight))

pub write_failed-lines : (i : StreamId) (ps : List PromiseId) (p : PromiseId) (r : Plain) (a : Acts) → a.slots.write_in_flight ≡ Some p → Alone (record (core_of a.slots) { flying = None; writing = false }) → Ready false (p ∷ ps) (core_of a.slots)
    → Lines false (p ∷ ps) (write_settled i (Err r) a)
unfolding write_settled
write_failed-lines i ps p r a e l f =
    let b : Acts = write_ended (Err r) a in
    let z : Acts = deal_with_rejection i r b in
    let t : Table = settle p (Err r) a.out.promises in
    let first : Keeps t b.out.promises = subst (λ (u : Table). Keeps t u) (sym (ended_line i p (Err r) a e)) (keeps-same t) in
    let k : Keeps t z.out.promises = rejection-does (λ (x : Out). Keeps t x.promises) i (of_keeps i t) r b first in
    let rest = deal-lines i false ps r b refl (without_flight ps p a e f b.slots.queue) in
    let over : has_ended z.slots.state ≡ true = alone-ends i r b l in
    record {
      alive = λ g. false_true (has_ended z.slots.state) over g;
      spent = rest.spent;
      failed = λ g h straight. one_more z.out.promises p ps (rejected_straight p r a.out.promises z.out.promises k straight) (rest.failed g h straight);
    }

-- the close in flight ends

closed-core : (a : Acts) → core_of (finish_in_flight_close a).slots ≡ record (core_of a.slots) { state = Closed; closing = false }
unfolding finish_in_flight_close
closed-core a =
    let b : Acts = close_ended (Ok Undefined) a in
    let c : Acts = clear_error b in
    (fulfil_closed-same (record c { slots = record c.slots { state = Closed } }) c.slots.writer).core ∙ ap (λ (x : Core). record x { state = Closed }) (clear_error-same b).core

-- all writes have ended by then
pub closed-lines : (i : StreamId) (had : Bool) (ps : List PromiseId) (v : Plain) (a : Acts) → is_some a.slots.write_in_flight ≡ false → ps ≡ [] → Lines had ps (close_settled i (Ok v) a)
unfolding close_settled
closed-lines i had ps v a idle none = let core = closed-core a in let n = none_rejected (finish_in_flight_close a).out.promises in grind arith

pub close_failed-lines : (i : StreamId) (had : Bool) (ps : List PromiseId) (e : Plain) (a : Acts) → is_some a.slots.write_in_flight ≡ false → Ready had ps (core_of a.slots) → Lines had ps (close_settled i (Err e) a)
unfolding close_settled finish_in_flight_close_with_error
close_failed-lines i had ps e a idle r = deal-lines i had ps e (abort_ended (Err e) (close_ended (Err e) a)) idle (record { same = r.same; line = r.line; spent = r.spent })

pub start-lines : (i : StreamId) (had : Bool) (ps : List PromiseId) (o : Result Plain Plain) (a : Acts) → is_some a.slots.write_in_flight ≡ false → (had ≡ true → a.slots.queue ≡ []) → Ready had ps (core_of a.slots) → Lines had ps (start_settled i o a)
unfolding start_settled
start-lines i had ps (Ok v) a idle done r = advance-lines i had ps (record a { slots = record a.slots { started = true } }) done (record { same = r.same; line = r.line; spent = r.spent })
start-lines i had ps (Err e) a idle done r = deal-lines i had ps e (record a { slots = record a.slots { started = true } }) idle (record { same = r.same; line = r.line; spent = r.spent })

abort_settled-lines : (i : StreamId) (had : Bool) (ps : List PromiseId) (p : PromiseId) (o : Result Plain Plain) (a : Acts) → Ready had ps (core_of a.slots) → Lines had ps (abort_settled p o a)
unfolding abort_settled
abort_settled-lines i had ps p (Ok v) a r = rests had ps _ (reject_both-ready had ps (with_promises (settle p (Ok Undefined) a.out.promises) a) r)
abort_settled-lines i had ps p (Err e) a r = rests had ps _ (reject_both-ready had ps (with_promises (settle p (Err e) a.out.promises) a) r)

-- writes, closes, aborts

-- one more stands in line, where the write isn't refused
abbrev pub joined : List PromiseId → PromiseId → Option Plain → List PromiseId
joined ps p (Some e) = ps
joined ps p None = ps ++ p ∷ []

write_by-lines : (i : StreamId) (had : Bool) (ps : List PromiseId) (v : Value) (p : PromiseId) (a : Acts) (refusal : Option Plain) → refusal ≡ write_refusal a.slots → Ready had ps (core_of a.slots) → Lines had (joined ps p refusal) (write_by i v p a refusal)
unfolding controller_write
write_by-lines i had ps v p a (Some e) f r = rests had ps (with_promises (settle p (Err e) a.out.promises) a) r
write_by-lines i had ps v p a None f r =
    let n = not_refused a.slots f in
    let same = refresh-same (enqueue_chunk v (add_write_request p a)) in
    grind (arith, advance-lines, append_assoc)

pub write-lines : (i : StreamId) (had : Bool) (ps : List PromiseId) (v : Value) (p : PromiseId) (a : Acts) → Ready had ps (core_of a.slots) → Lines had (joined ps p (write_refusal a.slots)) (writer_write i v p a)
unfolding writer_write
write-lines i had ps v p a r = write_by-lines i had ps v p a (write_refusal a.slots) refl r

close-lines : (i : StreamId) (had : Bool) (ps : List PromiseId) (p : PromiseId) (a : Acts) → Ready had ps (core_of a.slots) → Lines had ps (stream_close i p a)
unfolding stream_close controller_close
close-lines i had ps p a r =
    let b : Acts = add_close_request p a in
    let c : Acts = fulfil_ready b b.slots.writer in
    let z : Acts = record c { slots = record c.slots { queue = enqueued CloseMark 0 c.slots.queue } } in
    let refused : Acts = with_promises (settle p (Err type_error) a.out.promises) a in
    either (Lines had ps) (has_ended a.slots.state || is_closing a.slots) refused (advance_queue i z)
    (λ e. rests had ps refused r)
    (λ e.
    let alive : had ≡ false = sym r.same ∙ nor_left (has_ended a.slots.state) (is_closing a.slots) e in
    let ready : Ready had ps (core_of c.slots) = ready-same had ps b c (fulfil_ready-same b b.slots.writer) (record { same = r.same; line = r.line; spent = r.spent }) in
    advance-lines i had ps z (λ h. false_true had h alive) (record { same = ready.same; line = ready.line; spent = ready.spent }))

propagating-lines : (i : StreamId) (had : Bool) (ps : List PromiseId) (p : PromiseId) (a : Acts) → Ready had ps (core_of a.slots) → Lines had ps (close_with_error_propagation i p a)
unfolding close_with_error_propagation
propagating-lines i had ps p a r =
    let closed : Acts = with_promises (settle p (Ok Undefined) a.out.promises) a in
    let errored : Acts = with_promises (settle p (Err a.slots.stored_error) a.out.promises) a in
    either (Lines had ps) (is_closing a.slots || is_closed a.slots.state) closed (if is_errored a.slots.state then errored else stream_close i p a)
    (λ e. rests had ps closed r)
    (λ e. either (Lines had ps) (is_errored a.slots.state) errored (stream_close i p a) (λ h. rests had ps errored r) (λ h. close-lines i had ps p a r))

alive_writable : (s : WritableState) → has_ended s ≡ false → is_erroring s ≡ false → s ≡ Writable
alive_writable Writable e f = refl
alive_writable Erroring e f = cc
alive_writable Errored e f = cc
alive_writable Closed e f = cc

abort-lines : (i : StreamId) (had : Bool) (ps : List PromiseId) (r : Plain) (p : PromiseId) (a : Acts) → Ready had ps (core_of a.slots) → Lines had ps (stream_abort i r p a)
unfolding stream_abort
abort-lines i had ps r p a f =
    let b : Acts = signalled i r a a.slots.owner in
    let same = signalled-same i r a a.slots.owner in
    let c : Acts = add_pending_abort r p b in
    let ready : Ready had ps (core_of c.slots) = ready-same had ps a b same f in
    either (Lines had ps) (has_ended a.slots.state) (with_promises (settle p (Ok Undefined) a.out.promises) a) (begin_abort i r p b)
    (λ e. rests had ps (with_promises (settle p (Ok Undefined) a.out.promises) a) f)
    (λ alive. either (Lines had ps) (is_erroring b.slots.state) c (start_erroring i r c)
    (λ e. rests had ps c ready)
    (λ e. let s = alive_writable b.slots.state (ap (λ (x : Core). has_ended x.state) same.core ∙ alive) e in
    from_alive had ps (start_erroring i r c) (sym f.same ∙ alive) (start_erroring-lines i ps r c (writable_ready had ps (core_of c.slots) s ready))))

abort_if_writable-lines : (i : StreamId) (had : Bool) (ps : List PromiseId) (r : Plain) (p : PromiseId) (a : Acts) → Ready had ps (core_of a.slots) → Lines had ps (abort_if_writable i r p a)
unfolding abort_if_writable
abort_if_writable-lines i had ps r p a f =
    let idle : Acts = with_promises (settle p (Ok Undefined) a.out.promises) a in
    either (Lines had ps) (is_writable a.slots.state) (stream_abort i r p a) idle (λ e. abort-lines i had ps r p a f) (λ e. rests had ps idle f)

-- the handing on of a chunk

hand_on-lines : (had : Bool) (ps : List PromiseId) (i : StreamId) (taker : Taker) (a : Acts) (first : Option WriteRecord) → Ready had ps (core_of a.slots) → Lines had ps (hand_on_first i taker a first)
hand_on-lines had ps i taker a first r = grind (arith, rests)

-- operations that neither append a write nor end one alone, but for the reactions to the start and the close
abbrev pub IsPlain : WritableOperation → Type 0
IsPlain (names.Write v p) = ⊥
IsPlain (names.StartSettled o) = ⊥
IsPlain (names.WriteSettled o) = ⊥
IsPlain (names.CloseSettled o) = ⊥
IsPlain _ = Unit {0}

pub plain-lines : (i : StreamId) (operation : WritableOperation) (had : Bool) (ps : List PromiseId) (a : Acts) → IsPlain operation → Ready had ps (core_of a.slots) → Lines had ps (writable_operation i operation a)
unfolding set_up_writer writer_release hand_on
plain-lines i (names.SetUpWriter w) had ps a u r = rests had ps (set_up_writer w a) (record { same = r.same; line = r.line; spent = r.spent })
plain-lines i names.ReleaseWriter had ps a u r = rests had ps (writer_release a) (ready-same had ps a (writer_release a) (release-same a a.slots.writer) r)
plain-lines i (names.Close p) had ps a u r = close-lines i had ps p a r
plain-lines i (names.ClosePropagating p) had ps a u r = propagating-lines i had ps p a r
plain-lines i (names.Abort e p) had ps a u r = abort-lines i had ps e p a r
plain-lines i (names.AbortIfWritable e p) had ps a u r = abort_if_writable-lines i had ps e p a r
plain-lines i (names.ErrorIfNeeded e) had ps a u r = if_needed-lines i had ps e a r
plain-lines i (names.HandOn taker) had ps a u r = hand_on-lines had ps i taker a (first_value a.slots.queue) r
plain-lines i (names.AbortSettled p o) had ps a u r = abort_settled-lines i had ps p o a r
plain-lines i _ had ps a u r = absurd u
