-- How the queue of a half of a transform stream goes together with what was written to it, where no write is fulfilled before its chunk is
-- handed on; and what each operation keeps of that.
use Rattle.std.proofs.Common.{◌≡◌, ℕ, zero, suc, ◌+◌, ◌<◌, Bool, true, false, not, ◌&&◌, ◌||◌, is_some, is_none, if◌then◌else◌, List, [], ◌∷◌, ◌++◌, length, Option, Some, None, Result, Ok, Err, refl, sym, subst, ap, ◌∙◌, arith, append_assoc, append-nil, length-append}
use Rattle.ws_value.specs.declared.ids.{PromiseId.{PromiseId}, StreamId.{StreamId}}
use Rattle.ws_value.specs.declared.value.{Plain.{Plain}, Plain.TheVariants.{Undefined}, Value.{Value}}
use Rattle.ws_steps.specs.declared.{effects.Effect.{Effect}, queue.Queued.{Queued}, transform.Taker.{Taker}, transform.Taker.TheVariants.{ToHost, ToTransform, ToPort}}
use Rattle.ws_steps.specs.declared.writable.{PendingAbort.{PendingAbort}, WritableState.TheVariants.{Writable, Erroring, Errored}, WriteRecord.{WriteRecord}, WriteRecord.TheVariants.{Chunk, InFlight, CloseMark}}
use Rattle.ws_steps.specs.declared.writable.WritableOperation.{WritableOperation}
use Rattle.ws_steps.specs.declared.writable.WritableOperation.TheVariants.{WriteSettled, CloseSettled}
use Rattle.ws_steps.specs.Effects.{type_error}
use Rattle.ws_steps.specs.Promises.{settle}
use Rattle.ws_steps.specs.Queues.{first_value, with_first_value, rest_of, enqueued, size_of}
use Rattle.ws_steps.specs.Writable as writable
use Rattle.ws_steps.specs.Writable.{Slots, Acts, with_promises, is_writable, is_erroring, is_errored, is_closed, is_in_flight, reject_close_and_closed, abort_by, finish_abort, fail_writes, finish_erroring, reject_ready, start_erroring, deal_with_rejection, controller_error_if_needed, process_write, process_close, process_first, advance_queue, hand_on_first, hand_on, has_ended, refresh_backpressure, write_ended, without_first, write_settled, close_ended, abort_ended, finish_in_flight_close, finish_in_flight_close_with_error, close_settled, start_settled, abort_settled, is_closing, enqueue_chunk, controller_write, add_write_request, write_refusal, write_by, writer_write, controller_close, add_close_request, fulfil_ready, stream_close, close_with_error_propagation, add_pending_abort, begin_abort, signalled, stream_abort, abort_if_writable, set_up_writer, writer_release}
use Rattle.ws_steps.specs.WritableHistory.{Writes, no_writes, writes_then, todo, chunk_of, first_chunk, written_unless}
use Rattle.ws_laws.proofs.Tables.{either, is_same-refl}
use Rattle.ws_laws.proofs.Truth.{and_left, and_right, refuted, nor_left, nor_right}
use Rattle.ws_writable_laws.proofs.Operations.{not_refused}
use Rattle.ws_writable_laws.proofs.Shape.{core_of, Shape, Closing, one_if, leads, is_flying, is_mark, has_mark, marks_last, closes, all, todo-append, last-append}
use Rattle.ws_transform_laws.proofs.Need.{Core, core, Same, refresh-same, fulfil_ready-same, signalled-same, unrequested-same, reject_ready-same, writable_is, not_ended_writable}

abbrev none_flies : List (Queued WriteRecord) → Bool
none_flies [] = true
none_flies (q ∷ qs) = not (is_flying q.value) && none_flies qs

-- none but the first entry was handed on
abbrev pub flies_first : List (Queued WriteRecord) → Bool
flies_first [] = true
flies_first (q ∷ qs) = none_flies qs

-- what was written was acted on, is queued, or was dropped, in this order; a write is acted on and not fulfilled where its place stands first
pub record Ordered (h : Writes) (dropped : List Value) (c : Core) : Type 0 where
  pub all : h.written ≡ h.acted ++ (todo c.queue ++ dropped)
  pub live : has_ended c.state ≡ false → dropped ≡ []
  pub counted : has_ended c.state ≡ false → length h.acted ≡ h.fulfilled + one_if (leads c.queue)
  pub first : flies_first c.queue ≡ true
  pub last : marks_last c.queue ≡ true
  pub ended : has_ended c.state ≡ true → c.queue ≡ []
  pub whole : 0 < h.closes → (h.acted ≡ h.written) × (h.fulfilled ≡ length h.written)
  pub closed : is_closed c.state ≡ true → 0 < h.closes

-- with the closings that are caused
abbrev pub with_closes : StreamId → Writes → List Effect → Writes
with_closes i h es = record h { closes = h.closes + all (closes i) es }

pub record Orders (i : StreamId) (h : Writes) (b : Acts) : Type 0 where
  pub dropped : List Value
  pub ordered : Ordered (with_closes i h b.out.effects) dropped (core b.slots)

-- nothing is caused yet
pub record Calm (h : Writes) (dropped : List Value) (a : Acts) : Type 0 where
  pub quiet : a.out.effects ≡ []
  pub ordered : Ordered h dropped (core a.slots)

pub closes-none : (i : StreamId) (h : Writes) → with_closes i h [] ≡ h
closes-none i h = grind arith

pub calm_orders : (i : StreamId) (h : Writes) (d : List Value) (a : Acts) → Calm h d a → Orders i h a
calm_orders i h d a c = record { dropped = d; ordered = rw (c.quiet, closes-none i h) c.ordered }

pub same_calm : (h : Writes) (d : List Value) (a b : Acts) → Same a b → Calm h d a → Calm h d b
same_calm h d a b s c = record { quiet = s.effects ∙ c.quiet; ordered = subst (Ordered h d) (sym s.core) c.ordered }

-- a stream that fails

abbrev failed : Core → Core
failed c = record c { state = Errored; queue = [] }

-- all is well once it is errored
abbrev Failing : Writes → List Value → Core → Type 0
Failing h d c = Ordered h d (failed c)

fails-ordered : (h : Writes) (d : List Value) (c : Core) → Ordered h d c → Failing h (todo c.queue ++ d) c
fails-ordered h d c o = record { all = o.all; live = λ e. cc; counted = λ e. cc; first = refl; last = refl; ended = λ e. refl; whole = o.whole; closed = λ e. cc }

abort_by-orders : (i : StreamId) (abort : PendingAbort) (h : Writes) (d : List Value) (a : Acts) (was : Bool) → Calm h d a → Orders i h (abort_by i abort a was)
abort_by-orders i abort h d a true c =
    let b : Acts = with_promises (settle abort.promise (Err a.slots.stored_error) a.out.promises) a in
    calm_orders i h d (reject_close_and_closed b) (same_calm h d b (reject_close_and_closed b) (unrequested-same b) (record { quiet = c.quiet; ordered = c.ordered }))
abort_by-orders i abort h d a false c = record { dropped = d; ordered = rw c.quiet (rw (closes-none i h) c.ordered) }

finish_abort-orders : (i : StreamId) (h : Writes) (d : List Value) (a : Acts) (abort : Option PendingAbort) → Calm h d a → Orders i h (finish_abort i a abort)
finish_abort-orders i h d a None c = calm_orders i h d (reject_close_and_closed a) (same_calm h d a (reject_close_and_closed a) (unrequested-same a) c)
finish_abort-orders i h d a (Some abort) c =
    abort_by-orders i abort h d (record a { slots = record a.slots { pending_abort = None } }) abort.was_already_erroring (record { quiet = c.quiet; ordered = c.ordered })

finish_erroring-orders : (i : StreamId) (h : Writes) (d : List Value) (a : Acts) → Calm h d a → Orders i h (finish_erroring i a)
unfolding finish_erroring
finish_erroring-orders i h d a c =
    let b : Acts = fail_writes a in
    finish_abort-orders i h (todo a.slots.queue ++ d) b b.slots.pending_abort (record { quiet = c.quiet; ordered = fails-ordered h d (core a.slots) c.ordered })

erroring_calm : (h : Writes) (d : List Value) (r : Plain) (a : Acts) → a.slots.state ≡ Writable → Calm h d a → Calm h d (record a { slots = record a.slots { state = Erroring; stored_error = r } })
erroring_calm h d r a e c =
    let o = c.ordered in
    record {
      quiet = c.quiet;
      ordered = record { all = o.all; live = λ f. o.live (rw e refl); counted = λ f. o.counted (rw e refl); first = o.first; last = o.last; ended = λ f. cc; whole = o.whole; closed = λ f. cc };
    }

start_erroring-orders : (i : StreamId) (h : Writes) (d : List Value) (r : Plain) (a : Acts) → a.slots.state ≡ Writable → Calm h d a → Orders i h (start_erroring i r a)
unfolding start_erroring
start_erroring-orders i h d r a e c =
    let z : Acts = record a { slots = record a.slots { state = Erroring; stored_error = r } } in
    let b : Acts = reject_ready r z a.slots.writer in
    let calm : Calm h d b = same_calm h d z b (reject_ready-same r z a.slots.writer) (erroring_calm h d r a e c) in
    either (Orders i h) (not (is_in_flight b.slots) && b.slots.started) (finish_erroring i b) b (λ f. finish_erroring-orders i h d b calm) (λ f. calm_orders i h d b calm)

pub deal-orders : (i : StreamId) (h : Writes) (d : List Value) (r : Plain) (a : Acts) → Calm h d a → Orders i h (deal_with_rejection i r a)
unfolding deal_with_rejection
deal-orders i h d r a c =
    either (Orders i h) (is_writable a.slots.state) (start_erroring i r a) (finish_erroring i a)
    (λ e. start_erroring-orders i h d r a (writable_is a.slots.state e) c) (λ e. finish_erroring-orders i h d a c)

pub error_if_needed-orders : (i : StreamId) (h : Writes) (d : List Value) (r : Plain) (a : Acts) → Calm h d a → Orders i h (controller_error_if_needed i r a)
unfolding controller_error_if_needed
error_if_needed-orders i h d r a c =
    either (Orders i h) (is_writable a.slots.state) (start_erroring i r a) a
    (λ e. start_erroring-orders i h d r a (writable_is a.slots.state e) c) (λ e. calm_orders i h d a c)

-- the queue advances

-- the close mark stands alone: all that was written was acted on, and each write fulfilled
close-ordered : (h : Writes) (d : List Value) (c : Core) → first_value c.queue ≡ Some CloseMark → Ordered h d c → Ordered (record h { closes = h.closes + 1 }) d (record c { queue = rest_of c.queue })
close-ordered h d c e o = grind (arith, append-nil, e, o)

process_first-orders : (i : StreamId) (h : Writes) (d : List Value) (a : Acts) (first : Option WriteRecord) → first_value a.slots.queue ≡ first → Calm h d a → Orders i h (process_first i a first)
unfolding process_write process_close
process_first-orders i h d a (Some (Chunk v)) e c = record { dropped = d; ordered = rw c.quiet (rw (closes-none i h) (record { all = c.ordered.all; live = c.ordered.live; counted = c.ordered.counted; first = c.ordered.first; last = c.ordered.last; ended = c.ordered.ended; whole = c.ordered.whole; closed = c.ordered.closed })) }
process_first-orders i h d a (Some CloseMark) e c = record { dropped = d; ordered = rw (c.quiet, is_same-refl i) (close-ordered h d (core a.slots) e c.ordered) }
process_first-orders i h d a (Some InFlight) e c = calm_orders i h d a c
process_first-orders i h d a None e c = calm_orders i h d a c

pub advance-orders : (i : StreamId) (h : Writes) (d : List Value) (a : Acts) → Calm h d a → Orders i h (advance_queue i a)
unfolding advance_queue
advance-orders i h d a c =
    let processed : Acts = process_first i a (first_value a.slots.queue) in
    either (Orders i h) (a.slots.started && is_none a.slots.write_in_flight) (if is_erroring a.slots.state then finish_erroring i a else processed) a
    (λ ready. either (Orders i h) (is_erroring a.slots.state) (finish_erroring i a) processed (λ e. finish_erroring-orders i h d a c) (λ e. process_first-orders i h d a (first_value a.slots.queue) refl c))
    (λ e. calm_orders i h d a c)

-- one more entry

none-append : (xs : List (Queued WriteRecord)) (q : Queued WriteRecord) → is_flying q.value ≡ false → none_flies xs ≡ true → none_flies (xs ++ q ∷ []) ≡ true
none-append [] q n e = rw n refl
none-append (x ∷ xs) q n e = let k = none-append xs q n (and_right (not (is_flying x.value)) (none_flies xs) e) in let l = and_left (not (is_flying x.value)) (none_flies xs) e in rw (k, l) refl

first-append : (xs : List (Queued WriteRecord)) (q : Queued WriteRecord) → is_flying q.value ≡ false → flies_first xs ≡ true → flies_first (xs ++ q ∷ []) ≡ true
first-append [] q n e = refl
first-append (x ∷ xs) q n e = none-append xs q n e

leads-append : (xs : List (Queued WriteRecord)) (q : Queued WriteRecord) → is_flying q.value ≡ false → leads (xs ++ q ∷ []) ≡ leads xs
leads-append [] q n = n
leads-append (x ∷ xs) q n = refl

appended-ordered : (h : Writes) (d : List Value) (c : Core) (q : Queued WriteRecord) (v : Value) → q.value ≡ Chunk v → has_ended c.state ≡ false → has_mark c.queue ≡ false → h.closes ≡ 0 → Ordered h d c
    → Ordered (record h { written = h.written ++ v ∷ [] }) d (record c { queue = c.queue ++ q ∷ [] })
appended-ordered h d c q v is alive none z o =
    let n : is_flying q.value ≡ false = rw is refl in
    let a = todo-append c.queue (q ∷ []) in
    let b = leads-append c.queue q n in
    let f = first-append c.queue q n o.first in
    let l = last-append c.queue q none in
    let m = o.live alive in
    let e = o.all in
    let k = o.counted alive in
    let s = o.closed in
    record {
      all = grind (arith, append_assoc, append-nil, a, m, e, is);
      live = λ g. m;
      counted = λ g. rw b k;
      first = f;
      last = l;
      ended = λ g. grind (arith, alive, g);
      whole = λ g. absurd (omega arith);
      closed = λ g. grind (arith, alive, g);
    }

marked-ordered : (h : Writes) (d : List Value) (c : Core) (q : Queued WriteRecord) → q.value ≡ CloseMark → has_ended c.state ≡ false → has_mark c.queue ≡ false → Ordered h d c → Ordered h d (record c { queue = c.queue ++ q ∷ [] })
marked-ordered h d c q is alive none o =
    let n : is_flying q.value ≡ false = rw is refl in
    let a = todo-append c.queue (q ∷ []) in
    let b = leads-append c.queue q n in
    let e = o.all in
    record {
      all = grind (arith, append_assoc, append-nil, a, e, is);
      live = o.live;
      counted = λ g. rw b (o.counted g);
      first = first-append c.queue q n o.first;
      last = last-append c.queue q none;
      ended = λ g. grind (arith, alive, g);
      whole = o.whole;
      closed = o.closed;
    }

-- what is known where an operation of the half is performed
pub record Knows (operation : WritableOperation) (h : Writes) (w : Slots) : Type 0 where
  pub shape : Shape h.closes (core_of w)
  pub closing : Closing h.closes (core_of w)
  -- a write that settles is in flight, and one that is fulfilled was handed on; and so for a close
  pub flying : (o : Result Plain Plain) → operation ≡ WriteSettled o → is_some w.write_in_flight ≡ true
  pub led : (v : Plain) → operation ≡ WriteSettled (Ok v) → has_ended w.state ≡ false → leads w.queue ≡ true
  pub ending : (o : Result Plain Plain) → operation ≡ CloseSettled o → is_some w.close_in_flight ≡ true

-- a stream that isn't closing, and hasn't ended, has no close mark, and performed no close algorithm

unmarked : (h : Writes) (w : Slots) → Shape h.closes (core_of w) → has_ended w.state ≡ false → is_closing w ≡ false → has_mark w.queue ≡ false
unmarked h w s alive n = let r = nor_left (is_some w.close_request) (is_some w.close_in_flight) n in refuted (has_mark w.queue) (is_some w.close_request) (s.marked alive) r

unclosed : (h : Writes) (w : Slots) → Closing h.closes (core_of w) → has_ended w.state ≡ false → is_closing w ≡ false → h.closes ≡ 0
unclosed h w c alive n = let o = nor_right (is_some w.close_request) (is_some w.close_in_flight) n in by h.closes refl
  where
    by : (k : ℕ) → k ≡ h.closes → h.closes ≡ 0
    by zero e = sym e
    by (suc k) e = let yes = c (omega arith) alive in let no = nor_right (is_some w.close_request) (is_some w.close_in_flight) n in absurd (cc)

pub write_by-orders : (i : StreamId) (v : Value) (p : PromiseId) (h : Writes) (d : List Value) (a : Acts) (refusal : Option Plain) → refusal ≡ write_refusal a.slots → Shape h.closes (core_of a.slots) → Closing h.closes (core_of a.slots) → Calm h d a
    → Orders i (record h { written = h.written ++ written_unless v refusal }) (write_by i v p a refusal)
unfolding controller_write
write_by-orders i v p h d a (Some e) r s c k = rw (append-nil h.written) (calm_orders i h d (with_promises (settle p (Err e) a.out.promises) a) (record { quiet = k.quiet; ordered = k.ordered }))
write_by-orders i v p h d a None r s c k =
    let u = not_refused a.slots r in
    let alive : has_ended a.slots.state ≡ false = rw u.0 refl in
    let b : Acts = enqueue_chunk v (add_write_request p a) in
    let z : Writes = record h { written = h.written ++ v ∷ [] } in
    let o = appended-ordered h d (core a.slots) (record { value = Chunk v; size = size_of a.slots.size_by v }) v refl alive (unmarked h a.slots s alive u.1) (unclosed h a.slots c alive u.1) k.ordered in
    advance-orders i z d (refresh_backpressure b) (same_calm z d b (refresh_backpressure b) (refresh-same b) (record { quiet = k.quiet; ordered = o }))

pub close-orders : (i : StreamId) (p : PromiseId) (h : Writes) (d : List Value) (a : Acts) → Shape h.closes (core_of a.slots) → Calm h d a → Orders i h (stream_close i p a)
unfolding stream_close controller_close
close-orders i p h d a s k =
    let b : Acts = add_close_request p a in
    let c : Acts = fulfil_ready b b.slots.writer in
    let z : Acts = record c { slots = record c.slots { queue = enqueued CloseMark 0 c.slots.queue } } in
    let same = fulfil_ready-same b b.slots.writer in
    either (Orders i h) (has_ended a.slots.state || is_closing a.slots) (with_promises (settle p (Err type_error) a.out.promises) a) (advance_queue i z)
    (λ e. calm_orders i h d (with_promises (settle p (Err type_error) a.out.promises) a) (record { quiet = k.quiet; ordered = k.ordered }))
    (λ e.
    let alive = nor_left (has_ended a.slots.state) (is_closing a.slots) e in
    let none = unmarked h a.slots s alive (nor_right (has_ended a.slots.state) (is_closing a.slots) e) in
    let o = marked-ordered h d (core a.slots) (record { value = CloseMark; size = 0 }) refl alive none k.ordered in
    advance-orders i h d z (record { quiet = same.effects ∙ k.quiet; ordered = subst (λ (x : Core). Ordered h d (record x { queue = enqueued CloseMark 0 x.queue })) (sym same.core) o }))

pub propagating-orders : (i : StreamId) (p : PromiseId) (h : Writes) (d : List Value) (a : Acts) → Shape h.closes (core_of a.slots) → Calm h d a → Orders i h (close_with_error_propagation i p a)
unfolding close_with_error_propagation
propagating-orders i p h d a s k =
    either (Orders i h) (is_closing a.slots || is_closed a.slots.state) _ _ (λ e. calm_orders i h d (with_promises (settle p (Ok Undefined) a.out.promises) a) (record { quiet = k.quiet; ordered = k.ordered }))
    (λ e. either (Orders i h) (is_errored a.slots.state) _ _ (λ f. calm_orders i h d (with_promises (settle p (Err a.slots.stored_error) a.out.promises) a) (record { quiet = k.quiet; ordered = k.ordered })) (λ f. close-orders i p h d a s k))

begin_abort-orders : (i : StreamId) (r : Plain) (p : PromiseId) (h : Writes) (d : List Value) (a : Acts) → has_ended a.slots.state ≡ false → Calm h d a → Orders i h (begin_abort i r p a)
begin_abort-orders i r p h d a alive k =
    let b : Acts = add_pending_abort r p a in
    let c : Calm h d b = record { quiet = k.quiet; ordered = k.ordered } in
    either (Orders i h) (is_erroring a.slots.state) b (start_erroring i r b) (λ e. calm_orders i h d b c) (λ e. start_erroring-orders i h d r b (not_ended_writable a.slots.state alive e) c)

pub abort-orders : (i : StreamId) (r : Plain) (p : PromiseId) (h : Writes) (d : List Value) (a : Acts) → Calm h d a → Orders i h (stream_abort i r p a)
unfolding stream_abort
abort-orders i r p h d a k =
    let b : Acts = signalled i r a a.slots.owner in
    let same = signalled-same i r a a.slots.owner in
    either (Orders i h) (has_ended a.slots.state) (with_promises (settle p (Ok Undefined) a.out.promises) a) (begin_abort i r p b)
    (λ e. calm_orders i h d (with_promises (settle p (Ok Undefined) a.out.promises) a) (record { quiet = k.quiet; ordered = k.ordered }))
    (λ e. begin_abort-orders i r p h d b (ap (λ (c : Core). has_ended c.state) same.core ∙ e) (same_calm h d a b same k))

pub abort_writable-orders : (i : StreamId) (r : Plain) (p : PromiseId) (h : Writes) (d : List Value) (a : Acts) → Calm h d a → Orders i h (abort_if_writable i r p a)
unfolding abort_if_writable
abort_writable-orders i r p h d a k =
    either (Orders i h) (is_writable a.slots.state) _ _ (λ e. abort-orders i r p h d a k) (λ e. calm_orders i h d (with_promises (settle p (Ok Undefined) a.out.promises) a) (record { quiet = k.quiet; ordered = k.ordered }))

-- the first entry is taken where its write is fulfilled

alone-leads : (qs : List (Queued WriteRecord)) → none_flies qs ≡ true → leads qs ≡ false
alone-leads qs n = grind (arith, n)

alone-first : (qs : List (Queued WriteRecord)) → none_flies qs ≡ true → flies_first qs ≡ true
alone-first [] n = refl
alone-first (q ∷ qs) n = and_right (not (is_flying q.value)) (none_flies qs) n

last-rest : (q : Queued WriteRecord) (qs : List (Queued WriteRecord)) → is_mark q.value ≡ false → marks_last (q ∷ qs) ≡ true → marks_last qs ≡ true
last-rest q qs n e = rw n at e

flies-not : (r : WriteRecord) → is_flying r ≡ true → (is_mark r ≡ false) × (r ≡ InFlight)
flies-not (Chunk v) e = cc
flies-not InFlight e = (refl, refl)
flies-not CloseMark e = cc

pub taken-ordered : (h : Writes) (d : List Value) (c : Core) (queue : List (Queued WriteRecord)) → queue ≡ c.queue → (has_ended c.state ≡ false → leads queue ≡ true) → h.closes ≡ 0 → Ordered h d c
    → Ordered (record h { fulfilled = h.fulfilled + 1 }) d (record c { queue = rest_of queue })
taken-ordered h d c [] is led none o =
    let e : h.written ≡ h.acted ++ ([] ++ d) = rw (← is) at o.all in
    record {
      all = e;
      live = o.live;
      counted = λ alive. let no = led alive in absurd (cc);
      first = refl;
      last = refl;
      ended = λ g. refl;
      whole = λ g. absurd (omega arith);
      closed = o.closed;
    }
taken-ordered h d c (q ∷ qs) is led none o =
    let alive : has_ended c.state ≡ false = by (has_ended c.state) refl in
    let f = flies-not q.value (led alive) in
    let first : none_flies qs ≡ true = rw (← is) at o.first in
    let last : marks_last (q ∷ qs) ≡ true = rw (← is) at o.last in
    let all : h.written ≡ h.acted ++ (todo (q ∷ qs) ++ d) = rw (← is) at o.all in
    let counted : length h.acted ≡ h.fulfilled + one_if (leads (q ∷ qs)) = rw (← is) at (o.counted alive) in
    record {
      all = rw f.1 at all;
      live = o.live;
      counted = λ g. let a : length h.acted ≡ h.fulfilled + 1 = rw (led alive) at counted in rw (alone-leads qs first) (omega arith);
      first = alone-first qs first;
      last = last-rest q qs f.0 last;
      ended = λ g. absurd (cc);
      whole = λ g. absurd (omega arith);
      closed = o.closed;
    }
  where
    by : (b : Bool) → b ≡ has_ended c.state → has_ended c.state ≡ false
    by false e = sym e
    by true e = let no : (q ∷ qs) ≡ [] = is ∙ o.ended (sym e) in cc

-- a chunk that stands first is handed on

handed-ordered : (h : Writes) (d : List Value) (c : Core) (queue : List (Queued WriteRecord)) (v : Value) → queue ≡ c.queue → first_value queue ≡ Some (Chunk v) → h.closes ≡ 0 → Ordered h d c
    → Ordered (record h { acted = h.acted ++ v ∷ [] }) d (record c { queue = with_first_value InFlight queue })
handed-ordered h d c [] v is e none o = cc
handed-ordered h d c (q ∷ qs) v is e none o =
    let at : q.value ≡ Chunk v = cc in
    let all : h.written ≡ h.acted ++ (todo (q ∷ qs) ++ d) = rw (← is) at o.all in
    let all_v : h.written ≡ h.acted ++ (((v ∷ []) ++ todo qs) ++ d) = rw at at all in
    let first : none_flies qs ≡ true = rw (← is) at o.first in
    let last : marks_last (q ∷ qs) ≡ true = rw (← is) at o.last in
    record {
      all = all_v ∙ sym (append_assoc h.acted (v ∷ []) (todo qs ++ d));
      live = o.live;
      counted = λ alive.
          let counted : length h.acted ≡ h.fulfilled + one_if (leads (q ∷ qs)) = rw (← is) at (o.counted alive) in
          let k : length h.acted ≡ h.fulfilled + 0 = rw at at counted in
          let l = length-append h.acted (v ∷ []) in omega arith;
      first = first;
      last = rw at at last;
      ended = λ g. let no : (q ∷ qs) ≡ [] = is ∙ o.ended g in cc;
      whole = λ g. absurd (omega arith);
      closed = o.closed;
    }

-- where the close algorithm was performed, nothing is queued
unspent : (h : Writes) (w : Slots) (r : WriteRecord) → Shape h.closes (core_of w) → first_value w.queue ≡ Some r → h.closes ≡ 0
unspent h w r s e = by h.closes refl
  where
    by : (k : ℕ) → k ≡ h.closes → h.closes ≡ 0
    by zero e = sym e
    by (suc k) f = let none : w.queue ≡ [] = s.spent (omega arith) in let no : first_value w.queue ≡ None = ap first_value none in absurd (cc)

pub acted-told : (h : Writes) (vs : List Value) → writes_then h (record no_writes { acted = vs }) ≡ record h { acted = h.acted ++ vs }
acted-told h vs = grind (arith, append-nil)

pub first-told : (q : List (Queued WriteRecord)) (r : WriteRecord) (vs : List Value) → first_value q ≡ Some r → chunk_of r ≡ vs → first_chunk q ≡ vs
first-told [] r vs e f = cc
first-told (q ∷ qs) r vs e f = let at : q.value ≡ r = cc in rw at f

pub first-none : (q : List (Queued WriteRecord)) → first_value q ≡ None → first_chunk q ≡ []
first-none [] e = refl
first-none (q ∷ qs) e = cc

taken-closes : (i : StreamId) (me : StreamId) (v : Value) (taker : Taker) → all (closes i) (writable.taken_by me v taker ∷ []) ≡ 0
taken-closes i me v ToHost = refl
taken-closes i me v (ToTransform t d) = refl
taken-closes i me v (ToPort c d) = refl

pub hand_on-by : (i : StreamId) (taker : Taker) (h : Writes) (d : List Value) (a : Acts) (first : Option WriteRecord) → first_value a.slots.queue ≡ first → Shape h.closes (core_of a.slots) → Calm h d a
    → Orders i (record h { acted = h.acted ++ first_chunk a.slots.queue }) (hand_on_first i taker a first)
hand_on-by i taker h d a None e s k = rw (first-none a.slots.queue e, append-nil h.acted) (calm_orders i h d a k)
hand_on-by i taker h d a (Some CloseMark) e s k = rw (first-told a.slots.queue CloseMark [] e refl, append-nil h.acted) (calm_orders i h d a k)
hand_on-by i taker h d a (Some InFlight) e s k = rw (first-told a.slots.queue InFlight [] e refl, append-nil h.acted) (calm_orders i h d a k)
hand_on-by i taker h d a (Some (Chunk v)) e s k =
    let o = handed-ordered h d (core a.slots) a.slots.queue v refl e (unspent h a.slots (Chunk v) s e) k.ordered in
    let told = first-told a.slots.queue (Chunk v) (v ∷ []) e refl in
    rw told (record { dropped = d; ordered = rw (k.quiet, taken-closes i i v taker) (rw (closes-none i (record h { acted = h.acted ++ v ∷ [] })) o) })
