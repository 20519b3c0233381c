-- Of a writable stream: only a close is requested where none was, and only a close that ended well closes it. A stream that is closed has
-- started, and no close is requested of it.
use Rattle.std.proofs.Common.{◌≡◌, Bool, true, false, not, ◌&&◌, ◌||◌, is_some, is_none, Option, Some, None, Ok, Err, refl, arith}
use Rattle.ws_value.specs.declared.ids.PromiseId.{PromiseId}
use Rattle.ws_value.specs.declared.ids.StreamId.{StreamId}
use Rattle.ws_value.specs.declared.value.Plain.{Plain}
use Rattle.ws_value.specs.declared.value.Plain.TheVariants.{Undefined}
use Rattle.ws_value.specs.declared.value.Value.{Value}
use Rattle.ws_steps.specs.declared.effects.Owner.{Owner}
use Rattle.ws_steps.specs.declared.effects.Owner.TheVariants.{Host, HalfOf, BranchOf, EndOf}
use Rattle.ws_steps.specs.declared.writable.PendingAbort.{PendingAbort}
use Rattle.ws_steps.specs.declared.writable.WritableOperation.{WritableOperation}
use Rattle.ws_steps.specs.declared.writable.WritableOperation.TheVariants as names
use Rattle.ws_steps.specs.declared.writable.WritableState.TheVariants.{Erroring}
use Rattle.ws_steps.specs.declared.writable.WriteRecord.{WriteRecord}
use Rattle.ws_steps.specs.declared.writable.WriteRecord.TheVariants.{CloseMark}
use Rattle.ws_steps.specs.declared.writable.Writer.{Writer}
use Rattle.ws_steps.specs.Operations.{writable_operation}
use Rattle.ws_steps.specs.Promises.{settle}
use Rattle.ws_steps.specs.Queues.{enqueued, first_value}
use Rattle.ws_steps.specs.Writable.{Slots, Acts, with_promises, is_writable, is_erroring, is_closed, is_closing, is_in_flight, has_ended, update_backpressure, refresh_backpressure, reject_close_and_closed, abort_by, finish_abort, fail_writes, finish_erroring, reject_ready, start_erroring, deal_with_rejection, controller_error_if_needed, process_write, process_close, process_first, advance_queue, hand_on, write_ended, without_first, write_settled, close_ended, abort_ended, finish_in_flight_close, finish_in_flight_close_with_error, close_settled, start_settled, abort_settled, enqueue_chunk, controller_write, add_write_request, write_refusal, write_by, writer_write, controller_close, add_close_request, fulfil_ready, stream_close, close_with_error_propagation, add_pending_abort, begin_abort, signalled, stream_abort, abort_if_writable, set_up_writer, writer_release}
use Rattle.ws_laws.proofs.Tables.{either}
use Rattle.ws_laws.proofs.Truth.{nor_left}

-- what an operation keeps that neither asks for a close nor ends one well
pub record Still (x y : Slots) : Type 0 where
  pub closed : is_closed y.state ≡ true → is_closed x.state ≡ true
  pub started : x.started ≡ true → y.started ≡ true
  pub requested : is_some x.close_request ≡ false → is_some y.close_request ≡ false
  pub closing : is_closing x ≡ false → is_closing y ≡ false

still_same : (x : Slots) → Still x x
still_same x = record { closed = λ e. e; started = λ e. e; requested = λ e. e; closing = λ e. e }

still_then : (x y z : Slots) → Still x y → Still y z → Still x z
still_then x y z a b = record {
  closed = λ e. a.closed (b.closed e);
  started = λ e. b.started (a.started e);
  requested = λ e. b.requested (a.requested e);
  closing = λ e. b.closing (a.closing e);
}

module _ (me : StreamId) where
  abbrev Stills : Acts → Acts → Type 0
  Stills a b = Still a.slots b.slots

  both-still : (a : Acts) → Stills a (reject_close_and_closed a)
  unfolding reject_close_and_closed
  both-still a = grind arith

  abort_by-still : (abort : PendingAbort) (a : Acts) (was : Bool) → Stills a (abort_by me abort a was)
  abort_by-still abort a true = both-still (with_promises (settle abort.promise (Err a.slots.stored_error) a.out.promises) a)
  abort_by-still abort a false = still_same a.slots

  finish_abort-still : (a : Acts) (abort : Option PendingAbort) → Stills a (finish_abort me a abort)
  finish_abort-still a None = both-still a
  finish_abort-still a (Some abort) =
      let b : Acts = record a { slots = record a.slots { pending_abort = None } } in
      let s : Stills a b = grind arith in
      still_then a.slots b.slots (abort_by me abort b abort.was_already_erroring).slots s (abort_by-still abort b abort.was_already_erroring)

  finish-still : (a : Acts) → Stills a (finish_erroring me a)
  unfolding finish_erroring
  finish-still a =
      let b : Acts = fail_writes a in
      let s : Stills a b = grind arith in
      still_then a.slots b.slots (finish_abort me b b.slots.pending_abort).slots s (finish_abort-still b b.slots.pending_abort)

  ready-still : (r : Plain) (a : Acts) (w : Option Writer) → Stills a (reject_ready r a w)
  ready-still r a w = grind arith

  start-still : (r : Plain) (a : Acts) → Stills a (start_erroring me r a)
  unfolding start_erroring
  start-still r a =
      let z : Acts = record a { slots = record a.slots { state = Erroring; stored_error = r } } in
      let y : Acts = reject_ready r z a.slots.writer in
      let s = ready-still r z a.slots.writer in
      let t : Stills a y = grind (arith, s) in
      either (Stills a) (not (is_in_flight y.slots) && y.slots.started) (finish_erroring me y) y (λ e. still_then a.slots y.slots (finish_erroring me y).slots t (finish-still y)) (λ e. t)

  deal-still : (e : Plain) (a : Acts) → Stills a (deal_with_rejection me e a)
  unfolding deal_with_rejection
  deal-still e a = either (Stills a) (is_writable a.slots.state) _ _ (λ w. start-still e a) (λ w. finish-still a)

  if_needed-still : (e : Plain) (a : Acts) → Stills a (controller_error_if_needed me e a)
  unfolding controller_error_if_needed
  if_needed-still e a = either (Stills a) (is_writable a.slots.state) _ _ (λ w. start-still e a) (λ w. still_same a.slots)

  first-still : (a : Acts) (first : Option WriteRecord) → Stills a (process_first me a first)
  unfolding process_write process_close
  first-still a first = grind arith

  advance-still : (a : Acts) → Stills a (advance_queue me a)
  unfolding advance_queue
  advance-still a =
      either (Stills a) (a.slots.started && is_none a.slots.write_in_flight) _ _
      (λ e. either (Stills a) (is_erroring a.slots.state) _ _ (λ f. finish-still a) (λ f. first-still a (first_value a.slots.queue))) (λ e. still_same a.slots)

  refresh-still : (a : Acts) → Stills a (refresh_backpressure a)
  unfolding refresh_backpressure update_backpressure
  refresh-still a = grind arith

  then-still : (a b : Acts) → Stills a b → Stills a (advance_queue me (refresh_backpressure b))
  then-still a b s =
      let c : Acts = refresh_backpressure b in
      still_then a.slots c.slots (advance_queue me c).slots (still_then a.slots b.slots c.slots s (refresh-still b)) (advance-still c)

  write_by-still : (v : Value) (p : PromiseId) (a : Acts) (refusal : Option Plain) → Stills a (write_by me v p a refusal)
  unfolding controller_write
  write_by-still v p a (Some e) = still_same a.slots
  write_by-still v p a None = then-still a (enqueue_chunk v (add_write_request p a)) (grind arith)

  abort-still : (r : Plain) (p : PromiseId) (a : Acts) → Stills a (stream_abort me r p a)
  unfolding stream_abort
  abort-still r p a =
      let y : Acts = signalled me r a a.slots.owner in
      let z : Acts = add_pending_abort r p y in
      let s : Stills a z = told a.slots.owner in
      either (Stills a) (has_ended a.slots.state) _ (begin_abort me r p y) (λ e. still_same a.slots)
      (λ e. either (Stills a) (is_erroring y.slots.state) z (start_erroring me r z) (λ f. s) (λ f. still_then a.slots z.slots (start_erroring me r z).slots s (start-still r z)))
    where
      told : (owner : Owner) → Stills a (add_pending_abort r p (signalled me r a owner))
      told Host = grind arith
      told (HalfOf t) = grind arith
      told (BranchOf t half) = grind arith
      told (EndOf c) = grind arith

  failed-still : (e : Plain) (a : Acts) → Stills a (close_settled me (Err e) a)
  unfolding close_settled finish_in_flight_close_with_error
  failed-still e a =
      let b : Acts = abort_ended (Err e) (close_ended (Err e) a) in
      let s : Stills a b = grind arith in
      still_then a.slots b.slots (deal_with_rejection me e b).slots s (deal-still e b)

  -- an operation that asks for a close, and one that ends a close well
  abbrev pub IsClosing : WritableOperation → Type 0
  IsClosing (names.Close p) = Unit {0}
  IsClosing (names.ClosePropagating p) = Unit {0}
  IsClosing (names.CloseSettled (Ok v)) = Unit {0}
  IsClosing _ = ⊥

  pub operation-still : (operation : WritableOperation) (a : Acts) → (IsClosing operation → ⊥) → Stills a (writable_operation me operation a)
  unfolding set_up_writer writer_release writer_write start_settled write_settled abort_settled hand_on abort_if_writable
  operation-still (names.SetUpWriter w) a n = grind arith
  operation-still names.ReleaseWriter a n = grind arith
  operation-still (names.Write v p) a n = write_by-still v p a (write_refusal a.slots)
  operation-still (names.Close p) a n = absurd (n tt)
  operation-still (names.ClosePropagating p) a n = absurd (n tt)
  operation-still (names.Abort r p) a n = abort-still r p a
  operation-still (names.AbortIfWritable r p) a n = either (Stills a) (is_writable a.slots.state) _ _ (λ e. abort-still r p a) (λ e. still_same a.slots)
  operation-still (names.ErrorIfNeeded e) a n = if_needed-still e a
  operation-still (names.HandOn taker) a n = grind arith
  operation-still (names.StartSettled (Ok v)) a n =
      let b : Acts = record a { slots = record a.slots { started = true } } in let s : Stills a b = grind arith in still_then a.slots b.slots (advance_queue me b).slots s (advance-still b)
  operation-still (names.StartSettled (Err e)) a n =
      let b : Acts = record a { slots = record a.slots { started = true } } in let s : Stills a b = grind arith in still_then a.slots b.slots (deal_with_rejection me e b).slots s (deal-still e b)
  operation-still (names.WriteSettled (Ok v)) a n = then-still a (without_first (write_ended (Ok Undefined) a)) (grind arith)
  operation-still (names.WriteSettled (Err e)) a n =
      let b : Acts = write_ended (Err e) a in let s : Stills a b = grind arith in still_then a.slots b.slots (deal_with_rejection me e b).slots s (deal-still e b)
  operation-still (names.CloseSettled (Ok v)) a n = absurd (n tt)
  operation-still (names.CloseSettled (Err e)) a n = failed-still e a
  operation-still (names.AbortSettled p (Ok v)) a n = both-still (with_promises (settle p (Ok Undefined) a.out.promises) a)
  operation-still (names.AbortSettled p (Err e)) a n = both-still (with_promises (settle p (Err e) a.out.promises) a)

  -- a stream that is closed has started, and no close is requested of it

  pub record Rested (x : Slots) : Type 0 where
    pub requested : is_closed x.state ≡ true → is_some x.close_request ≡ false
    pub started : is_closed x.state ≡ true → x.started ≡ true

  still-rested : (x y : Slots) → Still x y → Rested x → Rested y
  still-rested x y s r = record {
    requested = λ e. s.requested (r.requested (s.closed e));
    started = λ e. s.started (r.started (s.closed e));
  }

  close-rested : (p : PromiseId) (a : Acts) → Rested a.slots → Rested (stream_close me p a).slots
  unfolding stream_close controller_close
  close-rested p a r =
      let b : Acts = add_close_request p a in
      let c : Acts = fulfil_ready b b.slots.writer in
      let d : Acts = record c { slots = record c.slots { queue = enqueued CloseMark 0 c.slots.queue } } in
      either (λ (z : Acts). Rested z.slots) (has_ended a.slots.state || is_closing a.slots) _ (advance_queue me d) (λ e. r)
      (λ e.
      let live : has_ended a.slots.state ≡ false = nor_left (has_ended a.slots.state) (is_closing a.slots) e in
      let open_ : is_closed d.slots.state ≡ false = grind (arith, live) in
      let s = advance-still d in
      record { requested = λ f. absurd (both (is_closed d.slots.state) (s.closed f) open_); started = λ f. absurd (both (is_closed d.slots.state) (s.closed f) open_) })
    where
      both : (b : Bool) → b ≡ true → b ≡ false → ⊥
      both b e f = cc

  propagating-rested : (p : PromiseId) (a : Acts) → Rested a.slots → Rested (close_with_error_propagation me p a).slots
  unfolding close_with_error_propagation
  propagating-rested p a r = grind (arith, close-rested, r)

  -- a close ends only where it was in flight, so that the stream has started and no other is requested
  abbrev pub Flies : WritableOperation → Slots → Type 0
  Flies (names.CloseSettled o) x = (x.started ≡ true) × ((is_some x.close_request ≡ false) × (is_some x.close_in_flight ≡ true))
  Flies _ x = Unit {0}

  ended-rested : (v : Plain) (a : Acts) → a.slots.started ≡ true → is_some a.slots.close_request ≡ false → Rested (close_settled me (Ok v) a).slots
  unfolding close_settled finish_in_flight_close
  ended-rested v a e f = grind (arith, e, f)

  pub operation-rested : (operation : WritableOperation) (a : Acts) → Flies operation a.slots → Rested a.slots → Rested (writable_operation me operation a).slots
  operation-rested (names.Close p) a f r = close-rested p a r
  operation-rested (names.ClosePropagating p) a f r = propagating-rested p a r
  operation-rested (names.CloseSettled (Ok v)) a f r = ended-rested v a f.0 f.1.0
  operation-rested (names.CloseSettled (Err e)) a f r = still-rested a.slots (close_settled me (Err e) a).slots (failed-still e a) r
  operation-rested operation a f r = still-rested a.slots (writable_operation me operation a).slots (operation-still operation a (λ u. u)) r

  -- a stream that is neither closing nor closed stays so, unless a close is asked for

  pub record Opened (x : Slots) : Type 0 where
    pub closing : is_closing x ≡ false
    pub closed : is_closed x.state ≡ false

  abbrev pub Asks : WritableOperation → Type 0
  Asks (names.Close p) = Unit {0}
  Asks (names.ClosePropagating p) = Unit {0}
  Asks _ = ⊥

  still-opened : (x y : Slots) → Still x y → Opened x → Opened y
  still-opened x y s o = record { closing = s.closing o.closing; closed = by (is_closed y.state) refl }
    where
      by : (b : Bool) → is_closed y.state ≡ b → is_closed y.state ≡ false
      by true e = let f = s.closed e in let g = o.closed in cc
      by false e = e

  not_flying : (x : Slots) → Opened x → is_some x.close_in_flight ≡ true → ⊥
  not_flying x o e = let f = o.closing in grind (arith, e, f)

  pub operation-opened : (operation : WritableOperation) (a : Acts) → (Asks operation → ⊥) → Flies operation a.slots → Opened a.slots → Opened (writable_operation me operation a).slots
  operation-opened (names.Close p) a n f o = absurd (n tt)
  operation-opened (names.ClosePropagating p) a n f o = absurd (n tt)
  operation-opened (names.CloseSettled (Ok v)) a n f o = absurd (not_flying a.slots o f.1.1)
  operation-opened (names.CloseSettled (Err e)) a n f o = still-opened a.slots (close_settled me (Err e) a).slots (failed-still e a) o
  operation-opened operation a n f o = still-opened a.slots (writable_operation me operation a).slots (operation-still operation a (λ u. u)) o
