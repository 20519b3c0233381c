-- A stream that isn't writable, or is closing, takes no more. Each operation of a writable stream keeps it so, and a close makes it so.
use Rattle.std.proofs.Common.{◌≡◌, Bool, true, false, not, ◌&&◌, ◌||◌, is_some, is_none, List, [], ◌∷◌, Option, Some, None, Result, Ok, Err, refl, sym, ap, ◌∙◌, arith, if◌then◌else◌}
use Rattle.ws_value.specs.declared.ids.PromiseId.{PromiseId}
use Rattle.ws_value.specs.declared.ids.StreamId.{StreamId}
use Rattle.ws_value.specs.declared.value.Plain.{Plain}
use Rattle.ws_value.specs.declared.value.Plain.TheVariants.{Undefined}
use Rattle.ws_value.specs.declared.value.Value.{Value}
use Rattle.ws_steps.specs.declared.effects.Effect.{Effect}
use Rattle.ws_steps.specs.declared.effects.Effect.TheVariants.{Writable as OnWritable}
use Rattle.ws_steps.specs.declared.effects.Owner.{Owner}
use Rattle.ws_steps.specs.declared.effects.Owner.TheVariants.{Host, HalfOf, BranchOf, EndOf}
use Rattle.ws_steps.specs.declared.transform.Taker.{Taker}
use Rattle.ws_steps.specs.declared.writable.{PendingAbort.{PendingAbort}, WritableOperation.{WritableOperation}, WritableState.{WritableState}, WriteRecord.{WriteRecord}, Writer.{Writer}}
use Rattle.ws_steps.specs.declared.writable.WritableOperation.TheVariants as names
use Rattle.ws_steps.specs.declared.writable.WritableState.TheVariants.{Writable, Erroring, Errored, Closed}
use Rattle.ws_steps.specs.declared.writable.WriteRecord.TheVariants.{Chunk, InFlight, CloseMark}
use Rattle.ws_steps.specs.Effects.{type_error}
use Rattle.ws_steps.specs.Operations.{writable_operation}
use Rattle.ws_steps.specs.Promises.{settle}
use Rattle.ws_steps.specs.Queues.{first_value, rest_of, enqueued, size_of}
use Rattle.ws_steps.specs.Writable as writable
use Rattle.ws_steps.specs.Writable.{Acts, with_promises, is_closed, is_closing, is_errored, is_erroring, is_writable, is_in_flight, has_ended, has_backpressure, fail_writes, reject_close_and_closed, abort_by, finish_abort, finish_erroring, reject_ready, start_erroring, deal_with_rejection, controller_error_if_needed, update_backpressure, refresh_backpressure, process_write, process_close, process_first, advance_queue, write_ended, without_first, write_settled, start_settled, close_ended, abort_ended, close_settled, finish_in_flight_close, finish_in_flight_close_with_error, abort_settled, enqueue_chunk, add_write_request, write_refusal, write_by, writer_write, controller_write, add_close_request, fulfil_ready, controller_close, stream_close, close_with_error_propagation, add_pending_abort, begin_abort, signalled, stream_abort, abort_if_writable, set_up_writer, writer_release, hand_on, hand_on_first}
use Rattle.ws_laws.proofs.Tables.{either}
use Rattle.ws_laws.proofs.WritableDoes.{IsHandOn}
use Rattle.ws_end_laws.proofs.hosts.Fates.{Neat, first_mark, rest_mark, chunk_mark}

-- whether it is writable and not closing
abbrev pub wants : writable.Slots → Bool
wants w = is_writable w.state && not (is_closing w)

abbrev pub Sated : Acts → Type 0
Sated a = wants a.slots ≡ false

unwritable : (w : writable.Slots) → is_writable w.state ≡ false → wants w ≡ false
unwritable w e = rw e refl

closing-sated : (w : writable.Slots) → is_closing w ≡ true → wants w ≡ false
closing-sated w e = grind (arith, e)

alike : (a b : Acts) → b.slots.state ≡ a.slots.state → is_closing b.slots ≡ is_closing a.slots → Sated a → Sated b
alike a b e f k = rw (e, f) k

ended_unwritable : (state : WritableState) → has_ended state ≡ true → is_writable state ≡ false
ended_unwritable state e = grind (arith, e)

module _ (me : StreamId) where
  -- errors

  both-state : (a : Acts) → (reject_close_and_closed a).slots.state ≡ a.slots.state
  unfolding reject_close_and_closed
  both-state a = grind arith

  abort_by-state : (abort : PendingAbort) (a : Acts) (b : Bool) → (abort_by me abort a b).slots.state ≡ a.slots.state
  abort_by-state abort a true = both-state (with_promises (settle abort.promise (Err a.slots.stored_error) a.out.promises) a)
  abort_by-state abort a false = refl

  finish_abort-state : (a : Acts) (abort : Option PendingAbort) → (finish_abort me a abort).slots.state ≡ a.slots.state
  finish_abort-state a None = both-state a
  finish_abort-state a (Some abort) = abort_by-state abort (record a { slots = record a.slots { pending_abort = None } }) abort.was_already_erroring

  finish-fails : (a : Acts) → is_writable (finish_erroring me a).slots.state ≡ false
  unfolding finish_erroring
  finish-fails a = ap is_writable (finish_abort-state (fail_writes a) a.slots.pending_abort)

  ready-state : (r : Plain) (a : Acts) (w : Option Writer) → (reject_ready r a w).slots.state ≡ a.slots.state
  ready-state r a None = refl
  ready-state r a (Some w) = refl

  start-fails : (r : Plain) (a : Acts) → is_writable (start_erroring me r a).slots.state ≡ false
  unfolding start_erroring
  start-fails r a =
      let c : Acts = record a { slots = record a.slots { state = Erroring; stored_error = r } } in
      let b : Acts = reject_ready r c a.slots.writer in
      either (λ (z : Acts). is_writable z.slots.state ≡ false) (not (is_in_flight b.slots) && b.slots.started) (finish_erroring me b) b (λ e. finish-fails b) (λ e. ap is_writable (ready-state r c a.slots.writer))

  deal-fails : (r : Plain) (a : Acts) → is_writable (deal_with_rejection me r a).slots.state ≡ false
  unfolding deal_with_rejection
  deal-fails r a = either (λ (z : Acts). is_writable z.slots.state ≡ false) (is_writable a.slots.state) (start_erroring me r a) (finish_erroring me a) (λ e. start-fails r a) (λ e. finish-fails a)

  deal-sated : (r : Plain) (a : Acts) → Sated (deal_with_rejection me r a)
  deal-sated r a = unwritable (deal_with_rejection me r a).slots (deal-fails r a)

  needed-sated : (r : Plain) (a : Acts) → Sated a → Sated (controller_error_if_needed me r a)
  unfolding controller_error_if_needed
  needed-sated r a k = either Sated (is_writable a.slots.state) (start_erroring me r a) a (λ e. unwritable (start_erroring me r a).slots (start-fails r a)) (λ e. k)

  -- the queue

  refresh-state : (a : Acts) → (refresh_backpressure a).slots.state ≡ a.slots.state
  unfolding refresh_backpressure update_backpressure
  refresh-state a = grind arith

  refresh-closing : (a : Acts) → is_closing (refresh_backpressure a).slots ≡ is_closing a.slots
  unfolding refresh_backpressure update_backpressure
  refresh-closing a = grind arith

  refresh-neat : (a : Acts) → Neat a.slots → Neat (refresh_backpressure a).slots
  unfolding refresh_backpressure update_backpressure
  refresh-neat a n = grind arith

  refresh-sated : (a : Acts) → Sated a → Sated (refresh_backpressure a)
  refresh-sated a k = alike a (refresh_backpressure a) (refresh-state a) (refresh-closing a) k

  closes-sated : (a : Acts) → is_some a.slots.close_in_flight ≡ false → Sated a → Sated (process_close me a)
  unfolding process_close
  closes-sated a none k = moved a.slots.state a.slots.close_request a.slots.close_in_flight none k
    where
      moved : (state : WritableState) (r c : Option PromiseId) → is_some c ≡ false → (is_writable state && not (is_some r || is_some c)) ≡ false → (is_writable state && not (false || is_some r)) ≡ false
      moved state r None e k = grind (arith, k)
      moved state r (Some p) e k = absurd (cc)

  first-sated : (a : Acts) (x : Option WriteRecord) → first_value a.slots.queue ≡ x → Neat a.slots → Sated a → Sated (process_first me a x)
  unfolding process_write
  first-sated a None e n k = k
  first-sated a (Some CloseMark) e n k = closes-sated a (n (first_mark a.slots.queue e)) k
  first-sated a (Some (Chunk v)) e n k = k
  first-sated a (Some InFlight) e n k = k

  advance-sated : (a : Acts) → Neat a.slots → Sated a → Sated (advance_queue me a)
  unfolding advance_queue
  advance-sated a n k =
      either Sated (a.slots.started && is_none a.slots.write_in_flight) (if is_erroring a.slots.state then finish_erroring me a else process_first me a (first_value a.slots.queue)) a
      (λ e. either Sated (is_erroring a.slots.state) (finish_erroring me a) (process_first me a (first_value a.slots.queue)) (λ h. unwritable (finish_erroring me a).slots (finish-fails a))
      (λ h. first-sated a (first_value a.slots.queue) refl n k))
      (λ e. k)

  -- the reactions to the sink's algorithms

  write_settled-sated : (o : Result Plain Plain) (a : Acts) → Neat a.slots → Sated a → Sated (write_settled me o a)
  unfolding write_settled
  write_settled-sated (Ok v) a n k =
      let b : Acts = without_first (write_ended (Ok Undefined) a) in
      advance-sated (refresh_backpressure b) (refresh-neat b (λ m. n (rest_mark a.slots.queue m))) (refresh-sated b k)
  write_settled-sated (Err e) a n k = deal-sated e (write_ended (Err e) a)

  start_settled-sated : (o : Result Plain Plain) (a : Acts) → Neat a.slots → Sated a → Sated (start_settled me o a)
  unfolding start_settled
  start_settled-sated (Ok v) a n k = advance-sated (record a { slots = record a.slots { started = true } }) n k
  start_settled-sated (Err e) a n k = deal-sated e (record a { slots = record a.slots { started = true } })

  close_settled-sated : (o : Result Plain Plain) (a : Acts) → Sated (close_settled me o a)
  unfolding close_settled finish_in_flight_close finish_in_flight_close_with_error
  close_settled-sated (Ok v) a = grind arith
  close_settled-sated (Err e) a = deal-sated e (abort_ended (Err e) (close_ended (Err e) a))

  abort_settled-sated : (p : PromiseId) (o : Result Plain Plain) (a : Acts) → has_ended a.slots.state ≡ true → Sated (abort_settled p o a)
  unfolding abort_settled
  abort_settled-sated p (Ok v) a e =
      let b : Acts = with_promises (settle p (Ok Undefined) a.out.promises) a in unwritable (reject_close_and_closed b).slots (ap is_writable (both-state b) ∙ ended_unwritable a.slots.state e)
  abort_settled-sated p (Err r) a e =
      let b : Acts = with_promises (settle p (Err r) a.out.promises) a in unwritable (reject_close_and_closed b).slots (ap is_writable (both-state b) ∙ ended_unwritable a.slots.state e)

  -- writes, closes and aborts

  write_by-sated : (v : Value) (p : PromiseId) (a : Acts) (refusal : Option Plain) → Neat a.slots → Sated a → Sated (write_by me v p a refusal)
  unfolding controller_write
  write_by-sated v p a (Some e) n k = k
  write_by-sated v p a None n k =
      let b : Acts = enqueue_chunk v (add_write_request p a) in
      advance-sated (refresh_backpressure b) (refresh-neat b (λ m. n (chunk_mark a.slots.queue v (size_of a.slots.size_by v) m))) (refresh-sated b k)

  fulfil-same : (a : Acts) (w : Option Writer) → (fulfil_ready a w).slots ≡ a.slots
  fulfil-same a w = grind arith

  none_in_flight : (w : writable.Slots) → is_closing w ≡ false → is_some w.close_in_flight ≡ false
  none_in_flight w e = grind (arith, e)

  -- a close that is accepted
  accepted-sated : (p : PromiseId) (a : Acts) → is_closing a.slots ≡ false → let b : Acts = add_close_request p a in Sated (controller_close me (fulfil_ready b b.slots.writer))
  unfolding controller_close
  accepted-sated p a e =
      let b : Acts = add_close_request p a in
      let c : Acts = fulfil_ready b b.slots.writer in
      let same = fulfil-same b b.slots.writer in
      let d : Acts = record c { slots = record c.slots { queue = enqueued CloseMark 0 c.slots.queue } } in
      advance-sated d (λ m. ap (λ (w : writable.Slots). is_some w.close_in_flight) same ∙ none_in_flight a.slots e) (closing-sated d.slots (ap (λ (w : writable.Slots). is_closing w) same))

  refused-sated : (w : writable.Slots) → has_ended w.state || is_closing w ≡ true → wants w ≡ false
  refused-sated w e = grind (arith, e)

  closing_left : (w : writable.Slots) → has_ended w.state || is_closing w ≡ false → is_closing w ≡ false
  closing_left w e = grind (arith, e)

  stream_close-sated : (p : PromiseId) (a : Acts) → Sated (stream_close me p a)
  unfolding stream_close
  stream_close-sated p a =
      let b : Acts = add_close_request p a in
      either Sated (has_ended a.slots.state || is_closing a.slots) (with_promises (settle p (Err type_error) a.out.promises) a) (controller_close me (fulfil_ready b b.slots.writer))
      (λ e. refused-sated a.slots e) (λ e. accepted-sated p a (closing_left a.slots e))

  closed-sated : (w : writable.Slots) → is_closing w || is_closed w.state ≡ true → wants w ≡ false
  closed-sated w e = grind (arith, e)

  errored-sated : (w : writable.Slots) → is_errored w.state ≡ true → wants w ≡ false
  errored-sated w e = grind (arith, e)

  pub propagating-sated : (p : PromiseId) (a : Acts) → Sated (close_with_error_propagation me p a)
  unfolding close_with_error_propagation
  propagating-sated p a =
      either Sated (is_closing a.slots || is_closed a.slots.state) _ _ (λ e. closed-sated a.slots e)
      (λ e. either Sated (is_errored a.slots.state) _ _ (λ f. errored-sated a.slots f) (λ f. stream_close-sated p a))

  signalled-sated : (r : Plain) (a : Acts) (owner : Owner) → Sated a → Sated (signalled me r a owner)
  signalled-sated r a Host k = k
  signalled-sated r a (HalfOf t) k = k
  signalled-sated r a (BranchOf t half) k = k
  signalled-sated r a (EndOf c) k = k

  begin_abort-sated : (r : Plain) (p : PromiseId) (a : Acts) → Sated a → Sated (begin_abort me r p a)
  begin_abort-sated r p a k =
      either Sated (is_erroring a.slots.state) (add_pending_abort r p a) (start_erroring me r (add_pending_abort r p a)) (λ e. k)
      (λ e. unwritable (start_erroring me r (add_pending_abort r p a)).slots (start-fails r (add_pending_abort r p a)))

  abort-sated : (r : Plain) (p : PromiseId) (a : Acts) → Sated a → Sated (stream_abort me r p a)
  unfolding stream_abort
  abort-sated r p a k =
      let b : Acts = signalled me r a a.slots.owner in
      either Sated (has_ended a.slots.state) _ (begin_abort me r p b) (λ e. k) (λ e. begin_abort-sated r p b (signalled-sated r a a.slots.owner k))

  abort_if-sated : (r : Plain) (p : PromiseId) (a : Acts) → Sated a → Sated (abort_if_writable me r p a)
  unfolding abort_if_writable
  abort_if-sated r p a k = either Sated (is_writable a.slots.state) _ _ (λ e. abort-sated r p a k) (λ e. k)

  release-sated : (a : Acts) → Sated a → Sated (writer_release a)
  unfolding writer_release
  release-sated a k = grind (arith, k)

  hand_on-sated : (taker : Taker) (a : Acts) (x : Option WriteRecord) → Sated a → Sated (hand_on_first me taker a x)
  hand_on-sated taker a None k = k
  hand_on-sated taker a (Some CloseMark) k = k
  hand_on-sated taker a (Some InFlight) k = k
  hand_on-sated taker a (Some (Chunk v)) k = k

  -- the reaction to an abort comes to a stream that has ended
  abbrev pub AbortEnds : WritableOperation → Acts → Type 0
  AbortEnds (names.AbortSettled p o) a = has_ended a.slots.state ≡ true
  AbortEnds _ a = Unit {0}

  pub operation-sated : (operation : WritableOperation) (a : Acts) → ((IsHandOn operation → ⊥) → Neat a.slots) → AbortEnds operation a → Sated a → Sated (writable_operation me operation a)
  unfolding writer_write hand_on set_up_writer
  operation-sated (names.SetUpWriter w) a n h k = k
  operation-sated names.ReleaseWriter a n h k = release-sated a k
  operation-sated (names.Write v p) a n h k = write_by-sated v p a (write_refusal a.slots) (n (λ u. u)) k
  operation-sated (names.Close p) a n h k = stream_close-sated p a
  operation-sated (names.ClosePropagating p) a n h k = propagating-sated p a
  operation-sated (names.Abort r p) a n h k = abort-sated r p a k
  operation-sated (names.AbortIfWritable r p) a n h k = abort_if-sated r p a k
  operation-sated (names.ErrorIfNeeded r) a n h k = needed-sated r a k
  operation-sated (names.HandOn taker) a n h k = hand_on-sated taker a (first_value a.slots.queue) k
  operation-sated (names.StartSettled o) a n h k = start_settled-sated o a (n (λ u. u)) k
  operation-sated (names.WriteSettled o) a n h k = write_settled-sated o a (n (λ u. u)) k
  operation-sated (names.CloseSettled o) a n h k = close_settled-sated o a
  operation-sated (names.AbortSettled p o) a n h k = abort_settled-sated p o a h
