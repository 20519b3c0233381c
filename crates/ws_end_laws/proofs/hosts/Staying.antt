-- A writable stream that is closed stays so, and one that isn't closing doesn't begin to but by an operation that closes it.
use Rattle.std.proofs.Common.{◌≡◌, Bool, true, false, not, ◌&&◌, ◌||◌, Option, Some, None, Result, Ok, Err, refl, sym, ◌∙◌, arith}
use Rattle.ws_value.specs.declared.ids.PromiseId.{PromiseId}
use Rattle.ws_value.specs.declared.ids.StreamId.{StreamId}
use Rattle.ws_value.specs.declared.value.Plain.{Plain}
use Rattle.ws_value.specs.declared.value.Value.{Value}
use Rattle.ws_steps.specs.declared.transform.Taker.{Taker}
use Rattle.ws_steps.specs.declared.writable.{PendingAbort.{PendingAbort}, WritableOperation.{WritableOperation}, WriteRecord.{WriteRecord}, Writer.{Writer}}
use Rattle.ws_steps.specs.declared.writable.WritableOperation.TheVariants as names
use Rattle.ws_steps.specs.declared.writable.WritableState.TheVariants.{Erroring}
use Rattle.ws_steps.specs.Operations.{writable_operation}
use Rattle.ws_value.specs.declared.value.Plain.TheVariants.{Undefined}
use Rattle.ws_steps.specs.declared.writable.WriteRecord.TheVariants.{CloseMark}
use Rattle.ws_steps.specs.Queues.{enqueued}
use Rattle.ws_steps.specs.Promises.{settle}
use Rattle.ws_steps.specs.Writable as writable
use Rattle.ws_steps.specs.Writable.{Acts, is_closed, is_closing, is_erroring, is_writable, is_in_flight, has_ended, write_refusal, reject_close_and_closed, abort_by, finish_abort, fail_writes, finish_erroring, reject_ready, start_erroring, deal_with_rejection, controller_error_if_needed, update_backpressure, refresh_backpressure, process_write, process_close, process_first, advance_queue, hand_on, hand_on_first, write_settled, write_ended, without_first, close_settled, finish_in_flight_close, finish_in_flight_close_with_error, close_ended, abort_ended, add_close_request, fulfil_ready, controller_close, start_settled, abort_settled, enqueue_chunk, add_write_request, controller_write, writer_write, write_by, stream_close, close_with_error_propagation, begin_abort, add_pending_abort, signalled, stream_abort, abort_if_writable, set_up_writer, release_by, writer_release}
use Rattle.ws_laws.proofs.Tables.{either}
use Rattle.ws_end_laws.proofs.hosts.Closing.{operation-before, IsClosing}
use Rattle.ws_laws.proofs.Truth.{false_true}

-- a stream that is closed

-- the reactions to the sink's algorithms but the abort
abbrev pub IsReaction : WritableOperation → Type 0
IsReaction (names.StartSettled o) = Unit {0}
IsReaction (names.WriteSettled o) = Unit {0}
IsReaction (names.CloseSettled o) = Unit {0}
IsReaction _ = ⊥

reject-state : (a : Acts) → (reject_close_and_closed a).slots.state ≡ a.slots.state
unfolding reject_close_and_closed
reject-state a = grind arith

pub closed-operation : (i : StreamId) (operation : WritableOperation) (a : Acts) → (IsReaction operation → ⊥) → is_closed a.slots.state ≡ true → is_closed (writable_operation i operation a).slots.state ≡ true
unfolding set_up_writer writer_release writer_write stream_close close_with_error_propagation stream_abort abort_if_writable controller_error_if_needed hand_on abort_settled
closed-operation i (names.SetUpWriter w) a n c = c
closed-operation i names.ReleaseWriter a n c = grind arith
closed-operation i (names.Write v p) a n c = grind arith
closed-operation i (names.Close p) a n c = grind arith
closed-operation i (names.ClosePropagating p) a n c = grind arith
closed-operation i (names.Abort r p) a n c = grind arith
closed-operation i (names.AbortIfWritable r p) a n c = grind arith
closed-operation i (names.ErrorIfNeeded e) a n c = grind arith
closed-operation i (names.HandOn taker) a n c = grind arith
closed-operation i (names.StartSettled o) a n c = absurd (n tt)
closed-operation i (names.WriteSettled o) a n c = absurd (n tt)
closed-operation i (names.CloseSettled o) a n c = absurd (n tt)
closed-operation i (names.AbortSettled p o) a n c = grind (arith, reject-state)

-- a stream that isn't closing

abbrev OnlyBefore : Acts → Acts → Type 0
OnlyBefore a b = is_closing b.slots ≡ true → is_closing a.slots ≡ true

-- the operations that close it
abbrev pub IsClose : WritableOperation → Type 0
IsClose (names.Close p) = Unit {0}
IsClose (names.ClosePropagating p) = Unit {0}
IsClose (names.CloseSettled o) = Unit {0}
IsClose _ = ⊥

module _ (me : StreamId) where
  reject-closing : (a : Acts) → OnlyBefore a (reject_close_and_closed a)
  unfolding reject_close_and_closed
  reject-closing a = grind arith

  abort_by-closing : (abort : PendingAbort) (a : Acts) (b : Bool) → OnlyBefore a (abort_by me abort a b)
  abort_by-closing abort a true = reject-closing (writable.with_promises (settle abort.promise (Err a.slots.stored_error) a.out.promises) a)
  abort_by-closing abort a false = λ c. c

  finish_abort-closing : (a : Acts) (abort : Option PendingAbort) → OnlyBefore a (finish_abort me a abort)
  finish_abort-closing a None = reject-closing a
  finish_abort-closing a (Some abort) = abort_by-closing abort (record a { slots = record a.slots { pending_abort = None } }) abort.was_already_erroring

  finish-closing : (a : Acts) → OnlyBefore a (finish_erroring me a)
  unfolding finish_erroring
  finish-closing a = finish_abort-closing (fail_writes a) a.slots.pending_abort

  ready-same : (r : Plain) (a : Acts) (w : Option Writer) → is_closing (reject_ready r a w).slots ≡ is_closing a.slots
  ready-same r a None = refl
  ready-same r a (Some w) = refl

  start-closing : (r : Plain) (a : Acts) → OnlyBefore a (start_erroring me r a)
  unfolding start_erroring
  start-closing r a =
      let c : Acts = record a { slots = record a.slots { state = Erroring; stored_error = r } } in
      let b : Acts = reject_ready r c a.slots.writer in
      let same : is_closing b.slots ≡ is_closing a.slots = ready-same r c a.slots.writer in
      either (OnlyBefore a) (not (is_in_flight b.slots) && b.slots.started) (finish_erroring me b) b (λ e d. sym same ∙ finish-closing b d) (λ e d. sym same ∙ d)

  deal-closing : (r : Plain) (a : Acts) → OnlyBefore a (deal_with_rejection me r a)
  unfolding deal_with_rejection
  deal-closing r a = grind (arith, finish-closing, start-closing)

  needed-closing : (r : Plain) (a : Acts) → OnlyBefore a (controller_error_if_needed me r a)
  unfolding controller_error_if_needed
  needed-closing r a = grind (arith, start-closing)

  refresh-closing : (a : Acts) → is_closing (refresh_backpressure a).slots ≡ is_closing a.slots
  unfolding refresh_backpressure update_backpressure
  refresh-closing a = grind arith

  first-closing : (a : Acts) (x : Option WriteRecord) → OnlyBefore a (process_first me a x)
  unfolding process_write process_close
  first-closing a x = grind arith

  advance-closing : (a : Acts) → OnlyBefore a (advance_queue me a)
  unfolding advance_queue
  advance-closing a = grind (arith, finish-closing, first-closing)

  hand_on-closing : (taker : Taker) (a : Acts) → OnlyBefore a (hand_on me taker a)
  unfolding hand_on
  hand_on-closing taker a = grind arith

  write_settled-closing : (o : Result Plain Plain) (a : Acts) → OnlyBefore a (write_settled me o a)
  unfolding write_settled
  write_settled-closing (Ok v) a =
      let b : Acts = without_first (write_ended (Ok Undefined) a) in
      λ c. sym (refresh-closing b) ∙ advance-closing (refresh_backpressure b) c
  write_settled-closing (Err e) a = deal-closing e (write_ended (Err e) a)

  start_settled-closing : (o : Result Plain Plain) (a : Acts) → OnlyBefore a (start_settled me o a)
  unfolding start_settled
  start_settled-closing (Ok v) a = advance-closing (record a { slots = record a.slots { started = true } })
  start_settled-closing (Err r) a = deal-closing r (record a { slots = record a.slots { started = true } })

  abort_settled-closing : (p : PromiseId) (o : Result Plain Plain) (a : Acts) → OnlyBefore a (abort_settled p o a)
  unfolding abort_settled
  abort_settled-closing p (Ok v) a = reject-closing (writable.with_promises (settle p (Ok Undefined) a.out.promises) a)
  abort_settled-closing p (Err e) a = reject-closing (writable.with_promises (settle p (Err e) a.out.promises) a)

  write_by-closing : (v : Value) (p : PromiseId) (a : Acts) (refusal : Option Plain) → OnlyBefore a (write_by me v p a refusal)
  unfolding controller_write
  write_by-closing v p a (Some e) = λ c. c
  write_by-closing v p a None =
      let b : Acts = enqueue_chunk v (add_write_request p a) in
      λ c. sym (refresh-closing b) ∙ advance-closing (refresh_backpressure b) c

  write-closing : (v : Value) (p : PromiseId) (a : Acts) → OnlyBefore a (writer_write me v p a)
  unfolding writer_write
  write-closing v p a = write_by-closing v p a (write_refusal a.slots)

  abort-closing : (r : Plain) (p : PromiseId) (a : Acts) → OnlyBefore a (stream_abort me r p a)
  unfolding stream_abort
  abort-closing r p a = grind (arith, start-closing)

  abort_if-closing : (r : Plain) (p : PromiseId) (a : Acts) → OnlyBefore a (abort_if_writable me r p a)
  unfolding abort_if_writable
  abort_if-closing r p a = grind (arith, abort-closing)

  set_up-closing : (w : Writer) (a : Acts) → OnlyBefore a (set_up_writer w a)
  unfolding set_up_writer
  set_up-closing w a = λ c. c

  release-closing : (a : Acts) → OnlyBefore a (writer_release a)
  unfolding writer_release
  release-closing a = grind arith

closing-before : (i : StreamId) (operation : WritableOperation) (a : Acts) → (IsClose operation → ⊥) → OnlyBefore a (writable_operation i operation a)
closing-before i (names.SetUpWriter w) a n = set_up-closing i w a
closing-before i names.ReleaseWriter a n = release-closing i a
closing-before i (names.Write v p) a n = write-closing i v p a
closing-before i (names.Close p) a n = absurd (n tt)
closing-before i (names.ClosePropagating p) a n = absurd (n tt)
closing-before i (names.Abort r p) a n = abort-closing i r p a
closing-before i (names.AbortIfWritable r p) a n = abort_if-closing i r p a
closing-before i (names.ErrorIfNeeded e) a n = needed-closing i e a
closing-before i (names.HandOn taker) a n = hand_on-closing i taker a
closing-before i (names.StartSettled o) a n = start_settled-closing i o a
closing-before i (names.WriteSettled o) a n = write_settled-closing i o a
closing-before i (names.CloseSettled o) a n = absurd (n tt)
closing-before i (names.AbortSettled p o) a n = abort_settled-closing i p o a

-- neither closing nor closed
pub record Open (w : writable.Slots) : Type 0 where
  pub closing : is_closing w ≡ false
  pub closed : is_closed w.state ≡ false

is_false : (b : Bool) → (b ≡ true → ⊥) → b ≡ false
is_false true n = absurd (n refl)
is_false false n = refl

not_closing_one : (operation : WritableOperation) → (IsClose operation → ⊥) → IsClosing operation → ⊥
not_closing_one (names.CloseSettled o) n c = n tt
not_closing_one _ n c = c

pub open-operation : (i : StreamId) (operation : WritableOperation) (a : Acts) → (IsClose operation → ⊥) → Open a.slots → Open (writable_operation i operation a).slots
open-operation i operation a n o = record {
  closing = is_false (is_closing (writable_operation i operation a).slots) (λ c. false_true (is_closing a.slots) (closing-before i operation a n c) o.closing);
  closed = is_false (is_closed (writable_operation i operation a).slots.state) (λ c. false_true (is_closed a.slots.state) (operation-before i operation a (not_closing_one operation n) c) o.closed);
}

-- the controller has started, and stays so

module _ (me : StreamId) where
  reject-starts : (a : Acts) → (reject_close_and_closed a).slots.started ≡ a.slots.started
  unfolding reject_close_and_closed
  reject-starts a = grind arith

  abort_by-starts : (abort : PendingAbort) (a : Acts) (b : Bool) → (abort_by me abort a b).slots.started ≡ a.slots.started
  abort_by-starts abort a true = reject-starts (writable.with_promises (settle abort.promise (Err a.slots.stored_error) a.out.promises) a)
  abort_by-starts abort a false = refl

  finish_abort-starts : (a : Acts) (abort : Option PendingAbort) → (finish_abort me a abort).slots.started ≡ a.slots.started
  finish_abort-starts a None = reject-starts a
  finish_abort-starts a (Some abort) = abort_by-starts abort (record a { slots = record a.slots { pending_abort = None } }) abort.was_already_erroring

  finish-starts : (a : Acts) → (finish_erroring me a).slots.started ≡ a.slots.started
  unfolding finish_erroring
  finish-starts a = finish_abort-starts (fail_writes a) a.slots.pending_abort

  ready-starts : (r : Plain) (a : Acts) (w : Option Writer) → (reject_ready r a w).slots.started ≡ a.slots.started
  ready-starts r a None = refl
  ready-starts r a (Some w) = refl

  start-starts : (r : Plain) (a : Acts) → (start_erroring me r a).slots.started ≡ a.slots.started
  unfolding start_erroring
  start-starts r a =
      let c : Acts = record a { slots = record a.slots { state = Erroring; stored_error = r } } in
      let b : Acts = reject_ready r c a.slots.writer in
      let same = ready-starts r c a.slots.writer in
      either (λ (z : Acts). z.slots.started ≡ a.slots.started) (not (is_in_flight b.slots) && b.slots.started) (finish_erroring me b) b (λ e. finish-starts b ∙ same) (λ e. same)

  deal-starts : (r : Plain) (a : Acts) → (deal_with_rejection me r a).slots.started ≡ a.slots.started
  unfolding deal_with_rejection
  deal-starts r a = either (λ (z : Acts). z.slots.started ≡ a.slots.started) (is_writable a.slots.state) (start_erroring me r a) (finish_erroring me a) (λ e. start-starts r a) (λ e. finish-starts a)

  refresh-starts : (a : Acts) → (refresh_backpressure a).slots.started ≡ a.slots.started
  unfolding refresh_backpressure update_backpressure
  refresh-starts a = grind arith

  first-starts : (a : Acts) (x : Option WriteRecord) → (process_first me a x).slots.started ≡ a.slots.started
  unfolding process_write process_close
  first-starts a x = grind arith

  advance-starts : (a : Acts) → (advance_queue me a).slots.started ≡ a.slots.started
  unfolding advance_queue
  advance-starts a = grind (arith, finish-starts, first-starts)

  ready_for-starts : (a : Acts) (w : Option Writer) → (fulfil_ready a w).slots.started ≡ a.slots.started
  ready_for-starts a w = grind arith

  close-starts : (p : PromiseId) (a : Acts) → (stream_close me p a).slots.started ≡ a.slots.started
  unfolding stream_close controller_close
  close-starts p a =
      let b : Acts = add_close_request p a in
      let d : Acts = fulfil_ready b b.slots.writer in
      let e : Acts = record d { slots = record d.slots { queue = enqueued CloseMark 0 d.slots.queue } } in
      either (λ (z : Acts). z.slots.started ≡ a.slots.started) (has_ended a.slots.state || is_closing a.slots) _ (advance_queue me e) (λ h. refl) (λ h. advance-starts e ∙ ready_for-starts b b.slots.writer)

  write_by-starts : (v : Value) (p : PromiseId) (a : Acts) (refusal : Option Plain) → (write_by me v p a refusal).slots.started ≡ a.slots.started
  unfolding controller_write
  write_by-starts v p a (Some e) = refl
  write_by-starts v p a None = let b : Acts = enqueue_chunk v (add_write_request p a) in advance-starts (refresh_backpressure b) ∙ refresh-starts b

  abort-starts : (r : Plain) (p : PromiseId) (a : Acts) → (stream_abort me r p a).slots.started ≡ a.slots.started
  unfolding stream_abort
  abort-starts r p a = grind (arith, start-starts)

  close_error-starts : (e : Plain) (a : Acts) → (close_settled me (Err e) a).slots.started ≡ a.slots.started
  unfolding close_settled finish_in_flight_close_with_error
  close_error-starts e a = deal-starts e (abort_ended (Err e) (close_ended (Err e) a))

  close_ok-starts : (v : Plain) (a : Acts) → (close_settled me (Ok v) a).slots.started ≡ a.slots.started
  unfolding close_settled finish_in_flight_close
  close_ok-starts v a = grind arith

  start_settled-starts : (o : Result Plain Plain) (a : Acts) → (start_settled me o a).slots.started ≡ true
  unfolding start_settled
  start_settled-starts (Ok v) a = advance-starts (record a { slots = record a.slots { started = true } })
  start_settled-starts (Err r) a = deal-starts r (record a { slots = record a.slots { started = true } })

  write_settled-starts : (o : Result Plain Plain) (a : Acts) → (write_settled me o a).slots.started ≡ a.slots.started
  unfolding write_settled
  write_settled-starts (Ok v) a = let b : Acts = without_first (write_ended (Ok Undefined) a) in advance-starts (refresh_backpressure b) ∙ refresh-starts b
  write_settled-starts (Err e) a = deal-starts e (write_ended (Err e) a)

pub started-operation : (i : StreamId) (operation : WritableOperation) (a : Acts) → a.slots.started ≡ true → (writable_operation i operation a).slots.started ≡ true
unfolding set_up_writer writer_release writer_write close_with_error_propagation abort_if_writable controller_error_if_needed hand_on abort_settled
started-operation i (names.SetUpWriter w) a e = e
started-operation i names.ReleaseWriter a e = grind arith
started-operation i (names.Write v p) a e = write_by-starts i v p a (write_refusal a.slots) ∙ e
started-operation i (names.Close p) a e = close-starts i p a ∙ e
started-operation i (names.ClosePropagating p) a e = grind (arith, close-starts)
started-operation i (names.Abort r p) a e = abort-starts i r p a ∙ e
started-operation i (names.AbortIfWritable r p) a e = grind (arith, abort-starts)
started-operation i (names.ErrorIfNeeded r) a e = grind (arith, start-starts)
started-operation i (names.HandOn taker) a e = grind arith
started-operation i (names.StartSettled o) a e = start_settled-starts i o a
started-operation i (names.WriteSettled o) a e = write_settled-starts i o a ∙ e
started-operation i (names.CloseSettled (Ok v)) a e = close_ok-starts i v a ∙ e
started-operation i (names.CloseSettled (Err r)) a e = close_error-starts i r a ∙ e
started-operation i (names.AbortSettled p (Ok v)) a e = reject-starts i (writable.with_promises (settle p (Ok Undefined) a.out.promises) a) ∙ e
started-operation i (names.AbortSettled p (Err r)) a e = reject-starts i (writable.with_promises (settle p (Err r) a.out.promises) a) ∙ e
