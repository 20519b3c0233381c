-- A writable stream that is erroring or errored while no close is in flight never becomes closed.
use Rattle.std.proofs.Common.{◌≡◌, Bool, true, false, not, ◌&&◌, ◌||◌, is_some, is_none, List, [], ◌∷◌, Option, Some, None, Result, Ok, Err, slice_get, refl, sym, ap, subst, ◌∙◌, arith, if◌then◌else◌}
use Rattle.ws_value.specs.declared.ids.PromiseId.{PromiseId}
use Rattle.ws_value.specs.declared.ids.StreamId.{StreamId}
use Rattle.ws_value.specs.declared.value.Plain.{Plain}
use Rattle.ws_value.specs.declared.value.Plain.TheVariants.{Undefined}
use Rattle.ws_value.specs.declared.value.Value.{Value}
use Rattle.ws_steps.specs.declared.effects.Effect.{Effect}
use Rattle.ws_steps.specs.declared.effects.Effect.TheVariants.{Writable}
use Rattle.ws_steps.specs.declared.queue.Queued.{Queued}
use Rattle.ws_steps.specs.declared.writable.{PendingAbort.{PendingAbort}, WritableOperation.{WritableOperation}, WritableState.{WritableState}, WriteRecord.{WriteRecord}, Writer.{Writer}}
use Rattle.ws_steps.specs.declared.writable.WritableOperation.TheVariants as names
use Rattle.ws_steps.specs.declared.writable.WritableState.TheVariants.{Erroring}
use Rattle.ws_steps.specs.declared.writable.WriteRecord.TheVariants.{CloseMark}
use Rattle.ws_steps.specs.Operations.{writable_operation}
use Rattle.ws_steps.specs.Promises.{settle}
use Rattle.ws_steps.specs.Queues.{first_value, rest_of, enqueued}
use Rattle.ws_steps.specs.Slots.{Slots, has_writable, writable_at, no_writable}
use Rattle.ws_steps.specs.Turns.{row}
use Rattle.ws_steps.specs.Writable as writable
use Rattle.ws_steps.specs.Writable.{Acts, with_promises, is_closed, is_closing, is_errored, is_erroring, is_writable, is_in_flight, has_ended, write_refusal, reject_close_and_closed, abort_by, finish_abort, fail_writes, finish_erroring, reject_ready, start_erroring, deal_with_rejection, controller_error_if_needed, update_backpressure, refresh_backpressure, process_first, advance_queue, hand_on, write_settled, write_ended, without_first, start_settled, abort_settled, writer_write, write_by, controller_close, add_close_request, fulfil_ready, stream_close, close_with_error_propagation, stream_abort, abort_if_writable, set_up_writer, writer_release}
use Rattle.ws_steps.specs.Histories.{is_same}
use Rattle.ws_steps.specs.WritableHistory.{Writes}
use Rattle.ws_laws.proofs.Tables.{either, writable_acts, no_writable_there}
use Rattle.ws_laws.proofs.WritableDoes.{IsHandOn}
use Rattle.ws_writable_laws.proofs.Agenda.{Kept, found, Elsewhere, row-leaves, same_or}
use Rattle.ws_writable_laws.proofs.Expects.{close_settled-expects}
use Rattle.ws_promise_laws.proofs.Runs.{Straight}
use Rattle.ws_end_laws.proofs.hosts.Dests.{own_after}

pub record Doomed (w : writable.Slots) : Type 0 where
  pub failed : is_erroring w.state || is_errored w.state ≡ true
  pub flight : is_some w.close_in_flight ≡ false

-- the queue of a stream that is errored is empty
abbrev Empty : writable.Slots → Type 0
Empty w = is_errored w.state ≡ true → w.queue ≡ []

abbrev Idle : Acts → Type 0
Idle a = is_some a.slots.close_in_flight ≡ false

module _ (me : StreamId) where
  reject-flight : (a : Acts) → (reject_close_and_closed a).slots.close_in_flight ≡ a.slots.close_in_flight
  unfolding reject_close_and_closed
  reject-flight a = grind arith

  reject-state : (a : Acts) → (reject_close_and_closed a).slots.state ≡ a.slots.state
  unfolding reject_close_and_closed
  reject-state a = grind arith

  both-doomed : (a : Acts) → Doomed a.slots → Doomed (reject_close_and_closed a).slots
  both-doomed a d = record {
    failed = ap (λ (state : WritableState). is_erroring state || is_errored state) (reject-state a) ∙ d.failed;
    flight = ap (λ (p : Option PromiseId). is_some p) (reject-flight a) ∙ d.flight;
  }

  abort_by-doomed : (abort : PendingAbort) (a : Acts) (b : Bool) → Doomed a.slots → Doomed (abort_by me abort a b).slots
  abort_by-doomed abort a true d = both-doomed (with_promises (settle abort.promise (Err a.slots.stored_error) a.out.promises) a) (record { failed = d.failed; flight = d.flight })
  abort_by-doomed abort a false d = d

  finish_abort-doomed : (a : Acts) (abort : Option PendingAbort) → Doomed a.slots → Doomed (finish_abort me a abort).slots
  finish_abort-doomed a None d = both-doomed a d
  finish_abort-doomed a (Some abort) d = abort_by-doomed abort (record a { slots = record a.slots { pending_abort = None } }) abort.was_already_erroring (record { failed = d.failed; flight = d.flight })

  finish-doomed : (a : Acts) → Idle a → Doomed (finish_erroring me a).slots
  unfolding finish_erroring
  finish-doomed a n = finish_abort-doomed (fail_writes a) a.slots.pending_abort (record { failed = refl; flight = n })

  ready-same : (r : Plain) (a : Acts) (w : Option Writer) → Doomed a.slots → Doomed (reject_ready r a w).slots
  ready-same r a None d = d
  ready-same r a (Some w) d = record { failed = d.failed; flight = d.flight }

  start-doomed : (r : Plain) (a : Acts) → Idle a → Doomed (start_erroring me r a).slots
  unfolding start_erroring
  start-doomed r a n =
      let c : Acts = record a { slots = record a.slots { state = Erroring; stored_error = r } } in
      let b : Acts = reject_ready r c a.slots.writer in
      let d : Doomed b.slots = ready-same r c a.slots.writer (record { failed = refl; flight = n }) in
      either (λ (z : Acts). Doomed z.slots) (not (is_in_flight b.slots) && b.slots.started) (finish_erroring me b) b (λ e. finish-doomed b d.flight) (λ e. d)

  deal-doomed : (r : Plain) (a : Acts) → Idle a → Doomed (deal_with_rejection me r a).slots
  unfolding deal_with_rejection
  deal-doomed r a n = either (λ (z : Acts). Doomed z.slots) (is_writable a.slots.state) (start_erroring me r a) (finish_erroring me a) (λ e. start-doomed r a n) (λ e. finish-doomed a n)

  needed-doomed : (r : Plain) (a : Acts) → Doomed a.slots → Doomed (controller_error_if_needed me r a).slots
  unfolding controller_error_if_needed
  needed-doomed r a d = either (λ (z : Acts). Doomed z.slots) (is_writable a.slots.state) (start_erroring me r a) a (λ e. start-doomed r a d.flight) (λ e. d)

  not_writable : (state : WritableState) → is_erroring state || is_errored state ≡ true → is_writable state ≡ false
  not_writable state e = grind arith

  -- backpressure is left as it is
  refresh-same : (a : Acts) → Doomed a.slots → refresh_backpressure a ≡ a
  unfolding refresh_backpressure
  refresh-same a d = let n = not_writable a.slots.state d.failed in grind arith

  errored_left : (state : WritableState) → is_erroring state || is_errored state ≡ true → is_erroring state ≡ false → is_errored state ≡ true
  errored_left state e f = grind arith

  nothing_first : (a : Acts) → a.slots.queue ≡ [] → process_first me a (first_value a.slots.queue) ≡ a
  nothing_first a e = ap (λ (q : List (Queued WriteRecord)). process_first me a (first_value q)) e

  advance-doomed : (a : Acts) → Empty a.slots → Doomed a.slots → Doomed (advance_queue me a).slots
  unfolding advance_queue
  advance-doomed a q d =
      either (λ (z : Acts). Doomed z.slots) (a.slots.started && is_none a.slots.write_in_flight) (if is_erroring a.slots.state then finish_erroring me a else process_first me a (first_value a.slots.queue)) a
      (λ e. either (λ (z : Acts). Doomed z.slots) (is_erroring a.slots.state) (finish_erroring me a) (process_first me a (first_value a.slots.queue)) (λ f. finish-doomed a d.flight)
      (λ f. subst (λ (z : Acts). Doomed z.slots) (sym (nothing_first a (q (errored_left a.slots.state d.failed f)))) d))
      (λ e. d)

  write_settled-doomed : (o : Result Plain Plain) (a : Acts) → Empty a.slots → Doomed a.slots → Doomed (write_settled me o a).slots
  unfolding write_settled
  write_settled-doomed (Ok v) a q d =
      let b : Acts = without_first (write_ended (Ok Undefined) a) in
      let e : Doomed b.slots = record { failed = d.failed; flight = d.flight } in
      subst (λ (z : Acts). Doomed (advance_queue me z).slots) (sym (refresh-same b e)) (advance-doomed b (λ f. ap rest_of (q f)) e)
  write_settled-doomed (Err r) a q d = deal-doomed r (write_ended (Err r) a) d.flight

  start_settled-doomed : (o : Result Plain Plain) (a : Acts) → Empty a.slots → Doomed a.slots → Doomed (start_settled me o a).slots
  unfolding start_settled
  start_settled-doomed (Ok v) a q d = advance-doomed (record a { slots = record a.slots { started = true } }) q (record { failed = d.failed; flight = d.flight })
  start_settled-doomed (Err r) a q d = deal-doomed r (record a { slots = record a.slots { started = true } }) d.flight

  abort_settled-doomed : (p : PromiseId) (o : Result Plain Plain) (a : Acts) → Doomed a.slots → Doomed (abort_settled p o a).slots
  unfolding abort_settled
  abort_settled-doomed p (Ok v) a d = both-doomed (with_promises (settle p (Ok Undefined) a.out.promises) a) (record { failed = d.failed; flight = d.flight })
  abort_settled-doomed p (Err r) a d = both-doomed (with_promises (settle p (Err r) a.out.promises) a) (record { failed = d.failed; flight = d.flight })

  refused : (w : writable.Slots) → is_erroring w.state || is_errored w.state ≡ true → is_some (write_refusal w) ≡ true
  refused w e = grind arith

  write_by-doomed : (v : Value) (p : PromiseId) (a : Acts) (refusal : Option Plain) → is_some refusal ≡ true → Doomed a.slots → Doomed (write_by me v p a refusal).slots
  write_by-doomed v p a (Some r) e d = d
  write_by-doomed v p a None e d = absurd (cc)

  fulfil-same : (a : Acts) (w : Option Writer) → (fulfil_ready a w).slots ≡ a.slots
  fulfil-same a w = grind arith

  still_erroring : (state : WritableState) (b : Bool) → is_erroring state || is_errored state ≡ true → has_ended state || b ≡ false → is_errored state ≡ false
  still_erroring state b e f = grind arith

  close-doomed : (p : PromiseId) (a : Acts) → Doomed a.slots → Doomed (stream_close me p a).slots
  unfolding stream_close controller_close
  close-doomed p a d =
      let b : Acts = add_close_request p a in
      let c : Acts = fulfil_ready b b.slots.writer in
      let e : Acts = record c { slots = record c.slots { queue = enqueued CloseMark 0 c.slots.queue } } in
      let same = fulfil-same b b.slots.writer in
      either (λ (z : Acts). Doomed z.slots) (has_ended a.slots.state || is_closing a.slots) _ (advance_queue me e) (λ h. record { failed = d.failed; flight = d.flight })
      (λ h. advance-doomed e
      (λ f. let g : is_errored a.slots.state ≡ true = sym (ap (λ (w : writable.Slots). is_errored w.state) same) ∙ f in let n = still_erroring a.slots.state (is_closing a.slots) d.failed h in absurd (cc))
      (record { failed = ap (λ (w : writable.Slots). is_erroring w.state || is_errored w.state) same ∙ d.failed; flight = ap (λ (w : writable.Slots). is_some w.close_in_flight) same ∙ d.flight }))

  propagating-doomed : (p : PromiseId) (a : Acts) → Doomed a.slots → Doomed (close_with_error_propagation me p a).slots
  unfolding close_with_error_propagation
  propagating-doomed p a d =
      either (λ (z : Acts). Doomed z.slots) (is_closing a.slots || is_closed a.slots.state) _ _ (λ e. record { failed = d.failed; flight = d.flight })
      (λ e. either (λ (z : Acts). Doomed z.slots) (is_errored a.slots.state) _ _ (λ f. record { failed = d.failed; flight = d.flight }) (λ f. close-doomed p a d))

  abort-doomed : (r : Plain) (p : PromiseId) (a : Acts) → Doomed a.slots → Doomed (stream_abort me r p a).slots
  unfolding stream_abort
  abort-doomed r p a d = let f = d.failed in let n = d.flight in grind arith

  abort_if-doomed : (r : Plain) (p : PromiseId) (a : Acts) → Doomed a.slots → Doomed (abort_if_writable me r p a).slots
  unfolding abort_if_writable
  abort_if-doomed r p a d = either (λ (z : Acts). Doomed z.slots) (is_writable a.slots.state) _ _ (λ e. abort-doomed r p a d) (λ e. record { failed = d.failed; flight = d.flight })

-- the reaction to a close
abbrev pub IsCloseSettled : WritableOperation → Type 0
IsCloseSettled (names.CloseSettled o) = Unit {0}
IsCloseSettled _ = ⊥

operation-doomed : (i : StreamId) (operation : WritableOperation) (a : Acts) → (IsCloseSettled operation → ⊥) → ((IsHandOn operation → ⊥) → Empty a.slots) → Doomed a.slots → Doomed (writable_operation i operation a).slots
unfolding set_up_writer writer_release writer_write hand_on
operation-doomed i (names.SetUpWriter w) a n q d = record { failed = d.failed; flight = d.flight }
operation-doomed i names.ReleaseWriter a n q d = let f = d.failed in let g = d.flight in grind arith
operation-doomed i (names.Write v p) a n q d = write_by-doomed i v p a (write_refusal a.slots) (refused i a.slots d.failed) d
operation-doomed i (names.Close p) a n q d = close-doomed i p a d
operation-doomed i (names.ClosePropagating p) a n q d = propagating-doomed i p a d
operation-doomed i (names.Abort r p) a n q d = abort-doomed i r p a d
operation-doomed i (names.AbortIfWritable r p) a n q d = abort_if-doomed i r p a d
operation-doomed i (names.ErrorIfNeeded r) a n q d = needed-doomed i r a d
operation-doomed i (names.HandOn taker) a n q d = let f = d.failed in let g = d.flight in grind arith
operation-doomed i (names.StartSettled o) a n q d = start_settled-doomed i o a (q (λ u. u)) d
operation-doomed i (names.WriteSettled o) a n q d = write_settled-doomed i o a (q (λ u. u)) d
operation-doomed i (names.CloseSettled o) a n q d = absurd (n tt)
operation-doomed i (names.AbortSettled p o) a n q d = abort_settled-doomed i p o a d

module _ (i : StreamId) where
  abbrev Stays : Slots → Effect → Type 0
  Stays s e = (es : List Effect) → Straight s (e ∷ es) → Doomed (writable_at i s) → Doomed (writable_at i (row e s).slots)

  doomed_there : (s : Slots) → Doomed (writable_at i s) → has_writable i s ≡ true
  doomed_there s d = by (has_writable i s) refl
    where
      by : (b : Bool) → has_writable i s ≡ b → b ≡ true
      by true e = refl
      by false e =
          let none : writable_at i s ≡ no_writable = no_writable_there (slice_get s.streams i.0) e in
          let f : false ≡ true = subst (λ (w : writable.Slots). is_erroring w.state || is_errored w.state ≡ true) none d.failed in absurd (cc)

  no_close : (operation : WritableOperation) (s : Slots) (h : Writes) (es : List Effect) → Kept i h s (Writable i operation ∷ es) → Doomed (writable_at i s) → IsCloseSettled operation → ⊥
  no_close (names.CloseSettled o) s h es k d c = let f = close_settled-expects i h es s o k in let g = d.flight in absurd (cc)
  no_close _ s h es k d c = c

  emptied : (operation : WritableOperation) (s : Slots) (h : Writes) (es : List Effect) → Kept i h s (Writable i operation ∷ es) → (IsHandOn operation → ⊥) → Empty (writable_at i s)
  emptied operation s h es k u e = let f = found i operation h es s u k in f.shape.ended (errored_ended (writable_at i s).state e)
    where
      errored_ended : (state : WritableState) → is_errored state ≡ true → has_ended state ≡ true
      errored_ended state e = grind arith

  own-doomed : (operation : WritableOperation) (s : Slots) → Stays s (Writable i operation)
  unfolding row
  own-doomed operation s es k d =
      let b = own_after i operation s (doomed_there s d) in
      let known = k.known i in
      subst Doomed (sym b.0) (operation-doomed i operation (writable_acts i s) (no_close operation s known.0 es known.1 d) (λ u. emptied operation s known.0 es known.1 u) d)

  elsewhere-doomed : (s : Slots) (e : Effect) → Elsewhere i e → Stays s e
  elsewhere-doomed s e x es k d = subst Doomed (sym (row-leaves i e s x).place) d

  pub row-doomed : (s : Slots) (e : Effect) → Stays s e
  row-doomed s (Writable j operation) es k d = same_or (λ l. Stays s (Writable l operation)) i j (is_same i j) refl (λ n. elsewhere-doomed s (Writable j operation) n) (own-doomed operation s) es k d
  row-doomed s e es k d = elsewhere-doomed s e tt es k d
