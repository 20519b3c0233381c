-- A writable stream becomes closed only by the reaction to its close algorithm that heard of a fulfilment.
use Rattle.std.proofs.Common.{◌≡◌, ℕ, zero, suc, Bool, true, false, ◌||◌, List, [], ◌∷◌, ◌++◌, Option, Some, None, Result, Ok, Err, slice_get, refl, sym, ap, subst, ◌∙◌, arith}
use Rattle.ws_value.specs.declared.ids.PromiseId.{PromiseId}
use Rattle.ws_value.specs.declared.ids.StreamId.{StreamId}
use Rattle.ws_value.specs.declared.value.Plain.{Plain}
use Rattle.ws_value.specs.declared.value.Value.{Value}
use Rattle.ws_steps.specs.declared.effects.Effect.{Effect}
use Rattle.ws_steps.specs.declared.effects.Effect.TheVariants.{Readable, Byte, Writable}
use Rattle.ws_steps.specs.declared.effects.Owner.{Owner}
use Rattle.ws_steps.specs.declared.readable.ReadableOperation.{ReadableOperation}
use Rattle.ws_steps.specs.declared.transform.Taker.{Taker}
use Rattle.ws_steps.specs.declared.writable.{WritableOperation.{WritableOperation}, WriteRecord.{WriteRecord}, Writer.{Writer}}
use Rattle.ws_steps.specs.declared.writable.WritableOperation.TheVariants as names
use Rattle.ws_steps.specs.declared.writable.WriteRecord.TheVariants.{CloseMark}
use Rattle.ws_steps.specs.Operations.{readable_operation, byte_readable_operation, byte_operation, writable_operation}
use Rattle.ws_steps.specs.Queues.{enqueued}
use Rattle.ws_steps.specs.Slots.{Slots, Stream, ReadableStream, ByteStream, WritableStream, Done, has_byte, on_byte, has_readable, has_writable, writable_at, on_readable, on_writable, nothing}
use Rattle.ws_steps.specs.Turns.{row, on_source}
use Rattle.ws_steps.specs.Writable.{Acts, is_closed, reject_close_and_closed, finish_erroring, start_erroring, deal_with_rejection, controller_error_if_needed, update_backpressure, refresh_backpressure, process_write, process_close, process_first, advance_queue, hand_on, write_settled, close_settled, finish_in_flight_close_with_error, start_settled, abort_settled, controller_write, writer_write, controller_close, add_close_request, has_ended, is_closing, fulfil_ready, stream_close, close_with_error_propagation, signalled, stream_abort, abort_if_writable, set_up_writer, writer_release}
use Rattle.ws_steps.specs.Histories.{is_same}
use Rattle.ws_laws.proofs.Apart.{row-streams}
use Rattle.ws_laws.proofs.Tables.{either, is_same-refl, same_id, writable_acts, writable_there, on_readable-same, on_readable-other, on_byte-look, on_writable-same, on_writable-other}

-- whether a writable stream is closed that stands there
abbrev pub is_closed_in : Option Stream → Bool
is_closed_in None = false
is_closed_in (Some (ReadableStream r)) = false
is_closed_in (Some (ByteStream b)) = false
is_closed_in (Some (WritableStream w)) = is_closed w.state

abbrev pub closed_in : StreamId → Slots → Bool
closed_in j s = is_closed_in (slice_get s.streams j.0)

-- it is closed afterwards only where it was before
abbrev OnlyBefore : Acts → Acts → Type 0
OnlyBefore a b = is_closed b.slots.state ≡ true → is_closed a.slots.state ≡ true

module _ (me : StreamId) where
  reject-state : (a : Acts) → (reject_close_and_closed a).slots.state ≡ a.slots.state
  unfolding reject_close_and_closed
  reject-state a = grind arith

  erroring-closes : (a : Acts) → is_closed (finish_erroring me a).slots.state ≡ false
  unfolding finish_erroring
  erroring-closes a = grind (arith, reject-state)

  start_erroring-closes : (r : Plain) (a : Acts) → is_closed (start_erroring me r a).slots.state ≡ false
  unfolding start_erroring
  start_erroring-closes r a = grind (arith, erroring-closes)

  deal-closes : (r : Plain) (a : Acts) → is_closed (deal_with_rejection me r a).slots.state ≡ false
  unfolding deal_with_rejection
  deal-closes r a = grind (arith, erroring-closes, start_erroring-closes)

  if_needed-before : (r : Plain) (a : Acts) → OnlyBefore a (controller_error_if_needed me r a)
  unfolding controller_error_if_needed
  if_needed-before r a = grind (arith, start_erroring-closes)

  refresh-state : (a : Acts) → (refresh_backpressure a).slots.state ≡ a.slots.state
  unfolding refresh_backpressure update_backpressure
  refresh-state a = grind arith

  first-state : (a : Acts) (x : Option WriteRecord) → (process_first me a x).slots.state ≡ a.slots.state
  unfolding process_write process_close
  first-state a x = grind arith

  advance-before : (a : Acts) → OnlyBefore a (advance_queue me a)
  unfolding advance_queue
  advance-before a = grind (arith, erroring-closes, first-state)

  hand_on-state : (taker : Taker) (a : Acts) → (hand_on me taker a).slots.state ≡ a.slots.state
  unfolding hand_on
  hand_on-state taker a = grind arith

  write_settled-before : (o : Result Plain Plain) (a : Acts) → OnlyBefore a (write_settled me o a)
  unfolding write_settled
  write_settled-before o a = grind (arith, advance-before, refresh-state, deal-closes)

  start_settled-before : (o : Result Plain Plain) (a : Acts) → OnlyBefore a (start_settled me o a)
  unfolding start_settled
  start_settled-before (Ok v) a = advance-before (record a { slots = record a.slots { started = true } })
  start_settled-before (Err r) a = λ c. let n = deal-closes r (record a { slots = record a.slots { started = true } }) in absurd (cc)

  close_failed-closes : (e : Plain) (a : Acts) → is_closed (close_settled me (Err e) a).slots.state ≡ false
  unfolding close_settled finish_in_flight_close_with_error
  close_failed-closes e a = grind (arith, deal-closes)

  abort_settled-state : (p : PromiseId) (o : Result Plain Plain) (a : Acts) → (abort_settled p o a).slots.state ≡ a.slots.state
  unfolding abort_settled
  abort_settled-state p o a = grind (arith, reject-state)

  write-before : (v : Value) (p : PromiseId) (a : Acts) → OnlyBefore a (writer_write me v p a)
  unfolding writer_write controller_write
  write-before v p a = grind (arith, advance-before, refresh-state)

  ready-state : (a : Acts) (w : Option Writer) → (fulfil_ready a w).slots.state ≡ a.slots.state
  ready-state a w = grind arith

  close-before : (p : PromiseId) (a : Acts) → OnlyBefore a (stream_close me p a)
  unfolding stream_close controller_close
  close-before p a =
      let b : Acts = add_close_request p a in
      let d : Acts = fulfil_ready b b.slots.writer in
      let e : Acts = record d { slots = record d.slots { queue = enqueued CloseMark 0 d.slots.queue } } in
      either (λ (z : Acts). OnlyBefore a z) (has_ended a.slots.state || is_closing a.slots) _ (advance_queue me e) (λ h c. c) (λ h c. ap is_closed (sym (ready-state b b.slots.writer)) ∙ advance-before e c)

  propagating-before : (p : PromiseId) (a : Acts) → OnlyBefore a (close_with_error_propagation me p a)
  unfolding close_with_error_propagation
  propagating-before p a = grind (arith, close-before)

  signalled-state : (r : Plain) (a : Acts) (owner : Owner) → (signalled me r a owner).slots.state ≡ a.slots.state
  signalled-state r a owner = grind arith

  abort-before : (r : Plain) (p : PromiseId) (a : Acts) → OnlyBefore a (stream_abort me r p a)
  unfolding stream_abort
  abort-before r p a = grind (arith, start_erroring-closes, signalled-state)

  abort_if-before : (r : Plain) (p : PromiseId) (a : Acts) → OnlyBefore a (abort_if_writable me r p a)
  unfolding abort_if_writable
  abort_if-before r p a = grind (arith, abort-before)

  set_up-state : (w : Writer) (a : Acts) → (set_up_writer w a).slots.state ≡ a.slots.state
  unfolding set_up_writer
  set_up-state w a = refl

  release-state : (a : Acts) → (writer_release a).slots.state ≡ a.slots.state
  unfolding writer_release
  release-state a = grind arith

-- the one operation that closes a stream
abbrev pub IsClosing : WritableOperation → Type 0
IsClosing (names.CloseSettled (Ok v)) = Unit {0}
IsClosing _ = ⊥

pub operation-before : (i : StreamId) (operation : WritableOperation) (a : Acts) → (IsClosing operation → ⊥) → OnlyBefore a (writable_operation i operation a)
operation-before i (names.SetUpWriter w) a n = λ c. rw (set_up-state i w a) at c
operation-before i names.ReleaseWriter a n = λ c. rw (release-state i a) at c
operation-before i (names.Write v p) a n = write-before i v p a
operation-before i (names.Close p) a n = close-before i p a
operation-before i (names.ClosePropagating p) a n = propagating-before i p a
operation-before i (names.Abort r p) a n = abort-before i r p a
operation-before i (names.AbortIfWritable r p) a n = abort_if-before i r p a
operation-before i (names.ErrorIfNeeded e) a n = if_needed-before i e a
operation-before i (names.HandOn taker) a n = λ c. rw (hand_on-state i taker a) at c
operation-before i (names.StartSettled o) a n = start_settled-before i o a
operation-before i (names.WriteSettled o) a n = write_settled-before i o a
operation-before i (names.CloseSettled (Ok v)) a n = absurd (n tt)
operation-before i (names.CloseSettled (Err e)) a n = λ c. let f = close_failed-closes i e a in absurd (cc)
operation-before i (names.AbortSettled p o) a n = λ c. rw (abort_settled-state i p o a) at c

-- by an effect

-- the effect that may close stream j
abbrev pub MayClose : StreamId → Effect → Type 0
MayClose j (Writable i operation) = (is_same i j ≡ true) × IsClosing operation
MayClose j _ = ⊥

abbrev Before : StreamId → Slots → Slots → Type 0
Before j s z = closed_in j z ≡ true → closed_in j s ≡ true

readable-before : (j i : StreamId) (operation : ReadableOperation) (s : Slots) (same there : Bool) → same ≡ is_same j i → there ≡ has_readable i s → Before j s (on_readable (readable_operation i operation) i s).slots
readable-before j i operation s false there e t c = rw (on_readable-other (readable_operation i operation) i s j (sym e)) at c
readable-before j i operation s true false e t c =
    let is : on_readable (readable_operation i operation) i s ≡ nothing s = rw (← t) refl in subst (λ (d : Done). closed_in j d.slots ≡ true) is c
readable-before j i operation s true true e t c =
    let is : j ≡ i = same_id j i (sym e) in
    let at = on_readable-same (readable_operation i operation) i s (sym t) in
    let n : false ≡ true = ap is_closed_in (sym at) ∙ subst (λ (k : StreamId). closed_in k (on_readable (readable_operation i operation) i s).slots ≡ true) is c in absurd (cc)

source-before : (j i : StreamId) (operation : ReadableOperation) (s : Slots) → Before j s (on_source operation i s).slots
source-before j i operation s =
    either (λ (d : Done). Before j s d.slots) (has_byte i s) (on_byte (byte_readable_operation i operation) i s) (on_readable (readable_operation i operation) i s)
    (λ is c. sym (on_byte-look is_closed_in (λ b d. refl) (byte_readable_operation i operation) i s j (is_same j i) refl) ∙ c)
    (λ isnt. readable-before j i operation s (is_same j i) (has_readable i s) refl refl)

writable-before : (j i : StreamId) (operation : WritableOperation) (s : Slots) (same there : Bool) → same ≡ is_same j i → there ≡ has_writable i s → (MayClose j (Writable i operation) → ⊥) → Before j s (on_writable (writable_operation i operation) i s).slots
writable-before j i operation s false there e t n c = rw (on_writable-other (writable_operation i operation) i s j (sym e)) at c
writable-before j i operation s true false e t n c =
    let is : on_writable (writable_operation i operation) i s ≡ nothing s = rw (← t) refl in subst (λ (d : Done). closed_in j d.slots ≡ true) is c
writable-before j i operation s true true e t n c =
    let is : j ≡ i = same_id j i (sym e) in
    let op : Acts → Acts = writable_operation i operation in
    let after : closed_in i (on_writable op i s).slots ≡ is_closed (op (writable_acts i s)).slots.state = ap is_closed_in (on_writable-same op i s (sym t)) in
    let now : closed_in i (on_writable op i s).slots ≡ true = subst (λ (k : StreamId). closed_in k (on_writable op i s).slots ≡ true) is c in
    let not_it : IsClosing operation → ⊥ = λ k. n (subst (λ (k : StreamId). is_same i k ≡ true) (sym is) (is_same-refl i), k) in
    let was : is_closed (writable_at i s).state ≡ true = operation-before i operation (writable_acts i s) not_it (sym after ∙ now) in
    let there : closed_in i s ≡ true = ap is_closed_in (writable_there (slice_get s.streams i.0) (sym t)) ∙ was in
    subst (λ (k : StreamId). closed_in k s ≡ true) (sym is) there

-- each other effect leaves a stream closed only where it was
pub row-before : (j : StreamId) (e : Effect) (s : Slots) → (MayClose j e → ⊥) → closed_in j (row e s).slots ≡ true → closed_in j s ≡ true
unfolding row
row-before j (Readable i operation) s n = source-before j i operation s
row-before j (Byte i operation) s n = λ c. sym (on_byte-look is_closed_in (λ b d. refl) (byte_operation i operation) i s j (is_same j i) refl) ∙ c
row-before j (Writable i operation) s n = writable-before j i operation s (is_same j i) (has_writable i s) refl refl n
row-before j e s n = λ c. ap (λ (streams : List Stream). is_closed_in (slice_get streams j.0)) (sym (row-streams e s tt)) ∙ c

-- a new stream isn't closed
pub added-before : (streams : List Stream) (y : Stream) (n : ℕ) → is_closed_in (Some y) ≡ false → is_closed_in (slice_get (streams ++ y ∷ []) n) ≡ true → is_closed_in (slice_get streams n) ≡ true
added-before [] y zero f c = absurd (cc)
added-before [] y (suc n) f c = c
added-before (x ∷ xs) y zero f c = c
added-before (x ∷ xs) y (suc n) f c = added-before xs y n f c
