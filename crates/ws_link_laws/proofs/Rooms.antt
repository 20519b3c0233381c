-- What operations of a destination and of its pipe take of the room for one chunk.
use Rattle.std.proofs.Common.{◌≡◌, ℕ, ◌+◌, ◌≤◌, true, not, ◌&&◌, ◌||◌, is_none, if◌then◌else◌, List, [], ◌∷◌, ◌++◌, Option, Some, None, Ok, Err, refl, sym, ap, subst, arith}
use Rattle.std.proofs.lemmas.List.Sums.{sum_by-cons}
use Rattle.ws_value.specs.declared.ids.PromiseId.{PromiseId}
use Rattle.ws_value.specs.declared.ids.StreamId.{StreamId}
use Rattle.ws_value.specs.declared.value.Plain.{Plain}
use Rattle.ws_value.specs.declared.value.Plain.TheVariants.{Undefined}
use Rattle.ws_value.specs.declared.value.Value.{Value}
use Rattle.ws_steps.specs.declared.effects.Owner.{Owner}
use Rattle.ws_steps.specs.declared.effects.Owner.TheVariants.{Host, HalfOf, BranchOf, EndOf}
use Rattle.ws_steps.specs.declared.queue.Queued.{Queued}
use Rattle.ws_steps.specs.declared.readable.SizeBy.{SizeBy}
use Rattle.ws_steps.specs.declared.readable.SizeBy.TheVariants.{Count}
use Rattle.ws_steps.specs.declared.writable.WritableOperation.{WritableOperation}
use Rattle.ws_steps.specs.declared.writable.WritableOperation.TheVariants.{SetUpWriter, ReleaseWriter, Write, Close, ClosePropagating, Abort, AbortIfWritable, ErrorIfNeeded, HandOn, StartSettled, WriteSettled, CloseSettled, AbortSettled}
use Rattle.ws_steps.specs.declared.writable.WritableState.TheVariants.{Erroring}
use Rattle.ws_steps.specs.declared.writable.WriteRecord.{WriteRecord}
use Rattle.ws_steps.specs.declared.writable.WriteRecord.TheVariants.{Chunk, CloseMark}
use Rattle.ws_steps.specs.declared.writable.Writer.{Writer}
use Rattle.ws_steps.specs.Effects.{type_error}
use Rattle.ws_steps.specs.Operations.{writable_operation}
use Rattle.ws_steps.specs.Promises.{Table, settle}
use Rattle.ws_steps.specs.Queues.{total_of, rest_of, enqueued, size_of, first_value}
use Rattle.ws_steps.specs.Writable.{Slots, Acts, with_promises, is_writable, is_erroring, is_errored, is_closed, has_ended, is_closing, is_in_flight, update_backpressure, refresh_backpressure, reject_close_and_closed, finish_erroring, reject_ready, start_erroring, deal_with_rejection, controller_error_if_needed, process_write, process_close, process_first, advance_queue, hand_on, write_ended, without_first, write_settled, close_ended, abort_ended, finish_in_flight_close, finish_in_flight_close_with_error, close_settled, start_settled, abort_settled, controller_write, write_refusal, write_by, writer_write, controller_close, add_close_request, fulfil_ready, stream_close, close_with_error_propagation, add_pending_abort, begin_abort, signalled, stream_abort, abort_if_writable, set_up_writer, release_by, writer_release}
use Rattle.ws_laws.proofs.Tables.{either}
use Rattle.ws_link_laws.specs.Room.{Full, Sized}
use Rattle.ws_link_laws.proofs.Sinks.{starting, with_slots}

-- the chunks that are on their way to the destination
abbrev pub more_in : WritableOperation → ℕ
more_in (Write v p) = 1
more_in _ = 0

-- from x, at most so much lies in the queue
pub record RoomKept (x : Slots) (b : ℕ) (o : Acts) : Type 0 where
  pub mark : o.slots.hwm ≡ x.hwm
  pub size : o.slots.size_by ≡ x.size_by
  pub sized : Sized o.slots.queue
  pub total : total_of o.slots.queue ≤ b

total_none : total_of {T = WriteRecord} [] ≡ 0
total_none = refl

pub total-cons : {A : Type 0} (q : Queued A) (qs : List (Queued A)) → total_of (q ∷ qs) ≡ q.size + total_of qs
total-cons {A} q qs = sum_by-cons (λ (z : Queued A). z.size) q qs

total-append : (qs : List (Queued WriteRecord)) (r : WriteRecord) (n : ℕ) → total_of (qs ++ record { value = r; size = n } ∷ []) ≡ total_of qs + n
total-append [] r n = let a = total-cons (record { value = r; size = n }) [] in let b = total_none in omega (arith, a, b)
total-append (q ∷ qs) r n = let h = total-append qs r n in let a = total-cons q qs in let b = total-cons q (qs ++ record { value = r; size = n } ∷ []) in omega (arith, h, a, b)

sized-append : (qs : List (Queued WriteRecord)) (r : WriteRecord) (n : ℕ) → Sized qs → Full r n → Sized (qs ++ record { value = r; size = n } ∷ [])
sized-append [] r n s f = (f, tt)
sized-append (q ∷ qs) r n s f = (s.0, sized-append qs r n s.1 f)

sized_rest : (qs : List (Queued WriteRecord)) → Sized qs → Sized (rest_of qs) × (total_of (rest_of qs) ≤ total_of qs)
sized_rest [] s = (tt, omega arith)
sized_rest (q ∷ qs) s = (s.1, let a = total-cons q qs in omega (arith, a))

module _ (me : StreamId) (b : ℕ) (x : Slots) where
  abbrev Keeps : Acts → Type 0
  Keeps a = RoomKept x b a

  finish_room : (a : Acts) → Keeps a → Keeps (finish_erroring me a)
  unfolding finish_erroring reject_close_and_closed
  finish_room a k = let n = total_none in grind (arith, k, n)

  rejected_room : (r : Plain) (a : Acts) (w : Option Writer) → Keeps a → Keeps (reject_ready r a w)
  rejected_room r a None k = k
  rejected_room r a (Some w) k = record { mark = k.mark; size = k.size; sized = k.sized; total = k.total }

  start_room : (r : Plain) (a : Acts) → Keeps a → Keeps (start_erroring me r a)
  unfolding start_erroring
  start_room r a k =
      let y : Acts = with_slots (record a.slots { state = Erroring; stored_error = r }) a in
      let c : Acts = reject_ready r y a.slots.writer in
      let h : Keeps c = rejected_room r y a.slots.writer (record { mark = k.mark; size = k.size; sized = k.sized; total = k.total }) in
      either Keeps (not (is_in_flight c.slots) && c.slots.started) (finish_erroring me c) c (λ e. finish_room c h) (λ e. h)

  process_room : (a : Acts) → Keeps a → Keeps (process_first me a (first_value a.slots.queue))
  unfolding process_write process_close
  process_room a k = let h = sized_rest a.slots.queue k.sized in grind (arith, h, k)

  advance_room : (a : Acts) → Keeps a → Keeps (advance_queue me a)
  unfolding advance_queue
  advance_room a k =
      either Keeps (a.slots.started && is_none a.slots.write_in_flight) (if is_erroring a.slots.state then finish_erroring me a else process_first me a (first_value a.slots.queue)) a
      (λ e. either Keeps (is_erroring a.slots.state) (finish_erroring me a) (process_first me a (first_value a.slots.queue)) (λ r. finish_room a k) (λ r. process_room a k))
      (λ e. k)

  refresh_room : (a : Acts) → Keeps a → Keeps (refresh_backpressure a)
  unfolding refresh_backpressure update_backpressure
  refresh_room a k = grind (arith, k)

  deal_room : (e : Plain) (a : Acts) → Keeps a → Keeps (deal_with_rejection me e a)
  unfolding deal_with_rejection
  deal_room e a k = either Keeps (is_writable a.slots.state) (start_erroring me e a) (finish_erroring me a) (λ w. start_room e a k) (λ w. finish_room a k)

  rests_room : (a : Acts) → a.slots.hwm ≡ x.hwm → a.slots.size_by ≡ x.size_by → a.slots.queue ≡ x.queue → Sized x.queue → total_of x.queue ≤ b → Keeps a
  rests_room a m z q s l = record { mark = m; size = z; sized = rw q s; total = rw q l }

  close_room : (p : PromiseId) (t : Table) → Sized x.queue → total_of x.queue ≤ b → Keeps (stream_close me p (starting x t))
  unfolding stream_close controller_close
  close_room p t s l =
      either Keeps (has_ended x.state || is_closing x) (with_promises (settle p (Err type_error) t) (starting x t)) (controller_close me (fulfil_ready (add_close_request p (starting x t)) x.writer))
      (λ e. rests_room (with_promises (settle p (Err type_error) t) (starting x t)) refl refl refl s l)
      (λ e. let a : Acts = fulfil_ready (add_close_request p (starting x t)) x.writer in advance_room (with_slots (record a.slots { queue = enqueued CloseMark 0 a.slots.queue }) a) (marked a (same x.writer)))
    where
      same : (w : Option Writer) → (fulfil_ready (add_close_request p (starting x t)) w).slots ≡ record x { close_request = Some p }
      same w = grind arith

      marked : (a : Acts) → a.slots ≡ record x { close_request = Some p } → Keeps (with_slots (record a.slots { queue = enqueued CloseMark 0 a.slots.queue }) a)
      marked a e =
          let h = total-append x.queue CloseMark 0 in
          let n : total_of (enqueued CloseMark 0 x.queue) ≤ b = omega (arith, h, l) in
          record {
            mark = ap (λ (z : Slots). z.hwm) e;
            size = ap (λ (z : Slots). z.size_by) e;
            sized = subst (λ (z : Slots). Sized (enqueued CloseMark 0 z.queue)) (sym e) (sized-append x.queue CloseMark 0 s tt);
            total = subst (λ (z : Slots). total_of (enqueued CloseMark 0 z.queue) ≤ b) (sym e) n;
          }

  signalled_is : (r : Plain) (t : Table) (o : Owner) → (z : Table) × (signalled me r (starting x t) o ≡ starting x z)
  signalled_is r t Host = (_, refl)
  signalled_is r t (HalfOf half) = (_, refl)
  signalled_is r t (BranchOf u half) = (_, refl)
  signalled_is r t (EndOf c) = (_, refl)

  abort_room : (r : Plain) (p : PromiseId) (t : Table) → Sized x.queue → total_of x.queue ≤ b → Keeps (stream_abort me r p (starting x t))
  unfolding stream_abort
  abort_room r p t s l =
      let g = signalled_is r t x.owner in
      either Keeps (has_ended x.state) (with_promises (settle p (Ok Undefined) t) (starting x t)) (begin_abort me r p (signalled me r (starting x t) x.owner))
      (λ e. rests_room (with_promises (settle p (Ok Undefined) t) (starting x t)) refl refl refl s l)
      (λ e. subst (λ (z : Acts). Keeps (begin_abort me r p z)) (sym g.1) (begins g.0))
    where
      begins : (u : Table) → Keeps (begin_abort me r p (starting x u))
      begins u =
          let a : Acts = add_pending_abort r p (starting x u) in
          either Keeps (is_erroring x.state) a (start_erroring me r a) (λ e. rests_room a refl refl refl s l) (λ e. start_room r a (rests_room a refl refl refl s l))

counts_one : (v : Value) (z : SizeBy) → z ≡ Count → size_of z v ≡ 1
counts_one v z e = rw e refl

write_room : (me : StreamId) (v : Value) (p : PromiseId) (x : Slots) (t : Table) → x.size_by ≡ Count → Sized x.queue → (o : Option Plain) → RoomKept x (total_of x.queue + 1) (write_by me v p (starting x t) o)
unfolding controller_write
write_room me v p x t z s (Some e) = rests_room me (total_of x.queue + 1) x (with_promises (settle p (Err e) t) (starting x t)) refl refl refl s (omega arith)
write_room me v p x t z s None =
    let y : Slots = record x { write_requests = x.write_requests ++ p ∷ [] } in
    let a : Acts = starting (record y { queue = enqueued (Chunk v) (size_of x.size_by v) x.queue }) t in
    let n = counts_one v x.size_by z in
    let h = total-append x.queue (Chunk v) (size_of x.size_by v) in
    let l : 1 ≤ size_of x.size_by v = omega (arith, n) in
    let k : RoomKept x (total_of x.queue + 1) a = record { mark = refl; size = refl; sized = sized-append x.queue (Chunk v) (size_of x.size_by v) s l; total = omega (arith, h, n) } in
    advance_room me (total_of x.queue + 1) x (refresh_backpressure a) (refresh_room me (total_of x.queue + 1) x a k)

unrequested_room : (x : Slots) (a : Acts) → a.slots ≡ x → Sized x.queue → RoomKept x (total_of x.queue + 0) (reject_close_and_closed a)
unfolding reject_close_and_closed
unrequested_room x a e s = grind (arith, s, e)

-- each operation of a destination
pub sink_room : (me : StreamId) (op : WritableOperation) (x : Slots) (t : Table) → x.size_by ≡ Count → Sized x.queue → RoomKept x (total_of x.queue + more_in op) (writable_operation me op (starting x t))
unfolding set_up_writer writer_release writer_write close_with_error_propagation abort_if_writable controller_error_if_needed hand_on start_settled write_settled close_settled finish_in_flight_close finish_in_flight_close_with_error abort_settled
sink_room me (SetUpWriter w) x t z s = rests_room me (total_of x.queue + 0) x (set_up_writer w (starting x t)) refl refl refl s (omega arith)
sink_room me ReleaseWriter x t z s = released x.writer
  where
    released : (w : Option Writer) → RoomKept x (total_of x.queue + 0) (release_by (starting x t) w)
    released None = rests_room me (total_of x.queue + 0) x (starting x t) refl refl refl s (omega arith)
    released (Some w) = rests_room me (total_of x.queue + 0) x (release_by (starting x t) (Some w)) refl refl refl s (omega arith)
sink_room me (Write v p) x t z s = write_room me v p x t z s (write_refusal x)
sink_room me (Close p) x t z s = close_room me (total_of x.queue + 0) x p t s (omega arith)
sink_room me (ClosePropagating p) x t z s =
    either (RoomKept x (total_of x.queue + 0)) (is_closing x || is_closed x.state) (with_promises (settle p (Ok Undefined) t) (starting x t)) (if is_errored x.state then with_promises (settle p (Err x.stored_error) t) (starting x t) else stream_close me p (starting x t))
    (λ e. rests_room me (total_of x.queue + 0) x (with_promises (settle p (Ok Undefined) t) (starting x t)) refl refl refl s (omega arith))
    (λ e. either (RoomKept x (total_of x.queue + 0)) (is_errored x.state) (with_promises (settle p (Err x.stored_error) t) (starting x t)) (stream_close me p (starting x t))
    (λ f. rests_room me (total_of x.queue + 0) x (with_promises (settle p (Err x.stored_error) t) (starting x t)) refl refl refl s (omega arith))
    (λ f. close_room me (total_of x.queue + 0) x p t s (omega arith)))
sink_room me (Abort r p) x t z s = abort_room me (total_of x.queue + 0) x r p t s (omega arith)
sink_room me (AbortIfWritable r p) x t z s =
    either (RoomKept x (total_of x.queue + 0)) (is_writable x.state) (stream_abort me r p (starting x t)) (with_promises (settle p (Ok Undefined) t) (starting x t))
    (λ e. abort_room me (total_of x.queue + 0) x r p t s (omega arith)) (λ e. rests_room me (total_of x.queue + 0) x (with_promises (settle p (Ok Undefined) t) (starting x t)) refl refl refl s (omega arith))
sink_room me (ErrorIfNeeded e) x t z s =
    let k = rests_room me (total_of x.queue + 0) x (starting x t) refl refl refl s (omega arith) in
    either (RoomKept x (total_of x.queue + 0)) (is_writable x.state) (start_erroring me e (starting x t)) (starting x t) (λ w. start_room me (total_of x.queue + 0) x e (starting x t) k) (λ w. k)
sink_room me (HandOn taker) x t z s = handed x.queue s refl
  where
    handed : (qs : List (Queued WriteRecord)) → Sized qs → qs ≡ x.queue → RoomKept x (total_of x.queue + 0) (hand_on me taker (starting x t))
    handed qs r e = grind (arith, total-cons, r, e)
sink_room me (StartSettled (Ok v)) x t z s = let a : Acts = starting (record x { started = true }) t in advance_room me (total_of x.queue + 0) x a (rests_room me (total_of x.queue + 0) x a refl refl refl s (omega arith))
sink_room me (StartSettled (Err e)) x t z s = let a : Acts = starting (record x { started = true }) t in deal_room me (total_of x.queue + 0) x e a (rests_room me (total_of x.queue + 0) x a refl refl refl s (omega arith))
sink_room me (WriteSettled (Ok v)) x t z s =
    let a : Acts = without_first (write_ended (Ok Undefined) (starting x t)) in
    let r = sized_rest x.queue s in
    let k : RoomKept x (total_of x.queue + 0) a = record { mark = refl; size = refl; sized = r.0; total = let h = r.1 in omega (arith, h) } in
    advance_room me (total_of x.queue + 0) x (refresh_backpressure a) (refresh_room me (total_of x.queue + 0) x a k)
sink_room me (WriteSettled (Err e)) x t z s = let a : Acts = write_ended (Err e) (starting x t) in deal_room me (total_of x.queue + 0) x e a (rests_room me (total_of x.queue + 0) x a refl refl refl s (omega arith))
sink_room me (CloseSettled (Ok v)) x t z s = closed_room
  where
    closed_room : RoomKept x (total_of x.queue + 0) (finish_in_flight_close (starting x t))
    closed_room = grind (arith, s)
sink_room me (CloseSettled (Err e)) x t z s = let a : Acts = abort_ended (Err e) (close_ended (Err e) (starting x t)) in deal_room me (total_of x.queue + 0) x e a (rests_room me (total_of x.queue + 0) x a refl refl refl s (omega arith))
sink_room me (AbortSettled p (Ok v)) x t z s = unrequested_room x (with_promises (settle p (Ok Undefined) t) (starting x t)) refl s
sink_room me (AbortSettled p (Err r)) x t z s = unrequested_room x (with_promises (settle p (Err r) t) (starting x t)) refl s
