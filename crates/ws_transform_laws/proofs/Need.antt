-- When a writable stream needs its first chunk to be handed on: a write is in flight, and its chunk still stands at the front of the queue.
-- An operation makes it so only where it performs the write algorithm.
use Rattle.std.proofs.Common.{◌≡◌, ◌⊎◌, inl, inr, Bool, true, false, not, ◌&&◌, ◌||◌, is_some, is_none, if◌then◌else◌, List, [], ◌∷◌, ◌++◌, Option, Some, None, Result, Ok, Err, refl, sym, subst, ap, ◌∙◌, arith}
use Rattle.ws_value.specs.declared.ids.{PromiseId.{PromiseId}, StreamId.{StreamId}}
use Rattle.ws_value.specs.declared.value.{Plain.{Plain}, Plain.TheVariants.{Undefined}, Value.{Value}}
use Rattle.ws_steps.specs.declared.{effects.Effect.{Effect}, effects.Effect.TheVariants.{WriteAlgorithm}, effects.Owner.{Owner}, effects.Owner.TheVariants.{Host, HalfOf, BranchOf, EndOf}, queue.Queued.{Queued}, transform.Taker.{Taker}}
use Rattle.ws_steps.specs.declared.writable.{PendingAbort.{PendingAbort}, WritableState.{WritableState}, WritableState.TheVariants.{Writable, Erroring, Closed}, WriteRecord.{WriteRecord}, WriteRecord.TheVariants.{Chunk, InFlight, CloseMark}, Writer.{Writer}}
use Rattle.ws_steps.specs.declared.writable.WritableOperation.{WritableOperation}
use Rattle.ws_steps.specs.declared.writable.WritableOperation.TheVariants.{SetUpWriter, ReleaseWriter, Write, Close, ClosePropagating, Abort, AbortIfWritable, ErrorIfNeeded, HandOn, StartSettled, WriteSettled, CloseSettled, AbortSettled}
use Rattle.ws_steps.specs.Effects.{type_error}
use Rattle.ws_steps.specs.Operations.{writable_operation}
use Rattle.ws_steps.specs.Promises.{settle}
use Rattle.ws_steps.specs.Queues.{first_value, enqueued, size_of}
use Rattle.ws_steps.specs.Writable.{Slots, Acts, with_promises, is_writable, is_erroring, is_errored, is_closed, is_in_flight, reject_close_and_closed, finish_abort, fail_writes, finish_erroring, reject_ready, start_erroring, deal_with_rejection, controller_error_if_needed, process_write, process_close, process_first, advance_queue, hand_on_first, hand_on, has_ended, update_backpressure, refresh_backpressure, write_ended, without_first, write_settled, close_ended, abort_ended, finish_in_flight_close, finish_in_flight_close_with_error, close_settled, start_settled, abort_settled, is_closing, enqueue_chunk, controller_write, add_write_request, write_refusal, write_by, writer_write, controller_close, add_close_request, fulfil_ready, stream_close, close_with_error_propagation, add_pending_abort, begin_abort, signalled, stream_abort, abort_if_writable, set_up_writer, release_by, writer_release}
use Rattle.ws_laws.proofs.Tables.{either}
use Rattle.ws_laws.proofs.Truth.{and_left, and_right}
use Rattle.ws_laws.proofs.WritableDoes.{IsHandOn}
use Rattle.ws_writable_laws.proofs.Shape.{leads}

-- a write is in flight whose chunk wasn't handed on, and the stream hasn't ended
abbrev pub needs : Slots → Bool
needs w = (not (has_ended w.state) && is_some w.write_in_flight) && not (leads w.queue)

abbrev is_chunk : WriteRecord → Bool
is_chunk (Chunk v) = true
is_chunk InFlight = false
is_chunk CloseMark = false

-- a chunk stands first
abbrev pub has_chunk : List (Queued WriteRecord) → Bool
has_chunk [] = false
has_chunk (q ∷ qs) = is_chunk q.value

-- the stream needs it now only where its write algorithm is to be performed, or where this is so; and then a chunk stands first
abbrev pub Next : StreamId → Bool → Acts → Type 0
Next i was b = needs b.slots ≡ true → (has_chunk b.slots.queue ≡ true) × ((b.out.effects ≡ WriteAlgorithm i ∷ []) ⊎ (was ≡ true))

-- nothing is caused yet
abbrev pub Still : Bool → Acts → Type 0
Still was a = (a.out.effects ≡ []) × (needs a.slots ≡ true → (has_chunk a.slots.queue ≡ true) × (was ≡ true))

still_next : (i : StreamId) (was : Bool) (a : Acts) → Still was a → Next i was a
still_next i was a s n = let k = s.1 n in (k.0, inr k.1)

-- what matters here
pub record Core : Type 0 where
  pub state : WritableState
  pub flying : Option PromiseId
  pub queue : List (Queued WriteRecord)

abbrev pub core : Slots → Core
core w = record { state = w.state; flying = w.write_in_flight; queue = w.queue }

-- what doesn't matter changes
pub record Same (a b : Acts) : Type 0 where
  pub core : core b.slots ≡ core a.slots
  pub effects : b.out.effects ≡ a.out.effects

abbrev core_needs : Core → Bool
core_needs c = (not (has_ended c.state) && is_some c.flying) && not (leads c.queue)

abbrev CoreStill : Bool → Core → List Effect → Type 0
CoreStill was c es = (es ≡ []) × (core_needs c ≡ true → (has_chunk c.queue ≡ true) × (was ≡ true))

same_still : (was : Bool) (a b : Acts) → Same a b → Still was a → Still was b
same_still was a b s k = subst (λ (c : Core). CoreStill was c b.out.effects) (sym s.core) (subst (CoreStill was (core a.slots)) (sym s.effects) k)

-- a stream that has ended needs nothing

ended_needs : (w : Slots) → has_ended w.state ≡ true → needs w ≡ true → {A : Type 0} → A
ended_needs w e n = let m : needs w ≡ false = rw e refl in absurd (cc)

ended_next : (i : StreamId) (was : Bool) (a : Acts) → has_ended a.slots.state ≡ true → Next i was a
ended_next i was a e n = ended_needs a.slots e n

unrequested-state : (a : Acts) → (reject_close_and_closed a).slots.state ≡ a.slots.state
unfolding reject_close_and_closed
unrequested-state a = grind arith

finish_abort-state : (i : StreamId) (a : Acts) (abort : Option PendingAbort) → (finish_abort i a abort).slots.state ≡ a.slots.state
finish_abort-state i a abort = grind (arith, unrequested-state)

finish_erroring-next : (i : StreamId) (was : Bool) (a : Acts) → Next i was (finish_erroring i a)
unfolding finish_erroring
finish_erroring-next i was a = let b : Acts = fail_writes a in ended_next i was (finish_abort i b b.slots.pending_abort) (rw (finish_abort-state i b b.slots.pending_abort) refl)

pub reject_ready-same : (r : Plain) (a : Acts) (w : Option Writer) → Same a (reject_ready r a w)
reject_ready-same r a w = grind arith

erroring_still : (was : Bool) (r : Plain) (a : Acts) → a.slots.state ≡ Writable → Still was a → Still was (record a { slots = record a.slots { state = Erroring; stored_error = r } })
erroring_still was r a e s = grind (arith, e, s)

start_erroring-next : (i : StreamId) (was : Bool) (r : Plain) (a : Acts) → a.slots.state ≡ Writable → Still was a → Next i was (start_erroring i r a)
unfolding start_erroring
start_erroring-next i was r a e s =
    let c : Acts = record a { slots = record a.slots { state = Erroring; stored_error = r } } in
    let b : Acts = reject_ready r c a.slots.writer in
    either (Next i was) (not (is_in_flight b.slots) && b.slots.started) (finish_erroring i b) b
    (λ f. finish_erroring-next i was b) (λ f. still_next i was b (same_still was c b (reject_ready-same r c a.slots.writer) (erroring_still was r a e s)))

pub writable_is : (s : WritableState) → is_writable s ≡ true → s ≡ Writable
writable_is s e = grind arith

deal-next : (i : StreamId) (was : Bool) (r : Plain) (a : Acts) → Still was a → Next i was (deal_with_rejection i r a)
unfolding deal_with_rejection
deal-next i was r a s =
    either (Next i was) (is_writable a.slots.state) (start_erroring i r a) (finish_erroring i a)
    (λ e. start_erroring-next i was r a (writable_is a.slots.state e) s) (λ e. finish_erroring-next i was a)

error_if_needed-next : (i : StreamId) (was : Bool) (r : Plain) (a : Acts) → Still was a → Next i was (controller_error_if_needed i r a)
unfolding controller_error_if_needed
error_if_needed-next i was r a s =
    either (Next i was) (is_writable a.slots.state) (start_erroring i r a) a
    (λ e. start_erroring-next i was r a (writable_is a.slots.state e) s) (λ e. still_next i was a s)

-- the queue advances

chunk_first : (q : List (Queued WriteRecord)) (v : Value) → first_value q ≡ Some (Chunk v) → has_chunk q ≡ true
chunk_first q v e = grind arith

pub no_flight : (o : Option PromiseId) → is_none o ≡ true → is_some o ≡ false
no_flight o e = grind arith

alone_needs : (w : Slots) → is_some w.write_in_flight ≡ false → needs w ≡ true → {A : Type 0} → A
alone_needs w e n = let m : is_some w.write_in_flight ≡ true = and_right (not (has_ended w.state)) (is_some w.write_in_flight) (and_left _ (not (leads w.queue)) n) in absurd (cc)

process_first-next : (i : StreamId) (was : Bool) (a : Acts) (first : Option WriteRecord) → first_value a.slots.queue ≡ first → is_some a.slots.write_in_flight ≡ false → a.out.effects ≡ [] → Next i was (process_first i a first)
unfolding process_write process_close
process_first-next i was a (Some (Chunk v)) e w q = λ n. (chunk_first a.slots.queue v e, inl (rw q refl))
process_first-next i was a (Some CloseMark) e w q = λ n. alone_needs (process_first i a (Some CloseMark)).slots w n
process_first-next i was a (Some InFlight) e w q = λ n. alone_needs a.slots w n
process_first-next i was a None e w q = λ n. alone_needs a.slots w n

advance-next : (i : StreamId) (was : Bool) (a : Acts) → Still was a → Next i was (advance_queue i a)
unfolding advance_queue
advance-next i was a s =
    let processed : Acts = process_first i a (first_value a.slots.queue) in
    either (Next i was) (a.slots.started && is_none a.slots.write_in_flight) (if is_erroring a.slots.state then finish_erroring i a else processed) a
    (λ ready. either (Next i was) (is_erroring a.slots.state) (finish_erroring i a) processed
    (λ e. finish_erroring-next i was a)
    (λ e. process_first-next i was a (first_value a.slots.queue) refl (no_flight a.slots.write_in_flight (and_right a.slots.started (is_none a.slots.write_in_flight) ready)) s.0))
    (λ e. still_next i was a s)

pub refresh-same : (a : Acts) → Same a (refresh_backpressure a)
unfolding refresh_backpressure update_backpressure
refresh-same a = grind arith

-- an entry at the end

chunk-append : (xs : List (Queued WriteRecord)) (q : Queued WriteRecord) → has_chunk xs ≡ true → has_chunk (xs ++ q ∷ []) ≡ true
chunk-append [] q e = cc
chunk-append (x ∷ xs) q e = e

-- the queue isn't led by what leads no queue of its own
leads-append : (xs : List (Queued WriteRecord)) (q : Queued WriteRecord) → leads (xs ++ q ∷ []) ≡ false → leads xs ≡ false
leads-append [] q e = refl
leads-append (x ∷ xs) q e = e

-- a write

needs_alive : (w : Slots) → needs w ≡ true → (has_ended w.state ≡ false) × ((is_some w.write_in_flight ≡ true) × (leads w.queue ≡ false))
needs_alive w n = grind arith

needs_by : (w : Slots) → has_ended w.state ≡ false → is_some w.write_in_flight ≡ true → leads w.queue ≡ false → needs w ≡ true
needs_by w a b c = rw (a, b, c) refl

-- a queue with one more entry is needed where it was
more_still : (was : Bool) (a b : Acts) (q : Queued WriteRecord) → core b.slots ≡ record (core a.slots) { queue = a.slots.queue ++ q ∷ [] } → b.out.effects ≡ a.out.effects → Still was a → Still was b
more_still was a b q e f s = (
  f ∙ s.0,
  λ n.
      let k = needs_alive b.slots n in
      let queue : b.slots.queue ≡ a.slots.queue ++ q ∷ [] = ap (λ (c : Core). c.queue) e in
      let m = s.1 (needs_by a.slots (ap (λ (c : Core). has_ended c.state) (sym e) ∙ k.0) (ap (λ (c : Core). is_some c.flying) (sym e) ∙ k.1.0) (leads-append a.slots.queue q (ap leads (sym queue) ∙ k.1.1))) in
      (ap has_chunk queue ∙ chunk-append a.slots.queue q m.0, m.1),
)

write_by-next : (i : StreamId) (was : Bool) (v : Value) (p : PromiseId) (a : Acts) (refusal : Option Plain) → Still was a → Next i was (write_by i v p a refusal)
unfolding controller_write
write_by-next i was v p a (Some e) s = still_next i was (with_promises (settle p (Err e) a.out.promises) a) s
write_by-next i was v p a None s =
    let b : Acts = enqueue_chunk v (add_write_request p a) in
    advance-next i was (refresh_backpressure b) (same_still was b (refresh_backpressure b) (refresh-same b)
    (more_still was a b (record { value = Chunk v; size = size_of a.slots.size_by v }) refl refl s))

-- a close

pub fulfil_ready-same : (a : Acts) (w : Option Writer) → Same a (fulfil_ready a w)
fulfil_ready-same a w = grind arith

close-next : (i : StreamId) (was : Bool) (p : PromiseId) (a : Acts) → Still was a → Next i was (stream_close i p a)
unfolding stream_close controller_close
close-next i was p a s =
    let b : Acts = add_close_request p a in
    let c : Acts = fulfil_ready b b.slots.writer in
    let d : Acts = record c { slots = record c.slots { queue = enqueued CloseMark 0 c.slots.queue } } in
    either (Next i was) (has_ended a.slots.state || is_closing a.slots) (with_promises (settle p (Err type_error) a.out.promises) a) (advance_queue i d)
    (λ e. still_next i was (with_promises (settle p (Err type_error) a.out.promises) a) s)
    (λ e. advance-next i was d (more_still was c d (record { value = CloseMark; size = 0 }) refl refl (same_still was b c (fulfil_ready-same b b.slots.writer) s)))

propagating-next : (i : StreamId) (was : Bool) (p : PromiseId) (a : Acts) → Still was a → Next i was (close_with_error_propagation i p a)
unfolding close_with_error_propagation
propagating-next i was p a s =
    either (Next i was) (is_closing a.slots || is_closed a.slots.state) _ _ (λ e. still_next i was (with_promises (settle p (Ok Undefined) a.out.promises) a) s)
    (λ e. either (Next i was) (is_errored a.slots.state) _ _ (λ f. still_next i was (with_promises (settle p (Err a.slots.stored_error) a.out.promises) a) s) (λ f. close-next i was p a s))

-- an abort

pub not_ended_writable : (s : WritableState) → has_ended s ≡ false → is_erroring s ≡ false → s ≡ Writable
not_ended_writable s e f = grind arith

begin_abort-next : (i : StreamId) (was : Bool) (r : Plain) (p : PromiseId) (a : Acts) → has_ended a.slots.state ≡ false → Still was a → Next i was (begin_abort i r p a)
begin_abort-next i was r p a alive s =
    let b : Acts = add_pending_abort r p a in
    either (Next i was) (is_erroring a.slots.state) b (start_erroring i r b) (λ e. still_next i was b s) (λ e. start_erroring-next i was r b (not_ended_writable a.slots.state alive e) s)

pub signalled-same : (i : StreamId) (r : Plain) (a : Acts) (owner : Owner) → Same a (signalled i r a owner)
signalled-same i r a Host = record { core = refl; effects = refl }
signalled-same i r a (HalfOf t) = record { core = refl; effects = refl }
signalled-same i r a (BranchOf t half) = record { core = refl; effects = refl }
signalled-same i r a (EndOf c) = record { core = refl; effects = refl }

abort-next : (i : StreamId) (was : Bool) (r : Plain) (p : PromiseId) (a : Acts) → Still was a → Next i was (stream_abort i r p a)
unfolding stream_abort
abort-next i was r p a s =
    let b : Acts = signalled i r a a.slots.owner in
    let same = signalled-same i r a a.slots.owner in
    either (Next i was) (has_ended a.slots.state) (with_promises (settle p (Ok Undefined) a.out.promises) a) (begin_abort i r p b)
    (λ e. still_next i was (with_promises (settle p (Ok Undefined) a.out.promises) a) s)
    (λ e. begin_abort-next i was r p b (ap (λ (c : Core). has_ended c.state) same.core ∙ e) (same_still was a b same s))

abort_writable-next : (i : StreamId) (was : Bool) (r : Plain) (p : PromiseId) (a : Acts) → Still was a → Next i was (abort_if_writable i r p a)
unfolding abort_if_writable
abort_writable-next i was r p a s =
    either (Next i was) (is_writable a.slots.state) _ _ (λ e. abort-next i was r p a s) (λ e. still_next i was (with_promises (settle p (Ok Undefined) a.out.promises) a) s)

-- what an algorithm ends

pub release-same : (a : Acts) (w : Option Writer) → Same a (release_by a w)
release-same a w = grind arith

pub close_ended-same : (o : Result Plain Plain) (a : Acts) → Same a (close_ended o a)
close_ended-same o a = grind arith

pub abort_ended-same : (o : Result Plain Plain) (a : Acts) → Same a (abort_ended o a)
abort_ended-same o a = grind arith

pub unrequested-same : (a : Acts) → Same a (reject_close_and_closed a)
unfolding reject_close_and_closed
unrequested-same a = grind arith

pub closed_now : (a : Acts) → (finish_in_flight_close a).slots.state ≡ Closed
unfolding finish_in_flight_close
closed_now a = grind arith

-- no write is in flight once one has ended
ended_still : (was : Bool) (o : Result Plain Plain) (a : Acts) → a.out.effects ≡ [] → Still was (write_ended o a)
ended_still was o a q = (q, λ n. alone_needs (write_ended o a).slots refl n)

taken_still : (was : Bool) (o : Result Plain Plain) (a : Acts) → a.out.effects ≡ [] → Still was (without_first (write_ended o a))
taken_still was o a q = (q, λ n. alone_needs (without_first (write_ended o a)).slots refl n)

-- each operation but the handing on

pub operation-next : (i : StreamId) (operation : WritableOperation) (was : Bool) (a : Acts) → (IsHandOn operation → ⊥) → Still was a → Next i was (writable_operation i operation a)
unfolding set_up_writer writer_release writer_write start_settled write_settled close_settled finish_in_flight_close_with_error abort_settled
operation-next i (SetUpWriter w) was a u s = still_next i was (set_up_writer w a) s
operation-next i ReleaseWriter was a u s = still_next i was (writer_release a) (same_still was a (writer_release a) (release-same a a.slots.writer) s)
operation-next i (Write v p) was a u s = write_by-next i was v p a (write_refusal a.slots) s
operation-next i (Close p) was a u s = close-next i was p a s
operation-next i (ClosePropagating p) was a u s = propagating-next i was p a s
operation-next i (Abort r p) was a u s = abort-next i was r p a s
operation-next i (AbortIfWritable r p) was a u s = abort_writable-next i was r p a s
operation-next i (ErrorIfNeeded e) was a u s = error_if_needed-next i was e a s
operation-next i (HandOn taker) was a u s = absurd (u tt)
operation-next i (StartSettled (Ok v)) was a u s = advance-next i was (record a { slots = record a.slots { started = true } }) s
operation-next i (StartSettled (Err e)) was a u s = deal-next i was e (record a { slots = record a.slots { started = true } }) s
operation-next i (WriteSettled (Ok v)) was a u s =
    let b : Acts = without_first (write_ended (Ok Undefined) a) in advance-next i was (refresh_backpressure b) (same_still was b (refresh_backpressure b) (refresh-same b) (taken_still was (Ok Undefined) a s.0))
operation-next i (WriteSettled (Err e)) was a u s = deal-next i was e (write_ended (Err e) a) (ended_still was (Err e) a s.0)
operation-next i (CloseSettled (Ok v)) was a u s = ended_next i was (finish_in_flight_close a) (rw (closed_now a) refl)
operation-next i (CloseSettled (Err e)) was a u s =
    let b : Acts = close_ended (Err e) a in
    deal-next i was e (abort_ended (Err e) b) (same_still was b (abort_ended (Err e) b) (abort_ended-same (Err e) b) (same_still was a b (close_ended-same (Err e) a) s))
operation-next i (AbortSettled p (Ok v)) was a u s =
    let b : Acts = with_promises (settle p (Ok Undefined) a.out.promises) a in still_next i was (reject_close_and_closed b) (same_still was b (reject_close_and_closed b) (unrequested-same b) s)
operation-next i (AbortSettled p (Err e)) was a u s =
    let b : Acts = with_promises (settle p (Err e) a.out.promises) a in still_next i was (reject_close_and_closed b) (same_still was b (reject_close_and_closed b) (unrequested-same b) s)

-- the write that ended isn't in flight any more, and none is handed on but by the write algorithm
pub settled-next : (i : StreamId) (o : Result Plain Plain) (a : Acts) → a.out.effects ≡ [] → Next i false (writable_operation i (WriteSettled o) a)
unfolding write_settled
settled-next i (Ok v) a q =
    let b : Acts = without_first (write_ended (Ok Undefined) a) in advance-next i false (refresh_backpressure b) (same_still false b (refresh_backpressure b) (refresh-same b) (taken_still false (Ok Undefined) a q))
settled-next i (Err e) a q = deal-next i false e (write_ended (Err e) a) (ended_still false (Err e) a q)

-- a chunk that is handed on isn't needed any more

handed_by-none : (i : StreamId) (taker : Taker) (a : Acts) (first : Option WriteRecord) → first_value a.slots.queue ≡ first → (needs a.slots ≡ true → has_chunk a.slots.queue ≡ true) → needs (hand_on_first i taker a first).slots ≡ false
handed_by-none i taker a first e n = grind (arith, e, n)

pub handed-none : (i : StreamId) (taker : Taker) (a : Acts) → (needs a.slots ≡ true → has_chunk a.slots.queue ≡ true) → needs (hand_on i taker a).slots ≡ false
unfolding hand_on
handed-none i taker a n = handed_by-none i taker a (first_value a.slots.queue) refl n
