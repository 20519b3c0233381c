-- What the calls on a writable stream keep: no promise that isn't open is settled.
use Rattle.ws_writable_laws.proofs.Shape.{has_mark}
use Rattle.ws_value.specs.declared.ids.PortId.{PortId}
use Rattle.ws_writable_laws.proofs.Expects.{Marked}
use Rattle.ws_steps.specs.declared.writable.WritableOperation.{WritableOperation}
use Rattle.ws_steps.specs.declared.writable.WritableOperation.TheVariants.{SetUpWriter, ReleaseWriter, Write, Close, ClosePropagating, Abort, AbortIfWritable, ErrorIfNeeded, HandOn, StartSettled, WriteSettled, CloseSettled, AbortSettled}
use Rattle.ws_steps.specs.Operations.{writable_operation}
use Rattle.ws_steps.specs.declared.{transform.Taker.TheVariants.{ToHost, ToTransform, ToPort}, transform.TransformId.{TransformId}, writable.WriteRecord.{WriteRecord}, writable.WriteRecord.TheVariants.{Chunk, InFlight, CloseMark}}
use Rattle.ws_steps.specs.declared.{effects.Owner.{Owner}, effects.Owner.TheVariants.{Host, HalfOf, BranchOf, EndOf}}
use Rattle.std.proofs.Common.{◌≡◌, ℕ, ◌+◌, Bool, true, false, not, ◌&&◌, ◌||◌, if◌then◌else◌, is_some, List, [], ◌∷◌, ◌++◌, Option, Some, None, Result, Ok, Err, refl, sym, ap, subst, arith}
use Rattle.ws_value.specs.declared.ids.PromiseId.{PromiseId}
use Rattle.ws_value.specs.declared.ids.StreamId.{StreamId}
use Rattle.ws_value.specs.declared.value.Plain.{Plain}
use Rattle.ws_value.specs.declared.value.Plain.TheVariants.{Undefined}
use Rattle.ws_value.specs.declared.value.Value.{Value}
use Rattle.ws_steps.specs.declared.{queue.Queued.{Queued}, writable.WritableState.{WritableState}, writable.WritableState.TheVariants.{Writable, Erroring, Errored, Closed}}
use Rattle.ws_steps.specs.declared.{writable.WriteRecord.{WriteRecord}, writable.WriteRecord.TheVariants.{Chunk, CloseMark}, writable.Writer.{Writer}}
use Rattle.ws_steps.specs.Promises.{Table, settle}
use Rattle.ws_steps.specs.Queues.{enqueued, size_of, first_value}
use Rattle.ws_steps.specs.Effects.{type_error}
use Rattle.ws_steps.specs.Writable.{Slots, Acts, with_promises, is_erroring, is_errored, is_closed, is_writable, is_closing, has_ended, refresh_backpressure, start_erroring, advance_queue, enqueue_chunk, controller_write, add_write_request, write_refusal, write_by, controller_close, add_close_request, fulfil_ready, stream_close, close_with_error_propagation, add_pending_abort, stream_abort, abort_if_writable, ready_promise, closed_promise, set_up_writer, release_by, signalled, begin_abort, settle_pending, hand_on_first, writer_release, writer_write, hand_on}
use Rattle.ws_laws.proofs.Tables.{either}
use Rattle.ws_promise_laws.proofs.Tokens.{in_effects-append, names, in_effects, of_writable}
use Rattle.ws_promise_laws.proofs.Holds.{Holds, when, holds-less}
use Rattle.ws_promise_laws.proofs.Reacting.{holds-told}
use Rattle.ws_promise_laws.proofs.Settling.{holds-settle, holds-settle_pending}
use Rattle.ws_promise_laws.proofs.Streams.{of_closed, of_ready, in_list, is_alive, is_awaited, in_asked, Writes, Calm}
use Rattle.ws_promise_laws.proofs.WritableErroring.{firm, loose, unready, refresh_backpressure-keeps, start_erroring-keeps, settle-keeps, writes-less, writes-quiet, controller_error_if_needed-keeps}
use Rattle.ws_promise_laws.proofs.WritableQueue.{Grounded, advance_queue-keeps, refresh-grounded, refresh-marked, start_settled-keeps, write_settled-keeps, close_settled-keeps, abort_settled-keeps}
use Rattle.ws_laws.proofs.Truth.{nor_left, nor_right}

-- a write

in_list-last : (x : PromiseId) (ps : List PromiseId) (p : PromiseId) → in_list x (ps ++ p ∷ []) ≡ in_list x ps + names x p
in_list-last x [] p = omega arith
in_list-last x (q ∷ ps) p = let n = in_list-last x ps p in omega arith

-- a chunk is no mark
chunk_marked : (v : Value) (n : ℕ) (queue : List (Queued WriteRecord)) → has_mark (enqueued (Chunk v) n queue) ≡ has_mark queue
chunk_marked v n [] = refl
chunk_marked v n (q ∷ qs) = rw (chunk_marked v n qs) refl

not_refused : (s : Slots) → None ≡ write_refusal s → is_closing s ≡ false
not_refused s e = grind arith

write_by-keeps : (me : StreamId) (f l : PromiseId → ℕ) (v : Value) (p : PromiseId) (a : Acts) (refusal : Option Plain) → refusal ≡ write_refusal a.slots → Marked a.slots → Writes (λ x. f x + names x p) l a
    → Writes f l (write_by me v p a refusal)
unfolding controller_write
write_by-keeps me f l v p a (Some e) r m k = settle-keeps f l p (Err e) a k
write_by-keeps me f l v p a None r m k =
    let closing : is_closing a.slots ≡ false = not_refused a.slots r in
    let b : Acts = enqueue_chunk v (add_write_request p a) in
    let asked : Writes f l b = writes-less f l (λ x. names x p) a b refl (λ x. grind (arith, in_list-last)) (λ x. grind (arith, in_list-last)) k.calm k in
    advance_queue-keeps me f l (refresh_backpressure b) (refresh-grounded b (λ e. nor_right (is_some a.slots.close_request) (is_some a.slots.close_in_flight) closing))
    (refresh-marked b (record { alive = rw (chunk_marked v (size_of a.slots.size_by v) a.slots.queue) m.alive; requested = rw (chunk_marked v (size_of a.slots.size_by v) a.slots.queue) m.requested }))
    (refresh_backpressure-keeps f l b asked)

-- a transform stream is told the promise of which it takes care
hand_to-keeps : (me : StreamId) (f l : PromiseId → ℕ) (t : TransformId) (d : PromiseId) (a : Acts) (first : Option WriteRecord) → Writes (λ x. f x + names x d) l a → Writes f l (hand_on_first me (ToTransform t d) a first)
hand_to-keeps me f l t d a None k = writes-less f l (λ x. names x d) a a refl (λ x. grind arith) (λ x. grind arith) k.calm k
hand_to-keeps me f l t d a (Some CloseMark) k = writes-less f l (λ x. names x d) a a refl (λ x. grind arith) (λ x. grind arith) k.calm k
hand_to-keeps me f l t d a (Some InFlight) k = writes-less f l (λ x. names x d) a a refl (λ x. grind arith) (λ x. grind arith) k.calm k
hand_to-keeps me f l t d a (Some (Chunk v)) k =
    writes-less f l (λ x. names x d) a (hand_on_first me (ToTransform t d) a (Some (Chunk v))) refl (λ x. grind (arith, in_effects-append)) (λ x. grind (arith, in_effects-append)) k.calm k

hand_port-keeps : (me : StreamId) (f l : PromiseId → ℕ) (c : PortId) (d : PromiseId) (a : Acts) (first : Option WriteRecord) → Writes (λ x. f x + names x d) l a → Writes f l (hand_on_first me (ToPort c d) a first)
hand_port-keeps me f l c d a None k = writes-less f l (λ x. names x d) a a refl (λ x. grind arith) (λ x. grind arith) k.calm k
hand_port-keeps me f l c d a (Some CloseMark) k = writes-less f l (λ x. names x d) a a refl (λ x. grind arith) (λ x. grind arith) k.calm k
hand_port-keeps me f l c d a (Some InFlight) k = writes-less f l (λ x. names x d) a a refl (λ x. grind arith) (λ x. grind arith) k.calm k
hand_port-keeps me f l c d a (Some (Chunk v)) k =
    writes-less f l (λ x. names x d) a (hand_on_first me (ToPort c d) a (Some (Chunk v))) refl (λ x. grind (arith, in_effects-append)) (λ x. grind (arith, in_effects-append)) k.calm k

hand_on-keeps : (me : StreamId) (f l : PromiseId → ℕ) (a : Acts) → Writes f l a → Writes f l (hand_on me ToHost a)
unfolding hand_on
hand_on-keeps me f l a k = writes-quiet f l a (hand_on_first me ToHost a (first_value a.slots.queue)) (grind arith) (λ x. grind (arith, in_effects-append)) (λ x. grind (arith, in_effects-append)) (grind arith) k

-- a close

-- what there is once the close is requested: the ready promise counts as it did before
abbrev Requested : (f l : PromiseId → ℕ) → Acts → Type 0
Requested f l a =
    Holds (λ x. f x + ((in_asked x a.slots + (when (is_alive a.slots) (of_closed x a.slots.writer) + when (a.slots.backpressure && is_writable a.slots.state) (of_ready x a.slots.writer))) + in_effects x a.out.effects))
    (λ x. l x + (when (not (is_alive a.slots)) (of_closed x a.slots.writer) + when (not (a.slots.backpressure && is_writable a.slots.state)) (of_ready x a.slots.writer))) a.out.promises

fulfil_ready-keeps : (f l : PromiseId → ℕ) (a : Acts) (w : Option Writer) → a.slots.writer ≡ w → is_some a.slots.close_request ≡ true → Calm a.slots → Requested f l a → Writes f l (fulfil_ready a w)
fulfil_ready-keeps f l a None e r c k = record { holds = holds-less _ _ _ _ a.out.promises k (λ x. grind arith) (λ x. grind arith); calm = c }
fulfil_ready-keeps f l a (Some w) e r c k =
    either (Writes f l) (a.slots.backpressure && is_writable a.slots.state) (with_promises (settle w.ready (Ok Undefined) a.out.promises) a) a
    (λ h. record { holds = holds-settle _ _ _ _ w.ready (Ok Undefined) a.out.promises k (λ x. grind arith) (λ x. grind arith); calm = c })
    (λ h. record { holds = holds-less _ _ _ _ a.out.promises k (λ x. grind arith) (λ x. grind arith); calm = c })

fulfil_ready-slots : (a : Acts) (w : Option Writer) → (fulfil_ready a w).slots ≡ a.slots
fulfil_ready-slots a w = grind arith

-- the close mark behind a queue
abbrev marked_slots : Slots → Slots
marked_slots s = record s { queue = enqueued CloseMark 0 s.queue }

stream_close-keeps : (me : StreamId) (f l : PromiseId → ℕ) (p : PromiseId) (a : Acts) → Writes (λ x. f x + names x p) l a → Writes f l (stream_close me p a)
unfolding stream_close controller_close
stream_close-keeps me f l p a k =
    let b : Acts = add_close_request p a in
    let c : Acts = fulfil_ready b b.slots.writer in
    either (Writes f l) (has_ended a.slots.state || is_closing a.slots) (with_promises (settle p (Err type_error) a.out.promises) a) (advance_queue me (record c { slots = marked_slots c.slots }))
    (λ h. settle-keeps f l p (Err type_error) a k)
    (λ takes.
    let alive : has_ended a.slots.state ≡ false = nor_left (has_ended a.slots.state) (is_closing a.slots) takes in
    let e : is_closing a.slots ≡ false = nor_right (has_ended a.slots.state) (is_closing a.slots) takes in
    let added : Requested f l b = holds-less _ _ _ _ a.out.promises k.holds (λ x. grind arith) (λ x. grind arith) in
    let requested : Writes f l c = fulfil_ready-keeps f l b b.slots.writer refl refl k.calm added in
    let same : marked_slots b.slots ≡ marked_slots c.slots = ap marked_slots (sym (fulfil_ready-slots b b.slots.writer)) in
    let grounded : Grounded (marked_slots b.slots) = λ g. nor_right (is_some a.slots.close_request) (is_some a.slots.close_in_flight) e in
    let marked : Marked (marked_slots b.slots) = record { alive = λ g. alive; requested = λ g. refl } in
    advance_queue-keeps me f l (record c { slots = marked_slots c.slots }) (subst Grounded same grounded) (subst Marked same marked) (record { holds = requested.holds; calm = requested.calm }))

close_propagating-keeps : (me : StreamId) (f l : PromiseId → ℕ) (p : PromiseId) (a : Acts) → Writes (λ x. f x + names x p) l a → Writes f l (close_with_error_propagation me p a)
unfolding close_with_error_propagation
close_propagating-keeps me f l p a k =
    let errored : Acts = with_promises (settle p (Err a.slots.stored_error) a.out.promises) a in
    either (Writes f l) (is_closing a.slots || is_closed a.slots.state) (with_promises (settle p (Ok Undefined) a.out.promises) a) (if is_errored a.slots.state then errored else stream_close me p a)
    (λ e. settle-keeps f l p (Ok Undefined) a k)
    (λ e. either (Writes f l) (is_errored a.slots.state) errored (stream_close me p a) (λ h. settle-keeps f l p (Err a.slots.stored_error) a k) (λ h. stream_close-keeps me f l p a k))

-- an abort

-- the host's sink hears of it
signalled-keeps : (me : StreamId) (f l : PromiseId → ℕ) (r : Plain) (a : Acts) (owner : Owner) → Writes f l a → Writes f l (signalled me r a owner)
signalled-keeps me f l r a Host k = record { holds = holds-told (firm f a) (loose l a) _ a.out.promises k.holds; calm = k.calm }
signalled-keeps me f l r a (HalfOf t) k = k
signalled-keeps me f l r a (BranchOf t half) k = k
signalled-keeps me f l r a (EndOf c) k = k

begin_abort-keeps : (me : StreamId) (f l : PromiseId → ℕ) (r : Plain) (p : PromiseId) (a : Acts) → has_ended a.slots.state ≡ false → Writes (λ x. f x + names x p) l a → Writes f l (begin_abort me r p a)
begin_abort-keeps me f l r p a alive k =
    let b : Acts = add_pending_abort r p a in
    let kept : Writes f l b = writes-less f l (λ x. names x p) a b refl (λ x. grind arith) (λ x. grind arith) k.calm k in
    either (Writes f l) (is_erroring a.slots.state) b (start_erroring me r b) (λ e. kept) (λ e. start_erroring-keeps me f l r b alive (unready f l b kept))

stream_abort-keeps : (me : StreamId) (f l : PromiseId → ℕ) (r : Plain) (p : PromiseId) (a : Acts) → Writes (λ x. f x + names x p) l a → Writes f l (stream_abort me r p a)
unfolding stream_abort
stream_abort-keeps me f l r p a k =
    let b : Acts = signalled me r a a.slots.owner in
    either (Writes f l) (has_ended a.slots.state) (with_promises (settle p (Ok Undefined) a.out.promises) a) (begin_abort me r p b)
    (λ e. settle-keeps f l p (Ok Undefined) a k)
    (λ alive. begin_abort-keeps me f l r p b (grind arith) (signalled-keeps me (λ x. f x + names x p) l r a a.slots.owner k))

abort_if_writable-keeps : (me : StreamId) (f l : PromiseId → ℕ) (r : Plain) (p : PromiseId) (a : Acts) → Writes (λ x. f x + names x p) l a → Writes f l (abort_if_writable me r p a)
unfolding abort_if_writable
abort_if_writable-keeps me f l r p a k =
    either (Writes f l) (is_writable a.slots.state) (stream_abort me r p a) (with_promises (settle p (Ok Undefined) a.out.promises) a)
    (λ e. stream_abort-keeps me f l r p a k) (λ e. settle-keeps f l p (Ok Undefined) a k)

-- writers

-- promise p is to be settled, or is settled
abbrev Counted : (f l : PromiseId → ℕ) (b : Bool) → PromiseId → Table → Type 0
Counted f l b p t = Holds (λ x. f x + when b (names x p)) (λ x. l x + when (not b) (names x p)) t

counted-open : (f l : PromiseId → ℕ) (b : Bool) (p : PromiseId) (t : Table) → b ≡ true → Holds (λ x. f x + names x p) l t → Counted f l b p t
counted-open f l b p t e k = holds-less _ _ _ _ t k (λ x. grind arith) (λ x. grind arith)

counted-settled : (f l : PromiseId → ℕ) (b : Bool) (p : PromiseId) (o : Result Plain Plain) (t : Table) → b ≡ false → Holds (λ x. f x + names x p) l t → Counted f l b p (settle p o t)
counted-settled f l b p o t e k = holds-settle _ _ _ _ p o t k (λ x. grind arith) (λ x. grind arith)

ready_promise-holds : (f l : PromiseId → ℕ) (p : PromiseId) (s : Slots) (t : Table) (state : WritableState) → Holds (λ x. f x + names x p) l t
    → Counted f l ((s.backpressure && is_writable state) && not (is_closing s)) p (ready_promise p s t state)
ready_promise-holds f l p s t Writable k =
    let b : Bool = (s.backpressure && true) && not (is_closing s) in
    either (Counted f l b p) (not (is_closing s) && s.backpressure) t (settle p (Ok Undefined) t)
    (λ e. counted-open f l b p t (grind arith) k) (λ e. counted-settled f l b p (Ok Undefined) t (grind arith) k)
ready_promise-holds f l p s t Erroring k = counted-settled f l _ p (Err s.stored_error) t (grind arith) k
ready_promise-holds f l p s t Closed k = counted-settled f l _ p (Ok Undefined) t (grind arith) k
ready_promise-holds f l p s t Errored k = counted-settled f l _ p (Err s.stored_error) t (grind arith) k

closed_promise-holds : (f l : PromiseId → ℕ) (p : PromiseId) (s : Slots) (t : Table) (state : WritableState) → Holds (λ x. f x + names x p) l t → Counted f l (not (has_ended state)) p (closed_promise p s t state)
closed_promise-holds f l p s t Writable k = counted-open f l true p t refl k
closed_promise-holds f l p s t Erroring k = counted-open f l true p t refl k
closed_promise-holds f l p s t Closed k = counted-settled f l false p (Ok Undefined) t refl k
closed_promise-holds f l p s t Errored k = counted-settled f l false p (Err s.stored_error) t refl k

set_up_writer-keeps : (f l : PromiseId → ℕ) (w : Writer) (a : Acts) → Writes (λ x. f x + (names x w.ready + names x w.closed)) l a → Writes f l (set_up_writer w a)
unfolding set_up_writer
set_up_writer-keeps f l w a k =
    let t : Table = ready_promise w.ready a.slots a.out.promises a.slots.state in
    let b : Acts = record a { slots = record a.slots { writer = Some w } } in
    let g : PromiseId → ℕ = λ x. f x + (in_asked x a.slots + in_effects x a.out.effects) in
    let unlocked : Holds (λ x. (g x + names x w.closed) + names x w.ready) l a.out.promises =
    holds-less (firm (λ x. f x + (names x w.ready + names x w.closed)) a) (loose l a) (λ x. (g x + names x w.closed) + names x w.ready) l a.out.promises k.holds (λ x. omega arith) (λ x. omega arith) in
    let m : PromiseId → ℕ = λ x. l x + when (not (is_awaited b.slots)) (names x w.ready) in
    let ready : Holds (λ x. (g x + names x w.closed) + when (is_awaited b.slots) (names x w.ready)) m t = ready_promise-holds (λ x. g x + names x w.closed) l w.ready a.slots a.out.promises a.slots.state unlocked in
    let open_ : Holds (λ x. (g x + when (is_awaited b.slots) (names x w.ready)) + names x w.closed) m t = holds-less _ m _ m t ready (λ x. omega arith) (λ x. omega arith) in
    let closed = closed_promise-holds (λ x. g x + when (is_awaited b.slots) (names x w.ready)) m w.closed a.slots t a.slots.state open_ in
    record {
      holds = holds-less _ _ (firm f b) (loose l b) (closed_promise w.closed a.slots t a.slots.state) closed (λ x. omega arith) (λ x. omega arith);
      calm = k.calm;
    }

release_by-keeps : (f l : PromiseId → ℕ) (a : Acts) (w : Option Writer) → a.slots.writer ≡ w → Writes f l a → Writes f l (release_by a w)
release_by-keeps f l a None e k = k
release_by-keeps f l a (Some w) e k =
    let t : Table = settle_pending w.ready (Err type_error) a.out.promises in
    let g : PromiseId → ℕ = λ x. f x + (in_asked x a.slots + in_effects x a.out.effects) in
    let m : PromiseId → ℕ = λ x. l x + (names x w.closed + names x w.ready) in
    let aside : Holds g m a.out.promises = holds-less _ _ g m a.out.promises k.holds (λ x. omega arith) (λ x. grind arith) in
    let ready = holds-settle_pending g m w.ready (Err type_error) a.out.promises (λ x. omega arith) aside in
    let closed = holds-settle_pending g m w.closed (Err type_error) t (λ x. omega arith) ready in
    record { holds = holds-less g m _ _ (settle_pending w.closed (Err type_error) t) closed (λ x. grind arith) (λ x. grind arith); calm = k.calm }

-- every operation, which is given the promises that it answers

-- what is to be known of a stream's slots before an operation
abbrev pub Expects : WritableOperation → Slots → Type 0
Expects (Write v p) s = Marked s
Expects (StartSettled o) s = Marked s × (is_some s.close_in_flight ≡ false)
Expects (WriteSettled o) s = Marked s × (is_some s.close_in_flight ≡ false)
Expects (CloseSettled o) s = is_some s.close_in_flight ≡ true
Expects (AbortSettled p o) s = has_ended s.state ≡ true
Expects _ s = Unit {0}

ungiven : (f l : PromiseId → ℕ) (a : Acts) → Writes (λ x. f x + 0) l a → Writes f l a
ungiven f l a k = writes-less f l (λ x. 0) a a refl (λ x. omega arith) (λ x. omega arith) k.calm k

pub writes : (f l : PromiseId → ℕ) (i : StreamId) (operation : WritableOperation) (a : Acts) → Expects operation a.slots → Writes (λ x. f x + of_writable x operation) l a
    → Writes f l (writable_operation i operation a)
unfolding writer_release writer_write hand_on
writes f l i (SetUpWriter w) a e k = set_up_writer-keeps f l w a k
writes f l i ReleaseWriter a e k = release_by-keeps f l a a.slots.writer refl (ungiven f l a k)
writes f l i (Write v p) a e k = write_by-keeps i f l v p a (write_refusal a.slots) refl e k
writes f l i (Close p) a e k = stream_close-keeps i f l p a k
writes f l i (ClosePropagating p) a e k = close_propagating-keeps i f l p a k
writes f l i (Abort r p) a e k = stream_abort-keeps i f l r p a k
writes f l i (AbortIfWritable r p) a e k = abort_if_writable-keeps i f l r p a k
writes f l i (ErrorIfNeeded r) a e k = controller_error_if_needed-keeps i f l r a (ungiven f l a k)
writes f l i (HandOn ToHost) a e k = hand_on-keeps i f l a (ungiven f l a k)
writes f l i (HandOn (ToTransform t d)) a e k = hand_to-keeps i f l t d a (first_value a.slots.queue) k
writes f l i (HandOn (ToPort c d)) a e k = hand_port-keeps i f l c d a (first_value a.slots.queue) k
writes f l i (StartSettled o) a e k = start_settled-keeps i f l o a e.1 e.0 (ungiven f l a k)
writes f l i (WriteSettled o) a e k = write_settled-keeps i f l o a e.1 e.0 (ungiven f l a k)
writes f l i (CloseSettled o) a e k = close_settled-keeps i f l o a e (ungiven f l a k)
writes f l i (AbortSettled p o) a e k = abort_settled-keeps f l p o a e k
