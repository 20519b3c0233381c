-- While a byte stream is readable, a BYOB request stands for a descriptor; and an errored stream has none.
use Rattle.ws_steps.specs.Bytes.{is_of_tee, if_meant}
use Rattle.std.proofs.Common.{◌≡◌, ◌≢◌, ℕ, zero, suc, ◌-◌, ◌%◌, Bool, true, false, List, [], ◌∷◌, ◌++◌, length, take, drop, None, refl, sym, ◌∙◌, ◌&&◌, not, nat_lt, if◌then◌else◌}
use Rattle.std.specs.Prelude.{is_none, Result, Ok, Err}
use Rattle.ws_steps.specs.Bytes.{Slots, Acts, with_slots, in_stream, has_default_reader, has_byob_reader, with_requests, can_take, should_call_pull, call_pull_if_needed, close_stream_keeping, stream_close, invalidate_request, clear_all, controller_error, handle_queue_drain, fill_read_request, append, wait, auto_allocate, pull_from, pull_steps, read_by, default_reader_read, close_by, controller_close, commit_to, commit, commit_all, put_processed, processed_of, process_and_commit, detach_first, detached_to_queue, renounce, process_requests, drop_first, accept_for, accept_default, accept, controller_enqueue, pull_waits, put_queue, pull_filled, pull_from_queue, is_closed, is_errored, pull_first, pull_into, byob_reader_read, commit_first, respond_closed, put_first, respond_full, respond_readable, respond_first, respond, respond_internal, may_respond, start_settled, pull_ended, pull_settled, cancel_by, stream_cancel, cancel_if_readable, reader_release, reader_initialize, may_read, may_pull_into, is_least, read, read_into}
use Rattle.ws_steps.specs.Descriptors.{Descriptor, is_for_nobody, without_reader, has_part, Filling, fill_from_queue, Processed}
use Rattle.ws_steps.specs.Queues.{is_empty}
use Rattle.ws_steps.specs.Effects.{type_error}
use Rattle.ws_steps.specs.Promises.{Table}
use Rattle.ws_steps.specs.Operations.{byte_readable_operation, byte_operation}
use Rattle.ws_steps.specs.declared.readable.ReadableState.{ReadableState}
use Rattle.ws_steps.specs.declared.readable.ReadableState.TheVariants.{Readable, Closed, Errored}
use Rattle.ws_steps.specs.declared.byte.RoomKind.TheVariants.{ForDefault, ForByob}
use Rattle.ws_steps.specs.declared.byte.ReaderKind.{ReaderKind}
use Rattle.ws_steps.specs.declared.byte.ReaderKind.TheVariants.{Default, Byob}
use Rattle.ws_steps.specs.declared.byte.ByteOperation.{ByteOperation}
use Rattle.ws_steps.specs.declared.readable.ReadRequest.{ReadRequest}
use Rattle.ws_steps.specs.declared.readable.ReadableOperation.{ReadableOperation}
use Rattle.ws_value.specs.declared.ids.StreamId.{StreamId}
use Rattle.ws_value.specs.declared.ids.PromiseId.{PromiseId}
use Rattle.ws_value.specs.declared.value.Plain.{Plain}
use Rattle.ws_laws.proofs.Tables.{either}
use Rattle.ws_byte_laws.proofs.Given.{starting}
use Rattle.ws_byte_laws.proofs.Fine.{of_stream, shut}
use Rattle.ws_byte_laws.proofs.Enqueue.{Same, pull_same}
use Rattle.ws_byte_laws.proofs.Leaving.{initialized_by, Released, released}
use Rattle.ws_byte_laws.proofs.Law.{readable_of, meant, both_right}
use Rattle.ws_steps.specs.Readable as readable
use Rattle.ws_steps.specs.declared.byte.ByteOperation.TheVariants as own
use Rattle.ws_steps.specs.declared.readable.ReadableOperation.TheVariants as names
use Rattle.ws_byte_laws.specs.Descriptors.{Backed}

abbrev BackedAt : Acts → Type 0
BackedAt a = Backed a.slots

free : (x : Slots) → x.request ≡ None → Backed x
free x e = record { live = λ r d. e; dead = λ r. e }

closed : (x : Slots) → x.stream.state ≡ Closed → Backed x
closed x e = record { live = λ r. absurd (cc); dead = λ r. absurd (cc) }

-- the same request, in the same state, and no descriptor went
same_fits : (x y : Slots) → y.stream.state ≡ x.stream.state → y.request ≡ x.request → (y.descriptors ≡ [] → x.descriptors ≡ []) → Backed x → Backed y
same_fits x y s r d f = record { live = λ e g. r ∙ f.live (sym s ∙ e) (d g); dead = λ e. r ∙ f.dead (sym s ∙ e) }

-- what leaves the request

pull_request : (me : StreamId) (a : Acts) → (call_pull_if_needed me a).slots.request ≡ a.slots.request
unfolding call_pull_if_needed
pull_request me a =
    either (λ (z : Acts). z.slots.request ≡ a.slots.request) (should_call_pull a.slots) (in_stream (readable.call_pull me) a) a (λ c. refl) (λ c. refl)

pull_fits : (me : StreamId) (a : Acts) → Backed a.slots → Backed (call_pull_if_needed me a).slots
pull_fits me a f =
    let k : Same a (call_pull_if_needed me a) = pull_same me a in
    same_fits a.slots (call_pull_if_needed me a).slots k.state (pull_request me a) (λ e. sym k.descriptors ∙ e) f

error_fits : (me : StreamId) (e : Plain) (a : Acts) → Backed a.slots → Backed (controller_error me e a).slots
unfolding controller_error
error_fits me e a f =
    either BackedAt (readable.is_readable a.slots.stream.state) (in_stream (readable.stream_error me e) (clear_all a)) a (λ c. free _ refl) (λ c. f)

close_fits : (me : StreamId) (a : Acts) → Backed (stream_close me a).slots
close_fits me a = closed (stream_close me a).slots (shut me a).state

drain_fits : (me : StreamId) (a : Acts) → Backed a.slots → Backed (handle_queue_drain me a).slots
unfolding handle_queue_drain
drain_fits me a f =
    either BackedAt (is_empty a.slots.queue && a.slots.stream.close_requested) (stream_close me a) (call_pull_if_needed me a) (λ c. close_fits me a) (λ c. pull_fits me a f)

more_some : (ds : List Descriptor) (d : Descriptor) → ds ++ d ∷ [] ≡ [] → ds ≡ []
more_some [] d e = refl
more_some (x ∷ ds) d e = cc

allocate_fits : (q : ReadRequest) (a : Acts) (n : ℕ) → Backed a.slots → Backed (wait q (auto_allocate a n)).slots
allocate_fits q a zero f = record { live = f.live; dead = f.dead }
allocate_fits q a (suc n) f = same_fits a.slots (wait q (auto_allocate a (suc n))).slots refl refl (more_some a.slots.descriptors (record { filled = []; room = suc n; minimum = 1; element = 1; room_kind = ForDefault })) f

pull_from_fits : (me : StreamId) (q : ReadRequest) (a : Acts) (queue : List (List ℕ)) → Backed a.slots → Backed (pull_from me q a queue).slots
pull_from_fits me q a [] f = pull_fits me (wait q (auto_allocate a a.slots.auto)) (allocate_fits q a a.slots.auto f)
pull_from_fits me q a (b ∷ bs) f = drain_fits me (with_slots (record a.slots { queue = bs }) a) (record { live = f.live; dead = f.dead })

read_fits : (me : StreamId) (q : ReadRequest) (a : Acts) (state : ReadableState) → Backed a.slots → Backed (read_by me q (in_stream readable.disturb a) state).slots
unfolding pull_steps readable.disturb
read_fits me q a Readable f = pull_from_fits me q (in_stream readable.disturb a) a.slots.queue (record { live = f.live; dead = f.dead })
read_fits me q a Closed f = record { live = f.live; dead = f.dead }
read_fits me q a Errored f = record { live = f.live; dead = f.dead }

cancel_fits : (me : StreamId) (r : Plain) (p : PromiseId) (a : Acts) (state : ReadableState) → Backed a.slots → Backed (cancel_by me r p (in_stream readable.disturb a) state).slots
unfolding readable.disturb
cancel_fits me r p a Readable f = free _ refl
cancel_fits me r p a Closed f = record { live = f.live; dead = f.dead }
cancel_fits me r p a Errored f = record { live = f.live; dead = f.dead }

close_by_fits : (me : StreamId) (a : Acts) (queue : List (List ℕ)) → Backed a.slots → Backed (close_by me a queue).slots
close_by_fits me a (b ∷ bs) f = record { live = f.live; dead = f.dead }
close_by_fits me a [] f = either BackedAt (has_part a.slots.descriptors) (controller_error me type_error a) (stream_close me a) (λ c. error_fits me type_error a f) (λ c. close_fits me a)

ended_fits : (me : StreamId) (a : Acts) (again : Bool) → Backed a.slots → Backed (pull_ended me a again).slots
ended_fits me a false f = f
ended_fits me a true f = pull_fits me (with_slots (record a.slots { stream = record a.slots.stream { pull_again = false } }) a) (record { live = f.live; dead = f.dead })

settled_fits : (me : StreamId) (o : Result Plain Plain) (a : Acts) → Backed a.slots → Backed (pull_settled me o a).slots
unfolding pull_settled
settled_fits me (Ok v) a f = ended_fits me (with_slots (record a.slots { stream = record a.slots.stream { pulling = false } }) a) a.slots.stream.pull_again (record { live = f.live; dead = f.dead })
settled_fits me (Err e) a f = error_fits me e a f

start_fits : (me : StreamId) (o : Result Plain Plain) (a : Acts) → Backed a.slots → Backed (start_settled me o a).slots
unfolding start_settled
start_fits me (Ok v) a f = pull_fits me (with_slots (record a.slots { stream = record a.slots.stream { started = true } }) a) (record { live = f.live; dead = f.dead })
start_fits me (Err e) a f = error_fits me e a f

initialize_fits : (kind : ReaderKind) (p : PromiseId) (a : Acts) → Backed a.slots → Backed (reader_initialize kind p a).slots
unfolding reader_initialize readable.reader_generic_initialize
initialize_fits kind p a f =
    meant BackedAt (is_none a.slots.stream.reader) (initialized_by kind p a) a (λ c. record { live = f.live; dead = f.dead }) (record { live = f.live; dead = f.dead })

none_kept : (ds : List Descriptor) → without_reader ds ≡ [] → ds ≡ []
none_kept [] e = refl
none_kept (d ∷ ds) e = cc

pub operation_fits : (me : StreamId) (op : ReadableOperation) (s : Slots) (t : Table) → Backed s → Backed (byte_readable_operation me op (starting s t)).slots
unfolding read default_reader_read controller_close cancel_if_readable stream_cancel reader_release readable.disturb
operation_fits me (names.InitializeReader p) s t f = initialize_fits Default p (starting s t) f
operation_fits me names.ReleaseReader s t f =
    let k : Released (of_stream (starting s t)) (readable.reader_release me (of_stream (starting s t))) = released me (of_stream (starting s t)) in
    same_fits s _ k.state refl (none_kept s.descriptors) f
operation_fits me names.Disturb s t f = record { live = f.live; dead = f.dead }
operation_fits me (names.Read q) s t f =
    either BackedAt (is_of_tee q) (starting s t) (if_meant (may_read s) (default_reader_read me q (starting s t)) (starting s t)) (λ e. record { live = f.live; dead = f.dead })
    (λ e. meant BackedAt (may_read s) (default_reader_read me q (starting s t)) (starting s t) (λ c. read_fits me q (starting s t) s.stream.state f) (record { live = f.live; dead = f.dead }))
operation_fits me (names.Cancel r p) s t f = cancel_fits me r p (starting s t) s.stream.state f
operation_fits me (names.CancelIfReadable r p) s t f =
    either BackedAt (readable.is_readable s.stream.state) (stream_cancel me r p (starting s t)) _ (λ c. cancel_fits me r p (starting s t) s.stream.state f) (λ c. f)
operation_fits me (names.Enqueue v) s t f = f
operation_fits me names.Close s t f = either BackedAt (can_take s) (close_by me (starting s t) s.queue) (starting s t) (λ c. close_by_fits me (starting s t) s.queue f) (λ c. f)
operation_fits me (names.Error e) s t f = error_fits me e (starting s t) f
operation_fits me (names.StartSettled o) s t f = start_fits me o (starting s t) f
operation_fits me (names.PullSettled o) s t f = settled_fits me o (starting s t) f

-- without a request

abbrev Free : Acts → Type 0
Free a = a.slots.request ≡ None

commit_free : (me : StreamId) (b : List ℕ) (a : Acts) (qs : List ReadRequest) → Free a → Free (commit_to me b a qs)
commit_free me b a [] e = e
commit_free me b a (q ∷ qs) e = e

commits_free : (me : StreamId) (ds : List Descriptor) (a : Acts) → Free a → Free (commit_all me ds a)
commits_free me [] a e = e
commits_free me (d ∷ ds) a e = commits_free me ds (commit me d a) (commit_free me d.filled a a.slots.stream.requests e)

process_free : (me : StreamId) (a : Acts) → Free a → Free (process_and_commit me a)
process_free me a e = commits_free me (processed_of a).ready (put_processed (processed_of a) a) e

detach_free : (a : Acts) (ds : List Descriptor) → Free a → Free (detach_first a ds)
detach_free a [] e = e
detach_free a (d ∷ ds) e = e

drain_free : (me : StreamId) (a : Acts) → Free a → Free (handle_queue_drain me a)
unfolding handle_queue_drain stream_close
drain_free me a e =
    either Free (is_empty a.slots.queue && a.slots.stream.close_requested) (stream_close me a) (call_pull_if_needed me a)
    (λ c. either Free (has_byob_reader a.slots) (in_stream close_stream_keeping a) (in_stream (readable.stream_close me) a) (λ d. e) (λ d. e)) (λ c. pull_request me a ∙ e)

requests_by : (me : StreamId) (q : ReadRequest) (qs : List ReadRequest) (a : Acts) (queue : List (List ℕ)) → ((c : Acts) → Free c → Free (process_requests me qs c)) → Free a
    → Free (elim queue [ [] ↦ a | b ∷ bs ↦ process_requests me qs (fill_read_request me q (with_requests qs a) (b ∷ bs)) ])
requests_by me q qs a [] more e = e
requests_by me q qs a (b ∷ bs) more e = more _ (drain_free me (with_slots (record (with_requests qs a).slots { queue = bs }) (with_requests qs a)) e)

requests_free : (me : StreamId) (qs : List ReadRequest) (a : Acts) → Free a → Free (process_requests me qs a)
requests_free me [] a e = e
requests_free me (q ∷ qs) a e = requests_by me q qs a a.slots.queue (requests_free me qs) e

accept_for_free : (me : StreamId) (b : List ℕ) (a : Acts) (qs : List ReadRequest) → Free a → Free (accept_for me b a qs)
accept_for_free me b a [] e = e
accept_for_free me b a (q ∷ qs) e = e

accept_free : (me : StreamId) (b : List ℕ) (a : Acts) → Free a → Free (accept me b a)
accept_free me b a e =
    let c : Acts = process_requests me a.slots.stream.requests a in
    either Free (has_default_reader a.slots) (accept_default me b a) (if has_byob_reader a.slots then process_and_commit me (append b a) else append b a)
    (λ i. accept_for_free me b c c.slots.stream.requests (requests_free me a.slots.stream.requests a e))
    (λ i. either Free (has_byob_reader a.slots) (process_and_commit me (append b a)) (append b a) (λ j. process_free me (append b a) e) (λ j. e))

renounce_free : (a : Acts) (ds : List Descriptor) → ds ≡ a.slots.descriptors → a.slots.stream.state ≡ Readable → Backed a.slots → Free (renounce a ds)
renounce_free a [] e r f = f.live r (sym e)
renounce_free a (d ∷ ds) e r f =
    either Free (is_for_nobody d.room_kind) (detached_to_queue (invalidate_request a)) (invalidate_request a) (λ c. detach_free (invalidate_request a) a.slots.descriptors refl) (λ c. refl)

enqueue_fits : (me : StreamId) (b : List ℕ) (a : Acts) → Backed a.slots → Backed (controller_enqueue me b a).slots
unfolding controller_enqueue
enqueue_fits me b a f =
    let z : Acts = renounce a a.slots.descriptors in
    either BackedAt (can_take a.slots) (call_pull_if_needed me (accept me b z)) a
    (λ c.
    let r : a.slots.stream.state ≡ Readable = readable_of a.slots.stream.state (both_right (not a.slots.stream.close_requested) (readable.is_readable a.slots.stream.state) c) in
    free _ (pull_request me (accept me b z) ∙ accept_free me b z (renounce_free a a.slots.descriptors refl r f)))
    (λ c. f)

full_free : (me : StreamId) (d : Descriptor) (a : Acts) → Free a → Free (respond_full me d a)
full_free me d a e =
    let n : ℕ = length d.filled - (length d.filled % d.element) in
    let b : Acts = append (drop n d.filled) (drop_first a) in
    let x : Processed = processed_of b in
    commits_free me x.ready _ (commit_free me (take n d.filled) (put_processed x b) (put_processed x b).slots.stream.requests e)

respond_readable_free : (me : StreamId) (d : Descriptor) (a : Acts) → Free a → Free (respond_readable me d a)
respond_readable_free me d a e =
    let z : Acts = put_first d a in
    either Free (is_for_nobody d.room_kind) (process_and_commit me (detached_to_queue z)) (if nat_lt (length d.filled) d.minimum then z else respond_full me d a)
    (λ c. process_free me (detached_to_queue z) (detach_free z z.slots.descriptors e))
    (λ c. either Free (nat_lt (length d.filled) d.minimum) z (respond_full me d a) (λ i. e) (λ i. full_free me d a e))

respond_closed_free : (me : StreamId) (d : Descriptor) (a : Acts) → Free a → Free (respond_closed me d a)
respond_closed_free me d a e =
    let b : Acts = if is_for_nobody d.room_kind then drop_first a else a in
    let k : Free b = either Free (is_for_nobody d.room_kind) (drop_first a) a (λ c. e) (λ c. e) in
    let n : ℕ = length b.slots.stream.requests in
    either Free (has_byob_reader b.slots) (commit_first me n b) b
    (λ c. commits_free me (take n b.slots.descriptors) (with_slots (record b.slots { descriptors = drop n b.slots.descriptors }) b) k) (λ c. k)

respond_free : (me : StreamId) (b : List ℕ) (a : Acts) (ds : List Descriptor) → Free a → Free (respond_first me b a ds)
respond_free me b a [] e = e
respond_free me b a (d ∷ ds) e =
    let y : Descriptor = record d { filled = d.filled ++ b } in
    either Free (is_closed a.slots.stream.state) (respond_closed me d a) (call_pull_if_needed me (respond_readable me y a))
    (λ c. respond_closed_free me d a e) (λ c. pull_request me (respond_readable me y a) ∙ respond_readable_free me y a e)

-- reads into rooms

waits_fits : (d : Descriptor) (q : ReadRequest) (a : Acts) → Backed a.slots → Backed (pull_waits d q a).slots
waits_fits d q a f = same_fits a.slots (pull_waits d q a).slots refl refl (more_some a.slots.descriptors d) f

filled_fits : (me : StreamId) (q : ReadRequest) (a : Acts) (y : Filling) (ready : Bool) → ready ≡ y.ready → Backed a.slots → Backed (pull_filled me q a y).slots
filled_fits me q a y true e f = rw (← e) (drain_fits me (put_queue y.queue a) (record { live = f.live; dead = f.dead }))
filled_fits me q a y false e f =
    let z : Acts = put_queue y.queue a in
    let k : Backed z.slots = record { live = f.live; dead = f.dead } in
    rw (← e) (either BackedAt a.slots.stream.close_requested _ (call_pull_if_needed me (pull_waits y.descriptor q z)) (λ c. error_fits me type_error z k) (λ c. pull_fits me (pull_waits y.descriptor q z) (waits_fits y.descriptor q z k)))

from_queue_fits : (me : StreamId) (d : Descriptor) (q : ReadRequest) (a : Acts) (queue : List (List ℕ)) → Backed a.slots → Backed (pull_from_queue me d q a queue).slots
from_queue_fits me d q a [] f = pull_fits me (pull_waits d q a) (waits_fits d q a f)
from_queue_fits me d q a (b ∷ bs) f = filled_fits me q a (fill_from_queue d (b ∷ bs)) (fill_from_queue d (b ∷ bs)).ready refl f

first_fits : (me : StreamId) (d : Descriptor) (q : ReadRequest) (a : Acts) (ds : List Descriptor) → Backed a.slots → Backed (pull_first me d q a ds).slots
first_fits me d q a (x ∷ xs) f = waits_fits d q a f
first_fits me d q a [] f = either BackedAt (is_closed a.slots.stream.state) _ (pull_from_queue me d q a a.slots.queue) (λ c. f) (λ c. from_queue_fits me d q a a.slots.queue f)

byob_fits : (me : StreamId) (d : Descriptor) (q : ReadRequest) (a : Acts) → Backed a.slots → Backed (byob_reader_read me d q a).slots
unfolding byob_reader_read pull_into readable.disturb
byob_fits me d q a f =
    let b : Acts = in_stream readable.disturb a in
    let k : Backed b.slots = record { live = f.live; dead = f.dead } in
    either BackedAt (is_errored a.slots.stream.state) _ (pull_first me d q b a.slots.descriptors) (λ c. k) (λ c. first_fits me d q b a.slots.descriptors k)

-- a request is made for a descriptor
abbrev pub MayMake : ByteOperation → Slots → Type 0
MayMake (own.MakeRequest q) x = (x.descriptors ≢ []) × (x.stream.state ≢ Errored)
MayMake _ x = Unit {0}

pub own_fits : (me : StreamId) (op : ByteOperation) (s : Slots) (t : Table) → MayMake op s → Backed s → Backed (byte_operation me op (starting s t)).slots
unfolding read_into respond
own_fits me (own.InitializeByobReader p) s t m f = initialize_fits Byob p (starting s t) f
own_fits me (own.Enqueue b) s t m f = enqueue_fits me b (starting s t) f
own_fits me (own.PullInto room element minimum q) s t m f =
    let d : Descriptor = record { filled = []; room = length room; minimum = minimum; element = element; room_kind = ForByob } in
    meant BackedAt (may_pull_into s && is_least (length room) element minimum) (byob_reader_read me d q (starting s t)) (starting s t) (λ c. byob_fits me d q (starting s t) f) (record { live = f.live; dead = f.dead })
own_fits me (own.MakeRequest q) s t m f = record { live = λ r d. absurd (m.0 d); dead = λ r. absurd (m.1 r) }
own_fits me (own.Respond b) s t m f =
    meant BackedAt (may_respond (length b) s) (respond_internal me b (starting s t)) (starting s t)
    (λ c. free _ (respond_free me b (invalidate_request (starting s t)) s.descriptors refl)) (record { live = f.live; dead = f.dead })
