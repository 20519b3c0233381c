-- A byte stream that can take no bytes any more never can again.
use Rattle.std.proofs.Common.{◌≡◌, ◌∙◌, nat_lt, ℕ, zero, suc, Bool, true, false, List, [], ◌∷◌, ◌++◌, length, Ok, Err, refl, arith}
use Rattle.ws_value.specs.declared.ids.{PromiseId.{PromiseId}, StreamId.{StreamId}}
use Rattle.ws_value.specs.declared.value.Plain.{Plain}
use Rattle.ws_steps.specs.declared.byte.ByteOperation.{ByteOperation}
use Rattle.ws_steps.specs.declared.byte.ByteOperation.TheVariants as own_names
use Rattle.ws_steps.specs.declared.readable.{ReadRequest.{ReadRequest}, ReadableOperation.{ReadableOperation}, ReadableState.{ReadableState}, ReadableState.TheVariants.{Readable, Closed, Errored}}
use Rattle.ws_steps.specs.declared.readable.ReadableOperation.TheVariants as names
use Rattle.ws_steps.specs.Bytes as byte
use Rattle.ws_steps.specs.Bytes.{Acts, can_take}
use Rattle.ws_steps.specs.Descriptors.{Descriptor, Filling, is_for_nobody}
use Rattle.ws_steps.specs.Operations.{byte_readable_operation, byte_operation}
use Rattle.ws_steps.specs.Readable as readable
use Rattle.ws_laws.proofs.Tables.{either}
use Rattle.ws_steps.specs.declared.readable.ReadRequest.TheVariants.{Promise as PromiseRequest, Pipe as PipeRequest, Tee as TeeRequest}

abbrev pub can : Acts → Bool
can a = can_take a.slots

abbrev pub Shuts : Acts → Acts → Type 0
Shuts a b = can a ≡ false → can b ≡ false

pull-same : (me : StreamId) (a : Acts) → can (byte.call_pull_if_needed me a) ≡ can a
unfolding byte.call_pull_if_needed
pull-same me a = grind arith

close-shuts : (me : StreamId) (a : Acts) → can (byte.stream_close me a) ≡ false
unfolding byte.stream_close readable.stream_close
close-shuts me a = grind arith

error-shuts : (me : StreamId) (e : Plain) (a : Acts) → can (byte.controller_error me e a) ≡ false
unfolding byte.controller_error readable.stream_error
error-shuts me e a = grind arith

drain-shuts : (me : StreamId) (a : Acts) → Shuts a (byte.handle_queue_drain me a)
unfolding byte.handle_queue_drain
drain-shuts me a = grind (arith, close-shuts, pull-same)

pub controller_close-shuts : (me : StreamId) (a : Acts) → can (byte.controller_close me a) ≡ false
unfolding byte.controller_close
controller_close-shuts me a = grind (arith, close-shuts, error-shuts)

fill-shuts : (me : StreamId) (q : ReadRequest) (a : Acts) (queue : List (List ℕ)) → Shuts a (byte.fill_read_request me q a queue)
fill-shuts me q a [] e = e
fill-shuts me q a (b ∷ bs) e = drain-shuts me (byte.with_slots (record a.slots { queue = bs }) a) e

process-shuts : (me : StreamId) (qs : List ReadRequest) (a : Acts) → Shuts a (byte.process_requests me qs a)
process-shuts me [] a e = e
process-shuts me (q ∷ qs) a e = by (λ c. process-shuts me qs c) a.slots.queue
  where
    by : ((c : Acts) → Shuts c (byte.process_requests me qs c)) → (queue : List (List ℕ))
        → can (elim queue [ [] ↦ a | b ∷ bs ↦ byte.process_requests me qs (byte.fill_read_request me q (byte.with_requests qs a) (b ∷ bs)) ]) ≡ false
    by more [] = e
    by more (b ∷ bs) = more (byte.fill_read_request me q (byte.with_requests qs a) (b ∷ bs)) (fill-shuts me q (byte.with_requests qs a) (b ∷ bs) e)

commit-same : (me : StreamId) (d : Descriptor) (a : Acts) → can (byte.commit me d a) ≡ can a
commit-same me d a = grind arith

commit_all-same : (me : StreamId) (ds : List Descriptor) (a : Acts) → can (byte.commit_all me ds a) ≡ can a
commit_all-same me [] a = refl
commit_all-same me (d ∷ ds) a = commit_all-same me ds (byte.commit me d a) ∙ commit-same me d a

processed-same : (me : StreamId) (a : Acts) → can (byte.process_and_commit me a) ≡ can a
processed-same me a = let x = byte.processed_of a in commit_all-same me x.ready (byte.put_processed x a)

detached-same : (a : Acts) (ds : List Descriptor) → can (byte.detach_first a ds) ≡ can a
detached-same a ds = grind arith

renounce-same : (a : Acts) (ds : List Descriptor) → can (byte.renounce a ds) ≡ can a
renounce-same a ds = grind (arith, detached-same)

read_from-shuts : (me : StreamId) (q : ReadRequest) (a : Acts) (queue : List (List ℕ)) → Shuts a (byte.pull_from me q a queue)
read_from-shuts me q a [] e = by a.slots.auto
  where
    by : (n : ℕ) → can (byte.call_pull_if_needed me (byte.wait q (byte.auto_allocate a n))) ≡ false
    by zero = pull-same me (byte.wait q a) ∙ e
    by (suc n) = pull-same me (byte.wait q (byte.auto_allocate a (suc n))) ∙ e
read_from-shuts me q a (b ∷ bs) e = fill-shuts me q a (b ∷ bs) e

read-shuts : (me : StreamId) (q : ReadRequest) (a : Acts) → Shuts a (byte.default_reader_read me q a)
unfolding byte.default_reader_read byte.pull_steps readable.disturb
read-shuts me q a e = by a.slots.stream.state
  where
    b : Acts
    b = byte.in_stream readable.disturb a

    by : (state : ReadableState) → can (byte.read_by me q b state) ≡ false
    by Readable = read_from-shuts me q b b.slots.queue e
    by Closed = e
    by Errored = e

filled-shuts : (me : StreamId) (q : ReadRequest) (a : Acts) (f : Filling) → Shuts a (byte.pull_filled me q a f)
filled-shuts me q a f e = grind (arith, e, drain-shuts, error-shuts, pull-same)

queue-shuts : (me : StreamId) (d : Descriptor) (q : ReadRequest) (a : Acts) (queue : List (List ℕ)) → Shuts a (byte.pull_from_queue me d q a queue)
queue-shuts me d q a [] e = pull-same me (byte.pull_waits d q a) ∙ e
queue-shuts me d q a (b ∷ bs) e = filled-shuts me q a _ e

first-shuts : (me : StreamId) (d : Descriptor) (q : ReadRequest) (a : Acts) (ds : List Descriptor) → Shuts a (byte.pull_first me d q a ds)
first-shuts me d q a (x ∷ xs) e = e
first-shuts me d q a [] e = either (λ (b : Acts). can b ≡ false) (byte.is_closed a.slots.stream.state) _ _ (λ c. e) (λ c. queue-shuts me d q a a.slots.queue e)

into-shuts : (me : StreamId) (d : Descriptor) (q : ReadRequest) (a : Acts) → Shuts a (byte.byob_reader_read me d q a)
unfolding byte.byob_reader_read byte.pull_into readable.disturb
into-shuts me d q a e =
    let b : Acts = byte.in_stream readable.disturb a in
    either (λ (z : Acts). can z ≡ false) (byte.is_errored b.slots.stream.state) _ _ (λ c. e) (λ c. first-shuts me d q b b.slots.descriptors e)

respond_closed-same : (me : StreamId) (d : Descriptor) (a : Acts) → can (byte.respond_closed me d a) ≡ can a
respond_closed-same me d a = grind (arith, commit_all-same)

respond_full-same : (me : StreamId) (d : Descriptor) (a : Acts) → can (byte.respond_full me d a) ≡ can a
respond_full-same me d a = grind (arith, commit_all-same, commit-same)

respond_readable-same : (me : StreamId) (d : Descriptor) (a : Acts) → can (byte.respond_readable me d a) ≡ can a
respond_readable-same me d a =
    either (λ (z : Acts). can z ≡ can a) (is_for_nobody d.room_kind) _ _
    (λ c. let b : Acts = byte.put_first d a in processed-same me (byte.detached_to_queue b) ∙ detached-same b b.slots.descriptors)
    (λ c. either (λ (z : Acts). can z ≡ can a) (nat_lt (length d.filled) d.minimum) _ _ (λ f. refl) (λ f. respond_full-same me d a))

respond_first-shuts : (me : StreamId) (b : List ℕ) (a : Acts) (ds : List Descriptor) → Shuts a (byte.respond_first me b a ds)
respond_first-shuts me b a [] e = e
respond_first-shuts me b a (d ∷ ds) e =
    either (λ (z : Acts). can z ≡ false) (byte.is_closed a.slots.stream.state) _ _ (λ c. respond_closed-same me d a ∙ e)
    (λ c. let f : Descriptor = record d { filled = d.filled ++ b } in pull-same me (byte.respond_readable me f a) ∙ (respond_readable-same me f a ∙ e))

cancel-shuts : (me : StreamId) (r : Plain) (p : PromiseId) (a : Acts) → Shuts a (byte.stream_cancel me r p a)
unfolding byte.stream_cancel readable.disturb
cancel-shuts me r p a e = grind (arith, e, close-shuts)

meant-shuts : (c : Bool) (b a : Acts) → Shuts a b → Shuts a (byte.if_meant c b a)
meant-shuts true b a h e = h e
meant-shuts false b a h e = e

release-shuts : (me : StreamId) (a : Acts) → Shuts a (byte.reader_release me a)
unfolding byte.reader_release readable.reader_release
release-shuts me a e = grind (arith, e)

initialize-shuts : (kind : _) (closed : PromiseId) (a : Acts) → Shuts a (byte.reader_initialize kind closed a)
unfolding byte.reader_initialize readable.reader_generic_initialize
initialize-shuts kind closed a e = grind (arith, e)

-- an operation that either kind of controller has
pub shared-shuts : (me : StreamId) (operation : ReadableOperation) (a : Acts) → Shuts a (byte_readable_operation me operation a)
unfolding readable.disturb byte.read byte.cancel_if_readable byte.start_settled byte.pull_settled
shared-shuts me (names.InitializeReader closed) a e = initialize-shuts _ closed a e
shared-shuts me names.ReleaseReader a e = release-shuts me a e
shared-shuts me names.Disturb a e = e
shared-shuts me (names.Read (PromiseRequest p)) a e = meant-shuts (byte.may_read a.slots) (byte.default_reader_read me (PromiseRequest p) a) a (read-shuts me (PromiseRequest p) a) e
shared-shuts me (names.Read (PipeRequest p)) a e = meant-shuts (byte.may_read a.slots) (byte.default_reader_read me (PipeRequest p) a) a (read-shuts me (PipeRequest p) a) e
shared-shuts me (names.Read (TeeRequest t)) a e = e
shared-shuts me (names.Cancel r p) a e = cancel-shuts me r p a e
shared-shuts me (names.CancelIfReadable r p) a e = grind (arith, e, cancel-shuts)
shared-shuts me (names.Enqueue v) a e = e
shared-shuts me names.Close a e = controller_close-shuts me a
shared-shuts me (names.Error r) a e = error-shuts me r a
shared-shuts me (names.StartSettled (Ok v)) a e = pull-same me _ ∙ e
shared-shuts me (names.StartSettled (Err r)) a e = error-shuts me r a
shared-shuts me (names.PullSettled (Ok v)) a e = grind (arith, e, pull-same)
shared-shuts me (names.PullSettled (Err r)) a e = error-shuts me r a

-- and one of a byte controller
pub own-shuts : (me : StreamId) (operation : ByteOperation) (a : Acts) → Shuts a (byte_operation me operation a)
unfolding byte.controller_enqueue byte.read_into byte.respond
own-shuts me (own_names.InitializeByobReader closed) a e = initialize-shuts _ closed a e
own-shuts me (own_names.Enqueue b) a e = rw e e
own-shuts me (own_names.PullInto room element minimum q) a e = meant-shuts _ (byte.byob_reader_read me _ q a) a (into-shuts me _ q a) e
own-shuts me (own_names.MakeRequest q) a e = e
own-shuts me (own_names.Respond b) a e = meant-shuts _ (byte.respond_internal me b a) a (respond_first-shuts me b (byte.invalidate_request a) a.slots.descriptors) e
