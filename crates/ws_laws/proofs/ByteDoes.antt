-- What an operation of a byte stream does outside its record: it settles promises, and causes algorithms and requests' steps of this stream.
use Rattle.std.proofs.Common.{◌≡◌, refl, Bool, true, false, ◌&&◌, ℕ, zero, suc, List, [], ◌∷◌, length, take, drop, ◌++◌, Option, Some, None, Ok, Err}
use Rattle.std.specs.Prelude.{if◌then◌else◌, is_none, nat_lt, ◌-◌, ◌%◌}
use Rattle.ws_value.specs.declared.ids.PromiseId.{PromiseId}
use Rattle.ws_value.specs.declared.ids.StreamId.{StreamId}
use Rattle.ws_value.specs.declared.value.Plain.{Plain}
use Rattle.ws_value.specs.declared.value.Plain.TheVariants.{Undefined}
use Rattle.ws_value.specs.declared.value.Value.TheVariants.{Bytes}
use Rattle.ws_steps.specs.declared.byte.ByteOperation.{ByteOperation}
use Rattle.ws_steps.specs.declared.byte.ByteOperation.TheVariants as own_names
use Rattle.ws_steps.specs.declared.byte.ReaderKind.{ReaderKind}
use Rattle.ws_steps.specs.declared.byte.ReaderKind.TheVariants.{Default, Byob}
use Rattle.ws_steps.specs.declared.byte.RoomKind.TheVariants.{ForByob}
use Rattle.ws_steps.specs.declared.effects.Effect.TheVariants.{CloseStepsWith}
use Rattle.ws_steps.specs.declared.{readable.ReadRequest.{ReadRequest}, readable.ReadableOperation.{ReadableOperation}}
use Rattle.ws_steps.specs.declared.readable.ReadableOperation.TheVariants as names
use Rattle.ws_steps.specs.declared.{readable.ReadableState.{ReadableState}, readable.ReadableState.TheVariants.{Readable, Closed, Errored}}
use Rattle.ws_steps.specs.Bytes as byte
use Rattle.ws_steps.specs.Bytes.{Acts}
use Rattle.ws_steps.specs.Descriptors.{Descriptor, is_for_nobody, has_part, Filling, fill_from_queue, Processed}
use Rattle.ws_steps.specs.Effects.{Out, cause, type_error}
use Rattle.ws_steps.specs.Operations.{byte_readable_operation, byte_operation}
use Rattle.ws_steps.specs.Queues.{is_empty}
use Rattle.ws_steps.specs.Readable as readable
use Rattle.ws_laws.proofs.ReadableDoes.{OfReadable, ends, close_all-does, stream_close-does, reader_errs, settle_closed-does, release_by-does}
use Rattle.ws_laws.proofs.Tables.{either}

abbrev pub Does : (Out → Type 0) → Acts → Acts → Type 0
Does Q a b = Q a.out → Q b.out

module _ (Q : Out → Type 0) (i : StreamId) (of : OfReadable Q i) where
  abbrev Is : Acts → Type 0
  Is a = Q a.out

  within : Acts → readable.Acts
  within a = record { slots = a.slots.stream; out = a.out }

  call_pull-does : (a : readable.Acts) → Q a.out → Q (readable.call_pull i a).out
  call_pull-does a h = either (λ (z : readable.Acts). Q z.out) a.slots.pulling _ _ (λ e. h) (λ e. of.pull a.out h)

  pub byte_pull-does : (a : Acts) → Does Q a (byte.call_pull_if_needed i a)
  unfolding byte.call_pull_if_needed
  byte_pull-does a h =
      either Is (byte.should_call_pull a.slots) (byte.in_stream (readable.call_pull i) a) a
      (λ e. call_pull-does (record { slots = a.slots.stream; out = a.out }) h) (λ e. h)

  keeping-does : (a : readable.Acts) (reader : Option PromiseId) → Q a.out → Q (byte.close_keeping a reader).out
  keeping-does a None h = h
  keeping-does a (Some closed) h = of.settle a.out closed (Ok Undefined) h

  pub byte_close-does : (a : Acts) → Does Q a (byte.stream_close i a)
  unfolding byte.stream_close
  byte_close-does a h =
      either Is (byte.has_byob_reader a.slots) (byte.in_stream byte.close_stream_keeping a) (byte.in_stream (readable.stream_close i) a)
      (λ e. keeping-does (record { slots = record a.slots.stream { state = Closed }; out = a.out }) a.slots.stream.reader h)
      (λ e. stream_close-does Q i (ends Q i of) (record { slots = a.slots.stream; out = a.out }) h)

  pub byte_error-does : (e : Plain) (a : Acts) → Does Q a (byte.controller_error i e a)
  unfolding byte.controller_error readable.stream_error
  byte_error-does e a h =
      either Is (readable.is_readable a.slots.stream.state) (byte.in_stream (readable.stream_error i e) (byte.clear_all a)) a
      (λ is. reader_errs Q i (ends Q i of) e (record { slots = record a.slots.stream { state = Errored; stored_error = e }; out = a.out }) a.slots.stream.reader h)
      (λ isnt. h)

  pub drain-does : (a : Acts) → Does Q a (byte.handle_queue_drain i a)
  unfolding byte.handle_queue_drain
  drain-does a h =
      either Is (is_empty a.slots.queue && a.slots.stream.close_requested) (byte.stream_close i a) (byte.call_pull_if_needed i a)
      (λ e. byte_close-does a h) (λ e. byte_pull-does a h)

  fill-does : (q : ReadRequest) (a : Acts) (queue : List (List ℕ)) → Does Q a (byte.fill_read_request i q a queue)
  fill-does q a [] h = h
  fill-does q a (b ∷ bs) h = of.chunk _ q (Bytes b) (drain-does (byte.with_slots (record a.slots { queue = bs }) a) h)

  allocate-out : (a : Acts) (n : ℕ) → (byte.auto_allocate a n).out ≡ a.out
  allocate-out a zero = refl
  allocate-out a (suc n) = refl

  pull_from-does : (q : ReadRequest) (a : Acts) (queue : List (List ℕ)) → Does Q a (byte.pull_from i q a queue)
  pull_from-does q a [] h = byte_pull-does (byte.wait q (byte.auto_allocate a a.slots.auto)) (rw (allocate-out a a.slots.auto) h)
  pull_from-does q a (b ∷ bs) h = fill-does q a (b ∷ bs) h

  byte_read-does : (q : ReadRequest) (a : Acts) (state : ReadableState) → Does Q a (byte.read_by i q a state)
  unfolding byte.pull_steps
  byte_read-does q a Readable h = pull_from-does q a a.slots.queue h
  byte_read-does q a Closed h = of.close a.out q h
  byte_read-does q a Errored h = of.error a.out q a.slots.stream.stored_error h

  close_by-does : (a : Acts) (queue : List (List ℕ)) → Does Q a (byte.close_by i a queue)
  close_by-does a (b ∷ bs) h = h
  close_by-does a [] h =
      either Is (has_part a.slots.descriptors) (byte.controller_error i type_error a) (byte.stream_close i a) (λ e. byte_error-does type_error a h) (λ e. byte_close-does a h)

  close_into-does : (a : Acts) → Does Q a (byte.close_into i a)
  close_into-does a h =
      either Is (byte.has_byob_reader a.slots) _ a (λ e. close_all-does Q i (ends Q i of) a.slots.stream.requests a.out h) (λ e. h)

  cancel_by-does : (r : Plain) (p : PromiseId) (a : Acts) (state : ReadableState) → Does Q a (byte.cancel_by i r p a state)
  cancel_by-does r p a Readable h = of.cancel (byte.close_into i (byte.stream_close i a)).out r p (close_into-does (byte.stream_close i a) (byte_close-does a h))
  cancel_by-does r p a Closed h = of.settle a.out p (Ok Undefined) h
  cancel_by-does r p a Errored h = of.settle a.out p (Err a.slots.stream.stored_error) h

  pub byte_cancel-does : (r : Plain) (p : PromiseId) (a : Acts) → Does Q a (byte.stream_cancel i r p a)
  unfolding byte.stream_cancel readable.disturb
  byte_cancel-does r p a h = cancel_by-does r p (byte.in_stream readable.disturb a) a.slots.stream.state h

  pull_ended-does : (a : Acts) (again : Bool) → Does Q a (byte.pull_ended i a again)
  pull_ended-does a false h = h
  pull_ended-does a true h = byte_pull-does (byte.with_slots (record a.slots { stream = record a.slots.stream { pull_again = false } }) a) h

  meant-does : (test : Bool) (b a : Acts) → Does Q a b → Does Q a (byte.if_meant test b a)
  meant-does true b a f h = f h
  meant-does false b a f h = h

  initialize-does : (kind : ReaderKind) (closed : PromiseId) (a : Acts) → Does Q a (byte.reader_initialize kind closed a)
  unfolding byte.reader_initialize readable.reader_generic_initialize
  initialize-does kind closed a =
      meant-does (is_none a.slots.stream.reader) _ a (λ h. settle_closed-does Q i (ends Q i of) closed a.slots.stream.stored_error a.out a.slots.stream.state h)

  -- an operation that either kind of controller has
  pub byte_readable-does : (operation : ReadableOperation) (a : Acts) → Does Q a (byte_readable_operation i operation a)
  unfolding byte.reader_release readable.reader_release readable.disturb byte.read byte.default_reader_read byte.cancel_if_readable byte.controller_close byte.start_settled byte.pull_settled
  byte_readable-does (names.InitializeReader closed) a h = initialize-does Default closed a h
  byte_readable-does names.ReleaseReader a h = release_by-does Q i (ends Q i of) (record { slots = a.slots.stream; out = a.out }) a.slots.stream.reader h
  byte_readable-does names.Disturb a h = h
  byte_readable-does (names.Read q) a h =
      either Is (byte.is_of_tee q) a (byte.if_meant (byte.may_read a.slots) (byte.read_by i q (byte.in_stream readable.disturb a) a.slots.stream.state) a) (λ e. h)
      (λ e. meant-does (byte.may_read a.slots) (byte.read_by i q (byte.in_stream readable.disturb a) a.slots.stream.state) a (byte_read-does q (byte.in_stream readable.disturb a) a.slots.stream.state) h)
  byte_readable-does (names.Cancel r p) a h = byte_cancel-does r p a h
  byte_readable-does (names.CancelIfReadable r p) a h =
      either Is (readable.is_readable a.slots.stream.state) (byte.stream_cancel i r p a) _ (λ e. byte_cancel-does r p a h) (λ e. of.settle a.out p (Ok Undefined) h)
  byte_readable-does (names.Enqueue v) a h = h
  byte_readable-does names.Close a h = either Is (byte.can_take a.slots) (byte.close_by i a a.slots.queue) a (λ e. close_by-does a a.slots.queue h) (λ e. h)
  byte_readable-does (names.Error e) a h = byte_error-does e a h
  byte_readable-does (names.StartSettled (Ok v)) a h = byte_pull-does (byte.with_slots (record a.slots { stream = record a.slots.stream { started = true } }) a) h
  byte_readable-does (names.StartSettled (Err e)) a h = byte_error-does e a h
  byte_readable-does (names.PullSettled (Ok v)) a h = pull_ended-does (byte.with_slots (record a.slots { stream = record a.slots.stream { pulling = false } }) a) a.slots.stream.pull_again h
  byte_readable-does (names.PullSettled (Err e)) a h = byte_error-does e a h

  module _ (close_with : (x : Out) (q : ReadRequest) (b : List ℕ) → Q x → Q (cause (CloseStepsWith i q b) x)) where
    commit_to-does : (b : List ℕ) (a : Acts) (rs : List ReadRequest) (state : ReadableState) → state ≡ a.slots.stream.state → Does Q a (byte.commit_to i b a rs)
    commit_to-does b a [] state is h = h
    commit_to-does b a (q ∷ qs) Readable is h = rw (← is) (of.chunk a.out q (Bytes b) h)
    commit_to-does b a (q ∷ qs) Closed is h = rw (← is) (close_with a.out q b h)
    commit_to-does b a (q ∷ qs) Errored is h = rw (← is) (of.chunk a.out q (Bytes b) h)

    commit-does : (d : Descriptor) (a : Acts) → Does Q a (byte.commit i d a)
    commit-does d a h = commit_to-does d.filled a a.slots.stream.requests a.slots.stream.state refl h

    commit_all-does : (ds : List Descriptor) (a : Acts) → Does Q a (byte.commit_all i ds a)
    commit_all-does [] a h = h
    commit_all-does (d ∷ ds) a h = commit_all-does ds (byte.commit i d a) (commit-does d a h)

    process-does : (a : Acts) → Does Q a (byte.process_and_commit i a)
    process-does a h = let x : Processed = byte.processed_of a in commit_all-does x.ready (byte.put_processed x a) h

    detach-out : (a : Acts) (ds : List Descriptor) → (byte.detach_first a ds).out ≡ a.out
    detach-out a [] = refl
    detach-out a (d ∷ ds) = refl

    renounce-does : (a : Acts) (ds : List Descriptor) → Does Q a (byte.renounce a ds)
    renounce-does a [] h = h
    renounce-does a (d ∷ ds) h =
        either Is (is_for_nobody d.room_kind) (byte.detached_to_queue (byte.invalidate_request a)) (byte.invalidate_request a)
        (λ e. rw (detach-out (byte.invalidate_request a) a.slots.descriptors) h) (λ e. h)

    requests-by : (q : ReadRequest) (qs : List ReadRequest) (a : Acts) (queue : List (List ℕ)) → ((c : Acts) → Does Q c (byte.process_requests i qs c))
        → Is a → Is (elim queue [ [] ↦ a | b ∷ bs ↦ byte.process_requests i qs (byte.fill_read_request i q (byte.with_requests qs a) (b ∷ bs)) ])
    requests-by q qs a [] more h = h
    requests-by q qs a (b ∷ bs) more h = more _ (fill-does q (byte.with_requests qs a) (b ∷ bs) h)

    requests-does : (rs : List ReadRequest) (a : Acts) → Does Q a (byte.process_requests i rs a)
    requests-does [] a h = h
    requests-does (q ∷ qs) a h = requests-by q qs a a.slots.queue (requests-does qs) h

    accept_for-does : (b : List ℕ) (a : Acts) (rs : List ReadRequest) → Does Q a (byte.accept_for i b a rs)
    accept_for-does b a [] h = h
    accept_for-does b a (q ∷ qs) h = of.chunk a.out q (Bytes b) h

    accept-does : (b : List ℕ) (a : Acts) → Does Q a (byte.accept i b a)
    accept-does b a h =
        let c : Acts = byte.process_requests i a.slots.stream.requests a in
        either Is (byte.has_default_reader a.slots) (byte.accept_default i b a) (if byte.has_byob_reader a.slots then byte.process_and_commit i (byte.append b a) else byte.append b a)
        (λ e. accept_for-does b c c.slots.stream.requests (requests-does a.slots.stream.requests a h))
        (λ e. either Is (byte.has_byob_reader a.slots) (byte.process_and_commit i (byte.append b a)) (byte.append b a) (λ e. process-does (byte.append b a) h) (λ e. h))

    enqueue-does : (b : List ℕ) (a : Acts) → Does Q a (byte.controller_enqueue i b a)
    unfolding byte.controller_enqueue
    enqueue-does b a h =
        let z : Acts = byte.renounce a a.slots.descriptors in
        either Is (byte.can_take a.slots) (byte.call_pull_if_needed i (byte.accept i b z)) a
        (λ e. byte_pull-does (byte.accept i b z) (accept-does b z (renounce-does a a.slots.descriptors h))) (λ e. h)

    filled-does : (q : ReadRequest) (a : Acts) (f : Filling) (ready : Bool) → ready ≡ f.ready → Does Q a (byte.pull_filled i q a f)
    filled-does q a f true is h = rw (← is) (of.chunk _ q (Bytes f.descriptor.filled) (drain-does (byte.put_queue f.queue a) h))
    filled-does q a f false is h =
        let z : Acts = byte.put_queue f.queue a in
        rw (← is)
        (either Is a.slots.stream.close_requested _ (byte.call_pull_if_needed i (byte.pull_waits f.descriptor q z))
        (λ e. of.error _ q type_error (byte_error-does type_error z h)) (λ e. byte_pull-does (byte.pull_waits f.descriptor q z) h))

    from_queue-does : (d : Descriptor) (q : ReadRequest) (a : Acts) (queue : List (List ℕ)) → Does Q a (byte.pull_from_queue i d q a queue)
    from_queue-does d q a [] h = byte_pull-does (byte.pull_waits d q a) h
    from_queue-does d q a (b ∷ bs) h = filled-does q a (fill_from_queue d (b ∷ bs)) (fill_from_queue d (b ∷ bs)).ready refl h

    pull_first-does : (d : Descriptor) (q : ReadRequest) (a : Acts) (ds : List Descriptor) → Does Q a (byte.pull_first i d q a ds)
    pull_first-does d q a (x ∷ xs) h = h
    pull_first-does d q a [] h =
        either Is (byte.is_closed a.slots.stream.state) _ (byte.pull_from_queue i d q a a.slots.queue) (λ e. close_with a.out q [] h) (λ e. from_queue-does d q a a.slots.queue h)

    byob_read-does : (d : Descriptor) (q : ReadRequest) (a : Acts) → Does Q a (byte.byob_reader_read i d q a)
    unfolding byte.byob_reader_read byte.pull_into readable.disturb
    byob_read-does d q a h =
        let b : Acts = byte.in_stream readable.disturb a in
        either Is (byte.is_errored a.slots.stream.state) _ (byte.pull_first i d q b a.slots.descriptors)
        (λ e. of.error a.out q a.slots.stream.stored_error h) (λ e. pull_first-does d q b a.slots.descriptors h)

    closed-does : (d : Descriptor) (a : Acts) → Does Q a (byte.respond_closed i d a)
    closed-does d a h =
        let b : Acts = if is_for_nobody d.room_kind then byte.drop_first a else a in
        let same : Is b = either Is (is_for_nobody d.room_kind) (byte.drop_first a) a (λ e. h) (λ e. h) in
        let n : ℕ = length b.slots.stream.requests in
        either Is (byte.has_byob_reader b.slots) (byte.commit_first i n b) b
        (λ e. commit_all-does (take n b.slots.descriptors) (byte.with_slots (record b.slots { descriptors = drop n b.slots.descriptors }) b) same) (λ e. same)

    full-does : (d : Descriptor) (a : Acts) → Does Q a (byte.respond_full i d a)
    full-does d a h =
        let kept : ℕ = length d.filled - (length d.filled % d.element) in
        let b : Acts = byte.append (drop kept d.filled) (byte.drop_first a) in
        let x : Processed = byte.processed_of b in
        commit_all-does x.ready _ (commit-does (record d { filled = take kept d.filled }) (byte.put_processed x b) h)

    readable-does : (d : Descriptor) (a : Acts) → Does Q a (byte.respond_readable i d a)
    readable-does d a h =
        let z : Acts = byte.put_first d a in
        either Is (is_for_nobody d.room_kind) (byte.process_and_commit i (byte.detached_to_queue z)) (if nat_lt (length d.filled) d.minimum then z else byte.respond_full i d a)
        (λ e. process-does (byte.detached_to_queue z) (rw (detach-out z z.slots.descriptors) h))
        (λ e. either Is (nat_lt (length d.filled) d.minimum) z (byte.respond_full i d a) (λ e. h) (λ e. full-does d a h))

    respond_first-does : (b : List ℕ) (a : Acts) (ds : List Descriptor) → Does Q a (byte.respond_first i b a ds)
    respond_first-does b a [] h = h
    respond_first-does b a (d ∷ ds) h =
        let y : Descriptor = record d { filled = d.filled ++ b } in
        either Is (byte.is_closed a.slots.stream.state) (byte.respond_closed i d a) (byte.call_pull_if_needed i (byte.respond_readable i y a))
        (λ e. closed-does d a h) (λ e. byte_pull-does (byte.respond_readable i y a) (readable-does y a h))

    -- an operation of a byte controller alone
    pub byte-does : (operation : ByteOperation) (a : Acts) → Does Q a (byte_operation i operation a)
    unfolding byte.respond byte.read_into
    byte-does (own_names.InitializeByobReader closed) a h = initialize-does Byob closed a h
    byte-does (own_names.Enqueue b) a h = enqueue-does b a h
    byte-does (own_names.PullInto room element minimum q) a h =
        let d : Descriptor = record { filled = []; room = length room; minimum = minimum; element = element; room_kind = ForByob } in
        meant-does (byte.may_pull_into a.slots && byte.is_least (length room) element minimum) (byte.byob_reader_read i d q a) a (byob_read-does d q a) h
    byte-does (own_names.MakeRequest q) a h = h
    byte-does (own_names.Respond b) a h = meant-does (byte.may_respond (length b) a.slots) (byte.respond_internal i b a) a (respond_first-does b (byte.invalidate_request a) a.slots.descriptors) h
