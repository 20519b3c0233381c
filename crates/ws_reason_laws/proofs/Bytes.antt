-- Operations of a byte stream keep that nothing bad stands in it, in the promises and in what they cause, where they don't err it, or a
-- TypeError isn't bad.
use Rattle.std.proofs.Common.{◌≡◌, ℕ, Bool, true, false, not, ◌&&◌, List, [], ◌∷◌, ◌++◌, length, take, drop, Option, Some, None, Ok, Err, refl, sym, ap, ◌∙◌, arith}
use Rattle.std.specs.Prelude.{if◌then◌else◌, is_none, nat_lt, ◌-◌, ◌%◌, suc, zero}
use Rattle.ws_value.specs.declared.ids.PromiseId.{PromiseId}
use Rattle.ws_value.specs.declared.ids.StreamId.{StreamId}
use Rattle.ws_value.specs.declared.value.Plain.{Plain}
use Rattle.ws_value.specs.declared.value.Plain.TheVariants.{Undefined}
use Rattle.ws_value.specs.declared.value.Value.TheVariants.{Bytes}
use Rattle.ws_steps.specs.declared.byte.ByteOperation.{ByteOperation}
use Rattle.ws_steps.specs.declared.byte.ByteOperation.TheVariants as own_names
use Rattle.ws_steps.specs.declared.byte.ReaderKind.{ReaderKind}
use Rattle.ws_steps.specs.declared.byte.ReaderKind.TheVariants.{Default, Byob}
use Rattle.ws_steps.specs.declared.byte.RoomKind.TheVariants.{ForByob}
use Rattle.ws_steps.specs.declared.effects.Effect.TheVariants.{ChunkSteps, CloseSteps, CloseStepsWith, ErrorSteps, CancelAlgorithm}
use Rattle.ws_steps.specs.declared.readable.ReadRequest.{ReadRequest}
use Rattle.ws_steps.specs.declared.readable.ReadableOperation.{ReadableOperation}
use Rattle.ws_steps.specs.declared.readable.ReadableOperation.TheVariants as names
use Rattle.ws_steps.specs.declared.readable.ReadableState.{ReadableState}
use Rattle.ws_steps.specs.declared.readable.ReadableState.TheVariants.{Readable, Closed, Errored}
use Rattle.ws_steps.specs.Bytes as byte
use Rattle.ws_steps.specs.Bytes.{Acts}
use Rattle.ws_steps.specs.Descriptors.{Descriptor, is_for_nobody, has_part, Filling, fill_from_queue, Processed}
use Rattle.ws_steps.specs.Effects.{type_error}
use Rattle.ws_steps.specs.Operations.{byte_readable_operation, byte_operation}
use Rattle.ws_steps.specs.Queues.{is_empty}
use Rattle.ws_steps.specs.Readable as readable
use Rattle.ws_laws.proofs.Tables.{either}
use Rattle.ws_reason_laws.specs.Reasons.{pull_errs}
use Rattle.ws_reason_laws.proofs.InTable.{settle-good}
use Rattle.ws_reason_laws.proofs.Readables.{Good, lets_go, effects-append, requests-append, close_all-good, close-good, error-good, release_by-good, initialize-good}
use Rattle.ws_reason_laws.proofs.Weights.{Class, cancelled, of_readable, of_byte, in_request, in_requests, in_effects, soft_reader, in_reader}

-- the stream within, and what is outside
abbrev pub inner : Acts → readable.Acts
inner a = record { slots = a.slots.stream; out = a.out }

-- whether an operation errs its stream with a TypeError
abbrev pub readable_errs : ReadableOperation → byte.Slots → Bool
readable_errs names.Close x = byte.close_throws x
readable_errs _ x = false

abbrev pub byte_errs : ByteOperation → byte.Slots → Bool
byte_errs (own_names.PullInto room element minimum request) x = pull_errs (record { filled = []; room = length room; minimum = minimum; element = element; room_kind = ForByob }) x
byte_errs _ x = false

module _ (k : Class) (me : StreamId) where
  abbrev Fine : Acts → Type 0
  Fine a = Good k me (inner a)

  abbrev Keeps : Acts → Acts → Type 0
  Keeps a b = Fine a → Fine b

  pull-fine : (a : Acts) → Keeps a (byte.call_pull_if_needed me a)
  unfolding byte.call_pull_if_needed
  pull-fine a h = grind (arith, h, effects-append)

  commits : (b : List ℕ) (q : ReadRequest) (state : ReadableState) → in_effects k (byte.commit_steps me b q state ∷ []) ≡ 0
  commits b q Readable = refl
  commits b q Closed = refl
  commits b q Errored = refl

  commit-fine : (b : List ℕ) (a : Acts) (rs : List ReadRequest) → rs ≡ a.slots.stream.requests → Keeps a (byte.commit_to me b a rs)
  commit-fine b a [] is h = h
  commit-fine b a (q ∷ qs) is h =
      let e = ap (in_requests k) is in
      let n = effects-append k a.out.effects (byte.commit_steps me b q a.slots.stream.state ∷ []) in
      let c = commits b q a.slots.stream.state in omega (arith, h, e, n, c)

  commit_all-fine : (ds : List Descriptor) (a : Acts) → Keeps a (byte.commit_all me ds a)
  commit_all-fine [] a h = h
  commit_all-fine (d ∷ ds) a h = commit_all-fine ds (byte.commit me d a) (commit-fine d.filled a a.slots.stream.requests refl h)

  process-fine : (a : Acts) → Keeps a (byte.process_and_commit me a)
  process-fine a h = let x : Processed = byte.processed_of a in commit_all-fine x.ready (byte.put_processed x a) h

  first-fine : (n : ℕ) (a : Acts) → Keeps a (byte.commit_first me n a)
  first-fine n a h = commit_all-fine (take n a.slots.descriptors) (byte.with_slots (record a.slots { descriptors = drop n a.slots.descriptors }) a) h

  detach-fine : (a : Acts) (ds : List Descriptor) → Keeps a (byte.detach_first a ds)
  detach-fine a [] h = h
  detach-fine a (d ∷ ds) h = h

  renounce-fine : (a : Acts) (ds : List Descriptor) → Keeps a (byte.renounce a ds)
  renounce-fine a [] h = h
  renounce-fine a (d ∷ ds) h =
      let z : Acts = byte.invalidate_request a in
      either Fine (is_for_nobody d.room_kind) (byte.detached_to_queue z) z (λ e. detach-fine z z.slots.descriptors h) (λ e. h)

  accept_for-fine : (b : List ℕ) (a : Acts) (rs : List ReadRequest) → rs ≡ a.slots.stream.requests → Keeps a (byte.accept_for me b a rs)
  accept_for-fine b a [] is h = h
  accept_for-fine b a (q ∷ qs) is h =
      let e = ap (in_requests k) is in let n = effects-append k a.out.effects (ChunkSteps me q (Bytes b) ∷ []) in omega (arith, h, e, n)

  -- the ends

  keeping-fine : (a : Acts) (r : Option PromiseId) → Fine a → Good k me (byte.close_keeping (inner a) r)
  keeping-fine a None h = h
  keeping-fine a (Some closed) h = let s = settle-good k closed (Ok Undefined) a.out.promises (omega (arith, h)) refl in omega (arith, h, s)

  byte_close-fine : (a : Acts) → Keeps a (byte.stream_close me a)
  unfolding byte.stream_close
  byte_close-fine a h =
      either Fine (byte.has_byob_reader a.slots) (byte.in_stream byte.close_stream_keeping a) (byte.in_stream (readable.stream_close me) a)
      (λ y. keeping-fine (byte.with_slots (record a.slots { stream = record a.slots.stream { state = Closed } }) a) a.slots.stream.reader (omega (arith, h)))
      (λ n. close-good k me (inner a) h)

  byte_error-fine : (r : Plain) (a : Acts) → k.bad r ≡ 0 → Keeps a (byte.controller_error me r a)
  unfolding byte.controller_error
  byte_error-fine r a b h =
      either Fine (readable.is_readable a.slots.stream.state) (byte.in_stream (readable.stream_error me r) (byte.clear_all a)) a (λ e. error-good k me r (inner a) b h) (λ e. h)

  drain-fine : (a : Acts) → Keeps a (byte.handle_queue_drain me a)
  unfolding byte.handle_queue_drain
  drain-fine a h =
      either Fine (is_empty a.slots.queue && a.slots.stream.close_requested) (byte.stream_close me a) (byte.call_pull_if_needed me a) (λ y. byte_close-fine a h) (λ n. pull-fine a h)

  -- an effect that carries nothing bad
  causes-fine : (a : Acts) (e : _) → in_effects k (e ∷ []) ≡ 0 → Keeps a (byte.causing e a)
  causes-fine a e z h = let n = effects-append k a.out.effects (e ∷ []) in omega (arith, h, n, z)

  waits-fine : (q : ReadRequest) (a : Acts) → in_request k q ≡ 0 → Keeps a (byte.wait q a)
  waits-fine q a z h = let n = requests-append k a.slots.stream.requests (q ∷ []) in omega (arith, h, n, z)

  -- bytes are enqueued

  drained : (a : Acts) → a.slots.stream.close_requested ≡ false → (byte.handle_queue_drain me a).slots.stream.requests ≡ a.slots.stream.requests
  unfolding byte.handle_queue_drain byte.call_pull_if_needed
  drained a unasked = grind (arith, unasked)

  drain-unasked : (a : Acts) → a.slots.stream.close_requested ≡ false → (byte.handle_queue_drain me a).slots.stream.close_requested ≡ false
  unfolding byte.handle_queue_drain byte.call_pull_if_needed
  drain-unasked a unasked = grind (arith, unasked)

  requests-by : (q : ReadRequest) (qs : List ReadRequest) (a : Acts) (queue : List (List ℕ)) → (q ∷ qs) ≡ a.slots.stream.requests → a.slots.stream.close_requested ≡ false
      → ((c : Acts) → qs ≡ c.slots.stream.requests → c.slots.stream.close_requested ≡ false → Keeps c (byte.process_requests me qs c)) → Fine a
      → Fine (elim queue [ [] ↦ a | b ∷ bs ↦ byte.process_requests me qs (byte.fill_read_request me q (byte.with_requests qs a) (b ∷ bs)) ])
  requests-by q qs a [] is unasked more h = h
  requests-by q qs a (b ∷ bs) is unasked more h =
      let z : Acts = byte.with_slots (record (byte.with_requests qs a).slots { queue = bs }) a in
      let w : Acts = byte.handle_queue_drain me z in
      let e = ap (in_requests k) is in
      let f : Fine z = omega (arith, h, e) in
      more (byte.causing (ChunkSteps me q (Bytes b)) w) (sym (drained z unasked)) (drain-unasked z unasked) (causes-fine w (ChunkSteps me q (Bytes b)) refl (drain-fine z f))

  requests-fine : (rs : List ReadRequest) (a : Acts) → rs ≡ a.slots.stream.requests → a.slots.stream.close_requested ≡ false → Keeps a (byte.process_requests me rs a)
  requests-fine [] a is unasked h = h
  requests-fine (q ∷ qs) a is unasked h = requests-by q qs a a.slots.queue is unasked (λ c at o. requests-fine qs c at o) h

  detach-stream : (a : Acts) (ds : List Descriptor) → (byte.detach_first a ds).slots.stream ≡ a.slots.stream
  detach-stream a [] = refl
  detach-stream a (d ∷ ds) = refl

  renounce-stream : (a : Acts) (ds : List Descriptor) → (byte.renounce a ds).slots.stream ≡ a.slots.stream
  renounce-stream a [] = refl
  renounce-stream a (d ∷ ds) =
      let z : Acts = byte.invalidate_request a in
      either (λ (b : Acts). b.slots.stream ≡ a.slots.stream) (is_for_nobody d.room_kind) (byte.detached_to_queue z) z (λ e. detach-stream z z.slots.descriptors) (λ e. refl)

  accept-fine : (b : List ℕ) (a : Acts) → a.slots.stream.close_requested ≡ false → Keeps a (byte.accept me b a)
  accept-fine b a unasked h =
      let c : Acts = byte.process_requests me a.slots.stream.requests a in
      either Fine (byte.has_default_reader a.slots) (byte.accept_default me b a) (if byte.has_byob_reader a.slots then byte.process_and_commit me (byte.append b a) else byte.append b a)
      (λ e. accept_for-fine b c c.slots.stream.requests refl (requests-fine a.slots.stream.requests a refl unasked h))
      (λ e. either Fine (byte.has_byob_reader a.slots) (byte.process_and_commit me (byte.append b a)) (byte.append b a) (λ f. process-fine (byte.append b a) h) (λ f. h))

  unasked_of : (c r : Bool) → not c && r ≡ true → c ≡ false
  unasked_of true r e = cc
  unasked_of false r e = refl

  enqueue-fine : (b : List ℕ) (a : Acts) → Keeps a (byte.controller_enqueue me b a)
  unfolding byte.controller_enqueue
  enqueue-fine b a h =
      let z : Acts = byte.renounce a a.slots.descriptors in
      either Fine (byte.can_take a.slots) (byte.call_pull_if_needed me (byte.accept me b z)) a
      (λ can.
      let unasked : z.slots.stream.close_requested ≡ false =
      ap (λ (s : readable.Slots). s.close_requested) (renounce-stream a a.slots.descriptors) ∙ unasked_of a.slots.stream.close_requested (readable.is_readable a.slots.stream.state) can in
      pull-fine (byte.accept me b z) (accept-fine b z unasked (renounce-fine a a.slots.descriptors h)))
      (λ cannot. h)

  -- responses

  closed-fine : (d : Descriptor) (a : Acts) → Keeps a (byte.respond_closed me d a)
  closed-fine d a h =
      let b : Acts = if is_for_nobody d.room_kind then byte.drop_first a else a in
      let f : Fine b = either Fine (is_for_nobody d.room_kind) (byte.drop_first a) a (λ e. h) (λ e. h) in
      either Fine (byte.has_byob_reader b.slots) (byte.commit_first me (length b.slots.stream.requests) b) b (λ e. first-fine (length b.slots.stream.requests) b f) (λ e. f)

  full-fine : (d : Descriptor) (a : Acts) → Keeps a (byte.respond_full me d a)
  full-fine d a h =
      let kept : ℕ = length d.filled - (length d.filled % d.element) in
      let b : Acts = byte.append (drop kept d.filled) (byte.drop_first a) in
      let x : Processed = byte.processed_of b in
      let c : Acts = byte.put_processed x b in
      let e : Descriptor = record d { filled = take kept d.filled } in
      commit_all-fine x.ready (byte.commit me e c) (commit-fine e.filled c c.slots.stream.requests refl h)

  respond_readable-fine : (d : Descriptor) (a : Acts) → Keeps a (byte.respond_readable me d a)
  respond_readable-fine d a h =
      let z : Acts = byte.put_first d a in
      either Fine (is_for_nobody d.room_kind) (byte.process_and_commit me (byte.detached_to_queue z)) (if nat_lt (length d.filled) d.minimum then z else byte.respond_full me d a)
      (λ e. process-fine (byte.detached_to_queue z) (detach-fine z z.slots.descriptors h))
      (λ e. either Fine (nat_lt (length d.filled) d.minimum) z (byte.respond_full me d a) (λ f. h) (λ f. full-fine d a h))

  respond_first-fine : (b : List ℕ) (a : Acts) (ds : List Descriptor) → Keeps a (byte.respond_first me b a ds)
  respond_first-fine b a [] h = h
  respond_first-fine b a (d ∷ ds) h =
      let y : Descriptor = record d { filled = d.filled ++ b } in
      either Fine (byte.is_closed a.slots.stream.state) (byte.respond_closed me d a) (byte.call_pull_if_needed me (byte.respond_readable me y a))
      (λ e. closed-fine d a h) (λ e. pull-fine (byte.respond_readable me y a) (respond_readable-fine y a h))

  meant-fine : (test : Bool) (b a : Acts) → Keeps a b → Keeps a (byte.if_meant test b a)
  meant-fine true b a f h = f h
  meant-fine false b a f h = h

  -- reads

  allocated : (a : Acts) (n : ℕ) → Keeps a (byte.auto_allocate a n)
  allocated a zero h = h
  allocated a (suc n) h = h

  pull_from-fine : (q : ReadRequest) (a : Acts) (queue : List (List ℕ)) → in_request k q ≡ 0 → Keeps a (byte.pull_from me q a queue)
  pull_from-fine q a [] z h = pull-fine (byte.wait q (byte.auto_allocate a a.slots.auto)) (waits-fine q (byte.auto_allocate a a.slots.auto) z (allocated a a.slots.auto h))
  pull_from-fine q a (b ∷ bs) z h =
      let w : Acts = byte.with_slots (record a.slots { queue = bs }) a in causes-fine (byte.handle_queue_drain me w) (ChunkSteps me q (Bytes b)) refl (drain-fine w h)

  read-fine : (q : ReadRequest) (a : Acts) (state : ReadableState) → in_request k q ≡ 0 → Keeps a (byte.read_by me q a state)
  unfolding byte.pull_steps
  read-fine q a Readable z h = pull_from-fine q a a.slots.queue z h
  read-fine q a Closed z h = causes-fine a (CloseSteps me q) refl h
  read-fine q a Errored z h = causes-fine a (ErrorSteps me q a.slots.stream.stored_error) (omega (arith, z)) h

  filled-fine : (q : ReadRequest) (a : Acts) (y : Filling) (ready : Bool) → ready ≡ y.ready → (a.slots.stream.close_requested && not ready ≡ true → k.bad type_error ≡ 0) → in_request k q ≡ 0 → Keeps a (byte.pull_filled me q a y)
  filled-fine q a y true is b z h =
      let w : Acts = byte.put_queue y.queue a in rw (← is) (causes-fine (byte.handle_queue_drain me w) (ChunkSteps me q (Bytes y.descriptor.filled)) refl (drain-fine w h))
  filled-fine q a y false is b z h =
      let w : Acts = byte.put_queue y.queue a in
      let v : Acts = byte.pull_waits y.descriptor q w in
      rw (← is)
      (either Fine a.slots.stream.close_requested (byte.causing (ErrorSteps me q type_error) (byte.controller_error me type_error w)) (byte.call_pull_if_needed me v)
      (λ c. causes-fine (byte.controller_error me type_error w) (ErrorSteps me q type_error) (omega (arith, z)) (byte_error-fine type_error w (b (rw c refl)) h))
      (λ c. pull-fine v (waits-fine q (byte.add_descriptor y.descriptor w) z h)))

  -- the bytes that are queued don't fill the room, and a close was requested
  abbrev Errs : Descriptor → Acts → List (List ℕ) → Bool
  Errs d a queue = a.slots.stream.close_requested && not (fill_from_queue d queue).ready

  from_queue-fine : (d : Descriptor) (q : ReadRequest) (a : Acts) (queue : List (List ℕ)) → (not (is_empty queue) && Errs d a queue ≡ true → k.bad type_error ≡ 0) → in_request k q ≡ 0 → Keeps a (byte.pull_from_queue me d q a queue)
  from_queue-fine d q a [] b z h = pull-fine (byte.pull_waits d q a) (waits-fine q (byte.add_descriptor d a) z h)
  from_queue-fine d q a (x ∷ xs) b z h = filled-fine q a (fill_from_queue d (x ∷ xs)) (fill_from_queue d (x ∷ xs)).ready refl b z h

  pull_first-fine : (d : Descriptor) (q : ReadRequest) (a : Acts) (ds : List Descriptor) → (is_empty ds && (not (is_empty a.slots.queue) && Errs d a a.slots.queue) ≡ true → k.bad type_error ≡ 0) → in_request k q ≡ 0
      → Keeps a (byte.pull_first me d q a ds)
  pull_first-fine d q a (y ∷ ys) b z h = waits-fine q (byte.add_descriptor d a) z h
  pull_first-fine d q a [] b z h =
      either Fine (byte.is_closed a.slots.stream.state) (byte.causing (CloseStepsWith me q []) a) (byte.pull_from_queue me d q a a.slots.queue)
      (λ c. causes-fine a (CloseStepsWith me q []) refl h) (λ c. from_queue-fine d q a a.slots.queue b z h)

  byob-fine : (d : Descriptor) (q : ReadRequest) (a : Acts) → (pull_errs d a.slots ≡ true → k.bad type_error ≡ 0) → in_request k q ≡ 0 → Keeps a (byte.byob_reader_read me d q a)
  unfolding byte.byob_reader_read byte.pull_into readable.disturb
  byob-fine d q a b z h =
      let w : Acts = byte.in_stream readable.disturb a in
      either Fine (byte.is_errored a.slots.stream.state) (byte.causing (ErrorSteps me q a.slots.stream.stored_error) w) (byte.pull_first me d q w a.slots.descriptors)
      (λ e. causes-fine w (ErrorSteps me q a.slots.stream.stored_error) (omega (arith, z)) h)
      (λ e. pull_first-fine d q w a.slots.descriptors b z h)

  -- closing, cancelling and releasing

  close_by-fine : (a : Acts) (queue : List (List ℕ)) → (is_empty queue && has_part a.slots.descriptors ≡ true → k.bad type_error ≡ 0) → Keeps a (byte.close_by me a queue)
  close_by-fine a (b ∷ bs) f h = h
  close_by-fine a [] f h =
      either Fine (has_part a.slots.descriptors) (byte.controller_error me type_error a) (byte.stream_close me a) (λ p. byte_error-fine type_error a (f p) h) (λ p. byte_close-fine a h)

  controller_close-fine : (a : Acts) → (byte.close_throws a.slots ≡ true → k.bad type_error ≡ 0) → Keeps a (byte.controller_close me a)
  unfolding byte.controller_close
  controller_close-fine a f h =
      either Fine (byte.can_take a.slots) (byte.close_by me a a.slots.queue) a
      (λ can. close_by-fine a a.slots.queue (λ p. f (rw can p)) h) (λ cannot. h)

  close_into-fine : (a : Acts) → Keeps a (byte.close_into me a)
  close_into-fine a h =
      let n = effects-append k a.out.effects (readable.close_all me a.slots.stream.requests) in
      let c = close_all-good k me a.slots.stream.requests in
      either Fine (byte.has_byob_reader a.slots) _ a (λ e. omega (arith, h, n, c)) (λ e. h)

  errored-fine : (a : Acts) → Errored ≡ a.slots.stream.state → Fine a → k.bad a.slots.stream.stored_error ≡ 0
  errored-fine a e h = grind (arith, h, e)

  cancel_by-fine : (r : Plain) (p : PromiseId) (a : Acts) (state : ReadableState) → state ≡ a.slots.stream.state → cancelled k me r ≡ 0 → Keeps a (byte.cancel_by me r p a state)
  cancel_by-fine r p a Readable e z h =
      let b : Acts = byte.close_into me (byte.stream_close me a) in
      causes-fine (byte.clear_all b) (CancelAlgorithm me r p) (omega (arith, z)) (close_into-fine (byte.stream_close me a) (byte_close-fine a h))
  cancel_by-fine r p a Closed e z h = let s = settle-good k p (Ok Undefined) a.out.promises (omega (arith, h)) refl in omega (arith, h, s)
  cancel_by-fine r p a Errored e z h = let s = settle-good k p (Err a.slots.stream.stored_error) a.out.promises (omega (arith, h)) (errored-fine a e h) in omega (arith, h, s)

  cancel-fine : (r : Plain) (p : PromiseId) (a : Acts) → cancelled k me r ≡ 0 → Keeps a (byte.stream_cancel me r p a)
  unfolding byte.stream_cancel readable.disturb
  cancel-fine r p a z h = cancel_by-fine r p (byte.in_stream readable.disturb a) a.slots.stream.state refl z h

  initialize-fine : (kind : ReaderKind) (c : PromiseId) (a : Acts) → in_reader k me.0 (Some c) ≡ 0 → Keeps a (byte.reader_initialize kind c a)
  unfolding byte.reader_initialize
  initialize-fine kind c a z h = meant-fine (is_none a.slots.stream.reader) _ a (λ h. initialize-good k me c (inner a) z h) h

  ended-fine : (a : Acts) (again : Bool) → Keeps a (byte.pull_ended me a again)
  ended-fine a false h = h
  ended-fine a true h = pull-fine (byte.with_slots (record a.slots { stream = record a.slots.stream { pull_again = false } }) a) h

  pub byte_readable-good : (operation : ReadableOperation) (a : Acts) → of_readable k me operation ≡ 0 → (readable_errs operation a.slots ≡ true → k.bad type_error ≡ 0) → (lets_go operation ≡ true → soft_reader k a.slots.stream.reader ≡ 0) → Keeps a (byte_readable_operation me operation a)
  unfolding byte.reader_release readable.reader_release readable.disturb byte.read byte.default_reader_read byte.cancel_if_readable byte.start_settled byte.pull_settled
  byte_readable-good (names.InitializeReader c) a f e z h = initialize-fine Default c a f h
  byte_readable-good names.ReleaseReader a f e z h = release_by-good k me (inner a) a.slots.stream.reader (z refl) h
  byte_readable-good names.Disturb a f e z h = h
  byte_readable-good (names.Read q) a f e z h =
      either Fine (byte.is_of_tee q) a (byte.if_meant (byte.may_read a.slots) (byte.read_by me q (byte.in_stream readable.disturb a) a.slots.stream.state) a) (λ t. h)
      (λ t. meant-fine (byte.may_read a.slots) (byte.read_by me q (byte.in_stream readable.disturb a) a.slots.stream.state) a (λ h. read-fine q (byte.in_stream readable.disturb a) a.slots.stream.state f h) h)
  byte_readable-good (names.Cancel r p) a f e z h = cancel-fine r p a f h
  byte_readable-good (names.CancelIfReadable r p) a f e z h =
      let s = settle-good k p (Ok Undefined) a.out.promises (omega (arith, h)) refl in
      either Fine (readable.is_readable a.slots.stream.state) (byte.stream_cancel me r p a) _ (λ i. cancel-fine r p a f h) (λ i. omega (arith, h, s))
  byte_readable-good (names.Enqueue v) a f e z h = h
  byte_readable-good names.Close a f e z h = controller_close-fine a e h
  byte_readable-good (names.Error r) a f e z h = byte_error-fine r a f h
  byte_readable-good (names.StartSettled (Ok v)) a f e z h = pull-fine (byte.with_slots (record a.slots { stream = record a.slots.stream { started = true } }) a) h
  byte_readable-good (names.StartSettled (Err r)) a f e z h = byte_error-fine r a f h
  byte_readable-good (names.PullSettled (Ok v)) a f e z h = ended-fine (byte.with_slots (record a.slots { stream = record a.slots.stream { pulling = false } }) a) a.slots.stream.pull_again h
  byte_readable-good (names.PullSettled (Err r)) a f e z h = byte_error-fine r a f h

  pub byte-good : (operation : ByteOperation) (a : Acts) → of_byte k me operation ≡ 0 → (byte_errs operation a.slots ≡ true → k.bad type_error ≡ 0) → Keeps a (byte_operation me operation a)
  unfolding byte.read_into byte.respond
  byte-good (own_names.InitializeByobReader c) a f e h = initialize-fine Byob c a f h
  byte-good (own_names.Enqueue b) a f e h = enqueue-fine b a h
  byte-good (own_names.PullInto room element minimum q) a f e h =
      let d : Descriptor = record { filled = []; room = length room; minimum = minimum; element = element; room_kind = ForByob } in
      meant-fine (byte.may_pull_into a.slots && byte.is_least (length room) element minimum) (byte.byob_reader_read me d q a) a (λ h. byob-fine d q a e f h) h
  byte-good (own_names.MakeRequest q) a f e h = h
  byte-good (own_names.Respond b) a f e h =
      meant-fine (byte.may_respond (length b) a.slots) (byte.respond_internal me b a) a (λ h. respond_first-fine b (byte.invalidate_request a) a.slots.descriptors h) h
