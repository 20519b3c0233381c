-- No operation of a byte stream changes the length of the rooms that its controller allocates.
use Rattle.std.proofs.Common.{◌≡◌, ℕ, zero, suc, Bool, true, false, List, [], ◌∷◌, ◌++◌, length, take, drop, Ok, Err, refl, ◌∙◌, arith}
use Rattle.std.specs.Prelude.{◌-◌, ◌%◌, ◌&&◌, is_none}
use Rattle.ws_value.specs.declared.ids.PromiseId.{PromiseId}
use Rattle.ws_value.specs.declared.ids.StreamId.{StreamId}
use Rattle.ws_value.specs.declared.value.Plain.{Plain}
use Rattle.ws_steps.specs.declared.byte.ByteOperation.{ByteOperation}
use Rattle.ws_steps.specs.declared.byte.ByteOperation.TheVariants as own_names
use Rattle.ws_steps.specs.declared.byte.ReaderKind.{ReaderKind}
use Rattle.ws_steps.specs.declared.byte.ReaderKind.TheVariants.{Default, Byob}
use Rattle.ws_steps.specs.declared.byte.RoomKind.TheVariants.{ForByob}
use Rattle.ws_steps.specs.declared.readable.ReadRequest.{ReadRequest}
use Rattle.ws_steps.specs.declared.readable.ReadRequest.TheVariants.{Promise, Pipe, Tee}
use Rattle.ws_steps.specs.declared.readable.ReadableOperation.{ReadableOperation}
use Rattle.ws_steps.specs.declared.readable.ReadableOperation.TheVariants as names
use Rattle.ws_steps.specs.declared.readable.ReadableState.{ReadableState}
use Rattle.ws_steps.specs.declared.readable.ReadableState.TheVariants.{Readable, Closed, Errored}
use Rattle.ws_steps.specs.Bytes as byte
use Rattle.ws_steps.specs.Bytes.{Acts}
use Rattle.ws_steps.specs.Descriptors.{Descriptor, Filling, fill_from_queue, Processed}
use Rattle.ws_steps.specs.Effects.{type_error}
use Rattle.ws_steps.specs.Readable as readable
use Rattle.ws_steps.specs.Operations.{byte_readable_operation, byte_operation}

module _ (i : StreamId) where
  abbrev Same : Acts → Acts → Type 0
  Same a b = b.slots.auto ≡ a.slots.auto

  pull-auto : (a : Acts) → Same a (byte.call_pull_if_needed i a)
  unfolding byte.call_pull_if_needed
  pull-auto a = grind arith

  close-auto : (a : Acts) → Same a (byte.stream_close i a)
  unfolding byte.stream_close
  close-auto a = grind arith

  error-auto : (e : Plain) (a : Acts) → Same a (byte.controller_error i e a)
  unfolding byte.controller_error
  error-auto e a = grind arith

  drain-auto : (a : Acts) → Same a (byte.handle_queue_drain i a)
  unfolding byte.handle_queue_drain
  drain-auto a = grind (arith, close-auto, pull-auto)

  fill-auto : (q : ReadRequest) (a : Acts) (queue : List (List ℕ)) → Same a (byte.fill_read_request i q a queue)
  fill-auto q a [] = refl
  fill-auto q a (b ∷ bs) = drain-auto (byte.with_slots (record a.slots { queue = bs }) a)

  allocate-auto : (a : Acts) (n : ℕ) → Same a (byte.auto_allocate a n)
  allocate-auto a zero = refl
  allocate-auto a (suc n) = refl

  pull_from-auto : (q : ReadRequest) (a : Acts) (queue : List (List ℕ)) → Same a (byte.pull_from i q a queue)
  pull_from-auto q a [] = pull-auto (byte.wait q (byte.auto_allocate a a.slots.auto)) ∙ allocate-auto a a.slots.auto
  pull_from-auto q a (b ∷ bs) = fill-auto q a (b ∷ bs)

  read-auto : (q : ReadRequest) (a : Acts) (state : ReadableState) → Same a (byte.read_by i q a state)
  unfolding byte.pull_steps
  read-auto q a Readable = pull_from-auto q a a.slots.queue
  read-auto q a Closed = refl
  read-auto q a Errored = refl

  close_by-auto : (a : Acts) (queue : List (List ℕ)) → Same a (byte.close_by i a queue)
  close_by-auto a (b ∷ bs) = refl
  close_by-auto a [] = grind (arith, error-auto, close-auto)

  close_into-auto : (a : Acts) → Same a (byte.close_into i a)
  close_into-auto a = grind arith

  cancel_by-auto : (r : Plain) (p : PromiseId) (a : Acts) (state : ReadableState) → Same a (byte.cancel_by i r p a state)
  cancel_by-auto r p a Readable = close_into-auto (byte.stream_close i a) ∙ close-auto a
  cancel_by-auto r p a Closed = refl
  cancel_by-auto r p a Errored = refl

  cancel-auto : (r : Plain) (p : PromiseId) (a : Acts) → Same a (byte.stream_cancel i r p a)
  unfolding byte.stream_cancel
  cancel-auto r p a = cancel_by-auto r p _ a.slots.stream.state

  pull_ended-auto : (a : Acts) (again : Bool) → Same a (byte.pull_ended i a again)
  pull_ended-auto a false = refl
  pull_ended-auto a true = pull-auto (byte.with_slots (record a.slots { stream = record a.slots.stream { pull_again = false } }) a)

  meant-auto : (test : Bool) (b a : Acts) → Same a b → Same a (byte.if_meant test b a)
  meant-auto true b a h = h
  meant-auto false b a h = refl

  initialize-auto : (kind : ReaderKind) (closed : PromiseId) (a : Acts) → Same a (byte.reader_initialize kind closed a)
  unfolding byte.reader_initialize
  initialize-auto kind closed a = meant-auto (is_none a.slots.stream.reader) _ a refl

  pub byte_readable-auto : (operation : ReadableOperation) (a : Acts) → Same a (byte_readable_operation i operation a)
  unfolding byte.reader_release byte.read byte.default_reader_read byte.cancel_if_readable byte.controller_close byte.start_settled byte.pull_settled
  byte_readable-auto (names.InitializeReader closed) a = initialize-auto Default closed a
  byte_readable-auto names.ReleaseReader a = refl
  byte_readable-auto names.Disturb a = refl
  byte_readable-auto (names.Read (Promise p)) a = meant-auto (byte.may_read a.slots) _ a (read-auto (Promise p) _ a.slots.stream.state)
  byte_readable-auto (names.Read (Pipe p)) a = meant-auto (byte.may_read a.slots) _ a (read-auto (Pipe p) _ a.slots.stream.state)
  byte_readable-auto (names.Read (Tee t)) a = refl
  byte_readable-auto (names.Cancel r p) a = cancel-auto r p a
  byte_readable-auto (names.CancelIfReadable r p) a = let h = cancel-auto r p a in grind (arith, h)
  byte_readable-auto (names.Enqueue v) a = refl
  byte_readable-auto names.Close a = let h = close_by-auto a a.slots.queue in grind (arith, h)
  byte_readable-auto (names.Error e) a = error-auto e a
  byte_readable-auto (names.StartSettled (Ok v)) a = pull-auto (byte.with_slots (record a.slots { stream = record a.slots.stream { started = true } }) a)
  byte_readable-auto (names.StartSettled (Err e)) a = error-auto e a
  byte_readable-auto (names.PullSettled (Ok v)) a = pull_ended-auto (byte.with_slots (record a.slots { stream = record a.slots.stream { pulling = false } }) a) a.slots.stream.pull_again
  byte_readable-auto (names.PullSettled (Err e)) a = error-auto e a

  commit_to-auto : (b : List ℕ) (a : Acts) (rs : List ReadRequest) → Same a (byte.commit_to i b a rs)
  commit_to-auto b a [] = refl
  commit_to-auto b a (q ∷ qs) = refl

  commit_all-auto : (ds : List Descriptor) (a : Acts) → Same a (byte.commit_all i ds a)
  commit_all-auto [] a = refl
  commit_all-auto (d ∷ ds) a = commit_all-auto ds (byte.commit i d a) ∙ commit_to-auto d.filled a a.slots.stream.requests

  process-auto : (a : Acts) → Same a (byte.process_and_commit i a)
  process-auto a = let x : Processed = byte.processed_of a in commit_all-auto x.ready (byte.put_processed x a)

  detach-auto : (a : Acts) (ds : List Descriptor) → Same a (byte.detach_first a ds)
  detach-auto a [] = refl
  detach-auto a (d ∷ ds) = refl

  renounce-auto : (a : Acts) (ds : List Descriptor) → Same a (byte.renounce a ds)
  renounce-auto a [] = refl
  renounce-auto a (d ∷ ds) = let h = detach-auto (byte.invalidate_request a) a.slots.descriptors in grind (arith, h)

  requests-by : (q : ReadRequest) (qs : List ReadRequest) (a : Acts) (queue : List (List ℕ)) → ((c : Acts) → Same c (byte.process_requests i qs c))
      → Same a (elim queue [ [] ↦ a | b ∷ bs ↦ byte.process_requests i qs (byte.fill_read_request i q (byte.with_requests qs a) (b ∷ bs)) ])
  requests-by q qs a [] more = refl
  requests-by q qs a (b ∷ bs) more = more _ ∙ fill-auto q (byte.with_requests qs a) (b ∷ bs)

  requests-auto : (rs : List ReadRequest) (a : Acts) → Same a (byte.process_requests i rs a)
  requests-auto [] a = refl
  requests-auto (q ∷ qs) a = requests-by q qs a a.slots.queue (requests-auto qs)

  accept_for-auto : (b : List ℕ) (a : Acts) (rs : List ReadRequest) → Same a (byte.accept_for i b a rs)
  accept_for-auto b a [] = refl
  accept_for-auto b a (q ∷ qs) = refl

  accept_default-auto : (b : List ℕ) (a : Acts) → Same a (byte.accept_default i b a)
  accept_default-auto b a =
      let c : Acts = byte.process_requests i a.slots.stream.requests a in accept_for-auto b c c.slots.stream.requests ∙ requests-auto a.slots.stream.requests a

  accept-auto : (b : List ℕ) (a : Acts) → Same a (byte.accept i b a)
  accept-auto b a = let h = accept_default-auto b a in let g = process-auto (byte.append b a) in grind (arith, h, g)

  enqueue-auto : (b : List ℕ) (a : Acts) → Same a (byte.controller_enqueue i b a)
  unfolding byte.controller_enqueue
  enqueue-auto b a =
      let z : Acts = byte.renounce a a.slots.descriptors in
      let h = renounce-auto a a.slots.descriptors in let g = accept-auto b z in let f = pull-auto (byte.accept i b z) in grind (arith, h, g, f)

  filled-auto : (q : ReadRequest) (a : Acts) (f : Filling) → Same a (byte.pull_filled i q a f)
  filled-auto q a f =
      let z : Acts = byte.put_queue f.queue a in
      let h = drain-auto z in let g = error-auto type_error z in let k = pull-auto (byte.pull_waits f.descriptor q z) in grind (arith, h, g, k)

  from_queue-auto : (d : Descriptor) (q : ReadRequest) (a : Acts) (queue : List (List ℕ)) → Same a (byte.pull_from_queue i d q a queue)
  from_queue-auto d q a [] = pull-auto (byte.pull_waits d q a)
  from_queue-auto d q a (b ∷ bs) = filled-auto q a (fill_from_queue d (b ∷ bs))

  pull_first-auto : (d : Descriptor) (q : ReadRequest) (a : Acts) (ds : List Descriptor) → Same a (byte.pull_first i d q a ds)
  pull_first-auto d q a (x ∷ xs) = refl
  pull_first-auto d q a [] = let h = from_queue-auto d q a a.slots.queue in grind (arith, h)

  byob_read-auto : (d : Descriptor) (q : ReadRequest) (a : Acts) → Same a (byte.byob_reader_read i d q a)
  unfolding byte.byob_reader_read byte.pull_into
  byob_read-auto d q a = let h = pull_first-auto d q (byte.in_stream readable.disturb a) a.slots.descriptors in grind (arith, h)

  first-auto : (n : ℕ) (a : Acts) → Same a (byte.commit_first i n a)
  first-auto n a = commit_all-auto (take n a.slots.descriptors) (byte.with_slots (record a.slots { descriptors = drop n a.slots.descriptors }) a)

  closed-auto : (d : Descriptor) (a : Acts) → Same a (byte.respond_closed i d a)
  closed-auto d a = grind (arith, first-auto)

  full-auto : (d : Descriptor) (a : Acts) → Same a (byte.respond_full i d a)
  full-auto d a =
      let kept : ℕ = length d.filled - (length d.filled % d.element) in
      let b : Acts = byte.append (drop kept d.filled) (byte.drop_first a) in
      let x : Processed = byte.processed_of b in
      let c : Acts = byte.put_processed x b in
      commit_all-auto x.ready (byte.commit i (record d { filled = take kept d.filled }) c) ∙ commit_to-auto (take kept d.filled) c c.slots.stream.requests

  readable-auto : (d : Descriptor) (a : Acts) → Same a (byte.respond_readable i d a)
  readable-auto d a =
      let z : Acts = byte.put_first d a in
      let h = process-auto (byte.detached_to_queue z) in let g = detach-auto z z.slots.descriptors in let f = full-auto d a in grind (arith, h, g, f)

  respond_first-auto : (b : List ℕ) (a : Acts) (ds : List Descriptor) → Same a (byte.respond_first i b a ds)
  respond_first-auto b a [] = refl
  respond_first-auto b a (d ∷ ds) =
      let y : Descriptor = record d { filled = d.filled ++ b } in
      let h = closed-auto d a in let g = readable-auto y a in let f = pull-auto (byte.respond_readable i y a) in grind (arith, h, g, f)

  pub byte-auto : (operation : ByteOperation) (a : Acts) → Same a (byte_operation i operation a)
  unfolding byte.respond byte.read_into
  byte-auto (own_names.InitializeByobReader closed) a = initialize-auto Byob closed a
  byte-auto (own_names.Enqueue b) a = enqueue-auto b a
  byte-auto (own_names.PullInto room element minimum q) a =
      let d : Descriptor = record { filled = []; room = length room; minimum = minimum; element = element; room_kind = ForByob } in
      meant-auto (byte.may_pull_into a.slots && byte.is_least (length room) element minimum) _ a (byob_read-auto d q a)
  byte-auto (own_names.MakeRequest q) a = refl
  byte-auto (own_names.Respond b) a = meant-auto (byte.may_respond (length b) a.slots) _ a (respond_first-auto b (byte.invalidate_request a) a.slots.descriptors)
