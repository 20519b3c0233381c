-- How requests go from a byte stream to the effects that answer them: of so much as each weighs, as much stands in the stream and its effects
-- after an operation that is meant as before it, and in the request that it is given.
use Rattle.std.proofs.Common.{◌≡◌, ◌+◌, ℕ, Bool, true, false, not, ◌&&◌, List, [], ◌∷◌, ◌++◌, length, take, drop, Ok, Err, refl, sym, ap, ◌∙◌, arith}
use Rattle.std.specs.Prelude.{if◌then◌else◌, nat_lt, ◌-◌, ◌%◌, suc, zero}
use Rattle.ws_value.specs.declared.ids.PromiseId.{PromiseId}
use Rattle.ws_value.specs.declared.ids.StreamId.{StreamId}
use Rattle.ws_value.specs.declared.value.Plain.{Plain}
use Rattle.ws_value.specs.declared.value.Value.TheVariants.{Bytes}
use Rattle.ws_steps.specs.declared.byte.ByteOperation.{ByteOperation}
use Rattle.ws_steps.specs.declared.byte.ByteOperation.TheVariants as own_names
use Rattle.ws_steps.specs.declared.byte.ReaderKind.{ReaderKind}
use Rattle.ws_steps.specs.declared.byte.ReaderKind.TheVariants.{Default, Byob}
use Rattle.ws_steps.specs.declared.byte.RoomKind.TheVariants.{ForByob}
use Rattle.ws_steps.specs.declared.effects.Effect.{Effect}
use Rattle.ws_steps.specs.declared.effects.Effect.TheVariants.{ChunkSteps, CloseSteps, CloseStepsWith, ErrorSteps, CancelAlgorithm}
use Rattle.ws_steps.specs.declared.{readable.ReadRequest.{ReadRequest}, readable.ReadableOperation.{ReadableOperation}}
use Rattle.ws_steps.specs.declared.readable.ReadableOperation.TheVariants as names_of
use Rattle.ws_steps.specs.declared.{readable.ReadableState.{ReadableState}, readable.ReadableState.TheVariants.{Readable, Closed, Errored}}
use Rattle.ws_steps.specs.Bytes as byte
use Rattle.ws_steps.specs.Bytes.{Slots, Acts}
use Rattle.ws_steps.specs.Descriptors.{Descriptor, is_for_nobody, has_part, Filling, fill_from_queue, Processed}
use Rattle.ws_steps.specs.Effects.{type_error}
use Rattle.ws_steps.specs.Operations.{byte_readable_operation, byte_operation}
use Rattle.ws_steps.specs.Readable as readable
use Rattle.ws_laws.proofs.Tables.{either}
use Rattle.ws_laws.proofs.ByteHands.{sum_of, sum-append, Weighs, given_read, given_into}

not-true : (c r : Bool) → (not c && r) ≡ true → c ≡ false
not-true true r e = cc
not-true false r e = refl

module _ (me : StreamId) (w : ReadRequest → ℕ) (v : Effect → ℕ) (weighs : Weighs me w v) where
  -- what stands in the stream and its effects
  abbrev pub hands : Acts → ℕ
  hands a = sum_of w a.slots.stream.requests + sum_of v a.out.effects

  -- as much stands in b as in a, and n
  abbrev pub Hands : ℕ → Acts → Acts → Type 0
  Hands n a b = hands b ≡ hands a + n

  -- one more effect
  caused : (e : Effect) (a : Acts) → hands (byte.causing e a) ≡ hands a + v e
  caused e a = let n = sum-append v a.out.effects (e ∷ []) in omega (arith, n)

  hands-then : (n : ℕ) (a b c : Acts) → Hands n a b → Hands 0 b c → Hands n a c
  hands-then n a b c p q = omega (arith, p, q)

  in_close_all : (rs : List ReadRequest) → sum_of v (readable.close_all me rs) ≡ sum_of w rs
  in_close_all [] = refl
  in_close_all (r ∷ rs) = let n = in_close_all rs in let m = weighs.close r in omega (arith, n, m)

  in_error_all : (e : Plain) (rs : List ReadRequest) → sum_of v (readable.error_all me e rs) ≡ sum_of w rs
  in_error_all e [] = refl
  in_error_all e (r ∷ rs) = let n = in_error_all e rs in let m = weighs.error r e in omega (arith, n, m)

  pull-hands : (a : Acts) → Hands 0 a (byte.call_pull_if_needed me a)
  unfolding byte.call_pull_if_needed
  pull-hands a = let m = weighs.pull in grind (arith, sum-append, m)

  close-hands : (a : Acts) → Hands 0 a (byte.stream_close me a)
  unfolding byte.stream_close readable.stream_close
  close-hands a = grind (arith, sum-append, in_close_all)

  error-hands : (e : Plain) (a : Acts) → Hands 0 a (byte.controller_error me e a)
  unfolding byte.controller_error readable.stream_error
  error-hands e a = grind (arith, sum-append, in_error_all)

  drain-hands : (a : Acts) → Hands 0 a (byte.handle_queue_drain me a)
  unfolding byte.handle_queue_drain
  drain-hands a = let h = close-hands a in let g = pull-hands a in grind (arith, h, g)

  commit-of : (b : List ℕ) (q : ReadRequest) (state : ReadableState) → v (byte.commit_steps me b q state) ≡ w q
  commit-of b q Readable = weighs.chunk q (Bytes b)
  commit-of b q Closed = weighs.close_with q b
  commit-of b q Errored = weighs.chunk q (Bytes b)

  commit-hands : (b : List ℕ) (a : Acts) (rs : List ReadRequest) → rs ≡ a.slots.stream.requests → Hands 0 a (byte.commit_to me b a rs)
  commit-hands b a [] is = omega arith
  commit-hands b a (q ∷ qs) is =
      let e = ap (sum_of w) is in
      let n = sum-append v a.out.effects (byte.commit_steps me b q a.slots.stream.state ∷ []) in
      let c = commit-of b q a.slots.stream.state in omega (arith, e, n, c)

  commit_all-hands : (ds : List Descriptor) (a : Acts) → Hands 0 a (byte.commit_all me ds a)
  commit_all-hands [] a = omega arith
  commit_all-hands (d ∷ ds) a =
      let h = commit-hands d.filled a a.slots.stream.requests refl in
      let g = commit_all-hands ds (byte.commit me d a) in omega (arith, h, g)

  process-hands : (a : Acts) → Hands 0 a (byte.process_and_commit me a)
  process-hands a = let x : Processed = byte.processed_of a in commit_all-hands x.ready (byte.put_processed x a)

  first-hands : (n : ℕ) (a : Acts) → Hands 0 a (byte.commit_first me n a)
  first-hands n a = commit_all-hands (take n a.slots.descriptors) (byte.with_slots (record a.slots { descriptors = drop n a.slots.descriptors }) a)

  detach-same : (a : Acts) (ds : List Descriptor) → hands (byte.detach_first a ds) ≡ hands a
  detach-same a [] = refl
  detach-same a (d ∷ ds) = refl

  renounce-same : (a : Acts) (ds : List Descriptor) → hands (byte.renounce a ds) ≡ hands a
  renounce-same a [] = refl
  renounce-same a (d ∷ ds) =
      let z : Acts = byte.invalidate_request a in
      either (λ (b : Acts). hands b ≡ hands a) (is_for_nobody d.room_kind) (byte.detached_to_queue z) z (λ e. detach-same z z.slots.descriptors) (λ e. refl)

  accept_for-hands : (b : List ℕ) (a : Acts) (rs : List ReadRequest) → rs ≡ a.slots.stream.requests → Hands 0 a (byte.accept_for me b a rs)
  accept_for-hands b a [] is = omega arith
  accept_for-hands b a (q ∷ qs) is =
      let e = ap (sum_of w) is in let n = sum-append v a.out.effects (ChunkSteps me q (Bytes b) ∷ []) in let c = weighs.chunk q (Bytes b) in omega (arith, e, n, c)

  -- the requests are served from the queue of a stream that takes bytes

  drain-unasked : (a : Acts) → a.slots.stream.close_requested ≡ false → (byte.handle_queue_drain me a).slots.stream.close_requested ≡ false
  unfolding byte.handle_queue_drain byte.call_pull_if_needed
  drain-unasked a unasked = grind (arith, unasked)

  drain-requests : (a : Acts) → a.slots.stream.close_requested ≡ false → (byte.handle_queue_drain me a).slots.stream.requests ≡ a.slots.stream.requests
  unfolding byte.handle_queue_drain byte.call_pull_if_needed
  drain-requests a unasked = grind (arith, unasked)

  requests-by : (q : ReadRequest) (qs : List ReadRequest) (a : Acts) (queue : List (List ℕ)) → (q ∷ qs) ≡ a.slots.stream.requests → a.slots.stream.close_requested ≡ false
      → ((c : Acts) → qs ≡ c.slots.stream.requests → c.slots.stream.close_requested ≡ false → Hands 0 c (byte.process_requests me qs c))
      → Hands 0 a (elim queue [ [] ↦ a | b ∷ bs ↦ byte.process_requests me qs (byte.fill_read_request me q (byte.with_requests qs a) (b ∷ bs)) ])
  requests-by q qs a [] is unasked more = omega arith
  requests-by q qs a (b ∷ bs) is unasked more =
      let z : Acts = byte.with_slots (record (byte.with_requests qs a).slots { queue = bs }) a in
      let y : Acts = byte.handle_queue_drain me z in
      let c : Acts = byte.causing (ChunkSteps me q (Bytes b)) y in
      let d = drain-hands z in
      let e = ap (sum_of w) is in
      let n = sum-append v y.out.effects (ChunkSteps me q (Bytes b) ∷ []) in
      let m = weighs.chunk q (Bytes b) in
      let g = more c (sym (drain-requests z unasked)) (drain-unasked z unasked) in omega (arith, d, e, n, m, g)

  requests-hands : (rs : List ReadRequest) (a : Acts) → rs ≡ a.slots.stream.requests → a.slots.stream.close_requested ≡ false → Hands 0 a (byte.process_requests me rs a)
  requests-hands [] a is unasked = omega arith
  requests-hands (q ∷ qs) a is unasked = requests-by q qs a a.slots.queue is unasked (λ c at o. requests-hands qs c at o)

  detach-stream : (a : Acts) (ds : List Descriptor) → (byte.detach_first a ds).slots.stream ≡ a.slots.stream
  detach-stream a [] = refl
  detach-stream a (d ∷ ds) = refl

  renounce-stream : (a : Acts) (ds : List Descriptor) → (byte.renounce a ds).slots.stream ≡ a.slots.stream
  renounce-stream a [] = refl
  renounce-stream a (d ∷ ds) =
      let z : Acts = byte.invalidate_request a in
      either (λ (b : Acts). b.slots.stream ≡ a.slots.stream) (is_for_nobody d.room_kind) (byte.detached_to_queue z) z (λ e. detach-stream z z.slots.descriptors) (λ e. refl)

  accept-hands : (b : List ℕ) (a : Acts) → a.slots.stream.close_requested ≡ false → Hands 0 a (byte.accept me b a)
  accept-hands b a unasked =
      let c : Acts = byte.process_requests me a.slots.stream.requests a in
      either (Hands 0 a) (byte.has_default_reader a.slots) (byte.accept_default me b a) (if byte.has_byob_reader a.slots then byte.process_and_commit me (byte.append b a) else byte.append b a)
      (λ e. hands-then 0 a c (byte.accept_for me b c c.slots.stream.requests) (requests-hands a.slots.stream.requests a refl unasked) (accept_for-hands b c c.slots.stream.requests refl))
      (λ e. either (Hands 0 a) (byte.has_byob_reader a.slots) (byte.process_and_commit me (byte.append b a)) (byte.append b a) (λ f. process-hands (byte.append b a)) (λ f. omega arith))

  enqueue-hands : (b : List ℕ) (a : Acts) → Hands 0 a (byte.controller_enqueue me b a)
  unfolding byte.controller_enqueue
  enqueue-hands b a =
      let z : Acts = byte.renounce a a.slots.descriptors in
      either (Hands 0 a) (byte.can_take a.slots) (byte.call_pull_if_needed me (byte.accept me b z)) a
      (λ can.
      let unasked : z.slots.stream.close_requested ≡ false = ap (λ (s : readable.Slots). s.close_requested) (renounce-stream a a.slots.descriptors) ∙ not-true a.slots.stream.close_requested (readable.is_readable a.slots.stream.state) can in
      let same = renounce-same a a.slots.descriptors in
      let h = accept-hands b z unasked in
      let g = pull-hands (byte.accept me b z) in omega (arith, same, h, g))
      (λ cannot. omega arith)

  -- reads

  wait-hands : (q : ReadRequest) (a : Acts) → Hands (w q) a (byte.wait q a)
  wait-hands q a = let n = sum-append w a.slots.stream.requests (q ∷ []) in omega (arith, n)

  allocate-same : (a : Acts) (n : ℕ) → hands (byte.auto_allocate a n) ≡ hands a
  allocate-same a zero = refl
  allocate-same a (suc n) = refl

  pull_from-hands : (q : ReadRequest) (a : Acts) (queue : List (List ℕ)) → Hands (w q) a (byte.pull_from me q a queue)
  pull_from-hands q a [] =
      let c : Acts = byte.auto_allocate a a.slots.auto in
      let s = allocate-same a a.slots.auto in
      let h = wait-hands q c in
      let g = pull-hands (byte.wait q c) in omega (arith, s, h, g)
  pull_from-hands q a (b ∷ bs) =
      let z : Acts = byte.with_slots (record a.slots { queue = bs }) a in
      let h = drain-hands z in
      let n = caused (ChunkSteps me q (Bytes b)) (byte.handle_queue_drain me z) in
      let m = weighs.chunk q (Bytes b) in omega (arith, h, n, m)

  read-hands : (q : ReadRequest) (a : Acts) (state : ReadableState) → Hands (w q) a (byte.read_by me q a state)
  unfolding byte.pull_steps
  read-hands q a Readable = pull_from-hands q a a.slots.queue
  read-hands q a Closed = let n = caused (CloseSteps me q) a in let m = weighs.close q in omega (arith, n, m)
  read-hands q a Errored = let n = caused (ErrorSteps me q a.slots.stream.stored_error) a in let m = weighs.error q a.slots.stream.stored_error in omega (arith, n, m)

  filled-hands : (q : ReadRequest) (a : Acts) (y : Filling) (ready : Bool) → ready ≡ y.ready → Hands (w q) a (byte.pull_filled me q a y)
  filled-hands q a y true is =
      let z : Acts = byte.put_queue y.queue a in
      let h = drain-hands z in
      let n = caused (ChunkSteps me q (Bytes y.descriptor.filled)) (byte.handle_queue_drain me z) in
      let m = weighs.chunk q (Bytes y.descriptor.filled) in rw (← is) (omega (arith, h, n, m))
  filled-hands q a y false is =
      let z : Acts = byte.put_queue y.queue a in
      let c : Acts = byte.pull_waits y.descriptor q z in
      rw (← is)
      (either (Hands (w q) a) a.slots.stream.close_requested (byte.causing (ErrorSteps me q type_error) (byte.controller_error me type_error z)) (byte.call_pull_if_needed me c)
      (λ e. let h = error-hands type_error z in let n = caused (ErrorSteps me q type_error) (byte.controller_error me type_error z) in let m = weighs.error q type_error in omega (arith, h, n, m))
      (λ e. let h = wait-hands q (byte.add_descriptor y.descriptor z) in let g = pull-hands c in omega (arith, h, g)))

  from_queue-hands : (d : Descriptor) (q : ReadRequest) (a : Acts) (queue : List (List ℕ)) → Hands (w q) a (byte.pull_from_queue me d q a queue)
  from_queue-hands d q a [] = let h = wait-hands q (byte.add_descriptor d a) in let g = pull-hands (byte.pull_waits d q a) in omega (arith, h, g)
  from_queue-hands d q a (b ∷ bs) = filled-hands q a (fill_from_queue d (b ∷ bs)) (fill_from_queue d (b ∷ bs)).ready refl

  pull_first-hands : (d : Descriptor) (q : ReadRequest) (a : Acts) (ds : List Descriptor) → Hands (w q) a (byte.pull_first me d q a ds)
  pull_first-hands d q a (y ∷ ys) = wait-hands q (byte.add_descriptor d a)
  pull_first-hands d q a [] =
      either (Hands (w q) a) (byte.is_closed a.slots.stream.state) (byte.causing (CloseStepsWith me q []) a) (byte.pull_from_queue me d q a a.slots.queue)
      (λ c. let n = caused (CloseStepsWith me q []) a in let m = weighs.close_with q [] in omega (arith, n, m)) (λ c. from_queue-hands d q a a.slots.queue)

  byob-hands : (d : Descriptor) (q : ReadRequest) (a : Acts) → Hands (w q) a (byte.byob_reader_read me d q a)
  unfolding byte.byob_reader_read byte.pull_into readable.disturb
  byob-hands d q a =
      let b : Acts = byte.in_stream readable.disturb a in
      either (Hands (w q) a) (byte.is_errored a.slots.stream.state) (byte.causing (ErrorSteps me q a.slots.stream.stored_error) b) (byte.pull_first me d q b a.slots.descriptors)
      (λ e. let n = caused (ErrorSteps me q a.slots.stream.stored_error) b in let m = weighs.error q a.slots.stream.stored_error in omega (arith, n, m))
      (λ e. pull_first-hands d q b a.slots.descriptors)

  -- responses

  closed-hands : (d : Descriptor) (a : Acts) → Hands 0 a (byte.respond_closed me d a)
  closed-hands d a =
      let b : Acts = if is_for_nobody d.room_kind then byte.drop_first a else a in
      let same : hands b ≡ hands a = either (λ (z : Acts). hands z ≡ hands a) (is_for_nobody d.room_kind) (byte.drop_first a) a (λ e. refl) (λ e. refl) in
      let h = first-hands (length b.slots.stream.requests) b in
      either (Hands 0 a) (byte.has_byob_reader b.slots) (byte.commit_first me (length b.slots.stream.requests) b) b (λ e. omega (arith, same, h)) (λ e. omega (arith, same))

  full-hands : (d : Descriptor) (a : Acts) → Hands 0 a (byte.respond_full me d a)
  full-hands d a =
      let kept : ℕ = length d.filled - (length d.filled % d.element) in
      let b : Acts = byte.append (drop kept d.filled) (byte.drop_first a) in
      let x : Processed = byte.processed_of b in
      let c : Acts = byte.put_processed x b in
      let e : Descriptor = record d { filled = take kept d.filled } in
      let h = commit-hands e.filled c c.slots.stream.requests refl in
      let g = commit_all-hands x.ready (byte.commit me e c) in omega (arith, h, g)

  respond_readable-hands : (d : Descriptor) (a : Acts) → Hands 0 a (byte.respond_readable me d a)
  respond_readable-hands d a =
      let z : Acts = byte.put_first d a in
      let t = detach-same z z.slots.descriptors in
      let p = process-hands (byte.detached_to_queue z) in
      either (Hands 0 a) (is_for_nobody d.room_kind) (byte.process_and_commit me (byte.detached_to_queue z)) (if nat_lt (length d.filled) d.minimum then z else byte.respond_full me d a)
      (λ e. omega (arith, t, p)) (λ e. either (Hands 0 a) (nat_lt (length d.filled) d.minimum) z (byte.respond_full me d a) (λ f. omega arith) (λ f. full-hands d a))

  respond-hands : (b : List ℕ) (a : Acts) (ds : List Descriptor) → Hands 0 a (byte.respond_first me b a ds)
  respond-hands b a [] = omega arith
  respond-hands b a (d ∷ ds) =
      let y : Descriptor = record d { filled = d.filled ++ b } in
      let h = respond_readable-hands y a in
      let g = pull-hands (byte.respond_readable me y a) in
      either (Hands 0 a) (byte.is_closed a.slots.stream.state) (byte.respond_closed me d a) (byte.call_pull_if_needed me (byte.respond_readable me y a))
      (λ e. closed-hands d a) (λ e. omega (arith, h, g))

  -- closing, cancelling, readers

  close_by-hands : (a : Acts) (queue : List (List ℕ)) → Hands 0 a (byte.close_by me a queue)
  close_by-hands a (b ∷ bs) = omega arith
  close_by-hands a [] =
      either (Hands 0 a) (has_part a.slots.descriptors) (byte.controller_error me type_error a) (byte.stream_close me a) (λ p. error-hands type_error a) (λ p. close-hands a)

  into-hands : (a : Acts) → Hands 0 a (byte.close_into me a)
  into-hands a = grind (arith, sum-append, in_close_all)

  cancel-hands : (r : Plain) (p : PromiseId) (a : Acts) (state : ReadableState) → Hands 0 a (byte.cancel_by me r p a state)
  cancel-hands r p a Readable =
      let b : Acts = byte.stream_close me a in
      let h = close-hands a in
      let g = into-hands b in
      let n = caused (CancelAlgorithm me r p) (byte.clear_all (byte.close_into me b)) in
      let m = weighs.cancel r p in omega (arith, h, g, n, m)
  cancel-hands r p a Closed = omega arith
  cancel-hands r p a Errored = omega arith

  release-hands : (a : Acts) → Hands 0 a (byte.reader_release me a)
  unfolding byte.reader_release readable.reader_release
  release-hands a = grind (arith, sum-append, in_error_all)

  -- where it isn't meant, nothing is given
  meant-hands : (n : ℕ) (test : Bool) (b a : Acts) → (test ≡ false → n ≡ 0) → Hands n a b → Hands n a (byte.if_meant test b a)
  meant-hands n true b a none h = h
  meant-hands n false b a none h = let z = none refl in omega (arith, z)

  -- a reader comes where no request waits
  initialize-hands : (kind : ReaderKind) (c : PromiseId) (a : Acts) → sum_of w a.slots.stream.requests ≡ 0 → Hands 0 a (byte.reader_initialize kind c a)
  unfolding byte.reader_initialize readable.reader_generic_initialize
  initialize-hands kind c a none = grind (arith, none)

  ended-hands : (a : Acts) (again : Bool) → Hands 0 a (byte.pull_ended me a again)
  ended-hands a false = omega arith
  ended-hands a true = pull-hands (byte.with_slots (record a.slots { stream = record a.slots.stream { pull_again = false } }) a)

  -- what an operation finds: no request, where a reader comes; and a read is meant
  pub record FindsRead (operation : ReadableOperation) (s : Slots) : Type 0 where
    pub none : (c : PromiseId) → operation ≡ names_of.InitializeReader c → sum_of w s.stream.requests ≡ 0
    pub meant : (q : ReadRequest) → operation ≡ names_of.Read q → byte.may_read s ≡ false → w q ≡ 0
    pub untied : (q : ReadRequest) → byte.is_of_tee q ≡ true → w q ≡ 0

  pub byte_readable-hands : (operation : ReadableOperation) (a : Acts) → FindsRead operation a.slots → Hands (given_read w operation) a (byte_readable_operation me operation a)
  unfolding readable.disturb byte.read byte.default_reader_read byte.stream_cancel byte.cancel_if_readable byte.controller_close byte.start_settled byte.pull_settled
  byte_readable-hands (names_of.InitializeReader c) a f = initialize-hands Default c a (f.none c refl)
  byte_readable-hands names_of.ReleaseReader a f = release-hands a
  byte_readable-hands names_of.Disturb a f = omega arith
  byte_readable-hands (names_of.Read q) a f =
      either (Hands (w q) a) (byte.is_of_tee q) a (byte.if_meant (byte.may_read a.slots) (byte.read_by me q (byte.in_stream readable.disturb a) a.slots.stream.state) a)
      (λ e. let none = f.untied q e in omega (arith, none))
      (λ e. meant-hands (w q) (byte.may_read a.slots) (byte.read_by me q (byte.in_stream readable.disturb a) a.slots.stream.state) a (f.meant q refl) (read-hands q (byte.in_stream readable.disturb a) a.slots.stream.state))
  byte_readable-hands (names_of.Cancel r p) a f = cancel-hands r p (byte.in_stream readable.disturb a) a.slots.stream.state
  byte_readable-hands (names_of.CancelIfReadable r p) a f = let h = cancel-hands r p (byte.in_stream readable.disturb a) a.slots.stream.state in grind (arith, h)
  byte_readable-hands (names_of.Enqueue x) a f = omega arith
  byte_readable-hands names_of.Close a f = let h = close_by-hands a a.slots.queue in grind (arith, h)
  byte_readable-hands (names_of.Error e) a f = error-hands e a
  byte_readable-hands (names_of.StartSettled (Ok x)) a f = pull-hands (byte.with_slots (record a.slots { stream = record a.slots.stream { started = true } }) a)
  byte_readable-hands (names_of.StartSettled (Err e)) a f = error-hands e a
  byte_readable-hands (names_of.PullSettled (Ok x)) a f = ended-hands (byte.with_slots (record a.slots { stream = record a.slots.stream { pulling = false } }) a) a.slots.stream.pull_again
  byte_readable-hands (names_of.PullSettled (Err e)) a f = error-hands e a

  pub record FindsBytes (operation : ByteOperation) (s : Slots) : Type 0 where
    pub none : (c : PromiseId) → operation ≡ own_names.InitializeByobReader c → sum_of w s.stream.requests ≡ 0
    pub given : given_into w operation ≡ 0

  pub byte-hands : (operation : ByteOperation) (a : Acts) → FindsBytes operation a.slots → Hands (given_into w operation) a (byte_operation me operation a)
  unfolding byte.read_into byte.respond
  byte-hands (own_names.InitializeByobReader c) a f = initialize-hands Byob c a (f.none c refl)
  byte-hands (own_names.Enqueue b) a f = enqueue-hands b a
  byte-hands (own_names.PullInto room element minimum q) a f =
      let d : Descriptor = record { filled = []; room = length room; minimum = minimum; element = element; room_kind = ForByob } in
      meant-hands (w q) (byte.may_pull_into a.slots && byte.is_least (length room) element minimum) (byte.byob_reader_read me d q a) a (λ e. f.given) (byob-hands d q a)
  byte-hands (own_names.MakeRequest q) a f = omega arith
  byte-hands (own_names.Respond b) a f = meant-hands 0 (byte.may_respond (length b) a.slots) (byte.respond_internal me b a) a (λ e. refl) (respond-hands b (byte.invalidate_request a) a.slots.descriptors)
