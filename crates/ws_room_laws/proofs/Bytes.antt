-- What an operation of a byte stream takes.
use Rattle.std.proofs.Common.{◌≡◌, ◌≤◌, ℕ, zero, suc, ◌+◌, Bool, true, false, List, [], ◌∷◌, ◌++◌, length, take, drop, Ok, Err, refl, sym, ap, arith}
use Rattle.std.specs.Prelude.{◌-◌, ◌%◌, is_none, ◌&&◌}
use Rattle.ws_value.specs.declared.ids.PromiseId.{PromiseId}
use Rattle.ws_value.specs.declared.ids.StreamId.{StreamId}
use Rattle.ws_value.specs.declared.value.Plain.{Plain}
use Rattle.ws_value.specs.declared.value.Plain.TheVariants.{Undefined}
use Rattle.ws_value.specs.declared.value.Value.TheVariants.{Bytes}
use Rattle.ws_steps.specs.declared.byte.ByteOperation.{ByteOperation}
use Rattle.ws_steps.specs.declared.byte.ByteOperation.TheVariants as own_names
use Rattle.ws_steps.specs.declared.byte.ReaderKind.{ReaderKind}
use Rattle.ws_steps.specs.declared.byte.ReaderKind.TheVariants.{Default, Byob}
use Rattle.ws_steps.specs.declared.byte.RoomKind.TheVariants.{ForByob}
use Rattle.ws_steps.specs.declared.{effects.Effect.TheVariants.{ChunkSteps, CancelAlgorithm, ErrorSteps}}
use Rattle.ws_steps.specs.declared.{readable.ReadRequest.{ReadRequest}, readable.ReadRequest.TheVariants.{Promise, Pipe as PipeRequest, Tee as TeeRequest}, readable.ReadableOperation.{ReadableOperation}}
use Rattle.ws_steps.specs.declared.readable.ReadableOperation.TheVariants as names
use Rattle.ws_steps.specs.declared.{readable.ReadableState.{ReadableState}, readable.ReadableState.TheVariants.{Readable, Closed, Errored}}
use Rattle.ws_steps.specs.Effects.{type_error}
use Rattle.ws_steps.specs.Queues.{append_bytes, after_bytes}
use Rattle.ws_steps.specs.Operations.{byte_readable_operation, byte_operation}
use Rattle.ws_steps.specs.Readable as readable
use Rattle.ws_steps.specs.Descriptors.{Descriptor, rest_of, without_reader, Filling, fill_from_queue, Processed, process_descriptors}
use Rattle.ws_steps.specs.Bytes as byte
use Rattle.ws_steps.specs.Bytes.{Acts}
use Rattle.ws_steps.specs.Places.{Prices, price, each, steps_price, prices_of, readable_price, read_price, byte_price, table_size}
use Rattle.ws_room_laws.proofs.Tables.{settle-size}
use Rattle.ws_room_laws.proofs.Readables.{prices-append, each-append, prices-close, prices-error}

-- queues and descriptors

pub each-append_bytes : (q : ℕ) (b : List ℕ) (queue : List (List ℕ)) → each q (append_bytes b queue) ≤ each q queue + q
each-append_bytes q [] queue = omega arith
each-append_bytes q (x ∷ b) queue = let h = each-append q queue ((x ∷ b) ∷ []) in omega (arith, h)

pub each-after : (q n : ℕ) (queue : List (List ℕ)) → each q (after_bytes n queue) ≤ each q queue
each-after q n [] = omega arith
each-after q n (b ∷ bs) =
    let h = each-after q (n - length b) bs in
    let g = each-append_bytes q (drop n b) [] in
    let f = each-append q (append_bytes (drop n b) []) (after_bytes (n - length b) bs) in omega (arith, h, g, f)

pub filled-queue : (q : ℕ) (d : Descriptor) (queue : List (List ℕ)) → each q (fill_from_queue d queue).queue ≤ each q queue
filled-queue q d queue = grind (arith, each-after)

pub processed-each : (c : ℕ) (ds : List Descriptor) (queue : List (List ℕ))
    → let x : Processed = process_descriptors ds queue in each c x.ready + each c x.waiting ≡ each c ds
processed-each c [] queue = omega arith
processed-each c (d ∷ ds) [] = omega arith
processed-each c (d ∷ ds) (b ∷ bs) = let h = processed-each c ds (fill_from_queue d (b ∷ bs)).queue in grind (arith, h)

pub processed-queue : (q : ℕ) (ds : List Descriptor) (queue : List (List ℕ)) → each q (process_descriptors ds queue).queue ≤ each q queue
processed-queue q [] queue = omega arith
processed-queue q (d ∷ ds) [] = omega arith
processed-queue q (d ∷ ds) (b ∷ bs) =
    let h = processed-queue q ds (fill_from_queue d (b ∷ bs)).queue in
    let g = filled-queue q d (b ∷ bs) in grind (arith, h, g)

pub each-parts : (c n : ℕ) (ds : List Descriptor) → each c (take n ds) + each c (drop n ds) ≡ each c ds
each-parts c zero ds = omega arith
each-parts c (suc n) [] = omega arith
each-parts c (suc n) (d ∷ ds) = let h = each-parts c n ds in omega (arith, h)

-- a stream that isn't pulling may pull
abbrev pub may_pull : Prices → Bool → ℕ
may_pull π true = 0
may_pull π false = price π 3 1 1 1 1 0 0

-- what is held, where an entry of the queue counts q, one of the requests r, and a descriptor d
abbrev pub byte_holds : Prices → ℕ → ℕ → ℕ → Acts → ℕ
byte_holds π q r d a =
    prices_of π a.out.effects + each (steps_price π) a.slots.stream.requests + each π.queued a.slots.descriptors + each q a.slots.queue
    + each r a.slots.stream.requests + each d a.slots.descriptors + table_size π a.out.promises

module _ (π : Prices) (q r d : ℕ) (me : StreamId) where
  -- b holds at most n more than a, with the pull that each may still make
  abbrev Takes : ℕ → Acts → Acts → Type 0
  Takes n a b = byte_holds π q r d b + may_pull π b.slots.stream.pulling ≤ byte_holds π q r d a + may_pull π a.slots.stream.pulling + n

  pull-takes : (a : Acts) → Takes 0 a (byte.call_pull_if_needed me a)
  unfolding byte.call_pull_if_needed
  pull-takes a = grind (arith, prices-append)

  close-takes : (a : Acts) → Takes 0 a (byte.stream_close me a)
  unfolding byte.stream_close readable.stream_close
  close-takes a = grind (arith, prices-append, prices-close, settle-size)

  error-takes : (e : Plain) (a : Acts) → Takes 0 a (byte.controller_error me e a)
  unfolding byte.controller_error readable.stream_error
  error-takes e a = grind (arith, prices-append, prices-error, settle-size)

  drain-takes : (a : Acts) → Takes 0 a (byte.handle_queue_drain me a)
  unfolding byte.handle_queue_drain
  drain-takes a = let h = close-takes a in let g = pull-takes a in grind (arith, h, g)

  append-takes : (b : List ℕ) (a : Acts) → q ≤ π.queued → Takes π.queued a (byte.append b a)
  append-takes b a l = let h = each-append_bytes q b a.slots.queue in omega (arith, h, l)

  fill-takes : (request : ReadRequest) (a : Acts) (queue : List (List ℕ)) → queue ≡ a.slots.queue → Takes (price π 2 0 1 0 0 0 0) a (byte.fill_read_request me request a queue)
  fill-takes request a [] is = omega arith
  fill-takes request a (b ∷ bs) is =
      let c : Acts = byte.with_slots (record a.slots { queue = bs }) a in
      let h = drain-takes c in
      let e = ap (each q) is in
      let f = prices-append π (byte.handle_queue_drain me c).out.effects (ChunkSteps me request (Bytes b) ∷ []) in omega (arith, h, e, f)

  wait-takes : (x : Descriptor) (request : ReadRequest) (a : Acts) → r ≤ π.request → d ≤ π.descriptor → Takes (price π 2 0 1 0 0 1 1 + π.descriptor) a (byte.pull_waits x request a)
  wait-takes x request a m k = grind (arith, each-append, m, k)

  allocate-takes : (a : Acts) (n : ℕ) → d ≤ π.descriptor → Takes (π.queued + π.descriptor) a (byte.auto_allocate a n)
  allocate-takes a zero k = omega arith
  allocate-takes a (suc n) k = grind (arith, each-append, k)

  waiting-takes : (request : ReadRequest) (a : Acts) → r ≤ π.request → Takes (price π 2 0 1 0 0 0 1) a (byte.wait request a)
  waiting-takes request a m = grind (arith, each-append, m)

  pull_from-takes : (request : ReadRequest) (a : Acts) (queue : List (List ℕ)) → queue ≡ a.slots.queue → r ≤ π.request → d ≤ π.descriptor
      → Takes (price π 2 0 1 0 0 1 1 + π.descriptor) a (byte.pull_from me request a queue)
  pull_from-takes request a [] is m k =
      let c : Acts = byte.auto_allocate a a.slots.auto in
      let h = allocate-takes a a.slots.auto k in
      let g = waiting-takes request c m in
      let f = pull-takes (byte.wait request c) in omega (arith, h, g, f)
  pull_from-takes request a (b ∷ bs) is m k = let h = fill-takes request a (b ∷ bs) is in omega (arith, h)

  read-takes : (request : ReadRequest) (a : Acts) (state : ReadableState) → r ≤ π.request → d ≤ π.descriptor
      → Takes (price π 2 0 1 0 0 1 1 + π.descriptor) a (byte.read_by me request a state)
  unfolding byte.pull_steps
  read-takes request a Readable m k = pull_from-takes request a a.slots.queue refl m k
  read-takes request a Closed m k = grind (arith, prices-append)
  read-takes request a Errored m k = grind (arith, prices-append)

  closing-takes : (a : Acts) (queue : List (List ℕ)) → Takes 0 a (byte.close_by me a queue)
  closing-takes a [] = let h = error-takes type_error a in let g = close-takes a in grind (arith, h, g)
  closing-takes a (b ∷ bs) = omega arith

  -- committing

  commit-price : (b : List ℕ) (x : ReadRequest) (state : ReadableState) → prices_of π (byte.commit_steps me b x state ∷ []) ≡ steps_price π
  commit-price b x Readable = omega arith
  commit-price b x Closed = omega arith
  commit-price b x Errored = omega arith

  commit-takes : (b : List ℕ) (a : Acts) (rs : List ReadRequest) → rs ≡ a.slots.stream.requests → q ≤ π.queued → Takes π.queued a (byte.commit_to me b a rs)
  commit-takes b a [] is l = append-takes b a l
  commit-takes b a (x ∷ xs) is l =
      let e = ap (each (steps_price π)) is in
      let f = ap (each r) is in
      let g = prices-append π a.out.effects (byte.commit_steps me b x a.slots.stream.state ∷ []) in
      let h = commit-price b x a.slots.stream.state in omega (arith, e, f, g, h)

  commit_all-takes : (ds : List Descriptor) (a : Acts) → q ≤ π.queued → Takes (each π.queued ds) a (byte.commit_all me ds a)
  commit_all-takes [] a l = omega arith
  commit_all-takes (x ∷ xs) a l =
      let h = commit-takes x.filled a a.slots.stream.requests refl l in
      let g = commit_all-takes xs (byte.commit me x a) l in omega (arith, h, g)

  process-takes : (a : Acts) → q ≤ π.queued → Takes 0 a (byte.process_and_commit me a)
  process-takes a l =
      let x : Processed = byte.processed_of a in
      let h = commit_all-takes x.ready (byte.put_processed x a) l in
      let e = processed-each π.queued a.slots.descriptors a.slots.queue in
      let f = processed-each d a.slots.descriptors a.slots.queue in
      let g = processed-queue q a.slots.descriptors a.slots.queue in omega (arith, h, e, f, g)

  first-takes : (n : ℕ) (a : Acts) → q ≤ π.queued → Takes 0 a (byte.commit_first me n a)
  first-takes n a l =
      let ds : List Descriptor = a.slots.descriptors in
      let h = commit_all-takes (take n ds) (byte.with_slots (record a.slots { descriptors = drop n ds }) a) l in
      let e = each-parts π.queued n ds in
      let f = each-parts d n ds in omega (arith, h, e, f)

  -- enqueuing

  detach-takes : (a : Acts) (ds : List Descriptor) → ds ≡ a.slots.descriptors → q ≤ π.queued → Takes 0 a (byte.detach_first a ds)
  detach-takes a [] is l = omega arith
  detach-takes a (x ∷ xs) is l =
      let h = append-takes x.filled (byte.with_slots (record a.slots { descriptors = xs }) a) l in
      let e = ap (each π.queued) is in
      let f = ap (each d) is in omega (arith, h, e, f)

  renounce-takes : (a : Acts) (ds : List Descriptor) → ds ≡ a.slots.descriptors → q ≤ π.queued → Takes 0 a (byte.renounce a ds)
  renounce-takes a [] is l = omega arith
  renounce-takes a (x ∷ xs) is l =
      let h = detach-takes (byte.invalidate_request a) a.slots.descriptors refl l in grind (arith, h)

  drain-queue : (a : Acts) → (byte.handle_queue_drain me a).slots.queue ≡ a.slots.queue
  unfolding byte.handle_queue_drain byte.stream_close byte.call_pull_if_needed
  drain-queue a = grind (arith)

  drain-requests : (a : Acts) (b : List ℕ) (bs : List (List ℕ)) → a.slots.queue ≡ b ∷ bs → (byte.handle_queue_drain me a).slots.stream.requests ≡ a.slots.stream.requests
  unfolding byte.handle_queue_drain byte.call_pull_if_needed
  drain-requests a b bs is = grind (arith, is)

  process-none : (rs : List ReadRequest) (a : Acts) → a.slots.queue ≡ [] → byte.process_requests me rs a ≡ a
  process-none [] a is = refl
  process-none (x ∷ xs) a is = rw is refl

  requests-by : (x : ReadRequest) (xs : List ReadRequest) (a : Acts) (queue : List (List ℕ)) → (x ∷ xs) ≡ a.slots.stream.requests → queue ≡ a.slots.queue
      → ((c : Acts) → xs ≡ c.slots.stream.requests → Takes 0 c (byte.process_requests me xs c))
      → Takes 0 a (elim queue [ [] ↦ a | b ∷ bs ↦ byte.process_requests me xs (byte.fill_read_request me x (byte.with_requests xs a) (b ∷ bs)) ])
  requests-by x xs a [] is at more = omega arith
  requests-by x xs a (b ∷ []) is at more =
      let z : Acts = byte.with_requests xs a in
      let h = fill-takes x z (b ∷ []) at in
      let n = process-none xs (byte.fill_read_request me x z (b ∷ [])) (drain-queue (byte.with_slots (record z.slots { queue = [] }) z)) in
      let e = ap (each (steps_price π)) is in
      let f = ap (each r) is in
      rw n (omega (arith, h, e, f))
  requests-by x xs a (b ∷ c ∷ cs) is at more =
      let z : Acts = byte.with_requests xs a in
      let h = fill-takes x z (b ∷ c ∷ cs) at in
      let g = more (byte.fill_read_request me x z (b ∷ c ∷ cs)) (sym (drain-requests (byte.with_slots (record z.slots { queue = c ∷ cs }) z) c cs refl)) in
      let e = ap (each (steps_price π)) is in
      let f = ap (each r) is in
      omega (arith, h, g, e, f)

  requests-takes : (rs : List ReadRequest) (a : Acts) → rs ≡ a.slots.stream.requests → Takes 0 a (byte.process_requests me rs a)
  requests-takes [] a is = omega arith
  requests-takes (x ∷ xs) a is = requests-by x xs a a.slots.queue is refl (λ c at. requests-takes xs c at)

  first-drop : (c : ℕ) (ds : List Descriptor) → each c (rest_of ds) ≤ each c ds
  first-drop c [] = omega arith
  first-drop c (x ∷ xs) = omega arith

  accept_for-takes : (b : List ℕ) (a : Acts) (rs : List ReadRequest) → rs ≡ a.slots.stream.requests → q ≤ π.queued → Takes π.queued a (byte.accept_for me b a rs)
  accept_for-takes b a [] is l = append-takes b a l
  accept_for-takes b a (x ∷ xs) is l =
      let e = ap (each (steps_price π)) is in
      let f = ap (each r) is in
      let g = prices-append π a.out.effects (ChunkSteps me x (Bytes b) ∷ []) in
      let h = first-drop π.queued a.slots.descriptors in
      let k = first-drop d a.slots.descriptors in omega (arith, e, f, g, h, k)

  accept-takes : (b : List ℕ) (a : Acts) → q ≤ π.queued → Takes π.queued a (byte.accept me b a)
  accept-takes b a l =
      let c : Acts = byte.process_requests me a.slots.stream.requests a in
      let h = requests-takes a.slots.stream.requests a refl in
      let g = accept_for-takes b c c.slots.stream.requests refl l in
      let f = append-takes b a l in
      let e = process-takes (byte.append b a) l in grind (arith, h, g, f, e)

  enqueue-takes : (b : List ℕ) (a : Acts) → q ≤ π.queued → Takes π.queued a (byte.controller_enqueue me b a)
  unfolding byte.controller_enqueue
  enqueue-takes b a l =
      let z : Acts = byte.renounce a a.slots.descriptors in
      let h = renounce-takes a a.slots.descriptors refl l in
      let g = accept-takes b z l in
      let f = pull-takes (byte.accept me b z) in grind (arith, h, g, f)

  -- reads into a room

  pull_filled-takes : (request : ReadRequest) (a : Acts) (f : Filling) → each q f.queue ≤ each q a.slots.queue → r ≤ π.request → d ≤ π.descriptor
      → Takes (price π 2 0 1 0 0 1 1 + π.descriptor) a (byte.pull_filled me request a f)
  pull_filled-takes request a f less m k =
      let z : Acts = byte.put_queue f.queue a in
      let h = drain-takes z in
      let g = error-takes type_error z in
      let w = wait-takes f.descriptor request z m k in
      let p = pull-takes (byte.pull_waits f.descriptor request z) in
      let u = prices-append π (byte.handle_queue_drain me z).out.effects (ChunkSteps me request (Bytes f.descriptor.filled) ∷ []) in
      let v = prices-append π (byte.controller_error me type_error z).out.effects (ErrorSteps me request type_error ∷ []) in
      grind (arith, less, h, g, w, p, u, v)

  from_queue-takes : (x : Descriptor) (request : ReadRequest) (a : Acts) (queue : List (List ℕ)) → queue ≡ a.slots.queue → r ≤ π.request → d ≤ π.descriptor
      → Takes (price π 2 0 1 0 0 1 1 + π.descriptor) a (byte.pull_from_queue me x request a queue)
  from_queue-takes x request a [] is m k =
      let h = wait-takes x request a m k in let g = pull-takes (byte.pull_waits x request a) in omega (arith, h, g)
  from_queue-takes x request a (b ∷ bs) is m k =
      let e = ap (each q) is in
      let g = filled-queue q x (b ∷ bs) in
      pull_filled-takes request a (fill_from_queue x (b ∷ bs)) (omega (arith, e, g)) m k

  into-takes : (x : Descriptor) (request : ReadRequest) (a : Acts) → r ≤ π.request → d ≤ π.descriptor
      → Takes (price π 2 0 1 0 0 1 1 + π.descriptor) a (byte.byob_reader_read me x request a)
  unfolding byte.byob_reader_read byte.pull_into readable.disturb
  into-takes x request a m k =
      let z : Acts = byte.in_stream readable.disturb a in
      let h = wait-takes x request z m k in
      let g = from_queue-takes x request z z.slots.queue refl m k in grind (arith, h, g, prices-append)

  -- responses

  -- a first descriptor is taken out
  first-out : (c : ℕ) (ds : List Descriptor) (x : Descriptor) (xs : List Descriptor) → (x ∷ xs) ≡ ds → each c (rest_of ds) + c ≡ each c ds
  first-out c [] x xs is = cc
  first-out c (y ∷ ys) x xs is = omega arith

  full-takes : (y : Descriptor) (a : Acts) (x : Descriptor) (xs : List Descriptor) → (x ∷ xs) ≡ a.slots.descriptors → q ≤ π.queued
      → Takes π.queued a (byte.respond_full me y a)
  full-takes y a x xs is l =
      let kept : ℕ = length y.filled - (length y.filled % y.element) in
      let z : Acts = byte.drop_first a in
      let b : Acts = byte.append (drop kept y.filled) z in
      let p : Processed = byte.processed_of b in
      let c : Acts = byte.put_processed p b in
      let u = first-out π.queued a.slots.descriptors x xs is in
      let v = first-out d a.slots.descriptors x xs is in
      let h = append-takes (drop kept y.filled) z l in
      let e = processed-each π.queued b.slots.descriptors b.slots.queue in
      let f = processed-each d b.slots.descriptors b.slots.queue in
      let g = processed-queue q b.slots.descriptors b.slots.queue in
      let w = commit-takes (take kept y.filled) c c.slots.stream.requests refl l in
      let k = commit_all-takes p.ready (byte.commit me (record y { filled = take kept y.filled }) c) l in omega (arith, u, v, h, e, f, g, w, k)

  put-takes : (y : Descriptor) (a : Acts) (x : Descriptor) (xs : List Descriptor) → (x ∷ xs) ≡ a.slots.descriptors → Takes 0 a (byte.put_first y a)
  put-takes y a x xs is = let u = first-out π.queued a.slots.descriptors x xs is in let v = first-out d a.slots.descriptors x xs is in omega (arith, u, v)

  readable-takes : (y : Descriptor) (a : Acts) (x : Descriptor) (xs : List Descriptor) → (x ∷ xs) ≡ a.slots.descriptors → q ≤ π.queued
      → Takes π.queued a (byte.respond_readable me y a)
  readable-takes y a x xs is l =
      let z : Acts = byte.put_first y a in
      let f = put-takes y a x xs is in
      let g = detach-takes z z.slots.descriptors refl l in
      let h = process-takes (byte.detached_to_queue z) l in
      let w = full-takes y a x xs is l in grind (arith, f, g, h, w)

  closed-takes : (x : Descriptor) (a : Acts) → q ≤ π.queued → Takes 0 a (byte.respond_closed me x a)
  closed-takes x a l =
      let b : Acts = byte.drop_first a in
      let u = first-drop π.queued a.slots.descriptors in
      let v = first-drop d a.slots.descriptors in
      let f = first-takes (length b.slots.stream.requests) b l in
      let g = first-takes (length a.slots.stream.requests) a l in grind (arith, u, v, f, g)

  respond_first-takes : (b : List ℕ) (a : Acts) (ds : List Descriptor) → ds ≡ a.slots.descriptors → q ≤ π.queued → Takes π.queued a (byte.respond_first me b a ds)
  respond_first-takes b a [] is l = omega arith
  respond_first-takes b a (x ∷ xs) is l =
      let y : Descriptor = record x { filled = x.filled ++ b } in
      let h = readable-takes y a x xs is l in
      let p = pull-takes (byte.respond_readable me y a) in
      let c = closed-takes x a l in grind (arith, h, p, c)

  -- the start, the pull, the cancel and the release

  close_into-takes : (a : Acts) → Takes 0 a (byte.close_into me a)
  close_into-takes a = grind (arith, prices-append, prices-close)

  cancel-takes : (e : Plain) (p : PromiseId) (a : Acts) (state : ReadableState) → Takes (price π 4 2 2 1 1 0 0) a (byte.cancel_by me e p a state)
  cancel-takes e p a Readable =
      let b : Acts = byte.stream_close me a in
      let h = close-takes a in
      let g = close_into-takes b in
      let f = prices-append π (byte.close_into me b).out.effects (CancelAlgorithm me e p ∷ []) in omega (arith, h, g, f)
  cancel-takes e p a Closed = let h = settle-size π p (Ok Undefined) a.out.promises in omega (arith, h)
  cancel-takes e p a Errored = let h = settle-size π p (Err a.slots.stream.stored_error) a.out.promises in omega (arith, h)

  without-each : (c : ℕ) (ds : List Descriptor) → each c (without_reader ds) ≤ each c ds
  without-each c [] = omega arith
  without-each c (x ∷ xs) = omega arith

  release-takes : (a : Acts) → Takes 0 a (byte.reader_release me a)
  unfolding byte.reader_release readable.reader_release
  release-takes a =
      let h = without-each π.queued a.slots.descriptors in
      let g = without-each d a.slots.descriptors in grind (arith, prices-append, prices-error, settle-size, h, g)

  meant-takes : (test : Bool) (b a : Acts) (n : ℕ) → Takes n a b → Takes n a (byte.if_meant test b a)
  meant-takes true b a n h = h
  meant-takes false b a n h = omega arith

  respond-takes : (b : List ℕ) (a : Acts) → q ≤ π.queued → Takes π.queued a (byte.respond me b a)
  unfolding byte.respond
  respond-takes b a l =
      meant-takes (byte.may_respond (length b) a.slots) (byte.respond_internal me b a) a π.queued
      (respond_first-takes b (byte.invalidate_request a) a.slots.descriptors refl l)

  initializing-takes : (kind : ReaderKind) (closed : PromiseId) (a : Acts) → Takes 0 a (byte.in_stream (readable.reader_generic_initialize closed) (byte.with_slots (record a.slots { reader_kind = kind }) a))
  unfolding readable.reader_generic_initialize
  initializing-takes kind closed a = grind (arith, settle-size)

  initialize-takes : (kind : ReaderKind) (closed : PromiseId) (a : Acts) → Takes 0 a (byte.reader_initialize kind closed a)
  unfolding byte.reader_initialize
  initialize-takes kind closed a = meant-takes (is_none a.slots.stream.reader) (byte.in_stream (readable.reader_generic_initialize closed) (byte.with_slots (record a.slots { reader_kind = kind }) a)) a 0 (initializing-takes kind closed a)

  started-takes : (a : Acts) → Takes 0 a (byte.start_settled me (Ok Undefined) a)
  unfolding byte.start_settled
  started-takes a = pull-takes (byte.with_slots (record a.slots { stream = record a.slots.stream { started = true } }) a)

  -- operations that don't pull

  close-pulling : (a : Acts) → (byte.stream_close me a).slots.stream.pulling ≡ a.slots.stream.pulling
  unfolding byte.stream_close readable.stream_close
  close-pulling a = grind (arith)

  error-pulling : (e : Plain) (a : Acts) → (byte.controller_error me e a).slots.stream.pulling ≡ a.slots.stream.pulling
  unfolding byte.controller_error readable.stream_error
  error-pulling e a = grind (arith)

  closing-pulling : (a : Acts) (queue : List (List ℕ)) → (byte.close_by me a queue).slots.stream.pulling ≡ a.slots.stream.pulling
  closing-pulling a [] = grind (arith, close-pulling, error-pulling)
  closing-pulling a (b ∷ bs) = refl

  cancel-pulling : (e : Plain) (p : PromiseId) (a : Acts) (state : ReadableState) → (byte.cancel_by me e p a state).slots.stream.pulling ≡ a.slots.stream.pulling
  cancel-pulling e p a Readable = grind (arith, close-pulling)
  cancel-pulling e p a Closed = refl
  cancel-pulling e p a Errored = refl

  release-pulling : (a : Acts) → (byte.reader_release me a).slots.stream.pulling ≡ a.slots.stream.pulling
  unfolding byte.reader_release readable.reader_release
  release-pulling a = grind (arith)

  initialize-pulling : (kind : ReaderKind) (closed : PromiseId) (a : Acts) → (byte.reader_initialize kind closed a).slots.stream.pulling ≡ a.slots.stream.pulling
  unfolding byte.reader_initialize readable.reader_generic_initialize
  initialize-pulling kind closed a = grind (arith)

  -- what an operation takes, with its turn. The pull that a stream may make is paid for by what asks for it

  abbrev Holds : ℕ → Acts → Acts → Type 0
  Holds n a b = byte_holds π q r d b + π.turn ≤ byte_holds π q r d a + n

  pull-most : (pulling : Bool) → may_pull π pulling ≤ price π 3 1 1 1 1 0 0
  pull-most true = omega arith
  pull-most false = omega arith

  asks : (n m : ℕ) (a b : Acts) → Takes n a b → price π 4 1 1 1 1 0 0 + n ≤ m → Holds m a b
  asks n m a b h l = let f = pull-most a.slots.stream.pulling in omega (arith, h, l, f)

  rests : (n m : ℕ) (a b : Acts) → Takes n a b → b.slots.stream.pulling ≡ a.slots.stream.pulling → π.turn + n ≤ m → Holds m a b
  rests n m a b h same l = let f = ap (may_pull π) same in omega (arith, h, l, f)

  cancelled-takes : (e : Plain) (p : PromiseId) (a : Acts) → Holds (price π 5 2 2 1 1 0 0) a (byte.stream_cancel me e p a)
  unfolding byte.stream_cancel readable.disturb
  cancelled-takes e p a =
      let z : Acts = byte.in_stream readable.disturb a in
      rests (price π 4 2 2 1 1 0 0) (price π 5 2 2 1 1 0 0) z (byte.stream_cancel me e p a) (cancel-takes e p z a.slots.stream.state) (cancel-pulling e p z a.slots.stream.state) (omega arith)

  start-takes : (a : Acts) → Holds (price π 4 1 1 1 1 0 0) a (byte.start_settled me (Ok Undefined) a)
  start-takes a = asks 0 (price π 4 1 1 1 1 0 0) a (byte.start_settled me (Ok Undefined) a) (started-takes a) (omega arith)

  erring-holds : (e : Plain) (m : ℕ) (a : Acts) → π.turn ≤ m → Holds m a (byte.controller_error me e a)
  erring-holds e m a l = rests 0 m a (byte.controller_error me e a) (error-takes e a) (error-pulling e a) (omega (arith, l))

  pulled-by : (a : Acts) (again : Bool) → Holds (price π 4 1 1 1 1 0 0) a (byte.pull_ended me (byte.with_slots (record a.slots { stream = record a.slots.stream { pulling = false } }) a) again)
  pulled-by a false = omega arith
  pulled-by a true =
      let z : Acts = byte.with_slots (record a.slots { stream = record a.slots.stream { pulling = false; pull_again = false } }) a in
      let h = pull-takes z in omega (arith, h)

  meant-read : (request : ReadRequest) (a : Acts) → r ≤ π.request → d ≤ π.descriptor
      → Holds (price π 6 1 2 1 1 1 1 + π.descriptor) a (byte.if_meant (byte.may_read a.slots) (byte.default_reader_read me request a) a)
  unfolding byte.default_reader_read readable.disturb
  meant-read request a m k =
      let z : Acts = byte.in_stream readable.disturb a in
      let b : Acts = byte.read_by me request z a.slots.stream.state in
      let n : ℕ = price π 2 0 1 0 0 1 1 + π.descriptor in
      asks n (price π 6 1 2 1 1 1 1 + π.descriptor) a (byte.if_meant (byte.may_read a.slots) b a)
      (meant-takes (byte.may_read a.slots) b a n (read-takes request z a.slots.stream.state m k)) (omega arith)

  -- a tee reads from no byte stream
  read-holds : (request : ReadRequest) (a : Acts) → r ≤ π.request → d ≤ π.descriptor → Holds (read_price π me request) a (byte.read me request a)
  unfolding byte.read
  read-holds (Promise p) a m k = meant-read (Promise p) a m k
  read-holds (PipeRequest p) a m k = meant-read (PipeRequest p) a m k
  read-holds (TeeRequest t) a m k = omega arith

  into-holds : (room element minimum : ℕ) (request : ReadRequest) (a : Acts) → r ≤ π.request → d ≤ π.descriptor
      → Holds (price π 6 1 2 1 1 1 1 + π.descriptor) a (byte.read_into me room element minimum request a)
  unfolding byte.read_into
  into-holds room element minimum request a m k =
      let x : Descriptor = record { filled = []; room = room; minimum = minimum; element = element; room_kind = ForByob } in
      let b : Acts = byte.byob_reader_read me x request a in
      let n : ℕ = price π 2 0 1 0 0 1 1 + π.descriptor in
      let test : Bool = byte.may_pull_into a.slots && byte.is_least room element minimum in
      asks n (price π 6 1 2 1 1 1 1 + π.descriptor) a (byte.if_meant test b a) (meant-takes test b a n (into-takes x request a m k)) (omega arith)

pub byte_readable-takes : (π : Prices) (q r d : ℕ) (me : StreamId) (operation : ReadableOperation) (a : Acts) → q ≤ π.queued → r ≤ π.request → d ≤ π.descriptor
    → Holds π q r d me (readable_price π me operation) a (byte_readable_operation me operation a)
unfolding readable.disturb byte.controller_close byte.start_settled byte.pull_settled byte.cancel_if_readable
byte_readable-takes π q r d me (names.InitializeReader closed) a l m k =
    rests π q r d me 0 (price π 1 0 0 0 0 0 0) a (byte.reader_initialize Default closed a) (initialize-takes π q r d me Default closed a) (initialize-pulling π q r d me Default closed a) (omega arith)
byte_readable-takes π q r d me names.ReleaseReader a l m k =
    rests π q r d me 0 (price π 1 0 0 0 0 0 0) a (byte.reader_release me a) (release-takes π q r d me a) (release-pulling π q r d me a) (omega arith)
byte_readable-takes π q r d me names.Disturb a l m k = omega arith
byte_readable-takes π q r d me (names.Read request) a l m k = read-holds π q r d me request a m k
byte_readable-takes π q r d me (names.Cancel e p) a l m k = cancelled-takes π q r d me e p a
byte_readable-takes π q r d me (names.CancelIfReadable e p) a l m k =
    let h = cancelled-takes π q r d me e p a in let g = settle-size π p (Ok Undefined) a.out.promises in grind (arith, h, g)
byte_readable-takes π q r d me (names.Enqueue v) a l m k = omega arith
byte_readable-takes π q r d me names.Close a l m k =
    let h = rests π q r d me 0 (price π 1 0 0 0 0 0 0) a (byte.close_by me a a.slots.queue) (closing-takes π q r d me a a.slots.queue) (closing-pulling π q r d me a a.slots.queue) (omega arith) in
    grind (arith, h)
byte_readable-takes π q r d me (names.Error e) a l m k = erring-holds π q r d me e (price π 1 0 0 0 0 0 0) a (omega arith)
byte_readable-takes π q r d me (names.StartSettled (Ok v)) a l m k = start-takes π q r d me a
byte_readable-takes π q r d me (names.StartSettled (Err e)) a l m k = erring-holds π q r d me e (price π 4 1 1 1 1 0 0) a (omega arith)
byte_readable-takes π q r d me (names.PullSettled (Ok v)) a l m k = pulled-by π q r d me a a.slots.stream.pull_again
byte_readable-takes π q r d me (names.PullSettled (Err e)) a l m k = erring-holds π q r d me e (price π 4 1 1 1 1 0 0) a (omega arith)

pub byte-takes : (π : Prices) (q r d : ℕ) (me : StreamId) (operation : ByteOperation) (a : Acts) → q ≤ π.queued → r ≤ π.request → d ≤ π.descriptor
    → Holds π q r d me (byte_price π operation) a (byte_operation me operation a)
byte-takes π q r d me (own_names.InitializeByobReader closed) a l m k =
    rests π q r d me 0 (price π 1 0 0 0 0 0 0) a (byte.reader_initialize Byob closed a) (initialize-takes π q r d me Byob closed a) (initialize-pulling π q r d me Byob closed a) (omega arith)
byte-takes π q r d me (own_names.Enqueue b) a l m k =
    asks π q r d me π.queued (price π 4 1 1 1 1 1 0) a (byte.controller_enqueue me b a) (enqueue-takes π q r d me b a l) (omega arith)
byte-takes π q r d me (own_names.PullInto room element minimum request) a l m k = into-holds π q r d me (length room) element minimum request a m k
byte-takes π q r d me (own_names.MakeRequest x) a l m k = omega arith
byte-takes π q r d me (own_names.Respond b) a l m k =
    asks π q r d me π.queued (price π 4 1 1 1 1 1 0) a (byte.respond me b a) (respond-takes π q r d me b a l) (omega arith)
