-- An operation of a byte stream keeps how often promises stand in the stream and its effects.
use Rattle.std.proofs.Common.{◌≡◌, ◌≤◌, ◌+◌, ℕ, Bool, true, false, not, ◌&&◌, List, [], ◌∷◌, ◌++◌, length, take, drop, Option, Some, None, Ok, Err, refl, sym, ap, ◌∙◌, arith}
use Rattle.std.specs.Prelude.{if◌then◌else◌, is_none, nat_lt, ◌-◌, ◌%◌, suc, zero}
use Rattle.ws_value.specs.declared.ids.PromiseId.{PromiseId}
use Rattle.ws_value.specs.declared.ids.StreamId.{StreamId}
use Rattle.ws_value.specs.declared.value.Plain.{Plain}
use Rattle.ws_value.specs.declared.value.Plain.TheVariants.{Undefined}
use Rattle.ws_value.specs.declared.value.Value.TheVariants.{Bytes}
use Rattle.ws_steps.specs.declared.byte.ByteOperation.{ByteOperation}
use Rattle.ws_steps.specs.declared.byte.ByteOperation.TheVariants as own_names
use Rattle.ws_steps.specs.declared.byte.ReaderKind.{ReaderKind}
use Rattle.ws_steps.specs.declared.byte.ReaderKind.TheVariants.{Default, Byob}
use Rattle.ws_steps.specs.declared.byte.RoomKind.TheVariants.{ForByob}
use Rattle.ws_steps.specs.declared.effects.Effect.TheVariants.{ChunkSteps, CloseSteps, CloseStepsWith, ErrorSteps, CancelAlgorithm}
use Rattle.ws_steps.specs.declared.{readable.ReadRequest.{ReadRequest}, readable.ReadableOperation.{ReadableOperation}}
use Rattle.ws_steps.specs.declared.readable.ReadableOperation.TheVariants as names_of
use Rattle.ws_steps.specs.declared.{readable.ReadableState.{ReadableState}, readable.ReadableState.TheVariants.{Readable, Closed, Errored}}
use Rattle.ws_steps.specs.Bytes as byte
use Rattle.ws_steps.specs.Bytes.{Acts}
use Rattle.ws_steps.specs.Descriptors.{Descriptor, is_for_nobody, has_part, Filling, fill_from_queue, Processed}
use Rattle.ws_steps.specs.Effects.{type_error}
use Rattle.ws_steps.specs.Operations.{byte_readable_operation, byte_operation}
use Rattle.ws_steps.specs.Queues.{is_empty}
use Rattle.ws_steps.specs.Readable as readable
use Rattle.ws_laws.proofs.Tables.{either}
use Rattle.ws_laws.proofs.Truth.{and_right}
use Rattle.ws_promise_laws.proofs.Tokens.{names, of_request, of_readable, of_byte, in_effects, in_effects-append}
use Rattle.ws_promise_laws.proofs.Streams.{in_requests, Reads}
use Rattle.ws_promise_laws.proofs.Readables.{here, reads-less, reads-settle, reads-given, reads-quiet, ungiven, in_close_all, in_requests-append, stream_close-reads, error_reader-reads, initialize-reads, released-reads}

-- the stream within, and what is outside
abbrev pub inner : Acts → readable.Acts
inner a = record { slots = a.slots.stream; out = a.out }

-- what an operation on a byte stream keeps
abbrev pub Keeps : (f l : PromiseId → ℕ) → Acts → Type 0
Keeps f l a = Reads f l (inner a)

-- nothing is settled, and no promise stands more often than it did and was given
pub record Quiet (g : PromiseId → ℕ) (a b : Acts) : Type 0 where
  pub same : b.out.promises ≡ a.out.promises
  pub less : (x : PromiseId) → here x (inner b) ≤ here x (inner a) + g x

abbrev none : PromiseId → ℕ
none x = 0

quiet-keeps : (f l g : PromiseId → ℕ) (a b : Acts) → Quiet g a b → Keeps (λ x. f x + g x) l a → Keeps f l b
quiet-keeps f l g a b q k = reads-less f l g (inner a) (inner b) q.same q.less k

still-keeps : (f l : PromiseId → ℕ) (a b : Acts) → Quiet none a b → Keeps f l a → Keeps f l b
still-keeps f l a b q k = quiet-keeps f l none a b q (reads-given f l (inner a) k)

quiet-same : (a : Acts) → Quiet none a a
quiet-same a = record { same = refl; less = λ x. omega arith }

quiet-then : (g h : PromiseId → ℕ) (a b c : Acts) → Quiet g a b → Quiet h b c → Quiet (λ x. g x + h x) a c
quiet-then g h a b c p q = record { same = q.same ∙ p.same; less = λ x. let m = p.less x in let n = q.less x in omega (arith, m, n) }

quiet-still : (g : PromiseId → ℕ) (a b c : Acts) → Quiet g a b → Quiet none b c → Quiet g a c
quiet-still g a b c p q = record { same = q.same ∙ p.same; less = λ x. let m = p.less x in let n = q.less x in omega (arith, m, n) }

not-true : (c r : Bool) → (not c && r) ≡ true → c ≡ false
not-true true r e = cc
not-true false r e = refl

module _ (me : StreamId) where
  pull-same : (a : Acts) → (byte.call_pull_if_needed me a).out.promises ≡ a.out.promises
  unfolding byte.call_pull_if_needed
  pull-same a = grind arith

  pull-less : (x : PromiseId) (a : Acts) → here x (inner (byte.call_pull_if_needed me a)) ≤ here x (inner a) + 0
  unfolding byte.call_pull_if_needed
  pull-less x a = grind (arith, in_effects-append)

  pull-quiet : (a : Acts) → Quiet none a (byte.call_pull_if_needed me a)
  pull-quiet a = record { same = pull-same a; less = λ x. pull-less x a }

  commit-of : (x : PromiseId) (b : List ℕ) (q : ReadRequest) (state : ReadableState) → in_effects x (byte.commit_steps me b q state ∷ []) ≡ of_request x q
  commit-of x b q Readable = omega arith
  commit-of x b q Closed = omega arith
  commit-of x b q Errored = omega arith

  commit-quiet : (b : List ℕ) (a : Acts) (rs : List ReadRequest) → rs ≡ a.slots.stream.requests → Quiet none a (byte.commit_to me b a rs)
  commit-quiet b a [] is = record { same = refl; less = λ x. omega arith }
  commit-quiet b a (q ∷ qs) is = record {
    same = refl;
    less = λ x.
        let e = ap (in_requests x) is in
        let n = in_effects-append x a.out.effects (byte.commit_steps me b q a.slots.stream.state ∷ []) in
        let c = commit-of x b q a.slots.stream.state in omega (arith, e, n, c);
  }

  commit_all-quiet : (ds : List Descriptor) (a : Acts) → Quiet none a (byte.commit_all me ds a)
  commit_all-quiet [] a = quiet-same a
  commit_all-quiet (d ∷ ds) a =
      quiet-still none a (byte.commit me d a) (byte.commit_all me ds (byte.commit me d a)) (commit-quiet d.filled a a.slots.stream.requests refl) (commit_all-quiet ds (byte.commit me d a))

  process-quiet : (a : Acts) → Quiet none a (byte.process_and_commit me a)
  process-quiet a = let x : Processed = byte.processed_of a in let q = commit_all-quiet x.ready (byte.put_processed x a) in record { same = q.same; less = q.less }

  first-quiet : (n : ℕ) (a : Acts) → Quiet none a (byte.commit_first me n a)
  first-quiet n a =
      let q = commit_all-quiet (take n a.slots.descriptors) (byte.with_slots (record a.slots { descriptors = drop n a.slots.descriptors }) a) in
      record { same = q.same; less = q.less }

  detach-quiet : (a : Acts) (ds : List Descriptor) → Quiet none a (byte.detach_first a ds)
  detach-quiet a [] = quiet-same a
  detach-quiet a (d ∷ ds) = record { same = refl; less = λ x. omega arith }

  renounce-quiet : (a : Acts) (ds : List Descriptor) → Quiet none a (byte.renounce a ds)
  renounce-quiet a [] = quiet-same a
  renounce-quiet a (d ∷ ds) =
      let z : Acts = byte.invalidate_request a in
      let q = detach-quiet z a.slots.descriptors in
      either (Quiet none a) (is_for_nobody d.room_kind) (byte.detached_to_queue z) z (λ e. record { same = q.same; less = q.less }) (λ e. record { same = refl; less = λ x. omega arith })

  accept_for-quiet : (b : List ℕ) (a : Acts) (rs : List ReadRequest) → rs ≡ a.slots.stream.requests → Quiet none a (byte.accept_for me b a rs)
  accept_for-quiet b a [] is = record { same = refl; less = λ x. omega arith }
  accept_for-quiet b a (q ∷ qs) is = record {
    same = refl;
    less = λ x. let e = ap (in_requests x) is in let n = in_effects-append x a.out.effects (ChunkSteps me q (Bytes b) ∷ []) in omega (arith, e, n);
  }

  -- the queue is drained of a stream that takes bytes

  drain-quiet : (a : Acts) → a.slots.stream.close_requested ≡ false → Quiet none a (byte.handle_queue_drain me a)
  unfolding byte.handle_queue_drain
  drain-quiet a unasked =
      either (Quiet none a) (is_empty a.slots.queue && a.slots.stream.close_requested) (byte.stream_close me a) (byte.call_pull_if_needed me a)
      (λ e. let wrong : a.slots.stream.close_requested ≡ true = and_right (is_empty a.slots.queue) a.slots.stream.close_requested e in cc) (λ e. pull-quiet a)

  drain-unasked : (a : Acts) → a.slots.stream.close_requested ≡ false → (byte.handle_queue_drain me a).slots.stream.close_requested ≡ false
  unfolding byte.handle_queue_drain byte.call_pull_if_needed
  drain-unasked a unasked = grind (arith, unasked)

  drain-requests : (a : Acts) → a.slots.stream.close_requested ≡ false → (byte.handle_queue_drain me a).slots.stream.requests ≡ a.slots.stream.requests
  unfolding byte.handle_queue_drain byte.call_pull_if_needed
  drain-requests a unasked = grind (arith, unasked)

  requests-by : (q : ReadRequest) (qs : List ReadRequest) (a : Acts) (queue : List (List ℕ)) → (q ∷ qs) ≡ a.slots.stream.requests → a.slots.stream.close_requested ≡ false
      → ((c : Acts) → qs ≡ c.slots.stream.requests → c.slots.stream.close_requested ≡ false → Quiet none c (byte.process_requests me qs c))
      → Quiet none a (elim queue [ [] ↦ a | b ∷ bs ↦ byte.process_requests me qs (byte.fill_read_request me q (byte.with_requests qs a) (b ∷ bs)) ])
  requests-by q qs a [] is unasked more = quiet-same a
  requests-by q qs a (b ∷ bs) is unasked more =
      let z : Acts = byte.with_slots (record (byte.with_requests qs a).slots { queue = bs }) a in
      let w : Acts = byte.handle_queue_drain me z in
      let c : Acts = byte.causing (ChunkSteps me q (Bytes b)) w in
      let d = drain-quiet z unasked in
      let first : Quiet none a c = record {
        same = d.same;
        less = λ x.
            let e = ap (in_requests x) is in
            let l = d.less x in
            let n = in_effects-append x w.out.effects (ChunkSteps me q (Bytes b) ∷ []) in omega (arith, e, l, n);
      } in
      quiet-still none a c (byte.process_requests me qs c) first (more c (sym (drain-requests z unasked)) (drain-unasked z unasked))

  requests-quiet : (rs : List ReadRequest) (a : Acts) → rs ≡ a.slots.stream.requests → a.slots.stream.close_requested ≡ false → Quiet none a (byte.process_requests me rs a)
  requests-quiet [] a is unasked = quiet-same a
  requests-quiet (q ∷ qs) a is unasked = requests-by q qs a a.slots.queue is unasked (λ c at o. requests-quiet qs c at o)

  detach-stream : (a : Acts) (ds : List Descriptor) → (byte.detach_first a ds).slots.stream ≡ a.slots.stream
  detach-stream a [] = refl
  detach-stream a (d ∷ ds) = refl

  renounce-stream : (a : Acts) (ds : List Descriptor) → (byte.renounce a ds).slots.stream ≡ a.slots.stream
  renounce-stream a [] = refl
  renounce-stream a (d ∷ ds) =
      let z : Acts = byte.invalidate_request a in
      either (λ (b : Acts). b.slots.stream ≡ a.slots.stream) (is_for_nobody d.room_kind) (byte.detached_to_queue z) z (λ e. detach-stream z z.slots.descriptors) (λ e. refl)

  accept-quiet : (b : List ℕ) (a : Acts) → a.slots.stream.close_requested ≡ false → Quiet none a (byte.accept me b a)
  accept-quiet b a unasked =
      let c : Acts = byte.process_requests me a.slots.stream.requests a in
      let q = process-quiet (byte.append b a) in
      either (Quiet none a) (byte.has_default_reader a.slots) (byte.accept_default me b a) (if byte.has_byob_reader a.slots then byte.process_and_commit me (byte.append b a) else byte.append b a)
      (λ e. quiet-still none a c (byte.accept_for me b c c.slots.stream.requests) (requests-quiet a.slots.stream.requests a refl unasked) (accept_for-quiet b c c.slots.stream.requests refl))
      (λ e. either (Quiet none a) (byte.has_byob_reader a.slots) (byte.process_and_commit me (byte.append b a)) (byte.append b a)
      (λ f. record { same = q.same; less = q.less }) (λ f. record { same = refl; less = λ x. omega arith }))

  enqueue-quiet : (b : List ℕ) (a : Acts) → Quiet none a (byte.controller_enqueue me b a)
  unfolding byte.controller_enqueue
  enqueue-quiet b a =
      let z : Acts = byte.renounce a a.slots.descriptors in
      either (Quiet none a) (byte.can_take a.slots) (byte.call_pull_if_needed me (byte.accept me b z)) a
      (λ can.
      let unasked : z.slots.stream.close_requested ≡ false = ap (λ (s : readable.Slots). s.close_requested) (renounce-stream a a.slots.descriptors) ∙ not-true a.slots.stream.close_requested (readable.is_readable a.slots.stream.state) can in
      quiet-still none a (byte.accept me b z) _ (quiet-still none a z (byte.accept me b z) (renounce-quiet a a.slots.descriptors) (accept-quiet b z unasked)) (pull-quiet (byte.accept me b z)))
      (λ cannot. quiet-same a)

  -- responses

  committed-or : (n : ℕ) (b a : Acts) → Quiet none a b → Quiet none b (byte.commit_first me n b) → Quiet none a (if byte.has_byob_reader b.slots then byte.commit_first me n b else b)
  committed-or n b a q p = either (Quiet none a) (byte.has_byob_reader b.slots) (byte.commit_first me n b) b (λ e. quiet-still none a b (byte.commit_first me n b) q p) (λ e. q)

  closed-quiet : (d : Descriptor) (a : Acts) → Quiet none a (byte.respond_closed me d a)
  closed-quiet d a =
      let b : Acts = if is_for_nobody d.room_kind then byte.drop_first a else a in
      let same : Quiet none a b = either (Quiet none a) (is_for_nobody d.room_kind) (byte.drop_first a) a (λ e. record { same = refl; less = λ x. omega arith }) (λ e. quiet-same a) in
      committed-or (length b.slots.stream.requests) b a same (first-quiet (length b.slots.stream.requests) b)

  full-quiet : (d : Descriptor) (a : Acts) → Quiet none a (byte.respond_full me d a)
  full-quiet d a =
      let kept : ℕ = length d.filled - (length d.filled % d.element) in
      let b : Acts = byte.append (drop kept d.filled) (byte.drop_first a) in
      let x : Processed = byte.processed_of b in
      let c : Acts = byte.put_processed x b in
      let e : Descriptor = record d { filled = take kept d.filled } in
      let w = commit-quiet e.filled c c.slots.stream.requests refl in
      let k = commit_all-quiet x.ready (byte.commit me e c) in
      record { same = k.same ∙ w.same; less = λ y. let m = w.less y in let n = k.less y in omega (arith, m, n) }

  respond_readable-quiet : (d : Descriptor) (a : Acts) → Quiet none a (byte.respond_readable me d a)
  respond_readable-quiet d a =
      let z : Acts = byte.put_first d a in
      let t = detach-quiet z z.slots.descriptors in
      let p = process-quiet (byte.detached_to_queue z) in
      either (Quiet none a) (is_for_nobody d.room_kind) (byte.process_and_commit me (byte.detached_to_queue z)) (if nat_lt (length d.filled) d.minimum then z else byte.respond_full me d a)
      (λ e. record { same = p.same ∙ t.same; less = λ y. let m = t.less y in let n = p.less y in omega (arith, m, n) })
      (λ e. either (Quiet none a) (nat_lt (length d.filled) d.minimum) z (byte.respond_full me d a) (λ f. record { same = refl; less = λ x. omega arith }) (λ f. full-quiet d a))

  respond_first-quiet : (b : List ℕ) (a : Acts) (ds : List Descriptor) → Quiet none a (byte.respond_first me b a ds)
  respond_first-quiet b a [] = quiet-same a
  respond_first-quiet b a (d ∷ ds) =
      let y : Descriptor = record d { filled = d.filled ++ b } in
      either (Quiet none a) (byte.is_closed a.slots.stream.state) (byte.respond_closed me d a) (byte.call_pull_if_needed me (byte.respond_readable me y a))
      (λ e. closed-quiet d a) (λ e. quiet-still none a (byte.respond_readable me y a) _ (respond_readable-quiet y a) (pull-quiet (byte.respond_readable me y a)))

  marked-quiet : (test : Bool) (b a : Acts) → Quiet none a b → Quiet none a (byte.if_meant test b a)
  marked-quiet true b a q = q
  marked-quiet false b a q = record { same = refl; less = λ x. omega arith }

  respond-quiet : (b : List ℕ) (a : Acts) → Quiet none a (byte.respond me b a)
  unfolding byte.respond
  respond-quiet b a =
      let q = respond_first-quiet b (byte.invalidate_request a) a.slots.descriptors in
      marked-quiet (byte.may_respond (length b) a.slots) (byte.respond_internal me b a) a (record { same = q.same; less = q.less })

  -- the stream ends

  keeping-keeps : (f l : PromiseId → ℕ) (a : Acts) (reader : Option PromiseId) → reader ≡ a.slots.stream.reader → readable.is_readable a.slots.stream.state ≡ true → Keeps f l a
      → Reads f l (byte.close_keeping (record { slots = record a.slots.stream { state = Closed }; out = a.out }) reader)
  keeping-keeps f l a None r e k = reads-quiet f l (inner a) (byte.close_keeping (record { slots = record a.slots.stream { state = Closed }; out = a.out }) None) refl (λ x. grind arith) k
  keeping-keeps f l a (Some c) r e k =
      reads-settle f l none c (Ok Undefined) (inner a) (byte.close_keeping (record { slots = record a.slots.stream { state = Closed }; out = a.out }) (Some c)) refl (λ x. grind arith) (reads-given f l (inner a) k)

  close-keeps : (f l : PromiseId → ℕ) (a : Acts) → readable.is_readable a.slots.stream.state ≡ true → Keeps f l a → Keeps f l (byte.stream_close me a)
  unfolding byte.stream_close
  close-keeps f l a e k =
      either (Keeps f l) (byte.has_byob_reader a.slots) (byte.in_stream byte.close_stream_keeping a) (byte.in_stream (readable.stream_close me) a)
      (λ y. keeping-keeps f l a a.slots.stream.reader refl e k) (λ n. stream_close-reads f l me (inner a) e k)

  error-keeps : (f l : PromiseId → ℕ) (r : Plain) (a : Acts) → Keeps f l a → Keeps f l (byte.controller_error me r a)
  unfolding byte.controller_error readable.stream_error
  error-keeps f l r a k =
      either (Keeps f l) (readable.is_readable a.slots.stream.state) (byte.in_stream (readable.stream_error me r) (byte.clear_all a)) a
      (λ e. error_reader-reads f l me r (inner a) a.slots.stream.reader refl e k) (λ e. k)

  pull-keeps : (f l : PromiseId → ℕ) (a : Acts) → Keeps f l a → Keeps f l (byte.call_pull_if_needed me a)
  pull-keeps f l a k = still-keeps f l a (byte.call_pull_if_needed me a) (pull-quiet a) k

  drain-keeps : (f l : PromiseId → ℕ) (a : Acts) → readable.is_readable a.slots.stream.state ≡ true → Keeps f l a → Keeps f l (byte.handle_queue_drain me a)
  unfolding byte.handle_queue_drain
  drain-keeps f l a e k =
      either (Keeps f l) (is_empty a.slots.queue && a.slots.stream.close_requested) (byte.stream_close me a) (byte.call_pull_if_needed me a)
      (λ y. close-keeps f l a e k) (λ n. pull-keeps f l a k)

  -- an effect takes a request that is given
  takes : (f l : PromiseId → ℕ) (q : ReadRequest) (a : Acts) (e : _) → ((x : PromiseId) → in_effects x (e ∷ []) ≡ of_request x q) → Keeps (λ x. f x + of_request x q) l a → Keeps f l (byte.causing e a)
  takes f l q a e is k =
      quiet-keeps f l (λ x. of_request x q) a (byte.causing e a) (record { same = refl; less = λ x. let n = in_effects-append x a.out.effects (e ∷ []) in let m = is x in omega (arith, n, m) }) k

  waits : (f l : PromiseId → ℕ) (q : ReadRequest) (a : Acts) → Keeps (λ x. f x + of_request x q) l a → Keeps f l (byte.wait q a)
  waits f l q a k =
      quiet-keeps f l (λ x. of_request x q) a (byte.wait q a) (record { same = refl; less = λ x. let n = in_requests-append x a.slots.stream.requests q in omega (arith, n) }) k

  allocated : (f l : PromiseId → ℕ) (a : Acts) (n : ℕ) → Keeps f l a → Keeps f l (byte.auto_allocate a n)
  allocated f l a zero k = k
  allocated f l a (suc n) k = k

  pull_from-keeps : (f l : PromiseId → ℕ) (q : ReadRequest) (a : Acts) (queue : List (List ℕ)) → readable.is_readable a.slots.stream.state ≡ true → Keeps (λ x. f x + of_request x q) l a → Keeps f l (byte.pull_from me q a queue)
  pull_from-keeps f l q a [] e k =
      pull-keeps f l (byte.wait q (byte.auto_allocate a a.slots.auto)) (waits f l q (byte.auto_allocate a a.slots.auto) (allocated (λ x. f x + of_request x q) l a a.slots.auto k))
  pull_from-keeps f l q a (b ∷ bs) e k =
      let z : Acts = byte.with_slots (record a.slots { queue = bs }) a in
      takes f l q (byte.handle_queue_drain me z) (ChunkSteps me q (Bytes b)) (λ x. omega arith) (drain-keeps (λ x. f x + of_request x q) l z e k)

  read-keeps : (f l : PromiseId → ℕ) (q : ReadRequest) (a : Acts) (state : ReadableState) → state ≡ a.slots.stream.state → Keeps (λ x. f x + of_request x q) l a → Keeps f l (byte.read_by me q a state)
  unfolding byte.pull_steps
  read-keeps f l q a Readable e k = pull_from-keeps f l q a a.slots.queue (rw (← e) refl) k
  read-keeps f l q a Closed e k = takes f l q a (CloseSteps me q) (λ x. omega arith) k
  read-keeps f l q a Errored e k = takes f l q a (ErrorSteps me q a.slots.stream.stored_error) (λ x. omega arith) k

  -- reads into a room

  filled-keeps : (f l : PromiseId → ℕ) (q : ReadRequest) (a : Acts) (y : Filling) (ready : Bool) → ready ≡ y.ready → readable.is_readable a.slots.stream.state ≡ true → Keeps (λ x. f x + of_request x q) l a
      → Keeps f l (byte.pull_filled me q a y)
  filled-keeps f l q a y true is e k =
      let z : Acts = byte.put_queue y.queue a in
      rw (← is) (takes f l q (byte.handle_queue_drain me z) (ChunkSteps me q (Bytes y.descriptor.filled)) (λ x. omega arith) (drain-keeps (λ x. f x + of_request x q) l z e k))
  filled-keeps f l q a y false is e k =
      let z : Acts = byte.put_queue y.queue a in
      let w : Acts = byte.pull_waits y.descriptor q z in
      rw (← is)
      (either (Keeps f l) a.slots.stream.close_requested (byte.causing (ErrorSteps me q type_error) (byte.controller_error me type_error z)) (byte.call_pull_if_needed me w)
      (λ c. takes f l q (byte.controller_error me type_error z) (ErrorSteps me q type_error) (λ x. omega arith) (error-keeps (λ x. f x + of_request x q) l type_error z k))
      (λ c. pull-keeps f l w (waits f l q (byte.add_descriptor y.descriptor z) k)))

  from_queue-keeps : (f l : PromiseId → ℕ) (d : Descriptor) (q : ReadRequest) (a : Acts) (queue : List (List ℕ)) → readable.is_readable a.slots.stream.state ≡ true → Keeps (λ x. f x + of_request x q) l a
      → Keeps f l (byte.pull_from_queue me d q a queue)
  from_queue-keeps f l d q a [] e k = pull-keeps f l (byte.pull_waits d q a) (waits f l q (byte.add_descriptor d a) k)
  from_queue-keeps f l d q a (b ∷ bs) e k = filled-keeps f l q a (fill_from_queue d (b ∷ bs)) (fill_from_queue d (b ∷ bs)).ready refl e k

  first-keeps : (f l : PromiseId → ℕ) (d : Descriptor) (q : ReadRequest) (a : Acts) (ds : List Descriptor) → (byte.is_closed a.slots.stream.state ≡ false → readable.is_readable a.slots.stream.state ≡ true)
      → Keeps (λ x. f x + of_request x q) l a → Keeps f l (byte.pull_first me d q a ds)
  first-keeps f l d q a (y ∷ ys) e k = waits f l q (byte.add_descriptor d a) k
  first-keeps f l d q a [] e k =
      either (Keeps f l) (byte.is_closed a.slots.stream.state) (byte.causing (CloseStepsWith me q []) a) (byte.pull_from_queue me d q a a.slots.queue)
      (λ c. takes f l q a (CloseStepsWith me q []) (λ x. omega arith) k) (λ c. from_queue-keeps f l d q a a.slots.queue (e c) k)

  alive-state : (state : ReadableState) → byte.is_errored state ≡ false → byte.is_closed state ≡ false → readable.is_readable state ≡ true
  alive-state Readable e c = refl
  alive-state Closed e c = cc
  alive-state Errored e c = cc

  byob-keeps : (f l : PromiseId → ℕ) (d : Descriptor) (q : ReadRequest) (a : Acts) → Keeps (λ x. f x + of_request x q) l a → Keeps f l (byte.byob_reader_read me d q a)
  unfolding byte.byob_reader_read byte.pull_into readable.disturb
  byob-keeps f l d q a k =
      let b : Acts = byte.in_stream readable.disturb a in
      either (Keeps f l) (byte.is_errored a.slots.stream.state) (byte.causing (ErrorSteps me q a.slots.stream.stored_error) b) (byte.pull_first me d q b a.slots.descriptors)
      (λ e. takes f l q b (ErrorSteps me q a.slots.stream.stored_error) (λ x. omega arith) k)
      (λ e. first-keeps f l d q b a.slots.descriptors (λ c. alive-state a.slots.stream.state e c) k)

  -- closing and cancelling

  close_by-keeps : (f l : PromiseId → ℕ) (a : Acts) (queue : List (List ℕ)) → readable.is_readable a.slots.stream.state ≡ true → Keeps f l a → Keeps f l (byte.close_by me a queue)
  close_by-keeps f l a (b ∷ bs) e k = k
  close_by-keeps f l a [] e k =
      either (Keeps f l) (has_part a.slots.descriptors) (byte.controller_error me type_error a) (byte.stream_close me a) (λ p. error-keeps f l type_error a k) (λ p. close-keeps f l a e k)

  controller_close-keeps : (f l : PromiseId → ℕ) (a : Acts) → Keeps f l a → Keeps f l (byte.controller_close me a)
  unfolding byte.controller_close
  controller_close-keeps f l a k =
      either (Keeps f l) (byte.can_take a.slots) (byte.close_by me a a.slots.queue) a
      (λ can. close_by-keeps f l a a.slots.queue (and_right (not a.slots.stream.close_requested) (readable.is_readable a.slots.stream.state) can) k) (λ cannot. k)

  close_into-quiet : (a : Acts) → Quiet none a (byte.close_into me a)
  close_into-quiet a =
      either (Quiet none a) (byte.has_byob_reader a.slots) _ a
      (λ e. record {
        same = refl;
        less = λ x. let n = in_effects-append x a.out.effects (readable.close_all me a.slots.stream.requests) in let m = in_close_all x me a.slots.stream.requests in omega (arith, n, m);
      }) (λ e. quiet-same a)

  cancel_by-keeps : (f l : PromiseId → ℕ) (r : Plain) (p : PromiseId) (a : Acts) (state : ReadableState) → state ≡ a.slots.stream.state → Keeps (λ x. f x + names x p) l a → Keeps f l (byte.cancel_by me r p a state)
  cancel_by-keeps f l r p a Readable e k =
      let g : PromiseId → ℕ = λ x. f x + names x p in
      let b : Acts = byte.stream_close me a in
      let c : Acts = byte.close_into me b in
      let closed : Keeps g l c = still-keeps g l b c (close_into-quiet b) (close-keeps g l a (rw (← e) refl) k) in
      quiet-keeps f l (λ x. names x p) c (byte.cancel_steps me r p c) (record { same = refl; less = λ x. let n = in_effects-append x c.out.effects (CancelAlgorithm me r p ∷ []) in omega (arith, n) }) closed
  cancel_by-keeps f l r p a Closed e k = reads-settle f l (λ x. names x p) p (Ok Undefined) (inner a) (inner (byte.cancel_by me r p a Closed)) refl (λ x. omega arith) k
  cancel_by-keeps f l r p a Errored e k = reads-settle f l (λ x. names x p) p (Err a.slots.stream.stored_error) (inner a) (inner (byte.cancel_by me r p a Errored)) refl (λ x. omega arith) k

  cancel-keeps : (f l : PromiseId → ℕ) (r : Plain) (p : PromiseId) (a : Acts) → Keeps (λ x. f x + names x p) l a → Keeps f l (byte.stream_cancel me r p a)
  unfolding byte.stream_cancel readable.disturb
  cancel-keeps f l r p a k = cancel_by-keeps f l r p (byte.in_stream readable.disturb a) a.slots.stream.state refl k

  -- where an operation isn't meant, what it is given is lost
  meant-keeps : (f l g : PromiseId → ℕ) (test : Bool) (b a : Acts) → (Keeps (λ x. f x + g x) l a → Keeps f l b) → Keeps (λ x. f x + g x) l a → Keeps f l (byte.if_meant test b a)
  meant-keeps f l g true b a n k = n k
  meant-keeps f l g false b a n k = quiet-keeps f l g a (byte.if_meant false b a) (record { same = refl; less = λ x. omega arith }) k

  initialize-keeps : (f l : PromiseId → ℕ) (kind : ReaderKind) (c : PromiseId) (a : Acts) → Keeps (λ x. f x + names x c) l a → Keeps f l (byte.reader_initialize kind c a)
  unfolding byte.reader_initialize
  initialize-keeps f l kind c a k = meant-keeps f l (λ x. names x c) (is_none a.slots.stream.reader) _ a (λ k. initialize-reads f l c (inner a) k) k

  pull_ended-keeps : (f l : PromiseId → ℕ) (a : Acts) (again : Bool) → Keeps f l a → Keeps f l (byte.pull_ended me a again)
  pull_ended-keeps f l a false k = k
  pull_ended-keeps f l a true k = pull-keeps f l (byte.with_slots (record a.slots { stream = record a.slots.stream { pull_again = false } }) a) k

-- every operation, which is given the promises that it answers
pub byte_reads : (f l : PromiseId → ℕ) (i : StreamId) (operation : ReadableOperation) (a : Acts) → Keeps (λ x. f x + of_readable x operation) l a → Keeps f l (byte_readable_operation i operation a)
unfolding byte.reader_release readable.reader_release readable.disturb byte.read byte.default_reader_read byte.cancel_if_readable byte.start_settled byte.pull_settled
byte_reads f l i (names_of.InitializeReader c) a k = initialize-keeps i f l Default c a k
byte_reads f l i names_of.ReleaseReader a k = released-reads f l i (inner a) a.slots.stream.reader refl (ungiven f l (inner a) k)
byte_reads f l i names_of.Disturb a k = ungiven f l (inner a) k
byte_reads f l i (names_of.Read q) a k =
    either (Keeps f l) (byte.is_of_tee q) a (byte.if_meant (byte.may_read a.slots) (byte.read_by i q (byte.in_stream readable.disturb a) a.slots.stream.state) a)
    (λ e. quiet-keeps f l (λ x. of_request x q) a a (record { same = refl; less = λ x. omega arith }) k)
    (λ e. meant-keeps i f l (λ x. of_request x q) (byte.may_read a.slots) (byte.read_by i q (byte.in_stream readable.disturb a) a.slots.stream.state) a
    (λ k. read-keeps i f l q (byte.in_stream readable.disturb a) a.slots.stream.state refl k) k)
byte_reads f l i (names_of.Cancel r p) a k = cancel-keeps i f l r p a k
byte_reads f l i (names_of.CancelIfReadable r p) a k =
    either (Keeps f l) (readable.is_readable a.slots.stream.state) (byte.stream_cancel i r p a) _ (λ e. cancel-keeps i f l r p a k)
    (λ e. reads-settle f l (λ x. names x p) p (Ok Undefined) (inner a) (inner (byte.cancel_by i r p a Closed)) refl (λ x. omega arith) k)
byte_reads f l i (names_of.Enqueue v) a k = ungiven f l (inner a) k
byte_reads f l i names_of.Close a k = controller_close-keeps i f l a (ungiven f l (inner a) k)
byte_reads f l i (names_of.Error e) a k = error-keeps i f l e a (ungiven f l (inner a) k)
byte_reads f l i (names_of.StartSettled (Ok v)) a k = pull-keeps i f l (byte.with_slots (record a.slots { stream = record a.slots.stream { started = true } }) a) (ungiven f l (inner a) k)
byte_reads f l i (names_of.StartSettled (Err e)) a k = error-keeps i f l e a (ungiven f l (inner a) k)
byte_reads f l i (names_of.PullSettled (Ok v)) a k =
    pull_ended-keeps i f l (byte.with_slots (record a.slots { stream = record a.slots.stream { pulling = false } }) a) a.slots.stream.pull_again (ungiven f l (inner a) k)
byte_reads f l i (names_of.PullSettled (Err e)) a k = error-keeps i f l e a (ungiven f l (inner a) k)

pub bytes : (f l : PromiseId → ℕ) (i : StreamId) (operation : ByteOperation) (a : Acts) → Keeps (λ x. f x + of_byte x operation) l a → Keeps f l (byte_operation i operation a)
unfolding byte.read_into
bytes f l i (own_names.InitializeByobReader c) a k = initialize-keeps i f l Byob c a k
bytes f l i (own_names.Enqueue b) a k = still-keeps f l a (byte.controller_enqueue i b a) (enqueue-quiet i b a) (ungiven f l (inner a) k)
bytes f l i (own_names.PullInto room element minimum q) a k =
    let d : Descriptor = record { filled = []; room = length room; minimum = minimum; element = element; room_kind = ForByob } in
    meant-keeps i f l (λ x. of_request x q) (byte.may_pull_into a.slots && byte.is_least (length room) element minimum) (byte.byob_reader_read i d q a) a (λ k. byob-keeps i f l d q a k) k
bytes f l i (own_names.MakeRequest q) a k = ungiven f l (inner a) k
bytes f l i (own_names.Respond b) a k = still-keeps f l a (byte.respond i b a) (respond-quiet i b a) (ungiven f l (inner a) k)
