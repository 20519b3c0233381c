-- Each operation of a byte stream answers its requests from the front: those that it answers, in order, and those that wait then are those that
-- waited, and then the one that is asked, unless that one overtakes another.
use Rattle.std.proofs.Common.{◌≡◌, ◌≢◌, ℕ, zero, suc, Bool, true, false, not, ◌&&◌, ◌-◌, ◌%◌, if◌then◌else◌, List, [], ◌∷◌, ◌++◌, length, take, drop, Option, Some, None, Ok, Err, nat_lt, refl, sym, ap, ◌∙◌, append_assoc, append-nil}
use Rattle.std.specs.Prelude.{is_none}
use Rattle.ws_value.specs.declared.{ids.PromiseId.{PromiseId}, ids.StreamId.{StreamId}, value.Plain.{Plain}, value.Value.TheVariants.{Bytes}}
use Rattle.ws_steps.specs.declared.byte.{ReaderKind.{ReaderKind}, ByteOperation.{ByteOperation}}
use Rattle.ws_steps.specs.declared.byte.ReaderKind.TheVariants.{Default, Byob}
use Rattle.ws_steps.specs.declared.byte.RoomKind.TheVariants.{ForByob}
use Rattle.ws_steps.specs.declared.byte.ByteOperation.TheVariants as own
use Rattle.ws_steps.specs.declared.effects.Effect.TheVariants.{PullAlgorithm, CancelAlgorithm, ChunkSteps, CloseSteps, CloseStepsWith, ErrorSteps}
use Rattle.ws_steps.specs.declared.readable.{ReadRequest.{ReadRequest}, ReadableOperation.{ReadableOperation}, ReadableState.{ReadableState}, ReadableState.TheVariants.{Readable, Closed, Errored}}
use Rattle.ws_steps.specs.declared.readable.ReadableOperation.TheVariants as names
use Rattle.ws_steps.specs.Bytes.{Acts, Slots, with_slots, with_requests, causing, in_stream, has_default_reader, has_byob_reader, can_take, should_call_pull, call_pull_if_needed, close_keeping, close_stream_keeping, stream_close, invalidate_request, clear_all, controller_error, handle_queue_drain, fill_read_request, append, wait, add_descriptor, auto_allocate, pull_from, pull_steps, read_by, default_reader_read, close_by, controller_close, commit_steps, commit_to, commit, commit_all, put_processed, processed_of, process_and_commit, detach_first, detached_to_queue, renounce, process_requests, drop_first, accept_for, accept_default, accept, controller_enqueue, pull_waits, put_queue, pull_filled, pull_from_queue, is_closed, is_errored, pull_first, pull_into, byob_reader_read, commit_first, respond_closed, put_first, respond_full, respond_readable, respond_first, respond_internal, respond, start_settled, pull_ended, pull_settled, close_into, cancel_by, stream_cancel, cancel_if_readable, release_steps, reader_release, if_meant, reader_initialize, may_read, may_pull_into, is_least, may_respond, is_of_tee, read, read_into}
use Rattle.ws_steps.specs.Descriptors.{Descriptor, is_for_nobody, Filling, fill_from_queue, Processed, has_part}
use Rattle.ws_steps.specs.Effects.{type_error}
use Rattle.ws_steps.specs.Queues.{is_empty}
use Rattle.ws_steps.specs.Readable as readable
use Rattle.ws_laws.proofs.Tables.{either}
use Rattle.ws_byte_laws.proofs.Given.{starting}
use Rattle.ws_steps.specs.Operations.{byte_readable_operation, byte_operation}
use Rattle.ws_steps.specs.Promises.{Table}
use Rattle.ws_answer_laws.proofs.Lines.{answered_by, answered, line, answered-closes, answered-errors, all-answered, none-answered, one-answered, Overtakes, Keeps, quiet, gives, asks, waits}

module _ (me : StreamId) where
  pull-line : (a : Acts) → Keeps a (call_pull_if_needed me a)
  unfolding call_pull_if_needed
  pull-line a =
      either (Keeps a) (should_call_pull a.slots) (in_stream (readable.call_pull me) a) a
      (λ c. either (λ (b : readable.Acts). Keeps a (record { slots = record a.slots { stream = b.slots }; out = b.out })) a.slots.stream.pulling _ _ (λ p. refl) (λ p. quiet (PullAlgorithm me) a refl))
      (λ c. refl)

  -- a pull answers none, and leaves the requests and the mark of a close
  record Same (a b : Acts) : Type 0 where
    requests : b.slots.stream.requests ≡ a.slots.stream.requests
    answers : answered b.out.effects ≡ answered a.out.effects
    close : b.slots.stream.close_requested ≡ a.slots.stream.close_requested

  pull-same : (a : Acts) → Same a (call_pull_if_needed me a)
  unfolding call_pull_if_needed
  pull-same a =
      either (Same a) (should_call_pull a.slots) (in_stream (readable.call_pull me) a) a
      (λ c. either (λ (b : readable.Acts). Same a (record { slots = record a.slots { stream = b.slots }; out = b.out })) a.slots.stream.pulling _ _
      (λ p. record { requests = refl; answers = refl; close = refl })
      (λ p. record { requests = refl; answers = none-answered a.out.effects (PullAlgorithm me) refl; close = refl }))
      (λ c. record { requests = refl; answers = refl; close = refl })

  -- the ends

  keeping : (a : Acts) (o : Option PromiseId) → let b : readable.Acts = close_keeping (record { slots = record a.slots.stream { state = Closed }; out = a.out }) o in
      Keeps a (record { slots = record a.slots { stream = b.slots }; out = b.out })
  keeping a None = refl
  keeping a (Some p) = refl

  closing : (a : Acts) (o : Option PromiseId) → let b : readable.Acts = readable.close_reader me (record { slots = record a.slots.stream { state = Closed }; out = a.out }) o in
      Keeps a (record { slots = record a.slots { stream = b.slots }; out = b.out })
  closing a None = refl
  closing a (Some p) = all-answered a.out.effects (readable.close_all me a.slots.stream.requests) a.slots.stream.requests (answered-closes me a.slots.stream.requests)

  close-line : (a : Acts) → Keeps a (stream_close me a)
  unfolding stream_close readable.stream_close
  close-line a =
      either (Keeps a) (has_byob_reader a.slots) (in_stream close_stream_keeping a) (in_stream (readable.stream_close me) a) (λ c. keeping a a.slots.stream.reader) (λ c. closing a a.slots.stream.reader)

  -- where none waits, none waits then
  closing-none : (a : Acts) (o : Option PromiseId) → a.slots.stream.requests ≡ [] → (readable.close_reader me (record { slots = record a.slots.stream { state = Closed }; out = a.out }) o).slots.requests ≡ []
  closing-none a None n = n
  closing-none a (Some p) n = refl

  keeping-none : (a : Acts) (o : Option PromiseId) → a.slots.stream.requests ≡ [] → (close_keeping (record { slots = record a.slots.stream { state = Closed }; out = a.out }) o).slots.requests ≡ []
  keeping-none a None n = n
  keeping-none a (Some p) n = n

  close-none : (a : Acts) → a.slots.stream.requests ≡ [] → (stream_close me a).slots.stream.requests ≡ []
  unfolding stream_close readable.stream_close
  close-none a n =
      either (λ (b : Acts). b.slots.stream.requests ≡ []) (has_byob_reader a.slots) (in_stream close_stream_keeping a) (in_stream (readable.stream_close me) a)
      (λ c. keeping-none a a.slots.stream.reader n) (λ c. closing-none a a.slots.stream.reader n)

  erring : (e : Plain) (a : Acts) (o : Option PromiseId) → let b : readable.Acts = readable.error_reader me e (record { slots = record a.slots.stream { state = Errored; stored_error = e }; out = a.out }) o in
      Keeps a (record { slots = record a.slots { stream = b.slots; request = None; descriptors = []; queue = [] }; out = b.out })
  erring e a None = refl
  erring e a (Some p) = all-answered a.out.effects (readable.error_all me e a.slots.stream.requests) a.slots.stream.requests (answered-errors me e a.slots.stream.requests)

  erring-none : (e : Plain) (a : Acts) (o : Option PromiseId) → a.slots.stream.requests ≡ [] → (readable.error_reader me e (record { slots = record a.slots.stream { state = Errored; stored_error = e }; out = a.out }) o).slots.requests ≡ []
  erring-none e a None n = n
  erring-none e a (Some p) n = refl

  error-line : (e : Plain) (a : Acts) → Keeps a (controller_error me e a)
  unfolding controller_error readable.stream_error
  error-line e a = either (Keeps a) (readable.is_readable a.slots.stream.state) (in_stream (readable.stream_error me e) (clear_all a)) a (λ c. erring e a a.slots.stream.reader) (λ c. refl)

  error-none : (e : Plain) (a : Acts) → a.slots.stream.requests ≡ [] → (controller_error me e a).slots.stream.requests ≡ []
  unfolding controller_error readable.stream_error
  error-none e a n =
      either (λ (b : Acts). b.slots.stream.requests ≡ []) (readable.is_readable a.slots.stream.state) (in_stream (readable.stream_error me e) (clear_all a)) a (λ c. erring-none e a a.slots.stream.reader n) (λ c. n)

  -- the queue

  drain-line : (a : Acts) → Keeps a (handle_queue_drain me a)
  unfolding handle_queue_drain
  drain-line a = either (Keeps a) (is_empty a.slots.queue && a.slots.stream.close_requested) (stream_close me a) (call_pull_if_needed me a) (λ c. close-line a) (λ c. pull-line a)

  pub drain-none : (a : Acts) → a.slots.stream.requests ≡ [] → (handle_queue_drain me a).slots.stream.requests ≡ []
  unfolding handle_queue_drain
  drain-none a n =
      either (λ (b : Acts). b.slots.stream.requests ≡ []) (is_empty a.slots.queue && a.slots.stream.close_requested) (stream_close me a) (call_pull_if_needed me a)
      (λ c. close-none a n) (λ c. (pull-same a).requests ∙ n)

  both_false : (e c : Bool) → c ≡ false → e && c ≡ true → ⊥
  both_false true true c e = cc
  both_false true false c e = cc
  both_false false d c e = cc

  drain-same : (a : Acts) → a.slots.stream.close_requested ≡ false → Same a (handle_queue_drain me a)
  unfolding handle_queue_drain
  drain-same a n =
      either (Same a) (is_empty a.slots.queue && a.slots.stream.close_requested) (stream_close me a) (call_pull_if_needed me a)
      (λ c. absurd (both_false (is_empty a.slots.queue) a.slots.stream.close_requested n c)) (λ c. pull-same a)

  -- commits

  commit_to-line : (b : List ℕ) (a : Acts) (qs : List ReadRequest) → a.slots.stream.requests ≡ qs → Keeps a (commit_to me b a qs)
  commit_to-line b a [] r = refl
  commit_to-line b a (q ∷ qs) r = gives (commit_steps me b q a.slots.stream.state) q qs a (by a.slots.stream.state) r
    where
      by : (state : ReadableState) → answered_by (commit_steps me b q state) ≡ q ∷ []
      by Readable = refl
      by Closed = refl
      by Errored = refl

  commit-line : (d : Descriptor) (a : Acts) → Keeps a (commit me d a)
  commit-line d a = commit_to-line d.filled a a.slots.stream.requests refl

  commits-line : (ds : List Descriptor) (a : Acts) → Keeps a (commit_all me ds a)
  commits-line [] a = refl
  commits-line (d ∷ ds) a = commits-line ds (commit me d a) ∙ commit-line d a

  process-line : (a : Acts) → Keeps a (process_and_commit me a)
  process-line a = commits-line (processed_of a).ready (put_processed (processed_of a) a)

  -- requests are served from the queue

  record Served (a b : Acts) : Type 0 where
    keeps : Keeps a b
    close : b.slots.stream.close_requested ≡ false

  served_by : (q : ReadRequest) (qs : List ReadRequest) (a : Acts) (queue : List (List ℕ)) → queue ≡ a.slots.queue → a.slots.stream.requests ≡ q ∷ qs → a.slots.stream.close_requested ≡ false
      → ((c : Acts) → c.slots.stream.requests ≡ qs → c.slots.stream.close_requested ≡ false → Served c (process_requests me qs c))
      → Served a (elim queue [ [] ↦ a | b ∷ bs ↦ process_requests me qs (fill_read_request me q (with_requests qs a) (b ∷ bs)) ])
  served_by q qs a [] e r n next = record { keeps = refl; close = n }
  served_by q qs a (b ∷ bs) e r n next =
      let c : Acts = with_slots (record (with_requests qs a).slots { queue = bs }) (with_requests qs a) in
      let k : Same c (handle_queue_drain me c) = drain-same c n in
      let z : Acts = causing (ChunkSteps me q (Bytes b)) (handle_queue_drain me c) in
      let w : Served z (process_requests me qs z) = next z k.requests (k.close ∙ n) in
      let one : line z ≡ (answered a.out.effects ++ q ∷ []) ++ qs =
      ap (λ (rs : List ReadRequest). rs ++ z.slots.stream.requests) (one-answered (handle_queue_drain me c).out.effects (ChunkSteps me q (Bytes b)) q refl)
      ∙ (ap (λ (rs : List ReadRequest). (rs ++ q ∷ []) ++ z.slots.stream.requests) k.answers
      ∙ ap (λ (rs : List ReadRequest). (answered a.out.effects ++ q ∷ []) ++ rs) k.requests) in
      record {
        keeps = w.keeps ∙ (one ∙ (append_assoc (answered a.out.effects) (q ∷ []) qs ∙ ap (λ (rs : List ReadRequest). answered a.out.effects ++ rs) (sym r)));
        close = w.close;
      }

  served : (qs : List ReadRequest) (a : Acts) → a.slots.stream.requests ≡ qs → a.slots.stream.close_requested ≡ false → Served a (process_requests me qs a)
  served [] a r n = record { keeps = refl; close = n }
  served (q ∷ qs) a r n = served_by q qs a a.slots.queue refl r n (served qs)

  accept_for-line : (b : List ℕ) (a : Acts) (qs : List ReadRequest) → a.slots.stream.requests ≡ qs → Keeps a (accept_for me b a qs)
  accept_for-line b a [] r = refl
  accept_for-line b a (q ∷ qs) r = gives (ChunkSteps me q (Bytes b)) q qs a refl r

  accept-line : (b : List ℕ) (a : Acts) → a.slots.stream.close_requested ≡ false → Keeps a (accept me b a)
  accept-line b a n =
      either (Keeps a) (has_default_reader a.slots) (accept_default me b a) (if has_byob_reader a.slots then process_and_commit me (append b a) else append b a)
      (λ c.
      let z : Acts = process_requests me a.slots.stream.requests a in
      let s : Served a z = served a.slots.stream.requests a refl n in accept_for-line b z z.slots.stream.requests refl ∙ s.keeps)
      (λ c. either (Keeps a) (has_byob_reader a.slots) (process_and_commit me (append b a)) (append b a) (λ d. process-line (append b a)) (λ d. refl))

  record Left (a b : Acts) : Type 0 where
    keeps : Keeps a b
    close : b.slots.stream.close_requested ≡ a.slots.stream.close_requested

  detach-left : (a : Acts) (ds : List Descriptor) → Left a (detach_first a ds)
  detach-left a [] = record { keeps = refl; close = refl }
  detach-left a (d ∷ ds) = record { keeps = refl; close = refl }

  renounce-left : (a : Acts) (ds : List Descriptor) → Left a (renounce a ds)
  renounce-left a [] = record { keeps = refl; close = refl }
  renounce-left a (d ∷ ds) =
      either (Left a) (is_for_nobody d.room_kind) (detached_to_queue (invalidate_request a)) (invalidate_request a)
      (λ c. let k = detach-left (invalidate_request a) a.slots.descriptors in record { keeps = k.keeps; close = k.close }) (λ c. record { keeps = refl; close = refl })

  not_asked : (c d : Bool) → not c && d ≡ true → c ≡ false
  not_asked true d e = cc
  not_asked false d e = refl

  enqueue-line : (b : List ℕ) (a : Acts) → Keeps a (controller_enqueue me b a)
  unfolding controller_enqueue
  enqueue-line b a =
      let z : Acts = renounce a a.slots.descriptors in
      let k : Left a z = renounce-left a a.slots.descriptors in
      either (Keeps a) (can_take a.slots) (call_pull_if_needed me (accept me b z)) a
      (λ c. pull-line (accept me b z) ∙ (accept-line b z (k.close ∙ not_asked a.slots.stream.close_requested (readable.is_readable a.slots.stream.state) c) ∙ k.keeps)) (λ c. refl)

  -- closes and responses

  close_by-line : (a : Acts) (queue : List (List ℕ)) → Keeps a (close_by me a queue)
  close_by-line a (b ∷ bs) = refl
  close_by-line a [] = either (Keeps a) (has_part a.slots.descriptors) (controller_error me type_error a) (stream_close me a) (λ c. error-line type_error a) (λ c. close-line a)

  finish-line : (a : Acts) → Keeps a (controller_close me a)
  unfolding controller_close
  finish-line a = either (Keeps a) (can_take a.slots) (close_by me a a.slots.queue) a (λ c. close_by-line a a.slots.queue) (λ c. refl)

  closed-line : (d : Descriptor) (a : Acts) → Keeps a (respond_closed me d a)
  closed-line d a =
      either (λ (b : Acts). Keeps a (if has_byob_reader b.slots then commit_first me (length b.slots.stream.requests) b else b)) (is_for_nobody d.room_kind) (drop_first a) a
      (λ c. committed (drop_first a)) (λ c. committed a)
    where
      committed : (b : Acts) → Keeps b (if has_byob_reader b.slots then commit_first me (length b.slots.stream.requests) b else b)
      committed b =
          either (Keeps b) (has_byob_reader b.slots) (commit_first me (length b.slots.stream.requests) b) b
          (λ c. commits-line (take (length b.slots.stream.requests) b.slots.descriptors) (with_slots (record b.slots { descriptors = drop (length b.slots.stream.requests) b.slots.descriptors }) b)) (λ c. refl)

  full-line : (d : Descriptor) (a : Acts) → Keeps a (respond_full me d a)
  full-line d a =
      let kept : ℕ = length d.filled - (length d.filled % d.element) in
      let b : Acts = append (drop kept d.filled) (drop_first a) in
      let x : Processed = processed_of b in
      let e : Descriptor = record d { filled = take kept d.filled } in
      commits-line x.ready (commit me e (put_processed x b)) ∙ commit-line e (put_processed x b)

  readable-line : (d : Descriptor) (a : Acts) → Keeps a (respond_readable me d a)
  readable-line d a =
      let z : Acts = put_first d a in
      either (Keeps a) (is_for_nobody d.room_kind) (process_and_commit me (detached_to_queue z)) (if nat_lt (length d.filled) d.minimum then z else respond_full me d a)
      (λ c. process-line (detached_to_queue z) ∙ (detach-left z z.slots.descriptors).keeps)
      (λ c. either (Keeps a) (nat_lt (length d.filled) d.minimum) z (respond_full me d a) (λ e. refl) (λ e. full-line d a))

  first-line : (b : List ℕ) (a : Acts) (ds : List Descriptor) → Keeps a (respond_first me b a ds)
  first-line b a [] = refl
  first-line b a (d ∷ ds) =
      let y : Descriptor = record d { filled = d.filled ++ b } in
      either (Keeps a) (is_closed a.slots.stream.state) (respond_closed me d a) (call_pull_if_needed me (respond_readable me y a)) (λ c. closed-line d a) (λ c. pull-line (respond_readable me y a) ∙ readable-line y a)

  meant-line : (c : Bool) (b a : Acts) → Keeps a b → Keeps a (if_meant c b a)
  meant-line true b a k = k
  meant-line false b a k = refl

  respond-line : (b : List ℕ) (a : Acts) → Keeps a (respond me b a)
  unfolding respond
  respond-line b a = meant-line (may_respond (length b) a.slots) (respond_internal me b a) a (first-line b (invalidate_request a) a.slots.descriptors)

  -- cancels and releases

  into-line : (a : Acts) → Keeps a (close_into me a)
  into-line a =
      either (Keeps a) (has_byob_reader a.slots) _ a
      (λ c. all-answered a.out.effects (readable.close_all me a.slots.stream.requests) a.slots.stream.requests (answered-closes me a.slots.stream.requests)) (λ c. refl)

  cancelling : (r : Plain) (p : PromiseId) (a : Acts) (state : ReadableState) → Keeps a (cancel_by me r p a state)
  cancelling r p a Readable =
      let b : Acts = close_into me (stream_close me a) in
      quiet (CancelAlgorithm me r p) (clear_all b) refl ∙ (into-line (stream_close me a) ∙ close-line a)
  cancelling r p a Closed = refl
  cancelling r p a Errored = refl

  cancel-line : (r : Plain) (p : PromiseId) (a : Acts) → Keeps a (stream_cancel me r p a)
  unfolding stream_cancel readable.disturb
  cancel-line r p a = cancelling r p (in_stream readable.disturb a) a.slots.stream.state

  releasing : (a : Acts) (o : Option PromiseId) → let b : readable.Acts = readable.release_by me (record { slots = a.slots.stream; out = a.out }) o in
      Keeps a (record { slots = record a.slots { stream = b.slots }; out = b.out })
  releasing a None = refl
  releasing a (Some p) = by a.slots.stream.state
    where
      by : (state : ReadableState) → answered ((readable.release_closed p a.out state).effects ++ readable.error_all me type_error a.slots.stream.requests) ++ [] ≡ line a
      by Readable = all-answered a.out.effects (readable.error_all me type_error a.slots.stream.requests) a.slots.stream.requests (answered-errors me type_error a.slots.stream.requests)
      by Closed = all-answered a.out.effects (readable.error_all me type_error a.slots.stream.requests) a.slots.stream.requests (answered-errors me type_error a.slots.stream.requests)
      by Errored = all-answered a.out.effects (readable.error_all me type_error a.slots.stream.requests) a.slots.stream.requests (answered-errors me type_error a.slots.stream.requests)

  release-line : (a : Acts) → Keeps a (reader_release me a)
  unfolding reader_release readable.reader_release
  release-line a = releasing (release_steps a) a.slots.stream.reader

  -- reads

  auto-line : (a : Acts) (n : ℕ) → line (auto_allocate a n) ≡ line a
  auto-line a zero = refl
  auto-line a (suc n) = refl

  -- a read by a default reader finds no request, or no byte
  read_from-line : (q : ReadRequest) (a : Acts) (queue : List (List ℕ)) → (queue ≢ [] → a.slots.stream.requests ≡ []) → line (pull_from me q a queue) ≡ line a ++ q ∷ []
  read_from-line q a [] free =
      let c : Acts = auto_allocate a a.slots.auto in
      pull-line (wait q c) ∙ (waits q c ∙ ap (λ (rs : List ReadRequest). rs ++ q ∷ []) (auto-line a a.slots.auto))
  read_from-line q a (b ∷ bs) free =
      let c : Acts = with_slots (record a.slots { queue = bs }) a in
      let n : a.slots.stream.requests ≡ [] = free (λ e. cc) in
      asks (ChunkSteps me q (Bytes b)) q (handle_queue_drain me c) refl (drain-none c n) ∙ ap (λ (rs : List ReadRequest). rs ++ q ∷ []) (drain-line c)

  read_by-line : (q : ReadRequest) (a : Acts) (state : ReadableState) → (state ≡ Readable → a.slots.queue ≢ [] → a.slots.stream.requests ≡ []) → (state ≢ Readable → a.slots.stream.requests ≡ []) → line (read_by me q a state) ≡ line a ++ q ∷ []
  unfolding pull_steps
  read_by-line q a Readable free ended = read_from-line q a a.slots.queue (free refl)
  read_by-line q a Closed free ended = asks (CloseSteps me q) q a refl (ended (λ e. cc))
  read_by-line q a Errored free ended = asks (ErrorSteps me q a.slots.stream.stored_error) q a refl (ended (λ e. cc))

  pub read-line : (q : ReadRequest) (a : Acts) → is_of_tee q ≡ false → may_read a.slots ≡ true → (a.slots.stream.state ≡ Readable → a.slots.queue ≢ [] → a.slots.stream.requests ≡ []) → (a.slots.stream.state ≢ Readable → a.slots.stream.requests ≡ [])
      → line (read me q a) ≡ line a ++ q ∷ []
  unfolding read default_reader_read readable.disturb
  read-line q a t m free ended =
      let b : Acts = default_reader_read me q a in
      ap (λ (c : Bool). line (if c then a else if_meant (may_read a.slots) b a)) t
      ∙ (ap (λ (c : Bool). line (if_meant c b a)) m ∙ read_by-line q (in_stream readable.disturb a) a.slots.stream.state free ended)

  -- where bytes are queued it is answered last
  from-overtakes : (q : ReadRequest) (a : Acts) (queue : List (List ℕ)) → queue ≢ [] → Overtakes q (line a) (pull_from me q a queue)
  from-overtakes q a [] n = absurd (n refl)
  from-overtakes q a (b ∷ bs) n =
      let c : Acts = with_slots (record a.slots { queue = bs }) a in
      let z : Acts = handle_queue_drain me c in
      record { first = answered z.out.effects; answers = one-answered z.out.effects (ChunkSteps me q (Bytes b)) q refl; lined = drain-line c }

  by-overtakes : (q : ReadRequest) (a : Acts) (state : ReadableState) → state ≡ Readable → a.slots.queue ≢ [] → Overtakes q (line a) (read_by me q a state)
  unfolding pull_steps
  by-overtakes q a Readable s n = from-overtakes q a a.slots.queue n
  by-overtakes q a Closed s n = absurd (cc)
  by-overtakes q a Errored s n = absurd (cc)

  pub read-overtakes : (q : ReadRequest) (a : Acts) → is_of_tee q ≡ false → may_read a.slots ≡ true → a.slots.stream.state ≡ Readable → a.slots.queue ≢ [] → Overtakes q (line a) (read me q a)
  unfolding read default_reader_read readable.disturb
  read-overtakes q a t m s n = rw (t, m) (by-overtakes q (in_stream readable.disturb a) a.slots.stream.state s n)

  filled-line : (q : ReadRequest) (a : Acts) (f : Filling) (ready : Bool) → ready ≡ f.ready → a.slots.stream.requests ≡ [] → line (pull_filled me q a f) ≡ line a ++ q ∷ []
  filled-line q a f true is n =
      let z : Acts = put_queue f.queue a in
      rw (← is)
      (asks (ChunkSteps me q (Bytes f.descriptor.filled)) q (handle_queue_drain me z) refl (drain-none z n) ∙ ap (λ (rs : List ReadRequest). rs ++ q ∷ []) (drain-line z))
  filled-line q a f false is n =
      let z : Acts = put_queue f.queue a in
      let c : Acts = pull_waits f.descriptor q z in
      rw (← is)
      (either (λ (b : Acts). line b ≡ line a ++ q ∷ []) a.slots.stream.close_requested (causing (ErrorSteps me q type_error) (controller_error me type_error z)) (call_pull_if_needed me c)
      (λ e. asks (ErrorSteps me q type_error) q (controller_error me type_error z) refl (error-none type_error z n) ∙ ap (λ (rs : List ReadRequest). rs ++ q ∷ []) (error-line type_error z))
      (λ e. pull-line c ∙ waits q (add_descriptor f.descriptor z)))

  from_queue-line : (d : Descriptor) (q : ReadRequest) (a : Acts) (queue : List (List ℕ)) → a.slots.stream.requests ≡ [] → line (pull_from_queue me d q a queue) ≡ line a ++ q ∷ []
  from_queue-line d q a [] n = pull-line (pull_waits d q a) ∙ waits q (add_descriptor d a)
  from_queue-line d q a (b ∷ bs) n = let f : Filling = fill_from_queue d (b ∷ bs) in filled-line q a f f.ready refl n

  pull_first-line : (d : Descriptor) (q : ReadRequest) (a : Acts) (ds : List Descriptor) → (ds ≡ [] → a.slots.stream.requests ≡ []) → line (pull_first me d q a ds) ≡ line a ++ q ∷ []
  pull_first-line d q a (x ∷ xs) free = waits q (add_descriptor d a)
  pull_first-line d q a [] free =
      either (λ (b : Acts). line b ≡ line a ++ q ∷ []) (is_closed a.slots.stream.state) (causing (CloseStepsWith me q []) a) (pull_from_queue me d q a a.slots.queue)
      (λ c. asks (CloseStepsWith me q []) q a refl (free refl)) (λ c. from_queue-line d q a a.slots.queue (free refl))

  -- a read into a room finds no request, or another room
  byob-line : (d : Descriptor) (q : ReadRequest) (a : Acts) → (a.slots.descriptors ≡ [] → a.slots.stream.requests ≡ []) → (a.slots.stream.state ≡ Errored → a.slots.stream.requests ≡ []) → line (byob_reader_read me d q a) ≡ line a ++ q ∷ []
  unfolding byob_reader_read pull_into readable.disturb
  byob-line d q a free erred =
      let b : Acts = in_stream readable.disturb a in
      either (λ (c : Acts). line c ≡ line a ++ q ∷ []) (is_errored a.slots.stream.state) (causing (ErrorSteps me q a.slots.stream.stored_error) b) (pull_first me d q b a.slots.descriptors)
      (λ c. asks (ErrorSteps me q a.slots.stream.stored_error) q b refl (erred (by a.slots.stream.state c))) (λ c. pull_first-line d q b a.slots.descriptors free)
    where
      by : (state : ReadableState) → is_errored state ≡ true → state ≡ Errored
      by Readable e = cc
      by Closed e = cc
      by Errored e = refl

  pub into-reads-line : (room element minimum : ℕ) (q : ReadRequest) (a : Acts) → (may_pull_into a.slots && is_least room element minimum) ≡ true → (a.slots.descriptors ≡ [] → a.slots.stream.requests ≡ []) → (a.slots.stream.state ≡ Errored → a.slots.stream.requests ≡ [])
      → line (read_into me room element minimum q a) ≡ line a ++ q ∷ []
  unfolding read_into
  into-reads-line room element minimum q a m free erred =
      let d : Descriptor = record { filled = []; room = room; minimum = minimum; element = element; room_kind = ForByob } in
      ap (λ (c : Bool). line (if_meant c (byob_reader_read me d q a) a)) m ∙ byob-line d q a free erred

-- the request that an operation asks
abbrev pub asked_by : ReadableOperation → List ReadRequest
asked_by (names.Read q) = q ∷ []
asked_by _ = []

abbrev pub own_asked_by : ByteOperation → List ReadRequest
own_asked_by (own.PullInto room element minimum q) = q ∷ []
own_asked_by _ = []

-- a reader comes where none waits; a read by a default reader finds no request, or no byte; one into a room finds no request, or another room
abbrev pub IsFree : ReadableOperation → Slots → Type 0
IsFree (names.InitializeReader p) x = x.stream.reader ≡ None → x.stream.requests ≡ []
IsFree (names.Read q) x =
    (is_of_tee q ≡ false) × ((may_read x ≡ true) × ((x.stream.state ≡ Readable → x.queue ≢ [] → x.stream.requests ≡ []) × (x.stream.state ≢ Readable → x.stream.requests ≡ [])))
IsFree _ x = Unit {0}

abbrev pub IsOwnFree : ByteOperation → Slots → Type 0
IsOwnFree (own.InitializeByobReader p) x = x.stream.reader ≡ None → x.stream.requests ≡ []
IsOwnFree (own.PullInto room element minimum q) x =
    ((may_pull_into x && is_least (length room) element minimum) ≡ true) × ((x.descriptors ≡ [] → x.stream.requests ≡ []) × (x.stream.state ≡ Errored → x.stream.requests ≡ []))
IsOwnFree _ x = Unit {0}

none_is : (o : Option PromiseId) → is_none o ≡ true → o ≡ None
none_is None e = refl
none_is (Some p) e = cc

meant_if : (c : Bool) (b a : Acts) → (c ≡ true → Keeps a b) → Keeps a (if_meant c b a)
meant_if true b a k = k refl
meant_if false b a k = refl

module _ (me : StreamId) (x : Slots) (t : Table) where
  abbrev start : Acts
  start = starting x t

  abbrev Asks : List ReadRequest → Acts → Type 0
  Asks qs b = line b ≡ x.stream.requests ++ qs

  kept : (b : Acts) → Keeps start b → Asks [] b
  kept b k = k ∙ sym (append-nil x.stream.requests)

  initializing : (p : PromiseId) (state : ReadableState) → answered (readable.settle_closed p x.stream.stored_error start.out state).effects ≡ []
  initializing p Readable = refl
  initializing p Closed = refl
  initializing p Errored = refl

  initialize-line : (kind : ReaderKind) (p : PromiseId) → (x.stream.reader ≡ None → x.stream.requests ≡ []) → Keeps start (reader_initialize kind p start)
  unfolding reader_initialize readable.reader_generic_initialize
  initialize-line kind p none =
      meant_if (is_none x.stream.reader) (in_stream (readable.reader_generic_initialize p) (with_slots (record x { reader_kind = kind }) start)) start
      (λ c. ap (λ (rs : List ReadRequest). rs ++ []) (initializing p x.stream.state) ∙ sym (none (none_is x.stream.reader c)))

  pub operation-asks : (op : ReadableOperation) → IsFree op x → Asks (asked_by op) (byte_readable_operation me op start)
  unfolding start_settled pull_settled cancel_if_readable readable.disturb
  operation-asks (names.InitializeReader p) f = kept (byte_readable_operation me (names.InitializeReader p) start) (initialize-line Default p f)
  operation-asks names.ReleaseReader f = kept (byte_readable_operation me names.ReleaseReader start) (release-line me start)
  operation-asks names.Disturb f = kept (byte_readable_operation me names.Disturb start) refl
  operation-asks (names.Read q) f = read-line me q start f.0 f.1.0 f.1.1.0 f.1.1.1
  operation-asks (names.Cancel r p) f = kept (byte_readable_operation me (names.Cancel r p) start) (cancel-line me r p start)
  operation-asks (names.CancelIfReadable r p) f =
      kept (byte_readable_operation me (names.CancelIfReadable r p) start) (either (λ (b : Acts). Keeps start b) (readable.is_readable x.stream.state) (stream_cancel me r p start) _ (λ c. cancel-line me r p start) (λ c. refl))
  operation-asks (names.Enqueue v) f = kept (byte_readable_operation me (names.Enqueue v) start) refl
  operation-asks names.Close f = kept (byte_readable_operation me names.Close start) (finish-line me start)
  operation-asks (names.Error e) f = kept (byte_readable_operation me (names.Error e) start) (error-line me e start)
  operation-asks (names.StartSettled (Ok v)) f = kept (byte_readable_operation me (names.StartSettled (Ok v)) start) (pull-line me (with_slots (record x { stream = record x.stream { started = true } }) start))
  operation-asks (names.StartSettled (Err e)) f = kept (byte_readable_operation me (names.StartSettled (Err e)) start) (error-line me e start)
  operation-asks (names.PullSettled (Ok v)) f = kept (byte_readable_operation me (names.PullSettled (Ok v)) start) (by x.stream.pull_again)
    where
      by : (again : Bool) → Keeps start (pull_ended me (with_slots (record x { stream = record x.stream { pulling = false } }) start) again)
      by false = refl
      by true = pull-line me (with_slots (record x { stream = record x.stream { pulling = false; pull_again = false } }) start)
  operation-asks (names.PullSettled (Err e)) f = kept (byte_readable_operation me (names.PullSettled (Err e)) start) (error-line me e start)

  pub own-asks : (op : ByteOperation) → IsOwnFree op x → Asks (own_asked_by op) (byte_operation me op start)
  own-asks (own.InitializeByobReader p) f = kept (byte_operation me (own.InitializeByobReader p) start) (initialize-line Byob p f)
  own-asks (own.Enqueue b) f = kept (byte_operation me (own.Enqueue b) start) (enqueue-line me b start)
  own-asks (own.PullInto room element minimum q) f = into-reads-line me (length room) element minimum q start f.0 f.1.0 f.1.1
  own-asks (own.MakeRequest q) f = kept (byte_operation me (own.MakeRequest q) start) refl
  own-asks (own.Respond b) f = kept (byte_operation me (own.Respond b) start) (respond-line me b start)
