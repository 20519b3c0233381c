-- A read by a default reader that waits at a readable byte stream waits beside an empty queue, until a response comes to a room for nobody.
use Rattle.std.proofs.Common.{◌≡◌, ◌≢◌, ◌⊎◌, inl, inr, ℕ, zero, suc, Bool, true, false, not, ◌&&◌, ◌||◌, ◌-◌, ◌%◌, if◌then◌else◌, List, [], ◌∷◌, ◌++◌, length, take, drop, Option, Some, None, Ok, Err, nat_lt, refl, sym, ap, ◌∙◌, arith}
use Rattle.std.specs.Prelude.{is_none}
use Rattle.ws_value.specs.declared.{ids.PromiseId.{PromiseId}, ids.StreamId.{StreamId}, value.Plain.{Plain}, value.Value.TheVariants.{Bytes}}
use Rattle.ws_steps.specs.declared.byte.{ReaderKind.{ReaderKind}, ReaderKind.TheVariants.{Default, Byob}, RoomKind.{RoomKind}, RoomKind.TheVariants.{ForDefault, ForByob, ForNobody}, ByteOperation.{ByteOperation}}
use Rattle.ws_steps.specs.declared.byte.ByteOperation.TheVariants as own
use Rattle.ws_steps.specs.declared.effects.Effect.TheVariants.{ChunkSteps}
use Rattle.ws_steps.specs.declared.readable.{ReadRequest.{ReadRequest}, ReadableOperation.{ReadableOperation}, ReadableState.{ReadableState}, ReadableState.TheVariants.{Readable, Closed, Errored}}
use Rattle.ws_steps.specs.declared.readable.ReadableOperation.TheVariants as names
use Rattle.ws_steps.specs.Bytes.{Acts, Slots, with_slots, with_requests, causing, in_stream, has_default_reader, has_byob_reader, is_byob, can_take, should_call_pull, call_pull_if_needed, stream_close, clear_all, controller_error, handle_queue_drain, append, wait, auto_allocate, pull_from, pull_steps, read_by, default_reader_read, close_by, controller_close, commit_to, commit, commit_all, put_processed, processed_of, process_and_commit, detach_first, detached_to_queue, renounce, process_requests, fill_read_request, drop_first, accept_for, accept, controller_enqueue, is_closed, respond_closed, put_first, respond_full, respond_readable, respond_first, respond_internal, respond, invalidate_request, if_meant, reader_initialize, reader_release, close_into, cancel_by, stream_cancel, cancel_if_readable, start_settled, pull_ended, pull_settled, may_read, may_respond, is_of_tee, read}
use Rattle.ws_steps.specs.Descriptors.{Descriptor, is_for_nobody, has_part, Processed, process_descriptors}
use Rattle.ws_steps.specs.Effects.{type_error}
use Rattle.ws_steps.specs.Queues.{is_empty, append_bytes}
use Rattle.ws_steps.specs.Readable as readable
use Rattle.ws_steps.specs.Operations.{byte_readable_operation, byte_operation}
use Rattle.ws_laws.proofs.Tables.{either}
use Rattle.ws_byte_laws.proofs.Enqueue.{default_reads}
use Rattle.ws_pipe_laws.proofs.locks.ByteReaders.{Look, look, release-look, byte-look}
use Rattle.ws_byte_laws.specs.Descriptors.{Held, Good, First}
use Rattle.ws_answer_laws.specs.ByteReads.{first_is_for_nobody, spills}
use Rattle.ws_answer_laws.proofs.Asking.{Finds}
use Rattle.ws_answer_laws.proofs.InOrder.{drain-none, IsOwnFree}
use Rattle.ws_answer_laws.proofs.Lawful.{IsByobs, drain-pulls, pull-leaves, close-closed}

abbrev pub Tidy : Slots → Type 0
Tidy x = has_default_reader x ≡ true → x.stream.state ≡ Readable → x.queue ≢ [] → x.stream.requests ≡ []

-- where no read waits
none-tidy : (x : Slots) → x.stream.requests ≡ [] → Tidy x
none-tidy x n d r q = n

empty-tidy : (x : Slots) → x.queue ≡ [] → Tidy x
empty-tidy x n d r q = absurd (q n)

over-tidy : (x : Slots) → x.stream.state ≢ Readable → Tidy x
over-tidy x n d r q = absurd (n r)

other-tidy : (x : Slots) → has_default_reader x ≡ false → Tidy x
other-tidy x n d r q = absurd (cc)

open_not : (state : ReadableState) → state ≡ Readable → is_closed state ≡ true → ⊥
open_not Readable s c = cc
open_not Closed s c = cc
open_not Errored s c = cc

drop_all : (xs : List ℕ) → drop (length xs) xs ≡ []
drop_all [] = refl
drop_all (x ∷ xs) = drop_all xs

no_part : (xs : List ℕ) (n : ℕ) → n ≡ 1 → drop (length xs - (length xs % n)) xs ≡ []
no_part xs n e =
    let all : length xs - (length xs % 1) ≡ length xs = omega arith in
    rw (e, all) (drop_all xs)

nothing_processed : (ds : List Descriptor) (queue : List (List ℕ)) → queue ≡ [] → ((process_descriptors ds queue).ready ≡ []) × ((process_descriptors ds queue).queue ≡ [])
nothing_processed ds (b ∷ bs) e = absurd (cc)
nothing_processed [] [] e = (refl, refl)
nothing_processed (d ∷ ds) [] e = (refl, refl)

-- the first room is for elements of one byte
abbrev AllBytes : List Descriptor → Type 0
AllBytes [] = Unit {0}
AllBytes (d ∷ ds) = d.element ≡ 1

byobs_default : ForDefault ≡ ForByob → ⊥
byobs_default e = cc

nobody : (k : RoomKind) → k ≡ ForNobody → is_for_nobody k ≡ false → ⊥
nobody ForNobody e n = cc
nobody ForDefault e n = cc
nobody ForByob e n = cc

pub live_default : (state : ReadableState) (d : Bool) → not (readable.is_readable state) || d ≡ true → state ≡ Readable → d ≡ true
live_default Readable d e s = e
live_default Closed d e s = absurd (cc)
live_default Errored d e s = absurd (cc)

closed_not : (state : ReadableState) → state ≡ Closed → state ≡ Readable → ⊥
closed_not state c r = cc

erred_not : (state : ReadableState) → state ≡ Errored → state ≡ Readable → ⊥
erred_not state c r = cc

module _ (me : StreamId) where
  -- a pull leaves what it looks at
  record Leaves (a b : Acts) : Type 0 where
    requests : b.slots.stream.requests ≡ a.slots.stream.requests
    queue : b.slots.queue ≡ a.slots.queue
    state : b.slots.stream.state ≡ a.slots.stream.state
    default : has_default_reader b.slots ≡ has_default_reader a.slots

  pull-does : (a : Acts) → Leaves a (call_pull_if_needed me a)
  unfolding call_pull_if_needed
  pull-does a =
      either (Leaves a) (should_call_pull a.slots) (in_stream (readable.call_pull me) a) a
      (λ c. either (λ (b : readable.Acts). Leaves a (record { slots = record a.slots { stream = b.slots }; out = b.out })) a.slots.stream.pulling _ _
      (λ p. record { requests = refl; queue = refl; state = refl; default = refl }) (λ p. record { requests = refl; queue = refl; state = refl; default = refl }))
      (λ c. record { requests = refl; queue = refl; state = refl; default = refl })

  leaves-tidy : (a b : Acts) → Leaves a b → Tidy a.slots → Tidy b.slots
  leaves-tidy a b k t d r q = k.requests ∙ t (sym k.default ∙ d) (sym k.state ∙ r) (λ n. q (k.queue ∙ n))

  pull-tidy : (a : Acts) → Tidy a.slots → Tidy (call_pull_if_needed me a).slots
  pull-tidy a t = leaves-tidy a (call_pull_if_needed me a) (pull-does a) t

  -- the ends

  close-tidy : (a : Acts) → Tidy (stream_close me a).slots
  close-tidy a = over-tidy (stream_close me a).slots (λ r. let c = close-closed me Readable type_error a in absurd (closed_not (stream_close me a).slots.stream.state c r))

  erring : (e : Plain) (a : Acts) (o : Option PromiseId) → (readable.error_reader me e (record { slots = record a.slots.stream { state = Errored; stored_error = e }; out = a.out }) o).slots.state ≡ Errored
  erring e a None = refl
  erring e a (Some p) = refl

  error-tidy : (e : Plain) (a : Acts) → Tidy a.slots → Tidy (controller_error me e a).slots
  unfolding controller_error readable.stream_error
  error-tidy e a t =
      either (λ (y : Acts). Tidy y.slots) (readable.is_readable a.slots.stream.state) (in_stream (readable.stream_error me e) (clear_all a)) a
      (λ c. over-tidy (in_stream (readable.stream_error me e) (clear_all a)).slots (λ r. erred_not (in_stream (readable.stream_error me e) (clear_all a)).slots.stream.state (erring e a a.slots.stream.reader) r)) (λ c. t)

  -- the queue

  -- a read finds bytes
  drain-tidy : (a : Acts) → a.slots.stream.requests ≡ [] → Tidy (handle_queue_drain me a).slots
  drain-tidy a n = none-tidy (handle_queue_drain me a).slots (drain-none me a n)

  commit_to-none : (b : List ℕ) (a : Acts) (qs : List ReadRequest) → qs ≡ a.slots.stream.requests → a.slots.stream.requests ≡ [] → (commit_to me b a qs).slots.stream.requests ≡ []
  commit_to-none b a [] e n = n
  commit_to-none b a (q ∷ qs) e n = let k : q ∷ qs ≡ [] = e ∙ n in absurd (cc)

  commits-none : (ds : List Descriptor) (a : Acts) → a.slots.stream.requests ≡ [] → (commit_all me ds a).slots.stream.requests ≡ []
  commits-none [] a n = n
  commits-none (d ∷ ds) a n = commits-none ds (commit me d a) (commit_to-none d.filled a a.slots.stream.requests refl n)

  process-none : (a : Acts) → a.slots.stream.requests ≡ [] → (process_and_commit me a).slots.stream.requests ≡ []
  process-none a n = commits-none (processed_of a).ready (put_processed (processed_of a) a) n

  -- requests are served from the queue until one of both is empty
  abbrev IsServed : Acts → Type 0
  IsServed a = (a.slots.queue ≡ []) ⊎ (a.slots.stream.requests ≡ [])

  served_by : (q : ReadRequest) (qs : List ReadRequest) (a : Acts) (queue : List (List ℕ)) → queue ≡ a.slots.queue → a.slots.stream.close_requested ≡ false
      → ((c : Acts) → c.slots.stream.requests ≡ qs → c.slots.stream.close_requested ≡ false → IsServed (process_requests me qs c))
      → IsServed (elim queue [ [] ↦ a | b ∷ bs ↦ process_requests me qs (fill_read_request me q (with_requests qs a) (b ∷ bs)) ])
  served_by q qs a [] e n next = inl (sym e)
  served_by q qs a (b ∷ bs) e n next =
      let c : Acts = with_slots (record (with_requests qs a).slots { queue = bs }) (with_requests qs a) in
      let k = pull-leaves me Readable type_error c in
      let z : Acts = causing (ChunkSteps me q (Bytes b)) (call_pull_if_needed me c) in
      let same : causing (ChunkSteps me q (Bytes b)) (handle_queue_drain me c) ≡ z = ap (λ (y : Acts). causing (ChunkSteps me q (Bytes b)) y) (drain-pulls me Readable type_error c n) in
      rw same (next z k.requests (k.close ∙ n))

  served : (qs : List ReadRequest) (a : Acts) → a.slots.stream.requests ≡ qs → a.slots.stream.close_requested ≡ false → IsServed (process_requests me qs a)
  served [] a r n = inr r
  served (q ∷ qs) a r n = served_by q qs a a.slots.queue refl n (served qs)

  accept_for-tidy : (b : List ℕ) (a : Acts) (qs : List ReadRequest) → qs ≡ a.slots.stream.requests → IsServed a → Tidy (accept_for me b a qs).slots
  accept_for-tidy b a [] e s = none-tidy (append b a).slots (sym e)
  accept_for-tidy b a (q ∷ qs) e (inl n) = empty-tidy (drop_first (with_requests qs a)).slots n
  accept_for-tidy b a (q ∷ qs) e (inr n) = let k : q ∷ qs ≡ [] = e ∙ n in absurd (cc)

  -- with a default reader
  record Kept (a b : Acts) : Type 0 where
    default : has_default_reader b.slots ≡ has_default_reader a.slots
    close : b.slots.stream.close_requested ≡ a.slots.stream.close_requested

  detach-kept : (a : Acts) (ds : List Descriptor) → Kept a (detach_first a ds)
  detach-kept a [] = record { default = refl; close = refl }
  detach-kept a (d ∷ ds) = record { default = refl; close = refl }

  renounce-kept : (a : Acts) (ds : List Descriptor) → Kept a (renounce a ds)
  renounce-kept a [] = record { default = refl; close = refl }
  renounce-kept a (d ∷ ds) =
      either (Kept a) (is_for_nobody d.room_kind) (detached_to_queue (invalidate_request a)) (invalidate_request a)
      (λ c. let k = detach-kept (invalidate_request a) a.slots.descriptors in record { default = k.default; close = k.close }) (λ c. record { default = refl; close = refl })

  accept-tidy : (b : List ℕ) (a : Acts) → has_default_reader a.slots ≡ true → a.slots.stream.close_requested ≡ false → Tidy (accept me b a).slots
  accept-tidy b a d n =
      let c : Acts = process_requests me a.slots.stream.requests a in
      rw d (accept_for-tidy b c c.slots.stream.requests refl (served a.slots.stream.requests a refl n))

  not_asked : (c d : Bool) → not c && d ≡ true → c ≡ false
  not_asked true d e = cc
  not_asked false d e = refl

  enqueue-tidy : (b : List ℕ) (a : Acts) → has_default_reader a.slots ≡ true → Tidy a.slots → Tidy (controller_enqueue me b a).slots
  unfolding controller_enqueue
  enqueue-tidy b a d t =
      let z : Acts = renounce a a.slots.descriptors in
      let k : Kept a z = renounce-kept a a.slots.descriptors in
      either (λ (y : Acts). Tidy y.slots) (can_take a.slots) (call_pull_if_needed me (accept me b z)) a
      (λ c. pull-tidy (accept me b z) (accept-tidy b z (k.default ∙ d) (k.close ∙ not_asked a.slots.stream.close_requested (readable.is_readable a.slots.stream.state) c))) (λ c. t)

  -- a close
  close_by-tidy : (a : Acts) (queue : List (List ℕ)) → Tidy a.slots → Tidy (close_by me a queue).slots
  close_by-tidy a (b ∷ bs) t = t
  close_by-tidy a [] t = either (λ (y : Acts). Tidy y.slots) (has_part a.slots.descriptors) (controller_error me type_error a) (stream_close me a) (λ c. error-tidy type_error a t) (λ c. close-tidy a)

  finish-tidy : (a : Acts) → Tidy a.slots → Tidy (controller_close me a).slots
  unfolding controller_close
  finish-tidy a t = either (λ (y : Acts). Tidy y.slots) (can_take a.slots) (close_by me a a.slots.queue) a (λ c. close_by-tidy a a.slots.queue t) (λ c. t)

  -- reads

  allocate-does : (a : Acts) (n : ℕ) → (auto_allocate a n).slots.queue ≡ a.slots.queue
  allocate-does a zero = refl
  allocate-does a (suc n) = refl

  from-tidy : (q : ReadRequest) (a : Acts) (queue : List (List ℕ)) → queue ≡ a.slots.queue → (queue ≢ [] → a.slots.stream.requests ≡ []) → Tidy (pull_from me q a queue).slots
  from-tidy q a [] e n =
      let c : Acts = auto_allocate a a.slots.auto in pull-tidy (wait q c) (empty-tidy (wait q c).slots (allocate-does a a.slots.auto ∙ sym e))
  from-tidy q a (b ∷ bs) e n = drain-tidy (with_slots (record a.slots { queue = bs }) a) (n (λ k. cc))

  by-tidy : (q : ReadRequest) (a : Acts) (state : ReadableState) → state ≡ a.slots.stream.state → may_read a.slots ≡ true → Tidy a.slots → Tidy (read_by me q a state).slots
  unfolding pull_steps
  by-tidy q a Readable s m t = from-tidy q a a.slots.queue refl (λ n. t (live_default a.slots.stream.state (has_default_reader a.slots) m (sym s)) (sym s) n)
  by-tidy q a Closed s m t = t
  by-tidy q a Errored s m t = t

  read-tidy : (q : ReadRequest) (a : Acts) → may_read a.slots ≡ true → Tidy a.slots → Tidy (read me q a).slots
  unfolding read default_reader_read readable.disturb
  read-tidy q a m t =
      either (λ (y : Acts). Tidy y.slots) (is_of_tee q) a (if_meant (may_read a.slots) (default_reader_read me q a) a) (λ e. t)
      (λ e. rw m (by-tidy q (in_stream readable.disturb a) a.slots.stream.state refl m t))

  -- responses

  detach-requests : (a : Acts) (ds : List Descriptor) → (detach_first a ds).slots.stream.requests ≡ a.slots.stream.requests
  detach-requests a [] = refl
  detach-requests a (d ∷ ds) = refl

  commit_to-queue : (b : List ℕ) (a : Acts) (qs : List ReadRequest) → qs ≢ [] → (commit_to me b a qs).slots.queue ≡ a.slots.queue
  commit_to-queue b a [] n = absurd (n refl)
  commit_to-queue b a (q ∷ qs) n = refl

  -- a room with elements of one byte leaves no part of one
  full-tidy : (d : Descriptor) (a : Acts) (rs : List ReadRequest) → rs ≡ a.slots.stream.requests → d.element ≡ 1 → (rs ≢ [] → a.slots.queue ≡ []) → Tidy (respond_full me d a).slots
  full-tidy d a [] r e n =
      let kept : ℕ = length d.filled - (length d.filled % d.element) in
      let b : Acts = append (drop kept d.filled) (drop_first a) in
      let x : Processed = processed_of b in
      let y : Descriptor = record d { filled = take kept d.filled } in
      none-tidy (respond_full me d a).slots (commits-none x.ready (commit me y (put_processed x b)) (commit_to-none y.filled (put_processed x b) a.slots.stream.requests refl (sym r)))
  full-tidy d a (q ∷ qs) r e n =
      let kept : ℕ = length d.filled - (length d.filled % d.element) in
      let b : Acts = append (drop kept d.filled) (drop_first a) in
      let x : Processed = processed_of b in
      let y : Descriptor = record d { filled = take kept d.filled } in
      let empty : b.slots.queue ≡ [] = ap (λ (c : List ℕ). append_bytes c a.slots.queue) (no_part d.filled d.element e) ∙ n (λ k. cc) in
      let none = nothing_processed b.slots.descriptors b.slots.queue empty in
      let waits : a.slots.stream.requests ≢ [] = λ k. let z : q ∷ qs ≡ [] = r ∙ k in cc in
      empty-tidy (respond_full me d a).slots
      (ap (λ (ds : List Descriptor). (commit_all me ds (commit me y (put_processed x b))).slots.queue) none.0 ∙ (commit_to-queue y.filled (put_processed x b) a.slots.stream.requests waits ∙ none.1))

  readable-tidy : (d : Descriptor) (a : Acts) → (is_for_nobody d.room_kind ≡ true → a.slots.stream.requests ≡ []) → (is_for_nobody d.room_kind ≡ false → d.element ≡ 1) → (a.slots.stream.requests ≢ [] → a.slots.queue ≡ []) → Tidy a.slots → Tidy (respond_readable me d a).slots
  readable-tidy d a none one empty t =
      let z : Acts = put_first d a in
      either (λ (y : Acts). Tidy y.slots) (is_for_nobody d.room_kind) (process_and_commit me (detached_to_queue z)) (if nat_lt (length d.filled) d.minimum then z else respond_full me d a)
      (λ c. none-tidy (process_and_commit me (detached_to_queue z)).slots (process-none (detached_to_queue z) (detach-requests z z.slots.descriptors ∙ none c)))
      (λ c. either (λ (y : Acts). Tidy y.slots) (nat_lt (length d.filled) d.minimum) z (respond_full me d a) (λ e. t) (λ e. full-tidy d a a.slots.stream.requests refl (one c) empty))

  -- of a readable stream
  first-tidy : (b : List ℕ) (a : Acts) (ds : List Descriptor) → a.slots.stream.state ≡ Readable → (first_is_for_nobody ds ≡ true → a.slots.stream.requests ≡ []) → (first_is_for_nobody ds ≡ false → AllBytes ds) → (a.slots.stream.requests ≢ [] → a.slots.queue ≡ []) → Tidy a.slots → Tidy (respond_first me b a ds).slots
  first-tidy b a [] s none one empty t = t
  first-tidy b a (d ∷ ds) s none one empty t =
      let y : Descriptor = record d { filled = d.filled ++ b } in
      either (λ (z : Acts). Tidy z.slots) (is_closed a.slots.stream.state) (respond_closed me d a) (call_pull_if_needed me (respond_readable me y a))
      (λ c. absurd (open_not a.slots.stream.state s c)) (λ c. pull-tidy (respond_readable me y a) (readable-tidy y a none one empty t))

  -- a reader comes or goes

  meant-tidy : (c : Bool) (b a : Acts) → (c ≡ true → Tidy b.slots) → Tidy a.slots → Tidy (if_meant c b a).slots
  meant-tidy true b a f t = f refl
  meant-tidy false b a f t = t

  initialize-tidy : (kind : ReaderKind) (p : PromiseId) (a : Acts) → Tidy a.slots → Tidy (reader_initialize kind p a).slots
  unfolding reader_initialize readable.reader_generic_initialize
  initialize-tidy kind p a t =
      let b : Acts = in_stream (readable.reader_generic_initialize p) (with_slots (record a.slots { reader_kind = kind }) a) in
      meant-tidy (is_none a.slots.stream.reader) b a (λ c. none-tidy b.slots refl) t

  -- who has the stream is looked at
  looked : (x y : Slots) → look y ≡ look x → has_default_reader y ≡ has_default_reader x
  looked x y e = ap (λ (l : Look). l.locked && not (is_byob l.kind)) e

  release-tidy : (a : Acts) → Tidy (reader_release me a).slots
  release-tidy a = other-tidy (reader_release me a).slots (ap (λ (l : Look). l.locked && not (is_byob l.kind)) (release-look me a))

  -- cancels

  into-closed : (a : Acts) → a.slots.stream.state ≡ Closed → (close_into me a).slots.stream.state ≡ Closed
  into-closed a c = either (λ (b : Acts). b.slots.stream.state ≡ Closed) (has_byob_reader a.slots) _ a (λ d. c) (λ d. c)

  cancelling : (r : Plain) (p : PromiseId) (a : Acts) (state : ReadableState) → Tidy a.slots → Tidy (cancel_by me r p a state).slots
  cancelling r p a Readable t =
      let z : Acts = close_into me (stream_close me a) in
      over-tidy (cancel_by me r p a Readable).slots (λ s. closed_not z.slots.stream.state (into-closed (stream_close me a) (close-closed me Readable type_error a)) s)
  cancelling r p a Closed t = t
  cancelling r p a Errored t = t

  cancel-tidy : (r : Plain) (p : PromiseId) (a : Acts) → Tidy a.slots → Tidy (stream_cancel me r p a).slots
  unfolding stream_cancel readable.disturb
  cancel-tidy r p a t = cancelling r p (in_stream readable.disturb a) a.slots.stream.state t

  ended-tidy : (a : Acts) (again : Bool) → Tidy a.slots → Tidy (pull_ended me a again).slots
  ended-tidy a false t = t
  ended-tidy a true t = pull-tidy (with_slots (record a.slots { stream = record a.slots.stream { pull_again = false } }) a) t

  pub shared-tidy : (op : ReadableOperation) (a : Acts) → Finds op a.slots → Tidy a.slots → Tidy (byte_readable_operation me op a).slots
  unfolding start_settled pull_settled cancel_if_readable readable.disturb
  shared-tidy (names.InitializeReader p) a f t = initialize-tidy Default p a t
  shared-tidy names.ReleaseReader a f t = release-tidy a
  shared-tidy names.Disturb a f t = t
  shared-tidy (names.Read q) a f t = read-tidy q a f.0 t
  shared-tidy (names.Cancel r p) a f t = cancel-tidy r p a t
  shared-tidy (names.CancelIfReadable r p) a f t = either (λ (y : Acts). Tidy y.slots) (readable.is_readable a.slots.stream.state) (stream_cancel me r p a) _ (λ c. cancel-tidy r p a t) (λ c. t)
  shared-tidy (names.Enqueue v) a f t = t
  shared-tidy names.Close a f t = finish-tidy a t
  shared-tidy (names.Error e) a f t = error-tidy e a t
  shared-tidy (names.StartSettled (Ok v)) a f t = pull-tidy (with_slots (record a.slots { stream = record a.slots.stream { started = true } }) a) t
  shared-tidy (names.StartSettled (Err e)) a f t = error-tidy e a t
  shared-tidy (names.PullSettled (Ok v)) a f t = ended-tidy (with_slots (record a.slots { stream = record a.slots.stream { pulling = false } }) a) a.slots.stream.pull_again t
  shared-tidy (names.PullSettled (Err e)) a f t = error-tidy e a t

  -- the operations of a byte controller

  -- beside a default reader the first room is one that was allocated, or for nobody
  first_bytes : (ds : List Descriptor) (queue : List (List ℕ)) (n : ℕ) → Good ForDefault ds queue n → first_is_for_nobody ds ≡ false → AllBytes ds
  first_bytes [] queue n g e = tt
  first_bytes (d ∷ ds) queue n g e = by d.room_kind refl g.2
    where
      by : (k : RoomKind) → k ≡ d.room_kind → First k ForDefault d.filled (length ds) queue n → d.element ≡ 1
      by ForDefault i f = g.0.element (sym i)
      by ForByob i f = absurd (byobs_default f.0)
      by ForNobody i f = absurd (nobody d.room_kind (sym i) e)

  unspilled : (state : ReadableState) (nobody : Bool) (rs : List ReadRequest) → readable.is_readable state && (nobody && not (is_empty rs)) ≡ false → state ≡ Readable → nobody ≡ true → rs ≡ []
  unspilled Readable true [] e s n = refl
  unspilled Readable true (r ∷ rs) e s n = absurd (cc)
  unspilled Readable false rs e s n = absurd (cc)
  unspilled Closed nobody rs e s n = absurd (cc)
  unspilled Errored nobody rs e s n = absurd (cc)

  or_empty : (queue : List (List ℕ)) (rs : List ReadRequest) → (queue ≢ [] → rs ≡ []) → rs ≢ [] → queue ≡ []
  or_empty [] rs t n = refl
  or_empty (b ∷ bs) rs t n = absurd (n (t (λ e. cc)))

  respond-tidy : (b : List ℕ) (a : Acts) → has_default_reader a.slots ≡ true → a.slots.stream.state ≡ Readable → Held a.slots → spills (own.Respond b) a.slots ≡ false → Tidy a.slots → Tidy (respond me b a).slots
  unfolding respond
  respond-tidy b a d s held free t =
      let good : Good ForDefault a.slots.descriptors a.slots.queue (length a.slots.stream.requests) = rw (default_reads a.slots.stream.reader a.slots.reader_kind d) at (held.readable s) in
      meant-tidy (may_respond (length b) a.slots) (respond_internal me b a) a
      (λ c. first-tidy b (invalidate_request a) a.slots.descriptors s
      (λ n. unspilled a.slots.stream.state (first_is_for_nobody a.slots.descriptors) a.slots.stream.requests free s n)
      (λ n. first_bytes a.slots.descriptors a.slots.queue (length a.slots.stream.requests) good n)
      (or_empty a.slots.queue a.slots.stream.requests (t d s)) t) t

  -- a response leaves who has the stream
  unmeant : (b : List ℕ) (a : Acts) → may_respond (length b) a.slots ≡ false → Tidy a.slots → Tidy (respond me b a).slots
  unfolding respond
  unmeant b a m t = rw m t

  respond_by : (b : List ℕ) (a : Acts) (state : ReadableState) (d m : Bool) → state ≡ a.slots.stream.state → d ≡ has_default_reader a.slots → m ≡ may_respond (length b) a.slots → Held a.slots
      → (a.slots.stream.state ≢ Readable → (respond me b a).slots.stream.state ≡ a.slots.stream.state) → spills (own.Respond b) a.slots ≡ false → Tidy a.slots → Tidy (respond me b a).slots
  respond_by b a Readable true m s d k held stays free t = respond-tidy b a (sym d) (sym s) held free t
  respond_by b a Readable false true s d k held stays free t =
      other-tidy (respond me b a).slots (looked a.slots (respond me b a).slots (byte-look me (own.Respond b) a tt (sym k)) ∙ sym d)
  respond_by b a Readable false false s d k held stays free t = unmeant b a (sym k) t
  respond_by b a Closed d m s e k held stays free t =
      over-tidy (respond me b a).slots (λ r. closed_not a.slots.stream.state (sym s) (sym (stays (λ n. closed_not a.slots.stream.state (sym s) n)) ∙ r))
  respond_by b a Errored d m s e k held stays free t =
      over-tidy (respond me b a).slots (λ r. erred_not a.slots.stream.state (sym s) (sym (stays (λ n. erred_not a.slots.stream.state (sym s) n)) ∙ r))

  enqueue_by : (b : List ℕ) (a : Acts) (d : Bool) → d ≡ has_default_reader a.slots → Tidy a.slots → Tidy (controller_enqueue me b a).slots
  enqueue_by b a true d t = enqueue-tidy b a (sym d) t
  enqueue_by b a false d t = other-tidy (controller_enqueue me b a).slots (looked a.slots (controller_enqueue me b a).slots (byte-look me (own.Enqueue b) a tt tt) ∙ sym d)

  pub own-tidy : (op : ByteOperation) (a : Acts) → IsOwnFree op a.slots → IsByobs me a.slots.stream.state a.slots.stream.stored_error op a.slots → Held a.slots
      → (a.slots.stream.state ≢ Readable → (byte_operation me op a).slots.stream.state ≡ a.slots.stream.state) → spills op a.slots ≡ false → Tidy a.slots → Tidy (byte_operation me op a).slots
  own-tidy (own.InitializeByobReader p) a f n held stays free t = initialize-tidy Byob p a t
  own-tidy (own.Enqueue b) a f n held stays free t = enqueue_by b a (has_default_reader a.slots) refl t
  own-tidy (own.PullInto room element minimum q) a f n held stays free t =
      let z : Acts = byte_operation me (own.PullInto room element minimum q) a in
      other-tidy z.slots (looked a.slots z.slots (byte-look me (own.PullInto room element minimum q) a tt f.0) ∙ n)
  own-tidy (own.MakeRequest q) a f n held stays free t = t
  own-tidy (own.Respond b) a f n held stays free t = respond_by b a a.slots.stream.state (has_default_reader a.slots) (may_respond (length b) a.slots) refl refl refl held stays free t
