-- The reader of a byte stream, its kind, and the mark of what isn't meant, after an operation: a reader comes and goes by two operations alone.
use Rattle.std.proofs.Common.{◌≡◌, ℕ, Bool, true, false, ◌&&◌, is_some, if◌then◌else◌, List, [], ◌∷◌, ◌++◌, length, take, drop, Option, Some, None, Ok, Err, refl, sym, ap, ◌∙◌}
use Rattle.std.specs.Prelude.{nat_lt, ◌-◌, ◌%◌, suc, zero, is_none}
use Rattle.ws_value.specs.declared.ids.PromiseId.{PromiseId}
use Rattle.ws_value.specs.declared.ids.StreamId.{StreamId}
use Rattle.ws_value.specs.declared.value.Plain.{Plain}
use Rattle.ws_value.specs.declared.value.Value.TheVariants.{Bytes}
use Rattle.ws_steps.specs.declared.byte.ByteOperation.{ByteOperation}
use Rattle.ws_steps.specs.declared.byte.ByteOperation.TheVariants as own_names
use Rattle.ws_steps.specs.declared.byte.ReaderKind.{ReaderKind}
use Rattle.ws_steps.specs.declared.byte.ReaderKind.TheVariants.{Default, Byob}
use Rattle.ws_steps.specs.declared.byte.RoomKind.TheVariants.{ForByob}
use Rattle.ws_steps.specs.declared.effects.Effect.TheVariants.{ChunkSteps, ErrorSteps}
use Rattle.ws_steps.specs.declared.{readable.ReadRequest.{ReadRequest}, readable.ReadableOperation.{ReadableOperation}}
use Rattle.ws_steps.specs.declared.readable.ReadableOperation.TheVariants as names
use Rattle.ws_steps.specs.declared.{readable.ReadableState.{ReadableState}, readable.ReadableState.TheVariants.{Readable, Closed, Errored}}
use Rattle.ws_steps.specs.Bytes as byte
use Rattle.ws_steps.specs.Bytes.{Slots, Acts}
use Rattle.ws_steps.specs.Descriptors.{Descriptor, is_for_nobody, has_part, Filling, fill_from_queue, Processed}
use Rattle.ws_steps.specs.Effects.{type_error}
use Rattle.ws_steps.specs.Operations.{byte_readable_operation, byte_operation}
use Rattle.ws_steps.specs.Readable as readable
use Rattle.ws_laws.proofs.Tables.{either}
use Rattle.ws_read_laws.proofs.Line.{has_after}

-- whether there is a reader, of which kind, and whether the stream is marked
pub record Look : Type 0 where
  pub locked : Bool
  pub kind : ReaderKind
  pub astray : Bool

abbrev pub look : Slots → Look
look s = record { locked = is_some s.stream.reader; kind = s.reader_kind; astray = s.astray }

abbrev pub Same : Acts → Acts → Type 0
Same a b = look b.slots ≡ look a.slots

module _ (me : StreamId) where
  pull-same : (a : Acts) → Same a (byte.call_pull_if_needed me a)
  unfolding byte.call_pull_if_needed
  pull-same a =
      either (Same a) (byte.should_call_pull a.slots) (byte.in_stream (readable.call_pull me) a) a
      (λ e. either (λ (b : readable.Acts). Same a (byte.in_stream (λ c. b) a)) a.slots.stream.pulling _ _ (λ f. refl) (λ f. refl)) (λ e. refl)

  close-by : (a : Acts) (reader : Option PromiseId) → reader ≡ a.slots.stream.reader → Same a (byte.in_stream (λ b. readable.close_reader me (record b { slots = record b.slots { state = Closed } }) reader) a)
  close-by a None is = refl
  close-by a (Some c) is = refl

  keep-by : (a : Acts) (reader : Option PromiseId) → Same a (byte.in_stream (λ b. byte.close_keeping (record b { slots = record b.slots { state = Closed } }) reader) a)
  keep-by a None = refl
  keep-by a (Some c) = refl

  close-same : (a : Acts) → Same a (byte.stream_close me a)
  unfolding byte.stream_close readable.stream_close
  close-same a =
      either (Same a) (byte.has_byob_reader a.slots) (byte.in_stream byte.close_stream_keeping a) (byte.in_stream (readable.stream_close me) a)
      (λ e. keep-by a a.slots.stream.reader) (λ e. close-by a a.slots.stream.reader refl)

  erred-by : (e : Plain) (a : Acts) (reader : Option PromiseId) → Same a (byte.in_stream (λ b. readable.error_reader me e (record b { slots = record b.slots { state = Errored; stored_error = e } }) reader) (byte.clear_all a))
  erred-by e a None = refl
  erred-by e a (Some c) = refl

  error-same : (e : Plain) (a : Acts) → Same a (byte.controller_error me e a)
  unfolding byte.controller_error readable.stream_error
  error-same e a =
      either (Same a) (readable.is_readable a.slots.stream.state) (byte.in_stream (readable.stream_error me e) (byte.clear_all a)) a
      (λ r. erred-by e a a.slots.stream.reader) (λ r. refl)

  drain-same : (a : Acts) → Same a (byte.handle_queue_drain me a)
  unfolding byte.handle_queue_drain
  drain-same a = either (Same a) _ (byte.stream_close me a) (byte.call_pull_if_needed me a) (λ e. close-same a) (λ e. pull-same a)

  commit-same : (b : List ℕ) (a : Acts) (rs : List ReadRequest) → Same a (byte.commit_to me b a rs)
  commit-same b a [] = refl
  commit-same b a (q ∷ qs) = refl

  commit_all-same : (ds : List Descriptor) (a : Acts) → Same a (byte.commit_all me ds a)
  commit_all-same [] a = refl
  commit_all-same (d ∷ ds) a = commit_all-same ds (byte.commit me d a) ∙ commit-same d.filled a a.slots.stream.requests

  process-same : (a : Acts) → Same a (byte.process_and_commit me a)
  process-same a = let x : Processed = byte.processed_of a in commit_all-same x.ready (byte.put_processed x a)

  detach-same : (a : Acts) (ds : List Descriptor) → Same a (byte.detach_first a ds)
  detach-same a [] = refl
  detach-same a (d ∷ ds) = refl

  renounce-same : (a : Acts) (ds : List Descriptor) → Same a (byte.renounce a ds)
  renounce-same a [] = refl
  renounce-same a (d ∷ ds) =
      let z : Acts = byte.invalidate_request a in
      either (Same a) (is_for_nobody d.room_kind) (byte.detached_to_queue z) z (λ e. detach-same z z.slots.descriptors) (λ e. refl)

  accept_for-same : (b : List ℕ) (a : Acts) (rs : List ReadRequest) → Same a (byte.accept_for me b a rs)
  accept_for-same b a [] = refl
  accept_for-same b a (q ∷ qs) = refl

  requests-by : (q : ReadRequest) (qs : List ReadRequest) (a : Acts) (queue : List (List ℕ)) → ((c : Acts) → Same c (byte.process_requests me qs c))
      → Same a (elim queue [ [] ↦ a | b ∷ bs ↦ byte.process_requests me qs (byte.fill_read_request me q (byte.with_requests qs a) (b ∷ bs)) ])
  requests-by q qs a [] more = refl
  requests-by q qs a (b ∷ bs) more =
      let z : Acts = byte.with_slots (record (byte.with_requests qs a).slots { queue = bs }) a in
      let c : Acts = byte.causing (ChunkSteps me q (Bytes b)) (byte.handle_queue_drain me z) in more c ∙ drain-same z

  requests-same : (rs : List ReadRequest) (a : Acts) → Same a (byte.process_requests me rs a)
  requests-same [] a = refl
  requests-same (q ∷ qs) a = requests-by q qs a a.slots.queue (λ c. requests-same qs c)

  accept-same : (b : List ℕ) (a : Acts) → Same a (byte.accept me b a)
  accept-same b a =
      let c : Acts = byte.process_requests me a.slots.stream.requests a in
      either (Same a) (byte.has_default_reader a.slots) (byte.accept_default me b a) (if byte.has_byob_reader a.slots then byte.process_and_commit me (byte.append b a) else byte.append b a)
      (λ e. accept_for-same b c c.slots.stream.requests ∙ requests-same a.slots.stream.requests a)
      (λ e. either (Same a) (byte.has_byob_reader a.slots) (byte.process_and_commit me (byte.append b a)) (byte.append b a) (λ f. process-same (byte.append b a)) (λ f. refl))

  enqueue-same : (b : List ℕ) (a : Acts) → Same a (byte.controller_enqueue me b a)
  unfolding byte.controller_enqueue
  enqueue-same b a =
      let z : Acts = byte.renounce a a.slots.descriptors in
      either (Same a) (byte.can_take a.slots) (byte.call_pull_if_needed me (byte.accept me b z)) a
      (λ can. pull-same (byte.accept me b z) ∙ (accept-same b z ∙ renounce-same a a.slots.descriptors)) (λ cannot. refl)

  -- reads

  allocate-same : (a : Acts) (n : ℕ) → Same a (byte.auto_allocate a n)
  allocate-same a zero = refl
  allocate-same a (suc n) = refl

  from-same : (q : ReadRequest) (a : Acts) (queue : List (List ℕ)) → Same a (byte.pull_from me q a queue)
  from-same q a [] = let c : Acts = byte.auto_allocate a a.slots.auto in pull-same (byte.wait q c) ∙ allocate-same a a.slots.auto
  from-same q a (b ∷ bs) = drain-same (byte.with_slots (record a.slots { queue = bs }) a)

  read-same : (q : ReadRequest) (a : Acts) (state : ReadableState) → Same a (byte.read_by me q a state)
  unfolding byte.pull_steps
  read-same q a Readable = from-same q a a.slots.queue
  read-same q a Closed = refl
  read-same q a Errored = refl

  filled-same : (q : ReadRequest) (a : Acts) (y : Filling) (ready : Bool) → ready ≡ y.ready → Same a (byte.pull_filled me q a y)
  filled-same q a y true is = rw (← is) (drain-same (byte.put_queue y.queue a))
  filled-same q a y false is =
      let z : Acts = byte.put_queue y.queue a in
      let c : Acts = byte.pull_waits y.descriptor q z in
      rw (← is)
      (either (Same a) a.slots.stream.close_requested (byte.causing (ErrorSteps me q type_error) (byte.controller_error me type_error z)) (byte.call_pull_if_needed me c)
      (λ e. error-same type_error z) (λ e. pull-same c))

  from_queue-same : (d : Descriptor) (q : ReadRequest) (a : Acts) (queue : List (List ℕ)) → Same a (byte.pull_from_queue me d q a queue)
  from_queue-same d q a [] = pull-same (byte.pull_waits d q a)
  from_queue-same d q a (b ∷ bs) = filled-same q a (fill_from_queue d (b ∷ bs)) (fill_from_queue d (b ∷ bs)).ready refl

  first-same : (d : Descriptor) (q : ReadRequest) (a : Acts) (ds : List Descriptor) → Same a (byte.pull_first me d q a ds)
  first-same d q a (y ∷ ys) = refl
  first-same d q a [] = either (Same a) (byte.is_closed a.slots.stream.state) _ (byte.pull_from_queue me d q a a.slots.queue) (λ c. refl) (λ c. from_queue-same d q a a.slots.queue)

  byob-same : (d : Descriptor) (q : ReadRequest) (a : Acts) → Same a (byte.byob_reader_read me d q a)
  unfolding byte.byob_reader_read byte.pull_into readable.disturb
  byob-same d q a =
      let b : Acts = byte.in_stream readable.disturb a in
      either (Same a) (byte.is_errored a.slots.stream.state) _ (byte.pull_first me d q b a.slots.descriptors) (λ e. refl) (λ e. first-same d q b a.slots.descriptors)

  -- responses

  closed-same : (d : Descriptor) (a : Acts) → Same a (byte.respond_closed me d a)
  closed-same d a =
      let b : Acts = if is_for_nobody d.room_kind then byte.drop_first a else a in
      let same : Same a b = either (Same a) (is_for_nobody d.room_kind) (byte.drop_first a) a (λ e. refl) (λ e. refl) in
      let n : ℕ = length b.slots.stream.requests in
      either (Same a) (byte.has_byob_reader b.slots) (byte.commit_first me n b) b
      (λ e. commit_all-same (take n b.slots.descriptors) (byte.with_slots (record b.slots { descriptors = drop n b.slots.descriptors }) b) ∙ same) (λ e. same)

  full-same : (d : Descriptor) (a : Acts) → Same a (byte.respond_full me d a)
  full-same d a =
      let kept : ℕ = length d.filled - (length d.filled % d.element) in
      let b : Acts = byte.append (drop kept d.filled) (byte.drop_first a) in
      let x : Processed = byte.processed_of b in
      let c : Acts = byte.put_processed x b in
      let e : Descriptor = record d { filled = take kept d.filled } in
      commit_all-same x.ready (byte.commit me e c) ∙ commit-same e.filled c c.slots.stream.requests

  respond_readable-same : (d : Descriptor) (a : Acts) → Same a (byte.respond_readable me d a)
  respond_readable-same d a =
      let z : Acts = byte.put_first d a in
      either (Same a) (is_for_nobody d.room_kind) (byte.process_and_commit me (byte.detached_to_queue z)) (if nat_lt (length d.filled) d.minimum then z else byte.respond_full me d a)
      (λ e. process-same (byte.detached_to_queue z) ∙ detach-same z z.slots.descriptors)
      (λ e. either (Same a) (nat_lt (length d.filled) d.minimum) z (byte.respond_full me d a) (λ f. refl) (λ f. full-same d a))

  respond-same : (b : List ℕ) (a : Acts) (ds : List Descriptor) → Same a (byte.respond_first me b a ds)
  respond-same b a [] = refl
  respond-same b a (d ∷ ds) =
      let y : Descriptor = record d { filled = d.filled ++ b } in
      either (Same a) (byte.is_closed a.slots.stream.state) (byte.respond_closed me d a) (byte.call_pull_if_needed me (byte.respond_readable me y a))
      (λ e. closed-same d a) (λ e. pull-same (byte.respond_readable me y a) ∙ respond_readable-same y a)

  -- closing and cancelling

  close_by-same : (a : Acts) (queue : List (List ℕ)) → Same a (byte.close_by me a queue)
  close_by-same a (b ∷ bs) = refl
  close_by-same a [] =
      either (Same a) (has_part a.slots.descriptors) (byte.controller_error me type_error a) (byte.stream_close me a) (λ p. error-same type_error a) (λ p. close-same a)

  into-same : (a : Acts) → Same a (byte.close_into me a)
  into-same a = either (Same a) (byte.has_byob_reader a.slots) _ a (λ e. refl) (λ e. refl)

  cancel-same : (r : Plain) (p : PromiseId) (a : Acts) (state : ReadableState) → Same a (byte.cancel_by me r p a state)
  cancel-same r p a Readable = into-same (byte.stream_close me a) ∙ close-same a
  cancel-same r p a Closed = refl
  cancel-same r p a Errored = refl

  ended-same : (a : Acts) (again : Bool) → Same a (byte.pull_ended me a again)
  ended-same a false = refl
  ended-same a true = pull-same (byte.with_slots (record a.slots { stream = record a.slots.stream { pull_again = false } }) a)

  -- a reader goes
  release-by : (a : Acts) (reader : Option PromiseId) → reader ≡ a.slots.stream.reader
      → look (byte.in_stream (λ b. readable.release_by me b reader) a).slots ≡ record { locked = false; kind = a.slots.reader_kind; astray = a.slots.astray }
  release-by a None is = rw (← is) refl
  release-by a (Some c) is = refl

  pub release-look : (a : Acts) → look (byte.reader_release me a).slots ≡ record { locked = false; kind = a.slots.reader_kind; astray = a.slots.astray }
  unfolding byte.reader_release readable.reader_release
  release-look a = release-by (byte.release_steps a) a.slots.stream.reader refl

  -- a reader comes, where there is none
  pub initialize-look : (kind : ReaderKind) (c : PromiseId) (a : Acts) → is_some a.slots.stream.reader ≡ false
      → look (byte.reader_initialize kind c a).slots ≡ record { locked = true; kind = kind; astray = a.slots.astray }
  unfolding byte.reader_initialize readable.reader_generic_initialize
  initialize-look kind c a none = by a.slots.stream.reader refl none
    where
      by : (reader : Option PromiseId) → reader ≡ a.slots.stream.reader → is_some reader ≡ false
          → look (byte.if_meant (is_none reader) (byte.in_stream (readable.reader_generic_initialize c) (byte.with_slots (record a.slots { reader_kind = kind }) a)) a).slots ≡ record { locked = true; kind = kind; astray = a.slots.astray }
      by None is n = refl
      by (Some p) is n = cc

  -- another operation that is meant leaves all three

  abbrev pub IsMeant : ReadableOperation → Slots → Type 0
  IsMeant (names.Read q) s = byte.may_read s ≡ true
  IsMeant _ s = Unit {0}

  abbrev pub IsNoReader : ReadableOperation → Type 0
  IsNoReader (names.InitializeReader c) = ⊥
  IsNoReader names.ReleaseReader = ⊥
  IsNoReader _ = Unit {0}

  pub byte_readable-look : (operation : ReadableOperation) (a : Acts) → IsNoReader operation → IsMeant operation a.slots → Same a (byte_readable_operation me operation a)
  unfolding readable.disturb byte.read byte.default_reader_read byte.stream_cancel byte.cancel_if_readable byte.controller_close byte.start_settled byte.pull_settled
  byte_readable-look (names.InitializeReader c) a n m = absurd n
  byte_readable-look names.ReleaseReader a n m = absurd n
  byte_readable-look names.Disturb a n m = refl
  byte_readable-look (names.Read q) a n m =
      either (Same a) (byte.is_of_tee q) a (byte.if_meant (byte.may_read a.slots) (byte.read_by me q (byte.in_stream readable.disturb a) a.slots.stream.state) a) (λ e. refl)
      (λ e. rw m (read-same q (byte.in_stream readable.disturb a) a.slots.stream.state))
  byte_readable-look (names.Cancel r p) a n m = cancel-same r p (byte.in_stream readable.disturb a) a.slots.stream.state
  byte_readable-look (names.CancelIfReadable r p) a n m =
      either (Same a) (readable.is_readable a.slots.stream.state) _ _ (λ e. cancel-same r p (byte.in_stream readable.disturb a) a.slots.stream.state) (λ e. refl)
  byte_readable-look (names.Enqueue x) a n m = refl
  byte_readable-look names.Close a n m = either (Same a) (byte.can_take a.slots) (byte.close_by me a a.slots.queue) a (λ e. close_by-same a a.slots.queue) (λ e. refl)
  byte_readable-look (names.Error e) a n m = error-same e a
  byte_readable-look (names.StartSettled (Ok x)) a n m = pull-same (byte.with_slots (record a.slots { stream = record a.slots.stream { started = true } }) a)
  byte_readable-look (names.StartSettled (Err e)) a n m = error-same e a
  byte_readable-look (names.PullSettled (Ok x)) a n m = ended-same (byte.with_slots (record a.slots { stream = record a.slots.stream { pulling = false } }) a) a.slots.stream.pull_again
  byte_readable-look (names.PullSettled (Err e)) a n m = error-same e a

  abbrev pub IsMeantBytes : ByteOperation → Slots → Type 0
  IsMeantBytes (own_names.PullInto room element minimum q) s = (byte.may_pull_into s && byte.is_least (length room) element minimum) ≡ true
  IsMeantBytes (own_names.Respond b) s = byte.may_respond (length b) s ≡ true
  IsMeantBytes _ s = Unit {0}

  abbrev pub IsNoByobReader : ByteOperation → Type 0
  IsNoByobReader (own_names.InitializeByobReader c) = ⊥
  IsNoByobReader _ = Unit {0}

  pub byte-look : (operation : ByteOperation) (a : Acts) → IsNoByobReader operation → IsMeantBytes operation a.slots → Same a (byte_operation me operation a)
  unfolding byte.read_into byte.respond
  byte-look (own_names.InitializeByobReader c) a n m = absurd n
  byte-look (own_names.Enqueue b) a n m = enqueue-same b a
  byte-look (own_names.PullInto room element minimum q) a n m =
      let d : Descriptor = record { filled = []; room = length room; minimum = minimum; element = element; room_kind = ForByob } in rw m (byob-same d q a)
  byte-look (own_names.MakeRequest q) a n m = refl
  byte-look (own_names.Respond b) a n m = rw m (respond-same b (byte.invalidate_request a) a.slots.descriptors)

  -- whether there is a reader, of operations that may not be meant

  meant-reader : (test : Bool) (b a : Acts) → is_some b.slots.stream.reader ≡ is_some a.slots.stream.reader → is_some (byte.if_meant test b a).slots.stream.reader ≡ is_some a.slots.stream.reader
  meant-reader true b a k = k
  meant-reader false b a k = refl

  read-reader : (q : ReadRequest) (a : Acts) → is_some (byte.read me q a).slots.stream.reader ≡ is_some a.slots.stream.reader
  unfolding byte.read byte.default_reader_read readable.disturb
  read-reader q a =
      either (λ (z : Acts). is_some z.slots.stream.reader ≡ is_some a.slots.stream.reader) (byte.is_of_tee q) a
      (byte.if_meant (byte.may_read a.slots) (byte.read_by me q (byte.in_stream readable.disturb a) a.slots.stream.state) a) (λ e. refl)
      (λ e. meant-reader (byte.may_read a.slots) (byte.read_by me q (byte.in_stream readable.disturb a) a.slots.stream.state) a (ap (λ (l : Look). l.locked) (read-same q (byte.in_stream readable.disturb a) a.slots.stream.state)))

  initialize-reader : (kind : ReaderKind) (c : PromiseId) (a : Acts) (reader : Option PromiseId) → reader ≡ a.slots.stream.reader → is_some (byte.reader_initialize kind c a).slots.stream.reader ≡ true
  unfolding byte.reader_initialize
  initialize-reader kind c a None is = ap (λ (l : Look). l.locked) (initialize-look kind c a (ap is_some (sym is)))
  initialize-reader kind c a (Some p) is = rw (← is) refl

  pub byte_readable-reader : (operation : ReadableOperation) (a : Acts) → is_some (byte_readable_operation me operation a).slots.stream.reader ≡ has_after operation (is_some a.slots.stream.reader)
  byte_readable-reader (names.InitializeReader c) a = initialize-reader Default c a a.slots.stream.reader refl
  byte_readable-reader names.ReleaseReader a = ap (λ (l : Look). l.locked) (release-look a)
  byte_readable-reader (names.Read q) a = read-reader q a
  byte_readable-reader operation a = ap (λ (l : Look). l.locked) (byte_readable-look operation a tt tt)

  abbrev pub has_after_bytes : ByteOperation → Bool → Bool
  has_after_bytes (own_names.InitializeByobReader c) locked = true
  has_after_bytes _ locked = locked

  pub byte-reader : (operation : ByteOperation) (a : Acts) → is_some (byte_operation me operation a).slots.stream.reader ≡ has_after_bytes operation (is_some a.slots.stream.reader)
  unfolding byte.read_into byte.respond
  byte-reader (own_names.InitializeByobReader c) a = initialize-reader Byob c a a.slots.stream.reader refl
  byte-reader (own_names.PullInto room element minimum q) a =
      let d : Descriptor = record { filled = []; room = length room; minimum = minimum; element = element; room_kind = ForByob } in
      meant-reader (byte.may_pull_into a.slots && byte.is_least (length room) element minimum) (byte.byob_reader_read me d q a) a (ap (λ (l : Look). l.locked) (byob-same d q a))
  byte-reader (own_names.Respond b) a =
      meant-reader (byte.may_respond (length b) a.slots) (byte.respond_internal me b a) a (ap (λ (l : Look). l.locked) (respond-same b (byte.invalidate_request a) a.slots.descriptors))
  byte-reader operation a = ap (λ (l : Look). l.locked) (byte-look operation a tt tt)
