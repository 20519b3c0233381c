-- A byte stream that isn't readable stays what it is, and performs no chunk steps.
use Rattle.std.proofs.Common.{◌≡◌, ℕ, Bool, true, false, not, ◌&&◌, if◌then◌else◌, List, [], ◌∷◌, ◌++◌, length, take, drop, Option, slice_get, refl, sym, ap, ◌∙◌, append_assoc, append-nil, arith}
use Rattle.ws_laws.proofs.PortDoes.{PortCauses}
use Rattle.ws_steps.specs.declared.effects.Effect.TheVariants.{Port}
use Rattle.ws_value.specs.declared.ids.PortId.{PortId}
use Rattle.ws_value.specs.declared.ids.TeeId.{TeeId}
use Rattle.std.specs.Prelude.{is_none, Ok, Err}
use Rattle.ws_value.specs.declared.ids.PromiseId.{PromiseId}
use Rattle.ws_value.specs.declared.ids.StreamId.{StreamId}
use Rattle.ws_value.specs.declared.value.Plain.{Plain}
use Rattle.ws_value.specs.declared.value.Value.{Value}
use Rattle.ws_steps.specs.declared.byte.ByteOperation.{ByteOperation}
use Rattle.ws_steps.specs.declared.byte.ByteOperation.TheVariants as own
use Rattle.ws_steps.specs.declared.byte.ReaderKind.{ReaderKind}
use Rattle.ws_steps.specs.declared.byte.ReaderKind.TheVariants.{Default, Byob}
use Rattle.ws_steps.specs.declared.byte.RoomKind.TheVariants.{ForByob}
use Rattle.ws_steps.specs.declared.calls.Call.{Call}
use Rattle.ws_steps.specs.declared.effects.Effect.{Effect}
use Rattle.ws_steps.specs.declared.effects.Effect.TheVariants.{Readable as OnReadable, Byte, Writable, Pipe, Signal, Transform, Tee, StartAlgorithm, PullAlgorithm, CancelAlgorithm, WriteAlgorithm, CloseAlgorithm, AbortAlgorithm, ChunkSteps, CloseSteps, CloseStepsWith, ErrorSteps}
use Rattle.ws_steps.specs.declared.pipes.SignalOperation.{SignalOperation}
use Rattle.ws_steps.specs.declared.pipes.SignalOperation.TheVariants.{Add, Forget, Trigger}
use Rattle.ws_steps.specs.declared.promises.Job.{Job}
use Rattle.ws_steps.specs.declared.readable.ReadRequest.{ReadRequest}
use Rattle.ws_steps.specs.declared.readable.ReadRequest.TheVariants.{Promise, Pipe as PipeRequest, Tee as TeeRequest}
use Rattle.ws_steps.specs.declared.readable.ReadableOperation.{ReadableOperation}
use Rattle.ws_steps.specs.declared.readable.ReadableOperation.TheVariants as names
use Rattle.ws_steps.specs.declared.readable.ReadableState.{ReadableState}
use Rattle.ws_steps.specs.declared.readable.ReadableState.TheVariants.{Readable, Closed, Errored}
use Rattle.ws_steps.specs.declared.transform.TransformId.{TransformId}
use Rattle.ws_steps.specs.declared.writable.WritableOperation.{WritableOperation}
use Rattle.ws_steps.specs.Bytes as byte
use Rattle.ws_steps.specs.Bytes.{Acts, causing, in_stream, with_slots, if_meant}
use Rattle.ws_steps.specs.Calls.{begin}
use Rattle.ws_steps.specs.Descriptors.{Descriptor, is_for_nobody}
use Rattle.ws_steps.specs.Histories.{is_same, in_step, over}
use Rattle.ws_steps.specs.Jobs.{job_effects}
use Rattle.ws_steps.specs.Operations.{byte_readable_operation, byte_operation, writable_operation}
use Rattle.ws_steps.specs.Readable as readable
use Rattle.ws_steps.specs.Run.{Entry, run}
use Rattle.ws_steps.specs.Slots as realm
use Rattle.ws_steps.specs.Slots.{Stream, ByteStream, has_byte, byte_at, as_byte, is_byte_stream, with_promises}
use Rattle.ws_steps.specs.Turns.{row}
use Rattle.ws_laws.proofs.EachCall.{each_call}
use Rattle.ws_laws.proofs.Lists.{Each, each-append, each-map}
use Rattle.ws_laws.proofs.PipeDoes.{PipeCauses}
use Rattle.ws_laws.proofs.Apart.{row-streams, IsApart}
use Rattle.ws_laws.proofs.Causes.{ChunkCauses, EndCauses, ErrorCauses, SignalCauses, row-causes}
use Rattle.ws_laws.proofs.StaysBytes.{row-byte, begin-byte}
use Rattle.ws_laws.proofs.Tables.{either, same_id, byte_acts, on_byte-same, on_byte-other, on_source-byte, on_source-other, on_writable-look}
use Rattle.ws_laws.proofs.TransformDoes.{TransformCauses}
use Rattle.ws_laws.proofs.TeeDoes.{TeeCauses}
use Rattle.ws_laws.proofs.Walker.{IsHistory, GoesUntold, run-goes_untold}
use Rattle.ws_byte_laws.proofs.Sound.{All, IsSound, stays}
use Rattle.ws_byte_laws.proofs.Steps.{begin_at}

-- no chunk steps
abbrev IsNoChunk : Effect → Type 0
IsNoChunk (ChunkSteps j q v) = ⊥
IsNoChunk _ = Unit {0}

-- from a to b the stream stays what it is, and performs no chunk steps
record Rests (a b : Acts) : Type 0 where
  state : b.slots.stream.state ≡ a.slots.stream.state
  quiet : Each IsNoChunk a.out.effects → Each IsNoChunk b.out.effects

rests-same : (a : Acts) → Rests a a
rests-same a = record { state = refl; quiet = λ q. q }

rests-then : (a b c : Acts) → Rests a b → Rests b c → Rests a c
rests-then a b c f g = record { state = g.state ∙ f.state; quiet = λ q. g.quiet (f.quiet q) }

causes : (a : Acts) (e : Effect) → IsNoChunk e → Rests a (causing e a)
causes a e n = record { state = refl; quiet = λ q. each-append IsNoChunk a.out.effects (e ∷ []) q (n, tt) }

no_errors : (me : StreamId) (e : Plain) (rs : List ReadRequest) → Each IsNoChunk (readable.error_all me e rs)
no_errors me e [] = tt
no_errors me e (r ∷ rs) = (tt, no_errors me e rs)

not_ended : (state : ReadableState) → state ≡ Readable → readable.is_readable state ≡ false → ⊥
not_ended Readable e n = cc
not_ended Closed e n = cc
not_ended Errored e n = cc

taken : (state : ReadableState) (c : Bool) → readable.is_readable state ≡ false → not c && readable.is_readable state ≡ false
taken state c n = grind (arith, n)

module _ (me : StreamId) where
  abbrev HasEnded : Acts → Type 0
  HasEnded a = readable.is_readable a.slots.stream.state ≡ false

  pull-rests : (a : Acts) → Rests a (byte.call_pull_if_needed me a)
  unfolding byte.call_pull_if_needed
  pull-rests a = record { state = grind arith; quiet = λ q. grind (arith, q, each-append) }

  errs : (e : Plain) (a : Acts) → HasEnded a → Rests a (byte.controller_error me e a)
  unfolding byte.controller_error
  errs e a n = rw n (rests-same a)

  closes : (a : Acts) → HasEnded a → Rests a (byte.controller_close me a)
  unfolding byte.controller_close
  closes a n = let c = taken a.slots.stream.state a.slots.stream.close_requested n in rw c (rests-same a)

  enqueues : (b : List ℕ) (a : Acts) → HasEnded a → Rests a (byte.controller_enqueue me b a)
  unfolding byte.controller_enqueue
  enqueues b a n = let c = taken a.slots.stream.state a.slots.stream.close_requested n in rw c (rests-same a)

  meant : (c : Bool) (b a : Acts) → Rests a b → Rests a (if_meant c b a)
  meant true b a r = r
  meant false b a r = record { state = refl; quiet = λ q. q }

  reads : (q : ReadRequest) (a : Acts) (state : ReadableState) → state ≡ a.slots.stream.state → HasEnded a → Rests a (byte.read_by me q a state)
  reads q a Readable e n = absurd (not_ended a.slots.stream.state (sym e) n)
  reads q a Closed e n = causes a (CloseSteps me q) tt
  reads q a Errored e n = causes a (ErrorSteps me q a.slots.stream.stored_error) tt

  cancels : (r : Plain) (p : PromiseId) (a : Acts) (state : ReadableState) → state ≡ a.slots.stream.state → HasEnded a → Rests a (byte.cancel_by me r p a state)
  cancels r p a Readable e n = absurd (not_ended a.slots.stream.state (sym e) n)
  cancels r p a Closed e n = record { state = refl; quiet = λ q. q }
  cancels r p a Errored e n = record { state = refl; quiet = λ q. q }

  releases : (a : Acts) → Rests a (byte.reader_release me a)
  unfolding byte.reader_release readable.reader_release
  releases a = record { state = grind arith; quiet = λ q. grind (arith, q, each-append, no_errors) }

  initializes : (kind : ReaderKind) (p : PromiseId) (a : Acts) → Rests a (byte.reader_initialize kind p a)
  unfolding byte.reader_initialize readable.reader_generic_initialize
  initializes kind p a = meant (is_none a.slots.stream.reader) _ a (record { state = grind arith; quiet = λ q. grind (arith, q) })

  ends : (a : Acts) (again : Bool) → Rests a (byte.pull_ended me a again)
  ends a false = rests-same a
  ends a true = let r = pull-rests (with_slots (record a.slots { stream = record a.slots.stream { pull_again = false } }) a) in record { state = r.state; quiet = r.quiet }

  unless-tee : (q : ReadRequest) (a b : Acts) → Rests a b → Rests a (if byte.is_of_tee q then a else b)
  unless-tee q a b r = either (Rests a) (byte.is_of_tee q) a b (λ e. rests-same a) (λ e. r)

  shared : (op : ReadableOperation) (a : Acts) → HasEnded a → Rests a (byte_readable_operation me op a)
  unfolding byte.read byte.default_reader_read readable.disturb byte.stream_cancel byte.cancel_if_readable byte.start_settled byte.pull_settled
  shared (names.InitializeReader p) a n = initializes Default p a
  shared names.ReleaseReader a n = releases a
  shared names.Disturb a n = record { state = refl; quiet = λ q. q }
  shared (names.Read q) a n =
      let b : Acts = in_stream readable.disturb a in
      let r = reads q b a.slots.stream.state refl n in
      unless-tee q a (byte.if_meant (byte.may_read a.slots) (byte.read_by me q b a.slots.stream.state) a)
      (meant (byte.may_read a.slots) (byte.read_by me q b a.slots.stream.state) a (record { state = r.state; quiet = r.quiet }))
  shared (names.Cancel x p) a n = let r = cancels x p (in_stream readable.disturb a) a.slots.stream.state refl n in record { state = r.state; quiet = r.quiet }
  shared (names.CancelIfReadable x p) a n = rw n (record { state = refl; quiet = λ q. q })
  shared (names.Enqueue v) a n = rests-same a
  shared names.Close a n = closes a n
  shared (names.Error e) a n = errs e a n
  shared (names.StartSettled (Ok v)) a n = let r = pull-rests (with_slots (record a.slots { stream = record a.slots.stream { started = true } }) a) in record { state = r.state; quiet = r.quiet }
  shared (names.StartSettled (Err e)) a n = errs e a n
  shared (names.PullSettled (Ok v)) a n =
      let r = ends (with_slots (record a.slots { stream = record a.slots.stream { pulling = false } }) a) a.slots.stream.pull_again in record { state = r.state; quiet = r.quiet }
  shared (names.PullSettled (Err e)) a n = errs e a n

  -- responses to a closed stream

  commits : (b : List ℕ) (a : Acts) (rs : List ReadRequest) → a.slots.stream.state ≡ Closed → Rests a (byte.commit_to me b a rs)
  commits b a [] c = record { state = refl; quiet = λ q. q }
  commits b a (r ∷ rs) c =
      record { state = refl; quiet = λ q. each-append IsNoChunk a.out.effects (byte.commit_steps me b r a.slots.stream.state ∷ []) q (rw c tt, tt) }

  commits_all : (ds : List Descriptor) (a : Acts) → a.slots.stream.state ≡ Closed → Rests a (byte.commit_all me ds a)
  commits_all [] a c = rests-same a
  commits_all (d ∷ ds) a c =
      let r = commits d.filled a a.slots.stream.requests c in
      rests-then a (byte.commit me d a) (byte.commit_all me ds (byte.commit me d a)) r (commits_all ds (byte.commit me d a) (r.state ∙ c))

  commits_first : (n : ℕ) (a : Acts) → a.slots.stream.state ≡ Closed → Rests a (byte.commit_first me n a)
  commits_first n a c =
      let r = commits_all (take n a.slots.descriptors) (with_slots (record a.slots { descriptors = drop n a.slots.descriptors }) a) c in record { state = r.state; quiet = r.quiet }

  closed : (d : Descriptor) (a : Acts) → a.slots.stream.state ≡ Closed → Rests a (byte.respond_closed me d a)
  closed d a c =
      let b : Acts = if is_for_nobody d.room_kind then byte.drop_first a else a in
      let f : Rests a b = either (Rests a) (is_for_nobody d.room_kind) (byte.drop_first a) a (λ e. record { state = refl; quiet = λ q. q }) (λ e. rests-same a) in
      either (Rests a) (byte.has_byob_reader b.slots) (byte.commit_first me (length b.slots.stream.requests) b) b
      (λ e. rests-then a b (byte.commit_first me (length b.slots.stream.requests) b) f (commits_first (length b.slots.stream.requests) b (f.state ∙ c))) (λ e. f)

  responds : (b : List ℕ) (a : Acts) (ds : List Descriptor) → ds ≡ a.slots.descriptors → HasEnded a → (a.slots.stream.state ≡ Errored → a.slots.descriptors ≡ []) → Rests a (byte.respond_first me b a ds)
  responds b a [] e n dead = rests-same a
  responds b a (d ∷ ds) e n dead = by a.slots.stream.state refl
    where
      by : (state : ReadableState) → a.slots.stream.state ≡ state → Rests a (byte.respond_first me b a (d ∷ ds))
      by Readable s = absurd (not_ended a.slots.stream.state s n)
      by Closed s =
          either (Rests a) (byte.is_closed a.slots.stream.state) (byte.respond_closed me d a) _ (λ c. closed d a s) (λ c. let f : byte.is_closed Closed ≡ false = rw s at c in cc)
      by Errored s = let f : d ∷ ds ≡ [] = e ∙ dead s in cc

  pulls_into : (d : Descriptor) (q : ReadRequest) (a : Acts) (ds : List Descriptor) → HasEnded a → byte.is_errored a.slots.stream.state ≡ false → Rests a (byte.pull_first me d q a ds)
  pulls_into d q a (x ∷ xs) n e = record { state = refl; quiet = λ q. q }
  pulls_into d q a [] n e =
      either (Rests a) (byte.is_closed a.slots.stream.state) (causing (CloseStepsWith me q []) a) _ (λ c. causes a (CloseStepsWith me q []) tt)
      (λ c. absurd (neither a.slots.stream.state n e c))
    where
      neither : (state : ReadableState) → readable.is_readable state ≡ false → byte.is_errored state ≡ false → byte.is_closed state ≡ false → ⊥
      neither Readable n e c = cc
      neither Closed n e c = cc
      neither Errored n e c = cc

  reads_into : (d : Descriptor) (q : ReadRequest) (a : Acts) → HasEnded a → Rests a (byte.byob_reader_read me d q a)
  unfolding byte.byob_reader_read byte.pull_into readable.disturb
  reads_into d q a n =
      let b : Acts = in_stream readable.disturb a in
      either (Rests a) (byte.is_errored a.slots.stream.state) (causing (ErrorSteps me q a.slots.stream.stored_error) b) (byte.pull_first me d q b a.slots.descriptors)
      (λ e. let r = causes b (ErrorSteps me q a.slots.stream.stored_error) tt in record { state = r.state; quiet = r.quiet })
      (λ e. let r = pulls_into d q b a.slots.descriptors n e in record { state = r.state; quiet = r.quiet })

  alone : (op : ByteOperation) (a : Acts) → HasEnded a → (a.slots.stream.state ≡ Errored → a.slots.descriptors ≡ []) → Rests a (byte_operation me op a)
  unfolding byte.read_into byte.respond
  alone (own.InitializeByobReader p) a n dead = initializes Byob p a
  alone (own.Enqueue b) a n dead = enqueues b a n
  alone (own.PullInto room element minimum q) a n dead =
      let d : Descriptor = record { filled = []; room = length room; minimum = minimum; element = element; room_kind = ForByob } in
      meant (byte.may_pull_into a.slots && byte.is_least (length room) element minimum) (byte.byob_reader_read me d q a) a (reads_into d q a n)
  alone (own.MakeRequest q) a n dead = record { state = refl; quiet = λ q. q }
  alone (own.Respond b) a n dead =
      let r = responds b (byte.invalidate_request a) a.slots.descriptors refl n dead in
      meant (byte.may_respond (length b) a.slots) (byte.respond_internal me b a) a (record { state = r.state; quiet = r.quiet })

-- in a realm

-- no chunk steps of stream i
abbrev pub IsNoChunkOf : StreamId → Effect → Type 0
IsNoChunkOf i (ChunkSteps j q v) = is_same i j ≡ false
IsNoChunkOf i _ = Unit {0}

quiet-of : (i : StreamId) (e : Effect) → IsNoChunk e → IsNoChunkOf i e
quiet-of i (ChunkSteps j q v) n = absurd n
quiet-of i _ n = tt

module _ (i : StreamId) (state : ReadableState) (ended : readable.is_readable state ≡ false) where
  -- it is there, and in this state, which isn't readable
  abbrev pub HasEndedAt : realm.Slots → Type 0
  HasEndedAt s = (has_byte i s ≡ true) × ((byte_at i s).stream.state ≡ state)

  unreadable : (s : realm.Slots) → HasEndedAt s → readable.is_readable (byte_at i s).stream.state ≡ false
  unreadable s h = ap readable.is_readable h.1 ∙ ended

  chunk_of : (v : Value) (request : ReadRequest) → ChunkCauses (IsNoChunkOf i) v request
  chunk_of v (Promise p) = tt
  chunk_of v (PipeRequest p) = tt
  chunk_of v (TeeRequest t) = tt

  end_of : (request : ReadRequest) → EndCauses (IsNoChunkOf i) request
  end_of (Promise p) = tt
  end_of (PipeRequest p) = tt
  end_of (TeeRequest t) = tt

  error_of : (request : ReadRequest) → ErrorCauses (IsNoChunkOf i) request
  error_of (Promise p) = tt
  error_of (PipeRequest p) = tt
  error_of (TeeRequest t) = tt

  pipe_of : (p : _) (source dest : StreamId) (e : Effect) → PipeCauses p source dest e → IsNoChunkOf i e
  pipe_of p source dest (ChunkSteps j q v) c = absurd c
  pipe_of p source dest _ c = tt

  transform_of : (t : TransformId) (writable half : StreamId) (e : Effect) → TransformCauses t writable half e → IsNoChunkOf i e
  transform_of t writable half (ChunkSteps j q v) c = absurd c
  transform_of t writable half _ c = tt

  tee_of : (t : TeeId) (source first second : StreamId) (e : Effect) → TeeCauses t source first second e → IsNoChunkOf i e
  tee_of t source first second (ChunkSteps j q v) c = absurd c
  tee_of t source first second _ c = tt

  port_of : (c : PortId) (stream : StreamId) (e : Effect) → PortCauses c stream e → IsNoChunkOf i e
  port_of c stream (ChunkSteps j q v) k = absurd k
  port_of c stream _ k = tt

  signal_of : (operation : SignalOperation) → SignalCauses (IsNoChunkOf i) operation
  signal_of (Add p) = tt
  signal_of (Forget p) = tt
  signal_of (Trigger r) = λ p. tt

  abbrev Kept : realm.Done → Type 0
  Kept d = ((byte_at i d.slots).stream.state ≡ state) × Each (IsNoChunkOf i) d.caused

  -- an operation of this stream
  here : (operation : Acts → Acts) (s : realm.Slots) → HasEndedAt s → Rests (byte_acts i s) (operation (byte_acts i s)) → Kept (realm.on_byte operation i s)
  here operation s (is, n) r = (
    ap (λ (o : Option Stream). (as_byte o).stream.state) (on_byte-same operation i s is) ∙ (r.state ∙ n),
    either (λ (d : realm.Done). Each (IsNoChunkOf i) d.caused) (has_byte i s) (realm.put_byte i s (operation (byte_acts i s))) (realm.nothing s)
        (λ e. each-map IsNoChunk (IsNoChunkOf i) (quiet-of i) (operation (byte_acts i s)).out.effects (r.quiet tt)) (λ e. tt),
  )

  -- another effect leaves it
  left : (e : Effect) (s : realm.Slots) → HasEndedAt s → byte_at i (row e s).slots ≡ byte_at i s → Each (IsNoChunkOf i) (row e s).caused → Kept (row e s)
  left e s (is, n) same none = (rw same n, none)

  readable-kept : (j : StreamId) (op : ReadableOperation) (s : realm.Slots) (same : Bool) → is_same i j ≡ same → HasEndedAt s → Kept (row (OnReadable j op) s)
  unfolding row
  readable-kept j op s false e h =
      left (OnReadable j op) s h (ap as_byte (on_source-other op j s i e))
      (row-causes (IsNoChunkOf i) (OnReadable j op) s (record { pull = tt; cancel = λ r p. tt; chunk = λ q v. e; close = λ q. tt; error = λ q r. tt }))
  readable-kept j op s true e h =
      let eq : j ≡ i = sym (same_id i j e) in
      rw (eq, on_source-byte op i s h.0) (here (byte_readable_operation i op) s h (shared i op (byte_acts i s) (unreadable s h)))

  byte-kept : (j : StreamId) (op : ByteOperation) (s : realm.Slots) (same : Bool) → is_same i j ≡ same → IsSound i s → HasEndedAt s → Kept (row (Byte j op) s)
  unfolding row
  byte-kept j op s false e k h =
      left (Byte j op) s h (ap as_byte (on_byte-other (byte_operation j op) j s i e))
      (row-causes (IsNoChunkOf i) (Byte j op) s (record { readable = record { pull = tt; cancel = λ r p. tt; chunk = λ q v. e; close = λ q. tt; error = λ q r. tt }; close_with = λ q b. tt }))
  byte-kept j op s true e k h =
      let eq : j ≡ i = sym (same_id i j e) in
      rw eq (here (byte_operation i op) s h (alone i op (byte_acts i s) (unreadable s h) (λ d. ((k h.0).held.errored d).1)))

  apart-kept : (e : Effect) (s : realm.Slots) → IsApart e → HasEndedAt s → Each (IsNoChunkOf i) (row e s).caused → Kept (row e s)
  apart-kept e s a h none = left e s h (ap (λ (xs : List Stream). as_byte (slice_get xs i.0)) (row-streams e s a)) none

  writable-kept : (j : StreamId) (op : WritableOperation) (s : realm.Slots) → HasEndedAt s → Kept (row (Writable j op) s)
  unfolding row
  writable-kept j op s h =
      left (Writable j op) s h (on_writable-look as_byte (λ b c. refl) (writable_operation j op) j s i (is_same i j) refl)
      (row-causes (IsNoChunkOf i) (Writable j op) s (record { write = tt; close = tt; abort = λ r p. tt; hand_on = λ v. tt; take = λ v t d. tt; post = λ v c d. tt }))

  row-kept : (e : Effect) (s : realm.Slots) → IsSound i s → HasEndedAt s → Kept (row e s)
  row-kept (OnReadable j op) s k h = readable-kept j op s (is_same i j) refl h
  row-kept (Byte j op) s k h = byte-kept j op s (is_same i j) refl k h
  row-kept (Writable j op) s k h = writable-kept j op s h
  row-kept (Pipe p op) s k h = apart-kept (Pipe p op) s tt h (row-causes (IsNoChunkOf i) (Pipe p op) s (pipe_of p))
  row-kept (Signal a op) s k h = apart-kept (Signal a op) s tt h (row-causes (IsNoChunkOf i) (Signal a op) s (signal_of op))
  row-kept (Transform t op) s k h = apart-kept (Transform t op) s tt h (row-causes (IsNoChunkOf i) (Transform t op) s (transform_of t))
  row-kept (Tee t op) s k h = apart-kept (Tee t op) s tt h (row-causes (IsNoChunkOf i) (Tee t op) s (tee_of t))
  row-kept (Port c op) s k h = apart-kept (Port c op) s tt h (row-causes (IsNoChunkOf i) (Port c op) s (port_of c))
  row-kept (StartAlgorithm j step start) s k h = apart-kept (StartAlgorithm j step start) s tt h (row-causes (IsNoChunkOf i) (StartAlgorithm j step start) s (λ g u. tt, λ c u. tt))
  row-kept (PullAlgorithm j) s k h = apart-kept (PullAlgorithm j) s tt h (row-causes (IsNoChunkOf i) (PullAlgorithm j) s (λ c u. tt, (λ t u. tt, (λ t. tt, (λ u. tt, λ c. tt)))))
  row-kept (CancelAlgorithm j r p) s k h = apart-kept (CancelAlgorithm j r p) s tt h (row-causes (IsNoChunkOf i) (CancelAlgorithm j r p) s (λ c u. tt, (λ t u. tt, (λ t half u. tt, λ q u. tt))))
  row-kept (WriteAlgorithm j) s k h = apart-kept (WriteAlgorithm j) s tt h (row-causes (IsNoChunkOf i) (WriteAlgorithm j) s (tt, (λ t u. tt, λ q u. tt)))
  row-kept (CloseAlgorithm j) s k h = apart-kept (CloseAlgorithm j) s tt h (row-causes (IsNoChunkOf i) (CloseAlgorithm j) s (λ c u. tt, (λ t u. tt, λ q u. tt)))
  row-kept (AbortAlgorithm j r p) s k h = apart-kept (AbortAlgorithm j r p) s tt h (row-causes (IsNoChunkOf i) (AbortAlgorithm j r p) s (λ c u. tt, (λ t u. tt, λ q u. tt)))
  row-kept (ChunkSteps j q v) s k h = apart-kept (ChunkSteps j q v) s tt h (row-causes (IsNoChunkOf i) (ChunkSteps j q v) s (chunk_of v q))
  row-kept (CloseSteps j q) s k h = apart-kept (CloseSteps j q) s tt h (row-causes (IsNoChunkOf i) (CloseSteps j q) s (end_of q))
  row-kept (CloseStepsWith j q b) s k h = apart-kept (CloseStepsWith j q b) s tt h (row-causes (IsNoChunkOf i) (CloseStepsWith j q b) s (end_of q))
  row-kept (ErrorSteps j q e) s k h = apart-kept (ErrorSteps j q e) s tt h (row-causes (IsNoChunkOf i) (ErrorSteps j q e) s (error_of q))
  row-kept e s k h = apart-kept e s tt h (row-causes (IsNoChunkOf i) e s tt)

  begins : (c : Call) (s : realm.Slots) → Each IsNoChunk (begin c s).done.caused
  begins c s = each_call (λ b. Each IsNoChunk b.done.caused) c s (grind (arith, each-append))

  jobs : (job : Job) → Each IsNoChunk (job_effects job)
  jobs job = grind (arith, each-append)

  -- of what chunk steps of this stream tell, nothing is told
  module _ {X : Type 0} (told : Effect → realm.Slots → List X) (untold : (e : Effect) (s : realm.Slots) → IsNoChunkOf i e → told e s ≡ []) where
    lists : IsHistory {H = List X} [] ◌++◌
    lists = record { left = λ f. refl; right = λ f. append-nil f; assoc = λ f g h. append_assoc f g h }

    abbrev Quiet : List X → realm.Slots → List Effect → Type 0
    Quiet h s es = ((h ≡ []) × HasEndedAt s) × (All i s es × Each (IsNoChunkOf i) es)

    row-quiet : (h : List X) (s : realm.Slots) (e : Effect) (es : List Effect) → Quiet h s (e ∷ es) → Quiet (h ++ told e s) (row e s).slots ((row e s).caused ++ es)
    row-quiet h s e es ((n, w), (a, q)) =
        let k : Kept (row e s) = row-kept e s a.0 w in
        ((rw (n, untold e s q.0) refl, (row-byte i e s ∙ w.0, k.0)), ((stays i).row s e es a, each-append (IsNoChunkOf i) (row e s).caused es k.1 q.1))

    goes : GoesUntold ◌++◌ told Quiet
    goes = record {
      row = row-quiet;
      call = λ h s c ((n, w), (a, q)).
          ((n, (begin-byte i c s w.0, rw (begin_at i c s w.0) w.1)), ((stays i).call s c a, each-map IsNoChunk (IsNoChunkOf i) (quiet-of i) (begin c s).done.caused (begins c s)));
      job = λ h s job e ((n, w), (a, q)). ((n, w), ((stays i).job s job e a, each-map IsNoChunk (IsNoChunkOf i) (quiet-of i) (job_effects job) (jobs job)));
      answered = λ h s p ((n, w), (a, q)). ((n, w), ((stays i).answered s p a, tt));
      older = λ h s ((n, w), (a, q)). ((n, w), ((stays i).older s a, tt));
    }

    pub run-none : (xs : List Entry) (s : realm.Slots) → HasEndedAt s → IsSound i s → (over [] ◌++◌ (in_step [] ◌++◌ told) xs s ≡ []) × HasEndedAt (run xs s)
    run-none xs s w k = (run-goes_untold [] ◌++◌ lists told Quiet goes (record { heard = λ h s q. q }) xs [] s ((refl, w), ((k, tt), tt))).0
