-- What each operation of a bare byte stream leaves of what lies in it.
use Rattle.std.proofs.Common.{◌≡◌, ◌⊎◌, inl, inr, ℕ, true, false, is_some, if◌then◌else◌, List, [], ◌∷◌, ◌++◌, Option, Some, None, Result, Ok, Err, refl, sym, ap, subst, append_assoc, append-nil, arith}
use Rattle.ws_value.specs.declared.ids.PipeId.{PipeId}
use Rattle.ws_value.specs.declared.ids.PromiseId.{PromiseId}
use Rattle.ws_value.specs.declared.ids.RequestId.{RequestId}
use Rattle.ws_value.specs.declared.ids.StreamId.{StreamId}
use Rattle.ws_value.specs.declared.value.Plain.{Plain}
use Rattle.ws_value.specs.declared.value.Value.{Value}
use Rattle.ws_value.specs.declared.value.Value.TheVariants.{Bytes}
use Rattle.ws_steps.specs.declared.byte.ByteOperation.{ByteOperation}
use Rattle.ws_steps.specs.declared.byte.ByteOperation.TheVariants.{InitializeByobReader, Enqueue as EnqueueBytes, PullInto, MakeRequest, Respond}
use Rattle.ws_steps.specs.declared.effects.Effect.TheVariants.{PullAlgorithm, CancelAlgorithm, ChunkSteps}
use Rattle.ws_steps.specs.declared.readable.ReadRequest.{ReadRequest}
use Rattle.ws_steps.specs.declared.readable.ReadableOperation.{ReadableOperation}
use Rattle.ws_steps.specs.declared.readable.ReadableOperation.TheVariants.{InitializeReader, ReleaseReader, Disturb, Read, Cancel, CancelIfReadable, Enqueue, Close, Error, StartSettled, PullSettled}
use Rattle.ws_steps.specs.declared.readable.ReadableState.{ReadableState}
use Rattle.ws_steps.specs.declared.readable.ReadableState.TheVariants.{Readable, Closed, Errored}
use Rattle.ws_steps.specs.Bytes as byte
use Rattle.ws_steps.specs.Bytes.{Slots, Acts, shown, entries, call_pull_if_needed, stream_close, controller_error, handle_queue_drain, pull_steps, default_reader_read, controller_close, controller_enqueue, pull_into, byob_reader_read, start_settled, pull_settled, stream_cancel, cancel_if_readable, reader_release, reader_initialize, read, read_into, respond}
use Rattle.ws_steps.specs.Descriptors.{Descriptor}
use Rattle.ws_steps.specs.Effects.{type_error}
use Rattle.ws_steps.specs.Operations.{byte_readable_operation, byte_operation}
use Rattle.ws_steps.specs.Promises.{Table}
use Rattle.ws_steps.specs.Queues.{append_bytes, is_empty}
use Rattle.ws_steps.specs.Readable as readable
use Rattle.ws_flow.specs.Told.{Open, Told, told, then_told, IsShortOf}
use Rattle.ws_flow.proofs.Told.{short_refl, then_empty}
use Rattle.ws_laws.proofs.Tables.{either}
use Rattle.ws_pipe_laws.specs.pipes.PipeReads.{is_of}
use Rattle.ws_link_laws.specs.Link.{OfByteSource, silence, values, in_source}
use Rattle.ws_link_laws.specs.Sound.{Owned, NoneWaits, SourceFits, IsBare}
use Rattle.ws_link_laws.specs.Entering.{entered, bytes_entered}
use Rattle.ws_link_laws.proofs.Telling.{tells, lost_short, chunks}
use Rattle.ws_link_laws.proofs.Sources.{is_cancel, IsOwn, SourceKept, owned-append, chunks-append, closes_chunks, errors_chunks, released-in}

-- an operation begins
abbrev pub beginning : Slots → Table → Acts
beginning x t = record { slots = x; out = record { promises = t; effects = [] } }

-- the reader that it sets up is a default one, and bytes are some
abbrev pub IsPlain : ByteOperation → Type 0
IsPlain (InitializeByobReader c) = ⊥
IsPlain (EnqueueBytes b) = is_empty b ≡ false
IsPlain _ = Unit {0}

abbrev pub BareKeeps : PipeId → StreamId → ReadableOperation → Slots → Table → Type 0
BareKeeps p me op x t =
    IsBare x → SourceFits p (shown x) → IsOwn p op → let o : Acts = byte_readable_operation me op (beginning x t) in
    IsBare o.slots × SourceKept p (entered OfByteSource op) (is_cancel op) (shown x) (shown o.slots) o.out.effects

abbrev pub BytesKeep : PipeId → StreamId → ByteOperation → Slots → Table → Type 0
BytesKeep p me op x t =
    IsBare x → SourceFits p (shown x) → IsPlain op → let o : Acts = byte_operation me op (beginning x t) in
    IsBare o.slots × SourceKept p (bytes_entered OfByteSource op) false (shown x) (shown o.slots) o.out.effects

-- where the stream ends

record Ended (p : PipeId) (ended : ReadableState) (x : readable.Slots) (b : readable.Acts) : Type 0 where
  quiet : tells (chunks p) b.out.effects ≡ silence
  state : b.slots.state ≡ ended
  owned : Owned p x.requests → Owned p b.slots.requests
  waits : readable.waiting b.slots ≡ []
  reader : b.slots.reader ≡ x.reader

abbrev stream_of : readable.Slots → Table → readable.Acts
stream_of x t = record { slots = x; out = record { promises = t; effects = [] } }

no_reader : (o : Option PromiseId) (rs : List ReadRequest) → o ≡ None → (if is_some o then rs else []) ≡ []
no_reader o rs e = rw e refl

closed-in : (p : PipeId) (me : StreamId) (x : readable.Slots) (t : Table) (o : Option PromiseId) → o ≡ x.reader → Ended p Closed x (readable.close_reader me (stream_of (record x { state = Closed }) t) o)
closed-in p me x t None e = record { quiet = refl; state = refl; owned = λ h. h; waits = rw (← e) refl; reader = refl }
closed-in p me x t (Some c) e = record { quiet = closes_chunks p me x.requests; state = refl; owned = λ h. tt; waits = rw (← e) refl; reader = refl }

closes : (p : PipeId) (me : StreamId) (x : readable.Slots) (t : Table) → Ended p Closed x (readable.stream_close me (stream_of x t))
unfolding readable.stream_close
closes p me x t = closed-in p me x t x.reader refl

errored-in : (p : PipeId) (me : StreamId) (r : Plain) (x : readable.Slots) (t : Table) (o : Option PromiseId) → o ≡ x.reader → Ended p Errored x (readable.error_reader me r (stream_of (record x { state = Errored; stored_error = r }) t) o)
errored-in p me r x t None e = record { quiet = refl; state = refl; owned = λ h. h; waits = rw (← e) refl; reader = refl }
errored-in p me r x t (Some c) e = record { quiet = errors_chunks p me r x.requests; state = refl; owned = λ h. tt; waits = rw (← e) refl; reader = refl }

errs : (p : PipeId) (me : StreamId) (r : Plain) (x : readable.Slots) (t : Table) → Ended p Errored x (readable.stream_error me r (stream_of x t))
unfolding readable.stream_error
errs p me r x t = errored-in p me r x t x.reader refl

-- operations

disturb_keeps : (p : PipeId) (me : StreamId) (x : Slots) (t : Table) → BareKeeps p me Disturb x t
unfolding readable.disturb
disturb_keeps p me x t b f g = grind (arith, append-nil, short_refl, b, f)

enqueue_keeps : (p : PipeId) (me : StreamId) (v : Value) (x : Slots) (t : Table) → BareKeeps p me (Enqueue v) x t
enqueue_keeps p me v x t b f g = grind (arith, append-nil, short_refl, b, f)

close_keeps : (p : PipeId) (me : StreamId) (x : Slots) (t : Table) → BareKeeps p me Close x t
unfolding controller_close stream_close
close_keeps p me x t b f g = let c = closes p me x.stream t in grind (arith, append-nil, short_refl, b, f, c)

error_keeps_for : (p : PipeId) (me : StreamId) (e : Plain) (op : ReadableOperation) (x : Slots) (t : Table) → entered OfByteSource op ≡ silence → is_cancel op ≡ false → IsBare x → SourceFits p (shown x)
    → let o : Acts = controller_error me e (beginning x t) in IsBare o.slots × SourceKept p (entered OfByteSource op) (is_cancel op) (shown x) (shown o.slots) o.out.effects
unfolding controller_error
error_keeps_for p me e op x t n m b f = let c = errs p me e x.stream t in grind (arith, append-nil, short_refl, lost_short, c, n, m, b, f)

start_keeps : (p : PipeId) (me : StreamId) (o : Result Plain Plain) (x : Slots) (t : Table) → BareKeeps p me (StartSettled o) x t
unfolding start_settled call_pull_if_needed
start_keeps p me (Ok v) x t b f g = grind (arith, append-nil, append_assoc, short_refl, chunks-append, b, f)
start_keeps p me (Err r) x t b f g = error_keeps_for p me r (StartSettled (Err r)) x t refl refl b f

pull_keeps : (p : PipeId) (me : StreamId) (o : Result Plain Plain) (x : Slots) (t : Table) → BareKeeps p me (PullSettled o) x t
unfolding pull_settled call_pull_if_needed
pull_keeps p me (Ok v) x t b f g = grind (arith, append-nil, append_assoc, short_refl, chunks-append, b, f)
pull_keeps p me (Err e) x t b f g = error_keeps_for p me e (PullSettled (Err e)) x t refl refl b f

cancel_keeps_for : (p : PipeId) (me : StreamId) (r : Plain) (q : PromiseId) (op : ReadableOperation) (x : Slots) (t : Table) → is_cancel op ≡ true → IsBare x → SourceFits p (shown x)
    → let o : Acts = stream_cancel me r q (beginning x t) in IsBare o.slots × SourceKept p (entered OfByteSource op) (is_cancel op) (shown x) (shown o.slots) o.out.effects
unfolding stream_cancel readable.disturb stream_close
cancel_keeps_for p me r q op x t n b f =
    let y : readable.Slots = record x.stream { disturbed = true } in
    let c = closes p me y t in
    let d = chunks-append p (readable.stream_close me (stream_of y t)).out.effects (CancelAlgorithm me r q ∷ []) in
    grind (arith, append-nil, n, b, f, c, d)

cancel_readable_keeps : (p : PipeId) (me : StreamId) (r : Plain) (q : PromiseId) (x : Slots) (t : Table) → BareKeeps p me (CancelIfReadable r q) x t
unfolding cancel_if_readable
cancel_readable_keeps p me r q x t b f g = let c = cancel_keeps_for p me r q (CancelIfReadable r q) x t refl b f in grind (arith, b, f, c)

initialize_keeps : (p : PipeId) (me : StreamId) (q : PromiseId) (x : Slots) (t : Table) → BareKeeps p me (InitializeReader q) x t
unfolding reader_initialize readable.reader_generic_initialize
initialize_keeps p me q x t b f g = grind (arith, append-nil, append_assoc, short_refl, chunks-append, b, f)

-- the drain of the queue

record Drained (p : PipeId) (x : Slots) (o : Acts) : Type 0 where
  bare : IsBare o.slots
  quiet : tells (chunks p) o.out.effects ≡ silence
  lies : in_source (shown o.slots) ≡ in_source (shown x)
  fits : SourceFits p (shown x) → SourceFits p (shown o.slots)

drained : (p : PipeId) (me : StreamId) (x : Slots) (t : Table) → IsBare x → x.stream.state ≡ Readable → Drained p x (handle_queue_drain me (beginning x t))
unfolding handle_queue_drain stream_close call_pull_if_needed
drained p me x t b r = let c = closes p me x.stream t in grind (arith, b, r, c)

-- a read of a stream that is readable, which a default reader has

read-from : (p : PipeId) (me : StreamId) (q : ReadRequest) (x : Slots) (t : Table) (queue : List (List ℕ)) → queue ≡ x.queue → IsBare x → SourceFits p (shown x) → is_of p q ≡ 1 → x.stream.state ≡ Readable
    → let o : Acts = byte.pull_from me q (beginning x t) queue in IsBare o.slots × SourceKept p silence false (shown x) (shown o.slots) o.out.effects
unfolding call_pull_if_needed
read-from p me q x t [] e b f own r = grind (arith, e, b, f, own, r, append-nil, short_refl, chunks-append, owned-append)
read-from p me q x t (c ∷ cs) e b f own r =
    let y : Slots = record x { queue = cs } in
    let d = drained p me y t (record { auto = b.auto; descriptors = b.descriptors; reader = b.reader }) r in
    let n = chunks-append p (handle_queue_drain me (beginning y t)).out.effects (ChunkSteps me q (Bytes c) ∷ []) in
    grind (arith, e, b, f, own, r, d, n, append-nil, short_refl)

read-readable : (p : PipeId) (me : StreamId) (q : ReadRequest) (x : Slots) (t : Table) → IsBare x → SourceFits p (shown x) → is_of p q ≡ 1 → x.stream.state ≡ Readable
    → let o : Acts = pull_steps me q (beginning x t) in IsBare o.slots × SourceKept p silence false (shown x) (shown o.slots) o.out.effects
unfolding pull_steps
read-readable p me q x t b f own r = read-from p me q x t x.queue refl b f own r

read_keeps : (p : PipeId) (me : StreamId) (q : ReadRequest) (x : Slots) (t : Table) → BareKeeps p me (Read q) x t
unfolding read default_reader_read readable.disturb
read_keeps p me q x t b f own =
    let y : Slots = record x { stream = record x.stream { disturbed = true } } in
    let h = read-readable p me q y t (record { auto = b.auto; descriptors = b.descriptors; reader = b.reader }) (record { owned = f.owned; fit = f.fit }) own in
    grind (arith, append-nil, short_refl, b, f, h)

release_keeps : (p : PipeId) (me : StreamId) (x : Slots) (t : Table) → BareKeeps p me ReleaseReader x t
unfolding reader_release readable.reader_release
release_keeps p me x t b f g = by x.stream.reader refl
  where
    y : Slots
    y = (byte.release_steps (beginning x t)).slots

    by : (o : Option PromiseId) → o ≡ x.stream.reader → let z : readable.Acts = readable.release_by me (stream_of x.stream t) o in
        IsBare (record y { stream = z.slots }) × SourceKept p silence false (shown x) (shown (record y { stream = z.slots })) z.out.effects
    by None e = (record { auto = b.auto; descriptors = rw b.descriptors refl; reader = b.reader }, record { fits = f; short = λ c. rw (then_empty (in_source (shown x))) (short_refl (in_source (shown x))); cancelled = λ c. absurd (cc); stays = λ c. c })
    by (Some c) e =
        let k = released-in c (stream_of x.stream t).out x.stream.state in
        let n = errors_chunks p me type_error x.stream.requests in (
          record { auto = b.auto; descriptors = rw b.descriptors refl; reader = refl },
          record { fits = record { owned = tt; fit = tt }; short = λ c. rw (k, n, then_empty (in_source (shown x))) (short_refl (in_source (shown x))); cancelled = λ c. absurd (cc); stays = λ c. c },
        )

-- each operation that either kind of controller has
pub bare_keeps : (p : PipeId) (me : StreamId) (op : ReadableOperation) (x : Slots) (t : Table) → BareKeeps p me op x t
bare_keeps p me (InitializeReader q) x t = initialize_keeps p me q x t
bare_keeps p me ReleaseReader x t = release_keeps p me x t
bare_keeps p me Disturb x t = disturb_keeps p me x t
bare_keeps p me (Read q) x t = read_keeps p me q x t
bare_keeps p me (Cancel r q) x t = λ b f g. cancel_keeps_for p me r q (Cancel r q) x t refl b f
bare_keeps p me (CancelIfReadable r q) x t = cancel_readable_keeps p me r q x t
bare_keeps p me (Enqueue v) x t = enqueue_keeps p me v x t
bare_keeps p me Close x t = close_keeps p me x t
bare_keeps p me (Error e) x t = λ b f g. error_keeps_for p me e (Error e) x t refl refl b f
bare_keeps p me (StartSettled o) x t = start_keeps p me o x t
bare_keeps p me (PullSettled o) x t = pull_keeps p me o x t

-- bytes are enqueued

entries-append : (qs rs : List (List ℕ)) → values (entries (qs ++ rs)) ≡ values (entries qs) ++ values (entries rs)
entries-append [] rs = refl
entries-append (q ∷ qs) rs = ap (λ (vs : List Value). Bytes q ∷ vs) (entries-append qs rs)

bytes-append : (n : ℕ) (ns : List ℕ) (qs : List (List ℕ)) → values (entries (append_bytes (n ∷ ns) qs)) ≡ values (entries qs) ++ Bytes (n ∷ ns) ∷ []
bytes-append n ns qs = entries-append qs ((n ∷ ns) ∷ [])

-- a request that waits has no queue beside it
process-none : (me : StreamId) (qs : List ReadRequest) (a : Acts) → a.slots.queue ≡ [] → byte.process_requests me qs a ≡ a
process-none me [] a e = refl
process-none me (q ∷ qs) a e = rw e refl

none-queued : (qs : List (List ℕ)) → entries qs ≡ [] → qs ≡ []
none-queued [] e = refl
none-queued (q ∷ qs) e = cc

default-reader : (x : Slots) → byte.has_default_reader x ≡ true → is_some x.stream.reader ≡ true
default-reader x e = grind (arith, e)

processed : (p : PipeId) (me : StreamId) (x : Slots) (t : Table) → is_some x.stream.reader ≡ true → SourceFits p (shown x) → byte.process_requests me x.stream.requests (beginning x t) ≡ beginning x t
processed p me x t r f = by x.stream.requests refl
  where
    by : (qs : List ReadRequest) → qs ≡ x.stream.requests → byte.process_requests me qs (beginning x t) ≡ beginning x t
    by [] e = refl
    by (q ∷ qs) e =
        let fit : NoneWaits (if is_some x.stream.reader then x.stream.requests else []) (entries x.queue) = f.fit in
        let none : NoneWaits (q ∷ qs) (entries x.queue) = rw (r, ← e) at fit in
        process-none me (q ∷ qs) (beginning x t) (none-queued x.queue none)

module _ (p : PipeId) (me : StreamId) (n : ℕ) (ns : List ℕ) (x : Slots) (t : Table) (b : IsBare x) (f : SourceFits p (shown x)) (state : x.stream.state ≡ Readable) (unasked : x.stream.close_requested ≡ false) where
  abbrev Accepts : Acts → Type 0
  Accepts o = IsBare o.slots × SourceKept p (told (Bytes (n ∷ ns) ∷ []) Open) false (shown x) (shown o.slots) o.out.effects

  appends : is_some x.stream.reader ≡ false ⊎ (x.stream.requests ≡ []) → Accepts (byte.append (n ∷ ns) (beginning x t))
  appends c = let d = bytes-append n ns x.queue in grind (arith, b, f, state, unasked, c, d, short_refl)

  accept-for : is_some x.stream.reader ≡ true → (qs : List ReadRequest) → qs ≡ x.stream.requests → Accepts (byte.accept_for me (n ∷ ns) (beginning x t) qs)
  accept-for r [] e = appends (inr (sym e))
  accept-for r (q ∷ qs) e =
      let fit : NoneWaits (if is_some x.stream.reader then x.stream.requests else []) (entries x.queue) = f.fit in
      let none : entries x.queue ≡ [] = rw (r, ← e) at fit in
      grind (arith, b, f, state, unasked, r, e, none, short_refl, append-nil)

  accept-default : byte.has_default_reader x ≡ true → Accepts (byte.accept_default me (n ∷ ns) (beginning x t))
  accept-default r =
      let s = default-reader x r in
      subst (λ (c : Acts). Accepts (byte.accept_for me (n ∷ ns) c c.slots.stream.requests)) (sym (processed p me x t s f)) (accept-for s x.stream.requests refl)

  accepts : Accepts (byte.accept me (n ∷ ns) (beginning x t))
  accepts =
      either Accepts (byte.has_default_reader x) (byte.accept_default me (n ∷ ns) (beginning x t)) _ accept-default
      (λ none. rw b.reader (appends (inl (let h = b.reader in grind (arith, none, h)))))

-- pulling leaves what lies there

pulled : (p : PipeId) (me : StreamId) (e : Told Value) (x : Slots) (o : Acts) → IsBare o.slots × SourceKept p e false (shown x) (shown o.slots) o.out.effects
    → let z : Acts = call_pull_if_needed me o in IsBare z.slots × SourceKept p e false (shown x) (shown z.slots) z.out.effects
unfolding call_pull_if_needed
pulled p me e x o k = let n = chunks-append p o.out.effects (PullAlgorithm me ∷ []) in grind (arith, k, n, then_empty)

enqueued_keeps : (p : PipeId) (me : StreamId) (bs : List ℕ) (x : Slots) (t : Table) → BytesKeep p me (EnqueueBytes bs) x t
unfolding controller_enqueue
enqueued_keeps p me [] x t b f g = cc
enqueued_keeps p me (n ∷ ns) x t b f g =
    subst (λ (ds : List Descriptor). Accepted (if byte.can_take x then call_pull_if_needed me (byte.accept me (n ∷ ns) (byte.renounce (beginning x t) ds)) else beginning x t)) (sym b.descriptors)
    (either (λ (o : Acts). IsBare o.slots × SourceKept p (told (Bytes (n ∷ ns) ∷ []) Open) false (shown x) (shown o.slots) o.out.effects) (byte.can_take x)
    (call_pull_if_needed me (byte.accept me (n ∷ ns) (beginning x t))) (beginning x t)
    (λ can. pulled p me (told (Bytes (n ∷ ns) ∷ []) Open) x (byte.accept me (n ∷ ns) (beginning x t)) (accepts p me n ns x t b f (can_state x can) (can_open x can)))
    (λ cannot. (b, record { fits = f; short = λ c. full x cannot; cancelled = λ c. absurd (cc); stays = λ c. c })))
  where
    Accepted : Acts → Type 0
    Accepted o = IsBare o.slots × SourceKept p (told (Bytes (n ∷ ns) ∷ []) Open) false (shown x) (shown o.slots) o.out.effects

    can_state : (y : Slots) → byte.can_take y ≡ true → y.stream.state ≡ Readable
    can_state y e = grind (arith, e)

    can_open : (y : Slots) → byte.can_take y ≡ true → y.stream.close_requested ≡ false
    can_open y e = grind (arith, e)

    full : (y : Slots) → byte.can_take y ≡ false → IsShortOf (in_source (shown y)) (then_told (in_source (shown y)) (told (Bytes (n ∷ ns) ∷ []) Open))
    full y e = grind (arith, e, short_refl)

-- it has no descriptor for a response, and is read by no BYOB reader

pull_into_keeps : (p : PipeId) (me : StreamId) (room : List ℕ) (element minimum : ℕ) (q : ReadRequest) (x : Slots) (t : Table) → BytesKeep p me (PullInto room element minimum q) x t
unfolding read_into byob_reader_read pull_into readable.disturb
pull_into_keeps p me room element minimum q x t b f g = grind (arith, append-nil, short_refl, b, f)

make_keeps : (p : PipeId) (me : StreamId) (q : RequestId) (x : Slots) (t : Table) → BytesKeep p me (MakeRequest q) x t
make_keeps p me q x t b f g = grind (arith, append-nil, short_refl, b, f)

respond_keeps : (p : PipeId) (me : StreamId) (bs : List ℕ) (x : Slots) (t : Table) → BytesKeep p me (Respond bs) x t
unfolding respond
respond_keeps p me bs x t b f g = grind (arith, append-nil, short_refl, b, f)

pub bytes_keep : (p : PipeId) (me : StreamId) (op : ByteOperation) (x : Slots) (t : Table) → BytesKeep p me op x t
bytes_keep p me (InitializeByobReader c) x t = λ b f g. absurd g
bytes_keep p me (EnqueueBytes bs) x t = enqueued_keeps p me bs x t
bytes_keep p me (PullInto room element minimum q) x t = pull_into_keeps p me room element minimum q x t
bytes_keep p me (MakeRequest q) x t = make_keeps p me q x t
bytes_keep p me (Respond bs) x t = respond_keeps p me bs x t
