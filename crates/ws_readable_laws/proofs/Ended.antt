-- A readable stream that has ended stays so, and accepts nothing, whatever a step performs.
use Rattle.ws_steps.specs.declared.port.Side.{Side}
use Rattle.ws_steps.specs.declared.port.Side.TheVariants.{Readable as ReadableSide, Writable as WritableSide}
use Rattle.ws_steps.specs.MakingCalls as making_calls
use Rattle.ws_steps.specs.PipeCalls as pipe_calls
use Rattle.ws_laws.proofs.Halves.{Halved}
use Rattle.ws_laws.proofs.Shapes.{StreamShape, stream_shape, stream_shapes, transform_shapes, tee_shapes}
use Rattle.ws_laws.proofs.Tables.{eq_numbers, unequal_numbers}
use Rattle.ws_readable_laws.proofs.Quiet as entering
use Rattle.std.proofs.Common.{◌≡◌, ◌≢◌, Bool, true, false, List, [], ◌∷◌, ◌++◌, Option, Some, None, Ok, Err, ◌⊎◌, inl, inr, ⊎_elim, refl, sym, ap, ◌∙◌, slice_get, nat_eq, length, map, ℕ, zero, suc, ◌∙◌, arith}
use Rattle.ws_value.specs.declared.ids.PromiseId.{PromiseId}
use Rattle.ws_value.specs.declared.ids.StreamId.{StreamId}
use Rattle.ws_value.specs.declared.value.Value.{Value}
use Rattle.ws_steps.specs.declared.calls.Call.{Call}
use Rattle.ws_steps.specs.declared.effects.Effect.{Effect}
use Rattle.ws_steps.specs.declared.effects.Effect.TheVariants.{Readable as OnReadable, Byte, Writable as OnWritable, StartAlgorithm, ChunkSteps, Give, Settle, Queue, CallHost}
use Rattle.ws_steps.specs.declared.promises.Job.{Job}
use Rattle.ws_steps.specs.declared.readable.ReadableOperation.{ReadableOperation}
use Rattle.ws_steps.specs.declared.readable.ReadableOperation.TheVariants as names
use Rattle.ws_steps.specs.declared.readable.ReadableState.{ReadableState}
use Rattle.ws_steps.specs.declared.readable.ReadableState.TheVariants.{Readable, Closed, Errored}
use Rattle.ws_steps.specs.Operations.{readable_operation, byte_readable_operation, byte_operation, writable_operation}
use Rattle.ws_steps.specs.Promises.{next_job}
use Rattle.ws_steps.specs.Bytes as byte
use Rattle.ws_steps.specs.Readable as readable
use Rattle.ws_steps.specs.Readable.{Acts, is_readable, call_pull_if_needed, accept, controller_enqueue, stream_close, stream_error, close_if_empty, controller_close, controller_error, after_take, pull_from, pull_steps, read_by, default_reader_read, disturb, reader_generic_initialize, start_settled, pull_ended, pull_settled, cancel_steps, cancel_by, stream_cancel, cancel_readable_by, cancel_if_readable, release_by, reader_release}
use Rattle.ws_steps.specs.Slots.{Slots, Stream, Done, has_readable, has_byte, is_readable_stream, is_byte_stream, readable_at, as_readable, on_readable, on_byte}
use Rattle.ws_steps.specs.Turns.{row, moments}
use Rattle.ws_steps.specs.Jobs.{job_begun, begin_job}
use Rattle.ws_steps.specs.Begun.{Begun}
use Rattle.ws_steps.specs.Calls.{begin}
use Rattle.ws_steps.specs.Run.{Entry, Called, Worked, Heard}
use Rattle.ws_steps.specs.Histories.{is_same, along}
use Rattle.ws_steps.specs.ReadableHistory.{Flow, no_flow, flow_then, operation_flow, effect_flow, step_flow}
use Rattle.ws_laws.proofs.EachCall.{each_call}
use Rattle.ws_laws.proofs.Lists.{Each, each-append}
use Rattle.ws_laws.proofs.Apart.{row-streams}
use Rattle.ws_laws.proofs.Causes.{row-causes}
use Rattle.ws_laws.proofs.Tables.{either, same_id, readable_acts, on_readable-same, on_source-other, on_byte-readable, on_writable-readable}
use Rattle.ws_laws.proofs.Walker.{performed-goes}
use Rattle.ws_readable_laws.proofs.Runs.{is_history, nothing_flows}

-- an operation leaves a stream that has ended so

abbrev HasEnded : Acts → Type 0
HasEnded a = is_readable a.slots.state ≡ false

readable-no-byte : (o : Option Stream) → is_readable_stream o ≡ true → is_byte_stream o ≡ false
readable-no-byte o is = grind (arith, is)

module _ (i : StreamId) where
  pull-ends : (a : Acts) → HasEnded a → HasEnded (call_pull_if_needed i a)
  unfolding call_pull_if_needed
  pull-ends a n = grind (arith, n)

  close-ends : (a : Acts) → HasEnded (stream_close i a)
  unfolding stream_close
  close-ends a = grind arith

  take-ends : (a : Acts) → HasEnded a → HasEnded (after_take i a)
  unfolding after_take
  take-ends a n = grind (arith, n, close-ends, pull-ends)

  enqueue-ends : (v : Value) (a : Acts) → HasEnded a → HasEnded (controller_enqueue i v a)
  unfolding controller_enqueue
  enqueue-ends v a n = grind (arith, n)

  controller_close-ends : (a : Acts) → HasEnded a → HasEnded (controller_close i a)
  unfolding controller_close close_if_empty
  controller_close-ends a n = grind (arith, n)

  error-ends : (e : _) (a : Acts) → HasEnded a → HasEnded (controller_error i e a)
  unfolding controller_error
  error-ends e a n = grind (arith, n)

  read-ends : (r : _) (a : Acts) (state : ReadableState) → HasEnded a → state ≡ a.slots.state → HasEnded (read_by i r a state)
  read-ends r a Readable n e = absurd (cc)
  read-ends r a Closed n e = n
  read-ends r a Errored n e = n

  cancel-ends : (r : _) (p : _) (a : Acts) (state : ReadableState) → HasEnded a → state ≡ a.slots.state → HasEnded (cancel_by i r p a state)
  cancel-ends r p a Readable n e = absurd (cc)
  cancel-ends r p a Closed n e = n
  cancel-ends r p a Errored n e = n

  operation-ends : (operation : ReadableOperation) (a : Acts) → HasEnded a → HasEnded (readable_operation i operation a)
  unfolding default_reader_read disturb reader_generic_initialize start_settled pull_settled stream_cancel cancel_if_readable reader_release
  operation-ends (names.InitializeReader closed) a n = n
  operation-ends names.ReleaseReader a n = grind (arith, n)
  operation-ends names.Disturb a n = n
  operation-ends (names.Read r) a n = read-ends r (record a { slots = record a.slots { disturbed = true } }) a.slots.state n refl
  operation-ends (names.Cancel r p) a n = cancel-ends r p (record a { slots = record a.slots { disturbed = true } }) a.slots.state n refl
  operation-ends (names.CancelIfReadable r p) a n = grind (arith, n, cancel-ends)
  operation-ends (names.Enqueue v) a n = enqueue-ends v a n
  operation-ends names.Close a n = controller_close-ends a n
  operation-ends (names.Error e) a n = error-ends e a n
  operation-ends (names.StartSettled (Ok v)) a n = pull-ends (record a { slots = record a.slots { started = true } }) n
  operation-ends (names.StartSettled (Err e)) a n = error-ends e a n
  operation-ends (names.PullSettled (Ok v)) a n = grind (arith, n, pull-ends)
  operation-ends (names.PullSettled (Err e)) a n = error-ends e a n

  -- and each effect does

  abbrev pub IsOver : Slots → Type 0
  IsOver s = is_readable (readable_at i s).state ≡ false

  own-over : (operation : ReadableOperation) (s : Slots) (there : Bool) → there ≡ has_readable i s → IsOver s → IsOver (row (OnReadable i operation) s).slots
  unfolding row
  own-over operation s true e n =
      let none : has_byte i s ≡ false = readable-no-byte (slice_get s.streams i.0) (sym e) in
      rw (none, on_readable-same (readable_operation i operation) i s (sym e)) (operation-ends operation (readable_acts i s) n)
  own-over operation s false e n =
      either (λ (d : Done). IsOver d.slots) (has_byte i s) (on_byte (byte_readable_operation i operation) i s) (on_readable (readable_operation i operation) i s)
      (λ is. rw (on_byte-readable (byte_readable_operation i operation) i s i) n) (λ isnt. rw (← e) n)

  by-over : (j : StreamId) (operation : ReadableOperation) (s : Slots) (same : Bool) → same ≡ is_same i j → IsOver s → IsOver (row (OnReadable j operation) s).slots
  unfolding row
  by-over j operation s true e n = rw (sym (same_id i j (sym e))) (own-over operation s (has_readable i s) refl n)
  by-over j operation s false e n = rw (ap as_readable (on_source-other operation j s i (sym e))) n

  row-over : (e : Effect) (s : Slots) → IsOver s → IsOver (row e s).slots
  unfolding row
  row-over (OnReadable j operation) s n = by-over j operation s (is_same i j) refl n
  row-over (Byte j operation) s n = rw (on_byte-readable (byte_operation j operation) j s i) n
  row-over (OnWritable j operation) s n = rw (on_writable-readable (writable_operation j operation) j s i (is_same i j) refl) n
  row-over e s n = rw (ap (λ (xs : List Stream). as_readable (slice_get xs i.0)) (row-streams e s tt)) n

  -- nothing enters it

  over-operation : (operation : ReadableOperation) (r : readable.Slots) → is_readable r.state ≡ false → (operation_flow operation r).entered ≡ []
  over-operation operation r n = grind (arith, n)

  over-place : (j : StreamId) (operation : ReadableOperation) (s : Slots) (same : Bool) → same ≡ is_same i j → IsOver s → (effect_flow i (OnReadable j operation) s).entered ≡ []
  over-place j operation s true e n = rw (← e) (over-operation operation (readable_at j s) (rw (same_id i j (sym e)) at n))
  over-place j operation s false e n = rw (← e) refl

  over-enters : (e : Effect) (s : Slots) → IsOver s → (effect_flow i e s).entered ≡ []
  over-enters (OnReadable j operation) s n = over-place j operation s (is_same i j) refl n
  over-enters (ChunkSteps j request v) s n = either (λ (f : Flow). f.entered ≡ []) (is_same i j) _ no_flow (λ e. refl) (λ e. refl)
  over-enters _ s n = refl

-- effects that lead to no operation of a stream: with them a call begins that makes one

abbrev IsIdle : Effect → Type 0
IsIdle (OnReadable i (names.InitializeReader closed)) = Unit {0}
IsIdle (StartAlgorithm i step start) = Unit {0}
IsIdle (Give gift u) = Unit {0}
IsIdle (Settle p o) = Unit {0}
IsIdle (Queue m) = Unit {0}
IsIdle (CallHost call u) = Unit {0}
IsIdle _ = ⊥

-- a reader that takes a stream causes nothing
initialize-idle : (i : StreamId) (closed : PromiseId) (s : Slots) → Each IsIdle (row (OnReadable i (names.InitializeReader closed)) s).caused
unfolding row readable.reader_generic_initialize byte.reader_initialize
initialize-idle i closed s = grind arith

row-idle : (e : Effect) (s : Slots) → IsIdle e → Each IsIdle (row e s).caused
unfolding row
row-idle (OnReadable i (names.InitializeReader closed)) s d = initialize-idle i closed s
row-idle (StartAlgorithm i step start) s d = row-causes IsIdle (StartAlgorithm i step start) s (λ g u. tt, λ c u. tt)
row-idle (Give gift u) s d = tt
row-idle (Settle p o) s d = tt
row-idle (Queue m) s d = tt
row-idle (CallHost call u) s d = tt
row-idle _ s d = absurd d

idle-enters : (i : StreamId) (e : Effect) (s : Slots) → IsIdle e → (effect_flow i e s).entered ≡ []
idle-enters i (OnReadable j (names.InitializeReader closed)) s d = either (λ (f : Flow). f.entered ≡ []) (is_same i j) no_flow no_flow (λ e. refl) (λ e. refl)
idle-enters i (StartAlgorithm j step start) s d = refl
idle-enters i (Give gift u) s d = refl
idle-enters i (Settle p o) s d = refl
idle-enters i (Queue m) s d = refl
idle-enters i (CallHost call u) s d = refl
idle-enters i _ s d = absurd d

-- where the stream is over, or nothing is to be performed but what leads to no operation, nothing enters
get-other : (xs : List Stream) (y : Stream) (n : ℕ) → n ≢ length xs → slice_get (xs ++ y ∷ []) n ≡ slice_get xs n
get-other [] y zero other = absurd (other refl)
get-other [] y (suc n) other = refl
get-other (x ∷ xs) y zero other = refl
get-other (x ∷ xs) y (suc n) other = get-other xs y n (λ e. other (ap suc e))

get-none : {X Y : Type 0} (f : X → Y) (xs : List X) → slice_get (map f xs) (length xs) ≡ None
get-none f [] = refl
get-none f (x ∷ xs) = get-none f xs

module _ (i : StreamId) where
  abbrev Rests : Slots → List Effect → Type 0
  Rests s es = IsOver i s ⊎ Each IsIdle es

  rests-enter : (e : Effect) (s : Slots) (es : List Effect) → Rests s (e ∷ es) → (effect_flow i e s).entered ≡ []
  rests-enter e s es r = ⊎_elim (λ n. over-enters i e s n) (λ (d : Each IsIdle (e ∷ es)). idle-enters i e s d.0) r

  rests-on : (e : Effect) (s : Slots) (es : List Effect) → Rests s (e ∷ es) → Rests (row e s).slots ((row e s).caused ++ es)
  rests-on e s es r = ⊎_elim (λ n. inl (row-over i e s n)) (λ (d : Each IsIdle (e ∷ es)). inr (each-append IsIdle (row e s).caused es (row-idle e s d.0) d.1)) r

  rests-enters : (d : Done) → Rests d.slots d.caused → (along no_flow flow_then (effect_flow i) (moments d)).entered ≡ []
  rests-enters d r =
      let f : Flow = along no_flow flow_then (effect_flow i) (moments d) in
      ap (λ (g : Flow). g.entered) (sym (nothing_flows f))
      ∙ (performed-goes no_flow flow_then is_history (effect_flow i) (λ h s es. (h.entered ≡ []) × Rests s es)
      (λ h s e es k. (ap (λ vs. vs ++ (effect_flow i e s).entered) k.0 ∙ rests-enter e s es k.1, rests-on e s es k.1))
      no_flow d (refl, r)).0

  -- the stream is made at the end of a port, and no message comes
  abbrev IsNew : Begun → Type 0
  IsNew b = Each (entering.Quiet i false) b.done.caused × entering.Apart i false b.done.slots

  -- a call leaves the streams as they are, or makes some and begins with nothing else, or makes one at the end of a port
  abbrev Begins : Slots → Begun → Type 0
  Begins s b = (b.done.slots.streams ≡ s.streams) ⊎ (Each IsIdle b.done.caused ⊎ (IsOver i b.done.slots ⊎ IsNew b))

  made-over : (y : Stream) (s : Slots) → nat_eq i.0 (length s.streams) ≡ false → IsOver i s → IsOver i (making_calls.add_stream y s)
  made-over y s other n = rw (get-other s.streams y i.0 (unequal_numbers i.0 (length s.streams) other)) n

  no-old : (s : Slots) (j : StreamId) (x : StreamShape) (same : Bool) → same ≡ is_same i j → nat_eq i.0 (length s.streams) ≡ true → slice_get (stream_shapes s) j.0 ≡ Some x → same ≡ false
  no-old s j x false e new is = refl
  no-old s j x true e new is =
      let at : i ≡ j = same_id i j (sym e) in
      let wrong : slice_get (stream_shapes s) i.0 ≡ Some x = rw at is in
      let none : slice_get (stream_shapes s) i.0 ≡ None = rw (eq_numbers i.0 (length s.streams) new) (get-none stream_shape s.streams) in
      let both : ◌≡◌ {A = Option StreamShape} None (Some x) = sym none ∙ wrong in cc

  new-apart : (s z : Slots) → transform_shapes z ≡ transform_shapes s → tee_shapes z ≡ tee_shapes s → nat_eq i.0 (length s.streams) ≡ true → Halved s → entering.Apart i false z
  new-apart s z ts bs new halved = rw (ts, bs) (record {
    halves = λ t x is kind. no-old s x.readable _ (is_same i x.readable) refl new (halved.halves t x is).0;
    branches = λ t x is. let b = halved.branches t x is in (no-old s x.branch1 _ (is_same i x.branch1) refl new b.0, no-old s x.branch2 _ (is_same i x.branch2) refl new b.1);
    ends = λ yes. cc;
  })

  abbrev Sent : Slots → Side → StreamId → StreamId → Begun
  Sent s side source dest = let me : StreamId = record { 0 = length s.streams } in pipe_calls.sent_by me side s (pipe_calls.pipe_to source dest pipe_calls.no_prevent None (pipe_calls.add_port me s side))

  sent-new : (s : Slots) (side : Side) (source dest : StreamId) → Halved s → nat_eq i.0 (length s.streams) ≡ true → IsNew (Sent s side source dest)
  sent-new s ReadableSide source dest halved e = ((tt, (tt, (tt, (tt, (tt, (tt, (tt, tt))))))), new-apart s (Sent s ReadableSide source dest).done.slots refl refl e halved)
  sent-new s WritableSide source dest halved e = ((tt, (tt, (tt, (tt, (tt, (tt, (tt, tt))))))), new-apart s (Sent s WritableSide source dest).done.slots refl refl e halved)

  sent-over : (s : Slots) (side : Side) (source dest : StreamId) → nat_eq i.0 (length s.streams) ≡ false → IsOver i s → IsOver i (Sent s side source dest).done.slots
  sent-over s ReadableSide source dest e n = made-over (pipe_calls.end_of (record { 0 = length s.ports }) ReadableSide) s e n
  sent-over s WritableSide source dest e n = made-over (pipe_calls.end_of (record { 0 = length s.ports }) WritableSide) s e n

  sent-begins : (s : Slots) (side : Side) (source dest : StreamId) (new : Bool) → new ≡ nat_eq i.0 (length s.streams) → Halved s → IsOver i s → Begins s (Sent s side source dest)
  sent-begins s side source dest true e halved n = inr (inr (inr (sent-new s side source dest halved (sym e))))
  sent-begins s side source dest false e halved n = inr (inr (inl (sent-over s side source dest (sym e) n)))

  opened-idle : (s : Slots) (side : Side) → let me : StreamId = record { 0 = length s.streams } in Each IsIdle (pipe_calls.open_end side me s).done.caused
  opened-idle s ReadableSide = (tt, tt)
  opened-idle s WritableSide = (tt, tt)

  call-begins : (c : Call) (s : Slots) → Halved s → IsOver i s → Begins s (begin c s)
  call-begins c s halved over = each_call (Begins s) c s (record {
    unchanged = λ reply. inl refl;
    rejected = λ fault. inl refl;
    make_readable = λ mark size start. inr (inl (tt, tt));
    make_bytes = λ mark auto start. inr (inl (tt, tt));
    get_byob = λ i is e. inl refl;
    release_byob = λ l closed i e. inl refl;
    read_into = λ l i closed room element least e h. inl refl;
    enqueue_bytes = λ i b e is some can. inl refl;
    finish_bytes = λ i e is can. inl refl;
    make_request = λ i reply is. inl refl;
    respond = λ q i b e is can. inl refl;
    make_writable = λ mark size start. inr (inl (tt, tt));
    make_transform = λ kind m n start. inr (inl (grind arith));
    make_tee = λ i e is free untied. inr (inl (tt, (tt, (tt, (tt, tt)))));
    get_reader = λ i e. inl refl;
    get_writer = λ i e. inl refl;
    release_reader = λ l closed i e. inl refl;
    release_writer = λ l i w e f. inl refl;
    cancel = λ reason i. inl refl;
    read = λ l i closed e h. inl refl;
    write = λ l v i e. inl refl;
    close = λ i. inl refl;
    abort = λ reason i e. inl refl;
    enqueue = λ i v e o can. inl refl;
    enqueue_half = λ i t v e o can. inl refl;
    finish = λ i. inl refl;
    fail_readable = λ i reason. inl refl;
    fail_writable = λ i reason. inl refl;
    fail_half = λ t reason. inl refl;
    terminate = λ t. inl refl;
    pipe = λ source dest prevent signal e f l m. inl refl;
    make_signal = inl refl;
    open_end = λ side. inr (inl (opened-idle s side));
    send_readable = λ source there free. sent-begins s WritableSide source (record { 0 = length s.streams }) (nat_eq i.0 (length s.streams)) refl halved over;
    send_writable = λ dest there free. sent-begins s ReadableSide (record { 0 = length s.streams }) dest (nat_eq i.0 (length s.streams)) refl halved over;
    deliver = λ p m e is. inl refl;
    trigger = λ a reason. inl refl;
    settle = λ h answer p e. inl refl;
  })

  job-streams : (s : Slots) (job : Option Job) → (job_begun s job).slots.streams ≡ s.streams
  job-streams s None = refl
  job-streams s (Some job) = refl

  no_state : (s : ReadableState) → s ≢ Readable → is_readable s ≡ false
  no_state Readable n = absurd (n refl)
  no_state Closed n = refl
  no_state Errored n = refl

  same-over : (s : Slots) (xs : List Stream) → xs ≡ s.streams → IsOver i s → is_readable (as_readable (slice_get xs i.0)).state ≡ false
  same-over s xs e n = rw e n

  pub entry_ended : (x : Entry) (s : Slots) → Halved s → (readable_at i s).state ≢ Readable → (step_flow i s x).entered ≡ []
  unfolding begin_job
  entry_ended (Called c) s halved n =
      let over = no_state (readable_at i s).state n in
      ⊎_elim (λ e. rests-enters (begin c s).done (inl (same-over s (begin c s).done.slots.streams e over)))
      (λ k. ⊎_elim (λ d. rests-enters (begin c s).done (inr d))
      (λ w. ⊎_elim (λ o. rests-enters (begin c s).done (inl o)) (λ new. entering.none_enters i false (begin c s).done new.0 new.1) w) k)
      (call-begins c s halved over)
  entry_ended Worked s halved n =
      let over = no_state (readable_at i s).state n in
      rests-enters (begin_job s) (inl (same-over s (begin_job s).slots.streams (job-streams s (next_job s.promises)) over))
  entry_ended Heard s halved n = rests-enters (record { slots = s; caused = [] }) (inr tt)
