-- What enters a byte stream is what calls that are answered Done enqueue and respond.
use Rattle.std.proofs.Common.{◌≡◌, ◌≢◌, ℕ, Bool, true, false, List, [], ◌∷◌, ◌++◌, length, Option, Some, None, slice_get, refl, sym, ap, ◌∙◌, append-nil, ◌&&◌, not, arith, if◌then◌else◌}
use Rattle.std.specs.Prelude.{is_none}
use Rattle.ws_steps.specs.Bytes.{can_take}
use Rattle.ws_steps.specs.Descriptors.{Descriptor}
use Rattle.ws_steps.specs.Queues.{is_empty}
use Rattle.ws_steps.specs.ByteHistory.{ByteFlow, no_bytes, bytes_then, entered_into, entered_by, shared_bytes, own_bytes, effect_bytes, step_bytes, value_bytes}
use Rattle.ws_steps.specs.declared.readable.ReadableState.{ReadableState}
use Rattle.ws_steps.specs.declared.readable.ReadableState.TheVariants.{Readable, Closed, Errored}
use Rattle.ws_steps.specs.declared.byte.ByteOperation.{ByteOperation}
use Rattle.ws_steps.specs.declared.effects.Effect.{Effect}
use Rattle.ws_steps.specs.declared.effects.Effect.TheVariants.{ChunkSteps, CloseStepsWith}
use Rattle.ws_value.specs.declared.ids.StreamId.{StreamId}
use Rattle.ws_value.specs.declared.value.Value.TheVariants.{Bytes}
use Rattle.ws_laws.proofs.Tables.{either}
use Rattle.ws_byte_laws.proofs.Law.{both_right}
use Rattle.ws_byte_laws.proofs.OnByte.{is_history}
use Rattle.ws_byte_laws.proofs.Steps.{IsNoByte, row-other}
use Rattle.ws_steps.specs.Readable as readable
use Rattle.ws_value.specs.declared.fault.Fault.{Fault}
use Rattle.ws_value.specs.declared.ids.RequestId.{RequestId}
use Rattle.ws_value.specs.declared.value.Value.{Value}
use Rattle.ws_value.specs.declared.value.Value.TheVariants.{Plain as PlainValue}
use Rattle.ws_steps.specs.declared.byte.ByteOperation.TheVariants as own
use Rattle.ws_steps.specs.declared.{calls.Call.{Call}, calls.Call.TheVariants.{Enqueue as EnqueueCall, Respond as RespondCall}, promises.Job.{Job}}
use Rattle.ws_steps.specs.declared.calls.Reply.{Reply}
use Rattle.ws_steps.specs.declared.calls.Reply.TheVariants.{Done as ReplyDone}
use Rattle.ws_steps.specs.declared.effects.Effect.TheVariants.{Readable as OnReadable, Byte}
use Rattle.ws_steps.specs.Bytes as byte
use Rattle.ws_steps.specs.Slots as realm
use Rattle.ws_steps.specs.Slots.{Stream, Done, has_byte, has_readable, readable_at, byte_at, is_byte_stream, as_byte, empty, causes, no_byte, stream_of_request}
use Rattle.ws_steps.specs.Descriptors.{respond_throws}
use Rattle.ws_steps.specs.Begun.{Begun, unsupported}
use Rattle.ws_steps.specs.Calls.{begin}
use Rattle.ws_steps.specs.Begun as replying
use Rattle.ws_steps.specs.ControllerCalls as controller_calls
use Rattle.ws_steps.specs.Jobs.{job_effects, job_begun, begin_job}
use Rattle.ws_steps.specs.Promises.{next_job}
use Rattle.ws_steps.specs.Turns.{row, moments}
use Rattle.ws_steps.specs.Run.{Entry, Called, Worked, Heard}
use Rattle.ws_steps.specs.Histories.{is_same, along}
use Rattle.ws_steps.specs.ByteHistory.{accepted_by, accepted_in_step, responded_to}
use Rattle.ws_room_laws.proofs.Turns.{moments_next, moments_none}
use Rattle.ws_laws.proofs.Tables.{same_id, eq_numbers}
use Rattle.ws_laws.proofs.Lists.{Each, each-append, each-map}
use Rattle.ws_laws.proofs.EachCall.{each_call}
use Rattle.ws_laws.proofs.Walker.{performed-goes}
use Rattle.ws_byte_laws.specs.Descriptors.{Backed}

-- effects that let nothing into a byte stream
abbrev IsIdle : Effect → Type 0
IsIdle (Byte j (own.Enqueue b)) = ⊥
IsIdle (Byte j (own.Respond b)) = ⊥
IsIdle _ = Unit {0}

other_idle : (e : Effect) → IsNoByte e → IsIdle e
other_idle (Byte j op) n = absurd n
other_idle _ n = tt

-- whether a call lets bytes in
abbrev lets_in : Call → Bool
lets_in (EnqueueCall j v) = true
lets_in (RespondCall q b) = true
lets_in _ = false

abbrev IsIdleFor : Call → Effect → Type 0
IsIdleFor c (Byte j (own.Enqueue b)) = lets_in c ≡ true
IsIdleFor c (Byte j (own.Respond b)) = lets_in c ≡ true
IsIdleFor c _ = Unit {0}

call_idle : (c : Call) (s : realm.Slots) → Each (IsIdleFor c) (begin c s).done.caused
call_idle c s = each_call (λ (b : Begun). Each (IsIdleFor c) b.done.caused) c s (grind arith)

idle_for : (c : Call) → lets_in c ≡ false → (e : Effect) → IsIdleFor c e → IsIdle e
idle_for c n (Byte j (own.Enqueue b)) k = cc
idle_for c n (Byte j (own.Respond b)) k = cc
idle_for c n _ k = tt

job_idle : (job : Job) → Each IsIdle (job_effects job)
job_idle job = grind arith

module _ (i : StreamId) where
  -- what enters stream i by the effects of a call or a job that begins so
  abbrev pub enters : Done → List ℕ
  enters d = (along no_bytes bytes_then (effect_bytes i) (moments d)).entered

  if_enters : (c : Bool) (f : ByteFlow) → f.entered ≡ [] → (if c then f else no_bytes).entered ≡ []
  if_enters true f e = e
  if_enters false f e = refl

  idle_enters : (e : Effect) (s : realm.Slots) → IsIdle e → (effect_bytes i e s).entered ≡ []
  idle_enters (OnReadable j op) s n = if_enters (is_same i j) (shared_bytes op (byte_at j s) (byte_at j (row (OnReadable j op) s).slots)) refl
  idle_enters (Byte j (own.Enqueue b)) s n = absurd n
  idle_enters (Byte j (own.Respond b)) s n = absurd n
  idle_enters (Byte j op) s n = if_enters (is_same i j) (own_bytes op (byte_at j s) (byte_at j (row (Byte j op) s).slots)) refl
  idle_enters (ChunkSteps j q v) s n = if_enters (is_same i j) (record no_bytes { given = value_bytes v }) refl
  idle_enters (CloseStepsWith j q b) s n = if_enters (is_same i j) (record no_bytes { given = b }) refl
  idle_enters _ s n = refl

  none_enters : (d : Done) → Each IsIdle d.caused → enters d ≡ []
  none_enters d idle =
      (performed-goes no_bytes bytes_then is_history (effect_bytes i) (λ h s es. (h.entered ≡ []) × Each IsIdle es)
      (λ h s e es k. (
        ap (λ bs. bs ++ (effect_bytes i e s).entered) k.0 ∙ idle_enters e s k.1.0,
        each-append IsIdle (row e s).caused es (each-map IsNoByte IsIdle other_idle (row e s).caused (row-other e s)) k.1.1,
      ))
      no_bytes d (refl, idle)).0

  none-of : (s : realm.Slots) → enters (causes [] s) ≡ []
  none-of s = ap (λ ms. (along no_bytes bytes_then (effect_bytes i) ms).entered) (moments_none s)

  enters-next : (s : realm.Slots) (e : Effect) (es : List Effect) → enters (causes (e ∷ es) s) ≡ (effect_bytes i e s).entered ++ enters (causes ((row e s).caused ++ es) (row e s).slots)
  enters-next s e es = ap (λ ms. (along no_bytes bytes_then (effect_bytes i) ms).entered) (moments_next s e es)

  -- of one effect
  alone-enters : (s : realm.Slots) (e : Effect) → enters (causes (e ∷ []) s) ≡ (effect_bytes i e s).entered
  alone-enters s e =
      let idle : Each IsIdle ((row e s).caused ++ []) = each-append IsIdle (row e s).caused [] (each-map IsNoByte IsIdle other_idle (row e s).caused (row-other e s)) tt in
      enters-next s e [] ∙ (ap (λ bs. (effect_bytes i e s).entered ++ bs) (none_enters (causes ((row e s).caused ++ []) (row e s).slots) idle) ∙ append-nil _)

  own_enters : (j : StreamId) (op : ByteOperation) (s : realm.Slots) (same : Bool) (y : byte.Slots) → (if same then own_bytes op (byte_at j s) y else no_bytes).entered ≡ (if same then entered_by op (byte_at j s) else [])
  own_enters j op s true y = refl
  own_enters j op s false y = refl

  byte-enters : (j : StreamId) (op : ByteOperation) (s : realm.Slots) → enters (causes (Byte j op ∷ []) s) ≡ (if is_same i j then entered_by op (byte_at j s) else [])
  byte-enters j op s = alone-enters s (Byte j op) ∙ own_enters j op s (is_same i j) (byte_at j (row (Byte j op) s).slots)

  -- an enqueue

  enqueue_accepted : (j : StreamId) (v : Value) (s : realm.Slots) → has_byte j s ≡ true → enters (controller_calls.enqueue_bytes j s v).done ≡ accepted_by i (EnqueueCall j v) s (controller_calls.enqueue_bytes j s v).reply
  enqueue_accepted j (PlainValue v) s is = none-of s
  enqueue_accepted j (Bytes b) s is =
      either (λ (c : Begun). enters c.done ≡ accepted_by i (EnqueueCall j (Bytes b)) s c.reply) (not (is_empty b) && byte.can_take (byte_at j s)) (replying.does (Byte j (own.Enqueue b) ∷ []) s) (replying.throws_type_error s)
      (λ can. byte-enters j (own.Enqueue b) s ∙ both (is_same i j) (has_byte j s) (can_take (byte_at j s)) b is (both_right (not (is_empty b)) (byte.can_take (byte_at j s)) can))
      (λ cannot. none-of s)
    where
      both : (same h c : Bool) (b : List ℕ) → h ≡ true → c ≡ true → (if same then (if c then b else []) else []) ≡ (if same && h then b else [])
      both true h c b e f = rw (e, f) refl
      both false h c b e f = refl

  -- a response

  no_bytes_of : (b : List ℕ) (ds : List Descriptor) → respond_throws (length b) Closed ds ≡ None → b ≡ []
  no_bytes_of [] ds e = refl
  no_bytes_of (x ∷ b) ds e = cc

  some_descriptor : (ds : List Descriptor) (b : List ℕ) → ds ≢ [] → entered_into ds b ≡ b
  some_descriptor [] b n = absurd (n refl)
  some_descriptor (d ∷ ds) b n = refl

  let_in : (x : byte.Slots) (q : RequestId) (b : List ℕ) (state : ReadableState) → state ≡ x.stream.state → Backed x → x.request ≡ Some q → respond_throws (length b) state x.descriptors ≡ None
      → (if is_none (respond_throws (length b) state x.descriptors) && readable.is_readable state then entered_into x.descriptors b else []) ≡ b
  let_in x q b Readable e f r t = rw t (some_descriptor x.descriptors b (λ n. let k = f.live (sym e) n in absurd (cc)))
  let_in x q b Closed e f r t = rw t (sym (no_bytes_of b x.descriptors t))
  let_in x q b Errored e f r t = let k = f.dead (sym e) in absurd (cc)

  if_same : (c : Bool) (b d : List ℕ) → (c ≡ true → b ≡ d) → (if c then b else []) ≡ (if c then d else [])
  if_same true b d f = f refl
  if_same false b d f = refl

  respond_unless_accepted : (q : RequestId) (j : StreamId) (b : List ℕ) (s : realm.Slots) (fault : Option Fault) → stream_of_request q s ≡ Some j → (byte_at j s).request ≡ Some q
      → respond_throws (length b) (byte_at j s).stream.state (byte_at j s).descriptors ≡ fault → (has_byte i s ≡ true → Backed (byte_at i s))
      → enters (controller_calls.respond_unless j b s fault).done ≡ accepted_by i (RespondCall q b) s (controller_calls.respond_unless j b s fault).reply
  respond_unless_accepted q j b s None at r t f =
      byte-enters j (own.Respond b) s
      ∙ (if_same (is_same i j) _ b (λ same.
      let eq : i ≡ j = same_id i j same in
      let here : (byte_at i s).request ≡ Some q = rw eq r in
      let fits : Backed (byte_at j s) = rw eq at (f (there_is (slice_get s.streams i.0) q here)) in
      let_in (byte_at j s) q b (byte_at j s).stream.state refl fits r t)
      ∙ sym (ap (responded_to i b) at))
    where
      there_is : (o : Option Stream) (q : RequestId) → (as_byte o).request ≡ Some q → is_byte_stream o ≡ true
      there_is o q e = grind arith
  respond_unless_accepted q j b s (Some fault) at r t f = none-of s ∙ thrown fault
    where
      thrown : (fault : Fault) → [] ≡ accepted_by i (RespondCall q b) s (controller_calls.thrown_by fault)
      thrown fault = grind arith

  is_live : (q : RequestId) (r : Option RequestId) → controller_calls.is_request q r ≡ true → r ≡ Some q
  is_live q None e = cc
  is_live q (Some r) e = ap (λ (n : ℕ). Some (record { 0 = n })) (sym (eq_numbers q.0 r.0 e))

  respond_accepted : (q : RequestId) (b : List ℕ) (s : realm.Slots) (o : Option StreamId) → stream_of_request q s ≡ o → (has_byte i s ≡ true → Backed (byte_at i s))
      → enters (controller_calls.respond q b s o).done ≡ accepted_by i (RespondCall q b) s (controller_calls.respond q b s o).reply
  respond_accepted q b s None at f = none-of s
  respond_accepted q b s (Some j) at f =
      either (λ (c : Begun). enters c.done ≡ accepted_by i (RespondCall q b) s c.reply) (controller_calls.is_request q (byte_at j s).request)
      (controller_calls.respond_unless j b s (respond_throws (length b) (byte_at j s).stream.state (byte_at j s).descriptors)) (replying.throws_type_error s)
      (λ is. respond_unless_accepted q j b s (respond_throws (length b) (byte_at j s).stream.state (byte_at j s).descriptors) at (is_live q (byte_at j s).request is) refl f)
      (λ isnt. none-of s)

  if_none : (c : Bool) (b : List ℕ) → (if c && false then b else []) ≡ []
  if_none true b = refl
  if_none false b = refl

  not_byte : (j : StreamId) (v : Value) (s : realm.Slots) (reply : Reply) → has_byte j s ≡ false → accepted_by i (EnqueueCall j v) s reply ≡ []
  not_byte j v s ReplyDone n = rw n (if_none (is_same i j) (value_bytes v))
  not_byte j v s _ n = refl

  readable_idle : (j : StreamId) (v : Value) (s : realm.Slots) → Each IsIdle (replying.for_readable j (controller_calls.enqueue v j) s).done.caused
  readable_idle j v s = grind arith

  pub call_accepted : (c : Call) (s : realm.Slots) → (has_byte i s ≡ true → Backed (byte_at i s)) → enters (begin c s).done ≡ accepted_by i c s (begin c s).reply
  unfolding begin
  call_accepted (EnqueueCall j v) s f =
      either (λ (b : Begun). enters b.done ≡ accepted_by i (EnqueueCall j v) s b.reply) (has_byte j s) (controller_calls.enqueue_bytes j s v) (replying.for_readable j (controller_calls.enqueue v j) s)
      (λ is. enqueue_accepted j v s is)
      (λ isnt. none_enters (replying.for_readable j (controller_calls.enqueue v j) s).done (readable_idle j v s) ∙ sym (not_byte j v s (replying.for_readable j (controller_calls.enqueue v j) s).reply isnt))
  call_accepted (RespondCall q b) s f = respond_accepted q b s (stream_of_request q s) refl f
  call_accepted c s f = none_enters (begin c s).done (each-map (IsIdleFor c) IsIdle (idle_for c refl) (begin c s).done.caused (call_idle c s))

  begun_idle : (s : realm.Slots) (job : Option Job) → Each IsIdle (job_begun s job).caused
  begun_idle s None = tt
  begun_idle s (Some job) = job_idle job

  pub entry_accepted : (x : Entry) (s : realm.Slots) → (has_byte i s ≡ true → Backed (byte_at i s)) → (step_bytes i s x).entered ≡ accepted_in_step i s x
  unfolding begin_job
  entry_accepted (Called c) s f = call_accepted c s f
  entry_accepted Worked s f = none_enters (begin_job s) (begun_idle s (next_job s.promises))
  entry_accepted Heard s f = none-of s
