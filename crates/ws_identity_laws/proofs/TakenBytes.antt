-- The chunks that a byte stream takes in (`each_take_of_bytes_is_told`).
use Rattle.std.proofs.Common.{◌≡◌, ℕ, Bool, true, false, not, ◌&&◌, if◌then◌else◌, List, [], ◌∷◌, ◌++◌, Option, Some, None, slice_get, refl, sym, ap, subst, ◌∙◌, arith, append_assoc, append-nil}
use Rattle.ws_value.specs.declared.{ids.PipeId.{PipeId}, ids.StreamId.{StreamId}, value.Value.{Value}, value.Value.TheVariants.{Plain as PlainValue, Bytes}}
use Rattle.ws_steps.specs.declared.byte.{ByteOperation.TheVariants.{Enqueue as EnqueueBytes}}
use Rattle.ws_steps.specs.declared.calls.{Call.{Call}, Call.TheVariants.{Enqueue as EnqueueCall}}
use Rattle.ws_steps.specs.declared.effects.{Effect.{Effect}, Owner.{Owner}, Owner.TheVariants.{Host, HalfOf, BranchOf, EndOf}}
use Rattle.ws_steps.specs.declared.effects.Effect.TheVariants.{Readable as OnReadable, Byte as OnByte, Writable as OnWritable, Pipe as OnPipe, Signal as OnSignal, Transform as OnTransform, Tee as OnTee, Port as OnPort, StartAlgorithm, PullAlgorithm, CancelAlgorithm, WriteAlgorithm, CloseAlgorithm, AbortAlgorithm, ChunkSteps, CloseSteps, CloseStepsWith, ErrorSteps}
use Rattle.ws_steps.specs.declared.pipes.SignalOperation.TheVariants.{Add, Forget, Trigger}
use Rattle.ws_steps.specs.declared.promises.Job.{Job}
use Rattle.ws_steps.specs.declared.readable.{ReadRequest.TheVariants.{Promise, Pipe as PipeRequest, Tee as TeeRequest}, ReadableOperation.{ReadableOperation}, ReadableOperation.TheVariants.{Enqueue}}
use Rattle.ws_steps.specs.declared.transform.TransformId.{TransformId}
use Rattle.ws_steps.specs.Bytes as byte
use Rattle.ws_steps.specs.Begun as replying
use Rattle.ws_steps.specs.ControllerCalls as controller_calls
use Rattle.ws_steps.specs.Begun.{Begun, unsupported}
use Rattle.ws_steps.specs.Calls.{begin}
use Rattle.ws_steps.specs.Histories.{is_same, in_step, over}
use Rattle.ws_steps.specs.Jobs.{job_effects, job_begun, begin_job}
use Rattle.ws_steps.specs.Promises.{next_job}
use Rattle.ws_steps.specs.Queues.{is_empty}
use Rattle.ws_steps.specs.Readable as readable
use Rattle.ws_steps.specs.Readable.{can_close_or_enqueue}
use Rattle.ws_steps.specs.ReadableHistory.{accepted_by, accepted_in_step, accepted}
use Rattle.ws_steps.specs.Run.{Entry, Called, Worked, Heard, begun_by, step}
use Rattle.ws_steps.specs.Slots.{Slots, Done, has_readable, has_byte, byte_at, source_at, readable_at, as_source}
use Rattle.ws_steps.specs.Turns.{row}
use Rattle.ws_laws.proofs.EachCall.{each_call}
use Rattle.ws_laws.proofs.Lists.{Each, each-append, each-map}
use Rattle.ws_laws.proofs.PipeDoes.{PipeCauses}
use Rattle.ws_laws.proofs.Causes.{Causes, row-causes}
use Rattle.ws_laws.proofs.StaysBytes.{row-byte, begin-byte, run-byte}
use Rattle.ws_laws.proofs.Tables.{either, same_id, is_same-refl, byte_there}
use Rattle.ws_laws.proofs.TransformDoes.{TransformCauses}
use Rattle.ws_laws.proofs.Walker.{IsHistory, performed-goes}
use Rattle.ws_link_laws.specs.Link.{OfByteSource, silence, giver_at}
use Rattle.ws_link_laws.specs.Entering.{entered}
use Rattle.ws_steps.specs.declared.transform.TransformOperation.TheVariants.{Enqueue as EnqueueByTransform}
use Rattle.ws_identity_laws.specs.Passing.{taken}
use Rattle.ws_identity_laws.specs.Told.{EachTakeOfBytesIsTold}
use Rattle.ws_identity_laws.proofs.Entered.{items_of, takes-run}
use Rattle.ws_identity_laws.proofs.Takes.{open_at}
use Rattle.ws_value.specs.declared.ids.TeeId.{TeeId}
use Rattle.ws_value.specs.declared.ids.PortId.{PortId}
use Rattle.ws_laws.proofs.TeeDoes.{TeeCauses}
use Rattle.ws_laws.proofs.PortDoes.{PortCauses}

-- no effect causes an operation of a byte controller

abbrev IsNoByte : Effect → Type 0
IsNoByte (OnByte j operation) = ⊥
IsNoByte _ = Unit {0}

pipe-none : (p : PipeId) (source dest : StreamId) (e : Effect) → PipeCauses p source dest e → IsNoByte e
pipe-none p source dest (OnByte j operation) c = absurd c
pipe-none p source dest _ c = tt

transform-none : (t : TransformId) (writable readable : StreamId) (e : Effect) → TransformCauses t writable readable e → IsNoByte e
transform-none t writable readable (OnByte j operation) c = absurd c
transform-none t writable readable _ c = tt

tee-none : (u : TeeId) (source first second : StreamId) (e : Effect) → TeeCauses u source first second e → IsNoByte e
tee-none u source first second (OnByte j operation) c = absurd c
tee-none u source first second _ c = tt

port-none : (u : PortId) (stream : StreamId) (e : Effect) → PortCauses u stream e → IsNoByte e
port-none u stream (OnByte j operation) c = absurd c
port-none u stream _ c = tt

causes-none : (e : Effect) → Causes IsNoByte e
causes-none (OnReadable j operation) = record { pull = tt; cancel = λ c p. tt; chunk = λ c v. tt; close = λ c. tt; error = λ c e. tt }
causes-none (OnByte j operation) = record { readable = record { pull = tt; cancel = λ c p. tt; chunk = λ c v. tt; close = λ c. tt; error = λ c e. tt }; close_with = λ c b. tt }
causes-none (OnWritable j operation) = record { write = tt; close = tt; abort = λ c p. tt; hand_on = λ v. tt; take = λ v u d. tt; post = λ v u d. tt }
causes-none (StartAlgorithm j step start) = (λ g u. tt, λ c u. tt)
causes-none (PullAlgorithm j) = (λ c u. tt, (λ y u. tt, (λ k. tt, (λ u. tt, λ q. tt))))
causes-none (CancelAlgorithm j c p) = (λ c u. tt, (λ y u. tt, (λ k half u. tt, λ y u. tt)))
causes-none (WriteAlgorithm j) = (tt, (λ y u. tt, λ z u. tt))
causes-none (CloseAlgorithm j) = (λ c u. tt, (λ y u. tt, λ z u. tt))
causes-none (AbortAlgorithm j c p) = (λ c u. tt, (λ y u. tt, λ z u. tt))
causes-none (OnPipe p operation) = pipe-none p
causes-none (OnSignal a (Trigger c)) = λ p. tt
causes-none (OnSignal a (Add p)) = tt
causes-none (OnSignal a (Forget p)) = tt
causes-none (OnTransform u operation) = transform-none u
causes-none (OnTee u operation) = tee-none u
causes-none (OnPort u operation) = port-none u
causes-none (ChunkSteps j (Promise p) v) = tt
causes-none (ChunkSteps j (PipeRequest p) v) = tt
causes-none (ChunkSteps j (TeeRequest k) v) = tt
causes-none (CloseSteps j (Promise p)) = tt
causes-none (CloseSteps j (PipeRequest p)) = tt
causes-none (CloseSteps j (TeeRequest k)) = tt
causes-none (CloseStepsWith j (Promise p) b) = tt
causes-none (CloseStepsWith j (PipeRequest p) b) = tt
causes-none (CloseStepsWith j (TeeRequest k) b) = tt
causes-none (ErrorSteps j (Promise p) e) = tt
causes-none (ErrorSteps j (PipeRequest p) e) = tt
causes-none (ErrorSteps j (TeeRequest k) e) = tt
causes-none _ = tt

row-none : (e : Effect) (s : Slots) → Each IsNoByte (row e s).caused
row-none e s = row-causes IsNoByte e s (causes-none e)

job-none : (job : Job) → Each IsNoByte (job_effects job)
job-none job = grind arith

-- only a call that enqueues bytes begins with an operation that does

abbrev IsPut : Call → Effect → Type 0
IsPut c (OnByte j (EnqueueBytes b)) = c ≡ EnqueueCall j (Bytes b)
IsPut c _ = Unit {0}

begin-put : (c : Call) (s : Slots) → Each (IsPut c) (begin c s).done.caused
begin-put c s = each_call (λ (b : Begun). Each (IsPut c) b.done.caused) c s (grind arith)

module _ (i : StreamId) where
  -- the chunks that stand on the agenda
  abbrev puts_of : Effect → List Value
  puts_of (OnByte j (EnqueueBytes b)) = if is_same i j then Bytes b ∷ [] else []
  puts_of _ = []

  abbrev puts : List Effect → List Value
  puts [] = []
  puts (e ∷ es) = puts_of e ++ puts es

  abbrev Calm : Effect → Type 0
  Calm e = puts_of e ≡ []

  no-byte : (e : Effect) → IsNoByte e → Calm e
  no-byte (OnByte j operation) n = absurd n
  no-byte _ n = refl

  calm-puts : (es : List Effect) → Each Calm es → puts es ≡ []
  calm-puts [] n = refl
  calm-puts (e ∷ es) n = let a = n.0 in let b = calm-puts es n.1 in rw (a, b) refl

  puts-append : (es fs : List Effect) → puts (es ++ fs) ≡ puts es ++ puts fs
  puts-append [] fs = refl
  puts-append (e ∷ es) fs = ap (λ vs. puts_of e ++ vs) (puts-append es fs) ∙ sym (append_assoc (puts_of e) (puts es) (puts fs))

  -- one is some bytes, where the stream can take them
  abbrev Placed : Slots → Effect → Type 0
  Placed s (OnByte j (EnqueueBytes b)) = is_same i j ≡ true → (is_empty b ≡ false) × (open_at i s ≡ true)
  Placed s _ = Unit {0}

  -- one stands at the front alone
  abbrev Enters : Slots → List Effect → Type 0
  Enters s [] = Unit {0}
  Enters s (e ∷ es) = Placed s e × Each Calm es

  placed-calm : (s : Slots) (e : Effect) → Calm e → Placed s e
  placed-calm s (OnByte j (EnqueueBytes b)) n = λ same. let no : Bytes b ∷ [] ≡ [] = rw same at n in cc
  placed-calm s _ n = tt

  enters-calm : (s : Slots) (es : List Effect) → Each Calm es → Enters s es
  enters-calm s [] n = tt
  enters-calm s (e ∷ es) n = (placed-calm s e n.0, n.1)

  -- what an effect brings to a byte stream

  some-bytes : (b : List ℕ) (s : Slots) → has_byte i s ≡ true → is_empty b ≡ false → open_at i s ≡ true → items_of i (OnByte i (EnqueueBytes b)) s ≡ Bytes b ∷ []
  some-bytes [] s is some o = cc
  some-bytes (n ∷ ns) s is some o =
      let self = is_same-refl i in
      let gives : giver_at i s ≡ OfByteSource = rw is refl in
      rw (items_of, self, gives, o) refl

  shared-items : (operation : ReadableOperation) (r : readable.Slots) → (taken r (entered OfByteSource operation)).items ≡ []
  shared-items operation r = grind arith

  own-shared : (operation : ReadableOperation) (s : Slots) → has_byte i s ≡ true → items_of i (OnReadable i operation) s ≡ []
  own-shared operation s is =
      let self = is_same-refl i in
      let gives : giver_at i s ≡ OfByteSource = rw is refl in
      rw (items_of, self, gives) (shared-items operation (source_at i s))

  nothing-taken : (same : Bool) (r : readable.Slots) → (if same then taken r silence else silence).items ≡ []
  nothing-taken same r = grind arith

  brought : (e : Effect) (s : Slots) → has_byte i s ≡ true → Placed s e → items_of i e s ≡ puts_of e
  brought (OnReadable j operation) s is p = by (is_same i j) refl
    where
      by : (same : Bool) → same ≡ is_same i j → items_of i (OnReadable j operation) s ≡ []
      by false n = rw (items_of, ← n) refl
      by true n = subst (λ (k : StreamId). items_of i (OnReadable k operation) s ≡ []) (same_id i j (sym n)) (own-shared operation s is)
  brought (OnByte j (EnqueueBytes b)) s is p = by (is_same i j) refl
    where
      by : (same : Bool) → same ≡ is_same i j → items_of i (OnByte j (EnqueueBytes b)) s ≡ puts_of (OnByte j (EnqueueBytes b))
      by false n = rw (items_of, ← n) refl
      by true n =
          let k = p (sym n) in
          let self = is_same-refl i in
          subst (λ (k : StreamId). items_of i (OnByte k (EnqueueBytes b)) s ≡ puts_of (OnByte k (EnqueueBytes b))) (same_id i j (sym n)) (some-bytes b s is k.0 k.1 ∙ rw self refl)
  brought (OnByte j operation) s is p = nothing-taken (is_same i j) (source_at j s)
  brought e s is p = refl

  -- a step

  record Steps (base : List Value) (h : List Value) (s : Slots) (es : List Effect) : Type 0 where
    there : has_byte i s ≡ true
    even : base ≡ h ++ puts es
    enters : Enters s es

  lists : (base h now caused es : List Value) → base ≡ h ++ (now ++ es) → es ≡ [] → caused ≡ [] → base ≡ (h ++ now) ++ (caused ++ es)
  lists base h now caused es e f g = grind (arith, append_assoc, append-nil, e, f, g)

  row-steps : (base h : List Value) (s : Slots) (e : Effect) (es : List Effect) → Steps base h s (e ∷ es) → Steps base (h ++ items_of i e s) (row e s).slots ((row e s).caused ++ es)
  row-steps base h s e es k =
      let none : Each Calm (row e s).caused = each-map IsNoByte Calm no-byte (row e s).caused (row-none e s) in
      let items = brought e s k.there k.enters.0 in
      let more = puts-append (row e s).caused es in
      record {
        there = row-byte i e s ∙ k.there;
        even = rw (items, more) (lists base h (puts_of e) (puts (row e s).caused) (puts es) k.even (calm-puts es k.enters.1) (calm-puts (row e s).caused none));
        enters = enters-calm (row e s).slots ((row e s).caused ++ es) (each-append Calm (row e s).caused es none k.enters.1);
      }

  are_lists : IsHistory {H = List Value} [] ◌++◌
  are_lists = record { left = λ vs. refl; right = append-nil; assoc = append_assoc }

  -- what a call begins with

  abbrev Starts : Begun → List Value → Type 0
  Starts b base = Enters b.done.slots b.done.caused × (base ≡ puts b.done.caused)

  put-calm : (c : Call) → ((j : StreamId) (v : Value) → c ≡ EnqueueCall j v → ⊥) → (e : Effect) → IsPut c e → Calm e
  put-calm c none (OnByte j (EnqueueBytes b)) p = absurd (none j (Bytes b) p)
  put-calm c none (OnByte j operation) p = refl
  put-calm c none _ p = refl

  bytes-start : (s : Slots) (j : StreamId) (v : Value) → has_byte j s ≡ true → Starts (controller_calls.enqueue_bytes j s v) (accepted_by i (EnqueueCall j v) (controller_calls.enqueue_bytes j s v).reply)
  bytes-start s j (PlainValue v) is = (tt, refl)
  bytes-start s j (Bytes b) is =
      either (λ (x : Begun). Starts x (accepted_by i (EnqueueCall j (Bytes b)) x.reply)) (not (is_empty b) && byte.can_take (byte_at j s)) (replying.does (OnByte j (EnqueueBytes b) ∷ []) s) (replying.throws_type_error s)
      (λ can. ((λ same. (left (is_empty b) _ can, opened same (right (not (is_empty b)) _ can)), tt), sym (append-nil (if is_same i j then Bytes b ∷ [] else [])))) (λ cannot. (tt, refl))
    where
      left : (a b : Bool) → not a && b ≡ true → a ≡ false
      left a b e = grind (arith, e)

      right : (a b : Bool) → a && b ≡ true → b ≡ true
      right a b e = grind (arith, e)

      opened : is_same i j ≡ true → byte.can_take (byte_at j s) ≡ true → open_at i s ≡ true
      opened same can =
          let at : open_at j s ≡ true = ap (λ o. can_close_or_enqueue (as_source o)) (byte_there (slice_get s.streams j.0) is) ∙ can in
          subst (λ (k : StreamId). open_at k s ≡ true) (sym (same_id i j same)) at

  -- another stream
  abbrev Elsewhere : StreamId → Value → Begun → Type 0
  Elsewhere j v b = Each Calm b.done.caused × (accepted_by i (EnqueueCall j v) b.reply ≡ [])

  owner-none : (s : Slots) (j : StreamId) (v : Value) (owner : Owner) → is_same i j ≡ false → Elsewhere j v (controller_calls.enqueue_by v j s owner)
  owner-none s j v Host n = either (Elsewhere j v) (can_close_or_enqueue (readable_at j s)) (replying.does (OnReadable j (Enqueue v) ∷ []) s) (replying.throws_type_error s) (λ can. ((refl, tt), rw n refl)) (λ cannot. (tt, refl))
  owner-none s j v (HalfOf u) n = either (Elsewhere j v) (can_close_or_enqueue (readable_at j s)) (replying.does (OnTransform u (EnqueueByTransform v) ∷ []) s) (replying.throws_type_error s) (λ can. ((refl, tt), rw n refl)) (λ cannot. (tt, refl))
  owner-none s j v (BranchOf u half) n = (tt, refl)
  owner-none s j v (EndOf c) n = (tt, refl)

  other-start : (s : Slots) (j : StreamId) (v : Value) → is_same i j ≡ false → let b : Begun = replying.for_readable j (controller_calls.enqueue v j) s in Starts b (accepted_by i (EnqueueCall j v) b.reply)
  other-start s j v n =
      either (λ (b : Begun). Starts b (accepted_by i (EnqueueCall j v) b.reply)) (has_readable j s) (controller_calls.enqueue v j s) (unsupported s)
      (λ there. let k = owner-none s j v (readable_at j s).owner n in (enters-calm (controller_calls.enqueue v j s).done.slots _ k.0, k.1 ∙ sym (calm-puts _ k.0))) (λ absent. (tt, refl))

  call-starts : (c : Call) (s : Slots) → has_byte i s ≡ true → Starts (begin c s) (accepted_by i c (begin c s).reply)
  unfolding begin
  call-starts (EnqueueCall j v) s is =
      either (λ (b : Begun). Starts b (accepted_by i (EnqueueCall j v) b.reply)) (has_byte j s) (controller_calls.enqueue_bytes j s v) (replying.for_readable j (controller_calls.enqueue v j) s)
      (λ there. bytes-start s j v there) (λ isnt. other-start s j v (apart isnt))
    where
      apart : has_byte j s ≡ false → is_same i j ≡ false
      apart isnt = by (is_same i j) refl
        where
          by : (b : Bool) → b ≡ is_same i j → is_same i j ≡ false
          by false e = sym e
          by true e = let no : has_byte i s ≡ false = subst (λ (k : StreamId). has_byte k s ≡ false) (sym (same_id i j (sym e))) isnt in absurd (cc)
  call-starts c s is =
      let n = each-map (IsPut c) Calm (put-calm c (λ j v e. cc)) (begin c s).done.caused (begin-put c s) in
      (enters-calm (begin c s).done.slots (begin c s).done.caused n, sym (calm-puts (begin c s).done.caused n))

  job-calm : (s : Slots) (job : Option Job) → Each Calm (job_begun s job).caused
  job-calm s None = tt
  job-calm s (Some job) = each-map IsNoByte Calm no-byte (job_effects job) (job-none job)

  job-there : (s : Slots) (job : Option Job) → has_byte i s ≡ true → has_byte i (job_begun s job).slots ≡ true
  job-there s None is = is
  job-there s (Some job) is = is

  entry-starts : (x : Entry) (s : Slots) → has_byte i s ≡ true → Steps (accepted_in_step i s x) [] (begun_by s x).slots (begun_by s x).caused
  unfolding begin_job
  entry-starts (Called c) s is = let k = call-starts c s is in record { there = begin-byte i c s is; even = k.1; enters = k.0 }
  entry-starts Worked s is =
      let n = job-calm s (next_job s.promises) in
      record { there = job-there s (next_job s.promises) is; even = sym (calm-puts (job_begun s (next_job s.promises)).caused n); enters = enters-calm (job_begun s (next_job s.promises)).slots (job_begun s (next_job s.promises)).caused n }
  entry-starts Heard s is = record { there = is; even = refl; enters = tt }

  step-items : (x : Entry) (s : Slots) → has_byte i s ≡ true → in_step [] ◌++◌ (items_of i) s x ≡ accepted_in_step i s x
  step-items x s is =
      let d : Done = begun_by s x in
      let k = performed-goes [] ◌++◌ are_lists (items_of i) (Steps (accepted_in_step i s x)) (row-steps (accepted_in_step i s x)) [] d (entry-starts x s is) in
      sym (k.even ∙ append-nil (in_step [] ◌++◌ (items_of i) s x))

  run-items : (xs : List Entry) (s : Slots) → has_byte i s ≡ true → over [] ◌++◌ (in_step [] ◌++◌ (items_of i)) xs s ≡ accepted i xs s
  run-items [] s is = refl
  run-items (x ∷ xs) s is = let a = step-items x s is in let b = run-items xs (step s x) (run-byte i (x ∷ []) s is) in rw (a, b) refl

pub each_take_of_bytes_is_told : EachTakeOfBytesIsTold
each_take_of_bytes_is_told s entries i is = takes-run i entries s ∙ run-items i entries s is
