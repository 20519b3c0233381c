-- What each effect tells the host, and what it causes that is to tell it, by an ear that hears of the write or close algorithms of one stream.
use Rattle.std.proofs.Common.{◌≡◌, Bool, true, false, arith, List, [], ◌∷◌, ◌++◌, Result, if◌then◌else◌, refl, sym, ap, ◌∙◌, append_assoc, append-nil, Option, Some, None, slice_get}
use Rattle.ws_value.specs.declared.ids.PipeId.{PipeId}
use Rattle.ws_value.specs.declared.ids.PromiseId.{PromiseId}
use Rattle.ws_value.specs.declared.ids.SignalId.{SignalId}
use Rattle.ws_value.specs.declared.ids.StreamId.{StreamId}
use Rattle.ws_value.specs.declared.ids.TeeId.{TeeId}
use Rattle.ws_value.specs.declared.value.Outcome.{Outcome}
use Rattle.ws_value.specs.declared.value.Plain.{Plain}
use Rattle.ws_value.specs.declared.value.Value.{Value}
use Rattle.ws_steps.specs.declared.{calls.Event.{Event}, calls.Event.TheVariants.{Host as HostCalled, Signal}, calls.HostCall.{HostCall}}
use Rattle.ws_steps.specs.declared.{calls.HostCall.TheVariants.{Write as HostWrite, Close as HostClose, Transform as HostTransform, Flush as HostFlush, CancelTransform as HostCancelTransform}, effects.Effect.{Effect}, effects.Owner.{Owner}, effects.Owner.TheVariants.{Host, HalfOf, BranchOf, EndOf}}
use Rattle.ws_steps.specs.declared.effects.Effect.TheVariants.{Readable, Writable, Pipe, Signal as SignalEffect, Transform, Tee, Port, Queue, PullAlgorithm, CancelAlgorithm, WriteAlgorithm, CloseAlgorithm, AbortAlgorithm, ChunkSteps, CloseSteps, ErrorSteps, CallHost}
use Rattle.ws_steps.specs.declared.{effects.Gift.{Gift}, effects.Use.{Use}, promises.Job.{Job}, promises.Reaction.{Reaction}, readable.ReadableOperation.{ReadableOperation}}
use Rattle.ws_steps.specs.declared.{writable.WritableOperation.{WritableOperation}, writable.WritableOperation.TheVariants.{HandOn}}
use Rattle.ws_steps.specs.declared.{promises.Step.TheVariants.{ReadablePull, ReturnUndefined, WritableClose, WritableAbort}, effects.Use.TheVariants.{React}}
use Rattle.ws_steps.specs.declared.{transform.Taker.{Taker}, transform.Taker.TheVariants.{ToHost, ToTransform, ToPort}, transform.TransformId.{TransformId}, transform.TransformOperation.{TransformOperation}}
use Rattle.ws_steps.specs.Effects.{Out, cause}
use Rattle.ws_steps.specs.Operations.{writable_operation, pipe_operation, signal_operation, transform_operation, tee_operation}
use Rattle.ws_steps.specs.Promises.{Table, fresh, settle, answer, react, follow, unfollow, use_this, use_gift, queue_micro, tell, taken, after_next_job, watch}
use Rattle.ws_steps.specs.declared.{pipes.PipeOperation.{PipeOperation}, pipes.SignalOperation.{SignalOperation}, promises.Micro.{Micro}, readable.ReadRequest.TheVariants.{Promise, Pipe as PipeRequest, Tee as TeeRequest}}
use Rattle.ws_steps.specs.Pipes as pipe
use Rattle.ws_steps.specs.Pipes.{abort_all}
use Rattle.ws_steps.specs.Transform as transform
use Rattle.ws_steps.specs.Tee as tee
use Rattle.ws_steps.specs.declared.tee.TeeOperation.{TeeOperation}
use Rattle.ws_laws.proofs.TeeDoes.{TeeCauses, tee-causes, tee-does}
use Rattle.ws_steps.specs.Writable as writable
use Rattle.ws_steps.specs.Writable.{hand_on}
use Rattle.ws_steps.specs.Slots.{Slots, Done, found, ends_at, halves_at, owner_at, on_pipe_at, on_signal_at, on_transform_at, on_tee_at, on_writable, writable_at}
use Rattle.ws_steps.specs.Turns.{row, call_host, pull_algorithm, cancel_algorithm, write_algorithm, close_algorithm, abort_algorithm}
use Rattle.ws_steps.specs.Histories.{is_same}
use Rattle.ws_steps.specs.WritableHistory.{Writes, no_writes, writes_then, operation_writes, effect_writes}
use Rattle.ws_laws.proofs.Lists.{append_none}
use Rattle.ws_laws.proofs.PortDoes.{PortCauses, port-causes, port-does}
use Rattle.ws_value.specs.declared.ids.PortId.{PortId}
use Rattle.ws_steps.specs.Cross as cross
use Rattle.ws_steps.specs.declared.port.PortOperation.{PortOperation}
use Rattle.ws_steps.specs.declared.calls.Event.TheVariants.{Post}
use Rattle.ws_steps.specs.Operations.{port_operation}
use Rattle.ws_steps.specs.Slots.{on_port_at, clones_at}
use Rattle.ws_laws.proofs.Tables.{writable_acts, same_id}
use Rattle.ws_laws.proofs.Lists.{Each}
use Rattle.ws_laws.proofs.TransformDoes.{TransformCauses, transform-causes, transform-does}
use Rattle.ws_laws.proofs.PipeDoes.{PipeCauses, pipe-causes, pipe-does}
use Rattle.ws_laws.proofs.WritableDoes.{IsHandOn, others-do}
use Rattle.ws_writable_laws.proofs.Operations.{later_effects}
use Rattle.ws_steps.specs.Slots.{on_byte}
use Rattle.ws_steps.specs.Turns.{on_source}
use Rattle.ws_steps.specs.declared.effects.Effect.TheVariants.{Byte, CloseStepsWith}
use Rattle.ws_steps.specs.declared.byte.ByteOperation.{ByteOperation}
use Rattle.ws_steps.specs.Operations.{byte_operation}
use Rattle.ws_laws.proofs.ReadableDoes.{OfReadable}
use Rattle.ws_laws.proofs.Rows.{source-out, byte-out, out_of}

-- a way to hear of a host's write and close algorithms: what a call of one tells, and what a history told
pub record Ear : Type 0 where
  pub write : Value → List Value
  pub close : List Value
  pub history : Writes → List Value
  pub none : history no_writes ≡ []
  pub after : (f g : Writes) → history (writes_then f g) ≡ history f ++ history g
  pub acts : (v : Value) → history (record no_writes { acted = v ∷ [] }) ≡ write v
  pub closes : history (record no_writes { closes = 1 }) ≡ close
  pub quiet : (operation : WritableOperation) (w : writable.Slots) → (IsHandOn operation → ⊥) → history (operation_writes operation w) ≡ []

module _ (i : StreamId) (ear : Ear) where
  abbrev pub hear : HostCall → List Value
  hear (HostWrite j v) = if is_same i j then ear.write v else []
  hear (HostClose j) = if is_same i j then ear.close else []
  hear _ = []

  abbrev pub of_event : Event → List Value
  of_event (HostCalled id call) = hear call
  of_event _ = []

  abbrev pub of_events : List Event → List Value
  of_events [] = []
  of_events (e ∷ es) = of_event e ++ of_events es

  -- what a call of a host's algorithm on the agenda is to tell
  abbrev pub of_effect : Effect → List Value
  of_effect (CallHost call u) = hear call
  of_effect _ = []

  abbrev pub of_effects : List Effect → List Value
  of_effects [] = []
  of_effects (e ∷ es) = of_effect e ++ of_effects es

  abbrev pub heard : Table → List Value
  heard t = of_events t.events

  pub events-append : (xs ys : List Event) → of_events (xs ++ ys) ≡ of_events xs ++ of_events ys
  events-append [] ys = refl
  events-append (x ∷ xs) ys = rw (events-append xs ys) (sym (append_assoc (of_event x) (of_events xs) (of_events ys)))

  pub effects-append : (xs ys : List Effect) → of_effects (xs ++ ys) ≡ of_effects xs ++ of_effects ys
  effects-append [] ys = refl
  effects-append (x ∷ xs) ys = ap (λ vs. of_effect x ++ vs) (effects-append xs ys) ∙ sym (append_assoc (of_effect x) (of_effects xs) (of_effects ys))

  -- promises tell only of settlings

  tell-heard : (event : Event) (t : Table) → heard (tell event t) ≡ heard t ++ of_event event
  tell-heard event t = events-append t.events (event ∷ []) ∙ ap (λ vs. heard t ++ vs) (append-nil (of_event event))

  silent-heard : (event : Event) (t : Table) → of_event event ≡ [] → heard (tell event t) ≡ heard t
  silent-heard event t e = tell-heard event t ∙ (rw e (append-nil (heard t)))

  pub fresh-heard : (t : Table) → heard (fresh t) ≡ heard t
  unfolding fresh
  fresh-heard t = refl

  settle-heard : (p : PromiseId) (o : Result Plain Plain) (t : Table) → heard (settle p o t) ≡ heard t
  unfolding settle
  settle-heard p o t = grind (arith, silent-heard)

  answer-heard : (p : PromiseId) (o : Outcome) (t : Table) → heard (answer p o t) ≡ heard t
  unfolding answer
  answer-heard p o t = grind (arith, silent-heard)

  react-heard : (p : PromiseId) (r : Reaction) (t : Table) → heard (react p r t) ≡ heard t
  unfolding react
  react-heard p r t = grind arith

  follow-heard : (p q : PromiseId) (t : Table) → heard (follow p q t) ≡ heard t
  unfolding follow
  follow-heard p q t = grind arith

  unfollow-heard : (p : PromiseId) (t : Table) → heard (unfollow p t) ≡ heard t
  unfolding unfollow
  unfollow-heard p t = grind arith

  taken-heard : (job : Job) (t : Table) → heard (taken job t) ≡ heard t
  taken-heard job t = grind (arith, react-heard, unfollow-heard)

  pub next-heard : (t : Table) → heard (after_next_job t) ≡ heard t
  unfolding after_next_job
  next-heard t = grind (arith, taken-heard)

  pub watch-heard : (p : PromiseId) (t : Table) → heard (watch p t) ≡ heard t
  unfolding watch
  watch-heard p t = grind (arith, silent-heard)

  use-heard : (p : PromiseId) (t : Table) (u : Use) → heard (use_this p t u) ≡ heard t
  use-heard p t u = grind (arith, react-heard, follow-heard)

  gift-heard : (gift : Gift) (u : Use) (t : Table) → heard (use_gift gift u t) ≡ heard t
  unfolding use_gift
  gift-heard gift u t = grind (arith, use-heard, settle-heard, fresh-heard)

  host-heard : (call : HostCall) (u : Use) (s : Slots) → heard (call_host call u s).promises ≡ heard s.promises ++ hear call
  unfolding call_host
  host-heard call u s = grind (arith, use-heard, tell-heard, fresh-heard)

  -- what an effect tells and causes
  pub record Hears (e : Effect) (s z : Slots) (cs : List Effect) : Type 0 where
    pub events : heard z.promises ≡ heard s.promises ++ of_effect e
    pub caused : of_effects cs ≡ ear.history (effect_writes i e s)
    pub alone : of_effects (later_effects cs) ≡ []

  causing : (e : Effect) (x : Out) → of_effect e ≡ [] → of_effects x.effects ≡ [] → of_effects (cause e x).effects ≡ []
  causing e x n m = effects-append x.effects (e ∷ []) ∙ (rw (m, n) refl)

  pub none_later : (cs : List Effect) → of_effects cs ≡ [] → of_effects (later_effects cs) ≡ []
  none_later [] z = refl
  none_later (c ∷ cs) z = (append_none (of_effect c) (of_effects cs) z).1

  -- operations

  -- nothing is told, and nothing is caused that tells
  abbrev Silent : Table → Out → Type 0
  Silent t x = (heard x.promises ≡ heard t) × (of_effects x.effects ≡ [])

  of-silent : (j : StreamId) (t : Table) → OfReadable (Silent t) j
  of-silent j t = record {
    settle = λ x p o h. (settle-heard p o x.promises ∙ h.0, h.1);
    pull = λ x h. (h.0, causing (PullAlgorithm j) x refl h.1);
    cancel = λ x r p h. (h.0, causing (CancelAlgorithm j r p) x refl h.1);
    chunk = λ x request v h. (h.0, causing (ChunkSteps j request v) x refl h.1);
    close = λ x request h. (h.0, causing (CloseSteps j request) x refl h.1);
    error = λ x request e h. (h.0, causing (ErrorSteps j request e) x refl h.1);
  }

  readable-hears : (j : StreamId) (operation : ReadableOperation) (s : Slots) → Hears (Readable j operation) s (on_source operation j s).slots (on_source operation j s).caused
  readable-hears j operation s =
      let d : Done = on_source operation j s in
      let done : Silent s.promises (out_of d) = source-out (Silent s.promises) j (of-silent j s.promises) operation s (refl, refl) in
      let told : heard d.slots.promises ≡ heard s.promises = done.0 in
      let none : of_effects d.caused ≡ [] = done.1 in
      let m = ear.none in grind (arith, none_later, append-nil, told, none)

  byte-hears : (j : StreamId) (operation : ByteOperation) (s : Slots) → let d : Done = on_byte (byte_operation j operation) j s in Hears (Byte j operation) s d.slots d.caused
  byte-hears j operation s =
      let d : Done = on_byte (byte_operation j operation) j s in
      let done : Silent s.promises (out_of d) =
      byte-out (Silent s.promises) j (of-silent j s.promises) (λ x q b h. (h.0, causing (CloseStepsWith j q b) x refl h.1)) operation s (refl, refl) in
      let told : heard d.slots.promises ≡ heard s.promises = done.0 in
      let none : of_effects d.caused ≡ [] = done.1 in
      let m = ear.none in grind (arith, none_later, append-nil, told, none)

  others-hear : (j : StreamId) (operation : WritableOperation) (s : Slots) → (IsHandOn operation → ⊥)
      → Hears (Writable j operation) s (on_writable (writable_operation j operation) j s).slots (on_writable (writable_operation j operation) j s).caused
  others-hear j operation s u =
      let done : Silent s.promises (writable_operation j operation (writable_acts j s)).out =
      others-do (Silent s.promises) j (record {
        settle = λ x p o h. (settle-heard p o x.promises ∙ h.0, h.1);
        fresh = λ x h. (fresh-heard x.promises ∙ h.0, h.1);
        tell = λ x r h. (silent-heard (Signal j r) x.promises refl ∙ h.0, h.1);
        write = λ x h. (h.0, causing (WriteAlgorithm j) x refl h.1);
        close = λ x h. (h.0, causing (CloseAlgorithm j) x refl h.1);
        abort = λ x r p h. (h.0, causing (AbortAlgorithm j r p) x refl h.1);
      }) operation (writable_acts j s) u (refl, refl) in
      let m = ear.none in let n = ear.quiet operation (writable_at j s) u in grind (arith, none_later, append-nil)

  -- pipes and signals

  micro-heard : (m : Micro) (t : Table) → heard (queue_micro m t) ≡ heard t
  unfolding queue_micro
  micro-heard m t = refl

  pipe_effect-silent : (p : PipeId) (source dest : StreamId) (e : Effect) → PipeCauses p source dest e → of_effect e ≡ []
  pipe_effect-silent p source dest (CallHost call u) c = absurd c
  pipe_effect-silent p source dest _ c = refl

  pipe-silent : (p : PipeId) (source dest : StreamId) (es : List Effect) → Each (PipeCauses p source dest) es → of_effects es ≡ []
  pipe-silent p source dest [] c = refl
  pipe-silent p source dest (e ∷ es) c = rw (pipe_effect-silent p source dest e c.0, pipe-silent p source dest es c.1) refl

  pipe-hears : (p : PipeId) (operation : PipeOperation) (s : Slots) (o : Option pipe.Slots)
      → let d : Done = on_pipe_at (λ ends. pipe_operation p ends operation) p s o in Hears (Pipe p operation) s d.slots d.caused
  pipe-hears p operation s None = let m = ear.none in grind (arith, append-nil)
  pipe-hears p operation s (Some x) =
      let a : pipe.Acts = record { slots = x; out = found s } in
      let b : pipe.Acts = pipe_operation p (ends_at x s) operation a in
      let silent = pipe-silent p x.source x.dest b.out.effects (pipe-causes p (ends_at x s) operation a tt).1.1 in
      let same : heard b.out.promises ≡ heard s.promises =
      pipe-does (λ z. heard z ≡ heard s.promises)
      (record { fresh = λ z h. fresh-heard z ∙ h; settle = λ z p o h. settle-heard p o z ∙ h; micro = λ z m h. micro-heard m z ∙ h })
      p (ends_at x s) operation a refl in
      record { events = same ∙ sym (append-nil (heard s.promises)); caused = silent ∙ sym ear.none; alone = none_later b.out.effects silent }

  abort_all-silent : (r : Plain) (ps : List PipeId) → of_effects (abort_all r ps) ≡ []
  abort_all-silent r [] = refl
  abort_all-silent r (p ∷ ps) = abort_all-silent r ps

  signal-silent : (operation : SignalOperation) (x : pipe.Signal) → of_effects (signal_operation operation x).effects ≡ []
  signal-silent operation x = grind (arith, abort_all-silent)

  signal-hears : (a : SignalId) (operation : SignalOperation) (s : Slots) (o : Option pipe.Signal)
      → let d : Done = on_signal_at (signal_operation operation) a s o in Hears (SignalEffect a operation) s d.slots d.caused
  signal-hears a operation s None = let m = ear.none in grind (arith, append-nil)
  signal-hears a operation s (Some x) =
      let silent = signal-silent operation x in
      record { events = sym (append-nil (heard s.promises)); caused = silent ∙ sym ear.none; alone = none_later (signal_operation operation x).effects silent }

  -- transform streams: their host's algorithms are others

  transform_effect-silent : (t : TransformId) (w r : StreamId) (e : Effect) → TransformCauses t w r e → of_effect e ≡ []
  transform_effect-silent t w r (CallHost (HostTransform j v) u) c = refl
  transform_effect-silent t w r (CallHost (HostFlush j) u) c = refl
  transform_effect-silent t w r (CallHost (HostCancelTransform j e) u) c = refl
  transform_effect-silent t w r (CallHost _ u) c = absurd c
  transform_effect-silent t w r _ c = refl

  transform-silent : (t : TransformId) (w r : StreamId) (es : List Effect) → Each (TransformCauses t w r) es → of_effects es ≡ []
  transform-silent t w r [] c = refl
  transform-silent t w r (e ∷ es) c = rw (transform_effect-silent t w r e c.0, transform-silent t w r es c.1) refl

  transform-hears : (t : TransformId) (operation : TransformOperation) (s : Slots) (o : Option transform.Slots)
      → let d : Done = on_transform_at (λ halves. transform_operation t halves operation) t s o in Hears (Transform t operation) s d.slots d.caused
  transform-hears t operation s None = let m = ear.none in grind (arith, append-nil)
  transform-hears t operation s (Some x) =
      let a : transform.Acts = record { slots = x; out = found s } in
      let b : transform.Acts = transform_operation t (halves_at x s) operation a in
      let silent = transform-silent t x.writable x.readable b.out.effects (transform-causes t (halves_at x s) operation a tt).1.1.1 in
      let same : heard b.out.promises ≡ heard s.promises =
      transform-does (λ z. heard z ≡ heard s.promises) (record { fresh = λ z h. fresh-heard z ∙ h; settle = λ z p o h. settle-heard p o z ∙ h }) t (halves_at x s) operation a refl in
      record { events = same ∙ sym (append-nil (heard s.promises)); caused = silent ∙ sym ear.none; alone = none_later b.out.effects silent }

  -- tees

  tee_effect-silent : (t : TeeId) (source first second : StreamId) (e : Effect) → TeeCauses t source first second e → of_effect e ≡ []
  tee_effect-silent t source first second (CallHost call u) c = absurd c
  tee_effect-silent t source first second _ c = refl

  tee-silent : (t : TeeId) (source first second : StreamId) (es : List Effect) → Each (TeeCauses t source first second) es → of_effects es ≡ []
  tee-silent t source first second [] c = refl
  tee-silent t source first second (e ∷ es) c = rw (tee_effect-silent t source first second e c.0, tee-silent t source first second es c.1) refl

  tee-hears : (t : TeeId) (operation : TeeOperation) (s : Slots) (o : Option tee.Slots)
      → let d : Done = on_tee_at (tee_operation t operation) t s o in Hears (Tee t operation) s d.slots d.caused
  tee-hears t operation s None = let m = ear.none in grind (arith, append-nil)
  tee-hears t operation s (Some x) =
      let a : tee.Acts = record { slots = x; out = found s } in
      let b : tee.Acts = tee_operation t operation a in
      let silent = tee-silent t x.source x.branch1 x.branch2 b.out.effects ((tee-causes t operation a).effects tt) in
      let same : heard b.out.promises ≡ heard s.promises =
      tee-does (λ z. heard z ≡ heard s.promises) (record { fresh = λ z h. fresh-heard z ∙ h; micro = λ z m h. micro-heard m z ∙ h }) t operation a refl in
      record { events = same ∙ sym (append-nil (heard s.promises)); caused = silent ∙ sym ear.none; alone = none_later b.out.effects silent }

  -- ports

  port_effect-silent : (me : PortId) (stream : StreamId) (e : Effect) → PortCauses me stream e → of_effect e ≡ []
  port_effect-silent me stream (CallHost call u) c = absurd c
  port_effect-silent me stream _ c = refl

  port-silent : (me : PortId) (stream : StreamId) (es : List Effect) → Each (PortCauses me stream) es → of_effects es ≡ []
  port-silent me stream [] c = refl
  port-silent me stream (e ∷ es) c = rw (port_effect-silent me stream e c.0, port-silent me stream es c.1) refl

  port-hears : (c : PortId) (operation : PortOperation) (s : Slots) (o : Option cross.Slots)
      → let d : Done = on_port_at (λ clones. port_operation c clones operation) c s o in Hears (Port c operation) s d.slots d.caused
  port-hears c operation s None = let m = ear.none in grind (arith, append-nil)
  port-hears c operation s (Some x) =
      let a : cross.Acts = record { slots = x; out = found s } in
      let b : cross.Acts = port_operation c (clones_at x s) operation a in
      let silent = port-silent c x.stream b.out.effects (port-causes c (clones_at x s) operation a tt).1.1 in
      let same : heard b.out.promises ≡ heard s.promises =
      port-does (λ z. heard z ≡ heard s.promises)
      (record { fresh = λ z h. fresh-heard z ∙ h; settle = λ z p o h. settle-heard p o z ∙ h; post = λ z p m h. silent-heard (Post p m) z refl ∙ h }) c (clones_at x s) operation a refl in
      record { events = same ∙ sym (append-nil (heard s.promises)); caused = silent ∙ sym ear.none; alone = none_later b.out.effects silent }

  -- algorithms, by whose they are

  pull-hears : (j : StreamId) (s : Slots) (o : Owner) → Hears (PullAlgorithm j) s s (pull_algorithm j (React (ReadablePull j) None) o)
  pull-hears j s Host = let m = ear.none in grind (arith, append-nil)
  pull-hears j s (HalfOf t) = let m = ear.none in grind (arith, append-nil)
  pull-hears j s (BranchOf t half) = let m = ear.none in grind (arith, append-nil)
  pull-hears j s (EndOf c) = let m = ear.none in grind (arith, append-nil)

  cancel-hears : (j : StreamId) (r : Plain) (p : PromiseId) (s : Slots) (o : Owner) → Hears (CancelAlgorithm j r p) s s (cancel_algorithm j r (React ReturnUndefined (Some p)) o)
  cancel-hears j r p s Host = let m = ear.none in grind (arith, append-nil)
  cancel-hears j r p s (HalfOf t) = let m = ear.none in grind (arith, append-nil)
  cancel-hears j r p s (BranchOf t half) = let m = ear.none in grind (arith, append-nil)
  cancel-hears j r p s (EndOf c) = let m = ear.none in grind (arith, append-nil)

  write-hears : (j : StreamId) (s : Slots) (o : Owner) → Hears (WriteAlgorithm j) s s (write_algorithm j o)
  write-hears j s Host = let m = ear.none in grind (arith, append-nil)
  write-hears j s (HalfOf t) = let m = ear.none in grind (arith, append-nil)
  write-hears j s (BranchOf t half) = let m = ear.none in grind (arith, append-nil)
  write-hears j s (EndOf c) = let m = ear.none in grind (arith, append-nil)

  abort-hears : (j : StreamId) (r : Plain) (p : PromiseId) (s : Slots) (o : Owner) → Hears (AbortAlgorithm j r p) s s (abort_algorithm j r (React (WritableAbort j p) None) o)
  abort-hears j r p s Host = let m = ear.none in grind (arith, append-nil)
  abort-hears j r p s (HalfOf t) = let m = ear.none in grind (arith, append-nil)
  abort-hears j r p s (BranchOf t half) = let m = ear.none in grind (arith, append-nil)
  abort-hears j r p s (EndOf c) = let m = ear.none in grind (arith, append-nil)

  -- the close algorithm of this stream is the host's
  close-hears : (j : StreamId) (s : Slots) (o : Owner) (same : Bool) → same ≡ is_same i j → (same ≡ true → o ≡ Host) → Hears (CloseAlgorithm j) s s (close_algorithm j (React (WritableClose j) None) o)
  close-hears j s Host same e host = let n = ear.closes in let m = ear.none in grind (arith, append-nil)
  close-hears j s (HalfOf t) true e host = let wrong : HalfOf t ≡ Host = host refl in cc
  close-hears j s (BranchOf t half) true e host = let wrong : BranchOf t half ≡ Host = host refl in cc
  close-hears j s (EndOf c) true e host = let wrong : EndOf c ≡ Host = host refl in cc
  close-hears j s (HalfOf t) false e host = let m = ear.none in grind (arith, append-nil, e)
  close-hears j s (BranchOf t half) false e host = let m = ear.none in grind (arith, append-nil, e)
  close-hears j s (EndOf c) false e host = let m = ear.none in grind (arith, append-nil, e)

  -- its chunks are handed on to the host alone
  abbrev pub HandsToHost : Effect → Type 0
  HandsToHost (Writable j (HandOn (ToTransform t d))) = is_same i j ≡ false
  HandsToHost (Writable j (HandOn (ToPort c d))) = is_same i j ≡ false
  HandsToHost _ = Unit {0}

  hand_on-hears : (j : StreamId) (taker : Taker) (s : Slots) → HandsToHost (Writable j (HandOn taker))
      → Hears (Writable j (HandOn taker)) s (on_writable (writable_operation j (HandOn taker)) j s).slots (on_writable (writable_operation j (HandOn taker)) j s).caused
  unfolding hand_on
  hand_on-hears j ToHost s n = let m = ear.none in grind (arith, ear.acts, append-nil)
  hand_on-hears j (ToTransform t d) s n = let m = ear.none in grind (arith, append-nil, n)
  hand_on-hears j (ToPort c d) s n = let m = ear.none in grind (arith, append-nil, n)

  pub row-hears : (e : Effect) (s : Slots) → owner_at i s ≡ Host → HandsToHost e → Hears e s (row e s).slots (row e s).caused
  unfolding row
  row-hears (Readable j operation) s o n = readable-hears j operation s
  row-hears (Byte j operation) s o n = byte-hears j operation s
  row-hears (Writable j (HandOn taker)) s o n = hand_on-hears j taker s n
  row-hears (Writable j operation) s o n = others-hear j operation s (λ u. u)
  row-hears (Transform t operation) s o n = transform-hears t operation s (slice_get s.transforms t.0)
  row-hears (Tee t operation) s o n = tee-hears t operation s (slice_get s.tees t.0)
  row-hears (Port c operation) s o n = port-hears c operation s (slice_get s.ports c.0)
  row-hears (PullAlgorithm j) s o n = pull-hears j s (owner_at j s)
  row-hears (CancelAlgorithm j r p) s o n = cancel-hears j r p s (owner_at j s)
  row-hears (WriteAlgorithm j) s o n = write-hears j s (owner_at j s)
  row-hears (AbortAlgorithm j r p) s o n = abort-hears j r p s (owner_at j s)
  row-hears (Pipe p operation) s o n = pipe-hears p operation s (slice_get s.pipes p.0)
  row-hears (SignalEffect a operation) s o n = signal-hears a operation s (slice_get s.signals a.0)
  row-hears (ChunkSteps j (Promise p) v) s o n = let m = ear.none in grind (arith, append-nil, answer-heard)
  row-hears (ChunkSteps j (PipeRequest p) v) s o n = let m = ear.none in grind (arith, append-nil)
  row-hears (ChunkSteps j (TeeRequest t) v) s o n = let m = ear.none in grind (arith, append-nil)
  row-hears (CloseSteps j (Promise p)) s o n = let m = ear.none in grind (arith, append-nil, answer-heard)
  row-hears (CloseSteps j (PipeRequest p)) s o n = let m = ear.none in grind (arith, append-nil)
  row-hears (CloseSteps j (TeeRequest t)) s o n = let m = ear.none in grind (arith, append-nil)
  row-hears (CloseStepsWith j (Promise p) b) s o n = let m = ear.none in grind (arith, append-nil, answer-heard)
  row-hears (CloseStepsWith j (PipeRequest p) b) s o n = let m = ear.none in grind (arith, append-nil)
  row-hears (CloseStepsWith j (TeeRequest t) b) s o n = let m = ear.none in grind (arith, append-nil)
  row-hears (ErrorSteps j (Promise p) e) s o n = let m = ear.none in grind (arith, append-nil, settle-heard)
  row-hears (ErrorSteps j (PipeRequest p) e) s o n = let m = ear.none in grind (arith, append-nil)
  row-hears (ErrorSteps j (TeeRequest t) e) s o n = let m = ear.none in grind (arith, append-nil)
  row-hears (Queue m) s o u = let n = ear.none in grind (arith, append-nil, micro-heard)
  row-hears (CloseAlgorithm j) s o n = close-hears j s (owner_at j s) (is_same i j) refl (λ same. rw (← same_id i j same) o)
  row-hears (CallHost call u) s o n = let m = ear.none in grind (arith, host-heard)
  row-hears e s o n = let m = ear.none in grind (arith, append-nil, fresh-heard, answer-heard, settle-heard, gift-heard)
