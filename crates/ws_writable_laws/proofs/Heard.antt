-- What the host hears of the write and close algorithms (`acted_was_heard`); events are only added.
use Rattle.std.proofs.Common.{◌≡◌, false, arith, List, [], ◌∷◌, ◌++◌, refl, sym, ap, ◌∙◌, append_assoc, append-nil, Option, Some, None, slice_get}
use Rattle.ws_value.specs.declared.ids.PipeId.{PipeId}
use Rattle.ws_value.specs.declared.ids.StreamId.{StreamId}
use Rattle.ws_value.specs.declared.ids.TeeId.{TeeId}
use Rattle.ws_value.specs.declared.value.Value.{Value}
use Rattle.ws_steps.specs.declared.{calls.Call.{Call}, calls.Event.{Event}}
use Rattle.ws_steps.specs.declared.{effects.Effect.{Effect}, effects.Owner.TheVariants.{Host}}
use Rattle.ws_steps.specs.declared.effects.Effect.TheVariants.{Readable, Writable, Pipe, Signal as SignalEffect, Transform, Tee, Port, PullAlgorithm, CancelAlgorithm, WriteAlgorithm, CloseAlgorithm, AbortAlgorithm, ChunkSteps, CloseSteps, ErrorSteps, StartAlgorithm}
use Rattle.ws_steps.specs.declared.{promises.Job.{Job}}
use Rattle.ws_steps.specs.declared.{writable.WritableOperation.TheVariants.{HandOn}}
use Rattle.ws_steps.specs.declared.{transform.Taker.TheVariants.{ToTransform, ToPort}, transform.TransformId.{TransformId}, transform.TransformOperation.{TransformOperation}}
use Rattle.ws_steps.specs.Operations.{transform_operation}
use Rattle.ws_steps.specs.Promises.{after_next_job, watch}
use Rattle.ws_steps.specs.declared.{pipes.SignalOperation.{SignalOperation}, pipes.SignalOperation.TheVariants.{Add, Forget, Trigger}, readable.ReadRequest.TheVariants.{Promise, Pipe as PipeRequest, Tee as TeeRequest}}
use Rattle.ws_steps.specs.Transform as transform
use Rattle.ws_laws.proofs.TeeDoes.{TeeCauses}
use Rattle.ws_steps.specs.Slots.{Slots, found, halves_at, owner_at, on_transform_at, nothing, empty, with_promises}
use Rattle.ws_steps.specs.Turns.{row, moments}
use Rattle.ws_steps.specs.Jobs.{job_effects}
use Rattle.ws_steps.specs.Begun.{Begun}
use Rattle.ws_steps.specs.Calls.{begin}
use Rattle.ws_steps.specs.Run.{older, Entry as RunEntry, Called, Worked, Heard, later_events, step, run}
use Rattle.ws_steps.specs.Histories.{is_same, along, taken_event, taken_in_step, run_events}
use Rattle.ws_steps.specs.WritableHistory.{Writes, no_writes, writes_then, effect_writes, step_writes, run_writes, heard_writes}
use Rattle.ws_steps.specs.Laws.{ActedWasHeard}
use Rattle.ws_laws.proofs.EachCall.{each_call}
use Rattle.ws_laws.proofs.Walker as walker
use Rattle.ws_laws.proofs.Walker.{GoesUntold, performed-goes}
use Rattle.ws_writable_laws.proofs.Handed.{NoHalf, NoEnd, Tied, tied-row, tied-call, no-half, no-end}
use Rattle.ws_laws.proofs.Ended.{Ended, ended-stays, ended-empty, AlwaysEnded}
use Rattle.ws_laws.proofs.PortDoes.{PortCauses, port-causes}
use Rattle.ws_value.specs.declared.ids.PortId.{PortId}
use Rattle.ws_steps.specs.Cross as cross
use Rattle.ws_steps.specs.declared.port.PortOperation.{PortOperation}
use Rattle.ws_steps.specs.Operations.{port_operation}
use Rattle.ws_steps.specs.Slots.{on_port_at, clones_at}
use Rattle.ws_writable_laws.proofs.Runs.{nothing-writes, is_history, call-was, run-was}
use Rattle.ws_laws.proofs.Lists.{Each, each-append, each-map}
use Rattle.ws_laws.proofs.Begin.{IsFirst, Enqueues, Never, begin-first, job-first}
use Rattle.ws_laws.proofs.Halves.{halved-empty, step-halved}
use Rattle.ws_laws.proofs.Causes.{SignalCauses, row-causes}
use Rattle.ws_laws.proofs.Shapes.{row-owner}
use Rattle.ws_laws.proofs.TransformDoes.{TransformCauses, transform-causes}
use Rattle.ws_laws.proofs.PipeDoes.{PipeCauses}
use Rattle.ws_writable_laws.proofs.Operations.{later_effects}
use Rattle.ws_steps.specs.declared.effects.Effect.TheVariants.{Byte, CloseStepsWith}
use Rattle.ws_writable_laws.proofs.Hears.{Ear, HandsToHost, effects-append, events-append, fresh-heard, heard, next-heard, none_later, of_effects, of_event, of_events, row-hears, watch-heard}

module _ (i : StreamId) (ear : Ear) where
  -- what was heard and what is to be heard is what was told, behind what was heard before
  record Told (base : List Value) (h : Writes) (s : Slots) (es : List Effect) : Type 0 where
    pub all : heard i ear s.promises ++ of_effects i ear es ≡ base ++ ear.history h
    pub behind : of_effects i ear (later_effects es) ≡ []

  later-next : (cs es : List Effect) → of_effects i ear (later_effects cs) ≡ [] → of_effects i ear es ≡ [] → of_effects i ear (later_effects (cs ++ es)) ≡ []
  later-next cs es f g = grind (arith, none_later i ear, effects-append i ear)

  -- what is caused hands on to the host

  pipe-host : (p : PipeId) (source dest : StreamId) (e : Effect) → PipeCauses p source dest e → HandsToHost i ear e
  pipe-host p source dest (Writable j (HandOn (ToTransform t d))) c = absurd c
  pipe-host p source dest (Writable j (HandOn (ToPort me d))) c = absurd c
  pipe-host p source dest _ c = tt

  signal-host : (operation : SignalOperation) → SignalCauses (HandsToHost i ear) operation
  signal-host (Add p) = tt
  signal-host (Forget p) = tt
  signal-host (Trigger r) = λ p. tt

  transform_effect-host : (t : TransformId) (w r : StreamId) → is_same i w ≡ false → (e : Effect) → TransformCauses t w r e → HandsToHost i ear e
  transform_effect-host t w r n (Writable j (HandOn (ToTransform u d))) c = rw c.0 n
  transform_effect-host t w r n (Writable j (HandOn (ToPort me d))) c = absurd c
  transform_effect-host t w r n _ c = tt

  transform-host : (t : TransformId) (operation : TransformOperation) (s : Slots) (o : Option transform.Slots) → slice_get s.transforms t.0 ≡ o → NoHalf i s
      → Each (HandsToHost i ear) (on_transform_at (λ halves. transform_operation t halves operation) t s o).caused
  transform-host t operation s None is apart = tt
  transform-host t operation s (Some x) is apart =
      let a : transform.Acts = record { slots = x; out = found s } in
      each-map (TransformCauses t x.writable x.readable) (HandsToHost i ear) (transform_effect-host t x.writable x.readable (apart t x is)) _ (transform-causes t (halves_at x s) operation a tt).1.1.1

  tee_effect-host : (t : TeeId) (source first second : StreamId) (e : Effect) → TeeCauses t source first second e → HandsToHost i ear e
  tee_effect-host t source first second (Writable j operation) c = absurd c
  tee_effect-host t source first second _ c = tt

  port_effect-host : (me : PortId) (stream : StreamId) → is_same i stream ≡ false → (e : Effect) → PortCauses me stream e → HandsToHost i ear e
  port_effect-host me stream n (Writable j (HandOn (ToTransform t d))) c = absurd c
  port_effect-host me stream n (Writable j (HandOn (ToPort p d))) c = rw c.0 n
  port_effect-host me stream n _ c = tt

  port-host : (c : PortId) (operation : PortOperation) (s : Slots) (o : Option cross.Slots) → slice_get s.ports c.0 ≡ o → NoEnd i s
      → Each (HandsToHost i ear) (on_port_at (λ clones. port_operation c clones operation) c s o).caused
  port-host c operation s None is free = tt
  port-host c operation s (Some x) is free =
      let a : cross.Acts = record { slots = x; out = found s } in
      each-map (PortCauses c x.stream) (HandsToHost i ear) (port_effect-host c x.stream (free c x is)) _ (port-causes c (clones_at x s) operation a tt).1.1

  row-host : (e : Effect) (s : Slots) → NoHalf i s → NoEnd i s → Each (HandsToHost i ear) (row e s).caused
  unfolding row
  row-host (Transform t operation) s apart free = transform-host t operation s (slice_get s.transforms t.0) refl apart
  row-host (Tee t operation) s apart free = row-causes (HandsToHost i ear) (Tee t operation) s (tee_effect-host t)
  row-host (Port c operation) s apart free = port-host c operation s (slice_get s.ports c.0) refl free
  row-host (Readable j operation) s apart free = row-causes (HandsToHost i ear) (Readable j operation) s (record { pull = tt; cancel = λ r p. tt; chunk = λ r v. tt; close = λ r. tt; error = λ r e. tt })
  row-host (Byte j operation) s apart free =
      row-causes (HandsToHost i ear) (Byte j operation) s (record { readable = record { pull = tt; cancel = λ r p. tt; chunk = λ r v. tt; close = λ r. tt; error = λ r e. tt }; close_with = λ r b. tt })
  row-host (CloseStepsWith j (Promise p) b) s apart free = tt
  row-host (CloseStepsWith j (PipeRequest p) b) s apart free = (tt, tt)
  row-host (CloseStepsWith j (TeeRequest t) b) s apart free = (tt, tt)
  row-host (Writable j operation) s apart free = row-causes (HandsToHost i ear) (Writable j operation) s (record { write = tt; close = tt; abort = λ r p. tt; hand_on = λ v. tt; take = λ v t d. tt; post = λ v t d. tt })
  row-host (Pipe p operation) s apart free = row-causes (HandsToHost i ear) (Pipe p operation) s (pipe-host p)
  row-host (SignalEffect a operation) s apart free = row-causes (HandsToHost i ear) (SignalEffect a operation) s (signal-host operation)
  row-host (StartAlgorithm j step start) s apart free = row-causes (HandsToHost i ear) (StartAlgorithm j step start) s (λ g u. tt, λ c u. tt)
  row-host (PullAlgorithm j) s apart free = row-causes (HandsToHost i ear) (PullAlgorithm j) s (λ c u. tt, (λ t u. tt, (λ t. tt, (λ u. tt, λ c. tt))))
  row-host (CancelAlgorithm j r p) s apart free = row-causes (HandsToHost i ear) (CancelAlgorithm j r p) s (λ c u. tt, (λ t u. tt, (λ t half u. tt, λ c u. tt)))
  row-host (WriteAlgorithm j) s apart free = row-causes (HandsToHost i ear) (WriteAlgorithm j) s (tt, (λ t u. tt, λ c u. tt))
  row-host (CloseAlgorithm j) s apart free = row-causes (HandsToHost i ear) (CloseAlgorithm j) s (λ c u. tt, (λ t u. tt, λ c u. tt))
  row-host (AbortAlgorithm j r p) s apart free = row-causes (HandsToHost i ear) (AbortAlgorithm j r p) s (λ c u. tt, (λ t u. tt, λ c u. tt))
  row-host (ChunkSteps j (Promise p) v) s apart free = tt
  row-host (ChunkSteps j (PipeRequest p) v) s apart free = (tt, tt)
  row-host (ChunkSteps j (TeeRequest t) v) s apart free = (tt, tt)
  row-host (CloseSteps j (Promise p)) s apart free = tt
  row-host (CloseSteps j (PipeRequest p)) s apart free = (tt, tt)
  row-host (CloseSteps j (TeeRequest t)) s apart free = (tt, tt)
  row-host (ErrorSteps j (Promise p) e) s apart free = tt
  row-host (ErrorSteps j (PipeRequest p) e) s apart free = (tt, tt)
  row-host (ErrorSteps j (TeeRequest t) e) s apart free = (tt, tt)
  row-host _ s apart free = tt

  row-told : (base : List Value) (h : Writes) (s : Slots) (e : Effect) (es : List Effect) → owner_at i s ≡ Host → HandsToHost i ear e → Told base h s (e ∷ es) → Told base (writes_then h (effect_writes i e s)) (row e s).slots ((row e s).caused ++ es)
  row-told base h s e es o u t =
      let r = row-hears i ear e s o u in
      let n = effects-append i ear (row e s).caused es in
      let m = ear.after h (effect_writes i e s) in
      let k = later-next (row e s).caused es in grind (arith, append_assoc, append-nil)

  -- what calls and jobs begin with

  quiet-told : (base : List Value) (h : Writes) (s z : Slots) (cs : List Effect) → heard i ear z.promises ≡ heard i ear s.promises → of_effects i ear cs ≡ [] → Told base h s [] → Told base h z cs
  quiet-told base h s z cs same none t = record { all = rw (same, none) t.all; behind = none_later i ear cs none }

  call-silent : (c : Call) (s : Slots) → (heard i ear (begin c s).done.slots.promises ≡ heard i ear s.promises) × (of_effects i ear (begin c s).done.caused ≡ [])
  call-silent c s = each_call (λ (b : Begun). (heard i ear b.done.slots.promises ≡ heard i ear s.promises) × (of_effects i ear b.done.caused ≡ [])) c s (grind (arith, fresh-heard i ear))

  job-silent : (job : Job) → of_effects i ear (job_effects job) ≡ []
  job-silent job = grind arith

  first-host : (E : StreamId → Value → Type 0) (e : Effect) → IsFirst E e → HandsToHost i ear e
  first-host E (Writable j (HandOn (ToTransform t d))) f = absurd f
  first-host E (Writable j (HandOn (ToPort c d))) f = absurd f
  first-host E _ f = tt

  -- what is known of a stream of the host
  abbrev Known : List Value → Writes → Slots → List Effect → Type 0
  Known base h s es = (owner_at i s ≡ Host → Told base h s es × Each (HandsToHost i ear) es) × Tied s

  row-known : (base : List Value) (h : Writes) (s : Slots) (e : Effect) (es : List Effect) → Known base h s (e ∷ es) → Known base (writes_then h (effect_writes i e s)) (row e s).slots ((row e s).caused ++ es)
  row-known base h s e es k = (
    λ host.
        let o : owner_at i s ≡ Host = sym (row-owner i e s) ∙ host in
        let t = k.0 o in
        (row-told base h s e es o t.1.0 t.0, each-append (HandsToHost i ear) (row e s).caused es (row-host e s (no-half s i k.1.0 o) (no-end s i k.1.1 o)) t.1.1),
    tied-row s e es k.1.0 k.1.1,
  )

  told-goes : (base : List Value) → GoesUntold writes_then (effect_writes i) (Known base)
  told-goes base = record {
    row = row-known base;
    call = λ h s c k. (
      λ host. let b = call-silent c s in (
        quiet-told base h s (begin c s).done.slots (begin c s).done.caused b.0 b.1 (k.0 (call-was i s s c (λ o. o) host)).0,
        each-map (IsFirst (Enqueues c)) (HandsToHost i ear) (first-host (Enqueues c)) (begin c s).done.caused (begin-first c s),
      ),
      tied-call s c k.1.0 k.1.1,
    );
    job = λ h s job e k. (
      λ host. (
        quiet-told base h s (with_promises (after_next_job s.promises) s) (job_effects job) (next-heard i ear s.promises) (job-silent job) (k.0 host).0,
        each-map (IsFirst Never) (HandsToHost i ear) (first-host Never) (job_effects job) (job-first job),
      ),
      k.1,
    );
    answered = λ h s p k. (λ host. (quiet-told base h s (with_promises (watch p s.promises) s) [] (watch-heard i ear p s.promises) refl (k.0 host).0, tt), k.1);
    older = λ h s k. (λ host. (quiet-told base h s (older s) [] refl refl (k.0 host).0, tt), k.1);
  }

  -- steps

  -- nothing is told where nothing is performed
  nothing_told : (s : Slots) → along no_writes writes_then (effect_writes i) (moments (nothing s)) ≡ no_writes
  nothing_told s =
      sym (nothing-writes (along no_writes writes_then (effect_writes i) (moments (nothing s))))
      ∙ (performed-goes no_writes writes_then is_history (effect_writes i) (λ h z es. (h ≡ no_writes) × (es ≡ [])) (λ h z e es k. absurd (cc)) no_writes (nothing s) (refl, refl)).0

  step_told : (s : Slots) (h : Writes) (z : Slots) → Told (heard i ear s.promises) (writes_then no_writes h) z [] → heard i ear z.promises ≡ heard i ear s.promises ++ ear.history h
  step_told s h z t = sym (append-nil (heard i ear z.promises)) ∙ (t.all ∙ (rw (nothing-writes h) refl))

  at_first : (s : Slots) → Told (heard i ear s.promises) no_writes s []
  at_first s = record { all = ap (λ vs. heard i ear s.promises ++ vs) (sym ear.none); behind = refl }

  taken_first : (es : List Event) → of_events i ear (taken_event es) ++ of_events i ear (later_events es) ≡ of_events i ear es
  taken_first [] = refl
  taken_first (e ∷ es) = rw (append-nil (of_event i ear e)) refl

  -- what the host takes in a step, and what is there after it, is what was there before, and what the step told
  step-heard : (s : Slots) (x : RunEntry) → Tied s → owner_at i (step s x) ≡ Host → of_events i ear (taken_in_step s x) ++ heard i ear (step s x).promises ≡ heard i ear s.promises ++ ear.history (step_writes i s x)
  step-heard s (Called c) tied host =
      step_told s (step_writes i s (Called c)) (step s (Called c)) ((walker.called-goes_untold no_writes writes_then is_history (effect_writes i) (Known (heard i ear s.promises)) (told-goes (heard i ear s.promises)) no_writes s c (λ o. (at_first s, tt), tied)).0 host).0
  step-heard s Worked tied host =
      step_told s (step_writes i s Worked) (step s Worked) ((walker.worked-goes_untold no_writes writes_then is_history (effect_writes i) (Known (heard i ear s.promises)) (told-goes (heard i ear s.promises)) no_writes s (λ o. (at_first s, tt), tied)).0 host).0
  step-heard s Heard tied host = rw (nothing_told s, ear.none, append-nil) (taken_first s.promises.events)

  step-ended : (x : RunEntry) (s : Slots) → Ended s → Ended (step s x)
  step-ended x s h = walker.run-stays AlwaysEnded ended-stays (λ z k. k) (x ∷ []) s h

  pub run-heard : (xs : List RunEntry) (s : Slots) → Tied s → owner_at i (run xs s) ≡ Host → of_events i ear (run_events xs s) ≡ heard i ear s.promises ++ ear.history (run_writes i xs s)
  run-heard [] s tied host = sym (ap (λ vs. heard i ear s.promises ++ vs) ear.none ∙ append-nil (heard i ear s.promises))
  run-heard (x ∷ xs) s tied host =
      let f : Writes = step_writes i s x in
      let g : Writes = run_writes i xs (step s x) in
      let a = events-append i ear (taken_in_step s x) (run_events xs (step s x)) in
      let b = run-heard xs (step s x) (step-halved x s tied.0, step-ended x s tied.1) host in
      let c = step-heard s x tied (run-was i xs (step s x) host) in
      let d = ear.after f g in grind (arith, append_assoc)

-- writes

hears_writes : Ear
hears_writes = record { write = λ v. v ∷ []; close = []; history = λ h. h.acted; none = refl; after = λ f g. refl; acts = λ v. refl; closes = refl; quiet = λ operation w u. grind arith }

writes-heard : (i : StreamId) (es : List Event) → of_events i hears_writes es ≡ heard_writes i es
unfolding hears_writes
writes-heard i [] = refl
writes-heard i (e ∷ es) = let n = writes-heard i es in grind arith

pub acted_was_heard : ActedWasHeard
unfolding hears_writes
acted_was_heard entries i = λ host. sym (run-heard i hears_writes entries empty (halved-empty, ended-empty) host) ∙ writes-heard i (run_events entries empty)
