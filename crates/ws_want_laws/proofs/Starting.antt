-- Until the host has settled the start algorithm of a transform stream, its writable half hasn't started: the reaction to its start promise is to come.
use Rattle.ws_steps.specs.declared.port.Side.{Side}
use Rattle.ws_laws.proofs.PortDoes.{PortCauses}
use Rattle.ws_steps.specs.declared.effects.Owner.TheVariants.{EndOf}
use Rattle.ws_value.specs.declared.ids.PortId.{PortId}
use Rattle.ws_steps.specs.declared.port.Side.TheVariants.{Readable as ReadableSide, Writable as WritableSide}
use Rattle.std.proofs.Common.{◌≡◌, ℕ, ◌+◌, ◌≤◌, ◌<◌, Bool, true, false, if◌then◌else◌, nat_eq, length, List, [], ◌∷◌, ◌++◌, Some, None, slice_get, refl, sym, subst, ap, ◌∙◌, arith}
use Rattle.ws_steps.specs.declared.tee.Half.TheVariants.{Second}
use Rattle.ws_steps.specs.declared.tee.Half.TheVariants.{First}
use Rattle.ws_laws.proofs.TeeDoes.{TeeCauses}
use Rattle.ws_value.specs.declared.ids.TeeId.{TeeId}
use Rattle.ws_steps.specs.declared.effects.Effect.TheVariants.{Tee as OnTee}
use Rattle.ws_value.specs.declared.{ids.PipeId.{PipeId}, ids.PromiseId.{PromiseId}, ids.StreamId.{StreamId}, value.Plain.{Plain}, value.Value.{Value}}
use Rattle.ws_steps.specs.declared.calls.{Call.{Call}, Event.{Event}, Event.TheVariants.{Host as HostCalled}, HostCall.{HostCall}, HostCall.TheVariants.{Start as HostStart}, StartBy.{StartBy}, StartBy.TheVariants.{Now, Later}}
use Rattle.ws_steps.specs.declared.effects.{Effect.{Effect}, Gift.TheVariants.{This}, Owner.{Owner}, Owner.TheVariants.{Host, HalfOf, BranchOf}, Use.{Use}, Use.TheVariants.{React, Resolve}}
use Rattle.ws_steps.specs.declared.effects.Effect.TheVariants.{Readable as OnReadable, Writable as OnWritable, Pipe as OnPipe, Signal as OnSignal, Transform as OnTransform, Port as OnPort, StartAlgorithm, PullAlgorithm, CancelAlgorithm, WriteAlgorithm, CloseAlgorithm, AbortAlgorithm, ChunkSteps, CloseSteps, ErrorSteps, Give, CallHost}
use Rattle.ws_steps.specs.declared.pipes.{SignalOperation.{SignalOperation}, SignalOperation.TheVariants.{Add, Forget, Trigger}}
use Rattle.ws_steps.specs.declared.promises.{Job.{Job}, Job.TheVariants.{Follow}, Step.{Step}, Step.TheVariants.{WritableStart}}
use Rattle.ws_steps.specs.declared.readable.{ReadRequest.{ReadRequest}, ReadRequest.TheVariants.{Promise, Pipe as PipeRequest, Tee as TeeRequest}}
use Rattle.ws_steps.specs.declared.transform.{Kind.{Kind}, TransformId.{TransformId}}
use Rattle.ws_steps.specs.MakingCalls as making_calls
use Rattle.ws_steps.specs.PipeCalls as pipe_calls
use Rattle.ws_steps.specs.Begun.{Begun}
use Rattle.ws_steps.specs.MakingCalls.{add_stream}
use Rattle.ws_steps.specs.Calls.{begin}
use Rattle.ws_steps.specs.Histories.{is_same}
use Rattle.ws_steps.specs.Jobs.{job_effects}
use Rattle.ws_steps.specs.Promises.{Table, next_id, fresh, entry_at, is_open, is_open_entry, tell}
use Rattle.ws_steps.specs.Run.{Entry, run, step}
use Rattle.ws_steps.specs.Slots.{Slots, Stream, ReadableStream, WritableStream, owner_at}
use Rattle.ws_steps.specs.Readable as readable
use Rattle.ws_steps.specs.Transform as transform
use Rattle.ws_steps.specs.Turns.{row, call_host, start_algorithm, pull_algorithm, cancel_algorithm, write_algorithm, close_algorithm, abort_algorithm}
use Rattle.ws_steps.specs.Writable as writable
use Rattle.ws_steps.proofs.PromiseLaws.{entry_within, entry_at-fresh}
use Rattle.ws_laws.proofs.Begin.{begin-makes}
use Rattle.ws_laws.proofs.EachCall.{each_call}
use Rattle.ws_laws.proofs.Halves.{get-stays, get-last}
use Rattle.ws_laws.proofs.Lists.{Each, each-append, each-map}
use Rattle.ws_laws.proofs.PipeDoes.{PipeCauses}
use Rattle.ws_laws.proofs.Causes.{ChunkCauses, EndCauses, ErrorCauses, SignalCauses, row-causes}
use Rattle.ws_laws.proofs.Shapes.{StreamShape, ReadableOf, stream_shape, stream_shapes, transform_shapes, transform_shape, map-there, row-stream_shapes}
use Rattle.ws_laws.proofs.Tables.{eq_numbers, same_id, is_same-refl}
use Rattle.ws_laws.proofs.TransformDoes.{TransformCauses}
use Rattle.ws_laws.proofs.Walker.{Stays, run-stays}
use Rattle.ws_writable_laws.proofs.Shape.{all, all-append, is_start}
use Rattle.ws_promise_laws.proofs.Realm.{Sound}
use Rattle.ws_promise_laws.proofs.Tokens.{names, in_effects, one_if as promises_one_if}
use Rattle.ws_transform_laws.proofs.Halving.{map-from}
use Rattle.ws_transform_laws.proofs.Stages.{open-at}
use Rattle.ws_transform_laws.proofs.Waiting.{Queued}
use Rattle.ws_want_laws.proofs.Answering.{IsSole}
use Rattle.ws_want_laws.proofs.Ears.{open-pending, Ear, Told, Led, Resolves, Follows, follows, follow-queues, gives, tells, ear-row}
use Rattle.ws_want_laws.proofs.Holding.{IsHalf}
use Rattle.ws_steps.specs.Slots.{ByteStream}
use Rattle.ws_steps.specs.declared.effects.Effect.TheVariants.{Byte, CloseStepsWith}
use Rattle.ws_steps.specs.Bytes as byte
use Rattle.ws_steps.specs.declared.readable.SizeBy.TheVariants.{Count}

self : (k : ℕ) → nat_eq k k ≡ true
self k = grind arith

-- what is to follow the result of a start algorithm

module _ (r : StreamId) where
  -- an effect that starts no transform stream with readable half r
  abbrev pub IsOther : Effect → Type 0
  IsOther (CallHost (HostStart j) u) = is_same r j ≡ false
  IsOther (StartAlgorithm j step start) = is_same r j ≡ false
  IsOther _ = Unit {0}

  abbrev pub Others : List Effect → Type 0
  Others es = Each IsOther es

  -- its start algorithm is called, and a promise is resolved with the result
  abbrev pub IsStarting : Effect → Type 0
  IsStarting (CallHost (HostStart j) u) = is_same r j ≡ true → (p : PromiseId) × (u ≡ Resolve p)
  IsStarting (StartAlgorithm j step start) = is_same r j ≡ false
  IsStarting _ = Unit {0}

  abbrev pub Starting : List Effect → Type 0
  Starting es = Each IsStarting es

  abbrev pub resolves : PromiseId → Effect → ℕ
  resolves p (CallHost (HostStart j) (Resolve x)) = if is_same r j then names p x else 0
  resolves p _ = 0

  other-starting : (e : Effect) → IsOther e → IsStarting e
  other-starting (CallHost (HostStart j) u) k = λ e. absurd (cc)
  other-starting (StartAlgorithm j step start) k = k
  other-starting _ k = tt

  pub others-starting : (es : List Effect) → Others es → Starting es
  others-starting es k = each-map IsOther IsStarting other-starting es k

  pub others-resolve : (p : PromiseId) (es : List Effect) → Others es → all (resolves p) es ≡ 0
  others-resolve p [] k = refl
  others-resolve p (e ∷ es) k = let a = one e k.0 in let b = others-resolve p es k.1 in omega arith
    where
      one : (e : Effect) → IsOther e → resolves p e ≡ 0
      one (CallHost (HostStart j) (Resolve x)) k = rw k refl
      one _ k = refl

  chunk-other : (v : Value) (q : ReadRequest) → ChunkCauses IsOther v q
  chunk-other v (Promise p) = tt
  chunk-other v (PipeRequest p) = tt
  chunk-other v (TeeRequest t) = tt

  end-other : (q : ReadRequest) → EndCauses IsOther q
  end-other (Promise p) = tt
  end-other (PipeRequest p) = tt
  end-other (TeeRequest t) = tt

  error-other : (q : ReadRequest) → ErrorCauses IsOther q
  error-other (Promise p) = tt
  error-other (PipeRequest p) = tt
  error-other (TeeRequest t) = tt

  signal-other : (operation : SignalOperation) → SignalCauses IsOther operation
  signal-other (Add p) = tt
  signal-other (Forget p) = tt
  signal-other (Trigger c) = λ p. tt

  pipe-other : (p : PipeId) (source dest : StreamId) (e : Effect) → PipeCauses p source dest e → IsOther e
  pipe-other p source dest (CallHost call u) c = absurd c
  pipe-other p source dest (StartAlgorithm j step start) c = absurd c
  pipe-other p source dest _ c = tt

  transform-other : (u : TransformId) (w q : StreamId) (e : Effect) → TransformCauses u w q e → IsOther e
  transform-other u w q (CallHost (HostStart j) x) c = absurd c
  transform-other u w q (StartAlgorithm j step start) c = absurd c
  transform-other u w q _ c = tt

  tee-other : (u : TeeId) (source first second : StreamId) (e : Effect) → TeeCauses u source first second e → IsOther e
  tee-other u source first second (CallHost call w) c = absurd c
  tee-other u source first second (StartAlgorithm j step start) c = absurd c
  tee-other u source first second _ c = tt

  port-other : (c : PortId) (stream : StreamId) (e : Effect) → PortCauses c stream e → IsOther e
  port-other c stream (CallHost call w) k = absurd k
  port-other c stream (StartAlgorithm j step start) k = absurd k
  port-other c stream _ k = tt

  start-other : (s : Slots) (j : StreamId) (step : Step) (start : StartBy) → is_same r j ≡ false → Others (start_algorithm j step s start).caused
  start-other s j step Now k = (tt, tt)
  start-other s j step Later k = (k, (tt, tt))

  pull-other : (j : StreamId) (u : Use) (owner : Owner) → Others (pull_algorithm j u owner)
  pull-other j u Host = (tt, tt)
  pull-other j u (HalfOf k) = (tt, tt)
  pull-other j u (BranchOf k half) = (tt, (tt, tt))
  pull-other j u (EndOf c) = (tt, (tt, tt))

  cancel-other : (j : StreamId) (c : Plain) (u : Use) (owner : Owner) → Others (cancel_algorithm j c u owner)
  cancel-other j c u Host = (tt, tt)
  cancel-other j c u (HalfOf k) = (tt, tt)
  cancel-other j c u (BranchOf k half) = (tt, tt)
  cancel-other j c u (EndOf q) = (tt, tt)

  write-other : (j : StreamId) (owner : Owner) → Others (write_algorithm j owner)
  write-other j Host = (tt, tt)
  write-other j (HalfOf k) = (tt, tt)
  write-other j (BranchOf k half) = (tt, tt)
  write-other j (EndOf c) = (tt, tt)

  close-other : (j : StreamId) (u : Use) (owner : Owner) → Others (close_algorithm j u owner)
  close-other j u Host = (tt, tt)
  close-other j u (HalfOf k) = (tt, tt)
  close-other j u (BranchOf k half) = (tt, tt)
  close-other j u (EndOf c) = (tt, tt)

  abort-other : (j : StreamId) (c : Plain) (u : Use) (owner : Owner) → Others (abort_algorithm j c u owner)
  abort-other j c u Host = (tt, tt)
  abort-other j c u (HalfOf k) = (tt, tt)
  abort-other j c u (BranchOf k half) = (tt, tt)
  abort-other j c u (EndOf q) = (tt, tt)

  pub caused-other : (e : Effect) (s : Slots) → IsStarting e → Others (row e s).caused
  unfolding row
  caused-other (OnReadable j operation) s k = row-causes IsOther (OnReadable j operation) s (record { pull = tt; cancel = λ c p. tt; chunk = λ q v. tt; close = λ q. tt; error = λ q e. tt })
  caused-other (Byte j operation) s k = row-causes IsOther (Byte j operation) s (record { readable = record { pull = tt; cancel = λ c p. tt; chunk = λ q v. tt; close = λ q. tt; error = λ q e. tt }; close_with = λ q b. tt })
  caused-other (OnWritable j operation) s k = row-causes IsOther (OnWritable j operation) s (record { write = tt; close = tt; abort = λ c p. tt; hand_on = λ v. tt; take = λ v u d. tt; post = λ v c d. tt })
  caused-other (OnPipe p operation) s k = row-causes IsOther (OnPipe p operation) s (pipe-other p)
  caused-other (OnSignal a operation) s k = row-causes IsOther (OnSignal a operation) s (signal-other operation)
  caused-other (OnTransform u operation) s k = row-causes IsOther (OnTransform u operation) s (transform-other u)
  caused-other (OnTee u operation) s k = row-causes IsOther (OnTee u operation) s (tee-other u)
  caused-other (OnPort c operation) s k = row-causes IsOther (OnPort c operation) s (port-other c)
  caused-other (StartAlgorithm j step start) s k = start-other s j step start k
  caused-other (PullAlgorithm j) s k = pull-other j _ (owner_at j s)
  caused-other (CancelAlgorithm j c p) s k = cancel-other j c _ (owner_at j s)
  caused-other (WriteAlgorithm j) s k = write-other j (owner_at j s)
  caused-other (CloseAlgorithm j) s k = close-other j _ (owner_at j s)
  caused-other (AbortAlgorithm j c p) s k = abort-other j c _ (owner_at j s)
  caused-other (ChunkSteps j q v) s k = row-causes IsOther (ChunkSteps j q v) s (chunk-other v q)
  caused-other (CloseSteps j q) s k = row-causes IsOther (CloseSteps j q) s (end-other q)
  caused-other (CloseStepsWith j q b) s k = row-causes IsOther (CloseStepsWith j q b) s (end-other q)
  caused-other (ErrorSteps j q e) s k = row-causes IsOther (ErrorSteps j q e) s (error-other q)
  caused-other _ s k = tt

  pub row-starting : (e : Effect) (s : Slots) (es : List Effect) → Starting (e ∷ es) → Starting ((row e s).caused ++ es)
  row-starting e s es k = each-append IsStarting (row e s).caused es (others-starting (row e s).caused (caused-other e s k.0)) k.1

  pub job-other : (job : Job) → Others (job_effects job)
  job-other job = grind arith

  resolves-names : (p : PromiseId) (es : List Effect) → all (resolves p) es ≤ in_effects p es
  resolves-names p [] = omega arith
  resolves-names p (e ∷ es) = let a = one e in let b = resolves-names p es in omega arith
    where
      one : (e : Effect) → resolves p e ≤ in_effects p (e ∷ [])
      one e = grind arith

  -- the promise that is to be resolved is heard by the writable half

  module _ (i : StreamId) where
    abbrev pub Started : Slots → List Effect → Type 0
    Started s es = (p : PromiseId) → 0 < all (resolves p) es → Ear (is_start i) s es p

    resolve-open : (s : Slots) (es : List Effect) (p : PromiseId) → Sound (λ x. in_effects x es) s → 0 < all (resolves p) es → is_open p s.promises ≡ true
    resolve-open s es p k n = let a = resolves-names p es in open-at (λ x. in_effects x es) p s k (omega arith)

    pub row-started : (s : Slots) (e : Effect) (es : List Effect) → Sound (λ x. in_effects x (e ∷ es)) s → IsStarting e → Started s (e ∷ es)
        → Started (row e s).slots ((row e s).caused ++ es)
    row-started s e es k a h = λ p n.
        let b = others-resolve p (row e s).caused (caused-other e s a) in
        let c = all-append (resolves p) (row e s).caused es in
        let m : 0 < all (resolves p) (e ∷ es) = omega arith in
        ear-row (is_start i) s e es p k (open-pending p s.promises (resolve-open s (e ∷ es) p k m)) (h p m)

    -- and so is the promise of the call

    fresh-open : (p : PromiseId) (t : Table) (event : Event) → is_open p t ≡ true → is_open p (tell event (fresh t)) ≡ true
    fresh-open p t event o =
        let k = open-pending p t o in
        let same : entry_at (fresh t) p ≡ entry_at t p = entry_at-fresh t p (entry_within t p k.entry k.there) in
        ap is_open_entry same ∙ o

    follows-self : (q d : PromiseId) → follows q d (Follow q d) ≡ 1
    follows-self q d = grind arith

    called-follows : (call : HostCall) (p : PromiseId) (s : Slots) → is_open p s.promises ≡ true
        → Queued (follows p (next_id s.promises)) 1 (row (CallHost call (Resolve p)) s).slots.promises
    unfolding row call_host
    called-follows call p s o =
        let event : Event = HostCalled (record { 0 = length s.hosts }) call in
        let one = follows-self p (next_id s.promises) in
        rw one at (follow-queues (follows p (next_id s.promises)) p (next_id s.promises) (tell event (fresh s.promises)) (fresh-open p s.promises event o))

    pub called-ear : (j : StreamId) (u : Use) (s : Slots) (es : List Effect) → let e : Effect = CallHost (HostStart j) u in Sound (λ x. in_effects x (e ∷ es)) s → is_same r j ≡ true → IsStarting e → Started s (e ∷ es)
        → Ear (is_start i) (row e s).slots ((row e s).caused ++ es) (next_id s.promises)
    called-ear j u s es k same a h =
        let at = a same in
        let p : PromiseId = at.0 in
        subst (λ (x : Use). Sound (λ y. in_effects y (CallHost (HostStart j) x ∷ es)) s → Started s (CallHost (HostStart j) x ∷ es)
        → Ear (is_start i) (row (CallHost (HostStart j) x) s).slots ((row (CallHost (HostStart j) x) s).caused ++ es) (next_id s.promises)) (sym at.1) (by p) k h
      where
        by : (p : PromiseId) → Sound (λ y. in_effects y (CallHost (HostStart j) (Resolve p) ∷ es)) s → Started s (CallHost (HostStart j) (Resolve p) ∷ es)
            → Ear (is_start i) (row (CallHost (HostStart j) (Resolve p)) s).slots ((row (CallHost (HostStart j) (Resolve p)) s).caused ++ es) (next_id s.promises)
        by p k h =
            let e : Effect = CallHost (HostStart j) (Resolve p) in
            let b = self p.0 in
            let one : resolves p e ≡ 1 = rw (same, b) refl in
            let m : 0 < all (resolves p) (e ∷ es) = omega arith in
            let o = resolve-open s (e ∷ es) p k m in
            Led p (Follows (called-follows (HostStart j) p s o)) (ear-row (is_start i) s e es p k (open-pending p s.promises o) (h p m))

-- streams that are there stay of their kind

grown : (k : ℕ) (x : StreamShape) (z : Slots) (y : Stream) → slice_get (stream_shapes z) k ≡ Some x → slice_get (stream_shapes (add_stream y z)) k ≡ Some x
grown k x z y h =
    let a = map-from stream_shape z.streams k x h in
    map-there stream_shape (z.streams ++ y ∷ []) k a.0 (get-stays z.streams (y ∷ []) k a.0 a.1.0) ∙ ap (λ (w : StreamShape). Some w) a.1.1

pub call-shape : (k : ℕ) (x : StreamShape) (c : Call) (s : Slots) → slice_get (stream_shapes s) k ≡ Some x
    → slice_get (stream_shapes (begin c s).done.slots) k ≡ Some x
call-shape k x c s h = begin-makes (λ z. slice_get (stream_shapes z) k ≡ Some x) (record {
  promise = λ z h. h;
  locks = λ z ls h. h;
  hosts = λ z hs h. h;
  pipe = λ z source dest prevent signal promise h. h;
  signal = λ z h. h;
  transform = λ z kind w q change h. h;
  tee = λ z source first second cancel h. h;
  port = λ z side stream backpressure h. h;
  bytes = λ z mark auto h. grown k x z _ h;
  byob_requests = λ z hs h. h;
  readable = λ z o mark size h. grown k x z _ h;
  writable = λ z o mark size h. grown k x z _ h;
}) c s h

shapes-stay : (k : ℕ) (x : StreamShape) → Stays (λ s es. slice_get (stream_shapes s) k ≡ Some x)
shapes-stay k x = record {
  row = λ s e es h. ap (λ (xs : List StreamShape). slice_get xs k) (row-stream_shapes e s) ∙ h;
  call = λ s c h. call-shape k x c s h;
  job = λ s job e h. h;
  answered = λ s p h. h;
  older = λ s h. h;
}

pub run-shape : (k : ℕ) (x : StreamShape) (xs : List Entry) (s : Slots) → slice_get (stream_shapes s) k ≡ Some x
    → slice_get (stream_shapes (run xs s)) k ≡ Some x
run-shape k x xs s h = run-stays (λ s es. slice_get (stream_shapes s) k ≡ Some x) (shapes-stay k x) (λ s h. h) xs s h

module _ (t : TransformId) (i r : StreamId) where
  -- the readable half, where it is made, is that of the transform stream
  abbrev pub IsOwn : Slots → Type 0
  IsOwn s = (x : StreamShape) → slice_get (stream_shapes s) r.0 ≡ Some x → x ≡ ReadableOf (HalfOf t)

  -- what a call begins with
  pub record Begins (b : Begun) : Type 0 where
    pub fits : IsHalf t i b.done.slots → IsSole t i r b.done.slots → IsOwn b.done.slots → Starting r b.done.caused × Started r i b.done.slots b.done.caused

  plain : (b : Begun) → Others r b.done.caused → Begins b
  plain b k = record { fits = λ h g o. (others-starting r b.done.caused k, λ p n. let a = others-resolve r p b.done.caused k in absurd (omega arith)) }

  plain-own : (b : Begun) → (IsOwn b.done.slots → Others r b.done.caused) → Begins b
  plain-own b k = record { fits = λ h g o. (others-starting r b.done.caused (k o), λ p n. let a = others-resolve r p b.done.caused (k o) in absurd (omega arith)) }

  -- a stream of the host is another
  new-other : (s : Slots) (y : Stream) (z : Slots) → z.streams ≡ s.streams ++ y ∷ [] → (stream_shape y ≡ ReadableOf (HalfOf t) → ⊥) → IsOwn z
      → is_same r (record { 0 = length s.streams }) ≡ false
  new-other s y z e n o = by (is_same r (record { 0 = length s.streams })) refl
    where
      by : (b : Bool) → b ≡ is_same r (record { 0 = length s.streams }) → is_same r (record { 0 = length s.streams }) ≡ false
      by false f = sym f
      by true f =
          let at : r.0 ≡ length s.streams = eq_numbers r.0 (length s.streams) (sym f) in
          let there : slice_get z.streams r.0 ≡ Some y = rw (e, at) (get-last s.streams [] y) in
          absurd (n (o (stream_shape y) (map-there stream_shape z.streams r.0 y there)))

  -- a branch of a tee is another

  placed-other : (z : Slots) (n : ℕ) (y : Stream) → slice_get z.streams n ≡ Some y → (stream_shape y ≡ ReadableOf (HalfOf t) → ⊥) → IsOwn z → is_same r (record { 0 = n }) ≡ false
  placed-other z n y at other o = by (is_same r (record { 0 = n })) refl
    where
      by : (b : Bool) → b ≡ is_same r (record { 0 = n }) → is_same r (record { 0 = n }) ≡ false
      by false f = sym f
      by true f =
          let is : r.0 ≡ n = eq_numbers r.0 n (sym f) in
          let there : slice_get z.streams r.0 ≡ Some y = rw is at in
          absurd (other (o (stream_shape y) (map-there stream_shape z.streams r.0 y there)))

  one-more : (xs : List Stream) (x : Stream) → length (xs ++ x ∷ []) ≡ length xs + 1
  one-more [] x = refl
  one-more (y ∷ ys) x = let h = one-more ys x in omega (arith, h)

  tee-begins : (source : StreamId) (s : Slots) → Begins (making_calls.make_tee source (record { 0 = length s.streams }) (record { 0 = length s.streams + 1 }) s)
  tee-begins source s =
      let me : TeeId = record { 0 = length s.tees } in
      let a : Stream = ReadableStream (readable.set_up (BranchOf me First) 1 Count) in
      let b : Stream = ReadableStream (readable.set_up (BranchOf me Second) 1 Count) in
      let xs : List Stream = s.streams ++ a ∷ [] in
      let made : Begun = making_calls.make_tee source (record { 0 = length s.streams }) (record { 0 = length s.streams + 1 }) s in
      let first : slice_get (xs ++ b ∷ []) (length s.streams) ≡ Some a = get-stays xs (b ∷ []) (length s.streams) a (get-last s.streams [] a) in
      let second : slice_get (xs ++ b ∷ []) (length s.streams + 1) ≡ Some b = subst (λ (k : ℕ). slice_get (xs ++ b ∷ []) k ≡ Some b) (one-more s.streams a) (get-last xs [] b) in
      plain-own made (λ o. (tt, (placed-other made.done.slots (length s.streams) a first (λ e. cc) o, (placed-other made.done.slots (length s.streams + 1) b second (λ e. cc) o, (tt, tt)))))

  -- the two effects by which the start promise of a writable half follows that of the transform stream
  made-ear : (z : Slots) (a b : PromiseId) (j : StreamId) (rest : List Effect) → is_same i j ≡ true
      → Ear (is_start i) z (Give (This a) (Resolve b) ∷ Give (This b) (React (WritableStart j) None) ∷ rest) a
  made-ear z a b j rest same =
      let c = self a.0 in
      let d = self b.0 in
      let one : gives b a (Give (This a) (Resolve b)) ≡ 1 = rw (c, d) refl in
      let two : tells (is_start i) b (Give (This b) (React (WritableStart j) None)) ≡ 1 = rw (d, same) refl in
      Led b (Resolves (omega arith)) (Told (omega arith))

  names-only : (p q : PromiseId) → 0 < names p q → p ≡ q
  names-only p q n = by (nat_eq p.0 q.0) refl n
    where
      by : (b : Bool) → b ≡ nat_eq p.0 q.0 → 0 < promises_one_if b → p ≡ q
      by true e n = ap (λ (k : ℕ). record { 0 = k }) (eq_numbers p.0 q.0 (sym e))
      by false e n = absurd (omega arith)

  if-positive : (b : Bool) (n : ℕ) → 0 < (if b then n else 0) → (b ≡ true) × (0 < n)
  if-positive true n l = (refl, l)
  if-positive false n l = absurd (omega arith)

  made-by : (kind : Kind) (m n : ℕ) (start : StartBy) (s : Slots)
      → Begins (making_calls.make_transform kind m n start (record { 0 = length s.streams }) (record { 0 = length s.streams + 1 }) s)
  made-by kind m n Now s = plain _ (tt, (tt, (tt, (tt, (tt, tt)))))
  made-by kind m n Later s = record {
    fits = λ h g o.
        let w : StreamId = record { 0 = length s.streams } in
        let j : StreamId = record { 0 = length s.streams + 1 } in
        let me : TransformId = record { 0 = length s.transforms } in
        let b : Begun = making_calls.make_transform kind m n Later w j s in
        let x : transform.Slots = transform.set_up kind w j (next_id s.promises) in
        let there : slice_get (transform_shapes b.done.slots) me.0 ≡ Some (transform_shape x) = map-there transform_shape (s.transforms ++ x ∷ []) me.0 x (get-last s.transforms [] x) in (
          (tt, (tt, (tt, (tt, (λ same. (_, refl), tt))))),
          λ p n.
              let k = if-positive (is_same r j) (names p (next_id (fresh s.promises))) (omega arith) in
              let is : j ≡ r = sym (same_id r j k.0) in
              let mine : me ≡ t = g me (transform_shape x) there is in
              let half : w ≡ i = h (transform_shape x) (subst (λ (u : TransformId). slice_get (transform_shapes b.done.slots) u.0 ≡ Some (transform_shape x)) mine there) in
              let same : is_same i w ≡ true = subst (λ (k : StreamId). is_same i k ≡ true) (sym half) (is_same-refl i) in
              let at = names-only p (next_id (fresh s.promises)) k.1 in
              rw at (made-ear b.done.slots (next_id (fresh s.promises)) (next_id (fresh (fresh s.promises))) w _ same),
        );
  }

  -- nor is one at the end of a port
  new-end : (s : Slots) (side : Side) (z : Slots) → z.streams ≡ s.streams ++ pipe_calls.end_of (record { 0 = length s.ports }) side ∷ [] → IsOwn z → is_same r (record { 0 = length s.streams }) ≡ false
  new-end s ReadableSide z e o = new-other s (pipe_calls.end_of (record { 0 = length s.ports }) ReadableSide) z e (λ f. cc) o
  new-end s WritableSide z e o = new-other s (pipe_calls.end_of (record { 0 = length s.ports }) WritableSide) z e (λ f. cc) o

  open-begins : (side : Side) (s : Slots) → Begins (pipe_calls.open_end side (record { 0 = length s.streams }) s)
  open-begins ReadableSide s = plain-own _ (λ o. (new-end s ReadableSide (pipe_calls.open_end ReadableSide (record { 0 = length s.streams }) s).done.slots refl o, tt))
  open-begins WritableSide s = plain-own _ (λ o. (new-end s WritableSide (pipe_calls.open_end WritableSide (record { 0 = length s.streams }) s).done.slots refl o, tt))

  pub call-begins : (c : Call) (s : Slots) → Begins (begin c s)
  call-begins c s = each_call Begins c s (record {
    unchanged = λ reply. plain _ tt;
    rejected = λ fault. plain _ (grind arith);
    make_readable = λ mark size start. plain-own _ (λ o. (new-other s (ReadableStream (readable.set_up Host mark size)) (add_stream (ReadableStream (readable.set_up Host mark size)) s) refl (λ e. cc) o, tt));
    make_writable = λ mark size start. plain-own _ (λ o. (new-other s (WritableStream (writable.set_up Host mark size)) (add_stream (WritableStream (writable.set_up Host mark size)) s) refl (λ e. cc) o, tt));
    make_transform = λ kind m n start. made-by kind m n start s;
    make_tee = λ source e is free untied. tee-begins source s;
    get_byob = λ j is e. plain _ (grind arith);
    release_byob = λ l closed j e. plain _ (grind arith);
    read_into = λ l j closed room element least e f. plain _ (grind arith);
    enqueue_bytes = λ j b e is some can. plain _ (grind arith);
    finish_bytes = λ j e is can. plain _ (grind arith);
    make_request = λ j reply is. plain _ (grind arith);
    respond = λ r j b e is can. plain _ (grind arith);
    make_bytes = λ mark auto start. plain-own _ (λ o. (new-other s (ByteStream (byte.set_up mark auto)) (add_stream (ByteStream (byte.set_up mark auto)) s) refl (λ e. cc) o, tt));
    get_reader = λ j e. plain _ (grind arith);
    get_writer = λ j e. plain _ (grind arith);
    release_reader = λ l closed j e. plain _ (grind arith);
    release_writer = λ l j w e f. plain _ (grind arith);
    cancel = λ reason j. plain _ (grind arith);
    read = λ l j closed e f. plain _ (grind arith);
    write = λ l v j e. plain _ (grind arith);
    close = λ j. plain _ (grind arith);
    abort = λ reason j e. plain _ (grind arith);
    enqueue = λ j v e host open_. plain _ (grind arith);
    enqueue_half = λ j u v e host open_. plain _ (grind arith);
    finish = λ j. plain _ (grind arith);
    fail_readable = λ j reason. plain _ (grind arith);
    fail_writable = λ j reason. plain _ (grind arith);
    fail_half = λ u reason. plain _ (grind arith);
    terminate = λ u. plain _ (grind arith);
    pipe = λ source dest prevent signal e f l m. plain _ (grind arith);
    make_signal = plain _ tt;
    open_end = λ side. open-begins side s;
    send_readable = λ j there free. plain-own _ (λ o. (new-end s WritableSide (pipe_calls.send_readable j (record { 0 = length s.streams }) s).done.slots refl o, (tt, (tt, (tt, (tt, (tt, (tt, tt))))))));
    send_writable = λ j there free. plain-own _ (λ o. (new-end s ReadableSide (pipe_calls.send_writable j (record { 0 = length s.streams }) s).done.slots refl o, (tt, (tt, (tt, (tt, (tt, (tt, tt))))))));
    deliver = λ p m e is. plain _ (tt, tt);
    trigger = λ a reason. plain _ (grind arith);
    settle = λ a answer p e. plain _ (grind arith);
  })
