-- Over each effect: a result that is held is heard by the writable half, and no two are held.
use Rattle.std.proofs.Common.{◌≡◌, ◌⊎◌, inl, inr, ℕ, zero, suc, ◌+◌, ◌≤◌, Bool, true, false, nat_eq, List, [], ◌∷◌, ◌++◌, Option, Some, None, slice_get, refl, sym, subst, ap, ◌∙◌, arith}
use Rattle.ws_laws.proofs.PortDoes.{PortCauses}
use Rattle.ws_value.specs.declared.ids.PortId.{PortId}
use Rattle.ws_steps.specs.declared.effects.Owner.TheVariants.{EndOf}
use Rattle.ws_laws.proofs.TeeDoes.{TeeCauses}
use Rattle.ws_value.specs.declared.ids.TeeId.{TeeId}
use Rattle.ws_steps.specs.declared.effects.Effect.TheVariants.{Tee as OnTee}
use Rattle.ws_value.specs.declared.{ids.PipeId.{PipeId}, ids.PromiseId.{PromiseId}, ids.StreamId.{StreamId}, value.Value.{Value}}
use Rattle.ws_steps.specs.declared.calls.{Call.{Call}}
use Rattle.ws_steps.specs.declared.effects.{Effect.{Effect}, Owner.{Owner}, Owner.TheVariants.{Host, HalfOf, BranchOf}, Use.{Use}, Use.TheVariants.{React}}
use Rattle.ws_steps.specs.declared.effects.Effect.TheVariants.{Readable as OnReadable, Writable as OnWritable, Pipe as OnPipe, Signal as OnSignal, Transform as OnTransform, Port as OnPort, StartAlgorithm, PullAlgorithm, CancelAlgorithm, WriteAlgorithm, CloseAlgorithm, AbortAlgorithm, ChunkSteps, CloseSteps, ErrorSteps}
use Rattle.ws_steps.specs.declared.pipes.{SignalOperation.{SignalOperation}, SignalOperation.TheVariants.{Add, Forget, Trigger}}
use Rattle.ws_steps.specs.declared.promises.{Job.{Job}, Step.TheVariants.{WritableWrite}}
use Rattle.ws_steps.specs.declared.readable.{ReadRequest.{ReadRequest}, ReadRequest.TheVariants.{Promise, Pipe as PipeRequest, Tee as TeeRequest}}
use Rattle.ws_steps.specs.declared.transform.{TransformId.{TransformId}}
use Rattle.ws_steps.specs.declared.transform.TransformOperation.TheVariants as names_of
use Rattle.ws_steps.specs.declared.writable.{WritableOperation.{WritableOperation}, WritableState.{WritableState}, WritableState.TheVariants.{Writable, Erroring, Errored, Closed}}
use Rattle.ws_steps.specs.Begun.{Begun}
use Rattle.ws_steps.specs.Calls.{begin}
use Rattle.ws_steps.specs.Jobs.{job_effects}
use Rattle.ws_steps.specs.Promises.{next_id}
use Rattle.ws_steps.specs.Slots.{Slots, found, halves_at, owner_at, has_writable, on_transform_at}
use Rattle.ws_steps.specs.Transform as transform
use Rattle.ws_steps.specs.Turns.{row, write_algorithm}
use Rattle.ws_laws.proofs.EachCall.{each_call}
use Rattle.ws_laws.proofs.Halves.{Halved}
use Rattle.ws_laws.proofs.Lists.{Each, each-append, each-map}
use Rattle.ws_laws.proofs.PipeDoes.{PipeCauses}
use Rattle.ws_laws.proofs.Causes.{ChunkCauses, EndCauses, ErrorCauses, SignalCauses, row-causes}
use Rattle.ws_laws.proofs.Shapes.{TransformShape, transform_shapes}
use Rattle.ws_laws.proofs.Tables.{eq_numbers, is_same-refl}
use Rattle.ws_laws.proofs.TransformDoes.{TransformCauses}
use Rattle.ws_laws.proofs.Weights.{weigh}
use Rattle.ws_writable_laws.proofs.Shape.{one_if, all, all-append, is_write, leads_to}
use Rattle.ws_promise_laws.proofs.Runs.{Straight}
use Rattle.ws_promise_laws.proofs.Tokens.{names}
use Rattle.ws_transform_laws.specs.TransformHistory.{is_same_transform}
use Rattle.ws_transform_laws.proofs.Cancelling.{is_half, mine}
use Rattle.ws_transform_laws.proofs.Halving.{writable-shape}
use Rattle.ws_transform_laws.proofs.Telling.{owned-stays}
use Rattle.ws_want_laws.proofs.Bound.{one, tokens, some-token, token-pending}
use Rattle.ws_want_laws.proofs.Ears.{Ear, Told, Led, Resolves, hears, tells, tells_any, gives, ear-weighs, ear-row}
use Rattle.ws_want_laws.proofs.Results.{of_used, all_in_hand, in_hand, Makes, on-sink, on-going, row-weighs, spared-weighs}
use Rattle.ws_steps.specs.declared.effects.Effect.TheVariants.{Byte, CloseStepsWith}

self : (k : ℕ) → nat_eq k k ≡ true
self k = grind arith

module _ (t : TransformId) (i : StreamId) where
  -- the writable half, where the transform stream is made
  abbrev pub IsHalf : Slots → Type 0
  IsHalf s = (x : TransformShape) → slice_get (transform_shapes s) t.0 ≡ Some x → x.writable ≡ i

  -- a write of the transform stream is one of its writable half
  abbrev pub IsFaithful : Slots → Effect → Type 0
  IsFaithful s (OnTransform u (names_of.SinkWrite w)) = is_same_transform t u ≡ true → w ≡ React (WritableWrite i) None
  IsFaithful s (WriteAlgorithm j) = mine t s j ≡ true → j ≡ i
  IsFaithful s _ = Unit {0}

  abbrev pub Faithful : Slots → List Effect → Type 0
  Faithful s es = Each (IsFaithful s) es

  half-of : (o : Owner) → is_half t o ≡ true → o ≡ HalfOf t
  half-of Host e = cc
  half-of (HalfOf u) e = ap HalfOf (sym (ap (λ (n : ℕ). record { 0 = n }) (eq_numbers t.0 u.0 e)))
  half-of (BranchOf u half) e = cc
  half-of (EndOf c) e = cc

  pub written-half : (s : Slots) (j : StreamId) → Halved s → IsHalf s → has_writable j s ≡ true → mine t s j ≡ true → j ≡ i
  written-half s j halved h there m =
      let k = halved.writable j t (writable-shape j s (HalfOf t) there (half-of (owner_at j s) m)) in sym k.1.1 ∙ h k.0 k.1.0

  chunk-faithful : (s : Slots) (v : Value) (r : ReadRequest) → ChunkCauses (IsFaithful s) v r
  chunk-faithful s v (Promise p) = tt
  chunk-faithful s v (PipeRequest p) = tt
  chunk-faithful s v (TeeRequest t) = tt

  end-faithful : (s : Slots) (r : ReadRequest) → EndCauses (IsFaithful s) r
  end-faithful s (Promise p) = tt
  end-faithful s (PipeRequest p) = tt
  end-faithful s (TeeRequest t) = tt

  error-faithful : (s : Slots) (r : ReadRequest) → ErrorCauses (IsFaithful s) r
  error-faithful s (Promise p) = tt
  error-faithful s (PipeRequest p) = tt
  error-faithful s (TeeRequest t) = tt

  signal-faithful : (s : Slots) (operation : SignalOperation) → SignalCauses (IsFaithful s) operation
  signal-faithful s (Add p) = tt
  signal-faithful s (Forget p) = tt
  signal-faithful s (Trigger r) = λ p. tt

  pipe-faithful : (s : Slots) (p : PipeId) (source dest : StreamId) (e : Effect) → PipeCauses p source dest e → IsFaithful s e
  pipe-faithful s p source dest (OnTransform u operation) c = absurd c
  pipe-faithful s p source dest (WriteAlgorithm j) c = absurd c
  pipe-faithful s p source dest _ c = tt

  transform-faithful : (s : Slots) (u : TransformId) (w r : StreamId) (e : Effect) → TransformCauses u w r e → IsFaithful s e
  transform-faithful s u w r (OnTransform y (names_of.SinkWrite x)) c = absurd c
  transform-faithful s u w r (WriteAlgorithm j) c = absurd c
  transform-faithful s u w r _ c = tt

  tee-faithful : (s : Slots) (u : TeeId) (source first second : StreamId) (e : Effect) → TeeCauses u source first second e → IsFaithful s e
  tee-faithful s u source first second (OnTransform y operation) c = absurd c
  tee-faithful s u source first second (WriteAlgorithm j) c = absurd c
  tee-faithful s u source first second _ c = tt

  port-faithful : (s : Slots) (c : PortId) (stream : StreamId) (e : Effect) → PortCauses c stream e → IsFaithful s e
  port-faithful s c stream (OnTransform y operation) k = absurd k
  port-faithful s c stream (WriteAlgorithm j) k = absurd k
  port-faithful s c stream _ k = tt

  write-faithful : (s : Slots) (j : StreamId) (owner : Owner) → (is_half t owner ≡ true → j ≡ i) → Faithful s (write_algorithm j owner)
  write-faithful s j Host k = (tt, tt)
  write-faithful s j (HalfOf u) k = (λ same. ap (λ (n : StreamId). React (WritableWrite n) None) (k same), tt)
  write-faithful s j (BranchOf u half) k = (tt, tt)
  write-faithful s j (EndOf c) k = (tt, tt)

  absent : (s : Slots) (j : StreamId) (operation : WritableOperation) → has_writable j s ≡ false → (row (OnWritable j operation) s).caused ≡ []
  unfolding row
  absent s j operation e = rw e refl

  writable-faithful : (s : Slots) (j : StreamId) (operation : WritableOperation) → Halved s → IsHalf s → Faithful s (row (OnWritable j operation) s).caused
  writable-faithful s j operation halved h = by (has_writable j s) refl
    where
      by : (b : Bool) → b ≡ has_writable j s → Faithful s (row (OnWritable j operation) s).caused
      by true e = row-causes (IsFaithful s) (OnWritable j operation) s (record { write = written-half s j halved h (sym e); close = tt; abort = λ c p. tt; hand_on = λ v. tt; take = λ v u d. tt; post = λ v c d. tt })
      by false e = rw (absent s j operation (sym e)) tt

  caused-faithful : (s : Slots) (e : Effect) → Halved s → IsHalf s → IsFaithful s e → Faithful s (row e s).caused
  unfolding row
  caused-faithful s (OnReadable j operation) halved h k = row-causes (IsFaithful s) (OnReadable j operation) s (record { pull = tt; cancel = λ c p. tt; chunk = λ q v. tt; close = λ q. tt; error = λ q e. tt })
  caused-faithful s (Byte j operation) halved h k =
      row-causes (IsFaithful s) (Byte j operation) s (record { readable = record { pull = tt; cancel = λ c p. tt; chunk = λ q v. tt; close = λ q. tt; error = λ q e. tt }; close_with = λ q b. tt })
  caused-faithful s (OnWritable j operation) halved h k = writable-faithful s j operation halved h
  caused-faithful s (OnPipe p operation) halved h k = row-causes (IsFaithful s) (OnPipe p operation) s (pipe-faithful s p)
  caused-faithful s (OnSignal a operation) halved h k = row-causes (IsFaithful s) (OnSignal a operation) s (signal-faithful s operation)
  caused-faithful s (OnTransform u operation) halved h k = row-causes (IsFaithful s) (OnTransform u operation) s (transform-faithful s u)
  caused-faithful s (OnTee u operation) halved h k = row-causes (IsFaithful s) (OnTee u operation) s (tee-faithful s u)
  caused-faithful s (OnPort c operation) halved h k = row-causes (IsFaithful s) (OnPort c operation) s (port-faithful s c)
  caused-faithful s (StartAlgorithm j step start) halved h k = row-causes (IsFaithful s) (StartAlgorithm j step start) s (λ g u. tt, λ c u. tt)
  caused-faithful s (PullAlgorithm j) halved h k = row-causes (IsFaithful s) (PullAlgorithm j) s (λ c u. tt, (λ y u. tt, (λ t. tt, (λ u. tt, λ c. tt))))
  caused-faithful s (CancelAlgorithm j c p) halved h k = row-causes (IsFaithful s) (CancelAlgorithm j c p) s (λ c u. tt, (λ y u. tt, (λ t half u. tt, λ q u. tt)))
  caused-faithful s (WriteAlgorithm j) halved h k = write-faithful s j (owner_at j s) k
  caused-faithful s (CloseAlgorithm j) halved h k = row-causes (IsFaithful s) (CloseAlgorithm j) s (λ c u. tt, (λ y u. tt, λ q u. tt))
  caused-faithful s (AbortAlgorithm j c p) halved h k = row-causes (IsFaithful s) (AbortAlgorithm j c p) s (λ c u. tt, (λ y u. tt, λ q u. tt))
  caused-faithful s (ChunkSteps j r v) halved h k = row-causes (IsFaithful s) (ChunkSteps j r v) s (chunk-faithful s v r)
  caused-faithful s (CloseSteps j r) halved h k = row-causes (IsFaithful s) (CloseSteps j r) s (end-faithful s r)
  caused-faithful s (CloseStepsWith j r b) halved h k = row-causes (IsFaithful s) (CloseStepsWith j r b) s (end-faithful s r)
  caused-faithful s (ErrorSteps j r e) halved h k = row-causes (IsFaithful s) (ErrorSteps j r e) s (error-faithful s r)
  caused-faithful s _ halved h k = tt

  faithful-on : (s : Slots) (e f : Effect) → IsFaithful s f → IsFaithful (row e s).slots f
  faithful-on s e (WriteAlgorithm j) k = λ m. k (sym (owned-stays t i s e j) ∙ m)
  faithful-on s e (OnTransform u (names_of.SinkWrite w)) k = k
  faithful-on s e _ k = tt

  pub row-faithful : (s : Slots) (e : Effect) (es : List Effect) → Halved s → IsHalf s → Faithful s (e ∷ es) → Faithful (row e s).slots ((row e s).caused ++ es)
  row-faithful s e es halved h k =
      each-map (IsFaithful s) (IsFaithful (row e s).slots) (faithful-on s e) ((row e s).caused ++ es) (each-append (IsFaithful s) (row e s).caused es (caused-faithful s e halved h k.0) k.1)

  pub call-faithful : (c : Call) (s z : Slots) → Faithful z (begin c s).done.caused
  call-faithful c s z = each_call (λ (b : Begun). Faithful z b.done.caused) c s (grind arith)

  pub job-faithful : (job : Job) (s : Slots) → Faithful s (job_effects job)
  job-faithful job s = grind arith

  -- each result that is held is heard

  abbrev pub Heeds : Slots → List Effect → Type 0
  Heeds s es = (d : PromiseId) → 1 ≤ tokens t (names d) s es → Ear (is_write i) s es d

  -- one that was held before
  kept-ear : (s : Slots) (e : Effect) (es : List Effect) (d : PromiseId) → Straight s (e ∷ es) → Heeds s (e ∷ es) → 1 ≤ tokens t (names d) s (e ∷ es)
      → Ear (is_write i) (row e s).slots ((row e s).caused ++ es) d
  kept-ear s e es d k h n = ear-row (is_write i) s e es d k.sound (token-pending t d s (e ∷ es) k.sound n) (h d n)

  plain-heeds : (s : Slots) (e : Effect) (es : List Effect) → (Makes t (names (record { 0 = 0 })) e → ⊥) → Straight s (e ∷ es) → Heeds s (e ∷ es)
      → Heeds (row e s).slots ((row e s).caused ++ es)
  plain-heeds s e es m k h = λ d n.
      let a = row-weighs t (names d) e s m in
      let b = all-append (in_hand t (names d)) (row e s).caused es in kept-ear s e es d k h (omega arith)

  -- the first effect by which a write is written to the transform stream

  sink-none : (s : Slots) (w : Use) → slice_get s.transforms t.0 ≡ None → (row (OnTransform t (names_of.SinkWrite w)) s).caused ≡ []
  unfolding row
  sink-none s w e = rw e refl

  sink-caused : (P : PromiseId → ℕ) (s : Slots) (w : Use)
      → all_in_hand t P (row (OnTransform t (names_of.SinkWrite w)) s).caused ≤ P (next_id s.promises) + of_used t P w
  unfolding row
  sink-caused P s w = on-sink t P s w (slice_get s.transforms t.0)

  sink-tells : (s : Slots) (x : transform.Slots) → slice_get s.transforms t.0 ≡ Some x
      → 1 ≤ all (tells (is_write i) (next_id s.promises)) (row (OnTransform t (names_of.SinkWrite (React (WritableWrite i) None))) s).caused
  unfolding row transform.sink_write
  sink-tells s x e = rw e (let a = self (next_id s.promises).0 in let b = is_same-refl i in grind (arith, a, b))

  self-using : (w : Use) → of_used t one (React (WritableWrite i) None) ≡ 0
  self-using w = refl

  sink-heeds : (s : Slots) (es : List Effect) → let e : Effect = OnTransform t (names_of.SinkWrite (React (WritableWrite i) None)) in Straight s (e ∷ es) → Heeds s (e ∷ es) → Heeds (row e s).slots ((row e s).caused ++ es)
  sink-heeds s es k h = λ d n. by d (nat_eq d.0 (next_id s.promises).0) refl (slice_get s.transforms t.0) refl n
    where
      w : Use
      w = React (WritableWrite i) None

      e : Effect
      e = OnTransform t (names_of.SinkWrite w)

      before : (d : PromiseId) → all_in_hand t (names d) (row e s).caused ≡ 0 → 1 ≤ tokens t (names d) (row e s).slots ((row e s).caused ++ es)
          → Ear (is_write i) (row e s).slots ((row e s).caused ++ es) d
      before d none n =
          let a = spared-weighs t (names d) e s (λ u. u) in
          let b = all-append (in_hand t (names d)) (row e s).caused es in kept-ear s e es d k h (omega arith)

      by : (d : PromiseId) (same : Bool) → same ≡ nat_eq d.0 (next_id s.promises).0 → (o : Option transform.Slots) → o ≡ slice_get s.transforms t.0
          → 1 ≤ tokens t (names d) (row e s).slots ((row e s).caused ++ es) → Ear (is_write i) (row e s).slots ((row e s).caused ++ es) d
      by d false f o at n =
          let c = sink-caused (names d) s w in
          let z : names d (next_id s.promises) ≡ 0 = rw (← f) refl in
          before d (omega arith) n
      by d true f None at n = before d (rw (sink-none s w (sym at)) refl) n
      by d true f (Some x) at n =
          let is : d ≡ next_id s.promises = ap (λ (n : ℕ). record { 0 = n }) (eq_numbers d.0 (next_id s.promises).0 (sym f)) in
          let a = sink-tells s x (sym at) in
          let b : 1 ≤ all (tells (is_write i) d) (row e s).caused = rw is a in
          let c = all-append (tells (is_write i) d) (row e s).caused es in Told (omega arith)

  -- and where it goes on

  going-caused : (P : PromiseId → ℕ) (s : Slots) (c : PromiseId)
      → all_in_hand t P (row (OnTransform t (names_of.WriteGoesOn c)) s).caused ≤ P (next_id s.promises)
  unfolding row
  going-caused P s c = on-going t P s c (slice_get s.transforms t.0)

  going-gives : (s : Slots) (c : PromiseId) (P : PromiseId → ℕ)
      → (all_in_hand t P (row (OnTransform t (names_of.WriteGoesOn c)) s).caused ≡ 0) ⊎ (1 ≤ all (gives c (next_id s.promises)) (row (OnTransform t (names_of.WriteGoesOn c)) s).caused)
  unfolding row transform.write_goes_on
  going-gives s c P = by (slice_get s.transforms t.0)
    where
      in-state : (x : transform.Slots) (state : WritableState) → (all_in_hand t P (transform.write_in t (halves_at x s) c (record { slots = x; out = found s }) state).out.effects ≡ 0)
          ⊎ (1 ≤ all (gives c (next_id s.promises)) (transform.write_in t (halves_at x s) c (record { slots = x; out = found s }) state).out.effects)
      in-state x Writable = inr (let a = self (next_id s.promises).0 in let b = self c.0 in grind (arith, a, b))
      in-state x Erroring = inl refl
      in-state x Errored = inr (let a = self (next_id s.promises).0 in let b = self c.0 in grind (arith, a, b))
      in-state x Closed = inr (let a = self (next_id s.promises).0 in let b = self c.0 in grind (arith, a, b))

      by : (o : Option transform.Slots)
          → (all_in_hand t P (on_transform_at (λ halves. transform.write_goes_on t halves c) t s o).caused ≡ 0) ⊎ (1 ≤ all (gives c (next_id s.promises)) (on_transform_at (λ halves. transform.write_goes_on t halves c) t s o).caused)
      by None = inl refl
      by (Some x) = in-state x (halves_at x s).writable_state

  going-heeds : (s : Slots) (c : PromiseId) (es : List Effect) → let e : Effect = OnTransform t (names_of.WriteGoesOn c) in Straight s (e ∷ es) → Heeds s (e ∷ es) → Heeds (row e s).slots ((row e s).caused ++ es)
  going-heeds s c es k h = λ d n. by d (nat_eq d.0 (next_id s.promises).0) refl (going-gives s c (names d)) n
    where
      e : Effect
      e = OnTransform t (names_of.WriteGoesOn c)

      before : (d : PromiseId) → all_in_hand t (names d) (row e s).caused ≡ 0 → 1 ≤ tokens t (names d) (row e s).slots ((row e s).caused ++ es)
          → Ear (is_write i) (row e s).slots ((row e s).caused ++ es) d
      before d none n =
          let a = spared-weighs t (names d) e s (λ u. u) in
          let b = all-append (in_hand t (names d)) (row e s).caused es in kept-ear s e es d k h (omega arith)

      held : 1 ≤ tokens t (names c) s (e ∷ es)
      held = let a = self t.0 in let b = self c.0 in let z : in_hand t (names c) e ≡ 1 = rw (a, b) refl in omega arith

      by : (d : PromiseId) (same : Bool) → same ≡ nat_eq d.0 (next_id s.promises).0
          → (all_in_hand t (names d) (row e s).caused ≡ 0) ⊎ (1 ≤ all (gives c (next_id s.promises)) (row e s).caused)
          → 1 ≤ tokens t (names d) (row e s).slots ((row e s).caused ++ es) → Ear (is_write i) (row e s).slots ((row e s).caused ++ es) d
      by d same f (inl none) n = before d none n
      by d false f (inr g) n =
          let a = going-caused (names d) s c in
          let z : names d (next_id s.promises) ≡ 0 = rw (← f) refl in
          before d (omega arith) n
      by d true f (inr g) n =
          let is : d ≡ next_id s.promises = ap (λ (n : ℕ). record { 0 = n }) (eq_numbers d.0 (next_id s.promises).0 (sym f)) in
          let b : 1 ≤ all (gives c d) (row e s).caused = rw is g in
          let a = all-append (gives c d) (row e s).caused es in
          Led c (Resolves (omega arith)) (kept-ear s e es c k h held)

  same-of : (u : TransformId) → is_same_transform t u ≡ true → t ≡ u
  same-of u e = ap (λ (n : ℕ). record { 0 = n }) (eq_numbers t.0 u.0 e)

  never : {A : Type 0} (b : Bool) → false ≡ b → b ≡ true → A
  never b e f = absurd (cc)

  pub row-heeds : (s : Slots) (e : Effect) (es : List Effect) → IsFaithful s e → Straight s (e ∷ es) → Heeds s (e ∷ es)
      → Heeds (row e s).slots ((row e s).caused ++ es)
  row-heeds s (OnTransform u (names_of.SinkWrite w)) es f k h = by (is_same_transform t u) refl k h
    where
      by : (b : Bool) → b ≡ is_same_transform t u → Straight s (OnTransform u (names_of.SinkWrite w) ∷ es) → Heeds s (OnTransform u (names_of.SinkWrite w) ∷ es)
          → Heeds (row (OnTransform u (names_of.SinkWrite w)) s).slots ((row (OnTransform u (names_of.SinkWrite w)) s).caused ++ es)
      by false e k h = plain-heeds s (OnTransform u (names_of.SinkWrite w)) es (λ m. never (is_same_transform t u) e m) k h
      by true e k h =
          let is = f (sym e) in
          let at = same-of u (sym e) in
          subst (λ (v : TransformId). Straight s (OnTransform v (names_of.SinkWrite w) ∷ es) → Heeds s (OnTransform v (names_of.SinkWrite w) ∷ es)
          → Heeds (row (OnTransform v (names_of.SinkWrite w)) s).slots ((row (OnTransform v (names_of.SinkWrite w)) s).caused ++ es)) at
          (subst (λ (x : Use). Straight s (OnTransform t (names_of.SinkWrite x) ∷ es) → Heeds s (OnTransform t (names_of.SinkWrite x) ∷ es)
          → Heeds (row (OnTransform t (names_of.SinkWrite x)) s).slots ((row (OnTransform t (names_of.SinkWrite x)) s).caused ++ es)) (sym is) (sink-heeds s es)) k h
  row-heeds s (OnTransform u (names_of.WriteGoesOn c)) es f k h = by (is_same_transform t u) refl k h
    where
      by : (b : Bool) → b ≡ is_same_transform t u → Straight s (OnTransform u (names_of.WriteGoesOn c) ∷ es)
          → Heeds s (OnTransform u (names_of.WriteGoesOn c) ∷ es)
          → Heeds (row (OnTransform u (names_of.WriteGoesOn c)) s).slots ((row (OnTransform u (names_of.WriteGoesOn c)) s).caused ++ es)
      by false e k h = plain-heeds s (OnTransform u (names_of.WriteGoesOn c)) es (λ m. never (is_same_transform t u) e m) k h
      by true e k h =
          subst (λ (v : TransformId). Straight s (OnTransform v (names_of.WriteGoesOn c) ∷ es) → Heeds s (OnTransform v (names_of.WriteGoesOn c) ∷ es)
          → Heeds (row (OnTransform v (names_of.WriteGoesOn c)) s).slots ((row (OnTransform v (names_of.WriteGoesOn c)) s).caused ++ es)) (same-of u (sym e)) (going-heeds s c es) k h
  row-heeds s e es f k h = plain-heeds s e es (λ m. m) k h

  -- no two are held

  abbrev pub Few : Slots → List Effect → Type 0
  Few s es = tokens t one s es ≤ 1

  plain-few : (s : Slots) (e : Effect) (es : List Effect) → (Makes t one e → ⊥) → Few s (e ∷ es) → Few (row e s).slots ((row e s).caused ++ es)
  plain-few s e es m k = let a = row-weighs t one e s m in let b = all-append (in_hand t one) (row e s).caused es in omega arith

  going-few : (s : Slots) (c : PromiseId) (es : List Effect) → let e : Effect = OnTransform t (names_of.WriteGoesOn c) in Few s (e ∷ es) → Few (row e s).slots ((row e s).caused ++ es)
  going-few s c es k =
      let e : Effect = OnTransform t (names_of.WriteGoesOn c) in
      let a = spared-weighs t one e s (λ u. u) in
      let b = all-append (in_hand t one) (row e s).caused es in
      let c = going-caused one s c in
      let z : in_hand t one e ≡ 1 = rw (self t.0) refl in omega arith

  -- a write that is written finds none that is held
  tells-lead : (e : Effect) → tells_any (is_write i) e ≤ leads_to (is_write i) e
  tells-lead e = grind arith

  all-lead : (es : List Effect) → all (tells_any (is_write i)) es ≤ all (leads_to (is_write i)) es
  all-lead [] = omega arith
  all-lead (e ∷ es) = let a = tells-lead e in let b = all-lead es in omega arith

  under-way : (s : Slots) (es : List Effect) → Straight s es → weigh (hears (is_write i)) s.promises + all (leads_to (is_write i)) es ≤ 1
  under-way s es k = let w = (k.known i).1.held.fine.owed.writes in by _ w
    where
      by : (b : Bool) → weigh (hears (is_write i)) s.promises + all (leads_to (is_write i)) es ≤ one_if b
          → weigh (hears (is_write i)) s.promises + all (leads_to (is_write i)) es ≤ 1
      by true l = l
      by false l = omega arith

  sink-free : (s : Slots) (es : List Effect) → let e : Effect = OnTransform t (names_of.SinkWrite (React (WritableWrite i) None)) in Straight s (e ∷ es) → Heeds s (e ∷ es) → tokens t one s (e ∷ es) ≡ 0
  sink-free s es k h = by (tokens t one s (e ∷ es)) refl
    where
      e : Effect
      e = OnTransform t (names_of.SinkWrite (React (WritableWrite i) None))

      by : (m : ℕ) → m ≡ tokens t one s (e ∷ es) → tokens t one s (e ∷ es) ≡ 0
      by zero f = sym f
      by (suc m) f =
          let d = some-token t s (e ∷ es) (omega arith) in
          let a = ear-weighs (is_write i) s (e ∷ es) d.0 k.sound (token-pending t d.0 s (e ∷ es) k.sound d.1) (h d.0 d.1) in
          let b = all-lead es in
          let c : leads_to (is_write i) e ≡ 1 = rw (is_same-refl i) refl in
          let w = under-way s (e ∷ es) k in absurd (omega arith)

  sink-few : (s : Slots) (es : List Effect) → let e : Effect = OnTransform t (names_of.SinkWrite (React (WritableWrite i) None)) in Straight s (e ∷ es) → Heeds s (e ∷ es) → Few (row e s).slots ((row e s).caused ++ es)
  sink-few s es k h =
      let e : Effect = OnTransform t (names_of.SinkWrite (React (WritableWrite i) None)) in
      let n = sink-free s es k h in
      let a = spared-weighs t one e s (λ u. u) in
      let b = all-append (in_hand t one) (row e s).caused es in
      let c = sink-caused one s (React (WritableWrite i) None) in omega arith

  pub row-few : (s : Slots) (e : Effect) (es : List Effect) → IsFaithful s e → Straight s (e ∷ es) → Heeds s (e ∷ es) → Few s (e ∷ es)
      → Few (row e s).slots ((row e s).caused ++ es)
  row-few s (OnTransform u (names_of.SinkWrite w)) es f k h n = by (is_same_transform t u) refl k h
    where
      by : (b : Bool) → b ≡ is_same_transform t u → Straight s (OnTransform u (names_of.SinkWrite w) ∷ es) → Heeds s (OnTransform u (names_of.SinkWrite w) ∷ es)
          → Few (row (OnTransform u (names_of.SinkWrite w)) s).slots ((row (OnTransform u (names_of.SinkWrite w)) s).caused ++ es)
      by false e k h = plain-few s (OnTransform u (names_of.SinkWrite w)) es (λ m. never (is_same_transform t u) e m) n
      by true e k h =
          let is = f (sym e) in
          let at = same-of u (sym e) in
          subst (λ (v : TransformId). Straight s (OnTransform v (names_of.SinkWrite w) ∷ es) → Heeds s (OnTransform v (names_of.SinkWrite w) ∷ es)
          → Few (row (OnTransform v (names_of.SinkWrite w)) s).slots ((row (OnTransform v (names_of.SinkWrite w)) s).caused ++ es)) at
          (subst (λ (x : Use). Straight s (OnTransform t (names_of.SinkWrite x) ∷ es) → Heeds s (OnTransform t (names_of.SinkWrite x) ∷ es)
          → Few (row (OnTransform t (names_of.SinkWrite x)) s).slots ((row (OnTransform t (names_of.SinkWrite x)) s).caused ++ es)) (sym is) (sink-few s es)) k h
  row-few s (OnTransform u (names_of.WriteGoesOn c)) es f k h n = by (is_same_transform t u) refl n
    where
      by : (b : Bool) → b ≡ is_same_transform t u → Few s (OnTransform u (names_of.WriteGoesOn c) ∷ es)
          → Few (row (OnTransform u (names_of.WriteGoesOn c)) s).slots ((row (OnTransform u (names_of.WriteGoesOn c)) s).caused ++ es)
      by false e n = plain-few s (OnTransform u (names_of.WriteGoesOn c)) es (λ m. never (is_same_transform t u) e m) n
      by true e n =
          subst (λ (v : TransformId). Few s (OnTransform v (names_of.WriteGoesOn c) ∷ es) → Few (row (OnTransform v (names_of.WriteGoesOn c)) s).slots ((row (OnTransform v (names_of.WriteGoesOn c)) s).caused ++ es))
          (same-of u (sym e)) (going-few s c es) n
  row-few s e es f k h n = plain-few s e es (λ m. m) n
