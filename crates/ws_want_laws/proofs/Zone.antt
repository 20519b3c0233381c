-- While a transform stream is told of an enqueue, or is about to be, the effects of that enqueue stand at the front of the agenda, and by none of these
-- a write comes to wait.
use Rattle.ws_steps.specs.Cross as cross
use Rattle.ws_steps.specs.declared.effects.Owner.TheVariants.{EndOf}
use Rattle.ws_laws.proofs.PortDoes.{PortCauses}
use Rattle.ws_steps.specs.declared.port.PortOperation.TheVariants as ports
use Rattle.ws_value.specs.declared.ids.PortId.{PortId}
use Rattle.ws_steps.specs.Operations.{port_operation}
use Rattle.ws_steps.specs.Slots.{on_port_at}
use Rattle.ws_steps.specs.declared.effects.Effect.TheVariants.{Port as OnPort}
use Rattle.ws_value.specs.declared.value.Message.TheVariants.{Pull as PullMessage}
use Rattle.std.proofs.Common.{◌≡◌, ℕ, Bool, true, false, List, [], ◌∷◌, ◌++◌, Option, Some, None, slice_get, refl, sym, subst, ap, ◌∙◌, arith, append_assoc}
use Rattle.ws_steps.specs.Operations.{tee_operation}
use Rattle.ws_steps.specs.Slots.{on_tee_at}
use Rattle.ws_laws.proofs.TeeDoes.{TeeCauses}
use Rattle.ws_steps.specs.Tee as tee
use Rattle.ws_value.specs.declared.ids.TeeId.{TeeId}
use Rattle.ws_steps.specs.declared.effects.Effect.TheVariants.{Tee as OnTee}
use Rattle.ws_value.specs.declared.{ids.PipeId.{PipeId}, ids.PromiseId.{PromiseId}, ids.StreamId.{StreamId}, value.Value.{Value}}
use Rattle.ws_steps.specs.declared.effects.{Effect.{Effect}, Owner.{Owner}, Owner.TheVariants.{Host, HalfOf, BranchOf}, Use.TheVariants.{React}}
use Rattle.ws_steps.specs.declared.effects.Effect.TheVariants.{Readable as OnReadable, Writable as OnWritable, Pipe as OnPipe, Signal as OnSignal, Transform as OnTransform, StartAlgorithm, PullAlgorithm, CancelAlgorithm, WriteAlgorithm, CloseAlgorithm, AbortAlgorithm, ChunkSteps, CloseSteps, ErrorSteps, Give, CallHost}
use Rattle.ws_steps.specs.declared.pipes.{PipeOperation.TheVariants.{KeepChunk}, SignalOperation.{SignalOperation}, SignalOperation.TheVariants.{Add, Forget, Trigger}}
use Rattle.ws_steps.specs.declared.promises.{Job.{Job}, Step.TheVariants.{ReadablePull}}
use Rattle.ws_steps.specs.declared.readable.{ReadRequest.{ReadRequest}, ReadRequest.TheVariants.{Promise, Pipe as PipeRequest, Tee as TeeRequest}, ReadableOperation.TheVariants.{Enqueue}}
use Rattle.ws_steps.specs.declared.transform.{Halves.{Halves}, Kind.{Kind}, Kind.TheVariants.{Identity, Host as HostKind}, TransformId.{TransformId}, TransformOperation.{TransformOperation}}
use Rattle.ws_steps.specs.declared.transform.TransformOperation.TheVariants as names
use Rattle.ws_steps.specs.Jobs.{job_effects}
use Rattle.ws_steps.specs.Operations.{readable_operation, byte_readable_operation, pipe_operation, transform_operation}
use Rattle.ws_steps.specs.Pipes as pipe
use Rattle.ws_steps.specs.Readable as readable
use Rattle.ws_steps.specs.Slots.{Slots, Done, nothing, found, halves_at, owner_at, has_readable, has_byte, put_readable, put_byte, on_readable, on_byte, on_pipe_at, on_transform_at}
use Rattle.ws_steps.specs.Transform as transform
use Rattle.ws_steps.specs.Turns.{row, pull_algorithm}
use Rattle.ws_laws.proofs.Lists.{Each, each-append, each-map}
use Rattle.ws_laws.proofs.Halves.{Halved}
use Rattle.ws_laws.proofs.Shapes.{ReadableOf, stream_shapes, transform_shape, map-there, owner-told, row-owner}
use Rattle.ws_steps.specs.declared.tee.TeeOperation.TheVariants.{KeepChunk as KeepByTee}
use Rattle.ws_laws.proofs.PipeDoes.{PipeCauses}
use Rattle.ws_laws.proofs.Causes.{ChunkCauses, EndCauses, ErrorCauses, SignalCauses, row-causes}
use Rattle.ws_laws.proofs.Tables.{either, readable_acts, byte_acts}
use Rattle.ws_writable_laws.proofs.Shape.{one_if, all, all-append, leads_to, of_use}
use Rattle.ws_transform_laws.specs.TransformHistory.{is_same_transform}
use Rattle.ws_transform_laws.proofs.Waited.{changing, all_waiting, row-waiting}
use Rattle.ws_steps.specs.declared.effects.Effect.TheVariants.{Byte, CloseStepsWith}

module _ (t : TransformId) where
  -- an effect that tells the transform stream of an enqueue, or leads to one
  abbrev pub marks : Effect → ℕ
  marks (OnTransform u (names.Enqueue v)) = one_if (is_same_transform t u)
  marks (OnTransform u names.Enqueued) = one_if (is_same_transform t u)
  marks _ = 0

  abbrev pub marks_in : List Effect → ℕ
  marks_in es = all marks es

  -- what causes none

  abbrev IsUnmarked : Effect → Type 0
  IsUnmarked e = marks e ≡ 0

  each-unmarked : (es : List Effect) → Each IsUnmarked es → marks_in es ≡ 0
  each-unmarked [] k = refl
  each-unmarked (e ∷ es) k = let a = each-unmarked es k.1 in let b = k.0 in omega arith

  chunk-unmarked : (v : Value) (r : ReadRequest) → ChunkCauses IsUnmarked v r
  chunk-unmarked v (Promise p) = tt
  chunk-unmarked v (PipeRequest p) = refl
  chunk-unmarked v (TeeRequest t) = refl

  end-unmarked : (r : ReadRequest) → EndCauses IsUnmarked r
  end-unmarked (Promise p) = tt
  end-unmarked (PipeRequest p) = refl
  end-unmarked (TeeRequest t) = refl

  error-unmarked : (r : ReadRequest) → ErrorCauses IsUnmarked r
  error-unmarked (Promise p) = tt
  error-unmarked (PipeRequest p) = refl
  error-unmarked (TeeRequest t) = refl

  signal-unmarked : (operation : SignalOperation) → SignalCauses IsUnmarked operation
  signal-unmarked (Add p) = tt
  signal-unmarked (Forget p) = tt
  signal-unmarked (Trigger r) = λ p. refl

  pipe-unmarked : (p : PipeId) (source dest : StreamId) (e : Effect) → PipeCauses p source dest e → IsUnmarked e
  pipe-unmarked p source dest (OnTransform u operation) c = absurd c
  pipe-unmarked p source dest _ c = refl

  tee-unmarked : (u : TeeId) (source first second : StreamId) (e : Effect) → TeeCauses u source first second e → IsUnmarked e
  tee-unmarked u source first second (OnTransform y operation) c = absurd c
  tee-unmarked u source first second _ c = refl

  port-unmarked : (c : PortId) (stream : StreamId) (e : Effect) → PortCauses c stream e → IsUnmarked e
  port-unmarked c stream (OnTransform y operation) k = absurd k
  port-unmarked c stream _ k = refl

  -- an effect that tells of no enqueue of its own
  abbrev pub IsQuiet : Effect → Type 0
  IsQuiet (OnTransform u (names.TransformChunk v d)) = is_same_transform t u ≡ false
  IsQuiet e = marks e ≡ 0

  transform-unmarked : (u : TransformId) (halves : Halves) (operation : TransformOperation) (a : transform.Acts) → IsQuiet (OnTransform u operation)
      → a.out.effects ≡ [] → marks_in (transform_operation u halves operation a).out.effects ≡ 0
  unfolding transform.unblock transform.transform_error transform.terminate transform.enqueue transform.enqueued transform.transform_chunk transform.sink_write transform.write_goes_on transform.source_pull transform.set_backpressure transform.sink_close transform.sink_abort transform.source_cancel transform.flush_settled transform.abort_settled transform.cancel_settled
  transform-unmarked u halves operation a q none = grind (arith, q, none)

  on-unmarked : (s : Slots) (u : TransformId) (operation : TransformOperation) (o : Option transform.Slots) → IsQuiet (OnTransform u operation)
      → marks_in (on_transform_at (λ halves. transform_operation u halves operation) u s o).caused ≡ 0
  on-unmarked s u operation None q = refl
  on-unmarked s u operation (Some x) q = transform-unmarked u (halves_at x s) operation (record { slots = x; out = found s }) q refl

  pub row-unmarked : (e : Effect) (s : Slots) → IsQuiet e → marks_in (row e s).caused ≡ 0
  unfolding row
  row-unmarked (OnReadable j operation) s q = each-unmarked _ (row-causes IsUnmarked (OnReadable j operation) s (record { pull = refl; cancel = λ c p. refl; chunk = λ q v. refl; close = λ q. refl; error = λ q e. refl }))
  row-unmarked (Byte j operation) s q = each-unmarked _ (row-causes IsUnmarked (Byte j operation) s (record { readable = record { pull = refl; cancel = λ c p. refl; chunk = λ q v. refl; close = λ q. refl; error = λ q e. refl }; close_with = λ q b. refl }))
  row-unmarked (OnWritable j operation) s q = each-unmarked _ (row-causes IsUnmarked (OnWritable j operation) s (record { write = refl; close = refl; abort = λ c p. refl; hand_on = λ v. refl; take = λ v u d. refl; post = λ v c d. refl }))
  row-unmarked (OnPipe p operation) s q = each-unmarked _ (row-causes IsUnmarked (OnPipe p operation) s (pipe-unmarked p))
  row-unmarked (OnSignal a operation) s q = each-unmarked _ (row-causes IsUnmarked (OnSignal a operation) s (signal-unmarked operation))
  row-unmarked (OnTransform u operation) s q = on-unmarked s u operation (slice_get s.transforms u.0) q
  row-unmarked (OnTee u operation) s q = each-unmarked _ (row-causes IsUnmarked (OnTee u operation) s (tee-unmarked u))
  row-unmarked (OnPort c operation) s q = each-unmarked _ (row-causes IsUnmarked (OnPort c operation) s (port-unmarked c))
  row-unmarked (StartAlgorithm j step start) s q = each-unmarked _ (row-causes IsUnmarked (StartAlgorithm j step start) s (λ g u. refl, λ c u. refl))
  row-unmarked (PullAlgorithm j) s q = each-unmarked _ (row-causes IsUnmarked (PullAlgorithm j) s (λ c u. refl, (λ y u. refl, (λ t. refl, (λ u. refl, λ c. refl)))))
  row-unmarked (CancelAlgorithm j c p) s q = each-unmarked _ (row-causes IsUnmarked (CancelAlgorithm j c p) s (λ c u. refl, (λ y u. refl, (λ t half u. refl, λ q u. refl))))
  row-unmarked (WriteAlgorithm j) s q = each-unmarked _ (row-causes IsUnmarked (WriteAlgorithm j) s (refl, (λ y u. refl, λ q u. refl)))
  row-unmarked (CloseAlgorithm j) s q = each-unmarked _ (row-causes IsUnmarked (CloseAlgorithm j) s (λ c u. refl, (λ y u. refl, λ q u. refl)))
  row-unmarked (AbortAlgorithm j c p) s q = each-unmarked _ (row-causes IsUnmarked (AbortAlgorithm j c p) s (λ c u. refl, (λ y u. refl, λ q u. refl)))
  row-unmarked (ChunkSteps j r v) s q = each-unmarked _ (row-causes IsUnmarked (ChunkSteps j r v) s (chunk-unmarked v r))
  row-unmarked (CloseSteps j r) s q = each-unmarked _ (row-causes IsUnmarked (CloseSteps j r) s (end-unmarked r))
  row-unmarked (CloseStepsWith j r b) s q = each-unmarked _ (row-causes IsUnmarked (CloseStepsWith j r b) s (end-unmarked r))
  row-unmarked (ErrorSteps j r e) s q = each-unmarked _ (row-causes IsUnmarked (ErrorSteps j r e) s (error-unmarked r))
  row-unmarked _ s q = refl

  -- the effects of an enqueue into a stream that is no branch of a tee: a pull of a branch leads to a read of its source

  abbrev is_branch : Owner → Bool
  is_branch Host = false
  is_branch (HalfOf u) = false
  is_branch (BranchOf u half) = true
  is_branch (EndOf c) = false

  abbrev pub IsEntering : Slots → Effect → Type 0
  IsEntering s (OnReadable j (Enqueue v)) = is_branch (owner_at j s) ≡ false
  IsEntering s (OnTransform u (names.Enqueue v)) = Unit {0}
  IsEntering s (OnTransform u names.Enqueued) = Unit {0}
  IsEntering s (OnTransform u (names.SourcePull w)) = of_use (changing t) w ≡ 0
  IsEntering s (OnTee u (KeepByTee v)) = Unit {0}
  IsEntering s (OnPort c ports.Pull) = Unit {0}
  IsEntering s (PullAlgorithm j) = is_branch (owner_at j s) ≡ false
  IsEntering s (ChunkSteps j q v) = Unit {0}
  IsEntering s (OnPipe p (KeepChunk v)) = Unit {0}
  IsEntering s (Give g u) = of_use (changing t) u ≡ 0
  IsEntering s (CallHost c u) = of_use (changing t) u ≡ 0
  IsEntering s _ = ⊥

  abbrev pub Enterings : Slots → List Effect → Type 0
  Enterings s es = Each (IsEntering s) es

  enters-later : (e f : Effect) (s : Slots) → IsEntering s f → IsEntering (row e s).slots f
  enters-later e (OnReadable j (Enqueue v)) s c = ap is_branch (row-owner j e s) ∙ c
  enters-later e (PullAlgorithm j) s c = ap is_branch (row-owner j e s) ∙ c
  enters-later e f s c = c

  enterings-later : (e : Effect) (s : Slots) (es : List Effect) → Enterings s es → Enterings (row e s).slots es
  enterings-later e s es k = each-map (IsEntering s) (IsEntering (row e s).slots) (λ f. enters-later e f s) es k

  readable-enters : (s : Slots) (j : StreamId) (v : Value) (a : readable.Acts) → a.out.effects ≡ [] → is_branch (owner_at j s) ≡ false → Enterings s (readable_operation j (Enqueue v) a).out.effects
  unfolding readable.controller_enqueue readable.accept readable.call_pull_if_needed
  readable-enters s j v a none n = grind (arith, none, n)

  pull-enters : (s : Slots) (j : StreamId) (owner : Owner) → is_branch owner ≡ false → Enterings s (pull_algorithm j (React (ReadablePull j) None) owner)
  pull-enters s j Host n = (refl, tt)
  pull-enters s j (HalfOf u) n = (refl, tt)
  pull-enters s j (BranchOf u half) n = cc
  pull-enters s j (EndOf c) n = (tt, (refl, tt))

  -- the readable half of a transform stream is no branch
  half-owner : (s : Slots) (u : TransformId) (x : transform.Slots) → Halved s → slice_get s.transforms u.0 ≡ Some x → is_branch (owner_at x.readable s) ≡ false
  half-owner s u x halved at =
      let shape : slice_get (stream_shapes s) x.readable.0 ≡ Some (ReadableOf (HalfOf u)) = (halved.halves u (transform_shape x) (map-there transform_shape s.transforms u.0 x at)).0 in
      let owner : owner_at x.readable s ≡ HalfOf u = owner-told s.streams x.readable.0 ∙ (rw shape refl) in ap is_branch owner

  own-enters : (s : Slots) (u : TransformId) (operation : TransformOperation) (o : Option transform.Slots) → slice_get s.transforms u.0 ≡ o → Halved s → IsEntering s (OnTransform u operation)
      → Enterings s (on_transform_at (λ halves. transform_operation u halves operation) u s o).caused
  unfolding transform.enqueue transform.enqueued transform.source_pull transform.set_backpressure
  own-enters s u operation None at halved k = tt
  own-enters s u (names.Enqueue v) (Some x) at halved k = (half-owner s u x halved at, (tt, tt))
  own-enters s u names.Enqueued (Some x) at halved k = grind arith
  own-enters s u (names.SourcePull w) (Some x) at halved k = (k, tt)
  own-enters s u operation (Some x) at halved k = absurd k

  keep-enters : (z : Slots) (p : PipeId) (v : Value) (s : Slots) (o : Option pipe.Slots) → Enterings z (on_pipe_at (λ ends. pipe_operation p ends (KeepChunk v)) p s o).caused
  unfolding pipe.keep_chunk
  keep-enters z p v s None = tt
  keep-enters z p v s (Some x) = tt

  tee-enters : (z : Slots) (u : TeeId) (v : Value) (s : Slots) (o : Option tee.Slots) → Enterings z (on_tee_at (tee_operation u (KeepByTee v)) u s o).caused
  unfolding tee.keep_chunk
  tee-enters z u v s None = tt
  tee-enters z u v s (Some x) = tt

  -- a pull of the end of a port is a post
  port-enters : (z : Slots) (c : PortId) (s : Slots) (o : Option cross.Slots) → Enterings z (on_port_at (λ clones. port_operation c clones ports.Pull) c s o).caused
  unfolding cross.pull
  port-enters z c s None = tt
  port-enters z c s (Some x) =
      let a : cross.Acts = record { slots = x; out = found s } in
      either (λ (b : cross.Acts). Enterings z b.out.effects) x.live (cross.posting c PullMessage a) a (λ e. tt) (λ e. tt)

  pub row-enters : (e : Effect) (s : Slots) → Halved s → IsEntering s e → Enterings s (row e s).caused
  unfolding row
  row-enters (OnReadable j (Enqueue v)) s halved k =
      either (λ (d : Done). Enterings s d.caused) (has_byte j s) (on_byte (byte_readable_operation j (Enqueue v)) j s) (on_readable (readable_operation j (Enqueue v)) j s)
      (λ is. either (λ (d : Done). Enterings s d.caused) (has_byte j s) (put_byte j s (byte_readable_operation j (Enqueue v) (byte_acts j s))) (nothing s) (λ there. tt) (λ none. tt))
      (λ isnt. either (λ (d : Done). Enterings s d.caused) (has_readable j s) (put_readable j s (readable_operation j (Enqueue v) (readable_acts j s))) (nothing s)
      (λ there. readable-enters s j v (readable_acts j s) refl k) (λ none. tt))
  row-enters (OnTransform u operation) s halved k = own-enters s u operation (slice_get s.transforms u.0) refl halved k
  row-enters (OnTee u (KeepByTee v)) s halved k = tee-enters s u v s (slice_get s.tees u.0)
  row-enters (OnPort c ports.Pull) s halved k = port-enters s c s (slice_get s.ports c.0)
  row-enters (PullAlgorithm j) s halved k = pull-enters s j (owner_at j s) k
  row-enters (ChunkSteps j (Promise p) v) s halved k = tt
  row-enters (ChunkSteps j (PipeRequest p) v) s halved k = (tt, tt)
  row-enters (ChunkSteps j (TeeRequest u) v) s halved k = (tt, tt)
  row-enters (OnPipe p (KeepChunk v)) s halved k = keep-enters s p v s (slice_get s.pipes p.0)
  row-enters (Give g u) s halved k = tt
  row-enters (CallHost c u) s halved k = tt
  row-enters _ s halved k = absurd k

  entering-leads : (s : Slots) (e : Effect) → IsEntering s e → leads_to (changing t) e ≡ 0
  entering-leads s (OnTransform u (names.SourcePull w)) k = k
  entering-leads s (Give g u) k = k
  entering-leads s (CallHost c u) k = k
  entering-leads s (OnReadable j (Enqueue v)) k = refl
  entering-leads s (OnTransform u (names.Enqueue v)) k = refl
  entering-leads s (OnTransform u names.Enqueued) k = refl
  entering-leads s (OnTee u (KeepByTee v)) k = refl
  entering-leads s (OnPort c ports.Pull) k = refl
  entering-leads s (PullAlgorithm j) k = refl
  entering-leads s (ChunkSteps j q v) k = refl
  entering-leads s (OnPipe p (KeepChunk v)) k = refl
  entering-leads s _ k = absurd k

  -- none is told of; or they stand in front, and no write waits
  pub data Zone (s : Slots) (es : List Effect) : Type 0 where
    Outside : marks_in es ≡ 0 → Zone s es
    Inside : (front rest : List Effect) → es ≡ front ++ rest → Enterings s front → all_waiting t s ≡ 0 → marks_in rest ≡ 0 → Zone s es

  -- where a chunk of an identity is transformed
  chunk-enters : (u : TransformId) (v : Value) (d : PromiseId) (s : Slots) (o : Option transform.Slots) → slice_get s.transforms u.0 ≡ o → Halved s
      → Enterings s (on_transform_at (λ halves. transform_operation u halves (names.TransformChunk v d)) u s o).caused
  unfolding transform.transform_chunk
  chunk-enters u v d s None at halved = tt
  chunk-enters u v d s (Some x) at halved = by x.kind (halves_at x s).can_enqueue
    where
      by : (kind : Kind) (can : Bool)
          → Enterings s (transform.transform_by u (record (halves_at x s) { can_enqueue = can }) v d (record { slots = x; out = found s }) kind)
      by Identity true = (half-owner s u x halved at, (tt, (refl, tt)))
      by Identity false = (refl, tt)
      by HostKind can = (refl, tt)

  abbrev pub IsChunk : Effect → Bool
  IsChunk (OnTransform u (names.TransformChunk v d)) = is_same_transform t u
  IsChunk _ = false

  waiting-none : (e : Effect) (s : Slots) → leads_to (changing t) e ≡ 0 → all_waiting t s ≡ 0 → all_waiting t (row e s).slots ≡ 0
  waiting-none e s k n = let a = row-waiting t e s in omega arith

  outside-row : (s : Slots) (e : Effect) (es : List Effect) → Halved s → (IsChunk e ≡ true → all_waiting t s ≡ 0) → marks_in (e ∷ es) ≡ 0
      → Zone (row e s).slots ((row e s).caused ++ es)
  unfolding row
  outside-row s (OnTransform u (names.TransformChunk v d)) es halved k n = by (is_same_transform t u) refl
    where
      e : Effect
      e = OnTransform u (names.TransformChunk v d)

      by : (same : Bool) → same ≡ is_same_transform t u
          → Zone (row (OnTransform u (names.TransformChunk v d)) s).slots ((row (OnTransform u (names.TransformChunk v d)) s).caused ++ es)
      by true f = Inside (row (OnTransform u (names.TransformChunk v d)) s).caused es refl (enterings-later (OnTransform u (names.TransformChunk v d)) s (row (OnTransform u (names.TransformChunk v d)) s).caused (chunk-enters u v d s (slice_get s.transforms u.0) refl halved)) (waiting-none (OnTransform u (names.TransformChunk v d)) s refl (k (sym f))) (omega arith)
      by false f = let a = row-unmarked (OnTransform u (names.TransformChunk v d)) s (sym f) in let b = all-append marks (row (OnTransform u (names.TransformChunk v d)) s).caused es in Outside (omega arith)
  outside-row s e es halved k n = let a = row-unmarked e s (omega arith) in let b = all-append marks (row e s).caused es in Outside (omega arith)

  inside-row : (s : Slots) (e : Effect) (es front rest : List Effect) → Halved s → (IsChunk e ≡ true → all_waiting t s ≡ 0) → e ∷ es ≡ front ++ rest
      → Enterings s front → all_waiting t s ≡ 0 → marks_in rest ≡ 0 → Zone (row e s).slots ((row e s).caused ++ es)
  inside-row s e es [] rest halved c eq k none n = outside-row s e es halved c (subst (λ (xs : List Effect). marks_in xs ≡ 0) (sym eq) n)
  inside-row s e es (f ∷ front) rest halved c eq k none n =
      let is : e ≡ f = cc in
      let more : es ≡ front ++ rest = cc in
      let here : IsEntering s e = rw is k.0 in
      Inside ((row e s).caused ++ front) rest (ap (λ (xs : List Effect). (row e s).caused ++ xs) more ∙ sym (append_assoc (row e s).caused front rest)) (enterings-later e s ((row e s).caused ++ front) (each-append (IsEntering s) (row e s).caused front (row-enters e s halved here) k.1)) (waiting-none e s (entering-leads s e here) none) n

  pub row-zone : (s : Slots) (e : Effect) (es : List Effect) → Halved s → (IsChunk e ≡ true → all_waiting t s ≡ 0) → Zone s (e ∷ es)
      → Zone (row e s).slots ((row e s).caused ++ es)
  row-zone s e es halved c (Outside n) = outside-row s e es halved c n
  row-zone s e es halved c (Inside front rest eq k none n) = inside-row s e es front rest halved c eq k none n

  -- where it is told of an enqueue no write waits
  pub told-none : (s : Slots) (u : TransformId) (es : List Effect) → is_same_transform t u ≡ true → Zone s (OnTransform u names.Enqueued ∷ es)
      → all_waiting t s ≡ 0
  told-none s u es same (Outside n) = let one : one_if (is_same_transform t u) ≡ 1 = rw same refl in absurd (omega arith)
  told-none s u es same (Inside front rest eq k none n) = none

  pub job-unmarked : (job : Job) → marks_in (job_effects job) ≡ 0
  job-unmarked job = grind arith
