-- What the writable half of a transform stream handed on is what its transform algorithm was performed with.
use Rattle.std.proofs.Common.{◌≡◌, ℕ, Bool, true, false, nat_eq, if◌then◌else◌, List, [], ◌∷◌, ◌++◌, Option, Some, None, slice_get, refl, sym, subst, ap, ◌∙◌, arith, append_assoc}
use Rattle.ws_value.specs.declared.ids.{PipeId.{PipeId}, StreamId.{StreamId}}
use Rattle.ws_value.specs.declared.value.Value.{Value}
use Rattle.ws_steps.specs.declared.effects.{Effect.{Effect}, Owner.TheVariants.{HalfOf}}
use Rattle.ws_steps.specs.declared.effects.Effect.TheVariants.{Readable as OnReadable, Writable as OnWritable, Pipe as OnPipe, Signal as OnSignal, Transform as OnTransform, Tee as OnTee, Port as OnPort, StartAlgorithm, PullAlgorithm, CancelAlgorithm, WriteAlgorithm, CloseAlgorithm, AbortAlgorithm, ChunkSteps, CloseSteps, ErrorSteps}
use Rattle.ws_steps.specs.declared.pipes.{SignalOperation.{SignalOperation}, SignalOperation.TheVariants.{Add, Forget, Trigger}}
use Rattle.ws_steps.specs.declared.readable.{ReadRequest.{ReadRequest}, ReadRequest.TheVariants.{Promise, Pipe as PipeRequest, Tee as TeeRequest}}
use Rattle.ws_steps.specs.declared.transform.{Taker.{Taker}, Taker.TheVariants.{ToHost, ToTransform, ToPort}, TransformId.{TransformId}}
use Rattle.ws_steps.specs.declared.transform.TransformOperation.TheVariants as names
use Rattle.ws_steps.specs.declared.writable.{WritableOperation.{WritableOperation}, WriteRecord.{WriteRecord}, WriteRecord.TheVariants.{Chunk, InFlight, CloseMark}}
use Rattle.ws_steps.specs.declared.writable.WritableOperation.TheVariants.{HandOn}
use Rattle.ws_steps.specs.Histories.{is_same}
use Rattle.ws_steps.specs.Operations.{writable_operation}
use Rattle.ws_steps.specs.Queues.{first_value}
use Rattle.ws_steps.specs.Slots.{Slots, Done, empty, nothing, owner_at, has_writable, writable_at, put_writable}
use Rattle.ws_steps.specs.Turns.{row}
use Rattle.ws_steps.specs.Writable as writable
use Rattle.ws_steps.specs.WritableHistory.{Writes, no_writes, first_chunk, operation_writes, effect_writes}
use Rattle.ws_laws.proofs.Halves.{Halved}
use Rattle.ws_laws.proofs.Lists.{Each}
use Rattle.ws_laws.proofs.PipeDoes.{PipeCauses}
use Rattle.ws_laws.proofs.Causes.{ChunkCauses, EndCauses, ErrorCauses, SignalCauses, row-causes}
use Rattle.ws_laws.proofs.Shapes.{StreamShape, WritableOf, TransformShape, stream_shapes, transform_shapes, owner-told}
use Rattle.ws_laws.proofs.Tables.{either, same_id, is_same-refl, eq_numbers, no_writable_there, writable_acts}
use Rattle.ws_laws.proofs.TransformDoes.{TransformCauses}
use Rattle.ws_laws.proofs.WritableDoes.{IsHandOn}
use Rattle.ws_transform_laws.specs.TransformHistory.{is_same_transform, effect_transformed}
use Rattle.ws_transform_laws.proofs.Ordering.{first-told, first-none}
use Rattle.ws_transform_laws.proofs.Prompt.{IsPlain, IsNoHalf, Placed, others-plain}
use Rattle.ws_steps.specs.declared.effects.Effect.TheVariants.{Byte, CloseStepsWith}
use Rattle.ws_value.specs.declared.ids.TeeId.{TeeId}
use Rattle.ws_value.specs.declared.ids.PortId.{PortId}
use Rattle.ws_laws.proofs.TeeDoes.{TeeCauses}
use Rattle.ws_laws.proofs.PortDoes.{PortCauses}
use Rattle.ws_laws.proofs.Ended.{end_shape}
use Rattle.ws_steps.specs.declared.port.Side.{Side}
use Rattle.ws_steps.specs.declared.port.Side.TheVariants.{Readable as ReadableSide, Writable as WritableSide}

abbrev pub IsWritable : Effect → Type 0
IsWritable (OnWritable j operation) = Unit {0}
IsWritable _ = ⊥

module _ (t : TransformId) where
  -- the chunks that stand on the agenda, about to be transformed
  abbrev pub pending_of : Effect → List Value
  pending_of e = effect_transformed t e empty

  abbrev pub pending : List Effect → List Value
  pending [] = []
  pending (e ∷ es) = pending_of e ++ pending es

  pub pending-append : (es fs : List Effect) → pending (es ++ fs) ≡ pending es ++ pending fs
  pending-append [] fs = refl
  pending-append (e ∷ es) fs = ap (λ vs. pending_of e ++ vs) (pending-append es fs) ∙ sym (append_assoc (pending_of e) (pending es) (pending fs))

  pub pending-told : (e : Effect) (s : Slots) → effect_transformed t e s ≡ pending_of e
  pending-told (OnTransform u (names.TransformChunk v d)) s = refl
  pending-told _ s = refl

  idle-pending : (es : List Effect) → Each (λ e. pending_of e ≡ []) es → pending es ≡ []
  idle-pending [] k = refl
  idle-pending (e ∷ es) k = rw (k.0, idle-pending es k.1) refl

  plain-idle : (e : Effect) → IsPlain e → pending_of e ≡ []
  plain-idle (OnTransform u (names.TransformChunk v d)) p = absurd p
  plain-idle _ p = refl

  pub plain-pending : (es : List Effect) → Each IsPlain es → pending es ≡ []
  plain-pending [] p = refl
  plain-pending (e ∷ es) p = rw (plain-idle e p.0, plain-pending es p.1) refl

  -- what an effect causes that hands no chunk on

  abbrev Idle : Effect → Type 0
  Idle e = pending_of e ≡ []

  chunk-idle : (v : Value) (r : ReadRequest) → ChunkCauses Idle v r
  chunk-idle v (Promise p) = tt
  chunk-idle v (PipeRequest p) = refl
  chunk-idle v (TeeRequest k) = refl

  end-idle : (r : ReadRequest) → EndCauses Idle r
  end-idle (Promise p) = tt
  end-idle (PipeRequest p) = refl
  end-idle (TeeRequest k) = refl

  error-idle : (r : ReadRequest) → ErrorCauses Idle r
  error-idle (Promise p) = tt
  error-idle (PipeRequest p) = refl
  error-idle (TeeRequest k) = refl

  signal-idle : (operation : SignalOperation) → SignalCauses Idle operation
  signal-idle (Add p) = tt
  signal-idle (Forget p) = tt
  signal-idle (Trigger r) = λ p. refl

  pipe-idle : (p : PipeId) (source dest : StreamId) (e : Effect) → PipeCauses p source dest e → Idle e
  pipe-idle p source dest (OnTransform u operation) c = absurd c
  pipe-idle p source dest _ c = refl

  transform-idle : (u : TransformId) (w r : StreamId) (e : Effect) → TransformCauses u w r e → Idle e
  transform-idle u w r (OnTransform y (names.TransformChunk v d)) c = absurd c
  transform-idle u w r _ c = refl

  tee-idle : (u : TeeId) (source first second : StreamId) (e : Effect) → TeeCauses u source first second e → Idle e
  tee-idle u source first second (OnTransform y operation) c = absurd c
  tee-idle u source first second _ c = refl

  port-idle : (u : PortId) (stream : StreamId) (e : Effect) → PortCauses u stream e → Idle e
  port-idle u stream (OnTransform y operation) c = absurd c
  port-idle u stream _ c = refl

  pub row-idle : (e : Effect) (s : Slots) → (IsWritable e → ⊥) → pending (row e s).caused ≡ []
  row-idle (OnReadable j operation) s n = idle-pending (row (OnReadable j operation) s).caused (row-causes Idle (OnReadable j operation) s (record { pull = refl; cancel = λ r q. refl; chunk = λ r v. refl; close = λ r. refl; error = λ r e. refl }))
  row-idle (Byte j operation) s n =
      idle-pending (row (Byte j operation) s).caused
      (row-causes Idle (Byte j operation) s (record { readable = record { pull = refl; cancel = λ r q. refl; chunk = λ r v. refl; close = λ r. refl; error = λ r e. refl }; close_with = λ r b. refl }))
  row-idle (OnWritable j operation) s n = absurd (n tt)
  row-idle (OnPipe q operation) s n = idle-pending (row (OnPipe q operation) s).caused (row-causes Idle (OnPipe q operation) s (pipe-idle q))
  row-idle (OnSignal a operation) s n = idle-pending (row (OnSignal a operation) s).caused (row-causes Idle (OnSignal a operation) s (signal-idle operation))
  row-idle (OnTransform u operation) s n = idle-pending (row (OnTransform u operation) s).caused (row-causes Idle (OnTransform u operation) s (transform-idle u))
  row-idle (OnTee u operation) s n = idle-pending (row (OnTee u operation) s).caused (row-causes Idle (OnTee u operation) s (tee-idle u))
  row-idle (OnPort u operation) s n = idle-pending (row (OnPort u operation) s).caused (row-causes Idle (OnPort u operation) s (port-idle u))
  row-idle (StartAlgorithm j step start) s n = idle-pending (row (StartAlgorithm j step start) s).caused (row-causes Idle (StartAlgorithm j step start) s (λ g u. refl, λ c u. refl))
  row-idle (PullAlgorithm j) s n = idle-pending (row (PullAlgorithm j) s).caused (row-causes Idle (PullAlgorithm j) s (λ c u. refl, (λ y u. refl, (λ k. refl, (λ u. refl, λ q. refl)))))
  row-idle (CancelAlgorithm j r q) s n = idle-pending (row (CancelAlgorithm j r q) s).caused (row-causes Idle (CancelAlgorithm j r q) s (λ c u. refl, (λ y u. refl, (λ k half u. refl, λ y u. refl))))
  row-idle (WriteAlgorithm j) s n = idle-pending (row (WriteAlgorithm j) s).caused (row-causes Idle (WriteAlgorithm j) s (refl, (λ y u. refl, λ z u. refl)))
  row-idle (CloseAlgorithm j) s n = idle-pending (row (CloseAlgorithm j) s).caused (row-causes Idle (CloseAlgorithm j) s (λ c u. refl, (λ y u. refl, λ z u. refl)))
  row-idle (AbortAlgorithm j r q) s n = idle-pending (row (AbortAlgorithm j r q) s).caused (row-causes Idle (AbortAlgorithm j r q) s (λ c u. refl, (λ y u. refl, λ z u. refl)))
  row-idle (ChunkSteps j r v) s n = idle-pending (row (ChunkSteps j r v) s).caused (row-causes Idle (ChunkSteps j r v) s (chunk-idle v r))
  row-idle (CloseSteps j r) s n = idle-pending (row (CloseSteps j r) s).caused (row-causes Idle (CloseSteps j r) s (end-idle r))
  row-idle (CloseStepsWith j r b) s n = idle-pending (row (CloseStepsWith j r b) s).caused (row-causes Idle (CloseStepsWith j r b) s (end-idle r))
  row-idle (ErrorSteps j r e) s n = idle-pending (row (ErrorSteps j r e) s).caused (row-causes Idle (ErrorSteps j r e) s (error-idle r))
  row-idle e s n = idle-pending (row e s).caused (row-causes Idle e s tt)

quiet-operation : (operation : WritableOperation) (w : writable.Slots) → (IsHandOn operation → ⊥) → (operation_writes operation w).acted ≡ []
quiet-operation operation w u = grind arith

quiet-acted : (i : StreamId) (e : Effect) (s : Slots) → (IsWritable e → ⊥) → (effect_writes i e s).acted ≡ []
quiet-acted i (OnWritable j operation) s n = absurd (n tt)
quiet-acted i (CloseAlgorithm j) s n = either (λ (h : Writes). h.acted ≡ []) (is_same i j) (record no_writes { closes = 1 }) no_writes (λ e. refl) (λ e. refl)
quiet-acted i _ s n = refl

none-linked : {A : Type 0} (o : Option TransformShape) (x : TransformShape) → o ≡ None → o ≡ Some x → A
none-linked o x e f = cc

module _ (i : StreamId) (t : TransformId) where
  -- the stream is the writable half of the transform stream
  abbrev pub Linked : Slots → Type 0
  Linked s = (x : TransformShape) × ((slice_get (transform_shapes s) t.0 ≡ Some x) × (x.writable ≡ i))

  linked-shape : (s : Slots) → Halved s → Linked s → slice_get (stream_shapes s) i.0 ≡ Some (WritableOf (HalfOf t))
  linked-shape s halved l = rw (← l.1.1) (halved.halves t l.0 l.1.0).1

  linked-owner : (s : Slots) → Halved s → Linked s → owner_at i s ≡ HalfOf t
  linked-owner s halved l = owner-told s.streams i.0 ∙ rw (linked-shape s halved l) refl

  -- no other stream hands a chunk on to it
  no-other : (s : Slots) (j : StreamId) → Halved s → Linked s → is_same i j ≡ false → slice_get (stream_shapes s) j.0 ≡ Some (WritableOf (HalfOf t)) → {A : Type 0} → A
  no-other s j halved l n is =
      let h = halved.writable j t is in
      let same : ◌≡◌ {A = Option TransformShape} (Some l.0) (Some h.0) = sym l.1.0 ∙ h.1.0 in
      let one : l.0 ≡ h.0 = cc in
      let at : i ≡ j = sym l.1.1 ∙ (ap (λ (x : TransformShape). x.writable) one ∙ h.1.1) in
      let yes : is_same i j ≡ true = rw (← at) (is_same-refl i) in absurd (cc)

  same-half : (s : Slots) (u : TransformId) → Halved s → Linked s → slice_get (stream_shapes s) i.0 ≡ Some (WritableOf (HalfOf u)) → u ≡ t
  same-half s u halved l is = let both : ◌≡◌ {A = Option StreamShape} (Some (WritableOf (HalfOf u))) (Some (WritableOf (HalfOf t))) = sym is ∙ linked-shape s halved l in cc

  no_end : (c : PortId) (side : Side) → ◌≡◌ {A = Option StreamShape} (Some (WritableOf (HalfOf t))) (Some (end_shape c side)) → ⊥
  no_end c ReadableSide e = cc
  no_end c WritableSide e = cc

  taken-here : (s : Slots) (taker : Taker) (v : Value) → Halved s → Linked s → Placed s (OnWritable i (HandOn taker)) → v ∷ [] ≡ pending t (writable.taken_by i v taker ∷ [])
  taken-here s ToHost v halved l p = absurd (subst IsNoHalf (linked-owner s halved l) p)
  taken-here s (ToTransform u d) v halved l p =
      let is = same-half s u halved l p in
      let self : is_same_transform t u ≡ true = rw is (self-eq t.0) in rw self refl
    where
      self-eq : (n : ℕ) → nat_eq n n ≡ true
      self-eq n = grind arith
  taken-here s (ToPort c d) v halved l p = absurd (no_end c p.0 (sym (linked-shape s halved l) ∙ p.1))

  taken-there : (s : Slots) (j : StreamId) (taker : Taker) (v : Value) → Halved s → Linked s → is_same i j ≡ false → Placed s (OnWritable j (HandOn taker)) → [] ≡ pending t (writable.taken_by j v taker ∷ [])
  taken-there s j ToHost v halved l n p = refl
  taken-there s j (ToTransform u d) v halved l n p = by (is_same_transform t u) refl
    where
      by : (same : Bool) → same ≡ is_same_transform t u → [] ≡ (if same then v ∷ [] else []) ++ []
      by false e = refl
      by true e =
          let is : t ≡ u = ap (λ (k : ℕ). record { 0 = k }) (eq_numbers t.0 u.0 (sym e)) in no-other s j halved l n (rw is p)
  taken-there s j (ToPort c d) v halved l n p = refl

  first-here : (s : Slots) (taker : Taker) (a : writable.Acts) (first : Option WriteRecord) → Halved s → Linked s → Placed s (OnWritable i (HandOn taker)) → a.out.effects ≡ [] → first_value a.slots.queue ≡ first
      → first_chunk a.slots.queue ≡ pending t (writable.hand_on_first i taker a first).out.effects
  first-here s taker a None halved l p none e = rw none (first-none a.slots.queue e)
  first-here s taker a (Some CloseMark) halved l p none e = rw none (first-told a.slots.queue CloseMark [] e refl)
  first-here s taker a (Some InFlight) halved l p none e = rw none (first-told a.slots.queue InFlight [] e refl)
  first-here s taker a (Some (Chunk v)) halved l p none e = first-told a.slots.queue (Chunk v) (v ∷ []) e refl ∙ rw none (taken-here s taker v halved l p)

  first-there : (s : Slots) (j : StreamId) (taker : Taker) (a : writable.Acts) (first : Option WriteRecord) → Halved s → Linked s → is_same i j ≡ false → Placed s (OnWritable j (HandOn taker)) → a.out.effects ≡ []
      → [] ≡ pending t (writable.hand_on_first j taker a first).out.effects
  first-there s j taker a None halved l n p none = rw none refl
  first-there s j taker a (Some CloseMark) halved l n p none = rw none refl
  first-there s j taker a (Some InFlight) halved l n p none = rw none refl
  first-there s j taker a (Some (Chunk v)) halved l n p none = rw none (taken-there s j taker v halved l n p)

  hand-even : (s : Slots) (j : StreamId) (taker : Taker) (same : Bool) → same ≡ is_same i j → Halved s → Linked s → Placed s (OnWritable j (HandOn taker))
      → (effect_writes i (OnWritable j (HandOn taker)) s).acted ≡ pending t (row (OnWritable j (HandOn taker)) s).caused
  unfolding row writable.hand_on
  hand-even s j taker true e halved l p =
      let is : i ≡ j = same_id i j (sym e) in
      let at : Placed s (OnWritable i (HandOn taker)) = subst (λ (k : StreamId). Placed s (OnWritable k (HandOn taker))) (sym is) p in
      rw (← e) (subst (λ (k : StreamId). first_chunk (writable_at k s).queue ≡ pending t (row (OnWritable k (HandOn taker)) s).caused) is
      (either (λ (d : Done). first_chunk (writable_at i s).queue ≡ pending t d.caused) (has_writable i s) (put_writable i s (writable_operation i (HandOn taker) (writable_acts i s))) (nothing s)
      (λ there. first-here s taker (writable_acts i s) (first_value (writable_at i s).queue) halved l at refl refl)
      (λ none. rw (no_writable_there (slice_get s.streams i.0) none) refl)))
  hand-even s j taker false e halved l p =
      rw (← e) (either (λ (d : Done). [] ≡ pending t d.caused) (has_writable j s) (put_writable j s (writable_operation j (HandOn taker) (writable_acts j s))) (nothing s)
      (λ there. first-there s j taker (writable_acts j s) (first_value (writable_at j s).queue) halved l (sym e) p refl) (λ none. refl))

  others-even : (s : Slots) (j : StreamId) (operation : WritableOperation) → (IsHandOn operation → ⊥) → (effect_writes i (OnWritable j operation) s).acted ≡ pending t (row (OnWritable j operation) s).caused
  others-even s j operation u =
      either (λ (h : Writes). h.acted ≡ []) (is_same i j) (operation_writes operation (writable_at j s)) no_writes (λ e. quiet-operation operation (writable_at j s) u) (λ e. refl)
      ∙ sym (plain-pending t (row (OnWritable j operation) s).caused (others-plain s j operation u))

  -- what an effect hands on is about to be transformed
  pub row-even : (s : Slots) (e : Effect) → Halved s → Linked s → Placed s e → (effect_writes i e s).acted ≡ pending t (row e s).caused
  row-even s (OnWritable j (HandOn taker)) halved l p = hand-even s j taker (is_same i j) refl halved l p
  row-even s (OnWritable j operation) halved l p = others-even s j operation (λ u. u)
  row-even s e halved l p = quiet-acted i e s (λ u. u) ∙ sym (row-idle t e s (λ u. u))
