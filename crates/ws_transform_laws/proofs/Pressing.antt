-- Each effect keeps the backpressure of a transform stream to what its readable half wants.
use Rattle.std.proofs.Common.{◌≡◌, inl, inr, ℕ, Bool, true, false, not, List, [], ◌∷◌, ◌++◌, Option, Some, None, Ok, Err, slice_get, refl, sym, subst, ap, ◌∙◌, arith}
use Rattle.ws_value.specs.declared.ids.{PipeId.{PipeId}, PromiseId.{PromiseId}, StreamId.{StreamId}}
use Rattle.ws_value.specs.declared.value.{Value.{Value}}
use Rattle.ws_steps.specs.declared.effects.{Effect.{Effect}, Gift.TheVariants.{Fresh}, Owner.{Owner}, Owner.TheVariants.{Host, HalfOf, BranchOf, EndOf}, Use.{Use}}
use Rattle.ws_steps.specs.declared.effects.Effect.TheVariants.{Readable as OnReadable, Writable as OnWritable, Pipe as OnPipe, Signal as OnSignal, Transform as OnTransform, Tee as OnTee, Port as OnPort, StartAlgorithm, PullAlgorithm, CancelAlgorithm, WriteAlgorithm, CloseAlgorithm, AbortAlgorithm, ChunkSteps, CloseSteps, ErrorSteps, Give}
use Rattle.ws_steps.specs.declared.pipes.SignalOperation.TheVariants.{Add, Forget, Trigger}
use Rattle.ws_steps.specs.declared.readable.{ReadRequest.TheVariants.{Promise, Pipe as PipeRequest, Tee as TeeRequest}, ReadableOperation.{ReadableOperation}, ReadableOperation.TheVariants.{InitializeReader, Enqueue}}
use Rattle.ws_steps.specs.declared.transform.{Halves.{Halves}, Kind.{Kind}, Kind.TheVariants.{Identity, Host as HostKind}, TransformId.{TransformId}, TransformOperation.{TransformOperation}}
use Rattle.ws_steps.specs.declared.transform.TransformOperation.TheVariants as names
use Rattle.ws_steps.specs.Histories.{is_same}
use Rattle.ws_steps.specs.Operations.{readable_operation, transform_operation}
use Rattle.ws_steps.specs.Effects.{Out}
use Rattle.ws_steps.specs.Slots.{Slots, Done, nothing, found, halves_at, owner_at, as_readable, has_readable, readable_at, put_readable, on_readable, on_transform_at}
use Rattle.ws_steps.specs.Transform as transform
use Rattle.ws_steps.specs.Turns.{row, pull_algorithm}
use Rattle.ws_laws.proofs.Ended.{Ended}
use Rattle.ws_laws.proofs.Halves.{Halved}
use Rattle.ws_laws.proofs.Lists.{Each, each-append, each-map}
use Rattle.ws_laws.proofs.PipeDoes.{PipeCauses}
use Rattle.ws_laws.proofs.ReadableDoes.{OfReadable, readable-does}
use Rattle.ws_laws.proofs.Causes.{Causes, row-causes}
use Rattle.ws_laws.proofs.Tables.{either, is_same-refl, same_id, eq_numbers, readable_acts, on_readable-same}
use Rattle.ws_writable_laws.proofs.Shape.{one_if}
use Rattle.ws_transform_laws.specs.TransformHistory.{is_same_transform}
use Rattle.ws_transform_laws.proofs.Backpressure.{IsTurning, pressed, row-keeps, IsTurned}
use Rattle.ws_transform_laws.proofs.Cancelling.{half-here, is_half, not-mine}
use Rattle.ws_transform_laws.proofs.Entering.{Reads, mine, apart, reads-default, not-bytes, half-shape}
use Rattle.ws_transform_laws.proofs.Shutting.{readable-stays, can, Fine, unblocks-shut}
use Rattle.ws_transform_laws.proofs.Telling.{owned, owned-stays, IsCalm, Calms, IsMild, Front, tells, unwanted, Fits, Fronts, Enters, Leaves, leaves-calm, away, mild-front, calm-front, calm-pulls, calms-on, tells-append, self}
use Rattle.ws_transform_laws.proofs.Wanting as wanting
use Rattle.ws_transform_laws.proofs.Wanting.{IsNoPull, IsEnding, Rests, Cancels, Pulls, PullsFirst, PullsLast, IsFew, Moved, Finds, operation-moved, enqueue-few}
use Rattle.ws_steps.specs.declared.effects.Effect.TheVariants.{Byte, CloseStepsWith}
use Rattle.ws_steps.specs.declared.byte.ByteOperation.{ByteOperation}
use Rattle.ws_steps.specs.Operations.{byte_operation, byte_readable_operation}
use Rattle.ws_steps.specs.Slots.{has_byte, put_byte, on_byte}
use Rattle.ws_steps.specs.Turns.{on_source}
use Rattle.ws_laws.proofs.Tables.{byte_acts}
use Rattle.ws_laws.proofs.ByteDoes.{byte_readable-does, byte-does}
use Rattle.ws_value.specs.declared.ids.TeeId.{TeeId}
use Rattle.ws_value.specs.declared.ids.PortId.{PortId}
use Rattle.ws_steps.specs.Tee as tee
use Rattle.ws_steps.specs.Cross as cross
use Rattle.ws_laws.proofs.TeeDoes.{TeeCauses}
use Rattle.ws_laws.proofs.PortDoes.{PortCauses}
use Rattle.ws_transform_laws.proofs.Branches.{tee-caused, port-caused, not-branch, not-end}

module _ (t : TransformId) (r : StreamId) where
  -- an enqueue into the readable half

  few-mild : (e : Effect) → IsFew r e → IsMild t r e
  few-mild (ChunkSteps j q v) f = tt
  few-mild (PullAlgorithm j) f = rw f (is_same-refl r)
  few-mild _ f = absurd f

  told-some : (cs rest : List Effect) → tells t r (cs ++ OnTransform t names.Enqueued ∷ rest) ≡ 0 → {A : Type 0} → A
  told-some cs rest none =
      let a = tells-append t r cs (OnTransform t names.Enqueued ∷ rest) in
      let one : one_if (is_same_transform t t) ≡ 1 = rw (self t r t.0) refl in absurd (omega arith)

  pub enters-row : (v : Value) (s : Slots) (rest : List Effect) → Calms t r s rest → Fits t r (row (OnReadable r (Enqueue v)) s).slots ((row (OnReadable r (Enqueue v)) s).caused ++ OnTransform t names.Enqueued ∷ rest)
  unfolding row
  enters-row v s rest k =
      let z : Slots = (row (OnReadable r (Enqueue v)) s).slots in
      let few : Each IsFewHere (on_source (Enqueue v) r s).caused =
      either (λ (d : Done). Each IsFewHere d.caused) (has_byte r s) (on_byte (byte_readable_operation r (Enqueue v)) r s) (on_readable (readable_operation r (Enqueue v)) r s)
      (λ is. either (λ (d : Done). Each IsFewHere d.caused) (has_byte r s) (put_byte r s (byte_readable_operation r (Enqueue v) (byte_acts r s))) (nothing s) (λ there. tt) (λ none. tt))
      (λ isnt. either (λ (d : Done). Each IsFewHere d.caused) (has_readable r s) (put_readable r s (readable_operation r (Enqueue v) (readable_acts r s))) (nothing s) (λ there. enqueue-few r v (readable_acts r s) refl) (λ none. tt)) in
      Fronts (mild-front t r z (row (OnReadable r (Enqueue v)) s).caused (OnTransform t names.Enqueued ∷ rest) (each-map IsFewHere (IsMild t r) few-mild (row (OnReadable r (Enqueue v)) s).caused few) (inr (inr (self t r t.0, calms-on t r s (OnReadable r (Enqueue v)) rest k))))
      (λ none. told-some (row (OnReadable r (Enqueue v)) s).caused rest none)
    where
      IsFewHere : Effect → Type 0
      IsFewHere e = IsFew r e

  -- another operation of the readable half

  refused : {A : Type 0} (b : Bool) → b ≡ false → b ≡ true → A
  refused b e f = cc

  rests-calm : (s : Slots) (cs : List Effect) → Each IsNoPull cs → Calms t r s cs
  rests-calm s cs n = each-map IsNoPull (IsCalm t r s) one cs n
    where
      one : (e : Effect) → IsNoPull e → IsCalm t r s e
      one (ChunkSteps j q v) k = tt
      one (CloseSteps j q) k = tt
      one (CloseStepsWith j q b) k = tt
      one (ErrorSteps j q e) k = tt
      one _ k = absurd k

  ends-calm : (s : Slots) (cs : List Effect) → Each IsEnding cs → Calms t r s cs
  ends-calm s cs n = each-map IsEnding (IsCalm t r s) one cs n
    where
      one : (e : Effect) → IsEnding e → IsCalm t r s e
      one (CancelAlgorithm j c p) k = tt
      one (CloseSteps j q) k = tt
      one (CloseStepsWith j q b) k = tt
      one _ k = absurd k

  calm-fits : (z : Slots) (cs es : List Effect) → Calms t r z cs → Calms t r z es → (unwanted t r z ≡ true → pressed t z ≡ true) → Fits t r z (cs ++ es)
  calm-fits z cs es c k claim =
      let a = each-append (IsCalm t r z) cs es c k in
      Fronts (calm-front t r z (cs ++ es) a) (λ none. (claim, λ some. let no = calm-pulls t r z (cs ++ es) a in absurd (omega arith)))

  wanted-fits : (z : Slots) (es : List Effect) → Front t r z es → unwanted t r z ≡ false → Fits t r z es
  wanted-fits z es f w = Fronts f (λ none. (λ n. never (unwanted t r z) w n, λ some. w))
    where
      never : {A : Type 0} (b : Bool) → b ≡ false → b ≡ true → A
      never b e g = cc

  caused-fits : (z : Slots) (cs es : List Effect) → wanting.Causes r (readable_at r z) cs → Calms t r z es → (unwanted t r z ≡ true → pressed t z ≡ true) → Fits t r z (cs ++ es)
  caused-fits z cs es (Rests n) k claim = calm-fits z cs es (rests-calm z cs n) k claim
  caused-fits z cs es (Cancels c n) k claim = calm-fits z cs es (ends-calm z cs n) k claim
  caused-fits z cs es (Pulls w e) k claim = rw e (wanted-fits z (PullAlgorithm r ∷ es) (inr (inl (is_same-refl r, calm-front t r z es k))) w)
  caused-fits z cs es (PullsFirst q v w e) k claim = rw e (wanted-fits z (PullAlgorithm r ∷ ChunkSteps r q v ∷ es) (inr (inl (is_same-refl r, inl (tt, k)))) w)
  caused-fits z cs es (PullsLast q v w e) k claim = rw e (wanted-fits z (ChunkSteps r q v ∷ PullAlgorithm r ∷ es) (inr (inl (tt, inr (inl (is_same-refl r, calm-front t r z es k))))) w)

  pub own-row : (operation : ReadableOperation) (s : Slots) (es : List Effect) → has_byte r s ≡ false → Finds r operation (readable_at r s) → Calms t r s es → (unwanted t r s ≡ true → pressed t s ≡ true)
      → Fits t r (row (OnReadable r operation) s).slots ((row (OnReadable r operation) s).caused ++ es)
  unfolding row
  own-row operation s es isnt finds k claim =
      let e : Effect = OnReadable r operation in
      let keeps : pressed t (row e s).slots ≡ pressed t s = row-keeps t e s (λ u. u) in
      either (λ (d : Done). pressed t d.slots ≡ pressed t s → Calms t r d.slots es → Fits t r d.slots (d.caused ++ es)) (has_byte r s) (on_byte (byte_readable_operation r operation) r s) (on_readable (readable_operation r operation) r s)
      (λ is. refused (has_byte r s) isnt is)
      (λ default. either (λ (d : Done). pressed t d.slots ≡ pressed t s → Calms t r d.slots es → Fits t r d.slots (d.caused ++ es)) (has_readable r s) (put_readable r s (readable_operation r operation (readable_acts r s))) (nothing s)
      (λ there same c.
      let m = operation-moved r operation (unwanted t r s) (readable_acts r s) finds (record { unwanted = λ n. n; quiet = refl }) in
      let z : Slots = (put_readable r s (readable_operation r operation (readable_acts r s))).slots in
      let at : readable_at r z ≡ (readable_operation r operation (readable_acts r s)).slots = ap as_readable (rw there at (on_readable-same (readable_operation r operation) r s there)) in
      caused-fits z (readable_operation r operation (readable_acts r s)).out.effects es (rw at m.causes) c (λ n. same ∙ claim (m.unwanted (rw at at n))))
      (λ none same c. calm-fits s [] es tt k claim))
      keeps (calms-on t r s e es k)

  -- an operation of another readable stream

  others-calm : (z : Slots) (j : StreamId) → owned t r z j ≡ false → is_same r j ≡ false → OfReadable (λ (x : Out). Calms t r z x.effects) j
  others-calm z j o n = record {
    settle = λ x p q h. h;
    pull = λ x h. each-append (IsCalm t r z) x.effects (PullAlgorithm j ∷ []) h ((o, n), tt);
    cancel = λ x c p h. each-append (IsCalm t r z) x.effects (CancelAlgorithm j c p ∷ []) h (tt, tt);
    chunk = λ x q v h. each-append (IsCalm t r z) x.effects (ChunkSteps j q v ∷ []) h (tt, tt);
    close = λ x q h. each-append (IsCalm t r z) x.effects (CloseSteps j q ∷ []) h (tt, tt);
    error = λ x q e h. each-append (IsCalm t r z) x.effects (ErrorSteps j q e ∷ []) h (tt, tt);
  }

  other-calm : (s z : Slots) (j : StreamId) (operation : ReadableOperation) → (has_readable j s ≡ true → owned t r z j ≡ false) → (has_byte j s ≡ true → owned t r z j ≡ false) → is_same r j ≡ false
      → Calms t r z (on_source operation j s).caused
  other-calm s z j operation o p n =
      either (λ (d : Done). Calms t r z d.caused) (has_byte j s) (on_byte (byte_readable_operation j operation) j s) (on_readable (readable_operation j operation) j s)
      (λ is. either (λ (d : Done). Calms t r z d.caused) (has_byte j s) (put_byte j s (byte_readable_operation j operation (byte_acts j s))) (nothing s)
      (λ there. byte_readable-does (λ (x : Out). Calms t r z x.effects) j (others-calm z j (p there) n) operation (byte_acts j s) tt) (λ none. tt))
      (λ isnt. either (λ (d : Done). Calms t r z d.caused) (has_readable j s) (put_readable j s (readable_operation j operation (readable_acts j s))) (nothing s)
      (λ there. readable-does (λ (x : Out). Calms t r z x.effects) j (others-calm z j (o there) n) operation (readable_acts j s) tt) (λ none. tt))

  bytes-calm : (s z : Slots) (j : StreamId) (operation : ByteOperation) → (has_byte j s ≡ true → owned t r z j ≡ false) → (has_byte j s ≡ true → is_same r j ≡ false) → Calms t r z (on_byte (byte_operation j operation) j s).caused
  bytes-calm s z j operation o n =
      either (λ (d : Done). Calms t r z d.caused) (has_byte j s) (put_byte j s (byte_operation j operation (byte_acts j s))) (nothing s)
      (λ there. byte-does (λ (x : Out). Calms t r z x.effects) j (others-calm z j (o there) (n there)) (λ x q b h. each-append (IsCalm t r z) x.effects (CloseStepsWith j q b ∷ []) h (tt, tt)) operation (byte_acts j s) tt) (λ none. tt)

  not-owned : (s : Slots) (j : StreamId) → Halved s → Reads t r s → is_same r j ≡ false → has_readable j s ≡ true → owned t r s j ≡ false
  not-owned s j halved h n there = by (owned t r s j) refl
    where
      by : (b : Bool) → b ≡ owned t r s j → owned t r s j ≡ false
      by false e = sym e
      by true e = let is = half-here t r s j halved h there (sym e) in let yes : is_same r j ≡ true = rw is (is_same-refl r) in absurd (cc)

  -- an operation of a transform stream

  abbrev IsMoving : TransformOperation → Type 0
  IsMoving (names.Enqueue v) = Unit {0}
  IsMoving (names.TransformChunk v d) = Unit {0}
  IsMoving _ = ⊥

  resting-calm : (z : Slots) (u : TransformId) (halves : Halves) (operation : TransformOperation) (a : transform.Acts) → (IsMoving operation → ⊥) → a.out.effects ≡ [] → Calms t r z (transform_operation u halves operation a).out.effects
  unfolding transform.unblock transform.transform_error transform.terminate transform.enqueued transform.sink_write transform.write_goes_on transform.source_pull transform.set_backpressure transform.sink_close transform.sink_abort transform.source_cancel transform.flush_settled transform.abort_settled transform.cancel_settled
  resting-calm z u halves (names.TransformChunk v d) a n none = absurd (n tt)
  resting-calm z u halves (names.Enqueue v) a n none = absurd (n tt)
  resting-calm z u halves (names.SinkWrite w) a n none = grind (arith, none)
  resting-calm z u halves (names.WriteGoesOn d) a n none = grind (arith, none)
  resting-calm z u halves names.Enqueued a n none = grind (arith, none)
  resting-calm z u halves (names.Error e) a n none = grind (arith, none)
  resting-calm z u halves names.Unblock a n none = grind (arith, none)
  resting-calm z u halves names.Terminate a n none = grind (arith, none)
  resting-calm z u halves (names.SourcePull w) a n none = grind (arith, none)
  resting-calm z u halves (names.SinkClose w) a n none = grind (arith, none)
  resting-calm z u halves (names.SinkAbort c w) a n none = grind (arith, none)
  resting-calm z u halves (names.SourceCancel c w) a n none = grind (arith, none)
  resting-calm z u halves (names.FlushSettled p (Ok v)) a n none = grind (arith, none)
  resting-calm z u halves (names.FlushSettled p (Err e)) a n none = grind (arith, none)
  resting-calm z u halves (names.AbortSettled p c o) a n none = grind (arith, none)
  resting-calm z u halves (names.CancelSettled p c o) a n none = grind (arith, none)

  abbrev On : TransformId → TransformOperation → Slots → Option transform.Slots → Done
  On u operation s o = on_transform_at (λ halves. transform_operation u halves operation) u s o

  resting-caused : (s : Slots) (u : TransformId) (operation : TransformOperation) (o : Option transform.Slots) → (IsMoving operation → ⊥) → Calms t r (On u operation s o).slots (On u operation s o).caused
  resting-caused s u operation None n = tt
  resting-caused s u operation (Some x) n = resting-calm (On u operation s (Some x)).slots u (halves_at x s) operation (record { slots = x; out = found s }) n refl

  -- it enqueues, or its algorithm is performed

  abbrev Next : TransformId → TransformOperation → Slots → List Effect → Option transform.Slots → Type 0
  Next u operation s es o = Leaves t r (OnTransform u operation) s → (row (OnTransform u operation) s ≡ On u operation s o) → Calms t r s es → (unwanted t r s ≡ true → pressed t s ≡ true) → Fits t r (On u operation s o).slots ((On u operation s o).caused ++ es)

  quiet-next : (u : TransformId) (operation : TransformOperation) (s : Slots) (es : List Effect) (o : Option transform.Slots) → Calms t r (On u operation s o).slots (On u operation s o).caused → Next u operation s es o
  quiet-next u operation s es o c l is k claim =
      rw is at (leaves-calm t r (OnTransform u operation) s es l (rw is c) k claim)

  enqueue-next : (u : TransformId) (v : Value) (s : Slots) (es : List Effect) (o : Option transform.Slots) → slice_get s.transforms u.0 ≡ o → Halved s → Reads t r s → Next u (names.Enqueue v) s es o
  unfolding transform.enqueue
  enqueue-next u v s es None at halved h l is k claim = quiet-next u (names.Enqueue v) s es None tt l is k claim
  enqueue-next u v s es (Some x) at halved h l is k claim = by (is_same_transform t u) refl
    where
      by : (same : Bool) → same ≡ is_same_transform t u → Fits t r (On u (names.Enqueue v) s (Some x)).slots ((On u (names.Enqueue v) s (Some x)).caused ++ es)
      by false e = quiet-next u (names.Enqueue v) s es (Some x) (apart t r s u x halved h at (sym e), (sym e, tt)) l is k claim
      by true e =
          let m = mine t r s u x h at (sym e) in
          let one : t ≡ u = ap (λ (n : ℕ). record { 0 = n }) (eq_numbers t.0 u.0 (sym e)) in
          Enters v es (rw (m.0, ← one) refl) (rw is at (calms-on t r s (OnTransform u (names.Enqueue v)) es k))

  abbrev chunk_slots : TransformId → Value → PromiseId → Slots → transform.Slots → Slots
  chunk_slots u v d s x = (On u (names.TransformChunk v d) s (Some x)).slots

  abbrev acts_of : Slots → transform.Slots → transform.Acts
  acts_of s x = record { slots = x; out = found s }

  chunk-next : (u : TransformId) (v : Value) (d : PromiseId) (s : Slots) (es : List Effect) (o : Option transform.Slots) → slice_get s.transforms u.0 ≡ o → Halved s → Reads t r s → Next u (names.TransformChunk v d) s es o
  unfolding transform.transform_chunk
  chunk-next u v d s es None at halved h l is k claim = quiet-next u (names.TransformChunk v d) s es None tt l is k claim
  chunk-next u v d s es (Some x) at halved h l is k claim = by_kind x.kind
    where
      calms : Calms t r (chunk_slots u v d s x) es
      calms = rw is at (calms-on t r s (OnTransform u (names.TransformChunk v d)) es k)

      claims : unwanted t r (chunk_slots u v d s x) ≡ true → pressed t (chunk_slots u v d s x) ≡ true
      claims = λ n.
          let same : readable_at r (chunk_slots u v d s x) ≡ readable_at r s = rw is at l.readable in
          let keeps : pressed t (chunk_slots u v d s x) ≡ pressed t s = rw is at l.pressed in
          keeps ∙ claim (rw same at n)

      by_same : (same : Bool) → same ≡ is_same_transform t u → Fits t r (chunk_slots u v d s x) (transform.transform_identity u v d (acts_of s x) true ++ es)
      by_same false f = calm-fits (chunk_slots u v d s x) (transform.transform_identity u v d (acts_of s x) true) es (apart t r s u x halved h at (sym f), (sym f, (tt, tt))) calms claims
      by_same true f =
          let m = mine t r s u x h at (sym f) in
          let one : t ≡ u = ap (λ (n : ℕ). record { 0 = n }) (eq_numbers t.0 u.0 (sym f)) in
          Enters v (Give (Fresh transform.done) (transform.transformed_by u d) ∷ es) (rw (m.0, ← one) refl) (tt, calms)

      by_can : (can_take : Bool) → Fits t r (chunk_slots u v d s x) (transform.transform_identity u v d (acts_of s x) can_take ++ es)
      by_can true = by_same (is_same_transform t u) refl
      by_can false = calm-fits (chunk_slots u v d s x) (transform.transform_identity u v d (acts_of s x) false) es (tt, tt) calms claims

      by_kind : (kind : Kind) → Fits t r (chunk_slots u v d s x) (transform.transform_by u (halves_at x s) v d (acts_of s x) kind ++ es)
      by_kind Identity = by_can (halves_at x s).can_enqueue
      by_kind HostKind = calm-fits (chunk_slots u v d s x) (transform.transform_by u (halves_at x s) v d (acts_of s x) HostKind) es (tt, tt) calms claims

  -- others

  pipe-calm : (z : Slots) (p : PipeId) (source dest : StreamId) (e : Effect) → PipeCauses p source dest e → IsCalm t r z e
  pipe-calm z p source dest (OnReadable j (Enqueue v)) c = absurd c
  pipe-calm z p source dest (OnReadable j (InitializeReader q)) c = absurd c
  pipe-calm z p source dest (OnTransform u operation) c = absurd c
  pipe-calm z p source dest (PullAlgorithm j) c = absurd c
  pipe-calm z p source dest _ c = tt

  abbrev IsOther : Effect → Type 0
  IsOther (OnReadable j operation) = ⊥
  IsOther (Byte j operation) = ⊥
  IsOther (OnTransform u operation) = ⊥
  IsOther (OnTee u operation) = ⊥
  IsOther (OnPort u operation) = ⊥
  IsOther (PullAlgorithm j) = ⊥
  IsOther _ = Unit {0}

  other-causes : (z : Slots) (e : Effect) → IsOther e → Causes (IsCalm t r z) e
  other-causes z (OnReadable j operation) n = absurd n
  other-causes z (Byte j operation) n = absurd n
  other-causes z (OnTransform u operation) n = absurd n
  other-causes z (OnTee u operation) n = absurd n
  other-causes z (OnPort u operation) n = absurd n
  other-causes z (PullAlgorithm j) n = absurd n
  other-causes z (OnWritable j operation) n = record { write = tt; close = tt; abort = λ c p. tt; hand_on = λ v. tt; take = λ v u d. tt; post = λ v u d. tt }
  other-causes z (StartAlgorithm j step start) n = (λ g u. tt, λ c u. tt)
  other-causes z (CancelAlgorithm j c p) n = (λ c u. tt, (λ y u. tt, (λ k half u. tt, λ y u. tt)))
  other-causes z (WriteAlgorithm j) n = (tt, (λ y u. tt, λ z u. tt))
  other-causes z (CloseAlgorithm j) n = (λ c u. tt, (λ y u. tt, λ z u. tt))
  other-causes z (AbortAlgorithm j c p) n = (λ c u. tt, (λ y u. tt, λ z u. tt))
  other-causes z (OnPipe p operation) n = pipe-calm z p
  other-causes z (OnSignal a (Trigger c)) n = λ p. tt
  other-causes z (OnSignal a (Add p)) n = tt
  other-causes z (OnSignal a (Forget p)) n = tt
  other-causes z (ChunkSteps j (Promise p) v) n = tt
  other-causes z (ChunkSteps j (PipeRequest p) v) n = tt
  other-causes z (ChunkSteps j (TeeRequest k) v) n = tt
  other-causes z (CloseSteps j (Promise p)) n = tt
  other-causes z (CloseStepsWith j (Promise p) b) n = tt
  other-causes z (CloseSteps j (PipeRequest p)) n = tt
  other-causes z (CloseSteps j (TeeRequest k)) n = tt
  other-causes z (CloseStepsWith j (PipeRequest p) b) n = tt
  other-causes z (CloseStepsWith j (TeeRequest k) b) n = tt
  other-causes z (ErrorSteps j (Promise p) e) n = tt
  other-causes z (ErrorSteps j (PipeRequest p) e) n = tt
  other-causes z (ErrorSteps j (TeeRequest k) e) n = tt
  other-causes z _ n = tt

  pull-calm : (z : Slots) (j : StreamId) (w : Use) (owner : Owner) → is_half t owner ≡ false → Calms t r z (pull_algorithm j w owner)
  pull-calm z j w Host n = (tt, tt)
  pull-calm z j w (HalfOf u) n = (n, tt)
  pull-calm z j w (BranchOf u half) n = (tt, (tt, tt))
  pull-calm z j w (EndOf c) n = (tt, (tt, tt))

  -- an operation of a transform stream that is calm

  differ : {A : Type 0} (b : Bool) → b ≡ false → b ≡ true → A
  differ b e f = cc

  turns-not : (s0 : Slots) (u : TransformId) (operation : TransformOperation) → IsCalm t r s0 (OnTransform u operation) → IsTurned t (OnTransform u operation) → (is_same_transform t u ≡ true) × (operation ≡ names.Unblock)
  turns-not s0 u (names.SourcePull w) c k = absurd (differ (is_same_transform t u) c k.0)
  turns-not s0 u names.Enqueued c k = absurd (differ (is_same_transform t u) c k.0)
  turns-not s0 u names.Unblock c k = (k.0, refl)
  turns-not s0 u _ c k = absurd k.1

  unblocked : (s : Slots) (es : List Effect) → can r s ≡ false → Calms t r s es → Fits t r (row (OnTransform t names.Unblock) s).slots ((row (OnTransform t names.Unblock) s).caused ++ es)
  unfolding row
  unblocked s es shut_ k =
      let e : Effect = OnTransform t names.Unblock in
      let there : readable_at r (row e s).slots ≡ readable_at r s = readable-stays r e s (λ o is. cc) in
      let none : unwanted t r (row e s).slots ≡ false = rw there (rw shut_ refl) in
      calm-fits (row e s).slots (row e s).caused es (resting-caused s t names.Unblock (slice_get s.transforms t.0) (λ u. u)) (calms-on t r s e es k) (λ n. differ (unwanted t r (row e s).slots) none n)

  row-is : (u : TransformId) (operation : TransformOperation) (s : Slots) → row (OnTransform u operation) s ≡ On u operation s (slice_get s.transforms u.0)
  unfolding row
  row-is u operation s = refl

  turning : (u : TransformId) (operation : TransformOperation) → IsTurned t (OnTransform u operation) → IsTurning operation
  turning u operation n = n.1

  transform-calm : (u : TransformId) (operation : TransformOperation) (s : Slots) (es : List Effect) → Halved s → Reads t r s → Fine t r (not (can r s)) (OnTransform u operation ∷ es) → IsCalm t r s (OnTransform u operation) → Calms t r s es
      → (unwanted t r s ≡ true → pressed t s ≡ true) → Fits t r (row (OnTransform u operation) s).slots ((row (OnTransform u operation) s).caused ++ es)
  unfolding row
  transform-calm u (names.Enqueue v) s es halved h f c k claim =
      enqueue-next u v s es (slice_get s.transforms u.0) refl halved h (away t r (OnTransform u (names.Enqueue v)) s (λ o is. cc) (λ n. turning u (names.Enqueue v) n)) (row-is u (names.Enqueue v) s) k claim
  transform-calm u (names.TransformChunk v d) s es halved h f c k claim =
      chunk-next u v d s es (slice_get s.transforms u.0) refl halved h (away t r (OnTransform u (names.TransformChunk v d)) s (λ o is. cc) (λ n. turning u (names.TransformChunk v d) n)) (row-is u (names.TransformChunk v d) s) k claim
  transform-calm u names.Unblock s es halved h f c k claim = by (is_same_transform t u) refl
    where
      by : (same : Bool) → same ≡ is_same_transform t u → Fits t r (row (OnTransform u names.Unblock) s).slots ((row (OnTransform u names.Unblock) s).caused ++ es)
      by true e =
          let one : t ≡ u = ap (λ (n : ℕ). record { 0 = n }) (eq_numbers t.0 u.0 (sym e)) in
          subst (λ (w : TransformId). Fits t r (row (OnTransform w names.Unblock) s).slots ((row (OnTransform w names.Unblock) s).caused ++ es)) one
          (unblocked s es (unblocks-shut t r s es (subst (λ (w : TransformId). Fine t r (not (can r s)) (OnTransform w names.Unblock ∷ es)) (sym one) f)) k)
      by false e =
          quiet-next u names.Unblock s es (slice_get s.transforms u.0) (resting-caused s u names.Unblock (slice_get s.transforms u.0) (λ n. n))
          (away t r (OnTransform u names.Unblock) s (λ o is. cc) (λ n. differ (is_same_transform t u) (sym e) n.0)) (row-is u names.Unblock s) k claim
  transform-calm u operation s es halved h f c k claim =
      quiet-next u operation s es (slice_get s.transforms u.0) (resting-caused s u operation (slice_get s.transforms u.0) (λ n. n))
      (away t r (OnTransform u operation) s (λ o is. cc) (λ n. let b = turns-not s u operation c n in cc)) (row-is u operation s) k claim

  -- an operation of a tee

  tee-calm : (s z : Slots) (u : TeeId) (x : tee.Slots) → Halved s → Reads t r s → slice_get s.tees u.0 ≡ Some x → (e : Effect) → TeeCauses u x.source x.branch1 x.branch2 e → IsCalm t r z e
  tee-calm s z u x halved h at (OnReadable j (Enqueue v)) c = not-branch s r t u x j halved (half-shape t r s halved h) at c
  tee-calm s z u x halved h at (OnReadable j (InitializeReader q)) c = absurd c
  tee-calm s z u x halved h at (OnTransform y operation) c = absurd c
  tee-calm s z u x halved h at (PullAlgorithm j) c = absurd c
  tee-calm s z u x halved h at _ c = tt

  -- and one of a port

  port-calm : (s z : Slots) (u : PortId) (x : cross.Slots) → Halved s → Ended s → Reads t r s → slice_get s.ports u.0 ≡ Some x → (e : Effect) → PortCauses u x.stream e → IsCalm t r z e
  port-calm s z u x halved ended h at (OnReadable j (Enqueue v)) c = not-end s r t u x j ended (half-shape t r s halved h) at c
  port-calm s z u x halved ended h at (OnReadable j (InitializeReader q)) c = absurd c
  port-calm s z u x halved ended h at (OnTransform y operation) c = absurd c
  port-calm s z u x halved ended h at (PullAlgorithm j) c = absurd c
  port-calm s z u x halved ended h at _ c = tt

  -- an effect that is calm, with calm ones behind it

  pub calm-row : (e : Effect) (s : Slots) (es : List Effect) → Halved s → Ended s → Reads t r s → Fine t r (not (can r s)) (e ∷ es) → (is_same r r ≡ true → (operation : ReadableOperation) → e ≡ OnReadable r operation → Finds r operation (readable_at r s))
      → IsCalm t r s e → Calms t r s es → (unwanted t r s ≡ true → pressed t s ≡ true) → Fits t r (row e s).slots ((row e s).caused ++ es)
  unfolding row
  calm-row (OnReadable j operation) s es halved ended h f finds c k claim = by (is_same r j) refl
    where
      by : (same : Bool) → same ≡ is_same r j → Fits t r (row (OnReadable j operation) s).slots ((row (OnReadable j operation) s).caused ++ es)
      by true e =
          let is : r ≡ j = same_id r j (sym e) in
          subst (λ (i : StreamId). Fits t r (row (OnReadable i operation) s).slots ((row (OnReadable i operation) s).caused ++ es)) is
          (own-row operation s es (reads-default t r s halved h) (finds (is_same-refl r) operation (ap (λ (i : StreamId). OnReadable i operation) (sym is))) k claim)
      by false e =
          let n : is_same r j ≡ false = sym e in
          let l : Leaves t r (OnReadable j operation) s = away t r (OnReadable j operation) s (λ o is. let at : j ≡ r = cc in let yes : is_same r j ≡ true = rw at (is_same-refl r) in absurd (cc)) (λ u. u) in
          leaves-calm t r (OnReadable j operation) s es l (other-calm s (row (OnReadable j operation) s).slots j operation (λ there. owned-stays t r s (OnReadable j operation) j ∙ not-owned s j halved h n there)
          (λ there. owned-stays t r s (OnReadable j operation) j ∙ not-mine t s j there) n) k claim
  calm-row (Byte j operation) s es halved ended h f finds c k claim =
      leaves-calm t r (Byte j operation) s es (away t r (Byte j operation) s (λ o is. cc) (λ u. u))
      (bytes-calm s (row (Byte j operation) s).slots j operation (λ there. owned-stays t r s (Byte j operation) j ∙ not-mine t s j there) (λ there. not-bytes t r s j halved h there)) k claim
  calm-row (OnTransform u operation) s es halved ended h f finds c k claim = transform-calm u operation s es halved h f c k claim
  calm-row (OnTee u operation) s es halved ended h f finds c k claim =
      leaves-calm t r (OnTee u operation) s es (away t r (OnTee u operation) s (λ o is. cc) (λ u. u))
      (tee-caused (IsCalm t r (row (OnTee u operation) s).slots) u operation s (λ x at e d. tee-calm s (row (OnTee u operation) s).slots u x halved h at e d)) k claim
  calm-row (OnPort u operation) s es halved ended h f finds c k claim =
      leaves-calm t r (OnPort u operation) s es (away t r (OnPort u operation) s (λ o is. cc) (λ u. u))
      (port-caused (IsCalm t r (row (OnPort u operation) s).slots) u operation s (λ x at e d. port-calm s (row (OnPort u operation) s).slots u x halved ended h at e d)) k claim
  calm-row (PullAlgorithm j) s es halved ended h f finds c k claim =
      leaves-calm t r (PullAlgorithm j) s es (away t r (PullAlgorithm j) s (λ o is. cc) (λ u. u)) (pull-calm s j _ (owner_at j s) c.0) k claim
  calm-row e s es halved ended h f finds c k claim =
      leaves-calm t r e s es (away t r e s (λ o is. cc) (λ u. u)) (row-causes (IsCalm t r (row e s).slots) e s (other-causes (row e s).slots e tt)) k claim
