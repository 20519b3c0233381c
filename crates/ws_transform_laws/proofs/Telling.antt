-- Where the backpressure of a transform stream and what its readable half wants come apart: only until the effects at the front of the agenda
-- tell it, or pull.
use Rattle.std.proofs.Common.{◌≡◌, ◌⊎◌, inl, inr, ℕ, ◌+◌, ◌≤◌, ◌<◌, Bool, true, false, nat_eq, is_some, List, [], ◌∷◌, ◌++◌, Option, Some, None, slice_get, refl, sym, subst, ap, ◌∙◌, arith}
use Rattle.ws_value.specs.declared.ids.{PipeId.{PipeId}, PromiseId.{PromiseId}, StreamId.{StreamId}}
use Rattle.ws_value.specs.declared.value.{Value.{Value}}
use Rattle.ws_steps.specs.declared.effects.{Effect.{Effect}, Gift.{Gift}, Gift.TheVariants.{This}, Owner.TheVariants.{HalfOf}, Use.{Use}, Use.TheVariants.{React}}
use Rattle.ws_steps.specs.declared.effects.Effect.TheVariants.{Readable as OnReadable, Pipe as OnPipe, Transform as OnTransform, Tee as OnTee, StartAlgorithm, PullAlgorithm, ChunkSteps, Give}
use Rattle.ws_steps.specs.declared.calls.StartBy.TheVariants.{Now}
use Rattle.ws_steps.specs.declared.pipes.PipeOperation.TheVariants.{KeepChunk}
use Rattle.ws_steps.specs.declared.promises.Step.TheVariants.{ReadablePull}
use Rattle.ws_steps.specs.declared.readable.{ReadRequest.TheVariants.{Promise, Pipe as PipeRequest, Tee as TeeRequest}, ReadableOperation.{ReadableOperation}, ReadableOperation.TheVariants.{InitializeReader, Enqueue}}
use Rattle.ws_steps.specs.declared.transform.{TransformId.{TransformId}}
use Rattle.ws_steps.specs.declared.transform.TransformOperation.TheVariants as names
use Rattle.ws_steps.specs.Histories.{is_same}
use Rattle.ws_steps.specs.Operations.{pipe_operation, transform_operation, tee_operation}
use Rattle.ws_steps.specs.Pipes as pipe
use Rattle.ws_steps.specs.Promises.{next_id, settle}
use Rattle.ws_steps.specs.Readable as readable
use Rattle.ws_steps.specs.Readable.{can_close_or_enqueue, should_call_pull, waiting}
use Rattle.ws_steps.specs.Slots.{Slots, found, halves_at, owner_at, readable_at, on_pipe_at, on_transform_at, on_tee_at}
use Rattle.ws_steps.specs.Transform as transform
use Rattle.ws_steps.specs.Turns.{row}
use Rattle.ws_laws.proofs.Lists.{Each, each-append, each-map}
use Rattle.ws_laws.proofs.Shapes.{row-owner}
use Rattle.ws_laws.proofs.Tables.{same_id, eq_numbers}
use Rattle.ws_writable_laws.proofs.Shape.{one_if}
use Rattle.ws_transform_laws.specs.TransformHistory.{is_same_transform, wants_none}
use Rattle.ws_transform_laws.proofs.Backpressure.{pressed, row-keeps, own-turns, told-none, IsTurned}
use Rattle.ws_transform_laws.proofs.Cancelling.{is_half}
use Rattle.ws_transform_laws.proofs.Cancelling as cancelling
use Rattle.ws_transform_laws.proofs.Shutting.{readable-stays}
use Rattle.ws_value.specs.declared.ids.TeeId.{TeeId}
use Rattle.ws_steps.specs.Tee as tee
use Rattle.ws_steps.specs.declared.tee.TeeOperation.TheVariants.{KeepChunk as KeepByTee}

module _ (t : TransformId) (r : StreamId) where
  abbrev pub owned : Slots → StreamId → Bool
  owned s j = cancelling.mine t s j

  -- an effect that neither pulls nor tells, nor leads to an enqueue
  abbrev pub IsCalm : Slots → Effect → Type 0
  IsCalm s (PullAlgorithm j) = (owned s j ≡ false) × (is_same r j ≡ false)
  IsCalm s (OnTransform u (names.SourcePull w)) = is_same_transform t u ≡ false
  IsCalm s (OnTransform u names.Enqueued) = is_same_transform t u ≡ false
  IsCalm s (OnReadable j (Enqueue v)) = is_same r j ≡ false
  IsCalm s (OnReadable j (InitializeReader p)) = is_same r j ≡ false
  IsCalm s _ = Unit {0}

  abbrev pub Calms : Slots → List Effect → Type 0
  Calms s es = Each (IsCalm s) es

  -- one that changes neither half
  abbrev pub IsMild : Effect → Type 0
  IsMild (ChunkSteps j q v) = Unit {0}
  IsMild (OnPipe p (KeepChunk v)) = Unit {0}
  IsMild (OnTee k (KeepByTee v)) = Unit {0}
  IsMild (Give g u) = Unit {0}
  IsMild (PullAlgorithm j) = is_same r j ≡ true
  IsMild (OnTransform u (names.SourcePull w)) = is_same_transform t u ≡ true
  IsMild _ = ⊥

  -- one that tells of an enqueue
  abbrev pub IsTold : Effect → Type 0
  IsTold (OnTransform u names.Enqueued) = is_same_transform t u ≡ true
  IsTold _ = ⊥

  abbrev pub Front : Slots → List Effect → Type 0
  Front s [] = Unit {0}
  Front s (e ∷ es) = (IsCalm s e × Calms s es) ⊎ ((IsMild e × Front s es) ⊎ (IsTold e × Calms s es))

  abbrev pub pulls_of : Effect → ℕ
  pulls_of (PullAlgorithm j) = one_if (is_same r j)
  pulls_of (OnTransform u (names.SourcePull w)) = one_if (is_same_transform t u)
  pulls_of _ = 0

  abbrev pub pulls : List Effect → ℕ
  pulls [] = 0
  pulls (e ∷ es) = pulls_of e + pulls es

  abbrev pub tells_of : Effect → ℕ
  tells_of (OnTransform u names.Enqueued) = one_if (is_same_transform t u)
  tells_of _ = 0

  abbrev pub tells : List Effect → ℕ
  tells [] = 0
  tells (e ∷ es) = tells_of e + tells es

  abbrev pub unwanted : Slots → Bool
  unwanted s = wants_none (readable_at r s)

  -- where none is about to tell, there is backpressure where nothing is wanted; and one that is about to pull wants a chunk
  abbrev pub Claim : Slots → List Effect → Type 0
  Claim s es = tells es ≡ 0 → (unwanted s ≡ true → pressed t s ≡ true) × (0 < pulls es → unwanted s ≡ false)

  -- the start of a stream whose start algorithm gives undefined
  abbrev pub IsStarting : Effect → Type 0
  IsStarting (StartAlgorithm j step Now) = Unit {0}
  IsStarting (Give gift u) = Unit {0}
  IsStarting _ = ⊥

  pub data Fits (s : Slots) (es : List Effect) : Type 0 where
    Fronts : Front s es → Claim s es → Fits s es
    Enters : (v : Value) (rest : List Effect) → es ≡ OnReadable r (Enqueue v) ∷ OnTransform t names.Enqueued ∷ rest → Calms s rest → Fits s es
    Starts : (e : Effect) (p : PromiseId) (rest : List Effect) → es ≡ e ∷ OnReadable r (InitializeReader p) ∷ rest → IsStarting e → is_some (readable_at r s).reader ≡ false → Calms s rest
        → (unwanted s ≡ true → pressed t s ≡ true) → Fits s es
    Opens : (p : PromiseId) (rest : List Effect) → es ≡ OnReadable r (InitializeReader p) ∷ rest → is_some (readable_at r s).reader ≡ false → Calms s rest → (unwanted s ≡ true → pressed t s ≡ true) → Fits s es

  pub calm-front : (s : Slots) (es : List Effect) → Calms s es → Front s es
  calm-front s [] k = tt
  calm-front s (e ∷ es) k = inl k

  pub calm-pulls : (s : Slots) (es : List Effect) → Calms s es → pulls es ≡ 0
  calm-pulls s [] k = refl
  calm-pulls s (e ∷ es) k = let a = one e k.0 in let b = calm-pulls s es k.1 in omega arith
    where
      one : (e : Effect) → IsCalm s e → pulls_of e ≡ 0
      one (PullAlgorithm j) c = rw c.1 refl
      one (OnTransform u (names.SourcePull w)) c = rw c refl
      one _ c = refl

  pub calm-tells : (s : Slots) (es : List Effect) → Calms s es → tells es ≡ 0
  calm-tells s [] k = refl
  calm-tells s (e ∷ es) k = let a = one e k.0 in let b = calm-tells s es k.1 in omega arith
    where
      one : (e : Effect) → IsCalm s e → tells_of e ≡ 0
      one (OnTransform u names.Enqueued) c = rw c refl
      one _ c = refl

  pub owned-stays : (s : Slots) (e : Effect) (j : StreamId) → owned (row e s).slots j ≡ owned s j
  owned-stays s e j = ap (is_half t) (row-owner j e s)

  calm-on : (s : Slots) (e f : Effect) → IsCalm s f → IsCalm (row e s).slots f
  calm-on s e (PullAlgorithm j) c = (owned-stays s e j ∙ c.0, c.1)
  calm-on s e (OnTransform u (names.SourcePull w)) c = c
  calm-on s e (OnTransform u names.Enqueued) c = c
  calm-on s e (OnReadable j (Enqueue v)) c = c
  calm-on s e (OnReadable j (InitializeReader p)) c = c
  calm-on s e _ c = tt

  pub calms-on : (s : Slots) (e : Effect) (es : List Effect) → Calms s es → Calms (row e s).slots es
  calms-on s e es k = each-map (IsCalm s) (IsCalm (row e s).slots) (calm-on s e) es k

  pub front-on : (s : Slots) (e : Effect) (es : List Effect) → Front s es → Front (row e s).slots es
  front-on s e [] k = tt
  front-on s e (f ∷ es) (inl k) = inl (calm-on s e f k.0, calms-on s e es k.1)
  front-on s e (f ∷ es) (inr (inl k)) = inr (inl (k.0, front-on s e es k.1))
  front-on s e (f ∷ es) (inr (inr k)) = inr (inr (k.0, calms-on s e es k.1))

  -- an effect that leaves both

  pub record Leaves (e : Effect) (s : Slots) : Type 0 where
    pub readable : readable_at r (row e s).slots ≡ readable_at r s
    pub pressed : pressed t (row e s).slots ≡ pressed t s

  pub leaves-calm : (e : Effect) (s : Slots) (es : List Effect) → Leaves e s → Calms (row e s).slots (row e s).caused → Calms s es → (unwanted s ≡ true → pressed t s ≡ true) → Fits (row e s).slots ((row e s).caused ++ es)
  leaves-calm e s es l c k claim =
      let cs : Calms (row e s).slots ((row e s).caused ++ es) = each-append (IsCalm (row e s).slots) (row e s).caused es c (calms-on s e es k) in
      Fronts (calm-front (row e s).slots ((row e s).caused ++ es) cs)
      (λ none. (λ n. rw l.pressed (claim (rw l.readable at n)), λ some. let no = calm-pulls (row e s).slots ((row e s).caused ++ es) cs in absurd (omega arith)))

  -- effects at the front that change neither half

  pub mild-front : (s : Slots) (cs es : List Effect) → Each IsMild cs → Front s es → Front s (cs ++ es)
  mild-front s [] es m k = k
  mild-front s (c ∷ cs) es m k = inr (inl (m.0, mild-front s cs es m.1 k))

  pub pulls-append : (cs es : List Effect) → pulls (cs ++ es) ≡ pulls cs + pulls es
  pulls-append [] es = omega arith
  pulls-append (c ∷ cs) es = let n = pulls-append cs es in omega arith

  pub tells-append : (cs es : List Effect) → tells (cs ++ es) ≡ tells cs + tells es
  tells-append [] es = omega arith
  tells-append (c ∷ cs) es = let n = tells-append cs es in omega arith

  mild-same : (e : Effect) (s : Slots) (es cs : List Effect) → Leaves e s → (row e s).caused ≡ cs → Each IsMild cs → pulls cs ≤ pulls_of e → tells_of e ≡ tells cs → Front s es → Claim s (e ∷ es) → Fits (row e s).slots ((row e s).caused ++ es)
  mild-same e s es cs l is m p q f claim =
      let a = pulls-append cs es in let b = tells-append cs es in
      rw is (Fronts (mild-front (row e s).slots cs es m (front-on s e es f))
      (λ none.
      let k = claim (omega arith) in
      (λ n. rw l.pressed (k.0 (rw l.readable at n)), λ some. rw l.readable (k.1 (omega arith)))))

  pub away : (e : Effect) (s : Slots) → ((operation : ReadableOperation) → e ≡ OnReadable r operation → ⊥) → (IsTurned t e → ⊥) → Leaves e s
  away e s n m = record { readable = readable-stays r e s n; pressed = row-keeps t e s m }

  kept-none : (p : PipeId) (v : Value) (s : Slots) (o : Option pipe.Slots) → (on_pipe_at (λ ends. pipe_operation p ends (KeepChunk v)) p s o).caused ≡ []
  unfolding pipe.keep_chunk
  kept-none p v s None = refl
  kept-none p v s (Some x) = refl

  kept_by_tee-none : (k : TeeId) (v : Value) (s : Slots) (o : Option tee.Slots) → (on_tee_at (tee_operation k (KeepByTee v)) k s o).caused ≡ []
  unfolding tee.keep_chunk
  kept_by_tee-none k v s None = refl
  kept_by_tee-none k v s (Some x) = refl

  -- the pull algorithm of the readable half
  pull-caused : (j : StreamId) (s : Slots) → is_same r j ≡ true → owner_at r s ≡ HalfOf t → (row (PullAlgorithm j) s).caused ≡ OnTransform t (names.SourcePull (React (ReadablePull j) None)) ∷ []
  unfolding row
  pull-caused j s same owner = let o : owner_at j s ≡ HalfOf t = rw (same_id r j same) at owner in rw o refl

  pub self : (k : ℕ) → nat_eq k k ≡ true
  self k = grind arith

  source-caused : (u : TransformId) (w : Use) (s : Slots) (x : transform.Slots) → slice_get s.transforms u.0 ≡ Some x → (g : Gift) × ((row (OnTransform u (names.SourcePull w)) s).caused ≡ Give g w ∷ [])
  unfolding row transform.source_pull transform.set_backpressure
  source-caused u w s x is = (This (next_id (settle x.change transform.done s.promises)), rw is refl)

  source-row : (u : TransformId) (w : Use) (s : Slots) (es : List Effect) (x : transform.Slots) → u ≡ t → slice_get s.transforms t.0 ≡ Some x → Front s es → Claim s (OnTransform u (names.SourcePull w) ∷ es)
      → Fits (row (OnTransform u (names.SourcePull w)) s).slots ((row (OnTransform u (names.SourcePull w)) s).caused ++ es)
  source-row u w s es x same is f claim =
      let e : Effect = OnTransform u (names.SourcePull w) in
      let c = source-caused u w s x (rw same is) in
      let there : readable_at r (row e s).slots ≡ readable_at r s = readable-stays r e s (λ o k. cc) in
      let one : one_if (is_same_transform t u) ≡ 1 = rw same (rw (self t.0) refl) in
      rw c.1 (Fronts (inr (inl (tt, front-on s e es f)))
      (λ none.
      let k = claim (omega arith) in
      let wanted : unwanted s ≡ false = k.1 (omega arith) in
      (λ n. let no : unwanted s ≡ true = rw there at n in absurd (cc), λ some. rw there wanted)))

  pub mild-row : (e : Effect) (s : Slots) (es : List Effect) (x : transform.Slots) → owner_at r s ≡ HalfOf t → slice_get s.transforms t.0 ≡ Some x → IsMild e → Front s es → Claim s (e ∷ es) → Fits (row e s).slots ((row e s).caused ++ es)
  unfolding row
  mild-row (ChunkSteps j (Promise p) v) s es x owner is m f claim = mild-same (ChunkSteps j (Promise p) v) s es [] (away (ChunkSteps j (Promise p) v) s (λ o k. cc) (λ k. k)) refl tt (omega arith) refl f claim
  mild-row (ChunkSteps j (PipeRequest p) v) s es x owner is m f claim =
      mild-same (ChunkSteps j (PipeRequest p) v) s es (OnPipe p (KeepChunk v) ∷ []) (away (ChunkSteps j (PipeRequest p) v) s (λ o k. cc) (λ k. k)) refl (tt, tt) (omega arith) (omega arith) f claim
  mild-row (ChunkSteps j (TeeRequest k) v) s es x owner is m f claim =
      mild-same (ChunkSteps j (TeeRequest k) v) s es (OnTee k (KeepByTee v) ∷ []) (away (ChunkSteps j (TeeRequest k) v) s (λ o k. cc) (λ k. k)) refl (tt, tt) (omega arith) (omega arith) f claim
  mild-row (OnPipe p (KeepChunk v)) s es x owner is m f claim =
      mild-same (OnPipe p (KeepChunk v)) s es [] (away (OnPipe p (KeepChunk v)) s (λ o k. cc) (λ k. k)) (kept-none p v s (slice_get s.pipes p.0)) tt (omega arith) refl f claim
  mild-row (OnTee k (KeepByTee v)) s es x owner is m f claim =
      mild-same (OnTee k (KeepByTee v)) s es [] (away (OnTee k (KeepByTee v)) s (λ o k. cc) (λ k. k)) (kept_by_tee-none k v s (slice_get s.tees k.0)) tt (omega arith) refl f claim
  mild-row (Give g u) s es x owner is m f claim = mild-same (Give g u) s es [] (away (Give g u) s (λ o k. cc) (λ k. k)) refl tt (omega arith) refl f claim
  mild-row (PullAlgorithm j) s es x owner is m f claim =
      let one : one_if (is_same r j) ≡ 1 = rw m refl in
      let two : one_if (is_same_transform t t) ≡ 1 = rw (self t.0) refl in
      mild-same (PullAlgorithm j) s es (OnTransform t (names.SourcePull (React (ReadablePull j) None)) ∷ []) (away (PullAlgorithm j) s (λ o k. cc) (λ k. k)) (pull-caused j s m owner) (self t.0, tt) (omega arith) (omega arith) f claim
  mild-row (OnTransform u (names.SourcePull w)) s es x owner is m f claim =
      source-row u w s es x (sym (ap (λ (k : ℕ). record { 0 = k }) (eq_numbers t.0 u.0 m))) is f claim
  mild-row _ s es x owner is m f claim = absurd m

  -- an enqueue is told

  wants-no : (x : readable.Slots) → wants_none x ≡ true → should_call_pull x ≡ false
  wants-no x e = grind (arith, e)

  told-caused : (u : TransformId) (s : Slots) (o : Option transform.Slots) → (on_transform_at (λ halves. transform_operation u halves names.Enqueued) u s o).caused ≡ []
  unfolding transform.enqueued transform.set_backpressure
  told-caused u s None = refl
  told-caused u s (Some x) = grind arith

  pub told-row : (e : Effect) (s : Slots) (es : List Effect) (x : transform.Slots) → slice_get s.transforms t.0 ≡ Some x → x.readable ≡ r → IsTold e → Calms s es → Fits (row e s).slots ((row e s).caused ++ es)
  unfolding row
  told-row (OnTransform u names.Enqueued) s es x is half m k =
      let same : t ≡ u = ap (λ (n : ℕ). record { 0 = n }) (eq_numbers t.0 u.0 m) in
      subst (λ (w : TransformId). Fits (row (OnTransform w names.Enqueued) s).slots ((row (OnTransform w names.Enqueued) s).caused ++ es)) same (mine_told)
    where
      e : Effect
      e = OnTransform t names.Enqueued

      there : readable_at r (row (OnTransform t names.Enqueued) s).slots ≡ readable_at r s
      there = readable-stays r (OnTransform t names.Enqueued) s (λ o k. cc)

      mine_told : Fits (row (OnTransform t names.Enqueued) s).slots ((row (OnTransform t names.Enqueued) s).caused ++ es)
      mine_told =
          rw (told-caused t s (slice_get s.transforms t.0)) (Fronts (calm-front (row (OnTransform t names.Enqueued) s).slots es (calms-on s (OnTransform t names.Enqueued) es k))
          (λ none. (
            λ n.
                let u : unwanted s ≡ true = rw there at n in
                let no : should_call_pull (readable_at x.readable s) ≡ false = rw half (wants-no (readable_at r s) u) in
                own-turns t names.Enqueued s x is ∙ told-none (halves_at x s) (record { slots = x; out = found s }) no,
            λ some. let no = calm-pulls s es k in absurd (omega arith),
          )))
  told-row _ s es x is half m k = absurd m
