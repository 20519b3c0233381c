-- A transform stream unblocks its writes only where its readable half can take no chunk any more.
use Rattle.std.proofs.Common.{◌≡◌, ℕ, ◌+◌, ◌≤◌, Bool, true, false, not, ◌||◌, nat_eq, List, [], ◌∷◌, ◌++◌, Option, Some, None, Result, Ok, Err, slice_get, refl, sym, subst, ap, ◌∙◌, arith}
use Rattle.ws_value.specs.declared.ids.{PipeId.{PipeId}, PromiseId.{PromiseId}, StreamId.{StreamId}}
use Rattle.ws_value.specs.declared.value.Plain.{Plain}
use Rattle.ws_steps.specs.declared.effects.{Effect.{Effect}}
use Rattle.ws_steps.specs.declared.effects.Effect.TheVariants.{Readable as OnReadable, Writable as OnWritable, Pipe as OnPipe, Signal as OnSignal, Transform as OnTransform, Tee as OnTee, Port as OnPort, StartAlgorithm, PullAlgorithm, CancelAlgorithm, WriteAlgorithm, CloseAlgorithm, AbortAlgorithm, ChunkSteps, CloseSteps, ErrorSteps, Give, CallHost}
use Rattle.ws_steps.specs.declared.pipes.SignalOperation.TheVariants.{Add, Forget, Trigger}
use Rattle.ws_steps.specs.declared.readable.{ReadRequest.TheVariants.{Promise, Pipe as PipeRequest, Tee as TeeRequest}, ReadableOperation.{ReadableOperation}, ReadableOperation.TheVariants.{Close, Error}}
use Rattle.ws_steps.specs.declared.transform.{Halves.{Halves}, TransformId.{TransformId}, TransformOperation.{TransformOperation}}
use Rattle.ws_steps.specs.declared.transform.TransformOperation.TheVariants as names
use Rattle.ws_steps.specs.declared.writable.WritableState.{WritableState}
use Rattle.ws_steps.specs.declared.writable.WritableState.TheVariants.{Writable, Erroring, Errored, Closed}
use Rattle.ws_steps.specs.Histories.{is_same}
use Rattle.ws_steps.specs.Operations.{readable_operation, writable_operation, transform_operation}
use Rattle.ws_steps.specs.Readable as readable
use Rattle.ws_steps.specs.Readable.{can_close_or_enqueue}
use Rattle.ws_steps.specs.Slots.{Slots, Done, nothing, found, halves_at, as_readable, has_readable, readable_at, put_readable, on_readable, on_transform_at}
use Rattle.ws_steps.specs.Transform as transform
use Rattle.ws_steps.specs.Turns.{row}
use Rattle.ws_laws.proofs.Halves.{Halved}
use Rattle.ws_laws.proofs.Lists.{Each}
use Rattle.ws_laws.proofs.PipeDoes.{PipeCauses}
use Rattle.ws_laws.proofs.Apart.{row-streams}
use Rattle.ws_laws.proofs.Causes.{Causes, row-causes}
use Rattle.ws_laws.proofs.Tables.{either, is_same-refl, same_id, readable_acts, on_readable-same, no_readable_there, on_writable-readable}
use Rattle.ws_laws.proofs.Weights.{weigh-fresh, weigh-settle, weigh-answer, weigh-micro}
use Rattle.ws_writable_laws.proofs.Agenda.{weight-tell, weight-gift, weight-host}
use Rattle.ws_writable_laws.proofs.Shape.{all-append, weight, of_reaction}
use Rattle.ws_transform_laws.specs.TransformHistory.{is_same_transform}
use Rattle.ws_transform_laws.proofs.Cancelling.{is_cancelled, cancels, none_of, row-none}
use Rattle.ws_transform_laws.proofs.Entering.{Reads, mine}
use Rattle.ws_transform_laws.proofs.Sparing.{row-spares}
use Rattle.ws_transform_laws.proofs.Wanting.{operation-shut}
use Rattle.ws_steps.specs.declared.effects.Effect.TheVariants.{Byte, CloseStepsWith}
use Rattle.ws_steps.specs.Operations.{byte_operation, byte_readable_operation}
use Rattle.ws_steps.specs.Slots.{has_byte, on_byte}
use Rattle.ws_steps.specs.Turns.{on_source}
use Rattle.ws_laws.proofs.Tables.{on_byte-readable}
use Rattle.ws_transform_laws.proofs.Sources.{byte-unread, source-apart}
use Rattle.ws_value.specs.declared.ids.TeeId.{TeeId}
use Rattle.ws_value.specs.declared.ids.PortId.{PortId}
use Rattle.ws_laws.proofs.TeeDoes.{TeeCauses}
use Rattle.ws_laws.proofs.PortDoes.{PortCauses}

-- what a stream can take, over an effect

abbrev pub can : StreamId → Slots → Bool
can r s = can_close_or_enqueue (readable_at r s)

-- the stream after an effect that is no operation of it
pub readable-stays : (r : StreamId) (e : Effect) (s : Slots) → ((operation : ReadableOperation) → e ≡ OnReadable r operation → ⊥) → readable_at r (row e s).slots ≡ readable_at r s
unfolding row
readable-stays r (OnReadable j operation) s n = by (is_same r j) refl
  where
    by : (same : Bool) → same ≡ is_same r j → readable_at r (on_source operation j s).slots ≡ readable_at r s
    by true e = absurd (n operation (ap (λ (k : StreamId). OnReadable k operation) (sym (same_id r j (sym e)))))
    by false e = source-apart operation j s r (sym e)
readable-stays r (Byte j operation) s n = on_byte-readable (byte_operation j operation) j s r
readable-stays r (OnWritable j operation) s n = on_writable-readable (writable_operation j operation) j s r (is_same r j) refl
readable-stays r e s n = ap (λ xs. as_readable (slice_get xs r.0)) (row-streams e s tt)

own-shut : (r : StreamId) (operation : ReadableOperation) (s : Slots) → can r s ≡ false → can r (row (OnReadable r operation) s).slots ≡ false
unfolding row
own-shut r operation s e =
    either (λ (d : Done). can r d.slots ≡ false) (has_byte r s) (on_byte (byte_readable_operation r operation) r s) (on_readable (readable_operation r operation) r s)
    (λ is. ap (λ x. can_close_or_enqueue x) (on_byte-readable (byte_readable_operation r operation) r s r) ∙ e)
    (λ isnt. either (λ (d : Done). can r d.slots ≡ false) (has_readable r s) (put_readable r s (readable_operation r operation (readable_acts r s))) (nothing s)
    (λ there.
    let at : readable_at r (put_readable r s (readable_operation r operation (readable_acts r s))).slots ≡ (readable_operation r operation (readable_acts r s)).slots = ap as_readable (rw there at (on_readable-same (readable_operation r operation) r s there)) in
    rw at (operation-shut r operation (readable_acts r s) e)) (λ none. e))

pub row-shut : (r : StreamId) (e : Effect) (s : Slots) → can r s ≡ false → can r (row e s).slots ≡ false
row-shut r (OnReadable j operation) s e = by (is_same r j) refl
  where
    by : (same : Bool) → same ≡ is_same r j → can r (row (OnReadable j operation) s).slots ≡ false
    by true f = subst (λ (k : StreamId). can r (row (OnReadable k operation) s).slots ≡ false) (same_id r j (sym f)) (own-shut r operation s e)
    by false f = rw (readable-stays r (OnReadable j operation) s (λ o is. let at : j ≡ r = cc in let yes : is_same r j ≡ true = rw at (is_same-refl r) in absurd (cc))) e
row-shut r e s f = rw (readable-stays r e s (λ o is. cc)) f

pub can-before : (r : StreamId) (e : Effect) (s : Slots) → can r (row e s).slots ≡ true → can r s ≡ true
can-before r e s open_ = by (can r s) refl
  where
    by : (b : Bool) → b ≡ can r s → can r s ≡ true
    by true f = sym f
    by false f = let no = row-shut r e s (sym f) in absurd (cc)

abbrev pub IsTransforms : Effect → Type 0
IsTransforms (OnTransform u operation) = Unit {0}
IsTransforms _ = ⊥

close-shuts : (r : StreamId) (a : readable.Acts) → can_close_or_enqueue (readable_operation r Close a).slots ≡ false
unfolding readable.controller_close readable.close_if_empty readable.stream_close
close-shuts r a = grind arith

error-shuts : (r : StreamId) (c : Plain) (a : readable.Acts) → can_close_or_enqueue (readable_operation r (Error c) a).slots ≡ false
unfolding readable.controller_error readable.stream_error
error-shuts r c a = grind arith

module _ (t : TransformId) (r : StreamId) where
  -- none leads to the reaction to a cancel, where the stream can take a chunk
  abbrev pub Uncancelled : Slots → List Effect → Type 0
  Uncancelled s es = can r s ≡ true → (weight (is_cancelled t) s.promises ≡ 0) × (none_of t s es ≡ 0)

  none-left : (m n : ℕ) → m ≤ n → n ≡ 0 → m ≡ 0
  none-left m n l e = omega arith

  pub row-weight : (e : Effect) (s : Slots) → cancels t s e ≡ 0 → weight (is_cancelled t) s.promises ≡ 0 → weight (is_cancelled t) (row e s).slots.promises ≡ 0
  unfolding row
  row-weight (Give gift u) s n w = let l = weight-gift (is_cancelled t) gift u s.promises in omega arith
  row-weight (CallHost call u) s n w = let l = weight-host (is_cancelled t) call u s in omega arith
  row-weight e s n w = row-spares (λ z. weight (is_cancelled t) z ≡ 0) (record {
    fresh = λ z h. none-left _ _ (weigh-fresh (of_reaction (is_cancelled t)) z) h;
    settle = λ z p o h. none-left _ _ (weigh-settle (of_reaction (is_cancelled t)) p o z) h;
    answer = λ z p o h. none-left _ _ (weigh-answer (of_reaction (is_cancelled t)) p o z) h;
    micro = λ z m h. none-left _ _ (weigh-micro (of_reaction (is_cancelled t)) m z) h;
    post = λ z c m h. weight-tell (is_cancelled t) _ z ∙ h;
    signal = λ z i c h. weight-tell (is_cancelled t) _ z ∙ h;
  }) e s (λ u. u) w

  -- what was to be cancelled stays so

  pub row-uncancelled : (e : Effect) (s : Slots) (es : List Effect) → Halved s → Reads t r s → Uncancelled s (e ∷ es) → (none_of t (row e s).slots es ≡ none_of t s es) → (none_of t (row e s).slots (row e s).caused ≡ none_of t s (row e s).caused)
      → Uncancelled (row e s).slots ((row e s).caused ++ es)
  row-uncancelled e s es halved h k same same_caused = λ open_.
      let m = k (can-before r e s open_) in
      let n : cancels t s e ≡ 0 = let a = m.1 in omega arith in
      let c = row-none t r e s halved h open_ n in
      let more = all-append (cancels t (row e s).slots) (row e s).caused es in
      (row-weight e s n m.0, let a = m.1 in omega (arith, more, same, same_caused, c, a))

  -- unblocking

  abbrev pub ends : Effect → Bool
  ends (OnReadable j Close) = is_same r j
  ends (OnReadable j (Error c)) = is_same r j
  ends _ = false

  -- the writes of the transform stream are unblocked only where the readable half can take no chunk, or won't be able to by then
  abbrev Allowed : Bool → Effect → Type 0
  Allowed d (OnTransform u names.Unblock) = is_same_transform t u ≡ true → d ≡ true
  Allowed d _ = Unit {0}

  abbrev pub Fine : Bool → List Effect → Type 0
  Fine d [] = Unit {0}
  Fine d (e ∷ es) = Allowed d e × Fine (d || ends e) es

  ok-more : (d : Bool) (e : Effect) → Allowed d e → Allowed true e
  ok-more d (OnTransform u names.Unblock) k = λ same. refl
  ok-more d _ k = tt

  fine-more : (d : Bool) (es : List Effect) → Fine d es → Fine true es
  fine-more d [] k = tt
  fine-more d (e ∷ es) k = (ok-more d e k.0, fine-more (d || ends e) es k.1)

  fine-as : (d c : Bool) (es : List Effect) → (d ≡ true → c ≡ true) → Fine d es → Fine c es
  fine-as true c es l k = rw (l refl) k
  fine-as false true es l k = fine-more false es k
  fine-as false false es l k = k

  or_left : (a b : Bool) → a ≡ true → a || b ≡ true
  or_left a b e = grind arith

  fine-append : (d : Bool) (cs es : List Effect) → Fine d cs → Fine d es → Fine d (cs ++ es)
  fine-append d [] es c k = k
  fine-append d (e ∷ cs) es c k = (c.0, fine-append (d || ends e) cs es c.1 (fine-as d (d || ends e) es (or_left d (ends e)) k))

  abbrev pub IsPlain : Effect → Type 0
  IsPlain (OnTransform u names.Unblock) = is_same_transform t u ≡ false
  IsPlain _ = Unit {0}

  differ : {A : Type 0} (b : Bool) → b ≡ false → b ≡ true → A
  differ b e f = cc

  plain-ok : (d : Bool) (e : Effect) → IsPlain e → Allowed d e
  plain-ok d (OnTransform u names.Unblock) p = λ same. differ (is_same_transform t u) p same
  plain-ok d _ p = tt

  pub plain-fine : (d : Bool) (es : List Effect) → Each IsPlain es → Fine d es
  plain-fine d [] p = tt
  plain-fine d (e ∷ es) p = (plain-ok d e p.0, plain-fine (d || ends e) es p.1)

  pipe-plain : (p : PipeId) (source dest : StreamId) (e : Effect) → PipeCauses p source dest e → IsPlain e
  pipe-plain p source dest (OnTransform u operation) c = absurd c
  pipe-plain p source dest _ c = tt

  tee-plain : (u : TeeId) (source first second : StreamId) (e : Effect) → TeeCauses u source first second e → IsPlain e
  tee-plain u source first second (OnTransform y operation) c = absurd c
  tee-plain u source first second _ c = tt

  port-plain : (u : PortId) (stream : StreamId) (e : Effect) → PortCauses u stream e → IsPlain e
  port-plain u stream (OnTransform y operation) c = absurd c
  port-plain u stream _ c = tt

  abbrev IsOther : Effect → Type 0
  IsOther (OnTransform u operation) = ⊥
  IsOther _ = Unit {0}

  plain-causes : (e : Effect) → IsOther e → Causes IsPlain e
  plain-causes (OnReadable j operation) n = record { pull = tt; cancel = λ c p. tt; chunk = λ c v. tt; close = λ c. tt; error = λ c e. tt }
  plain-causes (Byte j operation) n = record { readable = record { pull = tt; cancel = λ c p. tt; chunk = λ c v. tt; close = λ c. tt; error = λ c e. tt }; close_with = λ r b. tt }
  plain-causes (OnWritable j operation) n = record { write = tt; close = tt; abort = λ c p. tt; hand_on = λ v. tt; take = λ v u d. tt; post = λ v u d. tt }
  plain-causes (StartAlgorithm j step start) n = (λ g u. tt, λ c u. tt)
  plain-causes (PullAlgorithm j) n = (λ c u. tt, (λ y u. tt, (λ k. tt, (λ u. tt, λ q. tt))))
  plain-causes (CancelAlgorithm j c p) n = (λ c u. tt, (λ y u. tt, (λ k half u. tt, λ y u. tt)))
  plain-causes (WriteAlgorithm j) n = (tt, (λ y u. tt, λ z u. tt))
  plain-causes (CloseAlgorithm j) n = (λ c u. tt, (λ y u. tt, λ z u. tt))
  plain-causes (AbortAlgorithm j c p) n = (λ c u. tt, (λ y u. tt, λ z u. tt))
  plain-causes (OnPipe p operation) n = pipe-plain p
  plain-causes (OnSignal a (Trigger c)) n = λ p. tt
  plain-causes (OnSignal a (Add p)) n = tt
  plain-causes (OnSignal a (Forget p)) n = tt
  plain-causes (OnTransform u operation) n = absurd n
  plain-causes (OnTee u operation) n = tee-plain u
  plain-causes (OnPort u operation) n = port-plain u
  plain-causes (ChunkSteps j (Promise p) v) n = tt
  plain-causes (ChunkSteps j (PipeRequest p) v) n = tt
  plain-causes (ChunkSteps j (TeeRequest k) v) n = tt
  plain-causes (CloseSteps j (Promise p)) n = tt
  plain-causes (CloseStepsWith j (Promise p) b) n = tt
  plain-causes (CloseSteps j (PipeRequest p)) n = tt
  plain-causes (CloseSteps j (TeeRequest k)) n = tt
  plain-causes (CloseStepsWith j (PipeRequest p) b) n = tt
  plain-causes (CloseStepsWith j (TeeRequest k) b) n = tt
  plain-causes (ErrorSteps j (Promise p) e) n = tt
  plain-causes (ErrorSteps j (PipeRequest p) e) n = tt
  plain-causes (ErrorSteps j (TeeRequest k) e) n = tt
  plain-causes _ n = tt

  -- an operation of a transform stream

  or_right : (a b : Bool) → b ≡ true → a || b ≡ true
  or_right a b e = grind arith

  abbrev IsUnblocking : TransformOperation → Type 0
  IsUnblocking (names.Error c) = Unit {0}
  IsUnblocking names.Terminate = Unit {0}
  IsUnblocking (names.CancelSettled p c o) = Unit {0}
  IsUnblocking _ = ⊥

  resting-plain : (u : TransformId) (halves : Halves) (operation : TransformOperation) (a : transform.Acts) → (IsUnblocking operation → ⊥) → a.out.effects ≡ [] → Each IsPlain (transform_operation u halves operation a).out.effects
  unfolding transform.unblock transform.transform_error transform.terminate transform.enqueue transform.enqueued transform.transform_chunk transform.sink_write transform.write_goes_on transform.source_pull transform.set_backpressure transform.sink_close transform.sink_abort transform.source_cancel transform.flush_settled transform.abort_settled transform.cancel_settled
  resting-plain u halves (names.TransformChunk v d) a n none = grind (arith, none)
  resting-plain u halves (names.Enqueue v) a n none = grind (arith, none)
  resting-plain u halves (names.SinkWrite w) a n none = grind (arith, none)
  resting-plain u halves (names.WriteGoesOn d) a n none = grind (arith, none)
  resting-plain u halves names.Enqueued a n none = grind (arith, none)
  resting-plain u halves (names.Error e) a n none = absurd (n tt)
  resting-plain u halves names.Unblock a n none = grind (arith, none)
  resting-plain u halves names.Terminate a n none = absurd (n tt)
  resting-plain u halves (names.SourcePull w) a n none = grind (arith, none)
  resting-plain u halves (names.SinkClose w) a n none = grind (arith, none)
  resting-plain u halves (names.SinkAbort c w) a n none = grind (arith, none)
  resting-plain u halves (names.SourceCancel c w) a n none = grind (arith, none)
  resting-plain u halves (names.FlushSettled p (Ok v)) a n none = grind (arith, none)
  resting-plain u halves (names.FlushSettled p (Err e)) a n none = grind (arith, none)
  resting-plain u halves (names.AbortSettled p c o) a n none = grind (arith, none)
  resting-plain u halves (names.CancelSettled p c o) a n none = absurd (n tt)

  or_three : (a b c d : Bool) → b ≡ true → ((a || b) || c) ≡ true
  or_three a b c d e = grind arith

  error-fine : (d : Bool) (u : TransformId) (c : Plain) (a : transform.Acts) → (is_same_transform t u ≡ true → is_same r a.slots.readable ≡ true) → a.out.effects ≡ [] → Fine d (transform.transform_error u c a).out.effects
  unfolding transform.transform_error
  error-fine d u c a half none = rw none (tt, (tt, (λ same. or_three d (is_same r a.slots.readable) false d (half same), tt)))

  terminate-fine : (d : Bool) (u : TransformId) (a : transform.Acts) → (is_same_transform t u ≡ true → is_same r a.slots.readable ≡ true) → a.out.effects ≡ [] → Fine d (transform.terminate u a).out.effects
  unfolding transform.terminate
  terminate-fine d u a half none = rw none (tt, (tt, (λ same. or_three d (is_same r a.slots.readable) false d (half same), tt)))

  settle-fine : (d : Bool) (u : TransformId) (p : PromiseId) (c : Plain) (o : Result Plain Plain) (a : transform.Acts) → (is_same_transform t u ≡ true → d ≡ true) → a.out.effects ≡ [] → Fine d (transform.error_writable_and_settle u p c o a).out.effects
  settle-fine d u p c o a k none = rw none (tt, (λ same. or_left d false (k same), (tt, tt)))

  cancelled-fine : (d : Bool) (u : TransformId) (p : PromiseId) (halves : Halves) (c : Plain) (a : transform.Acts) (state : WritableState) → (is_same_transform t u ≡ true → d ≡ true) → a.out.effects ≡ [] → Fine d (transform.cancelled_in u p halves c a state).out.effects
  cancelled-fine d u p halves c a Writable k none = settle-fine d u p c transform.done a k none
  cancelled-fine d u p halves c a Erroring k none = settle-fine d u p c transform.done a k none
  cancelled-fine d u p halves c a Closed k none = settle-fine d u p c transform.done a k none
  cancelled-fine d u p halves c a Errored k none = rw none (tt, tt)

  cancel-fine : (d : Bool) (u : TransformId) (p : PromiseId) (halves : Halves) (c : Plain) (o : Result Plain Plain) (a : transform.Acts) → (is_same_transform t u ≡ true → d ≡ true) → a.out.effects ≡ [] → Fine d (transform.cancel_settled u p halves c o a).out.effects
  unfolding transform.cancel_settled
  cancel-fine d u p halves c (Ok v) a k none = cancelled-fine d u p halves c a halves.writable_state k none
  cancel-fine d u p halves c (Err e) a k none = settle-fine d u p e (Err e) a k none

  by-transform : (u : TransformId) (operation : TransformOperation) (s : Slots) (es : List Effect) (o : Option transform.Slots) → slice_get s.transforms u.0 ≡ o → Reads t r s → Uncancelled s (OnTransform u operation ∷ es)
      → Fine (not (can r s)) (on_transform_at (λ halves. transform_operation u halves operation) u s o).caused
  by-transform u operation s es None is h k = tt
  by-transform u (names.Error c) s es (Some x) is h k =
      error-fine (not (can r s)) u c (record { slots = x; out = found s }) (λ same. rw (mine t r s u x h is same).0 (is_same-refl r)) refl
  by-transform u names.Terminate s es (Some x) is h k =
      terminate-fine (not (can r s)) u (record { slots = x; out = found s }) (λ same. rw (mine t r s u x h is same).0 (is_same-refl r)) refl
  by-transform u (names.CancelSettled p c o) s es (Some x) is h k =
      cancel-fine (not (can r s)) u p (halves_at x s) c o (record { slots = x; out = found s }) (λ same. dead (can r s) refl same) refl
    where
      dead : (b : Bool) → b ≡ can r s → is_same_transform t u ≡ true → not b ≡ true
      dead false e same = refl
      dead true e same = let m = k (sym e) in let n : 1 + none_of t s es ≡ 0 = rw same at m.1 in absurd (omega arith)
  by-transform u operation s es (Some x) is h k = plain-fine (not (can r s)) _ (resting-plain u (halves_at x s) operation (record { slots = x; out = found s }) (λ u. u) refl)

  -- each effect

  streams-same : (e : Effect) (s : Slots) → IsTransforms e → can r (row e s).slots ≡ can r s
  streams-same e s n = rw (readable-stays r e s (λ o is. no e o n is)) refl
    where
      no : (e : Effect) (o : ReadableOperation) → IsTransforms e → e ≡ OnReadable r o → ⊥
      no (OnTransform u operation) o n is = cc
      no (OnReadable j o') o n is = absurd n
      no _ o n is = absurd n

  caused-fine : (e : Effect) (s : Slots) (es : List Effect) → Reads t r s → Uncancelled s (e ∷ es) → Fine (not (can r (row e s).slots)) (row e s).caused
  unfolding row
  caused-fine (OnTransform u operation) s es h k =
      fine-as (not (can r s)) (not (can r (row (OnTransform u operation) s).slots)) _ (λ d. rw (streams-same (OnTransform u operation) s tt) d) (by-transform u operation s es (slice_get s.transforms u.0) refl h k)
  caused-fine e s es h k = plain-fine (not (can r (row e s).slots)) (row e s).caused (row-causes IsPlain e s (plain-causes e tt))

  ended-by : (operation : ReadableOperation) (s : Slots) → ends (OnReadable r operation) ≡ true → can r (row (OnReadable r operation) s).slots ≡ false
  unfolding row
  ended-by operation s k =
      either (λ (d : Done). can r d.slots ≡ false) (has_byte r s) (on_byte (byte_readable_operation r operation) r s) (on_readable (readable_operation r operation) r s)
      (λ is. ap (λ x. can_close_or_enqueue x) (on_byte-readable (byte_readable_operation r operation) r s r ∙ byte-unread r s is))
      (λ isnt. either (λ (d : Done). can r d.slots ≡ false) (has_readable r s) (put_readable r s (readable_operation r operation (readable_acts r s))) (nothing s)
      (λ there.
      let at : readable_at r (put_readable r s (readable_operation r operation (readable_acts r s))).slots ≡ (readable_operation r operation (readable_acts r s)).slots = ap as_readable (rw there at (on_readable-same (readable_operation r operation) r s there)) in
      rw at (ending operation (readable_acts r s) k)) (λ none. rw (no_readable_there (slice_get s.streams r.0) none) refl))
    where
      ending : (operation : ReadableOperation) (a : readable.Acts) → ends (OnReadable r operation) ≡ true → can_close_or_enqueue (readable_operation r operation a).slots ≡ false
      ending Close a k = close-shuts r a
      ending (Error c) a k = error-shuts r c a
      ending _ a k = cc

  -- once it is performed, the stream is shut where it was or the effect shuts it
  pub shut-by : (e : Effect) (s : Slots) → not (can r s) || ends e ≡ true → not (can r (row e s).slots) ≡ true
  shut-by e s k = by (can r s) (ends e) refl refl k
    where
      shut_now : can r (row e s).slots ≡ false → not (can r (row e s).slots) ≡ true
      shut_now f = rw f refl

      here : (e : Effect) → ends e ≡ true → can r (row e s).slots ≡ false
      here (OnReadable j Close) f = subst (λ (k : StreamId). can r (row (OnReadable k Close) s).slots ≡ false) (same_id r j f) (ended-by Close s (is_same-refl r))
      here (OnReadable j (Error c)) f = subst (λ (k : StreamId). can r (row (OnReadable k (Error c)) s).slots ≡ false) (same_id r j f) (ended-by (Error c) s (is_same-refl r))
      here _ f = cc

      by : (a b : Bool) → a ≡ can r s → b ≡ ends e → not a || b ≡ true → not (can r (row e s).slots) ≡ true
      by false b f g k = shut_now (row-shut r e s (sym f))
      by true true f g k = shut_now (here e (sym g))
      by true false f g k = cc

  pub row-fine : (e : Effect) (s : Slots) (es : List Effect) → Reads t r s → Uncancelled s (e ∷ es) → Fine (not (can r s)) (e ∷ es) → Fine (not (can r (row e s).slots)) ((row e s).caused ++ es)
  row-fine e s es h k f =
      fine-append (not (can r (row e s).slots)) (row e s).caused es (caused-fine e s es h k) (fine-as (not (can r s) || ends e) (not (can r (row e s).slots)) es (shut-by e s) f.1)

  -- the writes of the transform stream are unblocked where the readable half can take none
  pub unblocks-shut : (s : Slots) (es : List Effect) → Fine (not (can r s)) (OnTransform t names.Unblock ∷ es) → can r s ≡ false
  unblocks-shut s es f = by (can r s) refl
    where
      self : (k : ℕ) → nat_eq k k ≡ true
      self k = grind arith

      by : (b : Bool) → b ≡ can r s → can r s ≡ false
      by false e = sym e
      by true e = let no : not (can r s) ≡ true = f.0 (self t.0) in let m : not true ≡ true = rw (← e) at no in cc
