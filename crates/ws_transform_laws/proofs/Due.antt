-- A chunk that is about to be transformed stands at the front of the agenda alone, and while it does the readable half wants one.
use Rattle.std.proofs.Common.{◌≡◌, Bool, true, false, List, [], ◌∷◌, ◌++◌, Option, Some, None, Result, Ok, Err, slice_get, refl, ap, ◌∙◌, arith}
use Rattle.ws_value.specs.declared.{ids.PipeId.{PipeId}, ids.PromiseId.{PromiseId}, ids.StreamId.{StreamId}, value.Plain.{Plain}, value.Plain.TheVariants.{Undefined}, value.Value.{Value}}
use Rattle.ws_steps.specs.declared.calls.{Call.{Call}}
use Rattle.ws_steps.specs.declared.effects.{Effect.{Effect}, Owner.{Owner}, Owner.TheVariants.{Host, HalfOf, BranchOf, EndOf}, Use.{Use}}
use Rattle.ws_steps.specs.declared.effects.Effect.TheVariants.{Readable as OnReadable, Writable as OnWritable, Pipe as OnPipe, Signal as OnSignal, Transform as OnTransform, Tee as OnTee, Port as OnPort, StartAlgorithm, PullAlgorithm, CancelAlgorithm, WriteAlgorithm, CloseAlgorithm, AbortAlgorithm, ChunkSteps, CloseSteps, ErrorSteps}
use Rattle.ws_steps.specs.declared.pipes.{SignalOperation.{SignalOperation}, SignalOperation.TheVariants.{Add, Forget, Trigger}}
use Rattle.ws_steps.specs.declared.promises.{Job.{Job}}
use Rattle.ws_steps.specs.declared.promises.Job.TheVariants.{Reaction as ReactionJob}
use Rattle.ws_steps.specs.declared.promises.Step.TheVariants.{TransformChanged}
use Rattle.ws_steps.specs.declared.readable.ReadRequest.{ReadRequest}
use Rattle.ws_steps.specs.declared.readable.ReadRequest.TheVariants.{Promise, Pipe as PipeRequest, Tee as TeeRequest}
use Rattle.ws_steps.specs.declared.transform.{Halves.{Halves}, Kind.{Kind}, Kind.TheVariants.{Identity, Host as HostKind}, Taker.{Taker}, Taker.TheVariants.{ToHost, ToTransform, ToPort}, TransformId.{TransformId}, TransformOperation.{TransformOperation}}
use Rattle.ws_steps.specs.declared.transform.TransformOperation.TheVariants as names
use Rattle.ws_steps.specs.declared.writable.{WritableOperation.TheVariants.{HandOn}, WriteRecord.{WriteRecord}, WriteRecord.TheVariants.{Chunk, InFlight, CloseMark}}
use Rattle.ws_steps.specs.declared.writable.WritableState.{WritableState}
use Rattle.ws_steps.specs.declared.writable.WritableState.TheVariants.{Writable, Erroring, Errored, Closed}
use Rattle.ws_steps.specs.Begun.{Begun}
use Rattle.ws_steps.specs.Calls.{begin}
use Rattle.ws_steps.specs.Jobs.{job_effects, resolved}
use Rattle.ws_steps.specs.Operations.{writable_operation, transform_operation}
use Rattle.ws_steps.specs.Queues.{first_value}
use Rattle.ws_steps.specs.Slots.{Slots, Done, nothing, found, halves_at, owner_at, as_transform, has_writable, put_writable, on_transform_at}
use Rattle.ws_steps.specs.Transform as transform
use Rattle.ws_steps.specs.Turns.{row, write_algorithm}
use Rattle.ws_steps.specs.Writable as writable
use Rattle.ws_laws.proofs.EachCall.{each_call}
use Rattle.ws_laws.proofs.Lists.{Each, each-append}
use Rattle.ws_laws.proofs.PipeDoes.{PipeCauses}
use Rattle.ws_laws.proofs.Causes.{ChunkCauses, EndCauses, ErrorCauses, SignalCauses, Causes, row-causes}
use Rattle.ws_laws.proofs.Tables.{either, eq_numbers, writable_acts}
use Rattle.ws_laws.proofs.TransformDoes.{TransformCauses}
use Rattle.ws_transform_laws.specs.TransformHistory.{is_same_transform, is_changed}
use Rattle.ws_transform_laws.proofs.Backpressure.{pressed}
use Rattle.ws_transform_laws.proofs.Prompt.{IsPlain, may_carry, plain-caused, call-plain, job-plain}
use Rattle.ws_steps.specs.declared.effects.Effect.TheVariants.{Byte, CloseStepsWith}
use Rattle.ws_value.specs.declared.ids.TeeId.{TeeId}
use Rattle.ws_value.specs.declared.ids.PortId.{PortId}
use Rattle.ws_laws.proofs.TeeDoes.{TeeCauses}
use Rattle.ws_laws.proofs.PortDoes.{PortCauses}

-- an effect by which no write goes on
abbrev pub IsNoGoing : Effect → Type 0
IsNoGoing (OnTransform u (names.WriteGoesOn d)) = ⊥
IsNoGoing _ = Unit {0}

chunk-rests : (v : Value) (r : ReadRequest) → ChunkCauses IsNoGoing v r
chunk-rests v (Promise p) = tt
chunk-rests v (PipeRequest p) = tt
chunk-rests v (TeeRequest k) = tt

end-rests : (r : ReadRequest) → EndCauses IsNoGoing r
end-rests (Promise p) = tt
end-rests (PipeRequest p) = tt
end-rests (TeeRequest k) = tt

error-rests : (r : ReadRequest) → ErrorCauses IsNoGoing r
error-rests (Promise p) = tt
error-rests (PipeRequest p) = tt
error-rests (TeeRequest k) = tt

signal-rests : (operation : SignalOperation) → SignalCauses IsNoGoing operation
signal-rests (Add p) = tt
signal-rests (Forget p) = tt
signal-rests (Trigger r) = λ p. tt

pipe-rests : (p : PipeId) (source dest : StreamId) (e : Effect) → PipeCauses p source dest e → IsNoGoing e
pipe-rests p source dest (OnTransform u operation) c = absurd c
pipe-rests p source dest _ c = tt

transform-rests : (u : TransformId) (w r : StreamId) (e : Effect) → TransformCauses u w r e → IsNoGoing e
transform-rests u w r (OnTransform y (names.WriteGoesOn d)) c = absurd c
transform-rests u w r _ c = tt

tee-rests : (u : TeeId) (source first second : StreamId) (e : Effect) → TeeCauses u source first second e → IsNoGoing e
tee-rests u source first second (OnTransform y operation) c = absurd c
tee-rests u source first second _ c = tt

port-rests : (u : PortId) (stream : StreamId) (e : Effect) → PortCauses u stream e → IsNoGoing e
port-rests u stream (OnTransform y operation) c = absurd c
port-rests u stream _ c = tt

rests-causes : (e : Effect) → Causes IsNoGoing e
rests-causes (OnReadable j operation) = record { pull = tt; cancel = λ c p. tt; chunk = λ q v. tt; close = λ q. tt; error = λ q e. tt }
rests-causes (Byte j operation) = record { readable = record { pull = tt; cancel = λ c p. tt; chunk = λ q v. tt; close = λ q. tt; error = λ q e. tt }; close_with = λ r b. tt }
rests-causes (OnWritable j operation) = record { write = tt; close = tt; abort = λ c p. tt; hand_on = λ v. tt; take = λ v u d. tt; post = λ v u d. tt }
rests-causes (OnPipe p operation) = pipe-rests p
rests-causes (OnSignal a operation) = signal-rests operation
rests-causes (OnTransform u operation) = transform-rests u
rests-causes (OnTee u operation) = tee-rests u
rests-causes (OnPort u operation) = port-rests u
rests-causes (StartAlgorithm j step start) = (λ g u. tt, λ c u. tt)
rests-causes (PullAlgorithm j) = (λ c u. tt, (λ y u. tt, (λ k. tt, (λ u. tt, λ q. tt))))
rests-causes (CancelAlgorithm j c p) = (λ c u. tt, (λ y u. tt, (λ k half u. tt, λ y u. tt)))
rests-causes (WriteAlgorithm j) = (tt, (λ y u. tt, λ z u. tt))
rests-causes (CloseAlgorithm j) = (λ c u. tt, (λ y u. tt, λ z u. tt))
rests-causes (AbortAlgorithm j c p) = (λ c u. tt, (λ y u. tt, λ z u. tt))
rests-causes (ChunkSteps j q v) = chunk-rests v q
rests-causes (CloseSteps j q) = end-rests q
rests-causes (CloseStepsWith j q b) = end-rests q
rests-causes (ErrorSteps j q e) = error-rests q
rests-causes _ = tt

abbrev is_going : Job → Bool
is_going (ReactionJob (TransformChanged u d) o derived) = true
is_going _ = false

job-rests : (job : Job) → is_going job ≡ false → Each IsNoGoing (job_effects job)
job-rests job e = grind (arith, e)

module _ (t : TransformId) where
  -- an effect by which a chunk of the transform stream is transformed
  abbrev pub due_of : Effect → Bool
  due_of (OnTransform u (names.WriteGoesOn d)) = is_same_transform t u
  due_of (OnTransform u (names.TransformChunk v d)) = is_same_transform t u
  due_of (OnWritable j (HandOn (ToTransform u d))) = is_same_transform t u
  due_of _ = false

  abbrev pub NotDue : List Effect → Type 0
  NotDue es = Each (λ e. due_of e ≡ false) es

  plain-none : (e : Effect) → IsPlain e → IsNoGoing e → due_of e ≡ false
  plain-none (OnTransform u (names.WriteGoesOn d)) p n = absurd n
  plain-none (OnTransform u (names.TransformChunk v d)) p n = absurd p
  plain-none (OnWritable j (HandOn taker)) p n = absurd p
  plain-none _ p n = refl

  plain-not-due : (es : List Effect) → Each IsPlain es → Each IsNoGoing es → NotDue es
  plain-not-due [] p n = tt
  plain-not-due (e ∷ es) p n = (plain-none e p.0 n.0, plain-not-due es p.1 n.1)

  pub call-due : (c : Call) (s : Slots) → NotDue (begin c s).done.caused
  call-due c s = plain-not-due (begin c s).done.caused (call-plain c s) (each_call (λ (b : Begun). Each IsNoGoing b.done.caused) c s (grind arith))

  -- one stands at the front alone, and where it does, this holds
  abbrev pub Ready : Type 0 → List Effect → Type 0
  Ready W [] = Unit {0}
  Ready W (e ∷ es) = (due_of e ≡ true → W) × NotDue es

  pub not-due-ready : (W : Type 0) (es : List Effect) → NotDue es → Ready W es
  not-due-ready W [] n = tt
  not-due-ready W (e ∷ es) n = (λ d. absurd (let a = n.0 in cc), n.1)

  pub ready-append : (W : Type 0) (cs es : List Effect) → Ready W cs → NotDue es → Ready W (cs ++ es)
  ready-append W [] es r n = not-due-ready W es n
  ready-append W (c ∷ cs) es r n = (r.0, each-append (λ e. due_of e ≡ false) cs es r.1 n)

  resolved-due : (derived : Option PromiseId) (o : Result Plain Plain) → NotDue (resolved derived o)
  resolved-due None o = tt
  resolved-due (Some p) o = (refl, tt)

  pub job-ready : (W : Type 0) (job : Job) → (is_changed t (Some job) ≡ true → W) → Ready W (job_effects job)
  job-ready W (ReactionJob (TransformChanged u d) (Ok v) derived) w = (w, resolved-due derived (Ok Undefined))
  job-ready W (ReactionJob (TransformChanged u d) (Err c) derived) w =
      let n : NotDue (job_effects (ReactionJob (TransformChanged u d) (Err c) derived)) = (refl, resolved-due derived (Ok Undefined)) in not-due-ready W (job_effects (ReactionJob (TransformChanged u d) (Err c) derived)) n
  job-ready W job w = not-due-ready W (job_effects job) (plain-not-due (job_effects job) (job-plain job) (job-rests job refl))

  -- what each effect causes

  performs : (W : Type 0) (u : TransformId) (w : Use) (a : transform.Acts) → a.out.effects ≡ [] → (is_same_transform t u ≡ true → W) → Ready W (transform.perform_transform u w a).out.effects
  performs W u w a none k = rw none (k, (refl, tt))

  goes-in : (W : Type 0) (u : TransformId) (halves : Halves) (d : PromiseId) (a : transform.Acts) (state : WritableState) → a.out.effects ≡ [] → (is_same_transform t u ≡ true → W) → Ready W (transform.write_in u halves d a state).out.effects
  goes-in W u halves d a Writable none k = performs W u _ a none k
  goes-in W u halves d a Erroring none k = rw none (λ e. absurd (cc), tt)
  goes-in W u halves d a Errored none k = performs W u _ a none k
  goes-in W u halves d a Closed none k = performs W u _ a none k

  transforms-by : (u : TransformId) (halves : Halves) (v : Value) (d : PromiseId) (a : transform.Acts) (kind : Kind) → NotDue (transform.transform_by u halves v d a kind)
  transforms-by u halves v d a HostKind = (refl, tt)
  transforms-by u halves v d a Identity = by halves.can_enqueue
    where
      by : (can : Bool) → NotDue (transform.transform_identity u v d a can)
      by true = (refl, (refl, (refl, tt)))
      by false = (refl, tt)

  -- a write that needs not wait
  abbrev Sinks : TransformId → Slots → Type 0 → Type 0
  Sinks u s W = is_same_transform t u ≡ true → pressed t s ≡ false → W

  sink-ready : (W : Type 0) (s : Slots) (u : TransformId) (w : Use) (x : transform.Slots) → slice_get s.transforms u.0 ≡ Some x → Sinks u s W → Ready W (transform.sink_write u w (record { slots = x; out = found s })).out.effects
  unfolding transform.sink_write
  sink-ready W s u w x at k =
      let a : transform.Acts = record { slots = x; out = found s } in
      either (λ (b : transform.Acts). Ready W b.out.effects) x.backpressure (transform.wait_for_change u w a) (transform.perform_transform u w a)
      (λ e. let n : NotDue (transform.wait_for_change u w a).out.effects = (refl, (refl, tt)) in not-due-ready W (transform.wait_for_change u w a).out.effects n)
      (λ e. performs W u w a refl (λ same. k same (
      let is : t.0 ≡ u.0 = eq_numbers t.0 u.0 same in
      ap (λ (o : Option transform.Slots). (as_transform o).backpressure) (ap (slice_get s.transforms) is ∙ at) ∙ e)))

  abbrev On : TransformId → TransformOperation → Slots → Option transform.Slots → Done
  On u operation s o = on_transform_at (λ halves. transform_operation u halves operation) u s o

  sink-on : (W : Type 0) (s : Slots) (u : TransformId) (w : Use) (o : Option transform.Slots) → slice_get s.transforms u.0 ≡ o → Sinks u s W → Ready W (On u (names.SinkWrite w) s o).caused
  sink-on W s u w None at k = tt
  sink-on W s u w (Some x) at k = sink-ready W s u w x at k

  goes-on : (W : Type 0) (s : Slots) (u : TransformId) (d : PromiseId) (o : Option transform.Slots) → (is_same_transform t u ≡ true → W) → Ready W (On u (names.WriteGoesOn d) s o).caused
  unfolding transform.write_goes_on
  goes-on W s u d None k = tt
  goes-on W s u d (Some x) k = goes-in W u (halves_at x s) d (record { slots = x; out = found s }) (halves_at x s).writable_state refl k

  chunk-on : (W : Type 0) (s : Slots) (u : TransformId) (v : Value) (d : PromiseId) (o : Option transform.Slots) → Ready W (On u (names.TransformChunk v d) s o).caused
  unfolding transform.transform_chunk
  chunk-on W s u v d None = tt
  chunk-on W s u v d (Some x) = not-due-ready W _ (transforms-by u (halves_at x s) v d (record { slots = x; out = found s }) x.kind)

  taken-ready : (W : Type 0) (j : StreamId) (taker : Taker) (v : Value) → (due_of (OnWritable j (HandOn taker)) ≡ true → W) → Ready W (writable.taken_by j v taker ∷ [])
  taken-ready W j ToHost v k = (λ e. absurd (cc), tt)
  taken-ready W j (ToTransform u d) v k = (k, tt)
  taken-ready W j (ToPort c d) v k = (λ e. absurd (cc), tt)

  first-ready : (W : Type 0) (j : StreamId) (taker : Taker) (a : writable.Acts) (first : Option WriteRecord) → a.out.effects ≡ [] → (due_of (OnWritable j (HandOn taker)) ≡ true → W) → Ready W (writable.hand_on_first j taker a first).out.effects
  first-ready W j taker a None none k = rw none tt
  first-ready W j taker a (Some CloseMark) none k = rw none tt
  first-ready W j taker a (Some InFlight) none k = rw none tt
  first-ready W j taker a (Some (Chunk v)) none k = rw none (taken-ready W j taker v k)

  hand_on-ready : (W : Type 0) (s : Slots) (j : StreamId) (taker : Taker) → (due_of (OnWritable j (HandOn taker)) ≡ true → W) → Ready W (row (OnWritable j (HandOn taker)) s).caused
  unfolding row writable.hand_on
  hand_on-ready W s j taker k =
      either (λ (d : Done). Ready W d.caused) (has_writable j s) (put_writable j s (writable_operation j (HandOn taker) (writable_acts j s))) (nothing s)
      (λ there. first-ready W j taker (writable_acts j s) (first_value (writable_acts j s).slots.queue) refl k) (λ none. tt)

  write-ready : (W : Type 0) (j : StreamId) (owner : Owner) → Ready W (write_algorithm j owner)
  write-ready W j Host = (λ e. absurd (cc), tt)
  write-ready W j (HalfOf u) = (λ e. absurd (cc), tt)
  write-ready W j (BranchOf u half) = (λ e. absurd (cc), tt)
  write-ready W j (EndOf c) = (λ e. absurd (cc), tt)

  plain-ready : (W : Type 0) (e : Effect) (s : Slots) → may_carry e ≡ false → Ready W (row e s).caused
  plain-ready W e s c = not-due-ready W (row e s).caused (plain-not-due (row e s).caused (plain-caused e s c) (row-causes IsNoGoing e s (rests-causes e)))

  -- an effect of the transform stream that needs not wait
  abbrev pub SinksOf : Effect → Slots → Type 0 → Type 0
  SinksOf (OnTransform u (names.SinkWrite w)) s W = Sinks u s W
  SinksOf _ s W = Unit {0}

  port-not_due : (c : PortId) (stream : StreamId) (e : Effect) → PortCauses c stream e → due_of e ≡ false
  port-not_due c stream (OnTransform u operation) k = absurd k
  port-not_due c stream (OnWritable j (HandOn (ToTransform u d))) k = absurd k
  port-not_due c stream _ k = refl

  pub row-due : (W : Type 0) (e : Effect) (s : Slots) → (due_of e ≡ true → W) → SinksOf e s W → Ready W (row e s).caused
  unfolding row
  row-due W (OnWritable j (HandOn taker)) s k w = hand_on-ready W s j taker k
  row-due W (OnTransform u (names.SinkWrite x)) s k w = sink-on W s u x (slice_get s.transforms u.0) refl w
  row-due W (OnTransform u (names.WriteGoesOn d)) s k w = goes-on W s u d (slice_get s.transforms u.0) k
  row-due W (OnTransform u (names.TransformChunk v d)) s k w = chunk-on W s u v d (slice_get s.transforms u.0)
  row-due W (WriteAlgorithm j) s k w = write-ready W j (owner_at j s)
  row-due W (OnPort c operation) s k w = not-due-ready W (row (OnPort c operation) s).caused (row-causes (λ e. due_of e ≡ false) (OnPort c operation) s (port-not_due c))
  row-due W e s k w = plain-ready W e s refl
