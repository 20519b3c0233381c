-- A chunk that is handed on is transformed at once: the effects by which it goes from the writable half to the transform algorithm, and to the
-- host, stand at the front of the agenda alone, and each names the halves of one transform stream.
use Rattle.std.proofs.Common.{◌≡◌, Bool, true, false, List, [], ◌∷◌, ◌++◌, Option, Some, None, slice_get, refl, arith}
use Rattle.ws_value.specs.declared.ids.{PipeId.{PipeId}, PromiseId.{PromiseId}, StreamId.{StreamId}}
use Rattle.ws_value.specs.declared.value.{Plain.{Plain}, Value.{Value}}
use Rattle.ws_steps.specs.declared.calls.{Call.{Call}, StartBy.{StartBy}, StartBy.TheVariants.{Now, Later}, HostCall.TheVariants.{Transform as HostTransform}}
use Rattle.ws_steps.specs.declared.effects.{Effect.{Effect}, Owner.{Owner}, Owner.TheVariants.{Host, HalfOf, BranchOf, EndOf}, Use.{Use}, Use.TheVariants.{Resolve}}
use Rattle.ws_steps.specs.declared.effects.Effect.TheVariants.{Readable as OnReadable, Writable as OnWritable, Pipe as OnPipe, Signal as OnSignal, Transform as OnTransform, Tee as OnTee, Port as OnPort, StartAlgorithm, PullAlgorithm, CancelAlgorithm, WriteAlgorithm, CloseAlgorithm, AbortAlgorithm, ChunkSteps, CloseSteps, ErrorSteps, CallHost}
use Rattle.ws_steps.specs.declared.pipes.{SignalOperation.{SignalOperation}, SignalOperation.TheVariants.{Add, Forget, Trigger}}
use Rattle.ws_steps.specs.declared.promises.{Job.{Job}, Step.{Step}}
use Rattle.ws_steps.specs.declared.readable.{ReadRequest.{ReadRequest}, ReadRequest.TheVariants.{Promise, Pipe as PipeRequest, Tee as TeeRequest}}
use Rattle.ws_steps.specs.declared.transform.{Halves.{Halves}, Kind.{Kind}, Kind.TheVariants.{Identity, Host as HostKind}, Taker.{Taker}, Taker.TheVariants.{ToHost, ToTransform, ToPort}, TransformId.{TransformId}, TransformOperation.{TransformOperation}}
use Rattle.ws_steps.specs.declared.transform.TransformOperation.TheVariants as names
use Rattle.ws_steps.specs.declared.writable.{WritableOperation.{WritableOperation}, WriteRecord.{WriteRecord}, WriteRecord.TheVariants.{Chunk, InFlight, CloseMark}}
use Rattle.ws_steps.specs.declared.writable.WritableOperation.TheVariants.{HandOn}
use Rattle.ws_steps.specs.declared.writable.WritableState.{WritableState}
use Rattle.ws_steps.specs.declared.writable.WritableState.TheVariants.{Writable, Erroring, Errored, Closed}
use Rattle.ws_steps.specs.Calls.{begin}
use Rattle.ws_steps.specs.Jobs.{job_effects}
use Rattle.ws_steps.specs.Operations.{writable_operation, transform_operation}
use Rattle.ws_steps.specs.Queues.{first_value}
use Rattle.ws_steps.specs.Promises.{after_next_job}
use Rattle.ws_steps.specs.Slots.{Slots, Done, with_promises, owner_at, found, halves_at, has_writable, nothing, put_writable, on_transform_at}
use Rattle.ws_steps.specs.Transform as transform
use Rattle.ws_steps.specs.Turns.{row, start_algorithm, pull_algorithm, cancel_algorithm, write_algorithm, close_algorithm, abort_algorithm}
use Rattle.ws_steps.specs.Effects.{Out}
use Rattle.ws_steps.specs.Writable as writable
use Rattle.ws_laws.proofs.Begin.{IsFirst, Enqueues, Never, begin-first, job-first}
use Rattle.ws_laws.proofs.Halves.{Halved, halved-stays}
use Rattle.ws_laws.proofs.Lists.{Each, each-map}
use Rattle.ws_laws.proofs.PipeDoes.{PipeCauses}
use Rattle.ws_laws.proofs.Causes.{ChunkCauses, EndCauses, ErrorCauses, SignalCauses, row-causes}
use Rattle.ws_laws.proofs.Shapes.{ReadableOf, WritableOf, TransformShape, stream_shapes, transform_shapes, transform_shape, map-there, row-stream_shapes, row-transform_shapes}
use Rattle.ws_laws.proofs.Tables.{either, writable_acts}
use Rattle.ws_laws.proofs.Walker.{Stays}
use Rattle.ws_laws.proofs.WritableDoes.{IsHandOn, others-do}
use Rattle.ws_steps.specs.declared.effects.Effect.TheVariants.{Byte, CloseStepsWith}
use Rattle.ws_value.specs.declared.ids.TeeId.{TeeId}
use Rattle.ws_value.specs.declared.ids.PortId.{PortId}
use Rattle.ws_laws.proofs.TeeDoes.{TeeCauses}
use Rattle.ws_steps.specs.Cross as cross
use Rattle.ws_steps.specs.Slots.{on_port_at, clones_at}
use Rattle.ws_steps.specs.Operations.{port_operation}
use Rattle.ws_steps.specs.declared.effects.Effect.TheVariants.{Give}
use Rattle.ws_steps.specs.declared.effects.Gift.TheVariants.{Fresh}
use Rattle.ws_steps.specs.declared.port.PortOperation.{PortOperation}
use Rattle.ws_steps.specs.declared.port.PortOperation.TheVariants.{WriteGoesOn as WriteByPortGoesOn}
use Rattle.ws_steps.specs.declared.port.Side.{Side}
use Rattle.ws_value.specs.declared.value.Message.{Message}
use Rattle.ws_value.specs.declared.value.Message.TheVariants.{Error as ErrorMessage}
use Rattle.ws_laws.proofs.Ended.{Ended, ended-stays, end_shape}
use Rattle.ws_transform_laws.proofs.Branches.{at-end}
use Rattle.std.proofs.Common.{Err}
use Rattle.std.proofs.Common.{ap}

-- whether an effect carries a chunk from the writable half of a transform stream, or to the host's algorithm of one
abbrev pub IsPlain : Effect → Type 0
IsPlain (OnWritable j (HandOn taker)) = ⊥
IsPlain (OnTransform u (names.TransformChunk v d)) = ⊥
IsPlain (CallHost (HostTransform j v) u) = ⊥
IsPlain _ = Unit {0}

-- an owner other than a transform stream and a port
abbrev pub IsNoHalf : Owner → Type 0
IsNoHalf Host = Unit {0}
IsNoHalf (HalfOf t) = ⊥
IsNoHalf (BranchOf t half) = Unit {0}
IsNoHalf (EndOf c) = ⊥

-- it names a stream whose it is
abbrev pub Placed : Slots → Effect → Type 0
Placed s (OnWritable j (HandOn ToHost)) = IsNoHalf (owner_at j s)
Placed s (OnWritable j (HandOn (ToTransform u d))) = slice_get (stream_shapes s) j.0 ≡ Some (WritableOf (HalfOf u))
Placed s (OnWritable j (HandOn (ToPort c d))) = (side : Side) × (slice_get (stream_shapes s) j.0 ≡ Some (end_shape c side))
Placed s (OnTransform u (names.TransformChunk v d)) = (x : TransformShape) × (slice_get (transform_shapes s) u.0 ≡ Some x)
Placed s (CallHost (HostTransform j v) w) = (u : TransformId) × (slice_get (stream_shapes s) j.0 ≡ Some (ReadableOf (HalfOf u)))
Placed s _ = Unit {0}

-- none stands behind another effect
abbrev pub Prompt : Slots → List Effect → Type 0
Prompt s [] = Unit {0}
Prompt s (e ∷ es) = Placed s e × Each IsPlain es

plain-placed : (s : Slots) (e : Effect) → IsPlain e → Placed s e
plain-placed s (OnWritable j (HandOn taker)) p = absurd p
plain-placed s (OnTransform u (names.TransformChunk v d)) p = absurd p
plain-placed s (CallHost (HostTransform j v) w) p = absurd p
plain-placed s _ p = tt

plain-prompt : (s : Slots) (es : List Effect) → Each IsPlain es → Prompt s es
plain-prompt s [] p = tt
plain-prompt s (e ∷ es) p = (plain-placed s e p.0, p.1)

plain-append : (es fs : List Effect) → Each IsPlain es → Each IsPlain fs → Each IsPlain (es ++ fs)
plain-append [] fs p q = q
plain-append (e ∷ es) fs p q = (p.0, plain-append es fs p.1 q)

prompt-append : (s : Slots) (cs es : List Effect) → Prompt s cs → Each IsPlain es → Prompt s (cs ++ es)
prompt-append s [] es c p = plain-prompt s es p
prompt-append s (c ∷ cs) es k p = (k.0, plain-append cs es k.1 p)

-- what each effect causes

chunk-plain : (v : Value) (r : ReadRequest) → ChunkCauses IsPlain v r
chunk-plain v (Promise p) = tt
chunk-plain v (PipeRequest p) = tt
chunk-plain v (TeeRequest k) = tt

end-plain : (r : ReadRequest) → EndCauses IsPlain r
end-plain (Promise p) = tt
end-plain (PipeRequest p) = tt
end-plain (TeeRequest k) = tt

error-plain : (r : ReadRequest) → ErrorCauses IsPlain r
error-plain (Promise p) = tt
error-plain (PipeRequest p) = tt
error-plain (TeeRequest k) = tt

signal-plain : (operation : SignalOperation) → SignalCauses IsPlain operation
signal-plain (Add p) = tt
signal-plain (Forget p) = tt
signal-plain (Trigger r) = λ p. tt

pipe-plain : (p : PipeId) (source dest : StreamId) (e : Effect) → PipeCauses p source dest e → IsPlain e
pipe-plain p source dest (OnWritable j (HandOn taker)) c = absurd c
pipe-plain p source dest (OnTransform u operation) c = absurd c
pipe-plain p source dest (CallHost call u) c = absurd c
pipe-plain p source dest _ c = tt

tee-plain : (u : TeeId) (source first second : StreamId) (e : Effect) → TeeCauses u source first second e → IsPlain e
tee-plain u source first second (OnWritable j operation) c = absurd c
tee-plain u source first second (OnTransform y operation) c = absurd c
tee-plain u source first second (CallHost call w) c = absurd c
tee-plain u source first second _ c = tt

-- operations of a port that may carry a chunk
abbrev pub hands_on : PortOperation → Bool
hands_on (WriteByPortGoesOn d) = true
hands_on _ = false

post-plain : (c : PortId) (m : Message) (a : cross.Acts) → Each IsPlain a.out.effects → Each IsPlain (cross.post c m a).out.effects
post-plain c m a h = either (λ (b : cross.Acts). Each IsPlain b.out.effects) a.slots.live (cross.posting c m a) a (λ e. h) (λ e. h)

port-plain : (c : PortId) (clones : Bool) (operation : PortOperation) (a : cross.Acts) → hands_on operation ≡ false → a.out.effects ≡ [] → Each IsPlain (port_operation c clones operation a).out.effects
unfolding cross.pull cross.leave cross.close cross.write cross.post_chunk cross.unblock cross.deliver
port-plain c clones operation a h none = grind (arith, h, none, post-plain)

-- operations of a transform stream that may carry a chunk
abbrev pub carries : TransformOperation → Bool
carries (names.SinkWrite u) = true
carries (names.WriteGoesOn d) = true
carries (names.TransformChunk v d) = true
carries _ = false

transform-plain : (t : TransformId) (halves : Halves) (operation : TransformOperation) (a : transform.Acts) → carries operation ≡ false → a.out.effects ≡ [] → Each IsPlain (transform_operation t halves operation a).out.effects
unfolding transform.unblock transform.transform_error transform.terminate transform.enqueue transform.enqueued transform.source_pull transform.set_backpressure transform.sink_close transform.sink_abort transform.source_cancel transform.flush_settled transform.abort_settled transform.cancel_settled
transform-plain t halves operation a c none = grind (arith, c, none)

-- a transform stream that is there has these halves

there-halves : (s : Slots) (t : TransformId) (x : transform.Slots) → Halved s → slice_get s.transforms t.0 ≡ Some x
    → (slice_get (stream_shapes s) x.readable.0 ≡ Some (ReadableOf (HalfOf t))) × (slice_get (stream_shapes s) x.writable.0 ≡ Some (WritableOf (HalfOf t)))
there-halves s t x halved is = halved.halves t (transform_shape x) (map-there transform_shape s.transforms t.0 x is)

-- a chunk is handed on, of its writable half

performs : (s z : Slots) (t : TransformId) (x : transform.Slots) (u : Use) (a : transform.Acts) → stream_shapes z ≡ stream_shapes s → Halved s → slice_get s.transforms t.0 ≡ Some x → a.slots ≡ x → a.out.effects ≡ []
    → Prompt z (transform.perform_transform t u a).out.effects
performs s z t x u a same halved is e none = rw (none, e) (rw same (there-halves s t x halved is).1, (tt, tt))

goes-in : (s z : Slots) (t : TransformId) (x : transform.Slots) (halves : Halves) (d : PromiseId) (a : transform.Acts) (state : WritableState) → stream_shapes z ≡ stream_shapes s → Halved s → slice_get s.transforms t.0 ≡ Some x → a.slots ≡ x → a.out.effects ≡ []
    → Prompt z (transform.write_in t halves d a state).out.effects
goes-in s z t x halves d a Writable same halved is e none = performs s z t x (Resolve d) a same halved is e none
goes-in s z t x halves d a Erroring same halved is e none = rw none (tt, tt)
goes-in s z t x halves d a Errored same halved is e none = performs s z t x (Resolve d) a same halved is e none
goes-in s z t x halves d a Closed same halved is e none = performs s z t x (Resolve d) a same halved is e none

transforms-by : (s z : Slots) (t : TransformId) (x : transform.Slots) (halves : Halves) (v : Value) (d : PromiseId) (a : transform.Acts) (kind : Kind) → stream_shapes z ≡ stream_shapes s → Halved s → slice_get s.transforms t.0 ≡ Some x → a.slots ≡ x
    → Prompt z (transform.transform_by t halves v d a kind)
transforms-by s z t x halves v d a HostKind same halved is e = rw e ((t, rw same (there-halves s t x halved is).0), tt)
transforms-by s z t x halves v d a Identity same halved is e = by halves.can_enqueue
  where
    by : (can : Bool) → Prompt z (transform.transform_identity t v d a can)
    by true = (tt, (tt, (tt, tt)))
    by false = (tt, tt)

transform-prompt : (s z : Slots) (t : TransformId) (x : transform.Slots) (halves : Halves) (operation : TransformOperation) (a : transform.Acts) → stream_shapes z ≡ stream_shapes s → Halved s → slice_get s.transforms t.0 ≡ Some x → a.slots ≡ x
    → a.out.effects ≡ [] → Prompt z (transform_operation t halves operation a).out.effects
unfolding transform.sink_write transform.write_goes_on transform.transform_chunk
transform-prompt s z t x halves (names.SinkWrite u) a same halved is e none =
    either (λ (b : transform.Acts). Prompt z b.out.effects) a.slots.backpressure (transform.wait_for_change t u a) (transform.perform_transform t u a)
    (λ f. rw none (tt, (tt, tt))) (λ f. performs s z t x u a same halved is e none)
transform-prompt s z t x halves (names.WriteGoesOn d) a same halved is e none = goes-in s z t x halves d a halves.writable_state same halved is e none
transform-prompt s z t x halves (names.TransformChunk v d) a same halved is e none = rw none (transforms-by s z t x halves v d a a.slots.kind same halved is e)
transform-prompt s z t x halves operation a same halved is e none = plain-prompt z _ (transform-plain t halves operation a refl none)

on_transform-prompt : (s : Slots) (t : TransformId) (operation : TransformOperation) (o : Option transform.Slots) → slice_get s.transforms t.0 ≡ o → Halved s
    → let d = on_transform_at (λ halves. transform_operation t halves operation) t s o in stream_shapes d.slots ≡ stream_shapes s → Prompt d.slots d.caused
on_transform-prompt s t operation None is halved same = tt
on_transform-prompt s t operation (Some x) is halved same = transform-prompt s (on_transform_at (λ halves. transform_operation t halves operation) t s (Some x)).slots t x (halves_at x s) operation (record { slots = x; out = found s }) same halved is refl refl

-- a chunk is taken

taken-prompt : (s z : Slots) (j : StreamId) (taker : Taker) (v : Value) → transform_shapes z ≡ transform_shapes s → Halved s → Placed s (OnWritable j (HandOn taker)) → Prompt z (writable.taken_by j v taker ∷ [])
taken-prompt s z j ToHost v same halved p = (tt, tt)
taken-prompt s z j (ToTransform u d) v same halved p = let h = halved.writable j u p in ((h.0, rw same h.1.0), tt)
taken-prompt s z j (ToPort c d) v same halved p = (tt, tt)

first-prompt : (s z : Slots) (j : StreamId) (taker : Taker) (a : writable.Acts) (first : Option WriteRecord) → transform_shapes z ≡ transform_shapes s → Halved s → Placed s (OnWritable j (HandOn taker)) → a.out.effects ≡ []
    → Prompt z (writable.hand_on_first j taker a first).out.effects
first-prompt s z j taker a None same halved p none = rw none tt
first-prompt s z j taker a (Some CloseMark) same halved p none = rw none tt
first-prompt s z j taker a (Some InFlight) same halved p none = rw none tt
first-prompt s z j taker a (Some (Chunk v)) same halved p none = rw none (taken-prompt s z j taker v same halved p)

hand_on-prompt : (s : Slots) (j : StreamId) (taker : Taker) → Halved s → Placed s (OnWritable j (HandOn taker)) → Prompt (row (OnWritable j (HandOn taker)) s).slots (row (OnWritable j (HandOn taker)) s).caused
unfolding row writable.hand_on
hand_on-prompt s j taker halved p =
    either (λ (d : Done). transform_shapes d.slots ≡ transform_shapes s → Prompt d.slots d.caused) (has_writable j s) (put_writable j s (writable_operation j (HandOn taker) (writable_acts j s))) (nothing s)
    (λ there same. first-prompt s (put_writable j s (writable_operation j (HandOn taker) (writable_acts j s))).slots j taker (writable_acts j s) (first_value (writable_acts j s).slots.queue) same halved p refl) (λ none same. tt) (row-transform_shapes (OnWritable j (HandOn taker)) s)

pub others-plain : (s : Slots) (j : StreamId) (operation : WritableOperation) → (IsHandOn operation → ⊥) → Each IsPlain (row (OnWritable j operation) s).caused
unfolding row
others-plain s j operation u =
    either (λ (d : Done). Each IsPlain d.caused) (has_writable j s) (put_writable j s (writable_operation j operation (writable_acts j s))) (nothing s)
    (λ there. others-do (λ (x : Out). Each IsPlain x.effects) j (record {
      settle = λ x p o h. h;
      fresh = λ x h. h;
      tell = λ x r h. h;
      write = λ x h. plain-append x.effects (WriteAlgorithm j ∷ []) h (tt, tt);
      close = λ x h. plain-append x.effects (CloseAlgorithm j ∷ []) h (tt, tt);
      abort = λ x r p h. plain-append x.effects (AbortAlgorithm j r p ∷ []) h (tt, tt);
    }) operation (writable_acts j s) u tt) (λ none. tt)

write-prompt : (s : Slots) (j : StreamId) (owner : Owner) → owner_at j s ≡ owner → Prompt s (write_algorithm j owner)
write-prompt s j Host e = (rw e tt, tt)
write-prompt s j (HalfOf t) e = (tt, tt)
write-prompt s j (BranchOf t half) e = (rw e tt, tt)
write-prompt s j (EndOf c) e = (tt, tt)

-- algorithms, by whose they are

start-plain : (j : StreamId) (step : Step) (s : Slots) (start : StartBy) → Each IsPlain (start_algorithm j step s start).caused
start-plain j step s Now = (tt, tt)
start-plain j step s Later = (tt, (tt, tt))

pull-plain : (j : StreamId) (u : Use) (owner : Owner) → Each IsPlain (pull_algorithm j u owner)
pull-plain j u Host = (tt, tt)
pull-plain j u (HalfOf t) = (tt, tt)
pull-plain j u (BranchOf t half) = (tt, (tt, tt))
pull-plain j u (EndOf c) = (tt, (tt, tt))

cancel-plain : (j : StreamId) (r : Plain) (u : Use) (owner : Owner) → Each IsPlain (cancel_algorithm j r u owner)
cancel-plain j r u Host = (tt, tt)
cancel-plain j r u (HalfOf t) = (tt, tt)
cancel-plain j r u (BranchOf t half) = (tt, tt)
cancel-plain j r u (EndOf c) = (tt, tt)

close-plain : (j : StreamId) (u : Use) (owner : Owner) → Each IsPlain (close_algorithm j u owner)
close-plain j u Host = (tt, tt)
close-plain j u (HalfOf t) = (tt, tt)
close-plain j u (BranchOf t half) = (tt, tt)
close-plain j u (EndOf c) = (tt, tt)

abort-plain : (j : StreamId) (r : Plain) (u : Use) (owner : Owner) → Each IsPlain (abort_algorithm j r u owner)
abort-plain j r u Host = (tt, tt)
abort-plain j r u (HalfOf t) = (tt, tt)
abort-plain j r u (BranchOf t half) = (tt, tt)
abort-plain j r u (EndOf c) = (tt, tt)

row-plain : (e : Effect) (s : Slots) → Each IsPlain (row e s).caused → Prompt (row e s).slots (row e s).caused
row-plain e s k = plain-prompt (row e s).slots (row e s).caused k

-- whether an effect may cause one that carries a chunk
abbrev pub may_carry : Effect → Bool
may_carry (OnWritable j (HandOn taker)) = true
may_carry (OnTransform u operation) = carries operation
may_carry (OnPort c operation) = hands_on operation
may_carry (WriteAlgorithm j) = true
may_carry _ = false

on_transform-plain : (s : Slots) (t : TransformId) (operation : TransformOperation) (o : Option transform.Slots) → carries operation ≡ false → Each IsPlain (on_transform_at (λ halves. transform_operation t halves operation) t s o).caused
on_transform-plain s t operation None c = tt
on_transform-plain s t operation (Some x) c = transform-plain t (halves_at x s) operation (record { slots = x; out = found s }) c refl

on_port-plain : (s : Slots) (c : PortId) (operation : PortOperation) (o : Option cross.Slots) → hands_on operation ≡ false → Each IsPlain (on_port_at (λ clones. port_operation c clones operation) c s o).caused
on_port-plain s c operation None h = tt
on_port-plain s c operation (Some x) h = port-plain c (clones_at x s) operation (record { slots = x; out = found s }) h refl

pub plain-caused : (e : Effect) (s : Slots) → may_carry e ≡ false → Each IsPlain (row e s).caused
unfolding row
plain-caused (OnReadable j operation) s c = row-causes IsPlain (OnReadable j operation) s (record { pull = tt; cancel = λ r q. tt; chunk = λ r v. tt; close = λ r. tt; error = λ r e. tt })
plain-caused (Byte j operation) s c =
    row-causes IsPlain (Byte j operation) s (record { readable = record { pull = tt; cancel = λ r q. tt; chunk = λ r v. tt; close = λ r. tt; error = λ r e. tt }; close_with = λ r b. tt })
plain-caused (OnWritable j (HandOn taker)) s c = cc
plain-caused (OnWritable j operation) s c = others-plain s j operation (λ u. u)
plain-caused (OnPipe q operation) s c = row-causes IsPlain (OnPipe q operation) s (pipe-plain q)
plain-caused (OnSignal a operation) s c = row-causes IsPlain (OnSignal a operation) s (signal-plain operation)
plain-caused (OnTransform t operation) s c = on_transform-plain s t operation (slice_get s.transforms t.0) c
plain-caused (OnTee t operation) s c = row-causes IsPlain (OnTee t operation) s (tee-plain t)
plain-caused (OnPort p operation) s c = on_port-plain s p operation (slice_get s.ports p.0) c
plain-caused (StartAlgorithm j step start) s c = start-plain j step s start
plain-caused (PullAlgorithm j) s c = pull-plain j _ (owner_at j s)
plain-caused (CancelAlgorithm j r q) s c = cancel-plain j r _ (owner_at j s)
plain-caused (WriteAlgorithm j) s c = cc
plain-caused (CloseAlgorithm j) s c = close-plain j _ (owner_at j s)
plain-caused (AbortAlgorithm j r q) s c = abort-plain j r _ (owner_at j s)
plain-caused (ChunkSteps j r v) s c = row-causes IsPlain (ChunkSteps j r v) s (chunk-plain v r)
plain-caused (CloseSteps j r) s c = row-causes IsPlain (CloseSteps j r) s (end-plain r)
plain-caused (CloseStepsWith j r b) s c = row-causes IsPlain (CloseStepsWith j r b) s (end-plain r)
plain-caused (ErrorSteps j r e) s c = row-causes IsPlain (ErrorSteps j r e) s (error-plain r)
plain-caused _ s c = tt

-- a write of a port goes on

handing-prompt : (s z : Slots) (c : PortId) (x : cross.Slots) (d : PromiseId) (a : cross.Acts) (clones : Bool) → stream_shapes z ≡ stream_shapes s → Ended s → slice_get s.ports c.0 ≡ Some x → a.slots.stream ≡ x.stream → a.out.effects ≡ []
    → Prompt z (cross.hand_on c d a clones).out.effects
handing-prompt s z c x d a true same ended at stream none = rw (none, stream, same) ((x.side, at-end s c x ended at), tt)
handing-prompt s z c x d a false same ended at stream none =
    let p = post-plain c (ErrorMessage cross.data_clone) a (rw none tt) in plain-prompt z _ (plain-append _ (Give (Fresh (Err cross.data_clone)) (Resolve d) ∷ []) p (tt, tt))

going-prompt : (s z : Slots) (c : PortId) (x : cross.Slots) (d : PromiseId) (a : cross.Acts) (clones : Bool) (p : Option PromiseId) → stream_shapes z ≡ stream_shapes s → Ended s → slice_get s.ports c.0 ≡ Some x → a.slots ≡ x → a.out.effects ≡ []
    → Prompt z (cross.go_on c clones d a p).out.effects
going-prompt s z c x d a clones None same ended at is none = handing-prompt s z c x d (cross.hold_back a) clones same ended at (ap (λ (y : cross.Slots). y.stream) is) none
going-prompt s z c x d a clones (Some p) same ended at is none = rw none (tt, tt)

on_port-prompt : (s : Slots) (c : PortId) (d : PromiseId) (o : Option cross.Slots) → slice_get s.ports c.0 ≡ o → Ended s
    → let e = on_port_at (λ clones. port_operation c clones (WriteByPortGoesOn d)) c s o in stream_shapes e.slots ≡ stream_shapes s → Prompt e.slots e.caused
unfolding cross.write_goes_on
on_port-prompt s c d None at ended same = tt
on_port-prompt s c d (Some x) at ended same =
    going-prompt s (on_port_at (λ clones. port_operation c clones (WriteByPortGoesOn d)) c s (Some x)).slots c x d (record { slots = x; out = found s }) (clones_at x s) x.backpressure same ended at refl refl

row-prompt : (s : Slots) (e : Effect) → Halved s → Ended s → Placed s e → Prompt (row e s).slots (row e s).caused
unfolding row
row-prompt s (OnWritable j (HandOn taker)) halved ended p = hand_on-prompt s j taker halved p
row-prompt s (OnTransform t operation) halved ended p = on_transform-prompt s t operation (slice_get s.transforms t.0) refl halved (row-stream_shapes (OnTransform t operation) s)
row-prompt s (OnPort c (WriteByPortGoesOn d)) halved ended p = on_port-prompt s c d (slice_get s.ports c.0) refl ended (row-stream_shapes (OnPort c (WriteByPortGoesOn d)) s)
row-prompt s (WriteAlgorithm j) halved ended p = write-prompt s j (owner_at j s) refl
row-prompt s e halved ended p = row-plain e s (plain-caused e s refl)

-- what calls and jobs begin with

first-plain : (E : StreamId → Value → Type 0) (e : Effect) → IsFirst E e → IsPlain e
first-plain E (OnWritable j (HandOn taker)) f = absurd f
first-plain E (OnTransform u (names.TransformChunk v d)) f = absurd f
first-plain E (CallHost (HostTransform j v) w) f = absurd f
first-plain E _ f = tt

pub call-plain : (c : Call) (s : Slots) → Each IsPlain (begin c s).done.caused
call-plain c s = each-map (IsFirst (Enqueues c)) IsPlain (first-plain (Enqueues c)) (begin c s).done.caused (begin-first c s)

pub job-plain : (job : Job) → Each IsPlain (job_effects job)
job-plain job = each-map (IsFirst Never) IsPlain (first-plain Never) (job_effects job) (job-first job)

-- over every run
pub record Prompted (s : Slots) (es : List Effect) : Type 0 where
  pub halved : Halved s
  pub ended : Ended s
  pub prompt : Prompt s es

pub prompted-stays : Stays Prompted
prompted-stays = record {
  row = λ s e es k. record { halved = halved-stays.row s e es k.halved; ended = ended-stays.row s e es k.ended; prompt = prompt-append (row e s).slots (row e s).caused es (row-prompt s e k.halved k.ended k.prompt.0) k.prompt.1 };
  call = λ s c k. record { halved = halved-stays.call s c k.halved; ended = ended-stays.call s c k.ended; prompt = plain-prompt (begin c s).done.slots (begin c s).done.caused (call-plain c s) };
  job = λ s job e k. record { halved = k.halved; ended = k.ended; prompt = plain-prompt (with_promises (after_next_job s.promises) s) (job_effects job) (job-plain job) };
  answered = λ s p k. record { halved = k.halved; ended = k.ended; prompt = tt };
  older = λ s k. record { halved = k.halved; ended = k.ended; prompt = tt };
}
