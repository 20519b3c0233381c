-- A pipe that shuts down without an error found its source closed, and it was closed before the step.
use Rattle.ws_steps.specs.declared.port.PortOperation.{PortOperation}
use Rattle.ws_steps.specs.declared.port.PortOperation.TheVariants as ports
use Rattle.ws_steps.specs.Cross as cross
use Rattle.ws_value.specs.declared.ids.PortId.{PortId}
use Rattle.ws_steps.specs.Operations.{port_operation}
use Rattle.ws_steps.specs.Slots.{on_port_at, clones_at}
use Rattle.ws_laws.proofs.PortDoes.{PortCauses}
use Rattle.ws_value.specs.declared.ids.TeeId.{TeeId}
use Rattle.ws_steps.specs.declared.promises.Micro.TheVariants.{TeeHand}
use Rattle.ws_steps.specs.declared.promises.Step.TheVariants.{TeeEnds}
use Rattle.std.proofs.Common.{◌≡◌, ◌⊎◌, inl, inr, ⊎_elim, ℕ, ◌≤◌, Bool, true, false, nat_eq, List, [], ◌∷◌, ◌++◌, Option, Some, None, Result, Ok, Err, slice_get, refl, sym, ap, subst, ◌∙◌, arith}
use Rattle.ws_value.specs.declared.{ids.PipeId.{PipeId}, ids.PromiseId.{PromiseId}, ids.StreamId.{StreamId}, value.Plain.{Plain}, value.Value.{Value}}
use Rattle.ws_steps.specs.declared.effects.{Effect.{Effect}, Effect.TheVariants.{Readable as OnReadable, Writable as OnWritable, Pipe as OnPipe, Signal as OnSignal, Transform as OnTransform, StartAlgorithm, PullAlgorithm, CancelAlgorithm, WriteAlgorithm, CloseAlgorithm, AbortAlgorithm, ChunkSteps, CloseSteps, ErrorSteps, Give, Settle, Queue, CallHost}}
use Rattle.ws_steps.specs.declared.pipes.{Action.{Action}, Ends.{Ends}, Phase.{Phase}, Phase.TheVariants.{Flowing, Waiting, Acting, Over}, PipeOperation.{PipeOperation}, Prevent.{Prevent}, SignalOperation.{SignalOperation}, SignalOperation.TheVariants.{Add, Forget, Trigger}}
use Rattle.ws_steps.specs.declared.pipes.PipeOperation.TheVariants.{KeepChunk, WriteChunk, ActionSettled}
use Rattle.ws_steps.specs.declared.promises.{Job.{Job}, Job.TheVariants.{Reaction as ReactionJob, Follow, Settle as SettleJob, Micro as MicroJob}, Micro.TheVariants.{PipeLook, PipeWrite, PipeNoParts}}
use Rattle.ws_steps.specs.declared.promises.{Step.{Step}, Step.TheVariants.{ReadableStart, ReadablePull, ReturnUndefined, WritableStart, WritableWrite, WritableClose, WritableAbort, PipeEnds, PipeReady, PipeWrote, PipeActed, PipePart, TransformChanged, PortUnblocked, Transformed, TransformFlushed, TransformAborted, TransformCancelled}}
use Rattle.ws_steps.specs.declared.readable.{ReadRequest.{ReadRequest}, ReadRequest.TheVariants.{Promise, Pipe as PipeRequest, Tee as TeeRequest}, ReadableOperation.TheVariants.{Enqueue}}
use Rattle.ws_steps.specs.declared.transform.{TransformId.{TransformId}, TransformOperation.{TransformOperation}, TransformOperation.TheVariants.{SinkWrite, TransformChunk, Enqueued, SourcePull, SinkClose, SinkAbort, SourceCancel}, Halves.{Halves}}
use Rattle.ws_steps.specs.Jobs.{job_effects, resolved, returned, steps}
use Rattle.ws_steps.specs.Operations.{readable_operation, byte_readable_operation, writable_operation, pipe_operation, transform_operation, tee_operation}
use Rattle.ws_steps.specs.Pipes as pipe
use Rattle.ws_steps.specs.Pipes.{Acts, finalize, act_by_signal, act_by, act, proceed, shutdown, look_by, look, look_ready, go_on_in, go_on, keep_chunk, read_ended, write_held, write_in, write_chunk, write_ended, action_settled, part_settled, no_parts, abort}
use Rattle.ws_steps.specs.Promises.{Table}
use Rattle.ws_steps.specs.Readable as readable
use Rattle.ws_steps.specs.Readable.{call_pull_if_needed, accept, controller_enqueue}
use Rattle.ws_steps.specs.Slots.{owner_at, on_tee_at, Slots, Stream, Done, nothing, found, ends_at, halves_at, has_readable, has_byte, is_readable_stream, is_byte_stream, as_readable, as_byte, as_source, put_readable, put_byte, on_pipe_at, on_readable, on_byte, on_transform_at, source_at}
use Rattle.ws_steps.specs.Transform as transform
use Rattle.ws_steps.specs.Tee as tee
use Rattle.ws_steps.specs.declared.effects.{Effect.TheVariants.{Tee as OnTee, Port as OnPort}, Owner.{Owner}, Owner.TheVariants.{Host, HalfOf, BranchOf, EndOf}, Use.{Use}, Use.TheVariants.{React}}
use Rattle.ws_steps.specs.declared.tee.TeeOperation.{TeeOperation}
use Rattle.ws_steps.specs.declared.tee.TeeOperation.TheVariants.{KeepChunk as KeepByTee}
use Rattle.ws_steps.specs.Turns.{pull_algorithm}
use Rattle.ws_laws.proofs.Halves.{Halved, halved-stays}
use Rattle.ws_laws.proofs.Shapes.{ReadableOf, stream_shapes, transform_shape, map-there, owner-told, row-owner}
use Rattle.ws_steps.specs.Histories.{is_same}
use Rattle.ws_steps.specs.Turns.{row}
use Rattle.ws_steps.proofs.PromiseLaws.{slice_get-set_other}
use Rattle.ws_laws.proofs.Lists.{Each, each-append, each-map}
use Rattle.ws_laws.proofs.PipeDoes.{is_looking, IsQuiet, pipe-quiet, pipe-causes}
use Rattle.ws_laws.proofs.Apart.{IsNoPipe, row-pipes, row-streams}
use Rattle.ws_laws.proofs.Causes.{Causes, ChunkCauses, EndCauses, ErrorCauses, SignalCauses, row-causes}
use Rattle.ws_steps.specs.Turns.{on_source}
use Rattle.ws_laws.proofs.Tables.{either, same_id, eq_numbers, unequal_numbers, readable_acts, byte_acts, on_readable-same, on_readable-other, on_byte-same, on_byte-other, on_writable-source}
use Rattle.ws_laws.proofs.TransformDoes.{TransformCauses}
use Rattle.ws_laws.proofs.TeeDoes.{TeeCauses}
use Rattle.ws_laws.proofs.Truth.{false_true}
use Rattle.ws_promise_laws.proofs.Acting.{EachWaits, Waits}
use Rattle.ws_promise_laws.proofs.PipeActs.{acts_now}
use Rattle.ws_promise_laws.proofs.Tokens.{one_if}
use Rattle.ws_pipe_laws.specs.pipes.PipeHistory.{shutdown as shut, has_closed, is_look, is_live, shutdown_by}
use Rattle.ws_pipe_laws.specs.pipes.PipeMoves.{starting, IsNamed, Move, MoveRests, MoveWaits, MoveActs, MoveEnds, MoveFinishes}
use Rattle.ws_pipe_laws.proofs.pipes.Moves.{each_pipe_moves}
use Rattle.ws_pipe_laws.proofs.pipes.PassingRuns.{place_same}
use Rattle.ws_pipe_laws.proofs.pipes.Unpiped.{IsUnpiped, operation-unpiped}
use Rattle.ws_steps.specs.declared.effects.Effect.TheVariants.{Byte, CloseStepsWith}

-- effects that don't look, and those that close no readable stream and lead to none that does, nor to one that looks: a write to the half of
-- a transform stream may enqueue into the other half

abbrev pub IsNoLook : Effect → Type 0
IsNoLook (OnPipe q operation) = is_looking operation ≡ false
IsNoLook _ = Unit {0}

abbrev IsCalmOperation : TransformOperation → Type 0
IsCalmOperation (SinkWrite u) = Unit {0}
IsCalmOperation (TransformChunk v d) = Unit {0}
IsCalmOperation Enqueued = Unit {0}
IsCalmOperation (SourcePull u) = Unit {0}
IsCalmOperation (SinkClose u) = Unit {0}
IsCalmOperation (SinkAbort r u) = Unit {0}
IsCalmOperation (SourceCancel r u) = Unit {0}
IsCalmOperation _ = ⊥

-- a branch of a tee: a pull of it leads to a read of its source, which may close it
abbrev is_branch : Owner → Bool
is_branch Host = false
is_branch (HalfOf t) = false
is_branch (BranchOf t half) = true
is_branch (EndOf c) = false

-- operations of ports but for those by which a message comes
abbrev IsCalmPort : PortOperation → Type 0
IsCalmPort (ports.Deliver m) = ⊥
IsCalmPort ports.Unblock = ⊥
IsCalmPort _ = Unit {0}

abbrev IsCalm : Slots → Effect → Type 0
IsCalm s (OnReadable j (Enqueue v)) = is_branch (owner_at j s) ≡ false
IsCalm s (OnWritable j operation) = Unit {0}
IsCalm s (OnPipe q (KeepChunk v)) = Unit {0}
IsCalm s (OnTransform t operation) = IsCalmOperation operation
IsCalm s (OnTee t (KeepByTee v)) = Unit {0}
IsCalm s (OnPort c operation) = IsCalmPort operation
IsCalm s (PullAlgorithm j) = is_branch (owner_at j s) ≡ false
IsCalm s (WriteAlgorithm j) = Unit {0}
IsCalm s (CloseAlgorithm j) = Unit {0}
IsCalm s (AbortAlgorithm j r q) = Unit {0}
IsCalm s (ChunkSteps j request v) = Unit {0}
IsCalm s (Give gift u) = Unit {0}
IsCalm s (Settle q o) = Unit {0}
IsCalm s (Queue m) = Unit {0}
IsCalm s (CallHost call u) = Unit {0}
IsCalm s _ = ⊥

calm-later : (e f : Effect) (s : Slots) → IsCalm s f → IsCalm (row e s).slots f
calm-later e (OnReadable j (Enqueue v)) s c = ap is_branch (row-owner j e s) ∙ c
calm-later e (PullAlgorithm j) s c = ap is_branch (row-owner j e s) ∙ c
calm-later e (OnTee t operation) s c = c
calm-later e (OnPort me operation) s c = c
calm-later e (OnTransform t operation) s c = c
calm-later e f s c = c

chunk-calm : (s : Slots) (v : Value) (request : ReadRequest) → ChunkCauses (IsCalm s) v request
chunk-calm s v (Promise q) = tt
chunk-calm s v (PipeRequest q) = tt
chunk-calm s v (TeeRequest t) = tt

pipe-calm : (z : Slots) (q : PipeId) (operation : PipeOperation) (s : Slots) (o : Option pipe.Slots) → IsCalm z (OnPipe q operation) → Each (IsCalm z) (on_pipe_at (λ ends. pipe_operation q ends operation) q s o).caused
unfolding keep_chunk
pipe-calm z q operation s None c = tt
pipe-calm z q (KeepChunk v) s (Some x) c = tt
pipe-calm z q operation s (Some x) c = absurd c

tee-calm : (z : Slots) (t : TeeId) (operation : TeeOperation) (s : Slots) (o : Option tee.Slots) → IsCalm z (OnTee t operation) → Each (IsCalm z) (on_tee_at (tee_operation t operation) t s o).caused
unfolding tee.keep_chunk
tee-calm z t operation s None c = tt
tee-calm z t (KeepByTee v) s (Some x) c = tt
tee-calm z t operation s (Some x) c = absurd c

ported-calm : (z : Slots) (me : PortId) (clones : Bool) (operation : PortOperation) (a : cross.Acts) → IsCalmPort operation → a.out.effects ≡ [] → Each (IsCalm z) (port_operation me clones operation a).out.effects
unfolding cross.pull cross.leave cross.close cross.write cross.write_goes_on cross.post_chunk
ported-calm z me clones operation a c none = grind (arith, c, none)

port-calm : (z : Slots) (me : PortId) (operation : PortOperation) (s : Slots) (o : Option cross.Slots) → IsCalm z (OnPort me operation)
    → Each (IsCalm z) (on_port_at (λ clones. port_operation me clones operation) me s o).caused
port-calm z me operation s None c = tt
port-calm z me operation s (Some x) c = ported-calm z me (clones_at x s) operation (record { slots = x; out = found s }) c refl

operation-calm : (s : Slots) (t : TransformId) (halves : Halves) (operation : TransformOperation) (a : transform.Acts) → IsCalmOperation operation → a.out.effects ≡ []
    → is_branch (owner_at a.slots.readable s) ≡ false → Each (IsCalm s) (transform_operation t halves operation a).out.effects
unfolding transform.enqueued transform.transform_chunk transform.sink_write transform.source_pull transform.set_backpressure transform.sink_close transform.sink_abort transform.source_cancel
operation-calm s t halves operation a c none n = grind (arith, c, none, n)

transform-calm : (t : TransformId) (operation : TransformOperation) (s : Slots) (o : Option transform.Slots) → slice_get s.transforms t.0 ≡ o → Halved s → IsCalmOperation operation
    → Each (IsCalm s) (on_transform_at (λ halves. transform_operation t halves operation) t s o).caused
transform-calm t operation s None is halved c = tt
transform-calm t operation s (Some x) is halved c =
    let shape : slice_get (stream_shapes s) x.readable.0 ≡ Some (ReadableOf (HalfOf t)) = (halved.halves t (transform_shape x) (map-there transform_shape s.transforms t.0 x is)).0 in
    let owner : owner_at x.readable s ≡ HalfOf t = owner-told s.streams x.readable.0 ∙ (rw shape refl) in
    operation-calm s t (halves_at x s) operation (record { slots = x; out = found s }) c refl (ap is_branch owner)

-- an enqueue gives a chunk to a request, or pulls

enqueue-calm : (s : Slots) (j : StreamId) (v : Value) (a : readable.Acts) → a.out.effects ≡ [] → is_branch (owner_at j s) ≡ false → Each (IsCalm s) (controller_enqueue j v a).out.effects
unfolding controller_enqueue accept call_pull_if_needed
enqueue-calm s j v a none n = grind (arith, none, n)

enqueued-calm : (j : StreamId) (v : Value) (s : Slots) → is_branch (owner_at j s) ≡ false → Each (IsCalm s) (on_source (Enqueue v) j s).caused
enqueued-calm j v s n =
    either (λ (d : Done). Each (IsCalm s) d.caused) (has_byte j s) (on_byte (byte_readable_operation j (Enqueue v)) j s) (on_readable (readable_operation j (Enqueue v)) j s)
    (λ is. either (λ (d : Done). Each (IsCalm s) d.caused) (has_byte j s) (put_byte j s (byte_acts j s)) (nothing s) (λ e. tt) (λ e. tt))
    (λ isnt. either (λ (d : Done). Each (IsCalm s) d.caused) (has_readable j s) (put_readable j s (controller_enqueue j v (readable_acts j s))) (nothing s)
    (λ e. enqueue-calm s j v (readable_acts j s) refl n) (λ e. tt))

pull-calm : (s : Slots) (j : StreamId) (u : Use) (owner : Owner) → is_branch owner ≡ false → Each (IsCalm s) (pull_algorithm j u owner)
pull-calm s j u Host n = (tt, tt)
pull-calm s j u (HalfOf t) n = (tt, tt)
pull-calm s j u (BranchOf t half) n = cc
pull-calm s j u (EndOf c) n = (tt, (tt, tt))

row-calm : (e : Effect) (s : Slots) → Halved s → IsCalm s e → Each (IsCalm s) (row e s).caused
unfolding row
row-calm (OnPipe q operation) s halved c = pipe-calm s q operation s (slice_get s.pipes q.0) c
row-calm (OnTransform t operation) s halved c = transform-calm t operation s (slice_get s.transforms t.0) refl halved c
row-calm (OnTee t operation) s halved c = tee-calm s t operation s (slice_get s.tees t.0) c
row-calm (OnPort me operation) s halved c = port-calm s me operation s (slice_get s.ports me.0) c
row-calm (OnReadable j (Enqueue v)) s halved c = enqueued-calm j v s c
row-calm (OnReadable j operation) s halved c = absurd c
row-calm (OnWritable j operation) s halved c =
    row-causes (IsCalm s) (OnWritable j operation) s (record { write = tt; close = tt; abort = λ r q. tt; hand_on = λ v. tt; take = λ v t d. tt; post = λ v c d. tt })
row-calm (PullAlgorithm j) s halved c = pull-calm s j (React (ReadablePull j) None) (owner_at j s) c
row-calm (WriteAlgorithm j) s halved c = row-causes (IsCalm s) (WriteAlgorithm j) s (tt, (λ t u. tt, λ c u. tt))
row-calm (CloseAlgorithm j) s halved c = row-causes (IsCalm s) (CloseAlgorithm j) s (λ h u. tt, (λ t u. tt, λ c u. tt))
row-calm (AbortAlgorithm j r q) s halved c = row-causes (IsCalm s) (AbortAlgorithm j r q) s (λ h u. tt, (λ t u. tt, λ c u. tt))
row-calm (ChunkSteps j request v) s halved c = row-causes (IsCalm s) (ChunkSteps j request v) s (chunk-calm s v request)
row-calm (Give gift u) s halved c = tt
row-calm (Settle q o) s halved c = tt
row-calm (Queue m) s halved c = tt
row-calm (CallHost call u) s halved c = tt
row-calm _ s halved c = absurd c

enqueue-state : (j : StreamId) (v : Value) (a : readable.Acts) → (controller_enqueue j v a).slots.state ≡ a.slots.state
unfolding controller_enqueue accept call_pull_if_needed
enqueue-state j v a = grind arith

default_is : (o : Option Stream) → is_readable_stream o ≡ true → (as_source o).state ≡ (as_readable o).state
default_is o e = grind (arith, e)

byte_is : (o : Option Stream) → is_byte_stream o ≡ true → (as_source o).state ≡ (as_byte o).stream.state
byte_is o e = grind (arith, e)

default-state : (i j : StreamId) (v : Value) (s : Slots) (same : Bool) → is_same i j ≡ same → (source_at i (on_readable (readable_operation j (Enqueue v)) j s).slots).state ≡ (source_at i s).state
default-state i j v s false n = ap (λ (o : Option Stream). (as_source o).state) (on_readable-other (readable_operation j (Enqueue v)) j s i n)
default-state i j v s true e =
    rw (same_id i j e)
    (either (λ (d : Done). (source_at j d.slots).state ≡ (source_at j s).state) (has_readable j s) (put_readable j s (readable_operation j (Enqueue v) (readable_acts j s))) (nothing s)
    (λ h.
    let now : (source_at j (put_readable j s (readable_operation j (Enqueue v) (readable_acts j s))).slots).state ≡ (readable_operation j (Enqueue v) (readable_acts j s)).slots.state =
    ap (λ (o : Option Stream). (as_source o).state) (rw h at (on_readable-same (readable_operation j (Enqueue v)) j s h)) in
    now ∙ (enqueue-state j v (readable_acts j s) ∙ sym (default_is (slice_get s.streams j.0) h)))
    (λ h. refl))

-- a byte stream has no such operation
byte-state : (i j : StreamId) (v : Value) (s : Slots) (same : Bool) → is_same i j ≡ same → (source_at i (on_byte (byte_readable_operation j (Enqueue v)) j s).slots).state ≡ (source_at i s).state
byte-state i j v s false n = ap (λ (o : Option Stream). (as_source o).state) (on_byte-other (byte_readable_operation j (Enqueue v)) j s i n)
byte-state i j v s true e =
    rw (same_id i j e)
    (either (λ (d : Done). (source_at j d.slots).state ≡ (source_at j s).state) (has_byte j s) (put_byte j s (byte_readable_operation j (Enqueue v) (byte_acts j s))) (nothing s)
    (λ h. ap (λ (o : Option Stream). (as_source o).state) (rw h at (on_byte-same (byte_readable_operation j (Enqueue v)) j s h)) ∙ sym (byte_is (slice_get s.streams j.0) h))
    (λ h. refl))

enqueued-state : (i j : StreamId) (v : Value) (s : Slots) (same : Bool) → is_same i j ≡ same → (source_at i (on_source (Enqueue v) j s).slots).state ≡ (source_at i s).state
enqueued-state i j v s same e =
    either (λ (d : Done). (source_at i d.slots).state ≡ (source_at i s).state) (has_byte j s) _ _ (λ h. byte-state i j v s same e) (λ h. default-state i j v s same e)

calm-state : (i : StreamId) (e : Effect) (s : Slots) → IsCalm s e → (source_at i (row e s).slots).state ≡ (source_at i s).state
unfolding row
calm-state i (OnWritable j operation) s c = ap (λ (r : readable.Slots). r.state) (on_writable-source (writable_operation j operation) j s i)
calm-state i (OnReadable j (Enqueue v)) s c = enqueued-state i j v s (is_same i j) refl
calm-state i (OnReadable j operation) s c = absurd c
calm-state i (Byte j operation) s c = absurd c
calm-state i e s c = ap (λ (xs : List Stream). (as_source (slice_get xs i.0)).state) (row-streams e s tt)

chunk-look : (v : Value) (request : ReadRequest) → ChunkCauses IsNoLook v request
chunk-look v (Promise q) = tt
chunk-look v (PipeRequest q) = refl
chunk-look v (TeeRequest t) = tt

end-look : (request : ReadRequest) → EndCauses IsNoLook request
end-look (Promise q) = tt
end-look (PipeRequest q) = refl
end-look (TeeRequest t) = tt

error-look : (request : ReadRequest) → ErrorCauses IsNoLook request
error-look (Promise q) = tt
error-look (PipeRequest q) = refl
error-look (TeeRequest t) = tt

signal-look : (operation : SignalOperation) → SignalCauses IsNoLook operation
signal-look (Trigger r) = λ q. refl
signal-look (Add q) = tt
signal-look (Forget q) = tt

transform-look : (t : TransformId) (writable readable : StreamId) (e : Effect) → TransformCauses t writable readable e → IsNoLook e
transform-look t writable readable (OnPipe q operation) c = absurd c
transform-look t writable readable _ c = tt

tee-look : (t : TeeId) (source first second : StreamId) (e : Effect) → TeeCauses t source first second e → IsNoLook e
tee-look t source first second (OnPipe q operation) c = absurd c
tee-look t source first second _ c = tt

port-look : (me : PortId) (stream : StreamId) (e : Effect) → PortCauses me stream e → IsNoLook e
port-look me stream (OnPipe q operation) c = absurd c
port-look me stream _ c = tt

look-causes : (e : Effect) → IsNoPipe e → Causes IsNoLook e
look-causes (OnReadable j operation) n = record { pull = tt; cancel = λ r q. tt; chunk = λ r v. tt; close = λ r. tt; error = λ r e. tt }
look-causes (Byte j operation) n = record { readable = record { pull = tt; cancel = λ r q. tt; chunk = λ r v. tt; close = λ r. tt; error = λ r e. tt }; close_with = λ r b. tt }
look-causes (OnWritable j operation) n = record { write = tt; close = tt; abort = λ r q. tt; hand_on = λ v. tt; take = λ v t d. tt; post = λ v c d. tt }
look-causes (OnPipe q operation) n = absurd n
look-causes (OnSignal a operation) n = signal-look operation
look-causes (OnTransform t operation) n = transform-look t
look-causes (OnTee t operation) n = tee-look t
look-causes (OnPort c operation) n = port-look c
look-causes (StartAlgorithm j step start) n = (λ g u. tt, λ c u. tt)
look-causes (PullAlgorithm j) n = (λ c u. tt, (λ t u. tt, (λ t. tt, (λ u. tt, λ c. tt))))
look-causes (CancelAlgorithm j r q) n = (λ c u. tt, (λ t u. tt, (λ t half u. tt, λ c u. tt)))
look-causes (WriteAlgorithm j) n = (tt, (λ t u. tt, λ c u. tt))
look-causes (CloseAlgorithm j) n = (λ c u. tt, (λ t u. tt, λ c u. tt))
look-causes (AbortAlgorithm j r q) n = (λ c u. tt, (λ t u. tt, λ c u. tt))
look-causes (ChunkSteps j request v) n = chunk-look v request
look-causes (CloseSteps j request) n = end-look request
look-causes (CloseStepsWith j request b) n = end-look request
look-causes (ErrorSteps j request e) n = error-look request
look-causes _ n = tt

quiet_look : (e : Effect) → IsQuiet e → IsNoLook e
quiet_look (OnPipe q operation) n = absurd n
quiet_look e n = tt

unpiped_look : (e : Effect) → IsUnpiped e → IsNoLook e
unpiped_look (OnPipe q operation) n = absurd n
unpiped_look e n = tt

-- an effect that doesn't look leads to none that does

place-look : (q : PipeId) (operation : PipeOperation) (s : Slots) (o : Option pipe.Slots) → is_looking operation ≡ false → Each IsNoLook (on_pipe_at (λ ends. pipe_operation q ends operation) q s o).caused
place-look q operation s None n = tt
place-look q operation s (Some x) n = let b : Acts = pipe_operation q (ends_at x s) operation (starting x s.promises) in each-map IsQuiet IsNoLook quiet_look b.out.effects (pipe-quiet q (ends_at x s) operation (starting x s.promises) n tt)

row-look : (e : Effect) (s : Slots) → IsNoLook e → Each IsNoLook (row e s).caused
unfolding row
row-look (OnPipe q operation) s n = place-look q operation s (slice_get s.pipes q.0) n
row-look e s n = row-causes IsNoLook e s (look-causes e tt)

-- one that looks, neither does what it causes; but where a pipe writes, it goes on afterwards

looked-look : (q : PipeId) (operation : PipeOperation) (s : Slots) (o : Option pipe.Slots) → (operation ≡ WriteChunk → ⊥) → Each IsNoLook (on_pipe_at (λ ends. pipe_operation q ends operation) q s o).caused
looked-look q operation s None n = tt
looked-look q operation s (Some x) n = let b : Acts = pipe_operation q (ends_at x s) operation (starting x s.promises) in each-map IsUnpiped IsNoLook unpiped_look b.out.effects (operation-unpiped q (ends_at x s) operation (starting x s.promises) n tt)

-- one effect looks, and before it stand only calm ones
abbrev pub Front : Slots → List Effect → Type 0
Front s [] = ⊥
Front s (e ∷ es) = Each IsNoLook es ⊎ (IsCalm s e × Front s es)

behind-calm : (s : Slots) (xs es : List Effect) → Each (IsCalm s) xs → Front s es → Front s (xs ++ es)
behind-calm s [] es c f = f
behind-calm s (x ∷ xs) es c f = inr (c.0, behind-calm s xs es c.1 f)

front-later : (e : Effect) (s : Slots) (es : List Effect) → Front s es → Front (row e s).slots es
front-later e s [] f = f
front-later e s (x ∷ es) (inl n) = inl n
front-later e s (x ∷ es) (inr f) = inr (calm-later e x s f.0, front-later e s es f.1)

abbrev Fronts : Slots → List Effect → Type 0
Fronts s es = Each IsNoLook es ⊎ Front s es

phase-front : (z : Slots) (q : PipeId) (v : Value) (a : Acts) (phase : Phase) (es : List Effect) → a.out.effects ≡ [] → Each IsNoLook es → Fronts z ((write_in q v a phase).out.effects ++ es)
phase-front z q v a Flowing es e n = rw e (inr (inr (tt, inr (tt, inl n))))
phase-front z q v a Waiting es e n = rw e (inr (inr (tt, inr (tt, inl n))))
phase-front z q v a Acting es e n = rw e (inl n)
phase-front z q v a Over es e n = rw e (inl n)

held-front : (z : Slots) (q : PipeId) (a : Acts) (held : Option Value) (es : List Effect) → a.out.effects ≡ [] → Each IsNoLook es → Fronts z ((write_held q a held).out.effects ++ es)
held-front z q a None es e n = rw e (inl n)
held-front z q a (Some v) es e n = phase-front z q v (pipe.with_slots (record a.slots { held = None; reading = false }) a) a.slots.phase es e n

write-front : (z : Slots) (q : PipeId) (s : Slots) (o : Option pipe.Slots) (es : List Effect) → Each IsNoLook es → Fronts z ((on_pipe_at (λ ends. write_chunk q) q s o).caused ++ es)
unfolding write_chunk
write-front z q s None es n = inl n
write-front z q s (Some x) es n = held-front z q (record { slots = x; out = found s }) x.held es refl n

look_looking : (operation : PipeOperation) → is_look operation ≡ true → is_looking operation ≡ true
look_looking operation e = grind (arith, e)

-- a shutdown without an error

named_closed : (prevent : Prevent) (ends : Ends) (operation : PipeOperation) (action : Option Action) → shutdown_by prevent ends operation ≡ Some (shut action None) → (is_look operation ≡ true) × (has_closed ends.source_state ≡ true)
named_closed prevent ends operation action e = grind (arith, e)

acting_phase : (x : pipe.Slots) → 1 ≤ one_if (acts_now (Some x)) → x.phase ≡ Flowing → ⊥
acting_phase x n f = let m : 1 ≤ 0 = rw f at n in absurd (omega (arith, m))

-- pipe p, its source i, and what follows where that was closed before the step
module _ (p : PipeId) (i : StreamId) (C : Type 0) where
  -- where the source is closed, it was so
  abbrev pub WasClosed : Slots → Type 0
  WasClosed s = has_closed (source_at i s).state ≡ true → C

  abbrev pub Agenda : Slots → List Effect → Type 0
  Agenda s es = Each IsNoLook es ⊎ (WasClosed s × (Halved s × Front s es))

  write-agenda : (q : PipeId) (s : Slots) (es : List Effect) → WasClosed s → Halved s → Each IsNoLook es → Agenda (row (OnPipe q WriteChunk) s).slots ((row (OnPipe q WriteChunk) s).caused ++ es)
  unfolding row
  write-agenda q s es was halved n =
      let d : Done = on_pipe_at (λ ends. write_chunk q) q s (slice_get s.pipes q.0) in
      let kept : has_closed (source_at i d.slots).state ≡ has_closed (source_at i s).state = ap (λ (xs : List Stream). has_closed (as_source (slice_get xs i.0)).state) (row-streams (OnPipe q WriteChunk) s tt) in
      ⊎_elim (λ (m : Each IsNoLook (d.caused ++ es)). inl m)
      (λ (f : Front d.slots (d.caused ++ es)). inr ((λ c. was (sym kept ∙ c)), (halved-stays.row s (OnPipe q WriteChunk) es halved, f))) (write-front d.slots q s (slice_get s.pipes q.0) es n)

  looking-none : (q : PipeId) (operation : PipeOperation) (s : Slots) (es : List Effect) → (operation ≡ WriteChunk → ⊥) → Each IsNoLook es → Each IsNoLook ((row (OnPipe q operation) s).caused ++ es)
  unfolding row
  looking-none q operation s es w n = each-append IsNoLook _ es (looked-look q operation s (slice_get s.pipes q.0) w) n

  front-agenda : (s : Slots) (e : Effect) (es : List Effect) → WasClosed s → Halved s → Each IsNoLook es → Agenda (row e s).slots ((row e s).caused ++ es)
  front-agenda s (OnPipe q WriteChunk) es was halved n = write-agenda q s es was halved n
  front-agenda s (OnPipe q operation) es was halved n = inl (looking-none q operation s es (λ e. cc) n)
  front-agenda s e es was halved n = inl (each-append IsNoLook (row e s).caused es (row-look e s tt) n)

  pub row-agenda : (s : Slots) (e : Effect) (es : List Effect) → Agenda s (e ∷ es) → Agenda (row e s).slots ((row e s).caused ++ es)
  row-agenda s e es (inl n) = inl (each-append IsNoLook (row e s).caused es (row-look e s n.0) n.1)
  row-agenda s e es (inr (was, (halved, inl n))) = front-agenda s e es was halved n
  row-agenda s e es (inr (was, (halved, inr (c, f)))) =
      inr ((λ h. was (sym (ap has_closed (calm-state i e s c)) ∙ h)), (halved-stays.row s e es halved, front-later e s ((row e s).caused ++ es) (behind-calm s (row e s).caused es (row-calm e s halved c) f)))

  looks_now : (q : PipeId) (operation : PipeOperation) (s : Slots) (es : List Effect) → Agenda s (OnPipe q operation ∷ es) → is_looking operation ≡ true → WasClosed s
  looks_now q operation s es (inl n) l = false_true (is_looking operation) l n.0
  looks_now q operation s es (inr k) l = k.0

  -- the pipe flows, or where it has no error, its source was closed

  abbrev pub Still : pipe.Slots → Type 0
  Still x = (x.phase ≡ Flowing) ⊎ (x.error ≡ None → C)

  abbrev pub Sure : Option pipe.Slots → Type 0
  Sure None = Unit {0}
  Sure (Some x) = (x.source ≡ i) × Still x

  starts-still : (ends : Ends) (operation : PipeOperation) (x y : pipe.Slots) → (is_look operation ≡ true → has_closed ends.source_state ≡ true → C) → IsNamed ends operation x y → x.phase ≡ Flowing → y.error ≡ None → C
  starts-still ends operation x y looked named f n =
      let e : shutdown_by x.prevent ends operation ≡ Some (shut y.action None) = named.starts f ∙ ap (λ (o : Option Plain). Some (shut y.action o)) n in
      let k = named_closed x.prevent ends operation y.action e in
      looked k.0 k.1

  named-still : (ends : Ends) (operation : PipeOperation) (x y : pipe.Slots) (phase : Phase) → x.phase ≡ phase → (is_look operation ≡ true → has_closed ends.source_state ≡ true → C) → IsNamed ends operation x y → Still x → y.error ≡ None → C
  named-still ends operation x y Flowing f looked named k n = starts-still ends operation x y looked named f n
  named-still ends operation x y Waiting f looked named (inl g) n = let w : Waiting ≡ Flowing = sym f ∙ g in cc
  named-still ends operation x y Waiting f looked named (inr k) n = k (sym (named.keeps f).1 ∙ n)
  named-still ends operation x y Acting f looked named k n = false_true (is_live x.phase) named.live (ap is_live f)
  named-still ends operation x y Over f looked named k n = false_true (is_live x.phase) named.live (ap is_live f)

  move-still : (ends : Ends) (operation : PipeOperation) (x : pipe.Slots) (t : Table) (b : Acts) → (is_look operation ≡ true → has_closed ends.source_state ≡ true → C) → ((o : Result Plain Plain) → operation ≡ ActionSettled o → x.phase ≡ Flowing → ⊥)
      → Move p ends operation x t b → Still x → Still b.slots
  move-still ends operation x t b looked settled (MoveRests q a e idle) (inl f) = inl (q ∙ f)
  move-still ends operation x t b looked settled (MoveRests q a e idle) (inr k) = inr (λ n. k (sym e ∙ n))
  move-still ends operation x t b looked settled (MoveWaits f q named v e) k = inr (λ n. named-still ends operation x b.slots x.phase refl looked named k n)
  move-still ends operation x t b looked settled (MoveActs action y q named w is alike) k = inr (λ n. named-still ends operation x y x.phase refl looked named k (sym alike.error ∙ n))
  move-still ends operation x t b looked settled (MoveEnds q named w e) k = inr (λ n. named-still ends operation x b.slots x.phase refl looked named k n)
  move-still ends operation x t b looked settled (MoveFinishes o is q e) (inl f) = absurd (settled o is f)
  move-still ends operation x t b looked settled (MoveFinishes o is q e) (inr k) = inr (λ n. k (sym (ap (λ (z : pipe.Slots). z.error) q) ∙ n))

  self : nat_eq p.0 p.0 ≡ true
  self = grind arith

  own-sure : (operation : PipeOperation) (s : Slots) (es : List Effect) (o : Option pipe.Slots) → slice_get s.pipes p.0 ≡ o → Waits p s (OnPipe p operation ∷ es) → Agenda s (OnPipe p operation ∷ es) → Sure o
      → Sure (slice_get (on_pipe_at (λ ends. pipe_operation p ends operation) p s o).slots.pipes p.0)
  own-sure operation s es None e w g k = rw e tt
  own-sure operation s es (Some x) e w g k =
      let b : Acts = pipe_operation p (ends_at x s) operation (starting x s.promises) in
      let source : b.slots.source ≡ x.source = (pipe-causes p (ends_at x s) operation (starting x s.promises) tt).0 in
      rw (place_same s.pipes p.0 x b.slots e)
      (source ∙ k.0, move-still (ends_at x s) operation x s.promises b looked settled (each_pipe_moves p (ends_at x s) operation x s.promises) k.1)
    where
      looked : is_look operation ≡ true → has_closed (source_at x.source s).state ≡ true → C
      looked l c =
          looks_now p operation s es g (look_looking operation l) (subst (λ (j : StreamId). has_closed (source_at j s).state ≡ true) k.0 c)

      settled : (o : Result Plain Plain) → operation ≡ ActionSettled o → x.phase ≡ Flowing → ⊥
      settled o is f =
          let v : Waits p s (OnPipe p (ActionSettled o) ∷ es) = subst (λ (z : PipeOperation). Waits p s (OnPipe p z ∷ es)) is w in
          let one : one_if (nat_eq p.0 p.0) ≡ 1 = ap one_if self in
          let here : one_if (acts_now (slice_get s.pipes p.0)) ≡ one_if (acts_now (Some x)) = ap (λ (o : Option pipe.Slots). one_if (acts_now o)) e in
          acting_phase x (omega (arith, v, one, here)) f

  other_place : (q : PipeId) (operation : PipeOperation) (s : Slots) (o : Option pipe.Slots) → nat_eq p.0 q.0 ≡ false → slice_get (on_pipe_at (λ ends. pipe_operation q ends operation) q s o).slots.pipes p.0 ≡ slice_get s.pipes p.0
  other_place q operation s None n = refl
  other_place q operation s (Some x) n = slice_get-set_other s.pipes q.0 p.0 _ (λ i. unequal_numbers p.0 q.0 n (sym i))

  own_row : (operation : PipeOperation) (s : Slots) (es : List Effect) → EachWaits s (OnPipe p operation ∷ es) → Agenda s (OnPipe p operation ∷ es) → Sure (slice_get s.pipes p.0) → Sure (slice_get (row (OnPipe p operation) s).slots.pipes p.0)
  unfolding row
  own_row operation s es w g k = own-sure operation s es (slice_get s.pipes p.0) refl (w p) g k

  pipe_row : (q : PipeId) (operation : PipeOperation) (s : Slots) (es : List Effect) (same : Bool) → nat_eq p.0 q.0 ≡ same → EachWaits s (OnPipe q operation ∷ es) → Agenda s (OnPipe q operation ∷ es) → Sure (slice_get s.pipes p.0)
      → Sure (slice_get (row (OnPipe q operation) s).slots.pipes p.0)
  unfolding row
  pipe_row q operation s es false n w g k = subst Sure (sym (other_place q operation s (slice_get s.pipes q.0) n)) k
  pipe_row q operation s es true n w g k =
      let is : p ≡ q = ap (λ (n : ℕ). record { 0 = n }) (eq_numbers p.0 q.0 n) in
      subst (λ (z : PipeId). EachWaits s (OnPipe z operation ∷ es) → Agenda s (OnPipe z operation ∷ es) → Sure (slice_get s.pipes p.0) → Sure (slice_get (row (OnPipe z operation) s).slots.pipes p.0)) is (own_row operation s es) w g k

  pub row-sure : (s : Slots) (e : Effect) (es : List Effect) → EachWaits s (e ∷ es) → Agenda s (e ∷ es) → Sure (slice_get s.pipes p.0) → Sure (slice_get (row e s).slots.pipes p.0)
  row-sure s (OnPipe q operation) es w g k = pipe_row q operation s es (nat_eq p.0 q.0) refl w g k
  row-sure s e es w g k = subst (λ (ps : List pipe.Slots). Sure (slice_get ps p.0)) (sym (row-pipes e s tt)) k

-- what jobs begin with

resolved-look : (derived : Option PromiseId) (o : Result Plain Plain) → Each IsNoLook (resolved derived o)
resolved-look None o = tt
resolved-look (Some q) o = (tt, tt)

steps-front : (s : Slots) (step : Step) (o : Result Plain Plain) (derived : Option PromiseId) (r : Result Plain Plain) → Fronts s (steps step o ++ resolved derived r)
steps-front s (ReadableStart j) o derived r = inr (inl (resolved-look derived r))
steps-front s (ReadablePull j) o derived r = inr (inl (resolved-look derived r))
steps-front s ReturnUndefined o derived r = inl (resolved-look derived r)
steps-front s (WritableStart j) o derived r = inr (inl (resolved-look derived r))
steps-front s (WritableWrite j) o derived r = inr (inl (resolved-look derived r))
steps-front s (WritableClose j) o derived r = inr (inl (resolved-look derived r))
steps-front s (WritableAbort j q) o derived r = inr (inl (resolved-look derived r))
steps-front s (PipeEnds q) o derived r = inr (inl (resolved-look derived r))
steps-front s (TeeEnds t) o derived r = inr (inl (resolved-look derived r))
steps-front s (PipeReady q) o derived r = inr (inl (resolved-look derived r))
steps-front s (PipeWrote q) o derived r = inr (inl (resolved-look derived r))
steps-front s (PipeActed q) o derived r = inr (inl (resolved-look derived r))
steps-front s (PipePart q) o derived r = inr (inl (resolved-look derived r))
steps-front s (TransformChanged t d) (Ok v) derived r = inl (tt, resolved-look derived r)
steps-front s (PortUnblocked c d) (Ok v) derived r = inl (tt, resolved-look derived r)
steps-front s (TransformChanged t d) (Err e) derived r = inl (tt, resolved-look derived r)
steps-front s (PortUnblocked c d) (Err e) derived r = inl (tt, resolved-look derived r)
steps-front s (Transformed t) (Ok v) derived r = inl (resolved-look derived r)
steps-front s (Transformed t) (Err e) derived r = inl (tt, resolved-look derived r)
steps-front s (TransformFlushed t q) o derived r = inl (tt, resolved-look derived r)
steps-front s (TransformAborted t q e) o derived r = inl (tt, resolved-look derived r)
steps-front s (TransformCancelled t q e) o derived r = inl (tt, resolved-look derived r)

pub job-front : (s : Slots) (job : Job) → Each IsNoLook (job_effects job) ⊎ Front s (job_effects job)
job-front s (ReactionJob step o derived) = steps-front s step o derived (returned step o)
job-front s (Follow q r) = inl tt
job-front s (SettleJob q o) = inl (tt, tt)
job-front s (MicroJob (PipeLook q)) = inr (inl tt)
job-front s (MicroJob (PipeWrite q)) = inr (inl tt)
job-front s (MicroJob (PipeNoParts q)) = inr (inl tt)
job-front s (MicroJob (TeeHand t)) = inr (inl tt)
