-- In which order effects stand on the agenda: behind one that may yet lead to a read of stream i or to an enqueue into it stand no steps of a
-- read request of it that give a chunk. So a stream gives its chunks in their order. A pull of a branch of a tee leads to a read of its
-- source, which was made before it.
use Rattle.std.proofs.Common.{◌≡◌, ◌<◌, ◌≤◌, Bool, true, false, not, ◌&&◌, List, [], ◌∷◌, ◌++◌, Option, Some, None, Result, Ok, Err, slice_get, nat_lt, lt-ltb, ltb-true, refl, sym, subst, ap, ◌∙◌, append_assoc, append-nil, arith}
use Rattle.ws_value.specs.declared.ids.PipeId.{PipeId}
use Rattle.ws_value.specs.declared.ids.PromiseId.{PromiseId}
use Rattle.ws_value.specs.declared.ids.StreamId.{StreamId}
use Rattle.ws_value.specs.declared.ids.TeeId.{TeeId}
use Rattle.ws_value.specs.declared.value.Plain.{Plain}
use Rattle.ws_value.specs.declared.value.Plain.TheVariants.{Undefined}
use Rattle.ws_value.specs.declared.value.Value.{Value}
use Rattle.ws_steps.specs.declared.byte.ByteOperation.{ByteOperation}
use Rattle.ws_steps.specs.declared.calls.Call.{Call}
use Rattle.ws_steps.specs.declared.effects.Effect.{Effect}
use Rattle.ws_steps.specs.declared.effects.Effect.TheVariants.{Readable, Byte, Writable, Pipe, Signal, Transform, Tee, StartAlgorithm, PullAlgorithm, CancelAlgorithm, WriteAlgorithm, CloseAlgorithm, AbortAlgorithm, ChunkSteps, CloseSteps, CloseStepsWith, ErrorSteps}
use Rattle.ws_steps.specs.declared.effects.Owner.{Owner}
use Rattle.ws_steps.specs.declared.effects.Owner.TheVariants.{Host, HalfOf, BranchOf}
use Rattle.ws_steps.specs.declared.effects.Use.{Use}
use Rattle.ws_steps.specs.declared.effects.Use.TheVariants.{React}
use Rattle.ws_steps.specs.declared.pipes.PipeOperation.{PipeOperation}
use Rattle.ws_steps.specs.declared.pipes.SignalOperation.{SignalOperation}
use Rattle.ws_steps.specs.declared.pipes.SignalOperation.TheVariants.{Add, Forget, Trigger}
use Rattle.ws_steps.specs.declared.promises.Job.{Job}
use Rattle.ws_steps.specs.declared.promises.Step.TheVariants.{ReadablePull}
use Rattle.ws_steps.specs.declared.readable.ReadRequest.{ReadRequest}
use Rattle.ws_steps.specs.declared.readable.ReadRequest.TheVariants.{Promise, Pipe as PipeRequest, Tee as TeeRequest}
use Rattle.ws_steps.specs.declared.readable.ReadableOperation.{ReadableOperation}
use Rattle.ws_steps.specs.declared.readable.ReadableOperation.TheVariants as reads
use Rattle.ws_steps.specs.declared.readable.ReadableState.{ReadableState}
use Rattle.ws_steps.specs.declared.readable.ReadableState.TheVariants.{Readable as IsReadable, Closed, Errored}
use Rattle.ws_steps.specs.declared.tee.Half.{Half}
use Rattle.ws_steps.specs.declared.tee.TeeOperation.{TeeOperation}
use Rattle.ws_steps.specs.declared.tee.TeeOperation.TheVariants as tees
use Rattle.ws_steps.specs.declared.tee.TeePhase.{TeePhase}
use Rattle.ws_steps.specs.declared.tee.TeePhase.TheVariants.{Resting, Reading, Over}
use Rattle.ws_steps.specs.declared.transform.TransformId.{TransformId}
use Rattle.ws_steps.specs.declared.transform.TransformOperation.{TransformOperation}
use Rattle.ws_steps.specs.declared.transform.TransformOperation.TheVariants as transforms
use Rattle.ws_steps.specs.Effects.{Out, cause, cause_all, settling}
use Rattle.ws_steps.specs.Operations.{readable_operation, pipe_operation, transform_operation, tee_operation}
use Rattle.ws_steps.specs.Pipes as pipe
use Rattle.ws_steps.specs.Readable as readable
use Rattle.ws_steps.specs.Tee as tee
use Rattle.ws_steps.specs.Transform as transform
use Rattle.ws_steps.specs.Histories.{is_same}
use Rattle.ws_steps.specs.Promises.{after_next_job}
use Rattle.ws_steps.specs.Queues.{is_empty}
use Rattle.ws_steps.specs.Slots.{Slots, Stream, ByteStream, Done, empty, found, nothing, with_promises, has_byte, has_readable, is_byte_stream, owner_at, owner_of, put_readable, on_pipe_at, on_transform_at, on_tee_at}
use Rattle.ws_steps.specs.Turns.{row, pull_algorithm}
use Rattle.ws_steps.specs.Jobs.{job_effects}
use Rattle.ws_steps.specs.Calls.{begin}
use Rattle.ws_laws.proofs.Begin.{IsFirst, Enqueues, Never, begin-first, job-first}
use Rattle.ws_laws.proofs.Lists.{Each, each-append, each-map}
use Rattle.ws_laws.proofs.OnReadable.{is_still}
use Rattle.ws_laws.proofs.PipeDoes.{PipeCauses}
use Rattle.ws_laws.proofs.Causes.{ChunkCauses, EndCauses, ErrorCauses, SignalCauses, row-causes}
use Rattle.ws_laws.proofs.Shapes.{TeeShape, tee_shape, tee_shapes, map-there, row-owner, row-tee_shapes}
use Rattle.ws_laws.proofs.Tables.{either, same_id, readable_acts, on_source-readable}
use Rattle.ws_laws.proofs.TeeDoes.{TeeCauses}
use Rattle.ws_laws.proofs.TransformDoes.{TransformCauses}
use Rattle.ws_laws.proofs.Walker.{Stays}
use Rattle.ws_value.specs.declared.ids.PortId.{PortId}
use Rattle.ws_value.specs.declared.value.Message.{Message}
use Rattle.ws_value.specs.declared.value.Message.TheVariants.{Pull as PullMessage, Chunk as ChunkMessage, Close as CloseMessage, Error as ErrorMessage}
use Rattle.ws_value.specs.Values.{is_cloneable}
use Rattle.ws_steps.specs.declared.port.PortOperation.{PortOperation}
use Rattle.ws_steps.specs.declared.port.PortOperation.TheVariants as ports
use Rattle.ws_steps.specs.declared.effects.Effect.TheVariants.{Port}
use Rattle.ws_steps.specs.declared.effects.Owner.TheVariants.{EndOf}
use Rattle.ws_steps.specs.Cross as cross
use Rattle.ws_steps.specs.Operations.{port_operation}
use Rattle.ws_steps.specs.Slots.{on_port_at, clones_at}
use Rattle.ws_laws.proofs.PortDoes.{PortCauses}
use Rattle.ws_laws.proofs.Branches.{Below, row-below, call-below, below-empty}

-- operations of a transform stream that lead to no operation of a stream
abbrev pub is_resting : TransformOperation → Bool
is_resting transforms.Enqueued = true
is_resting transforms.Unblock = true
is_resting (transforms.SourcePull u) = true
is_resting (transforms.SinkClose u) = true
is_resting (transforms.SinkAbort r u) = true
is_resting (transforms.SourceCancel r u) = true
is_resting _ = false

abbrev pub not_true : Bool → Bool
not_true true = false
not_true false = true

pub true_of : (b : Bool) → not_true b ≡ false → b ≡ true
true_of true e = refl
true_of false e = cc

-- whether an operation of a readable stream may perform its pull algorithm, or take from it
abbrev pub may_pull : ReadableOperation → Bool
may_pull (reads.Cancel r p) = false
may_pull (reads.CancelIfReadable r p) = false
may_pull reads.Close = false
may_pull (reads.Error e) = false
may_pull _ = true

-- the others cause only a cancel algorithm, and steps that end requests

record OfEnds (Q : Out → Type 0) (j : StreamId) : Type 0 where
  settle : (x : Out) (p : PromiseId) (o : Result Plain Plain) → Q x → Q (settling p o x)
  cancel : (x : Out) (r : Plain) (p : PromiseId) → Q x → Q (cause (CancelAlgorithm j r p) x)
  close : (x : Out) (request : ReadRequest) → Q x → Q (cause (CloseSteps j request) x)
  error : (x : Out) (request : ReadRequest) (e : Plain) → Q x → Q (cause (ErrorSteps j request e) x)

module _ (Q : Out → Type 0) (j : StreamId) (of : OfEnds Q j) where
  abbrev Does : readable.Acts → readable.Acts → Type 0
  Does a b = Q a.out → Q b.out

  all-close : (rs : List ReadRequest) (x : Out) → Q x → Q (cause_all (readable.close_all j rs) x)
  all-close [] x h = rw (append-nil x.effects) h
  all-close (r ∷ rs) x h = rw (← append_assoc x.effects (CloseSteps j r ∷ []) (readable.close_all j rs)) (all-close rs (cause (CloseSteps j r) x) (of.close x r h))

  all-error : (e : Plain) (rs : List ReadRequest) (x : Out) → Q x → Q (cause_all (readable.error_all j e rs) x)
  all-error e [] x h = rw (append-nil x.effects) h
  all-error e (r ∷ rs) x h =
      rw (← append_assoc x.effects (ErrorSteps j r e ∷ []) (readable.error_all j e rs)) (all-error e rs (cause (ErrorSteps j r e) x) (of.error x r e h))

  reader-closes : (a : readable.Acts) (reader : Option PromiseId) → Does a (readable.close_reader j a reader)
  reader-closes a None h = h
  reader-closes a (Some closed) h = all-close a.slots.requests _ (of.settle a.out closed (Ok Undefined) h)

  closes : (a : readable.Acts) → Does a (readable.stream_close j a)
  unfolding readable.stream_close
  closes a h = reader-closes (record a { slots = record a.slots { state = Closed } }) a.slots.reader h

  reader-errs : (e : Plain) (a : readable.Acts) (reader : Option PromiseId) → Does a (readable.error_reader j e a reader)
  reader-errs e a None h = h
  reader-errs e a (Some closed) h = all-error e a.slots.requests _ (of.settle a.out closed (Err e) h)

  close-ends : (a : readable.Acts) → Does a (readable.controller_close j a)
  unfolding readable.controller_close readable.close_if_empty
  close-ends a h =
      let b : readable.Acts = record a { slots = record a.slots { close_requested = true } } in
      either (λ (z : readable.Acts). Q z.out) (readable.can_close_or_enqueue a.slots) (readable.close_if_empty j b) a
      (λ can. either (λ (z : readable.Acts). Q z.out) (is_empty b.slots.queue) (readable.stream_close j b) b (λ e. closes b h) (λ e. h)) (λ cannot. h)

  error-ends : (e : Plain) (a : readable.Acts) → Does a (readable.controller_error j e a)
  unfolding readable.controller_error readable.stream_error
  error-ends e a h =
      let b : readable.Acts = record a { slots = record a.slots { queue = []; state = Errored; stored_error = e } } in
      either (λ (z : readable.Acts). Q z.out) (readable.is_readable a.slots.state) (readable.error_reader j e b a.slots.reader) a
      (λ is. reader-errs e b a.slots.reader h) (λ isnt. h)

  cancel-by : (r : Plain) (p : PromiseId) (a : readable.Acts) (state : ReadableState) → Does a (readable.cancel_by j r p a state)
  unfolding readable.cancel_steps
  cancel-by r p a IsReadable h = of.cancel (readable.stream_close j a).out r p (closes a h)
  cancel-by r p a Closed h = of.settle a.out p (Ok Undefined) h
  cancel-by r p a Errored h = of.settle a.out p (Err a.slots.stored_error) h

  cancel-readable : (r : Plain) (p : PromiseId) (a : readable.Acts) (state : ReadableState) → Does a (readable.cancel_readable_by j r p a state)
  unfolding readable.stream_cancel
  cancel-readable r p a IsReadable h = cancel-by r p (record a { slots = record a.slots { disturbed = true } }) a.slots.state h
  cancel-readable r p a Closed h = of.settle a.out p (Ok Undefined) h
  cancel-readable r p a Errored h = of.settle a.out p (Ok Undefined) h

  ends-do : (operation : ReadableOperation) (a : readable.Acts) → may_pull operation ≡ false → Does a (readable_operation j operation a)
  unfolding readable.stream_cancel readable.cancel_if_readable
  ends-do (reads.Cancel r p) a n h = cancel-by r p (record a { slots = record a.slots { disturbed = true } }) a.slots.state h
  ends-do (reads.CancelIfReadable r p) a n h = cancel-readable r p a a.slots.state h
  ends-do reads.Close a n h = close-ends a h
  ends-do (reads.Error e) a n h = error-ends e a h
  ends-do _ a n h = cc

-- whether an operation of a port may do something to its stream
abbrev pub is_going : PortOperation → Bool
is_going (ports.WriteGoesOn d) = true
is_going (ports.Deliver m) = true
is_going _ = false

module _ (i : StreamId) where
  -- whether stream j is stream i, or was made after it
  abbrev pub is_from : StreamId → Bool
  is_from j = not_true (nat_lt j.0 i.0)

  abbrev reaches : Option TeeShape → Bool
  reaches None = false
  reaches (Some x) = is_from x.source

  -- whether the pull algorithm of a stream that performs these algorithms may lead to a read of stream i
  abbrev pull_reaches : Slots → Owner → Bool
  pull_reaches s Host = false
  pull_reaches s (HalfOf t) = false
  pull_reaches s (BranchOf t half) = reaches (slice_get (tee_shapes s) t.0)
  pull_reaches s (EndOf c) = false

  abbrev pub tee_takes : Slots → TeeId → TeeOperation → Bool
  tee_takes s t tees.PullBranch = reaches (slice_get (tee_shapes s) t.0)
  tee_takes s t tees.HandChunk = true
  tee_takes s t tees.Handed = true
  tee_takes s t _ = false

  -- whether an effect may yet lead to a read of stream i or to an enqueue into it
  abbrev pub may_take : Slots → Effect → Bool
  may_take s (Readable j operation) = may_pull operation && is_from j
  may_take s (Byte j operation) = is_same i j
  may_take s (Writable j operation) = true
  may_take s (PullAlgorithm j) = pull_reaches s (owner_at j s)
  may_take s (WriteAlgorithm j) = true
  may_take s (Pipe p operation) = not_true (is_still operation)
  may_take s (Signal a operation) = true
  may_take s (Transform t operation) = not_true (is_resting operation)
  may_take s (Tee t operation) = tee_takes s t operation
  may_take s (Port c operation) = is_going operation
  may_take s _ = false

  -- an operation of stream i itself
  abbrev is_own : Effect → Bool
  is_own (Readable j operation) = is_same i j
  is_own (Byte j operation) = is_same i j
  is_own _ = false

  abbrev pub IsQuiet : Slots → Effect → Type 0
  IsQuiet s e = may_take s e ≡ false

  -- other effects than steps of a request of stream i that give a chunk
  abbrev pub IsNoGift : Effect → Type 0
  IsNoGift (ChunkSteps j request v) = is_same i j ≡ false
  IsNoGift (CloseStepsWith j request b) = is_same i j ≡ false
  IsNoGift _ = Unit {0}

  abbrev pub Calm : List Effect → Type 0
  Calm es = Each IsNoGift es

  abbrev pub Behind : Bool → List Effect → Type 0
  Behind true es = Calm es
  Behind false es = Unit {0}

  abbrev pub AreOrdered : Slots → List Effect → Type 0
  AreOrdered s [] = Unit {0}
  AreOrdered s (e ∷ es) = Behind (may_take s e) es × AreOrdered s es

  -- an operation of a transform stream that doesn't rest stands before no chunk steps, and so one of a tee
  pub behind-active : (s : Slots) (t : TransformId) (operation : TransformOperation) (es : List Effect) → is_resting operation ≡ false → AreOrdered s (Transform t operation ∷ es) → Calm es
  behind-active s t operation es n o = subst (λ b. Behind (not_true b) es) n o.0

  pub behind-tee : (s : Slots) (t : TeeId) (operation : TeeOperation) (es : List Effect) → tee_takes s t operation ≡ true → AreOrdered s (Tee t operation ∷ es) → Calm es
  behind-tee s t operation es n o = subst (λ b. Behind b es) n o.0

  behind-quiet : (b : Bool) (es : List Effect) → b ≡ false → Behind b es
  behind-quiet true es n = cc
  behind-quiet false es n = tt

  behind-calm : (b : Bool) (es : List Effect) → Calm es → Behind b es
  behind-calm true es c = c
  behind-calm false es c = tt

  calm-ordered : (s : Slots) (es : List Effect) → Calm es → AreOrdered s es
  calm-ordered s [] c = tt
  calm-ordered s (e ∷ es) c = (behind-calm (may_take s e) es c.1, calm-ordered s es c.1)

  quiet-ordered : (s : Slots) (cs es : List Effect) → Each (IsQuiet s) cs → AreOrdered s es → AreOrdered s (cs ++ es)
  quiet-ordered s [] es q o = o
  quiet-ordered s (c ∷ cs) es q o = (behind-quiet (may_take s c) (cs ++ es) q.0, quiet-ordered s cs es q.1 o)

  -- what an effect may lead to stays

  pull-same : (s z : Slots) (owner : Owner) → tee_shapes z ≡ tee_shapes s → pull_reaches z owner ≡ pull_reaches s owner
  pull-same s z Host e = refl
  pull-same s z (HalfOf t) e = refl
  pull-same s z (EndOf c) e = refl
  pull-same s z (BranchOf t half) e = ap (λ (bs : List TeeShape). reaches (slice_get bs t.0)) e

  row-may : (e f : Effect) (s : Slots) → may_take (row e s).slots f ≡ may_take s f
  row-may e (PullAlgorithm j) s = rw (row-owner j e s) (pull-same s (row e s).slots (owner_at j s) (row-tee_shapes e s))
  row-may e (Tee t tees.PullBranch) s = ap (λ (bs : List TeeShape). reaches (slice_get bs t.0)) (row-tee_shapes e s)
  row-may e (Tee t operation) s = refl
  row-may e f s = refl

  ordered-later : (e : Effect) (s : Slots) (es : List Effect) → AreOrdered s es → AreOrdered (row e s).slots es
  ordered-later e s [] o = tt
  ordered-later e s (f ∷ es) o = (subst (λ b. Behind b es) (sym (row-may e f s)) o.0, ordered-later e s es o.1)

  -- pull algorithms

  -- that of a stream with a byte controller is the host's
  byte-owner : (o : Option Stream) → is_byte_stream o ≡ true → owner_of o ≡ Host
  byte-owner (Some (ByteStream b)) e = refl
  byte-owner _ e = cc

  byte-pulls : (j : StreamId) (s : Slots) → has_byte j s ≡ true → IsQuiet s (PullAlgorithm j)
  byte-pulls j s e = rw (byte-owner (slice_get s.streams j.0) e) refl

  source-before : (x : TeeShape) (j : StreamId) → x.source.0 < j.0 → j.0 ≤ i.0 → is_from x.source ≡ false
  source-before x j a b = rw (lt-ltb x.source.0 i.0 (omega (arith, a, b))) refl

  owner-pulls : (j : StreamId) (s : Slots) (owner : Owner) → owner_at j s ≡ owner → Below s → j.0 ≤ i.0 → pull_reaches s owner ≡ false
  owner-pulls j s Host is below n = refl
  owner-pulls j s (HalfOf t) is below n = refl
  owner-pulls j s (EndOf c) is below n = refl
  owner-pulls j s (BranchOf t half) is below n = let b = below j t half is in rw b.1.0 (source-before b.0 j b.1.1 n)

  -- that of stream i, or of one made before it, leads to no read of it
  pulls : (j : StreamId) (s : Slots) → Below s → j.0 ≤ i.0 → IsQuiet s (PullAlgorithm j)
  pulls j s below n = owner-pulls j s (owner_at j s) refl below n

  -- what quiet effects cause is quiet

  chunk-quiet : (s : Slots) (v : Value) (request : ReadRequest) → ChunkCauses (IsQuiet s) v request
  chunk-quiet s v (Promise p) = tt
  chunk-quiet s v (PipeRequest p) = refl
  chunk-quiet s v (TeeRequest t) = refl

  end-quiet : (s : Slots) (request : ReadRequest) → EndCauses (IsQuiet s) request
  end-quiet s (Promise p) = tt
  end-quiet s (PipeRequest p) = refl
  end-quiet s (TeeRequest t) = refl

  error-quiet : (s : Slots) (request : ReadRequest) → ErrorCauses (IsQuiet s) request
  error-quiet s (Promise p) = tt
  error-quiet s (PipeRequest p) = refl
  error-quiet s (TeeRequest t) = refl

  -- what an operation of a pipe that is still causes, and one of a transform stream that rests

  pipe-quiet : (z : Slots) (p : PipeId) (operation : PipeOperation) (s : Slots) (o : Option pipe.Slots) → is_still operation ≡ true
      → Each (IsQuiet z) (on_pipe_at (λ ends. pipe_operation p ends operation) p s o).caused
  unfolding pipe.keep_chunk pipe.read_ended pipe.part_settled pipe.no_parts
  pipe-quiet z p operation s None n = tt
  pipe-quiet z p operation s (Some x) n = grind arith

  pub transform-quiet : (z : Slots) (t : TransformId) (operation : TransformOperation) (s : Slots) (o : Option transform.Slots) → is_resting operation ≡ true
      → Each (IsQuiet z) (on_transform_at (λ halves. transform_operation t halves operation) t s o).caused
  unfolding transform.enqueued transform.unblock transform.source_pull transform.sink_close transform.sink_abort transform.source_cancel transform.set_backpressure
  transform-quiet z t operation s None n = tt
  transform-quiet z t operation s (Some x) n = grind arith

  -- and one of a tee

  unless-quiet : (s : Slots) (reason : Option Plain) (j : StreamId) (operation : ReadableOperation) → may_pull operation ≡ false → Each (IsQuiet s) (tee.unless_cancelled reason j operation)
  unless-quiet s None j operation n = (rw n refl, tt)
  unless-quiet s (Some r) j operation n = tt

  branches-quiet : (s : Slots) (operation : ReadableOperation) (x : tee.Slots) → may_pull operation ≡ false → Each (IsQuiet s) (tee.on_branches operation x)
  branches-quiet s operation x n =
      each-append (IsQuiet s) (tee.unless_cancelled x.reason1 x.branch1 operation) (tee.unless_cancelled x.reason2 x.branch2 operation)
      (unless-quiet s x.reason1 x.branch1 operation n) (unless-quiet s x.reason2 x.branch2 operation n)

  fulfil-quiet : (s : Slots) (a : tee.Acts) → Each (IsQuiet s) a.out.effects → Each (IsQuiet s) (tee.fulfil_cancel a).out.effects
  fulfil-quiet s a h =
      either (λ (b : tee.Acts). Each (IsQuiet s) b.out.effects) (tee.is_wanted a.slots && not a.slots.answered) _ a
      (λ e. each-append (IsQuiet s) a.out.effects _ h (refl, tt)) (λ e. h)

  pull-quiet : (s : Slots) (t : TeeId) (a : tee.Acts) (phase : TeePhase) → a.out.effects ≡ [] → is_from a.slots.source ≡ false → Each (IsQuiet s) (tee.pull_in t a phase).out.effects
  pull-quiet s t a Resting none n = rw none (n, tt)
  pull-quiet s t a Reading none n = rw none tt
  pull-quiet s t a Over none n = rw none tt

  close-quiet : (s : Slots) (a : tee.Acts) (phase : TeePhase) → a.out.effects ≡ [] → Each (IsQuiet s) (tee.close_in a phase).out.effects
  close-quiet s a Resting none =
      fulfil-quiet s (tee.causing (tee.on_branches reads.Close a.slots) (tee.with_slots (record a.slots { phase = Over }) a)) (rw none (branches-quiet s reads.Close a.slots refl))
  close-quiet s a Reading none =
      fulfil-quiet s (tee.causing (tee.on_branches reads.Close a.slots) (tee.with_slots (record a.slots { phase = Over }) a)) (rw none (branches-quiet s reads.Close a.slots refl))
  close-quiet s a Over none = rw none tt

  cancel-quiet : (s : Slots) (t : TeeId) (half : Half) (r : Plain) (a : tee.Acts) (reason : Option Plain) → a.out.effects ≡ [] → Each (IsQuiet s) (tee.cancel_by t half r a reason).out.effects
  cancel-quiet s t half r a (Some old) none = rw none tt
  cancel-quiet s t half r a None none = grind (arith, none)

  tee-operation-quiet : (s : Slots) (t : TeeId) (operation : TeeOperation) (a : tee.Acts) → a.out.effects ≡ [] → (operation ≡ tees.PullBranch → is_from a.slots.source ≡ false)
      → (operation ≡ tees.HandChunk → ⊥) → (operation ≡ tees.Handed → ⊥) → Each (IsQuiet s) (tee_operation t operation a).out.effects
  unfolding tee.pull_branch tee.keep_chunk tee.source_closed tee.source_errored tee.cancel_branch tee.reader_settled
  tee-operation-quiet s t tees.PullBranch a none n f g = pull-quiet s t a a.slots.phase none (n refl)
  tee-operation-quiet s t (tees.KeepChunk v) a none n f g = rw none tt
  tee-operation-quiet s t tees.SourceClosed a none n f g = close-quiet s a a.slots.phase none
  tee-operation-quiet s t tees.SourceErrored a none n f g = rw none tt
  tee-operation-quiet s t tees.HandChunk a none n f g = absurd (f refl)
  tee-operation-quiet s t tees.Handed a none n f g = absurd (g refl)
  tee-operation-quiet s t (tees.CancelBranch half r u) a none n f g =
      each-append (IsQuiet s) (tee.cancel_by t half r a (tee.reason_of half a.slots)).out.effects _ (cancel-quiet s t half r a (tee.reason_of half a.slots) none) (refl, tt)
  tee-operation-quiet s t (tees.ReaderSettled (Ok v)) a none n f g = rw none tt
  tee-operation-quiet s t (tees.ReaderSettled (Err r)) a none n f g =
      fulfil-quiet s (tee.causing (Readable a.slots.branch1 (reads.Error r) ∷ Readable a.slots.branch2 (reads.Error r) ∷ []) a) (rw none (refl, (refl, tt)))

  tee-place : (s : Slots) (t : TeeId) (operation : TeeOperation) (o : Option tee.Slots) → slice_get s.tees t.0 ≡ o → tee_takes s t operation ≡ false
      → Each (IsQuiet s) (on_tee_at (tee_operation t operation) t s o).caused
  tee-place s t operation None is n = tt
  tee-place s t operation (Some x) is n =
      let shape : slice_get (tee_shapes s) t.0 ≡ Some (tee_shape x) = map-there tee_shape s.tees t.0 x is in
      tee-operation-quiet s t operation (record { slots = x; out = found s }) refl
      (λ e. sym (ap reaches shape) ∙ (rw e at n)) (λ e. let wrong : true ≡ false = rw e at n in cc) (λ e. let wrong : true ≡ false = rw e at n in cc)

  pub tee-quiet : (t : TeeId) (operation : TeeOperation) (s : Slots) → tee_takes s t operation ≡ false → Each (IsQuiet s) (on_tee_at (tee_operation t operation) t s (slice_get s.tees t.0)).caused
  tee-quiet t operation s n = tee-place s t operation (slice_get s.tees t.0) refl n

  -- and one of a port that does nothing to its stream

  post-quiet : (z : Slots) (c : PortId) (m : Message) (a : cross.Acts) → Each (IsQuiet z) a.out.effects → Each (IsQuiet z) (cross.post c m a).out.effects
  post-quiet z c m a h = either (λ (b : cross.Acts). Each (IsQuiet z) b.out.effects) a.slots.live (cross.posting c m a) a (λ e. h) (λ e. h)

  fail-quiet : (z : Slots) (c : PortId) (m : Message) (a : cross.Acts) (clones : Bool) → Each (IsQuiet z) a.out.effects → Each (IsQuiet z) (cross.post_or_fail c m a clones).out.effects
  fail-quiet z c m a true h = post-quiet z c m a h
  fail-quiet z c m a false h = post-quiet z c (ErrorMessage cross.data_clone) a h

  wait-quiet : (z : Slots) (c : PortId) (d : PromiseId) (p : Option PromiseId) → IsQuiet z (cross.wait_for p c d)
  wait-quiet z c d None = refl
  wait-quiet z c d (Some p) = refl

  unblock-quiet : (z : Slots) (a : cross.Acts) (p : Option PromiseId) → Each (IsQuiet z) a.out.effects → Each (IsQuiet z) (cross.unblock_by a p).out.effects
  unblock-quiet z a None h = h
  unblock-quiet z a (Some p) h = h

  port-does-quiet : (z : Slots) (c : PortId) (clones : Bool) (operation : PortOperation) (a : cross.Acts) → Each (IsQuiet z) a.out.effects → is_going operation ≡ false
      → Each (IsQuiet z) (port_operation c clones operation a).out.effects
  unfolding cross.pull cross.leave cross.close cross.write cross.post_chunk cross.unblock
  port-does-quiet z c clones ports.Pull a h n = post-quiet z c PullMessage a h
  port-does-quiet z c clones (ports.Leave r u) a h n = each-append (IsQuiet z) _ _ (fail-quiet z c (ErrorMessage r) a (is_cloneable r) h) (refl, tt)
  port-does-quiet z c clones (ports.Write u) a h n = each-append (IsQuiet z) a.out.effects _ h (wait-quiet z c _ a.slots.backpressure, (refl, tt))
  port-does-quiet z c clones (ports.WriteGoesOn d) a h n = cc
  port-does-quiet z c clones (ports.PostChunk v d) a h n = each-append (IsQuiet z) _ _ (post-quiet z c (ChunkMessage v) a h) (refl, tt)
  port-does-quiet z c clones (ports.Close u) a h n = each-append (IsQuiet z) _ _ (post-quiet z c CloseMessage a h) (refl, tt)
  port-does-quiet z c clones (ports.Deliver m) a h n = cc
  port-does-quiet z c clones ports.Unblock a h n = unblock-quiet z a a.slots.backpressure h

  pub port-quiet : (z : Slots) (c : PortId) (operation : PortOperation) (s : Slots) (o : Option cross.Slots) → is_going operation ≡ false
      → Each (IsQuiet z) (on_port_at (λ clones. port_operation c clones operation) c s o).caused
  port-quiet z c operation s None n = tt
  port-quiet z c operation s (Some x) n = port-does-quiet z c (clones_at x s) operation (record { slots = x; out = found s }) tt n

  -- an operation of a readable stream that leads to no read of stream i

  quiet-ends : (s : Slots) (j : StreamId) → OfEnds (λ (x : Out). Each (IsQuiet s) x.effects) j
  quiet-ends s j = record {
    settle = λ x p o h. h;
    cancel = λ x r p h. each-append (IsQuiet s) x.effects _ h (refl, tt);
    close = λ x r h. each-append (IsQuiet s) x.effects _ h (refl, tt);
    error = λ x r e h. each-append (IsQuiet s) x.effects _ h (refl, tt);
  }

  by-pulls : (j : StreamId) (operation : ReadableOperation) (s : Slots) → IsQuiet s (PullAlgorithm j) → Each (IsQuiet s) (row (Readable j operation) s).caused
  by-pulls j operation s n = row-causes (IsQuiet s) (Readable j operation) s (record { pull = n; cancel = λ r p. refl; chunk = λ r v. refl; close = λ r. refl; error = λ r e. refl })

  by-kind : (j : StreamId) (operation : ReadableOperation) (s : Slots) (kind : Bool) → kind ≡ has_byte j s → may_pull operation ≡ false → Each (IsQuiet s) (row (Readable j operation) s).caused
  unfolding row
  by-kind j operation s true e n = by-pulls j operation s (byte-pulls j s (sym e))
  by-kind j operation s false e n =
      rw (on_source-readable operation j s (sym e))
      (either (λ (d : Done). Each (IsQuiet s) d.caused) (has_readable j s) (put_readable j s (readable_operation j operation (readable_acts j s))) (nothing s)
      (λ is. ends-do (λ (x : Out). Each (IsQuiet s) x.effects) j (quiet-ends s j) operation (readable_acts j s) n tt) (λ isnt. tt))

  source-quiet : (j : StreamId) (operation : ReadableOperation) (s : Slots) (pulling : Bool) → pulling ≡ may_pull operation → Below s → (pulling && is_from j) ≡ false
      → Each (IsQuiet s) (row (Readable j operation) s).caused
  source-quiet j operation s false e below n = by-kind j operation s (has_byte j s) refl (sym e)
  source-quiet j operation s true e below n = by-pulls j operation s (pulls j s below (let l = ltb-true j.0 i.0 (true_of (nat_lt j.0 i.0) n) in omega (arith, l)))

  byte-quiet : (j : StreamId) (operation : ByteOperation) (s : Slots) (kind : Bool) → kind ≡ has_byte j s → Each (IsQuiet s) (row (Byte j operation) s).caused
  unfolding row
  byte-quiet j operation s true e =
      row-causes (IsQuiet s) (Byte j operation) s
      (record { readable = record { pull = byte-pulls j s (sym e); cancel = λ r p. refl; chunk = λ r v. refl; close = λ r. refl; error = λ r e. refl }; close_with = λ r b. refl })
  byte-quiet j operation s false e = rw (← e) tt

  pull_algorithm-quiet : (j : StreamId) (u : Use) (s : Slots) (owner : Owner) → pull_reaches s owner ≡ false → Each (IsQuiet s) (pull_algorithm j u owner)
  pull_algorithm-quiet j u s Host n = (refl, tt)
  pull_algorithm-quiet j u s (HalfOf t) n = (refl, tt)
  pull_algorithm-quiet j u s (BranchOf t half) n = (n, (refl, tt))
  pull_algorithm-quiet j u s (EndOf c) n = (refl, (refl, tt))

  row-quiet : (e : Effect) (s : Slots) → Below s → may_take s e ≡ false → Each (IsQuiet s) (row e s).caused
  unfolding row
  row-quiet (Readable j operation) s below n = source-quiet j operation s (may_pull operation) refl below n
  row-quiet (Byte j operation) s below n = byte-quiet j operation s (has_byte j s) refl
  row-quiet (Pipe p operation) s below n = pipe-quiet s p operation s (slice_get s.pipes p.0) (true_of (is_still operation) n)
  row-quiet (Transform t operation) s below n = transform-quiet s t operation s (slice_get s.transforms t.0) (true_of (is_resting operation) n)
  row-quiet (Tee t operation) s below n = tee-quiet t operation s n
  row-quiet (Port c operation) s below n = port-quiet s c operation s (slice_get s.ports c.0) n
  row-quiet (PullAlgorithm j) s below n = pull_algorithm-quiet j (React (ReadablePull j) None) s (owner_at j s) n
  row-quiet (CancelAlgorithm j r p) s below n = row-causes (IsQuiet s) (CancelAlgorithm j r p) s (λ call u. refl, (λ t u. refl, (λ t half u. refl, λ c u. refl)))
  row-quiet (CloseAlgorithm j) s below n = row-causes (IsQuiet s) (CloseAlgorithm j) s (λ call u. refl, (λ t u. refl, λ c u. refl))
  row-quiet (AbortAlgorithm j r p) s below n = row-causes (IsQuiet s) (AbortAlgorithm j r p) s (λ call u. refl, (λ t u. refl, λ c u. refl))
  row-quiet (StartAlgorithm j step start) s below n = row-causes (IsQuiet s) (StartAlgorithm j step start) s (λ g u. refl, λ c u. refl)
  row-quiet (ChunkSteps j request v) s below n = row-causes (IsQuiet s) (ChunkSteps j request v) s (chunk-quiet s v request)
  row-quiet (CloseStepsWith j request b) s below n = row-causes (IsQuiet s) (CloseStepsWith j request b) s (end-quiet s request)
  row-quiet (CloseSteps j request) s below n = row-causes (IsQuiet s) (CloseSteps j request) s (end-quiet s request)
  row-quiet (ErrorSteps j request e) s below n = row-causes (IsQuiet s) (ErrorSteps j request e) s (error-quiet s request)
  row-quiet (Writable j operation) s below n = cc
  row-quiet (WriteAlgorithm j) s below n = cc
  row-quiet (Signal a operation) s below n = cc
  row-quiet _ s below n = tt

  -- of those that aren't, only an operation of stream i itself causes steps that give a chunk of it, and nothing but what is quiet

  pub pipe-calm : (p : PipeId) (source dest : StreamId) (e : Effect) → PipeCauses p source dest e → IsNoGift e
  pipe-calm p source dest (ChunkSteps j request v) c = absurd c
  pipe-calm p source dest (CloseStepsWith j request b) c = absurd c
  pipe-calm p source dest _ c = tt

  pub transform-calm : (t : TransformId) (writable readable : StreamId) (e : Effect) → TransformCauses t writable readable e → IsNoGift e
  transform-calm t writable readable (ChunkSteps j request v) c = absurd c
  transform-calm t writable readable (CloseStepsWith j request b) c = absurd c
  transform-calm t writable readable _ c = tt

  pub tee-calm : (t : TeeId) (source first second : StreamId) (e : Effect) → TeeCauses t source first second e → IsNoGift e
  tee-calm t source first second (ChunkSteps j request v) c = absurd c
  tee-calm t source first second (CloseStepsWith j request b) c = absurd c
  tee-calm t source first second _ c = tt

  pub port-calm : (c : PortId) (stream : StreamId) (e : Effect) → PortCauses c stream e → IsNoGift e
  port-calm c stream (ChunkSteps j request v) k = absurd k
  port-calm c stream (CloseStepsWith j request b) k = absurd k
  port-calm c stream _ k = tt

  pub signal-calm : (operation : SignalOperation) → SignalCauses IsNoGift operation
  signal-calm (Add p) = tt
  signal-calm (Forget p) = tt
  signal-calm (Trigger r) = λ p. tt

  own-pulls : (j : StreamId) (s : Slots) → is_same i j ≡ true → Below s → IsQuiet s (PullAlgorithm j)
  own-pulls j s same below = pulls j s below (rw (same_id i j same) (omega arith))

  own-quiet : (e : Effect) (s : Slots) → Below s → is_own e ≡ true → Each (IsQuiet s) (row e s).caused
  own-quiet (Readable j operation) s below m = by-pulls j operation s (own-pulls j s m below)
  own-quiet (Byte j operation) s below m = byte-quiet j operation s (has_byte j s) refl
  own-quiet _ s below m = cc

  row-calm : (e : Effect) (s : Slots) → may_take s e ≡ true → is_own e ≡ false → Calm (row e s).caused
  row-calm (Readable j operation) s m n = row-causes IsNoGift (Readable j operation) s (record { pull = tt; cancel = λ r p. tt; chunk = λ r v. n; close = λ r. tt; error = λ r e. tt })
  row-calm (Byte j operation) s m n = let wrong : true ≡ false = sym m ∙ n in cc
  row-calm (Writable j operation) s m n = row-causes IsNoGift (Writable j operation) s (record { write = tt; close = tt; abort = λ r p. tt; hand_on = λ v. tt; take = λ v t d. tt; post = λ v c d. tt })
  row-calm (PullAlgorithm j) s m n = row-causes IsNoGift (PullAlgorithm j) s (λ c u. tt, (λ t u. tt, (λ t. tt, (λ u. tt, λ c. tt))))
  row-calm (WriteAlgorithm j) s m n = row-causes IsNoGift (WriteAlgorithm j) s (tt, (λ t u. tt, λ c u. tt))
  row-calm (Pipe p operation) s m n = row-causes IsNoGift (Pipe p operation) s (pipe-calm p)
  row-calm (Signal a operation) s m n = row-causes IsNoGift (Signal a operation) s (signal-calm operation)
  row-calm (Transform t operation) s m n = row-causes IsNoGift (Transform t operation) s (transform-calm t)
  row-calm (Tee t operation) s m n = row-causes IsNoGift (Tee t operation) s (tee-calm t)
  row-calm (Port c operation) s m n = row-causes IsNoGift (Port c operation) s (port-calm c)
  row-calm _ s m n = cc

  -- each effect keeps the order
  row-by : (s : Slots) (e : Effect) (es : List Effect) (take own : Bool) → take ≡ may_take s e → own ≡ is_own e → Below s → AreOrdered s (e ∷ es) → AreOrdered s ((row e s).caused ++ es)
  row-by s e es false own t d below o = quiet-ordered s (row e s).caused es (row-quiet e s below (sym t)) o.1
  row-by s e es true false t d below o =
      let behind : Calm es = subst (λ b. Behind b es) (sym t) o.0 in
      calm-ordered s ((row e s).caused ++ es) (each-append IsNoGift (row e s).caused es (row-calm e s (sym t) (sym d)) behind)
  row-by s e es true true t d below o = quiet-ordered s (row e s).caused es (own-quiet e s below (sym d)) o.1

  pub row-ordered : (s : Slots) (e : Effect) (es : List Effect) → Below s → AreOrdered s (e ∷ es) → AreOrdered (row e s).slots ((row e s).caused ++ es)
  row-ordered s e es below o = ordered-later e s ((row e s).caused ++ es) (row-by s e es (may_take s e) (is_own e) refl refl below o)

  -- what calls and jobs begin with gives no chunk

  first-calm : (E : StreamId → Value → Type 0) (e : Effect) → IsFirst E e → IsNoGift e
  first-calm E (ChunkSteps j request v) f = absurd f
  first-calm E (CloseStepsWith j request b) f = absurd f
  first-calm E _ f = tt

  pub call-calm : (c : Call) (s : Slots) → Calm (begin c s).done.caused
  call-calm c s = each-map (IsFirst (Enqueues c)) IsNoGift (first-calm (Enqueues c)) (begin c s).done.caused (begin-first c s)

  pub job-calm : (job : Job) → Calm (job_effects job)
  job-calm job = each-map (IsFirst Never) IsNoGift (first-calm Never) (job_effects job) (job-first job)

-- behind an effect that may take stand no chunk steps, at each moment of each run
pub record Orderly (i : StreamId) (s : Slots) (es : List Effect) : Type 0 where
  pub ordered : AreOrdered i s es
  pub below : Below s

pub orderly-stays : (i : StreamId) → Stays (Orderly i)
orderly-stays i = record {
  row = λ s e es o. record { ordered = row-ordered i s e es o.below o.ordered; below = row-below e s o.below };
  call = λ s c o. record { ordered = calm-ordered i (begin c s).done.slots (begin c s).done.caused (call-calm i c s); below = call-below c s o.below };
  job = λ s job e o. record { ordered = calm-ordered i (with_promises (after_next_job s.promises) s) (job_effects job) (job-calm i job); below = o.below };
  answered = λ s p o. record { ordered = tt; below = o.below };
  older = λ s o. record { ordered = tt; below = o.below };
}

pub orderly-empty : (i : StreamId) → Orderly i empty []
orderly-empty i = record { ordered = tt; below = below-empty }
