-- What a writable end of a port posts from the delivery of an error on: its stream is stopped by it, and posts nothing bad.
use Rattle.std.proofs.Common.{◌≡◌, ℕ, zero, suc, ◌+◌, Bool, true, false, if◌then◌else◌, List, [], ◌∷◌, ◌++◌, map, Option, Some, None, slice_get, refl, sym, ap, subst, ◌∙◌, arith}
use Rattle.ws_value.specs.declared.ids.PipeId.{PipeId}
use Rattle.ws_value.specs.declared.ids.PortId.{PortId}
use Rattle.ws_value.specs.declared.ids.PromiseId.{PromiseId}
use Rattle.ws_value.specs.declared.ids.StreamId.{StreamId}
use Rattle.ws_value.specs.declared.ids.TeeId.{TeeId}
use Rattle.ws_value.specs.declared.value.Message.{Message}
use Rattle.ws_value.specs.declared.value.Message.TheVariants.{Pull as PullMessage, Chunk as ChunkMessage, Error as ErrorMessage}
use Rattle.ws_value.specs.declared.value.Plain.{Plain}
use Rattle.ws_value.specs.Values.{is_cloneable}
use Rattle.ws_steps.specs.Queues.{first_value}
use Rattle.ws_steps.specs.declared.calls.Call.{Call}
use Rattle.ws_steps.specs.declared.calls.Reply.{Reply}
use Rattle.ws_steps.specs.declared.calls.Reply.TheVariants.{Promise as ReplyPromise}
use Rattle.ws_steps.specs.declared.effects.Effect.{Effect}
use Rattle.ws_steps.specs.declared.effects.Effect.TheVariants.{Readable as OnReadable, Byte as OnByte, Writable as OnWritable, Pipe as OnPipe, Signal as OnSignal, Transform as OnTransform, Tee as OnTee, Port as OnPort, StartAlgorithm, PullAlgorithm, CancelAlgorithm, WriteAlgorithm, CloseAlgorithm, AbortAlgorithm, ChunkSteps, CloseSteps, CloseStepsWith, ErrorSteps}
use Rattle.ws_steps.specs.declared.effects.Owner.{Owner}
use Rattle.ws_steps.specs.declared.effects.Owner.TheVariants.{Host, HalfOf, BranchOf, EndOf}
use Rattle.ws_steps.specs.declared.effects.Use.{Use}
use Rattle.ws_steps.specs.declared.pipes.SignalOperation.TheVariants.{Trigger, Add, Forget}
use Rattle.ws_steps.specs.declared.port.PortOperation.{PortOperation}
use Rattle.ws_steps.specs.declared.port.PortOperation.TheVariants as ports
use Rattle.ws_steps.specs.declared.port.Side.TheVariants.{Writable as WritableSide}
use Rattle.ws_steps.specs.declared.readable.ReadRequest.TheVariants.{Promise, Pipe as PipeRequest, Tee as TeeRequest}
use Rattle.ws_steps.specs.Calls.{begin, named}
use Rattle.ws_steps.specs.Cross as cross
use Rattle.ws_steps.specs.Cross.{data_clone, clones_first}
use Rattle.ws_steps.specs.Histories as histories
use Rattle.ws_steps.specs.Histories.{is_same, run_events}
use Rattle.ws_steps.specs.Jobs.{job_effects}
use Rattle.ws_steps.specs.PortHistory.{is_same_port, posted_in}
use Rattle.ws_steps.specs.Promises.{after_next_job, watch}
use Rattle.ws_steps.specs.Run.{Entry, Called, Worked, Heard, step, older, after_event}
use Rattle.ws_steps.specs.Slots.{Slots, Stream, ReadableStream, ByteStream, WritableStream, Done, has_port, port_at, as_port, has_writable, owner_at, clones_at, with_promises}
use Rattle.ws_steps.specs.Turns.{row, cancel_algorithm, abort_algorithm, performed}
use Rattle.ws_laws.proofs.Begin.{begin-makes}
use Rattle.ws_laws.proofs.Causes.{row-causes}
use Rattle.ws_laws.proofs.Ended.{Ended, PortShape, port_shape, port_shapes, row-port_shapes}
use Rattle.ws_laws.proofs.Lists.{Each, each-append, each-map}
use Rattle.ws_laws.proofs.PipeDoes.{PipeCauses}
use Rattle.ws_laws.proofs.PortDoes.{PortCauses}
use Rattle.ws_laws.proofs.Shapes.{WritableOf, stream_shape, map-there}
use Rattle.ws_laws.proofs.Tables.{same_id}
use Rattle.ws_laws.proofs.TeeDoes.{TeeCauses}
use Rattle.ws_laws.proofs.TransformDoes.{TransformCauses}
use Rattle.ws_laws.proofs.Walker.{Stays}
use Rattle.ws_room_laws.proofs.Turns.{performed-kept}
use Rattle.ws_reason_laws.proofs.Known.{Badness}
use Rattle.ws_reason_laws.proofs.Cloned.{Kept, first-clones}
use Rattle.ws_reason_laws.proofs.Fair.{Free}
use Rattle.ws_reason_laws.proofs.Ports.{Clones}
use Rattle.ws_reason_laws.proofs.Sends.{Sends, operation-sends, stopped-sends}
use Rattle.ws_tee_port_laws.proofs.ports.Fitting.{IsBegun, call-begun, job-begun}
use Rattle.ws_tee_port_laws.proofs.ports.Once.{row-leaves, row-mine, by-port}
use Rattle.ws_tee_port_laws.proofs.ports.Posting.{given, given_first}
use Rattle.ws_tee_port_laws.proofs.ports.Told.{posted, posted-append, call-events, next-events, watch-posted}
use Rattle.ws_posted_laws.proofs.Posted.{bad_in, bad_in-append, some_same, MayHere, Calm, Fine, row-caused, begun-calm, given-good, begun-port, taken-first}
use Rattle.ws_posted_laws.proofs.Stopped.{pend, aborts, Down, operation-down, needed-down}
use Rattle.ws_steps.specs.declared.calls.Call.TheVariants.{Deliver}
use Rattle.ws_steps.specs.declared.writable.WritableOperation.{WritableOperation}
use Rattle.ws_steps.specs.declared.writable.WritableOperation.TheVariants as writes
use Rattle.ws_steps.specs.Operations.{port_operation, writable_operation, byte_operation}
use Rattle.ws_steps.specs.Begun as replying
use Rattle.ws_steps.specs.Slots.{writable_at, as_writable, is_writable_stream, on_writable}
use Rattle.ws_steps.specs.Begun.{Begun}
use Rattle.ws_steps.specs.Writable as writable
use Rattle.ws_steps.specs.Writable.{is_writable}
use Rattle.ws_steps.specs.Cross.{post, posting, leave, close, write, post_chunk, go_on, hand_on, write_goes_on, pull, deliver, deliver_to, unblock, unblock_by}
use Rattle.ws_laws.proofs.Apart.{row-streams}
use Rattle.ws_laws.proofs.Ended.{ended-stays}
use Rattle.ws_laws.proofs.Tables.{either, writable_acts, writable_there, on_source-writable, on_byte-writable, on_writable-same, on_writable-other}
use Rattle.ws_laws.proofs.Walker.{run-stays}
use Rattle.ws_tee_port_laws.proofs.ports.Posting.{port_acts}

-- `gave` tells whether what can't be cloned was given to a stream at the end of a port before
module _ (bad : Badness) (me : PipeId) (c : PortId) (i : StreamId) (up : Plain) (gave : Bool) (free : Free bad.of gave) where
  -- where it wasn't, nothing that can't be cloned stands on the agenda
  abbrev pub held : Badness
  held = record { of = λ r. bad.of r + (if gave then 0 else if is_cloneable r then 0 else 1); half = bad.half }

  -- nor in the stream
  abbrev pub Keeps : Slots → Type 0
  Keeps s = gave ≡ false → Kept (writable_at i s)

  abbrev pub C : Effect → Type 0
  C e = Calm held me c i e

  abbrev pub F : Effect → Type 0
  F e = Fine held me c i e

  abbrev pub first_es : List Effect
  first_es = OnPort c (ports.Deliver (ErrorMessage up)) ∷ []

  abbrev pub next_es : List Effect
  next_es = OnWritable i (writes.ErrorIfNeeded up) ∷ OnPort c ports.Unblock ∷ []

  abbrev pub owes : Slots → ℕ
  owes s = pend held.of (writable_at i s).pending_abort

  -- the error comes; then it comes to the stream; and then that is stopped. Or the port isn't entangled
  pub data Stage (s : Slots) (es : List Effect) : Type 0 where
    Coming : es ≡ first_es → owes s ≡ 0 → Keeps s → Stage s es
    Erring : es ≡ next_es → owes s ≡ 0 → Keeps s → Stage s es
    Cold : is_writable (writable_at i s).state ≡ false → owes s ≡ 0 → Keeps s → Each C es → Each F es → Stage s es
    Dead : (port_at c s).live ≡ false → Stage s es

  pub record Late (s : Slots) (es : List Effect) : Type 0 where
    port : slice_get (port_shapes s) c.0 ≡ Some (record { side = WritableSide; stream = i })
    ended : Ended s
    good : bad_in bad.of (posted c s.promises) ≡ 0
    stage : Stage s es

  may : (s : Slots) → Ended s → slice_get (port_shapes s) c.0 ≡ Some (record { side = WritableSide; stream = i }) → MayHere held me c i s
  may s e h = record { port = λ x f. some_same x _ (sym f ∙ h); stream = λ y f. some_same y _ (sym f ∙ e.ends c (record { side = WritableSide; stream = i }) h) }

  -- the port

  port-of : (ps : List cross.Slots) (n : ℕ) (y : PortShape) → slice_get (map port_shape ps) n ≡ Some y → slice_get ps n ≡ Some (as_port (slice_get ps n))
  port-of [] n y e = cc
  port-of (p ∷ ps) zero y e = refl
  port-of (p ∷ ps) (suc n) y e = port-of ps n y e

  there : (s : Slots) (es : List Effect) → Late s es → slice_get s.ports c.0 ≡ Some (port_at c s)
  there s es l = port-of s.ports c.0 _ l.port

  shape-is : (s : Slots) (es : List Effect) → Late s es → port_shape (port_at c s) ≡ record { side = WritableSide; stream = i }
  shape-is s es l = some_same _ _ (sym (map-there port_shape s.ports c.0 (port_at c s) (there s es l)) ∙ l.port)

  dead-given : (clones : Bool) (operation : PortOperation) (x : cross.Slots) → x.live ≡ false → given clones operation x ≡ []
  dead-given clones ports.Pull x h = rw h refl
  dead-given clones (ports.Leave r u) x h = rw h refl
  dead-given clones (ports.Write u) x h = refl
  dead-given clones (ports.WriteGoesOn d) x h = by clones x.backpressure
    where
      by : (b : Bool) (o : Option PromiseId) → given_first b x o ≡ []
      by true None = refl
      by false None = rw h refl
      by b (Some q) = refl
  dead-given clones (ports.PostChunk v d) x h = rw h refl
  dead-given clones (ports.Close u) x h = rw h refl
  dead-given clones (ports.Deliver m) x h = refl
  dead-given clones ports.Unblock x h = refl

  post-live : (m : Message) (a : cross.Acts) → (post c m a).slots.live ≡ a.slots.live
  post-live m a = either (λ (z : cross.Acts). z.slots.live ≡ a.slots.live) a.slots.live (posting c m a) a (λ e. refl) (λ e. refl)

  go-live : (clones : Bool) (d : PromiseId) (a : cross.Acts) (o : Option PromiseId) → a.slots.live ≡ false → (go_on c clones d a o).slots.live ≡ false
  go-live true d a None h = h
  go-live false d a None h = refl
  go-live clones d a (Some q) h = h

  unblock-live : (a : cross.Acts) (o : Option PromiseId) → (unblock_by a o).slots.live ≡ a.slots.live
  unblock-live a None = refl
  unblock-live a (Some q) = refl

  dead-live : (clones : Bool) (operation : PortOperation) (a : cross.Acts) → a.slots.live ≡ false → (port_operation c clones operation a).slots.live ≡ false
  unfolding pull leave write write_goes_on post_chunk close deliver unblock
  dead-live clones ports.Pull a h = post-live PullMessage a ∙ h
  dead-live clones (ports.Leave r u) a h = refl
  dead-live clones (ports.Write u) a h = h
  dead-live clones (ports.WriteGoesOn d) a h = go-live clones d a a.slots.backpressure h
  dead-live clones (ports.PostChunk v d) a h = post-live (ChunkMessage v) a ∙ h
  dead-live clones (ports.Close u) a h = refl
  dead-live clones (ports.Deliver m) a h = either (λ (z : cross.Acts). z.slots.live ≡ false) a.slots.live (deliver_to c m a a.slots.side) a (λ e. let no : true ≡ false = sym e ∙ h in cc) (λ e. h)
  dead-live clones ports.Unblock a h = unblock-live a a.slots.backpressure ∙ h

  -- what it posts

  row-dead : (s : Slots) (e : Effect) (es : List Effect) → Late s (e ∷ es) → (port_at c s).live ≡ false → ((port_at c (row e s).slots).live ≡ false) × (bad_in bad.of (posted c (row e s).slots.promises) ≡ 0)
  row-dead s (OnPort d operation) es l h =
      by-port c (λ (d : PortId). Late s (OnPort d operation ∷ es) → ((port_at c (row (OnPort d operation) s).slots).live ≡ false) × (bad_in bad.of (posted c (row (OnPort d operation) s).slots.promises) ≡ 0)) d
      (λ away l. let k = row-leaves c (OnPort d operation) s away in (ap (λ (o : Option cross.Slots). (as_port o).live) k.1 ∙ h, ap (bad_in bad.of) k.0 ∙ l.good))
      (λ l.
      let at = there s (OnPort c operation ∷ es) l in
      let k = row-mine c operation s (port_at c s) at in
      let g = dead-given (clones_at (port_at c s) s) operation (port_at c s) h in
      let a = bad_in-append bad.of (posted c s.promises) (given (clones_at (port_at c s) s) operation (port_at c s)) in
      let b : bad_in bad.of (given (clones_at (port_at c s) s) operation (port_at c s)) ≡ 0 = ap (bad_in bad.of) g in
      let t = ap (bad_in bad.of) k.told in
      let w = l.good in
      (ap (λ (o : Option cross.Slots). (as_port o).live) k.slot ∙ dead-live (clones_at (port_at c s) s) operation (port_acts c (port_at c s) s.promises) h, omega (arith, a, b, t, w))) l
  row-dead s e es l h = let k = row-leaves c e s tt in (ap (λ (o : Option cross.Slots). (as_port o).live) k.1 ∙ h, ap (bad_in bad.of) k.0 ∙ l.good)

  -- a write that goes on finds a chunk that can be cloned
  abbrev Owns : Slots → Effect → Type 0
  Owns s (OnPort d (ports.WriteGoesOn q)) = gave ≡ false → clones_at (port_at c s) s ≡ true
  Owns s _ = Unit {0}

  self : is_same_port c c ≡ true
  self = grind arith

  calm-down : (operation : PortOperation) → C (OnPort c operation) → Calm bad me c i (OnPort c operation)
  calm-down (ports.Leave r u) m = λ same. let h = m same in omega (arith, h)
  calm-down _ m = tt

  left : (r : Plain) (b : Bool) → gave ≡ b → is_cloneable r ≡ false → held.of r ≡ 0 → bad.of data_clone ≡ 0
  left r true e n h = free e
  left r false e n h = let k : bad.of r + 1 ≡ 0 = rw (e, n) at h in absurd (omega (arith, k))

  went : (clones b : Bool) → gave ≡ b → (gave ≡ false → clones ≡ true) → clones ≡ false → bad.of data_clone ≡ 0
  went clones true e own n = free e
  went clones false e own n = let no : true ≡ false = sym (own e) ∙ n in cc

  can : (s : Slots) (operation : PortOperation) → C (OnPort c operation) → Owns s (OnPort c operation) → Clones bad.of (clones_at (port_at c s) s) operation
  can s (ports.Leave r u) m own = λ n. left r gave refl n (m self)
  can s (ports.WriteGoesOn d) m own = λ n. went (clones_at (port_at c s) s) gave refl own n
  can s _ m own = tt

  row-good : (s : Slots) (e : Effect) (es : List Effect) → Late s (e ∷ es) → C e → Owns s e → bad_in bad.of (posted c (row e s).slots.promises) ≡ 0
  row-good s (OnPort d operation) es l m own =
      by-port c (λ (d : PortId). Late s (OnPort d operation ∷ es) → C (OnPort d operation) → Owns s (OnPort d operation) → bad_in bad.of (posted c (row (OnPort d operation) s).slots.promises) ≡ 0) d
      (λ away l m own. ap (bad_in bad.of) (row-leaves c (OnPort d operation) s away).0 ∙ l.good)
      (λ l m own.
      let k = row-mine c operation s (port_at c s) (there s (OnPort c operation ∷ es) l) in
      let g = given-good bad me c i (clones_at (port_at c s) s) operation (port_at c s) (calm-down operation m) (can s operation m own) in
      let a = bad_in-append bad.of (posted c s.promises) (given (clones_at (port_at c s) s) operation (port_at c s)) in
      let t = ap (bad_in bad.of) k.told in
      let w = l.good in
      omega (arith, a, g, t, w)) l m own
  row-good s e es l m own = ap (bad_in bad.of) (row-leaves c e s tt).0 ∙ l.good

  -- which effects cause an abort

  abbrev NoAbort : Effect → Type 0
  NoAbort (AbortAlgorithm k r q) = ⊥
  NoAbort _ = Unit {0}

  none-fine : (e : Effect) → NoAbort e → F e
  none-fine (AbortAlgorithm k r q) n = absurd n
  none-fine e n = tt

  pipe-none : (p : PipeId) (source dest : StreamId) (e : Effect) → PipeCauses p source dest e → NoAbort e
  pipe-none p source dest e m = grind (arith, m)

  tee-none : (u : TeeId) (source first second : StreamId) (e : Effect) → TeeCauses u source first second e → NoAbort e
  tee-none u source first second e m = grind (arith, m)

  transform-none : (t : _) (w r : StreamId) (e : Effect) → TransformCauses t w r e → NoAbort e
  transform-none t w r e m = grind (arith, m)

  port-none : (d : PortId) (stream : StreamId) (e : Effect) → PortCauses d stream e → NoAbort e
  port-none d stream e m = grind (arith, m)

  cancel-none : (k : StreamId) (r : Plain) (u : Use) (o : Owner) → Each NoAbort (cancel_algorithm k r u o)
  cancel-none k r u Host = (tt, tt)
  cancel-none k r u (HalfOf t) = (tt, tt)
  cancel-none k r u (BranchOf t half) = (tt, tt)
  cancel-none k r u (EndOf d) = (tt, tt)

  abort-none : (k : StreamId) (r : Plain) (u : Use) (o : Owner) → Each NoAbort (abort_algorithm k r u o)
  abort-none k r u Host = (tt, tt)
  abort-none k r u (HalfOf t) = (tt, tt)
  abort-none k r u (BranchOf t half) = (tt, tt)
  abort-none k r u (EndOf d) = (tt, tt)

  abbrev IsNoSink : Effect → Type 0
  IsNoSink (OnWritable k operation) = ⊥
  IsNoSink _ = Unit {0}

  row-none : (e : Effect) (s : Slots) → IsNoSink e → Each NoAbort (row e s).caused
  unfolding row
  row-none (OnReadable k operation) s n = row-causes NoAbort (OnReadable k operation) s (record { pull = tt; cancel = λ r q. tt; chunk = λ q v. tt; close = λ q. tt; error = λ q e. tt })
  row-none (OnByte k operation) s n = row-causes NoAbort (OnByte k operation) s (record { readable = record { pull = tt; cancel = λ r q. tt; chunk = λ q v. tt; close = λ q. tt; error = λ q e. tt }; close_with = λ q b. tt })
  row-none (OnWritable k operation) s n = absurd n
  row-none (OnPipe q operation) s n = row-causes NoAbort (OnPipe q operation) s (λ source dest e n. pipe-none q source dest e n)
  row-none (OnSignal a (Trigger r)) s n = row-causes NoAbort (OnSignal a (Trigger r)) s (λ q. tt)
  row-none (OnSignal a (Add q)) s n = row-causes NoAbort (OnSignal a (Add q)) s tt
  row-none (OnSignal a (Forget q)) s n = row-causes NoAbort (OnSignal a (Forget q)) s tt
  row-none (OnTransform t operation) s n = row-causes NoAbort (OnTransform t operation) s (λ w r e n. transform-none t w r e n)
  row-none (OnTee t operation) s n = row-causes NoAbort (OnTee t operation) s (λ source first second e n. tee-none t source first second e n)
  row-none (OnPort d operation) s n = row-causes NoAbort (OnPort d operation) s (λ stream e n. port-none d stream e n)
  row-none (StartAlgorithm k step start) s n = row-causes NoAbort (StartAlgorithm k step start) s (λ g u. tt, λ d u. tt)
  row-none (PullAlgorithm k) s n = row-causes NoAbort (PullAlgorithm k) s (λ d u. tt, (λ t u. tt, (λ t. tt, (λ u. tt, λ q. tt))))
  row-none (CancelAlgorithm k r q) s n = cancel-none k r _ (owner_at k s)
  row-none (WriteAlgorithm k) s n = row-causes NoAbort (WriteAlgorithm k) s (tt, (λ t u. tt, λ z u. tt))
  row-none (CloseAlgorithm k) s n = row-causes NoAbort (CloseAlgorithm k) s (λ d u. tt, (λ t u. tt, λ z u. tt))
  row-none (AbortAlgorithm k r q) s n = abort-none k r _ (owner_at k s)
  row-none (ChunkSteps k (Promise q) v) s n = tt
  row-none (ChunkSteps k (PipeRequest q) v) s n = (tt, tt)
  row-none (ChunkSteps k (TeeRequest b) v) s n = (tt, tt)
  row-none (CloseSteps k (Promise q)) s n = tt
  row-none (CloseSteps k (PipeRequest q)) s n = (tt, tt)
  row-none (CloseSteps k (TeeRequest b)) s n = (tt, tt)
  row-none (CloseStepsWith k (Promise q) b) s n = tt
  row-none (CloseStepsWith k (PipeRequest q) b) s n = (tt, tt)
  row-none (CloseStepsWith k (TeeRequest t) b) s n = (tt, tt)
  row-none (ErrorSteps k (Promise q) r) s n = tt
  row-none (ErrorSteps k (PipeRequest q) r) s n = (tt, tt)
  row-none (ErrorSteps k (TeeRequest b) r) s n = (tt, tt)
  row-none _ s n = tt

  no-aborts : (es : List Effect) → aborts held.of es ≡ 0 → Each F es
  no-aborts [] h = tt
  no-aborts (AbortAlgorithm k r q ∷ es) h = (λ same. omega (arith, h), no-aborts es (omega (arith, h)))
  no-aborts (e ∷ es) h = (tt, no-aborts es (omega (arith, h)))

  -- the stream

  no-sink-same : (e : Effect) (s : Slots) → IsNoSink e → writable_at i (row e s).slots ≡ writable_at i s
  unfolding row
  no-sink-same (OnReadable k operation) s n = on_source-writable operation k s i
  no-sink-same (OnByte k operation) s n = on_byte-writable (byte_operation k operation) k s i
  no-sink-same (OnWritable k operation) s n = absurd n
  no-sink-same e s n = ap (λ (xs : List Stream). as_writable (slice_get xs i.0)) (row-streams e s tt)

  sink-there : (xs : List Stream) (n : ℕ) (o : Owner) → slice_get (map stream_shape xs) n ≡ Some (WritableOf o) → is_writable_stream (slice_get xs n) ≡ true
  sink-there [] n o e = cc
  sink-there (ReadableStream r ∷ xs) zero o e = cc
  sink-there (ByteStream b ∷ xs) zero o e = cc
  sink-there (WritableStream w ∷ xs) zero o e = refl
  sink-there (x ∷ xs) (suc n) o e = sink-there xs n o e

  has-sink : (s : Slots) → Ended s → slice_get (port_shapes s) c.0 ≡ Some (record { side = WritableSide; stream = i }) → has_writable i s ≡ true
  has-sink s e h = sink-there s.streams i.0 (EndOf c) (e.ends c (record { side = WritableSide; stream = i }) h)

  record Stays-down (s : Slots) (operation : WritableOperation) : Type 0 where
    stopped : is_writable (writable_at i (row (OnWritable i operation) s).slots).state ≡ false
    owed : owes (row (OnWritable i operation) s).slots ≡ 0
    fine : Each F (row (OnWritable i operation) s).caused

  own-down : (s : Slots) (operation : WritableOperation) → has_writable i s ≡ true → owes s ≡ 0 → Down held.of (writable_acts i s) (writable_operation i operation (writable_acts i s)) → Stays-down s operation
  unfolding row
  own-down s operation h o d =
      let at : writable_at i (on_writable (writable_operation i operation) i s).slots ≡ (writable_operation i operation (writable_acts i s)).slots = ap as_writable (on_writable-same (writable_operation i operation) i s h) in
      let es : (on_writable (writable_operation i operation) i s).caused ≡ (writable_operation i operation (writable_acts i s)).out.effects = rw h refl in
      let l = d.less in
      let p : owes (on_writable (writable_operation i operation) i s).slots ≡ pend held.of (writable_operation i operation (writable_acts i s)).slots.pending_abort = ap (λ (w : writable.Slots). pend held.of w.pending_abort) at in
      let q : aborts held.of (on_writable (writable_operation i operation) i s).caused ≡ aborts held.of (writable_operation i operation (writable_acts i s)).out.effects = ap (aborts held.of) es in
      record {
        stopped = ap (λ (w : writable.Slots). is_writable w.state) at ∙ d.stopped;
        owed = omega (arith, l, o, p);
        fine = no-aborts (on_writable (writable_operation i operation) i s).caused (omega (arith, l, o, q));
      }

  own-keeps : (s : Slots) (operation : WritableOperation) → has_writable i s ≡ true → (Sends (writable_acts i s) → Sends (writable_operation i operation (writable_acts i s))) → Keeps s → Keeps (row (OnWritable i operation) s).slots
  unfolding row
  own-keeps s operation h sends keeps g =
      let k = keeps g in
      let sent = sends (record { queue = k.0; abort = k.1; effects = tt }) in
      subst (λ (o : Option Stream). Kept (as_writable o)) (sym (on_writable-same (writable_operation i operation) i s h)) (sent.queue, sent.abort)

  -- where the stream is the same
  still : (s z : Slots) → writable_at i z ≡ writable_at i s → Keeps s → Keeps z
  still s z same keeps g = subst Kept (sym same) (keeps g)

  -- what a write finds that goes on
  owns : (s : Slots) (e : Effect) → (port_at c s).stream ≡ i → Keeps s → Owns s e
  owns s (OnPort d (ports.WriteGoesOn q)) is keeps =
      λ g. subst (λ (j : StreamId). clones_first (first_value (writable_at j s).queue) ≡ true) (sym is) (first-clones (writable_at i s).queue (keeps g).0)
  owns s _ is keeps = tt

  -- each effect

  abbrev G : Slots → Effect → List Effect → Type 0
  G s e es = Late (row e s).slots ((row e s).caused ++ es)

  goes : (s : Slots) (e : Effect) (es : List Effect) → Late s (e ∷ es) → bad_in bad.of (posted c (row e s).slots.promises) ≡ 0 → Stage (row e s).slots ((row e s).caused ++ es) → G s e es
  goes s e es l g t = record { port = rw (row-port_shapes e s) l.port; ended = ended-stays.row s e es l.ended; good = g; stage = t }

  heads : (x y : Effect) (xs ys : List Effect) → x ∷ xs ≡ y ∷ ys → (x ≡ y) × (xs ≡ ys)
  heads x y xs ys h = grind arith

  come-es : (x : cross.Slots) (t : _) (clones : Bool) → x.live ≡ true → x.side ≡ WritableSide → x.stream ≡ i → (port_operation c clones (ports.Deliver (ErrorMessage up)) (port_acts c x t)).out.effects ≡ next_es
  unfolding deliver
  come-es x t clones h side stream = rw (h, side, stream) refl

  coming-row : (s : Slots) → Late s first_es → owes s ≡ 0 → Keeps s → G s (OnPort c (ports.Deliver (ErrorMessage up))) []
  coming-row s l o keeps =
      let e : Effect = OnPort c (ports.Deliver (ErrorMessage up)) in
      let x : cross.Slots = port_at c s in
      let k = row-mine c (ports.Deliver (ErrorMessage up)) s x (there s first_es l) in
      let shape = shape-is s first_es l in
      goes s e [] l (row-good s e [] l tt tt) (by x.live refl)
    where
      by : (b : Bool) → b ≡ (port_at c s).live → Stage (row (OnPort c (ports.Deliver (ErrorMessage up))) s).slots ((row (OnPort c (ports.Deliver (ErrorMessage up))) s).caused ++ [])
      by false f = Dead (row-dead s (OnPort c (ports.Deliver (ErrorMessage up))) [] l (sym f)).0
      by true f =
          let k = row-mine c (ports.Deliver (ErrorMessage up)) s (port_at c s) (there s first_es l) in
          let shape = shape-is s first_es l in
          let es = k.caused ∙ come-es (port_at c s) s.promises (clones_at (port_at c s) s) (sym f) (ap (λ (y : PortShape). y.side) shape) (ap (λ (y : PortShape). y.stream) shape) in
          Erring (ap (λ zs. zs ++ []) es) (ap (λ (w : writable.Slots). pend held.of w.pending_abort) (no-sink-same (OnPort c (ports.Deliver (ErrorMessage up))) s tt) ∙ o)
          (still s (row (OnPort c (ports.Deliver (ErrorMessage up))) s).slots (no-sink-same (OnPort c (ports.Deliver (ErrorMessage up))) s tt) keeps)

  erring-row : (s : Slots) → Late s next_es → owes s ≡ 0 → Keeps s → G s (OnWritable i (writes.ErrorIfNeeded up)) (OnPort c ports.Unblock ∷ [])
  erring-row s l o keeps =
      let e : Effect = OnWritable i (writes.ErrorIfNeeded up) in
      let d = own-down s (writes.ErrorIfNeeded up) (has-sink s l.ended l.port) o (needed-down held.of i up (writable_acts i s)) in
      let cs = row-caused held me c i s l.ended (may s l.ended l.port) e tt tt in
      goes s e (OnPort c ports.Unblock ∷ []) l (row-good s e (OnPort c ports.Unblock ∷ []) l tt tt)
      (Cold d.stopped d.owed (own-keeps s (writes.ErrorIfNeeded up) (has-sink s l.ended l.port) (λ h. operation-sends i (writes.ErrorIfNeeded up) (writable_acts i s) refl h) keeps) (each-append C (row e s).caused (OnPort c ports.Unblock ∷ []) cs (tt, tt)) (each-append F (row e s).caused (OnPort c ports.Unblock ∷ []) d.fine (tt, tt)))

  sink-other : (s : Slots) (k : StreamId) (operation : WritableOperation) → is_same i k ≡ false → writable_at i (row (OnWritable k operation) s).slots ≡ writable_at i s
  unfolding row
  sink-other s k operation n = ap as_writable (on_writable-other (writable_operation k operation) k s i n)

  cold-sink : (s : Slots) (k : StreamId) (operation : WritableOperation) (es : List Effect) → Late s (OnWritable k operation ∷ es) → is_writable (writable_at i s).state ≡ false → owes s ≡ 0 → Keeps s → Each C (OnWritable k operation ∷ es) → Each F (OnWritable k operation ∷ es) → G s (OnWritable k operation) es
  cold-sink s k operation es l w o keeps m f = by (is_same i k) refl
    where
      by : (same : Bool) → same ≡ is_same i k → G s (OnWritable k operation) es
      by false n =
          let e : Effect = OnWritable k operation in
          let at = sink-other s k operation (sym n) in
          let cs = row-caused held me c i s l.ended (may s l.ended l.port) e tt tt in
          let fs : Each F (row e s).caused = row-causes F e s (record { write = tt; close = tt; abort = λ r q same. (let no : true ≡ false = sym same ∙ sym n in cc); hand_on = λ v. tt; take = λ v t d. tt; post = λ v d p. tt }) in
          goes s e es l (row-good s e es l tt tt)
          (Cold (ap (λ (x : writable.Slots). is_writable x.state) at ∙ w) (ap (λ (x : writable.Slots). pend held.of x.pending_abort) at ∙ o) (still s (row e s).slots at keeps) (each-append C (row e s).caused es cs m.1) (each-append F (row e s).caused es fs f.1))
      by true n =
          subst (λ (x : StreamId). Late s (OnWritable x operation ∷ es) → G s (OnWritable x operation) es) (same_id i k (sym n))
          (λ l.
          let e : Effect = OnWritable i operation in
          let d = own-down s operation (has-sink s l.ended l.port) o (operation-down held.of i operation (writable_acts i s) w) in
          let cs = row-caused held me c i s l.ended (may s l.ended l.port) e tt tt in
          goes s e es l (row-good s e es l tt tt)
          (Cold d.stopped d.owed (own-keeps s operation (has-sink s l.ended l.port) (λ h. stopped-sends i operation (writable_acts i s) w h) keeps) (each-append C (row e s).caused es cs m.1) (each-append F (row e s).caused es d.fine f.1))) l

  cold-other : (s : Slots) (e : Effect) (es : List Effect) → IsNoSink e → Late s (e ∷ es) → is_writable (writable_at i s).state ≡ false → owes s ≡ 0 → Keeps s → Each C (e ∷ es) → Each F (e ∷ es) → G s e es
  cold-other s e es n l w o keeps m f =
      let at = no-sink-same e s n in
      let cs = row-caused held me c i s l.ended (may s l.ended l.port) e m.0 f.0 in
      let fs = each-map NoAbort F none-fine (row e s).caused (row-none e s n) in
      let stream = ap (λ (y : PortShape). y.stream) (shape-is s (e ∷ es) l) in
      goes s e es l (row-good s e es l m.0 (owns s e stream keeps))
      (Cold (ap (λ (x : writable.Slots). is_writable x.state) at ∙ w) (ap (λ (x : writable.Slots). pend held.of x.pending_abort) at ∙ o) (still s (row e s).slots at keeps) (each-append C (row e s).caused es cs m.1) (each-append F (row e s).caused es fs f.1))

  cold-row : (s : Slots) (e : Effect) (es : List Effect) → Late s (e ∷ es) → is_writable (writable_at i s).state ≡ false → owes s ≡ 0 → Keeps s → Each C (e ∷ es) → Each F (e ∷ es) → G s e es
  cold-row s (OnWritable k operation) es l w o keeps m f = cold-sink s k operation es l w o keeps m f
  cold-row s e es l w o keeps m f = cold-other s e es tt l w o keeps m f

  row-late : (s : Slots) (e : Effect) (es : List Effect) → Late s (e ∷ es) → G s e es
  row-late s e es l = by l.stage
    where
      by : Stage s (e ∷ es) → G s e es
      by (Coming q o keeps) =
          let h = heads e (OnPort c (ports.Deliver (ErrorMessage up))) es [] q in
          subst (λ (x : Effect). G s x es) (sym h.0) (subst (λ ys. G s (OnPort c (ports.Deliver (ErrorMessage up))) ys) (sym h.1) (coming-row s (subst (λ zs. Late s zs) q l) o keeps))
      by (Erring q o keeps) =
          let h = heads e (OnWritable i (writes.ErrorIfNeeded up)) es (OnPort c ports.Unblock ∷ []) q in
          subst (λ (x : Effect). G s x es) (sym h.0) (subst (λ ys. G s (OnWritable i (writes.ErrorIfNeeded up)) ys) (sym h.1) (erring-row s (subst (λ zs. Late s zs) q l) o keeps))
      by (Cold w o keeps m f) = cold-row s e es l w o keeps m f
      by (Dead h) = let k = row-dead s e es l h in goes s e es l k.1 (Dead k.0)

  -- calls, jobs and runs

  kept : {A : Type 0} (xs : List A) (y x : A) (n : ℕ) → slice_get xs n ≡ Some x → slice_get (xs ++ y ∷ []) n ≡ Some x
  kept [] y x n e = cc
  kept (z ∷ xs) y x zero e = e
  kept (z ∷ xs) y x (suc n) e = kept xs y x n e

  begun-sink : (call : Call) (s : Slots) (x : Stream) → slice_get s.streams i.0 ≡ Some x → slice_get (begin call s).done.slots.streams i.0 ≡ Some x
  begun-sink call s x h = begin-makes (λ z. slice_get z.streams i.0 ≡ Some x) (record {
    promise = λ z h. h;
    locks = λ z ls h. h;
    hosts = λ z hs h. h;
    pipe = λ z source dest prevent signal promise h. h;
    signal = λ z h. h;
    transform = λ z kind w r change h. h;
    tee = λ z source first second cancel h. h;
    port = λ z side stream backpressure h. h;
    bytes = λ z mark auto h. kept z.streams _ x i.0 h;
    byob_requests = λ z hs h. h;
    readable = λ z o mark size h. kept z.streams _ x i.0 h;
    writable = λ z o mark size h. kept z.streams _ x i.0 h;
  }) call s h

  begun-live : (call : Call) (s : Slots) (x : cross.Slots) → slice_get s.ports c.0 ≡ Some x → slice_get (begin call s).done.slots.ports c.0 ≡ Some x
  begun-live call s x h = begin-makes (λ z. slice_get z.ports c.0 ≡ Some x) (record {
    promise = λ z h. h;
    locks = λ z ls h. h;
    hosts = λ z hs h. h;
    pipe = λ z source dest prevent signal promise h. h;
    signal = λ z h. h;
    transform = λ z kind w r change h. h;
    tee = λ z source first second cancel h. h;
    port = λ z side stream backpressure h. kept z.ports _ x c.0 h;
    bytes = λ z mark auto h. h;
    byob_requests = λ z hs h. h;
    readable = λ z o mark size h. h;
    writable = λ z o mark size h. h;
  }) call s h

  begun-fine : (e : Effect) → IsBegun e → F e
  begun-fine e b = grind (arith, b)

  call-late : (s : Slots) (call : Call) → Late s [] → Late (begin call s).done.slots (begin call s).done.caused
  call-late s call l =
      let at = writable_there (slice_get s.streams i.0) (has-sink s l.ended l.port) in
      let now = begun-sink call s (WritableStream (writable_at i s)) at in
      let p = begun-live call s (port_at c s) (there s [] l) in
      record {
        port = begun-port bad me c i call s _ l.port;
        ended = ended-stays.call s call l.ended;
        good = ap (λ es. bad_in bad.of (posted_in c es)) (call-events call s) ∙ l.good;
        stage = by (ap as_writable now) (ap (λ (o : Option cross.Slots). (as_port o).live) p) l.stage;
      }
    where
      by : writable_at i (begin call s).done.slots ≡ writable_at i s → (port_at c (begin call s).done.slots).live ≡ (port_at c s).live → Stage s [] → Stage (begin call s).done.slots (begin call s).done.caused
      by same live (Coming q o keeps) = cc
      by same live (Erring q o keeps) = cc
      by same live (Cold w o keeps m f) = Cold (ap (λ (x : writable.Slots). is_writable x.state) same ∙ w) (ap (λ (x : writable.Slots). pend held.of x.pending_abort) same ∙ o) (still s (begin call s).done.slots same keeps) (each-map IsBegun C (begun-calm held me c i) (begin call s).done.caused (call-begun call s)) (each-map IsBegun F begun-fine (begin call s).done.caused (call-begun call s))
      by same live (Dead h) = Dead (live ∙ h)

  -- where the slots are alike
  alike-stage : (s z : Slots) (es : List Effect) → writable_at i z ≡ writable_at i s → port_at c z ≡ port_at c s → Each C es → Each F es → Stage s [] → Stage z es
  alike-stage s z es same live m f (Coming q o keeps) = cc
  alike-stage s z es same live m f (Erring q o keeps) = cc
  alike-stage s z es same live m f (Cold w o keeps n g) = Cold (ap (λ (x : writable.Slots). is_writable x.state) same ∙ w) (ap (λ (x : writable.Slots). pend held.of x.pending_abort) same ∙ o) (still s z same keeps) m f
  alike-stage s z es same live m f (Dead h) = Dead (ap (λ (x : cross.Slots). x.live) live ∙ h)

  late-stays : Stays Late
  late-stays = record {
    row = row-late;
    call = call-late;
    job = λ s job e l. record { port = l.port; ended = l.ended; good = ap (λ es. bad_in bad.of (posted_in c es)) (next-events s.promises) ∙ l.good; stage = alike-stage s (with_promises (after_next_job s.promises) s) (job_effects job) refl refl (each-map IsBegun C (begun-calm held me c i) (job_effects job) (job-begun job)) (each-map IsBegun F begun-fine (job_effects job) (job-begun job)) l.stage };
    answered = λ s p l. record { port = l.port; ended = l.ended; good = ap (bad_in bad.of) (watch-posted c p s.promises) ∙ l.good; stage = alike-stage s (with_promises (watch p s.promises) s) [] refl refl tt tt l.stage };
    older = λ s l. record { port = l.port; ended = l.ended; good = l.good; stage = alike-stage s (older s) [] refl refl tt tt l.stage };
  }

  heard-late : (s : Slots) → Late s [] → Late (after_event s) []
  heard-late s l = let h = taken-first bad me c i s.promises.events in let g = l.good in record { port = l.port; ended = l.ended; good = omega (arith, h, g); stage = alike-stage s (after_event s) [] refl refl tt tt l.stage }

  taken-good : (x : Entry) (s : Slots) → bad_in bad.of (posted c s.promises) ≡ 0 → bad_in bad.of (posted_in c (histories.taken_in_step s x)) ≡ 0
  taken-good (Called call) s h = refl
  taken-good Worked s h = refl
  taken-good Heard s h = let g = taken-first bad me c i s.promises.events in omega (arith, h, g)

  pub run-late : (xs : List Entry) (s : Slots) → Late s [] → bad_in bad.of (posted_in c (run_events xs s)) ≡ 0
  run-late [] s l = l.good
  run-late (x ∷ xs) s l =
      let rest = run-late xs (step s x) (run-stays Late late-stays heard-late (x ∷ []) s l) in
      let first = taken-good x s l.good in
      let a = ap (bad_in bad.of) (posted-append c (histories.taken_in_step s x) (run_events xs (step s x))) in
      let b = bad_in-append bad.of (posted_in c (histories.taken_in_step s x)) (posted_in c (run_events xs (step s x))) in
      omega (arith, rest, first, a, b)

  -- the error comes

  begun-is : (s : Slots) → has_port c s ≡ true → begin (Deliver c (ErrorMessage up)) s ≡ replying.does first_es s
  unfolding begin
  begun-is s h = rw h refl

  performed-late : (d : Done) → Late d.slots d.caused → Late (performed d) []
  performed-late d l = performed-kept (λ ms s es. Late s es) (λ ms s e es k. row-late s e es k) d l

  named-late : (reply : Reply) (s : Slots) → Late s [] → Late (older (named reply s)) []
  named-late (ReplyPromise q) s l = late-stays.older _ (late-stays.answered s q l)
  named-late _ s l = late-stays.older s l

  pub first-late : (s : Slots) → has_port c s ≡ true → slice_get (port_shapes s) c.0 ≡ Some (record { side = WritableSide; stream = i }) → Ended s → bad_in bad.of (posted c s.promises) ≡ 0 → owes s ≡ 0 → Keeps s → Late (step s (Called (Deliver c (ErrorMessage up)))) []
  first-late s h p e g o keeps =
      let call : Call = Deliver c (ErrorMessage up) in
      let start : Late s first_es = record { port = p; ended = e; good = g; stage = Coming refl o keeps } in
      let is = begun-is s h in
      let begun : Late (begin call s).done.slots (begin call s).done.caused = subst (λ (b : Begun). Late b.done.slots b.done.caused) (sym is) start in
      named-late (begin call s).reply (performed (begin call s).done) (performed-late (begin call s).done begun)
