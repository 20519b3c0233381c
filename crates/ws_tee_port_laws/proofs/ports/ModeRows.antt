-- What may be read and cancelled within a step: what each effect causes is of the same kind.
use Rattle.std.proofs.Common.{◌≡◌, ℕ, zero, suc, Bool, true, false, not, ◌&&◌, ◌||◌, List, [], ◌∷◌, ◌++◌, map, Option, Some, None, Ok, Err, inl, inr, ⊎_elim, slice_get, refl, sym, ◌∙◌, subst, arith}
use Rattle.ws_tee_port_laws.proofs.ports.Fitting.{is-side}
use Rattle.ws_tee_port_laws.proofs.ports.Posting.{post-does}
use Rattle.ws_tee_port_laws.proofs.ports.Fitting.{writable-shape}
use Rattle.ws_tee_port_laws.proofs.ports.Fitting.{bytes-shape}
use Rattle.ws_value.specs.declared.ids.PipeId.{PipeId}
use Rattle.ws_value.specs.declared.ids.PortId.{PortId}
use Rattle.ws_value.specs.declared.ids.PromiseId.{PromiseId}
use Rattle.ws_value.specs.declared.ids.SignalId.{SignalId}
use Rattle.ws_value.specs.declared.ids.StreamId.{StreamId}
use Rattle.ws_value.specs.declared.ids.TeeId.{TeeId}
use Rattle.ws_value.specs.declared.value.Message.{Message}
use Rattle.ws_value.specs.declared.value.Message.TheVariants.{Pull as PullMessage, Chunk as ChunkMessage, Close as CloseMessage, Error as ErrorMessage}
use Rattle.ws_value.specs.declared.value.Plain.{Plain}
use Rattle.ws_value.specs.declared.value.Value.{Value}
use Rattle.ws_steps.specs.declared.byte.ByteOperation.{ByteOperation}
use Rattle.ws_steps.specs.declared.effects.Effect.{Effect}
use Rattle.ws_steps.specs.declared.effects.Effect.TheVariants.{Readable as OnReadable, Byte, Writable as OnWritable, Pipe as OnPipe, Signal as OnSignal, Transform as OnTransform, Tee as OnTee, Port as OnPort, StartAlgorithm, PullAlgorithm, CancelAlgorithm, WriteAlgorithm, CloseAlgorithm, AbortAlgorithm, ChunkSteps, CloseSteps, CloseStepsWith, ErrorSteps, Give, Settle, CallHost}
use Rattle.ws_steps.specs.declared.effects.Owner.{Owner}
use Rattle.ws_steps.specs.declared.effects.Owner.TheVariants.{Host, HalfOf, BranchOf, EndOf}
use Rattle.ws_steps.specs.declared.effects.Use.{Use}
use Rattle.ws_steps.specs.declared.pipes.PipeOperation.{PipeOperation}
use Rattle.ws_steps.specs.declared.pipes.SignalOperation.{SignalOperation}
use Rattle.ws_steps.specs.declared.pipes.SignalOperation.TheVariants.{Add, Forget, Trigger}
use Rattle.ws_steps.specs.declared.port.PortOperation.{PortOperation}
use Rattle.ws_steps.specs.declared.port.PortOperation.TheVariants as ports
use Rattle.ws_steps.specs.declared.port.Side.{Side}
use Rattle.ws_steps.specs.declared.port.Side.TheVariants.{Readable as ReadableSide, Writable as WritableSide}
use Rattle.ws_steps.specs.declared.readable.ReadRequest.{ReadRequest}
use Rattle.ws_steps.specs.declared.readable.ReadRequest.TheVariants.{Promise, Pipe as PipeRequest, Tee as TeeRequest}
use Rattle.ws_steps.specs.declared.readable.ReadableOperation.{ReadableOperation}
use Rattle.ws_steps.specs.declared.readable.ReadableOperation.TheVariants as reads
use Rattle.ws_steps.specs.declared.tee.Half.{Half}
use Rattle.ws_steps.specs.declared.tee.TeeOperation.{TeeOperation}
use Rattle.ws_steps.specs.declared.tee.TeeOperation.TheVariants as tees
use Rattle.ws_steps.specs.declared.tee.TeePhase.{TeePhase}
use Rattle.ws_steps.specs.declared.tee.TeePhase.TheVariants.{Resting, Reading, Over}
use Rattle.ws_steps.specs.declared.transform.Taker.{Taker}
use Rattle.ws_steps.specs.declared.transform.Taker.TheVariants.{ToHost, ToTransform, ToPort}
use Rattle.ws_steps.specs.declared.transform.TransformId.{TransformId}
use Rattle.ws_steps.specs.declared.transform.TransformOperation.{TransformOperation}
use Rattle.ws_steps.specs.declared.writable.WritableOperation.{WritableOperation}
use Rattle.ws_steps.specs.declared.writable.WritableOperation.TheVariants as writes
use Rattle.ws_steps.specs.Cross as cross
use Rattle.ws_steps.specs.Operations.{readable_operation, pipe_operation, tee_operation, transform_operation, port_operation}
use Rattle.ws_steps.specs.Pipes as pipe
use Rattle.ws_steps.specs.Promises.{next_id}
use Rattle.ws_steps.specs.Slots.{ReadableStream, ByteStream, WritableStream, Slots, Stream, Done, nothing, found, has_readable, has_byte, has_writable, owner_of, owner_at, put_readable, on_pipe_at, on_transform_at, on_tee_at, on_port_at, ends_at, halves_at, clones_at}
use Rattle.ws_steps.specs.Tee as tee
use Rattle.ws_steps.specs.Transform as transform
use Rattle.ws_steps.specs.Turns.{row, pull_algorithm, cancel_algorithm, abort_algorithm}
use Rattle.ws_steps.specs.Writable as writable
use Rattle.ws_laws.proofs.Ended.{PortShape, port_shapes, Ended}
use Rattle.ws_laws.proofs.Halves.{Halved}
use Rattle.ws_laws.proofs.Lists.{Each, each-append, each-map}
use Rattle.ws_laws.proofs.Causes.{ReadableCauses, ChunkCauses, EndCauses, ErrorCauses, SignalCauses, row-causes}
use Rattle.ws_laws.proofs.Shapes.{StreamShape, ReadableOf, WritableOf, stream_shape, stream_shapes, transform_shape, map-there}
use Rattle.ws_laws.proofs.Tables.{either, readable_acts, writable_acts}
use Rattle.ws_laws.proofs.TransformDoes.{TransformCauses, transform-causes}
use Rattle.ws_tee_port_laws.proofs.ports.Fitting.{writable-caused, bytes-caused, owned-shape}
use Rattle.ws_tee_port_laws.proofs.ports.Modes.{IsPlain, NoEnd, may_read, may_pipe, may_tee, May, pipe-may, IsPlainShape}
use Rattle.ws_tee_port_laws.proofs.ports.Posting.{port_acts, Does, leave-does, close-does}
use Rattle.ws_tee_port_laws.proofs.ports.Reading.{is_cancel, is_taking, operation-takes}

-- what a tee causes
module _ (xs : List StreamShape) (ps : List PortShape) (reading cancelling : Bool) (me : TeeId) where
  abbrev Mays : Effect → Type 0
  Mays = May xs ps reading cancelling

  abbrev Keeps : tee.Acts → tee.Acts → Type 0
  Keeps a b = Each Mays a.out.effects → Each Mays b.out.effects

  then-may : (a : tee.Acts) (es : List Effect) → Each Mays es → Each Mays a.out.effects → Each Mays (a.out.effects ++ es)
  then-may a es m h = each-append Mays a.out.effects es h m

  unless-may : (o : Option Plain) (i : StreamId) (operation : ReadableOperation) → may_read reading cancelling operation ≡ true → Each Mays (tee.unless_cancelled o i operation)
  unless-may None i operation m = (inr m, tt)
  unless-may (Some r) i operation m = tt

  branches-may : (operation : ReadableOperation) (x : tee.Slots) → may_read reading cancelling operation ≡ true → Each Mays (tee.on_branches operation x)
  branches-may operation x m =
      each-append Mays (tee.unless_cancelled x.reason1 x.branch1 operation) (tee.unless_cancelled x.reason2 x.branch2 operation) (unless-may x.reason1 x.branch1 operation m) (unless-may x.reason2 x.branch2 operation m)

  fulfil-may : (a : tee.Acts) → Keeps a (tee.fulfil_cancel a)
  fulfil-may a h = either (λ (b : tee.Acts). Each Mays b.out.effects) (tee.is_wanted a.slots && not a.slots.answered) _ a (λ e. then-may a _ (tt, tt) h) (λ e. h)

  close-may : (a : tee.Acts) → Keeps a (tee.close_branches a)
  close-may a h =
      fulfil-may (tee.causing (tee.on_branches reads.Close a.slots) (tee.with_slots (record a.slots { phase = Over }) a)) (then-may a (tee.on_branches reads.Close a.slots) (branches-may reads.Close a.slots refl) h)

  closed-may : (a : tee.Acts) (phase : TeePhase) → Keeps a (tee.close_in a phase)
  closed-may a Resting h = close-may a h
  closed-may a Reading h = close-may a h
  closed-may a Over h = h

  takes : reading ≡ true → (operation : ReadableOperation) → is_cancel operation ≡ false → may_read reading cancelling operation ≡ true
  takes e operation n = rw (e, n) (or_true (is_taking operation))
    where
      or_true : (b : Bool) → (not b || true) && true ≡ true
      or_true b = grind arith

  cancels : cancelling ≡ true → (operation : ReadableOperation) → is_taking operation ≡ false → may_read reading cancelling operation ≡ true
  cancels e operation n = rw (e, n) (or_true (is_cancel operation))
    where
      or_true : (b : Bool) → not b || true ≡ true
      or_true b = grind arith

  pull-may : reading ≡ true → (a : tee.Acts) (phase : TeePhase) → Keeps a (tee.pull_in me a phase)
  pull-may m a Resting h = then-may a _ (inr (takes m (reads.Read (TeeRequest me)) refl), tt) h
  pull-may m a Reading h = h
  pull-may m a Over h = h

  hand-may : reading ≡ true → (a : tee.Acts) (held : Option Value) → Keeps a (tee.hand_held me a held)
  hand-may m a None h = h
  hand-may m a (Some v) h =
      then-may a (tee.on_branches (reads.Enqueue v) a.slots ++ OnTee me tees.Handed ∷ [])
      (each-append Mays (tee.on_branches (reads.Enqueue v) a.slots) _ (branches-may (reads.Enqueue v) a.slots (takes m (reads.Enqueue v) refl)) (m, tt)) h

  again-may : reading ≡ true → (a : tee.Acts) (asked : Bool) → Keeps a (tee.again me a asked)
  unfolding tee.pull_branch
  again-may m a true h = pull-may m a a.slots.phase h
  again-may m a false h = h

  source-may : cancelling ≡ true → (a : tee.Acts) → Keeps a (tee.cancel_source me a)
  source-may m a h = grind (arith, each-append, h, m)

  cancel-may : cancelling ≡ true → (half : Half) (r : Plain) (a : tee.Acts) (reason : Option Plain) → Keeps a (tee.cancel_by me half r a reason)
  cancel-may m half r a (Some old) h = h
  cancel-may m half r a None h =
      let b : tee.Acts = tee.with_slots (tee.with_reason half r a.slots) a in
      either (λ (z : tee.Acts). Each Mays z.out.effects) (tee.is_wanted b.slots) b (tee.cancel_source me b) (λ e. h) (λ e. source-may m b h)

  pub tee-may : (operation : TeeOperation) (a : tee.Acts) → may_tee reading cancelling operation ≡ true → Keeps a (tee_operation me operation a)
  unfolding tee.pull_branch tee.keep_chunk tee.source_closed tee.source_errored tee.hand_chunk tee.handed tee.cancel_branch tee.reader_settled
  tee-may tees.PullBranch a m h = pull-may m a a.slots.phase h
  tee-may (tees.KeepChunk v) a m h = h
  tee-may tees.SourceClosed a m h = closed-may a a.slots.phase h
  tee-may tees.SourceErrored a m h = h
  tee-may tees.HandChunk a m h = hand-may m a a.slots.held h
  tee-may tees.Handed a m h = again-may m (tee.with_slots (record a.slots { phase = tee.rested a.slots.phase }) a) a.slots.read_again h
  tee-may (tees.CancelBranch half r u) a m h =
      then-may (tee.cancel_by me half r a (tee.reason_of half a.slots)) _ (tt, tt) (cancel-may m half r a (tee.reason_of half a.slots) h)
  tee-may (tees.ReaderSettled (Ok v)) a m h = h
  tee-may (tees.ReaderSettled (Err r)) a m h =
      fulfil-may (tee.causing (OnReadable a.slots.branch1 (reads.Error r) ∷ OnReadable a.slots.branch2 (reads.Error r) ∷ []) a) (then-may a _ (inr refl, (inr refl, tt)) h)

-- each effect
module _ (s : Slots) (ended : Ended s) (halved : Halved s) (reading cancelling : Bool) where
  abbrev Kind : Effect → Type 0
  Kind = May (stream_shapes s) (port_shapes s) reading cancelling

  abbrev Plain_at : StreamId → Type 0
  Plain_at i = NoEnd (stream_shapes s) i

  -- a stream with a byte controller is no end
  bytes-plain : (i : StreamId) → has_byte i s ≡ true → Plain_at i
  bytes-plain i h = rw (bytes-shape i s h) tt

  plain-causes : (i : StreamId) → Plain_at i → ReadableCauses Kind i
  plain-causes i n = record { pull = inr n; cancel = λ r p. inr n; chunk = λ q v. tt; close = λ q. tt; error = λ q e. tt }

  taken-of : (b c : Bool) → (not b || c) ≡ true → b ≡ true → c ≡ true
  taken-of b c m e = grind arith

  and-of : (b c : Bool) → b && c ≡ true → (b ≡ true) × (c ≡ true)
  and-of b c m = (grind arith, grind arith)

  readable-may : (i : StreamId) (operation : ReadableOperation) → Kind (OnReadable i operation) → Each Kind (row (OnReadable i operation) s).caused
  unfolding row
  readable-may i operation (inl n) = row-causes Kind (OnReadable i operation) s (plain-causes i n)
  readable-may i operation (inr m) = by (has_byte i s) refl
    where
      by : (bytes : Bool) → bytes ≡ has_byte i s → Each Kind (row (OnReadable i operation) s).caused
      by true e = row-causes Kind (OnReadable i operation) s (plain-causes i (bytes-plain i (sym e)))
      by false e =
          rw (← e)
          (either (λ (d : Done). Each Kind d.caused) (has_readable i s) (put_readable i s (readable_operation i operation (readable_acts i s))) (nothing s)
          (λ there. let both = and-of _ _ m in
          operation-takes Kind i reading cancelling (record { pull = λ p. inl p; cancel = λ c r p. inl c; chunk = λ q v. tt; close = λ q. tt; error = λ q e. tt }) operation (readable_acts i s)
          (taken-of (is_taking operation) reading both.0) (taken-of (is_cancel operation) cancelling both.1) tt) (λ absent. tt))

  byte-may : (i : StreamId) (operation : ByteOperation) → Each Kind (row (Byte i operation) s).caused
  byte-may i operation = bytes-caused Kind i s operation (λ h. record { readable = plain-causes i (bytes-plain i h); close_with = λ q b. tt })

  no_readable : (i : StreamId) → has_writable i s ≡ true → (o : Owner) → slice_get (stream_shapes s) i.0 ≡ Some (ReadableOf o) → ⊥
  no_readable i h o e = let k : Some (WritableOf (writable_acts i s).slots.owner) ≡ Some (ReadableOf o) = sym (writable-shape i s h) ∙ e in cc

  taken-may : (i : StreamId) (operation : WritableOperation) → Kind (OnWritable i operation) → (taker : Taker) (v : Value) → operation ≡ writes.HandOn taker → Kind (writable.taken_by i v taker)
  taken-may i operation k ToHost v e = tt
  taken-may i operation k (ToTransform t d) v e = tt
  taken-may i operation k (ToPort c d) v e = absurd (subst (λ (w : WritableOperation). Kind (OnWritable i w)) e k)

  write-may : (i : StreamId) (operation : WritableOperation) → Kind (OnWritable i operation) → Each Kind (row (OnWritable i operation) s).caused
  write-may i operation k =
      writable-caused Kind i s operation (λ h. record { write = tt; close = tt; abort = λ r p. no_readable i h; take = taken-may i operation k })

  piped-may : (p : PipeId) (operation : PipeOperation) (o : Option pipe.Slots) → may_pipe cancelling operation ≡ true → Each Kind (on_pipe_at (λ ends. pipe_operation p ends operation) p s o).caused
  piped-may p operation None m = tt
  piped-may p operation (Some x) m = pipe-may (stream_shapes s) (port_shapes s) p reading cancelling (ends_at x s) operation (record { slots = x; out = found s }) m tt

  teed-may : (t : TeeId) (operation : TeeOperation) (o : Option tee.Slots) → may_tee reading cancelling operation ≡ true → Each Kind (on_tee_at (tee_operation t operation) t s o).caused
  teed-may t operation None m = tt
  teed-may t operation (Some x) m = tee-may (stream_shapes s) (port_shapes s) reading cancelling t operation (record { slots = x; out = found s }) m tt

  -- the readable half of a transform stream is no end
  half-plain : (t : TransformId) (x : transform.Slots) → slice_get s.transforms t.0 ≡ Some x → Plain_at x.readable
  half-plain t x is = rw ((halved.halves t (transform_shape x) (map-there transform_shape s.transforms t.0 x is)).0) tt

  transform-one : (t : TransformId) (w r : StreamId) → Plain_at r → (e : Effect) → TransformCauses t w r e → Kind e
  transform-one t w r n (OnReadable i (reads.Enqueue v)) c = inl (rw c n)
  transform-one t w r n (OnReadable i reads.Close) c = inr refl
  transform-one t w r n (OnReadable i (reads.Error e)) c = inr refl
  transform-one t w r n (OnReadable i operation) c = absurd c
  transform-one t w r n (OnWritable i (writes.ErrorIfNeeded e)) c = tt
  transform-one t w r n (OnWritable i (writes.HandOn (ToTransform u d))) c = tt
  transform-one t w r n (OnWritable i operation) c = absurd c
  transform-one t w r n (OnTransform u operation) c = tt
  transform-one t w r n (Give gift u) c = tt
  transform-one t w r n (Settle p o) c = tt
  transform-one t w r n (CallHost call u) c = tt
  transform-one t w r n e c = absurd c

  transformed-may : (t : TransformId) (operation : TransformOperation) (o : Option transform.Slots) → slice_get s.transforms t.0 ≡ o
      → Each Kind (on_transform_at (λ halves. transform_operation t halves operation) t s o).caused
  transformed-may t operation None is = tt
  transformed-may t operation (Some x) is =
      let a : transform.Acts = record { slots = x; out = found s } in
      each-map (TransformCauses t x.writable x.readable) Kind (transform-one t x.writable x.readable (half-plain t x is)) _ (transform-causes t (halves_at x s) operation a tt).1.1.1

  -- a port

  unblock-may : (x : cross.Slots) (o : Option PromiseId) → Each Kind (cross.unblock_by (port_acts (record { 0 = 0 }) x s.promises) o).out.effects
  unblock-may x None = tt
  unblock-may x (Some p) = tt

  wait-may : (c : PortId) (d : PromiseId) (o : Option PromiseId) → Kind (cross.wait_for o c d)
  wait-may c d None = tt
  wait-may c d (Some p) = tt

  takes-one : reading ≡ true → (operation : ReadableOperation) → is_cancel operation ≡ false → may_read reading cancelling operation ≡ true
  takes-one e operation n = rw (e, n) (or_true (is_taking operation))
    where
      or_true : (b : Bool) → (not b || true) && true ≡ true
      or_true b = grind arith

  module _ (c : PortId) (x : cross.Slots) where
    abbrev Found : cross.Acts
    Found = port_acts c x s.promises

    deliver-may : reading ≡ true → (m : Message) (side : Side) → Each Kind (cross.deliver_to c m Found side).out.effects
    unfolding cross.unblock
    deliver-may r PullMessage ReadableSide = tt
    deliver-may r (ChunkMessage v) ReadableSide = (inr (takes-one r (reads.Enqueue v) refl), tt)
    deliver-may r CloseMessage ReadableSide = (inr refl, tt)
    deliver-may r (ErrorMessage e) ReadableSide = (inr refl, tt)
    deliver-may r PullMessage WritableSide = unblock-may x x.backpressure
    deliver-may r (ChunkMessage v) WritableSide = tt
    deliver-may r CloseMessage WritableSide = tt
    deliver-may r (ErrorMessage e) WritableSide = (tt, (tt, tt))

    none-may : (b : cross.Acts) (y : cross.Slots) (fs : List Effect) → Does c x s.promises b y fs → Each Kind fs → Each Kind b.out.effects
    none-may b y fs d f = rw d.effects f

    port-may : (clones : Bool) (operation : PortOperation) → Kind (OnPort c operation) → Each Kind (port_operation c clones operation Found).out.effects
    unfolding cross.write cross.unblock cross.deliver cross.pull
    port-may clones ports.Pull k = none-may _ _ _ (post-does c x s.promises PullMessage) tt
    port-may clones (ports.Leave r u) k = none-may _ _ _ (leave-does c x s.promises r u) (tt, tt)
    port-may clones (ports.Write u) k = (wait-may c (next_id s.promises) x.backpressure, (tt, tt))
    port-may clones (ports.WriteGoesOn d) k = absurd k
    port-may clones (ports.PostChunk v d) k = absurd k
    port-may clones (ports.Close u) k = none-may _ _ _ (close-does c x s.promises u) (tt, tt)
    port-may clones (ports.Deliver m) k =
        either (λ (z : cross.Acts). Each Kind z.out.effects) x.live (cross.deliver_to c m Found x.side) Found (λ l. deliver-may k m x.side) (λ l. tt)
    port-may clones ports.Unblock k = unblock-may x x.backpressure

  ported-may : (c : PortId) (operation : PortOperation) (o : Option cross.Slots) → Kind (OnPort c operation) → Each Kind (on_port_at (λ clones. port_operation c clones operation) c s o).caused
  ported-may c operation None k = tt
  ported-may c operation (Some x) k = port-may c x (clones_at x s) operation k

  -- the algorithms

  plain-owner : (xs : List Stream) (n : ℕ) → IsPlainShape (slice_get (map stream_shape xs) n) → IsPlain (owner_of (slice_get xs n))
  plain-owner [] n k = tt
  plain-owner (ReadableStream r ∷ xs) zero k = k
  plain-owner (ByteStream b ∷ xs) zero k = tt
  plain-owner (WritableStream w ∷ xs) zero k = absurd k
  plain-owner (x ∷ xs) (suc n) k = plain-owner xs n k

  plain-at : (i : StreamId) (owner : Owner) → owner ≡ owner_at i s → Plain_at i → IsPlain owner
  plain-at i owner e k = rw e (plain-owner s.streams i.0 k)

  pulled-may : (i : StreamId) (u : Use) (owner : Owner) → owner ≡ owner_at i s → Kind (PullAlgorithm i) → Each Kind (pull_algorithm i u owner)
  pulled-may i u Host e k = (tt, tt)
  pulled-may i u (HalfOf t) e k = (tt, tt)
  pulled-may i u (BranchOf t half) e (inl r) = (r, (tt, tt))
  pulled-may i u (BranchOf t half) e (inr n) = absurd (plain-at i (BranchOf t half) e n)
  pulled-may i u (EndOf c) e (inl r) = (r, (tt, tt))
  pulled-may i u (EndOf c) e (inr n) = absurd (plain-at i (EndOf c) e n)

  cancelled-may : (i : StreamId) (r : Plain) (u : Use) (owner : Owner) → owner ≡ owner_at i s → (p : PromiseId) → Kind (CancelAlgorithm i r p) → Each Kind (cancel_algorithm i r u owner)
  cancelled-may i r u Host e p k = (tt, tt)
  cancelled-may i r u (HalfOf t) e p k = (tt, tt)
  cancelled-may i r u (BranchOf t half) e p (inl c) = (c, tt)
  cancelled-may i r u (BranchOf t half) e p (inr n) = absurd (plain-at i (BranchOf t half) e n)
  cancelled-may i r u (EndOf d) e p (inl c) = (inl c, tt)
  cancelled-may i r u (EndOf d) e p (inr n) = absurd (plain-at i (EndOf d) e n)

  aborted-may : (i : StreamId) (r : Plain) (u : Use) (owner : Owner) → owner ≡ owner_at i s → (p : PromiseId) → Kind (AbortAlgorithm i r p) → Each Kind (abort_algorithm i r u owner)
  aborted-may i r u Host e p k = (tt, tt)
  aborted-may i r u (HalfOf t) e p k = (tt, tt)
  aborted-may i r u (BranchOf t half) e p k = (tt, tt)
  aborted-may i r u (EndOf c) e p k =
      (inr (⊎_elim (λ w. absurd (k (EndOf c) w)) (λ w. is-side s ended c WritableSide i (ended.end i c WritableSide w)) (owned-shape c s.streams i.0 (sym e))), tt)

  chunk-may : (v : Value) (request : ReadRequest) → ChunkCauses Kind v request
  chunk-may v (Promise p) = tt
  chunk-may v (PipeRequest p) = refl
  chunk-may v (TeeRequest t) = refl

  end-may : (request : ReadRequest) → EndCauses Kind request
  end-may (Promise p) = tt
  end-may (PipeRequest p) = refl
  end-may (TeeRequest t) = refl

  error-may : (request : ReadRequest) → ErrorCauses Kind request
  error-may (Promise p) = tt
  error-may (PipeRequest p) = refl
  error-may (TeeRequest t) = refl

  signal-may : (a : SignalId) (operation : SignalOperation) → Kind (OnSignal a operation) → SignalCauses Kind operation
  signal-may a (Add p) k = tt
  signal-may a (Forget p) k = tt
  signal-may a (Trigger r) k = λ p. k

  -- what may be read or cancelled causes what may be
  pub row-may : (e : Effect) → Kind e → Each Kind (row e s).caused
  unfolding row
  row-may (OnReadable i operation) k = readable-may i operation k
  row-may (Byte i operation) k = byte-may i operation
  row-may (OnWritable i operation) k = write-may i operation k
  row-may (OnPipe p operation) k = piped-may p operation (slice_get s.pipes p.0) k
  row-may (OnSignal a operation) k = row-causes Kind (OnSignal a operation) s (signal-may a operation k)
  row-may (OnTransform t operation) k = transformed-may t operation (slice_get s.transforms t.0) refl
  row-may (OnTee t operation) k = teed-may t operation (slice_get s.tees t.0) k
  row-may (OnPort c operation) k = ported-may c operation (slice_get s.ports c.0) k
  row-may (StartAlgorithm i step start) k = row-causes Kind (StartAlgorithm i step start) s (λ g u. tt, λ h u. tt)
  row-may (PullAlgorithm i) k = pulled-may i _ (owner_at i s) refl k
  row-may (CancelAlgorithm i r p) k = cancelled-may i r _ (owner_at i s) refl p k
  row-may (WriteAlgorithm i) k = row-causes Kind (WriteAlgorithm i) s (tt, (λ t u. tt, λ c u. tt))
  row-may (CloseAlgorithm i) k = row-causes Kind (CloseAlgorithm i) s (λ h u. tt, (λ t u. tt, λ c u. tt))
  row-may (AbortAlgorithm i r p) k = aborted-may i r _ (owner_at i s) refl p k
  row-may (ChunkSteps i request v) k = row-causes Kind (ChunkSteps i request v) s (chunk-may v request)
  row-may (CloseSteps i request) k = row-causes Kind (CloseSteps i request) s (end-may request)
  row-may (CloseStepsWith i request b) k = row-causes Kind (CloseStepsWith i request b) s (end-may request)
  row-may (ErrorSteps i request e) k = row-causes Kind (ErrorSteps i request e) s (error-may request)
  row-may e k = row-causes Kind e s tt
