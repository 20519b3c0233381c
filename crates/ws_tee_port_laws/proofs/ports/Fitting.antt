-- What stands on the agenda suits the streams and the ports: a pull is asked of readable ends alone, a chunk and a close are posted by writable
-- ends alone, and a chunk is handed on to a port from its own stream.
use Rattle.std.proofs.Common.{zero}
use Rattle.std.proofs.Common.{◌≡◌, ℕ, true, List, [], ◌∷◌, map, Option, Some, None, ◌⊎◌, inl, inr, slice_get, refl, sym, ap, ◌∙◌, subst, arith}
use Rattle.ws_steps.specs.Slots.{found}
use Rattle.ws_steps.specs.Slots.{clones_at}
use Rattle.ws_laws.proofs.PortDoes.{port-causes}
use Rattle.ws_steps.specs.Operations.{port_operation}
use Rattle.ws_steps.specs.Slots.{on_port_at}
use Rattle.std.proofs.Common.{⊎_elim}
use Rattle.std.proofs.Common.{suc}
use Rattle.ws_value.specs.declared.ids.PortId.{PortId}
use Rattle.ws_value.specs.declared.ids.PromiseId.{PromiseId}
use Rattle.ws_value.specs.declared.ids.StreamId.{StreamId}
use Rattle.ws_value.specs.declared.value.Plain.{Plain}
use Rattle.ws_value.specs.declared.value.Value.{Value}
use Rattle.ws_steps.specs.declared.calls.Call.{Call}
use Rattle.ws_steps.specs.declared.effects.Effect.{Effect}
use Rattle.ws_steps.specs.declared.effects.Effect.TheVariants.{Readable, Byte, Writable, Pipe, Signal, Transform, Tee, Port, StartAlgorithm, PullAlgorithm, CancelAlgorithm, WriteAlgorithm, CloseAlgorithm, AbortAlgorithm, ChunkSteps, CloseSteps, CloseStepsWith, ErrorSteps, Give}
use Rattle.ws_steps.specs.declared.effects.Owner.{Owner}
use Rattle.ws_steps.specs.declared.effects.Owner.TheVariants.{Host, HalfOf, BranchOf, EndOf}
use Rattle.ws_steps.specs.declared.pipes.SignalOperation.{SignalOperation}
use Rattle.ws_steps.specs.declared.pipes.SignalOperation.TheVariants.{Add, Forget, Trigger}
use Rattle.ws_steps.specs.declared.port.PortOperation.{PortOperation}
use Rattle.ws_steps.specs.declared.port.PortOperation.TheVariants as ports
use Rattle.ws_steps.specs.declared.port.Side.{Side}
use Rattle.ws_steps.specs.declared.port.Side.TheVariants.{Readable as ReadableSide, Writable as WritableSide}
use Rattle.ws_steps.specs.declared.promises.Job.{Job}
use Rattle.ws_steps.specs.declared.readable.ReadRequest.{ReadRequest}
use Rattle.ws_steps.specs.declared.readable.ReadRequest.TheVariants.{Promise, Pipe as PipeRequest, Tee as TeeRequest}
use Rattle.ws_steps.specs.declared.readable.ReadableOperation.{ReadableOperation}
use Rattle.ws_steps.specs.declared.transform.Taker.{Taker}
use Rattle.ws_steps.specs.declared.transform.Taker.TheVariants.{ToHost, ToTransform, ToPort}
use Rattle.ws_steps.specs.declared.writable.WritableOperation.{WritableOperation}
use Rattle.ws_steps.specs.declared.writable.WritableOperation.TheVariants as writes
use Rattle.ws_steps.specs.declared.writable.WriteRecord.{WriteRecord}
use Rattle.ws_steps.specs.declared.writable.WriteRecord.TheVariants.{Chunk, InFlight, CloseMark}
use Rattle.ws_steps.specs.Begun.{Begun}
use Rattle.ws_steps.specs.Calls.{begin}
use Rattle.ws_steps.specs.Cross as cross
use Rattle.ws_steps.specs.Effects.{Out}
use Rattle.ws_steps.specs.Jobs.{job_effects}
use Rattle.ws_steps.specs.Operations.{readable_operation, byte_readable_operation, byte_operation, writable_operation}
use Rattle.ws_steps.specs.Queues.{first_value}
use Rattle.ws_steps.specs.Slots.{Slots, Stream, ReadableStream, ByteStream, WritableStream, Done, nothing, empty, has_readable, has_byte, has_writable, owner_of, owner_at, put_readable, put_byte, put_writable, on_byte, on_readable}
use Rattle.ws_steps.specs.Turns.{row, pull_algorithm, close_algorithm}
use Rattle.ws_steps.specs.Writable as writable
use Rattle.ws_laws.proofs.ByteDoes.{byte_readable-does, byte-does}
use Rattle.ws_laws.proofs.EachCall.{each_call}
use Rattle.ws_laws.proofs.Ended.{PortShape, port_shape, port_shapes, end_shape, HasEnd, Ended, ended-stays, ended-empty, row-port_shapes}
use Rattle.ws_laws.proofs.Lists.{Each, each-append, each-map}
use Rattle.ws_laws.proofs.PipeDoes.{PipeCauses}
use Rattle.ws_laws.proofs.PortDoes.{PortCauses}
use Rattle.ws_laws.proofs.ReadableDoes.{readable-does}
use Rattle.ws_laws.proofs.Causes.{ReadableCauses, ByteCauses, ChunkCauses, EndCauses, ErrorCauses, SignalCauses, of-causes, row-causes}
use Rattle.ws_laws.proofs.Shapes.{StreamShape, ReadableOf, BytesOf, WritableOf, stream_shape, stream_shapes, row-stream_shapes, map-there}
use Rattle.ws_laws.proofs.Tables.{either, readable_acts, byte_acts, writable_acts, readable_there, byte_there, writable_there}
use Rattle.ws_laws.proofs.TeeDoes.{TeeCauses}
use Rattle.ws_laws.proofs.TransformDoes.{TransformCauses}
use Rattle.ws_laws.proofs.Walker.{Stays}
use Rattle.ws_laws.proofs.WritableDoes.{others-do}

-- what the row of an operation of a stream causes, where there is such a stream
module _ (P : Effect → Type 0) (i : StreamId) (s : Slots) where
  pub source-caused : (operation : ReadableOperation) → ((has_readable i s ≡ true) ⊎ (has_byte i s ≡ true) → ReadableCauses P i) → Each P (row (Readable i operation) s).caused
  unfolding row
  source-caused operation c =
      either (λ (d : Done). Each P d.caused) (has_byte i s) (on_byte (byte_readable_operation i operation) i s) (on_readable (readable_operation i operation) i s)
      (λ is. either (λ (d : Done). Each P d.caused) (has_byte i s) (put_byte i s (byte_readable_operation i operation (byte_acts i s))) (nothing s)
      (λ there. byte_readable-does (λ (x : Out). Each P x.effects) i (of-causes P i (c (inr is))) operation (byte_acts i s) tt) (λ absent. tt))
      (λ isnt. either (λ (d : Done). Each P d.caused) (has_readable i s) (put_readable i s (readable_operation i operation (readable_acts i s))) (nothing s)
      (λ there. readable-does (λ (x : Out). Each P x.effects) i (of-causes P i (c (inl there))) operation (readable_acts i s) tt) (λ absent. tt))

  pub bytes-caused : (operation : _) → (has_byte i s ≡ true → ByteCauses P i) → Each P (row (Byte i operation) s).caused
  unfolding row
  bytes-caused operation c =
      either (λ (d : Done). Each P d.caused) (has_byte i s) (put_byte i s (byte_operation i operation (byte_acts i s))) (nothing s)
      (λ there. byte-does (λ (x : Out). Each P x.effects) i (of-causes P i (c there).readable)
      (λ x q b h. each-append P x.effects (CloseStepsWith i q b ∷ []) h ((c there).close_with q b, tt)) operation (byte_acts i s) tt) (λ absent. tt)

  pub record WriteCauses (operation : WritableOperation) : Type 0 where
    pub write : P (WriteAlgorithm i)
    pub close : P (CloseAlgorithm i)
    pub abort : (r : Plain) (p : PromiseId) → P (AbortAlgorithm i r p)
    pub take : (taker : Taker) (v : Value) → operation ≡ writes.HandOn taker → P (writable.taken_by i v taker)

  taken : (taker : Taker) (a : writable.Acts) (first : Option WriteRecord) → a.out.effects ≡ [] → ((v : Value) → P (writable.taken_by i v taker))
      → Each P (writable.hand_on_first i taker a first).out.effects
  taken taker a None e t = rw e tt
  taken taker a (Some (Chunk v)) e t = rw e (t v, tt)
  taken taker a (Some InFlight) e t = rw e tt
  taken taker a (Some CloseMark) e t = rw e tt

  write-caused : (operation : WritableOperation) → WriteCauses operation → Each P (writable_operation i operation (writable_acts i s)).out.effects
  unfolding writable.hand_on
  write-caused (writes.HandOn taker) c =
      taken taker (writable_acts i s) (first_value (writable_acts i s).slots.queue) refl (λ v. c.take taker v refl)
  write-caused operation c =
      others-do (λ (x : Out). Each P x.effects) i (record {
        settle = λ x p o h. h;
        fresh = λ x h. h;
        tell = λ x r h. h;
        write = λ x h. each-append P x.effects (WriteAlgorithm i ∷ []) h (c.write, tt);
        close = λ x h. each-append P x.effects (CloseAlgorithm i ∷ []) h (c.close, tt);
        abort = λ x r p h. each-append P x.effects (AbortAlgorithm i r p ∷ []) h (c.abort r p, tt);
      }) operation (writable_acts i s) (λ u. u) tt

  pub writable-caused : (operation : WritableOperation) → (has_writable i s ≡ true → WriteCauses operation) → Each P (row (Writable i operation) s).caused
  unfolding row
  writable-caused operation c =
      either (λ (d : Done). Each P d.caused) (has_writable i s) (put_writable i s (writable_operation i operation (writable_acts i s))) (nothing s)
      (λ there. write-caused operation (c there)) (λ absent. tt)

-- the shapes of what is there

pub readable-shape : (i : StreamId) (s : Slots) → has_readable i s ≡ true → slice_get (stream_shapes s) i.0 ≡ Some (stream_shape (ReadableStream (readable_acts i s).slots))
readable-shape i s h = map-there stream_shape s.streams i.0 _ (readable_there (slice_get s.streams i.0) h)

pub bytes-shape : (i : StreamId) (s : Slots) → has_byte i s ≡ true → slice_get (stream_shapes s) i.0 ≡ Some (stream_shape (ByteStream (byte_acts i s).slots))
bytes-shape i s h = map-there stream_shape s.streams i.0 _ (byte_there (slice_get s.streams i.0) h)

pub writable-shape : (i : StreamId) (s : Slots) → has_writable i s ≡ true → slice_get (stream_shapes s) i.0 ≡ Some (stream_shape (WritableStream (writable_acts i s).slots))
writable-shape i s h = map-there stream_shape s.streams i.0 _ (writable_there (slice_get s.streams i.0) h)

-- the shape of a stream that performs the algorithms of port c
pub owned-shape : (c : PortId) (xs : List Stream) (n : ℕ) → owner_of (slice_get xs n) ≡ EndOf c
    → (slice_get (map stream_shape xs) n ≡ Some (ReadableOf (EndOf c))) ⊎ (slice_get (map stream_shape xs) n ≡ Some (WritableOf (EndOf c)))
owned-shape c [] n e = cc
owned-shape c (ReadableStream r ∷ xs) zero e = inl (ap (λ o. Some (ReadableOf o)) e)
owned-shape c (ByteStream b ∷ xs) zero e = cc
owned-shape c (WritableStream w ∷ xs) zero e = inr (ap (λ o. Some (WritableOf o)) e)
owned-shape c (x ∷ xs) (suc n) e = owned-shape c xs n e

abbrev pub IsSide : List PortShape → PortId → Side → Type 0
IsSide ps c side = (x : PortShape) → slice_get ps c.0 ≡ Some x → x.side ≡ side

-- what suits these streams and ports
abbrev pub Fits : List StreamShape → List PortShape → Effect → Type 0
Fits xs ps (PullAlgorithm i) = (o : Owner) → slice_get xs i.0 ≡ Some (WritableOf o) → ⊥
Fits xs ps (CloseAlgorithm i) = (o : Owner) → slice_get xs i.0 ≡ Some (ReadableOf o) → ⊥
Fits xs ps (Port c ports.Pull) = IsSide ps c ReadableSide
Fits xs ps (Port c (ports.PostChunk v d)) = IsSide ps c WritableSide
Fits xs ps (Port c (ports.Close u)) = IsSide ps c WritableSide
Fits xs ps (Writable i (writes.HandOn (ToPort c d))) = (x : PortShape) → slice_get ps c.0 ≡ Some x → x.stream ≡ i
Fits xs ps _ = Unit {0}

module _ (s : Slots) (ended : Ended s) where
  abbrev Fit : Effect → Type 0
  Fit e = Fits (stream_shapes s) (port_shapes s) e

  no_writable-source : (i : StreamId) → (has_readable i s ≡ true) ⊎ (has_byte i s ≡ true) → Fit (PullAlgorithm i)
  no_writable-source i (inl h) o e = let k : Some (ReadableOf (readable_acts i s).slots.owner) ≡ Some (WritableOf o) = sym (readable-shape i s h) ∙ e in cc
  no_writable-source i (inr h) o e = let k : Some BytesOf ≡ Some (WritableOf o) = sym (bytes-shape i s h) ∙ e in cc

  no_readable-writable : (i : StreamId) → has_writable i s ≡ true → Fit (CloseAlgorithm i)
  no_readable-writable i h o e = let k : Some (WritableOf (writable_acts i s).slots.owner) ≡ Some (ReadableOf o) = sym (writable-shape i s h) ∙ e in cc

  causes : (i : StreamId) → (has_readable i s ≡ true) ⊎ (has_byte i s ≡ true) → ReadableCauses Fit i
  causes i h = record { pull = no_writable-source i h; cancel = λ r p. tt; chunk = λ q v. tt; close = λ q. tt; error = λ q e. tt }

  -- the port has one shape
  pub is-side : (c : PortId) (side : Side) (i : StreamId) → HasEnd (port_shapes s) c side i → IsSide (port_shapes s) c side
  is-side c side i h x e = let k : Some x ≡ Some (record { side = side; stream = i }) = sym e ∙ h in cc

  pub side-by : (c : PortId) (o : Owner) (side : Side) → Some (end_shape c side) ≡ Some (WritableOf o) → side ≡ WritableSide
  side-by c o ReadableSide k = cc
  side-by c o WritableSide k = refl

  taken-fits : (i : StreamId) (taker : Taker) (v : Value) → has_writable i s ≡ true → Fit (Writable i (writes.HandOn taker)) → Fit (writable.taken_by i v taker)
  taken-fits i ToHost v h f = tt
  taken-fits i (ToTransform t d) v h f = tt
  taken-fits i (ToPort c d) v h f = λ x e.
      let o : Owner = (writable_acts i s).slots.owner in
      let shape : slice_get (stream_shapes s) x.stream.0 ≡ Some (end_shape c x.side) = ended.ends c x e in
      let here : slice_get (stream_shapes s) x.stream.0 ≡ Some (WritableOf o) = rw (f x e) (writable-shape i s h) in
      side-by c o x.side (sym shape ∙ here)

  pulled-fits : (i : StreamId) (u : _) (owner : Owner) → owner ≡ owner_at i s → Fit (PullAlgorithm i) → Each Fit (pull_algorithm i u owner)
  pulled-fits i u Host e f = (tt, tt)
  pulled-fits i u (HalfOf t) e f = (tt, tt)
  pulled-fits i u (BranchOf t half) e f = (tt, (tt, tt))
  pulled-fits i u (EndOf c) e f = (λ x k. ⊎_elim (λ r. is-side c ReadableSide i (ended.end i c ReadableSide r) x k) (λ w. absurd (f (EndOf c) w)) (owned-shape c s.streams i.0 (sym e)), (tt, tt))

  closed-fits : (i : StreamId) (u : _) (owner : Owner) → owner ≡ owner_at i s → Fit (CloseAlgorithm i) → Each Fit (close_algorithm i u owner)
  closed-fits i u Host e f = (tt, tt)
  closed-fits i u (HalfOf t) e f = (tt, tt)
  closed-fits i u (BranchOf t half) e f = (tt, tt)
  closed-fits i u (EndOf c) e f = (λ x k. ⊎_elim (λ r. absurd (f (EndOf c) r)) (λ w. is-side c WritableSide i (ended.end i c WritableSide w) x k) (owned-shape c s.streams i.0 (sym e)), tt)

  port-fit : (c : PortId) (x : cross.Slots) → slice_get s.ports c.0 ≡ Some x → (e : Effect) → PortCauses c x.stream e → Fit e
  port-fit c x is (Readable i operation) k = tt
  port-fit c x is (Writable i (writes.HandOn (ToPort d p))) k =
      let there : slice_get (port_shapes s) d.0 ≡ Some (port_shape x) = rw k.1 (map-there port_shape s.ports c.0 x is) in
      λ y e. let same : Some y ≡ Some (port_shape x) = sym e ∙ there in let at : y.stream ≡ x.stream = cc in at ∙ sym k.0
  port-fit c x is (Writable i (writes.ErrorIfNeeded r)) k = tt
  port-fit c x is (Port d ports.Unblock) k = tt
  port-fit c x is (Give gift u) k = tt
  port-fit c x is e k = absurd k

  port-fits : (c : PortId) (operation : PortOperation) (o : Option cross.Slots) → slice_get s.ports c.0 ≡ o → Each Fit (on_port_at (λ clones. port_operation c clones operation) c s o).caused
  port-fits c operation None is = tt
  port-fits c operation (Some x) is =
      each-map (PortCauses c x.stream) Fit (port-fit c x is) _ (port-causes c (clones_at x s) operation (record { slots = x; out = found s }) tt).1.1

  pipe-fit : (p : _) (source dest : StreamId) (e : Effect) → PipeCauses p source dest e → Fit e
  pipe-fit p source dest e k = grind arith

  transform-fit : (t : _) (w r : StreamId) (e : Effect) → TransformCauses t w r e → Fit e
  transform-fit t w r e k = grind arith

  tee-fit : (t : _) (source first second : StreamId) (e : Effect) → TeeCauses t source first second e → Fit e
  tee-fit t source first second e k = grind arith

  chunk-fits : (v : Value) (request : ReadRequest) → ChunkCauses Fit v request
  chunk-fits v (Promise p) = tt
  chunk-fits v (PipeRequest p) = tt
  chunk-fits v (TeeRequest t) = tt

  end-fits : (request : ReadRequest) → EndCauses Fit request
  end-fits (Promise p) = tt
  end-fits (PipeRequest p) = tt
  end-fits (TeeRequest t) = tt

  error-fits : (request : ReadRequest) → ErrorCauses Fit request
  error-fits (Promise p) = tt
  error-fits (PipeRequest p) = tt
  error-fits (TeeRequest t) = tt

  signal-fits : (operation : SignalOperation) → SignalCauses Fit operation
  signal-fits (Add p) = tt
  signal-fits (Forget p) = tt
  signal-fits (Trigger r) = λ p. tt

  taken-of : (i : StreamId) (operation : WritableOperation) → Fit (Writable i operation) → has_writable i s ≡ true
      → (taker : Taker) (v : Value) → operation ≡ writes.HandOn taker → Fit (writable.taken_by i v taker)
  taken-of i operation f h taker v e = taken-fits i taker v h (subst (λ (o : WritableOperation). Fit (Writable i o)) e f)

  -- what fits causes what fits
  row-fit : (e : Effect) → Fit e → Each Fit (row e s).caused
  unfolding row
  row-fit (Readable i operation) f = source-caused Fit i s operation (causes i)
  row-fit (Byte i operation) f = bytes-caused Fit i s operation (λ h. record { readable = causes i (inr h); close_with = λ q b. tt })
  row-fit (Writable i operation) f =
      writable-caused Fit i s operation (λ h. record { write = tt; close = no_readable-writable i h; abort = λ r p. tt; take = taken-of i operation f h })
  row-fit (PullAlgorithm i) f = pulled-fits i _ (owner_at i s) refl f
  row-fit (CloseAlgorithm i) f = closed-fits i _ (owner_at i s) refl f
  row-fit (Port c operation) f = port-fits c operation (slice_get s.ports c.0) refl
  row-fit (Pipe p operation) f = row-causes Fit (Pipe p operation) s (pipe-fit p)
  row-fit (Transform t operation) f = row-causes Fit (Transform t operation) s (transform-fit t)
  row-fit (Tee t operation) f = row-causes Fit (Tee t operation) s (tee-fit t)
  row-fit (Signal a operation) f = row-causes Fit (Signal a operation) s (signal-fits operation)
  row-fit (StartAlgorithm i step start) f = row-causes Fit (StartAlgorithm i step start) s (λ g u. tt, λ c u. tt)
  row-fit (CancelAlgorithm i r p) f = row-causes Fit (CancelAlgorithm i r p) s (λ call u. tt, (λ t u. tt, (λ t half u. tt, λ c u. tt)))
  row-fit (WriteAlgorithm i) f = row-causes Fit (WriteAlgorithm i) s (tt, (λ t u. tt, λ c u. tt))
  row-fit (AbortAlgorithm i r p) f = row-causes Fit (AbortAlgorithm i r p) s (λ call u. tt, (λ t u. tt, λ c u. tt))
  row-fit (ChunkSteps i request v) f = row-causes Fit (ChunkSteps i request v) s (chunk-fits v request)
  row-fit (CloseSteps i request) f = row-causes Fit (CloseSteps i request) s (end-fits request)
  row-fit (CloseStepsWith i request b) f = row-causes Fit (CloseStepsWith i request b) s (end-fits request)
  row-fit (ErrorSteps i request e) f = row-causes Fit (ErrorSteps i request e) s (error-fits request)
  row-fit e f = row-causes Fit e s tt

-- what calls and jobs begin with

abbrev pub IsBegun : Effect → Type 0
IsBegun (PullAlgorithm i) = ⊥
IsBegun (CancelAlgorithm i r p) = ⊥
IsBegun (WriteAlgorithm i) = ⊥
IsBegun (CloseAlgorithm i) = ⊥
IsBegun (AbortAlgorithm i r p) = ⊥
IsBegun (Writable i (writes.HandOn taker)) = ⊥
IsBegun (Port c (ports.Deliver m)) = Unit {0}
IsBegun (Port c (ports.WriteGoesOn d)) = Unit {0}
IsBegun (Port c operation) = ⊥
IsBegun _ = Unit {0}

pub call-begun : (call : Call) (s : Slots) → Each IsBegun (begin call s).done.caused
call-begun call s = each_call (λ (b : Begun). Each IsBegun b.done.caused) call s (grind arith)

pub job-begun : (job : Job) → Each IsBegun (job_effects job)
job-begun job = grind arith

begun-fits : (xs : List StreamShape) (ps : List PortShape) (e : Effect) → IsBegun e → Fits xs ps e
begun-fits xs ps (PullAlgorithm i) f = absurd f
begun-fits xs ps (CloseAlgorithm i) f = absurd f
begun-fits xs ps (Port c (ports.Deliver m)) f = tt
begun-fits xs ps (Port c (ports.WriteGoesOn d)) f = tt
begun-fits xs ps (Port c operation) f = absurd f
begun-fits xs ps (Writable i (writes.HandOn taker)) f = absurd f
begun-fits xs ps e f = tt

-- over every run

abbrev pub Fitting : Slots → List Effect → Type 0
Fitting s es = Ended s × Each (Fits (stream_shapes s) (port_shapes s)) es

abbrev FitsIn : Slots → List Effect → Type 0
FitsIn s es = Each (Fits (stream_shapes s) (port_shapes s)) es

pub fitting-stays : Stays Fitting
fitting-stays = record {
  row = λ s e es k. (
    ended-stays.row s e es k.0,
    rw (row-stream_shapes e s, row-port_shapes e s) (each-append (Fits (stream_shapes s) (port_shapes s)) (row e s).caused es (row-fit s k.0 e k.1.0) k.1.1),
  );
  call = λ s c k. (ended-stays.call s c k.0, each-map IsBegun (Fits (stream_shapes (begin c s).done.slots) (port_shapes (begin c s).done.slots)) (begun-fits _ _) _ (call-begun c s));
  job = λ s job e k. (k.0, each-map IsBegun (Fits (stream_shapes s) (port_shapes s)) (begun-fits _ _) _ (job-begun job));
  answered = λ s p k. k;
  older = λ s k. k;
}

pub fitting-empty : Fitting empty []
fitting-empty = (ended-empty, tt)
