-- The stream at a writable end of a port hands its chunks on to that port alone.
use Rattle.std.proofs.Common.{◌≡◌, true, Option, Some, None, slice_get, refl, sym, subst, ◌∙◌, arith, ℕ, zero, suc, map, List, [], ◌∷◌}
use Rattle.ws_value.specs.declared.ids.PortId.{PortId}
use Rattle.ws_value.specs.declared.ids.StreamId.{StreamId}
use Rattle.ws_value.specs.declared.value.Value.{Value}
use Rattle.ws_steps.specs.declared.effects.Effect.{Effect}
use Rattle.ws_steps.specs.declared.effects.Effect.TheVariants.{Readable, Byte, Writable, Pipe, Signal, Transform, Tee, Port, StartAlgorithm, PullAlgorithm, CancelAlgorithm, WriteAlgorithm, CloseAlgorithm, AbortAlgorithm, ChunkSteps, CloseSteps, CloseStepsWith, ErrorSteps}
use Rattle.ws_steps.specs.declared.effects.Owner.{Owner}
use Rattle.ws_steps.specs.declared.effects.Owner.TheVariants.{Host, HalfOf, BranchOf, EndOf}
use Rattle.ws_steps.specs.declared.pipes.SignalOperation.{SignalOperation}
use Rattle.ws_steps.specs.declared.pipes.SignalOperation.TheVariants.{Add, Forget, Trigger}
use Rattle.ws_steps.specs.declared.port.PortOperation.{PortOperation}
use Rattle.ws_steps.specs.declared.port.Side.{Side}
use Rattle.ws_steps.specs.declared.port.Side.TheVariants.{Readable as ReadableSide, Writable as WritableSide}
use Rattle.ws_steps.specs.declared.readable.ReadRequest.{ReadRequest}
use Rattle.ws_steps.specs.declared.readable.ReadRequest.TheVariants.{Promise, Pipe as PipeRequest, Tee as TeeRequest}
use Rattle.ws_steps.specs.declared.transform.Taker.{Taker}
use Rattle.ws_steps.specs.declared.transform.Taker.TheVariants.{ToHost, ToTransform, ToPort}
use Rattle.ws_steps.specs.declared.transform.TransformId.{TransformId}
use Rattle.ws_steps.specs.declared.transform.TransformOperation.{TransformOperation}
use Rattle.ws_steps.specs.declared.writable.WritableOperation.TheVariants as writes
use Rattle.ws_steps.specs.Cross as cross
use Rattle.ws_steps.specs.Histories.{is_same}
use Rattle.ws_steps.specs.Operations.{port_operation, transform_operation}
use Rattle.ws_steps.specs.PortHistory.{is_same_port}
use Rattle.ws_steps.specs.Slots.{Slots, found, owner_at, on_port_at, on_transform_at, halves_at, clones_at, Stream, ReadableStream, ByteStream, WritableStream, is_writable_stream, has_writable}
use Rattle.ws_steps.specs.Transform as transform
use Rattle.ws_steps.specs.Turns.{row, write_algorithm}
use Rattle.ws_laws.proofs.Ended.{port_shape, port_shapes, end_shape, Ended}
use Rattle.ws_laws.proofs.Halves.{Halved}
use Rattle.ws_laws.proofs.Lists.{Each, each-map}
use Rattle.ws_laws.proofs.PipeDoes.{PipeCauses}
use Rattle.ws_laws.proofs.PortDoes.{PortCauses, port-causes}
use Rattle.ws_laws.proofs.Causes.{ReadableCauses, ChunkCauses, EndCauses, ErrorCauses, SignalCauses, row-causes}
use Rattle.ws_laws.proofs.Shapes.{WritableOf, transform_shape, stream_shapes, map-there, owner-told, stream_shape}
use Rattle.ws_laws.proofs.Tables.{same_id}
use Rattle.ws_laws.proofs.TeeDoes.{TeeCauses}
use Rattle.ws_laws.proofs.TransformDoes.{TransformCauses, transform-causes}
use Rattle.ws_tee_port_laws.proofs.ports.Fitting.{IsBegun}
use Rattle.ws_tee_port_laws.proofs.ports.Posting.{is_same_port-refl}

is-writable : (xs : List Stream) (n : ℕ) (o : Owner) → slice_get (map stream_shape xs) n ≡ Some (WritableOf o) → is_writable_stream (slice_get xs n) ≡ true
is-writable [] n o e = cc
is-writable (ReadableStream r ∷ xs) zero o e = cc
is-writable (ByteStream b ∷ xs) zero o e = cc
is-writable (WritableStream w ∷ xs) zero o e = refl
is-writable (x ∷ xs) (suc n) o e = is-writable xs n o e

-- stream i is at a writable end of port c
module _ (c : PortId) (i : StreamId) where
  abbrev pub Mine : Slots → Type 0
  Mine s = slice_get (port_shapes s) c.0 ≡ Some (record { side = WritableSide; stream = i })

  abbrev pub IsTo : Taker → Type 0
  IsTo ToHost = ⊥
  IsTo (ToTransform t d) = ⊥
  IsTo (ToPort d p) = is_same_port c d ≡ true

  abbrev pub Placed : Effect → Type 0
  Placed (Writable j (writes.HandOn taker)) = is_same i j ≡ true → IsTo taker
  Placed _ = Unit {0}

  pub mine-shape : (s : Slots) → Ended s → Mine s → slice_get (stream_shapes s) i.0 ≡ Some (WritableOf (EndOf c))
  mine-shape s ended m = ended.ends c (record { side = WritableSide; stream = i }) m

  pub mine-owner : (s : Slots) → Ended s → Mine s → owner_at i s ≡ EndOf c
  mine-owner s ended m = let a = owner-told s.streams i.0 in let b = mine-shape s ended m in rw (a, b) refl

  pub mine-writable : (s : Slots) → Ended s → Mine s → has_writable i s ≡ true
  mine-writable s ended m = is-writable s.streams i.0 (EndOf c) (mine-shape s ended m)

  module _ (s : Slots) (halved : Halved s) (ended : Ended s) (mine : Mine s) where
    readable-placed : (j : StreamId) → ReadableCauses Placed j
    readable-placed j = record { pull = tt; cancel = λ r p. tt; chunk = λ q v. tt; close = λ q. tt; error = λ q e. tt }

    pipe-placed : (p : _) (source dest : StreamId) (e : Effect) → PipeCauses p source dest e → Placed e
    pipe-placed p source dest e k = grind (arith, k)

    tee-placed : (t : _) (source first second : StreamId) (e : Effect) → TeeCauses t source first second e → Placed e
    tee-placed t source first second e k = grind (arith, k)

    chunk-placed : (v : Value) (request : ReadRequest) → ChunkCauses Placed v request
    chunk-placed v (Promise p) = tt
    chunk-placed v (PipeRequest p) = tt
    chunk-placed v (TeeRequest t) = tt

    end-placed : (request : ReadRequest) → EndCauses Placed request
    end-placed (Promise p) = tt
    end-placed (PipeRequest p) = tt
    end-placed (TeeRequest t) = tt

    error-placed : (request : ReadRequest) → ErrorCauses Placed request
    error-placed (Promise p) = tt
    error-placed (PipeRequest p) = tt
    error-placed (TeeRequest t) = tt

    signal-placed : (operation : SignalOperation) → SignalCauses Placed operation
    signal-placed (Add p) = tt
    signal-placed (Forget p) = tt
    signal-placed (Trigger r) = λ p. tt

    -- the write algorithm of a stream of the host

    not_host : (j : StreamId) → owner_at j s ≡ Host → is_same i j ≡ true → ⊥
    not_host j own same =
        let is : i ≡ j = same_id i j same in
        let a : owner_at i s ≡ Host = subst (λ (k : StreamId). owner_at k s ≡ Host) (sym is) own in
        let b = mine-owner s ended mine in cc

    write-placed : (j : StreamId) (o : Owner) → o ≡ owner_at j s → Each Placed (write_algorithm j o)
    write-placed j Host e = (λ same. absurd (not_host j (sym e) same), tt)
    write-placed j (HalfOf t) e = (tt, tt)
    write-placed j (BranchOf t half) e = (λ same. absurd (no_branch same), tt)
      where
        no_branch : is_same i j ≡ true → ⊥
        no_branch same =
            let is : i ≡ j = same_id i j same in
            let a : owner_at i s ≡ BranchOf t half = subst (λ (k : StreamId). owner_at k s ≡ BranchOf t half) (sym is) (sym e) in
            let b = mine-owner s ended mine in cc
    write-placed j (EndOf d) e = (tt, tt)

    -- a transform stream

    transform-placed : (t : TransformId) (x : transform.Slots) → slice_get s.transforms t.0 ≡ Some x → (e : Effect) → TransformCauses t x.writable x.readable e → Placed e
    transform-placed t x there (Writable j (writes.HandOn taker)) k = λ same.
        let is : i ≡ j = same_id i j same in
        let half : slice_get (stream_shapes s) x.writable.0 ≡ Some (WritableOf (HalfOf t)) = (halved.halves t (transform_shape x) (map-there transform_shape s.transforms t.0 x there)).1 in
        let at : slice_get (stream_shapes s) i.0 ≡ Some (WritableOf (HalfOf t)) = subst (λ (w : StreamId). slice_get (stream_shapes s) w.0 ≡ Some (WritableOf (HalfOf t))) (sym (is ∙ at_writable taker k)) half in
        let own = mine-shape s ended mine in
        let no : Some (WritableOf (HalfOf t)) ≡ Some (WritableOf (EndOf c)) = sym at ∙ own in cc
      where
        at_writable : (taker : Taker) → TransformCauses t x.writable x.readable (Writable j (writes.HandOn taker)) → j ≡ x.writable
        at_writable ToHost k = absurd k
        at_writable (ToTransform u d) k = grind (arith, k)
        at_writable (ToPort d p) k = absurd k
    transform-placed t x there e k = grind (arith, k)

    transforms-placed : (t : TransformId) (operation : TransformOperation) (o : Option transform.Slots) → slice_get s.transforms t.0 ≡ o → Each Placed (on_transform_at (λ halves. transform_operation t halves operation) t s o).caused
    transforms-placed t operation None e = tt
    transforms-placed t operation (Some x) e =
        each-map (TransformCauses t x.writable x.readable) Placed (transform-placed t x e) _
        (transform-causes t (halves_at x s) operation (record { slots = x; out = found s }) tt).1.1.1

    -- a port

    port-placed : (d : PortId) (x : cross.Slots) → slice_get s.ports d.0 ≡ Some x → (e : Effect) → PortCauses d x.stream e → Placed e
    port-placed d x there (Writable j (writes.HandOn (ToPort f p))) k = λ same.
        let is : i ≡ x.stream = same_id i j same ∙ k.0 in
        let shape : slice_get (stream_shapes s) x.stream.0 ≡ Some (end_shape d x.side) = ended.ends d (port_shape x) (map-there port_shape s.ports d.0 x there) in
        let own : slice_get (stream_shapes s) x.stream.0 ≡ Some (WritableOf (EndOf c)) = subst (λ (w : StreamId). slice_get (stream_shapes s) w.0 ≡ Some (WritableOf (EndOf c))) is (mine-shape s ended mine) in
        let both : Some (end_shape d x.side) ≡ Some (WritableOf (EndOf c)) = sym shape ∙ own in
        let one : d ≡ c = one_port x.side both in
        rw (k.1, one) (is_same_port-refl c)
      where
        one_port : (side : Side) → Some (end_shape d side) ≡ Some (WritableOf (EndOf c)) → d ≡ c
        one_port ReadableSide b = cc
        one_port WritableSide b = cc
    port-placed d x there e k = grind (arith, k)

    ports-placed : (d : PortId) (operation : PortOperation) (o : Option cross.Slots) → slice_get s.ports d.0 ≡ o → Each Placed (on_port_at (λ clones. port_operation d clones operation) d s o).caused
    ports-placed d operation None e = tt
    ports-placed d operation (Some x) e =
        each-map (PortCauses d x.stream) Placed (port-placed d x e) _ (port-causes d (clones_at x s) operation (record { slots = x; out = found s }) tt).1.1

    pub row-placed : (e : Effect) → Each Placed (row e s).caused
    unfolding row
    row-placed (Readable j operation) = row-causes Placed (Readable j operation) s (readable-placed j)
    row-placed (Byte j operation) = row-causes Placed (Byte j operation) s (record { readable = readable-placed j; close_with = λ q b. tt })
    row-placed (Writable j operation) = row-causes Placed (Writable j operation) s (record { write = tt; close = tt; abort = λ r p. tt; hand_on = λ v. tt; take = λ v t d. tt; post = λ v d p. tt })
    row-placed (Port d operation) = ports-placed d operation (slice_get s.ports d.0) refl
    row-placed (Pipe p operation) = row-causes Placed (Pipe p operation) s (pipe-placed p)
    row-placed (Transform t operation) = transforms-placed t operation (slice_get s.transforms t.0) refl
    row-placed (Tee t operation) = row-causes Placed (Tee t operation) s (tee-placed t)
    row-placed (Signal a operation) = row-causes Placed (Signal a operation) s (signal-placed operation)
    row-placed (StartAlgorithm j step start) = row-causes Placed (StartAlgorithm j step start) s (λ g u. tt, λ h u. tt)
    row-placed (PullAlgorithm j) = row-causes Placed (PullAlgorithm j) s (λ h u. tt, (λ t u. tt, (λ t. tt, (λ u. tt, λ d. tt))))
    row-placed (CancelAlgorithm j r p) = row-causes Placed (CancelAlgorithm j r p) s (λ h u. tt, (λ t u. tt, (λ t half u. tt, λ d u. tt)))
    row-placed (WriteAlgorithm j) = write-placed j (owner_at j s) refl
    row-placed (CloseAlgorithm j) = row-causes Placed (CloseAlgorithm j) s (λ h u. tt, (λ t u. tt, λ d u. tt))
    row-placed (AbortAlgorithm j r p) = row-causes Placed (AbortAlgorithm j r p) s (λ h u. tt, (λ t u. tt, λ d u. tt))
    row-placed (ChunkSteps j request v) = row-causes Placed (ChunkSteps j request v) s (chunk-placed v request)
    row-placed (CloseSteps j request) = row-causes Placed (CloseSteps j request) s (end-placed request)
    row-placed (CloseStepsWith j request b) = row-causes Placed (CloseStepsWith j request b) s (end-placed request)
    row-placed (ErrorSteps j request e) = row-causes Placed (ErrorSteps j request e) s (error-placed request)
    row-placed e = row-causes Placed e s tt

  -- what calls and jobs begin with
  pub begun-placed : (e : Effect) → IsBegun e → Placed e
  begun-placed e b = grind (arith, b)
