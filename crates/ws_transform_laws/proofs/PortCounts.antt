-- What stands for a write of a stream at the end of a port until its chunk is handed on, counted; and what may stand on the agenda of such a
-- stream: each other effect causes none of it.
use Rattle.std.proofs.Common.{◌≡◌, ℕ, zero, suc, Bool, true, false, nat_eq, List, [], ◌∷◌, map, Option, Some, None, ◌⊎◌, inl, inr, ⊎_elim, slice_get, refl, sym, ap, ◌∙◌, subst, arith}
use Rattle.ws_laws.proofs.PortDoes.{port-causes}
use Rattle.ws_value.specs.declared.ids.{PipeId.{PipeId}, PortId.{PortId}, PromiseId.{PromiseId}, StreamId.{StreamId}, TeeId.{TeeId}}
use Rattle.ws_value.specs.declared.value.{Plain.{Plain}, Value.{Value}}
use Rattle.ws_steps.specs.declared.byte.ByteOperation.{ByteOperation}
use Rattle.ws_steps.specs.declared.effects.Effect.{Effect}
use Rattle.ws_steps.specs.declared.effects.Effect.TheVariants.{Readable as OnReadable, Byte, Writable as OnWritable, Pipe as OnPipe, Signal as OnSignal, Transform as OnTransform, Tee as OnTee, Port as OnPort, StartAlgorithm, PullAlgorithm, CancelAlgorithm, WriteAlgorithm, CloseAlgorithm, AbortAlgorithm, ChunkSteps, CloseSteps, CloseStepsWith, ErrorSteps}
use Rattle.ws_steps.specs.declared.effects.{Owner.{Owner}, Owner.TheVariants.{Host, HalfOf, BranchOf, EndOf}, Use.{Use}}
use Rattle.ws_steps.specs.declared.pipes.{SignalOperation.{SignalOperation}, SignalOperation.TheVariants.{Add, Forget, Trigger}}
use Rattle.ws_steps.specs.declared.port.PortOperation.TheVariants as ports
use Rattle.ws_steps.specs.declared.port.{PortOperation.{PortOperation}, Side.{Side}, Side.TheVariants.{Readable as ReadableSide, Writable as WritableSide}}
use Rattle.ws_steps.specs.declared.readable.{ReadRequest.{ReadRequest}, ReadRequest.TheVariants.{Promise, Pipe as PipeRequest, Tee as TeeRequest}, ReadableOperation.{ReadableOperation}}
use Rattle.ws_steps.specs.declared.transform.{Taker.{Taker}, Taker.TheVariants.{ToHost, ToTransform, ToPort}, TransformId.{TransformId}}
use Rattle.ws_steps.specs.declared.writable.WritableOperation.TheVariants as writes
use Rattle.ws_steps.specs.declared.writable.{WritableOperation.{WritableOperation}, WriteRecord.{WriteRecord}, WriteRecord.TheVariants.{Chunk, InFlight, CloseMark}}
use Rattle.ws_steps.specs.Cross as cross
use Rattle.ws_steps.specs.Cross.{post, data_clone}
use Rattle.ws_steps.specs.Effects.{Out}
use Rattle.ws_steps.specs.Histories.{is_same}
use Rattle.ws_steps.specs.Operations.{readable_operation, byte_readable_operation, byte_operation, writable_operation, port_operation}
use Rattle.ws_steps.specs.Queues.{first_value}
use Rattle.ws_steps.specs.Slots.{Slots, Stream, ReadableStream, ByteStream, WritableStream, Done, nothing, found, has_readable, has_byte, has_writable, owner_of, owner_at, put_readable, put_byte, put_writable, on_byte, on_readable, on_port_at, clones_at}
use Rattle.ws_steps.specs.Turns.{row, pull_algorithm, cancel_algorithm, write_algorithm, close_algorithm, abort_algorithm}
use Rattle.ws_steps.specs.Writable as writable
use Rattle.ws_laws.proofs.ByteDoes.{byte_readable-does, byte-does}
use Rattle.ws_laws.proofs.Ended.{PortShape, port_shape, end_shape, Ended}
use Rattle.ws_laws.proofs.Halves.{Halved}
use Rattle.ws_laws.proofs.TransformDoes.{transform-causes}
use Rattle.ws_laws.proofs.Shapes.{transform_shape}
use Rattle.ws_steps.specs.declared.transform.TransformOperation.{TransformOperation}
use Rattle.ws_steps.specs.Operations.{transform_operation}
use Rattle.ws_steps.specs.Slots.{on_transform_at, halves_at}
use Rattle.ws_steps.specs.Transform as transform
use Rattle.ws_laws.proofs.Lists.{Each, each-append, each-map}
use Rattle.ws_laws.proofs.PipeDoes.{PipeCauses}
use Rattle.ws_laws.proofs.PortDoes.{PortCauses}
use Rattle.ws_laws.proofs.ReadableDoes.{readable-does}
use Rattle.ws_laws.proofs.Causes.{ReadableCauses, ByteCauses, ChunkCauses, EndCauses, ErrorCauses, SignalCauses, of-causes, row-causes}
use Rattle.ws_laws.proofs.Shapes.{StreamShape, ReadableOf, BytesOf, WritableOf, stream_shape, stream_shapes, map-there}
use Rattle.ws_laws.proofs.Tables.{either, eq_numbers, same_id, is_same-refl, readable_acts, byte_acts, writable_acts, readable_there, byte_there}
use Rattle.ws_laws.proofs.TeeDoes.{TeeCauses}
use Rattle.ws_laws.proofs.TransformDoes.{TransformCauses}
use Rattle.ws_laws.proofs.WritableDoes.{others-do}
use Rattle.ws_writable_laws.proofs.Shape.{one_if, all}
use Rattle.ws_transform_laws.proofs.PortTurns.{post-effects}

-- what the row of an operation of a stream causes, where there is such a stream
module _ (P : Effect → Type 0) (j : StreamId) (s : Slots) where
  source-caused : (operation : ReadableOperation) → ((has_readable j s ≡ true) ⊎ (has_byte j s ≡ true) → ReadableCauses P j) → Each P (row (OnReadable j operation) s).caused
  unfolding row
  source-caused operation k =
      either (λ (d : Done). Each P d.caused) (has_byte j s) (on_byte (byte_readable_operation j operation) j s) (on_readable (readable_operation j operation) j s)
      (λ is. either (λ (d : Done). Each P d.caused) (has_byte j s) (put_byte j s (byte_readable_operation j operation (byte_acts j s))) (nothing s)
      (λ there. byte_readable-does (λ (x : Out). Each P x.effects) j (of-causes P j (k (inr is))) operation (byte_acts j s) tt) (λ absent. tt))
      (λ isnt. either (λ (d : Done). Each P d.caused) (has_readable j s) (put_readable j s (readable_operation j operation (readable_acts j s))) (nothing s)
      (λ there. readable-does (λ (x : Out). Each P x.effects) j (of-causes P j (k (inl there))) operation (readable_acts j s) tt) (λ absent. tt))

  bytes-caused : (operation : ByteOperation) → (has_byte j s ≡ true → ByteCauses P j) → Each P (row (Byte j operation) s).caused
  unfolding row
  bytes-caused operation k =
      either (λ (d : Done). Each P d.caused) (has_byte j s) (put_byte j s (byte_operation j operation (byte_acts j s))) (nothing s)
      (λ there. byte-does (λ (x : Out). Each P x.effects) j (of-causes P j (k there).readable)
      (λ x q b h. each-append P x.effects (CloseStepsWith j q b ∷ []) h ((k there).close_with q b, tt)) operation (byte_acts j s) tt) (λ absent. tt)

  pub record WriteCauses (operation : WritableOperation) : Type 0 where
    pub write : P (WriteAlgorithm j)
    pub close : P (CloseAlgorithm j)
    pub abort : (r : Plain) (p : PromiseId) → P (AbortAlgorithm j r p)
    pub take : (taker : Taker) (v : Value) → operation ≡ writes.HandOn taker → P (writable.taken_by j v taker)

  taken : (taker : Taker) (a : writable.Acts) (first : Option WriteRecord) → a.out.effects ≡ [] → ((v : Value) → P (writable.taken_by j v taker))
      → Each P (writable.hand_on_first j taker a first).out.effects
  taken taker a None e t = rw e tt
  taken taker a (Some (Chunk v)) e t = rw e (t v, tt)
  taken taker a (Some InFlight) e t = rw e tt
  taken taker a (Some CloseMark) e t = rw e tt

  write-caused : (operation : WritableOperation) → WriteCauses operation → Each P (writable_operation j operation (writable_acts j s)).out.effects
  unfolding writable.hand_on
  write-caused (writes.HandOn taker) k = taken taker (writable_acts j s) (first_value (writable_acts j s).slots.queue) refl (λ v. k.take taker v refl)
  write-caused operation k =
      others-do (λ (x : Out). Each P x.effects) j (record {
        settle = λ x p o h. h;
        fresh = λ x h. h;
        tell = λ x r h. h;
        write = λ x h. each-append P x.effects (WriteAlgorithm j ∷ []) h (k.write, tt);
        close = λ x h. each-append P x.effects (CloseAlgorithm j ∷ []) h (k.close, tt);
        abort = λ x r p h. each-append P x.effects (AbortAlgorithm j r p ∷ []) h (k.abort r p, tt);
      }) operation (writable_acts j s) (λ u. u) tt

  pub writable-caused : (operation : WritableOperation) → WriteCauses operation → Each P (row (OnWritable j operation) s).caused
  unfolding row
  writable-caused operation k =
      either (λ (d : Done). Each P d.caused) (has_writable j s) (put_writable j s (writable_operation j operation (writable_acts j s))) (nothing s)
      (λ there. write-caused operation k) (λ absent. tt)

module _ (i : StreamId) (c : PortId) where
  -- a write whose algorithm is to be performed, that is to wait, that goes on, and whose chunk is to be handed on
  abbrev pub extra : Effect → ℕ
  extra (WriteAlgorithm j) = one_if (is_same i j)
  extra (OnPort d (ports.Write u)) = one_if (nat_eq c.0 d.0)
  extra (OnPort d (ports.WriteGoesOn p)) = one_if (nat_eq c.0 d.0)
  extra (OnWritable j (writes.HandOn (ToPort d p))) = one_if (nat_eq c.0 d.0)
  extra e = 0

  -- neither its end, nor the posting of a chunk
  abbrev pub NotLate : Effect → Type 0
  NotLate (OnPort d (ports.PostChunk v p)) = nat_eq c.0 d.0 ≡ false
  NotLate (OnPort d (ports.Leave r u)) = nat_eq c.0 d.0 ≡ false
  NotLate (OnPort d (ports.Close u)) = nat_eq c.0 d.0 ≡ false
  NotLate (CancelAlgorithm j r p) = is_same i j ≡ false
  NotLate e = Unit {0}

  -- a chunk of the stream is handed on to the port, and to it no other
  abbrev pub Suits : Effect → Type 0
  Suits (OnWritable j (writes.HandOn ToHost)) = is_same i j ≡ false
  Suits (OnWritable j (writes.HandOn (ToTransform t p))) = is_same i j ≡ false
  Suits (OnWritable j (writes.HandOn (ToPort d p))) = (nat_eq c.0 d.0 ≡ true → is_same i j ≡ true) × (is_same i j ≡ true → nat_eq c.0 d.0 ≡ true)
  Suits e = Unit {0}

  pub record Free (e : Effect) : Type 0 where
    pub extra : extra e ≡ 0
    pub late : NotLate e
    pub suits : Suits e

  pub free-extra : (es : List Effect) → Each Free es → all extra es ≡ 0
  free-extra [] k = refl
  free-extra (e ∷ es) k = let a = k.0.extra in let n = free-extra es k.1 in omega (arith, a, n)

  -- effects by which a write goes on, or the stream ends
  abbrev pub NotOwn : Effect → Type 0
  NotOwn (OnWritable j operation) = is_same i j ≡ false
  NotOwn (WriteAlgorithm j) = is_same i j ≡ false
  NotOwn (CloseAlgorithm j) = is_same i j ≡ false
  NotOwn (AbortAlgorithm j r p) = is_same i j ≡ false
  NotOwn (OnPort d (ports.Write u)) = nat_eq c.0 d.0 ≡ false
  NotOwn (OnPort d (ports.WriteGoesOn p)) = nat_eq c.0 d.0 ≡ false
  NotOwn e = Unit {0}

  abbrev none : (e : Effect) → extra e ≡ 0 → NotLate e → Suits e → Free e
  none e a l f = record { extra = a; late = l; suits = f }

  module _ (s : Slots) (halved : Halved s) (ended : Ended s) (here : slice_get (stream_shapes s) i.0 ≡ Some (WritableOf (EndOf c))) where
    no-source : (j : StreamId) → (has_readable j s ≡ true) ⊎ (has_byte j s ≡ true) → is_same i j ≡ false
    no-source j h = by (is_same i j) refl
      where
        by : (same : Bool) → same ≡ is_same i j → is_same i j ≡ false
        by false e = sym e
        by true e = ⊎_elim (λ k. clash-readable (sym at ∙ readable-at k)) (λ k. clash-bytes (sym at ∙ bytes-at k)) h
          where
            at : slice_get (stream_shapes s) j.0 ≡ Some (WritableOf (EndOf c))
            at = subst (λ (k : StreamId). slice_get (stream_shapes s) k.0 ≡ Some (WritableOf (EndOf c))) (same_id i j (sym e)) here

            readable-at : has_readable j s ≡ true → slice_get (stream_shapes s) j.0 ≡ Some (stream_shape (ReadableStream (readable_acts j s).slots))
            readable-at k = map-there stream_shape s.streams j.0 _ (readable_there (slice_get s.streams j.0) k)

            bytes-at : has_byte j s ≡ true → slice_get (stream_shapes s) j.0 ≡ Some (stream_shape (ByteStream (byte_acts j s).slots))
            bytes-at k = map-there stream_shape s.streams j.0 _ (byte_there (slice_get s.streams j.0) k)

            clash-readable : Some (WritableOf (EndOf c)) ≡ Some (ReadableOf (readable_acts j s).slots.owner) → {A : Type 0} → A
            clash-readable k = cc

            clash-bytes : Some (WritableOf (EndOf c)) ≡ Some BytesOf → {A : Type 0} → A
            clash-bytes k = cc

    -- no other stream performs the algorithms of this port
    one-owner : (j : StreamId) → owner_at j s ≡ EndOf c → is_same i j ≡ true
    one-owner j e = by (shape-of s.streams j.0 e)
      where
        shape-of : (xs : List Stream) (n : ℕ) → owner_of (slice_get xs n) ≡ EndOf c
            → (slice_get (map stream_shape xs) n ≡ Some (ReadableOf (EndOf c))) ⊎ (slice_get (map stream_shape xs) n ≡ Some (WritableOf (EndOf c)))
        shape-of [] n e = cc
        shape-of (ReadableStream r ∷ xs) zero e = inl (ap (λ o. Some (ReadableOf o)) e)
        shape-of (ByteStream b ∷ xs) zero e = cc
        shape-of (WritableStream w ∷ xs) zero e = inr (ap (λ o. Some (WritableOf o)) e)
        shape-of (x ∷ xs) (suc n) e = shape-of xs n e

        same : (x y : PortShape) → Some x ≡ Some y → x.stream ≡ y.stream
        same x y e = cc

        of : i ≡ j → is_same i j ≡ true
        of e = rw e (is_same-refl j)

        by : (slice_get (stream_shapes s) j.0 ≡ Some (ReadableOf (EndOf c))) ⊎ (slice_get (stream_shapes s) j.0 ≡ Some (WritableOf (EndOf c))) → is_same i j ≡ true
        by (inl r) = of (same (record { side = WritableSide; stream = i }) (record { side = ReadableSide; stream = j }) (sym (ended.end i c WritableSide here) ∙ ended.end j c ReadableSide r))
        by (inr w) = of (same (record { side = WritableSide; stream = i }) (record { side = WritableSide; stream = j }) (sym (ended.end i c WritableSide here) ∙ ended.end j c WritableSide w))

    -- the port of another stream is another
    other-port : (j : StreamId) (d : PortId) → owner_at j s ≡ EndOf d → is_same i j ≡ false → nat_eq c.0 d.0 ≡ false
    other-port j d e n = by (nat_eq c.0 d.0) refl
      where
        by : (b : Bool) → b ≡ nat_eq c.0 d.0 → nat_eq c.0 d.0 ≡ false
        by false f = sym f
        by true f =
            let is : d ≡ c = λ k. record { 0 = sym (eq_numbers c.0 d.0 (sym f)) k } in
            let wrong = one-owner j (e ∙ ap (λ (p : PortId). EndOf p) is) in
            let no : true ≡ false = sym wrong ∙ n in cc

    source-free : (j : StreamId) → (has_readable j s ≡ true) ⊎ (has_byte j s ≡ true) → ReadableCauses Free j
    source-free j h = record {
      pull = none _ refl tt tt;
      cancel = λ r p. none _ refl (no-source j h) tt;
      chunk = λ q v. none _ refl tt tt;
      close = λ q. none _ refl tt tt;
      error = λ q e. none _ refl tt tt;
    }

    taken-free : (j : StreamId) (operation : WritableOperation) → is_same i j ≡ false → Suits (OnWritable j operation) → (taker : Taker) (v : Value) → operation ≡ writes.HandOn taker → Free (writable.taken_by j v taker)
    taken-free j operation n f ToHost v e = none _ refl tt tt
    taken-free j operation n f (ToTransform t d) v e = none _ refl tt tt
    taken-free j operation n f (ToPort d p) v e =
        let g : nat_eq c.0 d.0 ≡ true → is_same i j ≡ true = (subst (λ (w : WritableOperation). Suits (OnWritable j w)) e f).0 in
        none _ refl (by (nat_eq c.0 d.0) refl g) tt
      where
        by : (b : Bool) → b ≡ nat_eq c.0 d.0 → (nat_eq c.0 d.0 ≡ true → is_same i j ≡ true) → nat_eq c.0 d.0 ≡ false
        by false k g = sym k
        by true k g = let no : true ≡ false = sym (g (sym k)) ∙ n in cc

    pipe-free : (p : PipeId) (source dest : StreamId) (e : Effect) → PipeCauses p source dest e → Free e
    pipe-free p source dest e k = record { extra = grind (arith, k); late = grind (arith, k); suits = grind (arith, k) }

    -- a stream of another shape is another
    unlike : (j : StreamId) (v : StreamShape) → slice_get (stream_shapes s) j.0 ≡ Some v → (v ≡ WritableOf (EndOf c) → ⊥) → is_same i j ≡ false
    unlike j v at n = by (is_same i j) refl
      where
        clash : (v : StreamShape) → Some v ≡ Some (WritableOf (EndOf c)) → v ≡ WritableOf (EndOf c)
        clash v e = cc

        by : (same : Bool) → same ≡ is_same i j → is_same i j ≡ false
        by false e = sym e
        by true e =
            let is : slice_get (stream_shapes s) j.0 ≡ Some (WritableOf (EndOf c)) = subst (λ (k : StreamId). slice_get (stream_shapes s) k.0 ≡ Some (WritableOf (EndOf c))) (same_id i j (sym e)) here in
            absurd (n (clash v (sym at ∙ is)))

    transform-free : (t : TransformId) (w r : StreamId) → is_same i w ≡ false → (e : Effect) → TransformCauses t w r e → Free e
    transform-free t w r n (OnWritable j (writes.HandOn (ToTransform u d))) k = record { extra = refl; late = tt; suits = rw (k.0) n }
    transform-free t w r n e k = record { extra = grind (arith, k); late = grind (arith, k); suits = grind (arith, k) }

    transformed : (t : TransformId) (operation : TransformOperation) (o : Option transform.Slots) → slice_get s.transforms t.0 ≡ o
        → Each Free (on_transform_at (λ halves. transform_operation t halves operation) t s o).caused
    transformed t operation None e = tt
    transformed t operation (Some y) e =
        let half = (halved.halves t (transform_shape y) (map-there transform_shape s.transforms t.0 y e)).1 in
        each-map (TransformCauses t y.writable y.readable) Free (transform-free t y.writable y.readable (unlike y.writable (WritableOf (HalfOf t)) half (λ e. cc))) _
        (transform-causes t (halves_at y s) operation (record { slots = y; out = found s }) tt).1.1.1

    tee-free : (t : TeeId) (source first second : StreamId) (e : Effect) → TeeCauses t source first second e → Free e
    tee-free t source first second e k = record { extra = grind (arith, k); late = grind (arith, k); suits = grind (arith, k) }

    -- a port's operation that hands no chunk on
    abbrev NoHand : Effect → Type 0
    NoHand (OnWritable j (writes.HandOn taker)) = ⊥
    NoHand e = Unit {0}

    port-free : (d : PortId) (stream : StreamId) (e : Effect) → NoHand e → PortCauses d stream e → Free e
    port-free d stream e n k = record { extra = grind (arith, n, k); late = grind (arith, n, k); suits = grind (arith, n, k) }

    abbrev GoesOn : PortOperation → Type 0
    GoesOn (ports.WriteGoesOn p) = Unit {0}
    GoesOn operation = ⊥

    -- of another port
    elsewhere-free : (d : PortId) (stream : StreamId) → nat_eq c.0 d.0 ≡ false → is_same i stream ≡ false → (e : Effect) → PortCauses d stream e → Free e
    elsewhere-free d stream n m (OnWritable j (writes.HandOn (ToPort f p))) k =
        let other : nat_eq c.0 f.0 ≡ false = ap (λ (q : PortId). nat_eq c.0 q.0) k.1 ∙ n in
        let away : is_same i j ≡ false = ap (λ (q : StreamId). is_same i q) k.0 ∙ m in
        record { extra = rw other refl; late = tt; suits = (λ e. let no : true ≡ false = sym e ∙ other in cc, λ e. let no : true ≡ false = sym e ∙ away in cc) }
    elsewhere-free d stream n m e k = record { extra = grind (arith, k, n); late = grind (arith, k, n); suits = grind (arith, k, n) }

    end-unlike : (d : PortId) (side : Side) → nat_eq c.0 d.0 ≡ false → end_shape d side ≡ WritableOf (EndOf c) → ⊥
    end-unlike d ReadableSide n e = cc
    end-unlike d WritableSide n e =
        let same : d ≡ c = cc in
        let wrong : nat_eq c.0 d.0 ≡ true = rw same (same-number c.0) in
        cc
      where
        same-number : (n : ℕ) → nat_eq n n ≡ true
        same-number n = grind arith

    quiet-hand : (clones : Bool) (d : PortId) (operation : PortOperation) (a : cross.Acts) → (GoesOn operation → ⊥) → a.out.effects ≡ [] → Each Free (port_operation d clones operation a).out.effects
    unfolding cross.pull cross.leave cross.close cross.write cross.write_goes_on cross.post_chunk cross.unblock cross.deliver
    quiet-hand clones d operation a n e = grind (arith, n, e, post-effects)

    ported : (d : PortId) (operation : PortOperation) → NotOwn (OnPort d operation) → (o : Option cross.Slots) → slice_get s.ports d.0 ≡ o
        → Each Free (on_port_at (λ clones. port_operation d clones operation) d s o).caused
    ported d operation n None e = tt
    ported d (ports.WriteGoesOn p) n (Some x) e =
        each-map (PortCauses d x.stream) Free
        (elsewhere-free d x.stream n (unlike x.stream (end_shape d x.side) (ended.ends d (port_shape x) (map-there port_shape s.ports d.0 x e)) (end-unlike d x.side n))) _ (port-causes d (clones_at x s) (ports.WriteGoesOn p) (record { slots = x; out = found s }) tt).1.1
    ported d operation n (Some x) e = quiet-hand (clones_at x s) d operation (record { slots = x; out = found s }) (λ u. u) refl

    pulled-free : (j : StreamId) (u : Use) (owner : Owner) → Each Free (pull_algorithm j u owner)
    pulled-free j u Host = (none _ refl tt tt, tt)
    pulled-free j u (HalfOf t) = (none _ refl tt tt, tt)
    pulled-free j u (BranchOf t half) = (none _ refl tt tt, (none _ refl tt tt, tt))
    pulled-free j u (EndOf d) = (none _ refl tt tt, (none _ refl tt tt, tt))

    cancelled-free : (j : StreamId) (r : Plain) (u : Use) (owner : Owner) → owner ≡ owner_at j s → is_same i j ≡ false → Each Free (cancel_algorithm j r u owner)
    cancelled-free j r u Host e n = (none _ refl tt tt, tt)
    cancelled-free j r u (HalfOf t) e n = (none _ refl tt tt, tt)
    cancelled-free j r u (BranchOf t half) e n = (none _ refl tt tt, tt)
    cancelled-free j r u (EndOf d) e n = (none _ refl (other-port j d (sym e) n) tt, tt)

    written-free : (j : StreamId) (owner : Owner) → owner ≡ owner_at j s → is_same i j ≡ false → Each Free (write_algorithm j owner)
    written-free j Host e n = (none _ refl tt n, tt)
    written-free j (HalfOf t) e n = (none _ refl tt tt, tt)
    written-free j (BranchOf t half) e n = (none _ refl tt n, tt)
    written-free j (EndOf d) e n = (none _ (rw (other-port j d (sym e) n) refl) tt tt, tt)

    closed-free : (j : StreamId) (u : Use) (owner : Owner) → owner ≡ owner_at j s → is_same i j ≡ false → Each Free (close_algorithm j u owner)
    closed-free j u Host e n = (none _ refl tt tt, tt)
    closed-free j u (HalfOf t) e n = (none _ refl tt tt, tt)
    closed-free j u (BranchOf t half) e n = (none _ refl tt tt, tt)
    closed-free j u (EndOf d) e n = (none _ refl (other-port j d (sym e) n) tt, tt)

    aborted-free : (j : StreamId) (r : Plain) (u : Use) (owner : Owner) → owner ≡ owner_at j s → is_same i j ≡ false → Each Free (abort_algorithm j r u owner)
    aborted-free j r u Host e n = (none _ refl tt tt, tt)
    aborted-free j r u (HalfOf t) e n = (none _ refl tt tt, tt)
    aborted-free j r u (BranchOf t half) e n = (none _ refl tt tt, tt)
    aborted-free j r u (EndOf d) e n = (none _ refl (other-port j d (sym e) n) tt, tt)

    chunk-free : (v : Value) (request : ReadRequest) → ChunkCauses Free v request
    chunk-free v (Promise p) = tt
    chunk-free v (PipeRequest p) = none _ refl tt tt
    chunk-free v (TeeRequest t) = none _ refl tt tt

    end-free : (request : ReadRequest) → EndCauses Free request
    end-free (Promise p) = tt
    end-free (PipeRequest p) = none _ refl tt tt
    end-free (TeeRequest t) = none _ refl tt tt

    error-free : (request : ReadRequest) → ErrorCauses Free request
    error-free (Promise p) = tt
    error-free (PipeRequest p) = none _ refl tt tt
    error-free (TeeRequest t) = none _ refl tt tt

    signal-free : (operation : SignalOperation) → SignalCauses Free operation
    signal-free (Add p) = tt
    signal-free (Forget p) = tt
    signal-free (Trigger r) = λ p. none _ refl tt tt

    -- a cancel algorithm is that of another stream
    abbrev pub CancelsElsewhere : Effect → Type 0
    CancelsElsewhere (CancelAlgorithm j r p) = is_same i j ≡ false
    CancelsElsewhere e = Unit {0}

    -- other effects cause nothing of it
    pub row-free : (e : Effect) → NotOwn e → CancelsElsewhere e → Suits e → Each Free (row e s).caused
    unfolding row
    row-free (OnReadable j operation) n l f = source-caused Free j s operation (source-free j)
    row-free (Byte j operation) n l f = bytes-caused Free j s operation (λ h. record { readable = source-free j (inr h); close_with = λ q b. none _ refl tt tt })
    row-free (OnWritable j operation) n l f =
        writable-caused Free j s operation (record { write = none _ (rw n refl) tt tt; close = none _ refl tt tt; abort = λ r p. none _ refl tt tt; take = taken-free j operation n f })
    row-free (OnPipe p operation) n l f = row-causes Free (OnPipe p operation) s (pipe-free p)
    row-free (OnTransform t operation) n l f = transformed t operation (slice_get s.transforms t.0) refl
    row-free (OnTee t operation) n l f = row-causes Free (OnTee t operation) s (tee-free t)
    row-free (OnSignal a operation) n l f = row-causes Free (OnSignal a operation) s (signal-free operation)
    row-free (OnPort d operation) n l f = ported d operation n (slice_get s.ports d.0) refl
    row-free (StartAlgorithm j step start) n l f = row-causes Free (StartAlgorithm j step start) s (λ g u. none _ refl tt tt, λ h u. none _ refl tt tt)
    row-free (PullAlgorithm j) n l f = pulled-free j _ (owner_at j s)
    row-free (CancelAlgorithm j r p) n l f = cancelled-free j r _ (owner_at j s) refl l
    row-free (WriteAlgorithm j) n l f = written-free j (owner_at j s) refl n
    row-free (CloseAlgorithm j) n l f = closed-free j _ (owner_at j s) refl n
    row-free (AbortAlgorithm j r p) n l f = aborted-free j r _ (owner_at j s) refl n
    row-free (ChunkSteps j request v) n l f = row-causes Free (ChunkSteps j request v) s (chunk-free v request)
    row-free (CloseSteps j request) n l f = row-causes Free (CloseSteps j request) s (end-free request)
    row-free (CloseStepsWith j request b) n l f = row-causes Free (CloseStepsWith j request b) s (end-free request)
    row-free (ErrorSteps j request e) n l f = row-causes Free (ErrorSteps j request e) s (error-free request)
    row-free e n l f = row-causes Free e s tt
