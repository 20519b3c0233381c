-- The pulls of the readable end of a port: within a step it is pulled once at most, since it pulls from then on until its pull has settled.
use Rattle.std.proofs.Common.{◌≡◌, ℕ, ◌+◌, ◌≤◌, zero, suc, Bool, true, false, ◌&&◌, if◌then◌else◌, List, [], ◌∷◌, ◌++◌, map, Option, Some, None, Result, ⊎_elim, slice_get, refl, sym, ap, ◌∙◌, subst, arith}
use Rattle.ws_value.specs.declared.ids.PipeId.{PipeId}
use Rattle.ws_value.specs.declared.ids.PortId.{PortId}
use Rattle.ws_value.specs.declared.ids.StreamId.{StreamId}
use Rattle.ws_value.specs.declared.ids.TeeId.{TeeId}
use Rattle.ws_value.specs.declared.value.Plain.{Plain}
use Rattle.ws_value.specs.declared.value.Value.{Value}
use Rattle.ws_steps.specs.declared.byte.ByteOperation.{ByteOperation}
use Rattle.ws_steps.specs.declared.effects.Effect.{Effect}
use Rattle.ws_steps.specs.declared.effects.Effect.TheVariants.{Readable as OnReadable, Byte, Writable as OnWritable, Pipe as OnPipe, Signal as OnSignal, Transform as OnTransform, Tee as OnTee, Port as OnPort, StartAlgorithm, PullAlgorithm, CancelAlgorithm, WriteAlgorithm, CloseAlgorithm, AbortAlgorithm, ChunkSteps, CloseSteps, CloseStepsWith, ErrorSteps}
use Rattle.ws_steps.specs.declared.effects.Owner.{Owner}
use Rattle.ws_steps.specs.declared.effects.Owner.TheVariants.{Host, HalfOf, BranchOf, EndOf}
use Rattle.ws_steps.specs.declared.effects.Use.{Use}
use Rattle.ws_steps.specs.declared.pipes.SignalOperation.{SignalOperation}
use Rattle.ws_steps.specs.declared.pipes.SignalOperation.TheVariants.{Add, Forget, Trigger}
use Rattle.ws_steps.specs.declared.port.PortOperation.TheVariants as ports
use Rattle.ws_steps.specs.declared.port.Side.TheVariants.{Readable as ReadableSide, Writable as WritableSide}
use Rattle.ws_steps.specs.declared.readable.ReadRequest.{ReadRequest}
use Rattle.ws_steps.specs.declared.readable.ReadRequest.TheVariants.{Promise, Pipe as PipeRequest, Tee as TeeRequest}
use Rattle.ws_steps.specs.declared.readable.ReadableOperation.{ReadableOperation}
use Rattle.ws_steps.specs.declared.readable.ReadableOperation.TheVariants as reads
use Rattle.ws_steps.specs.declared.transform.Taker.{Taker}
use Rattle.ws_steps.specs.declared.transform.Taker.TheVariants.{ToHost, ToTransform, ToPort}
use Rattle.ws_steps.specs.Histories.{is_same}
use Rattle.ws_steps.specs.Operations.{readable_operation, byte_operation, writable_operation}
use Rattle.ws_steps.specs.PortHistory.{is_same_port}
use Rattle.ws_steps.specs.Readable as readable
use Rattle.ws_steps.specs.Slots.{Slots, Stream, ReadableStream, ByteStream, WritableStream, Done, nothing, has_readable, has_byte, owner_of, owner_at, readable_at, put_readable, is_readable_stream, is_byte_stream, as_readable}
use Rattle.ws_steps.specs.Turns.{row, pull_algorithm}
use Rattle.ws_steps.specs.Writable as writable
use Rattle.ws_laws.proofs.Ended.{PortShape, port_shapes, HasEnd, Ended}
use Rattle.ws_laws.proofs.Lists.{Each}
use Rattle.ws_laws.proofs.PipeDoes.{PipeCauses}
use Rattle.ws_laws.proofs.PortDoes.{PortCauses}
use Rattle.ws_laws.proofs.Apart.{row-streams}
use Rattle.ws_laws.proofs.Causes.{ReadableCauses, ChunkCauses, EndCauses, ErrorCauses, SignalCauses, row-causes}
use Rattle.ws_laws.proofs.Shapes.{ReadableOf, stream_shape, stream_shapes}
use Rattle.ws_laws.proofs.Tables.{is_same-refl, same_id, readable_acts, on_readable-same, on_byte-other, on_writable-readable, on_source-readable, on_source-other}
use Rattle.ws_laws.proofs.TeeDoes.{TeeCauses}
use Rattle.ws_laws.proofs.TransformDoes.{TransformCauses}
use Rattle.ws_tee_port_laws.proofs.ports.Fitting.{writable-caused, owned-shape}
use Rattle.ws_laws.proofs.Truth.{false_true}
use Rattle.ws_laws.proofs.Tables.{eq_numbers}
use Rattle.ws_steps.specs.declared.effects.Use.TheVariants.{React}
use Rattle.ws_steps.specs.declared.promises.Step.TheVariants.{ReadablePull}
use Rattle.ws_tee_port_laws.proofs.ports.Posting.{is_same_port-refl, total, total-append, some_of}
use Rattle.ws_tee_port_laws.proofs.ports.Reading.{is_idle, pulls_of, is_settling, operation-bounds, settled-bounds}

-- a pull that the port is asked for
abbrev pub asked_of : PortId → Effect → ℕ
asked_of c (OnPort d ports.Pull) = if is_same_port c d then 1 else 0
asked_of c _ = 0

-- the settling of a pull of this stream
abbrev pub settles_of : StreamId → Effect → Bool
settles_of i (OnReadable j operation) = is_same i j && is_settling i operation
settles_of i _ = false

module _ (c : PortId) (i : StreamId) where
  -- effects that are no pull of it
  pub record Still (e : Effect) : Type 0 where
    pub pulls : pulls_of i e ≡ 0
    pub asked : asked_of c e ≡ 0
    pub settles : settles_of i e ≡ false

  -- what stands, and what is under way
  abbrev pub pulled : List Effect → ℕ
  pulled es = total (pulls_of i) es + total (asked_of c) es

  pub pulled-append : (xs ys : List Effect) → pulled (xs ++ ys) ≡ pulled xs + pulled ys
  pulled-append xs ys = let a = total-append (pulls_of i) xs ys in let b = total-append (asked_of c) xs ys in omega arith

  pub still-pulled : (es : List Effect) → Each Still es → pulled es ≡ 0
  still-pulled [] h = refl
  still-pulled (e ∷ es) h = let a = h.0.pulls in let b = h.0.asked in let n = still-pulled es h.1 in omega arith

  pub still-settles : (es : List Effect) → Each Still es → some_of (settles_of i) es ≡ false
  still-settles [] h = refl
  still-settles (e ∷ es) h = rw (h.0.settles) (still-settles es h.1)

  abbrev quiet : (e : Effect) → pulls_of i e ≡ 0 → asked_of c e ≡ 0 → settles_of i e ≡ false → Still e
  quiet e a b d = record { pulls = a; asked = b; settles = d }

  readable-still : (j : StreamId) → is_same i j ≡ false → ReadableCauses Still j
  readable-still j n = record {
    pull = quiet _ (rw n refl) refl refl;
    cancel = λ r p. quiet _ refl refl refl;
    chunk = λ q v. quiet _ refl refl refl;
    close = λ q. quiet _ refl refl refl;
    error = λ q e. quiet _ refl refl refl;
  }

  none-settles : (j : StreamId) (operation : ReadableOperation) → is_settling i operation ≡ false → settles_of i (OnReadable j operation) ≡ false
  none-settles j operation n = rw n (and_false (is_same i j))
    where
      and_false : (b : Bool) → b && false ≡ false
      and_false b = grind arith

  pipe-still : (p : PipeId) (source dest : StreamId) (e : Effect) → PipeCauses p source dest e → Still e
  pipe-still p source dest (OnReadable j (reads.Read q)) k = quiet _ refl refl (none-settles j (reads.Read q) refl)
  pipe-still p source dest (OnReadable j (reads.Cancel r d)) k = quiet _ refl refl (none-settles j (reads.Cancel r d) refl)
  pipe-still p source dest (OnReadable j (reads.CancelIfReadable r d)) k = quiet _ refl refl (none-settles j (reads.CancelIfReadable r d) refl)
  pipe-still p source dest (OnReadable j reads.ReleaseReader) k = quiet _ refl refl (none-settles j reads.ReleaseReader refl)
  pipe-still p source dest (OnReadable j operation) k = absurd k
  pipe-still p source dest e k = record { pulls = grind arith; asked = grind arith; settles = grind arith }

  transform-still : (t : _) (w r : StreamId) (e : Effect) → TransformCauses t w r e → Still e
  transform-still t w r (OnReadable j (reads.Enqueue v)) k = quiet _ refl refl (none-settles j (reads.Enqueue v) refl)
  transform-still t w r (OnReadable j reads.Close) k = quiet _ refl refl (none-settles j reads.Close refl)
  transform-still t w r (OnReadable j (reads.Error e)) k = quiet _ refl refl (none-settles j (reads.Error e) refl)
  transform-still t w r (OnReadable j operation) k = absurd k
  transform-still t w r e k = record { pulls = grind arith; asked = grind arith; settles = grind arith }

  tee-still : (t : TeeId) (source first second : StreamId) (e : Effect) → TeeCauses t source first second e → Still e
  tee-still t source first second (OnReadable j (reads.Read q)) k = quiet _ refl refl (none-settles j (reads.Read q) refl)
  tee-still t source first second (OnReadable j (reads.Cancel r d)) k = quiet _ refl refl (none-settles j (reads.Cancel r d) refl)
  tee-still t source first second (OnReadable j (reads.Enqueue v)) k = quiet _ refl refl (none-settles j (reads.Enqueue v) refl)
  tee-still t source first second (OnReadable j reads.Close) k = quiet _ refl refl (none-settles j reads.Close refl)
  tee-still t source first second (OnReadable j (reads.Error e)) k = quiet _ refl refl (none-settles j (reads.Error e) refl)
  tee-still t source first second (OnReadable j operation) k = absurd k
  tee-still t source first second e k = record { pulls = grind arith; asked = grind arith; settles = grind arith }

  port-still : (d : PortId) (stream : StreamId) (e : Effect) → PortCauses d stream e → Still e
  port-still d stream (OnReadable j (reads.Enqueue v)) k = quiet _ refl refl (none-settles j (reads.Enqueue v) refl)
  port-still d stream (OnReadable j reads.Close) k = quiet _ refl refl (none-settles j reads.Close refl)
  port-still d stream (OnReadable j (reads.Error e)) k = quiet _ refl refl (none-settles j (reads.Error e) refl)
  port-still d stream (OnReadable j operation) k = absurd k
  port-still d stream e k = record { pulls = grind arith; asked = grind arith; settles = grind arith }

  chunk-still : (v : Value) (request : ReadRequest) → ChunkCauses Still v request
  chunk-still v (Promise p) = tt
  chunk-still v (PipeRequest p) = quiet _ refl refl refl
  chunk-still v (TeeRequest t) = quiet _ refl refl refl

  end-still : (request : ReadRequest) → EndCauses Still request
  end-still (Promise p) = tt
  end-still (PipeRequest p) = quiet _ refl refl refl
  end-still (TeeRequest t) = quiet _ refl refl refl

  error-still : (request : ReadRequest) → ErrorCauses Still request
  error-still (Promise p) = tt
  error-still (PipeRequest p) = quiet _ refl refl refl
  error-still (TeeRequest t) = quiet _ refl refl refl

  signal-still : (operation : SignalOperation) → SignalCauses Still operation
  signal-still (Add p) = tt
  signal-still (Forget p) = tt
  signal-still (Trigger r) = λ p. quiet _ refl refl refl

  taken-still : (j : StreamId) (taker : Taker) (v : Value) → Still (writable.taken_by j v taker)
  taken-still j ToHost v = quiet _ refl refl refl
  taken-still j (ToTransform t d) v = quiet _ refl refl refl
  taken-still j (ToPort d p) v = quiet _ refl refl refl

  -- effects that cause no pull of it
  abbrev pub IsOther : Effect → Type 0
  IsOther (OnReadable j operation) = is_same i j ≡ false
  IsOther (Byte j operation) = is_same i j ≡ false
  IsOther (PullAlgorithm j) = ⊥
  IsOther _ = Unit {0}

  pub row-still : (e : Effect) (s : Slots) → IsOther e → Each Still (row e s).caused
  row-still (OnReadable j operation) s o = row-causes Still (OnReadable j operation) s (readable-still j o)
  row-still (Byte j operation) s o = row-causes Still (Byte j operation) s (record { readable = readable-still j o; close_with = λ q b. quiet _ refl refl refl })
  row-still (OnWritable j operation) s o =
      writable-caused Still j s operation (λ h. record {
        write = quiet _ refl refl refl;
        close = quiet _ refl refl refl;
        abort = λ r p. quiet _ refl refl refl;
        take = λ taker v e. taken-still j taker v;
      })
  row-still (OnPipe p operation) s o = row-causes Still (OnPipe p operation) s (pipe-still p)
  row-still (OnTransform t operation) s o = row-causes Still (OnTransform t operation) s (transform-still t)
  row-still (OnTee t operation) s o = row-causes Still (OnTee t operation) s (tee-still t)
  row-still (OnPort d operation) s o = row-causes Still (OnPort d operation) s (port-still d)
  row-still (OnSignal a operation) s o = row-causes Still (OnSignal a operation) s (signal-still operation)
  row-still (StartAlgorithm j step start) s o = row-causes Still (StartAlgorithm j step start) s (λ g u. quiet _ refl refl refl, λ h u. quiet _ refl refl refl)
  row-still (PullAlgorithm j) s o = absurd o
  row-still (CancelAlgorithm j r p) s o =
      row-causes Still (CancelAlgorithm j r p) s (λ h u. quiet _ refl refl refl, (λ t u. quiet _ refl refl refl, (λ t half u. quiet _ refl refl refl, λ d u. quiet _ refl refl refl)))
  row-still (WriteAlgorithm j) s o = row-causes Still (WriteAlgorithm j) s (quiet _ refl refl refl, (λ t u. quiet _ refl refl refl, λ d u. quiet _ refl refl refl))
  row-still (CloseAlgorithm j) s o = row-causes Still (CloseAlgorithm j) s (λ h u. quiet _ refl refl refl, (λ t u. quiet _ refl refl refl, λ d u. quiet _ refl refl refl))
  row-still (AbortAlgorithm j r p) s o = row-causes Still (AbortAlgorithm j r p) s (λ h u. quiet _ refl refl refl, (λ t u. quiet _ refl refl refl, λ d u. quiet _ refl refl refl))
  row-still (ChunkSteps j request v) s o = row-causes Still (ChunkSteps j request v) s (chunk-still v request)
  row-still (CloseSteps j request) s o = row-causes Still (CloseSteps j request) s (end-still request)
  row-still (CloseStepsWith j request b) s o = row-causes Still (CloseStepsWith j request b) s (end-still request)
  row-still (ErrorSteps j request e) s o = row-causes Still (ErrorSteps j request e) s (error-still request)
  row-still e s o = row-causes Still e s tt

-- a readable stream that performs the algorithms of port c
module _ (c : PortId) (i : StreamId) (s : Slots) (ended : Ended s) (here : slice_get (stream_shapes s) i.0 ≡ Some (ReadableOf (EndOf c))) where
  there-by : (xs : List Stream) (n : ℕ) → slice_get (map stream_shape xs) n ≡ Some (ReadableOf (EndOf c)) → (is_readable_stream (slice_get xs n) ≡ true) × (owner_of (slice_get xs n) ≡ EndOf c)
  there-by [] n e = cc
  there-by (ReadableStream r ∷ xs) zero e = (refl, cc)
  there-by (ByteStream b ∷ xs) zero e = cc
  there-by (WritableStream w ∷ xs) zero e = cc
  there-by (x ∷ xs) (suc n) e = there-by xs n e

  readable-there_so : has_readable i s ≡ true
  readable-there_so = (there-by s.streams i.0 here).0

  pub owned : owner_at i s ≡ EndOf c
  owned = (there-by s.streams i.0 here).1

  no-bytes : has_byte i s ≡ false
  no-bytes = by (slice_get s.streams i.0) readable-there_so
    where
      by : (o : Option Stream) → is_readable_stream o ≡ true → is_byte_stream o ≡ false
      by None e = refl
      by (Some (ReadableStream r)) e = refl
      by (Some (ByteStream b)) e = cc
      by (Some (WritableStream w)) e = refl

  abbrev Now : Slots → readable.Slots
  Now z = readable_at i z

  -- others leave it
  pub row-same : (e : Effect) → IsOther c i e → readable_at i (row e s).slots ≡ readable_at i s
  unfolding row
  row-same (OnReadable j operation) o = ap as_readable (on_source-other operation j s i o)
  row-same (Byte j operation) o = ap as_readable (on_byte-other (byte_operation j operation) j s i o)
  row-same (OnWritable j operation) o = on_writable-readable (writable_operation j operation) j s i (is_same i j) refl
  row-same (PullAlgorithm j) o = absurd o
  row-same e o = ap (λ (xs : List Stream). as_readable (slice_get xs i.0)) (row-streams e s tt)

  abbrev Bounded : Effect → Done → Type 0
  Bounded e d = pulled c i d.caused + is_idle (readable_at i d.slots) ≤ pulls_of i e + asked_of c e + is_idle (readable_at i s)

  other-bounded : (e : Effect) → IsOther c i e → pulled c i (row e s).caused + is_idle (readable_at i (row e s).slots) ≤ is_idle (readable_at i s)
  other-bounded e o = let n = still-pulled c i (row e s).caused (row-still c i e s o) in let m = ap is_idle (row-same e o) in omega (arith, n, m)

  -- its own operations

  pub record Unasked (e : Effect) : Type 0 where
    pub asked : asked_of c e ≡ 0
    pub settles : settles_of i e ≡ false

  own-causes : (j : StreamId) → ReadableCauses Unasked j
  own-causes j = record {
    pull = record { asked = refl; settles = refl };
    cancel = λ r p. record { asked = refl; settles = refl };
    chunk = λ q v. record { asked = refl; settles = refl };
    close = λ q. record { asked = refl; settles = refl };
    error = λ q e. record { asked = refl; settles = refl };
  }

  unasked : (es : List Effect) → Each Unasked es → (total (asked_of c) es ≡ 0) × (some_of (settles_of i) es ≡ false)
  unasked [] h = (refl, refl)
  unasked (e ∷ es) h = let n = unasked es h.1 in let m = h.0.asked in (let k = n.0 in omega (arith, k, m), rw (h.0.settles) n.1)

  own-unasked : (operation : ReadableOperation) → Each Unasked (row (OnReadable i operation) s).caused
  own-unasked operation = row-causes Unasked (OnReadable i operation) s (own-causes i)

  own-row : (operation : ReadableOperation) → row (OnReadable i operation) s ≡ put_readable i s (readable_operation i operation (readable_acts i s))
  unfolding row
  own-row operation = on_source-readable operation i s no-bytes ∙ rw readable-there_so refl

  pub own-slots : (operation : ReadableOperation) → readable_at i (row (OnReadable i operation) s).slots ≡ (readable_operation i operation (readable_acts i s)).slots
  unfolding row
  own-slots operation =
      ap (λ (d : Done). readable_at i d.slots) (on_source-readable operation i s no-bytes) ∙ ap as_readable (on_readable-same (readable_operation i operation) i s readable-there_so)

  pub own-caused : (operation : ReadableOperation) → (row (OnReadable i operation) s).caused ≡ (readable_operation i operation (readable_acts i s)).out.effects
  own-caused operation = ap (λ (d : Done). d.caused) (own-row operation)

  own-bounded : (operation : ReadableOperation) → is_settling i operation ≡ false
      → pulled c i (row (OnReadable i operation) s).caused + is_idle (readable_at i (row (OnReadable i operation) s).slots) ≤ is_idle (readable_at i s)
  own-bounded operation n =
      let a = (unasked _ (own-unasked operation)).0 in
      let h = operation-bounds i operation (readable_acts i s) n in
      let e = ap is_idle (own-slots operation) in
      let f = ap (total (pulls_of i)) (own-caused operation) in
      omega (arith, a, h, e, f)

  -- a pull has settled
  pub settled-bounded : (o : Result Plain Plain) → pulled c i (row (OnReadable i (reads.PullSettled o)) s).caused + is_idle (readable_at i (row (OnReadable i (reads.PullSettled o)) s).slots) ≤ 1
  settled-bounded o =
      let a = (unasked _ (own-unasked (reads.PullSettled o))).0 in
      let h = settled-bounds i o (readable_acts i s) in
      let e = ap is_idle (own-slots (reads.PullSettled o)) in
      let f = ap (total (pulls_of i)) (own-caused (reads.PullSettled o)) in
      omega (arith, a, h, e, f)

  pub own-settles : (operation : ReadableOperation) → some_of (settles_of i) (row (OnReadable i operation) s).caused ≡ false
  own-settles operation = (unasked _ (own-unasked operation)).1

  -- the pull algorithms

  same-stream : (x y : PortShape) → Some x ≡ Some y → x.stream ≡ y.stream
  same-stream x y e = cc

  -- no other stream performs the algorithms of this port
  only-one : (j : StreamId) → owner_at j s ≡ EndOf c → i ≡ j
  only-one j e = ⊎_elim (λ r. by (ended.end i c ReadableSide here) (ended.end j c ReadableSide r)) (λ w. clash (ended.end i c ReadableSide here) (ended.end j c WritableSide w)) (owned-shape c s.streams j.0 e)
    where
      by : HasEnd (port_shapes s) c ReadableSide i → HasEnd (port_shapes s) c ReadableSide j → i ≡ j
      by a b = same-stream (record { side = ReadableSide; stream = i }) (record { side = ReadableSide; stream = j }) (sym a ∙ b)

      clash : HasEnd (port_shapes s) c ReadableSide i → HasEnd (port_shapes s) c WritableSide j → i ≡ j
      clash a b = same-stream (record { side = ReadableSide; stream = i }) (record { side = WritableSide; stream = j }) (sym a ∙ b)

  pull-here : (u : Use) → pulled c i (pull_algorithm i u (owner_at i s)) ≤ 1
  pull-here u = rw owned (rw (is_same_port-refl c) (omega arith))

  pull-elsewhere : (j : StreamId) (u : Use) (owner : Owner) → owner ≡ owner_at j s → is_same i j ≡ false → pulled c i (pull_algorithm j u owner) ≤ 0
  pull-elsewhere j u Host e n = omega arith
  pull-elsewhere j u (HalfOf t) e n = omega arith
  pull-elsewhere j u (BranchOf t half) e n = omega arith
  pull-elsewhere j u (EndOf d) e n = by (is_same_port c d) refl
    where
      by : (same : Bool) → same ≡ is_same_port c d → pulled c i (pull_algorithm j u (EndOf d)) ≤ 0
      by false f = rw (← f) (omega arith)
      by true f =
          let is : c ≡ d = λ k. record { 0 = eq_numbers c.0 d.0 (sym f) k } in
          let one : i ≡ j = only-one j (sym e ∙ ap (λ (p : PortId). EndOf p) (sym is)) in
          let wrong : is_same i j ≡ true = rw one (is_same-refl j) in
          false_true (is_same i j) wrong n

  pull-bounded : (j : StreamId) (same : Bool) → same ≡ is_same i j
      → pulled c i (row (PullAlgorithm j) s).caused + is_idle (readable_at i (row (PullAlgorithm j) s).slots) ≤ pulls_of i (PullAlgorithm j) + is_idle (readable_at i s)
  unfolding row
  pull-bounded j true e =
      let is : i ≡ j = same_id i j (sym e) in
      let h = pull-here (React (ReadablePull i) None) in
      rw (← is, is_same-refl i) (omega (arith, h))
  pull-bounded j false e = let h = pull-elsewhere j (React (ReadablePull j) None) (owner_at j s) refl (sym e) in rw (← e) (omega (arith, h))

  -- where no pull settles, no more is pulled than was asked for, or than it was idle
  pull-settles : (j : StreamId) (u : Use) (owner : Owner) → some_of (settles_of i) (pull_algorithm j u owner) ≡ false
  pull-settles j u Host = refl
  pull-settles j u (HalfOf t) = refl
  pull-settles j u (BranchOf t half) = refl
  pull-settles j u (EndOf d) = refl

  pub bytes-idle : (operation : ByteOperation) → row (Byte i operation) s ≡ nothing s
  unfolding row
  bytes-idle operation = rw no-bytes refl

  pub record Pulled (e : Effect) (d : Done) : Type 0 where
    pub bounded : pulled c i d.caused + is_idle (readable_at i d.slots) ≤ pulls_of i e + is_idle (readable_at i s)
    pub settles : some_of (settles_of i) d.caused ≡ false

  other-pulled : (e : Effect) → IsOther c i e → Pulled e (row e s)
  other-pulled e o = record { bounded = let h = other-bounded e o in omega (arith, h); settles = still-settles c i (row e s).caused (row-still c i e s o) }

  own-pulled : (operation : ReadableOperation) → is_settling i operation ≡ false → Pulled (OnReadable i operation) (row (OnReadable i operation) s)
  own-pulled operation n = record { bounded = let h = own-bounded operation n in omega (arith, h); settles = own-settles operation }

  same-false : (b d : Bool) → b ≡ true → b && d ≡ false → d ≡ false
  same-false b d e n = grind arith

  readable-pulled : (j : StreamId) (operation : ReadableOperation) → settles_of i (OnReadable j operation) ≡ false → Pulled (OnReadable j operation) (row (OnReadable j operation) s)
  readable-pulled j operation n = by (is_same i j) refl
    where
      by : (same : Bool) → same ≡ is_same i j → Pulled (OnReadable j operation) (row (OnReadable j operation) s)
      by false e = other-pulled (OnReadable j operation) (sym e)
      by true e =
          let is : i ≡ j = same_id i j (sym e) in
          subst (λ (k : StreamId). Pulled (OnReadable k operation) (row (OnReadable k operation) s)) is (own-pulled operation (same-false (is_same i j) (is_settling i operation) (sym e) n))

  byte-pulled : (j : StreamId) (operation : ByteOperation) → Pulled (Byte j operation) (row (Byte j operation) s)
  byte-pulled j operation = by (is_same i j) refl
    where
      by : (same : Bool) → same ≡ is_same i j → Pulled (Byte j operation) (row (Byte j operation) s)
      by false e = other-pulled (Byte j operation) (sym e)
      by true e =
          let is : i ≡ j = same_id i j (sym e) in
          subst (λ (k : StreamId). Pulled (Byte k operation) (row (Byte k operation) s)) is (rw (bytes-idle operation) (record { bounded = omega arith; settles = refl }))

  algorithm-pulled : (j : StreamId) → Pulled (PullAlgorithm j) (row (PullAlgorithm j) s)
  unfolding row
  algorithm-pulled j = record { bounded = pull-bounded j (is_same i j) refl; settles = pull-settles j _ (owner_at j s) }

  pub row-pulled : (e : Effect) → settles_of i e ≡ false → Pulled e (row e s)
  row-pulled (OnReadable j operation) n = readable-pulled j operation n
  row-pulled (Byte j operation) n = byte-pulled j operation
  row-pulled (PullAlgorithm j) n = algorithm-pulled j
  row-pulled e n = other-pulled e tt
