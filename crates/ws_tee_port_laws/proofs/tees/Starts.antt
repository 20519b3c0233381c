-- A branch of a tee hears of no rejection of its start algorithm, nor of its pull algorithm: both give a promise that is resolved with undefined.
use Rattle.std.proofs.Common.{◌≡◌, ℕ, zero, suc, ◌+◌, Bool, true, false, List, [], ◌∷◌, ◌++◌, length, map, Option, Some, None, Ok, Err, slice_get, refl, sym, ap, subst, ◌∙◌, arith, length-append}
use Rattle.ws_laws.proofs.PortDoes.{PortCauses}
use Rattle.ws_steps.specs.declared.effects.Owner.TheVariants.{EndOf}
use Rattle.ws_value.specs.declared.ids.PortId.{PortId}
use Rattle.ws_steps.specs.declared.effects.Effect.TheVariants.{Port as OnPort}
use Rattle.ws_value.specs.declared.ids.{PipeId.{PipeId}, PromiseId.{PromiseId}, StreamId.{StreamId}, TeeId.{TeeId}}
use Rattle.ws_value.specs.declared.value.{Plain.{Plain}, Value.{Value}}
use Rattle.ws_steps.specs.declared.byte.ByteOperation.{ByteOperation}
use Rattle.ws_steps.specs.declared.calls.{Call.{Call}, StartBy.{StartBy}, StartBy.TheVariants.{Now, Later}}
use Rattle.ws_steps.specs.declared.effects.{Effect.{Effect}, Gift.{Gift}, Gift.TheVariants.{This, Fresh}, Owner.{Owner}, Owner.TheVariants.{Host, HalfOf, BranchOf}, Use.{Use}, Use.TheVariants.{React}}
use Rattle.ws_steps.specs.declared.effects.Effect.TheVariants.{Readable as OnReadable, Byte, Writable as OnWritable, Pipe as OnPipe, Signal as OnSignal, Transform as OnTransform, Tee as OnTee, StartAlgorithm, PullAlgorithm, CancelAlgorithm, WriteAlgorithm, CloseAlgorithm, AbortAlgorithm, ChunkSteps, CloseSteps, CloseStepsWith, ErrorSteps, Give, CallHost}
use Rattle.ws_steps.specs.declared.pipes.{SignalOperation.{SignalOperation}, SignalOperation.TheVariants.{Add, Forget, Trigger}}
use Rattle.ws_steps.specs.declared.promises.{Job.{Job}, Step.{Step}}
use Rattle.ws_steps.specs.declared.promises.Step.TheVariants.{ReadableStart, ReadablePull, WritableStart, PipeReady, PipeWrote, PipeActed, PipePart}
use Rattle.ws_steps.specs.declared.readable.{ReadRequest.{ReadRequest}, ReadRequest.TheVariants.{Promise, Pipe as PipeRequest, Tee as TeeRequest}, ReadableOperation.{ReadableOperation}}
use Rattle.ws_steps.specs.declared.readable.ReadableOperation.TheVariants.{StartSettled, PullSettled}
use Rattle.ws_steps.specs.declared.tee.Half.{Half}
use Rattle.ws_steps.specs.declared.transform.TransformId.{TransformId}
use Rattle.ws_steps.specs.Begun.{Begun}
use Rattle.ws_steps.specs.MakingCalls.{make_readable, make_bytes, make_writable, make_transform, start_transform}
use Rattle.ws_steps.specs.PipeCalls.{start_end, open_end}
use Rattle.ws_steps.specs.Calls.{begin}
use Rattle.ws_steps.specs.Histories.{is_same}
use Rattle.ws_steps.specs.Jobs.{job_effects}
use Rattle.ws_steps.specs.Operations.{readable_operation, byte_readable_operation, byte_operation}
use Rattle.ws_steps.specs.Promises.{next_id, fresh, after_next_job, first_job}
use Rattle.ws_steps.specs.Run.{after_event}
use Rattle.ws_steps.specs.declared.readable.SizeBy.TheVariants.{Count}
use Rattle.ws_steps.specs.declared.transform.Kind.{Kind}
use Rattle.ws_steps.specs.Bytes as byte
use Rattle.ws_steps.specs.Readable as readable
use Rattle.ws_steps.specs.Writable as writable
use Rattle.ws_steps.specs.Slots.{Slots, Stream, Done, ReadableStream, ByteStream, WritableStream, empty, nothing, with_promises, has_readable, has_byte, is_readable_stream, is_byte_stream, owner_of, owner_at, put_readable, put_byte, on_readable, on_byte}
use Rattle.ws_steps.specs.Turns.{row, on_source, start_algorithm, pull_algorithm, cancel_algorithm, write_algorithm, close_algorithm, abort_algorithm}
use Rattle.ws_laws.proofs.Begin.{begin-makes}
use Rattle.ws_laws.proofs.EachCall.{each_call}
use Rattle.ws_laws.proofs.Lists.{Each, each-append, each-map}
use Rattle.ws_laws.proofs.PipeDoes.{IsStepOf, PipeCauses}
use Rattle.ws_laws.proofs.Causes.{Causes, ReadableCauses, ChunkCauses, EndCauses, ErrorCauses, SignalCauses, row-causes}
use Rattle.ws_laws.proofs.Shapes.{StreamShape, ReadableOf, BytesOf, stream_shape, stream_shapes, row-stream_shapes}
use Rattle.ws_laws.proofs.Tables.{either, same_id, readable_acts, byte_acts}
use Rattle.ws_laws.proofs.TeeDoes.{TeeCauses}
use Rattle.ws_laws.proofs.TransformDoes.{TransformCauses}
use Rattle.ws_laws.proofs.Walker.{Stays}
use Rattle.ws_end_laws.proofs.hosts.Carried.{CarriesTee, TeeUses, row-tees_use, Carries, Uses, Own, row-uses}
use Rattle.ws_end_laws.proofs.hosts.Plain.{row-plainly}
use Rattle.ws_tee_port_laws.proofs.tees.Promised.{JobFits, JobsFit, Unheard, NoUse, GiftFits, plainly-unheard, fresh-unheard, watch-unheard, next-unheard, gift-unheard, host-unheard}
use Rattle.ws_steps.specs.declared.port.Side.{Side}
use Rattle.ws_steps.specs.declared.port.Side.TheVariants.{Readable as ReadableSide, Writable as WritableSide}
use Rattle.ws_end_laws.proofs.hosts.Ported.{CarriesPort, PortUses, row-port_uses}

-- the reactions of stream b to its start algorithm and its pull algorithm
abbrev pub of_stream : StreamId → Step → Bool
of_stream b (ReadableStart i) = is_same b i
of_stream b (ReadablePull i) = is_same b i
of_stream b _ = false

-- shapes of streams that were there stay
shape-stays : (xs ys : List Stream) (n : ℕ) (w : StreamShape) → slice_get (map stream_shape xs) n ≡ Some w → slice_get (map stream_shape (xs ++ ys)) n ≡ Some w
shape-stays [] ys n w e = cc
shape-stays (x ∷ xs) ys zero w e = e
shape-stays (x ∷ xs) ys (suc n) w e = shape-stays xs ys n w e

shape-last : (xs : List Stream) (y : Stream) (n : ℕ) → n ≡ length xs → slice_get (map stream_shape (xs ++ y ∷ [])) n ≡ Some (stream_shape y)
shape-last [] y zero e = refl
shape-last [] y (suc n) e = cc
shape-last (x ∷ xs) y zero e = cc
shape-last (x ∷ xs) y (suc n) e = shape-last xs y n (cc)

shape-owner : (xs : List Stream) (n : ℕ) (w : Owner) → slice_get (map stream_shape xs) n ≡ Some (ReadableOf w) → owner_of (slice_get xs n) ≡ w
shape-owner [] n w e = cc
shape-owner (ReadableStream r ∷ xs) zero w e = cc
shape-owner (ByteStream r ∷ xs) zero w e = cc
shape-owner (WritableStream r ∷ xs) zero w e = cc
shape-owner (x ∷ xs) (suc n) w e = shape-owner xs n w e

shape-none : (xs : List Stream) (n : ℕ) → slice_get (map stream_shape xs) n ≡ None → slice_get xs n ≡ None
shape-none [] n e = refl
shape-none (x ∷ xs) zero e = cc
shape-none (x ∷ xs) (suc n) e = shape-none xs n e

module _ (t : TeeId) (half : Half) (b : StreamId) where
  abbrev Of : Use → Type 0
  Of u = NoUse (of_stream b) u

  abbrev pub Branch : StreamShape
  Branch = ReadableOf (BranchOf t half)

  -- stream b is the branch, and where it is there, it is
  abbrev pub IsThere : Slots → Type 0
  IsThere s = slice_get (stream_shapes s) b.0 ≡ Some Branch

  abbrev pub IsMine : Slots → Type 0
  IsMine s = (w : StreamShape) → slice_get (stream_shapes s) b.0 ≡ Some w → w ≡ Branch

  -- what is known of effects
  abbrev Fits : Slots → Effect → Type 0
  Fits s (Give gift u) = GiftFits (of_stream b) gift u
  Fits s (CallHost call u) = Of u
  Fits s (StartAlgorithm i step Later) = of_stream b step ≡ false
  Fits s (OnTransform u operation) = Carries Of operation
  Fits s (OnTee u operation) = CarriesTee Of operation
  Fits s (OnPort c operation) = CarriesPort Of operation
  Fits s (PullAlgorithm i) = is_same b i ≡ true → IsThere s
  Fits s _ = Unit {0}

  abbrev pub IsCalm : Effect → Type 0
  IsCalm (OnReadable i (StartSettled (Err r))) = is_same b i ≡ false
  IsCalm (OnReadable i (PullSettled (Err r))) = is_same b i ≡ false
  IsCalm _ = Unit {0}

  fits-moves : (s z : Slots) → stream_shapes z ≡ stream_shapes s → (e : Effect) → Fits s e → Fits z e
  fits-moves s z same (PullAlgorithm i) f = λ e. ap (λ (xs : List StreamShape). slice_get xs b.0) same ∙ f e
  fits-moves s z same (Give gift u) f = f
  fits-moves s z same (CallHost call u) f = f
  fits-moves s z same (StartAlgorithm i step start) f = f
  fits-moves s z same (OnTransform u operation) f = f
  fits-moves s z same (OnTee u operation) f = f
  fits-moves s z same (OnPort c operation) f = f
  fits-moves s z same e f = f

  -- what effects cause

  is-calm : (e : Effect) → Causes IsCalm e
  is-calm e = grind (arith, transform-calm, pipe-calm, tee-calm, port-calm)
    where
      transform-calm : (u : TransformId) (writable readable : StreamId) (e : Effect) → TransformCauses u writable readable e → IsCalm e
      transform-calm u writable readable e c = grind (arith, c)

      pipe-calm : (p : PipeId) (source dest : StreamId) (e : Effect) → PipeCauses p source dest e → IsCalm e
      pipe-calm p source dest e c = grind (arith, c)

      tee-calm : (u : TeeId) (source first second : StreamId) (e : Effect) → TeeCauses u source first second e → IsCalm e
      tee-calm u source first second e c = grind (arith, c)

      port-calm : (c : PortId) (stream : StreamId) (e : Effect) → PortCauses c stream e → IsCalm e
      port-calm c stream e k = grind (arith, k)

  module _ (s : Slots) (mine : IsMine s) where
    pipe-step : (p : PipeId) (step : Step) → IsStepOf p step → of_stream b step ≡ false
    pipe-step p (PipeReady q) c = refl
    pipe-step p (PipeWrote q) c = refl
    pipe-step p (PipeActed q) c = refl
    pipe-step p (PipePart q) c = refl
    pipe-step p (ReadableStart i) c = absurd c
    pipe-step p (ReadablePull i) c = absurd c
    pipe-step p _ c = refl

    pipe-fits : (p : PipeId) (source dest : StreamId) (e : Effect) → PipeCauses p source dest e → Fits s e
    pipe-fits p source dest (Give (This q) (React step None)) c = pipe-step p step c
    pipe-fits p source dest (Give gift u) c = absurd c
    pipe-fits p source dest (CallHost call u) c = absurd c
    pipe-fits p source dest (StartAlgorithm i step start) c = absurd c
    pipe-fits p source dest (OnTransform u operation) c = absurd c
    pipe-fits p source dest (OnTee u operation) c = absurd c
    pipe-fits p source dest (OnPort q operation) c = absurd c
    pipe-fits p source dest (PullAlgorithm i) c = absurd c
    pipe-fits p source dest _ c = tt

    chunk-fits : (v : Value) (request : ReadRequest) → ChunkCauses (Fits s) v request
    chunk-fits v (Promise q) = tt
    chunk-fits v (PipeRequest q) = tt
    chunk-fits v (TeeRequest u) = tt

    end-fits : (request : ReadRequest) → EndCauses (Fits s) request
    end-fits (Promise q) = tt
    end-fits (PipeRequest q) = tt
    end-fits (TeeRequest u) = tt

    error-fits : (request : ReadRequest) → ErrorCauses (Fits s) request
    error-fits (Promise q) = tt
    error-fits (PipeRequest q) = tt
    error-fits (TeeRequest u) = tt

    signal-fits : (operation : SignalOperation) → SignalCauses (Fits s) operation
    signal-fits (Trigger r) = λ q. tt
    signal-fits (Add q) = tt
    signal-fits (Forget q) = tt

    start-fits : (i : StreamId) (step : Step) (z : Slots) (start : StartBy) → Fits s (StartAlgorithm i step start) → Each (Fits s) (start_algorithm i step z start).caused
    start-fits i step z Now n = (tt, tt)
    start-fits i step z Later n = (tt, (n, tt))

    -- the pull algorithm of another stream than b, and that of b
    pull-fits : (i : StreamId) (owner : Owner) → is_same b i ≡ false → Each (Fits s) (pull_algorithm i (React (ReadablePull i) None) owner)
    pull-fits i Host n = (n, tt)
    pull-fits i (HalfOf u) n = (n, tt)
    pull-fits i (BranchOf u h) n = (tt, (tt, tt))
    pull-fits i (EndOf c) n = (tt, (tt, tt))

    pull-by : (i : StreamId) (same : Bool) → is_same b i ≡ same → Fits s (PullAlgorithm i) → Each (Fits s) (pull_algorithm i (React (ReadablePull i) None) (owner_at i s))
    pull-by i false e f = pull-fits i (owner_at i s) e
    pull-by i true e f =
        let owner : owner_at b s ≡ BranchOf t half = shape-owner s.streams b.0 (BranchOf t half) (f e) in
        let here : owner_at i s ≡ BranchOf t half = subst (λ (j : StreamId). owner_at j s ≡ BranchOf t half) (same_id b i e) owner in
        rw here (tt, (tt, tt))

    cancel-fits : (i : StreamId) (r : Plain) (owner : Owner) (step : Step) (d : Option PromiseId) → of_stream b step ≡ false → Each (Fits s) (cancel_algorithm i r (React step d) owner)
    cancel-fits i r Host step d n = (n, tt)
    cancel-fits i r (HalfOf u) step d n = (n, tt)
    cancel-fits i r (BranchOf u h) step d n = (n, tt)
    cancel-fits i r (EndOf c) step d n = (n, tt)

    write-fits : (i : StreamId) (owner : Owner) → Each (Fits s) (write_algorithm i owner)
    write-fits i Host = (tt, tt)
    write-fits i (HalfOf u) = (refl, tt)
    write-fits i (BranchOf u h) = (tt, tt)
    write-fits i (EndOf c) = (refl, tt)

    close-fits : (i : StreamId) (owner : Owner) (step : Step) (d : Option PromiseId) → of_stream b step ≡ false → Each (Fits s) (close_algorithm i (React step d) owner)
    close-fits i Host step d n = (n, tt)
    close-fits i (HalfOf u) step d n = (n, tt)
    close-fits i (BranchOf u h) step d n = (n, tt)
    close-fits i (EndOf c) step d n = (n, tt)

    abort-fits : (i : StreamId) (r : Plain) (owner : Owner) (step : Step) (d : Option PromiseId) → of_stream b step ≡ false → Each (Fits s) (abort_algorithm i r (React step d) owner)
    abort-fits i r Host step d n = (n, tt)
    abort-fits i r (HalfOf u) step d n = (n, tt)
    abort-fits i r (BranchOf u h) step d n = (n, tt)
    abort-fits i r (EndOf c) step d n = (n, tt)

    own : Own Of
    own = record { resolve = λ q. tt; changed = λ u q. refl; transformed = λ u q. refl; flushed = λ u q. refl; aborted = λ u q r. refl; cancelled = λ u q r. refl }

    gift-fits : (gift : Gift) (u : Use) → Of u → GiftFits (of_stream b) gift u
    gift-fits (This p) u n = n
    gift-fits (Fresh (Ok v)) u n = tt
    gift-fits (Fresh (Err r)) u n = n

    uses-fit : (e : Effect) → Uses Of (λ i. Unit {0}) e → Fits s e
    uses-fit e u = grind (arith, u, gift-fits)

    tee-uses-fit : (e : Effect) → TeeUses Of e → Fits s e
    tee-uses-fit e u = grind (arith, u, gift-fits)

    port-uses-fit : (e : Effect) → PortUses Of (λ i. Unit {0}) e → Fits s e
    port-uses-fit e u = grind (arith, u, gift-fits)

    -- an operation of a stream that is there
    there-fits : (i : StreamId) → (is_same b i ≡ true → IsThere s) → ReadableCauses (Fits s) i
    there-fits i k = record { pull = k; cancel = λ r p. tt; chunk = λ r v. tt; close = λ r. tt; error = λ r e. tt }

    absent-source : (operation : ReadableOperation) (i : StreamId) → slice_get s.streams i.0 ≡ None → (on_source operation i s).caused ≡ []
    absent-source operation i none =
        either (λ (d : Done). d.caused ≡ []) (has_byte i s) (on_byte (byte_readable_operation i operation) i s) (on_readable (readable_operation i operation) i s)
        (λ h. let wrong : false ≡ true = sym (ap is_byte_stream none) ∙ h in cc)
        (λ h. either (λ (d : Done). d.caused ≡ []) (has_readable i s) (put_readable i s (readable_operation i operation (readable_acts i s))) (nothing s)
        (λ k. let wrong : false ≡ true = sym (ap is_readable_stream none) ∙ k in cc) (λ k. refl))

    absent-byte : (operation : ByteOperation) (i : StreamId) → slice_get s.streams i.0 ≡ None → (on_byte (byte_operation i operation) i s).caused ≡ []
    absent-byte operation i none =
        either (λ (d : Done). d.caused ≡ []) (has_byte i s) (put_byte i s (byte_operation i operation (byte_acts i s))) (nothing s)
        (λ h. let wrong : false ≡ true = sym (ap is_byte_stream none) ∙ h in cc) (λ h. refl)

    each-none : (es : List Effect) → es ≡ [] → Each (Fits s) es
    each-none es e = rw e tt

    known : (i : StreamId) (w : StreamShape) → slice_get (stream_shapes s) b.0 ≡ Some w → is_same b i ≡ true → IsThere s
    known i w at e = at ∙ ap (λ (v : StreamShape). Some v) (mine w at)

    streamless : (i : StreamId) → is_same b i ≡ true → slice_get (stream_shapes s) b.0 ≡ None → slice_get s.streams i.0 ≡ None
    streamless i e none = subst (λ (j : StreamId). slice_get s.streams j.0 ≡ None) (same_id b i e) (shape-none s.streams b.0 none)

    source-fits : (i : StreamId) (operation : ReadableOperation) (same : Bool) → is_same b i ≡ same → (o : Option StreamShape) → slice_get (stream_shapes s) b.0 ≡ o
        → Each (Fits s) (row (OnReadable i operation) s).caused
    unfolding row
    source-fits i operation false e o at = row-causes (Fits s) (OnReadable i operation) s (there-fits i (λ m. let wrong : false ≡ true = sym e ∙ m in cc))
    source-fits i operation true e (Some w) at = row-causes (Fits s) (OnReadable i operation) s (there-fits i (known i w at))
    source-fits i operation true e None at = each-none (on_source operation i s).caused (absent-source operation i (streamless i e at))

    bytes-fits : (i : StreamId) (operation : ByteOperation) (same : Bool) → is_same b i ≡ same → (o : Option StreamShape) → slice_get (stream_shapes s) b.0 ≡ o
        → Each (Fits s) (row (Byte i operation) s).caused
    unfolding row
    bytes-fits i operation false e o at =
        row-causes (Fits s) (Byte i operation) s (record { readable = there-fits i (λ m. let wrong : false ≡ true = sym e ∙ m in cc); close_with = λ r v. tt })
    bytes-fits i operation true e (Some w) at = row-causes (Fits s) (Byte i operation) s (record { readable = there-fits i (known i w at); close_with = λ r v. tt })
    bytes-fits i operation true e None at = each-none (on_byte (byte_operation i operation) i s).caused (absent-byte operation i (streamless i e at))

    caused-fit : (e : Effect) → Fits s e → Each (Fits s) (row e s).caused
    unfolding row
    caused-fit (OnReadable i operation) f = source-fits i operation (is_same b i) refl (slice_get (stream_shapes s) b.0) refl
    caused-fit (Byte i operation) f = bytes-fits i operation (is_same b i) refl (slice_get (stream_shapes s) b.0) refl
    caused-fit (OnWritable i operation) f =
        row-causes (Fits s) (OnWritable i operation) s (record { write = tt; close = tt; abort = λ r q. tt; hand_on = λ v. refl; take = λ v u d. tt; post = λ v c d. tt })
    caused-fit (OnPipe p operation) f = row-causes (Fits s) (OnPipe p operation) s (pipe-fits p)
    caused-fit (OnSignal a operation) f = row-causes (Fits s) (OnSignal a operation) s (signal-fits operation)
    caused-fit (OnTransform u operation) f =
        each-map (Uses Of (λ i. Unit {0})) (Fits s) uses-fit (row (OnTransform u operation) s).caused (row-uses Of (λ i. Unit {0}) own u operation s f (λ x e. tt))
    caused-fit (OnTee u operation) f = each-map (TeeUses Of) (Fits s) tee-uses-fit (row (OnTee u operation) s).caused (row-tees_use Of (λ q. tt) u operation s f)
    caused-fit (OnPort c operation) f =
        each-map (PortUses Of (λ i. Unit {0})) (Fits s) port-uses-fit (row (OnPort c operation) s).caused (row-port_uses Of (λ i. Unit {0}) (λ q. tt) (λ d q. refl) c operation s f (λ x e. tt))
    caused-fit (StartAlgorithm i step start) f = start-fits i step s start f
    caused-fit (PullAlgorithm i) f = pull-by i (is_same b i) refl f
    caused-fit (CancelAlgorithm i r p) f = cancel-fits i r (owner_at i s) _ _ refl
    caused-fit (WriteAlgorithm i) f = write-fits i (owner_at i s)
    caused-fit (CloseAlgorithm i) f = close-fits i (owner_at i s) _ _ refl
    caused-fit (AbortAlgorithm i r p) f = abort-fits i r (owner_at i s) _ _ refl
    caused-fit (ChunkSteps i request v) f = row-causes (Fits s) (ChunkSteps i request v) s (chunk-fits v request)
    caused-fit (CloseSteps i request) f = row-causes (Fits s) (CloseSteps i request) s (end-fits request)
    caused-fit (CloseStepsWith i request v) f = row-causes (Fits s) (CloseStepsWith i request v) s (end-fits request)
    caused-fit (ErrorSteps i request e) f = row-causes (Fits s) (ErrorSteps i request e) s (error-fits request)
    caused-fit _ f = tt

  -- what is known of a moment

  pub record Hears (s : Slots) (es : List Effect) : Type 0 where
    pub unheard : Unheard (of_stream b) s.promises
    pub fits : Each (Fits s) es
    pub calm : Each IsCalm es

  -- where stream b is no other
  abbrev pub Starts : Slots → List Effect → Type 0
  Starts s es = IsMine s → Hears s es

  row-heard : (e : Effect) (s : Slots) → Fits s e → Unheard (of_stream b) s.promises → Unheard (of_stream b) (row e s).slots.promises
  unfolding row
  row-heard (Give gift u) s f h = gift-unheard (of_stream b) gift u s.promises f h
  row-heard (CallHost call u) s f h = host-unheard (of_stream b) call u s f h
  row-heard e s f h = row-plainly (Unheard (of_stream b)) (plainly-unheard (of_stream b)) e s tt h

  row-starts : (s : Slots) (e : Effect) (es : List Effect) → Starts s (e ∷ es) → Starts (row e s).slots ((row e s).caused ++ es)
  row-starts s e es k mine =
      let same = row-stream_shapes e s in
      let before : IsMine s = λ w at. mine w (ap (λ (xs : List StreamShape). slice_get xs b.0) same ∙ at) in
      let h = k before in
      record {
        unheard = row-heard e s h.fits.0 h.unheard;
        fits = each-map (Fits s) (Fits (row e s).slots) (fits-moves s (row e s).slots same) ((row e s).caused ++ es)
            (each-append (Fits s) (row e s).caused es (caused-fit s before e h.fits.0) h.fits.1);
        calm = each-append IsCalm (row e s).caused es (row-causes IsCalm e s (is-calm e)) h.calm.1;
      }

  call-stays : (c : Call) (s : Slots) (w : StreamShape) → slice_get (stream_shapes s) b.0 ≡ Some w → slice_get (stream_shapes (begin c s).done.slots) b.0 ≡ Some w
  call-stays c s w at = begin-makes (λ z. slice_get (stream_shapes z) b.0 ≡ Some w) (record {
    promise = λ z k. k;
    locks = λ z ls k. k;
    hosts = λ z hs k. k;
    pipe = λ z source dest prevent signal promise k. k;
    signal = λ z k. k;
    transform = λ z kind i j change k. k;
    tee = λ z source first second cancel k. k;
    port = λ z side stream backpressure k. k;
    readable = λ z owner mark size k. shape-stays z.streams _ b.0 w k;
    bytes = λ z mark auto k. shape-stays z.streams _ b.0 w k;
    byob_requests = λ z requests k. k;
    writable = λ z owner mark size k. shape-stays z.streams _ b.0 w k;
  }) c s at

  call-unheard : (c : Call) (s : Slots) → Unheard (of_stream b) s.promises → Unheard (of_stream b) (begin c s).done.slots.promises
  call-unheard c s h = begin-makes (λ z. Unheard (of_stream b) z.promises) (record {
    promise = λ z k. fresh-unheard (of_stream b) z.promises k;
    locks = λ z ls k. k;
    hosts = λ z hs k. k;
    pipe = λ z source dest prevent signal promise k. k;
    signal = λ z k. k;
    transform = λ z kind i j change k. k;
    tee = λ z source first second cancel k. k;
    port = λ z side stream backpressure k. k;
    readable = λ z owner mark size k. k;
    bytes = λ z mark auto k. k;
    byob_requests = λ z requests k. k;
    writable = λ z owner mark size k. k;
  }) c s h

  call-calm : (c : Call) (s : Slots) → Each IsCalm (begin c s).done.caused
  call-calm c s = each_call (λ (z : Begun). Each IsCalm z.done.caused) c s (grind arith)

  -- a stream of another kind isn't stream b
  other-stream : (s : Slots) (i : StreamId) (w : StreamShape) → slice_get (stream_shapes s) i.0 ≡ Some w → (w ≡ Branch → ⊥) → IsMine s → is_same b i ≡ false
  other-stream s i w at unlike mine = by (is_same b i) refl
    where
      by : (same : Bool) → is_same b i ≡ same → is_same b i ≡ false
      by false e = e
      by true e = absurd (unlike (mine w (subst (λ (k : StreamId). slice_get (stream_shapes s) k.0 ≡ Some w) (sym (same_id b i e)) at)))

  started : (s : Slots) (i : StreamId) (step : Step) (start : StartBy) → of_stream b step ≡ false → Fits s (StartAlgorithm i step start)
  started s i step Now n = tt
  started s i step Later n = n

  abbrev Begins : Begun → Type 0
  Begins z = IsMine z.done.slots → Each (Fits z.done.slots) z.done.caused

  made-transform : (kind : Kind) (n k : ℕ) (start : StartBy) (s : Slots) → Begins (make_transform kind n k start (record { 0 = length s.streams }) (record { 0 = length s.streams + 1 }) s)
  made-transform kind n k start s m =
      let after : Slots = (make_transform kind n k start (record { 0 = length s.streams }) (record { 0 = length s.streams + 1 }) s).done.slots in
      let y : Stream = WritableStream (writable.set_up (HalfOf (record { 0 = length s.transforms })) n Count) in
      let z : Stream = ReadableStream (readable.set_up (HalfOf (record { 0 = length s.transforms })) k Count) in
      let at : slice_get (stream_shapes after) (length s.streams + 1) ≡ Some (stream_shape z) = shape-last (s.streams ++ y ∷ []) z (length s.streams + 1) (sym (length-append s.streams (y ∷ []))) in
      (tt, (refl, (tt, (other-stream after (record { 0 = length s.streams + 1 }) (stream_shape z) at (λ e. cc) m, (begun start, tt)))))
    where
      begun : (start : StartBy)
          → Fits (make_transform kind n k start (record { 0 = length s.streams }) (record { 0 = length s.streams + 1 }) s).done.slots
          (start_transform (next_id (fresh s.promises)) (record { 0 = length s.streams + 1 }) start)
      begun Now = tt
      begun Later = tt

  start-fits_end : (s : Slots) (i : StreamId) (side : Side) → Fits s (start_end i side)
  start-fits_end s i ReadableSide = tt
  start-fits_end s i WritableSide = tt

  call-fits : (c : Call) (s : Slots) → Begins (begin c s)
  call-fits c s = each_call Begins c s (record {
    unchanged = λ reply m. tt;
    rejected = λ fault m. (tt, tt);
    make_readable = λ mark size start m. (
      started (make_readable mark size start (record { 0 = length s.streams }) s).done.slots (record { 0 = length s.streams }) (ReadableStart (record { 0 = length s.streams })) start
          (other-stream (make_readable mark size start (record { 0 = length s.streams }) s).done.slots (record { 0 = length s.streams }) (ReadableOf Host)
          (shape-last s.streams (ReadableStream (readable.set_up Host mark size)) (length s.streams) refl) (λ e. cc) m),
      tt,
    );
    make_bytes = λ mark auto start m. (
      started (make_bytes mark auto start (record { 0 = length s.streams }) s).done.slots (record { 0 = length s.streams }) (ReadableStart (record { 0 = length s.streams })) start
          (other-stream (make_bytes mark auto start (record { 0 = length s.streams }) s).done.slots (record { 0 = length s.streams }) BytesOf
          (shape-last s.streams (ByteStream (byte.set_up mark auto)) (length s.streams) refl) (λ e. cc) m),
      tt,
    );
    make_writable = λ mark size start m.
        (started (make_writable mark size start (record { 0 = length s.streams }) s).done.slots (record { 0 = length s.streams }) (WritableStart (record { 0 = length s.streams })) start refl, tt);
    make_transform = λ kind n k start m. made-transform kind n k start s m;
    make_tee = λ i e there free untied m. (tt, (tt, (tt, (refl, tt))));
    get_reader = λ i e m. (tt, tt);
    get_byob = λ i is e m. (tt, tt);
    get_writer = λ i e m. (tt, tt);
    release_reader = λ l closed i e m. grind (arith, each-append);
    release_byob = λ l closed i e m. grind (arith, each-append);
    release_writer = λ l i w e f m. grind (arith, each-append);
    cancel = λ reason i m. (tt, tt);
    read = λ l i closed e f m. (tt, tt);
    read_into = λ l i closed room element least e f m. (tt, tt);
    write = λ l v i e m. (tt, tt);
    close = λ i m. (tt, tt);
    abort = λ reason i e m. (tt, tt);
    enqueue = λ i v e o can m. (tt, tt);
    enqueue_half = λ i u v e o can m. (tt, tt);
    enqueue_bytes = λ i bs e is some can m. (tt, tt);
    finish = λ i m. (tt, tt);
    finish_bytes = λ i e is can m. (tt, tt);
    make_request = λ i reply is m. (tt, tt);
    respond = λ q i bs e is can m. (tt, tt);
    fail_readable = λ i reason m. (tt, tt);
    fail_writable = λ i reason m. (tt, tt);
    fail_half = λ u reason m. (tt, tt);
    terminate = λ u m. (tt, tt);
    pipe = λ source dest prevent signal e f l k m. grind (arith, each-append);
    make_signal = λ m. tt;
    open_end = λ side m. (start-fits_end (open_end side (record { 0 = length s.streams }) s).done.slots (record { 0 = length s.streams }) side, tt);
    send_readable = λ i there free m. (tt, (tt, (tt, (tt, (refl, (refl, (tt, tt)))))));
    send_writable = λ i there free m. (tt, (tt, (tt, (tt, (refl, (refl, (tt, tt)))))));
    deliver = λ p x e is m. (tt, tt);
    trigger = λ a reason m. (tt, tt);
    settle = λ h answer p e m. grind arith;
  })

  job-calm : (job : Job) → JobFits (of_stream b) job → Each IsCalm (job_effects job)
  job-calm job f = grind (arith, f, each-append)

  job-fits : (job : Job) (s : Slots) → Each (Fits s) (job_effects job)
  job-fits job s = grind (arith, each-append)

  first-fits : (js : List Job) (job : Job) → first_job js ≡ Some job → JobsFit (of_stream b) js → JobFits (of_stream b) job
  first-fits [] job e f = cc
  first-fits (j ∷ js) job e f = let same : j ≡ job = cc in subst (JobFits (of_stream b)) same f.0

  pub starts-stays : Stays Starts
  starts-stays = record {
    row = row-starts;
    call = λ s c k mine.
        let h = k (λ w at. mine w (call-stays c s w at)) in
        record { unheard = call-unheard c s h.unheard; fits = call-fits c s mine; calm = call-calm c s };
    job = λ s job e k mine.
        let h = k mine in
        record {
          unheard = next-unheard (of_stream b) s.promises h.unheard;
          fits = job-fits job (with_promises (after_next_job s.promises) s);
          calm = job-calm job (first-fits s.promises.jobs job e h.unheard.queued);
        };
    answered = λ s p k mine. let h = k mine in record { unheard = watch-unheard (of_stream b) p s.promises h.unheard; fits = tt; calm = tt };
    older = λ s k mine. let h = k mine in record { unheard = h.unheard; fits = tt; calm = tt };
  }

  pub starts-heard : (s : Slots) → Starts s [] → Starts (after_event s) []
  starts-heard s k mine = let h = k mine in record { unheard = record { registered = h.unheard.registered; queued = h.unheard.queued }; fits = tt; calm = tt }

  pub starts-empty : Starts empty []
  starts-empty mine = record { unheard = record { registered = λ q. refl; queued = tt }; fits = tt; calm = tt }
