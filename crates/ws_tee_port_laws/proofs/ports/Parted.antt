-- When a port with a readable end posts an error (`none_posts_an_error_while_readable`).
use Rattle.std.specs.Prelude.{is_some}
use Rattle.ws_steps.specs.declared.readable.ReadableState.TheVariants.{Readable}
use Rattle.ws_tee_port_laws.specs.ports.Parted.{NonePostsAnErrorWhileReadable}
use Rattle.std.proofs.Common.{◌≡◌, ◌⊎◌, inl, inr, ⊎_elim, ℕ, zero, suc, Bool, true, false, ◌||◌, if◌then◌else◌, List, [], ◌∷◌, ◌++◌, map, Option, Some, None, slice_get, refl, sym, ap, subst, ◌∙◌, append-nil, append_assoc, arith}
use Rattle.ws_value.specs.declared.ids.{PipeId.{PipeId}, PortId.{PortId}, PromiseId.{PromiseId}, StreamId.{StreamId}, TeeId.{TeeId}}
use Rattle.ws_value.specs.declared.value.Message.{Message}
use Rattle.ws_value.specs.declared.value.Message.TheVariants.{Pull as PullMessage, Chunk as ChunkMessage}
use Rattle.ws_value.specs.declared.value.{Plain.{Plain}}
use Rattle.ws_steps.specs.declared.effects.{Effect.{Effect}, Owner.{Owner}, Owner.TheVariants.{Host, HalfOf, BranchOf, EndOf}, Use.{Use}}
use Rattle.ws_steps.specs.declared.effects.Effect.TheVariants.{Readable as OnReadable, Byte as OnByte, Writable as OnWritable, Pipe as OnPipe, Signal as OnSignal, Transform as OnTransform, Tee as OnTee, Port as OnPort, StartAlgorithm, PullAlgorithm, CancelAlgorithm, WriteAlgorithm, CloseAlgorithm, AbortAlgorithm, ChunkSteps, CloseSteps, CloseStepsWith, ErrorSteps}
use Rattle.ws_steps.specs.declared.pipes.{SignalOperation.TheVariants.{Add, Forget, Trigger}}
use Rattle.ws_steps.specs.declared.port.PortOperation.{PortOperation}
use Rattle.ws_steps.specs.declared.port.PortOperation.TheVariants as ports
use Rattle.ws_steps.specs.declared.port.{Side.{Side}, Side.TheVariants.{Readable as ReadableSide, Writable as WritableSide}}
use Rattle.ws_steps.specs.declared.readable.{ReadRequest.TheVariants.{Promise, Pipe as PipeRequest, Tee as TeeRequest}, ReadableOperation.{ReadableOperation}}
use Rattle.ws_steps.specs.declared.calls.Call.{Call}
use Rattle.ws_steps.specs.Calls.{begin}
use Rattle.ws_steps.specs.Cross as cross
use Rattle.ws_steps.specs.Histories.{is_same, run_events, taken_event}
use Rattle.ws_steps.specs.Jobs.{job_effects}
use Rattle.ws_steps.specs.Operations.{readable_operation}
use Rattle.ws_steps.specs.PortHistory.{is_same_port, posted_in, has_end}
use Rattle.ws_steps.specs.Promises.{after_next_job}
use Rattle.ws_steps.specs.Readable as readable
use Rattle.ws_steps.specs.Readable.{is_readable}
use Rattle.ws_steps.specs.Run.{Entry, Called, run, later_events}
use Rattle.ws_steps.specs.Slots.{Slots, Stream, ReadableStream, ByteStream, WritableStream, Done, empty, owner_of, owner_at, has_readable, has_byte, has_writable, as_port, readable_at, is_readable_stream, is_byte_stream, as_readable, as_writable, no_writable, on_readable, clones_at, with_promises}
use Rattle.ws_steps.specs.Turns.{row, on_source, cancel_algorithm, abort_algorithm}
use Rattle.ws_laws.proofs.Begin.{begin-makes}
use Rattle.ws_laws.proofs.Halves.{get-stays}
use Rattle.ws_laws.proofs.Ended.{PortShape, port_shape, port_shapes, HasEnd, Ended, row-port_shapes}
use Rattle.ws_laws.proofs.Lists.{Each, each-append, each-map}
use Rattle.ws_laws.proofs.PipeDoes.{PipeCauses}
use Rattle.ws_laws.proofs.PortDoes.{PortCauses}
use Rattle.ws_laws.proofs.Causes.{row-causes}
use Rattle.ws_laws.proofs.Shapes.{StreamShape, ReadableOf, WritableOf, stream_shape, stream_shapes, map-there}
use Rattle.ws_laws.proofs.Tables.{same_id, is_same-refl, eq_numbers, readable_acts, readable_there, byte_there, writable_there, on_source-readable, on_readable-same}
use Rattle.ws_laws.proofs.TeeDoes.{TeeCauses}
use Rattle.ws_laws.proofs.TransformDoes.{TransformCauses}
use Rattle.ws_laws.proofs.Walker as walker
use Rattle.ws_laws.proofs.Walker.{Goes, Rests}
use Rattle.ws_tee_port_laws.proofs.tees.Shutting.{row-keeps}
use Rattle.ws_tee_port_laws.proofs.ports.Cancels.{IsNoCancel, operation-either, operation-over}
use Rattle.ws_tee_port_laws.proofs.ports.Ends.{run-heard}
use Rattle.ws_tee_port_laws.proofs.ports.Fitting.{Fits, IsBegun, call-begun, job-begun, fitting-empty}
use Rattle.ws_tee_port_laws.proofs.ports.Once.{row-leaves, row-mine, no-mine, by-port}
use Rattle.ws_tee_port_laws.proofs.ports.Posting.{given, given_first}
use Rattle.ws_tee_port_laws.proofs.ports.PostingRuns.{Past, nothing_past, then_past, past-history, untold_past, said, all_posted, Whole, posting-goes, posting-rests, PortsNow, call-ports, split-events}
use Rattle.ws_tee_port_laws.proofs.ports.Told.{posted, call-events, next-events, watch-posted}

module _ (c : PortId) (i : StreamId) where
  -- stream i is at the readable end of port c
  abbrev pub IsHere : Slots → Type 0
  IsHere s = HasEnd (port_shapes s) c ReadableSide i

  abbrev pub over : Slots → Type 0
  over s = is_readable (readable_at i s).state ≡ false

  -- an effect by which an error may be posted stands only where the stream isn't readable
  abbrev pub Calm : Slots → Effect → Type 0
  Calm s (CancelAlgorithm k r q) = is_same i k ≡ true → over s
  Calm s (AbortAlgorithm k r q) = is_same i k ≡ false
  Calm s (OnPort d (ports.Leave r u)) = is_same_port c d ≡ true → over s
  Calm s _ = Unit {0}

  shaped : (s : Slots) → Ended s → IsHere s → slice_get (stream_shapes s) i.0 ≡ Some (ReadableOf (EndOf c))
  shaped s h here = h.ends c (record { side = ReadableSide; stream = i }) here

  readable-by : (xs : List Stream) (n : ℕ) (o : Owner) → slice_get (map stream_shape xs) n ≡ Some (ReadableOf o) → (is_readable_stream (slice_get xs n) ≡ true) × (is_byte_stream (slice_get xs n) ≡ false)
  readable-by [] n o e = cc
  readable-by (ReadableStream r ∷ xs) zero o e = (refl, refl)
  readable-by (ByteStream b ∷ xs) zero o e = cc
  readable-by (WritableStream w ∷ xs) zero o e = cc
  readable-by (x ∷ xs) (suc n) o e = readable-by xs n o e

  here-readable : (s : Slots) → Ended s → IsHere s → (has_readable i s ≡ true) × (has_byte i s ≡ false)
  here-readable s h here = readable-by s.streams i.0 (EndOf c) (shaped s h here)

  unlike : (s : Slots) → Ended s → IsHere s → (k : StreamId) (w : StreamShape) → slice_get (stream_shapes s) k.0 ≡ Some w → (w ≡ ReadableOf (EndOf c) → ⊥) → is_same i k ≡ false
  unlike s h here k w at n = by (is_same i k) refl
    where
      by : (b : Bool) → b ≡ is_same i k → is_same i k ≡ false
      by false e = sym e
      by true e =
          let is : i ≡ k = same_id i k (sym e) in
          let own : slice_get (stream_shapes s) k.0 ≡ Some (ReadableOf (EndOf c)) = subst (λ (x : StreamId). slice_get (stream_shapes s) x.0 ≡ Some (ReadableOf (EndOf c))) is (shaped s h here) in
          let both : Some w ≡ Some (ReadableOf (EndOf c)) = sym at ∙ own in
          absurd (n (cc))

  writable-apart : (s : Slots) → Ended s → IsHere s → (k : StreamId) → has_writable k s ≡ true → is_same i k ≡ false
  writable-apart s h here k there = unlike s h here k _ (map-there stream_shape s.streams k.0 _ (writable_there (slice_get s.streams k.0) there)) (λ e. cc)

  bytes-apart : (s : Slots) → Ended s → IsHere s → (k : StreamId) → has_byte k s ≡ true → is_same i k ≡ false
  bytes-apart s h here k there = unlike s h here k _ (map-there stream_shape s.streams k.0 _ (byte_there (slice_get s.streams k.0) there)) (λ e. cc)

  -- a stream that performs the algorithms of the port is this one
  owner-here : (s : Slots) → Ended s → IsHere s → (k : StreamId) (d : PortId) → EndOf d ≡ owner_at k s → is_same_port c d ≡ true → is_same i k ≡ true
  owner-here s h here k d own same =
      let is : c ≡ d = ap (λ (n : ℕ). record { 0 = n }) (eq_numbers c.0 d.0 same) in
      let one : owner_at k s ≡ EndOf c = sym own ∙ ap EndOf (sym is) in
      ⊎_elim (λ r. same_stream ReadableSide (h.end k c ReadableSide r)) (λ w. same_stream WritableSide (h.end k c WritableSide w)) (owned s.streams k.0 one)
    where
      owned : (xs : List Stream) (n : ℕ) → owner_of (slice_get xs n) ≡ EndOf c → (slice_get (map stream_shape xs) n ≡ Some (ReadableOf (EndOf c))) ⊎ (slice_get (map stream_shape xs) n ≡ Some (WritableOf (EndOf c)))
      owned [] n e = cc
      owned (ReadableStream r ∷ xs) zero e = inl (ap (λ o. Some (ReadableOf o)) e)
      owned (ByteStream b ∷ xs) zero e = cc
      owned (WritableStream w ∷ xs) zero e = inr (ap (λ o. Some (WritableOf o)) e)
      owned (x ∷ xs) (suc n) e = owned xs n e

      same_stream : (side : Side) → HasEnd (port_shapes s) c side k → is_same i k ≡ true
      same_stream side e =
          let both : ◌≡◌ {A = Option PortShape} (Some (record { side = ReadableSide; stream = i })) (Some (record { side = side; stream = k })) = sym here ∙ e in
          let one : record { side = ReadableSide; stream = i } ≡ record { side = side; stream = k } = some_shape _ _ both in
          let ik : i ≡ k = ap (λ (x : PortShape). x.stream) one in rw (← ik) (is_same-refl i)
        where
          some_shape : (x y : PortShape) → ◌≡◌ {A = Option PortShape} (Some x) (Some y) → x ≡ y
          some_shape x y e = cc

  -- what an effect causes

  pipe-calm : (z : Slots) (p : PipeId) (source dest : StreamId) (e : Effect) → PipeCauses p source dest e → Calm z e
  pipe-calm z p source dest e m = grind (arith, m)

  tee-calm : (z : Slots) (u : TeeId) (source first second : StreamId) (e : Effect) → TeeCauses u source first second e → Calm z e
  tee-calm z u source first second e m = grind (arith, m)

  transform-calm : (z : Slots) (t : _) (w r : StreamId) (e : Effect) → TransformCauses t w r e → Calm z e
  transform-calm z t w r e m = grind (arith, m)

  port-calm : (z : Slots) (d : PortId) (stream : StreamId) (e : Effect) → PortCauses d stream e → Calm z e
  port-calm z d stream e m = grind (arith, m)

  -- what an operation of a readable stream may cause
  abbrev IsReadables : Effect → Type 0
  IsReadables (AbortAlgorithm k r q) = ⊥
  IsReadables (OnPort d operation) = ⊥
  IsReadables _ = Unit {0}

  none-calm : (z : Slots) (e : Effect) → IsNoCancel e → IsReadables e → Calm z e
  none-calm z e n k = grind (arith, n, k)

  each-both : (z : Slots) (es : List Effect) → Each IsNoCancel es → Each IsReadables es → Each (Calm z) es
  each-both z [] n k = tt
  each-both z (e ∷ es) n k = (none-calm z e n.0 k.0, each-both z es n.1 k.1)

  module _ (s : Slots) (h : Ended s) (here : IsHere s) where
    abbrev there : (has_readable i s ≡ true) × (has_byte i s ≡ false)
    there = here-readable s h here

    -- an operation of the stream itself
    module _ (operation : ReadableOperation) where
      abbrev own : readable.Acts
      own = readable_operation i operation (readable_acts i s)

      abbrev z : Slots
      z = (row (OnReadable i operation) s).slots

      own-is : on_source operation i s ≡ on_readable (readable_operation i operation) i s
      own-is = on_source-readable operation i s there.1

      own-at : readable_at i (on_source operation i s).slots ≡ own.slots
      own-at = ap (λ (d : Done). readable_at i d.slots) own-is ∙ ap as_readable (on_readable-same (readable_operation i operation) i s there.0)

      own-effects : (on_source operation i s).caused ≡ own.out.effects
      own-effects = let t = there.0 in ap (λ (d : Done). d.caused) own-is ∙ rw t refl

      readables : Each IsReadables (row (OnReadable i operation) s).caused
      readables = row-causes IsReadables (OnReadable i operation) s (record { pull = tt; cancel = λ r q. tt; chunk = λ q v. tt; close = λ q. tt; error = λ q e. tt })

      own-calm : Each (Calm z) (row (OnReadable i operation) s).caused
      unfolding row
      own-calm =
          ⊎_elim
          (λ e. row-causes (Calm z) (OnReadable i operation) s (record { pull = tt; cancel = λ r q same. ap (λ (x : readable.Slots). is_readable x.state) own-at ∙ e; chunk = λ q v. tt; close = λ q. tt; error = λ q e. tt }))
          (λ n. each-both z (row (OnReadable i operation) s).caused (rw own-effects n) readables)
          (operation-either i operation (readable_acts i s) tt)

    apart-calm : (z : Slots) (k : StreamId) (r : Plain) (q : PromiseId) → is_same i k ≡ false → Calm z (CancelAlgorithm k r q)
    apart-calm z k r q n = λ same. let no : true ≡ false = sym same ∙ n in cc

    cancel-calm : (z : Slots) (k : StreamId) (r : Plain) (u : Use) → (is_same i k ≡ true → over z) → (o : Owner) → o ≡ owner_at k s → Each (Calm z) (cancel_algorithm k r u o)
    cancel-calm z k r u f Host e = (tt, tt)
    cancel-calm z k r u f (HalfOf t) e = (tt, tt)
    cancel-calm z k r u f (BranchOf t half) e = (tt, tt)
    cancel-calm z k r u f (EndOf d) e = (λ same. f (owner-here s h here k d e same), tt)

    abort-calm : (z : Slots) (k : StreamId) (r : Plain) (u : Use) → is_same i k ≡ false → (o : Owner) → o ≡ owner_at k s → Each (Calm z) (abort_algorithm k r u o)
    abort-calm z k r u n Host e = (tt, tt)
    abort-calm z k r u n (HalfOf t) e = (tt, tt)
    abort-calm z k r u n (BranchOf t half) e = (tt, tt)
    abort-calm z k r u n (EndOf d) e = (λ same. let no : true ≡ false = sym (owner-here s h here k d e same) ∙ n in cc, tt)

    row-caused : (e : Effect) → Calm s e → Each (Calm (row e s).slots) (row e s).caused
    unfolding row
    row-caused (OnReadable k operation) m = by (is_same i k) refl
      where
        by : (same : Bool) → same ≡ is_same i k → Each (Calm (row (OnReadable k operation) s).slots) (row (OnReadable k operation) s).caused
        by false n = row-causes (Calm (row (OnReadable k operation) s).slots) (OnReadable k operation) s (record { pull = tt; cancel = λ r q. apart-calm (row (OnReadable k operation) s).slots k r q (sym n); chunk = λ q v. tt; close = λ q. tt; error = λ q e. tt })
        by true n = subst (λ (x : StreamId). Each (Calm (row (OnReadable x operation) s).slots) (row (OnReadable x operation) s).caused) (same_id i k (sym n)) (own-calm operation)
    row-caused (OnByte k operation) m = by (has_byte k s) refl
      where
        by : (b : Bool) → b ≡ has_byte k s → Each (Calm (row (OnByte k operation) s).slots) (row (OnByte k operation) s).caused
        by true e = row-causes (Calm (row (OnByte k operation) s).slots) (OnByte k operation) s (record {
          readable = record { pull = tt; cancel = λ r q. apart-calm (row (OnByte k operation) s).slots k r q (bytes-apart s h here k (sym e)); chunk = λ q v. tt; close = λ q. tt; error = λ q e. tt };
          close_with = λ q b. tt;
        })
        by false e = rw (← e) tt
    row-caused (OnWritable k operation) m = by (has_writable k s) refl
      where
        by : (b : Bool) → b ≡ has_writable k s → Each (Calm (row (OnWritable k operation) s).slots) (row (OnWritable k operation) s).caused
        by true e = row-causes (Calm (row (OnWritable k operation) s).slots) (OnWritable k operation) s (record { write = tt; close = tt; abort = λ r q. writable-apart s h here k (sym e); hand_on = λ v. tt; take = λ v t d. tt; post = λ v d p. tt })
        by false e = rw (← e) tt
    row-caused (OnPipe q operation) m = row-causes (Calm (row (OnPipe q operation) s).slots) (OnPipe q operation) s (λ source dest e n. pipe-calm (row (OnPipe q operation) s).slots q source dest e n)
    row-caused (OnSignal a (Trigger r)) m = row-causes (Calm (row (OnSignal a (Trigger r)) s).slots) (OnSignal a (Trigger r)) s (λ q. tt)
    row-caused (OnSignal a (Add q)) m = row-causes (Calm (row (OnSignal a (Add q)) s).slots) (OnSignal a (Add q)) s tt
    row-caused (OnSignal a (Forget q)) m = row-causes (Calm (row (OnSignal a (Forget q)) s).slots) (OnSignal a (Forget q)) s tt
    row-caused (OnTransform t operation) m = row-causes (Calm (row (OnTransform t operation) s).slots) (OnTransform t operation) s (λ w r e n. transform-calm (row (OnTransform t operation) s).slots t w r e n)
    row-caused (OnTee t operation) m = row-causes (Calm (row (OnTee t operation) s).slots) (OnTee t operation) s (λ source first second e n. tee-calm (row (OnTee t operation) s).slots t source first second e n)
    row-caused (OnPort d operation) m = row-causes (Calm (row (OnPort d operation) s).slots) (OnPort d operation) s (λ stream e n. port-calm (row (OnPort d operation) s).slots d stream e n)
    row-caused (StartAlgorithm k step start) m = row-causes (Calm (row (StartAlgorithm k step start) s).slots) (StartAlgorithm k step start) s (λ g u. tt, λ d u. tt)
    row-caused (PullAlgorithm k) m = row-causes (Calm (row (PullAlgorithm k) s).slots) (PullAlgorithm k) s (λ d u. tt, (λ t u. tt, (λ t. tt, (λ u. tt, λ q. tt))))
    row-caused (CancelAlgorithm k r q) m = cancel-calm (row (CancelAlgorithm k r q) s).slots k r _ (λ same. row-keeps (λ (x : readable.Slots). is_readable x.state ≡ false) (λ j o a g. operation-over j o a g) i (CancelAlgorithm k r q) s (m same)) (owner_at k s) refl
    row-caused (WriteAlgorithm k) m = row-causes (Calm (row (WriteAlgorithm k) s).slots) (WriteAlgorithm k) s (tt, (λ t u. tt, λ z u. tt))
    row-caused (CloseAlgorithm k) m = row-causes (Calm (row (CloseAlgorithm k) s).slots) (CloseAlgorithm k) s (λ d u. tt, (λ t u. tt, λ z u. tt))
    row-caused (AbortAlgorithm k r q) m = abort-calm (row (AbortAlgorithm k r q) s).slots k r _ m (owner_at k s) refl
    row-caused (ChunkSteps k (Promise q) v) m = tt
    row-caused (ChunkSteps k (PipeRequest q) v) m = (tt, tt)
    row-caused (ChunkSteps k (TeeRequest b) v) m = (tt, tt)
    row-caused (CloseSteps k (Promise q)) m = tt
    row-caused (CloseSteps k (PipeRequest q)) m = (tt, tt)
    row-caused (CloseSteps k (TeeRequest b)) m = (tt, tt)
    row-caused (CloseStepsWith k (Promise q) b) m = tt
    row-caused (CloseStepsWith k (PipeRequest q) b) m = (tt, tt)
    row-caused (CloseStepsWith k (TeeRequest t) b) m = (tt, tt)
    row-caused (ErrorSteps k (Promise q) r) m = tt
    row-caused (ErrorSteps k (PipeRequest q) r) m = (tt, tt)
    row-caused (ErrorSteps k (TeeRequest b) r) m = (tt, tt)
    row-caused _ m = tt

  -- what stood behind stays

  row-over : (e : Effect) (s : Slots) → over s → over (row e s).slots
  row-over e s k = row-keeps (λ (x : readable.Slots). is_readable x.state ≡ false) (λ j o a g. operation-over j o a g) i e s k

  calm-on : (s z : Slots) → (over s → over z) → (e : Effect) → Calm s e → Calm z e
  calm-on s z f (CancelAlgorithm k r q) m = λ same. f (m same)
  calm-on s z f (AbortAlgorithm k r q) m = m
  calm-on s z f (OnPort d (ports.Leave r u)) m = λ same. f (m same)
  calm-on s z f e m = grind (arith, m)

  begun-calm : (z : Slots) (e : Effect) → IsBegun e → Calm z e
  begun-calm z e b = grind (arith, b)

  -- what is posted

  ends-more : (ms ns : List Message) → has_end (ms ++ ns) ≡ has_end ms || has_end ns
  ends-more [] ns = refl
  ends-more (m ∷ ms) ns = let h = ends-more ms ns in grind (arith, h)

  abbrev IsLeave : PortOperation → Type 0
  IsLeave (ports.Leave r u) = Unit {0}
  IsLeave (ports.Close u) = Unit {0}
  IsLeave _ = ⊥

  no-end : (operation : PortOperation) (x : cross.Slots) → (IsLeave operation → ⊥) → has_end (given true operation x) ≡ false
  no-end ports.Pull x n = by x.live
    where
      by : (b : Bool) → has_end (if b then PullMessage ∷ [] else []) ≡ false
      by true = refl
      by false = refl
  no-end (ports.Leave r u) x n = absurd (n tt)
  no-end (ports.Write u) x n = refl
  no-end (ports.WriteGoesOn p) x n = by x.backpressure
    where
      by : (o : Option PromiseId) → has_end (given_first true x o) ≡ false
      by None = refl
      by (Some p) = refl
  no-end (ports.PostChunk v p) x n = by x.live
    where
      by : (b : Bool) → has_end (if b then ChunkMessage v ∷ [] else []) ≡ false
      by true = refl
      by false = refl
  no-end (ports.Close u) x n = absurd (n tt)
  no-end (ports.Deliver m) x n = refl
  no-end ports.Unblock x n = refl

  clones-here : (s : Slots) (x : cross.Slots) → Ended s → IsHere s → x.stream ≡ i → clones_at x s ≡ true
  clones-here s x h here is = let none = no_writable_here (slice_get s.streams i.0) (here-readable s h here).0 in rw (is, none) refl
    where
      no_writable_here : (o : Option Stream) → is_readable_stream o ≡ true → as_writable o ≡ no_writable
      no_writable_here o e = grind (arith, e)

  here-port : (s : Slots) (x : cross.Slots) → IsHere s → slice_get s.ports c.0 ≡ Some x → (x.side ≡ ReadableSide) × (x.stream ≡ i)
  here-port s x here at =
      let both : ◌≡◌ {A = Option PortShape} (Some (record { side = ReadableSide; stream = i })) (Some (port_shape x)) = sym here ∙ map-there port_shape s.ports c.0 x at in
      let one : record { side = ReadableSide; stream = i } ≡ port_shape x = some_shape _ _ both in
      (sym (ap (λ (y : PortShape). y.side) one), sym (ap (λ (y : PortShape). y.stream) one))
    where
      some_shape : (x y : PortShape) → ◌≡◌ {A = Option PortShape} (Some x) (Some y) → x ≡ y
      some_shape x y e = cc

  abbrev Ends : Past → Slots → Type 0
  Ends h s = has_end (all_posted c h s) ≡ true → over s

  pub record Parts (h : Past) (s : Slots) (es : List Effect) : Type 0 where
    pub posting : Whole c h s es
    pub calm : IsHere s → Each (Calm s) es
    pub parted : IsHere s → Ends h s

  same-ends : (h : Past) (s z : Slots) → posted c z.promises ≡ posted c s.promises → (over s → over z) → Ends h s → Ends (then_past h nothing_past) z
  same-ends h s z e f k = rw (append-nil h.heard, e) (λ g. f (k g))

  either-end : (a b : Bool) → a || b ≡ true → (a ≡ true) ⊎ (b ≡ true)
  either-end true b e = inl refl
  either-end false b e = inr e

  leaves-over : (s : Slots) (operation : PortOperation) → IsHere s → Fits (stream_shapes s) (port_shapes s) (OnPort c operation) → Calm s (OnPort c operation) → IsLeave operation → over s
  leaves-over s (ports.Leave r u) here f m l = m self
    where
      self : is_same_port c c ≡ true
      self = grind arith
  leaves-over s (ports.Close u) here f m l = let no : ReadableSide ≡ WritableSide = f (record { side = ReadableSide; stream = i }) here in cc
  leaves-over s operation here f m l = absurd l

  leave_or : (operation : PortOperation) → IsLeave operation ⊎ (IsLeave operation → ⊥)
  leave_or (ports.Leave r u) = inl tt
  leave_or (ports.Close u) = inl tt
  leave_or operation = inr (λ l. grind (arith, l))

  own-ends : (h : Past) (s : Slots) (operation : PortOperation) → Ended s → IsHere s → Fits (stream_shapes s) (port_shapes s) (OnPort c operation) → Calm s (OnPort c operation) → Ends h s → Ends (then_past h nothing_past) (row (OnPort c operation) s).slots
  own-ends h s operation ended here f m k = by (slice_get s.ports c.0) refl
    where
      z : Slots
      z = (row (OnPort c operation) s).slots

      by : (o : Option cross.Slots) → slice_get s.ports c.0 ≡ o → Ends (then_past h nothing_past) z
      by None is = same-ends h s z (ap (λ (d : Done). posted c d.slots.promises) (no-mine c operation s is)) (row-over (OnPort c operation) s) k
      by (Some x) is = λ g.
          ⊎_elim (λ l. row-over (OnPort c operation) s (leaves-over s operation here f m l)) (λ n. rested n g) (leave_or operation)
        where
          rested : (IsLeave operation → ⊥) → has_end (all_posted c (then_past h nothing_past) z) ≡ true → over z
          rested n g =
              let r = row-mine c operation s x is in
              let clones = clones-here s x ended here (here-port s x here is).1 in
              let none : has_end (given (clones_at x s) operation x) ≡ false = rw clones (no-end operation x n) in
              let all_ : all_posted c (then_past h nothing_past) z ≡ all_posted c h s ++ given (clones_at x s) operation x = rw (append-nil h.heard, r.told) (sym (append_assoc h.heard (posted c s.promises) (given (clones_at x s) operation x))) in
              let more : has_end (all_posted c h s) || has_end (given (clones_at x s) operation x) ≡ true = sym (ends-more (all_posted c h s) (given (clones_at x s) operation x)) ∙ (ap has_end (sym all_) ∙ g) in
              ⊎_elim (λ a. row-over (OnPort c operation) s (k a)) (λ b. let no : false ≡ true = sym none ∙ b in cc) (either-end _ _ more)

  row-ends : (h : Past) (s : Slots) (e : Effect) → Ended s → IsHere s → Fits (stream_shapes s) (port_shapes s) e → Calm s e → Ends h s → Ends (then_past h nothing_past) (row e s).slots
  row-ends h s (OnPort d operation) ended here f m k =
      by-port c (λ q. Fits (stream_shapes s) (port_shapes s) (OnPort q operation) → Calm s (OnPort q operation) → Ends (then_past h nothing_past) (row (OnPort q operation) s).slots) d
      (λ n g l. same-ends h s (row (OnPort d operation) s).slots (row-leaves c (OnPort d operation) s n).0 (row-over (OnPort d operation) s) k) (λ g l. own-ends h s operation ended here g l k) f m
  row-ends h s e ended here f m k = same-ends h s (row e s).slots (row-leaves c e s tt).0 (row-over e s) k

  -- calls

  place-call : (call : Call) (s : Slots) (y : Stream) → slice_get s.streams i.0 ≡ Some y → slice_get (begin call s).done.slots.streams i.0 ≡ Some y
  place-call call s y k = begin-makes (λ z. slice_get z.streams i.0 ≡ Some y) (record {
    promise = λ z h. h;
    locks = λ z ls h. h;
    hosts = λ z hs h. h;
    pipe = λ z source dest prevent signal promise h. h;
    signal = λ z h. h;
    transform = λ z kind w r change h. h;
    tee = λ z source first second cancel h. h;
    port = λ z side stream backpressure h. h;
    bytes = λ z mark auto h. get-stays z.streams _ i.0 y h;
    byob_requests = λ z hs h. h;
    readable = λ z o mark size h. get-stays z.streams _ i.0 y h;
    writable = λ z o mark size h. get-stays z.streams _ i.0 y h;
  }) call s k

  call-over : (call : Call) (s : Slots) → has_readable i s ≡ true → over s → over (begin call s).done.slots
  call-over call s there k =
      let at = readable_there (slice_get s.streams i.0) there in
      let now = place-call call s _ at in
      ap (λ (o : Option Stream). is_readable (as_readable o).state) now ∙ k

  call-ends : (h : Past) (call : Call) (s : Slots) → Whole c h s [] → (IsHere s → Ends h s) → IsHere (begin call s).done.slots → Ends (then_past h (said c s (Called call))) (begin call s).done.slots
  call-ends h call s w k here = by (slice_get s.ports c.0) refl (call-ports call s)
    where
      z : Slots
      z = (begin call s).done.slots

      posts : all_posted c (then_past h (said c s (Called call))) z ≡ all_posted c h s
      posts = rw (append-nil h.heard) (ap (λ (ms : List Message). h.heard ++ ms) (ap (posted_in c) (call-events call s)))

      was : slice_get z.ports c.0 ≡ slice_get s.ports c.0 → (x : cross.Slots) → slice_get s.ports c.0 ≡ Some x → Ends (then_past h (said c s (Called call))) z
      was same x at =
          let y = here-port z x here (same ∙ at) in
          let before : IsHere s = map-there port_shape s.ports c.0 x at ∙ ap (λ (q : PortShape). Some q) (λ n. record { side = y.0 n; stream = y.1 n }) in
          λ g. call-over call s (here-readable s w.0.0 before).0 (k before (ap has_end (sym posts) ∙ g))

      by : (o : Option cross.Slots) → slice_get s.ports c.0 ≡ o → PortsNow s z → Ends (then_past h (said c s (Called call))) z
      by None at p = λ g.
          let held : (h.taken ≡ []) × (all_posted c h s ≡ []) = rw at at w.1 in
          let no : false ≡ true = ap has_end (sym (posts ∙ held.1)) ∙ g in cc
      by (Some x) at (inl e) = was (ap (λ (xs : List cross.Slots). slice_get xs c.0) e) x at
      by (Some x) at (inr (v, (e, new))) =
          was (ap (λ (xs : List cross.Slots). slice_get xs c.0) e ∙ (get-stays s.ports (v ∷ []) c.0 x at ∙ sym at)) x at

  calm-begun : (z : Slots) (es : List Effect) → Each IsBegun es → Each (Calm z) es
  calm-begun z es b = each-map IsBegun (Calm z) (begun-calm z) es b

  parts-goes : Goes then_past untold_past (said c) Parts
  parts-goes = record {
    row = λ h s e es a. record {
      posting = (posting-goes c).row h s e es a.posting;
      calm = λ here. let k = row-here s e here in each-append (Calm (row e s).slots) (row e s).caused es (row-caused s a.posting.0.0 k e (a.calm k).0) (each-map (Calm s) (Calm (row e s).slots) (calm-on s (row e s).slots (row-over e s)) es (a.calm k).1);
      parted = λ here. let k = row-here s e here in row-ends h s e a.posting.0.0 k a.posting.0.1.0 (a.calm k).0 (a.parted k);
    };
    call = λ h s call a. record {
      posting = (posting-goes c).call h s call a.posting;
      calm = λ here. calm-begun (begin call s).done.slots (begin call s).done.caused (call-begun call s);
      parted = λ here. call-ends h call s a.posting a.parted here;
    };
    job = λ h s job e a. record {
      posting = (posting-goes c).job h s job e a.posting;
      calm = λ here. calm-begun (with_promises (after_next_job s.promises) s) (job_effects job) (job-begun job);
      parted = λ here. rw (append-nil h.heard, ap (posted_in c) (next-events s.promises)) (a.parted here);
    };
    idle = λ h s e a. record { posting = (posting-goes c).idle h s e a.posting; calm = λ here. tt; parted = λ here. rw (append-nil h.heard) (a.parted here) };
    answered = λ h s p a. record { posting = (posting-goes c).answered h s p a.posting; calm = λ here. tt; parted = λ here. rw (watch-posted c p s.promises) (a.parted here) };
    older = λ h s a. record { posting = (posting-goes c).older h s a.posting; calm = λ here. tt; parted = λ here. a.parted here };
  }
    where
      row-here : (s : Slots) (e : Effect) → IsHere (row e s).slots → IsHere s
      row-here s e here = ap (λ (ps : List PortShape). slice_get ps c.0) (sym (row-port_shapes e s)) ∙ here

  parts-rests : Rests then_past (said c) Parts
  parts-rests = record {
    heard = λ h s a. record {
      posting = (posting-rests c).heard h s a.posting;
      calm = λ here. tt;
      parted = λ here. rw (append_assoc h.heard (posted_in c (taken_event s.promises.events)) (posted_in c (later_events s.promises.events)), split-events c s.promises.events) (a.parted here);
    };
  }

  pub run-parted : (entries : List Entry) → IsHere (run entries empty) → has_end (posted_in c (run_events entries empty)) ≡ true → over (run entries empty)
  run-parted entries here e =
      let a = walker.run-goes nothing_past then_past past-history untold_past (said c) Parts parts-goes parts-rests entries nothing_past empty
      (record { posting = (fitting-empty, (refl, refl)); calm = λ n. tt; parted = λ n. let no : None ≡ Some (record { side = ReadableSide; stream = i }) = n in cc }) in
      a.parted here (ap has_end (run-heard c entries empty) ∙ e)

pub none_posts_an_error_while_readable : NonePostsAnErrorWhileReadable
none_posts_an_error_while_readable entries c h side state = by (slice_get (run entries empty).ports c.0) refl h side state
  where
    s : Slots
    s = run entries empty

    ms : List Message
    ms = posted_in c (run_events entries empty)

    by : (o : Option cross.Slots) → slice_get s.ports c.0 ≡ o → is_some o ≡ true → (as_port o).side ≡ ReadableSide → (readable_at (as_port o).stream s).state ≡ Readable → has_end ms ≡ false
    by None at there side state = cc
    by (Some x) at there side state = ended (has_end ms) refl
      where
        here : IsHere c x.stream s
        here = map-there port_shape s.ports c.0 x at ∙ ap (λ (q : PortShape). Some q) (λ n. record { side = side n; stream = x.stream })

        ended : (b : Bool) → b ≡ has_end ms → has_end ms ≡ false
        ended false e = sym e
        ended true e =
            let over_ : is_readable (readable_at x.stream s).state ≡ false = run-parted c x.stream entries here (sym e) in
            let no : true ≡ false = ap is_readable (sym state) ∙ over_ in cc
