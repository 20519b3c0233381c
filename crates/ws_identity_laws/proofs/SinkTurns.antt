-- A turn of an operation of a writable stream: of the destination, or of another.
use Rattle.std.proofs.Common.{◌≡◌, inr, ℕ, Bool, true, false, nat_eq, List, [], ◌∷◌, ◌++◌, Some, Ok, Err, refl, sym, ap, subst, ◌∙◌, arith}
use Rattle.ws_value.specs.declared.ids.PipeId.{PipeId}
use Rattle.ws_value.specs.declared.ids.StreamId.{StreamId}
use Rattle.ws_value.specs.declared.value.Value.{Value}
use Rattle.ws_steps.specs.declared.effects.Effect.{Effect}
use Rattle.ws_steps.specs.declared.effects.Effect.TheVariants.{Writable as OnWritable}
use Rattle.ws_steps.specs.declared.queue.Queued.{Queued}
use Rattle.ws_steps.specs.declared.transform.Taker.{Taker}
use Rattle.ws_steps.specs.declared.transform.Taker.TheVariants.{ToHost, ToTransform, ToPort}
use Rattle.ws_steps.specs.declared.writable.WritableOperation.{WritableOperation}
use Rattle.ws_steps.specs.declared.writable.WritableOperation.TheVariants.{Close, HandOn, StartSettled, WriteSettled, CloseSettled, AbortSettled}
use Rattle.ws_steps.specs.declared.writable.WriteRecord.{WriteRecord}
use Rattle.ws_steps.specs.declared.writable.WriteRecord.TheVariants.{Chunk, InFlight, CloseMark}
use Rattle.ws_steps.specs.Histories.{is_same}
use Rattle.ws_steps.specs.Operations.{writable_operation}
use Rattle.ws_steps.specs.Queues.{first_value}
use Rattle.ws_steps.specs.Slots.{Slots, owner_at, byte_at, source_at, writable_at, pipe_at, as_byte, as_writable}
use Rattle.ws_steps.specs.Turns.{row}
use Rattle.ws_steps.specs.Writable as writable
use Rattle.ws_steps.specs.Writable.{hand_on_first, hand_on}
use Rattle.ws_steps.specs.WritableHistory.{writes_then, effect_writes, first_chunk, chunk_of, operation_writes}
use Rattle.ws_flow.specs.Told.{Open, Told, told, then_told, IsShortOf}
use Rattle.ws_flow.proofs.Told.{then_empty, short_refl}
use Rattle.ws_laws.proofs.Lists.{Each, each-append}
use Rattle.ws_laws.proofs.Apart.{row-pipes}
use Rattle.ws_laws.proofs.Causes.{row-causes}
use Rattle.ws_laws.proofs.Tables.{is_same-refl, same_id, writable_acts, on_writable-same, on_writable-other, on_writable-source, on_writable-look}
use Rattle.ws_laws.proofs.WritableDoes.{IsHandOn}
use Rattle.ws_pipe_laws.proofs.pipes.AtSource.{off-only, row-off}
use Rattle.ws_pipe_laws.proofs.pipes.PassingRuns.{row-few}
use Rattle.ws_writable_laws.proofs.Agenda.{found, Kept}
use Rattle.ws_writable_laws.proofs.Expects.{write_settled-expects, close_settled-expects, abort_settled-expects}
use Rattle.ws_writable_laws.proofs.Operations.{same_once}
use Rattle.ws_transform_laws.proofs.Halving.{going}
use Rattle.ws_transform_laws.proofs.PortHalving.{port-going}
use Rattle.ws_link_laws.specs.Link.{Ear, OfSink, OfTransform, OfPort, is_port, silence, in_sink, in_source, in_pipe}
use Rattle.ws_link_laws.specs.Sound.{SinkFits}
use Rattle.ws_link_laws.proofs.Late.{others-late, late-silent}
use Rattle.ws_link_laws.proofs.Moves.{sink-passes}
use Rattle.ws_link_laws.proofs.Pipes.{rank}
use Rattle.ws_link_laws.proofs.Sinks.{Needs, SinkKept, sink_keeps}
use Rattle.ws_link_laws.proofs.SinkTurns.{flies, none_is, led-by, writable-there}
use Rattle.ws_link_laws.proofs.Standing.{IsInner, IsNotLast, at_end-append, State}
use Rattle.ws_link_laws.proofs.Telling.{tells, IsSilent, silent-all, hands, written, writes, chunks}
use Rattle.ws_identity_laws.specs.Passing.{acts_of, effect_acts}
use Rattle.ws_identity_laws.proofs.Standing.{Stands, Turned, way, lies_on, split}
use Rattle.ws_link_laws.proofs.Hosts.{row-sources, untied-same}
use Rattle.ws_laws.proofs.Shapes.{row-owner, row-tee_shapes}

-- by whom a chunk is taken that is handed on
abbrev ear_of : StreamId → WritableOperation → Ear
ear_of j (HandOn (ToTransform t d)) = OfTransform t j
ear_of j (HandOn (ToPort c d)) = OfPort c
ear_of j _ = OfSink j

module _ (i j : StreamId) (p : PipeId) (s : Slots) where
  pub stands-kept : (es : List Effect) (h : Stands i j p s es) → Kept j h.history s es
  stands-kept es h = (h.going (record { 0 = 0 })).kept

  same_number : (n : ℕ) → nat_eq n n ≡ true
  same_number n = grind arith

  -- what an operation of the destination may rely on
  needs : (operation : WritableOperation) (es : List Effect) (n : ℕ) → IsInner i j p n (OnWritable j operation) → Stands i j p s (OnWritable j operation ∷ es) → Needs (ear_of j operation) j operation (writable_at j s)
  needs (WriteSettled (Ok v)) es n a k = flies (writable_at j s).state (writable_at j s) refl (led-by j k.history s es v k.state.sink k.going k.porting (owner_at j s) k.sunk refl)
  needs (WriteSettled (Err r)) es n a k = none_is (writable_at j s).close_in_flight (write_settled-expects j k.history es s (Err r) (stands-kept _ k)).1
  needs (CloseSettled o) es n a k = close_settled-expects j k.history es s o (stands-kept _ k)
  needs (StartSettled o) es n a k =
      let f = found j (StartSettled o) k.history es s (λ u. u) (stands-kept _ k) in
      let one = same_once j in
      let w = f.owed.starts in
      grind (arith, one, w)
  needs (AbortSettled q o) es n a k = abort_settled-expects j k.history es s q o (stands-kept _ k)
  needs (Close q) es n a k = let e = is_same-refl j in absurd (cc)
  needs (HandOn ToHost) es n a k = is_same-refl j
  needs (HandOn (ToTransform t d)) es n a k = same_number t.0
  needs (HandOn (ToPort c d)) es n a k = same_number c.0
  needs operation es n a k = grind arith

-- what is handed on is what the destination acts on

handed : (j : StreamId) (taker : Taker) (a : writable.Acts) (queue : List (Queued WriteRecord)) → a.out.effects ≡ [] → tells (hands (ear_of j (HandOn taker))) (hand_on_first j taker a (first_value queue)).out.effects ≡ told (first_chunk queue) Open
handed j taker a [] e = rw e refl
handed j ToHost a (q ∷ qs) e = by q.value
  where
    by : (r : WriteRecord) → tells (hands (OfSink j)) (hand_on_first j ToHost a (Some r)).out.effects ≡ told (chunk_of r) Open
    by (Chunk v) = let n = is_same-refl j in rw (e, n) refl
    by InFlight = rw e refl
    by CloseMark = rw e refl
handed j (ToPort c d) a (q ∷ qs) e = by q.value
  where
    one : is_port (OfPort c) c ≡ true
    one = grind arith

    by : (r : WriteRecord) → tells (hands (OfPort c)) (hand_on_first j (ToPort c d) a (Some r)).out.effects ≡ told (chunk_of r) Open
    by (Chunk v) = rw (e, one) refl
    by InFlight = rw e refl
    by CloseMark = rw e refl
handed j (ToTransform t d) a (q ∷ qs) e = by q.value
  where
    one : nat_eq t.0 t.0 ≡ true
    one = grind arith

    by : (r : WriteRecord) → tells (hands (OfTransform t j)) (hand_on_first j (ToTransform t d) a (Some r)).out.effects ≡ told (chunk_of r) Open
    by (Chunk v) = rw (e, one) refl
    by InFlight = rw e refl
    by CloseMark = rw e refl

quiet-hands : (j : StreamId) (operation : WritableOperation) (a : writable.Acts) → (IsHandOn operation → ⊥) → a.out.effects ≡ [] → tells (hands (ear_of j operation)) (writable_operation j operation a).out.effects ≡ silence
quiet-hands j operation a n e = late-silent (ear_of j operation) _ (others-late (ear_of j operation) j operation a n (rw e tt))

hands-acts : (j : StreamId) (operation : WritableOperation) (a : writable.Acts) → a.out.effects ≡ [] → tells (hands (ear_of j operation)) (writable_operation j operation a).out.effects ≡ acts_of (operation_writes operation a.slots)
unfolding hand_on
hands-acts j (HandOn taker) a e = handed j taker a a.slots.queue e
hands-acts j operation a e = quiet-hands j operation a (λ u. u) e

module _ (i j : StreamId) (p : PipeId) (s : Slots) (k : StreamId) (operation : WritableOperation) (es : List Effect) where
  abbrev e : Effect
  e = OnWritable k operation

  abbrev z : Slots
  z = (row e s).slots

  abbrev cs : List Effect
  cs = (row e s).caused

  quiet-writes : tells (writes j) cs ≡ silence
  quiet-writes = silent-all (writes j) cs (row-causes (IsSilent (writes j)) e s (record { write = refl; close = refl; abort = λ r q. refl; hand_on = λ v. refl; take = λ v t d. refl; post = λ v t d. refl }))

  quiet-chunks : tells (chunks p) cs ≡ silence
  quiet-chunks = silent-all (chunks p) cs (row-causes (IsSilent (chunks p)) e s (record { write = refl; close = refl; abort = λ r q. refl; hand_on = λ v. refl; take = λ v t d. refl; post = λ v t d. refl }))

  inner-caused : (n : ℕ) → Each (IsInner i j p n) cs
  inner-caused n = row-causes (IsInner i j p n) e s (record { write = tt; close = tt; abort = λ r q. tt; hand_on = λ v. tt; take = λ v t d. tt; post = λ v t d. tt })

  last-caused : Each (IsNotLast p) cs
  last-caused = row-causes (IsNotLast p) e s (record { write = refl; close = refl; abort = λ r q. refl; hand_on = λ v. refl; take = λ v t d. refl; post = λ v t d. refl })

  pipes : z.pipes ≡ s.pipes
  pipes = row-pipes e s tt

  source-same : source_at i z ≡ source_at i s
  unfolding row
  source-same = on_writable-source (writable_operation k operation) k s i

  bytes-same : byte_at i z ≡ byte_at i s
  unfolding row
  bytes-same = on_writable-look as_byte (λ b c. refl) (writable_operation k operation) k s i (is_same i k) refl

  stands-by : State i j p z → Stands i j p s (e ∷ es) → Stands i j p z (cs ++ es)
  stands-by st h = record {
    state = st;
    history = writes_then h.history (effect_writes j e s);
    going = λ t. (going j t).row h.history s e es (h.going t);
    porting = λ c. (port-going j c).row h.history s e es (h.porting c);
    few = row-few p s e es h.few;
    only = off-only p i s e es (row-off p i s e tt) h.only;
    inner = rw pipes (each-append (IsInner i j p (rank (pipe_at p s).phase)) cs es (inner-caused (rank (pipe_at p s).phase)) h.inner.1);
    ends = at_end-append j p cs es last-caused h.ends.1;
    untied = untied-same i s (row e s).slots (row-tee_shapes e s) ∙ h.untied;
    sunk = rw (row-owner j e s) h.sunk;
  }

  -- the state, where the destination is left so
  state-by : (w : writable.Slots) → writable_at j z ≡ w → State i j p s → SinkFits w → State i j p z
  unfolding row
  state-by w same st fits = record {
    source = row-sources i e s ∙ st.source;
    bare = rw bytes-same st.bare;
    sink = writable-there (writable_operation k operation) k s j st.sink;
    there = rw pipes st.there;
    from = rw pipes st.from;
    into = rw pipes st.into;
    apart = rw pipes st.apart;
    source_fits = rw source-same st.source_fits;
    sink_fits = rw same fits;
    closes = rw (pipes, source-same) st.closes;
  }

  abbrev rest : Told Value
  rest = in_pipe (pipe_at p s) (then_told (tells (chunks p) es) (in_source (source_at i s)))

  -- what lies, where nothing but the destination changes
  told-by : (w : writable.Slots) → writable_at j z ≡ w → IsShortOf (then_told (effect_acts j e s) (way (in_sink w) (tells (writes j) es) rest)) (way (in_sink (writable_at j s)) (then_told (writes j e) (tells (writes j) es)) rest)
      → IsShortOf (then_told (effect_acts j e s) (lies_on i j p z (cs ++ es))) (then_told (lies_on i j p s (e ∷ es)) silence)
  told-by w same h = rw (split i j p z cs es, quiet-writes, quiet-chunks, source-same, pipes, same, then_empty (lies_on i j p s (e ∷ es))) h

-- an operation of another stream

other-turned : (i j : StreamId) (p : PipeId) (s : Slots) (k : StreamId) (operation : WritableOperation) (es : List Effect) → is_same j k ≡ false → Stands i j p s (OnWritable k operation ∷ es) → Turned i j p s (OnWritable k operation) es
unfolding row
other-turned i j p s k operation es n h =
    let same : writable_at j (row (OnWritable k operation) s).slots ≡ writable_at j s = ap as_writable (on_writable-other (writable_operation k operation) k s j n) in
    record {
      stands = stands-by i j p s k operation es (state-by i j p s k operation es (writable_at j s) same h.state h.state.sink_fits) h;
      short = told-by i j p s k operation es (writable_at j s) same (rw n (short_refl _));
    }

-- an operation of the destination

own-turned : (i j : StreamId) (p : PipeId) (s : Slots) (operation : WritableOperation) (es : List Effect) → Stands i j p s (OnWritable j operation ∷ es) → Turned i j p s (OnWritable j operation) es
unfolding row
own-turned i j p s operation es h =
    let e : Effect = OnWritable j operation in
    let b : writable.Acts = writable_operation j operation (writable_acts j s) in
    let n : ℕ = rank (pipe_at p s).phase in
    let ear : Ear = ear_of j operation in
    let k : SinkKept ear operation (writable_at j s) b = sink_keeps ear j operation (writable_at j s) s.promises h.state.sink_fits (needs i j p s operation es n h.inner.0 h) in
    let same : writable_at j (row e s).slots ≡ b.slots = ap as_writable (on_writable-same (writable_operation j operation) j s h.state.sink) in
    let g : Told Value = acts_of (operation_writes operation (writable_at j s)) in
    let acts : tells (hands ear) b.out.effects ≡ g = hands-acts j operation (writable_acts j s) refl in
    let one : IsShortOf (then_told g (in_sink b.slots)) (then_told (in_sink (writable_at j s)) (written operation)) = rw acts at k.short in
    let W : Told Value = tells (writes j) es in
    let R : Told Value = rest i j p s j operation es in
    let two = sink-passes silence silence (in_sink (writable_at j s)) W R g (in_sink b.slots) (written operation) one (inr refl) in
    let three : IsShortOf (then_told g (way (in_sink b.slots) W R)) (way (in_sink (writable_at j s)) (then_told (written operation) W) R) = rw (then_empty g) at two in
    record {
      stands = stands-by i j p s j operation es (state-by i j p s j operation es b.slots same h.state k.fits) h;
      short = told-by i j p s j operation es b.slots same (rw (is_same-refl j) three);
    }

pub writable-turned : (i j : StreamId) (p : PipeId) (s : Slots) (k : StreamId) (operation : WritableOperation) (es : List Effect) → Stands i j p s (OnWritable k operation ∷ es) → Turned i j p s (OnWritable k operation) es
writable-turned i j p s k operation es h = by (is_same j k) refl
  where
    by : (same : Bool) → same ≡ is_same j k → Turned i j p s (OnWritable k operation) es
    by false n = other-turned i j p s k operation es (sym n) h
    by true n = subst (λ (x : StreamId). Stands i j p s (OnWritable x operation ∷ es) → Turned i j p s (OnWritable x operation) es) (same_id j k (sym n)) (own-turned i j p s operation es) h
