-- A turn of an operation of a writable stream: of the destination, or of another.
use Rattle.std.proofs.Common.{◌≡◌, inr, ℕ, Bool, true, false, is_some, List, ◌∷◌, ◌++◌, Option, Some, None, Ok, Err, refl, sym, ap, subst, ◌∙◌, arith}
use Rattle.ws_value.specs.declared.ids.PromiseId.{PromiseId}
use Rattle.ws_value.specs.declared.ids.PipeId.{PipeId}
use Rattle.ws_value.specs.declared.ids.StreamId.{StreamId}
use Rattle.ws_value.specs.declared.value.Plain.{Plain}
use Rattle.ws_value.specs.declared.value.Value.{Value}
use Rattle.ws_steps.specs.declared.effects.Effect.{Effect}
use Rattle.ws_steps.specs.declared.effects.Effect.TheVariants.{Writable as OnWritable}
use Rattle.ws_steps.specs.declared.effects.Owner.{Owner}
use Rattle.ws_steps.specs.declared.effects.Owner.TheVariants.{Host, HalfOf, BranchOf, EndOf}
use Rattle.ws_steps.specs.declared.transform.TransformId.{TransformId}
use Rattle.ws_steps.specs.declared.writable.WritableOperation.{WritableOperation}
use Rattle.ws_steps.specs.declared.writable.WritableOperation.TheVariants.{Close, HandOn, StartSettled, WriteSettled, CloseSettled, AbortSettled}
use Rattle.ws_steps.specs.declared.writable.WritableState.{WritableState}
use Rattle.ws_steps.specs.declared.writable.WritableState.TheVariants.{Writable, Erroring, Errored, Closed}
use Rattle.ws_steps.specs.Histories.{is_same}
use Rattle.ws_steps.specs.Operations.{writable_operation}
use Rattle.ws_steps.specs.Slots.{Slots, has_writable, owner_at, byte_at, source_at, writable_at, pipe_at, is_writable_stream, as_byte, as_writable, on_writable}
use Rattle.ws_steps.specs.Turns.{row}
use Rattle.ws_steps.specs.Writable as writable
use Rattle.ws_steps.specs.WritableHistory.{Writes}
use Rattle.ws_flow.specs.Told.{Told, then_told, IsShortOf}
use Rattle.ws_flow.proofs.Told.{short_refl}
use Rattle.ws_laws.proofs.Lists.{Each, each-append}
use Rattle.ws_laws.proofs.Apart.{row-pipes}
use Rattle.ws_laws.proofs.Causes.{row-causes}
use Rattle.ws_laws.proofs.Tables.{is_same-refl, same_id, writable_acts, on_writable-same, on_writable-other, on_writable-source, on_writable-look}
use Rattle.ws_pipe_laws.proofs.pipes.AtSource.{off-only, row-off}
use Rattle.ws_pipe_laws.proofs.pipes.PassingRuns.{row-few}
use Rattle.ws_writable_laws.proofs.Agenda.{found}
use Rattle.ws_writable_laws.proofs.Expects.{write_settled-expects, close_settled-expects, abort_settled-expects}
use Rattle.ws_writable_laws.proofs.Operations.{same_once}
use Rattle.ws_writable_laws.proofs.Shape.{leads}
use Rattle.ws_transform_laws.proofs.Halving.{Going}
use Rattle.ws_transform_laws.proofs.Lawful.{half-owner, known-half, settled-led}
use Rattle.ws_link_laws.specs.Link.{silence, in_sink, in_source, in_pipe, ear_at, giver_at, unheard}
use Rattle.ws_link_laws.specs.Sound.{SinkFits, IsHosts}
use Rattle.ws_link_laws.proofs.Ahead.{Ahead, ahead-kept, ahead-silent, row-ahead, other-silent}
use Rattle.ws_link_laws.proofs.Hosts.{row-ear, row-giver, row-sources, sink-owner, sink-there}
use Rattle.ws_link_laws.proofs.Telling.{is_of, if_same, tells, IsSilent, silent-all, hands, written, writes, chunks, coming, behind_on}
use Rattle.ws_link_laws.proofs.Unheard.{row-unheard}
use Rattle.ws_link_laws.proofs.Sinks.{InFlightOr, Needs, SinkKept, sink_keeps}
use Rattle.ws_link_laws.proofs.Pipes.{rank}
use Rattle.ws_link_laws.proofs.Moves.{line, sink-passes}
use Rattle.ws_link_laws.proofs.SourceTurns.{Turned}
use Rattle.ws_link_laws.proofs.Standing.{IsInner, IsNotLast, at_end-append, State, Sound, split}
use Rattle.ws_transform_laws.proofs.Sunk.{IsNoBranch}
use Rattle.ws_transform_laws.proofs.PortHalving.{PortGoing}
use Rattle.ws_transform_laws.proofs.PortLawful as port
use Rattle.ws_transform_laws.proofs.PortLawful.{known-end, end-owner}
use Rattle.ws_value.specs.declared.ids.PortId.{PortId}

-- what an operation of the destination may rely on

pub flies : (w : WritableState) (x : writable.Slots) → w ≡ x.state → (writable.has_ended w ≡ false → leads x.queue ≡ true) → InFlightOr w x
flies Writable x e f = f refl
flies Erroring x e f = f refl
flies Errored x e f = tt
flies Closed x e f = tt

pub none_is : (o : Option PromiseId) → is_some o ≡ false → o ≡ None
none_is None e = refl
none_is (Some p) e = cc

no_branch : (s : Slots) (o : Owner) → IsHosts s o → IsNoBranch o
no_branch s Host h = tt
no_branch s (HalfOf t) h = tt
no_branch s (BranchOf t half) h = absurd h
no_branch s (EndOf c) h = tt

-- the chunk of a write that is fulfilled was handed on
pub led-by : (j : StreamId) (h : Writes) (s : Slots) (es : List Effect) (v : Plain) → has_writable j s ≡ true → ((t : TransformId) → Going j t h s (OnWritable j (WriteSettled (Ok v)) ∷ es)) → ((c : PortId) → PortGoing j c h s (OnWritable j (WriteSettled (Ok v)) ∷ es)) → (o : Owner) → IsNoBranch o → owner_at j s ≡ o
    → writable.has_ended (writable_at j s).state ≡ false → leads (writable_at j s).queue ≡ true
led-by j h s es v there g p Host none own e =
    let f = found j (WriteSettled (Ok v)) h es s (λ u. u) (g (record { 0 = 0 })).kept in
    let one = same_once j in
    let w = f.owed.writes in
    let hosted : (writable_at j s).owner ≡ Host = sym (sink-owner j s there) ∙ own in
    let flying = f.shape.flying (rw hosted refl) in
    grind (arith, one, w, flying, e)
led-by j h s es v there g p (HalfOf t) none own e = settled-led j t h s es v own (g t) (known-half j t h s _ (half-owner j t s there own) (g t).kept) e
led-by j h s es v there g p (BranchOf t half) none own e = absurd none
led-by j h s es v there g p (EndOf c) none own e = port.settled-led j c h s es v own (p c) (known-end j c h s _ (end-owner j c s there own) (g (record { 0 = 0 })).kept) e

needs : (i j : StreamId) (operation : WritableOperation) (s : Slots) (es : List Effect) (p : PipeId) (n : ℕ) → IsInner i j p n (OnWritable j operation) → Ahead i j s (OnWritable j operation ∷ es) → Needs (ear_at j s) j operation (writable_at j s)
needs i j (WriteSettled (Ok v)) s es p n a k = flies (writable_at j s).state (writable_at j s) refl (led-by j k.history s es v (sink-there i j s k.hosts) k.going k.porting (owner_at j s) (no_branch s (owner_at j s) k.hosts.sink_kind) refl)
needs i j (WriteSettled (Err r)) s es p n a k = none_is (writable_at j s).close_in_flight (write_settled-expects j k.history es s (Err r) (ahead-kept i j s _ k)).1
needs i j (CloseSettled o) s es p n a k = close_settled-expects j k.history es s o (ahead-kept i j s _ k)
needs i j (StartSettled o) s es p n a k =
    let f = found j (StartSettled o) k.history es s (λ u. u) (ahead-kept i j s _ k) in
    let one = same_once j in
    let w = f.owed.starts in
    grind (arith, one, w)
needs i j (AbortSettled q o) s es p n a k = abort_settled-expects j k.history es s q o (ahead-kept i j s _ k)
needs i j (Close q) s es p n a k = let e = is_same-refl j in absurd (cc)
needs i j (HandOn taker) s es p n a k = k.placed.0.0 (is_same-refl j)
needs i j operation s es p n a k = grind arith

pub writable-there : (operation : writable.Acts → writable.Acts) (k : StreamId) (s : Slots) (j : StreamId) → has_writable j s ≡ true → has_writable j (on_writable operation k s).slots ≡ true
writable-there operation k s j h = by (is_same j k) refl
  where
    by : (same : Bool) → same ≡ is_same j k → has_writable j (on_writable operation k s).slots ≡ true
    by false n = ap is_writable_stream (on_writable-other operation k s j (sym n)) ∙ h
    by true e =
        let is : j ≡ k = same_id j k (sym e) in
        let there : has_writable k s ≡ true = rw is at h in
        rw is (ap is_writable_stream (on_writable-same operation k s there))

module _ (i j : StreamId) (p : PipeId) (s : Slots) (k : StreamId) (operation : WritableOperation) (es : List Effect) where
  abbrev e : Effect
  e = OnWritable k operation

  abbrev z : Slots
  z = (row e s).slots

  abbrev cs : List Effect
  cs = (row e s).caused

  -- what it causes is no write, no chunk for the pipe, and nothing that comes

  quiet-writes : tells (writes j) cs ≡ silence
  quiet-writes = silent-all (writes j) cs (row-causes (IsSilent (writes j)) e s (record { write = refl; close = refl; abort = λ r q. refl; hand_on = λ v. refl; take = λ v t d. refl; post = λ v t d. refl }))

  quiet-chunks : tells (chunks p) cs ≡ silence
  quiet-chunks = silent-all (chunks p) cs (row-causes (IsSilent (chunks p)) e s (record { write = refl; close = refl; abort = λ r q. refl; hand_on = λ v. refl; take = λ v t d. refl; post = λ v t d. refl }))

  quiet-coming : tells (coming (giver_at i s) i) cs ≡ silence
  quiet-coming = silent-all (coming (giver_at i s) i) cs (row-causes (IsSilent (coming (giver_at i s) i)) e s (record { write = refl; close = refl; abort = λ r q. refl; hand_on = λ v. refl; take = λ v t d. if_same (is_of (giver_at i s) t); post = λ v c d. refl }))

  inner-caused : (n : ℕ) → Each (IsInner i j p n) cs
  inner-caused n = row-causes (IsInner i j p n) e s (record { write = tt; close = tt; abort = λ r q. tt; hand_on = λ v. tt; take = λ v t d. tt; post = λ v t d. tt })

  last-caused : Each (IsNotLast p) cs
  last-caused = row-causes (IsNotLast p) e s (record { write = refl; close = refl; abort = λ r q. refl; hand_on = λ v. refl; take = λ v t d. refl; post = λ v t d. refl })

  pipes : z.pipes ≡ s.pipes
  pipes = row-pipes e s tt

  source-same : source_at i z ≡ source_at i s
  unfolding row
  source-same = on_writable-source (writable_operation k operation) k s i

  bytes-same : byte_at i z ≡ byte_at i s
  unfolding row
  bytes-same = on_writable-look as_byte (λ b c. refl) (writable_operation k operation) k s i (is_same i k) refl

  sound-by : State i j p z → Sound i j p s (e ∷ es) → Sound i j p z (cs ++ es)
  sound-by st h = record {
    state = st;
    ahead = row-ahead i j s e es h.ahead;
    few = row-few p s e es h.few;
    only = off-only p i s e es (row-off p i s e tt) h.only;
    inner = rw pipes (each-append (IsInner i j p (rank (pipe_at p s).phase)) cs es (inner-caused (rank (pipe_at p s).phase)) h.inner.1);
    ends = at_end-append j p cs es last-caused h.ends.1;
  }

  -- the state, where the destination is left so
  state-by : (w : writable.Slots) → writable_at j z ≡ w → State i j p s → SinkFits w → State i j p z
  unfolding row
  state-by w same st fits = record {
    source = row-sources i e s ∙ st.source;
    bare = rw bytes-same st.bare;
    sink = writable-there (writable_operation k operation) k s j st.sink;
    there = rw pipes st.there;
    from = rw pipes st.from;
    into = rw pipes st.into;
    apart = rw pipes st.apart;
    source_fits = rw source-same st.source_fits;
    sink_fits = rw same fits;
    closes = rw (pipes, source-same) st.closes;
  }

  -- what is told, where nothing but the destination and the calls of its algorithms change

  abbrev rest : Told Value
  rest = in_pipe (pipe_at p s) (then_told (tells (chunks p) es) (then_told (in_source (source_at i s)) (tells (coming (giver_at i s) i) es)))

  told-by : (w : writable.Slots) → writable_at j z ≡ w
      → IsShortOf (line (unheard (ear_at j s) s.promises.events) (then_told (tells (hands (ear_at j s)) cs) (tells (hands (ear_at j s)) es)) (in_sink w) (tells (writes j) es) rest)
      (line (unheard (ear_at j s) s.promises.events) (tells (hands (ear_at j s)) es) (in_sink (writable_at j s)) (then_told (writes j e) (tells (writes j) es)) rest)
      → IsShortOf (behind_on i j p z (cs ++ es)) (behind_on i j p s (e ∷ es))
  told-by w same h = rw (split i j p z cs es, row-ear j e s, row-giver i e s, row-unheard (ear_at j s) e s tt, quiet-writes, quiet-chunks, quiet-coming, source-same, pipes, same) h

-- an operation of another stream

other-turned : (i j : StreamId) (p : PipeId) (s : Slots) (k : StreamId) (operation : WritableOperation) (es : List Effect) → is_same j k ≡ false → Sound i j p s (OnWritable k operation ∷ es) → Turned i j p s (OnWritable k operation) es
unfolding row
other-turned i j p s k operation es n h =
    let same : writable_at j (row (OnWritable k operation) s).slots ≡ writable_at j s = ap as_writable (on_writable-other (writable_operation k operation) k s j n) in
    record {
      sound = sound-by i j p s k operation es (state-by i j p s k operation es (writable_at j s) same h.state h.state.sink_fits) h;
      short = told-by i j p s k operation es (writable_at j s) same (rw (other-silent j k s n operation h.ahead.placed.0, n) (short_refl _));
    }

-- an operation of the destination

own-turned : (i j : StreamId) (p : PipeId) (s : Slots) (operation : WritableOperation) (es : List Effect) → Sound i j p s (OnWritable j operation ∷ es) → Turned i j p s (OnWritable j operation) es
unfolding row
own-turned i j p s operation es h =
    let e : Effect = OnWritable j operation in
    let b : writable.Acts = writable_operation j operation (writable_acts j s) in
    let n : ℕ = rank (pipe_at p s).phase in
    let k : SinkKept (ear_at j s) operation (writable_at j s) b = sink_keeps (ear_at j s) j operation (writable_at j s) s.promises h.state.sink_fits (needs i j operation s es p n h.inner.0 h.ahead) in
    let same : writable_at j (row e s).slots ≡ b.slots = ap as_writable (on_writable-same (writable_operation j operation) j s h.state.sink) in
    let caused : (row e s).caused ≡ b.out.effects = rw h.state.sink refl in
    let sound = sound-by i j p s j operation es (state-by i j p s j operation es b.slots same h.state k.fits) h in
    record {
      sound = sound;
      short = told-by i j p s j operation es b.slots same
          (rw (is_same-refl j)
          (sink-passes (unheard (ear_at j s) s.promises.events) (tells (hands (ear_at j s)) es) (in_sink (writable_at j s)) (tells (writes j) es) (rest i j p s j operation es) (tells (hands (ear_at j s)) (row e s).caused) (in_sink b.slots) (written operation) (rw caused k.short) (inr (ahead-silent i j s e es h.ahead))));
    }

pub writable-turned : (i j : StreamId) (p : PipeId) (s : Slots) (k : StreamId) (operation : WritableOperation) (es : List Effect) → Sound i j p s (OnWritable k operation ∷ es) → Turned i j p s (OnWritable k operation) es
writable-turned i j p s k operation es h = by (is_same j k) refl
  where
    by : (same : Bool) → same ≡ is_same j k → Turned i j p s (OnWritable k operation) es
    by false n = other-turned i j p s k operation es (sym n) h
    by true n = subst (λ (x : StreamId). Sound i j p s (OnWritable x operation ∷ es) → Turned i j p s (OnWritable x operation) es) (same_id j k (sym n)) (own-turned i j p s operation es) h
