-- What stands on the agenda of a link, whatever its pipe does.
use Rattle.std.proofs.Common.{◌≡◌, ℕ, ◌+◌, ◌≤◌, Bool, true, false, is_some, List, [], ◌∷◌, ◌++◌, Option, Some, None, slice_get, refl, sym, ap, subst, ◌∙◌, arith}
use Rattle.ws_value.specs.declared.ids.PipeId.{PipeId}
use Rattle.ws_value.specs.declared.ids.StreamId.{StreamId}
use Rattle.ws_value.specs.declared.value.Value.{Value}
use Rattle.ws_steps.specs.declared.calls.HostCall.TheVariants.{Write as HostWrite}
use Rattle.ws_steps.specs.declared.effects.Effect.{Effect}
use Rattle.ws_steps.specs.declared.effects.Effect.TheVariants.{Readable as OnReadable, Writable as OnWritable, Pipe as OnPipe, Signal as OnSignal, Transform as OnTransform, Tee as OnTee, Port as OnPort, StartAlgorithm, PullAlgorithm, CancelAlgorithm, WriteAlgorithm, CloseAlgorithm, AbortAlgorithm, ChunkSteps, CloseSteps, ErrorSteps}
use Rattle.ws_steps.specs.declared.effects.Owner.{Owner}
use Rattle.ws_steps.specs.declared.effects.Owner.TheVariants.{Host, HalfOf, BranchOf, EndOf}
use Rattle.ws_steps.specs.declared.effects.Use.{Use}
use Rattle.ws_steps.specs.declared.readable.ReadRequest.TheVariants.{Promise, Pipe as PipeRequest, Tee as TeeRequest}
use Rattle.ws_steps.specs.declared.transform.Taker.{Taker}
use Rattle.ws_steps.specs.declared.transform.Taker.TheVariants.{ToHost, ToTransform, ToPort}
use Rattle.ws_steps.specs.declared.transform.TransformId.{TransformId}
use Rattle.ws_steps.specs.declared.transform.TransformOperation.{TransformOperation}
use Rattle.ws_steps.specs.declared.writable.WritableOperation.{WritableOperation}
use Rattle.ws_steps.specs.declared.writable.WritableOperation.TheVariants.{HandOn}
use Rattle.ws_steps.specs.declared.writable.WriteRecord.{WriteRecord}
use Rattle.ws_steps.specs.declared.writable.WriteRecord.TheVariants.{Chunk, InFlight, CloseMark}
use Rattle.ws_steps.specs.Histories.{is_same}
use Rattle.ws_steps.specs.Operations.{writable_operation, transform_operation}
use Rattle.ws_steps.specs.Queues.{first_value}
use Rattle.ws_steps.specs.Slots.{Slots, Done, nothing, found, halves_at, has_writable, owner_at, writable_at, on_transform_at, put_writable}
use Rattle.ws_steps.specs.Transform as transform
use Rattle.ws_steps.specs.Transform.{Acts}
use Rattle.ws_steps.specs.Turns.{row, write_algorithm, close_algorithm}
use Rattle.ws_steps.specs.Writable as writable
use Rattle.ws_steps.specs.Writable.{hand_on_first, hand_on}
use Rattle.ws_steps.specs.WritableHistory.{Writes, writes_then, effect_writes}
use Rattle.ws_laws.proofs.Lists.{Each, each-append, each-map}
use Rattle.ws_laws.proofs.PipeDoes.{PipeCauses}
use Rattle.ws_laws.proofs.Causes.{row-causes}
use Rattle.ws_laws.proofs.Tables.{either, eq_numbers, is_same-refl, same_id, writable_acts}
use Rattle.ws_laws.proofs.TransformDoes.{TransformCauses, transform-causes}
use Rattle.ws_writable_laws.proofs.Agenda.{Kept}
use Rattle.ws_writable_laws.proofs.Operations.{handed, same_once}
use Rattle.ws_writable_laws.proofs.Shape.{all, leads_to, is_close, one_if, core_of, hands as drawn}
use Rattle.ws_transform_laws.proofs.Halving.{Going, going, half-there}
use Rattle.ws_transform_laws.proofs.Lawful.{row-has}
use Rattle.ws_link_laws.specs.Link.{Ear, OfTransform, OfPort, is_port, silence, ear_by, ear_at, heard_call}
use Rattle.ws_link_laws.proofs.Hosts.{Hosts, hosts-row, row-ear, sink-there}
use Rattle.ws_link_laws.proofs.AtEnds.{AtSink, OwnSink, OtherSink, at-sink, AtPort, OwnPort, OtherPort, at-port}
use Rattle.ws_link_laws.proofs.Telling.{is_in, tells, taken, posted, hands}
use Rattle.ws_steps.specs.declared.effects.Effect.TheVariants.{Byte, CloseStepsWith}
use Rattle.ws_value.specs.declared.ids.TeeId.{TeeId}
use Rattle.ws_value.specs.declared.ids.PortId.{PortId}
use Rattle.ws_laws.proofs.TeeDoes.{TeeCauses}
use Rattle.ws_laws.proofs.PortDoes.{PortCauses}
use Rattle.ws_steps.specs.Cross as cross
use Rattle.ws_transform_laws.proofs.Branches.{port-caused}
use Rattle.ws_transform_laws.proofs.PortHalving.{PortGoing, port-going, end-there}
use Rattle.ws_link_laws.proofs.PortShut.{Shuts, shuts-stays}
use Rattle.ws_transform_laws.proofs.PortLive.{PortLiving, port-living}
use Rattle.ws_link_laws.proofs.Late.{Fits, Spares, Placed, Front, First, late-silent, front-next, first-next, late-first, signal-each, row-front, NoFlush, flush-causes, others-late}

-- an operation of another stream tells nothing of the destination

pub taken-silent : (w : Ear) (u : TransformId) (v : Value) → is_in w u ≡ false → taken w u v ≡ silence
taken-silent w u v n = grind (arith, n)

pub posted-silent : (w : Ear) (c : PortId) (v : Value) → is_port w c ≡ false → posted w c v ≡ silence
posted-silent w c v n = rw n refl

sink-silent : (j k : StreamId) (s : Slots) (v : Value) (o : Owner) → is_same j k ≡ false → heard_call (ear_by j s o) (HostWrite k v) ≡ silence
sink-silent j k s v Host n = rw n refl
sink-silent j k s v (HalfOf t) n = refl
sink-silent j k s v (BranchOf t half) n = rw n refl
sink-silent j k s v (EndOf c) n = refl

module _ (j k : StreamId) (s : Slots) (n : is_same j k ≡ false) where
  handed-silent : (taker : Taker) (a : writable.Acts) (first : Option WriteRecord) → a.out.effects ≡ [] → Spares (ear_at j s) taker → tells (hands (ear_at j s)) (hand_on_first k taker a first).out.effects ≡ silence
  handed-silent taker a None e p = rw e refl
  handed-silent taker a (Some CloseMark) e p = rw e refl
  handed-silent taker a (Some InFlight) e p = rw e refl
  handed-silent ToHost a (Some (Chunk v)) e p = rw (e, sink-silent j k s v (owner_at j s) n) refl
  handed-silent (ToTransform u d) a (Some (Chunk v)) e p = rw (e, taken-silent (ear_at j s) u v p) refl
  handed-silent (ToPort c d) a (Some (Chunk v)) e p = rw (e, posted-silent (ear_at j s) c v p) refl

  operation-silent : (operation : WritableOperation) (a : writable.Acts) → a.out.effects ≡ [] → Placed j (ear_at j s) s (OnWritable k operation) → tells (hands (ear_at j s)) (writable_operation k operation a).out.effects ≡ silence
  unfolding hand_on
  operation-silent (HandOn taker) a e p = handed-silent taker a (first_value a.slots.queue) e (p.1 n)
  operation-silent operation a e p = late-silent (ear_at j s) _ (others-late (ear_at j s) k operation a (λ u. u) (rw e tt))

  pub other-silent : (operation : WritableOperation) → Placed j (ear_at j s) s (OnWritable k operation) → tells (hands (ear_at j s)) (row (OnWritable k operation) s).caused ≡ silence
  unfolding row
  other-silent operation p =
      either (λ (d : Done). tells (hands (ear_at j s)) d.caused ≡ silence) (has_writable k s) (put_writable k s (writable_operation k operation (writable_acts k s))) (nothing s)
      (λ there. operation-silent operation (writable_acts k s) refl p) (λ absent. refl)

-- the close algorithm of the destination is performed while a close is in flight

close_flies : (c : Bool) (n m : ℕ) → n + (1 + m) ≤ one_if c → c ≡ true
close_flies true n m l = refl
close_flies false n m l = absurd (omega (arith, l))

handed_closing : (n : ℕ) (w : writable.Slots) → (core_of (handed n w)).closing ≡ is_some w.close_in_flight
handed_closing n w = grind arith

pub closing-flies : (j : StreamId) (h : Writes) (s : Slots) (es : List Effect) → Kept j h s (CloseAlgorithm j ∷ es) → is_some (writable_at j s).close_in_flight ≡ true
closing-flies j h s es k =
    let f = k.held.fine.owed.closes in
    let one = same_once j in
    let same = handed_closing (all (drawn j) (CloseAlgorithm j ∷ es)) (writable_at j s) in
    sym same ∙ close_flies _ _ (all (leads_to (is_close j)) es) (rw one at f)

-- what holds at each moment

pub record Ahead (i j : StreamId) (s : Slots) (es : List Effect) : Type 0 where
  pub hosts : Hosts i j s
  pub history : Writes
  pub going : (t : TransformId) → Going j t history s es
  pub porting : (c : PortId) → PortGoing j c history s es
  pub living : (c : PortId) → PortLiving j c history s es
  pub shutting : (c : PortId) → Shuts i c s es
  pub placed : Each (Placed j (ear_at j s) s) es
  pub front : Front (ear_at j s) es
  pub first : First (ear_at j s) (is_some (writable_at j s).close_in_flight) es

pub ahead-kept : (i j : StreamId) (s : Slots) (es : List Effect) → (a : Ahead i j s es) → Kept j a.history s es
ahead-kept i j s es a = (a.going (record { 0 = 0 })).kept

-- nothing of the destination stands behind the first effect
pub ahead-silent : (i j : StreamId) (s : Slots) (e : Effect) (es : List Effect) → Ahead i j s (e ∷ es) → tells (hands (ear_at j s)) es ≡ silence
ahead-silent i j s e es a = late-silent (ear_at j s) es a.front

-- what stands there goes on standing there

placed_on : (j : StreamId) (w : Ear) (s z : Slots) (e : Effect) → ((k : StreamId) → has_writable k z ≡ has_writable k s) → Placed j w s e → Placed j w z e
placed_on j w s z e same p = grind (arith, same, p)

placed-on : (j : StreamId) (w : Ear) (s z : Slots) (es : List Effect) → ((k : StreamId) → has_writable k z ≡ has_writable k s) → Each (Placed j w s) es → Each (Placed j w z) es
placed-on j w s z [] same p = tt
placed-on j w s z (e ∷ es) same p = (placed_on j w s z e same p.0, placed-on j w s z es same p.1)

pipe-placed : (j : StreamId) (w : Ear) (s : Slots) (q : PipeId) (source dest : StreamId) (e : Effect) → PipeCauses q source dest e → Placed j w s e
pipe-placed j w s q source dest e c = grind (arith, c)

tee-placed : (j : StreamId) (w : Ear) (s : Slots) (t : TeeId) (source first second : StreamId) (e : Effect) → TeeCauses t source first second e → Placed j w s e
tee-placed j w s t source first second (OnWritable k operation) c = absurd c
tee-placed j w s t source first second (CloseAlgorithm k) c = absurd c
tee-placed j w s t source first second _ c = tt

port_same : (c : PortId) → is_port (OfPort c) c ≡ true
port_same c = grind arith

port_placed : (j : StreamId) (w : Ear) (s : Slots) (c : PortId) (x : cross.Slots) → AtPort j w c x → (e : Effect) → PortCauses c x.stream e → Placed j w s e
port_placed j w s c x (OwnPort is at side) (OnWritable k (HandOn (ToPort d p))) m =
    let fits : is_port w d ≡ true = rw (is, m.1) (port_same c) in
    let here : is_same j k ≡ true = rw (m.0, at) (is_same-refl j) in
    (λ same. subst (λ (v : Ear). Fits v k (ToPort d p)) (sym is) (rw (m.1) (port_same c)), λ n. absurd (cc))
port_placed j w s c x (OtherPort n far) (OnWritable k (HandOn (ToPort d p))) m =
    (λ same. let no : is_same j k ≡ false = rw (m.0) far in absurd (cc), λ other. rw (m.1) n)
port_placed j w s c x at (OnWritable k (HandOn ToHost)) m = absurd m
port_placed j w s c x at (OnWritable k (HandOn (ToTransform u d))) m = absurd m
port_placed j w s c x at (CloseAlgorithm k) m = absurd m
port_placed j w s c x at _ m = tt

own-placed : (j r : StreamId) (s : Slots) (t : TransformId) (e : Effect) → TransformCauses t j r e → Placed j (OfTransform t r) s e
own-placed j r s t e c = let same = is_same-refl j in grind (arith, c, same)

other-placed : (j : StreamId) (w : Ear) (s : Slots) (t : TransformId) (m r : StreamId) (e : Effect) → is_in w t ≡ false → is_same j m ≡ false → TransformCauses t m r e → Placed j w s e
other-placed j w s t m r e d n c = grind (arith, d, n, c)

write-placed : (j k : StreamId) (s z : Slots) (o : Owner) → o ≡ owner_at k s → Each (Placed j (ear_at j s) z) (write_algorithm k o)
write-placed j k s z Host e =
    ((λ same. let is : j ≡ k = same_id j k same in let host : owner_at j s ≡ Host = rw is (sym e) in rw host same, λ n. tt), tt)
write-placed j k s z (HalfOf t) e = (tt, tt)
write-placed j k s z (BranchOf t half) e =
    ((λ same. let is : j ≡ k = same_id j k same in let own : owner_at j s ≡ BranchOf t half = rw is (sym e) in rw own same, λ n. tt), tt)
write-placed j k s z (EndOf c) e = (tt, tt)

close-placed : (j : StreamId) (w : Ear) (z : Slots) (k : StreamId) (u : Use) (o : Owner) → Each (Placed j w z) (close_algorithm k u o)
close-placed j w z k u Host = (tt, tt)
close-placed j w z k u (HalfOf t) = (tt, tt)
close-placed j w z k u (BranchOf t half) = (tt, tt)
close-placed j w z k u (EndOf c) = (tt, tt)

module _ (i j : StreamId) (s : Slots) (h : Hosts i j s) where
  abbrev w : Ear
  w = ear_at j s

  transform-placed : (z : Slots) (t : TransformId) (operation : TransformOperation) (o : Option transform.Slots) → slice_get s.transforms t.0 ≡ o
      → Each (Placed j w z) (on_transform_at (λ halves. transform_operation t halves operation) t s o).caused
  transform-placed z t operation None e = tt
  transform-placed z t operation (Some x) e =
      let a : transform.Acts = record { slots = x; out = found s } in
      let c : Each (TransformCauses t x.writable x.readable) (transform_operation t (halves_at x s) operation a).out.effects = (transform-causes t (halves_at x s) operation a tt).1.1.1 in
      each-map (TransformCauses t x.writable x.readable) (Placed j w z) (by (at-sink i j s t x h e)) _ c
    where
      by : AtSink j w t x → (u : Effect) → TransformCauses t x.writable x.readable u → Placed j w z u
      by (OwnSink is half kind) u c = subst (λ (v : Ear). Placed j v z u) (sym is) (own-placed j x.readable z t u (subst (λ (m : StreamId). TransformCauses t m x.readable u) half c))
      by (OtherSink n far silent) u c = other-placed j w z t x.writable x.readable u n far c

  row-caused : (e : Effect) → Each (Placed j w (row e s).slots) (row e s).caused
  unfolding row
  row-caused (OnReadable k operation) = row-causes (Placed j w (row (OnReadable k operation) s).slots) (OnReadable k operation) s (record { pull = tt; cancel = λ r q. tt; chunk = λ request v. tt; close = λ request. tt; error = λ request r. tt })
  row-caused (Byte k operation) = row-causes (Placed j w (row (Byte k operation) s).slots) (Byte k operation) s (record {
    readable = record { pull = tt; cancel = λ r q. tt; chunk = λ request v. tt; close = λ request. tt; error = λ request r. tt };
    close_with = λ r b. tt;
  })
  row-caused (OnWritable k operation) = by (has_writable k s) refl
    where
      by : (there : Bool) → there ≡ has_writable k s → Each (Placed j w (row (OnWritable k operation) s).slots) (row (OnWritable k operation) s).caused
      by true e = row-causes (Placed j w (row (OnWritable k operation) s).slots) (OnWritable k operation) s (record { write = tt; close = row-has k (OnWritable k operation) s ∙ sym e; abort = λ r q. tt; hand_on = λ v. tt; take = λ v t d. tt; post = λ v t d. tt })
      by false e = rw (← e) tt
  row-caused (OnPipe q operation) = row-causes (Placed j w (row (OnPipe q operation) s).slots) (OnPipe q operation) s (λ source dest e c. pipe-placed j w (row (OnPipe q operation) s).slots q source dest e c)
  row-caused (OnSignal a operation) = row-causes (Placed j w (row (OnSignal a operation) s).slots) (OnSignal a operation) s (signal-each (Placed j w (row (OnSignal a operation) s).slots) operation (λ q r. tt))
  row-caused (OnTransform t operation) = transform-placed (row (OnTransform t operation) s).slots t operation (slice_get s.transforms t.0) refl
  row-caused (OnTee t operation) =
      row-causes (Placed j w (row (OnTee t operation) s).slots) (OnTee t operation) s (λ source first second e c. tee-placed j w (row (OnTee t operation) s).slots t source first second e c)
  row-caused (OnPort c operation) =
      port-caused (Placed j w (row (OnPort c operation) s).slots) c operation s (λ x at e m. port_placed j w (row (OnPort c operation) s).slots c x (at-port i j s c x h at) e m)
  row-caused (WriteAlgorithm k) = write-placed j k s (row (WriteAlgorithm k) s).slots (owner_at k s) refl
  row-caused (CloseAlgorithm k) = close-placed j w (row (CloseAlgorithm k) s).slots k _ (owner_at k s)
  row-caused (StartAlgorithm k step start) = row-causes (Placed j w (row (StartAlgorithm k step start) s).slots) (StartAlgorithm k step start) s (λ g u. tt, λ c u. tt)
  row-caused (PullAlgorithm k) = row-causes (Placed j w (row (PullAlgorithm k) s).slots) (PullAlgorithm k) s (λ c u. tt, (λ t u. tt, (λ t. tt, (λ u. tt, λ q. tt))))
  row-caused (CancelAlgorithm k r q) = row-causes (Placed j w (row (CancelAlgorithm k r q) s).slots) (CancelAlgorithm k r q) s (λ c u. tt, (λ t u. tt, (λ t half u. tt, λ y u. tt)))
  row-caused (AbortAlgorithm k r q) = row-causes (Placed j w (row (AbortAlgorithm k r q) s).slots) (AbortAlgorithm k r q) s (λ c u. tt, (λ t u. tt, λ z u. tt))
  row-caused (ChunkSteps k (Promise q) v) = tt
  row-caused (ChunkSteps k (PipeRequest q) v) = (tt, tt)
  row-caused (ChunkSteps k (TeeRequest b) v) = (tt, tt)
  row-caused (CloseSteps k (Promise q)) = tt
  row-caused (CloseStepsWith k (Promise q) b) = tt
  row-caused (CloseSteps k (PipeRequest q)) = (tt, tt)
  row-caused (CloseSteps k (TeeRequest b)) = (tt, tt)
  row-caused (CloseStepsWith k (PipeRequest q) b) = (tt, tt)
  row-caused (CloseStepsWith k (TeeRequest tee_id) b) = (tt, tt)
  row-caused (ErrorSteps k (Promise q) r) = tt
  row-caused (ErrorSteps k (PipeRequest q) r) = (tt, tt)
  row-caused (ErrorSteps k (TeeRequest b) r) = (tt, tt)
  row-caused _ = tt

  -- the transform stream of the destination has no other writable half

  abbrev Own : TransformId → Type 0
  Own t = owner_at j s ≡ HalfOf t

  in-own : (t : TransformId) (o : Owner) → o ≡ owner_at j s → is_in (ear_by j s o) t ≡ true → Own t
  in-own t Host e n = absurd (cc)
  in-own t (HalfOf u) e n = let is : u ≡ t = ap (λ (m : ℕ). record { 0 = m }) (eq_numbers u.0 t.0 n) in sym e ∙ ap HalfOf is
  in-own t (BranchOf u half) e n = absurd (cc)
  in-own t (EndOf c) e n = absurd (cc)

  one-half : (t : TransformId) (k : StreamId) → Own t → has_writable k s ≡ true → owner_at k s ≡ HalfOf t → k ≡ j
  one-half t k own there owner =
      let mine = half-there j t s h.halved (sink-there i j s h) own in
      let others = half-there k t s h.halved there owner in
      let a = mine.1.0 in
      let b = others.1.0 in
      let same : others.0 ≡ mine.0 = cc in
      sym others.1.1 ∙ (ap (λ (x : transform.Slots). x.writable) same ∙ mine.1.1)

  -- and the port of the destination no other stream at its end

  port-own : (c : PortId) (o : Owner) → o ≡ owner_at j s → is_port (ear_by j s o) c ≡ true → owner_at j s ≡ EndOf c
  port-own c Host e n = absurd (cc)
  port-own c (HalfOf u) e n = absurd (cc)
  port-own c (BranchOf u half) e n = absurd (cc)
  port-own c (EndOf d) e n = let is : d ≡ c = ap (λ (m : ℕ). record { 0 = m }) (eq_numbers d.0 c.0 n) in sym e ∙ ap EndOf is

  one-end : (c : PortId) (k : StreamId) → owner_at j s ≡ EndOf c → has_writable k s ≡ true → owner_at k s ≡ EndOf c → k ≡ j
  one-end c k own there owner =
      let mine = end-there j c s h.ended (sink-there i j s h) own in
      let others = end-there k c s h.ended there owner in
      let a = mine.1.0 in
      let b = others.1.0 in
      let same : others.0 ≡ mine.0 = cc in
      sym others.1.1.0 ∙ (ap (λ (x : cross.Slots). x.stream) same ∙ mine.1.1.0)

  close-first : (hs : Writes) (k : StreamId) (es : List Effect) (u : Use) (o : Owner) → o ≡ owner_at k s → has_writable k s ≡ true → ((t : TransformId) → Going j t hs s (CloseAlgorithm k ∷ es))
      → First w (is_some (writable_at j s).close_in_flight) (close_algorithm k u o)
  close-first hs k es u Host e there g = λ n. absurd (cc)
  close-first hs k es u (HalfOf t) e there g = λ n.
      let is : k ≡ j = one-half t k (in-own t (owner_at j s) refl n) there (sym e) in
      closing-flies j hs s es (subst (λ (x : StreamId). Kept j hs s (CloseAlgorithm x ∷ es)) is (g t).kept)
  close-first hs k es u (BranchOf t half) e there g = λ n. absurd (cc)
  close-first hs k es u (EndOf c) e there g = λ n.
      let is : k ≡ j = one-end c k (port-own c (owner_at j s) refl n) there (sym e) in
      closing-flies j hs s es (subst (λ (x : StreamId). Kept j hs s (CloseAlgorithm x ∷ es)) is (g (record { 0 = 0 })).kept)

row-first : (i j : StreamId) (s : Slots) (e : Effect) (es : List Effect) → Ahead i j s (e ∷ es) → First (ear_at j s) (is_some (writable_at j (row e s).slots).close_in_flight) (row e s).caused
unfolding row
row-first i j s (CloseAlgorithm k) es a = close-first i j s a.hosts a.history k es _ (owner_at k s) refl a.placed.0 a.going
row-first i j s e es a = late-first (ear_at j s) (is_some (writable_at j (row e s).slots).close_in_flight) (row e s).caused (row-causes (NoFlush (ear_at j s)) e s (flush-causes (ear_at j s) e tt))

pub row-ahead : (i j : StreamId) (s : Slots) (e : Effect) (es : List Effect) → Ahead i j s (e ∷ es) → Ahead i j (row e s).slots ((row e s).caused ++ es)
row-ahead i j s e es a =
    let w : Ear = ear_at j s in
    let same : ear_at j (row e s).slots ≡ w = row-ear j e s in
    record {
      hosts = hosts-row i j e s a.hosts;
      history = writes_then a.history (effect_writes j e s);
      going = λ t. (going j t).row a.history s e es (a.going t);
      porting = λ c. (port-going j c).row a.history s e es (a.porting c);
      living = λ c. (port-living j c).row a.history s e es (a.living c);
      shutting = λ c. (shuts-stays i c).row s e es (a.shutting c);
      placed = rw same (each-append (Placed j w (row e s).slots) (row e s).caused es (row-caused i j s a.hosts e) (placed-on j w s (row e s).slots es (λ k. row-has k e s) a.placed.1));
      front = rw same (front-next w (row e s).caused es (row-front w e s) a.front);
      first = rw same (first-next w (is_some (writable_at j (row e s).slots).close_in_flight) (row e s).caused es (row-first i j s e es a) a.front);
    }
