-- What enqueues nothing into a stream: what a step that begins so performs lets nothing enter it.
use Rattle.ws_value.specs.declared.ids.PortId.{PortId}
use Rattle.ws_steps.specs.declared.port.PortOperation.TheVariants as ports
use Rattle.ws_steps.specs.declared.port.Side.{Side}
use Rattle.ws_steps.specs.declared.port.Side.TheVariants.{Readable as ReadableSide, Writable as WritableSide}
use Rattle.ws_laws.proofs.Ended.{PortShape, port_shape, port_shapes, row-port_shapes}
use Rattle.ws_value.specs.declared.value.Message.{Message}
use Rattle.ws_value.specs.declared.value.Message.TheVariants.{Pull as PullMessage, Chunk as ChunkMessage, Close as CloseMessage, Error as ErrorMessage}
use Rattle.ws_value.specs.Values.{is_cloneable}
use Rattle.ws_steps.specs.declared.port.PortOperation.{PortOperation}
use Rattle.ws_steps.specs.Cross as cross
use Rattle.ws_steps.specs.Operations.{port_operation}
use Rattle.ws_steps.specs.Slots.{on_port_at, clones_at}
use Rattle.std.proofs.Common.{◌≡◌, Bool, true, false, List, [], ◌∷◌, ◌++◌, map, Option, Some, None, ℕ, zero, suc, if◌then◌else◌, slice_get, ⊎_elim, refl, sym, ap, ◌∙◌, append-nil, arith}
use Rattle.ws_value.specs.declared.ids.PipeId.{PipeId}
use Rattle.ws_value.specs.declared.ids.PromiseId.{PromiseId}
use Rattle.ws_value.specs.declared.ids.StreamId.{StreamId}
use Rattle.ws_value.specs.declared.ids.TeeId.{TeeId}
use Rattle.ws_value.specs.declared.value.Value.{Value}
use Rattle.ws_steps.specs.declared.readable.ReadRequest.TheVariants.{Promise, Pipe as PipeRequest, Tee as TeeRequest}
use Rattle.ws_steps.specs.declared.pipes.SignalOperation.TheVariants.{Add, Forget, Trigger}
use Rattle.ws_steps.specs.declared.{effects.Effect.{Effect}}
use Rattle.ws_steps.specs.declared.effects.Effect.TheVariants.{Readable, Byte, Writable, Pipe, Signal, Transform, Tee, Port, StartAlgorithm, PullAlgorithm, CancelAlgorithm, WriteAlgorithm, CloseAlgorithm, AbortAlgorithm, ChunkSteps, CloseSteps, CloseStepsWith, ErrorSteps}
use Rattle.ws_steps.specs.declared.{readable.ReadableOperation.TheVariants.{Enqueue}}
use Rattle.ws_steps.specs.declared.transform.Halves.{Halves}
use Rattle.ws_steps.specs.declared.transform.Kind.{Kind}
use Rattle.ws_steps.specs.declared.transform.Kind.TheVariants.{Identity, Host as HostKind}
use Rattle.ws_steps.specs.declared.transform.TransformId.{TransformId}
use Rattle.ws_steps.specs.declared.transform.TransformOperation.{TransformOperation}
use Rattle.ws_steps.specs.declared.transform.TransformOperation.TheVariants as names
use Rattle.ws_steps.specs.Operations.{transform_operation, tee_operation}
use Rattle.ws_steps.specs.Readable as readable
use Rattle.ws_steps.specs.Transform as transform
use Rattle.ws_steps.specs.Tee as tee
use Rattle.ws_steps.specs.declared.tee.TeeOperation.{TeeOperation}
use Rattle.ws_laws.proofs.TeeDoes.{TeeCauses, IsBranch, tee-causes}
use Rattle.ws_steps.specs.Transform.{Acts}
use Rattle.ws_steps.specs.Slots.{Slots, Stream, Done, causes, found, halves_at, on_transform_at, on_tee_at, as_readable, readable_at}
use Rattle.ws_steps.specs.Turns.{row, moments}
use Rattle.ws_steps.specs.Run.{step}
use Rattle.ws_steps.specs.Histories.{is_same, along}
use Rattle.ws_steps.specs.ReadableHistory.{Flow, no_flow, flow_then, operation_flow, effect_flow}
use Rattle.ws_room_laws.proofs.Turns.{moments_next, moments_none}
use Rattle.ws_laws.proofs.Tables.{either}
use Rattle.ws_laws.proofs.Lists.{Each, each-append, each-map}
use Rattle.ws_laws.proofs.Apart.{row-streams}
use Rattle.ws_laws.proofs.Causes.{Causes, row-causes}
use Rattle.ws_laws.proofs.PipeDoes.{PipeCauses}
use Rattle.ws_laws.proofs.Shapes.{TransformShape, transform_shape, transform_shapes, map-there, row-transform_shapes, TeeShape, tee_shape, tee_shapes, row-tee_shapes}
use Rattle.ws_laws.proofs.Walker.{performed-goes}
use Rattle.ws_readable_laws.proofs.Runs.{is_history, nothing_flows}

-- other effects than operations of transform streams, of tees and of ports
abbrev IsOther : Effect → Type 0
IsOther (Transform t operation) = ⊥
IsOther (Tee t operation) = ⊥
IsOther (Port c operation) = ⊥
IsOther _ = Unit {0}

none-there : (xs : List transform.Slots) (n : ℕ) (x : TransformShape) → slice_get xs n ≡ None → slice_get (map transform_shape xs) n ≡ Some x → ⊥
none-there [] n x is there = cc
none-there (y ∷ ys) zero x is there = cc
none-there (y ∷ ys) (suc n) x is there = none-there ys n x is there

pub some-same : {x y : TransformShape} → Some x ≡ Some y → x ≡ y
some-same e = cc

-- of stream i, where messages may come, or none does
module _ (i : StreamId) (comes : Bool) where
  -- effects that don't enqueue into stream i
  abbrev pub Quiet : Effect → Type 0
  Quiet (Readable j (Enqueue v)) = is_same i j ≡ false
  Quiet (Transform t (names.Enqueue v)) = ⊥
  Quiet (Port c (ports.Deliver m)) = comes ≡ true
  Quiet _ = Unit {0}

  -- no identity transform has it as its readable half, and no tee as a branch; nor is it at the end of a port, where messages may come
  pub record AreApart (ts : List TransformShape) (bs : List TeeShape) (ps : List PortShape) : Type 0 where
    pub halves : (t : TransformId) (x : TransformShape) → slice_get ts t.0 ≡ Some x → x.kind ≡ Identity → is_same i x.readable ≡ false
    pub branches : (t : TeeId) (x : TeeShape) → slice_get bs t.0 ≡ Some x → (is_same i x.branch1 ≡ false) × (is_same i x.branch2 ≡ false)
    pub ends : comes ≡ true → (c : PortId) (x : PortShape) → slice_get ps c.0 ≡ Some x → x.side ≡ ReadableSide → is_same i x.stream ≡ false

  abbrev pub Apart : Slots → Type 0
  Apart s = AreApart (transform_shapes s) (tee_shapes s) (port_shapes s)

  pub row-apart : (e : Effect) (s : Slots) → Apart s → Apart (row e s).slots
  row-apart e s apart = rw (row-transform_shapes e s, row-tee_shapes e s, row-port_shapes e s) apart

  pipe-quiet : (p : PipeId) (source dest : StreamId) (e : Effect) → PipeCauses p source dest e → Quiet e
  pipe-quiet p source dest (Readable j (Enqueue v)) c = absurd c
  pipe-quiet p source dest (Transform t (names.Enqueue v)) c = absurd c
  pipe-quiet p source dest (Port d operation) c = absurd c
  pipe-quiet p source dest _ c = tt

  -- what an operation of a transform stream causes but for an enqueue

  abbrev pub All : List Effect → Type 0
  All es = Each Quiet es

  backpressure-quiet : (b : Bool) (a : Acts) → All a.out.effects → All (transform.set_backpressure b a).out.effects
  unfolding transform.set_backpressure
  backpressure-quiet b a h = h

  chunk-quiet : (t : TransformId) (halves : Halves) (v : Value) (d : PromiseId) (a : Acts) (kind : Kind) → (kind ≡ Identity → is_same i a.slots.readable ≡ false)
      → All (transform.transform_by t halves v d a kind)
  chunk-quiet t halves v d a Identity other = let n = other refl in grind (arith, n)
  chunk-quiet t halves v d a HostKind other = (tt, tt)

  transform-quiet : (t : TransformId) (halves : Halves) (operation : TransformOperation) (a : Acts) → Quiet (Transform t operation) → a.out.effects ≡ []
      → (a.slots.kind ≡ Identity → is_same i a.slots.readable ≡ false) → All (transform_operation t halves operation a).out.effects
  unfolding transform.unblock transform.transform_error transform.terminate transform.enqueued transform.transform_chunk transform.sink_write transform.write_goes_on transform.source_pull transform.set_backpressure transform.sink_close transform.sink_abort transform.source_cancel transform.flush_settled transform.abort_settled transform.cancel_settled
  transform-quiet t halves (names.TransformChunk v d) a q none other = rw none (chunk-quiet t halves v d a a.slots.kind other)
  transform-quiet t halves (names.Enqueue v) a q none other = absurd q
  transform-quiet t halves (names.SinkWrite u) a q none other = grind (arith, none)
  transform-quiet t halves (names.WriteGoesOn d) a q none other = grind (arith, none)
  transform-quiet t halves names.Enqueued a q none other = grind (arith, none)
  transform-quiet t halves (names.Error e) a q none other = grind (arith, none)
  transform-quiet t halves names.Unblock a q none other = grind (arith, none)
  transform-quiet t halves names.Terminate a q none other = grind (arith, none)
  transform-quiet t halves (names.SourcePull u) a q none other = grind (arith, none)
  transform-quiet t halves (names.SinkClose u) a q none other = grind (arith, none)
  transform-quiet t halves (names.SinkAbort r u) a q none other = grind (arith, none)
  transform-quiet t halves (names.SourceCancel r u) a q none other = grind (arith, none)
  transform-quiet t halves (names.FlushSettled p o) a q none other = grind (arith, none)
  transform-quiet t halves (names.AbortSettled p r o) a q none other = grind (arith, none)
  transform-quiet t halves (names.CancelSettled p r o) a q none other = grind (arith, none)

  by-transform : (t : TransformId) (operation : TransformOperation) (s : Slots) (o : Option transform.Slots) → slice_get s.transforms t.0 ≡ o → Quiet (Transform t operation) → Apart s
      → All (on_transform_at (λ halves. transform_operation t halves operation) t s o).caused
  by-transform t operation s None is q apart = tt
  by-transform t operation s (Some x) is q apart =
      transform-quiet t (halves_at x s) operation (record { slots = x; out = found s }) q refl (apart.halves t (transform_shape x) (map-there transform_shape s.transforms t.0 x is))

  quiet-causes : (e : Effect) → IsOther e → Causes Quiet e
  quiet-causes (Readable j operation) n = record { pull = tt; cancel = λ r p. tt; chunk = λ r v. tt; close = λ r. tt; error = λ r e. tt }
  quiet-causes (Byte j operation) n = record { readable = record { pull = tt; cancel = λ r p. tt; chunk = λ r v. tt; close = λ r. tt; error = λ r e. tt }; close_with = λ r b. tt }
  quiet-causes (CloseStepsWith j (Promise p) b) n = tt
  quiet-causes (CloseStepsWith j (PipeRequest p) b) n = tt
  quiet-causes (CloseStepsWith j (TeeRequest t) b) n = tt
  quiet-causes (Writable j operation) n = record { write = tt; close = tt; abort = λ r p. tt; hand_on = λ v. tt; take = λ v t d. tt; post = λ v c d. tt }
  quiet-causes (StartAlgorithm j step start) n = (λ g u. tt, λ c u. tt)
  quiet-causes (PullAlgorithm j) n = (λ c u. tt, (λ t u. tt, (λ t. tt, (λ u. tt, λ c. tt))))
  quiet-causes (CancelAlgorithm j r p) n = (λ c u. tt, (λ t u. tt, (λ t half u. tt, λ q u. tt)))
  quiet-causes (WriteAlgorithm j) n = (tt, (λ t u. tt, λ q u. tt))
  quiet-causes (CloseAlgorithm j) n = (λ c u. tt, (λ t u. tt, λ q u. tt))
  quiet-causes (AbortAlgorithm j r p) n = (λ c u. tt, (λ t u. tt, λ q u. tt))
  quiet-causes (Pipe p operation) n = pipe-quiet p
  quiet-causes (Signal a (Trigger r)) n = λ p. tt
  quiet-causes (Signal a (Add p)) n = tt
  quiet-causes (Signal a (Forget p)) n = tt
  quiet-causes (Transform t operation) n = absurd n
  quiet-causes (Tee t operation) n = absurd n
  quiet-causes (Port c operation) n = absurd n
  quiet-causes (ChunkSteps j (Promise p) v) n = tt
  quiet-causes (ChunkSteps j (PipeRequest p) v) n = tt
  quiet-causes (ChunkSteps j (TeeRequest t) v) n = tt
  quiet-causes (CloseSteps j (Promise p)) n = tt
  quiet-causes (CloseSteps j (PipeRequest p)) n = tt
  quiet-causes (CloseSteps j (TeeRequest t)) n = tt
  quiet-causes (ErrorSteps j (Promise p) e) n = tt
  quiet-causes (ErrorSteps j (PipeRequest p) e) n = tt
  quiet-causes (ErrorSteps j (TeeRequest t) e) n = tt
  quiet-causes _ n = tt

  -- a tee enqueues into its branches alone

  branch-quiet : (source first second j : StreamId) → is_same i first ≡ false → is_same i second ≡ false → IsBranch first second j → is_same i j ≡ false
  branch-quiet source first second j f g c = ⊎_elim (λ (e : j ≡ first). rw e f) (λ (e : j ≡ second). rw e g) c

  tee_effect-quiet : (t : TeeId) (source first second : StreamId) → is_same i first ≡ false → is_same i second ≡ false → (e : Effect) → TeeCauses t source first second e → Quiet e
  tee_effect-quiet t source first second f g (Readable j (Enqueue v)) c = branch-quiet source first second j f g c
  tee_effect-quiet t source first second f g (Transform u operation) c = absurd c
  tee_effect-quiet t source first second f g (Port d operation) c = absurd c
  tee_effect-quiet t source first second f g _ c = tt

  by-tee : (t : TeeId) (operation : TeeOperation) (s : Slots) (o : Option tee.Slots) → slice_get s.tees t.0 ≡ o → Apart s → All (on_tee_at (tee_operation t operation) t s o).caused
  by-tee t operation s None is apart = tt
  by-tee t operation s (Some x) is apart =
      let n = apart.branches t (tee_shape x) (map-there tee_shape s.tees t.0 x is) in
      each-map (TeeCauses t x.source x.branch1 x.branch2) Quiet (tee_effect-quiet t x.source x.branch1 x.branch2 n.0 n.1) _
      ((tee-causes t operation (record { slots = x; out = found s })).effects tt)

  -- a port does so as a message comes, into its stream alone

  post-quiet : (c : PortId) (m : Message) (a : cross.Acts) → All a.out.effects → All (cross.post c m a).out.effects
  post-quiet c m a h = either (λ (b : cross.Acts). All b.out.effects) a.slots.live (cross.posting c m a) a (λ e. h) (λ e. h)

  fail-quiet : (c : PortId) (m : Message) (a : cross.Acts) (clones : Bool) → All a.out.effects → All (cross.post_or_fail c m a clones).out.effects
  fail-quiet c m a true h = post-quiet c m a h
  fail-quiet c m a false h = post-quiet c (ErrorMessage cross.data_clone) a h

  wait-quiet : (c : PortId) (d : PromiseId) (p : Option PromiseId) → Quiet (cross.wait_for p c d)
  wait-quiet c d None = tt
  wait-quiet c d (Some p) = tt

  hand-quiet : (c : PortId) (d : PromiseId) (a : cross.Acts) (clones : Bool) → All a.out.effects → All (cross.hand_on c d a clones).out.effects
  hand-quiet c d a true h = each-append Quiet a.out.effects _ h (tt, tt)
  hand-quiet c d a false h = each-append Quiet _ _ (post-quiet c (ErrorMessage cross.data_clone) a h) (tt, tt)

  go-quiet : (c : PortId) (clones : Bool) (d : PromiseId) (a : cross.Acts) (p : Option PromiseId) → All a.out.effects → All (cross.go_on c clones d a p).out.effects
  go-quiet c clones d a None h = hand-quiet c d (cross.hold_back a) clones h
  go-quiet c clones d a (Some p) h = each-append Quiet a.out.effects _ h (tt, tt)

  unblock-quiet : (a : cross.Acts) (p : Option PromiseId) → All a.out.effects → All (cross.unblock_by a p).out.effects
  unblock-quiet a None h = h
  unblock-quiet a (Some p) h = h

  deliver_to-quiet : (c : PortId) (m : Message) (a : cross.Acts) (side : Side) → (side ≡ ReadableSide → is_same i a.slots.stream ≡ false) → All a.out.effects
      → All (cross.deliver_to c m a side).out.effects
  unfolding cross.unblock
  deliver_to-quiet c PullMessage a ReadableSide other h = h
  deliver_to-quiet c (ChunkMessage v) a ReadableSide other h = each-append Quiet a.out.effects _ h (other refl, tt)
  deliver_to-quiet c CloseMessage a ReadableSide other h = each-append Quiet a.out.effects _ h (tt, tt)
  deliver_to-quiet c (ErrorMessage r) a ReadableSide other h = each-append Quiet a.out.effects _ h (tt, tt)
  deliver_to-quiet c PullMessage a WritableSide other h = unblock-quiet a a.slots.backpressure h
  deliver_to-quiet c (ChunkMessage v) a WritableSide other h = h
  deliver_to-quiet c CloseMessage a WritableSide other h = h
  deliver_to-quiet c (ErrorMessage r) a WritableSide other h = each-append Quiet a.out.effects _ h (tt, (tt, tt))

  port-quiet : (c : PortId) (operation : PortOperation) (s : Slots) (clones : Bool) (a : cross.Acts) → Quiet (Port c operation) → slice_get s.ports c.0 ≡ Some a.slots → Apart s
      → All a.out.effects → All (port_operation c clones operation a).out.effects
  unfolding cross.pull cross.leave cross.close cross.write cross.write_goes_on cross.post_chunk cross.unblock cross.deliver
  port-quiet c ports.Pull s clones a q is apart h = post-quiet c PullMessage a h
  port-quiet c (ports.Leave r u) s clones a q is apart h = each-append Quiet _ _ (fail-quiet c (ErrorMessage r) a (is_cloneable r) h) (tt, tt)
  port-quiet c (ports.Write u) s clones a q is apart h = each-append Quiet a.out.effects _ h (wait-quiet c _ a.slots.backpressure, (tt, tt))
  port-quiet c (ports.WriteGoesOn d) s clones a q is apart h = go-quiet c clones d a a.slots.backpressure h
  port-quiet c (ports.PostChunk v d) s clones a q is apart h = each-append Quiet _ _ (post-quiet c (ChunkMessage v) a h) (tt, tt)
  port-quiet c (ports.Close u) s clones a q is apart h = each-append Quiet _ _ (post-quiet c CloseMessage a h) (tt, tt)
  port-quiet c (ports.Deliver m) s clones a q is apart h =
      either (λ (b : cross.Acts). All b.out.effects) a.slots.live (cross.deliver_to c m a a.slots.side) a
      (λ e. deliver_to-quiet c m a a.slots.side (λ side. apart.ends q c (port_shape a.slots) (map-there port_shape s.ports c.0 a.slots is) side) h) (λ e. h)
  port-quiet c ports.Unblock s clones a q is apart h = unblock-quiet a a.slots.backpressure h

  by-port : (c : PortId) (operation : PortOperation) (s : Slots) (o : Option cross.Slots) → slice_get s.ports c.0 ≡ o → Quiet (Port c operation) → Apart s
      → All (on_port_at (λ clones. port_operation c clones operation) c s o).caused
  by-port c operation s None is q apart = tt
  by-port c operation s (Some x) is q apart = port-quiet c operation s (clones_at x s) (record { slots = x; out = found s }) q is apart tt

  row-quiet : (e : Effect) (s : Slots) → Quiet e → Apart s → All (row e s).caused
  unfolding row
  row-quiet (Transform t operation) s q apart = by-transform t operation s (slice_get s.transforms t.0) refl q apart
  row-quiet (Tee t operation) s q apart = by-tee t operation s (slice_get s.tees t.0) refl apart
  row-quiet (Port c operation) s q apart = by-port c operation s (slice_get s.ports c.0) refl q apart
  row-quiet e s q apart = row-causes Quiet e s (quiet-causes e tt)

  -- what enters stream i by the effects of a call or a job that begins so
  abbrev pub enters : Done → List Value
  enters d = (along no_flow flow_then (effect_flow i) (moments d)).entered

  by_place : (j : StreamId) (f : Flow) → f.entered ≡ [] → (if is_same i j then f else no_flow).entered ≡ []
  by_place j f e = either (λ (g : Flow). g.entered ≡ []) (is_same i j) f no_flow (λ same. e) (λ other. refl)

  quiet-enters : (e : Effect) (s : Slots) → Quiet e → (effect_flow i e s).entered ≡ []
  quiet-enters (Readable j (Enqueue v)) s quiet = rw quiet refl
  quiet-enters (Readable j operation) s quiet = by_place j (operation_flow operation (readable_at j s)) refl
  quiet-enters (ChunkSteps j request v) s quiet = by_place j _ refl
  quiet-enters _ s quiet = refl

  pub none_enters : (d : Done) → All d.caused → Apart d.slots → enters d ≡ []
  none_enters d quiet apart =
      let f : Flow = along no_flow flow_then (effect_flow i) (moments d) in
      ap (λ (g : Flow). g.entered) (sym (nothing_flows f))
      ∙ (performed-goes no_flow flow_then is_history (effect_flow i) (λ h s es. (h.entered ≡ []) × (All es × Apart s))
      (λ h s e es k. (
        ap (λ vs. vs ++ (effect_flow i e s).entered) k.0 ∙ quiet-enters e s k.1.0.0,
        (each-append Quiet (row e s).caused es (row-quiet e s k.1.0.0 k.1.1) k.1.0.1, row-apart e s k.1.1),
      ))
      no_flow d (refl, (quiet, apart))).0

  -- the first effect, and then the others
  pub enters-next : (s : Slots) (e : Effect) (es : List Effect) → enters (causes (e ∷ es) s) ≡ (effect_flow i e s).entered ++ enters (causes ((row e s).caused ++ es) (row e s).slots)
  enters-next s e es = ap (λ ms. (along no_flow flow_then (effect_flow i) ms).entered) (moments_next s e es)

  pub none-of : (d : Slots) → enters (causes [] d) ≡ []
  none-of s = ap (λ ms. (along no_flow flow_then (effect_flow i) ms).entered) (moments_none s)

  -- an enqueue into a stream that can take it, where quiet effects stand behind
  pub enqueued : (j : StreamId) (v : Value) (s : Slots) (es : List Effect) → All es → Apart s → readable.can_close_or_enqueue (readable_at j s) ≡ true
      → enters (causes (Readable j (Enqueue v) ∷ es) s) ≡ (if is_same i j then v ∷ [] else [])
  enqueued j v s es quiet apart can =
      let e : Effect = Readable j (Enqueue v) in
      let all : All ((row e s).caused ++ es) = each-append Quiet (row e s).caused es (row-causes Quiet e s (quiet-causes e tt)) quiet in
      enters-next s e es
      ∙ (ap (λ vs. (effect_flow i e s).entered ++ vs) (none_enters (causes ((row e s).caused ++ es) (row e s).slots) all (row-apart e s apart))
      ∙ (append-nil (effect_flow i e s).entered ∙ (rw can (either (λ (f : Flow). f.entered ≡ (if is_same i j then v ∷ [] else [])) (is_same i j) _ no_flow (λ e. rw e refl) (λ e. rw e refl)))))

  -- by the controller of a transform stream
  pub enqueued-half : (t : TransformId) (j : StreamId) (v : Value) (s : Slots) (o : Option transform.Slots) → slice_get s.transforms t.0 ≡ o → (x : TransformShape) → slice_get (transform_shapes s) t.0 ≡ Some x → x.readable ≡ j
      → Apart s → readable.can_close_or_enqueue (readable_at j s) ≡ true
      → enters (causes (Transform t (names.Enqueue v) ∷ []) s) ≡ (if is_same i j then v ∷ [] else [])
  unfolding row transform.enqueue
  enqueued-half t j v s None is x there half apart can = absurd (none-there s.transforms t.0 x is there)
  enqueued-half t j v s (Some y) is x there half apart can =
      let e : Effect = Transform t (names.Enqueue v) in
      let same : transform_shape y ≡ x = some-same (sym (map-there transform_shape s.transforms t.0 y is) ∙ there) in
      let at : y.readable ≡ j = ap (λ (z : TransformShape). z.readable) same ∙ half in
      let caused : (row e s).caused ++ [] ≡ Readable j (Enqueue v) ∷ Transform t names.Enqueued ∷ [] = rw (is, at) refl in
      let streams : readable_at j (row e s).slots ≡ readable_at j s = ap (λ (xs : List Stream). as_readable (slice_get xs j.0)) (row-streams e s tt) in
      enters-next s e []
      ∙ (ap (λ es. enters (causes es (row e s).slots)) caused
      ∙ enqueued j v (row e s).slots (Transform t names.Enqueued ∷ []) (tt, tt) (row-apart e s apart) (rw streams can))
