-- What enters the readable half of a transform stream in a step: an enqueue into it stands at the front of the agenda alone, and then it can
-- take the chunk.
use Rattle.std.proofs.Common.{◌≡◌, ℕ, zero, suc, Bool, true, false, ◌&&◌, nat_eq, if◌then◌else◌, List, [], ◌∷◌, ◌++◌, map, Option, Some, None, slice_get, refl, sym, ap, ◌∙◌, arith, append_assoc}
use Rattle.ws_value.specs.declared.ids.{PipeId.{PipeId}, PromiseId.{PromiseId}, StreamId.{StreamId}}
use Rattle.ws_value.specs.declared.value.Value.{Value}
use Rattle.ws_steps.specs.declared.effects.{Effect.{Effect}, Owner.TheVariants.{HalfOf}}
use Rattle.ws_steps.specs.declared.effects.Effect.TheVariants.{Readable as OnReadable, Writable as OnWritable, Pipe as OnPipe, Signal as OnSignal, Transform as OnTransform, Tee as OnTee, Port as OnPort, StartAlgorithm, PullAlgorithm, CancelAlgorithm, WriteAlgorithm, CloseAlgorithm, AbortAlgorithm, ChunkSteps, CloseSteps, ErrorSteps}
use Rattle.ws_steps.specs.declared.pipes.{SignalOperation.TheVariants.{Add, Forget, Trigger}}
use Rattle.ws_steps.specs.declared.readable.{ReadRequest.TheVariants.{Promise, Pipe as PipeRequest, Tee as TeeRequest}, ReadableOperation.{ReadableOperation}, ReadableOperation.TheVariants.{Enqueue}}
use Rattle.ws_steps.specs.declared.transform.{Halves.{Halves}, Kind.{Kind}, Kind.TheVariants.{Identity, Host as HostKind}, TransformId.{TransformId}, TransformOperation.{TransformOperation}}
use Rattle.ws_steps.specs.declared.transform.TransformOperation.TheVariants as names
use Rattle.ws_steps.specs.Histories.{is_same}
use Rattle.ws_steps.specs.Operations.{transform_operation}
use Rattle.ws_steps.specs.Readable.{can_close_or_enqueue}
use Rattle.ws_steps.specs.ReadableHistory.{Flow, no_flow, operation_flow, effect_flow}
use Rattle.ws_steps.specs.Slots.{Slots, found, halves_at, readable_at, transform_at, as_transform, on_transform_at}
use Rattle.ws_steps.specs.Transform as transform
use Rattle.ws_steps.specs.Turns.{row}
use Rattle.ws_laws.proofs.Halves.{Halved}
use Rattle.ws_laws.proofs.Lists.{Each, each-append}
use Rattle.ws_laws.proofs.PipeDoes.{PipeCauses}
use Rattle.ws_laws.proofs.Causes.{Causes, row-causes}
use Rattle.ws_laws.proofs.Shapes.{StreamShape, ReadableOf, TransformShape, stream_shapes, transform_shapes, transform_shape, map-there}
use Rattle.ws_laws.proofs.Tables.{either, same_id, is_same-refl, eq_numbers}
use Rattle.ws_transform_laws.specs.TransformHistory.{is_same_transform, enqueues, effect_enqueued}
use Rattle.ws_steps.specs.declared.effects.Effect.TheVariants.{Byte, CloseStepsWith}
use Rattle.ws_steps.specs.Slots.{has_byte}
use Rattle.ws_laws.proofs.StaysBytes.{bytes-told}
use Rattle.ws_value.specs.declared.ids.TeeId.{TeeId}
use Rattle.ws_value.specs.declared.ids.PortId.{PortId}
use Rattle.ws_steps.specs.declared.tee.TeeOperation.{TeeOperation}
use Rattle.ws_steps.specs.declared.port.PortOperation.{PortOperation}
use Rattle.ws_steps.specs.Tee as tee
use Rattle.ws_steps.specs.Cross as cross
use Rattle.ws_laws.proofs.TeeDoes.{TeeCauses}
use Rattle.ws_laws.proofs.PortDoes.{PortCauses}
use Rattle.ws_laws.proofs.Ended.{Ended}
use Rattle.ws_transform_laws.proofs.Branches.{tee-caused, port-caused, not-branch, not-end}

module _ (t : TransformId) (r : StreamId) where
  -- an effect that leads to no enqueue into the stream by an enqueue that stands on the agenda
  abbrev pub Quiet : Effect → Type 0
  Quiet (OnReadable j (Enqueue v)) = is_same r j ≡ false
  Quiet (OnTransform u (names.Enqueue v)) = is_same_transform t u ≡ false
  Quiet _ = Unit {0}

  -- what an effect is about to enqueue
  abbrev pub entering_of : Effect → List Value
  entering_of (OnReadable j (Enqueue v)) = if is_same r j then v ∷ [] else []
  entering_of (OnTransform u (names.Enqueue v)) = if is_same_transform t u then v ∷ [] else []
  entering_of _ = []

  abbrev pub entering : List Effect → List Value
  entering [] = []
  entering (e ∷ es) = entering_of e ++ entering es

  abbrev Can : Slots → Type 0
  Can s = can_close_or_enqueue (readable_at r s) ≡ true

  -- and the stream can take it
  abbrev pub Placed : Slots → Effect → Type 0
  Placed s (OnReadable j (Enqueue v)) = is_same r j ≡ true → Can s
  Placed s (OnTransform u (names.Enqueue v)) = is_same_transform t u ≡ true → Can s
  Placed s _ = Unit {0}

  abbrev pub Enter : Slots → List Effect → Type 0
  Enter s [] = Unit {0}
  Enter s (e ∷ es) = Placed s e × Each Quiet es

  pub entering-append : (es fs : List Effect) → entering (es ++ fs) ≡ entering es ++ entering fs
  entering-append [] fs = refl
  entering-append (e ∷ es) fs = ap (λ vs. entering_of e ++ vs) (entering-append es fs) ∙ sym (append_assoc (entering_of e) (entering es) (entering fs))

  quiet-none : (e : Effect) → Quiet e → entering_of e ≡ []
  quiet-none (OnReadable j (Enqueue v)) q = rw q refl
  quiet-none (OnTransform u (names.Enqueue v)) q = rw q refl
  quiet-none _ q = refl

  pub quiet-entering : (es : List Effect) → Each Quiet es → entering es ≡ []
  quiet-entering [] q = refl
  quiet-entering (e ∷ es) q = rw (quiet-none e q.0, quiet-entering es q.1) refl

  refuse : {A : Type 0} (b : Bool) → b ≡ false → b ≡ true → A
  refuse b e f = cc

  quiet-placed : (s : Slots) (e : Effect) → Quiet e → Placed s e
  quiet-placed s (OnReadable j (Enqueue v)) q = λ e. refuse (is_same r j) q e
  quiet-placed s (OnTransform u (names.Enqueue v)) q = λ e. refuse (is_same_transform t u) q e
  quiet-placed s _ q = tt

  pub quiet-enter : (s : Slots) (es : List Effect) → Each Quiet es → Enter s es
  quiet-enter s [] q = tt
  quiet-enter s (e ∷ es) q = (quiet-placed s e q.0, q.1)

  pub enter-append : (s : Slots) (cs es : List Effect) → Enter s cs → Each Quiet es → Enter s (cs ++ es)
  enter-append s [] es c q = quiet-enter s es q
  enter-append s (c ∷ cs) es k q = (k.0, each-append Quiet cs es k.1 q)

  -- what an effect causes, and how it goes together with what enters

  pub record Goes (e : Effect) (s z : Slots) (cs : List Effect) : Type 0 where
    pub enter : Enter z cs
    pub even : entering_of e ++ effect_enqueued t e s ≡ (effect_flow r e s).entered ++ entering cs

  -- effects other than enqueues and the transform algorithm

  abbrev IsOther : Effect → Type 0
  IsOther (OnReadable j (Enqueue v)) = ⊥
  IsOther (OnTransform u operation) = ⊥
  IsOther (OnTee u operation) = ⊥
  IsOther (OnPort u operation) = ⊥
  IsOther _ = Unit {0}

  pipe-quiet : (p : PipeId) (source dest : StreamId) (e : Effect) → PipeCauses p source dest e → Quiet e
  pipe-quiet p source dest (OnReadable j (Enqueue v)) c = absurd c
  pipe-quiet p source dest (OnTransform u (names.Enqueue v)) c = absurd c
  pipe-quiet p source dest _ c = tt

  readable-quiet : (j : StreamId) (operation : ReadableOperation) → Causes Quiet (OnReadable j operation)
  readable-quiet j operation = record { pull = tt; cancel = λ c p. tt; chunk = λ c v. tt; close = λ c. tt; error = λ c e. tt }

  quiet-causes : (e : Effect) → IsOther e → Causes Quiet e
  quiet-causes (OnReadable j operation) n = readable-quiet j operation
  quiet-causes (Byte j operation) n = record { readable = record { pull = tt; cancel = λ c p. tt; chunk = λ c v. tt; close = λ c. tt; error = λ c e. tt }; close_with = λ c b. tt }
  quiet-causes (OnWritable j operation) n = record { write = tt; close = tt; abort = λ c p. tt; hand_on = λ v. tt; take = λ v u d. tt; post = λ v u d. tt }
  quiet-causes (StartAlgorithm j step start) n = (λ g u. tt, λ c u. tt)
  quiet-causes (PullAlgorithm j) n = (λ c u. tt, (λ y u. tt, (λ k. tt, (λ u. tt, λ q. tt))))
  quiet-causes (CancelAlgorithm j c p) n = (λ c u. tt, (λ y u. tt, (λ k half u. tt, λ y u. tt)))
  quiet-causes (WriteAlgorithm j) n = (tt, (λ y u. tt, λ z u. tt))
  quiet-causes (CloseAlgorithm j) n = (λ c u. tt, (λ y u. tt, λ z u. tt))
  quiet-causes (AbortAlgorithm j c p) n = (λ c u. tt, (λ y u. tt, λ z u. tt))
  quiet-causes (OnPipe p operation) n = pipe-quiet p
  quiet-causes (OnSignal a (Trigger c)) n = λ p. tt
  quiet-causes (OnSignal a (Add p)) n = tt
  quiet-causes (OnSignal a (Forget p)) n = tt
  quiet-causes (OnTransform u operation) n = absurd n
  quiet-causes (OnTee u operation) n = absurd n
  quiet-causes (OnPort u operation) n = absurd n
  quiet-causes (ChunkSteps j (Promise p) v) n = tt
  quiet-causes (ChunkSteps j (PipeRequest p) v) n = tt
  quiet-causes (ChunkSteps j (TeeRequest k) v) n = tt
  quiet-causes (CloseSteps j (Promise p)) n = tt
  quiet-causes (CloseStepsWith j (Promise p) b) n = tt
  quiet-causes (CloseSteps j (PipeRequest p)) n = tt
  quiet-causes (CloseSteps j (TeeRequest k)) n = tt
  quiet-causes (CloseStepsWith j (PipeRequest p) b) n = tt
  quiet-causes (CloseStepsWith j (TeeRequest k) b) n = tt
  quiet-causes (ErrorSteps j (Promise p) e) n = tt
  quiet-causes (ErrorSteps j (PipeRequest p) e) n = tt
  quiet-causes (ErrorSteps j (TeeRequest k) e) n = tt
  quiet-causes _ n = tt

  by_place : (j : StreamId) (f : Flow) → f.entered ≡ [] → (if is_same r j then f else no_flow).entered ≡ []
  by_place j f e = either (λ (g : Flow). g.entered ≡ []) (is_same r j) f no_flow (λ same. e) (λ other. refl)

  other-enters : (e : Effect) (s : Slots) → IsOther e → (effect_flow r e s).entered ≡ []
  other-enters (OnReadable j (Enqueue v)) s n = absurd n
  other-enters (OnReadable j operation) s n = by_place j (operation_flow operation (readable_at j s)) refl
  other-enters (ChunkSteps j request v) s n = by_place j _ refl
  other-enters _ s n = refl

  other-told : (e : Effect) (s : Slots) → IsOther e → entering_of e ++ effect_enqueued t e s ≡ []
  other-told (OnReadable j (Enqueue v)) s n = absurd n
  other-told (OnTransform u operation) s n = absurd n
  other-told (OnTee u operation) s n = absurd n
  other-told (OnPort u operation) s n = absurd n
  other-told _ s n = refl

  other-goes : (e : Effect) (s : Slots) → IsOther e → Goes e s (row e s).slots (row e s).caused
  other-goes e s n =
      let q : Each Quiet (row e s).caused = row-causes Quiet e s (quiet-causes e n) in
      record {
        enter = quiet-enter (row e s).slots (row e s).caused q;
        even = other-told e s n ∙ sym (rw (other-enters e s n, quiet-entering (row e s).caused q) refl);
      }

  -- an enqueue

  enqueue-even : (same can : Bool) (v : Value) → (same ≡ true → can ≡ true) → (if same then v ∷ [] else []) ++ [] ≡ (if same then (if can then record no_flow { entered = v ∷ [] } else no_flow) else no_flow).entered ++ []
  enqueue-even true can v k = rw (k refl) refl
  enqueue-even false can v k = refl

  enqueue-goes : (j : StreamId) (v : Value) (s : Slots) → Placed s (OnReadable j (Enqueue v)) → Goes (OnReadable j (Enqueue v)) s (row (OnReadable j (Enqueue v)) s).slots (row (OnReadable j (Enqueue v)) s).caused
  enqueue-goes j v s p =
      let e : Effect = OnReadable j (Enqueue v) in
      let q : Each Quiet (row e s).caused = row-causes Quiet e s (readable-quiet j (Enqueue v)) in
      let can : is_same r j ≡ true → can_close_or_enqueue (readable_at j s) ≡ true = λ f. rw (same_id r j f) at (p f) in
      record {
        enter = quiet-enter (row e s).slots (row e s).caused q;
        even = rw (quiet-entering (row e s).caused q) (enqueue-even (is_same r j) (can_close_or_enqueue (readable_at j s)) v can);
      }

  -- an operation of a transform stream

  -- the stream is the readable half of the transform stream
  abbrev pub Reads : Slots → Type 0
  Reads s = (x : TransformShape) × ((slice_get (transform_shapes s) t.0 ≡ Some x) × (x.readable ≡ r))

  pub half-shape : (s : Slots) → Halved s → Reads s → slice_get (stream_shapes s) r.0 ≡ Some (ReadableOf (HalfOf t))
  half-shape s halved h = rw (← h.1.1) (halved.halves t h.0 h.1.0).0

  -- and so it has a default controller
  pub reads-default : (s : Slots) → Halved s → Reads s → has_byte r s ≡ false
  reads-default s halved h = bytes-told s.streams r.0 ∙ rw (half-shape s halved h) refl

  pub not-bytes : (s : Slots) (j : StreamId) → Halved s → Reads s → has_byte j s ≡ true → is_same r j ≡ false
  not-bytes s j halved h is = by (is_same r j) refl
    where
      by : (b : Bool) → b ≡ is_same r j → is_same r j ≡ false
      by false e = sym e
      by true e =
          let none = reads-default s halved h in
          let yes : has_byte r s ≡ true = rw (same_id r j (sym e)) is in absurd (cc)

  -- an operation of a tee

  tee-quiet : (s : Slots) (u : TeeId) (x : tee.Slots) → Halved s → Reads s → slice_get s.tees u.0 ≡ Some x → (e : Effect) → TeeCauses u x.source x.branch1 x.branch2 e → Quiet e
  tee-quiet s u x halved h at (OnReadable j (Enqueue v)) c = not-branch s r t u x j halved (half-shape s halved h) at c
  tee-quiet s u x halved h at (OnTransform y operation) c = absurd c
  tee-quiet s u x halved h at _ c = tt

  tee-goes : (u : TeeId) (operation : TeeOperation) (s : Slots) → Halved s → Reads s → Goes (OnTee u operation) s (row (OnTee u operation) s).slots (row (OnTee u operation) s).caused
  tee-goes u operation s halved h =
      let q : Each Quiet (row (OnTee u operation) s).caused = tee-caused Quiet u operation s (λ x at e c. tee-quiet s u x halved h at e c) in
      record {
        enter = quiet-enter (row (OnTee u operation) s).slots (row (OnTee u operation) s).caused q;
        even = sym (quiet-entering (row (OnTee u operation) s).caused q);
      }

  -- and one of a port

  port-quiet : (s : Slots) (u : PortId) (x : cross.Slots) → Halved s → Ended s → Reads s → slice_get s.ports u.0 ≡ Some x → (e : Effect) → PortCauses u x.stream e → Quiet e
  port-quiet s u x halved ended h at (OnReadable j (Enqueue v)) c = not-end s r t u x j ended (half-shape s halved h) at c
  port-quiet s u x halved ended h at (OnTransform y operation) c = absurd c
  port-quiet s u x halved ended h at _ c = tt

  port-goes : (u : PortId) (operation : PortOperation) (s : Slots) → Halved s → Ended s → Reads s → Goes (OnPort u operation) s (row (OnPort u operation) s).slots (row (OnPort u operation) s).caused
  port-goes u operation s halved ended h =
      let q : Each Quiet (row (OnPort u operation) s).caused = port-caused Quiet u operation s (λ x at e c. port-quiet s u x halved ended h at e c) in
      record {
        enter = quiet-enter (row (OnPort u operation) s).slots (row (OnPort u operation) s).caused q;
        even = sym (quiet-entering (row (OnPort u operation) s).caused q);
      }

  self : (k : ℕ) → nat_eq k k ≡ true
  self k = grind arith

  no-other : (s : Slots) (u : TransformId) (y : transform.Slots) → Halved s → Reads s → slice_get s.transforms u.0 ≡ Some y → is_same_transform t u ≡ false → is_same r y.readable ≡ true → {A : Type 0} → A
  no-other s u y halved h is n same =
      let mine = half-shape s halved h in
      let other = (halved.halves u (transform_shape y) (map-there transform_shape s.transforms u.0 y is)).0 in
      let at : r ≡ y.readable = same_id r y.readable same in
      let both : ◌≡◌ {A = Option StreamShape} (Some (ReadableOf (HalfOf t))) (Some (ReadableOf (HalfOf u))) = sym mine ∙ (ap (λ (k : StreamId). slice_get (stream_shapes s) k.0) at ∙ other) in
      let one : t ≡ u = cc in
      let yes : is_same_transform t u ≡ true = rw (← one) (self t.0) in absurd (cc)

  pub apart : (s : Slots) (u : TransformId) (y : transform.Slots) → Halved s → Reads s → slice_get s.transforms u.0 ≡ Some y → is_same_transform t u ≡ false → is_same r y.readable ≡ false
  apart s u y halved h is n = by (is_same r y.readable) refl
    where
      by : (b : Bool) → b ≡ is_same r y.readable → is_same r y.readable ≡ false
      by false e = sym e
      by true e = no-other s u y halved h is n (sym e)

  pub mine : (s : Slots) (u : TransformId) (y : transform.Slots) → Reads s → slice_get s.transforms u.0 ≡ Some y → is_same_transform t u ≡ true → (y.readable ≡ r) × (transform_at t s ≡ y)
  mine s u y h is same =
      let at : t.0 ≡ u.0 = eq_numbers t.0 u.0 same in
      let there : slice_get s.transforms t.0 ≡ Some y = rw at is in
      let shape = map-there transform_shape s.transforms t.0 y there in
      let both : ◌≡◌ {A = Option TransformShape} (Some h.0) (Some (transform_shape y)) = sym h.1.0 ∙ shape in
      let one : h.0 ≡ transform_shape y = cc in
      (sym (ap (λ (x : TransformShape). x.readable) one) ∙ h.1.1, ap as_transform there)

  absent : (s : Slots) (u : TransformId) → Reads s → slice_get s.transforms u.0 ≡ None → is_same_transform t u ≡ true → {A : Type 0} → A
  absent s u h is same =
      let at : t.0 ≡ u.0 = eq_numbers t.0 u.0 same in
      none-there s.transforms u.0 h.0 is (ap (slice_get (transform_shapes s)) (sym at) ∙ h.1.0)
    where
      none-there : (ts : List transform.Slots) (k : ℕ) (x : TransformShape) → slice_get ts k ≡ None → slice_get (map transform_shape ts) k ≡ Some x → {A : Type 0} → A
      none-there [] k x e f = cc
      none-there (y ∷ ys) zero x e f = cc
      none-there (y ∷ ys) (suc k) x e f = none-there ys k x e f

  abbrev After : (TransformId → TransformOperation → Slots → Type 0)
  After u operation s = (o : Option transform.Slots) → slice_get s.transforms u.0 ≡ o → Halved s → Reads s → Placed s (OnTransform u operation)
      → let d = on_transform_at (λ halves. transform_operation u halves operation) u s o in Goes (OnTransform u operation) s d.slots d.caused

  -- it was asked to enqueue

  enqueued-by : (s z : Slots) (u : TransformId) (v : Value) (y : transform.Slots) (same : Bool) → same ≡ is_same_transform t u → z.streams ≡ s.streams → slice_get s.transforms u.0 ≡ Some y → Halved s → Reads s → (same ≡ true → Can s)
      → Enter z (OnReadable y.readable (Enqueue v) ∷ OnTransform u names.Enqueued ∷ []) × ((if same then v ∷ [] else []) ++ [] ≡ entering (OnReadable y.readable (Enqueue v) ∷ OnTransform u names.Enqueued ∷ []))
  enqueued-by s z u v y true e streams is halved h can =
      let m = mine s u y h is (sym e) in
      ((λ here. rw streams (can refl), (tt, tt)), rw (m.0, is_same-refl r) refl)
  enqueued-by s z u v y false e streams is halved h can =
      let n = apart s u y halved h is (sym e) in
      ((λ here. refuse (is_same r y.readable) n here, (tt, tt)), rw n refl)

  enqueue-half : (u : TransformId) (v : Value) (s : Slots) → After u (names.Enqueue v) s
  unfolding transform.enqueue
  enqueue-half u v s None is halved h p = record { enter = tt; even = by (is_same_transform t u) refl }
    where
      by : (same : Bool) → same ≡ is_same_transform t u → (if same then v ∷ [] else []) ++ [] ≡ []
      by false e = refl
      by true e = absent s u h is (sym e)
  enqueue-half u v s (Some y) is halved h p =
      let k = enqueued-by s (on_transform_at (λ halves. transform_operation u halves (names.Enqueue v)) u s (Some y)).slots u v y (is_same_transform t u) refl refl is halved h p in
      record { enter = k.0; even = k.1 }

  -- its transform algorithm is performed

  identity-by : (s z : Slots) (u : TransformId) (v : Value) (d : PromiseId) (y : transform.Slots) (a : transform.Acts) (same can : Bool) → same ≡ is_same_transform t u → can ≡ can_close_or_enqueue (readable_at y.readable s) → a.slots ≡ y → z.streams ≡ s.streams
      → slice_get s.transforms u.0 ≡ Some y → Halved s → Reads s
      → Enter z (transform.transform_identity u v d a can) × ((if same && can then v ∷ [] else []) ≡ entering (transform.transform_identity u v d a can))
  identity-by s z u v d y a true true e f q streams is halved h =
      let m = mine s u y h is (sym e) in
      rw q ((λ here. rw streams (rw m.0 at (sym f)), (tt, (tt, tt))), rw (m.0, is_same-refl r) refl)
  identity-by s z u v d y a false true e f q streams is halved h =
      let n = apart s u y halved h is (sym e) in
      rw q ((λ here. refuse (is_same r y.readable) n here, (tt, (tt, tt))), rw n refl)
  identity-by s z u v d y a true false e f q streams is halved h = ((tt, tt), refl)
  identity-by s z u v d y a false false e f q streams is halved h = ((tt, tt), refl)

  chunk-by : (s z : Slots) (u : TransformId) (v : Value) (d : PromiseId) (y : transform.Slots) (a : transform.Acts) (kind : Kind) → kind ≡ y.kind → a.slots ≡ y → z.streams ≡ s.streams → slice_get s.transforms u.0 ≡ Some y → Halved s → Reads s
      → Enter z (transform.transform_by u (halves_at y s) v d a kind) × ([] ++ effect_enqueued t (OnTransform u (names.TransformChunk v d)) s ≡ entering (transform.transform_by u (halves_at y s) v d a kind))
  chunk-by s z u v d y a HostKind k q streams is halved h = ((tt, tt), by (is_same_transform t u) refl)
    where
      by : (same : Bool) → same ≡ is_same_transform t u → (if same && enqueues t s then v ∷ [] else []) ≡ []
      by false e = refl
      by true e = let m = mine s u y h is (sym e) in rw (m.1, ← k) refl
  chunk-by s z u v d y a Identity k q streams is halved h =
      let b = identity-by s z u v d y a (is_same_transform t u) (can_close_or_enqueue (readable_at y.readable s)) refl refl q streams is halved h in
      (b.0, by (is_same_transform t u) refl ∙ b.1)
    where
      by : (same : Bool) → same ≡ is_same_transform t u → (if same && enqueues t s then v ∷ [] else []) ≡ (if same && can_close_or_enqueue (readable_at y.readable s) then v ∷ [] else [])
      by false e = refl
      by true e = let m = mine s u y h is (sym e) in rw (m.1, ← k) refl

  chunk-half : (u : TransformId) (v : Value) (d : PromiseId) (s : Slots) → After u (names.TransformChunk v d) s
  unfolding transform.transform_chunk
  chunk-half u v d s None is halved h p = record { enter = tt; even = by (is_same_transform t u) refl }
    where
      by : (same : Bool) → same ≡ is_same_transform t u → (if same && enqueues t s then v ∷ [] else []) ≡ []
      by false e = refl
      by true e = absent s u h is (sym e)
  chunk-half u v d s (Some y) is halved h p =
      let k = chunk-by s (on_transform_at (λ halves. transform_operation u halves (names.TransformChunk v d)) u s (Some y)).slots u v d y (record { slots = y; out = found s }) y.kind refl refl refl is halved h in
      record { enter = k.0; even = k.1 }

  -- another operation

  IsMoving : TransformOperation → Type 0
  IsMoving (names.Enqueue v) = Unit {0}
  IsMoving (names.TransformChunk v d) = Unit {0}
  IsMoving _ = ⊥

  resting-quiet : (u : TransformId) (halves : Halves) (operation : TransformOperation) (a : transform.Acts) → (IsMoving operation → ⊥) → a.out.effects ≡ [] → Each Quiet (transform_operation u halves operation a).out.effects
  unfolding IsMoving transform.unblock transform.transform_error transform.terminate transform.enqueued transform.sink_write transform.write_goes_on transform.source_pull transform.set_backpressure transform.sink_close transform.sink_abort transform.source_cancel transform.flush_settled transform.abort_settled transform.cancel_settled
  resting-quiet u halves (names.TransformChunk v d) a n none = absurd (n tt)
  resting-quiet u halves (names.Enqueue v) a n none = absurd (n tt)
  resting-quiet u halves (names.SinkWrite w) a n none = grind (arith, none)
  resting-quiet u halves (names.WriteGoesOn d) a n none = grind (arith, none)
  resting-quiet u halves names.Enqueued a n none = grind (arith, none)
  resting-quiet u halves (names.Error e) a n none = grind (arith, none)
  resting-quiet u halves names.Unblock a n none = grind (arith, none)
  resting-quiet u halves names.Terminate a n none = grind (arith, none)
  resting-quiet u halves (names.SourcePull w) a n none = grind (arith, none)
  resting-quiet u halves (names.SinkClose w) a n none = grind (arith, none)
  resting-quiet u halves (names.SinkAbort c w) a n none = grind (arith, none)
  resting-quiet u halves (names.SourceCancel c w) a n none = grind (arith, none)
  resting-quiet u halves (names.FlushSettled p o) a n none = grind (arith, none)
  resting-quiet u halves (names.AbortSettled p c o) a n none = grind (arith, none)
  resting-quiet u halves (names.CancelSettled p c o) a n none = grind (arith, none)

  resting-half : (u : TransformId) (operation : TransformOperation) (s : Slots) → (IsMoving operation → ⊥) → entering_of (OnTransform u operation) ++ effect_enqueued t (OnTransform u operation) s ≡ [] → After u operation s
  resting-half u operation s n told None is halved h p = record { enter = tt; even = told }
  resting-half u operation s n told (Some y) is halved h p =
      let a : transform.Acts = record { slots = y; out = found s } in
      let b : transform.Acts = transform_operation u (halves_at y s) operation a in
      let q = resting-quiet u (halves_at y s) operation a n refl in
      record { enter = quiet-enter (on_transform_at (λ halves. transform_operation u halves operation) u s (Some y)).slots b.out.effects q; even = told ∙ sym (quiet-entering b.out.effects q) }

  transform-half : (u : TransformId) (operation : TransformOperation) (s : Slots) → After u operation s
  unfolding IsMoving
  transform-half u (names.Enqueue v) s = enqueue-half u v s
  transform-half u (names.TransformChunk v d) s = chunk-half u v d s
  transform-half u operation s = resting-half u operation s (λ k. k) refl

  pub row-goes : (e : Effect) (s : Slots) → Halved s → Ended s → Reads s → Placed s e → Goes e s (row e s).slots (row e s).caused
  unfolding row
  row-goes (OnReadable j (Enqueue v)) s halved ended h p = enqueue-goes j v s p
  row-goes (OnTransform u operation) s halved ended h p = transform-half u operation s (slice_get s.transforms u.0) refl halved h p
  row-goes (OnTee u operation) s halved ended h p = tee-goes u operation s halved h
  row-goes (OnPort u operation) s halved ended h p = port-goes u operation s halved ended h
  row-goes e s halved ended h p = other-goes e s tt
