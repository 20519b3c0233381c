-- What the readable half of an identity transform stream takes in in a step: the chunks with which its transform algorithm is performed, until it can
-- take nothing more.
use Rattle.std.proofs.Common.{◌≡◌, ◌⊎◌, inl, inr, ℕ, zero, suc, ◌+◌, ◌<◌, Bool, true, false, ◌&&◌, if◌then◌else◌, List, [], ◌∷◌, ◌++◌, map, Option, Some, None, slice_get, refl, sym, ap, subst, ◌∙◌, arith, append_assoc, append-nil}
use Rattle.ws_value.specs.declared.{ids.StreamId.{StreamId}, value.Value.{Value}}
use Rattle.ws_steps.specs.declared.effects.Effect.{Effect}
use Rattle.ws_steps.specs.declared.effects.Effect.TheVariants.{Readable as OnReadable, Byte as OnByte, Transform as OnTransform, ChunkSteps}
use Rattle.ws_steps.specs.declared.readable.{ReadableOperation.{ReadableOperation}, ReadableOperation.TheVariants.{Enqueue, Close}}
use Rattle.ws_steps.specs.declared.transform.{Kind.TheVariants.{Identity}, TransformId.{TransformId}, TransformOperation.TheVariants.{TransformChunk}}
use Rattle.ws_steps.specs.Histories.{is_same, along}
use Rattle.ws_steps.specs.Operations.{readable_operation}
use Rattle.ws_steps.specs.Readable as readable
use Rattle.ws_steps.specs.Readable.{can_close_or_enqueue}
use Rattle.ws_steps.specs.ReadableHistory.{Flow, no_flow, flow_then, effect_flow}
use Rattle.ws_steps.specs.Slots.{Slots, Stream, ReadableStream, ByteStream, WritableStream, Done, has_readable, has_byte, readable_at, as_readable, is_readable_stream, transform_at, as_transform, on_readable}
use Rattle.ws_steps.specs.Transform as transform
use Rattle.ws_steps.specs.Turns.{row, performed, moments}
use Rattle.ws_flow.specs.Told.{Open, Closed, Told, then_told, IsFront}
use Rattle.ws_flow.proofs.Told.{then_assoc, then_empty}
use Rattle.ws_laws.proofs.Shapes.{TransformShape, transform_shapes, transform_shape, row-transform_shapes}
use Rattle.ws_laws.proofs.Tables.{either, same_id, is_same-refl, readable_acts, on_readable-same, on_source-readable}
use Rattle.ws_laws.proofs.Walker.{IsHistory, performed-goes}
use Rattle.ws_transform_laws.specs.TransformHistory.{is_same_transform, effect_transformed, enqueues, effect_enqueued, effect_closings}
use Rattle.ws_transform_laws.proofs.Shutting.{can, row-shut, can-before}
use Rattle.ws_transform_laws.proofs.Told.{along-map}
use Rattle.ws_link_laws.specs.Link.{OfSource, silence}
use Rattle.ws_identity_laws.specs.Passing.{effect_takes}
use Rattle.ws_laws.proofs.StaysBytes.{row-byte}
use Rattle.ws_link_laws.specs.Entering.{entered}
use Rattle.ws_identity_laws.proofs.Takes.{default-takes, default-none}

at-shape : (ts : List transform.Slots) (k : ℕ) (x : TransformShape) → slice_get (map transform_shape ts) k ≡ Some x → transform_shape (as_transform (slice_get ts k)) ≡ x
at-shape [] k x e = cc
at-shape (y ∷ ys) zero x e = cc
at-shape (y ∷ ys) (suc k) x e = at-shape ys k x e

close-shuts : (r : StreamId) (a : readable.Acts) → can_close_or_enqueue (readable_operation r Close a).slots ≡ false
unfolding readable.controller_close readable.close_if_empty readable.stream_close
close-shuts r a = grind arith

-- a stream that can take something is there
pub takes-there : (o : Option Stream) → can_close_or_enqueue (as_readable o) ≡ true → is_readable_stream o ≡ true
takes-there None e = cc
takes-there (Some (ReadableStream r)) e = refl
takes-there (Some (ByteStream b)) e = cc
takes-there (Some (WritableStream w)) e = cc

-- transform stream t is an identity, and stream r its readable half
module _ (t : TransformId) (r : StreamId) where
  abbrev pub Passes : Slots → Type 0
  Passes s = (x : TransformShape) × ((slice_get (transform_shapes s) t.0 ≡ Some x) × ((x.readable ≡ r) × (x.kind ≡ Identity)))

  -- it enqueues what it transforms, as long as its readable half can take it
  enqueues-can : (s : Slots) → Passes s → enqueues t s ≡ can r s
  enqueues-can s h =
      let a = at-shape s.transforms t.0 h.0 h.1.0 in
      let kind : (transform_at t s).kind ≡ Identity = ap (λ (x : TransformShape). x.kind) a ∙ h.1.1.1 in
      let half : (transform_at t s).readable ≡ r = ap (λ (x : TransformShape). x.readable) a ∙ h.1.1.0 in
      rw (kind, half) refl

  -- one effect

  record Taken : Type 0 where
    takes : Told Value
    entered : List Value
    closings : ℕ
    enqueued : List Value
    transformed : List Value

  abbrev nothing : Taken
  nothing = record { takes = silence; entered = []; closings = 0; enqueued = []; transformed = [] }

  abbrev then_taken : Taken → Taken → Taken
  then_taken f g =
      record {
        takes = then_told f.takes g.takes;
        entered = f.entered ++ g.entered;
        closings = f.closings + g.closings;
        enqueued = f.enqueued ++ g.enqueued;
        transformed = f.transformed ++ g.transformed;
      }

  plus-none : (n : ℕ) → n + 0 ≡ n
  plus-none n = omega arith

  none-plus : (n : ℕ) → 0 + n ≡ n
  none-plus n = omega arith

  plus-assoc : (a b c : ℕ) → (a + b) + c ≡ a + (b + c)
  plus-assoc a b c = omega arith

  are_taken : IsHistory nothing then_taken
  are_taken = record {
    left = λ h k. record { takes = h.takes; entered = h.entered; closings = none-plus h.closings k; enqueued = h.enqueued; transformed = h.transformed };
    right = λ h k. record { takes = then_empty h.takes k; entered = append-nil h.entered k; closings = plus-none h.closings k; enqueued = append-nil h.enqueued k; transformed = append-nil h.transformed k };
    assoc = λ f g h k. record {
      takes = then_assoc f.takes g.takes h.takes k;
      entered = append_assoc f.entered g.entered h.entered k;
      closings = plus-assoc f.closings g.closings h.closings k;
      enqueued = append_assoc f.enqueued g.enqueued h.enqueued k;
      transformed = append_assoc f.transformed g.transformed h.transformed k;
    };
  }

  abbrev taken_told : Effect → Slots → Taken
  taken_told e s = record { takes = effect_takes r e s; entered = (effect_flow r e s).entered; closings = effect_closings r e s; enqueued = effect_enqueued t e s; transformed = effect_transformed t e s }

  -- it is open, or came to its end, and then the stream can take nothing
  abbrev pub Fine : Told Value → ℕ → Slots → Type 0
  Fine a n z = (a.mark ≡ Open) ⊎ ((a.mark ≡ Closed) × ((can r z ≡ false) × (0 < n)))

  pub record One (e : Effect) (s : Slots) : Type 0 where
    pub items : (effect_takes r e s).items ≡ (effect_flow r e s).entered
    pub fine : Fine (effect_takes r e s) (effect_closings r e s) (row e s).slots
    pub shut : can r s ≡ false → effect_takes r e s ≡ silence

  -- an effect that brings nothing
  quiet-one : (e : Effect) (s : Slots) → effect_takes r e s ≡ silence → (effect_flow r e s).entered ≡ [] → One e s
  quiet-one e s a b = record { items = ap (λ (x : Told Value). x.items) a ∙ sym b; fine = inl (ap (λ (x : Told Value). x.mark) a); shut = λ n. a }

  -- an operation of another stream
  other-one : (j : StreamId) (operation : ReadableOperation) (s : Slots) → is_same r j ≡ false → One (OnReadable j operation) s
  other-one j operation s n = quiet-one (OnReadable j operation) s (rw n refl) (rw n refl)

  -- of the half, which can take nothing
  shut-one : (operation : ReadableOperation) (s : Slots) → has_byte r s ≡ false → can r s ≡ false → (effect_takes r (OnReadable r operation) s ≡ silence) × ((effect_flow r (OnReadable r operation) s).entered ≡ [])
  shut-one (Enqueue v) s none n = let same = is_same-refl r in (default-takes r (Enqueue v) s none ∙ rw n refl, rw (same, n) refl)
  shut-one operation s none n = let same = is_same-refl r in (default-takes r operation s none ∙ rw n refl, rw same refl)

  close-shut : (s : Slots) → has_byte r s ≡ false → can r s ≡ true → can r (row (OnReadable r Close) s).slots ≡ false
  unfolding row
  close-shut s none c =
      let there : has_readable r s ≡ true = takes-there (slice_get s.streams r.0) c in
      let at : readable_at r (on_readable (readable_operation r Close) r s).slots ≡ (readable_operation r Close (readable_acts r s)).slots = ap as_readable (on_readable-same (readable_operation r Close) r s there) in
      ap (λ (d : Done). can r d.slots) (on_source-readable Close r s none) ∙ (ap (λ x. can_close_or_enqueue x) at ∙ close-shuts r (readable_acts r s))

  opens : (operation : ReadableOperation) (s : Slots) → has_byte r s ≡ false → can r s ≡ true → effect_takes r (OnReadable r operation) s ≡ entered OfSource operation
  opens operation s none c = default-takes r operation s none ∙ rw c refl

  -- and which can
  open-one : (operation : ReadableOperation) (s : Slots) → has_byte r s ≡ false → can r s ≡ true → One (OnReadable r operation) s
  open-one (Enqueue v) s none c =
      let same = is_same-refl r in
      let k = opens (Enqueue v) s none c in
      record { items = ap (λ (x : Told Value). x.items) k ∙ rw (same, c) refl; fine = inl (ap (λ (x : Told Value). x.mark) k); shut = λ n. absurd (cc) }
  open-one Close s none c =
      let same = is_same-refl r in
      let k = opens Close s none c in
      record { items = ap (λ (x : Told Value). x.items) k ∙ rw same refl; fine = inr (ap (λ (x : Told Value). x.mark) k, (close-shut s none c, rw same (omega arith))); shut = λ n. absurd (cc) }
  open-one operation s none c = let same = is_same-refl r in quiet-one (OnReadable r operation) s (opens operation s none c) (rw same refl)

  own-one : (operation : ReadableOperation) (s : Slots) → has_byte r s ≡ false → One (OnReadable r operation) s
  own-one operation s none = by (can r s) refl
    where
      by : (b : Bool) → b ≡ can r s → One (OnReadable r operation) s
      by true c = open-one operation s none (sym c)
      by false c = let k = shut-one operation s none (sym c) in quiet-one (OnReadable r operation) s k.0 k.1

  readable-one : (j : StreamId) (operation : ReadableOperation) (s : Slots) → has_byte r s ≡ false → One (OnReadable j operation) s
  readable-one j operation s none = by (is_same r j) refl
    where
      by : (same : Bool) → same ≡ is_same r j → One (OnReadable j operation) s
      by false n = other-one j operation s (sym n)
      by true n = let is : r ≡ j = same_id r j (sym n) in subst (λ (k : StreamId). One (OnReadable k operation) s) is (own-one operation s none)

  -- of a half that has a default controller
  pub each-one : (e : Effect) (s : Slots) → has_byte r s ≡ false → One e s
  each-one (OnReadable j operation) s none = readable-one j operation s none
  each-one (OnByte j operation) s none = quiet-one (OnByte j operation) s (default-none r operation j s none) refl
  each-one (ChunkSteps j request v) s none = quiet-one (ChunkSteps j request v) s refl (either (λ (f : Flow). f.entered ≡ []) (is_same r j) (record no_flow { given = v ∷ [] }) no_flow (λ e. refl) (λ e. refl))
  each-one e s none = quiet-one e s refl refl

  -- what it enqueues of what it transforms
  passed : (e : Effect) (s : Slots) → Passes s → (can r s ≡ true → effect_enqueued t e s ≡ effect_transformed t e s) × (can r s ≡ false → effect_enqueued t e s ≡ [])
  passed (OnTransform u (TransformChunk v d)) s h = let k = enqueues-can s h in (λ c. by (k ∙ c) (is_same_transform t u), λ c. by_not (k ∙ c) (is_same_transform t u))
    where
      by : enqueues t s ≡ true → (same : Bool) → (if same && enqueues t s then v ∷ [] else []) ≡ (if same then v ∷ [] else [])
      by e true = rw e refl
      by e false = refl

      by_not : enqueues t s ≡ false → (same : Bool) → (if same && enqueues t s then v ∷ [] else []) ≡ []
      by_not e true = rw e refl
      by_not e false = refl
  passed e s h = (λ c. refl, λ c. refl)

  -- effects that are performed

  record Takes (h : Taken) (s : Slots) (es : List Effect) : Type 0 where
    half : Passes s
    default : has_byte r s ≡ false
    items : h.takes.items ≡ h.entered
    fine : Fine h.takes h.closings s
    all : can r s ≡ true → h.enqueued ≡ h.transformed
    front : IsFront h.enqueued h.transformed

  front-more : (xs ys vs ws : List Value) → IsFront xs ys → ws ≡ [] → IsFront (xs ++ ws) (ys ++ vs)
  front-more xs ys vs ws (rest, e) n = (rest ++ vs, rw (e, n, append-nil xs) (append_assoc xs rest vs))

  front-same : (xs ys : List Value) → xs ≡ ys → IsFront xs ys
  front-same xs ys e = ([], sym e ∙ sym (append-nil xs))

  fine-next : (a b : Told Value) (n m : ℕ) (s z : Slots) (entered_before entered_now : List Value) → a.items ≡ entered_before → b.items ≡ entered_now → Fine a n s → Fine b m z → (can r s ≡ false → b ≡ silence) → (can r s ≡ false → can r z ≡ false)
      → ((then_told a b).items ≡ entered_before ++ entered_now) × Fine (then_told a b) (n + m) z
  fine-next a b n m s z xs ys e f (inl o) (inl q) shut stays = rw o (rw (e, f) refl, inl q)
  fine-next a b n m s z xs ys e f (inl o) (inr q) shut stays = rw o (rw (e, f) refl, inr (q.0, (q.1.0, let k = q.1.1 in omega (arith, k))))
  fine-next a b n m s z xs ys e f (inr o) g shut stays =
      let none = shut o.1.0 in
      let nil : ys ≡ [] = sym f ∙ ap (λ (x : Told Value). x.items) none in
      let closed = o.0 in
      let some = o.1.1 in
      rw closed (rw (nil, append-nil xs) e, inr (refl, (stays o.1.0, omega (arith, some))))

  row-takes : (h : Taken) (s : Slots) (e : Effect) (es : List Effect) → Takes h s (e ∷ es) → Takes (then_taken h (taken_told e s)) (row e s).slots ((row e s).caused ++ es)
  row-takes h s e es k =
      let one = each-one e s k.default in
      let pass = passed e s k.half in
      let n = fine-next h.takes (effect_takes r e s) h.closings (effect_closings r e s) s (row e s).slots h.entered (effect_flow r e s).entered k.items one.items k.fine one.fine one.shut (row-shut r e s) in
      record {
        half = (k.half.0, (ap (λ (vs : List TransformShape). slice_get vs t.0) (row-transform_shapes e s) ∙ k.half.1.0, k.half.1.1));
        default = row-byte r e s ∙ k.default;
        items = n.0;
        fine = n.1;
        all = λ c. let b = can-before r e s c in let one_ = k.all b in let two = pass.0 b in rw (one_, two) refl;
        front = by (can r s) refl pass;
      }
    where
      by : (b : Bool) → b ≡ can r s → (can r s ≡ true → effect_enqueued t e s ≡ effect_transformed t e s) × (can r s ≡ false → effect_enqueued t e s ≡ []) → IsFront (h.enqueued ++ effect_enqueued t e s) (h.transformed ++ effect_transformed t e s)
      by true c pass = let one_ = k.all (sym c) in let two = pass.0 (sym c) in front-same _ _ (rw (one_, two) refl)
      by false c pass = front-more h.enqueued h.transformed (effect_transformed t e s) (effect_enqueued t e s) k.front (pass.1 (sym c))

  abbrev told_of : Done → Taken
  told_of d = record {
    takes = along silence then_told (effect_takes r) (moments d);
    entered = (along no_flow flow_then (effect_flow r) (moments d)).entered;
    closings = along 0 ◌+◌ (effect_closings r) (moments d);
    enqueued = along [] ◌++◌ (effect_enqueued t) (moments d);
    transformed = along [] ◌++◌ (effect_transformed t) (moments d);
  }

  told-of : (d : Done) → along nothing then_taken taken_told (moments d) ≡ told_of d
  told-of d = λ k. record {
    takes = along-map nothing then_taken silence then_told (λ (h : Taken). h.takes) refl (λ a b. refl) taken_told (moments d) k;
    entered = (along-map nothing then_taken [] ◌++◌ (λ (h : Taken). h.entered) refl (λ a b. refl) taken_told (moments d)
        ∙ sym (along-map no_flow flow_then [] ◌++◌ (λ (f : Flow). f.entered) refl (λ a b. refl) (effect_flow r) (moments d))) k;
    closings = along-map nothing then_taken 0 ◌+◌ (λ (h : Taken). h.closings) refl (λ a b. refl) taken_told (moments d) k;
    enqueued = along-map nothing then_taken [] ◌++◌ (λ (h : Taken). h.enqueued) refl (λ a b. refl) taken_told (moments d) k;
    transformed = along-map nothing then_taken [] ◌++◌ (λ (h : Taken). h.transformed) refl (λ a b. refl) taken_told (moments d) k;
  }

  pub record Took (d : Done) : Type 0 where
    pub items : (along silence then_told (effect_takes r) (moments d)).items ≡ (along no_flow flow_then (effect_flow r) (moments d)).entered
    pub fine : Fine (along silence then_told (effect_takes r) (moments d)) (along 0 ◌+◌ (effect_closings r) (moments d)) (performed d)
    pub all : can r (performed d) ≡ true → along [] ◌++◌ (effect_enqueued t) (moments d) ≡ along [] ◌++◌ (effect_transformed t) (moments d)
    pub front : IsFront (along [] ◌++◌ (effect_enqueued t) (moments d)) (along [] ◌++◌ (effect_transformed t) (moments d))

  pub performed-took : (d : Done) → Passes d.slots → has_byte r d.slots ≡ false → Took d
  performed-took d half default =
      let all = along nothing then_taken taken_told (moments d) in
      let k = subst (λ (h : Taken). Takes h (performed d) []) (are_taken.left all ∙ told-of d)
      (performed-goes nothing then_taken are_taken taken_told Takes row-takes nothing d (record { half = half; default = default; items = refl; fine = inl refl; all = λ c. refl; front = ([], refl) })) in
      record { items = k.items; fine = k.fine; all = k.all; front = k.front }

  -- where it can take nothing

  record Shut (h : Told Value) (s : Slots) (es : List Effect) : Type 0 where
    shut : can r s ≡ false
    default : has_byte r s ≡ false
    none : h ≡ silence

  are_told : IsHistory {H = Told Value} silence then_told
  are_told = record { left = λ h. refl; right = then_empty; assoc = then_assoc }

  pub performed-shut : (d : Done) → has_byte r d.slots ≡ false → can r d.slots ≡ false → (along silence then_told (effect_takes r) (moments d) ≡ silence) × (can r (performed d) ≡ false)
  performed-shut d default n =
      let k = performed-goes silence then_told are_told (effect_takes r) Shut
      (λ h s e es k. record { shut = row-shut r e s k.shut; default = row-byte r e s ∙ k.default; none = let a = k.none in let b = (each-one e s k.default).shut k.shut in rw (a, b) refl }) silence d (record { shut = n; default = default; none = refl }) in
      (k.none, k.shut)

  record Idle (h : List Value) (s : Slots) (es : List Effect) : Type 0 where
    shut : can r s ≡ false
    half : Passes s
    none : h ≡ []

  are_lists : IsHistory {H = List Value} [] ◌++◌
  are_lists = record { left = λ vs. refl; right = append-nil; assoc = append_assoc }

  pub performed-idle : (d : Done) → Passes d.slots → can r d.slots ≡ false → along [] ◌++◌ (effect_enqueued t) (moments d) ≡ []
  performed-idle d half n =
      (performed-goes [] ◌++◌ are_lists (effect_enqueued t) Idle
      (λ h s e es k. record {
        shut = row-shut r e s k.shut;
        half = (k.half.0, (ap (λ (vs : List TransformShape). slice_get vs t.0) (row-transform_shapes e s) ∙ k.half.1.0, k.half.1.1));
        none = let a = k.none in let b = (passed e s k.half).1 k.shut in rw (a, b) refl;
      }) [] d (record { shut = n; half = half; none = refl })).none
