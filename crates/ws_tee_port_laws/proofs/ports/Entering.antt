-- What enters the readable end of a port are the chunks that come while it is entangled; until then it takes chunks, or its cancel has begun.
use Rattle.std.proofs.Common.{◌≡◌, Bool, true, false, ◌&&◌, ◌||◌, if◌then◌else◌, List, [], ◌∷◌, ◌++◌, Option, Some, None, Ok, Err, ◌⊎◌, inl, inr, ⊎_elim, slice_get, refl, sym, ap, ◌∙◌, subst, arith}
use Rattle.ws_laws.proofs.Truth.{or_right}
use Rattle.ws_tee_port_laws.proofs.ports.Posting.{is_same_port-refl}
use Rattle.ws_value.specs.declared.ids.PortId.{PortId}
use Rattle.ws_value.specs.declared.ids.PromiseId.{PromiseId}
use Rattle.ws_value.specs.declared.ids.StreamId.{StreamId}
use Rattle.ws_value.specs.declared.ids.TeeId.{TeeId}
use Rattle.ws_value.specs.declared.value.Message.{Message}
use Rattle.ws_value.specs.declared.value.Message.TheVariants.{Pull as PullMessage, Chunk as ChunkMessage, Close as CloseMessage, Error as ErrorMessage}
use Rattle.ws_value.specs.declared.value.Plain.{Plain}
use Rattle.ws_value.specs.declared.value.Value.{Value}
use Rattle.ws_steps.specs.declared.effects.Effect.{Effect}
use Rattle.ws_steps.specs.declared.effects.Effect.TheVariants.{Readable as OnReadable, Byte, Tee as OnTee, Port as OnPort, PullAlgorithm, CancelAlgorithm, ChunkSteps}
use Rattle.ws_steps.specs.declared.effects.Owner.TheVariants.{EndOf}
use Rattle.ws_steps.specs.declared.port.PortOperation.{PortOperation}
use Rattle.ws_steps.specs.declared.port.PortOperation.TheVariants as ports
use Rattle.ws_steps.specs.declared.port.Side.{Side}
use Rattle.ws_steps.specs.declared.port.Side.TheVariants.{Readable as ReadableSide}
use Rattle.ws_steps.specs.declared.readable.ReadableOperation.{ReadableOperation}
use Rattle.ws_steps.specs.declared.readable.ReadableOperation.TheVariants as reads
use Rattle.ws_steps.specs.declared.tee.Half.{Half}
use Rattle.ws_steps.specs.declared.tee.Half.TheVariants.{First}
use Rattle.ws_steps.specs.Cross as cross
use Rattle.ws_steps.specs.Histories.{is_same}
use Rattle.ws_steps.specs.Operations.{port_operation}
use Rattle.ws_steps.specs.PortHistory.{is_same_port}
use Rattle.ws_steps.specs.Readable.{can_close_or_enqueue}
use Rattle.ws_steps.specs.Slots.{Slots, Stream, Done, readable_at, owner_at, clones_at}
use Rattle.ws_steps.specs.Turns.{row}
use Rattle.ws_laws.proofs.Ended.{Ended}
use Rattle.ws_laws.proofs.Halves.{Halved}
use Rattle.ws_laws.proofs.Lists.{Each, each-append}
use Rattle.ws_laws.proofs.Shapes.{ReadableOf, stream_shapes}
use Rattle.ws_laws.proofs.Tables.{either, same_id, is_same-refl}
use Rattle.ws_tee_port_laws.proofs.ports.Once.{by-port}
use Rattle.ws_tee_port_laws.proofs.ports.Posting.{port_acts, Does, post-does, leave-does, close-does, chunk-does}
use Rattle.std.proofs.Common.{append-nil}
use Rattle.ws_steps.specs.PortHistory.{chunk_in, chunks_in}
use Rattle.ws_steps.specs.Operations.{readable_operation}
use Rattle.ws_steps.specs.Readable as readable
use Rattle.ws_steps.specs.ReadableHistory.{effect_flow}
use Rattle.ws_steps.specs.Slots.{as_readable}
use Rattle.ws_laws.proofs.Apart.{IsNoTee, row-streams}
use Rattle.ws_steps.specs.declared.byte.ByteOperation.{ByteOperation}
use Rattle.ws_steps.specs.ReadableHistory.{Flow, no_flow}
use Rattle.ws_tee_port_laws.proofs.ports.Pulls.{bytes-idle}
use Rattle.ws_laws.proofs.Tables.{readable_acts}
use Rattle.ws_laws.proofs.Truth.{false_true}
use Rattle.ws_tee_port_laws.proofs.ports.Once.{row-mine}
use Rattle.ws_tee_port_laws.proofs.ports.OnceModes.{Next, mine-next, other-next}
use Rattle.ws_tee_port_laws.proofs.ports.Posting.{some_of, some_of-append, is_same_port-refl}
use Rattle.ws_tee_port_laws.proofs.ports.Pulls.{row-same, own-slots, own-caused, owned}
use Rattle.ws_tee_port_laws.proofs.ports.Reading.{operation-takes}
use Rattle.ws_tee_port_laws.proofs.ports.Starts.{IsCalm}
use Rattle.ws_tee_port_laws.proofs.ports.Touching.{NoTouch, NoDelivery, row-untouched}
use Rattle.ws_tee_port_laws.proofs.tees.Shutting.{is_ender, operation-open, any_cancels}

module _ (c : PortId) (i : StreamId) where
  -- the values that are about to enter
  abbrev pub comes : Bool → Effect → List Value
  comes live (OnReadable j (reads.Enqueue v)) = if is_same i j then v ∷ [] else []
  comes live (OnPort d (ports.Deliver m)) = if is_same_port c d && live then chunk_in m else []
  comes live e = []

  abbrev pub coming : Bool → List Effect → List Value
  coming live [] = []
  coming live (e ∷ es) = comes live e

  -- its cancel
  abbrev pub leaves_by : Effect → Bool
  leaves_by (CancelAlgorithm j r p) = is_same i j
  leaves_by (OnPort d (ports.Leave r u)) = is_same_port c d
  leaves_by e = false

  -- what may stand first
  abbrev pub HeadFits : cross.Slots → readable.Slots → Effect → Type 0
  HeadFits x r (OnReadable j (reads.Enqueue v)) = is_same i j ≡ true → can_close_or_enqueue r ≡ true
  HeadFits x r (OnReadable j reads.Close) = is_same i j ≡ true → x.live ≡ false
  HeadFits x r (OnReadable j (reads.Error e)) = is_same i j ≡ true → x.live ≡ false
  HeadFits x r (OnPort d (ports.Deliver m)) = is_same_port c d ≡ true → x.live ≡ true → can_close_or_enqueue r ≡ true
  HeadFits x r e = Unit {0}

  -- and behind it stands nothing that touches the stream
  abbrev pub Heads : cross.Slots → readable.Slots → List Effect → Type 0
  Heads x r [] = Unit {0}
  Heads x r (e ∷ es) = HeadFits x r e × Each (NoTouch c i) es

  pub record Enters (taken : List Message) (entered : List Value) (x : cross.Slots) (r : readable.Slots) (es : List Effect) : Type 0 where
    pub enters : entered ++ coming x.live es ≡ chunks_in taken
    pub heads : Heads x r es
    pub live : x.live ≡ true → (can_close_or_enqueue r ≡ true) ⊎ (some_of leaves_by es ≡ true)

  no-coming : (live : Bool) (es : List Effect) → Each (NoTouch c i) es → coming live es ≡ []
  no-coming live [] k = refl
  no-coming live (OnReadable j (reads.Enqueue v) ∷ es) k = rw (k.0) refl
  no-coming live (OnPort d (ports.Deliver m) ∷ es) k = rw (k.0) refl
  no-coming live (e ∷ es) k = refl

  no-heads : (x : cross.Slots) (r : readable.Slots) (es : List Effect) → Each (NoTouch c i) es → Heads x r es
  no-heads x r [] k = tt
  no-heads x r (OnReadable j (reads.Enqueue v) ∷ es) k = (λ e. false_true (is_same i j) e k.0, k.1)
  no-heads x r (OnReadable j reads.Close ∷ es) k = (λ e. false_true (is_same i j) e k.0, k.1)
  no-heads x r (OnReadable j (reads.Error q) ∷ es) k = (λ e. false_true (is_same i j) e k.0, k.1)
  no-heads x r (OnPort d (ports.Deliver m) ∷ es) k = (λ e. false_true (is_same_port c d) e k.0, k.1)
  no-heads x r (e ∷ es) k = (tt, k.1)

  -- where nothing that stands touches it
  pub untouched : (taken : List Message) (entered : List Value) (x : cross.Slots) (r : readable.Slots) (es : List Effect) → entered ≡ chunks_in taken → Each (NoTouch c i) es
      → (x.live ≡ true → (can_close_or_enqueue r ≡ true) ⊎ (some_of leaves_by es ≡ true)) → Enters taken entered x r es
  untouched taken entered x r es e k l = record { enters = rw (no-coming x.live es k, append-nil entered) e; heads = no-heads x r es k; live = l }

  -- its own operations

  or-both : (a b d : Bool) → (b ≡ true → d ≡ true) → a || b ≡ true → a || d ≡ true
  or-both true b d f e = refl
  or-both false b d f e = f e

  cancels-leave : (t : TeeId) (half : Half) (es : List Effect) → Each IsNoTee es → any_cancels t half i es ≡ true → some_of leaves_by es ≡ true
  cancels-leave t half [] n e = cc
  cancels-leave t half (CancelAlgorithm j r p ∷ es) n e = or-both (is_same i j) (any_cancels t half i es) (some_of leaves_by es) (λ k. cancels-leave t half es n.1 k) e
  cancels-leave t half (OnTee u operation ∷ es) n e = absurd n.0
  cancels-leave t half (OnPort d operation ∷ es) n e = or_right (leaves_by (OnPort d operation)) (some_of leaves_by es) (cancels-leave t half es n.1 e)
  cancels-leave t half (f ∷ es) n e = cancels-leave t half es n.1 e

  open-after : (operation : ReadableOperation) (a : readable.Acts) → a.out.effects ≡ [] → is_ender operation ≡ false → can_close_or_enqueue a.slots ≡ true
      → let b : readable.Acts = readable_operation i operation a in (can_close_or_enqueue b.slots ≡ true) ⊎ (some_of leaves_by b.out.effects ≡ true)
  open-after operation a e n o =
      let t : TeeId = record { 0 = 0 } in
      let none = operation-takes IsNoTee i true true (record { pull = λ p. tt; cancel = λ c r p. tt; chunk = λ q v. tt; close = λ q. tt; error = λ q e. tt }) operation a (λ p. refl) (λ p. refl) (rw e tt) in
      ⊎_elim (λ k. inl k) (λ k. inr (cancels-leave t First _ none k)) (operation-open t First i operation a n o)

  -- a port that is entangled was before
  unblock-lived : (x : cross.Slots) (t : _) (o : Option PromiseId) → (cross.unblock_by (port_acts c x t) o).slots.live ≡ true → x.live ≡ true
  unblock-lived x t None e = e
  unblock-lived x t (Some p) e = e

  does-lived : (x : cross.Slots) (t : _) (b : cross.Acts) (y : cross.Slots) (fs : List Effect) → Does c x t b y fs → (y.live ≡ true → x.live ≡ true) → b.slots.live ≡ true → x.live ≡ true
  does-lived x t b y fs d k e = k (sym (ap (λ (z : cross.Slots). z.live) d.slots) ∙ e)

  hand-lived : (x : cross.Slots) (t : _) (d : PromiseId) (clones : Bool) → (cross.hand_on c d (cross.hold_back (port_acts c x t)) clones).slots.live ≡ true → x.live ≡ true
  hand-lived x t d true e = e
  hand-lived x t d false e = grind (arith, e)

  go-lived : (x : cross.Slots) (t : _) (clones : Bool) (d : PromiseId) (o : Option PromiseId) → (cross.go_on c clones d (port_acts c x t) o).slots.live ≡ true → x.live ≡ true
  go-lived x t clones d None e = hand-lived x t d clones e
  go-lived x t clones d (Some p) e = e

  port-lived : (x : cross.Slots) (t : _) (clones : Bool) (operation : PortOperation) → (port_operation c clones operation (port_acts c x t)).slots.live ≡ true → x.live ≡ true
  unfolding cross.write cross.unblock cross.deliver cross.pull cross.write_goes_on
  port-lived x t clones ports.Pull e = does-lived x t _ _ _ (post-does c x t PullMessage) (λ k. k) e
  port-lived x t clones (ports.Leave r u) e = does-lived x t _ _ _ (leave-does c x t r u) (λ k. cc) e
  port-lived x t clones (ports.Write u) e = e
  port-lived x t clones (ports.WriteGoesOn d) e = go-lived x t clones d x.backpressure e
  port-lived x t clones (ports.PostChunk v d) e = does-lived x t _ _ _ (chunk-does c x t v d) (λ k. k) e
  port-lived x t clones (ports.Close u) e = does-lived x t _ _ _ (close-does c x t u) (λ k. cc) e
  port-lived x t clones (ports.Deliver m) e = by x.live refl e
    where
      by : (l : Bool) → l ≡ x.live → (if l then cross.deliver_to c m (port_acts c x t) x.side else port_acts c x t).slots.live ≡ true → x.live ≡ true
      by true e k = sym e
      by false e k = k
  port-lived x t clones ports.Unblock e = unblock-lived x t x.backpressure e

  -- each effect

  module _ (s : Slots) (halved : Halved s) (ended : Ended s) (x : cross.Slots) (is : slice_get s.ports c.0 ≡ Some x) (side : x.side ≡ ReadableSide) (stream : x.stream ≡ i)
      (here : slice_get (stream_shapes s) i.0 ≡ Some (ReadableOf (EndOf c))) where
    abbrev r : readable.Slots
    r = readable_at i s

    abbrev NotOwn : Effect → Type 0
    NotOwn (OnReadable j operation) = is_same i j ≡ false
    NotOwn e = Unit {0}

    byte-same : (j : StreamId) (operation : ByteOperation) → readable_at i (row (Byte j operation) s).slots ≡ r
    byte-same j operation = by (is_same i j) refl
      where
        by : (same : Bool) → same ≡ is_same i j → readable_at i (row (Byte j operation) s).slots ≡ r
        by false e = row-same c i s ended here (Byte j operation) (sym e)
        by true e =
            let is_so : i ≡ j = same_id i j (sym e) in
            subst (λ (k : StreamId). readable_at i (row (Byte k operation) s).slots ≡ r) is_so (ap (λ (d : Done). readable_at i d.slots) (bytes-idle c i s ended here operation))

    same-read : (e : Effect) → NotOwn e → readable_at i (row e s).slots ≡ r
    same-read (OnReadable j operation) n = row-same c i s ended here (OnReadable j operation) n
    same-read (Byte j operation) n = byte-same j operation
    same-read (PullAlgorithm j) n = ap (λ (xs : List Stream). as_readable (slice_get xs i.0)) (row-streams (PullAlgorithm j) s tt)
    same-read e n = row-same c i s ended here e tt

    -- what enters by it

    enqueue-told : (j : StreamId) (v : Value) → HeadFits x r (OnReadable j (reads.Enqueue v)) → (effect_flow i (OnReadable j (reads.Enqueue v)) s).entered ≡ comes x.live (OnReadable j (reads.Enqueue v))
    enqueue-told j v h = by (is_same i j) refl
      where
        by : (same : Bool) → same ≡ is_same i j → (effect_flow i (OnReadable j (reads.Enqueue v)) s).entered ≡ comes x.live (OnReadable j (reads.Enqueue v))
        by false e = rw (← e) refl
        by true e =
            let is_so : i ≡ j = same_id i j (sym e) in
            let can : can_close_or_enqueue (readable_at j s) ≡ true = subst (λ (k : StreamId). can_close_or_enqueue (readable_at k s) ≡ true) is_so (h (sym e)) in
            rw (← e, can) refl

    none-told : (b : Bool) (f : Flow) → f.entered ≡ [] → (if b then f else no_flow).entered ≡ []
    none-told true f e = e
    none-told false f e = refl

    told : (e : Effect) → NoDelivery c i s halved ended here e → HeadFits x r e → (effect_flow i e s).entered ≡ comes x.live e
    told (OnReadable j (reads.Enqueue v)) n h = enqueue-told j v h
    told (OnReadable j (reads.Read q)) n h = none-told (is_same i j) _ refl
    told (OnReadable j (reads.Cancel q p)) n h = none-told (is_same i j) _ refl
    told (OnReadable j (reads.CancelIfReadable q p)) n h = none-told (is_same i j) _ refl
    told (OnReadable j operation) n h = none-told (is_same i j) no_flow refl
    told (ChunkSteps j q v) n h = none-told (is_same i j) _ refl
    told (OnPort d (ports.Deliver m)) n h = rw n refl
    told e n h = refl

    -- it takes chunks, or its cancel has begun

    not-ender : (operation : ReadableOperation) → HeadFits x r (OnReadable i operation) → IsCalm c i (OnReadable i operation) → x.live ≡ true → is_ender operation ≡ false
    not-ender reads.Close h k l = false_true x.live l (h (is_same-refl i))
    not-ender (reads.Error e) h k l = false_true x.live l (h (is_same-refl i))
    not-ender (reads.StartSettled (Err e)) h k l = false_true (is_same i i) (is_same-refl i) k
    not-ender (reads.PullSettled (Err e)) h k l = false_true (is_same i i) (is_same-refl i) k
    not-ender (reads.StartSettled (Ok v)) h k l = refl
    not-ender (reads.PullSettled (Ok v)) h k l = refl
    not-ender operation h k l = refl

    abbrev Open_or : Effect → Type 0
    Open_or e = (can_close_or_enqueue (readable_at i (row e s).slots) ≡ true) ⊎ (some_of leaves_by (row e s).caused ≡ true)

    own-open : (operation : ReadableOperation) → HeadFits x r (OnReadable i operation) → IsCalm c i (OnReadable i operation) → x.live ≡ true → can_close_or_enqueue r ≡ true → Open_or (OnReadable i operation)
    own-open operation h k l o =
        let a = open-after operation (readable_acts i s) refl (not-ender operation h k l) o in
        rw (own-slots c i s ended here operation, own-caused c i s ended here operation) a

    readable-open : (j : StreamId) (operation : ReadableOperation) → HeadFits x r (OnReadable j operation) → IsCalm c i (OnReadable j operation) → x.live ≡ true → can_close_or_enqueue r ≡ true
        → Open_or (OnReadable j operation)
    readable-open j operation h k l o = by (is_same i j) refl
      where
        by : (same : Bool) → same ≡ is_same i j → Open_or (OnReadable j operation)
        by false e = inl (ap can_close_or_enqueue (same-read (OnReadable j operation) (sym e)) ∙ o)
        by true e =
            let is_so : i ≡ j = same_id i j (sym e) in
            subst (λ (k : StreamId). HeadFits x r (OnReadable k operation) → IsCalm c i (OnReadable k operation) → Open_or (OnReadable k operation)) is_so (λ h k. own-open operation h k l o) h k

    open-row : (e : Effect) → HeadFits x r e → IsCalm c i e → x.live ≡ true → can_close_or_enqueue r ≡ true → Open_or e
    open-row (OnReadable j operation) h k l o = readable-open j operation h k l o
    open-row e h k l o = inl (ap can_close_or_enqueue (same-read e tt) ∙ o)

    -- its cancel goes on

    cancel-row : (j : StreamId) (q : Plain) (p : PromiseId) → is_same i j ≡ true → some_of leaves_by (row (CancelAlgorithm j q p) s).caused ≡ true
    unfolding row
    cancel-row j q p e =
        let is_so : i ≡ j = same_id i j e in
        let mine : owner_at j s ≡ EndOf c = subst (λ (k : StreamId). owner_at k s ≡ EndOf c) is_so (owned c i s ended here) in
        rw mine (rw (is_same_port-refl c) refl)

    abbrev NotMine : Effect → Type 0
    NotMine (OnPort d operation) = is_same_port c d ≡ false
    NotMine e = Unit {0}

    leaves-row : (e : Effect) → NotMine e → leaves_by e ≡ true → some_of leaves_by (row e s).caused ≡ true
    leaves-row (CancelAlgorithm j q p) n e = cancel-row j q p e
    leaves-row (OnPort d (ports.Leave q u)) n e = false_true (is_same_port c d) e n
    leaves-row (OnPort d operation) n e = cc
    leaves-row e n k = cc

    or-of : (a b : Bool) → a || b ≡ true → (a ≡ true) ⊎ (b ≡ true)
    or-of true b e = inl refl
    or-of false b e = inr e

    first-of : (fs es : List Effect) → some_of leaves_by fs ≡ true → some_of leaves_by (fs ++ es) ≡ true
    first-of fs es e = rw (some_of-append leaves_by fs es, e) refl

    last-of : (fs es : List Effect) → some_of leaves_by es ≡ true → some_of leaves_by (fs ++ es) ≡ true
    last-of fs es e = some_of-append leaves_by fs es ∙ or_right (some_of leaves_by fs) (some_of leaves_by es) e

    abbrev Still_so : Slots → List Effect → Type 0
    Still_so z es = (can_close_or_enqueue (readable_at i z) ≡ true) ⊎ (some_of leaves_by es ≡ true)

    still-row : (e : Effect) (es : List Effect) → NotMine e → HeadFits x r e → IsCalm c i e → x.live ≡ true → Still_so s (e ∷ es) → Still_so (row e s).slots ((row e s).caused ++ es)
    still-row e es n h k l (inl o) = ⊎_elim (λ a. inl a) (λ b. inr (first-of (row e s).caused es b)) (open-row e h k l o)
    still-row e es n h k l (inr b) = ⊎_elim (λ a. inr (first-of (row e s).caused es (leaves-row e n a))) (λ d. inr (last-of (row e s).caused es d)) (or-of (leaves_by e) (some_of leaves_by es) b)

    -- an effect that is no operation of the port
    other-row : (e : Effect) (es : List Effect) (taken : List Message) (entered : List Value) → NotMine e → NoDelivery c i s halved ended here e → IsCalm c i e → Enters taken entered x r (e ∷ es)
        → Enters taken (entered ++ (effect_flow i e s).entered) x (readable_at i (row e s).slots) ((row e s).caused ++ es)
    other-row e es taken entered n d k g =
        untouched taken (entered ++ (effect_flow i e s).entered) x (readable_at i (row e s).slots) ((row e s).caused ++ es) (rw (told e d g.heads.0) g.enters)
        (each-append (NoTouch c i) (row e s).caused es (row-untouched c i s halved ended here e d) g.heads.1)
        (λ l. still-row e es n g.heads.0 k l (g.live l))

    -- an operation of the port

    abbrev Acted : PortOperation → cross.Acts
    Acted operation = port_operation c (clones_at x s) operation (port_acts c x s.promises)

    abbrev NotDeliver : PortOperation → Type 0
    NotDeliver (ports.Deliver m) = ⊥
    NotDeliver operation = Unit {0}

    left-off : (operation : PortOperation) → leaves_by (OnPort c operation) ≡ true → (Acted operation).slots.live ≡ true → ⊥
    left-off (ports.Leave q u) e l =
        let off : (Acted (ports.Leave q u)).slots.live ≡ false = ap (λ (z : cross.Slots). z.live) (leave-does c x s.promises q u).slots in
        false_true (Acted (ports.Leave q u)).slots.live l off
    left-off operation e l = cc

    own-still : (operation : PortOperation) (es : List Effect) → (Acted operation).slots.live ≡ true → Still_so s (OnPort c operation ∷ es) → Still_so (row (OnPort c operation) s).slots ((row (OnPort c operation) s).caused ++ es)
    own-still operation es l (inl o) = inl (ap can_close_or_enqueue (same-read (OnPort c operation) tt) ∙ o)
    own-still operation es l (inr b) =
        ⊎_elim (λ a. absurd (left-off operation a l)) (λ d. inr (last-of (row (OnPort c operation) s).caused es d)) (or-of (leaves_by (OnPort c operation)) (some_of leaves_by es) b)

    no-delivery : (operation : PortOperation) → NotDeliver operation → NoDelivery c i s halved ended here (OnPort c operation)
    no-delivery (ports.Deliver m) n = absurd n
    no-delivery operation n = tt

    no-comes : (operation : PortOperation) → NotDeliver operation → comes x.live (OnPort c operation) ≡ []
    no-comes (ports.Deliver m) n = absurd n
    no-comes operation n = refl

    own-row : (operation : PortOperation) (es : List Effect) (taken : List Message) (entered : List Value) → NotDeliver operation → Enters taken entered x r (OnPort c operation ∷ es)
        → Enters taken entered (Acted operation).slots (readable_at i (row (OnPort c operation) s).slots) ((row (OnPort c operation) s).caused ++ es)
    own-row operation es taken entered n g =
        untouched taken entered (Acted operation).slots (readable_at i (row (OnPort c operation) s).slots) ((row (OnPort c operation) s).caused ++ es)
        (sym (append-nil entered) ∙ (ap (λ vs. entered ++ vs) (sym (no-comes operation n)) ∙ g.enters))
        (each-append (NoTouch c i) (row (OnPort c operation) s).caused es (row-untouched c i s halved ended here (OnPort c operation) (no-delivery operation n)) g.heads.1)
        (λ l. own-still operation es l (g.live (port-lived x s.promises (clones_at x s) operation l)))

    -- a message comes

    abbrev Came : List Message → List Value → List Effect → cross.Acts → Type 0
    Came taken entered es b = Enters taken entered b.slots r (b.out.effects ++ es)

    module _ (es : List Effect) (taken : List Message) (entered : List Value) (later : Each (NoTouch c i) es) where
      quiet-comes : entered ≡ chunks_in taken → (x.live ≡ true → can_close_or_enqueue r ≡ true) → Came taken entered es (port_acts c x s.promises)
      quiet-comes e o = untouched taken entered x r es e later (λ l. inl (o l))

      enqueue-comes : (v : Value) → entered ++ v ∷ [] ≡ chunks_in taken → can_close_or_enqueue r ≡ true → Enters taken entered x r (OnReadable x.stream (reads.Enqueue v) ∷ es)
      enqueue-comes v e o =
          subst (λ (k : StreamId). Enters taken entered x r (OnReadable k (reads.Enqueue v) ∷ es)) (sym stream)
          (record { enters = rw (is_same-refl i) e; heads = ((λ n. o), later); live = λ l. inl o })

      ends-comes : (operation : ReadableOperation) → comes false (OnReadable i operation) ≡ [] → HeadFits (record x { live = false }) r (OnReadable i operation) → entered ≡ chunks_in taken
          → Enters taken entered (record x { live = false }) r (OnReadable x.stream operation ∷ es)
      ends-comes operation n h e =
          subst (λ (k : StreamId). Enters taken entered (record x { live = false }) r (OnReadable k operation ∷ es)) (sym stream)
          (record { enters = rw (n, append-nil entered) e; heads = (h, later); live = λ l. cc })

      came : (m : Message) → entered ++ chunk_in m ≡ chunks_in taken → can_close_or_enqueue r ≡ true → x.live ≡ true → Came taken entered es (cross.deliver_to c m (port_acts c x s.promises) ReadableSide)
      came PullMessage e o l = quiet-comes (sym (append-nil entered) ∙ e) (λ l. o)
      came (ChunkMessage v) e o l = enqueue-comes v e o
      came CloseMessage e o l = ends-comes reads.Close refl (λ k. refl) (sym (append-nil entered) ∙ e)
      came (ErrorMessage q) e o l = ends-comes (reads.Error q) refl (λ k. refl) (sym (append-nil entered) ∙ e)

    deliver-comes : (m : Message) (es : List Effect) (taken : List Message) (entered : List Value) → Enters taken entered x r (OnPort c (ports.Deliver m) ∷ es) → Came taken entered es (Acted (ports.Deliver m))
    unfolding cross.deliver
    deliver-comes m es taken entered g =
        either (Came taken entered es) x.live (cross.deliver_to c m (port_acts c x s.promises) x.side) (port_acts c x s.promises)
        (λ l. subst (λ (k : Side). Came taken entered es (cross.deliver_to c m (port_acts c x s.promises) k)) (sym side) (came es taken entered g.heads.1 m (rw (is_same_port-refl c, l) at g.enters) (g.heads.0 (is_same_port-refl c) l) l))
        (λ n. quiet-comes es taken entered g.heads.1 (sym (append-nil entered) ∙ (rw (is_same_port-refl c, n) at g.enters)) (λ l. false_true x.live l n))

    deliver-row : (m : Message) (es : List Effect) (taken : List Message) (entered : List Value) → Enters taken entered x r (OnPort c (ports.Deliver m) ∷ es)
        → Enters taken entered (Acted (ports.Deliver m)).slots (readable_at i (row (OnPort c (ports.Deliver m)) s).slots) ((row (OnPort c (ports.Deliver m)) s).caused ++ es)
    deliver-row m es taken entered g =
        let k = row-mine c (ports.Deliver m) s x is in
        rw (same-read (OnPort c (ports.Deliver m)) tt, k.caused) (deliver-comes m es taken entered g)

    -- any effect

    abbrev After : Effect → List Message → List Value → List Effect → Type 0
    After e taken entered es = (y : cross.Slots) × (Next c x y (row e s).slots × Enters taken entered y (readable_at i (row e s).slots) ((row e s).caused ++ es))

    mine-row : (operation : PortOperation) (es : List Effect) (taken : List Message) (entered : List Value) → Enters taken entered x r (OnPort c operation ∷ es) → After (OnPort c operation) taken (entered ++ []) es
    mine-row (ports.Deliver m) es taken entered g = rw (append-nil entered) ((Acted (ports.Deliver m)).slots, (mine-next c s x is (ports.Deliver m), deliver-row m es taken entered g))
    mine-row operation es taken entered g = rw (append-nil entered) ((Acted operation).slots, (mine-next c s x is operation, own-row operation es taken entered tt g))

    port-row : (d : PortId) (operation : PortOperation) (es : List Effect) (taken : List Message) (entered : List Value) → Enters taken entered x r (OnPort d operation ∷ es) → After (OnPort d operation) taken (entered ++ []) es
    port-row d operation es taken entered g =
        by-port c (λ d. Enters taken entered x r (OnPort d operation ∷ es) → After (OnPort d operation) taken (entered ++ []) es) d
        (λ n g. (x, (other-next c s x is (OnPort d operation) n, other-row (OnPort d operation) es taken entered n (away d operation n) tt g))) (λ g. mine-row operation es taken entered g) g
      where
        away : (d : PortId) (operation : PortOperation) → is_same_port c d ≡ false → NoDelivery c i s halved ended here (OnPort d operation)
        away d (ports.Deliver m) n = n
        away d operation n = tt

    pub enters-row : (e : Effect) (es : List Effect) (taken : List Message) (entered : List Value) → IsCalm c i e → Enters taken entered x r (e ∷ es) → After e taken (entered ++ (effect_flow i e s).entered) es
    enters-row (OnPort d operation) es taken entered k g = port-row d operation es taken entered g
    enters-row e es taken entered k g = (x, (other-next c s x is e tt, other-row e es taken entered tt tt k g))
