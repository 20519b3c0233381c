-- How many messages a port posts in a step, by what stands on the agenda: the end is read, and its pull is posted once; or it is cancelled, which
-- ends it; or a pipe has yet to look.
use Rattle.std.proofs.Common.{◌≡◌, ℕ, ◌+◌, ◌≤◌, Bool, true, false, ◌&&◌, ◌||◌, if◌then◌else◌, List, [], ◌∷◌, ◌++◌, length, Option, Some, None, ◌⊎◌, inl, inr, ⊎_elim, slice_get, refl, sym, ap, ◌∙◌, subst, append-nil, arith}
use Rattle.std.proofs.lemmas.List.{length-append}
use Rattle.ws_value.specs.declared.ids.PipeId.{PipeId}
use Rattle.ws_value.specs.declared.ids.PortId.{PortId}
use Rattle.ws_value.specs.declared.ids.StreamId.{StreamId}
use Rattle.ws_value.specs.declared.value.Message.{Message}
use Rattle.ws_value.specs.declared.value.Message.TheVariants.{Pull as PullMessage}
use Rattle.ws_steps.specs.declared.effects.Effect.{Effect}
use Rattle.ws_steps.specs.declared.effects.Effect.TheVariants.{Readable as OnReadable, Pipe as OnPipe, Port as OnPort, PullAlgorithm}
use Rattle.ws_steps.specs.declared.effects.Owner.TheVariants.{EndOf}
use Rattle.ws_steps.specs.declared.pipes.PipeOperation.{PipeOperation}
use Rattle.ws_steps.specs.declared.port.PortOperation.{PortOperation}
use Rattle.ws_steps.specs.declared.port.PortOperation.TheVariants as ports
use Rattle.ws_steps.specs.declared.port.Side.{Side}
use Rattle.ws_steps.specs.declared.port.Side.TheVariants.{Readable as ReadableSide, Writable as WritableSide}
use Rattle.ws_steps.specs.declared.readable.ReadableOperation.{ReadableOperation}
use Rattle.ws_steps.specs.declared.readable.ReadableOperation.TheVariants as reads
use Rattle.ws_steps.specs.Cross as cross
use Rattle.ws_steps.specs.Histories.{is_same}
use Rattle.ws_steps.specs.Operations.{pipe_operation, port_operation}
use Rattle.ws_steps.specs.Pipes as pipe
use Rattle.ws_steps.specs.PortHistory.{is_same_port}
use Rattle.ws_steps.specs.Slots.{Slots, found, on_pipe_at, clones_at, ends_at, readable_at}
use Rattle.ws_steps.specs.Turns.{row}
use Rattle.ws_laws.proofs.Ended.{PortShape, port_shape, port_shapes, end_shape, Ended}
use Rattle.ws_laws.proofs.Halves.{Halved}
use Rattle.ws_laws.proofs.Lists.{Each, each-append, each-map}
use Rattle.ws_laws.proofs.PortDoes.{port-causes}
use Rattle.ws_laws.proofs.Shapes.{StreamShape, ReadableOf, stream_shapes, map-there}
use Rattle.ws_laws.proofs.Tables.{same_id, eq_numbers}
use Rattle.ws_laws.proofs.Truth.{false_true}
use Rattle.ws_tee_port_laws.proofs.ports.Fitting.{Fits, IsSide}
use Rattle.ws_tee_port_laws.proofs.ports.ModeRows.{row-may}
use Rattle.ws_tee_port_laws.proofs.ports.Modes.{NoEnd, May, Calm, Leads, IsLook, Turned, looks, calm-may, calm-leads, leads-behind, leads-before, look-turned}
use Rattle.ws_tee_port_laws.proofs.ports.Posting.{some_of, some_of-append, given, is_same_port-refl, port_acts}
use Rattle.ws_tee_port_laws.proofs.ports.Pulls.{asked_of, settles_of, Still, pulled, pulled-append, still-pulled, still-settles, row-still}
use Rattle.ws_tee_port_laws.proofs.ports.Reading.{is_idle, pulls_of}
use Rattle.ws_tee_port_laws.proofs.ports.Told.{posted}
use Rattle.ws_tee_port_laws.proofs.ports.Once.{NotMine, row-leaves, row-mine, by-port, alive, IsLast, last-lives, Post_mode, posting-row}
use Rattle.ws_tee_port_laws.proofs.ports.Pulls.{row-pulled, settled-bounded, own-settles}

-- what stands after an effect
module _ (s : Slots) (ended : Ended s) (halved : Halved s) where
  abbrev pub Reads : List Effect → Type 0
  Reads es = Each (May (stream_shapes s) (port_shapes s) true false) es

  abbrev pub Cancels : List Effect → Type 0
  Cancels es = Each (May (stream_shapes s) (port_shapes s) false true) es

  abbrev pub Leading : List Effect → Type 0
  Leading es = Leads (stream_shapes s) (port_shapes s) es

  abbrev Calms : List Effect → Type 0
  Calms es = Each (Calm (stream_shapes s) (port_shapes s)) es

  reads-row : (e : Effect) (es : List Effect) → Reads (e ∷ es) → Reads ((row e s).caused ++ es)
  reads-row e es k = each-append _ (row e s).caused es (row-may s ended halved true false e k.0) k.1

  cancels-row : (e : Effect) (es : List Effect) → Cancels (e ∷ es) → Cancels ((row e s).caused ++ es)
  cancels-row e es k = each-append _ (row e s).caused es (row-may s ended halved false true e k.0) k.1

  calm-reads : (es : List Effect) → Calms es → Reads es
  calm-reads es k = each-map _ _ (calm-may (stream_shapes s) (port_shapes s) true false) es k

  calm-cancels : (es : List Effect) → Calms es → Cancels es
  calm-cancels es k = each-map _ _ (calm-may (stream_shapes s) (port_shapes s) false true) es k

  -- after a look
  abbrev Looked : List Effect → Type 0
  Looked fs = Leading fs ⊎ (Reads fs ⊎ Cancels fs)

  looked-behind : (fs es : List Effect) → Calms es → Turned (stream_shapes s) (port_shapes s) fs → Looked (fs ++ es)
  looked-behind fs es k (inl l) = inl (leads-before (stream_shapes s) (port_shapes s) fs es l k)
  looked-behind fs es k (inr (inl r)) = inr (inl (each-append _ fs es r (calm-reads es k)))
  looked-behind fs es k (inr (inr r)) = inr (inr (each-append _ fs es r (calm-cancels es k)))

  piped-looked : (p : PipeId) (operation : PipeOperation) (es : List Effect) → looks operation ≡ true → Calms es → (o : Option pipe.Slots)
      → Looked ((on_pipe_at (λ ends. pipe_operation p ends operation) p s o).caused ++ es)
  piped-looked p operation es l k None = inl (calm-leads (stream_shapes s) (port_shapes s) es k)
  piped-looked p operation es l k (Some x) =
      looked-behind _ es k (look-turned (stream_shapes s) (port_shapes s) p (ends_at x s) operation (record { slots = x; out = found s }) l refl)

  look-row : (e : Effect) (es : List Effect) → IsLook e → Calms es → Looked ((row e s).caused ++ es)
  unfolding row
  look-row (OnPipe p operation) es l k = piped-looked p operation es l k (slice_get s.pipes p.0)
  look-row e es l k = absurd l

-- the port after an effect
module _ (c : PortId) where
  pub record Next (x y : cross.Slots) (z : Slots) : Type 0 where
    pub slot : slice_get z.ports c.0 ≡ Some y
    pub side : y.side ≡ x.side
    pub stream : y.stream ≡ x.stream

  abbrev pub count : Slots → ℕ
  count z = length (posted c z.promises)

  -- its own operation, and another's
  module _ (s : Slots) (x : cross.Slots) (is : slice_get s.ports c.0 ≡ Some x) where
    abbrev pub Then : PortOperation → cross.Slots
    Then operation = (port_operation c (clones_at x s) operation (port_acts c x s.promises)).slots

    pub mine-next : (operation : PortOperation) → Next x (Then operation) (row (OnPort c operation) s).slots
    mine-next operation =
        let k = port-causes c (clones_at x s) operation (port_acts c x s.promises) tt in
        record { slot = (row-mine c operation s x is).slot; side = k.0; stream = k.1.0 }

    pub other-next : (e : Effect) → NotMine c e → Next x x (row e s).slots
    other-next e n = record { slot = (row-leaves c e s n).1 ∙ is; side = refl; stream = refl }

    -- effects that may end it
    abbrev pub LastHere : Effect → Type 0
    LastHere (OnPort d operation) = is_same_port c d ≡ true → IsLast operation
    LastHere e = Unit {0}

    abbrev Lasting : Slots → Type 0
    Lasting z = (y : cross.Slots) × (Next x y z × (count z + alive y ≤ count s + alive x))

    mine-lasts : (operation : PortOperation) → IsLast operation → Lasting (row (OnPort c operation) s).slots
    mine-lasts operation l =
        let r = row-mine c operation s x is in
        let h = last-lives c x s.promises (clones_at x s) operation l in
        let n = ap length r.told ∙ length-append (posted c s.promises) (given (clones_at x s) operation x) in
        (Then operation, (mine-next operation, omega (arith, h, n)))

    other-lasts : (e : Effect) → NotMine c e → Lasting (row e s).slots
    other-lasts e n = let m = ap length (row-leaves c e s n).0 in (x, (other-next e n, omega (arith, m)))

    pub lasting : (e : Effect) → LastHere e → Lasting (row e s).slots
    lasting (OnPort d operation) l =
        by-port c (λ d. (is_same_port c d ≡ true → IsLast operation) → Lasting (row (OnPort d operation) s).slots) d
        (λ n l. other-lasts (OnPort d operation) n) (λ l. mine-lasts operation (l (is_same_port-refl c))) l
    lasting e l = other-lasts e tt

    -- effects by which it posts nothing
    abbrev pub IsMute : PortOperation → Type 0
    IsMute (ports.Write u) = Unit {0}
    IsMute (ports.Deliver m) = Unit {0}
    IsMute ports.Unblock = Unit {0}
    IsMute operation = ⊥

    abbrev pub MuteHere : Effect → Type 0
    MuteHere (OnPort d operation) = is_same_port c d ≡ true → IsMute operation
    MuteHere e = Unit {0}

    abbrev Muted : Slots → Type 0
    Muted z = (y : cross.Slots) × (Next x y z × (count z ≡ count s))

    none-given : (clones : Bool) (operation : PortOperation) → IsMute operation → given clones operation x ≡ []
    none-given clones (ports.Write u) m = refl
    none-given clones (ports.Deliver v) m = refl
    none-given clones ports.Unblock m = refl
    none-given clones operation m = absurd m

    mine-mutes : (operation : PortOperation) → IsMute operation → Muted (row (OnPort c operation) s).slots
    mine-mutes operation m =
        let r = row-mine c operation s x is in
        let n = none-given (clones_at x s) operation m in
        (Then operation, (mine-next operation, ap length (r.told ∙ (ap (λ ms. posted c s.promises ++ ms) n ∙ append-nil (posted c s.promises)))))

    other-mutes : (e : Effect) → NotMine c e → Muted (row e s).slots
    other-mutes e n = (x, (other-next e n, ap length (row-leaves c e s n).0))

    pub muted : (e : Effect) → MuteHere e → Muted (row e s).slots
    muted (OnPort d operation) m =
        by-port c (λ d. (is_same_port c d ≡ true → IsMute operation) → Muted (row (OnPort d operation) s).slots) d
        (λ n m. other-mutes (OnPort d operation) n) (λ m. mine-mutes operation (m (is_same_port-refl c))) m
    muted e m = other-mutes e tt

    -- a pull that is asked for
    pub asks : (y : cross.Slots) × (Next x y (row (OnPort c ports.Pull) s).slots × (count (row (OnPort c ports.Pull) s).slots ≤ count s + 1))
    asks =
        let r = row-mine c ports.Pull s x is in
        let n = ap length r.told ∙ length-append (posted c s.promises) (given (clones_at x s) ports.Pull x) in
        let m = one x.live in
        (Then ports.Pull, (mine-next ports.Pull, omega (arith, n, m)))
      where
        one : (l : Bool) → length {A = Message} (if l then PullMessage ∷ [] else []) ≤ 1
        one true = omega arith
        one false = omega arith

-- the modes of a step, in which no more than n messages were posted before
module _ (c : PortId) (n : ℕ) where
  -- a pull has settled, and nothing was posted yet
  abbrev pub First : StreamId → List Effect → Type 0
  First i (OnReadable j (reads.PullSettled o) ∷ es) = (is_same i j ≡ true) × Each (Still c i) es
  First i _ = ⊥

  -- what is posted, stands and may come is one
  abbrev pub Main : Slots → StreamId → List Effect → Type 0
  Main s i es = (some_of (settles_of i) es ≡ false) × (count c s + pulled c i es + is_idle (readable_at i s) ≤ n + 1)

  module _ (xs : List StreamShape) (ps : List PortShape) where
    abbrev pub ReadMode : Slots → StreamId → List Effect → Type 0
    ReadMode s i es = Each (May xs ps true false) es × ((First i es × (count c s ≤ n)) ⊎ Main s i es)

    abbrev pub CancelMode : Slots → cross.Slots → List Effect → Type 0
    CancelMode s x es = Each (May xs ps false true) es × (count c s + alive x ≤ n + 1)

    abbrev pub LookMode : Slots → List Effect → Type 0
    LookMode s es = Leads xs ps es × (count c s ≤ n)

    -- of a readable end, and of a writable one
    abbrev pub SideMode : Slots → cross.Slots → List Effect → Side → Type 0
    SideMode s x es ReadableSide = ReadMode s x.stream es ⊎ (CancelMode s x es ⊎ LookMode s es)
    SideMode s x es WritableSide = (Each (May xs ps true false) es ⊎ (Each (May xs ps false true) es ⊎ Leads xs ps es)) × (count c s + alive x ≤ n + 1)

    abbrev pub PortMode : Slots → List Effect → Option cross.Slots → Type 0
    PortMode s es None = count c s ≤ n + 1
    PortMode s es (Some x) = Post_mode c n (posted c s.promises) es ⊎ SideMode s x es x.side

  module _ (s : Slots) (ended : Ended s) (halved : Halved s) (x : cross.Slots) (is : slice_get s.ports c.0 ≡ Some x) where
    abbrev xs : List StreamShape
    xs = stream_shapes s

    abbrev ps : List PortShape
    ps = port_shapes s

    shaped : slice_get ps c.0 ≡ Some (port_shape x)
    shaped = map-there port_shape s.ports c.0 x is

    same-port : (d : PortId) → is_same_port c d ≡ true → c ≡ d
    same-port d e = λ k. record { 0 = eq_numbers c.0 d.0 e k }

    side-is : (d : PortId) (side : Side) → is_same_port c d ≡ true → IsSide ps d side → x.side ≡ side
    side-is d side e f = let is_so : c ≡ d = same-port d e in f (port_shape x) (rw (← is_so) shaped)

    not-both : {A : Type 0} → x.side ≡ ReadableSide → x.side ≡ WritableSide → A
    not-both r w = let k : ReadableSide ≡ WritableSide = sym r ∙ w in cc

    -- which operations of it may stand

    cancels-last : (e : Effect) → May xs ps false true e → LastHere c s x is e
    cancels-last (OnPort d ports.Pull) m = λ e. cc
    cancels-last (OnPort d (ports.WriteGoesOn p)) m = absurd m
    cancels-last (OnPort d (ports.PostChunk v p)) m = absurd m
    cancels-last (OnPort d operation) m = λ e. tt
    cancels-last e m = tt

    reads-last : x.side ≡ WritableSide → (e : Effect) → Fits xs ps e → May xs ps true false e → LastHere c s x is e
    reads-last w (OnPort d ports.Pull) f m = λ e. not-both (side-is d ReadableSide e f) w
    reads-last w (OnPort d (ports.WriteGoesOn p)) f m = absurd m
    reads-last w (OnPort d (ports.PostChunk v p)) f m = absurd m
    reads-last w (OnPort d operation) f m = λ e. tt
    reads-last w e f m = tt

    calm-mutes : x.side ≡ ReadableSide → (e : Effect) → Fits xs ps e → Calm xs ps e → MuteHere c s x is e
    calm-mutes r (OnPort d ports.Pull) f m = λ e. cc
    calm-mutes r (OnPort d (ports.Leave q u)) f (inl m) = λ e. cc
    calm-mutes r (OnPort d (ports.Leave q u)) f (inr m) = λ e. not-both r (side-is d WritableSide e m)
    calm-mutes r (OnPort d (ports.Close u)) f m = λ e. not-both r (side-is d WritableSide e f)
    calm-mutes r (OnPort d (ports.WriteGoesOn p)) f m = absurd m
    calm-mutes r (OnPort d (ports.PostChunk v p)) f m = absurd m
    calm-mutes r (OnPort d operation) f m = λ e. tt
    calm-mutes r e f m = tt

    abbrev NoPull : Effect → Type 0
    NoPull (OnPort d ports.Pull) = ⊥
    NoPull e = Unit {0}

    reads-mute : x.side ≡ ReadableSide → (e : Effect) → NoPull e → Fits xs ps e → May xs ps true false e → MuteHere c s x is e
    reads-mute r (OnPort d ports.Pull) p f m = absurd p
    reads-mute r (OnPort d (ports.Leave q u)) p f (inl m) = λ e. cc
    reads-mute r (OnPort d (ports.Leave q u)) p f (inr m) = λ e. not-both r (side-is d WritableSide e m)
    reads-mute r (OnPort d (ports.Close u)) p f m = λ e. not-both r (side-is d WritableSide e f)
    reads-mute r (OnPort d (ports.WriteGoesOn q)) p f m = absurd m
    reads-mute r (OnPort d (ports.PostChunk v q)) p f m = absurd m
    reads-mute r (OnPort d operation) p f m = λ e. tt
    reads-mute r e p f m = tt

    -- a writable end

    leads-last : (e : Effect) (es : List Effect) → Leads xs ps (e ∷ es) → LastHere c s x is e
    leads-last e es (inl k) = cancels-last e (calm-may xs ps false true e k.0)
    leads-last (OnPipe p operation) es (inr k) = tt
    leads-last e es (inr k) = absurd k.0

    leads-row : (e : Effect) (es : List Effect) → Leads xs ps (e ∷ es)
        → let fs : List Effect = (row e s).caused ++ es in Leads xs ps fs ⊎ (Each (May xs ps true false) fs ⊎ Each (May xs ps false true) fs)
    leads-row e es (inl k) = inl (leads-behind xs ps (row e s).caused es (row-may s ended halved false false e k.0) k.1)
    leads-row e es (inr k) = look-row s ended halved e es k.0 k.1

    abbrev Rest : List Effect → Type 0
    Rest es = Each (May xs ps true false) es ⊎ (Each (May xs ps false true) es ⊎ Leads xs ps es)

    rest-row : (e : Effect) (es : List Effect) → Rest (e ∷ es) → Rest ((row e s).caused ++ es)
    rest-row e es (inl k) = inl (reads-row s ended halved e es k)
    rest-row e es (inr (inl k)) = inr (inl (cancels-row s ended halved e es k))
    rest-row e es (inr (inr k)) = ⊎_elim (λ l. inr (inr l)) (λ o. ⊎_elim (λ r. inl r) (λ d. inr (inl d)) o) (leads-row e es k)

    rest-last : x.side ≡ WritableSide → (e : Effect) (es : List Effect) → Fits xs ps e → Rest (e ∷ es) → LastHere c s x is e
    rest-last w e es f (inl k) = reads-last w e f k.0
    rest-last w e es f (inr (inl k)) = cancels-last e k.0
    rest-last w e es f (inr (inr k)) = leads-last e es k

    abbrev Moved : Slots → List Effect → Type 0
    Moved z es = (y : cross.Slots) × (Next c x y z × SideMode xs ps z y es x.side)

    writable-row : x.side ≡ WritableSide → (e : Effect) (es : List Effect) → Fits xs ps e → Rest (e ∷ es) → count c s + alive x ≤ n + 1 → Moved (row e s).slots ((row e s).caused ++ es)
    writable-row w e es f k few =
        let l = lasting c s x is e (rest-last w e es f k) in
        let m = l.1.1 in
        (l.0, (l.1.0, subst (λ (side : Side). SideMode xs ps (row e s).slots l.0 ((row e s).caused ++ es) side) (sym w) (rest-row e es k, omega (arith, m, few))))

    -- a readable end

    module _ (r : x.side ≡ ReadableSide) where
      here : slice_get xs x.stream.0 ≡ Some (ReadableOf (EndOf c))
      here = ended.ends c (port_shape x) shaped ∙ ap (λ (side : Side). Some (end_shape c side)) r

      abbrev i : StreamId
      i = x.stream

      abbrev Read_next : Effect → List Effect → Type 0
      Read_next e es = (y : cross.Slots) × (Next c x y (row e s).slots × ReadMode xs ps (row e s).slots x.stream ((row e s).caused ++ es))

      -- what stands behind
      main-row : (e : Effect) (es : List Effect) → Each (May xs ps true false) (e ∷ es) → Main s i (e ∷ es) → (k : ℕ) → count c (row e s).slots ≤ count c s + k → k ≤ asked_of c e
          → ReadMode xs ps (row e s).slots i ((row e s).caused ++ es)
      main-row e es m g k few less =
          let settles = split (settles_of i e) (some_of (settles_of i) es) g.0 in
          let p = row-pulled c i s ended here e settles.0 in
          let bounded = p.bounded in
          let more = pulled-append c i (row e s).caused es in
          let all = g.1 in (
            reads-row s ended halved e es m,
            inr (rw (some_of-append (settles_of i) (row e s).caused es, p.settles) settles.1, omega (arith, bounded, more, all, few, less)),
          )
        where
          split : (a b : Bool) → a || b ≡ false → (a ≡ false) × (b ≡ false)
          split a b e = (grind arith, grind arith)

      mute-row : (e : Effect) (es : List Effect) → NoPull e → Fits xs ps e → Each (May xs ps true false) (e ∷ es) → Main s i (e ∷ es) → Read_next e es
      mute-row e es p f m g =
          let l = muted c s x is e (reads-mute r e p f m.0) in
          let same = l.1.1 in
          (l.0, (l.1.0, main-row e es m g 0 (omega (arith, same)) (omega arith)))

      pull-row : (d : PortId) (es : List Effect) → Each (May xs ps true false) (OnPort d ports.Pull ∷ es) → Main s i (OnPort d ports.Pull ∷ es) → Read_next (OnPort d ports.Pull) es
      pull-row d es m g =
          by-port c (λ d. Each (May xs ps true false) (OnPort d ports.Pull ∷ es) → Main s i (OnPort d ports.Pull ∷ es) → Read_next (OnPort d ports.Pull) es) d
          (λ n m g. let l = muted c s x is (OnPort d ports.Pull) (λ e. false_true (is_same_port c d) e n) in let same = l.1.1 in (l.0, (l.1.0, main-row (OnPort d ports.Pull) es m g 0 (omega (arith, same)) (omega arith))))
          (λ m g. let l = asks c s x is in let few = l.1.1 in let one : asked_of c (OnPort c ports.Pull) ≡ 1 = rw (is_same_port-refl c) refl in
          (l.0, (l.1.0, main-row (OnPort c ports.Pull) es m g 1 few (omega (arith, one))))) m g

      reading-row : (e : Effect) (es : List Effect) → Fits xs ps e → Each (May xs ps true false) (e ∷ es) → Main s i (e ∷ es) → Read_next e es
      reading-row (OnPort d ports.Pull) es f m g = pull-row d es m g
      reading-row e es f m g = mute-row e es tt f m g

      -- a pull has settled
      first-at : (j : StreamId) (o : _) (es : List Effect) → is_same i j ≡ true → Each (May xs ps true false) (OnReadable j (reads.PullSettled o) ∷ es) → Each (Still c i) es → count c s ≤ n
          → Read_next (OnReadable j (reads.PullSettled o)) es
      first-at j o es same m still few =
          let is_so : i ≡ j = same_id i j same in
          subst (λ (k : StreamId). Each (May xs ps true false) (OnReadable k (reads.PullSettled o) ∷ es) → Read_next (OnReadable k (reads.PullSettled o)) es) is_so (λ m.
          let e : Effect = OnReadable i (reads.PullSettled o) in
          let l = muted c s x is e tt in
          let kept = l.1.1 in
          let bounded = settled-bounded c i s ended here o in
          let more = pulled-append c i (row e s).caused es in
          let none = still-pulled c i es still in (
            l.0,
            (
              l.1.0,
              (
                reads-row s ended halved e es m,
                inr (rw (some_of-append (settles_of i) (row e s).caused es, own-settles c i s ended here (reads.PullSettled o)) (still-settles c i es still), omega (arith, bounded, more, none, few, kept)),
              ),
            ),
          )) m

      first-row : (e : Effect) (es : List Effect) → Each (May xs ps true false) (e ∷ es) → First i (e ∷ es) → count c s ≤ n → Read_next e es
      first-row (OnReadable j (reads.PullSettled o)) es m f few = first-at j o es f.0 m f.1 few
      first-row (OnReadable j operation) es m f few = absurd f
      first-row e es m f few = absurd f

      read-row : (e : Effect) (es : List Effect) → Fits xs ps e → ReadMode xs ps s i (e ∷ es) → Read_next e es
      read-row e es f (m, inl k) = first-row e es m k.0 k.1
      read-row e es f (m, inr g) = reading-row e es f m g

      -- what is calm is no pull of it
      calm-still : (e : Effect) → Calm xs ps e → Still c i e
      calm-still (OnReadable j operation) m = record { pulls = refl; asked = refl; settles = unsettling j operation m }
        where
          unsettling : (j : StreamId) (operation : ReadableOperation) → Calm xs ps (OnReadable j operation) → settles_of i (OnReadable j operation) ≡ false
          unsettling j (reads.PullSettled o) (inl p) = by (is_same i j) refl
            where
              by : (same : Bool) → same ≡ is_same i j → is_same i j && true ≡ false
              by false e = rw (← e) refl
              by true e =
                  let is_so : i ≡ j = same_id i j (sym e) in
                  let end : NoEnd xs i = subst (λ (k : StreamId). NoEnd xs k) (sym is_so) p in
                  absurd (rw here at end)
          unsettling j (reads.PullSettled o) (inr p) = cc
          unsettling j operation p = and_false (is_same i j)
            where
              and_false : (b : Bool) → b && false ≡ false
              and_false b = grind arith
      calm-still (PullAlgorithm j) (inl m) = cc
      calm-still (PullAlgorithm j) (inr p) = record { pulls = by (is_same i j) refl; asked = refl; settles = refl }
        where
          by : (same : Bool) → same ≡ is_same i j → pulls_of i (PullAlgorithm j) ≡ 0
          by false e = rw (← e) refl
          by true e =
              let is_so : i ≡ j = same_id i j (sym e) in
              let end : NoEnd xs i = subst (λ (k : StreamId). NoEnd xs k) (sym is_so) p in
              absurd (rw here at end)
      calm-still (OnPort d ports.Pull) m = cc
      calm-still e m = record { pulls = refl; asked = refl; settles = refl }

      calms-still : (es : List Effect) → Each (Calm xs ps) es → Each (Still c i) es
      calms-still es k = each-map (Calm xs ps) (Still c i) calm-still es k

      one-idle : (b : Bool) → (if b then 0 else 1) ≤ 1
      one-idle true = omega arith
      one-idle false = omega arith

      one-alive : (b : Bool) → (if b then 1 else 0) ≤ 1
      one-alive true = omega arith
      one-alive false = omega arith

      -- it is read, where nothing stands that pulls it, and nothing was posted
      begins-reading : (z : Slots) (es : List Effect) → Each (May xs ps true false) es → Each (Still c i) es → count c z ≤ n → ReadMode xs ps z i es
      begins-reading z es m still few =
          let none = still-pulled c i es still in
          let idle = one-idle (readable_at i z).pulling in
          (m, inr (still-settles c i es still, omega (arith, none, idle, few)))

      abbrev Side_next : Effect → List Effect → Type 0
      Side_next e es = (y : cross.Slots) × (Next c x y (row e s).slots × SideMode xs ps (row e s).slots y ((row e s).caused ++ es) ReadableSide)

      to-side : (e : Effect) (es : List Effect) → Read_next e es → Side_next e es
      to-side e es k = (k.0, (k.1.0, inl (rw (k.1.0.stream) (k.1.1))))

      cancelling-row : (e : Effect) (es : List Effect) → Each (May xs ps false true) (e ∷ es) → count c s + alive x ≤ n + 1 → Side_next e es
      cancelling-row e es m few =
          let l = lasting c s x is e (cancels-last e m.0) in
          let k = l.1.1 in
          (l.0, (l.1.0, inr (inl (cancels-row s ended halved e es m, omega (arith, k, few)))))

      turned-row : (e : Effect) (es : List Effect) → IsLook e → Each (Calm xs ps) es → count c s ≤ n → Side_next e es
      turned-row (OnPipe p operation) es look calm few =
          let e : Effect = OnPipe p operation in
          let l = muted c s x is e tt in
          let same = l.1.1 in
          let still = each-append (Still c i) (row e s).caused es (row-still c i e s tt) (calms-still es calm) in
          let kept : count c (row e s).slots ≤ n = omega (arith, same, few) in
          let alive_so = one-alive l.0.live in (
            l.0,
            (
              l.1.0,
              ⊎_elim
                  (λ k. inr (inr (k, kept)))
                  (λ o. ⊎_elim (λ m. inl (rw (l.1.0.stream) (begins-reading (row e s).slots ((row e s).caused ++ es) m still kept)))
                  (λ m. inr (inl (m, omega (arith, kept, alive_so)))) o)
                  (look-row s ended halved e es look calm),
            ),
          )
      turned-row e es look calm few = absurd look

      leading-row : (e : Effect) (es : List Effect) → Fits xs ps e → Leads xs ps (e ∷ es) → count c s ≤ n → Side_next e es
      leading-row e es f (inl k) few =
          let l = muted c s x is e (calm-mutes r e f k.0) in
          let same = l.1.1 in
          (l.0, (l.1.0, inr (inr (leads-behind xs ps (row e s).caused es (row-may s ended halved false false e k.0) k.1, omega (arith, same, few)))))
      leading-row e es f (inr k) few = turned-row e es k.0 k.1 few

      readable-row : (e : Effect) (es : List Effect) → Fits xs ps e → SideMode xs ps s x (e ∷ es) ReadableSide → Side_next e es
      readable-row e es f (inl k) = to-side e es (read-row e es f k)
      readable-row e es f (inr (inl k)) = cancelling-row e es k.0 k.1
      readable-row e es f (inr (inr k)) = leading-row e es f k.0 k.1

    -- either
    side-row : (e : Effect) (es : List Effect) → Fits xs ps e → SideMode xs ps s x (e ∷ es) x.side → Moved (row e s).slots ((row e s).caused ++ es)
    side-row e es f k = by x.side refl
      where
        by : (side : Side) → side ≡ x.side → Moved (row e s).slots ((row e s).caused ++ es)
        by ReadableSide q =
            let g = readable-row (sym q) e es f (subst (λ (side : Side). SideMode xs ps s x (e ∷ es) side) (sym q) k) in
            (g.0, (g.1.0, subst (λ (side : Side). SideMode xs ps (row e s).slots g.0 ((row e s).caused ++ es) side) q g.1.1))
        by WritableSide q =
            let w = subst (λ (side : Side). SideMode xs ps s x (e ∷ es) side) (sym q) k in
            writable-row (sym q) e es f w.0 w.1

    pub mode-row : (e : Effect) (es : List Effect) → Fits xs ps e → PortMode xs ps s (e ∷ es) (Some x) → PortMode xs ps (row e s).slots ((row e s).caused ++ es) (slice_get (row e s).slots.ports c.0)
    mode-row e es f (inl k) = posted-mode (slice_get (row e s).slots.ports c.0) (posting-row c n s x e es is k)
      where
        posted-mode : (o : Option cross.Slots) → Post_mode c n (posted c (row e s).slots.promises) ((row e s).caused ++ es) → PortMode xs ps (row e s).slots ((row e s).caused ++ es) o
        posted-mode None k = let h = k.1 in omega (arith, h)
        posted-mode (Some y) k = inl k
    mode-row e es f (inr k) =
        let g = side-row e es f k in
        rw (g.1.0.slot) (inr (rw (g.1.0.side) g.1.1))
