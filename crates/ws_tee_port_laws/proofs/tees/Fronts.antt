-- What is about to enter a branch of a tee: the enqueues into it that stand on the agenda are the tee's own, and it goes on with no other chunk
-- before they are performed.
use Rattle.std.proofs.Common.{◌≡◌, inl, inr, ℕ, zero, suc, ◌≤◌, Bool, true, false, not, ◌&&◌, ◌||◌, nat_eq, if◌then◌else◌, List, [], ◌∷◌, ◌++◌, map, Option, Some, None, Ok, Err, slice_get, refl, sym, ap, ◌∙◌, append_assoc, arith}
use Rattle.std.proofs.Common.{length}
use Rattle.ws_steps.specs.declared.effects.Effect.TheVariants.{Port as OnPort}
use Rattle.ws_value.specs.declared.ids.PortId.{PortId}
use Rattle.ws_value.specs.declared.ids.{PromiseId.{PromiseId}, StreamId.{StreamId}, TeeId.{TeeId}}
use Rattle.ws_value.specs.declared.value.{Plain.{Plain}, Plain.TheVariants.{Pair}, Value.{Value}}
use Rattle.ws_steps.specs.declared.calls.Call.{Call}
use Rattle.ws_steps.specs.declared.effects.{Effect.{Effect}, Effect.TheVariants.{Readable as OnReadable, Tee as OnTee, Transform as OnTransform, Give}}
use Rattle.ws_steps.specs.declared.effects.Gift.TheVariants.{This}
use Rattle.ws_steps.specs.declared.effects.Owner.{Owner}
use Rattle.ws_steps.specs.declared.effects.Owner.TheVariants.{Host, HalfOf, BranchOf, EndOf}
use Rattle.ws_steps.specs.declared.promises.Job.{Job}
use Rattle.ws_steps.specs.declared.readable.ReadableOperation.{ReadableOperation}
use Rattle.ws_steps.specs.declared.readable.ReadableOperation.TheVariants.{Enqueue, Close, Cancel, Error}
use Rattle.ws_steps.specs.declared.tee.{Half.{Half}, Half.TheVariants.{First, Second}, TeeOperation.{TeeOperation}, TeePhase.{TeePhase}, TeePhase.TheVariants.{Resting, Reading, Over}}
use Rattle.ws_steps.specs.declared.tee.TeeOperation.TheVariants as ops
use Rattle.ws_steps.specs.declared.transform.TransformId.{TransformId}
use Rattle.ws_steps.specs.declared.transform.TransformOperation.{TransformOperation}
use Rattle.ws_steps.specs.Begun.{Begun}
use Rattle.ws_steps.specs.PipeCalls.{start_end}
use Rattle.ws_steps.specs.Calls.{begin}
use Rattle.ws_steps.specs.Histories.{is_same}
use Rattle.ws_steps.specs.Jobs.{job_effects}
use Rattle.ws_steps.specs.Operations.{tee_operation, transform_operation, port_operation}
use Rattle.ws_steps.specs.Promises.{next_id, fresh}
use Rattle.ws_steps.specs.Slots.{Slots, Stream, ReadableStream, ByteStream, WritableStream, found, halves_at, on_transform_at, on_tee_at, as_readable, readable_at, on_port_at, clones_at}
use Rattle.ws_steps.specs.Tee as tee
use Rattle.ws_steps.specs.Tee.{Acts, causing, with_slots, reason_of, with_reason, is_wanted, on_branches, unless_cancelled, fulfil_cancel, pull_in, pull_branch, keep_chunk, close_in, close_branches, source_closed, source_errored, hand_held, hand_chunk, rested, again, handed, resolve_cancel, cancel_source, if_both, cancel_by, cancel_branch, reader_settled}
use Rattle.ws_steps.specs.Transform as transform
use Rattle.ws_steps.specs.Turns.{row}
use Rattle.ws_laws.proofs.ByteHands.{sum_of}
use Rattle.ws_laws.proofs.EachCall.{each_call}
use Rattle.ws_laws.proofs.Halves.{Halved}
use Rattle.ws_laws.proofs.Lists.{Each, each-append, each-map}
use Rattle.ws_laws.proofs.PipeDoes.{PipeCauses}
use Rattle.ws_laws.proofs.Apart.{IsNoTee}
use Rattle.ws_laws.proofs.Causes.{Causes, row-causes}
use Rattle.ws_laws.proofs.Shapes.{StreamShape, stream_shape, ReadableOf, branch_of, stream_shapes, transform_shapes, transform_shape, tee_shape, map-there, WritableOf}
use Rattle.ws_laws.proofs.Tables.{either, same_id, unequal_numbers}
use Rattle.ws_laws.proofs.TeeDoes.{IsBranch, TeeCauses, tee-causes}
use Rattle.ws_laws.proofs.TransformDoes.{TransformCauses, transform-causes}
use Rattle.ws_tee_port_laws.proofs.tees.OneRead.{of_effect}
use Rattle.ws_tee_port_laws.proofs.tees.Tied.{Tied}
use Rattle.ws_steps.specs.declared.port.PortOperation.{PortOperation}
use Rattle.ws_steps.specs.declared.port.Side.{Side}
use Rattle.ws_steps.specs.declared.port.Side.TheVariants.{Readable as ReadableSide, Writable as WritableSide}
use Rattle.ws_steps.specs.Cross as cross
use Rattle.ws_laws.proofs.PortDoes.{PortCauses, port-causes}
use Rattle.ws_laws.proofs.Ended.{end_shape, port_shape, port_shapes}

-- the values that are to be enqueued into stream b

abbrev pub enq : StreamId → Effect → List Value
enq b (OnReadable j (Enqueue v)) = if is_same b j then v ∷ [] else []
enq b _ = []

abbrev pub pend : StreamId → List Effect → List Value
pend b [] = []
pend b (e ∷ es) = enq b e ++ pend b es

abbrev pub NoEnq : StreamId → Effect → Type 0
NoEnq b e = enq b e ≡ []

pub pend-append : (b : StreamId) (es fs : List Effect) → pend b (es ++ fs) ≡ pend b es ++ pend b fs
pend-append b [] fs = refl
pend-append b (e ∷ es) fs = ap (λ vs. enq b e ++ vs) (pend-append b es fs) ∙ sym (append_assoc (enq b e) (pend b es) (pend b fs))

pub none-pend : (b : StreamId) (es : List Effect) → Each (NoEnq b) es → pend b es ≡ []
none-pend b [] n = refl
none-pend b (e ∷ es) n = rw (n.0) (none-pend b es n.1)

pub calm-pend : (b : StreamId) (cs es : List Effect) → Each (NoEnq b) cs → pend b (cs ++ es) ≡ pend b es
calm-pend b cs es n = pend-append b cs es ∙ ap (λ vs. vs ++ pend b es) (none-pend b cs n)

-- each has the tee's own operation behind it, by which it goes on

abbrev pub hands_on : TeeId → Effect → Bool
hands_on t (OnTee u ops.Handed) = nat_eq t.0 u.0
hands_on t _ = false

abbrev pub any_hands : TeeId → List Effect → Bool
any_hands t [] = false
any_hands t (e ∷ es) = hands_on t e || any_hands t es

abbrev pub Followed : TeeId → StreamId → List Effect → Type 0
Followed t b [] = Unit {0}
Followed t b (e ∷ es) = (any_hands t es ≡ false → enq b e ≡ []) × Followed t b es

pub followed-calm : (t : TeeId) (b : StreamId) (cs es : List Effect) → Each (NoEnq b) cs → Followed t b es → Followed t b (cs ++ es)
followed-calm t b [] es n f = f
followed-calm t b (c ∷ cs) es n f = (λ e. n.0, followed-calm t b cs es n.1 f)

or_none : (a b : Bool) → (a || b) ≡ false → (a ≡ false) × (b ≡ false)
or_none true b e = cc
or_none false b e = (refl, e)

pub unhanded : (t : TeeId) (b : StreamId) (es : List Effect) → Followed t b es → any_hands t es ≡ false → pend b es ≡ []
unhanded t b [] f n = refl
unhanded t b (e ∷ es) f n = let k = or_none (hands_on t e) (any_hands t es) n in rw (f.0 k.1) (unhanded t b es f.1 k.1)

hands-one : (t : TeeId) (e : Effect) → hands_on t e ≡ true → 1 ≤ of_effect t e
hands-one t (OnTee u ops.Handed) h = rw h (omega arith)
hands-one t e h = grind (arith, h)

pub none-hands : (t : TeeId) (es : List Effect) → sum_of (of_effect t) es ≡ 0 → any_hands t es ≡ false
none-hands t [] n = refl
none-hands t (e ∷ es) n = by (hands_on t e) refl (none-hands t es (omega (arith, n)))
  where
    by : (h : Bool) → hands_on t e ≡ h → any_hands t es ≡ false → (hands_on t e || any_hands t es) ≡ false
    by true h rest = let k = hands-one t e h in absurd (omega (arith, n, k))
    by false h rest = rw h rest

-- what a branch is
branch-shape : (s : Slots) (u : TeeId) (x : tee.Slots) (i : StreamId) → Halved s → slice_get s.tees u.0 ≡ Some x → IsBranch x.branch1 x.branch2 i
    → (half : Half) × (slice_get (stream_shapes s) i.0 ≡ Some (ReadableOf (BranchOf u half)))
branch-shape s u x i halved at (inl is) = (First, rw is (halved.branches u (tee_shape x) (map-there tee_shape s.tees u.0 x at)).0)
branch-shape s u x i halved at (inr is) = (Second, rw is (halved.branches u (tee_shape x) (map-there tee_shape s.tees u.0 x at)).1)

-- the owner of a readable stream is told by its shape
readable-owner : (xs : List Stream) (n : ℕ) (w : Owner) → slice_get (map stream_shape xs) n ≡ Some (ReadableOf w) → (as_readable (slice_get xs n)).owner ≡ w
readable-owner [] n w e = cc
readable-owner (ReadableStream r ∷ xs) zero w e = cc
readable-owner (ByteStream r ∷ xs) zero w e = cc
readable-owner (WritableStream r ∷ xs) zero w e = cc
readable-owner (x ∷ xs) (suc n) w e = readable-owner xs n w e

-- who enqueues into a branch

module _ (t : TeeId) (half : Half) (b : StreamId) (s : Slots) (tied : Tied s) (x : tee.Slots) (there : slice_get s.tees t.0 ≡ Some x) (is : branch_of half (tee_shape x) ≡ b) where
  pub shape : slice_get (stream_shapes s) b.0 ≡ Some (ReadableOf (BranchOf t half))
  shape = rw (← is) (by half)
    where
      both : (slice_get (stream_shapes s) x.branch1.0 ≡ Some (ReadableOf (BranchOf t First))) × (slice_get (stream_shapes s) x.branch2.0 ≡ Some (ReadableOf (BranchOf t Second)))
      both = tied.0.branches t (tee_shape x) (map-there tee_shape s.tees t.0 x there)

      by : (h : Half) → slice_get (stream_shapes s) (branch_of h (tee_shape x)).0 ≡ Some (ReadableOf (BranchOf t h))
      by First = both.0
      by Second = both.1

  apart : (j : StreamId) (v : Value) → (j ≡ b → ⊥) → NoEnq b (OnReadable j (Enqueue v))
  apart j v n = by (is_same b j) refl
    where
      by : (same : Bool) → is_same b j ≡ same → NoEnq b (OnReadable j (Enqueue v))
      by true e = absurd (n (sym (same_id b j e)))
      by false e = rw e refl

  not-half : (j : StreamId) (u : TransformId) → slice_get (stream_shapes s) j.0 ≡ Some (ReadableOf (HalfOf u)) → j ≡ b → ⊥
  not-half j u e same =
      let both : ◌≡◌ {A = Option StreamShape} (Some (ReadableOf (HalfOf u))) (Some (ReadableOf (BranchOf t half))) = sym e ∙ (ap (λ (k : StreamId). slice_get (stream_shapes s) k.0) same ∙ shape) in
      cc

  transform-not : (u : TransformId) (writable readable : StreamId) → (readable ≡ b → ⊥) → (e : Effect) → TransformCauses u writable readable e → NoEnq b e
  transform-not u writable readable n (OnReadable j (Enqueue v)) c = apart j v (λ m. n (sym c ∙ m))
  transform-not u writable readable n e c = grind (arith, c)

  transformed : (u : TransformId) (operation : TransformOperation) (o : Option transform.Slots) → slice_get s.transforms u.0 ≡ o → Each (NoEnq b) (on_transform_at (λ halves. transform_operation u halves operation) u s o).caused
  transformed u operation None e = tt
  transformed u operation (Some y) e =
      let at : slice_get (transform_shapes s) u.0 ≡ Some (transform_shape y) = map-there transform_shape s.transforms u.0 y e in
      each-map (TransformCauses u y.writable y.readable) (NoEnq b) (transform-not u y.writable y.readable (not-half y.readable u (tied.0.halves u (transform_shape y) at).0)) _
      (transform-causes u (halves_at y s) operation (record { slots = y; out = found s }) tt).1.1.1

  tee-not : (u : TeeId) (source first second : StreamId) → ((j : StreamId) → IsBranch first second j → j ≡ b → ⊥) → (e : Effect) → TeeCauses u source first second e → NoEnq b e
  tee-not u source first second n (OnReadable j (Enqueue v)) c = apart j v (λ m. n j c m)
  tee-not u source first second n e c = grind (arith, c)

  -- no port has it as its stream
  not-end : (j : StreamId) (c : PortId) (side : Side) → slice_get (stream_shapes s) j.0 ≡ Some (end_shape c side) → j ≡ b → ⊥
  not-end j c ReadableSide e same =
      let both : ◌≡◌ {A = Option StreamShape} (Some (ReadableOf (EndOf c))) (Some (ReadableOf (BranchOf t half))) = sym e ∙ (ap (λ (k : StreamId). slice_get (stream_shapes s) k.0) same ∙ shape) in
      cc
  not-end j c WritableSide e same =
      let both : ◌≡◌ {A = Option StreamShape} (Some (WritableOf (EndOf c))) (Some (ReadableOf (BranchOf t half))) = sym e ∙ (ap (λ (k : StreamId). slice_get (stream_shapes s) k.0) same ∙ shape) in
      cc

  port-not : (c : PortId) (stream : StreamId) → (stream ≡ b → ⊥) → (e : Effect) → PortCauses c stream e → NoEnq b e
  port-not c stream n (OnReadable j (Enqueue v)) k = apart j v (λ m. n (sym k ∙ m))
  port-not c stream n e k = grind (arith, k)

  ported : (c : PortId) (operation : PortOperation) (o : Option cross.Slots) → slice_get s.ports c.0 ≡ o → Each (NoEnq b) (on_port_at (λ clones. port_operation c clones operation) c s o).caused
  ported c operation None e = tt
  ported c operation (Some y) e =
      let at : slice_get (port_shapes s) c.0 ≡ Some (port_shape y) = map-there port_shape s.ports c.0 y e in
      each-map (PortCauses c y.stream) (NoEnq b) (port-not c y.stream (not-end y.stream c y.side (tied.1.ends c (port_shape y) at))) _
      (port-causes c (clones_at y s) operation (record { slots = y; out = found s }) tt).1.1

  other-branch : (u : TeeId) (y : tee.Slots) (j : StreamId) → nat_eq t.0 u.0 ≡ false → slice_get s.tees u.0 ≡ Some y → IsBranch y.branch1 y.branch2 j → j ≡ b → ⊥
  other-branch u y j n at br same =
      let k = branch-shape s u y j tied.0 at br in
      let both : ◌≡◌ {A = Option StreamShape} (Some (ReadableOf (BranchOf u k.0))) (Some (ReadableOf (BranchOf t half))) = sym k.1 ∙ (ap (λ (k : StreamId). slice_get (stream_shapes s) k.0) same ∙ shape) in
      let it : u ≡ t = cc in
      unequal_numbers t.0 u.0 n (ap (λ (v : TeeId). v.0) (sym it))

  pub teed-none : (u : TeeId) (operation : TeeOperation) (o : Option tee.Slots) → nat_eq t.0 u.0 ≡ false → slice_get s.tees u.0 ≡ o → Each (NoEnq b) (on_tee_at (tee_operation u operation) u s o).caused
  teed-none u operation None n e = tt
  teed-none u operation (Some y) n e =
      each-map (TeeCauses u y.source y.branch1 y.branch2) (NoEnq b) (tee-not u y.source y.branch1 y.branch2 (λ j br. other-branch u y j n e br)) _
      ((tee-causes u operation (record { slots = y; out = found s })).effects tt)

  pipe_none : (source dest : StreamId) (e : Effect) → (p : _) → PipeCauses p source dest e → NoEnq b e
  pipe_none source dest e p c = grind (arith, c)

  abbrev IsPlain : Effect → Type 0
  IsPlain (OnTransform u operation) = ⊥
  IsPlain (OnTee u operation) = ⊥
  IsPlain (OnPort c operation) = ⊥
  IsPlain _ = Unit {0}

  plain-causes : (e : Effect) → IsPlain e → Causes (NoEnq b) e
  plain-causes e n = grind (arith, n, pipe_none)

  pub row-none : (e : Effect) → IsNoTee e → Each (NoEnq b) (row e s).caused
  unfolding row
  row-none (OnTransform u operation) n = transformed u operation (slice_get s.transforms u.0) refl
  row-none (OnTee u operation) n = absurd n
  row-none (OnPort c operation) n = ported c operation (slice_get s.ports c.0) refl
  row-none e n = row-causes (NoEnq b) e s (plain-causes e tt)

  -- no call of the host does
  not-host : (i : StreamId) → (readable_at i s).owner ≡ Host → i ≡ b → ⊥
  not-host i e same =
      let mine : (readable_at b s).owner ≡ BranchOf t half = readable-owner s.streams b.0 (BranchOf t half) shape in
      let wrong : Host ≡ BranchOf t half = sym e ∙ (ap (λ (k : StreamId). (readable_at k s).owner) same ∙ mine) in
      cc

  start-none : (i : StreamId) (side : Side) → NoEnq b (start_end i side)
  start-none i ReadableSide = refl
  start-none i WritableSide = refl

  pub call-none : (c : Call) → Each (NoEnq b) (begin c s).done.caused
  call-none c = each_call (λ (z : Begun). Each (NoEnq b) z.done.caused) c s (record {
    unchanged = λ reply. tt;
    rejected = λ fault. (refl, tt);
    make_readable = λ mark size start. (refl, tt);
    make_bytes = λ mark auto start. (refl, tt);
    make_writable = λ mark size start. (refl, tt);
    make_transform = λ kind m n start. grind arith;
    make_tee = λ i e there free untied. (refl, (refl, (refl, (refl, tt))));
    get_reader = λ i e. (refl, tt);
    get_byob = λ i is e. (refl, tt);
    get_writer = λ i e. (refl, tt);
    release_reader = λ l closed i e. grind (arith, each-append);
    release_byob = λ l closed i e. grind (arith, each-append);
    release_writer = λ l i w e f. grind (arith, each-append);
    cancel = λ reason i. (refl, tt);
    read = λ l i closed e f. (refl, tt);
    read_into = λ l i closed room element least e f. (refl, tt);
    write = λ l v i e. (refl, tt);
    close = λ i. (refl, tt);
    abort = λ reason i e. (refl, tt);
    enqueue = λ i v e o can. (apart i v (not-host i o), tt);
    enqueue_half = λ i u v e o can. (refl, tt);
    enqueue_bytes = λ i bs e is some can. (refl, tt);
    finish = λ i. (refl, tt);
    finish_bytes = λ i e is can. (refl, tt);
    make_request = λ i reply is. (refl, tt);
    respond = λ q i bs e is can. (refl, tt);
    fail_readable = λ i reason. (refl, tt);
    fail_writable = λ i reason. (refl, tt);
    fail_half = λ u reason. (refl, tt);
    terminate = λ u. (refl, tt);
    pipe = λ source dest prevent signal e f l m. grind (arith, each-append);
    make_signal = tt;
    open_end = λ side. (start-none (record { 0 = length s.streams }) side, tt);
    send_readable = λ i there free. (refl, (refl, (refl, (refl, (refl, (refl, (refl, tt)))))));
    send_writable = λ i there free. (refl, (refl, (refl, (refl, (refl, (refl, (refl, tt)))))));
    deliver = λ p m e is. (refl, tt);
    trigger = λ a reason. (refl, tt);
    settle = λ h answer p e. grind arith;
  })

-- operations of the tee itself but the one that hands a chunk on

module _ (t : TeeId) (b : StreamId) where
  abbrev Calm : Acts → Acts → Type 0
  Calm a z = Each (NoEnq b) a.out.effects → Each (NoEnq b) z.out.effects

  more : (a z : Acts) (es : List Effect) → Calm a z → Each (NoEnq b) es → Calm a (causing es z)
  more a z es k n h = each-append (NoEnq b) z.out.effects es (k h) n

  unless-calm : (r : Option Plain) (j : StreamId) (operation : ReadableOperation) → NoEnq b (OnReadable j operation) → Each (NoEnq b) (unless_cancelled r j operation)
  unless-calm None j operation n = (n, tt)
  unless-calm (Some r) j operation n = tt

  branches-calm : (x : tee.Slots) (operation : ReadableOperation) → ((j : StreamId) → NoEnq b (OnReadable j operation)) → Each (NoEnq b) (on_branches operation x)
  branches-calm x operation n =
      each-append (NoEnq b) (unless_cancelled x.reason1 x.branch1 operation) (unless_cancelled x.reason2 x.branch2 operation)
      (unless-calm x.reason1 x.branch1 operation (n x.branch1)) (unless-calm x.reason2 x.branch2 operation (n x.branch2))

  fulfil-calm : (a z : Acts) → Calm a z → Calm a (fulfil_cancel z)
  fulfil-calm a z k = either (Calm a) (is_wanted z.slots && not z.slots.answered) _ z (λ e h. each-append (NoEnq b) z.out.effects _ (k h) (refl, tt)) (λ e. k)

  pull-calm : (a : Acts) (phase : TeePhase) → Calm a (pull_in t a phase)
  pull-calm a Resting h = each-append (NoEnq b) a.out.effects _ h (refl, tt)
  pull-calm a Reading h = h
  pull-calm a Over h = h

  closes-calm : (a : Acts) → Calm a (close_branches a)
  closes-calm a =
      let z : Acts = with_slots (record a.slots { phase = Over }) a in
      fulfil-calm a (causing (on_branches Close a.slots) z) (λ h. each-append (NoEnq b) a.out.effects (on_branches Close a.slots) h (branches-calm a.slots Close (λ j. refl)))

  close-calm : (a : Acts) (phase : TeePhase) → Calm a (close_in a phase)
  close-calm a Resting = closes-calm a
  close-calm a Reading = closes-calm a
  close-calm a Over = λ h. h

  again-calm : (a : Acts) (asked : Bool) → Calm a (again t a asked)
  unfolding pull_branch
  again-calm a true = pull-calm a a.slots.phase
  again-calm a false = λ h. h

  resolve-calm : (p : PromiseId) (a z : Acts) → Calm a z → Calm a (resolve_cancel p z)
  resolve-calm p a z k = either (Calm a) z.slots.answered z _ (λ e. k) (λ e h. each-append (NoEnq b) z.out.effects _ (k h) (refl, tt))

  both-calm : (a z : Acts) → Calm a z → Calm a (if_both t z)
  both-calm a z k = either (Calm a) (is_wanted z.slots) z (cancel_source t z) (λ e. k) (λ e. sourced e)
    where
      sourced : is_wanted z.slots ≡ false → Calm a (cancel_source t z)
      sourced e =
          let p : PromiseId = next_id z.out.promises in
          let c : Acts = causing (OnReadable z.slots.source (Cancel (Pair t) p) ∷ []) (record z { out = record z.out { promises = fresh z.out.promises } }) in
          resolve-calm p a c (λ h. each-append (NoEnq b) z.out.effects (OnReadable z.slots.source (Cancel (Pair t) p) ∷ []) (k h) (refl, tt))

  cancel-calm : (half : Half) (r : Plain) (a : Acts) (old : Option Plain) → Calm a (cancel_by t half r a old)
  cancel-calm half r a (Some old) = λ h. h
  cancel-calm half r a None = both-calm a (with_slots (with_reason half r a.slots) a) (λ h. h)

  abbrev pub IsHandless : TeeOperation → Type 0
  IsHandless ops.HandChunk = ⊥
  IsHandless _ = Unit {0}

  pub own-calm : (operation : TeeOperation) (a : Acts) → IsHandless operation → Calm a (tee_operation t operation a)
  unfolding pull_branch keep_chunk source_closed source_errored handed cancel_branch reader_settled
  own-calm ops.PullBranch a n = pull-calm a a.slots.phase
  own-calm (ops.KeepChunk v) a n = λ h. h
  own-calm ops.SourceClosed a n = close-calm a a.slots.phase
  own-calm ops.SourceErrored a n = λ h. h
  own-calm ops.HandChunk a n = absurd n
  own-calm ops.Handed a n = again-calm (with_slots (record a.slots { phase = rested a.slots.phase }) a) a.slots.read_again
  own-calm (ops.CancelBranch half r u) a n = more a (cancel_by t half r a (reason_of half a.slots)) (Give (This a.slots.cancel) u ∷ []) (cancel-calm half r a (reason_of half a.slots)) (refl, tt)
  own-calm (ops.ReaderSettled (Ok v)) a n = λ h. h
  own-calm (ops.ReaderSettled (Err r)) a n =
      let es : List Effect = OnReadable a.slots.branch1 (Error r) ∷ OnReadable a.slots.branch2 (Error r) ∷ [] in fulfil-calm a (causing es a) (more a a es (λ h. h) (refl, (refl, tt)))

-- a job enqueues nothing
pub job-none : (b : StreamId) (job : Job) → Each (NoEnq b) (job_effects job)
job-none b job = grind (arith, each-append)
