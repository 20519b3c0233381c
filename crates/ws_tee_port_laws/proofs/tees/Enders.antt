-- Who closes a branch of a tee, or errors it: the tee alone, where its source is closed or its reader's closed promise was rejected.
use Rattle.std.proofs.Common.{◌≡◌, ◌⊎◌, inl, inr, ℕ, zero, suc, Bool, true, false, nat_eq, List, [], ◌∷◌, map, Option, Some, None, Ok, Err, slice_get, refl, sym, ap, ◌∙◌, arith}
use Rattle.ws_steps.specs.declared.effects.Owner.TheVariants.{EndOf}
use Rattle.ws_value.specs.declared.ids.PortId.{PortId}
use Rattle.ws_steps.specs.declared.effects.Effect.TheVariants.{Port as OnPort}
use Rattle.ws_value.specs.declared.ids.{PromiseId.{PromiseId}, StreamId.{StreamId}, TeeId.{TeeId}}
use Rattle.ws_value.specs.declared.value.{Plain.{Plain}}
use Rattle.ws_steps.specs.declared.calls.Call.{Call}
use Rattle.ws_steps.specs.declared.calls.Call.TheVariants.{MakeReadable, MakeBytes, MakeWritable, MakeTransform, Tee as TeeCall, GetReader, GetByob, GetWriter, Cancel, CancelBy, Read, ReadInto, Write, Close as CloseWritable, CloseBy, Abort as AbortWritable, AbortBy, Closed, Ready, Release, Enqueue as EnqueueCall, Finish, Fail, Terminate, Request, Respond, Desired, DesiredBy, Pipe as PipeCall, MakeSignal, Trigger as TriggerCall, Settle as SettleCall, State, Step as StepCall, Send, Open, Deliver}
use Rattle.ws_steps.specs.declared.effects.{Effect.{Effect}, Effect.TheVariants.{Readable as OnReadable, Tee as OnTee, Transform as OnTransform}, Owner.{Owner}, Owner.TheVariants.{Host, HalfOf, BranchOf}}
use Rattle.ws_steps.specs.declared.promises.{Job.{Job}, Job.TheVariants.{Reaction as ReactionJob}, Step.TheVariants.{TeeEnds}}
use Rattle.ws_steps.specs.declared.readable.ReadableOperation.TheVariants.{Close, Error}
use Rattle.ws_steps.specs.declared.tee.{Half.{Half}, Half.TheVariants.{First, Second}, TeeOperation.{TeeOperation}}
use Rattle.ws_steps.specs.declared.tee.TeeOperation.TheVariants as ops
use Rattle.ws_steps.specs.declared.transform.TransformId.{TransformId}
use Rattle.ws_steps.specs.declared.transform.TransformOperation.{TransformOperation}
use Rattle.ws_steps.specs.Bytes as byte
use Rattle.ws_steps.specs.Begun.{Begun}
use Rattle.ws_steps.specs.Calls.{begin}
use Rattle.ws_steps.specs.Begun as replying
use Rattle.ws_steps.specs.ControllerCalls as controller_calls
use Rattle.ws_steps.specs.Histories.{is_same}
use Rattle.ws_steps.specs.Jobs.{job_effects}
use Rattle.ws_steps.specs.Operations.{tee_operation, transform_operation, port_operation}
use Rattle.ws_steps.specs.Readable.{can_close_or_enqueue}
use Rattle.ws_steps.specs.Slots.{Slots, lock_at, Stream, ReadableStream, ByteStream, WritableStream, found, halves_at, has_byte, has_readable, has_writable, is_byte_stream, on_transform_at, on_tee_at, as_readable, readable_at, byte_at, writable_at, on_port_at, clones_at}
use Rattle.ws_steps.specs.Tee as tee
use Rattle.ws_steps.specs.Transform as transform
use Rattle.ws_steps.specs.Turns.{row}
use Rattle.ws_laws.proofs.Into.{into-either}
use Rattle.ws_laws.proofs.Halves.{Halved}
use Rattle.ws_laws.proofs.Lists.{Each, each-append, each-map}
use Rattle.ws_laws.proofs.PipeDoes.{PipeCauses}
use Rattle.ws_laws.proofs.Apart.{IsNoTee}
use Rattle.ws_laws.proofs.Causes.{Causes, row-causes}
use Rattle.ws_laws.proofs.Shapes.{StreamShape, stream_shape, ReadableOf, branch_of, stream_shapes, transform_shapes, transform_shape, tee_shape, map-there, WritableOf}
use Rattle.ws_laws.proofs.Tables.{either, same_id, eq_numbers, unequal_numbers}
use Rattle.ws_laws.proofs.TeeDoes.{IsBranch, TeeCauses, tee-causes}
use Rattle.ws_laws.proofs.TransformDoes.{TransformCauses, transform-causes}
use Rattle.ws_tee_port_laws.proofs.tees.Fronts.{shape}
use Rattle.ws_tee_port_laws.proofs.tees.Owns.{IsBasic, own-each}
use Rattle.ws_tee_port_laws.proofs.tees.Tied.{Tied}
use Rattle.ws_steps.specs.declared.port.PortOperation.{PortOperation}
use Rattle.ws_steps.specs.declared.port.Side.{Side}
use Rattle.ws_steps.specs.declared.port.Side.TheVariants.{Readable as ReadableSide, Writable as WritableSide}
use Rattle.ws_steps.specs.Cross as cross
use Rattle.ws_laws.proofs.PortDoes.{PortCauses, port-causes}
use Rattle.ws_laws.proofs.Ended.{end_shape, port_shape, port_shapes}

-- an effect by which branch b ends, but for a cancel and what its own start and pull give
abbrev pub ends : TeeId → StreamId → Effect → Bool
ends t b (OnReadable j Close) = is_same b j
ends t b (OnReadable j (Error r)) = is_same b j
ends t b (OnTee u (ops.ReaderSettled (Err r))) = nat_eq t.0 u.0
ends t b _ = false

abbrev pub NoEnd : TeeId → StreamId → Effect → Type 0
NoEnd t b e = ends t b e ≡ false

default-only : (xs : List Stream) (n : ℕ) (w : Owner) → slice_get (map stream_shape xs) n ≡ Some (ReadableOf w) → (is_byte_stream (slice_get xs n) ≡ false) × ((as_readable (slice_get xs n)).owner ≡ w)
default-only [] n w e = cc
default-only (ReadableStream r ∷ xs) zero w e = (refl, cc)
default-only (ByteStream r ∷ xs) zero w e = cc
default-only (WritableStream r ∷ xs) zero w e = cc
default-only (x ∷ xs) (suc n) w e = default-only xs n w e

-- the shape of a branch of a tee
branch-shape : (s : Slots) (u : TeeId) (x : tee.Slots) (i : StreamId) → Halved s → slice_get s.tees u.0 ≡ Some x → IsBranch x.branch1 x.branch2 i
    → (half : Half) × (slice_get (stream_shapes s) i.0 ≡ Some (ReadableOf (BranchOf u half)))
branch-shape s u x i halved at (inl is) = (First, rw is (halved.branches u (tee_shape x) (map-there tee_shape s.tees u.0 x at)).0)
branch-shape s u x i halved at (inr is) = (Second, rw is (halved.branches u (tee_shape x) (map-there tee_shape s.tees u.0 x at)).1)

-- effects that calls begin with, but for two
abbrev IsGentle : Effect → Type 0
IsGentle (OnReadable j Close) = ⊥
IsGentle (OnReadable j (Error r)) = ⊥
IsGentle (OnTee u operation) = ⊥
IsGentle _ = Unit {0}

abbrev is_odd : Call → Bool
is_odd (Finish i) = true
is_odd (Fail i reason) = true
is_odd _ = false

call-gentle : (c : Call) (s : Slots) → is_odd c ≡ false → Each IsGentle (begin c s).done.caused
unfolding begin
call-gentle (MakeReadable mark size start) s o = grind arith
call-gentle (MakeBytes mark auto start) s o = grind arith
call-gentle (MakeWritable mark size start) s o = grind arith
call-gentle (MakeTransform kind m n start) s o = grind arith
call-gentle (TeeCall i) s o = grind arith
call-gentle (GetReader i) s o = grind arith
call-gentle (GetByob i) s o = grind arith
call-gentle (GetWriter i) s o = grind arith
call-gentle (Cancel i reason) s o = grind arith
call-gentle (CancelBy l reason) s o = grind arith
call-gentle (Read l) s o = grind arith
call-gentle (ReadInto l room element least) s o = into-either (λ b. Each IsGentle b.done.caused) room element least s _ (λ f. _) (λ i. _) (lock_at l s)
call-gentle (Write l v) s o = grind arith
call-gentle (CloseWritable i) s o = grind arith
call-gentle (CloseBy l) s o = grind arith
call-gentle (AbortWritable i reason) s o = grind arith
call-gentle (AbortBy l reason) s o = grind arith
call-gentle (Closed l) s o = grind arith
call-gentle (Ready l) s o = grind arith
call-gentle (Release l) s o = grind (arith, each-append)
call-gentle (EnqueueCall i v) s o = grind arith
call-gentle (Finish i) s o = cc
call-gentle (Fail i reason) s o = cc
call-gentle (Terminate i) s o = grind arith
call-gentle (Request i) s o = grind arith
call-gentle (Respond q v) s o = grind arith
call-gentle (Desired i) s o = grind arith
call-gentle (DesiredBy l) s o = grind arith
call-gentle (PipeCall source dest prevent signal) s o = grind (arith, each-append)
call-gentle MakeSignal s o = grind arith
call-gentle (TriggerCall a reason) s o = grind arith
call-gentle (Send i) s o = grind (arith, each-append)
call-gentle (Open side) s o = grind arith
call-gentle (Deliver p m) s o = grind arith
call-gentle (SettleCall h answer) s o = grind arith
call-gentle (State i) s o = grind arith
call-gentle StepCall s o = grind arith

module _ (t : TeeId) (half : Half) (b : StreamId) where
  gentle-none : (e : Effect) → IsGentle e → NoEnd t b e
  gentle-none e n = grind (arith, n)

  basic-none : (e : Effect) → IsBasic e → NoEnd t b e
  basic-none e n = grind (arith, n)

  -- the tee's own operations but two
  abbrev pub IsMild : TeeOperation → Type 0
  IsMild ops.SourceClosed = ⊥
  IsMild (ops.ReaderSettled (Err r)) = ⊥
  IsMild _ = Unit {0}

  pub own-none : (operation : TeeOperation) (a : tee.Acts) → IsMild operation → Each (NoEnd t b) a.out.effects → Each (NoEnd t b) (tee_operation t operation a).out.effects
  own-none ops.SourceClosed a n h = absurd n
  own-none (ops.ReaderSettled (Err r)) a n h = absurd n
  own-none ops.HandChunk a n h = own-each t (NoEnd t b) basic-none ops.HandChunk a (λ v e. (refl, (refl, refl))) h
  own-none operation a n h = own-each t (NoEnd t b) basic-none operation a tt h

  module _ (s : Slots) (tied : Tied s) (x : tee.Slots) (there : slice_get s.tees t.0 ≡ Some x) (is : branch_of half (tee_shape x) ≡ b) where
    mine : slice_get (stream_shapes s) b.0 ≡ Some (ReadableOf (BranchOf t half))
    mine = shape t half b s tied x there is

    other : (j : StreamId) → (j ≡ b → ⊥) → is_same b j ≡ false
    other j n = by (is_same b j) refl
      where
        by : (same : Bool) → is_same b j ≡ same → is_same b j ≡ false
        by true e = absurd (n (sym (same_id b j e)))
        by false e = e

    not-half : (j : StreamId) (u : TransformId) → slice_get (stream_shapes s) j.0 ≡ Some (ReadableOf (HalfOf u)) → j ≡ b → ⊥
    not-half j u e same =
        let both : ◌≡◌ {A = Option StreamShape} (Some (ReadableOf (HalfOf u))) (Some (ReadableOf (BranchOf t half))) = sym e ∙ (ap (λ (k : StreamId). slice_get (stream_shapes s) k.0) same ∙ mine) in
        cc

    transform-not : (u : TransformId) (writable readable : StreamId) → (readable ≡ b → ⊥) → (e : Effect) → TransformCauses u writable readable e → NoEnd t b e
    transform-not u writable readable n (OnReadable j Close) c = other j (λ m. n (sym c ∙ m))
    transform-not u writable readable n (OnReadable j (Error r)) c = other j (λ m. n (sym c ∙ m))
    transform-not u writable readable n e c = grind (arith, c)

    transformed : (u : TransformId) (operation : TransformOperation) (o : Option transform.Slots) → slice_get s.transforms u.0 ≡ o
        → Each (NoEnd t b) (on_transform_at (λ halves. transform_operation u halves operation) u s o).caused
    transformed u operation None e = tt
    transformed u operation (Some y) e =
        let at : slice_get (transform_shapes s) u.0 ≡ Some (transform_shape y) = map-there transform_shape s.transforms u.0 y e in
        each-map (TransformCauses u y.writable y.readable) (NoEnd t b) (transform-not u y.writable y.readable (not-half y.readable u (tied.0.halves u (transform_shape y) at).0)) _
        (transform-causes u (halves_at y s) operation (record { slots = y; out = found s }) tt).1.1.1

    tee-not : (u : TeeId) (source first second : StreamId) → ((j : StreamId) → IsBranch first second j → j ≡ b → ⊥) → (e : Effect) → TeeCauses u source first second e → NoEnd t b e
    tee-not u source first second n (OnReadable j Close) c = other j (λ m. n j c m)
    tee-not u source first second n (OnReadable j (Error r)) c = other j (λ m. n j c m)
    tee-not u source first second n e c = grind (arith, c)

    -- no port has it as its stream
    not-end : (j : StreamId) (c : PortId) (side : Side) → slice_get (stream_shapes s) j.0 ≡ Some (end_shape c side) → j ≡ b → ⊥
    not-end j c ReadableSide e same =
        let both : ◌≡◌ {A = Option StreamShape} (Some (ReadableOf (EndOf c))) (Some (ReadableOf (BranchOf t half))) = sym e ∙ (ap (λ (k : StreamId). slice_get (stream_shapes s) k.0) same ∙ mine) in
        cc
    not-end j c WritableSide e same =
        let both : ◌≡◌ {A = Option StreamShape} (Some (WritableOf (EndOf c))) (Some (ReadableOf (BranchOf t half))) = sym e ∙ (ap (λ (k : StreamId). slice_get (stream_shapes s) k.0) same ∙ mine) in
        cc

    port-not : (c : PortId) (stream : StreamId) → (stream ≡ b → ⊥) → (e : Effect) → PortCauses c stream e → NoEnd t b e
    port-not c stream n (OnReadable j Close) k = other j (λ m. n (sym k ∙ m))
    port-not c stream n (OnReadable j (Error r)) k = other j (λ m. n (sym k ∙ m))
    port-not c stream n e k = grind (arith, k)

    ported : (c : PortId) (operation : PortOperation) (o : Option cross.Slots) → slice_get s.ports c.0 ≡ o
        → Each (NoEnd t b) (on_port_at (λ clones. port_operation c clones operation) c s o).caused
    ported c operation None e = tt
    ported c operation (Some y) e =
        let at : slice_get (port_shapes s) c.0 ≡ Some (port_shape y) = map-there port_shape s.ports c.0 y e in
        each-map (PortCauses c y.stream) (NoEnd t b) (port-not c y.stream (not-end y.stream c y.side (tied.1.ends c (port_shape y) at))) _
        (port-causes c (clones_at y s) operation (record { slots = y; out = found s }) tt).1.1

    other-branch : (u : TeeId) (y : tee.Slots) (j : StreamId) → nat_eq t.0 u.0 ≡ false → slice_get s.tees u.0 ≡ Some y → IsBranch y.branch1 y.branch2 j → j ≡ b → ⊥
    other-branch u y j n at br same =
        let k = branch-shape s u y j tied.0 at br in
        let both : ◌≡◌ {A = Option StreamShape} (Some (ReadableOf (BranchOf u k.0))) (Some (ReadableOf (BranchOf t half))) = sym k.1 ∙ (ap (λ (k : StreamId). slice_get (stream_shapes s) k.0) same ∙ mine) in
        let it : u ≡ t = cc in
        unequal_numbers t.0 u.0 n (ap (λ (v : TeeId). v.0) (sym it))

    teed : (u : TeeId) (operation : TeeOperation) (o : Option tee.Slots) → nat_eq t.0 u.0 ≡ false → slice_get s.tees u.0 ≡ o → Each (NoEnd t b) (on_tee_at (tee_operation u operation) u s o).caused
    teed u operation None n e = tt
    teed u operation (Some y) n e =
        each-map (TeeCauses u y.source y.branch1 y.branch2) (NoEnd t b) (tee-not u y.source y.branch1 y.branch2 (λ j br. other-branch u y j n e br)) _
        ((tee-causes u operation (record { slots = y; out = found s })).effects tt)

    -- another tee's operation
    pub other-none : (u : TeeId) (operation : TeeOperation) → nat_eq t.0 u.0 ≡ false → Each (NoEnd t b) (row (OnTee u operation) s).caused
    unfolding row
    other-none u operation n = teed u operation (slice_get s.tees u.0) n refl

    pipe_none : (source dest : StreamId) (e : Effect) → (p : _) → PipeCauses p source dest e → NoEnd t b e
    pipe_none source dest e p c = grind (arith, c)

    abbrev IsPlain : Effect → Type 0
    IsPlain (OnTransform u operation) = ⊥
    IsPlain (OnTee u operation) = ⊥
    IsPlain (OnPort c operation) = ⊥
    IsPlain _ = Unit {0}

    plain-causes : (e : Effect) → IsPlain e → Causes (NoEnd t b) e
    plain-causes e n = grind (arith, n, pipe_none)

    pub row-none : (e : Effect) → IsNoTee e → Each (NoEnd t b) (row e s).caused
    unfolding row
    row-none (OnTransform u operation) n = transformed u operation (slice_get s.transforms u.0) refl
    row-none (OnTee u operation) n = absurd n
    row-none (OnPort c operation) n = ported c operation (slice_get s.ports c.0) refl
    row-none e n = row-causes (NoEnd t b) e s (plain-causes e tt)

    -- calls

    not-host : (i : StreamId) → (readable_at i s).owner ≡ Host → i ≡ b → ⊥
    not-host i e same =
        let owner : (readable_at b s).owner ≡ BranchOf t half = (default-only s.streams b.0 (BranchOf t half) mine).1 in
        let wrong : Host ≡ BranchOf t half = sym e ∙ (ap (λ (k : StreamId). (readable_at k s).owner) same ∙ owner) in
        cc

    not-bytes : (i : StreamId) → has_byte i s ≡ true → i ≡ b → ⊥
    not-bytes i e same =
        let none : has_byte b s ≡ false = (default-only s.streams b.0 (BranchOf t half) mine).0 in
        let wrong : true ≡ false = sym e ∙ (ap (λ (k : StreamId). has_byte k s) same ∙ none) in
        cc

    abbrev Begins : Begun → Type 0
    Begins z = Each (NoEnd t b) z.done.caused

    finish-by : (i : StreamId) (owner : Owner) → (readable_at i s).owner ≡ owner → Begins (controller_calls.finish_by i s owner)
    finish-by i Host e = either Begins (can_close_or_enqueue (readable_at i s)) _ _ (λ can. (other i (not-host i e), tt)) (λ n. tt)
    finish-by i (HalfOf u) e = tt
    finish-by i (BranchOf u h) e = tt
    finish-by i (EndOf c) e = tt

    finish-none : (i : StreamId) → Begins (controller_calls.finish_call i s)
    finish-none i =
        either Begins (has_byte i s) (controller_calls.finish_bytes i s) (replying.for_readable i (controller_calls.finish i) s)
        (λ h. either Begins (byte.can_take (byte_at i s)) _ _ (λ can. (other i (not-bytes i h), tt)) (λ n. tt))
        (λ h. either Begins (has_readable i s) _ _ (λ k. finish-by i (readable_at i s).owner refl) (λ k. tt))

    fail-by : (i : StreamId) (reason : Plain) (owner : Owner) → (readable_at i s).owner ≡ owner → Begins (controller_calls.fail_readable_by reason i s owner)
    fail-by i reason Host e = (other i (not-host i e), tt)
    fail-by i reason (HalfOf u) e = (refl, tt)
    fail-by i reason (BranchOf u h) e = tt
    fail-by i reason (EndOf c) e = tt

    fail-writable : (i : StreamId) (reason : Plain) (owner : Owner) → Begins (controller_calls.fail_writable_by reason i s owner)
    fail-writable i reason Host = (refl, tt)
    fail-writable i reason (HalfOf u) = tt
    fail-writable i reason (BranchOf u h) = tt
    fail-writable i reason (EndOf c) = tt

    fail-none : (i : StreamId) (reason : Plain) → Begins (controller_calls.fail reason i s)
    fail-none i reason =
        either Begins (has_readable i s) _ _ (λ k. fail-by i reason (readable_at i s).owner refl)
        (λ k. either Begins (has_byte i s) _ _ (λ h. (other i (not-bytes i h), tt))
        (λ h. either Begins (has_writable i s) _ _ (λ w. fail-writable i reason (writable_at i s).owner) (λ w. tt)))

    pub call-none : (c : Call) → Begins (begin c s)
    unfolding begin
    call-none (Finish i) = finish-none i
    call-none (Fail i reason) = fail-none i reason
    call-none c = each-map IsGentle (NoEnd t b) gentle-none (begin c s).done.caused (call-gentle c s refl)

  -- the call that makes the tee
  pub fresh-none : (c : Call) (s : Slots) → is_odd c ≡ false → Each (NoEnd t b) (begin c s).done.caused
  fresh-none c s o = each-map IsGentle (NoEnd t b) gentle-none (begin c s).done.caused (call-gentle c s o)

  -- a job

  abbrev pub IsRejection : Job → Type 0
  IsRejection job = (r : Plain) × ((d : Option PromiseId) × (job ≡ ReactionJob (TeeEnds t) (Err r) d))

  same-tee : (u : TeeId) (r : Plain) (d : Option PromiseId) (same : Bool) → nat_eq t.0 u.0 ≡ same → Each (NoEnd t b) (job_effects (ReactionJob (TeeEnds u) (Err r) d)) ⊎ IsRejection (ReactionJob (TeeEnds u) (Err r) d)
  same-tee u r None false e = inl (e, tt)
  same-tee u r (Some p) false e = inl (e, (refl, tt))
  same-tee u r d true e = inr (r, (d, ap (λ (n : ℕ). ReactionJob (TeeEnds (record { 0 = n })) (Err r) d) (sym (eq_numbers t.0 u.0 e))))

  pub job-none : (job : Job) → Each (NoEnd t b) (job_effects job) ⊎ IsRejection job
  job-none (ReactionJob (TeeEnds u) (Err r) d) = same-tee u r d (nat_eq t.0 u.0) refl
  job-none (ReactionJob (TeeEnds u) (Ok v) None) = inl (refl, tt)
  job-none (ReactionJob (TeeEnds u) (Ok v) (Some p)) = inl (refl, (refl, tt))
  job-none job = inl (grind (arith, each-append))
