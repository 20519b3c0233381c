-- Who enqueues into the readable end of a port, closes it or errors it: its port alone, to which a message is delivered.
use Rattle.std.proofs.Common.{◌≡◌, Bool, true, false, not, ◌&&◌, List, Option, Some, None, inl, inr, slice_get, refl, sym, ap, ◌∙◌, subst, arith}
use Rattle.ws_tee_port_laws.proofs.ports.Posting.{is_same_port-refl}
use Rattle.ws_value.specs.declared.ids.PortId.{PortId}
use Rattle.ws_value.specs.declared.ids.PromiseId.{PromiseId}
use Rattle.ws_value.specs.declared.ids.StreamId.{StreamId}
use Rattle.ws_value.specs.declared.ids.TeeId.{TeeId}
use Rattle.ws_value.specs.declared.value.Message.TheVariants.{Pull as PullMessage}
use Rattle.ws_value.specs.declared.value.Plain.{Plain}
use Rattle.ws_value.specs.declared.value.Value.{Value}
use Rattle.ws_value.specs.declared.value.Value.TheVariants.{Plain as PlainValue, Bytes}
use Rattle.ws_steps.specs.declared.calls.Call.{Call}
use Rattle.ws_steps.specs.declared.calls.Call.TheVariants.{MakeReadable, MakeBytes, MakeWritable, MakeTransform, GetReader, GetByob, GetWriter, Tee as TeeCall, Cancel, CancelBy, Read, ReadInto, Write, Close as CloseWritable, CloseBy, Abort as AbortWritable, AbortBy, Closed, Ready, Release, Enqueue as EnqueueCall, Finish, Fail, Terminate, Request, Respond, Desired, DesiredBy, Pipe as PipeCall, MakeSignal, Trigger as TriggerCall, Send, Open, Deliver, Settle as SettleCall, State, Step as StepCall}
use Rattle.ws_steps.specs.declared.effects.Effect.{Effect}
use Rattle.ws_steps.specs.declared.effects.Effect.TheVariants.{Readable as OnReadable, Transform as OnTransform, Tee as OnTee, Port as OnPort}
use Rattle.ws_steps.specs.declared.effects.Owner.{Owner}
use Rattle.ws_steps.specs.declared.effects.Owner.TheVariants.{Host, HalfOf, BranchOf, EndOf}
use Rattle.ws_steps.specs.declared.port.PortOperation.{PortOperation}
use Rattle.ws_steps.specs.declared.port.PortOperation.TheVariants as ports
use Rattle.ws_steps.specs.declared.port.Side.{Side}
use Rattle.ws_steps.specs.declared.port.Side.TheVariants.{Readable as ReadableSide, Writable as WritableSide}
use Rattle.ws_steps.specs.declared.promises.Job.{Job}
use Rattle.ws_steps.specs.declared.readable.ReadableOperation.TheVariants as reads
use Rattle.ws_steps.specs.declared.tee.Half.TheVariants.{First, Second}
use Rattle.ws_steps.specs.declared.tee.TeeOperation.{TeeOperation}
use Rattle.ws_steps.specs.declared.transform.TransformId.{TransformId}
use Rattle.ws_steps.specs.declared.transform.TransformOperation.{TransformOperation}
use Rattle.ws_steps.specs.Bytes as byte
use Rattle.ws_steps.specs.Begun.{Begun}
use Rattle.ws_steps.specs.Calls.{begin}
use Rattle.ws_steps.specs.Begun as replying
use Rattle.ws_steps.specs.ControllerCalls as controller_calls
use Rattle.ws_steps.specs.Cross as cross
use Rattle.ws_steps.specs.Histories.{is_same}
use Rattle.ws_steps.specs.Jobs.{job_effects}
use Rattle.ws_steps.specs.Operations.{port_operation, tee_operation, transform_operation}
use Rattle.ws_steps.specs.PortHistory.{is_same_port}
use Rattle.ws_steps.specs.Promises.{next_id}
use Rattle.ws_steps.specs.Queues.{is_empty}
use Rattle.ws_steps.specs.Readable.{can_close_or_enqueue}
use Rattle.ws_steps.specs.Slots.{Slots, lock_at, found, has_readable, has_byte, has_writable, readable_at, byte_at, writable_at, on_port_at, on_tee_at, on_transform_at, clones_at, halves_at}
use Rattle.ws_steps.specs.Tee as tee
use Rattle.ws_steps.specs.Transform as transform
use Rattle.ws_steps.specs.Turns.{row}
use Rattle.ws_laws.proofs.Into.{into-either}
use Rattle.ws_laws.proofs.Ended.{port_shape, end_shape, Ended}
use Rattle.ws_laws.proofs.Halves.{Halved}
use Rattle.ws_laws.proofs.Lists.{Each, each-append, each-map}
use Rattle.ws_laws.proofs.PipeDoes.{PipeCauses}
use Rattle.ws_laws.proofs.PortDoes.{PortCauses, port-causes}
use Rattle.ws_laws.proofs.Causes.{Causes, row-causes}
use Rattle.ws_laws.proofs.Shapes.{StreamShape, ReadableOf, stream_shapes, transform_shape, tee_shape, map-there}
use Rattle.ws_laws.proofs.Tables.{either, same_id}
use Rattle.ws_laws.proofs.TeeDoes.{TeeCauses, tee-causes}
use Rattle.ws_laws.proofs.TransformDoes.{TransformCauses, transform-causes}
use Rattle.ws_tee_port_laws.proofs.ports.Once.{IsPosting, go-fewer, by-port}
use Rattle.ws_tee_port_laws.proofs.ports.Posting.{port_acts, Does, post-does, leave-does, close-does, chunk-does}

module _ (c : PortId) (i : StreamId) where
  -- no enqueue into stream i, no close and no error of it, and no message that comes to port c
  abbrev pub NoTouch : Effect → Type 0
  NoTouch (OnReadable j (reads.Enqueue v)) = is_same i j ≡ false
  NoTouch (OnReadable j reads.Close) = is_same i j ≡ false
  NoTouch (OnReadable j (reads.Error e)) = is_same i j ≡ false
  NoTouch (OnPort d (ports.Deliver m)) = is_same_port c d ≡ false
  NoTouch e = Unit {0}

  -- another stream
  other : (j : StreamId) → (j ≡ i → ⊥) → is_same i j ≡ false
  other j n = by (is_same i j) refl
    where
      by : (same : Bool) → is_same i j ≡ same → is_same i j ≡ false
      by true e = absurd (n (sym (same_id i j e)))
      by false e = e

  module _ (s : Slots) (halved : Halved s) (ended : Ended s) (here : slice_get (stream_shapes s) i.0 ≡ Some (ReadableOf (EndOf c))) where
    -- a stream of another shape
    unlike : (j : StreamId) (w : StreamShape) → slice_get (stream_shapes s) j.0 ≡ Some w → (w ≡ ReadableOf (EndOf c) → ⊥) → is_same i j ≡ false
    unlike j w at n = other j (λ e. n (clash w (sym at ∙ (ap (λ (k : StreamId). slice_get (stream_shapes s) k.0) e ∙ here))))
      where
        clash : (w : StreamShape) → Some w ≡ Some (ReadableOf (EndOf c)) → w ≡ ReadableOf (EndOf c)
        clash w e = cc

    transform-none : (t : TransformId) (w r : StreamId) → is_same i r ≡ false → (e : Effect) → TransformCauses t w r e → NoTouch e
    transform-none t w r n (OnReadable j (reads.Enqueue v)) k = rw k n
    transform-none t w r n (OnReadable j reads.Close) k = rw k n
    transform-none t w r n (OnReadable j (reads.Error e)) k = rw k n
    transform-none t w r n (OnReadable j operation) k = absurd k
    transform-none t w r n e k = grind (arith, k)

    transformed : (t : TransformId) (operation : TransformOperation) (o : Option transform.Slots) → slice_get s.transforms t.0 ≡ o
        → Each NoTouch (on_transform_at (λ halves. transform_operation t halves operation) t s o).caused
    transformed t operation None e = tt
    transformed t operation (Some y) e =
        let half = (halved.halves t (transform_shape y) (map-there transform_shape s.transforms t.0 y e)).0 in
        each-map (TransformCauses t y.writable y.readable) NoTouch (transform-none t y.writable y.readable (unlike y.readable (ReadableOf (HalfOf t)) half (λ e. cc))) _
        (transform-causes t (halves_at y s) operation (record { slots = y; out = found s }) tt).1.1.1

    tee-none : (t : TeeId) (source first second : StreamId) → is_same i first ≡ false → is_same i second ≡ false → (e : Effect) → TeeCauses t source first second e → NoTouch e
    tee-none t source first second a b (OnReadable j (reads.Enqueue v)) (inl k) = rw k a
    tee-none t source first second a b (OnReadable j (reads.Enqueue v)) (inr k) = rw k b
    tee-none t source first second a b (OnReadable j reads.Close) (inl k) = rw k a
    tee-none t source first second a b (OnReadable j reads.Close) (inr k) = rw k b
    tee-none t source first second a b (OnReadable j (reads.Error e)) (inl k) = rw k a
    tee-none t source first second a b (OnReadable j (reads.Error e)) (inr k) = rw k b
    tee-none t source first second a b (OnReadable j (reads.Read q)) k = tt
    tee-none t source first second a b (OnReadable j (reads.Cancel r p)) k = tt
    tee-none t source first second a b (OnReadable j operation) k = absurd k
    tee-none t source first second a b e k = grind (arith, k)

    teed : (t : TeeId) (operation : TeeOperation) (o : Option tee.Slots) → slice_get s.tees t.0 ≡ o → Each NoTouch (on_tee_at (tee_operation t operation) t s o).caused
    teed t operation None e = tt
    teed t operation (Some y) e =
        let both = halved.branches t (tee_shape y) (map-there tee_shape s.tees t.0 y e) in
        each-map (TeeCauses t y.source y.branch1 y.branch2) NoTouch
        (tee-none t y.source y.branch1 y.branch2 (unlike y.branch1 (ReadableOf (BranchOf t First)) both.0 (λ e. cc)) (unlike y.branch2 (ReadableOf (BranchOf t Second)) both.1 (λ e. cc))) _
        ((tee-causes t operation (record { slots = y; out = found s })).effects tt)

    -- another port
    port-none : (d : PortId) (stream : StreamId) → is_same i stream ≡ false → (e : Effect) → PortCauses d stream e → NoTouch e
    port-none d stream n (OnReadable j (reads.Enqueue v)) k = rw k n
    port-none d stream n (OnReadable j reads.Close) k = rw k n
    port-none d stream n (OnReadable j (reads.Error e)) k = rw k n
    port-none d stream n (OnReadable j operation) k = absurd k
    port-none d stream n e k = grind (arith, k)

    end-unlike : (d : PortId) (side : Side) → is_same_port c d ≡ false → end_shape d side ≡ ReadableOf (EndOf c) → ⊥
    end-unlike d ReadableSide n e =
        let same : d ≡ c = cc in
        let wrong : is_same_port c d ≡ true = rw same (is_same_port-refl c) in
        cc
    end-unlike d WritableSide n e = cc

    other-ported : (d : PortId) (operation : PortOperation) → is_same_port c d ≡ false → (o : Option cross.Slots) → slice_get s.ports d.0 ≡ o
        → Each NoTouch (on_port_at (λ clones. port_operation d clones operation) d s o).caused
    other-ported d operation n None e = tt
    other-ported d operation n (Some y) e =
        let at = ended.ends d (port_shape y) (map-there port_shape s.ports d.0 y e) in
        each-map (PortCauses d y.stream) NoTouch (port-none d y.stream (unlike y.stream (end_shape d y.side) at (end-unlike d y.side n))) _
        (port-causes d (clones_at y s) operation (record { slots = y; out = found s }) tt).1.1

    -- its own operations, but for the coming of a message

    abbrev pub IsDelivery : PortOperation → Type 0
    IsDelivery (ports.Deliver m) = Unit {0}
    IsDelivery operation = ⊥

    posting-none : (e : Effect) → IsPosting e → NoTouch e
    posting-none e k = grind (arith, k)

    wait-none : (p : PromiseId) (o : Option PromiseId) → NoTouch (cross.wait_for o c p)
    wait-none p None = tt
    wait-none p (Some q) = tt

    unblock-none : (x : cross.Slots) (o : Option PromiseId) → Each NoTouch (cross.unblock_by (port_acts c x s.promises) o).out.effects
    unblock-none x None = tt
    unblock-none x (Some p) = tt

    does-none : (x : cross.Slots) (b : cross.Acts) (y : cross.Slots) (fs : List Effect) → Does c x s.promises b y fs → Each NoTouch fs → Each NoTouch b.out.effects
    does-none x b y fs d f = rw d.effects f

    own-ported : (x : cross.Slots) (clones : Bool) (operation : PortOperation) → (IsDelivery operation → ⊥) → Each NoTouch (port_operation c clones operation (port_acts c x s.promises)).out.effects
    unfolding cross.write cross.unblock cross.pull cross.write_goes_on
    own-ported x clones ports.Pull n = does-none x _ _ _ (post-does c x s.promises PullMessage) tt
    own-ported x clones (ports.Leave r u) n = does-none x _ _ _ (leave-does c x s.promises r u) (tt, tt)
    own-ported x clones (ports.Write u) n = (wait-none (next_id s.promises) x.backpressure, (tt, tt))
    own-ported x clones (ports.WriteGoesOn p) n = each-map IsPosting NoTouch posting-none _ (go-fewer c c clones p x s.promises x.backpressure).0
    own-ported x clones (ports.PostChunk v p) n = does-none x _ _ _ (chunk-does c x s.promises v p) (tt, tt)
    own-ported x clones (ports.Close u) n = does-none x _ _ _ (close-does c x s.promises u) (tt, tt)
    own-ported x clones (ports.Deliver m) n = absurd (n tt)
    own-ported x clones ports.Unblock n = unblock-none x x.backpressure

    mine-ported : (operation : PortOperation) → (IsDelivery operation → ⊥) → (o : Option cross.Slots) → Each NoTouch (on_port_at (λ clones. port_operation c clones operation) c s o).caused
    mine-ported operation n None = tt
    mine-ported operation n (Some x) = own-ported x (clones_at x s) operation n

    -- other effects than the coming of a message
    abbrev pub NoDelivery : Effect → Type 0
    NoDelivery (OnPort d (ports.Deliver m)) = is_same_port c d ≡ false
    NoDelivery e = Unit {0}

    port-row : (d : PortId) (operation : PortOperation) → NoDelivery (OnPort d operation) → Each NoTouch (row (OnPort d operation) s).caused
    unfolding row
    port-row d operation n =
        by-port c (λ d. NoDelivery (OnPort d operation) → Each NoTouch (on_port_at (λ clones. port_operation d clones operation) d s (slice_get s.ports d.0)).caused) d
        (λ e n. other-ported d operation e (slice_get s.ports d.0) refl) (λ n. mine-ported operation (λ k. delivered operation k n) (slice_get s.ports c.0)) n
      where
        delivered : (operation : PortOperation) → IsDelivery operation → NoDelivery (OnPort c operation) → ⊥
        delivered (ports.Deliver m) k n = let wrong : is_same_port c c ≡ true = is_same_port-refl c in cc
        delivered operation k n = absurd k

    pipe-none : (source dest : StreamId) (e : Effect) → (p : _) → PipeCauses p source dest e → NoTouch e
    pipe-none source dest e p k = grind (arith, k)

    abbrev IsPlain : Effect → Type 0
    IsPlain (OnTransform t operation) = ⊥
    IsPlain (OnTee t operation) = ⊥
    IsPlain (OnPort d operation) = ⊥
    IsPlain e = Unit {0}

    plain-causes : (e : Effect) → IsPlain e → Causes NoTouch e
    plain-causes e n = grind (arith, n, pipe-none)

    pub row-untouched : (e : Effect) → NoDelivery e → Each NoTouch (row e s).caused
    unfolding row
    row-untouched (OnTransform t operation) n = transformed t operation (slice_get s.transforms t.0) refl
    row-untouched (OnTee t operation) n = teed t operation (slice_get s.tees t.0) refl
    row-untouched (OnPort d operation) n = port-row d operation n
    row-untouched e n = row-causes NoTouch e s (plain-causes e tt)

-- a call

abbrev IsGentle : Effect → Type 0
IsGentle (OnReadable j (reads.Enqueue v)) = ⊥
IsGentle (OnReadable j reads.Close) = ⊥
IsGentle (OnReadable j (reads.Error e)) = ⊥
IsGentle (OnPort d (ports.Deliver m)) = ⊥
IsGentle e = Unit {0}

abbrev pub is_special : Call → Bool
is_special (EnqueueCall i v) = true
is_special (Finish i) = true
is_special (Fail i reason) = true
is_special (Deliver d m) = true
is_special call = false

call-gentle : (call : Call) (s : Slots) → is_special call ≡ false → Each IsGentle (begin call s).done.caused
unfolding begin
call-gentle (MakeReadable mark size start) s o = grind arith
call-gentle (MakeBytes mark auto start) s o = grind arith
call-gentle (MakeWritable mark size start) s o = grind arith
call-gentle (MakeTransform kind m n start) s o = grind arith
call-gentle (TeeCall i) s o = grind arith
call-gentle (GetReader i) s o = grind arith
call-gentle (GetByob i) s o = grind arith
call-gentle (GetWriter i) s o = grind arith
call-gentle (Cancel i reason) s o = grind arith
call-gentle (CancelBy l reason) s o = grind arith
call-gentle (Read l) s o = grind arith
call-gentle (ReadInto l room element least) s o = into-either (λ b. Each IsGentle b.done.caused) room element least s _ (λ f. _) (λ i. _) (lock_at l s)
call-gentle (Write l v) s o = grind arith
call-gentle (CloseWritable i) s o = grind arith
call-gentle (CloseBy l) s o = grind arith
call-gentle (AbortWritable i reason) s o = grind arith
call-gentle (AbortBy l reason) s o = grind arith
call-gentle (Closed l) s o = grind arith
call-gentle (Ready l) s o = grind arith
call-gentle (Release l) s o = grind (arith, each-append)
call-gentle (EnqueueCall i v) s o = cc
call-gentle (Finish i) s o = cc
call-gentle (Fail i reason) s o = cc
call-gentle (Terminate i) s o = grind arith
call-gentle (Request i) s o = grind arith
call-gentle (Respond q v) s o = grind arith
call-gentle (Desired i) s o = grind arith
call-gentle (DesiredBy l) s o = grind arith
call-gentle (PipeCall source dest prevent signal) s o = grind (arith, each-append)
call-gentle MakeSignal s o = grind arith
call-gentle (TriggerCall a reason) s o = grind arith
call-gentle (Send i) s o = grind (arith, each-append)
call-gentle (Open side) s o = grind arith
call-gentle (Deliver p m) s o = cc
call-gentle (SettleCall h answer) s o = grind arith
call-gentle (State i) s o = grind arith
call-gentle StepCall s o = grind arith

-- a call that delivers nothing
abbrev pub IsNoDelivery : Call → Type 0
IsNoDelivery (Deliver d m) = ⊥
IsNoDelivery call = Unit {0}

module _ (c : PortId) (i : StreamId) where
  gentle-none : (e : Effect) → IsGentle e → NoTouch c i e
  gentle-none e k = grind (arith, k)

  -- no stream of this number has the host's algorithms
  pub record NotHosts (s : Slots) : Type 0 where
    pub readable : has_readable i s ≡ true → (readable_at i s).owner ≡ Host → ⊥
    pub bytes : has_byte i s ≡ true → ⊥

  module _ (s : Slots) (nobodys : NotHosts s) where
    not-host : (j : StreamId) → has_readable j s ≡ true → (readable_at j s).owner ≡ Host → is_same i j ≡ false
    not-host j there e = other c i j (λ is. by j is there e)
      where
        by : (j : StreamId) → j ≡ i → has_readable j s ≡ true → (readable_at j s).owner ≡ Host → ⊥
        by j is there e =
            nobodys.readable (subst (λ (k : StreamId). has_readable k s ≡ true) is there) (subst (λ (k : StreamId). (readable_at k s).owner ≡ Host) is e)

    not-bytes : (j : StreamId) → has_byte j s ≡ true → is_same i j ≡ false
    not-bytes j e = other c i j (λ is. nobodys.bytes (subst (λ (k : StreamId). has_byte k s ≡ true) is e))

    abbrev Begins : Begun → Type 0
    Begins b = Each (NoTouch c i) b.done.caused

    enqueue-by : (j : StreamId) (v : Value) (owner : Owner) → has_readable j s ≡ true → (readable_at j s).owner ≡ owner → Begins (controller_calls.enqueue_by v j s owner)
    enqueue-by j v Host there e = either Begins (can_close_or_enqueue (readable_at j s)) _ _ (λ can. (not-host j there e, tt)) (λ n. tt)
    enqueue-by j v (HalfOf t) there e = either Begins (can_close_or_enqueue (readable_at j s)) _ _ (λ can. (tt, tt)) (λ n. tt)
    enqueue-by j v (BranchOf t half) there e = tt
    enqueue-by j v (EndOf d) there e = tt

    bytes-none : (j : StreamId) (v : Value) → Begins (controller_calls.enqueue_bytes j s v)
    bytes-none j (PlainValue v) = tt
    bytes-none j (Bytes b) = either Begins (not (is_empty b) && byte.can_take (byte_at j s)) _ _ (λ can. (tt, tt)) (λ n. tt)

    enqueue-none : (j : StreamId) (v : Value) → Begins (controller_calls.enqueue_call j v s)
    enqueue-none j v =
        either Begins (has_byte j s) (controller_calls.enqueue_bytes j s v) (replying.for_readable j (controller_calls.enqueue v j) s) (λ h. bytes-none j v)
        (λ h. either Begins (has_readable j s) _ _ (λ k. enqueue-by j v (readable_at j s).owner k refl) (λ k. tt))

    finish-by : (j : StreamId) (owner : Owner) → has_readable j s ≡ true → (readable_at j s).owner ≡ owner → Begins (controller_calls.finish_by j s owner)
    finish-by j Host there e = either Begins (can_close_or_enqueue (readable_at j s)) _ _ (λ can. (not-host j there e, tt)) (λ n. tt)
    finish-by j (HalfOf u) there e = tt
    finish-by j (BranchOf u h) there e = tt
    finish-by j (EndOf d) there e = tt

    finish-none : (j : StreamId) → Begins (controller_calls.finish_call j s)
    finish-none j =
        either Begins (has_byte j s) (controller_calls.finish_bytes j s) (replying.for_readable j (controller_calls.finish j) s)
        (λ h. either Begins (byte.can_take (byte_at j s)) _ _ (λ can. (not-bytes j h, tt)) (λ n. tt))
        (λ h. either Begins (has_readable j s) _ _ (λ k. finish-by j (readable_at j s).owner k refl) (λ k. tt))

    fail-by : (j : StreamId) (reason : Plain) (owner : Owner) → has_readable j s ≡ true → (readable_at j s).owner ≡ owner → Begins (controller_calls.fail_readable_by reason j s owner)
    fail-by j reason Host there e = (not-host j there e, tt)
    fail-by j reason (HalfOf u) there e = (tt, tt)
    fail-by j reason (BranchOf u h) there e = tt
    fail-by j reason (EndOf d) there e = tt

    fail-writable : (j : StreamId) (reason : Plain) (owner : Owner) → Begins (controller_calls.fail_writable_by reason j s owner)
    fail-writable j reason Host = (tt, tt)
    fail-writable j reason (HalfOf u) = tt
    fail-writable j reason (BranchOf u h) = tt
    fail-writable j reason (EndOf d) = tt

    fail-none : (j : StreamId) (reason : Plain) → Begins (controller_calls.fail reason j s)
    fail-none j reason =
        either Begins (has_readable j s) _ _ (λ k. fail-by j reason (readable_at j s).owner k refl)
        (λ k. either Begins (has_byte j s) _ _ (λ h. (not-bytes j h, tt))
        (λ h. either Begins (has_writable j s) _ _ (λ w. fail-writable j reason (writable_at j s).owner) (λ w. tt)))

    -- it leaves it alone
    pub call-untouched : (call : Call) → IsNoDelivery call → Begins (begin call s)
    unfolding begin
    call-untouched (EnqueueCall j v) n = enqueue-none j v
    call-untouched (Finish j) n = finish-none j
    call-untouched (Fail j reason) n = fail-none j reason
    call-untouched (Deliver d m) n = absurd n
    call-untouched call n = each-map IsGentle (NoTouch c i) gentle-none (begin call s).done.caused (call-gentle call s refl)

  -- and so does a job
  pub job-untouched : (job : Job) → Each (NoTouch c i) (job_effects job)
  job-untouched job = grind (arith, each-append)
