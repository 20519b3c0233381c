-- Which effects store a TypeError in a byte stream: a close and a read into a room, and these only where they stand first on the agenda.
use Rattle.std.proofs.Common.{◌≡◌, ℕ, zero, suc, ◌*◌, Bool, true, false, not, ◌&&◌, if◌then◌else◌, List, [], ◌∷◌, ◌++◌, length, Option, Some, None, slice_get, inl, inr, refl, subst, ◌∙◌, map, arith}
use Rattle.ws_value.specs.declared.fault.Fault.{Fault}
use Rattle.ws_value.specs.declared.ids.PipeId.{PipeId}
use Rattle.ws_value.specs.declared.ids.StreamId.{StreamId}
use Rattle.ws_value.specs.declared.ids.TeeId.{TeeId}
use Rattle.ws_value.specs.declared.ids.PortId.{PortId}
use Rattle.ws_value.specs.declared.value.Plain.{Plain}
use Rattle.ws_value.specs.declared.value.Value.{Value}
use Rattle.ws_steps.specs.declared.byte.ByteOperation.TheVariants.{PullInto}
use Rattle.ws_steps.specs.declared.calls.Call.{Call}
use Rattle.ws_steps.specs.declared.calls.Call.TheVariants.{MakeReadable, MakeBytes, MakeWritable, MakeTransform, Tee as TeeCall, GetReader, GetByob, GetWriter, Cancel, CancelBy, Read, ReadInto, Write, Close as CloseWritable, CloseBy, Abort as AbortWritable, AbortBy, Closed, Ready, Release, Enqueue, Finish, Fail, Terminate, Request, Respond, Desired, DesiredBy, Pipe as PipeCall, MakeSignal, Trigger as TriggerCall, Send, Open, Deliver, Settle as SettleCall, State, Step}
use Rattle.ws_steps.specs.declared.effects.Effect.{Effect}
use Rattle.ws_steps.specs.declared.effects.Effect.TheVariants.{Readable, Byte, Writable, Pipe, Signal, Transform, Tee, Port, StartAlgorithm, PullAlgorithm, CancelAlgorithm, WriteAlgorithm, CloseAlgorithm, AbortAlgorithm, ChunkSteps, CloseSteps, CloseStepsWith, ErrorSteps}
use Rattle.ws_steps.specs.declared.effects.Owner.{Owner}
use Rattle.ws_steps.specs.declared.effects.Owner.TheVariants.{HalfOf, BranchOf}
use Rattle.ws_steps.specs.declared.locks.Lock.{Lock}
use Rattle.ws_steps.specs.declared.locks.Lock.TheVariants.{Reader, ByobReader, Writer as WriterLock, ReleasedWriter, Inner}
use Rattle.ws_steps.specs.declared.pipes.SignalOperation.{SignalOperation}
use Rattle.ws_steps.specs.declared.pipes.SignalOperation.TheVariants.{Add, Forget, Trigger}
use Rattle.ws_steps.specs.declared.promises.Job.{Job}
use Rattle.ws_steps.specs.declared.readable.ReadRequest.{ReadRequest}
use Rattle.ws_steps.specs.declared.readable.ReadRequest.TheVariants.{Promise, Pipe as PipeRequest, Tee as TeeRequest}
use Rattle.ws_steps.specs.declared.readable.ReadableOperation.TheVariants as names
use Rattle.ws_steps.specs.declared.tee.Half.TheVariants.{First, Second}
use Rattle.ws_steps.specs.declared.tee.TeeOperation.{TeeOperation}
use Rattle.ws_steps.specs.declared.port.PortOperation.{PortOperation}
use Rattle.ws_steps.specs.declared.port.Side.{Side}
use Rattle.ws_steps.specs.declared.port.Side.TheVariants.{Readable as ReadableSide, Writable as WritableSide}
use Rattle.ws_steps.specs.declared.transform.TransformId.{TransformId}
use Rattle.ws_steps.specs.declared.transform.TransformOperation.{TransformOperation}
use Rattle.ws_steps.specs.Bytes as byte
use Rattle.ws_steps.specs.Begun as replying
use Rattle.ws_steps.specs.LockCalls as lock_calls
use Rattle.ws_steps.specs.ControllerCalls as controller_calls
use Rattle.ws_steps.specs.Begun.{Begun}
use Rattle.ws_steps.specs.Calls.{begin}
use Rattle.ws_steps.specs.Effects.{type_error}
use Rattle.ws_steps.specs.Jobs.{job_effects}
use Rattle.ws_steps.specs.Operations.{transform_operation, tee_operation, port_operation}
use Rattle.ws_steps.specs.Slots.{Slots, found, has_byte, byte_at, is_byte_stream, halves_at, on_transform_at, on_tee_at, on_port_at, clones_at, lock_at}
use Rattle.ws_steps.specs.Tee as tee
use Rattle.ws_steps.specs.Cross as cross
use Rattle.ws_steps.specs.Transform as transform
use Rattle.ws_steps.specs.Turns.{row}
use Rattle.ws_laws.proofs.Halves as halves
use Rattle.ws_laws.proofs.Lists.{Each, each-append, each-map}
use Rattle.ws_laws.proofs.Ended.{Ended, port_shape, port_shapes, end_shape}
use Rattle.ws_laws.proofs.PipeDoes.{PipeCauses}
use Rattle.ws_laws.proofs.PortDoes.{PortCauses, port-causes}
use Rattle.ws_laws.proofs.Causes.{ChunkCauses, EndCauses, ErrorCauses, SignalCauses, row-causes}
use Rattle.ws_laws.proofs.Shapes.{transform_shape, transform_shapes, tee_shape, tee_shapes, stream_shape, ReadableOf, map-there}
use Rattle.ws_laws.proofs.StaysBytes.{row-byte}
use Rattle.ws_laws.proofs.Tables.{either}
use Rattle.ws_laws.proofs.TeeDoes.{TeeCauses, tee-causes}
use Rattle.ws_laws.proofs.TransformDoes.{TransformCauses, transform-causes}
use Rattle.ws_reason_laws.specs.Reasons.{erred_with, erred_by, erred_by_read}
use Rattle.ws_reason_laws.proofs.Bytes.{readable_errs, byte_errs}
use Rattle.ws_reason_laws.proofs.Weights.{bad_of}
use Rattle.ws_steps.specs.Slots.{Stream, ReadableStream, ByteStream, WritableStream, has_source}

-- in these slots the effect stores a TypeError in a byte stream
abbrev pub errs : Effect → Slots → Bool
errs (Readable i operation) s = has_byte i s && readable_errs operation (byte_at i s)
errs (Byte i operation) s = has_byte i s && byte_errs operation (byte_at i s)
errs _ s = false

-- an effect that stores none
abbrev pub IsTame : Slots → Effect → Type 0
IsTame s (Readable i names.Close) = has_byte i s ≡ false
IsTame s (Byte i (PullInto room element minimum request)) = ⊥
IsTame s _ = Unit {0}

-- one of which none can be asked
abbrev IsMild : Effect → Type 0
IsMild (Readable i names.Close) = ⊥
IsMild (Byte i (PullInto room element minimum request)) = ⊥
IsMild _ = Unit {0}

mild-tame : (s : Slots) (e : Effect) → IsMild e → IsTame s e
mild-tame s (Readable i names.Close) m = absurd m
mild-tame s (Byte i (PullInto room element minimum request)) m = m
mild-tame s e m = grind (arith, m)

tame-none : (s : Slots) (e : Effect) → IsTame s e → errs e s ≡ false
tame-none s (Readable i names.Close) t = rw t refl
tame-none s (Byte i (PullInto room element minimum request)) t = absurd t
tame-none s e t = grind (arith, t)

-- a TypeError isn't bad where this effect stores one
abbrev Erred : (Plain → ℕ) → Slots → Effect → Type 0
Erred bad s e = errs e s ≡ true → bad type_error ≡ 0

-- the first effect is such, and no other stores one
abbrev pub Erring : (Plain → ℕ) → Slots → List Effect → Type 0
Erring bad s [] = Unit {0}
Erring bad s (e ∷ es) = Erred bad s e × Each (IsTame s) es

tame-erring : (bad : Plain → ℕ) (s : Slots) (es : List Effect) → Each (IsTame s) es → Erring bad s es
tame-erring bad s [] t = tt
tame-erring bad s (e ∷ es) t = (λ f. let n = tame-none s e t.0 in cc, t.1)

mild-erring : (bad : Plain → ℕ) (s : Slots) (es : List Effect) → Each IsMild es → Erring bad s es
mild-erring bad s es m = tame-erring bad s es (each-map IsMild (IsTame s) (mild-tame s) es m)

-- kinds of streams stay
tame-stays : (s z : Slots) → ((i : StreamId) → has_byte i z ≡ has_byte i s) → (e : Effect) → IsTame s e → IsTame z e
tame-stays s z same (Readable i names.Close) t = same i ∙ t
tame-stays s z same (Byte i (PullInto room element minimum request)) t = t
tame-stays s z same e t = grind (arith, t)

-- what an effect causes stores none

chunk-mild : (v : Value) (request : ReadRequest) → ChunkCauses IsMild v request
chunk-mild v (Promise p) = tt
chunk-mild v (PipeRequest p) = tt
chunk-mild v (TeeRequest t) = tt

end-mild : (request : ReadRequest) → EndCauses IsMild request
end-mild (Promise p) = tt
end-mild (PipeRequest p) = tt
end-mild (TeeRequest t) = tt

error-mild : (request : ReadRequest) → ErrorCauses IsMild request
error-mild (Promise p) = tt
error-mild (PipeRequest p) = tt
error-mild (TeeRequest t) = tt

pipe-mild : (p : PipeId) (source dest : StreamId) (e : Effect) → PipeCauses p source dest e → IsMild e
pipe-mild p source dest e c = grind (arith, c)

signal-mild : (operation : SignalOperation) → SignalCauses IsMild operation
signal-mild (Add p) = tt
signal-mild (Forget p) = tt
signal-mild (Trigger r) = λ p. tt

half-default : (xs : List Stream) (n : ℕ) (o : Owner) → slice_get (map stream_shape xs) n ≡ Some (ReadableOf o) → is_byte_stream (slice_get xs n) ≡ false
half-default [] n o e = refl
half-default (ReadableStream r ∷ xs) zero o e = refl
half-default (ByteStream b ∷ xs) zero o e = cc
half-default (WritableStream w ∷ xs) zero o e = refl
half-default (x ∷ xs) (suc n) o e = half-default xs n o e

transform-tame : (t : TransformId) (writable readable : StreamId) (s : Slots) → has_byte readable s ≡ false → (e : Effect) → TransformCauses t writable readable e → IsTame s e
transform-tame t writable readable s n (Readable i names.Close) c = rw c n
transform-tame t writable readable s n (Byte i (PullInto room element minimum request)) c = c
transform-tame t writable readable s n e c = grind (arith, c)

transformed : (t : TransformId) (operation : TransformOperation) (s : Slots) → halves.Halved s → (o : Option transform.Slots) → slice_get s.transforms t.0 ≡ o
    → Each (IsTame s) (on_transform_at (λ halves. transform_operation t halves operation) t s o).caused
transformed t operation s h None e = tt
transformed t operation s h (Some x) e =
    let shape : slice_get (transform_shapes s) t.0 ≡ Some (transform_shape x) = map-there transform_shape s.transforms t.0 x e in
    let default : has_byte x.readable s ≡ false = half-default s.streams x.readable.0 (HalfOf t) (h.halves t (transform_shape x) shape).0 in
    each-map (TransformCauses t x.writable x.readable) (IsTame s) (transform-tame t x.writable x.readable s default) _
    (transform-causes t (halves_at x s) operation (record { slots = x; out = found s }) tt).1.1.1

tee-tame : (t : TeeId) (source first second : StreamId) (s : Slots) → has_byte first s ≡ false → has_byte second s ≡ false → (e : Effect) → TeeCauses t source first second e → IsTame s e
tee-tame t source first second s n m (Readable i names.Close) (inl c) = rw c n
tee-tame t source first second s n m (Readable i names.Close) (inr c) = rw c m
tee-tame t source first second s n m (Byte i (PullInto room element minimum request)) c = c
tee-tame t source first second s n m e c = grind (arith, c)

port-tame : (c : PortId) (stream : StreamId) (s : Slots) → has_byte stream s ≡ false → (e : Effect) → PortCauses c stream e → IsTame s e
port-tame c stream s n (Readable i names.Close) f = rw f n
port-tame c stream s n (Byte i (PullInto room element minimum request)) f = f
port-tame c stream s n e f = grind (arith, f)

teed : (t : TeeId) (operation : TeeOperation) (s : Slots) → halves.Halved s → (o : Option tee.Slots) → slice_get s.tees t.0 ≡ o → Each (IsTame s) (on_tee_at (tee_operation t operation) t s o).caused
teed t operation s h None e = tt
teed t operation s h (Some x) e =
    let shape : slice_get (tee_shapes s) t.0 ≡ Some (tee_shape x) = map-there tee_shape s.tees t.0 x e in
    let first : has_byte x.branch1 s ≡ false = half-default s.streams x.branch1.0 (BranchOf t First) (h.branches t (tee_shape x) shape).0 in
    let second : has_byte x.branch2 s ≡ false = half-default s.streams x.branch2.0 (BranchOf t Second) (h.branches t (tee_shape x) shape).1 in
    each-map (TeeCauses t x.source x.branch1 x.branch2) (IsTame s) (tee-tame t x.source x.branch1 x.branch2 s first second) _
    ((tee-causes t operation (record { slots = x; out = found s })).effects tt)

end-default : (xs : List Stream) (n : ℕ) (c : PortId) (side : Side) → slice_get (map stream_shape xs) n ≡ Some (end_shape c side) → is_byte_stream (slice_get xs n) ≡ false
end-default [] n c side e = refl
end-default (ReadableStream r ∷ xs) zero c side e = refl
end-default (ByteStream b ∷ xs) zero c ReadableSide e = cc
end-default (ByteStream b ∷ xs) zero c WritableSide e = cc
end-default (WritableStream w ∷ xs) zero c side e = refl
end-default (x ∷ xs) (suc n) c side e = end-default xs n c side e

ported : (c : PortId) (operation : PortOperation) (s : Slots) → Ended s → (o : Option cross.Slots) → slice_get s.ports c.0 ≡ o → Each (IsTame s) (on_port_at (λ clones. port_operation c clones operation) c s o).caused
ported c operation s h None e = tt
ported c operation s h (Some x) e =
    let shape : slice_get (port_shapes s) c.0 ≡ Some (port_shape x) = map-there port_shape s.ports c.0 x e in
    let default : has_byte x.stream s ≡ false = end-default s.streams x.stream.0 c x.side (h.ends c (port_shape x) shape) in
    each-map (PortCauses c x.stream) (IsTame s) (port-tame c x.stream s default) _
    (port-causes c (clones_at x s) operation (record { slots = x; out = found s }) tt).1.1

mild-row : (e : Effect) (s : Slots) → Each IsMild (row e s).caused → Each (IsTame s) (row e s).caused
mild-row e s m = each-map IsMild (IsTame s) (mild-tame s) (row e s).caused m

row-tame : (e : Effect) (s : Slots) → halves.Halved s → Ended s → Each (IsTame s) (row e s).caused
unfolding row
row-tame (Transform t operation) s h n = transformed t operation s h (slice_get s.transforms t.0) refl
row-tame (Tee t operation) s h n = teed t operation s h (slice_get s.tees t.0) refl
row-tame (Port t operation) s h n = ported t operation s n (slice_get s.ports t.0) refl
row-tame (Readable j operation) s h n = mild-row (Readable j operation) s (row-causes IsMild (Readable j operation) s (record { pull = tt; cancel = λ r p. tt; chunk = λ r v. tt; close = λ r. tt; error = λ r e. tt }))
row-tame (Byte j operation) s h n =
    mild-row (Byte j operation) s
    (row-causes IsMild (Byte j operation) s (record { readable = record { pull = tt; cancel = λ r p. tt; chunk = λ r v. tt; close = λ r. tt; error = λ r e. tt }; close_with = λ r b. tt }))
row-tame (Writable j operation) s h n =
    mild-row (Writable j operation) s (row-causes IsMild (Writable j operation) s (record { write = tt; close = tt; abort = λ r p. tt; hand_on = λ v. tt; take = λ v t d. tt; post = λ v t d. tt }))
row-tame (Pipe p operation) s h n = mild-row (Pipe p operation) s (row-causes IsMild (Pipe p operation) s (pipe-mild p))
row-tame (Signal a operation) s h n = mild-row (Signal a operation) s (row-causes IsMild (Signal a operation) s (signal-mild operation))
row-tame (StartAlgorithm j step start) s h n = mild-row (StartAlgorithm j step start) s (row-causes IsMild (StartAlgorithm j step start) s (λ g u. tt, λ c u. tt))
row-tame (PullAlgorithm j) s h n = mild-row (PullAlgorithm j) s (row-causes IsMild (PullAlgorithm j) s (λ c u. tt, (λ t u. tt, (λ t. tt, (λ u. tt, λ q. tt)))))
row-tame (CancelAlgorithm j r p) s h n = mild-row (CancelAlgorithm j r p) s (row-causes IsMild (CancelAlgorithm j r p) s (λ c u. tt, (λ t u. tt, (λ t half u. tt, λ y u. tt))))
row-tame (WriteAlgorithm j) s h n = mild-row (WriteAlgorithm j) s (row-causes IsMild (WriteAlgorithm j) s (tt, (λ t u. tt, λ z u. tt)))
row-tame (CloseAlgorithm j) s h n = mild-row (CloseAlgorithm j) s (row-causes IsMild (CloseAlgorithm j) s (λ c u. tt, (λ t u. tt, λ z u. tt)))
row-tame (AbortAlgorithm j r p) s h n = mild-row (AbortAlgorithm j r p) s (row-causes IsMild (AbortAlgorithm j r p) s (λ c u. tt, (λ t u. tt, λ z u. tt)))
row-tame (ChunkSteps j q v) s h n = mild-row (ChunkSteps j q v) s (row-causes IsMild (ChunkSteps j q v) s (chunk-mild v q))
row-tame (CloseSteps j q) s h n = mild-row (CloseSteps j q) s (row-causes IsMild (CloseSteps j q) s (end-mild q))
row-tame (CloseStepsWith j q b) s h n = mild-row (CloseStepsWith j q b) s (row-causes IsMild (CloseStepsWith j q b) s (end-mild q))
row-tame (ErrorSteps j q e) s h n = mild-row (ErrorSteps j q e) s (row-causes IsMild (ErrorSteps j q e) s (error-mild q))
row-tame e s h n = mild-row e s (row-causes IsMild e s tt)

pub erring-row : (bad : Plain → ℕ) (s : Slots) (e : Effect) (es : List Effect) → halves.Halved s → Ended s → Erring bad s (e ∷ es) → Erring bad (row e s).slots ((row e s).caused ++ es)
erring-row bad s e es h n k =
    tame-erring bad (row e s).slots ((row e s).caused ++ es)
    (each-map (IsTame s) (IsTame (row e s).slots) (tame-stays s (row e s).slots (λ i. row-byte i e s)) ((row e s).caused ++ es) (each-append (IsTame s) (row e s).caused es (row-tame e s h n) k.1))

-- calls

abbrev is_odd : Call → Bool
is_odd (Finish i) = true
is_odd (ReadInto l room element least) = true
is_odd _ = false

call-mild : (c : Call) (s : Slots) → is_odd c ≡ false → Each IsMild (begin c s).done.caused
unfolding begin
call-mild (MakeReadable mark size start) s o = grind arith
call-mild (MakeBytes mark auto start) s o = grind arith
call-mild (MakeWritable mark size start) s o = grind arith
call-mild (MakeTransform kind m n start) s o = grind arith
call-mild (TeeCall i) s o = grind arith
call-mild (GetReader i) s o = grind arith
call-mild (GetByob i) s o = grind arith
call-mild (GetWriter i) s o = grind arith
call-mild (Cancel i reason) s o = grind arith
call-mild (CancelBy l reason) s o = grind arith
call-mild (Read l) s o = grind arith
call-mild (ReadInto l room element least) s o = cc
call-mild (Write l v) s o = grind arith
call-mild (CloseWritable i) s o = grind arith
call-mild (CloseBy l) s o = grind arith
call-mild (AbortWritable i reason) s o = grind arith
call-mild (AbortBy l reason) s o = grind arith
call-mild (Closed l) s o = grind arith
call-mild (Ready l) s o = grind arith
call-mild (Release l) s o = grind (arith, each-append)
call-mild (Enqueue i v) s o = grind arith
call-mild (Finish i) s o = cc
call-mild (Fail i reason) s o = grind arith
call-mild (Terminate i) s o = grind arith
call-mild (Request i) s o = grind arith
call-mild (Respond q b) s o = grind arith
call-mild (Desired i) s o = grind arith
call-mild (DesiredBy l) s o = grind arith
call-mild (PipeCall source dest prevent signal) s o = grind (arith, each-append)
call-mild MakeSignal s o = grind arith
call-mild (TriggerCall a reason) s o = grind arith
call-mild (Send k) s o = grind arith
call-mild (Open side) s o = grind arith
call-mild (Deliver q m) s o = grind arith
call-mild (SettleCall h answer) s o = grind arith
call-mild (State i) s o = grind arith
call-mild Step s o = grind arith

not_bad : (bad : Plain → ℕ) (test : Bool) → bad_of bad (erred_with test) ≡ 0 → test ≡ true → bad type_error ≡ 0
not_bad bad true h e = omega (arith, h)
not_bad bad false h e = cc

module _ (bad : Plain → ℕ) (s : Slots) where
  abbrev Begins : Begun → Type 0
  Begins b = Erring bad b.done.slots b.done.caused

  default-finishes : (i : StreamId) → has_byte i s ≡ false → Begins (replying.for_readable i (controller_calls.finish i) s)
  default-finishes i n = grind (arith, n)

  finishes : (i : StreamId) → bad_of bad (erred_by (Finish i) s) ≡ 0 → Begins (controller_calls.finish_call i s)
  finishes i h =
      either Begins (has_byte i s) (controller_calls.finish_bytes i s) (replying.for_readable i (controller_calls.finish i) s)
      (λ there. either Begins (byte.can_take (byte_at i s)) _ _ (λ can. (λ e. not_bad bad (has_byte i s && byte.close_throws (byte_at i s)) h e, tt)) (λ cannot. tt)) (default-finishes i)

  reads : (room : List ℕ) (element least : ℕ) (lock : Option Lock) → bad_of bad (erred_by_read (length room) element (least * element) s lock) ≡ 0
      → Begins (lock_calls.by_byob_reader (lock_calls.read_into room element least) replying.rejected s lock)
  reads room element least None h = tt
  reads room element least (Some (Reader stream closed)) h = tt
  reads room element least (Some (ByobReader (Some i) closed)) h =
      either Begins (has_source i s) _ _ (λ there. (λ e. not_bad bad _ h e, tt)) (λ absent. tt)
  reads room element least (Some (ByobReader None closed)) h = (λ e. cc, tt)
  reads room element least (Some (WriterLock i)) h = tt
  reads room element least (Some (ReleasedWriter w)) h = tt
  reads room element least (Some Inner) h = tt

  refused : (fault : Fault) (lock : Option Lock) → Begins (lock_calls.refuse_least fault s lock)
  refused fault lock = grind arith

  reads_into : (room : List ℕ) (element least : ℕ) (lock : Option Lock)
      → bad_of bad (if lock_calls.is_view (length room) element && lock_calls.has_least (length room) element least then erred_by_read (length room) element (least * element) s lock else []) ≡ 0
      → Begins (lock_calls.read_into_by room element least s lock)
  reads_into room element least lock h =
      either Begins (not (lock_calls.is_view (length room) element)) (replying.unsupported s) _ (λ e. tt)
      (λ e. either Begins (not (lock_calls.has_least (length room) element least)) _ (lock_calls.by_byob_reader (lock_calls.read_into room element least) replying.rejected s lock) (λ f. refused (lock_calls.least_fault (length room) least) lock)
      (λ f. reads room element least lock (subst (λ (b : Bool). bad_of bad (if b then erred_by_read (length room) element (least * element) s lock else []) ≡ 0) (passes _ _ e f) h)))
    where
      passes : (a b : Bool) → not a ≡ false → not b ≡ false → a && b ≡ true
      passes true true e f = refl
      passes true false e f = cc
      passes false b e f = cc

  pub erring-call : (c : Call) → bad_of bad (erred_by c s) ≡ 0 → Begins (begin c s)
  unfolding begin
  erring-call (Finish i) h = finishes i h
  erring-call (ReadInto l room element least) h = reads_into room element least (lock_at l s) h
  erring-call c h = mild-erring bad (begin c s).done.slots (begin c s).done.caused (call-mild c s refl)

job-mild : (job : Job) → Each IsMild (job_effects job)
job-mild job = grind (arith, each-append)

pub erring-job : (bad : Plain → ℕ) (job : Job) (s : Slots) → Erring bad s (job_effects job)
erring-job bad job s = mild-erring bad s (job_effects job) (job-mild job)
