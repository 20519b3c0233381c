-- The row of each effect keeps that nothing bad stands anywhere, where the promises that it makes are of the right kind.
use Rattle.std.proofs.Common.{◌≡◌, ℕ, zero, suc, ◌+◌, ◌≤◌, ◌<◌, Bool, true, false, ◌||◌, if◌then◌else◌, List, [], ◌∷◌, ◌++◌, length, Option, Some, None, Result, Err, slice_get, slice_set, refl, ap, subst, arith}
use Rattle.ws_value.specs.declared.ids.PipeId.{PipeId}
use Rattle.ws_value.specs.declared.ids.PromiseId.{PromiseId}
use Rattle.ws_value.specs.declared.ids.SignalId.{SignalId}
use Rattle.ws_value.specs.declared.ids.StreamId.{StreamId}
use Rattle.ws_value.specs.declared.value.Outcome.TheVariants.{Given, Finished}
use Rattle.ws_value.specs.declared.value.Plain.{Plain}
use Rattle.ws_value.specs.declared.value.Plain.TheVariants.{Undefined}
use Rattle.ws_value.specs.declared.value.Value.{Value}
use Rattle.ws_value.specs.declared.value.Value.TheVariants.{Plain as PlainValue, Bytes}
use Rattle.ws_steps.specs.declared.calls.Event.TheVariants.{Host as HostCalled}
use Rattle.ws_steps.specs.declared.calls.HostCall.{HostCall}
use Rattle.ws_steps.specs.declared.calls.StartBy.{StartBy}
use Rattle.ws_steps.specs.declared.calls.StartBy.TheVariants.{Now, Later}
use Rattle.ws_steps.specs.declared.effects.Effect.{Effect}
use Rattle.ws_steps.specs.declared.effects.Effect.TheVariants.{Readable, Writable, Pipe, Signal, Transform, Tee, Port, StartAlgorithm, PullAlgorithm, CancelAlgorithm, WriteAlgorithm, CloseAlgorithm, AbortAlgorithm, ChunkSteps, CloseSteps, ErrorSteps, Give, Settle, Queue, CallHost}
use Rattle.ws_steps.specs.declared.effects.Gift.{Gift}
use Rattle.ws_steps.specs.declared.effects.Gift.TheVariants.{This, Fresh}
use Rattle.ws_steps.specs.declared.effects.Owner.{Owner}
use Rattle.ws_steps.specs.declared.effects.Owner.TheVariants.{Host, HalfOf, BranchOf, EndOf}
use Rattle.ws_steps.specs.declared.effects.Use.{Use}
use Rattle.ws_steps.specs.declared.effects.Use.TheVariants.{React}
use Rattle.ws_steps.specs.declared.pipes.PipeOperation.{PipeOperation}
use Rattle.ws_steps.specs.declared.pipes.SignalOperation.{SignalOperation}
use Rattle.ws_steps.specs.declared.pipes.SignalOperation.TheVariants.{Add, Forget, Trigger}
use Rattle.ws_steps.specs.declared.promises.Step.{Step}
use Rattle.ws_steps.specs.declared.promises.Step.TheVariants.{ReadablePull, ReturnUndefined, WritableClose, WritableAbort}
use Rattle.ws_steps.specs.declared.readable.ReadRequest.{ReadRequest}
use Rattle.ws_steps.specs.declared.readable.ReadRequest.TheVariants.{Promise, Pipe as PipeRequest, Tee as TeeRequest}
use Rattle.ws_steps.specs.declared.readable.ReadableOperation.{ReadableOperation}
use Rattle.ws_value.specs.declared.ids.TeeId.{TeeId}
use Rattle.ws_value.specs.declared.ids.PortId.{PortId}
use Rattle.ws_steps.specs.declared.tee.TeeOperation.{TeeOperation}
use Rattle.ws_steps.specs.declared.port.PortOperation.{PortOperation}
use Rattle.ws_steps.specs.declared.transform.TransformId.{TransformId}
use Rattle.ws_steps.specs.declared.transform.TransformOperation.{TransformOperation}
use Rattle.ws_steps.specs.declared.writable.WritableOperation.{WritableOperation}
use Rattle.ws_steps.specs.Operations.{readable_operation, writable_operation, pipe_operation, signal_operation, transform_operation, tee_operation, port_operation}
use Rattle.ws_steps.specs.Pipes as pipe
use Rattle.ws_steps.specs.Pipes.{abort_all, trigger_unless}
use Rattle.ws_steps.specs.Promises.{Table, next_id, fresh, fresh_settled, settle, tell, use_gift, queue_micro}
use Rattle.ws_steps.specs.Readable as readable
use Rattle.ws_steps.specs.Tee as tee
use Rattle.ws_steps.specs.Cross as cross
use Rattle.ws_steps.specs.Transform as transform
use Rattle.ws_steps.specs.Writable as writable
use Rattle.ws_steps.specs.Slots.{Slots, Stream, ReadableStream, WritableStream, Done, nothing, found, has_readable, has_writable, readable_at, writable_at, as_readable, as_source, as_writable, owner_at, put_readable, put_writable, on_readable, on_writable, on_pipe_at, on_signal_at, on_transform_at, on_tee_at, on_port_at, clones_at, is_teed, is_readable_stream, is_byte_stream, has_source, source_at, ends_at, halves_at}
use Rattle.ws_steps.specs.Turns.{row, start_algorithm, pull_algorithm, cancel_algorithm, write_algorithm, close_algorithm, abort_algorithm, chunk_steps, close_steps, error_steps, call_host}
use Rattle.ws_laws.proofs.Rows.{Changes, row-changes}
use Rattle.ws_laws.proofs.Tables.{either, readable_there, writable_there, readable_acts, writable_acts}
use Rattle.ws_reason_laws.specs.Origins.{is_half}
use Rattle.ws_reason_laws.proofs.InTable.{settle-keeps, settle_soft, fresh-keeps, fresh_settled-keeps, tell-keeps, answer-keeps, micro-keeps, use-keeps, settle-count, answer-count, fresh-count, react-count, follow-count, micro-count, use-count}
use Rattle.ws_reason_laws.proofs.Pipes.{Finds, hands_on, pipe-good}
use Rattle.ws_steps.specs.Effects.{type_error}
use Rattle.ws_reason_laws.proofs.Bytes.{inner, byte_readable-good, byte-good}
use Rattle.ws_reason_laws.proofs.Erring.{errs}
use Rattle.ws_reason_laws.proofs.Readables.{Good, lets_go, effects-append, readable-good}
use Rattle.ws_reason_laws.proofs.Tees.{Pairs, tee-good}
use Rattle.ws_reason_laws.proofs.Ports.{Clones, port-good}
use Rattle.ws_reason_laws.proofs.Transforms.{transform-good}
use Rattle.ws_reason_laws.proofs.Weights.{Class, of_result, of_reason, cancelled, of_step, soft, loud, loud_one, settles, in_table, in_request, uses, of_use, gives, of_readable, of_byte, of_writable, of_pipe, of_signal, of_transform, of_tee, of_port, soft_reader, in_reader, in_effect, in_effects, is_errored, in_readable, has_error, in_writable, in_stream, in_streams, in_pipe, in_pipes, in_signals, minds, in_ends, in_transform, in_transforms, in_halves, in_tee, in_tees, in_port, in_ports, in_slots, AllGood, count}
use Rattle.ws_reason_laws.proofs.Writables.{Expects, writable-good}
use Rattle.ws_steps.specs.declared.effects.Effect.TheVariants.{CloseStepsWith}
use Rattle.ws_steps.specs.Slots.{ByteStream, has_byte, byte_at, on_byte, put_byte}
use Rattle.ws_steps.specs.Turns.{on_source, close_steps_with}
use Rattle.ws_steps.specs.declared.effects.Effect.TheVariants.{Byte}
use Rattle.ws_steps.specs.declared.byte.ByteOperation.{ByteOperation}
use Rattle.ws_steps.specs.Operations.{byte_operation, byte_readable_operation}
use Rattle.ws_laws.proofs.Tables.{byte_acts, byte_there}
use Rattle.ws_steps.specs.Bytes as byte

-- places

pub streams-set : (k : Class) (n : ℕ) (xs : List Stream) (i : ℕ) (y : Stream) (at : ℕ) → at ≡ n + i → in_streams k n xs ≡ 0 → in_stream k at y ≡ 0 → in_streams k n (slice_set xs i y) ≡ 0
streams-set k n [] i y at e h g = refl
streams-set k n (x ∷ xs) zero y at e h g =
    let same : at ≡ n = omega (arith, e) in let f : in_stream k n y ≡ 0 = subst (λ (m : ℕ). in_stream k m y ≡ 0) same g in omega (arith, h, f)
streams-set k n (x ∷ xs) (suc i) y at e h g = let f = streams-set k (suc n) xs i y at (omega (arith, e)) (omega (arith, h)) g in omega (arith, h, f)

abbrev pub in_place : Class → ℕ → Option Stream → ℕ
in_place k n None = 0
in_place k n (Some x) = in_stream k n x

streams-there : (k : Class) (n : ℕ) (xs : List Stream) (i at : ℕ) → at ≡ n + i → in_streams k n xs ≡ 0 → in_place k at (slice_get xs i) ≡ 0
streams-there k n [] i at e h = refl
streams-there k n (x ∷ xs) zero at e h =
    let same : n ≡ at = omega (arith, e) in let z : in_stream k n x ≡ 0 = omega (arith, h) in subst (λ (m : ℕ). in_stream k m x ≡ 0) same z
streams-there k n (x ∷ xs) (suc i) at e h = streams-there k (suc n) xs i at (omega (arith, e)) (omega (arith, h))

pub stream-there : (k : Class) (xs : List Stream) (i : ℕ) → in_streams k 0 xs ≡ 0 → in_place k i (slice_get xs i) ≡ 0
stream-there k xs i h = streams-there k 0 xs i i (omega arith) h

pipes-set : (k : Class) (n : ℕ) (xs : List pipe.Slots) (i : ℕ) (y : pipe.Slots) (at : ℕ) → at ≡ n + i → in_pipes k n xs ≡ 0 → in_pipe k at y ≡ 0 → in_pipes k n (slice_set xs i y) ≡ 0
pipes-set k n [] i y at e h g = refl
pipes-set k n (x ∷ xs) zero y at e h g =
    let same : at ≡ n = omega (arith, e) in let f : in_pipe k n y ≡ 0 = subst (λ (m : ℕ). in_pipe k m y ≡ 0) same g in omega (arith, h, f)
pipes-set k n (x ∷ xs) (suc i) y at e h g = let f = pipes-set k (suc n) xs i y at (omega (arith, e)) (omega (arith, h)) g in omega (arith, h, f)

pipe-there : (k : Class) (n : ℕ) (xs : List pipe.Slots) (i : ℕ) (x : pipe.Slots) (at : ℕ) → at ≡ n + i → slice_get xs i ≡ Some x → in_pipes k n xs ≡ 0 → in_pipe k at x ≡ 0
pipe-there k n [] i x at e f h = cc
pipe-there k n (y ∷ xs) zero x at e f h =
    let same : n ≡ at = omega (arith, e) in
    let z : in_pipe k n y ≡ 0 = omega (arith, h) in
    let is : y ≡ x = some_pipe y x f in
    subst (λ (m : ℕ). in_pipe k m x ≡ 0) same (subst (λ (v : pipe.Slots). in_pipe k n v ≡ 0) is z)
  where
    some_pipe : (v w : pipe.Slots) → ◌≡◌ {A = Option pipe.Slots} (Some v) (Some w) → v ≡ w
    some_pipe v w e = cc
pipe-there k n (y ∷ xs) (suc i) x at e f h = pipe-there k (suc n) xs i x at (omega (arith, e)) f (omega (arith, h))

signals-set : (k : Class) (xs : List pipe.Signal) (i : ℕ) (y : pipe.Signal) → in_signals k xs ≡ 0 → of_reason k y.reason ≡ 0 → in_signals k (slice_set xs i y) ≡ 0
signals-set k [] i y h g = refl
signals-set k (x ∷ xs) zero y h g = omega (arith, h, g)
signals-set k (x ∷ xs) (suc i) y h g = let e = signals-set k xs i y (omega (arith, h)) g in omega (arith, h, e)

abbrev pub in_signal : Class → Option pipe.Signal → ℕ
in_signal k None = 0
in_signal k (Some x) = of_reason k x.reason

pub signal-there : (k : Class) (xs : List pipe.Signal) (i : ℕ) → in_signals k xs ≡ 0 → in_signal k (slice_get xs i) ≡ 0
signal-there k [] i h = refl
signal-there k (x ∷ xs) zero h = omega (arith, h)
signal-there k (x ∷ xs) (suc i) h = signal-there k xs i (omega (arith, h))

transforms-set : (k : Class) (xs : List transform.Slots) (i : ℕ) (y : transform.Slots) → in_transforms k xs ≡ 0 → in_transform k y ≡ 0 → in_transforms k (slice_set xs i y) ≡ 0
transforms-set k [] i y h g = refl
transforms-set k (x ∷ xs) zero y h g = omega (arith, h, g)
transforms-set k (x ∷ xs) (suc i) y h g = let e = transforms-set k xs i y (omega (arith, h)) g in omega (arith, h, e)

abbrev in_half : Class → Option transform.Slots → ℕ
in_half k None = 0
in_half k (Some x) = in_transform k x

transform-there : (k : Class) (xs : List transform.Slots) (i : ℕ) → in_transforms k xs ≡ 0 → in_half k (slice_get xs i) ≡ 0
transform-there k [] i h = refl
transform-there k (x ∷ xs) zero h = omega (arith, h)
transform-there k (x ∷ xs) (suc i) h = transform-there k xs i (omega (arith, h))

tees-set : (k : Class) (xs : List tee.Slots) (i : ℕ) (y : tee.Slots) → in_tees k xs ≡ 0 → in_tee k y ≡ 0 → in_tees k (slice_set xs i y) ≡ 0
tees-set k [] i y h g = refl
tees-set k (x ∷ xs) zero y h g = omega (arith, h, g)
tees-set k (x ∷ xs) (suc i) y h g = let e = tees-set k xs i y (omega (arith, h)) g in omega (arith, h, e)

abbrev in_option : Class → Option tee.Slots → ℕ
in_option k None = 0
in_option k (Some x) = in_tee k x

tee-there : (k : Class) (xs : List tee.Slots) (i : ℕ) → in_tees k xs ≡ 0 → in_option k (slice_get xs i) ≡ 0
tee-there k [] i h = refl
tee-there k (x ∷ xs) zero h = omega (arith, h)
tee-there k (x ∷ xs) (suc i) h = tee-there k xs i (omega (arith, h))

ports-set : (k : Class) (xs : List cross.Slots) (i : ℕ) (y : cross.Slots) → in_ports k xs ≡ 0 → in_port k y ≡ 0 → in_ports k (slice_set xs i y) ≡ 0
ports-set k [] i y h g = refl
ports-set k (x ∷ xs) zero y h g = omega (arith, h, g)
ports-set k (x ∷ xs) (suc i) y h g = let e = ports-set k xs i y (omega (arith, h)) g in omega (arith, h, e)

abbrev in_end : Class → Option cross.Slots → ℕ
in_end k None = 0
in_end k (Some x) = in_port k x

port-there : (k : Class) (xs : List cross.Slots) (i : ℕ) → in_ports k xs ≡ 0 → in_end k (slice_get xs i) ≡ 0
port-there k [] i h = refl
port-there k (x ∷ xs) zero h = omega (arith, h)
port-there k (x ∷ xs) (suc i) h = port-there k xs i (omega (arith, h))

-- what is to be known before an effect, where `me` is the pipe that is looked at

abbrev pub Fits : (Plain → ℕ) → (ℕ → Bool) → PipeId → Effect → Slots → Type 0
Fits bad half me (Writable i operation) s = has_writable i s ≡ true → Expects operation (writable_at i s)
Fits bad half me (Pipe p operation) s = (x : pipe.Slots) → slice_get s.pipes p.0 ≡ Some x → Finds (minds bad half me p x.source x.prevent) (ends_at x s) x
Fits bad half me (Readable i operation) s = (errs (Readable i operation) s ≡ true → bad type_error ≡ 0) × (lets_go operation ≡ true → is_teed i s ≡ false)
Fits bad half me (Byte i operation) s = errs (Byte i operation) s ≡ true → bad type_error ≡ 0
Fits bad half me (Tee t operation) s = (x : tee.Slots) → slice_get s.tees t.0 ≡ Some x → Pairs bad t operation x
Fits bad half me (Port c operation) s = (x : cross.Slots) → slice_get s.ports c.0 ≡ Some x → Clones bad (clones_at x s) operation
Fits bad half me (CancelAlgorithm i r p) s = is_half (owner_at i s) ≡ true → half i.0 ≡ true
Fits bad half me _ s = Unit {0}

-- the reader of a stream that is let go of is soft
abbrev pub Soft : Class → Effect → Slots → Type 0
Soft k (Readable i operation) s = has_source i s ≡ true → lets_go operation ≡ true → soft_reader k (source_at i s).reader ≡ 0
Soft k _ s = Unit {0}

-- whether the promises that an effect makes hand on
abbrev pub kind : Effect → Bool
kind (Writable i operation) = false
kind (Pipe p operation) = hands_on operation
kind _ = true

-- what a pipe finds

pub source-good : (k : Class) (n : ℕ) (o : Option Stream) → in_place k n o ≡ 0 → (if is_errored (as_source o).state then k.bad (as_source o).stored_error else 0) ≡ 0
source-good k n None h = refl
source-good k n (Some (ReadableStream x)) h = omega (arith, h)
source-good k n (Some (ByteStream x)) h = omega (arith, h)
source-good k n (Some (WritableStream x)) h = refl

reader-soft_by : (k : Class) (n : ℕ) (r : Option PromiseId) → k.teed n ≡ false → in_reader k n r ≡ 0 → soft_reader k r ≡ 0
reader-soft_by k n None t h = refl
reader-soft_by k n (Some closed) t h = rw t at h

pub reader-soft : (k : Class) (n : ℕ) (o : Option Stream) → (is_readable_stream o || is_byte_stream o) ≡ true → k.teed n ≡ false → in_place k n o ≡ 0 → soft_reader k (as_source o).reader ≡ 0
reader-soft k n None there t h = cc
reader-soft k n (Some (ReadableStream x)) there t h = reader-soft_by k n x.reader t (omega (arith, h))
reader-soft k n (Some (ByteStream x)) there t h = reader-soft_by k n x.stream.reader t (omega (arith, h))
reader-soft k n (Some (WritableStream x)) there t h = cc

half-good : (k : Class) (n : ℕ) (o : Option Stream) → in_place k n o ≡ 0 → (if is_errored (as_readable o).state then k.bad (as_readable o).stored_error else 0) ≡ 0
half-good k n None h = refl
half-good k n (Some (ReadableStream x)) h = omega (arith, h)
half-good k n (Some (ByteStream x)) h = refl
half-good k n (Some (WritableStream x)) h = refl

pub dest-good : (k : Class) (n : ℕ) (o : Option Stream) → in_place k n o ≡ 0
    → (if has_error (as_writable o).state then k.bad (as_writable o).stored_error else 0) + loud_one k (writable.answered_abort (as_writable o)) ≡ 0
dest-good k n None h = refl
dest-good k n (Some (ReadableStream x)) h = refl
dest-good k n (Some (ByteStream x)) h = refl
dest-good k n (Some (WritableStream x)) h = grind (arith, h)

ends-good : (k : Class) (x : pipe.Slots) (s : Slots) → in_slots k s ≡ 0 → in_ends k (ends_at x s) ≡ 0
ends-good k x s h =
    let a = source-good k x.source.0 (slice_get s.streams x.source.0) (stream-there k s.streams x.source.0 (omega (arith, h))) in
    let b = dest-good k x.dest.0 (slice_get s.streams x.dest.0) (stream-there k s.streams x.dest.0 (omega (arith, h))) in
    omega (arith, a, b)

halves-good : (k : Class) (x : transform.Slots) (s : Slots) → in_slots k s ≡ 0 → in_halves k (halves_at x s) ≡ 0
halves-good k x s h =
    let a = half-good k x.readable.0 (slice_get s.streams x.readable.0) (stream-there k s.streams x.readable.0 (omega (arith, h))) in
    let b = dest-good k x.writable.0 (slice_get s.streams x.writable.0) (stream-there k s.streams x.writable.0 (omega (arith, h))) in
    omega (arith, a, b)

-- there are never fewer promises

pub more : (n : ℕ) → Changes (λ (t : Table). n ≤ count t)
more n = record {
  fresh = λ t h. let c = fresh-count t in omega (arith, h, c);
  settle = λ t p o h. let c = settle-count p o t in omega (arith, h, c);
  answer = λ t p o f h. let c = answer-count p o t in omega (arith, h, c);
  react = λ t p r h. let c = react-count p r t in omega (arith, h, c);
  follow = λ t p q h. let c = follow-count p q t in omega (arith, h, c);
  micro = λ t m h. let c = micro-count m t in omega (arith, h, c);
  tell = λ t e h. h;
}

pub row-more : (e : Effect) (s : Slots) → count s.promises ≤ count (row e s).slots.promises
row-more e s = row-changes (λ (t : Table). count s.promises ≤ count t) (more (count s.promises)) e s (omega arith)

-- rows

aborts-good : (k : Class) (r : Plain) (ps : List PipeId) → k.bad r ≡ 0 → in_effects k (abort_all r ps) ≡ 0
aborts-good k r [] b = refl
aborts-good k r (p ∷ ps) b = let h = aborts-good k r ps b in omega (arith, h, b)

module _ (k : Class) (m : ℕ) where
  abbrev pub Row : Done → Type 0
  Row d = in_slots k d.slots + in_effects k d.caused ≡ 0

  abbrev Until : Done → Type 0
  Until d = count d.slots.promises ≤ m → Row d

  -- the promises from the last one on are of this kind
  abbrev pub News : Slots → Bool → Type 0
  News s b = (i : ℕ) → count s.promises ≤ i → i < m → k.hands i ≡ b

  new_loud : (s : Slots) → News s true → count s.promises < m → loud k (count s.promises) ≡ 0
  new_loud s f l = let e = f (count s.promises) (omega arith) l in grind (arith, e)

  new_soft : (s : Slots) → News s false → count s.promises < m → soft k (count s.promises) ≡ 0
  new_soft s f l = let e = f (count s.promises) (omega arith) l in grind (arith, e)

  default-row : (i : StreamId) (operation : ReadableOperation) (s : Slots) → in_slots k s ≡ 0 → of_readable k i operation ≡ 0 → (has_source i s ≡ true → lets_go operation ≡ true → soft_reader k (source_at i s).reader ≡ 0) → Row (on_readable (readable_operation i operation) i s)
  default-row i operation s h f gone =
      either Row (has_readable i s) (put_readable i s (readable_operation i operation (readable_acts i s))) (nothing s)
      (λ e.
      let there : in_readable k i.0 (readable_at i s) ≡ 0 = subst (λ (o : Option Stream). in_place k i.0 o ≡ 0) (readable_there (slice_get s.streams i.0) e) (stream-there k s.streams i.0 (omega (arith, h))) in
      let y : readable.Acts = readable_operation i operation (readable_acts i s) in
      let same : (source_at i s).reader ≡ (readable_at i s).reader = ap (λ (o : Option Stream). (as_source o).reader) (readable_there (slice_get s.streams i.0) e) in
      let g = readable-good k i operation (readable_acts i s) f (λ r. subst (λ (p : Option PromiseId). soft_reader k p ≡ 0) same (gone (rw e refl) r)) (omega (arith, h, there)) in
      let z = streams-set k 0 s.streams i.0 (ReadableStream y.slots) i.0 (omega arith) (omega (arith, h)) (omega (arith, g)) in
      omega (arith, h, g, z))
      (λ e. omega (arith, h))

  -- an operation of a byte stream, which keeps that nothing bad stands in it
  on_byte-row : (i : StreamId) (operation : byte.Acts → byte.Acts) (s : Slots) → in_slots k s ≡ 0
      → (has_byte i s ≡ true → Good k i (inner (byte_acts i s)) → Good k i (inner (operation (byte_acts i s)))) → Row (on_byte operation i s)
  on_byte-row i operation s h keeps =
      either Row (has_byte i s) (put_byte i s (operation (byte_acts i s))) (nothing s)
      (λ e.
      let there : in_readable k i.0 (byte_at i s).stream ≡ 0 = subst (λ (o : Option Stream). in_place k i.0 o ≡ 0) (byte_there (slice_get s.streams i.0) e) (stream-there k s.streams i.0 (omega (arith, h))) in
      let y : byte.Acts = operation (byte_acts i s) in
      let g = keeps e (omega (arith, h, there)) in
      let z = streams-set k 0 s.streams i.0 (ByteStream y.slots) i.0 (omega arith) (omega (arith, h)) (omega (arith, g)) in
      omega (arith, h, g, z))
      (λ e. omega (arith, h))

  readable-row : (i : StreamId) (operation : ReadableOperation) (s : Slots) → in_slots k s ≡ 0 → of_readable k i operation ≡ 0 → (errs (Readable i operation) s ≡ true → k.bad type_error ≡ 0) → (has_source i s ≡ true → lets_go operation ≡ true → soft_reader k (source_at i s).reader ≡ 0) → Row (on_source operation i s)
  readable-row i operation s h f x gone =
      either Row (has_byte i s) (on_byte (byte_readable_operation i operation) i s) (on_readable (readable_operation i operation) i s)
      (λ there. on_byte-row i (byte_readable_operation i operation) s h (λ e g. byte_readable-good k i operation (byte_acts i s) f (λ r. x (rw (e, r) refl)) (λ r. subst (λ (p : Option PromiseId). soft_reader k p ≡ 0) (same e) (gone (is_source e) r)) g))
      (λ absent. default-row i operation s h f gone)
    where
      is_source : has_byte i s ≡ true → has_source i s ≡ true
      is_source e = grind (arith, e)

      same : has_byte i s ≡ true → (source_at i s).reader ≡ (byte_at i s).stream.reader
      same e = ap (λ (o : Option Stream). (as_source o).reader) (byte_there (slice_get s.streams i.0) e)

  byte-row : (i : StreamId) (operation : ByteOperation) (s : Slots) → in_slots k s ≡ 0 → of_byte k i operation ≡ 0 → (errs (Byte i operation) s ≡ true → k.bad type_error ≡ 0) → Row (on_byte (byte_operation i operation) i s)
  byte-row i operation s h f x = on_byte-row i (byte_operation i operation) s h (λ e g. byte-good k i operation (byte_acts i s) f (λ r. x (rw (e, r) refl)) g)

  writable-row : (i : StreamId) (operation : WritableOperation) (s : Slots) → in_slots k s ≡ 0 → of_writable k operation ≡ 0 → (has_writable i s ≡ true → Expects operation (writable_at i s)) → News s false → Until (on_writable (writable_operation i operation) i s)
  writable-row i operation s h f x l =
      either Until (has_writable i s) (put_writable i s (writable_operation i operation (writable_acts i s))) (nothing s)
      (λ e q.
      let there : in_writable k (writable_at i s) ≡ 0 = subst (λ (o : Option Stream). in_place k i.0 o ≡ 0) (writable_there (slice_get s.streams i.0) e) (stream-there k s.streams i.0 (omega (arith, h))) in
      let y : writable.Acts = writable_operation i operation (writable_acts i s) in
      let g = writable-good k i (count s.promises) m (new_soft s l) operation (writable_acts i s) f (x e) refl (omega (arith, h, there)) q in
      let z = streams-set k 0 s.streams i.0 (WritableStream y.slots) i.0 (omega arith) (omega (arith, h)) (omega (arith, g)) in
      omega (arith, h, g, z))
      (λ e q. omega (arith, h))

  pipe-row : (p : PipeId) (operation : PipeOperation) (s : Slots) (o : Option pipe.Slots) → slice_get s.pipes p.0 ≡ o → in_slots k s ≡ 0 → of_pipe k operation ≡ 0
      → ((x : pipe.Slots) → slice_get s.pipes p.0 ≡ Some x → Finds (minds k.bad k.half k.me p x.source x.prevent) (ends_at x s) x) → News s (hands_on operation) → Until (on_pipe_at (λ ends. pipe_operation p ends operation) p s o)
  pipe-row p operation s None e h f x l q = omega (arith, h)
  pipe-row p operation s (Some y) e h f x l q =
      let there = pipe-there k 0 s.pipes p.0 y p.0 (omega arith) e (omega (arith, h)) in
      let a : pipe.Acts = record { slots = y; out = found s } in
      let b : pipe.Acts = pipe_operation p (ends_at y s) operation a in
      let g = pipe-good k p (ends_at y s) (ends-good k y s h) m operation a f (x y e) l (omega (arith, h, there)) q in
      let z = pipes-set k 0 s.pipes p.0 b.slots p.0 (omega arith) (omega (arith, h)) (omega (arith, g)) in
      omega (arith, h, g, z)

  signal-row : (a : SignalId) (operation : SignalOperation) (s : Slots) (o : Option pipe.Signal) → slice_get s.signals a.0 ≡ o → in_slots k s ≡ 0 → of_signal k operation ≡ 0 → Row (on_signal_at (signal_operation operation) a s o)
  signal-row a operation s None e h f = omega (arith, h)
  signal-row a operation s (Some x) e h f = by operation f
    where
      there : of_reason k x.reason ≡ 0
      there = subst (λ (o : Option pipe.Signal). in_signal k o ≡ 0) e (signal-there k s.signals a.0 (omega (arith, h)))

      by : (operation : SignalOperation) → of_signal k operation ≡ 0 → Row (on_signal_at (signal_operation operation) a s (Some x))
      by (Add p) f = let t = there in let z = signals-set k s.signals a.0 (record x { pipes = x.pipes ++ p ∷ [] }) (omega (arith, h)) t in omega (arith, h, z)
      by (Forget p) f = let t = there in let z = signals-set k s.signals a.0 (record x { pipes = pipe.without p x.pipes }) (omega (arith, h)) t in omega (arith, h, z)
      by (Trigger r) f = first x.reason refl
        where
          first : (old : Option Plain) → x.reason ≡ old
              → in_slots k (record s { signals = slice_set s.signals a.0 (trigger_unless r x old).signal }) + in_effects k (trigger_unless r x old).effects ≡ 0
          first None g =
              let z = signals-set k s.signals a.0 (record x { reason = Some r }) (omega (arith, h)) f in let w = aborts-good k r x.pipes f in omega (arith, h, z, w)
          first (Some old) g = let t = there in let z = signals-set k s.signals a.0 x (omega (arith, h)) t in omega (arith, h, z)

  transform-row : (t : TransformId) (operation : TransformOperation) (s : Slots) (o : Option transform.Slots) → slice_get s.transforms t.0 ≡ o → in_slots k s ≡ 0 → of_transform k operation ≡ 0 → News s true
      → Until (on_transform_at (λ halves. transform_operation t halves operation) t s o)
  transform-row t operation s None e h f l q = omega (arith, h)
  transform-row t operation s (Some x) e h f l q =
      let there : in_transform k x ≡ 0 = subst (λ (o : Option transform.Slots). in_half k o ≡ 0) e (transform-there k s.transforms t.0 (omega (arith, h))) in
      let a : transform.Acts = record { slots = x; out = found s } in
      let b : transform.Acts = transform_operation t (halves_at x s) operation a in
      let g = transform-good k t (halves_at x s) (halves-good k x s h) m operation a f (λ i n z. all_loud i (l i n z)) (omega (arith, h, there)) q in
      let z = transforms-set k s.transforms t.0 b.slots (omega (arith, h)) (omega (arith, g)) in
      omega (arith, h, g, z)
    where
      all_loud : (i : ℕ) → k.hands i ≡ true → loud k i ≡ 0
      all_loud i e = grind (arith, e)

  tee-row : (t : TeeId) (operation : TeeOperation) (s : Slots) (o : Option tee.Slots) → slice_get s.tees t.0 ≡ o → ((x : tee.Slots) → o ≡ Some x → Pairs k.bad t operation x) → in_slots k s ≡ 0 → of_tee k operation ≡ 0 → News s true
      → Until (on_tee_at (tee_operation t operation) t s o)
  tee-row t operation s None e n h f l q = omega (arith, h)
  tee-row t operation s (Some x) e n h f l q =
      let there : in_tee k x ≡ 0 = subst (λ (o : Option tee.Slots). in_option k o ≡ 0) e (tee-there k s.tees t.0 (omega (arith, h))) in
      let a : tee.Acts = record { slots = x; out = found s } in
      let b : tee.Acts = tee_operation t operation a in
      let g = tee-good k t m operation a (n x refl) f (λ i n z. all_loud i (l i n z)) (omega (arith, h, there)) q in
      let z = tees-set k s.tees t.0 b.slots (omega (arith, h)) (omega (arith, g)) in
      omega (arith, h, g, z)
    where
      all_loud : (i : ℕ) → k.hands i ≡ true → loud k i ≡ 0
      all_loud i e = grind (arith, e)

  port-row : (t : PortId) (operation : PortOperation) (s : Slots) (o : Option cross.Slots) → slice_get s.ports t.0 ≡ o → ((x : cross.Slots) → o ≡ Some x → Clones k.bad (clones_at x s) operation) → in_slots k s ≡ 0 → of_port k operation ≡ 0 → News s true
      → Until (on_port_at (λ clones. port_operation t clones operation) t s o)
  port-row t operation s None e n h f l q = omega (arith, h)
  port-row t operation s (Some x) e n h f l q =
      let there : in_port k x ≡ 0 = subst (λ (o : Option cross.Slots). in_end k o ≡ 0) e (port-there k s.ports t.0 (omega (arith, h))) in
      let a : cross.Acts = record { slots = x; out = found s } in
      let b : cross.Acts = port_operation t (clones_at x s) operation a in
      let g = port-good k t m (clones_at x s) operation a (n x refl) f (λ i n z. all_loud i (l i n z)) (omega (arith, h, there)) q in
      let z = ports-set k s.ports t.0 b.slots (omega (arith, h)) (omega (arith, g)) in
      omega (arith, h, g, z)
    where
      all_loud : (i : ℕ) → k.hands i ≡ true → loud k i ≡ 0
      all_loud i e = grind (arith, e)

  -- the promises alone change
  promises-row : (s : Slots) (t : Table) (hosts : List (Option PromiseId)) (cs : List Effect) → in_slots k s ≡ 0 → in_table k t ≡ 0 → in_effects k cs ≡ 0 → Row (record { slots = record s { promises = t; hosts = hosts }; caused = cs })
  promises-row s t hosts cs h g f = omega (arith, h, g, f)

  start-row : (i : StreamId) (step : Step) (s : Slots) (start : StartBy) → in_slots k s ≡ 0 → of_step k step ≡ 0 → News s true → Until (start_algorithm i step s start)
  start-row i step s Now h z l q = omega (arith, h, z)
  start-row i step s Later h z l q =
      let c = fresh-count s.promises in
      let one = new_loud s l (omega (arith, c, q)) in
      let f = fresh-keeps k s.promises (omega (arith, h)) in
      let u : uses k (count s.promises) (React step None) ≡ 0 = used step one z in
      omega (arith, h, f, u, z)
    where
      used : (step : Step) → loud k (count s.promises) ≡ 0 → of_step k step ≡ 0 → uses k (count s.promises) (React step None) ≡ 0
      used step o z = grind (arith, o, z)

  new_use : (n : ℕ) (u : Use) → loud k n ≡ 0 → of_use k u ≡ 0 → uses k n u ≡ 0
  new_use n u o z = grind (arith, o, z)

  good_settles : (n : ℕ) (o : Result Plain Plain) → of_result k o ≡ 0 → settles k n o ≡ 0
  good_settles n o h = grind (arith, h)

  give-row : (gift : Gift) (u : Use) (s : Slots) → in_slots k s ≡ 0 → gives k gift u ≡ 0 → News s true → count (use_gift gift u s.promises) ≤ m → in_table k (use_gift gift u s.promises) ≡ 0
  unfolding use_gift
  give-row (This p) u s h f l q = use-keeps k p s.promises u (omega (arith, h)) f
  give-row (Fresh o) u s h f l q =
      let t = fresh_settled o s.promises in
      let a = use-count (next_id s.promises) t u in
      let b = settle-count (next_id s.promises) o (fresh s.promises) in
      let c = fresh-count s.promises in
      let one = new_loud s l (omega (arith, a, b, c, q)) in
      let g = fresh_settled-keeps k o s.promises (omega (arith, h)) (good_settles (count s.promises) o (omega (arith, f))) in
      use-keeps k (next_id s.promises) t u g (new_use (count s.promises) u one (omega (arith, f)))

  call-row : (call : HostCall) (u : Use) (s : Slots) → in_slots k s ≡ 0 → of_use k u ≡ 0 → News s true → count (call_host call u s).promises ≤ m → in_slots k (call_host call u s) + 0 ≡ 0
  unfolding call_host
  call-row call u s h f l q =
      let e = HostCalled (record { 0 = length s.hosts }) call in
      let t = tell e (fresh s.promises) in
      let a = use-count (next_id s.promises) t u in
      let c = fresh-count s.promises in
      let one = new_loud s l (omega (arith, a, c, q)) in
      let g = tell-keeps k e (fresh s.promises) (fresh-keeps k s.promises (omega (arith, h))) in
      let z = use-keeps k (next_id s.promises) t u g (new_use (count s.promises) u one f) in
      omega (arith, h, z)

  pulls : (i : StreamId) (u : Use) (owner : Owner) → of_use k u ≡ 0 → in_effects k (pull_algorithm i u owner) ≡ 0
  pulls i u Host z = omega (arith, z)
  pulls i u (HalfOf t) z = omega (arith, z)
  pulls i u (BranchOf t half) z = omega (arith, z)
  pulls i u (EndOf c) z = omega (arith, z)

  cancels : (i : StreamId) (r : Plain) (u : Use) (owner : Owner) → cancelled k i r ≡ 0 → (is_half owner ≡ true → k.half i.0 ≡ true) → of_use k u ≡ 0 → in_effects k (cancel_algorithm i r u owner) ≡ 0
  cancels i r u Host f x z = omega (arith, z)
  cancels i r u (HalfOf t) f x z = let b : k.bad r ≡ 0 = rw (x refl) at f in omega (arith, b, z)
  cancels i r u (BranchOf t half) f x z = omega (arith, z)
  cancels i r u (EndOf c) f x z = omega (arith, z)

  hands : (i : StreamId) (owner : Owner) → in_effects k (write_algorithm i owner) ≡ 0
  hands i Host = refl
  hands i (HalfOf t) = refl
  hands i (BranchOf t half) = refl
  hands i (EndOf c) = refl

  closes : (i : StreamId) (u : Use) (owner : Owner) → of_use k u ≡ 0 → in_effects k (close_algorithm i u owner) ≡ 0
  closes i u Host z = omega (arith, z)
  closes i u (HalfOf t) z = omega (arith, z)
  closes i u (BranchOf t half) z = omega (arith, z)
  closes i u (EndOf c) z = omega (arith, z)

  aborts : (i : StreamId) (r : Plain) (u : Use) (owner : Owner) → k.bad r ≡ 0 → of_use k u ≡ 0 → in_effects k (abort_algorithm i r u owner) ≡ 0
  aborts i r u Host f z = omega (arith, z)
  aborts i r u (HalfOf t) f z = omega (arith, f, z)
  aborts i r u (BranchOf t half) f z = omega (arith, z)
  aborts i r u (EndOf c) f z = omega (arith, f, z)

  chunk-row : (v : Value) (s : Slots) (request : ReadRequest) → in_slots k s ≡ 0 → Row (chunk_steps v s request)
  chunk-row v s (Promise p) h = let a = answer-keeps k p (Given v) s.promises (omega (arith, h)) refl in omega (arith, h, a)
  chunk-row v s (PipeRequest p) h = omega (arith, h)
  chunk-row v s (TeeRequest t) h = omega (arith, h)

  close-row : (s : Slots) (request : ReadRequest) → in_slots k s ≡ 0 → Row (close_steps s request)
  close-row s (Promise p) h = let a = answer-keeps k p (Finished (PlainValue Undefined)) s.promises (omega (arith, h)) refl in omega (arith, h, a)
  close-row s (PipeRequest p) h = omega (arith, h)
  close-row s (TeeRequest t) h = omega (arith, h)

  close_with-row : (b : List ℕ) (s : Slots) (request : ReadRequest) → in_slots k s ≡ 0 → Row (close_steps_with b s request)
  close_with-row b s (Promise p) h = let a = answer-keeps k p (Finished (Bytes b)) s.promises (omega (arith, h)) refl in omega (arith, h, a)
  close_with-row b s (PipeRequest p) h = omega (arith, h)
  close_with-row b s (TeeRequest t) h = omega (arith, h)

  error-row : (e : Plain) (s : Slots) (request : ReadRequest) → in_slots k s ≡ 0 → in_request k request ≡ 0 → Row (error_steps e s request)
  error-row e s (Promise p) h f = let a = settle_soft k p (Err e) s.promises (omega (arith, h)) f in omega (arith, h, a)
  error-row e s (PipeRequest p) h f = omega (arith, h)
  error-row e s (TeeRequest t) h f = omega (arith, h)

  pub row-good : (e : Effect) (s : Slots) → in_slots k s ≡ 0 → in_effect k e ≡ 0 → Fits k.bad k.half k.me e s → Soft k e s → News s (kind e) → Until (row e s)
  unfolding row
  row-good (Readable i operation) s h f x gone l q = readable-row i operation s h f x.0 gone
  row-good (Byte i operation) s h f x gone l q = byte-row i operation s h f x
  row-good (Writable i operation) s h f x gone l q = writable-row i operation s h f x l q
  row-good (Pipe p operation) s h f x gone l q = pipe-row p operation s (slice_get s.pipes p.0) refl h f x l q
  row-good (Signal a operation) s h f x gone l q = signal-row a operation s (slice_get s.signals a.0) refl h f
  row-good (Transform t operation) s h f x gone l q = transform-row t operation s (slice_get s.transforms t.0) refl h f l q
  row-good (Tee t operation) s h f x gone l q = tee-row t operation s (slice_get s.tees t.0) refl x h f l q
  row-good (Port t operation) s h f x gone l q = port-row t operation s (slice_get s.ports t.0) refl x h f l q
  row-good (StartAlgorithm i step start) s h f x gone l q = start-row i step s start h f l q
  row-good (PullAlgorithm i) s h f x gone l q = promises-row s s.promises s.hosts _ h (omega (arith, h)) (pulls i (React (ReadablePull i) None) (owner_at i s) refl)
  row-good (CancelAlgorithm i r p) s h f x gone l q = promises-row s s.promises s.hosts _ h (omega (arith, h)) (cancels i r (React ReturnUndefined (Some p)) (owner_at i s) f x refl)
  row-good (WriteAlgorithm i) s h f x gone l q = promises-row s s.promises s.hosts _ h (omega (arith, h)) (hands i (owner_at i s))
  row-good (CloseAlgorithm i) s h f x gone l q = promises-row s s.promises s.hosts _ h (omega (arith, h)) (closes i (React (WritableClose i) None) (owner_at i s) refl)
  row-good (AbortAlgorithm i r p) s h f x gone l q = promises-row s s.promises s.hosts _ h (omega (arith, h)) (aborts i r (React (WritableAbort i p) None) (owner_at i s) f refl)
  row-good (ChunkSteps i request v) s h f x gone l q = chunk-row v s request h
  row-good (CloseSteps i request) s h f x gone l q = close-row s request h
  row-good (CloseStepsWith i request b) s h f x gone l q = close_with-row b s request h
  row-good (ErrorSteps i request e) s h f x gone l q = error-row e s request h f
  row-good (Give gift u) s h f x gone l q = promises-row s (use_gift gift u s.promises) s.hosts [] h (give-row gift u s h f l q) refl
  row-good (Settle p o) s h f x gone l q = promises-row s (settle p o s.promises) s.hosts [] h (settle-keeps k p o s.promises (omega (arith, h)) f) refl
  row-good (Queue micro) s h f x gone l q = promises-row s (queue_micro micro s.promises) s.hosts [] h (micro-keeps k micro s.promises (omega (arith, h))) refl
  row-good (CallHost call u) s h f x gone l q = call-row call u s h f l q

  pub turn-good : (e : Effect) (es : List Effect) (s : Slots) → AllGood k s (e ∷ es) → Fits k.bad k.half k.me e s → Soft k e s → News s (kind e) → count (row e s).slots.promises ≤ m → AllGood k (row e s).slots ((row e s).caused ++ es)
  turn-good e es s h x gone l q =
      let a = row-good e s (omega (arith, h)) (omega (arith, h)) x gone l q in
      let b = effects-append k (row e s).caused es in
      omega (arith, h, a, b)
