-- What the row of an effect takes: the places that are taken, with what the effects and the records may still take, are no more than
-- before, less the price of a turn.
use Rattle.std.proofs.Common.{◌≡◌, ◌≤◌, ◌<◌, ℕ, zero, suc, ◌+◌, ◌*◌, ◌⊎◌, inl, inr, ⊎_elim, ◌∙◌, List, [], ◌∷◌, ◌++◌, length, length-append, Option, Some, None, Err, refl, ap, subst, arith}
use Rattle.std.specs.Prelude.{slice_get, slice_set}
use Rattle.ws_value.specs.declared.ids.PipeId.{PipeId}
use Rattle.ws_value.specs.declared.ids.PortId.{PortId}
use Rattle.ws_value.specs.declared.ids.SignalId.{SignalId}
use Rattle.ws_value.specs.declared.ids.StreamId.{StreamId}
use Rattle.ws_value.specs.declared.ids.TeeId.{TeeId}
use Rattle.ws_value.specs.declared.ids.PromiseId.{PromiseId}
use Rattle.ws_value.specs.declared.value.Plain.{Plain}
use Rattle.ws_value.specs.declared.value.Plain.TheVariants.{Undefined}
use Rattle.ws_value.specs.declared.value.Value.{Value}
use Rattle.ws_value.specs.declared.value.Value.TheVariants.{Plain as PlainValue, Bytes}
use Rattle.ws_steps.specs.declared.{calls.Event.TheVariants.{Host as HostCalled}, calls.HostCall.{HostCall}, calls.StartBy.{StartBy}, calls.StartBy.TheVariants.{Now, Later}}
use Rattle.ws_steps.specs.declared.byte.ByteOperation.{ByteOperation}
use Rattle.ws_steps.specs.declared.effects.Effect.{Effect}
use Rattle.ws_steps.specs.declared.effects.Effect.TheVariants.{Readable, Byte, Writable, Pipe, Signal, Transform, Tee, Port, StartAlgorithm, PullAlgorithm, CancelAlgorithm, WriteAlgorithm, CloseAlgorithm, AbortAlgorithm, ChunkSteps, CloseSteps, CloseStepsWith, ErrorSteps, Give, Settle, Queue, CallHost}
use Rattle.ws_steps.specs.declared.{effects.Owner.{Owner}, effects.Owner.TheVariants.{Host, HalfOf, BranchOf, EndOf}, effects.Use.{Use}, effects.Use.TheVariants.{React}, promises.Step.{Step}}
use Rattle.ws_steps.specs.declared.{promises.Step.TheVariants.{ReadablePull, ReturnUndefined, WritableClose, WritableAbort}, readable.ReadRequest.{ReadRequest}}
use Rattle.ws_steps.specs.declared.{readable.ReadRequest.TheVariants.{Promise, Pipe as PipeRequest, Tee as TeeRequest}, pipes.PipeOperation.{PipeOperation}, pipes.SignalOperation.{SignalOperation}, readable.ReadableOperation.{ReadableOperation}, tee.TeeOperation.{TeeOperation}, transform.TransformId.{TransformId}, transform.TransformOperation.{TransformOperation}, writable.WritableOperation.{WritableOperation}}
use Rattle.ws_steps.specs.Promises.{Table, next_id, fresh, tell}
use Rattle.ws_steps.specs.Operations.{readable_operation, byte_readable_operation, byte_operation, writable_operation, pipe_operation, signal_operation, transform_operation, tee_operation, port_operation}
use Rattle.ws_steps.specs.Bytes as byte
use Rattle.ws_steps.specs.Pipes as pipe
use Rattle.ws_steps.specs.Readable as readable
use Rattle.ws_steps.specs.Tee as tee
use Rattle.ws_steps.specs.Cross as cross
use Rattle.ws_steps.specs.declared.port.PortOperation.{PortOperation}
use Rattle.ws_steps.specs.Transform as transform
use Rattle.ws_steps.specs.Writable as writable
use Rattle.ws_steps.specs.Slots.{Slots, Stream, ReadableStream, ByteStream, WritableStream, Done, nothing, owner_at, found, ends_at, halves_at, on_byte, on_writable, on_pipe, on_signal, on_transform, on_tee, on_port, clones_at}
use Rattle.ws_steps.specs.Places.{Prices, Counts, all_kept, tee_price, port_price, tee_keeps, tees_keep, price, each, effect_price, readable_price, byte_price, writable_price, start_price, prices_of, pipe_price, signal_price, transform_price, keeps, all_keep, signal_keeps, signals_keep, need, turns_alone, measure, table_size, entries_of, members_of, size}
use Rattle.ws_steps.specs.Turns.{start_algorithm, pull_algorithm, cancel_algorithm, write_algorithm, close_algorithm, abort_algorithm, chunk_steps, close_steps, close_steps_with, error_steps, on_source, call_host, row}
use Rattle.ws_room_laws.proofs.Tables.{settle-size, given-size, finished-size, fresh-size, tell-size, use-size, gift-size, micro-size}
use Rattle.ws_room_laws.proofs.Readables.{readable-takes, prices-append}
use Rattle.ws_room_laws.proofs.Bytes.{byte_readable-takes, byte-takes}
use Rattle.ws_room_laws.proofs.Writables.{writable-takes}
use Rattle.ws_room_laws.proofs.Pipes.{pipe-takes, signal-takes}
use Rattle.ws_room_laws.proofs.Transforms.{transform-takes}
use Rattle.ws_room_laws.proofs.Tees.{tee-takes}
use Rattle.ws_room_laws.proofs.Ports.{port-takes}

-- what a row takes
abbrev Takes : Prices → StreamId → SignalId → ℕ → Slots → Done → Type 0
Takes π i a n s d =
    size π i a d.slots + prices_of π d.caused + all_kept π d.slots + π.turn ≤ size π i a s + n + all_kept π s

-- the entries of an empty list, for nothing each
pub each-none : {A : Type 0} (xs : List A) → each 0 xs ≡ 0
each-none [] = refl
each-none (x ∷ xs) = let h = each-none xs in omega (arith, h)

-- the streams, where one is put in the place of another

pub keep-set : (π : Prices) (xs : List Stream) (j : ℕ) (x y : Stream) → slice_get xs j ≡ Some x → all_keep π (slice_set xs j y) + keeps π x ≡ all_keep π xs + keeps π y
keep-set π [] j x y is = cc
keep-set π (z ∷ zs) zero x y is = let h : z ≡ x = cc in let k = ap (keeps π) h in omega (arith, k)
keep-set π (z ∷ zs) (suc j) x y is = let h = keep-set π zs j x y is in omega (arith, h)

pub get-same : {X : Type 0} (xs : List X) (j : ℕ) (x y : X) → slice_get xs j ≡ Some x → slice_get (slice_set xs j y) j ≡ Some y
get-same [] j x y is = cc
get-same (z ∷ zs) zero x y is = refl
get-same (z ∷ zs) (suc j) x y is = get-same zs j x y is

pub get-other : {X : Type 0} (xs : List X) (j i : ℕ) (y : X) → (i ≡ j → ⊥) → slice_get (slice_set xs j y) i ≡ slice_get xs i
get-other [] j i y other = refl
get-other (z ∷ zs) zero zero y other = absurd (other refl)
get-other (z ∷ zs) zero (suc i) y other = refl
get-other (z ∷ zs) (suc j) zero y other = refl
get-other (z ∷ zs) (suc j) (suc i) y other = get-other zs j i y (λ e. other (ap suc e))

-- whether two numbers are the same
pub same-or : (i j : ℕ) → (i ≡ j) ⊎ (i ≡ j → ⊥)
same-or zero zero = inl refl
same-or zero (suc j) = inr (λ e. cc)
same-or (suc i) zero = inr (λ e. cc)
same-or (suc i) (suc j) = ⊎_elim (λ e. inl (ap suc e)) (λ f. inr (λ e. f (omega arith))) (same-or i j)

-- the entries of the lists of a stream, where one of the queue counts q, a request r, and a descriptor d
abbrev entries_by : ℕ → ℕ → ℕ → Stream → ℕ
entries_by q r d (ReadableStream x) = each q x.queue + each r x.requests
entries_by q r d (ByteStream x) = each q x.queue + each r x.stream.requests + each d x.descriptors
entries_by q r d (WritableStream x) = each q x.queue + each r x.write_requests

entries-none : (x : Stream) → entries_by 0 0 0 x ≡ 0
entries-none (ReadableStream x) = let a = each-none x.queue in let b = each-none x.requests in omega (arith, a, b)
entries-none (ByteStream x) = let a = each-none x.queue in let b = each-none x.stream.requests in let c = each-none x.descriptors in omega (arith, a, b, c)
entries-none (WritableStream x) = let a = each-none x.queue in let b = each-none x.write_requests in omega (arith, a, b)

entries-some : (π : Prices) (x : Stream) → entries_of π (Some x) ≡ entries_by π.queued π.request π.descriptor x
entries-some π (ReadableStream x) = refl
entries-some π (ByteStream x) = refl
entries-some π (WritableStream x) = refl

-- what an operation of one stream takes, whichever of the lists is counted
abbrev StreamTakes : Prices → StreamId → ℕ → Table → Stream → Stream → Table → List Effect → Type 0
StreamTakes π j n t x y u es = (q r d : ℕ) → q ≤ π.queued → r ≤ π.request → r ≤ π.reads j → d ≤ π.descriptor →
    prices_of π es + keeps π y + entries_by q r d y + table_size π u + π.turn ≤ keeps π x + entries_by q r d x + table_size π t + n

put-takes : (π : Prices) (i j : StreamId) (a : SignalId) (s : Slots) (n : ℕ) (x y : Stream) (u : Table) (es : List Effect) → Counts π i → slice_get s.streams j.0 ≡ Some x → StreamTakes π j n s.promises x y u es
    → Takes π i a n s (record { slots = record s { streams = slice_set s.streams j.0 y; promises = u }; caused = es })
put-takes π i j a s n x y u es c is takes =
    let k = keep-set π s.streams j.0 x y is in
    ⊎_elim
    (λ (e : i.0 ≡ j.0).
    let here : π.reads j ≡ π.request = subst (λ (n : ℕ). π.reads (record { 0 = n }) ≡ π.request) e c.here in
    let h = takes π.queued π.request π.descriptor (omega arith) (omega arith) (omega (arith, here)) (omega arith) in
    let before = ap (entries_of π) (ap (slice_get s.streams) e ∙ is) in
    let after = ap (entries_of π) (ap (slice_get (slice_set s.streams j.0 y)) e ∙ get-same s.streams j.0 x y is) in
    let f = entries-some π x in
    let d = entries-some π y in
    omega (arith, h, k, before, after, f, d))
    (λ (f : i.0 ≡ j.0 → ⊥).
    let h = takes 0 0 0 (omega arith) (omega arith) (omega arith) (omega arith) in
    let same = ap (entries_of π) (get-other s.streams j.0 i.0 y f) in
    let g = entries-none x in
    let d = entries-none y in
    omega (arith, h, k, same, g, d))
    (same-or i.0 j.0)

nothing-takes : (π : Prices) (i : StreamId) (a : SignalId) (s : Slots) (n : ℕ) → π.turn ≤ n → Takes π i a n s (nothing s)
nothing-takes π i a s n least = omega (arith, least)

readable-least : (π : Prices) (j : StreamId) (operation : ReadableOperation) → π.turn ≤ readable_price π j operation
readable-least π j operation = grind arith

writable-least : (π : Prices) (operation : WritableOperation) → π.turn ≤ writable_price π operation
writable-least π operation = grind arith

byte-least : (π : Prices) (operation : ByteOperation) → π.turn ≤ byte_price π operation
byte-least π operation = grind arith

readable-row : (π : Prices) (i j : StreamId) (a : SignalId) (c : Counts π i) (operation : ReadableOperation) (s : Slots) (o : Option Stream) → slice_get s.streams j.0 ≡ o
    → Takes π i a (readable_price π j operation) s (on_source operation j s)
readable-row π i j a c operation s None is = rw is (nothing-takes π i a s (readable_price π j operation) (readable-least π j operation))
readable-row π i j a c operation s (Some (WritableStream x)) is = rw is (nothing-takes π i a s (readable_price π j operation) (readable-least π j operation))
readable-row π i j a c operation s (Some (ReadableStream x)) is =
    let z : readable.Acts = record { slots = x; out = found s } in
    let b : readable.Acts = readable_operation j operation z in
    rw is (put-takes π i j a s (readable_price π j operation) (ReadableStream x) (ReadableStream b.slots) b.out.promises b.out.effects c is
    (λ q r d l m w k. let h = readable-takes π q r j operation z l m w in omega (arith, h)))
readable-row π i j a c operation s (Some (ByteStream x)) is =
    let z : byte.Acts = record { slots = x; out = found s } in
    let b : byte.Acts = byte_readable_operation j operation z in
    rw is (put-takes π i j a s (readable_price π j operation) (ByteStream x) (ByteStream b.slots) b.out.promises b.out.effects c is
    (λ q r d l m w k. let h = byte_readable-takes π q r d j operation z l m k in omega (arith, h)))

byte-row : (π : Prices) (i j : StreamId) (a : SignalId) (c : Counts π i) (operation : ByteOperation) (s : Slots) (o : Option Stream) → slice_get s.streams j.0 ≡ o
    → Takes π i a (byte_price π operation) s (on_byte (byte_operation j operation) j s)
byte-row π i j a c operation s None is = rw is (nothing-takes π i a s (byte_price π operation) (byte-least π operation))
byte-row π i j a c operation s (Some (WritableStream x)) is = rw is (nothing-takes π i a s (byte_price π operation) (byte-least π operation))
byte-row π i j a c operation s (Some (ReadableStream x)) is = rw is (nothing-takes π i a s (byte_price π operation) (byte-least π operation))
byte-row π i j a c operation s (Some (ByteStream x)) is =
    let z : byte.Acts = record { slots = x; out = found s } in
    let b : byte.Acts = byte_operation j operation z in
    rw is (put-takes π i j a s (byte_price π operation) (ByteStream x) (ByteStream b.slots) b.out.promises b.out.effects c is
    (λ q r d l m w k. let h = byte-takes π q r d j operation z l m k in omega (arith, h)))

writable-row : (π : Prices) (i j : StreamId) (a : SignalId) (c : Counts π i) (operation : WritableOperation) (s : Slots) (o : Option Stream) → slice_get s.streams j.0 ≡ o
    → Takes π i a (writable_price π operation) s (on_writable (writable_operation j operation) j s)
writable-row π i j a c operation s None is = rw is (nothing-takes π i a s (writable_price π operation) (writable-least π operation))
writable-row π i j a c operation s (Some (ByteStream x)) is = rw is (nothing-takes π i a s (writable_price π operation) (writable-least π operation))
writable-row π i j a c operation s (Some (ReadableStream x)) is = rw is (nothing-takes π i a s (writable_price π operation) (writable-least π operation))
writable-row π i j a c operation s (Some (WritableStream x)) is =
    let z : writable.Acts = record { slots = x; out = found s } in
    let b : writable.Acts = writable_operation j operation z in
    rw is (put-takes π i j a s (writable_price π operation) (WritableStream x) (WritableStream b.slots) b.out.promises b.out.effects c is
    (λ q r d l m w k. let h = writable-takes π q r j operation z l m in omega (arith, h)))

pipe-least : (π : Prices) (operation : PipeOperation) → π.turn ≤ pipe_price π operation
pipe-least π operation = grind arith

signal-least : (π : Prices) (operation : SignalOperation) → π.turn ≤ signal_price π operation
signal-least π operation = grind arith

pipe-row : (π : Prices) (i : StreamId) (a : SignalId) (p : PipeId) (operation : PipeOperation) (s : Slots) (o : Option pipe.Slots) → slice_get s.pipes p.0 ≡ o
    → Takes π i a (pipe_price π operation) s (on_pipe (λ ends. pipe_operation p ends operation) p s)
pipe-row π i a p operation s None is = rw is (nothing-takes π i a s (pipe_price π operation) (pipe-least π operation))
pipe-row π i a p operation s (Some x) is =
    rw is (let h = pipe-takes π p (ends_at x s) operation (record { slots = x; out = found s }) in omega (arith, h))

-- the signals, where one is put in the place of another

signals-set : (π : Prices) (xs : List pipe.Signal) (j : ℕ) (x y : pipe.Signal) → slice_get xs j ≡ Some x
    → signals_keep π (slice_set xs j y) + signal_keeps π x ≡ signals_keep π xs + signal_keeps π y
signals-set π [] j x y is = cc
signals-set π (z ∷ zs) zero x y is = let h : z ≡ x = cc in let k = ap (signal_keeps π) h in omega (arith, k)
signals-set π (z ∷ zs) (suc j) x y is = let h = signals-set π zs j x y is in omega (arith, h)

signal-row : (π : Prices) (i : StreamId) (a b : SignalId) (operation : SignalOperation) (s : Slots) (o : Option pipe.Signal) → slice_get s.signals b.0 ≡ o
    → Takes π i a (signal_price π operation) s (on_signal (signal_operation operation) b s)
signal-row π i a b operation s None is = rw is (nothing-takes π i a s (signal_price π operation) (signal-least π operation))
signal-row π i a b operation s (Some x) is =
    let y : pipe.Signalled = signal_operation operation x in
    let k = signals-set π s.signals b.0 x y.signal is in
    rw is
    (⊎_elim
    (λ (e : a.0 ≡ b.0).
    let h = signal-takes π π.member operation x (omega arith) in
    let before = ap (members_of π) (ap (slice_get s.signals) e ∙ is) in
    let after = ap (members_of π) (ap (slice_get (slice_set s.signals b.0 y.signal)) e ∙ get-same s.signals b.0 x y.signal is) in
    omega (arith, h, k, before, after))
    (λ (f : a.0 ≡ b.0 → ⊥).
    let h = signal-takes π 0 operation x (omega arith) in
    let same = ap (members_of π) (get-other s.signals b.0 a.0 y.signal f) in
    let c = each-none x.pipes in
    let d = each-none y.signal.pipes in
    omega (arith, h, k, same, c, d))
    (same-or a.0 b.0))

-- transform streams

transform-least : (π : Prices) (operation : TransformOperation) → π.turn ≤ transform_price π operation
transform-least π operation = grind arith

transform-row : (π : Prices) (i : StreamId) (a : SignalId) (t : TransformId) (operation : TransformOperation) (s : Slots) (o : Option transform.Slots) → slice_get s.transforms t.0 ≡ o
    → Takes π i a (transform_price π operation) s (on_transform (λ halves. transform_operation t halves operation) t s)
transform-row π i a t operation s None is = rw is (nothing-takes π i a s (transform_price π operation) (transform-least π operation))
transform-row π i a t operation s (Some x) is =
    rw is (let h = transform-takes π t (halves_at x s) operation (record { slots = x; out = found s }) in omega (arith, h))

-- tees

tee-least : (π : Prices) (operation : TeeOperation) → π.turn ≤ tee_price π operation
tee-least π operation = grind arith

-- the tees, where one is put in the place of another
tees-set : (π : Prices) (xs : List tee.Slots) (j : ℕ) (x y : tee.Slots) → slice_get xs j ≡ Some x
    → tees_keep π (slice_set xs j y) + tee_keeps π x ≡ tees_keep π xs + tee_keeps π y
tees-set π [] j x y is = cc
tees-set π (z ∷ zs) zero x y is = let h : z ≡ x = cc in let k = ap (tee_keeps π) h in omega (arith, k)
tees-set π (z ∷ zs) (suc j) x y is = let h = tees-set π zs j x y is in omega (arith, h)

tee-row : (π : Prices) (i : StreamId) (a : SignalId) (c : Counts π i) (t : TeeId) (operation : TeeOperation) (s : Slots) (o : Option tee.Slots) → slice_get s.tees t.0 ≡ o
    → Takes π i a (tee_price π operation) s (on_tee (tee_operation t operation) t s)
tee-row π i a c t operation s None is = rw is (nothing-takes π i a s (tee_price π operation) (tee-least π operation))
tee-row π i a c t operation s (Some x) is =
    let z : tee.Acts = record { slots = x; out = found s } in
    let k = tees-set π s.tees t.0 x (tee_operation t operation z).slots is in
    rw is (let h = tee-takes π t c.others operation z in omega (arith, h, k))

-- ports

port-least : (π : Prices) (operation : PortOperation) → π.turn ≤ port_price π operation
port-least π operation = grind arith

port-row : (π : Prices) (i : StreamId) (a : SignalId) (p : PortId) (operation : PortOperation) (s : Slots) (o : Option cross.Slots) → slice_get s.ports p.0 ≡ o
    → Takes π i a (port_price π operation) s (on_port (λ clones. port_operation p clones operation) p s)
port-row π i a p operation s None is = rw is (nothing-takes π i a s (port_price π operation) (port-least π operation))
port-row π i a p operation s (Some x) is =
    let z : cross.Acts = record { slots = x; out = found s } in
    rw is (let h = port-takes π p (clones_at x s) operation z in omega (arith, h))

-- algorithms

start-row : (π : Prices) (i j : StreamId) (a : SignalId) (step : Step) (s : Slots) (start : StartBy) → Takes π i a (start_price π start) s (start_algorithm j step s start)
start-row π i j a step s Now = omega arith
start-row π i j a step s Later = let h = fresh-size π s.promises in omega (arith, h)

pull-row : (π : Prices) (j : StreamId) (u : Use) (o : Owner) → prices_of π (pull_algorithm j u o) ≤ price π 2 1 1 1 1 0 0
pull-row π j u Host = omega arith
pull-row π j u (HalfOf t) = omega arith
pull-row π j u (BranchOf t half) = omega arith
pull-row π j u (EndOf c) = omega arith

cancel-row : (π : Prices) (j : StreamId) (r : Plain) (u : Use) (o : Owner) → prices_of π (cancel_algorithm j r u o) ≤ price π 3 2 2 1 1 0 0
cancel-row π j r u Host = omega arith
cancel-row π j r u (HalfOf t) = omega arith
cancel-row π j r u (BranchOf t half) = omega arith
cancel-row π j r u (EndOf c) = omega arith

write-row : (π : Prices) (j : StreamId) (o : Owner) → prices_of π (write_algorithm j o) ≤ price π 10 4 3 1 1 1 0
write-row π j Host = omega arith
write-row π j (HalfOf t) = omega arith
write-row π j (BranchOf t half) = omega arith
write-row π j (EndOf c) = omega arith

close-row : (π : Prices) (j : StreamId) (u : Use) (o : Owner) → prices_of π (close_algorithm j u o) ≤ price π 3 2 2 1 1 0 0
close-row π j u Host = omega arith
close-row π j u (HalfOf t) = omega arith
close-row π j u (BranchOf t half) = omega arith
close-row π j u (EndOf c) = omega arith

abort-row : (π : Prices) (j : StreamId) (r : Plain) (u : Use) (o : Owner) → prices_of π (abort_algorithm j r u o) ≤ price π 3 2 2 1 1 0 0
abort-row π j r u Host = omega arith
abort-row π j r u (HalfOf t) = omega arith
abort-row π j r u (BranchOf t half) = omega arith
abort-row π j r u (EndOf c) = omega arith

-- the steps of read requests

chunk-row : (π : Prices) (i : StreamId) (a : SignalId) (v : Value) (s : Slots) (request : ReadRequest) → Takes π i a (price π 2 0 1 0 0 0 0) s (chunk_steps v s request)
chunk-row π i a v s (Promise p) = let h = given-size π p v s.promises in omega (arith, h)
chunk-row π i a v s (PipeRequest p) = omega arith
chunk-row π i a v s (TeeRequest t) = omega arith

closing-row : (π : Prices) (i : StreamId) (a : SignalId) (s : Slots) (request : ReadRequest) → Takes π i a (price π 2 0 1 0 0 0 0) s (close_steps s request)
closing-row π i a s (Promise p) = let h = finished-size π p (PlainValue Undefined) s.promises in omega (arith, h)
closing-row π i a s (PipeRequest p) = omega arith
closing-row π i a s (TeeRequest t) = omega arith

closing_with-row : (π : Prices) (i : StreamId) (a : SignalId) (b : List ℕ) (s : Slots) (request : ReadRequest) → Takes π i a (price π 2 0 1 0 0 0 0) s (close_steps_with b s request)
closing_with-row π i a b s (Promise p) = let h = finished-size π p (Bytes b) s.promises in omega (arith, h)
closing_with-row π i a b s (PipeRequest p) = omega arith
closing_with-row π i a b s (TeeRequest t) = omega arith

erring-row : (π : Prices) (i : StreamId) (a : SignalId) (e : Plain) (s : Slots) (request : ReadRequest) → Takes π i a (price π 2 0 1 0 0 0 0) s (error_steps e s request)
erring-row π i a e s (Promise p) = let h = settle-size π p (Err e) s.promises in omega (arith, h)
erring-row π i a e s (PipeRequest p) = omega arith
erring-row π i a e s (TeeRequest t) = omega arith

times-more : (a : ℕ) (xs : List (Option PromiseId)) (p : Option PromiseId) → a * length (xs ++ p ∷ []) ≡ a * length xs + a
times-more a xs p = let h = ap (λ n. a * n) (length-append xs (p ∷ [])) in omega (arith, h)

call-row : (π : Prices) (i : StreamId) (a : SignalId) (call : HostCall) (u : Use) (s : Slots) → Takes π i a (price π 1 1 1 1 1 0 0) s (nothing (call_host call u s))
unfolding call_host
call-row π i a call u s =
    let p : PromiseId = next_id s.promises in
    let t : Table = tell (HostCalled (record { 0 = length s.hosts }) call) (fresh s.promises) in
    let e = fresh-size π s.promises in
    let b = tell-size π (HostCalled (record { 0 = length s.hosts }) call) (fresh s.promises) in
    let c = use-size π p t u in
    let d = times-more π.host s.hosts (Some p) in
    omega (arith, e, b, c, d)

pub row-takes : (π : Prices) (i : StreamId) (a : SignalId) (c : Counts π i) (e : Effect) (s : Slots) → Takes π i a (effect_price π e) s (row e s)
unfolding row
row-takes π i a c (Readable j operation) s = readable-row π i j a c operation s (slice_get s.streams j.0) refl
row-takes π i a c (Byte j operation) s = byte-row π i j a c operation s (slice_get s.streams j.0) refl
row-takes π i a c (Writable j operation) s = writable-row π i j a c operation s (slice_get s.streams j.0) refl
row-takes π i a c (Pipe p operation) s = pipe-row π i a p operation s (slice_get s.pipes p.0) refl
row-takes π i a c (Signal b operation) s = signal-row π i a b operation s (slice_get s.signals b.0) refl
row-takes π i a c (Transform t operation) s = transform-row π i a t operation s (slice_get s.transforms t.0) refl
row-takes π i a c (Tee t operation) s = tee-row π i a c t operation s (slice_get s.tees t.0) refl
row-takes π i a c (Port p operation) s = port-row π i a p operation s (slice_get s.ports p.0) refl
row-takes π i a c (StartAlgorithm j step start) s = start-row π i j a step s start
row-takes π i a c (PullAlgorithm j) s = let h = pull-row π j (React (ReadablePull j) None) (owner_at j s) in omega (arith, h)
row-takes π i a c (CancelAlgorithm j r p) s = let h = cancel-row π j r (React ReturnUndefined (Some p)) (owner_at j s) in omega (arith, h)
row-takes π i a c (WriteAlgorithm j) s = let h = write-row π j (owner_at j s) in omega (arith, h)
row-takes π i a c (CloseAlgorithm j) s = let h = close-row π j (React (WritableClose j) None) (owner_at j s) in omega (arith, h)
row-takes π i a c (AbortAlgorithm j r p) s = let h = abort-row π j r (React (WritableAbort j p) None) (owner_at j s) in omega (arith, h)
row-takes π i a c (ChunkSteps j request v) s = let h = chunk-row π i a v s request in omega (arith, h)
row-takes π i a c (CloseSteps j request) s = let h = closing-row π i a s request in omega (arith, h)
row-takes π i a c (CloseStepsWith j request b) s = let h = closing_with-row π i a b s request in omega (arith, h)
row-takes π i a c (ErrorSteps j request e) s = let h = erring-row π i a e s request in omega (arith, h)
row-takes π i a c (Give gift u) s = let h = gift-size π s.promises u gift in omega (arith, h)
row-takes π i a c (Settle p outcome) s = let h = settle-size π p outcome s.promises in omega (arith, h)
row-takes π i a c (Queue m) s = let h = micro-size π m s.promises in omega (arith, h)
row-takes π i a c (CallHost call u) s = call-row π i a call u s

-- what is taken, with what may still be taken, falls by the price of a turn
pub falls : (π : Prices) (i : StreamId) (a : SignalId) (c : Counts π i) (e : Effect) (es : List Effect) (s : Slots)
    → size π i a (row e s).slots + need π (row e s).slots ((row e s).caused ++ es) + π.turn ≤ size π i a s + need π s (e ∷ es)
falls π i a c e es s =
    let h = row-takes π i a c e s in
    let p = prices-append π (row e s).caused es in
    omega (arith, h, p)

-- turns alone take no places

turns-count : (i : StreamId) → Counts turns_alone i
turns-count i = record { here = refl; others = λ j. omega arith }

entries-turns : (o : Option Stream) → entries_of turns_alone o ≡ 0
entries-turns None = refl
entries-turns (Some x) = entries-some turns_alone x ∙ entries-none x

members-turns : (o : Option pipe.Signal) → members_of turns_alone o ≡ 0
members-turns None = refl
members-turns (Some x) = each-none x.pipes

size-turns : (i : StreamId) (a : SignalId) (s : Slots) → size turns_alone i a s ≡ 0
unfolding table_size
size-turns i a s = let h = entries-turns (slice_get s.streams i.0) in let g = members-turns (slice_get s.signals a.0) in omega (arith, h, g)

pub measure-fall : (e : Effect) (es : List Effect) (s : Slots) → measure (row e s).slots ((row e s).caused ++ es) < measure s (e ∷ es)
measure-fall e es s =
    let first : StreamId = record { 0 = 0 } in
    let signal : SignalId = record { 0 = 0 } in
    let h = falls turns_alone first signal (turns-count first) e es s in
    let a = size-turns first signal s in
    let b = size-turns first signal (row e s).slots in
    omega (arith, h, a, b)
