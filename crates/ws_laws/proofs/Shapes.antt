-- What no effect changes: which streams there are, of which kind each is and whose algorithms it performs, and the kind and the two halves of
-- each transform stream, and the source and the two branches of each tee. So each half of a transform stream is its own, and each branch of a tee.
use Rattle.std.proofs.Common.{◌≡◌, ℕ, zero, suc, List, [], ◌∷◌, map, Option, Some, None, Ok, Err, slice_get, slice_set, refl, sym, ap, ◌∙◌, arith}
use Rattle.ws_value.specs.declared.ids.PipeId.{PipeId}
use Rattle.ws_value.specs.declared.ids.PortId.{PortId}
use Rattle.ws_value.specs.declared.ids.PromiseId.{PromiseId}
use Rattle.ws_value.specs.declared.ids.SignalId.{SignalId}
use Rattle.ws_value.specs.declared.ids.StreamId.{StreamId}
use Rattle.ws_value.specs.declared.ids.TeeId.{TeeId}
use Rattle.ws_value.specs.declared.value.Plain.{Plain}
use Rattle.ws_value.specs.declared.value.Value.{Value}
use Rattle.ws_steps.specs.declared.byte.ByteOperation.{ByteOperation}
use Rattle.ws_steps.specs.declared.effects.Effect.{Effect}
use Rattle.ws_steps.specs.declared.effects.Effect.TheVariants.{Readable as OnReadable, Byte, Writable as OnWritable, Pipe, Signal, Transform, Tee, Port, StartAlgorithm, ChunkSteps, CloseSteps, CloseStepsWith, ErrorSteps}
use Rattle.ws_steps.specs.declared.calls.StartBy.TheVariants.{Now, Later}
use Rattle.ws_steps.specs.declared.effects.Owner.{Owner}
use Rattle.ws_steps.specs.declared.effects.Owner.TheVariants.{Host}
use Rattle.ws_steps.specs.declared.pipes.PipeOperation.{PipeOperation}
use Rattle.ws_steps.specs.declared.pipes.SignalOperation.{SignalOperation}
use Rattle.ws_steps.specs.declared.readable.ReadRequest.TheVariants.{Promise, Pipe as PipeRequest, Tee as TeeRequest}
use Rattle.ws_steps.specs.declared.readable.ReadableOperation.{ReadableOperation}
use Rattle.ws_steps.specs.declared.tee.Half.{Half}
use Rattle.ws_steps.specs.declared.tee.Half.TheVariants.{First, Second}
use Rattle.ws_steps.specs.declared.tee.TeeOperation.{TeeOperation}
use Rattle.ws_steps.specs.declared.transform.Kind.{Kind}
use Rattle.ws_steps.specs.declared.transform.TransformId.{TransformId}
use Rattle.ws_steps.specs.declared.transform.TransformOperation.{TransformOperation}
use Rattle.ws_steps.specs.declared.writable.WritableOperation.{WritableOperation}
use Rattle.ws_steps.specs.declared.writable.WritableOperation.TheVariants as writes
use Rattle.ws_steps.specs.Operations.{readable_operation, byte_readable_operation, byte_operation, writable_operation, pipe_operation, signal_operation, transform_operation, tee_operation, port_operation}
use Rattle.ws_steps.specs.Bytes as byte
use Rattle.ws_steps.specs.Pipes as pipe
use Rattle.ws_steps.specs.Readable as readable
use Rattle.ws_steps.specs.Tee as tee
use Rattle.ws_steps.specs.Cross as cross
use Rattle.ws_steps.specs.declared.port.PortOperation.{PortOperation}
use Rattle.ws_steps.specs.Transform as transform
use Rattle.ws_steps.specs.Writable as writable
use Rattle.ws_steps.specs.Slots.{Slots, Stream, ReadableStream, ByteStream, WritableStream, Done, on_readable, on_byte, has_byte, byte_at, put_byte, found, halves_at, on_pipe_at, on_signal_at, on_transform_at, on_tee_at, on_port_at, has_readable, has_writable, readable_at, writable_at, nothing, owner_of, owner_at, put_readable, put_writable}
use Rattle.ws_steps.specs.Turns.{row, call_host}
use Rattle.ws_laws.proofs.Tables.{either, readable_acts, byte_acts, writable_acts, readable_there, byte_there, writable_there}
use Rattle.ws_laws.proofs.Apart.{row-streams, row-tees, byte-leaves, source-leaves}
use Rattle.ws_laws.proofs.TransformDoes.{transform-causes}
use Rattle.ws_laws.proofs.TeeDoes.{tee-causes}

-- of which kind a stream is, and whose algorithms it performs
pub data StreamShape : Type 0 where
  ReadableOf : Owner → StreamShape
  BytesOf : StreamShape
  WritableOf : Owner → StreamShape

abbrev pub stream_shape : Stream → StreamShape
stream_shape (ReadableStream r) = ReadableOf r.owner
stream_shape (ByteStream b) = BytesOf
stream_shape (WritableStream w) = WritableOf w.owner

pub record TransformShape : Type 0 where
  pub kind : Kind
  pub writable : StreamId
  pub readable : StreamId

abbrev pub transform_shape : transform.Slots → TransformShape
transform_shape x = record { kind = x.kind; writable = x.writable; readable = x.readable }

pub record TeeShape : Type 0 where
  pub source : StreamId
  pub branch1 : StreamId
  pub branch2 : StreamId

abbrev pub tee_shape : tee.Slots → TeeShape
tee_shape x = record { source = x.source; branch1 = x.branch1; branch2 = x.branch2 }

abbrev pub branch_of : Half → TeeShape → StreamId
branch_of First x = x.branch1
branch_of Second x = x.branch2

abbrev pub stream_shapes : Slots → List StreamShape
stream_shapes s = map stream_shape s.streams

abbrev pub transform_shapes : Slots → List TransformShape
transform_shapes s = map transform_shape s.transforms

abbrev pub tee_shapes : Slots → List TeeShape
tee_shapes s = map tee_shape s.tees

-- a place of a list that is put with the same shape
map-set_same : {X Y : Type 0} (f : X → Y) (xs : List X) (i : ℕ) (x y : X) → slice_get xs i ≡ Some x → f y ≡ f x → map f (slice_set xs i y) ≡ map f xs
map-set_same f [] i x y is same = refl
map-set_same f (z ∷ zs) zero x y is same = let h : z ≡ x = cc in ap (λ w. w ∷ map f zs) (same ∙ sym (ap f h))
map-set_same f (z ∷ zs) (suc i) x y is same = ap (λ ws. f z ∷ ws) (map-set_same f zs i x y is same)

-- an operation keeps whose algorithms a stream performs

readable-owner : (i : StreamId) (operation : ReadableOperation) (a : readable.Acts) → (readable_operation i operation a).slots.owner ≡ a.slots.owner
unfolding readable.call_pull_if_needed readable.accept readable.controller_enqueue readable.stream_close readable.stream_error readable.close_if_empty readable.controller_close readable.controller_error readable.after_take readable.pull_steps readable.default_reader_read readable.disturb readable.reader_generic_initialize readable.start_settled readable.pull_settled readable.cancel_steps readable.stream_cancel readable.cancel_if_readable readable.reader_release
readable-owner i operation a = grind arith

module _ (i : StreamId) where
  abbrev Keeps : writable.Acts → writable.Acts → Type 0
  Keeps a b = b.slots.owner ≡ a.slots.owner

  finish-owner : (a : writable.Acts) → Keeps a (writable.finish_erroring i a)
  unfolding writable.finish_erroring writable.reject_close_and_closed
  finish-owner a = grind arith

  erring-owner : (e : Plain) (a : writable.Acts) → Keeps a (writable.start_erroring i e a)
  unfolding writable.start_erroring
  erring-owner e a = grind (arith, finish-owner)

  rejection-owner : (e : Plain) (a : writable.Acts) → Keeps a (writable.deal_with_rejection i e a)
  unfolding writable.deal_with_rejection
  rejection-owner e a = grind (arith, finish-owner, erring-owner)

  advance-owner : (a : writable.Acts) → Keeps a (writable.advance_queue i a)
  unfolding writable.advance_queue writable.process_write writable.process_close
  advance-owner a = grind (arith, finish-owner)

  refresh-owner : (a : writable.Acts) → Keeps a (writable.refresh_backpressure a)
  unfolding writable.refresh_backpressure writable.update_backpressure
  refresh-owner a = grind arith

  written-owner : (v : Value) (p : PromiseId) (a : writable.Acts) (refusal : Option Plain) → Keeps a (writable.write_by i v p a refusal)
  unfolding writable.controller_write
  written-owner v p a refusal = grind (arith, advance-owner, refresh-owner)

  closing-owner : (p : PromiseId) (a : writable.Acts) → Keeps a (writable.stream_close i p a)
  unfolding writable.stream_close writable.controller_close
  closing-owner p a = grind (arith, advance-owner)

  aborting-owner : (r : Plain) (p : PromiseId) (a : writable.Acts) → Keeps a (writable.begin_abort i r p a)
  aborting-owner r p a = grind (arith, erring-owner)

  stream_abort-owner : (r : Plain) (p : PromiseId) (a : writable.Acts) → Keeps a (writable.stream_abort i r p a)
  unfolding writable.stream_abort
  stream_abort-owner r p a = grind (arith, aborting-owner)

  writable-owner : (operation : WritableOperation) (a : writable.Acts) → Keeps a (writable_operation i operation a)
  unfolding writable.writer_release writable.writer_write writable.close_with_error_propagation writable.abort_if_writable writable.controller_error_if_needed writable.hand_on writable.start_settled writable.write_settled writable.close_settled writable.finish_in_flight_close writable.finish_in_flight_close_with_error writable.abort_settled writable.reject_close_and_closed writable.set_up_writer
  writable-owner (writes.SetUpWriter w) a = refl
  writable-owner writes.ReleaseWriter a = grind arith
  writable-owner (writes.Write v p) a = written-owner v p a (writable.write_refusal a.slots)
  writable-owner (writes.Close p) a = closing-owner p a
  writable-owner (writes.ClosePropagating p) a = grind (arith, closing-owner)
  writable-owner (writes.Abort r p) a = stream_abort-owner r p a
  writable-owner (writes.AbortIfWritable r p) a = grind (arith, stream_abort-owner)
  writable-owner (writes.ErrorIfNeeded e) a = grind (arith, erring-owner)
  writable-owner (writes.HandOn taker) a = grind arith
  writable-owner (writes.StartSettled (Ok v)) a = grind (arith, advance-owner)
  writable-owner (writes.StartSettled (Err e)) a = grind (arith, rejection-owner)
  writable-owner (writes.WriteSettled (Ok v)) a = grind (arith, advance-owner, refresh-owner)
  writable-owner (writes.WriteSettled (Err e)) a = grind (arith, rejection-owner)
  writable-owner (writes.CloseSettled (Ok v)) a = grind arith
  writable-owner (writes.CloseSettled (Err e)) a = grind (arith, rejection-owner)
  writable-owner (writes.AbortSettled p (Ok v)) a = grind arith
  writable-owner (writes.AbortSettled p (Err e)) a = grind arith

-- each effect leaves the shapes

on_byte-shape : (i : StreamId) (operation : byte.Acts → byte.Acts) (s : Slots) → stream_shapes (on_byte operation i s).slots ≡ stream_shapes s
on_byte-shape i operation s =
    either (λ (d : Done). stream_shapes d.slots ≡ stream_shapes s) (has_byte i s) (put_byte i s (operation (byte_acts i s))) (nothing s)
    (λ there. map-set_same stream_shape s.streams i.0 (ByteStream (byte_at i s)) (ByteStream (operation (byte_acts i s)).slots) (byte_there (slice_get s.streams i.0) there) refl)
    (λ absent. refl)

on_readable-shape : (i : StreamId) (operation : ReadableOperation) (s : Slots) → stream_shapes (on_readable (readable_operation i operation) i s).slots ≡ stream_shapes s
on_readable-shape i operation s =
    either (λ (d : Done). stream_shapes d.slots ≡ stream_shapes s) (has_readable i s) (put_readable i s (readable_operation i operation (readable_acts i s))) (nothing s)
    (λ there. map-set_same stream_shape s.streams i.0 (ReadableStream (readable_at i s)) (ReadableStream (readable_operation i operation (readable_acts i s)).slots)
    (readable_there (slice_get s.streams i.0) there) (ap ReadableOf (readable-owner i operation (readable_acts i s))))
    (λ absent. refl)

readable-shape : (i : StreamId) (operation : ReadableOperation) (s : Slots) → stream_shapes (row (OnReadable i operation) s).slots ≡ stream_shapes s
unfolding row
readable-shape i operation s =
    either (λ (d : Done). stream_shapes d.slots ≡ stream_shapes s) (has_byte i s) (on_byte (byte_readable_operation i operation) i s) (on_readable (readable_operation i operation) i s)
    (λ is. on_byte-shape i (byte_readable_operation i operation) s) (λ isnt. on_readable-shape i operation s)

byte-shape : (i : StreamId) (operation : ByteOperation) (s : Slots) → stream_shapes (row (Byte i operation) s).slots ≡ stream_shapes s
unfolding row
byte-shape i operation s = on_byte-shape i (byte_operation i operation) s

writable-shape : (i : StreamId) (operation : WritableOperation) (s : Slots) → stream_shapes (row (OnWritable i operation) s).slots ≡ stream_shapes s
unfolding row
writable-shape i operation s =
    either (λ (d : Done). stream_shapes d.slots ≡ stream_shapes s) (has_writable i s) (put_writable i s (writable_operation i operation (writable_acts i s))) (nothing s)
    (λ there. map-set_same stream_shape s.streams i.0 (WritableStream (writable_at i s)) (WritableStream (writable_operation i operation (writable_acts i s)).slots)
    (writable_there (slice_get s.streams i.0) there) (ap WritableOf (writable-owner i operation (writable_acts i s))))
    (λ absent. refl)

pub row-stream_shapes : (e : Effect) (s : Slots) → stream_shapes (row e s).slots ≡ stream_shapes s
row-stream_shapes (OnReadable i operation) s = readable-shape i operation s
row-stream_shapes (Byte i operation) s = byte-shape i operation s
row-stream_shapes (OnWritable i operation) s = writable-shape i operation s
row-stream_shapes e s = ap (map stream_shape) (row-streams e s tt)

transform-shape : (t : TransformId) (operation : TransformOperation) (s : Slots) (o : Option transform.Slots) → slice_get s.transforms t.0 ≡ o
    → transform_shapes (on_transform_at (λ halves. transform_operation t halves operation) t s o).slots ≡ transform_shapes s
transform-shape t operation s None is = refl
transform-shape t operation s (Some x) is =
    let a : transform.Acts = record { slots = x; out = found s } in
    let b : transform.Acts = transform_operation t (halves_at x s) operation a in
    let c = transform-causes t (halves_at x s) operation a tt in
    map-set_same transform_shape s.transforms t.0 x b.slots is (λ i. record { kind = c.0 i; writable = c.1.0 i; readable = c.1.1.0 i })

-- other effects than operations of transform streams leave the transform streams

pipe-transforms : (p : PipeId) (operation : PipeOperation) (s : Slots) (o : Option pipe.Slots) → (on_pipe_at (λ ends. pipe_operation p ends operation) p s o).slots.transforms ≡ s.transforms
pipe-transforms p operation s None = refl
pipe-transforms p operation s (Some x) = refl

signal-transforms : (a : SignalId) (operation : SignalOperation) (s : Slots) (o : Option pipe.Signal) → (on_signal_at (signal_operation operation) a s o).slots.transforms ≡ s.transforms
signal-transforms a operation s None = refl
signal-transforms a operation s (Some x) = refl

tee-transforms : (t : TeeId) (operation : TeeOperation) (s : Slots) (o : Option tee.Slots) → (on_tee_at (tee_operation t operation) t s o).slots.transforms ≡ s.transforms
tee-transforms t operation s None = refl
tee-transforms t operation s (Some x) = refl

port-transforms : (c : PortId) (operation : PortOperation) (s : Slots) (o : Option cross.Slots) → (on_port_at (λ clones. port_operation c clones operation) c s o).slots.transforms ≡ s.transforms
port-transforms c operation s None = refl
port-transforms c operation s (Some x) = refl

pub row-transform_shapes : (e : Effect) (s : Slots) → transform_shapes (row e s).slots ≡ transform_shapes s
unfolding row call_host
row-transform_shapes (OnReadable i operation) s = source-leaves (λ z. transform_shapes z) (λ z x o. refl) i operation s
row-transform_shapes (Byte i operation) s = byte-leaves (λ z. transform_shapes z) (λ z x o. refl) i operation s
row-transform_shapes (OnWritable i operation) s =
    either (λ (d : Done). transform_shapes d.slots ≡ transform_shapes s) (has_writable i s) (put_writable i s (writable_operation i operation (writable_acts i s))) (nothing s) (λ e. refl) (λ e. refl)
row-transform_shapes (Pipe p operation) s = ap (map transform_shape) (pipe-transforms p operation s (slice_get s.pipes p.0))
row-transform_shapes (Signal a operation) s = ap (map transform_shape) (signal-transforms a operation s (slice_get s.signals a.0))
row-transform_shapes (Transform t operation) s = transform-shape t operation s (slice_get s.transforms t.0) refl
row-transform_shapes (Tee t operation) s = ap (map transform_shape) (tee-transforms t operation s (slice_get s.tees t.0))
row-transform_shapes (Port c operation) s = ap (map transform_shape) (port-transforms c operation s (slice_get s.ports c.0))
row-transform_shapes (StartAlgorithm i step Now) s = refl
row-transform_shapes (StartAlgorithm i step Later) s = refl
row-transform_shapes (ChunkSteps i (Promise p) v) s = refl
row-transform_shapes (CloseSteps i (Promise p)) s = refl
row-transform_shapes (ErrorSteps i (Promise p) e) s = refl
row-transform_shapes (ChunkSteps i (PipeRequest p) v) s = refl
row-transform_shapes (ChunkSteps i (TeeRequest t) v) s = refl
row-transform_shapes (CloseSteps i (PipeRequest p)) s = refl
row-transform_shapes (CloseSteps i (TeeRequest t)) s = refl
row-transform_shapes (CloseStepsWith i (Promise p) b) s = refl
row-transform_shapes (CloseStepsWith i (PipeRequest p) b) s = refl
row-transform_shapes (CloseStepsWith i (TeeRequest t) b) s = refl
row-transform_shapes (ErrorSteps i (PipeRequest p) e) s = refl
row-transform_shapes (ErrorSteps i (TeeRequest t) e) s = refl
row-transform_shapes _ s = refl

-- each effect leaves the streams of the tees

tee-shape : (t : TeeId) (operation : TeeOperation) (s : Slots) (o : Option tee.Slots) → slice_get s.tees t.0 ≡ o
    → tee_shapes (on_tee_at (tee_operation t operation) t s o).slots ≡ tee_shapes s
tee-shape t operation s None is = refl
tee-shape t operation s (Some x) is =
    let a : tee.Acts = record { slots = x; out = found s } in
    let b : tee.Acts = tee_operation t operation a in
    let k = (tee-causes t operation a).same in
    map-set_same tee_shape s.tees t.0 x b.slots is (λ i. record { source = k.source i; branch1 = k.first i; branch2 = k.second i })

pub row-tee_shapes : (e : Effect) (s : Slots) → tee_shapes (row e s).slots ≡ tee_shapes s
unfolding row
row-tee_shapes (Tee t operation) s = tee-shape t operation s (slice_get s.tees t.0) refl
row-tee_shapes e s = ap (map tee_shape) (row-tees e s tt)

-- an element of a list, by a map of it
pub map-there : {X Y : Type 0} (f : X → Y) (xs : List X) (n : ℕ) (x : X) → slice_get xs n ≡ Some x → slice_get (map f xs) n ≡ Some (f x)
map-there f [] n x is = cc
map-there f (y ∷ ys) zero x is = let h : y ≡ x = cc in ap (λ z. Some (f z)) h
map-there f (y ∷ ys) (suc n) x is = map-there f ys n x is

-- whose algorithms a stream performs is told by its shape

abbrev shape_owner : Option StreamShape → Owner
shape_owner None = Host
shape_owner (Some (ReadableOf o)) = o
shape_owner (Some BytesOf) = Host
shape_owner (Some (WritableOf o)) = o

pub owner-told : (xs : List Stream) (n : ℕ) → owner_of (slice_get xs n) ≡ shape_owner (slice_get (map stream_shape xs) n)
owner-told [] n = refl
owner-told (ReadableStream r ∷ xs) zero = refl
owner-told (ByteStream b ∷ xs) zero = refl
owner-told (WritableStream w ∷ xs) zero = refl
owner-told (x ∷ xs) (suc n) = owner-told xs n

pub row-owner : (i : StreamId) (e : Effect) (s : Slots) → owner_at i (row e s).slots ≡ owner_at i s
row-owner i e s =
    owner-told (row e s).slots.streams i.0 ∙ (ap (λ (ys : List StreamShape). shape_owner (slice_get ys i.0)) (row-stream_shapes e s) ∙ sym (owner-told s.streams i.0))
