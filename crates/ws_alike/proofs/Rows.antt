-- The row of an effect doesn't look at a promise that isn't named, and names it nowhere.
use Rattle.std.proofs.Common.{◌≡◌, ◌∙◌, ℕ, ◌+◌, ◌<◌, ◌≤◌, Bool, true, false, if◌then◌else◌, List, [], ◌∷◌, ◌++◌, length, Option, Some, None, Ok, Err, refl, ap, arith}
use Rattle.std.specs.Prelude.{slice_get}
use Rattle.ws_value.specs.declared.ids.PipeId.{PipeId}
use Rattle.ws_value.specs.declared.ids.PortId.{PortId}
use Rattle.ws_value.specs.declared.ids.PromiseId.{PromiseId}
use Rattle.ws_value.specs.declared.ids.SignalId.{SignalId}
use Rattle.ws_value.specs.declared.ids.StreamId.{StreamId}
use Rattle.ws_value.specs.declared.ids.TeeId.{TeeId}
use Rattle.ws_value.specs.declared.value.Outcome.TheVariants.{Given, Finished}
use Rattle.ws_value.specs.declared.value.Plain.{Plain}
use Rattle.ws_value.specs.declared.value.Plain.TheVariants.{Undefined}
use Rattle.ws_value.specs.declared.value.Value.{Value}
use Rattle.ws_value.specs.declared.value.Value.TheVariants.{Plain as PlainValue, Bytes}
use Rattle.ws_steps.specs.declared.calls.Event.{Event}
use Rattle.ws_steps.specs.declared.calls.Event.TheVariants.{Host as HostCalled}
use Rattle.ws_steps.specs.declared.calls.HostCall.{HostCall}
use Rattle.ws_steps.specs.declared.calls.StartBy.{StartBy}
use Rattle.ws_steps.specs.declared.calls.StartBy.TheVariants.{Now, Later}
use Rattle.ws_steps.specs.declared.effects.Effect.{Effect}
use Rattle.ws_steps.specs.declared.effects.Effect.TheVariants.{Readable, Byte, Writable, Pipe, Signal, Transform, Tee, Port, StartAlgorithm, PullAlgorithm, CancelAlgorithm, WriteAlgorithm, CloseAlgorithm, AbortAlgorithm, ChunkSteps, CloseSteps, CloseStepsWith, ErrorSteps, Give, Settle, Queue, CallHost}
use Rattle.ws_steps.specs.declared.effects.Gift.TheVariants.{Fresh}
use Rattle.ws_steps.specs.declared.effects.Owner.{Owner}
use Rattle.ws_steps.specs.declared.effects.Owner.TheVariants.{Host, HalfOf, BranchOf, EndOf}
use Rattle.ws_steps.specs.declared.effects.Use.{Use}
use Rattle.ws_steps.specs.declared.effects.Use.TheVariants.{React}
use Rattle.ws_steps.specs.declared.pipes.PipeOperation.{PipeOperation}
use Rattle.ws_steps.specs.declared.pipes.PipeOperation.TheVariants.{KeepChunk, ReadEnded}
use Rattle.ws_steps.specs.declared.pipes.SignalOperation.{SignalOperation}
use Rattle.ws_steps.specs.declared.pipes.SignalOperation.TheVariants.{Add, Forget, Trigger}
use Rattle.ws_steps.specs.declared.port.PortOperation.{PortOperation}
use Rattle.ws_steps.specs.declared.promises.Step.{Step}
use Rattle.ws_steps.specs.declared.promises.Step.TheVariants.{ReadablePull, ReturnUndefined, WritableClose, WritableAbort}
use Rattle.ws_steps.specs.declared.readable.ReadRequest.{ReadRequest}
use Rattle.ws_steps.specs.declared.readable.ReadRequest.TheVariants.{Promise, Pipe as PipeRequest, Tee as TeeRequest}
use Rattle.ws_steps.specs.declared.readable.ReadableOperation.{ReadableOperation}
use Rattle.ws_steps.specs.declared.tee.TeeOperation.{TeeOperation}
use Rattle.ws_steps.specs.declared.tee.TeeOperation.TheVariants.{KeepChunk as KeepByTee, SourceClosed, SourceErrored}
use Rattle.ws_steps.specs.declared.transform.TransformId.{TransformId}
use Rattle.ws_steps.specs.declared.transform.TransformOperation.{TransformOperation}
use Rattle.ws_steps.specs.declared.writable.WritableOperation.{WritableOperation}
use Rattle.ws_steps.specs.declared.writable.PendingAbort.{PendingAbort}
use Rattle.ws_steps.specs.declared.writable.Writer.{Writer}
use Rattle.ws_steps.specs.Bytes as byte
use Rattle.ws_steps.specs.Cross as cross
use Rattle.ws_steps.specs.Operations.{readable_operation, byte_readable_operation, byte_operation, writable_operation, pipe_operation, signal_operation, transform_operation, tee_operation, port_operation}
use Rattle.ws_steps.specs.Pipes as pipe
use Rattle.ws_steps.specs.Promises.{Table, next_id, fresh, settle, answer, tell, use_gift, queue_micro}
use Rattle.ws_steps.specs.Readable as readable
use Rattle.ws_steps.specs.Slots.{Slots, Stream, ReadableStream, ByteStream, WritableStream, Done, nothing, causes, with_promises, found, owner_at, has_byte, has_readable, has_writable, is_readable_stream, is_byte_stream, as_readable, as_byte, as_writable, readable_at, byte_at, writable_at, put_readable, put_byte, put_writable, put_pipe, put_transform, put_tee, put_port, on_readable, on_byte, on_writable, on_pipe_at, on_signal_at, on_transform_at, on_tee_at, on_port_at, ends_at, halves_at, clones_at, ready_of}
use Rattle.ws_steps.specs.Tee as tee
use Rattle.ws_steps.specs.Transform as transform
use Rattle.ws_steps.specs.Turns.{row, chunk_steps, close_steps, close_steps_with, error_steps, call_host, on_source, start_algorithm, pull_algorithm, cancel_algorithm, write_algorithm, close_algorithm, abort_algorithm}
use Rattle.ws_steps.specs.Writable as writable
use Rattle.ws_steps.specs.Writable.{answered_abort, promise_of, has_ended}
use Rattle.ws_alike.specs.Named.{in_option, in_use, in_step, in_request, in_stream, in_readable, in_writable, in_writer, in_pending_abort, in_transform, in_tee, in_port, in_pipe, in_readable_operation, in_writable_operation, in_transform_operation, in_tee_operation, in_port_operation, in_effect, in_effects, in_slots, in_table}
use Rattle.ws_alike.specs.Blind.{LeavesAlone, StaysBlind, EachRowIsBlind, bytes, in_ends, view_of}
use Rattle.ws_alike.proofs.Bytes.{bytes-blind}
use Rattle.ws_alike.proofs.Lists.{maybe, all-get, all-set, all-append}
use Rattle.ws_alike.proofs.Pipes.{pipes-blind}
use Rattle.ws_alike.proofs.Ports.{ports-blind}
use Rattle.ws_alike.proofs.Promising as table
use Rattle.ws_alike.proofs.Readables.{readables-blind}
use Rattle.ws_alike.proofs.Steps.{next-apart}
use Rattle.ws_alike.proofs.Tables.{next-blind, fresh-blind}
use Rattle.ws_alike.proofs.Tees.{tees-blind}
use Rattle.ws_alike.proofs.Transforms.{transforms-blind}
use Rattle.ws_alike.proofs.Using.{answers, gives, queues, uses}
use Rattle.ws_alike.proofs.Writables.{writables-blind}

-- p has a number that was given, and the slots don't name it
pub record Fit (p : PromiseId) (s : Slots) : Type 0 where
  pub made : p.0 < length s.promises.entries
  pub none : in_slots p s ≡ 0

abbrev Stays : PromiseId → (Slots → Done) → Slots → Type 0
Stays p f s = StaysBlind p f s

pub causes-stays : (p : PromiseId) (es : List Effect) (s : Slots) → in_effects p es ≡ 0 → Fit p s → Stays p (λ z. causes es z) s
causes-stays p es s n fits = record { blind = λ x. refl; unnamed = omega (arith, n, fits.none); more = omega arith }

pub nothing-stays : (p : PromiseId) (s : Slots) → Fit p s → Stays p nothing s
nothing-stays p s fits = record { blind = λ x. refl; unnamed = omega (arith, fits.none); more = omega arith }

-- only the promises change
pub only : (p : PromiseId) (f : Table → Table) (s : Slots) → (table.Fit p s.promises → table.Alone p f s.promises) → Fit p s → Stays p (λ z. nothing (with_promises (f z.promises) z)) s
only p f s k fits =
    let m = k (record { made = fits.made; none = omega (arith, fits.none) }) in
    record { blind = λ x. ap (λ t. nothing (with_promises t s)) (m.blind x); unnamed = omega (arith, m.unnamed, fits.none); more = m.more }

by-test : (p : PromiseId) (f g : Slots → Done) (c : Bool) (s : Slots) → (true ≡ c → Stays p f s) → (false ≡ c → Stays p g s) → Stays p (λ z. if c then f z else g z) s
by-test p f g true s k m = k refl
by-test p f g false s k m = m refl

-- a stream

readable-here : (p : PromiseId) (o : Option Stream) → true ≡ is_readable_stream o → maybe (in_stream p) o ≡ 0 → in_readable p (as_readable o) ≡ 0
readable-here p None t h = cc
readable-here p (Some (ReadableStream r)) t h = h
readable-here p (Some (ByteStream r)) t h = cc
readable-here p (Some (WritableStream r)) t h = cc

byte-here : (p : PromiseId) (o : Option Stream) → true ≡ is_byte_stream o → maybe (in_stream p) o ≡ 0 → in_readable p (as_byte o).stream ≡ 0
byte-here p None t h = cc
byte-here p (Some (ReadableStream r)) t h = cc
byte-here p (Some (ByteStream r)) t h = h
byte-here p (Some (WritableStream r)) t h = cc

writable-here : (p : PromiseId) (o : Option Stream) → maybe (in_stream p) o ≡ 0 → in_writable p (as_writable o) ≡ 0
writable-here p None h = refl
writable-here p (Some (ReadableStream r)) h = refl
writable-here p (Some (ByteStream r)) h = refl
writable-here p (Some (WritableStream r)) h = h

pub stream-names : (p : PromiseId) (i : StreamId) (s : Slots) → Fit p s → maybe (in_stream p) (slice_get s.streams i.0) ≡ 0
stream-names p i s fits = all-get (in_stream p) s.streams i.0 (omega (arith, fits.none))

pub writable-names : (p : PromiseId) (i : StreamId) (s : Slots) → Fit p s → in_writable p (writable_at i s) ≡ 0
writable-names p i s fits = writable-here p (slice_get s.streams i.0) (stream-names p i s fits)

readable-stays : (p : PromiseId) (i : StreamId) (operation : ReadableOperation) (s : Slots) → in_readable_operation p operation ≡ 0 → Fit p s → Stays p (on_readable (readable_operation i operation) i) s
readable-stays p i operation s n fits =
    let k = by-test p (λ z. put_readable i z (readable_operation i operation (record { slots = readable_at i z; out = found z }))) nothing (has_readable i s) s there (λ e. nothing-stays p s fits) in
    record { blind = k.blind; unnamed = k.unnamed; more = k.more }
  where
    there : true ≡ has_readable i s → Stays p (λ z. put_readable i z (readable_operation i operation (record { slots = readable_at i z; out = found z }))) s
    there e =
        let here = readable-here p (slice_get s.streams i.0) e (stream-names p i s fits) in
        let a : readable.Acts = record { slots = readable_at i s; out = found s } in
        let k = readables-blind i operation p a fits.made (omega (arith, here, n, fits.none)) in
        let b : readable.Acts = readable_operation i operation a in
        let set = all-set (in_stream p) s.streams i.0 (ReadableStream b.slots) (omega (arith, k.unnamed)) (omega (arith, fits.none)) in
        record { blind = λ x. ap (λ c. put_readable i s c) (k.blind x); unnamed = omega (arith, k.unnamed, set, fits.none); more = k.more }

byte-stays : (p : PromiseId) (i : StreamId) (f : byte.Acts → byte.Acts) (s : Slots)
    → ((a : byte.Acts) → p.0 < length a.out.promises.entries → in_readable p a.slots.stream + (in_effects p a.out.effects + in_table p a.out.promises) ≡ 0 → LeavesAlone byte.Acts (view_of bytes) p f a) → Fit p s → Stays p (on_byte f i) s
byte-stays p i f s alone fits =
    let k = by-test p (λ z. put_byte i z (f (record { slots = byte_at i z; out = found z }))) nothing (has_byte i s) s there (λ e. nothing-stays p s fits) in
    record { blind = k.blind; unnamed = k.unnamed; more = k.more }
  where
    there : true ≡ has_byte i s → Stays p (λ z. put_byte i z (f (record { slots = byte_at i z; out = found z }))) s
    there e =
        let here = byte-here p (slice_get s.streams i.0) e (stream-names p i s fits) in
        let a : byte.Acts = record { slots = byte_at i s; out = found s } in
        let k = alone a fits.made (omega (arith, here, fits.none)) in
        let set = all-set (in_stream p) s.streams i.0 (ByteStream (f a).slots) (omega (arith, k.unnamed)) (omega (arith, fits.none)) in
        record { blind = λ x. ap (λ c. put_byte i s c) (k.blind x); unnamed = omega (arith, k.unnamed, set, fits.none); more = k.more }

source-stays : (p : PromiseId) (i : StreamId) (operation : ReadableOperation) (s : Slots) → in_readable_operation p operation ≡ 0 → Fit p s → Stays p (on_source operation i) s
source-stays p i operation s n fits =
    let k = by-test p (on_byte (byte_readable_operation i operation) i) (on_readable (readable_operation i operation) i) (has_byte i s) s
    (λ e. byte-stays p i (byte_readable_operation i operation) s (λ a made none. (bytes-blind i).0 operation p a made (omega (arith, none, n))) fits) (λ e. readable-stays p i operation s n fits) in
    record { blind = k.blind; unnamed = k.unnamed; more = k.more }

writable-stays : (p : PromiseId) (i : StreamId) (operation : WritableOperation) (s : Slots) → in_writable_operation p operation ≡ 0 → Fit p s → Stays p (on_writable (writable_operation i operation) i) s
writable-stays p i operation s n fits =
    let k = by-test p (λ z. put_writable i z (writable_operation i operation (record { slots = writable_at i z; out = found z }))) nothing (has_writable i s) s there (λ e. nothing-stays p s fits) in
    record { blind = k.blind; unnamed = k.unnamed; more = k.more }
  where
    there : true ≡ has_writable i s → Stays p (λ z. put_writable i z (writable_operation i operation (record { slots = writable_at i z; out = found z }))) s
    there e =
        let here = writable-names p i s fits in
        let a : writable.Acts = record { slots = writable_at i s; out = found s } in
        let k = writables-blind i operation p a fits.made (omega (arith, here, n, fits.none)) in
        let b : writable.Acts = writable_operation i operation a in
        let set = all-set (in_stream p) s.streams i.0 (WritableStream b.slots) (omega (arith, k.unnamed)) (omega (arith, fits.none)) in
        record { blind = λ x. ap (λ c. put_writable i s c) (k.blind x); unnamed = omega (arith, k.unnamed, set, fits.none); more = k.more }

-- a pipe looks at its ends

ready-names : (p : PromiseId) (w : Option Writer) → in_option p (ready_of w) ≤ in_writer p w
ready-names p None = omega arith
ready-names p (Some w) = omega arith

abort-by-names : (p : PromiseId) (b : Bool) (o : Option PendingAbort) → in_option p (if b then None else promise_of o) ≤ in_pending_abort p o
abort-by-names p true o = omega arith
abort-by-names p false None = omega arith
abort-by-names p false (Some abort) = omega arith

pub abort-names : (p : PromiseId) (w : writable.Slots) → in_option p (answered_abort w) ≤ in_pending_abort p w.pending_abort
abort-names p w = abort-by-names p (has_ended w.state) w.pending_abort

ends-names : (p : PromiseId) (x : pipe.Slots) (s : Slots) → Fit p s → in_ends p (ends_at x s) ≡ 0
ends-names p x s fits =
    let w = writable_at x.dest s in
    let here = writable-names p x.dest s fits in
    omega (arith, here, ready-names p w.writer, abort-names p w)

pipe-at : (p : PromiseId) (i : PipeId) (operation : PipeOperation) (s : Slots) (o : Option pipe.Slots) → o ≡ slice_get s.pipes i.0 → Fit p s
    → Stays p (λ z. on_pipe_at (λ ends. pipe_operation i ends operation) i z o) s
pipe-at p i operation s None is fits = nothing-stays p s fits
pipe-at p i operation s (Some y) is fits =
    let get = all-get (in_pipe p) s.pipes i.0 (omega (arith, fits.none)) in
    let here : in_pipe p y ≡ 0 = ap (maybe (in_pipe p)) is ∙ get in
    let a : pipe.Acts = record { slots = y; out = found s } in
    let k = pipes-blind i (ends_at y s) operation p a fits.made (omega (arith, here, ends-names p y s fits, fits.none)) in
    let b : pipe.Acts = pipe_operation i (ends_at y s) operation a in
    let set = all-set (in_pipe p) s.pipes i.0 b.slots (omega (arith, k.unnamed)) (omega (arith, fits.none)) in
    record { blind = λ x. ap (λ c. put_pipe i s c) (k.blind x); unnamed = omega (arith, k.unnamed, set, fits.none); more = k.more }

abort_all-none : (p : PromiseId) (r : Plain) (is : List PipeId) → in_effects p (pipe.abort_all r is) ≡ 0
abort_all-none p r [] = refl
abort_all-none p r (i ∷ is) = let n = abort_all-none p r is in omega (arith, n)

trigger-none : (p : PromiseId) (r : Plain) (y : pipe.Signal) (o : Option Plain) → in_effects p (pipe.trigger_unless r y o).effects ≡ 0
trigger-none p r y None = abort_all-none p r y.pipes
trigger-none p r y (Some old) = refl

signal-none : (p : PromiseId) (operation : SignalOperation) (y : pipe.Signal) → in_effects p (signal_operation operation y).effects ≡ 0
signal-none p (Add i) y = refl
signal-none p (Forget i) y = refl
signal-none p (Trigger r) y = trigger-none p r y y.reason

signal-at : (p : PromiseId) (i : SignalId) (operation : SignalOperation) (s : Slots) (o : Option pipe.Signal) → Fit p s → Stays p (λ z. on_signal_at (signal_operation operation) i z o) s
signal-at p i operation s None fits = nothing-stays p s fits
signal-at p i operation s (Some y) fits = record { blind = λ x. refl; unnamed = let n = signal-none p operation y in omega (arith, n, fits.none); more = omega arith }

transform-at : (p : PromiseId) (i : TransformId) (operation : TransformOperation) (s : Slots) (o : Option transform.Slots) → o ≡ slice_get s.transforms i.0 → in_transform_operation p operation ≡ 0 → Fit p s
    → Stays p (λ z. on_transform_at (λ halves. transform_operation i halves operation) i z o) s
transform-at p i operation s None is n fits = nothing-stays p s fits
transform-at p i operation s (Some y) is n fits =
    let get = all-get (in_transform p) s.transforms i.0 (omega (arith, fits.none)) in
    let here : in_transform p y ≡ 0 = ap (maybe (in_transform p)) is ∙ get in
    let a : transform.Acts = record { slots = y; out = found s } in
    let k = transforms-blind i (halves_at y s) operation p a fits.made (omega (arith, here, n, fits.none)) in
    let b : transform.Acts = transform_operation i (halves_at y s) operation a in
    let set = all-set (in_transform p) s.transforms i.0 b.slots (omega (arith, k.unnamed)) (omega (arith, fits.none)) in
    record { blind = λ x. ap (λ c. put_transform i s c) (k.blind x); unnamed = omega (arith, k.unnamed, set, fits.none); more = k.more }

tee-at : (p : PromiseId) (i : TeeId) (operation : TeeOperation) (s : Slots) (o : Option tee.Slots) → o ≡ slice_get s.tees i.0 → in_tee_operation p operation ≡ 0 → Fit p s
    → Stays p (λ z. on_tee_at (tee_operation i operation) i z o) s
tee-at p i operation s None is n fits = nothing-stays p s fits
tee-at p i operation s (Some y) is n fits =
    let get = all-get (in_tee p) s.tees i.0 (omega (arith, fits.none)) in
    let here : in_tee p y ≡ 0 = ap (maybe (in_tee p)) is ∙ get in
    let a : tee.Acts = record { slots = y; out = found s } in
    let k = tees-blind i operation p a fits.made (omega (arith, here, n, fits.none)) in
    let b : tee.Acts = tee_operation i operation a in
    let set = all-set (in_tee p) s.tees i.0 b.slots (omega (arith, k.unnamed)) (omega (arith, fits.none)) in
    record { blind = λ x. ap (λ c. put_tee i s c) (k.blind x); unnamed = omega (arith, k.unnamed, set, fits.none); more = k.more }

port-at : (p : PromiseId) (i : PortId) (operation : PortOperation) (s : Slots) (o : Option cross.Slots) → o ≡ slice_get s.ports i.0 → in_port_operation p operation ≡ 0 → Fit p s
    → Stays p (λ z. on_port_at (λ clones. port_operation i clones operation) i z o) s
port-at p i operation s None is n fits = nothing-stays p s fits
port-at p i operation s (Some y) is n fits =
    let get = all-get (in_port p) s.ports i.0 (omega (arith, fits.none)) in
    let here : in_port p y ≡ 0 = ap (maybe (in_port p)) is ∙ get in
    let a : cross.Acts = record { slots = y; out = found s } in
    let k = ports-blind i (clones_at y s) operation p a fits.made (omega (arith, here, n, fits.none)) in
    let b : cross.Acts = port_operation i (clones_at y s) operation a in
    let set = all-set (in_port p) s.ports i.0 b.slots (omega (arith, k.unnamed)) (omega (arith, fits.none)) in
    record { blind = λ x. ap (λ c. put_port i s c) (k.blind x); unnamed = omega (arith, k.unnamed, set, fits.none); more = k.more }

-- the algorithms

pulls-none : (p : PromiseId) (i : StreamId) (u : Use) (o : Owner) → in_use p u ≡ 0 → in_effects p (pull_algorithm i u o) ≡ 0
pulls-none p i u Host n = omega (arith, n)
pulls-none p i u (HalfOf t) n = omega (arith, n)
pulls-none p i u (BranchOf t half) n = omega (arith, n)
pulls-none p i u (EndOf c) n = omega (arith, n)

cancels-none : (p : PromiseId) (i : StreamId) (r : Plain) (u : Use) (o : Owner) → in_use p u ≡ 0 → in_effects p (cancel_algorithm i r u o) ≡ 0
cancels-none p i r u Host n = omega (arith, n)
cancels-none p i r u (HalfOf t) n = omega (arith, n)
cancels-none p i r u (BranchOf t half) n = omega (arith, n)
cancels-none p i r u (EndOf c) n = omega (arith, n)

writes-none : (p : PromiseId) (i : StreamId) (o : Owner) → in_effects p (write_algorithm i o) ≡ 0
writes-none p i Host = refl
writes-none p i (HalfOf t) = refl
writes-none p i (BranchOf t half) = refl
writes-none p i (EndOf c) = refl

closes-none : (p : PromiseId) (i : StreamId) (u : Use) (o : Owner) → in_use p u ≡ 0 → in_effects p (close_algorithm i u o) ≡ 0
closes-none p i u Host n = omega (arith, n)
closes-none p i u (HalfOf t) n = omega (arith, n)
closes-none p i u (BranchOf t half) n = omega (arith, n)
closes-none p i u (EndOf c) n = omega (arith, n)

aborts-none : (p : PromiseId) (i : StreamId) (r : Plain) (u : Use) (o : Owner) → in_use p u ≡ 0 → in_effects p (abort_algorithm i r u o) ≡ 0
aborts-none p i r u Host n = omega (arith, n)
aborts-none p i r u (HalfOf t) n = omega (arith, n)
aborts-none p i r u (BranchOf t half) n = omega (arith, n)
aborts-none p i r u (EndOf c) n = omega (arith, n)

start-stays : (p : PromiseId) (i : StreamId) (step : Step) (s : Slots) (start : StartBy) → in_step p step ≡ 0 → Fit p s → Stays p (λ z. start_algorithm i step z start) s
start-stays p i step s Now n fits = causes-stays p (Give (Fresh (Ok Undefined)) (React step None) ∷ []) s (omega (arith, n)) fits
start-stays p i step s Later n fits =
    let m = table.freshes p s.promises (record { made = fits.made; none = omega (arith, fits.none) }) in
    let next = next-apart p s.promises fits.made in
    record {
      blind = λ x. rw (next-blind p x s.promises, fresh-blind p x s.promises fits.made) refl;
      unnamed = omega (arith, m.unnamed, next, n, fits.none);
      more = m.more;
    }

chunk-stays : (p : PromiseId) (v : Value) (s : Slots) (q : ReadRequest) → in_request p q ≡ 0 → Fit p s → Stays p (λ z. chunk_steps v z q) s
chunk-stays p v s (Promise q) n fits = only p (answer q (Given v)) s (answers p q (Given v) s.promises n) fits
chunk-stays p v s (PipeRequest i) n fits = causes-stays p (Pipe i (KeepChunk v) ∷ []) s refl fits
chunk-stays p v s (TeeRequest t) n fits = causes-stays p (Tee t (KeepByTee v) ∷ []) s refl fits

close-stays : (p : PromiseId) (s : Slots) (q : ReadRequest) → in_request p q ≡ 0 → Fit p s → Stays p (λ z. close_steps z q) s
close-stays p s (Promise q) n fits = only p (answer q (Finished (PlainValue Undefined))) s (answers p q (Finished (PlainValue Undefined)) s.promises n) fits
close-stays p s (PipeRequest i) n fits = causes-stays p (Pipe i ReadEnded ∷ []) s refl fits
close-stays p s (TeeRequest t) n fits = causes-stays p (Tee t SourceClosed ∷ []) s refl fits

close_with-stays : (p : PromiseId) (b : List ℕ) (s : Slots) (q : ReadRequest) → in_request p q ≡ 0 → Fit p s → Stays p (λ z. close_steps_with b z q) s
close_with-stays p b s (Promise q) n fits = only p (answer q (Finished (Bytes b))) s (answers p q (Finished (Bytes b)) s.promises n) fits
close_with-stays p b s (PipeRequest i) n fits = causes-stays p (Pipe i ReadEnded ∷ []) s refl fits
close_with-stays p b s (TeeRequest t) n fits = causes-stays p (Tee t SourceClosed ∷ []) s refl fits

error-stays : (p : PromiseId) (e : Plain) (s : Slots) (q : ReadRequest) → in_request p q ≡ 0 → Fit p s → Stays p (λ z. error_steps e z q) s
error-stays p e s (Promise q) n fits = only p (settle q (Err e)) s (table.settles p q (Err e) s.promises n) fits
error-stays p e s (PipeRequest i) n fits = causes-stays p (Pipe i ReadEnded ∷ []) s refl fits
error-stays p e s (TeeRequest t) n fits = causes-stays p (Tee t SourceErrored ∷ []) s refl fits

host-stays : (p : PromiseId) (call : HostCall) (u : Use) (s : Slots) → in_use p u ≡ 0 → Fit p s → Stays p (λ z. nothing (call_host call u z)) s
unfolding call_host
host-stays p call u s n fits =
    let q : PromiseId = next_id s.promises in
    let next = next-apart p s.promises fits.made in
    let e : Event = HostCalled (record { 0 = length s.hosts }) call in
    let m = table.freshes p s.promises (record { made = fits.made; none = omega (arith, fits.none) }) in
    let k = uses p q u (tell e (fresh s.promises)) next n (record { made = omega (arith, fits.made, m.more); none = m.unnamed }) in
    let last = all-append (in_option p) s.hosts (Some q ∷ []) in
    record {
      blind = λ x. rw (next-blind p x s.promises, fresh-blind p x s.promises fits.made) (ap (λ (t : Table). nothing (record s { promises = t; hosts = s.hosts ++ Some q ∷ [] })) (k.blind x));
      unnamed = omega (arith, k.unnamed, last, next, fits.none);
      more = omega (arith, m.more, k.more);
    }

-- each effect

row-stays : (p : PromiseId) (e : Effect) (s : Slots) → in_effect p e ≡ 0 → Fit p s → Stays p (row e) s
unfolding row
row-stays p (Readable i operation) s n fits = source-stays p i operation s n fits
row-stays p (Byte i operation) s n fits = byte-stays p i (byte_operation i operation) s (λ a made none. (bytes-blind i).1 operation p a made (omega (arith, none, n))) fits
row-stays p (Writable i operation) s n fits = writable-stays p i operation s n fits
row-stays p (Pipe i operation) s n fits = let k = pipe-at p i operation s (slice_get s.pipes i.0) refl fits in record { blind = k.blind; unnamed = k.unnamed; more = k.more }
row-stays p (Signal i operation) s n fits = let k = signal-at p i operation s (slice_get s.signals i.0) fits in record { blind = k.blind; unnamed = k.unnamed; more = k.more }
row-stays p (Transform i operation) s n fits = let k = transform-at p i operation s (slice_get s.transforms i.0) refl n fits in record { blind = k.blind; unnamed = k.unnamed; more = k.more }
row-stays p (Tee i operation) s n fits = let k = tee-at p i operation s (slice_get s.tees i.0) refl n fits in record { blind = k.blind; unnamed = k.unnamed; more = k.more }
row-stays p (Port i operation) s n fits = let k = port-at p i operation s (slice_get s.ports i.0) refl n fits in record { blind = k.blind; unnamed = k.unnamed; more = k.more }
row-stays p (StartAlgorithm i step start) s n fits = start-stays p i step s start n fits
row-stays p (PullAlgorithm i) s n fits = let k = causes-stays p (pull_algorithm i (React (ReadablePull i) None) (owner_at i s)) s (pulls-none p i (React (ReadablePull i) None) (owner_at i s) refl) fits in record { blind = k.blind; unnamed = k.unnamed; more = k.more }
row-stays p (CancelAlgorithm i r q) s n fits = let k = causes-stays p (cancel_algorithm i r (React ReturnUndefined (Some q)) (owner_at i s)) s (cancels-none p i r (React ReturnUndefined (Some q)) (owner_at i s) (omega (arith, n))) fits in record { blind = k.blind; unnamed = k.unnamed; more = k.more }
row-stays p (WriteAlgorithm i) s n fits = let k = causes-stays p (write_algorithm i (owner_at i s)) s (writes-none p i (owner_at i s)) fits in record { blind = k.blind; unnamed = k.unnamed; more = k.more }
row-stays p (CloseAlgorithm i) s n fits = let k = causes-stays p (close_algorithm i (React (WritableClose i) None) (owner_at i s)) s (closes-none p i (React (WritableClose i) None) (owner_at i s) refl) fits in record { blind = k.blind; unnamed = k.unnamed; more = k.more }
row-stays p (AbortAlgorithm i r q) s n fits = let k = causes-stays p (abort_algorithm i r (React (WritableAbort i q) None) (owner_at i s)) s (aborts-none p i r (React (WritableAbort i q) None) (owner_at i s) (omega (arith, n))) fits in record { blind = k.blind; unnamed = k.unnamed; more = k.more }
row-stays p (ChunkSteps i q v) s n fits = chunk-stays p v s q n fits
row-stays p (CloseSteps i q) s n fits = close-stays p s q n fits
row-stays p (CloseStepsWith i q b) s n fits = close_with-stays p b s q n fits
row-stays p (ErrorSteps i q e) s n fits = error-stays p e s q n fits
row-stays p (Give gift u) s n fits = only p (use_gift gift u) s (gives p gift u s.promises (omega (arith, n)) (omega (arith, n))) fits
row-stays p (Settle q o) s n fits = only p (settle q o) s (table.settles p q o s.promises n) fits
row-stays p (Queue m) s n fits = only p (queue_micro m) s (queues p m s.promises) fits
row-stays p (CallHost call u) s n fits = host-stays p call u s n fits

pub rows-blind : EachRowIsBlind
rows-blind p e s made none = row-stays p e s (omega (arith, none)) (record { made = made; none = omega (arith, none) })
