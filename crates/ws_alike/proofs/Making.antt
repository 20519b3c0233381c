-- The calls that make streams, readers, writers, pipes and ports don't look at a promise that isn't named, and name it nowhere.
use Rattle.std.proofs.Common.{◌≡◌, ◌∙◌, ℕ, ◌+◌, ◌≤◌, nat_lt, if◌then◌else◌, [], ◌∷◌, ◌++◌, length, Option, Some, None, refl, ap, arith}
use Rattle.ws_value.specs.declared.ids.PipeId.{PipeId}
use Rattle.ws_value.specs.declared.ids.PromiseId.{PromiseId}
use Rattle.ws_value.specs.declared.ids.SignalId.{SignalId}
use Rattle.ws_value.specs.declared.ids.StreamId.{StreamId}
use Rattle.ws_value.specs.declared.ids.TeeId.{TeeId}
use Rattle.ws_value.specs.declared.value.Plain.{Plain}
use Rattle.ws_steps.specs.declared.calls.Reply.{Reply}
use Rattle.ws_steps.specs.declared.effects.Effect.{Effect}
use Rattle.ws_steps.specs.declared.effects.Effect.TheVariants.{Readable, Writable, StartAlgorithm, Queue}
use Rattle.ws_steps.specs.declared.effects.Owner.TheVariants.{Host, HalfOf, BranchOf}
use Rattle.ws_steps.specs.declared.locks.Lock.TheVariants.{Reader as ReaderLock, ByobReader, Writer as WriterLock, Inner}
use Rattle.ws_steps.specs.declared.writable.Writer.{Writer}
use Rattle.ws_steps.specs.Begun.{Begun, replies, unsupported, throws_type_error, throws_data_clone, begun, rejected, for_writable, unlocked_readable, unlocked_writable}
use Rattle.ws_steps.specs.Promises.{Entry, Table, next_id, fresh}
use Rattle.ws_steps.specs.Readable as readable
use Rattle.ws_steps.specs.ReadableLooks as readable_looks
use Rattle.ws_steps.specs.Writable as writable
use Rattle.ws_steps.specs.WritableLooks as writable_looks
use Rattle.ws_alike.specs.Blind.{slots_changed}
use Rattle.ws_alike.proofs.Lists.{all-append}
use Rattle.ws_alike.proofs.Promising as table
use Rattle.ws_alike.proofs.Rows.{Fit}
use Rattle.ws_alike.proofs.Steps.{next-apart}
use Rattle.ws_alike.proofs.Tables.{next-blind, fresh-blind}
use Rattle.ws_steps.specs.declared.calls.Reply.TheVariants.{Promise, Made, TooMany, MadePort}
use Rattle.ws_steps.specs.declared.calls.StartBy.{StartBy}
use Rattle.ws_steps.specs.declared.calls.StartBy.TheVariants.{Now, Later}
use Rattle.ws_steps.specs.declared.pipes.Prevent.{Prevent}
use Rattle.ws_steps.specs.declared.port.Side.{Side}
use Rattle.ws_steps.specs.declared.port.Side.TheVariants.{Readable as ReadableSide, Writable as WritableSide}
use Rattle.ws_steps.specs.declared.promises.Micro.TheVariants.{PipeLook}
use Rattle.ws_steps.specs.declared.promises.Step.TheVariants.{ReadableStart, WritableStart, PipeEnds}
use Rattle.ws_steps.specs.declared.readable.ReadableOperation.TheVariants.{InitializeReader, Disturb}
use Rattle.ws_steps.specs.declared.readable.SizeBy.{SizeBy}
use Rattle.ws_steps.specs.declared.readable.SizeBy.TheVariants.{Count}
use Rattle.ws_steps.specs.declared.tee.Half.TheVariants.{First, Second}
use Rattle.ws_steps.specs.declared.transform.Kind.{Kind}
use Rattle.ws_steps.specs.declared.transform.TransformId.{TransformId}
use Rattle.ws_steps.specs.declared.writable.WritableOperation.TheVariants.{SetUpWriter}
use Rattle.ws_steps.specs.Bytes as byte
use Rattle.ws_steps.specs.Cross as cross
use Rattle.ws_steps.specs.MakingCalls.{add_stream, make_readable, make_bytes, make_writable, make_stream, make_two, start_transform, make_transform, add_branch, make_tee, tee_of, get_reader, get_byob, get_byob_of, get_writer}
use Rattle.ws_steps.specs.Pipes as pipe
use Rattle.ws_steps.specs.PipeCalls.{for_signal, for_signal_where, reason_of, adding, pipe_begins, pipe_to, pipe_unlocked, pipe_call, make_signal, end_of, start_end, add_port, open_end, no_prevent, sent_by, send_readable, send_writable, send}
use Rattle.ws_steps.specs.Slots.{Slots, most_streams, Stream, ReadableStream, ByteStream, WritableStream, causes, has_byte, has_source, source_at, writable_at, has_signal, is_teed}
use Rattle.ws_steps.specs.Tee as tee
use Rattle.ws_steps.specs.Transform as transform
use Rattle.ws_alike.specs.Named.{one, in_lock, in_stream, in_transform, in_tee, in_port, in_pipe, in_effects, in_effect}
use Rattle.ws_alike.proofs.Calling.{Calls, in_reply, by-test, answers, refuses, throws, rejects, table-fits, for_source-calls, for_writable-calls, unlocked_readable-calls, unlocked_writable-calls}

-- streams

added : (p : PromiseId) (y : Stream) (s : Slots) → in_stream p y ≡ 0 → Fit p s → Fit p (add_stream y s)
added p y s n fits = let last = all-append (in_stream p) s.streams (y ∷ []) in record { made = fits.made; none = omega (arith, last, n, fits.none) }

adds : (p : PromiseId) (r : Reply) (e : Effect) (y : Stream) (s : Slots) → in_stream p y ≡ 0 → in_effects p (e ∷ []) ≡ 0 → ((p : PromiseId) → in_reply p r ≡ 0) → Fit p s → Calls p (λ z. begun r (causes (e ∷ []) (add_stream y z))) s
adds p r e y s n m apart fits =
    let a = added p y s n fits in
    record { blind = λ x. refl; apart = apart p; unnamed = omega (arith, a.none, m); more = omega arith }

pub make_readable-calls : (p : PromiseId) (mark : ℕ) (size : SizeBy) (start : StartBy) (i : StreamId) (s : Slots) → Fit p s → Calls p (make_readable mark size start i) s
make_readable-calls p mark size start i s fits = adds p (Made i) (StartAlgorithm i (ReadableStart i) start) (ReadableStream (readable.set_up Host mark size)) s refl refl (λ p. refl) fits

pub make_bytes-calls : (p : PromiseId) (mark auto : ℕ) (start : StartBy) (i : StreamId) (s : Slots) → Fit p s → Calls p (make_bytes mark auto start i) s
make_bytes-calls p mark auto start i s fits = adds p (Made i) (StartAlgorithm i (ReadableStart i) start) (ByteStream (byte.set_up mark auto)) s refl refl (λ p. refl) fits

pub make_writable-calls : (p : PromiseId) (mark : ℕ) (size : SizeBy) (start : StartBy) (i : StreamId) (s : Slots) → Fit p s → Calls p (make_writable mark size start i) s
make_writable-calls p mark size start i s fits = adds p (Made i) (StartAlgorithm i (WritableStart i) start) (WritableStream (writable.set_up Host mark size)) s refl refl (λ p. refl) fits

pub make_stream-calls : (p : PromiseId) (make : StreamId → Slots → Begun) (s : Slots) → ((i : StreamId) → Calls p (make i) s) → Fit p s → Calls p (make_stream make) s
make_stream-calls p make s m fits = let k = by-test p (make (record { 0 = length s.streams })) (replies TooMany) (nat_lt (length s.streams) most_streams) s (m (record { 0 = length s.streams })) (answers p TooMany s refl fits) in record { blind = k.blind; apart = k.apart; unnamed = k.unnamed; more = k.more }

pub make_two-calls : (p : PromiseId) (make : StreamId → StreamId → Slots → Begun) (s : Slots) → ((i j : StreamId) → Calls p (make i j) s) → Fit p s → Calls p (make_two make) s
make_two-calls p make s m fits =
    let i : StreamId = record { 0 = length s.streams } in
    let j : StreamId = record { 0 = length s.streams + 1 } in
    let k = by-test p (make i j) (replies TooMany) (nat_lt (length s.streams + 1) most_streams) s (m i j) (answers p TooMany s refl fits) in record { blind = k.blind; apart = k.apart; unnamed = k.unnamed; more = k.more }

grown : (p : PromiseId) (t : Table) → table.Fit p t → table.Fit p (fresh t)
grown p t fits = let m = table.freshes p t fits in record { made = omega (arith, fits.made, m.more); none = m.unnamed }

start_transform-none : (p q : PromiseId) (j : StreamId) (start : StartBy) → one p q ≡ 0 → in_effects p (start_transform q j start ∷ []) ≡ 0
start_transform-none p q j Now n = omega (arith, n)
start_transform-none p q j Later n = omega (arith, n)

pub make_transform-calls : (p : PromiseId) (kind : Kind) (writable_mark readable_mark : ℕ) (start : StartBy) (i j : StreamId) (s : Slots) → Fit p s → Calls p (make_transform kind writable_mark readable_mark start i j) s
make_transform-calls p kind writable_mark readable_mark start i j s fits =
    let me : TransformId = record { 0 = length s.transforms } in
    let t = s.promises in
    let f0 = table-fits p s fits in
    let f1 = grown p t f0 in
    let f2 = grown p (fresh t) f1 in
    let f3 = grown p (fresh (fresh t)) f2 in
    let f4 = grown p (fresh (fresh (fresh t))) f3 in
    let n0 = next-apart p t f0.made in
    let n1 = next-apart p (fresh t) f1.made in
    let n2 = next-apart p (fresh (fresh t)) f2.made in
    let n3 = next-apart p (fresh (fresh (fresh t))) f3.made in
    let a = added p (WritableStream (writable.set_up (HalfOf me) writable_mark Count)) s refl fits in
    let b = added p (ReadableStream (readable.set_up (HalfOf me) readable_mark Count)) (add_stream (WritableStream (writable.set_up (HalfOf me) writable_mark Count)) s) refl a in
    let last = all-append (in_transform p) s.transforms (transform.set_up kind i j (next_id t) ∷ []) in
    let begin = start_transform-none p (next_id (fresh t)) j start n1 in
    let l1 = table.freshes p t f0 in
    let l2 = table.freshes p (fresh t) f1 in
    let l3 = table.freshes p (fresh (fresh t)) f2 in
    let l4 = table.freshes p (fresh (fresh (fresh t))) f3 in
    record {
      blind = λ x. rw (next-blind p x t, fresh-blind p x t f0.made, next-blind p x (fresh t), fresh-blind p x (fresh t) f1.made, next-blind p x (fresh (fresh t)), fresh-blind p x (fresh (fresh t)) f2.made, next-blind p x (fresh (fresh (fresh t))), fresh-blind p x (fresh (fresh (fresh t))) f3.made) refl;
      apart = refl;
      unnamed = omega (arith, b.none, last, n0, n1, n2, n3, begin, f4.none, fits.none);
      more = omega (arith, l1.more, l2.more, l3.more, l4.more);
    }

make_tee-calls : (p : PromiseId) (source i j : StreamId) (s : Slots) → Fit p s → Calls p (make_tee source i j) s
make_tee-calls p source i j s fits =
    let me : TeeId = record { 0 = length s.tees } in
    let t = s.promises in
    let f0 = table-fits p s fits in
    let f1 = grown p t f0 in
    let f2 = grown p (fresh t) f1 in
    let n0 = next-apart p t f0.made in
    let n1 = next-apart p (fresh t) f1.made in
    let a = added p (ReadableStream (readable.set_up (BranchOf me First) 1 Count)) s refl fits in
    let b = added p (ReadableStream (readable.set_up (BranchOf me Second) 1 Count)) (add_branch (BranchOf me First) s) refl a in
    let last = all-append (in_tee p) s.tees (tee.set_up source i j (next_id (fresh t)) ∷ []) in
    let locks = all-append (in_lock p) s.locks (Inner ∷ []) in
    let l1 = table.freshes p t f0 in
    let l2 = table.freshes p (fresh t) f1 in
    record {
      blind = λ x. rw (next-blind p x t, fresh-blind p x t f0.made, next-blind p x (fresh t), fresh-blind p x (fresh t) f1.made) refl;
      apart = refl;
      unnamed = omega (arith, b.none, last, locks, n0, n1, f2.none, fits.none);
      more = omega (arith, l1.more, l2.more);
    }

pub tee-calls : (p : PromiseId) (i : StreamId) (s : Slots) → Fit p s → Calls p (tee_of i) s
tee-calls p i s fits =
    let m = by-test p throws_type_error (make_two (make_tee i)) (is_teed i s) s (throws p s fits) (make_two-calls p (make_tee i) s (λ a b. make_tee-calls p i a b s fits) fits) in
    let k = by-test p unsupported (λ z. if is_teed i s then throws_type_error z else make_two (make_tee i) z) (has_byte i s) s (refuses p s fits) m in
    record { blind = k.blind; apart = k.apart; unnamed = k.unnamed; more = k.more }

-- readers and writers

pub get_reader-calls : (p : PromiseId) (i : StreamId) (s : Slots) → Fit p s → Calls p (get_reader i) s
get_reader-calls p i s fits =
    let t = s.promises in
    let f0 = table-fits p s fits in
    let n0 = next-apart p t f0.made in
    let m = table.freshes p t f0 in
    let locks = all-append (in_lock p) s.locks (ReaderLock (Some i) (next_id t) ∷ []) in
    record { blind = λ x. rw (next-blind p x t, fresh-blind p x t f0.made) refl; apart = refl; unnamed = omega (arith, locks, n0, m.unnamed, fits.none); more = m.more }

get_byob-calls : (p : PromiseId) (i : StreamId) (s : Slots) → Fit p s → Calls p (get_byob i) s
get_byob-calls p i s fits =
    let t = s.promises in
    let f0 = table-fits p s fits in
    let n0 = next-apart p t f0.made in
    let m = table.freshes p t f0 in
    let locks = all-append (in_lock p) s.locks (ByobReader (Some i) (next_id t) ∷ []) in
    record { blind = λ x. rw (next-blind p x t, fresh-blind p x t f0.made) refl; apart = refl; unnamed = omega (arith, locks, n0, m.unnamed, fits.none); more = m.more }

pub get_byob_of-calls : (p : PromiseId) (i : StreamId) (s : Slots) → Fit p s → Calls p (get_byob_of i) s
get_byob_of-calls p i s fits = let k = by-test p (get_byob i) throws_type_error (has_byte i s) s (get_byob-calls p i s fits) (throws p s fits) in record { blind = k.blind; apart = k.apart; unnamed = k.unnamed; more = k.more }

pub get_writer-calls : (p : PromiseId) (i : StreamId) (s : Slots) → Fit p s → Calls p (get_writer i) s
get_writer-calls p i s fits =
    let t = s.promises in
    let f0 = table-fits p s fits in
    let f1 = grown p t f0 in
    let n0 = next-apart p t f0.made in
    let n1 = next-apart p (fresh t) f1.made in
    let l1 = table.freshes p t f0 in
    let l2 = table.freshes p (fresh t) f1 in
    let locks = all-append (in_lock p) s.locks (WriterLock i ∷ []) in
    record {
      blind = λ x. rw (next-blind p x t, fresh-blind p x t f0.made, next-blind p x (fresh t), fresh-blind p x (fresh t) f1.made) refl;
      apart = refl;
      unnamed = omega (arith, locks, n0, n1, l2.unnamed, fits.none);
      more = omega (arith, l1.more, l2.more);
    }

-- pipes and signals

adding-none : (p : PromiseId) (me : PipeId) (o : Option SignalId) → in_effects p (adding me o) ≡ 0
adding-none p me None = refl
adding-none p me (Some a) = refl

pipe_begins-none : (p : PromiseId) (me : PipeId) (c w : PromiseId) (signal : Option SignalId) (o : Option Plain) → one p c ≡ 0 → one p w ≡ 0 → in_effects p (pipe_begins me c w signal o) ≡ 0
pipe_begins-none p me c w signal (Some r) n m = refl
pipe_begins-none p me c w signal None n m =
    let app = all-append (in_effect p) (adding me signal) (pipe.reacts c (PipeEnds me) ∷ pipe.reacts w (PipeEnds me) ∷ Queue (PipeLook me) ∷ []) in
    let a = adding-none p me signal in
    omega (arith, app, a, n, m)

abbrev pipe_with : StreamId → StreamId → Prevent → Option SignalId → Option Plain → Slots → Begun
pipe_with source dest prevent signal reason s =
    let t : Table = s.promises in
    let closed : PromiseId = next_id t in
    let w : Writer = record { ready = next_id (fresh t); closed = next_id (fresh (fresh t)) } in
    let promise : PromiseId = next_id (fresh (fresh (fresh t))) in
    let me : PipeId = record { 0 = length s.pipes } in
    begun (Promise promise)
    (causes
    (Readable source (InitializeReader closed)
    ∷ Writable dest (SetUpWriter w)
    ∷ Readable source Disturb
    ∷ pipe_begins me closed w.closed signal reason)
    (record s {
      pipes = s.pipes ++ pipe.set_up source dest prevent signal promise ∷ [];
      locks = s.locks ++ Inner ∷ Inner ∷ [];
      promises = fresh (fresh (fresh (fresh t)));
    }))

pipe_with-calls : (p : PromiseId) (source dest : StreamId) (prevent : Prevent) (signal : Option SignalId) (reason : Option Plain) (s : Slots) → Fit p s → Calls p (pipe_with source dest prevent signal reason) s
pipe_with-calls p source dest prevent signal reason s fits =
    let me : PipeId = record { 0 = length s.pipes } in
    let t = s.promises in
    let f0 = table-fits p s fits in
    let f1 = grown p t f0 in
    let f2 = grown p (fresh t) f1 in
    let f3 = grown p (fresh (fresh t)) f2 in
    let f4 = grown p (fresh (fresh (fresh t))) f3 in
    let n0 = next-apart p t f0.made in
    let n1 = next-apart p (fresh t) f1.made in
    let n2 = next-apart p (fresh (fresh t)) f2.made in
    let n3 = next-apart p (fresh (fresh (fresh t))) f3.made in
    let last = all-append (in_pipe p) s.pipes (pipe.set_up source dest prevent signal (next_id (fresh (fresh (fresh t)))) ∷ []) in
    let locks = all-append (in_lock p) s.locks (Inner ∷ Inner ∷ []) in
    let begin = pipe_begins-none p me (next_id t) (next_id (fresh (fresh t))) signal reason n0 n2 in
    let l1 = table.freshes p t f0 in
    let l2 = table.freshes p (fresh t) f1 in
    let l3 = table.freshes p (fresh (fresh t)) f2 in
    let l4 = table.freshes p (fresh (fresh (fresh t))) f3 in
    record {
      blind = λ x. rw (next-blind p x t, fresh-blind p x t f0.made, next-blind p x (fresh t), fresh-blind p x (fresh t) f1.made, next-blind p x (fresh (fresh t)), fresh-blind p x (fresh (fresh t)) f2.made, next-blind p x (fresh (fresh (fresh t))), fresh-blind p x (fresh (fresh (fresh t))) f3.made) refl;
      apart = n3;
      unnamed = omega (arith, last, locks, begin, n0, n1, n2, n3, f4.none, fits.none);
      more = omega (arith, l1.more, l2.more, l3.more, l4.more);
    }

reason-same : (p : PromiseId) (x : Option Entry) (signal : Option SignalId) (s : Slots) → reason_of signal (slots_changed p x s) ≡ reason_of signal s
reason-same p x None s = refl
reason-same p x (Some a) s = refl

pipe_to-calls : (p : PromiseId) (source dest : StreamId) (prevent : Prevent) (signal : Option SignalId) (s : Slots) → Fit p s → Calls p (pipe_to source dest prevent signal) s
pipe_to-calls p source dest prevent signal s fits =
    let k = pipe_with-calls p source dest prevent signal (reason_of signal s) s fits in
    record { blind = λ x. ap (λ r. pipe_with source dest prevent signal r (slots_changed p x s)) (reason-same p x signal s) ∙ k.blind x; apart = k.apart; unnamed = k.unnamed; more = k.more }

pub for_signal-calls : (p : PromiseId) (a : SignalId) (f : Slots → Begun) (s : Slots) → Calls p f s → Fit p s → Calls p (for_signal a f) s
for_signal-calls p a f s m fits = let k = by-test p f unsupported (has_signal a s) s m (refuses p s fits) in record { blind = k.blind; apart = k.apart; unnamed = k.unnamed; more = k.more }

where-calls : (p : PromiseId) (o : Option SignalId) (f : Slots → Begun) (s : Slots) → Calls p f s → Fit p s → Calls p (for_signal_where o f) s
where-calls p None f s m fits = record { blind = m.blind; apart = m.apart; unnamed = m.unnamed; more = m.more }
where-calls p (Some a) f s m fits = for_signal-calls p a f s m fits

pub pipe-calls : (p : PromiseId) (source dest : StreamId) (prevent : Prevent) (signal : Option SignalId) (s : Slots) → Fit p s → Calls p (pipe_call source dest prevent signal) s
pipe-calls p source dest prevent signal s fits =
    let a = by-test p rejected (pipe_to source dest prevent signal) (writable_looks.is_locked (writable_at dest s)) s (rejects p s fits) (pipe_to-calls p source dest prevent signal s fits) in
    let b = by-test p rejected (λ z. if writable_looks.is_locked (writable_at dest s) then rejected z else pipe_to source dest prevent signal z) (readable_looks.is_locked (source_at source s)) s (rejects p s fits) a in
    let u : Calls p (pipe_unlocked source dest prevent signal) s = record { blind = b.blind; apart = b.apart; unnamed = b.unnamed; more = b.more } in
    let w = where-calls p signal (pipe_unlocked source dest prevent signal) s u fits in
    let d = for_writable-calls p dest (for_signal_where signal (pipe_unlocked source dest prevent signal)) s w fits in
    for_source-calls p source (for_writable dest (for_signal_where signal (pipe_unlocked source dest prevent signal))) s d fits

pub make_signal-calls : (p : PromiseId) (s : Slots) → Fit p s → Calls p make_signal s
make_signal-calls p s fits = record { blind = λ x. refl; apart = refl; unnamed = omega (arith, fits.none); more = omega arith }

-- ports

start_end-none : (p : PromiseId) (i : StreamId) (side : Side) → in_effects p (start_end i side ∷ []) ≡ 0
start_end-none p i ReadableSide = refl
start_end-none p i WritableSide = refl

record Ported (p : PromiseId) (i : StreamId) (s : Slots) (side : Side) : Type 0 where
  pub blind : (x : Option Entry) → add_port i (slots_changed p x s) side ≡ slots_changed p x (add_port i s side)
  pub fits : Fit p (add_port i s side)
  pub more : length s.promises.entries ≤ length (add_port i s side).promises.entries

ported : (p : PromiseId) (i : StreamId) (s : Slots) (side : Side) → Fit p s → Ported p i s side
ported p i s ReadableSide fits =
    let a = added p (end_of (record { 0 = length s.ports }) ReadableSide) s refl fits in
    let last = all-append (in_port p) s.ports (cross.set_up ReadableSide i None ∷ []) in
    record { blind = λ x. refl; fits = record { made = fits.made; none = omega (arith, a.none, last, fits.none) }; more = omega arith }
ported p i s WritableSide fits =
    let a = added p (end_of (record { 0 = length s.ports }) WritableSide) s refl fits in
    let f0 = table-fits p s fits in
    let m = table.freshes p s.promises f0 in
    let n = next-apart p s.promises fits.made in
    let last = all-append (in_port p) s.ports (cross.set_up WritableSide i (Some (next_id s.promises)) ∷ []) in
    record {
      blind = λ x. rw (next-blind p x s.promises, fresh-blind p x s.promises fits.made) refl;
      fits = record { made = omega (arith, fits.made, m.more); none = omega (arith, a.none, last, n, m.unnamed, fits.none) };
      more = m.more;
    }

pub open-calls : (p : PromiseId) (side : Side) (i : StreamId) (s : Slots) → Fit p s → Calls p (open_end side i) s
open-calls p side i s fits =
    let m = ported p i s side fits in
    let n = start_end-none p i side in
    record {
      blind = λ x. ap (λ z. begun (MadePort i (record { 0 = length s.ports })) (causes (start_end i side ∷ []) z)) (m.blind x);
      apart = refl;
      unnamed = omega (arith, m.fits.none, n);
      more = m.more;
    }

sent-calls : (p : PromiseId) (i : StreamId) (side : Side) (source dest : StreamId) (s : Slots) → Fit p s → Calls p (λ z. sent_by i side z (pipe_to source dest no_prevent None (add_port i z side))) s
sent-calls p i side source dest s fits =
    let m = ported p i s side fits in
    let k = pipe_to-calls p source dest no_prevent None (add_port i s side) m.fits in
    let n = start_end-none p i side in
    record {
      blind = λ x. ap (λ z. sent_by i side s (pipe_to source dest no_prevent None z)) (m.blind x) ∙ ap (sent_by i side s) (k.blind x);
      apart = refl;
      unnamed = omega (arith, k.unnamed, n);
      more = omega (arith, m.more, k.more);
    }

throws_clone : (p : PromiseId) (s : Slots) → Fit p s → Calls p throws_data_clone s
throws_clone p s fits = record { blind = λ x. refl; apart = refl; unnamed = omega (arith, fits.none); more = omega arith }

pub send-calls : (p : PromiseId) (i : StreamId) (s : Slots) → Fit p s → Calls p (send i) s
send-calls p i s fits =
    let a = make_stream-calls p (send_readable i) s (λ j. let k = sent-calls p j WritableSide i j s fits in record { blind = k.blind; apart = k.apart; unnamed = k.unnamed; more = k.more }) fits in
    let b = make_stream-calls p (send_writable i) s (λ j. let k = sent-calls p j ReadableSide j i s fits in record { blind = k.blind; apart = k.apart; unnamed = k.unnamed; more = k.more }) fits in
    let c = unlocked_readable-calls p i throws_data_clone (λ source. make_stream (send_readable source)) s (throws_clone p s fits) a fits in
    let d = unlocked_writable-calls p i throws_data_clone (λ dest. make_stream (send_writable dest)) s (throws_clone p s fits) b fits in
    let k = by-test p (unlocked_readable i throws_data_clone (λ source. make_stream (send_readable source))) (unlocked_writable i throws_data_clone (λ dest. make_stream (send_writable dest))) (has_source i s) s c d in
    record { blind = k.blind; apart = k.apart; unnamed = k.unnamed; more = k.more }
