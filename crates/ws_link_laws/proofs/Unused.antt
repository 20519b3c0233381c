-- Two streams that nobody took, at each moment: no effect that is far from them takes one.
use Rattle.std.proofs.Common.{◌≡◌, ℕ, zero, suc, Bool, true, false, not, ◌&&◌, List, [], ◌∷◌, ◌++◌, Option, Some, None, slice_get, slice_set, refl, sym, ap, subst, ◌∙◌, arith}
use Rattle.ws_value.specs.declared.ids.PipeId.{PipeId}
use Rattle.ws_value.specs.declared.ids.StreamId.{StreamId}
use Rattle.ws_steps.specs.declared.byte.ByteOperation.{ByteOperation}
use Rattle.ws_steps.specs.declared.byte.ByteOperation.TheVariants.{InitializeByobReader}
use Rattle.ws_steps.specs.declared.effects.Effect.{Effect}
use Rattle.ws_steps.specs.declared.effects.Effect.TheVariants.{Readable as OnReadable, Writable as OnWritable, Pipe as OnPipe, Tee as OnTee, Port as OnPort}
use Rattle.ws_steps.specs.declared.locks.Lock.{Lock}
use Rattle.ws_steps.specs.declared.pipes.PipeOperation.{PipeOperation}
use Rattle.ws_steps.specs.declared.readable.ReadableOperation.{ReadableOperation}
use Rattle.ws_steps.specs.declared.readable.ReadableOperation.TheVariants as reads
use Rattle.ws_steps.specs.declared.writable.WritableOperation.{WritableOperation}
use Rattle.ws_steps.specs.declared.writable.WritableOperation.TheVariants as writes
use Rattle.ws_steps.specs.Histories.{is_same}
use Rattle.ws_steps.specs.Operations.{readable_operation, byte_readable_operation, byte_operation, writable_operation, pipe_operation}
use Rattle.ws_steps.specs.Pipes as pipe
use Rattle.ws_steps.specs.Readable as readable
use Rattle.ws_steps.specs.Readable.{call_pull_if_needed, accept, controller_enqueue, stream_close, stream_error, close_if_empty, controller_close, controller_error, disturb, cancel_if_readable, start_settled, pull_settled, cancel_steps, stream_cancel, reader_release}
use Rattle.ws_steps.specs.Slots.{Slots, ReadableStream, Done, has_readable, has_writable, readable_at, writable_at, as_writable, ends_at, on_pipe_at}
use Rattle.ws_steps.specs.Turns.{row, performed}
use Rattle.ws_steps.specs.Writable as writable
use Rattle.ws_steps.specs.Writable.{update_backpressure, refresh_backpressure, reject_close_and_closed, finish_erroring, start_erroring, deal_with_rejection, controller_error_if_needed, process_write, process_close, advance_queue, hand_on, write_settled, finish_in_flight_close, finish_in_flight_close_with_error, close_settled, abort_settled, stream_abort, abort_if_writable, writer_release}
use Rattle.ws_laws.proofs.Lists.{Each, each-append, each-map}
use Rattle.ws_laws.proofs.PipeDoes.{PipeCauses, pipe-causes}
use Rattle.ws_laws.proofs.Apart.{IsApart, IsNoPipe, row-pipes, row-streams, row-locks}
use Rattle.ws_laws.proofs.Tables.{readable_acts, byte_acts, writable_acts, is_same-refl, same_id, readable_there, byte_there, on_readable-same, on_byte-same, on_byte-other, on_byte-writable, on_source-byte, on_source-readable, on_source-other, on_source-writable, on_writable-same, on_writable-other, on_writable-source, on_writable-look}
use Rattle.ws_laws.proofs.Truth.{and_left, and_right}
use Rattle.ws_room_laws.proofs.Turns.{performed-kept}
use Rattle.ws_pipe_laws.specs.pipes.PipeMoves.{starting}
use Rattle.ws_link_laws.specs.Sound.{all_apart}
use Rattle.ws_link_laws.proofs.Begins.{apart_at}
use Rattle.ws_link_laws.proofs.Hosts.{Hosts, hosts-same, hosts-row}
use Rattle.ws_link_laws.proofs.SourceTurns.{default-bare, is_default}
use Rattle.ws_link_laws.proofs.SinkTurns.{writable-there}
use Rattle.ws_steps.specs.Slots.{ByteStream}
use Rattle.ws_steps.specs.declared.effects.Effect.TheVariants.{Byte}
use Rattle.ws_steps.specs.Bytes as byte
use Rattle.ws_link_laws.proofs.Hosts.{row-sources, row-sinks}
use Rattle.ws_link_laws.specs.Sound.{IsBare}
use Rattle.ws_steps.specs.Slots.{has_byte, byte_at, has_source, source_at, is_byte_stream, as_byte, as_source}
use Rattle.ws_link_laws.proofs.Far.{IsFar, pipe-far, tees-far, ports-far, row-far}

-- records that nobody took

pub record FreeSource (r : readable.Slots) : Type 0 where
  pub unread : r.reader ≡ None
  pub requests : r.requests ≡ []

pub record FreeSink (w : writable.Slots) : Type 0 where
  pub unwritten : w.writer ≡ None
  pub queue : w.queue ≡ []
  pub request : w.close_request ≡ None
  pub flight : w.close_in_flight ≡ None

pub source-free : (i j : StreamId) (operation : ReadableOperation) (a : readable.Acts) → IsFar i j (OnReadable i operation) → FreeSource a.slots → FreeSource (readable_operation i operation a).slots
unfolding call_pull_if_needed accept controller_enqueue stream_close stream_error close_if_empty controller_close controller_error disturb cancel_if_readable start_settled pull_settled cancel_steps stream_cancel reader_release
source-free i j (reads.InitializeReader closed) a n f = let s = is_same-refl i in absurd (cc)
source-free i j (reads.Read request) a n f = let s = is_same-refl i in absurd (cc)
source-free i j operation a n f = grind (arith, f)

-- a bare byte stream that nobody took stays one

pub record FreeBytes (b : byte.Slots) : Type 0 where
  pub bare : IsBare b
  pub free : FreeSource (byte.shown b)

pub bare-free : (i j : StreamId) (operation : ReadableOperation) (a : byte.Acts) → IsFar i j (OnReadable i operation) → FreeBytes a.slots → FreeBytes (byte_readable_operation i operation a).slots
unfolding readable.stream_close readable.stream_error readable.disturb readable.reader_release byte.call_pull_if_needed byte.stream_close byte.controller_error byte.controller_close byte.stream_cancel byte.cancel_if_readable byte.start_settled byte.pull_settled byte.reader_release
bare-free i j (reads.InitializeReader closed) a n f = let s = is_same-refl i in absurd (cc)
bare-free i j (reads.Read request) a n f = let s = is_same-refl i in absurd (cc)
bare-free i j operation a n f = grind (arith, f)

pub bytes-free : (i j : StreamId) (operation : ByteOperation) (a : byte.Acts) → IsFar i j (Byte i operation) → FreeBytes a.slots → FreeBytes (byte_operation i operation a).slots
unfolding readable.disturb byte.call_pull_if_needed byte.controller_enqueue byte.read_into byte.byob_reader_read byte.pull_into byte.respond
bytes-free i j (InitializeByobReader closed) a n f = let s = is_same-refl i in absurd (cc)
bytes-free i j operation a n f = grind (arith, f)

pub sink-free : (i j : StreamId) (operation : WritableOperation) (a : writable.Acts) → IsFar i j (OnWritable j operation) → FreeSink a.slots → FreeSink (writable_operation j operation a).slots
unfolding update_backpressure refresh_backpressure reject_close_and_closed finish_erroring start_erroring deal_with_rejection controller_error_if_needed process_write process_close advance_queue hand_on writable.start_settled write_settled finish_in_flight_close finish_in_flight_close_with_error close_settled abort_settled stream_abort abort_if_writable writer_release
sink-free i j (writes.SetUpWriter w) a n f = let s = is_same-refl j in absurd (cc)
sink-free i j (writes.Write v q) a n f = let s = is_same-refl j in absurd (cc)
sink-free i j (writes.Close q) a n f = let s = is_same-refl j in absurd (cc)
sink-free i j (writes.ClosePropagating q) a n f = let s = is_same-refl j in absurd (cc)
sink-free i j operation a n f = grind (arith, f)

-- at each moment

pub record Unused (i j : StreamId) (locks : List Lock) (s : Slots) (es : List Effect) : Type 0 where
  pub source : has_source i s ≡ true
  pub bare : IsBare (byte_at i s)
  pub sink : has_writable j s ≡ true
  pub from : FreeSource (source_at i s)
  pub into : FreeSink (writable_at j s)
  pub hosts : Hosts i j s
  pub apart : all_apart i j s.pipes ≡ true
  pub same : s.locks ≡ locks
  pub far : Each (IsFar i j) es

pub apart-set : (i j : StreamId) (xs : List pipe.Slots) (n : ℕ) (x y : pipe.Slots) → slice_get xs n ≡ Some x → y.source ≡ x.source → y.dest ≡ x.dest → all_apart i j xs ≡ true → all_apart i j (slice_set xs n y) ≡ true
apart-set i j [] n x y e f g a = a
apart-set i j (z ∷ xs) zero x y e f g a = let is : z ≡ x = cc in rw (f, g, ← is) a
apart-set i j (z ∷ xs) (suc n) x y e f g a =
    let b = and_left (not (is_same i z.source) && not (is_same j z.dest)) (all_apart i j xs) a in
    let c = apart-set i j xs n x y e f g (and_right (not (is_same i z.source) && not (is_same j z.dest)) (all_apart i j xs) a) in
    rw (b, c) refl

-- the source, by its record

abbrev FreeAt : StreamId → Slots → Type 0
FreeAt i s = IsBare (byte_at i s) × FreeSource (source_at i s)

default-at : (i : StreamId) (z : Slots) (r : readable.Slots) → slice_get z.streams i.0 ≡ Some (ReadableStream r) → FreeSource r → FreeAt i z
default-at i z r e f = (default-bare i z (ap is_byte_stream e), rw (ap as_source e) f)

bytes-at : (i : StreamId) (z : Slots) (b : byte.Slots) → slice_get z.streams i.0 ≡ Some (ByteStream b) → FreeBytes b → FreeAt i z
bytes-at i z b e f = (rw (ap as_byte e) f.bare, rw (ap as_source e) f.free)

was-default : (i : StreamId) (s : Slots) → has_readable i s ≡ true → FreeAt i s → FreeSource (readable_at i s)
was-default i s there f = rw (ap as_source (readable_there (slice_get s.streams i.0) there)) at f.1

was-bytes : (i : StreamId) (s : Slots) → has_byte i s ≡ true → FreeAt i s → FreeBytes (byte_at i s)
was-bytes i s there f = record { bare = f.0; free = rw (ap as_source (byte_there (slice_get s.streams i.0) there)) at f.1 }

asked-free : (i j : StreamId) (operation : ReadableOperation) (s : Slots) → has_source i s ≡ true → IsFar i j (OnReadable i operation) → FreeAt i s → FreeAt i (row (OnReadable i operation) s).slots
unfolding row
asked-free i j operation s here far f = by (has_byte i s) refl
  where
    by : (b : Bool) → b ≡ has_byte i s → FreeAt i (row (OnReadable i operation) s).slots
    by false e =
        let there : has_readable i s ≡ true = is_default (slice_get s.streams i.0) here (sym e) in
        let to = readable_operation i operation in
        let at = ap (λ (d : Done). slice_get d.slots.streams i.0) (on_source-readable operation i s (sym e)) ∙ on_readable-same to i s there in
        default-at i (row (OnReadable i operation) s).slots (to (readable_acts i s)).slots at (source-free i j operation (readable_acts i s) far (was-default i s there f))
    by true e =
        let to = byte_readable_operation i operation in
        let at = ap (λ (d : Done). slice_get d.slots.streams i.0) (on_source-byte operation i s (sym e)) ∙ on_byte-same to i s (sym e) in
        bytes-at i (row (OnReadable i operation) s).slots (to (byte_acts i s)).slots at (bare-free i j operation (byte_acts i s) far (was-bytes i s (sym e) f))

told-free : (i j : StreamId) (operation : ByteOperation) (s : Slots) → IsFar i j (Byte i operation) → FreeAt i s → FreeAt i (row (Byte i operation) s).slots
unfolding row
told-free i j operation s far f = by (has_byte i s) refl
  where
    by : (b : Bool) → b ≡ has_byte i s → FreeAt i (row (Byte i operation) s).slots
    by false e = rw (← e) f
    by true e =
        let to = byte_operation i operation in
        bytes-at i (row (Byte i operation) s).slots (to (byte_acts i s)).slots (on_byte-same to i s (sym e)) (bytes-free i j operation (byte_acts i s) far (was-bytes i s (sym e) f))

stays-free : (i : StreamId) (s z : Slots) → slice_get z.streams i.0 ≡ slice_get s.streams i.0 → FreeAt i s → FreeAt i z
stays-free i s z e f = (rw e f.0, rw e f.1)

readable-unused : (i j : StreamId) (locks : List Lock) (k : StreamId) (operation : ReadableOperation) (s : Slots) (es : List Effect) → Unused i j locks s (OnReadable k operation ∷ es) → Unused i j locks (row (OnReadable k operation) s).slots ((row (OnReadable k operation) s).caused ++ es)
unfolding row
readable-unused i j locks k operation s es u =
    let e : Effect = OnReadable k operation in
    let free = by (is_same i k) refl in
    record {
      source = row-sources i e s ∙ u.source;
      bare = free.0;
      sink = row-sinks j e s ∙ u.sink;
      from = free.1;
      into = rw (on_source-writable operation k s j) u.into;
      hosts = hosts-row i j e s u.hosts;
      apart = rw (row-pipes e s tt) u.apart;
      same = row-locks e s ∙ u.same;
      far = row-far i j e s es tt u.far;
    }
  where
    by : (same : Bool) → same ≡ is_same i k → FreeAt i (row (OnReadable k operation) s).slots
    by false n = stays-free i s (row (OnReadable k operation) s).slots (on_source-other operation k s i (sym n)) (u.bare, u.from)
    by true n =
        let is : i ≡ k = same_id i k (sym n) in
        let far : IsFar i j (OnReadable i operation) = subst (λ (x : StreamId). IsFar i j (OnReadable x operation)) (sym is) u.far.0 in
        subst (λ (x : StreamId). FreeAt i (row (OnReadable x operation) s).slots) is (asked-free i j operation s u.source far (u.bare, u.from))

byte-unused : (i j : StreamId) (locks : List Lock) (k : StreamId) (operation : ByteOperation) (s : Slots) (es : List Effect) → Unused i j locks s (Byte k operation ∷ es) → Unused i j locks (row (Byte k operation) s).slots ((row (Byte k operation) s).caused ++ es)
unfolding row
byte-unused i j locks k operation s es u =
    let e : Effect = Byte k operation in
    let free = by (is_same i k) refl in
    record {
      source = row-sources i e s ∙ u.source;
      bare = free.0;
      sink = row-sinks j e s ∙ u.sink;
      from = free.1;
      into = rw (on_byte-writable (byte_operation k operation) k s j) u.into;
      hosts = hosts-row i j e s u.hosts;
      apart = rw (row-pipes e s tt) u.apart;
      same = row-locks e s ∙ u.same;
      far = row-far i j e s es tt u.far;
    }
  where
    by : (same : Bool) → same ≡ is_same i k → FreeAt i (row (Byte k operation) s).slots
    by false n = stays-free i s (row (Byte k operation) s).slots (on_byte-other (byte_operation k operation) k s i (sym n)) (u.bare, u.from)
    by true n =
        let is : i ≡ k = same_id i k (sym n) in
        let far : IsFar i j (Byte i operation) = subst (λ (x : StreamId). IsFar i j (Byte x operation)) (sym is) u.far.0 in
        subst (λ (x : StreamId). FreeAt i (row (Byte x operation) s).slots) is (told-free i j operation s far (u.bare, u.from))

writable-unused : (i j : StreamId) (locks : List Lock) (k : StreamId) (operation : WritableOperation) (s : Slots) (es : List Effect) → Unused i j locks s (OnWritable k operation ∷ es) → Unused i j locks (row (OnWritable k operation) s).slots ((row (OnWritable k operation) s).caused ++ es)
unfolding row
writable-unused i j locks k operation s es u =
    let e : Effect = OnWritable k operation in
    let to = writable_operation k operation in
    record {
      source = row-sources i e s ∙ u.source;
      bare = rw (on_writable-look as_byte (λ b c. refl) to k s i (is_same i k) refl) u.bare;
      sink = writable-there to k s j u.sink;
      from = rw (on_writable-source to k s i) u.from;
      into = by (is_same j k) refl;
      hosts = hosts-row i j e s u.hosts;
      apart = rw (row-pipes e s tt) u.apart;
      same = row-locks e s ∙ u.same;
      far = row-far i j e s es tt u.far;
    }
  where
    by : (same : Bool) → same ≡ is_same j k → FreeSink (writable_at j (row (OnWritable k operation) s).slots)
    by false n = rw (ap as_writable (on_writable-other (writable_operation k operation) k s j (sym n))) u.into
    by true n =
        let is : j ≡ k = same_id j k (sym n) in
        let far : IsFar i j (OnWritable j operation) = subst (λ (x : StreamId). IsFar i j (OnWritable x operation)) (sym is) u.far.0 in
        let free = sink-free i j operation (writable_acts j s) far u.into in
        let now = ap as_writable (on_writable-same (writable_operation j operation) j s u.sink) in
        rw (← is, now) free

pipe-unused : (i j : StreamId) (locks : List Lock) (q : PipeId) (operation : PipeOperation) (s : Slots) (es : List Effect) → Unused i j locks s (OnPipe q operation ∷ es) → Unused i j locks (row (OnPipe q operation) s).slots ((row (OnPipe q operation) s).caused ++ es)
unfolding row
pipe-unused i j locks q operation s es u = by (slice_get s.pipes q.0) refl
  where
    by : (o : Option pipe.Slots) → slice_get s.pipes q.0 ≡ o → let d : Done = on_pipe_at (λ ends. pipe_operation q ends operation) q s o in Unused i j locks d.slots (d.caused ++ es)
    by None e = record { source = u.source; bare = u.bare; sink = u.sink; from = u.from; into = u.into; hosts = u.hosts; apart = u.apart; same = u.same; far = u.far.1 }
    by (Some x) e =
        let b : pipe.Acts = pipe_operation q (ends_at x s) operation (starting x s.promises) in
        let c = pipe-causes q (ends_at x s) operation (starting x s.promises) tt in
        let a = apart_at i j s.pipes q.0 x u.apart e in
        record {
          source = u.source;
          bare = u.bare;
          sink = u.sink;
          from = u.from;
          into = u.into;
          hosts = hosts-same i j s _ refl refl refl refl u.hosts;
          apart = apart-set i j s.pipes q.0 x b.slots e c.0 c.1.0 u.apart;
          same = u.same;
          far = each-append (IsFar i j) b.out.effects es (each-map (PipeCauses q x.source x.dest) (IsFar i j) (λ v k. pipe-far i j q x.source x.dest v a.0 a.1 k) b.out.effects c.1.1) u.far.1;
        }

apart-unused : (i j : StreamId) (locks : List Lock) (e : Effect) (s : Slots) (es : List Effect) → IsApart e → IsNoPipe e → Each (IsFar i j) ((row e s).caused ++ es) → Unused i j locks s (e ∷ es) → Unused i j locks (row e s).slots ((row e s).caused ++ es)
apart-unused i j locks e s es a n far u = record {
  source = rw (row-streams e s a) u.source;
  bare = rw (row-streams e s a) u.bare;
  sink = rw (row-streams e s a) u.sink;
  from = rw (row-streams e s a) u.from;
  into = rw (row-streams e s a) u.into;
  hosts = hosts-row i j e s u.hosts;
  apart = rw (row-pipes e s n) u.apart;
  same = row-locks e s ∙ u.same;
  far = far;
}

row-unused : (i j : StreamId) (locks : List Lock) (e : Effect) (s : Slots) (es : List Effect) → Unused i j locks s (e ∷ es) → Unused i j locks (row e s).slots ((row e s).caused ++ es)
row-unused i j locks (OnReadable k operation) s es u = readable-unused i j locks k operation s es u
row-unused i j locks (Byte k operation) s es u = byte-unused i j locks k operation s es u
row-unused i j locks (OnWritable k operation) s es u = writable-unused i j locks k operation s es u
row-unused i j locks (OnPipe q operation) s es u = pipe-unused i j locks q operation s es u
row-unused i j locks (OnTee t operation) s es u =
    apart-unused i j locks (OnTee t operation) s es tt tt (each-append (IsFar i j) (row (OnTee t operation) s).caused es (tees-far i j s t operation u.hosts.untied) u.far.1) u
row-unused i j locks (OnPort t operation) s es u =
    apart-unused i j locks (OnPort t operation) s es tt tt (each-append (IsFar i j) (row (OnPort t operation) s).caused es (ports-far i j s t operation) u.far.1) u
row-unused i j locks e s es u = apart-unused i j locks e s es tt tt (row-far i j e s es tt u.far) u

pub performed-unused : (i j : StreamId) (locks : List Lock) (d : Done) → Unused i j locks d.slots d.caused → Unused i j locks (performed d) []
performed-unused i j locks d u = performed-kept (λ ms s es. Unused i j locks s es) (λ ms s e es k. row-unused i j locks e s es k) d u
