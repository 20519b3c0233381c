-- Two streams that may be linked, over runs that leave them alone (`each_any_free_pair_stays`).
use Rattle.std.proofs.Common.{◌≡◌, suc, Bool, true, false, List, [], ◌∷◌, ◌++◌, length, Option, Some, None, slice_get, refl, sym, ap, subst, ◌∙◌, arith}
use Rattle.ws_value.specs.declared.ids.PipeId.{PipeId}
use Rattle.ws_value.specs.declared.ids.StreamId.{StreamId}
use Rattle.ws_steps.specs.declared.byte.ByteOperation.{ByteOperation}
use Rattle.ws_steps.specs.declared.calls.Call.{Call}
use Rattle.ws_steps.specs.declared.calls.Reply.{Reply}
use Rattle.ws_steps.specs.declared.calls.Reply.TheVariants.{Promise as ReplyPromise}
use Rattle.ws_steps.specs.declared.effects.Effect.{Effect}
use Rattle.ws_steps.specs.declared.effects.Effect.TheVariants.{Readable as OnReadable, Byte as OnByte, Writable as OnWritable, Pipe as OnPipe, Tee as OnTee, Port as OnPort}
use Rattle.ws_steps.specs.declared.locks.Lock.{Lock}
use Rattle.ws_steps.specs.declared.pipes.PipeOperation.{PipeOperation}
use Rattle.ws_steps.specs.declared.promises.Job.{Job}
use Rattle.ws_steps.specs.declared.readable.ReadableOperation.{ReadableOperation}
use Rattle.ws_steps.specs.declared.writable.WritableOperation.{WritableOperation}
use Rattle.ws_steps.specs.MakingCalls.{add_stream}
use Rattle.ws_steps.specs.Calls.{begin}
use Rattle.ws_steps.specs.Histories.{is_same}
use Rattle.ws_steps.specs.Jobs.{job_begun, begin_job}
use Rattle.ws_steps.specs.Operations.{readable_operation, byte_readable_operation, byte_operation, writable_operation, pipe_operation}
use Rattle.ws_steps.specs.Pipes as pipe
use Rattle.ws_steps.specs.Promises.{next_job}
use Rattle.ws_steps.specs.Readable as readable
use Rattle.ws_steps.specs.Readable.{call_pull_if_needed, accept, controller_enqueue, stream_close, stream_error, close_if_empty, controller_close, controller_error, disturb, cancel_if_readable, start_settled, pull_settled, cancel_steps, stream_cancel, reader_release}
use Rattle.ws_steps.specs.Run.{Entry, Called, Worked, Heard, step, run, after_call, after_job}
use Rattle.ws_steps.specs.Slots.{Slots, Stream, ReadableStream, ByteStream, WritableStream, Done, has_readable, has_byte, has_source, has_writable, readable_at, byte_at, source_at, writable_at, is_byte_stream, is_writable_stream, as_byte, as_source, as_writable, ends_at, on_pipe_at}
use Rattle.ws_steps.specs.Turns.{row, performed}
use Rattle.ws_steps.specs.Writable as writable
use Rattle.ws_steps.specs.Writable.{update_backpressure, refresh_backpressure, reject_close_and_closed, finish_erroring, start_erroring, deal_with_rejection, controller_error_if_needed, process_write, process_close, advance_queue, hand_on, write_settled, finish_in_flight_close, finish_in_flight_close_with_error, close_settled, abort_settled, stream_abort, abort_if_writable, writer_release}
use Rattle.ws_laws.proofs.Begin.{begin-makes}
use Rattle.ws_laws.proofs.Lists.{Each, each-append, each-map}
use Rattle.ws_laws.proofs.PipeDoes.{PipeCauses, pipe-causes}
use Rattle.ws_laws.proofs.Apart.{IsApart, IsNoPipe, row-pipes, row-streams, row-locks}
use Rattle.ws_laws.proofs.Tables.{readable_acts, byte_acts, writable_acts, same_id, readable_there, byte_there, writable_there, on_readable-same, on_byte-same, on_byte-other, on_byte-writable, on_source-readable, on_source-byte, on_source-other, on_source-writable, on_writable-same, on_writable-other, on_writable-look, on_writable-source}
use Rattle.ws_laws.proofs.Truth.{and_left, and_right}
use Rattle.ws_room_laws.proofs.Turns.{performed-kept}
use Rattle.ws_pipe_laws.specs.pipes.PipeMoves.{starting}
use Rattle.ws_link_laws.specs.Laws.{entry_leaves, all_leave}
use Rattle.ws_link_laws.specs.Link.{giver_at, enters, leaves}
use Rattle.ws_link_laws.specs.Sound.{IsBare, all_spare, all_apart, all_untied}
use Rattle.ws_link_laws.specs.Sound as sound
use Rattle.ws_link_laws.proofs.Begins.{apart_at}
use Rattle.ws_link_laws.proofs.Outer.{IsOuter, Begins}
use Rattle.ws_link_laws.proofs.Calls.{call-begins, call-untied}
use Rattle.ws_link_laws.proofs.Far.{IsFar, outer-far, job-far, pipe-far, row-far, tees-far, ports-far}
use Rattle.ws_link_laws.proofs.Unused.{FreeSource, FreeSink, FreeBytes, source-free, bare-free, bytes-free, sink-free, apart-set}
use Rattle.ws_link_laws.proofs.Free.{few-pipes, place_below, all_of}
use Rattle.ws_link_laws.proofs.Hosts.{reached-halved, reached-ended, row-sources, row-sinks, untied-same}
use Rattle.ws_link_laws.proofs.SourceTurns.{default-bare, is_default}
use Rattle.ws_link_laws.proofs.SinkTurns.{writable-there}
use Rattle.ws_link_laws.proofs.Steps.{reached-step, place-append, stream_at, source_there}
use Rattle.ws_identity_laws.specs.Ends.{IsAnyFree}
use Rattle.ws_identity_laws.specs.Laws.{EachAnyFreePairStays}
use Rattle.ws_steps.specs.Bytes as byte
use Rattle.ws_laws.proofs.Shapes.{row-tee_shapes}

-- at each moment

pub record Untaken (i j : StreamId) (locks : List Lock) (s : Slots) (es : List Effect) : Type 0 where
  pub source : has_source i s ≡ true
  pub bare : IsBare (byte_at i s)
  pub sink : has_writable j s ≡ true
  pub from : FreeSource (source_at i s)
  pub into : FreeSink (writable_at j s)
  pub apart : all_apart i j s.pipes ≡ true
  pub untied : all_untied i s.tees ≡ true
  pub same : s.locks ≡ locks
  pub far : Each (IsFar i j) es

-- the source, by its record

abbrev FreeAt : StreamId → Slots → Type 0
FreeAt i s = IsBare (byte_at i s) × FreeSource (source_at i s)

default-at : (i : StreamId) (z : Slots) (r : readable.Slots) → slice_get z.streams i.0 ≡ Some (ReadableStream r) → FreeSource r → FreeAt i z
default-at i z r e f = (default-bare i z (ap is_byte_stream e), rw (ap as_source e) f)

bytes-at : (i : StreamId) (z : Slots) (b : byte.Slots) → slice_get z.streams i.0 ≡ Some (ByteStream b) → FreeBytes b → FreeAt i z
bytes-at i z b e f = (rw (ap as_byte e) f.bare, rw (ap as_source e) f.free)

was-default : (i : StreamId) (s : Slots) → has_readable i s ≡ true → FreeAt i s → FreeSource (readable_at i s)
was-default i s there f = rw (ap as_source (readable_there (slice_get s.streams i.0) there)) at f.1

was-bytes : (i : StreamId) (s : Slots) → has_byte i s ≡ true → FreeAt i s → FreeBytes (byte_at i s)
was-bytes i s there f = record { bare = f.0; free = rw (ap as_source (byte_there (slice_get s.streams i.0) there)) at f.1 }

asked-free : (i j : StreamId) (operation : ReadableOperation) (s : Slots) → has_source i s ≡ true → IsFar i j (OnReadable i operation) → FreeAt i s → FreeAt i (row (OnReadable i operation) s).slots
unfolding row
asked-free i j operation s here far f = by (has_byte i s) refl
  where
    by : (b : Bool) → b ≡ has_byte i s → FreeAt i (row (OnReadable i operation) s).slots
    by false e =
        let there : has_readable i s ≡ true = is_default (slice_get s.streams i.0) here (sym e) in
        let to = readable_operation i operation in
        let at = ap (λ (d : Done). slice_get d.slots.streams i.0) (on_source-readable operation i s (sym e)) ∙ on_readable-same to i s there in
        default-at i (row (OnReadable i operation) s).slots (to (readable_acts i s)).slots at (source-free i j operation (readable_acts i s) far (was-default i s there f))
    by true e =
        let to = byte_readable_operation i operation in
        let at = ap (λ (d : Done). slice_get d.slots.streams i.0) (on_source-byte operation i s (sym e)) ∙ on_byte-same to i s (sym e) in
        bytes-at i (row (OnReadable i operation) s).slots (to (byte_acts i s)).slots at (bare-free i j operation (byte_acts i s) far (was-bytes i s (sym e) f))

told-free : (i j : StreamId) (operation : ByteOperation) (s : Slots) → IsFar i j (OnByte i operation) → FreeAt i s → FreeAt i (row (OnByte i operation) s).slots
unfolding row
told-free i j operation s far f = by (has_byte i s) refl
  where
    by : (b : Bool) → b ≡ has_byte i s → FreeAt i (row (OnByte i operation) s).slots
    by false e = rw (← e) f
    by true e =
        let to = byte_operation i operation in
        bytes-at i (row (OnByte i operation) s).slots (to (byte_acts i s)).slots (on_byte-same to i s (sym e)) (bytes-free i j operation (byte_acts i s) far (was-bytes i s (sym e) f))

stays-free : (i : StreamId) (s z : Slots) → slice_get z.streams i.0 ≡ slice_get s.streams i.0 → FreeAt i s → FreeAt i z
stays-free i s z e f = (rw e f.0, rw e f.1)

readable-untaken : (i j : StreamId) (locks : List Lock) (k : StreamId) (operation : ReadableOperation) (s : Slots) (es : List Effect) → Untaken i j locks s (OnReadable k operation ∷ es) → Untaken i j locks (row (OnReadable k operation) s).slots ((row (OnReadable k operation) s).caused ++ es)
unfolding row
readable-untaken i j locks k operation s es u =
    let e : Effect = OnReadable k operation in
    let free = by (is_same i k) refl in
    record {
      source = row-sources i e s ∙ u.source;
      bare = free.0;
      sink = row-sinks j e s ∙ u.sink;
      from = free.1;
      into = rw (on_source-writable operation k s j) u.into;
      apart = rw (row-pipes e s tt) u.apart;
      untied = untied-same i s (row e s).slots (row-tee_shapes e s) ∙ u.untied;
      same = row-locks e s ∙ u.same;
      far = row-far i j e s es tt u.far;
    }
  where
    by : (same : Bool) → same ≡ is_same i k → FreeAt i (row (OnReadable k operation) s).slots
    by false n = stays-free i s (row (OnReadable k operation) s).slots (on_source-other operation k s i (sym n)) (u.bare, u.from)
    by true n =
        let is : i ≡ k = same_id i k (sym n) in
        let far : IsFar i j (OnReadable i operation) = subst (λ (x : StreamId). IsFar i j (OnReadable x operation)) (sym is) u.far.0 in
        subst (λ (x : StreamId). FreeAt i (row (OnReadable x operation) s).slots) is (asked-free i j operation s u.source far (u.bare, u.from))

byte-untaken : (i j : StreamId) (locks : List Lock) (k : StreamId) (operation : ByteOperation) (s : Slots) (es : List Effect) → Untaken i j locks s (OnByte k operation ∷ es) → Untaken i j locks (row (OnByte k operation) s).slots ((row (OnByte k operation) s).caused ++ es)
unfolding row
byte-untaken i j locks k operation s es u =
    let e : Effect = OnByte k operation in
    let free = by (is_same i k) refl in
    record {
      source = row-sources i e s ∙ u.source;
      bare = free.0;
      sink = row-sinks j e s ∙ u.sink;
      from = free.1;
      into = rw (on_byte-writable (byte_operation k operation) k s j) u.into;
      apart = rw (row-pipes e s tt) u.apart;
      untied = untied-same i s (row e s).slots (row-tee_shapes e s) ∙ u.untied;
      same = row-locks e s ∙ u.same;
      far = row-far i j e s es tt u.far;
    }
  where
    by : (same : Bool) → same ≡ is_same i k → FreeAt i (row (OnByte k operation) s).slots
    by false n = stays-free i s (row (OnByte k operation) s).slots (on_byte-other (byte_operation k operation) k s i (sym n)) (u.bare, u.from)
    by true n =
        let is : i ≡ k = same_id i k (sym n) in
        let far : IsFar i j (OnByte i operation) = subst (λ (x : StreamId). IsFar i j (OnByte x operation)) (sym is) u.far.0 in
        subst (λ (x : StreamId). FreeAt i (row (OnByte x operation) s).slots) is (told-free i j operation s far (u.bare, u.from))

writable-untaken : (i j : StreamId) (locks : List Lock) (k : StreamId) (operation : WritableOperation) (s : Slots) (es : List Effect) → Untaken i j locks s (OnWritable k operation ∷ es) → Untaken i j locks (row (OnWritable k operation) s).slots ((row (OnWritable k operation) s).caused ++ es)
unfolding row
writable-untaken i j locks k operation s es u =
    let e : Effect = OnWritable k operation in
    let to = writable_operation k operation in
    record {
      source = row-sources i e s ∙ u.source;
      bare = rw (on_writable-look as_byte (λ b c. refl) to k s i (is_same i k) refl) u.bare;
      sink = writable-there to k s j u.sink;
      from = rw (on_writable-source to k s i) u.from;
      into = by (is_same j k) refl;
      apart = rw (row-pipes e s tt) u.apart;
      untied = untied-same i s (row e s).slots (row-tee_shapes e s) ∙ u.untied;
      same = row-locks e s ∙ u.same;
      far = row-far i j e s es tt u.far;
    }
  where
    by : (same : Bool) → same ≡ is_same j k → FreeSink (writable_at j (row (OnWritable k operation) s).slots)
    by false n = rw (ap as_writable (on_writable-other (writable_operation k operation) k s j (sym n))) u.into
    by true n =
        let is : j ≡ k = same_id j k (sym n) in
        let far : IsFar i j (OnWritable j operation) = subst (λ (x : StreamId). IsFar i j (OnWritable x operation)) (sym is) u.far.0 in
        let free = sink-free i j operation (writable_acts j s) far u.into in
        let now = ap as_writable (on_writable-same (writable_operation j operation) j s u.sink) in
        rw (← is, now) free

pipe-untaken : (i j : StreamId) (locks : List Lock) (q : PipeId) (operation : PipeOperation) (s : Slots) (es : List Effect) → Untaken i j locks s (OnPipe q operation ∷ es) → Untaken i j locks (row (OnPipe q operation) s).slots ((row (OnPipe q operation) s).caused ++ es)
unfolding row
pipe-untaken i j locks q operation s es u = by (slice_get s.pipes q.0) refl
  where
    by : (o : Option pipe.Slots) → slice_get s.pipes q.0 ≡ o → let d : Done = on_pipe_at (λ ends. pipe_operation q ends operation) q s o in Untaken i j locks d.slots (d.caused ++ es)
    by None e = record { source = u.source; bare = u.bare; sink = u.sink; from = u.from; into = u.into; apart = u.apart; untied = u.untied; same = u.same; far = u.far.1 }
    by (Some x) e =
        let b : pipe.Acts = pipe_operation q (ends_at x s) operation (starting x s.promises) in
        let c = pipe-causes q (ends_at x s) operation (starting x s.promises) tt in
        let a = apart_at i j s.pipes q.0 x u.apart e in
        record {
          source = u.source;
          bare = u.bare;
          sink = u.sink;
          from = u.from;
          into = u.into;
          apart = apart-set i j s.pipes q.0 x b.slots e c.0 c.1.0 u.apart;
          untied = u.untied;
          same = u.same;
          far = each-append (IsFar i j) b.out.effects es (each-map (PipeCauses q x.source x.dest) (IsFar i j) (λ v k. pipe-far i j q x.source x.dest v a.0 a.1 k) b.out.effects c.1.1) u.far.1;
        }

apart-untaken : (i j : StreamId) (locks : List Lock) (e : Effect) (s : Slots) (es : List Effect) → IsApart e → IsNoPipe e → Each (IsFar i j) ((row e s).caused ++ es) → Untaken i j locks s (e ∷ es) → Untaken i j locks (row e s).slots ((row e s).caused ++ es)
apart-untaken i j locks e s es a n far u = record {
  source = rw (row-streams e s a) u.source;
  bare = rw (row-streams e s a) u.bare;
  sink = rw (row-streams e s a) u.sink;
  from = rw (row-streams e s a) u.from;
  into = rw (row-streams e s a) u.into;
  apart = rw (row-pipes e s n) u.apart;
  untied = untied-same i s (row e s).slots (row-tee_shapes e s) ∙ u.untied;
  same = row-locks e s ∙ u.same;
  far = far;
}

row-untaken : (i j : StreamId) (locks : List Lock) (e : Effect) (s : Slots) (es : List Effect) → Untaken i j locks s (e ∷ es) → Untaken i j locks (row e s).slots ((row e s).caused ++ es)
row-untaken i j locks (OnReadable k operation) s es u = readable-untaken i j locks k operation s es u
row-untaken i j locks (OnByte k operation) s es u = byte-untaken i j locks k operation s es u
row-untaken i j locks (OnWritable k operation) s es u = writable-untaken i j locks k operation s es u
row-untaken i j locks (OnPipe q operation) s es u = pipe-untaken i j locks q operation s es u
row-untaken i j locks (OnTee t operation) s es u =
    apart-untaken i j locks (OnTee t operation) s es tt tt (each-append (IsFar i j) (row (OnTee t operation) s).caused es (tees-far i j s t operation u.untied) u.far.1) u
row-untaken i j locks (OnPort t operation) s es u =
    apart-untaken i j locks (OnPort t operation) s es tt tt (each-append (IsFar i j) (row (OnPort t operation) s).caused es (ports-far i j s t operation) u.far.1) u
row-untaken i j locks e s es u = apart-untaken i j locks e s es tt tt (row-far i j e s es tt u.far) u

pub performed-untaken : (i j : StreamId) (locks : List Lock) (d : Done) → Untaken i j locks d.slots d.caused → Untaken i j locks (performed d) []
performed-untaken i j locks d u = performed-kept (λ ms s es. Untaken i j locks s es) (λ ms s e es k. row-untaken i j locks e s es k) d u

-- between steps

free-untaken : (i j : StreamId) (s : Slots) → IsAnyFree i j s → Untaken i j s.locks s []
free-untaken i j s f = record {
  source = f.source;
  bare = f.bare;
  sink = f.sink;
  from = record { unread = f.unread; requests = f.requests };
  into = record { unwritten = f.unwritten; queue = f.queue; request = f.close_request; flight = f.close_in_flight };
  apart = f.apart;
  untied = f.untied;
  same = refl;
  far = tt;
}

untaken-free : (i j : StreamId) (locks : List Lock) (s z : Slots) → sound.IsReached z → z.streams ≡ s.streams → z.tees ≡ s.tees → z.pipes ≡ s.pipes → z.locks ≡ s.locks → all_spare i j locks ≡ true → Untaken i j locks s [] → IsAnyFree i j z
untaken-free i j locks s z r e t f g a u = record {
  reached = r;
  source = rw e u.source;
  bare = rw e u.bare;
  sink = rw e u.sink;
  unread = rw e u.from.unread;
  unwritten = rw e u.into.unwritten;
  locks = rw (g, u.same) a;
  apart = rw f u.apart;
  untied = rw t u.untied;
  requests = rw e u.from.requests;
  queue = rw e u.into.queue;
  close_request = rw e u.into.request;
  close_in_flight = rw e u.into.flight;
}

begun-untaken : (i j : StreamId) (s : Slots) (o : Option Job) → IsAnyFree i j s → Untaken i j s.locks (job_begun s o).slots (job_begun s o).caused
begun-untaken i j s None f = free-untaken i j s f
begun-untaken i j s (Some job) f = let u = free-untaken i j s f in record { source = u.source; bare = u.bare; sink = u.sink; from = u.from; into = u.into; apart = u.apart; untied = u.untied; same = refl; far = job-far i j job }

pub free-worked : (i j : StreamId) (s : Slots) → IsAnyFree i j s → IsAnyFree i j (after_job s)
unfolding begin_job
free-worked i j s f =
    let z : Slots = performed (job_begun s (next_job s.promises)) in
    untaken-free i j s.locks z (after_job s) (reached-step s Worked f.reached) refl refl refl refl f.locks (performed-untaken i j s.locks (job_begun s (next_job s.promises)) (begun-untaken i j s (next_job s.promises) f))

-- calls

-- a call makes one pipe at most

-- where each pipe of a table is apart, all are

-- what a call makes leaves what there was
record Kept (i j : StreamId) (s z : Slots) : Type 0 where
  source : slice_get z.streams i.0 ≡ Some (stream_at i s)
  sink : slice_get z.streams j.0 ≡ Some (WritableStream (writable_at j s))

stream-kept : (i j : StreamId) (s z : Slots) (y : Stream) → Kept i j s z → Kept i j s (add_stream y z)
stream-kept i j s z y k = record { source = place-append z.streams y (stream_at i s) i.0 k.source; sink = place-append z.streams y (WritableStream (writable_at j s)) j.0 k.sink }

call-kept : (i j : StreamId) (c : Call) (s : Slots) → IsAnyFree i j s → Kept i j s (begin c s).done.slots
call-kept i j c s f = begin-makes (Kept i j s) (record {
  promise = λ z k. record { source = k.source; sink = k.sink };
  locks = λ z ls k. record { source = k.source; sink = k.sink };
  hosts = λ z hs k. record { source = k.source; sink = k.sink };
  pipe = λ z source dest prevent signal promise k. record { source = k.source; sink = k.sink };
  signal = λ z k. record { source = k.source; sink = k.sink };
  transform = λ z kind w r change k. record { source = k.source; sink = k.sink };
  tee = λ z source first second cancel k. record { source = k.source; sink = k.sink };
  port = λ z side stream backpressure k. record { source = k.source; sink = k.sink };
  bytes = λ z mark auto k. stream-kept i j s z (ByteStream (byte.set_up mark auto)) k;
  byob_requests = λ z hs k. record { source = k.source; sink = k.sink };
  readable = λ z owner mark size k. stream-kept i j s z (ReadableStream (readable.set_up owner mark size)) k;
  writable = λ z owner mark size k. stream-kept i j s z (WritableStream (writable.set_up owner mark size)) k;
}) c s (record { source = source_there (slice_get s.streams i.0) f.source; sink = writable_there (slice_get s.streams j.0) f.sink })

-- a call after whose effects nobody has them
pub untaken-called : (i j : StreamId) (locks : List Lock) (s : Slots) (c : Call) → sound.IsReached s → all_spare i j locks ≡ true → Untaken i j locks (begin c s).done.slots (begin c s).done.caused → IsAnyFree i j (after_call c s)
untaken-called i j locks s c r a u = by (begin c s).reply refl
  where
    z : Slots
    z = performed (begin c s).done

    by : (reply : Reply) → reply ≡ (begin c s).reply → IsAnyFree i j (after_call c s)
    by (ReplyPromise q) e = untaken-free i j locks z (after_call c s) (reached-step s (Called c) r) (rw (← e) refl) (rw (← e) refl) (rw (← e) refl) (rw (← e) refl) a (performed-untaken i j locks (begin c s).done u)
    by _ e = untaken-free i j locks z (after_call c s) (reached-step s (Called c) r) (rw (← e) refl) (rw (← e) refl) (rw (← e) refl) (rw (← e) refl) a (performed-untaken i j locks (begin c s).done u)

module _ (i j : StreamId) (s : Slots) (c : Call) (f : IsAnyFree i j s) (leave : leaves i j c ≡ true) where
  abbrev d : Done
  d = (begin c s).done

  -- a number that no pipe has
  abbrev none : PipeId
  none = record { 0 = suc (length s.pipes) }

  begins : Begins i j none s (enters (giver_at i s) i c) (begin c s)
  begins = call-begins i j none s f.source f.sink (reached-halved s f.reached) (reached-ended s f.reached) f.locks (λ n x e m. apart_at i j s.pipes n x f.apart e) c leave

  kept : Kept i j s d.slots
  kept = call-kept i j c s f

  apart : all_apart i j d.slots.pipes ≡ true
  apart = all_of i j d.slots.pipes (λ n x e. begins.apart n x e (λ m. let l = place_below d.slots.pipes n x e in let k = few-pipes c s in absurd (omega (arith, l, k, m))))

  at : slice_get d.slots.streams i.0 ≡ slice_get s.streams i.0
  at = kept.source ∙ sym (source_there (slice_get s.streams i.0) f.source)

  begun : Untaken i j d.slots.locks d.slots d.caused
  begun = record {
    source = rw at f.source;
    bare = rw at f.bare;
    sink = ap is_writable_stream kept.sink;
    from = rw at (record { unread = f.unread; requests = f.requests });
    into = rw (ap as_writable kept.sink) (record { unwritten = f.unwritten; queue = f.queue; request = f.close_request; flight = f.close_in_flight });
    apart = apart;
    untied = call-untied i j c s leave f.untied;
    same = refl;
    far = each-map (IsOuter i j) (IsFar i j) (outer-far i j) d.caused begins.outer;
  }

  called : IsAnyFree i j (after_call c s)
  called = untaken-called i j d.slots.locks s c f.reached begins.locks begun

-- a call that leaves free streams alone leaves them free
pub free-called : (i j : StreamId) (s : Slots) (c : Call) → IsAnyFree i j s → leaves i j c ≡ true → IsAnyFree i j (after_call c s)
free-called i j s c f leave = called i j s c f leave

quiet-free : (i j : StreamId) (s z : Slots) → sound.IsReached z → z.streams ≡ s.streams → z.tees ≡ s.tees → z.pipes ≡ s.pipes → z.locks ≡ s.locks → IsAnyFree i j s → IsAnyFree i j z
quiet-free i j s z r e t f g k = untaken-free i j s.locks s z r e t f g k.locks (free-untaken i j s k)

-- and so does a run
pub free-run : (i j : StreamId) (entries : List Entry) (s : Slots) → IsAnyFree i j s → all_leave i j entries ≡ true → IsAnyFree i j (run entries s)
free-run i j [] s f e = f
free-run i j (x ∷ xs) s f e = free-run i j xs (step s x) (one x (and_left (entry_leaves i j x) (all_leave i j xs) e)) (and_right (entry_leaves i j x) (all_leave i j xs) e)
  where
    one : (x : Entry) → entry_leaves i j x ≡ true → IsAnyFree i j (step s x)
    one (Called c) l = free-called i j s c f l
    one Worked l = free-worked i j s f
    one Heard l = quiet-free i j s (step s Heard) (reached-step s Heard f.reached) refl refl refl refl f

pub each_any_free_pair_stays : EachAnyFreePairStays
each_any_free_pair_stays i j s entries f e = free-run i j entries s f e
