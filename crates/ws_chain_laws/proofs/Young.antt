-- A realm in which nothing has gone on: streams were made and piped, and no job was performed.
use Rattle.std.proofs.Common.{◌≡◌, ℕ, false, List, [], ◌∷◌, ◌++◌, length, Option, Some, None, slice_get, refl, ◌∙◌, arith}
use Rattle.ws_value.specs.declared.ids.PortId.{PortId}
use Rattle.ws_value.specs.declared.ids.SignalId.{SignalId}
use Rattle.ws_value.specs.declared.ids.PipeId.{PipeId}
use Rattle.ws_value.specs.declared.ids.StreamId.{StreamId}
use Rattle.ws_steps.specs.declared.calls.Call.{Call}
use Rattle.ws_steps.specs.declared.calls.Reply.{Reply}
use Rattle.ws_steps.specs.declared.calls.Reply.TheVariants.{Promise as ReplyPromise}
use Rattle.ws_steps.specs.declared.calls.StartBy.TheVariants.{Now}
use Rattle.ws_steps.specs.declared.effects.Effect.{Effect}
use Rattle.ws_steps.specs.declared.effects.Effect.TheVariants.{Readable as OnReadable, Writable as OnWritable, Signal as OnSignal, StartAlgorithm, Give, Settle, Queue}
use Rattle.ws_steps.specs.declared.pipes.Phase.TheVariants.{Flowing}
use Rattle.ws_steps.specs.declared.pipes.SignalOperation.TheVariants.{Add}
use Rattle.ws_steps.specs.declared.readable.ReadableOperation.{ReadableOperation}
use Rattle.ws_steps.specs.declared.readable.ReadableOperation.TheVariants as reads
use Rattle.ws_steps.specs.declared.readable.ReadableState.TheVariants.{Readable}
use Rattle.ws_steps.specs.declared.readable.SizeBy.TheVariants.{Count}
use Rattle.ws_steps.specs.declared.writable.WritableOperation.{WritableOperation}
use Rattle.ws_steps.specs.declared.writable.WritableOperation.TheVariants as writes
use Rattle.ws_steps.specs.declared.writable.WritableState.TheVariants.{Writable}
use Rattle.ws_steps.specs.Bytes as byte
use Rattle.ws_steps.specs.Calls.{begin, named}
use Rattle.ws_steps.specs.Effects.{Out}
use Rattle.ws_steps.specs.Operations.{readable_operation, byte_readable_operation, writable_operation, signal_operation}
use Rattle.ws_steps.specs.Pipes as pipe
use Rattle.ws_steps.specs.Readable as readable
use Rattle.ws_steps.specs.PortHistory.{posted_in}
use Rattle.ws_steps.specs.Promises.{Table, fresh}
use Rattle.ws_steps.specs.Run.{after_call}
use Rattle.ws_steps.specs.Slots.{Slots, Stream, ReadableStream, ByteStream, WritableStream, Done, nothing, has_readable, has_byte, has_writable, readable_at, byte_at, writable_at, put_stream, put_readable, put_byte, put_writable, on_readable, on_byte, on_signal_at}
use Rattle.ws_steps.specs.Turns.{row, performed}
use Rattle.ws_steps.specs.Writable as writable
use Rattle.ws_laws.proofs.Lists.{Each, each-append}
use Rattle.ws_laws.proofs.Tables.{either, readable_acts, byte_acts, writable_acts, readable_there, byte_there, writable_there}
use Rattle.ws_room_laws.proofs.Turns.{performed-kept}
use Rattle.ws_link_laws.specs.Link.{Ear, silence, unheard}
use Rattle.ws_tee_port_laws.proofs.ports.Told.{row-posted, watch-posted}
use Rattle.ws_link_laws.proofs.Unheard.{row-unheard, watch-unheard}
use Rattle.ws_chain_laws.proofs.Lists.{AllOf, all-get, all-set, length-set}

pub record YoungSource (r : readable.Slots) : Type 0 where
  pub state : r.state ≡ Readable
  pub queue : r.queue ≡ []
  pub request : r.close_requested ≡ false

pub record YoungSink (w : writable.Slots) : Type 0 where
  pub state : w.state ≡ Writable
  pub queue : w.queue ≡ []
  pub flight : w.close_in_flight ≡ None
  pub mark : w.hwm ≡ 1
  pub size : w.size_by ≡ Count

abbrev pub YoungStream : Stream → Type 0
YoungStream (ReadableStream r) = YoungSource r
YoungStream (ByteStream b) = YoungSource (byte.shown b)
YoungStream (WritableStream w) = YoungSink w

pub record YoungPipe (x : pipe.Slots) : Type 0 where
  pub phase : x.phase ≡ Flowing
  pub reading : x.reading ≡ false
  pub held : x.held ≡ None

abbrev pub Untriggered : pipe.Signal → Type 0
Untriggered x = x.reason ≡ None

-- with so many signals, and so many pipes
pub record Young (c p : ℕ) (s : Slots) : Type 0 where
  pub streams : AllOf YoungStream s.streams
  pub pipes : AllOf YoungPipe s.pipes
  pub signals : AllOf Untriggered s.signals
  pub count : length s.signals ≡ c
  pub piped : length s.pipes ≡ p
  pub quiet : (w : Ear) → unheard w s.promises.events ≡ silence
  pub unposted : (d : PortId) → posted_in d s.promises.events ≡ []

-- the effects of the making and piping of streams

abbrev pub Mild : Effect → Type 0
Mild (OnReadable i (reads.InitializeReader p)) = Unit {0}
Mild (OnReadable i reads.Disturb) = Unit {0}
Mild (OnWritable i (writes.SetUpWriter w)) = Unit {0}
Mild (OnSignal a (Add p)) = Unit {0}
Mild (StartAlgorithm i step Now) = Unit {0}
Mild (Give gift u) = Unit {0}
Mild (Settle p o) = Unit {0}
Mild (Queue m) = Unit {0}
Mild _ = ⊥

source-mild : (i : StreamId) (operation : ReadableOperation) (a : readable.Acts) → Mild (OnReadable i operation) → YoungSource a.slots
    → let b : readable.Acts = readable_operation i operation a in YoungSource b.slots × (b.out.effects ≡ a.out.effects)
unfolding readable.reader_generic_initialize readable.disturb
source-mild i (reads.InitializeReader p) a m y = (record { state = y.state; queue = y.queue; request = y.request }, rw y.state refl)
source-mild i reads.Disturb a m y = (record { state = y.state; queue = y.queue; request = y.request }, refl)
source-mild i _ a m y = absurd m

bytes-mild : (i : StreamId) (operation : ReadableOperation) (a : byte.Acts) → Mild (OnReadable i operation) → YoungSource (byte.shown a.slots)
    → let b : byte.Acts = byte_readable_operation i operation a in YoungSource (byte.shown b.slots) × (b.out.effects ≡ a.out.effects)
unfolding byte.reader_initialize readable.reader_generic_initialize readable.disturb
bytes-mild i (reads.InitializeReader p) a m y = grind (arith, y)
bytes-mild i reads.Disturb a m y = grind (arith, y)
bytes-mild i _ a m y = absurd m

sink-mild : (i : StreamId) (operation : WritableOperation) (a : writable.Acts) → Mild (OnWritable i operation) → YoungSink a.slots
    → let b : writable.Acts = writable_operation i operation a in YoungSink b.slots × (b.out.effects ≡ a.out.effects)
unfolding writable.set_up_writer
sink-mild i (writes.SetUpWriter w) a m y = (record { state = y.state; queue = y.queue; flight = y.flight; mark = y.mark; size = y.size }, refl)
sink-mild i _ a m y = absurd m

-- an effect leaves it young, and causes such ones

record After (c p : ℕ) (d : Done) : Type 0 where
  streams : AllOf YoungStream d.slots.streams
  pipes : AllOf YoungPipe d.slots.pipes
  signals : AllOf Untriggered d.slots.signals
  count : length d.slots.signals ≡ c
  piped : length d.slots.pipes ≡ p
  mild : Each Mild d.caused

module _ (c p : ℕ) where
  same-after : (es : List Effect) (s z : Slots) → Young c p s → z.streams ≡ s.streams → z.pipes ≡ s.pipes → z.signals ≡ s.signals → Each Mild es → After c p (record { slots = z; caused = es })
  same-after es s z y e f g m = record { streams = rw e y.streams; pipes = rw f y.pipes; signals = rw g y.signals; count = rw g y.count; piped = rw f y.piped; mild = m }

  put-after : (i : StreamId) (s : Slots) (x : Stream) (out : Out) → Young c p s → YoungStream x → out.effects ≡ [] → After c p (put_stream i s x out)
  put-after i s x out y young e = record { streams = all-set YoungStream s.streams i.0 x y.streams young; pipes = y.pipes; signals = y.signals; count = y.count; piped = y.piped; mild = rw e tt }

  add-after : (a : SignalId) (q : PipeId) (s : Slots) → Young c p s → (o : Option pipe.Signal) → slice_get s.signals a.0 ≡ o → After c p (on_signal_at (signal_operation (Add q)) a s o)
  add-after a q s y None e = same-after [] s s y refl refl refl tt
  add-after a q s y (Some x) e = record {
    streams = y.streams;
    pipes = y.pipes;
    signals = all-set Untriggered s.signals a.0 _ y.signals (all-get Untriggered s.signals a.0 x y.signals e);
    count = length-set s.signals a.0 _ ∙ y.count;
    piped = y.piped;
    mild = tt;
  }

  row-after : (e : Effect) (s : Slots) → Young c p s → Mild e → After c p (row e s)
  unfolding row
  row-after (OnReadable i operation) s y m =
      either (λ (d : Done). After c p d) (has_byte i s) (on_byte (byte_readable_operation i operation) i s) (on_readable (readable_operation i operation) i s)
      (λ is. either (λ (d : Done). After c p d) (has_byte i s) (put_byte i s (byte_readable_operation i operation (byte_acts i s))) (nothing s)
      (λ there.
      let old : YoungSource (byte.shown (byte_at i s)) = all-get YoungStream s.streams i.0 (ByteStream (byte_at i s)) y.streams (byte_there (slice_get s.streams i.0) there) in
      let h = bytes-mild i operation (byte_acts i s) m old in
      put-after i s (ByteStream (byte_readable_operation i operation (byte_acts i s)).slots) (byte_readable_operation i operation (byte_acts i s)).out y h.0 h.1)
      (λ absent. same-after [] s s y refl refl refl tt))
      (λ none. either (λ (d : Done). After c p d) (has_readable i s) (put_readable i s (readable_operation i operation (readable_acts i s))) (nothing s)
      (λ there.
      let old : YoungSource (readable_at i s) = all-get YoungStream s.streams i.0 (ReadableStream (readable_at i s)) y.streams (readable_there (slice_get s.streams i.0) there) in
      let h = source-mild i operation (readable_acts i s) m old in
      put-after i s (ReadableStream (readable_operation i operation (readable_acts i s)).slots) (readable_operation i operation (readable_acts i s)).out y h.0 h.1)
      (λ absent. same-after [] s s y refl refl refl tt))
  row-after (OnWritable i operation) s y m =
      either (λ (d : Done). After c p d) (has_writable i s) (put_writable i s (writable_operation i operation (writable_acts i s))) (nothing s)
      (λ there.
      let old : YoungSink (writable_at i s) = all-get YoungStream s.streams i.0 (WritableStream (writable_at i s)) y.streams (writable_there (slice_get s.streams i.0) there) in
      let h = sink-mild i operation (writable_acts i s) m old in
      put-after i s (WritableStream (writable_operation i operation (writable_acts i s)).slots) (writable_operation i operation (writable_acts i s)).out y h.0 h.1)
      (λ absent. same-after [] s s y refl refl refl tt)
  row-after (OnSignal a (Add q)) s y m = add-after a q s y (slice_get s.signals a.0) refl
  row-after (StartAlgorithm i step Now) s y m = same-after (row (StartAlgorithm i step Now) s).caused s (row (StartAlgorithm i step Now) s).slots y refl refl refl (tt, tt)
  row-after (Give gift u) s y m = same-after [] s (row (Give gift u) s).slots y refl refl refl tt
  row-after (Settle q o) s y m = same-after [] s (row (Settle q o) s).slots y refl refl refl tt
  row-after (Queue n) s y m = same-after [] s (row (Queue n) s).slots y refl refl refl tt
  row-after _ s y m = absurd m

row-quiet : (w : Ear) (e : Effect) (s : Slots) → Mild e → unheard w (row e s).slots.promises.events ≡ unheard w s.promises.events
row-quiet w (OnReadable i operation) s m = row-unheard w (OnReadable i operation) s tt
row-quiet w (OnWritable i operation) s m = row-unheard w (OnWritable i operation) s tt
row-quiet w (OnSignal a operation) s m = row-unheard w (OnSignal a operation) s tt
row-quiet w (StartAlgorithm i step start) s m = row-unheard w (StartAlgorithm i step start) s tt
row-quiet w (Give gift u) s m = row-unheard w (Give gift u) s tt
row-quiet w (Settle p o) s m = row-unheard w (Settle p o) s tt
row-quiet w (Queue n) s m = row-unheard w (Queue n) s tt
row-quiet w _ s m = absurd m

row-unposted : (d : PortId) (e : Effect) (s : Slots) → Mild e → posted_in d (row e s).slots.promises.events ≡ posted_in d s.promises.events
row-unposted d (OnReadable i operation) s m = row-posted d (OnReadable i operation) s tt
row-unposted d (OnWritable i operation) s m = row-posted d (OnWritable i operation) s tt
row-unposted d (OnSignal a operation) s m = row-posted d (OnSignal a operation) s tt
row-unposted d (StartAlgorithm i step start) s m = row-posted d (StartAlgorithm i step start) s tt
row-unposted d (Give gift u) s m = row-posted d (Give gift u) s tt
row-unposted d (Settle p o) s m = row-posted d (Settle p o) s tt
row-unposted d (Queue n) s m = row-posted d (Queue n) s tt
row-unposted d _ s m = absurd m

pub fresh-unposted : (d : PortId) (t : Table) → posted_in d (fresh t).events ≡ posted_in d t.events
unfolding fresh
fresh-unposted d t = refl

record Goes (c p : ℕ) (s : Slots) (es : List Effect) : Type 0 where
  young : Young c p s
  mild : Each Mild es

row-goes : (c p : ℕ) (e : Effect) (s : Slots) (es : List Effect) → Goes c p s (e ∷ es) → Goes c p (row e s).slots ((row e s).caused ++ es)
row-goes c p e s es g =
    let a = row-after c p e s g.young g.mild.0 in
    record {
      young = record { streams = a.streams; pipes = a.pipes; signals = a.signals; count = a.count; piped = a.piped; quiet = λ w. row-quiet w e s g.mild.0 ∙ g.young.quiet w; unposted = λ k. row-unposted k e s g.mild.0 ∙ g.young.unposted k };
      mild = each-append Mild (row e s).caused es a.mild g.mild.1;
    }

pub performed-young : (c p : ℕ) (d : Done) → Young c p d.slots → Each Mild d.caused → Young c p (performed d)
performed-young c p d y m = (performed-kept (λ ms s es. Goes c p s es) (λ ms s e es g. row-goes c p e s es g) d (record { young = y; mild = m })).young

-- and so does a call that begins so

with-promises : (c p : ℕ) (s z : Slots) → Young c p s → z.streams ≡ s.streams → z.pipes ≡ s.pipes → z.signals ≡ s.signals → ((w : Ear) → unheard w z.promises.events ≡ unheard w s.promises.events) → ((d : PortId) → posted_in d z.promises.events ≡ posted_in d s.promises.events) → Young c p z
with-promises c p s z y e f g h k = record { streams = rw e y.streams; pipes = rw f y.pipes; signals = rw g y.signals; count = rw g y.count; piped = rw f y.piped; quiet = λ w. h w ∙ y.quiet w; unposted = λ d. k d ∙ y.unposted d }

named-young : (c p : ℕ) (reply : Reply) (s : Slots) → Young c p s → Young c p (named reply s)
named-young c p (ReplyPromise q) s y = with-promises c p s (named (ReplyPromise q) s) y refl refl refl (λ w. watch-unheard w q s.promises) (λ d. watch-posted d q s.promises)
named-young c p _ s y = y

pub called-young : (c p : ℕ) (call : Call) (s : Slots) → Young c p (begin call s).done.slots → Each Mild (begin call s).done.caused → Young c p (after_call call s)
called-young c p call s y m =
    let n = named-young c p (begin call s).reply (performed (begin call s).done) (performed-young c p (begin call s).done y m) in
    with-promises c p (named (begin call s).reply (performed (begin call s).done)) (after_call call s) n refl refl refl (λ w. refl) (λ d. refl)
