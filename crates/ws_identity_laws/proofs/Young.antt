-- A realm in which streams were only made and piped: nothing went on in them.
use Rattle.std.proofs.Common.{◌≡◌, ℕ, zero, suc, ◌+◌, Bool, true, false, ◌&&◌, ◌||◌, nat_lt, List, [], ◌∷◌, ◌++◌, length, is_none, Some, None, slice_get, slice_set, refl, sym, ◌∙◌}
use Rattle.ws_value.specs.declared.ids.StreamId.{StreamId}
use Rattle.ws_steps.specs.declared.calls.{Call.{Call}, Reply.{Reply}, Reply.TheVariants.{Promise}, StartBy.{StartBy}, StartBy.TheVariants.{Now, Later}}
use Rattle.ws_steps.specs.declared.calls.Call.TheVariants.{MakeReadable, MakeBytes, MakeWritable, MakeTransform, Pipe}
use Rattle.ws_steps.specs.declared.byte.ReaderKind.TheVariants.{Default}
use Rattle.ws_steps.specs.declared.effects.Effect.{Effect}
use Rattle.ws_steps.specs.declared.effects.Effect.TheVariants.{Readable as OnReadable, Writable as OnWritable, StartAlgorithm, Give, Settle, Queue, CallHost}
use Rattle.ws_steps.specs.declared.pipes.{Phase.TheVariants.{Flowing}, Prevent.{Prevent}}
use Rattle.ws_steps.specs.declared.readable.{ReadableOperation.{ReadableOperation}, ReadableState.TheVariants.{Readable}}
use Rattle.ws_steps.specs.declared.readable.ReadableOperation.TheVariants as reads
use Rattle.ws_steps.specs.declared.writable.{WritableOperation.{WritableOperation}, WritableState.TheVariants.{Writable}}
use Rattle.ws_steps.specs.declared.writable.WritableOperation.TheVariants as writes
use Rattle.ws_steps.specs.Bytes as byte
use Rattle.ws_steps.specs.Bytes.{shown}
use Rattle.ws_steps.specs.Begun as replying
use Rattle.ws_steps.specs.MakingCalls as making_calls
use Rattle.ws_steps.specs.PipeCalls as pipe_calls
use Rattle.ws_steps.specs.Begun.{Begun}
use Rattle.ws_steps.specs.MakingCalls.{add_stream}
use Rattle.ws_steps.specs.Calls.{begin, named}
use Rattle.ws_steps.specs.Effects.{Out}
use Rattle.ws_steps.specs.Histories.{is_same, along}
use Rattle.ws_steps.specs.Operations.{readable_operation, byte_readable_operation, writable_operation}
use Rattle.ws_steps.specs.Pipes as pipe
use Rattle.ws_steps.specs.Promises.{next_id, fresh}
use Rattle.ws_steps.specs.Readable as readable
use Rattle.ws_steps.specs.ReadableHistory.{accepted_by, accepted}
use Rattle.ws_steps.specs.ReadableLooks as readable_looks
use Rattle.ws_steps.specs.Run.{Entry, Called, Worked, Heard, run, step, reply_to}
use Rattle.ws_steps.specs.Slots.{Slots, Stream, ReadableStream, ByteStream, WritableStream, Done, nothing, has_readable, has_byte, has_source, has_writable, readable_at, byte_at, source_at, writable_at, as_source, is_readable_stream, is_byte_stream, most_streams, put_stream, put_readable, put_byte, put_writable, on_readable, on_byte}
use Rattle.ws_steps.specs.Turns.{row, call_host, performed, moments}
use Rattle.ws_steps.specs.Writable as writable
use Rattle.ws_steps.specs.WritableHistory.{Writes, no_writes, writes_then, effect_writes, run_writes}
use Rattle.ws_steps.specs.WritableLooks as writable_looks
use Rattle.ws_laws.proofs.Lists.{Each, each-append}
use Rattle.ws_laws.proofs.Tables.{either, readable_acts, byte_acts, writable_acts, readable_there, byte_there, writable_there}
use Rattle.ws_laws.proofs.Truth.{and_left, and_right}
use Rattle.ws_laws.proofs.Walker.{performed-goes}
use Rattle.ws_writable_laws.proofs.Runs.{is_history}

-- lists of which each element is so

abbrev pub AllOf : {A : Type 0} → (A → Type 0) → List A → Type 0
AllOf P [] = Unit {0}
AllOf P (x ∷ xs) = P x × AllOf P xs

pub all-get : {A : Type 0} (P : A → Type 0) (xs : List A) (n : ℕ) (x : A) → AllOf P xs → slice_get xs n ≡ Some x → P x
all-get P [] n x a e = cc
all-get P (y ∷ ys) zero x a e = let is : y ≡ x = cc in rw (← is) a.0
all-get P (y ∷ ys) (suc n) x a e = all-get P ys n x a.1 e

all-set : {A : Type 0} (P : A → Type 0) (xs : List A) (n : ℕ) (y : A) → AllOf P xs → P y → AllOf P (slice_set xs n y)
all-set P [] n y a p = tt
all-set P (x ∷ xs) zero y a p = (p, a.1)
all-set P (x ∷ xs) (suc n) y a p = (a.0, all-set P xs n y a.1 p)

pub all-last : {A : Type 0} (P : A → Type 0) (xs : List A) (y : A) → AllOf P xs → P y → AllOf P (xs ++ y ∷ [])
all-last P [] y a p = (p, tt)
all-last P (x ∷ xs) y a p = (a.0, all-last P xs y a.1 p)

-- what is so of each stream is so of one that gives chunks, as it shows itself
pub source-of : (P : Stream → Type 0) (Q : readable.Slots → Type 0) → ((r : readable.Slots) → P (ReadableStream r) → Q r) → ((b : byte.Slots) → P (ByteStream b) → Q (shown b)) → (xs : List Stream) (n : ℕ) → AllOf P xs
    → is_readable_stream (slice_get xs n) || is_byte_stream (slice_get xs n) ≡ true → Q (as_source (slice_get xs n))
source-of P Q f g [] n a there = cc
source-of P Q f g (ReadableStream r ∷ xs) zero a there = f r a.0
source-of P Q f g (ByteStream b ∷ xs) zero a there = g b a.0
source-of P Q f g (WritableStream w ∷ xs) zero a there = cc
source-of P Q f g (x ∷ xs) (suc n) a there = source-of P Q f g xs n a.1 there

-- streams and pipes in which nothing went on

pub record YoungSource (r : readable.Slots) : Type 0 where
  pub state : r.state ≡ Readable
  pub queue : r.queue ≡ []
  pub request : r.close_requested ≡ false

pub record YoungSink (w : writable.Slots) : Type 0 where
  pub state : w.state ≡ Writable
  pub queue : w.queue ≡ []
  pub flight : w.close_in_flight ≡ None

abbrev pub YoungStream : Stream → Type 0
YoungStream (ReadableStream r) = YoungSource r
YoungStream (ByteStream b) = YoungSource (shown b)
YoungStream (WritableStream w) = YoungSink w

pub source-young : (i : StreamId) (s : Slots) → AllOf YoungStream s.streams → has_source i s ≡ true → YoungSource (source_at i s)
source-young i s y there = source-of YoungStream YoungSource (λ r k. k) (λ b k. k) s.streams i.0 y there

pub record YoungPipe (x : pipe.Slots) : Type 0 where
  pub phase : x.phase ≡ Flowing
  pub held : x.held ≡ None

pub record Young (s : Slots) : Type 0 where
  pub streams : AllOf YoungStream s.streams
  pub pipes : AllOf YoungPipe s.pipes

-- the effects of making and piping

abbrev pub Mild : Effect → Type 0
Mild (OnReadable i (reads.InitializeReader p)) = Unit {0}
Mild (OnReadable i reads.Disturb) = Unit {0}
Mild (OnWritable i (writes.SetUpWriter w)) = Unit {0}
Mild (StartAlgorithm i x start) = Unit {0}
Mild (Give gift u) = Unit {0}
Mild (Settle p o) = Unit {0}
Mild (Queue m) = Unit {0}
Mild (CallHost call u) = Unit {0}
Mild _ = ⊥

source-mild : (i : StreamId) (operation : ReadableOperation) (a : readable.Acts) → Mild (OnReadable i operation) → YoungSource a.slots
    → let b : readable.Acts = readable_operation i operation a in YoungSource b.slots × (b.out.effects ≡ a.out.effects)
unfolding readable.reader_generic_initialize readable.disturb
source-mild i (reads.InitializeReader p) a m y = (record { state = y.state; queue = y.queue; request = y.request }, rw y.state refl)
source-mild i reads.Disturb a m y = (record { state = y.state; queue = y.queue; request = y.request }, refl)
source-mild i _ a m y = absurd m

byte-mild : (i : StreamId) (operation : ReadableOperation) (a : byte.Acts) → Mild (OnReadable i operation) → YoungSource (shown a.slots)
    → let b : byte.Acts = byte_readable_operation i operation a in YoungSource (shown b.slots) × (b.out.effects ≡ a.out.effects)
unfolding byte.reader_initialize readable.reader_generic_initialize readable.disturb
byte-mild i (reads.InitializeReader p) a m y = by (is_none a.slots.stream.reader)
  where
    by : (meant : Bool) → let b : byte.Acts = byte.if_meant meant (byte.in_stream (readable.reader_generic_initialize p) (byte.with_slots (record a.slots { reader_kind = Default }) a)) a in
        YoungSource (shown b.slots) × (b.out.effects ≡ a.out.effects)
    by true = (record { state = y.state; queue = y.queue; request = y.request }, rw y.state refl)
    by false = (record { state = y.state; queue = y.queue; request = y.request }, refl)
byte-mild i reads.Disturb a m y = (record { state = y.state; queue = y.queue; request = y.request }, refl)
byte-mild i _ a m y = absurd m

sink-mild : (i : StreamId) (operation : WritableOperation) (a : writable.Acts) → Mild (OnWritable i operation) → YoungSink a.slots
    → let b : writable.Acts = writable_operation i operation a in YoungSink b.slots × (b.out.effects ≡ a.out.effects)
unfolding writable.set_up_writer
sink-mild i (writes.SetUpWriter w) a m y = (record { state = y.state; queue = y.queue; flight = y.flight }, refl)
sink-mild i _ a m y = absurd m

record After (d : Done) : Type 0 where
  streams : AllOf YoungStream d.slots.streams
  pipes : AllOf YoungPipe d.slots.pipes
  mild : Each Mild d.caused

same-after : (es : List Effect) (s z : Slots) → Young s → z.streams ≡ s.streams → z.pipes ≡ s.pipes → Each Mild es → After (record { slots = z; caused = es })
same-after es s z y e f m = record { streams = rw e y.streams; pipes = rw f y.pipes; mild = m }

put-after : (i : StreamId) (s : Slots) (x : Stream) (out : Out) → Young s → YoungStream x → out.effects ≡ [] → After (put_stream i s x out)
put-after i s x out y young e = record { streams = all-set YoungStream s.streams i.0 x y.streams young; pipes = y.pipes; mild = rw e tt }

readable-after : (i : StreamId) (operation : ReadableOperation) (s : Slots) → Young s → Mild (OnReadable i operation) → After (on_readable (readable_operation i operation) i s)
readable-after i operation s y m =
    either After (has_readable i s) (put_readable i s (readable_operation i operation (readable_acts i s))) (nothing s)
    (λ there.
    let old : YoungSource (readable_at i s) = all-get YoungStream s.streams i.0 (ReadableStream (readable_at i s)) y.streams (readable_there (slice_get s.streams i.0) there) in
    let h = source-mild i operation (readable_acts i s) m old in
    put-after i s (ReadableStream (readable_operation i operation (readable_acts i s)).slots) (readable_operation i operation (readable_acts i s)).out y h.0 h.1)
    (λ absent. same-after [] s s y refl refl tt)

byte-after : (i : StreamId) (operation : ReadableOperation) (s : Slots) → Young s → Mild (OnReadable i operation) → After (on_byte (byte_readable_operation i operation) i s)
byte-after i operation s y m =
    either After (has_byte i s) (put_byte i s (byte_readable_operation i operation (byte_acts i s))) (nothing s)
    (λ there.
    let old : YoungSource (shown (byte_at i s)) = all-get YoungStream s.streams i.0 (ByteStream (byte_at i s)) y.streams (byte_there (slice_get s.streams i.0) there) in
    let h = byte-mild i operation (byte_acts i s) m old in
    put-after i s (ByteStream (byte_readable_operation i operation (byte_acts i s)).slots) (byte_readable_operation i operation (byte_acts i s)).out y h.0 h.1)
    (λ absent. same-after [] s s y refl refl tt)

row-after : (e : Effect) (s : Slots) → Young s → Mild e → After (row e s)
unfolding row call_host
row-after (OnReadable i operation) s y m =
    either After (has_byte i s) (on_byte (byte_readable_operation i operation) i s) (on_readable (readable_operation i operation) i s) (λ there. byte-after i operation s y m) (λ isnt. readable-after i operation s y m)
row-after (OnWritable i operation) s y m =
    either After (has_writable i s) (put_writable i s (writable_operation i operation (writable_acts i s))) (nothing s)
    (λ there.
    let old : YoungSink (writable_at i s) = all-get YoungStream s.streams i.0 (WritableStream (writable_at i s)) y.streams (writable_there (slice_get s.streams i.0) there) in
    let h = sink-mild i operation (writable_acts i s) m old in
    put-after i s (WritableStream (writable_operation i operation (writable_acts i s)).slots) (writable_operation i operation (writable_acts i s)).out y h.0 h.1)
    (λ absent. same-after [] s s y refl refl tt)
row-after (StartAlgorithm i x Now) s y m = same-after (row (StartAlgorithm i x Now) s).caused s (row (StartAlgorithm i x Now) s).slots y refl refl (tt, tt)
row-after (StartAlgorithm i x Later) s y m = same-after (row (StartAlgorithm i x Later) s).caused s (row (StartAlgorithm i x Later) s).slots y refl refl (tt, (tt, tt))
row-after (Give gift u) s y m = same-after [] s (row (Give gift u) s).slots y refl refl tt
row-after (Settle q o) s y m = same-after [] s (row (Settle q o) s).slots y refl refl tt
row-after (Queue n) s y m = same-after [] s (row (Queue n) s).slots y refl refl tt
row-after (CallHost call u) s y m = same-after [] s (row (CallHost call u) s).slots y refl refl tt
row-after _ s y m = absurd m

-- and none is told of a writable stream
mild-writes : (j : StreamId) (e : Effect) (s : Slots) → Mild e → effect_writes j e s ≡ no_writes
mild-writes j (OnReadable i operation) s m = refl
mild-writes j (OnWritable i (writes.SetUpWriter w)) s m = either (λ (h : Writes). h ≡ no_writes) (is_same j i) no_writes no_writes (λ e. refl) (λ e. refl)
mild-writes j (StartAlgorithm i x start) s m = refl
mild-writes j (Give gift u) s m = refl
mild-writes j (Settle q o) s m = refl
mild-writes j (Queue n) s m = refl
mild-writes j (CallHost call u) s m = refl
mild-writes j _ s m = absurd m

record Goes (h : Writes) (s : Slots) (es : List Effect) : Type 0 where
  none : h ≡ no_writes
  young : Young s
  mild : Each Mild es

performed-young : (j : StreamId) (d : Done) → Young d.slots → Each Mild d.caused → Young (performed d) × (along no_writes writes_then (effect_writes j) (moments d) ≡ no_writes)
performed-young j d y m =
    let k = performed-goes no_writes writes_then is_history (effect_writes j) Goes
    (λ h s e es k.
    let a = row-after e s k.young k.mild.0 in
    record {
      none = let none = k.none in let told = mild-writes j e s k.mild.0 in rw (none, told) refl;
      young = record { streams = a.streams; pipes = a.pipes };
      mild = each-append Mild (row e s).caused es a.mild k.mild.1;
    }) no_writes d (record { none = refl; young = y; mild = m }) in
    (k.young, sym (is_history.left _) ∙ k.none)

-- calls that make streams or pipes, these without a signal

abbrev pub opens : Call → Bool
opens (MakeReadable mark size start) = true
opens (MakeBytes mark auto start) = true
opens (MakeWritable mark size start) = true
opens (MakeTransform kind m n start) = true
opens (Pipe source dest prevent None) = true
opens _ = false

module _ (s : Slots) (y : Young s) where
  abbrev P : Begun → Type 0
  P b = Young b.done.slots × Each Mild b.done.caused

  rejected : P (replying.rejected s)
  rejected = (record { streams = y.streams; pipes = y.pipes }, (tt, tt))

  starts : (x : StartBy) → Each Mild (making_calls.start_transform (next_id (fresh s.promises)) (record { 0 = length s.streams + 1 }) x ∷ [])
  starts Now = (tt, tt)
  starts Later = (tt, tt)

  pipe_unlocked : (source dest : StreamId) (prevent : Prevent) → P (pipe_calls.pipe_unlocked source dest prevent None s)
  pipe_unlocked source dest prevent =
      either P (readable_looks.is_locked (source_at source s)) (replying.rejected s) _ (λ e. rejected)
      (λ e. either P (writable_looks.is_locked (writable_at dest s)) (replying.rejected s) (pipe_calls.pipe_to source dest prevent None s) (λ f. rejected)
      (λ f. (record { streams = y.streams; pipes = all-last YoungPipe s.pipes _ y.pipes (record { phase = refl; held = refl }) }, (tt, (tt, (tt, (tt, (tt, (tt, tt)))))))))

  call-young : (c : Call) → opens c ≡ true → P (begin c s)
  unfolding begin
  call-young (MakeReadable mark size start) l =
      either P (nat_lt (length s.streams) most_streams) _ _ (λ e. (record { streams = all-last YoungStream s.streams _ y.streams (record { state = refl; queue = refl; request = refl }); pipes = y.pipes }, (tt, tt))) (λ e. (y, tt))
  call-young (MakeBytes mark auto start) l =
      either P (nat_lt (length s.streams) most_streams) _ _ (λ e. (record { streams = all-last YoungStream s.streams _ y.streams (record { state = refl; queue = refl; request = refl }); pipes = y.pipes }, (tt, tt))) (λ e. (y, tt))
  call-young (MakeWritable mark size start) l =
      either P (nat_lt (length s.streams) most_streams) _ _ (λ e. (record { streams = all-last YoungStream s.streams _ y.streams (record { state = refl; queue = refl; flight = refl }); pipes = y.pipes }, (tt, tt))) (λ e. (y, tt))
  call-young (MakeTransform kind m n start) l =
      either P (nat_lt (length s.streams + 1) most_streams) _ _
      (λ e. (
        record {
          streams = all-last YoungStream (s.streams ++ _ ∷ []) _ (all-last YoungStream s.streams _ y.streams (record { state = refl; queue = refl; flight = refl })) (record { state = refl; queue = refl; request = refl });
          pipes = y.pipes;
        },
        (tt, (tt, (tt, (tt, starts start)))),
      )) (λ e. (y, tt))
  call-young (Pipe source dest prevent None) l =
      either P (has_source source s) _ _ (λ e. either P (has_writable dest s) _ _ (λ f. pipe_unlocked source dest prevent) (λ f. (y, tt))) (λ e. (y, tt))
  call-young c l = absurd (cc)

named-young : (reply : Reply) (s : Slots) → Young s → Young (named reply s)
named-young (Promise q) s y = record { streams = y.streams; pipes = y.pipes }
named-young _ s y = y

-- runs of these

abbrev pub all_open : List Entry → Bool
all_open [] = true
all_open (Called c ∷ xs) = opens c && all_open xs
all_open (Worked ∷ xs) = false
all_open (Heard ∷ xs) = false

none-accepted : (i : StreamId) (c : Call) (reply : Reply) → opens c ≡ true → accepted_by i c reply ≡ []
none-accepted i (MakeReadable mark size start) reply l = refl
none-accepted i (MakeBytes mark auto start) reply l = refl
none-accepted i (MakeWritable mark size start) reply l = refl
none-accepted i (MakeTransform kind m n start) reply l = refl
none-accepted i (Pipe source dest prevent None) reply l = refl
none-accepted i c reply l = absurd (cc)

pub record Opened (xs : List Entry) (s : Slots) (i j : StreamId) : Type 0 where
  pub young : Young (run xs s)
  pub none : run_writes j xs s ≡ no_writes
  pub accepted : accepted i xs s ≡ []

pub opened-run : (xs : List Entry) (s : Slots) (i j : StreamId) → all_open xs ≡ true → Young s → Opened xs s i j
opened-run [] s i j l y = record { young = y; none = refl; accepted = refl }
opened-run (Called c ∷ xs) s i j l y =
    let l1 = and_left (opens c) (all_open xs) l in
    let b = call-young s y c l1 in
    let p = performed-young j (begin c s).done b.0 b.1 in
    let n = named-young (begin c s).reply (performed (begin c s).done) p.0 in
    let after : Young (step s (Called c)) = record { streams = n.streams; pipes = n.pipes } in
    let rest = opened-run xs (step s (Called c)) i j (and_right (opens c) (all_open xs) l) after in
    record {
      young = rest.young;
      none = let a = p.1 in let r = rest.none in rw (a, r) refl;
      accepted = let a = none-accepted i c (reply_to c s) l1 in let r = rest.accepted in rw (a, r) refl;
    }
opened-run (Worked ∷ xs) s i j l y = absurd (cc)
opened-run (Heard ∷ xs) s i j l y = absurd (cc)
