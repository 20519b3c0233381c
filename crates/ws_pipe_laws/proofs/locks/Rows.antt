-- The holders of the lock of a stream are as many as its lock says, where what stands on the agenda is counted: each effect keeps that.
use Rattle.ws_steps.specs.declared.effects.Effect.TheVariants.{StartAlgorithm, Give}
use Rattle.ws_laws.proofs.PortDoes.{PortCauses}
use Rattle.ws_value.specs.declared.ids.PortId.{PortId}
use Rattle.ws_steps.specs.declared.calls.StartBy.TheVariants.{Now, Later}
use Rattle.std.proofs.Common.{◌≡◌, ℕ, ◌+◌, ◌≤◌, Bool, true, false, if◌then◌else◌, ◌||◌, is_some, List, [], ◌∷◌, ◌++◌, Option, Some, None, Result, slice_get, refl, sym, ap, subst, ◌∙◌, arith}
use Rattle.ws_value.specs.declared.{ids.PipeId.{PipeId}, ids.PromiseId.{PromiseId}, ids.StreamId.{StreamId}, value.Plain.{Plain}}
use Rattle.ws_steps.specs.declared.byte.ByteOperation.{ByteOperation}
use Rattle.ws_steps.specs.declared.byte.ByteOperation.TheVariants.{InitializeByobReader}
use Rattle.ws_steps.specs.declared.byte.ReaderKind.{ReaderKind}
use Rattle.ws_steps.specs.declared.byte.ReaderKind.TheVariants.{Default, Byob}
use Rattle.ws_steps.specs.declared.effects.Effect.{Effect}
use Rattle.ws_steps.specs.declared.effects.Effect.TheVariants.{Readable as OnReadable, Byte, Writable as OnWritable, Pipe as OnPipe}
use Rattle.ws_steps.specs.declared.pipes.{Phase.{Phase}, PipeOperation.{PipeOperation}, PipeOperation.TheVariants.{ActionSettled}}
use Rattle.ws_steps.specs.declared.readable.{ReadableOperation.{ReadableOperation}, ReadableOperation.TheVariants.{InitializeReader, ReleaseReader}}
use Rattle.ws_steps.specs.declared.transform.TransformId.{TransformId}
use Rattle.ws_steps.specs.declared.writable.{WritableOperation.{WritableOperation}, WritableOperation.TheVariants.{SetUpWriter, ReleaseWriter}, Writer.{Writer}}
use Rattle.ws_steps.specs.Histories.{is_same}
use Rattle.ws_steps.specs.Operations.{readable_operation, byte_readable_operation, byte_operation, writable_operation, pipe_operation}
use Rattle.ws_steps.specs.Bytes as byte
use Rattle.ws_steps.specs.Pipes as pipe
use Rattle.ws_steps.specs.Readable as readable
use Rattle.ws_steps.specs.Readable.{reader_generic_initialize}
use Rattle.ws_steps.specs.Writable as writable
use Rattle.ws_steps.specs.Writable.{set_up_writer}
use Rattle.ws_steps.specs.Slots.{Slots, Stream, ReadableStream, ByteStream, WritableStream, Done, nothing, ends_at, is_readable_stream, is_byte_stream, is_writable_stream, has_readable, has_byte, has_source, has_writable, byte_at, put_readable, put_writable, on_readable, on_byte, on_writable, on_pipe_at}
use Rattle.ws_steps.specs.Turns.{row, on_source}
use Rattle.ws_laws.proofs.Lists.{Each, each-append, each-map}
use Rattle.ws_laws.proofs.PipeDoes.{pipe-causes}
use Rattle.ws_laws.proofs.Apart.{IsApart, IsNoPipe, row-locks, row-pipes, row-streams}
use Rattle.ws_laws.proofs.Causes.{Causes, row-causes}
use Rattle.ws_laws.proofs.Tables.{either, is_same-refl, same_id, readable_acts, byte_acts, writable_acts, readable_there, byte_there, writable_there, on_readable-same, on_readable-other, on_byte-same, on_byte-other, on_byte-look, on_source-byte, on_source-readable, on_source-other, on_writable-same, on_writable-other}
use Rattle.ws_laws.proofs.TransformDoes.{TransformCauses}
use Rattle.ws_writable_laws.proofs.Shape.{all, all-append}
use Rattle.ws_promise_laws.proofs.Acting.{EachWaits, waits-expects}
use Rattle.ws_promise_laws.proofs.Streams.{goes_on}
use Rattle.ws_read_laws.proofs.Line.{has_after, operation-reader}
use Rattle.ws_pipe_laws.specs.pipes.PipeHistory.{is_over}
use Rattle.ws_pipe_laws.specs.pipes.PipeMoves.{starting}
use Rattle.ws_pipe_laws.specs.pipes.PipeReads.{one_if}
use Rattle.ws_pipe_laws.specs.locks.Locks.{Side, Reading, Writing, has_lock, holders, is_locked}
use Rattle.ws_pipe_laws.proofs.locks.Agenda.{takes, goes, reader_takes, byob_takes, reader_goes, writer_takes, writer_goes, IsNoTake, IsCalm, calm_takes, takes_none-all, goes_none-all, TakesFirst, takes_first, takes_behind}
use Rattle.ws_pipe_laws.proofs.locks.ByteReaders.{byte_readable-reader, byte-reader, has_after_bytes}
use Rattle.ws_pipe_laws.proofs.locks.Holding.{pipes-set, row-in_tees}
use Rattle.ws_pipe_laws.proofs.locks.Piping.{pipe_takes, transform_calm, tee_calm, port_calm, operation-goes}
use Rattle.ws_pipe_laws.proofs.locks.Writers.{has_writer, operation-writer}
use Rattle.ws_value.specs.declared.ids.TeeId.{TeeId}
use Rattle.ws_laws.proofs.TeeDoes.{TeeCauses}

-- what an effect causes

transform_takes : (me : TransformId) (writable readable : StreamId) (e : Effect) → TransformCauses me writable readable e → IsNoTake e
transform_takes me writable readable e c = calm_takes e (transform_calm me writable readable e c)

tee_takes : (me : TeeId) (source first second : StreamId) (e : Effect) → TeeCauses me source first second e → IsNoTake e
tee_takes me source first second e c = calm_takes e (tee_calm me source first second e c)

port_takes : (me : PortId) (stream : StreamId) (e : Effect) → PortCauses me stream e → IsNoTake e
port_takes me stream e c = calm_takes e (port_calm me stream e c)

-- none takes a lock
pub take-causes : (e : Effect) → Causes IsNoTake e
take-causes e = grind (arith, pipe_takes, transform_takes, tee_takes, port_takes)

-- and but for operations of pipes none lets go of one
calm-causes : (e : Effect) → IsNoPipe e → Causes IsCalm e
calm-causes e n = grind (arith, n, transform_calm, tee_calm, port_calm)

-- those that take a lock cause nothing

default-initializes : (j : StreamId) (closed : PromiseId) (s : Slots) → (on_readable (reader_generic_initialize closed) j s).caused ≡ []
unfolding reader_generic_initialize
default-initializes j closed s = grind arith

byte-initializes : (kind : ReaderKind) (j : StreamId) (closed : PromiseId) (s : Slots) → (on_byte (byte.reader_initialize kind closed) j s).caused ≡ []
unfolding byte.reader_initialize reader_generic_initialize
byte-initializes kind j closed s = grind arith

initializes : (j : StreamId) (closed : PromiseId) (s : Slots) → (row (OnReadable j (InitializeReader closed)) s).caused ≡ []
unfolding row
initializes j closed s =
    either (λ (d : Done). d.caused ≡ []) (has_byte j s) (on_byte (byte.reader_initialize Default closed) j s) (on_readable (reader_generic_initialize closed) j s)
    (λ is. byte-initializes Default j closed s) (λ n. default-initializes j closed s)

byob-initializes : (j : StreamId) (closed : PromiseId) (s : Slots) → (row (Byte j (InitializeByobReader closed)) s).caused ≡ []
unfolding row
byob-initializes j closed s = byte-initializes Byob j closed s

sets_up : (j : StreamId) (w : Writer) (s : Slots) → (row (OnWritable j (SetUpWriter w)) s).caused ≡ []
unfolding row set_up_writer
sets_up j w s = grind arith

-- so these stand first

pub first-row : (s : Slots) (e : Effect) (es : List Effect) → TakesFirst (e ∷ es) → TakesFirst ((row e s).caused ++ es)
unfolding row
first-row s (OnReadable j (InitializeReader closed)) es t = rw (initializes j closed s) t
first-row s (Byte j (InitializeByobReader closed)) es t = rw (byob-initializes j closed s) t
first-row s (OnWritable j (SetUpWriter w)) es t = rw (sets_up j w s) t
first-row s (StartAlgorithm j step Now) es t = t
first-row s (StartAlgorithm j step Later) es t = (tt, t)
first-row s (Give gift u) es t = t
first-row s e es t = takes_first ((row e s).caused ++ es) (each-append IsNoTake (row e s).caused es (row-causes IsNoTake e s (take-causes e)) (takes_behind e es tt tt t))

-- whether there is such a stream
abbrev pub is_there : Side → Option Stream → Bool
is_there Reading o = is_readable_stream o || is_byte_stream o
is_there Writing o = is_writable_stream o

-- The holders, and those on the agenda that let go, are as many as the lock, and those on the agenda that take it; and these are one at
-- most, and none where there is no such stream
pub record Balanced (d : Side) (i : StreamId) (s : Slots) (es : List Effect) : Type 0 where
  pub even : one_if (is_locked d i s) + all (takes d i) es ≡ holders d i s + all (goes d i) es
  pub few : holders d i s + all (goes d i) es ≤ one_if (is_there d (slice_get s.streams i.0))

-- of the lock of a stream, where these are what is counted before and after

takes_one : (n x t : ℕ) (there l z : Bool) → t ≡ 1 → z ≡ (if there then true else l) → one_if l + (t + n) ≡ x → x ≤ one_if there → one_if z + 0 ≡ one_if l + t
takes_one n x t true true z one e k few = absurd (omega (arith, one, k, few))
takes_one n x t true false z one e k few = rw e (omega (arith, one))
takes_one n x t false l z one e k few = absurd (omega (arith, one, k, few))

goes_one : (n x g : ℕ) (there l z : Bool) → g ≡ 1 → z ≡ (if there then false else l) → one_if l + n ≡ x → x ≤ one_if there → g ≤ x → n ≡ 0 → one_if z + g ≡ one_if l + 0
goes_one n x g true true z one e k few less none = rw e (omega (arith, one))
goes_one n x g true false z one e k few less none = absurd (omega (arith, one, k, less, none))
goes_one n x g false l z one e k few less none = absurd (omega (arith, one, few, less))

stays : (there l z : Bool) → z ≡ (if there then l else l) → one_if z + 0 ≡ one_if l + 0
stays true l z e = rw e refl
stays false l z e = rw e refl

module _ (d : Side) (i : StreamId) where
  -- the lock goes on so, and nothing else that counts is changed
  carried : (s z : Slots) (e : Effect) (es caused : List Effect) → one_if (is_locked d i z) + goes d i e ≡ one_if (is_locked d i s) + takes d i e → is_there d (slice_get z.streams i.0) ≡ is_there d (slice_get s.streams i.0)
      → holders d i z ≡ holders d i s → Each IsCalm caused → Balanced d i s (e ∷ es) → Balanced d i z (caused ++ es)
  carried s z e es caused lock there same calm k =
      let t = takes_none-all d i caused (each-map IsCalm IsNoTake calm_takes caused calm) in
      let g = goes_none-all d i caused calm in
      let m = all-append (takes d i) caused es in
      let n = all-append (goes d i) caused es in
      let even = k.even in
      let few = k.few in
      record {
        even = omega (arith, lock, same, t, g, m, n, even);
        few = rw there (omega (arith, same, g, n, few));
      }

  -- an effect that leaves the streams, the locks and the pipes
  apart : (s : Slots) (e : Effect) (es : List Effect) → takes d i e ≡ 0 → goes d i e ≡ 0 → IsApart e → IsNoPipe e → Balanced d i s (e ∷ es) → Balanced d i (row e s).slots ((row e s).caused ++ es)
  apart s e es t g a n k =
      let streams = row-streams e s a in
      let locks = row-locks e s in
      let pipes = row-pipes e s n in
      carried s (row e s).slots e es (row e s).caused (rw streams (omega (arith, t, g))) (rw streams refl) (rw (locks, pipes, row-in_tees d i e s) refl) (row-causes IsCalm e s (calm-causes e n)) k

-- what is the same of every readable stream is the same after an operation of one
pub readable-same : {A : Type 0} (f : Option Stream → A) (c : A) (i j : StreamId) (operation : readable.Acts → readable.Acts) (s : Slots) (same : Bool) → same ≡ is_same i j → ((r : readable.Slots) → f (Some (ReadableStream r)) ≡ c)
    → f (slice_get (on_readable operation j s).slots.streams i.0) ≡ f (slice_get s.streams i.0)
readable-same f c i j operation s false n is = ap f (on_readable-other operation j s i (sym n))
readable-same f c i j operation s true e is =
    rw (same_id i j (sym e)) (either (λ (d : Done). f (slice_get d.slots.streams j.0) ≡ f (slice_get s.streams j.0)) (has_readable j s) (put_readable j s (operation (readable_acts j s))) (nothing s)
    (λ h.
    let after : f (slice_get (put_readable j s (operation (readable_acts j s))).slots.streams j.0) ≡ c = ap f (rw h at (on_readable-same operation j s h)) ∙ is (operation (readable_acts j s)).slots in
    after ∙ sym (ap f (readable_there (slice_get s.streams j.0) h) ∙ is _))
    (λ h. refl))

pub source-same : {A : Type 0} (f : Option Stream → A) (c : A) (i j : StreamId) (operation : ReadableOperation) (s : Slots) (same : Bool) → same ≡ is_same i j → ((r : readable.Slots) → f (Some (ReadableStream r)) ≡ c)
    → ((b d : byte.Slots) → f (Some (ByteStream b)) ≡ f (Some (ByteStream d))) → f (slice_get (on_source operation j s).slots.streams i.0) ≡ f (slice_get s.streams i.0)
source-same f c i j operation s same e is blind =
    either (λ (d : Done). f (slice_get d.slots.streams i.0) ≡ f (slice_get s.streams i.0)) (has_byte j s) (on_byte (byte_readable_operation j operation) j s) (on_readable (readable_operation j operation) j s)
    (λ k. on_byte-look f blind (byte_readable_operation j operation) j s i same e) (λ n. readable-same f c i j (readable_operation j operation) s same e is)

pub writable-same : {A : Type 0} (f : Option Stream → A) (c : A) (i j : StreamId) (operation : writable.Acts → writable.Acts) (s : Slots) (same : Bool) → same ≡ is_same i j → ((w : writable.Slots) → f (Some (WritableStream w)) ≡ c)
    → f (slice_get (on_writable operation j s).slots.streams i.0) ≡ f (slice_get s.streams i.0)
writable-same f c i j operation s false n is = ap f (on_writable-other operation j s i (sym n))
writable-same f c i j operation s true e is =
    rw (same_id i j (sym e)) (either (λ (d : Done). f (slice_get d.slots.streams j.0) ≡ f (slice_get s.streams j.0)) (has_writable j s) (put_writable j s (operation (writable_acts j s))) (nothing s)
    (λ h.
    let after : f (slice_get (put_writable j s (operation (writable_acts j s))).slots.streams j.0) ≡ c = ap f (rw h at (on_writable-same operation j s h)) ∙ is (operation (writable_acts j s)).slots in
    after ∙ sym (ap f (writable_there (slice_get s.streams j.0) h) ∙ is _))
    (λ h. refl))

-- the reader of a stream after an operation of it
default-after : (i : StreamId) (operation : ReadableOperation) (s : Slots) → let l : Bool = is_locked Reading i s in
    is_locked Reading i (on_readable (readable_operation i operation) i s).slots ≡ (if has_readable i s then has_after operation l else l)
default-after i operation s = by (has_readable i s) refl
  where
    by : (there : Bool) → there ≡ has_readable i s → let l : Bool = is_locked Reading i s in
        is_locked Reading i (on_readable (readable_operation i operation) i s).slots ≡ (if there then has_after operation l else l)
    by true e =
        ap (has_lock Reading) (on_readable-same (readable_operation i operation) i s (sym e))
        ∙ (operation-reader i operation (readable_acts i s) ∙ sym (ap (λ (o : Option Stream). has_after operation (has_lock Reading o)) (readable_there (slice_get s.streams i.0) (sym e))))
    by false e = rw (← e) refl

-- where it has a byte controller
byob-after : (after : Bool → Bool) (i : StreamId) (operation : byte.Acts → byte.Acts) (s : Slots) → is_some (operation (byte_acts i s)).slots.stream.reader ≡ after (is_some (byte_at i s).stream.reader) → let l : Bool = is_locked Reading i s in
    is_locked Reading i (on_byte operation i s).slots ≡ (if has_byte i s then after l else l)
byob-after after i operation s k = by (has_byte i s) refl
  where
    by : (there : Bool) → there ≡ has_byte i s → let l : Bool = is_locked Reading i s in is_locked Reading i (on_byte operation i s).slots ≡ (if there then after l else l)
    by true e =
        ap (has_lock Reading) (on_byte-same operation i s (sym e))
        ∙ (k ∙ sym (ap (λ (o : Option Stream). after (has_lock Reading o)) (byte_there (slice_get s.streams i.0) (sym e))))
    by false e = rw (← e) refl

default_there : (a b : Bool) → b ≡ false → (a || b) ≡ a
default_there true b e = refl
default_there false b e = e

byte_is_there : (a b : Bool) → b ≡ true → (a || b) ≡ true
byte_is_there true b e = refl
byte_is_there false b e = e

reader-after : (i : StreamId) (operation : ReadableOperation) (s : Slots) → let l : Bool = is_locked Reading i s in
    is_locked Reading i (on_source operation i s).slots ≡ (if has_source i s then has_after operation l else l)
reader-after i operation s = by (has_byte i s) refl
  where
    by : (kind : Bool) → has_byte i s ≡ kind → let l : Bool = is_locked Reading i s in is_locked Reading i (on_source operation i s).slots ≡ (if has_source i s then has_after operation l else l)
    by true e =
        let there : has_source i s ≡ true = byte_is_there (has_readable i s) (has_byte i s) e in
        rw (on_source-byte operation i s e, there) (byob-after (has_after operation) i (byte_readable_operation i operation) s (byte_readable-reader i operation (byte_acts i s)) ∙ rw e refl)
    by false e =
        let there : has_source i s ≡ has_readable i s = default_there (has_readable i s) (has_byte i s) e in
        rw (on_source-readable operation i s e, there) (default-after i operation s)

writer-after : (i : StreamId) (operation : WritableOperation) (s : Slots) → let l : Bool = is_locked Writing i s in
    is_locked Writing i (on_writable (writable_operation i operation) i s).slots ≡ (if has_writable i s then has_writer operation l else l)
writer-after i operation s = by (has_writable i s) refl
  where
    by : (there : Bool) → there ≡ has_writable i s → let l : Bool = is_locked Writing i s in
        is_locked Writing i (on_writable (writable_operation i operation) i s).slots ≡ (if there then has_writer operation l else l)
    by true e =
        ap (has_lock Writing) (on_writable-same (writable_operation i operation) i s (sym e))
        ∙ (operation-writer i operation (writable_acts i s) ∙ sym (ap (λ (o : Option Stream). has_writer operation (has_lock Writing o)) (writable_there (slice_get s.streams i.0) (sym e))))
    by false e = rw (← e) refl

-- an operation of a readable stream

reader_turns : (i : StreamId) (operation : ReadableOperation) (n x : ℕ) (there l z : Bool) → z ≡ (if there then has_after operation l else l) → one_if l + (reader_takes i i operation + n) ≡ x → x ≤ one_if there
    → reader_goes i i operation ≤ x → (operation ≡ ReleaseReader → n ≡ 0) → one_if z + reader_goes i i operation ≡ one_if l + reader_takes i i operation
reader_turns i (InitializeReader closed) n x there l z e k few less none = takes_one n x (one_if (is_same i i)) there l z (ap one_if (is_same-refl i)) e k few
reader_turns i ReleaseReader n x there l z e k few less none = goes_one n x (one_if (is_same i i)) there l z (ap one_if (is_same-refl i)) e (omega (arith, k)) few less (none refl)
reader_turns i _ n x there l z e k few less none = stays there l z e

writer_turns : (i : StreamId) (operation : WritableOperation) (n x : ℕ) (there l z : Bool) → z ≡ (if there then has_writer operation l else l) → one_if l + (writer_takes i i operation + n) ≡ x → x ≤ one_if there
    → writer_goes i i operation ≤ x → (operation ≡ ReleaseWriter → n ≡ 0) → one_if z + writer_goes i i operation ≡ one_if l + writer_takes i i operation
writer_turns i (SetUpWriter w) n x there l z e k few less none = takes_one n x (one_if (is_same i i)) there l z (ap one_if (is_same-refl i)) e k few
writer_turns i ReleaseWriter n x there l z e k few less none = goes_one n x (one_if (is_same i i)) there l z (ap one_if (is_same-refl i)) e (omega (arith, k)) few less (none refl)
writer_turns i _ n x there l z e k few less none = stays there l z e

-- of another stream

reader_elsewhere : (i j : StreamId) (operation : ReadableOperation) → is_same i j ≡ false → (reader_takes i j operation ≡ 0) × (reader_goes i j operation ≡ 0)
reader_elsewhere i j operation n = grind (arith, n)

writer_elsewhere : (i j : StreamId) (operation : WritableOperation) → is_same i j ≡ false → (writer_takes i j operation ≡ 0) × (writer_goes i j operation ≡ 0)
writer_elsewhere i j operation n = grind (arith, n)

released_first : (j : StreamId) (operation : ReadableOperation) (es : List Effect) (i : StreamId) → TakesFirst (OnReadable j operation ∷ es) → operation ≡ ReleaseReader → all (takes Reading i) es ≡ 0
released_first j operation es i t e = takes_none-all Reading i es (subst (λ (o : ReadableOperation). TakesFirst (OnReadable j o ∷ es)) e t)

writer_first : (j : StreamId) (operation : WritableOperation) (es : List Effect) (i : StreamId) → TakesFirst (OnWritable j operation ∷ es) → operation ≡ ReleaseWriter → all (takes Writing i) es ≡ 0
writer_first j operation es i t e = takes_none-all Writing i es (subst (λ (o : WritableOperation). TakesFirst (OnWritable j o ∷ es)) e t)

readable_calm : (j : StreamId) (operation : ReadableOperation) (s : Slots) → Each IsCalm (row (OnReadable j operation) s).caused
readable_calm j operation s = row-causes IsCalm (OnReadable j operation) s (calm-causes (OnReadable j operation) tt)

writable_calm : (j : StreamId) (operation : WritableOperation) (s : Slots) → Each IsCalm (row (OnWritable j operation) s).caused
writable_calm j operation s = row-causes IsCalm (OnWritable j operation) s (calm-causes (OnWritable j operation) tt)

-- each leaves who has a stream
readable_holders : (d : Side) (i j : StreamId) (operation : ReadableOperation) (s : Slots) → holders d i (row (OnReadable j operation) s).slots ≡ holders d i s
readable_holders d i j operation s = rw (row-locks (OnReadable j operation) s, row-pipes (OnReadable j operation) s tt, row-in_tees d i (OnReadable j operation) s) refl

writable_holders : (d : Side) (i j : StreamId) (operation : WritableOperation) (s : Slots) → holders d i (row (OnWritable j operation) s).slots ≡ holders d i s
writable_holders d i j operation s = rw (row-locks (OnWritable j operation) s, row-pipes (OnWritable j operation) s tt, row-in_tees d i (OnWritable j operation) s) refl

readable_reading : (i j : StreamId) (operation : ReadableOperation) (s : Slots) (es : List Effect) (same : Bool) → same ≡ is_same i j → TakesFirst (OnReadable j operation ∷ es) → Balanced Reading i s (OnReadable j operation ∷ es)
    → Balanced Reading i (row (OnReadable j operation) s).slots ((row (OnReadable j operation) s).caused ++ es)
unfolding row
readable_reading i j operation s es false n t k =
    let other = on_source-other operation j s i (sym n) in
    let none = reader_elsewhere i j operation (sym n) in
    let a = none.0 in
    let b = none.1 in
    let lock : one_if (is_locked Reading i (row (OnReadable j operation) s).slots) ≡ one_if (is_locked Reading i s) = ap (λ (o : Option Stream). one_if (has_lock Reading o)) other in
    carried Reading i s (row (OnReadable j operation) s).slots (OnReadable j operation) es (row (OnReadable j operation) s).caused
    (omega (arith, lock, a, b)) (ap (is_there Reading) other) (readable_holders Reading i j operation s) (readable_calm j operation s) k
readable_reading i j operation s es true e t k =
    let is : i ≡ j = same_id i j (sym e) in
    let here : Balanced Reading i s (OnReadable i operation ∷ es) = rw (← is) at k in
    let even = here.even in
    let few = here.few in
    let there = source-same (is_there Reading) true i i operation s true (sym (is_same-refl i)) (λ r. refl) (λ b c. refl) in
    rw (← is) (carried Reading i s (row (OnReadable i operation) s).slots (OnReadable i operation) es (row (OnReadable i operation) s).caused
    (reader_turns i operation (all (takes Reading i) es) (holders Reading i s + (reader_goes i i operation + all (goes Reading i) es)) (has_source i s) (is_locked Reading i s) (is_locked Reading i (row (OnReadable i operation) s).slots)
    (reader-after i operation s) even few (omega arith) (released_first j operation es i t))
    there (readable_holders Reading i i operation s) (readable_calm i operation s) here)

-- an operation of a byte controller

-- a BYOB reader comes to a stream that has a byte controller
abbrev pub IsToldBytes : Slots → Effect → Type 0
IsToldBytes s (Byte j (InitializeByobReader closed)) = has_byte j s ≡ true
IsToldBytes s _ = Unit {0}

few_there : (x : ℕ) (any there : Bool) → x ≤ one_if any → there ≡ true → x ≤ one_if there
few_there x true true k e = k
few_there x false true k e = omega (arith, k)
few_there x any false k e = cc

byob_turns : (i : StreamId) (operation : ByteOperation) (s : Slots) (n x : ℕ) (any l z : Bool) → IsToldBytes s (Byte i operation) → z ≡ (if has_byte i s then has_after_bytes i operation l else l) → one_if l + (byob_takes i i operation + n) ≡ x
    → x ≤ one_if any → one_if z + 0 ≡ one_if l + byob_takes i i operation
byob_turns i (InitializeByobReader closed) s n x any l z is e k few =
    takes_one n x (one_if (is_same i i)) (has_byte i s) l z (ap one_if (is_same-refl i)) e k (few_there x any (has_byte i s) few is)
byob_turns i _ s n x any l z is e k few = stays (has_byte i s) l z e

byob_elsewhere : (i j : StreamId) (operation : ByteOperation) → is_same i j ≡ false → byob_takes i j operation ≡ 0
byob_elsewhere i j operation n = grind (arith, n)

byte_calm : (j : StreamId) (operation : ByteOperation) (s : Slots) → Each IsCalm (row (Byte j operation) s).caused
byte_calm j operation s = row-causes IsCalm (Byte j operation) s (calm-causes (Byte j operation) tt)

byte_holders : (d : Side) (i j : StreamId) (operation : ByteOperation) (s : Slots) → holders d i (row (Byte j operation) s).slots ≡ holders d i s
byte_holders d i j operation s = rw (row-locks (Byte j operation) s, row-pipes (Byte j operation) s tt, row-in_tees d i (Byte j operation) s) refl

byte_reading : (i j : StreamId) (operation : ByteOperation) (s : Slots) (es : List Effect) (same : Bool) → same ≡ is_same i j → IsToldBytes s (Byte j operation) → Balanced Reading i s (Byte j operation ∷ es)
    → Balanced Reading i (row (Byte j operation) s).slots ((row (Byte j operation) s).caused ++ es)
unfolding row
byte_reading i j operation s es false n told k =
    let other = on_byte-other (byte_operation j operation) j s i (sym n) in
    let none = byob_elsewhere i j operation (sym n) in
    let lock : one_if (is_locked Reading i (row (Byte j operation) s).slots) ≡ one_if (is_locked Reading i s) = ap (λ (o : Option Stream). one_if (has_lock Reading o)) other in
    carried Reading i s (row (Byte j operation) s).slots (Byte j operation) es (row (Byte j operation) s).caused
    (omega (arith, lock, none)) (ap (is_there Reading) other) (byte_holders Reading i j operation s) (byte_calm j operation s) k
byte_reading i j operation s es true e told k =
    let is : i ≡ j = same_id i j (sym e) in
    let here : Balanced Reading i s (Byte i operation ∷ es) = rw (← is) at k in
    let own = subst (λ (z : StreamId). IsToldBytes s (Byte z operation)) (sym is) told in
    let even = here.even in
    let few = here.few in
    let there = on_byte-look (is_there Reading) (λ b c. refl) (byte_operation i operation) i s i true (sym (is_same-refl i)) in
    rw (← is) (carried Reading i s (row (Byte i operation) s).slots (Byte i operation) es (row (Byte i operation) s).caused
    (byob_turns i operation s (all (takes Reading i) es) (holders Reading i s + (0 + all (goes Reading i) es)) (is_there Reading (slice_get s.streams i.0)) (is_locked Reading i s) (is_locked Reading i (row (Byte i operation) s).slots) own
    (byob-after (has_after_bytes i operation) i (byte_operation i operation) s (byte-reader i operation (byte_acts i s))) even few)
    there (byte_holders Reading i i operation s) (byte_calm i operation s) here)

byte_writing : (i j : StreamId) (operation : ByteOperation) (s : Slots) (es : List Effect) → Balanced Writing i s (Byte j operation ∷ es) → Balanced Writing i (row (Byte j operation) s).slots ((row (Byte j operation) s).caused ++ es)
unfolding row
byte_writing i j operation s es k =
    let lock : is_locked Writing i (row (Byte j operation) s).slots ≡ is_locked Writing i s = on_byte-look (has_lock Writing) (λ b c. refl) (byte_operation j operation) j s i (is_same i j) refl in
    let there = on_byte-look is_writable_stream (λ b c. refl) (byte_operation j operation) j s i (is_same i j) refl in
    carried Writing i s (row (Byte j operation) s).slots (Byte j operation) es (row (Byte j operation) s).caused
    (rw lock refl) there (byte_holders Writing i j operation s) (byte_calm j operation s) k

writable_writing : (i j : StreamId) (operation : WritableOperation) (s : Slots) (es : List Effect) (same : Bool) → same ≡ is_same i j → TakesFirst (OnWritable j operation ∷ es) → Balanced Writing i s (OnWritable j operation ∷ es)
    → Balanced Writing i (row (OnWritable j operation) s).slots ((row (OnWritable j operation) s).caused ++ es)
unfolding row
writable_writing i j operation s es false n t k =
    let other = on_writable-other (writable_operation j operation) j s i (sym n) in
    let none = writer_elsewhere i j operation (sym n) in
    let a = none.0 in
    let b = none.1 in
    let lock : one_if (is_locked Writing i (row (OnWritable j operation) s).slots) ≡ one_if (is_locked Writing i s) = ap (λ (o : Option Stream). one_if (has_lock Writing o)) other in
    carried Writing i s (row (OnWritable j operation) s).slots (OnWritable j operation) es (row (OnWritable j operation) s).caused
    (omega (arith, lock, a, b)) (ap (is_there Writing) other) (writable_holders Writing i j operation s) (writable_calm j operation s) k
writable_writing i j operation s es true e t k =
    let is : i ≡ j = same_id i j (sym e) in
    let here : Balanced Writing i s (OnWritable i operation ∷ es) = rw (← is) at k in
    let even = here.even in
    let few = here.few in
    let there = writable-same is_writable_stream true i i (writable_operation i operation) s true (sym (is_same-refl i)) (λ r. refl) in
    rw (← is) (carried Writing i s (row (OnWritable i operation) s).slots (OnWritable i operation) es (row (OnWritable i operation) s).caused
    (writer_turns i operation (all (takes Writing i) es) (holders Writing i s + (writer_goes i i operation + all (goes Writing i) es)) (has_writable i s) (is_locked Writing i s) (is_locked Writing i (row (OnWritable i operation) s).slots)
    (writer-after i operation s) even few (omega arith) (writer_first j operation es i t))
    there (writable_holders Writing i i operation s) (writable_calm i operation s) here)

readable_writing : (i j : StreamId) (operation : ReadableOperation) (s : Slots) (es : List Effect) → Balanced Writing i s (OnReadable j operation ∷ es)
    → Balanced Writing i (row (OnReadable j operation) s).slots ((row (OnReadable j operation) s).caused ++ es)
unfolding row
readable_writing i j operation s es k =
    let lock : is_locked Writing i (row (OnReadable j operation) s).slots ≡ is_locked Writing i s = source-same (has_lock Writing) false i j operation s (is_same i j) refl (λ r. refl) (λ b c. refl) in
    let there = source-same is_writable_stream false i j operation s (is_same i j) refl (λ r. refl) (λ b c. refl) in
    carried Writing i s (row (OnReadable j operation) s).slots (OnReadable j operation) es (row (OnReadable j operation) s).caused
    (rw lock refl) there (readable_holders Writing i j operation s) (readable_calm j operation s) k

writable_reading : (i j : StreamId) (operation : WritableOperation) (s : Slots) (es : List Effect) → Balanced Reading i s (OnWritable j operation ∷ es)
    → Balanced Reading i (row (OnWritable j operation) s).slots ((row (OnWritable j operation) s).caused ++ es)
unfolding row
writable_reading i j operation s es k =
    let lock : is_locked Reading i (row (OnWritable j operation) s).slots ≡ is_locked Reading i s = writable-same (has_lock Reading) false i j (writable_operation j operation) s (is_same i j) refl (λ r. refl) in
    let there = writable-same (is_there Reading) false i j (writable_operation j operation) s (is_same i j) refl (λ r. refl) in
    carried Reading i s (row (OnWritable j operation) s).slots (OnWritable j operation) es (row (OnWritable j operation) s).caused
    (rw lock refl) there (writable_holders Reading i j operation s) (writable_calm j operation s) k

-- an operation of a pipe

goes_over : (phase : Phase) → goes_on phase ≡ true → is_over phase ≡ false
goes_over phase e = grind (arith, e)

pub ending_over : (p : PipeId) (operation : PipeOperation) (s : Slots) (x : pipe.Slots) (es : List Effect) → slice_get s.pipes p.0 ≡ Some x → EachWaits s (OnPipe p operation ∷ es) → (o : Result Plain Plain) → operation ≡ ActionSettled o
    → is_over x.phase ≡ false
ending_over p operation s x es e waits o is = goes_over x.phase (rw e at (waits-expects p o s es (subst (λ (z : PipeOperation). EachWaits s (OnPipe p z ∷ es)) is waits p)))

module _ (d : Side) (i : StreamId) where
  pipe-none : (p : PipeId) (operation : PipeOperation) → (takes d i (OnPipe p operation) ≡ 0) × (goes d i (OnPipe p operation) ≡ 0)
  pipe-none p operation = grind arith

  pipe-place : (p : PipeId) (operation : PipeOperation) (s : Slots) (es : List Effect) (o : Option pipe.Slots) → slice_get s.pipes p.0 ≡ o → EachWaits s (OnPipe p operation ∷ es) → Balanced d i s (OnPipe p operation ∷ es)
      → let r : Done = on_pipe_at (λ ends. pipe_operation p ends operation) p s o in Balanced d i r.slots (r.caused ++ es)
  pipe-place p operation s es None e waits k =
      let n = pipe-none p operation in
      let t = n.0 in
      let g = n.1 in
      let even = k.even in
      let few = k.few in
      record { even = omega (arith, t, g, even); few = omega (arith, g, few) }
  pipe-place p operation s es (Some x) e waits k =
      let n = pipe-none p operation in
      let t = n.0 in
      let g = n.1 in
      let b : pipe.Acts = pipe_operation p (ends_at x s) operation (starting x s.promises) in
      let same = operation-goes d i p (ends_at x s) operation x s.promises (ending_over p operation s x es e waits) in
      let set = pipes-set d i p.0 s.pipes x b.slots e in
      let causes = (pipe-causes p (ends_at x s) operation (starting x s.promises) tt).1.1 in
      let none = takes_none-all d i b.out.effects (each-map _ IsNoTake (pipe_takes p x.source x.dest) b.out.effects causes) in
      let m = all-append (takes d i) b.out.effects es in
      let l = all-append (goes d i) b.out.effects es in
      let even = k.even in
      let few = k.few in
      record {
        even = omega (arith, t, g, same, set, none, m, l, even);
        few = omega (arith, t, g, same, set, l, few);
      }

  quiet-row : (s : Slots) (e : Effect) (es : List Effect) → IsApart e → IsNoPipe e → Balanced d i s (e ∷ es) → Balanced d i (row e s).slots ((row e s).caused ++ es)
  quiet-row s e es a n k = apart d i s e es (none_takes e a) (none_goes e a) a n k
    where
      none_takes : (e : Effect) → IsApart e → takes d i e ≡ 0
      none_takes e a = grind (arith, a)

      none_goes : (e : Effect) → IsApart e → goes d i e ≡ 0
      none_goes e a = grind (arith, a)

readable-row : (d : Side) (i j : StreamId) (operation : ReadableOperation) (s : Slots) (es : List Effect) → TakesFirst (OnReadable j operation ∷ es) → Balanced d i s (OnReadable j operation ∷ es)
    → Balanced d i (row (OnReadable j operation) s).slots ((row (OnReadable j operation) s).caused ++ es)
readable-row Reading i j operation s es t k = readable_reading i j operation s es (is_same i j) refl t k
readable-row Writing i j operation s es t k = readable_writing i j operation s es k

byte-row : (d : Side) (i j : StreamId) (operation : ByteOperation) (s : Slots) (es : List Effect) → IsToldBytes s (Byte j operation) → Balanced d i s (Byte j operation ∷ es) → Balanced d i (row (Byte j operation) s).slots ((row (Byte j operation) s).caused ++ es)
byte-row Reading i j operation s es told k = byte_reading i j operation s es (is_same i j) refl told k
byte-row Writing i j operation s es told k = byte_writing i j operation s es k

writable-row : (d : Side) (i j : StreamId) (operation : WritableOperation) (s : Slots) (es : List Effect) → TakesFirst (OnWritable j operation ∷ es) → Balanced d i s (OnWritable j operation ∷ es)
    → Balanced d i (row (OnWritable j operation) s).slots ((row (OnWritable j operation) s).caused ++ es)
writable-row Reading i j operation s es t k = writable_reading i j operation s es k
writable-row Writing i j operation s es t k = writable_writing i j operation s es (is_same i j) refl t k

pub row-balanced : (d : Side) (i : StreamId) (s : Slots) (e : Effect) (es : List Effect) → TakesFirst (e ∷ es) → IsToldBytes s e → EachWaits s (e ∷ es) → Balanced d i s (e ∷ es) → Balanced d i (row e s).slots ((row e s).caused ++ es)
unfolding row
row-balanced d i s (OnReadable j operation) es t told w k = readable-row d i j operation s es t k
row-balanced d i s (Byte j operation) es t told w k = byte-row d i j operation s es told k
row-balanced d i s (OnWritable j operation) es t told w k = writable-row d i j operation s es t k
row-balanced d i s (OnPipe p operation) es t told w k = pipe-place d i p operation s es (slice_get s.pipes p.0) refl w k
row-balanced d i s e es t told w k = quiet-row d i s e es tt tt k
