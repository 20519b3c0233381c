-- A stream without a reader has no read requests, and one that a pipe has none but the pipe's: each effect keeps that. A read stands first
-- on the agenda, and is of who has the stream.
use Rattle.ws_value.specs.declared.ids.PortId.{PortId}
use Rattle.ws_laws.proofs.PortDoes.{PortCauses}
use Rattle.std.proofs.Common.{◌≡◌, ℕ, ◌+◌, ◌≤◌, zero, suc, Bool, true, false, nat_eq, is_some, if◌then◌else◌, List, [], ◌∷◌, ◌++◌, length, ◌&&◌, Option, Some, None, slice_get, slice_set, refl, sym, ap, subst, ◌∙◌, arith}
use Rattle.ws_value.specs.declared.{ids.PipeId.{PipeId}, ids.StreamId.{StreamId}}
use Rattle.ws_steps.specs.declared.byte.{ByteOperation.{ByteOperation}, ByteOperation.TheVariants.{InitializeByobReader, PullInto, Respond}, ReaderKind.TheVariants.{Default, Byob}}
use Rattle.ws_steps.specs.declared.effects.{Effect.{Effect}, Effect.TheVariants.{Readable as OnReadable, Byte, Writable as OnWritable, Pipe as OnPipe, Tee as OnTee}}
use Rattle.ws_steps.specs.declared.pipes.{Phase.TheVariants.{Flowing}, PipeOperation.{PipeOperation}}
use Rattle.ws_steps.specs.declared.readable.{ReadRequest.{ReadRequest}, ReadRequest.TheVariants.{Promise, Pipe as PipeRequest, Tee as TeeRequest}, ReadableOperation.{ReadableOperation}, ReadableOperation.TheVariants.{InitializeReader, ReleaseReader, Read, Enqueue, Close, Error}}
use Rattle.ws_steps.specs.declared.transform.TransformId.{TransformId}
use Rattle.ws_steps.specs.declared.writable.WritableOperation.{WritableOperation}
use Rattle.ws_steps.specs.Histories.{is_same}
use Rattle.ws_steps.specs.Operations.{readable_operation, byte_readable_operation, byte_operation, writable_operation, pipe_operation}
use Rattle.ws_steps.specs.Bytes as byte
use Rattle.ws_steps.specs.Pipes as pipe
use Rattle.ws_steps.specs.Readable as readable
use Rattle.ws_steps.specs.Slots.{Slots, Stream, ReadableStream, ByteStream, WritableStream, Done, ends_at, has_readable, has_byte, has_writable, readable_at, byte_at, on_readable, on_byte, on_writable, on_pipe_at, as_pipe}
use Rattle.ws_steps.specs.Turns.{row, on_source}
use Rattle.ws_steps.proofs.PromiseLaws.{slice_get-set_other}
use Rattle.ws_laws.proofs.Lists.{Each, each-append}
use Rattle.ws_laws.proofs.PipeDoes.{pipe-causes}
use Rattle.ws_laws.proofs.Apart.{IsApart, IsNoPipe, IsNoTee, row-pipes, row-streams}
use Rattle.ws_laws.proofs.Causes.{Causes, row-causes}
use Rattle.ws_laws.proofs.Tables.{either, is_same-refl, same_id, eq_numbers, unequal_numbers, readable_acts, byte_acts, readable_there, byte_there, on_readable-same, on_byte-same, on_byte-other, on_source-other, on_writable-same, on_writable-other}
use Rattle.ws_laws.proofs.TransformDoes.{TransformCauses}
use Rattle.ws_read_laws.proofs.Line.{operation-reader}
use Rattle.ws_pipe_laws.specs.pipes.PipeMoves.{starting}
use Rattle.ws_pipe_laws.specs.pipes.PipeReads.{one_if, is_of}
use Rattle.ws_pipe_laws.specs.locks.Locks.{Reading, has_lock, holders, holds, in_pipes, in_tees, is_locked}
use Rattle.ws_pipe_laws.proofs.locks.Agenda.{IsNoTake, IsNoStart, TakesFirst, takes_none, takes_none-all, takes_behind}
use Rattle.ws_pipe_laws.proofs.locks.ByteReaders.{Look, look, byte_readable-reader, byte-reader}
use Rattle.ws_pipe_laws.proofs.locks.Holding.{pipes-there, pipes-two, tees-there}
use Rattle.ws_pipe_laws.proofs.locks.PipeReads.{IsNoRead, NoRead, OneRead, Reads, operation-reads}
use Rattle.ws_pipe_laws.proofs.locks.ReaderKinds.{defaults, byobs, holders-split, HasKind, byte_look, KindHeld, OfKind, MeantAt}
use Rattle.ws_pipe_laws.proofs.locks.Requests.{count, asked, asked_into, operation-few, release-none, byte_readable-few, byte-few, byte_release-none}
use Rattle.ws_pipe_laws.proofs.locks.Rows.{is_there, Balanced}
use Rattle.std.specs.Prelude.{not, Ok, Err}
use Rattle.ws_value.specs.declared.ids.TeeId.{TeeId}
use Rattle.ws_value.specs.declared.value.{Plain.{Plain}, Value.{Value}}
use Rattle.ws_steps.specs.declared.tee.Half.{Half}
use Rattle.ws_steps.specs.declared.tee.TeeOperation.{TeeOperation}
use Rattle.ws_steps.specs.declared.tee.TeeOperation.TheVariants as tees
use Rattle.ws_steps.specs.declared.tee.TeePhase.{TeePhase}
use Rattle.ws_steps.specs.declared.tee.TeePhase.TheVariants.{Resting, Reading as TeeReading, Over}
use Rattle.ws_steps.specs.Operations.{tee_operation}
use Rattle.ws_steps.specs.Slots.{found, on_tee_at}
use Rattle.ws_steps.specs.Tee as tee
use Rattle.ws_laws.proofs.TeeDoes.{tee-causes}

-- the read requests of a stream
abbrev pub requests_at : Option Stream → List ReadRequest
requests_at None = []
requests_at (Some (ReadableStream r)) = r.requests
requests_at (Some (ByteStream b)) = b.stream.requests
requests_at (Some (WritableStream w)) = []

-- each request, and each that isn't the pipe's

abbrev pub any : ReadRequest → ℕ
any request = 1

abbrev pub other : PipeId → ReadRequest → ℕ
other p (Promise q) = 1
other p (PipeRequest q) = if nat_eq p.0 q.0 then 0 else 1
other p (TeeRequest t) = 1

-- A stream without a reader has no requests, and one that a pipe has none but the pipe's
pub record Queued (i : StreamId) (o : Option Stream) (pipes : List pipe.Slots) : Type 0 where
  pub free : has_lock Reading o ≡ false → count any (requests_at o) ≤ 0
  pub own : (p : PipeId) → holds Reading i (as_pipe (slice_get pipes p.0)) ≡ true → count (other p) (requests_at o) ≤ 0

-- a read stands first
abbrev pub ReadsFirst : List Effect → Type 0
ReadsFirst [] = Unit {0}
ReadsFirst (e ∷ es) = Each IsNoRead es

-- where a pipe has the stream, the request is the pipe's
abbrev pub IsOwn : StreamId → Slots → ReadRequest → Type 0
IsOwn i s request = (p : PipeId) → holds Reading i (as_pipe (slice_get s.pipes p.0)) ≡ true → other p request ≡ 0

-- a read into a room is asked for a promise, by a BYOB reader, and the room has room for the least
pub record AsksInto (i : StreamId) (room : List ℕ) (element minimum : ℕ) (request : ReadRequest) (s : Slots) : Type 0 where
  pub some : 1 ≤ byobs i s
  pub own : IsOwn i s request
  pub promised : (p : PipeId) → is_of p request ≡ 0
  pub least : byte.is_least (length room) element minimum ≡ true

-- a read is asked by who has the stream, and a response doesn't throw
abbrev pub Asks : Slots → List Effect → Type 0
Asks s [] = Unit {0}
Asks s (OnReadable i (Read request) ∷ es) = (1 ≤ defaults i s) × IsOwn i s request
Asks s (Byte i (PullInto room element minimum request) ∷ es) = AsksInto i room element minimum request s
Asks s (Byte i (Respond b) ∷ es) = byte.may_respond (length b) (byte_at i s) ≡ true
Asks s (e ∷ es) = Unit {0}

-- where no read stands
pub none-first : (es : List Effect) → Each IsNoRead es → ReadsFirst es
none-first [] n = tt
none-first (e ∷ es) n = n.1

pub none-asks : (s : Slots) (es : List Effect) → Each IsNoRead es → Asks s es
none-asks s [] n = tt
none-asks s (e ∷ es) n = by e n.0
  where
    by : (e : Effect) → IsNoRead e → Asks s (e ∷ es)
    by e k = grind (arith, k)

-- who has a stream where no operation that takes one stands has locked it

locked_by : (l : Bool) → 1 ≤ one_if l → l ≡ true
locked_by true e = refl
locked_by false e = absurd (omega (arith, e))

pub has-locked : (i : StreamId) (s : Slots) (e : Effect) (es : List Effect) → IsNoTake e → IsNoStart e → TakesFirst (e ∷ es) → Balanced Reading i s (e ∷ es) → 1 ≤ holders Reading i s → is_locked Reading i s ≡ true
has-locked i s e es n m t k h =
    let a = takes_none Reading i e n in
    let b = takes_none-all Reading i es (takes_behind e es n m t) in
    let even = k.even in
    locked_by (is_locked Reading i s) (omega (arith, a, b, even, h))

pub locked-there : (o : Option Stream) → has_lock Reading o ≡ true → is_there Reading o ≡ true
locked-there o e = grind (arith, e)

-- an operation of the stream

free-after : (i : StreamId) (operation : ReadableOperation) (a : readable.Acts) → ((request : ReadRequest) → operation ≡ Read request → is_some a.slots.reader ≡ true) → (is_some a.slots.reader ≡ false → count any a.slots.requests ≤ 0)
    → is_some (readable_operation i operation a).slots.reader ≡ false → count any (readable_operation i operation a).slots.requests ≤ 0
free-after i (InitializeReader closed) a asks free z = let now = operation-reader i (InitializeReader closed) a in absurd (cc)
free-after i ReleaseReader a asks free z = by (is_some a.slots.reader) refl
  where
    by : (l : Bool) → l ≡ is_some a.slots.reader → count any (readable_operation i ReleaseReader a).slots.requests ≤ 0
    by true e = let n = release-none any i a (sym e) in omega (arith, n)
    by false e = let n = operation-few any i ReleaseReader a in let f = free (sym e) in omega (arith, n, f)
free-after i (Read request) a asks free z = let now = operation-reader i (Read request) a in let there = asks request refl in absurd (cc)
free-after i operation a asks free z =
    let now = operation-reader i operation a in
    let few = operation-few any i operation a in
    let before = free (sym now ∙ z) in omega (arith, few, before)

own-after : (i : StreamId) (operation : ReadableOperation) (a : readable.Acts) (p : PipeId) → asked (other p) operation ≡ 0 → count (other p) a.slots.requests ≤ 0 → count (other p) (readable_operation i operation a).slots.requests ≤ 0
own-after i operation a p none few = let n = operation-few (other p) i operation a in omega (arith, n, none, few)

-- of each operation

asked-none : (s : Slots) (i : StreamId) (operation : ReadableOperation) (es : List Effect) (p : PipeId) → Asks s (OnReadable i operation ∷ es) → holds Reading i (as_pipe (slice_get s.pipes p.0)) ≡ true → asked (other p) operation ≡ 0
asked-none s i (Read request) es p asks h = asks.1 p h
asked-none s i _ es p asks h = refl

read-has : (s : Slots) (i : StreamId) (operation : ReadableOperation) (es : List Effect) → Asks s (OnReadable i operation ∷ es) → (request : ReadRequest) → operation ≡ Read request → 1 ≤ holders Reading i s
read-has s i operation es asks request e = let some = (subst (λ (z : ReadableOperation). Asks s (OnReadable i z ∷ es)) e asks).0 in let split = holders-split i s in omega (arith, some, split)

-- and of an operation of a byte controller

into-asks : (s : Slots) (i : StreamId) (operation : ByteOperation) (es : List Effect) (p : PipeId) → Asks s (Byte i operation ∷ es) → holds Reading i (as_pipe (slice_get s.pipes p.0)) ≡ true → asked_into (other p) i operation ≡ 0
into-asks s i (PullInto room element minimum request) es p asks h = asks.own p h
into-asks s i _ es p asks h = refl

into-locked : (s : Slots) (i : StreamId) (operation : ByteOperation) (es : List Effect) → TakesFirst (Byte i operation ∷ es) → Balanced Reading i s (Byte i operation ∷ es) → Asks s (Byte i operation ∷ es)
    → (room : List ℕ) (element minimum : ℕ) (request : ReadRequest) → operation ≡ PullInto room element minimum request → is_locked Reading i s ≡ true
into-locked s i operation es t k asks room element minimum request e =
    let some = (subst (λ (z : ByteOperation). Asks s (Byte i z ∷ es)) e asks).some in
    let split = holders-split i s in
    has-locked i s (Byte i (PullInto room element minimum request)) es tt tt (subst (λ (z : ByteOperation). TakesFirst (Byte i z ∷ es)) e t) (subst (λ (z : ByteOperation). Balanced Reading i s (Byte i z ∷ es)) e k) (omega (arith, some, split))

pub read-locked : (s : Slots) (i : StreamId) (operation : ReadableOperation) (es : List Effect) → TakesFirst (OnReadable i operation ∷ es) → Balanced Reading i s (OnReadable i operation ∷ es) → Asks s (OnReadable i operation ∷ es)
    → (request : ReadRequest) → operation ≡ Read request → is_locked Reading i s ≡ true
read-locked s i operation es t k asks request e =
    has-locked i s (OnReadable i (Read request)) es tt tt (subst (λ (z : ReadableOperation). TakesFirst (OnReadable i z ∷ es)) e t) (subst (λ (z : ReadableOperation). Balanced Reading i s (OnReadable i z ∷ es)) e k)
    (read-has s i operation es asks request e)

default-queued : (s : Slots) (i : StreamId) (operation : ReadableOperation) (es : List Effect) → TakesFirst (OnReadable i operation ∷ es) → Balanced Reading i s (OnReadable i operation ∷ es) → Asks s (OnReadable i operation ∷ es)
    → Queued i (slice_get s.streams i.0) s.pipes → Queued i (slice_get (on_readable (readable_operation i operation) i s).slots.streams i.0) s.pipes
default-queued s i operation es t k asks q = by (has_readable i s) refl
  where
    by : (there : Bool) → there ≡ has_readable i s → Queued i (slice_get (on_readable (readable_operation i operation) i s).slots.streams i.0) s.pipes
    by false e = rw (← e) q
    by true e =
        let now = on_readable-same (readable_operation i operation) i s (sym e) in
        let before = readable_there (slice_get s.streams i.0) (sym e) in
        let z : Queued i (Some (ReadableStream (readable_at i s))) s.pipes = subst (λ (o : Option Stream). Queued i o s.pipes) before q in
        rw now (record {
          free = λ f. free-after i operation (readable_acts i s) (λ request r. sym (ap (has_lock Reading) before) ∙ read-locked s i operation es t k asks request r) z.free f;
          own = λ p h. own-after i operation (readable_acts i s) p (asked-none s i operation es p asks h) (z.own p h);
        })

-- of a byte stream

free-bytes : (i : StreamId) (operation : ReadableOperation) (a : byte.Acts) → a.out.effects ≡ [] → ((request : ReadRequest) → operation ≡ Read request → is_some a.slots.stream.reader ≡ true)
    → (is_some a.slots.stream.reader ≡ false → count any a.slots.stream.requests ≤ 0)
    → is_some (byte_readable_operation i operation a).slots.stream.reader ≡ false → count any (byte_readable_operation i operation a).slots.stream.requests ≤ 0
free-bytes i (InitializeReader closed) a out asks free z = let now = byte_readable-reader i (InitializeReader closed) a in absurd (cc)
free-bytes i ReleaseReader a out asks free z = by (is_some a.slots.stream.reader) refl
  where
    by : (l : Bool) → l ≡ is_some a.slots.stream.reader → count any (byte_readable_operation i ReleaseReader a).slots.stream.requests ≤ 0
    by true e = let n = byte_release-none any i a (sym e) in omega (arith, n)
    by false e = let n = byte_readable-few any i ReleaseReader a out in let f = free (sym e) in omega (arith, n, f)
free-bytes i (Read request) a out asks free z = let now = byte_readable-reader i (Read request) a in let there = asks request refl in absurd (cc)
free-bytes i operation a out asks free z =
    let now = byte_readable-reader i operation a in
    let few = byte_readable-few any i operation a out in
    let before = free (sym now ∙ z) in omega (arith, few, before)

free-own : (i : StreamId) (operation : ByteOperation) (a : byte.Acts) → a.out.effects ≡ []
    → ((room : List ℕ) (element minimum : ℕ) (request : ReadRequest) → operation ≡ PullInto room element minimum request → is_some a.slots.stream.reader ≡ true)
    → (is_some a.slots.stream.reader ≡ false → count any a.slots.stream.requests ≤ 0)
    → is_some (byte_operation i operation a).slots.stream.reader ≡ false → count any (byte_operation i operation a).slots.stream.requests ≤ 0
free-own i (InitializeByobReader closed) a out asks free z = let now = byte-reader i (InitializeByobReader closed) a in absurd (cc)
free-own i (PullInto room element minimum request) a out asks free z =
    let now = byte-reader i (PullInto room element minimum request) a in let there = asks room element minimum request refl in absurd (cc)
free-own i operation a out asks free z =
    let now = byte-reader i operation a in
    let few = byte-few any i operation a out in
    let before = free (sym now ∙ z) in omega (arith, few, before)

source-queued : (s : Slots) (i : StreamId) (operation : ReadableOperation) (es : List Effect) → TakesFirst (OnReadable i operation ∷ es) → Balanced Reading i s (OnReadable i operation ∷ es) → Asks s (OnReadable i operation ∷ es)
    → has_byte i s ≡ true → Queued i (slice_get s.streams i.0) s.pipes → Queued i (slice_get (on_byte (byte_readable_operation i operation) i s).slots.streams i.0) s.pipes
source-queued s i operation es t k asks there q =
    let now = on_byte-same (byte_readable_operation i operation) i s there in
    let before = byte_there (slice_get s.streams i.0) there in
    let z : Queued i (Some (ByteStream (byte_at i s))) s.pipes = subst (λ (o : Option Stream). Queued i o s.pipes) before q in
    rw now (record {
      free = λ f. free-bytes i operation (byte_acts i s) refl (λ request r. sym (ap (has_lock Reading) before) ∙ read-locked s i operation es t k asks request r) z.free f;
      own = λ p h. let n = byte_readable-few (other p) i operation (byte_acts i s) refl in let none = asked-none s i operation es p asks h in let few = z.own p h in omega (arith, n, none, few);
    })

own-queued : (s : Slots) (i : StreamId) (operation : ByteOperation) (es : List Effect) → TakesFirst (Byte i operation ∷ es) → Balanced Reading i s (Byte i operation ∷ es) → Asks s (Byte i operation ∷ es)
    → Queued i (slice_get s.streams i.0) s.pipes → Queued i (slice_get (on_byte (byte_operation i operation) i s).slots.streams i.0) s.pipes
own-queued s i operation es t k asks q = by (has_byte i s) refl
  where
    by : (there : Bool) → there ≡ has_byte i s → Queued i (slice_get (on_byte (byte_operation i operation) i s).slots.streams i.0) s.pipes
    by false e = rw (← e) q
    by true e =
        let now = on_byte-same (byte_operation i operation) i s (sym e) in
        let before = byte_there (slice_get s.streams i.0) (sym e) in
        let z : Queued i (Some (ByteStream (byte_at i s))) s.pipes = subst (λ (o : Option Stream). Queued i o s.pipes) before q in
        rw now (record {
          free = λ f. free-own i operation (byte_acts i s) refl (λ room element minimum request r. sym (ap (has_lock Reading) before) ∙ into-locked s i operation es t k asks room element minimum request r) z.free f;
          own = λ p h. let n = byte-few (other p) i operation (byte_acts i s) refl in let none = into-asks s i operation es p asks h in let few = z.own p h in omega (arith, n, none, few);
        })

byte-queued : (s : Slots) (i j : StreamId) (operation : ByteOperation) (es : List Effect) (same : Bool) → same ≡ is_same i j → TakesFirst (Byte j operation ∷ es) → Balanced Reading i s (Byte j operation ∷ es) → Asks s (Byte j operation ∷ es)
    → Queued i (slice_get s.streams i.0) s.pipes → Queued i (slice_get (on_byte (byte_operation j operation) j s).slots.streams i.0) s.pipes
byte-queued s i j operation es false n t k asks q = rw (on_byte-other (byte_operation j operation) j s i (sym n)) q
byte-queued s i j operation es true e t k asks q =
    let is : i ≡ j = same_id i j (sym e) in
    subst (λ (z : StreamId). TakesFirst (Byte z operation ∷ es) → Balanced Reading i s (Byte z operation ∷ es) → Asks s (Byte z operation ∷ es) → Queued i (slice_get (on_byte (byte_operation z operation) z s).slots.streams i.0) s.pipes) is
    (λ t k asks. own-queued s i operation es t k asks q) t k asks

here-queued : (s : Slots) (i : StreamId) (operation : ReadableOperation) (es : List Effect) → TakesFirst (OnReadable i operation ∷ es) → Balanced Reading i s (OnReadable i operation ∷ es) → Asks s (OnReadable i operation ∷ es)
    → Queued i (slice_get s.streams i.0) s.pipes → Queued i (slice_get (on_source operation i s).slots.streams i.0) s.pipes
here-queued s i operation es t k asks q =
    either (λ (d : Done). Queued i (slice_get d.slots.streams i.0) s.pipes) (has_byte i s) (on_byte (byte_readable_operation i operation) i s) (on_readable (readable_operation i operation) i s)
    (λ there. source-queued s i operation es t k asks there q) (λ none. default-queued s i operation es t k asks q)

readable-queued : (s : Slots) (i j : StreamId) (operation : ReadableOperation) (es : List Effect) (same : Bool) → same ≡ is_same i j → TakesFirst (OnReadable j operation ∷ es) → Balanced Reading i s (OnReadable j operation ∷ es) → Asks s (OnReadable j operation ∷ es)
    → Queued i (slice_get s.streams i.0) s.pipes → Queued i (slice_get (on_source operation j s).slots.streams i.0) s.pipes
readable-queued s i j operation es false n t k asks q = rw (on_source-other operation j s i (sym n)) q
readable-queued s i j operation es true e t k asks q =
    let is : i ≡ j = same_id i j (sym e) in
    subst (λ (z : StreamId). TakesFirst (OnReadable z operation ∷ es) → Balanced Reading i s (OnReadable z operation ∷ es) → Asks s (OnReadable z operation ∷ es) → Queued i (slice_get (on_source operation z s).slots.streams i.0) s.pipes) is
    (λ t k asks. here-queued s i operation es t k asks q) t k asks

writable-queued : (s : Slots) (i j : StreamId) (operation : WritableOperation) (same : Bool) → same ≡ is_same i j → Queued i (slice_get s.streams i.0) s.pipes
    → Queued i (slice_get (on_writable (writable_operation j operation) j s).slots.streams i.0) s.pipes
writable-queued s i j operation false n q = rw (on_writable-other (writable_operation j operation) j s i (sym n)) q
writable-queued s i j operation true e q = by (has_writable i s) refl
  where
    is : i ≡ j
    is = same_id i j (sym e)

    by : (there : Bool) → there ≡ has_writable i s → Queued i (slice_get (on_writable (writable_operation j operation) j s).slots.streams i.0) s.pipes
    by false n = rw (← is, ← n) q
    by true n = rw (← is, on_writable-same (writable_operation i operation) i s (sym n)) (record { free = λ f. omega arith; own = λ p h. omega arith })

-- an operation of a pipe

pub holds_before : (b c : Bool) (n : ℕ) → one_if b + n ≡ one_if c → b ≡ true → c ≡ true
holds_before true true n e h = refl
holds_before true false n e h = absurd (omega (arith, e))
holds_before false c n e h = absurd (cc)

pub place_same : (ps : List pipe.Slots) (n : ℕ) (x y : pipe.Slots) → slice_get ps n ≡ Some x → slice_get (slice_set ps n y) n ≡ Some y
place_same [] n x y e = cc
place_same (z ∷ ps) zero x y e = refl
place_same (z ∷ ps) (suc n) x y e = place_same ps n x y e

pub pipe-queued : (i : StreamId) (o : Option Stream) (ps : List pipe.Slots) (p : PipeId) (x y : pipe.Slots) → slice_get ps p.0 ≡ Some x → (holds Reading i y ≡ true → holds Reading i x ≡ true) → Queued i o ps → Queued i o (slice_set ps p.0 y)
pipe-queued i o ps p x y e before k = record { free = k.free; own = λ q h. k.own q (by q (nat_eq q.0 p.0) refl h) }
  where
    by : (q : PipeId) (same : Bool) → same ≡ nat_eq q.0 p.0 → holds Reading i (as_pipe (slice_get (slice_set ps p.0 y) q.0)) ≡ true → holds Reading i (as_pipe (slice_get ps q.0)) ≡ true
    by q false n h = let same : slice_get (slice_set ps p.0 y) q.0 ≡ slice_get ps q.0 = slice_get-set_other ps p.0 q.0 y (λ i. unequal_numbers q.0 p.0 (sym n) (sym i)) in rw same at h
    by q true n h =
        let is = eq_numbers q.0 p.0 (sym n) in
        let now : slice_get (slice_set ps p.0 y) q.0 ≡ Some y = rw is (place_same ps p.0 x y e) in
        let there : slice_get ps q.0 ≡ Some x = rw is e in
        rw there (before (rw now at h))

-- where one pipe has the stream, no other does
one_only : (i : StreamId) (ps : List pipe.Slots) (n : ℕ) (p : PipeId) (y : pipe.Slots) → in_pipes Reading i ps + n ≤ 1 → slice_get ps p.0 ≡ Some y → holds Reading i y ≡ true
    → (q : PipeId) (o : Option pipe.Slots) → slice_get ps q.0 ≡ o → holds Reading i (as_pipe o) ≡ true → (same : Bool) → same ≡ nat_eq q.0 p.0 → other q (PipeRequest p) ≡ 0
one_only i ps n p y few e own q o f h true s = rw (← s) refl
one_only i ps n p y few e own q None f h false s = absurd (cc)
one_only i ps n p y few e own q (Some x) f h false s =
    let two = pipes-two Reading i q.0 p.0 ps x y (unequal_numbers q.0 p.0 (sym s)) f e in
    let a = ap one_if h in
    let b = ap one_if own in
    absurd (omega (arith, two, a, b, few))

pub one_at_most : (b : Bool) → one_if b ≤ 1
one_at_most true = omega arith
one_at_most false = omega arith

flowing-holds : (i : StreamId) (y : pipe.Slots) → y.phase ≡ Flowing → y.source ≡ i → holds Reading i y ≡ true
flowing-holds i y f e = let self = is_same-refl i in rw (f, e, self) refl

pub pipe-asks : (p : PipeId) (operation : PipeOperation) (s : Slots) (es : List Effect) (o : Option pipe.Slots) → slice_get s.pipes p.0 ≡ o → Each IsNoRead es
    → let d : Done = on_pipe_at (λ ends. pipe_operation p ends operation) p s o in ((i : StreamId) → Balanced Reading i d.slots (d.caused ++ es)) → ReadsFirst (d.caused ++ es) × Asks d.slots (d.caused ++ es)
pipe-asks p operation s es None e none k = (none-first es none, none-asks s es none)
pipe-asks p operation s es (Some x) e none k = by (operation-reads p (ends_at x s) operation x s.promises)
  where
    b : pipe.Acts
    b = pipe_operation p (ends_at x s) operation (starting x s.promises)

    z : Slots
    z = (on_pipe_at (λ ends. pipe_operation p ends operation) p s (Some x)).slots

    by : Reads p x.source b → ReadsFirst (b.out.effects ++ es) × Asks z (b.out.effects ++ es)
    by (NoRead n) = let all = each-append IsNoRead b.out.effects es n none in (none-first (b.out.effects ++ es) all, none-asks z (b.out.effects ++ es) all)
    by (OneRead f is) =
        let source = (pipe-causes p (ends_at x s) operation (starting x s.promises) tt).0 in
        let own = flowing-holds x.source b.slots f source in
        let place : slice_get z.pipes p.0 ≡ Some b.slots = place_same s.pipes p.0 x b.slots e in
        let there = pipes-there Reading x.source p.0 z.pipes b.slots place in
        let one = ap one_if own in
        let few = (k x.source).few in
        let most = one_at_most (is_there Reading (slice_get z.streams x.source.0)) in
        rw is (
          none,
          (
            omega (arith, there, one),
            (λ q h. one_only x.source z.pipes 0 p b.slots (omega (arith, few, most)) place own q (slice_get z.pipes q.0) refl h (nat_eq q.0 p.0) refl),
          ),
        )

-- an operation of a tee

-- where a tee has the stream, no pipe has it
not_piped : (i : StreamId) (s : Slots) (es : List Effect) → Balanced Reading i s es → 1 ≤ in_tees Reading i s.tees → (q : PipeId) (o : Option pipe.Slots) → slice_get s.pipes q.0 ≡ o → holds Reading i (as_pipe o) ≡ true
    → {A : Type 0} → A
not_piped i s es b teed q None e h = absurd (cc)
not_piped i s es b teed q (Some x) e h =
    let there = pipes-there Reading i q.0 s.pipes x e in
    let one = ap one_if h in
    let few = b.few in
    let most = one_at_most (is_there Reading (slice_get s.streams i.0)) in
    absurd (omega (arith, there, one, few, most, teed))

tee_place : (ts : List tee.Slots) (n : ℕ) (x y : tee.Slots) → slice_get ts n ≡ Some x → slice_get (slice_set ts n y) n ≡ Some y
tee_place [] n x y e = cc
tee_place (z ∷ ts) zero x y e = refl
tee_place (z ∷ ts) (suc n) x y e = tee_place ts n x y e

-- it causes no read, or one of its source alone
data TeeReads (me : TeeId) (source : StreamId) (es : List Effect) : Type 0 where
  NoneRead : Each IsNoRead es → TeeReads me source es
  ItsRead : es ≡ OnReadable source (Read (TeeRequest me)) ∷ [] → TeeReads me source es

unless_silent : (r : Option Plain) (i : StreamId) (operation : ReadableOperation) → IsNoRead (OnReadable i operation) → Each IsNoRead (tee.unless_cancelled r i operation)
unless_silent None i operation n = (n, tt)
unless_silent (Some r) i operation n = tt

branches_silent : (operation : ReadableOperation) (x : tee.Slots) → ((i : StreamId) → IsNoRead (OnReadable i operation)) → Each IsNoRead (tee.on_branches operation x)
branches_silent operation x n =
    each-append IsNoRead (tee.unless_cancelled x.reason1 x.branch1 operation) (tee.unless_cancelled x.reason2 x.branch2 operation)
    (unless_silent x.reason1 x.branch1 operation (n x.branch1)) (unless_silent x.reason2 x.branch2 operation (n x.branch2))

fulfil_silent : (a : tee.Acts) → Each IsNoRead a.out.effects → Each IsNoRead (tee.fulfil_cancel a).out.effects
fulfil_silent a h =
    either (λ (z : tee.Acts). Each IsNoRead z.out.effects) (tee.is_wanted a.slots && not a.slots.answered) _ a (λ e. each-append IsNoRead a.out.effects _ h (tt, tt)) (λ e. h)

pull_reads : (me : TeeId) (a : tee.Acts) (phase : TeePhase) → a.out.effects ≡ [] → TeeReads me a.slots.source (tee.pull_in me a phase).out.effects
pull_reads me a Resting none = ItsRead (rw none refl)
pull_reads me a TeeReading none = NoneRead (rw none tt)
pull_reads me a Over none = NoneRead (rw none tt)

close_silent : (a : tee.Acts) (phase : TeePhase) → a.out.effects ≡ [] → Each IsNoRead (tee.close_in a phase).out.effects
close_silent a Resting none =
    fulfil_silent (tee.causing (tee.on_branches Close a.slots) (tee.with_slots (record a.slots { phase = Over }) a)) (rw none (branches_silent Close a.slots (λ i. tt)))
close_silent a TeeReading none =
    fulfil_silent (tee.causing (tee.on_branches Close a.slots) (tee.with_slots (record a.slots { phase = Over }) a)) (rw none (branches_silent Close a.slots (λ i. tt)))
close_silent a Over none = rw none tt

hand_silent : (me : TeeId) (a : tee.Acts) (held : Option Value) → a.out.effects ≡ [] → Each IsNoRead (tee.hand_held me a held).out.effects
hand_silent me a None none = rw none tt
hand_silent me a (Some v) none = rw none (each-append IsNoRead (tee.on_branches (Enqueue v) a.slots) (OnTee me tees.Handed ∷ []) (branches_silent (Enqueue v) a.slots (λ i. tt)) (tt, tt))

again_reads : (me : TeeId) (a : tee.Acts) (asked : Bool) → a.out.effects ≡ [] → TeeReads me a.slots.source (tee.again me a asked).out.effects
unfolding tee.pull_branch
again_reads me a true none = pull_reads me a a.slots.phase none
again_reads me a false none = NoneRead (rw none tt)

cancel_silent : (me : TeeId) (half : Half) (r : Plain) (a : tee.Acts) (reason : Option Plain) → a.out.effects ≡ [] → Each IsNoRead (tee.cancel_by me half r a reason).out.effects
cancel_silent me half r a (Some old) none = rw none tt
cancel_silent me half r a None none = grind (arith, none)

tee-reads : (me : TeeId) (operation : TeeOperation) (a : tee.Acts) → a.out.effects ≡ [] → TeeReads me a.slots.source (tee_operation me operation a).out.effects
unfolding tee.pull_branch tee.keep_chunk tee.source_closed tee.source_errored tee.hand_chunk tee.handed tee.cancel_branch tee.reader_settled
tee-reads me tees.PullBranch a none = pull_reads me a a.slots.phase none
tee-reads me (tees.KeepChunk v) a none = NoneRead (rw none tt)
tee-reads me tees.SourceClosed a none = NoneRead (close_silent a a.slots.phase none)
tee-reads me tees.SourceErrored a none = NoneRead (rw none tt)
tee-reads me tees.HandChunk a none = NoneRead (hand_silent me a a.slots.held none)
tee-reads me tees.Handed a none = again_reads me (tee.with_slots (record a.slots { phase = tee.rested a.slots.phase }) a) a.slots.read_again none
tee-reads me (tees.CancelBranch half r u) a none =
    NoneRead (each-append IsNoRead (tee.cancel_by me half r a (tee.reason_of half a.slots)).out.effects _ (cancel_silent me half r a (tee.reason_of half a.slots) none) (tt, tt))
tee-reads me (tees.ReaderSettled (Ok v)) a none = NoneRead (rw none tt)
tee-reads me (tees.ReaderSettled (Err r)) a none =
    NoneRead (fulfil_silent (tee.causing (OnReadable a.slots.branch1 (Error r) ∷ OnReadable a.slots.branch2 (Error r) ∷ []) a) (rw none (tt, (tt, tt))))

pub tee-asks : (t : TeeId) (operation : TeeOperation) (s : Slots) (es : List Effect) (o : Option tee.Slots) → slice_get s.tees t.0 ≡ o → Each IsNoRead es
    → let d : Done = on_tee_at (tee_operation t operation) t s o in ((i : StreamId) → Balanced Reading i d.slots (d.caused ++ es)) → ReadsFirst (d.caused ++ es) × Asks d.slots (d.caused ++ es)
tee-asks t operation s es None e none k = (none-first es none, none-asks s es none)
tee-asks t operation s es (Some x) e none k = by (tee-reads t operation (record { slots = x; out = found s }) refl)
  where
    b : tee.Acts
    b = tee_operation t operation (record { slots = x; out = found s })

    z : Slots
    z = (on_tee_at (tee_operation t operation) t s (Some x)).slots

    by : TeeReads t x.source b.out.effects → ReadsFirst (b.out.effects ++ es) × Asks z (b.out.effects ++ es)
    by (NoneRead n) = let all = each-append IsNoRead b.out.effects es n none in (none-first (b.out.effects ++ es) all, none-asks z (b.out.effects ++ es) all)
    by (ItsRead is) =
        let source = (tee-causes t operation (record { slots = x; out = found s })).same.source in
        let place : slice_get z.tees t.0 ≡ Some b.slots = tee_place s.tees t.0 x b.slots e in
        let there = tees-there Reading x.source t.0 z.tees b.slots place in
        let self : is_same x.source b.slots.source ≡ true = rw source (is_same-refl x.source) in
        let one = ap one_if self in
        rw is (none, (omega (arith, there, one), (λ q h. not_piped x.source z (b.out.effects ++ es) (k x.source) (omega (arith, there, one)) q (slice_get z.pipes q.0) refl h)))

-- other effects cause no read

transform_silent : (me : TransformId) (writable readable : StreamId) (e : Effect) → TransformCauses me writable readable e → IsNoRead e
transform_silent me writable readable e c = grind (arith, c)

port_silent : (me : PortId) (stream : StreamId) (e : Effect) → PortCauses me stream e → IsNoRead e
port_silent me stream e c = grind (arith, c)

read-causes : (e : Effect) → IsNoPipe e → IsNoTee e → Causes IsNoRead e
read-causes e n m = grind (arith, n, m, transform_silent, port_silent)

pub other-silent : (s : Slots) (e : Effect) (es : List Effect) → IsNoPipe e → IsNoTee e → ReadsFirst (e ∷ es) → Each IsNoRead ((row e s).caused ++ es)
other-silent s e es n m first = each-append IsNoRead (row e s).caused es (row-causes IsNoRead e s (read-causes e n m)) first

-- each effect

abbrev pub EachQueued : Slots → Type 0
EachQueued s = (i : StreamId) → Queued i (slice_get s.streams i.0) s.pipes

apart-queued : (s : Slots) (e : Effect) → IsApart e → IsNoPipe e → EachQueued s → EachQueued (row e s).slots
apart-queued s e a n k i = rw (row-streams e s a, row-pipes e s n) (k i)

pub row-queued : (s : Slots) (e : Effect) (es : List Effect) → TakesFirst (e ∷ es) → ((i : StreamId) → Balanced Reading i s (e ∷ es)) → Asks s (e ∷ es)
    → ((p : PipeId) (operation : PipeOperation) → e ≡ OnPipe p operation → (i : StreamId) (x : pipe.Slots) → slice_get s.pipes p.0 ≡ Some x → holds Reading i (pipe_operation p (ends_at x s) operation (starting x s.promises)).slots ≡ true → holds Reading i x ≡ true)
    → EachQueued s → EachQueued (row e s).slots
unfolding row
row-queued s (OnReadable j operation) es t b asks before k i = rw (row-pipes (OnReadable j operation) s tt) (readable-queued s i j operation es (is_same i j) refl t (b i) asks (k i))
row-queued s (Byte j operation) es t b asks before k i = rw (row-pipes (Byte j operation) s tt) (byte-queued s i j operation es (is_same i j) refl t (b i) asks (k i))
row-queued s (OnWritable j operation) es t b asks before k i = rw (row-pipes (OnWritable j operation) s tt) (writable-queued s i j operation (is_same i j) refl (k i))
row-queued s (OnPipe p operation) es t b asks before k i = by (slice_get s.pipes p.0) refl
  where
    by : (o : Option pipe.Slots) → slice_get s.pipes p.0 ≡ o → let d : Done = on_pipe_at (λ ends. pipe_operation p ends operation) p s o in Queued i (slice_get d.slots.streams i.0) d.slots.pipes
    by None e = k i
    by (Some x) e = pipe-queued i (slice_get s.streams i.0) s.pipes p x (pipe_operation p (ends_at x s) operation (starting x s.promises)).slots e (before p operation refl i x e) (k i)
row-queued s e es t b asks before k i = apart-queued s e tt tt k i

-- what is asked is meant

read_meant : (b : byte.Slots) → is_some b.stream.reader ≡ true → b.reader_kind ≡ Default → byte.may_read b ≡ true
read_meant b l k = grind (arith, l, k)

into_meant : (b : byte.Slots) → is_some b.stream.reader ≡ true → b.reader_kind ≡ Byob → byte.may_pull_into b ≡ true
into_meant b l k = grind (arith, l, k)

module _ (i : StreamId) (s : Slots) (there : has_byte i s ≡ true) where
  before_look : slice_get s.streams i.0 ≡ Some (ByteStream (byte_at i s))
  before_look = byte_there (slice_get s.streams i.0) there

  kind-here : (es : List Effect) → OfKind i s es → HasKind (look (byte_at i s)) (byobs i s) (defaults i s)
  kind-here es k = subst (λ (o : Option Look). KindHeld o (byobs i s) (defaults i s)) (ap byte_look before_look) k.kind

  locked-here : is_locked Reading i s ≡ true → is_some (byte_at i s).stream.reader ≡ true
  locked-here l = sym (ap (has_lock Reading) before_look) ∙ l

pub read-meant : (i : StreamId) (s : Slots) (q : ReadRequest) (es : List Effect) → TakesFirst (OnReadable i (Read q) ∷ es) → Balanced Reading i s (OnReadable i (Read q) ∷ es) → OfKind i s (OnReadable i (Read q) ∷ es) → Asks s (OnReadable i (Read q) ∷ es)
    → has_byte i s ≡ true → byte.may_read (byte_at i s) ≡ true
read-meant i s q es t b k asks there =
    let l = locked-here i s there (read-locked s i (Read q) es t b asks q refl) in
    read_meant (byte_at i s) l ((kind-here i s there _ k).default l asks.0)

into-meant : (i : StreamId) (s : Slots) (room : List ℕ) (element minimum : ℕ) (q : ReadRequest) (es : List Effect) → let e : Effect = Byte i (PullInto room element minimum q) in
    TakesFirst (e ∷ es) → Balanced Reading i s (e ∷ es) → OfKind i s (e ∷ es) → Asks s (e ∷ es) → has_byte i s ≡ true → (byte.may_pull_into (byte_at i s) && byte.is_least (length room) element minimum) ≡ true
into-meant i s room element minimum q es t b k asks there =
    let l = locked-here i s there (into-locked s i (PullInto room element minimum q) es t b asks room element minimum q refl) in
    rw (into_meant (byte_at i s) l ((kind-here i s there _ k).byob l asks.some)) asks.least

pub asks-meant : (s : Slots) (e : Effect) (es : List Effect) → TakesFirst (e ∷ es) → ((i : StreamId) → Balanced Reading i s (e ∷ es)) → ((i : StreamId) → OfKind i s (e ∷ es)) → Asks s (e ∷ es) → MeantAt s e
asks-meant s (OnReadable i (Read q)) es t b k asks = read-meant i s q es t (b i) (k i) asks
asks-meant s (OnReadable i operation) es t b k asks = λ there. tt
asks-meant s (Byte i (PullInto room element minimum q)) es t b k asks = into-meant i s room element minimum q es t (b i) (k i) asks
asks-meant s (Byte i (Respond b)) es t n k asks = λ there. asks
asks-meant s (Byte i operation) es t b k asks = λ there. tt
asks-meant s e es t b k asks = tt
