-- The reads of a byte stream over every run.
use Rattle.std.proofs.Common.{◌≡◌, ℕ, zero, suc, Bool, true, false, ◌&&◌, if◌then◌else◌, List, [], ◌∷◌, ◌++◌, map, length, Some, nat_eq, slice_get, is_some, le-ltb, refl, sym, ap, subst, ◌∙◌, append-nil, arith}
use Rattle.std.proofs.lemmas.List.Elements.{All-nil}
use Rattle.ws_value.specs.declared.ids.StreamId.{StreamId}
use Rattle.ws_value.specs.declared.value.{Outcome.TheVariants.{Finished, Rejected}, Plain.TheVariants.{Undefined}, Value.TheVariants.{Plain as PlainValue}}
use Rattle.ws_steps.specs.declared.byte.ByteOperation.{ByteOperation}
use Rattle.ws_steps.specs.declared.calls.Call.{Call}
use Rattle.ws_steps.specs.declared.effects.Effect.{Effect}
use Rattle.ws_steps.specs.declared.effects.Effect.TheVariants.{Readable as OnReadable, Byte, Writable, ChunkSteps, CloseSteps, CloseStepsWith, ErrorSteps}
use Rattle.ws_steps.specs.declared.readable.ReadableOperation.{ReadableOperation}
use Rattle.ws_steps.specs.declared.writable.WritableOperation.{WritableOperation}
use Rattle.ws_steps.specs.Bytes as byte
use Rattle.ws_steps.specs.ByteHistory.{effect_bytes, run_bytes}
use Rattle.ws_steps.specs.Calls.{begin}
use Rattle.ws_steps.specs.Histories.{is_same}
use Rattle.ws_steps.specs.Jobs.{job_effects}
use Rattle.ws_steps.specs.Operations.{byte_readable_operation, byte_operation, writable_operation}
use Rattle.ws_steps.specs.Promises.{Table}
use Rattle.ws_steps.specs.Readable as readable
use Rattle.ws_steps.specs.Run.{Entry, run, after_event}
use Rattle.ws_steps.specs.Slots.{Slots, Stream, ReadableStream, ByteStream, WritableStream, Done as Begins, empty, has_byte, byte_at, as_byte, is_byte_stream, on_byte}
use Rattle.ws_steps.specs.Turns.{row, on_source}
use Rattle.ws_steps.specs.Writable as writable
use Rattle.ws_laws.proofs.Apart.{row-streams}
use Rattle.ws_laws.proofs.Begin.{begin-makes}
use Rattle.ws_laws.proofs.Lists.{Each}
use Rattle.ws_laws.proofs.Order.{Calm, Behind, Orderly, is_from, may_pull, call-calm, job-calm, orderly-stays, orderly-empty}
use Rattle.ws_laws.proofs.ReadableDoes.{is_taking}
use Rattle.ws_laws.proofs.Shapes.{StreamShape, stream_shape, row-stream_shapes}
use Rattle.ws_laws.proofs.StaysBytes.{row-byte}
use Rattle.ws_laws.proofs.Tables.{is_same-refl, same_id, eq_numbers, unequal_numbers, byte_acts, byte_there, on_byte-same, on_byte-other, on_source-byte, on_source-other, on_writable-look, place_last, place_before, no_stream}
use Rattle.ws_laws.proofs.Walker.{GoesUntold, RestsUntold, Stays, run-holds}
use Rattle.ws_byte_laws.proofs.OnByte.{fresh_none, Unmade, row-unmade, is_there}
use Rattle.ws_promise_laws.proofs.Acting.{waits-heard}
use Rattle.ws_pipe_laws.proofs.locks.Runs.{run-locked}
use Rattle.ws_pipe_laws.proofs.locks.Sources.{Known, known-stays, known-heard, known-empty}
use Rattle.ws_room_read_laws.proofs.Rooms.{Follows, Rooms, rooms-stay}
use Rattle.ws_answer_laws.specs.ByteReads.{no_reads, shared_reads, own_reads, effect_byte_reads, run_byte_reads, Answered}
use Rattle.ws_answer_laws.specs.Answering.{Allows}
use Rattle.ws_answer_laws.proofs.Finding.{no_weight, IsEven, finds, own-byobs, own-finds}
use Rattle.ws_answer_laws.proofs.Held.{IsIn, Held, operation-held, own-held, performed-held}
use Rattle.ws_answer_laws.proofs.Quiet.{IsNoStep, none-come, still-none, other-none, other_own-none, call-none, job-none}
use Rattle.ws_answer_laws.proofs.Told.{effect_done, to_come, come-append, answers, effect_decided, bytes_of, bytes_of-append, no_steps, effect-given, Told, no_told, told_then, told, is_release, is_history, over-parts, run_decided, run_done, mark}

-- what holds of the rooms of every stream, where no request is looked at

abbrev Any : Table → Type 0
Any t = Unit {0}

follows_any : Follows no_weight 0 0 0 (λ p. refl) (λ t. refl) Any
follows_any = record { fresh = λ t k. refl; row = λ e s n k. tt; begins = λ c s k. tt; next = λ t k. tt; watched = λ p t k. tt; heard = λ t z e k. tt }

abbrev HasRooms : Slots → List Effect → Type 0
HasRooms s es = Rooms no_weight 0 0 0 (λ p. refl) (λ t. refl) Any follows_any s es

has_rooms : Stays HasRooms
has_rooms = rooms-stay no_weight 0 0 0 (λ p. refl) (λ t. refl) Any follows_any

rooms-heard : (s : Slots) → HasRooms s [] → HasRooms (after_event s) []
rooms-heard s k = record {
  locked = record { first = tt; each = λ d i. let b = k.locked.each d i in record { even = b.even; few = b.few }; waits = waits-heard s k.locked.waits; told = tt };
  sound = k.sound;
  told = tt;
  streams = k.streams;
  effects = tt;
  table = tt;
}

rooms-empty : HasRooms empty []
rooms-empty = record { locked = run-locked []; sound = λ i. (λ is. cc, tt); told = tt; streams = λ i. tt; effects = tt; table = tt }

even-at : (i : StreamId) (s : Slots) (es : List Effect) → has_byte i s ≡ true → HasRooms s es → IsEven (byte_at i s)
even-at i s es there k = let even : IsEven (byte_at i s) = rw (byte_there (slice_get s.streams i.0) there) at (k.streams i) in even

-- behind an operation that may take stand no steps that give bytes

one-calm : (i : StreamId) (e : Effect) → Calm i (e ∷ []) → bytes_of (effect_done i e) ≡ []
one-calm i (ChunkSteps j q v) c = rw c.0 refl
one-calm i (CloseStepsWith j q b) c = rw c.0 refl
one-calm i (CloseSteps j q) c = sym (no_steps (is_same i j) (record { request = q; outcome = Finished (PlainValue Undefined) }) refl)
one-calm i (ErrorSteps j q e) c = sym (no_steps (is_same i j) (record { request = q; outcome = Rejected e }) refl)
one-calm i _ c = refl

calm-bytes : (i : StreamId) (es : List Effect) → Calm i es → bytes_of (to_come i es) ≡ []
calm-bytes i [] c = refl
calm-bytes i (e ∷ es) c = rw (bytes_of-append (effect_done i e) (to_come i es), one-calm i e (c.0, tt), calm-bytes i es c.1) refl

behind_calm : (i : StreamId) (b : Bool) (es : List Effect) → b ≡ true → Behind i b es → Calm i es
behind_calm i true es e o = o
behind_calm i false es e o = cc

taking_pulls : (op : ReadableOperation) → is_taking op ≡ true → may_pull op ≡ true
taking_pulls op t = grind arith

taking-calm : (i : StreamId) (op : ReadableOperation) (es : List Effect) → is_taking op ≡ true → Behind i (may_pull op && is_from i i) es → Calm i es
taking-calm i op es t o =
    let from : is_from i i ≡ true = rw (le-ltb i.0 i.0 (omega arith)) refl in
    behind_calm i (may_pull op && is_from i i) es (rw (taking_pulls op t, from) refl) o

own-calm : (i : StreamId) (es : List Effect) → Behind i (is_same i i) es → Calm i es
own-calm i es o = behind_calm i (is_same i i) es (is_same-refl i) o

-- no read was asked of it
pub record Unasked (h : Told) : Type 0 where
  pub reads : h.reads ≡ no_reads
  pub decided : h.decided ≡ []

-- at each moment of each run
pub record Now (i : StreamId) (h : Told) (streams : List Stream) (es : List Effect) : Type 0 where
  pub same : bytes_of h.done ≡ h.flow.given
  pub held : is_byte_stream (slice_get streams i.0) ≡ true → Held h (as_byte (slice_get streams i.0)) (to_come i es)
  pub unasked : is_byte_stream (slice_get streams i.0) ≡ false → Unasked h
  pub unmade : is_some (slice_get streams i.0) ≡ false → Unmade i h.flow es

module _ (i : StreamId) where
  -- an effect that is no operation of stream i
  foreign : (e : Effect) (h : Told) (s : Slots) (es : List Effect) → effect_byte_reads i e s ≡ no_reads → effect_decided i e s ≡ [] → Each (IsNoStep i) (row e s).caused → byte_at i (row e s).slots ≡ byte_at i s
      → Held h (byte_at i s) (to_come i (e ∷ es)) → Held (told_then h (told i e s)) (byte_at i (row e s).slots) (to_come i ((row e s).caused ++ es))
  foreign e h s es reads decided caused same k =
      rw (reads, decided, same, come-append i (row e s).caused es, none-come i (row e s).caused caused)
      (performed-held (effect_done i e) (effect_bytes i e s) h (byte_at i s) (to_come i es) k)

  stays_at : (e : Effect) (s : Slots) → (row e s).slots.streams ≡ s.streams → byte_at i (row e s).slots ≡ byte_at i s
  stays_at e s same = ap (λ (xs : List Stream). as_byte (slice_get xs i.0)) same

  writable_leaves : (j : StreamId) (op : WritableOperation) (s : Slots) → byte_at i (row (Writable j op) s).slots ≡ byte_at i s
  unfolding row
  writable_leaves j op s = on_writable-look as_byte (λ b c. refl) (writable_operation j op) j s i (is_same i j) refl

  -- an operation of stream i
  here : (op : ReadableOperation) (h : Told) (s : Slots) (es : List Effect) → has_byte i s ≡ true → Known s (OnReadable i op ∷ es) → HasRooms s (OnReadable i op ∷ es) → Orderly i s (OnReadable i op ∷ es) → Held h (byte_at i s) (to_come i es)
      → let d : Begins = on_source op i s in
      Held (told_then h (record { flow = effect_bytes i (OnReadable i op) s; reads = shared_reads op (byte_at i s); decided = mark (shared_reads op (byte_at i s)).overtaking (answers (is_release op) (byte_readable_operation i op (byte_acts i s)).out.effects); done = [] })) (byte_at i d.slots) (to_come i (d.caused ++ es))
  here op h s es is known has o k =
      let a : byte.Acts = byte_readable_operation i op (byte_acts i s) in
      let now = on_byte-same (byte_readable_operation i op) i s is in
      rw (on_source-byte op i s is, now, is, come-append i a.out.effects es)
      (operation-held i op s.promises (effect_bytes i (OnReadable i op) s) h (byte_at i s) (to_come i es)
      (finds i s is op es known (even-at i s (OnReadable i op ∷ es) is has) k.ended)
      (λ t. calm-bytes i es (taking-calm i op es t o.ordered.0)) k)

  own_here : (op : ByteOperation) (h : Told) (s : Slots) (es : List Effect) → has_byte i s ≡ true → Known s (Byte i op ∷ es) → HasRooms s (Byte i op ∷ es) → Orderly i s (Byte i op ∷ es) → Held h (byte_at i s) (to_come i es)
      → let d : Begins = on_byte (byte_operation i op) i s in
      Held (told_then h (record { flow = effect_bytes i (Byte i op) s; reads = own_reads op (byte_at i s); decided = answers false (byte_operation i op (byte_acts i s)).out.effects; done = [] })) (byte_at i d.slots) (to_come i (d.caused ++ es))
  own_here op h s es is known has o k =
      let a : byte.Acts = byte_operation i op (byte_acts i s) in
      let now = on_byte-same (byte_operation i op) i s is in
      rw (now, is, come-append i a.out.effects es)
      (own-held i op s.promises (effect_bytes i (Byte i op) s) h (byte_at i s) (to_come i es)
      (own-finds i s is op es known (even-at i s (Byte i op ∷ es) is has) ((has.sound i).0 is).held) (own-byobs i s is op es known) ((has.sound i).0 is).held
      (calm-bytes i es (own-calm i es o.ordered.0)) k)

  shared_told : (op : ReadableOperation) (s : Slots) → has_byte i s ≡ true
      → told i (OnReadable i op) s ≡ record { flow = effect_bytes i (OnReadable i op) s; reads = shared_reads op (byte_at i s); decided = mark (shared_reads op (byte_at i s)).overtaking (answers (is_release op) (byte_readable_operation i op (byte_acts i s)).out.effects); done = [] }
  shared_told op s is =
      let reads : effect_byte_reads i (OnReadable i op) s ≡ shared_reads op (byte_at i s) = rw (is_same-refl i, is) refl in
      let decided : effect_decided i (OnReadable i op) s ≡ mark (shared_reads op (byte_at i s)).overtaking (answers (is_release op) (byte_readable_operation i op (byte_acts i s)).out.effects) = rw (is_same-refl i, is) refl in
      λ k. record { flow = effect_bytes i (OnReadable i op) s; reads = reads k; decided = decided k; done = [] }

  own_told : (op : ByteOperation) (s : Slots) → has_byte i s ≡ true
      → told i (Byte i op) s ≡ record { flow = effect_bytes i (Byte i op) s; reads = own_reads op (byte_at i s); decided = answers false (byte_operation i op (byte_acts i s)).out.effects; done = [] }
  own_told op s is =
      let reads : effect_byte_reads i (Byte i op) s ≡ own_reads op (byte_at i s) = rw (is_same-refl i, is) refl in
      let decided : effect_decided i (Byte i op) s ≡ answers false (byte_operation i op (byte_acts i s)).out.effects = rw (is_same-refl i, is) refl in
      λ k. record { flow = effect_bytes i (Byte i op) s; reads = reads k; decided = decided k; done = [] }

  abbrev Leads : Told → Effect → Slots → List Effect → Type 0
  Leads h e s es =
      Known s (e ∷ es) → HasRooms s (e ∷ es) → Orderly i s (e ∷ es) → Held h (byte_at i s) (to_come i es)
      → Held (told_then h (told i e s)) (byte_at i (row e s).slots) (to_come i ((row e s).caused ++ es))

  by_operation : (j : StreamId) (op : ReadableOperation) (h : Told) (s : Slots) (es : List Effect) (same : Bool) → same ≡ is_same i j → has_byte i s ≡ true → Leads h (OnReadable j op) s es
  unfolding row
  by_operation j op h s es false e is known has o k =
      foreign (OnReadable j op) h s es (rw (← e) refl) (rw (← e) refl) (other-none i j op s (sym e)) (ap as_byte (on_source-other op j s i (sym e))) k
  by_operation j op h s es true e is known has o k =
      let d : Begins = on_source op i s in
      subst (λ (z : StreamId). Leads h (OnReadable z op) s es) (same_id i j (sym e))
      (λ known has o k. subst (λ (f : Told). Held (told_then h f) (byte_at i d.slots) (to_come i (d.caused ++ es))) (sym (shared_told op s is)) (here op h s es is known has o k))
      known has o k

  by_own : (j : StreamId) (op : ByteOperation) (h : Told) (s : Slots) (es : List Effect) (same : Bool) → same ≡ is_same i j → has_byte i s ≡ true → Leads h (Byte j op) s es
  unfolding row
  by_own j op h s es false e is known has o k =
      foreign (Byte j op) h s es (rw (← e) refl) (rw (← e) refl) (other_own-none i j op s (sym e)) (ap as_byte (on_byte-other (byte_operation j op) j s i (sym e))) k
  by_own j op h s es true e is known has o k =
      let d : Begins = on_byte (byte_operation i op) i s in
      subst (λ (z : StreamId). Leads h (Byte z op) s es) (same_id i j (sym e))
      (λ known has o k. subst (λ (f : Told). Held (told_then h f) (byte_at i d.slots) (to_come i (d.caused ++ es))) (sym (own_told op s is)) (own_here op h s es is known has o k))
      known has o k

  row-held : (e : Effect) (h : Told) (s : Slots) (es : List Effect) → Known s (e ∷ es) → HasRooms s (e ∷ es) → Orderly i s (e ∷ es) → has_byte i s ≡ true → Held h (byte_at i s) (to_come i (e ∷ es))
      → Held (told_then h (told i e s)) (byte_at i (row e s).slots) (to_come i ((row e s).caused ++ es))
  row-held (OnReadable j op) h s es known has o is k = by_operation j op h s es (is_same i j) refl is known has o k
  row-held (Byte j op) h s es known has o is k = by_own j op h s es (is_same i j) refl is known has o k
  row-held (Writable j op) h s es known has o is k = foreign (Writable j op) h s es refl refl (still-none i (Writable j op) s tt) (writable_leaves j op s) k
  row-held e h s es known has o is k = foreign e h s es refl refl (still-none i e s tt) (stays_at e s (row-streams e s tt)) k

  -- of a stream that isn't there nothing is asked

  none_same : (j : StreamId) (s : Slots) (same : Bool) → same ≡ is_same i j → has_byte i s ≡ false → is_same i j && has_byte j s ≡ false
  none_same j s false e n = rw (← e) refl
  none_same j s true e n = rw (← same_id i j (sym e), n) (and_none (is_same i i))
    where
      and_none : (c : Bool) → c && false ≡ false
      and_none true = refl
      and_none false = refl

  none_decided : (j : StreamId) (s : Slots) (same : Bool) (xs : List Answered) → same ≡ is_same i j → has_byte i s ≡ false → (if same then (if has_byte j s then xs else []) else []) ≡ []
  none_decided j s false xs e n = refl
  none_decided j s true xs e n = rw (← same_id i j (sym e), n) refl

  none-told : (e : Effect) (s : Slots) → has_byte i s ≡ false → (effect_byte_reads i e s ≡ no_reads) × (effect_decided i e s ≡ [])
  none-told (OnReadable j op) s n = (rw (none_same j s (is_same i j) refl n) refl, none_decided j s (is_same i j) (mark (shared_reads op (byte_at j s)).overtaking (answers (is_release op) (byte_readable_operation j op (byte_acts j s)).out.effects)) refl n)
  none-told (Byte j op) s n = (rw (none_same j s (is_same i j) refl n) refl, none_decided j s (is_same i j) (answers false (byte_operation j op (byte_acts j s)).out.effects) refl n)
  none-told e s n = (refl, refl)

  row-unasked : (e : Effect) (h : Told) (s : Slots) → has_byte i s ≡ false → Unasked h → Unasked (told_then h (told i e s))
  row-unasked e h s n u = let k = none-told e s n in record { reads = rw (u.reads, k.0) refl; decided = rw (u.decided, k.1) refl }

  there-told : (xs : List Stream) (n : ℕ) → is_some (slice_get xs n) ≡ is_some (slice_get (map stream_shape xs) n)
  there-told [] n = refl
  there-told (x ∷ xs) zero = refl
  there-told (x ∷ xs) (suc n) = there-told xs n

  row-there : (e : Effect) (s : Slots) → is_there i (row e s).slots ≡ is_there i s
  row-there e s =
      there-told (row e s).slots.streams i.0 ∙ (ap (λ (ys : List StreamShape). is_some (slice_get ys i.0)) (row-stream_shapes e s) ∙ sym (there-told s.streams i.0))

  row-now : (h : Told) (s : Slots) (e : Effect) (es : List Effect) → Known s (e ∷ es) → HasRooms s (e ∷ es) → Orderly i s (e ∷ es) → Now i h s.streams (e ∷ es) → Now i (told_then h (told i e s)) (row e s).slots.streams ((row e s).caused ++ es)
  row-now h s e es known has o k = record {
    same = bytes_of-append h.done (effect_done i e) ∙ (rw (k.same, effect-given i e s) refl);
    held = λ is. let was : has_byte i s ≡ true = sym (row-byte i e s) ∙ is in row-held e h s es known has o was (k.held was);
    unasked = λ n. let was : has_byte i s ≡ false = sym (row-byte i e s) ∙ n in row-unasked e h s was (k.unasked was);
    unmade = λ n. let was : is_there i s ≡ false = sym (row-there e s) ∙ n in row-unmade i e h.flow s es was (k.unmade was);
  }

  -- calls and jobs

  new-held : (mark auto : ℕ) (h : Told) → Unasked h → bytes_of h.done ≡ [] → Held h (byte.set_up mark auto) []
  new-held mark auto h u n = record {
    all = λ w. rw (u.decided, u.reads) refl;
    lined = rw (u.decided, u.reads) refl;
    overtook = rw (u.decided, u.reads) refl;
    in_turn = λ o. rw (u.decided, u.reads) refl;
    calm = λ o. (rw u.reads refl, λ d r q. refl);
    released = rw (u.decided, u.reads) refl;
    allowed = rw u.decided (All-nil (λ a. Allows (byte.set_up mark auto) a.answer));
    ended = λ d m. refl;
    covers = λ d is. let none : IsIn d [] = rw u.decided at is in absurd none;
    bytes = rw (append-nil h.done, u.decided) n;
  }

  appended : (x : Stream) (h : Told) (streams : List Stream) (here : Bool) → here ≡ nat_eq i.0 (length streams) → Now i h streams []
      → (is_byte_stream (Some x) ≡ true → Unasked h → bytes_of h.done ≡ [] → Held h (as_byte (Some x)) []) → Now i h (streams ++ x ∷ []) []
  appended x h streams false n k f =
      let before = place_before streams x i.0 (unequal_numbers i.0 (length streams) (sym n)) in
      record { same = k.same; held = rw before k.held; unasked = rw before k.unasked; unmade = rw before k.unmade }
  appended x h streams true e k f =
      let is = eq_numbers i.0 (length streams) (sym e) in
      let before = no_stream i streams is in
      let none : is_some (slice_get streams i.0) ≡ false = rw before refl in
      let no_bytes : is_byte_stream (slice_get streams i.0) ≡ false = rw before refl in
      let now : slice_get (streams ++ x ∷ []) i.0 ≡ Some x = rw is (place_last streams x) in
      record {
        same = k.same;
        held = λ c. rw now (f (rw now at c) (k.unasked no_bytes) (k.same ∙ (k.unmade none).fresh.given));
        unasked = λ c. k.unasked no_bytes;
        unmade = λ n. let w : is_some (Some x) ≡ false = rw now at n in cc;
      }

  begun : (c : Call) (h : Told) (s : Slots) → Now i h s.streams [] → Now i h (begin c s).done.slots.streams []
  begun c h s k = begin-makes (λ z. Now i h z.streams []) (record {
    promise = λ z k. k;
    locks = λ z ls k. k;
    hosts = λ z hs k. k;
    pipe = λ z source dest prevent signal promise k. k;
    signal = λ z k. k;
    transform = λ z kind writable readable change k. k;
    tee = λ z source first second cancel k. k;
    port = λ z side stream backpressure k. k;
    readable = λ z owner mark size k. appended (ReadableStream (readable.set_up owner mark size)) h z.streams (nat_eq i.0 (length z.streams)) refl k (λ c. cc);
    bytes = λ z mark auto k. appended (ByteStream (byte.set_up mark auto)) h z.streams (nat_eq i.0 (length z.streams)) refl k (λ c u n. new-held mark auto h u n);
    byob_requests = λ z r k. k;
    writable = λ z owner mark size k. appended (WritableStream (writable.set_up owner mark size)) h z.streams (nat_eq i.0 (length z.streams)) refl k (λ c. cc);
  }) c s k

  quiet_now : (h : Told) (streams : List Stream) (es : List Effect) → Each (IsNoStep i) es → Calm i es → Now i h streams [] → Now i h streams es
  quiet_now h streams es n c k = record {
    same = k.same;
    held = λ is. rw (none-come i es n) (k.held is);
    unasked = k.unasked;
    unmade = λ m. record { fresh = (k.unmade m).fresh; elsewhere = c };
  }

  record Whole (h : Told) (s : Slots) (es : List Effect) : Type 0 where
    now : Now i h s.streams es
    known : Known s es
    rooms : HasRooms s es
    ordered : Orderly i s es

  goes : GoesUntold told_then (told i) Whole
  goes = record {
    row = λ h s e es k. record { now = row-now h s e es k.known k.rooms k.ordered k.now; known = known-stays.row s e es k.known; rooms = has_rooms.row s e es k.rooms; ordered = (orderly-stays i).row s e es k.ordered };
    call = λ h s c k. record {
      now = quiet_now h (begin c s).done.slots.streams (begin c s).done.caused (call-none i c s) (call-calm i c s) (begun c h s k.now);
      known = known-stays.call s c k.known;
      rooms = has_rooms.call s c k.rooms;
      ordered = (orderly-stays i).call s c k.ordered;
    };
    job = λ h s job e k. record {
      now = quiet_now h s.streams (job_effects job) (job-none i job) (job-calm i job) k.now;
      known = known-stays.job s job e k.known;
      rooms = has_rooms.job s job e k.rooms;
      ordered = (orderly-stays i).job s job e k.ordered;
    };
    answered = λ h s p k. record { now = k.now; known = known-stays.answered s p k.known; rooms = has_rooms.answered s p k.rooms; ordered = (orderly-stays i).answered s p k.ordered };
    older = λ h s k. record { now = k.now; known = known-stays.older s k.known; rooms = has_rooms.older s k.rooms; ordered = (orderly-stays i).older s k.ordered };
  }

  rests : RestsUntold Whole
  rests = record { heard = λ h s k. record { now = k.now; known = known-heard s k.known; rooms = rooms-heard s k.rooms; ordered = record { ordered = tt; below = k.ordered.below } } }

  starts : Whole no_told empty []
  starts = record {
    now = record { same = refl; held = λ c. cc; unasked = λ c. record { reads = refl; decided = refl }; unmade = λ n. record { fresh = fresh_none; elsewhere = tt } };
    known = known-empty;
    rooms = rooms-empty;
    ordered = orderly-empty i;
  }

  pub run-now : (xs : List Entry) → Now i (record { flow = run_bytes i xs empty; reads = run_byte_reads i xs empty; decided = run_decided i xs empty; done = run_done i xs empty }) (run xs empty).streams []
  run-now xs =
      subst (λ (h : Told). Now i h (run xs empty).streams []) (over-parts i xs empty) (run-holds no_told told_then is_history (told i) Whole goes rests xs empty starts).now
