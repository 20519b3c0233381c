-- What is read for a tee is read from its source, and what is read from its source is read for the tee: in the requests that wait, and in
-- the reads and the chunk steps that stand for them.
use Rattle.std.proofs.Common.{◌≡◌, ℕ, ◌+◌, ◌≤◌, Bool, true, false, nat_eq, if◌then◌else◌, List, [], ◌∷◌, ◌++◌, length, Option, Some, None, slice_get, refl, sym, ap, subst, ◌∙◌, arith}
use Rattle.ws_value.specs.declared.ids.{PipeId.{PipeId}, StreamId.{StreamId}, TeeId.{TeeId}}
use Rattle.ws_steps.specs.declared.byte.{ByteOperation.{ByteOperation}, ByteOperation.TheVariants.{PullInto}}
use Rattle.ws_steps.specs.declared.{calls.Call.{Call}, promises.Job.{Job}}
use Rattle.ws_steps.specs.declared.effects.{Effect.{Effect}, Effect.TheVariants.{Readable as OnReadable, Byte, Writable as OnWritable, Pipe as OnPipe, Tee as OnTee, ChunkSteps, CloseSteps, CloseStepsWith, ErrorSteps}}
use Rattle.ws_steps.specs.declared.readable.{ReadRequest.{ReadRequest}, ReadRequest.TheVariants.{Tee as TeeRequest}, ReadableOperation.{ReadableOperation}, ReadableOperation.TheVariants.{Read}}
use Rattle.ws_steps.specs.declared.transform.TransformId.{TransformId}
use Rattle.ws_steps.specs.declared.writable.WritableOperation.{WritableOperation}
use Rattle.ws_steps.specs.Bytes as byte
use Rattle.ws_steps.specs.Calls.{begin}
use Rattle.ws_steps.specs.Histories.{is_same}
use Rattle.ws_steps.specs.Jobs.{job_effects}
use Rattle.ws_steps.specs.Operations.{readable_operation, byte_readable_operation, byte_operation, writable_operation, pipe_operation, tee_operation}
use Rattle.ws_steps.specs.Pipes as pipe
use Rattle.ws_steps.specs.Readable as readable
use Rattle.ws_steps.specs.Run.{after_event}
use Rattle.ws_steps.specs.Slots.{Slots, Stream, ReadableStream, ByteStream, WritableStream, Done, empty, found, ends_at, has_readable, has_byte, has_writable, readable_at, byte_at, put_readable, put_byte, on_readable, on_byte, on_writable, on_pipe_at, on_tee_at}
use Rattle.ws_steps.specs.Tee as tee
use Rattle.ws_steps.specs.Turns.{row, on_source}
use Rattle.ws_steps.specs.Writable as writable
use Rattle.ws_laws.proofs.Begin.{IsFirst, Any, Enqueues, begin-makes, begin-first, each-any}
use Rattle.ws_laws.proofs.ByteHands.{sum_of, Weighs, given_read, given_into, byte_readable-hands, byte-hands}
use Rattle.ws_laws.proofs.Halves.{call-among_tees}
use Rattle.ws_laws.proofs.Lists.{Each, each-append, each-map}
use Rattle.ws_laws.proofs.PipeDoes.{PipeCauses, pipe-causes}
use Rattle.ws_laws.proofs.Apart.{row-streams}
use Rattle.ws_laws.proofs.Causes.{Causes, row-causes}
use Rattle.ws_laws.proofs.Shapes.{TeeShape, tee_shape, tee_shapes, row-tee_shapes, map-there}
use Rattle.ws_laws.proofs.Tables.{either, is_same-refl, same_id, eq_numbers, unequal_numbers, place_last, place_before, readable_acts, byte_acts, readable_there, byte_there, on_readable-same, on_byte-same, on_byte-other, on_source-other, on_writable-same, on_writable-other}
use Rattle.ws_laws.proofs.TeeDoes.{TeeCauses, tee-causes}
use Rattle.ws_laws.proofs.TransformDoes.{TransformCauses}
use Rattle.ws_laws.proofs.Walker.{Stays}
use Rattle.ws_pipe_laws.specs.pipes.PipeMoves.{starting}
use Rattle.ws_pipe_laws.proofs.locks.Asking.{requests_at}
use Rattle.ws_pipe_laws.proofs.locks.Requests.{count}
use Rattle.ws_pipe_laws.proofs.locks.TeeOwning.{Fair, Owned, other_tee, owned-stays, owned-heard, owned-empty}
use Rattle.ws_tee_port_laws.proofs.tees.Handing.{readable-hands}
use Rattle.ws_tee_port_laws.proofs.tees.OneRead.{is_tee, IsNone, call_none}
use Rattle.ws_value.specs.declared.ids.PortId.{PortId}
use Rattle.ws_laws.proofs.PortDoes.{PortCauses}

module _ (t : TeeId) where
  -- a request that is at the wrong stream, where the tee has this shape
  abbrev pub wrong : Option TeeShape → StreamId → ReadRequest → ℕ
  wrong None j q = is_tee t q
  wrong (Some x) j q = if is_same j x.source then other_tee t q else is_tee t q

  abbrev pub Home : Option TeeShape → Effect → Type 0
  Home o (OnReadable i (Read q)) = wrong o i q ≡ 0
  Home o (Byte i (PullInto room element minimum q)) = wrong o i q ≡ 0
  Home o (ChunkSteps i q v) = wrong o i q ≡ 0
  Home o _ = Unit {0}

  abbrev AtHome : Option TeeShape → StreamId → Slots → Type 0
  AtHome o j s = sum_of (wrong o j) (requests_at (slice_get s.streams j.0)) ≤ 0

  module _ (o : Option TeeShape) where
    -- operations of streams

    module _ (i : StreamId) where
      abbrev weight : Effect → ℕ
      weight (ChunkSteps k q v) = wrong o i q
      weight (CloseSteps k q) = wrong o i q
      weight (CloseStepsWith k q b) = wrong o i q
      weight (ErrorSteps k q e) = wrong o i q
      weight _ = 0

      weighs : Weighs i (wrong o i) weight
      weighs = record { chunk = λ q v. refl; close = λ q. refl; close_with = λ q b. refl; error = λ q e. refl; pull = refl; cancel = λ r p. refl }

      -- chunk steps are of this stream, and nothing is read
      abbrev At : Effect → Type 0
      At (OnReadable k (Read q)) = ⊥
      At (Byte k (PullInto room element minimum q)) = ⊥
      At (ChunkSteps k q v) = k ≡ i
      At _ = Unit {0}

      one-home : (e : Effect) → At e → weight e ≤ 0 → Home o e
      one-home (OnReadable k (Read q)) a n = absurd a
      one-home (OnReadable k operation) a n = tt
      one-home (Byte k (PullInto room element minimum q)) a n = absurd a
      one-home (Byte k operation) a n = tt
      one-home (ChunkSteps k q v) a n = rw a (omega (arith, n))
      one-home e a n = tt

      all-home : (es : List Effect) → Each At es → sum_of weight es ≤ 0 → Each (Home o) es
      all-home [] a n = tt
      all-home (e ∷ es) a n = (one-home e a.0 (omega (arith, n)), all-home es a.1 (omega (arith, n)))

      abbrev Both : Done → Type 0
      Both d = sum_of (wrong o i) (requests_at (slice_get d.slots.streams i.0)) + sum_of weight d.caused ≤ 0

      read-right : (operation : ReadableOperation) → Home o (OnReadable i operation) → given_read (wrong o i) operation ≡ 0
      read-right (Read q) h = h
      read-right operation h = refl

      into-right : (operation : ByteOperation) → Home o (Byte i operation) → given_into (wrong o i) operation ≡ 0
      into-right (PullInto room element minimum q) h = h
      into-right operation h = refl

      default-both : (s : Slots) (operation : ReadableOperation) → Home o (OnReadable i operation) → AtHome o i s → Both (on_readable (readable_operation i operation) i s)
      default-both s operation h k = by (has_readable i s) refl
        where
          by : (there : Bool) → there ≡ has_readable i s → Both (on_readable (readable_operation i operation) i s)
          by false e = rw (← e) (omega (arith, k))
          by true e =
              let before = readable_there (slice_get s.streams i.0) (sym e) in
              let few : sum_of (wrong o i) (readable_at i s).requests ≤ 0 = subst (λ (x : Option Stream). sum_of (wrong o i) (requests_at x) ≤ 0) before k in
              let n = readable-hands i (wrong o i) weight weighs operation (readable_acts i s) in
              let none = read-right operation h in
              let b : readable.Acts = readable_operation i operation (readable_acts i s) in
              let both : sum_of (wrong o i) b.slots.requests + sum_of weight b.out.effects ≤ 0 = omega (arith, few, n, none) in
              let now : slice_get (put_readable i s b).slots.streams i.0 ≡ Some (ReadableStream b.slots) = rw (← e) at (on_readable-same (readable_operation i operation) i s (sym e)) in
              let all : Both (put_readable i s b) = rw now both in
              rw (← e) all

      source-both : (s : Slots) (operation : ReadableOperation) → has_byte i s ≡ true → Home o (OnReadable i operation) → AtHome o i s → Both (on_byte (byte_readable_operation i operation) i s)
      source-both s operation e h k =
          let before = byte_there (slice_get s.streams i.0) e in
          let few : sum_of (wrong o i) (byte_at i s).stream.requests ≤ 0 = subst (λ (x : Option Stream). sum_of (wrong o i) (requests_at x) ≤ 0) before k in
          let n = byte_readable-hands i (wrong o i) weight weighs operation (byte_acts i s) in
          let none = read-right operation h in
          let b : byte.Acts = byte_readable_operation i operation (byte_acts i s) in
          let both : sum_of (wrong o i) b.slots.stream.requests + sum_of weight b.out.effects ≤ 0 = omega (arith, few, n, none) in
          let now : slice_get (put_byte i s b).slots.streams i.0 ≡ Some (ByteStream b.slots) = rw e at (on_byte-same (byte_readable_operation i operation) i s e) in
          let all : Both (put_byte i s b) = rw now both in
          rw e all

      readable-both : (s : Slots) (operation : ReadableOperation) → Home o (OnReadable i operation) → AtHome o i s → Both (on_source operation i s)
      readable-both s operation h k =
          either Both (has_byte i s) (on_byte (byte_readable_operation i operation) i s) (on_readable (readable_operation i operation) i s) (λ e. source-both s operation e h k) (λ e. default-both s operation h k)

      byte-both : (s : Slots) (operation : ByteOperation) → Home o (Byte i operation) → AtHome o i s → Both (on_byte (byte_operation i operation) i s)
      byte-both s operation h k = by (has_byte i s) refl
        where
          by : (there : Bool) → there ≡ has_byte i s → Both (on_byte (byte_operation i operation) i s)
          by false e = rw (← e) (omega (arith, k))
          by true e =
              let before = byte_there (slice_get s.streams i.0) (sym e) in
              let few : sum_of (wrong o i) (byte_at i s).stream.requests ≤ 0 = subst (λ (x : Option Stream). sum_of (wrong o i) (requests_at x) ≤ 0) before k in
              let n = byte-hands i (wrong o i) weight weighs operation (byte_acts i s) in
              let none = into-right operation h in
              let b : byte.Acts = byte_operation i operation (byte_acts i s) in
              let both : sum_of (wrong o i) b.slots.stream.requests + sum_of weight b.out.effects ≤ 0 = omega (arith, few, n, none) in
              let now : slice_get (put_byte i s b).slots.streams i.0 ≡ Some (ByteStream b.slots) = rw (← e) at (on_byte-same (byte_operation i operation) i s (sym e)) in
              let all : Both (put_byte i s b) = rw now both in
              rw (← e) all

      readable-at : (operation : ReadableOperation) → Causes At (OnReadable i operation)
      readable-at operation = grind arith

      byte-at : (operation : ByteOperation) → Causes At (Byte i operation)
      byte-at operation = grind arith

    -- the requests of each stream, after each effect

    readable-home : (s : Slots) (i j : StreamId) (operation : ReadableOperation) (same : Bool) → same ≡ is_same i j → Home o (OnReadable j operation) → AtHome o i s → AtHome o i (on_source operation j s).slots
    readable-home s i j operation false n h k = rw (on_source-other operation j s i (sym n)) k
    readable-home s i j operation true e h k =
        subst (λ (z : StreamId). Home o (OnReadable z operation) → AtHome o i (on_source operation z s).slots) (same_id i j (sym e)) (λ g. let b = readable-both i s operation g k in omega (arith, b)) h

    byte-home : (s : Slots) (i j : StreamId) (operation : ByteOperation) (same : Bool) → same ≡ is_same i j → Home o (Byte j operation) → AtHome o i s → AtHome o i (on_byte (byte_operation j operation) j s).slots
    byte-home s i j operation false n h k = rw (on_byte-other (byte_operation j operation) j s i (sym n)) k
    byte-home s i j operation true e h k =
        subst (λ (z : StreamId). Home o (Byte z operation) → AtHome o i (on_byte (byte_operation z operation) z s).slots) (same_id i j (sym e)) (λ g. let b = byte-both i s operation g k in omega (arith, b)) h

    writable-home : (s : Slots) (i j : StreamId) (operation : WritableOperation) (same : Bool) → same ≡ is_same i j → AtHome o i s → AtHome o i (on_writable (writable_operation j operation) j s).slots
    writable-home s i j operation false n k = rw (on_writable-other (writable_operation j operation) j s i (sym n)) k
    writable-home s i j operation true e k = by (has_writable i s) refl
      where
        is : i ≡ j
        is = same_id i j (sym e)

        by : (there : Bool) → there ≡ has_writable i s → AtHome o i (on_writable (writable_operation j operation) j s).slots
        by false n = rw (← is, ← n) k
        by true n = rw (← is, on_writable-same (writable_operation i operation) i s (sym n)) (omega arith)

    row-requests : (s : Slots) (e : Effect) (i : StreamId) → Home o e → AtHome o i s → AtHome o i (row e s).slots
    unfolding row
    row-requests s (OnReadable j operation) i h k = readable-home s i j operation (is_same i j) refl h k
    row-requests s (Byte j operation) i h k = byte-home s i j operation (is_same i j) refl h k
    row-requests s (OnWritable j operation) i h k = writable-home s i j operation (is_same i j) refl k
    row-requests s e i h k = rw (row-streams e s tt) k

    -- what is caused

    transform_home : (me : TransformId) (writable readable : StreamId) (e : Effect) → TransformCauses me writable readable e → Home o e
    transform_home me writable readable e c = grind (arith, c)

    port_home : (c : PortId) (stream : StreamId) (e : Effect) → PortCauses c stream e → Home o e
    port_home c stream e k = grind (arith, k)

    abbrev IsOther : Effect → Type 0
    IsOther (OnReadable i operation) = ⊥
    IsOther (Byte i operation) = ⊥
    IsOther (OnPipe p operation) = ⊥
    IsOther (OnTee u operation) = ⊥
    IsOther _ = Unit {0}

    other-home : (e : Effect) → IsOther e → Causes (Home o) e
    other-home e n = grind (arith, n, transform_home, port_home)

  -- a read that is fair, and of the tee nowhere else
  abbrev Away : Option TeeShape → Effect → Type 0
  Away None (OnReadable i (Read q)) = is_tee t q ≡ 0
  Away (Some x) (OnReadable i (Read q)) = is_same i x.source ≡ false → is_tee t q ≡ 0
  Away o (OnReadable i operation) = Unit {0}
  Away o (Byte i (PullInto room element minimum q)) = ⊥
  Away o (ChunkSteps i q v) = ⊥
  Away o e = Unit {0}

  own_request : other_tee t (TeeRequest t) ≡ 0
  own_request = let self : nat_eq t.0 t.0 ≡ true = grind arith in rw self refl

  read-home : (x : TeeShape) (i : StreamId) (q : ReadRequest) (same : Bool) → same ≡ is_same i x.source → (is_same i x.source ≡ true → q ≡ TeeRequest t) → (is_same i x.source ≡ false → is_tee t q ≡ 0) → wrong (Some x) i q ≡ 0
  read-home x i q true e f a = rw (← e) (ap (other_tee t) (f (sym e)) ∙ own_request)
  read-home x i q false e f a = rw (← e) (a (sym e))

  away-home : (x : TeeShape) (e : Effect) → Fair t x.source e → Away (Some x) e → Home (Some x) e
  away-home x (OnReadable i (Read q)) f a = read-home x i q (is_same i x.source) refl f a
  away-home x (OnReadable i operation) f a = tt
  away-home x (Byte i (PullInto room element minimum q)) f a = absurd a
  away-home x (Byte i operation) f a = tt
  away-home x (ChunkSteps i q v) f a = absurd a
  away-home x e f a = tt

  none-home : (e : Effect) → Away None e → Home None e
  none-home (OnReadable i (Read q)) a = a
  none-home (OnReadable i operation) a = tt
  none-home (Byte i (PullInto room element minimum q)) a = absurd a
  none-home (Byte i operation) a = tt
  none-home (ChunkSteps i q v) a = absurd a
  none-home e a = tt

  homes : (o : Option TeeShape) (es : List Effect) → ((x : TeeShape) → o ≡ Some x → Each (Fair t x.source) es) → Each (Away o) es → Each (Home o) es
  homes o [] f a = tt
  homes None (e ∷ es) f a = (none-home e a.0, homes None es (λ x e. cc) a.1)
  homes (Some x) (e ∷ es) f a = (away-home x e (f x refl).0 a.0, homes (Some x) es (λ y is. (f y is).1) a.1)

  pipe-away : (o : Option TeeShape) (p : PipeId) (source dest : StreamId) (e : Effect) → PipeCauses p source dest e → Away o e
  pipe-away None p source dest (OnReadable i (Read q)) c = ap (is_tee t) c.1
  pipe-away (Some x) p source dest (OnReadable i (Read q)) c = λ h. ap (is_tee t) c.1
  pipe-away None p source dest e c = grind (arith, c)
  pipe-away (Some x) p source dest e c = grind (arith, c)

  tee-away : (s : Slots) (u : TeeId) (y : tee.Slots) → slice_get s.tees u.0 ≡ Some y → (o : Option TeeShape) → slice_get (tee_shapes s) t.0 ≡ o → (e : Effect) → TeeCauses u y.source y.branch1 y.branch2 e → Away o e
  tee-away s u y at o is e c = by o is e c
    where
      same-shape : (o : Option TeeShape) → slice_get (tee_shapes s) t.0 ≡ o → nat_eq t.0 u.0 ≡ true → o ≡ Some (tee_shape y)
      same-shape o is same =
          let there = map-there tee_shape s.tees u.0 y at in
          sym is ∙ (ap (slice_get (tee_shapes s)) (eq_numbers t.0 u.0 same) ∙ there)

      far : (same : Bool) → same ≡ nat_eq t.0 u.0 → (nat_eq t.0 u.0 ≡ true → ⊥) → is_tee t (TeeRequest u) ≡ 0
      far true e n = absurd (n (sym e))
      far false e n = rw (← e) refl

      by : (o : Option TeeShape) → slice_get (tee_shapes s) t.0 ≡ o → (e : Effect) → TeeCauses u y.source y.branch1 y.branch2 e → Away o e
      by None is (OnReadable i (Read q)) c = ap (is_tee t) c.1 ∙ far (nat_eq t.0 u.0) refl (λ h. let wrong = same-shape None is h in cc)
      by (Some x) is (OnReadable i (Read q)) c = λ apart. ap (is_tee t) c.1 ∙ far (nat_eq t.0 u.0) refl
          (λ h.
          let both = same-shape (Some x) is h in
          let shape : x ≡ tee_shape y = cc in
          let source : x.source ≡ y.source = ap (λ (z : TeeShape). z.source) shape in
          let here : is_same i x.source ≡ true = rw (c.0, source) (is_same-refl y.source) in cc)
      by None is e c = grind (arith, c)
      by (Some x) is e c = grind (arith, c)

  each-left : (P : Effect → Type 0) (xs ys : List Effect) → Each P (xs ++ ys) → Each P xs
  each-left P [] ys h = tt
  each-left P (x ∷ xs) ys h = (h.0, each-left P xs ys h.1)

  caused-home : (s : Slots) (e : Effect) (o : Option TeeShape) → slice_get (tee_shapes s) t.0 ≡ o → ((x : TeeShape) → o ≡ Some x → Each (Fair t x.source) (row e s).caused) → Home o e → ((i : StreamId) → AtHome o i s)
      → Each (Home o) (row e s).caused
  unfolding row
  caused-home s (OnReadable i operation) o is fair h k =
      let b = readable-both o i s operation h (k i) in
      all-home o i (on_source operation i s).caused (row-causes (At o i) (OnReadable i operation) s (readable-at o i operation)) (omega (arith, b))
  caused-home s (Byte i operation) o is fair h k =
      let b = byte-both o i s operation h (k i) in
      all-home o i (on_byte (byte_operation i operation) i s).caused (row-causes (At o i) (Byte i operation) s (byte-at o i operation)) (omega (arith, b))
  caused-home s (OnPipe p operation) o is fair h k = homes o _ fair (by (slice_get s.pipes p.0))
    where
      by : (x : Option pipe.Slots) → Each (Away o) (on_pipe_at (λ ends. pipe_operation p ends operation) p s x).caused
      by None = tt
      by (Some x) = each-map (PipeCauses p x.source x.dest) (Away o) (pipe-away o p x.source x.dest) _ (pipe-causes p (ends_at x s) operation (starting x s.promises) tt).1.1
  caused-home s (OnTee u operation) o is fair h k = homes o _ fair (by (slice_get s.tees u.0) refl)
    where
      by : (x : Option tee.Slots) → slice_get s.tees u.0 ≡ x → Each (Away o) (on_tee_at (tee_operation u operation) u s x).caused
      by None e = tt
      by (Some y) e = each-map (TeeCauses u y.source y.branch1 y.branch2) (Away o) (tee-away s u y e o is) _ ((tee-causes u operation (record { slots = y; out = found s })).effects tt)
  caused-home s e o is fair h k = row-causes (Home o) e s (other-home o e tt)

  -- at each moment of a run
  pub record Right (s : Slots) (es : List Effect) : Type 0 where
    pub home : Each (Home (slice_get (tee_shapes s) t.0)) es
    pub requests : (i : StreamId) → AtHome (slice_get (tee_shapes s) t.0) i s

  pub row-right : (s : Slots) (e : Effect) (es : List Effect) → Owned t (row e s).slots ((row e s).caused ++ es) → Right s (e ∷ es) → Right (row e s).slots ((row e s).caused ++ es)
  row-right s e es owned k =
      let o : Option TeeShape = slice_get (tee_shapes s) t.0 in
      let same : slice_get (tee_shapes (row e s).slots) t.0 ≡ o = ap (λ (xs : List TeeShape). slice_get xs t.0) (row-tee_shapes e s) in
      let fair : (x : TeeShape) → o ≡ Some x → Each (Fair t x.source) (row e s).caused = λ x is. each-left (Fair t x.source) (row e s).caused es (owned.fair x (same ∙ is)) in
      record {
        home = rw same (each-append (Home o) (row e s).caused es (caused-home s e o refl fair k.home.0 k.requests) k.home.1);
        requests = λ i. rw same (row-requests o s e i k.home.0 (k.requests i));
      }

  -- calls and jobs

  abbrev Free : StreamId → Slots → Type 0
  Free i s = sum_of (is_tee t) (requests_at (slice_get s.streams i.0)) ≤ 0

  stream-made : (i : StreamId) (x : Stream) (s : Slots) → requests_at (Some x) ≡ [] → Free i s → sum_of (is_tee t) (requests_at (slice_get (s.streams ++ x ∷ []) i.0)) ≤ 0
  stream-made i x s none k = by (nat_eq i.0 (length s.streams)) refl
    where
      by : (here : Bool) → here ≡ nat_eq i.0 (length s.streams) → sum_of (is_tee t) (requests_at (slice_get (s.streams ++ x ∷ []) i.0)) ≤ 0
      by false n = rw (place_before s.streams x i.0 (unequal_numbers i.0 (length s.streams) (sym n))) k
      by true e =
          let now : slice_get (s.streams ++ x ∷ []) i.0 ≡ Some x = rw (eq_numbers i.0 (length s.streams) (sym e)) (place_last s.streams x) in
          rw (now, none) (omega arith)

  call-free : (c : Call) (s : Slots) (i : StreamId) → Free i s → Free i (begin c s).done.slots
  call-free c s i k = begin-makes (Free i) (record {
    promise = λ z k. k;
    locks = λ z ls k. k;
    hosts = λ z hs k. k;
    pipe = λ z source dest prevent signal promise k. k;
    signal = λ z k. k;
    transform = λ z kind a b change k. k;
    tee = λ z source first second cancel k. k;
    port = λ z side stream backpressure k. k;
    readable = λ z owner mark size k. stream-made i (ReadableStream (readable.set_up owner mark size)) z refl k;
    bytes = λ z mark auto k. stream-made i (ByteStream (byte.set_up mark auto)) z refl k;
    byob_requests = λ z requests k. k;
    writable = λ z owner mark size k. stream-made i (WritableStream (writable.set_up owner mark size)) z refl k;
  }) c s k

  sum-same : (f g : ReadRequest → ℕ) → ((q : ReadRequest) → f q ≡ g q) → (rs : List ReadRequest) → sum_of f rs ≡ sum_of g rs
  sum-same f g h [] = refl
  sum-same f g h (r ∷ rs) = let one = h r in let rest = sum-same f g h rs in omega (arith, one, rest)

  count-sum : (w : ReadRequest → ℕ) (rs : List ReadRequest) → sum_of w rs ≡ count w rs
  count-sum w [] = refl
  count-sum w (r ∷ rs) = let n = count-sum w rs in omega (arith, n)

  by-same : (x : TeeShape) (i : StreamId) (same : Bool) → is_same i x.source ≡ same → (rs : List ReadRequest) → sum_of (wrong (Some x) i) rs ≡ sum_of (λ q. if same then other_tee t q else is_tee t q) rs
  by-same x i same e rs = sum-same (wrong (Some x) i) (λ q. if same then other_tee t q else is_tee t q) (λ q. ap (λ (b : Bool). if b then other_tee t q else is_tee t q) e) rs

  call-requests : (c : Call) (s : Slots) (i : StreamId) (o z : Option TeeShape) → slice_get (tee_shapes s) t.0 ≡ o → slice_get (tee_shapes (begin c s).done.slots) t.0 ≡ z → Owned t (begin c s).done.slots (begin c s).done.caused → AtHome o i s
      → AtHome z i (begin c s).done.slots
  call-requests c s i None None before now owned k = call-free c s i k
  call-requests c s i (Some y) None before now owned k = let there = call-among_tees c s t y before in let no : Some y ≡ None = sym there ∙ now in cc
  call-requests c s i o (Some x) before now owned k = by (is_same i x.source) refl o before k
    where
      rs : List ReadRequest
      rs = requests_at (slice_get (begin c s).done.slots.streams i.0)

      shape : (y : TeeShape) → ◌≡◌ {A = Option TeeShape} (Some y) (Some x) → y ≡ x
      shape y e = cc

      by : (same : Bool) → same ≡ is_same i x.source → (o : Option TeeShape) → slice_get (tee_shapes s) t.0 ≡ o → AtHome o i s → AtHome (Some x) i (begin c s).done.slots
      by true e o before k =
          let own = owned.requests x now in
          let here : count (other_tee t) (requests_at (slice_get (begin c s).done.slots.streams i.0)) ≤ 0 =
          subst (λ (j : StreamId). count (other_tee t) (requests_at (slice_get (begin c s).done.slots.streams j.0)) ≤ 0) (sym (same_id i x.source (sym e))) own in
          let n = by-same x i true (sym e) (requests_at (slice_get (begin c s).done.slots.streams i.0)) in
          let m = count-sum (other_tee t) (requests_at (slice_get (begin c s).done.slots.streams i.0)) in omega (arith, here, n, m)
      by false e None before k =
          let free = call-free c s i k in
          let n = by-same x i false (sym e) (requests_at (slice_get (begin c s).done.slots.streams i.0)) in omega (arith, free, n)
      by false e (Some y) before k =
          let same : y ≡ x = shape y (sym (call-among_tees c s t y before) ∙ now) in
          let m = by-same x i false (sym e) (requests_at (slice_get s.streams i.0)) in
          let old : sum_of (wrong (Some x) i) (requests_at (slice_get s.streams i.0)) ≤ 0 = subst (λ (z : TeeShape). AtHome (Some z) i s) same k in
          let free = call-free c s i (omega (arith, old, m)) in
          let n = by-same x i false (sym e) (requests_at (slice_get (begin c s).done.slots.streams i.0)) in omega (arith, free, n)

  new-home : (o : Option TeeShape) (e : Effect) → ((x : TeeShape) → o ≡ Some x → Fair t x.source e) → IsFirst Any e → IsNone t e → Home o e
  new-home None (OnReadable i (Read q)) f first none = none
  new-home (Some x) (OnReadable i (Read q)) f first none = read-home x i q (is_same i x.source) refl (f x refl) (λ h. none)
  new-home o (OnReadable i operation) f first none = tt
  new-home None (Byte i (PullInto room element minimum q)) f first none = none
  new-home (Some x) (Byte i (PullInto room element minimum q)) f first none = read-home x i q (is_same i x.source) refl (λ h. absurd (f x refl h)) (λ h. none)
  new-home o (Byte i operation) f first none = tt
  new-home o (ChunkSteps i q v) f first none = absurd first
  new-home o e f first none = tt

  news-home : (o : Option TeeShape) (es : List Effect) → ((x : TeeShape) → o ≡ Some x → Each (Fair t x.source) es) → Each (IsFirst Any) es → Each (IsNone t) es → Each (Home o) es
  news-home o [] f first none = tt
  news-home o (e ∷ es) f first none = (new-home o e (λ x is. (f x is).0) first.0 none.0, news-home o es (λ x is. (f x is).1) first.1 none.1)

  pub call-right : (s : Slots) (c : Call) → Owned t (begin c s).done.slots (begin c s).done.caused → Right s [] → Right (begin c s).done.slots (begin c s).done.caused
  call-right s c owned k = record {
    home = news-home (slice_get (tee_shapes (begin c s).done.slots) t.0) (begin c s).done.caused owned.fair (each-any (Enqueues c) (begin c s).done.caused (begin-first c s)) (call_none t c s);
    requests = λ i. call-requests c s i (slice_get (tee_shapes s) t.0) (slice_get (tee_shapes (begin c s).done.slots) t.0) refl refl owned (k.requests i);
  }

  job_home : (o : Option TeeShape) (job : Job) → Each (Home o) (job_effects job)
  job_home o job = grind arith

  pub record Reads (s : Slots) (es : List Effect) : Type 0 where
    pub owned : Owned t s es
    pub right : Right s es

  pub reads-stays : Stays Reads
  reads-stays = record {
    row = λ s e es k. let owned = (owned-stays t).row s e es k.owned in record { owned = owned; right = row-right s e es owned k.right };
    call = λ s c k. let owned = (owned-stays t).call s c k.owned in record { owned = owned; right = call-right s c owned k.right };
    job = λ s job e k. record { owned = (owned-stays t).job s job e k.owned; right = record { home = job_home (slice_get (tee_shapes s) t.0) job; requests = k.right.requests } };
    answered = λ s p k. record { owned = (owned-stays t).answered s p k.owned; right = record { home = tt; requests = k.right.requests } };
    older = λ s k. record { owned = (owned-stays t).older s k.owned; right = record { home = tt; requests = k.right.requests } };
  }

  pub reads-heard : (s : Slots) → Reads s [] → Reads (after_event s) []
  reads-heard s k = record { owned = owned-heard t s k.owned; right = record { home = tt; requests = k.right.requests } }

  pub reads-empty : Reads empty []
  reads-empty = record { owned = owned-empty t; right = record { home = tt; requests = λ i. omega arith } }
