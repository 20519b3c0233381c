-- Where the source of a tee has errored, no chunk of it is on its way to the tee: chunk steps stand behind nothing that may lead to an error.
use Rattle.std.proofs.Common.{◌≡◌, ◌⊎◌, inl, inr, ⊎_elim, ℕ, zero, suc, Bool, true, false, if◌then◌else◌, List, [], ◌∷◌, ◌++◌, map, Option, Some, None, slice_get, refl, sym, ap, subst, ◌∙◌, arith}
use Rattle.std.proofs.Common.{length}
use Rattle.ws_laws.proofs.PortDoes.{PortCauses}
use Rattle.ws_value.specs.declared.ids.PortId.{PortId}
use Rattle.ws_value.specs.declared.ids.{PipeId.{PipeId}, PromiseId.{PromiseId}, StreamId.{StreamId}, TeeId.{TeeId}}
use Rattle.ws_value.specs.declared.value.{Plain.{Plain}, Value.{Value}}
use Rattle.ws_steps.specs.declared.byte.ByteOperation.{ByteOperation}
use Rattle.ws_steps.specs.declared.{calls.Call.{Call}}
use Rattle.ws_steps.specs.declared.effects.{Effect.{Effect}, Effect.TheVariants.{Readable as OnReadable, Byte, Writable as OnWritable, Tee as OnTee, ChunkSteps}}
use Rattle.ws_steps.specs.declared.queue.Queued.{Queued}
use Rattle.ws_steps.specs.declared.readable.{ReadRequest.{ReadRequest}, ReadRequest.TheVariants.{Promise, Pipe as PipeRequest, Tee as TeeRequest}, ReadableOperation.{ReadableOperation}, ReadableState.{ReadableState}, ReadableState.TheVariants.{Readable, Closed, Errored}}
use Rattle.ws_steps.specs.declared.readable.ReadableOperation.TheVariants as names
use Rattle.ws_steps.specs.declared.tee.{TeeOperation.TheVariants.{KeepChunk}}
use Rattle.ws_steps.specs.declared.transform.TransformId.{TransformId}
use Rattle.ws_steps.specs.declared.writable.WritableOperation.{WritableOperation}
use Rattle.ws_steps.specs.Begun.{Begun}
use Rattle.ws_steps.specs.PipeCalls.{add_port}
use Rattle.ws_steps.specs.Calls.{begin}
use Rattle.ws_steps.specs.Effects.{Out}
use Rattle.ws_steps.specs.Histories.{is_same}
use Rattle.ws_steps.specs.Jobs.{job_effects}
use Rattle.ws_steps.specs.Operations.{readable_operation, byte_operation, writable_operation}
use Rattle.ws_steps.specs.Readable.{Acts, waiting, can_close_or_enqueue, call_pull_if_needed, accept_for, accept, controller_enqueue, stream_close, close_if_empty, controller_close, after_take, pull_from, pull_steps, read_by, default_reader_read, reader_generic_initialize, disturb, cancel_readable_by, cancel_if_readable, cancel_steps, cancel_by, stream_cancel, reader_release}
use Rattle.ws_steps.specs.Run.{after_event}
use Rattle.ws_steps.specs.Slots.{Slots, Stream, ReadableStream, ByteStream, WritableStream, empty, has_readable, has_byte, has_writable, readable_at, is_readable_stream, is_byte_stream, is_writable_stream, as_readable, on_readable, on_byte, on_writable}
use Rattle.ws_steps.specs.Tee as tee
use Rattle.ws_steps.specs.Turns.{row, on_source}
use Rattle.ws_laws.proofs.EachCall.{each_call}
use Rattle.ws_laws.proofs.Lists.{Each, each-append, each-map}
use Rattle.ws_laws.proofs.PipeDoes.{PipeCauses}
use Rattle.ws_laws.proofs.ReadableDoes.{OfReadableEnds, is_taking, ends-do}
use Rattle.ws_laws.proofs.Apart.{row-streams}
use Rattle.ws_laws.proofs.Causes.{Causes, row-causes}
use Rattle.ws_laws.proofs.Shapes.{TeeShape, StreamShape, ReadableOf, BytesOf, WritableOf, stream_shape, tee_shape, tee_shapes, row-stream_shapes, row-tee_shapes}
use Rattle.ws_laws.proofs.Tables.{same_id, readable_acts, readable_there, on_readable-same, on_source-other, on_byte-other, on_writable-other}
use Rattle.ws_laws.proofs.TeeDoes.{TeeCauses}
use Rattle.ws_laws.proofs.TransformDoes.{TransformCauses}
use Rattle.ws_laws.proofs.Walker.{Stays}
use Rattle.ws_tee_port_laws.proofs.tees.Dangers.{danger, Safe, row-safe}
use Rattle.ws_pipe_laws.proofs.locks.TeeOwning.{other_tee}
use Rattle.ws_tee_port_laws.proofs.tees.Homes.{Home, Reads, reads-stays, reads-heard, reads-empty}
use Rattle.ws_tee_port_laws.proofs.tees.OneRead.{is_tee, one_of, IsNone, call_none, job_none}
use Rattle.ws_steps.specs.declared.port.Side.{Side}
use Rattle.ws_steps.specs.declared.port.Side.TheVariants.{Readable as ReadableSide, Writable as WritableSide}

-- operations by which a readable stream doesn't error

module _ (me : StreamId) where
  -- it has errored after an operation only where it had before
  abbrev Kept : Acts → Acts → Type 0
  Kept a b = b.slots.state ≡ Errored → a.slots.state ≡ Errored

  pull-kept : (a : Acts) → Kept a (call_pull_if_needed me a)
  unfolding call_pull_if_needed
  pull-kept a = grind arith

  close-kept : (a : Acts) → Kept a (stream_close me a)
  unfolding stream_close
  close-kept a = grind arith

  accept-kept : (x : Value) (a : Acts) (rs : List ReadRequest) → Kept a (accept_for me x a rs)
  accept-kept x a rs = grind arith

  enqueue-kept : (x : Value) (a : Acts) → Kept a (controller_enqueue me x a)
  unfolding controller_enqueue accept
  enqueue-kept x a = let h = accept-kept x a (waiting a.slots) in let g = pull-kept (accept me x a) in grind (arith, h, g)

  closing-kept : (a : Acts) → Kept a (controller_close me a)
  unfolding controller_close close_if_empty
  closing-kept a = let h = close-kept (record a { slots = record a.slots { close_requested = true } }) in grind (arith, h)

  after-kept : (a : Acts) → Kept a (after_take me a)
  unfolding after_take
  after-kept a = let h = close-kept a in let g = pull-kept a in grind (arith, h, g)

  from-kept : (q : ReadRequest) (a : Acts) (queue : List (Queued Value)) → Kept a (pull_from me q a queue)
  from-kept q a [] = pull-kept (record a { slots = record a.slots { requests = a.slots.requests ++ q ∷ [] } })
  from-kept q a (x ∷ xs) = after-kept (record a { slots = record a.slots { queue = xs } })

  read-kept : (q : ReadRequest) (a : Acts) (state : ReadableState) → Kept a (read_by me q a state)
  unfolding pull_steps
  read-kept q a Readable = from-kept q a a.slots.queue
  read-kept q a Closed = λ h. h
  read-kept q a Errored = λ h. h

  initialize-kept : (closed : PromiseId) (a : Acts) → Kept a (reader_generic_initialize closed a)
  unfolding reader_generic_initialize
  initialize-kept closed a = grind arith

  release-kept : (a : Acts) → Kept a (reader_release me a)
  unfolding reader_release
  release-kept a = grind arith

  cancel-kept : (e : Plain) (q : PromiseId) (a : Acts) (state : ReadableState) → Kept a (cancel_by me e q a state)
  unfolding cancel_steps
  cancel-kept e q a state = let h = close-kept a in grind (arith, h)

  cancel_readable-kept : (e : Plain) (q : PromiseId) (a : Acts) (state : ReadableState) → Kept a (cancel_readable_by me e q a state)
  unfolding stream_cancel
  cancel_readable-kept e q a Readable = cancel-kept e q (record a { slots = record a.slots { disturbed = true } }) a.slots.state
  cancel_readable-kept e q a Closed = λ h. h
  cancel_readable-kept e q a Errored = λ h. h

  safe-kept : (operation : ReadableOperation) (a : Acts) → Safe (OnReadable me operation) → Kept a (readable_operation me operation a)
  unfolding disturb default_reader_read cancel_if_readable stream_cancel
  safe-kept (names.InitializeReader closed) a s = initialize-kept closed a
  safe-kept names.ReleaseReader a s = release-kept a
  safe-kept names.Disturb a s = λ h. h
  safe-kept (names.Read q) a s = read-kept q (record a { slots = record a.slots { disturbed = true } }) a.slots.state
  safe-kept (names.Cancel e q) a s = cancel-kept e q (record a { slots = record a.slots { disturbed = true } }) a.slots.state
  safe-kept (names.CancelIfReadable e q) a s = cancel_readable-kept e q a a.slots.state
  safe-kept (names.Enqueue x) a s = enqueue-kept x a
  safe-kept names.Close a s = closing-kept a
  safe-kept (names.Error e) a s = cc
  safe-kept (names.StartSettled o) a s = cc
  safe-kept (names.PullSettled o) a s = cc

module _ (t : TeeId) where
  -- a chunk on its way to the tee
  abbrev pub gift : Effect → ℕ
  gift (ChunkSteps j q v) = is_tee t q
  gift (OnTee u (KeepChunk v)) = one_of t u
  gift _ = 0

  abbrev pub NoGift : Effect → Type 0
  NoGift e = gift e ≡ 0

  abbrev NoGifts : Acts → Type 0
  NoGifts a = Each NoGift a.out.effects

  module _ (me : StreamId) where
    ends : OfReadableEnds (λ (x : Out). Each NoGift x.effects) me
    ends = record {
      settle = λ x p o h. h;
      pull = λ x h. each-append NoGift x.effects _ h (refl, tt);
      cancel = λ x r p h. each-append NoGift x.effects _ h (refl, tt);
      close = λ x r h. each-append NoGift x.effects _ h (refl, tt);
      error = λ x r e h. each-append NoGift x.effects _ h (refl, tt);
    }

    -- operations that take nothing
    ends-none : (operation : ReadableOperation) (a : Acts) → is_taking operation ≡ false → NoGifts a → NoGifts (readable_operation me operation a)
    ends-none operation a n h = ends-do (λ (x : Out). Each NoGift x.effects) me ends operation a n h

    shut : (a : Acts) → a.slots.state ≡ Errored → can_close_or_enqueue a.slots ≡ false
    shut a e = grind (arith, e)

    read-none : (q : ReadRequest) (a : Acts) (state : ReadableState) → state ≡ Errored → NoGifts a → NoGifts (read_by me q a state)
    read-none q a Readable e h = cc
    read-none q a Closed e h = cc
    read-none q a Errored e h = each-append NoGift a.out.effects _ h (refl, tt)

    errored-none : (operation : ReadableOperation) (a : Acts) → a.slots.state ≡ Errored → NoGifts a → NoGifts (readable_operation me operation a)
    unfolding controller_enqueue default_reader_read
    errored-none (names.Enqueue x) a e h = rw (shut a e) h
    errored-none (names.Read q) a e h = read-none q (record a { slots = record a.slots { disturbed = true } }) a.slots.state e h
    errored-none operation a e h = ends-none operation a refl h

    danger-none : (operation : ReadableOperation) (a : Acts) → danger (OnReadable me operation) ≡ true → NoGifts a → NoGifts (readable_operation me operation a)
    danger-none (names.Enqueue x) a d h = cc
    danger-none (names.Read q) a d h = cc
    danger-none operation a d h = ends-none operation a refl h

  -- what is caused by no operation of a stream, and by no chunk steps

  transform_none : (me : TransformId) (writable readable : StreamId) (e : Effect) → TransformCauses me writable readable e → NoGift e
  transform_none me writable readable e c = grind (arith, c)

  pipe_none : (p : PipeId) (source dest : StreamId) (e : Effect) → PipeCauses p source dest e → NoGift e
  pipe_none p source dest e c = grind (arith, c)

  tee_none : (u : TeeId) (source first second : StreamId) (e : Effect) → TeeCauses u source first second e → NoGift e
  tee_none u source first second e c = grind (arith, c)

  port_none : (c : PortId) (stream : StreamId) (e : Effect) → PortCauses c stream e → NoGift e
  port_none c stream e k = grind (arith, k)

  abbrev IsOther : Effect → Type 0
  IsOther (OnReadable j operation) = ⊥
  IsOther (Byte j operation) = ⊥
  IsOther (ChunkSteps j q v) = ⊥
  IsOther _ = Unit {0}

  other-none : (e : Effect) → IsOther e → Causes NoGift e
  other-none e n = grind (arith, n, transform_none, pipe_none, tee_none, port_none)

  chunk-none : (j : StreamId) (q : ReadRequest) (v : Value) → NoGift (ChunkSteps j q v) → Causes NoGift (ChunkSteps j q v)
  chunk-none j (Promise p) v n = tt
  chunk-none j (PipeRequest p) v n = refl
  chunk-none j (TeeRequest u) v n = n

  -- of a stream: its own chunk steps alone
  abbrev Of : StreamId → Effect → Type 0
  Of j (ChunkSteps k q v) = k ≡ j
  Of j (OnTee u (KeepChunk v)) = ⊥
  Of j _ = Unit {0}

  readable-of : (j : StreamId) (operation : ReadableOperation) → Causes (Of j) (OnReadable j operation)
  readable-of j operation = grind arith

  byte-of : (j : StreamId) (operation : ByteOperation) → Causes (Of j) (Byte j operation)
  byte-of j operation = grind arith

  away-none : (x : TeeShape) (j : StreamId) → is_same j x.source ≡ false → (e : Effect) → Of j e → Home t (Some x) e → NoGift e
  away-none x j n (ChunkSteps k q v) is h = subst (λ (b : Bool). (if b then other_tee t q else is_tee t q) ≡ 0) (ap (λ (z : StreamId). is_same z x.source) is ∙ n) h
  away-none x j n (OnTee u (KeepChunk v)) is h = absurd is
  away-none x j n (OnTee u operation) is h = refl
  away-none x j n e is h = refl

  aways-none : (x : TeeShape) (j : StreamId) → is_same j x.source ≡ false → (es : List Effect) → Each (Of j) es → Each (Home t (Some x)) es → Each NoGift es
  aways-none x j n [] a h = tt
  aways-none x j n (e ∷ es) a h = (away-none x j n e a.0 h.0, aways-none x j n es a.1 h.1)

  -- the source is a stream with a default controller

  pub readable-only : (o : Option Stream) → is_readable_stream o ≡ true → is_byte_stream o ≡ false
  readable-only o e = grind (arith, e)

  module _ (i : StreamId) (s : Slots) (kind : has_readable i s ≡ true) where
    pub no-byte : has_byte i s ≡ false
    no-byte = readable-only (slice_get s.streams i.0) kind

    source-caused : (operation : ReadableOperation) → NoGifts (readable_operation i operation (readable_acts i s)) → Each NoGift (on_source operation i s).caused
    source-caused operation h = rw (no-byte, kind) h

    byte-caused : (operation : ByteOperation) → Each NoGift (on_byte (byte_operation i operation) i s).caused
    byte-caused operation = rw no-byte tt

    there : slice_get s.streams i.0 ≡ Some (ReadableStream (readable_at i s))
    there = readable_there (slice_get s.streams i.0) kind

    source-state : (operation : ReadableOperation) → (readable_at i (on_source operation i s).slots).state ≡ (readable_operation i operation (readable_acts i s)).slots.state
    source-state operation =
        let now = on_readable-same (readable_operation i operation) i s kind in
        let same : (on_source operation i s).slots ≡ (on_readable (readable_operation i operation) i s).slots = rw no-byte refl in
        ap (λ (z : Slots). (as_readable (slice_get z.streams i.0)).state) same ∙ ap (λ (o : Option Stream). (as_readable o).state) now

  abbrev HasErrored : StreamId → Slots → Type 0
  HasErrored i s = (readable_at i s).state ≡ Errored

  same-state : (i : StreamId) (s z : Slots) → slice_get z.streams i.0 ≡ slice_get s.streams i.0 → HasErrored i z → HasErrored i s
  same-state i s z same h = sym (ap (λ (o : Option Stream). (as_readable o).state) same) ∙ h

  readable-kept : (i j : StreamId) (s : Slots) (operation : ReadableOperation) (same : Bool) → same ≡ is_same i j → has_readable i s ≡ true → Safe (OnReadable j operation) → HasErrored i (on_source operation j s).slots → HasErrored i s
  readable-kept i j s operation false n kind safe h = same-state i s (on_source operation j s).slots (on_source-other operation j s i (sym n)) h
  readable-kept i j s operation true e kind safe h =
      subst (λ (k : StreamId). Safe (OnReadable k operation) → HasErrored i (on_source operation k s).slots → HasErrored i s) (same_id i j (sym e))
      (λ f g. safe-kept i operation (readable_acts i s) f (sym (source-state i s kind operation) ∙ g)) safe h

  byte-kept : (i j : StreamId) (s : Slots) (operation : ByteOperation) (same : Bool) → same ≡ is_same i j → has_readable i s ≡ true → HasErrored i (on_byte (byte_operation j operation) j s).slots → HasErrored i s
  byte-kept i j s operation false n kind h = same-state i s (on_byte (byte_operation j operation) j s).slots (on_byte-other (byte_operation j operation) j s i (sym n)) h
  byte-kept i j s operation true e kind h =
      subst (λ (k : StreamId). HasErrored i (on_byte (byte_operation k operation) k s).slots → HasErrored i s) (same_id i j (sym e)) (λ g. rw (no-byte i s kind) at g) h

  pub readable-no-writable : (o : Option Stream) → is_readable_stream o ≡ true → is_writable_stream o ≡ false
  readable-no-writable o e = grind (arith, e)

  writable-kept : (i j : StreamId) (s : Slots) (operation : WritableOperation) (same : Bool) → same ≡ is_same i j → has_readable i s ≡ true → HasErrored i (on_writable (writable_operation j operation) j s).slots → HasErrored i s
  writable-kept i j s operation false n kind h = same-state i s (on_writable (writable_operation j operation) j s).slots (on_writable-other (writable_operation j operation) j s i (sym n)) h
  writable-kept i j s operation true e kind h =
      let none : has_writable i s ≡ false = readable-no-writable (slice_get s.streams i.0) kind in
      subst (λ (k : StreamId). HasErrored i (on_writable (writable_operation k operation) k s).slots → HasErrored i s) (same_id i j (sym e)) (λ g. rw none at g) h

  row-kept : (i : StreamId) (e : Effect) (s : Slots) → has_readable i s ≡ true → Safe e → HasErrored i (row e s).slots → HasErrored i s
  unfolding row
  row-kept i (OnReadable j operation) s kind safe h = readable-kept i j s operation (is_same i j) refl kind safe h
  row-kept i (Byte j operation) s kind safe h = byte-kept i j s operation (is_same i j) refl kind h
  row-kept i (OnWritable j operation) s kind safe h = writable-kept i j s operation (is_same i j) refl kind h
  row-kept i e s kind safe h = same-state i s (row e s).slots (ap (λ (xs : List Stream). slice_get xs i.0) (row-streams e s tt)) h

  -- what is caused has no gift, by what may lead to an error, or where the source has errored

  readable-none : (x : TeeShape) (j : StreamId) (s : Slots) (operation : ReadableOperation) (same : Bool) → same ≡ is_same j x.source → has_readable x.source s ≡ true → Each (Home t (Some x)) (on_source operation j s).caused
      → (danger (OnReadable j operation) ≡ true) ⊎ HasErrored x.source s → Each NoGift (on_source operation j s).caused
  unfolding row
  readable-none x j s operation false n kind home why = aways-none x j (sym n) (on_source operation j s).caused (row-causes (Of j) (OnReadable j operation) s (readable-of j operation)) home
  readable-none x j s operation true e kind home why =
      let is : j ≡ x.source = same_id j x.source (sym e) in
      subst (λ (k : StreamId). (danger (OnReadable k operation) ≡ true) ⊎ HasErrored x.source s → Each NoGift (on_source operation k s).caused) (sym is)
      (λ w. source-caused x.source s kind operation (⊎_elim (λ d. danger-none x.source operation (readable_acts x.source s) d tt) (λ h. errored-none x.source operation (readable_acts x.source s) h tt) w)) why

  bytes-none : (x : TeeShape) (j : StreamId) (s : Slots) (operation : ByteOperation) (same : Bool) → same ≡ is_same j x.source → has_readable x.source s ≡ true → Each (Home t (Some x)) (on_byte (byte_operation j operation) j s).caused
      → Each NoGift (on_byte (byte_operation j operation) j s).caused
  unfolding row
  bytes-none x j s operation false n kind home = aways-none x j (sym n) (on_byte (byte_operation j operation) j s).caused (row-causes (Of j) (Byte j operation) s (byte-of j operation)) home
  bytes-none x j s operation true e kind home = subst (λ (k : StreamId). Each NoGift (on_byte (byte_operation k operation) k s).caused) (sym (same_id j x.source (sym e))) (byte-caused x.source s kind operation)

  row-none : (x : TeeShape) (e : Effect) (s : Slots) → has_readable x.source s ≡ true → Each (Home t (Some x)) (row e s).caused → NoGift e → (danger e ≡ true) ⊎ HasErrored x.source s → Each NoGift (row e s).caused
  unfolding row
  row-none x (OnReadable j operation) s kind home none why = readable-none x j s operation (is_same j x.source) refl kind home why
  row-none x (Byte j operation) s kind home none why = bytes-none x j s operation (is_same j x.source) refl kind home
  row-none x (ChunkSteps j q v) s kind home none why = row-causes NoGift (ChunkSteps j q v) s (chunk-none j q v none)
  row-none x e s kind home none why = row-causes NoGift e s (other-none e tt)

  -- behind what may lead to an error stands no gift

  abbrev pub Ordered : List Effect → Type 0
  Ordered [] = Unit {0}
  Ordered (e ∷ es) = (danger e ≡ true → Each NoGift es) × Ordered es

  none-ordered : (es : List Effect) → Each NoGift es → Ordered es
  none-ordered [] n = tt
  none-ordered (e ∷ es) n = (λ d. n.1, none-ordered es n.1)

  safe-ordered : (es fs : List Effect) → Each Safe es → Ordered fs → Ordered (es ++ fs)
  safe-ordered [] fs s o = o
  safe-ordered (e ∷ es) fs s o = (λ d. let wrong = sym d ∙ s.0 in cc, safe-ordered es fs s.1 o)

  danger-gift : (e : Effect) → danger e ≡ true → NoGift e
  danger-gift e d = grind (arith, d)

  pub record Gifted (s : Slots) (es : List Effect) (x : TeeShape) : Type 0 where
    pub kind : has_readable x.source s ≡ true
    pub order : Ordered es
    pub errored : HasErrored x.source s → Each NoGift es

  row-readable : (i : StreamId) (e : Effect) (s : Slots) → has_readable i s ≡ true → has_readable i (row e s).slots ≡ true
  row-readable i e s h = told (row e s).slots.streams i.0 ∙ (ap (λ (xs : List StreamShape). shape_readable (slice_get xs i.0)) (row-stream_shapes e s) ∙ (sym (told s.streams i.0) ∙ h))
    where
      shape_readable : Option StreamShape → Bool
      shape_readable None = false
      shape_readable (Some (ReadableOf o)) = true
      shape_readable (Some BytesOf) = false
      shape_readable (Some (WritableOf o)) = false

      told : (xs : List Stream) (n : ℕ) → is_readable_stream (slice_get xs n) ≡ shape_readable (slice_get (map stream_shape xs) n)
      told [] n = refl
      told (ReadableStream r ∷ xs) zero = refl
      told (ByteStream b ∷ xs) zero = refl
      told (WritableStream w ∷ xs) zero = refl
      told (y ∷ xs) (suc n) = told xs n

  row-gifted : (s : Slots) (e : Effect) (es : List Effect) (x : TeeShape) → Each (Home t (Some x)) (row e s).caused → Gifted s (e ∷ es) x → Gifted (row e s).slots ((row e s).caused ++ es) x
  row-gifted s e es x home k = by (danger e) refl
    where
      by : (d : Bool) → danger e ≡ d → Gifted (row e s).slots ((row e s).caused ++ es) x
      by true d =
          let all = each-append NoGift (row e s).caused es (row-none x e s k.kind home (danger-gift e d) (inl d)) (k.order.0 d) in
          record { kind = row-readable x.source e s k.kind; order = none-ordered ((row e s).caused ++ es) all; errored = λ h. all }
      by false safe = record {
        kind = row-readable x.source e s k.kind;
        order = safe-ordered (row e s).caused es (row-safe e s safe) k.order.1;
        errored = λ h.
            let before = row-kept x.source e s k.kind safe h in
            let none = k.errored before in
            each-append NoGift (row e s).caused es (row-none x e s k.kind home none.0 (inr before)) none.1;
      }

  -- calls

  append-there : (xs ys : List Stream) (n : ℕ) → is_readable_stream (slice_get xs n) ≡ true → is_readable_stream (slice_get (xs ++ ys) n) ≡ true
  append-there [] ys n e = cc
  append-there (x ∷ xs) ys zero e = e
  append-there (x ∷ xs) ys (suc n) e = append-there xs ys n e

  old-or-new : (xs : List tee.Slots) (y : tee.Slots) (n : ℕ) (z : TeeShape) → slice_get (map tee_shape (xs ++ y ∷ [])) n ≡ Some z → (slice_get (map tee_shape xs) n ≡ Some z) ⊎ (tee_shape y ≡ z)
  old-or-new [] y zero z e = inr cc
  old-or-new [] y (suc n) z e = cc
  old-or-new (x ∷ xs) y zero z e = inl e
  old-or-new (x ∷ xs) y (suc n) z e = old-or-new xs y n z e

  abbrev IsKind : Slots → Type 0
  IsKind s = (x : TeeShape) → slice_get (tee_shapes s) t.0 ≡ Some x → has_readable x.source s ≡ true

  port-kind : (s : Slots) (side : Side) → IsKind s → IsKind (add_port (record { 0 = length s.streams }) s side)
  port-kind s ReadableSide k = λ x e. append-there s.streams _ x.source.0 (k x e)
  port-kind s WritableSide k = λ x e. append-there s.streams _ x.source.0 (k x e)

  call-kind : (c : Call) (s : Slots) → IsKind s → IsKind (begin c s).done.slots
  call-kind c s k = each_call (λ (b : Begun). IsKind b.done.slots) c s (record {
    unchanged = λ reply. k;
    rejected = λ fault. k;
    make_readable = λ mark size start x e. append-there s.streams _ x.source.0 (k x e);
    make_bytes = λ mark auto start x e. append-there s.streams _ x.source.0 (k x e);
    make_writable = λ mark size start x e. append-there s.streams _ x.source.0 (k x e);
    make_transform = λ kind m n start x e. append-there (s.streams ++ _ ∷ []) _ x.source.0 (append-there s.streams _ x.source.0 (k x e));
    make_tee = λ i c is free untied x e. append-there (s.streams ++ _ ∷ []) _ x.source.0
        (append-there s.streams _ x.source.0 (⊎_elim (λ old. k x old) (λ new. subst (λ (z : TeeShape). has_readable z.source s ≡ true) new is) (old-or-new s.tees _ t.0 x e)));
    get_reader = λ i f. k;
    get_byob = λ i is f. k;
    get_writer = λ i f. k;
    release_reader = λ l closed i f. k;
    release_byob = λ l closed i f. k;
    release_writer = λ l i w f g. k;
    cancel = λ reason i. k;
    read = λ l i closed f g. k;
    read_into = λ l i closed room element least f g. k;
    write = λ l v i f. k;
    close = λ i. k;
    abort = λ reason i f. k;
    enqueue = λ i v f o can. k;
    enqueue_half = λ i u v f o can. k;
    enqueue_bytes = λ i b f is some can. k;
    finish = λ i. k;
    finish_bytes = λ i f is can. k;
    make_request = λ i reply is. k;
    respond = λ q i b f is can. k;
    fail_readable = λ i reason. k;
    fail_writable = λ i reason. k;
    fail_half = λ u reason. k;
    terminate = λ u. k;
    pipe = λ source dest prevent signal f g l m. k;
    make_signal = k;
    open_end = λ side. port-kind s side k;
    send_readable = λ i there free. port-kind s WritableSide k;
    send_writable = λ i there free. port-kind s ReadableSide k;
    deliver = λ p m e is. k;
    trigger = λ a reason. k;
    settle = λ h answer p f. k;
  })

  one-none : (e : Effect) → IsNone t e → NoGift e
  one-none (ChunkSteps j q v) n = n
  one-none (OnTee u (KeepChunk v)) n = n
  one-none (OnTee u operation) n = refl
  one-none e n = refl

  -- at each moment of a run
  pub record Gifts (s : Slots) (es : List Effect) : Type 0 where
    pub reads : Reads t s es
    pub gifted : (x : TeeShape) → slice_get (tee_shapes s) t.0 ≡ Some x → Gifted s es x

  fresh-gifted : (s : Slots) (es : List Effect) (x : TeeShape) → has_readable x.source s ≡ true → Each NoGift es → Gifted s es x
  fresh-gifted s es x kind none = record { kind = kind; order = none-ordered es none; errored = λ h. none }

  row-gifts : (s : Slots) (e : Effect) (es : List Effect) → Gifts s (e ∷ es) → Gifts (row e s).slots ((row e s).caused ++ es)
  row-gifts s e es k =
      let reads = (reads-stays t).row s e es k.reads in
      record {
        reads = reads;
        gifted = λ x now.
            let before : slice_get (tee_shapes s) t.0 ≡ Some x = rw (row-tee_shapes e s) at now in
            let home : Each (Home t (Some x)) ((row e s).caused ++ es) = rw now at reads.right.home in
            row-gifted s e es x (left (Home t (Some x)) (row e s).caused es home) (k.gifted x before);
      }
    where
      left : (P : Effect → Type 0) (xs ys : List Effect) → Each P (xs ++ ys) → Each P xs
      left P [] ys h = tt
      left P (x ∷ xs) ys h = (h.0, left P xs ys h.1)

  pub gifts-stays : Stays Gifts
  gifts-stays = record {
    row = row-gifts;
    call = λ s c k. record {
      reads = (reads-stays t).call s c k.reads;
      gifted = λ x now. fresh-gifted (begin c s).done.slots (begin c s).done.caused x (call-kind c s (λ y e. (k.gifted y e).kind) x now)
          (each-map (IsNone t) NoGift one-none (begin c s).done.caused (call_none t c s));
    };
    job = λ s job e k. record {
      reads = (reads-stays t).job s job e k.reads;
      gifted = λ x now. fresh-gifted _ (job_effects job) x (k.gifted x now).kind (each-map (IsNone t) NoGift one-none (job_effects job) (job_none t job));
    };
    answered = λ s p k. record { reads = (reads-stays t).answered s p k.reads; gifted = λ x now. fresh-gifted _ [] x (k.gifted x now).kind tt };
    older = λ s k. record { reads = (reads-stays t).older s k.reads; gifted = λ x now. fresh-gifted _ [] x (k.gifted x now).kind tt };
  }

  pub gifts-heard : (s : Slots) → Gifts s [] → Gifts (after_event s) []
  gifts-heard s k = record { reads = reads-heard t s k.reads; gifted = λ x now. fresh-gifted (after_event s) [] x (k.gifted x now).kind tt }

  pub gifts-empty : Gifts empty []
  gifts-empty = record { reads = reads-empty t; gifted = λ x e. cc }
