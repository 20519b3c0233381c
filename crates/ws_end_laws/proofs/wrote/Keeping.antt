-- What each operation of a pipe keeps of its record, and each operation of a writable stream of its own, goes on over every run.
use Rattle.std.proofs.Common.{◌≡◌, ⊎_elim, ℕ, zero, suc, Bool, true, false, is_some, nat_eq, List, [], ◌∷◌, ◌++◌, Option, Some, None, slice_get, refl, sym, ap, subst, ◌∙◌}
use Rattle.ws_value.specs.declared.{ids.PipeId.{PipeId}, ids.StreamId.{StreamId}}
use Rattle.ws_steps.specs.declared.calls.Call.{Call}
use Rattle.ws_steps.specs.declared.effects.Effect.{Effect}
use Rattle.ws_steps.specs.declared.effects.Effect.TheVariants.{Readable as OnReadable, Writable as OnWritable, Pipe as OnPipe}
use Rattle.ws_steps.specs.declared.pipes.{Ends.{Ends}, PipeOperation.{PipeOperation}}
use Rattle.ws_steps.specs.declared.readable.ReadableOperation.{ReadableOperation}
use Rattle.ws_steps.specs.declared.writable.{WritableOperation.{WritableOperation}, WritableOperation.TheVariants.{Write, StartSettled, WriteSettled, CloseSettled, AbortSettled}}
use Rattle.ws_steps.specs.Calls.{begin}
use Rattle.ws_steps.specs.Histories.{is_same}
use Rattle.ws_steps.specs.Operations.{readable_operation, writable_operation, pipe_operation}
use Rattle.ws_steps.specs.Pipes as pipe
use Rattle.ws_steps.specs.Promises.{Table}
use Rattle.ws_steps.specs.Readable as readable
use Rattle.ws_steps.specs.Run.{Entry, run}
use Rattle.ws_steps.specs.Slots.{Slots, Stream, ReadableStream, WritableStream, empty, ends_at, as_pipe, pipe_at, on_pipe_at, on_writable, has_readable, has_writable, writable_at, as_writable, as_readable, readable_at, is_readable_stream, is_writable_stream}
use Rattle.ws_steps.specs.Turns.{row}
use Rattle.ws_steps.specs.Writable as writable
use Rattle.ws_steps.specs.Writable.{has_ended}
use Rattle.ws_steps.specs.WritableHistory.{Writes, no_writes, writes_then, effect_writes, run_writes}
use Rattle.ws_steps.proofs.PromiseLaws.{slice_get-set_other}
use Rattle.ws_laws.proofs.Begin.{begin-makes}
use Rattle.ws_laws.proofs.Apart.{row-pipes, row-streams}
use Rattle.ws_laws.proofs.Tables.{eq_numbers, unequal_numbers, same_id, readable_acts, writable_acts, on_readable-same, on_writable-other, on_writable-same}
use Rattle.ws_laws.proofs.Walker.{Stays, GoesUntold, RestsUntold, run-stays, run-goes_untold}
use Rattle.ws_writable_laws.proofs.Agenda.{Kept}
use Rattle.ws_writable_laws.proofs.Expects.{Marked, write-expects, start-expects, write_settled-expects, close_settled-expects, abort_settled-expects}
use Rattle.ws_writable_laws.proofs.Runs as writes
use Rattle.ws_writable_laws.proofs.Runs.{run-kept}
use Rattle.ws_pipe_laws.specs.pipes.PipeMoves.{starting}
use Rattle.ws_pipe_laws.proofs.pipes.PassingRuns.{place_same, appended}
use Rattle.ws_steps.specs.Slots.{has_byte, on_byte, is_byte_stream, Done}
use Rattle.ws_steps.specs.Turns.{on_source}
use Rattle.ws_steps.specs.declared.effects.Effect.TheVariants.{Byte}
use Rattle.ws_steps.specs.declared.byte.ByteOperation.{ByteOperation}
use Rattle.ws_steps.specs.Operations.{byte_operation}
use Rattle.ws_laws.proofs.Tables.{on_source-other, on_source-readable, on_byte-other}

-- a pipe

module _ (p : PipeId) (P : pipe.Slots → Type 0) (keeps : (ends : Ends) (operation : PipeOperation) (x : pipe.Slots) (t : Table) → P x → P (pipe_operation p ends operation (starting x t)).slots) where
  -- there is the pipe, and it is so
  pub record In (ps : List pipe.Slots) : Type 0 where
    pub slots : pipe.Slots
    pub there : slice_get ps p.0 ≡ Some slots
    pub is : P slots

  abbrev Has : Slots → List Effect → Type 0
  Has s es = In s.pipes

  some_pipe : (x y : pipe.Slots) → ◌≡◌ {A = Option pipe.Slots} (Some x) (Some y) → x ≡ y
  some_pipe x y e = cc

  own_place : (operation : PipeOperation) (s : Slots) (o : Option pipe.Slots) → slice_get s.pipes p.0 ≡ o → In s.pipes → In (on_pipe_at (λ ends. pipe_operation p ends operation) p s o).slots.pipes
  own_place operation s None e k = k
  own_place operation s (Some x) e k =
      let b : pipe.Acts = pipe_operation p (ends_at x s) operation (starting x s.promises) in
      record {
        slots = b.slots;
        there = place_same s.pipes p.0 x b.slots e;
        is = keeps (ends_at x s) operation x s.promises (subst P (some_pipe k.slots x (sym k.there ∙ e)) k.is);
      }

  other_place : (q : PipeId) (operation : PipeOperation) (s : Slots) (o : Option pipe.Slots) → nat_eq p.0 q.0 ≡ false → In s.pipes → In (on_pipe_at (λ ends. pipe_operation q ends operation) q s o).slots.pipes
  other_place q operation s None n k = k
  other_place q operation s (Some x) n k =
      record { slots = k.slots; there = slice_get-set_other s.pipes q.0 p.0 _ (λ i. unequal_numbers p.0 q.0 n (sym i)) ∙ k.there; is = k.is }

  own_row : (operation : PipeOperation) (s : Slots) → In s.pipes → In (row (OnPipe p operation) s).slots.pipes
  unfolding row
  own_row operation s k = own_place operation s (slice_get s.pipes p.0) refl k

  pipe_row : (q : PipeId) (operation : PipeOperation) (s : Slots) (same : Bool) → nat_eq p.0 q.0 ≡ same → In s.pipes → In (row (OnPipe q operation) s).slots.pipes
  unfolding row
  pipe_row q operation s false n k = other_place q operation s (slice_get s.pipes q.0) n k
  pipe_row q operation s true n k = subst (λ (r : PipeId). In (row (OnPipe r operation) s).slots.pipes) (ap (λ (n : ℕ). record { 0 = n }) (eq_numbers p.0 q.0 n)) (own_row operation s k)

  pub row-in : (s : Slots) (e : Effect) → In s.pipes → In (row e s).slots.pipes
  row-in s (OnPipe q operation) k = pipe_row q operation s (nat_eq p.0 q.0) refl k
  row-in s e k = subst In (sym (row-pipes e s tt)) k

  made : (ps : List pipe.Slots) (y : pipe.Slots) → In ps → In (ps ++ y ∷ [])
  made ps y k = record {
    slots = k.slots;
    there = ⊎_elim (λ (e : slice_get (ps ++ y ∷ []) p.0 ≡ slice_get ps p.0). e ∙ k.there) (λ (e : (slice_get ps p.0 ≡ None) × (slice_get (ps ++ y ∷ []) p.0 ≡ Some y)). absurd (cc)) (appended ps y p.0);
    is = k.is;
  }

  pub call-in : (s : Slots) (c : Call) → In s.pipes → In (begin c s).done.slots.pipes
  call-in s c k = begin-makes (λ z. In z.pipes) (record {
    promise = λ z k. k;
    locks = λ z ls k. k;
    hosts = λ z hs k. k;
    pipe = λ z source dest prevent signal promise k. made z.pipes (pipe.set_up source dest prevent signal promise) k;
    signal = λ z k. k;
    transform = λ z kind i j change k. k;
    tee = λ z source first second cancel k. k;
    port = λ z side stream backpressure k. k;
    bytes = λ z mark auto k. k;
    byob_requests = λ z hs k. k;
    readable = λ z owner mark size k. k;
    writable = λ z owner mark size k. k;
  }) c s k

  in-stays : Stays Has
  in-stays = record { row = λ s e es k. row-in s e k; call = λ s c k. call-in s c k; job = λ s job e k. k; answered = λ s q k. k; older = λ s k. k }

  run-in : (xs : List Entry) (s : Slots) → In s.pipes → In (run xs s).pipes
  run-in xs s k = run-stays Has in-stays (λ s k. k) xs s k

  pub pipe-kept : (xs : List Entry) (s : Slots) (x : pipe.Slots) → slice_get s.pipes p.0 ≡ Some x → P x → P (pipe_at p (run xs s))
  pipe-kept xs s x e k =
      let r = run-in xs s (record { slots = x; there = e; is = k }) in
      subst (λ (o : Option pipe.Slots). P (as_pipe o)) (sym r.there) r.is

pub row-stands : (p : PipeId) (e : Effect) (s : Slots) (x : pipe.Slots) → slice_get s.pipes p.0 ≡ Some x → (y : pipe.Slots) × (slice_get (row e s).slots.pipes p.0 ≡ Some y)
row-stands p e s x f =
    let r = row-in p (λ y. Unit {0}) (λ ends operation x t k. tt) s e (record { slots = x; there = f; is = tt }) in
    (r.slots, r.there)

pub pipe-stands : (p : PipeId) (xs : List Entry) (s : Slots) → slice_get s.pipes p.0 ≡ Some (pipe_at p s) → slice_get (run xs s).pipes p.0 ≡ Some (pipe_at p (run xs s))
pipe-stands p xs s e =
    let r = run-in p (λ y. Unit {0}) (λ ends operation x t k. tt) xs s (record { slots = pipe_at p s; there = e; is = tt }) in
    r.there ∙ sym (ap (λ (o : Option pipe.Slots). Some (as_pipe o)) r.there)

-- a writable stream

-- what an operation may expect of its stream
abbrev pub Expected : WritableOperation → writable.Slots → Type 0
Expected (Write v p) w = Marked w
Expected (StartSettled o) w = Marked w × (is_some w.close_in_flight ≡ false)
Expected (WriteSettled o) w = Marked w × (is_some w.close_in_flight ≡ false)
Expected (CloseSettled o) w = is_some w.close_in_flight ≡ true
Expected (AbortSettled p o) w = has_ended w.state ≡ true
Expected _ w = Unit {0}

expected : (i : StreamId) (h : Writes) (es : List Effect) (s : Slots) (operation : WritableOperation) → Kept i h s (OnWritable i operation ∷ es) → Expected operation (writable_at i s)
expected i h es s (Write v p) k = write-expects i h es s v p k
expected i h es s (StartSettled o) k = start-expects i h es s o k
expected i h es s (WriteSettled o) k = write_settled-expects i h es s o k
expected i h es s (CloseSettled o) k = close_settled-expects i h es s o k
expected i h es s (AbortSettled p o) k = abort_settled-expects i h es s p o k
expected i h es s _ k = tt

module _ (i : StreamId) (W : writable.Slots → Type 0) (keeps : (operation : WritableOperation) (a : writable.Acts) → Expected operation a.slots → W a.slots → W (writable_operation i operation a).slots) where
  -- there is the stream, and it is so
  record Among (xs : List Stream) : Type 0 where
    slots : writable.Slots
    there : slice_get xs i.0 ≡ Some (WritableStream slots)
    is : W slots

  abbrev Stands : Writes → Slots → List Effect → Type 0
  Stands h s es = Kept i h s es × Among s.streams

  elsewhere : (s z : Slots) → slice_get z.streams i.0 ≡ slice_get s.streams i.0 → Among s.streams → Among z.streams
  elsewhere s z e k = record { slots = k.slots; there = e ∙ k.there; is = k.is }

  -- no operation of a readable stream finds it
  own_source : (operation : ReadableOperation) (s : Slots) → Among s.streams → Among (on_source operation i s).slots.streams
  own_source operation s k =
      let none : has_readable i s ≡ false = ap is_readable_stream k.there in let apart : has_byte i s ≡ false = ap is_byte_stream k.there in rw (apart, none) k

  own_byte : (operation : ByteOperation) (s : Slots) → Among s.streams → Among (on_byte (byte_operation i operation) i s).slots.streams
  own_byte operation s k = let apart : has_byte i s ≡ false = ap is_byte_stream k.there in rw apart k

  readable_row : (j : StreamId) (operation : ReadableOperation) (s : Slots) (same : Bool) → is_same i j ≡ same → Among s.streams → Among (row (OnReadable j operation) s).slots.streams
  unfolding row
  readable_row j operation s false n k = elsewhere s (on_source operation j s).slots (on_source-other operation j s i n) k
  readable_row j operation s true n k = subst (λ (l : StreamId). Among (on_source operation l s).slots.streams) (same_id i j n) (own_source operation s k)

  byte_row : (j : StreamId) (operation : ByteOperation) (s : Slots) (same : Bool) → is_same i j ≡ same → Among s.streams → Among (row (Byte j operation) s).slots.streams
  unfolding row
  byte_row j operation s false n k = elsewhere s (on_byte (byte_operation j operation) j s).slots (on_byte-other (byte_operation j operation) j s i n) k
  byte_row j operation s true n k = subst (λ (l : StreamId). Among (on_byte (byte_operation l operation) l s).slots.streams) (same_id i j n) (own_byte operation s k)

  own_writable : (operation : WritableOperation) (s : Slots) → Expected operation (writable_at i s) → Among s.streams → Among (on_writable (writable_operation i operation) i s).slots.streams
  own_writable operation s x k =
      let here : has_writable i s ≡ true = rw (k.there) refl in
      let is : W (writable_at i s) = subst (λ (o : Option Stream). W (as_writable o)) (sym k.there) k.is in
      record { slots = (writable_operation i operation (writable_acts i s)).slots; there = on_writable-same (writable_operation i operation) i s here; is = keeps operation (writable_acts i s) x is }

  abbrev Row : Slots → Effect → Type 0
  Row s e = (h : Writes) (es : List Effect) → Kept i h s (e ∷ es) → Among s.streams → Among (row e s).slots.streams

  here_row : (operation : WritableOperation) (s : Slots) → Row s (OnWritable i operation)
  unfolding row
  here_row operation s h es x k = own_writable operation s (expected i h es s operation x) k

  other_row : (j : StreamId) (operation : WritableOperation) (s : Slots) → is_same i j ≡ false → Row s (OnWritable j operation)
  unfolding row
  other_row j operation s n h es x k = elsewhere s (on_writable (writable_operation j operation) j s).slots (on_writable-other (writable_operation j operation) j s i n) k

  writable_row : (j : StreamId) (operation : WritableOperation) (s : Slots) (same : Bool) → is_same i j ≡ same → Row s (OnWritable j operation)
  writable_row j operation s false n = other_row j operation s n
  writable_row j operation s true n = subst (λ (l : StreamId). Row s (OnWritable l operation)) (same_id i j n) (here_row operation s)

  row-among : (s : Slots) (e : Effect) → Row s e
  row-among s (OnReadable j operation) h es x k = readable_row j operation s (is_same i j) refl k
  row-among s (Byte j operation) h es x k = byte_row j operation s (is_same i j) refl k
  row-among s (OnWritable j operation) h es x k = writable_row j operation s (is_same i j) refl h es x k
  row-among s e h es x k = subst Among (sym (row-streams e s tt)) k

  stays_there : (xs : List Stream) (y z : Stream) (n : ℕ) → slice_get xs n ≡ Some z → slice_get (xs ++ y ∷ []) n ≡ Some z
  stays_there [] y z n e = cc
  stays_there (x ∷ xs) y z zero e = e
  stays_there (x ∷ xs) y z (suc n) e = stays_there xs y z n e

  added : (xs : List Stream) (y : Stream) → Among xs → Among (xs ++ y ∷ [])
  added xs y k = record { slots = k.slots; there = stays_there xs y (WritableStream k.slots) i.0 k.there; is = k.is }

  call-among : (s : Slots) (c : Call) → Among s.streams → Among (begin c s).done.slots.streams
  call-among s c k = begin-makes (λ z. Among z.streams) (record {
    promise = λ z k. k;
    locks = λ z ls k. k;
    hosts = λ z hs k. k;
    pipe = λ z source dest prevent signal promise k. k;
    signal = λ z k. k;
    transform = λ z kind i j change k. k;
    tee = λ z source first second cancel k. k;
    port = λ z side stream backpressure k. k;
    bytes = λ z mark auto k. added z.streams _ k;
    byob_requests = λ z hs k. k;
    readable = λ z owner mark size k. added z.streams _ k;
    writable = λ z owner mark size k. added z.streams _ k;
  }) c s k

  among-goes : GoesUntold writes_then (effect_writes i) Stands
  among-goes = record {
    row = λ h s e es k. ((writes.goes i).row h s e es k.0, row-among s e h es k.0 k.1);
    call = λ h s c k. ((writes.goes i).call h s c k.0, call-among s c k.1);
    job = λ h s job e k. ((writes.goes i).job h s job e k.0, k.1);
    answered = λ h s q k. ((writes.goes i).answered h s q k.0, k.1);
    older = λ h s k. ((writes.goes i).older h s k.0, k.1);
  }

  among-rests : RestsUntold Stands
  among-rests = record { heard = λ h s k. ((writes.rests i).heard h s k.0, k.1) }

  -- in the rest of a run, where so much of it has happened
  pub writable-kept : (before xs : List Entry) → let s : Slots = run before empty in slice_get s.streams i.0 ≡ Some (WritableStream (writable_at i s)) → W (writable_at i s) → W (writable_at i (run xs s))
  writable-kept before xs e k =
      let s : Slots = run before empty in
      let r = (run-goes_untold no_writes writes_then writes.is_history (effect_writes i) Stands among-goes among-rests xs (run_writes i before empty) s
      (run-kept before i, record { slots = writable_at i s; there = e; is = k })).1 in
      subst (λ (o : Option Stream). W (as_writable o)) (sym r.there) r.is

-- a readable stream

-- there is the stream, and it is so
abbrev pub IsReadable : StreamId → (readable.Slots → Type 0) → Slots → Type 0
IsReadable i R s = (slice_get s.streams i.0 ≡ Some (ReadableStream (readable_at i s))) × R (readable_at i s)

module _ (i : StreamId) (R : readable.Slots → Type 0) (keeps : (operation : ReadableOperation) (a : readable.Acts) → R a.slots → R (readable_operation i operation a).slots) where
  -- there is the stream, and it is so
  record Within (xs : List Stream) : Type 0 where
    slots : readable.Slots
    there : slice_get xs i.0 ≡ Some (ReadableStream slots)
    is : R slots

  abbrev Remains : Slots → List Effect → Type 0
  Remains s es = Within s.streams

  apart : (s z : Slots) → slice_get z.streams i.0 ≡ slice_get s.streams i.0 → Within s.streams → Within z.streams
  apart s z e k = record { slots = k.slots; there = e ∙ k.there; is = k.is }

  -- no operation of a writable stream finds it
  no_writable : (operation : WritableOperation) (s : Slots) → Within s.streams → Within (on_writable (writable_operation i operation) i s).slots.streams
  no_writable operation s k = let none : has_writable i s ≡ false = ap is_writable_stream k.there in rw none k

  writes_row : (j : StreamId) (operation : WritableOperation) (s : Slots) (same : Bool) → is_same i j ≡ same → Within s.streams → Within (row (OnWritable j operation) s).slots.streams
  unfolding row
  writes_row j operation s false n k = apart s (on_writable (writable_operation j operation) j s).slots (on_writable-other (writable_operation j operation) j s i n) k
  writes_row j operation s true n k = subst (λ (l : StreamId). Within (on_writable (writable_operation l operation) l s).slots.streams) (same_id i j n) (no_writable operation s k)

  reads_here : (operation : ReadableOperation) (s : Slots) → Within s.streams → Within (on_source operation i s).slots.streams
  reads_here operation s k =
      let here : has_readable i s ≡ true = rw (k.there) refl in
      let apart : has_byte i s ≡ false = ap is_byte_stream k.there in
      let is : R (readable_at i s) = subst (λ (o : Option Stream). R (as_readable o)) (sym k.there) k.is in
      subst (λ (d : Done). Within d.slots.streams) (sym (on_source-readable operation i s apart))
      (record { slots = (readable_operation i operation (readable_acts i s)).slots; there = on_readable-same (readable_operation i operation) i s here; is = keeps operation (readable_acts i s) is })

  reads_row : (j : StreamId) (operation : ReadableOperation) (s : Slots) (same : Bool) → is_same i j ≡ same → Within s.streams → Within (row (OnReadable j operation) s).slots.streams
  unfolding row
  reads_row j operation s false n k = apart s (on_source operation j s).slots (on_source-other operation j s i n) k
  reads_row j operation s true n k = subst (λ (l : StreamId). Within (on_source operation l s).slots.streams) (same_id i j n) (reads_here operation s k)

  bytes_here : (operation : ByteOperation) (s : Slots) → Within s.streams → Within (on_byte (byte_operation i operation) i s).slots.streams
  bytes_here operation s k = let none : has_byte i s ≡ false = ap is_byte_stream k.there in rw none k

  bytes_row : (j : StreamId) (operation : ByteOperation) (s : Slots) (same : Bool) → is_same i j ≡ same → Within s.streams → Within (row (Byte j operation) s).slots.streams
  unfolding row
  bytes_row j operation s false n k = apart s (on_byte (byte_operation j operation) j s).slots (on_byte-other (byte_operation j operation) j s i n) k
  bytes_row j operation s true n k = subst (λ (l : StreamId). Within (on_byte (byte_operation l operation) l s).slots.streams) (same_id i j n) (bytes_here operation s k)

  row-within : (s : Slots) (e : Effect) → Within s.streams → Within (row e s).slots.streams
  row-within s (OnReadable j operation) k = reads_row j operation s (is_same i j) refl k
  row-within s (Byte j operation) k = bytes_row j operation s (is_same i j) refl k
  row-within s (OnWritable j operation) k = writes_row j operation s (is_same i j) refl k
  row-within s e k = subst Within (sym (row-streams e s tt)) k

  still_there : (xs : List Stream) (y z : Stream) (n : ℕ) → slice_get xs n ≡ Some z → slice_get (xs ++ y ∷ []) n ≡ Some z
  still_there [] y z n e = cc
  still_there (x ∷ xs) y z zero e = e
  still_there (x ∷ xs) y z (suc n) e = still_there xs y z n e

  more : (xs : List Stream) (y : Stream) → Within xs → Within (xs ++ y ∷ [])
  more xs y k = record { slots = k.slots; there = still_there xs y (ReadableStream k.slots) i.0 k.there; is = k.is }

  call-within : (s : Slots) (c : Call) → Within s.streams → Within (begin c s).done.slots.streams
  call-within s c k = begin-makes (λ z. Within z.streams) (record {
    promise = λ z k. k;
    locks = λ z ls k. k;
    hosts = λ z hs k. k;
    pipe = λ z source dest prevent signal promise k. k;
    signal = λ z k. k;
    transform = λ z kind i j change k. k;
    tee = λ z source first second cancel k. k;
    port = λ z side stream backpressure k. k;
    bytes = λ z mark auto k. more z.streams _ k;
    byob_requests = λ z hs k. k;
    readable = λ z owner mark size k. more z.streams _ k;
    writable = λ z owner mark size k. more z.streams _ k;
  }) c s k

  within-stays : Stays Remains
  within-stays = record { row = λ s e es k. row-within s e k; call = λ s c k. call-within s c k; job = λ s job e k. k; answered = λ s q k. k; older = λ s k. k }

  pub readable-kept : (xs : List Entry) (s : Slots) → IsReadable i R s → IsReadable i R (run xs s)
  readable-kept xs s k =
      let r = run-stays Remains within-stays (λ s k. k) xs s (record { slots = readable_at i s; there = k.0; is = k.1 }) in
      (r.there ∙ sym (ap (λ (o : Option Stream). Some (ReadableStream (as_readable o))) r.there), subst (λ (o : Option Stream). R (as_readable o)) (sym r.there) r.is)
