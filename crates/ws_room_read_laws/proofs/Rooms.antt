-- What holds of every stream, and of what stands on the agenda, at each moment of a run.
use Rattle.std.proofs.Common.{◌≡◌, ◌≢◌, ◌≤◌, ℕ, zero, suc, Bool, true, false, nat_eq, List, [], ◌∷◌, ◌++◌, length, Option, Some, None, is_some, slice_get, slice_set, refl, sym, ap, ◌∙◌, subst, arith}
use Rattle.ws_laws.proofs.PortDoes.{PortCauses}
use Rattle.ws_steps.specs.declared.effects.Effect.TheVariants.{Port}
use Rattle.ws_value.specs.declared.ids.PortId.{PortId}
use Rattle.ws_value.specs.declared.ids.{LockId.{LockId}, PipeId.{PipeId}, PromiseId.{PromiseId}, StreamId.{StreamId}}
use Rattle.ws_value.specs.declared.{value.Value.{Value}}
use Rattle.ws_steps.specs.declared.byte.{ByteOperation.{ByteOperation}, ByteOperation.TheVariants.{PullInto}}
use Rattle.ws_steps.specs.declared.{calls.Call.{Call}}
use Rattle.ws_steps.specs.declared.effects.Effect.{Effect}
use Rattle.ws_steps.specs.declared.effects.Effect.TheVariants.{Readable as OnReadable, Byte, Writable as OnWritable, Pipe, Signal, Transform, Tee, StartAlgorithm, PullAlgorithm, CancelAlgorithm, WriteAlgorithm, CloseAlgorithm, AbortAlgorithm, ChunkSteps, CloseSteps, CloseStepsWith, ErrorSteps}
use Rattle.ws_steps.specs.declared.locks.Lock.TheVariants.{ByobReader}
use Rattle.ws_steps.specs.declared.{pipes.SignalOperation.{SignalOperation}, pipes.SignalOperation.TheVariants.{Add, Forget, Trigger}, promises.Job.{Job}, transform.TransformId.{TransformId}}
use Rattle.ws_steps.specs.declared.readable.{ReadRequest.{ReadRequest}, ReadRequest.TheVariants.{Promise, Pipe as PipeRequest, Tee as TeeRequest}, ReadableOperation.{ReadableOperation}}
use Rattle.ws_steps.specs.declared.readable.ReadableOperation.TheVariants as names
use Rattle.ws_steps.specs.declared.writable.WritableOperation.{WritableOperation}
use Rattle.ws_steps.specs.Bytes as byte
use Rattle.ws_steps.specs.Readable as readable
use Rattle.ws_steps.specs.Writable as writable
use Rattle.ws_steps.specs.Begun.{Begun}
use Rattle.ws_steps.specs.Calls.{begin}
use Rattle.ws_steps.specs.Jobs.{job_effects}
use Rattle.ws_steps.specs.Operations.{readable_operation, byte_readable_operation, byte_operation, writable_operation}
use Rattle.ws_steps.specs.Promises.{Table, next_id, after_next_job, watch}
use Rattle.ws_steps.specs.Slots.{Slots, Stream, ReadableStream, ByteStream, WritableStream, Done, nothing, has_readable, has_byte, has_writable, readable_at, byte_at, lock_at, put_readable, put_byte, put_writable, on_readable, on_byte, with_promises}
use Rattle.ws_steps.specs.Turns.{row, on_source}
use Rattle.ws_laws.proofs.Begin.{begin-makes}
use Rattle.ws_laws.proofs.ByteHands.{sum_of, given_read}
use Rattle.ws_laws.proofs.EachCall.{each_call}
use Rattle.ws_laws.proofs.Lists.{Each, each-append}
use Rattle.ws_laws.proofs.PipeDoes.{PipeCauses}
use Rattle.ws_laws.proofs.Apart.{IsApart, row-streams}
use Rattle.ws_laws.proofs.Causes.{ChunkCauses, EndCauses, ErrorCauses, SignalCauses, row-causes}
use Rattle.ws_laws.proofs.Tables.{either, is_same-refl, readable_there, byte_there, readable_acts, byte_acts, writable_acts, place_last, place_before, eq_numbers, unequal_numbers}
use Rattle.ws_laws.proofs.TransformDoes.{TransformCauses}
use Rattle.ws_laws.proofs.Walker.{Stays}
use Rattle.ws_byte_laws.proofs.Sound as sound
use Rattle.ws_byte_laws.proofs.Steps.{IsNoByte, row-other, AreBehind, begin-behind}
use Rattle.ws_pipe_laws.specs.pipes.PipeReads.{one_if}
use Rattle.ws_pipe_laws.specs.locks.Locks.{Reading, has_lock, is_locked}
use Rattle.ws_pipe_laws.proofs.locks.Holding.{locks-there}
use Rattle.ws_pipe_laws.proofs.locks.Rows.{Balanced}
use Rattle.ws_pipe_laws.proofs.locks.Runs.{Locked, locked-stays}
use Rattle.ws_room_read_laws.proofs.Pairs.{IsFair}
use Rattle.ws_room_read_laws.proofs.Fair.{AreFair, Even, Fair}
use Rattle.ws_room_read_laws.proofs.Operations.{weight, weighs, all-light, readable-fair, bytes-fair, IsRead}
use Rattle.ws_room_read_laws.proofs.DefaultHands.{readable-hands}
use Rattle.ws_laws.proofs.TeeDoes.{TeeCauses}
use Rattle.ws_value.specs.declared.ids.TeeId.{TeeId}
use Rattle.ws_steps.specs.declared.port.Side.{Side}
use Rattle.ws_steps.specs.declared.port.Side.TheVariants.{Readable as ReadableSide, Writable as WritableSide}
use Rattle.ws_steps.specs.PipeCalls as pipe_calls

-- a read into a room comes by a reader

abbrev pub IsTold : Slots → Effect → Type 0
IsTold s (Byte j (PullInto room element minimum q)) = has_byte j s ≡ true → (byte_at j s).stream.reader ≢ None
IsTold s _ = Unit {0}

-- of these only the first may be an operation of a byte controller
abbrev pub FirstTold : Slots → List Effect → Type 0
FirstTold s [] = Unit {0}
FirstTold s (e ∷ es) = IsTold s e × Each IsNoByte es

no_byte-told : (s : Slots) (e : Effect) → IsNoByte e → IsTold s e
no_byte-told s (Byte j op) n = absurd n
no_byte-told s _ n = tt

none-told : (s : Slots) (es : List Effect) → Each IsNoByte es → FirstTold s es
none-told s [] n = tt
none-told s (e ∷ es) n = (no_byte-told s e n.0, n.1)

first-told : (s : Slots) (es : List Effect) → AreBehind es → Each (IsTold s) es → FirstTold s es
first-told s [] b t = tt
first-told s (e ∷ es) b t = (t.0, b)

is_locked_by : (l : Bool) → 1 ≤ one_if l → l ≡ true
is_locked_by true e = refl
is_locked_by false e = absurd (omega (arith, e))

some_reader : (o : Option PromiseId) → is_some o ≡ true → o ≢ None
some_reader None e n = cc
some_reader (Some p) e n = cc

lock-there : (o : Option Stream) (b : byte.Slots) → o ≡ Some (ByteStream b) → has_lock Reading o ≡ is_some b.stream.reader
lock-there o b e = ap (has_lock Reading) e

pub held-reader : (s : Slots) (l : LockId) (i : StreamId) (closed : PromiseId) → Locked s [] → lock_at l s ≡ Some (ByobReader (Some i) closed) → has_byte i s ≡ true → (byte_at i s).stream.reader ≢ None
held-reader s l i closed k h there =
    let b : Balanced Reading i s [] = k.each Reading i in
    let even = b.even in
    let n = locks-there Reading i l.0 s.locks (ByobReader (Some i) closed) h in
    let self = ap one_if (is_same-refl i) in
    let locked : is_locked Reading i s ≡ true = is_locked_by (is_locked Reading i s) (omega (arith, even, n, self)) in
    some_reader (byte_at i s).stream.reader (sym (lock-there (slice_get s.streams i.0) (byte_at i s) (byte_there (slice_get s.streams i.0) there)) ∙ locked)

start-told : (s : Slots) (i : StreamId) (side : Side) → IsTold s (pipe_calls.start_end i side)
start-told s i ReadableSide = tt
start-told s i WritableSide = tt

call-told : (c : Call) (s : Slots) → Locked s [] → Each (IsTold (begin c s).done.slots) (begin c s).done.caused
call-told c s k = each_call (λ (b : Begun). Each (IsTold b.done.slots) b.done.caused) c s (record {
  unchanged = λ reply. tt;
  rejected = λ fault. grind (arith, each-append);
  make_readable = λ mark size start. grind (arith, each-append);
  make_writable = λ mark size start. grind (arith, each-append);
  make_bytes = λ mark auto start. grind (arith, each-append);
  make_tee = λ i e is free untied. (tt, (tt, (tt, (tt, tt))));
  make_transform = λ kind m n start. grind (arith, each-append);
  get_byob = λ i is e. (tt, tt);
  release_byob = λ l closed i e. grind (arith, each-append);
  read_into = λ l i closed room element least e f. (λ there. held-reader s l i closed k f there, tt);
  enqueue_bytes = λ i b e is some can. (tt, tt);
  finish_bytes = λ i e is can. (tt, tt);
  make_request = λ i reply is. (tt, tt);
  respond = λ r i b e is can. (tt, tt);
  get_reader = λ i e. (tt, tt);
  get_writer = λ i e. (tt, tt);
  release_reader = λ l closed i e. grind (arith, each-append);
  release_writer = λ l i w e f. grind (arith, each-append);
  cancel = λ reason i. (tt, tt);
  read = λ l i closed e f. (tt, tt);
  write = λ l v i e. (tt, tt);
  close = λ i. (tt, tt);
  abort = λ reason i e. (tt, tt);
  enqueue = λ i v e o can. (tt, tt);
  enqueue_half = λ i t v e o can. (tt, tt);
  fail_half = λ t reason. (tt, tt);
  terminate = λ t. (tt, tt);
  finish = λ i. (tt, tt);
  fail_readable = λ i reason. (tt, tt);
  fail_writable = λ i reason. (tt, tt);
  pipe = λ source dest prevent signal e f free m. grind (arith, each-append);
  make_signal = tt;
  open_end = λ side. (start-told (pipe_calls.open_end side (record { 0 = length s.streams }) s).done.slots (record { 0 = length s.streams }) side, tt);
  send_readable = λ i there free. (tt, (tt, (tt, (tt, (tt, (tt, (tt, tt)))))));
  send_writable = λ i there free. (tt, (tt, (tt, (tt, (tt, (tt, (tt, tt)))))));
  deliver = λ p m e is. (tt, tt);
  trigger = λ a reason. (tt, tt);
  settle = λ h answer q e. grind (arith, each-append);
})

job-none : (job : Job) → Each IsNoByte (job_effects job)
job-none job = grind arith

module _ (w : ReadRequest → ℕ) (space unit least : ℕ) where
  abbrev pub IsFairStream : Option Stream → Type 0
  IsFairStream None = Unit {0}
  IsFairStream (Some (ReadableStream r)) = sum_of w r.requests ≡ 0
  IsFairStream (Some (ByteStream b)) = Even w space unit least b
  IsFairStream (Some (WritableStream x)) = Unit {0}

  abbrev pub AreFairStreams : Slots → Type 0
  AreFairStreams s = (i : StreamId) → IsFairStream (slice_get s.streams i.0)

  set-fair : (xs : List Stream) (n m : ℕ) (y : Stream) → IsFairStream (Some y) → IsFairStream (slice_get xs m) → IsFairStream (slice_get (slice_set xs n y) m)
  set-fair [] n m y new old = old
  set-fair (x ∷ xs) zero zero y new old = new
  set-fair (x ∷ xs) zero (suc m) y new old = old
  set-fair (x ∷ xs) (suc n) zero y new old = old
  set-fair (x ∷ xs) (suc n) (suc m) y new old = set-fair xs n m y new old

  abbrev Leaves : Done → Type 0
  Leaves d = AreFairStreams d.slots × AreFair w space unit least d.caused

  default-there : (i : StreamId) (s : Slots) → has_readable i s ≡ true → AreFairStreams s → sum_of w (readable_at i s).requests ≡ 0
  default-there i s there f = rw (readable_there (slice_get s.streams i.0) there) at (f i)

  bytes-there : (i : StreamId) (s : Slots) → has_byte i s ≡ true → AreFairStreams s → Even w space unit least (byte_at i s)
  bytes-there i s there f = rw (byte_there (slice_get s.streams i.0) there) at (f i)

  light-read : (i : StreamId) (op : ReadableOperation) → IsFair w space unit least (OnReadable i op) → given_read w op ≡ 0
  light-read i (names.Read q) n = n
  light-read i op n = grind arith

  given : (i : StreamId) (op : ReadableOperation) → IsFair w space unit least (OnReadable i op) → (q : ReadRequest) → op ≡ names.Read q → w q ≡ 0
  given i op n q is = subst (λ (x : ReadableOperation). IsFair w space unit least (OnReadable i x)) is n

  source-leaves : (i : StreamId) (op : ReadableOperation) (s : Slots) → sound.IsSound i s → IsFair w space unit least (OnReadable i op) → AreFairStreams s → Leaves (on_source op i s)
  source-leaves i op s k n f =
      either Leaves (has_byte i s) (on_byte (byte_readable_operation i op) i s) (on_readable (readable_operation i op) i s)
      (λ is. either Leaves (has_byte i s) (put_byte i s (byte_readable_operation i op (byte_acts i s))) (nothing s)
      (λ e.
      let z : Fair w space unit least (byte_readable_operation i op (byte_acts i s)) = readable-fair w space unit least i (byte_at i s) s.promises (k e).held (bytes-there i s e f) op (given i op n) in
      (λ j. set-fair s.streams i.0 j.0 (ByteStream (byte_readable_operation i op (byte_acts i s)).slots) z.even (f j), z.effects)) (λ e. (f, tt)))
      (λ isnt. either Leaves (has_readable i s) (put_readable i s (readable_operation i op (readable_acts i s))) (nothing s)
      (λ e.
      let z : readable.Acts = readable_operation i op (readable_acts i s) in
      let h = readable-hands i w (weight w) (weighs i w) op (readable_acts i s) in
      let none = default-there i s e f in
      let g = light-read i op n in
      (λ j. set-fair s.streams i.0 j.0 (ReadableStream z.slots) (omega (arith, h, none, g)) (f j), all-light w space unit least i z.out.effects (omega (arith, h, none, g)))) (λ e. (f, tt)))

  is_read : (i : StreamId) (op : ByteOperation) (s : Slots) → has_byte i s ≡ true → IsTold s (Byte i op) → (held : _) (even : Even w space unit least (byte_at i s)) → IsRead w space unit least i (byte_at i s) s.promises held even op
  is_read i (PullInto room element minimum q) s there t held even = t there
  is_read i op s there t held even = grind arith

  bytes-leaves : (i : StreamId) (op : ByteOperation) (s : Slots) → sound.IsSound i s → IsTold s (Byte i op) → IsFair w space unit least (Byte i op) → AreFairStreams s → Leaves (on_byte (byte_operation i op) i s)
  bytes-leaves i op s k t n f =
      either Leaves (has_byte i s) (put_byte i s (byte_operation i op (byte_acts i s))) (nothing s)
      (λ e.
      let even = bytes-there i s e f in
      let held = (k e).held in
      let z : Fair w space unit least (byte_operation i op (byte_acts i s)) = bytes-fair w space unit least i (byte_at i s) s.promises held even op (is_read i op s e t held even) n in
      (λ j. set-fair s.streams i.0 j.0 (ByteStream (byte_operation i op (byte_acts i s)).slots) z.even (f j), z.effects)) (λ e. (f, tt))

  writable-streams : (i : StreamId) (op : WritableOperation) (s : Slots) → AreFairStreams s → AreFairStreams (row (OnWritable i op) s).slots
  unfolding row
  writable-streams i op s f =
      either (λ (d : Done). AreFairStreams d.slots) (has_writable i s) (put_writable i s (writable_operation i op (writable_acts i s))) (nothing s)
      (λ e. λ j. set-fair s.streams i.0 j.0 (WritableStream (writable_operation i op (writable_acts i s)).slots) tt (f j)) (λ e. f)

  module _ (pipeless : (p : PipeId) → w (PipeRequest p) ≡ 0) (teeless : (t : TeeId) → w (TeeRequest t) ≡ 0) where
    abbrev fair : Effect → Type 0
    fair e = IsFair w space unit least e

    chunk-fair : (v : Value) (request : ReadRequest) → ChunkCauses fair v request
    chunk-fair v (Promise p) = tt
    chunk-fair v (PipeRequest p) = tt
    chunk-fair v (TeeRequest t) = tt

    end-fair : (request : ReadRequest) → EndCauses fair request
    end-fair (Promise p) = tt
    end-fair (PipeRequest p) = tt
    end-fair (TeeRequest t) = tt

    error-fair : (request : ReadRequest) → ErrorCauses fair request
    error-fair (Promise p) = tt
    error-fair (PipeRequest p) = tt
    error-fair (TeeRequest t) = tt

    pipe-fair : (p : PipeId) (source dest : StreamId) (e : Effect) → PipeCauses p source dest e → fair e
    pipe-fair p source dest e c = grind (arith, c, pipeless)

    transform-fair : (t : TransformId) (writable half : StreamId) (e : Effect) → TransformCauses t writable half e → fair e
    transform-fair t writable half e c = grind (arith, c)

    tee-fair : (t : TeeId) (source first second : StreamId) (e : Effect) → TeeCauses t source first second e → fair e
    tee-fair t source first second e c = grind (arith, c, teeless)

    port-fair : (c : PortId) (stream : StreamId) (e : Effect) → PortCauses c stream e → fair e
    port-fair c stream e k = grind (arith, k, teeless)

    signal-fair : (operation : SignalOperation) → SignalCauses fair operation
    signal-fair (Add p) = tt
    signal-fair (Forget p) = tt
    signal-fair (Trigger r) = λ p. tt

    apart-leaves : (e : Effect) (s : Slots) → IsApart e → AreFairStreams s → AreFair w space unit least (row e s).caused → Leaves (row e s)
    apart-leaves e s a f n = (λ i. rw (row-streams e s a) (f i), n)

    row-leaves : (e : Effect) (s : Slots) → ((i : StreamId) → sound.IsSound i s) → IsTold s e → fair e → AreFairStreams s → Leaves (row e s)
    unfolding row
    row-leaves (OnReadable i op) s k t n f = source-leaves i op s (k i) n f
    row-leaves (Byte i op) s k t n f = bytes-leaves i op s (k i) t n f
    row-leaves (OnWritable i op) s k t n f =
        (writable-streams i op s f, row-causes fair (OnWritable i op) s (record { write = tt; close = tt; abort = λ r p. tt; hand_on = λ v. tt; take = λ v t d. tt; post = λ v c d. tt }))
    row-leaves (Pipe p op) s k t n f = apart-leaves (Pipe p op) s tt f (row-causes fair (Pipe p op) s (pipe-fair p))
    row-leaves (Signal a op) s k t n f = apart-leaves (Signal a op) s tt f (row-causes fair (Signal a op) s (signal-fair op))
    row-leaves (Tee u op) s k t n f = apart-leaves (Tee u op) s tt f (row-causes fair (Tee u op) s (tee-fair u))
    row-leaves (Port c op) s k t n f = apart-leaves (Port c op) s tt f (row-causes fair (Port c op) s (port-fair c))
    row-leaves (Transform u op) s k t n f = apart-leaves (Transform u op) s tt f (row-causes fair (Transform u op) s (transform-fair u))
    row-leaves (StartAlgorithm j step start) s k t n f = apart-leaves (StartAlgorithm j step start) s tt f (row-causes fair (StartAlgorithm j step start) s (λ g u. tt, λ c u. tt))
    row-leaves (PullAlgorithm j) s k t n f = apart-leaves (PullAlgorithm j) s tt f (row-causes fair (PullAlgorithm j) s (λ c u. tt, (λ t u. tt, (λ t. tt, (λ u. tt, λ c. tt)))))
    row-leaves (CancelAlgorithm j r p) s k t n f = apart-leaves (CancelAlgorithm j r p) s tt f (row-causes fair (CancelAlgorithm j r p) s (λ c u. tt, (λ t u. tt, (λ t half u. tt, λ q u. tt))))
    row-leaves (WriteAlgorithm j) s k t n f = apart-leaves (WriteAlgorithm j) s tt f (row-causes fair (WriteAlgorithm j) s (tt, (λ t u. tt, λ q u. tt)))
    row-leaves (CloseAlgorithm j) s k t n f = apart-leaves (CloseAlgorithm j) s tt f (row-causes fair (CloseAlgorithm j) s (λ c u. tt, (λ t u. tt, λ q u. tt)))
    row-leaves (AbortAlgorithm j r p) s k t n f = apart-leaves (AbortAlgorithm j r p) s tt f (row-causes fair (AbortAlgorithm j r p) s (λ c u. tt, (λ t u. tt, λ q u. tt)))
    row-leaves (ChunkSteps j q v) s k t n f = apart-leaves (ChunkSteps j q v) s tt f (row-causes fair (ChunkSteps j q v) s (chunk-fair v q))
    row-leaves (CloseSteps j q) s k t n f = apart-leaves (CloseSteps j q) s tt f (row-causes fair (CloseSteps j q) s (end-fair q))
    row-leaves (CloseStepsWith j q b) s k t n f = apart-leaves (CloseStepsWith j q b) s tt f (row-causes fair (CloseStepsWith j q b) s (end-fair q))
    row-leaves (ErrorSteps j q e) s k t n f = apart-leaves (ErrorSteps j q e) s tt f (row-causes fair (ErrorSteps j q e) s (error-fair q))
    row-leaves e s k t n f = apart-leaves e s tt f (row-causes fair e s tt)

    -- calls and jobs

    appended : (x : Stream) (streams : List Stream) (m : ℕ) (here : Bool) → here ≡ nat_eq m (length streams) → IsFairStream (Some x) → IsFairStream (slice_get streams m) → IsFairStream (slice_get (streams ++ x ∷ []) m)
    appended x streams m false n new old = let before = place_before streams x m (unequal_numbers m (length streams) (sym n)) in rw before old
    appended x streams m true e new old =
        let is = eq_numbers m (length streams) (sym e) in
        let now : slice_get (streams ++ x ∷ []) m ≡ Some x = rw is (place_last streams x) in rw now new

    new-even : (mark auto : ℕ) → Even w space unit least (byte.set_up mark auto)
    new-even mark auto = record { default = λ d s. refl; pairs = λ d. tt; closed = λ d s. tt; none = λ n. refl }

    pub call-streams : (c : Call) (s : Slots) → AreFairStreams s → AreFairStreams (begin c s).done.slots
    call-streams c s f = begin-makes AreFairStreams (record {
      promise = λ z k. k;
      locks = λ z ls k. k;
      hosts = λ z hs k. k;
      pipe = λ z source dest prevent signal promise k. k;
      signal = λ z k. k;
      transform = λ z kind writable readable change k. k;
      tee = λ z source first second cancel k. k;
      port = λ z side stream backpressure k. k;
      readable = λ z owner mark size k. λ i. appended (ReadableStream (readable.set_up owner mark size)) z.streams i.0 (nat_eq i.0 (length z.streams)) refl refl (k i);
      bytes = λ z mark auto k. λ i. appended (ByteStream (byte.set_up mark auto)) z.streams i.0 (nat_eq i.0 (length z.streams)) refl (new-even mark auto) (k i);
      byob_requests = λ z r k. k;
      writable = λ z owner mark size k. λ i. appended (WritableStream (writable.set_up owner mark size)) z.streams i.0 (nat_eq i.0 (length z.streams)) refl tt (k i);
    }) c s f

    start-fair : (i : StreamId) (side : Side) → IsFair w space unit least (pipe_calls.start_end i side)
    start-fair i ReadableSide = tt
    start-fair i WritableSide = tt

    -- a call reads for a new promise
    call-fair : (c : Call) (s : Slots) → w (Promise (next_id s.promises)) ≡ 0 → AreFair w space unit least (begin c s).done.caused
    call-fair c s n = each_call (λ (b : Begun). AreFair w space unit least b.done.caused) c s (record {
      unchanged = λ reply. tt;
      rejected = λ fault. grind (arith, each-append);
      make_readable = λ mark size start. grind (arith, each-append);
      make_writable = λ mark size start. grind (arith, each-append);
      make_bytes = λ mark auto start. grind (arith, each-append);
      make_tee = λ i e is free untied. (tt, (tt, (tt, (tt, tt))));
      make_transform = λ kind m n start. grind (arith, each-append);
      get_byob = λ i is e. (tt, tt);
      release_byob = λ l closed i e. grind (arith, each-append);
      read_into = λ l i closed room element least e f. (λ o. absurd (omega (arith, o, n)), tt);
      enqueue_bytes = λ i b e is some can. (tt, tt);
      finish_bytes = λ i e is can. (tt, tt);
      make_request = λ i reply is. (tt, tt);
      respond = λ r i b e is can. (tt, tt);
      get_reader = λ i e. (tt, tt);
      get_writer = λ i e. (tt, tt);
      release_reader = λ l closed i e. grind (arith, each-append);
      release_writer = λ l i w e f. grind (arith, each-append);
      cancel = λ reason i. (tt, tt);
      read = λ l i closed e f. (n, tt);
      write = λ l v i e. (tt, tt);
      close = λ i. (tt, tt);
      abort = λ reason i e. (tt, tt);
      enqueue = λ i v e o can. (tt, tt);
      enqueue_half = λ i t v e o can. (tt, tt);
      fail_half = λ t reason. (tt, tt);
      terminate = λ t. (tt, tt);
      finish = λ i. (tt, tt);
      fail_readable = λ i reason. (tt, tt);
      fail_writable = λ i reason. (tt, tt);
      pipe = λ source dest prevent signal e f free m. grind (arith, each-append);
      make_signal = tt;
      open_end = λ side. (start-fair (record { 0 = length s.streams }) side, tt);
      send_readable = λ i there free. (tt, (tt, (tt, (tt, (tt, (tt, (tt, tt)))))));
      send_writable = λ i there free. (tt, (tt, (tt, (tt, (tt, (tt, (tt, tt)))))));
      deliver = λ p m e is. (tt, tt);
      trigger = λ a reason. (tt, tt);
      settle = λ h answer q e. grind (arith, each-append);
    })

    job-fair : (job : Job) → AreFair w space unit least (job_effects job)
    job-fair job = grind (arith, each-append)

    -- what goes on with the promises
    pub record Follows (T : Table → Type 0) : Type 0 where
      pub fresh : (t : Table) → T t → w (Promise (next_id t)) ≡ 0
      pub row : (e : Effect) (s : Slots) → IsFair w space unit least e → T s.promises → T (row e s).slots.promises
      pub begins : (c : Call) (s : Slots) → T s.promises → T (begin c s).done.slots.promises
      pub next : (t : Table) → T t → T (after_next_job t)
      pub watched : (p : PromiseId) (t : Table) → T t → T (watch p t)
      pub heard : (t z : Table) → z.entries ≡ t.entries → T t → T z

    module _ (T : Table → Type 0) (follows : Follows T) where
      pub record Rooms (s : Slots) (es : List Effect) : Type 0 where
        pub locked : Locked s es
        pub sound : (i : StreamId) → sound.All i s es
        pub told : FirstTold s es
        pub streams : AreFairStreams s
        pub effects : AreFair w space unit least es
        pub table : T s.promises

      rooms-row : (s : Slots) (e : Effect) (es : List Effect) → Rooms s (e ∷ es) → Rooms (row e s).slots ((row e s).caused ++ es)
      rooms-row s e es k =
          let z = row-leaves e s (λ i. (k.sound i).0) k.told.0 k.effects.0 k.streams in
          record {
            locked = locked-stays.row s e es k.locked;
            sound = λ i. (sound.stays i).row s e es (k.sound i);
            told = none-told (row e s).slots ((row e s).caused ++ es) (each-append IsNoByte (row e s).caused es (row-other e s) k.told.1);
            streams = z.0;
            effects = each-append (IsFair w space unit least) (row e s).caused es z.1 k.effects.1;
            table = follows.row e s k.effects.0 k.table;
          }

      pub rooms-call : (s : Slots) (c : Call) → Rooms s [] → Rooms (begin c s).done.slots (begin c s).done.caused
      rooms-call s c k =
          record {
            locked = locked-stays.call s c k.locked;
            sound = λ i. (sound.stays i).call s c (k.sound i);
            told = first-told (begin c s).done.slots (begin c s).done.caused (begin-behind c s) (call-told c s k.locked);
            streams = call-streams c s k.streams;
            effects = call-fair c s (follows.fresh s.promises k.table);
            table = follows.begins c s k.table;
          }

      pub rooms-stay : Stays Rooms
      rooms-stay = record {
        row = rooms-row;
        call = rooms-call;
        job = λ s job e k. record {
          locked = locked-stays.job s job e k.locked;
          sound = λ i. (sound.stays i).job s job e (k.sound i);
          told = none-told (with_promises (after_next_job s.promises) s) (job_effects job) (job-none job);
          streams = k.streams;
          effects = job-fair job;
          table = follows.next s.promises k.table;
        };
        answered = λ s p k. record {
          locked = locked-stays.answered s p k.locked;
          sound = λ i. (sound.stays i).answered s p (k.sound i);
          told = tt;
          streams = k.streams;
          effects = tt;
          table = follows.watched p s.promises k.table;
        };
        older = λ s k. record { locked = locked-stays.older s k.locked; sound = λ i. (sound.stays i).older s (k.sound i); told = tt; streams = k.streams; effects = tt; table = k.table };
      }
