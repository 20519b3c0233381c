-- What a call or a job takes, at each moment of it (`room_is_enough`).
use Rattle.std.proofs.Common.{◌≡◌, ◌≤◌, ℕ, zero, suc, ◌+◌, ◌*◌, Bool, true, false, if◌then◌else◌, List, [], ◌∷◌, ◌++◌, length, Option, Some, None, Result, Err, refl, ap, arith}
use Rattle.std.specs.Prelude.{slice_get, nat_lt, not, ◌&&◌}
use Rattle.ws_value.specs.declared.fault.Fault.{Fault}
use Rattle.ws_value.specs.declared.value.Plain.TheVariants.{Fault as FaultReason}
use Rattle.ws_value.specs.declared.fault.Fault.TheVariants.{TypeError as TypeErrorFault}
use Rattle.ws_value.specs.declared.ids.HostId.{HostId}
use Rattle.ws_value.specs.declared.ids.LockId.{LockId}
use Rattle.ws_value.specs.declared.ids.PipeId.{PipeId}
use Rattle.ws_value.specs.declared.ids.PromiseId.{PromiseId}
use Rattle.ws_value.specs.declared.ids.RequestId.{RequestId}
use Rattle.ws_value.specs.declared.ids.SignalId.{SignalId}
use Rattle.ws_value.specs.declared.ids.StreamId.{StreamId}
use Rattle.ws_value.specs.declared.ids.TeeId.{TeeId}
use Rattle.ws_value.specs.declared.value.Plain.{Plain}
use Rattle.ws_steps.specs.declared.{calls.Answer.{Answer}, calls.Call.{Call}}
use Rattle.ws_steps.specs.declared.calls.Call.TheVariants as names
use Rattle.ws_steps.specs.declared.{calls.Reply.{Reply}, calls.Reply.TheVariants.{Done as ReplyDone, Made, MadeTwo, Lock as ReplyLock, Promise, Signal as ReplySignal, Port as ReplyPort, MadePort, Request as ReplyRequest, Size, State as ReplyState, Throws, TooMany}}
use Rattle.ws_steps.specs.declared.{calls.Thrown.TheVariants.{TypeError, DataClone, Unsupported}, calls.StartBy.{StartBy}, calls.StartBy.TheVariants.{Now, Later}, effects.Effect.{Effect}}
use Rattle.ws_steps.specs.declared.{effects.Effect.TheVariants.{Readable, Byte, Writable, Signal as OnSignal, Transform as OnTransform, Port as OnPort, StartAlgorithm, Settle as SettlePromise}, effects.Owner.{Owner}, effects.Owner.TheVariants.{Host, HalfOf, BranchOf, EndOf}}
use Rattle.ws_steps.specs.declared.{readable.ReadRequest.TheVariants.{Promise as PromiseRequest}, readable.ReadableOperation.{ReadableOperation}}
use Rattle.ws_steps.specs.declared.readable.ReadableOperation.TheVariants.{ReleaseReader, Read as ReadChunk, Cancel as CancelStream, Enqueue as EnqueueChunk, Close as CloseReadable, Error as ErrorReadable}
use Rattle.ws_steps.specs.declared.port.PortOperation.TheVariants.{Deliver as DeliverMessage}
use Rattle.ws_steps.specs.declared.port.Side.{Side}
use Rattle.ws_steps.specs.declared.port.Side.TheVariants.{Readable as ReadableSide, Writable as WritableSide}
use Rattle.ws_steps.specs.declared.tee.Half.TheVariants.{First, Second}
use Rattle.ws_steps.specs.declared.transform.Kind.{Kind}
use Rattle.ws_steps.specs.declared.transform.TransformOperation.TheVariants.{Enqueue as EnqueueByTransform, Error as ErrorTransform, Terminate as TerminateTransform}
use Rattle.ws_steps.specs.declared.writable.WritableOperation.TheVariants.{ReleaseWriter, Write as WriteChunk, Close as CloseStream, Abort as AbortStream, ErrorIfNeeded}
use Rattle.ws_value.specs.declared.value.Value.{Value}
use Rattle.ws_value.specs.declared.value.Value.TheVariants.{Plain as PlainValue, Bytes}
use Rattle.ws_steps.specs.declared.byte.ByteOperation.TheVariants.{Enqueue as EnqueueBytes, PullInto, Respond as RespondBytes}
use Rattle.ws_steps.specs.ReadableLooks as readable_looks
use Rattle.ws_steps.specs.WritableLooks as writable_looks
use Rattle.ws_steps.specs.declared.{locks.Lock.{Lock}, locks.Lock.TheVariants.{Reader as ReaderLock, ByobReader, Writer as WriterLock, ReleasedWriter, Inner}, promises.Job.{Job}}
use Rattle.ws_steps.specs.declared.{promises.Job.TheVariants.{Reaction, Follow, Settle, Micro as MicroJob}, promises.Micro.TheVariants.{PipeLook, PipeWrite, PipeNoParts, TeeHand}, pipes.Prevent.{Prevent}, pipes.SignalOperation.TheVariants.{Trigger as TriggerSignal}, promises.Step.{Step}}
use Rattle.ws_steps.specs.declared.{promises.Step.TheVariants.{ReadableStart, WritableStart}, readable.SizeBy.TheVariants.{Count}, writable.Writer.{Writer}}
use Rattle.ws_steps.specs.Promises.{Table, next_id, fresh, next_job, is_pending_at}
use Rattle.ws_steps.specs.Bytes as byte
use Rattle.ws_steps.specs.Descriptors.{Descriptor, room_left, respond_throws}
use Rattle.ws_steps.specs.Queues.{is_empty}
use Rattle.ws_steps.specs.Pipes as pipe
use Rattle.ws_steps.specs.Readable as readable
use Rattle.ws_steps.specs.Tee as tee
use Rattle.ws_steps.specs.Writable as writable
use Rattle.ws_steps.specs.Slots.{Slots, most_streams, Stream, ReadableStream, ByteStream, WritableStream, Done, causes, has_readable, has_byte, has_source, has_writable, has_signal, has_port, readable_at, byte_at, source_at, stream_of_request, writable_at, lock_at, host_at, owner_at, is_teed}
use Rattle.ws_steps.specs.Places.{Prices, Counts, all_kept, tee_keeps, tees_keep, price, each, effect_price, prices_of, keeps, all_keep, signals_keep, need, measure, step_price, room, size, entries_of, members_of, table_size}
use Rattle.ws_steps.specs.Turns.{row, turns, after_turns, performed, Agenda}
use Rattle.ws_steps.specs.Jobs.{steps, returned, resolved, job_effects, job_begun, begin_job}
use Rattle.ws_steps.specs.Begun as replying
use Rattle.ws_steps.specs.MakingCalls as making_calls
use Rattle.ws_steps.specs.LockCalls as lock_calls
use Rattle.ws_steps.specs.ControllerCalls as controller_calls
use Rattle.ws_steps.specs.PipeCalls as pipe_calls
use Rattle.ws_steps.specs.Begun.{Begun}
use Rattle.ws_steps.specs.Calls.{begin, named}
use Rattle.ws_steps.specs.Laws.{Within, RoomIsEnough}
use Rattle.ws_room_laws.proofs.Tables.{length-set, fresh-size, watch-size, after_job-size}
use Rattle.ws_room_laws.proofs.Readables.{prices-append}
use Rattle.ws_room_laws.proofs.Rows.{falls}

-- what is taken, with what may still be taken, doesn't grow with turns
turns-stand : (π : Prices) (i : StreamId) (g : SignalId) (c : Counts π i) (n : ℕ) (s : Slots) (es : List Effect)
    → let a : Agenda = turns n (record { slots = s; effects = es }) in size π i g a.slots + need π a.slots a.effects ≤ size π i g s + need π s es
unfolding turns
turns-stand π i g c zero s es = omega arith
turns-stand π i g c (suc n) s [] = turns-stand π i g c n s []
turns-stand π i g c (suc n) s (e ∷ es) =
    let h = falls π i g c e es s in
    let f = turns-stand π i g c n (row e s).slots ((row e s).caused ++ es) in omega (arith, h, f)

-- each effect takes a turn
effect-least : (π : Prices) (e : Effect) → π.turn ≤ effect_price π e
effect-least π e = grind arith

pub effects-stand : (π : Prices) (es : List Effect) → each π.turn es ≤ prices_of π es
effects-stand π [] = omega arith
effects-stand π (e ∷ es) = let h = effect-least π e in let g = effects-stand π es in omega (arith, h, g)

-- what begins so stays within this room
abbrev pub Begins : Prices → StreamId → SignalId → ℕ → Slots → Done → Type 0
Begins π i g n s d = size π i g d.slots + need π d.slots d.caused ≤ size π i g s + n

begun-within : (π : Prices) (i : StreamId) (g : SignalId) (c : Counts π i) (n m : ℕ) (s : Slots) (d : Done) → Begins π i g m s d → Within π i g n s m d
begun-within π i g c n m s d h =
    let f = turns-stand π i g c n d.slots d.caused in
    let k = effects-stand π (after_turns n d).effects in omega (arith, h, f, k)

-- what a call takes before the promise that it answers is watched, or a job
abbrev pub call_price : Prices → ℕ
call_price π = price π 28 14 11 3 3 4 2 + (π.member + π.descriptor)

module _ (π : Prices) (i : StreamId) (g : SignalId) (counts : Counts π i) (s : Slots) where
  -- a call begins within the room
  abbrev Fits : Begun → Type 0
  Fits b = Begins π i g (all_kept π s + call_price π) s b.done

  if-fits : (test : Bool) (a b : Begun) → Fits a → Fits b → Fits (if test then a else b)
  if-fits true a b f g = f
  if-fits false a b f g = g

  replies-fits : (reply : Reply) → Fits (replying.replies reply s)
  replies-fits reply = omega arith

  does-fits : (es : List Effect) → prices_of π es ≤ call_price π → Fits (replying.does es s)
  does-fits es h = omega (arith, h)

  promising-fits : (es : PromiseId → List Effect) → prices_of π (es (next_id s.promises)) + π.promise ≤ call_price π → Fits (replying.promising es s)
  promising-fits es h = let f = fresh-size π s.promises in omega (arith, h, f)

  refused-fits : (fault : Fault) → Fits (replying.rejected_with fault s)
  refused-fits fault = promising-fits (λ p. SettlePromise p (Err (FaultReason fault)) ∷ []) (omega arith)

  rejected-fits : Fits (replying.rejected s)
  rejected-fits = refused-fits TypeErrorFault

  unsupported-fits : Fits (replying.unsupported s)
  unsupported-fits = replies-fits (Throws Unsupported)

  type_error-fits : Fits (replying.throws_type_error s)
  type_error-fits = replies-fits (Throws TypeError)

  for_readable-fits : (j : StreamId) (f : Slots → Begun) → Fits (f s) → Fits (replying.for_readable j f s)
  for_readable-fits j f h = if-fits (has_readable j s) (f s) (replying.unsupported s) h unsupported-fits

  for_byte-fits : (j : StreamId) (f : Slots → Begun) → Fits (f s) → Fits (replying.for_byte j f s)
  for_byte-fits j f h = if-fits (has_byte j s) (f s) (replying.unsupported s) h unsupported-fits

  for_source-fits : (j : StreamId) (f : Slots → Begun) → Fits (f s) → Fits (replying.for_source j f s)
  for_source-fits j f h = if-fits (has_source j s) (f s) (replying.unsupported s) h unsupported-fits

  for_writable-fits : (j : StreamId) (f : Slots → Begun) → Fits (f s) → Fits (replying.for_writable j f s)
  for_writable-fits j f h = if-fits (has_writable j s) (f s) (replying.unsupported s) h unsupported-fits

  unlocked_readable-fits : (j : StreamId) (locked : Slots → Begun) (free : StreamId → Slots → Begun) → Fits (locked s) → Fits (free j s) → Fits (replying.unlocked_readable j locked free s)
  unlocked_readable-fits j locked free l f =
      for_source-fits j (λ z. if readable_looks.is_locked (source_at j z) then locked z else free j z) (if-fits (readable_looks.is_locked (source_at j s)) (locked s) (free j s) l f)

  unlocked_writable-fits : (j : StreamId) (locked : Slots → Begun) (free : StreamId → Slots → Begun) → Fits (locked s) → Fits (free j s) → Fits (replying.unlocked_writable j locked free s)
  unlocked_writable-fits j locked free l f =
      for_writable-fits j (λ z. if writable_looks.is_locked (writable_at j z) then locked z else free j z) (if-fits (writable_looks.is_locked (writable_at j s)) (locked s) (free j s) l f)

  by_reader-fits : (holding : StreamId → Slots → Begun) (free : Slots → Begun) → ((j : StreamId) → Fits (holding j s)) → Fits (free s) → (lock : Option Lock) → Fits (lock_calls.by_reader holding free s lock)
  by_reader-fits holding free h f None = unsupported-fits
  by_reader-fits holding free h f (Some (ReaderLock (Some j) closed)) = for_source-fits j (holding j) (h j)
  by_reader-fits holding free h f (Some (ReaderLock None closed)) = f
  by_reader-fits holding free h f (Some (ByobReader (Some j) closed)) = for_source-fits j (holding j) (h j)
  by_reader-fits holding free h f (Some (ByobReader None closed)) = f
  by_reader-fits holding free h f (Some (WriterLock j)) = unsupported-fits
  by_reader-fits holding free h f (Some (ReleasedWriter w)) = unsupported-fits
  by_reader-fits holding free h f (Some Inner) = unsupported-fits

  by_default_reader-fits : (holding : StreamId → Slots → Begun) (free : Slots → Begun) → ((j : StreamId) → Fits (holding j s)) → Fits (free s) → (lock : Option Lock) → Fits (lock_calls.by_default_reader holding free s lock)
  by_default_reader-fits holding free h f lock =
      if-fits (lock_calls.is_byob_reader lock) (replying.unsupported s) (lock_calls.by_reader holding free s lock) unsupported-fits (by_reader-fits holding free h f lock)

  by_byob_reader-fits : (holding : StreamId → Slots → Begun) (free : Slots → Begun) → ((j : StreamId) → Fits (holding j s)) → Fits (free s) → (lock : Option Lock) → Fits (lock_calls.by_byob_reader holding free s lock)
  by_byob_reader-fits holding free h f lock =
      if-fits (lock_calls.is_byob_reader lock) (lock_calls.by_reader holding free s lock) (replying.unsupported s) (by_reader-fits holding free h f lock) unsupported-fits

  by_writer-fits : (holding : StreamId → Slots → Begun) (free : Slots → Begun) → ((j : StreamId) → Fits (holding j s)) → Fits (free s) → (lock : Option Lock) → Fits (lock_calls.by_writer holding free s lock)
  by_writer-fits holding free h f None = unsupported-fits
  by_writer-fits holding free h f (Some (ReaderLock stream closed)) = unsupported-fits
  by_writer-fits holding free h f (Some (ByobReader stream closed)) = unsupported-fits
  by_writer-fits holding free h f (Some (WriterLock j)) = for_writable-fits j (holding j) (h j)
  by_writer-fits holding free h f (Some (ReleasedWriter w)) = f
  by_writer-fits holding free h f (Some Inner) = unsupported-fits

  of_writer-fits : (f : Writer → Slots → Begun) → ((w : Writer) → Fits (f w s)) → (w : Option Writer) → Fits (lock_calls.of_writer f s w)
  of_writer-fits f h None = unsupported-fits
  of_writer-fits f h (Some w) = h w

  -- a new stream has no entries and keeps nothing

  append-keep : (xs : List Stream) (x : Stream) → all_keep π (xs ++ x ∷ []) ≡ all_keep π xs + keeps π x
  append-keep [] x = omega arith
  append-keep (y ∷ ys) x = let h = append-keep ys x in omega (arith, h)

  append-entries : (xs : List Stream) (x : Stream) (n : ℕ) → entries_of π (Some x) ≡ 0 → entries_of π (slice_get (xs ++ x ∷ []) n) ≤ entries_of π (slice_get xs n)
  append-entries [] x zero e = omega (arith, e)
  append-entries [] x (suc n) e = omega arith
  append-entries (y ∷ ys) x zero e = omega arith
  append-entries (y ∷ ys) x (suc n) e = append-entries ys x n e

  stream-fits : (x : Stream) (reply : Reply) (j : StreamId) (step : Step) (start : StartBy) → entries_of π (Some x) ≡ 0 → keeps π x ≡ 0
      → Fits (replying.begun reply (causes (StartAlgorithm j step start ∷ []) (making_calls.add_stream x s)))
  stream-fits x reply j step Now e k =
      let a = append-keep s.streams x in let b = append-entries s.streams x i.0 e in omega (arith, a, b, k)
  stream-fits x reply j step Later e k =
      let a = append-keep s.streams x in let b = append-entries s.streams x i.0 e in omega (arith, a, b, k)

  make-fits : (make : StreamId → Slots → Begun) → Fits (make (record { 0 = length s.streams }) s) → Fits (making_calls.make_stream make s)
  make-fits make h = if-fits (nat_lt (length s.streams) most_streams) (make (record { 0 = length s.streams }) s) (replying.replies TooMany s) h (replies-fits TooMany)

  start_transform-price : (p : PromiseId) (j : StreamId) (start : StartBy) → prices_of π (making_calls.start_transform p j start ∷ []) ≤ price π 1 1 1 1 1 0 0
  start_transform-price p j Now = omega arith
  start_transform-price p j Later = omega arith

  transform-fits : (kind : Kind) (m n : ℕ) (start : StartBy) (j k : StreamId) → Fits (making_calls.make_transform kind m n start j k s)
  transform-fits kind m n start j k =
      let w : Stream = WritableStream (writable.set_up (HalfOf (record { 0 = length s.transforms })) m Count) in
      let r : Stream = ReadableStream (readable.set_up (HalfOf (record { 0 = length s.transforms })) n Count) in
      let t : Table = s.promises in
      let a = fresh-size π t in
      let b = fresh-size π (fresh t) in
      let c = fresh-size π (fresh (fresh t)) in
      let d = fresh-size π (fresh (fresh (fresh t))) in
      let e = append-keep s.streams w in
      let f = append-keep (s.streams ++ w ∷ []) r in
      let x = append-entries s.streams w i.0 refl in
      let y = append-entries (s.streams ++ w ∷ []) r i.0 refl in
      let h = start_transform-price (next_id (fresh t)) k start in
      omega (arith, a, b, c, d, e, f, x, y, h)

  append-tees : (xs : List tee.Slots) (x : tee.Slots) → tees_keep π (xs ++ x ∷ []) ≡ tees_keep π xs + tee_keeps π x
  append-tees [] x = omega arith
  append-tees (y ∷ ys) x = let h = append-tees ys x in omega (arith, h)

  -- a new tee keeps what it may do to its source
  tee-fits : (source j k : StreamId) → Fits (making_calls.make_tee source j k s)
  tee-fits source j k =
      let me : TeeId = record { 0 = length s.tees } in
      let x : Stream = ReadableStream (readable.set_up (BranchOf me First) 1 Count) in
      let y : Stream = ReadableStream (readable.set_up (BranchOf me Second) 1 Count) in
      let t : Table = s.promises in
      let a = fresh-size π t in
      let b = fresh-size π (fresh t) in
      let c = append-keep s.streams x in
      let d = append-keep (s.streams ++ x ∷ []) y in
      let e = append-entries s.streams x i.0 refl in
      let f = append-entries (s.streams ++ x ∷ []) y i.0 refl in
      let h = append-tees s.tees (tee.set_up source j k (next_id (fresh t))) in
      let o = counts.others source in
      omega (arith, a, b, c, d, e, f, h, o)

  two-fits : (make : StreamId → StreamId → Slots → Begun) → Fits (make (record { 0 = length s.streams }) (record { 0 = length s.streams + 1 }) s) → Fits (making_calls.make_two make s)
  two-fits make h = if-fits (nat_lt (length s.streams + 1) most_streams) (make (record { 0 = length s.streams }) (record { 0 = length s.streams + 1 }) s) (replying.replies TooMany s) h (replies-fits TooMany)

  -- readers and writers

  reader-fits : (j : StreamId) → Fits (making_calls.get_reader j s)
  reader-fits j = let f = fresh-size π s.promises in omega (arith, f)

  byob-fits : (j : StreamId) → Fits (making_calls.get_byob j s)
  byob-fits j = let f = fresh-size π s.promises in omega (arith, f)

  writer-fits : (j : StreamId) → Fits (making_calls.get_writer j s)
  writer-fits j = let f = fresh-size π s.promises in let g = fresh-size π (fresh s.promises) in omega (arith, f, g)

  renewed-size : (t : Table) (kept : Bool) → table_size π (lock_calls.with_renewed t kept) ≤ table_size π t + π.promise
  renewed-size t true = omega arith
  renewed-size t false = fresh-size π t

  renewed-price : (t : Table) (kept : Bool) → prices_of π (lock_calls.reject_renewed t kept) ≤ π.turn
  renewed-price t true = omega arith
  renewed-price t false = omega arith

  release_reader-fits : (released : PromiseId → Lock) (l : LockId) (closed : PromiseId) (j : StreamId) → Fits (lock_calls.release_reader released l closed j s)
  release_reader-fits released l closed j =
      let kept : Bool = readable.is_readable (source_at j s).state in
      let f = renewed-size s.promises kept in
      let g = renewed-price s.promises kept in
      let h = prices-append π (lock_calls.reject_renewed s.promises kept) (Readable j ReleaseReader ∷ []) in
      omega (arith, f, g, h)

  release_writer-fits : (l : LockId) (j : StreamId) (w : Writer) → Fits (lock_calls.release_writer l j w s)
  release_writer-fits l j w =
      let first : Bool = is_pending_at w.ready s.promises in
      let t : Table = lock_calls.with_renewed s.promises first in
      let second : Bool = is_pending_at w.closed t in
      let last : List Effect = Writable j ReleaseWriter ∷ [] in
      let a = renewed-size s.promises first in
      let b = renewed-size t second in
      let c = renewed-price s.promises first in
      let d = renewed-price t second in
      let e = prices-append π (lock_calls.reject_renewed s.promises first) (lock_calls.reject_renewed t second ++ last) in
      let f = prices-append π (lock_calls.reject_renewed t second) last in
      omega (arith, a, b, c, d, e, f)

  release-fits : (l : LockId) (lock : Option Lock) → Fits (lock_calls.release l s lock)
  release-fits l None = unsupported-fits
  release-fits l (Some (ReaderLock (Some j) closed)) = for_source-fits j (lock_calls.release_reader (ReaderLock None) l closed j) (release_reader-fits (ReaderLock None) l closed j)
  release-fits l (Some (ReaderLock None closed)) = replies-fits ReplyDone
  release-fits l (Some (ByobReader (Some j) closed)) = for_source-fits j (lock_calls.release_reader (ByobReader None) l closed j) (release_reader-fits (ByobReader None) l closed j)
  release-fits l (Some (ByobReader None closed)) = replies-fits ReplyDone
  release-fits l (Some (WriterLock j)) = of_writer-fits (lock_calls.release_writer l j) (λ w. release_writer-fits l j w) (writable_at j s).writer
  release-fits l (Some (ReleasedWriter w)) = replies-fits ReplyDone
  release-fits l (Some Inner) = unsupported-fits

  closed-fits : (lock : Option Lock) → Fits (lock_calls.closed_by s lock)
  closed-fits None = unsupported-fits
  closed-fits (Some (ReaderLock stream closed)) = replies-fits (Promise closed)
  closed-fits (Some (ByobReader stream closed)) = replies-fits (Promise closed)
  closed-fits (Some (WriterLock j)) = of_writer-fits (λ w. replying.replies (Promise w.closed)) (λ w. replies-fits (Promise w.closed)) (writable_at j s).writer
  closed-fits (Some (ReleasedWriter w)) = replies-fits (Promise w.closed)
  closed-fits (Some Inner) = unsupported-fits

  ready-fits : (lock : Option Lock) → Fits (lock_calls.ready_by s lock)
  ready-fits None = unsupported-fits
  ready-fits (Some (ReaderLock stream closed)) = unsupported-fits
  ready-fits (Some (ByobReader stream closed)) = unsupported-fits
  ready-fits (Some (WriterLock j)) = of_writer-fits (λ w. replying.replies (Promise w.ready)) (λ w. replies-fits (Promise w.ready)) (writable_at j s).writer
  ready-fits (Some (ReleasedWriter w)) = replies-fits (Promise w.ready)
  ready-fits (Some Inner) = unsupported-fits

  -- operations that answer a promise

  cancel-fits : (r : Plain) (j : StreamId) → Fits (lock_calls.cancel r j s)
  cancel-fits r j = promising-fits (λ p. Readable j (CancelStream r p) ∷ []) (omega arith)

  read-fits : (j : StreamId) → Fits (lock_calls.read j s)
  read-fits j = promising-fits (λ p. Readable j (ReadChunk (PromiseRequest p)) ∷ []) (omega arith)

  read_into-fits : (room : List ℕ) (element least : ℕ) (j : StreamId) → Fits (lock_calls.read_into room element least j s)
  read_into-fits room element least j = promising-fits (λ p. Byte j (PullInto room element (least * element) (PromiseRequest p)) ∷ []) (omega arith)

  read_into_by-fits : (room : List ℕ) (element least : ℕ) (lock : Option Lock) → Fits (lock_calls.read_into_by room element least s lock)
  read_into_by-fits room element least lock =
      let f : Fault = lock_calls.least_fault (length room) least in
      let refused : Begun = lock_calls.refuse_least f s lock in
      let other : Begun = lock_calls.by_byob_reader (lock_calls.read_into room element least) replying.rejected s lock in
      if-fits (not (lock_calls.is_view (length room) element)) (replying.unsupported s) (if not (lock_calls.has_least (length room) element least) then refused else other) unsupported-fits
      (if-fits (not (lock_calls.has_least (length room) element least)) refused other (by_byob_reader-fits (λ j. replying.rejected_with f) (replying.rejected_with f) (λ j. refused-fits f) (refused-fits f) lock)
      (by_byob_reader-fits (lock_calls.read_into room element least) replying.rejected (read_into-fits room element least) rejected-fits lock))

  write-fits : (v : Value) (j : StreamId) → Fits (lock_calls.write v j s)
  write-fits v j = promising-fits (λ p. Writable j (WriteChunk v p) ∷ []) (omega arith)

  close-fits : (j : StreamId) → Fits (lock_calls.close j s)
  close-fits j = promising-fits (λ p. Writable j (CloseStream p) ∷ []) (omega arith)

  abort-fits : (r : Plain) (j : StreamId) (p : Option PromiseId) → Fits (lock_calls.abort_unless r j s p)
  abort-fits r j None = promising-fits (λ p. Writable j (AbortStream r p) ∷ []) (omega arith)
  abort-fits r j (Some p) = replies-fits (Promise p)

  can-fits : (j : StreamId) (operation : ReadableOperation) → prices_of π (Readable j operation ∷ []) ≤ call_price π → Fits (controller_calls.if_it_can j operation s)
  can-fits j operation h =
      if-fits (readable.can_close_or_enqueue (readable_at j s)) (replying.does (Readable j operation ∷ []) s) (replying.throws_type_error s)
      (does-fits (Readable j operation ∷ []) h) type_error-fits

  settle-fits : (h : HostId) (answer : Answer) (p : Option PromiseId) → Fits (controller_calls.settle_host h answer s p)
  settle-fits h answer None = unsupported-fits
  settle-fits h answer (Some p) = let e = ap (λ n. π.host * n) (length-set s.hosts h.0 None) in omega (arith, e)

  enqueue-fits : (v : Value) (j : StreamId) (o : Owner) → Fits (controller_calls.enqueue_by v j s o)
  enqueue-fits v j Host = can-fits j (EnqueueChunk v) (omega arith)
  enqueue-fits v j (BranchOf t half) = unsupported-fits
  enqueue-fits v j (EndOf c) = unsupported-fits
  enqueue-fits v j (HalfOf t) =
      if-fits (readable.can_close_or_enqueue (readable_at j s)) (replying.does (OnTransform t (EnqueueByTransform v) ∷ []) s) (replying.throws_type_error s)
      (does-fits (OnTransform t (EnqueueByTransform v) ∷ []) (omega arith)) type_error-fits

  finish-fits : (j : StreamId) (o : Owner) → Fits (controller_calls.finish_by j s o)
  finish-fits j Host = can-fits j CloseReadable (omega arith)
  finish-fits j (HalfOf t) = unsupported-fits
  finish-fits j (BranchOf t half) = unsupported-fits
  finish-fits j (EndOf c) = unsupported-fits

  enqueue_bytes-fits : (j : StreamId) (v : Value) → Fits (controller_calls.enqueue_bytes j s v)
  enqueue_bytes-fits j (PlainValue v) = type_error-fits
  enqueue_bytes-fits j (Bytes b) =
      if-fits (not (is_empty b) && byte.can_take (byte_at j s)) (replying.does (Byte j (EnqueueBytes b) ∷ []) s) (replying.throws_type_error s)
      (does-fits (Byte j (EnqueueBytes b) ∷ []) (omega arith)) type_error-fits

  enqueue_call-fits : (j : StreamId) (v : Value) → Fits (controller_calls.enqueue_call j v s)
  enqueue_call-fits j v =
      if-fits (has_byte j s) (controller_calls.enqueue_bytes j s v) (replying.for_readable j (controller_calls.enqueue v j) s) (enqueue_bytes-fits j v)
      (for_readable-fits j (controller_calls.enqueue v j) (enqueue-fits v j (readable_at j s).owner))

  finish_bytes-fits : (j : StreamId) → Fits (controller_calls.finish_bytes j s)
  finish_bytes-fits j =
      if-fits (byte.can_take (byte_at j s)) (replying.begun (controller_calls.close_reply (byte_at j s)) (causes (Readable j CloseReadable ∷ []) s)) (replying.throws_type_error s) (omega arith) type_error-fits

  finish_call-fits : (j : StreamId) → Fits (controller_calls.finish_call j s)
  finish_call-fits j =
      if-fits (has_byte j s) (controller_calls.finish_bytes j s) (replying.for_readable j (controller_calls.finish j) s) (finish_bytes-fits j)
      (for_readable-fits j (controller_calls.finish j) (finish-fits j (readable_at j s).owner))

  request-fits : (j : StreamId) (request : Option RequestId) (ds : List Descriptor) → Fits (controller_calls.request_by j s request ds)
  request-fits j request [] = replies-fits (ReplyRequest None)
  request-fits j (Some q) (d ∷ ds) = replies-fits (ReplyRequest (Some (q, room_left d)))
  request-fits j None (d ∷ ds) = omega arith

  respond_unless-fits : (j : StreamId) (b : List ℕ) (fault : Option Fault) → Fits (controller_calls.respond_unless j b s fault)
  respond_unless-fits j b None = does-fits (Byte j (RespondBytes b) ∷ []) (omega arith)
  respond_unless-fits j b (Some fault) = replies-fits (controller_calls.thrown_by fault)

  respond-fits : (q : RequestId) (b : List ℕ) (i : Option StreamId) → Fits (controller_calls.respond q b s i)
  respond-fits q b None = unsupported-fits
  respond-fits q b (Some j) =
      let fault : Option Fault = respond_throws (length b) (byte_at j s).stream.state (byte_at j s).descriptors in
      if-fits (controller_calls.is_request q (byte_at j s).request) (controller_calls.respond_unless j b s fault) (replying.throws_type_error s) (respond_unless-fits j b fault) type_error-fits

  fail_readable-fits : (r : Plain) (j : StreamId) (o : Owner) → Fits (controller_calls.fail_readable_by r j s o)
  fail_readable-fits r j Host = does-fits (Readable j (ErrorReadable r) ∷ []) (omega arith)
  fail_readable-fits r j (HalfOf t) = does-fits (OnTransform t (ErrorTransform r) ∷ []) (omega arith)
  fail_readable-fits r j (BranchOf t half) = unsupported-fits
  fail_readable-fits r j (EndOf c) = unsupported-fits

  fail_writable-fits : (r : Plain) (j : StreamId) (o : Owner) → Fits (controller_calls.fail_writable_by r j s o)
  fail_writable-fits r j Host = does-fits (Writable j (ErrorIfNeeded r) ∷ []) (omega arith)
  fail_writable-fits r j (HalfOf t) = unsupported-fits
  fail_writable-fits r j (BranchOf t half) = unsupported-fits
  fail_writable-fits r j (EndOf c) = unsupported-fits

  fail-fits : (r : Plain) (j : StreamId) → Fits (controller_calls.fail r j s)
  fail-fits r j =
      let failed : Slots → Begun = λ z. controller_calls.fail_writable_by r j z (writable_at j z).owner in
      let bytes : Begun = replying.does (Readable j (ErrorReadable r) ∷ []) s in
      if-fits (has_readable j s) (controller_calls.fail_readable_by r j s (readable_at j s).owner) (if has_byte j s then bytes else replying.for_writable j failed s)
      (fail_readable-fits r j (readable_at j s).owner)
      (if-fits (has_byte j s) bytes (replying.for_writable j failed s) (does-fits (Readable j (ErrorReadable r) ∷ []) (omega arith))
      (for_writable-fits j failed (fail_writable-fits r j (writable_at j s).owner)))

  terminate-fits : (o : Owner) → Fits (controller_calls.terminate_by s o)
  terminate-fits Host = unsupported-fits
  terminate-fits (HalfOf t) = does-fits (OnTransform t TerminateTransform ∷ []) (omega arith)
  terminate-fits (BranchOf t half) = unsupported-fits
  terminate-fits (EndOf c) = unsupported-fits

  desired-fits : (j : StreamId) (o : Owner) → Fits (controller_calls.desired_by j s o)
  desired-fits j Host = replies-fits (controller_calls.desired_by j s Host).reply
  desired-fits j (HalfOf t) = replies-fits (controller_calls.desired_by j s Host).reply
  desired-fits j (BranchOf t half) = unsupported-fits
  desired-fits j (EndOf c) = unsupported-fits

  look-fits : (j : StreamId) → Fits (controller_calls.look j s)
  look-fits j =
      let looked : Slots → Begun = λ z. replying.replies (ReplyState (writable_looks.state_of (writable_at j z))) z in
      let reply : Reply = ReplyState (readable_looks.state_of (source_at j s)) in
      if-fits (has_source j s) (replying.replies reply s) (replying.for_writable j looked s)
      (replies-fits reply) (for_writable-fits j looked (replies-fits (ReplyState (writable_looks.state_of (writable_at j s)))))

  -- pipes and signals

  for_signal-fits : (b : SignalId) (f : Slots → Begun) → Fits (f s) → Fits (pipe_calls.for_signal b f s)
  for_signal-fits b f h = if-fits (has_signal b s) (f s) (replying.unsupported s) h unsupported-fits

  for_signal_where-fits : (signal : Option SignalId) (f : Slots → Begun) → Fits (f s) → Fits (pipe_calls.for_signal_where signal f s)
  for_signal_where-fits None f h = h
  for_signal_where-fits (Some b) f h = for_signal-fits b f h

  begins-price : (me : PipeId) (p q : PromiseId) (signal : Option SignalId) (reason : Option Plain) → prices_of π (pipe_calls.pipe_begins me p q signal reason) ≤ price π 18 8 10 3 2 0 0 + π.member
  begins-price me p q signal reason = grind arith

  pipe_to-fits : (source dest : StreamId) (prevent : Prevent) (signal : Option SignalId) → Fits (pipe_calls.pipe_to source dest prevent signal s)
  pipe_to-fits source dest prevent signal =
      let t : Table = s.promises in
      let a = fresh-size π t in
      let b = fresh-size π (fresh t) in
      let c = fresh-size π (fresh (fresh t)) in
      let d = fresh-size π (fresh (fresh (fresh t))) in
      let h = begins-price (record { 0 = length s.pipes }) (next_id t) (next_id (fresh (fresh t))) signal (pipe_calls.reason_of signal s) in
      omega (arith, a, b, c, d, h)

  pipe_call-fits : (source dest : StreamId) (prevent : Prevent) (signal : Option SignalId) → Fits (pipe_calls.pipe_call source dest prevent signal s)
  pipe_call-fits source dest prevent signal =
      let free : Slots → Begun = pipe_calls.pipe_unlocked source dest prevent signal in
      let piped : Fits (free s) =
      if-fits (readable_looks.is_locked (source_at source s)) (replying.rejected s) (if writable_looks.is_locked (writable_at dest s) then replying.rejected s else pipe_calls.pipe_to source dest prevent signal s)
      rejected-fits
      (if-fits (writable_looks.is_locked (writable_at dest s)) (replying.rejected s) (pipe_calls.pipe_to source dest prevent signal s) rejected-fits (pipe_to-fits source dest prevent signal)) in
      for_source-fits source (replying.for_writable dest (pipe_calls.for_signal_where signal free))
      (for_writable-fits dest (pipe_calls.for_signal_where signal free) (for_signal_where-fits signal free piped))

  append-signals : (xs : List pipe.Signal) → signals_keep π (xs ++ pipe.new_signal ∷ []) ≡ signals_keep π xs
  append-signals [] = refl
  append-signals (x ∷ xs) = let h = append-signals xs in omega (arith, h)

  append-members : (xs : List pipe.Signal) (n : ℕ) → members_of π (slice_get (xs ++ pipe.new_signal ∷ []) n) ≤ members_of π (slice_get xs n)
  append-members [] zero = omega arith
  append-members [] (suc n) = omega arith
  append-members (x ∷ xs) zero = omega arith
  append-members (x ∷ xs) (suc n) = append-members xs n

  signal-fits : Fits (pipe_calls.make_signal s)
  signal-fits = let h = append-signals s.signals in let f = append-members s.signals g.0 in omega (arith, h, f)

  -- ports

  data_clone-fits : Fits (replying.throws_data_clone s)
  data_clone-fits = replies-fits (Throws DataClone)

  open-fits : (side : Side) (j : StreamId) → Fits (pipe_calls.open_end side j s)
  open-fits ReadableSide j =
      let x : Stream = pipe_calls.end_of (record { 0 = length s.ports }) ReadableSide in
      let a = append-keep s.streams x in
      let b = append-entries s.streams x i.0 refl in omega (arith, a, b)
  open-fits WritableSide j =
      let x : Stream = pipe_calls.end_of (record { 0 = length s.ports }) WritableSide in
      let a = append-keep s.streams x in
      let b = append-entries s.streams x i.0 refl in
      let f = fresh-size π s.promises in omega (arith, a, b, f)

  -- an end is set up, and a pipe begins
  send-fits : (side : Side) (source dest j : StreamId) → Fits (pipe_calls.sent_by j side s (pipe_calls.pipe_to source dest pipe_calls.no_prevent None (pipe_calls.add_port j s side)))
  send-fits ReadableSide source dest j =
      let x : Stream = pipe_calls.end_of (record { 0 = length s.ports }) ReadableSide in
      let t : Table = s.promises in
      let a = append-keep s.streams x in
      let b = append-entries s.streams x i.0 refl in
      let f = fresh-size π t in
      let h = fresh-size π (fresh t) in
      let k = fresh-size π (fresh (fresh t)) in
      let l = fresh-size π (fresh (fresh (fresh t))) in omega (arith, a, b, f, h, k, l)
  send-fits WritableSide source dest j =
      let x : Stream = pipe_calls.end_of (record { 0 = length s.ports }) WritableSide in
      let t : Table = s.promises in
      let a = append-keep s.streams x in
      let b = append-entries s.streams x i.0 refl in
      let f = fresh-size π t in
      let h = fresh-size π (fresh t) in
      let k = fresh-size π (fresh (fresh t)) in
      let l = fresh-size π (fresh (fresh (fresh t))) in
      let m = fresh-size π (fresh (fresh (fresh (fresh t)))) in omega (arith, a, b, f, h, k, l, m)

  send_call-fits : (j : StreamId) → Fits (pipe_calls.send j s)
  send_call-fits j =
      let new : StreamId = record { 0 = length s.streams } in
      if-fits (has_source j s) (replying.unlocked_readable j replying.throws_data_clone (λ source. making_calls.make_stream (pipe_calls.send_readable source)) s)
      (replying.unlocked_writable j replying.throws_data_clone (λ dest. making_calls.make_stream (pipe_calls.send_writable dest)) s)
      (unlocked_readable-fits j replying.throws_data_clone (λ source. making_calls.make_stream (pipe_calls.send_readable source)) data_clone-fits
      (make-fits (pipe_calls.send_readable j) (send-fits WritableSide j new new)))
      (unlocked_writable-fits j replying.throws_data_clone (λ dest. making_calls.make_stream (pipe_calls.send_writable dest)) data_clone-fits
      (make-fits (pipe_calls.send_writable j) (send-fits ReadableSide new j new)))

  pub begin-fits : (c : Call) → Fits (begin c s)
  unfolding begin
  begin-fits (names.MakeReadable mark size start) =
      make-fits (making_calls.make_readable mark size start) (stream-fits (ReadableStream (readable.set_up Host mark size)) (Made (record { 0 = length s.streams })) (record { 0 = length s.streams }) (ReadableStart (record { 0 = length s.streams })) start refl refl)
  begin-fits (names.MakeBytes mark auto start) =
      make-fits (making_calls.make_bytes mark auto start) (stream-fits (ByteStream (byte.set_up mark auto)) (Made (record { 0 = length s.streams })) (record { 0 = length s.streams }) (ReadableStart (record { 0 = length s.streams })) start refl refl)
  begin-fits (names.MakeWritable mark size start) =
      make-fits (making_calls.make_writable mark size start) (stream-fits (WritableStream (writable.set_up Host mark size)) (Made (record { 0 = length s.streams })) (record { 0 = length s.streams }) (WritableStart (record { 0 = length s.streams })) start refl refl)
  begin-fits (names.MakeTransform kind m n start) =
      two-fits (making_calls.make_transform kind m n start) (transform-fits kind m n start (record { 0 = length s.streams }) (record { 0 = length s.streams + 1 }))
  begin-fits (names.GetReader j) = unlocked_readable-fits j replying.throws_type_error making_calls.get_reader type_error-fits (reader-fits j)
  begin-fits (names.GetByob j) =
      unlocked_readable-fits j replying.throws_type_error making_calls.get_byob_of type_error-fits
      (if-fits (has_byte j s) (making_calls.get_byob j s) (replying.throws_type_error s) (byob-fits j) type_error-fits)
  begin-fits (names.GetWriter j) = unlocked_writable-fits j replying.throws_type_error making_calls.get_writer type_error-fits (writer-fits j)
  begin-fits (names.Tee j) =
      unlocked_readable-fits j replying.throws_type_error making_calls.tee_of type_error-fits
      (if-fits (has_byte j s) (replying.unsupported s) (if is_teed j s then replying.throws_type_error s else making_calls.make_two (making_calls.make_tee j) s) unsupported-fits
      (if-fits (is_teed j s) (replying.throws_type_error s) (making_calls.make_two (making_calls.make_tee j) s) type_error-fits
      (two-fits (making_calls.make_tee j) (tee-fits j (record { 0 = length s.streams }) (record { 0 = length s.streams + 1 })))))
  begin-fits (names.Cancel j r) = unlocked_readable-fits j replying.rejected (lock_calls.cancel r) rejected-fits (cancel-fits r j)
  begin-fits (names.CancelBy l r) = by_reader-fits (lock_calls.cancel r) replying.rejected (cancel-fits r) rejected-fits (lock_at l s)
  begin-fits (names.Read l) = by_default_reader-fits lock_calls.read replying.rejected read-fits rejected-fits (lock_at l s)
  begin-fits (names.ReadInto l room element least) = read_into_by-fits room element least (lock_at l s)
  begin-fits (names.Write l v) = by_writer-fits (lock_calls.write v) replying.rejected (write-fits v) rejected-fits (lock_at l s)
  begin-fits (names.Close j) = unlocked_writable-fits j replying.rejected lock_calls.close rejected-fits (close-fits j)
  begin-fits (names.CloseBy l) = by_writer-fits lock_calls.close replying.rejected close-fits rejected-fits (lock_at l s)
  begin-fits (names.Abort j r) = unlocked_writable-fits j replying.rejected (lock_calls.abort r) rejected-fits (abort-fits r j (writable.answered_abort (writable_at j s)))
  begin-fits (names.AbortBy l r) = by_writer-fits (lock_calls.abort r) replying.rejected (λ j. abort-fits r j (writable.answered_abort (writable_at j s))) rejected-fits (lock_at l s)
  begin-fits (names.Closed l) = closed-fits (lock_at l s)
  begin-fits (names.Ready l) = ready-fits (lock_at l s)
  begin-fits (names.Release l) = release-fits l (lock_at l s)
  begin-fits (names.Enqueue j v) = enqueue_call-fits j v
  begin-fits (names.Finish j) = finish_call-fits j
  begin-fits (names.Fail j r) = fail-fits r j
  begin-fits (names.Terminate j) = for_readable-fits j (controller_calls.terminate j) (terminate-fits (readable_at j s).owner)
  begin-fits (names.Request j) = for_byte-fits j (controller_calls.request j) (request-fits j (byte_at j s).request (byte_at j s).descriptors)
  begin-fits (names.Respond q b) = respond-fits q b (stream_of_request q s)
  begin-fits (names.Desired j) = for_source-fits j (controller_calls.desired j) (desired-fits j (owner_at j s))
  begin-fits (names.DesiredBy l) = by_writer-fits controller_calls.desired_of_writer replying.throws_type_error (λ j. replies-fits (controller_calls.desired_of_writer j s).reply) type_error-fits (lock_at l s)
  begin-fits (names.Pipe source dest prevent signal) = pipe_call-fits source dest prevent signal
  begin-fits names.MakeSignal = signal-fits
  begin-fits (names.Trigger b r) = for_signal-fits b (replying.does (OnSignal b (TriggerSignal r) ∷ [])) (does-fits (OnSignal b (TriggerSignal r) ∷ []) (omega arith))
  begin-fits (names.Send j) = send_call-fits j
  begin-fits (names.Open side) = make-fits (pipe_calls.open_end side) (open-fits side (record { 0 = length s.streams }))
  begin-fits (names.Deliver c m) =
      if-fits (has_port c s) (replying.does (OnPort c (DeliverMessage m) ∷ []) s) (replying.unsupported s) (does-fits (OnPort c (DeliverMessage m) ∷ []) (omega arith)) unsupported-fits
  begin-fits (names.Settle h answer) = settle-fits h answer (host_at h s)
  begin-fits (names.State j) = look-fits j
  begin-fits names.Step = replies-fits ReplyDone

  -- a job

  steps-price : (step : Step) (outcome : Result Plain Plain) → prices_of π (steps step outcome) ≤ price π 14 8 7 3 2 2 1 + π.descriptor
  steps-price step outcome = grind arith

  resolved-price : (derived : Option PromiseId) (outcome : Result Plain Plain) → prices_of π (resolved derived outcome) ≤ π.turn
  resolved-price None outcome = omega arith
  resolved-price (Some p) outcome = omega arith

  effects-price : (job : Job) → prices_of π (job_effects job) ≤ price π 28 14 11 4 3 4 2 + (π.descriptor + π.copy)
  effects-price (Reaction step outcome derived) =
      let a = steps-price step outcome in
      let b = resolved-price derived (returned step outcome) in
      let c = prices-append π (steps step outcome) (resolved derived (returned step outcome)) in omega (arith, a, b, c)
  effects-price (Follow p q) = omega arith
  effects-price (Settle p outcome) = omega arith
  effects-price (MicroJob (PipeLook p)) = omega arith
  effects-price (MicroJob (PipeWrite p)) = omega arith
  effects-price (MicroJob (PipeNoParts p)) = omega arith
  effects-price (MicroJob (TeeHand t)) = omega arith

  some_job-fits : (job : Option Job) → Begins π i g (all_kept π s + step_price π) s (job_begun s job)
  some_job-fits None = omega arith
  some_job-fits (Some job) = let a = after_job-size π s.promises in let b = effects-price job in omega (arith, a, b)

  pub job-fits : Begins π i g (all_kept π s + step_price π) s (begin_job s)
  unfolding begin_job
  job-fits = some_job-fits (next_job s.promises)

named-size : (π : Prices) (i : StreamId) (g : SignalId) (reply : Reply) (s : Slots) → size π i g (named reply s) ≤ size π i g s + π.event
named-size π i g (Promise p) s = let h = watch-size π p s.promises in omega (arith, h)
named-size π i g ReplyDone s = omega arith
named-size π i g (Made j) s = omega arith
named-size π i g (MadeTwo j k) s = omega arith
named-size π i g (ReplyLock l) s = omega arith
named-size π i g (ReplySignal b) s = omega arith
named-size π i g (ReplyPort c) s = omega arith
named-size π i g (MadePort j c) s = omega arith
named-size π i g (Size n) s = omega arith
named-size π i g (ReplyRequest request) s = omega arith
named-size π i g (ReplyState looks) s = omega arith
named-size π i g (Throws t) s = omega arith
named-size π i g TooMany s = omega arith

pub room_is_enough : RoomIsEnough
unfolding performed
room_is_enough = record {
  call = λ π i g n c s counts. let h = begin-fits π i g counts s c in begun-within π i g counts n (room π s) s (begin c s).done (omega (arith, h));
  answered = λ π i g c s counts.
      let d : Done = (begin c s).done in
      let h = begin-fits π i g counts s c in
      let f = turns-stand π i g counts (measure d.slots d.caused) d.slots d.caused in
      let k = named-size π i g (begin c s).reply (performed d) in omega (arith, h, f, k);
  job = λ π i g n s counts. let h = job-fits π i g counts s in begun-within π i g counts n (room π s) s (begin_job s) (omega (arith, h));
}
