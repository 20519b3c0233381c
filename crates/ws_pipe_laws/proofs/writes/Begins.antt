-- No call begins with an effect that pays for a write of the pipe, and a job only where it is a reaction to one.
use Rattle.std.proofs.Common.{◌≡◌, ◌+◌, ◌≤◌, Bool, true, false, nat_eq, List, [], ◌∷◌, ◌++◌, length, Option, Some, None, Result, Ok, Err, refl, if◌then◌else◌, arith}
use Rattle.ws_value.specs.declared.ids.{PipeId.{PipeId}, PromiseId.{PromiseId}, SignalId.{SignalId}, StreamId.{StreamId}}
use Rattle.ws_value.specs.declared.value.{Plain.{Plain}}
use Rattle.ws_steps.specs.declared.{calls.Call.{Call}, calls.StartBy.{StartBy}, calls.StartBy.TheVariants.{Now, Later}}
use Rattle.ws_steps.specs.declared.effects.Effect.{Effect}
use Rattle.ws_steps.specs.declared.effects.Effect.TheVariants.{Writable as OnWritable}
use Rattle.ws_steps.specs.declared.promises.{Job.{Job}, Job.TheVariants.{Reaction as ReactionJob, Follow, Settle as SettleJob, Micro as MicroJob}, Micro.TheVariants.{PipeLook, PipeWrite, PipeNoParts, TeeHand}}
use Rattle.ws_steps.specs.declared.promises.{Step.{Step}, Step.TheVariants.{ReadableStart, ReadablePull, ReturnUndefined, WritableStart, WritableWrite, WritableClose, WritableAbort, PipeEnds, PipeReady, PipeWrote, PipeActed, PipePart, TransformChanged, PortUnblocked, Transformed, TransformFlushed, TransformAborted, TransformCancelled, TeeEnds}}
use Rattle.ws_steps.specs.declared.writable.{WritableOperation.TheVariants.{ReleaseWriter}}
use Rattle.ws_steps.specs.MakingCalls as making_calls
use Rattle.ws_steps.specs.LockCalls as lock_calls
use Rattle.ws_steps.specs.PipeCalls as pipe_calls
use Rattle.ws_steps.specs.Begun.{Begun}
use Rattle.ws_steps.specs.Calls.{begin}
use Rattle.ws_steps.specs.Jobs.{job_effects, steps, resolved, returned}
use Rattle.ws_steps.specs.Promises.{Table, next_id, fresh, is_pending_at}
use Rattle.ws_steps.specs.Readable as readable
use Rattle.ws_steps.specs.Slots.{Slots}
use Rattle.ws_laws.proofs.EachCall.{each_call}
use Rattle.ws_laws.proofs.Weights.{taken_off}
use Rattle.ws_writable_laws.proofs.Shape.{of_reaction, all, all-append}
use Rattle.ws_steps.specs.declared.port.Side.{Side}
use Rattle.ws_steps.specs.declared.port.Side.TheVariants.{Readable as ReadableSide, Writable as WritableSide}
use Rattle.ws_pipe_laws.specs.pipes.PipeReads.{one_if}
use Rattle.ws_pipe_laws.specs.pipes.PipeWrites.{of_write}
use Rattle.ws_pipe_laws.proofs.pipes.Reading.{no_answer}
use Rattle.ws_pipe_laws.proofs.writes.Paying.{pays}
use Rattle.ws_steps.specs.Slots.{source_at}

module _ (p : PipeId) where
  -- calls

  renewed-none : (t : Table) (kept : Bool) (es : List Effect) → all (pays p) es ≡ 0 → all (pays p) (lock_calls.reject_renewed t kept ++ es) ≡ 0
  renewed-none t true es n = n
  renewed-none t false es n = omega (arith, n)

  begins-none : (me : PipeId) (a b : PromiseId) (signal : Option SignalId) (reason : Option Plain) → all (pays p) (pipe_calls.pipe_begins me a b signal reason) ≡ 0
  begins-none me a b signal (Some r) = let n = no_answer (nat_eq p.0 me.0) in omega (arith, n)
  begins-none me a b None None = refl
  begins-none me a b (Some g) None = refl

  start-none : (q : PromiseId) (j : StreamId) (start : StartBy) → all (pays p) (making_calls.start_transform q j start ∷ []) ≡ 0
  start-none q j Now = refl
  start-none q j Later = refl

  end-none : (side : Side) (j : StreamId) → all (pays p) (pipe_calls.start_end j side ∷ []) ≡ 0
  end-none ReadableSide j = refl
  end-none WritableSide j = refl

  pub call-none : (c : Call) (s : Slots) → all (pays p) (begin c s).done.caused ≡ 0
  call-none c s = each_call (λ (b : Begun). all (pays p) b.done.caused ≡ 0) c s (record {
    unchanged = λ reply. refl;
    rejected = λ fault. refl;
    make_readable = λ mark size start. refl;
    make_writable = λ mark size start. refl;
    get_byob = λ i is e. refl;
    release_byob = λ l closed i e. renewed-none s.promises (readable.is_readable (source_at i s).state) _ refl;
    read_into = λ l i closed room element least e f. refl;
    enqueue_bytes = λ i b e is some can. refl;
    finish_bytes = λ i e is can. refl;
    make_request = λ i reply is. refl;
    respond = λ r i b e is can. refl;
    make_bytes = λ mark auto start. refl;
    get_reader = λ i e. refl;
    get_writer = λ i e. refl;
    release_reader = λ l closed i e. renewed-none s.promises (readable.is_readable (source_at i s).state) _ refl;
    release_writer = λ l i w e f.
        let ready : Bool = is_pending_at w.ready s.promises in
        let t : Table = lock_calls.with_renewed s.promises ready in
        renewed-none s.promises ready _ (renewed-none t (is_pending_at w.closed t) (OnWritable i ReleaseWriter ∷ []) refl);
    cancel = λ reason i. refl;
    read = λ l i closed e f. refl;
    write = λ l v i e. refl;
    close = λ i. refl;
    abort = λ reason i e. refl;
    make_tee = λ i e is free untied. refl;
    make_transform = λ kind m n start. let z = start-none (next_id (fresh s.promises)) (record { 0 = length s.streams + 1 }) start in omega (arith, z);
    enqueue = λ i v e o can. refl;
    enqueue_half = λ i t v e o can. refl;
    fail_half = λ t reason. refl;
    terminate = λ t. refl;
    finish = λ i. refl;
    fail_readable = λ i reason. refl;
    fail_writable = λ i reason. refl;
    pipe = λ source dest prevent signal e f l m.
        let n = begins-none (record { 0 = length s.pipes }) (next_id s.promises) (next_id (fresh (fresh s.promises))) signal (pipe_calls.reason_of signal s) in
        omega (arith, n);
    make_signal = refl;
    open_end = λ side. end-none side _;
    send_readable = λ source there free.
        let n = begins-none (record { 0 = length s.pipes }) (next_id (fresh s.promises)) (next_id (fresh (fresh (fresh s.promises)))) None None in omega (arith, n);
    send_writable = λ dest there free.
        let n = begins-none (record { 0 = length s.pipes }) (next_id s.promises) (next_id (fresh (fresh s.promises))) None None in omega (arith, n);
    deliver = λ c m asked has. refl;
    trigger = λ a reason. refl;
    settle = λ h answer q e. refl;
  })

  -- jobs

  if_one : (b : Bool) → (if b then 1 else 0) ≡ one_if b
  if_one true = refl
  if_one false = refl

  in_steps : (step : Step) (o : Result Plain Plain) → all (pays p) (steps step o) ≡ of_write p step
  in_steps (ReadableStart i) o = refl
  in_steps (ReadablePull i) o = refl
  in_steps ReturnUndefined o = refl
  in_steps (WritableStart i) o = refl
  in_steps (WritableWrite i) o = refl
  in_steps (WritableClose i) o = refl
  in_steps (WritableAbort i q) o = refl
  in_steps (PipeEnds q) o = let n = no_answer (nat_eq p.0 q.0) in omega (arith, n)
  in_steps (PipeReady q) o = let n = no_answer (nat_eq p.0 q.0) in omega (arith, n)
  in_steps (PipeWrote q) o = let n = if_one (nat_eq p.0 q.0) in omega (arith, n)
  in_steps (PipeActed q) o = let n = no_answer (nat_eq p.0 q.0) in omega (arith, n)
  in_steps (PipePart q) o = let n = no_answer (nat_eq p.0 q.0) in omega (arith, n)
  in_steps (TransformChanged t d) (Ok v) = refl
  in_steps (PortUnblocked c d) (Ok v) = refl
  in_steps (TransformChanged t d) (Err r) = refl
  in_steps (PortUnblocked c d) (Err r) = refl
  in_steps (Transformed t) (Ok v) = refl
  in_steps (Transformed t) (Err r) = refl
  in_steps (TransformFlushed t q) o = refl
  in_steps (TransformAborted t q r) o = refl
  in_steps (TransformCancelled t q r) o = refl
  in_steps (TeeEnds t) o = refl

  in_resolved : (derived : Option PromiseId) (o : Result Plain Plain) → all (pays p) (resolved derived o) ≡ 0
  in_resolved None o = refl
  in_resolved (Some q) o = refl

  pub in_job : (job : Job) → all (pays p) (job_effects job) ≤ taken_off (of_reaction (of_write p)) job
  in_job (ReactionJob step o derived) =
      let a = all-append (pays p) (steps step o) (resolved derived (returned step o)) in let b = in_steps step o in let c = in_resolved derived (returned step o) in omega (arith, a, b, c)
  in_job (Follow q r) = omega arith
  in_job (SettleJob q o) = omega arith
  in_job (MicroJob (PipeLook q)) = let n = no_answer (nat_eq p.0 q.0) in omega (arith, n)
  in_job (MicroJob (PipeWrite q)) = let n = no_answer (nat_eq p.0 q.0) in omega (arith, n)
  in_job (MicroJob (PipeNoParts q)) = let n = no_answer (nat_eq p.0 q.0) in omega (arith, n)
  in_job (MicroJob (TeeHand t)) = omega arith
