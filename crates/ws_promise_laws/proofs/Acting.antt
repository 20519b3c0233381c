-- The reaction that ends the action of a pipe stands at most once, with the jobs and the operation that it leads to, and only while the
-- action is under way.
use Rattle.ws_steps.specs.declared.port.PortOperation.TheVariants.{PostChunk}
use Rattle.ws_steps.specs.Slots.{clones_at}
use Rattle.ws_laws.proofs.PortDoes.{port-does}
use Rattle.ws_steps.specs.Slots.{on_port_at}
use Rattle.ws_steps.specs.Operations.{port_operation}
use Rattle.ws_steps.specs.declared.port.PortOperation.{PortOperation}
use Rattle.ws_value.specs.declared.ids.PortId.{PortId}
use Rattle.ws_steps.specs.Cross as cross
use Rattle.std.proofs.Common.{◌≡◌, ℕ, zero, suc, ◌+◌, ◌≤◌, Bool, true, false, nat_eq, List, [], ◌∷◌, ◌++◌, length, Option, Some, None, Result, Ok, Err, slice_get, slice_set, refl, sym, arith}
use Rattle.ws_value.specs.declared.ids.{PipeId.{PipeId}, PromiseId.{PromiseId}, SignalId.{SignalId}, StreamId.{StreamId}, TeeId.{TeeId}}
use Rattle.ws_steps.specs.declared.tee.TeeOperation.{TeeOperation}
use Rattle.ws_steps.specs.Tee as tee
use Rattle.ws_steps.specs.declared.port.Side.{Side}
use Rattle.ws_steps.specs.declared.port.Side.TheVariants.{Readable as ReadableSide, Writable as WritableSide}
use Rattle.ws_laws.proofs.TeeDoes.{OfTee, tee-does}
use Rattle.ws_value.specs.declared.value.{Outcome.TheVariants.{Given, Finished}, Plain.{Plain}, Plain.TheVariants.{Undefined}, Value.{Value}, Value.TheVariants.{Plain as PlainValue, Bytes}}
use Rattle.ws_steps.specs.declared.{calls.Call.{Call}, calls.HostCall.{HostCall}, calls.Event.TheVariants.{Signal as SignalEvent}, calls.StartBy.{StartBy}, calls.StartBy.TheVariants.{Now, Later}}
use Rattle.ws_steps.specs.declared.effects.Effect.{Effect}
use Rattle.ws_steps.specs.declared.effects.Effect.TheVariants.{Readable as OnReadable, Writable as OnWritable, Pipe as OnPipe, Signal as OnSignal, Transform as OnTransform, Tee as OnTee, Port as OnPort, StartAlgorithm, PullAlgorithm, CancelAlgorithm, WriteAlgorithm, CloseAlgorithm, AbortAlgorithm, ChunkSteps, CloseSteps, ErrorSteps, Give, Settle, Queue, CallHost}
use Rattle.ws_steps.specs.declared.effects.{Owner.{Owner}, Owner.TheVariants.{Host, HalfOf, BranchOf, EndOf}, Use.{Use}, Use.TheVariants.{React}}
use Rattle.ws_steps.specs.declared.pipes.{Phase.{Phase}, Phase.TheVariants.{Flowing, Waiting, Acting, Over}}
use Rattle.ws_steps.specs.declared.pipes.{PipeOperation.{PipeOperation}, PipeOperation.TheVariants.{ActionSettled}, SignalOperation.{SignalOperation}}
use Rattle.ws_steps.specs.declared.promises.{Job.{Job}, Job.TheVariants.{Reaction as ReactionJob, Follow, Settle as SettleJob, Micro as MicroJob}, Micro.TheVariants.{PipeLook, PipeWrite, PipeNoParts, TeeHand}}
use Rattle.ws_steps.specs.declared.promises.{Step.{Step}, Step.TheVariants.{ReadableStart, ReadablePull, ReturnUndefined, WritableStart, WritableWrite, WritableClose, WritableAbort, PipeEnds, PipeReady, PipeWrote, PipeActed, PipePart, TransformChanged, PortUnblocked, Transformed, TransformFlushed, TransformAborted, TransformCancelled, TeeEnds}}
use Rattle.ws_steps.specs.declared.readable.{ReadRequest.{ReadRequest}, ReadRequest.TheVariants.{Promise, Pipe as PipeRequest, Tee as TeeRequest}, ReadableOperation.{ReadableOperation}}
use Rattle.ws_steps.specs.declared.transform.{TransformId.{TransformId}, TransformOperation.{TransformOperation}, TransformOperation.TheVariants.{TransformChunk}, Halves.{Halves}}
use Rattle.ws_steps.specs.declared.writable.{WritableOperation.{WritableOperation}, WritableOperation.TheVariants.{ReleaseWriter}}
use Rattle.ws_steps.specs.MakingCalls as making_calls
use Rattle.ws_steps.specs.LockCalls as lock_calls
use Rattle.ws_steps.specs.PipeCalls as pipe_calls
use Rattle.ws_steps.specs.Begun.{Begun}
use Rattle.ws_steps.specs.Calls.{begin}
use Rattle.ws_steps.specs.Effects.{Out, cause, settling}
use Rattle.ws_steps.specs.Jobs.{job_effects, steps, resolved, returned}
use Rattle.ws_steps.specs.Operations.{writable_operation, pipe_operation, signal_operation, transform_operation, tee_operation}
use Rattle.ws_steps.specs.Pipes as pipe
use Rattle.ws_steps.specs.Pipes.{Acts, causing, with_slots, reacts, forgetting, finalize, ending, act_with, abort_dest, abort_part, cancel_part, parts_of, reacts_to_all, waiting_for, wait_for_all, act_by_signal, act_by, act, proceed, is_flowing, shut_down, shutdown, unless, wait_for_ready, read_or_wait, look_by, look, look_ready, go_on_in, go_on, keep_chunk, read_ended, write, write_in, write_held, write_chunk, write_ended, action_settled, settle_whole, part_settled, no_parts, abort, abort_all}
use Rattle.ws_steps.specs.Promises.{Table, next_id, fresh, next_job, after_next_job, is_pending_at, watch}
use Rattle.ws_steps.specs.Run.{after_event}
use Rattle.ws_steps.specs.Readable as readable
use Rattle.ws_steps.specs.Slots.{Slots, Done, nothing, causes, found, ends_at, empty, with_promises, has_writable, owner_at, on_writable, put_writable, on_pipe_at, on_signal_at, on_transform_at, on_tee_at, halves_at}
use Rattle.ws_steps.specs.Transform as transform
use Rattle.ws_steps.specs.Turns.{row, call_host, start_algorithm, pull_algorithm, cancel_algorithm, write_algorithm, close_algorithm, abort_algorithm, chunk_steps, close_steps, error_steps}
use Rattle.ws_steps.specs.Writable.{write_to_host}
use Rattle.ws_steps.proofs.PromiseLaws.{slice_get-set_other}
use Rattle.ws_laws.proofs.Begin.{begin-makes}
use Rattle.ws_laws.proofs.EachCall.{each_call}
use Rattle.ws_laws.proofs.PipeDoes.{OfPipe, pipe-does}
use Rattle.ws_laws.proofs.Tables.{either, eq_numbers, unequal_numbers, writable_acts}
use Rattle.ws_laws.proofs.TransformDoes.{transform-does}
use Rattle.ws_laws.proofs.Walker.{Stays}
use Rattle.ws_laws.proofs.Weights.{weigh, taken_off, weigh-fresh, weigh-settle, weigh-answer, weigh-micro, weigh-next, weigh-watch}
use Rattle.ws_laws.proofs.WritableDoes.{writable-does}
use Rattle.ws_promise_laws.proofs.Streams.{goes_on}
use Rattle.ws_promise_laws.proofs.Holds.{when}
use Rattle.ws_promise_laws.proofs.Piping.{PipeExpects}
use Rattle.ws_promise_laws.proofs.Tokens.{one_if}
use Rattle.ws_writable_laws.proofs.Agenda.{weight-tell, weight-gift, weight-host}
use Rattle.ws_writable_laws.proofs.Shape.{of_reaction, of_transform, of_tee, of_port, weight, all, all-append}
use Rattle.ws_writable_laws.proofs.Transforms.{weight-transform}
use Rattle.ws_writable_laws.proofs.Ports.{weight-port}
use Rattle.ws_promise_laws.proofs.PipeActs.{is_acting, acts_now, is_end, ends_action, ends_by, operation-moves}
use Rattle.ws_steps.specs.Slots.{source_at, on_byte}
use Rattle.ws_steps.specs.Turns.{on_source, close_steps_with}
use Rattle.ws_steps.specs.declared.effects.Effect.TheVariants.{Byte, CloseStepsWith}
use Rattle.ws_steps.specs.declared.byte.ByteOperation.{ByteOperation}
use Rattle.ws_steps.specs.Operations.{byte_operation}
use Rattle.ws_laws.proofs.ReadableDoes.{OfReadable}
use Rattle.ws_laws.proofs.Rows.{source-out, byte-out, out_of}
use Rattle.ws_laws.proofs.Apart.{source-leaves, byte-leaves}

-- in all there is one where the action is under way, and else none
abbrev pub Waits : PipeId → Slots → List Effect → Type 0
Waits p s es = weight (ends_action p) s.promises + all (ends_by p) es ≤ one_if (acts_now (slice_get s.pipes p.0))

-- effects

module _ (p : PipeId) where
  abbrev under_way : Table → ℕ
  under_way t = weight (ends_action p) t

  lighter : (t : Table) → OfPipe (λ z. under_way z ≤ under_way t)
  lighter t = record {
    fresh = λ z h. let k = weigh-fresh (of_reaction (ends_action p)) z in omega (arith, h, k);
    settle = λ z q o h. let k = weigh-settle (of_reaction (ends_action p)) q o z in omega (arith, h, k);
    micro = λ z m h. let k = weigh-micro (of_reaction (ends_action p)) m z in omega (arith, h, k);
  }

  -- the place of pipe p after an operation of pipe q

  place_same : (ps : List pipe.Slots) (n : ℕ) (x y : pipe.Slots) → slice_get ps n ≡ Some x → slice_get (slice_set ps n y) n ≡ Some y
  place_same [] n x y e = cc
  place_same (z ∷ ps) zero x y e = refl
  place_same (z ∷ ps) (suc n) x y e = place_same ps n x y e

  -- what stands outside pipe q and its operation, where so much may stand for it and for p
  moved : (outer ends before after left here there : ℕ) → left + here ≤ (there + 0) + ends → before + (ends + outer) ≤ here → after ≤ before → after + (left + outer) ≤ there
  moved outer ends before after left here there m w l = omega (arith, m, w, l)

  pipe_waits : (q : PipeId) (operation : PipeOperation) (s : Slots) (es : List Effect) (o : Option pipe.Slots) (same : Bool) → slice_get s.pipes q.0 ≡ o → same ≡ nat_eq p.0 q.0 → Waits p s (OnPipe q operation ∷ es)
      → let d : Done = on_pipe_at (λ ends. pipe_operation q ends operation) q s o in Waits p d.slots (d.caused ++ es)
  pipe_waits q operation s es None same e n w = omega (arith, w)
  pipe_waits q operation s es (Some x) true e n w =
      let a : Acts = record { slots = x; out = found s } in
      let b : Acts = pipe_operation q (ends_at x s) operation a in
      let number : p.0 ≡ q.0 = eq_numbers p.0 q.0 (sym n) in
      let place : slice_get (slice_set s.pipes q.0 b.slots) p.0 ≡ Some b.slots = rw number (place_same s.pipes q.0 x b.slots e) in
      let there : slice_get s.pipes p.0 ≡ Some x = rw number e in
      let moves : all (ends_by p) b.out.effects + when (is_acting x.phase) 1 ≤ (when (is_acting b.slots.phase) 1 + 0) + when (is_end operation) 1 = rw (← n) at (operation-moves p q (ends_at x s) operation a) in
      let before : under_way s.promises + (when (is_end operation) 1 + all (ends_by p) es) ≤ one_if (is_acting x.phase) = rw (there, ← n) at w in
      let light : under_way b.out.promises ≤ under_way s.promises = pipe-does (λ z. under_way z ≤ under_way s.promises) (lighter s.promises) q (ends_at x s) operation a (omega arith) in
      let c = all-append (ends_by p) b.out.effects es in
      let f = when_one (is_acting x.phase) in
      let g = when_one (is_acting b.slots.phase) in
      rw place (omega (arith, moves, before, light, c, f, g))
    where
      when_one : (c : Bool) → when c 1 ≡ one_if c
      when_one true = refl
      when_one false = refl
  pipe_waits q operation s es (Some x) false e n w =
      let a : Acts = record { slots = x; out = found s } in
      let b : Acts = pipe_operation q (ends_at x s) operation a in
      let place : slice_get (slice_set s.pipes q.0 b.slots) p.0 ≡ slice_get s.pipes p.0 = slice_get-set_other s.pipes q.0 p.0 b.slots (λ i. unequal_numbers p.0 q.0 (sym n) (sym i)) in
      let moves : all (ends_by p) b.out.effects + when (is_acting x.phase) 0 ≤ (when (is_acting b.slots.phase) 0 + 0) + when (is_end operation) 0 = rw (← n) at (operation-moves p q (ends_at x s) operation a) in
      let light : under_way b.out.promises ≤ under_way s.promises = pipe-does (λ z. under_way z ≤ under_way s.promises) (lighter s.promises) q (ends_at x s) operation a (omega arith) in
      let c = all-append (ends_by p) b.out.effects es in
      let f = none_when (is_acting b.slots.phase) in
      let g = none_when (is_end operation) in
      rw place (omega (arith, moves, w, light, c, f, g))
    where
      none_when : (c : Bool) → when c 0 ≡ 0
      none_when true = refl
      none_when false = refl

  -- every other effect leaves the pipes, and what it leads to it led to before
  abbrev Carries : Slots → ℕ → Done → Type 0
  Carries s n d = (d.slots.pipes ≡ s.pipes) × (under_way d.slots.promises + all (ends_by p) d.caused ≤ under_way s.promises + n)

  carried : (s : Slots) (e : Effect) (es : List Effect) → Carries s (ends_by p e) (row e s) → Waits p s (e ∷ es) → Waits p (row e s).slots ((row e s).caused ++ es)
  carried s e es k w = let l = k.1 in let c = all-append (ends_by p) (row e s).caused es in rw k.0 (omega (arith, l, c, w))

  abbrev Light : Table → Out → Type 0
  Light t x = under_way x.promises + all (ends_by p) x.effects ≤ under_way t

  causes-light : (t : Table) (x : Out) (e : Effect) → ends_by p e ≡ 0 → Light t x → Light t (cause e x)
  causes-light t x e n h = let c = all-append (ends_by p) x.effects (e ∷ []) in omega (arith, c, n, h)

  settles-light : (t : Table) (x : Out) (q : PromiseId) (o : Result Plain Plain) → Light t x → Light t (settling q o x)
  settles-light t x q o h = let k = weigh-settle (of_reaction (ends_action p)) q o x.promises in omega (arith, h, k)

  of-light : (i : StreamId) (t : Table) → OfReadable (Light t) i
  of-light i t = record {
    settle = λ x q o h. settles-light t x q o h;
    pull = λ x h. causes-light t x (PullAlgorithm i) refl h;
    cancel = λ x r q h. causes-light t x (CancelAlgorithm i r q) refl h;
    chunk = λ x request v h. causes-light t x (ChunkSteps i request v) refl h;
    close = λ x request h. causes-light t x (CloseSteps i request) refl h;
    error = λ x request e h. causes-light t x (ErrorSteps i request e) refl h;
  }

  readable-carries : (i : StreamId) (operation : ReadableOperation) (s : Slots) → Carries s 0 (on_source operation i s)
  readable-carries i operation s =
      let d : Done = on_source operation i s in
      let h : Light s.promises (out_of d) = source-out (Light s.promises) i (of-light i s.promises) operation s (omega arith) in
      (source-leaves (λ z. z.pipes) (λ z x o. refl) i operation s, omega (arith, h))

  byte-carries : (i : StreamId) (operation : ByteOperation) (s : Slots) → Carries s 0 (on_byte (byte_operation i operation) i s)
  byte-carries i operation s =
      let d : Done = on_byte (byte_operation i operation) i s in
      let h : Light s.promises (out_of d) =
      byte-out (Light s.promises) i (of-light i s.promises) (λ x q b h. causes-light s.promises x (CloseStepsWith i q b) refl h) operation s (omega arith) in
      (byte-leaves (λ z. z.pipes) (λ z x o. refl) i operation s, omega (arith, h))

  writable-carries : (i : StreamId) (operation : WritableOperation) (s : Slots) → Carries s 0 (on_writable (writable_operation i operation) i s)
  writable-carries i operation s =
      let t : Table = s.promises in
      let h : Light t (writable_operation i operation (writable_acts i s)).out = writable-does (Light t) i (record {
        settle = λ x q o h. settles-light t x q o h;
        fresh = λ x h. let k = weigh-fresh (of_reaction (ends_action p)) x.promises in omega (arith, h, k);
        tell = λ x r h. let k = weight-tell (ends_action p) (SignalEvent i r) x.promises in omega (arith, h, k);
        write = λ x h. causes-light t x (WriteAlgorithm i) refl h;
        close = λ x h. causes-light t x (CloseAlgorithm i) refl h;
        abort = λ x r q h. causes-light t x (AbortAlgorithm i r q) refl h;
        hand_on = λ x v h. causes-light t x (write_to_host i v) refl h;
        take = λ x v half d h. causes-light t x (OnTransform half (TransformChunk v d)) refl h;
        post = λ x v c d h. causes-light t x (OnPort c (PostChunk v d)) refl h;
      }) operation (writable_acts i s) (omega arith) in
      either (Carries s 0) (has_writable i s) (put_writable i s (writable_operation i operation (writable_acts i s))) (nothing s) (λ e. (refl, omega (arith, h))) (λ e. (refl, omega arith))

  aborts-none : (r : Plain) (ps : List PipeId) → all (ends_by p) (abort_all r ps) ≡ 0
  aborts-none r [] = refl
  aborts-none r (q ∷ ps) = let n = aborts-none r ps in omega (arith, n)

  signal-none : (operation : SignalOperation) (x : pipe.Signal) → all (ends_by p) (signal_operation operation x).effects ≡ 0
  signal-none operation x = grind (arith, aborts-none)

  signal-carries : (a : SignalId) (operation : SignalOperation) (s : Slots) (o : Option pipe.Signal) → Carries s 0 (on_signal_at (signal_operation operation) a s o)
  signal-carries a operation s None = (refl, omega arith)
  signal-carries a operation s (Some x) = let n = signal-none operation x in (refl, omega (arith, n))

  transform-ends : (t : TransformId) (halves : Halves) (operation : TransformOperation) (a : transform.Acts) → a.out.effects ≡ [] → all (ends_by p) (transform_operation t halves operation a).out.effects ≤ of_transform (ends_action p) operation
  unfolding transform.unblock transform.transform_error transform.terminate transform.enqueue transform.enqueued transform.transform_chunk transform.sink_write transform.write_goes_on transform.source_pull transform.set_backpressure transform.sink_close transform.sink_abort transform.source_cancel transform.flush_settled transform.abort_settled transform.cancel_settled
  transform-ends t halves operation a none = grind (arith, none)

  transform-carries : (t : TransformId) (operation : TransformOperation) (s : Slots) (o : Option transform.Slots)
      → Carries s (of_transform (ends_action p) operation) (on_transform_at (λ halves. transform_operation t halves operation) t s o)
  transform-carries t operation s None = (refl, omega arith)
  transform-carries t operation s (Some x) =
      let a : transform.Acts = record { slots = x; out = found s } in
      let w = transform-does (λ z. under_way z ≤ under_way s.promises) (weight-transform (ends_action p) s.promises) t (halves_at x s) operation a (omega arith) in
      let l = transform-ends t (halves_at x s) operation a refl in
      (refl, omega (arith, w, l))

  tee-ends : (t : TeeId) (operation : TeeOperation) (a : tee.Acts) → a.out.effects ≡ [] → all (ends_by p) (tee_operation t operation a).out.effects ≤ of_tee (ends_action p) operation
  unfolding tee.pull_branch tee.keep_chunk tee.source_closed tee.source_errored tee.hand_chunk tee.handed tee.cancel_branch tee.reader_settled
  tee-ends t operation a none = grind (arith, none)

  lighter_tee : (t : Table) → OfTee (λ z. under_way z ≤ under_way t)
  lighter_tee t = record {
    fresh = λ z h. let k = weigh-fresh (of_reaction (ends_action p)) z in omega (arith, h, k);
    micro = λ z m h. let k = weigh-micro (of_reaction (ends_action p)) m z in omega (arith, h, k);
  }

  tee-carries : (t : TeeId) (operation : TeeOperation) (s : Slots) (o : Option tee.Slots)
      → Carries s (of_tee (ends_action p) operation) (on_tee_at (tee_operation t operation) t s o)
  tee-carries t operation s None = (refl, omega arith)
  tee-carries t operation s (Some x) =
      let a : tee.Acts = record { slots = x; out = found s } in
      let w = tee-does (λ z. under_way z ≤ under_way s.promises) (lighter_tee s.promises) t operation a (omega arith) in
      let l = tee-ends t operation a refl in
      (refl, omega (arith, w, l))

  port-ends : (c : PortId) (clones : Bool) (operation : PortOperation) (a : cross.Acts) → a.out.effects ≡ [] → all (ends_by p) (port_operation c clones operation a).out.effects ≤ of_port (ends_action p) operation
  unfolding cross.pull cross.leave cross.close cross.write cross.write_goes_on cross.post_chunk cross.unblock cross.deliver
  port-ends c clones operation a none = grind (arith, none)

  port-carries : (c : PortId) (operation : PortOperation) (s : Slots) (o : Option cross.Slots)
      → Carries s (of_port (ends_action p) operation) (on_port_at (λ clones. port_operation c clones operation) c s o)
  port-carries c operation s None = (refl, omega arith)
  port-carries c operation s (Some x) =
      let a : cross.Acts = record { slots = x; out = found s } in
      let w = port-does (λ z. under_way z ≤ under_way s.promises) (weight-port (ends_action p) s.promises) c (clones_at x s) operation a (omega arith) in
      let l = port-ends c (clones_at x s) operation a refl in
      (refl, omega (arith, w, l))

  start-carries : (i : StreamId) (step : Step) (s : Slots) (start : StartBy) → Carries s (ends_action p step) (start_algorithm i step s start)
  start-carries i step s Now = (refl, omega arith)
  start-carries i step s Later = let k = weigh-fresh (of_reaction (ends_action p)) s.promises in (refl, omega (arith, k))

  chunk-carries : (v : Value) (s : Slots) (request : ReadRequest) → Carries s 0 (chunk_steps v s request)
  chunk-carries v s (Promise q) = let k = weigh-answer (of_reaction (ends_action p)) q (Given v) s.promises in (refl, omega (arith, k))
  chunk-carries v s (PipeRequest q) = (refl, omega arith)
  chunk-carries v s (TeeRequest t) = (refl, omega arith)

  close-carries : (s : Slots) (request : ReadRequest) → Carries s 0 (close_steps s request)
  close-carries s (Promise q) = let k = weigh-answer (of_reaction (ends_action p)) q (Finished (PlainValue Undefined)) s.promises in (refl, omega (arith, k))
  close-carries s (PipeRequest q) = (refl, omega arith)
  close-carries s (TeeRequest t) = (refl, omega arith)

  close_with-carries : (b : List ℕ) (s : Slots) (request : ReadRequest) → Carries s 0 (close_steps_with b s request)
  close_with-carries b s (Promise q) = let k = weigh-answer (of_reaction (ends_action p)) q (Finished (Bytes b)) s.promises in (refl, omega (arith, k))
  close_with-carries b s (PipeRequest q) = (refl, omega arith)
  close_with-carries b s (TeeRequest t) = (refl, omega arith)

  error-carries : (e : Plain) (s : Slots) (request : ReadRequest) → Carries s 0 (error_steps e s request)
  error-carries e s (Promise q) = let k = weigh-settle (of_reaction (ends_action p)) q (Err e) s.promises in (refl, omega (arith, k))
  error-carries e s (PipeRequest q) = (refl, omega arith)
  error-carries e s (TeeRequest t) = (refl, omega arith)

  -- the algorithms, by whose they are

  pulls : (i : StreamId) (s : Slots) (owner : Owner) → Carries s 0 (causes (pull_algorithm i (React (ReadablePull i) None) owner) s)
  pulls i s Host = (refl, omega arith)
  pulls i s (HalfOf t) = (refl, omega arith)
  pulls i s (BranchOf t half) = (refl, omega arith)
  pulls i s (EndOf c) = (refl, omega arith)

  cancels : (i : StreamId) (r : Plain) (q : PromiseId) (s : Slots) (owner : Owner) → Carries s 0 (causes (cancel_algorithm i r (React ReturnUndefined (Some q)) owner) s)
  cancels i r q s Host = (refl, omega arith)
  cancels i r q s (HalfOf t) = (refl, omega arith)
  cancels i r q s (BranchOf t half) = (refl, omega arith)
  cancels i r q s (EndOf c) = (refl, omega arith)

  hands_on : (i : StreamId) (s : Slots) (owner : Owner) → Carries s 0 (causes (write_algorithm i owner) s)
  hands_on i s Host = (refl, omega arith)
  hands_on i s (HalfOf t) = (refl, omega arith)
  hands_on i s (BranchOf t half) = (refl, omega arith)
  hands_on i s (EndOf c) = (refl, omega arith)

  closes : (i : StreamId) (s : Slots) (owner : Owner) → Carries s 0 (causes (close_algorithm i (React (WritableClose i) None) owner) s)
  closes i s Host = (refl, omega arith)
  closes i s (HalfOf t) = (refl, omega arith)
  closes i s (BranchOf t half) = (refl, omega arith)
  closes i s (EndOf c) = (refl, omega arith)

  aborts-on : (i : StreamId) (r : Plain) (q : PromiseId) (s : Slots) (owner : Owner) → Carries s 0 (causes (abort_algorithm i r (React (WritableAbort i q) None) owner) s)
  aborts-on i r q s Host = (refl, omega arith)
  aborts-on i r q s (HalfOf t) = (refl, omega arith)
  aborts-on i r q s (BranchOf t half) = (refl, omega arith)
  aborts-on i r q s (EndOf c) = (refl, omega arith)

  host-pipes : (call : HostCall) (u : Use) (s : Slots) → (call_host call u s).pipes ≡ s.pipes
  unfolding call_host
  host-pipes call u s = refl

  pub row-waits : (s : Slots) (e : Effect) (es : List Effect) → Waits p s (e ∷ es) → Waits p (row e s).slots ((row e s).caused ++ es)
  unfolding row
  row-waits s (OnPipe q operation) es w = pipe_waits q operation s es (slice_get s.pipes q.0) (nat_eq p.0 q.0) refl refl w
  row-waits s (OnReadable i operation) es w = carried s (OnReadable i operation) es (readable-carries i operation s) w
  row-waits s (Byte i operation) es w = carried s (Byte i operation) es (byte-carries i operation s) w
  row-waits s (CloseStepsWith i request b) es w = carried s (CloseStepsWith i request b) es (close_with-carries b s request) w
  row-waits s (OnWritable i operation) es w = carried s (OnWritable i operation) es (writable-carries i operation s) w
  row-waits s (OnSignal a operation) es w = carried s (OnSignal a operation) es (signal-carries a operation s (slice_get s.signals a.0)) w
  row-waits s (OnTransform t operation) es w = carried s (OnTransform t operation) es (transform-carries t operation s (slice_get s.transforms t.0)) w
  row-waits s (OnTee t operation) es w = carried s (OnTee t operation) es (tee-carries t operation s (slice_get s.tees t.0)) w
  row-waits s (OnPort c operation) es w = carried s (OnPort c operation) es (port-carries c operation s (slice_get s.ports c.0)) w
  row-waits s (StartAlgorithm i step start) es w = carried s (StartAlgorithm i step start) es (start-carries i step s start) w
  row-waits s (PullAlgorithm i) es w = carried s (PullAlgorithm i) es (pulls i s (owner_at i s)) w
  row-waits s (CancelAlgorithm i r q) es w = carried s (CancelAlgorithm i r q) es (cancels i r q s (owner_at i s)) w
  row-waits s (WriteAlgorithm i) es w = carried s (WriteAlgorithm i) es (hands_on i s (owner_at i s)) w
  row-waits s (CloseAlgorithm i) es w = carried s (CloseAlgorithm i) es (closes i s (owner_at i s)) w
  row-waits s (AbortAlgorithm i r q) es w = carried s (AbortAlgorithm i r q) es (aborts-on i r q s (owner_at i s)) w
  row-waits s (ChunkSteps i request v) es w = carried s (ChunkSteps i request v) es (chunk-carries v s request) w
  row-waits s (CloseSteps i request) es w = carried s (CloseSteps i request) es (close-carries s request) w
  row-waits s (ErrorSteps i request e) es w = carried s (ErrorSteps i request e) es (error-carries e s request) w
  row-waits s (Give gift u) es w = let k = weight-gift (ends_action p) gift u s.promises in omega (arith, k, w)
  row-waits s (Settle q o) es w = let k = weigh-settle (of_reaction (ends_action p)) q o s.promises in omega (arith, k, w)
  row-waits s (Queue m) es w = let k = weigh-micro (of_reaction (ends_action p)) m s.promises in omega (arith, k, w)
  row-waits s (CallHost call u) es w = let k = weight-host (ends_action p) call u s in rw (host-pipes call u s) (omega (arith, k, w))

  -- calls

  -- no pipe goes
  grown : (ps : List pipe.Slots) (y : pipe.Slots) (n : ℕ) → one_if (acts_now (slice_get ps n)) ≤ one_if (acts_now (slice_get (ps ++ y ∷ []) n))
  grown [] y n = omega arith
  grown (x ∷ ps) y zero = omega arith
  grown (x ∷ ps) y (suc n) = grown ps y n

  -- what is made leaves no less room and no more under way
  abbrev Roomy : Slots → Slots → Type 0
  Roomy s z = (one_if (acts_now (slice_get s.pipes p.0)) ≤ one_if (acts_now (slice_get z.pipes p.0))) × (under_way z.promises ≤ under_way s.promises)

  begin-roomy : (c : Call) (s : Slots) → Roomy s (begin c s).done.slots
  begin-roomy c s = begin-makes (Roomy s) (record {
    promise = λ z k. (k.0, let l = k.1 in let m = weigh-fresh (of_reaction (ends_action p)) z.promises in omega (arith, l, m));
    locks = λ z ls k. k;
    hosts = λ z hs k. k;
    pipe = λ z source dest prevent signal promise k. (let l = k.0 in let m = grown z.pipes (pipe.set_up source dest prevent signal promise) p.0 in omega (arith, l, m), k.1);
    signal = λ z k. k;
    transform = λ z kind i j change k. k;
    tee = λ z source first second cancel k. k;
    port = λ z side stream backpressure k. k;
    readable = λ z owner mark size k. k;
    bytes = λ z mark auto k. k;
    byob_requests = λ z r k. k;
    writable = λ z owner mark size k. k;
  }) c s (omega arith, omega arith)

  renewed-none : (t : Table) (kept : Bool) (es : List Effect) → all (ends_by p) es ≡ 0 → all (ends_by p) (lock_calls.reject_renewed t kept ++ es) ≡ 0
  renewed-none t true es n = n
  renewed-none t false es n = omega (arith, n)

  begins-none : (me : PipeId) (a b : PromiseId) (signal : Option SignalId) (reason : Option Plain) → all (ends_by p) (pipe_calls.pipe_begins me a b signal reason) ≡ 0
  begins-none me a b signal (Some r) = refl
  begins-none me a b None None = refl
  begins-none me a b (Some g) None = refl

  start-none : (q : PromiseId) (j : StreamId) (start : StartBy) → all (ends_by p) (making_calls.start_transform q j start ∷ []) ≡ 0
  start-none q j Now = refl
  start-none q j Later = refl

  end-none : (side : Side) (j : StreamId) → all (ends_by p) (pipe_calls.start_end j side ∷ []) ≡ 0
  end-none ReadableSide j = refl
  end-none WritableSide j = refl

  call-none : (c : Call) (s : Slots) → all (ends_by p) (begin c s).done.caused ≡ 0
  call-none c s = each_call (λ (b : Begun). all (ends_by p) b.done.caused ≡ 0) c s (record {
    unchanged = λ reply. refl;
    rejected = λ fault. refl;
    make_readable = λ mark size start. refl;
    make_bytes = λ mark auto start. refl;
    get_byob = λ i is e. refl;
    release_byob = λ l closed i e. renewed-none s.promises (readable.is_readable (source_at i s).state) _ refl;
    read_into = λ l i closed room element least e f. refl;
    enqueue_bytes = λ i b e is some can. refl;
    finish_bytes = λ i e is can. refl;
    make_request = λ i reply is. refl;
    respond = λ q i b e is can. refl;
    make_writable = λ mark size start. refl;
    get_reader = λ i e. refl;
    get_writer = λ i e. refl;
    release_reader = λ l closed i e. renewed-none s.promises (readable.is_readable (source_at i s).state) _ refl;
    release_writer = λ l i w e f.
        let ready : Bool = is_pending_at w.ready s.promises in
        let t : Table = lock_calls.with_renewed s.promises ready in
        renewed-none s.promises ready _ (renewed-none t (is_pending_at w.closed t) (OnWritable i ReleaseWriter ∷ []) refl);
    cancel = λ reason i. refl;
    read = λ l i closed e f. refl;
    write = λ l v i e. refl;
    close = λ i. refl;
    abort = λ reason i e. refl;
    make_tee = λ i e is free untied. refl;
    make_transform = λ kind m n start. let z = start-none (next_id (fresh s.promises)) (record { 0 = length s.streams + 1 }) start in omega (arith, z);
    enqueue = λ i v e o can. refl;
    enqueue_half = λ i t v e o can. refl;
    fail_half = λ t reason. refl;
    terminate = λ t. refl;
    finish = λ i. refl;
    fail_readable = λ i reason. refl;
    fail_writable = λ i reason. refl;
    pipe = λ source dest prevent signal e f l m.
        let n = begins-none (record { 0 = length s.pipes }) (next_id s.promises) (next_id (fresh (fresh s.promises))) signal (pipe_calls.reason_of signal s) in
        omega (arith, n);
    make_signal = refl;
    open_end = λ side. end-none side _;
    send_readable = λ source there free.
        let n = begins-none (record { 0 = length s.pipes }) (next_id (fresh s.promises)) (next_id (fresh (fresh (fresh s.promises)))) None None in omega (arith, n);
    send_writable = λ dest there free.
        let n = begins-none (record { 0 = length s.pipes }) (next_id s.promises) (next_id (fresh (fresh s.promises))) None None in omega (arith, n);
    deliver = λ c m asked has. refl;
    trigger = λ a reason. refl;
    settle = λ h answer q e. refl;
  })

  pub call-waits : (s : Slots) (c : Call) → Waits p s [] → Waits p (begin c s).done.slots (begin c s).done.caused
  call-waits s c w = let r = begin-roomy c s in let a = r.0 in let b = r.1 in let n = call-none c s in omega (arith, a, b, n, w)

  -- jobs

  in_steps : (step : Step) (o : Result Plain Plain) → all (ends_by p) (steps step o) ≡ ends_action p step
  in_steps (ReadableStart i) o = refl
  in_steps (ReadablePull i) o = refl
  in_steps ReturnUndefined o = refl
  in_steps (WritableStart i) o = refl
  in_steps (WritableWrite i) o = refl
  in_steps (WritableClose i) o = refl
  in_steps (WritableAbort i q) o = refl
  in_steps (PipeEnds q) o = refl
  in_steps (PipeReady q) o = refl
  in_steps (PipeWrote q) o = refl
  in_steps (PipeActed q) o = omega arith
  in_steps (PipePart q) o = refl
  in_steps (TransformChanged t d) (Ok v) = refl
  in_steps (PortUnblocked c d) (Ok v) = refl
  in_steps (TransformChanged t d) (Err r) = refl
  in_steps (PortUnblocked c d) (Err r) = refl
  in_steps (Transformed t) (Ok v) = refl
  in_steps (Transformed t) (Err r) = refl
  in_steps (TransformFlushed t q) o = refl
  in_steps (TransformAborted t q r) o = refl
  in_steps (TransformCancelled t q r) o = refl
  in_steps (TeeEnds t) o = refl

  in_resolved : (derived : Option PromiseId) (o : Result Plain Plain) → all (ends_by p) (resolved derived o) ≡ 0
  in_resolved None o = refl
  in_resolved (Some q) o = refl

  in_job : (job : Job) → all (ends_by p) (job_effects job) ≤ taken_off (of_reaction (ends_action p)) job
  in_job (ReactionJob step o derived) =
      let a = all-append (ends_by p) (steps step o) (resolved derived (returned step o)) in let b = in_steps step o in let c = in_resolved derived (returned step o) in omega (arith, a, b, c)
  in_job (Follow q r) = omega arith
  in_job (SettleJob q o) = omega arith
  in_job (MicroJob (PipeLook q)) = omega arith
  in_job (MicroJob (PipeWrite q)) = omega arith
  in_job (MicroJob (PipeNoParts q)) = omega arith
  in_job (MicroJob (TeeHand t)) = omega arith

  pub job-waits : (s : Slots) (job : Job) → next_job s.promises ≡ Some job → Waits p s [] → Waits p (with_promises (after_next_job s.promises) s) (job_effects job)
  job-waits s job e w =
      let n = in_job job in
      let m : under_way (after_next_job s.promises) + taken_off (of_reaction (ends_action p)) job ≤ under_way s.promises = rw e at (weigh-next (of_reaction (ends_action p)) s.promises) in
      omega (arith, n, m, w)

  -- the promises alone change, and no more is under way
  pub lighter-waits : (s : Slots) (t : Table) → weight (ends_action p) t ≤ weight (ends_action p) s.promises → Waits p s [] → Waits p (with_promises t s) []
  lighter-waits s t l w = omega (arith, l, w)

  pub none-waits : Waits p empty []
  unfolding weigh
  none-waits = omega arith

acting_goes : (phase : Phase) → 1 ≤ one_if (is_acting phase) → goes_on phase ≡ true
acting_goes Flowing n = refl
acting_goes Waiting n = refl
acting_goes Acting n = refl
acting_goes Over n = absurd (omega arith)

place_expects : (o : Result Plain Plain) (x : Option pipe.Slots) → 1 ≤ one_if (acts_now x) → PipeExpects (ActionSettled o) x
place_expects o None n = tt
place_expects o (Some x) n = acting_goes x.phase n

-- a pipe of which the action has ended acts
pub waits-expects : (p : PipeId) (o : Result Plain Plain) (s : Slots) (es : List Effect) → Waits p s (OnPipe p (ActionSettled o) ∷ es) → PipeExpects (ActionSettled o) (slice_get s.pipes p.0)
waits-expects p o s es w =
    let self : one_if (nat_eq p.0 p.0) ≡ 1 = grind arith in
    place_expects o (slice_get s.pipes p.0) (omega (arith, w, self))

-- of every pipe, over every run

abbrev pub EachWaits : Slots → List Effect → Type 0
EachWaits s es = (p : PipeId) → Waits p s es

pub waits-stays : Stays EachWaits
waits-stays = record {
  row = λ s e es k p. row-waits p s e es (k p);
  call = λ s c k p. call-waits p s c (k p);
  job = λ s job e k p. job-waits p s job e (k p);
  answered = λ s q k p. lighter-waits p s (watch q s.promises) (weigh-watch (of_reaction (ends_action p)) q s.promises) (k p);
  older = λ s k p. k p;
}

-- the host hears of what happened
pub waits-heard : (s : Slots) → EachWaits s [] → EachWaits (after_event s) []
unfolding weigh
waits-heard s k p = k p
