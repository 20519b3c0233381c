-- The reactions to a pipe's writes, with the jobs and the operations that they lead to, beside its writes that haven't settled (`each_pipe_is_owed`).
use Rattle.ws_steps.specs.declared.port.PortOperation.TheVariants.{PostChunk}
use Rattle.std.proofs.Common.{◌≡◌, ℕ, zero, suc, ◌+◌, ◌≤◌, Bool, true, false, nat_eq, List, [], ◌∷◌, ◌++◌, Option, Some, None, Result, Err, slice_get, slice_set, refl, sym, ap, subst, arith}
use Rattle.ws_value.specs.declared.ids.{PipeId.{PipeId}, PromiseId.{PromiseId}, SignalId.{SignalId}, StreamId.{StreamId}}
use Rattle.ws_value.specs.declared.value.{Outcome.TheVariants.{Given, Finished}, Plain.{Plain}, Plain.TheVariants.{Undefined}, Value.{Value}, Value.TheVariants.{Plain as PlainValue, Bytes}}
use Rattle.ws_steps.specs.declared.{calls.Call.{Call}, calls.HostCall.{HostCall}, calls.Event.TheVariants.{Signal as SignalEvent}, calls.StartBy.{StartBy}, calls.StartBy.TheVariants.{Now, Later}}
use Rattle.ws_steps.specs.declared.effects.Effect.{Effect}
use Rattle.ws_steps.specs.declared.effects.Effect.TheVariants.{Readable as OnReadable, Writable as OnWritable, Pipe as OnPipe, Signal as OnSignal, Transform as OnTransform, Tee as OnTee, Port as OnPort, StartAlgorithm, PullAlgorithm, CancelAlgorithm, WriteAlgorithm, CloseAlgorithm, AbortAlgorithm, ChunkSteps, CloseSteps, ErrorSteps, Give, Settle, Queue, CallHost}
use Rattle.ws_steps.specs.declared.effects.{Owner.{Owner}, Owner.TheVariants.{Host, HalfOf, BranchOf, EndOf}, Use.{Use}, Use.TheVariants.{React}}
use Rattle.ws_steps.specs.declared.pipes.{PipeOperation.{PipeOperation}, SignalOperation.{SignalOperation}}
use Rattle.ws_steps.specs.declared.promises.{Job.{Job}}
use Rattle.ws_steps.specs.declared.promises.{Step.{Step}, Step.TheVariants.{ReadablePull, ReturnUndefined, WritableClose, WritableAbort}}
use Rattle.ws_steps.specs.declared.readable.{ReadRequest.{ReadRequest}, ReadRequest.TheVariants.{Promise, Pipe as PipeRequest, Tee as TeeRequest}, ReadableOperation.{ReadableOperation}}
use Rattle.ws_steps.specs.declared.transform.{TransformId.{TransformId}, TransformOperation.{TransformOperation}, TransformOperation.TheVariants.{TransformChunk}, Halves.{Halves}}
use Rattle.ws_steps.specs.declared.writable.{WritableOperation.{WritableOperation}}
use Rattle.ws_steps.specs.Calls.{begin}
use Rattle.ws_steps.specs.Effects.{Out, cause, settling}
use Rattle.ws_steps.specs.Jobs.{job_effects}
use Rattle.ws_steps.specs.Operations.{writable_operation, pipe_operation, signal_operation, transform_operation}
use Rattle.ws_steps.specs.Pipes as pipe
use Rattle.ws_steps.specs.Pipes.{Acts, keep_chunk, write, abort, abort_all}
use Rattle.ws_steps.specs.Promises.{Table, next_job, after_next_job, watch}
use Rattle.ws_steps.specs.Run.{after_event}
use Rattle.ws_steps.specs.Slots.{Slots, Done, nothing, causes, found, ends_at, empty, with_promises, has_writable, owner_at, on_writable, put_writable, on_pipe_at, on_signal_at, on_transform_at, halves_at}
use Rattle.ws_steps.specs.Transform as transform
use Rattle.ws_steps.specs.Turns.{row, call_host, start_algorithm, pull_algorithm, cancel_algorithm, write_algorithm, close_algorithm, abort_algorithm, chunk_steps, close_steps, error_steps}
use Rattle.ws_steps.specs.Writable.{write_to_host}
use Rattle.ws_steps.proofs.PromiseLaws.{slice_get-set_other}
use Rattle.ws_laws.proofs.Begin.{begin-makes}
use Rattle.ws_laws.proofs.PipeDoes.{OfPipe, pipe-does}
use Rattle.ws_laws.proofs.Tables.{either, eq_numbers, unequal_numbers, writable_acts}
use Rattle.ws_laws.proofs.TransformDoes.{transform-does}
use Rattle.ws_laws.proofs.Walker.{Stays}
use Rattle.ws_laws.proofs.Weights.{weigh, taken_off, weigh-fresh, weigh-settle, weigh-answer, weigh-micro, weigh-next, weigh-watch}
use Rattle.ws_laws.proofs.WritableDoes.{writable-does}
use Rattle.ws_writable_laws.proofs.Agenda.{weight-tell, weight-gift, weight-host}
use Rattle.ws_writable_laws.proofs.Shape.{of_reaction, of_transform, weight, all, all-append}
use Rattle.ws_writable_laws.proofs.Transforms.{weight-transform}
use Rattle.ws_writable_laws.proofs.Ports.{weight-port}
use Rattle.ws_writable_laws.proofs.Shape.{of_port}
use Rattle.ws_value.specs.declared.ids.PortId.{PortId}
use Rattle.ws_steps.specs.Cross as cross
use Rattle.ws_steps.specs.declared.port.PortOperation.{PortOperation}
use Rattle.ws_steps.specs.Operations.{port_operation}
use Rattle.ws_steps.specs.Slots.{on_port_at, clones_at}
use Rattle.ws_laws.proofs.PortDoes.{port-does}
use Rattle.ws_laws.proofs.Lists.{each-map}
use Rattle.ws_laws.proofs.PipeDoes.{pipe-causes}
use Rattle.ws_pipe_laws.specs.pipes.PipeMoves.{starting}
use Rattle.ws_pipe_laws.specs.pipes.PipeWrites.{outstanding, of_write, of_action, EachPipeIsOwed}
use Rattle.ws_steps.specs.Run.{Entry, run}
use Rattle.ws_steps.specs.Slots.{as_pipe}
use Rattle.ws_laws.proofs.Walker.{run-stays}
use Rattle.ws_promise_laws.proofs.Acting.{EachWaits, waits-stays, waits-heard, none-waits}
use Rattle.ws_promise_laws.proofs.PipeActs as acts
use Rattle.ws_pipe_laws.proofs.pipes.Reading.{no_answer}
use Rattle.ws_pipe_laws.proofs.writes.Paying.{is_ended, pays, Covered, operation-covered, PaysNone, none-paid, other-paid}
use Rattle.ws_steps.specs.declared.effects.Effect.TheVariants.{CloseStepsWith}
use Rattle.ws_steps.specs.Slots.{on_byte}
use Rattle.ws_steps.specs.Turns.{on_source}
use Rattle.ws_steps.specs.declared.effects.Effect.TheVariants.{Byte}
use Rattle.ws_steps.specs.declared.byte.ByteOperation.{ByteOperation}
use Rattle.ws_steps.specs.Operations.{byte_operation}
use Rattle.ws_laws.proofs.ReadableDoes.{OfReadable}
use Rattle.ws_laws.proofs.Rows.{source-out, byte-out, out_of}
use Rattle.ws_laws.proofs.Apart.{source-leaves, byte-leaves}
use Rattle.ws_steps.specs.Turns.{close_steps_with}
use Rattle.ws_value.specs.declared.ids.TeeId.{TeeId}
use Rattle.ws_steps.specs.declared.tee.TeeOperation.{TeeOperation}
use Rattle.ws_steps.specs.Tee as tee
use Rattle.ws_steps.specs.Operations.{tee_operation}
use Rattle.ws_steps.specs.Slots.{on_tee_at}
use Rattle.ws_laws.proofs.TeeDoes.{OfTee, tee-does}
use Rattle.ws_writable_laws.proofs.Shape.{of_tee}
use Rattle.ws_pipe_laws.proofs.writes.Counts.{same_weight, same_action, acting_place}
use Rattle.ws_pipe_laws.proofs.writes.Begins.{call-none, in_job}

-- the writes of the pipe in a place that haven't settled
abbrev pub unsettled_of : Option pipe.Slots → ℕ
unsettled_of None = 0
unsettled_of (Some x) = x.unsettled

abbrev pub Owes : PipeId → Slots → List Effect → Type 0
Owes p s es = weight (of_write p) s.promises + all (pays p) es ≤ unsettled_of (slice_get s.pipes p.0)

place_same : (ps : List pipe.Slots) (n : ℕ) (x y : pipe.Slots) → slice_get ps n ≡ Some x → slice_get (slice_set ps n y) n ≡ Some y
place_same [] n x y e = cc
place_same (z ∷ ps) zero x y e = refl
place_same (z ∷ ps) (suc n) x y e = place_same ps n x y e

-- effects

module _ (p : PipeId) where
  abbrev under_way : Table → ℕ
  under_way t = weight (of_write p) t

  lighter : (t : Table) → OfPipe (λ z. under_way z ≤ under_way t)
  lighter t = record {
    fresh = λ z h. let k = weigh-fresh (of_reaction (of_write p)) z in omega (arith, h, k);
    settle = λ z q o h. let k = weigh-settle (of_reaction (of_write p)) q o z in omega (arith, h, k);
    micro = λ z m h. let k = weigh-micro (of_reaction (of_write p)) m z in omega (arith, h, k);
  }

  pipe_waits : (q : PipeId) (operation : PipeOperation) (s : Slots) (es : List Effect) (o : Option pipe.Slots) (same : Bool) → slice_get s.pipes q.0 ≡ o → same ≡ nat_eq p.0 q.0 → Owes p s (OnPipe q operation ∷ es)
      → let d : Done = on_pipe_at (λ ends. pipe_operation q ends operation) q s o in Owes p d.slots (d.caused ++ es)
  pipe_waits q operation s es None same e n w = omega (arith, w)
  pipe_waits q operation s es (Some x) true e n w =
      let b : Acts = pipe_operation q (ends_at x s) operation (starting x s.promises) in
      let number : p.0 ≡ q.0 = eq_numbers p.0 q.0 (sym n) in
      let is : p ≡ q = ap (λ (n : ℕ). record { 0 = n }) number in
      let place : slice_get (slice_set s.pipes q.0 b.slots) p.0 ≡ Some b.slots = rw number (place_same s.pipes q.0 x b.slots e) in
      let there : slice_get s.pipes p.0 ≡ Some x = rw number e in
      let m : ℕ = under_way s.promises + all (pays p) es in
      let before : under_way s.promises + (is_ended operation + all (pays p) es) ≤ x.unsettled = rw (there, ← n) at w in
      let after : Covered m p b = subst (λ (r : PipeId). Covered m p (pipe_operation r (ends_at x s) operation (starting x s.promises))) is (operation-covered m p (ends_at x s) operation x s.promises (omega (arith, before))) in
      let light : under_way b.out.promises ≤ under_way s.promises = pipe-does (λ z. under_way z ≤ under_way s.promises) (lighter s.promises) q (ends_at x s) operation (starting x s.promises) (omega arith) in
      let c = all-append (pays p) b.out.effects es in
      rw place (omega (arith, after, light, c))
  pipe_waits q operation s es (Some x) false e n w =
      let a : Acts = record { slots = x; out = found s } in
      let b : Acts = pipe_operation q (ends_at x s) operation a in
      let place : slice_get (slice_set s.pipes q.0 b.slots) p.0 ≡ slice_get s.pipes p.0 = slice_get-set_other s.pipes q.0 p.0 b.slots (λ i. unequal_numbers p.0 q.0 (sym n) (sym i)) in
      let none : all (pays p) b.out.effects ≡ 0 = none-paid p b.out.effects (each-map _ (PaysNone p) (other-paid p q (sym n) x.source x.dest) b.out.effects (pipe-causes q (ends_at x s) operation a tt).1.1) in
      let light : under_way b.out.promises ≤ under_way s.promises = pipe-does (λ z. under_way z ≤ under_way s.promises) (lighter s.promises) q (ends_at x s) operation a (omega arith) in
      let c = all-append (pays p) b.out.effects es in
      rw place (omega (arith, none, light, c, w))

  -- every other effect leaves the pipes, and what it leads to it led to before
  abbrev Carries : Slots → ℕ → Done → Type 0
  Carries s n d = (d.slots.pipes ≡ s.pipes) × (under_way d.slots.promises + all (pays p) d.caused ≤ under_way s.promises + n)

  carried : (s : Slots) (e : Effect) (es : List Effect) → Carries s (pays p e) (row e s) → Owes p s (e ∷ es) → Owes p (row e s).slots ((row e s).caused ++ es)
  carried s e es k w = let l = k.1 in let c = all-append (pays p) (row e s).caused es in rw k.0 (omega (arith, l, c, w))

  abbrev Light : Table → Out → Type 0
  Light t x = under_way x.promises + all (pays p) x.effects ≤ under_way t

  causes-light : (t : Table) (x : Out) (e : Effect) → pays p e ≡ 0 → Light t x → Light t (cause e x)
  causes-light t x e n h = let c = all-append (pays p) x.effects (e ∷ []) in omega (arith, c, n, h)

  settles-light : (t : Table) (x : Out) (q : PromiseId) (o : Result Plain Plain) → Light t x → Light t (settling q o x)
  settles-light t x q o h = let k = weigh-settle (of_reaction (of_write p)) q o x.promises in omega (arith, h, k)

  of_readable : (t : Table) (i : StreamId) → OfReadable (Light t) i
  of_readable t i =
      record {
        settle = λ x q o h. settles-light t x q o h;
        pull = λ x h. causes-light t x (PullAlgorithm i) refl h;
        cancel = λ x r q h. causes-light t x (CancelAlgorithm i r q) refl h;
        chunk = λ x request v h. causes-light t x (ChunkSteps i request v) refl h;
        close = λ x request h. causes-light t x (CloseSteps i request) refl h;
        error = λ x request e h. causes-light t x (ErrorSteps i request e) refl h;
      }

  readable-carries : (i : StreamId) (operation : ReadableOperation) (s : Slots) → Carries s 0 (on_source operation i s)
  readable-carries i operation s =
      let h : Light s.promises (out_of (on_source operation i s)) = source-out (Light s.promises) i (of_readable s.promises i) operation s (omega arith) in
      (source-leaves (λ z. z.pipes) (λ z x o. refl) i operation s, omega (arith, h))

  byte-carries : (i : StreamId) (operation : ByteOperation) (s : Slots) → Carries s 0 (on_byte (byte_operation i operation) i s)
  byte-carries i operation s =
      let h : Light s.promises (out_of (on_byte (byte_operation i operation) i s)) =
      byte-out (Light s.promises) i (of_readable s.promises i) (λ x q b h. causes-light s.promises x (CloseStepsWith i q b) refl h) operation s (omega arith) in
      (byte-leaves (λ z. z.pipes) (λ z x o. refl) i operation s, omega (arith, h))

  writable-carries : (i : StreamId) (operation : WritableOperation) (s : Slots) → Carries s 0 (on_writable (writable_operation i operation) i s)
  writable-carries i operation s =
      let t : Table = s.promises in
      let h : Light t (writable_operation i operation (writable_acts i s)).out = writable-does (Light t) i (record {
        settle = λ x q o h. settles-light t x q o h;
        fresh = λ x h. let k = weigh-fresh (of_reaction (of_write p)) x.promises in omega (arith, h, k);
        tell = λ x r h. let k = weight-tell (of_write p) (SignalEvent i r) x.promises in omega (arith, h, k);
        write = λ x h. causes-light t x (WriteAlgorithm i) refl h;
        close = λ x h. causes-light t x (CloseAlgorithm i) refl h;
        abort = λ x r q h. causes-light t x (AbortAlgorithm i r q) refl h;
        hand_on = λ x v h. causes-light t x (write_to_host i v) refl h;
        take = λ x v half d h. causes-light t x (OnTransform half (TransformChunk v d)) refl h;
        post = λ x v c d h. causes-light t x (OnPort c (PostChunk v d)) refl h;
      }) operation (writable_acts i s) (omega arith) in
      either (Carries s 0) (has_writable i s) (put_writable i s (writable_operation i operation (writable_acts i s))) (nothing s) (λ e. (refl, omega (arith, h))) (λ e. (refl, omega arith))

  aborts-none : (r : Plain) (ps : List PipeId) → all (pays p) (abort_all r ps) ≡ 0
  aborts-none r [] = refl
  aborts-none r (q ∷ ps) = let n = aborts-none r ps in let m = no_answer (nat_eq p.0 q.0) in omega (arith, n, m)

  signal-none : (operation : SignalOperation) (x : pipe.Signal) → all (pays p) (signal_operation operation x).effects ≡ 0
  signal-none operation x = grind (arith, aborts-none)

  signal-carries : (a : SignalId) (operation : SignalOperation) (s : Slots) (o : Option pipe.Signal) → Carries s 0 (on_signal_at (signal_operation operation) a s o)
  signal-carries a operation s None = (refl, omega arith)
  signal-carries a operation s (Some x) = let n = signal-none operation x in (refl, omega (arith, n))

  transform-pays : (t : TransformId) (halves : Halves) (operation : TransformOperation) (a : transform.Acts) → a.out.effects ≡ [] → all (pays p) (transform_operation t halves operation a).out.effects ≤ of_transform (of_write p) operation
  unfolding transform.unblock transform.transform_error transform.terminate transform.enqueue transform.enqueued transform.transform_chunk transform.sink_write transform.write_goes_on transform.source_pull transform.set_backpressure transform.sink_close transform.sink_abort transform.source_cancel transform.flush_settled transform.abort_settled transform.cancel_settled
  transform-pays t halves operation a none = grind (arith, none)

  transform-carries : (t : TransformId) (operation : TransformOperation) (s : Slots) (o : Option transform.Slots)
      → Carries s (of_transform (of_write p) operation) (on_transform_at (λ halves. transform_operation t halves operation) t s o)
  transform-carries t operation s None = (refl, omega arith)
  transform-carries t operation s (Some x) =
      let a : transform.Acts = record { slots = x; out = found s } in
      let w = transform-does (λ z. under_way z ≤ under_way s.promises) (weight-transform (of_write p) s.promises) t (halves_at x s) operation a (omega arith) in
      let l = transform-pays t (halves_at x s) operation a refl in
      (refl, omega (arith, w, l))

  tee-pays : (t : TeeId) (operation : TeeOperation) (a : tee.Acts) → a.out.effects ≡ [] → all (pays p) (tee_operation t operation a).out.effects ≤ of_tee (of_write p) operation
  unfolding tee.pull_branch tee.keep_chunk tee.source_closed tee.source_errored tee.hand_chunk tee.handed tee.cancel_branch tee.reader_settled
  tee-pays t operation a none = grind (arith, none)

  lighter_tee : (t : Table) → OfTee (λ z. under_way z ≤ under_way t)
  lighter_tee t = record {
    fresh = λ z h. let k = weigh-fresh (of_reaction (of_write p)) z in omega (arith, h, k);
    micro = λ z m h. let k = weigh-micro (of_reaction (of_write p)) m z in omega (arith, h, k);
  }

  tee-carries : (t : TeeId) (operation : TeeOperation) (s : Slots) (o : Option tee.Slots)
      → Carries s (of_tee (of_write p) operation) (on_tee_at (tee_operation t operation) t s o)
  tee-carries t operation s None = (refl, omega arith)
  tee-carries t operation s (Some x) =
      let a : tee.Acts = record { slots = x; out = found s } in
      let w = tee-does (λ z. under_way z ≤ under_way s.promises) (lighter_tee s.promises) t operation a (omega arith) in
      let l = tee-pays t operation a refl in
      (refl, omega (arith, w, l))

  port-pays : (c : PortId) (clones : Bool) (operation : PortOperation) (a : cross.Acts) → a.out.effects ≡ [] → all (pays p) (port_operation c clones operation a).out.effects ≤ of_port (of_write p) operation
  unfolding cross.pull cross.leave cross.close cross.write cross.write_goes_on cross.post_chunk cross.unblock cross.deliver
  port-pays c clones operation a none = grind (arith, none)

  port-carries : (c : PortId) (operation : PortOperation) (s : Slots) (o : Option cross.Slots)
      → Carries s (of_port (of_write p) operation) (on_port_at (λ clones. port_operation c clones operation) c s o)
  port-carries c operation s None = (refl, omega arith)
  port-carries c operation s (Some x) =
      let a : cross.Acts = record { slots = x; out = found s } in
      let w = port-does (λ z. under_way z ≤ under_way s.promises) (weight-port (of_write p) s.promises) c (clones_at x s) operation a (omega arith) in
      let l = port-pays c (clones_at x s) operation a refl in
      (refl, omega (arith, w, l))

  start-carries : (i : StreamId) (step : Step) (s : Slots) (start : StartBy) → Carries s (of_write p step) (start_algorithm i step s start)
  start-carries i step s Now = (refl, omega arith)
  start-carries i step s Later = let k = weigh-fresh (of_reaction (of_write p)) s.promises in (refl, omega (arith, k))

  chunk-carries : (v : Value) (s : Slots) (request : ReadRequest) → Carries s 0 (chunk_steps v s request)
  chunk-carries v s (Promise q) = let k = weigh-answer (of_reaction (of_write p)) q (Given v) s.promises in (refl, omega (arith, k))
  chunk-carries v s (PipeRequest q) = let n = no_answer (nat_eq p.0 q.0) in (refl, omega (arith, n))
  chunk-carries v s (TeeRequest t) = (refl, omega arith)

  close-carries : (s : Slots) (request : ReadRequest) → Carries s 0 (close_steps s request)
  close-carries s (Promise q) = let k = weigh-answer (of_reaction (of_write p)) q (Finished (PlainValue Undefined)) s.promises in (refl, omega (arith, k))
  close-carries s (PipeRequest q) = let n = no_answer (nat_eq p.0 q.0) in (refl, omega (arith, n))
  close-carries s (TeeRequest t) = (refl, omega arith)

  close_with-carries : (s : Slots) (b : List ℕ) (request : ReadRequest) → Carries s 0 (close_steps_with b s request)
  close_with-carries s b (Promise q) = let k = weigh-answer (of_reaction (of_write p)) q (Finished (Bytes b)) s.promises in (refl, omega (arith, k))
  close_with-carries s b (PipeRequest q) = let n = no_answer (nat_eq p.0 q.0) in (refl, omega (arith, n))
  close_with-carries s b (TeeRequest t) = (refl, omega arith)

  error-carries : (e : Plain) (s : Slots) (request : ReadRequest) → Carries s 0 (error_steps e s request)
  error-carries e s (Promise q) = let k = weigh-settle (of_reaction (of_write p)) q (Err e) s.promises in (refl, omega (arith, k))
  error-carries e s (PipeRequest q) = let n = no_answer (nat_eq p.0 q.0) in (refl, omega (arith, n))
  error-carries e s (TeeRequest t) = (refl, omega arith)

  -- the algorithms, by whose they are

  pulls : (i : StreamId) (s : Slots) (owner : Owner) → Carries s 0 (causes (pull_algorithm i (React (ReadablePull i) None) owner) s)
  pulls i s Host = (refl, omega arith)
  pulls i s (HalfOf t) = (refl, omega arith)
  pulls i s (BranchOf t half) = (refl, omega arith)
  pulls i s (EndOf c) = (refl, omega arith)

  cancels : (i : StreamId) (r : Plain) (q : PromiseId) (s : Slots) (owner : Owner) → Carries s 0 (causes (cancel_algorithm i r (React ReturnUndefined (Some q)) owner) s)
  cancels i r q s Host = (refl, omega arith)
  cancels i r q s (HalfOf t) = (refl, omega arith)
  cancels i r q s (BranchOf t half) = (refl, omega arith)
  cancels i r q s (EndOf c) = (refl, omega arith)

  hands_on : (i : StreamId) (s : Slots) (owner : Owner) → Carries s 0 (causes (write_algorithm i owner) s)
  hands_on i s Host = (refl, omega arith)
  hands_on i s (HalfOf t) = (refl, omega arith)
  hands_on i s (BranchOf t half) = (refl, omega arith)
  hands_on i s (EndOf c) = (refl, omega arith)

  closes : (i : StreamId) (s : Slots) (owner : Owner) → Carries s 0 (causes (close_algorithm i (React (WritableClose i) None) owner) s)
  closes i s Host = (refl, omega arith)
  closes i s (HalfOf t) = (refl, omega arith)
  closes i s (BranchOf t half) = (refl, omega arith)
  closes i s (EndOf c) = (refl, omega arith)

  aborts-on : (i : StreamId) (r : Plain) (q : PromiseId) (s : Slots) (owner : Owner) → Carries s 0 (causes (abort_algorithm i r (React (WritableAbort i q) None) owner) s)
  aborts-on i r q s Host = (refl, omega arith)
  aborts-on i r q s (HalfOf t) = (refl, omega arith)
  aborts-on i r q s (BranchOf t half) = (refl, omega arith)
  aborts-on i r q s (EndOf c) = (refl, omega arith)

  host-pipes : (call : HostCall) (u : Use) (s : Slots) → (call_host call u s).pipes ≡ s.pipes
  unfolding call_host
  host-pipes call u s = refl

  pub row-owes : (s : Slots) (e : Effect) (es : List Effect) → Owes p s (e ∷ es) → Owes p (row e s).slots ((row e s).caused ++ es)
  unfolding row
  row-owes s (OnPipe q operation) es w = pipe_waits q operation s es (slice_get s.pipes q.0) (nat_eq p.0 q.0) refl refl w
  row-owes s (OnReadable i operation) es w = carried s (OnReadable i operation) es (readable-carries i operation s) w
  row-owes s (Byte i operation) es w = carried s (Byte i operation) es (byte-carries i operation s) w
  row-owes s (OnWritable i operation) es w = carried s (OnWritable i operation) es (writable-carries i operation s) w
  row-owes s (OnSignal a operation) es w = carried s (OnSignal a operation) es (signal-carries a operation s (slice_get s.signals a.0)) w
  row-owes s (OnTransform t operation) es w = carried s (OnTransform t operation) es (transform-carries t operation s (slice_get s.transforms t.0)) w
  row-owes s (OnTee t operation) es w = carried s (OnTee t operation) es (tee-carries t operation s (slice_get s.tees t.0)) w
  row-owes s (OnPort c operation) es w = carried s (OnPort c operation) es (port-carries c operation s (slice_get s.ports c.0)) w
  row-owes s (StartAlgorithm i step start) es w = carried s (StartAlgorithm i step start) es (start-carries i step s start) w
  row-owes s (PullAlgorithm i) es w = carried s (PullAlgorithm i) es (pulls i s (owner_at i s)) w
  row-owes s (CancelAlgorithm i r q) es w = carried s (CancelAlgorithm i r q) es (cancels i r q s (owner_at i s)) w
  row-owes s (WriteAlgorithm i) es w = carried s (WriteAlgorithm i) es (hands_on i s (owner_at i s)) w
  row-owes s (CloseAlgorithm i) es w = carried s (CloseAlgorithm i) es (closes i s (owner_at i s)) w
  row-owes s (AbortAlgorithm i r q) es w = carried s (AbortAlgorithm i r q) es (aborts-on i r q s (owner_at i s)) w
  row-owes s (ChunkSteps i request v) es w = carried s (ChunkSteps i request v) es (chunk-carries v s request) w
  row-owes s (CloseSteps i request) es w = carried s (CloseSteps i request) es (close-carries s request) w
  row-owes s (CloseStepsWith i request b) es w = carried s (CloseStepsWith i request b) es (close_with-carries s b request) w
  row-owes s (ErrorSteps i request e) es w = carried s (ErrorSteps i request e) es (error-carries e s request) w
  row-owes s (Give gift u) es w = let k = weight-gift (of_write p) gift u s.promises in omega (arith, k, w)
  row-owes s (Settle q o) es w = let k = weigh-settle (of_reaction (of_write p)) q o s.promises in omega (arith, k, w)
  row-owes s (Queue m) es w = let k = weigh-micro (of_reaction (of_write p)) m s.promises in omega (arith, k, w)
  row-owes s (CallHost call u) es w = let k = weight-host (of_write p) call u s in rw (host-pipes call u s) (omega (arith, k, w))

  -- calls

  -- no pipe goes
  grown : (ps : List pipe.Slots) (y : pipe.Slots) (n : ℕ) → unsettled_of (slice_get ps n) ≤ unsettled_of (slice_get (ps ++ y ∷ []) n)
  grown [] y n = omega arith
  grown (x ∷ ps) y zero = omega arith
  grown (x ∷ ps) y (suc n) = grown ps y n

  -- what is made leaves no less room and no more under way
  abbrev Roomy : Slots → Slots → Type 0
  Roomy s z = (unsettled_of (slice_get s.pipes p.0) ≤ unsettled_of (slice_get z.pipes p.0)) × (under_way z.promises ≤ under_way s.promises)

  begin-roomy : (c : Call) (s : Slots) → Roomy s (begin c s).done.slots
  begin-roomy c s = begin-makes (Roomy s) (record {
    promise = λ z k. (k.0, let l = k.1 in let m = weigh-fresh (of_reaction (of_write p)) z.promises in omega (arith, l, m));
    locks = λ z ls k. k;
    hosts = λ z hs k. k;
    pipe = λ z source dest prevent signal promise k. (let l = k.0 in let m = grown z.pipes (pipe.set_up source dest prevent signal promise) p.0 in omega (arith, l, m), k.1);
    signal = λ z k. k;
    transform = λ z kind i j change k. k;
    tee = λ z source first second cancel k. k;
    port = λ z side stream backpressure k. k;
    bytes = λ z mark auto k. k;
    byob_requests = λ z hs k. k;
    readable = λ z owner mark size k. k;
    writable = λ z owner mark size k. k;
  }) c s (omega arith, omega arith)

  pub call-owes : (s : Slots) (c : Call) → Owes p s [] → Owes p (begin c s).done.slots (begin c s).done.caused
  call-owes s c w = let r = begin-roomy c s in let a = r.0 in let b = r.1 in let n = call-none p c s in omega (arith, a, b, n, w)

  -- jobs

  pub job-owes : (s : Slots) (job : Job) → next_job s.promises ≡ Some job → Owes p s [] → Owes p (with_promises (after_next_job s.promises) s) (job_effects job)
  job-owes s job e w =
      let n = in_job p job in
      let m : under_way (after_next_job s.promises) + taken_off (of_reaction (of_write p)) job ≤ under_way s.promises = rw e at (weigh-next (of_reaction (of_write p)) s.promises) in
      omega (arith, n, m, w)

  -- the promises alone change, and no more is under way
  pub lighter-owes : (s : Slots) (t : Table) → weight (of_write p) t ≤ weight (of_write p) s.promises → Owes p s [] → Owes p (with_promises t s) []
  lighter-owes s t l w = omega (arith, l, w)

  pub none-owes : Owes p empty []
  unfolding weigh
  none-owes = omega arith

-- of every pipe, over every run

abbrev pub EachOwes : Slots → List Effect → Type 0
EachOwes s es = (p : PipeId) → Owes p s es

pub owes-stays : Stays EachOwes
owes-stays = record {
  row = λ s e es k p. row-owes p s e es (k p);
  call = λ s c k p. call-owes p s c (k p);
  job = λ s job e k p. job-owes p s job e (k p);
  answered = λ s q k p. lighter-owes p s (watch q s.promises) (weigh-watch (of_reaction (of_write p)) q s.promises) (k p);
  older = λ s k p. k p;
}

-- the host hears of what happened
pub owes-heard : (s : Slots) → EachOwes s [] → EachOwes (after_event s) []
unfolding weigh
owes-heard s k p = k p

unsettled_place : (n : ℕ) (o : Option pipe.Slots) → n ≤ unsettled_of o → n ≤ (as_pipe o).unsettled
unsettled_place n None w = w
unsettled_place n (Some x) w = w

-- over every run

pub owes-run : (entries : List Entry) → EachOwes (run entries empty) []
owes-run entries = run-stays EachOwes owes-stays owes-heard entries empty (λ p. none-owes p)

pub waits-run : (entries : List Entry) → EachWaits (run entries empty) []
waits-run entries = run-stays EachWaits waits-stays waits-heard entries empty (λ p. none-waits p)

pub each_pipe_is_owed : EachPipeIsOwed
each_pipe_is_owed entries p =
    let s : Slots = run entries empty in
    let o = owes-run entries p in
    let a = waits-run entries p in
    let m = same_weight (of_write p) s.promises in
    let n = same_weight (of_action p) s.promises in
    let k : weight (of_action p) s.promises ≡ weight (acts.ends_action p) s.promises = ap (λ (f : Step → ℕ). weight f s.promises) (λ i step. same_action p step i) in
    record {
      writes = unsettled_place (outstanding (of_write p) s.promises) (slice_get s.pipes p.0) (omega (arith, o, m));
      action = acting_place (outstanding (of_action p) s.promises) (slice_get s.pipes p.0) (omega (arith, a, n, k));
    }
