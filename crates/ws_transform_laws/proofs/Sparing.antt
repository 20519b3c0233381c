-- Effects that use no promise that an algorithm gives, and what goes on with them.
use Rattle.std.proofs.Common.{Option, Some, None, Result, slice_get}
use Rattle.ws_value.specs.declared.ids.{PipeId.{PipeId}, PromiseId.{PromiseId}, SignalId.{SignalId}, StreamId.{StreamId}}
use Rattle.ws_value.specs.declared.value.{Outcome.{Outcome}, Outcome.TheVariants.{Given, Finished}, Plain.{Plain}, Plain.TheVariants.{Undefined}, Value.TheVariants.{Plain as PlainValue, Bytes}}
use Rattle.ws_steps.specs.declared.calls.{Event.TheVariants.{Signal as SignalEvent}, StartBy.TheVariants.{Now, Later}}
use Rattle.ws_steps.specs.declared.effects.{Effect.{Effect}, Effect.TheVariants.{Readable as OnReadable, Writable as OnWritable, Pipe as OnPipe, Signal as OnSignal, Transform as OnTransform, Tee as OnTee, Port as OnPort, StartAlgorithm, ChunkSteps, CloseSteps, ErrorSteps, Give, Settle as SettlePromise, Queue, CallHost}}
use Rattle.ws_steps.specs.declared.pipes.{PipeOperation.{PipeOperation}, SignalOperation.{SignalOperation}}
use Rattle.ws_steps.specs.declared.promises.Micro.{Micro}
use Rattle.ws_steps.specs.declared.readable.ReadRequest.TheVariants.{Promise, Pipe as PipeRequest, Tee as TeeRequest}
use Rattle.ws_steps.specs.declared.transform.{TransformId.{TransformId}, TransformOperation.{TransformOperation}}
use Rattle.ws_steps.specs.Effects.{Out}
use Rattle.ws_steps.specs.Operations.{writable_operation, pipe_operation, signal_operation, transform_operation, tee_operation, port_operation}
use Rattle.ws_steps.specs.Pipes as pipe
use Rattle.ws_steps.specs.Promises.{Table, fresh, settle, answer, tell, queue_micro}
use Rattle.ws_steps.specs.Slots.{Slots, Done, found, ends_at, halves_at, has_writable, nothing, put_writable, on_pipe_at, on_signal_at, on_transform_at, on_tee_at, on_port_at, clones_at}
use Rattle.ws_steps.specs.Transform as transform
use Rattle.ws_steps.specs.Turns.{row}
use Rattle.ws_laws.proofs.PipeDoes.{pipe-does}
use Rattle.ws_laws.proofs.Tables.{either, writable_acts}
use Rattle.ws_laws.proofs.TransformDoes.{transform-does}
use Rattle.ws_laws.proofs.WritableDoes.{writable-does}
use Rattle.ws_steps.specs.declared.effects.Effect.TheVariants.{Byte, CloseStepsWith}
use Rattle.ws_laws.proofs.Rows.{source-out, byte-out}
use Rattle.ws_laws.proofs.ReadableDoes.{OfReadable}
use Rattle.ws_value.specs.declared.ids.TeeId.{TeeId}
use Rattle.ws_value.specs.declared.ids.PortId.{PortId}
use Rattle.ws_steps.specs.declared.tee.TeeOperation.{TeeOperation}
use Rattle.ws_steps.specs.declared.port.PortOperation.{PortOperation}
use Rattle.ws_steps.specs.Tee as tee
use Rattle.ws_steps.specs.Cross as cross
use Rattle.ws_laws.proofs.TeeDoes.{tee-does}
use Rattle.ws_value.specs.declared.value.Message.{Message}
use Rattle.ws_laws.proofs.PortDoes.{port-does}
use Rattle.ws_steps.specs.declared.calls.Event.TheVariants.{Post}

abbrev pub IsUsing : Effect → Type 0
IsUsing (Give gift u) = Unit {0}
IsUsing (CallHost call u) = Unit {0}
IsUsing _ = ⊥

pub record Spares (T : Table → Type 0) : Type 0 where
  pub fresh : (t : Table) → T t → T (fresh t)
  pub settle : (t : Table) (p : PromiseId) (o : Result Plain Plain) → T t → T (settle p o t)
  pub answer : (t : Table) (p : PromiseId) (o : Outcome) → T t → T (answer p o t)
  pub micro : (t : Table) (m : Micro) → T t → T (queue_micro m t)
  pub post : (t : Table) (c : PortId) (m : Message) → T t → T (tell (Post c m) t)
  pub signal : (t : Table) (i : StreamId) (r : Plain) → T t → T (tell (SignalEvent i r) t)

module _ (T : Table → Type 0) (of : Spares T) where
  by-pipe : (p : PipeId) (operation : PipeOperation) (s : Slots) (o : Option pipe.Slots) → T s.promises → T (on_pipe_at (λ ends. pipe_operation p ends operation) p s o).slots.promises
  by-pipe p operation s None h = h
  by-pipe p operation s (Some x) h = pipe-does T (record { fresh = of.fresh; settle = of.settle; micro = of.micro }) p (ends_at x s) operation (record { slots = x; out = found s }) h

  by-signal : (a : SignalId) (operation : SignalOperation) (s : Slots) (o : Option pipe.Signal) → T s.promises → T (on_signal_at (signal_operation operation) a s o).slots.promises
  by-signal a operation s None h = h
  by-signal a operation s (Some x) h = h

  by-transform : (t : TransformId) (operation : TransformOperation) (s : Slots) (o : Option transform.Slots) → T s.promises → T (on_transform_at (λ halves. transform_operation t halves operation) t s o).slots.promises
  by-transform t operation s None h = h
  by-transform t operation s (Some x) h = transform-does T (record { fresh = of.fresh; settle = of.settle }) t (halves_at x s) operation (record { slots = x; out = found s }) h

  by-tee : (t : TeeId) (operation : TeeOperation) (s : Slots) (o : Option tee.Slots) → T s.promises → T (on_tee_at (tee_operation t operation) t s o).slots.promises
  by-tee t operation s None h = h
  by-tee t operation s (Some x) h = tee-does T (record { fresh = of.fresh; micro = of.micro }) t operation (record { slots = x; out = found s }) h

  by-port : (c : PortId) (operation : PortOperation) (s : Slots) (o : Option cross.Slots) → T s.promises → T (on_port_at (λ clones. port_operation c clones operation) c s o).slots.promises
  by-port c operation s None h = h
  by-port c operation s (Some x) h = port-does T (record { fresh = of.fresh; settle = of.settle; post = of.post }) c (clones_at x s) operation (record { slots = x; out = found s }) h

  settles : (j : StreamId) → OfReadable (λ (x : Out). T x.promises) j
  settles j = record {
    settle = λ x p o h. of.settle x.promises p o h;
    pull = λ x h. h;
    cancel = λ x c p h. h;
    chunk = λ x q v h. h;
    close = λ x q h. h;
    error = λ x q e h. h;
  }

  pub row-spares : (e : Effect) (s : Slots) → (IsUsing e → ⊥) → T s.promises → T (row e s).slots.promises
  unfolding row
  row-spares (OnReadable j operation) s n h = source-out (λ (x : Out). T x.promises) j (settles j) operation s h
  row-spares (Byte j operation) s n h = byte-out (λ (x : Out). T x.promises) j (settles j) (λ x q b h. h) operation s h
  row-spares (OnWritable j operation) s n h =
      either (λ (d : Done). T d.slots.promises) (has_writable j s) (put_writable j s (writable_operation j operation (writable_acts j s))) (nothing s)
      (λ there. writable-does (λ (x : Out). T x.promises) j (record {
        settle = λ x p o h. of.settle x.promises p o h;
        fresh = λ x h. of.fresh x.promises h;
        tell = λ x c h. of.signal x.promises j c h;
        write = λ x h. h;
        close = λ x h. h;
        abort = λ x c p h. h;
        hand_on = λ x v h. h;
        take = λ x v t d h. h;
        post = λ x v t d h. h;
      }) operation (writable_acts j s) h) (λ none. h)
  row-spares (OnPipe p operation) s n h = by-pipe p operation s (slice_get s.pipes p.0) h
  row-spares (OnSignal a operation) s n h = by-signal a operation s (slice_get s.signals a.0) h
  row-spares (OnTransform t operation) s n h = by-transform t operation s (slice_get s.transforms t.0) h
  row-spares (OnTee t operation) s n h = by-tee t operation s (slice_get s.tees t.0) h
  row-spares (OnPort t operation) s n h = by-port t operation s (slice_get s.ports t.0) h
  row-spares (StartAlgorithm j step Now) s n h = h
  row-spares (StartAlgorithm j step Later) s n h = of.fresh s.promises h
  row-spares (ChunkSteps j (Promise p) v) s n h = of.answer s.promises p (Given v) h
  row-spares (CloseSteps j (Promise p)) s n h = of.answer s.promises p (Finished (PlainValue Undefined)) h
  row-spares (CloseStepsWith j (Promise p) b) s n h = of.answer s.promises p (Finished (Bytes b)) h
  row-spares (ErrorSteps j (Promise p) e) s n h = of.settle s.promises p _ h
  row-spares (ChunkSteps j (PipeRequest p) v) s n h = h
  row-spares (ChunkSteps j (TeeRequest k) v) s n h = h
  row-spares (CloseSteps j (PipeRequest p)) s n h = h
  row-spares (CloseSteps j (TeeRequest k)) s n h = h
  row-spares (CloseStepsWith j (PipeRequest p) b) s n h = h
  row-spares (CloseStepsWith j (TeeRequest k) b) s n h = h
  row-spares (ErrorSteps j (PipeRequest p) e) s n h = h
  row-spares (ErrorSteps j (TeeRequest k) e) s n h = h
  row-spares (Queue m) s n h = of.micro s.promises m h
  row-spares (Give gift u) s n h = absurd (n tt)
  row-spares (SettlePromise p o) s n h = of.settle s.promises p o h
  row-spares (CallHost call u) s n h = absurd (n tt)
  row-spares _ s n h = h
