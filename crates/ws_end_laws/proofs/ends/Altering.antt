-- What goes on with each change of promises goes on with the row of each effect, where an answer never rejects.
use Rattle.ws_steps.specs.Cross as cross
use Rattle.ws_steps.specs.declared.calls.Event.TheVariants.{Post}
use Rattle.ws_value.specs.declared.ids.PortId.{PortId}
use Rattle.ws_steps.specs.declared.port.PortOperation.{PortOperation}
use Rattle.ws_steps.specs.Operations.{port_operation}
use Rattle.ws_steps.specs.Slots.{on_port_at, clones_at}
use Rattle.ws_laws.proofs.PortDoes.{port-does}
use Rattle.std.proofs.Common.{◌≡◌, true, Option, Some, None, Result, refl, slice_get}
use Rattle.ws_steps.specs.declared.effects.Effect.TheVariants.{Port}
use Rattle.ws_laws.proofs.TeeDoes.{tee-does}
use Rattle.ws_steps.specs.Operations.{tee_operation}
use Rattle.ws_steps.specs.Slots.{on_tee_at}
use Rattle.ws_steps.specs.Tee as tee
use Rattle.ws_steps.specs.declared.tee.TeeOperation.{TeeOperation}
use Rattle.ws_value.specs.declared.ids.TeeId.{TeeId}
use Rattle.ws_value.specs.declared.ids.PipeId.{PipeId}
use Rattle.ws_value.specs.declared.ids.PromiseId.{PromiseId}
use Rattle.ws_value.specs.declared.ids.SignalId.{SignalId}
use Rattle.ws_value.specs.declared.ids.StreamId.{StreamId}
use Rattle.ws_value.specs.declared.value.Outcome.{Outcome}
use Rattle.ws_value.specs.declared.value.Outcome.TheVariants.{Given, Finished}
use Rattle.ws_value.specs.declared.value.Plain.{Plain}
use Rattle.ws_value.specs.declared.value.Plain.TheVariants.{Undefined}
use Rattle.ws_value.specs.declared.value.Value.TheVariants.{Plain as PlainValue, Bytes}
use Rattle.std.specs.Prelude.{Err}
use Rattle.ws_steps.specs.declared.{calls.Event.{Event}, calls.Event.TheVariants.{Signal}, calls.StartBy.TheVariants.{Now, Later}}
use Rattle.ws_steps.specs.declared.effects.Effect.{Effect}
use Rattle.ws_steps.specs.declared.effects.Effect.TheVariants.{Readable, Writable, Pipe, Signal, Transform, Tee, StartAlgorithm, ChunkSteps, CloseSteps, ErrorSteps, Give, Settle, Queue, CallHost}
use Rattle.ws_steps.specs.declared.{effects.Gift.{Gift}, effects.Gift.TheVariants.{This, Fresh}, effects.Use.{Use}}
use Rattle.ws_steps.specs.declared.{effects.Use.TheVariants.{React, Resolve}, promises.Reaction.{Reaction}, promises.Reaction.TheVariants.{Perform}}
use Rattle.ws_steps.specs.declared.{readable.ReadRequest.TheVariants.{Promise, Pipe as PipeRequest, Tee as TeeRequest}, pipes.PipeOperation.{PipeOperation}, pipes.SignalOperation.{SignalOperation}, promises.Micro.{Micro}}
use Rattle.ws_steps.specs.declared.{transform.TransformId.{TransformId}, transform.TransformOperation.{TransformOperation}}
use Rattle.ws_steps.specs.Effects.{Out}
use Rattle.ws_steps.specs.Promises.{Table, fresh, settle, answer, react, follow, queue_micro, tell, next_id, fresh_settled, use_this, use_gift}
use Rattle.ws_steps.specs.Operations.{writable_operation, pipe_operation, signal_operation, transform_operation}
use Rattle.ws_steps.specs.Slots.{Slots, Done, nothing, has_writable, found, ends_at, halves_at, put_writable, on_pipe_at, on_signal_at, on_transform_at}
use Rattle.ws_steps.specs.Turns.{row, call_host}
use Rattle.ws_steps.specs.Pipes as pipe
use Rattle.ws_steps.specs.Transform as transform
use Rattle.ws_steps.specs.Pipes.{abort_all, trigger_unless}
use Rattle.ws_laws.proofs.WritableDoes.{writable-does}
use Rattle.ws_laws.proofs.PipeDoes.{pipe-does}
use Rattle.ws_laws.proofs.TransformDoes.{transform-does}
use Rattle.ws_laws.proofs.Tables.{either, writable_acts}
use Rattle.ws_end_laws.proofs.ends.Hearing.{is_well}
use Rattle.ws_steps.specs.declared.effects.Effect.TheVariants.{Byte, CloseStepsWith}
use Rattle.ws_laws.proofs.ReadableDoes.{OfReadable}
use Rattle.ws_laws.proofs.Rows.{source-out, byte-out}

-- what goes on with each change of promises, where a promise is answered
pub record Alters (T : Table → Type 0) : Type 0 where
  pub fresh : (t : Table) → T t → T (fresh t)
  pub settle : (t : Table) (p : PromiseId) (o : Result Plain Plain) → T t → T (settle p o t)
  pub answer : (t : Table) (p : PromiseId) (o : Outcome) → is_well o ≡ true → T t → T (answer p o t)
  pub react : (t : Table) (p : PromiseId) (r : Reaction) → T t → T (react p r t)
  pub follow : (t : Table) (p q : PromiseId) → T t → T (follow p q t)
  pub micro : (t : Table) (m : Micro) → T t → T (queue_micro m t)
  pub tell : (t : Table) (e : Event) → T t → T (tell e t)

module _ (T : Table → Type 0) (alters : Alters T) where
  use-alters : (p : PromiseId) (t : Table) (u : Use) → T t → T (use_this p t u)
  use-alters p t (React step derived) h = alters.react t p (Perform step derived) h
  use-alters p t (Resolve q) h = alters.follow t q p h

  gift-alters : (gift : Gift) (u : Use) (t : Table) → T t → T (use_gift gift u t)
  unfolding use_gift
  gift-alters (This p) u t h = use-alters p t u h
  gift-alters (Fresh o) u t h = use-alters (next_id t) (fresh_settled o t) u (alters.settle (fresh t) (next_id t) o (alters.fresh t h))

  pipe-alters : (p : PipeId) (operation : PipeOperation) (s : Slots) (o : Option pipe.Slots) → T s.promises
      → T (on_pipe_at (λ ends. pipe_operation p ends operation) p s o).slots.promises
  pipe-alters p operation s None h = h
  pipe-alters p operation s (Some x) h =
      pipe-does T (record { fresh = alters.fresh; settle = alters.settle; micro = alters.micro }) p (ends_at x s) operation (record { slots = x; out = found s }) h

  signal-alters : (a : SignalId) (operation : SignalOperation) (s : Slots) (o : Option pipe.Signal) → T s.promises
      → T (on_signal_at (signal_operation operation) a s o).slots.promises
  signal-alters a operation s None h = h
  signal-alters a operation s (Some x) h = h

  transform-alters : (t : TransformId) (operation : TransformOperation) (s : Slots) (o : Option transform.Slots) → T s.promises
      → T (on_transform_at (λ halves. transform_operation t halves operation) t s o).slots.promises
  transform-alters t operation s None h = h
  transform-alters t operation s (Some x) h =
      transform-does T (record { fresh = alters.fresh; settle = alters.settle }) t (halves_at x s) operation (record { slots = x; out = found s }) h

  tee-alters : (t : TeeId) (operation : TeeOperation) (s : Slots) (o : Option tee.Slots) → T s.promises → T (on_tee_at (tee_operation t operation) t s o).slots.promises
  tee-alters t operation s None h = h
  tee-alters t operation s (Some x) h = tee-does T (record { fresh = alters.fresh; micro = alters.micro }) t operation (record { slots = x; out = found s }) h

  port-alters : (c : PortId) (operation : PortOperation) (s : Slots) (o : Option cross.Slots) → T s.promises
      → T (on_port_at (λ clones. port_operation c clones operation) c s o).slots.promises
  port-alters c operation s None h = h
  port-alters c operation s (Some x) h =
      port-does T (record { fresh = alters.fresh; settle = alters.settle; post = λ t d m k. alters.tell t (Post d m) k }) c (clones_at x s) operation (record { slots = x; out = found s }) h

  of-alters : (i : StreamId) → OfReadable (λ (x : Out). T x.promises) i
  of-alters i = record {
    settle = λ x p o h. alters.settle x.promises p o h;
    pull = λ x h. h;
    cancel = λ x r p h. h;
    chunk = λ x r v h. h;
    close = λ x r h. h;
    error = λ x r e h. h;
  }

  pub row-alters : (e : Effect) (s : Slots) → T s.promises → T (row e s).slots.promises
  unfolding row call_host
  row-alters (Readable i operation) s h = source-out (λ (x : Out). T x.promises) i (of-alters i) operation s h
  row-alters (Byte i operation) s h = byte-out (λ (x : Out). T x.promises) i (of-alters i) (λ x q b h. h) operation s h
  row-alters (Writable i operation) s h =
      either (λ (d : Done). T d.slots.promises) (has_writable i s) (put_writable i s (writable_operation i operation (writable_acts i s))) (nothing s)
      (λ e. writable-does (λ (x : Out). T x.promises) i (record {
        settle = λ x p o h. alters.settle x.promises p o h;
        fresh = λ x h. alters.fresh x.promises h;
        tell = λ x r h. alters.tell x.promises (Signal i r) h;
        write = λ x h. h;
        close = λ x h. h;
        abort = λ x r p h. h;
        hand_on = λ x v h. h;
        take = λ x v t d h. h;
        post = λ x v c d h. h;
      }) operation (writable_acts i s) h) (λ e. h)
  row-alters (Pipe p operation) s h = pipe-alters p operation s (slice_get s.pipes p.0) h
  row-alters (Signal a operation) s h = signal-alters a operation s (slice_get s.signals a.0) h
  row-alters (Transform t operation) s h = transform-alters t operation s (slice_get s.transforms t.0) h
  row-alters (Tee t operation) s h = tee-alters t operation s (slice_get s.tees t.0) h
  row-alters (Port c operation) s h = port-alters c operation s (slice_get s.ports c.0) h
  row-alters (StartAlgorithm i step Now) s h = h
  row-alters (StartAlgorithm i step Later) s h = alters.fresh s.promises h
  row-alters (ChunkSteps i (Promise p) v) s h = alters.answer s.promises p (Given v) refl h
  row-alters (CloseSteps i (Promise p)) s h = alters.answer s.promises p (Finished (PlainValue Undefined)) refl h
  row-alters (CloseStepsWith i (Promise p) b) s h = alters.answer s.promises p (Finished (Bytes b)) refl h
  row-alters (ErrorSteps i (Promise p) e) s h = alters.settle s.promises p (Err e) h
  row-alters (ChunkSteps i (PipeRequest p) v) s h = h
  row-alters (ChunkSteps i (TeeRequest t) v) s h = h
  row-alters (CloseSteps i (PipeRequest p)) s h = h
  row-alters (CloseSteps i (TeeRequest t)) s h = h
  row-alters (CloseStepsWith i (PipeRequest p) b) s h = h
  row-alters (CloseStepsWith i (TeeRequest t) b) s h = h
  row-alters (ErrorSteps i (PipeRequest p) e) s h = h
  row-alters (ErrorSteps i (TeeRequest t) e) s h = h
  row-alters (Queue m) s h = alters.micro s.promises m h
  row-alters (Give gift u) s h = gift-alters gift u s.promises h
  row-alters (Settle p o) s h = alters.settle s.promises p o h
  row-alters (CallHost call u) s h = use-alters (next_id s.promises) _ u (alters.tell (fresh s.promises) _ (alters.fresh s.promises h))
  row-alters _ s h = h
