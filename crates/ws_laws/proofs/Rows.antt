-- What the row of an effect does beside the operations: what goes on with each change of promises goes on with each effect, other effects
-- than operations leave the streams, and an effect causes few others.
use Rattle.std.proofs.Common.{◌≡◌, ℕ, false, List, Option, Some, None, Result, refl, slice_get}
use Rattle.ws_value.specs.declared.ids.PipeId.{PipeId}
use Rattle.ws_value.specs.declared.ids.PortId.{PortId}
use Rattle.ws_value.specs.declared.ids.PromiseId.{PromiseId}
use Rattle.ws_value.specs.declared.ids.SignalId.{SignalId}
use Rattle.ws_value.specs.declared.ids.StreamId.{StreamId}
use Rattle.ws_value.specs.declared.ids.TeeId.{TeeId}
use Rattle.ws_value.specs.declared.value.Outcome.{Outcome}
use Rattle.ws_value.specs.declared.value.Outcome.TheVariants.{Given, Finished}
use Rattle.ws_value.specs.declared.value.Plain.{Plain}
use Rattle.ws_value.specs.declared.value.Plain.TheVariants.{Undefined}
use Rattle.ws_value.specs.declared.value.Value.TheVariants.{Plain as PlainValue, Bytes}
use Rattle.std.specs.Prelude.{Err}
use Rattle.ws_steps.specs.declared.calls.Event.{Event}
use Rattle.ws_steps.specs.declared.calls.Event.TheVariants.{Signal, Post}
use Rattle.ws_steps.specs.declared.calls.StartBy.TheVariants.{Now, Later}
use Rattle.ws_steps.specs.declared.byte.ByteOperation.{ByteOperation}
use Rattle.ws_steps.specs.declared.effects.Effect.{Effect}
use Rattle.ws_steps.specs.declared.readable.ReadableOperation.{ReadableOperation}
use Rattle.ws_steps.specs.declared.effects.Effect.TheVariants.{Readable, Byte, Writable, Pipe, Signal, Transform, Tee, Port, StartAlgorithm, ChunkSteps, CloseSteps, CloseStepsWith, ErrorSteps, Give, Settle, Queue, CallHost}
use Rattle.ws_steps.specs.declared.effects.Gift.{Gift}
use Rattle.ws_steps.specs.declared.effects.Gift.TheVariants.{This, Fresh}
use Rattle.ws_steps.specs.declared.effects.Use.{Use}
use Rattle.ws_steps.specs.declared.effects.Use.TheVariants.{React, Resolve}
use Rattle.ws_steps.specs.declared.promises.Reaction.{Reaction}
use Rattle.ws_steps.specs.declared.promises.Reaction.TheVariants.{Perform}
use Rattle.ws_steps.specs.declared.readable.ReadRequest.{ReadRequest}
use Rattle.ws_steps.specs.declared.readable.ReadRequest.TheVariants.{Promise, Pipe as PipeRequest, Tee as TeeRequest}
use Rattle.ws_steps.specs.declared.pipes.PipeOperation.{PipeOperation}
use Rattle.ws_steps.specs.declared.pipes.SignalOperation.{SignalOperation}
use Rattle.ws_steps.specs.declared.promises.Micro.{Micro}
use Rattle.ws_steps.specs.declared.transform.TransformId.{TransformId}
use Rattle.ws_steps.specs.declared.transform.TransformOperation.{TransformOperation}
use Rattle.ws_steps.specs.declared.port.PortOperation.{PortOperation}
use Rattle.ws_steps.specs.declared.tee.TeeOperation.{TeeOperation}
use Rattle.ws_steps.specs.Effects.{Out, cause}
use Rattle.ws_steps.specs.Promises.{Table, is_pending, fresh, settle, answer, react, follow, queue_micro, tell, next_id, fresh_settled, use_this, use_gift}
use Rattle.ws_steps.specs.Operations.{readable_operation, byte_readable_operation, byte_operation, writable_operation, pipe_operation, signal_operation, transform_operation, tee_operation, port_operation}
use Rattle.ws_steps.specs.Slots.{Slots, Done, nothing, has_readable, has_byte, has_writable, found, ends_at, halves_at, put_readable, put_byte, put_writable, on_readable, on_byte, on_pipe_at, on_signal_at, on_transform_at, on_tee_at, on_port_at, clones_at}
use Rattle.ws_steps.specs.Turns.{row, call_host, on_source}
use Rattle.ws_steps.specs.Pipes as pipe
use Rattle.ws_steps.specs.Transform as transform
use Rattle.ws_steps.specs.Tee as tee
use Rattle.ws_steps.specs.Cross as cross
use Rattle.ws_laws.proofs.ReadableDoes.{OfReadable, readable-does}
use Rattle.ws_laws.proofs.ByteDoes.{byte_readable-does, byte-does}
use Rattle.ws_laws.proofs.WritableDoes.{writable-does}
use Rattle.ws_laws.proofs.PipeDoes.{pipe-does}
use Rattle.ws_laws.proofs.TransformDoes.{transform-does}
use Rattle.ws_laws.proofs.TeeDoes.{tee-does}
use Rattle.ws_laws.proofs.PortDoes.{port-does}
use Rattle.ws_laws.proofs.Tables.{either, readable_acts, byte_acts, writable_acts}

-- what goes on with each change of promises
pub record Changes (T : Table → Type 0) : Type 0 where
  pub fresh : (t : Table) → T t → T (fresh t)
  pub settle : (t : Table) (p : PromiseId) (o : Result Plain Plain) → T t → T (settle p o t)
  pub answer : (t : Table) (p : PromiseId) (o : Outcome) → is_pending o ≡ false → T t → T (answer p o t)
  pub react : (t : Table) (p : PromiseId) (r : Reaction) → T t → T (react p r t)
  pub follow : (t : Table) (p q : PromiseId) → T t → T (follow p q t)
  pub micro : (t : Table) (m : Micro) → T t → T (queue_micro m t)
  pub tell : (t : Table) (e : Event) → T t → T (tell e t)

-- the same but that nothing is answered
pub record Settlings (T : Table → Type 0) : Type 0 where
  pub fresh : (t : Table) → T t → T (fresh t)
  pub settle : (t : Table) (p : PromiseId) (o : Result Plain Plain) → T t → T (settle p o t)
  pub react : (t : Table) (p : PromiseId) (r : Reaction) → T t → T (react p r t)
  pub follow : (t : Table) (p q : PromiseId) → T t → T (follow p q t)
  pub micro : (t : Table) (m : Micro) → T t → T (queue_micro m t)
  pub tell : (t : Table) (e : Event) → T t → T (tell e t)

-- an effect that answers no read
abbrev pub IsUnanswered : Effect → Type 0
IsUnanswered (ChunkSteps i (Promise p) v) = ⊥
IsUnanswered (CloseSteps i (Promise p)) = ⊥
IsUnanswered (CloseStepsWith i (Promise p) b) = ⊥
IsUnanswered _ = Unit {0}

module _ (T : Table → Type 0) (changes : Settlings T) where
  use-changes : (p : PromiseId) (t : Table) (u : Use) → T t → T (use_this p t u)
  use-changes p t (React step derived) h = changes.react t p (Perform step derived) h
  use-changes p t (Resolve q) h = changes.follow t q p h

  gift-changes : (gift : Gift) (u : Use) (t : Table) → T t → T (use_gift gift u t)
  unfolding use_gift
  gift-changes (This p) u t h = use-changes p t u h
  gift-changes (Fresh o) u t h = use-changes (next_id t) (fresh_settled o t) u (changes.settle (fresh t) (next_id t) o (changes.fresh t h))

  pipe-changes : (p : PipeId) (operation : PipeOperation) (s : Slots) (o : Option pipe.Slots) → T s.promises
      → T (on_pipe_at (λ ends. pipe_operation p ends operation) p s o).slots.promises
  pipe-changes p operation s None h = h
  pipe-changes p operation s (Some x) h =
      pipe-does T (record { fresh = changes.fresh; settle = changes.settle; micro = changes.micro }) p (ends_at x s) operation (record { slots = x; out = found s }) h

  signal-changes : (a : SignalId) (operation : SignalOperation) (s : Slots) (o : Option pipe.Signal) → T s.promises
      → T (on_signal_at (signal_operation operation) a s o).slots.promises
  signal-changes a operation s None h = h
  signal-changes a operation s (Some x) h = h

  transform-changes : (t : TransformId) (operation : TransformOperation) (s : Slots) (o : Option transform.Slots) → T s.promises
      → T (on_transform_at (λ halves. transform_operation t halves operation) t s o).slots.promises
  transform-changes t operation s None h = h
  transform-changes t operation s (Some x) h =
      transform-does T (record { fresh = changes.fresh; settle = changes.settle }) t (halves_at x s) operation (record { slots = x; out = found s }) h

  tee-changes : (t : TeeId) (operation : TeeOperation) (s : Slots) (o : Option tee.Slots) → T s.promises
      → T (on_tee_at (tee_operation t operation) t s o).slots.promises
  tee-changes t operation s None h = h
  tee-changes t operation s (Some x) h =
      tee-does T (record { fresh = changes.fresh; micro = changes.micro }) t operation (record { slots = x; out = found s }) h

  port-changes : (c : PortId) (operation : PortOperation) (s : Slots) (o : Option cross.Slots) → T s.promises
      → T (on_port_at (λ clones. port_operation c clones operation) c s o).slots.promises
  port-changes c operation s None h = h
  port-changes c operation s (Some x) h =
      port-does T (record { fresh = changes.fresh; settle = changes.settle; post = λ t c m. changes.tell t (Post c m) }) c (clones_at x s) operation (record { slots = x; out = found s }) h

  of-changes : (i : StreamId) → OfReadable (λ (x : Out). T x.promises) i
  of-changes i = record {
    settle = λ x p o h. changes.settle x.promises p o h;
    pull = λ x h. h;
    cancel = λ x r p h. h;
    chunk = λ x r v h. h;
    close = λ x r h. h;
    error = λ x r e h. h;
  }

  pub row-settled : (e : Effect) (s : Slots) → IsUnanswered e → T s.promises → T (row e s).slots.promises
  unfolding row call_host
  row-settled (Readable i operation) s n h =
      either (λ (d : Done). T d.slots.promises) (has_byte i s) (on_byte (byte_readable_operation i operation) i s) (on_readable (readable_operation i operation) i s)
      (λ is. either (λ (d : Done). T d.slots.promises) (has_byte i s) (put_byte i s (byte_readable_operation i operation (byte_acts i s))) (nothing s)
      (λ e. byte_readable-does (λ (x : Out). T x.promises) i (of-changes i) operation (byte_acts i s) h) (λ e. h))
      (λ isnt. either (λ (d : Done). T d.slots.promises) (has_readable i s) (put_readable i s (readable_operation i operation (readable_acts i s))) (nothing s)
      (λ e. readable-does (λ (x : Out). T x.promises) i (of-changes i) operation (readable_acts i s) h) (λ e. h))
  row-settled (Byte i operation) s n h =
      either (λ (d : Done). T d.slots.promises) (has_byte i s) (put_byte i s (byte_operation i operation (byte_acts i s))) (nothing s)
      (λ e. byte-does (λ (x : Out). T x.promises) i (of-changes i) (λ x q b h. h) operation (byte_acts i s) h) (λ e. h)
  row-settled (Writable i operation) s n h =
      either (λ (d : Done). T d.slots.promises) (has_writable i s) (put_writable i s (writable_operation i operation (writable_acts i s))) (nothing s)
      (λ e. writable-does (λ (x : Out). T x.promises) i (record {
        settle = λ x p o h. changes.settle x.promises p o h;
        fresh = λ x h. changes.fresh x.promises h;
        tell = λ x r h. changes.tell x.promises (Signal i r) h;
        write = λ x h. h;
        close = λ x h. h;
        abort = λ x r p h. h;
        hand_on = λ x v h. h;
        take = λ x v t d h. h;
        post = λ x v c d h. h;
      }) operation (writable_acts i s) h) (λ e. h)
  row-settled (Pipe p operation) s n h = pipe-changes p operation s (slice_get s.pipes p.0) h
  row-settled (Signal a operation) s n h = signal-changes a operation s (slice_get s.signals a.0) h
  row-settled (Transform t operation) s n h = transform-changes t operation s (slice_get s.transforms t.0) h
  row-settled (Tee t operation) s n h = tee-changes t operation s (slice_get s.tees t.0) h
  row-settled (Port c operation) s n h = port-changes c operation s (slice_get s.ports c.0) h
  row-settled (StartAlgorithm i step Now) s n h = h
  row-settled (StartAlgorithm i step Later) s n h = changes.fresh s.promises h
  row-settled (ChunkSteps i (Promise p) v) s n h = absurd n
  row-settled (CloseSteps i (Promise p)) s n h = absurd n
  row-settled (CloseStepsWith i (Promise p) b) s n h = absurd n
  row-settled (CloseStepsWith i (PipeRequest p) b) s n h = h
  row-settled (CloseStepsWith i (TeeRequest t) b) s n h = h
  row-settled (ErrorSteps i (Promise p) e) s n h = changes.settle s.promises p (Err e) h
  row-settled (ChunkSteps i (PipeRequest p) v) s n h = h
  row-settled (ChunkSteps i (TeeRequest t) v) s n h = h
  row-settled (CloseSteps i (PipeRequest p)) s n h = h
  row-settled (CloseSteps i (TeeRequest t)) s n h = h
  row-settled (ErrorSteps i (PipeRequest p) e) s n h = h
  row-settled (ErrorSteps i (TeeRequest t) e) s n h = h
  row-settled (Queue m) s n h = changes.micro s.promises m h
  row-settled (Give gift u) s n h = gift-changes gift u s.promises h
  row-settled (Settle p o) s n h = changes.settle s.promises p o h
  row-settled (CallHost call u) s n h = use-changes (next_id s.promises) _ u (changes.tell (fresh s.promises) _ (changes.fresh s.promises h))
  row-settled _ s n h = h

settlings : (T : Table → Type 0) → Changes T → Settlings T
settlings T changes =
    record { fresh = changes.fresh; settle = changes.settle; react = changes.react; follow = changes.follow; micro = changes.micro; tell = changes.tell }

pub row-changes : (T : Table → Type 0) → Changes T → (e : Effect) (s : Slots) → T s.promises → T (row e s).slots.promises
unfolding row
row-changes T changes (ChunkSteps i (Promise p) v) s h = changes.answer s.promises p (Given v) refl h
row-changes T changes (CloseSteps i (Promise p)) s h = changes.answer s.promises p (Finished (PlainValue Undefined)) refl h
row-changes T changes (CloseStepsWith i (Promise p) b) s h = changes.answer s.promises p (Finished (Bytes b)) refl h
row-changes T changes e s h = row-settled T (settlings T changes) e s tt h

-- what an operation of a readable stream leaves outside the streams

abbrev pub out_of : Done → Out
out_of d = record { promises = d.slots.promises; effects = d.caused }

module _ (Q : Out → Type 0) (i : StreamId) (of : OfReadable Q i) where
  pub source-out : (operation : ReadableOperation) (s : Slots) → Q (found s) → Q (out_of (on_source operation i s))
  source-out operation s h =
      either (λ (d : Done). Q (out_of d)) (has_byte i s) (on_byte (byte_readable_operation i operation) i s) (on_readable (readable_operation i operation) i s)
      (λ is. either (λ (d : Done). Q (out_of d)) (has_byte i s) (put_byte i s (byte_readable_operation i operation (byte_acts i s))) (nothing s)
      (λ e. byte_readable-does Q i of operation (byte_acts i s) h) (λ e. h))
      (λ isnt. either (λ (d : Done). Q (out_of d)) (has_readable i s) (put_readable i s (readable_operation i operation (readable_acts i s))) (nothing s)
      (λ e. readable-does Q i of operation (readable_acts i s) h) (λ e. h))

  pub byte-out : ((x : Out) (q : ReadRequest) (b : List ℕ) → Q x → Q (cause (CloseStepsWith i q b) x)) → (operation : ByteOperation) (s : Slots) → Q (found s)
      → Q (out_of (on_byte (byte_operation i operation) i s))
  byte-out close_with operation s h =
      either (λ (d : Done). Q (out_of d)) (has_byte i s) (put_byte i s (byte_operation i operation (byte_acts i s))) (nothing s)
      (λ e. byte-does Q i of close_with operation (byte_acts i s) h) (λ e. h)
