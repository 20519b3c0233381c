-- The host hears of a chunk as its transform algorithm is called, and of none otherwise.
use Rattle.std.proofs.Common.{◌≡◌, List, [], ◌∷◌, ◌++◌, Option, Some, None, Result, slice_get, refl, sym, ap, ◌∙◌, arith, append_assoc, append-nil}
use Rattle.ws_value.specs.declared.ids.{HostId.{HostId}, PromiseId.{PromiseId}, StreamId.{StreamId}, SignalId.{SignalId}, PipeId.{PipeId}}
use Rattle.ws_value.specs.declared.value.{Outcome.{Outcome}, Outcome.TheVariants.{Given, Finished}, Plain.{Plain}, Plain.TheVariants.{Undefined}, Value.{Value}, Value.TheVariants.{Plain as PlainValue, Bytes}}
use Rattle.ws_steps.specs.declared.calls.{Event.{Event}, Event.TheVariants.{Host as HostCalled, Signal as SignalEvent}, HostCall.{HostCall}, StartBy.TheVariants.{Now, Later}}
use Rattle.ws_steps.specs.declared.effects.{Effect.{Effect}, Gift.{Gift}, Use.{Use}}
use Rattle.ws_steps.specs.declared.effects.Effect.TheVariants.{Readable as OnReadable, Writable as OnWritable, Pipe as OnPipe, Signal as OnSignal, Transform as OnTransform, Tee as OnTee, Port as OnPort, StartAlgorithm, ChunkSteps, CloseSteps, ErrorSteps, Give, Settle as SettlePromise, Queue, CallHost}
use Rattle.ws_steps.specs.declared.pipes.{PipeOperation.{PipeOperation}, SignalOperation.{SignalOperation}}
use Rattle.ws_steps.specs.declared.promises.{Job.{Job}, Micro.{Micro}, Reaction.{Reaction}}
use Rattle.ws_steps.specs.declared.readable.ReadRequest.TheVariants.{Promise, Pipe as PipeRequest, Tee as TeeRequest}
use Rattle.ws_steps.specs.declared.transform.{TransformId.{TransformId}, TransformOperation.{TransformOperation}}
use Rattle.ws_steps.specs.Effects.{Out}
use Rattle.ws_steps.specs.Operations.{writable_operation, pipe_operation, signal_operation, transform_operation, tee_operation, port_operation}
use Rattle.ws_steps.specs.Pipes as pipe
use Rattle.ws_steps.specs.Promises.{Table, fresh, settle, answer, tell, react, follow, unfollow, queue_micro, use_this, use_gift, taken, after_next_job, watch}
use Rattle.ws_steps.specs.Slots.{Slots, Done, found, ends_at, halves_at, has_writable, nothing, put_writable, on_pipe_at, on_signal_at, on_transform_at, on_tee_at, on_port_at, clones_at}
use Rattle.ws_steps.specs.Transform as transform
use Rattle.ws_steps.specs.Turns.{row, call_host}
use Rattle.ws_laws.proofs.PipeDoes.{pipe-does}
use Rattle.ws_laws.proofs.Tables.{either, writable_acts}
use Rattle.ws_laws.proofs.TransformDoes.{transform-does}
use Rattle.ws_laws.proofs.WritableDoes.{writable-does}
use Rattle.ws_transform_laws.specs.TransformHistory.{heard_transform, heard_transforms}
use Rattle.ws_steps.specs.declared.effects.Effect.TheVariants.{Byte, CloseStepsWith}
use Rattle.ws_laws.proofs.Rows.{source-out, byte-out}
use Rattle.ws_laws.proofs.ReadableDoes.{OfReadable}
use Rattle.ws_value.specs.declared.ids.TeeId.{TeeId}
use Rattle.ws_value.specs.declared.ids.PortId.{PortId}
use Rattle.ws_steps.specs.declared.tee.TeeOperation.{TeeOperation}
use Rattle.ws_steps.specs.declared.port.PortOperation.{PortOperation}
use Rattle.ws_steps.specs.Tee as tee
use Rattle.ws_steps.specs.Cross as cross
use Rattle.ws_laws.proofs.TeeDoes.{tee-does}
use Rattle.ws_laws.proofs.PortDoes.{port-does}
use Rattle.ws_steps.specs.declared.calls.Event.TheVariants.{Post}

abbrev pub IsCall : Effect → Type 0
IsCall (CallHost call u) = Unit {0}
IsCall _ = ⊥

module _ (r : StreamId) where
  -- what a call tells
  abbrev pub hear : HostCall → List Value
  hear call = heard_transform r (HostCalled (record { 0 = 0 }) call)

  abbrev pub heard : Table → List Value
  heard t = heard_transforms r t.events

  pub events-append : (xs ys : List Event) → heard_transforms r (xs ++ ys) ≡ heard_transforms r xs ++ heard_transforms r ys
  events-append [] ys = refl
  events-append (x ∷ xs) ys = rw (events-append xs ys) (sym (append_assoc (heard_transform r x) (heard_transforms r xs) (heard_transforms r ys)))

  tell-heard : (event : Event) (t : Table) → heard (tell event t) ≡ heard t ++ heard_transform r event
  tell-heard event t = events-append t.events (event ∷ []) ∙ ap (λ vs. heard t ++ vs) (append-nil (heard_transform r event))

  silent-heard : (event : Event) (t : Table) → heard_transform r event ≡ [] → heard (tell event t) ≡ heard t
  silent-heard event t e = tell-heard event t ∙ (rw e (append-nil (heard t)))

  pub fresh-heard : (t : Table) → heard (fresh t) ≡ heard t
  unfolding fresh
  fresh-heard t = refl

  settle-heard : (p : PromiseId) (o : Result Plain Plain) (t : Table) → heard (settle p o t) ≡ heard t
  unfolding settle
  settle-heard p o t = grind (arith, silent-heard)

  answer-heard : (p : PromiseId) (o : Outcome) (t : Table) → heard (answer p o t) ≡ heard t
  unfolding answer
  answer-heard p o t = grind (arith, silent-heard)

  react-heard : (p : PromiseId) (x : Reaction) (t : Table) → heard (react p x t) ≡ heard t
  unfolding react
  react-heard p x t = grind arith

  follow-heard : (p q : PromiseId) (t : Table) → heard (follow p q t) ≡ heard t
  unfolding follow
  follow-heard p q t = grind arith

  unfollow-heard : (p : PromiseId) (t : Table) → heard (unfollow p t) ≡ heard t
  unfolding unfollow
  unfollow-heard p t = grind arith

  taken-heard : (job : Job) (t : Table) → heard (taken job t) ≡ heard t
  taken-heard job t = grind (arith, react-heard, unfollow-heard)

  pub next-heard : (t : Table) → heard (after_next_job t) ≡ heard t
  unfolding after_next_job
  next-heard t = grind (arith, taken-heard)

  pub watch-heard : (p : PromiseId) (t : Table) → heard (watch p t) ≡ heard t
  unfolding watch
  watch-heard p t = grind (arith, silent-heard)

  micro-heard : (m : Micro) (t : Table) → heard (queue_micro m t) ≡ heard t
  unfolding queue_micro
  micro-heard m t = refl

  use-heard : (p : PromiseId) (t : Table) (u : Use) → heard (use_this p t u) ≡ heard t
  use-heard p t u = grind (arith, react-heard, follow-heard)

  gift-heard : (gift : Gift) (u : Use) (t : Table) → heard (use_gift gift u t) ≡ heard t
  unfolding use_gift
  gift-heard gift u t = grind (arith, use-heard, settle-heard, fresh-heard)

  hear-any : (id : HostId) (call : HostCall) → heard_transform r (HostCalled id call) ≡ hear call
  hear-any id call = grind arith

  pub host-heard : (call : HostCall) (u : Use) (s : Slots) → heard (call_host call u s).promises ≡ heard s.promises ++ hear call
  unfolding call_host
  host-heard call u s = grind (arith, use-heard, tell-heard, fresh-heard, hear-any)

  pipe-heard : (p : PipeId) (operation : PipeOperation) (s : Slots) (o : Option pipe.Slots) → heard (on_pipe_at (λ ends. pipe_operation p ends operation) p s o).slots.promises ≡ heard s.promises
  pipe-heard p operation s None = refl
  pipe-heard p operation s (Some x) =
      pipe-does (λ z. heard z ≡ heard s.promises) (record { fresh = λ z h. fresh-heard z ∙ h; settle = λ z q o h. settle-heard q o z ∙ h; micro = λ z m h. micro-heard m z ∙ h })
      p (ends_at x s) operation (record { slots = x; out = found s }) refl

  signal-heard : (a : SignalId) (operation : SignalOperation) (s : Slots) (o : Option pipe.Signal) → heard (on_signal_at (signal_operation operation) a s o).slots.promises ≡ heard s.promises
  signal-heard a operation s None = refl
  signal-heard a operation s (Some x) = refl

  transform-heard : (t : TransformId) (operation : TransformOperation) (s : Slots) (o : Option transform.Slots) → heard (on_transform_at (λ halves. transform_operation t halves operation) t s o).slots.promises ≡ heard s.promises
  transform-heard t operation s None = refl
  transform-heard t operation s (Some x) =
      transform-does (λ z. heard z ≡ heard s.promises) (record { fresh = λ z h. fresh-heard z ∙ h; settle = λ z p o h. settle-heard p o z ∙ h }) t (halves_at x s) operation (record { slots = x; out = found s }) refl

  tee-heard : (t : TeeId) (operation : TeeOperation) (s : Slots) (o : Option tee.Slots) → heard (on_tee_at (tee_operation t operation) t s o).slots.promises ≡ heard s.promises
  tee-heard t operation s None = refl
  tee-heard t operation s (Some x) =
      tee-does (λ z. heard z ≡ heard s.promises) (record { fresh = λ z h. fresh-heard z ∙ h; micro = λ z m h. micro-heard m z ∙ h }) t operation (record { slots = x; out = found s }) refl

  port-heard : (c : PortId) (operation : PortOperation) (s : Slots) (o : Option cross.Slots) → heard (on_port_at (λ clones. port_operation c clones operation) c s o).slots.promises ≡ heard s.promises
  port-heard c operation s None = refl
  port-heard c operation s (Some x) =
      port-does (λ z. heard z ≡ heard s.promises) (record { fresh = λ z h. fresh-heard z ∙ h; settle = λ z p o h. settle-heard p o z ∙ h; post = λ z d m h. silent-heard (Post d m) z refl ∙ h }) c (clones_at x s) operation (record { slots = x; out = found s }) refl

  settles-heard : (j : StreamId) (t : Table) → OfReadable (λ (x : Out). heard x.promises ≡ heard t) j
  settles-heard j t = record {
    settle = λ x p o h. settle-heard p o x.promises ∙ h;
    pull = λ x h. h;
    cancel = λ x c p h. h;
    chunk = λ x q v h. h;
    close = λ x q h. h;
    error = λ x q e h. h;
  }

  -- any other effect
  pub row-heard : (e : Effect) (s : Slots) → (IsCall e → ⊥) → heard (row e s).slots.promises ≡ heard s.promises
  unfolding row
  row-heard (OnReadable j operation) s n = source-out (λ (x : Out). heard x.promises ≡ heard s.promises) j (settles-heard j s.promises) operation s refl
  row-heard (Byte j operation) s n =
      byte-out (λ (x : Out). heard x.promises ≡ heard s.promises) j (settles-heard j s.promises) (λ x q b h. h) operation s refl
  row-heard (OnWritable j operation) s n =
      either (λ (d : Done). heard d.slots.promises ≡ heard s.promises) (has_writable j s) (put_writable j s (writable_operation j operation (writable_acts j s))) (nothing s)
      (λ there. writable-does (λ (x : Out). heard x.promises ≡ heard s.promises) j (record {
        settle = λ x p o h. settle-heard p o x.promises ∙ h;
        fresh = λ x h. fresh-heard x.promises ∙ h;
        tell = λ x c h. silent-heard (SignalEvent j c) x.promises refl ∙ h;
        write = λ x h. h;
        close = λ x h. h;
        abort = λ x c p h. h;
        hand_on = λ x v h. h;
        take = λ x v t d h. h;
        post = λ x v t d h. h;
      }) operation (writable_acts j s) refl) (λ none. refl)
  row-heard (OnPipe p operation) s n = pipe-heard p operation s (slice_get s.pipes p.0)
  row-heard (OnSignal a operation) s n = signal-heard a operation s (slice_get s.signals a.0)
  row-heard (OnTransform t operation) s n = transform-heard t operation s (slice_get s.transforms t.0)
  row-heard (OnTee t operation) s n = tee-heard t operation s (slice_get s.tees t.0)
  row-heard (OnPort t operation) s n = port-heard t operation s (slice_get s.ports t.0)
  row-heard (StartAlgorithm j step Now) s n = refl
  row-heard (StartAlgorithm j step Later) s n = fresh-heard s.promises
  row-heard (ChunkSteps j (Promise p) v) s n = answer-heard p (Given v) s.promises
  row-heard (CloseSteps j (Promise p)) s n = answer-heard p (Finished (PlainValue Undefined)) s.promises
  row-heard (CloseStepsWith j (Promise p) b) s n = answer-heard p (Finished (Bytes b)) s.promises
  row-heard (ErrorSteps j (Promise p) e) s n = settle-heard p _ s.promises
  row-heard (ChunkSteps j (PipeRequest p) v) s n = refl
  row-heard (ChunkSteps j (TeeRequest k) v) s n = refl
  row-heard (CloseSteps j (PipeRequest p)) s n = refl
  row-heard (CloseSteps j (TeeRequest k)) s n = refl
  row-heard (CloseStepsWith j (PipeRequest p) b) s n = refl
  row-heard (CloseStepsWith j (TeeRequest k) b) s n = refl
  row-heard (ErrorSteps j (PipeRequest p) e) s n = refl
  row-heard (ErrorSteps j (TeeRequest k) e) s n = refl
  row-heard (Queue m) s n = micro-heard m s.promises
  row-heard (Give gift u) s n = gift-heard gift u s.promises
  row-heard (SettlePromise p o) s n = settle-heard p o s.promises
  row-heard (CallHost call u) s n = absurd (n tt)
  row-heard _ s n = refl
