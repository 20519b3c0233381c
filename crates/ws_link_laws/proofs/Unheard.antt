-- What the host hasn't heard of a destination: only the calls of its algorithms add to it.
use Rattle.std.proofs.Common.{◌≡◌, List, [], ◌∷◌, ◌++◌, Option, Some, None, Result, Err, refl, sym, ◌∙◌, slice_get, arith}
use Rattle.ws_value.specs.declared.ids.PipeId.{PipeId}
use Rattle.ws_value.specs.declared.ids.PromiseId.{PromiseId}
use Rattle.ws_value.specs.declared.ids.SignalId.{SignalId}
use Rattle.ws_value.specs.declared.ids.StreamId.{StreamId}
use Rattle.ws_value.specs.declared.value.Outcome.{Outcome}
use Rattle.ws_value.specs.declared.value.Outcome.TheVariants.{Given, Finished}
use Rattle.ws_value.specs.declared.value.Plain.{Plain}
use Rattle.ws_value.specs.declared.value.Plain.TheVariants.{Undefined}
use Rattle.ws_value.specs.declared.value.Value.TheVariants.{Plain as PlainValue, Bytes}
use Rattle.ws_steps.specs.declared.calls.Event.{Event}
use Rattle.ws_steps.specs.declared.calls.Event.TheVariants.{Host as HostCalled, Settled, Signal as Signalled}
use Rattle.ws_steps.specs.declared.calls.HostCall.{HostCall}
use Rattle.ws_steps.specs.declared.calls.StartBy.TheVariants.{Now, Later}
use Rattle.ws_steps.specs.declared.effects.Effect.{Effect}
use Rattle.ws_steps.specs.declared.effects.Effect.TheVariants.{Readable, Byte, Writable, Pipe, Signal, Transform, Tee, Port, StartAlgorithm, ChunkSteps, CloseSteps, CloseStepsWith, ErrorSteps, Give, Settle, Queue, CallHost}
use Rattle.ws_steps.specs.declared.effects.Gift.{Gift}
use Rattle.ws_steps.specs.declared.effects.Gift.TheVariants.{This, Fresh}
use Rattle.ws_steps.specs.declared.effects.Use.{Use}
use Rattle.ws_steps.specs.declared.effects.Use.TheVariants.{React, Resolve}
use Rattle.ws_steps.specs.declared.pipes.PipeOperation.{PipeOperation}
use Rattle.ws_steps.specs.declared.pipes.SignalOperation.{SignalOperation}
use Rattle.ws_steps.specs.declared.promises.Job.{Job}
use Rattle.ws_steps.specs.declared.promises.Micro.{Micro}
use Rattle.ws_steps.specs.declared.promises.Reaction.{Reaction}
use Rattle.ws_steps.specs.declared.promises.Reaction.TheVariants.{Perform}
use Rattle.ws_steps.specs.declared.readable.ReadRequest.TheVariants.{Promise, Pipe as PipeRequest, Tee as TeeRequest}
use Rattle.ws_steps.specs.declared.transform.TransformId.{TransformId}
use Rattle.ws_steps.specs.declared.transform.TransformOperation.{TransformOperation}
use Rattle.ws_steps.specs.Effects.{Out}
use Rattle.ws_steps.specs.Operations.{writable_operation, pipe_operation, signal_operation, transform_operation, tee_operation, port_operation}
use Rattle.ws_steps.specs.Pipes as pipe
use Rattle.ws_steps.specs.Promises.{Table, fresh, settle, answer, react, follow, unfollow, queue_micro, tell, next_id, fresh_settled, use_this, use_gift, watch, taken, after_first, after_next_job}
use Rattle.ws_steps.specs.Slots.{Slots, Done, nothing, has_writable, found, ends_at, halves_at, put_writable, on_pipe_at, on_signal_at, on_transform_at, on_tee_at, on_port_at, clones_at}
use Rattle.ws_steps.specs.Transform as transform
use Rattle.ws_steps.specs.Turns.{row, call_host}
use Rattle.ws_flow.specs.Told.{then_told}
use Rattle.ws_flow.proofs.Told.{then_assoc, then_empty}
use Rattle.ws_laws.proofs.PipeDoes.{pipe-does}
use Rattle.ws_laws.proofs.ReadableDoes.{OfReadable}
use Rattle.ws_laws.proofs.Rows.{byte-out, source-out}
use Rattle.ws_laws.proofs.Tables.{either, writable_acts}
use Rattle.ws_laws.proofs.TransformDoes.{transform-does}
use Rattle.ws_laws.proofs.WritableDoes.{writable-does}
use Rattle.ws_link_laws.specs.Link.{Ear, is_port, silence, heard_of, heard_call, unheard}
use Rattle.ws_value.specs.declared.ids.TeeId.{TeeId}
use Rattle.ws_value.specs.declared.ids.PortId.{PortId}
use Rattle.ws_steps.specs.declared.tee.TeeOperation.{TeeOperation}
use Rattle.ws_steps.specs.declared.port.PortOperation.{PortOperation}
use Rattle.ws_steps.specs.Tee as tee
use Rattle.ws_steps.specs.Cross as cross
use Rattle.ws_laws.proofs.TeeDoes.{tee-does}
use Rattle.ws_link_laws.proofs.Posts.{Allowed, this-does}
use Rattle.std.proofs.Common.{false}
use Rattle.ws_steps.specs.declared.calls.Event.TheVariants.{Post}

module _ (w : Ear) where
  pub unheard-append : (xs ys : List Event) → unheard w (xs ++ ys) ≡ then_told (unheard w xs) (unheard w ys)
  unheard-append [] ys = refl
  unheard-append (x ∷ xs) ys = rw (unheard-append xs ys) (sym (then_assoc (heard_of w x) (unheard w xs) (unheard w ys)))

  pub unheard-last : (xs : List Event) (e : Event) → unheard w (xs ++ e ∷ []) ≡ then_told (unheard w xs) (heard_of w e)
  unheard-last xs e = rw (unheard-append xs (e ∷ []), then_empty (heard_of w e)) refl

  unheard-quiet : (xs : List Event) (e : Event) → heard_of w e ≡ silence → unheard w (xs ++ e ∷ []) ≡ unheard w xs
  unheard-quiet xs e n = rw (unheard-last xs e, n) (then_empty (unheard w xs))

  settled-quiet : (xs : List Event) (p : PromiseId) → unheard w (xs ++ Settled p ∷ []) ≡ unheard w xs
  settled-quiet xs p = unheard-quiet xs (Settled p) refl

  -- each change of promises

  abbrev pub Alike : Table → Table → Type 0
  Alike t z = unheard w z.events ≡ unheard w t.events

  pub fresh-unheard : (t : Table) → Alike t (fresh t)
  unfolding fresh
  fresh-unheard t = refl

  pub settle-unheard : (p : PromiseId) (o : Result Plain Plain) (t : Table) → Alike t (settle p o t)
  unfolding settle
  settle-unheard p o t = grind (arith, settled-quiet)

  answer-unheard : (p : PromiseId) (o : Outcome) (t : Table) → Alike t (answer p o t)
  unfolding answer
  answer-unheard p o t = grind (arith, settled-quiet)

  react-unheard : (p : PromiseId) (r : Reaction) (t : Table) → Alike t (react p r t)
  unfolding react
  react-unheard p r t = grind arith

  follow-unheard : (p q : PromiseId) (t : Table) → Alike t (follow p q t)
  unfolding follow
  follow-unheard p q t = grind arith

  unfollow-unheard : (p : PromiseId) (t : Table) → Alike t (unfollow p t)
  unfolding unfollow
  unfollow-unheard p t = grind arith

  micro-unheard : (m : Micro) (t : Table) → Alike t (queue_micro m t)
  unfolding queue_micro
  micro-unheard m t = refl

  pub watch-unheard : (p : PromiseId) (t : Table) → Alike t (watch p t)
  unfolding watch
  watch-unheard p t = grind (arith, settled-quiet)

  -- the taking of a job

  taken-unheard : (job : Job) (t : Table) → Alike t (taken job t)
  taken-unheard job t = grind (arith, react-unheard, unfollow-unheard)

  first-unheard : (t : Table) (jobs : List Job) → Alike t (after_first t jobs)
  first-unheard t [] = refl
  first-unheard t (job ∷ jobs) = taken-unheard job (record t { jobs = jobs })

  pub next-unheard : (t : Table) → Alike t (after_next_job t)
  unfolding after_next_job
  next-unheard t = first-unheard t t.jobs

  -- the use of a promise

  use-unheard : (p : PromiseId) (t : Table) (u : Use) → Alike t (use_this p t u)
  use-unheard p t (React step derived) = react-unheard p (Perform step derived) t
  use-unheard p t (Resolve q) = follow-unheard q p t

  gift-unheard : (gift : Gift) (u : Use) (t : Table) → Alike t (use_gift gift u t)
  unfolding use_gift
  gift-unheard (This p) u t = use-unheard p t u
  gift-unheard (Fresh o) u t = use-unheard (next_id t) (fresh_settled o t) u ∙ (settle-unheard (next_id t) o (fresh t) ∙ fresh-unheard t)

  -- each effect but a call of the host

  abbrev pub IsQuiet : Effect → Type 0
  IsQuiet (CallHost call u) = ⊥
  IsQuiet (Port c operation) = is_port w c ≡ false
  IsQuiet _ = Unit {0}

  pipe-unheard : (p : PipeId) (operation : PipeOperation) (s : Slots) (o : Option pipe.Slots) → Alike s.promises (on_pipe_at (λ ends. pipe_operation p ends operation) p s o).slots.promises
  pipe-unheard p operation s None = refl
  pipe-unheard p operation s (Some x) =
      pipe-does (λ z. Alike s.promises z) (record {
        fresh = λ t h. fresh-unheard t ∙ h;
        settle = λ t q o h. settle-unheard q o t ∙ h;
        micro = λ t m h. micro-unheard m t ∙ h;
      }) p (ends_at x s) operation (record { slots = x; out = found s }) refl

  signal-unheard : (a : SignalId) (operation : SignalOperation) (s : Slots) (o : Option pipe.Signal) → Alike s.promises (on_signal_at (signal_operation operation) a s o).slots.promises
  signal-unheard a operation s None = refl
  signal-unheard a operation s (Some x) = refl

  transform-unheard : (t : TransformId) (operation : TransformOperation) (s : Slots) (o : Option transform.Slots)
      → Alike s.promises (on_transform_at (λ halves. transform_operation t halves operation) t s o).slots.promises
  transform-unheard t operation s None = refl
  transform-unheard t operation s (Some x) =
      transform-does (λ z. Alike s.promises z) (record {
        fresh = λ u h. fresh-unheard u ∙ h;
        settle = λ u q o h. settle-unheard q o u ∙ h;
      }) t (halves_at x s) operation (record { slots = x; out = found s }) refl

  tee-unheard : (t : TeeId) (operation : TeeOperation) (s : Slots) (o : Option tee.Slots) → Alike s.promises (on_tee_at (tee_operation t operation) t s o).slots.promises
  tee-unheard t operation s None = refl
  tee-unheard t operation s (Some x) =
      tee-does (λ z. Alike s.promises z) (record {
        fresh = λ u h. fresh-unheard u ∙ h;
        micro = λ u m h. micro-unheard m u ∙ h;
      }) t operation (record { slots = x; out = found s }) refl

  -- posts of another port, and posts that tell nothing

  every : (c : PortId) (operation : PortOperation) → is_port w c ≡ false → Allowed (λ m. heard_of w (Post c m) ≡ silence) operation
  every c operation n = grind (arith, n)

  pub posts-unheard : (c : PortId) (operation : PortOperation) (s : Slots) (o : Option cross.Slots) → Allowed (λ m. heard_of w (Post c m) ≡ silence) operation
      → Alike s.promises (on_port_at (λ clones. port_operation c clones operation) c s o).slots.promises
  posts-unheard c operation s None k = refl
  posts-unheard c operation s (Some x) k =
      this-does (λ z. Alike s.promises z) (λ m. heard_of w (Post c m) ≡ silence) c (record {
        fresh = λ u h. fresh-unheard u ∙ h;
        settle = λ u q o h. settle-unheard q o u ∙ h;
        post = λ u m l h. unheard-quiet u.events (Post c m) l ∙ h;
      }) (clones_at x s) operation (record { slots = x; out = found s }) k refl

  port-unheard : (c : PortId) (operation : PortOperation) (s : Slots) (o : Option cross.Slots) → is_port w c ≡ false → Alike s.promises (on_port_at (λ clones. port_operation c clones operation) c s o).slots.promises
  port-unheard c operation s o n = posts-unheard c operation s o (every c operation n)

  signalled-quiet : (xs : List Event) (i : StreamId) (r : Plain) → unheard w (xs ++ Signalled i r ∷ []) ≡ unheard w xs
  signalled-quiet xs i r = unheard-quiet xs (Signalled i r) refl

  of-readable : (s : Slots) (i : StreamId) → OfReadable (λ (x : Out). Alike s.promises x.promises) i
  of-readable s i = record {
    settle = λ x p o h. settle-unheard p o x.promises ∙ h;
    pull = λ x h. h;
    cancel = λ x r p h. h;
    chunk = λ x r v h. h;
    close = λ x r h. h;
    error = λ x r e h. h;
  }

  pub row-unheard : (e : Effect) (s : Slots) → IsQuiet e → Alike s.promises (row e s).slots.promises
  unfolding row
  row-unheard (Readable i operation) s n = source-out (λ (x : Out). Alike s.promises x.promises) i (of-readable s i) operation s refl
  row-unheard (Byte i operation) s n = byte-out (λ (x : Out). Alike s.promises x.promises) i (of-readable s i) (λ x q b h. h) operation s refl
  row-unheard (Writable i operation) s n =
      either (λ (d : Done). Alike s.promises d.slots.promises) (has_writable i s) (put_writable i s (writable_operation i operation (writable_acts i s))) (nothing s)
      (λ e. writable-does (λ (x : Out). Alike s.promises x.promises) i (record {
        settle = λ x p o h. settle-unheard p o x.promises ∙ h;
        fresh = λ x h. fresh-unheard x.promises ∙ h;
        tell = λ x r h. signalled-quiet x.promises.events i r ∙ h;
        write = λ x h. h;
        close = λ x h. h;
        abort = λ x r p h. h;
        hand_on = λ x v h. h;
        take = λ x v t d h. h;
        post = λ x v t d h. h;
      }) operation (writable_acts i s) refl) (λ e. refl)
  row-unheard (Pipe p operation) s n = pipe-unheard p operation s (slice_get s.pipes p.0)
  row-unheard (Signal a operation) s n = signal-unheard a operation s (slice_get s.signals a.0)
  row-unheard (Transform t operation) s n = transform-unheard t operation s (slice_get s.transforms t.0)
  row-unheard (Tee t operation) s n = tee-unheard t operation s (slice_get s.tees t.0)
  row-unheard (Port t operation) s n = port-unheard t operation s (slice_get s.ports t.0) n
  row-unheard (StartAlgorithm i step Now) s n = refl
  row-unheard (StartAlgorithm i step Later) s n = fresh-unheard s.promises
  row-unheard (ChunkSteps i (Promise p) v) s n = answer-unheard p (Given v) s.promises
  row-unheard (CloseSteps i (Promise p)) s n = answer-unheard p (Finished (PlainValue Undefined)) s.promises
  row-unheard (CloseStepsWith i (Promise p) b) s n = answer-unheard p (Finished (Bytes b)) s.promises
  row-unheard (ErrorSteps i (Promise p) e) s n = settle-unheard p (Err e) s.promises
  row-unheard (ChunkSteps i (PipeRequest p) v) s n = refl
  row-unheard (ChunkSteps i (TeeRequest k) v) s n = refl
  row-unheard (CloseSteps i (PipeRequest p)) s n = refl
  row-unheard (CloseSteps i (TeeRequest k)) s n = refl
  row-unheard (CloseStepsWith i (PipeRequest p) b) s n = refl
  row-unheard (CloseStepsWith i (TeeRequest k) b) s n = refl
  row-unheard (ErrorSteps i (PipeRequest p) e) s n = refl
  row-unheard (ErrorSteps i (TeeRequest k) e) s n = refl
  row-unheard (Queue m) s n = micro-unheard m s.promises
  row-unheard (Give gift u) s n = gift-unheard gift u s.promises
  row-unheard (Settle p o) s n = settle-unheard p o s.promises
  row-unheard (CallHost call u) s n = absurd n
  row-unheard _ s n = refl

  -- and a call of the host is heard of

  pub call-unheard : (call : HostCall) (u : Use) (s : Slots) → unheard w (call_host call u s).promises.events ≡ then_told (unheard w s.promises.events) (heard_call w call)
  unfolding call_host
  call-unheard call u s =
      let a = use-unheard (next_id s.promises) (tell (HostCalled _ call) (fresh s.promises)) u in
      let b = unheard-last (fresh s.promises).events (HostCalled _ call) in
      a ∙ (b ∙ (rw (fresh-unheard s.promises) refl))
