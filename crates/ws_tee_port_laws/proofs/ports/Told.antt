-- Only an operation of a port tells of a post: each other effect leaves what was posted and isn't heard of yet, and so does what a call makes
-- and the taking of a job.
use Rattle.std.proofs.Common.{◌≡◌, ℕ, List, [], ◌∷◌, ◌++◌, length, Option, Some, None, Result, slice_get, refl, sym, ap, ◌∙◌, append-nil, append_assoc, arith}
use Rattle.std.specs.Prelude.{Err}
use Rattle.ws_value.specs.declared.ids.PipeId.{PipeId}
use Rattle.ws_value.specs.declared.ids.PortId.{PortId}
use Rattle.ws_value.specs.declared.ids.PromiseId.{PromiseId}
use Rattle.ws_value.specs.declared.ids.SignalId.{SignalId}
use Rattle.ws_value.specs.declared.ids.StreamId.{StreamId}
use Rattle.ws_value.specs.declared.ids.TeeId.{TeeId}
use Rattle.ws_value.specs.declared.value.Message.{Message}
use Rattle.ws_value.specs.declared.value.Outcome.{Outcome}
use Rattle.ws_value.specs.declared.value.Outcome.TheVariants.{Given, Finished}
use Rattle.ws_value.specs.declared.value.Plain.{Plain}
use Rattle.ws_value.specs.declared.value.Plain.TheVariants.{Undefined}
use Rattle.ws_value.specs.declared.value.Value.TheVariants.{Plain as PlainValue, Bytes}
use Rattle.ws_steps.specs.declared.calls.Call.{Call}
use Rattle.ws_steps.specs.declared.calls.Event.{Event}
use Rattle.ws_steps.specs.declared.calls.Event.TheVariants.{Settled, Host as HostCalled, Signal as Signalled}
use Rattle.ws_steps.specs.declared.calls.HostCall.{HostCall}
use Rattle.ws_steps.specs.declared.calls.StartBy.TheVariants.{Now, Later}
use Rattle.ws_steps.specs.declared.effects.Effect.{Effect}
use Rattle.ws_steps.specs.declared.effects.Effect.TheVariants.{Readable, Byte, Writable, Pipe, Signal, Transform, Tee, Port, StartAlgorithm, ChunkSteps, CloseSteps, CloseStepsWith, ErrorSteps, Give, Settle, Queue, CallHost}
use Rattle.ws_steps.specs.declared.effects.Gift.{Gift}
use Rattle.ws_steps.specs.declared.effects.Gift.TheVariants.{This, Fresh}
use Rattle.ws_steps.specs.declared.effects.Use.{Use}
use Rattle.ws_steps.specs.declared.pipes.PipeOperation.{PipeOperation}
use Rattle.ws_steps.specs.declared.pipes.SignalOperation.{SignalOperation}
use Rattle.ws_steps.specs.declared.promises.Job.{Job}
use Rattle.ws_steps.specs.declared.promises.Micro.{Micro}
use Rattle.ws_steps.specs.declared.promises.Reaction.{Reaction}
use Rattle.ws_steps.specs.declared.readable.ReadRequest.TheVariants.{Promise, Pipe as PipeRequest, Tee as TeeRequest}
use Rattle.ws_steps.specs.declared.tee.TeeOperation.{TeeOperation}
use Rattle.ws_steps.specs.declared.transform.TransformId.{TransformId}
use Rattle.ws_steps.specs.declared.transform.TransformOperation.{TransformOperation}
use Rattle.ws_steps.specs.Begun.{Begun}
use Rattle.ws_steps.specs.Calls.{begin}
use Rattle.ws_steps.specs.Effects.{Out}
use Rattle.ws_steps.specs.Operations.{writable_operation, pipe_operation, signal_operation, transform_operation, tee_operation}
use Rattle.ws_steps.specs.Pipes as pipe
use Rattle.ws_steps.specs.PortHistory.{posted_by, posted_in}
use Rattle.ws_steps.specs.Promises.{Entry, Table, entry_at, is_open, fresh, settle, settle_entry, answer, answer_entry, react, follow, unfollow, taken, after_next_job, queue_micro, tell, noted, watch, went_astray, next_id, fresh_settled, use_this, use_gift}
use Rattle.ws_steps.specs.Slots.{Slots, Done, nothing, has_writable, found, ends_at, halves_at, put_writable, on_pipe_at, on_signal_at, on_transform_at, on_tee_at}
use Rattle.ws_steps.specs.Tee as tee
use Rattle.ws_steps.specs.Transform as transform
use Rattle.ws_steps.specs.Turns.{row, call_host}
use Rattle.ws_laws.proofs.EachCall.{each_call}
use Rattle.ws_laws.proofs.PipeDoes.{pipe-does}
use Rattle.ws_laws.proofs.ReadableDoes.{OfReadable}
use Rattle.ws_laws.proofs.Rows.{source-out, byte-out}
use Rattle.ws_laws.proofs.Apart.{IsNoPort}
use Rattle.ws_laws.proofs.Tables.{either, writable_acts}
use Rattle.ws_laws.proofs.TeeDoes.{tee-does}
use Rattle.ws_laws.proofs.TransformDoes.{transform-does}
use Rattle.ws_laws.proofs.WritableDoes.{writable-does}

module _ (c : PortId) where
  pub posted-append : (xs ys : List Event) → posted_in c (xs ++ ys) ≡ posted_in c xs ++ posted_in c ys
  posted-append [] ys = refl
  posted-append (x ∷ xs) ys =
      ap (λ ms. posted_by c x ++ ms) (posted-append xs ys) ∙ sym (append_assoc (posted_by c x) (posted_in c xs) (posted_in c ys))

-- operations on promises that tell nothing

pub fresh-events : (t : Table) → (fresh t).events ≡ t.events
unfolding fresh
fresh-events t = refl

micro-events : (t : Table) (m : Micro) → (queue_micro m t).events ≡ t.events
unfolding queue_micro
micro-events t m = refl

react-events : (p : PromiseId) (r : Reaction) (t : Table) → (react p r t).events ≡ t.events
unfolding react
react-events p r t = grind arith

follow-events : (p q : PromiseId) (t : Table) → (follow p q t).events ≡ t.events
unfolding follow
follow-events p q t = grind arith

unfollow-events : (p : PromiseId) (t : Table) → (unfollow p t).events ≡ t.events
unfolding unfollow
unfollow-events p t = grind arith

taken-events : (job : Job) (t : Table) → (taken job t).events ≡ t.events
taken-events job t = grind (arith, react-events, unfollow-events)

pub next-events : (t : Table) → (after_next_job t).events ≡ t.events
unfolding after_next_job
next-events t = grind (arith, taken-events)

use-events : (p : PromiseId) (t : Table) (u : Use) → (use_this p t u).events ≡ t.events
use-events p t u = grind (arith, react-events, follow-events)

pub call-events : (call : Call) (s : Slots) → (begin call s).done.slots.promises.events ≡ s.promises.events
call-events call s = each_call (λ (b : Begun). b.done.slots.promises.events ≡ s.promises.events) call s (grind (arith, fresh-events))

-- what port c posted, as far as the host hasn't heard of it
module _ (c : PortId) where
  abbrev pub posted : Table → List Message
  posted t = posted_in c t.events

  same : (t z : Table) → z.events ≡ t.events → posted z ≡ posted t
  same t z e = ap (posted_in c) e

  told : (e : Event) (t : Table) → posted_by c e ≡ [] → posted (tell e t) ≡ posted t
  told e t n = posted-append c t.events (e ∷ []) ∙ (ap (λ ms. posted t ++ (ms ++ [])) n ∙ append-nil (posted t))

  noted-posted : (p : PromiseId) (t : Table) (rank : Option ℕ) → posted (noted p t rank) ≡ posted t
  noted-posted p t None = refl
  noted-posted p t (Some n) = told (Settled p) t refl

  settle_entry-posted : (p : PromiseId) (o : Result Plain Plain) (t : Table) (x : Option Entry) → posted (settle_entry p o t x) ≡ posted t
  settle_entry-posted p o t None = refl
  settle_entry-posted p o t (Some e) = noted-posted p _ e.rank

  pub settle-posted : (p : PromiseId) (o : Result Plain Plain) (t : Table) → posted (settle p o t) ≡ posted t
  unfolding settle
  settle-posted p o t = either (λ z. posted z ≡ posted t) (is_open p t) (settle_entry p o t (entry_at t p)) (went_astray t) (λ e. settle_entry-posted p o t (entry_at t p)) (λ e. refl)

  answer_entry-posted : (p : PromiseId) (o : Outcome) (t : Table) (x : Option Entry) → posted (answer_entry p o t x) ≡ posted t
  answer_entry-posted p o t None = refl
  answer_entry-posted p o t (Some e) = noted-posted p _ e.rank

  answer-posted : (p : PromiseId) (o : Outcome) (t : Table) → posted (answer p o t) ≡ posted t
  unfolding answer
  answer-posted p o t = either (λ z. posted z ≡ posted t) (is_open p t) (answer_entry p o t (entry_at t p)) (went_astray t) (λ e. answer_entry-posted p o t (entry_at t p)) (λ e. refl)

  pub watch-posted : (p : PromiseId) (t : Table) → posted (watch p t) ≡ posted t
  unfolding watch
  watch-posted p t = let h = posted-append c t.events (Settled p ∷ []) in let n = append-nil (posted t) in grind (arith, h, n)

  -- of a table that comes of t, where nothing is posted
  module _ (ms : List Message) where
    abbrev Is : Table → Type 0
    Is t = posted t ≡ ms

    pipe-posted : (p : PipeId) (operation : PipeOperation) (s : Slots) (o : Option pipe.Slots) → Is s.promises
        → Is (on_pipe_at (λ ends. pipe_operation p ends operation) p s o).slots.promises
    pipe-posted p operation s None h = h
    pipe-posted p operation s (Some x) h =
        pipe-does Is (record { fresh = λ t h. same t (fresh t) (fresh-events t) ∙ h; settle = λ t p o h. settle-posted p o t ∙ h; micro = λ t m h. same t (queue_micro m t) (micro-events t m) ∙ h })
        p (ends_at x s) operation (record { slots = x; out = found s }) h

    signal-posted : (a : SignalId) (operation : SignalOperation) (s : Slots) (o : Option pipe.Signal) → Is s.promises
        → Is (on_signal_at (signal_operation operation) a s o).slots.promises
    signal-posted a operation s None h = h
    signal-posted a operation s (Some x) h = h

    transform-posted : (t : TransformId) (operation : TransformOperation) (s : Slots) (o : Option transform.Slots) → Is s.promises
        → Is (on_transform_at (λ halves. transform_operation t halves operation) t s o).slots.promises
    transform-posted t operation s None h = h
    transform-posted t operation s (Some x) h =
        transform-does Is (record { fresh = λ t h. same t (fresh t) (fresh-events t) ∙ h; settle = λ t p o h. settle-posted p o t ∙ h })
        t (halves_at x s) operation (record { slots = x; out = found s }) h

    tee-posted : (t : TeeId) (operation : TeeOperation) (s : Slots) (o : Option tee.Slots) → Is s.promises → Is (on_tee_at (tee_operation t operation) t s o).slots.promises
    tee-posted t operation s None h = h
    tee-posted t operation s (Some x) h =
        tee-does Is (record { fresh = λ t h. same t (fresh t) (fresh-events t) ∙ h; micro = λ t m h. same t (queue_micro m t) (micro-events t m) ∙ h })
        t operation (record { slots = x; out = found s }) h

    settles : (i : StreamId) → OfReadable (λ (x : Out). Is x.promises) i
    settles i = record {
      settle = λ x p o h. settle-posted p o x.promises ∙ h;
      pull = λ x h. h;
      cancel = λ x r p h. h;
      chunk = λ x r v h. h;
      close = λ x r h. h;
      error = λ x r e h. h;
    }

    gift-posted : (gift : Gift) (u : Use) (t : Table) → Is t → Is (use_gift gift u t)
    unfolding use_gift
    gift-posted (This p) u t h = same t (use_this p t u) (use-events p t u) ∙ h
    gift-posted (Fresh o) u t h =
        let z : Table = fresh_settled o t in
        same z (use_this (next_id t) z u) (use-events (next_id t) z u) ∙ (settle-posted (next_id t) o (fresh t) ∙ (same t (fresh t) (fresh-events t) ∙ h))

    host-posted : (call : HostCall) (u : Use) (s : Slots) → Is s.promises → Is (call_host call u s).promises
    unfolding call_host
    host-posted call u s h =
        let t : Table = fresh s.promises in
        let e : Event = HostCalled (record { 0 = length s.hosts }) call in
        same (tell e t) (use_this (next_id s.promises) (tell e t) u) (use-events (next_id s.promises) (tell e t) u) ∙ (told e t refl ∙ (same s.promises t (fresh-events s.promises) ∙ h))

    row-is : (e : Effect) (s : Slots) → IsNoPort e → Is s.promises → Is (row e s).slots.promises
    unfolding row
    row-is (Readable i operation) s n h = source-out (λ (x : Out). Is x.promises) i (settles i) operation s h
    row-is (Byte i operation) s n h = byte-out (λ (x : Out). Is x.promises) i (settles i) (λ x q b h. h) operation s h
    row-is (Writable i operation) s n h =
        either (λ (d : Done). Is d.slots.promises) (has_writable i s) (put_writable i s (writable_operation i operation (writable_acts i s))) (nothing s)
        (λ e. writable-does (λ (x : Out). Is x.promises) i (record {
          settle = λ x p o h. settle-posted p o x.promises ∙ h;
          fresh = λ x h. same x.promises (fresh x.promises) (fresh-events x.promises) ∙ h;
          tell = λ x r h. told (Signalled i r) x.promises refl ∙ h;
          write = λ x h. h;
          close = λ x h. h;
          abort = λ x r p h. h;
          hand_on = λ x v h. h;
          take = λ x v t d h. h;
          post = λ x v p d h. h;
        }) operation (writable_acts i s) h) (λ e. h)
    row-is (Pipe p operation) s n h = pipe-posted p operation s (slice_get s.pipes p.0) h
    row-is (Signal a operation) s n h = signal-posted a operation s (slice_get s.signals a.0) h
    row-is (Transform t operation) s n h = transform-posted t operation s (slice_get s.transforms t.0) h
    row-is (Tee t operation) s n h = tee-posted t operation s (slice_get s.tees t.0) h
    row-is (Port d operation) s n h = absurd n
    row-is (StartAlgorithm i step Now) s n h = h
    row-is (StartAlgorithm i step Later) s n h = same s.promises (fresh s.promises) (fresh-events s.promises) ∙ h
    row-is (ChunkSteps i (Promise p) v) s n h = answer-posted p (Given v) s.promises ∙ h
    row-is (CloseSteps i (Promise p)) s n h = answer-posted p (Finished (PlainValue Undefined)) s.promises ∙ h
    row-is (CloseStepsWith i (Promise p) b) s n h = answer-posted p (Finished (Bytes b)) s.promises ∙ h
    row-is (ErrorSteps i (Promise p) e) s n h = settle-posted p (Err e) s.promises ∙ h
    row-is (ChunkSteps i (PipeRequest p) v) s n h = h
    row-is (ChunkSteps i (TeeRequest t) v) s n h = h
    row-is (CloseSteps i (PipeRequest p)) s n h = h
    row-is (CloseSteps i (TeeRequest t)) s n h = h
    row-is (CloseStepsWith i (PipeRequest p) b) s n h = h
    row-is (CloseStepsWith i (TeeRequest t) b) s n h = h
    row-is (ErrorSteps i (PipeRequest p) e) s n h = h
    row-is (ErrorSteps i (TeeRequest t) e) s n h = h
    row-is (Give gift u) s n h = gift-posted gift u s.promises h
    row-is (Settle p o) s n h = settle-posted p o s.promises ∙ h
    row-is (Queue m) s n h = same s.promises (queue_micro m s.promises) (micro-events s.promises m) ∙ h
    row-is (CallHost call u) s n h = host-posted call u s h
    row-is _ s n h = h

  -- an effect that is no operation of a port leaves what was posted
  pub row-posted : (e : Effect) (s : Slots) → IsNoPort e → posted (row e s).slots.promises ≡ posted s.promises
  row-posted e s n = row-is (posted s.promises) e s n refl
