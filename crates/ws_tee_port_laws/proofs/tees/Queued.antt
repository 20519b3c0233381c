-- The microtask of a tee's chunk is queued where the tee keeps a chunk, and nowhere else: what goes on with all other changes of promises goes
-- on with each other effect.
use Rattle.std.proofs.Common.{◌≡◌, Bool, true, false, not, ◌&&◌, nat_eq, [], ◌∷◌, Option, Some, None, Result, Ok, Err, refl, slice_get, arith}
use Rattle.ws_steps.specs.declared.effects.Effect.TheVariants.{Port}
use Rattle.ws_value.specs.declared.ids.{PipeId.{PipeId}, PromiseId.{PromiseId}, SignalId.{SignalId}, StreamId.{StreamId}, TeeId.{TeeId}}
use Rattle.ws_value.specs.declared.value.{Outcome.{Outcome}, Outcome.TheVariants.{Given, Finished}, Plain.{Plain}, Plain.TheVariants.{Undefined, Pair}, Value.{Value}, Value.TheVariants.{Plain as PlainValue, Bytes}}
use Rattle.ws_steps.specs.declared.calls.{Event.{Event}, Event.TheVariants.{Signal as Signalled}, HostCall.{HostCall}, StartBy.TheVariants.{Now, Later}}
use Rattle.ws_steps.specs.declared.effects.{Effect.{Effect}, Gift.{Gift}, Gift.TheVariants.{This, Fresh}, Use.{Use}, Use.TheVariants.{React, Resolve}}
use Rattle.ws_steps.specs.declared.effects.Effect.TheVariants.{Readable, Byte, Writable, Pipe, Signal, Transform, Tee, StartAlgorithm, ChunkSteps, CloseSteps, CloseStepsWith, ErrorSteps, Give, Settle, Queue, CallHost}
use Rattle.ws_steps.specs.declared.pipes.{Action.{Action}, Ends.{Ends}, Phase.{Phase}, PipeOperation.{PipeOperation}, SignalOperation.{SignalOperation}}
use Rattle.ws_steps.specs.declared.pipes.PipeOperation.TheVariants as names
use Rattle.ws_steps.specs.declared.promises.{Micro.{Micro}, Micro.TheVariants.{PipeLook, PipeWrite, TeeHand}, Reaction.{Reaction}, Reaction.TheVariants.{Perform}}
use Rattle.ws_steps.specs.declared.readable.{ReadRequest.TheVariants.{Promise, Pipe as PipeRequest, Tee as TeeRequest}, ReadableOperation.TheVariants.{Cancel, Close, Error}}
use Rattle.ws_steps.specs.declared.tee.{Half.{Half}, TeeOperation.{TeeOperation}, TeePhase.{TeePhase}, TeePhase.TheVariants.{Resting, Reading, Over}}
use Rattle.ws_steps.specs.declared.tee.TeeOperation.TheVariants as tees
use Rattle.ws_steps.specs.declared.transform.{TransformId.{TransformId}, TransformOperation.{TransformOperation}}
use Rattle.ws_steps.specs.Effects.{Out}
use Rattle.ws_steps.specs.Operations.{writable_operation, pipe_operation, signal_operation, transform_operation, tee_operation, port_operation}
use Rattle.ws_steps.specs.Pipes as pipe
use Rattle.ws_steps.specs.Pipes.{Acts, finalize, act_by_signal, act_by, act, proceed, shutdown, look_by, look, look_ready, go_on_in, go_on, keep_chunk, read_ended, write_held, write_chunk, write_ended, action_settled, part_settled, no_parts, abort}
use Rattle.ws_steps.specs.Promises.{Table, fresh, settle, answer, react, follow, queue_micro, tell, next_id, use_this, use_gift, fresh_settled}
use Rattle.ws_steps.specs.Slots.{Slots, Done, nothing, has_writable, found, ends_at, halves_at, put_writable, on_pipe_at, on_signal_at, on_transform_at, on_tee_at, on_port_at, clones_at}
use Rattle.ws_steps.specs.Tee as tee
use Rattle.ws_steps.specs.Transform as transform
use Rattle.ws_steps.specs.Turns.{row, call_host}
use Rattle.ws_laws.proofs.ReadableDoes.{OfReadable}
use Rattle.ws_laws.proofs.Rows.{source-out, byte-out}
use Rattle.ws_laws.proofs.Tables.{either, writable_acts}
use Rattle.ws_laws.proofs.TransformDoes.{transform-does}
use Rattle.ws_laws.proofs.WritableDoes.{writable-does}
use Rattle.ws_value.specs.declared.ids.PortId.{PortId}
use Rattle.ws_steps.specs.declared.calls.Event.TheVariants.{Post}
use Rattle.ws_steps.specs.declared.port.PortOperation.{PortOperation}
use Rattle.ws_steps.specs.Cross as cross
use Rattle.ws_laws.proofs.PortDoes.{port-does}

module _ (t : TeeId) where
  -- the microtask of the tee's chunk
  abbrev pub is_hand : Micro → Bool
  is_hand (TeeHand u) = nat_eq t.0 u.0
  is_hand _ = false

  -- what goes on with each change of promises but for that
  pub record Quietly (T : Table → Type 0) : Type 0 where
    pub fresh : (x : Table) → T x → T (fresh x)
    pub settle : (x : Table) (p : PromiseId) (o : Result Plain Plain) → T x → T (settle p o x)
    pub answer : (x : Table) (p : PromiseId) (o : Outcome) → T x → T (answer p o x)
    pub react : (x : Table) (p : PromiseId) (r : Reaction) → T x → T (react p r x)
    pub follow : (x : Table) (p q : PromiseId) → T x → T (follow p q x)
    pub micro : (x : Table) (m : Micro) → is_hand m ≡ false → T x → T (queue_micro m x)
    pub tell : (x : Table) (e : Event) → T x → T (tell e x)

  -- such a microtask isn't queued
  abbrev pub IsQuiet : Effect → Type 0
  IsQuiet (Tee u (tees.KeepChunk v)) = nat_eq t.0 u.0 ≡ false
  IsQuiet (Queue m) = is_hand m ≡ false
  IsQuiet _ = Unit {0}

  module _ (T : Table → Type 0) (of : Quietly T) where
    -- pipes

    module _ (me : PipeId) where
      abbrev Does : Acts → Acts → Type 0
      Does a b = T a.out.promises → T b.out.promises

      signal-does : (r : Plain) (a : Acts) → Does a (act_by_signal me r a)
      unfolding act_by_signal
      signal-does r a = grind (arith, of.fresh)

      act_by-does : (ends : Ends) (a : Acts) (action : Option Action) → Does a (act_by me ends a action)
      unfolding finalize
      act_by-does ends a action = grind (arith, of.fresh, signal-does)

      act-does : (ends : Ends) (a : Acts) → Does a (act me ends a)
      unfolding act
      act-does ends a = grind (arith, act_by-does)

      shutdown-does : (ends : Ends) (action : Option Action) (error : Option Plain) (a : Acts) → Does a (shutdown me ends action error a)
      unfolding shutdown proceed
      shutdown-does ends action error a = grind (arith, act-does)

      look-does : (ends : Ends) (a : Acts) → Does a (look me ends a)
      unfolding look
      look-does ends a = grind (arith, shutdown-does)

      go_on-does : (ends : Ends) (a : Acts) (phase : Phase) → Does a (go_on_in me ends a phase)
      unfolding proceed
      go_on-does ends a phase = grind (arith, look-does, act-does)

      write-does : (a : Acts) (held : Option Value) → Does a (write_held me a held)
      write-does a held = grind (arith, of.fresh)

      pipe-does : (ends : Ends) (operation : PipeOperation) (a : Acts) → Does a (pipe_operation me ends operation a)
      unfolding look_ready go_on keep_chunk read_ended write_chunk write_ended action_settled part_settled no_parts abort finalize
      pipe-does ends names.Look a = look-does ends a
      pipe-does ends names.LookReady a = grind (arith, look-does)
      pipe-does ends (names.KeepChunk v) a = λ h. of.micro a.out.promises (PipeWrite me) refl h
      pipe-does ends names.ReadEnded a = λ h. of.micro a.out.promises (PipeLook me) refl h
      pipe-does ends names.WriteChunk a = write-does a a.slots.held
      pipe-does ends names.GoOn a = go_on-does ends a a.slots.phase
      pipe-does ends names.WriteEnded a = grind (arith, go_on-does)
      pipe-does ends (names.Abort r) a = shutdown-does ends _ _ a
      pipe-does ends (names.ActionSettled outcome) a = grind arith
      pipe-does ends (names.PartSettled outcome) a = grind (arith, of.settle)
      pipe-does ends names.NoParts a = grind (arith, of.settle)

    -- tees

    abbrev Leads : tee.Acts → tee.Acts → Type 0
    Leads a b = T a.out.promises → T b.out.promises

    fulfil-does : (a : tee.Acts) → Leads a (tee.fulfil_cancel a)
    fulfil-does a h = either (λ (z : tee.Acts). T z.out.promises) (tee.is_wanted a.slots && not a.slots.answered) _ a (λ e. h) (λ e. h)

    pull-does : (me : TeeId) (a : tee.Acts) (phase : TeePhase) → Leads a (tee.pull_in me a phase)
    pull-does me a Resting h = h
    pull-does me a Reading h = h
    pull-does me a Over h = h

    close-does : (a : tee.Acts) (phase : TeePhase) → Leads a (tee.close_in a phase)
    close-does a Resting h = fulfil-does (tee.causing (tee.on_branches Close a.slots) (tee.with_slots (record a.slots { phase = Over }) a)) h
    close-does a Reading h = fulfil-does (tee.causing (tee.on_branches Close a.slots) (tee.with_slots (record a.slots { phase = Over }) a)) h
    close-does a Over h = h

    hand-does : (me : TeeId) (a : tee.Acts) (held : Option Value) → Leads a (tee.hand_held me a held)
    hand-does me a None h = h
    hand-does me a (Some v) h = h

    again-does : (me : TeeId) (a : tee.Acts) (asked : Bool) → Leads a (tee.again me a asked)
    unfolding tee.pull_branch
    again-does me a true h = pull-does me a a.slots.phase h
    again-does me a false h = h

    source-does : (me : TeeId) (a : tee.Acts) → Leads a (tee.cancel_source me a)
    source-does me a h =
        let p : PromiseId = next_id a.out.promises in
        let b : tee.Acts = record a { out = record a.out { promises = fresh a.out.promises } } in
        let c : tee.Acts = tee.causing (Readable b.slots.source (Cancel (Pair me) p) ∷ []) b in
        either (λ (z : tee.Acts). T z.out.promises) c.slots.answered c (tee.causing (Give (This p) (Resolve c.slots.cancel) ∷ []) (tee.with_slots (record c.slots { answered = true }) c))
        (λ e. of.fresh a.out.promises h) (λ e. of.fresh a.out.promises h)

    cancel-does : (me : TeeId) (half : Half) (r : Plain) (a : tee.Acts) (reason : Option Plain) → Leads a (tee.cancel_by me half r a reason)
    cancel-does me half r a (Some old) h = h
    cancel-does me half r a None h =
        let b : tee.Acts = tee.with_slots (tee.with_reason half r a.slots) a in
        either (λ (z : tee.Acts). T z.out.promises) (tee.is_wanted b.slots) b (tee.cancel_source me b) (λ e. h) (λ e. source-does me b h)

    pub tee-does : (me : TeeId) (operation : TeeOperation) (a : tee.Acts) → IsQuiet (Tee me operation) → Leads a (tee_operation me operation a)
    unfolding tee.pull_branch tee.keep_chunk tee.source_closed tee.source_errored tee.hand_chunk tee.handed tee.cancel_branch tee.reader_settled
    tee-does me tees.PullBranch a n h = pull-does me a a.slots.phase h
    tee-does me (tees.KeepChunk v) a n h = of.micro a.out.promises (TeeHand me) n h
    tee-does me tees.SourceClosed a n h = close-does a a.slots.phase h
    tee-does me tees.SourceErrored a n h = h
    tee-does me tees.HandChunk a n h = hand-does me a a.slots.held h
    tee-does me tees.Handed a n h = again-does me (tee.with_slots (record a.slots { phase = tee.rested a.slots.phase }) a) a.slots.read_again h
    tee-does me (tees.CancelBranch half r u) a n h = cancel-does me half r a (tee.reason_of half a.slots) h
    tee-does me (tees.ReaderSettled (Ok v)) a n h = h
    tee-does me (tees.ReaderSettled (Err r)) a n h =
        fulfil-does (tee.causing (Readable a.slots.branch1 (Error r) ∷ Readable a.slots.branch2 (Error r) ∷ []) a) h

    -- each effect

    piped : (p : PipeId) (operation : PipeOperation) (s : Slots) (o : Option pipe.Slots) → T s.promises → T (on_pipe_at (λ ends. pipe_operation p ends operation) p s o).slots.promises
    piped p operation s None h = h
    piped p operation s (Some x) h = pipe-does p (ends_at x s) operation (record { slots = x; out = found s }) h

    signalled : (a : SignalId) (operation : SignalOperation) (s : Slots) (o : Option pipe.Signal) → T s.promises → T (on_signal_at (signal_operation operation) a s o).slots.promises
    signalled a operation s None h = h
    signalled a operation s (Some x) h = h

    transformed : (u : TransformId) (operation : TransformOperation) (s : Slots) (o : Option transform.Slots) → T s.promises
        → T (on_transform_at (λ halves. transform_operation u halves operation) u s o).slots.promises
    transformed u operation s None h = h
    transformed u operation s (Some x) h =
        transform-does T (record { fresh = of.fresh; settle = of.settle }) u (halves_at x s) operation (record { slots = x; out = found s }) h

    teed : (u : TeeId) (operation : TeeOperation) (s : Slots) (o : Option tee.Slots) → IsQuiet (Tee u operation) → T s.promises → T (on_tee_at (tee_operation u operation) u s o).slots.promises
    teed u operation s None n h = h
    teed u operation s (Some x) n h = tee-does u operation (record { slots = x; out = found s }) n h

    ported : (c : PortId) (operation : PortOperation) (s : Slots) (o : Option cross.Slots) → T s.promises
        → T (on_port_at (λ clones. port_operation c clones operation) c s o).slots.promises
    ported c operation s None h = h
    ported c operation s (Some x) h =
        port-does T (record { fresh = of.fresh; settle = of.settle; post = λ z d m k. of.tell z (Post d m) k }) c (clones_at x s) operation (record { slots = x; out = found s }) h

    settles : (i : StreamId) → OfReadable (λ (x : Out). T x.promises) i
    settles i = record {
      settle = λ x p o h. of.settle x.promises p o h;
      pull = λ x h. h;
      cancel = λ x r p h. h;
      chunk = λ x r v h. h;
      close = λ x r h. h;
      error = λ x r e h. h;
    }

    used : (p : PromiseId) (u : Use) (x : Table) → T x → T (use_this p x u)
    used p (React step derived) x h = of.react x p (Perform step derived) h
    used p (Resolve q) x h = of.follow x q p h

    given : (gift : Gift) (u : Use) (x : Table) → T x → T (use_gift gift u x)
    unfolding use_gift
    given (This p) u x h = used p u x h
    given (Fresh o) u x h = used (next_id x) u (fresh_settled o x) (of.settle (fresh x) (next_id x) o (of.fresh x h))

    called : (call : HostCall) (u : Use) (s : Slots) → T s.promises → T (call_host call u s).promises
    unfolding call_host
    called call u s h = used (next_id s.promises) u _ (of.tell (fresh s.promises) _ (of.fresh s.promises h))

    pub row-quietly : (e : Effect) (s : Slots) → IsQuiet e → T s.promises → T (row e s).slots.promises
    unfolding row
    row-quietly (Readable i operation) s n h = source-out (λ (x : Out). T x.promises) i (settles i) operation s h
    row-quietly (Byte i operation) s n h = byte-out (λ (x : Out). T x.promises) i (settles i) (λ x q b h. h) operation s h
    row-quietly (Writable i operation) s n h =
        either (λ (d : Done). T d.slots.promises) (has_writable i s) (put_writable i s (writable_operation i operation (writable_acts i s))) (nothing s)
        (λ e. writable-does (λ (x : Out). T x.promises) i (record {
          settle = λ x p o h. of.settle x.promises p o h;
          fresh = λ x h. of.fresh x.promises h;
          tell = λ x r h. of.tell x.promises (Signalled i r) h;
          write = λ x h. h;
          close = λ x h. h;
          abort = λ x r p h. h;
          hand_on = λ x v h. h;
          take = λ x v t d h. h;
          post = λ x v c d h. h;
        }) operation (writable_acts i s) h) (λ e. h)
    row-quietly (Pipe p operation) s n h = piped p operation s (slice_get s.pipes p.0) h
    row-quietly (Signal a operation) s n h = signalled a operation s (slice_get s.signals a.0) h
    row-quietly (Transform u operation) s n h = transformed u operation s (slice_get s.transforms u.0) h
    row-quietly (Tee u operation) s n h = teed u operation s (slice_get s.tees u.0) n h
    row-quietly (Port c operation) s n h = ported c operation s (slice_get s.ports c.0) h
    row-quietly (StartAlgorithm i step Now) s n h = h
    row-quietly (StartAlgorithm i step Later) s n h = of.fresh s.promises h
    row-quietly (ChunkSteps i (Promise p) v) s n h = of.answer s.promises p (Given v) h
    row-quietly (CloseSteps i (Promise p)) s n h = of.answer s.promises p (Finished (PlainValue Undefined)) h
    row-quietly (CloseStepsWith i (Promise p) b) s n h = of.answer s.promises p (Finished (Bytes b)) h
    row-quietly (ErrorSteps i (Promise p) e) s n h = of.settle s.promises p (Err e) h
    row-quietly (ChunkSteps i (PipeRequest p) v) s n h = h
    row-quietly (ChunkSteps i (TeeRequest u) v) s n h = h
    row-quietly (CloseSteps i (PipeRequest p)) s n h = h
    row-quietly (CloseSteps i (TeeRequest u)) s n h = h
    row-quietly (CloseStepsWith i (PipeRequest p) b) s n h = h
    row-quietly (CloseStepsWith i (TeeRequest u) b) s n h = h
    row-quietly (ErrorSteps i (PipeRequest p) e) s n h = h
    row-quietly (ErrorSteps i (TeeRequest u) e) s n h = h
    row-quietly (Queue m) s n h = of.micro s.promises m n h
    row-quietly (Give gift u) s n h = given gift u s.promises h
    row-quietly (Settle p o) s n h = of.settle s.promises p o h
    row-quietly (CallHost call u) s n h = called call u s h
    row-quietly _ s n h = h
