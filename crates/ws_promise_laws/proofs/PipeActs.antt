-- What each operation of a pipe does to the reactions that end the action of a pipe.
use Rattle.std.proofs.Common.{◌≡◌, ℕ, ◌+◌, ◌-◌, ◌≤◌, Bool, true, false, not, ◌&&◌, ◌||◌, nat_eq, is_none, if◌then◌else◌, List, [], ◌∷◌, ◌++◌, Option, Some, None, Result, Ok, Err, refl, sym, ap, ◌∙◌, arith}
use Rattle.ws_value.specs.declared.ids.{PipeId.{PipeId}, PromiseId.{PromiseId}, SignalId.{SignalId}}
use Rattle.ws_value.specs.declared.value.{Plain.{Plain}, Plain.TheVariants.{Undefined}, Value.{Value}}
use Rattle.ws_steps.specs.declared.effects.Effect.{Effect}
use Rattle.ws_steps.specs.declared.effects.Effect.TheVariants.{Readable as OnReadable, Writable as OnWritable, Pipe as OnPipe, Transform as OnTransform, Tee as OnTee, Port as OnPort, StartAlgorithm, Give, Settle, CallHost}
use Rattle.ws_steps.specs.declared.pipes.{Action.{Action}, Action.TheVariants.{AbortDest, CancelSource, CloseDest, BySignal}, Ends.{Ends}, Phase.{Phase}, Phase.TheVariants.{Flowing, Waiting, Acting, Over}}
use Rattle.ws_steps.specs.declared.pipes.{PipeOperation.{PipeOperation}, PipeOperation.TheVariants.{Look, LookReady, KeepChunk, ReadEnded, WriteChunk, GoOn, WriteEnded, Abort as AbortPipe, ActionSettled, PartSettled, NoParts}}
use Rattle.ws_steps.specs.declared.promises.{Step.{Step}, Step.TheVariants.{PipeReady, PipeWrote, PipeActed}}
use Rattle.ws_steps.specs.declared.readable.{ReadRequest.TheVariants.{Pipe as PipeRequest}, ReadableOperation.TheVariants.{ReleaseReader, Read, Cancel, CancelIfReadable}}
use Rattle.ws_steps.specs.declared.readable.{ReadableState.{ReadableState}, ReadableState.TheVariants.{Readable, Closed, Errored}}
use Rattle.ws_steps.specs.declared.writable.{WritableOperation.TheVariants.{ReleaseWriter, Write, ClosePropagating, Abort, AbortIfWritable}, WritableState.{WritableState}}
use Rattle.ws_steps.specs.declared.writable.WritableState.TheVariants.{Writable, Erroring, Errored as WritableErrored, Closed as WritableClosed}
use Rattle.ws_steps.specs.Effects.{Out, type_error}
use Rattle.ws_steps.specs.Operations.{pipe_operation}
use Rattle.ws_steps.specs.Pipes as pipe
use Rattle.ws_steps.specs.Pipes.{Acts, causing, with_slots, reacts, forgetting, finalize, ending, act_with, abort_dest, abort_part, cancel_part, parts_of, reacts_to_all, waiting_for, wait_for_all, act_by_signal, act_by, act, proceed, is_flowing, shut_down, shutdown, unless, wait_for_ready, read_or_wait, look_by, look, look_ready, go_on_in, go_on, keep_chunk, read_ended, write, write_in, write_held, write_chunk, write_ended, action_settled, settle_whole, part_settled, no_parts, abort, abort_all}
use Rattle.ws_steps.specs.Promises.{next_id}
use Rattle.ws_steps.specs.Writable.{is_writable, is_closed}
use Rattle.ws_laws.proofs.Tables.{either}
use Rattle.ws_promise_laws.proofs.Holds.{when}
use Rattle.ws_promise_laws.proofs.Tokens.{one_if}
use Rattle.ws_writable_laws.proofs.Shape.{of_use, of_transform, of_tee, of_port, all, all-append}

-- whether the action is under way
abbrev pub is_acting : Phase → Bool
is_acting Flowing = false
is_acting Waiting = false
is_acting Acting = true
is_acting Over = false

-- whether there is a pipe in this place of which it is
abbrev pub acts_now : Option pipe.Slots → Bool
acts_now None = false
acts_now (Some x) = is_acting x.phase

abbrev pub is_end : PipeOperation → Bool
is_end (ActionSettled o) = true
is_end _ = false

-- 1 for the step that ends the action of pipe p
abbrev pub ends_action : PipeId → Step → ℕ
ends_action p (PipeActed q) = one_if (nat_eq p.0 q.0)
ends_action p _ = 0

-- and for an effect that leads to it
abbrev pub ends_by : PipeId → Effect → ℕ
ends_by p (OnPipe q operation) = when (is_end operation) (one_if (nat_eq p.0 q.0))
ends_by p (OnTransform t operation) = of_transform (ends_action p) operation
ends_by p (OnTee t operation) = of_tee (ends_action p) operation
ends_by p (OnPort c operation) = of_port (ends_action p) operation
ends_by p (StartAlgorithm i step start) = ends_action p step
ends_by p (Give gift u) = of_use (ends_action p) u
ends_by p (CallHost call u) = of_use (ends_action p) u
ends_by p _ = 0

-- what an operation of pipe `me` does to the reactions that end the action of pipe p

module _ (p me : PipeId) where
  abbrev pub one : ℕ
  one = one_if (nat_eq p.0 me.0)

  abbrev tokens : Acts → ℕ
  tokens a = all (ends_by p) a.out.effects

  abbrev now : Acts → ℕ
  now a = when (is_acting a.slots.phase) one

  -- where the action begins, one may come
  abbrev Moves : Acts → Acts → Type 0
  Moves a b = tokens b + now a ≤ now b + tokens a

  same : (a : Acts) → Moves a a
  same a = omega arith

  -- effects that lead to none, after the others
  more : (x : Out) (es : List Effect) → all (ends_by p) es ≡ 0 → all (ends_by p) (x.effects ++ es) ≡ all (ends_by p) x.effects
  more x es n = let c = all-append (ends_by p) x.effects es in omega (arith, c, n)

  forgets : (signal : Option SignalId) → all (ends_by p) (forgetting me signal) ≡ 0
  forgets None = refl
  forgets (Some a) = refl

  finalized : (error : Option Plain) (a : Acts) → tokens (finalize me error a) ≡ tokens a
  unfolding finalize
  finalized error a =
      let last : List Effect = Settle a.slots.promise (ending error) ∷ [] in
      let c = all-append (ends_by p) (forgetting me a.slots.signal) last in
      let d = forgets a.slots.signal in
      more a.out (OnWritable a.slots.dest ReleaseWriter ∷ OnReadable a.slots.source ReleaseReader ∷ (forgetting me a.slots.signal ++ last)) (omega (arith, c, d))

  over : (error : Option Plain) (a : Acts) → now (finalize me error a) ≡ 0
  unfolding finalize
  over error a = refl

  one_more : (x : Out) (e : Effect) (q : PromiseId) → ends_by p e ≡ 0 → all (ends_by p) (x.effects ++ e ∷ reacts q (PipeActed me) ∷ []) ≡ all (ends_by p) x.effects + one
  one_more x e q n = let c = all-append (ends_by p) x.effects (e ∷ reacts q (PipeActed me) ∷ []) in omega (arith, c, n)

  -- what is to be shown of an action that begins: one comes and the pipe acts, or none comes
  abbrev Begins : Acts → Acts → Type 0
  Begins a b = tokens b ≤ now b + tokens a

  acts_with : (effect : PromiseId → Effect) (a : Acts) → is_acting a.slots.phase ≡ true → ((q : PromiseId) → ends_by p (effect q) ≡ 0) → Begins a (act_with me effect a)
  acts_with effect a e n =
      let q : PromiseId = next_id a.out.promises in
      let c = one_more a.out (effect q) q (n q) in
      rw e (omega (arith, c))

  aborts : (r : Plain) (a : Acts) (q : Option PromiseId) → is_acting a.slots.phase ≡ true → Begins a (abort_dest me r a q)
  aborts r a (Some q) e =
      let c = all-append (ends_by p) a.out.effects (reacts q (PipeActed me) ∷ []) in
      rw e (omega (arith, c))
  aborts r a None e = acts_with (λ q. OnWritable a.slots.dest (Abort r q)) a e (λ q. refl)

  -- the parts of what a signal does

  record Part (a b : Acts) : Type 0 where
    slots : b.slots ≡ a.slots
    none : tokens b ≡ tokens a

  abort_parts : (r : Plain) (prevented : Bool) (a : Acts) → Part a (abort_part r prevented a)
  abort_parts r true a = record { slots = refl; none = refl }
  abort_parts r false a = record { slots = refl; none = more a.out (OnWritable a.slots.dest (AbortIfWritable r (next_id a.out.promises)) ∷ []) refl }

  cancel_parts : (r : Plain) (prevented : Bool) (a : Acts) → Part a (cancel_part r prevented a)
  cancel_parts r true a = record { slots = refl; none = refl }
  cancel_parts r false a = record { slots = refl; none = more a.out (OnReadable a.slots.source (CancelIfReadable r (next_id a.out.promises)) ∷ []) refl }

  reacting : (qs : List PromiseId) → all (ends_by p) (reacts_to_all me qs) ≡ 0
  reacting [] = refl
  reacting (q ∷ qs) = let n = reacting qs in omega (arith, n)

  waiting : (qs : List PromiseId) → all (ends_by p) (waiting_for me qs) ≡ 0
  waiting [] = refl
  waiting (q ∷ qs) = reacting (q ∷ qs)

  waits_for_all : (qs : List PromiseId) (a : Acts) → is_acting a.slots.phase ≡ true → Begins a (wait_for_all me qs a)
  waits_for_all qs a e =
      let last : List Effect = reacts (next_id a.out.promises) (PipeActed me) ∷ [] in
      let c = all-append (ends_by p) a.out.effects (waiting_for me qs ++ last) in
      let d = all-append (ends_by p) (waiting_for me qs) last in
      let n = waiting qs in
      rw e (omega (arith, c, d, n))

  acts_by_signal : (r : Plain) (a : Acts) → is_acting a.slots.phase ≡ true → Begins a (act_by_signal me r a)
  unfolding act_by_signal
  acts_by_signal r a e =
      let b : Acts = abort_part r a.slots.prevent.abort a in
      let c : Acts = cancel_part r a.slots.prevent.cancel b in
      let f = abort_parts r a.slots.prevent.abort a in
      let g = cancel_parts r a.slots.prevent.cancel b in
      let acting : is_acting c.slots.phase ≡ true = ap (λ (x : pipe.Slots). is_acting x.phase) (g.slots ∙ f.slots) ∙ e in
      let h = waits_for_all (parts_of a.slots.prevent a b) c acting in
      let m = f.none in let n = g.none in
      omega (arith, h, m, n)

  acts_by : (ends : Ends) (a : Acts) (action : Option Action) → is_acting a.slots.phase ≡ true → Begins a (act_by me ends a action)
  acts_by ends a None e = let c = finalized a.slots.error a in omega (arith, c)
  acts_by ends a (Some (AbortDest r)) e = aborts r a ends.dest_abort e
  acts_by ends a (Some (CancelSource r)) e = acts_with (λ q. OnReadable a.slots.source (Cancel r q)) a e (λ q. refl)
  acts_by ends a (Some CloseDest) e = acts_with (λ q. OnWritable a.slots.dest (ClosePropagating q)) a e (λ q. refl)
  acts_by ends a (Some (BySignal r)) e = acts_by_signal r a e

  abbrev Idle : Acts → Type 0
  Idle a = is_acting a.slots.phase ≡ false

  acting : (ends : Ends) (a : Acts) → Idle a → Moves a (act me ends a)
  unfolding act
  acting ends a e = let h = acts_by ends (with_slots (record a.slots { phase = Acting }) a) a.slots.action refl in rw e (omega (arith, h))

  proceeding : (ends : Ends) (a : Acts) → Idle a → Moves a (proceed me ends a)
  unfolding proceed
  proceeding ends a e = either (Moves a) (is_none a.slots.held && nat_eq a.slots.unsettled 0) (act me ends a) a (λ h. acting ends a e) (λ h. same a)

  shutting_down : (ends : Ends) (a : Acts) → Idle a → Moves a (shut_down me ends a)
  shutting_down ends a e =
      let b : Acts = with_slots (record a.slots { phase = Waiting }) a in
      let h = proceeding ends b refl in
      either (Moves a) (is_writable ends.dest_state && not ends.dest_closing) (proceed me ends b) (act me ends a)
      (λ w. rw e (omega (arith, h))) (λ w. acting ends a e)

  flowing_idle : (phase : Phase) → is_flowing phase ≡ true → is_acting phase ≡ false
  flowing_idle Flowing e = refl
  flowing_idle Waiting e = refl
  flowing_idle Acting e = sym e
  flowing_idle Over e = refl

  shuts : (ends : Ends) (action : Option Action) (error : Option Plain) (a : Acts) → Moves a (shutdown me ends action error a)
  unfolding shutdown
  shuts ends action error a =
      let b : Acts = with_slots (record a.slots { action = action; error = error }) a in
      either (Moves a) (is_flowing a.slots.phase) (shut_down me ends b) a (λ e. shutting_down ends b (flowing_idle a.slots.phase e)) (λ e. same a)

  -- the phase stays, and none comes
  quiet : (a b : Acts) → b.slots.phase ≡ a.slots.phase → tokens b ≡ tokens a → Moves a b
  quiet a b e n = rw (e, n) (omega arith)

  readies : (a : Acts) (ready : Option PromiseId) → Moves a (wait_for_ready me a ready)
  readies a None = same a
  readies a (Some q) = quiet a (wait_for_ready me a (Some q)) refl (more a.out (reacts q (PipeReady me) ∷ []) refl)

  reads_or_waits : (ends : Ends) (a : Acts) → Moves a (read_or_wait me ends a)
  reads_or_waits ends a =
      let es : List Effect = OnReadable a.slots.source (Read (PipeRequest me)) ∷ [] in
      let b : Acts = causing es (with_slots (record a.slots { reading = true }) a) in
      either (Moves a) ends.dest_wants b (if not a.slots.waits && is_writable ends.dest_state then wait_for_ready me a ends.dest_ready else a)
      (λ e. quiet a b refl (more a.out es refl))
      (λ e. either (Moves a) (not a.slots.waits && is_writable ends.dest_state) (wait_for_ready me a ends.dest_ready) a (λ h. readies a ends.dest_ready) (λ h. same a))

  looks_readable : (ends : Ends) (a : Acts) (d : WritableState) → Moves a
      (if ends.dest_closing || is_closed d
      then shutdown me ends (unless a.slots.prevent.cancel (CancelSource type_error)) (Some type_error) a
      else if a.slots.reading then a
      else read_or_wait me ends a)
  looks_readable ends a d =
      let shut : Acts = shutdown me ends (unless a.slots.prevent.cancel (CancelSource type_error)) (Some type_error) a in
      either (Moves a) (ends.dest_closing || is_closed d) shut (if a.slots.reading then a else read_or_wait me ends a)
      (λ e. shuts ends (unless a.slots.prevent.cancel (CancelSource type_error)) (Some type_error) a)
      (λ e. either (Moves a) a.slots.reading a (read_or_wait me ends a) (λ h. same a) (λ h. reads_or_waits ends a))

  looks_by : (ends : Ends) (a : Acts) (s : ReadableState) (d : WritableState) → Moves a (look_by me ends a s d)
  looks_by ends a Errored d = shuts ends (unless a.slots.prevent.abort (AbortDest ends.source_error)) (Some ends.source_error) a
  looks_by ends a Closed WritableErrored = shuts ends (unless a.slots.prevent.cancel (CancelSource ends.dest_error)) (Some ends.dest_error) a
  looks_by ends a Closed Writable = shuts ends (unless a.slots.prevent.close CloseDest) None a
  looks_by ends a Closed Erroring = shuts ends (unless a.slots.prevent.close CloseDest) None a
  looks_by ends a Closed WritableClosed = shuts ends (unless a.slots.prevent.close CloseDest) None a
  looks_by ends a Readable WritableErrored = shuts ends (unless a.slots.prevent.cancel (CancelSource ends.dest_error)) (Some ends.dest_error) a
  looks_by ends a Readable Writable = looks_readable ends a Writable
  looks_by ends a Readable Erroring = looks_readable ends a Erroring
  looks_by ends a Readable WritableClosed = looks_readable ends a WritableClosed

  looking : (ends : Ends) (a : Acts) → Moves a (look me ends a)
  unfolding look
  looking ends a = either (Moves a) (is_flowing a.slots.phase) (look_by me ends a ends.source_state ends.dest_state) a (λ e. looks_by ends a ends.source_state ends.dest_state) (λ e. same a)

  going_on : (ends : Ends) (a : Acts) (phase : Phase) → phase ≡ a.slots.phase → Moves a (go_on_in me ends a phase)
  going_on ends a Flowing e = looking ends a
  going_on ends a Waiting e = proceeding ends a (ap is_acting (sym e))
  going_on ends a Acting e = same a
  going_on ends a Over e = same a

  writes_one : (v : Value) (a : Acts) → Moves a (write me v a)
  writes_one v a =
      let q : PromiseId = next_id a.out.promises in
      quiet a (write me v a) refl (more a.out (OnWritable a.slots.dest (Write v q) ∷ reacts q (PipeWrote me) ∷ OnPipe me GoOn ∷ []) refl)

  writes_in : (v : Value) (a : Acts) (phase : Phase) → Moves a (write_in me v a phase)
  writes_in v a Flowing = writes_one v a
  writes_in v a Waiting = writes_one v a
  writes_in v a Acting = same a
  writes_in v a Over = same a

  writes_held : (a : Acts) (held : Option Value) → Moves a (write_held me a held)
  writes_held a None = same a
  writes_held a (Some v) = writes_in v (with_slots (record a.slots { held = None; reading = false }) a) a.slots.phase

  most : (b : Bool) (n : ℕ) → when b n ≤ n
  most true n = omega arith
  most false n = omega arith

  finalizes : (error : Option Plain) (a : Acts) → tokens (finalize me error a) + now a ≤ (now (finalize me error a) + tokens a) + one
  finalizes error a = let c = finalized error a in let d = over error a in let m = most (is_acting a.slots.phase) one in omega (arith, c, d, m)

  action_ends : (o : Result Plain Plain) (a : Acts) → let b : Acts = action_settled me o a in tokens b + now a ≤ (now b + tokens a) + one
  unfolding action_settled
  action_ends (Ok v) a = finalizes a.slots.error a
  action_ends (Err e) a = finalizes (Some e) a

  whole_settled : (o : Result Plain Plain) (a : Acts) (w : Option PromiseId) → Moves a (settle_whole o a w)
  whole_settled o a None = same a
  whole_settled o a (Some w) = omega arith

  part_ends : (o : Result Plain Plain) (a : Acts) → Moves a (part_settled o a)
  unfolding part_settled
  part_ends (Ok v) a =
      let b : Acts = with_slots (record a.slots { parts = a.slots.parts - 1 }) a in
      either (Moves a) (nat_eq b.slots.parts 0) (settle_whole (Ok Undefined) b b.slots.whole) b (λ e. whole_settled (Ok Undefined) b b.slots.whole) (λ e. same a)
  part_ends (Err e) a = whole_settled (Err e) a a.slots.whole

  -- none comes but where the action begins, and it is over where one is performed
  pub operation-moves : (ends : Ends) (operation : PipeOperation) (a : Acts) → let b : Acts = pipe_operation me ends operation a in tokens b + now a ≤ (now b + tokens a) + when (is_end operation) one
  unfolding look_ready go_on keep_chunk read_ended write_chunk write_ended no_parts abort
  operation-moves ends Look a = let h = looking ends a in omega (arith, h)
  operation-moves ends LookReady a = let h = looking ends (with_slots (record a.slots { waits = false }) a) in omega (arith, h)
  operation-moves ends (KeepChunk v) a = omega arith
  operation-moves ends ReadEnded a = omega arith
  operation-moves ends WriteChunk a = let h = writes_held a a.slots.held in omega (arith, h)
  operation-moves ends GoOn a = let h = going_on ends a a.slots.phase refl in omega (arith, h)
  operation-moves ends WriteEnded a =
      let h = going_on ends (with_slots (record a.slots { unsettled = a.slots.unsettled - 1 }) a) a.slots.phase refl in omega (arith, h)
  operation-moves ends (AbortPipe r) a = let h = shuts ends (Some (BySignal r)) (Some r) a in omega (arith, h)
  operation-moves ends (ActionSettled o) a = action_ends o a
  operation-moves ends (PartSettled o) a = let h = part_ends o a in omega (arith, h)
  operation-moves ends NoParts a = let h = whole_settled (Ok Undefined) a a.slots.whole in omega (arith, h)
