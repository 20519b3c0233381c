-- What each operation of a pipe does to its phase.
use Rattle.std.proofs.Common.{◌≡◌, ◌≢◌, ⊎_elim, ℕ, ◌-◌, Bool, true, false, not, ◌&&◌, ◌||◌, nat_eq, is_none, if◌then◌else◌, ◌++◌, Option, Some, None, Result, Ok, Err, refl, sym, ap, ◌∙◌, arith}
use Rattle.ws_value.specs.declared.{ids.PipeId.{PipeId}, ids.PromiseId.{PromiseId}, ids.SignalId.{SignalId}, value.Plain.{Plain}, value.Plain.TheVariants.{Undefined}, value.Value.{Value}}
use Rattle.ws_steps.specs.declared.pipes.{Action.{Action}, Action.TheVariants.{AbortDest, CancelSource, CloseDest, BySignal}, Ends.{Ends}, Phase.{Phase}, Phase.TheVariants.{Flowing, Waiting, Acting, Over}, Prevent.{Prevent}}
use Rattle.ws_steps.specs.declared.pipes.{PipeOperation.{PipeOperation}, PipeOperation.TheVariants.{Look, LookReady, KeepChunk, ReadEnded, WriteChunk, GoOn, WriteEnded, Abort as AbortPipe, ActionSettled, PartSettled, NoParts}}
use Rattle.ws_steps.specs.declared.readable.{ReadableState.{ReadableState}, ReadableState.TheVariants.{Readable, Closed, Errored}}
use Rattle.ws_steps.specs.declared.writable.{WritableState.{WritableState}, WritableState.TheVariants.{Writable, Erroring, Errored as WritableErrored, Closed as WritableClosed}}
use Rattle.ws_steps.specs.Effects.{type_error}
use Rattle.ws_pipe_laws.specs.pipes.PipeHistory.{Shutdown, shutdown, unless_prevented, first_condition, is_look, shutdown_by, is_live}
use Rattle.ws_pipe_laws.specs.pipes.PipeMoves.{starting, writes_first, IsNamed, HasWritten, IsAlike, IsSamePipe, result_by, signal_forgets, end_effects, dest_aborted, signalled, acted, looked, shut_in, Move, MoveRests, MoveWaits, MoveActs, MoveEnds, MoveFinishes, EachPipeMoves}
use Rattle.ws_steps.specs.Pipes.{Slots, Acts, ending, forgetting, finalize, abort_dest, abort_part, cancel_part, part, wait_for_all, act_by_signal, act_by, act, proceed, is_flowing, shut_down, shutdown as shutting, unless, wait_for_ready, read_or_wait, look_by, look, look_ready, go_on_in, go_on, keep_chunk, read_ended, write_in, write_held, write_chunk, write_ended, action_settled, settle_whole, part_settled, no_parts, abort}
use Rattle.ws_steps.specs.Promises.{Table, next_id}
use Rattle.ws_steps.specs.Writable.{is_writable, is_closed, is_errored}
use Rattle.ws_laws.proofs.Tables.{either}
use Rattle.ws_laws.proofs.Truth.{false_true}

-- an action leaves the shutdown as it is

signal_alike : (me : PipeId) (r : Plain) (y : Slots) (t : Table) → IsAlike y (act_by_signal me r (starting y t)).slots
unfolding act_by_signal
signal_alike me r y t = by y.prevent.abort y.prevent.cancel _ _
  where
    by : (a c : Bool) (n : ℕ) (w : Option PromiseId) → IsAlike y (record (cancel_part r c (abort_part r a (starting y t))).slots { parts = n; whole = w })
    by true true n w = record { phase = refl; action = refl; error = refl; held = refl; unsettled = refl }
    by true false n w = record { phase = refl; action = refl; error = refl; held = refl; unsettled = refl }
    by false true n w = record { phase = refl; action = refl; error = refl; held = refl; unsettled = refl }
    by false false n w = record { phase = refl; action = refl; error = refl; held = refl; unsettled = refl }

abort_alike : (me : PipeId) (r : Plain) (y : Slots) (t : Table) (d : Option PromiseId) → IsAlike y (abort_dest me r (starting y t) d).slots
abort_alike me r y t None = record { phase = refl; action = refl; error = refl; held = refl; unsettled = refl }
abort_alike me r y t (Some d) = record { phase = refl; action = refl; error = refl; held = refl; unsettled = refl }

act_alike : (me : PipeId) (ends : Ends) (y : Slots) (t : Table) (x : Option Action) → x ≢ None → IsAlike y (act_by me ends (starting y t) x).slots
act_alike me ends y t None n = absurd (n refl)
act_alike me ends y t (Some (AbortDest r)) n = abort_alike me r y t ends.dest_abort
act_alike me ends y t (Some (CancelSource r)) n = record { phase = refl; action = refl; error = refl; held = refl; unsettled = refl }
act_alike me ends y t (Some CloseDest) n = record { phase = refl; action = refl; error = refl; held = refl; unsettled = refl }
act_alike me ends y t (Some (BySignal r)) n = let s = signal_alike me r y t in record { phase = s.phase; action = s.action; error = s.error; held = s.held; unsettled = s.unsettled }

-- the words of the laws say the same

named_same : (b : Bool) (action : Action) → unless_prevented b action ≡ unless b action
named_same true action = refl
named_same false action = refl

result_same : (e : Option Plain) → ending e ≡ result_by e
result_same None = refl
result_same (Some e) = refl

forgets_same : (me : PipeId) (signal : Option SignalId) → forgetting me signal ≡ signal_forgets me signal
forgets_same me None = refl
forgets_same me (Some a) = refl

abort_same : (me : PipeId) (r : Plain) (y : Slots) (t : Table) (d : Option PromiseId) → abort_dest me r (starting y t) d ≡ dest_aborted me r y t d
abort_same me r y t None = refl
abort_same me r y t (Some d) = refl

signal_same : (me : PipeId) (r : Plain) (y : Slots) (t : Table) → act_by_signal me r (starting y t) ≡ signalled me r y t y.prevent.abort y.prevent.cancel
unfolding act_by_signal
signal_same me r y t = by y.prevent.abort y.prevent.cancel
  where
    by : (a c : Bool) → let b : Acts = abort_part r a (starting y t) in
        wait_for_all me (part a (next_id t) ++ part c (next_id b.out.promises)) (cancel_part r c b) ≡ signalled me r y t a c
    by true true = refl
    by true false = refl
    by false true = refl
    by false false = refl

act_same : (me : PipeId) (ends : Ends) (y : Slots) (t : Table) (action : Action) → act_by me ends (starting y t) (Some action) ≡ acted me ends y t action
act_same me ends y t (AbortDest r) = abort_same me r y t ends.dest_abort
act_same me ends y t (CancelSource r) = refl
act_same me ends y t CloseDest = refl
act_same me ends y t (BySignal r) = signal_same me r y t

-- y is what the operation makes of x before it looks or goes on, but for the phase, the action and the error
abbrev IsOf : PipeOperation → Slots → Slots → Type 0
IsOf operation x y = y ≡ shut_in operation y.phase y.action y.error x

with_shutdown : (operation : PipeOperation) (x y : Slots) (action : Option Action) (error : Option Plain) → IsOf operation x y → IsOf operation x (record y { action = action; error = error })
with_shutdown operation x y action error o = ap (λ (z : Slots). record z { action = action; error = error }) o

with_phase : (operation : PipeOperation) (x y : Slots) (phase : Phase) → IsOf operation x y → record y { phase = phase } ≡ shut_in operation phase y.action y.error x
with_phase operation x y phase o = ap (λ (z : Slots). record z { phase = phase }) o

looked_same : (operation : PipeOperation) (x : Slots) → IsSamePipe x (looked operation x)
looked_same LookReady x = record { source = refl; dest = refl; promise = refl; prevent = refl; signal = refl }
looked_same WriteEnded x = record { source = refl; dest = refl; promise = refl; prevent = refl; signal = refl }
looked_same _ x = record { source = refl; dest = refl; promise = refl; prevent = refl; signal = refl }

same_of : (operation : PipeOperation) (x y : Slots) → IsOf operation x y → IsSamePipe x y
same_of operation x y o = let s = looked_same operation x in
    record {
      source = ap (λ (z : Slots). z.source) o ∙ s.source;
      dest = ap (λ (z : Slots). z.dest) o ∙ s.dest;
      promise = ap (λ (z : Slots). z.promise) o ∙ s.promise;
      prevent = ap (λ (z : Slots). z.prevent) o ∙ s.prevent;
      signal = ap (λ (z : Slots). z.signal) o ∙ s.signal;
    }

-- a pipe's end
finalized : (me : PipeId) (x y : Slots) (t : Table) (error : Option Plain) → IsSamePipe x y → (finalize me error (starting y t)).out ≡ record { promises = t; effects = end_effects me x error }
unfolding finalize
finalized me x y t error s = rw (s.source, s.dest, s.signal, s.promise, forgets_same me x.signal, result_same error) refl

end_slots : (me : PipeId) (y : Slots) (t : Table) (error : Option Plain) → (finalize me error (starting y t)).slots ≡ record y { phase = Over }
unfolding finalize
end_slots me y t error = refl

-- the shutdown of x was put into y, and y acts
acts : (me : PipeId) (ends : Ends) (operation : PipeOperation) (x y : Slots) (t : Table) → IsOf operation x y → IsNamed ends operation x y → HasWritten ends x y
    → (z : Option Action) → z ≡ y.action → Move me ends operation x t (act_by me ends (starting (record y { phase = Acting }) t) z)
unfolding finalize
acts me ends operation x y t o n w None z =
    let s = same_of operation x y o in
    let same : IsSamePipe x (record y { phase = Acting }) = record { source = s.source; dest = s.dest; promise = s.promise; prevent = s.prevent; signal = s.signal } in
    MoveEnds (with_phase operation x y Over o ∙ ap (λ (a : Option Action). shut_in operation Over a y.error x) (sym z))
    (record { starts = n.starts; keeps = n.keeps; live = n.live }) w (finalized me x (record y { phase = Acting }) t y.error same)
acts me ends operation x y t o n w (Some z) e =
    let k : Some z ≢ None = λ f. cc in
    MoveActs z (record y { phase = Acting }) (with_phase operation x y Acting o ∙ ap (λ (a : Option Action). shut_in operation Acting a y.error x) (sym e))
    (record { starts = n.starts; keeps = n.keeps; live = n.live }) w
    (act_same me ends (record y { phase = Acting }) t z) (act_alike me ends (record y { phase = Acting }) t (Some z) k)

act_moves : (me : PipeId) (ends : Ends) (operation : PipeOperation) (x y : Slots) (t : Table) → IsOf operation x y → IsNamed ends operation x y → HasWritten ends x y → Move me ends operation x t (act me ends (starting y t))
unfolding act
act_moves me ends operation x y t o n w = acts me ends operation x y t o n w y.action refl

none_held : (o : Option Value) (n : ℕ) → is_none o && nat_eq n 0 ≡ true → (o ≡ None) × (n ≡ 0)
none_held None n e = (refl, grind arith)
none_held (Some v) n e = cc

-- a pipe that waits proceeds
waiting_proceeds : (me : PipeId) (ends : Ends) (operation : PipeOperation) (x y : Slots) (t : Table) → IsOf operation x y → x.phase ≡ Waiting → y.phase ≡ x.phase → y.action ≡ x.action → y.error ≡ x.error
    → Move me ends operation x t (proceed me ends (starting y t))
unfolding proceed
waiting_proceeds me ends operation x y t o p q a e =
    either (Move me ends operation x t) (is_none y.held && nat_eq y.unsettled 0) (act me ends (starting y t)) (starting y t)
    (λ c. act_moves me ends operation x y t o (record { starts = λ f. let n : Waiting ≡ Flowing = sym p ∙ f in cc; keeps = λ f. (a, e); live = ap is_live p }) (λ f. none_held y.held y.unsettled c))
    (λ c. MoveRests q a e refl)

not_waiting : {A : Type 0} (x : Slots) → x.phase ≡ Flowing → x.phase ≡ Waiting → A
not_waiting x p f = let n : Flowing ≡ Waiting = sym p ∙ f in cc

-- a pipe that flows shuts down
shuts : (me : PipeId) (ends : Ends) (operation : PipeOperation) (x y : Slots) (t : Table) (action : Option Action) (e : Option Plain) → IsOf operation x y → x.phase ≡ Flowing
    → shutdown_by x.prevent ends operation ≡ Some (shutdown action e) → Move me ends operation x t (shut_down me ends (starting (record y { action = action; error = e }) t))
unfolding proceed
shuts me ends operation x y t action e o p d =
    let live : is_live x.phase ≡ true = ap is_live p in
    let z : Slots = record y { action = action; error = e } in
    let w : Slots = record z { phase = Waiting } in
    let of : IsOf operation x z = with_shutdown operation x y action e o in
    let waits : w ≡ shut_in operation Waiting action e x = with_phase operation x z Waiting of in
    either (Move me ends operation x t) (writes_first ends) (proceed me ends (starting w t)) (act me ends (starting z t))
    (λ first.
    either (Move me ends operation x t) (is_none y.held && nat_eq y.unsettled 0) (act me ends (starting w t)) (starting w t)
    (λ c. act_moves me ends operation x w t waits (record { starts = λ f. d; keeps = λ f. not_waiting x p f; live = live }) (λ f. none_held y.held y.unsettled c))
    (λ c. MoveWaits p waits (record { starts = λ f. d; keeps = λ f. not_waiting x p f; live = live }) first refl))
    (λ n. act_moves me ends operation x z t of (record { starts = λ f. d; keeps = λ f. not_waiting x p f; live = live })
    (λ f. ⊎_elim (λ (g : x.phase ≡ Waiting). not_waiting x p g) (λ (g : writes_first ends ≡ true). false_true (writes_first ends) g n) f))

shutdown_moves : (me : PipeId) (ends : Ends) (operation : PipeOperation) (x y : Slots) (t : Table) (action : Option Action) (e : Option Plain) → IsOf operation x y → x.phase ≡ Flowing → y.phase ≡ x.phase → y.action ≡ x.action → y.error ≡ x.error
    → shutdown_by x.prevent ends operation ≡ Some (shutdown action e) → Move me ends operation x t (shutting me ends action e (starting y t))
unfolding shutting
shutdown_moves me ends operation x y t action e o p q r s d =
    either (Move me ends operation x t) (is_flowing y.phase) (shut_down me ends (starting (record y { action = action; error = e }) t)) (starting y t)
    (λ c. shuts me ends operation x y t action e o p d) (λ c. MoveRests q r s refl)

-- a look

looks_by : (prevent : Prevent) (ends : Ends) (operation : PipeOperation) → is_look operation ≡ true → shutdown_by prevent ends operation ≡ first_condition prevent ends
looks_by prevent ends Look l = refl
looks_by prevent ends LookReady l = refl
looks_by prevent ends GoOn l = refl
looks_by prevent ends WriteEnded l = refl
looks_by prevent ends (KeepChunk v) l = cc
looks_by prevent ends ReadEnded l = cc
looks_by prevent ends WriteChunk l = cc
looks_by prevent ends (AbortPipe r) l = cc
looks_by prevent ends (ActionSettled o) l = cc
looks_by prevent ends (PartSettled o) l = cc
looks_by prevent ends NoParts l = cc

waits_on : (me : PipeId) (ends : Ends) (operation : PipeOperation) (x y : Slots) (t : Table) → y.phase ≡ x.phase → y.action ≡ x.action → y.error ≡ x.error → (ready : Option PromiseId) → Move me ends operation x t (wait_for_ready me (starting y t) ready)
waits_on me ends operation x y t p a e None = MoveRests p a e refl
waits_on me ends operation x y t p a e (Some q) = MoveRests p a e refl

reads_on : (me : PipeId) (ends : Ends) (operation : PipeOperation) (x y : Slots) (t : Table) → y.phase ≡ x.phase → y.action ≡ x.action → y.error ≡ x.error → Move me ends operation x t (read_or_wait me ends (starting y t))
reads_on me ends operation x y t p a e =
    either (Move me ends operation x t) ends.dest_wants _ _ (λ c. MoveRests p a e refl)
    (λ c. either (Move me ends operation x t) (not y.waits && is_writable ends.dest_state) _ _ (λ d. waits_on me ends operation x y t p a e ends.dest_ready) (λ d. MoveRests p a e refl))

module _ (me : PipeId) (ends : Ends) (operation : PipeOperation) (x y : Slots) (t : Table) (l : is_look operation ≡ true) (o : IsOf operation x y) (v : y.prevent ≡ x.prevent) (f : x.phase ≡ Flowing)
    (p : y.phase ≡ x.phase) (a : y.action ≡ x.action) (e : y.error ≡ x.error) where
  by_condition : (action : Option Action) (r : Option Plain) → first_condition y.prevent ends ≡ Some (shutdown action r) → Move me ends operation x t (shutting me ends action r (starting y t))
  by_condition action r d = shutdown_moves me ends operation x y t action r o f p a e (looks_by x.prevent ends operation l ∙ (ap (λ (z : Prevent). first_condition z ends) (sym v) ∙ d))

  names : (r : Option Plain) (b : Bool) (action : Action) → ◌≡◌ {A = Option Shutdown} (Some (shutdown (unless_prevented b action) r)) (Some (shutdown (unless b action) r))
  names r b action = ap (λ (z : Option Action). Some (shutdown z r)) (named_same b action)

  readable_moves : (d : WritableState) → d ≡ ends.dest_state → Readable ≡ ends.source_state → is_errored d ≡ false
      → Move me ends operation x t (if ends.dest_closing || is_closed d then shutting me ends (unless y.prevent.cancel (CancelSource type_error)) (Some type_error) (starting y t) else if y.reading then starting y t else read_or_wait me ends (starting y t))
  readable_moves d ed s n =
      either (Move me ends operation x t) (ends.dest_closing || is_closed d) (shutting me ends (unless y.prevent.cancel (CancelSource type_error)) (Some type_error) (starting y t)) _
      (λ c. by_condition (unless y.prevent.cancel (CancelSource type_error)) (Some type_error) (rw (← s, ← ed, n, c) (names (Some type_error) y.prevent.cancel (CancelSource type_error))))
      (λ c. either (Move me ends operation x t) y.reading (starting y t) (read_or_wait me ends (starting y t)) (λ r. MoveRests p a e refl) (λ r. reads_on me ends operation x y t p a e))

  by_states : (s : ReadableState) (d : WritableState) → s ≡ ends.source_state → d ≡ ends.dest_state → Move me ends operation x t (look_by me ends (starting y t) s d)
  by_states Errored d es ed = by_condition (unless y.prevent.abort (AbortDest ends.source_error)) (Some ends.source_error) (rw (← es) (names (Some ends.source_error) y.prevent.abort (AbortDest ends.source_error)))
  by_states Readable WritableErrored es ed = by_condition (unless y.prevent.cancel (CancelSource ends.dest_error)) (Some ends.dest_error) (rw (← es, ← ed) (names (Some ends.dest_error) y.prevent.cancel (CancelSource ends.dest_error)))
  by_states Closed WritableErrored es ed = by_condition (unless y.prevent.cancel (CancelSource ends.dest_error)) (Some ends.dest_error) (rw (← es, ← ed) (names (Some ends.dest_error) y.prevent.cancel (CancelSource ends.dest_error)))
  by_states Closed Writable es ed = by_condition (unless y.prevent.close CloseDest) None (rw (← es, ← ed) (names None y.prevent.close CloseDest))
  by_states Closed Erroring es ed = by_condition (unless y.prevent.close CloseDest) None (rw (← es, ← ed) (names None y.prevent.close CloseDest))
  by_states Closed WritableClosed es ed = by_condition (unless y.prevent.close CloseDest) None (rw (← es, ← ed) (names None y.prevent.close CloseDest))
  by_states Readable Writable es ed = readable_moves Writable ed es refl
  by_states Readable Erroring es ed = readable_moves Erroring ed es refl
  by_states Readable WritableClosed es ed = readable_moves WritableClosed ed es refl

-- every operation

flowing_of : (phase : Phase) → is_flowing phase ≡ true → phase ≡ Flowing
flowing_of Flowing e = refl
flowing_of Waiting e = cc
flowing_of Acting e = cc
flowing_of Over e = cc

look_moves : (me : PipeId) (ends : Ends) (operation : PipeOperation) (x y : Slots) (t : Table) → is_look operation ≡ true → IsOf operation x y → y.prevent ≡ x.prevent → y.phase ≡ x.phase → y.action ≡ x.action → y.error ≡ x.error
    → Move me ends operation x t (look me ends (starting y t))
unfolding look
look_moves me ends operation x y t l o v p a e =
    either (Move me ends operation x t) (is_flowing y.phase) (look_by me ends (starting y t) ends.source_state ends.dest_state) (starting y t)
    (λ c. by_states me ends operation x y t l o v (sym p ∙ flowing_of y.phase c) p a e ends.source_state ends.dest_state refl refl) (λ c. MoveRests p a e refl)

goes_on : (me : PipeId) (ends : Ends) (operation : PipeOperation) (x y : Slots) (t : Table) → is_look operation ≡ true → IsOf operation x y → y.prevent ≡ x.prevent → y.phase ≡ x.phase → y.action ≡ x.action → y.error ≡ x.error
    → (phase : Phase) → phase ≡ x.phase → Move me ends operation x t (go_on_in me ends (starting y t) phase)
goes_on me ends operation x y t l o v p a e Flowing f = look_moves me ends operation x y t l o v p a e
goes_on me ends operation x y t l o v p a e Waiting f = waiting_proceeds me ends operation x y t o (sym f) p a e
goes_on me ends operation x y t l o v p a e Acting f = MoveRests p a e refl
goes_on me ends operation x y t l o v p a e Over f = MoveRests p a e refl

writes : (me : PipeId) (ends : Ends) (x : Slots) (t : Table) (o : Option Value) → Move me ends WriteChunk x t (write_held me (starting x t) o)
writes me ends x t None = MoveRests refl refl refl refl
writes me ends x t (Some v) = by x.phase
  where
    by : (phase : Phase) → Move me ends WriteChunk x t (write_in me v (starting (record x { held = None; reading = false }) t) phase)
    by Flowing = MoveRests refl refl refl refl
    by Waiting = MoveRests refl refl refl refl
    by Acting = MoveRests refl refl refl refl
    by Over = MoveRests refl refl refl refl

whole_moves : (me : PipeId) (ends : Ends) (operation : PipeOperation) (x y : Slots) (t : Table) → y.phase ≡ x.phase → y.action ≡ x.action → y.error ≡ x.error → (r : Result Plain Plain) (w : Option PromiseId)
    → Move me ends operation x t (settle_whole r (starting y t) w)
whole_moves me ends operation x y t p a e r None = MoveRests p a e refl
whole_moves me ends operation x y t p a e r (Some w) = MoveRests p a e refl

part_moves : (me : PipeId) (ends : Ends) (operation : PipeOperation) (x : Slots) (t : Table) (o : Result Plain Plain) → Move me ends operation x t (part_settled o (starting x t))
unfolding part_settled
part_moves me ends operation x t (Ok v) =
    let y : Slots = record x { parts = x.parts - 1 } in
    either (Move me ends operation x t) (nat_eq y.parts 0) (settle_whole (Ok Undefined) (starting y t) y.whole) (starting y t) (λ c. whole_moves me ends operation x y t refl refl refl (Ok Undefined) y.whole) (λ c. MoveRests refl refl refl refl)
part_moves me ends operation x t (Err e) = whole_moves me ends operation x x t refl refl refl (Err e) x.whole

aborted : (me : PipeId) (ends : Ends) (r : Plain) (x : Slots) (t : Table) → Move me ends (AbortPipe r) x t (shutting me ends (Some (BySignal r)) (Some r) (starting x t))
unfolding shutting
aborted me ends r x t =
    either (Move me ends (AbortPipe r) x t) (is_flowing x.phase) (shut_down me ends (starting (record x { action = Some (BySignal r); error = Some r }) t)) (starting x t)
    (λ c. shuts me ends (AbortPipe r) x x t (Some (BySignal r)) (Some r) refl (flowing_of x.phase c) refl) (λ c. MoveRests refl refl refl refl)

finishes : (me : PipeId) (ends : Ends) (x : Slots) (t : Table) (o : Result Plain Plain) → Move me ends (ActionSettled o) x t (action_settled me o (starting x t))
unfolding action_settled
finishes me ends x t (Ok v) = MoveFinishes (Ok v) refl (end_slots me x t x.error) (finalized me x x t x.error (looked_same Look x))
finishes me ends x t (Err e) = MoveFinishes (Err e) refl (end_slots me x t (Some e)) (finalized me x x t (Some e) (looked_same Look x))

pub each_pipe_moves : EachPipeMoves
unfolding look_ready go_on keep_chunk read_ended write_chunk write_ended no_parts abort
each_pipe_moves me ends Look x t = look_moves me ends Look x x t refl refl refl refl refl refl
each_pipe_moves me ends LookReady x t = look_moves me ends LookReady x (record x { waits = false }) t refl refl refl refl refl refl
each_pipe_moves me ends (KeepChunk v) x t = MoveRests refl refl refl refl
each_pipe_moves me ends ReadEnded x t = MoveRests refl refl refl refl
each_pipe_moves me ends WriteChunk x t = writes me ends x t x.held
each_pipe_moves me ends GoOn x t = goes_on me ends GoOn x x t refl refl refl refl refl refl x.phase refl
each_pipe_moves me ends WriteEnded x t = goes_on me ends WriteEnded x (record x { unsettled = x.unsettled - 1 }) t refl refl refl refl refl refl x.phase refl
each_pipe_moves me ends (AbortPipe r) x t = aborted me ends r x t
each_pipe_moves me ends (ActionSettled o) x t = finishes me ends x t o
each_pipe_moves me ends (PartSettled o) x t = part_moves me ends (PartSettled o) x t o
each_pipe_moves me ends NoParts x t = whole_moves me ends NoParts x x t refl refl refl (Ok Undefined) x.whole
