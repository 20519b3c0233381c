-- A pipe whose action began, or which is over (`none_passes_once_acting`).
use Rattle.std.proofs.Common.{◌≡◌, ◌≢◌, ⊎_elim, ℕ, Bool, true, false, nat_eq, if◌then◌else◌, List, [], ◌∷◌, ◌++◌, Option, Some, None, slice_get, refl, sym, ap, subst, ◌∙◌}
use Rattle.ws_value.specs.declared.{ids.PipeId.{PipeId}, ids.PromiseId.{PromiseId}, ids.SignalId.{SignalId}, ids.StreamId.{StreamId}, value.Value.{Value}}
use Rattle.ws_steps.specs.declared.{effects.Effect.{Effect}, effects.Effect.TheVariants.{Pipe}, pipes.Prevent.{Prevent}}
use Rattle.ws_steps.specs.declared.pipes.{Ends.{Ends}, Phase.{Phase}, Phase.TheVariants.{Flowing, Waiting, Acting, Over}, PipeOperation.{PipeOperation}}
use Rattle.ws_steps.specs.declared.pipes.PipeOperation.TheVariants.{KeepChunk, WriteChunk}
use Rattle.ws_steps.specs.Operations.{pipe_operation}
use Rattle.ws_pipe_laws.specs.pipes.PipeHistory.{is_live, Through, nothing_through, through_then, held_goes, operation_through, effect_through, step_through}
use Rattle.ws_pipe_laws.specs.pipes.PipeMoves.{starting, Move, MoveRests, MoveWaits, MoveActs, MoveEnds, MoveFinishes}
use Rattle.ws_pipe_laws.specs.pipes.PipeReads.{NonePassesOnceActing}
use Rattle.ws_steps.specs.Pipes as pipe
use Rattle.ws_steps.specs.Pipes.{Acts}
use Rattle.ws_steps.specs.Promises.{Table}
use Rattle.ws_steps.specs.Run.{Entry, step}
use Rattle.ws_steps.specs.Slots.{Slots, ends_at, as_pipe, pipe_at, on_pipe_at}
use Rattle.ws_steps.specs.Turns.{row}
use Rattle.ws_steps.proofs.PromiseLaws.{slice_get-set_other}
use Rattle.ws_laws.proofs.Begin.{begin-makes}
use Rattle.ws_laws.proofs.Apart.{IsNoPipe, row-pipes}
use Rattle.ws_laws.proofs.Tables.{eq_numbers, unequal_numbers}
use Rattle.ws_laws.proofs.Truth.{false_true}
use Rattle.ws_laws.proofs.Walker.{GoesUntold, RestsUntold, step-goes_untold}
use Rattle.ws_pipe_laws.proofs.pipes.Moves.{each_pipe_moves}
use Rattle.ws_pipe_laws.proofs.pipes.Courses.{place_same, appended}
use Rattle.ws_pipe_laws.proofs.pipes.PassingRuns.{through_history}
use Rattle.ws_pipe_laws.proofs.pipes.Shut.{no_read_starts_once_shut}

-- once it isn't live it stays so
stays_shut : (p : PipeId) (ends : Ends) (operation : PipeOperation) (x : pipe.Slots) (t : Table) (b : Acts) → Move p ends operation x t b → is_live x.phase ≡ false → is_live b.slots.phase ≡ false
stays_shut p ends operation x t b (MoveRests q a e i) l = ap is_live q ∙ l
stays_shut p ends operation x t b (MoveWaits f q k v e) l = false_true (is_live x.phase) (ap is_live f) l
stays_shut p ends operation x t b (MoveActs z y q k h e s) l = false_true (is_live x.phase) k.live l
stays_shut p ends operation x t b (MoveEnds q k h e) l = false_true (is_live x.phase) k.live l
stays_shut p ends operation x t b (MoveFinishes o e q f) l = ap (λ (z : pipe.Slots). is_live z.phase) q

none_goes : (phase : Phase) (held : Option Value) → is_live phase ≡ false → (held_goes phase held).passed ≡ []
none_goes phase None l = refl
none_goes Flowing (Some v) l = cc
none_goes Waiting (Some v) l = cc
none_goes Acting (Some v) l = refl
none_goes Over (Some v) l = refl

none_passed : (operation : PipeOperation) (x : pipe.Slots) → is_live x.phase ≡ false → (operation_through operation x).passed ≡ []
none_passed WriteChunk x l = none_goes x.phase x.held l
none_passed (KeepChunk v) x l = refl
none_passed _ x l = refl

if_passed : (b : Bool) (f : Through) → f.passed ≡ [] → (if b then f else nothing_through).passed ≡ []
if_passed true f e = e
if_passed false f e = refl

-- there is such a pipe, and it isn't live
abbrev IsShut : Option pipe.Slots → Type 0
IsShut None = ⊥
IsShut (Some y) = is_live y.phase ≡ false

shut_phase : (o : Option pipe.Slots) → IsShut o → is_live (as_pipe o).phase ≡ false
shut_phase None k = absurd k
shut_phase (Some y) k = k

not_flowing : (o : Option pipe.Slots) → IsShut o → (as_pipe o).phase ≢ Flowing
not_flowing o k f = false_true (is_live (as_pipe o).phase) (ap is_live f) (shut_phase o k)

module _ (p : PipeId) where
  abbrev At : Slots → Type 0
  At s = IsShut (slice_get s.pipes p.0)

  abbrev Is : Through → Slots → List Effect → Type 0
  Is h s es = (h.passed ≡ []) × At s

  own_place : (operation : PipeOperation) (s : Slots) (o : Option pipe.Slots) → slice_get s.pipes p.0 ≡ o → IsShut o → At (on_pipe_at (λ ends. pipe_operation p ends operation) p s o).slots
  own_place operation s None e k = absurd k
  own_place operation s (Some x) e k =
      let b : Acts = pipe_operation p (ends_at x s) operation (starting x s.promises) in
      rw (place_same s.pipes p.0 x b.slots e) (stays_shut p (ends_at x s) operation x s.promises b (each_pipe_moves p (ends_at x s) operation x s.promises) k)

  own_row : (operation : PipeOperation) (s : Slots) → At s → At (row (Pipe p operation) s).slots
  unfolding row
  own_row operation s k = own_place operation s (slice_get s.pipes p.0) refl k

  other_place : (q : PipeId) (operation : PipeOperation) (s : Slots) (o : Option pipe.Slots) → nat_eq p.0 q.0 ≡ false → slice_get (on_pipe_at (λ ends. pipe_operation q ends operation) q s o).slots.pipes p.0 ≡ slice_get s.pipes p.0
  other_place q operation s None n = refl
  other_place q operation s (Some x) n = slice_get-set_other s.pipes q.0 p.0 _ (λ i. unequal_numbers p.0 q.0 n (sym i))

  pipe_row : (q : PipeId) (operation : PipeOperation) (s : Slots) (same : Bool) → same ≡ nat_eq p.0 q.0 → At s → At (row (Pipe q operation) s).slots
  unfolding row
  pipe_row q operation s false n k = rw (other_place q operation s (slice_get s.pipes q.0) (sym n)) k
  pipe_row q operation s true n k =
      let is : p ≡ q = ap (λ (n : ℕ). record { 0 = n }) (eq_numbers p.0 q.0 (sym n)) in
      subst (λ (z : PipeId). At (row (Pipe z operation) s).slots) is (own_row operation s k)

  other_row : (e : Effect) (s : Slots) → IsNoPipe e → At s → At (row e s).slots
  other_row e s n k = rw (row-pipes e s n) k

  row-at : (e : Effect) (s : Slots) → At s → At (row e s).slots
  row-at (Pipe q operation) s k = pipe_row q operation s (nat_eq p.0 q.0) refl k
  row-at e s k = other_row e s tt k

  own_passed : (q : PipeId) (operation : PipeOperation) (s : Slots) (same : Bool) → same ≡ nat_eq p.0 q.0 → At s → (if same then operation_through operation (pipe_at q s) else nothing_through).passed ≡ []
  own_passed q operation s false n k = refl
  own_passed q operation s true n k =
      let is : p.0 ≡ q.0 = eq_numbers p.0 q.0 (sym n) in
      none_passed operation (pipe_at q s) (ap (λ (n : ℕ). is_live (as_pipe (slice_get s.pipes n)).phase) (sym is) ∙ shut_phase (slice_get s.pipes p.0) k)

  passed-none : (e : Effect) (s : Slots) → At s → (effect_through p e s).passed ≡ []
  passed-none (Pipe q operation) s k = own_passed q operation s (nat_eq p.0 q.0) refl k
  passed-none e s k = refl

  both-passed : (h g : Through) → h.passed ≡ [] → g.passed ≡ [] → (through_then h g).passed ≡ []
  both-passed h g d e = rw (d, e) refl

  made : (s : Slots) (source dest : StreamId) (prevent : Prevent) (signal : Option SignalId) (promise : PromiseId) → At s → At (record s { pipes = s.pipes ++ pipe.set_up source dest prevent signal promise ∷ [] })
  made s source dest prevent signal promise k =
      let y : pipe.Slots = pipe.set_up source dest prevent signal promise in
      ⊎_elim (λ (e : slice_get (s.pipes ++ y ∷ []) p.0 ≡ slice_get s.pipes p.0). rw e k)
      (λ (e : (slice_get s.pipes p.0 ≡ None) × (slice_get (s.pipes ++ y ∷ []) p.0 ≡ Some y)).
      let none : IsShut None = rw e.0 at k in absurd none)
      (appended s.pipes y p.0)

  goes : GoesUntold through_then (effect_through p) Is
  goes = record {
    row = λ h s e es k. (both-passed h (effect_through p e s) k.0 (passed-none e s k.1), row-at e s k.1);
    call = λ h s c k. (
      k.0,
      begin-makes At (record {
        promise = λ z k. k;
        locks = λ z ls k. k;
        hosts = λ z hs k. k;
        pipe = λ z source dest prevent signal promise k. made z source dest prevent signal promise k;
        signal = λ z k. k;
        transform = λ z kind i j change k. k;
        tee = λ z source first second cancel k. k;
        port = λ z side stream backpressure k. k;
        bytes = λ z mark auto k. k;
        byob_requests = λ z hs k. k;
        readable = λ z owner mark size k. k;
        writable = λ z owner mark size k. k;
      }) c s k.1,
    );
    job = λ h s job e k. k;
    answered = λ h s q k. k;
    older = λ h s k. k;
  }

  rests : RestsUntold Is
  rests = record { heard = λ h s k. k }

  still-kept : (s : Slots) (x : Entry) → At s → Is (through_then nothing_through (step_through p s x)) (step s x) []
  still-kept s x k = step-goes_untold nothing_through through_then through_history (effect_through p) Is goes rests nothing_through s x (refl, k)

pub none_passes_once_acting : NonePassesOnceActing
none_passes_once_acting s x p y e l =
    let at : IsShut (slice_get s.pipes p.0) = rw e l in
    let k = still-kept p s x at in
    record { passed = k.0; started = no_read_starts_once_shut s x p (not_flowing (slice_get (step s x).pipes p.0) k.1) }
