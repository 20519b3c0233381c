-- While a pipe flows or waits, no close of its destination stands on the agenda.
use Rattle.ws_value.specs.declared.ids.TeeId.{TeeId}
use Rattle.ws_laws.proofs.PortDoes.{PortCauses}
use Rattle.ws_value.specs.declared.ids.PortId.{PortId}
use Rattle.ws_steps.specs.declared.effects.Effect.TheVariants.{Tee as OnTee, Port as OnPort}
use Rattle.std.proofs.Common.{◌≡◌, ◌⊎◌, ◌≤◌, Bool, true, false, not, ◌&&◌, nat_eq, List, [], ◌∷◌, Option, Some, None, slice_get, refl, ap, ◌∙◌, arith}
use Rattle.ws_value.specs.declared.{ids.PipeId.{PipeId}, ids.StreamId.{StreamId}, value.Plain.{Plain}}
use Rattle.ws_steps.specs.declared.calls.Call.{Call}
use Rattle.ws_steps.specs.declared.effects.Effect.{Effect}
use Rattle.ws_steps.specs.declared.effects.Effect.TheVariants.{Readable as OnReadable, Writable as OnWritable, Pipe as OnPipe, Signal as OnSignal, Transform as OnTransform, StartAlgorithm, PullAlgorithm, CancelAlgorithm, WriteAlgorithm, CloseAlgorithm, AbortAlgorithm, ChunkSteps, CloseSteps, ErrorSteps}
use Rattle.ws_steps.specs.declared.pipes.{Ends.{Ends}, Phase.{Phase}, PipeOperation.{PipeOperation}}
use Rattle.ws_steps.specs.declared.pipes.{SignalOperation.{SignalOperation}, SignalOperation.TheVariants.{Add, Forget, Trigger}}
use Rattle.ws_steps.specs.declared.promises.Job.{Job}
use Rattle.ws_steps.specs.declared.readable.{ReadRequest.TheVariants.{Promise, Pipe as PipeRequest, Tee as TeeRequest}}
use Rattle.ws_steps.specs.declared.transform.TransformId.{TransformId}
use Rattle.ws_steps.specs.declared.writable.WritableOperation.{WritableOperation}
use Rattle.ws_steps.specs.Begun.{Begun}
use Rattle.ws_steps.specs.Calls.{begin}
use Rattle.ws_steps.specs.Histories.{is_same}
use Rattle.ws_steps.specs.Jobs.{job_effects}
use Rattle.ws_steps.specs.Operations.{pipe_operation}
use Rattle.ws_steps.specs.Pipes as pipe
use Rattle.ws_steps.specs.Promises.{Table}
use Rattle.ws_steps.specs.Slots.{Slots, ends_at, on_pipe_at}
use Rattle.ws_steps.specs.Turns.{row}
use Rattle.ws_laws.proofs.EachCall.{each_call}
use Rattle.ws_laws.proofs.Lists.{Each, each-append, each-map}
use Rattle.ws_laws.proofs.PipeDoes.{PipeCauses, pipe-causes}
use Rattle.ws_laws.proofs.Apart.{IsNoPipe}
use Rattle.ws_laws.proofs.Causes.{Causes, SignalCauses, row-causes}
use Rattle.ws_laws.proofs.Tables.{unequal_numbers}
use Rattle.ws_laws.proofs.TransformDoes.{TransformCauses}
use Rattle.ws_laws.proofs.TeeDoes.{TeeCauses}
use Rattle.ws_laws.proofs.Truth.{and_left, and_right, false_true}
use Rattle.ws_pipe_laws.specs.pipes.PipeHistory.{is_live, is_over}
use Rattle.ws_pipe_laws.specs.pipes.PipeMoves.{starting, end_effects, is_idle, are_idle, Move, MoveRests, MoveWaits, MoveActs, MoveEnds, MoveFinishes}
use Rattle.ws_pipe_laws.specs.pipes.PipeReads.{one_if}
use Rattle.ws_pipe_laws.proofs.pipes.Moves.{each_pipe_moves}
use Rattle.ws_pipe_laws.specs.locks.Locks.{Writing, holds}
use Rattle.ws_pipe_laws.specs.locks.LockLaws.{is_of_writer, spares, all_spare}
use Rattle.ws_pipe_laws.proofs.locks.Holding.{pipes-two}
use Rattle.ws_pipe_laws.proofs.locks.Rows.{Balanced, is_there}
use Rattle.ws_end_laws.proofs.ends.Failing.{is_closer}
use Rattle.ws_steps.specs.declared.effects.Effect.TheVariants.{Byte, CloseStepsWith}

-- an effect that closes stream j
abbrev pub closes : StreamId → Effect → Bool
closes j (OnWritable i operation) = is_same j i && is_closer operation
closes j _ = false

module _ (j : StreamId) where
  abbrev pub NoClose : Effect → Type 0
  NoClose e = closes j e ≡ false

  -- what effects cause that are no operation of a pipe

  signal-none : (operation : SignalOperation) → SignalCauses NoClose operation
  signal-none (Trigger r) = λ q. refl
  signal-none (Add q) = tt
  signal-none (Forget q) = tt

  transform-none : (t : TransformId) (writable readable : StreamId) (e : Effect) → TransformCauses t writable readable e → NoClose e
  transform-none t writable readable e c = grind (arith, c)

  tee-none : (t : TeeId) (source first second : StreamId) (e : Effect) → TeeCauses t source first second e → NoClose e
  tee-none t source first second e c = grind (arith, c)

  port-none : (c : PortId) (stream : StreamId) (e : Effect) → PortCauses c stream e → NoClose e
  port-none c stream e k = grind (arith, k)

  none-causes : (e : Effect) → IsNoPipe e → Causes NoClose e
  none-causes (OnReadable i operation) n = record { pull = refl; cancel = λ r q. refl; chunk = λ r v. refl; close = λ r. refl; error = λ r e. refl }
  none-causes (Byte i operation) n = record { readable = record { pull = refl; cancel = λ r q. refl; chunk = λ r v. refl; close = λ r. refl; error = λ r e. refl }; close_with = λ r b. refl }
  none-causes (OnWritable i operation) n = record { write = refl; close = refl; abort = λ r q. refl; hand_on = λ v. refl; take = λ v t d. refl; post = λ v c d. refl }
  none-causes (OnPipe q operation) n = absurd n
  none-causes (OnSignal a operation) n = signal-none operation
  none-causes (OnTransform t operation) n = transform-none t
  none-causes (OnTee t operation) n = tee-none t
  none-causes (OnPort c operation) n = port-none c
  none-causes (StartAlgorithm i step start) n = (λ g u. refl, λ c u. refl)
  none-causes (PullAlgorithm i) n = (λ c u. refl, (λ t u. refl, (λ t. refl, (λ u. refl, λ c. refl))))
  none-causes (CancelAlgorithm i r q) n = (λ c u. refl, (λ t u. refl, (λ t half u. refl, λ q u. refl)))
  none-causes (WriteAlgorithm i) n = (by (is_same j i), (λ t u. refl, λ q u. refl))
    where
      by : (b : Bool) → b && false ≡ false
      by true = refl
      by false = refl
  none-causes (CloseAlgorithm i) n = (λ c u. refl, (λ t u. refl, λ q u. refl))
  none-causes (AbortAlgorithm i r q) n = (λ c u. refl, (λ t u. refl, λ q u. refl))
  none-causes (ChunkSteps i (Promise q) v) n = tt
  none-causes (ChunkSteps i (PipeRequest q) v) n = refl
  none-causes (ChunkSteps i (TeeRequest t) v) n = refl
  none-causes (CloseSteps i (Promise q)) n = tt
  none-causes (CloseStepsWith i (Promise q) b) n = tt
  none-causes (CloseSteps i (PipeRequest q)) n = refl
  none-causes (CloseSteps i (TeeRequest t)) n = refl
  none-causes (CloseStepsWith i (PipeRequest q) b) n = refl
  none-causes (CloseStepsWith i (TeeRequest t) b) n = refl
  none-causes (ErrorSteps i (Promise q) e) n = tt
  none-causes (ErrorSteps i (PipeRequest q) e) n = refl
  none-causes (ErrorSteps i (TeeRequest t) e) n = refl
  none-causes _ n = tt

  pub row-quiet : (e : Effect) (s : Slots) → IsNoPipe e → Each NoClose (row e s).caused
  row-quiet e s n = row-causes NoClose e s (none-causes e n)

  -- and operations of pipes

  idle-quiet : (e : Effect) → is_idle e ≡ true → NoClose e
  idle-quiet e i = grind (arith, i)

  idle-quiet_all : (es : List Effect) → are_idle es ≡ true → Each NoClose es
  idle-quiet_all [] i = tt
  idle-quiet_all (e ∷ es) i = (idle-quiet e (and_left (is_idle e) (are_idle es) i), idle-quiet_all es (and_right (is_idle e) (are_idle es) i))

  end-quiet : (me : PipeId) (x : pipe.Slots) (e : Option Plain) → Each NoClose (end_effects me x e)
  end-quiet me x e = grind (arith, each-append)

  -- one that leaves the pipe flowing or waiting
  pub live-quiet : (me : PipeId) (ends : Ends) (operation : PipeOperation) (x : pipe.Slots) (t : Table) (b : pipe.Acts) → is_live b.slots.phase ≡ true → Move me ends operation x t b → Each NoClose b.out.effects
  live-quiet me ends operation x t b l (MoveRests q a e i) = idle-quiet_all b.out.effects i
  live-quiet me ends operation x t b l (MoveWaits f q named v e) = rw e tt
  live-quiet me ends operation x t b l (MoveActs action y q named w is alike) = false_true (is_live b.slots.phase) l (ap is_live alike.phase ∙ ap (λ (z : pipe.Slots). is_live z.phase) q)
  live-quiet me ends operation x t b l (MoveEnds q named w e) = false_true (is_live b.slots.phase) l (ap (λ (z : pipe.Slots). is_live z.phase) q)
  live-quiet me ends operation x t b l (MoveFinishes o is q e) = false_true (is_live b.slots.phase) l (ap (λ (z : pipe.Slots). is_live z.phase) q)

  live_over : (phase : Phase) → is_live phase ≡ true → is_over phase ≡ false
  live_over phase l = grind (arith, l)

  -- one of a pipe that is over
  over-quiet : (me : PipeId) (ends : Ends) (operation : PipeOperation) (x : pipe.Slots) (t : Table) (b : pipe.Acts) → is_over x.phase ≡ true → Move me ends operation x t b → Each NoClose b.out.effects
  over-quiet me ends operation x t b o (MoveRests q a e i) = idle-quiet_all b.out.effects i
  over-quiet me ends operation x t b o (MoveWaits f q named v e) = rw e tt
  over-quiet me ends operation x t b o (MoveActs action y q named w is alike) = false_true (is_over x.phase) o (live_over x.phase named.live)
  over-quiet me ends operation x t b o (MoveEnds q named w e) = rw e (end-quiet me x b.slots.error)
  over-quiet me ends operation x t b o (MoveFinishes r is q e) = rw e (end-quiet me x _)

  -- one of a pipe with another destination
  other-cause : (me : PipeId) (source dest : StreamId) → is_same j dest ≡ false → (e : Effect) → PipeCauses me source dest e → NoClose e
  other-cause me source dest n e c = grind (arith, n, c)

  apart-quiet : (q : PipeId) (ends : Ends) (operation : PipeOperation) (y : pipe.Slots) (t : Table) → is_same j y.dest ≡ false → Each NoClose (pipe_operation q ends operation (starting y t)).out.effects
  apart-quiet q ends operation y t n =
      each-map (PipeCauses q y.source y.dest) NoClose (other-cause q y.source y.dest n) (pipe_operation q ends operation (starting y t)).out.effects (pipe-causes q ends operation (starting y t) tt).1.1

  -- of two pipes that aren't over, of which one has this destination, the other has another
  one_most : (b : Bool) → one_if b ≤ 1
  one_most true = omega arith
  one_most false = omega arith

  holds-it : (x : pipe.Slots) → is_over x.phase ≡ false → is_same j x.dest ≡ true → one_if (holds Writing j x) ≡ 1
  holds-it x o e = rw (o, e) refl

  pub place-quiet : (p q : PipeId) (operation : PipeOperation) (s : Slots) (es : List Effect) (x : pipe.Slots) (o : Option pipe.Slots) → nat_eq p.0 q.0 ≡ false → Balanced Writing j s es → slice_get s.pipes p.0 ≡ Some x → is_over x.phase ≡ false → is_same j x.dest ≡ true
      → slice_get s.pipes q.0 ≡ o → Each NoClose (on_pipe_at (λ ends. pipe_operation q ends operation) q s o).caused
  place-quiet p q operation s es x None n k e over same f = tt
  place-quiet p q operation s es x (Some y) n k e over same f = by (is_same j y.dest) (is_over y.phase) refl refl
    where
      by : (b c : Bool) → is_same j y.dest ≡ b → is_over y.phase ≡ c → Each NoClose (pipe_operation q (ends_at y s) operation (starting y s.promises)).out.effects
      by false c d o = apart-quiet q (ends_at y s) operation y s.promises d
      by true true d o = over-quiet q (ends_at y s) operation y s.promises (pipe_operation q (ends_at y s) operation (starting y s.promises)) o (each_pipe_moves q (ends_at y s) operation y s.promises)
      by true false d o =
          let two = pipes-two Writing j p.0 q.0 s.pipes x y (unequal_numbers p.0 q.0 n) e f in
          let one = holds-it x over same in
          let other = holds-it y o d in
          let few = k.few in
          let most = one_most (is_there Writing (slice_get s.streams j.0)) in
          absurd (omega (arith, two, one, other, few, most))

  -- what calls and jobs begin with

  closer-of_writer : (operation : WritableOperation) → is_closer operation ≡ true → is_of_writer operation ≡ true
  closer-of_writer operation e = grind (arith, e)

  same_sym : (a c : StreamId) → is_same a c ≡ is_same c a
  same_sym a c = grind arith

  not_both : (a c d e : Bool) → (c ≡ true → d ≡ true) → e ≡ a → not (d && e) ≡ true → a && c ≡ false
  not_both a c d e f g h = grind (arith, f, g, h)

  spare-quiet : (source : StreamId) (e : Effect) → spares source j e ≡ true → NoClose e
  spare-quiet source (OnWritable i operation) k = not_both (is_same j i) (is_closer operation) (is_of_writer operation) (is_same i j) (closer-of_writer operation) (same_sym i j) k
  spare-quiet source (OnReadable i operation) k = refl
  spare-quiet source _ k = refl

  pub spares-quiet : (source : StreamId) (es : List Effect) → all_spare source j es ≡ true → Each NoClose es
  spares-quiet source [] k = tt
  spares-quiet source (e ∷ es) k = (spare-quiet source e (and_left (spares source j e) (all_spare source j es) k), spares-quiet source es (and_right (spares source j e) (all_spare source j es) k))

  pub job-quiet : (job : Job) → Each NoClose (job_effects job)
  job-quiet job = grind (arith, each-append)

-- a call that closes makes no pipe
pub made-quiet : (j : StreamId) (c : Call) (s : Slots) → ((begin c s).done.slots.pipes ≡ s.pipes) ⊎ Each (NoClose j) (begin c s).done.caused
made-quiet j c s = each_call (λ (b : Begun). (b.done.slots.pipes ≡ s.pipes) ⊎ Each (NoClose j) b.done.caused) c s (grind (arith, each-append))
