-- An operation of a pipe takes no lock, and lets go of those of its ends where it is over.
use Rattle.std.proofs.Common.{◌≡◌, ◌+◌, Bool, true, false, List, [], ◌∷◌, Option, Some, None, Result, refl, sym, ap, ◌∙◌, arith}
use Rattle.ws_laws.proofs.PortDoes.{PortCauses}
use Rattle.ws_value.specs.declared.ids.PortId.{PortId}
use Rattle.ws_value.specs.declared.{ids.PipeId.{PipeId}, ids.PromiseId.{PromiseId}, ids.SignalId.{SignalId}, ids.StreamId.{StreamId}, value.Plain.{Plain}}
use Rattle.ws_steps.specs.declared.effects.{Effect.{Effect}, Effect.TheVariants.{Settle}}
use Rattle.ws_steps.specs.declared.pipes.{Action.{Action}, Action.TheVariants.{AbortDest, CancelSource, CloseDest, BySignal}, Ends.{Ends}, Phase.{Phase}}
use Rattle.ws_steps.specs.declared.pipes.{PipeOperation.{PipeOperation}, PipeOperation.TheVariants.{ActionSettled}}
use Rattle.ws_steps.specs.declared.transform.TransformId.{TransformId}
use Rattle.ws_steps.specs.Histories.{is_same}
use Rattle.ws_steps.specs.Operations.{pipe_operation}
use Rattle.ws_steps.specs.Effects.{Out}
use Rattle.ws_steps.specs.Pipes.{Slots, Acts}
use Rattle.ws_steps.specs.Promises.{Table}
use Rattle.ws_laws.proofs.Lists.{Each}
use Rattle.ws_laws.proofs.PipeDoes.{PipeCauses, pipe-causes}
use Rattle.ws_laws.proofs.TransformDoes.{TransformCauses}
use Rattle.ws_laws.proofs.Truth.{and_left, and_right}
use Rattle.ws_writable_laws.proofs.Shape.{all, all-append}
use Rattle.ws_pipe_laws.specs.pipes.PipeHistory.{is_live, is_over}
use Rattle.ws_pipe_laws.specs.pipes.PipeMoves.{starting, end_effects, result_by, signal_forgets, dest_aborted, signalled, acted, is_idle, are_idle, Move, MoveRests, MoveWaits, MoveActs, MoveEnds, MoveFinishes}
use Rattle.ws_pipe_laws.specs.pipes.PipeReads.{one_if}
use Rattle.ws_pipe_laws.proofs.pipes.Moves.{each_pipe_moves}
use Rattle.ws_pipe_laws.specs.locks.Locks.{Side, Reading, Writing, end_of, holds}
use Rattle.ws_pipe_laws.proofs.locks.Agenda.{goes, IsNoTake, IsCalm, goes_none-all}
use Rattle.ws_value.specs.declared.ids.TeeId.{TeeId}
use Rattle.ws_laws.proofs.TeeDoes.{TeeCauses}

-- what a pipe causes takes no lock
pub pipe_takes : (me : PipeId) (source dest : StreamId) (e : Effect) → PipeCauses me source dest e → IsNoTake e
pipe_takes me source dest e c = grind (arith, c)

-- and what a transform stream causes neither takes one nor lets go of one
pub transform_calm : (me : TransformId) (writable readable : StreamId) (e : Effect) → TransformCauses me writable readable e → IsCalm e
transform_calm me writable readable e c = grind (arith, c)

-- and so a tee
pub tee_calm : (me : TeeId) (source first second : StreamId) (e : Effect) → TeeCauses me source first second e → IsCalm e
tee_calm me source first second e c = grind (arith, c)

pub port_calm : (me : PortId) (stream : StreamId) (e : Effect) → PortCauses me stream e → IsCalm e
port_calm me stream e c = grind (arith, c)

-- an action lets go of none

idle_calm : (e : Effect) → is_idle e ≡ true → IsCalm e
idle_calm e i = grind (arith, i)

idle_calm-all : (es : List Effect) → are_idle es ≡ true → Each IsCalm es
idle_calm-all [] i = tt
idle_calm-all (e ∷ es) i = (idle_calm e (and_left (is_idle e) (are_idle es) i), idle_calm-all es (and_right (is_idle e) (are_idle es) i))

aborted-calm : (me : PipeId) (r : Plain) (y : Slots) (t : Table) (pending : Option PromiseId) → Each IsCalm (dest_aborted me r y t pending).out.effects
aborted-calm me r y t pending = grind arith

signal-calm : (me : PipeId) (r : Plain) (y : Slots) (t : Table) (abort cancel : Bool) → Each IsCalm (signalled me r y t abort cancel).out.effects
signal-calm me r y t abort cancel = grind arith

act-calm : (me : PipeId) (ends : Ends) (y : Slots) (t : Table) (action : Action) → Each IsCalm (acted me ends y t action).out.effects
act-calm me ends y t (AbortDest r) = aborted-calm me r y t ends.dest_abort
act-calm me ends y t (CancelSource r) = grind arith
act-calm me ends y t CloseDest = grind arith
act-calm me ends y t (BySignal r) = signal-calm me r y t y.prevent.abort y.prevent.cancel

-- an end lets go of both

forgetting-goes : (d : Side) (i : StreamId) (me : PipeId) (signal : Option SignalId) → all (goes d i) (signal_forgets me signal) ≡ 0
forgetting-goes Reading i me None = refl
forgetting-goes Writing i me None = refl
forgetting-goes Reading i me (Some a) = refl
forgetting-goes Writing i me (Some a) = refl

end-goes : (d : Side) (i : StreamId) (me : PipeId) (x : Slots) (e : Option Plain) → all (goes d i) (end_effects me x e) ≡ one_if (is_same i (end_of d x))
end-goes Reading i me x e =
    let n = forgetting-goes Reading i me x.signal in
    let m = all-append (goes Reading i) (signal_forgets me x.signal) (Settle x.promise (result_by e) ∷ []) in omega (arith, n, m)
end-goes Writing i me x e =
    let n = forgetting-goes Writing i me x.signal in
    let m = all-append (goes Writing i) (signal_forgets me x.signal) (Settle x.promise (result_by e) ∷ []) in omega (arith, n, m)

module _ (d : Side) (i : StreamId) where
  -- those that have the stream, and those that let go of it, are as many as before
  abbrev pub Goes : Slots → Acts → Type 0
  Goes x b = one_if (holds d i b.slots) + all (goes d i) b.out.effects ≡ one_if (holds d i x)

  goes_on : (x : Slots) (b : Acts) → is_over b.slots.phase ≡ is_over x.phase → end_of d b.slots ≡ end_of d x → Each IsCalm b.out.effects → Goes x b
  goes_on x b e f c = let n = goes_none-all d i b.out.effects c in rw (e, f) (omega (arith, n))

  goes_over : (me : PipeId) (x : Slots) (b : Acts) (r : Option Plain) → is_over b.slots.phase ≡ true → is_over x.phase ≡ false → b.out.effects ≡ end_effects me x r → Goes x b
  goes_over me x b r e f g = let n = end-goes d i me x r in rw (e, f, g) (omega (arith, n))

  live_over : (phase : Phase) → is_live phase ≡ true → is_over phase ≡ false
  live_over phase l = grind (arith, l)

  move-goes : (me : PipeId) (ends : Ends) (operation : PipeOperation) (x : Slots) (t : Table) (b : Acts) → end_of d b.slots ≡ end_of d x
      → ((o : Result Plain Plain) → operation ≡ ActionSettled o → is_over x.phase ≡ false) → Move me ends operation x t b → Goes x b
  move-goes me ends operation x t b s k (MoveRests phase action error idle) = goes_on x b (ap is_over phase) s (idle_calm-all b.out.effects idle)
  move-goes me ends operation x t b s k (MoveWaits phase slots named first out) =
      goes_on x b (ap (λ (z : Slots). is_over z.phase) slots ∙ sym (ap is_over phase)) s (rw out tt)
  move-goes me ends operation x t b s k (MoveActs action y slots named written is alike) =
      goes_on x b (ap is_over alike.phase ∙ (ap (λ (z : Slots). is_over z.phase) slots ∙ sym (live_over x.phase named.live))) s (rw is (act-calm me ends y t action))
  move-goes me ends operation x t b s k (MoveEnds slots named written out) =
      goes_over me x b b.slots.error (ap (λ (z : Slots). is_over z.phase) slots) (live_over x.phase named.live) (ap (λ (o : Out). o.effects) out)
  move-goes me ends operation x t b s k (MoveFinishes o is slots out) =
      goes_over me x b _ (ap (λ (z : Slots). is_over z.phase) slots) (k o is) (ap (λ (o : Out). o.effects) out)

  pub operation-goes : (me : PipeId) (ends : Ends) (operation : PipeOperation) (x : Slots) (t : Table) → ((o : Result Plain Plain) → operation ≡ ActionSettled o → is_over x.phase ≡ false)
      → Goes x (pipe_operation me ends operation (starting x t))
  operation-goes me ends operation x t k =
      let c = pipe-causes me ends operation (starting x t) tt in
      move-goes me ends operation x t (pipe_operation me ends operation (starting x t)) (same d c.0 c.1.0) k (each_pipe_moves me ends operation x t)
    where
      same : (d : Side) → (pipe_operation me ends operation (starting x t)).slots.source ≡ x.source → (pipe_operation me ends operation (starting x t)).slots.dest ≡ x.dest → end_of d (pipe_operation me ends operation (starting x t)).slots ≡ end_of d x
      same Reading e f = e
      same Writing e f = f
