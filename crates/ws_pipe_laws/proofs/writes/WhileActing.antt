-- When an action settles (`each_action_settles_while_acting`).
use Rattle.std.proofs.Common.{◌≡◌, ◌≤◌, true, nat_eq, List, [], ◌∷◌, ◌++◌, Option, Some, None, Result, slice_get, refl, ap, subst, arith}
use Rattle.ws_value.specs.declared.{ids.PipeId.{PipeId}, value.Plain.{Plain}}
use Rattle.ws_steps.specs.declared.effects.Effect.{Effect}
use Rattle.ws_steps.specs.declared.effects.Effect.TheVariants.{Pipe as OnPipe}
use Rattle.ws_steps.specs.declared.pipes.{Phase.{Phase}, Phase.TheVariants.{Flowing, Waiting, Acting, Over}, PipeOperation.TheVariants.{ActionSettled}}
use Rattle.ws_pipe_laws.specs.pipes.PipeHistory.{effect_moment}
use Rattle.ws_pipe_laws.specs.pipes.PipeWrites.{AllMoments, EachActionSettlesWhileActing}
use Rattle.ws_steps.specs.Pipes as pipe
use Rattle.ws_steps.specs.Slots.{Slots, empty, as_pipe, pipe_at}
use Rattle.ws_steps.specs.Turns.{Moment}
use Rattle.ws_laws.proofs.Walker.{GoesUntold, RestsUntold, run-holds}
use Rattle.ws_promise_laws.proofs.Acting.{EachWaits, Waits, waits-stays, waits-heard, none-waits}
use Rattle.ws_promise_laws.proofs.PipeActs.{acts_now, is_acting}
use Rattle.ws_promise_laws.proofs.Tokens.{one_if}
use Rattle.ws_pipe_laws.proofs.writes.Orderly.{moment, moments_history, all_moments-append}

acting_phase : (phase : Phase) → 1 ≤ one_if (is_acting phase) → phase ≡ Acting
acting_phase Acting n = refl
acting_phase Flowing n = let m : 1 ≤ 0 = n in absurd (omega (arith, m))
acting_phase Waiting n = let m : 1 ≤ 0 = n in absurd (omega (arith, m))
acting_phase Over n = let m : 1 ≤ 0 = n in absurd (omega (arith, m))

acting_of : (o : Option pipe.Slots) → 1 ≤ one_if (acts_now o) → (as_pipe o).phase ≡ Acting
acting_of None n = let m : 1 ≤ 0 = n in absurd (omega (arith, m))
acting_of (Some x) n = acting_phase x.phase n

module _ (p : PipeId) where
  abbrev IsWhile : Moment → Type 0
  IsWhile m = (o : Result Plain Plain) → m.effect ≡ OnPipe p (ActionSettled o) → (pipe_at p m.found).phase ≡ Acting

  self : nat_eq p.0 p.0 ≡ true
  self = grind arith

  row-while : (e : Effect) (s : Slots) (es : List Effect) → Waits p s (e ∷ es) → IsWhile (moment e s)
  row-while e s es w o is =
      let v : Waits p s (OnPipe p (ActionSettled o) ∷ es) = subst (λ (z : Effect). Waits p s (z ∷ es)) is w in
      let one : one_if (nat_eq p.0 p.0) ≡ 1 = ap one_if self in
      acting_of (slice_get s.pipes p.0) (omega (arith, v, one))

  abbrev Is : List Moment → Slots → List Effect → Type 0
  Is h s es = AllMoments IsWhile h × EachWaits s es

  goes : GoesUntold ◌++◌ effect_moment Is
  goes = record {
    row = λ h s e es k. (all_moments-append IsWhile h (moment e s) k.0 (row-while e s es (k.1 p)), waits-stays.row s e es k.1);
    call = λ h s c k. (k.0, waits-stays.call s c k.1);
    job = λ h s job e k. (k.0, waits-stays.job s job e k.1);
    answered = λ h s q k. (k.0, waits-stays.answered s q k.1);
    older = λ h s k. (k.0, waits-stays.older s k.1);
  }

  rests : RestsUntold Is
  rests = record { heard = λ h s k. (k.0, waits-heard s k.1) }

pub each_action_settles_while_acting : EachActionSettlesWhileActing
each_action_settles_while_acting entries p =
    (run-holds [] ◌++◌ moments_history effect_moment (Is p) (goes p) (rests p) entries empty (tt, (λ q. none-waits q))).0
