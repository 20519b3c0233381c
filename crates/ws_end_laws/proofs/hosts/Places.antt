-- The place of a pipe: what leaves it as it is, what comes into it, and where the pipe is told the outcome of its action.
use Rattle.std.proofs.Common.{◌≡◌, ◌⊎◌, inl, inr, ℕ, zero, suc, ◌≤◌, true, false, nat_eq, List, [], ◌∷◌, ◌++◌, Option, Some, None, Result, slice_get, refl, sym, ap, subst, arith}
use Rattle.ws_value.specs.declared.ids.PipeId.{PipeId}
use Rattle.ws_value.specs.declared.value.Plain.{Plain}
use Rattle.ws_steps.specs.declared.effects.Effect.{Effect}
use Rattle.ws_steps.specs.declared.effects.Effect.TheVariants.{Pipe}
use Rattle.ws_steps.specs.declared.pipes.{Phase.{Phase}, Phase.TheVariants.{Flowing, Waiting, Acting, Over}, PipeOperation.{PipeOperation}, PipeOperation.TheVariants.{ActionSettled}}
use Rattle.ws_steps.specs.Operations.{pipe_operation}
use Rattle.ws_steps.specs.Pipes as pipe
use Rattle.ws_steps.specs.Slots.{Slots, on_pipe_at}
use Rattle.ws_steps.specs.Turns.{row}
use Rattle.ws_steps.proofs.PromiseLaws.{slice_get-set_other}
use Rattle.ws_laws.proofs.Apart.{row-pipes}
use Rattle.ws_laws.proofs.Tables.{unequal_numbers}
use Rattle.ws_promise_laws.proofs.Acting.{Waits}
use Rattle.ws_promise_laws.proofs.PipeActs.{acts_now}
use Rattle.ws_promise_laws.proofs.Tokens.{one_if}
use Rattle.ws_end_laws.proofs.hosts.Acts.{NotOf}

pub place-new : (ps : List pipe.Slots) (y : pipe.Slots) (n : ℕ) → slice_get ps n ≡ None → (slice_get (ps ++ y ∷ []) n ≡ None) ⊎ (slice_get (ps ++ y ∷ []) n ≡ Some y)
place-new [] y zero e = inr refl
place-new [] y (suc n) e = inl refl
place-new (x ∷ ps) y zero e = absurd (cc)
place-new (x ∷ ps) y (suc n) e = place-new ps y n e

module _ (p : PipeId) where
  pub self : nat_eq p.0 p.0 ≡ true
  self = grind arith

  other_place : (q : PipeId) (operation : PipeOperation) (s : Slots) (o : Option pipe.Slots) → nat_eq p.0 q.0 ≡ false → slice_get (on_pipe_at (λ ends. pipe_operation q ends operation) q s o).slots.pipes p.0 ≡ slice_get s.pipes p.0
  other_place q operation s None n = refl
  other_place q operation s (Some x) n = slice_get-set_other s.pipes q.0 p.0 _ (λ f. unequal_numbers p.0 q.0 n (sym f))

  pub other_there : (e : Effect) (s : Slots) → NotOf p e → slice_get (row e s).slots.pipes p.0 ≡ slice_get s.pipes p.0
  unfolding row
  other_there (Pipe q operation) s n = other_place q operation s (slice_get s.pipes q.0) n
  other_there e s n = ap (λ (ps : List pipe.Slots). slice_get ps p.0) (row-pipes e s tt)

  acting_phase : (x : pipe.Slots) (phase : Phase) → x.phase ≡ phase → 1 ≤ one_if (acts_now (Some x)) → x.phase ≡ Acting
  acting_phase x Acting e n = e
  acting_phase x Flowing e n = let m : 1 ≤ 0 = rw e at n in absurd (omega arith)
  acting_phase x Waiting e n = let m : 1 ≤ 0 = rw e at n in absurd (omega arith)
  acting_phase x Over e n = let m : 1 ≤ 0 = rw e at n in absurd (omega arith)

  pub told_acting : (s : Slots) (operation : PipeOperation) (es : List Effect) (x : pipe.Slots) → slice_get s.pipes p.0 ≡ Some x → Waits p s (Pipe p operation ∷ es) → (o : Result Plain Plain) → operation ≡ ActionSettled o → x.phase ≡ Acting
  told_acting s operation es x there w o e =
      let v : Waits p s (Pipe p (ActionSettled o) ∷ es) = subst (λ (c : PipeOperation). Waits p s (Pipe p c ∷ es)) e w in
      let one : one_if (nat_eq p.0 p.0) ≡ 1 = ap one_if self in
      let n : 1 ≤ one_if (acts_now (slice_get s.pipes p.0)) = omega (arith, v, one) in
      acting_phase x x.phase refl (rw there at n)
