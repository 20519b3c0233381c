-- The writes that a pipe makes, and the chunks that it passes on, counted.
use Rattle.std.proofs.Common.{◌≡◌, Bool, true, false, nat_eq, if◌then◌else◌, List, [], ◌∷◌, ◌++◌, length, Option, refl, sym, ap, ◌∙◌, arith, length-append}
use Rattle.ws_value.specs.declared.{ids.PipeId.{PipeId}, ids.PromiseId.{PromiseId}, value.Value.{Value}}
use Rattle.ws_steps.specs.declared.effects.{Effect.{Effect}, Effect.TheVariants.{Pipe}}
use Rattle.ws_steps.specs.declared.pipes.{Phase.{Phase}, PipeOperation.{PipeOperation}, PipeOperation.TheVariants.{WriteChunk}}
use Rattle.ws_steps.specs.Pipes as pipe
use Rattle.ws_steps.specs.Promises.{next_id}
use Rattle.ws_steps.specs.Run.{Entry}
use Rattle.ws_steps.specs.Slots.{Slots, empty, pipe_at}
use Rattle.ws_steps.specs.Turns.{Moment}
use Rattle.ws_pipe_laws.specs.pipes.PipeHistory.{Through, nothing_through, through_then, step_moments, step_through, held_goes, held_promise, operation_through, operation_promises, effect_through, effect_promises, promises_made, run_moments, run_through}
use Rattle.ws_end_laws.specs.wrote.WroteLaws.{through_in}
use Rattle.ws_end_laws.proofs.ends.PassedAll.{same-moments}
use Rattle.ws_pipe_laws.proofs.pipes.PassingRuns.{through_history}
use Rattle.ws_steps.specs.Run.{step, moments_in}
use Rattle.ws_end_laws.specs.successes.Successes.{EachPassHasAPromise}

held-count : (phase : Phase) (o : Option Value) (d : PromiseId) → length (held_promise phase o d) ≡ length (held_goes phase o).passed
held-count phase o d = grind arith

operation-count : (operation : PipeOperation) (x : pipe.Slots) (d : PromiseId) → length (operation_promises operation x d) ≡ length (operation_through operation x).passed
operation-count WriteChunk x d = held-count x.phase x.held d
operation-count operation x d = grind arith

module _ (p : PipeId) where
  through-append : (ms ns : List Moment) → through_in p (ms ++ ns) ≡ through_then (through_in p ms) (through_in p ns)
  through-append [] ns = sym (through_history.left (through_in p ns))
  through-append (m ∷ ms) ns =
      ap (through_then (effect_through p m.effect m.found)) (through-append ms ns) ∙ sym (through_history.assoc (effect_through p m.effect m.found) (through_in p ms) (through_in p ns))

  through-step : (s : Slots) (x : Entry) → through_in p (step_moments s x) ≡ step_through p s x
  through-step s x = ap (through_in p) (same-moments (moments_in s x))

  through-run : (xs : List Entry) (s : Slots) → through_in p (run_moments xs s) ≡ run_through p xs s
  through-run [] s = refl
  through-run (x ∷ xs) s =
      through-append (step_moments s x) (run_moments xs (step s x))
      ∙ (ap (λ (f : Through). through_then f (through_in p (run_moments xs (step s x)))) (through-step s x) ∙ ap (through_then (step_through p s x)) (through-run xs (step s x)))

  by_pipe : (b : Bool) (operation : PipeOperation) (x : pipe.Slots) (d : PromiseId) → length (if b then operation_promises operation x d else []) ≡ length (if b then operation_through operation x else nothing_through).passed
  by_pipe true operation x d = operation-count operation x d
  by_pipe false operation x d = refl

  effect-count : (e : Effect) (s : Slots) → length (effect_promises p e s) ≡ length (effect_through p e s).passed
  effect-count (Pipe q operation) s = by_pipe (nat_eq p.0 q.0) operation (pipe_at q s) (next_id s.promises)
  effect-count e s = refl

  moments-count : (ms : List Moment) → length (promises_made p ms) ≡ length (through_in p ms).passed
  moments-count [] = refl
  moments-count (m ∷ ms) =
      let e = effect-count m.effect m.found in
      let k = moments-count ms in
      let a = length-append (effect_promises p m.effect m.found) (promises_made p ms) in
      let b = length-append (effect_through p m.effect m.found).passed (through_in p ms).passed in
      omega (arith, e, k, a, b)

pub each_pass_has_a_promise : EachPassHasAPromise
each_pass_has_a_promise entries p = moments-count p (run_moments entries empty) ∙ ap (λ (h : Through). length h.passed) (through-run p entries empty)
