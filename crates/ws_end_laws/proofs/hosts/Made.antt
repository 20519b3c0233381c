-- The promises of the writes that a pipe made so far: none before it is there, and those of the moments of the run.
use Rattle.std.proofs.Common.{◌≡◌, ℕ, Bool, true, false, nat_eq, List, [], ◌∷◌, ◌++◌, Option, Some, None, slice_get, refl, sym, ap, subst, ◌∙◌, append_assoc, if◌then◌else◌}
use Rattle.ws_value.specs.declared.{ids.PipeId.{PipeId}, ids.PromiseId.{PromiseId}}
use Rattle.ws_steps.specs.declared.calls.{Call.{Call}}
use Rattle.ws_steps.specs.declared.effects.{Effect.{Effect}, Effect.TheVariants.{Pipe}}
use Rattle.ws_steps.specs.declared.pipes.{PipeOperation.TheVariants.{WriteChunk}}
use Rattle.ws_steps.specs.Pipes as pipe
use Rattle.ws_steps.specs.Promises.{next_id}
use Rattle.ws_steps.specs.Slots.{Slots, empty, as_pipe, pipe_at}
use Rattle.ws_steps.specs.Turns.{row, Moment}
use Rattle.ws_steps.specs.Calls.{begin}
use Rattle.ws_steps.specs.Run.{Entry, run, step, moments_in}
use Rattle.ws_steps.specs.Histories.{along, in_step, over}
use Rattle.ws_laws.proofs.Tables.{eq_numbers}
use Rattle.ws_laws.proofs.Walker.{GoesUntold, RestsUntold, run-holds}
use Rattle.ws_pipe_laws.specs.pipes.PipeHistory.{effect_promises, operation_promises, effect_moment, step_moments, run_moments, promises_made}
use Rattle.ws_end_laws.proofs.wrote.Keeping.{row-stands}
use Rattle.ws_end_laws.proofs.hosts.Called.{lists-history}
use Rattle.ws_end_laws.proofs.hosts.PipedRuns.{call-there}

-- a pipe that isn't there has made no write

module _ (p : PipeId) where
  abbrev Unmade : List PromiseId → Slots → List Effect → Type 0
  Unmade h s es = slice_get s.pipes p.0 ≡ None → h ≡ []

  some_none : (x : pipe.Slots) {A : Type 0} → ◌≡◌ {A = Option pipe.Slots} (Some x) None → A
  some_none x e = absurd (cc)

  row-unmade : (e : Effect) (s : Slots) (o : Option pipe.Slots) → slice_get s.pipes p.0 ≡ o → slice_get (row e s).slots.pipes p.0 ≡ None → slice_get s.pipes p.0 ≡ None
  row-unmade e s None f n = f
  row-unmade e s (Some x) f n = let y = row-stands p e s x f in some_none y.0 (sym y.1 ∙ n)

  call-unmade : (c : Call) (s : Slots) (o : Option pipe.Slots) → slice_get s.pipes p.0 ≡ o → slice_get (begin c s).done.slots.pipes p.0 ≡ None → slice_get s.pipes p.0 ≡ None
  call-unmade c s None f n = f
  call-unmade c s (Some x) f n = some_none x (sym (call-there p (record { 0 = 0 }) x c s f) ∙ n)

  none_or : (b : Bool) → ◌≡◌ {A = List PromiseId} (if b then [] else []) []
  none_or true = refl
  none_or false = refl

  held_none : (q : PipeId) (s : Slots) (b : Bool) → nat_eq p.0 q.0 ≡ b → slice_get s.pipes p.0 ≡ None → (if b then operation_promises WriteChunk (pipe_at q s) (next_id s.promises) else []) ≡ []
  held_none q s false e n = refl
  held_none q s true e n =
      let is : p.0 ≡ q.0 = eq_numbers p.0 q.0 e in
      let at : slice_get s.pipes q.0 ≡ None = subst (λ (m : ℕ). slice_get s.pipes m ≡ None) is n in
      ap (λ (o : Option pipe.Slots). operation_promises WriteChunk (as_pipe o) (next_id s.promises)) at

  told-unmade : (e : Effect) (s : Slots) → slice_get s.pipes p.0 ≡ None → effect_promises p e s ≡ []
  told-unmade (Pipe q WriteChunk) s n = held_none q s (nat_eq p.0 q.0) refl n
  told-unmade (Pipe q operation) s n = none_or (nat_eq p.0 q.0)
  told-unmade e s n = refl

  unmade-goes : GoesUntold ◌++◌ (effect_promises p) Unmade
  unmade-goes = record {
    row = λ h s e es k n. let m = row-unmade e s (slice_get s.pipes p.0) refl n in ap (λ (ds : List PromiseId). ds ++ effect_promises p e s) (k m) ∙ told-unmade e s m;
    call = λ h s c k n. k (call-unmade c s (slice_get s.pipes p.0) refl n);
    job = λ h s job e k n. k n;
    answered = λ h s q k n. k n;
    older = λ h s k n. k n;
  }

  unmade-rests : RestsUntold Unmade
  unmade-rests = record { heard = λ h s k n. k n }

  pub run-unmade : (entries : List Entry) → slice_get (run entries empty).pipes p.0 ≡ None → over [] ◌++◌ (λ s x. in_step [] ◌++◌ (effect_promises p) s x) entries empty ≡ []
  run-unmade entries n = run-holds [] ◌++◌ lists-history (effect_promises p) Unmade unmade-goes unmade-rests entries empty (λ n. refl) n

-- the moments of a run

module _ (p : PipeId) where
  along_made : (ms : List Moment) → along [] ◌++◌ (effect_promises p) ms ≡ promises_made p (along [] ◌++◌ effect_moment ms)
  along_made [] = refl
  along_made (m ∷ ms) = ap (λ (ds : List PromiseId). effect_promises p m.effect m.found ++ ds) (along_made ms)

  made_append : (ms ns : List Moment) → promises_made p (ms ++ ns) ≡ promises_made p ms ++ promises_made p ns
  made_append [] ns = refl
  made_append (m ∷ ms) ns =
      ap (λ (ds : List PromiseId). effect_promises p m.effect m.found ++ ds) (made_append ms ns) ∙ sym (append_assoc (effect_promises p m.effect m.found) (promises_made p ms) (promises_made p ns))

  pub over_made : (xs : List Entry) (s : Slots) → over [] ◌++◌ (λ s x. in_step [] ◌++◌ (effect_promises p) s x) xs s ≡ promises_made p (run_moments xs s)
  over_made [] s = refl
  over_made (x ∷ xs) s =
      ap (λ (ds : List PromiseId). ds ++ over [] ◌++◌ (λ s x. in_step [] ◌++◌ (effect_promises p) s x) xs (step s x)) (along_made (moments_in s x))
      ∙ (ap (λ (ds : List PromiseId). promises_made p (step_moments s x) ++ ds) (over_made xs (step s x)) ∙ sym (made_append (step_moments s x) (run_moments xs (step s x))))
