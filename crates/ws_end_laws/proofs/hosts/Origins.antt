-- Each pipe that is there after a run was made by a call of it, as the one of the next number.
use Rattle.std.proofs.Common.{◌≡◌, ℕ, zero, suc, ◌+◌, ◌≤◌, ◌<◌, Bool, true, false, List, [], ◌∷◌, ◌++◌, length, Option, Some, None, slice_get, slice_set, refl, sym, ap, subst, ◌∙◌, append_assoc, append-nil, nat_lt, arith, inl, inr}
use Rattle.ws_value.specs.declared.{ids.PipeId.{PipeId}}
use Rattle.ws_steps.specs.declared.calls.{Call.{Call}, Reply.{Reply}, Reply.TheVariants.{Promise as Named}}
use Rattle.ws_steps.specs.declared.effects.{Effect.{Effect}, Effect.TheVariants.{Pipe as OnPipe}}
use Rattle.ws_steps.specs.declared.pipes.{PipeOperation.{PipeOperation}}
use Rattle.ws_steps.specs.declared.promises.Job.{Job}
use Rattle.ws_steps.specs.Calls.{begin, named}
use Rattle.ws_steps.specs.Jobs.{job_begun, begin_job}
use Rattle.ws_steps.specs.Operations.{pipe_operation}
use Rattle.ws_steps.specs.Pipes as pipe
use Rattle.ws_steps.specs.Promises.{next_job}
use Rattle.ws_steps.specs.Run.{Entry, Called, Worked, Heard, run, step}
use Rattle.ws_steps.specs.Slots.{Slots, Done, empty, on_pipe_at}
use Rattle.ws_steps.specs.Turns.{row, performed}
use Rattle.ws_laws.proofs.Apart.{row-pipes}
use Rattle.ws_laws.proofs.Walker.{performed-goes, untold}
use Rattle.ws_end_laws.proofs.hosts.PipedRuns.{run-last}
use Rattle.ws_end_laws.proofs.hosts.Making.{New, Adds, call-adds}

-- how many pipes there are after effects, and after a step

length-set : (ps : List pipe.Slots) (n : ℕ) (y : pipe.Slots) → length (slice_set ps n y) ≡ length ps
length-set [] n y = refl
length-set (x ∷ ps) zero y = refl
length-set (x ∷ ps) (suc n) y = ap suc (length-set ps n y)

length-one : (ps : List pipe.Slots) (y : pipe.Slots) → length (ps ++ y ∷ []) ≡ length ps + 1
length-one [] y = refl
length-one (x ∷ ps) y = let k = length-one ps y in omega (arith, k)

place-length : (p : PipeId) (operation : PipeOperation) (s : Slots) (o : Option pipe.Slots) → length (on_pipe_at (λ ends. pipe_operation p ends operation) p s o).slots.pipes ≡ length s.pipes
place-length p operation s None = refl
place-length p operation s (Some x) = length-set s.pipes p.0 _

row-length : (s : Slots) (e : Effect) → length (row e s).slots.pipes ≡ length s.pipes
unfolding row
row-length s (OnPipe p operation) = place-length p operation s (slice_get s.pipes p.0)
row-length s e = ap (λ (ps : List pipe.Slots). length ps) (row-pipes e s tt)

performed-length : (d : Done) → length (performed d).pipes ≡ length d.slots.pipes
performed-length d =
    performed-goes {H = Unit {0}} tt (λ f g. tt) untold (λ e s. tt) (λ h s es. length s.pipes ≡ length d.slots.pipes) (λ h s e es k. row-length s e ∙ k) tt d refl

named-pipes : (reply : Reply) (s : Slots) → (named reply s).pipes ≡ s.pipes
named-pipes (Named q) s = refl
named-pipes _ s = refl

called-length : (c : Call) (s : Slots) → length (step s (Called c)).pipes ≡ length (begin c s).done.slots.pipes
called-length c s = ap (λ (ps : List pipe.Slots). length ps) (named-pipes (begin c s).reply (performed (begin c s).done)) ∙ performed-length (begin c s).done

begun-length : (s : Slots) (job : Option Job) → length (job_begun s job).slots.pipes ≡ length s.pipes
begun-length s None = refl
begun-length s (Some job) = refl

worked-length : (s : Slots) → length (step s Worked).pipes ≡ length s.pipes
unfolding begin_job
worked-length s = performed-length (begin_job s) ∙ begun-length s (next_job s.promises)

-- In a run a call made the pipe
pub record Origin (entries : List Entry) (p : PipeId) : Type 0 where
  pub before : List Entry
  pub after : List Entry
  pub call : Call
  pub split : entries ≡ before ++ Called call ∷ after
  pub number : p.0 ≡ length (run before empty).pipes
  pub new : New (run before empty) (begin call (run before empty))

module _ (p : PipeId) where
  call-origin : (before after : List Entry) (c : Call) → let s : Slots = run before empty in length s.pipes ≤ p.0 → p.0 < length (step s (Called c)).pipes → Adds s (begin c s) → Origin (before ++ Called c ∷ after) p
  call-origin before after c few more (inl e) =
      let s : Slots = run before empty in
      let n = called-length c s in
      let m : length (begin c s).done.slots.pipes ≡ length s.pipes = ap (λ (ps : List pipe.Slots). length ps) e in
      absurd (omega (arith, n, m, few, more))
  call-origin before after c few more (inr new) =
      let s : Slots = run before empty in
      let n = called-length c s in
      let m : length (begin c s).done.slots.pipes ≡ length (s.pipes ++ new.slots ∷ []) = ap (λ (ps : List pipe.Slots). length ps) new.made in
      let one = length-one s.pipes new.slots in
      record { before = before; after = after; call = c; split = refl; number = omega (arith, n, m, one, few, more); new = new }

  step-origin : (before after : List Entry) (x : Entry) → let s : Slots = run before empty in length s.pipes ≤ p.0 → p.0 < length (step s x).pipes → Origin (before ++ x ∷ after) p
  step-origin before after (Called c) few more = call-origin before after c few more (call-adds c (run before empty))
  step-origin before after Worked few more = let n = worked-length (run before empty) in absurd (omega (arith, n, few, more))
  step-origin before after Heard few more = absurd (omega (arith, few, more))

  less-or : (m n : ℕ) (b : Bool) → nat_lt m n ≡ b → (b ≡ true → m < n) × (b ≡ false → n ≤ m)
  less-or m n b e = (λ f. grind (arith, e, f), λ f. grind (arith, e, f))

  run-origin : (xs before : List Entry) → length (run before empty).pipes ≤ p.0 → p.0 < length (run (before ++ xs) empty).pipes → Origin (before ++ xs) p
  run-origin [] before few more =
      let n : length (run (before ++ []) empty).pipes ≡ length (run before empty).pipes = ap (λ (es : List Entry). length (run es empty).pipes) (append-nil before) in
      absurd (omega (arith, n, few, more))
  run-origin (x ∷ xs) before few more =
      by (λ f m. run-origin xs (before ++ x ∷ []) f m) (nat_lt p.0 (length (step (run before empty) x).pipes)) refl
    where
      s : Slots
      s = run before empty

      longer : List Entry
      longer = before ++ x ∷ []

      by : (length (run longer empty).pipes ≤ p.0 → p.0 < length (run (longer ++ xs) empty).pipes → Origin (longer ++ xs) p) → (b : Bool) → nat_lt p.0 (length (step s x).pipes) ≡ b → Origin (before ++ x ∷ xs) p
      by later true e = step-origin before xs x few ((less-or p.0 (length (step s x).pipes) true e).0 refl)
      by later false e =
          let n = (less-or p.0 (length (step s x).pipes) false e).1 refl in
          let same : run longer empty ≡ step s x = run-last before x empty in
          let whole : longer ++ xs ≡ before ++ x ∷ xs = append_assoc before (x ∷ []) xs in
          subst (λ (es : List Entry). Origin es p) whole
          (later (subst (λ (z : Slots). length z.pipes ≤ p.0) (sym same) n) (subst (λ (es : List Entry). p.0 < length (run es empty).pipes) (sym whole) more))

within : (ps : List pipe.Slots) (n : ℕ) (x : pipe.Slots) → slice_get ps n ≡ Some x → n < length ps
within [] n x e = cc
within (y ∷ ps) zero x e = omega arith
within (y ∷ ps) (suc n) x e = let k = within ps n x e in omega (arith, k)

-- each pipe that is there
pub pipe-origin : (entries : List Entry) (p : PipeId) (x : pipe.Slots) → slice_get (run entries empty).pipes p.0 ≡ Some x → Origin entries p
pipe-origin entries p x e = run-origin p entries [] (omega arith) (within (run entries empty).pipes p.0 x e)
