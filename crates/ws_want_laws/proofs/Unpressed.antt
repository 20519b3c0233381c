-- Writes that waited, where the host enqueued only while none waited (`none_goes_on_pressed`), and so what is wanted and what is read.
use Rattle.std.proofs.Common.{◌≡◌, ◌≤◌, Bool, true, false, ◌&&◌, List, [], ◌∷◌, ◌++◌, Option, Some, None, slice_get, refl, sym, subst, ap, ◌∙◌, arith, append_assoc, append-nil}
use Rattle.ws_value.specs.declared.{ids.StreamId.{StreamId}, value.Value.{Value}}
use Rattle.ws_steps.specs.declared.effects.{Effect.{Effect}}
use Rattle.ws_steps.specs.declared.promises.Job.{Job}
use Rattle.ws_steps.specs.declared.transform.TransformId.{TransformId}
use Rattle.ws_steps.specs.Histories.{along, in_step, over}
use Rattle.ws_steps.specs.Promises.{next_job}
use Rattle.ws_steps.specs.Run.{Entry, Called, Worked, Heard, run, step, moments_in}
use Rattle.ws_steps.specs.Slots.{Slots, empty, transform_at}
use Rattle.ws_steps.specs.Transform as transform
use Rattle.ws_steps.specs.Turns.{Moment, row}
use Rattle.ws_laws.proofs.Halves.{step-among}
use Rattle.ws_laws.proofs.Lists.{append_none}
use Rattle.ws_laws.proofs.Shapes.{TransformShape, transform_shapes, transform_shape, map-there, row-transform_shapes}
use Rattle.ws_laws.proofs.Walker as walker
use Rattle.ws_laws.proofs.Walker.{Goes, Rests, IsHistory}
use Rattle.ws_laws.proofs.Weights.{of_job}
use Rattle.ws_writable_laws.proofs.Shape.{of_reaction}
use Rattle.ws_transform_laws.specs.TransformHistory.{is_changed, goes_on_pressed}
use Rattle.ws_transform_laws.proofs.Backpressure.{pressed}
use Rattle.ws_transform_laws.proofs.Waited.{changing}
use Rattle.ws_transform_laws.proofs.Waiting.{queued-first}
use Rattle.ws_transform_laws.proofs.Wants.{each_chunk_is_wanted, each_chunk_is_read}
use Rattle.ws_want_laws.specs.Waits.{step_meanwhile, run_meanwhile}
use Rattle.ws_want_laws.specs.WantLaws.{NoneGoesOnPressed, EachTransformIsWanted, EachTransformIsRead}
use Rattle.ws_want_laws.proofs.Runs.{IsRight, Holds, row-holds, call-holds, call-right, job-holds, answered-holds, older-holds, heard-holds, none-holds}

are_values : IsHistory {H = List Value} [] ◌++◌
are_values = record { left = λ vs. refl; right = append-nil; assoc = append_assoc }

abbrev untold : Effect → Slots → List Value
untold e s = []

along-untold : (ms : List Moment) → along [] ◌++◌ untold ms ≡ []
along-untold [] = refl
along-untold (m ∷ ms) = along-untold ms

module _ (t : TransformId) (i r : StreamId) where
  abbrev Meanwhile : List Value → Slots → List Effect → Type 0
  Meanwhile h s es = h ≡ [] → IsRight t i r s → Holds t i r s es

  right-before : (e : Effect) (s : Slots) → IsRight t i r (row e s).slots → IsRight t i r s
  right-before e s h x at = h x (ap (λ (ts : List TransformShape). slice_get ts t.0) (row-transform_shapes e s) ∙ at)

  goes : Goes ◌++◌ untold (step_meanwhile t r) Meanwhile
  goes = record {
    row = λ h s e es k none right. row-holds t i r s e es (right-before e s right) (k (append_none h [] none).0 (right-before e s right));
    call = λ h s c k none right.
        let both = append_none h (step_meanwhile t r s (Called c)) none in
        let before = call-right t i r c s right in call-holds t i r s c before both.1 (k both.0 before);
    job = λ h s job e k none right. job-holds t i r s job e (k (append_none h (step_meanwhile t r s Worked) none).0 right);
    idle = λ h s e k none right. k (append_none h (step_meanwhile t r s Worked) none).0 right;
    answered = λ h s p k none right. answered-holds t i r s p (k none right);
    older = λ h s k none right. older-holds t i r s (k none right);
  }

  rests : Rests ◌++◌ (step_meanwhile t r) Meanwhile
  rests = record { heard = λ h s k none right. heard-holds t i r s (k (append_none h (step_meanwhile t r s Heard) none).0 right) }

  happens-same : (s : Slots) (x : Entry) → step_meanwhile t r s x ++ in_step [] ◌++◌ untold s x ≡ step_meanwhile t r s x
  happens-same s x = rw (along-untold (moments_in s x)) (append-nil (step_meanwhile t r s x))

  pub run-holds : (entries : List Entry) → run_meanwhile t r entries empty ≡ [] → IsRight t i r (run entries empty) → Holds t i r (run entries empty) []
  run-holds entries none right =
      let k = walker.run-goes [] ◌++◌ are_values untold (step_meanwhile t r) Meanwhile goes rests entries [] empty (λ e h. none-holds t i r) in
      let m : Meanwhile (run_meanwhile t r entries empty) (run entries empty) [] =
      subst (λ (f : Slots → Entry → List Value). Meanwhile (over [] ◌++◌ f entries empty) (run entries empty) []) (λ n s x. happens-same s x n) k in
      m none right

  changed-weighs : (job : Job) → is_changed t (Some job) ≡ true → 1 ≤ of_job (of_reaction (changing t)) job
  changed-weighs job e = grind (arith, e)

  pub holds-unpressed : (s : Slots) → Holds t i r s [] → goes_on_pressed t s Worked ≡ false
  holds-unpressed s k = by (next_job s.promises) refl
    where
      free : (b p : Bool) → (b ≡ true → p ≡ false) → b && p ≡ false
      free true p k = k refl
      free false p k = refl

      by : (o : Option Job) → o ≡ next_job s.promises → is_changed t (next_job s.promises) && (transform_at t s).backpressure ≡ false
      by None e = rw (← e) refl
      by (Some job) e =
          rw (← e) (free (is_changed t (Some job)) (pressed t s) (λ c.
          let a = changed-weighs job c in
          let b = queued-first (of_job (of_reaction (changing t))) s.promises job (sym e) in k.freed.free (omega arith)))

-- the halves of a transform stream that is there after a step
right-there : (s : Slots) (x : Entry) (t : TransformId) (y : transform.Slots) → slice_get (step s x).transforms t.0 ≡ Some y → IsRight t y.writable y.readable s
right-there s x t y is z at =
    let there : slice_get (transform_shapes (step s x)) t.0 ≡ Some (transform_shape y) = map-there transform_shape (step s x).transforms t.0 y is in
    let both : ◌≡◌ {A = Option TransformShape} (Some z) (Some (transform_shape y)) = sym (step-among x s t z at) ∙ there in
    let same : z ≡ transform_shape y = cc in
    (ap (λ (q : TransformShape). q.writable) same, ap (λ (q : TransformShape). q.readable) same)

pub none_goes_on_pressed : NoneGoesOnPressed
none_goes_on_pressed entries Worked t y is none =
    holds-unpressed t y.writable y.readable (run entries empty) (run-holds t y.writable y.readable entries none (right-there (run entries empty) Worked t y is))
none_goes_on_pressed entries x t y is none = refl

pub each_transform_is_wanted : EachTransformIsWanted
each_transform_is_wanted entries x t y is none old now = each_chunk_is_wanted entries x t y is old now (none_goes_on_pressed entries x t y is none)

pub each_transform_is_read : EachTransformIsRead
each_transform_is_read entries x t y is none old now = each_chunk_is_read entries x t y is old now (none_goes_on_pressed entries x t y is none)
