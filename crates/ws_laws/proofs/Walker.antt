-- What goes on with each effect, and with what calls and jobs begin and end with, goes on with each step and each run: a statement of what
-- has happened, of the slots, and of the effects that still stand on the agenda, of which none is left between steps.
use Rattle.std.proofs.Common.{◌≡◌, List, [], ◌∷◌, ◌++◌, Option, Some, None, refl, sym, ap, subst, ◌∙◌}
use Rattle.ws_value.specs.declared.ids.PromiseId.{PromiseId}
use Rattle.ws_steps.specs.declared.{calls.Reply.{Reply}, calls.Reply.TheVariants.{Promise}, calls.Call.{Call}, effects.Effect.{Effect}, promises.Job.{Job}}
use Rattle.ws_steps.specs.Promises.{after_next_job, next_job, watch}
use Rattle.ws_steps.specs.Slots.{Slots, Done, nothing, with_promises}
use Rattle.ws_steps.specs.Turns.{Moment, moments, row, performed}
use Rattle.ws_steps.specs.Jobs.{job_effects, job_begun, begin_job}
use Rattle.ws_steps.specs.Calls.{begin, named}
use Rattle.ws_steps.specs.Run.{Entry, Called, Worked, Heard, step, run, older, after_event}
use Rattle.ws_steps.specs.Histories.{along, in_step, over}
use Rattle.ws_room_laws.proofs.Turns.{performed-kept, moments_none}

-- what happens may be told piece by piece
pub record IsHistory {H : Type 0} (none : H) (after : H → H → H) : Type 0 where
  pub left : (h : H) → after none h ≡ h
  pub right : (h : H) → after h none ≡ h
  pub assoc : (f g h : H) → after (after f g) h ≡ after f (after g h)

-- where nothing is told
pub untold : IsHistory {H = Unit {0}} tt (λ f g. tt)
untold = record { left = λ h. refl; right = λ h. refl; assoc = λ f g h. refl }

-- a history that is told of each effect, and of each entry of a run before its effects

-- what is to be shown of a statement for calls and jobs
pub record Goes {H : Type 0} (after : H → H → H) (told : Effect → Slots → H) (said : Slots → Entry → H) (I : H → Slots → List Effect → Type 0) : Type 0 where
  pub row : (h : H) (s : Slots) (e : Effect) (es : List Effect) → I h s (e ∷ es) → I (after h (told e s)) (row e s).slots ((row e s).caused ++ es)
  pub call : (h : H) (s : Slots) (c : Call) → I h s [] → I (after h (said s (Called c))) (begin c s).done.slots (begin c s).done.caused
  pub job : (h : H) (s : Slots) (job : Job) → next_job s.promises ≡ Some job → I h s [] → I (after h (said s Worked)) (with_promises (after_next_job s.promises) s) (job_effects job)
  pub idle : (h : H) (s : Slots) → next_job s.promises ≡ None → I h s [] → I (after h (said s Worked)) s []
  pub answered : (h : H) (s : Slots) (p : PromiseId) → I h s [] → I h (with_promises (watch p s.promises) s) []
  pub older : (h : H) (s : Slots) → I h s [] → I h (older s) []

-- and where a host takes an event
pub record Rests {H : Type 0} (after : H → H → H) (said : Slots → Entry → H) (I : H → Slots → List Effect → Type 0) : Type 0 where
  pub heard : (h : H) (s : Slots) → I h s [] → I (after h (said s Heard)) (after_event s) []

module _ {H : Type 0} (none : H) (after : H → H → H) (is : IsHistory none after) (told : Effect → Slots → H) where
  along-last : (ms : List Moment) (m : Moment) → along none after told (ms ++ m ∷ []) ≡ after (along none after told ms) (told m.effect m.found)
  along-last [] m = is.right (told m.effect m.found) ∙ sym (is.left (told m.effect m.found))
  along-last (n ∷ ms) m =
      ap (after (told n.effect n.found)) (along-last ms m) ∙ sym (is.assoc (told n.effect n.found) (along none after told ms) (told m.effect m.found))

  along-more : (h : H) (ms : List Moment) (m : Moment) → after h (along none after told (ms ++ m ∷ [])) ≡ after (after h (along none after told ms)) (told m.effect m.found)
  along-more h ms m = ap (after h) (along-last ms m) ∙ sym (is.assoc h (along none after told ms) (told m.effect m.found))

  -- nothing is told where nothing is performed
  pub nothing-told : (s : Slots) → along none after told (moments (nothing s)) ≡ none
  nothing-told s = ap (along none after told) (moments_none s)

  -- what each effect keeps is kept until none is left
  pub performed-goes : (I : H → Slots → List Effect → Type 0)
      → ((h : H) (s : Slots) (e : Effect) (es : List Effect) → I h s (e ∷ es) → I (after h (told e s)) (row e s).slots ((row e s).caused ++ es))
      → (h : H) (d : Done) → I h d.slots d.caused → I (after h (along none after told (moments d))) (performed d) []
  performed-goes I kept h d i =
      performed-kept (λ ms s es. I (after h (along none after told ms)) s es)
      (λ ms s e es j. rw (along-more h ms (record { effect = e; found = s })) (kept (after h (along none after told ms)) s e es j)) d (rw (is.right h) i)

  module _ (said : Slots → Entry → H) (I : H → Slots → List Effect → Type 0) (goes : Goes after told said I) where
    -- what happens in a step
    abbrev pub happens : Slots → Entry → H
    happens s x = after (said s x) (in_step none after told s x)

    named-goes : (h : H) (reply : Reply) (s : Slots) → I h s [] → I h (named reply s) []
    named-goes h (Promise p) s i = goes.answered h s p i
    named-goes h _ s i = i

    begun-goes : (job : Option Job) (h : H) (s : Slots) → job ≡ next_job s.promises → I h s [] → I (after h (said s Worked)) (job_begun s job).slots (job_begun s job).caused
    begun-goes None h s e i = goes.idle h s (sym e) i
    begun-goes (Some job) h s e i = goes.job h s job (sym e) i

    pub called-goes : (h : H) (s : Slots) (c : Call) → I h s [] → I (after h (happens s (Called c))) (step s (Called c)) []
    called-goes h s c i =
        let d : Done = (begin c s).done in
        rw (← is.assoc h (said s (Called c)) (along none after told (moments d)))
        (goes.older _ _ (named-goes _ (begin c s).reply (performed d) (performed-goes I goes.row (after h (said s (Called c))) d (goes.call h s c i))))

    pub worked-goes : (h : H) (s : Slots) → I h s [] → I (after h (happens s Worked)) (step s Worked) []
    unfolding begin_job
    worked-goes h s i =
        let d : Done = begin_job s in
        rw (← is.assoc h (said s Worked) (along none after told (moments d)))
        (goes.older _ (performed d) (performed-goes I goes.row (after h (said s Worked)) d (begun-goes (next_job s.promises) h s refl i)))

    module _ (rests : Rests after said I) where
      resting : (h g : H) (s z : Slots) → I (after h g) z [] → I (after h (after g (along none after told (moments (nothing s))))) z []
      resting h g s z i = rw (moments_none s, is.right g) i

      pub step-goes : (h : H) (s : Slots) (x : Entry) → I h s [] → I (after h (happens s x)) (step s x) []
      step-goes h s (Called c) i = called-goes h s c i
      step-goes h s Worked i = worked-goes h s i
      step-goes h s Heard i = resting h (said s Heard) s (after_event s) (rests.heard h s i)

      -- what has happened before a run, and what happens in it
      pub run-goes : (xs : List Entry) (h : H) (s : Slots) → I h s [] → I (after h (over none after happens xs s)) (run xs s) []
      run-goes [] h s i = rw (is.right h) i
      run-goes (x ∷ xs) h s i =
          rw (← is.assoc h (happens s x) (over none after happens xs (step s x))) (run-goes xs (after h (happens s x)) (step s x) (step-goes h s x i))

-- a history that is told of effects alone

pub record GoesUntold {H : Type 0} (after : H → H → H) (told : Effect → Slots → H) (I : H → Slots → List Effect → Type 0) : Type 0 where
  pub row : (h : H) (s : Slots) (e : Effect) (es : List Effect) → I h s (e ∷ es) → I (after h (told e s)) (row e s).slots ((row e s).caused ++ es)
  pub call : (h : H) (s : Slots) (c : Call) → I h s [] → I h (begin c s).done.slots (begin c s).done.caused
  pub job : (h : H) (s : Slots) (job : Job) → next_job s.promises ≡ Some job → I h s [] → I h (with_promises (after_next_job s.promises) s) (job_effects job)
  pub answered : (h : H) (s : Slots) (p : PromiseId) → I h s [] → I h (with_promises (watch p s.promises) s) []
  pub older : (h : H) (s : Slots) → I h s [] → I h (older s) []

pub record RestsUntold {H : Type 0} (I : H → Slots → List Effect → Type 0) : Type 0 where
  pub heard : (h : H) (s : Slots) → I h s [] → I h (after_event s) []

module _ {H : Type 0} (none : H) (after : H → H → H) (is : IsHistory none after) (told : Effect → Slots → H) (I : H → Slots → List Effect → Type 0)
    (goes : GoesUntold after told I) where
  abbrev unsaid : Slots → Entry → H
  unsaid s x = none

  unsaid-goes : Goes after told unsaid I
  unsaid-goes = record {
    row = goes.row;
    call = λ h s c i. rw (is.right h) (goes.call h s c i);
    job = λ h s job e i. rw (is.right h) (goes.job h s job e i);
    idle = λ h s e i. rw (is.right h) i;
    answered = goes.answered;
    older = goes.older;
  }

  pub called-goes_untold : (h : H) (s : Slots) (c : Call) → I h s [] → I (after h (in_step none after told s (Called c))) (step s (Called c)) []
  called-goes_untold h s c i = rw (is.left (in_step none after told s (Called c))) at (called-goes none after is told unsaid I unsaid-goes h s c i)

  pub worked-goes_untold : (h : H) (s : Slots) → I h s [] → I (after h (in_step none after told s Worked)) (step s Worked) []
  worked-goes_untold h s i = rw (is.left (in_step none after told s Worked)) at (worked-goes none after is told unsaid I unsaid-goes h s i)

  module _ (rests : RestsUntold I) where
    unsaid-rests : Rests after unsaid I
    unsaid-rests = record { heard = λ h s i. rw (is.right h) (rests.heard h s i) }

    pub step-goes_untold : (h : H) (s : Slots) (x : Entry) → I h s [] → I (after h (in_step none after told s x)) (step s x) []
    step-goes_untold h s x i = rw (is.left (in_step none after told s x)) at (step-goes none after is told unsaid I unsaid-goes unsaid-rests h s x i)

    pub run-goes_untold : (xs : List Entry) (h : H) (s : Slots) → I h s [] → I (after h (over none after (in_step none after told) xs s)) (run xs s) []
    run-goes_untold xs h s i =
        subst (λ (f : Slots → Entry → H). I (after h (over none after f xs s)) (run xs s) [])
        (λ k s x. is.left (in_step none after told s x) k) (run-goes none after is told unsaid I unsaid-goes unsaid-rests xs h s i)

    -- from where nothing has happened
    pub run-holds : (xs : List Entry) (s : Slots) → I none s [] → I (over none after (in_step none after told) xs s) (run xs s) []
    run-holds xs s i = rw (is.left (over none after (in_step none after told) xs s)) at (run-goes_untold xs none s i)

-- where nothing is told at all

pub record Stays (I : Slots → List Effect → Type 0) : Type 0 where
  pub row : (s : Slots) (e : Effect) (es : List Effect) → I s (e ∷ es) → I (row e s).slots ((row e s).caused ++ es)
  pub call : (s : Slots) (c : Call) → I s [] → I (begin c s).done.slots (begin c s).done.caused
  pub job : (s : Slots) (job : Job) → next_job s.promises ≡ Some job → I s [] → I (with_promises (after_next_job s.promises) s) (job_effects job)
  pub answered : (s : Slots) (p : PromiseId) → I s [] → I (with_promises (watch p s.promises) s) []
  pub older : (s : Slots) → I s [] → I (older s) []

module _ (I : Slots → List Effect → Type 0) (stays : Stays I) where
  abbrev It : Unit {0} → Slots → List Effect → Type 0
  It h s es = I s es

  stays-goes : GoesUntold {H = Unit {0}} (λ f g. tt) (λ e s. tt) It
  stays-goes = record { row = λ h. stays.row; call = λ h. stays.call; job = λ h. stays.job; answered = λ h. stays.answered; older = λ h. stays.older }

  pub called-stays : (s : Slots) (c : Call) → I s [] → I (step s (Called c)) []
  called-stays s c i = called-goes_untold tt (λ f g. tt) untold (λ e s. tt) It stays-goes tt s c i

  pub worked-stays : (s : Slots) → I s [] → I (step s Worked) []
  worked-stays s i = worked-goes_untold tt (λ f g. tt) untold (λ e s. tt) It stays-goes tt s i

  pub run-stays : ((s : Slots) → I s [] → I (after_event s) []) → (xs : List Entry) (s : Slots) → I s [] → I (run xs s) []
  run-stays heard xs s i = run-goes_untold tt (λ f g. tt) untold (λ e s. tt) It stays-goes (record { heard = λ h. heard }) xs tt s i
