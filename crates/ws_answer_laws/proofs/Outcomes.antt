-- The steps of a request of a byte stream that were performed left its promise with their outcome, which it keeps.
use Rattle.std.proofs.Common.{◌≡◌, Bool, true, false, if◌then◌else◌, List, [], ◌∷◌, ◌++◌, All, Err, refl, append_assoc, append-nil}
use Rattle.std.proofs.lemmas.List.Elements.{All-nil, All-cons, All-append, All-weaker}
use Rattle.ws_value.specs.declared.{ids.StreamId.{StreamId}}
use Rattle.ws_value.specs.declared.value.{Outcome.{Outcome}, Outcome.TheVariants.{Given, Finished}, Plain.TheVariants.{Undefined}, Value.TheVariants.{Plain as PlainValue, Bytes}}
use Rattle.ws_steps.specs.declared.{calls.Reply.{Reply}, calls.Reply.TheVariants.{Promise as Named}, effects.Effect.{Effect}, effects.Effect.TheVariants.{ChunkSteps, CloseSteps, CloseStepsWith, ErrorSteps}}
use Rattle.ws_steps.specs.declared.{readable.ReadRequest.{ReadRequest}, readable.ReadRequest.TheVariants.{Promise, Pipe, Tee}}
use Rattle.ws_steps.specs.Calls.{begin, named}
use Rattle.ws_steps.specs.Histories.{is_same, along}
use Rattle.ws_steps.specs.Jobs.{begin_job}
use Rattle.ws_steps.specs.Laws.{HasOutcome}
use Rattle.ws_steps.specs.Promises.{Table, is_pending, settle, answer}
use Rattle.ws_steps.specs.Run.{Entry as Step, Called, Worked, Heard, step, run}
use Rattle.ws_steps.specs.Slots.{Slots, Done as Begun}
use Rattle.ws_steps.specs.Turns.{row, moments, performed}
use Rattle.ws_laws.proofs.Outcomes.{Keeps, keeps-same, keeps-watch}
use Rattle.ws_laws.proofs.Rows.{row-changes}
use Rattle.ws_laws.proofs.Stays.{keeps-changes, each_outcome_stays, each_mark_stays}
use Rattle.ws_laws.proofs.Straight.{straight_before, settled_straight, answered_straight}
use Rattle.ws_laws.proofs.Truth.{refuted}
use Rattle.ws_laws.proofs.Walker.{IsHistory, performed-goes, nothing-told}
use Rattle.ws_answer_laws.proofs.Told.{Done, effect_done, step_done, run_done}

-- the promise of a request has settled so
abbrev IsSettled : Table → Done → Type 0
IsSettled t d = (is_pending d.outcome ≡ false) × HasOutcome t d.request d.outcome

tells-later : (t z : Table) (r : ReadRequest) (o : Outcome) → Keeps t z → is_pending o ≡ false → HasOutcome t r o → HasOutcome z r o
tells-later t z (Promise p) o k n h = k.outcome p o n h
tells-later t z (Pipe p) o k n h = tt
tells-later t z (Tee a) o k n h = tt

settled-later : (t z : Table) (ds : List Done) → Keeps t z → All (IsSettled t) ds → All (IsSettled z) ds
settled-later t z ds k a = All-weaker (IsSettled t) (IsSettled z) (λ d s. (s.0, tells-later t z d.request d.outcome k s.0 s.1)) ds a

module _ (i : StreamId) where
  one_settled : (same : Bool) (t : Table) (d : Done) → IsSettled t d → All (IsSettled t) (if same then d ∷ [] else [])
  one_settled true t d s = All-cons (IsSettled t) d [] s (All-nil (IsSettled t))
  one_settled false t d s = All-nil (IsSettled t)

  row-settled : (e : Effect) (s : Slots) → (row e s).slots.promises.astray ≡ false → All (IsSettled (row e s).slots.promises) (effect_done i e)
  unfolding row
  row-settled (ChunkSteps j (Promise p) v) s a = one_settled (is_same i j) (answer p (Given v) s.promises) _ (refl, answered_straight p (Given v) s.promises a)
  row-settled (CloseSteps j (Promise p)) s a =
      one_settled (is_same i j) (answer p (Finished (PlainValue Undefined)) s.promises) _ (refl, answered_straight p (Finished (PlainValue Undefined)) s.promises a)
  row-settled (CloseStepsWith j (Promise p) b) s a =
      one_settled (is_same i j) (answer p (Finished (Bytes b)) s.promises) _ (refl, answered_straight p (Finished (Bytes b)) s.promises a)
  row-settled (ErrorSteps j (Promise p) e) s a = one_settled (is_same i j) (settle p (Err e) s.promises) _ (refl, settled_straight p (Err e) s.promises a)
  row-settled (ChunkSteps j (Pipe p) v) s a = one_settled (is_same i j) s.promises _ (refl, tt)
  row-settled (ChunkSteps j (Tee k) v) s a = one_settled (is_same i j) s.promises _ (refl, tt)
  row-settled (CloseSteps j (Pipe p)) s a = one_settled (is_same i j) s.promises _ (refl, tt)
  row-settled (CloseSteps j (Tee k)) s a = one_settled (is_same i j) s.promises _ (refl, tt)
  row-settled (CloseStepsWith j (Pipe p) b) s a = one_settled (is_same i j) s.promises _ (refl, tt)
  row-settled (CloseStepsWith j (Tee k) b) s a = one_settled (is_same i j) s.promises _ (refl, tt)
  row-settled (ErrorSteps j (Pipe p) e) s a = one_settled (is_same i j) s.promises _ (refl, tt)
  row-settled (ErrorSteps j (Tee k) e) s a = one_settled (is_same i j) s.promises _ (refl, tt)
  row-settled e s a = All-nil (IsSettled (row e s).slots.promises)

  abbrev SettledIn : List Done → Slots → List Effect → Type 0
  SettledIn ds s es = s.promises.astray ≡ false → All (IsSettled s.promises) ds

  lists : IsHistory {H = List Done} [] ◌++◌
  lists = record { left = λ h. refl; right = append-nil; assoc = append_assoc }

  row-keeps : (e : Effect) (s : Slots) → Keeps s.promises (row e s).slots.promises
  row-keeps e s = row-changes (Keeps s.promises) (keeps-changes s.promises) e s (keeps-same s.promises)

  row-settles : (ds : List Done) (s : Slots) (e : Effect) (es : List Effect) → SettledIn ds s (e ∷ es) → SettledIn (ds ++ effect_done i e) (row e s).slots ((row e s).caused ++ es)
  row-settles ds s e es k a =
      let z : Table = (row e s).slots.promises in
      All-append (IsSettled z) ds (effect_done i e) (settled-later s.promises z ds (row-keeps e s) (k (straight_before s.promises z (row-keeps e s) a))) (row-settled e s a)

  performed-settled : (d : Begun) → SettledIn (along [] ◌++◌ (λ e s. effect_done i e) (moments d)) (performed d) []
  performed-settled d = performed-goes [] ◌++◌ lists (λ e s. effect_done i e) SettledIn row-settles [] d (λ a. All-nil (IsSettled d.slots.promises))

  named-keeps : (reply : Reply) (s : Slots) → Keeps s.promises (named reply s).promises
  named-keeps (Named p) s = keeps-watch p s.promises
  named-keeps _ s = keeps-same s.promises

  step-settled : (s : Slots) (x : Step) → (step s x).promises.astray ≡ false → All (IsSettled (step s x).promises) (step_done i s x)
  step-settled s (Called c) a =
      let z : Slots = performed (begin c s).done in
      let k = named-keeps (begin c s).reply z in
      settled-later z.promises (named (begin c s).reply z).promises (step_done i s (Called c)) k (performed-settled (begin c s).done (straight_before z.promises (named (begin c s).reply z).promises k a))
  step-settled s Worked a = performed-settled (begin_job s) a
  step-settled s Heard a = rw (nothing-told [] ◌++◌ lists (λ e s. effect_done i e) s) (All-nil (IsSettled (step s Heard).promises))

  -- to the end of a run

  abbrev IsTold : Table → Done → Type 0
  IsTold t d = HasOutcome t d.request d.outcome

  stays-told : (xs : List Step) (s : Slots) (r : ReadRequest) (o : Outcome) → is_pending o ≡ false → HasOutcome s.promises r o → HasOutcome (run xs s).promises r o
  stays-told xs s (Promise p) o n h = each_outcome_stays s xs p o n h
  stays-told xs s (Pipe p) o n h = tt
  stays-told xs s (Tee k) o n h = tt

  pub run-told : (xs : List Step) (s : Slots) → (run xs s).promises.astray ≡ false → All (IsTold (run xs s).promises) (run_done i xs s)
  run-told [] s a = All-nil (IsTold s.promises)
  run-told (x ∷ xs) s a =
      let z : Slots = step s x in
      let t : Table = (run xs z).promises in
      let straight : z.promises.astray ≡ false = refuted z.promises.astray t.astray (each_mark_stays z xs) a in
      All-append (IsTold t) (step_done i s x) (run_done i xs z)
      (All-weaker (IsSettled z.promises) (IsTold t) (λ d h. stays-told xs z d.request d.outcome h.0 h.1) (step_done i s x) (step-settled s x straight))
      (run-told xs z a)
