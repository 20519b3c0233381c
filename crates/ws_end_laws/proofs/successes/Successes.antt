-- The writes of a pipe whose action has begun, or which is over (`each_write_before_a_failure_succeeded`).
use Rattle.std.proofs.Common.{◌≡◌, ◌⊎◌, inl, inr, ℕ, zero, suc, ◌<◌, Bool, true, false, not, ◌&&◌, ◌||◌, get_or, All, List, [], ◌∷◌, ◌++◌, length, Option, Some, None, slice_get, refl, sym, ap, subst, ◌∙◌, arith, append_assoc, append-nil}
use Rattle.std.proofs.lemmas.List.Elements.{All-nil, All-cons, All-head, All-tail}
use Rattle.ws_value.specs.declared.{ids.PipeId.{PipeId}, ids.PromiseId.{PromiseId}, ids.StreamId.{StreamId}}
use Rattle.ws_value.specs.declared.value.{Outcome.TheVariants.{Fulfilled}, Plain.TheVariants.{Undefined}}
use Rattle.ws_steps.specs.declared.calls.{Call.{Call}}
use Rattle.ws_steps.specs.declared.writable.WritableState.{WritableState}
use Rattle.ws_steps.specs.Pipes as pipe
use Rattle.ws_steps.specs.Promises.{outcome_at}
use Rattle.ws_steps.specs.Slots.{Slots, empty, writable_at}
use Rattle.ws_steps.specs.Turns.{Moment}
use Rattle.ws_steps.specs.Calls.{begin}
use Rattle.ws_steps.specs.Run.{Entry, Called, run, step, moments_in}
use Rattle.ws_steps.specs.Writable.{is_errored, is_erroring}
use Rattle.ws_steps.specs.Histories.{along, in_step, over}
use Rattle.ws_steps.specs.WritableHistory.{effect_promised, run_promised}
use Rattle.ws_steps.specs.Laws.{AllFulfilled}
use Rattle.ws_pipe_laws.specs.pipes.PipeHistory.{effect_promises, run_moments, promises_made}
use Rattle.ws_end_laws.proofs.wrote.Fronts.{run-append}
use Rattle.ws_end_laws.specs.hosts.HostLaws.{next_pipe}
use Rattle.ws_end_laws.proofs.hosts.PipedRuns.{run-last}
use Rattle.ws_end_laws.proofs.successes.Appended.{AllIn, Writings, no_writings, writings_then, writings-history, effect_writings, step_writings}
use Rattle.ws_end_laws.proofs.hosts.Made.{run-unmade, over_made}
use Rattle.ws_end_laws.proofs.hosts.Doomed.{Doomed}
use Rattle.ws_end_laws.proofs.hosts.Making.{New}
use Rattle.ws_end_laws.proofs.hosts.Origins.{pipe-origin}
use Rattle.ws_end_laws.proofs.hosts.UnreadRuns.{none-made}
use Rattle.ws_end_laws.proofs.hosts.Called.{place-last}
use Rattle.ws_pipe_laws.proofs.locks.Runs.{locked-stays, run-locked}
use Rattle.ws_promise_laws.proofs.Runs.{straight-stays}
use Rattle.ws_pipe_laws.specs.pipes.PipeHistory.{is_live}
use Rattle.ws_pipe_laws.specs.pipes.PipeWrites.{AllSettled}
use Rattle.ws_pipe_laws.proofs.pipes.Kept.{each_pipe_stays}
use Rattle.ws_laws.proofs.Truth.{and_left, and_right, not_false}
use Rattle.ws_end_laws.proofs.hosts.Ended.{writable_open}
use Rattle.ws_steps.specs.Writable.{is_writable, is_closing}
use Rattle.ws_steps.specs.Promises.{Table, is_pending_at}
use Rattle.ws_steps.specs.declared.pipes.Phase.{Phase}
use Rattle.ws_steps.specs.declared.pipes.Phase.TheVariants.{Flowing}
use Rattle.ws_end_laws.specs.ends.PassedAll.{is_failing}
use Rattle.ws_end_laws.specs.successes.Successes.{IsUnrejected, EachWriteBeforeAFailureSucceeded}
use Rattle.ws_end_laws.proofs.successes.Appended.{Writing, Failed, Passed, About, called-writing, step-writing}
use Rattle.ws_pipe_laws.proofs.writes.Settled.{all_settled, run-settled}
use Rattle.ws_end_laws.proofs.successes.Steady.{Steady, SteadyAfter, called-steady, next-steady, rest-steady}
use Rattle.ws_end_laws.proofs.successes.Unrejected.{run-straight, none_is_rejected_before_a_failure}

module _ (p : PipeId) (i : StreamId) where
  abbrev writings : List Entry → Slots → Writings
  writings xs s = over no_writings writings_then (step_writings p i) xs s

  along_both : (ms : List Moment) → along no_writings writings_then (effect_writings p i) ms ≡ record { made = along [] ◌++◌ (effect_promises p) ms; promised = along [] ◌++◌ (effect_promised i) ms }
  along_both [] = refl
  along_both (m ∷ ms) = ap (writings_then (effect_writings p i m.effect m.found)) (along_both ms)

  over_both : (xs : List Entry) (s : Slots) → writings xs s ≡ record { made = over [] ◌++◌ (λ s x. in_step [] ◌++◌ (effect_promises p) s x) xs s; promised = run_promised i xs s }
  over_both [] s = refl
  over_both (x ∷ xs) s =
      ap (λ (f : Writings). writings_then f (writings xs (step s x))) (along_both (moments_in s x))
      ∙ ap (λ (f : Writings). writings_then (record { made = along [] ◌++◌ (effect_promises p) (moments_in s x); promised = along [] ◌++◌ (effect_promised i) (moments_in s x) }) f) (over_both xs (step s x))

  writings-last : (xs : List Entry) (x : Entry) (s : Slots) → writings (xs ++ x ∷ []) s ≡ writings_then (writings xs s) (step_writings p i (run xs s) x)
  writings-last [] x s = writings-history.right (step_writings p i s x)
  writings-last (y ∷ xs) x s =
      ap (λ (f : Writings). writings_then (step_writings p i s y) f) (writings-last xs x (step s y))
      ∙ sym (writings-history.assoc (step_writings p i s y) (writings xs (step s y)) (step_writings p i (run xs (step s y)) x))

  abbrev WritingAfter : List Entry → Type 0
  WritingAfter xs = Writing p i (writings xs empty) (run xs empty) []

  next-writing : (xs : List Entry) (x : Entry) → Writing p i (writings_then (writings xs empty) (step_writings p i (run xs empty) x)) (step (run xs empty) x) [] → WritingAfter (xs ++ x ∷ [])
  next-writing xs x w =
      subst (λ (h : Writings). Writing p i h (run (xs ++ x ∷ []) empty) []) (sym (writings-last xs x empty))
      (subst (λ (s : Slots). Writing p i (writings_then (writings xs empty) (step_writings p i (run xs empty) x)) s []) (sym (run-last xs x empty)) w)

  rest-writing : (ys xs : List Entry) → SteadyAfter p i xs → WritingAfter xs → WritingAfter (xs ++ ys)
  rest-writing [] xs k w = subst WritingAfter (sym (append-nil xs)) w
  rest-writing (y ∷ ys) xs k w =
      subst WritingAfter (append_assoc xs (y ∷ []) ys) (rest-writing ys (xs ++ y ∷ []) (rest-steady p i (y ∷ []) xs k) (next-writing xs y (step-writing p i (writings xs empty) xs y k w)))

at_place : (qs : List PromiseId) (n : ℕ) (d e : PromiseId) → slice_get qs n ≡ Some d → (n < length qs) × (get_or qs n e ≡ d)
at_place [] n d e f = cc
at_place (q ∷ qs) zero d e f = (omega arith, cc)
at_place (q ∷ qs) (suc n) d e f = let k = at_place qs n d e f in let l = k.0 in (omega arith, k.1)

pub all-among : (P : PromiseId → Type 0) (ds qs : List PromiseId) → AllIn ds qs → All P qs → All P ds
all-among P [] qs a b = All-nil P
all-among P (d ∷ ds) qs a b =
    let k = at_place qs a.0.0 d d a.0.1 in
    All-cons P d ds (subst P k.1 (b a.0.0 d k.0)) (all-among P ds qs a.1 b)

-- what has settled and isn't rejected is fulfilled

settled-one : (t : Table) (d : PromiseId) → is_pending_at d t ≡ false → IsUnrejected t d → outcome_at t d ≡ Some (Fulfilled Undefined)
settled-one t d n (inl e) = let m : true ≡ false = rw e at n in absurd (cc)
settled-one t d n (inr e) = e

pub settled-all : (t : Table) (ds : List PromiseId) → AllSettled t ds → All (IsUnrejected t) ds → AllFulfilled t ds
settled-all t [] s a = All-nil (λ d. outcome_at t d ≡ Some (Fulfilled Undefined))
settled-all t (d ∷ ds) s a =
    All-cons (λ d. outcome_at t d ≡ Some (Fulfilled Undefined)) d ds (settled-one t d s.0 (All-head (IsUnrejected t) d ds a)) (settled-all t ds s.1 (All-tail (IsUnrejected t) d ds a))

none-fulfilled : (t : Table) (ds : List PromiseId) → ds ≡ [] → AllFulfilled t ds
none-fulfilled t ds e = subst (AllFulfilled t) (sym e) (All-nil (λ d. outcome_at t d ≡ Some (Fulfilled Undefined)))

pub not_doomed : (state : WritableState) {A : Type 0} → is_failing state ≡ false → is_erroring state || is_errored state ≡ true → A
not_doomed state n d = absurd (grind (arith, n, d))

past : (ps : List pipe.Slots) → slice_get ps (length ps) ≡ None
past [] = refl
past (x ∷ ps) = past ps

some_pipe : (x y : pipe.Slots) → ◌≡◌ {A = Option pipe.Slots} (Some x) (Some y) → x ≡ y
some_pipe x y e = cc

flowing_live : (phase : Phase) {A : Type 0} → phase ≡ Flowing → is_live phase ≡ false → A
flowing_live phase e l = absurd (grind (arith, e, l))

-- a run in which a call makes a pipe
module _ (before after : List Entry) (c : Call) (new : New (run before empty) (begin c (run before empty))) where
  abbrev s : Slots
  s = run before empty

  abbrev z : Slots
  z = (begin c s).done.slots

  abbrev whole : List Entry
  whole = before ++ Called c ∷ after

  abbrev end : Slots
  end = run whole empty

  abbrev p : PipeId
  p = next_pipe before

  abbrev y : pipe.Slots
  y = new.slots

  abbrev made : List PromiseId
  made = promises_made p (run_moments whole empty)

  there-now : slice_get z.pipes p.0 ≡ Some y
  there-now = ap (λ (ps : List pipe.Slots). slice_get ps p.0) new.made ∙ place-last s.pipes y

  -- it keeps its destination
  same-dest : (x : pipe.Slots) → slice_get end.pipes p.0 ≡ Some x → x.dest ≡ y.dest
  same-dest x e =
      let k = (each_pipe_stays p s).in_call c y there-now in
      let l = (each_pipe_stays p (step s (Called c))).in_run after k.slots k.there in
      let is : x ≡ l.slots = some_pipe x l.slots (sym e ∙ (ap (λ (z : Slots). slice_get z.pipes p.0) (run-append before (Called c ∷ after) empty) ∙ l.there)) in
      ap (λ (w : pipe.Slots). w.dest) is ∙ (l.same.dest ∙ k.same.dest)

  module _ (f : is_writable (writable_at y.dest z).state && not (is_closing (writable_at y.dest z)) ≡ true) where
    begun : Steady p y.dest z (begin c s).done.caused
    begun = record {
      x = y;
      there = there-now;
      dest = refl;
      straight = straight-stays.call s c (run-straight before);
      locked = locked-stays.call s c (run-locked before);
      stands = new.stands;
      live = λ l. (
        record {
          closing = not_false (is_closing (writable_at y.dest z)) (and_right (is_writable (writable_at y.dest z).state) (not (is_closing (writable_at y.dest z))) f);
          closed = writable_open (writable_at y.dest z).state (and_left (is_writable (writable_at y.dest z).state) (not (is_closing (writable_at y.dest z))) f);
        },
        new.calm,
      );
      late = λ l. flowing_live y.phase new.flows l;
    }

    made_after : SteadyAfter p y.dest (before ++ Called c ∷ [])
    made_after = next-steady p y.dest before (Called c) (called-steady p y.dest c s begun)

    steady : SteadyAfter p y.dest whole
    steady = subst (SteadyAfter p y.dest) (append_assoc before (Called c ∷ []) after) (rest-steady p y.dest after (before ++ Called c ∷ []) made_after)

    none-yet : (writings p y.dest before empty).made ≡ []
    none-yet = ap (λ (h : Writings). h.made) (over_both p y.dest before empty) ∙ run-unmade p before (past s.pipes)

    first-writing : WritingAfter p y.dest (before ++ Called c ∷ [])
    first-writing =
        next-writing p y.dest before (Called c)
        (called-writing p y.dest (writings p y.dest before empty) c s (begun, Passed (subst (λ (ds : List PromiseId). AllIn ds (writings p y.dest before empty).promised) (sym none-yet) tt)))

    all-writing : WritingAfter p y.dest whole
    all-writing = subst (WritingAfter p y.dest) (append_assoc before (Called c ∷ []) after) (rest-writing p y.dest after (before ++ Called c ∷ []) made_after first-writing)

    among : is_failing (writable_at y.dest end).state ≡ false → Writing p y.dest (writings p y.dest whole empty) end [] → AllIn (writings p y.dest whole empty).made (writings p y.dest whole empty).promised
    among n (Failed d) = not_doomed (writable_at y.dest end).state n d.failed
    among n (Passed a) = a
    among n (About v d ms rest g h a o) = absurd (cc)

    unrejected : is_failing (writable_at y.dest end).state ≡ false → All (IsUnrejected end.promises) made
    unrejected n =
        let both = over_both p y.dest whole empty in
        let of_pipe : (writings p y.dest whole empty).made ≡ made = ap (λ (h : Writings). h.made) both ∙ over_made p whole empty in
        let promised : (writings p y.dest whole empty).promised ≡ run_promised y.dest whole empty = ap (λ (h : Writings). h.promised) both in
        let a : AllIn made (run_promised y.dest whole empty) =
        subst (λ (ds : List PromiseId). AllIn ds (run_promised y.dest whole empty)) of_pipe (subst (AllIn (writings p y.dest whole empty).made) promised (among n all-writing)) in
        all-among (IsUnrejected end.promises) made (run_promised y.dest whole empty) a (none_is_rejected_before_a_failure whole y.dest n)

    none_left : (x : pipe.Slots) → slice_get end.pipes p.0 ≡ Some x → is_live x.phase ≡ false → is_failing (writable_at y.dest end).state ≡ false → x.unsettled ≡ 0
    none_left x e l n =
        let is : steady.x ≡ x = some_pipe steady.x x (sym steady.there ∙ e) in
        by (subst (λ (w : pipe.Slots). is_live w.phase ≡ false → (w.unsettled ≡ 0) ⊎ Doomed (writable_at y.dest end)) is steady.late l)
      where
        by : (x.unsettled ≡ 0) ⊎ Doomed (writable_at y.dest end) → x.unsettled ≡ 0
        by (inl u) = u
        by (inr d) = not_doomed (writable_at y.dest end).state n d.failed

    settled : (x : pipe.Slots) → slice_get end.pipes p.0 ≡ Some x → x.unsettled ≡ 0 → AllSettled end.promises made
    settled x e u =
        let k = run-settled whole p in
        let o = k.1.1.1 p in
        all_settled p made end.promises [] (rw (e, u) at o) k.1.0

    open-succeeded : (x : pipe.Slots) → slice_get end.pipes p.0 ≡ Some x → is_live x.phase ≡ false → is_failing (writable_at y.dest end).state ≡ false → AllFulfilled end.promises made
    open-succeeded x e l n = settled-all end.promises made (settled x e (none_left x e l n)) (unrejected n)

  made-succeeded : (x : pipe.Slots) → slice_get end.pipes p.0 ≡ Some x → is_live x.phase ≡ false → is_failing (writable_at x.dest end).state ≡ false → AllFulfilled end.promises made
  made-succeeded x e l n = by (is_writable (writable_at y.dest z).state && not (is_closing (writable_at y.dest z))) refl
    where
      by : (b : Bool) → is_writable (writable_at y.dest z).state && not (is_closing (writable_at y.dest z)) ≡ b → AllFulfilled end.promises made
      by true f = open-succeeded f x e l (subst (λ (j : StreamId). is_failing (writable_at j end).state ≡ false) (same-dest x e) n)
      by false f =
          none-fulfilled end.promises made
          (sym (over_made p whole empty) ∙ none-made p y.dest before after c (run-unmade p before (past s.pipes)) new.stands f (record { slots = y; there = there-now; dest = refl; idle = new.idle }))

pub each_write_before_a_failure_succeeded : EachWriteBeforeAFailureSucceeded
each_write_before_a_failure_succeeded entries p x e l n =
    let o = pipe-origin entries p x e in
    let whole : List Entry = o.before ++ Called o.call ∷ o.after in
    let is : p ≡ next_pipe o.before = ap (λ (n : ℕ). record { 0 = n }) o.number in
    subst (λ (es : List Entry). slice_get (run es empty).pipes p.0 ≡ Some x → is_failing (writable_at x.dest (run es empty)).state ≡ false → AllFulfilled (run es empty).promises (promises_made p (run_moments es empty))) (sym o.split)
    (subst (λ (q : PipeId). slice_get (run whole empty).pipes q.0 ≡ Some x → is_failing (writable_at x.dest (run whole empty)).state ≡ false → AllFulfilled (run whole empty).promises (promises_made q (run_moments whole empty))) (sym is)
    (λ f g. made-succeeded o.before o.after o.call o.new x f l g)) e n
