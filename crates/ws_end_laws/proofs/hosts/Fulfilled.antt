-- The writes of a pipe without preventClose whose promise is fulfilled (`each_write_of_a_fulfilled_pipe_succeeded`).
use Rattle.std.proofs.Common.{◌≡◌, ℕ, Bool, true, false, not, ◌&&◌, List, [], ◌∷◌, ◌++◌, length, Option, Some, None, slice_get, refl, sym, ap, subst, ◌∙◌}
use Rattle.std.proofs.lemmas.List.Elements.{All-nil}
use Rattle.ws_value.specs.declared.{ids.PipeId.{PipeId}, ids.PromiseId.{PromiseId}}
use Rattle.ws_value.specs.declared.value.{Outcome.TheVariants.{Fulfilled}, Plain.TheVariants.{Undefined}}
use Rattle.ws_steps.specs.declared.calls.{Call.{Call}}
use Rattle.ws_steps.specs.declared.pipes.Prevent.{Prevent}
use Rattle.ws_steps.specs.Calls.{begin}
use Rattle.ws_steps.specs.Laws.{AllFulfilled}
use Rattle.ws_steps.specs.Pipes as pipe
use Rattle.ws_steps.specs.Promises.{Table, outcome_at}
use Rattle.ws_steps.specs.Run.{Entry, Called, run, step}
use Rattle.ws_steps.specs.Slots.{Slots, empty, writable_at}
use Rattle.ws_steps.specs.Writable.{is_closing, is_writable}
use Rattle.ws_laws.proofs.Truth.{and_left, and_right, not_false}
use Rattle.ws_pipe_laws.specs.pipes.PipeHistory.{is_live, run_course, run_moments, promises_made}
use Rattle.ws_pipe_laws.proofs.pipes.Kept.{each_pipe_stays}
use Rattle.ws_end_laws.proofs.wrote.Fronts.{run-append}
use Rattle.ws_end_laws.proofs.ends.PromiseEnds.{ended-fulfilled}
use Rattle.ws_end_laws.specs.hosts.HostLaws.{next_pipe, EachWriteOfAFulfilledPipeSucceeded}
use Rattle.ws_end_laws.proofs.hosts.Called.{place-last}
use Rattle.ws_end_laws.proofs.hosts.Origins.{pipe-origin}
use Rattle.ws_end_laws.proofs.hosts.Made.{run-unmade, over_made}
use Rattle.ws_end_laws.proofs.hosts.UnreadRuns.{none-made}
use Rattle.ws_end_laws.proofs.hosts.Making.{New}
use Rattle.ws_end_laws.proofs.hosts.Ended.{Makes, fulfilled-closed, state_closed, writable_open}
use Rattle.ws_value.specs.declared.ids.StreamId.{StreamId}
use Rattle.ws_steps.specs.declared.writable.WritableState.TheVariants.{Closed}
use Rattle.ws_end_laws.specs.ends.PassedAll.{is_failing}
use Rattle.ws_end_laws.proofs.successes.Successes.{each_write_before_a_failure_succeeded}
use Rattle.ws_end_laws.proofs.successes.Wrote.{fulfilled-late}

past : (ps : List pipe.Slots) → slice_get ps (length ps) ≡ None
past [] = refl
past (x ∷ ps) = past ps

some_pipe : (x y : pipe.Slots) → ◌≡◌ {A = Option pipe.Slots} (Some x) (Some y) → x ≡ y
some_pipe x y e = cc

none-fulfilled : (t : Table) (ds : List PromiseId) → ds ≡ [] → AllFulfilled t ds
none-fulfilled t ds e = subst (AllFulfilled t) (sym e) (All-nil (λ d. outcome_at t d ≡ Some (Fulfilled Undefined)))

-- a run in which a call makes a pipe
module _ (before after : List Entry) (c : Call) where
  abbrev s : Slots
  s = run before empty

  abbrev z : Slots
  z = (begin c s).done.slots

  abbrev whole : List Entry
  whole = before ++ Called c ∷ after

  abbrev p : PipeId
  p = next_pipe before

  module _ (new : New s (begin c s)) where
    abbrev y : pipe.Slots
    y = new.slots

    there-now : slice_get z.pipes p.0 ≡ Some y
    there-now = ap (λ (ps : List pipe.Slots). slice_get ps p.0) new.made ∙ place-last s.pipes y

    -- it keeps its destination, and what it isn't to do
    kept : (x : pipe.Slots) → slice_get (run whole empty).pipes p.0 ≡ Some x → (x.dest ≡ y.dest) × (x.prevent ≡ y.prevent)
    kept x e =
        let k = (each_pipe_stays p s).in_call c y there-now in
        let l = (each_pipe_stays p (step s (Called c))).in_run after k.slots k.there in
        let is : x ≡ l.slots = some_pipe x l.slots (sym e ∙ (ap (λ (z : Slots). slice_get z.pipes p.0) (run-append before (Called c ∷ after) empty) ∙ l.there)) in
        (ap (λ (w : pipe.Slots). w.dest) is ∙ (l.same.dest ∙ k.same.dest), ap (λ (w : pipe.Slots). w.prevent) is ∙ (l.same.prevent ∙ k.same.prevent))

    -- where its destination was writable and not closing as it was made, that is closed
    closed-now : (x : pipe.Slots) → slice_get (run whole empty).pipes p.0 ≡ Some x → x.prevent.close ≡ false → (run_course p whole empty).ended ≡ None ∷ []
        → is_writable (writable_at y.dest z).state && not (is_closing (writable_at y.dest z)) ≡ true → is_failing (writable_at x.dest (run whole empty)).state ≡ false
    closed-now x e may ended f =
        let is = kept x e in
        let m : Makes before c = record {
          new = new;
          closes = ap (λ (q : Prevent). q.close) (sym is.1) ∙ may;
          open_now = record {
            closing = not_false (is_closing (writable_at y.dest z)) (and_right (is_writable (writable_at y.dest z).state) (not (is_closing (writable_at y.dest z))) f);
            closed = writable_open (writable_at y.dest z).state (and_left (is_writable (writable_at y.dest z).state) (not (is_closing (writable_at y.dest z))) f);
          };
        } in
        let state : (writable_at y.dest (run whole empty)).state ≡ Closed = state_closed (slice_get (run whole empty).streams y.dest.0) (fulfilled-closed before after c m ended) in
        ap (λ (j : StreamId). is_failing (writable_at j (run whole empty)).state) is.0 ∙ ap is_failing state

    made-succeeded : (x : pipe.Slots) → slice_get (run whole empty).pipes p.0 ≡ Some x → x.prevent.close ≡ false → is_live x.phase ≡ false → (run_course p whole empty).ended ≡ None ∷ []
        → AllFulfilled (run whole empty).promises (promises_made p (run_moments whole empty))
    made-succeeded x e may late ended = by (is_writable (writable_at y.dest z).state && not (is_closing (writable_at y.dest z))) refl
      where
        by : (b : Bool) → is_writable (writable_at y.dest z).state && not (is_closing (writable_at y.dest z)) ≡ b → AllFulfilled (run whole empty).promises (promises_made p (run_moments whole empty))
        by true f = each_write_before_a_failure_succeeded whole p x e late (closed-now x e may ended f)
        by false f =
            none-fulfilled (run whole empty).promises (promises_made p (run_moments whole empty))
            (sym (over_made p whole empty)
            ∙ none-made p y.dest before after c (run-unmade p before (past s.pipes)) new.stands f (record { slots = y; there = there-now; dest = refl; idle = new.idle }))

pub each_write_of_a_fulfilled_pipe_succeeded : EachWriteOfAFulfilledPipeSucceeded
each_write_of_a_fulfilled_pipe_succeeded entries p x v e fulfilled may =
    let o = pipe-origin entries p x e in
    let whole : List Entry = o.before ++ Called o.call ∷ o.after in
    let is : p ≡ next_pipe o.before = ap (λ (n : ℕ). record { 0 = n }) o.number in
    subst (λ (es : List Entry). slice_get (run es empty).pipes p.0 ≡ Some x → (run_course p es empty).ended ≡ None ∷ [] → AllFulfilled (run es empty).promises (promises_made p (run_moments es empty))) (sym o.split)
    (subst (λ (q : PipeId). slice_get (run whole empty).pipes q.0 ≡ Some x → (run_course q whole empty).ended ≡ None ∷ [] → AllFulfilled (run whole empty).promises (promises_made q (run_moments whole empty))) (sym is)
    (λ f g. made-succeeded o.before o.after o.call o.new x f may (fulfilled-late entries p x v e fulfilled) g)) e (ended-fulfilled entries p x v e fulfilled)
