-- Jobs and enqueuings by places that were found for several: those of the first, and of the others.
use Rattle.std.proofs.Common.{◌≡◌, ◌∙◌, ◌+◌, ℕ, List, [], ◌∷◌, Some, refl, sym, ap, subst, arith}
use Rattle.std.specs.Prelude.{vec_capacity}
use Rattle.ws_steps.specs.declared.effects.Effect.{Effect}
use Rattle.ws_steps.specs.declared.promises.Job.{Job}
use Rattle.ws_steps.specs.declared.calls.Call.{Call}
use Rattle.ws_steps.specs.Begun.{Begun as BegunCall, does}
use Rattle.ws_steps.specs.Calls.{begin}
use Rattle.ws_steps.specs.Jobs.{begin_job, job_effects}
use Rattle.ws_steps.specs.Promises.{next_job, after_next_job}
use Rattle.ws_steps.specs.Slots.{Done as Left}
use Rattle.ws_tables.specs.View.{slots_of}
use Rattle.ws_tables.specs.Room.{AreEnough, HasRoomForAll, IsKept, IsResting, KeepsRecords}
use Rattle.ws_tables.specs.declared.tables.Tables.{Tables}
use Rattle.ws_tables.proofs.Counts.{next-more}
use Rattle.ws_tables.proofs.Places.{kept_promises}
use Rattle.ws_begin.specs.Begin.{IsBegun}
use Rattle.ws_direct.specs.Directly.{PerformsDirectly}
use Rattle.ws_calls.specs.Credit.{HasPlacesFor, IsAtHand}
use Rattle.ws_calls.specs.First.{Fits, FitsFirst, effect_of, without_first}
use Rattle.ws_calls.specs.declared.first.First.{First}
use Rattle.ws_calls.proofs.AtOnce.{begins-with, begins-without}
use Rattle.ws_calls.proofs.Beginning.{call-takes, job-takes}
use Rattle.ws_calls.proofs.Credit.{Begun, IsModest, others, afford, have-places, afford-none, fits-one, left-to-others, modest-first, places-of-others}

same-records : (t : Tables) → KeepsRecords t (without_first t)
same-records t = record { streams = refl; grown = refl; waiting = refl; pipes = refl; signals = refl; full = refl; aborts = refl; tees = refl; uncopied = refl }

kept-first : (t : Tables) → IsKept t → IsKept (without_first t)
kept-first t kept = kept_promises t (record t.promises { table = after_next_job t.promises.table }) (next-more t.promises.table) kept

-- the first job, where it has one effect

job-begun : (t : Tables) (job : Job) (e : Effect) → IsResting t → next_job t.promises.table ≡ Some job → job_effects job ≡ e ∷ [] → Begun (e ∷ []) t (without_first t)
job-begun t job e rest there one =
    let begun = begins-with t job e there one in
    record {
      takes = job-takes t (slots_of (without_first t)) (e ∷ []) (ap (λ (d : Left). d.slots) (sym begun)) (ap (λ (d : Left). d.caused) (sym begun));
      places = refl;
      records = same-records t;
      kept = rest.kept;
      kept' = kept-first t rest.kept;
    }

one-afforded : (n : ℕ) (first : First) (job : Job) (t : Tables) → IsResting t → next_job t.promises.table ≡ Some job → job_effects job ≡ effect_of first ∷ [] → IsAtHand t → HasPlacesFor (n + 1) t
    → HasRoomForAll (effect_of first ∷ others n) (without_first t) × AreEnough (vec_capacity t.under_way) (effect_of first ∷ others n) (without_first t)
one-afforded n first job t rest there one hand has =
    afford n (effect_of first) t (without_first t) (modest-first first) (job-begun t job (effect_of first) rest there one) (have-places t rest.kept hand.grown) hand has

pub one-saved : (n : ℕ) (first : First) (job : Job) (t t' : Tables) → IsResting t → next_job t.promises.table ≡ Some job → job_effects job ≡ effect_of first ∷ [] → IsAtHand t → HasPlacesFor (n + 1) t
    → PerformsDirectly (effect_of first ∷ []) (without_first t) t' → t'.caused.effects ≡ [] → HasPlacesFor n t'
one-saved n first job t t' rest there one hand has did quiet =
    let all = one-afforded n first job t rest there one hand has in
    left-to-others n (effect_of first) (without_first t) t' did quiet all.0 all.1

-- where it has none

pub none-saved : (n : ℕ) (job : Job) (t : Tables) → IsResting t → next_job t.promises.table ≡ Some job → job_effects job ≡ [] → IsAtHand t → HasPlacesFor (n + 1) t
    → IsBegun (without_first t) × HasPlacesFor n (without_first t)
none-saved n job t rest there none hand has =
    let begun = begins-without t job there none in
    let all =
    afford-none n t (without_first t)
    (record {
      takes = job-takes t (slots_of (without_first t)) [] (ap (λ (d : Left). d.slots) (sym begun)) (ap (λ (d : Left). d.caused) (sym begun));
      places = refl;
      records = same-records t;
      kept = rest.kept;
      kept' = kept-first t rest.kept;
    })
    has in
    let has' = places-of-others n (without_first t) all.0 all.1 in (
      record {
        others = rest.others;
        turns = record { empty = rest.under_way; places = subst (λ es. AreEnough (vec_capacity t.under_way) es (without_first t)) (sym rest.caused) (let h = has'.under_way in omega (arith, h)) };
        room = subst (λ es. HasRoomForAll es (without_first t)) (sym rest.caused) has'.any;
        kept = kept-first t rest.kept;
      },
      has',
    )

-- places for several are places for the first
pub saved-first : (n : ℕ) (t : Tables) → IsResting t → IsAtHand t → HasPlacesFor (n + 1) t → FitsFirst t
saved-first n t rest hand has = record {
  one = λ first job there is.
      let all = one-afforded n first job t rest there is hand has in
      fits-one n (effect_of first) (without_first t) all.0 all.1 rest.under_way (kept-first t rest.kept);
  none = λ job there is. (none-saved n job t rest there is hand has).0;
}

-- a call that begins with one effect

call-afforded : (n : ℕ) (c : Call) (e : Effect) (t : Tables) → IsModest e → IsResting t → begin c (slots_of t) ≡ does (e ∷ []) (slots_of t) → IsAtHand t → HasPlacesFor (n + 1) t
    → HasRoomForAll (e ∷ others n) t × AreEnough (vec_capacity t.under_way) (e ∷ others n) t
call-afforded n c e t modest rest is hand has =
    afford n e t t modest
    (record {
      takes = call-takes c t (slots_of t) (e ∷ []) (ap (λ (b : BegunCall). b.done.slots) (sym is)) (ap (λ (b : BegunCall). b.done.caused) (sym is));
      places = refl;
      records = record { streams = refl; grown = refl; waiting = refl; pipes = refl; signals = refl; full = refl; aborts = refl; tees = refl; uncopied = refl };
      kept = rest.kept;
      kept' = rest.kept;
    })
    (have-places t rest.kept hand.grown) hand has

pub call-fits-by : (n : ℕ) (c : Call) (e : Effect) (t : Tables) → IsModest e → IsResting t → begin c (slots_of t) ≡ does (e ∷ []) (slots_of t) → IsAtHand t → HasPlacesFor (n + 1) t → Fits e t
call-fits-by n c e t modest rest is hand has = let all = call-afforded n c e t modest rest is hand has in fits-one n e t all.0 all.1 rest.under_way rest.kept

pub call-saved : (n : ℕ) (c : Call) (e : Effect) (t t' : Tables) → IsModest e → IsResting t → begin c (slots_of t) ≡ does (e ∷ []) (slots_of t) → IsAtHand t → HasPlacesFor (n + 1) t
    → PerformsDirectly (e ∷ []) t t' → t'.caused.effects ≡ [] → HasPlacesFor n t'
call-saved n c e t t' modest rest is hand has did quiet =
    let all = call-afforded n c e t modest rest is hand has in left-to-others n e t t' did quiet all.0 all.1
