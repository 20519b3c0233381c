-- What stands once a promise was fulfilled for which one reaction waits, which stands at its place.
use Rattle.std.proofs.Common.{◌≡◌, ◌∙◌, ℕ, ◌+◌, Bool, true, false, List, [], ◌∷◌, ◌++◌, length, map, Option, Some, None, Ok, refl, sym, ap, arith}
use Rattle.std.specs.Prelude.{IsSome, slice_get, slice_set}
use Rattle.ws_value.specs.declared.ids.PromiseId.{PromiseId}
use Rattle.ws_value.specs.declared.value.Outcome.TheVariants.{Fulfilled}
use Rattle.ws_value.specs.declared.value.Plain.TheVariants.{Undefined}
use Rattle.ws_steps.specs.Promises.{Table, is_pending, job_of, noted, settle}
use Rattle.ws_steps.specs.declared.calls.Event.{Event}
use Rattle.ws_steps.specs.declared.promises.Job.{Job}
use Rattle.ws_steps.specs.declared.promises.Reaction.{Reaction}
use Rattle.ws_slots.specs.Counts.{one_where_some, unnoted_in, unwatched_in}
use Rattle.ws_slots.specs.Slot.{Slot}
use Rattle.ws_slots.specs.View.{AllWait, WaitAlike, all_waiting, first_reactions, table_of, waiting_elsewhere, waiting_on}
use Rattle.ws_slots.specs.declared.waiting.Waiting.{Waiting}
use Rattle.ws_slots.proofs.AllWaitLemmas.{AllWait-alike, AllWait-settle}
use Rattle.ws_slots.proofs.CountLemmas.{unnoted_in-settle, unwatched_in-same}
use Rattle.ws_slots.proofs.EntryLemmas.{entries_from-alike}
use Rattle.ws_slots.proofs.FirstLemmas.{all-here, all-settle}
use Rattle.ws_slots.proofs.TableLemmas.{settle-open}
use Rattle.ws_slots.proofs.WaitingLemmas.{alike-same, length-waiting_both, waiting_elsewhere-nobody, waiting_on-nobody}

pub some-one : {A : Type 0} (o : Option A) → IsSome o → (x : A) × (o ≡ Some x)
some-one {A} None h = cc
some-one {A} (Some x) h = (x, refl)

-- the promise is open, nobody watches it, and this reaction alone waits for it
pub record WaitsAlone (ss : List (Option Slot)) (i : ℕ) (s : Slot) (r : Reaction) : Type 0 where
  pub there : slice_get ss i ≡ Some (Some s)
  pub pending : is_pending s.outcome ≡ true
  pub leads : s.follows ≡ false
  pub one : s.waits ≡ 1
  pub unwatched : s.rank ≡ None
  pub first : s.first ≡ Some r

-- its slot once it was fulfilled with undefined
abbrev pub ended_of : Slot → Slot
ended_of s = record s { outcome = Fulfilled Undefined; follows = false; waits = 0; first = None }

module _ (p : PromiseId) (ss : List (Option Slot)) (s : Slot) (r : Reaction) (h : WaitsAlone ss p.0 s r) where
  pub shortly-unnoted : unnoted_in (slice_set ss p.0 (Some (ended_of s))) ≡ unnoted_in ss
  shortly-unnoted =
      let sum = unnoted_in-settle ss p.0 s (ended_of s) h.there h.pending refl in
      let none : one_where_some s.rank ≡ 0 = ap one_where_some h.unwatched in
      omega (arith, sum, none)

  pub shortly-unwatched : unwatched_in (slice_set ss p.0 (Some (ended_of s))) ≡ unwatched_in ss
  shortly-unwatched = unwatched_in-same ss p.0 s (ended_of s) h.there refl

  module _ (ws : List Waiting) (kept : AllWait ss (all_waiting ss ws)) where
    here : waiting_on p.0 (all_waiting ss ws) ≡ r ∷ waiting_on p.0 ws
    here = all-here p.0 ss ws s h.there ∙ ap (λ x. first_reactions x ++ waiting_on p.0 ws) h.first

    others : waiting_on p.0 ws ≡ []
    others = waiting_on-nobody p.0 ws (omega (arith, kept.counted p.0 s h.there, h.one, ap length here))

    alone : waiting_on p.0 (all_waiting ss ws) ≡ r ∷ []
    alone = here ∙ ap (λ rs. r ∷ rs) others

    alike : WaitAlike (all_waiting (slice_set ss p.0 (Some (ended_of s))) ws) (waiting_elsewhere p.0 (all_waiting ss ws))
    alike = all-settle ss ws ws p.0 s (ended_of s) h.there refl (alike-same (sym (waiting_elsewhere-nobody p.0 ws others)))

    pub shortly-kept : AllWait (slice_set ss p.0 (Some (ended_of s))) (all_waiting (slice_set ss p.0 (Some (ended_of s))) ws)
    shortly-kept = AllWait-alike _ _ _ alike (AllWait-settle ss (all_waiting ss ws) p.0 s (ended_of s) h.there h.pending refl kept)

    pub shortly-count : length (all_waiting (slice_set ss p.0 (Some (ended_of s))) ws) + 1 ≡ length (all_waiting ss ws)
    shortly-count = omega (arith, alike.count, length-waiting_both p.0 (all_waiting ss ws), ap length alone)

    pub shortly-table : (js : List Job) (n : ℕ) (ps : List Event) (b : Bool)
        → table_of (slice_set ss p.0 (Some (ended_of s))) (all_waiting (slice_set ss p.0 (Some (ended_of s))) ws) (js ++ job_of (Ok Undefined) r ∷ []) n ps b
        ≡ settle p (Ok Undefined) (table_of ss (all_waiting ss ws) js n ps b)
    shortly-table js n ps b =
        let all : List Waiting = all_waiting ss ws in
        let left : List Reaction → Table = λ (rs : List Reaction). table_of (slice_set ss p.0 (Some (ended_of s))) (waiting_elsewhere p.0 all) (js ++ map (job_of (Ok Undefined)) rs) n ps b in
        let settled : settle p (Ok Undefined) (table_of ss all js n ps b) ≡ noted p (left (waiting_on p.0 all)) s.rank = settle-open p (Ok Undefined) ss all js n ps b s h.there h.pending h.leads in
        rw (entries_from-alike 0 _ _ _ alike) (sym (settled ∙ ap (noted p (left (waiting_on p.0 all))) h.unwatched ∙ ap left alone))
