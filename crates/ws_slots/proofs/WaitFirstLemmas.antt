-- What stands once a reaction waits for a promise for which none waited, or the job of the first is queued.
use Rattle.std.proofs.Common.{◌≡◌, ℕ, ◌+◌, Bool, List, [], ◌∷◌, ◌++◌, length, map, Option, Some, None, Result, refl, ap, arith}
use Rattle.std.proofs.Math.ListN.{length-append}
use Rattle.std.specs.Prelude.{IsSome, slice_get, slice_set}
use Rattle.ws_value.specs.declared.ids.PromiseId.{PromiseId}
use Rattle.ws_value.specs.declared.value.Plain.{Plain}
use Rattle.ws_steps.specs.Promises.{job_of, react}
use Rattle.ws_steps.specs.declared.calls.Event.{Event}
use Rattle.ws_steps.specs.declared.promises.Job.{Job}
use Rattle.ws_steps.specs.declared.promises.Reaction.{Reaction}
use Rattle.ws_slots.specs.Counts.{unnoted_in, unwatched_in}
use Rattle.ws_slots.specs.Slot.{Slot}
use Rattle.ws_slots.specs.View.{AllWait, WaitAlike, all_waiting, first_reactions, table_of}
use Rattle.ws_slots.specs.Words.{WaitsFirst}
use Rattle.ws_slots.specs.declared.waiting.Waiting.{Waiting}
use Rattle.ws_slots.proofs.CountLemmas.{unnoted_in-waits, unwatched_in-waits}
use Rattle.ws_slots.proofs.EntryLemmas.{entries_from-alike, entries_from-react, entries_from-waits}
use Rattle.ws_slots.proofs.TableLemmas.{react-pending}
use Rattle.ws_slots.proofs.AllWaitLemmas.{AllWait-alike, AllWait-react}
use Rattle.ws_slots.proofs.FirstLemmas.{all-first}
use Rattle.ws_slots.proofs.WaitingLemmas.{waiting_on-nobody}

pub record Registered (p : PromiseId) (r : Reaction) (ss ts : List (Option Slot)) (ws : List Waiting) (js : List Job) : Type 0 where
  pub table : (n : ℕ) (ps : List Event) (b : Bool) → table_of ts (all_waiting ts ws) js n ps b ≡ react p r (table_of ss (all_waiting ss ws) js n ps b)
  pub unnoted : unnoted_in ts ≡ unnoted_in ss
  pub unwatched : unwatched_in ts ≡ unwatched_in ss
  pub kept : AllWait ts (all_waiting ts ws)
  pub count : length (all_waiting ts ws) ≡ length (all_waiting ss ws) + 1

pub waits-first : (p : PromiseId) (r : Reaction) (ss ts : List (Option Slot)) (ws : List Waiting) (js : List Job) → WaitsFirst ss ts p.0 (Some r) → AllWait ss (all_waiting ss ws) → Registered p r ss ts ws js
waits-first p r ss ts ws js h kept = record {
  table = λ n ps b. rw (h.written, entries_from-alike 0 _ _ _ alike, entries_from-waits ss (all ++ w ∷ []) p.0 s t g (λ rs. refl), react-pending p r ss all js n ps b s g h.pending, entries_from-react 0 p.0 p.0 ss all w s (omega arith) refl g) refl;
  unnoted = rw h.written (unnoted_in-waits ss p.0 s t g refl);
  unwatched = rw h.written (unwatched_in-waits ss p.0 s t g refl);
  kept = rw h.written (AllWait-alike _ _ _ alike (AllWait-react ss all w s t g h.pending one (λ rs. refl) kept));
  count = rw h.written (omega (arith, alike.count, length-append all (w ∷ [])));
}
  where
    all : List Waiting
    all = all_waiting ss ws

    w : Waiting
    w = record { on = p; reaction = r }

    s : Slot
    s = h.slot

    g : slice_get ss p.0 ≡ Some (Some s)
    g = h.there

    t : Slot
    t = record s { waits = 1; first = Some r }

    one : 1 ≡ s.waits + 1
    one = omega (arith, h.nobody)

    alike : WaitAlike (all_waiting (slice_set ss p.0 (Some t)) ws) (all ++ w ∷ [])
    alike = let counted = kept.counted p.0 s g in all-first ss ws w s t g (waiting_on-nobody p.0 all (omega (arith, counted, h.nobody))) refl

-- the reaction at a place, and its job

pub first-one : (o : Option Reaction) → IsSome o → length (first_reactions o) ≡ 1
first-one None h = cc
first-one (Some r) h = refl

pub first-zero : (o : Option Reaction) → o ≡ None → length (first_reactions o) ≡ 0
first-zero o e = rw e refl

append-nil : (js : List Job) → js ≡ js ++ []
append-nil [] = refl
append-nil (j ∷ js) = ap (λ ks. j ∷ ks) (append-nil js)

pub first-queued : (outcome : Result Plain Plain) (o : Option Reaction) (js ks : List Job) → IsSome o → ((r : Reaction) → o ≡ Some r → ks ≡ js ++ job_of outcome r ∷ []) → ks ≡ js ++ map (job_of outcome) (first_reactions o)
first-queued outcome None js ks h f = cc
first-queued outcome (Some r) js ks h f = f r refl

pub none-queued : (outcome : Result Plain Plain) (o : Option Reaction) (js : List Job) → o ≡ None → js ≡ js ++ map (job_of outcome) (first_reactions o)
none-queued outcome o js e = rw e (append-nil js)
