-- What stands once a promise is made for which a reaction waits.
use Rattle.std.proofs.Common.{◌≡◌, ◌∙◌, ℕ, ◌+◌, Bool, List, [], ◌∷◌, ◌++◌, length, Option, Some, refl, ap, arith}
use Rattle.std.proofs.Math.ListN.{length-append}
use Rattle.std.specs.Prelude.{slice_get, slice_set}
use Rattle.ws_value.specs.declared.ids.PromiseId.{PromiseId}
use Rattle.ws_steps.specs.Promises.{fresh, next_id, react}
use Rattle.ws_steps.specs.declared.calls.Event.{Event}
use Rattle.ws_steps.specs.declared.promises.Job.{Job}
use Rattle.ws_steps.specs.declared.promises.Reaction.{Reaction}
use Rattle.ws_slots.specs.Counts.{unnoted_in, unwatched_in}
use Rattle.ws_slots.specs.Slot.{Slot}
use Rattle.ws_slots.specs.View.{AllWait, all_waiting, table_of}
use Rattle.ws_slots.specs.Words.{WaitsFirst, new_slot}
use Rattle.ws_slots.specs.declared.waiting.Waiting.{Waiting}
use Rattle.ws_slots.proofs.AllWaitLemmas.{AllWait-push}
use Rattle.ws_slots.proofs.CountLemmas.{unnoted_in-fresh, unwatched_in-fresh}
use Rattle.ws_slots.proofs.EntryLemmas.{length-entries_from}
use Rattle.ws_slots.proofs.FirstLemmas.{all-push}
use Rattle.ws_slots.proofs.TableLemmas.{fresh-push}
use Rattle.ws_slots.proofs.WaitFirstLemmas.{Registered, waits-first}

get-last : {A : Type 0} (xs : List A) (x : A) → slice_get (xs ++ x ∷ []) (length xs) ≡ Some x
get-last {A} [] x = refl
get-last {A} (y ∷ xs) x = get-last xs x

set-last : {A : Type 0} (xs : List A) (x z : A) → slice_set (xs ++ x ∷ []) (length xs) z ≡ xs ++ z ∷ []
set-last {A} [] x z = refl
set-last {A} (y ∷ xs) x z = ap (λ ys. y ∷ ys) (set-last xs x z)

abbrev pub waiting_slot : Option Reaction → Slot
waiting_slot o = record new_slot { waits = 1; first = o }

pub record FreshWaiting (r : Reaction) (ss ts : List (Option Slot)) (ws : List Waiting) (js : List Job) : Type 0 where
  pub table : (n : ℕ) (ps : List Event) (b : Bool) → table_of ts (all_waiting ts ws) js n ps b ≡ react (next_id (table_of ss (all_waiting ss ws) js n ps b)) r (fresh (table_of ss (all_waiting ss ws) js n ps b))
  pub unnoted : unnoted_in ts ≡ unnoted_in ss
  pub unwatched : unwatched_in ts ≡ unwatched_in ss + 1
  pub kept : AllWait ts (all_waiting ts ws)
  pub count : length (all_waiting ts ws) ≡ length (all_waiting ss ws) + 1
  pub long : length ts ≡ length ss + 1

pub fresh-waiting : (r : Reaction) (o : Option Reaction) (ss ts : List (Option Slot)) (ws : List Waiting) (js : List Job) → o ≡ Some r → ts ≡ ss ++ Some (waiting_slot o) ∷ [] → AllWait ss (all_waiting ss ws) → FreshWaiting r ss ts ws js
fresh-waiting r o ss ts ws js e is kept = record {
  table = λ n ps b. (registered (next_id (table_of ss all js n ps b)) (length-entries_from 0 ss all)).table n ps b ∙ ap (react (next_id (table_of ss all js n ps b)) r) (made n ps b);
  unnoted = here.unnoted ∙ unnoted_in-fresh ss;
  unwatched = here.unwatched ∙ unwatched_in-fresh ss;
  kept = here.kept;
  count = here.count ∙ ap (λ xs. length xs + 1) same;
  long = rw is (omega (arith, length-append ss (Some (waiting_slot o) ∷ [])));
}
  where
    all : List Waiting
    all = all_waiting ss ws

    more : List (Option Slot)
    more = ss ++ Some new_slot ∷ []

    same : all_waiting more ws ≡ all
    same = all-push ss ws new_slot refl

    still : AllWait more (all_waiting more ws)
    still = rw same (AllWait-push ss all new_slot refl kept)

    made : (n : ℕ) (ps : List Event) (b : Bool) → table_of more (all_waiting more ws) js n ps b ≡ fresh (table_of ss all js n ps b)
    made n ps b = rw same (fresh-push ss all js n ps b kept)

    first : (i : ℕ) → i ≡ length ss → WaitsFirst more ts i (Some r)
    first i l = rw (l, is, e) (record { slot = new_slot; there = get-last ss (Some new_slot); pending = refl; nobody = refl; written = rw (set-last ss (Some new_slot) (Some (waiting_slot (Some r)))) refl })

    registered : (p : PromiseId) → p.0 ≡ length ss → Registered p r more ts ws js
    registered p l = waits-first p r more ts ws js (first p.0 l) still

    here : Registered (record { 0 = length ss }) r more ts ws js
    here = registered (record { 0 = length ss }) refl
