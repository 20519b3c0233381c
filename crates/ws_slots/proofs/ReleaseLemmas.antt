-- A promise that has settled and that nobody watches leaves its place.
use Rattle.std.proofs.Common.{◌≡◌, ◌∙◌, ◌<◌, ◌≤◌, suc, zero, if◌then◌else◌, ◌∷◌, ℕ, Bool, true, false, not, ◌||◌, List, [], length, Option, Some, None, refl, sym, ap, arith}
use Rattle.std.specs.Prelude.{IfNone, IfSome, is_some, slice_get, slice_set}
use Rattle.ws_value.specs.declared.ids.PromiseId.{PromiseId}
use Rattle.ws_steps.specs.declared.calls.Event.{Event}
use Rattle.ws_steps.specs.declared.promises.Job.{Job}
use Rattle.ws_steps.specs.declared.promises.Reaction.{Reaction}
use Rattle.ws_steps.specs.Promises.{Entry, Table, entry_at, is_pending, live, with_entry}
use Rattle.ws_alike.specs.Alike.{NoneLoose, forgotten, is_loose, release, release_entry}
use Rattle.ws_slots.specs.Counts.{unnoted_in, unwatched_in}
use Rattle.ws_slots.specs.View.{AllWait, all_waiting, entries_from, entry_with, table_of, waiting_of, waiting_on}
use Rattle.ws_slots.specs.Words.{IsLooseAt, NoneSpent, ended_slot, is_loose_slot}
use Rattle.ws_slots.specs.Slot.{Slot}
use Rattle.ws_slots.specs.declared.waiting.Waiting.{Waiting}
use Rattle.ws_slots.proofs.AllWaitLemmas.{settled-nobody, set-pending}
use Rattle.ws_slots.proofs.CountLemmas.{unnoted_in-waits, unnoted-settled, unwatched_in-same}
use Rattle.ws_slots.proofs.CountedLemmas.{Counted-set}
use Rattle.ws_slots.proofs.EntryLemmas.{entries_from-set, length-entries_from, slice_set-same, slice_get-entries_from}
use Rattle.ws_slots.proofs.FirstLemmas.{all-kept, first-none}
use Rattle.ws_slots.proofs.TableLemmas.{entry_of-live}

both-false : (a b : Bool) → not (a || b) ≡ true → a ≡ false
both-false false b h = refl
both-false true b h = cc

later-false : (a b : Bool) → not (a || b) ≡ true → b ≡ false
later-false false false h = refl
later-false false true h = cc
later-false true b h = cc

no-rank : (o : Option ℕ) → is_some o ≡ false → o ≡ None
no-rank None h = refl
no-rank (Some n) h = cc

settled : (s : Slot) → is_loose_slot s ≡ true → is_pending s.outcome ≡ false
settled s h = both-false (is_pending s.outcome) (is_some s.rank) h

unwatched : (s : Slot) → is_loose_slot s ≡ true → s.rank ≡ None
unwatched s h = no-rank s.rank (later-false (is_pending s.outcome) (is_some s.rank) h)

pub unnoted-released : (ss : List (Option Slot)) (i : ℕ) (s : Slot) → slice_get ss i ≡ Some (Some s) → is_loose_slot s ≡ true → unnoted_in (slice_set ss i (Some (ended_slot None))) ≡ unnoted_in ss
unnoted-released ss i s g loose = unnoted_in-waits ss i s (ended_slot None) g (sym (unnoted-settled s (settled s loose)))

pub unwatched-released : (ss : List (Option Slot)) (i : ℕ) (s : Slot) → slice_get ss i ≡ Some (Some s) → is_loose_slot s ≡ true → unwatched_in (slice_set ss i (Some (ended_slot None))) ≡ unwatched_in ss
unwatched-released ss i s g loose = unwatched_in-same ss i s (ended_slot None) g (sym (unwatched s loose))

module _ (ss : List (Option Slot)) (ws : List Waiting) (i : ℕ) (s : Slot) (g : slice_get ss i ≡ Some (Some s)) (loose : is_loose_slot s ≡ true) (wait : AllWait ss (all_waiting ss ws)) where
  nobody : waiting_on i (all_waiting ss ws) ≡ []
  nobody = settled-nobody ss (all_waiting ss ws) i s g (settled s loose) wait

  pub all-released : all_waiting (slice_set ss i (Some (ended_slot None))) ws ≡ all_waiting ss ws
  all-released = all-kept ss ws i s (ended_slot None) g (sym (first-none ss ws i s g nobody))

  no-waits : s.waits ≡ 0
  no-waits = sym (wait.counted i s g) ∙ ap length nobody

  none-waits : waiting_of (Some (entry_with (waiting_on i (all_waiting ss ws)) s)) ≡ 0
  none-waits = rw (settled s loose) refl

  pub waits-released : AllWait (slice_set ss i (Some (ended_slot None))) (all_waiting ss ws)
  waits-released = record {
    pending = set-pending ss (all_waiting ss ws) i (Some s) (Some (ended_slot None)) g (sym none-waits) wait;
    counted = Counted-set ss (all_waiting ss ws) i s (ended_slot None) g (sym no-waits) wait.counted;
  }

  pub table-released : (p : PromiseId) (js : List Job) (n : ℕ) (ps : List Event) (b : Bool) → p.0 ≡ i
      → table_of (slice_set ss i (Some (ended_slot None))) (all_waiting ss ws) js n ps b ≡ release p (table_of ss (all_waiting ss ws) js n ps b)
  table-released p js n ps b is =
      let t : Table = table_of ss (all_waiting ss ws) js n ps b in
      let there : entry_at t p ≡ Some (entry_with (waiting_on p.0 (all_waiting ss ws)) s) = entry_of-live p ss (all_waiting ss ws) s (rw is g) in
      rw (there, loose, is, entries_from-set 0 i i ss (Some (ended_slot None)) (all_waiting ss ws) (omega arith), nobody) refl

-- where nothing is released

entries-past : (k i : ℕ) (ss : List (Option Slot)) (ws : List Waiting) → slice_get ss i ≡ None → slice_get (entries_from k ss ws) i ≡ None
entries-past k i [] ws h = refl
entries-past k zero (s ∷ ss) ws h = cc
entries-past k (suc i) (s ∷ ss) ws h = entries-past (suc k) i ss ws h

pub not-released : (p : PromiseId) (ss : List (Option Slot)) (ws : List Waiting) (js : List Job) (n : ℕ) (ps : List Event) (b : Bool) → AllWait ss (all_waiting ss ws)
    → ((s : Slot) → slice_get ss p.0 ≡ Some (Some s) → is_loose_slot s ≡ true → s ≡ ended_slot None)
    → table_of ss (all_waiting ss ws) js n ps b ≡ release p (table_of ss (all_waiting ss ws) js n ps b)
not-released p ss ws js n ps b wait ended = by (slice_get ss p.0) refl
  where
    w : List Waiting
    w = all_waiting ss ws

    t : Table
    t = table_of ss w js n ps b

    nothing : entry_at t p ≡ None → t ≡ release p t
    nothing h = sym (ap (release_entry p t) h)

    loosely : (s : Slot) (c : Bool) → slice_get ss p.0 ≡ Some (Some s) → is_loose_slot s ≡ c → t ≡ (if c then with_entry p (Some forgotten) t else t)
    loosely s false g l = refl
    loosely s true g l =
        let is : s ≡ ended_slot None = ended s g l in
        let none : waiting_on p.0 w ≡ [] = settled-nobody ss w p.0 s g (settled s l) wait in
        let there : slice_get (entries_from 0 ss w) p.0 ≡ Some (Some (entry_with (waiting_on p.0 w) s)) = slice_get-entries_from 0 p.0 p.0 ss w (Some s) (omega arith) g in
        let here : slice_get (entries_from 0 ss w) p.0 ≡ Some (Some forgotten) = there ∙ ap (λ (rs : List Reaction). Some (Some (entry_with rs s))) none ∙ ap (λ (x : Slot). Some (Some (entry_with [] x))) is in
        sym (ap (λ es. table_with es) (slice_set-same (entries_from 0 ss w) p.0 (Some forgotten) here))
      where
        table_with : List (Option Entry) → Table
        table_with es = record t { entries = es }

    by : (o : Option (Option Slot)) → slice_get ss p.0 ≡ o → t ≡ release p t
    by None g = nothing (ap live (entries-past 0 p.0 ss w g))
    by (Some None) g = nothing (ap live (slice_get-entries_from 0 p.0 p.0 ss w None (omega arith) g))
    by (Some (Some s)) g =
        loosely s (is_loose_slot s) g refl ∙ sym (ap (release_entry p t) (entry_of-live p ss w s g))

-- those of which none is to be released

pub none-loose : (lo hi : ℕ) (ss : List (Option Slot)) (ws : List Waiting) (js : List Job) (n : ℕ) (ps : List Event) (b : Bool) → AllWait ss (all_waiting ss ws)
    → NoneSpent lo hi ss → NoneLoose lo hi (table_of ss (all_waiting ss ws) js n ps b)
none-loose lo hi ss ws js n ps b wait none p e l h there loose = by (slice_get ss p.0) refl
  where
    w : List Waiting
    w = all_waiting ss ws

    by : (o : Option (Option Slot)) → slice_get ss p.0 ≡ o → e ≡ forgotten
    by None g = let gone : entry_at (table_of ss w js n ps b) p ≡ None = ap live (entries-past 0 p.0 ss w g) in cc
    by (Some None) g = let gone : entry_at (table_of ss w js n ps b) p ≡ None = ap live (slice_get-entries_from 0 p.0 p.0 ss w None (omega arith) g) in cc
    by (Some (Some s)) g =
        let here : entry_at (table_of ss w js n ps b) p ≡ Some (entry_with (waiting_on p.0 w) s) = entry_of-live p ss w s g in
        let is : e ≡ entry_with (waiting_on p.0 w) s = cc in
        let slot_loose : is_loose_slot s ≡ true = sym (ap is_loose is) ∙ loose in
        let ended : s ≡ ended_slot None = none p.0 s l h g slot_loose in
        let nobody : waiting_on p.0 w ≡ [] = settled-nobody ss w p.0 s g (settled s slot_loose) wait in
        is ∙ (ap (λ (rs : List Reaction). entry_with rs s) nobody ∙ ap (λ (x : Slot). entry_with [] x) ended)

pub some-shown : (lo : ℕ) (o : Option PromiseId) (ss : List (Option Slot)) (ws : List Waiting) (js : List Job) (n : ℕ) (ps : List Event) (b : Bool) (t : Table)
    → table_of ss (all_waiting ss ws) js n ps b ≡ t → AllWait ss (all_waiting ss ws) → IfSome o (λ p. (lo ≤ p.0) × (p.0 < length ss) × IsLooseAt ss p.0 × NoneSpent lo p.0 ss)
    → IfSome o (λ p. (lo ≤ p.0) × (p.0 < length t.entries) × NoneLoose lo p.0 t)
some-shown lo None ss ws js n ps b t is wait h = tt
some-shown lo (Some p) ss ws js n ps b t is wait h =
    (h.0, rw (← is) (omega (arith, h.1, length-entries_from 0 ss (all_waiting ss ws))), rw (← is) (none-loose lo p.0 ss ws js n ps b wait h.3))

pub none-shown : (lo : ℕ) (o : Option PromiseId) (ss : List (Option Slot)) (ws : List Waiting) (js : List Job) (n : ℕ) (ps : List Event) (b : Bool) (t : Table)
    → table_of ss (all_waiting ss ws) js n ps b ≡ t → AllWait ss (all_waiting ss ws) → IfNone o (NoneSpent lo (length ss) ss) → IfNone o (NoneLoose lo (length t.entries) t)
none-shown lo (Some p) ss ws js n ps b t is wait h = tt
none-shown lo None ss ws js n ps b t is wait h =
    rw (← is) (rw (length-entries_from 0 ss (all_waiting ss ws)) (none-loose lo (length ss) ss ws js n ps b wait h))
