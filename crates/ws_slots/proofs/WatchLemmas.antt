-- What watching makes of the promises for which the places stand.
use Rattle.std.proofs.Common.{◌≡◌, ℕ, ◌+◌, Bool, true, false, List, [], ◌∷◌, ◌++◌, Option, Some, None, refl, ap, arith}
use Rattle.std.specs.Prelude.{slice_get, slice_set, option_and_then}
use Rattle.ws_value.specs.declared.ids.PromiseId.{PromiseId}
use Rattle.ws_steps.specs.declared.calls.Event.{Event}
use Rattle.ws_steps.specs.declared.calls.Event.TheVariants.{Settled}
use Rattle.ws_steps.specs.declared.promises.Job.{Job}
use Rattle.ws_steps.specs.Promises.{Entry, Table, entry_at, is_pending, rank_at, watch, watch_at}
use Rattle.ws_slots.specs.Slot.{Slot}
use Rattle.ws_slots.specs.declared.waiting.Waiting.{Waiting}
use Rattle.ws_slots.specs.View.{table_of}
use Rattle.ws_slots.proofs.EntryLemmas.{entries_from-set}
use Rattle.ws_slots.proofs.TableLemmas.{entry_of-live}

pub rank_at-live : (p : PromiseId) (ss : List (Option Slot)) (ws : List Waiting) (js : List Job) (n : ℕ) (ps : List Event) (b : Bool) (s : Slot) → slice_get ss p.0 ≡ Some (Some s) → rank_at (table_of ss ws js n ps b) p ≡ s.rank
rank_at-live p ss ws js n ps b s g = ap (option_and_then (λ (e : Entry). e.rank)) (entry_of-live p ss ws s g)

pub rank_at-none : (p : PromiseId) (t : Table) → entry_at t p ≡ None → rank_at t p ≡ None
rank_at-none p t g = ap (option_and_then (λ (e : Entry). e.rank)) g

pub watch-none : (p : PromiseId) (t : Table) → entry_at t p ≡ None → watch p t ≡ t
unfolding watch
watch-none p t g = ap (watch_at p t) g

-- watching twice does nothing
pub watch-watched : (p : PromiseId) (ss : List (Option Slot)) (ws : List Waiting) (js : List Job) (n : ℕ) (ps : List Event) (b : Bool) (s : Slot) (rank : ℕ)
    → slice_get ss p.0 ≡ Some (Some s) → s.rank ≡ Some rank → watch p (table_of ss ws js n ps b) ≡ table_of ss ws js n ps b
unfolding watch
watch-watched p ss ws js n ps b s rank g h = rw (entry_of-live p ss ws s g, h) refl

pub watch-pending : (p : PromiseId) (ss : List (Option Slot)) (ws : List Waiting) (js : List Job) (n : ℕ) (ps : List Event) (b : Bool) (s : Slot)
    → slice_get ss p.0 ≡ Some (Some s) → s.rank ≡ None → is_pending s.outcome ≡ true
    → watch p (table_of ss ws js n ps b) ≡ table_of (slice_set ss p.0 (Some (record s { rank = Some n }))) ws js (n + 1) ps b
unfolding watch
watch-pending p ss ws js n ps b s g h o =
    rw (entry_of-live p ss ws s g, h, o, entries_from-set 0 p.0 p.0 ss (Some (record s { rank = Some n })) ws (omega arith)) refl

pub watch-settled : (p : PromiseId) (ss : List (Option Slot)) (ws : List Waiting) (js : List Job) (n : ℕ) (ps : List Event) (b : Bool) (s : Slot)
    → slice_get ss p.0 ≡ Some (Some s) → s.rank ≡ None → is_pending s.outcome ≡ false
    → watch p (table_of ss ws js n ps b) ≡ table_of (slice_set ss p.0 (Some (record s { rank = Some n }))) ws js (n + 1) (ps ++ Settled p ∷ []) b
unfolding watch
watch-settled p ss ws js n ps b s g h o =
    rw (entry_of-live p ss ws s g, h, o, entries_from-set 0 p.0 p.0 ss (Some (record s { rank = Some n })) ws (omega arith)) refl
