-- What operations on promises leave of the places that are taken, and of what a realm keeps.
use Rattle.std.proofs.Common.{◌≡◌, ◌≤◌, ◌+◌, [], ◌∷◌, length, map, Some, refl, sym, ap, subst, ◌∙◌, arith}
use Rattle.ws_steps.specs.Promises.{Table, pending, fresh}
use Rattle.ws_steps.specs.Slots.{Slots}
use Rattle.ws_promise.specs.Seen.{Seen, jobs_in, events_in}
use Rattle.ws_steps.proofs.PromiseLaws.{length-fresh}
use Rattle.ws_room_laws.proofs.Tables.{reactions-append, unnoted-append}
use Rattle.ws_tables.specs.View.{slots_of, stream_of, signal_of}
use Rattle.ws_tables.specs.Room.{waiting_in, aborts_in, HasFew, IsKept, KeepsRecords}
use Rattle.ws_tables.specs.declared.tables.Tables.{Tables}
use Rattle.ws_tables.proofs.Counts.{counted-on}

pub fresh_length : (t : Table) → length (fresh t).entries ≡ length t.entries + 1
fresh_length t = length-fresh t

-- a new promise takes no job and no event
pub fresh_jobs : (t : Table) → jobs_in (fresh t) ≡ jobs_in t
unfolding fresh
fresh_jobs t = let h = reactions-append t.entries (Some pending ∷ []) in omega (arith, h)

pub fresh_events : (t : Table) → events_in (fresh t) ≡ events_in t
unfolding fresh
fresh_events t = let h = unnoted-append t.entries (Some pending ∷ []) in omega (arith, h)

-- what a realm keeps stays where its streams, pipes and signals, and where places are to be made, stay, and promises get no fewer

pub kept_beside : (t t' : Tables) → KeepsRecords t t' → length t.promises.table.entries ≤ length t'.promises.table.entries → HasFew (slots_of t') → IsKept t → IsKept t'
kept_beside t t' same more few kept = record {
  waiting = same.waiting ∙ (kept.waiting ∙ ap (λ v. waiting_in (map stream_of v.items)) (sym same.streams));
  covered = rw (same.grown, same.streams) kept.covered;
  aborts = same.aborts ∙ (kept.aborts ∙ ap (λ v. aborts_in (map signal_of v.items)) (sym same.signals));
  members = rw (same.full, same.signals) kept.members;
  copied = rw (same.uncopied, same.tees) kept.copied;
  sourced = rw (same.streams, same.tees) kept.sourced;
  counted = rw (same.pipes) (counted-on (length t.promises.table.entries) (length t'.promises.table.entries) t.pipes.items more kept.counted);
  few = few;
}

-- as where only the promises change
pub kept_promises : (t : Tables) (p : Seen) → length t.promises.table.entries ≤ length p.table.entries → IsKept t → IsKept (record t { promises = p })
kept_promises t p more kept =
    kept_beside t (record t { promises = p }) (record { streams = refl; grown = refl; waiting = refl; pipes = refl; signals = refl; full = refl; aborts = refl; tees = refl; uncopied = refl }) more (kept.few.0, kept.few.1) kept

pub kept_same : (t t' : Tables) → slots_of t' ≡ slots_of t → KeepsRecords t t' → IsKept t → IsKept t'
kept_same t t' slots same kept = let h = ap (λ (s : Slots). length s.promises.entries) slots in kept_beside t t' same (omega (arith, h)) (subst HasFew (sym slots) kept.few) kept
