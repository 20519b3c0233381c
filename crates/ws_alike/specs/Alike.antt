-- Which promises are needed, what is left of the slots of a realm without the others, and which slots are alike.
use Rattle.std.specs.Prelude.{ℕ, suc, nat_lt, ◌+◌, ◌<◌, ◌≤◌, Bool, true, false, not, ◌||◌, ◌≡◌, is_some, if◌then◌else◌, List, [], ◌∷◌, Option, Some, None}
use Rattle.ws_value.specs.declared.ids.PromiseId.{PromiseId}
use Rattle.ws_steps.specs.declared.calls.Call.{Call}
use Rattle.ws_value.specs.declared.value.Outcome.{Outcome}
use Rattle.ws_value.specs.declared.value.Outcome.TheVariants.{Fulfilled}
use Rattle.ws_value.specs.declared.value.Plain.TheVariants.{Undefined}
use Rattle.ws_steps.specs.Promises.{Entry, Table, ended, entry_at, is_pending, with_entry}
use Rattle.ws_steps.specs.Run.{Entry as Step, reply_to, after_call, after_job, after_event, run, step}
use Rattle.ws_steps.specs.Slots.{Slots, with_promises}
use Rattle.ws_alike.specs.Named.{in_slots}

-- a promise is needed where it is pending, watched, or named by a record, a job or a reaction
abbrev pub is_needed : PromiseId → Slots → Entry → Bool
is_needed p s e = is_pending e.outcome || (is_some e.rank || nat_lt 0 (in_slots p s))

abbrev pub is_undefined : Outcome → Bool
is_undefined (Fulfilled Undefined) = true
is_undefined _ = false

-- what stands for one that isn't: a promise that was fulfilled with undefined while nobody watched it
abbrev pub forgotten : Entry
forgotten = ended (Fulfilled Undefined)

-- whether it has settled and nobody watches it: then it is needed only where it is named
abbrev pub is_loose : Entry → Bool
is_loose e = not (is_pending e.outcome || is_some e.rank)

abbrev pub release_entry : PromiseId → Table → Option Entry → Table
release_entry p t None = t
release_entry p t (Some e) = if is_loose e then with_entry p (Some forgotten) t else t

-- a promise that has settled and that nobody watches is released; its number isn't used again
abbrev pub release : PromiseId → Table → Table
release p t = release_entry p t (entry_at t p)

-- of the promises with numbers from lo on and below hi none is to be released
abbrev pub NoneLoose : ℕ → ℕ → Table → Type 0
NoneLoose lo hi t =
    (p : PromiseId) (e : Entry) → lo ≤ p.0 → p.0 < hi → entry_at t p ≡ Some e → is_loose e ≡ true → e ≡ forgotten

-- whether a promise is kept, as any but one that was fulfilled with undefined while nobody watched it
abbrev pub is_kept : Option Entry → Bool
is_kept None = false
is_kept (Some e) = is_pending e.outcome || (is_some e.rank || not (is_undefined e.outcome))

abbrev pub kept_in : List (Option Entry) → ℕ
kept_in [] = 0
kept_in (e ∷ es) = (if is_kept e then 1 else 0) + kept_in es

-- how many promises the slots keep
abbrev pub kept : Slots → ℕ
kept s = kept_in s.promises.entries

-- each promise that is kept is needed
abbrev pub EachKeptIsNeeded : Slots → Type 0
EachKeptIsNeeded s =
    (p : PromiseId) (e : Entry) → entry_at s.promises p ≡ Some e → is_kept (Some e) ≡ true → is_needed p s e ≡ true

abbrev pub trimmed_entry : PromiseId → Slots → Option Entry → Option Entry
trimmed_entry p s None = None
trimmed_entry p s (Some e) = if is_needed p s e then Some e else Some forgotten

abbrev pub trimmed_from : ℕ → Slots → List (Option Entry) → List (Option Entry)
trimmed_from k s [] = []
trimmed_from k s (e ∷ es) = trimmed_entry (record { 0 = k }) s e ∷ trimmed_from (suc k) s es

-- the slots without the promises that aren't needed. Their numbers stay, and aren't given again
abbrev pub trim : Slots → Slots
trim s = with_promises (record s.promises { entries = trimmed_from 0 s s.promises.entries }) s

-- two slots are alike where they differ in promises alone that aren't needed
abbrev pub Alike : Slots → Slots → Type 0
Alike s t = trim s ≡ trim t

abbrev pub EachCallIsAlike : Type 0
EachCallIsAlike =
    (c : Call) (s t : Slots) → Alike s t → (reply_to c s ≡ reply_to c t) × Alike (after_call c s) (after_call c t)

abbrev pub EachJobIsAlike : Type 0
EachJobIsAlike = (s t : Slots) → Alike s t → Alike (after_job s) (after_job t)

abbrev pub EachEventIsAlike : Type 0
EachEventIsAlike = (s t : Slots) → Alike s t → Alike (after_event s) (after_event t)

abbrev pub EachRunIsAlike : Type 0
EachRunIsAlike = (xs : List Step) (s t : Slots) → Alike s t → Alike (run xs s) (run xs t)

abbrev pub TrimKeepsTheNeeded : Type 0
TrimKeepsTheNeeded = (s : Slots) → EachKeptIsNeeded (trim s)

abbrev pub TrimIsAlike : Type 0
TrimIsAlike = (s : Slots) → Alike (trim s) s

-- the slots once this promise is forgotten
abbrev pub forget : PromiseId → Slots → Slots
forget p s = with_promises (with_entry p (Some forgotten) s.promises) s

pub record IsUnneeded (p : PromiseId) (s : Slots) : Type 0 where
  pub entry : Entry
  pub there : entry_at s.promises p ≡ Some entry
  pub unneeded : is_needed p s entry ≡ false

abbrev pub ForgettingIsAlike : Type 0
ForgettingIsAlike = (p : PromiseId) (s : Slots) → IsUnneeded p s → Alike (forget p s) s

abbrev pub UnneededStays : Type 0
UnneededStays =
    (x : Step) (p : PromiseId) (s : Slots) → IsUnneeded p s
    → IsUnneeded p (step s x) × (entry_at (step s x).promises p ≡ entry_at s.promises p)

-- what is told of a promise that is watched
abbrev pub watched_entry : Option Entry → Option Entry
watched_entry None = None
watched_entry (Some e) = if is_some e.rank then Some e else None

abbrev pub EachWatchedIsAlike : Type 0
EachWatchedIsAlike =
    (p : PromiseId) (s t : Slots) → Alike s t
    → watched_entry (entry_at s.promises p) ≡ watched_entry (entry_at t.promises p)
