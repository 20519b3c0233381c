-- The laws of one link.
use Rattle.std.specs.Prelude.{◌≡◌, Bool, true, ◌&&◌, List, [], ◌∷◌, length, Option}
use Rattle.ws_value.specs.declared.ids.PipeId.{PipeId}
use Rattle.ws_value.specs.declared.ids.SignalId.{SignalId}
use Rattle.ws_value.specs.declared.ids.StreamId.{StreamId}
use Rattle.ws_value.specs.declared.value.Value.{Value}
use Rattle.ws_steps.specs.declared.calls.Call.TheVariants.{Pipe}
use Rattle.ws_steps.specs.declared.calls.Event.{Event}
use Rattle.ws_steps.specs.declared.pipes.Prevent.{Prevent}
use Rattle.ws_steps.specs.Run.{Entry, Called, Worked, Heard, step, run, after_call}
use Rattle.ws_steps.specs.Promises.{next_job}
use Rattle.ws_steps.specs.Slots.{Slots, source_at, writable_at}
use Rattle.ws_flow.specs.Told.{Told, then_told, IsShortOf}
use Rattle.ws_link_laws.specs.Link.{Ear, silence, in_sink, in_source, ear_at, heard_of, unheard, behind, giver_at, enters, next_enters, leaves}
use Rattle.ws_link_laws.specs.Sound.{IsLink, IsFree, IsThere}

-- what an entry of a run is to a link

abbrev pub entry_leaves : StreamId → StreamId → Entry → Bool
entry_leaves i j (Called c) = leaves i j c
entry_leaves i j Worked = true
entry_leaves i j Heard = true

abbrev pub all_leave : StreamId → StreamId → List Entry → Bool
all_leave i j [] = true
all_leave i j (x ∷ xs) = entry_leaves i j x && all_leave i j xs

-- what the first event tells, where there is one
abbrev pub first_heard : Ear → List Event → Told Value
first_heard w [] = silence
first_heard w (e ∷ es) = heard_of w e

-- what the host hears of stream j by an entry
abbrev pub entry_heard : StreamId → Slots → Entry → Told Value
entry_heard j s (Called c) = silence
entry_heard j s Worked = silence
entry_heard j s Heard = first_heard (ear_at j s) s.promises.events

-- and in a run
abbrev pub run_heard : StreamId → List Entry → Slots → Told Value
run_heard j [] s = silence
run_heard j (x ∷ xs) s = then_told (entry_heard j s x) (run_heard j xs (step s x))

-- what an entry brings to stream i
abbrev pub entry_enters : StreamId → Slots → Entry → Told Value
entry_enters i s (Called c) = enters (giver_at i s) i c
entry_enters i s Worked = next_enters (giver_at i s) (next_job s.promises)
entry_enters i s Heard = silence

-- and a run
abbrev pub run_enters : StreamId → List Entry → Slots → Told Value
run_enters i [] s = silence
run_enters i (x ∷ xs) s = then_told (entry_enters i s x) (run_enters i xs (step s x))

pub record KeepsLink (i j : StreamId) (p : PipeId) (s : Slots) (entries : List Entry) : Type 0 where
  pub link : IsLink i j p (run entries s)
  pub short : IsShortOf (then_told (run_heard j entries s) (behind i j p (run entries s))) (then_told (behind i j p s) (run_enters i entries s))

abbrev pub EachLinkKeeps : Type 0
EachLinkKeeps =
    (i j : StreamId) (p : PipeId) (s : Slots) (entries : List Entry) → IsLink i j p s → all_leave i j entries ≡ true → KeepsLink i j p s entries

pub record BeginsLink (i j : StreamId) (p : PipeId) (s z : Slots) : Type 0 where
  pub link : IsLink i j p z
  pub short : IsShortOf (behind i j p z) (then_told (unheard (ear_at j s) s.promises.events) (then_told (in_sink (writable_at j s)) (in_source (source_at i s))))

abbrev pub EachLinkBegins : Type 0
EachLinkBegins =
    (i j : StreamId) (prevent : Prevent) (signal : Option SignalId) (s : Slots) → IsFree i j s → IsThere signal s
    → BeginsLink i j (record { 0 = length s.pipes }) s (after_call (Pipe i j prevent signal) s)

abbrev pub EachFreePairStays : Type 0
EachFreePairStays = (i j : StreamId) (s : Slots) (entries : List Entry) → IsFree i j s → all_leave i j entries ≡ true → IsFree i j (run entries s)
