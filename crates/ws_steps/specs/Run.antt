-- Steps, runs and tasks.
use Rattle.std.specs.Prelude.{ℕ, zero, suc, ◌+◌, nat_eq, Bool, false, ◌||◌, if◌then◌else◌, List, [], ◌∷◌, Option, Some, None}
use Rattle.ws_value.specs.declared.ids.PromiseId.{PromiseId}
use Rattle.ws_steps.specs.declared.calls.Call.{Call}
use Rattle.ws_steps.specs.declared.calls.Event.{Event}
use Rattle.ws_steps.specs.declared.calls.Reply.{Reply}
use Rattle.ws_steps.specs.declared.calls.Reply.TheVariants.{Promise}
use Rattle.ws_steps.specs.Queues.{is_empty}
use Rattle.ws_steps.specs.Slots.{Slots, Done, nothing, with_promises}
use Rattle.ws_steps.specs.Turns.{Moment, moments, performed}
use Rattle.ws_steps.specs.Jobs.{begin_job}
use Rattle.ws_steps.specs.Calls.{begin, named}

abbrev pub older : Slots → Slots
older s = record s { age = s.age + 1 }

-- what a call answers
abbrev pub reply_to : Call → Slots → Reply
reply_to c s = (begin c s).reply

-- what a call leaves: all its effects are performed, and then the promise that it answers is watched
abbrev pub after_call : Call → Slots → Slots
after_call c s = older (named (begin c s).reply (performed (begin c s).done))

-- what a job leaves
abbrev pub after_job : Slots → Slots
after_job s = older (performed (begin_job s))

abbrev pub first_event : List Event → Option Event
first_event [] = None
first_event (event ∷ events) = Some event

abbrev pub later_events : List Event → List Event
later_events [] = []
later_events (event ∷ events) = events

-- the host takes the event that happened first of those that it hasn't taken
abbrev pub after_event : Slots → Slots
after_event s = with_promises (record s.promises { events = later_events s.promises.events }) s

-- a call, a job, or the taking of an event
pub data Entry : Type 0 where
  Called : Call → Entry
  Worked : Entry
  Heard : Entry

abbrev pub step : Slots → Entry → Slots
step s (Called c) = after_call c s
step s Worked = after_job s
step s Heard = after_event s

-- what an entry begins with, and the moments of its effects
abbrev pub begun_by : Slots → Entry → Done
begun_by s (Called c) = (begin c s).done
begun_by s Worked = begin_job s
begun_by s Heard = nothing s

abbrev pub moments_in : Slots → Entry → List Moment
moments_in s x = moments (begun_by s x)

abbrev pub run : List Entry → Slots → Slots
run [] s = s
run (x ∷ xs) s = run xs (step s x)

-- whether a reply names this promise
abbrev pub is_named_by : PromiseId → Reply → Bool
is_named_by p (Promise q) = nat_eq p.0 q.0
is_named_by p _ = false

-- whether the call of a step is answered this promise
abbrev pub names_in_step : PromiseId → Slots → Entry → Bool
names_in_step p s (Called c) = is_named_by p (reply_to c s)
names_in_step p s Worked = false
names_in_step p s Heard = false

-- whether a call of a run is
abbrev pub is_named : PromiseId → List Entry → Slots → Bool
is_named p [] s = false
is_named p (x ∷ xs) s = names_in_step p s x || is_named p xs (step s x)

-- how many calls and jobs a run performs; a job counts where none is queued too
abbrev pub performed_in : List Entry → ℕ
performed_in [] = 0
performed_in (Called c ∷ entries) = 1 + performed_in entries
performed_in (Worked ∷ entries) = 1 + performed_in entries
performed_in (Heard ∷ entries) = performed_in entries

abbrev pub is_idle : Slots → Bool
is_idle s = is_empty s.promises.jobs

-- jobs are performed until none is queued, or until so many were
abbrev pub work : ℕ → Slots → Slots
work zero s = s
work (suc n) s = if is_idle s then s else work n (after_job s)

-- so many jobs, one after another
abbrev pub jobs_in_a_row : ℕ → List Entry
jobs_in_a_row zero = []
jobs_in_a_row (suc n) = Worked ∷ jobs_in_a_row n

-- what the host has heard of is forgotten
abbrev pub heard : Slots → Slots
heard s = with_promises (record s.promises { events = [] }) s

-- a task is a call and then jobs, at most so many
abbrev pub task : ℕ → Call → Slots → Slots
task n c s = work n (after_call c s)
