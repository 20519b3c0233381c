-- How the places in memory stand for the promises.
use Rattle.std.specs.Prelude.{ℕ, Bool, ◌≡◌, ◌==◌, if◌then◌else◌, not, suc, List, [], ◌∷◌, ◌++◌, map, filter, length, Option, Some, None, slice_get}
use Rattle.std.specs.List.{sum_by}
use Rattle.ws_value.specs.declared.ids.PromiseId.{PromiseId}
use Rattle.ws_steps.specs.Promises.{Entry, Table, is_pending, live}
use Rattle.ws_steps.specs.declared.calls.Event.{Event}
use Rattle.ws_steps.specs.declared.promises.Job.{Job}
use Rattle.ws_steps.specs.declared.promises.Reaction.{Reaction}
use Rattle.ws_alike.specs.Named.{in_reaction}
use Rattle.ws_slots.specs.Slot.{Slot}
use Rattle.ws_slots.specs.declared.waiting.Waiting.{Waiting}

-- the reactions that wait for promise k
abbrev pub waiting_on : ℕ → List Waiting → List Reaction
waiting_on k ws = map (λ w. w.reaction) (filter (λ w. w.on.0 == k) ws)

-- those that wait for another
abbrev pub waiting_elsewhere : ℕ → List Waiting → List Waiting
waiting_elsewhere k ws = filter (λ w. not (w.on.0 == k)) ws

-- the reaction that was registered first of those that wait for a promise stands at its place, where there is one
abbrev pub first_reactions : Option Reaction → List Reaction
first_reactions None = []
first_reactions (Some r) = r ∷ []

abbrev pub waiting_first : ℕ → Option Reaction → List Waiting
waiting_first k None = []
waiting_first k (Some r) = (record { on = record { 0 = k }; reaction = r }) ∷ []

abbrev pub first_of : ℕ → Option Slot → List Waiting
first_of k None = []
first_of k (Some s) = waiting_first k s.first

-- those of these places, of which the first has number k
abbrev pub firsts_from : ℕ → List (Option Slot) → List Waiting
firsts_from k [] = []
firsts_from k (s ∷ ss) = first_of k s ++ firsts_from (suc k) ss

-- all reactions that wait: those that stand at a place, and then the others
abbrev pub all_waiting : List (Option Slot) → List Waiting → List Waiting
all_waiting ss ws = firsts_from 0 ss ++ ws

-- for each promise the same reactions wait in the one list as in the other, in the same order, and there are as many in all
pub record WaitAlike (ws vs : List Waiting) : Type 0 where
  pub each : (k : ℕ) → waiting_on k ws ≡ waiting_on k vs
  pub count : length ws ≡ length vs

-- the promise of a place, for which these reactions wait
abbrev pub entry_with : List Reaction → Slot → Entry
entry_with rs s = record { outcome = s.outcome; reactions = rs; follows = s.follows; rank = s.rank }

abbrev pub entry_for : List Reaction → Option Slot → Option Entry
entry_for rs None = None
entry_for rs (Some s) = Some (entry_with rs s)

-- the promises of these places, of which the first has number k
abbrev pub entries_from : ℕ → List (Option Slot) → List Waiting → List (Option Entry)
entries_from k [] ws = []
entries_from k (s ∷ ss) ws = entry_for (waiting_on k ws) s ∷ entries_from (suc k) ss ws

-- the promise of this number, where there is one
abbrev pub entry_of : List (Option Slot) → List Waiting → PromiseId → Option Entry
entry_of ss ws p = live (slice_get (entries_from 0 ss ws) p.0)

-- the promises and jobs for which the places stand, of which n became watched, what the host hasn't heard of yet, and
-- whether any went astray
abbrev pub table_of : List (Option Slot) → List Waiting → List Job → ℕ → List Event → Bool → Table
table_of ss ws js n ps b = record { entries = entries_from 0 ss ws; jobs = js; watched = n; events = ps; astray = b }

-- the reactions of a promise that is pending
abbrev pub waiting_of : Option Entry → ℕ
waiting_of None = 0
waiting_of (Some e) = if is_pending e.outcome then length e.reactions else 0

abbrev pub waiting_in : List (Option Entry) → ℕ
waiting_in es = sum_by waiting_of es

-- the place of each promise says how many of these reactions wait for it
abbrev pub Counted : List (Option Slot) → List Waiting → Type 0
Counted ss ws = (k : ℕ) (s : Slot) → slice_get ss k ≡ Some (Some s) → length (waiting_on k ws) ≡ s.waits

-- each of these reactions waits for a promise that is pending, and is counted there
pub record AllWait (ss : List (Option Slot)) (ws : List Waiting) : Type 0 where
  pub pending : length ws ≡ waiting_in (entries_from 0 ss ws)
  pub counted : Counted ss ws

-- how often a reaction that waits names a promise
abbrev pub in_waiting : PromiseId → Waiting → ℕ
in_waiting p w = in_reaction p w.reaction
