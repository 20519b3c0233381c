-- Through identity transform streams: from what the writable half of one acts on to what its readable half takes in, and from link to link.
use Rattle.std.specs.Prelude.{◌≡◌, ℕ, Bool, true, false, not, ◌&&◌, List, [], ◌∷◌, ◌++◌, Some, slice_get}
use Rattle.ws_value.specs.declared.ids.PipeId.{PipeId}
use Rattle.ws_value.specs.declared.ids.StreamId.{StreamId}
use Rattle.ws_value.specs.declared.value.Value.{Value}
use Rattle.ws_steps.specs.declared.calls.Call.{Call}
use Rattle.ws_steps.specs.declared.calls.Call.TheVariants.{Enqueue, Terminate}
use Rattle.ws_steps.specs.declared.transform.Kind.TheVariants.{Identity}
use Rattle.ws_steps.specs.declared.transform.TransformId.{TransformId}
use Rattle.ws_steps.specs.Histories.{is_same, over}
use Rattle.ws_steps.specs.Laws.{IsPrefixOf}
use Rattle.ws_steps.specs.Readable.{can_close_or_enqueue}
use Rattle.ws_steps.specs.Run.{Entry, Called, Worked, Heard, run}
use Rattle.ws_steps.specs.Slots.{Slots, empty, readable_at}
use Rattle.ws_steps.specs.Transform as transform
use Rattle.ws_steps.specs.WritableHistory.{run_writes}
use Rattle.ws_flow.specs.Told.{Lost, Told, told, then_told, IsShortOf}
use Rattle.ws_transform_laws.specs.TransformHistory.{step_enqueued}
use Rattle.ws_link_laws.specs.Laws.{all_leave}
use Rattle.ws_link_laws.specs.Link.{lies}
use Rattle.ws_identity_laws.specs.Ends.{IsAnyLink}
use Rattle.ws_identity_laws.specs.Passing.{ending, run_acts, run_takes}

-- transform stream t is an identity, with writable half w and readable half r
pub record IsIdentity (t : TransformId) (w r : StreamId) (s : Slots) : Type 0 where
  pub stream : transform.Slots
  pub there : slice_get s.transforms t.0 ≡ Some stream
  pub kind : stream.kind ≡ Identity
  pub writable : stream.writable ≡ w
  pub readable : stream.readable ≡ r

-- where its readable half can take something, whether its writable half was closed
abbrev pub inside : Bool → ℕ → Told Value
inside true closes = told [] (ending closes)
inside false closes = told [] Lost

-- what is in it after these entries: no chunk, and its end once the close algorithm of its writable half was performed; and where its readable
-- half can take nothing, what comes is lost
abbrev pub lies_in : StreamId → StreamId → List Entry → Told Value
lies_in w r xs = inside (can_close_or_enqueue (readable_at r (run xs empty))) (run_writes w xs empty).closes

-- whether a call leaves what enters stream r to others: it enqueues nothing there, and doesn't terminate its transform stream
abbrev pub spares : StreamId → Call → Bool
spares r (Enqueue k v) = not (is_same r k)
spares r (Terminate k) = not (is_same r k)
spares r _ = true

abbrev pub entry_spares : StreamId → Entry → Bool
entry_spares r (Called c) = spares r c
entry_spares r Worked = true
entry_spares r Heard = true

abbrev pub all_spare : StreamId → List Entry → Bool
all_spare r [] = true
all_spare r (x ∷ xs) = entry_spares r x && all_spare r xs

pub record PassesOn (t : TransformId) (w r : StreamId) (xs entries : List Entry) : Type 0 where
  pub identity : IsIdentity t w r (run entries (run xs empty))
  pub short : IsShortOf (then_told (run_takes r entries (run xs empty)) (lies_in w r (xs ++ entries))) (then_told (lies_in w r xs) (run_acts w entries (run xs empty)))

abbrev pub EachIdentityPasses : Type 0
EachIdentityPasses =
    (xs entries : List Entry) (t : TransformId) (w r : StreamId) → IsIdentity t w r (run xs empty) → all_spare r entries ≡ true → PassesOn t w r xs entries

abbrev pub run_enqueued : TransformId → List Entry → Slots → List Value
run_enqueued t xs s = over [] ◌++◌ (step_enqueued t) xs s

pub record Enqueues (t : TransformId) (w r : StreamId) (xs entries : List Entry) : Type 0 where
  pub all : can_close_or_enqueue (readable_at r (run entries (run xs empty))) ≡ true → run_enqueued t entries (run xs empty) ≡ (run_writes w entries (run xs empty)).acted
  pub front : IsPrefixOf (run_enqueued t entries (run xs empty)) (run_writes w entries (run xs empty)).acted

abbrev pub EachIdentityEnqueues : Type 0
EachIdentityEnqueues = (xs entries : List Entry) (t : TransformId) (w r : StreamId) → IsIdentity t w r (run xs empty) → Enqueues t w r xs entries

-- a way: a pipe out of a source, through any number of identity transform streams, each with a pipe out of it, to a destination

pub record Middle : Type 0 where
  pub number : TransformId
  pub writable : StreamId
  pub readable : StreamId
  pub out : PipeId

abbrev pub IsWay : StreamId → PipeId → List Middle → StreamId → Slots → Type 0
IsWay i p [] k s = IsAnyLink i k p s
IsWay i p (m ∷ ms) k s = IsAnyLink i m.writable p s × (IsIdentity m.number m.writable m.readable s × IsWay m.readable m.out ms k s)

-- what lies on it, oldest first
abbrev pub lies_along : StreamId → PipeId → List Middle → StreamId → List Entry → Told Value
lies_along i p [] k xs = lies i k p (run xs empty)
lies_along i p (m ∷ ms) k xs =
    then_told (lies_along m.readable m.out ms k xs) (then_told (lies_in m.writable m.readable xs) (lies i m.writable p (run xs empty)))

-- whether a run leaves its links alone, and its transform streams to themselves
abbrev pub all_leave_way : StreamId → List Middle → StreamId → List Entry → Bool
all_leave_way i [] k entries = all_leave i k entries
all_leave_way i (m ∷ ms) k entries = all_leave i m.writable entries && (all_spare m.readable entries && all_leave_way m.readable ms k entries)

pub record PassesWay (i : StreamId) (p : PipeId) (ms : List Middle) (k : StreamId) (xs entries : List Entry) : Type 0 where
  pub way : IsWay i p ms k (run entries (run xs empty))
  pub short : IsShortOf (then_told (run_acts k entries (run xs empty)) (lies_along i p ms k (xs ++ entries))) (then_told (lies_along i p ms k xs) (run_takes i entries (run xs empty)))

abbrev pub EachWayPasses : Type 0
EachWayPasses =
    (xs entries : List Entry) (i : StreamId) (p : PipeId) (ms : List Middle) (k : StreamId) → IsWay i p ms k (run xs empty) → all_leave_way i ms k entries ≡ true
    → PassesWay i p ms k xs entries
