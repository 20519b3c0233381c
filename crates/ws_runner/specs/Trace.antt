-- What a traced run tells of its edges: each is legal and keeps its credit, and their chunks add up to what was read, to what the stages made of it, and to
-- what was written.
use Rattle.std.specs.Prelude.{◌≡◌, ◌≢◌, ◌+◌, ◌≤◌, ℕ, suc, pos, int_le, nat_abs, Bool, true, false, List, [], ◌∷◌, All, length, map, take}
use Rattle.std.specs.List.{filter}
use Rattle.ws_edge.specs.declared.mark.Mark.{Mark}
use Rattle.ws_edge.specs.declared.mark.Mark.TheVariants.{Pull, Chunk, Close, Error}
use Rattle.ws_flow.specs.declared.plan.Plan.{Plan}
use Rattle.ws_flow.specs.declared.plan.Stage.{Stage}
use Rattle.ws_flow.specs.Plans.{reach}
use Rattle.ws_flow.specs.Told.{bytes_of, Closed}
use Rattle.ws_io.specs.Gain.{Got}
use Rattle.ws_io.specs.Moment.{Moment}
use Rattle.ws_io.specs.declared.status.Status.{Status}
use Rattle.ws_io.specs.declared.status.Status.TheVariants.{Done, NoMemory}
use Rattle.ws_node.specs.Ends.{Ends}
use Rattle.ws_runner.specs.declared.trace.EdgeTrace.{EdgeTrace}
use Rattle.ws_runner.specs.declared.trace.Finished.{Finished}

-- Marks

-- how many bytes the chunks have
abbrev pub bytes_in : List Mark → ℕ
bytes_in [] = 0
bytes_in (Pull ∷ ms) = bytes_in ms
bytes_in (Chunk n ∷ ms) = n + bytes_in ms
bytes_in (Close ∷ ms) = bytes_in ms
bytes_in (Error ∷ ms) = bytes_in ms

abbrev pub chunks_in : List Mark → ℕ
chunks_in [] = 0
chunks_in (Pull ∷ ms) = chunks_in ms
chunks_in (Chunk n ∷ ms) = 1 + chunks_in ms
chunks_in (Close ∷ ms) = chunks_in ms
chunks_in (Error ∷ ms) = chunks_in ms

abbrev pub pulls_in : List Mark → ℕ
pulls_in [] = 0
pulls_in (Pull ∷ ms) = 1 + pulls_in ms
pulls_in (Chunk n ∷ ms) = pulls_in ms
pulls_in (Close ∷ ms) = pulls_in ms
pulls_in (Error ∷ ms) = pulls_in ms

abbrev pub errors_in : List Mark → ℕ
errors_in [] = 0
errors_in (Pull ∷ ms) = errors_in ms
errors_in (Chunk n ∷ ms) = errors_in ms
errors_in (Close ∷ ms) = errors_in ms
errors_in (Error ∷ ms) = 1 + errors_in ms

abbrev pub is_none : List Mark → Bool
is_none [] = true
is_none (m ∷ ms) = false

-- chunks, and behind them at most one close or error
abbrev pub goes_down : List Mark → Bool
goes_down [] = true
goes_down (Pull ∷ ms) = false
goes_down (Chunk n ∷ ms) = goes_down ms
goes_down (Close ∷ ms) = is_none ms
goes_down (Error ∷ ms) = is_none ms

-- pulls, and behind them at most one error
abbrev pub goes_up : List Mark → Bool
goes_up [] = true
goes_up (Pull ∷ ms) = goes_up ms
goes_up (Chunk n ∷ ms) = false
goes_up (Close ∷ ms) = false
goes_up (Error ∷ ms) = is_none ms

-- the last one is a close
abbrev pub ends_with_close : List Mark → Bool
ends_with_close [] = false
ends_with_close (Pull ∷ ms) = ends_with_close ms
ends_with_close (Chunk n ∷ ms) = ends_with_close ms
ends_with_close (Close ∷ ms) = is_none ms
ends_with_close (Error ∷ ms) = ends_with_close ms

-- Edges

-- what was taken from the two rows of an edge

abbrev pub received_below : EdgeTrace → List Mark
received_below e = take e.down_taken e.down.items

abbrev pub received_above : EdgeTrace → List Mark
received_above e = take e.up_taken e.up.items

-- each mark is of its row, nothing follows a close or an error, and no more was taken than was sent
pub record IsLegal (e : EdgeTrace) : Type 0 where
  pub down : goes_down e.down.items ≡ true
  pub up : goes_up e.up.items ≡ true
  pub down_taken : e.down_taken ≤ length e.down.items
  pub up_taken : e.up_taken ≤ length e.up.items

-- a chunk was sent for each pull and error that was received, and a pull for each chunk that was received and one more
pub record KeepsCredit (e : EdgeTrace) : Type 0 where
  pub chunks : chunks_in e.down.items ≤ pulls_in (received_above e) + errors_in (received_above e)
  pub pulls : pulls_in e.up.items ≤ chunks_in (received_below e) + 1

-- the stages on the workers up to this one, and how many bytes they make of what was read
abbrev pub stages_up_to : ℕ → Plan → List Stage
stages_up_to worker plan = map (λ p. p.stage) (filter (λ p. int_le p.worker (pos worker)) plan.stages.items)

abbrev pub bytes_made : ℕ → Plan → List ℕ → ℕ
bytes_made worker plan taken = length (bytes_of (reach (stages_up_to worker plan) taken Closed)).items

-- so many bytes went over an edge, then a close, and all of it was taken
pub record IsWhole (bytes : ℕ) (e : EdgeTrace) : Type 0 where
  pub closed : ends_with_close e.down.items ≡ true
  pub taken : e.down_taken ≡ length e.down.items
  pub bytes_are : bytes_in e.down.items ≡ bytes

-- of the edge below this worker, and of each further one
abbrev pub AreWhole : ℕ → Plan → List ℕ → List EdgeTrace → Type 0
AreWhole worker plan taken [] = Unit {0}
AreWhole worker plan taken (e ∷ es) = IsWhole (bytes_made worker plan taken) e × AreWhole (suc worker) plan taken es

abbrev pub OfFirst : (EdgeTrace → Type 0) → List EdgeTrace → Type 0
OfFirst P [] = Unit {0}
OfFirst P (e ∷ es) = P e

abbrev pub OfLast : (EdgeTrace → Type 0) → List EdgeTrace → Type 0
OfLast P [] = Unit {0}
OfLast P (e ∷ []) = P e
OfLast P (e ∷ f ∷ es) = OfLast P (f ∷ es)

-- The edges of a run that took `taken`, and whose output gained `gain`, from the one below the input on. There is none of a run that isn't traced, or that has
-- no workers. Else there is one more than workers; or none for want of memory.
-- When the run is done, all that was read went over the first edge, and over each further one what the stages before it make of that.
-- Always, no more went over the first edge than was read, and at most 8,192 bytes fewer; and no more was written than was taken from the last one
pub record HasEdges (edges : List EdgeTrace) (plan : Plan) (trace : Bool) (status : Status) (taken gain : List ℕ) : Type 0 where
  pub untraced : trace ≡ false → edges ≡ []
  pub alone : int_le plan.workers (pos 0) ≡ true → edges ≡ []
  pub many : edges ≢ [] → length edges ≡ nat_abs plan.workers + 1
  pub some : trace ≡ true → int_le plan.workers (pos 0) ≡ false → status ≢ NoMemory → edges ≢ []
  pub legal : All IsLegal edges
  pub credit : All KeepsCredit edges
  pub whole : status ≡ Done → AreWhole 0 plan taken edges
  pub all : status ≡ Done → OfFirst (λ e. bytes_in e.down.items ≡ length taken) edges
  pub most : OfFirst (λ e. bytes_in e.down.items ≤ length taken) edges
  pub near : OfFirst (λ e. length taken ≤ bytes_in e.down.items + 8192) edges
  pub written : OfLast (λ e. length gain ≤ bytes_in (received_below e)) edges

-- A run that finished so: what was read and written, its status, and its edges
pub record Finishes (finished : Finished) (plan : Plan) (trace : Bool) (old new : Moment) (got got' : Got) : Type 0 where
  pub ends : Ends finished.status plan old new got got'
  pub edges : HasEdges finished.edges.items plan trace finished.status ends.taken ends.gain
