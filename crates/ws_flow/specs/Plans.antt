-- What a plan puts out, how its stages end, and which plans are refused.
use Rattle.std.specs.Prelude.{ℕ, zero, suc, ℤ, pos, ◌&&◌, ◌==◌, not, Bool, true, false, List, [], ◌∷◌, Option, Some, None, length, map, if◌then◌else◌, nat_lt, int_le, nat_abs}
use Rattle.std.specs.List.{count_by, list_all, list_any}
use Rattle.ws_flow.specs.declared.plan.Stage.{Stage}
use Rattle.ws_flow.specs.declared.plan.Stage.TheVariants.{Hex}
use Rattle.ws_flow.specs.declared.plan.Placed.{Placed}
use Rattle.ws_flow.specs.declared.plan.Plan.{Plan}
use Rattle.ws_flow.specs.declared.refusal.Refusal.{Refusal}
use Rattle.ws_flow.specs.declared.refusal.Refusal.TheVariants.{TooManyStages, OutOfRange, TooManyHex, SeesCutting, TooManyWorkers, WorkersOutOfOrder, IdleWorker}
use Rattle.ws_flow.specs.Told.{Mark, Told, told}
use Rattle.ws_flow.specs.Machines.{all_through, some_chunk, AsCut, One, SomeBytes, Form, OfBytes, OfChunks}
use Rattle.ws_flow.specs.Stages.{form, machines, is_within, is_in_range}

-- bytes as one chunk, or as none where there are none
abbrev pub as_one : List ℕ → Mark → Told (List ℕ)
as_one b m = told (some_chunk b) m

-- what comes out of the last stage where these bytes came into the first, and closed where they are all
abbrev pub reach : List Stage → List ℕ → Mark → Told (List ℕ)
reach ss b m = all_through (machines ss) (as_one b m)

abbrev pub stages_of : Plan → List Stage
stages_of plan = map (λ p. p.stage) plan.stages.items

-- whether a stage may stand where it is `known` that the cutting of its input doesn't depend on how the plan's input was cut
abbrev pub may_see : Bool → Form → Bool
may_see known (OfBytes w f g) = true
may_see known (OfChunks f) = known

-- and whether the same is known of what it hands on
abbrev pub is_known : Bool → Form → Bool
is_known known (OfBytes AsCut f g) = true
is_known known (OfBytes One f g) = known
is_known known (OfBytes SomeBytes f g) = false
is_known known (OfChunks f) = known

-- whether no stage sees chunks whose cutting depends on how the input was cut
abbrev pub sees_known_chunks : Bool → List Stage → Bool
sees_known_chunks known [] = true
sees_known_chunks known (s ∷ ss) = may_see known (form s) && sees_known_chunks (is_known known (form s)) ss

-- a worker is one of the plan's, or the caller where it has none
abbrev pub is_placed_within : ℤ → Placed → Bool
is_placed_within workers p =
    is_in_range p.stage && (if int_le workers (pos 0) then is_within 0 0 p.worker else int_le (pos 1) p.worker && int_le p.worker workers)

abbrev pub is_abort_within : Option ℤ → Bool
is_abort_within None = true
is_abort_within (Some n) = is_within 1 1099511627776 n

-- whether each number of a plan is in its range
abbrev pub are_within : ℤ → Option ℤ → ℤ → List Placed → Bool
are_within workers after most ps =
    int_le (pos 0) workers && (is_abort_within after && (is_within 0 1099511627776 most && list_all (is_placed_within workers) ps))

abbrev pub are_numbers_within : Plan → Bool
are_numbers_within plan = are_within plan.workers plan.abort_after plan.max_input plan.stages.items

abbrev pub is_hex : Stage → Bool
is_hex Hex = true
is_hex _ = false

-- whether no stage's worker is less than that of the one before
abbrev pub are_in_order : ℤ → List Placed → Bool
are_in_order before [] = true
are_in_order before (p ∷ ps) = int_le before p.worker && are_in_order p.worker ps

abbrev pub has_stage : ℕ → List Placed → Bool
has_stage worker ps = list_any (λ p. nat_abs p.worker == worker) ps

-- whether each worker from 1 to this one has a stage
abbrev pub each_has_stage : ℕ → List Placed → Bool
each_has_stage zero ps = true
each_has_stage (suc w) ps = each_has_stage w ps && has_stage (suc w) ps

-- the first refusal of a plan with so many workers, these bytes before an abort and of input, and these stages, if it is refused
abbrev pub refusal_of : ℤ → Option ℤ → ℤ → List Placed → Option Refusal
refusal_of workers after most ps =
    if nat_lt 16 (length ps) then Some TooManyStages
    else if not (are_within workers after most ps) then Some OutOfRange
    else if nat_lt 4 (count_by (λ p. is_hex p.stage) ps) then Some TooManyHex
    else if not (sees_known_chunks false (map (λ p. p.stage) ps)) then Some SeesCutting
    else if not (int_le workers (pos 8)) then Some TooManyWorkers
    else if not (are_in_order (pos 0) ps) then Some WorkersOutOfOrder
    else if not (each_has_stage (nat_abs workers) ps) then Some IdleWorker
    else None

abbrev pub refusal : Plan → Option Refusal
refusal plan = refusal_of plan.workers plan.abort_after plan.max_input plan.stages.items
