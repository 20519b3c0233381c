-- Which part of a plan's run a node has: the stages of all workers, of one or of none, and what feeds it and what it feeds.
use Rattle.std.specs.Prelude.{ℕ, ℤ, Bool, true, false, not, ◌&&◌, is_some, if◌then◌else◌, int_le, List, map, Option, None, nat_abs}
use Rattle.std.specs.List.{count_by, filter}
use Rattle.ws_flow.specs.declared.plan.Placed.{Placed}
use Rattle.ws_flow.specs.declared.plan.Plan.{Plan}
use Rattle.ws_flow.specs.declared.plan.Stage.{Stage}
use Rattle.ws_chain_laws.specs.Chain.{Origin, FromBytes, FromPort, Target, ToSink, ToPort}
use Rattle.ws_node.specs.declared.making.Share.{Share}
use Rattle.ws_node.specs.declared.making.Share.TheVariants.{All, Of, None as NoneOfThem}
use Rattle.ws_node.specs.Shape.{Shape}

abbrev pub is_in : Share → Placed → Bool
is_in All p = true
is_in (Of worker) p = int_le worker p.worker && int_le p.worker worker
is_in NoneOfThem p = false

abbrev pub shared : Share → List Placed → List Stage
shared share ps = map (λ p. p.stage) (filter (is_in share) ps)

abbrev pub is_ahead_of : ℤ → Placed → Bool
is_ahead_of worker p = not (int_le worker p.worker)

-- how many stages are on the workers before this one
abbrev pub stages_ahead_of : ℤ → Plan → ℕ
stages_ahead_of worker plan = count_by (is_ahead_of worker) plan.stages.items

abbrev pub origin_by : Bool → Origin
origin_by true = FromPort
origin_by false = FromBytes

abbrev pub target_by : Bool → Target
target_by true = ToPort
target_by false = ToSink

-- only the node that feeds the output may be aborted after some bytes of it
abbrev pub abort_in : Plan → Bool → Option ℤ
abort_in plan feeds_edge = if feeds_edge then None else plan.abort_after

abbrev pub shape_with : Plan → Share → Bool → Bool → Shape
shape_with plan share above below =
    record { origin = origin_by above; target = target_by below; stages = shared share plan.stages.items; aborted = is_some (abort_in plan below); most = nat_abs plan.max_input }

-- the one node of a run without workers; and with workers, the node that is fed by the input, that of each worker, and the one that feeds the output

abbrev pub whole_of : Plan → Shape
whole_of plan = shape_with plan All false false

abbrev pub head_of : Plan → Shape
head_of plan = shape_with plan NoneOfThem false true

abbrev pub middle_of : ℤ → Plan → Shape
middle_of worker plan = shape_with plan (Of worker) true true

abbrev pub tail_of : Plan → Shape
tail_of plan = shape_with plan NoneOfThem true false
