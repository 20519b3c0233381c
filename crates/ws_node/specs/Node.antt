-- A node: the streams of its realm, its stages, and what lies before each of them and behind the last, on the way from the input to the output.
use Rattle.std.specs.Prelude.{ℕ, zero, suc, ◌/◌, ◌==◌, Bool, true, false, not, ◌&&◌, ◌||◌, is_some, if◌then◌else◌, List, [], ◌∷◌, ◌++◌, map, Option, Some, None}
use Rattle.std.specs.List.{list_all}
use Rattle.atomic_table.specs.Seated.{TableId}
use Rattle.ws_value.specs.declared.ids.PortId.{PortId}
use Rattle.ws_value.specs.declared.ids.PromiseId.{PromiseId}
use Rattle.ws_value.specs.declared.ids.StreamId.{StreamId}
use Rattle.ws_value.specs.declared.value.Message.{Message}
use Rattle.ws_value.specs.declared.value.Outcome.{Outcome}
use Rattle.ws_value.specs.declared.value.Value.{Value}
use Rattle.ws_value.specs.declared.value.Value.TheVariants.{Plain, Bytes}
use Rattle.ws_flow.specs.declared.plan.Stage.{Stage}
use Rattle.ws_flow.specs.Parts.{AtWork, Part}
use Rattle.ws_flow.specs.Steps.{parts_at, behind_of, coming_from}
use Rattle.ws_edge.specs.Edge.{AtEdge}
use Rattle.ws_flow.specs.Rows.{told_by}
use Rattle.ws_flow.specs.Told.{Open as MayCome, Lost, Told, told, then_told}
use Rattle.ws_stages.specs.State.{State}
use Rattle.ws_steps.specs.Promises.{is_pending}
use Rattle.ws_steps.specs.Queues.{is_empty}
use Rattle.ws_steps.specs.Run.{is_idle}
use Rattle.ws_steps.specs.Slots.{Slots}
use Rattle.ws_chain_laws.specs.Chain.{behind_at}
use Rattle.ws_realm.specs.Seen.{outcome_named}
use Rattle.ws_realm.specs.declared.realm.Why.{Why}
use Rattle.ws_node.specs.declared.node.Abort.{Abort}
use Rattle.ws_node.specs.declared.node.Input.{Input}
use Rattle.ws_node.specs.declared.node.Input.TheVariants.{Open, Ended, Failed, TooLong, Edge, Broken}
use Rattle.ws_node.specs.declared.node.Core.{Core}
use Rattle.ws_node.specs.declared.node.Entrance.{Entrance}
use Rattle.ws_node.specs.declared.node.Node.{Node}
use Rattle.ws_node.specs.declared.node.Output.{Output}
use Rattle.ws_node.specs.declared.node.Output.TheVariants.{Open as OutputOpen, Finished, Failed as OutputFailed, Aborted, Edge as OutputEdge}

-- The streams are those of a chain: link k goes from stream 2k to stream 2k + 1. Link 0 comes from the source, the last link goes to the sink, and from
-- link k the stage of number k, from 0, takes its chunks, which puts out into link k + 1

-- the number of the stage, from 1, whose transform stream has this readable half
abbrev pub stage_of : StreamId → ℕ
stage_of i = i.0 / 2

-- the chunks of bytes among values
abbrev pub chunks_in : List Value → List (List ℕ)
chunks_in [] = []
chunks_in (Bytes bytes ∷ vs) = bytes ∷ chunks_in vs
chunks_in (Plain v ∷ vs) = chunks_in vs

abbrev pub in_bytes : Told Value → Told (List ℕ)
in_bytes x = told (chunks_in x.items) x.mark

abbrev pub nothing_yet : Told (List ℕ)
nothing_yet = told [] MayCome

-- what comes behind a failed read, behind more than the run may take, or behind an error that came over the edge, is lost
abbrev pub lost_by : Input → Told (List ℕ)
lost_by Open = nothing_yet
lost_by Ended = nothing_yet
lost_by Failed = told [] Lost
lost_by TooLong = told [] Lost
lost_by Edge = nothing_yet
lost_by (Broken reason) = told [] Lost

-- what comes behind a stage that is over: the end where it was flushed and ended fine, and nothing more, none of it missing, where it was bad
abbrev pub coming_behind : ℕ → List State → Told (List ℕ)
coming_behind k [] = nothing_yet
coming_behind zero (w ∷ ws) = coming_from w.work
coming_behind (suc k) (w ∷ ws) = coming_behind k ws

-- what comes behind all that lies on link k: of link 0 that is told by the input, of each further one by the stage before it
abbrev pub coming_by : Input → List State → ℕ → Told (List ℕ)
coming_by input ws zero = lost_by input
coming_by input ws (suc k) = coming_behind k ws

abbrev pub coming : Node → ℕ → Told (List ℕ)
coming n k = coming_by n.entrance.input n.core.stages.items k

-- whether a node is fed by an edge, and whether it feeds one

abbrev pub is_edge : Input → Bool
is_edge Open = false
is_edge Ended = false
is_edge Failed = false
is_edge TooLong = false
is_edge Edge = true
is_edge (Broken reason) = true

abbrev pub feeds_edge : Output → Bool
feeds_edge OutputOpen = false
feeds_edge Finished = false
feeds_edge OutputFailed = false
feeds_edge Aborted = false
feeds_edge OutputEdge = true

-- once the realm performs no more, all that lies in it is lost
abbrev pub lying_by : Option Why → Told (List ℕ) → Told (List ℕ)
lying_by None x = x
lying_by (Some why) x = told [] Lost

-- what lies before the place that link k leads to, where this comes behind what lies on each link
abbrev pub lies : (ℕ → Told (List ℕ)) → Node → ℕ → Told (List ℕ)
lies c n k = lying_by n.core.stopped (then_told (in_bytes (behind_at k n.core.realm.slots)) (c k))

abbrev pub lies_in : Node → ℕ → Told (List ℕ)
lies_in n k = lies (coming n) n k

abbrev pub works_in : Core → List AtWork
works_in core = map (λ w. w.work) core.stages.items

-- the stages, each with what lies before it
abbrev pub parts : Node → List Part
parts n = parts_at 0 (works_in n.core) (lies_in n)

-- and what lies behind the last of them in the realm
abbrev pub lying : Node → Told (List ℕ)
lying n = behind_of 0 (works_in n.core) (lies_in n)

-- what was taken at an end, what was posted there, and what waits to be

abbrev pub received_at : Option AtEdge → List Message
received_at None = []
received_at (Some e) = e.from.received

abbrev pub sent_at : Option AtEdge → List Message
sent_at None = []
sent_at (Some e) = e.to.sent

abbrev pub waiting_at : Option AtEdge → List Message
waiting_at None = []
waiting_at (Some e) = e.waiting

abbrev pub given_at : Option AtEdge → List Message
given_at o = sent_at o ++ waiting_at o

-- which rows it is of, and whether it keeps the marks of what was posted
abbrev pub rows_at : Option AtEdge → Option (TableId × TableId × Bool)
rows_at None = None
rows_at (Some e) = Some (e.from.row, e.to.row, e.traced)

-- the port of the edge below is the next one behind that of the edge above
abbrev pub port_below : Entrance → PortId
port_below entrance = if is_some entrance.above then record { 0 = 1 } else record { 0 = 0 }

-- what came out of the last stage and didn't go out: what waits to be posted to the node below, and behind that what lies in the realm
abbrev pub held : Node → Told (List ℕ)
held n = then_told (told_by (waiting_at n.exit.below)) (lying n)

abbrev pub stages_in : Core → List Stage
stages_in core = map (λ w. w.stage) core.stages.items

-- whether the output has all bytes before the abort
abbrev pub is_reached : Option Abort → Bool
is_reached None = false
is_reached (Some abort) = abort.left == 0

-- whether a job is queued, or the host hasn't heard of something
abbrev pub is_busy : Core → Bool
is_busy core = not (is_idle core.realm.slots) || not (is_empty core.realm.slots.promises.events)

-- how the pipe into the sink has settled
abbrev pub outcome_of_pipe : Core → Option Outcome
outcome_of_pipe core = outcome_named core.pipe core.realm.slots

abbrev pub has_settled : Option Outcome → Bool
has_settled None = false
has_settled (Some outcome) = not (is_pending outcome)

abbrev pub has_settled_in : Slots → PromiseId → Bool
has_settled_in s p = has_settled (outcome_named p s)

-- whether each pipe has settled, and the host has heard of everything
abbrev pub has_ended : Core → Bool
has_ended core =
    is_empty core.realm.slots.promises.events
    && (has_settled (outcome_of_pipe core) && list_all (has_settled_in core.realm.slots) core.pipes_before.items)

-- and besides nothing waits to be posted
abbrev pub is_over : Node → Bool
is_over n = has_ended n.core && (is_empty (waiting_at n.entrance.above) && is_empty (waiting_at n.exit.below))
