-- A node of which nothing failed.
use Rattle.std.specs.Prelude.{◌≡◌, ◌≢◌, ◌≤◌, ℕ, false, List, length, None}
use Rattle.ws_value.specs.declared.ids.PipeId.{PipeId}
use Rattle.ws_value.specs.declared.ids.StreamId.{StreamId}
use Rattle.ws_steps.specs.declared.readable.ReadableState.TheVariants.{Errored}
use Rattle.ws_steps.specs.Slots.{Slots, pipe_at, source_at, writable_at}
use Rattle.ws_flow.specs.declared.plan.Plan.{Plan}
use Rattle.ws_flow.specs.Machines.{all_through}
use Rattle.ws_flow.specs.Parts.{residual}
use Rattle.ws_flow.specs.Plans.{stages_of}
use Rattle.ws_flow.specs.Stages.{machines}
use Rattle.ws_flow.specs.Told.{Mark, Told, then_told}
use Rattle.ws_io.specs.Moment.{Moment}
use Rattle.ws_end_laws.specs.ends.PassedAll.{is_failing}
use Rattle.ws_chain_laws.specs.Chain.{source_of, dest_of, link_of}
use Rattle.ws_node.specs.declared.node.Node.{Node}
use Rattle.ws_node.specs.declared.node.Output.TheVariants as output
use Rattle.ws_node_rules.specs.Flow.{HasGone}
use Rattle.ws_node.specs.Node.{lost_by, lying, nothing_yet, parts}
use Rattle.ws_node.specs.Past.{Driven}

-- neither end of a link is erroring or has errored, and its pipe has no error
pub record IsUnfailed (i j : StreamId) (p : PipeId) (s : Slots) : Type 0 where
  pub source : (source_at i s).state ≢ Errored
  pub sink : is_failing (writable_at j s).state ≡ false
  pub error : (pipe_at p s).error ≡ None

-- none of its links has failed, the one from its source and those from its stages; no call of its input or output has failed, no more was read than the run
-- may take, and nothing came to be written behind the place of its abort; and its realm goes on
pub record IsSoundNode (n : Node) : Type 0 where
  pub links : (k : ℕ) → k ≤ length n.core.stages.items → IsUnfailed (source_of k) (dest_of k) (link_of k) n.core.realm.slots
  pub input : lost_by n.entrance.input ≡ nothing_yet
  pub output_unfailed : n.exit.output ≢ output.Failed
  pub output_unaborted : n.exit.output ≢ output.Aborted
  pub going : n.core.stopped ≡ None

abbrev pub EachSoundNodeIsWhole : Type 0
EachSoundNodeIsWhole =
    (plan : Plan) (n : Node) (old new : Moment) (read went : Told (List ℕ)) (gain : List ℕ) (out : Mark)
    → HasGone plan n old new read went gain out → Driven n → IsSoundNode n
    → then_told (then_told went (lying n)) (residual (machines (stages_of plan)) (parts n)) ≡ all_through (machines (stages_of plan)) read
