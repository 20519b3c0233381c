-- A chain of links in one realm: from a source, through n transform streams of the host's kind, to a sink. The source is the host's own, with a
-- controller of either kind, or the readable end of a port; the sink is the host's own, or the writable end of a port.
-- Link k goes by pipe k from stream 2k to stream 2k + 1. The source is stream 0, transform stream k takes chunks by stream 2k + 1 and gives
-- them by stream 2k + 2, and the sink is stream 2n + 1.
use Rattle.std.specs.Prelude.{ℕ, zero, suc, ◌≤◌, ◌≡◌, nat_eq, Bool, true, false, if◌then◌else◌, List}
use Rattle.ws_value.specs.declared.ids.PipeId.{PipeId}
use Rattle.ws_value.specs.declared.ids.PortId.{PortId}
use Rattle.ws_value.specs.declared.ids.StreamId.{StreamId}
use Rattle.ws_value.specs.declared.value.Value.{Value}
use Rattle.ws_steps.specs.declared.calls.Call.{Call}
use Rattle.ws_steps.specs.declared.calls.Event.{Event}
use Rattle.ws_steps.specs.declared.promises.Job.{Job}
use Rattle.ws_steps.specs.declared.transform.TransformId.{TransformId}
use Rattle.ws_steps.specs.Slots.{Slots}
use Rattle.ws_flow.specs.Told.{Told}
use Rattle.ws_link_laws.specs.Link as link
use Rattle.ws_link_laws.specs.Link.{Ear, OfSink, OfTransform, OfPort, Giver, OfHalf, silence, behind, leaves}
use Rattle.ws_wire_laws.specs.Wire.{Joint, IsWired}
use Rattle.ws_wire_laws.specs.Segments.{given_by, after_origin, along, nothing_made}
pub use Rattle.ws_wire_laws.specs.Segments.{Origin, FromChunks, FromBytes, FromPort, Target, ToSink, ToPort, source_of, dest_of}

abbrev pub link_of : ℕ → PipeId
link_of k = record { 0 = k }

abbrev pub transform_of : ℕ → TransformId
transform_of k = record { 0 = k }

-- port 0 is that of the source, where there is one, and the next that of the sink

abbrev pub source_port : PortId
source_port = record { 0 = 0 }

abbrev pub ports_before : Origin → ℕ
ports_before FromChunks = 0
ports_before FromBytes = 0
ports_before FromPort = 1

abbrev pub sink_port : Origin → PortId
sink_port origin = record { 0 = ports_before origin }

abbrev pub first_giver : Origin → Giver
first_giver origin = given_by origin 0

-- by what chunks come to the stream from which link k comes
abbrev pub giver : Origin → ℕ → Giver
giver origin zero = first_giver origin
giver origin (suc k) = OfHalf (transform_of k)

-- by what the host hears of the one into which it goes, where there are n transform streams

abbrev pub last_ear : Origin → Target → StreamId → Ear
last_ear origin ToSink j = OfSink j
last_ear origin ToPort j = OfPort (sink_port origin)

abbrev pub ear_of : Origin → Target → ℕ → ℕ → Ear
ear_of origin target n k = if nat_eq k n then last_ear origin target (dest_of k) else OfTransform (transform_of k) (source_of (suc k))

-- whether there is a port at one of its ends
abbrev pub is_ported : Origin → Target → Bool
is_ported FromPort target = true
is_ported origin ToPort = true
is_ported origin ToSink = false

-- what is behind the host on link k
abbrev pub behind_at : ℕ → Slots → Told Value
behind_at k s = behind (source_of k) (dest_of k) (link_of k) s

-- link k, and all of them
abbrev pub joint_of : Origin → Target → ℕ → ℕ → Joint
joint_of origin target n k = record { from = source_of k; into = dest_of k; pipe = link_of k; gives = giver origin k; hears = ear_of origin target n k }

abbrev pub links_of : Origin → Target → ℕ → List Joint
links_of origin target n = along (first_giver origin) n target (after_origin origin nothing_made)

-- Each of them is a link with room for one chunk
abbrev pub IsChain : Origin → Target → ℕ → Slots → Type 0
IsChain origin target n s = IsWired (links_of origin target n) s

-- what a call, and a job, brings to the stream from which link k comes, and what an event tells of the one into which it goes
abbrev pub call_enters : Origin → ℕ → Call → Told Value
call_enters origin k c = link.enters (giver origin k) (source_of k) c

abbrev pub job_enters : ℕ → Job → Told Value
job_enters zero job = silence
job_enters (suc k) job = link.half_enters (transform_of k) job

abbrev pub heard_at : Origin → Target → ℕ → ℕ → Event → Told Value
heard_at origin target n k e = link.heard_of (ear_of origin target n k) e

-- a call leaves each link of the chain alone
abbrev pub LeavesChain : ℕ → Call → Type 0
LeavesChain n c = (k : ℕ) → k ≤ n → leaves (source_of k) (dest_of k) c ≡ true
