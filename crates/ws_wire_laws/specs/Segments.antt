-- Segments: chains in one realm, each from a source by transform streams of the host's to a sink. Link k goes by pipe k from stream 2k to stream 2k + 1,
-- through all segments in order; transform streams and ports have numbers of their own.
use Rattle.std.specs.Prelude.{ℕ, zero, suc, ◌+◌, ◌*◌, List, [], ◌∷◌, ◌++◌}
use Rattle.ws_value.specs.declared.ids.StreamId.{StreamId}
use Rattle.ws_steps.specs.declared.calls.Call.{Call}
use Rattle.ws_steps.specs.declared.calls.Call.TheVariants.{MakeReadable, MakeBytes, MakeTransform, MakeWritable, Open}
use Rattle.ws_steps.specs.declared.port.Side.TheVariants.{Readable as ReadableSide, Writable as WritableSide}
use Rattle.ws_steps.specs.declared.calls.StartBy.TheVariants.{Now}
use Rattle.ws_steps.specs.declared.readable.SizeBy.TheVariants.{Count}
use Rattle.ws_steps.specs.declared.transform.Kind.TheVariants.{Host as HostKind}
use Rattle.ws_steps.specs.Run.{Entry, Called}
use Rattle.ws_link_laws.specs.Link.{Ear, OfSink, OfTransform, OfPort, Giver, OfSource, OfByteSource, OfHalf, OfEnd}
use Rattle.ws_wire_laws.specs.Wire.{Joint}
use Rattle.ws_wire_laws.specs.Laws.{AreAllTwo}

-- which source it is: one of the host's own with a default controller, or with a byte controller; or the readable end of a port
pub data Origin : Type 0 where
  FromChunks : Origin
  FromBytes : Origin
  FromPort : Origin

-- and which sink: one of the host's own, or the writable end of a port
pub data Target : Type 0 where
  ToSink : Target
  ToPort : Target

pub record Segment : Type 0 where
  pub origin : Origin
  -- how many transform streams
  pub count : ℕ
  pub target : Target

-- the numbers of the next link, transform stream and port
pub record Next : Type 0 where
  pub link : ℕ
  pub transform : ℕ
  pub port : ℕ

abbrev pub source_of : ℕ → StreamId
source_of k = record { 0 = 2 * k }

abbrev pub dest_of : ℕ → StreamId
dest_of k = record { 0 = 2 * k + 1 }

-- by what chunks come to the source, and by what the host hears of the sink, with the numbers behind them

abbrev pub given_by : Origin → ℕ → Giver
given_by FromChunks c = OfSource
given_by FromBytes c = OfByteSource
given_by FromPort c = OfEnd (record { 0 = c })

abbrev pub after_origin : Origin → Next → Next
after_origin FromChunks n = n
after_origin FromBytes n = n
after_origin FromPort n = record n { port = suc n.port }

abbrev pub heard_by : Target → Next → Ear
heard_by ToSink n = OfSink (dest_of n.link)
heard_by ToPort n = OfPort (record { 0 = n.port })

abbrev pub after_target : Target → Next → Next
after_target ToSink n = record n { link = suc n.link }
after_target ToPort n = record n { link = suc n.link; port = suc n.port }

abbrev pub joint : Next → Giver → Ear → Joint
joint n g w = record { from = source_of n.link; into = dest_of n.link; pipe = record { 0 = n.link }; gives = g; hears = w }

-- the links of one segment from its first on, where chunks come to that so, and the next numbers behind it
abbrev pub after_stage : Next → Next
after_stage n = record n { link = suc n.link; transform = suc n.transform }

abbrev pub along : Giver → ℕ → Target → Next → List Joint
along g zero target n = joint n g (heard_by target n) ∷ []
along g (suc m) target n = joint n g (OfTransform (record { 0 = n.transform }) (source_of (suc n.link))) ∷ along (OfHalf (record { 0 = n.transform })) m target (after_stage n)

abbrev pub behind_stages : ℕ → Target → Next → Next
behind_stages zero target n = after_target target n
behind_stages (suc m) target n = behind_stages m target (after_stage n)

abbrev pub behind_segment : Segment → Next → Next
behind_segment x n = behind_stages x.count x.target (after_origin x.origin n)

abbrev pub behind_segments : List Segment → Next → Next
behind_segments [] n = n
behind_segments (x ∷ xs) n = behind_segments xs (behind_segment x n)

-- the links of all of them

abbrev pub wiring : List Segment → Next → List Joint
wiring [] n = []
wiring (x ∷ xs) n = along (given_by x.origin n.port) x.count x.target (after_origin x.origin n) ++ wiring xs (behind_segment x n)

abbrev pub nothing_made : Next
nothing_made = record { link = 0; transform = 0; port = 0 }

-- the calls that make their streams: the source, of which the controller allocates no rooms, transform streams with room for one chunk in the writable
-- half and for none in the readable half, and the sink

abbrev pub source_call : Origin → Call
source_call FromChunks = MakeReadable 0 Count Now
source_call FromBytes = MakeBytes 0 0 Now
source_call FromPort = Open ReadableSide

abbrev pub sink_call : Target → Call
sink_call ToSink = MakeWritable 1 Count Now
sink_call ToPort = Open WritableSide

abbrev pub transforms : ℕ → List Entry
transforms zero = []
transforms (suc n) = Called (MakeTransform HostKind 1 0 Now) ∷ transforms n

abbrev pub streams_of : List Segment → List Entry
streams_of [] = []
streams_of (x ∷ xs) = Called (source_call x.origin) ∷ (transforms x.count ++ Called (sink_call x.target) ∷ streams_of xs)

-- a hub of so many workers: from the source to the first edge, from each edge back to the next one, and from the last to the sink
abbrev pub back : ℕ → List Segment
back zero = []
back (suc zero) = record { origin = FromPort; count = 0; target = ToSink } ∷ []
back (suc (suc w)) = record { origin = FromPort; count = 0; target = ToPort } ∷ back (suc w)

abbrev pub hub : ℕ → List Segment
hub w = record { origin = FromBytes; count = 0; target = ToPort } ∷ back w

abbrev pub EachLinkIsItsOwn : Type 0
EachLinkIsItsOwn = (xs : List Segment) → AreAllTwo (wiring xs nothing_made)
