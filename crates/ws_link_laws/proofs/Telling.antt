-- What effects on the agenda tell of a link, one after another.
use Rattle.std.proofs.Common.{◌≡◌, Bool, true, false, if◌then◌else◌, nat_eq, List, [], ◌∷◌, ◌++◌, Ok, refl, sym}
use Rattle.ws_value.specs.declared.ids.PipeId.{PipeId}
use Rattle.ws_value.specs.declared.ids.PortId.{PortId}
use Rattle.ws_value.specs.declared.ids.StreamId.{StreamId}
use Rattle.ws_value.specs.declared.value.Value.{Value}
use Rattle.ws_steps.specs.declared.effects.Effect.{Effect}
use Rattle.ws_steps.specs.declared.effects.Effect.TheVariants.{Readable as OnReadable, Byte as OnByte, Writable as OnWritable, Pipe as OnPipe, Transform as OnTransform, Port as OnPort, ChunkSteps, CallHost}
use Rattle.ws_steps.specs.declared.pipes.PipeOperation.TheVariants.{KeepChunk}
use Rattle.ws_steps.specs.declared.port.PortOperation.TheVariants.{PostChunk, Deliver as DeliverMessage}
use Rattle.ws_steps.specs.declared.readable.ReadRequest.{ReadRequest}
use Rattle.ws_steps.specs.declared.readable.ReadRequest.TheVariants.{Promise, Pipe as PipeRequest, Tee as TeeRequest}
use Rattle.ws_steps.specs.declared.transform.TransformId.{TransformId}
use Rattle.ws_steps.specs.declared.transform.TransformOperation.{TransformOperation}
use Rattle.ws_steps.specs.declared.transform.TransformOperation.TheVariants.{TransformChunk, Enqueue as EnqueueByTransform, Terminate, FlushSettled}
use Rattle.ws_steps.specs.declared.writable.WritableOperation.{WritableOperation}
use Rattle.ws_steps.specs.declared.writable.WritableOperation.TheVariants.{Write, Close as CloseWritable, ClosePropagating}
use Rattle.ws_steps.specs.Histories.{is_same}
use Rattle.ws_steps.specs.Slots.{Slots, source_at, writable_at, pipe_at}
use Rattle.ws_flow.specs.Told.{Open, Closed, Lost, Told, told, then_told, IsShortOf}
use Rattle.ws_flow.proofs.Told.{then_assoc, then_empty}
use Rattle.ws_laws.proofs.Lists.{Each}
use Rattle.ws_link_laws.specs.Entering.{entered, bytes_entered}
use Rattle.ws_link_laws.specs.Link.{Ear, OfSink, OfTransform, OfPort, Giver, OfSource, OfByteSource, OfHalf, OfEnd, is_port, is_end, delivered, giver_at, silence, in_sink, in_source, in_pipe, ear_at, heard_call, unheard, behind}

pub if_same : (b : Bool) → (if b then silence else silence) ≡ silence
if_same true = refl
if_same false = refl

-- what effects tell, one after another
abbrev pub tells : (Effect → Told Value) → List Effect → Told Value
tells f [] = silence
tells f (e ∷ es) = then_told (f e) (tells f es)

pub tells-append : (f : Effect → Told Value) (xs ys : List Effect) → tells f (xs ++ ys) ≡ then_told (tells f xs) (tells f ys)
tells-append f [] ys = refl
tells-append f (x ∷ xs) ys = rw (tells-append f xs ys) (sym (then_assoc (f x) (tells f xs) (tells f ys)))

abbrev pub IsSilent : (Effect → Told Value) → Effect → Type 0
IsSilent f e = f e ≡ silence

pub silent-all : (f : Effect → Told Value) (es : List Effect) → Each (IsSilent f) es → tells f es ≡ silence
silent-all f [] n = refl
silent-all f (e ∷ es) n = rw (n.0, silent-all f es n.1) refl

-- what is lost is short of anything
pub lost_short : (x y : Told Value) → x.items ≡ [] → x.mark ≡ Lost → IsShortOf x y
lost_short x y e f = rw (f, e) (y.items, refl)

-- the transform stream of which a destination is a half
abbrev pub is_in : Ear → TransformId → Bool
is_in (OfSink j) k = false
is_in (OfTransform t r) k = nat_eq t.0 k.0
is_in (OfPort c) k = false

-- a chunk that it takes is about to be told to the host
abbrev pub taken : Ear → TransformId → Value → Told Value
taken w k v = if is_in w k then told (v ∷ []) Open else silence

-- and one that its port posts
abbrev pub posted : Ear → PortId → Value → Told Value
posted w d v = if is_port w d then told (v ∷ []) Open else silence

-- and what is called of the host is about to be heard
abbrev pub hands : Ear → Effect → Told Value
hands w (CallHost call u) = heard_call w call
hands w (OnTransform k (TransformChunk v d)) = taken w k v
hands w (OnPort k (PostChunk v d)) = posted w k v
hands w _ = silence

-- what an operation writes to its stream
abbrev pub written : WritableOperation → Told Value
written (Write v p) = told (v ∷ []) Open
written (CloseWritable p) = told [] Closed
written (ClosePropagating p) = told [] Closed
written _ = silence

-- what is on its way to the destination
abbrev pub writes : StreamId → Effect → Told Value
writes j (OnWritable k operation) = if is_same j k then written operation else silence
writes j _ = silence

abbrev pub chunk_for : PipeId → Value → ReadRequest → Told Value
chunk_for p v (Promise q) = silence
chunk_for p v (PipeRequest q) = if nat_eq p.0 q.0 then told (v ∷ []) Open else silence
chunk_for p v (TeeRequest k) = silence

-- the chunks that are on their way to the pipe
abbrev pub chunks : PipeId → Effect → Told Value
chunks p (ChunkSteps k request v) = chunk_for p v request
chunks p (OnPipe q (KeepChunk v)) = if nat_eq p.0 q.0 then told (v ∷ []) Open else silence
chunks p _ = silence

-- the transform stream of which a source is a half
abbrev pub is_of : Giver → TransformId → Bool
is_of OfSource k = false
is_of OfByteSource k = false
is_of (OfHalf t) k = nat_eq t.0 k.0
is_of (OfEnd c) k = false

-- what an operation of a transform stream lets into its readable half
abbrev pub entered_by : TransformOperation → Told Value
entered_by (EnqueueByTransform v) = told (v ∷ []) Open
entered_by Terminate = told [] Closed
entered_by (FlushSettled p (Ok v)) = told [] Closed
entered_by _ = silence

-- what is about to enter the source
abbrev pub coming : Giver → StreamId → Effect → Told Value
coming g i (OnReadable k operation) = if is_same i k then entered g operation else silence
coming g i (OnByte k operation) = if is_same i k then bytes_entered g operation else silence
coming g i (OnTransform k operation) = if is_of g k then entered_by operation else silence
coming g i (OnPort k (DeliverMessage m)) = if is_end g k then delivered m else silence
coming g i _ = silence

-- what is behind the host, with these effects on the agenda
abbrev pub behind_on : StreamId → StreamId → PipeId → Slots → List Effect → Told Value
behind_on i j p s es =
    then_told (unheard (ear_at j s) s.promises.events)
    (then_told (tells (hands (ear_at j s)) es)
    (then_told (in_sink (writable_at j s))
    (then_told (tells (writes j) es)
    (in_pipe (pipe_at p s)
    (then_told (tells (chunks p) es) (then_told (in_source (source_at i s)) (tells (coming (giver_at i s) i) es)))))))

pub behind_on-nothing : (i j : StreamId) (p : PipeId) (s : Slots) → behind_on i j p s [] ≡ behind i j p s
behind_on-nothing i j p s = rw (then_empty (in_source (source_at i s))) refl
