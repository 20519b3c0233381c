-- The calls that make streams, and those that give them to readers, writers and tees.
use Rattle.std.specs.Prelude.{ℕ, ◌+◌, nat_lt, if◌then◌else◌, [], ◌∷◌, ◌++◌, length, Some, None, Ok}
use Rattle.ws_value.specs.declared.ids.PromiseId.{PromiseId}
use Rattle.ws_value.specs.declared.ids.StreamId.{StreamId}
use Rattle.ws_value.specs.declared.ids.TeeId.{TeeId}
use Rattle.ws_value.specs.declared.value.Plain.TheVariants.{Undefined}
use Rattle.ws_steps.specs.declared.byte.ByteOperation.TheVariants.{InitializeByobReader}
use Rattle.ws_steps.specs.declared.calls.Reply.TheVariants.{Made, MadeTwo, Lock as ReplyLock, TooMany}
use Rattle.ws_steps.specs.declared.calls.HostCall.TheVariants.{Start as HostStart}
use Rattle.ws_steps.specs.declared.calls.StartBy.{StartBy}
use Rattle.ws_steps.specs.declared.calls.StartBy.TheVariants.{Now, Later}
use Rattle.ws_steps.specs.declared.effects.Effect.{Effect}
use Rattle.ws_steps.specs.declared.effects.Effect.TheVariants.{Readable, Byte, Writable, StartAlgorithm, Give, Settle as SettlePromise, CallHost}
use Rattle.ws_steps.specs.declared.effects.Gift.TheVariants.{This}
use Rattle.ws_steps.specs.declared.effects.Owner.{Owner}
use Rattle.ws_steps.specs.declared.effects.Owner.TheVariants.{Host, HalfOf, BranchOf}
use Rattle.ws_steps.specs.declared.effects.Use.TheVariants.{React, Resolve}
use Rattle.ws_steps.specs.declared.locks.Lock.TheVariants.{Reader as ReaderLock, ByobReader, Writer as WriterLock, Inner}
use Rattle.ws_steps.specs.declared.readable.ReadableOperation.TheVariants.{InitializeReader}
use Rattle.ws_steps.specs.declared.promises.Step.TheVariants.{ReadableStart, WritableStart, TeeEnds}
use Rattle.ws_steps.specs.declared.readable.SizeBy.{SizeBy}
use Rattle.ws_steps.specs.declared.readable.SizeBy.TheVariants.{Count}
use Rattle.ws_steps.specs.declared.tee.Half.TheVariants.{First, Second}
use Rattle.ws_steps.specs.declared.transform.Kind.{Kind}
use Rattle.ws_steps.specs.declared.transform.TransformId.{TransformId}
use Rattle.ws_steps.specs.declared.writable.WritableOperation.TheVariants.{SetUpWriter}
use Rattle.ws_steps.specs.declared.writable.Writer.{Writer}
use Rattle.ws_steps.specs.Promises.{Table, next_id, fresh}
use Rattle.ws_steps.specs.Bytes as byte
use Rattle.ws_steps.specs.Readable as readable
use Rattle.ws_steps.specs.Tee as tee
use Rattle.ws_steps.specs.Transform as transform
use Rattle.ws_steps.specs.Writable as writable
use Rattle.ws_steps.specs.Slots.{Slots, most_streams, Stream, ReadableStream, ByteStream, WritableStream, causes, has_byte, is_teed}
use Rattle.ws_steps.specs.Begun.{Begun, replies, unsupported, throws_type_error, begun}

-- a new stream
abbrev pub add_stream : Stream → Slots → Slots
add_stream stream s = record s { streams = s.streams ++ stream ∷ [] }

-- a new stream, whose controller is set up
abbrev pub make_readable : ℕ → SizeBy → StartBy → StreamId → Slots → Begun
make_readable mark size start i s =
    begun (Made i)
    (causes (StartAlgorithm i (ReadableStart i) start ∷ []) (add_stream (ReadableStream (readable.set_up Host mark size)) s))

abbrev pub make_bytes : ℕ → ℕ → StartBy → StreamId → Slots → Begun
make_bytes mark auto start i s =
    begun (Made i) (causes (StartAlgorithm i (ReadableStart i) start ∷ []) (add_stream (ByteStream (byte.set_up mark auto)) s))

abbrev pub make_writable : ℕ → SizeBy → StartBy → StreamId → Slots → Begun
make_writable mark size start i s =
    begun (Made i)
    (causes (StartAlgorithm i (WritableStart i) start ∷ []) (add_stream (WritableStream (writable.set_up Host mark size)) s))

-- a stream is made where there may be one more
abbrev pub make_stream : (StreamId → Slots → Begun) → Slots → Begun
make_stream make s = if nat_lt (length s.streams) most_streams then make (record { 0 = length s.streams }) s else replies TooMany s

-- two streams are made where there may be two more
abbrev pub make_two : (StreamId → StreamId → Slots → Begun) → Slots → Begun
make_two make s =
    if nat_lt (length s.streams + 1) most_streams
    then make (record { 0 = length s.streams }) (record { 0 = length s.streams + 1 }) s
    else replies TooMany s

-- the start promise of a transform stream is resolved with the result of its start algorithm: undefined, or the host's promise
abbrev pub start_transform : PromiseId → StreamId → StartBy → Effect
start_transform p j Now = SettlePromise p (Ok Undefined)
start_transform p j Later = CallHost (HostStart j) (Resolve p)

-- InitializeTransformStream, and SetUpTransformStreamDefaultController: the writable half i and the readable half j, which count their
-- chunks. The start algorithms of both give the start promise of the transform stream; the controller of each reacts to a promise that is
-- resolved with it
abbrev pub make_transform : Kind → ℕ → ℕ → StartBy → StreamId → StreamId → Slots → Begun
make_transform kind writable_mark readable_mark start i j s =
    let me : TransformId = record { 0 = length s.transforms } in
    let t : Table = s.promises in
    let change : PromiseId = next_id t in
    let started : PromiseId = next_id (fresh t) in
    let writable_started : PromiseId = next_id (fresh (fresh t)) in
    let readable_started : PromiseId = next_id (fresh (fresh (fresh t))) in
    begun (MadeTwo i j)
    (causes
    (Give (This started) (Resolve writable_started)
    ∷ Give (This writable_started) (React (WritableStart i) None)
    ∷ Give (This started) (Resolve readable_started)
    ∷ Give (This readable_started) (React (ReadableStart j) None)
    ∷ start_transform started j start
    ∷ [])
    (record
    (add_stream (ReadableStream (readable.set_up (HalfOf me) readable_mark Count))
    (add_stream (WritableStream (writable.set_up (HalfOf me) writable_mark Count)) s))
    { transforms = s.transforms ++ transform.set_up kind i j change ∷ []; promises = fresh (fresh (fresh (fresh t))) }))

-- a branch of a tee is a stream with the mark 1, which counts its chunks
abbrev pub add_branch : Owner → Slots → Slots
add_branch owner s = add_stream (ReadableStream (readable.set_up owner 1 Count)) s

-- ReadableStreamDefaultTee: a reader of the tee's own takes the stream, the cancel promise is new, both branches start at once, and the tee
-- reacts to the closed promise of its reader
abbrev pub make_tee : StreamId → StreamId → StreamId → Slots → Begun
make_tee source i j s =
    let me : TeeId = record { 0 = length s.tees } in
    let closed : PromiseId = next_id s.promises in
    let cancelled : PromiseId = next_id (fresh s.promises) in
    begun (MadeTwo i j)
    (causes
    (Readable source (InitializeReader closed)
    ∷ StartAlgorithm i (ReadableStart i) Now
    ∷ StartAlgorithm j (ReadableStart j) Now
    ∷ Give (This closed) (React (TeeEnds me) None)
    ∷ [])
    (record
    (add_branch (BranchOf me Second) (add_branch (BranchOf me First) s))
    { tees = s.tees ++ tee.set_up source i j cancelled ∷ []; locks = s.locks ++ Inner ∷ []; promises = fresh (fresh s.promises) }))

-- where the stream has a default controller; one with a byte controller has no tee here. A stream that a tee reads is locked for good, so that
-- none is teed twice; here it is said once more, so that the place that a tee keeps in the list of its source's read requests is the only one
abbrev pub tee_of : StreamId → Slots → Begun
tee_of i s =
    if has_byte i s then unsupported s
    else if is_teed i s then throws_type_error s
    else make_two (make_tee i) s

-- a new reader, which takes the stream
abbrev pub get_reader : StreamId → Slots → Begun
get_reader i s =
    let closed = next_id s.promises in
    begun (ReplyLock (record { 0 = length s.locks }))
    (causes (Readable i (InitializeReader closed) ∷ [])
    (record s { locks = s.locks ++ ReaderLock (Some i) closed ∷ []; promises = fresh s.promises }))

-- a new BYOB reader, which takes the stream
abbrev pub get_byob : StreamId → Slots → Begun
get_byob i s =
    let closed = next_id s.promises in
    begun (ReplyLock (record { 0 = length s.locks }))
    (causes (Byte i (InitializeByobReader closed) ∷ [])
    (record s { locks = s.locks ++ ByobReader (Some i) closed ∷ []; promises = fresh s.promises }))

-- where the stream has a byte controller; another has no BYOB readers
abbrev pub get_byob_of : StreamId → Slots → Begun
get_byob_of i s = if has_byte i s then get_byob i s else throws_type_error s

-- a new writer, which takes the stream
abbrev pub get_writer : StreamId → Slots → Begun
get_writer i s =
    let w : Writer = record { ready = next_id s.promises; closed = next_id (fresh s.promises) } in
    begun (ReplyLock (record { 0 = length s.locks }))
    (causes (Writable i (SetUpWriter w) ∷ [])
    (record s { locks = s.locks ++ WriterLock i ∷ []; promises = fresh (fresh s.promises) }))
