-- The call that a line's words spell: a table by the first word, for each number of words after it.
use Rattle.std.specs.Prelude.{ℕ, ◌^◌, ◌+◌, if◌then◌else◌, List, [], ◌∷◌, Option, Some, None, option_map, codes, replicate}
use Rattle.std.specs.Option.{option_or}
use Rattle.std.specs.Str.{bytes_eq}
use Rattle.ws_value.specs.declared.ids.LockId.{LockId}
use Rattle.ws_value.specs.declared.ids.StreamId.{StreamId}
use Rattle.ws_steps.specs.declared.calls.Call.{Call}
use Rattle.ws_steps.specs.declared.calls.Call.TheVariants.{MakeReadable, MakeBytes, MakeWritable, MakeTransform, GetReader, GetByob, GetWriter, Tee, Cancel, CancelBy, Read, ReadInto, Write, Close, CloseBy, Abort, AbortBy, Closed, Ready, Release, Enqueue, Finish, Fail, Terminate, Request, Respond, Desired, DesiredBy, Pipe, MakeSignal, Trigger, Send, Open, Deliver, Settle, State, Step}
use Rattle.ws_steps.specs.declared.calls.StartBy.{StartBy}
use Rattle.ws_steps.specs.declared.calls.StartBy.TheVariants.{Now, Later}
use Rattle.ws_steps.specs.declared.calls.Answer.TheVariants.{Ok as AnswerOk, Fail as AnswerFail}
use Rattle.ws_steps.specs.declared.port.Side.{Side}
use Rattle.ws_steps.specs.declared.port.Side.TheVariants.{Readable, Writable}
use Rattle.ws_steps.specs.declared.readable.SizeBy.{SizeBy}
use Rattle.ws_steps.specs.declared.readable.SizeBy.TheVariants.{Count, ByteLength}
use Rattle.ws_steps.specs.declared.transform.Kind.{Kind}
use Rattle.ws_steps.specs.declared.transform.Kind.TheVariants.{Identity, Host}
use Rattle.ws_grammar.specs.Numbers.{number_below}
use Rattle.ws_grammar.specs.declared.options.PipeOptions.{PipeOptions}
use Rattle.ws_grammar.specs.Messages.{message_alone, message_with}
use Rattle.ws_grammar.specs.Options.{options_of}
use Rattle.ws_grammar.specs.Values.{stream_named, lock_named, host_named, request_named, signal_named, port_named, reason_of, bytes_of, value_of}

-- what is made of two things, where both are there
abbrev pub both : {A B C : Type 0} → (A → B → C) → Option A → Option B → Option C
both make None second = None
both make (Some x) None = None
both make (Some x) (Some y) = Some (make x y)

-- the same of three
abbrev pub all_three : {A B C D : Type 0} → (A → B → C → D) → Option A → Option B → Option C → Option D
all_three make None second third = None
all_three make (Some x) second third = both (make x) second third

-- the same of four
abbrev pub all_four : {A B C D E : Type 0} → (A → B → C → D → E) → Option A → Option B → Option C → Option D → Option E
all_four make None second third fourth = None
all_four make (Some x) second third fourth = all_three (make x) second third fourth

-- how a queue measures a chunk: `count` or `bytes`
abbrev pub size_named : List ℕ → Option SizeBy
size_named word =
    if bytes_eq word (codes "count") then Some Count
    else if bytes_eq word (codes "bytes") then Some ByteLength
    else None

-- when a start algorithm gives its result: `now` or `later`
abbrev pub start_named : List ℕ → Option StartBy
start_named word =
    if bytes_eq word (codes "now") then Some Now
    else if bytes_eq word (codes "later") then Some Later
    else None

-- whose algorithms a transform stream performs: `identity` or `host`
abbrev pub kind_named : List ℕ → Option Kind
kind_named word =
    if bytes_eq word (codes "identity") then Some Identity
    else if bytes_eq word (codes "host") then Some Host
    else None

-- the stream at an end of a port: `readable` or `writable`
abbrev pub side_named : List ℕ → Option Side
side_named word =
    if bytes_eq word (codes "readable") then Some Readable
    else if bytes_eq word (codes "writable") then Some Writable
    else None

-- `readable HWM SIZE START`
abbrev pub readable_call : List ℕ → List ℕ → List ℕ → Option Call
readable_call hwm size start =
    all_three MakeReadable (number_below (2 ^ 64) hwm) (size_named size) (start_named start)

-- the longest room that a byte stream's controller makes of itself
abbrev pub longest_auto : ℕ
longest_auto = 4096

-- the longest room of a read
abbrev pub longest_room : ℕ
longest_room = 65536

-- `bytes HWM AUTO START`
abbrev pub bytes_call : List ℕ → List ℕ → List ℕ → Option Call
bytes_call hwm auto start =
    all_three MakeBytes (number_below (2 ^ 64) hwm) (number_below (longest_auto + 1) auto) (start_named start)

-- `writable HWM SIZE START`
abbrev pub writable_call : List ℕ → List ℕ → List ℕ → Option Call
writable_call hwm size start =
    all_three MakeWritable (number_below (2 ^ 64) hwm) (size_named size) (start_named start)

-- `transform KIND HWM HWM START`, with the mark of the writable half first
abbrev pub transform_call : List ℕ → List ℕ → List ℕ → List ℕ → Option Call
transform_call kind whwm rhwm start =
    all_four MakeTransform
    (kind_named kind)
    (number_below (2 ^ 64) whwm)
    (number_below (2 ^ 64) rhwm)
    (start_named start)

-- `desired S`, or `desired L`
abbrev pub desired_call : List ℕ → Option Call
desired_call object = option_or (option_map Desired (stream_named object)) (option_map DesiredBy (lock_named object))

-- `cancel S R`, or `cancel L R`
abbrev pub cancel_call : List ℕ → List ℕ → Option Call
cancel_call object reason =
    option_or (both Cancel (stream_named object) (reason_of reason)) (both CancelBy (lock_named object) (reason_of reason))

-- `close S`, or `close L`
abbrev pub close_call : List ℕ → Option Call
close_call object = option_or (option_map Close (stream_named object)) (option_map CloseBy (lock_named object))

-- `abort S R`, or `abort L R`
abbrev pub abort_call : List ℕ → List ℕ → Option Call
abort_call object reason =
    option_or (both Abort (stream_named object) (reason_of reason)) (both AbortBy (lock_named object) (reason_of reason))

-- `write L V`
abbrev pub write_call : List ℕ → List ℕ → Option Call
write_call lock value = both Write (lock_named lock) (value_of value)

-- a read into a room of this length, all of it zeros
abbrev pub read_into : LockId → ℕ → ℕ → ℕ → Call
read_into lock len element least = ReadInto lock (replicate len 0) element least

-- such a read, of this least number of elements, where that is a number
abbrev pub read_into_call : List ℕ → List ℕ → List ℕ → Option ℕ → Option Call
read_into_call lock len element least =
    all_four read_into (lock_named lock) (number_below (longest_room + 1) len) (number_below (2 ^ 8) element) least

-- `readinto L LEN ELEMENT`: of one element at least
abbrev pub readinto_call : List ℕ → List ℕ → List ℕ → Option Call
readinto_call lock len element = read_into_call lock len element (Some 1)

-- `readinto L LEN ELEMENT LEAST`
abbrev pub readinto_least_call : List ℕ → List ℕ → List ℕ → List ℕ → Option Call
readinto_least_call lock len element least = read_into_call lock len element (number_below (2 ^ 64) least)

-- `respond Q X`
abbrev pub respond_call : List ℕ → List ℕ → Option Call
respond_call request bytes = both Respond (request_named request) (bytes_of bytes)

-- `enqueue S V`
abbrev pub enqueue_call : List ℕ → List ℕ → Option Call
enqueue_call stream value = both Enqueue (stream_named stream) (value_of value)

-- `fail S R`
abbrev pub fail_call : List ℕ → List ℕ → Option Call
fail_call stream reason = both Fail (stream_named stream) (reason_of reason)

-- `settle H ok`
abbrev pub settle_ok_call : List ℕ → List ℕ → Option Call
settle_ok_call host answer =
    if bytes_eq answer (codes "ok") then option_map (λ id. Settle id AnswerOk) (host_named host) else None

-- `settle H fail R`
abbrev pub settle_fail_call : List ℕ → List ℕ → List ℕ → Option Call
settle_fail_call host answer reason =
    if bytes_eq answer (codes "fail") then both (λ id why. Settle id (AnswerFail why)) (host_named host) (reason_of reason)
    else None

-- a pipe with these options
abbrev pub pipe_with : StreamId → StreamId → PipeOptions → Call
pipe_with source dest options = Pipe source dest options.prevent options.signal

-- `pipe S S`, and options
abbrev pub pipe_call : List ℕ → List ℕ → List (List ℕ) → Option Call
pipe_call source dest options =
    all_three pipe_with (stream_named source) (stream_named dest) (options_of options)

-- `trigger A R`
abbrev pub trigger_call : List ℕ → List ℕ → Option Call
trigger_call signal reason = both Trigger (signal_named signal) (reason_of reason)

-- `deliver C pull`, `deliver C close`
abbrev pub deliver_call : List ℕ → List ℕ → Option Call
deliver_call port message = both Deliver (port_named port) (message_alone message)

-- `deliver C chunk V`, `deliver C error R`
abbrev pub deliver_with_call : List ℕ → List ℕ → List ℕ → Option Call
deliver_with_call port message carried = both Deliver (port_named port) (message_with message carried)

-- a word alone: `signal`, `step`
abbrev pub call_alone : List ℕ → Option Call
call_alone word =
    if bytes_eq word (codes "signal") then Some MakeSignal
    else if bytes_eq word (codes "step") then Some Step
    else None

-- a word and one more: `reader S`, `tee S`, `byob S`, `writer S`, `read L`, `closed L`, `ready L`, `release L`,
-- `close S` or `L`, `finish S`, `terminate S`, `request S`, `desired S` or `L`, `send S`, `open SIDE`, `state S`
abbrev pub call_on_one : List ℕ → List ℕ → Option Call
call_on_one word first =
    if bytes_eq word (codes "reader") then option_map GetReader (stream_named first)
    else if bytes_eq word (codes "tee") then option_map Tee (stream_named first)
    else if bytes_eq word (codes "byob") then option_map GetByob (stream_named first)
    else if bytes_eq word (codes "writer") then option_map GetWriter (stream_named first)
    else if bytes_eq word (codes "read") then option_map Read (lock_named first)
    else if bytes_eq word (codes "closed") then option_map Closed (lock_named first)
    else if bytes_eq word (codes "ready") then option_map Ready (lock_named first)
    else if bytes_eq word (codes "release") then option_map Release (lock_named first)
    else if bytes_eq word (codes "close") then close_call first
    else if bytes_eq word (codes "finish") then option_map Finish (stream_named first)
    else if bytes_eq word (codes "terminate") then option_map Terminate (stream_named first)
    else if bytes_eq word (codes "request") then option_map Request (stream_named first)
    else if bytes_eq word (codes "desired") then desired_call first
    else if bytes_eq word (codes "send") then option_map Send (stream_named first)
    else if bytes_eq word (codes "open") then option_map Open (side_named first)
    else if bytes_eq word (codes "state") then option_map State (stream_named first)
    else None

-- a word and two more: `cancel`, `abort`, `write`, `enqueue`, `respond`, `fail`, `pipe`, `trigger`, `deliver` of a message
-- of one word, `settle H ok`
abbrev pub call_on_two : List ℕ → List ℕ → List ℕ → Option Call
call_on_two word first second =
    if bytes_eq word (codes "cancel") then cancel_call first second
    else if bytes_eq word (codes "abort") then abort_call first second
    else if bytes_eq word (codes "write") then write_call first second
    else if bytes_eq word (codes "enqueue") then enqueue_call first second
    else if bytes_eq word (codes "respond") then respond_call first second
    else if bytes_eq word (codes "fail") then fail_call first second
    else if bytes_eq word (codes "pipe") then pipe_call first second []
    else if bytes_eq word (codes "trigger") then trigger_call first second
    else if bytes_eq word (codes "deliver") then deliver_call first second
    else if bytes_eq word (codes "settle") then settle_ok_call first second
    else None

-- a word and three more: `readable`, `bytes`, `writable`, `readinto`, `deliver` of a message that carries something,
-- `settle H fail R`, `pipe` with one option
abbrev pub call_on_three : List ℕ → List ℕ → List ℕ → List ℕ → Option Call
call_on_three word first second third =
    if bytes_eq word (codes "readable") then readable_call first second third
    else if bytes_eq word (codes "bytes") then bytes_call first second third
    else if bytes_eq word (codes "writable") then writable_call first second third
    else if bytes_eq word (codes "readinto") then readinto_call first second third
    else if bytes_eq word (codes "deliver") then deliver_with_call first second third
    else if bytes_eq word (codes "settle") then settle_fail_call first second third
    else if bytes_eq word (codes "pipe") then pipe_call first second (third ∷ [])
    else None

-- a word and four more: `transform`, `readinto` with a least number, `pipe` with two options
abbrev pub call_on_four : List ℕ → List ℕ → List ℕ → List ℕ → List ℕ → Option Call
call_on_four word first second third fourth =
    if bytes_eq word (codes "transform") then transform_call first second third fourth
    else if bytes_eq word (codes "readinto") then readinto_least_call first second third fourth
    else if bytes_eq word (codes "pipe") then pipe_call first second (third ∷ fourth ∷ [])
    else None

-- a word and more than four: `pipe` with options
abbrev pub call_on_more : List ℕ → List ℕ → List ℕ → List (List ℕ) → Option Call
call_on_more word first second more = if bytes_eq word (codes "pipe") then pipe_call first second more else None

-- the call of a line's words
abbrev pub call_of : List (List ℕ) → Option Call
call_of [] = None
call_of (word ∷ []) = call_alone word
call_of (word ∷ first ∷ []) = call_on_one word first
call_of (word ∷ first ∷ second ∷ []) = call_on_two word first second
call_of (word ∷ first ∷ second ∷ third ∷ []) = call_on_three word first second third
call_of (word ∷ first ∷ second ∷ third ∷ fourth ∷ []) = call_on_four word first second third fourth
call_of (word ∷ first ∷ second ∷ third ∷ fourth ∷ fifth ∷ more) =
    call_on_more word first second (third ∷ fourth ∷ fifth ∷ more)
