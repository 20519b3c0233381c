-- The definitions computed on examples.
use Rattle.std.proofs.Common.{◌≡◌, ℕ, ◌^◌, true, false, List, [], ◌∷◌, Some, None, Ok, Err, refl}
use Rattle.std.specs.Prelude.{codes, replicate}
use Rattle.ws_steps.specs.declared.calls.Call.{Call}
use Rattle.ws_steps.specs.declared.calls.Call.TheVariants.{MakeReadable, MakeBytes, MakeWritable, MakeTransform, GetReader, GetByob, GetWriter, Tee, Write, Close, CloseBy, Abort, AbortBy, Ready, Cancel, CancelBy, Read, ReadInto, Closed, Release, Enqueue, Finish, Fail, Terminate, Request, Respond, Desired, DesiredBy, Pipe, MakeSignal, Trigger, Send, Open, Deliver, Settle, State, Step}
use Rattle.ws_steps.specs.declared.calls.StartBy.TheVariants.{Now, Later}
use Rattle.ws_steps.specs.declared.calls.Answer.TheVariants.{Ok as AnswerOk, Fail as AnswerFail}
use Rattle.ws_steps.specs.declared.port.Side.TheVariants.{Readable, Writable}
use Rattle.ws_value.specs.declared.value.Message.TheVariants.{Pull as PullMessage, Chunk as ChunkMessage, Close as CloseMessage, Error as ErrorMessage}
use Rattle.ws_steps.specs.declared.readable.SizeBy.TheVariants.{Count, ByteLength}
use Rattle.ws_steps.specs.declared.transform.Kind.TheVariants.{Identity, Host}
use Rattle.ws_value.specs.declared.fault.Fault.TheVariants.{User}
use Rattle.ws_value.specs.declared.value.Plain.TheVariants.{Undefined, Number, Fault, Local}
use Rattle.ws_value.specs.declared.value.Value.TheVariants.{Plain as PlainValue, Bytes}
use Rattle.hex.specs.Hex.{decode_pairs}
use Rattle.ws_grammar.specs.Numbers.{number_below}
use Rattle.ws_grammar.specs.Words.{words_of}
use Rattle.ws_grammar.specs.Calls.{readinto_call}
use Rattle.ws_grammar.specs.Lines.{lines}

zero_alone : number_below (2 ^ 32) (codes "0") ≡ Some 0
zero_alone = refl

leading_zero : number_below (2 ^ 32) (codes "01") ≡ None
leading_zero = refl

signed_number : number_below (2 ^ 32) (codes "+1") ≡ None
signed_number = refl

no_digits : number_below (2 ^ 32) [] ≡ None
no_digits = refl

largest : number_below (2 ^ 32) (codes "4294967295") ≡ Some 4294967295
largest = refl

too_large : number_below (2 ^ 32) (codes "4294967296") ≡ None
too_large = refl

some_words : words_of (codes " read \t l0 \r") ≡ codes "read" ∷ codes "l0" ∷ []
some_words = refl

-- a text of one line that performs a call
abbrev AloneIs : List ℕ → Call → Type 0
AloneIs text call = lines text ≡ Ok (record { number = 1; jobs = 100000; call = call } ∷ [])

spelled_readable : AloneIs (codes "readable 18446744073709551615 bytes later") (MakeReadable 18446744073709551615 ByteLength Later)
spelled_readable = refl

spelled_reader : AloneIs (codes "reader s0") (GetReader (record { 0 = 0 }))
spelled_reader = refl

spelled_tee : AloneIs (codes "tee s4294967295") (Tee (record { 0 = 4294967295 }))
spelled_tee = refl

spelled_writable : AloneIs (codes "writable 1 count now") (MakeWritable 1 Count Now)
spelled_writable = refl

spelled_transform : AloneIs (codes "transform identity 1 0 now") (MakeTransform Identity 1 0 Now)
spelled_transform = refl

-- the mark of the writable half stands first
spelled_transform_of_the_host : AloneIs (codes "transform host 0 18446744073709551615 later") (MakeTransform Host 0 18446744073709551615 Later)
spelled_transform_of_the_host = refl

spelled_terminate : AloneIs (codes "terminate s1") (Terminate (record { 0 = 1 }))
spelled_terminate = refl

spelled_bytes : AloneIs (codes "bytes 0 0 now") (MakeBytes 0 0 Now)
spelled_bytes = refl

-- the largest mark and the longest rooms
spelled_bytes_with_rooms : AloneIs (codes "bytes 18446744073709551615 4096 later") (MakeBytes 18446744073709551615 4096 Later)
spelled_bytes_with_rooms = refl

spelled_byob : AloneIs (codes "byob s4294967295") (GetByob (record { 0 = 4294967295 }))
spelled_byob = refl

spelled_readinto : AloneIs (codes "readinto l0 8 4") (ReadInto (record { 0 = 0 }) (0 ∷ 0 ∷ 0 ∷ 0 ∷ 0 ∷ 0 ∷ 0 ∷ 0 ∷ []) 4 1)
spelled_readinto = refl

-- the room may have no byte and the elements any size that a byte can hold: the realm looks at them
spelled_readinto_no_room : AloneIs (codes "readinto l340282366920938463463374607431768211455 0 0") (ReadInto (record { 0 = 340282366920938463463374607431768211455 }) [] 0 1)
spelled_readinto_no_room = refl

spelled_readinto_large_element : AloneIs (codes "readinto l0 1 255") (ReadInto (record { 0 = 0 }) (0 ∷ []) 255 1)
spelled_readinto_large_element = refl

-- the least number may be any: the realm looks at it
spelled_readinto_least : AloneIs (codes "readinto l0 2 1 2") (ReadInto (record { 0 = 0 }) (0 ∷ 0 ∷ []) 1 2)
spelled_readinto_least = refl

spelled_readinto_most : AloneIs (codes "readinto l0 0 1 18446744073709551615") (ReadInto (record { 0 = 0 }) [] 1 18446744073709551615)
spelled_readinto_most = refl

spelled_readinto_none : AloneIs (codes "readinto l0 1 1 0") (ReadInto (record { 0 = 0 }) (0 ∷ []) 1 0)
spelled_readinto_none = refl

spelled_longest_room : readinto_call (codes "l0") (codes "65536") (codes "1") ≡ Some (ReadInto (record { 0 = 0 }) (replicate 65536 0) 1 1)
spelled_longest_room = refl

spelled_request : AloneIs (codes "request s0") (Request (record { 0 = 0 }))
spelled_request = refl

spelled_respond : AloneIs (codes "respond q0 x0aFF") (Respond (record { 0 = 0 }) (10 ∷ 255 ∷ []))
unfolding decode_pairs
spelled_respond = refl

spelled_respond_no_bytes : AloneIs (codes "respond q340282366920938463463374607431768211455 x") (Respond (record { 0 = 340282366920938463463374607431768211455 }) [])
unfolding decode_pairs
spelled_respond_no_bytes = refl

spelled_writer : AloneIs (codes "writer s1") (GetWriter (record { 0 = 1 }))
spelled_writer = refl

spelled_write : AloneIs (codes "write l0 n1") (Write (record { 0 = 0 }) (PlainValue (Number 1)))
spelled_write = refl

spelled_close : AloneIs (codes "close s0") (Close (record { 0 = 0 }))
spelled_close = refl

spelled_close_by : AloneIs (codes "close l0") (CloseBy (record { 0 = 0 }))
spelled_close_by = refl

spelled_abort : AloneIs (codes "abort s0 e7") (Abort (record { 0 = 0 }) (Fault (User 7)))
spelled_abort = refl

spelled_abort_by : AloneIs (codes "abort l0 e7") (AbortBy (record { 0 = 0 }) (Fault (User 7)))
spelled_abort_by = refl

spelled_ready : AloneIs (codes "ready l2") (Ready (record { 0 = 2 }))
spelled_ready = refl

spelled_cancel : AloneIs (codes "cancel s1 e7") (Cancel (record { 0 = 1 }) (Fault (User 7)))
spelled_cancel = refl

spelled_cancel_by : AloneIs (codes "cancel l1 undefined") (CancelBy (record { 0 = 1 }) Undefined)
spelled_cancel_by = refl

spelled_read : AloneIs (codes "read l0") (Read (record { 0 = 0 }))
spelled_read = refl

spelled_closed : AloneIs (codes "closed l0") (Closed (record { 0 = 0 }))
spelled_closed = refl

spelled_release : AloneIs (codes "release l0") (Release (record { 0 = 0 }))
spelled_release = refl

spelled_enqueue : AloneIs (codes "enqueue s0 x0aFF") (Enqueue (record { 0 = 0 }) (Bytes (10 ∷ 255 ∷ [])))
unfolding decode_pairs
spelled_enqueue = refl

spelled_enqueue_no_bytes : AloneIs (codes "enqueue s0 x") (Enqueue (record { 0 = 0 }) (Bytes []))
unfolding decode_pairs
spelled_enqueue_no_bytes = refl

spelled_enqueue_number : AloneIs (codes "enqueue s0 n5") (Enqueue (record { 0 = 0 }) (PlainValue (Number 5)))
spelled_enqueue_number = refl

spelled_finish : AloneIs (codes "finish s0") (Finish (record { 0 = 0 }))
spelled_finish = refl

spelled_fail : AloneIs (codes "fail s0 k3") (Fail (record { 0 = 0 }) (Local 3))
spelled_fail = refl

spelled_desired : AloneIs (codes "desired s0") (Desired (record { 0 = 0 }))
spelled_desired = refl

spelled_desired_by : AloneIs (codes "desired l0") (DesiredBy (record { 0 = 0 }))
spelled_desired_by = refl

spelled_pipe : AloneIs (codes "pipe s0 s1") (Pipe (record { 0 = 0 }) (record { 0 = 1 }) (record { close = false; abort = false; cancel = false }) None)
spelled_pipe = refl

spelled_pipe_one_option : AloneIs (codes "pipe s0 s1 prevent-abort") (Pipe (record { 0 = 0 }) (record { 0 = 1 }) (record { close = false; abort = true; cancel = false }) None)
spelled_pipe_one_option = refl

spelled_pipe_two_options : AloneIs (codes "pipe s0 s1 signal=a0 prevent-close") (Pipe (record { 0 = 0 }) (record { 0 = 1 }) (record { close = true; abort = false; cancel = false }) (Some (record { 0 = 0 })))
spelled_pipe_two_options = refl

spelled_pipe_every_option : AloneIs (codes "pipe s0 s1 prevent-cancel signal=a340282366920938463463374607431768211455 prevent-abort prevent-close") (Pipe (record { 0 = 0 }) (record { 0 = 1 }) (record { close = true; abort = true; cancel = true }) (Some (record { 0 = 340282366920938463463374607431768211455 })))
spelled_pipe_every_option = refl

spelled_send : AloneIs (codes "send s4294967295") (Send (record { 0 = 4294967295 }))
spelled_send = refl

spelled_open : AloneIs (codes "open readable") (Open Readable)
spelled_open = refl

spelled_open_writable : AloneIs (codes "open writable") (Open Writable)
spelled_open_writable = refl

spelled_deliver : AloneIs (codes "deliver c340282366920938463463374607431768211455 pull") (Deliver (record { 0 = 340282366920938463463374607431768211455 }) PullMessage)
spelled_deliver = refl

spelled_deliver_close : AloneIs (codes "deliver c0 close") (Deliver (record { 0 = 0 }) CloseMessage)
spelled_deliver_close = refl

spelled_deliver_chunk : AloneIs (codes "deliver c0 chunk n5") (Deliver (record { 0 = 0 }) (ChunkMessage (PlainValue (Number 5))))
spelled_deliver_chunk = refl

spelled_deliver_bytes : AloneIs (codes "deliver c1 chunk x6162") (Deliver (record { 0 = 1 }) (ChunkMessage (Bytes (97 ∷ 98 ∷ []))))
unfolding decode_pairs
spelled_deliver_bytes = refl

spelled_deliver_error : AloneIs (codes "deliver c0 error e7") (Deliver (record { 0 = 0 }) (ErrorMessage (Fault (User 7))))
spelled_deliver_error = refl

spelled_signal : AloneIs (codes "signal") MakeSignal
spelled_signal = refl

spelled_trigger : AloneIs (codes "trigger a1 e5") (Trigger (record { 0 = 1 }) (Fault (User 5)))
spelled_trigger = refl

spelled_settle : AloneIs (codes "settle h0 ok") (Settle (record { 0 = 0 }) AnswerOk)
spelled_settle = refl

spelled_settle_fail : AloneIs (codes "settle h0 fail n1") (Settle (record { 0 = 0 }) (AnswerFail (Number 1)))
spelled_settle_fail = refl

spelled_state : AloneIs (codes "state s0") (State (record { 0 = 0 }))
spelled_state = refl

spelled_step : AloneIs (codes "step") Step
spelled_step = refl

-- comments and empty lines are passed over and counted, and a carriage return at a line's end is dropped
counted : lines (codes "# a comment\n\n \t\r\n@0 step\r\n") ≡ Ok (record { number = 4; jobs = 0; call = Step } ∷ [])
counted = refl

most_jobs : lines (codes "@100000 step") ≡ Ok (record { number = 1; jobs = 100000; call = Step } ∷ [])
most_jobs = refl

refused_too_many_jobs : lines (codes "@100001 step") ≡ Err 1
refused_too_many_jobs = refl

refused_jobs_alone : lines (codes "@1") ≡ Err 1
refused_jobs_alone = refl

refused_zero_before : lines (codes "step\nread l01\nnothing") ≡ Err 2
refused_zero_before = refl

refused_another_word : lines (codes "step\n#\nnothing s0\nnothing") ≡ Err 3
refused_another_word = refl

refused_one_word_more : lines (codes "step s0") ≡ Err 1
refused_one_word_more = refl

refused_odd_digits : lines (codes "enqueue s0 xabc") ≡ Err 1
refused_odd_digits = refl

refused_no_hexadecimal : lines (codes "enqueue s0 xfg") ≡ Err 1
unfolding decode_pairs
refused_no_hexadecimal = refl

refused_large_stream : lines (codes "reader s4294967296") ≡ Err 1
refused_large_stream = refl

refused_option_twice : lines (codes "pipe s0 s1 prevent-close prevent-close") ≡ Err 1
refused_option_twice = refl

refused_signal_twice : lines (codes "pipe s0 s1 signal=a0 prevent-abort signal=a1") ≡ Err 1
refused_signal_twice = refl

refused_another_option : lines (codes "pipe s0 s1 prevent") ≡ Err 1
refused_another_option = refl

refused_option_without_a_signal : lines (codes "pipe s0 s1 signal=s0") ≡ Err 1
refused_option_without_a_signal = refl

refused_large_port : lines (codes "deliver c340282366920938463463374607431768211456 pull") ≡ Err 1
refused_large_port = refl

refused_pull_with_a_value : lines (codes "deliver c0 pull n1") ≡ Err 1
refused_pull_with_a_value = refl

refused_chunk_without_one : lines (codes "deliver c0 chunk") ≡ Err 1
refused_chunk_without_one = refl

-- a message's error is a reason, which bytes aren't
refused_error_of_bytes : lines (codes "deliver c0 error x61") ≡ Err 1
refused_error_of_bytes = refl

refused_open_without_a_side : lines (codes "open s0") ≡ Err 1
refused_open_without_a_side = refl

refused_large_signal : lines (codes "trigger a340282366920938463463374607431768211456 e1") ≡ Err 1
refused_large_signal = refl

refused_trigger_without_a_reason : lines (codes "trigger a0") ≡ Err 1
refused_trigger_without_a_reason = refl

refused_kind : lines (codes "transform Identity 1 0 now") ≡ Err 1
refused_kind = refl

refused_large_mark : lines (codes "transform host 1 18446744073709551616 now") ≡ Err 1
refused_large_mark = refl

refused_large_mark_of_the_writable_half : lines (codes "transform host 18446744073709551616 1 now") ≡ Err 1
refused_large_mark_of_the_writable_half = refl

refused_transform_with_one_mark : lines (codes "transform host 1 now") ≡ Err 1
refused_transform_with_one_mark = refl

refused_transform_with_a_size : lines (codes "transform host 1 0 count now") ≡ Err 1
refused_transform_with_a_size = refl

refused_terminate_by_a_lock : lines (codes "terminate l0") ≡ Err 1
refused_terminate_by_a_lock = refl

refused_terminate_with_a_reason : lines (codes "terminate s1 e1") ≡ Err 1
refused_terminate_with_a_reason = refl

refused_long_rooms : lines (codes "bytes 0 4097 now") ≡ Err 1
refused_long_rooms = refl

refused_large_mark_of_bytes : lines (codes "bytes 18446744073709551616 0 now") ≡ Err 1
refused_large_mark_of_bytes = refl

refused_bytes_with_a_size : lines (codes "bytes 0 count now") ≡ Err 1
refused_bytes_with_a_size = refl

refused_bytes_without_rooms : lines (codes "bytes 0 now") ≡ Err 1
refused_bytes_without_rooms = refl

refused_byob_by_a_lock : lines (codes "byob l0") ≡ Err 1
refused_byob_by_a_lock = refl

refused_byob_with_more : lines (codes "byob s0 0") ≡ Err 1
refused_byob_with_more = refl

refused_long_room : lines (codes "readinto l0 65537 1") ≡ Err 1
refused_long_room = refl

refused_large_element : lines (codes "readinto l0 8 256") ≡ Err 1
refused_large_element = refl

refused_room_with_leading_zero : lines (codes "readinto l0 08 4") ≡ Err 1
refused_room_with_leading_zero = refl

refused_readinto_on_a_stream : lines (codes "readinto s0 8 4") ≡ Err 1
refused_readinto_on_a_stream = refl

refused_readinto_without_an_element : lines (codes "readinto l0 8") ≡ Err 1
refused_readinto_without_an_element = refl

refused_readinto_with_a_leading_zero : lines (codes "readinto l0 8 4 01") ≡ Err 1
refused_readinto_with_a_leading_zero = refl

refused_readinto_with_a_large_least : lines (codes "readinto l0 8 4 18446744073709551616") ≡ Err 1
refused_readinto_with_a_large_least = refl

refused_readinto_with_more : lines (codes "readinto l0 8 4 1 1") ≡ Err 1
refused_readinto_with_more = refl

refused_request_by_a_lock : lines (codes "request l0") ≡ Err 1
refused_request_by_a_lock = refl

refused_request_by_its_number : lines (codes "request q0") ≡ Err 1
refused_request_by_its_number = refl

refused_large_request : lines (codes "respond q340282366920938463463374607431768211456 x") ≡ Err 1
refused_large_request = refl

refused_respond_with_a_reason : lines (codes "respond q0 undefined") ≡ Err 1
refused_respond_with_a_reason = refl

refused_respond_with_a_number : lines (codes "respond q0 1") ≡ Err 1
refused_respond_with_a_number = refl

refused_respond_without_bytes : lines (codes "respond q0") ≡ Err 1
refused_respond_without_bytes = refl

refused_respond_with_odd_digits : lines (codes "respond q0 x012") ≡ Err 1
refused_respond_with_odd_digits = refl

refused_respond_without_hexadecimal : lines (codes "respond q0 x0g") ≡ Err 1
unfolding decode_pairs
refused_respond_without_hexadecimal = refl

refused_respond_on_a_stream : lines (codes "respond s0 x01") ≡ Err 1
refused_respond_on_a_stream = refl

refused_return_inside : lines (codes "step\r ") ≡ Err 1
refused_return_inside = refl

refused_indented_comment : lines (codes " # a comment") ≡ Err 1
refused_indented_comment = refl
