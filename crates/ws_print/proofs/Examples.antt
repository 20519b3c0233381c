-- The definitions computed on examples.
use Rattle.std.proofs.Common.{◌≡◌, pos, negsuc, true, false, [], ◌∷◌, Some, None, refl}
use Rattle.std.specs.Prelude.{codes}
use Rattle.std.specs.Fmt.{digits}
use Rattle.hex.specs.Hex.{encode_with}
use Rattle.ws_steps.specs.declared.calls.Flags.{Flags}
use Rattle.ws_steps.specs.declared.calls.HostCall.TheVariants.{Start, Pull, Cancel, Write, Close, Abort, Transform, Flush, CancelTransform}
use Rattle.ws_steps.specs.declared.calls.Reply.TheVariants.{Done, Made, MadeTwo, Lock, Promise, Signal, Request, Size, Port, MadePort, State, Throws, TooMany}
use Rattle.ws_steps.specs.declared.calls.Thrown.TheVariants.{RangeError}
use Rattle.ws_steps.specs.declared.calls.Word.TheVariants.{Readable, Erroring}
use Rattle.ws_value.specs.declared.fault.Fault.TheVariants.{TypeError, User, Stage}
use Rattle.ws_value.specs.declared.fault.Fault.TheVariants.{DataClone}
use Rattle.ws_value.specs.declared.value.Message.TheVariants.{Pull as PullMessage, Chunk as ChunkMessage, Close as CloseMessage, Error as ErrorMessage}
use Rattle.ws_value.specs.declared.value.Outcome.TheVariants.{Fulfilled, Given, Finished, Rejected}
use Rattle.ws_value.specs.declared.value.Plain.TheVariants.{Undefined, Number, Fault, Pair, Local}
use Rattle.ws_value.specs.declared.value.Value.TheVariants.{Plain, Bytes}
use Rattle.ws_print.specs.Replies.{letter_where, letters_of}
use Rattle.ws_print.specs.Events.{reply_line, host_text, settled_text, signal_text, post_text, again_text}

abbrev no_flags : Flags
no_flags = record { s = false; p = false; g = false; c = false; d = false; l = false; b = false; w = false; f = false; q = false; a = false }

done : reply_line 4 None Done ≡ codes "4 done\n"
unfolding digits
done = refl

made : reply_line 1 None (Made (record { 0 = 0 })) ≡ codes "1 made s0\n"
unfolding digits
made = refl

made_two : reply_line 1 None (MadeTwo (record { 0 = 9 }) (record { 0 = 10 })) ≡ codes "1 made s9 s10\n"
unfolding digits
made_two = refl

lock : reply_line 2 None (Lock (record { 0 = 0 })) ≡ codes "2 lock l0\n"
unfolding digits
lock = refl

promise : reply_line 3 (Some 0) (Promise (record { 0 = 12 })) ≡ codes "3 promise p0\n"
unfolding digits
promise = refl

promise_that_no_reply_named : reply_line 3 None (Promise (record { 0 = 12 })) ≡ codes "3 promise p?\n"
unfolding digits
promise_that_no_reply_named = refl

signal_made : reply_line 3 None (Signal (record { 0 = 0 })) ≡ codes "3 signal a0\n"
unfolding digits
signal_made = refl

request_with_room : reply_line 4 None (Request (Some (record { 0 = 0 }, 4))) ≡ codes "4 request q0 4\n"
unfolding digits
request_with_room = refl

-- the largest number of a request, and the longest room
request_with_large_numbers : reply_line 4 None (Request (Some (record { 0 = 340282366920938463463374607431768211455 }, 18446744073709551615))) ≡ codes "4 request q340282366920938463463374607431768211455 18446744073709551615\n"
unfolding digits
request_with_large_numbers = refl

no_request : reply_line 4 None (Request None) ≡ codes "4 request none\n"
unfolding digits
no_request = refl

size : reply_line 6 None (Size (Some (pos 18446744073709551615))) ≡ codes "6 size 18446744073709551615\n"
unfolding digits
size = refl

negative_size : reply_line 6 None (Size (Some (negsuc 1))) ≡ codes "6 size -2\n"
unfolding digits
negative_size = refl

no_size : reply_line 6 None (Size None) ≡ codes "6 size null\n"
unfolding digits
no_size = refl

port : reply_line 2 None (Port (record { 0 = 340282366920938463463374607431768211455 })) ≡ codes "2 port c340282366920938463463374607431768211455\n"
unfolding digits
port = refl

made_port : reply_line 1 None (MadePort (record { 0 = 3 }) (record { 0 = 0 })) ≡ codes "1 made s3 port c0\n"
unfolding digits
made_port = refl

throws : reply_line 10 None (Throws RangeError) ≡ codes "10 throws RangeError\n"
unfolding digits
throws = refl

too_many : reply_line 1025 None TooMany ≡ codes "1025 too many\n"
unfolding digits
too_many = refl

state_before_the_start : reply_line 4 None (State (record { state = Readable; flags = no_flags; total = 0; queue = 0; requests = 0 })) ≡ codes "4 state readable - total 0 queue 0 requests 0\n"
unfolding digits letter_where letters_of
state_before_the_start = refl

state_while_pulling : reply_line 5 None (State (record { state = Readable; flags = record no_flags { s = true; p = true; d = true; l = true }; total = 0; queue = 0; requests = 0 })) ≡ codes "5 state readable spdl total 0 queue 0 requests 0\n"
unfolding digits letter_where letters_of
state_while_pulling = refl

-- a byte stream with two entries of three bytes in its queue, which is to be pulled again
state_of_bytes : reply_line 8 None (State (record { state = Readable; flags = record no_flags { s = true; p = true; g = true; d = true }; total = 3; queue = 2; requests = 0 })) ≡ codes "8 state readable spgd total 3 queue 2 requests 0\n"
unfolding digits letter_where letters_of
state_of_bytes = refl

state_with_every_flag : reply_line 5 None (State (record { state = Erroring; flags = record { s = true; p = true; g = true; c = true; d = true; l = true; b = true; w = true; f = true; q = true; a = true }; total = 340282366920938463463374607431768211455; queue = 2; requests = 3 })) ≡ codes "5 state erroring spgcdbwfqal total 340282366920938463463374607431768211455 queue 2 requests 3\n"
unfolding digits letter_where letters_of
state_with_every_flag = refl

host_start : host_text None (record { 0 = 0 }) (Start (record { 0 = 0 })) ≡ codes "  host h0 start s0\n"
unfolding digits
host_start = refl

host_pull : host_text None (record { 0 = 1 }) (Pull (record { 0 = 0 })) ≡ codes "  host h1 pull s0\n"
unfolding digits
host_pull = refl

host_cancel : host_text None (record { 0 = 2 }) (Cancel (record { 0 = 1 }) (Fault (User 7))) ≡ codes "  host h2 cancel s1 e7\n"
unfolding digits
host_cancel = refl

given_number : settled_text None (Some 0) (Some (Given (Plain (Number 1)))) ≡ codes "  p0 given n1\n"
unfolding digits
given_number = refl

given_bytes : settled_text None (Some 1) (Some (Given (Bytes (97 ∷ 98 ∷ 255 ∷ [])))) ≡ codes "  p1 given x6162ff\n"
unfolding digits encode_with
given_bytes = refl

-- a read of a BYOB reader that ended: its room is handed back with the bytes that it has, or with none
finished_bytes : settled_text None (Some 0) (Some (Finished (Bytes (1 ∷ 2 ∷ [])))) ≡ codes "  p0 finished x0102\n"
unfolding digits encode_with
finished_bytes = refl

finished_no_bytes : settled_text None (Some 0) (Some (Finished (Bytes []))) ≡ codes "  p0 finished x\n"
unfolding digits encode_with
finished_no_bytes = refl

finished : settled_text None (Some 10) (Some (Finished (Plain Undefined))) ≡ codes "  p10 finished undefined\n"
unfolding digits
finished = refl

fulfilled : settled_text None (Some 0) (Some (Fulfilled Undefined)) ≡ codes "  p0 fulfilled undefined\n"
unfolding digits
fulfilled = refl

rejected_by_a_fault : settled_text None (Some 0) (Some (Rejected (Fault TypeError))) ≡ codes "  p0 rejected TypeError\n"
unfolding digits
rejected_by_a_fault = refl

rejected_by_a_stage : settled_text None (Some 0) (Some (Rejected (Fault (Stage 1 2 3)))) ≡ codes "  p0 rejected Stage(1,2,3)\n"
unfolding digits
rejected_by_a_stage = refl

rejected_by_a_pair : settled_text None (Some 0) (Some (Rejected (Pair (record { 0 = 0 })))) ≡ codes "  p0 rejected pair\n"
unfolding digits
rejected_by_a_pair = refl

-- the two reasons of a tee, where they are known
cancelled_by_a_pair : host_text (Some (Fault (User 1), Undefined)) (record { 0 = 1 }) (Cancel (record { 0 = 0 }) (Pair (record { 0 = 0 }))) ≡ codes "  host h1 cancel s0 [e1,undefined]\n"
unfolding digits
cancelled_by_a_pair = refl

pair_inside_a_pair : host_text (Some (Pair (record { 0 = 1 }), Fault (User 3))) (record { 0 = 1 }) (Cancel (record { 0 = 0 }) (Pair (record { 0 = 0 }))) ≡ codes "  host h1 cancel s0 [pair,e3]\n"
unfolding digits
pair_inside_a_pair = refl

rejected_by_a_known_pair : settled_text (Some (Number 7, Local 0)) (Some 0) (Some (Rejected (Pair (record { 0 = 0 })))) ≡ codes "  p0 rejected [n7,k0]\n"
unfolding digits
rejected_by_a_known_pair = refl

signalled_by_a_pair : signal_text (Some (Number 1, Number 2)) (record { 0 = 0 }) (Pair (record { 0 = 0 })) ≡ codes "  signal s0 [n1,n2]\n"
unfolding digits
signalled_by_a_pair = refl

rejected_by_a_local : settled_text None (Some 0) (Some (Rejected (Local 4294967295))) ≡ codes "  p0 rejected k4294967295\n"
unfolding digits
rejected_by_a_local = refl

unknown : settled_text None (Some 5) None ≡ codes "  p5 unknown\n"
unfolding digits
unknown = refl

again : again_text true ≡ codes "  again\n"
again = refl

not_again : again_text false ≡ []
not_again = refl

host_write : host_text None (record { 0 = 0 }) (Write (record { 0 = 0 }) (Plain (Number 1))) ≡ codes "  host h0 write s0 n1\n"
unfolding digits
host_write = refl

host_close : host_text None (record { 0 = 2 }) (Close (record { 0 = 1 })) ≡ codes "  host h2 close s1\n"
unfolding digits
host_close = refl

host_abort : host_text None (record { 0 = 1 }) (Abort (record { 0 = 0 }) (Fault (User 7))) ≡ codes "  host h1 abort s0 e7\n"
unfolding digits
host_abort = refl

host_transform : host_text None (record { 0 = 0 }) (Transform (record { 0 = 1 }) (Plain (Number 1))) ≡ codes "  host h0 transform s1 n1\n"
unfolding digits
host_transform = refl

host_flush : host_text None (record { 0 = 1 }) (Flush (record { 0 = 1 })) ≡ codes "  host h1 flush s1\n"
unfolding digits
host_flush = refl

host_cancel_transform : host_text None (record { 0 = 2 }) (CancelTransform (record { 0 = 1 }) (Fault (User 7))) ≡ codes "  host h2 canceltransform s1 e7\n"
unfolding digits
host_cancel_transform = refl

signal : signal_text None (record { 0 = 0 }) (Fault (User 7)) ≡ codes "  signal s0 e7\n"
unfolding digits
signal = refl

posted_pull : post_text (record { 0 = 0 }) PullMessage ≡ codes "  post c0 pull\n"
unfolding digits
posted_pull = refl

posted_chunk : post_text (record { 0 = 0 }) (ChunkMessage (Plain (Number 1))) ≡ codes "  post c0 chunk n1\n"
unfolding digits
posted_chunk = refl

posted_bytes : post_text (record { 0 = 12 }) (ChunkMessage (Bytes (97 ∷ 255 ∷ []))) ≡ codes "  post c12 chunk x61ff\n"
unfolding digits encode_with
posted_bytes = refl

posted_close : post_text (record { 0 = 0 }) CloseMessage ≡ codes "  post c0 close\n"
unfolding digits
posted_close = refl

posted_error : post_text (record { 0 = 0 }) (ErrorMessage (Fault DataClone)) ≡ codes "  post c0 error DataClone\n"
unfolding digits
posted_error = refl
