-- The text of a call's reply.
use Rattle.std.specs.Prelude.{ℕ, ℤ, Bool, if◌then◌else◌, List, [], ◌∷◌, ◌++◌, Option, Some, None, codes}
use Rattle.std.specs.Fmt.{signed_decimal}
use Rattle.ws_steps.specs.declared.calls.Flags.{Flags}
use Rattle.ws_steps.specs.declared.calls.Reply.{Reply}
use Rattle.ws_steps.specs.declared.calls.Reply.TheVariants.{Done, Made, MadeTwo, Lock, Promise, Signal, Request, Size, Port, MadePort, State, Throws, TooMany}
use Rattle.ws_steps.specs.declared.calls.StateIs.{StateIs}
use Rattle.ws_steps.specs.declared.calls.Thrown.{Thrown}
use Rattle.ws_steps.specs.declared.calls.Thrown.TheVariants.{TypeError, RangeError, DataClone, Unsupported}
use Rattle.ws_steps.specs.declared.calls.Word.{Word}
use Rattle.ws_steps.specs.declared.calls.Word.TheVariants.{Readable, Closed, Errored, Writable, Erroring}
use Rattle.ws_value.specs.declared.ids.RequestId.{RequestId}
use Rattle.ws_print.specs.Values.{numbered}

-- a promise by its rank among those that replies named
abbrev pub promise_name : Option ℕ → List ℕ
promise_name (Some rank) = numbered (codes "p") rank
promise_name None = codes "p?"

-- a desired size, or null
abbrev pub size_text : Option ℤ → List ℕ
size_text (Some size) = signed_decimal size
size_text None = codes "null"

-- a request of a byte stream's controller, and how many bytes its view has room for, or none
abbrev pub request_text : Option (RequestId × ℕ) → List ℕ
request_text (Some (request, room)) = numbered (codes "q") request.0 ++ numbered (codes " ") room
request_text None = codes "none"

abbrev pub word_text : Word → List ℕ
word_text Readable = codes "readable"
word_text Closed = codes "closed"
word_text Errored = codes "errored"
word_text Writable = codes "writable"
word_text Erroring = codes "erroring"

-- a flag's letter, where the flag is true
unfoldable pub letter_where : Bool → List ℕ → List ℕ
letter_where flag letter = if flag then letter else []

-- the letters of the flags that are true: first those of either side alone, and whether it is locked last
unfoldable pub letters_of : Flags → List ℕ
letters_of flags =
    letter_where flags.s (codes "s")
    ++ letter_where flags.p (codes "p")
    ++ letter_where flags.g (codes "g")
    ++ letter_where flags.c (codes "c")
    ++ letter_where flags.d (codes "d")
    ++ letter_where flags.b (codes "b")
    ++ letter_where flags.w (codes "w")
    ++ letter_where flags.f (codes "f")
    ++ letter_where flags.q (codes "q")
    ++ letter_where flags.a (codes "a")
    ++ letter_where flags.l (codes "l")

-- letters, or `-` where there are none
abbrev pub letters_or_dash : List ℕ → List ℕ
letters_or_dash [] = codes "-"
letters_or_dash (letter ∷ letters) = letter ∷ letters

abbrev pub flags_text : Flags → List ℕ
flags_text flags = letters_or_dash (letters_of flags)

-- what a stream shows of itself: its state, its flags, and three numbers
abbrev pub state_text : StateIs → List ℕ
state_text shown =
    word_text shown.state ++ codes " " ++ flags_text shown.flags
    ++ numbered (codes " total ") shown.total
    ++ numbered (codes " queue ") shown.queue
    ++ numbered (codes " requests ") shown.requests

abbrev pub thrown_name : Thrown → List ℕ
thrown_name TypeError = codes "TypeError"
thrown_name RangeError = codes "RangeError"
thrown_name DataClone = codes "DataClone"
thrown_name Unsupported = codes "Unsupported"

-- a reply; the rank is that of the promise that it names, if it names one
abbrev pub reply_text : Option ℕ → Reply → List ℕ
reply_text rank Done = codes "done"
reply_text rank (Made stream) = numbered (codes "made s") stream.0
reply_text rank (MadeTwo first second) = numbered (codes "made s") first.0 ++ numbered (codes " s") second.0
reply_text rank (Lock lock) = numbered (codes "lock l") lock.0
reply_text rank (Promise promise) = codes "promise " ++ promise_name rank
reply_text rank (Signal signal) = numbered (codes "signal a") signal.0
reply_text rank (Request request) = codes "request " ++ request_text request
reply_text rank (Size size) = codes "size " ++ size_text size
reply_text rank (Port port) = numbered (codes "port c") port.0
reply_text rank (MadePort stream port) = numbered (codes "made s") stream.0 ++ numbered (codes " port c") port.0
reply_text rank (State shown) = codes "state " ++ state_text shown
reply_text rank (Throws thrown) = codes "throws " ++ thrown_name thrown
reply_text rank TooMany = codes "too many"
