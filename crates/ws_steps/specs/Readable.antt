-- The abstract operations of a readable stream with a default controller and a default reader. Each is a function of the
-- stream's slots and of what it leaves outside them: the promises, and the effects that it causes, in order. `me` is the stream's
-- own number, by which an effect names it.
use Rattle.std.specs.Prelude.{ℕ, Bool, true, false, not, ◌&&◌, ◌||◌, nat_lt, is_some, if◌then◌else◌, List, [], ◌∷◌, ◌++◌, Option, Some, None, Result, Ok, Err}
use Rattle.ws_value.specs.declared.ids.PromiseId.{PromiseId}
use Rattle.ws_value.specs.declared.ids.StreamId.{StreamId}
use Rattle.ws_value.specs.declared.value.Plain.{Plain}
use Rattle.ws_value.specs.declared.value.Plain.TheVariants.{Undefined}
use Rattle.ws_value.specs.declared.value.Value.{Value}
use Rattle.ws_steps.specs.declared.effects.Effect.{Effect}
use Rattle.ws_steps.specs.declared.effects.Effect.TheVariants.{PullAlgorithm, CancelAlgorithm, ChunkSteps, CloseSteps, ErrorSteps}
use Rattle.ws_steps.specs.declared.effects.Owner.{Owner}
use Rattle.ws_steps.specs.declared.queue.Queued.{Queued}
use Rattle.ws_steps.specs.declared.readable.ReadRequest.{ReadRequest}
use Rattle.ws_steps.specs.declared.readable.ReadableState.{ReadableState}
use Rattle.ws_steps.specs.declared.readable.ReadableState.TheVariants.{Readable, Closed, Errored}
use Rattle.ws_steps.specs.declared.readable.SizeBy.{SizeBy}
use Rattle.ws_steps.specs.Queues.{total_of, is_empty, enqueued, size_of}
use Rattle.ws_steps.specs.Effects.{Out, cause, cause_all, settling, type_error}

-- the slots of the stream, of its controller, and of the reader that locks it; and whose algorithms it performs
pub record Slots : Type 0 where
  pub owner : Owner
  pub state : ReadableState
  pub stored_error : Plain
  pub disturbed : Bool
  -- the closed promise of the reader, where there is one
  pub reader : Option PromiseId
  pub requests : List ReadRequest
  pub queue : List (Queued Value)
  pub hwm : ℕ
  pub size_by : SizeBy
  pub started : Bool
  pub pulling : Bool
  pub pull_again : Bool
  pub close_requested : Bool

-- what an operation changes
pub record Acts : Type 0 where
  pub slots : Slots
  pub out : Out

-- InitializeReadableStream, and SetUpReadableStreamDefaultController: the controller's slots as given, the queue empty, the flags
-- false. The start algorithm is performed once the stream is made
abbrev pub set_up : Owner → ℕ → SizeBy → Slots
set_up owner mark size =
    record {
      owner = owner;
      state = Readable;
      stored_error = Undefined;
      disturbed = false;
      reader = None;
      requests = [];
      queue = [];
      hwm = mark;
      size_by = size;
      started = false;
      pulling = false;
      pull_again = false;
      close_requested = false;
    }

-- the close steps of each request of stream `me`, in order
abbrev pub close_all : StreamId → List ReadRequest → List Effect
close_all me [] = []
close_all me (r ∷ rs) = CloseSteps me r ∷ close_all me rs

-- the error steps of each request of stream `me`, in order
abbrev pub error_all : StreamId → Plain → List ReadRequest → List Effect
error_all me e [] = []
error_all me e (r ∷ rs) = ErrorSteps me r e ∷ error_all me e rs

-- an effect after the others
abbrev pub causing : Effect → Acts → Acts
causing effect a = record a { out = cause effect a.out }

abbrev pub is_readable : ReadableState → Bool
is_readable Readable = true
is_readable Closed = false
is_readable Errored = false

-- the read requests that wait, where the stream is locked
abbrev pub waiting : Slots → List ReadRequest
waiting s = if is_some s.reader then s.requests else []

-- ReadableStreamDefaultControllerCanCloseOrEnqueue: no close was requested and the state is readable
abbrev pub can_close_or_enqueue : Slots → Bool
can_close_or_enqueue s = not s.close_requested && is_readable s.state

-- ReadableStreamDefaultControllerShouldCallPull: false unless it can close or enqueue and started. True where the stream is
-- locked and a read request waits. Else whether the desired size is more than 0
abbrev pub should_call_pull : Slots → Bool
should_call_pull s =
    can_close_or_enqueue s && s.started && (not (is_empty (waiting s)) || nat_lt (total_of s.queue) s.hwm)

abbrev pub call_pull : StreamId → Acts → Acts
call_pull me a =
    if a.slots.pulling
    then record a { slots = record a.slots { pull_again = true } }
    else record { slots = record a.slots { pulling = true }; out = cause (PullAlgorithm me) a.out }

-- ReadableStreamDefaultControllerCallPullIfNeeded: where it is pulling already, it pulls again afterwards; else perform the
-- pull algorithm
unfoldable pub call_pull_if_needed : StreamId → Acts → Acts
call_pull_if_needed me a = if should_call_pull a.slots then call_pull me a else a

abbrev pub accept_for : StreamId → Value → Acts → List ReadRequest → Acts
accept_for me v a [] =
    record a { slots = record a.slots { queue = enqueued v (size_of a.slots.size_by v) a.slots.queue } }
accept_for me v a (r ∷ rs) = record { slots = record a.slots { requests = rs }; out = cause (ChunkSteps me r v) a.out }

-- the first request that waits gets the chunk; where none waits, it goes to the end of the queue
unfoldable pub accept : StreamId → Value → Acts → Acts
accept me v a = accept_for me v a (waiting a.slots)

-- ReadableStreamDefaultControllerEnqueue
unfoldable pub controller_enqueue : StreamId → Value → Acts → Acts
controller_enqueue me v a = if can_close_or_enqueue a.slots then call_pull_if_needed me (accept me v a) else a

abbrev pub close_reader : StreamId → Acts → Option PromiseId → Acts
close_reader me a None = a
close_reader me a (Some closed) =
    record {
      slots = record a.slots { requests = [] };
      out = cause_all (close_all me a.slots.requests) (settling closed (Ok Undefined) a.out);
    }

-- ReadableStreamClose: the state is closed. Where there is a reader, fulfil its closed promise, and then perform the close
-- steps of all its requests, in order
unfoldable pub stream_close : StreamId → Acts → Acts
stream_close me a = close_reader me (record a { slots = record a.slots { state = Closed } }) a.slots.reader

abbrev pub error_reader : StreamId → Plain → Acts → Option PromiseId → Acts
error_reader me e a None = a
error_reader me e a (Some closed) =
    record {
      slots = record a.slots { requests = [] };
      out = cause_all (error_all me e a.slots.requests) (settling closed (Err e) a.out);
    }

-- ReadableStreamError: the state is errored, with this stored error. Where there is a reader, reject its closed promise, and
-- then perform the error steps of all its requests, in order
unfoldable pub stream_error : StreamId → Plain → Acts → Acts
stream_error me e a =
    error_reader me e (record a { slots = record a.slots { state = Errored; stored_error = e } }) a.slots.reader

unfoldable pub close_if_empty : StreamId → Acts → Acts
close_if_empty me a = if is_empty a.slots.queue then stream_close me a else a

-- ReadableStreamDefaultControllerClose: the close is requested, and comes at once where the queue is empty
unfoldable pub controller_close : StreamId → Acts → Acts
controller_close me a =
    if can_close_or_enqueue a.slots
    then close_if_empty me (record a { slots = record a.slots { close_requested = true } })
    else a

-- ReadableStreamDefaultControllerError: where the stream is readable, reset the queue and error the stream
unfoldable pub controller_error : StreamId → Plain → Acts → Acts
controller_error me e a =
    if is_readable a.slots.state
    then stream_error me e (record a { slots = record a.slots { queue = [] } })
    else a

-- after a chunk was taken: close where that was asked for and the queue is empty now, and else pull if needed
unfoldable pub after_take : StreamId → Acts → Acts
after_take me a =
    if a.slots.close_requested && is_empty a.slots.queue then stream_close me a else call_pull_if_needed me a

abbrev pub pull_from : StreamId → ReadRequest → Acts → List (Queued Value) → Acts
pull_from me r a [] =
    call_pull_if_needed me (record a { slots = record a.slots { requests = a.slots.requests ++ r ∷ [] } })
pull_from me r a (q ∷ qs) = causing (ChunkSteps me r q.value) (after_take me (record a { slots = record a.slots { queue = qs } }))

-- the default controller's [[PullSteps]]: take the first chunk of the queue, close or pull, and then perform the request's chunk
-- steps with it; where the queue is empty, the request waits
unfoldable pub pull_steps : StreamId → ReadRequest → Acts → Acts
pull_steps me r a = pull_from me r a a.slots.queue

abbrev pub read_by : StreamId → ReadRequest → Acts → ReadableState → Acts
read_by me r a Readable = pull_steps me r a
read_by me r a Closed = causing (CloseSteps me r) a
read_by me r a Errored = causing (ErrorSteps me r a.slots.stored_error) a

-- ReadableStreamDefaultReaderRead
unfoldable pub default_reader_read : StreamId → ReadRequest → Acts → Acts
default_reader_read me r a = read_by me r (record a { slots = record a.slots { disturbed = true } }) a.slots.state

abbrev pub settle_closed : PromiseId → Plain → Out → ReadableState → Out
settle_closed closed e out Readable = out
settle_closed closed e out Closed = settling closed (Ok Undefined) out
settle_closed closed e out Errored = settling closed (Err e) out

-- the stream is disturbed
unfoldable pub disturb : Acts → Acts
disturb a = record a { slots = record a.slots { disturbed = true } }

-- ReadableStreamReaderGenericInitialize: the reader locks the stream. Its closed promise, which is new, is resolved with undefined
-- where the stream is closed, and rejected with the stored error where it is errored
unfoldable pub reader_generic_initialize : PromiseId → Acts → Acts
reader_generic_initialize closed a =
    record {
      slots = record a.slots { reader = Some closed; requests = [] };
      out = settle_closed closed a.slots.stored_error a.out a.slots.state;
    }

-- the controller's reaction to its start algorithm
unfoldable pub start_settled : StreamId → Result Plain Plain → Acts → Acts
start_settled me (Ok v) a = call_pull_if_needed me (record a { slots = record a.slots { started = true } })
start_settled me (Err r) a = controller_error me r a

abbrev pub pull_ended : StreamId → Acts → Bool → Acts
pull_ended me a false = a
pull_ended me a true = call_pull_if_needed me (record a { slots = record a.slots { pull_again = false } })

-- the controller's reaction to its pull algorithm: it pulls no longer, and pulls again where that was asked for meanwhile
unfoldable pub pull_settled : StreamId → Result Plain Plain → Acts → Acts
pull_settled me (Ok v) a =
    pull_ended me (record a { slots = record a.slots { pulling = false } }) a.slots.pull_again
pull_settled me (Err e) a = controller_error me e a

-- the default controller's [[CancelSteps]]: reset the queue, and perform the cancel algorithm; the promise that is answered is
-- the result of reacting to it with steps that return undefined
unfoldable pub cancel_steps : StreamId → Plain → PromiseId → Acts → Acts
cancel_steps me r p a = record { slots = record a.slots { queue = [] }; out = cause (CancelAlgorithm me r p) a.out }

abbrev pub cancel_by : StreamId → Plain → PromiseId → Acts → ReadableState → Acts
cancel_by me r p a Readable = cancel_steps me r p (stream_close me a)
cancel_by me r p a Closed = record a { out = settling p (Ok Undefined) a.out }
cancel_by me r p a Errored = record a { out = settling p (Err a.slots.stored_error) a.out }

-- ReadableStreamCancel: the stream is disturbed. The promise that is answered, which is new, is resolved with undefined where the
-- stream is closed, and rejected with the stored error where it is errored; else close the stream and perform the cancel steps
unfoldable pub stream_cancel : StreamId → Plain → PromiseId → Acts → Acts
stream_cancel me r p a = cancel_by me r p (record a { slots = record a.slots { disturbed = true } }) a.slots.state

abbrev pub cancel_readable_by : StreamId → Plain → PromiseId → Acts → ReadableState → Acts
cancel_readable_by me r p a Readable = stream_cancel me r p a
cancel_readable_by me r p a Closed = record a { out = settling p (Ok Undefined) a.out }
cancel_readable_by me r p a Errored = record a { out = settling p (Ok Undefined) a.out }

-- ReadableStreamCancel where the stream is readable, and else a promise resolved with undefined
unfoldable pub cancel_if_readable : StreamId → Plain → PromiseId → Acts → Acts
cancel_if_readable me r p a = cancel_readable_by me r p a a.slots.state

abbrev pub release_closed : PromiseId → Out → ReadableState → Out
release_closed closed out Readable = settling closed (Err type_error) out
release_closed closed out Closed = out
release_closed closed out Errored = out

abbrev pub release_by : StreamId → Acts → Option PromiseId → Acts
release_by me a None = a
release_by me a (Some closed) =
    record {
      slots = record a.slots { reader = None; requests = [] };
      out = cause_all (error_all me type_error a.slots.requests) (release_closed closed a.out a.slots.state);
    }

-- ReadableStreamReaderGenericRelease, and ReadableStreamDefaultReaderErrorReadRequests: where the stream is readable, reject the
-- closed promise with a TypeError; else a reader of the host's gets a new one, which the call makes. The default
-- controller has no [[ReleaseSteps]]. The stream is unlocked. Perform the error steps of the reader's requests with a TypeError, in order
unfoldable pub reader_release : StreamId → Acts → Acts
reader_release me a = release_by me a a.slots.reader
