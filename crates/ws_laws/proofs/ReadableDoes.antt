-- What an operation of a readable stream does outside its record: it settles promises, and causes algorithms and requests' steps of
-- this stream.
use Rattle.std.proofs.Common.{◌≡◌, refl, Bool, true, false, ◌&&◌, List, [], ◌∷◌, Option, Some, None, Result, Ok, Err, append_assoc, append-nil}
use Rattle.ws_value.specs.declared.ids.PromiseId.{PromiseId}
use Rattle.ws_value.specs.declared.ids.StreamId.{StreamId}
use Rattle.ws_value.specs.declared.value.Plain.{Plain}
use Rattle.ws_value.specs.declared.value.Plain.TheVariants.{Undefined}
use Rattle.ws_value.specs.declared.value.Value.{Value}
use Rattle.ws_steps.specs.declared.{effects.Effect.TheVariants.{PullAlgorithm, CancelAlgorithm, ChunkSteps, CloseSteps, ErrorSteps}, queue.Queued.{Queued}}
use Rattle.ws_steps.specs.declared.{readable.ReadRequest.{ReadRequest}, readable.ReadableOperation.{ReadableOperation}}
use Rattle.ws_steps.specs.declared.readable.ReadableOperation.TheVariants as names
use Rattle.ws_steps.specs.declared.{readable.ReadableState.{ReadableState}, readable.ReadableState.TheVariants.{Readable, Closed, Errored}}
use Rattle.ws_steps.specs.Effects.{Out, cause, cause_all, settling, type_error}
use Rattle.ws_steps.specs.Queues.{is_empty}
use Rattle.ws_steps.specs.Operations.{readable_operation}
use Rattle.ws_steps.specs.Readable.{Acts, is_readable, waiting, can_close_or_enqueue, close_all, error_all, should_call_pull, call_pull, call_pull_if_needed, accept_for, accept, controller_enqueue, close_reader, stream_close, error_reader, stream_error, close_if_empty, controller_close, controller_error, after_take, pull_from, read_by, pull_steps, default_reader_read, settle_closed, reader_generic_initialize, disturb, cancel_readable_by, cancel_if_readable, start_settled, pull_ended, pull_settled, cancel_steps, cancel_by, stream_cancel, release_closed, release_by, reader_release}
use Rattle.ws_laws.proofs.Tables.{either}

-- what goes on with each settling, and with what an operation of readable stream i causes
pub record OfReadable (Q : Out → Type 0) (i : StreamId) : Type 0 where
  pub settle : (x : Out) (p : PromiseId) (o : Result Plain Plain) → Q x → Q (settling p o x)
  pub pull : (x : Out) → Q x → Q (cause (PullAlgorithm i) x)
  pub cancel : (x : Out) (r : Plain) (p : PromiseId) → Q x → Q (cause (CancelAlgorithm i r p) x)
  pub chunk : (x : Out) (request : ReadRequest) (v : Value) → Q x → Q (cause (ChunkSteps i request v) x)
  pub close : (x : Out) (request : ReadRequest) → Q x → Q (cause (CloseSteps i request) x)
  pub error : (x : Out) (request : ReadRequest) (e : Plain) → Q x → Q (cause (ErrorSteps i request e) x)

-- without the chunk steps
pub record OfReadableEnds (Q : Out → Type 0) (i : StreamId) : Type 0 where
  pub settle : (x : Out) (p : PromiseId) (o : Result Plain Plain) → Q x → Q (settling p o x)
  pub pull : (x : Out) → Q x → Q (cause (PullAlgorithm i) x)
  pub cancel : (x : Out) (r : Plain) (p : PromiseId) → Q x → Q (cause (CancelAlgorithm i r p) x)
  pub close : (x : Out) (request : ReadRequest) → Q x → Q (cause (CloseSteps i request) x)
  pub error : (x : Out) (request : ReadRequest) (e : Plain) → Q x → Q (cause (ErrorSteps i request e) x)

-- whether an operation may cause chunk steps
abbrev pub is_taking : ReadableOperation → Bool
is_taking (names.Enqueue v) = true
is_taking (names.Read request) = true
is_taking _ = false

abbrev pub Does : (Out → Type 0) → Acts → Acts → Type 0
Does Q a b = Q a.out → Q b.out

module _ (Q : Out → Type 0) (i : StreamId) (of : OfReadableEnds Q i) where
  pub pull-does : (a : Acts) → Does Q a (call_pull_if_needed i a)
  unfolding call_pull_if_needed
  pull-does a h =
      either (λ (z : Acts). Q z.out) (should_call_pull a.slots) (call_pull i a) a
      (λ e. either (λ (z : Acts). Q z.out) a.slots.pulling _ _ (λ e. h) (λ e. of.pull a.out h)) (λ e. h)

  pub close_all-does : (rs : List ReadRequest) (x : Out) → Q x → Q (cause_all (close_all i rs) x)
  close_all-does [] x h = rw (append-nil x.effects) h
  close_all-does (r ∷ rs) x h =
      rw (← append_assoc x.effects (CloseSteps i r ∷ []) (close_all i rs)) (close_all-does rs (cause (CloseSteps i r) x) (of.close x r h))

  error_all-does : (e : Plain) (rs : List ReadRequest) (x : Out) → Q x → Q (cause_all (error_all i e rs) x)
  error_all-does e [] x h = rw (append-nil x.effects) h
  error_all-does e (r ∷ rs) x h =
      rw (← append_assoc x.effects (ErrorSteps i r e ∷ []) (error_all i e rs)) (error_all-does e rs (cause (ErrorSteps i r e) x) (of.error x r e h))

  reader_closes : (a : Acts) (reader : Option PromiseId) → Does Q a (close_reader i a reader)
  reader_closes a None h = h
  reader_closes a (Some closed) h = close_all-does a.slots.requests _ (of.settle a.out closed (Ok Undefined) h)

  pub stream_close-does : (a : Acts) → Does Q a (stream_close i a)
  unfolding stream_close
  stream_close-does a h = reader_closes (record a { slots = record a.slots { state = Closed } }) a.slots.reader h

  pub reader_errs : (e : Plain) (a : Acts) (reader : Option PromiseId) → Does Q a (error_reader i e a reader)
  reader_errs e a None h = h
  reader_errs e a (Some closed) h = error_all-does e a.slots.requests _ (of.settle a.out closed (Err e) h)

  close-does : (a : Acts) → Does Q a (controller_close i a)
  unfolding controller_close close_if_empty
  close-does a h =
      let b : Acts = record a { slots = record a.slots { close_requested = true } } in
      either (λ (z : Acts). Q z.out) (can_close_or_enqueue a.slots) (close_if_empty i b) a
      (λ can. either (λ (z : Acts). Q z.out) (is_empty b.slots.queue) (stream_close i b) b (λ e. stream_close-does b h) (λ e. h)) (λ cannot. h)

  error-does : (e : Plain) (a : Acts) → Does Q a (controller_error i e a)
  unfolding controller_error stream_error
  error-does e a h =
      let b : Acts = record a { slots = record a.slots { queue = []; state = Errored; stored_error = e } } in
      either (λ (z : Acts). Q z.out) (is_readable a.slots.state) (error_reader i e b a.slots.reader) a (λ is. reader_errs e b a.slots.reader h) (λ isnt. h)

  pub take-does : (a : Acts) → Does Q a (after_take i a)
  unfolding after_take
  take-does a h =
      either (λ (z : Acts). Q z.out) (a.slots.close_requested && is_empty a.slots.queue) (stream_close i a) (call_pull_if_needed i a)
      (λ e. stream_close-does a h) (λ e. pull-does a h)

  cancel_by-does : (r : Plain) (p : PromiseId) (a : Acts) (state : ReadableState) → Does Q a (cancel_by i r p a state)
  unfolding cancel_steps
  cancel_by-does r p a Readable h = of.cancel (stream_close i a).out r p (stream_close-does a h)
  cancel_by-does r p a Closed h = of.settle a.out p (Ok Undefined) h
  cancel_by-does r p a Errored h = of.settle a.out p (Err a.slots.stored_error) h

  pull_ended-does : (a : Acts) (again : Bool) → Does Q a (pull_ended i a again)
  pull_ended-does a false h = h
  pull_ended-does a true h = pull-does (record a { slots = record a.slots { pull_again = false } }) h

  pub settle_closed-does : (closed : PromiseId) (e : Plain) (x : Out) (state : ReadableState) → Q x → Q (settle_closed closed e x state)
  settle_closed-does closed e x Readable h = h
  settle_closed-does closed e x Closed h = of.settle x closed (Ok Undefined) h
  settle_closed-does closed e x Errored h = of.settle x closed (Err e) h

  release_closed-does : (closed : PromiseId) (x : Out) (state : ReadableState) → Q x → Q (release_closed closed x state)
  release_closed-does closed x Readable h = of.settle x closed (Err type_error) h
  release_closed-does closed x Closed h = h
  release_closed-does closed x Errored h = h

  pub release_by-does : (a : Acts) (reader : Option PromiseId) → Does Q a (release_by i a reader)
  release_by-does a None h = h
  release_by-does a (Some closed) h = error_all-does type_error a.slots.requests _ (release_closed-does closed a.out a.slots.state h)

  cancel_readable-does : (r : Plain) (p : PromiseId) (a : Acts) (state : ReadableState) → Does Q a (cancel_readable_by i r p a state)
  unfolding stream_cancel
  cancel_readable-does r p a Readable h = cancel_by-does r p (record a { slots = record a.slots { disturbed = true } }) a.slots.state h
  cancel_readable-does r p a Closed h = of.settle a.out p (Ok Undefined) h
  cancel_readable-does r p a Errored h = of.settle a.out p (Ok Undefined) h

  -- an operation that causes none
  pub ends-do : (operation : ReadableOperation) (a : Acts) → is_taking operation ≡ false → Does Q a (readable_operation i operation a)
  unfolding reader_generic_initialize reader_release disturb stream_cancel cancel_if_readable start_settled pull_settled
  ends-do (names.InitializeReader closed) a t h = settle_closed-does closed a.slots.stored_error a.out a.slots.state h
  ends-do names.ReleaseReader a t h = release_by-does a a.slots.reader h
  ends-do names.Disturb a t h = h
  ends-do (names.Read request) a t h = cc
  ends-do (names.Cancel r p) a t h = cancel_by-does r p (record a { slots = record a.slots { disturbed = true } }) a.slots.state h
  ends-do (names.CancelIfReadable r p) a t h = cancel_readable-does r p a a.slots.state h
  ends-do (names.Enqueue v) a t h = cc
  ends-do names.Close a t h = close-does a h
  ends-do (names.Error e) a t h = error-does e a h
  ends-do (names.StartSettled (Ok v)) a t h = pull-does (record a { slots = record a.slots { started = true } }) h
  ends-do (names.StartSettled (Err e)) a t h = error-does e a h
  ends-do (names.PullSettled (Ok v)) a t h = pull_ended-does (record a { slots = record a.slots { pulling = false } }) a.slots.pull_again h
  ends-do (names.PullSettled (Err e)) a t h = error-does e a h

module _ (Q : Out → Type 0) (i : StreamId) (of : OfReadable Q i) where
  pub ends : OfReadableEnds Q i
  ends = record { settle = of.settle; pull = of.pull; cancel = of.cancel; close = of.close; error = of.error }

  accept-does : (v : Value) (a : Acts) (rs : List ReadRequest) → Does Q a (accept_for i v a rs)
  accept-does v a [] h = h
  accept-does v a (r ∷ rs) h = of.chunk a.out r v h

  enqueue-does : (v : Value) (a : Acts) → Does Q a (controller_enqueue i v a)
  unfolding controller_enqueue accept
  enqueue-does v a h =
      either (λ (z : Acts). Q z.out) (can_close_or_enqueue a.slots) (call_pull_if_needed i (accept i v a)) a
      (λ can. pull-does Q i ends (accept i v a) (accept-does v a (waiting a.slots) h)) (λ cannot. h)

  pull_from-does : (r : ReadRequest) (a : Acts) (queue : List (Queued Value)) → Does Q a (pull_from i r a queue)
  pull_from-does r a [] h = pull-does Q i ends (record a { slots = record a.slots { requests = _ } }) h
  pull_from-does r a (q ∷ qs) h = of.chunk _ r q.value (take-does Q i ends (record a { slots = record a.slots { queue = qs } }) h)

  read_by-does : (r : ReadRequest) (a : Acts) (state : ReadableState) → Does Q a (read_by i r a state)
  unfolding pull_steps
  read_by-does r a Readable h = pull_from-does r a a.slots.queue h
  read_by-does r a Closed h = of.close a.out r h
  read_by-does r a Errored h = of.error a.out r a.slots.stored_error h

  pub readable-does : (operation : ReadableOperation) (a : Acts) → Does Q a (readable_operation i operation a)
  unfolding default_reader_read
  readable-does (names.Read request) a h = read_by-does request (record a { slots = record a.slots { disturbed = true } }) a.slots.state h
  readable-does (names.Enqueue v) a h = enqueue-does v a h
  readable-does operation a h = ends-do Q i ends operation a refl h
