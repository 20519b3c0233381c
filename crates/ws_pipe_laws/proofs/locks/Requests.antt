-- The read requests of a readable stream, each of some weight, after an operation: none comes but by a read, and none stays where a reader
-- goes.
use Rattle.std.proofs.Common.{◌≡◌, ℕ, ◌+◌, ◌≤◌, true, false, is_some, List, [], ◌∷◌, ◌++◌, Ok, Err, refl, ap, arith}
use Rattle.ws_value.specs.declared.{ids.PromiseId.{PromiseId}, ids.StreamId.{StreamId}}
use Rattle.ws_value.specs.declared.value.{Plain.{Plain}, Value.{Value}}
use Rattle.ws_steps.specs.declared.byte.ByteOperation.{ByteOperation}
use Rattle.ws_steps.specs.declared.byte.ByteOperation.TheVariants.{PullInto}
use Rattle.ws_steps.specs.declared.effects.Effect.{Effect}
use Rattle.ws_steps.specs.declared.effects.Effect.TheVariants.{ChunkSteps, CloseSteps, CloseStepsWith, ErrorSteps}
use Rattle.ws_steps.specs.declared.queue.Queued.{Queued}
use Rattle.ws_steps.specs.declared.readable.{ReadRequest.{ReadRequest}, ReadableOperation.{ReadableOperation}, ReadableState.{ReadableState}, ReadableState.TheVariants.{Readable, Closed, Errored}}
use Rattle.ws_steps.specs.declared.readable.ReadableOperation.TheVariants as names
use Rattle.ws_steps.specs.Bytes as byte
use Rattle.ws_steps.specs.Operations.{readable_operation, byte_readable_operation, byte_operation}
use Rattle.ws_steps.specs.Readable.{Acts, waiting, call_pull_if_needed, accept_for, accept, controller_enqueue, stream_close, stream_error, close_if_empty, controller_close, controller_error, after_take, pull_from, pull_steps, read_by, default_reader_read, reader_generic_initialize, disturb, cancel_readable_by, cancel_if_readable, start_settled, pull_settled, cancel_steps, cancel_by, stream_cancel, reader_release}
use Rattle.ws_laws.proofs.ByteHands.{sum_of, Weighs, given_read, given_into, byte_readable-hands, byte-hands}

module _ (w : ReadRequest → ℕ) where
  abbrev pub count : List ReadRequest → ℕ
  count [] = 0
  count (r ∷ rs) = w r + count rs

  pub count-append : (xs ys : List ReadRequest) → count (xs ++ ys) ≡ count xs + count ys
  count-append [] ys = omega arith
  count-append (x ∷ xs) ys = let n = count-append xs ys in omega (arith, n)

  -- what is asked
  abbrev pub asked : ReadableOperation → ℕ
  asked (names.Read request) = w request
  asked _ = 0

  abbrev Few : ℕ → Acts → Acts → Type 0
  Few n a b = count b.slots.requests ≤ count a.slots.requests + n

  module _ (me : StreamId) where
    pull-few : (a : Acts) → Few 0 a (call_pull_if_needed me a)
    unfolding call_pull_if_needed
    pull-few a = grind arith

    close-few : (a : Acts) → Few 0 a (stream_close me a)
    unfolding stream_close
    close-few a = grind arith

    error-few : (e : Plain) (a : Acts) → Few 0 a (stream_error me e a)
    unfolding stream_error
    error-few e a = grind arith

    erring-few : (e : Plain) (a : Acts) → Few 0 a (controller_error me e a)
    unfolding controller_error
    erring-few e a = let h = error-few e (record a { slots = record a.slots { queue = [] } }) in grind (arith, h)

    accept-few : (v : Value) (a : Acts) (rs : List ReadRequest) → rs ≡ waiting a.slots → Few 0 a (accept_for me v a rs)
    accept-few v a rs is = grind (arith, is)

    enqueue-few : (v : Value) (a : Acts) → Few 0 a (controller_enqueue me v a)
    unfolding controller_enqueue accept
    enqueue-few v a =
        let h = accept-few v a (waiting a.slots) refl in
        let g = pull-few (accept me v a) in grind (arith, h, g)

    closing-few : (a : Acts) → Few 0 a (controller_close me a)
    unfolding controller_close close_if_empty
    closing-few a = let h = close-few (record a { slots = record a.slots { close_requested = true } }) in grind (arith, h)

    after-few : (a : Acts) → Few 0 a (after_take me a)
    unfolding after_take
    after-few a = let h = close-few a in let g = pull-few a in grind (arith, h, g)

    from-few : (request : ReadRequest) (a : Acts) (queue : List (Queued Value)) → Few (w request) a (pull_from me request a queue)
    from-few request a [] =
        let h = pull-few (record a { slots = record a.slots { requests = a.slots.requests ++ request ∷ [] } }) in
        let f = count-append a.slots.requests (request ∷ []) in omega (arith, h, f)
    from-few request a (x ∷ xs) = let h = after-few (record a { slots = record a.slots { queue = xs } }) in omega (arith, h)

    read-few : (request : ReadRequest) (a : Acts) (state : ReadableState) → Few (w request) a (read_by me request a state)
    unfolding pull_steps
    read-few request a Readable = from-few request a a.slots.queue
    read-few request a Closed = omega arith
    read-few request a Errored = omega arith

    cancel-few : (e : Plain) (q : PromiseId) (a : Acts) (state : ReadableState) → Few 0 a (cancel_by me e q a state)
    unfolding cancel_steps
    cancel-few e q a state = let h = close-few a in grind (arith, h)

    cancel_readable-few : (e : Plain) (q : PromiseId) (a : Acts) (state : ReadableState) → Few 0 a (cancel_readable_by me e q a state)
    unfolding stream_cancel
    cancel_readable-few e q a Readable = let h = cancel-few e q (record a { slots = record a.slots { disturbed = true } }) a.slots.state in omega (arith, h)
    cancel_readable-few e q a Closed = omega arith
    cancel_readable-few e q a Errored = omega arith

    pub operation-few : (operation : ReadableOperation) (a : Acts) → count (readable_operation me operation a).slots.requests ≤ count a.slots.requests + asked operation
    unfolding disturb default_reader_read cancel_if_readable start_settled pull_settled stream_cancel reader_generic_initialize reader_release
    operation-few (names.InitializeReader closed) a = omega arith
    operation-few names.ReleaseReader a = grind arith
    operation-few names.Disturb a = omega arith
    operation-few (names.Read request) a = let h = read-few request (record a { slots = record a.slots { disturbed = true } }) a.slots.state in omega (arith, h)
    operation-few (names.Cancel e q) a = let h = cancel-few e q (record a { slots = record a.slots { disturbed = true } }) a.slots.state in omega (arith, h)
    operation-few (names.CancelIfReadable e q) a = cancel_readable-few e q a a.slots.state
    operation-few (names.Enqueue v) a = enqueue-few v a
    operation-few names.Close a = closing-few a
    operation-few (names.Error e) a = erring-few e a
    operation-few (names.StartSettled (Ok v)) a = let h = pull-few (record a { slots = record a.slots { started = true } }) in omega (arith, h)
    operation-few (names.StartSettled (Err e)) a = erring-few e a
    operation-few (names.PullSettled (Ok v)) a = let h = pull-few (record a { slots = record a.slots { pulling = false; pull_again = false } }) in grind (arith, h)
    operation-few (names.PullSettled (Err e)) a = erring-few e a

    -- no request stays as a reader goes
    pub release-none : (a : Acts) → is_some a.slots.reader ≡ true → count (reader_release me a).slots.requests ≡ 0
    unfolding reader_release
    release-none a e = grind (arith, e)

-- of a byte stream, by what is given to it

abbrev steps_weigh : (ReadRequest → ℕ) → Effect → ℕ
steps_weigh w (ChunkSteps i q v) = w q
steps_weigh w (CloseSteps i q) = w q
steps_weigh w (CloseStepsWith i q b) = w q
steps_weigh w (ErrorSteps i q e) = w q
steps_weigh w _ = 0

steps-weigh : (w : ReadRequest → ℕ) (me : StreamId) → Weighs me w (steps_weigh w)
steps-weigh w me = record { chunk = λ q v. refl; close = λ q. refl; close_with = λ q b. refl; error = λ q e. refl; pull = refl; cancel = λ r p. refl }

count-sum : (w : ReadRequest → ℕ) (rs : List ReadRequest) → sum_of w rs ≡ count w rs
count-sum w [] = refl
count-sum w (r ∷ rs) = let n = count-sum w rs in omega (arith, n)

module _ (w : ReadRequest → ℕ) (me : StreamId) where
  abbrev pub asked_into : ByteOperation → ℕ
  asked_into (PullInto room element minimum request) = w request
  asked_into _ = 0

  given-read : (operation : ReadableOperation) → given_read w operation ≡ asked w operation
  given-read operation = grind arith

  given-into : (operation : ByteOperation) → given_into w operation ≡ asked_into operation
  given-into operation = grind arith

  fewer-by : (n m : ℕ) (a b : byte.Acts) → a.out.effects ≡ [] → n ≡ m → sum_of w b.slots.stream.requests + sum_of (steps_weigh w) b.out.effects ≤ (sum_of w a.slots.stream.requests + sum_of (steps_weigh w) a.out.effects) + n
      → count w b.slots.stream.requests ≤ count w a.slots.stream.requests + m
  fewer-by n m a b none e h =
      let x = count-sum w b.slots.stream.requests in
      let y = count-sum w a.slots.stream.requests in
      let z = ap (sum_of (steps_weigh w)) none in omega (arith, x, y, z, e, h)

  pub byte_readable-few : (operation : ReadableOperation) (a : byte.Acts) → a.out.effects ≡ [] → count w (byte_readable_operation me operation a).slots.stream.requests ≤ count w a.slots.stream.requests + asked w operation
  byte_readable-few operation a none =
      fewer-by (given_read w operation) (asked w operation) a (byte_readable_operation me operation a) none (given-read operation) (byte_readable-hands me w (steps_weigh w) (steps-weigh w me) operation a)

  pub byte-few : (operation : ByteOperation) (a : byte.Acts) → a.out.effects ≡ [] → count w (byte_operation me operation a).slots.stream.requests ≤ count w a.slots.stream.requests + asked_into operation
  byte-few operation a none =
      fewer-by (given_into w operation) (asked_into operation) a (byte_operation me operation a) none (given-into operation) (byte-hands me w (steps_weigh w) (steps-weigh w me) operation a)

  pub byte_release-none : (a : byte.Acts) → is_some a.slots.stream.reader ≡ true → count w (byte.reader_release me a).slots.stream.requests ≡ 0
  unfolding byte.reader_release
  byte_release-none a e = release-none w me (record { slots = a.slots.stream; out = a.out }) e
