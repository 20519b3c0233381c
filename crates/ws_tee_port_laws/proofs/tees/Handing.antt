-- How requests go from a readable stream to the effects that answer them: of so much as each weighs, no more stands in the stream and its
-- effects after an operation than before it, and in the request that it is given.
use Rattle.std.proofs.Common.{◌≡◌, ℕ, ◌+◌, ◌≤◌, true, false, List, [], ◌∷◌, ◌++◌, Ok, Err, refl, arith}
use Rattle.ws_value.specs.declared.{ids.PromiseId.{PromiseId}, ids.StreamId.{StreamId}}
use Rattle.ws_value.specs.declared.value.{Plain.{Plain}, Value.{Value}}
use Rattle.ws_steps.specs.declared.effects.Effect.{Effect}
use Rattle.ws_steps.specs.declared.effects.Effect.TheVariants.{ChunkSteps, CancelAlgorithm}
use Rattle.ws_steps.specs.declared.queue.Queued.{Queued}
use Rattle.ws_steps.specs.declared.readable.{ReadRequest.{ReadRequest}, ReadableOperation.{ReadableOperation}, ReadableState.{ReadableState}, ReadableState.TheVariants.{Readable, Closed, Errored}}
use Rattle.ws_steps.specs.declared.readable.ReadableOperation.TheVariants as names
use Rattle.ws_steps.specs.Operations.{readable_operation}
use Rattle.ws_steps.specs.Readable.{Acts, waiting, close_all, error_all, call_pull_if_needed, accept_for, accept, controller_enqueue, stream_close, stream_error, close_if_empty, controller_close, controller_error, after_take, pull_from, pull_steps, read_by, default_reader_read, reader_generic_initialize, disturb, cancel_readable_by, cancel_if_readable, start_settled, pull_settled, cancel_steps, cancel_by, stream_cancel, reader_release}
use Rattle.ws_laws.proofs.ByteHands.{sum_of, sum-append, Weighs, given_read}

module _ (me : StreamId) (w : ReadRequest → ℕ) (v : Effect → ℕ) (weighs : Weighs me w v) where
  abbrev pub hands : Acts → ℕ
  hands a = sum_of w a.slots.requests + sum_of v a.out.effects

  abbrev Hands : ℕ → Acts → Acts → Type 0
  Hands n a b = hands b ≤ hands a + n

  in_closes : (rs : List ReadRequest) → sum_of v (close_all me rs) ≡ sum_of w rs
  in_closes [] = refl
  in_closes (r ∷ rs) = let h = in_closes rs in let k = weighs.close r in omega (arith, h, k)

  in_errors : (e : Plain) (rs : List ReadRequest) → sum_of v (error_all me e rs) ≡ sum_of w rs
  in_errors e [] = refl
  in_errors e (r ∷ rs) = let h = in_errors e rs in let k = weighs.error r e in omega (arith, h, k)

  pull-hands : (a : Acts) → Hands 0 a (call_pull_if_needed me a)
  unfolding call_pull_if_needed
  pull-hands a = let k = weighs.pull in grind (arith, sum-append, k)

  close-hands : (a : Acts) → Hands 0 a (stream_close me a)
  unfolding stream_close
  close-hands a = grind (arith, sum-append, in_closes)

  error-hands : (e : Plain) (a : Acts) → Hands 0 a (stream_error me e a)
  unfolding stream_error
  error-hands e a = grind (arith, sum-append, in_errors)

  erring-hands : (e : Plain) (a : Acts) → Hands 0 a (controller_error me e a)
  unfolding controller_error
  erring-hands e a = let h = error-hands e (record a { slots = record a.slots { queue = [] } }) in grind (arith, h)

  accept-hands : (x : Value) (a : Acts) (rs : List ReadRequest) → rs ≡ waiting a.slots → Hands 0 a (accept_for me x a rs)
  accept-hands x a rs is = let k = weighs.chunk in grind (arith, is, sum-append, k)

  enqueue-hands : (x : Value) (a : Acts) → Hands 0 a (controller_enqueue me x a)
  unfolding controller_enqueue accept
  enqueue-hands x a =
      let h = accept-hands x a (waiting a.slots) refl in
      let g = pull-hands (accept me x a) in grind (arith, h, g)

  closing-hands : (a : Acts) → Hands 0 a (controller_close me a)
  unfolding controller_close close_if_empty
  closing-hands a = let h = close-hands (record a { slots = record a.slots { close_requested = true } }) in grind (arith, h)

  after-hands : (a : Acts) → Hands 0 a (after_take me a)
  unfolding after_take
  after-hands a = let h = close-hands a in let g = pull-hands a in grind (arith, h, g)

  from-hands : (request : ReadRequest) (a : Acts) (queue : List (Queued Value)) → Hands (w request) a (pull_from me request a queue)
  from-hands request a [] =
      let h = pull-hands (record a { slots = record a.slots { requests = a.slots.requests ++ request ∷ [] } }) in
      let f = sum-append w a.slots.requests (request ∷ []) in omega (arith, h, f)
  from-hands request a (x ∷ xs) =
      let b : Acts = record a { slots = record a.slots { queue = xs } } in
      let h = after-hands b in
      let k = weighs.chunk request x.value in
      let f = sum-append v (after_take me b).out.effects (ChunkSteps me request x.value ∷ []) in omega (arith, h, f, k)

  read-hands : (request : ReadRequest) (a : Acts) (state : ReadableState) → Hands (w request) a (read_by me request a state)
  unfolding pull_steps
  read-hands request a Readable = from-hands request a a.slots.queue
  read-hands request a Closed = let k = weighs.close request in grind (arith, sum-append, k)
  read-hands request a Errored = let k = weighs.error request a.slots.stored_error in grind (arith, sum-append, k)

  initialize-hands : (closed : PromiseId) (a : Acts) → Hands 0 a (reader_generic_initialize closed a)
  unfolding reader_generic_initialize
  initialize-hands closed a = grind arith

  release-hands : (a : Acts) → Hands 0 a (reader_release me a)
  unfolding reader_release
  release-hands a = grind (arith, sum-append, in_errors)

  cancel-hands : (e : Plain) (q : PromiseId) (a : Acts) (state : ReadableState) → Hands 0 a (cancel_by me e q a state)
  unfolding cancel_steps
  cancel-hands e q a state =
      let h = close-hands a in
      let k = weighs.cancel e q in
      let f = sum-append v (stream_close me a).out.effects (CancelAlgorithm me e q ∷ []) in grind (arith, h, f, k)

  cancel_readable-hands : (e : Plain) (q : PromiseId) (a : Acts) (state : ReadableState) → Hands 0 a (cancel_readable_by me e q a state)
  unfolding stream_cancel
  cancel_readable-hands e q a Readable = let h = cancel-hands e q (record a { slots = record a.slots { disturbed = true } }) a.slots.state in omega (arith, h)
  cancel_readable-hands e q a Closed = omega arith
  cancel_readable-hands e q a Errored = omega arith

  pub readable-hands : (operation : ReadableOperation) (a : Acts) → hands (readable_operation me operation a) ≤ hands a + given_read w operation
  unfolding disturb default_reader_read cancel_if_readable start_settled pull_settled stream_cancel
  readable-hands (names.InitializeReader closed) a = initialize-hands closed a
  readable-hands names.ReleaseReader a = release-hands a
  readable-hands names.Disturb a = omega arith
  readable-hands (names.Read request) a = let h = read-hands request (record a { slots = record a.slots { disturbed = true } }) a.slots.state in omega (arith, h)
  readable-hands (names.Cancel e q) a = let h = cancel-hands e q (record a { slots = record a.slots { disturbed = true } }) a.slots.state in omega (arith, h)
  readable-hands (names.CancelIfReadable e q) a = cancel_readable-hands e q a a.slots.state
  readable-hands (names.Enqueue x) a = enqueue-hands x a
  readable-hands names.Close a = closing-hands a
  readable-hands (names.Error e) a = erring-hands e a
  readable-hands (names.StartSettled (Ok x)) a = let h = pull-hands (record a { slots = record a.slots { started = true } }) in omega (arith, h)
  readable-hands (names.StartSettled (Err e)) a = erring-hands e a
  readable-hands (names.PullSettled (Ok x)) a = let h = pull-hands (record a { slots = record a.slots { pulling = false; pull_again = false } }) in grind (arith, h)
  readable-hands (names.PullSettled (Err e)) a = erring-hands e a
