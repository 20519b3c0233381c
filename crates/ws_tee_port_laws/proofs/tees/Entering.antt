-- What enters a branch of a tee is the first part of what the tee handed to its branches, in its order; it is less only where the branch was
-- cancelled or took no more chunks.
use Rattle.std.proofs.Common.{◌≡◌, Bool, true, false, List, [], ◌∷◌, ◌++◌, Option, Some, None, Ok, Err, arith}
use Rattle.ws_value.specs.declared.ids.{PromiseId.{PromiseId}, StreamId.{StreamId}}
use Rattle.ws_value.specs.declared.value.{Plain.{Plain}, Value.{Value}}
use Rattle.ws_steps.specs.declared.queue.Queued.{Queued}
use Rattle.ws_steps.specs.declared.readable.{ReadRequest.{ReadRequest}, ReadableOperation.{ReadableOperation}, ReadableState.{ReadableState}, ReadableState.TheVariants.{Readable, Closed, Errored}}
use Rattle.ws_steps.specs.declared.readable.ReadableOperation.TheVariants as names
use Rattle.ws_steps.specs.Operations.{readable_operation}
use Rattle.ws_steps.specs.Readable as readable
use Rattle.ws_steps.specs.Readable.{Acts, is_readable, can_close_or_enqueue, close_all, error_all, waiting, call_pull_if_needed, accept_for, accept, controller_enqueue, stream_close, stream_error, close_if_empty, controller_close, controller_error, after_take, pull_from, pull_steps, read_by, default_reader_read, reader_generic_initialize, disturb, cancel_readable_by, cancel_if_readable, start_settled, pull_settled, cancel_steps, cancel_by, stream_cancel, reader_release}
use Rattle.ws_laws.proofs.Tables.{either}

-- a stream that takes no more chunks takes none from then on
module _ (me : StreamId) where
  abbrev Stays : Acts → Acts → Type 0
  Stays a b = can_close_or_enqueue a.slots ≡ false → can_close_or_enqueue b.slots ≡ false

  pull-stays : (a : Acts) → Stays a (call_pull_if_needed me a)
  unfolding call_pull_if_needed
  pull-stays a n = grind (arith, n)

  close-stays : (a : Acts) → Stays a (stream_close me a)
  unfolding stream_close
  close-stays a n = grind (arith, n)

  error-stays : (e : Plain) (a : Acts) → Stays a (stream_error me e a)
  unfolding stream_error
  error-stays e a n = grind (arith, n)

  erring-stays : (e : Plain) (a : Acts) → Stays a (controller_error me e a)
  unfolding controller_error
  erring-stays e a n = let h = error-stays e (record a { slots = record a.slots { queue = [] } }) n in either (λ (z : Acts). can_close_or_enqueue z.slots ≡ false) (is_readable a.slots.state) _ a (λ i. h) (λ i. n)

  enqueue-stays : (v : Value) (a : Acts) → Stays a (controller_enqueue me v a)
  unfolding controller_enqueue
  enqueue-stays v a n = rw n n

  closing-stays : (a : Acts) → Stays a (controller_close me a)
  unfolding controller_close
  closing-stays a n = rw n n

  after-stays : (a : Acts) → Stays a (after_take me a)
  unfolding after_take
  after-stays a n =
      either (λ (z : Acts). can_close_or_enqueue z.slots ≡ false) _ (stream_close me a) (call_pull_if_needed me a) (λ e. close-stays a n) (λ e. pull-stays a n)

  from-stays : (r : ReadRequest) (a : Acts) (queue : List (Queued Value)) → Stays a (pull_from me r a queue)
  from-stays r a [] n = pull-stays (record a { slots = record a.slots { requests = a.slots.requests ++ r ∷ [] } }) n
  from-stays r a (x ∷ xs) n = after-stays (record a { slots = record a.slots { queue = xs } }) n

  read-stays : (r : ReadRequest) (a : Acts) (state : ReadableState) → Stays a (read_by me r a state)
  unfolding pull_steps
  read-stays r a Readable n = from-stays r a a.slots.queue n
  read-stays r a Closed n = n
  read-stays r a Errored n = n

  cancel-stays : (e : Plain) (q : PromiseId) (a : Acts) (state : ReadableState) → Stays a (cancel_by me e q a state)
  unfolding cancel_steps
  cancel-stays e q a Readable n = close-stays a n
  cancel-stays e q a Closed n = n
  cancel-stays e q a Errored n = n

  cancel_readable-stays : (e : Plain) (q : PromiseId) (a : Acts) (state : ReadableState) → Stays a (cancel_readable_by me e q a state)
  unfolding stream_cancel
  cancel_readable-stays e q a Readable n = cancel-stays e q (record a { slots = record a.slots { disturbed = true } }) a.slots.state n
  cancel_readable-stays e q a Closed n = n
  cancel_readable-stays e q a Errored n = n

  release-stays : (a : Acts) (r : Option PromiseId) → Stays a (readable.release_by me a r)
  release-stays a None n = n
  release-stays a (Some closed) n = grind (arith, n)

  pub shut-stays : (operation : ReadableOperation) (a : Acts) → Stays a (readable_operation me operation a)
  unfolding disturb default_reader_read cancel_if_readable start_settled pull_settled stream_cancel reader_generic_initialize reader_release
  shut-stays (names.InitializeReader closed) a n = n
  shut-stays names.ReleaseReader a n = release-stays a a.slots.reader n
  shut-stays names.Disturb a n = n
  shut-stays (names.Read r) a n = read-stays r (record a { slots = record a.slots { disturbed = true } }) a.slots.state n
  shut-stays (names.Cancel e q) a n = cancel-stays e q (record a { slots = record a.slots { disturbed = true } }) a.slots.state n
  shut-stays (names.CancelIfReadable e q) a n = cancel_readable-stays e q a a.slots.state n
  shut-stays (names.Enqueue x) a n = enqueue-stays x a n
  shut-stays names.Close a n = closing-stays a n
  shut-stays (names.Error e) a n = erring-stays e a n
  shut-stays (names.StartSettled (Ok x)) a n = pull-stays (record a { slots = record a.slots { started = true } }) n
  shut-stays (names.StartSettled (Err e)) a n = erring-stays e a n
  shut-stays (names.PullSettled (Ok x)) a n = ended (record a { slots = record a.slots { pulling = false } }) a.slots.pull_again n
    where
      ended : (a : Acts) (again : Bool) → Stays a (readable.pull_ended me a again)
      ended a false n = n
      ended a true n = pull-stays (record a { slots = record a.slots { pull_again = false } }) n
  shut-stays (names.PullSettled (Err e)) a n = erring-stays e a n
