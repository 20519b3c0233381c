-- A readable stream causes its cancel algorithm only as it closes by a cancel.
use Rattle.std.proofs.Common.{◌≡◌, ◌⊎◌, inl, inr, Bool, true, false, List, [], ◌∷◌, ◌++◌, ◌&&◌, ap, Option, Some, None, Ok, Err, refl, arith}
use Rattle.ws_value.specs.declared.ids.{PromiseId.{PromiseId}, StreamId.{StreamId}}
use Rattle.ws_value.specs.declared.value.{Plain.{Plain}, Value.{Value}}
use Rattle.ws_steps.specs.declared.effects.{Effect.{Effect}, Effect.TheVariants.{CancelAlgorithm}}
use Rattle.ws_steps.specs.declared.queue.Queued.{Queued}
use Rattle.ws_steps.specs.declared.readable.{ReadRequest.{ReadRequest}, ReadableOperation.{ReadableOperation}, ReadableState.{ReadableState}, ReadableState.TheVariants.{Readable, Closed, Errored}}
use Rattle.ws_steps.specs.declared.readable.ReadableOperation.TheVariants as names
use Rattle.ws_steps.specs.Effects.{type_error}
use Rattle.ws_steps.specs.Operations.{readable_operation}
use Rattle.ws_steps.specs.Queues.{is_empty}
use Rattle.ws_steps.specs.Readable.{Acts, is_readable, waiting, can_close_or_enqueue, close_all, error_all, call_pull_if_needed, accept_for, accept, controller_enqueue, close_reader, stream_close, error_reader, stream_error, close_if_empty, controller_close, controller_error, after_take, pull_from, pull_steps, read_by, default_reader_read, disturb, reader_generic_initialize, start_settled, pull_ended, pull_settled, cancel_steps, cancel_by, stream_cancel, cancel_readable_by, cancel_if_readable, settle_closed, release_closed, release_by, reader_release}
use Rattle.ws_laws.proofs.Lists.{Each, each-append}
use Rattle.ws_laws.proofs.Tables.{either}

abbrev pub IsNoCancel : Effect → Type 0
IsNoCancel (CancelAlgorithm i r p) = ⊥
IsNoCancel _ = Unit {0}

module _ (i : StreamId) where
  close_all-none : (rs : List ReadRequest) → Each IsNoCancel (close_all i rs)
  close_all-none [] = tt
  close_all-none (r ∷ rs) = (tt, close_all-none rs)

  error_all-none : (e : Plain) (rs : List ReadRequest) → Each IsNoCancel (error_all i e rs)
  error_all-none e [] = tt
  error_all-none e (r ∷ rs) = (tt, error_all-none e rs)

  abbrev None_in : Acts → Type 0
  None_in a = Each IsNoCancel a.out.effects

  pull-none : (a : Acts) → None_in a → None_in (call_pull_if_needed i a)
  unfolding call_pull_if_needed
  pull-none a h = grind (arith, each-append, h)

  close_reader-none : (a : Acts) (r : Option PromiseId) → None_in a → None_in (close_reader i a r)
  close_reader-none a None h = h
  close_reader-none a (Some p) h = each-append IsNoCancel a.out.effects _ h (close_all-none a.slots.requests)

  close-none : (a : Acts) → None_in a → None_in (stream_close i a)
  unfolding stream_close
  close-none a h = close_reader-none (record a { slots = record a.slots { state = Closed } }) a.slots.reader h

  error_reader-none : (e : Plain) (a : Acts) (r : Option PromiseId) → None_in a → None_in (error_reader i e a r)
  error_reader-none e a None h = h
  error_reader-none e a (Some p) h = each-append IsNoCancel a.out.effects _ h (error_all-none e a.slots.requests)

  error-none : (e : Plain) (a : Acts) → None_in a → None_in (controller_error i e a)
  unfolding controller_error stream_error
  error-none e a h =
      either None_in (is_readable a.slots.state) (stream_error i e (record a { slots = record a.slots { queue = [] } })) a
      (λ y. error_reader-none e (record a { slots = record a.slots { queue = []; state = Errored; stored_error = e } }) a.slots.reader h) (λ n. h)

  accept-none : (v : Value) (a : Acts) (rs : List ReadRequest) → None_in a → None_in (accept_for i v a rs)
  accept-none v a [] h = h
  accept-none v a (r ∷ rs) h = each-append IsNoCancel a.out.effects _ h (tt, tt)

  enqueue-none : (v : Value) (a : Acts) → None_in a → None_in (controller_enqueue i v a)
  unfolding controller_enqueue accept
  enqueue-none v a h = either None_in (can_close_or_enqueue a.slots) (call_pull_if_needed i (accept i v a)) a (λ y. pull-none (accept i v a) (accept-none v a (waiting a.slots) h)) (λ n. h)

  closes-none : (a : Acts) → None_in a → None_in (controller_close i a)
  unfolding controller_close close_if_empty
  closes-none a h =
      let b : Acts = record a { slots = record a.slots { close_requested = true } } in
      either None_in (can_close_or_enqueue a.slots) (close_if_empty i b) a (λ y. either None_in (is_empty a.slots.queue) (stream_close i b) b (λ e. close-none b h) (λ e. h)) (λ n. h)

  after-none : (a : Acts) → None_in a → None_in (after_take i a)
  unfolding after_take
  after-none a h = either None_in (a.slots.close_requested && is_empty a.slots.queue) (stream_close i a) (call_pull_if_needed i a) (λ e. close-none a h) (λ e. pull-none a h)

  from-none : (r : ReadRequest) (a : Acts) (queue : List (Queued Value)) → None_in a → None_in (pull_from i r a queue)
  from-none r a [] h = pull-none (record a { slots = record a.slots { requests = a.slots.requests ++ r ∷ [] } }) h
  from-none r a (x ∷ xs) h =
      let b : Acts = record a { slots = record a.slots { queue = xs } } in each-append IsNoCancel (after_take i b).out.effects _ (after-none b h) (tt, tt)

  read-none : (r : ReadRequest) (a : Acts) (state : ReadableState) → None_in a → None_in (read_by i r a state)
  unfolding pull_steps
  read-none r a Readable h = from-none r a a.slots.queue h
  read-none r a Closed h = each-append IsNoCancel a.out.effects _ h (tt, tt)
  read-none r a Errored h = each-append IsNoCancel a.out.effects _ h (tt, tt)

  release-none : (a : Acts) (reader : Option PromiseId) → None_in a → None_in (release_by i a reader)
  release-none a None h = h
  release-none a (Some closed) h = by a.slots.state
    where
      by : (state : ReadableState) → Each IsNoCancel ((release_closed closed a.out state).effects ++ error_all i type_error a.slots.requests)
      by Readable = each-append IsNoCancel a.out.effects _ h (error_all-none type_error a.slots.requests)
      by Closed = each-append IsNoCancel a.out.effects _ h (error_all-none type_error a.slots.requests)
      by Errored = each-append IsNoCancel a.out.effects _ h (error_all-none type_error a.slots.requests)

  ended-none : (a : Acts) (again : Bool) → None_in a → None_in (pull_ended i a again)
  ended-none a false h = h
  ended-none a true h = pull-none (record a { slots = record a.slots { pull_again = false } }) h

  -- it isn't readable then, or nothing is cancelled
  abbrev pub Either_in : Acts → Type 0
  Either_in z = (is_readable z.slots.state ≡ false) ⊎ None_in z

  closed_state : (a : Acts) → (stream_close i a).slots.state ≡ Closed
  unfolding stream_close
  closed_state a = by a.slots.reader
    where
      by : (r : Option PromiseId) → (close_reader i (record a { slots = record a.slots { state = Closed } }) r).slots.state ≡ Closed
      by None = refl
      by (Some p) = refl

  cancel-either : (r : Plain) (q : PromiseId) (a : Acts) (state : ReadableState) → None_in a → Either_in (cancel_by i r q a state)
  unfolding cancel_steps
  cancel-either r q a Readable h = inl (ap is_readable (closed_state a))
  cancel-either r q a Closed h = inr h
  cancel-either r q a Errored h = inr h

  cancel_readable-either : (r : Plain) (q : PromiseId) (a : Acts) (state : ReadableState) → None_in a → Either_in (cancel_readable_by i r q a state)
  unfolding stream_cancel
  cancel_readable-either r q a Readable h = cancel-either r q (record a { slots = record a.slots { disturbed = true } }) a.slots.state h
  cancel_readable-either r q a Closed h = inr h
  cancel_readable-either r q a Errored h = inr h

  pub operation-either : (operation : ReadableOperation) (a : Acts) → None_in a → Either_in (readable_operation i operation a)
  unfolding disturb default_reader_read cancel_if_readable start_settled pull_settled stream_cancel reader_generic_initialize reader_release
  operation-either (names.InitializeReader closed) a h = inr (by a.slots.state)
    where
      by : (state : ReadableState) → Each IsNoCancel (settle_closed closed a.slots.stored_error a.out state).effects
      by Readable = h
      by Closed = h
      by Errored = h
  operation-either names.ReleaseReader a h = inr (release-none a a.slots.reader h)
  operation-either names.Disturb a h = inr h
  operation-either (names.Read r) a h = inr (read-none r (record a { slots = record a.slots { disturbed = true } }) a.slots.state h)
  operation-either (names.Cancel r q) a h = cancel-either r q (record a { slots = record a.slots { disturbed = true } }) a.slots.state h
  operation-either (names.CancelIfReadable r q) a h = cancel_readable-either r q a a.slots.state h
  operation-either (names.Enqueue x) a h = inr (enqueue-none x a h)
  operation-either names.Close a h = inr (closes-none a h)
  operation-either (names.Error r) a h = inr (error-none r a h)
  operation-either (names.StartSettled (Ok x)) a h = inr (pull-none (record a { slots = record a.slots { started = true } }) h)
  operation-either (names.StartSettled (Err r)) a h = inr (error-none r a h)
  operation-either (names.PullSettled (Ok x)) a h = inr (ended-none (record a { slots = record a.slots { pulling = false } }) a.slots.pull_again h)
  operation-either (names.PullSettled (Err r)) a h = inr (error-none r a h)

  -- a stream that isn't readable stays so
  pub operation-over : (operation : ReadableOperation) (a : Acts) → is_readable a.slots.state ≡ false → is_readable (readable_operation i operation a).slots.state ≡ false
  unfolding reader_generic_initialize reader_release disturb default_reader_read pull_steps after_take stream_cancel cancel_if_readable cancel_steps start_settled pull_settled controller_enqueue accept controller_close close_if_empty controller_error stream_close stream_error call_pull_if_needed
  operation-over operation a e = grind (arith, e)
