-- A readable stream performs its cancel algorithm with no reason that can't be cloned, where it isn't cancelled with one.
use Rattle.std.proofs.Common.{◌≡◌, Bool, true, false, not, ◌&&◌, List, [], ◌∷◌, ◌++◌, Option, Some, None, Result, Ok, Err, refl, arith}
use Rattle.ws_value.specs.declared.ids.PromiseId.{PromiseId}
use Rattle.ws_value.specs.declared.ids.StreamId.{StreamId}
use Rattle.ws_value.specs.declared.value.Plain.{Plain}
use Rattle.ws_value.specs.declared.value.Value.{Value}
use Rattle.ws_value.specs.Values.{is_cloneable}
use Rattle.ws_steps.specs.declared.effects.Effect.{Effect}
use Rattle.ws_steps.specs.declared.effects.Effect.TheVariants.{PullAlgorithm, CancelAlgorithm, ChunkSteps, CloseSteps, ErrorSteps}
use Rattle.ws_steps.specs.declared.queue.Queued.{Queued}
use Rattle.ws_steps.specs.declared.readable.ReadRequest.{ReadRequest}
use Rattle.ws_steps.specs.declared.readable.ReadableOperation.{ReadableOperation}
use Rattle.ws_steps.specs.declared.readable.ReadableOperation.TheVariants as names
use Rattle.ws_steps.specs.declared.readable.ReadableState.{ReadableState}
use Rattle.ws_steps.specs.declared.readable.ReadableState.TheVariants.{Readable, Closed, Errored}
use Rattle.ws_steps.specs.Effects.{Out, type_error}
use Rattle.ws_steps.specs.Operations.{readable_operation}
use Rattle.ws_steps.specs.Queues.{is_empty}
use Rattle.ws_steps.specs.Readable.{Acts, is_readable, waiting, can_close_or_enqueue, should_call_pull, call_pull, call_pull_if_needed, close_all, error_all, accept_for, accept, controller_enqueue, close_reader, stream_close, error_reader, stream_error, close_if_empty, controller_close, controller_error, after_take, pull_from, pull_steps, read_by, default_reader_read, settle_closed, disturb, reader_generic_initialize, start_settled, pull_ended, pull_settled, cancel_steps, cancel_by, stream_cancel, cancel_readable_by, cancel_if_readable, release_closed, release_by, reader_release}
use Rattle.ws_laws.proofs.Lists.{Each, each-append}
use Rattle.ws_laws.proofs.Tables.{either}
use Rattle.ws_reason_laws.specs.Uncloned.{cancels_uncloned}
use Rattle.ws_reason_laws.proofs.Sends.{Calm}

abbrev pub Calmly : Acts → Type 0
Calmly a = Each Calm a.out.effects

module _ (me : StreamId) where
  more : (x : Effect) (es : List Effect) → Calm x → Each Calm es → Each Calm (es ++ x ∷ [])
  more x es c h = each-append Calm es (x ∷ []) h (c, tt)

  closes-calm : (rs : List ReadRequest) → Each Calm (close_all me rs)
  closes-calm [] = tt
  closes-calm (r ∷ rs) = (tt, closes-calm rs)

  errors-calm : (e : Plain) (rs : List ReadRequest) → Each Calm (error_all me e rs)
  errors-calm e [] = tt
  errors-calm e (r ∷ rs) = (tt, errors-calm e rs)

  pulls : (a : Acts) → Calmly a → Calmly (call_pull_if_needed me a)
  unfolding call_pull_if_needed
  pulls a h =
      either Calmly (should_call_pull a.slots) (call_pull me a) a
      (λ e. either Calmly a.slots.pulling _ _ (λ f. h) (λ f. more (PullAlgorithm me) a.out.effects tt h)) (λ e. h)

  closed : (a : Acts) (reader : Option PromiseId) → Calmly a → Calmly (close_reader me a reader)
  closed a None h = h
  closed a (Some p) h = each-append Calm a.out.effects (close_all me a.slots.requests) h (closes-calm a.slots.requests)

  closes : (a : Acts) → Calmly a → Calmly (stream_close me a)
  unfolding stream_close
  closes a h = closed (record a { slots = record a.slots { state = Closed } }) a.slots.reader h

  erred : (e : Plain) (a : Acts) (reader : Option PromiseId) → Calmly a → Calmly (error_reader me e a reader)
  erred e a None h = h
  erred e a (Some p) h = each-append Calm a.out.effects (error_all me e a.slots.requests) h (errors-calm e a.slots.requests)

  errs : (e : Plain) (a : Acts) → Calmly a → Calmly (controller_error me e a)
  unfolding controller_error stream_error
  errs e a h =
      let b : Acts = record a { slots = record a.slots { queue = []; state = Errored; stored_error = e } } in
      either Calmly (is_readable a.slots.state) (error_reader me e b a.slots.reader) a (λ r. erred e b a.slots.reader h) (λ r. h)

  requested : (a : Acts) → Calmly a → Calmly (controller_close me a)
  unfolding controller_close close_if_empty
  requested a h =
      let b : Acts = record a { slots = record a.slots { close_requested = true } } in
      either Calmly (can_close_or_enqueue a.slots) (close_if_empty me b) a
      (λ c. either Calmly (is_empty b.slots.queue) (stream_close me b) b (λ e. closes b h) (λ e. h)) (λ c. h)

  takes : (a : Acts) → Calmly a → Calmly (after_take me a)
  unfolding after_take
  takes a h =
      either Calmly (a.slots.close_requested && is_empty a.slots.queue) (stream_close me a) (call_pull_if_needed me a) (λ e. closes a h) (λ e. pulls a h)

  accepted : (v : Value) (a : Acts) (rs : List ReadRequest) → Calmly a → Calmly (accept_for me v a rs)
  accepted v a [] h = h
  accepted v a (r ∷ rs) h = more (ChunkSteps me r v) a.out.effects tt h

  enqueues : (v : Value) (a : Acts) → Calmly a → Calmly (controller_enqueue me v a)
  unfolding controller_enqueue accept
  enqueues v a h =
      let b : Acts = accept me v a in
      either Calmly (can_close_or_enqueue a.slots) (call_pull_if_needed me b) a (λ c. pulls b (accepted v a (waiting a.slots) h)) (λ c. h)

  pulled : (r : ReadRequest) (a : Acts) (queue : List (Queued Value)) → Calmly a → Calmly (pull_from me r a queue)
  pulled r a [] h = pulls (record a { slots = record a.slots { requests = a.slots.requests ++ r ∷ [] } }) h
  pulled r a (q ∷ qs) h =
      let b : Acts = record a { slots = record a.slots { queue = qs } } in
      more (ChunkSteps me r q.value) (after_take me b).out.effects tt (takes b h)

  reads : (r : ReadRequest) (a : Acts) (state : ReadableState) → Calmly a → Calmly (read_by me r a state)
  unfolding pull_steps
  reads r a Readable h = pulled r a a.slots.queue h
  reads r a Closed h = more (CloseSteps me r) a.out.effects tt h
  reads r a Errored h = more (ErrorSteps me r a.slots.stored_error) a.out.effects tt h

  ended : (a : Acts) (again : Bool) → Calmly a → Calmly (pull_ended me a again)
  ended a false h = h
  ended a true h = pulls (record a { slots = record a.slots { pull_again = false } }) h

  settled : (p : PromiseId) (e : Plain) (out : Out) (state : ReadableState) → Each Calm out.effects → Each Calm (settle_closed p e out state).effects
  settled p e out Readable h = h
  settled p e out Closed h = h
  settled p e out Errored h = h

  released : (p : PromiseId) (out : Out) (state : ReadableState) → Each Calm out.effects → Each Calm (release_closed p out state).effects
  released p out Readable h = h
  released p out Closed h = h
  released p out Errored h = h

  releases : (a : Acts) (reader : Option PromiseId) → Calmly a → Calmly (release_by me a reader)
  releases a None h = h
  releases a (Some p) h =
      each-append Calm (release_closed p a.out a.slots.state).effects (error_all me type_error a.slots.requests) (released p a.out a.slots.state h) (errors-calm type_error a.slots.requests)

  cancels : (r : Plain) (p : PromiseId) (a : Acts) (state : ReadableState) → is_cloneable r ≡ true → Calmly a → Calmly (cancel_by me r p a state)
  unfolding cancel_steps
  cancels r p a Readable c h = more (CancelAlgorithm me r p) (stream_close me a).out.effects c (closes a h)
  cancels r p a Closed c h = h
  cancels r p a Errored c h = h

  cancels_readable : (r : Plain) (p : PromiseId) (a : Acts) (state : ReadableState) → is_cloneable r ≡ true → Calmly a → Calmly (cancel_readable_by me r p a state)
  unfolding stream_cancel
  cancels_readable r p a Readable c h = cancels r p (record a { slots = record a.slots { disturbed = true } }) a.slots.state c h
  cancels_readable r p a Closed c h = h
  cancels_readable r p a Errored c h = h

  given : (b : Bool) → not b ≡ false → b ≡ true
  given b e = grind (arith, e)

  pub operation-calm : (operation : ReadableOperation) (a : Acts) → cancels_uncloned operation ≡ false → Calmly a → Calmly (readable_operation me operation a)
  unfolding reader_generic_initialize reader_release disturb stream_cancel cancel_if_readable default_reader_read start_settled pull_settled
  operation-calm (names.InitializeReader p) a n h = settled p a.slots.stored_error a.out a.slots.state h
  operation-calm names.ReleaseReader a n h = releases a a.slots.reader h
  operation-calm names.Disturb a n h = h
  operation-calm (names.Read request) a n h = reads request (record a { slots = record a.slots { disturbed = true } }) a.slots.state h
  operation-calm (names.Cancel r p) a n h = cancels r p (record a { slots = record a.slots { disturbed = true } }) a.slots.state (given (is_cloneable r) n) h
  operation-calm (names.CancelIfReadable r p) a n h = cancels_readable r p a a.slots.state (given (is_cloneable r) n) h
  operation-calm (names.Enqueue v) a n h = enqueues v a h
  operation-calm names.Close a n h = requested a h
  operation-calm (names.Error e) a n h = errs e a h
  operation-calm (names.StartSettled (Ok v)) a n h = pulls (record a { slots = record a.slots { started = true } }) h
  operation-calm (names.StartSettled (Err e)) a n h = errs e a h
  operation-calm (names.PullSettled (Ok v)) a n h = ended (record a { slots = record a.slots { pulling = false } }) a.slots.pull_again h
  operation-calm (names.PullSettled (Err e)) a n h = errs e a h
