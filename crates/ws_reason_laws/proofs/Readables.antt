-- Operations of a readable stream keep that nothing bad stands in it, in the promises and in what they cause.
use Rattle.std.proofs.Common.{◌≡◌, ◌+◌, Bool, true, false, ◌&&◌, List, [], ◌∷◌, ◌++◌, Option, Some, None, Ok, Err, refl, arith}
use Rattle.ws_value.specs.declared.ids.PromiseId.{PromiseId}
use Rattle.ws_value.specs.declared.ids.StreamId.{StreamId}
use Rattle.ws_value.specs.declared.value.Plain.{Plain}
use Rattle.ws_value.specs.declared.value.Plain.TheVariants.{Undefined}
use Rattle.ws_value.specs.declared.value.Value.{Value}
use Rattle.ws_steps.specs.declared.effects.Effect.{Effect}
use Rattle.ws_steps.specs.declared.effects.Effect.TheVariants as effect
use Rattle.ws_steps.specs.declared.queue.Queued.{Queued}
use Rattle.ws_steps.specs.declared.readable.ReadRequest.{ReadRequest}
use Rattle.ws_steps.specs.declared.readable.ReadableOperation.{ReadableOperation}
use Rattle.ws_steps.specs.declared.readable.ReadableOperation.TheVariants as names
use Rattle.ws_steps.specs.declared.readable.ReadableState.{ReadableState}
use Rattle.ws_steps.specs.declared.readable.ReadableState.TheVariants.{Readable, Closed, Errored}
use Rattle.ws_steps.specs.Effects.{type_error}
use Rattle.ws_steps.specs.Operations.{readable_operation}
use Rattle.ws_steps.specs.Queues.{is_empty}
use Rattle.ws_steps.specs.Readable.{Acts, close_all, error_all, is_readable, can_close_or_enqueue, call_pull_if_needed, accept, controller_enqueue, close_reader, stream_close, error_reader, stream_error, close_if_empty, controller_close, controller_error, after_take, pull_from, pull_steps, read_by, default_reader_read, settle_closed, reader_generic_initialize, disturb, start_settled, pull_ended, pull_settled, cancel_steps, cancel_by, stream_cancel, cancel_readable_by, cancel_if_readable, release_by, reader_release}
use Rattle.ws_laws.proofs.Tables.{either}
use Rattle.ws_reason_laws.proofs.InTable.{settle_soft, settle-good}
use Rattle.ws_reason_laws.proofs.Weights.{Class, cancelled, of_readable, in_table, in_request, in_requests, in_effects, soft_reader, in_reader, in_readable}

pub effects-append : (k : Class) (xs ys : List Effect) → in_effects k (xs ++ ys) ≡ in_effects k xs + in_effects k ys
effects-append k [] ys = omega arith
effects-append k (x ∷ xs) ys = let h = effects-append k xs ys in omega (arith, h)

pub requests-append : (k : Class) (xs ys : List ReadRequest) → in_requests k (xs ++ ys) ≡ in_requests k xs + in_requests k ys
requests-append k [] ys = omega arith
requests-append k (x ∷ xs) ys = let h = requests-append k xs ys in omega (arith, h)

-- whether an operation lets go of the reader
abbrev pub lets_go : ReadableOperation → Bool
lets_go names.ReleaseReader = true
lets_go _ = false

module _ (k : Class) (me : StreamId) where
  pub close_all-good : (rs : List ReadRequest) → in_effects k (close_all me rs) ≡ 0
  close_all-good [] = refl
  close_all-good (r ∷ rs) = let h = close_all-good rs in omega (arith, h)

  pub error_all-good : (e : Plain) (rs : List ReadRequest) → in_effects k (error_all me e rs) ≡ in_requests k rs
  error_all-good e [] = refl
  error_all-good e (r ∷ rs) = let h = error_all-good e rs in omega (arith, h)

  -- nothing bad stands in it
  abbrev pub Good : Acts → Type 0
  Good a = in_readable k me.0 a.slots + (in_table k a.out.promises + in_effects k a.out.effects) ≡ 0

  pub pull-good : (a : Acts) → Good a → Good (call_pull_if_needed me a)
  unfolding call_pull_if_needed
  pull-good a h = grind (arith, h, effects-append)

  accept-good : (v : Value) (a : Acts) → Good a → Good (accept me v a)
  unfolding accept
  accept-good v a h = grind (arith, h, effects-append)

  close_reader-good : (a : Acts) (r : Option PromiseId) → Good a → Good (close_reader me a r)
  close_reader-good a None h = h
  close_reader-good a (Some closed) h =
      let s = settle-good k closed (Ok Undefined) a.out.promises (omega (arith, h)) refl in
      let c = close_all-good a.slots.requests in
      let d = effects-append k a.out.effects (close_all me a.slots.requests) in
      omega (arith, h, s, c, d)

  pub close-good : (a : Acts) → Good a → Good (stream_close me a)
  unfolding stream_close
  close-good a h = close_reader-good (record a { slots = record a.slots { state = Closed } }) a.slots.reader (omega (arith, h))

  pub error_reader-good : (e : Plain) (a : Acts) (r : Option PromiseId) → k.bad e ≡ 0 → Good a → Good (error_reader me e a r)
  error_reader-good e a None b h = h
  error_reader-good e a (Some closed) b h =
      let s = settle-good k closed (Err e) a.out.promises (omega (arith, h)) b in
      let c = error_all-good e a.slots.requests in
      let d = effects-append k a.out.effects (error_all me e a.slots.requests) in
      omega (arith, h, s, c, d)

  pub error-good : (e : Plain) (a : Acts) → k.bad e ≡ 0 → Good a → Good (stream_error me e a)
  unfolding stream_error
  error-good e a b h =
      error_reader-good e (record a { slots = record a.slots { state = Errored; stored_error = e } }) a.slots.reader b (omega (arith, h, b))

  if_empty-good : (a : Acts) → Good a → Good (close_if_empty me a)
  unfolding close_if_empty
  if_empty-good a h = either Good (is_empty a.slots.queue) _ _ (λ e. close-good a h) (λ e. h)

  enqueue-good : (v : Value) (a : Acts) → Good a → Good (controller_enqueue me v a)
  unfolding controller_enqueue
  enqueue-good v a h = either Good (can_close_or_enqueue a.slots) _ _ (λ e. pull-good (accept me v a) (accept-good v a h)) (λ e. h)

  controller_close-good : (a : Acts) → Good a → Good (controller_close me a)
  unfolding controller_close
  controller_close-good a h = either Good (can_close_or_enqueue a.slots) _ _ (λ e. if_empty-good (record a { slots = record a.slots { close_requested = true } }) h) (λ e. h)

  controller_error-good : (e : Plain) (a : Acts) → k.bad e ≡ 0 → Good a → Good (controller_error me e a)
  unfolding controller_error
  controller_error-good e a b h = either Good (is_readable a.slots.state) _ _ (λ c. error-good e (record a { slots = record a.slots { queue = [] } }) b h) (λ c. h)

  take-good : (a : Acts) → Good a → Good (after_take me a)
  unfolding after_take
  take-good a h = either Good (a.slots.close_requested && is_empty a.slots.queue) _ _ (λ e. close-good a h) (λ e. pull-good a h)

  pull_from-good : (r : ReadRequest) (a : Acts) (queue : List (Queued Value)) → in_request k r ≡ 0 → Good a → Good (pull_from me r a queue)
  pull_from-good r a [] z h =
      let n = requests-append k a.slots.requests (r ∷ []) in
      pull-good (record a { slots = record a.slots { requests = a.slots.requests ++ r ∷ [] } }) (omega (arith, h, z, n))
  pull_from-good r a (q ∷ qs) z h =
      let b : Acts = after_take me (record a { slots = record a.slots { queue = qs } }) in
      let g : Good b = take-good (record a { slots = record a.slots { queue = qs } }) h in
      let d = effects-append k b.out.effects (effect.ChunkSteps me r q.value ∷ []) in
      omega (arith, g, d)

  read_by-good : (r : ReadRequest) (a : Acts) (state : ReadableState) → a.slots.state ≡ state → in_request k r ≡ 0 → Good a → Good (read_by me r a state)
  unfolding pull_steps
  read_by-good r a Readable e z h = pull_from-good r a a.slots.queue z h
  read_by-good r a Closed e z h = grind (arith, h, effects-append)
  read_by-good r a Errored e z h = grind (arith, h, z, effects-append)

  pub release_by-good : (a : Acts) (r : Option PromiseId) → soft_reader k r ≡ 0 → Good a → Good (release_by me a r)
  release_by-good a None z h = h
  release_by-good a (Some closed) z h =
      let s = settle_soft k closed (Err type_error) a.out.promises (omega (arith, h)) z in
      let c = error_all-good type_error a.slots.requests in
      let d = effects-append k a.out.effects (error_all me type_error a.slots.requests) in
      grind (arith, h, s, c, d)

  cancel_by-good : (r : Plain) (p : PromiseId) (a : Acts) (state : ReadableState) → cancelled k me r ≡ 0 → a.slots.state ≡ state → Good a → Good (cancel_by me r p a state)
  unfolding cancel_steps
  cancel_by-good r p a Readable z e h =
      let b : Acts = stream_close me a in let g : Good b = close-good a h in let d = effects-append k b.out.effects (effect.CancelAlgorithm me r p ∷ []) in omega (arith, g, z, d)
  cancel_by-good r p a Closed z e h = let s = settle-good k p (Ok Undefined) a.out.promises (omega (arith, h)) refl in omega (arith, h, s)
  cancel_by-good r p a Errored z e h =
      let b : k.bad a.slots.stored_error ≡ 0 = grind (arith, h, e) in
      let s = settle-good k p (Err a.slots.stored_error) a.out.promises (omega (arith, h)) b in omega (arith, h, s)

  cancel-good : (r : Plain) (p : PromiseId) (a : Acts) → cancelled k me r ≡ 0 → Good a → Good (stream_cancel me r p a)
  unfolding stream_cancel
  cancel-good r p a z h = cancel_by-good r p (record a { slots = record a.slots { disturbed = true } }) a.slots.state z refl h

  cancel_readable-good : (r : Plain) (p : PromiseId) (a : Acts) (state : ReadableState) → cancelled k me r ≡ 0 → Good a → Good (cancel_readable_by me r p a state)
  cancel_readable-good r p a Readable z h = cancel-good r p a z h
  cancel_readable-good r p a Closed z h = let s = settle-good k p (Ok Undefined) a.out.promises (omega (arith, h)) refl in omega (arith, h, s)
  cancel_readable-good r p a Errored z h = let s = settle-good k p (Ok Undefined) a.out.promises (omega (arith, h)) refl in omega (arith, h, s)

  ended-good : (a : Acts) (again : Bool) → Good a → Good (pull_ended me a again)
  ended-good a false h = h
  ended-good a true h = pull-good (record a { slots = record a.slots { pull_again = false } }) h

  pub initialize-good : (closed : PromiseId) (a : Acts) → in_reader k me.0 (Some closed) ≡ 0 → Good a → Good (reader_generic_initialize closed a)
  unfolding reader_generic_initialize
  initialize-good closed a z h = let g = by a.slots.state refl in omega (arith, h, z, g)
    where
      by : (state : ReadableState) → a.slots.state ≡ state
          → in_table k (settle_closed closed a.slots.stored_error a.out state).promises + in_effects k (settle_closed closed a.slots.stored_error a.out state).effects ≡ 0
      by Readable e = omega (arith, h)
      by Closed e = let s = settle-good k closed (Ok Undefined) a.out.promises (omega (arith, h)) refl in omega (arith, h, s)
      by Errored e =
          let b : k.bad a.slots.stored_error ≡ 0 = grind (arith, h, e) in
          let s = settle-good k closed (Err a.slots.stored_error) a.out.promises (omega (arith, h)) b in omega (arith, h, s)

  pub readable-good : (operation : ReadableOperation) (a : Acts) → of_readable k me operation ≡ 0 → (lets_go operation ≡ true → soft_reader k a.slots.reader ≡ 0) → Good a → Good (readable_operation me operation a)
  unfolding reader_release disturb default_reader_read cancel_if_readable start_settled pull_settled
  readable-good (names.InitializeReader closed) a f z h = initialize-good closed a f h
  readable-good names.ReleaseReader a f z h = release_by-good a a.slots.reader (z refl) h
  readable-good names.Disturb a f z h = h
  readable-good (names.Read request) a f z h = read_by-good request (record a { slots = record a.slots { disturbed = true } }) a.slots.state refl f h
  readable-good (names.Cancel r p) a f z h = cancel-good r p a f h
  readable-good (names.CancelIfReadable r p) a f z h = cancel_readable-good r p a a.slots.state f h
  readable-good (names.Enqueue v) a f z h = enqueue-good v a h
  readable-good names.Close a f z h = controller_close-good a h
  readable-good (names.Error e) a f z h = controller_error-good e a f h
  readable-good (names.StartSettled (Ok v)) a f z h = pull-good (record a { slots = record a.slots { started = true } }) h
  readable-good (names.StartSettled (Err e)) a f z h = controller_error-good e a f h
  readable-good (names.PullSettled (Ok v)) a f z h = ended-good (record a { slots = record a.slots { pulling = false } }) a.slots.pull_again h
  readable-good (names.PullSettled (Err e)) a f z h = controller_error-good e a f h
