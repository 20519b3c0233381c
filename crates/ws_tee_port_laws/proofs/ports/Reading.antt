-- What each operation of a readable stream causes: a pull algorithm only where it isn't pulling, which it is from then on until the pull has
-- settled; a cancel algorithm only by a cancel, and no pull algorithm then.
use Rattle.std.proofs.Common.{◌≡◌, ℕ, ◌+◌, ◌≤◌, Bool, true, false, ◌&&◌, if◌then◌else◌, List, [], ◌∷◌, ◌++◌, Option, Some, None, Result, Ok, Err, refl, arith}
use Rattle.ws_value.specs.declared.ids.PromiseId.{PromiseId}
use Rattle.ws_value.specs.declared.ids.StreamId.{StreamId}
use Rattle.ws_value.specs.declared.value.Plain.{Plain}
use Rattle.ws_value.specs.declared.value.Value.{Value}
use Rattle.ws_steps.specs.declared.effects.Effect.{Effect}
use Rattle.ws_steps.specs.declared.effects.Effect.TheVariants.{PullAlgorithm, CancelAlgorithm, ChunkSteps, CloseSteps, ErrorSteps}
use Rattle.ws_steps.specs.declared.queue.Queued.{Queued}
use Rattle.ws_steps.specs.declared.readable.ReadRequest.{ReadRequest}
use Rattle.ws_steps.specs.declared.readable.ReadableOperation.{ReadableOperation}
use Rattle.ws_steps.specs.declared.readable.ReadableOperation.TheVariants as names
use Rattle.ws_steps.specs.declared.readable.ReadableState.{ReadableState}
use Rattle.ws_steps.specs.declared.readable.ReadableState.TheVariants.{Readable, Closed, Errored}
use Rattle.ws_steps.specs.Effects.{type_error, Out, cause, cause_all}
use Rattle.ws_steps.specs.Operations.{readable_operation}
use Rattle.ws_steps.specs.Queues.{is_empty}
use Rattle.ws_steps.specs.Readable as readable
use Rattle.ws_steps.specs.Readable.{Acts, is_readable, can_close_or_enqueue, should_call_pull, call_pull, close_all, error_all, waiting, call_pull_if_needed, accept_for, accept, controller_enqueue, close_reader, error_reader, stream_close, stream_error, close_if_empty, controller_close, controller_error, after_take, pull_from, pull_steps, read_by, default_reader_read, disturb, reader_generic_initialize, start_settled, pull_settled, cancel_steps, cancel_by, stream_cancel, cancel_readable_by, cancel_if_readable, reader_release}
use Rattle.ws_laws.proofs.Lists.{Each, each-append}
use Rattle.ws_steps.specs.Histories.{is_same}
use Rattle.ws_laws.proofs.Tables.{either, is_same-refl}
use Rattle.ws_tee_port_laws.proofs.ports.Posting.{total, total-append}

-- whether an operation cancels, and whether it may pull
abbrev pub is_cancel : ReadableOperation → Bool
is_cancel (names.Cancel r p) = true
is_cancel (names.CancelIfReadable r p) = true
is_cancel _ = false

abbrev pub is_taking : ReadableOperation → Bool
is_taking (names.Read request) = true
is_taking (names.Enqueue v) = true
is_taking (names.StartSettled o) = true
is_taking (names.PullSettled o) = true
is_taking _ = false

-- what is to be shown of the effects of an operation
pub record Takes (P : Effect → Type 0) (i : StreamId) (pulls cancels : Bool) : Type 0 where
  pub pull : pulls ≡ true → P (PullAlgorithm i)
  pub cancel : cancels ≡ true → (r : Plain) (p : PromiseId) → P (CancelAlgorithm i r p)
  pub chunk : (request : ReadRequest) (v : Value) → P (ChunkSteps i request v)
  pub close : (request : ReadRequest) → P (CloseSteps i request)
  pub error : (request : ReadRequest) (e : Plain) → P (ErrorSteps i request e)

module _ (P : Effect → Type 0) (me : StreamId) (pulls cancels : Bool) (of : Takes P me pulls cancels) where
  abbrev Keeps : Acts → Acts → Type 0
  Keeps a b = Each P a.out.effects → Each P b.out.effects

  one : (e : Effect) (x : Out) → P e → Each P x.effects → Each P (cause e x).effects
  one e x p h = each-append P x.effects (e ∷ []) h (p, tt)

  all-close : (rs : List ReadRequest) → Each P (close_all me rs)
  all-close [] = tt
  all-close (r ∷ rs) = (of.close r, all-close rs)

  all-error : (e : Plain) (rs : List ReadRequest) → Each P (error_all me e rs)
  all-error e [] = tt
  all-error e (r ∷ rs) = (of.error r e, all-error e rs)

  reader-close : (a : Acts) (reader : Option PromiseId) → Keeps a (close_reader me a reader)
  reader-close a None h = h
  reader-close a (Some closed) h = each-append P a.out.effects (close_all me a.slots.requests) h (all-close a.slots.requests)

  close-keeps : (a : Acts) → Keeps a (stream_close me a)
  unfolding stream_close
  close-keeps a h = reader-close (record a { slots = record a.slots { state = Closed } }) a.slots.reader h

  reader-error : (e : Plain) (a : Acts) (reader : Option PromiseId) → Keeps a (error_reader me e a reader)
  reader-error e a None h = h
  reader-error e a (Some closed) h = each-append P a.out.effects (error_all me e a.slots.requests) h (all-error e a.slots.requests)

  error-keeps : (e : Plain) (a : Acts) → Keeps a (stream_error me e a)
  unfolding stream_error
  error-keeps e a h = reader-error e (record a { slots = record a.slots { state = Errored; stored_error = e } }) a.slots.reader h

  erring-keeps : (e : Plain) (a : Acts) → Keeps a (controller_error me e a)
  unfolding controller_error
  erring-keeps e a h =
      either (λ (z : Acts). Each P z.out.effects) (is_readable a.slots.state) _ a (λ i. error-keeps e (record a { slots = record a.slots { queue = [] } }) h) (λ i. h)

  closing-keeps : (a : Acts) → Keeps a (controller_close me a)
  unfolding controller_close close_if_empty
  closing-keeps a h =
      let b : Acts = record a { slots = record a.slots { close_requested = true } } in
      either (λ (z : Acts). Each P z.out.effects) (can_close_or_enqueue a.slots) _ a
      (λ i. either (λ (z : Acts). Each P z.out.effects) (is_empty a.slots.queue) (stream_close me b) b (λ e. close-keeps b h) (λ e. h)) (λ i. h)

  release-keeps : (a : Acts) (r : Option PromiseId) → Keeps a (readable.release_by me a r)
  release-keeps a None h = h
  release-keeps a (Some closed) h = by a.slots.state
    where
      by : (state : ReadableState) → Each P (cause_all (error_all me type_error a.slots.requests) (readable.release_closed closed a.out state)).effects
      by Readable = each-append P a.out.effects _ h (all-error type_error a.slots.requests)
      by Closed = each-append P a.out.effects _ h (all-error type_error a.slots.requests)
      by Errored = each-append P a.out.effects _ h (all-error type_error a.slots.requests)

  -- pulls
  pull-keeps : pulls ≡ true → (a : Acts) → Keeps a (call_pull_if_needed me a)
  unfolding call_pull_if_needed
  pull-keeps p a h =
      either (λ (z : Acts). Each P z.out.effects) (should_call_pull a.slots) (call_pull me a) a
      (λ e. either (λ (z : Acts). Each P z.out.effects) a.slots.pulling _ _ (λ f. h) (λ f. one (PullAlgorithm me) a.out (of.pull p) h)) (λ e. h)

  accept-keeps : (v : Value) (a : Acts) (rs : List ReadRequest) → Keeps a (accept_for me v a rs)
  accept-keeps v a [] h = h
  accept-keeps v a (r ∷ rs) h = one (ChunkSteps me r v) a.out (of.chunk r v) h

  enqueue-keeps : pulls ≡ true → (v : Value) (a : Acts) → Keeps a (controller_enqueue me v a)
  unfolding controller_enqueue accept
  enqueue-keeps p v a h =
      either (λ (z : Acts). Each P z.out.effects) (can_close_or_enqueue a.slots) (call_pull_if_needed me (accept me v a)) a
      (λ e. pull-keeps p (accept_for me v a (waiting a.slots)) (accept-keeps v a (waiting a.slots) h)) (λ e. h)

  after-keeps : pulls ≡ true → (a : Acts) → Keeps a (after_take me a)
  unfolding after_take
  after-keeps p a h = either (λ (z : Acts). Each P z.out.effects) _ (stream_close me a) (call_pull_if_needed me a) (λ e. close-keeps a h) (λ e. pull-keeps p a h)

  from-keeps : pulls ≡ true → (r : ReadRequest) (a : Acts) (queue : List (Queued Value)) → Keeps a (pull_from me r a queue)
  from-keeps p r a [] h = pull-keeps p (record a { slots = record a.slots { requests = a.slots.requests ++ r ∷ [] } }) h
  from-keeps p r a (x ∷ xs) h = one (ChunkSteps me r x.value) (after_take me (record a { slots = record a.slots { queue = xs } })).out (of.chunk r x.value) (after-keeps p (record a { slots = record a.slots { queue = xs } }) h)

  read-keeps : pulls ≡ true → (r : ReadRequest) (a : Acts) (state : ReadableState) → Keeps a (read_by me r a state)
  unfolding pull_steps
  read-keeps p r a Readable h = from-keeps p r a a.slots.queue h
  read-keeps p r a Closed h = one (CloseSteps me r) a.out (of.close r) h
  read-keeps p r a Errored h = one (ErrorSteps me r a.slots.stored_error) a.out (of.error r a.slots.stored_error) h

  ended-keeps : pulls ≡ true → (a : Acts) (again : Bool) → Keeps a (readable.pull_ended me a again)
  ended-keeps p a false h = h
  ended-keeps p a true h = pull-keeps p (record a { slots = record a.slots { pull_again = false } }) h

  -- cancels
  cancel-keeps : cancels ≡ true → (e : Plain) (q : PromiseId) (a : Acts) (state : ReadableState) → Keeps a (cancel_by me e q a state)
  unfolding cancel_steps
  cancel-keeps c e q a Readable h = one (CancelAlgorithm me e q) (stream_close me a).out (of.cancel c e q) (close-keeps a h)
  cancel-keeps c e q a Closed h = h
  cancel-keeps c e q a Errored h = h

  cancel_readable-keeps : cancels ≡ true → (e : Plain) (q : PromiseId) (a : Acts) (state : ReadableState) → Keeps a (cancel_readable_by me e q a state)
  unfolding stream_cancel
  cancel_readable-keeps c e q a Readable h = cancel-keeps c e q (record a { slots = record a.slots { disturbed = true } }) a.slots.state h
  cancel_readable-keeps c e q a Closed h = h
  cancel_readable-keeps c e q a Errored h = h

  initialize-keeps : (closed : PromiseId) (a : Acts) → Keeps a (reader_generic_initialize closed a)
  unfolding reader_generic_initialize
  initialize-keeps closed a h = by a.slots.state
    where
      by : (state : ReadableState) → Each P (readable.settle_closed closed a.slots.stored_error a.out state).effects
      by Readable = h
      by Closed = h
      by Errored = h

  pub operation-takes : (operation : ReadableOperation) (a : Acts) → (is_taking operation ≡ true → pulls ≡ true) → (is_cancel operation ≡ true → cancels ≡ true) → Keeps a (readable_operation me operation a)
  unfolding disturb default_reader_read cancel_if_readable start_settled pull_settled stream_cancel reader_release
  operation-takes (names.InitializeReader closed) a p c h = initialize-keeps closed a h
  operation-takes names.ReleaseReader a p c h = release-keeps a a.slots.reader h
  operation-takes names.Disturb a p c h = h
  operation-takes (names.Read r) a p c h = read-keeps (p refl) r (record a { slots = record a.slots { disturbed = true } }) a.slots.state h
  operation-takes (names.Cancel e q) a p c h = cancel-keeps (c refl) e q (record a { slots = record a.slots { disturbed = true } }) a.slots.state h
  operation-takes (names.CancelIfReadable e q) a p c h = cancel_readable-keeps (c refl) e q a a.slots.state h
  operation-takes (names.Enqueue x) a p c h = enqueue-keeps (p refl) x a h
  operation-takes names.Close a p c h = closing-keeps a h
  operation-takes (names.Error e) a p c h = erring-keeps e a h
  operation-takes (names.StartSettled (Ok x)) a p c h = pull-keeps (p refl) (record a { slots = record a.slots { started = true } }) h
  operation-takes (names.StartSettled (Err e)) a p c h = erring-keeps e a h
  operation-takes (names.PullSettled (Ok x)) a p c h = ended-keeps (p refl) (record a { slots = record a.slots { pulling = false } }) a.slots.pull_again h
  operation-takes (names.PullSettled (Err e)) a p c h = erring-keeps e a h

-- pulls, which stand on the agenda or are under way

abbrev pub is_idle : readable.Slots → ℕ
is_idle r = if r.pulling then 0 else 1

-- a pull algorithm of this stream
abbrev pub pulls_of : StreamId → Effect → ℕ
pulls_of i (PullAlgorithm j) = if is_same i j then 1 else 0
pulls_of i _ = 0

module _ (me : StreamId) where
  abbrev pub pulls : List Effect → ℕ
  pulls es = total (pulls_of me) es

  abbrev pub measure : Acts → ℕ
  measure a = pulls a.out.effects + is_idle a.slots

  -- no more pulls than it was idle
  abbrev Bounds : Acts → Acts → Type 0
  Bounds a b = measure b ≤ measure a

  more : (e : Effect) (x : Out) → pulls (cause e x).effects ≡ pulls x.effects + pulls_of me e
  more e x = let h = total-append (pulls_of me) x.effects (e ∷ []) in omega (arith, h)

  no-close : (rs : List ReadRequest) → pulls (close_all me rs) ≡ 0
  no-close [] = refl
  no-close (r ∷ rs) = let h = no-close rs in omega (arith, h)

  no-error : (e : Plain) (rs : List ReadRequest) → pulls (error_all me e rs) ≡ 0
  no-error e [] = refl
  no-error e (r ∷ rs) = let h = no-error e rs in omega (arith, h)

  close_reader-bounds : (a : Acts) (reader : Option PromiseId) → Bounds a (close_reader me a reader)
  close_reader-bounds a None = omega arith
  close_reader-bounds a (Some closed) = let h = total-append (pulls_of me) a.out.effects (close_all me a.slots.requests) in let n = no-close a.slots.requests in omega (arith, h, n)

  close-bounds : (a : Acts) → Bounds a (stream_close me a)
  unfolding stream_close
  close-bounds a = let h = close_reader-bounds (record a { slots = record a.slots { state = Closed } }) a.slots.reader in omega (arith, h)

  error_reader-bounds : (e : Plain) (a : Acts) (reader : Option PromiseId) → Bounds a (error_reader me e a reader)
  error_reader-bounds e a None = omega arith
  error_reader-bounds e a (Some closed) =
      let h = total-append (pulls_of me) a.out.effects (error_all me e a.slots.requests) in let n = no-error e a.slots.requests in omega (arith, h, n)

  erring-bounds : (e : Plain) (a : Acts) → Bounds a (controller_error me e a)
  unfolding controller_error stream_error
  erring-bounds e a =
      let b : Acts = record a { slots = record a.slots { queue = [] } } in
      let h = error_reader-bounds e (record b { slots = record b.slots { state = Errored; stored_error = e } }) a.slots.reader in
      either (λ (z : Acts). measure z ≤ measure a) (is_readable a.slots.state) (stream_error me e b) a (λ i. omega (arith, h)) (λ i. omega arith)

  closing-bounds : (a : Acts) → Bounds a (controller_close me a)
  unfolding controller_close close_if_empty
  closing-bounds a =
      let b : Acts = record a { slots = record a.slots { close_requested = true } } in
      let h = close-bounds b in
      either (λ (z : Acts). measure z ≤ measure a) (can_close_or_enqueue a.slots) _ a
      (λ i. either (λ (z : Acts). measure z ≤ measure a) (is_empty a.slots.queue) (stream_close me b) b (λ e. omega (arith, h)) (λ e. omega arith)) (λ i. omega arith)

  release-bounds : (a : Acts) (r : Option PromiseId) → Bounds a (readable.release_by me a r)
  release-bounds a None = omega arith
  release-bounds a (Some closed) = by a.slots.state
    where
      by : (state : ReadableState) → pulls (cause_all (error_all me type_error a.slots.requests) (readable.release_closed closed a.out state)).effects + is_idle a.slots ≤ measure a
      by Readable = let h = total-append (pulls_of me) a.out.effects (error_all me type_error a.slots.requests) in let n = no-error type_error a.slots.requests in omega (arith, h, n)
      by Closed = let h = total-append (pulls_of me) a.out.effects (error_all me type_error a.slots.requests) in let n = no-error type_error a.slots.requests in omega (arith, h, n)
      by Errored = let h = total-append (pulls_of me) a.out.effects (error_all me type_error a.slots.requests) in let n = no-error type_error a.slots.requests in omega (arith, h, n)

  pull-bounds : (a : Acts) → Bounds a (call_pull_if_needed me a)
  unfolding call_pull_if_needed
  pull-bounds a =
      either (λ (z : Acts). measure z ≤ measure a) (should_call_pull a.slots) (call_pull me a) a
      (λ e. either (λ (z : Acts). measure z ≤ measure a) a.slots.pulling _ _ (λ f. omega arith)
      (λ f. let h = more (PullAlgorithm me) a.out in let n = is_same-refl me in let one : is_idle a.slots ≡ 1 = rw f refl in
      let two : pulls_of me (PullAlgorithm me) ≡ 1 = rw n refl in omega (arith, h, one, two)))
      (λ e. omega arith)

  accept-bounds : (v : Value) (a : Acts) (rs : List ReadRequest) → Bounds a (accept_for me v a rs)
  accept-bounds v a [] = omega arith
  accept-bounds v a (r ∷ rs) = let h = more (ChunkSteps me r v) a.out in omega (arith, h)

  enqueue-bounds : (v : Value) (a : Acts) → Bounds a (controller_enqueue me v a)
  unfolding controller_enqueue accept
  enqueue-bounds v a =
      let h = accept-bounds v a (waiting a.slots) in
      let k = pull-bounds (accept_for me v a (waiting a.slots)) in
      either (λ (z : Acts). measure z ≤ measure a) (can_close_or_enqueue a.slots) (call_pull_if_needed me (accept me v a)) a (λ e. omega (arith, h, k)) (λ e. omega arith)

  after-bounds : (a : Acts) → Bounds a (after_take me a)
  unfolding after_take
  after-bounds a =
      either (λ (z : Acts). measure z ≤ measure a) (a.slots.close_requested && is_empty a.slots.queue) (stream_close me a) (call_pull_if_needed me a) (λ e. close-bounds a) (λ e. pull-bounds a)

  from-bounds : (r : ReadRequest) (a : Acts) (queue : List (Queued Value)) → Bounds a (pull_from me r a queue)
  from-bounds r a [] = let h = pull-bounds (record a { slots = record a.slots { requests = a.slots.requests ++ r ∷ [] } }) in omega (arith, h)
  from-bounds r a (x ∷ xs) =
      let b : Acts = after_take me (record a { slots = record a.slots { queue = xs } }) in
      let h = after-bounds (record a { slots = record a.slots { queue = xs } }) in
      let k = more (ChunkSteps me r x.value) b.out in omega (arith, h, k)

  read-bounds : (r : ReadRequest) (a : Acts) (state : ReadableState) → Bounds a (read_by me r a state)
  unfolding pull_steps
  read-bounds r a Readable = from-bounds r a a.slots.queue
  read-bounds r a Closed = let h = more (CloseSteps me r) a.out in omega (arith, h)
  read-bounds r a Errored = let h = more (ErrorSteps me r a.slots.stored_error) a.out in omega (arith, h)

  cancel-bounds : (e : Plain) (q : PromiseId) (a : Acts) (state : ReadableState) → Bounds a (cancel_by me e q a state)
  unfolding cancel_steps
  cancel-bounds e q a Readable = let h = close-bounds a in let k = more (CancelAlgorithm me e q) (stream_close me a).out in omega (arith, h, k)
  cancel-bounds e q a Closed = omega arith
  cancel-bounds e q a Errored = omega arith

  cancel_readable-bounds : (e : Plain) (q : PromiseId) (a : Acts) (state : ReadableState) → Bounds a (cancel_readable_by me e q a state)
  unfolding stream_cancel
  cancel_readable-bounds e q a Readable = let h = cancel-bounds e q (record a { slots = record a.slots { disturbed = true } }) a.slots.state in omega (arith, h)
  cancel_readable-bounds e q a Closed = omega arith
  cancel_readable-bounds e q a Errored = omega arith

  initialize-bounds : (closed : PromiseId) (a : Acts) → Bounds a (reader_generic_initialize closed a)
  unfolding reader_generic_initialize
  initialize-bounds closed a = by a.slots.state
    where
      by : (state : ReadableState) → pulls (readable.settle_closed closed a.slots.stored_error a.out state).effects + is_idle a.slots ≤ measure a
      by Readable = omega arith
      by Closed = omega arith
      by Errored = omega arith

  abbrev pub is_settling : ReadableOperation → Bool
  is_settling (names.PullSettled o) = true
  is_settling _ = false

  -- where no pull has settled
  pub operation-bounds : (operation : ReadableOperation) (a : Acts) → is_settling operation ≡ false → Bounds a (readable_operation me operation a)
  unfolding disturb default_reader_read cancel_if_readable start_settled stream_cancel reader_release
  operation-bounds (names.InitializeReader closed) a n = initialize-bounds closed a
  operation-bounds names.ReleaseReader a n = release-bounds a a.slots.reader
  operation-bounds names.Disturb a n = omega arith
  operation-bounds (names.Read r) a n = let h = read-bounds r (record a { slots = record a.slots { disturbed = true } }) a.slots.state in omega (arith, h)
  operation-bounds (names.Cancel e q) a n = let h = cancel-bounds e q (record a { slots = record a.slots { disturbed = true } }) a.slots.state in omega (arith, h)
  operation-bounds (names.CancelIfReadable e q) a n = cancel_readable-bounds e q a a.slots.state
  operation-bounds (names.Enqueue x) a n = enqueue-bounds x a
  operation-bounds names.Close a n = closing-bounds a
  operation-bounds (names.Error e) a n = erring-bounds e a
  operation-bounds (names.StartSettled (Ok x)) a n = let h = pull-bounds (record a { slots = record a.slots { started = true } }) in omega (arith, h)
  operation-bounds (names.StartSettled (Err e)) a n = erring-bounds e a
  operation-bounds (names.PullSettled o) a n = cc

  -- and where one has
  one-idle : (r : readable.Slots) → is_idle r ≤ 1
  one-idle r = by r.pulling
    where
      by : (b : Bool) → (if b then 0 else 1) ≤ 1
      by true = omega arith
      by false = omega arith

  pub settled-bounds : (o : Result Plain Plain) (a : Acts) → measure (readable_operation me (names.PullSettled o) a) ≤ pulls a.out.effects + 1
  unfolding pull_settled
  settled-bounds (Ok x) a = by (record a { slots = record a.slots { pulling = false } }) a.slots.pull_again (omega arith)
    where
      by : (b : Acts) (again : Bool) → measure b ≤ pulls a.out.effects + 1 → measure (readable.pull_ended me b again) ≤ pulls a.out.effects + 1
      by b false h = h
      by b true h = let k = pull-bounds (record b { slots = record b.slots { pull_again = false } }) in omega (arith, h, k)
  settled-bounds (Err e) a = let h = erring-bounds e a in let k = one-idle a.slots in omega (arith, h, k)
