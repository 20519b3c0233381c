-- The reads of a pipe that are under way are as many after an operation as its record says: of a pipe, and of a readable stream, which hands
-- each request on.
use Rattle.std.proofs.Common.{◌≡◌, ℕ, ◌+◌, ◌-◌, true, false, ◌||◌, nat_eq, if◌then◌else◌, List, [], ◌∷◌, ◌++◌, length, Option, Some, Result, Ok, Err, refl, ap, ◌∙◌, arith}
use Rattle.ws_value.specs.declared.{ids.PipeId.{PipeId}, ids.PromiseId.{PromiseId}, ids.StreamId.{StreamId}}
use Rattle.ws_value.specs.declared.value.{Plain.{Plain}, Value.{Value}}
use Rattle.ws_steps.specs.declared.byte.ByteOperation.{ByteOperation}
use Rattle.ws_steps.specs.declared.byte.ByteOperation.TheVariants.{InitializeByobReader}
use Rattle.ws_steps.specs.declared.effects.Effect.{Effect}
use Rattle.ws_steps.specs.declared.effects.Effect.TheVariants.{ChunkSteps, CancelAlgorithm}
use Rattle.ws_steps.specs.declared.pipes.{Action.{Action}, Action.TheVariants.{CancelSource, BySignal}, Ends.{Ends}, Phase.{Phase}, Phase.TheVariants.{Flowing, Waiting, Acting, Over}}
use Rattle.ws_steps.specs.declared.pipes.{PipeOperation.{PipeOperation}, PipeOperation.TheVariants.{Look, LookReady, KeepChunk, ReadEnded, WriteChunk, GoOn, WriteEnded, Abort as AbortPipe, ActionSettled, PartSettled, NoParts}}
use Rattle.ws_steps.specs.declared.queue.Queued.{Queued}
use Rattle.ws_steps.specs.declared.readable.{ReadRequest.{ReadRequest}, ReadableOperation.{ReadableOperation}, ReadableState.{ReadableState}, ReadableState.TheVariants.{Readable, Closed, Errored}}
use Rattle.ws_steps.specs.declared.readable.ReadableOperation.TheVariants as names
use Rattle.ws_steps.specs.declared.writable.{WritableState.{WritableState}, WritableState.TheVariants.{Writable, Erroring, Errored as WritableErrored, Closed as WritableClosed}}
use Rattle.ws_steps.specs.Bytes as byte
use Rattle.ws_steps.specs.Effects.{type_error}
use Rattle.ws_steps.specs.Operations.{readable_operation, byte_readable_operation, byte_operation, pipe_operation}
use Rattle.ws_pipe_laws.specs.pipes.PipeMoves.{starting}
use Rattle.ws_pipe_laws.specs.pipes.PipeReads.{is_of}
use Rattle.ws_steps.specs.Pipes.{Slots, Acts, finalize, proceed, is_flowing, shutdown, unless, read_or_wait, look_by, look, look_ready, go_on_in, go_on, keep_chunk, read_ended, write_held, write_chunk, write_ended, action_settled, part_settled, no_parts, abort}
use Rattle.ws_steps.specs.Promises.{Table}
use Rattle.ws_steps.specs.Readable as readable
use Rattle.ws_steps.specs.Readable.{close_all, error_all, waiting, call_pull_if_needed, accept_for, accept, controller_enqueue, stream_close, stream_error, close_if_empty, controller_close, controller_error, after_take, pull_from, pull_steps, read_by, default_reader_read, reader_generic_initialize, disturb, cancel_readable_by, cancel_if_readable, start_settled, pull_settled, cancel_steps, cancel_by, stream_cancel, reader_release}
use Rattle.ws_steps.specs.Writable.{is_closed}
use Rattle.ws_laws.proofs.ByteHands.{sum_of, Weighs, given_read, given_into}
use Rattle.ws_laws.proofs.Tables.{either}
use Rattle.ws_laws.proofs.Truth.{false_true}
use Rattle.ws_writable_laws.proofs.Shape.{all, all-append}
use Rattle.ws_pipe_laws.specs.pipes.PipeReads.{held_values, one_if, in_requests}
use Rattle.ws_pipe_laws.proofs.pipes.Reading.{is_answer, of_readable, of_byte, of_effect, reads, Steady, finalize-steady, proceed-steady, shutdown-steady}
use Rattle.ws_pipe_laws.proofs.locks.ByteRequests as requests

-- an operation of the pipe itself, where n of its reads are elsewhere

module _ (n : ℕ) (p : PipeId) where
  abbrev pub Evenly : Acts → Type 0
  Evenly a = n + reads p a + length (held_values a.slots.held) ≡ one_if a.slots.reading

  steady-evenly : (a b : Acts) → Steady p a b → Evenly a → Evenly b
  steady-evenly a b s w =
      let h = ap (λ (v : Option Value). length (held_values v)) s.held in
      let r = ap one_if s.reading in
      let c = s.none in
      omega (arith, h, r, c, w)

  self : nat_eq p.0 p.0 ≡ true
  self = grind arith

  read-evenly : (ends : Ends) (a : Acts) → a.slots.reading ≡ false → Evenly a → Evenly (read_or_wait p ends a)
  read-evenly ends a r w = grind (arith, all-append, self, r, w)

  readable-evenly : (ends : Ends) (a : Acts) (d : WritableState) → Evenly a → Evenly
      (if ends.dest_closing || is_closed d
      then shutdown p ends (unless a.slots.prevent.cancel (CancelSource type_error)) (Some type_error) a
      else if a.slots.reading then a
      else read_or_wait p ends a)
  readable-evenly ends a d w =
      let shut : Acts = shutdown p ends (unless a.slots.prevent.cancel (CancelSource type_error)) (Some type_error) a in
      either Evenly (ends.dest_closing || is_closed d) shut (if a.slots.reading then a else read_or_wait p ends a)
      (λ c. steady-evenly a shut (shutdown-steady p p ends (unless a.slots.prevent.cancel (CancelSource type_error)) (Some type_error) a) w)
      (λ c. either Evenly a.slots.reading a (read_or_wait p ends a) (λ r. w) (λ r. read-evenly ends a r w))

  shuts-evenly : (ends : Ends) (action : Option Action) (error : Option Plain) (a : Acts) → Evenly a → Evenly (shutdown p ends action error a)
  shuts-evenly ends action error a w = steady-evenly a (shutdown p ends action error a) (shutdown-steady p p ends action error a) w

  look_by-evenly : (ends : Ends) (a : Acts) (s : ReadableState) (d : WritableState) → Evenly a → Evenly (look_by p ends a s d)
  look_by-evenly ends a Errored d w = shuts-evenly ends _ _ a w
  look_by-evenly ends a Readable WritableErrored w = shuts-evenly ends _ _ a w
  look_by-evenly ends a Closed WritableErrored w = shuts-evenly ends _ _ a w
  look_by-evenly ends a Closed Writable w = shuts-evenly ends _ _ a w
  look_by-evenly ends a Closed Erroring w = shuts-evenly ends _ _ a w
  look_by-evenly ends a Closed WritableClosed w = shuts-evenly ends _ _ a w
  look_by-evenly ends a Readable Writable w = readable-evenly ends a Writable w
  look_by-evenly ends a Readable Erroring w = readable-evenly ends a Erroring w
  look_by-evenly ends a Readable WritableClosed w = readable-evenly ends a WritableClosed w

  look-evenly : (ends : Ends) (a : Acts) → Evenly a → Evenly (look p ends a)
  unfolding look
  look-evenly ends a w =
      either Evenly (is_flowing a.slots.phase) (look_by p ends a ends.source_state ends.dest_state) a (λ c. look_by-evenly ends a ends.source_state ends.dest_state w) (λ c. w)

  go_on-evenly : (ends : Ends) (a : Acts) (phase : Phase) → Evenly a → Evenly (go_on_in p ends a phase)
  go_on-evenly ends a Flowing w = look-evenly ends a w
  go_on-evenly ends a Waiting w = steady-evenly a (proceed p ends a) (proceed-steady p p ends a) w
  go_on-evenly ends a Acting w = w
  go_on-evenly ends a Over w = w

  write-evenly : (a : Acts) (held : Option Value) → held ≡ a.slots.held → a.out.effects ≡ [] → Evenly a → Evenly (write_held p a held)
  write-evenly a held e f w = grind (arith, all-append, e, f, w)

  action-evenly : (a : Acts) (o : Result Plain Plain) → Evenly a → Evenly (action_settled p o a)
  unfolding action_settled
  action-evenly a (Ok v) w = steady-evenly a (finalize p a.slots.error a) (finalize-steady p p a.slots.error a) w
  action-evenly a (Err e) w = steady-evenly a (finalize p (Some e) a) (finalize-steady p p (Some e) a) w

  part-evenly : (a : Acts) (o : Result Plain Plain) → Evenly a → Evenly (part_settled o a)
  unfolding part_settled
  part-evenly a o w = grind (arith, w)

  pub operation-evenly : (ends : Ends) (operation : PipeOperation) (x : Slots) (t : Table) → n + is_answer operation + length (held_values x.held) ≡ one_if x.reading
      → Evenly (pipe_operation p ends operation (starting x t))
  unfolding look_ready go_on keep_chunk read_ended write_chunk write_ended no_parts abort
  operation-evenly ends Look x t w = look-evenly ends (starting x t) (omega (arith, w))
  operation-evenly ends LookReady x t w = look-evenly ends (starting (record x { waits = false }) t) (omega (arith, w))
  operation-evenly ends (KeepChunk v) x t w = grind (arith, w)
  operation-evenly ends ReadEnded x t w = grind (arith, w)
  operation-evenly ends WriteChunk x t w = write-evenly (starting x t) x.held refl refl (omega (arith, w))
  operation-evenly ends GoOn x t w = go_on-evenly ends (starting x t) x.phase (omega (arith, w))
  operation-evenly ends WriteEnded x t w = go_on-evenly ends (starting (record x { unsettled = x.unsettled - 1 }) t) x.phase (omega (arith, w))
  operation-evenly ends (AbortPipe r) x t w = shuts-evenly ends (Some (BySignal r)) (Some r) (starting x t) (omega (arith, w))
  operation-evenly ends (ActionSettled o) x t w = action-evenly (starting x t) o (omega (arith, w))
  operation-evenly ends (PartSettled o) x t w = part-evenly (starting x t) o (omega (arith, w))
  operation-evenly ends NoParts x t w = grind (arith, w)

-- operations of readable streams hand each request on

requests-append : (p : PipeId) (xs ys : List ReadRequest) → in_requests p (xs ++ ys) ≡ in_requests p xs + in_requests p ys
requests-append p [] ys = omega arith
requests-append p (x ∷ xs) ys = let h = requests-append p xs ys in omega (arith, h)

in_closes : (p : PipeId) (me : StreamId) (rs : List ReadRequest) → all (of_effect p) (close_all me rs) ≡ in_requests p rs
in_closes p me [] = refl
in_closes p me (r ∷ rs) = let h = in_closes p me rs in omega (arith, h)

in_errors : (p : PipeId) (me : StreamId) (e : Plain) (rs : List ReadRequest) → all (of_effect p) (error_all me e rs) ≡ in_requests p rs
in_errors p me e [] = refl
in_errors p me e (r ∷ rs) = let h = in_errors p me e rs in omega (arith, h)

abbrev pub of_stream : PipeId → readable.Acts → ℕ
of_stream p a = in_requests p a.slots.requests + all (of_effect p) a.out.effects

module _ (p : PipeId) (me : StreamId) where
  -- b has n more than a
  abbrev pub Hands : ℕ → readable.Acts → readable.Acts → Type 0
  Hands n a b = of_stream p b ≡ of_stream p a + n

  pull-hands : (a : readable.Acts) → Hands 0 a (call_pull_if_needed me a)
  unfolding call_pull_if_needed
  pull-hands a = grind (arith, all-append)

  close-hands : (a : readable.Acts) → Hands 0 a (stream_close me a)
  unfolding stream_close
  close-hands a = grind (arith, all-append, in_closes)

  error-hands : (e : Plain) (a : readable.Acts) → Hands 0 a (stream_error me e a)
  unfolding stream_error
  error-hands e a = grind (arith, all-append, in_errors)

  erring-hands : (e : Plain) (a : readable.Acts) → Hands 0 a (controller_error me e a)
  unfolding controller_error
  erring-hands e a = let h = error-hands e (record a { slots = record a.slots { queue = [] } }) in grind (arith, h)

  accept-hands : (v : Value) (a : readable.Acts) (rs : List ReadRequest) → rs ≡ waiting a.slots → Hands 0 a (accept_for me v a rs)
  accept-hands v a rs is = grind (arith, is, all-append)

  enqueue-hands : (v : Value) (a : readable.Acts) → Hands 0 a (controller_enqueue me v a)
  unfolding controller_enqueue accept
  enqueue-hands v a =
      let h = accept-hands v a (waiting a.slots) refl in
      let g = pull-hands (accept me v a) in grind (arith, h, g)

  closing-hands : (a : readable.Acts) → Hands 0 a (controller_close me a)
  unfolding controller_close close_if_empty
  closing-hands a = let h = close-hands (record a { slots = record a.slots { close_requested = true } }) in grind (arith, h)

  after-hands : (a : readable.Acts) → Hands 0 a (after_take me a)
  unfolding after_take
  after-hands a = let h = close-hands a in let g = pull-hands a in grind (arith, h, g)

  from-hands : (request : ReadRequest) (a : readable.Acts) (queue : List (Queued Value)) → Hands (is_of p request) a (pull_from me request a queue)
  from-hands request a [] =
      let h = pull-hands (record a { slots = record a.slots { requests = a.slots.requests ++ request ∷ [] } }) in
      let f = requests-append p a.slots.requests (request ∷ []) in omega (arith, h, f)
  from-hands request a (x ∷ xs) =
      let b : readable.Acts = record a { slots = record a.slots { queue = xs } } in
      let h = after-hands b in
      let f = all-append (of_effect p) (after_take me b).out.effects (ChunkSteps me request x.value ∷ []) in omega (arith, h, f)

  read-hands : (request : ReadRequest) (a : readable.Acts) (state : ReadableState) → Hands (is_of p request) a (read_by me request a state)
  unfolding pull_steps
  read-hands request a Readable = from-hands request a a.slots.queue
  read-hands request a Closed = grind (arith, all-append)
  read-hands request a Errored = grind (arith, all-append)

  initialize-hands : (closed : PromiseId) (a : readable.Acts) → in_requests p a.slots.requests ≡ 0 → Hands 0 a (reader_generic_initialize closed a)
  unfolding reader_generic_initialize
  initialize-hands closed a none = grind (arith, none)

  release-hands : (a : readable.Acts) → Hands 0 a (reader_release me a)
  unfolding reader_release
  release-hands a = grind (arith, all-append, in_errors)

  cancel-hands : (e : Plain) (q : PromiseId) (a : readable.Acts) (state : ReadableState) → Hands 0 a (cancel_by me e q a state)
  unfolding cancel_steps
  cancel-hands e q a state =
      let h = close-hands a in
      let f = all-append (of_effect p) (stream_close me a).out.effects (CancelAlgorithm me e q ∷ []) in grind (arith, h, f)

  cancel_readable-hands : (e : Plain) (q : PromiseId) (a : readable.Acts) (state : ReadableState) → Hands 0 a (cancel_readable_by me e q a state)
  unfolding stream_cancel
  cancel_readable-hands e q a Readable = let h = cancel-hands e q (record a { slots = record a.slots { disturbed = true } }) a.slots.state in omega (arith, h)
  cancel_readable-hands e q a Closed = omega arith
  cancel_readable-hands e q a Errored = omega arith

  pub readable-hands : (operation : ReadableOperation) (a : readable.Acts) → ((closed : PromiseId) → operation ≡ names.InitializeReader closed → in_requests p a.slots.requests ≡ 0) → Hands (of_readable p operation) a (readable_operation me operation a)
  unfolding disturb default_reader_read cancel_if_readable start_settled pull_settled stream_cancel
  readable-hands (names.InitializeReader closed) a first = initialize-hands closed a (first closed refl)
  readable-hands names.ReleaseReader a first = release-hands a
  readable-hands names.Disturb a first = omega arith
  readable-hands (names.Read request) a first = let h = read-hands request (record a { slots = record a.slots { disturbed = true } }) a.slots.state in omega (arith, h)
  readable-hands (names.Cancel e q) a first = let h = cancel-hands e q (record a { slots = record a.slots { disturbed = true } }) a.slots.state in omega (arith, h)
  readable-hands (names.CancelIfReadable e q) a first = cancel_readable-hands e q a a.slots.state
  readable-hands (names.Enqueue v) a first = enqueue-hands v a
  readable-hands names.Close a first = closing-hands a
  readable-hands (names.Error e) a first = erring-hands e a
  readable-hands (names.StartSettled (Ok v)) a first = let h = pull-hands (record a { slots = record a.slots { started = true } }) in omega (arith, h)
  readable-hands (names.StartSettled (Err e)) a first = erring-hands e a
  readable-hands (names.PullSettled (Ok v)) a first = let h = pull-hands (record a { slots = record a.slots { pulling = false; pull_again = false } }) in grind (arith, h)
  readable-hands (names.PullSettled (Err e)) a first = erring-hands e a

-- of a byte stream

sum-requests : (p : PipeId) (rs : List ReadRequest) → sum_of (is_of p) rs ≡ in_requests p rs
sum-requests p [] = refl
sum-requests p (q ∷ qs) = let n = sum-requests p qs in omega (arith, n)

sum-effects : (p : PipeId) (es : List Effect) → sum_of (of_effect p) es ≡ all (of_effect p) es
sum-effects p [] = refl
sum-effects p (e ∷ es) = let n = sum-effects p es in omega (arith, n)

weighs : (p : PipeId) (me : StreamId) → Weighs me (is_of p) (of_effect p)
weighs p me = record { chunk = λ q x. refl; close = λ q. refl; close_with = λ q b. refl; error = λ q e. refl; pull = refl; cancel = λ r q. refl }

-- a tee's request is no pipe's
untied_none : (p : PipeId) (q : ReadRequest) → byte.is_of_tee q ≡ true → is_of p q ≡ 0
untied_none p q e = grind (arith, e)

given-read : (p : PipeId) (operation : ReadableOperation) → given_read (is_of p) operation ≡ of_readable p operation
given-read p operation = grind arith

given-into : (p : PipeId) (operation : ByteOperation) → given_into (is_of p) operation ≡ of_byte p operation
given-into p operation = grind arith

module _ (p : PipeId) (me : StreamId) where
  abbrev pub HandsBytes : ℕ → byte.Acts → byte.Acts → Type 0
  HandsBytes n a b = in_requests p b.slots.stream.requests + all (of_effect p) b.out.effects ≡ in_requests p a.slots.stream.requests + all (of_effect p) a.out.effects + n

  summed : (n m : ℕ) (a b : byte.Acts) → n ≡ m → sum_of (is_of p) b.slots.stream.requests + sum_of (of_effect p) b.out.effects ≡ (sum_of (is_of p) a.slots.stream.requests + sum_of (of_effect p) a.out.effects) + n → HandsBytes m a b
  summed n m a b same h =
      let c = sum-requests p b.slots.stream.requests in
      let d = sum-requests p a.slots.stream.requests in
      let e = sum-effects p b.out.effects in
      let f = sum-effects p a.out.effects in omega (arith, c, d, e, f, same, h)

  pub byte_readable-hands : (operation : ReadableOperation) (a : byte.Acts) → ((closed : PromiseId) → operation ≡ names.InitializeReader closed → in_requests p a.slots.stream.requests ≡ 0)
      → ((request : ReadRequest) → operation ≡ names.Read request → byte.may_read a.slots ≡ true) → HandsBytes (of_readable p operation) a (byte_readable_operation me operation a)
  byte_readable-hands operation a first meant =
      summed (given_read (is_of p) operation) (of_readable p operation) a (byte_readable_operation me operation a) (given-read p operation)
      (requests.byte_readable-hands me (is_of p) (of_effect p) (weighs p me) operation a
      (record { none = λ c e. sum-requests p a.slots.stream.requests ∙ first c e; meant = λ q e m. false_true (byte.may_read a.slots) (meant q e) m; untied = untied_none p }))

  pub byte-hands : (operation : ByteOperation) (a : byte.Acts) → ((closed : PromiseId) → operation ≡ InitializeByobReader closed → in_requests p a.slots.stream.requests ≡ 0)
      → of_byte p operation ≡ 0 → HandsBytes (of_byte p operation) a (byte_operation me operation a)
  byte-hands operation a first none =
      summed (given_into (is_of p) operation) (of_byte p operation) a (byte_operation me operation a) (given-into p operation)
      (requests.byte-hands me (is_of p) (of_effect p) (weighs p me) operation a
      (record { none = λ c e. sum-requests p a.slots.stream.requests ∙ first c e; given = given-into p operation ∙ none }))
