-- The reads of a pipe that are under way: what each operation of a pipe, and each of a readable stream, does to them.
use Rattle.std.proofs.Common.{◌≡◌, ℕ, ◌+◌, ◌-◌, ◌≤◌, Bool, true, false, not, ◌&&◌, ◌||◌, nat_eq, is_none, if◌then◌else◌, List, [], ◌∷◌, ◌++◌, length, Option, Some, None, Result, Ok, Err, refl, ap, arith}
use Rattle.ws_laws.proofs.PortDoes.{PortCauses}
use Rattle.ws_value.specs.declared.ids.PortId.{PortId}
use Rattle.ws_value.specs.declared.{ids.PipeId.{PipeId}, ids.PromiseId.{PromiseId}, ids.StreamId.{StreamId}}
use Rattle.ws_value.specs.declared.value.{Plain.{Plain}, Value.{Value}}
use Rattle.ws_steps.specs.declared.effects.Effect.{Effect}
use Rattle.ws_steps.specs.declared.effects.Effect.TheVariants.{Readable as OnReadable, Pipe as OnPipe, ChunkSteps, CloseSteps, ErrorSteps, CancelAlgorithm}
use Rattle.ws_steps.specs.declared.pipes.{Action.{Action}, Action.TheVariants.{AbortDest, CancelSource, CloseDest, BySignal}, Ends.{Ends}, Phase.{Phase}, Phase.TheVariants.{Flowing, Waiting, Acting, Over}}
use Rattle.ws_steps.specs.declared.pipes.{PipeOperation.{PipeOperation}, PipeOperation.TheVariants.{Look, LookReady, KeepChunk, ReadEnded, WriteChunk, GoOn, WriteEnded, Abort as AbortPipe, ActionSettled, PartSettled, NoParts}}
use Rattle.ws_steps.specs.declared.queue.Queued.{Queued}
use Rattle.ws_steps.specs.declared.readable.{ReadRequest.{ReadRequest}, ReadRequest.TheVariants.{Pipe as PipeRequest}, ReadableOperation.{ReadableOperation}, ReadableState.{ReadableState}, ReadableState.TheVariants.{Readable, Closed, Errored}}
use Rattle.ws_steps.specs.declared.readable.ReadableOperation.TheVariants as names
use Rattle.ws_steps.specs.declared.transform.TransformId.{TransformId}
use Rattle.ws_steps.specs.declared.writable.{WritableState.{WritableState}, WritableState.TheVariants.{Writable, Erroring, Errored as WritableErrored, Closed as WritableClosed}}
use Rattle.ws_steps.specs.Effects.{type_error}
use Rattle.ws_steps.specs.Operations.{readable_operation, pipe_operation}
use Rattle.ws_pipe_laws.specs.pipes.PipeMoves.{starting}
use Rattle.ws_pipe_laws.specs.pipes.PipeReads.{is_of, held_values, one_if, in_requests}
use Rattle.ws_steps.specs.Pipes.{Slots, Acts, with_slots, finalize, abort_dest, act_by_signal, act_by, act, proceed, is_flowing, shut_down, shutdown, unless, read_or_wait, look_by, look, look_ready, go_on_in, go_on, keep_chunk, read_ended, write_held, write_chunk, write_ended, action_settled, part_settled, no_parts, abort}
use Rattle.ws_steps.specs.Promises.{Table}
use Rattle.ws_steps.specs.Readable as readable
use Rattle.ws_steps.specs.Readable.{close_all, error_all, waiting, call_pull_if_needed, accept_for, accept, controller_enqueue, stream_close, stream_error, close_if_empty, controller_close, controller_error, after_take, pull_from, pull_steps, read_by, default_reader_read, reader_generic_initialize, disturb, cancel_readable_by, cancel_if_readable, start_settled, pull_settled, cancel_steps, cancel_by, stream_cancel, reader_release}
use Rattle.ws_steps.specs.Writable.{is_writable, is_closed}
use Rattle.ws_steps.specs.declared.byte.ByteOperation.TheVariants.{PullInto}
use Rattle.ws_laws.proofs.ByteHands.{sum_of, Weighs, given_read, given_into, byte_readable-hands, byte-hands}
use Rattle.ws_laws.proofs.Lists.{Each}
use Rattle.ws_laws.proofs.PipeDoes.{PipeCauses}
use Rattle.ws_laws.proofs.Tables.{either}
use Rattle.ws_laws.proofs.TransformDoes.{TransformCauses}
use Rattle.ws_writable_laws.proofs.Shape.{all, all-append}
use Rattle.ws_steps.specs.declared.effects.Effect.TheVariants.{CloseStepsWith}
use Rattle.ws_steps.specs.declared.effects.Effect.TheVariants.{Byte}
use Rattle.ws_steps.specs.declared.byte.ByteOperation.{ByteOperation}
use Rattle.ws_steps.specs.Operations.{byte_operation, byte_readable_operation}
use Rattle.ws_steps.specs.Bytes as byte
use Rattle.ws_laws.proofs.TeeDoes.{TeeCauses}
use Rattle.ws_value.specs.declared.ids.TeeId.{TeeId}

-- an answer to a read of the pipe
abbrev pub is_answer : PipeOperation → ℕ
is_answer (KeepChunk v) = 1
is_answer ReadEnded = 1
is_answer _ = 0

abbrev pub of_readable : PipeId → ReadableOperation → ℕ
of_readable p (names.Read request) = is_of p request
of_readable p _ = 0

abbrev pub of_byte : PipeId → ByteOperation → ℕ
of_byte p (PullInto room element minimum request) = is_of p request
of_byte p _ = 0

-- the reads of pipe p that an effect leads on
abbrev pub of_effect : PipeId → Effect → ℕ
of_effect p (OnReadable i operation) = of_readable p operation
of_effect p (Byte i operation) = of_byte p operation
of_effect p (OnPipe q operation) = if nat_eq p.0 q.0 then is_answer operation else 0
of_effect p (ChunkSteps i request v) = is_of p request
of_effect p (CloseSteps i request) = is_of p request
of_effect p (CloseStepsWith i request b) = is_of p request
of_effect p (ErrorSteps i request e) = is_of p request
of_effect p _ = 0

abbrev pub reads : PipeId → Acts → ℕ
reads p a = all (of_effect p) a.out.effects

-- a shutdown reads nothing, and leaves what is read and held

pub record Steady (p : PipeId) (a b : Acts) : Type 0 where
  pub none : reads p b ≡ reads p a
  pub held : b.slots.held ≡ a.slots.held
  pub reading : b.slots.reading ≡ a.slots.reading

rests-steady : (p : PipeId) (a : Acts) → Steady p a a
rests-steady p a = record { none = refl; held = refl; reading = refl }

pub finalize-steady : (p me : PipeId) (error : Option Plain) (a : Acts) → Steady p a (finalize me error a)
unfolding finalize
finalize-steady p me error a = grind (arith, all-append)

signal-steady : (p me : PipeId) (r : Plain) (a : Acts) → Steady p a (act_by_signal me r a)
unfolding act_by_signal
signal-steady p me r a = grind (arith, all-append)

abort-steady : (p me : PipeId) (r : Plain) (a : Acts) (d : Option PromiseId) → Steady p a (abort_dest me r a d)
abort-steady p me r a None = grind (arith, all-append)
abort-steady p me r a (Some d) = grind (arith, all-append)

act_by-steady : (p me : PipeId) (ends : Ends) (a : Acts) (action : Option Action) → Steady p a (act_by me ends a action)
act_by-steady p me ends a None = finalize-steady p me a.slots.error a
act_by-steady p me ends a (Some (AbortDest r)) = abort-steady p me r a ends.dest_abort
act_by-steady p me ends a (Some (CancelSource r)) = grind (arith, all-append)
act_by-steady p me ends a (Some CloseDest) = grind (arith, all-append)
act_by-steady p me ends a (Some (BySignal r)) = signal-steady p me r a

act-steady : (p me : PipeId) (ends : Ends) (a : Acts) → Steady p a (act me ends a)
unfolding act
act-steady p me ends a =
    let h = act_by-steady p me ends (with_slots (record a.slots { phase = Acting }) a) a.slots.action in
    record { none = h.none; held = h.held; reading = h.reading }

pub proceed-steady : (p me : PipeId) (ends : Ends) (a : Acts) → Steady p a (proceed me ends a)
unfolding proceed
proceed-steady p me ends a =
    either (Steady p a) (is_none a.slots.held && nat_eq a.slots.unsettled 0) (act me ends a) a (λ c. act-steady p me ends a) (λ c. rests-steady p a)

shut_down-steady : (p me : PipeId) (ends : Ends) (a : Acts) → Steady p a (shut_down me ends a)
shut_down-steady p me ends a =
    let b : Acts = with_slots (record a.slots { phase = Waiting }) a in
    either (Steady p a) (is_writable ends.dest_state && not ends.dest_closing) (proceed me ends b) (act me ends a)
    (λ c. let h = proceed-steady p me ends b in record { none = h.none; held = h.held; reading = h.reading }) (λ c. act-steady p me ends a)

pub shutdown-steady : (p me : PipeId) (ends : Ends) (action : Option Action) (error : Option Plain) (a : Acts) → Steady p a (shutdown me ends action error a)
unfolding shutdown
shutdown-steady p me ends action error a =
    let b : Acts = with_slots (record a.slots { action = action; error = error }) a in
    either (Steady p a) (is_flowing a.slots.phase) (shut_down me ends b) a
    (λ c. let h = shut_down-steady p me ends b in record { none = h.none; held = h.held; reading = h.reading }) (λ c. rests-steady p a)

-- an operation of the pipe itself, where n of its reads are elsewhere

module _ (n : ℕ) (p : PipeId) where
  abbrev pub Within : Acts → Type 0
  Within a = n + reads p a + length (held_values a.slots.held) ≤ one_if a.slots.reading

  steady-within : (a b : Acts) → Steady p a b → Within a → Within b
  steady-within a b s w =
      let h = ap (λ (v : Option Value). length (held_values v)) s.held in
      let r = ap one_if s.reading in
      let c = s.none in
      omega (arith, h, r, c, w)

  self : nat_eq p.0 p.0 ≡ true
  self = grind arith

  read-within : (ends : Ends) (a : Acts) → a.slots.reading ≡ false → Within a → Within (read_or_wait p ends a)
  read-within ends a r w = grind (arith, all-append, self, r, w)

  readable-within : (ends : Ends) (a : Acts) (d : WritableState) → Within a → Within
      (if ends.dest_closing || is_closed d
      then shutdown p ends (unless a.slots.prevent.cancel (CancelSource type_error)) (Some type_error) a
      else if a.slots.reading then a
      else read_or_wait p ends a)
  readable-within ends a d w =
      let shut : Acts = shutdown p ends (unless a.slots.prevent.cancel (CancelSource type_error)) (Some type_error) a in
      either Within (ends.dest_closing || is_closed d) shut (if a.slots.reading then a else read_or_wait p ends a)
      (λ c. steady-within a shut (shutdown-steady p p ends (unless a.slots.prevent.cancel (CancelSource type_error)) (Some type_error) a) w)
      (λ c. either Within a.slots.reading a (read_or_wait p ends a) (λ r. w) (λ r. read-within ends a r w))

  shuts-within : (ends : Ends) (action : Option Action) (error : Option Plain) (a : Acts) → Within a → Within (shutdown p ends action error a)
  shuts-within ends action error a w = steady-within a (shutdown p ends action error a) (shutdown-steady p p ends action error a) w

  look_by-within : (ends : Ends) (a : Acts) (s : ReadableState) (d : WritableState) → Within a → Within (look_by p ends a s d)
  look_by-within ends a Errored d w = shuts-within ends _ _ a w
  look_by-within ends a Readable WritableErrored w = shuts-within ends _ _ a w
  look_by-within ends a Closed WritableErrored w = shuts-within ends _ _ a w
  look_by-within ends a Closed Writable w = shuts-within ends _ _ a w
  look_by-within ends a Closed Erroring w = shuts-within ends _ _ a w
  look_by-within ends a Closed WritableClosed w = shuts-within ends _ _ a w
  look_by-within ends a Readable Writable w = readable-within ends a Writable w
  look_by-within ends a Readable Erroring w = readable-within ends a Erroring w
  look_by-within ends a Readable WritableClosed w = readable-within ends a WritableClosed w

  look-within : (ends : Ends) (a : Acts) → Within a → Within (look p ends a)
  unfolding look
  look-within ends a w =
      either Within (is_flowing a.slots.phase) (look_by p ends a ends.source_state ends.dest_state) a (λ c. look_by-within ends a ends.source_state ends.dest_state w) (λ c. w)

  go_on-within : (ends : Ends) (a : Acts) (phase : Phase) → Within a → Within (go_on_in p ends a phase)
  go_on-within ends a Flowing w = look-within ends a w
  go_on-within ends a Waiting w = steady-within a (proceed p ends a) (proceed-steady p p ends a) w
  go_on-within ends a Acting w = w
  go_on-within ends a Over w = w

  write-within : (a : Acts) (held : Option Value) → held ≡ a.slots.held → a.out.effects ≡ [] → Within a → Within (write_held p a held)
  write-within a held e f w = grind (arith, all-append, e, f, w)

  action-within : (a : Acts) (o : Result Plain Plain) → Within a → Within (action_settled p o a)
  unfolding action_settled
  action-within a (Ok v) w = steady-within a (finalize p a.slots.error a) (finalize-steady p p a.slots.error a) w
  action-within a (Err e) w = steady-within a (finalize p (Some e) a) (finalize-steady p p (Some e) a) w

  part-within : (a : Acts) (o : Result Plain Plain) → Within a → Within (part_settled o a)
  unfolding part_settled
  part-within a o w = grind (arith, w)

  pub operation-within : (ends : Ends) (operation : PipeOperation) (x : Slots) (t : Table) → n + is_answer operation + length (held_values x.held) ≤ one_if x.reading
      → Within (pipe_operation p ends operation (starting x t))
  unfolding look_ready go_on keep_chunk read_ended write_chunk write_ended no_parts abort
  operation-within ends Look x t w = look-within ends (starting x t) (omega (arith, w))
  operation-within ends LookReady x t w = look-within ends (starting (record x { waits = false }) t) (omega (arith, w))
  operation-within ends (KeepChunk v) x t w = grind (arith, w)
  operation-within ends ReadEnded x t w = grind (arith, w)
  operation-within ends WriteChunk x t w = write-within (starting x t) x.held refl refl (omega (arith, w))
  operation-within ends GoOn x t w = go_on-within ends (starting x t) x.phase (omega (arith, w))
  operation-within ends WriteEnded x t w = go_on-within ends (starting (record x { unsettled = x.unsettled - 1 }) t) x.phase (omega (arith, w))
  operation-within ends (AbortPipe r) x t w = shuts-within ends (Some (BySignal r)) (Some r) (starting x t) (omega (arith, w))
  operation-within ends (ActionSettled o) x t w = action-within (starting x t) o (omega (arith, w))
  operation-within ends (PartSettled o) x t w = part-within (starting x t) o (omega (arith, w))
  operation-within ends NoParts x t w = grind (arith, w)

-- an operation of another pipe

abbrev pub IsNone : PipeId → Effect → Type 0
IsNone p e = of_effect p e ≡ 0

pub none-all : (p : PipeId) (es : List Effect) → Each (IsNone p) es → all (of_effect p) es ≡ 0
none-all p [] n = refl
none-all p (e ∷ es) n = let k = n.0 in let rest = none-all p es n.1 in omega (arith, k, rest)

pub no_answer : (b : Bool) → ◌≡◌ {A = ℕ} (if b then 0 else 0) 0
no_answer true = refl
no_answer false = refl

own_read : (p q : PipeId) (request : ReadRequest) → nat_eq p.0 q.0 ≡ false → request ≡ PipeRequest q → is_of p request ≡ 0
own_read p q request n e = rw (e, n) refl

pub other-none : (p q : PipeId) → nat_eq p.0 q.0 ≡ false → (source dest : StreamId) (e : Effect) → PipeCauses q source dest e → IsNone p e
other-none p q n source dest (OnReadable i (names.Read request)) c = own_read p q request n c.1
other-none p q n source dest (OnReadable i operation) c = grind arith
other-none p q n source dest (OnPipe r GoOn) c = no_answer (nat_eq p.0 r.0)
other-none p q n source dest (OnPipe r operation) c = absurd c
other-none p q n source dest (ChunkSteps i request v) c = absurd c
other-none p q n source dest (CloseSteps i request) c = absurd c
other-none p q n source dest (CloseStepsWith i request b) c = absurd c
other-none p q n source dest (ErrorSteps i request e) c = absurd c
other-none p q n source dest (Byte i operation) c = absurd c
other-none p q n source dest _ c = refl

-- an operation of a transform stream
pub transform-none : (p : PipeId) (t : TransformId) (writable readable : StreamId) (e : Effect) → TransformCauses t writable readable e → IsNone p e
transform-none p t writable readable (OnReadable i (names.Read request)) c = absurd c
transform-none p t writable readable (OnPipe q operation) c = absurd c
transform-none p t writable readable (ChunkSteps i request v) c = absurd c
transform-none p t writable readable (CloseSteps i request) c = absurd c
transform-none p t writable readable (CloseStepsWith i request b) c = absurd c
transform-none p t writable readable (ErrorSteps i request e) c = absurd c
transform-none p t writable readable (Byte i operation) c = absurd c
transform-none p t writable readable _ c = refl

pub tee-none : (p : PipeId) (t : TeeId) (source first second : StreamId) (e : Effect) → TeeCauses t source first second e → IsNone p e
tee-none p t source first second (OnReadable i (names.Read request)) c = ap (is_of p) c.1
tee-none p t source first second (OnReadable i operation) c = grind arith
tee-none p t source first second (OnPipe q operation) c = absurd c
tee-none p t source first second (ChunkSteps i request v) c = absurd c
tee-none p t source first second (CloseSteps i request) c = absurd c
tee-none p t source first second (CloseStepsWith i request b) c = absurd c
tee-none p t source first second (ErrorSteps i request e) c = absurd c
tee-none p t source first second (Byte i operation) c = absurd c
tee-none p t source first second _ c = refl

pub port-none : (p : PipeId) (me : PortId) (stream : StreamId) (e : Effect) → PortCauses me stream e → IsNone p e
port-none p me stream (OnReadable i (names.Read request)) c = absurd c
port-none p me stream (OnReadable i operation) c = grind arith
port-none p me stream (OnPipe q operation) c = absurd c
port-none p me stream (ChunkSteps i request v) c = absurd c
port-none p me stream (CloseSteps i request) c = absurd c
port-none p me stream (CloseStepsWith i request b) c = absurd c
port-none p me stream (ErrorSteps i request e) c = absurd c
port-none p me stream (Byte i operation) c = absurd c
port-none p me stream _ c = refl

-- operations of readable streams hand each request on

requests-append : (p : PipeId) (xs ys : List ReadRequest) → in_requests p (xs ++ ys) ≡ in_requests p xs + in_requests p ys
requests-append p [] ys = omega arith
requests-append p (x ∷ xs) ys = let h = requests-append p xs ys in omega (arith, h)

in_closes : (p : PipeId) (me : StreamId) (rs : List ReadRequest) → all (of_effect p) (close_all me rs) ≡ in_requests p rs
in_closes p me [] = refl
in_closes p me (r ∷ rs) = let h = in_closes p me rs in omega (arith, h)

in_errors : (p : PipeId) (me : StreamId) (e : Plain) (rs : List ReadRequest) → all (of_effect p) (error_all me e rs) ≡ in_requests p rs
in_errors p me e [] = refl
in_errors p me e (r ∷ rs) = let h = in_errors p me e rs in omega (arith, h)

abbrev pub of_stream : PipeId → readable.Acts → ℕ
of_stream p a = in_requests p a.slots.requests + all (of_effect p) a.out.effects

module _ (p : PipeId) (me : StreamId) where
  -- b has at most n more than a
  abbrev pub Hands : ℕ → readable.Acts → readable.Acts → Type 0
  Hands n a b = of_stream p b ≤ of_stream p a + n

  pull-hands : (a : readable.Acts) → Hands 0 a (call_pull_if_needed me a)
  unfolding call_pull_if_needed
  pull-hands a = grind (arith, all-append)

  close-hands : (a : readable.Acts) → Hands 0 a (stream_close me a)
  unfolding stream_close
  close-hands a = grind (arith, all-append, in_closes)

  error-hands : (e : Plain) (a : readable.Acts) → Hands 0 a (stream_error me e a)
  unfolding stream_error
  error-hands e a = grind (arith, all-append, in_errors)

  erring-hands : (e : Plain) (a : readable.Acts) → Hands 0 a (controller_error me e a)
  unfolding controller_error
  erring-hands e a = let h = error-hands e (record a { slots = record a.slots { queue = [] } }) in grind (arith, h)

  accept-hands : (v : Value) (a : readable.Acts) (rs : List ReadRequest) → rs ≡ waiting a.slots → Hands 0 a (accept_for me v a rs)
  accept-hands v a rs is = grind (arith, is, all-append)

  enqueue-hands : (v : Value) (a : readable.Acts) → Hands 0 a (controller_enqueue me v a)
  unfolding controller_enqueue accept
  enqueue-hands v a =
      let h = accept-hands v a (waiting a.slots) refl in
      let g = pull-hands (accept me v a) in grind (arith, h, g)

  closing-hands : (a : readable.Acts) → Hands 0 a (controller_close me a)
  unfolding controller_close close_if_empty
  closing-hands a = let h = close-hands (record a { slots = record a.slots { close_requested = true } }) in grind (arith, h)

  after-hands : (a : readable.Acts) → Hands 0 a (after_take me a)
  unfolding after_take
  after-hands a = let h = close-hands a in let g = pull-hands a in grind (arith, h, g)

  from-hands : (request : ReadRequest) (a : readable.Acts) (queue : List (Queued Value)) → Hands (is_of p request) a (pull_from me request a queue)
  from-hands request a [] =
      let h = pull-hands (record a { slots = record a.slots { requests = a.slots.requests ++ request ∷ [] } }) in
      let f = requests-append p a.slots.requests (request ∷ []) in omega (arith, h, f)
  from-hands request a (x ∷ xs) =
      let b : readable.Acts = record a { slots = record a.slots { queue = xs } } in
      let h = after-hands b in
      let f = all-append (of_effect p) (after_take me b).out.effects (ChunkSteps me request x.value ∷ []) in omega (arith, h, f)

  read-hands : (request : ReadRequest) (a : readable.Acts) (state : ReadableState) → Hands (is_of p request) a (read_by me request a state)
  unfolding pull_steps
  read-hands request a Readable = from-hands request a a.slots.queue
  read-hands request a Closed = grind (arith, all-append)
  read-hands request a Errored = grind (arith, all-append)

  initialize-hands : (closed : PromiseId) (a : readable.Acts) → Hands 0 a (reader_generic_initialize closed a)
  unfolding reader_generic_initialize
  initialize-hands closed a = grind arith

  release-hands : (a : readable.Acts) → Hands 0 a (reader_release me a)
  unfolding reader_release
  release-hands a = grind (arith, all-append, in_errors)

  cancel-hands : (e : Plain) (q : PromiseId) (a : readable.Acts) (state : ReadableState) → Hands 0 a (cancel_by me e q a state)
  unfolding cancel_steps
  cancel-hands e q a state =
      let h = close-hands a in
      let f = all-append (of_effect p) (stream_close me a).out.effects (CancelAlgorithm me e q ∷ []) in grind (arith, h, f)

  cancel_readable-hands : (e : Plain) (q : PromiseId) (a : readable.Acts) (state : ReadableState) → Hands 0 a (cancel_readable_by me e q a state)
  unfolding stream_cancel
  cancel_readable-hands e q a Readable = let h = cancel-hands e q (record a { slots = record a.slots { disturbed = true } }) a.slots.state in omega (arith, h)
  cancel_readable-hands e q a Closed = omega arith
  cancel_readable-hands e q a Errored = omega arith

  pub readable-hands : (operation : ReadableOperation) (a : readable.Acts) → Hands (of_readable p operation) a (readable_operation me operation a)
  unfolding disturb default_reader_read cancel_if_readable start_settled pull_settled stream_cancel
  readable-hands (names.InitializeReader closed) a = initialize-hands closed a
  readable-hands names.ReleaseReader a = release-hands a
  readable-hands names.Disturb a = omega arith
  readable-hands (names.Read request) a = let h = read-hands request (record a { slots = record a.slots { disturbed = true } }) a.slots.state in omega (arith, h)
  readable-hands (names.Cancel e q) a = let h = cancel-hands e q (record a { slots = record a.slots { disturbed = true } }) a.slots.state in omega (arith, h)
  readable-hands (names.CancelIfReadable e q) a = cancel_readable-hands e q a a.slots.state
  readable-hands (names.Enqueue v) a = enqueue-hands v a
  readable-hands names.Close a = closing-hands a
  readable-hands (names.Error e) a = erring-hands e a
  readable-hands (names.StartSettled (Ok v)) a = let h = pull-hands (record a { slots = record a.slots { started = true } }) in omega (arith, h)
  readable-hands (names.StartSettled (Err e)) a = erring-hands e a
  readable-hands (names.PullSettled (Ok v)) a = let h = pull-hands (record a { slots = record a.slots { pulling = false; pull_again = false } }) in grind (arith, h)
  readable-hands (names.PullSettled (Err e)) a = erring-hands e a

-- an operation of a byte stream

sum-requests : (p : PipeId) (rs : List ReadRequest) → sum_of (is_of p) rs ≡ in_requests p rs
sum-requests p [] = refl
sum-requests p (q ∷ qs) = let n = sum-requests p qs in omega (arith, n)

sum-effects : (p : PipeId) (es : List Effect) → sum_of (of_effect p) es ≡ all (of_effect p) es
sum-effects p [] = refl
sum-effects p (e ∷ es) = let n = sum-effects p es in omega (arith, n)

weighs : (p : PipeId) (me : StreamId) → Weighs me (is_of p) (of_effect p)
weighs p me = record { chunk = λ q x. refl; close = λ q. refl; close_with = λ q b. refl; error = λ q e. refl; pull = refl; cancel = λ r q. refl }

abbrev pub ByteHands : PipeId → ℕ → byte.Acts → byte.Acts → Type 0
ByteHands p n a b = in_requests p b.slots.stream.requests + all (of_effect p) b.out.effects ≤ in_requests p a.slots.stream.requests + all (of_effect p) a.out.effects + n

summed : (p : PipeId) (n : ℕ) (a b : byte.Acts)
    → sum_of (is_of p) b.slots.stream.requests + sum_of (of_effect p) b.out.effects ≤ sum_of (is_of p) a.slots.stream.requests + sum_of (of_effect p) a.out.effects + n → ByteHands p n a b
summed p n a b h =
    let c = sum-requests p b.slots.stream.requests in
    let d = sum-requests p a.slots.stream.requests in
    let e = sum-effects p b.out.effects in
    let f = sum-effects p a.out.effects in omega (arith, c, d, e, f, h)

given-read : (p : PipeId) (operation : ReadableOperation) → given_read (is_of p) operation ≡ of_readable p operation
given-read p operation = grind arith

given-into : (p : PipeId) (operation : ByteOperation) → given_into (is_of p) operation ≡ of_byte p operation
given-into p operation = grind arith

pub byte_readable_given : (p : PipeId) (me : StreamId) (operation : ReadableOperation) (a : byte.Acts) → ByteHands p (of_readable p operation) a (byte_readable_operation me operation a)
byte_readable_given p me operation a = summed p (of_readable p operation) a (byte_readable_operation me operation a) (rw (← given-read p operation) (byte_readable-hands me (is_of p) (of_effect p) (weighs p me) operation a))

pub byte_given : (p : PipeId) (me : StreamId) (operation : ByteOperation) (a : byte.Acts) → ByteHands p (of_byte p operation) a (byte_operation me operation a)
byte_given p me operation a = summed p (of_byte p operation) a (byte_operation me operation a) (rw (← given-into p operation) (byte-hands me (is_of p) (of_effect p) (weighs p me) operation a))
