-- A link has room for one chunk, at each moment and over any run.
use Rattle.std.proofs.Common.{◌≡◌, ℕ, ◌+◌, ◌-◌, ◌≤◌, Bool, true, false, not, ◌&&◌, ◌||◌, nat_eq, nat_lt, is_none, if◌then◌else◌, List, [], ◌∷◌, ◌++◌, length, Option, Some, None, Result, Ok, Err, slice_get, slice_set, refl, sym, ap, subst, ◌∙◌, arith}
use Rattle.ws_value.specs.declared.ids.PipeId.{PipeId}
use Rattle.ws_value.specs.declared.ids.PromiseId.{PromiseId}
use Rattle.ws_value.specs.declared.ids.StreamId.{StreamId}
use Rattle.ws_value.specs.declared.value.Plain.{Plain}
use Rattle.ws_value.specs.declared.value.Value.{Value}
use Rattle.ws_steps.specs.declared.effects.Effect.{Effect}
use Rattle.ws_steps.specs.declared.effects.Effect.TheVariants.{Readable as OnReadable, Writable as OnWritable, Pipe as OnPipe, Signal as OnSignal, Transform as OnTransform, Tee as OnTee, Port as OnPort, StartAlgorithm, PullAlgorithm, CancelAlgorithm, WriteAlgorithm, CloseAlgorithm, AbortAlgorithm, ChunkSteps, CloseSteps, ErrorSteps}
use Rattle.ws_steps.specs.declared.pipes.Action.{Action}
use Rattle.ws_steps.specs.declared.pipes.Action.TheVariants.{BySignal}
use Rattle.ws_steps.specs.declared.pipes.Ends.{Ends}
use Rattle.ws_steps.specs.declared.pipes.Phase.{Phase}
use Rattle.ws_steps.specs.declared.pipes.Phase.TheVariants.{Flowing, Waiting, Acting, Over}
use Rattle.ws_steps.specs.declared.pipes.PipeOperation.{PipeOperation}
use Rattle.ws_steps.specs.declared.pipes.PipeOperation.TheVariants.{Look, LookReady, KeepChunk, ReadEnded, WriteChunk, GoOn, WriteEnded, Abort as AbortPipe, ActionSettled, PartSettled, NoParts}
use Rattle.ws_steps.specs.declared.pipes.SignalOperation.{SignalOperation}
use Rattle.ws_steps.specs.declared.pipes.SignalOperation.TheVariants.{Add, Forget, Trigger}
use Rattle.ws_steps.specs.declared.readable.ReadRequest.TheVariants.{Promise, Pipe as PipeRequest, Tee as TeeRequest}
use Rattle.ws_steps.specs.declared.readable.ReadableState.{ReadableState}
use Rattle.ws_steps.specs.declared.readable.ReadableState.TheVariants.{Readable, Closed, Errored}
use Rattle.ws_steps.specs.declared.readable.SizeBy.TheVariants.{Count}
use Rattle.ws_steps.specs.declared.writable.WritableOperation.{WritableOperation}
use Rattle.ws_steps.specs.declared.writable.WritableOperation.TheVariants.{Write}
use Rattle.ws_steps.specs.declared.writable.WritableState.{WritableState}
use Rattle.ws_steps.specs.declared.writable.WritableState.TheVariants.{Writable, Erroring, Errored as WritableErrored, Closed as WritableClosed}
use Rattle.ws_steps.specs.declared.transform.TransformId.{TransformId}
use Rattle.ws_steps.specs.Histories.{is_same}
use Rattle.ws_steps.specs.Operations.{byte_operation, writable_operation, pipe_operation}
use Rattle.ws_steps.specs.Pipes as pipe
use Rattle.ws_steps.specs.Pipes.{Slots as PipeSlots, finalize, act_by_signal, act, proceed, is_flowing, shut_down, shutdown, wait_for_ready, read_or_wait, look_by, look, look_ready, go_on_in, go_on, keep_chunk, read_ended, write_held, write_chunk, write_ended, action_settled, part_settled, no_parts, abort}
use Rattle.ws_steps.specs.Promises.{Table}
use Rattle.ws_steps.specs.Queues.{total_of}
use Rattle.ws_steps.specs.Slots.{Slots, Done, ends_at, wants_chunk, writable_at, pipe_at, as_writable, as_pipe, on_pipe_at}
use Rattle.ws_steps.specs.Turns.{row}
use Rattle.ws_steps.specs.Writable as writable
use Rattle.ws_steps.specs.Writable.{is_writable, is_closed}
use Rattle.ws_steps.proofs.PromiseLaws.{slice_get-set_other}
use Rattle.ws_flow.specs.Told.{Told, then_told}
use Rattle.ws_laws.proofs.Lists.{Each, each-map, append_none}
use Rattle.ws_laws.proofs.PipeDoes.{PipeCauses, pipe-causes, is_looking}
use Rattle.ws_laws.proofs.Apart.{IsNoPipe, IsApart, row-pipes, row-streams}
use Rattle.ws_laws.proofs.Causes.{Causes, SignalCauses, row-causes}
use Rattle.ws_laws.proofs.Tables.{either, is_same-refl, same_id, eq_numbers, unequal_numbers, writable_acts, on_byte-writable, on_source-writable, on_writable-same, on_writable-other}
use Rattle.ws_laws.proofs.TransformDoes.{TransformCauses}
use Rattle.ws_laws.proofs.Truth.{and_right}
use Rattle.ws_pipe_laws.specs.pipes.PipeMoves.{starting}
use Rattle.ws_pipe_laws.specs.pipes.PipeReads.{held_values, one_if}
use Rattle.ws_pipe_laws.proofs.pipes.PassingRuns.{Few, place_same}
use Rattle.ws_writable_laws.proofs.Shape.{all, all-append}
use Rattle.ws_link_laws.specs.Link.{silence}
use Rattle.ws_link_laws.specs.Room.{Sized}
use Rattle.ws_link_laws.proofs.Rooms.{more_in, RoomKept, sink_room}
use Rattle.ws_link_laws.proofs.Standing.{IsStill, Sound}
use Rattle.ws_link_laws.proofs.Telling.{tells, writes}
use Rattle.ws_steps.specs.declared.effects.Effect.TheVariants.{Byte, CloseStepsWith}
use Rattle.ws_value.specs.declared.ids.TeeId.{TeeId}
use Rattle.ws_value.specs.declared.ids.PortId.{PortId}
use Rattle.ws_laws.proofs.TeeDoes.{TeeCauses}
use Rattle.ws_laws.proofs.PortDoes.{PortCauses}

-- the chunks that are on their way to the destination
abbrev pub more_on : StreamId → Effect → ℕ
more_on j (OnWritable k (Write v q)) = one_if (is_same j k)
more_on j _ = 0

-- at each moment, with these effects on the agenda
pub record Room (j : StreamId) (p : PipeId) (s : Slots) (es : List Effect) : Type 0 where
  pub mark : (writable_at j s).hwm ≡ 1
  pub size : (writable_at j s).size_by ≡ Count
  pub sized : Sized (writable_at j s).queue
  pub room : total_of (writable_at j s).queue + (all (more_on j) es + one_if (pipe_at p s).reading) ≤ 1

-- a pipe

abbrev Fits : StreamId → ℕ → pipe.Acts → Type 0
Fits j b o = all (more_on j) o.out.effects + one_if o.slots.reading ≤ b

module _ (j : StreamId) (b : ℕ) (me : PipeId) (ends : Ends) (t : Table) where
  act_fits : (x : PipeSlots) → one_if x.reading ≤ b → Fits j b (act me ends (starting x t))
  unfolding act finalize act_by_signal
  act_fits x l = grind (arith, all-append, l)

  proceed_fits : (x : PipeSlots) → one_if x.reading ≤ b → Fits j b (proceed me ends (starting x t))
  unfolding proceed
  proceed_fits x l = either (Fits j b) (is_none x.held && nat_eq x.unsettled 0) (act me ends (starting x t)) (starting x t) (λ e. act_fits x l) (λ e. omega (arith, l))

  shut_fits : (x : PipeSlots) → one_if x.reading ≤ b → Fits j b (shut_down me ends (starting x t))
  shut_fits x l =
      either (Fits j b) (is_writable ends.dest_state && not ends.dest_closing) (proceed me ends (starting (record x { phase = Waiting }) t)) (act me ends (starting x t)) (λ e. proceed_fits (record x { phase = Waiting }) l) (λ e. act_fits x l)

  shutdown_fits : (a : Option Action) (e : Option Plain) (x : PipeSlots) → one_if x.reading ≤ b → Fits j b (shutdown me ends a e (starting x t))
  unfolding shutdown
  shutdown_fits a e x l =
      either (Fits j b) (is_flowing x.phase) (shut_down me ends (starting (record x { action = a; error = e }) t)) (starting x t) (λ c. shut_fits (record x { action = a; error = e }) l) (λ c. omega (arith, l))

  waits_fits : (x : PipeSlots) (q : Option PromiseId) → one_if x.reading ≤ b → Fits j b (wait_for_ready me (starting x t) q)
  waits_fits x None l = omega (arith, l)
  waits_fits x (Some q) l = omega (arith, l)

  read_fits : (x : PipeSlots) → one_if x.reading ≤ b → (ends.dest_wants ≡ true → 1 ≤ b) → Fits j b (read_or_wait me ends (starting x t))
  read_fits x l w =
      either (Fits j b) ends.dest_wants _ _ (λ e. let h = w e in omega (arith, h))
      (λ e. either (Fits j b) (not x.waits && is_writable ends.dest_state) (wait_for_ready me (starting x t) ends.dest_ready) (starting x t) (λ c. waits_fits x ends.dest_ready l) (λ c. omega (arith, l)))

  open_fits : (x : PipeSlots) (a : Option Action) (e : Option Plain) (c : Bool) → one_if x.reading ≤ b → (ends.dest_wants ≡ true → 1 ≤ b) → Fits j b (if c then shutdown me ends a e (starting x t) else if x.reading then starting x t else read_or_wait me ends (starting x t))
  open_fits x a e true l w = shutdown_fits a e x l
  open_fits x a e false l w = either (Fits j b) x.reading (starting x t) (read_or_wait me ends (starting x t)) (λ r. omega (arith, l)) (λ r. read_fits x l w)

  look_by_fits : (x : PipeSlots) → one_if x.reading ≤ b → (ends.dest_wants ≡ true → 1 ≤ b) → (s : ReadableState) (d : WritableState) → Fits j b (look_by me ends (starting x t) s d)
  look_by_fits x l w Errored d = shutdown_fits _ _ x l
  look_by_fits x l w Readable WritableErrored = shutdown_fits _ _ x l
  look_by_fits x l w Closed WritableErrored = shutdown_fits _ _ x l
  look_by_fits x l w Closed Writable = shutdown_fits _ _ x l
  look_by_fits x l w Closed Erroring = shutdown_fits _ _ x l
  look_by_fits x l w Closed WritableClosed = shutdown_fits _ _ x l
  look_by_fits x l w Readable Writable = open_fits x _ _ (ends.dest_closing || is_closed Writable) l w
  look_by_fits x l w Readable Erroring = open_fits x _ _ (ends.dest_closing || is_closed Erroring) l w
  look_by_fits x l w Readable WritableClosed = open_fits x _ _ (ends.dest_closing || is_closed WritableClosed) l w

  look_fits : (x : PipeSlots) → one_if x.reading ≤ b → (ends.dest_wants ≡ true → 1 ≤ b) → Fits j b (look me ends (starting x t))
  unfolding look
  look_fits x l w = either (Fits j b) (is_flowing x.phase) (look_by me ends (starting x t) ends.source_state ends.dest_state) (starting x t) (λ c. look_by_fits x l w ends.source_state ends.dest_state) (λ c. omega (arith, l))

  go_on_fits : (x : PipeSlots) → one_if x.reading ≤ b → (ends.dest_wants ≡ true → 1 ≤ b) → (v : Phase) → Fits j b (go_on_in me ends (starting x t) v)
  go_on_fits x l w Flowing = look_fits x l w
  go_on_fits x l w Waiting = proceed_fits x l
  go_on_fits x l w Acting = omega (arith, l)
  go_on_fits x l w Over = omega (arith, l)

  finalize_fits : (e : Option Plain) (x : PipeSlots) → one_if x.reading ≤ b → Fits j b (finalize me e (starting x t))
  unfolding finalize
  finalize_fits e x l = grind (arith, all-append, l)

  write_fits : (x : PipeSlots) (o : Option Value) → one_if x.reading ≤ b → length (held_values o) ≤ one_if x.reading → Fits j b (write_held me (starting x t) o)
  write_fits x None l r = omega (arith, l)
  write_fits x (Some v) l r = by x.phase
    where
      fewer : one_if (is_same j x.dest) ≤ 1
      fewer = few (is_same j x.dest)
        where
          few : (c : Bool) → one_if c ≤ 1
          few true = omega arith
          few false = omega arith

      by : (phase : Phase) → Fits j b (pipe.write_in me v (starting (record x { held = None; reading = false }) t) phase)
      by Flowing = let f = fewer in omega (arith, f, l, r)
      by Waiting = let f = fewer in omega (arith, f, l, r)
      by Acting = omega arith
      by Over = omega arith

  part_fits : (o : Result Plain Plain) (x : PipeSlots) → one_if x.reading ≤ b → Fits j b (part_settled o (starting x t))
  unfolding part_settled
  part_fits o x l = grind (arith, l)

  none_fits : (x : PipeSlots) → one_if x.reading ≤ b → Fits j b (no_parts (starting x t))
  unfolding no_parts
  none_fits x l = grind (arith, l)

  pipe_fits : (op : PipeOperation) (x : PipeSlots) → one_if x.reading ≤ b → (is_looking op ≡ true → ends.dest_wants ≡ true → 1 ≤ b) → length (held_values x.held) ≤ one_if x.reading → Fits j b (pipe_operation me ends op (starting x t))
  unfolding look_ready go_on keep_chunk read_ended write_chunk write_ended action_settled abort
  pipe_fits Look x l w r = look_fits x l (w refl)
  pipe_fits LookReady x l w r = look_fits (record x { waits = false }) l (w refl)
  pipe_fits (KeepChunk v) x l w r = omega (arith, l)
  pipe_fits ReadEnded x l w r = omega arith
  pipe_fits WriteChunk x l w r = write_fits x x.held l r
  pipe_fits GoOn x l w r = go_on_fits x l (w refl) x.phase
  pipe_fits WriteEnded x l w r = go_on_fits (record x { unsettled = x.unsettled - 1 }) l (w refl) x.phase
  pipe_fits (AbortPipe e) x l w r = shutdown_fits (Some (BySignal e)) (Some e) x l
  pipe_fits (ActionSettled (Ok v)) x l w r = finalize_fits x.error x l
  pipe_fits (ActionSettled (Err e)) x l w r = finalize_fits (Some e) x l
  pipe_fits (PartSettled o) x l w r = part_fits o x l
  pipe_fits NoParts x l w r = none_fits x l

-- no chunk is written where nothing is on its way

then_silent : (a b : Told Value) → then_told a b ≡ silence → (a ≡ silence) × (b ≡ silence)
then_silent a b e = grind (arith, e, append_none)

one_more : (j : StreamId) (e : Effect) → writes j e ≡ silence → more_on j e ≡ 0
one_more j e n = grind (arith, n)

pub silent-more : (j : StreamId) (es : List Effect) → tells (writes j) es ≡ silence → all (more_on j) es ≡ 0
silent-more j [] n = refl
silent-more j (e ∷ es) n =
    let a = then_silent (writes j e) (tells (writes j) es) n in
    let h = one_more j e a.0 in
    let g = silent-more j es a.1 in
    omega (arith, h, g)

abbrev IsNoMore : StreamId → Effect → Type 0
IsNoMore j e = more_on j e ≡ 0

pub no_more-all : (j : StreamId) (es : List Effect) → Each (IsNoMore j) es → all (more_on j) es ≡ 0
no_more-all j [] n = refl
no_more-all j (e ∷ es) n = let h = n.0 in let g = no_more-all j es n.1 in omega (arith, h, g)

-- no effect but an operation of a pipe causes a write

signal-more : (j : StreamId) (operation : SignalOperation) → SignalCauses (IsNoMore j) operation
signal-more j (Trigger r) = λ q. refl
signal-more j (Add q) = tt
signal-more j (Forget q) = tt

transform-more : (j : StreamId) (t : TransformId) (w r : StreamId) (e : Effect) → TransformCauses t w r e → IsNoMore j e
transform-more j t w r e c = grind (arith, c)

tee-more : (j : StreamId) (t : TeeId) (source first second : StreamId) (e : Effect) → TeeCauses t source first second e → IsNoMore j e
tee-more j t source first second (OnWritable k operation) c = absurd c
tee-more j t source first second (OnPipe q operation) c = absurd c
tee-more j t source first second _ c = refl

port-more : (j : StreamId) (t : PortId) (stream : StreamId) (e : Effect) → PortCauses t stream e → IsNoMore j e
port-more j t stream e c = grind (arith, c)

more-causes : (j : StreamId) (e : Effect) → IsNoPipe e → Causes (IsNoMore j) e
more-causes j (OnReadable k operation) n = record { pull = refl; cancel = λ r q. refl; chunk = λ request v. refl; close = λ request. refl; error = λ request r. refl }
more-causes j (Byte k operation) n = record { readable = record { pull = refl; cancel = λ r q. refl; chunk = λ request v. refl; close = λ request. refl; error = λ request r. refl }; close_with = λ r b. refl }
more-causes j (OnWritable k operation) n = record { write = refl; close = refl; abort = λ r q. refl; hand_on = λ v. refl; take = λ v t d. refl; post = λ v t d. refl }
more-causes j (OnPipe q operation) n = absurd n
more-causes j (OnSignal a operation) n = signal-more j operation
more-causes j (StartAlgorithm k step start) n = (λ g u. refl, λ c u. refl)
more-causes j (OnTransform t operation) n = λ w r e c. transform-more j t w r e c
more-causes j (OnTee t operation) n = λ source first second e c. tee-more j t source first second e c
more-causes j (OnPort t operation) n = λ stream e c. port-more j t stream e c
more-causes j (PullAlgorithm k) n = (λ c u. refl, (λ t u. refl, (λ t. refl, (λ u. refl, λ q. refl))))
more-causes j (CancelAlgorithm k r q) n = (λ c u. refl, (λ t u. refl, (λ t half u. refl, λ y u. refl)))
more-causes j (WriteAlgorithm k) n = (refl, (λ t u. refl, λ z u. refl))
more-causes j (CloseAlgorithm k) n = (λ c u. refl, (λ t u. refl, λ z u. refl))
more-causes j (AbortAlgorithm k r q) n = (λ c u. refl, (λ t u. refl, λ z u. refl))
more-causes j (ChunkSteps k (Promise q) v) n = tt
more-causes j (ChunkSteps k (PipeRequest q) v) n = refl
more-causes j (ChunkSteps k (TeeRequest b) v) n = refl
more-causes j (CloseSteps k (Promise q)) n = tt
more-causes j (CloseStepsWith k (Promise q) b) n = tt
more-causes j (CloseSteps k (PipeRequest q)) n = refl
more-causes j (CloseSteps k (TeeRequest b)) n = refl
more-causes j (CloseStepsWith k (PipeRequest q) b) n = refl
more-causes j (CloseStepsWith k (TeeRequest tee_id) b) n = refl
more-causes j (ErrorSteps k (Promise q) r) n = tt
more-causes j (ErrorSteps k (PipeRequest q) r) n = refl
more-causes j (ErrorSteps k (TeeRequest b) r) n = refl
more-causes j _ n = tt

caused-more : (j : StreamId) (e : Effect) (s : Slots) → IsNoPipe e → all (more_on j) (row e s).caused ≡ 0
caused-more j e s n = no_more-all j (row e s).caused (row-causes (IsNoMore j) e s (more-causes j e n))

-- in one turn, where the destination and the pipe stay

still-room : (j : StreamId) (p : PipeId) (e : Effect) (s : Slots) (es : List Effect) → writable_at j (row e s).slots ≡ writable_at j s → pipe_at p (row e s).slots ≡ pipe_at p s → all (more_on j) (row e s).caused ≡ 0 → Room j p s (e ∷ es)
    → Room j p (row e s).slots ((row e s).caused ++ es)
still-room j p e s es a b c r =
    let h = r.room in
    let g = all-append (more_on j) (row e s).caused es in
    record { mark = rw a r.mark; size = rw a r.size; sized = rw a r.sized; room = rw (a, b) (omega (arith, g, h, c)) }

-- the destination's own

own-room : (i j : StreamId) (p : PipeId) (operation : WritableOperation) (s : Slots) (es : List Effect) → Sound i j p s (OnWritable j operation ∷ es) → Room j p s (OnWritable j operation ∷ es)
    → Room j p (row (OnWritable j operation) s).slots ((row (OnWritable j operation) s).caused ++ es)
unfolding row
own-room i j p operation s es so r =
    let e : Effect = OnWritable j operation in
    let b : writable.Acts = writable_operation j operation (writable_acts j s) in
    let k : RoomKept (writable_at j s) (total_of (writable_at j s).queue + more_in operation) b = sink_room j operation (writable_at j s) s.promises r.size r.sized in
    let new : writable_at j (row e s).slots ≡ b.slots = ap as_writable (on_writable-same (writable_operation j operation) j s so.state.sink) in
    let same : pipe_at p (row e s).slots ≡ pipe_at p s = rw (row-pipes e s tt) refl in
    let none = caused-more j e s tt in
    let g = all-append (more_on j) (row e s).caused es in
    let m = more_here operation in
    let h = r.room in
    let l = k.total in
    record { mark = rw new (k.mark ∙ r.mark); size = rw new (k.size ∙ r.size); sized = rw new k.sized; room = rw (new, same) (omega (arith, none, g, m, h, l)) }
  where
    more_here : (o : WritableOperation) → more_on j (OnWritable j o) ≡ more_in o
    more_here o = let self = is_same-refl j in grind (arith, self)

writable-room : (i j : StreamId) (p : PipeId) (k : StreamId) (operation : WritableOperation) (s : Slots) (es : List Effect) → Sound i j p s (OnWritable k operation ∷ es) → Room j p s (OnWritable k operation ∷ es)
    → Room j p (row (OnWritable k operation) s).slots ((row (OnWritable k operation) s).caused ++ es)
unfolding row
writable-room i j p k operation s es so r = by (is_same j k) refl
  where
    by : (same : Bool) → same ≡ is_same j k → Room j p (row (OnWritable k operation) s).slots ((row (OnWritable k operation) s).caused ++ es)
    by false n =
        still-room j p (OnWritable k operation) s es (ap as_writable (on_writable-other (writable_operation k operation) k s j (sym n))) (rw (row-pipes (OnWritable k operation) s tt) refl) (caused-more j (OnWritable k operation) s tt) r
    by true n =
        subst (λ (x : StreamId). Sound i j p s (OnWritable x operation ∷ es) → Room j p s (OnWritable x operation ∷ es) → Room j p (row (OnWritable x operation) s).slots ((row (OnWritable x operation) s).caused ++ es)) (same_id j k (sym n))
        (own-room i j p operation s es) so r

-- the pipe's own

below_one : (n : ℕ) → nat_lt n 1 ≡ true → n ≡ 0
below_one n e = grind (arith, e)

empty_wants : (w : writable.Slots) → w.hwm ≡ 1 → wants_chunk w ≡ true → total_of w.queue ≡ 0
empty_wants w m e = below_one (total_of w.queue) (rw m at (and_right (is_writable w.state) (nat_lt (total_of w.queue) w.hwm) e))

self : (p : PipeId) → nat_eq p.0 p.0 ≡ true
self p = grind arith

own_pipe-room : (i j : StreamId) (p : PipeId) (operation : PipeOperation) (s : Slots) (es : List Effect) → Sound i j p s (OnPipe p operation ∷ es) → Room j p s (OnPipe p operation ∷ es)
    → Room j p (row (OnPipe p operation) s).slots ((row (OnPipe p operation) s).caused ++ es)
unfolding row
own_pipe-room i j p operation s es so r =
    let e : Effect = OnPipe p operation in
    let is_row : row e s ≡ on_pipe_at (λ ends. pipe_operation p ends operation) p s (Some x) = rows in
    let caused : (row e s).caused ≡ b.out.effects = ap (λ (d : Done). d.caused) is_row in
    let placed : (row e s).slots.pipes ≡ slice_set s.pipes p.0 b.slots = ap (λ (d : Done). d.slots.pipes) is_row in
    let streams : (row e s).slots.streams ≡ s.streams = ap (λ (d : Done). d.slots.streams) is_row in
    let here : slice_get (row e s).slots.pipes p.0 ≡ Some b.slots = rw placed (place_same s.pipes p.0 x b.slots so.state.there) in
    let at : pipe_at p (row e s).slots ≡ b.slots = ap as_pipe here in
    let g = all-append (more_on j) b.out.effects es in
    let l = by_wants (is_looking operation) (wants_chunk (writable_at j s)) refl refl in
    record { mark = rw streams r.mark; size = rw streams r.size; sized = rw streams r.sized; room = rw (streams, at, caused) (omega (arith, g, l)) }
  where
    x : PipeSlots
    x = pipe_at p s

    b : pipe.Acts
    b = pipe_operation p (ends_at x s) operation (starting x s.promises)

    rows : row (OnPipe p operation) s ≡ on_pipe_at (λ ends. pipe_operation p ends operation) p s (Some x)
    rows = ap (on_pipe_at (λ ends. pipe_operation p ends operation) p s) so.state.there

    less : length (held_values x.held) ≤ one_if x.reading
    less = let w = so.few in let there = so.state.there in few (slice_get s.pipes p.0) there w
      where
        few : (o : Option PipeSlots) → o ≡ Some x → Few p s (OnPipe p operation ∷ es) → length (held_values x.held) ≤ one_if x.reading
        few o e w = grind (arith, so.state.there, w)

    by_wants : (l c : Bool) → l ≡ is_looking operation → c ≡ wants_chunk (writable_at j s) → total_of (writable_at j s).queue + ((all (more_on j) b.out.effects + all (more_on j) es) + one_if b.slots.reading) ≤ 1
    by_wants true true f c =
        let still : IsStill j p es = so.ends.0 (let q = self p in rw (q, ← f) refl) in
        let n = silent-more j es still.writes in
        let q = empty_wants (writable_at j s) r.mark (sym c) in
        let z = r.room in
        let l = pipe_fits j 1 p (ends_at x s) s.promises operation x (omega (arith, z)) (λ u v. omega arith) less in
        omega (arith, n, q, l)
    by_wants true false f c =
        let l = pipe_fits j (one_if x.reading) p (ends_at x s) s.promises operation x (omega arith) (λ u v. let w : wants_chunk (writable_at j s) ≡ true = rw so.state.into at v in absurd (cc)) less in
        let z = r.room in
        omega (arith, l, z)
    by_wants false d f c =
        let l = pipe_fits j (one_if x.reading) p (ends_at x s) s.promises operation x (omega arith) (λ u v. absurd (cc)) less in
        let z = r.room in
        omega (arith, l, z)

-- another pipe

far_more : (j : StreamId) (q : PipeId) (source dest : StreamId) (e : Effect) → is_same j dest ≡ false → PipeCauses q source dest e → IsNoMore j e
far_more j q source dest e n c = grind (arith, n, c)

other_pipe-room : (i j : StreamId) (p q : PipeId) (operation : PipeOperation) (s : Slots) (es : List Effect) → nat_eq p.0 q.0 ≡ false → Sound i j p s (OnPipe q operation ∷ es) → Room j p s (OnPipe q operation ∷ es)
    → Room j p (row (OnPipe q operation) s).slots ((row (OnPipe q operation) s).caused ++ es)
unfolding row
other_pipe-room i j p q operation s es n so r =
    let streams : (row (OnPipe q operation) s).slots.streams ≡ s.streams = row-streams (OnPipe q operation) s tt in
    still-room j p (OnPipe q operation) s es (rw streams refl) (ap as_pipe (place (slice_get s.pipes q.0))) (none (slice_get s.pipes q.0) refl) r
  where
    place : (o : Option PipeSlots) → slice_get (on_pipe_at (λ ends. pipe_operation q ends operation) q s o).slots.pipes p.0 ≡ slice_get s.pipes p.0
    place None = refl
    place (Some x) = slice_get-set_other s.pipes q.0 p.0 _ (λ k. unequal_numbers p.0 q.0 n (sym k))

    none : (o : Option PipeSlots) → slice_get s.pipes q.0 ≡ o → all (more_on j) (on_pipe_at (λ ends. pipe_operation q ends operation) q s o).caused ≡ 0
    none None e = refl
    none (Some x) e =
        let far = so.state.apart q.0 x e (λ k. unequal_numbers p.0 q.0 n (sym k)) in
        let c = pipe-causes q (ends_at x s) operation (starting x s.promises) tt in
        no_more-all j (pipe_operation q (ends_at x s) operation (starting x s.promises)).out.effects
        (each-map _ (IsNoMore j) (λ u k. far_more j q x.source x.dest u far.1 k) (pipe_operation q (ends_at x s) operation (starting x s.promises)).out.effects c.1.1)

pipe-room : (i j : StreamId) (p q : PipeId) (operation : PipeOperation) (s : Slots) (es : List Effect) → Sound i j p s (OnPipe q operation ∷ es) → Room j p s (OnPipe q operation ∷ es) → Room j p (row (OnPipe q operation) s).slots ((row (OnPipe q operation) s).caused ++ es)
pipe-room i j p q operation s es so r = by (nat_eq p.0 q.0) refl
  where
    by : (same : Bool) → same ≡ nat_eq p.0 q.0 → Room j p (row (OnPipe q operation) s).slots ((row (OnPipe q operation) s).caused ++ es)
    by false n = other_pipe-room i j p q operation s es (sym n) so r
    by true n =
        let is : p ≡ q = ap (λ (m : ℕ). record { 0 = m }) (eq_numbers p.0 q.0 (sym n)) in
        subst (λ (x : PipeId). Sound i j p s (OnPipe x operation ∷ es) → Room j p s (OnPipe x operation ∷ es) → Room j p (row (OnPipe x operation) s).slots ((row (OnPipe x operation) s).caused ++ es)) is (own_pipe-room i j p operation s es) so r

-- other effects

apart-room : (j : StreamId) (p : PipeId) (e : Effect) (s : Slots) (es : List Effect) → IsApart e → IsNoPipe e → Room j p s (e ∷ es) → Room j p (row e s).slots ((row e s).caused ++ es)
apart-room j p e s es a n r = still-room j p e s es (rw (row-streams e s a) refl) (rw (row-pipes e s n) refl) (caused-more j e s n) r

-- each effect
pub row-room : (i j : StreamId) (p : PipeId) (e : Effect) (s : Slots) (es : List Effect) → Sound i j p s (e ∷ es) → Room j p s (e ∷ es) → Room j p (row e s).slots ((row e s).caused ++ es)
unfolding row
row-room i j p (OnReadable k operation) s es so r =
    still-room j p (OnReadable k operation) s es (on_source-writable operation k s j) (rw (row-pipes (OnReadable k operation) s tt) refl) (caused-more j (OnReadable k operation) s tt) r
row-room i j p (Byte k operation) s es so r =
    still-room j p (Byte k operation) s es (on_byte-writable (byte_operation k operation) k s j) (rw (row-pipes (Byte k operation) s tt) refl) (caused-more j (Byte k operation) s tt) r
row-room i j p (OnWritable k operation) s es so r = writable-room i j p k operation s es so r
row-room i j p (OnPipe q operation) s es so r = pipe-room i j p q operation s es so r
row-room i j p e s es so r = apart-room j p e s es tt tt r
