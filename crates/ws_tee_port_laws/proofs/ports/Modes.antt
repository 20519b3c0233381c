-- Within a step the ends of ports are read or cancelled, and not both: what an effect leads to, by what stands on the agenda. A pipe that looks
-- at its two ends does one or the other.
use Rattle.std.proofs.Common.{◌≡◌, Bool, true, false, not, ◌&&◌, ◌||◌, if◌then◌else◌, List, [], ◌∷◌, ◌++◌, Option, Some, None, Ok, Err, is_none, ◌⊎◌, inl, inr, nat_eq, slice_get, refl, arith}
use Rattle.ws_value.specs.declared.ids.PipeId.{PipeId}
use Rattle.ws_value.specs.declared.ids.PromiseId.{PromiseId}
use Rattle.ws_value.specs.declared.ids.SignalId.{SignalId}
use Rattle.ws_value.specs.declared.ids.StreamId.{StreamId}
use Rattle.ws_value.specs.declared.value.Plain.{Plain}
use Rattle.ws_value.specs.declared.value.Plain.TheVariants.{Undefined}
use Rattle.ws_value.specs.declared.value.Value.{Value}
use Rattle.ws_steps.specs.declared.effects.Effect.{Effect}
use Rattle.ws_steps.specs.declared.effects.Effect.TheVariants.{Readable as OnReadable, Writable as OnWritable, Pipe as OnPipe, Signal as OnSignal, Tee as OnTee, Port as OnPort, PullAlgorithm, CancelAlgorithm, AbortAlgorithm}
use Rattle.ws_steps.specs.declared.effects.Owner.{Owner}
use Rattle.ws_steps.specs.declared.effects.Owner.TheVariants.{Host, HalfOf, BranchOf, EndOf}
use Rattle.ws_steps.specs.declared.pipes.Action.{Action}
use Rattle.ws_steps.specs.declared.pipes.Action.TheVariants.{AbortDest, CancelSource, CloseDest, BySignal}
use Rattle.ws_steps.specs.declared.pipes.Ends.{Ends}
use Rattle.ws_steps.specs.declared.pipes.Phase.{Phase}
use Rattle.ws_steps.specs.declared.pipes.Phase.TheVariants.{Flowing, Waiting, Acting, Over as PipeOver}
use Rattle.ws_steps.specs.declared.pipes.PipeOperation.{PipeOperation}
use Rattle.ws_steps.specs.declared.pipes.PipeOperation.TheVariants as piping
use Rattle.ws_steps.specs.declared.pipes.SignalOperation.TheVariants.{Trigger}
use Rattle.ws_steps.specs.declared.port.PortOperation.TheVariants as ports
use Rattle.ws_steps.specs.declared.port.Side.TheVariants.{Writable as WritableSide}
use Rattle.ws_steps.specs.declared.readable.ReadableOperation.{ReadableOperation}
use Rattle.ws_steps.specs.declared.readable.ReadableOperation.TheVariants as reads
use Rattle.ws_steps.specs.declared.readable.ReadableState.{ReadableState}
use Rattle.ws_steps.specs.declared.readable.ReadableState.TheVariants.{Readable, Closed, Errored}
use Rattle.ws_steps.specs.declared.tee.TeeOperation.{TeeOperation}
use Rattle.ws_steps.specs.declared.tee.TeeOperation.TheVariants as tees
use Rattle.ws_steps.specs.declared.transform.Taker.TheVariants.{ToPort}
use Rattle.ws_steps.specs.declared.writable.WritableOperation.TheVariants as writes
use Rattle.ws_steps.specs.declared.writable.WritableState.{WritableState}
use Rattle.ws_steps.specs.declared.writable.WritableState.TheVariants.{Writable, Erroring, Errored as WritableErrored, Closed as WritableClosed}
use Rattle.ws_steps.specs.Operations.{pipe_operation}
use Rattle.ws_steps.specs.Pipes as pipe
use Rattle.ws_laws.proofs.Lists.{Each, each-append}
use Rattle.ws_laws.proofs.Shapes.{StreamShape, ReadableOf, BytesOf, WritableOf}
use Rattle.ws_laws.proofs.Ended.{PortShape}
use Rattle.ws_laws.proofs.Tables.{either}
use Rattle.std.proofs.Common.{◌-◌}
use Rattle.ws_steps.specs.Writable.{is_writable, is_closed}
use Rattle.ws_steps.specs.Effects.{type_error}
use Rattle.ws_steps.specs.Promises.{next_id}
use Rattle.ws_tee_port_laws.proofs.ports.Fitting.{IsSide}
use Rattle.ws_tee_port_laws.proofs.ports.Reading.{is_cancel, is_taking}

-- a readable stream that is neither a branch of a tee nor an end of a port
abbrev pub IsPlain : Owner → Type 0
IsPlain Host = Unit {0}
IsPlain (HalfOf t) = Unit {0}
IsPlain (BranchOf t half) = ⊥
IsPlain (EndOf c) = ⊥

abbrev pub IsPlainShape : Option StreamShape → Type 0
IsPlainShape None = Unit {0}
IsPlainShape (Some (ReadableOf o)) = IsPlain o
IsPlainShape (Some BytesOf) = Unit {0}
IsPlainShape (Some (WritableOf o)) = ⊥

abbrev pub NoEnd : List StreamShape → StreamId → Type 0
NoEnd xs i = IsPlainShape (slice_get xs i.0)

-- what may be read, where reads is true, and what may be cancelled, where cancels is
abbrev pub may_read : Bool → Bool → ReadableOperation → Bool
may_read reading cancelling operation = (not (is_taking operation) || reading) && (not (is_cancel operation) || cancelling)

abbrev pub may_pipe : Bool → PipeOperation → Bool
may_pipe cancelling (piping.KeepChunk v) = true
may_pipe cancelling piping.ReadEnded = true
may_pipe cancelling (piping.ActionSettled o) = true
may_pipe cancelling (piping.PartSettled o) = true
may_pipe cancelling piping.NoParts = true
may_pipe cancelling (piping.Abort r) = cancelling
may_pipe cancelling _ = false

abbrev pub may_tee : Bool → Bool → TeeOperation → Bool
may_tee reading cancelling tees.PullBranch = reading
may_tee reading cancelling tees.HandChunk = reading
may_tee reading cancelling tees.Handed = reading
may_tee reading cancelling (tees.CancelBranch half r u) = cancelling
may_tee reading cancelling _ = true

module _ (xs : List StreamShape) (ps : List PortShape) (reading cancelling : Bool) where
  abbrev pub May : Effect → Type 0
  May (OnReadable i operation) = NoEnd xs i ⊎ (may_read reading cancelling operation ≡ true)
  May (OnWritable i (writes.HandOn (ToPort c d))) = ⊥
  May (OnPipe p operation) = may_pipe cancelling operation ≡ true
  May (OnSignal a (Trigger r)) = cancelling ≡ true
  May (OnTee t operation) = may_tee reading cancelling operation ≡ true
  May (OnPort c ports.Pull) = reading ≡ true
  May (OnPort c (ports.Deliver m)) = reading ≡ true
  May (OnPort c (ports.Leave r u)) = (cancelling ≡ true) ⊎ IsSide ps c WritableSide
  May (OnPort c (ports.WriteGoesOn d)) = ⊥
  May (OnPort c (ports.PostChunk v d)) = ⊥
  May (PullAlgorithm i) = (reading ≡ true) ⊎ NoEnd xs i
  May (CancelAlgorithm i r p) = (cancelling ≡ true) ⊎ NoEnd xs i
  May (AbortAlgorithm i r p) = (o : Owner) → slice_get xs i.0 ≡ Some (ReadableOf o) → ⊥
  May e = Unit {0}

-- a pipe that looks, or comes to look
abbrev pub looks : PipeOperation → Bool
looks piping.Look = true
looks piping.LookReady = true
looks piping.GoOn = true
looks piping.WriteEnded = true
looks piping.WriteChunk = true
looks _ = false

-- what a pipe causes
module _ (xs : List StreamShape) (ps : List PortShape) (me : PipeId) where
  module _ (reading cancelling : Bool) where
    abbrev Mays : Effect → Type 0
    Mays = May xs ps reading cancelling

    abbrev Keeps : pipe.Acts → pipe.Acts → Type 0
    Keeps a b = Each Mays a.out.effects → Each Mays b.out.effects

    then-may : (a : pipe.Acts) (es : List Effect) → Each Mays es → Each Mays a.out.effects → Each Mays (a.out.effects ++ es)
    then-may a es m h = each-append Mays a.out.effects es h m

    forgets-may : (o : Option SignalId) → Each Mays (pipe.forgetting me o)
    forgets-may None = tt
    forgets-may (Some a) = (tt, tt)

    finalize-may : (error : Option Plain) (a : pipe.Acts) → Keeps a (pipe.finalize me error a)
    unfolding pipe.finalize
    finalize-may error a h =
        then-may a _ (tt, (inr refl, each-append Mays (pipe.forgetting me a.slots.signal) _ (forgets-may a.slots.signal) (tt, tt))) h

    reacts-may : (ps : List PromiseId) → Each Mays (pipe.reacts_to_all me ps)
    reacts-may [] = tt
    reacts-may (p ∷ ps) = (tt, reacts-may ps)

    waits-may : (ps : List PromiseId) → Each Mays (pipe.waiting_for me ps)
    waits-may [] = (tt, tt)
    waits-may (p ∷ ps) = reacts-may (p ∷ ps)

    abort_part-may : (r : Plain) (prevent : Bool) (a : pipe.Acts) → Keeps a (pipe.abort_part r prevent a)
    abort_part-may r true a h = h
    abort_part-may r false a h = then-may a _ (tt, tt) h

    module _ (can : cancelling ≡ true) where
      cancels : (i : StreamId) (operation : ReadableOperation) → is_taking operation ≡ false → Mays (OnReadable i operation)
      cancels i operation n = inr (rw (n, can) (or_true (is_cancel operation)))
        where
          or_true : (b : Bool) → (not b || true) ≡ true
          or_true b = grind arith

      cancel_part-may : (r : Plain) (prevent : Bool) (a : pipe.Acts) → Keeps a (pipe.cancel_part r prevent a)
      cancel_part-may r true a h = h
      cancel_part-may r false a h = then-may a _ (cancels a.slots.source (reads.CancelIfReadable r (next_id a.out.promises)) refl, tt) h

      signal-may : (r : Plain) (a : pipe.Acts) → Keeps a (pipe.act_by_signal me r a)
      unfolding pipe.act_by_signal
      signal-may r a h =
          let b : pipe.Acts = pipe.abort_part r a.slots.prevent.abort a in
          let z : pipe.Acts = pipe.cancel_part r a.slots.prevent.cancel b in
          let qs : List PromiseId = pipe.parts_of a.slots.prevent a b in
          then-may z (pipe.waiting_for me qs ++ pipe.reacts _ _ ∷ []) (each-append Mays (pipe.waiting_for me qs) _ (waits-may qs) (tt, tt))
          (cancel_part-may r a.slots.prevent.cancel b (abort_part-may r a.slots.prevent.abort a h))

      abort-dest-may : (r : Plain) (a : pipe.Acts) (o : Option PromiseId) → Keeps a (pipe.abort_dest me r a o)
      abort-dest-may r a (Some p) h = then-may a _ (tt, tt) h
      abort-dest-may r a None h = then-may a _ (tt, (tt, tt)) h

      act_by-may : (ends : Ends) (a : pipe.Acts) (action : Option Action) → Keeps a (pipe.act_by me ends a action)
      act_by-may ends a None h = finalize-may a.slots.error a h
      act_by-may ends a (Some (AbortDest r)) h = abort-dest-may r a ends.dest_abort h
      act_by-may ends a (Some (CancelSource r)) h = then-may a _ (cancels a.slots.source (reads.Cancel r (next_id a.out.promises)) refl, (tt, tt)) h
      act_by-may ends a (Some CloseDest) h = then-may a _ (tt, (tt, tt)) h
      act_by-may ends a (Some (BySignal r)) h = signal-may r a h

      act-may : (ends : Ends) (a : pipe.Acts) → Keeps a (pipe.act me ends a)
      unfolding pipe.act
      act-may ends a h = act_by-may ends (pipe.with_slots (record a.slots { phase = Acting }) a) a.slots.action h

      proceed-may : (ends : Ends) (a : pipe.Acts) → Keeps a (pipe.proceed me ends a)
      unfolding pipe.proceed
      proceed-may ends a h =
          either (λ (z : pipe.Acts). Each Mays z.out.effects) (is_none a.slots.held && nat_eq a.slots.unsettled 0) (pipe.act me ends a) a (λ e. act-may ends a h) (λ e. h)

      down-may : (ends : Ends) (a : pipe.Acts) → Keeps a (pipe.shut_down me ends a)
      down-may ends a h =
          either (λ (z : pipe.Acts). Each Mays z.out.effects) (is_writable ends.dest_state && not ends.dest_closing)
          (pipe.proceed me ends (pipe.with_slots (record a.slots { phase = Waiting }) a)) (pipe.act me ends a)
          (λ e. proceed-may ends (pipe.with_slots (record a.slots { phase = Waiting }) a) h) (λ e. act-may ends a h)

      shutdown-may : (ends : Ends) (action : Option Action) (error : Option Plain) (a : pipe.Acts) → Keeps a (pipe.shutdown me ends action error a)
      unfolding pipe.shutdown
      shutdown-may ends action error a h =
          let b : pipe.Acts = pipe.with_slots (record a.slots { action = action; error = error }) a in
          either (λ (z : pipe.Acts). Each Mays z.out.effects) (pipe.is_flowing a.slots.phase) (pipe.shut_down me ends b) a (λ e. down-may ends b h) (λ e. h)

    whole-may : (o : _) (a : pipe.Acts) (w : Option PromiseId) → Keeps a (pipe.settle_whole o a w)
    whole-may o a None h = h
    whole-may o a (Some w) h = h

    -- the operations that are no looks
    pub pipe-may : (ends : Ends) (operation : PipeOperation) (a : pipe.Acts) → may_pipe cancelling operation ≡ true → Keeps a (pipe_operation me ends operation a)
    unfolding pipe.keep_chunk pipe.read_ended pipe.action_settled pipe.part_settled pipe.no_parts pipe.abort
    pipe-may ends (piping.KeepChunk v) a m h = h
    pipe-may ends piping.ReadEnded a m h = h
    pipe-may ends (piping.ActionSettled (Ok v)) a m h = finalize-may a.slots.error a h
    pipe-may ends (piping.ActionSettled (Err e)) a m h = finalize-may (Some e) a h
    pipe-may ends (piping.PartSettled (Ok v)) a m h =
        let b : pipe.Acts = pipe.with_slots (record a.slots { parts = a.slots.parts - 1 }) a in
        either (λ (z : pipe.Acts). Each Mays z.out.effects) (nat_eq b.slots.parts 0) (pipe.settle_whole (Ok Undefined) b b.slots.whole) b (λ e. whole-may _ b b.slots.whole h) (λ e. h)
    pipe-may ends (piping.PartSettled (Err e)) a m h = whole-may _ a a.slots.whole h
    pipe-may ends piping.NoParts a m h = whole-may _ a a.slots.whole h
    pipe-may ends (piping.Abort r) a m h = shutdown-may m ends (Some (BySignal r)) (Some r) a h
    pipe-may ends operation a m h = cc

  -- a look: it reads, or it cancels
  abbrev pub Looked : List Effect → Type 0
  Looked es = Each (May xs ps true false) es ⊎ Each (May xs ps false true) es

  abbrev Looks : pipe.Acts → Type 0
  Looks b = Looked b.out.effects

  nothing-looked : (a : pipe.Acts) → a.out.effects ≡ [] → Looks a
  nothing-looked a e = inl (rw e tt)

  cancel-looked : (a b : pipe.Acts) → a.out.effects ≡ [] → Keeps false true a b → Looks b
  cancel-looked a b e k = inr (k (rw e tt))

  wait-looked : (a : pipe.Acts) (o : Option PromiseId) → a.out.effects ≡ [] → Looks (pipe.wait_for_ready me a o)
  wait-looked a None e = nothing-looked a e
  wait-looked a (Some ready) e = inl (rw e (tt, tt))

  read-looked : (ends : Ends) (a : pipe.Acts) → a.out.effects ≡ [] → Looks (pipe.read_or_wait me ends a)
  read-looked ends a e =
      either Looks ends.dest_wants _ _ (λ w. inl (rw e (inr refl, tt)))
      (λ w. either Looks (not a.slots.waits && is_writable ends.dest_state) (pipe.wait_for_ready me a ends.dest_ready) a (λ f. wait-looked a ends.dest_ready e) (λ f. nothing-looked a e))

  down-looked : (ends : Ends) (action : Option Action) (error : Option Plain) (a : pipe.Acts) → a.out.effects ≡ [] → Looks (pipe.shutdown me ends action error a)
  down-looked ends action error a e = cancel-looked a (pipe.shutdown me ends action error a) e (shutdown-may false true refl ends action error a)

  open-looked : (ends : Ends) (a : pipe.Acts) (d : WritableState) → a.out.effects ≡ []
      → Looks (if ends.dest_closing || is_closed d then pipe.shutdown me ends (pipe.unless a.slots.prevent.cancel (CancelSource type_error)) (Some type_error) a
      else if a.slots.reading then a else pipe.read_or_wait me ends a)
  open-looked ends a d e =
      either Looks (ends.dest_closing || is_closed d) _ _ (λ c. down-looked ends _ _ a e)
      (λ c. either Looks a.slots.reading a (pipe.read_or_wait me ends a) (λ f. nothing-looked a e) (λ f. read-looked ends a e))

  look_by-looked : (ends : Ends) (a : pipe.Acts) (s : ReadableState) (d : WritableState) → a.out.effects ≡ [] → Looks (pipe.look_by me ends a s d)
  look_by-looked ends a Errored d e = down-looked ends _ _ a e
  look_by-looked ends a Closed WritableErrored e = down-looked ends _ _ a e
  look_by-looked ends a Closed Writable e = down-looked ends _ _ a e
  look_by-looked ends a Closed Erroring e = down-looked ends _ _ a e
  look_by-looked ends a Closed WritableClosed e = down-looked ends _ _ a e
  look_by-looked ends a Readable WritableErrored e = down-looked ends _ _ a e
  look_by-looked ends a Readable Writable e = open-looked ends a Writable e
  look_by-looked ends a Readable Erroring e = open-looked ends a Erroring e
  look_by-looked ends a Readable WritableClosed e = open-looked ends a WritableClosed e

  look-looked : (ends : Ends) (a : pipe.Acts) → a.out.effects ≡ [] → Looks (pipe.look me ends a)
  unfolding pipe.look
  look-looked ends a e =
      either Looks (pipe.is_flowing a.slots.phase) (pipe.look_by me ends a ends.source_state ends.dest_state) a
      (λ f. look_by-looked ends a ends.source_state ends.dest_state e) (λ f. nothing-looked a e)

  go-looked : (ends : Ends) (a : pipe.Acts) (phase : Phase) → a.out.effects ≡ [] → Looks (pipe.go_on_in me ends a phase)
  go-looked ends a Flowing e = look-looked ends a e
  go-looked ends a Waiting e = cancel-looked a (pipe.proceed me ends a) e (proceed-may false true refl ends a)
  go-looked ends a Acting e = nothing-looked a e
  go-looked ends a PipeOver e = nothing-looked a e

-- what stands while no pipe has looked: one may yet look

abbrev pub IsLook : Effect → Type 0
IsLook (OnPipe p operation) = looks operation ≡ true
IsLook _ = ⊥

module _ (xs : List StreamShape) (ps : List PortShape) where
  abbrev pub Calm : Effect → Type 0
  Calm = May xs ps false false

  abbrev pub Leads : List Effect → Type 0
  Leads [] = Unit {0}
  Leads (e ∷ es) = (Calm e × Leads es) ⊎ (IsLook e × Each Calm es)

  pub calm-leads : (es : List Effect) → Each Calm es → Leads es
  calm-leads [] c = tt
  calm-leads (e ∷ es) c = inl (c.0, calm-leads es c.1)

  pub leads-behind : (es fs : List Effect) → Each Calm es → Leads fs → Leads (es ++ fs)
  leads-behind [] fs c l = l
  leads-behind (e ∷ es) fs c l = inl (c.0, leads-behind es fs c.1 l)

  pub leads-before : (es fs : List Effect) → Leads es → Each Calm fs → Leads (es ++ fs)
  leads-before [] fs l c = calm-leads fs c
  leads-before (e ∷ es) fs (inl k) c = inl (k.0, leads-before es fs k.1 c)
  leads-before (e ∷ es) fs (inr k) c = inr (k.0, each-append Calm es fs k.1 c)

  -- what may be read and cancelled may be where more may
  true-and : (a b : Bool) → a && b ≡ true → (a ≡ true) × (b ≡ true)
  true-and a b e = (grind arith, grind arith)

  pub calm-may : (reading cancelling : Bool) (e : Effect) → Calm e → May xs ps reading cancelling e
  calm-may reading cancelling (OnReadable i operation) (inl n) = inl n
  calm-may reading cancelling (OnReadable i operation) (inr m) = inr (more operation m)
    where
      more : (operation : ReadableOperation) → may_read false false operation ≡ true → may_read reading cancelling operation ≡ true
      more (reads.Read q) m = cc
      more (reads.Enqueue v) m = cc
      more (reads.StartSettled o) m = cc
      more (reads.PullSettled o) m = cc
      more (reads.Cancel r p) m = cc
      more (reads.CancelIfReadable r p) m = cc
      more operation m = refl
  calm-may reading cancelling (OnWritable i (writes.HandOn (ToPort c d))) m = absurd m
  calm-may reading cancelling (OnPipe p (piping.Abort r)) m = cc
  calm-may reading cancelling (OnPipe p operation) m = m
  calm-may reading cancelling (OnSignal a (Trigger r)) m = cc
  calm-may reading cancelling (OnTee t tees.PullBranch) m = cc
  calm-may reading cancelling (OnTee t tees.HandChunk) m = cc
  calm-may reading cancelling (OnTee t tees.Handed) m = cc
  calm-may reading cancelling (OnTee t (tees.CancelBranch half r u)) m = cc
  calm-may reading cancelling (OnTee t operation) m = refl
  calm-may reading cancelling (OnPort c ports.Pull) m = cc
  calm-may reading cancelling (OnPort c (ports.Deliver v)) m = cc
  calm-may reading cancelling (OnPort c (ports.Leave r u)) (inl n) = cc
  calm-may reading cancelling (OnPort c (ports.Leave r u)) (inr side) = inr side
  calm-may reading cancelling (OnPort c (ports.WriteGoesOn d)) m = absurd m
  calm-may reading cancelling (OnPort c (ports.PostChunk v d)) m = absurd m
  calm-may reading cancelling (PullAlgorithm i) (inl n) = cc
  calm-may reading cancelling (PullAlgorithm i) (inr n) = inr n
  calm-may reading cancelling (CancelAlgorithm i r p) (inl n) = cc
  calm-may reading cancelling (CancelAlgorithm i r p) (inr n) = inr n
  calm-may reading cancelling (AbortAlgorithm i r p) m = m
  calm-may reading cancelling e m = tt

  -- what a pipe that looks, or comes to look, leaves standing
  abbrev pub Turned : List Effect → Type 0
  Turned es = Leads es ⊎ (Each (May xs ps true false) es ⊎ Each (May xs ps false true) es)

  turned : (me : PipeId) (es : List Effect) → Looked xs ps me es → Turned es
  turned me es l = inr l

  written-turned : (me : PipeId) (a : pipe.Acts) (o : Option Value) → a.out.effects ≡ [] → Turned (pipe.write_held me a o).out.effects
  written-turned me a None e = inl (rw e tt)
  written-turned me a (Some v) e = by a.slots.phase
    where
      by : (phase : Phase) → Turned (pipe.write_in me v (pipe.with_slots (record a.slots { held = None; reading = false }) a) phase).out.effects
      by Flowing = inl (rw e (inl (tt, inl (tt, inr (refl, tt)))))
      by Waiting = inl (rw e (inl (tt, inl (tt, inr (refl, tt)))))
      by Acting = inl (rw e tt)
      by PipeOver = inl (rw e tt)

  pub look-turned : (me : PipeId) (ends : Ends) (operation : PipeOperation) (a : pipe.Acts) → looks operation ≡ true → a.out.effects ≡ [] → Turned (pipe_operation me ends operation a).out.effects
  unfolding pipe.look_ready pipe.go_on pipe.write_chunk pipe.write_ended
  look-turned me ends piping.Look a l e = turned me _ (look-looked xs ps me ends a e)
  look-turned me ends piping.LookReady a l e = turned me _ (look-looked xs ps me ends (pipe.with_slots (record a.slots { waits = false }) a) e)
  look-turned me ends piping.GoOn a l e = turned me _ (go-looked xs ps me ends a a.slots.phase e)
  look-turned me ends piping.WriteEnded a l e =
      let b : pipe.Acts = pipe.with_slots (record a.slots { unsettled = a.slots.unsettled - 1 }) a in turned me _ (go-looked xs ps me ends b b.slots.phase e)
  look-turned me ends piping.WriteChunk a l e = written-turned me a a.slots.held e
  look-turned me ends operation a l e = cc
