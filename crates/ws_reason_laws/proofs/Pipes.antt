-- Operations of a pipe keep that nothing bad stands in it, in the promises and in what they cause: where its new promises hand on, but for that
-- of a write, which may be rejected with anything; and where the pipe that is looked at never finds the destination closing or closed.
use Rattle.std.proofs.Common.{◌≡◌, ℕ, ◌+◌, ◌-◌, ◌≤◌, ◌<◌, Bool, true, false, not, ◌&&◌, ◌||◌, nat_eq, is_none, [], ◌∷◌, ◌++◌, Option, Some, None, Result, Ok, Err, refl, subst, arith}
use Rattle.ws_value.specs.declared.ids.PipeId.{PipeId}
use Rattle.ws_value.specs.declared.ids.PromiseId.{PromiseId}
use Rattle.ws_value.specs.declared.ids.SignalId.{SignalId}
use Rattle.ws_value.specs.declared.ids.StreamId.{StreamId}
use Rattle.ws_value.specs.declared.value.Plain.{Plain}
use Rattle.ws_value.specs.declared.value.Plain.TheVariants.{Undefined}
use Rattle.ws_value.specs.declared.value.Value.{Value}
use Rattle.ws_steps.specs.declared.effects.Effect.{Effect}
use Rattle.ws_steps.specs.declared.effects.Effect.TheVariants.{Readable as OnReadable, Writable as OnWritable}
use Rattle.ws_steps.specs.declared.pipes.Action.{Action}
use Rattle.ws_steps.specs.declared.pipes.Action.TheVariants.{AbortDest, CancelSource, CloseDest, BySignal}
use Rattle.ws_steps.specs.declared.pipes.Ends.{Ends}
use Rattle.ws_steps.specs.declared.pipes.Phase.{Phase}
use Rattle.ws_steps.specs.declared.pipes.Phase.TheVariants.{Flowing, Waiting, Acting, Over}
use Rattle.ws_steps.specs.declared.pipes.PipeOperation.{PipeOperation}
use Rattle.ws_steps.specs.declared.pipes.PipeOperation.TheVariants as names
use Rattle.ws_steps.specs.declared.promises.Micro.TheVariants.{PipeLook, PipeWrite}
use Rattle.ws_steps.specs.declared.readable.ReadableOperation.TheVariants.{Cancel}
use Rattle.ws_steps.specs.declared.readable.ReadableState.{ReadableState}
use Rattle.ws_steps.specs.declared.readable.ReadableState.TheVariants.{Readable, Closed, Errored}
use Rattle.ws_steps.specs.declared.writable.WritableOperation.TheVariants.{Abort, ClosePropagating}
use Rattle.ws_steps.specs.declared.writable.WritableState.{WritableState}
use Rattle.ws_steps.specs.declared.writable.WritableState.TheVariants as dest
use Rattle.ws_steps.specs.Effects.{type_error}
use Rattle.ws_steps.specs.Operations.{pipe_operation}
use Rattle.ws_steps.specs.Promises.{fresh, next_id}
use Rattle.ws_steps.specs.Pipes.{Slots, Acts, with_slots, ending, forgetting, finalize, abort_dest, act_with, abort_part, cancel_part, part, wait_for_all, act_by_signal, act_by, act, proceed, is_flowing, shutdown, unless, wait_for_ready, read_or_wait, look_by, look, look_ready, go_on_in, go_on, keep_chunk, read_ended, write, write_in, write_held, write_chunk, write_ended, action_settled, settle_whole, part_settled, no_parts, abort}
use Rattle.ws_steps.specs.Writable.{is_writable, is_closed}
use Rattle.ws_laws.proofs.Tables.{either}
use Rattle.ws_reason_laws.proofs.InTable.{settle-good, fresh-keeps, micro-keeps, fresh-count}
use Rattle.ws_reason_laws.proofs.Readables.{effects-append}
use Rattle.ws_reason_laws.proofs.Weights.{Class, of_result, cancelled, loud, soft, loud_one, settles, of_pipe, of_error, in_table, in_effects, in_action, in_pipe, minds, in_ends, count}

abbrev pub size : Acts → ℕ
size a = count a.out.promises

-- the promise of a write may be rejected with anything, and the others hand on
abbrev pub hands_on : PipeOperation → Bool
hands_on names.WriteChunk = false
hands_on _ = true

-- the pipe doesn't find its destination closing or closed while it flows and the source is readable, where it minds
abbrev pub Finds : Bool → Ends → Slots → Type 0
Finds cares ends x = cares ≡ true → is_flowing x.phase ≡ true → ends.source_state ≡ Readable → (ends.dest_closing || is_closed ends.dest_state) ≡ false

module _ (k : Class) (me : PipeId) (ends : Ends) (found : in_ends k ends ≡ 0) (m : ℕ) where
  abbrev Minds : Slots → Bool
  Minds x = minds k.bad k.half k.me me x.source x.prevent

  -- nothing bad stands in it
  abbrev Good : Acts → Type 0
  Good a = in_pipe k me.0 a.slots + (in_table k a.out.promises + in_effects k a.out.effects) ≡ 0

  -- with `m` promises after it
  abbrev Ending : Acts → Type 0
  Ending z = size z ≤ m → Good z

  -- the promises from this number on hand on
  abbrev Louds : ℕ → Type 0
  Louds n = (i : ℕ) → n ≤ i → i < m → loud k i ≡ 0

  ends_well : (x : Slots) (e : Option Plain) → of_error k me.0 x.promise e ≡ 0 → settles k x.promise.0 (ending e) ≡ 0
  ends_well x e h = grind (arith, h)

  forgets : (signal : Option SignalId) → in_effects k (forgetting me signal) ≡ 0
  forgets signal = grind arith

  finalize-good : (e : Option Plain) (a : Acts) → settles k a.slots.promise.0 (ending e) ≡ 0 → Good a → Good (finalize me e a)
  unfolding finalize
  finalize-good e a z h = grind (arith, h, z, effects-append, forgets)

  with-good : (effect : PromiseId → Effect) (a : Acts) → Louds (size a) → ((p : PromiseId) → loud k p.0 ≡ 0 → in_effects k (effect p ∷ []) ≡ 0) → Good a → Ending (act_with me effect a)
  with-good effect a l f h q =
      let c = fresh-count a.out.promises in
      let one : loud k (size a) ≡ 0 = l (size a) (omega arith) (omega (arith, c, q)) in
      let e = f (record { 0 = size a }) one in
      let s = fresh-keeps k a.out.promises (omega (arith, h)) in
      grind (arith, h, one, e, s, effects-append)

  -- what a signal does, where this is prevented
  abbrev By : Plain → Acts → Bool → Bool → Acts
  By r a x y =
      let b : Acts = abort_part r x a in
      wait_for_all me (part x (next_id a.out.promises) ++ part y (next_id b.out.promises)) (cancel_part r y b)

  signal_by-good : (r : Plain) (a : Acts) (x y : Bool) → k.bad r ≡ 0 → Louds (size a) → Good a → Ending (By r a x y)
  signal_by-good r a true true b l h q =
      let t = a.out.promises in
      let c = fresh-count t in
      let one : loud k (count t) ≡ 0 = l (count t) (omega arith) (omega (arith, c, q)) in
      let s = fresh-keeps k t (omega (arith, h)) in
      grind (arith, h, one, s, effects-append)
  signal_by-good r a false true b l h q =
      let t = a.out.promises in
      let c = fresh-count t in
      let d = fresh-count (fresh t) in
      let one : loud k (count t) ≡ 0 = l (count t) (omega arith) (omega (arith, c, d, q)) in
      let two : loud k (count (fresh t)) ≡ 0 = l (count (fresh t)) (omega (arith, c)) (omega (arith, d, q)) in
      let s = fresh-keeps k (fresh t) (fresh-keeps k t (omega (arith, h))) in
      grind (arith, h, b, one, two, s, effects-append)
  signal_by-good r a true false b l h q =
      let t = a.out.promises in
      let c = fresh-count t in
      let d = fresh-count (fresh t) in
      let one : loud k (count t) ≡ 0 = l (count t) (omega arith) (omega (arith, c, d, q)) in
      let two : loud k (count (fresh t)) ≡ 0 = l (count (fresh t)) (omega (arith, c)) (omega (arith, d, q)) in
      let s = fresh-keeps k (fresh t) (fresh-keeps k t (omega (arith, h))) in
      grind (arith, h, one, two, s, effects-append)
  signal_by-good r a false false b l h q =
      let t = a.out.promises in
      let c = fresh-count t in
      let d = fresh-count (fresh t) in
      let e = fresh-count (fresh (fresh t)) in
      let one : loud k (count t) ≡ 0 = l (count t) (omega arith) (omega (arith, c, d, e, q)) in
      let two : loud k (count (fresh t)) ≡ 0 = l (count (fresh t)) (omega (arith, c)) (omega (arith, d, e, q)) in
      let three : loud k (count (fresh (fresh t))) ≡ 0 = l (count (fresh (fresh t))) (omega (arith, c, d)) (omega (arith, e, q)) in
      let s = fresh-keeps k (fresh (fresh t)) (fresh-keeps k (fresh t) (fresh-keeps k t (omega (arith, h)))) in
      grind (arith, h, b, one, two, three, s, effects-append)

  signal-good : (r : Plain) (a : Acts) → k.bad r ≡ 0 → Louds (size a) → Good a → Ending (act_by_signal me r a)
  unfolding act_by_signal
  signal-good r a b l h q = signal_by-good r a a.slots.prevent.abort a.slots.prevent.cancel b l h q

  act_by-good : (a : Acts) (action : Option Action) → in_action k a.slots.source action ≡ 0 → Louds (size a) → Good a → Ending (act_by me ends a action)
  act_by-good a None b l h = λ q. finalize-good a.slots.error a (ends_well a.slots a.slots.error (omega (arith, h))) h
  act_by-good a (Some (AbortDest r)) b l h = by ends.dest_abort refl
    where
      by : (p : Option PromiseId) → ends.dest_abort ≡ p → Ending (abort_dest me r a p)
      by (Some p) e = λ q.
          let z : loud_one k (Some p) ≡ 0 = subst (λ (x : Option PromiseId). loud_one k x ≡ 0) e (omega (arith, found)) in
          grind (arith, h, z, effects-append)
      by None e = with-good (λ p. OnWritable a.slots.dest (Abort r p)) a l (λ p z. omega (arith, z, b)) h
  act_by-good a (Some (CancelSource r)) b l h = with-good (λ p. OnReadable a.slots.source (Cancel r p)) a l (λ p z. omega (arith, b)) h
  act_by-good a (Some CloseDest) b l h = with-good (λ p. OnWritable a.slots.dest (ClosePropagating p)) a l (λ p z. refl) h
  act_by-good a (Some (BySignal r)) b l h = signal-good r a b l h

  act-good : (a : Acts) → Louds (size a) → Good a → Ending (act me ends a)
  unfolding act
  act-good a l h = act_by-good (with_slots (record a.slots { phase = Acting }) a) a.slots.action (omega (arith, h)) l h

  proceed-good : (a : Acts) → Louds (size a) → Good a → Ending (proceed me ends a)
  unfolding proceed
  proceed-good a l h = either Ending (is_none a.slots.held && nat_eq a.slots.unsettled 0) _ _ (λ e. act-good a l h) (λ e q. h)

  shutdown-good : (action : Option Action) (e : Option Plain) (a : Acts) → in_action k a.slots.source action ≡ 0 → of_error k me.0 a.slots.promise e ≡ 0 → Louds (size a) → Good a → Ending (shutdown me ends action e a)
  unfolding shutdown
  shutdown-good action e a b c l h =
      let z : Acts = with_slots (record a.slots { action = action; error = e }) a in
      let g : Good z = omega (arith, h, b, c) in
      either Ending (is_flowing a.slots.phase) _ _
      (λ f. either Ending (is_writable ends.dest_state && not ends.dest_closing) _ _ (λ w. proceed-good (with_slots (record z.slots { phase = Waiting }) z) l g) (λ w. act-good z l g))
      (λ f q. h)

  good_cancelled : (i : StreamId) (r : Plain) → k.bad r ≡ 0 → cancelled k i r ≡ 0
  good_cancelled i r h = grind (arith, h)

  unless-good : (b : Bool) (source : StreamId) (action : Action) → in_action k source (Some action) ≡ 0 → in_action k source (unless b action) ≡ 0
  unless-good true source action h = refl
  unless-good false source action h = h

  -- a pipe that doesn't mind cancels its source with a TypeError where that isn't bad
  fair-good : (x : Slots) → Minds x ≡ false → in_action k x.source (unless x.prevent.cancel (CancelSource type_error)) ≡ 0
  fair-good x n = grind (arith, n)

  type-error : (x : Slots) → Minds x ≡ false → in_pipe k me.0 x ≡ 0 → of_error k me.0 x.promise (Some type_error) ≡ 0
  type-error x n h = grind (arith, n, h)

  ready-good : (a : Acts) (ready : Option PromiseId) → Good a → Good (wait_for_ready me a ready)
  ready-good a None h = h
  ready-good a (Some ready) h = grind (arith, h, effects-append)

  read-good : (a : Acts) → Good a → Good (read_or_wait me ends a)
  read-good a h =
      either Good ends.dest_wants _ _ (λ e. grind (arith, h, effects-append))
      (λ e. either Good (not a.slots.waits && is_writable ends.dest_state) _ _ (λ f. ready-good a ends.dest_ready h) (λ f. h))

  -- an error of the pipe weighs where it is the one that is looked at
  good_error : (x : Slots) (r : Plain) → in_pipe k me.0 x ≡ 0 → k.bad r ≡ 0 → of_error k me.0 x.promise (Some r) ≡ 0
  good_error x r h b = grind (arith, h, b)

  no_error : (x : Slots) → in_pipe k me.0 x ≡ 0 → of_error k me.0 x.promise None ≡ 0
  no_error x h = grind (arith, h)

  look_by-good : (a : Acts) (s : ReadableState) (d : WritableState) → ends.source_state ≡ s → ends.dest_state ≡ d → is_flowing a.slots.phase ≡ true → Finds (Minds a.slots) ends a.slots → Louds (size a) → Good a → Ending (look_by me ends a s d)
  look_by-good a Errored d e f w c l h =
      let b : k.bad ends.source_error ≡ 0 = grind (arith, found, e) in
      shutdown-good _ _ a (unless-good a.slots.prevent.abort a.slots.source (AbortDest ends.source_error) b) (good_error a.slots ends.source_error (omega (arith, h)) b) l h
  look_by-good a Readable dest.Errored e f w c l h =
      let b : k.bad ends.dest_error ≡ 0 = grind (arith, found, f) in
      shutdown-good _ _ a (unless-good a.slots.prevent.cancel a.slots.source (CancelSource ends.dest_error) (good_cancelled a.slots.source ends.dest_error b)) (good_error a.slots ends.dest_error (omega (arith, h)) b) l h
  look_by-good a Closed dest.Errored e f w c l h =
      let b : k.bad ends.dest_error ≡ 0 = grind (arith, found, f) in
      shutdown-good _ _ a (unless-good a.slots.prevent.cancel a.slots.source (CancelSource ends.dest_error) (good_cancelled a.slots.source ends.dest_error b)) (good_error a.slots ends.dest_error (omega (arith, h)) b) l h
  look_by-good a Closed dest.Writable e f w c l h = shutdown-good _ _ a (unless-good a.slots.prevent.close a.slots.source CloseDest refl) (no_error a.slots (omega (arith, h))) l h
  look_by-good a Closed dest.Erroring e f w c l h = shutdown-good _ _ a (unless-good a.slots.prevent.close a.slots.source CloseDest refl) (no_error a.slots (omega (arith, h))) l h
  look_by-good a Closed dest.Closed e f w c l h = shutdown-good _ _ a (unless-good a.slots.prevent.close a.slots.source CloseDest refl) (no_error a.slots (omega (arith, h))) l h
  look_by-good a Readable d e f w c l h =
      either Ending (ends.dest_closing || is_closed d) _ _
      (λ z.
      let n : Minds a.slots ≡ false = other (Minds a.slots) refl z in
      shutdown-good _ _ a (fair-good a.slots n) (type-error a.slots n (omega (arith, h))) l h)
      (λ z. either Ending a.slots.reading _ _ (λ r q. h) (λ r q. read-good a h))
    where
      other : (b : Bool) → Minds a.slots ≡ b → (ends.dest_closing || is_closed d) ≡ true → Minds a.slots ≡ false
      other false n z = n
      other true n z = let y = c n w e in grind (arith, y, z, f)

  look-good : (a : Acts) → Finds (Minds a.slots) ends a.slots → Louds (size a) → Good a → Ending (look me ends a)
  unfolding look
  look-good a c l h =
      either Ending (is_flowing a.slots.phase) _ _ (λ w. look_by-good a ends.source_state ends.dest_state refl refl w c l h) (λ w q. h)

  go_on-good : (a : Acts) (phase : Phase) → Finds (Minds a.slots) ends a.slots → Louds (size a) → Good a → Ending (go_on_in me ends a phase)
  go_on-good a Flowing c l h = look-good a c l h
  go_on-good a Waiting c l h = proceed-good a l h
  go_on-good a Acting c l h = λ q. h
  go_on-good a Over c l h = λ q. h

  -- the promise of a write may be rejected with anything

  abbrev Softs : ℕ → Type 0
  Softs n = (i : ℕ) → n ≤ i → i < m → soft k i ≡ 0

  write-good : (v : Value) (a : Acts) → Softs (size a) → Good a → Ending (write me v a)
  write-good v a l h q =
      let c = fresh-count a.out.promises in
      let one : soft k (size a) ≡ 0 = l (size a) (omega arith) (omega (arith, c, q)) in
      let s = fresh-keeps k a.out.promises (omega (arith, h)) in
      grind (arith, h, one, s, effects-append)

  held-good : (a : Acts) (held : Option Value) → Softs (size a) → Good a → Ending (write_held me a held)
  held-good a None l h = λ q. h
  held-good a (Some v) l h = by a.slots.phase
    where
      by : (phase : Phase) → Ending (write_in me v (with_slots (record a.slots { held = None; reading = false }) a) phase)
      by Flowing = write-good v (with_slots (record a.slots { held = None; reading = false }) a) l h
      by Waiting = write-good v (with_slots (record a.slots { held = None; reading = false }) a) l h
      by Acting = λ q. h
      by Over = λ q. h

  whole-good : (o : Result Plain Plain) (a : Acts) (w : Option PromiseId) → of_result k o ≡ 0 → Good a → Good (settle_whole o a w)
  whole-good o a None b h = h
  whole-good o a (Some w) b h = let s = settle-good k w o a.out.promises (omega (arith, h)) b in omega (arith, h, s)

  louds : (n : ℕ) → ((i : ℕ) → n ≤ i → i < m → k.hands i ≡ true) → Louds n
  louds n f i a b = let e = f i a b in grind (arith, e)

  softs : (n : ℕ) → ((i : ℕ) → n ≤ i → i < m → k.hands i ≡ false) → Softs n
  softs n f i a b = let e = f i a b in grind (arith, e)

  pub pipe-good : (operation : PipeOperation) (a : Acts) → of_pipe k operation ≡ 0 → Finds (Minds a.slots) ends a.slots → ((i : ℕ) → size a ≤ i → i < m → k.hands i ≡ hands_on operation) → Good a → Ending (pipe_operation me ends operation a)
  unfolding look_ready go_on keep_chunk read_ended write_chunk write_ended action_settled part_settled no_parts abort
  pipe-good names.Look a f c l h = look-good a c (louds (size a) l) h
  pipe-good names.LookReady a f c l h = look-good (with_slots (record a.slots { waits = false }) a) c (louds (size a) l) h
  pipe-good (names.KeepChunk v) a f c l h = λ q. let s = micro-keeps k (PipeWrite me) a.out.promises (omega (arith, h)) in omega (arith, h, s)
  pipe-good names.ReadEnded a f c l h = λ q. let s = micro-keeps k (PipeLook me) a.out.promises (omega (arith, h)) in omega (arith, h, s)
  pipe-good names.WriteChunk a f c l h = held-good a a.slots.held (softs (size a) l) h
  pipe-good names.GoOn a f c l h = go_on-good a a.slots.phase c (louds (size a) l) h
  pipe-good names.WriteEnded a f c l h = go_on-good (with_slots (record a.slots { unsettled = a.slots.unsettled - 1 }) a) a.slots.phase c (louds (size a) l) h
  pipe-good (names.Abort r) a f c l h = shutdown-good (Some (BySignal r)) (Some r) a f (good_error a.slots r (omega (arith, h)) f) (louds (size a) l) h
  pipe-good (names.ActionSettled (Ok v)) a f c l h = λ q. finalize-good a.slots.error a (ends_well a.slots a.slots.error (omega (arith, h))) h
  pipe-good (names.ActionSettled (Err e)) a f c l h = λ q. finalize-good (Some e) a (grind (arith, f)) h
  pipe-good (names.PartSettled (Ok v)) a f c l h = λ q.
      let b : Acts = with_slots (record a.slots { parts = a.slots.parts - 1 }) a in
      either Good (nat_eq b.slots.parts 0) _ _ (λ e. whole-good (Ok Undefined) b b.slots.whole refl h) (λ e. h)
  pipe-good (names.PartSettled (Err e)) a f c l h = λ q. whole-good (Err e) a a.slots.whole f h
  pipe-good names.NoParts a f c l h = λ q. whole-good (Ok Undefined) a a.slots.whole refl h
