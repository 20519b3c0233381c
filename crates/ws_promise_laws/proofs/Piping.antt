-- Each operation on a pipe settles open promises alone.
use Rattle.std.proofs.Common.{◌≡◌, ℕ, ◌+◌, ◌-◌, ◌≤◌, Bool, true, false, not, ◌&&◌, ◌||◌, nat_eq, is_none, if◌then◌else◌, List, [], ◌∷◌, ◌++◌, Option, Some, None, Result, Ok, Err, refl, sym, ap, arith}
use Rattle.ws_value.specs.declared.ids.PipeId.{PipeId}
use Rattle.ws_value.specs.declared.ids.PromiseId.{PromiseId}
use Rattle.ws_value.specs.declared.ids.SignalId.{SignalId}
use Rattle.ws_value.specs.declared.value.Plain.{Plain}
use Rattle.ws_value.specs.declared.value.Plain.TheVariants.{Undefined}
use Rattle.ws_value.specs.declared.value.Value.{Value}
use Rattle.ws_steps.specs.declared.effects.Effect.{Effect}
use Rattle.ws_steps.specs.declared.effects.Effect.TheVariants.{Readable as OnReadable, Writable as OnWritable, Pipe as OnPipe, Settle}
use Rattle.ws_steps.specs.declared.pipes.{Action.{Action}, Action.TheVariants.{AbortDest, CancelSource, CloseDest, BySignal}, Ends.{Ends}, Phase.{Phase}, Phase.TheVariants.{Flowing, Waiting, Acting, Over}}
use Rattle.ws_steps.specs.declared.pipes.{PipeOperation.{PipeOperation}, PipeOperation.TheVariants.{Look, LookReady, KeepChunk, ReadEnded, WriteChunk, GoOn, WriteEnded, Abort as AbortPipe, ActionSettled, PartSettled, NoParts}}
use Rattle.ws_steps.specs.declared.promises.{Micro.{Micro}, Micro.TheVariants.{PipeLook, PipeWrite}, Step.TheVariants.{PipeReady, PipeActed, PipeWrote}}
use Rattle.ws_steps.specs.declared.readable.{ReadRequest.TheVariants.{Pipe as PipeRequest}, ReadableOperation.TheVariants.{ReleaseReader, Read, Cancel, CancelIfReadable}, ReadableState.{ReadableState}, ReadableState.TheVariants.{Readable, Closed, Errored}}
use Rattle.ws_steps.specs.declared.writable.{WritableOperation.TheVariants.{ReleaseWriter, Write, ClosePropagating, Abort, AbortIfWritable}, WritableState.{WritableState}, WritableState.TheVariants.{Writable, Erroring, Errored as WritableErrored, Closed as WritableClosed}}
use Rattle.ws_steps.specs.Effects.{type_error}
use Rattle.ws_steps.specs.Operations.{pipe_operation}
use Rattle.ws_steps.specs.Pipes.{Slots, Acts, causing, with_slots, queueing, reacts, forgetting, ending, finalize, act_with, abort_dest, abort_part, cancel_part, parts_of, reacts_to_all, waiting_for, wait_for_all, act_by_signal, act_by, act, proceed, is_flowing, shut_down, shutdown, unless, wait_for_ready, read_or_wait, look_by, look, look_ready, go_on_in, go_on, keep_chunk, read_ended, write, write_in, write_held, write_chunk, write_ended, action_settled, settle_whole, part_settled, no_parts, abort}
use Rattle.ws_steps.specs.Promises.{fresh, next_id, settle}
use Rattle.ws_steps.specs.Writable.{is_writable, is_closed}
use Rattle.ws_laws.proofs.Tables.{either}
use Rattle.ws_promise_laws.proofs.Holds.{holds-less}
use Rattle.ws_promise_laws.proofs.Reacting.{holds-micro}
use Rattle.ws_promise_laws.proofs.Settling.{holds-settle, holds-fresh}
use Rattle.ws_promise_laws.proofs.Streams.{goes_on, in_pipe, Pipes}
use Rattle.ws_promise_laws.proofs.Tokens.{names, in_effects, in_effects-append}

-- how often a promise stands in the pipe and its effects
abbrev here : PromiseId → Acts → ℕ
here x a = in_pipe x a.slots + in_effects x a.out.effects

module _ (me : PipeId) (f l : PromiseId → ℕ) where
  -- nothing is settled, and no promise stands more often than it did
  quiet : (a b : Acts) → b.out.promises ≡ a.out.promises → ((x : PromiseId) → here x b ≤ here x a) → Pipes f l a → Pipes f l b
  quiet a b e n k = rw e (holds-less (λ x. f x + here x a) l (λ x. f x + here x b) l a.out.promises k (λ x. let m = n x in omega (arith, m)) (λ x. let m = n x in omega (arith, m)))

  -- a promise is made
  making : (a b : Acts) → b.out.promises ≡ fresh a.out.promises → ((x : PromiseId) → here x b ≤ here x a + names x (next_id a.out.promises)) → Pipes f l a → Pipes f l b
  making a b e n k = rw e (holds-fresh (λ x. f x + here x a) l (λ x. f x + here x b) l a.out.promises k (λ x. let m = n x in omega (arith, m)) (λ x. let m = n x in omega (arith, m)))

  -- a promise is settled, and stands there no more
  settling : (q : PromiseId) (o : Result Plain Plain) (a b : Acts) → b.out.promises ≡ settle q o a.out.promises → ((x : PromiseId) → here x b + names x q ≤ here x a) → Pipes f l a → Pipes f l b
  settling q o a b e n k = rw e (holds-settle (λ x. f x + here x a) l (λ x. f x + here x b) l q o a.out.promises k (λ x. let m = n x in omega (arith, m)) (λ x. let m = n x in omega (arith, m)))

  -- the end

  in_forgetting : (x : PromiseId) (signal : Option SignalId) → in_effects x (forgetting me signal) ≡ 0
  in_forgetting x None = refl
  in_forgetting x (Some a) = refl

  finalized : (error : Option Plain) (a : Acts) → goes_on a.slots.phase ≡ true → Pipes f l a → Pipes f l (finalize me error a)
  unfolding finalize
  finalized error a e k =
      let last : List Effect = Settle a.slots.promise (ending error) ∷ [] in
      quiet a (finalize me error a) refl
      (λ x.
      let b = in_effects-append x a.out.effects (OnWritable a.slots.dest ReleaseWriter ∷ OnReadable a.slots.source ReleaseReader ∷ (forgetting me a.slots.signal ++ last)) in
      let c = in_effects-append x (forgetting me a.slots.signal) last in
      let d = in_forgetting x a.slots.signal in
      rw e (omega (arith, b, c, d))) k

  -- the action

  acts_with : (effect : PromiseId → Effect) (a : Acts) → ((x q : PromiseId) → in_effects x (effect q ∷ []) ≡ names x q + 0) → Pipes f l a → Pipes f l (act_with me effect a)
  acts_with effect a n k =
      let q : PromiseId = next_id a.out.promises in
      making a (act_with me effect a) refl (λ x. let m = n x q in let c = in_effects-append x a.out.effects (effect q ∷ reacts q (PipeActed me) ∷ []) in omega (arith, m, c)) k

  aborts : (r : Plain) (a : Acts) (p : Option PromiseId) → Pipes f l a → Pipes f l (abort_dest me r a p)
  aborts r a (Some p) k = quiet a (abort_dest me r a (Some p)) refl (λ x. let c = in_effects-append x a.out.effects (reacts p (PipeActed me) ∷ []) in omega (arith, c)) k
  aborts r a None k = acts_with (λ p. OnWritable a.slots.dest (Abort r p)) a (λ x q. refl) k

  abort_parts : (r : Plain) (prevented : Bool) (a : Acts) → Pipes f l a → Pipes f l (abort_part r prevented a)
  abort_parts r true a k = k
  abort_parts r false a k =
      let q : PromiseId = next_id a.out.promises in
      making a (abort_part r false a) refl (λ x. let c = in_effects-append x a.out.effects (OnWritable a.slots.dest (AbortIfWritable r q) ∷ []) in omega (arith, c)) k

  cancel_parts : (r : Plain) (prevented : Bool) (a : Acts) → Pipes f l a → Pipes f l (cancel_part r prevented a)
  cancel_parts r true a k = k
  cancel_parts r false a k =
      let q : PromiseId = next_id a.out.promises in
      making a (cancel_part r false a) refl (λ x. let c = in_effects-append x a.out.effects (OnReadable a.slots.source (CancelIfReadable r q) ∷ []) in omega (arith, c)) k

  in_reacts : (x : PromiseId) (ps : List PromiseId) → in_effects x (reacts_to_all me ps) ≡ 0
  in_reacts x [] = refl
  in_reacts x (p ∷ ps) = let n = in_reacts x ps in omega (arith, n)

  in_waiting : (x : PromiseId) (ps : List PromiseId) → in_effects x (waiting_for me ps) ≡ 0
  in_waiting x [] = refl
  in_waiting x (p ∷ ps) = in_reacts x (p ∷ ps)

  -- the new promise of them all stands in the pipe
  waits : (ps : List PromiseId) (a : Acts) → Pipes f l a → Pipes f l (wait_for_all me ps a)
  waits ps a k =
      let w : PromiseId = next_id a.out.promises in
      let last : List Effect = reacts w (PipeActed me) ∷ [] in
      making a (wait_for_all me ps a) refl
      (λ x.
      let b = in_effects-append x a.out.effects (waiting_for me ps ++ last) in
      let c = in_effects-append x (waiting_for me ps) last in
      let d = in_waiting x ps in omega (arith, b, c, d)) k

  acts_by_signal : (r : Plain) (a : Acts) → Pipes f l a → Pipes f l (act_by_signal me r a)
  unfolding act_by_signal
  acts_by_signal r a k =
      let b : Acts = abort_part r a.slots.prevent.abort a in
      waits (parts_of a.slots.prevent a b) (cancel_part r a.slots.prevent.cancel b) (cancel_parts r a.slots.prevent.cancel b (abort_parts r a.slots.prevent.abort a k))

  acts_by : (ends : Ends) (a : Acts) (action : Option Action) → goes_on a.slots.phase ≡ true → Pipes f l a → Pipes f l (act_by me ends a action)
  acts_by ends a None e k = finalized a.slots.error a e k
  acts_by ends a (Some (AbortDest r)) e k = aborts r a ends.dest_abort k
  acts_by ends a (Some (CancelSource r)) e k = acts_with (λ p. OnReadable a.slots.source (Cancel r p)) a (λ x q. refl) k
  acts_by ends a (Some CloseDest) e k = acts_with (λ p. OnWritable a.slots.dest (ClosePropagating p)) a (λ x q. refl) k
  acts_by ends a (Some (BySignal r)) e k = acts_by_signal r a k

  -- what a pipe that goes on keeps
  abbrev Keeps : Acts → Acts → Type 0
  Keeps a b = goes_on a.slots.phase ≡ true → Pipes f l a → Pipes f l b

  acting : (ends : Ends) (a : Acts) → Keeps a (act me ends a)
  unfolding act
  acting ends a e k =
      let b : Acts = with_slots (record a.slots { phase = Acting }) a in
      acts_by ends b a.slots.action refl (quiet a b refl (λ x. rw e (omega arith)) k)

  proceeding : (ends : Ends) (a : Acts) → Keeps a (proceed me ends a)
  unfolding proceed
  proceeding ends a e k = either (Pipes f l) (is_none a.slots.held && nat_eq a.slots.unsettled 0) (act me ends a) a (λ h. acting ends a e k) (λ h. k)

  shutting_down : (ends : Ends) (a : Acts) → Keeps a (shut_down me ends a)
  shutting_down ends a e k =
      let b : Acts = with_slots (record a.slots { phase = Waiting }) a in
      either (Pipes f l) (is_writable ends.dest_state && not ends.dest_closing) (proceed me ends b) (act me ends a)
      (λ h. proceeding ends b refl (quiet a b refl (λ x. rw e (omega arith)) k)) (λ h. acting ends a e k)

  flowing_goes : (phase : Phase) → is_flowing phase ≡ true → goes_on phase ≡ true
  flowing_goes Flowing e = refl
  flowing_goes Waiting e = refl
  flowing_goes Acting e = refl
  flowing_goes Over e = e

  shuts : (ends : Ends) (action : Option Action) (error : Option Plain) (a : Acts) → Pipes f l a → Pipes f l (shutdown me ends action error a)
  unfolding shutdown
  shuts ends action error a k =
      let b : Acts = with_slots (record a.slots { action = action; error = error }) a in
      either (Pipes f l) (is_flowing a.slots.phase) (shut_down me ends b) a (λ e. shutting_down ends b (flowing_goes a.slots.phase e) (quiet a b refl (λ x. omega arith) k)) (λ e. k)

  -- looking

  readies : (a : Acts) (ready : Option PromiseId) → Pipes f l a → Pipes f l (wait_for_ready me a ready)
  readies a None k = k
  readies a (Some p) k = quiet a (wait_for_ready me a (Some p)) refl (λ x. let c = in_effects-append x a.out.effects (reacts p (PipeReady me) ∷ []) in omega (arith, c)) k

  reads_or_waits : (ends : Ends) (a : Acts) → Pipes f l a → Pipes f l (read_or_wait me ends a)
  reads_or_waits ends a k =
      let b : Acts = causing (OnReadable a.slots.source (Read (PipeRequest me)) ∷ []) (with_slots (record a.slots { reading = true }) a) in
      either (Pipes f l) ends.dest_wants b (if not a.slots.waits && is_writable ends.dest_state then wait_for_ready me a ends.dest_ready else a)
      (λ e. quiet a b refl (λ x. let c = in_effects-append x a.out.effects (OnReadable a.slots.source (Read (PipeRequest me)) ∷ []) in omega (arith, c)) k)
      (λ e. either (Pipes f l) (not a.slots.waits && is_writable ends.dest_state) (wait_for_ready me a ends.dest_ready) a (λ h. readies a ends.dest_ready k) (λ h. k))

  looks_readable : (ends : Ends) (a : Acts) (d : WritableState) → Pipes f l a → Pipes f l
      (if ends.dest_closing || is_closed d
      then shutdown me ends (unless a.slots.prevent.cancel (CancelSource type_error)) (Some type_error) a
      else if a.slots.reading then a
      else read_or_wait me ends a)
  looks_readable ends a d k =
      let shut : Acts = shutdown me ends (unless a.slots.prevent.cancel (CancelSource type_error)) (Some type_error) a in
      either (Pipes f l) (ends.dest_closing || is_closed d) shut (if a.slots.reading then a else read_or_wait me ends a)
      (λ e. shuts ends (unless a.slots.prevent.cancel (CancelSource type_error)) (Some type_error) a k)
      (λ e. either (Pipes f l) a.slots.reading a (read_or_wait me ends a) (λ h. k) (λ h. reads_or_waits ends a k))

  looks_by : (ends : Ends) (a : Acts) (s : ReadableState) (d : WritableState) → Pipes f l a → Pipes f l (look_by me ends a s d)
  looks_by ends a Errored d k = shuts ends (unless a.slots.prevent.abort (AbortDest ends.source_error)) (Some ends.source_error) a k
  looks_by ends a Closed WritableErrored k = shuts ends (unless a.slots.prevent.cancel (CancelSource ends.dest_error)) (Some ends.dest_error) a k
  looks_by ends a Closed Writable k = shuts ends (unless a.slots.prevent.close CloseDest) None a k
  looks_by ends a Closed Erroring k = shuts ends (unless a.slots.prevent.close CloseDest) None a k
  looks_by ends a Closed WritableClosed k = shuts ends (unless a.slots.prevent.close CloseDest) None a k
  looks_by ends a Readable WritableErrored k = shuts ends (unless a.slots.prevent.cancel (CancelSource ends.dest_error)) (Some ends.dest_error) a k
  looks_by ends a Readable Writable k = looks_readable ends a Writable k
  looks_by ends a Readable Erroring k = looks_readable ends a Erroring k
  looks_by ends a Readable WritableClosed k = looks_readable ends a WritableClosed k

  looking : (ends : Ends) (a : Acts) → Pipes f l a → Pipes f l (look me ends a)
  unfolding look
  looking ends a k = either (Pipes f l) (is_flowing a.slots.phase) (look_by me ends a ends.source_state ends.dest_state) a (λ e. looks_by ends a ends.source_state ends.dest_state k) (λ e. k)

  going_on : (ends : Ends) (a : Acts) (phase : Phase) → phase ≡ a.slots.phase → Pipes f l a → Pipes f l (go_on_in me ends a phase)
  going_on ends a Flowing e k = looking ends a k
  going_on ends a Waiting e k = proceeding ends a (ap goes_on (sym e)) k
  going_on ends a Acting e k = k
  going_on ends a Over e k = k

  -- writing

  queues : (m : Micro) (a : Acts) → Pipes f l a → Pipes f l (queueing m a)
  queues m a k = holds-micro (λ x. f x + here x a) l m a.out.promises k

  writes_one : (v : Value) (a : Acts) → Pipes f l a → Pipes f l (write me v a)
  writes_one v a k =
      let q : PromiseId = next_id a.out.promises in
      making a (write me v a) refl (λ x. let c = in_effects-append x a.out.effects (OnWritable a.slots.dest (Write v q) ∷ reacts q (PipeWrote me) ∷ OnPipe me GoOn ∷ []) in omega (arith, c)) k

  writes_in : (v : Value) (a : Acts) (phase : Phase) → Pipes f l a → Pipes f l (write_in me v a phase)
  writes_in v a Flowing k = writes_one v a k
  writes_in v a Waiting k = writes_one v a k
  writes_in v a Acting k = k
  writes_in v a Over k = k

  writes_held : (a : Acts) (held : Option Value) → Pipes f l a → Pipes f l (write_held me a held)
  writes_held a None k = k
  writes_held a (Some v) k =
      let b : Acts = with_slots (record a.slots { held = None; reading = false }) a in
      writes_in v b a.slots.phase (quiet a b refl (λ x. omega arith) k)

  -- the ends of an action

  action_ends : (o : Result Plain Plain) (a : Acts) → Keeps a (action_settled me o a)
  unfolding action_settled
  action_ends (Ok v) a e k = finalized a.slots.error a e k
  action_ends (Err r) a e k = finalized (Some r) a e k

  whole_settled : (o : Result Plain Plain) (a : Acts) (w : Option PromiseId) → w ≡ a.slots.whole → Pipes f l a → Pipes f l (settle_whole o a w)
  whole_settled o a None e k = k
  whole_settled o a (Some w) e k = settling w o a (settle_whole o a (Some w)) refl (λ x. rw (← e) (omega arith)) k

  part_ends : (o : Result Plain Plain) (a : Acts) → Pipes f l a → Pipes f l (part_settled o a)
  unfolding part_settled
  part_ends (Ok v) a k =
      let b : Acts = with_slots (record a.slots { parts = a.slots.parts - 1 }) a in
      either (Pipes f l) (nat_eq b.slots.parts 0) (settle_whole (Ok Undefined) b b.slots.whole) b (λ e. whole_settled (Ok Undefined) b b.slots.whole refl k) (λ e. k)
  part_ends (Err e) a k = whole_settled (Err e) a a.slots.whole refl k

-- what is to be known of a pipe before an operation: it goes on where its action has ended
abbrev pub PipeExpects : PipeOperation → Option Slots → Type 0
PipeExpects (ActionSettled o) (Some s) = goes_on s.phase ≡ true
PipeExpects operation s = Unit {0}

pub pipes : (me : PipeId) (f l : PromiseId → ℕ) (ends : Ends) (operation : PipeOperation) (a : Acts) → PipeExpects operation (Some a.slots) → Pipes f l a → Pipes f l (pipe_operation me ends operation a)
unfolding look_ready go_on keep_chunk read_ended write_chunk write_ended no_parts abort
pipes me f l ends Look a e k = looking me f l ends a k
pipes me f l ends LookReady a e k = looking me f l ends (with_slots (record a.slots { waits = false }) a) k
pipes me f l ends (KeepChunk v) a e k = queues me f l (PipeWrite me) (with_slots (record a.slots { held = Some v }) a) k
pipes me f l ends ReadEnded a e k = queues me f l (PipeLook me) (with_slots (record a.slots { reading = false }) a) k
pipes me f l ends WriteChunk a e k = writes_held me f l a a.slots.held k
pipes me f l ends GoOn a e k = going_on me f l ends a a.slots.phase refl k
pipes me f l ends WriteEnded a e k = going_on me f l ends (with_slots (record a.slots { unsettled = a.slots.unsettled - 1 }) a) a.slots.phase refl k
pipes me f l ends (AbortPipe r) a e k = shuts me f l ends (Some (BySignal r)) (Some r) a k
pipes me f l ends (ActionSettled o) a e k = action_ends me f l o a e k
pipes me f l ends (PartSettled o) a e k = part_ends me f l o a k
pipes me f l ends NoParts a e k = whole_settled me f l (Ok Undefined) a a.slots.whole refl k
