-- What a pipe does to the parts that it waits for, and to the promise of them all.
use Rattle.std.proofs.Common.{◌≡◌, ◌⊎◌, inl, inr, ℕ, zero, suc, ◌-◌, ◌≤◌, ◌<◌, Bool, true, false, not, ◌&&◌, nat_eq, is_none, ◌++◌, if◌then◌else◌, List, [], length, Option, Some, None, Result, Ok, Err, slice_get, refl, sym, ap, subst, ◌∙◌, arith}
use Rattle.ws_value.specs.declared.{ids.PipeId.{PipeId}, ids.PromiseId.{PromiseId}, value.Outcome.TheVariants.{Pending}, value.Plain.{Plain}, value.Plain.TheVariants.{Undefined}, value.Value.{Value}}
use Rattle.ws_steps.specs.declared.pipes.{Action.{Action}, Action.TheVariants.{AbortDest, CancelSource, CloseDest, BySignal}, Ends.{Ends}, Phase.{Phase}, Phase.TheVariants.{Flowing, Waiting, Acting, Over}}
use Rattle.ws_steps.specs.declared.pipes.{PipeOperation.{PipeOperation}, PipeOperation.TheVariants.{Look, LookReady, KeepChunk, ReadEnded, WriteChunk, GoOn, WriteEnded, Abort as AbortPipe, ActionSettled, PartSettled, NoParts}}
use Rattle.ws_steps.specs.declared.promises.Micro.{Micro}
use Rattle.ws_steps.specs.declared.readable.ReadableState.{ReadableState}
use Rattle.ws_steps.specs.declared.writable.WritableState.{WritableState}
use Rattle.ws_steps.specs.Operations.{pipe_operation}
use Rattle.ws_steps.specs.Pipes.{Slots, Acts, finalize, abort_dest, abort_part, cancel_part, part, wait_for_all, act_by_signal, act_by, act, proceed, is_flowing, shut_down, shutdown, look_by, look, look_ready, go_on_in, go_on, keep_chunk, read_ended, write_in, write_held, write_chunk, write_ended, action_settled, settle_whole, after_part, part_settled, no_parts, abort}
use Rattle.ws_steps.specs.Promises.{Table, next_id, fresh, queue_micro, outcome_at}
use Rattle.ws_steps.specs.Run.{Entry, run}
use Rattle.ws_steps.specs.Slots as realm
use Rattle.ws_steps.specs.Writable.{is_writable}
use Rattle.ws_steps.proofs.PromiseLaws.{entry_at-fresh, length-fresh}
use Rattle.ws_laws.proofs.Tables.{either}
use Rattle.ws_pipe_laws.specs.pipes.PipeHistory.{is_live}
use Rattle.ws_pipe_laws.specs.pipes.PipeMoves.{starting, leaving}
use Rattle.ws_promise_laws.proofs.Runs.{run-sound}
use Rattle.ws_promise_laws.proofs.Holds.{named}
use Rattle.ws_promise_laws.proofs.Streams.{in_pipe}
use Rattle.ws_promise_laws.proofs.Tokens.{names_any}
use Rattle.ws_end_laws.specs.ends.PipeWaits.{settled_where, all_settled, is_of_parts, NoneIsSettled, BeginsBySignal, EachPipeCountsItsParts, EachWholeIsOpen}
use Rattle.ws_end_laws.proofs.ends.OpenPromises.{in_pipes-few, stands-open}

-- no promise is settled

none-settled : (t : Table) → NoneIsSettled t t
none-settled t = record { there = omega arith; same = λ d n. refl }

fresh-settles : (t z : Table) → NoneIsSettled t z → NoneIsSettled t (fresh z)
fresh-settles t z k = record {
  there = let a = k.there in let b = length-fresh z in omega (arith, a, b);
  same = λ d n. let a = k.there in let m : d.0 < length z.entries = omega (arith, a, n) in entry_at-fresh z d m ∙ k.same d n;
}

micro-settles : (t z : Table) (m : Micro) → NoneIsSettled t z → NoneIsSettled t (queue_micro m z)
unfolding queue_micro
micro-settles t z m k = record { there = k.there; same = k.same }

-- what goes on with new promises and microtasks goes on with each operation that isn't one of parts
module _ (T : Table → Type 0) (freshens : (t : Table) → T t → T (fresh t)) (queues : (t : Table) (m : Micro) → T t → T (queue_micro m t)) (me : PipeId) where
  abbrev Does : Acts → Acts → Type 0
  Does a b = T a.out.promises → T b.out.promises

  signal-does : (r : Plain) (a : Acts) → Does a (act_by_signal me r a)
  unfolding act_by_signal
  signal-does r a = grind (arith, freshens)

  act_by-does : (ends : Ends) (a : Acts) (action : Option Action) → Does a (act_by me ends a action)
  unfolding finalize
  act_by-does ends a action = grind (arith, freshens, signal-does)

  act-does : (ends : Ends) (a : Acts) → Does a (act me ends a)
  unfolding act
  act-does ends a = grind (arith, act_by-does)

  shutdown-does : (ends : Ends) (action : Option Action) (error : Option Plain) (a : Acts) → Does a (shutdown me ends action error a)
  unfolding shutdown proceed
  shutdown-does ends action error a = grind (arith, act-does)

  look-does : (ends : Ends) (a : Acts) → Does a (look me ends a)
  unfolding look
  look-does ends a = grind (arith, shutdown-does)

  go_on-does : (ends : Ends) (a : Acts) (phase : Phase) → Does a (go_on_in me ends a phase)
  unfolding proceed
  go_on-does ends a phase = grind (arith, look-does, act-does)

  write-does : (a : Acts) (held : Option Value) → Does a (write_held me a held)
  write-does a held = grind (arith, freshens)

  operation-does : (ends : Ends) (operation : PipeOperation) (a : Acts) → is_of_parts operation ≡ false → Does a (pipe_operation me ends operation a)
  unfolding look_ready go_on keep_chunk read_ended write_chunk write_ended action_settled abort finalize
  operation-does ends Look a n = look-does ends a
  operation-does ends LookReady a n = grind (arith, look-does)
  operation-does ends (KeepChunk v) a n = grind (arith, queues)
  operation-does ends ReadEnded a n = grind (arith, queues)
  operation-does ends WriteChunk a n = write-does a a.slots.held
  operation-does ends GoOn a n = go_on-does ends a a.slots.phase
  operation-does ends WriteEnded a n = grind (arith, go_on-does)
  operation-does ends (AbortPipe r) a n = shutdown-does ends _ _ a
  operation-does ends (ActionSettled outcome) a n = grind arith
  operation-does ends (PartSettled outcome) a n = cc
  operation-does ends NoParts a n = cc

-- the parts stay, or the action of the signal begins

record Begins (b : Acts) : Type 0 where
  acts : b.slots.phase ≡ Acting
  reason : Plain
  action : b.slots.action ≡ Some (BySignal reason)

abbrev Keeps : Acts → Acts → Type 0
Keeps a b = ((b.slots.parts ≡ a.slots.parts) × (b.slots.whole ≡ a.slots.whole)) ⊎ Begins b

module _ (me : PipeId) where
  signal_begins : (r : Plain) (a : Acts) → a.slots.phase ≡ Acting → a.slots.action ≡ Some (BySignal r) → Begins (act_by_signal me r a)
  unfolding act_by_signal
  signal_begins r a p e = by a.slots.prevent.abort a.slots.prevent.cancel
    where
      by : (b c : Bool) → Begins (wait_for_all me (part b (next_id a.out.promises) ++ part c (next_id (abort_part r b a).out.promises)) (cancel_part r c (abort_part r b a)))
      by true true = record { acts = p; reason = r; action = e }
      by true false = record { acts = p; reason = r; action = e }
      by false true = record { acts = p; reason = r; action = e }
      by false false = record { acts = p; reason = r; action = e }

  abort-keeps : (r : Plain) (a : Acts) (d : Option PromiseId) → Keeps a (abort_dest me r a d)
  abort-keeps r a None = inl (refl, refl)
  abort-keeps r a (Some d) = inl (refl, refl)

  act_by-keeps : (ends : Ends) (a : Acts) (action : Option Action) → a.slots.phase ≡ Acting → a.slots.action ≡ action → Keeps a (act_by me ends a action)
  unfolding finalize
  act_by-keeps ends a None p e = inl (refl, refl)
  act_by-keeps ends a (Some (AbortDest r)) p e = abort-keeps r a ends.dest_abort
  act_by-keeps ends a (Some (CancelSource r)) p e = inl (refl, refl)
  act_by-keeps ends a (Some CloseDest) p e = inl (refl, refl)
  act_by-keeps ends a (Some (BySignal r)) p e = inr (signal_begins r a p e)

  act-keeps : (ends : Ends) (a : Acts) → Keeps a (act me ends a)
  unfolding act
  act-keeps ends a = act_by-keeps ends (record a { slots = record a.slots { phase = Acting } }) a.slots.action refl refl

  proceed-keeps : (ends : Ends) (a : Acts) → Keeps a (proceed me ends a)
  unfolding proceed
  proceed-keeps ends a = either (Keeps a) (is_none a.slots.held && nat_eq a.slots.unsettled 0) (act me ends a) a (λ e. act-keeps ends a) (λ e. inl (refl, refl))

  shut_down-keeps : (ends : Ends) (action : Option Action) (error : Option Plain) (a : Acts) → Keeps a (shut_down me ends (record a { slots = record a.slots { action = action; error = error } }))
  shut_down-keeps ends action error a =
      let c : Acts = record a { slots = record a.slots { action = action; error = error } } in
      either (Keeps a) (is_writable ends.dest_state && not ends.dest_closing) (proceed me ends (record c { slots = record c.slots { phase = Waiting } })) (act me ends c)
      (λ e. proceed-keeps ends (record c { slots = record c.slots { phase = Waiting } })) (λ e. act-keeps ends c)

  shutdown-keeps : (ends : Ends) (action : Option Action) (error : Option Plain) (a : Acts) → Keeps a (shutdown me ends action error a)
  unfolding shutdown
  shutdown-keeps ends action error a =
      either (Keeps a) (is_flowing a.slots.phase) (shut_down me ends (record a { slots = record a.slots { action = action; error = error } })) a (λ e. shut_down-keeps ends action error a) (λ e. inl (refl, refl))

  look_by-keeps : (ends : Ends) (a : Acts) (s : ReadableState) (d : WritableState) → Keeps a (look_by me ends a s d)
  look_by-keeps ends a s d = grind (arith, shutdown-keeps)

  -- of a pipe that flows or waits
  abbrev Parts : Acts → Acts → Type 0
  Parts a b = ((b.slots.parts ≡ a.slots.parts) × (b.slots.whole ≡ a.slots.whole)) ⊎ BeginsBySignal a.slots b.slots

  lives : (a b : Acts) → is_live a.slots.phase ≡ true → Keeps a b → Parts a b
  lives a b l (inl k) = inl k
  lives a b l (inr k) = inr (record { live = l; acts = k.acts; reason = k.reason; action = k.action })

  look-parts : (ends : Ends) (a : Acts) → Parts a (look me ends a)
  unfolding look
  look-parts ends a = by a.slots.phase refl
    where
      by : (phase : Phase) → a.slots.phase ≡ phase → Parts a (if is_flowing phase then look_by me ends a ends.source_state ends.dest_state else a)
      by Flowing e = lives a _ (ap is_live e) (look_by-keeps ends a ends.source_state ends.dest_state)
      by Waiting e = inl (refl, refl)
      by Acting e = inl (refl, refl)
      by Over e = inl (refl, refl)

  go_on-parts : (ends : Ends) (a : Acts) (phase : Phase) → a.slots.phase ≡ phase → Parts a (go_on_in me ends a phase)
  go_on-parts ends a Flowing e = look-parts ends a
  go_on-parts ends a Waiting e = lives a _ (ap is_live e) (proceed-keeps ends a)
  go_on-parts ends a Acting e = inl (refl, refl)
  go_on-parts ends a Over e = inl (refl, refl)

  flowing-lives : (phase : Phase) → is_flowing phase ≡ true → is_live phase ≡ true
  flowing-lives phase e = grind (arith, e)

  abort-parts : (ends : Ends) (r : Plain) (a : Acts) → Parts a (shutdown me ends (Some (BySignal r)) (Some r) a)
  unfolding shutdown
  abort-parts ends r a =
      either (Parts a) (is_flowing a.slots.phase) (shut_down me ends (record a { slots = record a.slots { action = Some (BySignal r); error = Some r } })) a
      (λ e. lives a _ (flowing-lives a.slots.phase e) (shut_down-keeps ends (Some (BySignal r)) (Some r) a)) (λ e. inl (refl, refl))

  write-parts : (a : Acts) (held : Option Value) → Parts a (write_held me a held)
  write-parts a None = inl (refl, refl)
  write-parts a (Some v) = by a.slots.phase
    where
      by : (phase : Phase) → Parts a (write_in me v (record a { slots = record a.slots { held = None; reading = false } }) phase)
      by Flowing = inl (refl, refl)
      by Waiting = inl (refl, refl)
      by Acting = inl (refl, refl)
      by Over = inl (refl, refl)

  -- of a pipe that is the same but for what it waits for, and for its writes
  again : (c a b : Acts) → c.slots.parts ≡ a.slots.parts → c.slots.whole ≡ a.slots.whole → c.slots.phase ≡ a.slots.phase → Parts c b → Parts a b
  again c a b p w f (inl k) = inl (k.0 ∙ p, k.1 ∙ w)
  again c a b p w f (inr k) = inr (record { live = ap is_live (sym f) ∙ k.live; acts = k.acts; reason = k.reason; action = k.action })

  operation-parts : (ends : Ends) (operation : PipeOperation) (x : Slots) (t : Table) → is_of_parts operation ≡ false → Parts (starting x t) (pipe_operation me ends operation (starting x t))
  unfolding look_ready go_on keep_chunk read_ended write_chunk write_ended action_settled abort finalize
  operation-parts ends Look x t n = look-parts ends (starting x t)
  operation-parts ends LookReady x t n =
      again (starting (record x { waits = false }) t) (starting x t) (look me ends (starting (record x { waits = false }) t)) refl refl refl (look-parts ends (starting (record x { waits = false }) t))
  operation-parts ends (KeepChunk v) x t n = inl (refl, refl)
  operation-parts ends ReadEnded x t n = inl (refl, refl)
  operation-parts ends WriteChunk x t n = write-parts (starting x t) x.held
  operation-parts ends GoOn x t n = go_on-parts ends (starting x t) x.phase refl
  operation-parts ends WriteEnded x t n =
      let c : Acts = starting (record x { unsettled = x.unsettled - 1 }) t in again c (starting x t) (go_on_in me ends c x.phase) refl refl refl (go_on-parts ends c x.phase refl)
  operation-parts ends (AbortPipe r) x t n = abort-parts ends r (starting x t)
  operation-parts ends (ActionSettled (Ok v)) x t n = inl (refl, refl)
  operation-parts ends (ActionSettled (Err e)) x t n = inl (refl, refl)
  operation-parts ends (PartSettled o) x t n = cc
  operation-parts ends NoParts x t n = cc

-- the operations of parts

whole-settled : (o : Result Plain Plain) (y : Slots) (t : Table) (w : Option PromiseId) → y.whole ≡ w → settle_whole o (starting y t) w ≡ leaving (record y { whole = None }) (settled_where w o t) []
whole-settled o y t None e = rw (← e) refl
whole-settled o y t (Some w) e = refl

more-left : (n : ℕ) → (n ≤ 1 → ⊥) → nat_eq (n - 1) 0 ≡ false
more-left zero n = absurd (n (omega arith))
more-left (suc zero) n = absurd (n (omega arith))
more-left (suc (suc n)) m = grind arith

none-left : (n : ℕ) → n ≤ 1 → n - 1 ≡ 0
none-left n l = omega arith

last-part : (x : Slots) (t : Table) (n : ℕ) → n ≡ 0 → after_part (starting (record x { parts = n }) t) ≡ all_settled (Ok Undefined) (record x { parts = 0 }) t
last-part x t n e =
    subst (λ (k : ℕ). after_part (starting (record x { parts = k }) t) ≡ all_settled (Ok Undefined) (record x { parts = 0 }) t) (sym e) (whole-settled (Ok Undefined) (record x { parts = 0 }) t x.whole refl)

pub each_pipe_counts_its_parts : EachPipeCountsItsParts
unfolding part_settled no_parts
each_pipe_counts_its_parts me ends x t = record {
  fulfilled = λ v n. rw (more-left x.parts n) refl;
  last = λ v n. last-part x t (x.parts - 1) (none-left x.parts n);
  rejected = λ e. whole-settled (Err e) x t x.whole refl;
  none = whole-settled (Ok Undefined) x t x.whole refl;
  others = λ operation n. record { promises = operation-does (NoneIsSettled t) (fresh-settles t) (micro-settles t) me ends operation (starting x t) n (none-settled t); parts = operation-parts me ends operation x t n };
}

-- the promise of all is open

whole-stands : (x : Slots) (w : PromiseId) → x.whole ≡ Some w → 1 ≤ in_pipe w x
whole-stands x w e = let n : names_any w x.whole ≡ 1 = rw e (named w) in omega (arith, n)

whole-open : (entries : List Entry) (p : PipeId) (w : PromiseId) (o : Option Slots) → slice_get (run entries realm.empty).pipes p.0 ≡ o → (realm.as_pipe o).whole ≡ Some w → outcome_at (run entries realm.empty).promises w ≡ Some Pending
whole-open entries p w None e h = cc
whole-open entries p w (Some x) e h =
    let s : realm.Slots = run entries realm.empty in
    let a = whole-stands x w h in
    let b = in_pipes-few w s.pipes p.0 x e in
    stands-open w s (run-sound entries) (omega (arith, a, b))

pub each_whole_is_open : EachWholeIsOpen
each_whole_is_open entries p w h = whole-open entries p w (slice_get (run entries realm.empty).pipes p.0) refl h
