-- What a pipe keeps (`each_pipe_keeps_its_ends`, `each_pipe_stays`).
use Rattle.std.proofs.Common.{◌≡◌, ⊎_elim, ℕ, Bool, true, false, nat_eq, [], ◌∷◌, ◌++◌, Option, Some, None, slice_get, refl, sym, ap, subst, ◌∙◌, arith}
use Rattle.ws_value.specs.declared.{ids.PipeId.{PipeId}, ids.PromiseId.{PromiseId}, ids.SignalId.{SignalId}, ids.StreamId.{StreamId}, value.Plain.{Plain}, value.Value.{Value}}
use Rattle.ws_steps.specs.declared.{calls.Reply.{Reply}, calls.Reply.TheVariants.{Promise}}
use Rattle.ws_steps.specs.declared.{effects.Effect.{Effect}, effects.Effect.TheVariants.{Pipe}, pipes.Action.{Action}, pipes.Ends.{Ends}, pipes.Phase.{Phase}, pipes.Prevent.{Prevent}, pipes.PipeOperation.{PipeOperation}}
use Rattle.ws_steps.specs.declared.pipes.PipeOperation.TheVariants.{Look, LookReady, KeepChunk, ReadEnded, WriteChunk, GoOn, WriteEnded, Abort as AbortPipe, ActionSettled, PartSettled, NoParts}
use Rattle.ws_steps.specs.declared.readable.ReadableState.{ReadableState}
use Rattle.ws_steps.specs.declared.writable.WritableState.{WritableState}
use Rattle.ws_steps.specs.Calls.{begin, named}
use Rattle.ws_steps.specs.Operations.{pipe_operation}
use Rattle.ws_pipe_laws.specs.pipes.PipeMoves.{starting, IsSamePipe, EachPipeKeepsItsEnds, IsThere, EachPipeStays}
use Rattle.ws_steps.specs.Pipes as pipe
use Rattle.ws_steps.specs.Pipes.{Acts, finalize, act_by_signal, act_by, act, proceed, shutdown, look_by, look, look_ready, go_on_in, go_on, keep_chunk, read_ended, write_held, write_in, write_chunk, write_ended, action_settled, part_settled, no_parts, abort}
use Rattle.ws_steps.specs.Slots.{Slots, Done, ends_at, on_pipe_at}
use Rattle.ws_steps.specs.Turns.{row, performed}
use Rattle.ws_steps.proofs.PromiseLaws.{slice_get-set_other}
use Rattle.ws_laws.proofs.Begin.{begin-makes}
use Rattle.ws_laws.proofs.Apart.{IsNoPipe, row-pipes}
use Rattle.ws_laws.proofs.Tables.{eq_numbers, unequal_numbers}
use Rattle.ws_laws.proofs.Walker.{Stays, run-stays, performed-goes, untold}
use Rattle.ws_pipe_laws.proofs.pipes.Courses.{place_same, appended}

-- an operation keeps them
module _ (me : PipeId) where
  abbrev Keeps : Acts → Acts → Type 0
  Keeps a b = IsSamePipe a.slots b.slots

  finalize-keeps : (error : Option Plain) (a : Acts) → Keeps a (finalize me error a)
  unfolding finalize
  finalize-keeps error a = grind arith

  signal-keeps : (r : Plain) (a : Acts) → Keeps a (act_by_signal me r a)
  unfolding act_by_signal
  signal-keeps r a = grind arith

  act_by-keeps : (ends : Ends) (a : Acts) (action : Option Action) → Keeps a (act_by me ends a action)
  act_by-keeps ends a action = grind (arith, finalize-keeps, signal-keeps)

  act-keeps : (ends : Ends) (a : Acts) → Keeps a (act me ends a)
  unfolding act
  act-keeps ends a = grind (arith, act_by-keeps)

  proceed-keeps : (ends : Ends) (a : Acts) → Keeps a (proceed me ends a)
  unfolding proceed
  proceed-keeps ends a = grind (arith, act-keeps)

  shutdown-keeps : (ends : Ends) (action : Option Action) (error : Option Plain) (a : Acts) → Keeps a (shutdown me ends action error a)
  unfolding shutdown
  shutdown-keeps ends action error a = grind (arith, proceed-keeps, act-keeps)

  look_by-keeps : (ends : Ends) (a : Acts) (s : ReadableState) (d : WritableState) → Keeps a (look_by me ends a s d)
  look_by-keeps ends a s d = grind (arith, shutdown-keeps)

  look-keeps : (ends : Ends) (a : Acts) → Keeps a (look me ends a)
  unfolding look
  look-keeps ends a = grind (arith, look_by-keeps)

  go_on-keeps : (ends : Ends) (a : Acts) (phase : Phase) → Keeps a (go_on_in me ends a phase)
  go_on-keeps ends a phase = grind (arith, look-keeps, proceed-keeps)

  write-keeps : (a : Acts) (held : Option Value) → Keeps a (write_held me a held)
  write-keeps a held = grind arith

  operation-keeps : (ends : Ends) (operation : PipeOperation) (a : Acts) → Keeps a (pipe_operation me ends operation a)
  unfolding look_ready go_on keep_chunk read_ended write_chunk write_ended action_settled part_settled no_parts abort
  operation-keeps ends Look a = look-keeps ends a
  operation-keeps ends LookReady a = grind (arith, look-keeps)
  operation-keeps ends (KeepChunk v) a = grind arith
  operation-keeps ends ReadEnded a = grind arith
  operation-keeps ends WriteChunk a = write-keeps a a.slots.held
  operation-keeps ends GoOn a = go_on-keeps ends a a.slots.phase
  operation-keeps ends WriteEnded a = grind (arith, go_on-keeps)
  operation-keeps ends (AbortPipe r) a = shutdown-keeps ends _ _ a
  operation-keeps ends (ActionSettled outcome) a = grind (arith, finalize-keeps)
  operation-keeps ends (PartSettled outcome) a = grind arith
  operation-keeps ends NoParts a = grind arith

pub each_pipe_keeps_its_ends : EachPipeKeepsItsEnds
each_pipe_keeps_its_ends p ends operation x t = operation-keeps p ends operation (starting x t)

-- over a run it stays there

same_pipe : (x : pipe.Slots) → IsSamePipe x x
same_pipe x = record { source = refl; dest = refl; promise = refl; prevent = refl; signal = refl }

same_after : (x y z : pipe.Slots) → IsSamePipe x y → IsSamePipe y z → IsSamePipe x z
same_after x y z a b = record {
  source = b.source ∙ a.source;
  dest = b.dest ∙ a.dest;
  promise = b.promise ∙ a.promise;
  prevent = b.prevent ∙ a.prevent;
  signal = b.signal ∙ a.signal;
}

module _ (p : PipeId) (x : pipe.Slots) where
  abbrev At : Slots → Type 0
  At s = IsThere x (slice_get s.pipes p.0)

  own_place : (operation : PipeOperation) (s : Slots) (o : Option pipe.Slots) → slice_get s.pipes p.0 ≡ o → IsThere x o → At (on_pipe_at (λ ends. pipe_operation p ends operation) p s o).slots
  own_place operation s None e k = let n : None ≡ Some k.slots = k.there in cc
  own_place operation s (Some y) e k =
      let b : Acts = pipe_operation p (ends_at y s) operation (starting y s.promises) in
      let same : IsSamePipe x y = rw (some_same y k.slots k.there) k.same in
      record {
        slots = b.slots;
        there = place_same s.pipes p.0 y b.slots e;
        same = same_after x y b.slots same (each_pipe_keeps_its_ends p (ends_at y s) operation y s.promises);
      }
    where
      some_same : (y z : pipe.Slots) → ◌≡◌ {A = Option pipe.Slots} (Some y) (Some z) → y ≡ z
      some_same y z e = cc

  own_row : (operation : PipeOperation) (s : Slots) → At s → At (row (Pipe p operation) s).slots
  unfolding row
  own_row operation s k = own_place operation s (slice_get s.pipes p.0) refl k

  other_place : (q : PipeId) (operation : PipeOperation) (s : Slots) (o : Option pipe.Slots) → nat_eq p.0 q.0 ≡ false → slice_get (on_pipe_at (λ ends. pipe_operation q ends operation) q s o).slots.pipes p.0 ≡ slice_get s.pipes p.0
  other_place q operation s None n = refl
  other_place q operation s (Some y) n = slice_get-set_other s.pipes q.0 p.0 _ (λ i. unequal_numbers p.0 q.0 n (sym i))

  pipe_row : (q : PipeId) (operation : PipeOperation) (s : Slots) (same : Bool) → same ≡ nat_eq p.0 q.0 → At s → At (row (Pipe q operation) s).slots
  unfolding row
  pipe_row q operation s false n k = rw (other_place q operation s (slice_get s.pipes q.0) (sym n)) k
  pipe_row q operation s true n k =
      let is : p ≡ q = ap (λ (n : ℕ). record { 0 = n }) (eq_numbers p.0 q.0 (sym n)) in
      subst (λ (z : PipeId). At (row (Pipe z operation) s).slots) is (own_row operation s k)

  other_row : (e : Effect) (s : Slots) → IsNoPipe e → At s → At (row e s).slots
  other_row e s n k = rw (row-pipes e s n) k

  row-at : (e : Effect) (s : Slots) → At s → At (row e s).slots
  row-at (Pipe q operation) s k = pipe_row q operation s (nat_eq p.0 q.0) refl k
  row-at e s k = other_row e s tt k

  made : (s : Slots) (source dest : StreamId) (prevent : Prevent) (signal : Option SignalId) (promise : PromiseId) → At s → At (record s { pipes = s.pipes ++ pipe.set_up source dest prevent signal promise ∷ [] })
  made s source dest prevent signal promise k =
      let y : pipe.Slots = pipe.set_up source dest prevent signal promise in
      ⊎_elim (λ (e : slice_get (s.pipes ++ y ∷ []) p.0 ≡ slice_get s.pipes p.0). rw e k)
      (λ (e : (slice_get s.pipes p.0 ≡ None) × (slice_get (s.pipes ++ y ∷ []) p.0 ≡ Some y)).
      let n : None ≡ Some k.slots = sym e.0 ∙ k.there in cc)
      (appended s.pipes y p.0)

  pipe-stays : Stays (λ s es. At s)
  pipe-stays = record {
    row = λ s e es k. row-at e s k;
    call = λ s c k. begin-makes At (record {
      promise = λ z k. k;
      locks = λ z ls k. k;
      hosts = λ z hs k. k;
      pipe = λ z source dest prevent signal promise k. made z source dest prevent signal promise k;
      signal = λ z k. k;
      transform = λ z kind i j change k. k;
      tee = λ z source first second cancel k. k;
      port = λ z side stream backpressure k. k;
      bytes = λ z mark auto k. k;
      byob_requests = λ z hs k. k;
      readable = λ z owner mark size k. k;
      writable = λ z owner mark size k. k;
    }) c s k;
    job = λ s job e k. k;
    answered = λ s q k. k;
    older = λ s k. k;
  }

  begun-stays : (d : Done) → At d.slots → At (performed d)
  begun-stays d k = performed-goes {H = Unit {0}} tt (λ f g. tt) untold (λ e s. tt) (λ h s es. At s) (λ h s e es k. row-at e s k) tt d k

  named-stays : (reply : Reply) (s : Slots) → At s → At (named reply s)
  named-stays (Promise q) s k = k
  named-stays _ s k = k

first_there : (x : pipe.Slots) (o : Option pipe.Slots) → o ≡ Some x → IsThere x o
first_there x o e = record { slots = x; there = e; same = same_pipe x }

pub each_pipe_stays : EachPipeStays
each_pipe_stays p s = record {
  in_call = λ c x e.
      let d : Done = (begin c s).done in
      named-stays p x (begin c s).reply (performed d) (begun-stays p x d (first_there x (slice_get d.slots.pipes p.0) e));
  in_run = λ entries x e.
      run-stays (λ s es. IsThere x (slice_get s.pipes p.0)) (pipe-stays p x) (λ s k. k) entries s (first_there x (slice_get s.pipes p.0) e);
}
