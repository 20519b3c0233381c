-- The reads of a readable stream as pipes and signals go on.
use Rattle.std.proofs.Common.{◌≡◌, ℕ, ◌+◌, Bool, is_some, List, [], ◌∷◌, ◌++◌, Option, Some, None, slice_get, slice_set, refl, sym, ap, subst, ◌∙◌, append-nil, arith}
use Rattle.ws_value.specs.declared.{ids.PipeId.{PipeId}, ids.StreamId.{StreamId}}
use Rattle.ws_value.specs.declared.value.{Plain.{Plain}}
use Rattle.ws_steps.specs.declared.{effects.Effect.{Effect}, effects.Effect.TheVariants.{Readable as OnReadable, Pipe as OnPipe, Signal as OnSignal, ChunkSteps, CloseSteps, ErrorSteps}}
use Rattle.ws_steps.specs.declared.pipes.{Phase.TheVariants.{Over}, PipeOperation.{PipeOperation}, SignalOperation.{SignalOperation}, SignalOperation.TheVariants.{Add, Forget, Trigger}}
use Rattle.ws_steps.specs.declared.pipes.PipeOperation.TheVariants.{Look, LookReady, KeepChunk, ReadEnded, WriteChunk, GoOn, WriteEnded, Abort as AbortPipe, ActionSettled, PartSettled, NoParts}
use Rattle.ws_steps.specs.Histories.{is_same}
use Rattle.ws_steps.specs.Operations.{signal_operation}
use Rattle.ws_steps.specs.Pipes as pipe
use Rattle.ws_steps.specs.Pipes.{abort_all, trigger_unless}
use Rattle.ws_steps.specs.Readable as readable
use Rattle.ws_steps.specs.Slots.{Slots, found, ends_at, readable_at}
use Rattle.ws_laws.proofs.OnReadable.{Holders, holders, with_pipe, piped, all_seen}
use Rattle.ws_laws.proofs.Lists.{Each}
use Rattle.ws_laws.proofs.PipeDoes.{PipeCauses, pipe-causes}
use Rattle.ws_laws.proofs.Tables.{either}
use Rattle.ws_promise_laws.proofs.Acting.{EachWaits, waits-expects}
use Rattle.ws_promise_laws.proofs.Piping.{PipeExpects}
use Rattle.ws_read_laws.proofs.Holding.{readers, teeing, holds, holding, holding-set, sources-set, owners, Clear}
use Rattle.ws_read_laws.proofs.Piping.{operation-fits}
use Rattle.ws_read_laws.proofs.Marks.{Mark, Stands, Aborts, pipe_mark, signal_mark, marks, pending, pending-append}
use Rattle.ws_read_laws.proofs.Told.{Told, Held, Unmade}
use Rattle.ws_steps.specs.declared.effects.Effect.TheVariants.{CloseStepsWith}

module _ (i : StreamId) where
  -- operations of pipes

  mark_pending : (operation : PipeOperation) (ms : List Mark) → pending (pipe_mark operation ++ ms) ≡ pending ms
  mark_pending operation ms = grind arith

  effect_pending : (p : PipeId) (source dest : StreamId) (e : Effect) → PipeCauses p source dest e → pending (marks i e) ≡ []
  effect_pending p source dest (OnReadable j operation) c = either (λ (ms : List Mark). pending ms ≡ []) (is_same i j) (Stands operation ∷ []) [] (λ e. refl) (λ e. refl)
  effect_pending p source dest (OnPipe q operation) c = ap pending (sym (append-nil (pipe_mark operation))) ∙ mark_pending operation []
  effect_pending p source dest (ChunkSteps j request v) c = absurd c
  effect_pending p source dest (CloseSteps j request) c = absurd c
  effect_pending p source dest (CloseStepsWith j request b) c = absurd c
  effect_pending p source dest (ErrorSteps j request e) c = absurd c
  effect_pending p source dest (OnSignal a operation) c = signal_pending operation
    where
      signal_pending : (operation : SignalOperation) → pending (signal_mark operation) ≡ []
      signal_pending operation = grind arith
  effect_pending p source dest _ c = refl

  pipe_pending : (p : PipeId) (source dest : StreamId) (es : List Effect) → Each (PipeCauses p source dest) es → pending (all_seen (marks i) es) ≡ []
  pipe_pending p source dest [] c = refl
  pipe_pending p source dest (e ∷ es) c = pending-append (marks i e) (all_seen (marks i) es) ∙ (rw (effect_pending p source dest e c.0, pipe_pending p source dest es c.1) refl)

  -- the pipe as it would be if it were over
  abbrev spent : pipe.Slots → pipe.Slots
  spent x = record x { phase = Over }

  pub pipe-held : (p : PipeId) (operation : PipeOperation) (s : Slots) (x : pipe.Slots) (ms : List Mark) → PipeExpects operation (Some x) → slice_get s.pipes p.0 ≡ Some x → (h : Told) → Held i h (holders s) (readable_at i s) (pipe_mark operation ++ ms)
      → let b : pipe.Acts = piped p operation s x in Held i h (with_pipe p b.slots s) (readable_at i s) (all_seen (marks i) b.out.effects ++ ms)
  pipe-held p operation s x ms expected e h k =
      let a : pipe.Acts = record { slots = x; out = found s } in
      let b : pipe.Acts = piped p operation s x in
      let locked : Bool = is_some (readable_at i s).reader in
      let causes = (pipe-causes p (ends_at x s) operation a tt).1.1 in
      let n : ℕ = readers i s.locks + (holding i (slice_set s.pipes p.0 (spent x)) + teeing i s.tees) in
      let before : owners i (holders s) ≡ n + holds i x = let f = holding-set i p.0 s.pipes x (spent x) e in omega (arith, f) in
      let after : owners i (with_pipe p b.slots s) ≡ n + holds i b.slots = let f = holding-set i p.0 s.pipes x (spent x) e in let g = holding-set i p.0 s.pipes x b.slots e in omega (arith, f, g) in
      let found_clear : Clear (n + holds i x) locked (pipe_mark operation ++ ms) = subst (λ (m : ℕ). Clear m locked (pipe_mark operation ++ ms)) before k.clear in
      let left = operation-fits i p n locked ms (ends_at x s) operation a expected refl found_clear in
      let pend : pending (all_seen (marks i) b.out.effects ++ ms) ≡ pending (pipe_mark operation ++ ms) =
      pending-append (all_seen (marks i) b.out.effects) ms ∙ (rw (pipe_pending p x.source x.dest b.out.effects causes) (sym (mark_pending operation ms))) in
      record {
        line = k.line;
        given = k.given;
        covers = λ d is. rw pend (k.covers d is);
        chunks = rw pend k.chunks;
        clear = subst (λ (m : ℕ). Clear m locked (all_seen (marks i) b.out.effects ++ ms)) (sym after) left;
      }

  pub pipe-unmade : (p : PipeId) (operation : PipeOperation) (s : Slots) (x : pipe.Slots) → slice_get s.pipes p.0 ≡ Some x → (h : Told) → Unmade i h (holders s) → Unmade i h (with_pipe p (piped p operation s x).slots s)
  pipe-unmade p operation s x e h u =
      let source = (pipe-causes p (ends_at x s) operation (record { slots = x; out = found s }) tt).0 in
      let same = sources-set i p.0 s.pipes x (piped p operation s x).slots e source in
      record { free = let n = u.free in omega (arith, n, same); unasked = u.unasked }

  -- the mark of an operation of a pipe goes
  mark_gone : (n : ℕ) (locked : Bool) (operation : PipeOperation) (ms : List Mark) → Clear n locked (pipe_mark operation ++ ms) → Clear n locked ms
  mark_gone n locked (KeepChunk v) ms c = c
  mark_gone n locked ReadEnded ms c = c
  mark_gone n locked (PartSettled o) ms c = c
  mark_gone n locked NoParts ms c = c
  mark_gone n locked (AbortPipe r) ms c = c.1
  mark_gone n locked _ ms c = rw c.0 c.1

  pub no_pipe-held : (p : PipeId) (operation : PipeOperation) (h : Told) (o : Holders) (r : readable.Slots) (ms : List Mark) → Held i h o r (pipe_mark operation ++ ms) → Held i h o r ms
  no_pipe-held p operation h o r ms k = record {
    line = k.line;
    given = k.given;
    covers = λ d is. rw (mark_pending operation ms) at (k.covers d is);
    chunks = rw (mark_pending operation ms) at k.chunks;
    clear = mark_gone (owners i o) (is_some r.reader) operation ms k.clear;
  }

  -- and of a signal, which has pipes abort

  aborts_pending : (r : Plain) (ps : List PipeId) (ms : List Mark) → pending (all_seen (marks i) (abort_all r ps) ++ ms) ≡ pending ms
  aborts_pending r [] ms = refl
  aborts_pending r (p ∷ ps) ms = aborts_pending r ps ms

  aborts_clear : (n : ℕ) (locked : Bool) (r : Plain) (ps : List PipeId) (ms : List Mark) → pending ms ≡ [] → Clear n locked ms → Clear n locked (all_seen (marks i) (abort_all r ps) ++ ms)
  aborts_clear n locked r [] ms e c = c
  aborts_clear n locked r (p ∷ ps) ms e c = (aborts_pending r ps ms ∙ e, aborts_clear n locked r ps ms e c)

  trigger-held : (r : Plain) (x : pipe.Signal) (reason : Option Plain) (h : Told) (o : Holders) (z : readable.Slots) (ms : List Mark) → Held i h o z (Aborts ∷ ms) → Held i h o z (all_seen (marks i) (trigger_unless r x reason).effects ++ ms)
  trigger-held r x (Some old) h o z ms k = record { line = k.line; given = k.given; covers = k.covers; chunks = k.chunks; clear = k.clear.1 }
  trigger-held r x None h o z ms k = record {
    line = k.line;
    given = k.given;
    covers = λ d is. rw (aborts_pending r x.pipes ms) (k.covers d is);
    chunks = rw (aborts_pending r x.pipes ms) k.chunks;
    clear = aborts_clear (owners i o) (is_some z.reader) r x.pipes ms k.clear.0 k.clear.1;
  }

  pub signal-held : (operation : SignalOperation) (x : pipe.Signal) (h : Told) (o : Holders) (z : readable.Slots) (ms : List Mark) → Held i h o z (signal_mark operation ++ ms) → Held i h o z (all_seen (marks i) (signal_operation operation x).effects ++ ms)
  signal-held (Add p) x h o z ms k = k
  signal-held (Forget p) x h o z ms k = k
  signal-held (Trigger r) x h o z ms k = trigger-held r x x.reason h o z ms k

  pub no_signal-held : (operation : SignalOperation) (h : Told) (o : Holders) (z : readable.Slots) (ms : List Mark) → Held i h o z (signal_mark operation ++ ms) → Held i h o z ms
  no_signal-held (Add p) h o z ms k = k
  no_signal-held (Forget p) h o z ms k = k
  no_signal-held (Trigger r) h o z ms k = record { line = k.line; given = k.given; covers = k.covers; chunks = k.chunks; clear = k.clear.1 }

  -- what is known of each pipe: it goes on where its action has ended
  pub known_expects : (p : PipeId) (operation : PipeOperation) (s : Slots) (x : pipe.Slots) (es : List Effect) → EachWaits s (OnPipe p operation ∷ es) → slice_get s.pipes p.0 ≡ Some x → PipeExpects operation (Some x)
  known_expects p (ActionSettled o) s x es known e = rw e at (waits-expects p o s es (known p))
  known_expects p Look s x es known e = tt
  known_expects p LookReady s x es known e = tt
  known_expects p (KeepChunk v) s x es known e = tt
  known_expects p ReadEnded s x es known e = tt
  known_expects p WriteChunk s x es known e = tt
  known_expects p GoOn s x es known e = tt
  known_expects p WriteEnded s x es known e = tt
  known_expects p (AbortPipe r) s x es known e = tt
  known_expects p (PartSettled o) s x es known e = tt
  known_expects p NoParts s x es known e = tt
