-- A pipe whose destination isn't writable, or is closing, as the pipe is made makes no write, over every run.
use Rattle.std.proofs.Common.{◌≡◌, ℕ, ◌+◌, ◌≤◌, Bool, true, false, nat_eq, List, [], ◌∷◌, ◌++◌, length, Option, Some, None, slice_get, refl, sym, ap, subst, ◌∙◌, append_assoc, arith}
use Rattle.ws_value.specs.declared.{ids.PipeId.{PipeId}, ids.PromiseId.{PromiseId}, ids.StreamId.{StreamId}}
use Rattle.ws_steps.specs.declared.calls.{Call.{Call}, Reply.{Reply}, Reply.TheVariants.{Promise as Named}}
use Rattle.ws_steps.specs.declared.effects.{Effect.{Effect}, Effect.TheVariants.{Pipe as OnPipe}}
use Rattle.ws_steps.specs.declared.pipes.PipeOperation.{PipeOperation}
use Rattle.ws_steps.specs.Calls.{begin, named}
use Rattle.ws_steps.specs.Histories.{in_step, over}
use Rattle.ws_steps.specs.Operations.{pipe_operation}
use Rattle.ws_steps.specs.Pipes as pipe
use Rattle.ws_steps.specs.Promises.{next_id}
use Rattle.ws_steps.specs.Run.{Entry, Called, run, step}
use Rattle.ws_steps.specs.Slots.{Slots, Stream, empty, as_writable, as_pipe, ends_at, has_writable, is_writable_stream, pipe_at, writable_at, on_pipe_at}
use Rattle.ws_steps.specs.Turns.{row, performed}
use Rattle.ws_steps.specs.WritableHistory.{Writes, writes_then, effect_writes, run_writes}
use Rattle.ws_steps.proofs.PromiseLaws.{slice_get-set_other}
use Rattle.ws_laws.proofs.Apart.{row-pipes}
use Rattle.ws_laws.proofs.Tables.{eq_numbers, unequal_numbers}
use Rattle.ws_laws.proofs.Walker.{GoesUntold, RestsUntold, performed-goes, run-goes_untold}
use Rattle.ws_writable_laws.proofs.Agenda.{Kept}
use Rattle.ws_writable_laws.proofs.Runs as writes
use Rattle.ws_writable_laws.proofs.Shape.{all}
use Rattle.ws_pipe_laws.specs.pipes.PipeHistory.{Through, through_then, effect_through, run_through, effect_promises, operation_promises}
use Rattle.ws_pipe_laws.specs.pipes.PipeMoves.{starting}
use Rattle.ws_pipe_laws.specs.pipes.PipeReads.{held_values, in_streams, one_if}
use Rattle.ws_pipe_laws.proofs.pipes.PassingRuns as passing
use Rattle.ws_pipe_laws.proofs.pipes.PassingRuns.{place_same}
use Rattle.ws_pipe_laws.proofs.pipes.Reading.{of_effect}
use Rattle.ws_end_laws.proofs.wrote.Fronts.{dest-operation, over-append}
use Rattle.ws_end_laws.proofs.ends.Streaming.{row-keeps}
use Rattle.ws_end_laws.proofs.hosts.Called.{lists-history}
use Rattle.ws_end_laws.proofs.hosts.Dests.{row-there}
use Rattle.ws_end_laws.proofs.hosts.PipedRuns.{SamePlace, call-there, call-same}
use Rattle.ws_end_laws.proofs.hosts.Spent.{Spent, spent-operation}
use Rattle.ws_end_laws.proofs.hosts.Unread.{spent-unwanting, operation-idle, none-written}

self : (p : PipeId) → nat_eq p.0 p.0 ≡ true
self p = grind arith

module _ (p : PipeId) (i : StreamId) where
  -- the pipe stands there, its destination is stream i, and it isn't reading
  pub record Sits (ps : List pipe.Slots) : Type 0 where
    pub slots : pipe.Slots
    pub there : slice_get ps p.0 ≡ Some slots
    pub dest : slots.dest ≡ i
    pub idle : slots.reading ≡ false

  -- the destination isn't writable, or is closing, and the pipe has made no write
  pub record Unread (h : List PromiseId) (s : Slots) (es : List Effect) : Type 0 where
    pub through : Through
    pub passing : passing.Is p through s es
    pub writes : Writes
    pub kept : Kept i writes s es
    pub stands : has_writable i s ≡ true
    pub spent : Spent (writable_at i s)
    pub sits : Sits s.pipes
    pub none : h ≡ []

  some_pipe : (x y : pipe.Slots) → ◌≡◌ {A = Option pipe.Slots} (Some x) (Some y) → x ≡ y
  some_pipe x y e = cc

  -- operations of pipes

  own-sits : (operation : PipeOperation) (s : Slots) (o : Option pipe.Slots) → slice_get s.pipes p.0 ≡ o → Spent (writable_at i s) → Sits s.pipes → Sits (on_pipe_at (λ ends. pipe_operation p ends operation) p s o).slots.pipes
  own-sits operation s None e w k = k
  own-sits operation s (Some x) e w k =
      let b : pipe.Acts = pipe_operation p (ends_at x s) operation (starting x s.promises) in
      let is : k.slots ≡ x = some_pipe k.slots x (sym k.there ∙ e) in
      let dest : x.dest ≡ i = subst (λ (y : pipe.Slots). y.dest ≡ i) is k.dest in
      let idle : x.reading ≡ false = subst (λ (y : pipe.Slots). y.reading ≡ false) is k.idle in
      let spent : Spent (writable_at x.dest s) = subst (λ (j : StreamId). Spent (writable_at j s)) (sym dest) w in
      record {
        slots = b.slots;
        there = place_same s.pipes p.0 x b.slots e;
        dest = dest-operation p i (ends_at x s) operation x s.promises dest;
        idle = operation-idle p (ends_at x s) (spent-unwanting x s spent) operation x s.promises idle;
      }

  other-sits : (q : PipeId) (operation : PipeOperation) (s : Slots) (o : Option pipe.Slots) → nat_eq p.0 q.0 ≡ false → Sits s.pipes → Sits (on_pipe_at (λ ends. pipe_operation q ends operation) q s o).slots.pipes
  other-sits q operation s None n k = k
  other-sits q operation s (Some x) n k =
      record { slots = k.slots; there = slice_get-set_other s.pipes q.0 p.0 _ (λ i. unequal_numbers p.0 q.0 n (sym i)) ∙ k.there; dest = k.dest; idle = k.idle }

  own_row : (operation : PipeOperation) (s : Slots) → Spent (writable_at i s) → Sits s.pipes → Sits (row (OnPipe p operation) s).slots.pipes
  unfolding row
  own_row operation s w k = own-sits operation s (slice_get s.pipes p.0) refl w k

  pipe_row : (q : PipeId) (operation : PipeOperation) (s : Slots) (same : Bool) → nat_eq p.0 q.0 ≡ same → Spent (writable_at i s) → Sits s.pipes → Sits (row (OnPipe q operation) s).slots.pipes
  unfolding row
  pipe_row q operation s false n w k = other-sits q operation s (slice_get s.pipes q.0) n k
  pipe_row q operation s true n w k = subst (λ (r : PipeId). Sits (row (OnPipe r operation) s).slots.pipes) (ap (λ (n : ℕ). record { 0 = n }) (eq_numbers p.0 q.0 n)) (own_row operation s w k)

  row-sits : (s : Slots) (e : Effect) → Spent (writable_at i s) → Sits s.pipes → Sits (row e s).slots.pipes
  row-sits s (OnPipe q operation) w k = pipe_row q operation s (nat_eq p.0 q.0) refl w k
  row-sits s e w k = subst Sits (sym (row-pipes e s tt)) k

  -- it makes no write

  own-none : (operation : PipeOperation) (s : Slots) (es : List Effect) → passing.Few p s (OnPipe p operation ∷ es) → Sits s.pipes → operation_promises operation (pipe_at p s) (next_id s.promises) ≡ []
  own-none operation s es w k =
      let n : ℕ = in_streams p s.streams + all (of_effect p) (OnPipe p operation ∷ es) in
      let few : n + length (held_values k.slots.held) ≤ one_if k.slots.reading = subst (λ (o : Option pipe.Slots). n + passing.has_held o ≤ one_if (passing.reads_now o)) k.there w in
      ap (λ (o : Option pipe.Slots). operation_promises operation (as_pipe o) (next_id s.promises)) k.there
      ∙ none-written n operation k.slots (next_id s.promises) few k.idle

  pipe-none : (q : PipeId) (operation : PipeOperation) (s : Slots) (es : List Effect) (same : Bool) → nat_eq p.0 q.0 ≡ same → passing.Few p s (OnPipe q operation ∷ es) → Sits s.pipes → effect_promises p (OnPipe q operation) s ≡ []
  pipe-none q operation s es false n w k = rw n refl
  pipe-none q operation s es true n w k =
      let is : p ≡ q = ap (λ (n : ℕ). record { 0 = n }) (eq_numbers p.0 q.0 n) in
      subst (λ (r : PipeId). passing.Few p s (OnPipe r operation ∷ es) → effect_promises p (OnPipe r operation) s ≡ []) is (λ w. rw (self p) (own-none operation s es w k)) w

  row-none : (s : Slots) (e : Effect) (es : List Effect) → passing.Few p s (e ∷ es) → Sits s.pipes → effect_promises p e s ≡ []
  row-none s (OnPipe q operation) es w k = pipe-none q operation s es (nat_eq p.0 q.0) refl w k
  row-none s e es w k = refl

  -- each effect, and each step

  row-unread : (h : List PromiseId) (s : Slots) (e : Effect) (es : List Effect) → Unread h s (e ∷ es) → Unread (h ++ effect_promises p e s) (row e s).slots ((row e s).caused ++ es)
  row-unread h s e es k = record {
    through = through_then k.through (effect_through p e s);
    passing = (passing.goes p).row k.through s e es k.passing;
    writes = writes_then k.writes (effect_writes i e s);
    kept = (writes.goes i).row k.writes s e es k.kept;
    stands = row-there i s e k.stands;
    spent = row-keeps i Spent (λ operation. Unit {0}) (λ operation a c x w. spent-operation i operation a x w) s e k.writes es k.kept (λ operation is. tt) k.spent;
    sits = row-sits s e k.spent k.sits;
    none = ap (λ (ds : List PromiseId). ds ++ effect_promises p e s) k.none ∙ row-none s e es k.passing.0 k.sits;
  }

  call-unread : (h : List PromiseId) (s : Slots) (c : Call) → Unread h s [] → Unread h (begin c s).done.slots (begin c s).done.caused
  call-unread h s c k =
      let place : SamePlace i s (begin c s).done.slots = call-same p i c s k.stands in
      record {
        through = k.through;
        passing = (passing.goes p).call k.through s c k.passing;
        writes = k.writes;
        kept = (writes.goes i).call k.writes s c k.kept;
        stands = ap is_writable_stream place ∙ k.stands;
        spent = subst (λ (o : Option Stream). Spent (as_writable o)) (sym place) k.spent;
        sits = record { slots = k.sits.slots; there = call-there p i k.sits.slots c s k.sits.there; dest = k.sits.dest; idle = k.sits.idle };
        none = k.none;
      }

  unread-goes : GoesUntold ◌++◌ (effect_promises p) Unread
  unread-goes = record {
    row = row-unread;
    call = call-unread;
    job = λ h s job e k. record { through = k.through; passing = (passing.goes p).job k.through s job e k.passing; writes = k.writes; kept = (writes.goes i).job k.writes s job e k.kept; stands = k.stands; spent = k.spent; sits = k.sits; none = k.none };
    answered = λ h s q k. record { through = k.through; passing = (passing.goes p).answered k.through s q k.passing; writes = k.writes; kept = (writes.goes i).answered k.writes s q k.kept; stands = k.stands; spent = k.spent; sits = k.sits; none = k.none };
    older = λ h s k. record { through = k.through; passing = (passing.goes p).older k.through s k.passing; writes = k.writes; kept = (writes.goes i).older k.writes s k.kept; stands = k.stands; spent = k.spent; sits = k.sits; none = k.none };
  }

  unread-rests : RestsUntold Unread
  unread-rests = record {
    heard = λ h s k. record { through = k.through; passing = (passing.rests p).heard k.through s k.passing; writes = k.writes; kept = (writes.rests i).heard k.writes s k.kept; stands = k.stands; spent = k.spent; sits = k.sits; none = k.none };
  }

  -- runs

  abbrev pub made : List Entry → Slots → List PromiseId
  made xs s = over [] ◌++◌ (λ s x. in_step [] ◌++◌ (effect_promises p) s x) xs s

  -- the call that makes the pipe, from where it has begun
  named-unread : (h : List PromiseId) (reply : Reply) (s : Slots) → Unread h s [] → Unread h (named reply s) []
  named-unread h (Named q) s k = unread-goes.answered h s q k
  named-unread h _ s k = k

  called-unread : (h : List PromiseId) (c : Call) (s : Slots) → Unread h (begin c s).done.slots (begin c s).done.caused → Unread (h ++ in_step [] ◌++◌ (effect_promises p) s (Called c)) (step s (Called c)) []
  called-unread h c s k =
      unread-goes.older _ _ (named-unread _ (begin c s).reply (performed (begin c s).done) (performed-goes [] ◌++◌ lists-history (effect_promises p) Unread row-unread h (begin c s).done k))

  -- a pipe that a call makes so
  pub none-made : (before after : List Entry) (c : Call) → let s : Slots = run before empty in let z : Slots = (begin c s).done.slots in
      made before empty ≡ [] → has_writable i z ≡ true → Spent (writable_at i z) → Sits z.pipes → made (before ++ Called c ∷ after) empty ≡ []
  none-made before after c none stands spent sits =
      let s : Slots = run before empty in
      let z : Slots = (begin c s).done.slots in
      let begun : Unread (made before empty) z (begin c s).done.caused = record {
        through = run_through p before empty;
        passing = (passing.goes p).call (run_through p before empty) s c (passing.each_is before p);
        writes = run_writes i before empty;
        kept = (writes.goes i).call (run_writes i before empty) s c (writes.run-kept before i);
        stands = stands;
        spent = spent;
        sits = sits;
        none = none;
      } in
      let h : List PromiseId = made before empty ++ in_step [] ◌++◌ (effect_promises p) s (Called c) in
      let k = run-goes_untold [] ◌++◌ lists-history (effect_promises p) Unread unread-goes unread-rests after h (step s (Called c)) (called-unread (made before empty) c s begun) in
      over-append [] ◌++◌ lists-history (λ s x. in_step [] ◌++◌ (effect_promises p) s x) before (Called c ∷ after) empty
      ∙ (sym (append_assoc (made before empty) (in_step [] ◌++◌ (effect_promises p) s (Called c)) (made after (step s (Called c)))) ∙ k.none)
