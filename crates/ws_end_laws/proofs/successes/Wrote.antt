-- A pipe that isn't live makes no write any more, so what holds of its writes then holds however the run goes on.
use Rattle.std.proofs.Common.{◌≡◌, ℕ, Bool, true, false, nat_eq, if◌then◌else◌, get_or, List, [], ◌∷◌, ◌++◌, Option, Some, slice_get, refl, sym, ap, subst, ◌∙◌, arith, append-nil}
use Rattle.ws_value.specs.declared.{ids.PipeId.{PipeId}, ids.PromiseId.{PromiseId}, ids.StreamId.{StreamId}}
use Rattle.ws_value.specs.declared.value.{Outcome.TheVariants.{Fulfilled}, Plain.{Plain}, Plain.TheVariants.{Undefined}, Value.{Value}}
use Rattle.ws_steps.specs.declared.effects.Effect.{Effect}
use Rattle.ws_steps.specs.declared.effects.Effect.TheVariants.{Pipe}
use Rattle.ws_steps.specs.declared.pipes.{Phase.{Phase}, Phase.TheVariants.{Flowing, Waiting, Acting, Over}, PipeOperation.{PipeOperation}, PipeOperation.TheVariants.{WriteChunk}}
use Rattle.ws_steps.specs.Histories.{in_step, over}
use Rattle.ws_steps.specs.Laws.{AllFulfilled}
use Rattle.ws_steps.specs.Operations.{pipe_operation}
use Rattle.ws_steps.specs.Pipes as pipe
use Rattle.ws_steps.specs.Promises.{next_id, outcome_at}
use Rattle.ws_steps.specs.Run.{Entry, run}
use Rattle.ws_steps.specs.Slots.{Slots, Done, empty, as_pipe, pipe_at, ends_at, put_pipe, on_pipe_at}
use Rattle.ws_steps.specs.Turns.{row}
use Rattle.ws_laws.proofs.Stays.{each_outcome_stays}
use Rattle.ws_laws.proofs.Tables.{eq_numbers}
use Rattle.ws_laws.proofs.Walker.{GoesUntold, RestsUntold, run-goes_untold}
use Rattle.ws_pipe_laws.specs.pipes.PipeHistory.{is_live, is_over, effect_promises, held_promise, operation_promises, promises_made, run_moments}
use Rattle.ws_pipe_laws.specs.pipes.PipeMoves.{starting, Move, MoveRests, MoveWaits, MoveActs, MoveEnds, MoveFinishes}
use Rattle.ws_pipe_laws.proofs.pipes.Courses.{place_same}
use Rattle.ws_pipe_laws.proofs.pipes.Moves.{each_pipe_moves}
use Rattle.ws_end_laws.proofs.wrote.Fronts.{over-append, run-append}
use Rattle.ws_end_laws.proofs.ends.PromiseEnds.{each_promise_is_open_until_the_end}
use Rattle.ws_end_laws.proofs.hosts.Acts.{NotOf}
use Rattle.ws_end_laws.proofs.hosts.Called.{lists-history}
use Rattle.ws_end_laws.proofs.hosts.PipedRuns.{call-there}
use Rattle.ws_end_laws.proofs.hosts.Made.{over_made}
use Rattle.ws_end_laws.specs.successes.Successes.{EachWriteOfAnUnfailingPipeSucceeded}
use Rattle.ws_end_laws.proofs.successes.Successes.{each_write_before_a_failure_succeeded}
use Rattle.ws_laws.proofs.Truth.{false_true}
use Rattle.ws_end_laws.proofs.hosts.Places.{other_there, self}

module _ (p : PipeId) where
  record Late (h : List PromiseId) (s : Slots) (es : List Effect) : Type 0 where
    x : pipe.Slots
    there : slice_get s.pipes p.0 ≡ Some x
    late : is_live x.phase ≡ false
    none : h ≡ []

  flowing_live : (phase : Phase) → phase ≡ Flowing → is_live phase ≡ true
  flowing_live phase e = ap is_live e

  move-late : (operation : PipeOperation) (x : pipe.Slots) (s : Slots) (b : pipe.Acts) → is_live x.phase ≡ false → Move p (ends_at x s) operation x s.promises b → is_live b.slots.phase ≡ false
  move-late operation x s b l (MoveRests f a e idle) = ap is_live f ∙ l
  move-late operation x s b l (MoveWaits f e m w o) = false_true (is_live x.phase) (ap is_live f) l
  move-late operation x s b l (MoveActs action y e m h o alike) = false_true (is_live x.phase) m.live l
  move-late operation x s b l (MoveEnds e m h o) = false_true (is_live x.phase) m.live l
  move-late operation x s b l (MoveFinishes r f e o) = ap (λ (y : pipe.Slots). is_live y.phase) e

  pub none_promised : (operation : PipeOperation) (x : pipe.Slots) (d : PromiseId) → is_live x.phase ≡ false → operation_promises operation x d ≡ []
  none_promised WriteChunk x d l = by x.phase x.held l
    where
      by : (phase : Phase) (o : Option Value) → is_live phase ≡ false → held_promise phase o d ≡ []
      by Flowing o l = absurd (cc)
      by Waiting o l = absurd (cc)
      by Acting o l = refl
      by Over o l = refl
  none_promised operation x d l = refl

  other-late : (h : List PromiseId) (s : Slots) (e : Effect) (es : List Effect) → NotOf p e → effect_promises p e s ≡ [] → Late h s (e ∷ es) → Late (h ++ effect_promises p e s) (row e s).slots ((row e s).caused ++ es)
  other-late h s e es n none k = record { x = k.x; there = other_there p e s n ∙ k.there; late = k.late; none = ap (λ (ds : List PromiseId). ds ++ effect_promises p e s) k.none ∙ none }

  own-late : (h : List PromiseId) (s : Slots) (operation : PipeOperation) (es : List Effect) → let e : Effect = Pipe p operation in Late h s (e ∷ es) → Late (h ++ effect_promises p e s) (row e s).slots ((row e s).caused ++ es)
  unfolding row
  own-late h s operation es k =
      let x : pipe.Slots = k.x in
      let b : pipe.Acts = pipe_operation p (ends_at x s) operation (starting x s.promises) in
      let same : row (Pipe p operation) s ≡ put_pipe p s b = ap (on_pipe_at (λ ends. pipe_operation p ends operation) p s) k.there in
      let made : effect_promises p (Pipe p operation) s ≡ [] =
      ap (λ (c : Bool). if c then operation_promises operation (pipe_at p s) (next_id s.promises) else []) (self p)
      ∙ (ap (λ (y : pipe.Slots). operation_promises operation y (next_id s.promises)) (ap as_pipe k.there) ∙ none_promised operation x (next_id s.promises) k.late) in
      record {
        x = b.slots;
        there = ap (λ (c : Done). slice_get c.slots.pipes p.0) same ∙ place_same s.pipes p.0 x b.slots k.there;
        late = move-late operation x s b k.late (each_pipe_moves p (ends_at x s) operation x s.promises);
        none = ap (λ (ds : List PromiseId). ds ++ effect_promises p (Pipe p operation) s) k.none ∙ made;
      }

  pipe-late : (h : List PromiseId) (s : Slots) (q : PipeId) (operation : PipeOperation) (es : List Effect) (same : Bool) → nat_eq p.0 q.0 ≡ same → let e : Effect = Pipe q operation in Late h s (e ∷ es) → Late (h ++ effect_promises p e s) (row e s).slots ((row e s).caused ++ es)
  pipe-late h s q operation es false n k = other-late h s (Pipe q operation) es n (ap (λ (b : Bool). if b then operation_promises operation (pipe_at q s) (next_id s.promises) else []) n) k
  pipe-late h s q operation es true n k =
      subst (λ (r : PipeId). Late h s (Pipe r operation ∷ es) → Late (h ++ effect_promises p (Pipe r operation) s) (row (Pipe r operation) s).slots ((row (Pipe r operation) s).caused ++ es)) (ap (λ (n : ℕ). record { 0 = n }) (eq_numbers p.0 q.0 n))
      (own-late h s operation es) k

  row-late : (h : List PromiseId) (s : Slots) (e : Effect) (es : List Effect) → Late h s (e ∷ es) → Late (h ++ effect_promises p e s) (row e s).slots ((row e s).caused ++ es)
  row-late h s (Pipe q operation) es k = pipe-late h s q operation es (nat_eq p.0 q.0) refl k
  row-late h s e es k = other-late h s e es tt refl k

  late-goes : GoesUntold ◌++◌ (effect_promises p) Late
  late-goes = record {
    row = row-late;
    call = λ h s c k. record { x = k.x; there = call-there p (record { 0 = 0 }) k.x c s k.there; late = k.late; none = k.none };
    job = λ h s job e k. record { x = k.x; there = k.there; late = k.late; none = k.none };
    answered = λ h s q k. record { x = k.x; there = k.there; late = k.late; none = k.none };
    older = λ h s k. record { x = k.x; there = k.there; late = k.late; none = k.none };
  }

  late-rests : RestsUntold Late
  late-rests = record { heard = λ h s k. record { x = k.x; there = k.there; late = k.late; none = k.none } }

  abbrev made : List Entry → Slots → List PromiseId
  made xs s = over [] ◌++◌ (λ s x. in_step [] ◌++◌ (effect_promises p) s x) xs s

  none-more : (ys : List Entry) (s : Slots) (x : pipe.Slots) → slice_get s.pipes p.0 ≡ Some x → is_live x.phase ≡ false → made ys s ≡ []
  none-more ys s x e l = (run-goes_untold [] ◌++◌ lists-history (effect_promises p) Late late-goes late-rests ys [] s (record { x = x; there = e; late = l; none = refl })).none

  -- it makes the same writes however the run goes on
  pub same-made : (xs ys : List Entry) (x : pipe.Slots) → slice_get (run xs empty).pipes p.0 ≡ Some x → is_live x.phase ≡ false → promises_made p (run_moments (xs ++ ys) empty) ≡ promises_made p (run_moments xs empty)
  same-made xs ys x e l =
      let i : StreamId = record { 0 = 0 } in
      sym (over_made p (xs ++ ys) empty)
      ∙ (over-append [] ◌++◌ lists-history (λ s x. in_step [] ◌++◌ (effect_promises p) s x) xs ys empty
      ∙ (ap (λ (ds : List PromiseId). made xs empty ++ ds) (none-more ys (run xs empty) x e l) ∙ (append-nil (made xs empty) ∙ over_made p xs empty)))

all-stay : (s : Slots) (ys : List Entry) (ds : List PromiseId) → AllFulfilled s.promises ds → AllFulfilled (run ys s).promises ds
all-stay s ys ds a = λ n d h. each_outcome_stays s ys (get_or ds n d) (Fulfilled Undefined) refl (a n d h)

over_late : (phase : Phase) → is_over phase ≡ true → is_live phase ≡ false
over_late phase e = grind (arith, e)

-- a pipe whose promise is fulfilled is over
pub fulfilled-late : (entries : List Entry) (p : PipeId) (x : pipe.Slots) (v : Plain) → slice_get (run entries empty).pipes p.0 ≡ Some x → outcome_at (run entries empty).promises x.promise ≡ Some (Fulfilled v) → is_live x.phase ≡ false
fulfilled-late entries p x v e f = by (is_over x.phase) refl
  where
    by : (b : Bool) → is_over x.phase ≡ b → is_live x.phase ≡ false
    by true g = over_late x.phase g
    by false g = let k = ((each_promise_is_open_until_the_end entries p x e).before g).1 in absurd (cc)

pub each_write_of_an_unfailing_pipe_succeeded : EachWriteOfAnUnfailingPipeSucceeded
each_write_of_an_unfailing_pipe_succeeded entries more p x v e f n =
    let l = fulfilled-late entries p x v e f in
    let now : AllFulfilled (run entries empty).promises (promises_made p (run_moments entries empty)) = each_write_before_a_failure_succeeded entries p x e l n in
    subst (λ (s : Slots). AllFulfilled s.promises (promises_made p (run_moments (entries ++ more) empty))) (sym (run-append entries more empty))
    (subst (AllFulfilled (run more (run entries empty)).promises) (sym (same-made p entries more x e l)) (all-stay (run entries empty) more (promises_made p (run_moments entries empty)) now))
