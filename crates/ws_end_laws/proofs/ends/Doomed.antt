-- A pipe that closes a destination that fails ends with an error: the promise of its action isn't fulfilled, and it hears so.
use Rattle.std.proofs.Common.{◌≡◌, ◌⊎◌, inl, inr, true, false, nat_eq, List, [], ◌∷◌, ◌++◌, Option, Some, None, Result, Err, refl, sym, ap, subst, ◌∙◌, append-nil, arith}
use Rattle.ws_value.specs.declared.{ids.PipeId.{PipeId}, ids.PromiseId.{PromiseId}, ids.StreamId.{StreamId}, value.Plain.{Plain}}
use Rattle.ws_steps.specs.declared.effects.{Effect.{Effect}, Effect.TheVariants.{Writable as OnWritable, Pipe as OnPipe}}
use Rattle.ws_steps.specs.declared.pipes.{Action.{Action}, Action.TheVariants.{CloseDest}, Ends.{Ends}, Phase.{Phase}, Phase.TheVariants.{Flowing, Waiting, Acting, Over}, Prevent.{Prevent}, PipeOperation.{PipeOperation}}
use Rattle.ws_steps.specs.declared.pipes.PipeOperation.TheVariants.{ActionSettled}
use Rattle.ws_steps.specs.declared.writable.WritableOperation.TheVariants.{ClosePropagating}
use Rattle.ws_steps.specs.Operations.{pipe_operation}
use Rattle.ws_steps.specs.Pipes as pipe
use Rattle.ws_steps.specs.Pipes.{action_settled, finalize}
use Rattle.ws_steps.specs.Promises.{Table, next_id, fresh, pending}
use Rattle.ws_steps.specs.Slots.{Slots, ends_at, pipe_at, writable_at}
use Rattle.ws_steps.specs.Turns.{Moment}
use Rattle.ws_steps.specs.Writable as writable
use Rattle.ws_steps.proofs.PromiseLaws.{entry_at-fresh_new}
use Rattle.ws_laws.proofs.Lists.{Each, each-append, each-map}
use Rattle.ws_laws.proofs.Outcomes.{Keeps}
use Rattle.ws_laws.proofs.PipeDoes.{PipeCauses, pipe-causes, pipe-does}
use Rattle.ws_laws.proofs.Truth.{false_true}
use Rattle.ws_pipe_laws.specs.pipes.PipeHistory.{Shutdown, shutdown, shutdown_by, is_live, is_over, Course, no_course, course_then, ended_by, operation_course, effect_course}
use Rattle.ws_pipe_laws.specs.pipes.PipeMoves.{starting, leaving, hears_action, acted, IsNamed, Move, MoveRests, MoveWaits, MoveActs, MoveEnds, MoveFinishes}
use Rattle.ws_pipe_laws.proofs.pipes.Moves.{each_pipe_moves}
use Rattle.ws_pipe_laws.proofs.writes.Orderly.{moment}
use Rattle.ws_steps.specs.Histories.{along}
use Rattle.ws_end_laws.proofs.ends.EndedPromises.{IsLast, operation-keeps, none-comes, one-comes, over-move}
use Rattle.ws_end_laws.proofs.ends.Failing.{Unclosed, Failing}
use Rattle.ws_end_laws.proofs.ends.Hearing.{Heard, Registered, Queued, Well, Made, heard-fresh, heard-settle, heard-micro, made-fresh, made-settle, made-micro, queued-fresh, queued-settle, queued-micro}
use Rattle.ws_end_laws.proofs.ends.Rejections.{IsRejected, rejected-keeps}

-- the pipe flowed at this moment, and its destination was erroring or errored, and wasn't closing
pub record FailsAt (p : PipeId) (m : Moment) : Type 0 where
  pub flowing : (pipe_at p m.found).phase ≡ Flowing
  pub failing : Failing (writable_at (pipe_at p m.found).dest m.found)
  pub unclosed : Unclosed (writable_at (pipe_at p m.found).dest m.found)

-- an effect that doesn't tell pipe p that its action settled
abbrev pub NotTold : PipeId → Effect → Type 0
NotTold p (OnPipe q (ActionSettled o)) = nat_eq p.0 q.0 ≡ false
NotTold p _ = Unit {0}

-- an effect stands among these
abbrev pub InEffects : Effect → List Effect → Type 0
InEffects e [] = ⊥
InEffects e (f ∷ es) = (f ≡ e) ⊎ InEffects e es

pub in-behind : (e : Effect) (es fs : List Effect) → InEffects e fs → InEffects e (es ++ fs)
in-behind e [] fs k = k
in-behind e (f ∷ es) fs k = inr (in-behind e es fs k)

-- what happened to the pipe in these moments
abbrev pub course_in : PipeId → List Moment → Course
course_in p ms = along no_course course_then (effect_course p) ms

-- the close isn't fulfilled: it is still asked of a stream that fails, or its promise is rejected
abbrev pub Unfulfilled : PromiseId → writable.Slots → Table → Type 0
Unfulfilled d w t = ((w.close_request ≡ Some d) × Failing w) ⊎ IsRejected d t

-- how far such a pipe is: it asks its destination to close; it is to react to the promise of that; it does, or its job is queued; it hears of an
-- error; or it ended with one
pub data Doomed (p : PipeId) (h : List Moment) (x : pipe.Slots) (w : writable.Slots) (t : Table) (es : List Effect) : Type 0 where
  Asks : (d : PromiseId) (rest : List Effect) → x.phase ≡ Acting → es ≡ OnWritable x.dest (ClosePropagating d) ∷ hears_action p d ∷ rest → Unclosed w → Failing w → Made p d t → Each (NotTold p) es
      → Doomed p h x w t es
  Gives : (d : PromiseId) → x.phase ≡ Acting → Unfulfilled d w t → InEffects (hears_action p d) es → Made p d t → Each (NotTold p) es → Doomed p h x w t es
  Opens : (d : PromiseId) → x.phase ≡ Acting → Unfulfilled d w t → Registered p d t ⊎ Well p d t → Each (NotTold p) es → Doomed p h x w t es
  Queues : (d : PromiseId) → x.phase ≡ Acting → Queued p d t → Each (NotTold p) es → Doomed p h x w t es
  Hears : (r : Plain) (rest : List Effect) → x.phase ≡ Acting → es ≡ OnPipe p (ActionSettled (Err r)) ∷ rest → Doomed p h x w t es
  Failed : (e : Plain) → x.phase ≡ Over → IsLast (Some e) (course_in p h).ended → Doomed p h x w t es

pub heard-on : (p : PipeId) (d : PromiseId) (h : List Moment) (x : pipe.Slots) (w : writable.Slots) (t : Table) (es : List Effect) → x.phase ≡ Acting → Unfulfilled d w t → Heard p d t → Each (NotTold p) es → Doomed p h x w t es
heard-on p d h x w t es a u (inl k) n = Opens d a u (inl k) n
heard-on p d h x w t es a u (inr (inl k)) n = Queues d a k n
heard-on p d h x w t es a u (inr (inr k)) n = Opens d a u (inr k) n

pub open-heard : (p : PipeId) (d : PromiseId) (t : Table) → Registered p d t ⊎ Well p d t → Heard p d t
open-heard p d t (inl k) = inl k
open-heard p d t (inr k) = inr (inr k)

-- an operation of the pipe

self : (p : PipeId) → nat_eq p.0 p.0 ≡ true
self p = grind arith

pub pipe-told : (p q : PipeId) (source dest : StreamId) (e : Effect) → PipeCauses q source dest e → NotTold p e
pipe-told p q source dest e c = grind (arith, c)

same_head : (e f : Effect) (es fs : List Effect) → e ∷ es ≡ f ∷ fs → (e ≡ f) × (es ≡ fs)
same_head e f es fs k = (cc, cc)

-- a pipe whose shutdown has no error, and that may close its destination, does
closes-only : (prevent : Prevent) (ends : Ends) (operation : PipeOperation) (action : Option Action) → prevent.close ≡ false → shutdown_by prevent ends operation ≡ Some (shutdown action None) → action ≡ Some CloseDest
closes-only prevent ends operation action n e = grind (arith, n, e)

pipe_op : (p : PipeId) (f g : PipeOperation) → OnPipe p f ≡ OnPipe p g → f ≡ g
pipe_op p f g e = cc

over_phase : (phase : Phase) → is_over phase ≡ true → phase ≡ Over
over_phase Flowing o = cc
over_phase Waiting o = cc
over_phase Acting o = cc
over_phase Over o = refl

finishes : (p : PipeId) (ends : Ends) (x : pipe.Slots) (t : Table) (r : Plain) → (pipe_operation p ends (ActionSettled (Err r)) (starting x t)).slots.phase ≡ Over
unfolding action_settled finalize
finishes p ends x t r = refl

module _ (p : PipeId) (operation : PipeOperation) (s : Slots) (x : pipe.Slots) (h : List Moment) (es : List Effect) (w : writable.Slots) where
  abbrev b : pipe.Acts
  b = pipe_operation p (ends_at x s) operation (starting x s.promises)

  abbrev m : Moment
  m = moment (OnPipe p operation) s

  move : Move p (ends_at x s) operation x s.promises b
  move = each_pipe_moves p (ends_at x s) operation x s.promises

  keeps : Keeps s.promises b.out.promises
  keeps = operation-keeps p (ends_at x s) operation x s.promises

  next-told : Each (NotTold p) es → Each (NotTold p) (b.out.effects ++ es)
  next-told n =
      each-append (NotTold p) b.out.effects es (each-map (PipeCauses p x.source x.dest) (NotTold p) (pipe-told p p x.source x.dest) b.out.effects (pipe-causes p (ends_at x s) operation (starting x s.promises) tt).1.1) n

  next-heard : (d : PromiseId) → Heard p d s.promises → Heard p d b.out.promises
  next-heard d k =
      pipe-does (Heard p d) (record { fresh = λ t k. heard-fresh p d t k; settle = λ t q o k. heard-settle p d t q o k; micro = λ t m k. heard-micro p d t m k }) p (ends_at x s) operation (starting x s.promises) k

  next-made : (d : PromiseId) → Made p d s.promises → Made p d b.out.promises
  next-made d k =
      pipe-does (Made p d) (record { fresh = λ t k. made-fresh p d t k; settle = λ t q o k. made-settle p d t q o k; micro = λ t m k. made-micro p d t m k }) p (ends_at x s) operation (starting x s.promises) k

  next-queued : (d : PromiseId) → Queued p d s.promises → Queued p d b.out.promises
  next-queued d k =
      pipe-does (Queued p d) (record { fresh = λ t k. queued-fresh p d t k; settle = λ t q o k. queued-settle p d t q o k; micro = λ t m k. queued-micro p d t m k }) p (ends_at x s) operation (starting x s.promises) k

  next-unfulfilled : (d : PromiseId) → Unfulfilled d w s.promises → Unfulfilled d w b.out.promises
  next-unfulfilled d (inl k) = inl k
  next-unfulfilled d (inr k) = inr (rejected-keeps d s.promises b.out.promises keeps k)

  -- while its action is under way and it isn't told of its end, that goes on
  still-acting : x.phase ≡ Acting → NotTold p (OnPipe p operation) → b.slots.phase ≡ Acting
  still-acting a n = by move
    where
      by : Move p (ends_at x s) operation x s.promises b → b.slots.phase ≡ Acting
      by (MoveRests q k e i) = q ∙ a
      by (MoveWaits f q k v e) = let c : Acting ≡ Flowing = sym a ∙ f in absurd (cc)
      by (MoveActs z y q k v is l) = false_true (is_live x.phase) k.live (ap is_live a)
      by (MoveEnds q k v e) = false_true (is_live x.phase) k.live (ap is_live a)
      by (MoveFinishes o is q e) = false_true (nat_eq p.0 p.0) (self p) (subst (λ (f : PipeOperation). NotTold p (OnPipe p f)) is n)

  -- the course of the pipe
  module _ (course : course_in p (h ++ m ∷ []) ≡ course_then (course_in p h) (operation_course operation x b.slots)) where
    last-on : (e : Plain) → is_over x.phase ≡ true → IsLast (Some e) (course_in p h).ended → IsLast (Some e) (course_in p (h ++ m ∷ [])).ended
    last-on e o l =
        (l.0, ap (λ (f : Course). f.ended) course ∙ (ap (λ (vs : List (Option Plain)). (course_in p h).ended ++ vs) (none-comes operation x b.slots o) ∙ (append-nil (course_in p h).ended ∙ l.1)))

    last-here : (r : Plain) → operation ≡ ActionSettled (Err r) → x.phase ≡ Acting → b.slots.phase ≡ Over → IsLast (Some r) (course_in p (h ++ m ∷ [])).ended
    last-here r is a o = (
      (course_in p h).ended,
      ap (λ (f : Course). f.ended) course
          ∙ (ap (λ (vs : List (Option Plain)). (course_in p h).ended ++ vs) (one-comes operation x b.slots (ap is_over a) (ap is_over o)) ∙ ap (λ (f : PipeOperation). (course_in p h).ended ++ ended_by f b.slots ∷ []) is),
    )

    -- it goes on to be doomed
    pub own-doomed : Doomed p h x w s.promises (OnPipe p operation ∷ es) → Doomed p (h ++ m ∷ []) b.slots w b.out.promises (b.out.effects ++ es)
    own-doomed (Asks d rest a is u f k n) = let c = (same_head (OnPipe p operation) (OnWritable x.dest (ClosePropagating d)) es (hears_action p d ∷ rest) is).0 in absurd (cc)
    own-doomed (Gives d a u (inl is) k n) = absurd (cc)
    own-doomed (Gives d a u (inr i) k n) = Gives d (still-acting a n.0) (next-unfulfilled d u) (in-behind (hears_action p d) b.out.effects es i) (next-made d k) (next-told n.1)
    own-doomed (Opens d a u k n) = heard-on p d (h ++ m ∷ []) b.slots w b.out.promises (b.out.effects ++ es) (still-acting a n.0) (next-unfulfilled d u) (next-heard d (open-heard p d s.promises k)) (next-told n.1)
    own-doomed (Queues d a k n) = Queues d (still-acting a n.0) (next-queued d k) (next-told n.1)
    own-doomed (Hears r rest a is) =
        let k : operation ≡ ActionSettled (Err r) = pipe_op p operation (ActionSettled (Err r)) (same_head (OnPipe p operation) (OnPipe p (ActionSettled (Err r))) es rest is).0 in
        let o : b.slots.phase ≡ Over = subst (λ (f : PipeOperation). (pipe_operation p (ends_at x s) f (starting x s.promises)).slots.phase ≡ Over) (sym k) (finishes p (ends_at x s) x s.promises r) in
        Failed r o (last-here r k a o)
    own-doomed (Failed e o l) = Failed e (over_phase b.slots.phase (over-move p (ends_at x s) operation x s.promises b (ap is_over o) move)) (last-on e (ap is_over o) l)

  -- the pipe begins to close a destination that fails

  error_of : (y : pipe.Slots) (e : Option Plain) → y.error ≡ e → shutdown y.action y.error ≡ shutdown y.action e
  error_of y e k = ap (λ (r : Option Plain). shutdown y.action r) k

  -- a pipe that flows isn't told that its action settled
  abbrev Untold : Type 0
  Untold = (o : Result Plain Plain) → operation ≡ ActionSettled o → ⊥

  starts-close : (y : pipe.Slots) → x.phase ≡ Flowing → x.prevent.close ≡ false → y.error ≡ None → IsNamed (ends_at x s) operation x y → y.action ≡ Some CloseDest
  starts-close y f n e named =
      closes-only x.prevent (ends_at x s) operation y.action n (named.starts f ∙ ap (λ (k : Shutdown). Some k) (error_of y None e))

  pub begins-doomed : Untold → is_live x.phase ≡ true → is_live b.slots.phase ≡ false → x.phase ≡ Flowing → x.prevent.close ≡ false → b.slots.error ≡ None → Unclosed w → Failing w → Each (NotTold p) es
      → Doomed p (h ++ m ∷ []) b.slots w b.out.promises (b.out.effects ++ es)
  begins-doomed untold l sh f n e u k told = by move
    where
      done : Type 0
      done = Doomed p (h ++ m ∷ []) b.slots w b.out.promises (b.out.effects ++ es)

      closing : (y : pipe.Slots) → y.phase ≡ Acting → b ≡ acted p (ends_at x s) y s.promises CloseDest → done
      closing y a is =
          let d : PromiseId = next_id s.promises in
          let c : pipe.Acts = leaving y (fresh s.promises) (OnWritable y.dest (ClosePropagating d) ∷ hears_action p d ∷ []) in
          subst (λ (c : pipe.Acts). Doomed p (h ++ m ∷ []) c.slots w c.out.promises (c.out.effects ++ es)) (sym is)
          (Asks d es a refl u k (record { entry = pending; there = entry_at-fresh_new s.promises d refl }) (tt, (tt, told)))

      acts : (action : Action) (y : pipe.Slots) → y.action ≡ Some action → y.phase ≡ Acting → y.error ≡ None → IsNamed (ends_at x s) operation x y → b ≡ acted p (ends_at x s) y s.promises action → done
      acts action y z a r named is =
          let close : Some action ≡ Some CloseDest = sym z ∙ starts-close y f n r named in
          let same : action ≡ CloseDest = some action CloseDest close in
          closing y a (is ∙ ap (λ (k : Action). acted p (ends_at x s) y s.promises k) same)
        where
          some : (a c : Action) → ◌≡◌ {A = Option Action} (Some a) (Some c) → a ≡ c
          some a c e = cc

      by : Move p (ends_at x s) operation x s.promises b → done
      by (MoveRests q z r i) = false_true (is_live b.slots.phase) (ap is_live q ∙ l) sh
      by (MoveWaits g q named v r) = false_true (is_live b.slots.phase) (ap (λ (y : pipe.Slots). is_live y.phase) q) sh
      by (MoveActs action y q named v is alike) =
          acts action y (ap (λ (y : pipe.Slots). y.action) q) (ap (λ (y : pipe.Slots). y.phase) q) (sym alike.error ∙ e) named is
      by (MoveEnds q named v r) =
          let none : b.slots.action ≡ None = ap (λ (y : pipe.Slots). y.action) q in
          let close : ◌≡◌ {A = Option Action} None (Some CloseDest) = sym none ∙ starts-close b.slots f n e named in
          absurd (cc)
      by (MoveFinishes o is q r) = absurd (untold o is)
