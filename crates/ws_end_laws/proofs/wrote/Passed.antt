-- When a pipe acts that writes first what it read (`none_acts_while_a_chunk_is_left`).
use Rattle.std.proofs.Common.{◌≡◌, ℕ, Bool, true, false, nat_eq, List, [], ◌∷◌, ◌++◌, Option, Some, None, slice_get, refl, sym, ap, subst, ◌∙◌, append_assoc, append-nil, arith}
use Rattle.ws_value.specs.declared.{ids.PipeId.{PipeId}, value.Value.{Value}}
use Rattle.ws_steps.specs.declared.effects.Effect.{Effect}
use Rattle.ws_steps.specs.declared.effects.Effect.TheVariants.{Pipe as OnPipe}
use Rattle.ws_steps.specs.declared.pipes.{Phase.{Phase}, Phase.TheVariants.{Flowing, Waiting, Acting, Over}, PipeOperation.{PipeOperation}, PipeOperation.TheVariants.{WriteChunk}}
use Rattle.ws_steps.specs.Pipes as pipe
use Rattle.ws_steps.specs.Slots.{Slots, empty, pipe_at}
use Rattle.ws_steps.specs.Turns.{Moment, row}
use Rattle.ws_laws.proofs.Tables.{eq_numbers}
use Rattle.ws_laws.proofs.Walker.{GoesUntold, RestsUntold, run-holds}
use Rattle.ws_promise_laws.proofs.Acting.{EachWaits, waits-stays, waits-heard, none-waits}
use Rattle.ws_pipe_laws.specs.pipes.PipeHistory.{is_live, Through, through_then, held_goes, operation_through, effect_through, effect_moment}
use Rattle.ws_pipe_laws.specs.pipes.PipeReads.{IsPassing}
use Rattle.ws_pipe_laws.specs.pipes.PipeWrites.{AllSince, BeginsToAct, HasNothingLeft}
use Rattle.ws_pipe_laws.proofs.pipes.PassingRuns as passing
use Rattle.ws_pipe_laws.proofs.pipes.PassingRuns.{through_history, passing_of}
use Rattle.ws_pipe_laws.proofs.writes.Orderly.{moment, moments_history, row-orderly}
use Rattle.ws_pipe_laws.proofs.writes.Owed.{EachOwes, owes-stays, owes-heard, none-owes}
use Rattle.ws_end_laws.specs.wrote.WroteLaws.{through_in, IsPassedOn, NoneActsWhileAChunkIsLeft}

since-append : (P : List Moment → Moment → Type 0) (past ms : List Moment) (m : Moment) → AllSince P past ms → P (past ++ ms) m → AllSince P past (ms ++ m ∷ [])
since-append P past [] m a q = (subst (λ (h : List Moment). P h m) (append-nil past) q, tt)
since-append P past (x ∷ ms) m a q =
    (a.0, since-append P (past ++ x ∷ []) ms m a.1 (subst (λ (h : List Moment). P h m) (sym (append_assoc past (x ∷ []) ms)) q))

-- a live pipe drops nothing

live_drops : (phase : Phase) (held : Option Value) → is_live phase ≡ true → (held_goes phase held).dropped ≡ []
live_drops phase None l = refl
live_drops Flowing (Some v) l = refl
live_drops Waiting (Some v) l = refl
live_drops Acting (Some v) l = cc
live_drops Over (Some v) l = cc

operation_drops : (operation : PipeOperation) (x : pipe.Slots) → is_live x.phase ≡ true → (operation_through operation x).dropped ≡ []
operation_drops WriteChunk x l = live_drops x.phase x.held l
operation_drops operation x l = refl

-- nothing is left
passed_on : (h : Through) (x : pipe.Slots) → IsPassing h x → x.held ≡ None → h.dropped ≡ [] → IsPassedOn h
passed_on h x k e d = record { passed = let all : h.read ≡ h.passed ++ [] = rw (d, e) at k.all in sym (all ∙ append-nil h.passed); dropped = d }

module _ (p : PipeId) where
  drops : (q : PipeId) (operation : PipeOperation) (s : Slots) (b : Bool) → nat_eq p.0 q.0 ≡ b → is_live (pipe_at p s).phase ≡ true → (effect_through p (OnPipe q operation) s).dropped ≡ []
  drops q operation s true e l =
      let is : p ≡ q = ap (λ (n : ℕ). record { 0 = n }) (eq_numbers p.0 q.0 e) in
      let live : is_live (pipe_at q s).phase ≡ true = subst (λ (r : PipeId). is_live (pipe_at r s).phase ≡ true) is l in
      rw e (operation_drops operation (pipe_at q s) live)
  drops q operation s false e l = rw e refl

  effect_drops : (e : Effect) (s : Slots) → is_live (pipe_at p s).phase ≡ true → (effect_through p e s).dropped ≡ []
  effect_drops (OnPipe q operation) s l = drops q operation s (nat_eq p.0 q.0) refl l
  effect_drops e s l = refl

  through_last : (ms : List Moment) (e : Effect) (s : Slots) → through_in p (ms ++ moment e s ∷ []) ≡ through_then (through_in p ms) (effect_through p e s)
  through_last [] e s = through_history.right (effect_through p e s) ∙ sym (through_history.left (effect_through p e s))
  through_last (m ∷ ms) e s =
      ap (through_then (effect_through p m.effect m.found)) (through_last ms e s) ∙ sym (through_history.assoc (effect_through p m.effect m.found) (through_in p ms) (effect_through p e s))

  abbrev pub Passes : List Moment → Moment → Type 0
  Passes past m = BeginsToAct p m → IsPassedOn (through_in p (past ++ m ∷ []))

  abbrev Is : List Moment → Slots → List Effect → Type 0
  Is h s es = AllSince Passes [] h × (passing.Is p (through_in p h) s es × (EachWaits s es × EachOwes s es))

  next-is : (h : List Moment) (s : Slots) (e : Effect) (es : List Effect) → passing.Is p (through_in p h) s (e ∷ es) → passing.Is p (through_in p (h ++ moment e s ∷ [])) (row e s).slots ((row e s).caused ++ es)
  next-is h s e es k = subst (λ (t : Through). passing.Is p t (row e s).slots ((row e s).caused ++ es)) (sym (through_last h e s)) ((passing.goes p).row (through_in p h) s e es k)

  row-passes : (h : List Moment) (s : Slots) (e : Effect) (es : List Effect) → Is h s (e ∷ es) → Passes h (moment e s)
  row-passes h s e es k b =
      let z : Slots = (row e s).slots in
      let t : Through = through_in p (h ++ moment e s ∷ []) in
      let before : IsPassing (through_in p h) (pipe_at p s) = passing_of (through_in p h) (slice_get s.pipes p.0) k.1.0.1 in
      let after : IsPassing t (pipe_at p z) = passing_of t (slice_get z.pipes p.0) (next-is h s e es k.1.0).1 in
      let none : HasNothingLeft p z = row-orderly p e s es (k.1.1.0 p) (k.1.1.1 p) b in
      let dropped : t.dropped ≡ [] = ap (λ (f : Through). f.dropped) (through_last h e s) ∙ both (through_in p h).dropped (effect_through p e s).dropped (before.live b.live) (effect_drops e s b.live) in
      passed_on t (pipe_at p z) after none.held dropped
    where
      both : (xs ys : List Value) → xs ≡ [] → ys ≡ [] → xs ++ ys ≡ []
      both xs ys e f = rw (e, f) refl

  goes : GoesUntold ◌++◌ effect_moment Is
  goes = record {
    row = λ h s e es k. (since-append Passes [] h (moment e s) k.0 (row-passes h s e es k), (next-is h s e es k.1.0, (waits-stays.row s e es k.1.1.0, owes-stays.row s e es k.1.1.1)));
    call = λ h s c k. (k.0, ((passing.goes p).call (through_in p h) s c k.1.0, (waits-stays.call s c k.1.1.0, owes-stays.call s c k.1.1.1)));
    job = λ h s job e k. (k.0, ((passing.goes p).job (through_in p h) s job e k.1.0, (waits-stays.job s job e k.1.1.0, owes-stays.job s job e k.1.1.1)));
    answered = λ h s q k. (k.0, ((passing.goes p).answered (through_in p h) s q k.1.0, (waits-stays.answered s q k.1.1.0, owes-stays.answered s q k.1.1.1)));
    older = λ h s k. (k.0, ((passing.goes p).older (through_in p h) s k.1.0, (waits-stays.older s k.1.1.0, owes-stays.older s k.1.1.1)));
  }

  rests : RestsUntold Is
  rests = record { heard = λ h s k. (k.0, ((passing.rests p).heard (through_in p h) s k.1.0, (waits-heard s k.1.1.0, owes-heard s k.1.1.1))) }

pub none_acts_while_a_chunk_is_left : NoneActsWhileAChunkIsLeft
none_acts_while_a_chunk_is_left entries p =
    (run-holds [] ◌++◌ moments_history effect_moment (Is p) (goes p) (rests p) entries empty (tt, ((omega arith, refl), ((λ q. none-waits q), (λ q. none-owes q))))).0
