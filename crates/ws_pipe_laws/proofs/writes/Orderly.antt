-- When a pipe acts that writes first what it read (`each_pipe_acts_in_order`).
use Rattle.std.proofs.Common.{◌≡◌, ◌⊎◌, ℕ, ◌≤◌, Bool, true, false, nat_eq, List, [], ◌∷◌, ◌++◌, Option, Some, None, Result, slice_get, slice_set, zero, suc, refl, sym, ap, subst, ◌∙◌, append_assoc, append-nil, arith}
use Rattle.ws_value.specs.declared.{ids.PipeId.{PipeId}, value.Plain.{Plain}}
use Rattle.ws_steps.specs.declared.effects.Effect.{Effect}
use Rattle.ws_steps.specs.declared.effects.Effect.TheVariants.{Pipe as OnPipe}
use Rattle.ws_steps.specs.declared.pipes.{Ends.{Ends}, Phase.{Phase}, Phase.TheVariants.{Flowing, Waiting, Acting, Over}, PipeOperation.{PipeOperation}, PipeOperation.TheVariants.{ActionSettled}}
use Rattle.ws_steps.specs.Operations.{pipe_operation}
use Rattle.ws_pipe_laws.specs.pipes.PipeHistory.{is_live, effect_moment}
use Rattle.ws_pipe_laws.specs.pipes.PipeMoves.{starting, writes_first, Move, MoveRests, MoveWaits, MoveActs, MoveEnds, MoveFinishes}
use Rattle.ws_pipe_laws.specs.pipes.PipeWrites.{of_write, AllMoments, leaves, BeginsToAct, HasNothingLeft, EachPipeActsInOrder}
use Rattle.ws_steps.specs.Pipes as pipe
use Rattle.ws_steps.specs.Pipes.{Acts}
use Rattle.ws_steps.specs.Promises.{Table}
use Rattle.ws_steps.specs.Slots.{Slots, empty, ends_at, as_pipe, pipe_at, on_pipe_at}
use Rattle.ws_steps.specs.Turns.{Moment, row}
use Rattle.ws_steps.proofs.PromiseLaws.{slice_get-set_other}
use Rattle.ws_laws.proofs.Apart.{IsNoPipe, row-pipes}
use Rattle.ws_laws.proofs.Tables.{eq_numbers, unequal_numbers}
use Rattle.ws_laws.proofs.Truth.{false_true}
use Rattle.ws_laws.proofs.Walker.{IsHistory, GoesUntold, RestsUntold, run-holds}
use Rattle.ws_promise_laws.proofs.Acting.{EachWaits, Waits, waits-stays, waits-heard, none-waits}
use Rattle.ws_promise_laws.proofs.PipeActs.{acts_now, is_acting}
use Rattle.ws_promise_laws.proofs.Tokens.{one_if}
use Rattle.ws_pipe_laws.proofs.pipes.Moves.{each_pipe_moves}
use Rattle.ws_pipe_laws.proofs.writes.Counts.{same_weight}
use Rattle.ws_pipe_laws.proofs.writes.Owed.{EachOwes, Owes, unsettled_of, owes-stays, owes-heard, none-owes, row-owes}

abbrev pub moment : Effect → Slots → Moment
moment e s = record { effect = e; found = s }

pub moments_history : IsHistory {H = List Moment} [] ◌++◌
moments_history = record { left = λ h. refl; right = λ h. append-nil h; assoc = λ f g h. append_assoc f g h }

pub all_moments-append : (P : Moment → Type 0) (ms : List Moment) (m : Moment) → AllMoments P ms → P m → AllMoments P (ms ++ m ∷ [])
all_moments-append P [] m a q = (q, tt)
all_moments-append P (x ∷ ms) m a q = (a.0, all_moments-append P ms m a.1 q)

-- what a pipe leaves that begins to act

not_acting : (x : pipe.Slots) → is_live x.phase ≡ true → one_if (acts_now (Some x)) ≡ 0
not_acting x l = by x.phase l
  where
    by : (phase : Phase) → is_live phase ≡ true → one_if (is_acting phase) ≡ 0
    by Flowing l = refl
    by Waiting l = refl
    by Acting l = cc
    by Over l = refl

left_by : (p : PipeId) (ends : Ends) (operation : PipeOperation) (x : pipe.Slots) (t : Table) (b : Acts) → Move p ends operation x t b → ((o : Result Plain Plain) → operation ≡ ActionSettled o → ⊥)
    → is_live x.phase ≡ true → is_live b.slots.phase ≡ false → (x.phase ≡ Waiting) ⊎ (writes_first ends ≡ true) → (b.slots.held ≡ None) × (b.slots.unsettled ≡ 0)
left_by p ends operation x t b (MoveRests q a e i) n l m w = false_true (is_live b.slots.phase) (ap is_live q ∙ l) m
left_by p ends operation x t b (MoveWaits f q k v e) n l m w = false_true (is_live b.slots.phase) (ap (λ (z : pipe.Slots). is_live z.phase) q) m
left_by p ends operation x t b (MoveActs z y q k h e s) n l m w = let j = h w in (s.held ∙ j.0, s.unsettled ∙ j.1)
left_by p ends operation x t b (MoveEnds q k h e) n l m w = h w
left_by p ends operation x t b (MoveFinishes o e q f) n l m w = absurd (n o e)

place_same : (ps : List pipe.Slots) (n : ℕ) (x y : pipe.Slots) → slice_get ps n ≡ Some x → slice_get (slice_set ps n y) n ≡ Some y
place_same [] n x y e = cc
place_same (z ∷ ps) zero x y e = refl
place_same (z ∷ ps) (suc n) x y e = place_same ps n x y e

module _ (p : PipeId) where
  -- where the pipe's place stays, it doesn't begin to act
  still : {A : Type 0} (s z : Slots) → slice_get z.pipes p.0 ≡ slice_get s.pipes p.0 → is_live (pipe_at p s).phase ≡ true → is_live (pipe_at p z).phase ≡ false → A
  still s z e l m = false_true (is_live (pipe_at p z).phase) (ap (λ (o : Option pipe.Slots). is_live (as_pipe o).phase) e ∙ l) m

  abbrev IsOrderly : Moment → Type 0
  IsOrderly m = BeginsToAct p m → HasNothingLeft p (leaves m)

  self : nat_eq p.0 p.0 ≡ true
  self = grind arith

  -- a live pipe's action isn't settled
  unsettled_action : (operation : PipeOperation) (s : Slots) (es : List Effect) (x : pipe.Slots) → slice_get s.pipes p.0 ≡ Some x → Waits p s (OnPipe p operation ∷ es) → is_live x.phase ≡ true
      → (o : Result Plain Plain) → operation ≡ ActionSettled o → ⊥
  unsettled_action operation s es x e w l o is =
      let v : Waits p s (OnPipe p (ActionSettled o) ∷ es) = subst (λ (z : PipeOperation). Waits p s (OnPipe p z ∷ es)) is w in
      let one : one_if (nat_eq p.0 p.0) ≡ 1 = ap one_if self in
      let none = not_acting x l in
      let here : one_if (acts_now (slice_get s.pipes p.0)) ≡ one_if (acts_now (Some x)) = ap (λ (o : Option pipe.Slots). one_if (acts_now o)) e in
      absurd (omega (arith, v, one, none, here))

  own_place : (operation : PipeOperation) (s : Slots) (es : List Effect) (o : Option pipe.Slots) → slice_get s.pipes p.0 ≡ o → Waits p s (OnPipe p operation ∷ es)
      → let z : Slots = (on_pipe_at (λ ends. pipe_operation p ends operation) p s o).slots in
      is_live (as_pipe o).phase ≡ true → is_live (pipe_at p z).phase ≡ false → ((as_pipe o).phase ≡ Waiting) ⊎ (writes_first (ends_at (as_pipe o) s) ≡ true)
      → ((pipe_at p z).held ≡ None) × ((pipe_at p z).unsettled ≡ 0)
  own_place operation s es None e w l m f = cc
  own_place operation s es (Some x) e w l m f =
      let b : Acts = pipe_operation p (ends_at x s) operation (starting x s.promises) in
      let place : slice_get (slice_set s.pipes p.0 b.slots) p.0 ≡ Some b.slots = place_same s.pipes p.0 x b.slots e in
      let acts : is_live b.slots.phase ≡ false = rw place at m in
      rw place (left_by p (ends_at x s) operation x s.promises b (each_pipe_moves p (ends_at x s) operation x s.promises) (unsettled_action operation s es x e w l) l acts f)

  pub unsettled_at : (s : Slots) → unsettled_of (slice_get s.pipes p.0) ≤ (pipe_at p s).unsettled
  unsettled_at s = by (slice_get s.pipes p.0)
    where
      by : (o : Option pipe.Slots) → unsettled_of o ≤ (as_pipe o).unsettled
      by None = omega arith
      by (Some x) = omega arith

  nothing_left : (z : Slots) (es : List Effect) → Owes p z es → (pipe_at p z).held ≡ None → (pipe_at p z).unsettled ≡ 0 → HasNothingLeft p z
  nothing_left z es w h u =
      let n = unsettled_at z in
      let m = same_weight (of_write p) z.promises in
      record { held = h; unsettled = u; reactions = omega (arith, w, n, m, u) }

  own_row : (operation : PipeOperation) (s : Slots) (es : List Effect) → Waits p s (OnPipe p operation ∷ es) → Owes p s (OnPipe p operation ∷ es) → IsOrderly (moment (OnPipe p operation) s)
  unfolding row
  own_row operation s es w o b =
      let d = on_pipe_at (λ ends. pipe_operation p ends operation) p s (slice_get s.pipes p.0) in
      let k = own_place operation s es (slice_get s.pipes p.0) refl w b.live b.acts b.first in
      nothing_left d.slots (d.caused ++ es) (row-owes p s (OnPipe p operation) es o) k.0 k.1

  other_place : (q : PipeId) (operation : PipeOperation) (s : Slots) (o : Option pipe.Slots) → nat_eq p.0 q.0 ≡ false → slice_get (on_pipe_at (λ ends. pipe_operation q ends operation) q s o).slots.pipes p.0 ≡ slice_get s.pipes p.0
  other_place q operation s None n = refl
  other_place q operation s (Some x) n = slice_get-set_other s.pipes q.0 p.0 _ (λ i. unequal_numbers p.0 q.0 n (sym i))

  pipe_row : (q : PipeId) (operation : PipeOperation) (s : Slots) (es : List Effect) (same : Bool) → same ≡ nat_eq p.0 q.0 → Waits p s (OnPipe q operation ∷ es) → Owes p s (OnPipe q operation ∷ es)
      → IsOrderly (moment (OnPipe q operation) s)
  unfolding row
  pipe_row q operation s es false n w o b = still s (leaves (moment (OnPipe q operation) s)) (other_place q operation s (slice_get s.pipes q.0) (sym n)) b.live b.acts
  pipe_row q operation s es true n w o b =
      let is : p ≡ q = ap (λ (n : ℕ). record { 0 = n }) (eq_numbers p.0 q.0 (sym n)) in
      subst (λ (z : PipeId). Waits p s (OnPipe z operation ∷ es) → Owes p s (OnPipe z operation ∷ es) → IsOrderly (moment (OnPipe z operation) s)) is (own_row operation s es) w o b

  apart : (e : Effect) (s : Slots) → IsNoPipe e → IsOrderly (moment e s)
  apart e s n b = still s (row e s).slots (ap (λ (ps : List pipe.Slots). slice_get ps p.0) (row-pipes e s n)) b.live b.acts

  pub row-orderly : (e : Effect) (s : Slots) (es : List Effect) → Waits p s (e ∷ es) → Owes p s (e ∷ es) → IsOrderly (moment e s)
  row-orderly (OnPipe q operation) s es w o = pipe_row q operation s es (nat_eq p.0 q.0) refl w o
  row-orderly e s es w o = apart e s tt

  -- over every run

  abbrev Is : List Moment → Slots → List Effect → Type 0
  Is h s es = AllMoments IsOrderly h × (EachWaits s es × EachOwes s es)

  goes : GoesUntold ◌++◌ effect_moment Is
  goes = record {
    row = λ h s e es k. (all_moments-append IsOrderly h (moment e s) k.0 (row-orderly e s es (k.1.0 p) (k.1.1 p)), (waits-stays.row s e es k.1.0, owes-stays.row s e es k.1.1));
    call = λ h s c k. (k.0, (waits-stays.call s c k.1.0, owes-stays.call s c k.1.1));
    job = λ h s job e k. (k.0, (waits-stays.job s job e k.1.0, owes-stays.job s job e k.1.1));
    answered = λ h s q k. (k.0, (waits-stays.answered s q k.1.0, owes-stays.answered s q k.1.1));
    older = λ h s k. (k.0, (waits-stays.older s k.1.0, owes-stays.older s k.1.1));
  }

  rests : RestsUntold Is
  rests = record { heard = λ h s k. (k.0, (waits-heard s k.1.0, owes-heard s k.1.1)) }

pub each_pipe_acts_in_order : EachPipeActsInOrder
each_pipe_acts_in_order entries p =
    (run-holds [] ◌++◌ moments_history effect_moment (Is p) (goes p) (rests p) entries empty (tt, ((λ q. none-waits q), (λ q. none-owes q)))).0
