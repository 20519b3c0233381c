-- The pipes of a signal, and their order (`each_signal_keeps_order`).
use Rattle.std.proofs.Common.{◌≡◌, ◌⊎◌, inl, inr, ⊎_elim, ℕ, zero, suc, Bool, true, false, nat_eq, if◌then◌else◌, List, [], ◌∷◌, ◌++◌, Option, Some, None, slice_get, refl, sym, ap, subst, ◌∙◌, append_assoc, append-nil, arith}
use Rattle.ws_value.specs.declared.{ids.PipeId.{PipeId}, ids.SignalId.{SignalId}, value.Plain.{Plain}}
use Rattle.ws_steps.specs.declared.effects.Effect.{Effect}
use Rattle.ws_steps.specs.declared.effects.Effect.TheVariants.{Signal}
use Rattle.ws_steps.specs.declared.pipes.{SignalOperation.{SignalOperation}, SignalOperation.TheVariants.{Add, Forget, Trigger}}
use Rattle.ws_steps.specs.Operations.{signal_operation}
use Rattle.ws_steps.specs.Pipes as pipe
use Rattle.ws_steps.specs.Pipes.{trigger_unless, without, new_signal}
use Rattle.ws_steps.specs.Run.{run}
use Rattle.ws_steps.specs.Slots.{Slots, empty, as_signal, on_signal_at}
use Rattle.ws_steps.specs.Turns.{row}
use Rattle.ws_steps.proofs.PromiseLaws.{slice_get-set_other}
use Rattle.ws_laws.proofs.Begin.{begin-makes}
use Rattle.ws_laws.proofs.Tables.{eq_numbers, unequal_numbers}
use Rattle.ws_laws.proofs.Walker.{IsHistory, GoesUntold, RestsUntold, run-holds}
use Rattle.ws_pipe_laws.specs.pipes.PipeHistory.{effect_signalled, run_signalled, all_but, standing}
use Rattle.ws_pipe_laws.specs.pipes.SignalLaws.{EachSignalKeepsOrder}
use Rattle.ws_pipe_laws.proofs.pipes.Signals.{IsNoSignal, row-signals, signal_same}

in_order : IsHistory {H = List SignalOperation} [] ◌++◌
in_order = record { left = λ h. refl; right = λ h. append-nil h; assoc = λ f g h. append_assoc f g h }

-- what stands after further operations

standing-append : (ps : List PipeId) (xs ys : List SignalOperation) → standing ps (xs ++ ys) ≡ standing (standing ps xs) ys
standing-append ps [] ys = refl
standing-append ps (Add p ∷ xs) ys = standing-append (ps ++ p ∷ []) xs ys
standing-append ps (Forget p ∷ xs) ys = standing-append (all_but p ps) xs ys
standing-append ps (Trigger r ∷ xs) ys = standing-append ps xs ys

kept_or_not : (q : PipeId) (ps qs : List PipeId) (b : Bool) → ps ≡ qs → (if b then ps else q ∷ ps) ≡ (if b then qs else q ∷ qs)
kept_or_not q ps qs true e = e
kept_or_not q ps qs false e = ap (λ (rs : List PipeId). q ∷ rs) e

without_same : (p : PipeId) (ps : List PipeId) → without p ps ≡ all_but p ps
without_same p [] = refl
without_same p (q ∷ ps) = kept_or_not q (without p ps) (all_but p ps) (nat_eq p.0 q.0) (without_same p ps)

triggered_pipes : (r : Plain) (x : pipe.Signal) (o : Option Plain) → (trigger_unless r x o).signal.pipes ≡ x.pipes
triggered_pipes r x None = refl
triggered_pipes r x (Some old) = refl

operation_pipes : (operation : SignalOperation) (x : pipe.Signal) → (signal_operation operation x).signal.pipes ≡ standing x.pipes (operation ∷ [])
operation_pipes (Add p) x = refl
operation_pipes (Forget p) x = without_same p x.pipes
operation_pipes (Trigger r) x = triggered_pipes r x x.reason

operation_stands : (operation : SignalOperation) (x : pipe.Signal) (h : List SignalOperation) → x.pipes ≡ standing [] h → (signal_operation operation x).signal.pipes ≡ standing [] (h ++ operation ∷ [])
operation_stands operation x h k =
    operation_pipes operation x ∙ (ap (λ (ps : List PipeId). standing ps (operation ∷ [])) k ∙ sym (standing-append [] h (operation ∷ [])))

-- where there is no signal, nothing was done to it
abbrev Stands : List SignalOperation → Option pipe.Signal → Type 0
Stands h None = h ≡ []
Stands h (Some x) = x.pipes ≡ standing [] h

appended : (xs : List pipe.Signal) (y : pipe.Signal) (n : ℕ) → (slice_get (xs ++ y ∷ []) n ≡ slice_get xs n) ⊎ ((slice_get xs n ≡ None) × (slice_get (xs ++ y ∷ []) n ≡ Some y))
appended [] y zero = inr (refl, refl)
appended [] y (suc n) = inl refl
appended (x ∷ xs) y zero = inl refl
appended (x ∷ xs) y (suc n) = appended xs y n

module _ (a : SignalId) where
  abbrev Is : List SignalOperation → Slots → List Effect → Type 0
  Is h s es = Stands h (slice_get s.signals a.0)

  self : nat_eq a.0 a.0 ≡ true
  self = grind arith

  told_none : (operation : SignalOperation) (s : Slots) → slice_get s.signals a.0 ≡ None → effect_signalled a (Signal a operation) s ≡ []
  told_none operation s e = rw (self, e) refl

  told_some : (operation : SignalOperation) (s : Slots) (x : pipe.Signal) → slice_get s.signals a.0 ≡ Some x → effect_signalled a (Signal a operation) s ≡ operation ∷ []
  told_some operation s x e = rw (self, e) refl

  told_other : (b : SignalId) (operation : SignalOperation) (s : Slots) → nat_eq a.0 b.0 ≡ false → effect_signalled a (Signal b operation) s ≡ []
  told_other b operation s e = rw e refl

  own_place : (operation : SignalOperation) (h : List SignalOperation) (s : Slots) (o : Option pipe.Signal) → slice_get s.signals a.0 ≡ o → Stands h o
      → Is (h ++ effect_signalled a (Signal a operation) s) (on_signal_at (signal_operation operation) a s o).slots []
  own_place operation h s None e k = rw (told_none operation s e, append-nil, e) k
  own_place operation h s (Some x) e k =
      rw (told_some operation s x e, signal_same s.signals a.0 x (signal_operation operation x).signal e) (operation_stands operation x h k)

  own_row : (operation : SignalOperation) (h : List SignalOperation) (s : Slots) → Is h s [] → Is (h ++ effect_signalled a (Signal a operation) s) (row (Signal a operation) s).slots []
  unfolding row
  own_row operation h s k = own_place operation h s (slice_get s.signals a.0) refl k

  other_signal : (b : SignalId) (operation : SignalOperation) (s : Slots) (o : Option pipe.Signal) → nat_eq a.0 b.0 ≡ false
      → slice_get (on_signal_at (signal_operation operation) b s o).slots.signals a.0 ≡ slice_get s.signals a.0
  other_signal b operation s None n = refl
  other_signal b operation s (Some x) n = slice_get-set_other s.signals b.0 a.0 _ (λ i. unequal_numbers a.0 b.0 n (sym i))

  signal_row : (b : SignalId) (operation : SignalOperation) (h : List SignalOperation) (s : Slots) (same : Bool) → same ≡ nat_eq a.0 b.0 → Is h s []
      → Is (h ++ effect_signalled a (Signal b operation) s) (row (Signal b operation) s).slots []
  unfolding row
  signal_row b operation h s false n k =
      rw (told_other b operation s (sym n), append-nil, other_signal b operation s (slice_get s.signals b.0) (sym n)) k
  signal_row b operation h s true n k =
      let is : a ≡ b = ap (λ (n : ℕ). record { 0 = n }) (eq_numbers a.0 b.0 (sym n)) in
      subst (λ (z : SignalId). Is (h ++ effect_signalled a (Signal z operation) s) (row (Signal z operation) s).slots []) is (own_row operation h s k)

  other_row : (e : Effect) (h : List SignalOperation) (s : Slots) → IsNoSignal e → effect_signalled a e s ≡ [] → Is h s [] → Is (h ++ effect_signalled a e s) (row e s).slots []
  other_row e h s n told k = rw (told, append-nil, row-signals e s n) k

  row-order : (e : Effect) (h : List SignalOperation) (s : Slots) → Is h s [] → Is (h ++ effect_signalled a e s) (row e s).slots []
  row-order (Signal b operation) h s k = signal_row b operation h s (nat_eq a.0 b.0) refl k
  row-order e h s k = other_row e h s tt refl k

  made : (h : List SignalOperation) (s : Slots) → Is h s [] → Is h (record s { signals = s.signals ++ new_signal ∷ [] }) []
  made h s k =
      ⊎_elim (λ (e : slice_get (s.signals ++ new_signal ∷ []) a.0 ≡ slice_get s.signals a.0). rw e k)
      (λ (e : (slice_get s.signals a.0 ≡ None) × (slice_get (s.signals ++ new_signal ∷ []) a.0 ≡ Some new_signal)).
      let none : h ≡ [] = rw e.0 at k in
      rw (e.1, none) refl)
      (appended s.signals new_signal a.0)

  goes : GoesUntold ◌++◌ (effect_signalled a) Is
  goes = record {
    row = λ h s e es k. row-order e h s k;
    call = λ h s c k. begin-makes (λ z. Is h z []) (record {
      promise = λ z k. k;
      locks = λ z ls k. k;
      hosts = λ z hs k. k;
      pipe = λ z source dest prevent signal promise k. k;
      signal = λ z k. made h z k;
      transform = λ z kind i j change k. k;
      tee = λ z source first second cancel k. k;
      port = λ z side stream backpressure k. k;
      bytes = λ z mark auto k. k;
      byob_requests = λ z hs k. k;
      readable = λ z owner mark size k. k;
      writable = λ z owner mark size k. k;
    }) c s k;
    job = λ h s job e k. k;
    answered = λ h s q k. k;
    older = λ h s k. k;
  }

  rests : RestsUntold Is
  rests = record { heard = λ h s k. k }

-- where there is no signal, none stands
stands_at : (h : List SignalOperation) (o : Option pipe.Signal) → Stands h o → (as_signal o).pipes ≡ standing [] h
stands_at h None k = rw k refl
stands_at h (Some x) k = k

pub each_signal_keeps_order : EachSignalKeepsOrder
each_signal_keeps_order entries a =
    stands_at (run_signalled a entries empty) (slice_get (run entries empty).signals a.0)
    (run-holds [] ◌++◌ in_order (effect_signalled a) (Is a) (goes a) (rests a) entries empty refl)
