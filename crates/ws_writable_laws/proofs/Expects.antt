-- What each operation of a writable stream may expect of its stream, where it stands at the front of the agenda.
use Rattle.std.proofs.Common.{◌≡◌, ℕ, true, false, is_some, List, ◌∷◌, Result, arith}
use Rattle.ws_value.specs.declared.ids.PromiseId.{PromiseId}
use Rattle.ws_value.specs.declared.ids.StreamId.{StreamId}
use Rattle.ws_value.specs.declared.value.Plain.{Plain}
use Rattle.ws_value.specs.declared.value.Value.{Value}
use Rattle.ws_steps.specs.declared.{effects.Effect.{Effect}, effects.Effect.TheVariants.{Writable}}
use Rattle.ws_steps.specs.declared.writable.WritableOperation.TheVariants.{Write, StartSettled, WriteSettled, CloseSettled, AbortSettled}
use Rattle.ws_steps.specs.Writable as writable
use Rattle.ws_steps.specs.Writable.{has_ended, is_closing}
use Rattle.ws_steps.specs.Slots.{Slots, writable_at}
use Rattle.ws_steps.specs.WritableHistory.{Writes}
use Rattle.ws_writable_laws.proofs.Shape.{core_of, has_mark, Shape}
use Rattle.ws_writable_laws.proofs.Operations.{same_once, ended_by}
use Rattle.ws_writable_laws.proofs.Agenda.{Kept, found}

-- a close mark has its request, and stands in no stream that has ended
pub record Marked (w : writable.Slots) : Type 0 where
  pub alive : has_mark w.queue ≡ true → has_ended w.state ≡ false
  pub requested : has_mark w.queue ≡ true → is_some w.close_request ≡ true

marked : (k : ℕ) (w : writable.Slots) → Shape k (core_of w) → Marked w
marked k w s = grind arith

module _ (i : StreamId) (h : Writes) (es : List Effect) (s : Slots) where
  abbrev w : writable.Slots
  w = writable_at i s

  pub write-expects : (v : Value) (p : PromiseId) → Kept i h s (Writable i (Write v p) ∷ es) → Marked w
  write-expects v p k = marked _ w (found i (Write v p) h es s (λ u. u) k).shape

  pub start-expects : (o : Result Plain Plain) → Kept i h s (Writable i (StartSettled o) ∷ es) → Marked w × (is_some w.close_in_flight ≡ false)
  start-expects o k = let f = found i (StartSettled o) h es s (λ u. u) k in let one = same_once i in (marked _ w f.shape, grind arith)

  pub write_settled-expects : (o : Result Plain Plain) → Kept i h s (Writable i (WriteSettled o) ∷ es) → Marked w × (is_some w.close_in_flight ≡ false)
  write_settled-expects o k = let f = found i (WriteSettled o) h es s (λ u. u) k in let one = same_once i in (marked _ w f.shape, grind arith)

  pub close_settled-expects : (o : Result Plain Plain) → Kept i h s (Writable i (CloseSettled o) ∷ es) → is_some w.close_in_flight ≡ true
  close_settled-expects o k = let f = found i (CloseSettled o) h es s (λ u. u) k in let one = same_once i in grind arith

  pub abort_settled-expects : (p : PromiseId) (o : Result Plain Plain) → Kept i h s (Writable i (AbortSettled p o) ∷ es) → has_ended w.state ≡ true
  abort_settled-expects p o k = let f = found i (AbortSettled p o) h es s (λ u. u) k in let one = same_once i in ended_by _ w.state f.owed.aborts (omega arith)
