-- What was written so far of a piece that needs several writes.
use Rattle.std.proofs.Common.{◌≡◌, ℕ, ◌-◌, List, [], ◌++◌, length, take, drop, refl, sym, subst, ◌∙◌, ap, append_assoc, append-nil, take-append-drop}
use Rattle.std.proofs.lemmas.List.{take_rest}
use Rattle.std.specs.Prelude.{Result, Ok, Err, OnOk, IsErr}
use Rattle.ws_io.specs.Gain.{Gains, Got}
use Rattle.ws_io.specs.Written.{WroteFirst}
use Rattle.ws_io.proofs.Flow.{Gains-nothing, Gains-then}

-- of the piece this rest isn't written yet, and the rest of it was gained
pub record Written (old now : Got) (piece rest : List ℕ) : Type 0 where
  pub gain : List ℕ
  pub gained : Gains old now gain
  pub split : piece ≡ gain ++ rest

pub Written-start : (p : Got) (piece : List ℕ) → Written p p piece piece
Written-start p piece = record { gain = []; gained = Gains-nothing p; split = refl }

pub Written-then : (p q r : Got) (piece rest : List ℕ) (n : ℕ)
    → Written p q piece rest → Gains q r (take n rest) → Written p r piece (take (length rest - n) (drop n rest))
Written-then p q r piece rest n w g =
    record {
      gain = w.gain ++ take n rest;
      gained = Gains-then p q r w.gain (take n rest) w.gained g;
      split =
          w.split
          ∙ (ap (λ xs. w.gain ++ xs) (sym (take-append-drop n rest) ∙ ap (λ xs. take n rest ++ xs) (sym (take_rest rest n)))
          ∙ sym (append_assoc w.gain (take n rest) (take (length rest - n) (drop n rest))));
    }

-- two pieces, of which the first was taken whole
pub WroteFirst-then : {E : Type 0} (p q r : Got) (first second : List ℕ) (result : Result (Unit {0}) E)
    → WroteFirst {E = E} p q (Ok tt) first → WroteFirst q r result second → WroteFirst p r result (first ++ second)
WroteFirst-then p q r first second result a b =
    record {
      gain = first ++ b.gain;
      rest = b.rest;
      gained = Gains-then p q r first b.gain (subst (λ xs. Gains p q xs) (sym (a.first ∙ (ap (λ xs. a.gain ++ xs) a.all ∙ append-nil a.gain))) a.gained) b.gained;
      first = ap (λ xs. first ++ xs) b.first ∙ sym (append_assoc first b.gain b.rest);
      all = b.all;
    }

all_of_none : {E : Type 0} (p : Type 0) (answer : Result (Unit {0}) E) → IsErr answer → OnOk answer p
all_of_none p (Ok x) h = cc
all_of_none p (Err e) h = tt

-- two pieces, of which the second wasn't begun
pub WroteFirst-stop : {E : Type 0} (p q : Got) (first second : List ℕ) (result answer : Result (Unit {0}) E)
    → IsErr answer → WroteFirst p q result first → WroteFirst p q answer (first ++ second)
WroteFirst-stop p q first second result answer failed a =
    record {
      gain = a.gain;
      rest = a.rest ++ second;
      gained = a.gained;
      first = ap (λ xs. xs ++ second) a.first ∙ append_assoc a.gain a.rest second;
      all = all_of_none (a.rest ++ second ≡ []) answer failed;
    }

-- a write that failed took nothing more
pub WroteFirst-less : {E : Type 0} (p q r : Got) (piece rest : List ℕ) (answer : Result (Unit {0}) E) → IsErr answer → Written p q piece rest → Gains q r []
    → WroteFirst p r answer piece
WroteFirst-less p q r piece rest answer failed w g =
    record {
      gain = w.gain;
      rest = rest;
      gained = subst (λ xs. Gains p r xs) (append-nil w.gain) (Gains-then p q r w.gain [] w.gained g);
      first = w.split;
      all = all_of_none (rest ≡ []) answer failed;
    }
