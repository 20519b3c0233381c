-- Pieces that are told one after another.
use Rattle.std.proofs.Common.{◌≡◌, ◌+◌, ◌<◌, ℕ, suc, List, ◌++◌, length, drop, get_or, refl, sym, ◌∙◌, ap, subst, append_assoc, append-nil, add-one}
use Rattle.std.proofs.Math.Seq.{drop-cons}
use Rattle.std.specs.Prelude.{Result, Ok, Err, OnOk}
use Rattle.ws_io.specs.Gain.{Gains, Got}
use Rattle.ws_io.specs.Written.{WroteFirst}
use Rattle.ws_io.proofs.Flow.{Gains-then}
use Rattle.ws_io.proofs.Written.{Written}
use Rattle.ws_edge.specs.declared.mark.Mark.{Mark}
use Rattle.ws_runner.specs.declared.trace.EdgeTrace.{EdgeTrace}
use Rattle.ws_cli.specs.TraceText.{edge_text, edges_text, mark_text, marks_text}

-- what was written without a fault was written whole
pub wrote_all : {E : Type 0} (p q : Got) (r : Result (Unit {0}) E) (piece : List ℕ) → WroteFirst p q r piece → OnOk r (Gains p q piece)
wrote_all p q (Ok u) piece w =
    subst (λ (xs : List ℕ). Gains p q xs) (sym (w.first ∙ ap (λ (xs : List ℕ). w.gain ++ xs) w.all ∙ append-nil w.gain)) w.gained
wrote_all p q (Err e) piece w = tt

-- a piece, and then another
pub then_told : {E : Type 0} (p q s : Got) (r : Result (Unit {0}) E) (first second : List ℕ)
    → Gains p q first → OnOk r (Gains q s second) → OnOk r (Gains p s (first ++ second))
then_told p q s (Ok u) first second a b = Gains-then p q s first second a b
then_told p q s (Err e) first second a b = tt

-- of a piece that is told by parts, the next part was told
pub Written-next : (p q s : Got) (piece next rest : List ℕ) → Written p q piece (next ++ rest) → Gains q s next → Written p s piece rest
Written-next p q s piece next rest w g =
    record {
      gain = w.gain ++ next;
      gained = Gains-then p q s w.gain next w.gained g;
      split = w.split ∙ sym (append_assoc w.gain next rest);
    }

-- of a list that is told one by one, the next was told
pub marks_next : (ms : List Mark) (i : ℕ) (d : Mark) → i < length ms → marks_text (drop i ms) ≡ mark_text (get_or ms i d) ++ marks_text (drop (i + 1) ms)
marks_next ms i d h = rw (add-one, drop-cons ms i d) refl

pub edges_next : (es : List EdgeTrace) (i number : ℕ) (d : EdgeTrace) → i < length es
    → edges_text number (drop i es) ≡ edge_text number (get_or es i d) ++ edges_text (number + 1) (drop (i + 1) es)
edges_next es i number d h =
    subst (λ (xs : List EdgeTrace). edges_text number xs ≡ edge_text number (get_or es i d) ++ edges_text (number + 1) (drop (i + 1) es))
    (sym (drop-cons es i d h)) (let e : i + 1 ≡ suc i = add-one i in rw e refl)
