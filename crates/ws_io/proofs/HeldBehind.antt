-- What a buffer in front of a sink adds to what that got.
use Rattle.std.proofs.Common.{◌≡◌, ◌≤◌, ◌-◌, ℕ, ◌+◌, length, arith, List, [], ◌++◌, take, drop, sym, subst, ◌∙◌, ap, append_assoc, append-nil, take-append-drop}
use Rattle.std.proofs.Math.Seq.{take-add}
use Rattle.std.proofs.lemmas.List.{length-drop, take_rest}
use Rattle.ws_io.specs.HeldBehind.{held_behind}
use Rattle.std.specs.Prelude.{Result, Ok, Err}
use Rattle.ws_io.specs.Gain.{Gains, Got, Writes, WroteSome}
use Rattle.ws_io.proofs.Flow.{Gains-then}

-- a first part of what is held goes on to the sink
pub Gains-sent : (g g' : Got) (held : List ℕ) (n : ℕ) → Gains g g' (take n held) → Gains (held_behind g held) (held_behind g' (drop n held)) []
Gains-sent g g' held n a =
    record {
      went = a.went;
      grows = a.grows;
      behind =
          append-nil (g.held ++ held) ∙ ap (λ (xs : List ℕ). g.held ++ xs) (sym (take-append-drop n held))
          ∙ sym (append_assoc g.held (take n held) (drop n held)) ∙ ap (λ (xs : List ℕ). xs ++ drop n held) a.behind
          ∙ append_assoc a.went g'.held (drop n held);
    }

-- all of it does
pub Gains-emptied : (g g' : Got) (held : List ℕ) → Gains g g' held → Gains (held_behind g held) (held_behind g' []) []
Gains-emptied g g' held a =
    record {
      went = a.went;
      grows = a.grows;
      behind = append-nil (g.held ++ held) ∙ a.behind ∙ ap (λ (xs : List ℕ). a.went ++ xs) (sym (append-nil g'.held));
    }

-- more is held
pub Gains-held : (g : Got) (held more : List ℕ) → Gains (held_behind g held) (held_behind g (held ++ more)) more
Gains-held g held more =
    record {
      went = [];
      grows = λ xs h. subst g.out (sym (append-nil xs)) h;
      behind = append_assoc g.held held more;
    }

-- nothing is held, and more goes straight through
pub Gains-through : (g g' : Got) (more : List ℕ) → Gains g g' more → Gains (held_behind g []) (held_behind g' []) more
Gains-through g g' more a =
    record {
      went = a.went;
      grows = a.grows;
      behind =
          ap (λ (xs : List ℕ). xs ++ more) (append-nil g.held) ∙ a.behind ∙ ap (λ (xs : List ℕ). a.went ++ xs) (sym (append-nil g'.held));
    }

-- the same, once what was held went on
pub Gains-later : (p g g' : Got) (held more : List ℕ) → Gains p (held_behind g held) [] → held ≡ [] → Gains g g' more → Gains p (held_behind g' held) more
Gains-later p g g' held more a none b =
    subst (λ (xs : List ℕ). Gains p (held_behind g' xs) more) (sym none)
    (Gains-then p (held_behind g []) (held_behind g' []) [] more (subst (λ (xs : List ℕ). Gains p (held_behind g xs) []) none a) (Gains-through g g' more b))

-- what was written straight through, once nothing was held
pub Writes-through : {E : Type 0} (p g g' : Got) (held : List ℕ) (result : Result ℕ E) (piece : List ℕ) → Gains p (held_behind g held) [] → held ≡ [] → Writes g g' result piece
    → Writes p (held_behind g' held) result piece
Writes-through p g g' held (Ok n) piece a none w =
    record { within = w.within; some = w.some; gained = Gains-later p g g' held (take n piece) a none w.gained }
Writes-through p g g' held (Err e) piece a none w = Gains-later p g g' held [] a none w

-- one write more of what is left
pub sent-more : (p q r : Got) (bytes : List ℕ) (count more : ℕ) → count ≤ length bytes → Gains p q (take count bytes)
    → WroteSome q r more (take (length bytes - count) (drop count bytes)) → (count + more ≤ length bytes) × Gains p r (take (count + more) bytes)
sent-more p q r bytes count more few a w =
    let left = take_rest bytes count in
    let within : more ≤ length (drop count bytes) = subst (λ (xs : List ℕ). more ≤ length xs) left w.within in
    let gained : Gains q r (take more (drop count bytes)) = subst (λ (xs : List ℕ). Gains q r (take more xs)) left w.gained in (
      omega (arith, within, length-drop count bytes),
      subst (λ (xs : List ℕ). Gains p r xs) (sym (take-add count more bytes)) (Gains-then p q r (take count bytes) (take more (drop count bytes)) a gained),
    )
