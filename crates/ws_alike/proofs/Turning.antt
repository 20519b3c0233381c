-- Effects that are performed until none is left don't look at a promise that isn't named, and name it nowhere.
use Rattle.std.proofs.Common.{◌≡◌, ◌∙◌, ℕ, ◌+◌, ◌<◌, ◌≤◌, suc, zero, List, [], ◌∷◌, ◌++◌, length, Option, refl, ap, arith}
use Rattle.ws_value.specs.declared.ids.PromiseId.{PromiseId}
use Rattle.ws_steps.specs.declared.effects.Effect.{Effect}
use Rattle.ws_steps.specs.Places.{measure}
use Rattle.ws_steps.specs.Promises.{Entry}
use Rattle.ws_steps.specs.Slots.{Slots, Done}
use Rattle.ws_steps.specs.Turns.{row, turns, performed, Agenda}
use Rattle.ws_alike.specs.Named.{in_effects, in_slots, in_effect}
use Rattle.ws_alike.specs.Blind.{EachPerformanceIsBlind, slots_changed}
use Rattle.ws_alike.proofs.Rows.{rows-blind}
use Rattle.ws_alike.proofs.Lists.{all-append}

abbrev agenda : Slots → List Effect → Agenda
agenda s es = record { slots = s; effects = es }

-- what is shown of some turns
record Turned (n : ℕ) (p : PromiseId) (s : Slots) (es : List Effect) : Type 0 where
  pub blind : (x : Option Entry) → turns n (agenda (slots_changed p x s) es) ≡ record (turns n (agenda s es)) { slots = slots_changed p x (turns n (agenda s es)).slots }
  pub unnamed : in_slots p (turns n (agenda s es)).slots + in_effects p (turns n (agenda s es)).effects ≡ 0
  pub more : length s.promises.entries ≤ length (turns n (agenda s es)).slots.promises.entries

turned : (n : ℕ) (p : PromiseId) (s : Slots) (es : List Effect) → p.0 < length s.promises.entries → in_slots p s + in_effects p es ≡ 0 → Turned n p s es
unfolding turns
turned zero p s es made none = record { blind = λ x. refl; unnamed = none; more = omega arith }
turned (suc n) p s [] made none = let k = turned n p s [] made none in record { blind = k.blind; unnamed = k.unnamed; more = k.more }
turned (suc n) p s (e ∷ es) made none =
    let r = rows-blind p e s made (omega (arith, none)) in
    let app = all-append (in_effect p) (row e s).caused es in
    let k = turned n p (row e s).slots ((row e s).caused ++ es) (omega (arith, made, r.more)) (omega (arith, r.unnamed, app, none)) in
    record {
      blind = λ x. ap (λ (d : Done). turns n (agenda d.slots (d.caused ++ es))) (r.blind x) ∙ k.blind x;
      unnamed = k.unnamed;
      more = omega (arith, r.more, k.more);
    }

pub performances-blind : EachPerformanceIsBlind
unfolding performed
performances-blind p d made none =
    let k = turned (measure d.slots d.caused) p d.slots d.caused made none in
    record { blind = λ x. ap (λ (a : Agenda). a.slots) (k.blind x); unnamed = omega (arith, k.unnamed); more = k.more }
