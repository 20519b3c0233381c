-- Histories that are told of effects, told another way: a map that keeps nothing and the order may be told of each effect, or of all.
use Rattle.std.proofs.Common.{◌≡◌, List, [], ◌∷◌, ◌++◌, refl, ap, ◌∙◌, append_assoc, append-nil}
use Rattle.ws_value.specs.declared.value.Value.{Value}
use Rattle.ws_steps.specs.declared.effects.Effect.{Effect}
use Rattle.ws_steps.specs.Histories.{along, in_step, over}
use Rattle.ws_steps.specs.Run.{Entry, step, moments_in}
use Rattle.ws_steps.specs.Slots.{Slots}
use Rattle.ws_steps.specs.Turns.{Moment}
use Rattle.ws_laws.proofs.Walker.{IsHistory}

module _ {H : Type 0} {K : Type 0} (none : H) (after : H → H → H) (nothing : K) (then_ : K → K → K) (f : H → K) (zero_ : f none ≡ nothing) (more : (a b : H) → f (after a b) ≡ then_ (f a) (f b)) (told : Effect → Slots → H) where
  pub along-map : (ms : List Moment) → f (along none after told ms) ≡ along nothing then_ (λ e s. f (told e s)) ms
  along-map [] = zero_
  along-map (m ∷ ms) = more (told m.effect m.found) (along none after told ms) ∙ ap (then_ (f (told m.effect m.found))) (along-map ms)

  pub over-map : (xs : List Entry) (s : Slots) → f (over none after (in_step none after told) xs s) ≡ over nothing then_ (in_step nothing then_ (λ e s. f (told e s))) xs s
  over-map [] s = zero_
  over-map (x ∷ xs) s =
      more (in_step none after told s x) (over none after (in_step none after told) xs (step s x))
      ∙ (ap (λ (k : K). then_ k (f (over none after (in_step none after told) xs (step s x)))) (along-map (moments_in s x))
      ∙ ap (then_ (in_step nothing then_ (λ e s. f (told e s)) s x)) (over-map xs (step s x)))

-- two lists that are told side by side
pub record Both : Type 0 where
  pub one : List Value
  pub two : List Value

abbrev pub neither : Both
neither = record { one = []; two = [] }

abbrev pub both_then : Both → Both → Both
both_then f g = record { one = f.one ++ g.one; two = f.two ++ g.two }

both-nothing : (h : Both) → both_then h neither ≡ h
both-nothing h = λ k. record { one = append-nil h.one k; two = append-nil h.two k }

both-assoc : (f g h : Both) → both_then (both_then f g) h ≡ both_then f (both_then g h)
both-assoc f g h = λ k. record { one = append_assoc f.one g.one h.one k; two = append_assoc f.two g.two h.two k }

pub are_both : IsHistory neither both_then
are_both = record { left = λ h. refl; right = both-nothing; assoc = both-assoc }
