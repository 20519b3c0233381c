use Rattle.std.proofs.Common.{◌≡◌, ◌≤◌, ℕ, true, false, nat_lt, Some, None, ap, arith, inl, inr}
use Rattle.std.proofs.lemmas.Bool.{cases_lt}
use Rattle.std.proofs.lemmas.Option.{slice_get_within}
use Rattle.std.specs.Prelude.{slice_get}
use Rattle.ws_alike.specs.Named.{in_reactions}
use Rattle.ws_slots.specs.View.{first_reactions}
use Rattle.ws_slots.specs.Words.{ended_slot}
use Rattle.ws_slots.specs.Slot.{Slot}
use Rattle.ws_slots.proofs.NameLemmas.{firsts-none, firsts-some}
use Rattle.ws_slots.proofs.needed.firsts_name.Goals as goal

more : (a b : ℕ) → a ≤ b → true ≡ nat_lt 0 a → true ≡ nat_lt 0 b
more a b l h = grind (arith, l, h)

zero-false : (a : ℕ) → false ≡ nat_lt 0 a → a ≡ 0
zero-false a h = grind (arith, h)

false-zero : (a : ℕ) → a ≡ 0 → false ≡ nat_lt 0 a
false-zero a h = grind (arith, h)

-- a promise that takes no place has no reaction
ended : (p : _) (s : Slot) → s ≡ ended_slot None → in_reactions p (first_reactions s.first) ≡ 0
ended p s e = ap (λ (t : Slot). in_reactions p (first_reactions t.first)) e

pub returns-then-first_names : goal.returns-then-first_names
returns-then-first_names c =
    let s = c.in-Some.ensures.some.2 in
    let e = c.first_names.ensures s.0 s.1 in
    more _ _ (firsts-some c.args.p 0 c.in-Some.q.0 c.args.slots.now.items s.0 s.1) cc

pub loop-q-preserved : goal.loop-q-preserved
loop-q-preserved c = record {
  looked = λ i s l g. elim (cases_lt i c.loop-q.at.0) [
    | inl a ↦ c.loop-q.invariant.looked i s a g
    | inr a ↦ elim (cases_lt i c.in-Some.q.0) [
      | inl b ↦ ended c.args.p s (c.in-Some.ensures.some.3 i s (omega (arith, a)) b g)
      | inr b ↦
          let is : c.in-Some.q.0 ≡ i = omega (arith, l, b) in
          let at : slice_get c.args.slots.now.items c.in-Some.q.0 ≡ Some (Some s) = rw is g in
          let e = c.first_names.ensures s at in
          zero-false _ cc
    ]
  ];
}

pub returns : goal.returns
returns c =
    false-zero _ (firsts-none c.args.p 0 c.args.slots.now.items (λ i s g.
    elim (cases_lt i c.loop-q.at.0) [
      | inl a ↦ c.loop-q.invariant.looked i s a g
      | inr a ↦ ended c.args.p s (c.in_default.ensures.none i s (omega (arith, a)) (slice_get_within c.args.slots.now.items i (Some s) g) g)
    ]))
