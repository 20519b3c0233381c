use Rattle.std.proofs.Common.{[], ap, sym, ◌≡◌, ◌∙◌, Some, None}
use Rattle.ws_alike.specs.Alike.{is_undefined}
use Rattle.ws_slots.specs.Slot.{Slot}
use Rattle.ws_slots.specs.Words.{rank_in}
use Rattle.ws_slots.proofs.TableLemmas.{entry_of-live}
use Rattle.ws_slots.proofs.SpentLemmas.{kept-other, kept-undefined, kept-watched}
use Rattle.ws_slots.proofs.spent.kept_at.Goals as goal

pub returns-in-Some-rank_at-clause-kept : goal.returns-in-Some-rank_at-clause-kept
returns-in-Some-rank_at-clause-kept c = λ s g.
    let rank : s.rank ≡ Some c.in-Some-rank_at._rank = sym (ap rank_in g) ∙ (sym c.rank_at.ensures ∙ c.in-Some-rank_at.is) in
    sym (kept-watched s _ rank)

pub returns-then-is_undefined-clause-kept : goal.returns-then-is_undefined-clause-kept
returns-then-is_undefined-clause-kept c = λ s g.
    let rank : s.rank ≡ None = sym (ap rank_in g) ∙ (sym c.rank_at.ensures ∙ c.in-None.is) in
    let h = c.in-Some.ensures.some in
    let there = h.there in
    let same : h.slot ≡ s = cc in
    let is : s.outcome ≡ c.in-Some.outcome.now = sym (ap (λ (t : Slot). t.outcome) same) ∙ h.has in
    sym (kept-undefined s (ap is_undefined is ∙ (sym c.is_undefined.ensures ∙ c.if-is_undefined.true)) rank)

pub returns-else-is_undefined-clause-kept : goal.returns-else-is_undefined-clause-kept
returns-else-is_undefined-clause-kept c = λ s g.
    let rank : s.rank ≡ None = sym (ap rank_in g) ∙ (sym c.rank_at.ensures ∙ c.in-None.is) in
    let h = c.in-Some.ensures.some in
    let there = h.there in
    let same : h.slot ≡ s = cc in
    let is : s.outcome ≡ c.in-Some.outcome.now = sym (ap (λ (t : Slot). t.outcome) same) ∙ h.has in
    sym (kept-other s (ap is_undefined is ∙ (sym c.is_undefined.ensures ∙ c.if-is_undefined.false)) rank)

pub returns-in_default-clause-kept : goal.returns-in_default-clause-kept
returns-in_default-clause-kept c = λ s g.
    let live = entry_of-live c.args.p c.args.slots.now.items [] s g in
    let none = c.in_default.ensures.none [] in
    cc
