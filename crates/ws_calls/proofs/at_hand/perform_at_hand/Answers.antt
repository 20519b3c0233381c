use Rattle.std.proofs.Common.{◌≡◌, ◌∙◌, ◌-◌, ◌+◌, ap, subst, arith}
use Rattle.ws_steps.specs.Jobs.{begin_job}
use Rattle.ws_steps.specs.Slots.{Slots}
use Rattle.ws_laws.proofs.Ages.{begin_job-age, performed-age}
use Rattle.ws_tables.specs.View.{slots_of}
use Rattle.ws_calls.specs.Credit.{HasPlacesFor}
use Rattle.ws_calls.proofs.Credit.{aged}
use Rattle.ws_calls.proofs.Saved.{saved-first}
use Rattle.ws_calls.proofs.at_hand.perform_at_hand.Goals as goal

pub begin_first-requires : goal.begin_first-requires
begin_first-requires c =
    let t = c.args.tables.now in
    let one : c.args.places ≡ c.args.places - 1 + 1 = omega arith in
    record {
      fits =
          saved-first (c.args.places - 1) t c.requires.resting (c.is_at_hand.ensures c.if-not-is_at_hand.false)
          (subst (λ k. HasPlacesFor k t) one (c.requires.found (omega arith)));
      resting = c.requires.resting;
    }

pub overflow_add-tables : goal.overflow_add-tables
overflow_add-tables c =
    let old = slots_of c.args.tables.now in
    let same = ap (λ (s : Slots). s.age) (c.finish-left.ensures.all.slots ∙ (c.begin_first.ensures.began c.if-not-begin_first.false).slots) ∙ (performed-age (begin_job old) ∙ begin_job-age old) in
    omega (arith, same, c.requires.young)

pub returns-clause-age : goal.returns-clause-age
returns-clause-age c =
    let old = slots_of c.args.tables.now in
    let same = ap (λ (s : Slots). s.age) (c.finish-left.ensures.all.slots ∙ (c.begin_first.ensures.began c.if-not-begin_first.false).slots) ∙ (performed-age (begin_job old) ∙ begin_job-age old) in
    omega (arith, same)

pub returns-clause-found : goal.returns-clause-found
returns-clause-found c = λ some.
    aged c.finish-left.result (c.finish-left.new.tables.age + 1) c.finish-left.new.tables
    (c.finish-left.ensures.found
    (λ quiet n one.
    c.begin_first.ensures.afforded c.if-not-begin_first.false quiet n
    (subst (λ k. HasPlacesFor k c.args.tables.now) (omega (arith, one)) (c.requires.found (omega arith)))
    (c.is_at_hand.ensures c.if-not-is_at_hand.false))
    some)
