use Rattle.std.proofs.Common.{◌∙◌, ap, arith}
use Rattle.ws_steps.specs.Jobs.{begin_job}
use Rattle.ws_steps.specs.Slots.{Slots}
use Rattle.ws_laws.proofs.Ages.{begin_job-age, performed-age}
use Rattle.ws_tables.specs.View.{slots_of}
use Rattle.ws_calls.proofs.AtOnce.{ready-first}
use Rattle.ws_calls.proofs.perform.perform_job.Goals as goal

pub begin_first-requires-clause-fits : goal.begin_first-requires-clause-fits
begin_first-requires-clause-fits c = ready-first c.args.tables.now c.requires.ready c.requires.resting

pub overflow_add-tables : goal.overflow_add-tables
overflow_add-tables c =
    let old = slots_of c.args.tables.now in
    let same = ap (λ (s : Slots). s.age) (c.perform_caused.ensures.slots ∙ (c.begin_first.ensures.began c.if-not-begin_first.false).slots) ∙ (performed-age (begin_job old) ∙ begin_job-age old) in
    omega (arith, same, c.requires.young)

pub returns-clause-age : goal.returns-clause-age
returns-clause-age c =
    let old = slots_of c.args.tables.now in
    let same = ap (λ (s : Slots). s.age) (c.perform_caused.ensures.slots ∙ (c.begin_first.ensures.began c.if-not-begin_first.false).slots) ∙ (performed-age (begin_job old) ∙ begin_job-age old) in
    omega (arith, same)
