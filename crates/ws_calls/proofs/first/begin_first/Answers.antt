use Rattle.std.proofs.Common.{◌≡◌, Some, [], ◌∷◌}
use Rattle.ws_jobs.specs.Shorts.{job_in}
use Rattle.ws_steps.specs.declared.promises.Job.{Job}
use Rattle.ws_steps.specs.Promises.{next_job}
use Rattle.ws_steps.specs.Jobs.{job_effects}
use Rattle.ws_calls.specs.First.{effect_of}
use Rattle.ws_calls.proofs.AtOnce.{began, began-nothing, ready-one, some-job}
use Rattle.ws_calls.proofs.Saved.{one-saved, none-saved}
use Rattle.ws_calls.proofs.first.begin_first.Goals as goal

pub perform-requires : goal.perform-requires
perform-requires c =
    let e = effect_of c.in-Some.first in
    let k = some-job (job_in c.first_short-short.result) (e ∷ []) c.in-Some.ensures.one in
    let there = c.first_short-short.ensures k.0 k.1 in
    rw c.drop_first_job.ensures (ready-one e _ (c.requires.fits.one c.in-Some.first k.0 there k.2) c.requires.resting.caused)

pub returns-clause-began : goal.returns-clause-began
returns-clause-began c = λ yes.
    let e = effect_of c.in-Some.first in
    let k = some-job (job_in c.first_short-short.result) (e ∷ []) c.in-Some.ensures.one in
    let there = c.first_short-short.ensures k.0 k.1 in
    began c.args.tables.now k.0 e c.requires.resting there k.2 (c.requires.fits.one c.in-Some.first k.0 there k.2)
    c.perform.new.tables (rw c.drop_first_job.ensures at c.perform.ensures)

pub returns-clause-afforded : goal.returns-clause-afforded
returns-clause-afforded c = λ yes quiet n has hand.
    let e = effect_of c.in-Some.first in
    let k = some-job (job_in c.first_short-short.result) (e ∷ []) c.in-Some.ensures.one in
    one-saved n c.in-Some.first k.0 c.args.tables.now c.perform.new.tables c.requires.resting (c.first_short-short.ensures k.0 k.1) k.2 hand has
    (rw c.drop_first_job.ensures at c.perform.ensures) quiet

pub returns-in_default-clause-began : goal.returns-in_default-clause-began
returns-in_default-clause-began c = λ yes.
    let k = some-job (job_in c.first_short-short.result) [] c.in_default.ensures.none in
    let there = c.first_short-short.ensures k.0 k.1 in
    rw c.drop_first_job.ensures (began-nothing c.args.tables.now c.requires.resting k.0 there k.2 (c.requires.fits.none k.0 there k.2))

pub returns-in_default-clause-afforded : goal.returns-in_default-clause-afforded
returns-in_default-clause-afforded c = λ yes quiet n has hand.
    let k = some-job (job_in c.first_short-short.result) [] c.in_default.ensures.none in
    rw c.drop_first_job.ensures (none-saved n k.0 c.args.tables.now c.requires.resting (c.first_short-short.ensures k.0 k.1) k.2 hand has).1
