use Rattle.std.proofs.Common.{◌∙◌, ap, sym}
use Rattle.ws_plan.specs.Reading.{reading}
use Rattle.ws_cli.proofs.Loading.{accepted_read}
use Rattle.ws_cli.proofs.file.plan_of.Goals as goal

pub returns-in-Ok-clause-accepted : goal.returns-in-Ok-clause-accepted
returns-in-Ok-clause-accepted c = accepted_read c.args.text.now c.in-Ok.plan (ap reading (sym c.as_slice.ensures) ∙ c.in-Ok.ensures)
