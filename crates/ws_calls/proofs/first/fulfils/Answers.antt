use Rattle.std.proofs.Common.{Ok}
use Rattle.ws_value.specs.declared.value.Plain.TheVariants.{Undefined}
use Rattle.ws_steps.specs.declared.effects.Effect.TheVariants.{Settle}
use Rattle.ws_direct.proofs.Reaching.{did-so}
use Rattle.ws_calls.proofs.first.fulfils.Goals as goal

pub returns : goal.returns
returns c = did-so (Settle c.args.promise (Ok Undefined)) c.args.tables.now c.settle.new.tables c.requires c.settle.ensures.performs c.settle.ensures.records
