use Rattle.ws_steps.specs.declared.pipes.PipeOperation.TheVariants.{ReadEnded, ActionSettled, PartSettled, NoParts}
use Rattle.ws_pipe.proofs.Counts.{counted_by, some_ends}
use Rattle.ws_pipe.proofs.pipe.Pipe.perform_uncommon.Goals as goal

pub returns-in-ReadEnded-clause-counted : goal.returns-in-ReadEnded-clause-counted
returns-in-ReadEnded-clause-counted c = counted_by c.args.me some_ends ReadEnded _ _ (c.read_ended.ensures.row c.args.fx.now) c.requires.counted

pub returns-in-ActionSettled-clause-counted : goal.returns-in-ActionSettled-clause-counted
returns-in-ActionSettled-clause-counted c = counted_by c.args.me some_ends (ActionSettled c.in-ActionSettled.outcome) _ _ (c.action_settled.ensures.row c.args.p.now) c.requires.counted

pub returns-in-PartSettled-clause-counted : goal.returns-in-PartSettled-clause-counted
returns-in-PartSettled-clause-counted c = counted_by c.args.me some_ends (PartSettled c.in-PartSettled.outcome) _ _ (c.part_settled.ensures.row c.args.fx.now) c.requires.counted

pub returns-in-NoParts-clause-counted : goal.returns-in-NoParts-clause-counted
returns-in-NoParts-clause-counted c = counted_by c.args.me some_ends NoParts _ _ (c.no_parts.ensures.row c.args.fx.now) c.requires.counted
