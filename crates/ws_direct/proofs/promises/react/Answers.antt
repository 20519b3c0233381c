use Rattle.std.proofs.Common.{refl}
use Rattle.ws_jobs.specs.Shorts.{reaction_in}
use Rattle.ws_direct.proofs.Steps.{reacts-so, step-jobs, step-some}
use Rattle.ws_direct.proofs.promises.react.Goals as goal

pub react_short-requires : goal.react_short-requires
react_short-requires c = record {
  jobs = step-jobs c.args.promise (reaction_in c.args.short) c.args.tables.now c.requires.steps c.requires.ready;
  waits = step-some (reaction_in c.args.short) c.requires.steps;
}

pub returns-clause-performed : goal.returns-clause-performed
returns-clause-performed c = reacts-so c.args.promise (reaction_in c.args.short) c.args.tables.now _ c.react_short.new.self c.requires.steps refl c.react_short.ensures c.requires.ready
