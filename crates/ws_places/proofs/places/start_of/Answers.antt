use Rattle.std.proofs.Common.{arith}
use Rattle.ws_places.proofs.OrderLemmas.{before-found, after-found}
use Rattle.ws_places.proofs.places.start_of.Goals as goal

pub returns-in-Ok-clause-before : goal.returns-in-Ok-clause-before
returns-in-Ok-clause-before c = before-found c.requires.0 c.in-Ok.i c.args.number c.args.pairs.now.items c.requires.1 (omega (arith, c.in-Ok.ensures.found.0)) c.in-Ok.ensures.found.1

pub returns-in-Ok-clause-after : goal.returns-in-Ok-clause-after
returns-in-Ok-clause-after c = after-found c.requires.0 c.in-Ok.i c.args.number c.args.pairs.now.items c.requires.1 (omega (arith, c.in-Ok.ensures.found.0)) c.in-Ok.ensures.found.1
