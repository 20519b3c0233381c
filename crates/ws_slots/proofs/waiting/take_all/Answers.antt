use Rattle.std.proofs.Common.{rules}
use Rattle.std.specs.Prelude.{not, ◌==◌}
use Rattle.std.proofs.lemmas.Fn.{filter_same}
use Rattle.ws_slots.proofs.waiting.take_all.Goals as goal

pub returns-clause-items : goal.returns-clause-items
returns-clause-items c = filter_same _ (λ w. not (w.on.0 == c.args.p.0)) _ (λ x b f k. search rules) _ _ c.retain.ensures.filtered
