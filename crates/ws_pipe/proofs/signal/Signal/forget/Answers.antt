use Rattle.std.proofs.Common.{◌≡◌, List, [], ◌∷◌, refl, ◌∙◌, arith, rules}
use Rattle.std.specs.Prelude.{not, ◌==◌}
use Rattle.std.specs.List.{filter}
use Rattle.std.proofs.lemmas.Fn.{filter_same}
use Rattle.ws_value.specs.declared.ids.PipeId.{PipeId}
use Rattle.ws_steps.specs.Pipes.{without}
use Rattle.ws_pipe.proofs.signal.Signal.forget.Goals as goal

filter-without : (p : PipeId) (qs : List PipeId) → filter (λ q. not (p.0 == q.0)) qs ≡ without p qs
filter-without p [] = refl
filter-without p (q ∷ qs) = grind (arith, filter-without p qs)

pub returns : goal.returns
returns c =
    let kept : c.retain.new.self.items ≡ without c.args.pipe c.self.inside.pipes.items =
    filter_same _ (λ q. not (c.args.pipe.0 == q.0)) _ (λ x b f k. search rules) _ _ c.retain.ensures.filtered
    ∙ filter-without c.args.pipe c.self.inside.pipes.items in
    rw (kept, c.retain.ensures.capacity, ← c.self.view_is) refl
