use Rattle.std.proofs.Common.{◌∙◌, [], ◌∷◌, refl, sym}
use Rattle.ws_steps.specs.declared.effects.Effect.TheVariants.{Give}
use Rattle.ws_steps.specs.declared.effects.Gift.TheVariants.{This}
use Rattle.ws_steps.specs.declared.effects.Use.TheVariants.{Resolve}
use Rattle.ws_performing.proofs.Turns.{room-for}
use Rattle.ws_direct.proofs.Reaching.{quietly}
use Rattle.ws_direct.proofs.Steps.{gives}
use Rattle.ws_tables.proofs.Loops.{empty}
use Rattle.ws_direct.proofs.Behind.{after-none, after-some, one-more, ready-now}
use Rattle.ws_direct.proofs.after.resolve_after.Goals as goal

pub follow-requires : goal.follow-requires
follow-requires c = (room-for (Give (This c.args.own) (Resolve c.args.promise)) [] c.args.tables.now (ready-now (Give (This c.args.own) (Resolve c.args.promise) ∷ []) c.args.tables.now (empty c.args.tables.now.caused.effects (sym c.len.ensures ∙ c.if-len-eq0.true)) c.requires).room).jobs

pub returns-then-len-eq0 : goal.returns-then-len-eq0
returns-then-len-eq0 c =
    after-none (Give (This c.args.own) (Resolve c.args.promise) ∷ []) c.args.tables.now _ (empty c.args.tables.now.caused.effects (sym c.len.ensures ∙ c.if-len-eq0.true)) (quietly (Give (This c.args.own) (Resolve c.args.promise) ∷ []) c.args.tables.now _ (empty c.args.tables.now.caused.effects (sym c.len.ensures ∙ c.if-len-eq0.true))
    (gives c.args.own (Resolve c.args.promise) c.args.tables.now _ c.follow.new.self refl c.follow.ensures c.requires.kept))

pub leave_resolve-requires : goal.leave_resolve-requires
leave_resolve-requires c = one-more (Give (This c.args.own) (Resolve c.args.promise)) c.args.tables.now c.requires

pub returns-else-len-eq0 : goal.returns-else-len-eq0
returns-else-len-eq0 c = after-some (Give (This c.args.own) (Resolve c.args.promise)) c.args.tables.now c.leave_resolve.new.tables c.requires c.leave_resolve.ensures
