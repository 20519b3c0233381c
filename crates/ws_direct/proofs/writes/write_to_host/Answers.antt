use Rattle.std.proofs.Common.{[], ◌∷◌, subst}
use Rattle.ws_steps.specs.declared.effects.Effect.TheVariants.{Writable as WritableEffect}
use Rattle.ws_steps.specs.declared.transform.Taker.TheVariants.{ToHost}
use Rattle.ws_steps.specs.declared.writable.WritableOperation.TheVariants.{HandOn}
use Rattle.ws_steps.specs.Writable.{write_to_host}
use Rattle.ws_direct.specs.Directly.{Reaches, handed}
use Rattle.ws_direct.proofs.Reaching.{next-ready, quietly, then}
use Rattle.ws_direct.proofs.writes.write_to_host.Goals as goal

pub call_host-requires-clause-ready : goal.call_host-requires-clause-ready
call_host-requires-clause-ready c =
    let old = c.args.tables.now in
    next-ready (WritableEffect c.args.i (HandOn ToHost)) (write_to_host c.args.i c.in-Some.chunk) [] old c.chunk_of.new.tables c.requires.room
    (subst (λ o. Reaches (WritableEffect c.args.i (HandOn ToHost) ∷ []) old (handed c.args.i ToHost o) c.chunk_of.new.tables) c.in-Some.is (c.chunk_of.ensures.reached ToHost))
    c.chunk_of.ensures.quiet

pub returns-in-Some : goal.returns-in-Some
returns-in-Some c =
    let old = c.args.tables.now in
    then _ (write_to_host c.args.i c.in-Some.chunk ∷ []) _ old c.chunk_of.new.tables _
    (subst (λ o. Reaches (WritableEffect c.args.i (HandOn ToHost) ∷ []) old (handed c.args.i ToHost o) c.chunk_of.new.tables) c.in-Some.is (c.chunk_of.ensures.reached ToHost))
    c.call_host.ensures

pub returns-in_default : goal.returns-in_default
returns-in_default c =
    let old = c.args.tables.now in
    quietly _ old c.chunk_of.new.tables c.chunk_of.ensures.quiet
    (subst (λ o. Reaches (WritableEffect c.args.i (HandOn ToHost) ∷ []) old (handed c.args.i ToHost o) c.chunk_of.new.tables) c.in_default.is (c.chunk_of.ensures.reached ToHost))
