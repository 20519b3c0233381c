use Rattle.std.proofs.Common.{[], ◌∷◌, subst}
use Rattle.ws_steps.specs.declared.effects.Effect.TheVariants.{Transform, Writable as WritableEffect}
use Rattle.ws_steps.specs.declared.transform.Taker.TheVariants.{ToTransform}
use Rattle.ws_steps.specs.declared.transform.TransformOperation.TheVariants.{TransformChunk}
use Rattle.ws_steps.specs.declared.writable.WritableOperation.TheVariants.{HandOn}
use Rattle.ws_direct.specs.Directly.{Reaches, handed}
use Rattle.ws_direct.proofs.Reaching.{next-ready, quietly, then}
use Rattle.ws_direct.proofs.writes.hand_on.Goals as goal

pub transform_chunk-requires-clause-ready : goal.transform_chunk-requires-clause-ready
transform_chunk-requires-clause-ready c =
    let old = c.args.tables.now in
    next-ready (WritableEffect c.args.i (HandOn (ToTransform c.args.t c.args.promise))) (Transform c.args.t (TransformChunk c.in-Some.chunk c.args.promise)) [] old c.chunk_of.new.tables c.requires.ready.room
    (subst (λ o. Reaches (WritableEffect c.args.i (HandOn (ToTransform c.args.t c.args.promise)) ∷ []) old (handed c.args.i (ToTransform c.args.t c.args.promise) o) c.chunk_of.new.tables) c.in-Some.is
    (c.chunk_of.ensures.reached (ToTransform c.args.t c.args.promise)))
    c.chunk_of.ensures.quiet

pub returns-in-Some : goal.returns-in-Some
returns-in-Some c =
    let old = c.args.tables.now in
    then _ (Transform c.args.t (TransformChunk c.in-Some.chunk c.args.promise) ∷ []) _ old c.chunk_of.new.tables _
    (subst (λ o. Reaches (WritableEffect c.args.i (HandOn (ToTransform c.args.t c.args.promise)) ∷ []) old (handed c.args.i (ToTransform c.args.t c.args.promise) o) c.chunk_of.new.tables) c.in-Some.is
    (c.chunk_of.ensures.reached (ToTransform c.args.t c.args.promise)))
    c.transform_chunk.ensures

pub returns-in_default : goal.returns-in_default
returns-in_default c =
    let old = c.args.tables.now in
    quietly _ old c.chunk_of.new.tables c.chunk_of.ensures.quiet
    (subst (λ o. Reaches (WritableEffect c.args.i (HandOn (ToTransform c.args.t c.args.promise)) ∷ []) old (handed c.args.i (ToTransform c.args.t c.args.promise) o) c.chunk_of.new.tables) c.in_default.is (c.chunk_of.ensures.reached (ToTransform c.args.t c.args.promise)))
