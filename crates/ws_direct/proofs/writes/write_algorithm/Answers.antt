use Rattle.std.proofs.Common.{[], ◌∷◌, None, sym, arith}
use Rattle.ws_steps.specs.declared.effects.Effect.{Effect}
use Rattle.ws_steps.specs.declared.effects.Effect.TheVariants.{WriteAlgorithm, Transform, Writable as WritableEffect}
use Rattle.ws_steps.specs.declared.effects.Use.TheVariants.{React}
use Rattle.ws_steps.specs.declared.promises.Step.TheVariants.{WritableWrite}
use Rattle.ws_steps.specs.declared.transform.Taker.TheVariants.{ToHost}
use Rattle.ws_steps.specs.declared.transform.TransformOperation.TheVariants.{SinkWrite}
use Rattle.ws_steps.specs.declared.writable.WritableOperation.TheVariants.{HandOn}
use Rattle.ws_performing.proofs.Going.{hand-is, write-is}
use Rattle.ws_direct.proofs.Reaching.{by, effect-room, next-ready, one-left, then}
use Rattle.ws_direct.proofs.writes.write_algorithm.Goals as goal

pub sink_write-requires : goal.sink_write-requires
sink_write-requires c =
    let old = c.args.tables.now in
    let one : Effect = Transform c.in-HalfOf.t (SinkWrite (React (WritableWrite c.args.i) None)) in
    next-ready (WriteAlgorithm c.args.i) one [] old old c.requires.room
    (by (WriteAlgorithm c.args.i) (one ∷ []) old old c.requires.kept (write-is c.args.i old c.in-HalfOf.t c.requires.quiet (sym (rw c.in-HalfOf.is at c.owner.ensures))) c.requires.kept)
    c.requires.quiet

pub returns-in-HalfOf : goal.returns-in-HalfOf
returns-in-HalfOf c =
    let old = c.args.tables.now in
    let one : Effect = Transform c.in-HalfOf.t (SinkWrite (React (WritableWrite c.args.i) None)) in
    then _ (one ∷ []) _ old old _
    (by (WriteAlgorithm c.args.i) (one ∷ []) old old c.requires.kept (write-is c.args.i old c.in-HalfOf.t c.requires.quiet (sym (rw c.in-HalfOf.is at c.owner.ensures))) c.requires.kept)
    c.sink_write.ensures

pub write_to_host-requires : goal.write_to_host-requires
write_to_host-requires c =
    let old = c.args.tables.now in
    let one : Effect = WritableEffect c.args.i (HandOn ToHost) in
    next-ready (WriteAlgorithm c.args.i) one [] old old c.requires.room
    (by (WriteAlgorithm c.args.i) (one ∷ []) old old c.requires.kept (hand-is c.args.i old (sym (rw c.in-Host.is at c.owner.ensures))) c.requires.kept)
    c.requires.quiet

pub returns-in-Host : goal.returns-in-Host
returns-in-Host c =
    let old = c.args.tables.now in
    let one : Effect = WritableEffect c.args.i (HandOn ToHost) in
    then _ (one ∷ []) _ old old _
    (by (WriteAlgorithm c.args.i) (one ∷ []) old old c.requires.kept (hand-is c.args.i old (sym (rw c.in-Host.is at c.owner.ensures))) c.requires.kept)
    c.write_to_host.ensures

pub leave_write_algorithm-requires : goal.leave_write_algorithm-requires
leave_write_algorithm-requires c = effect-room 1 _ c.args.tables.now (omega arith) c.requires

pub returns-in_default : goal.returns-in_default
returns-in_default c = one-left (WriteAlgorithm c.args.i) c.args.tables.now c.leave_write_algorithm.new.tables c.requires c.leave_write_algorithm.ensures
