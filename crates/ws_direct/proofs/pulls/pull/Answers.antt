use Rattle.std.proofs.Common.{[], ◌∷◌, None, sym, arith}
use Rattle.ws_steps.specs.declared.effects.Effect.{Effect}
use Rattle.ws_steps.specs.declared.effects.Effect.TheVariants.{PullAlgorithm, Transform}
use Rattle.ws_steps.specs.declared.effects.Use.TheVariants.{React}
use Rattle.ws_steps.specs.declared.promises.Step.TheVariants.{ReadablePull}
use Rattle.ws_steps.specs.declared.transform.TransformOperation.TheVariants.{SourcePull}
use Rattle.ws_performing.proofs.Going.{pull-is}
use Rattle.ws_direct.proofs.Reaching.{by, effect-room, next-ready, one-left, then}
use Rattle.ws_direct.proofs.pulls.pull.Goals as goal

pub source_pull-requires : goal.source_pull-requires
source_pull-requires c =
    let old = c.args.tables.now in
    let one : Effect = Transform c.in-HalfOf.t (SourcePull (React (ReadablePull c.args.i) None)) in
    next-ready (PullAlgorithm c.args.i) one [] old old c.requires.room
    (by (PullAlgorithm c.args.i) (one ∷ []) old old c.requires.kept (pull-is c.args.i old c.in-HalfOf.t c.requires.quiet (sym (rw c.in-HalfOf.is at c.owner.ensures))) c.requires.kept)
    c.requires.quiet

pub returns-in-HalfOf : goal.returns-in-HalfOf
returns-in-HalfOf c =
    let old = c.args.tables.now in
    let one : Effect = Transform c.in-HalfOf.t (SourcePull (React (ReadablePull c.args.i) None)) in
    then _ (one ∷ []) _ old old _
    (by (PullAlgorithm c.args.i) (one ∷ []) old old c.requires.kept (pull-is c.args.i old c.in-HalfOf.t c.requires.quiet (sym (rw c.in-HalfOf.is at c.owner.ensures))) c.requires.kept)
    c.source_pull.ensures

pub leave_pull-requires : goal.leave_pull-requires
leave_pull-requires c = effect-room 1 _ c.args.tables.now (omega arith) c.requires

pub returns-in_default : goal.returns-in_default
returns-in_default c = one-left (PullAlgorithm c.args.i) c.args.tables.now c.leave_pull.new.tables c.requires c.leave_pull.ensures
