use Rattle.std.proofs.Common.{◌∙◌, [], ◌∷◌, Some, sym, arith}
use Rattle.ws_steps.specs.declared.calls.HostCall.TheVariants.{Transform as HostTransform}
use Rattle.ws_steps.specs.declared.effects.Effect.{Effect}
use Rattle.ws_steps.specs.declared.effects.Effect.TheVariants.{CallHost, Transform}
use Rattle.ws_steps.specs.declared.effects.Use.TheVariants.{React}
use Rattle.ws_steps.specs.declared.promises.Step.TheVariants.{Transformed}
use Rattle.ws_steps.specs.declared.transform.TransformOperation.TheVariants.{TransformChunk}
use Rattle.ws_tables.proofs.Elements.{stands-at}
use Rattle.ws_performing.proofs.Records.{transform-absent}
use Rattle.ws_direct.proofs.Reaching.{effect-room, next-ready, nothing-done, one-left, then}
use Rattle.ws_direct.proofs.Transforms.{calls-on}
use Rattle.ws_direct.proofs.writes.transform_chunk.Goals as goal

pub returns-then-len-t : goal.returns-then-len-t
returns-then-len-t c =
    nothing-done _ c.args.tables.now c.requires.ready
    (transform-absent c.args.t (TransformChunk c.args.chunk c.args.promise) c.args.tables.now (omega (arith, c.args.tables.now.transforms.ok.0)) c.requires.ready.quiet)

pub call_host-requires-clause-ready : goal.call_host-requires-clause-ready
call_host-requires-clause-ready c =
    let old = c.args.tables.now in
    let one : Effect = CallHost (HostTransform c.readable.result c.args.chunk) (React (Transformed c.args.t) (Some c.args.promise)) in
    next-ready (Transform c.args.t (TransformChunk c.args.chunk c.args.promise)) one [] old old c.requires.ready.room
    (calls-on c.args.t c.args.chunk c.args.promise old c.index-transform.result.now c.readable.result
    (stands-at old.transforms.items c.args.t.0 c.index-transform.result.now c.index-transform.result.now (omega arith) c.index-transform.ensures)
    (sym c.kind.ensures ∙ c.in-Host.is) c.readable.ensures c.requires.ready.kept)
    c.requires.ready.quiet

pub returns-in-Host : goal.returns-in-Host
returns-in-Host c =
    let old = c.args.tables.now in
    let one : Effect = CallHost (HostTransform c.readable.result c.args.chunk) (React (Transformed c.args.t) (Some c.args.promise)) in
    then _ (one ∷ []) _ old old _
    (calls-on c.args.t c.args.chunk c.args.promise old c.index-transform.result.now c.readable.result
    (stands-at old.transforms.items c.args.t.0 c.index-transform.result.now c.index-transform.result.now (omega arith) c.index-transform.ensures)
    (sym c.kind.ensures ∙ c.in-Host.is) c.readable.ensures c.requires.ready.kept)
    c.call_host.ensures

pub leave_transform-requires : goal.leave_transform-requires
leave_transform-requires c = effect-room 1 _ c.args.tables.now (omega arith) c.requires.ready

pub returns-in-Identity : goal.returns-in-Identity
returns-in-Identity c = one-left (Transform c.args.t (TransformChunk c.args.chunk c.args.promise)) c.args.tables.now c.leave_transform.new.tables c.requires.ready c.leave_transform.ensures
