use Rattle.std.proofs.Common.{[], ◌∷◌, List, arith}
use Rattle.ws_steps.specs.declared.effects.Effect.{Effect}
use Rattle.ws_steps.specs.declared.effects.Effect.TheVariants.{Readable, Transform}
use Rattle.ws_steps.specs.declared.readable.ReadableOperation.TheVariants.{Enqueue as EnqueueChunk}
use Rattle.ws_steps.specs.declared.transform.TransformOperation.TheVariants.{Enqueue, Enqueued}
use Rattle.ws_tables.proofs.Elements.{stands-at}
use Rattle.ws_performing.proofs.Records.{transform-absent}
use Rattle.ws_direct.proofs.Reaching.{next-ready, nothing-done, then}
use Rattle.ws_direct.proofs.Behind.{after-ready, after-then, next-all}
use Rattle.ws_direct.proofs.Transforms.{enqueue-on}
use Rattle.ws_direct.proofs.enqueues.enqueue.Goals as goal

pub returns-then-len-t : goal.returns-then-len-t
returns-then-len-t c =
    nothing-done _ c.args.tables.now c.requires
    (transform-absent c.args.t (Enqueue c.args.chunk) c.args.tables.now (omega (arith, c.args.tables.now.transforms.ok.0)) c.requires.quiet)

pub accept-requires : goal.accept-requires
accept-requires c =
    let old = c.args.tables.now in
    next-ready (Transform c.args.t (Enqueue c.args.chunk)) (Readable c.readable-readable.result (EnqueueChunk c.args.chunk)) (Transform c.args.t Enqueued ∷ []) old old c.requires.room
    (enqueue-on c.args.t c.args.chunk old c.index.result.now c.readable-readable.result
    (stands-at old.transforms.items c.args.t.0 c.index.result.now c.index.result.now (omega arith) c.index.ensures) c.readable-readable.ensures c.requires.kept)
    c.requires.quiet

pub enqueued_after-requires : goal.enqueued_after-requires
enqueued_after-requires c =
    let old = c.args.tables.now in
    let es : List Effect = Readable c.readable-readable.result (EnqueueChunk c.args.chunk) ∷ Transform c.args.t Enqueued ∷ [] in
    after-ready (Readable c.readable-readable.result (EnqueueChunk c.args.chunk) ∷ []) (Transform c.args.t Enqueued ∷ []) [] old c.accept.new.tables
    (next-all (Transform c.args.t (Enqueue c.args.chunk) ∷ []) es old old c.requires.room
    (enqueue-on c.args.t c.args.chunk old c.index.result.now c.readable-readable.result
    (stands-at old.transforms.items c.args.t.0 c.index.result.now c.index.result.now (omega arith) c.index.ensures) c.readable-readable.ensures c.requires.kept)
    c.requires.quiet).room
    c.accept.ensures

pub returns : goal.returns
returns c =
    let old = c.args.tables.now in
    let es : List Effect = Readable c.readable-readable.result (EnqueueChunk c.args.chunk) ∷ Transform c.args.t Enqueued ∷ [] in
    then _ es _ old old _
    (enqueue-on c.args.t c.args.chunk old c.index.result.now c.readable-readable.result
    (stands-at old.transforms.items c.args.t.0 c.index.result.now c.index.result.now (omega arith) c.index.ensures) c.readable-readable.ensures c.requires.kept)
    (after-then (Readable c.readable-readable.result (EnqueueChunk c.args.chunk) ∷ []) (Transform c.args.t Enqueued ∷ []) old c.accept.new.tables c.enqueued_after.new.tables c.accept.ensures
    c.enqueued_after.ensures)
