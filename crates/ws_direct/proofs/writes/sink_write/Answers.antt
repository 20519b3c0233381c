use Rattle.std.proofs.Common.{◌∙◌, [], ◌∷◌, None, refl, sym, ap, arith}
use Rattle.ws_promise.specs.Seen.{Seen}
use Rattle.ws_steps.specs.declared.effects.Effect.{Effect}
use Rattle.ws_steps.specs.declared.effects.Effect.TheVariants.{Give, Transform, Writable}
use Rattle.ws_steps.specs.declared.effects.Gift.TheVariants.{This}
use Rattle.ws_steps.specs.declared.effects.Use.{Use}
use Rattle.ws_steps.specs.declared.effects.Use.TheVariants.{React}
use Rattle.ws_steps.specs.declared.promises.Step.TheVariants.{TransformChanged, WritableWrite}
use Rattle.ws_steps.specs.declared.transform.Taker.TheVariants.{ToTransform}
use Rattle.ws_steps.specs.declared.transform.TransformOperation.TheVariants.{SinkWrite}
use Rattle.ws_steps.specs.declared.writable.WritableOperation.TheVariants.{HandOn}
use Rattle.ws_tables.proofs.Elements.{stands-at}
use Rattle.ws_performing.proofs.Records.{transform-absent}
use Rattle.ws_performing.proofs.Turns.{room-for}
use Rattle.ws_direct.proofs.Reaching.{next-ready, nothing-done, then}
use Rattle.ws_direct.proofs.Behind.{after-ready, after-then, first-then, next-all}
use Rattle.ws_direct.proofs.Transforms.{fresh-on, hands-did, waits-did}
use Rattle.ws_direct.proofs.writes.sink_write.Goals as goal

pub returns-then-len-t : goal.returns-then-len-t
returns-then-len-t c =
    let u : Use = React (WritableWrite c.args.i) None in
    nothing-done _ c.args.tables.now c.requires
    (transform-absent c.args.t (SinkWrite u) c.args.tables.now (omega (arith, c.args.tables.now.transforms.ok.0)) c.requires.quiet)

pub fresh-promise-requires : goal.fresh-promise-requires
fresh-promise-requires c = (room-for (Transform c.args.t (SinkWrite (React (WritableWrite c.args.i) None))) [] c.args.tables.now c.requires.room).promises

pub react-requires-clause-ready : goal.react-requires-clause-ready
react-requires-clause-ready c =
    let old = c.args.tables.now in
    let u : Use = React (WritableWrite c.args.i) None in
    let d = c.fresh-promise.result in
    let a : Effect = Give (This c.change-change.result) (React (TransformChanged c.args.t d) None) in
    next-ready (Transform c.args.t (SinkWrite u)) a (Give (This d) u ∷ []) old _ c.requires.room
    (fresh-on c.args.t (SinkWrite u) old _ c.index-transform.result.now c.fresh-promise.new.self (a ∷ Give (This d) u ∷ [])
    (stands-at old.transforms.items c.args.t.0 c.index-transform.result.now c.index-transform.result.now (omega arith) c.index-transform.ensures)
    (waits-did c.args.t u c.index-transform.result.now old.promises.table c.fresh-promise.new.self.table d c.change-change.result
    (sym c.has_backpressure-waits.ensures ∙ c.if-waits.true) c.change-change.ensures c.fresh-promise.ensures.id (ap (λ (q : Seen). q.table) c.fresh-promise.ensures.table))
    c.fresh-promise.ensures.table refl c.requires.kept)
    c.requires.quiet

pub react-requires-then-waits-clause-ready : goal.react-requires-then-waits-clause-ready
react-requires-then-waits-clause-ready c =
    let old = c.args.tables.now in
    let u : Use = React (WritableWrite c.args.i) None in
    let d = c.fresh-promise.result in
    let a : Effect = Give (This c.change-change.result) (React (TransformChanged c.args.t d) None) in
    next-ready (Transform c.args.t (SinkWrite u)) (Give (This d) u) [] old c.react.new.tables c.requires.room
    (then _ (a ∷ Give (This d) u ∷ []) _ old _ _
    (fresh-on c.args.t (SinkWrite u) old _ c.index-transform.result.now c.fresh-promise.new.self (a ∷ Give (This d) u ∷ [])
    (stands-at old.transforms.items c.args.t.0 c.index-transform.result.now c.index-transform.result.now (omega arith) c.index-transform.ensures)
    (waits-did c.args.t u c.index-transform.result.now old.promises.table c.fresh-promise.new.self.table d c.change-change.result
    (sym c.has_backpressure-waits.ensures ∙ c.if-waits.true) c.change-change.ensures c.fresh-promise.ensures.id (ap (λ (q : Seen). q.table) c.fresh-promise.ensures.table))
    c.fresh-promise.ensures.table refl c.requires.kept)
    (first-then a (Give (This d) u ∷ []) _ c.react.new.tables c.react.ensures.performed c.react.ensures.quiet))
    c.react.ensures.quiet

pub returns-then-waits : goal.returns-then-waits
returns-then-waits c =
    let old = c.args.tables.now in
    let u : Use = React (WritableWrite c.args.i) None in
    let d = c.fresh-promise.result in
    let a : Effect = Give (This c.change-change.result) (React (TransformChanged c.args.t d) None) in
    then _ (Give (This d) u ∷ []) _ old c.react.new.tables _
    (then _ (a ∷ Give (This d) u ∷ []) _ old _ _
    (fresh-on c.args.t (SinkWrite u) old _ c.index-transform.result.now c.fresh-promise.new.self (a ∷ Give (This d) u ∷ [])
    (stands-at old.transforms.items c.args.t.0 c.index-transform.result.now c.index-transform.result.now (omega arith) c.index-transform.ensures)
    (waits-did c.args.t u c.index-transform.result.now old.promises.table c.fresh-promise.new.self.table d c.change-change.result
    (sym c.has_backpressure-waits.ensures ∙ c.if-waits.true) c.change-change.ensures c.fresh-promise.ensures.id (ap (λ (q : Seen). q.table) c.fresh-promise.ensures.table))
    c.fresh-promise.ensures.table refl c.requires.kept)
    (first-then a (Give (This d) u ∷ []) _ c.react.new.tables c.react.ensures.performed c.react.ensures.quiet))
    c.react-then-waits.ensures.performed

pub hand_on-requires-clause-ready : goal.hand_on-requires-clause-ready
hand_on-requires-clause-ready c =
    let old = c.args.tables.now in
    let u : Use = React (WritableWrite c.args.i) None in
    let d = c.fresh-promise.result in
    let h : Effect = Writable c.writable-writable.result (HandOn (ToTransform c.args.t d)) in
    next-ready (Transform c.args.t (SinkWrite u)) h (Give (This d) u ∷ []) old _ c.requires.room
    (fresh-on c.args.t (SinkWrite u) old _ c.index-transform.result.now c.fresh-promise.new.self (h ∷ Give (This d) u ∷ [])
    (stands-at old.transforms.items c.args.t.0 c.index-transform.result.now c.index-transform.result.now (omega arith) c.index-transform.ensures)
    (hands-did c.args.t u c.index-transform.result.now old.promises.table c.fresh-promise.new.self.table d c.writable-writable.result
    (sym c.has_backpressure-waits.ensures ∙ c.if-waits.false) c.writable-writable.ensures c.fresh-promise.ensures.id (ap (λ (q : Seen). q.table) c.fresh-promise.ensures.table))
    c.fresh-promise.ensures.table refl c.requires.kept)
    c.requires.quiet

pub write_after-requires : goal.write_after-requires
write_after-requires c =
    let old = c.args.tables.now in
    let u : Use = React (WritableWrite c.args.i) None in
    let d = c.fresh-promise.result in
    let h : Effect = Writable c.writable-writable.result (HandOn (ToTransform c.args.t d)) in
    after-ready (h ∷ []) (Give (This d) u ∷ []) [] _ c.hand_on.new.tables
    (next-all (Transform c.args.t (SinkWrite u) ∷ []) (h ∷ Give (This d) u ∷ []) old _ c.requires.room
    (fresh-on c.args.t (SinkWrite u) old _ c.index-transform.result.now c.fresh-promise.new.self (h ∷ Give (This d) u ∷ [])
    (stands-at old.transforms.items c.args.t.0 c.index-transform.result.now c.index-transform.result.now (omega arith) c.index-transform.ensures)
    (hands-did c.args.t u c.index-transform.result.now old.promises.table c.fresh-promise.new.self.table d c.writable-writable.result
    (sym c.has_backpressure-waits.ensures ∙ c.if-waits.false) c.writable-writable.ensures c.fresh-promise.ensures.id (ap (λ (q : Seen). q.table) c.fresh-promise.ensures.table))
    c.fresh-promise.ensures.table refl c.requires.kept)
    c.requires.quiet).room
    c.hand_on.ensures

pub returns-else-waits : goal.returns-else-waits
returns-else-waits c =
    let old = c.args.tables.now in
    let u : Use = React (WritableWrite c.args.i) None in
    let d = c.fresh-promise.result in
    let h : Effect = Writable c.writable-writable.result (HandOn (ToTransform c.args.t d)) in
    then _ (h ∷ Give (This d) u ∷ []) _ old _ _
    (fresh-on c.args.t (SinkWrite u) old _ c.index-transform.result.now c.fresh-promise.new.self (h ∷ Give (This d) u ∷ [])
    (stands-at old.transforms.items c.args.t.0 c.index-transform.result.now c.index-transform.result.now (omega arith) c.index-transform.ensures)
    (hands-did c.args.t u c.index-transform.result.now old.promises.table c.fresh-promise.new.self.table d c.writable-writable.result
    (sym c.has_backpressure-waits.ensures ∙ c.if-waits.false) c.writable-writable.ensures c.fresh-promise.ensures.id (ap (λ (q : Seen). q.table) c.fresh-promise.ensures.table))
    c.fresh-promise.ensures.table refl c.requires.kept)
    (after-then (h ∷ []) (Give (This d) u ∷ []) _ c.hand_on.new.tables c.write_after.new.tables c.hand_on.ensures c.write_after.ensures)
