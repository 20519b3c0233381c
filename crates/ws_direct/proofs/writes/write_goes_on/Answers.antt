use Rattle.std.proofs.Common.{◌∙◌, [], ◌∷◌, refl, sym, ap, arith}
use Rattle.ws_promise.specs.Seen.{Seen}
use Rattle.ws_steps.specs.Slots.{halves_at, writable_at}
use Rattle.ws_steps.specs.Writable.{is_erroring}
use Rattle.ws_steps.specs.declared.effects.Effect.{Effect}
use Rattle.ws_steps.specs.declared.effects.Effect.TheVariants.{Give, Transform, Writable}
use Rattle.ws_steps.specs.declared.effects.Gift.TheVariants.{This}
use Rattle.ws_steps.specs.declared.effects.Use.TheVariants.{Resolve}
use Rattle.ws_steps.specs.declared.transform.Taker.TheVariants.{ToTransform}
use Rattle.ws_steps.specs.declared.transform.TransformOperation.TheVariants.{WriteGoesOn}
use Rattle.ws_steps.specs.declared.writable.WritableOperation.TheVariants.{HandOn}
use Rattle.ws_tables.proofs.Elements.{stands-at}
use Rattle.ws_tables.specs.View.{slots_of}
use Rattle.ws_performing.proofs.Records.{transform-absent}
use Rattle.ws_performing.proofs.Turns.{room-for}
use Rattle.ws_direct.proofs.Reaching.{effect-room, next-ready, nothing-done, one-left, then}
use Rattle.ws_direct.proofs.Behind.{after-ready, after-then, next-all}
use Rattle.ws_direct.proofs.Transforms.{fresh-on, goes-did}
use Rattle.ws_direct.proofs.writes.write_goes_on.Goals as goal

pub returns-then-len-t : goal.returns-then-len-t
returns-then-len-t c =
    nothing-done _ c.args.tables.now c.requires
    (transform-absent c.args.t (WriteGoesOn c.args.promise) c.args.tables.now (omega (arith, c.args.tables.now.transforms.ok.0)) c.requires.quiet)

pub leave_write_goes_on-requires : goal.leave_write_goes_on-requires
leave_write_goes_on-requires c = effect-room 1 _ c.args.tables.now (omega arith) c.requires

pub returns-then-is_erroring : goal.returns-then-is_erroring
returns-then-is_erroring c = one-left (Transform c.args.t (WriteGoesOn c.args.promise)) c.args.tables.now c.leave_write_goes_on.new.tables c.requires c.leave_write_goes_on.ensures

pub fresh-own-requires : goal.fresh-own-requires
fresh-own-requires c = (room-for (Transform c.args.t (WriteGoesOn c.args.promise)) [] c.args.tables.now c.requires.room).promises

pub hand_on-requires-clause-ready : goal.hand_on-requires-clause-ready
hand_on-requires-clause-ready c =
    let old = c.args.tables.now in
    let x = c.index.result.now in
    let d = c.fresh-own.result in
    let h : Effect = Writable c.writable-writable.result (HandOn (ToTransform c.args.t d)) in
    let g : Effect = Give (This d) (Resolve c.args.promise) in
    next-ready (Transform c.args.t (WriteGoesOn c.args.promise)) h (g ∷ []) old _ c.requires.room
    (fresh-on c.args.t (WriteGoesOn c.args.promise) old _ x c.fresh-own.new.self (h ∷ g ∷ [])
    (stands-at old.transforms.items c.args.t.0 x x (omega arith) c.index.ensures)
    (goes-did c.args.t (halves_at x (slots_of old)) c.args.promise x old.promises.table c.fresh-own.new.self.table d c.writable-writable.result
    (ap (λ i. is_erroring (writable_at i (slots_of old)).state) (sym c.writable-writable.ensures) ∙ (sym c.is_erroring.ensures ∙ c.if-is_erroring.false))
    c.writable-writable.ensures c.fresh-own.ensures.id (ap (λ (q : Seen). q.table) c.fresh-own.ensures.table))
    c.fresh-own.ensures.table refl c.requires.kept)
    c.requires.quiet

pub resolve_after-requires : goal.resolve_after-requires
resolve_after-requires c =
    let old = c.args.tables.now in
    let x = c.index.result.now in
    let d = c.fresh-own.result in
    let h : Effect = Writable c.writable-writable.result (HandOn (ToTransform c.args.t d)) in
    let g : Effect = Give (This d) (Resolve c.args.promise) in
    after-ready (h ∷ []) (g ∷ []) [] _ c.hand_on.new.tables
    (next-all (Transform c.args.t (WriteGoesOn c.args.promise) ∷ []) (h ∷ g ∷ []) old _ c.requires.room
    (fresh-on c.args.t (WriteGoesOn c.args.promise) old _ x c.fresh-own.new.self (h ∷ g ∷ [])
    (stands-at old.transforms.items c.args.t.0 x x (omega arith) c.index.ensures)
    (goes-did c.args.t (halves_at x (slots_of old)) c.args.promise x old.promises.table c.fresh-own.new.self.table d c.writable-writable.result
    (ap (λ i. is_erroring (writable_at i (slots_of old)).state) (sym c.writable-writable.ensures) ∙ (sym c.is_erroring.ensures ∙ c.if-is_erroring.false))
    c.writable-writable.ensures c.fresh-own.ensures.id (ap (λ (q : Seen). q.table) c.fresh-own.ensures.table))
    c.fresh-own.ensures.table refl c.requires.kept)
    c.requires.quiet).room
    c.hand_on.ensures

pub returns : goal.returns
returns c =
    let old = c.args.tables.now in
    let x = c.index.result.now in
    let d = c.fresh-own.result in
    let h : Effect = Writable c.writable-writable.result (HandOn (ToTransform c.args.t d)) in
    let g : Effect = Give (This d) (Resolve c.args.promise) in
    then _ (h ∷ g ∷ []) _ old _ _
    (fresh-on c.args.t (WriteGoesOn c.args.promise) old _ x c.fresh-own.new.self (h ∷ g ∷ [])
    (stands-at old.transforms.items c.args.t.0 x x (omega arith) c.index.ensures)
    (goes-did c.args.t (halves_at x (slots_of old)) c.args.promise x old.promises.table c.fresh-own.new.self.table d c.writable-writable.result
    (ap (λ i. is_erroring (writable_at i (slots_of old)).state) (sym c.writable-writable.ensures) ∙ (sym c.is_erroring.ensures ∙ c.if-is_erroring.false))
    c.writable-writable.ensures c.fresh-own.ensures.id (ap (λ (q : Seen). q.table) c.fresh-own.ensures.table))
    c.fresh-own.ensures.table refl c.requires.kept)
    (after-then (h ∷ []) (g ∷ []) _ c.hand_on.new.tables c.resolve_after.new.tables c.hand_on.ensures c.resolve_after.ensures)
