use Rattle.std.proofs.Common.{◌≡◌, ◌∙◌, [], refl, ap, arith}
use Rattle.ws_steps.specs.declared.effects.Effect.TheVariants.{Transform}
use Rattle.ws_steps.specs.declared.transform.Halves.{Halves}
use Rattle.ws_steps.specs.declared.transform.TransformOperation.TheVariants.{Enqueued}
use Rattle.ws_steps.specs.Slots.{Slots, halves_of, halves_at, readable_at, writable_at}
use Rattle.ws_steps.specs.Transform as transform
use Rattle.ws_tables.proofs.Elements.{stands-at}
use Rattle.ws_tables.specs.View.{slots_of}
use Rattle.ws_performing.proofs.Records.{transform-absent}
use Rattle.ws_performing.proofs.Turns.{room-for}
use Rattle.ws_direct.proofs.Reaching.{no-effects, nothing-done, quietly}
use Rattle.ws_direct.proofs.Transforms.{transforms-on}
use Rattle.ws_direct.proofs.enqueues.enqueued.Goals as goal

pub returns-then-len-t : goal.returns-then-len-t
returns-then-len-t c =
    nothing-done _ c.args.tables.now c.requires
    (transform-absent c.args.t Enqueued c.args.tables.now (omega (arith, c.args.tables.now.transforms.ok.0)) c.requires.quiet)

pub enqueued-requires : goal.enqueued-requires
enqueued-requires c = record { promise_room = (room-for (Transform c.args.t Enqueued) [] c.args.tables.now c.requires.room).promises }

pub returns : goal.returns
returns c =
    let old = c.args.tables.now in
    let s : Slots = slots_of old in
    let x = c.index_mut.result.now in
    let at = stands-at old.transforms.items c.args.t.0 x x (omega arith) c.index_mut.ensures.value in
    let there = stands-at old.transforms.items c.args.t.0 c.index-transform.result.now c.index-transform.result.now (omega arith) c.index-transform.ensures in
    let same : c.index-transform.result.now ≡ x = cc in
    let halves : c.transform_halves-halves.result ≡ halves_at x s =
    c.transform_halves-halves.ensures
    ∙ (ap (λ i. halves_of (readable_at i s) (writable_at c.writable.result s)) c.readable.ensures
    ∙ (ap (λ i. halves_of (readable_at c.index-transform.result.now.readable s) (writable_at i s)) c.writable.ensures
    ∙ ap (λ (y : transform.Slots). halves_at y s) same)) in
    quietly _ old _ c.requires.quiet
    (transforms-on c.args.t Enqueued old _ x c.enqueued.new.self c.enqueued.new.p [] at
    (c.enqueued.ensures.row no-effects ∙ ap (λ (h : Halves). transform.enqueued h (record { slots = x; out = record { promises = old.promises.table; effects = [] } })) halves)
    c.enqueued.ensures.promise_room
    (record {
      slots = refl;
      others = refl;
      places = refl;
      records = record { streams = refl; grown = refl; waiting = refl; pipes = refl; signals = refl; full = refl; aborts = refl; tees = refl; uncopied = refl };
    })
    c.requires.kept)
