use Rattle.std.proofs.Common.{◌≡◌, ◌∙◌, ap, arith, refl, subst}
use Rattle.ws_steps.specs.Pipes as pipe
use Rattle.ws_steps.specs.Slots.{Slots, ends_of, ends_at, source_at, writable_at}
use Rattle.ws_tables.proofs.Elements.{stands-at}
use Rattle.ws_tables.specs.View.{slots_of}
use Rattle.ws_direct.specs.Directly.{AreOpen}
use Rattle.ws_direct.proofs.Flowing.{look-open}
use Rattle.ws_direct.proofs.pipes.look_at_ends.Goals as goal

pub returns-clause-told : goal.returns-clause-told
returns-clause-told c =
    let old = c.args.tables.now in
    let s : Slots = slots_of old in
    let x = c.index_mut.result.now in
    let at = stands-at old.pipes.items c.args.p.0 x x (omega arith) c.index_mut.ensures.value in
    let there = stands-at old.pipes.items c.args.p.0 c.index-pipe.result.now c.index-pipe.result.now (omega arith) c.index-pipe.ensures in
    let same : c.index-pipe.result.now ≡ x = cc in
    let ends : ends_of (source_at c.source.result s) (writable_at c.dest.result s) ≡ ends_at x s =
    ap (λ i. ends_of (source_at i s) (writable_at c.dest.result s)) c.source.ensures
    ∙ (ap (λ i. ends_of (source_at c.index-pipe.result.now.source s) (writable_at i s)) c.dest.ensures
    ∙ ap (λ (y : pipe.Slots). ends_at y s) same) in
    look-open c.args.p c.args.look old _ x c.look_between.new.self c.in-Some.wants c.in-Some.ready c.look_between.result at
    (subst (AreOpen c.in-Some.wants c.in-Some.ready) ends c.in-Some.ensures) c.requires.ready.quiet c.look_between.ensures.row
    (record {
      slots = refl;
      pipes = refl;
      others = refl;
      places = refl;
      streams = refl;
      grown = refl;
      waiting = refl;
      signals = refl;
      full = refl;
      aborts = refl;
      tees = refl;
      uncopied = refl;
    })
    c.requires.ready.kept
