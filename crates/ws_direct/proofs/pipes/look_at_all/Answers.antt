use Rattle.std.proofs.Common.{◌≡◌, ◌∙◌, [], ap, arith, refl}
use Rattle.ws_pipe.specs.Seen.{look_of}
use Rattle.ws_promise.specs.Seen.{SeenAgenda}
use Rattle.ws_steps.specs.Pipes as pipe
use Rattle.ws_steps.specs.Slots.{Slots, ends_of, ends_at, source_at, writable_at}
use Rattle.ws_steps.specs.declared.effects.Effect.TheVariants.{Pipe}
use Rattle.ws_tables.proofs.Elements.{stands-at}
use Rattle.ws_tables.specs.Room.{places_of}
use Rattle.ws_tables.specs.View.{slots_of}
use Rattle.ws_performing.proofs.Turns.{room-for}
use Rattle.ws_direct.proofs.Reaching.{effect-room}
use Rattle.ws_direct.proofs.Flowing.{look-on, look-room}
use Rattle.ws_direct.proofs.pipes.look_at_all.Goals as goal

pub look_directly-requires-clause-promise_room : goal.look_directly-requires-clause-promise_room
look_directly-requires-clause-promise_room c = let h = (room-for (Pipe c.args.p (look_of c.args.look)) [] c.args.tables.now c.requires.ready.room).promises in let own = look-room c.args.look in omega (arith, h, own)

pub look_directly-requires-clause-effect_room : goal.look_directly-requires-clause-effect_room
look_directly-requires-clause-effect_room c = effect-room 5 _ c.args.tables.now (omega arith) c.requires.ready

pub returns-clause-told : goal.returns-clause-told
returns-clause-told c =
    let old = c.args.tables.now in
    let s : Slots = slots_of old in
    let x = c.index_mut.result.now in
    let at = stands-at old.pipes.items c.args.p.0 x x (omega arith) c.index_mut.ensures.value in
    let there = stands-at old.pipes.items c.args.p.0 c.index-pipe.result.now c.index-pipe.result.now (omega arith) c.index-pipe.ensures in
    let same : c.index-pipe.result.now ≡ x = cc in
    let ends : c.pipe_ends-ends.result ≡ ends_at x s =
    c.pipe_ends-ends.ensures
    ∙ (ap (λ i. ends_of (source_at i s) (writable_at c.dest.result s)) c.source.ensures
    ∙ (ap (λ i. ends_of (source_at c.index-pipe.result.now.source s) (writable_at i s)) c.dest.ensures
    ∙ ap (λ (y : pipe.Slots). ends_at y s) same)) in
    look-on c.args.p (look_of c.args.look) old _ x c.look_directly.new.self c.look_directly.new.p c.look_directly.new.fx c.pipe_ends-ends.result c.look_directly.result at ends c.requires.ready.quiet
    c.look_directly.ensures.row c.look_directly.ensures.quiet c.look_directly.ensures.promise_room
    (record {
      slots = refl;
      pipes = refl;
      others = refl;
      places = ap (λ n. record (places_of old) { promises = c.look_directly.new.p.room; caused = n }) c.look_directly.ensures.effect_room;
      streams = refl;
      grown = refl;
      waiting = refl;
      signals = refl;
      full = refl;
      aborts = refl;
      tees = refl;
      uncopied = refl;
    })
    c.requires.ready.kept

pub returns-clause-quiet : goal.returns-clause-quiet
returns-clause-quiet c = λ yes. ap (λ (a : SeenAgenda). a.effects) (c.look_directly.ensures.quiet yes) ∙ c.requires.ready.quiet
