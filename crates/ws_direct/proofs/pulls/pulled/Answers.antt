use Rattle.std.proofs.Common.{◌∙◌, true, false, [], ◌∷◌, Some, Ok, refl, sym, ap, arith}
use Rattle.ws_value.specs.declared.value.Plain.TheVariants.{Undefined}
use Rattle.ws_steps.specs.declared.effects.Effect.TheVariants.{PullAlgorithm, Readable as ReadableEffect}
use Rattle.ws_steps.specs.declared.readable.ReadableOperation.TheVariants.{PullSettled}
use Rattle.ws_readable.specs.Seen.{acts_of, pulling_where}
use Rattle.ws_tables.specs.View.{stream_of}
use Rattle.ws_tables.proofs.Elements.{stands-at}
use Rattle.ws_performing.proofs.Streams.{readable-within}
use Rattle.ws_direct.proofs.Reaching.{effect-room, next-ready, no-effects, one-left, quietly, then}
use Rattle.ws_direct.proofs.Streams.{pulled-on}
use Rattle.ws_direct.proofs.pulls.pulled.Goals as goal

pub leave_pulled-requires : goal.leave_pulled-requires
leave_pulled-requires c = effect-room 1 _ c.args.tables.now (omega arith) c.requires

pub returns-then-not-has_readable : goal.returns-then-not-has_readable
returns-then-not-has_readable c = one-left (ReadableEffect c.args.i (PullSettled (Ok Undefined))) c.args.tables.now c.leave_pulled.new.tables c.requires c.leave_pulled.ensures

pub index_mut-requires : goal.index_mut-requires
index_mut-requires c =
    let there = readable-within stream_of c.args.tables.now.streams.items c.args.i.0 (sym c.has_readable.ensures ∙ c.if-not-has_readable.false) in
    omega arith

pub pull-requires : goal.pull-requires
pull-requires c =
    let old = c.args.tables.now in
    let there = readable-within stream_of old.streams.items c.args.i.0 (sym c.has_readable.ensures ∙ c.if-not-has_readable.false) in
    next-ready (ReadableEffect c.args.i (PullSettled (Ok Undefined))) (PullAlgorithm c.args.i) [] old _ c.requires.room
    (pulled-on c.args.i old _ c.in-Readable.stream c.pull_done.new.self true
    (stands-at old.streams.items c.args.i.0 c.index_mut.result.now c.index_mut.result.now there c.index_mut.ensures.value ∙ ap (λ x. Some x) c.in-Readable.is)
    (c.pull_done.ensures.row c.args.i old.promises no-effects
    ∙ ap (λ b. pulling_where b c.args.i (acts_of c.pull_done.new.self old.promises no-effects)) c.if-pull_done.true)
    c.pull_done.ensures.room refl
    (record {
      slots = refl;
      streams = refl;
      others = refl;
      places = refl;
      grown = refl;
      signals = refl;
      full = refl;
      aborts = refl;
      pipes = refl;
      tees = refl;
      uncopied = refl;
    })
    c.requires.kept)
    c.requires.quiet

pub returns-then-pull_done : goal.returns-then-pull_done
returns-then-pull_done c =
    let old = c.args.tables.now in
    let there = readable-within stream_of old.streams.items c.args.i.0 (sym c.has_readable.ensures ∙ c.if-not-has_readable.false) in
    then _ (PullAlgorithm c.args.i ∷ []) _ old _ _
    (pulled-on c.args.i old _ c.in-Readable.stream c.pull_done.new.self true
    (stands-at old.streams.items c.args.i.0 c.index_mut.result.now c.index_mut.result.now there c.index_mut.ensures.value ∙ ap (λ x. Some x) c.in-Readable.is)
    (c.pull_done.ensures.row c.args.i old.promises no-effects
    ∙ ap (λ b. pulling_where b c.args.i (acts_of c.pull_done.new.self old.promises no-effects)) c.if-pull_done.true)
    c.pull_done.ensures.room refl
    (record {
      slots = refl;
      streams = refl;
      others = refl;
      places = refl;
      grown = refl;
      signals = refl;
      full = refl;
      aborts = refl;
      pipes = refl;
      tees = refl;
      uncopied = refl;
    })
    c.requires.kept)
    c.pull.ensures

pub returns-else-pull_done : goal.returns-else-pull_done
returns-else-pull_done c =
    let old = c.args.tables.now in
    let there = readable-within stream_of old.streams.items c.args.i.0 (sym c.has_readable.ensures ∙ c.if-not-has_readable.false) in
    quietly _ old _ c.requires.quiet
    (pulled-on c.args.i old _ c.in-Readable.stream c.pull_done.new.self false
    (stands-at old.streams.items c.args.i.0 c.index_mut.result.now c.index_mut.result.now there c.index_mut.ensures.value ∙ ap (λ x. Some x) c.in-Readable.is)
    (c.pull_done.ensures.row c.args.i old.promises no-effects
    ∙ ap (λ b. pulling_where b c.args.i (acts_of c.pull_done.new.self old.promises no-effects)) c.if-pull_done.false)
    c.pull_done.ensures.room refl
    (record {
      slots = refl;
      streams = refl;
      others = refl;
      places = refl;
      grown = refl;
      signals = refl;
      full = refl;
      aborts = refl;
      pipes = refl;
      tees = refl;
      uncopied = refl;
    })
    c.requires.kept)
