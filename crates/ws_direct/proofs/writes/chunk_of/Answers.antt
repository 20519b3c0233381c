use Rattle.std.proofs.Common.{◌∙◌, Some, refl, sym, ap, arith}
use Rattle.ws_steps.specs.declared.effects.Effect.TheVariants.{Writable as WritableEffect}
use Rattle.ws_steps.specs.declared.writable.WritableOperation.TheVariants.{HandOn}
use Rattle.ws_tables.specs.View.{stream_of}
use Rattle.ws_tables.proofs.Elements.{stands-at}
use Rattle.ws_performing.proofs.Streams.{writable-absent, writable-within}
use Rattle.ws_direct.proofs.Reaching.{no-effects}
use Rattle.ws_direct.proofs.Behind.{nothing-kept}
use Rattle.ws_direct.proofs.Writables.{chunk-on}
use Rattle.ws_direct.proofs.writes.chunk_of.Goals as goal

pub returns-then-not-has_writable-clause-reached : goal.returns-then-not-has_writable-clause-reached
returns-then-not-has_writable-clause-reached c = λ taker.
    nothing-kept (WritableEffect c.args.i (HandOn taker)) c.args.tables.now c.requires.quiet c.requires.kept
    (writable-absent c.args.i (HandOn taker) c.args.tables.now (sym c.has_writable.ensures ∙ c.if-not-has_writable.true) c.requires.quiet)

pub index_mut-requires : goal.index_mut-requires
index_mut-requires c =
    let there = writable-within stream_of c.args.tables.now.streams.items c.args.i.0 (sym c.has_writable.ensures ∙ c.if-not-has_writable.false) in
    omega arith

pub returns-clause-reached : goal.returns-clause-reached
returns-clause-reached c = λ taker.
    let old = c.args.tables.now in
    let there = writable-within stream_of old.streams.items c.args.i.0 (sym c.has_writable.ensures ∙ c.if-not-has_writable.false) in
    chunk-on c.args.i taker old _ c.in-Writable.stream c.take_chunk.new.self c.take_chunk.result
    (stands-at old.streams.items c.args.i.0 c.index_mut.result.now c.index_mut.result.now there c.index_mut.ensures.value ∙ ap (λ x. Some x) c.in-Writable.is)
    (c.take_chunk.ensures.row c.args.i taker old.promises no-effects) c.take_chunk.ensures.room refl
    (record {
      slots = refl;
      streams = refl;
      others = refl;
      places = refl;
      grown = refl;
      signals = refl;
      full = refl;
      aborts = refl;
      pipes = refl;
      tees = refl;
      uncopied = refl;
    })
    c.requires.kept
