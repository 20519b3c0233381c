use Rattle.std.proofs.Common.{◌∙◌, ap, sym, Some}
use Rattle.ws_steps.specs.declared.effects.Effect.TheVariants.{WriteAlgorithm}
use Rattle.ws_steps.specs.Writable.{Acts, causing, refresh_backpressure}
use Rattle.ws_writable.specs.Seen.{SeenWritable, acts_of}
use Rattle.ws_writable.proofs.AtOnce.{at-once}
use Rattle.ws_writable.proofs.stream.Writable.write_at_once.Goals as goal

pub returns-clause-row : goal.returns-clause-row
returns-clause-row c = λ me fx.
    let done = c.refresh_backpressure.ensures.row fx ∙ ap refresh_backpressure (c.enqueue_chunk.ensures.row c.args.p.now fx) in
    at-once me c.args.chunk c.args.promise (acts_of c.args.self.now c.args.p.now fx) c.requires.free c.requires.steady
    ∙ (ap (λ (x : Acts). causing (WriteAlgorithm me) (record x { slots = record x.slots { write_in_flight = Some c.args.promise } })) (sym done)
    ∙ ap (λ (w : SeenWritable). causing (WriteAlgorithm me) (acts_of (record w { slots = record w.slots { write_in_flight = Some c.args.promise } }) c.refresh_backpressure.new.p fx)) (sym c.self.view_is))
