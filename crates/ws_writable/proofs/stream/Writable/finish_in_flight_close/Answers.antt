use Rattle.std.proofs.Common.{◌∙◌, ap}
use Rattle.ws_steps.specs.declared.writable.WritableState.TheVariants.{Closed}
use Rattle.ws_steps.specs.Writable.{Acts, clear_error, fulfil_closed, finish_in_flight_close}
use Rattle.ws_writable.specs.Seen.{SeenWritable, acts_of}
use Rattle.ws_writable.proofs.stream.Writable.finish_in_flight_close.Goals as goal

-- the stream is closed
abbrev shut : Acts → Acts
shut b = fulfil_closed (record b { slots = record b.slots { state = Closed } }) b.slots.writer

pub returns-clause-row : goal.returns-clause-row
unfolding finish_in_flight_close
returns-clause-row c = λ fx.
    c.fulfil_closed.ensures.row fx
    ∙ (ap (λ (v : SeenWritable). shut (acts_of v c.clear_error.new.p fx)) c.self.view_is
    ∙ ap shut (c.clear_error.ensures.row fx ∙ ap clear_error (c.close_ended.ensures.row fx)))
