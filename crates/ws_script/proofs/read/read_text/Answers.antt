use Rattle.std.proofs.Common.{ℕ, ◌+◌, ◌≤◌, length, take, arith}
use Rattle.std.proofs.lemmas.List.{length-take}
use Rattle.std.proofs.lemmas.Result.{err_from_is_err_and}
use Rattle.ws_script.specs.Reading.{most_of_a_text}
use Rattle.ws_script.proofs.ReadingMore.{Stops-reading}
use Rattle.ws_script.proofs.read.read_text.Goals as goal

pub returns-in_err-read_more-clause-stopped : goal.returns-in_err-read_more-clause-stopped
returns-in_err-read_more-clause-stopped g c =
    let within : length c.reads.text.items + length (take c.min-want.result c.reads.room) ≤ most_of_a_text = omega (arith, length-take {A = ℕ}) in
    let p = err_from_is_err_and c.from_residual.result c.from_residual.ensures.1 in
    rw (p.1, p.2)
    (Stops-reading c.in_err-read_more.field-0.0 most_of_a_text _
    (g.S.Source.feed c.args.input.now) (g.S.Source.feed c.reads.input) (g.S.Source.feed c.read_more.new.input)
    (g.S.Source.faults c.args.input.now) (g.S.Source.faults c.reads.input) (g.S.Source.faults c.read_more.new.input)
    c.reads.text.items c.reads.invariant.moved within c.reads.invariant.calm c.in_err-read_more.ensures.stopped)
