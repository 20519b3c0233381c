use Rattle.std.proofs.Common.{ℕ, List, ◌++◌}
use Rattle.std.specs.Prelude.{codes}
use Rattle.ws_io.specs.Notes.{numbered}
use Rattle.ws_io.proofs.Written.{WroteFirst-then, WroteFirst-stop}
use Rattle.ws_io.proofs.status.write_stage.Goals as goal

-- the text from the place on, and from the code on
abbrev from_place : ℕ → List ℕ
from_place place = numbered (codes " place ") place ++ codes "\n"

abbrev from_code : ℕ → ℕ → List ℕ
from_code code place = numbered (codes " code ") code ++ from_place place

pub returns-in_err-write_number-clause-bytes : goal.returns-in_err-write_number-clause-bytes
returns-in_err-write_number-clause-bytes g c =
    WroteFirst-stop (g.E.Sink.got c.args.notes.now) (g.E.Sink.got c.write_number.new.notes) (numbered (codes "stage ") c.args.index) (from_code c.args.code c.args.place)
    c.write_number.result c.from_residual.result c.from_residual.ensures.0 c.write_number.ensures.bytes

pub returns-in_err-write_number-2-clause-bytes : goal.returns-in_err-write_number-2-clause-bytes
returns-in_err-write_number-2-clause-bytes g c =
    let p = g.E.Sink.got c.args.notes.now in
    let q = g.E.Sink.got c.write_number.new.notes in
    let r = g.E.Sink.got c.write_number-2.new.notes in
    let answer = c.from_residual-in_err-write_number-2.result in
    WroteFirst-then p q r (numbered (codes "stage ") c.args.index) (from_code c.args.code c.args.place) answer c.in_ok-write_number.ensures.bytes
    (WroteFirst-stop q r (numbered (codes " code ") c.args.code) (from_place c.args.place) c.write_number-2.result answer c.from_residual-in_err-write_number-2.ensures.0 c.write_number-2.ensures.bytes)

pub returns-clause-bytes : goal.returns-clause-bytes
returns-clause-bytes g c =
    let p = g.E.Sink.got c.args.notes.now in
    let q = g.E.Sink.got c.write_number.new.notes in
    let r = g.E.Sink.got c.write_number-2.new.notes in
    let s = g.E.Sink.got c.write_line.new.notes in
    WroteFirst-then p q s (numbered (codes "stage ") c.args.index) (from_code c.args.code c.args.place) c.write_line.result c.in_ok-write_number.ensures.bytes
    (WroteFirst-then q r s (numbered (codes " code ") c.args.code) (from_place c.args.place) c.write_line.result c.in_ok-write_number-2.ensures.bytes c.write_line.ensures.bytes)
