use Rattle.std.proofs.Common.{ℕ, List, ◌++◌}
use Rattle.std.specs.Prelude.{codes}
use Rattle.ws_io.specs.Notes.{numbered}
use Rattle.ws_io.proofs.Written.{WroteFirst-then, WroteFirst-stop}
use Rattle.ws_cli.proofs.generation.write_summary.Goals as goal

-- the text from each count on
abbrev from_sum : ℕ → List ℕ
from_sum total = numbered (codes " sum ") total ++ codes "\n"

abbrev from_newlines : ℕ → ℕ → List ℕ
from_newlines newlines total = numbered (codes " newlines ") newlines ++ from_sum total

abbrev from_out : ℕ → ℕ → ℕ → List ℕ
from_out bytes newlines total = numbered (codes " out ") bytes ++ from_newlines newlines total

pub returns-in_err-write_number-clause-bytes : goal.returns-in_err-write_number-clause-bytes
returns-in_err-write_number-clause-bytes g c =
    let n = c.args.counts.now in
    WroteFirst-stop (g.K.Sink.got c.args.output.now) (g.K.Sink.got c.write_number.new.output) (numbered (codes "in ") c.args.count) (from_out n.bytes n.newlines n.sum)
    c.write_number.result c.from_residual.result c.from_residual.ensures.0 c.write_number.ensures.first

pub returns-in_err-write_number-2-clause-bytes : goal.returns-in_err-write_number-2-clause-bytes
returns-in_err-write_number-2-clause-bytes g c =
    let n = c.args.counts.now in
    let p = g.K.Sink.got c.args.output.now in
    let q = g.K.Sink.got c.write_number.new.output in
    let r = g.K.Sink.got c.write_number-2.new.output in
    let answer = c.from_residual-in_err-write_number-2.result in
    WroteFirst-then p q r (numbered (codes "in ") c.args.count) (from_out n.bytes n.newlines n.sum) answer c.in_ok-write_number.ensures.first
    (WroteFirst-stop q r (numbered (codes " out ") n.bytes) (from_newlines n.newlines n.sum) c.write_number-2.result answer c.from_residual-in_err-write_number-2.ensures.0 c.write_number-2.ensures.first)

pub returns-in_err-write_number-3-clause-bytes : goal.returns-in_err-write_number-3-clause-bytes
returns-in_err-write_number-3-clause-bytes g c =
    let n = c.args.counts.now in
    let p = g.K.Sink.got c.args.output.now in
    let q = g.K.Sink.got c.write_number.new.output in
    let r = g.K.Sink.got c.write_number-2.new.output in
    let s = g.K.Sink.got c.write_number-3.new.output in
    let answer = c.from_residual-in_err-write_number-3.result in
    WroteFirst-then p q s (numbered (codes "in ") c.args.count) (from_out n.bytes n.newlines n.sum) answer c.in_ok-write_number.ensures.first
    (WroteFirst-then q r s (numbered (codes " out ") n.bytes) (from_newlines n.newlines n.sum) answer c.in_ok-write_number-2.ensures.first
    (WroteFirst-stop r s (numbered (codes " newlines ") n.newlines) (from_sum n.sum) c.write_number-3.result answer c.from_residual-in_err-write_number-3.ensures.0 c.write_number-3.ensures.first))

pub returns-in_err-write_number-4-clause-bytes : goal.returns-in_err-write_number-4-clause-bytes
returns-in_err-write_number-4-clause-bytes g c =
    let n = c.args.counts.now in
    let p = g.K.Sink.got c.args.output.now in
    let q = g.K.Sink.got c.write_number.new.output in
    let r = g.K.Sink.got c.write_number-2.new.output in
    let s = g.K.Sink.got c.write_number-3.new.output in
    let t = g.K.Sink.got c.write_number-4.new.output in
    let answer = c.from_residual-in_err-write_number-4.result in
    WroteFirst-then p q t (numbered (codes "in ") c.args.count) (from_out n.bytes n.newlines n.sum) answer c.in_ok-write_number.ensures.first
    (WroteFirst-then q r t (numbered (codes " out ") n.bytes) (from_newlines n.newlines n.sum) answer c.in_ok-write_number-2.ensures.first
    (WroteFirst-then r s t (numbered (codes " newlines ") n.newlines) (from_sum n.sum) answer c.in_ok-write_number-3.ensures.first
    (WroteFirst-stop s t (numbered (codes " sum ") n.sum) (codes "\n") c.write_number-4.result answer c.from_residual-in_err-write_number-4.ensures.0 c.write_number-4.ensures.first)))

pub returns-clause-bytes : goal.returns-clause-bytes
returns-clause-bytes g c =
    let n = c.args.counts.now in
    let p = g.K.Sink.got c.args.output.now in
    let q = g.K.Sink.got c.write_number.new.output in
    let r = g.K.Sink.got c.write_number-2.new.output in
    let s = g.K.Sink.got c.write_number-3.new.output in
    let t = g.K.Sink.got c.write_number-4.new.output in
    let u = g.K.Sink.got c.write_whole.new.output in
    let answer = c.write_whole.result in
    WroteFirst-then p q u (numbered (codes "in ") c.args.count) (from_out n.bytes n.newlines n.sum) answer c.in_ok-write_number.ensures.first
    (WroteFirst-then q r u (numbered (codes " out ") n.bytes) (from_newlines n.newlines n.sum) answer c.in_ok-write_number-2.ensures.first
    (WroteFirst-then r s u (numbered (codes " newlines ") n.newlines) (from_sum n.sum) answer c.in_ok-write_number-3.ensures.first
    (WroteFirst-then s t u (numbered (codes " sum ") n.sum) (codes "\n") answer c.in_ok-write_number-4.ensures.first c.write_whole.ensures.bytes)))
