use Rattle.std.proofs.Common.{◌≡◌, ◌+◌, length, drop}
use Rattle.ws_grammar.specs.Words.{lines_of}
use Rattle.ws_grammar.specs.Lines.{lines, lines_from}
use Rattle.ws_grammar.proofs.LineLemmas.{with_front}
use Rattle.ws_grammar.proofs.script.read_lines.Given as goal

abbrev pub invariant-loop-line : goal.invariant-loop-line
invariant-loop-line l =
    (l.number ≡ length l.yielded) × (with_front l.found.items (lines_from (l.number + 1) (drop l.number (lines_of l.text))) ≡ lines l.text)
