use Rattle.std.proofs.Common.{◌≡◌, ◌+◌, ◌<◌, ◌==◌, length, get_or, rules, arith, sym, ap, ◌∙◌}
use borrow.Author.Tests.{tests}
use Rattle.std.proofs.lemmas.Result.{err_from_is_err_and}
use Rattle.std.proofs.lemmas.List.{length_push}
use Rattle.std.proofs.lemmas.Iterator.Consumers.{YieldsList-turn, YieldsList-end}
use Rattle.std.proofs.lemmas.Iterator.Splits.{YieldsList-from_slice_split}
use Rattle.ws_grammar.specs.Words.{lines_of}
use Rattle.ws_grammar.specs.Lines.{added_by}
use Rattle.ws_grammar.proofs.LineLemmas.{with_front, front_before, left_at, refusal_at, all_read}
use Rattle.ws_grammar.proofs.script.read_lines.Goals as goal

pub loop-line-preserved : goal.loop-line-preserved
loop-line-preserved c =
    let texts = lines_of c.args.text.now in
    let n = c.loop-line.number in
    let turn = YieldsList-turn (YieldsList-from_slice_split _ (λ byte. byte == 10) c.args.text.now (cc) (cc) (cc) (λ x b q k. search (rules, tests))) c.loop-line.yielded _ c.loop-line.yielded_by _ _ c.in-Some.line c.in-Some.is c.next.ensures.steps in
    let count : n ≡ length c.loop-line.yielded = c.loop-line.invariant.0 in
    let within : n < length texts = omega (arith, turn.0) in
    let item : c.in-Some.line.now ≡ get_or texts n c.in-Some.line.now = rw count turn.1 in (
      omega (arith, length_push c.loop-line.yielded c.in-Some.line),
      sym (front_before _ _ (n + 1) (added_by (n + 1) c.in-Some.line.now) _ c.in_ok-add_line.ensures.added) ∙ ap (with_front c.loop-line.found.items) (sym (left_at texts n _ within item)) ∙ c.loop-line.invariant.1,
    )

pub returns-in_err-add_line-clause-refused : goal.returns-in_err-add_line-clause-refused
returns-in_err-add_line-clause-refused c =
    let texts = lines_of c.args.text.now in
    let n = c.loop-line.number in
    let turn = YieldsList-turn (YieldsList-from_slice_split _ (λ byte. byte == 10) c.args.text.now (cc) (cc) (cc) (λ x b q k. search (rules, tests))) c.loop-line.yielded _ c.loop-line.yielded_by _ _ c.in-Some.line c.in-Some.is c.next.ensures.steps in
    let count : n ≡ length c.loop-line.yielded = c.loop-line.invariant.0 in
    let within : n < length texts = omega (arith, turn.0) in
    let item : c.in-Some.line.now ≡ get_or texts n c.in-Some.line.now = rw count turn.1 in
    let p = err_from_is_err_and c.from_residual.result c.from_residual.ensures.1 in
    rw (p.1, p.2) (refusal_at _ c.loop-line.found.items (n + 1) (added_by (n + 1) c.in-Some.line.now) _ _ c.in_err-add_line.ensures.refused (ap (with_front c.loop-line.found.items) (sym (left_at texts n _ within item)) ∙ c.loop-line.invariant.1))

pub returns-clause-read : goal.returns-clause-read
returns-clause-read c =
    let end = YieldsList-end (YieldsList-from_slice_split _ (λ byte. byte == 10) c.args.text.now (cc) (cc) (cc) (λ x b q k. search (rules, tests))) c.loop-line.yielded _ c.loop-line.yielded_by _ _ c.in-None.is c.next.ensures.steps in
    all_read c.loop-line.found.items (lines_of c.args.text.now) c.loop-line.number _ (omega (arith, end.1)) c.loop-line.invariant.1
