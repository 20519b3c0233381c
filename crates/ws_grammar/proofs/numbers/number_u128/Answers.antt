use Rattle.std.proofs.Common.{◌≡◌, true, ◌∙◌}
use Rattle.ws_grammar.specs.Numbers.{is_decimal}
use Rattle.ws_grammar.proofs.NumberLemmas.{text_from_decimal, parse_is}
use Rattle.ws_grammar.proofs.numbers.number_u128.Goals as goal

pub returns-in_default : goal.returns-in_default
returns-in_default c =
    let decimal : is_decimal c.args.word.now ≡ true = cc in
    absurd (c.in_default.ensures.cases.0 (text_from_decimal c.args.word.now decimal))

pub returns : goal.returns
returns c =
    let decimal : is_decimal c.args.word.now ≡ true = cc in
    let same : c.in-Ok.text.now ≡ c.args.word.now = c.in-Ok.ensures.cases.0 in
    c.ok.ensures.value ∙ parse_is c.args.word.now c.parse.result decimal (rw same at c.parse.ensures.value.0)
