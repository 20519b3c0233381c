use Rattle.std.proofs.Common.{length, nat_lt, rules}
use borrow.Author.Tests.{tests}
use Rattle.std.proofs.lemmas.Iterator.Consumers.{YieldsList-from_filter, map_from_collect}
use Rattle.std.proofs.lemmas.Iterator.Splits.{YieldsList-from_slice_split}
use Rattle.std.specs.Str.Lines.{strip_carriage_return}
use Rattle.ws_grammar.specs.Words.{is_blank}
use Rattle.ws_grammar.proofs.words.words_of.Goals as goal

pub returns : goal.returns
returns c =
    map_from_collect _ c.collect.ensures.ran (YieldsList-from_filter _ (λ word. nat_lt 0 (length word)) (YieldsList-from_slice_split _ is_blank (strip_carriage_return c.args.line.now) (cc) (cc) (cc) (λ x b q k. search (rules, tests))) c.filter.ensures.closure (λ x b q k. search (rules, tests)))
