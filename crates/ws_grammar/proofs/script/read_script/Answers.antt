use Rattle.std.proofs.lemmas.Result.{IfOk-weaker}
use Rattle.ws_grammar.proofs.FewLines.{lines-few}
use Rattle.ws_grammar.proofs.script.read_script.Goals as goal

pub returns-clause-few : goal.returns-clause-few
returns-clause-few c = IfOk-weaker c.read_lines.result _ _ (λ found read. lines-few c.args.text.now found.items read) c.read_lines.ensures.read
