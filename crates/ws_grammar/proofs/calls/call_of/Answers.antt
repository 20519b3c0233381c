use Rattle.std.proofs.Common.{◌∙◌, []}
use Rattle.ws_grammar.proofs.CallLemmas.{call_of_many}
use Rattle.ws_grammar.proofs.calls.call_of.Goals as goal

pub returns-in-len6-up : goal.returns-in-len6-up
returns-in-len6-up c =
    c.call_on_more.ensures ∙ call_of_many c.args.words.now (record { ref_ptr = (0, 0); now = [] }) c.in-len6-up.len_at_least
