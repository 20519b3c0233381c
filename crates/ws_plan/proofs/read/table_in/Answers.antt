use Rattle.std.proofs.Common.{sym, ◌∙◌}
use Rattle.std.proofs.lemmas.Bool.{true≢false}
use Rattle.std.proofs.lemmas.Str.{is_utf8-from_IsUtf8, IsUtf8-from_is_utf8}
use Rattle.std.specs.Str.{is_utf8}
use Rattle.toml.specs.Parse.{parse_document}
use Rattle.toml.specs.View.{table_view}
use Rattle.ws_plan.proofs.Found.{table_found, table_lacking}
use Rattle.ws_plan.proofs.read.table_in.Goals as goal

pub returns-in-Ok : goal.returns-in-Ok
returns-in-Ok c =
    let text = c.args.text.now in
    table_found (is_utf8 text) (parse_document text) (table_view c.in-Ok.table) (is_utf8-from_IsUtf8 text c.in-Ok.ensures.ok.0) c.in-Ok.ensures.ok.1

pub returns-else-is_memory : goal.returns-else-is_memory
returns-else-is_memory c =
    let text = c.args.text.now in
    table_lacking (is_utf8 text) (parse_document text)
    (λ u. c.in-Err.ensures.refused (λ m. true≢false (sym (c.is_memory.ensures.1 m) ∙ c.if-is_memory.false)) (IsUtf8-from_is_utf8 text u))
