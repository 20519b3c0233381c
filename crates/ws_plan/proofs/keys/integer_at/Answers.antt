use Rattle.std.proofs.Common.{sym, ap, ◌∙◌}
use Rattle.toml.proofs.Views.{table_get}
use Rattle.toml.specs.View.{view}
use Rattle.ws_plan.specs.Keys.{as_integer}
use Rattle.ws_plan.proofs.Found.{is_integer, no_integer}
use Rattle.ws_plan.proofs.keys.integer_at.Goals as goal

pub returns-in-None : goal.returns-in-None
returns-in-None c =
    let found = table_get c.get.result c.args.key.now c.args.table.now.entries c.get.ensures.value in
    ap as_integer (sym (rw c.in-None.is at found))

pub returns-else-is_some : goal.returns-else-is_some
returns-else-is_some c =
    let found = table_get c.get.result c.args.key.now c.args.table.now.entries c.get.ensures.value in
    ap as_integer (sym (rw c.in-Some.is at found))
    ∙ no_integer (view c.in-Some.value.now) c.as_integer-found.result c.as_integer-found.ensures (sym c.is_some.ensures ∙ c.if-is_some.false)

pub returns-then-is_some : goal.returns-then-is_some
returns-then-is_some c =
    let found = table_get c.get.result c.args.key.now c.args.table.now.entries c.get.ensures.value in
    ap as_integer (sym (rw c.in-Some.is at found))
    ∙ is_integer (view c.in-Some.value.now) c.as_integer-found.result c.as_integer-found.ensures (sym c.is_some.ensures ∙ c.if-is_some.true)
