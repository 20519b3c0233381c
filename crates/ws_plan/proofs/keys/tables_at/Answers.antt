use Rattle.std.proofs.Common.{List, Ok, sym, ap, ◌∙◌}
use Rattle.toml.proofs.Views.{table_get}
use Rattle.toml.specs.View.{view, items_view}
use Rattle.toml.specs.declared.value.Value.{Value}
use Rattle.ws_plan.specs.Keys.{as_tables, are_tables}
use Rattle.ws_plan.proofs.Found.{is_array, other_array, no_array}
use Rattle.ws_plan.proofs.keys.tables_at.Goals as goal

pub returns-in-None : goal.returns-in-None
returns-in-None c =
    let found = table_get c.get.result c.args.key.now c.args.table.now.entries c.get.ensures.value in
    ap as_tables (sym (rw c.in-None.is at found))

pub returns-then-are_tables : goal.returns-then-are_tables
returns-then-are_tables c =
    let found = table_get c.get.result c.args.key.now c.args.table.now.entries c.get.ensures.value in
    ap as_tables (sym (rw c.in-Some.is at found))
    ∙ is_array (view c.in-Some.value.now) (items_view c.in-Some-as_array.values.now.items) c.in-Some-as_array.ensures
    (ap (λ (vs : List Value). are_tables (items_view vs)) (sym c.deref.ensures.value) ∙ sym c.are_tables.ensures ∙ c.if-are_tables.true)
    ∙ ap (λ (vs : List Value). Ok (items_view vs)) (sym c.as_slice.ensures.value)

pub returns-else-are_tables : goal.returns-else-are_tables
returns-else-are_tables c =
    let found = table_get c.get.result c.args.key.now c.args.table.now.entries c.get.ensures.value in
    ap as_tables (sym (rw c.in-Some.is at found))
    ∙ other_array (view c.in-Some.value.now) (items_view c.in-Some-as_array.values.now.items) c.in-Some-as_array.ensures
    (ap (λ (vs : List Value). are_tables (items_view vs)) (sym c.deref.ensures.value) ∙ sym c.are_tables.ensures ∙ c.if-are_tables.false)

pub returns-in-None-as_array : goal.returns-in-None-as_array
returns-in-None-as_array c =
    let found = table_get c.get.result c.args.key.now c.args.table.now.entries c.get.ensures.value in
    ap as_tables (sym (rw c.in-Some.is at found)) ∙ no_array (view c.in-Some.value.now) c.in-None-as_array.ensures
