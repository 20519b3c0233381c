use Rattle.std.proofs.Common.{List, ℕ, Option, Result, sym, ap, ◌∙◌}
use Rattle.std.specs.Prelude.{ok_or}
use Rattle.toml.proofs.Views.{table_get}
use Rattle.toml.specs.View.{view}
use Rattle.ws_flow.specs.declared.refusal.Refusal.{Refusal}
use Rattle.ws_flow.specs.declared.refusal.Refusal.TheVariants.{WrongKey}
use Rattle.ws_plan.specs.Keys.{as_text, ◌>>=◌}
use Rattle.ws_plan.proofs.Found.{is_text, no_text}
use Rattle.ws_plan.proofs.keys.some_text.Goals as goal

pub returns-in-None : goal.returns-in-None
returns-in-None c =
    let found = table_get c.get.result c.args.key.now c.args.table.now.entries c.get.ensures.value in
    ap (λ o. as_text o >>= λ t. ok_or t WrongKey) (sym (rw c.in-None.is at found))

pub returns-in-Some-as_str : goal.returns-in-Some-as_str
returns-in-Some-as_str c =
    let found = table_get c.get.result c.args.key.now c.args.table.now.entries c.get.ensures.value in
    ap (λ o. as_text o >>= λ t. ok_or t WrongKey) (sym (rw c.in-Some.is at found)) ∙ ap (λ (r : Result (Option (List ℕ)) Refusal). r >>= λ t. ok_or t WrongKey) (is_text (view c.in-Some.value.now) c.in-Some-as_str.text.now c.in-Some-as_str.ensures)

pub returns-in-None-as_str : goal.returns-in-None-as_str
returns-in-None-as_str c =
    let found = table_get c.get.result c.args.key.now c.args.table.now.entries c.get.ensures.value in
    ap (λ o. as_text o >>= λ t. ok_or t WrongKey) (sym (rw c.in-Some.is at found)) ∙ ap (λ (r : Result (Option (List ℕ)) Refusal). r >>= λ t. ok_or t WrongKey) (no_text (view c.in-Some.value.now) c.in-None-as_str.ensures)
