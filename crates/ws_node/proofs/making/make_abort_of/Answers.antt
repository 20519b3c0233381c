use Rattle.std.proofs.Common.{◌≡◌, sym, ap, ◌∙◌, nat_abs, rules, to_z, of_z, w64}
use Rattle.ws_node.specs.Opening.{abort_of}
use Rattle.ws_node.proofs.MakingNodes.{abort-is}
use Rattle.ws_node.proofs.making.make_abort_of.Goals as goal

pub returns-in_ok-make_abort-in-Some-clause-abort : goal.returns-in_ok-make_abort-in-Some-clause-abort
returns-in_ok-make_abort-in-Some-clause-abort c =
    let range : to_z w64 (of_z w64 c.in-Some.after) ≡ c.in-Some.after = search rules in
    abort-is c.args.realm.now.slots c.in_ok-make_abort-in-Some.field-0 c.unsigned_abs.result c.in-Some.after c.requires c.in_ok-make_abort-in-Some.ensures.signal
    c.in_ok-make_abort-in-Some.ensures.left (c.unsigned_abs.ensures.value ∙ ap nat_abs range)
    ∙ ap abort_of (sym c.in-Some.is)
