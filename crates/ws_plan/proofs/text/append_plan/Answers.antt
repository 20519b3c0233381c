use Rattle.std.proofs.Common.{◌≡◌, ◌++◌, List, ℕ, ap, ◌∙◌, codes, append_assoc, rules}
use Rattle.ws_plan.specs.PlanText.{abort_text}
use Rattle.ws_plan.specs.Stages.{numbered}
use Rattle.ws_plan.proofs.text.append_plan.Goals as goal

-- four pieces, one after another
four_on : (o p m x e o1 o2 o3 o4 : List ℕ) → o1 ≡ o ++ p → o2 ≡ o1 ++ m → o3 ≡ o2 ++ x → o4 ≡ o3 ++ e → o4 ≡ o ++ (((p ++ m) ++ x) ++ e)
four_on o p m x e o1 o2 o3 o4 a b c d =
    d ∙ ap (λ q. q ++ e) (c ∙ ap (λ q. q ++ x) (b ∙ ap (λ q. q ++ m) a ∙ append_assoc o p m) ∙ append_assoc o (p ++ m) x) ∙ append_assoc o ((p ++ m) ++ x) e

pub returns : goal.returns
returns c =
    let out = c.args.out.now.items in
    let plan = c.args.plan.now in
    let first : c.append_signed.new.out.items ≡ out ++ numbered (codes "plan 1 workers ") plan.workers = search (rules, c.in_ok-append_signed.ensures) in
    let second : c.append_signed-2.new.out.items ≡ c.append_signed.new.out.items ++ numbered (codes " max_input ") plan.max_input = search (rules, c.in_ok-append_signed-2.ensures) in
    four_on out (numbered (codes "plan 1 workers ") plan.workers) (numbered (codes " max_input ") plan.max_input) (abort_text plan.abort_after) (codes "\n")
    c.append_signed.new.out.items c.append_signed-2.new.out.items c.append_abort.new.out.items c.append.new.out.items
    first second c.in_ok-append_abort.ensures c.in_ok-append.ensures
