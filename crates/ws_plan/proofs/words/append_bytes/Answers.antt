use Rattle.std.proofs.Common.{◌++◌, ap, ◌∙◌, append_assoc}
use Rattle.ws_plan.proofs.words.append_bytes.Goals as goal

pub returns : goal.returns
returns c =
    let out = c.args.out.now.items in
    let digits = c.as_slice.result.now in
    c.in_ok-append-2.ensures ∙ ap (λ q. q ++ digits) c.in_ok-append.ensures ∙ append_assoc out c.args.words.now digits
    ∙ ap (λ q. out ++ (c.args.words.now ++ q)) (c.as_slice.ensures.value ∙ ap (λ v. v.items) c.into_bytes-digits.ensures.value ∙ c.in_ok-encode.ensures)
