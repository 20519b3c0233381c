use Rattle.std.proofs.Common.{◌≡◌, length, drop, ◌∙◌, arith}
use Rattle.std.proofs.lemmas.List.{take_at}
use Rattle.ws_flow.proofs.EachKind.{hex_texts}
use Rattle.ws_stages.proofs.Pushes.{texts_push}
use Rattle.ws_stages.proofs.text.in_hex.Goals as goal

pub returns : goal.returns
returns c =
    let v = c.in_ok-text.text in
    let new = c.put_hex.new.text in
    let len : length new ≡ v.len = omega arith in
    let text = c.from_vec.ensures ∙ take_at new (drop (length new) v.items) v.len len ∙ c.put_hex.ensures in
    texts_push hex_texts c.args.cut.now c.args.bytes.now c.from_vec.result c.requires.room text
