use Rattle.std.proofs.Common.{◌≡◌, ◌%◌, length, drop, ap, ◌∙◌, arith}
use Rattle.std.proofs.lemmas.List.{take_at}
use Rattle.ws_flow.proofs.EachKind.{mask_texts}
use Rattle.ws_lanes.specs.Kernels.{masked as kernel}
use Rattle.ws_stages.proofs.Kernels.{kernel_masks}
use Rattle.ws_stages.proofs.Pushes.{texts_push}
use Rattle.ws_stages.proofs.text.masked.Goals as goal

pub returns : goal.returns
returns c =
    let cut = c.args.cut.now in
    let key = c.args.key.now in
    let bs = c.args.bytes.now in
    let v = c.in_ok-text.text in
    let new = c.mask.new.block in
    let len : length new ≡ v.len = omega arith in
    let text =
    c.from_vec.ensures ∙ take_at new (drop (length new) v.items) v.len len ∙ c.mask.ensures
    ∙ ap (λ q. kernel key (cut.bytes % length key) q) (c.as_mut_slice.ensures.value ∙ c.in_ok-text.ensures.items) ∙ kernel_masks key cut.bytes bs in
    texts_push (mask_texts key) cut bs c.from_vec.result c.requires.room text
